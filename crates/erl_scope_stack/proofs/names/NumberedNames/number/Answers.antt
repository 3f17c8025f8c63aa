use Rattle.std.proofs.Common.{subst}
use Rattle.type_terms.specs.Keys.{Name}
use Rattle.erl_scope_stack.specs.Named.{IsNumber, names_in}
use Rattle.erl_scope_stack.proofs.TableLaws.{IsNumber-found}
use Rattle.erl_scope_stack.proofs.names.NumberedNames.number.Goals as goal

pub returns : goal.returns
returns c =
    rw (← c.self.view_is) (subst (λ (x : Name). IsNumber (names_in c.self.inside.names.keys) x c.get_index_of.result) c.as_slice.ensures (IsNumber-found c.as_slice.result.now c.self.inside.names.keys c.get_index_of.result c.get_index_of.ensures.index c.get_index_of.ensures.found))
