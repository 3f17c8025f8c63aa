use Rattle.std.proofs.Common.{◌≡◌, ◌∙◌, sym, subst}
use Rattle.type_terms.specs.Keys.{Name}
use Rattle.erl_scope_stack.specs.Named.{HasNumber, IsGrown, names_in}
use Rattle.std.proofs.lemmas.Slice.Eq.{bytes_eq-Decides}
use Rattle.erl_scope_stack.proofs.TableLaws.{number-stored, grown-insert}
use Rattle.erl_scope_stack.proofs.names.NumberedNames.add.Goals as goal

pub returns-clause-number : goal.returns-clause-number
returns-clause-number c =
    let k = c.in_ok-number.ensures.stored in
    let same : k.0.items ≡ c.args.name.now = sym ((bytes_eq-Decides c.in_ok-key.key.items k.0.items).0 k.2) ∙ c.in_ok-key.ensures.items ∙ c.as_slice.ensures in
    subst (λ (x : Name). HasNumber (names_in c.insert_full.new.self.keys) x c.in_ok-number.number) same (number-stored c.insert_full.new.self.keys c.in_ok-number.number k.0 k.1)

pub returns-clause-grown : goal.returns-clause-grown
returns-clause-grown c =
    subst (λ old. IsGrown c.args.name.now old (names_in c.insert_full.new.self.keys)) c.self.view_is (grown-insert c.args.name.now c.self.inside.names.keys c.insert_full.new.self.keys c.in_ok-key.key (c.in_ok-key.ensures.items ∙ c.as_slice.ensures) c.in_ok-number.ensures.keys)
