use Rattle.std.proofs.Common.{◌∙◌, ap}
use Rattle.std.specs.Prelude.{Option}
use Rattle.std.specs.Option.{unwrap_or}
use Rattle.std.proofs.lemmas.Option.{unwrap_or-slice_get}
use Rattle.type_terms.specs.declared.term.Term.{Term, Any}
use Rattle.type_terms.proofs.replacement.entry.Goals as goal

pub returns-in-None : goal.returns-in-None
returns-in-None c = ap (λ (o : Option Term). unwrap_or o Any) c.in-None.ensures.value ∙ unwrap_or-slice_get c.args.by.now c.args.number Any
