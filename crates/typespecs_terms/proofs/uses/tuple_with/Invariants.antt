use Rattle.std.proofs.Common.{◌≡◌, ◌∷◌, take}
use Rattle.type_terms.specs.declared.term.Term.{AtomLit}
use Rattle.typespecs_terms.specs.Tables.{terms_in}
use Rattle.typespecs_terms.proofs.GivenFields.{field_terms}
use Rattle.typespecs_terms.proofs.uses.tuple_with.Given as goal

abbrev pub invariant-loop-field : goal.invariant-loop-field
invariant-loop-field l = l.parts ≡ AtomLit l.tuple.tag ∷ field_terms (terms_in l.given) (take l.field-index l.field-items)
