use Rattle.std.proofs.Common.{◌≡◌, ◌∷◌, map, take}
use Rattle.type_terms.specs.Keys.{Name}
use Rattle.type_terms.specs.declared.term.Term.{Term, AtomLit}
use Rattle.typespecs_records.proofs.terms.tuple_term.Given as goal

abbrev pub invariant-fields : goal.invariant-fields
invariant-fields l = l.parts ≡ AtomLit l.tuple.tag ∷ map (λ (f : Name × Term). f.1) (take l.field-index l.tuple.fields)
