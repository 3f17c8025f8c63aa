-- The tuples of a record by what specs have of it: the names of its fields, and its definition.
use Rattle.std.specs.Prelude.{◌≡◌, List, ◌∷◌, map, Some, slice_get}
use Rattle.type_terms.specs.Keys.{Name}
use Rattle.type_terms.specs.declared.term.Def.{Def}
use Rattle.type_terms.specs.declared.term.Term.{Term, AtomLit}
use Rattle.typespecs_rules.specs.declared.specs.RecordSpec.{RecordSpec}
use Rattle.typespecs_rules.specs.TypeTerms.{RecordTuple, tuple_term}

-- the names of the fields of tuples
abbrev pub field_names : RecordTuple → List Name
field_names r = map (λ f. f.0) r.fields

-- the terms of their elements: the tag stands in front
abbrev pub element_terms : RecordTuple → List Term
element_terms r = AtomLit r.tag ∷ map (λ f. f.1) r.fields

-- these are those of a record, by its fields' names and its definition
pub record AreTuplesBy (defs : List Def) (spec : RecordSpec) (r : RecordTuple) : Type 0 where
  pub names : field_names r ≡ spec.fields
  pub definition : slice_get defs spec.def ≡ Some (record { params = 0; body = tuple_term r })
