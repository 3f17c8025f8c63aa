-- The parts of a map type's term, which are made from the last entry to the first.
use Rattle.std.proofs.Common.{◌≡◌, refl, sym, ap, ◌∙◌, List, [], ◌∷◌, ◌++◌, map, reverse, cond, Option, None}
use Rattle.std.proofs.lemmas.List.{map-append, reverse-append}
use Rattle.type_terms.specs.Keys.{key_lt}
use Rattle.type_terms.specs.declared.term.Term.{Term, Map}
use Rattle.type_terms.specs.declared.term.Field.{Field}
use Rattle.typespecs_fields.specs.FieldOrder.{placed, in_order}
use Rattle.typespecs_rules.specs.TypeTerms.{MapEntry, inserted, with_field, fields_among, rest_for_integers, integer_rest, rest_for_atoms, atom_rest, map_term}
use Rattle.typespecs_terms.specs.declared.maps.Entry.{Entry}
use Rattle.typespecs_terms.specs.declared.maps.EntryKey.{EntryKey}
use Rattle.typespecs_terms.specs.declared.maps.EntryKey.TheVariants as K
use Rattle.typespecs_terms.specs.declared.maps.Parts.{Parts}
use Rattle.typespecs_terms.specs.Entries.{key_as, entry_as, with_key, IsTaken}

placed-inserted : (f : Field) (fs : List Field) → placed f fs ≡ inserted f fs
placed-inserted f [] = refl
placed-inserted f (g ∷ fs) = ap (λ more. cond (key_lt f.key g.key) (f ∷ g ∷ fs) (g ∷ more)) (placed-inserted f fs)

-- the parts of some entries' term in front of those of others
abbrev pub fields_onto : List MapEntry → List Field → List Field
fields_onto [] fields = fields
fields_onto (e ∷ es) fields = with_field e.key e.required e.value (fields_onto es fields)

abbrev pub ints_onto : List MapEntry → Option Term → Option Term
ints_onto [] rest = rest
ints_onto (e ∷ es) rest = rest_for_integers e.key e.value (ints_onto es rest)

abbrev pub atoms_onto : List MapEntry → Option Term → Option Term
atoms_onto [] rest = rest
atoms_onto (e ∷ es) rest = rest_for_atoms e.key e.value (atoms_onto es rest)

fields-last : (es : List MapEntry) (e : MapEntry) (fields : List Field) → fields_onto (es ++ e ∷ []) fields ≡ fields_onto es (with_field e.key e.required e.value fields)
fields-last [] e fields = refl
fields-last (d ∷ es) e fields = ap (with_field d.key d.required d.value) (fields-last es e fields)

ints-last : (es : List MapEntry) (e : MapEntry) (rest : Option Term) → ints_onto (es ++ e ∷ []) rest ≡ ints_onto es (rest_for_integers e.key e.value rest)
ints-last [] e rest = refl
ints-last (d ∷ es) e rest = ap (rest_for_integers d.key d.value) (ints-last es e rest)

atoms-last : (es : List MapEntry) (e : MapEntry) (rest : Option Term) → atoms_onto (es ++ e ∷ []) rest ≡ atoms_onto es (rest_for_atoms e.key e.value rest)
atoms-last [] e rest = refl
atoms-last (d ∷ es) e rest = ap (rest_for_atoms d.key d.value) (atoms-last es e rest)

fields-all : (es : List MapEntry) → fields_onto es [] ≡ fields_among es
fields-all [] = refl
fields-all (e ∷ es) = ap (with_field e.key e.required e.value) (fields-all es)

ints-all : (es : List MapEntry) → ints_onto es None ≡ integer_rest es
ints-all [] = refl
ints-all (e ∷ es) = ap (rest_for_integers e.key e.value) (ints-all es)

atoms-all : (es : List MapEntry) → atoms_onto es None ≡ atom_rest es
atoms-all [] = refl
atoms-all (e ∷ es) = ap (rest_for_atoms e.key e.value) (atoms-all es)

-- the entries that are left, the parts so far, and all entries
pub record IsRead (left : List Entry) (parts : Parts) (all : List Entry) : Type 0 where
  pub fields : fields_onto (map entry_as left) (in_order (reverse parts.fields.items)) ≡ fields_among (map entry_as all)
  pub ints : ints_onto (map entry_as left) parts.rest_int ≡ integer_rest (map entry_as all)
  pub atoms : atoms_onto (map entry_as left) parts.rest_atom ≡ atom_rest (map entry_as all)

pub IsRead-start : (all : List Entry) (parts : Parts) → parts.fields.items ≡ [] → parts.rest_int ≡ None → parts.rest_atom ≡ None → IsRead all parts all
IsRead-start all parts f i a = record {
  fields = ap (λ fs. fields_onto (map entry_as all) (in_order (reverse fs))) f ∙ fields-all (map entry_as all);
  ints = ap (ints_onto (map entry_as all)) i ∙ ints-all (map entry_as all);
  atoms = ap (atoms_onto (map entry_as all)) a ∙ atoms-all (map entry_as all);
}

-- a field more, from the last to the first
field-more : (k : EntryKey) (e : Entry) (fields : List Field) → in_order (reverse (with_key k e fields)) ≡ with_field (key_as k) e.required e.value (in_order (reverse fields))
field-more (K.This k) e fields = ap in_order (reverse-append fields (f ∷ [])) ∙ placed-inserted f (in_order (reverse fields))
  where
    f : Field
    f = record { key = k; required = e.required; term = e.value }
field-more K.Integers e fields = refl
field-more K.Atoms e fields = refl
field-more K.NoKey e fields = refl

pub IsRead-more : (before left all : List Entry) (e : Entry) (old new : Parts) → before ≡ left ++ e ∷ [] → IsTaken old e new → IsRead before old all → IsRead left new all
IsRead-more before left all e old new split taken read = record {
  fields = ap (fields_onto (map entry_as left)) (ap (λ fs. in_order (reverse fs)) taken.0 ∙ field-more e.key e old.fields.items) ∙ sym (fields-last (map entry_as left) (entry_as e) _) ∙ ap (λ es. fields_onto es (in_order (reverse old.fields.items))) (sym whole) ∙ read.fields;
  ints = ap (ints_onto (map entry_as left)) taken.1 ∙ sym (ints-last (map entry_as left) (entry_as e) old.rest_int) ∙ ap (λ es. ints_onto es old.rest_int) (sym whole) ∙ read.ints;
  atoms = ap (atoms_onto (map entry_as left)) taken.2 ∙ sym (atoms-last (map entry_as left) (entry_as e) old.rest_atom) ∙ ap (λ es. atoms_onto es old.rest_atom) (sym whole) ∙ read.atoms;
}
  where
    whole : map entry_as before ≡ map entry_as left ++ entry_as e ∷ []
    whole = ap (map entry_as) split ∙ map-append entry_as left (e ∷ [])

pub IsRead-end : (left all : List Entry) (parts : Parts) (fields : List Field) (ints atoms : Option Term) → left ≡ [] → fields ≡ in_order (reverse parts.fields.items) → ints ≡ parts.rest_int → atoms ≡ parts.rest_atom → IsRead left parts all → Map fields ints atoms ≡ map_term (map entry_as all)
IsRead-end left all parts fields ints atoms none f i a read = λ k. Map (f-is k) (i-is k) (a-is k)
  where
    f-is : fields ≡ fields_among (map entry_as all)
    f-is = f ∙ ap (λ es. fields_onto (map entry_as es) (in_order (reverse parts.fields.items))) (sym none) ∙ read.fields

    i-is : ints ≡ integer_rest (map entry_as all)
    i-is = i ∙ ap (λ es. ints_onto (map entry_as es) parts.rest_int) (sym none) ∙ read.ints

    a-is : atoms ≡ atom_rest (map entry_as all)
    a-is = a ∙ ap (λ es. atoms_onto (map entry_as es) parts.rest_atom) (sym none) ∙ read.atoms
