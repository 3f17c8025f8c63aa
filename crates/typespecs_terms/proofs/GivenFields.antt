-- The terms that are given for the fields of a record.
use Rattle.std.proofs.Common.{◌≡◌, refl, ap, ◌∙◌, Bool, true, false, cond, List, [], ◌∷◌, ◌++◌, map, Option, Some, None}
use Rattle.type_terms.specs.Keys.{Name, same_name}
use Rattle.type_terms.specs.declared.term.Term.{Term}
use Rattle.typespecs_rules.specs.TypeTerms.{given_or}
use Rattle.typespecs_terms.specs.Parts.{given_for, or_own}

-- the first term of a field among some, or else what there is
abbrev pub given_onto : List (Name × Term) → Name → Option Term → Option Term
given_onto [] x other = other
given_onto (g ∷ given) x other = cond (same_name g.0 x) (Some g.1) (given_onto given x other)

pub onto-last : (given : List (Name × Term)) (name : Name) (t : Term) (x : Name) (other : Option Term) → given_onto (given ++ (name, t) ∷ []) x other ≡ given_onto given x (cond (same_name name x) (Some t) other)
onto-last [] name t x other = refl
onto-last (g ∷ given) name t x other = ap (cond (same_name g.0 x) (Some g.1)) (onto-last given name t x other)

pub onto-none : (given : List (Name × Term)) (x : Name) → given_onto given x None ≡ given_for given x
onto-none [] x = refl
onto-none (g ∷ given) x = ap (cond (same_name g.0 x) (Some g.1)) (onto-none given x)

pub given-or : (given : List (Name × Term)) (x : Name) (own : Term) → or_own (given_for given x) own ≡ given_or given x own
given-or [] x own = refl
given-or (g ∷ given) x own = go (same_name g.0 x) (given-or given x own)
  where
    go : (b : Bool) → or_own (given_for given x) own ≡ given_or given x own → or_own (cond b (Some g.1) (given_for given x)) own ≡ cond b g.1 (given_or given x own)
    go true e = refl
    go false e = e

-- the terms of fields, of which some are given
abbrev pub field_terms : (Name → Option Term) → List (Name × Term) → List Term
field_terms given fields = map (λ (f : Name × Term). or_own (given f.0) f.1) fields

pub terms-given : (given : Name → Option Term) (fields given_fields : List (Name × Term)) → ((x : Name) → given x ≡ given_for given_fields x) → field_terms given fields ≡ map (λ (f : Name × Term). f.1) (map (λ (f : Name × Term). (f.0, given_or given_fields f.0 f.1)) fields)
terms-given given [] given_fields same = refl
terms-given given (f ∷ fields) given_fields same = λ i. (ap (λ o. or_own o f.1) (same f.0) ∙ given-or given_fields f.0 f.1) i ∷ terms-given given fields given_fields same i
