-- A type expression with which nothing is wrong keeps its variables: what stands in the term of one stands in its own term.
use Rattle.std.proofs.Common.{◌≡◌, refl, ap, sym, subst, ◌∙◌, ⊎_elim, ◌⊎◌, inl, inr, ℕ, List, [], ◌∷◌, map, length}
use Rattle.std.specs.Prelude.{Option, Some, None as Nothing, Bool, true, false, not, ◌||◌, cond, codes}
use Rattle.std.specs.Option.{option_map}
use Rattle.std.specs.List.{list_any}
use Rattle.type_terms.specs.Keys.{Name, same_name, key_lt}
use Rattle.type_terms.specs.declared.term.Field.{Field, fold-Field, fold_out-Field}
use Rattle.type_terms.specs.declared.term.Term.{Term, fold-roll-Term, AtomLit, Map, And, Not, Name as NameTerm}
use Rattle.type_terms.specs.declared.term.Term.TheOpen as F
use Rattle.type_terms.specs.declared.term.Term.TheViews as Views
use Rattle.type_terms.proofs.KeyLaws.{name-is, name-refl}
use Rattle.erl_runs.specs.Specs.{and_then}
use Rattle.typespecs_rules.specs.BuiltInTypes.{list_of, nonempty_list_of, list_type, built_in_term, is_built_in_name}
use Rattle.typespecs_rules.specs.Declarations.{Declarations, type_number}
use Rattle.typespecs_rules.specs.TypeTerms.{MapKey, this_key, integer_keys, atom_keys, no_key, MapEntry, inserted, with_field, fields_among, rest_for_integers, integer_rest, rest_for_atoms, atom_rest, map_term, RecordTuple, tuple_term, given_or, with_fields, set_operation, prefixed_term, declared_term, used_term}
use Rattle.typespecs_rules.specs.SpecTerms.{some_true, if_there, holds_layer, holds_variable}
use Rattle.typespecs_rules.specs.TypeFaults.{is_key, same_map_key}
use Rattle.typespecs_rules.proofs.VariableLaws.{holds-Cons, holds-Tuple, holds-And, holds-Not, holds-Name}

-- ---- what is there

pub then-is : {A B : Type 0} (o : Option A) (f : A → Option B) (b : B) → and_then o f ≡ Some b → (a : A) × (o ≡ Some a) × (f a ≡ Some b)
then-is Nothing f b e = absurd (cc)
then-is (Some a) f b e = (a, refl, e)

pub same-some : {A : Type 0} (x y : A) → Some x ≡ Some y → x ≡ y
same-some x y e = cc

pub map-is : {A B : Type 0} (f : A → B) (o : Option A) (b : B) → option_map f o ≡ Some b → (a : A) × (o ≡ Some a) × (f a ≡ b)
map-is f Nothing b e = absurd (cc)
map-is f (Some a) b e = (a, refl, same-some (f a) b e)

pub or-first : (a b : Bool) → a ≡ true → (a || b) ≡ true
or-first true b e = refl
or-first false b e = absurd (cc)

pub or-later : (a b : Bool) → b ≡ true → (a || b) ≡ true
or-later true b e = refl
or-later false b e = e

pub neither : (a b : Bool) → (a || b) ≡ false → (a ≡ false) × (b ≡ false)
neither true b e = absurd (cc)
neither false b e = (refl, e)

pub not-true : (b : Bool) → not b ≡ true → b ≡ false
not-true true e = absurd (cc)
not-true false e = refl

-- names that differ do so both ways
pub other-way : (a b : Name) → same_name a b ≡ false → same_name b a ≡ false
other-way a b e = go (same_name b a) refl
  where
    go : (c : Bool) → same_name b a ≡ c → c ≡ false
    go false q = refl
    go true q = absurd (clash (sym (subst (λ z. same_name z b ≡ true) (name-is b a q) (name-refl b)) ∙ e))
      where
        clash : true ≡ false → ⊥
        clash z = cc

-- ---- map types in terms

module _ (n : ℕ) where
  pub rest-holds : Option Term → Bool
  rest-holds o = if_there (option_map (holds_variable n) o)

  field-holds : Field → Bool
  field-holds f = fold-Field Bool Bool (holds_layer n) (λ field. field.term) f

  field-is : (f : Field) → field-holds f ≡ holds_variable n f.term
  unfolding field-holds holds_variable
  field-is f = fold_out-Field Bool Bool (holds_layer n) (λ field. field.term) f

  abbrev pub fields_hold : List Field → Bool
  fields_hold fs = some_true (map (λ (f : Field). holds_variable n f.term) fs)

  fields-are-held : (fs : List Field) → some_true (map field-holds fs) ≡ fields_hold fs
  fields-are-held [] = refl
  fields-are-held (f ∷ fs) = λ i. field-is f i || fields-are-held fs i

  pub holds-Map : (fs : List Field) (r q : Option Term) → holds_variable n (Map fs r q) ≡ (fields_hold fs || (rest-holds r || rest-holds q))
  unfolding holds_variable field-holds rest-holds
  holds-Map fs Nothing Nothing = ap (holds_variable n) (sym (Views.rolls-Map fs Nothing Nothing)) ∙ (fold-roll-Term Bool Bool (holds_layer n) (λ field. field.term) (F.Map fs Nothing Nothing) ∙ ap (λ x. x || (false || false)) (fields-are-held fs))
  holds-Map fs Nothing (Some q) = ap (holds_variable n) (sym (Views.rolls-Map fs Nothing (Some q))) ∙ (fold-roll-Term Bool Bool (holds_layer n) (λ field. field.term) (F.Map fs Nothing (Some q)) ∙ ap (λ x. x || (false || holds_variable n q)) (fields-are-held fs))
  holds-Map fs (Some r) Nothing = ap (holds_variable n) (sym (Views.rolls-Map fs (Some r) Nothing)) ∙ (fold-roll-Term Bool Bool (holds_layer n) (λ field. field.term) (F.Map fs (Some r) Nothing) ∙ ap (λ x. x || (holds_variable n r || false)) (fields-are-held fs))
  holds-Map fs (Some r) (Some q) = ap (holds_variable n) (sym (Views.rolls-Map fs (Some r) (Some q))) ∙ (fold-roll-Term Bool Bool (holds_layer n) (λ field. field.term) (F.Map fs (Some r) (Some q)) ∙ ap (λ x. x || (holds_variable n r || holds_variable n q)) (fields-are-held fs))

  -- a field among others keeps what it holds, and they keep theirs
  inserted-itself : (f : Field) (fs : List Field) → holds_variable n f.term ≡ true → fields_hold (inserted f fs) ≡ true
  inserted-itself f [] e = or-first _ _ e
  inserted-itself f (g ∷ fs) e = go (key_lt f.key g.key) (inserted-itself f fs e)
    where
      go : (b : Bool) → fields_hold (inserted f fs) ≡ true → fields_hold (cond b (f ∷ g ∷ fs) (g ∷ inserted f fs)) ≡ true
      go true h = or-first _ _ e
      go false h = or-later (holds_variable n g.term) _ h

  inserted-others : (f : Field) (fs : List Field) → fields_hold fs ≡ true → fields_hold (inserted f fs) ≡ true
  inserted-others f [] e = absurd (cc)
  inserted-others f (g ∷ fs) e = go (key_lt f.key g.key) (holds_variable n g.term) refl (inserted-others f fs)
    where
      go : (b own : Bool) → holds_variable n g.term ≡ own → (fields_hold fs ≡ true → fields_hold (inserted f fs) ≡ true) → fields_hold (cond b (f ∷ g ∷ fs) (g ∷ inserted f fs)) ≡ true
      go true own q h = or-later (holds_variable n f.term) _ e
      go false true q h = or-first _ _ q
      go false false q h = or-later (holds_variable n g.term) _ (h (subst (λ b. (b || fields_hold fs) ≡ true) q e))

  -- where what is held stands among entries behind others with these keys
  abbrev pub HeldAmong : List MapKey → List MapEntry → Type 0
  HeldAmong before es = (fields_hold (fields_among es) ≡ true) ⊎ (((list_any (same_map_key integer_keys) before ≡ false) × (rest-holds (integer_rest es) ≡ true)) ⊎ ((list_any (same_map_key atom_keys) before ≡ false) × (rest-holds (atom_rest es) ≡ true)))

  pub first-entry : (before : List MapKey) (e : MapEntry) (es : List MapEntry) → list_any (same_map_key e.key) before ≡ false → is_key e.key ≡ true → holds_variable n e.value ≡ true → HeldAmong before (e ∷ es)
  unfolding rest-holds
  first-entry before e es new key h = go e.key new key
    where
      go : (k : MapKey) → list_any (same_map_key k) before ≡ false → is_key k ≡ true → (fields_hold (with_field k e.required e.value (fields_among es)) ≡ true) ⊎ (((list_any (same_map_key integer_keys) before ≡ false) × (rest-holds (rest_for_integers k e.value (integer_rest es)) ≡ true)) ⊎ ((list_any (same_map_key atom_keys) before ≡ false) × (rest-holds (rest_for_atoms k e.value (atom_rest es)) ≡ true)))
      go (this_key j) q i = inl (inserted-itself _ (fields_among es) h)
      go integer_keys q i = inr (inl (q, h))
      go atom_keys q i = inr (inr (q, h))
      go no_key q i = absurd (cc)

  pub later-entry : (before : List MapKey) (e : MapEntry) (es : List MapEntry) → HeldAmong (e.key ∷ before) es → HeldAmong before (e ∷ es)
  later-entry before e es h = go e.key h
    where
      go : (k : MapKey) → HeldAmong (k ∷ before) es → (fields_hold (with_field k e.required e.value (fields_among es)) ≡ true) ⊎ (((list_any (same_map_key integer_keys) before ≡ false) × (rest-holds (rest_for_integers k e.value (integer_rest es)) ≡ true)) ⊎ ((list_any (same_map_key atom_keys) before ≡ false) × (rest-holds (rest_for_atoms k e.value (atom_rest es)) ≡ true)))
      go (this_key j) q = ⊎_elim (λ a. inl (inserted-others _ (fields_among es) a)) (λ r. inr r) q
      go integer_keys (inl a) = inl a
      go integer_keys (inr (inl r)) = absurd (clash r.0)
        where
          clash : true ≡ false → ⊥
          clash z = cc
      go integer_keys (inr (inr r)) = inr (inr r)
      go atom_keys (inl a) = inl a
      go atom_keys (inr (inl r)) = inr (inl r)
      go atom_keys (inr (inr r)) = absurd (clash r.0)
        where
          clash : true ≡ false → ⊥
          clash z = cc
      go no_key q = q

  pub map-holds : (es : List MapEntry) → HeldAmong [] es → holds_variable n (map_term es) ≡ true
  map-holds es h = holds-Map (fields_among es) (integer_rest es) (atom_rest es) ∙ go h
    where
      go : HeldAmong [] es → (fields_hold (fields_among es) || (rest-holds (integer_rest es) || rest-holds (atom_rest es))) ≡ true
      go (inl a) = or-first _ _ a
      go (inr (inl r)) = or-later (fields_hold (fields_among es)) _ (or-first _ _ r.1)
      go (inr (inr r)) = or-later (fields_hold (fields_among es)) _ (or-later (rest-holds (integer_rest es)) _ r.1)

  -- ---- uses

  list-type-holds : (name : Name) (t a : Term) → list_type name t ≡ Some a → holds_variable n t ≡ true → holds_variable n a ≡ true
  list-type-holds name t a e h = go (same_name name (codes "list")) (same_name name (codes "nonempty_list")) e
    where
      list-holds : holds_variable n (list_of t) ≡ true
      list-holds = holds-Name n 0 (t ∷ []) ∙ or-first _ _ h

      go : (b c : Bool) → cond b (Some (list_of t)) (cond c (Some (nonempty_list_of t)) Nothing) ≡ Some a → holds_variable n a ≡ true
      go true c q = subst (λ z. holds_variable n z ≡ true) (same-some (list_of t) a q) list-holds
      go false true q = subst (λ z. holds_variable n z ≡ true) (same-some (nonempty_list_of t) a q) (holds-Cons n t (list_of t) ∙ or-first _ _ h)
      go false false q = absurd (cc)

  only-one : (t : Term) → some_true (map (holds_variable n) (t ∷ [])) ≡ true → holds_variable n t ≡ true
  only-one t e = go (holds_variable n t) e
    where
      go : (b : Bool) → (b || false) ≡ true → b ≡ true
      go true q = refl
      go false q = q

  built-in-holds : (name : Name) (ts : List Term) (a : Term) → built_in_term name ts ≡ Some a → some_true (map (holds_variable n) ts) ≡ true → holds_variable n a ≡ true
  built-in-holds name [] a e h = absurd (clash h)
    where
      clash : false ≡ true → ⊥
      clash z = cc
  built-in-holds name (t ∷ []) a e h = list-type-holds name t a e (only-one t h)
  built-in-holds name (t ∷ u ∷ ts) a e h = absurd (cc)

  pub used-holds : (declared : Declarations) (name : Name) (ts : List Term) (a : Term) → used_term declared name ts ≡ Some a → some_true (map (holds_variable n) ts) ≡ true → holds_variable n a ≡ true
  used-holds declared name ts a e h = go (is_built_in_name name) e
    where
      go : (b : Bool) → cond b (built_in_term name ts) (declared_term declared name ts) ≡ Some a → holds_variable n a ≡ true
      go true q = built-in-holds name ts a q h
      go false q = let p = map-is (λ i. NameTerm i ts) (type_number declared name (length ts)) a q in subst (λ z. holds_variable n z ≡ true) p.2 (holds-Name n p.0 ts ∙ h)

  set-holds : (name : Name) (ts : List Term) (a : Term) → set_operation name ts ≡ Some a → some_true (map (holds_variable n) ts) ≡ true → holds_variable n a ≡ true
  set-holds name [] a e h = absurd (cc)
  set-holds name (t ∷ []) a e h = go (same_name name (codes "negation")) e
    where
      go : (b : Bool) → cond b (Some (Not t)) Nothing ≡ Some a → holds_variable n a ≡ true
      go true q = subst (λ z. holds_variable n z ≡ true) (same-some (Not t) a q) (holds-Not n t ∙ only-one t h)
      go false q = absurd (cc)
  set-holds name (t ∷ u ∷ []) a e h = go (same_name name (codes "intersection")) e
    where
      go : (b : Bool) → cond b (Some (And (t ∷ u ∷ []))) Nothing ≡ Some a → holds_variable n a ≡ true
      go true q = subst (λ z. holds_variable n z ≡ true) (same-some (And (t ∷ u ∷ [])) a q) (holds-And n (t ∷ u ∷ []) ∙ h)
      go false q = absurd (cc)
  set-holds name (t ∷ u ∷ v ∷ ts) a e h = absurd (cc)

  pub prefixed-holds : (prefix name : Name) (ts : List Term) (a : Term) → prefixed_term prefix name ts ≡ Some a → some_true (map (holds_variable n) ts) ≡ true → holds_variable n a ≡ true
  prefixed-holds prefix name ts a e h = go (same_name prefix (codes "ety")) e
    where
      go : (b : Bool) → cond b (set_operation name ts) Nothing ≡ Some a → holds_variable n a ≡ true
      go true q = set-holds name ts a q h
      go false q = absurd (cc)

  -- ---- records

  -- a given field keeps what it holds in the tuples of a record that has it
  given-holds : (given : List (Name × Term)) (fields : List (Name × Term)) (a : Name) → list_any (λ (g : Name × Term). same_name g.0 a) fields ≡ true → ((own : Term) → holds_variable n (given_or given a own) ≡ true) →
      some_true (map (holds_variable n) (map (λ (f : Name × Term). f.1) (map (λ (f : Name × Term). (f.0, given_or given f.0 f.1)) fields))) ≡ true
  given-holds given [] a e h = e
  given-holds given (f ∷ fields) a e h = go (same_name f.0 a) refl e (given-holds given fields a)
    where
      go : (b : Bool) → same_name f.0 a ≡ b → (b || list_any (λ (g : Name × Term). same_name g.0 a) fields) ≡ true →
          (list_any (λ (g : Name × Term). same_name g.0 a) fields ≡ true → ((own : Term) → holds_variable n (given_or given a own) ≡ true) → some_true (map (holds_variable n) (map (λ (g : Name × Term). g.1) (map (λ (g : Name × Term). (g.0, given_or given g.0 g.1)) fields))) ≡ true) →
          (holds_variable n (given_or given f.0 f.1) || some_true (map (holds_variable n) (map (λ (g : Name × Term). g.1) (map (λ (g : Name × Term). (g.0, given_or given g.0 g.1)) fields)))) ≡ true
      go true q s more = or-first _ _ (subst (λ z. holds_variable n (given_or given z f.1) ≡ true) (sym (name-is f.0 a q)) (h f.1))
      go false q s more = or-later (holds_variable n (given_or given f.0 f.1)) _ (more s h)

  pub tuple-holds : (given : List (Name × Term)) (r : RecordTuple) (a : Name) → list_any (λ (g : Name × Term). same_name g.0 a) r.fields ≡ true → ((own : Term) → holds_variable n (given_or given a own) ≡ true) → holds_variable n (tuple_term (with_fields given r)) ≡ true
  tuple-holds given r a e h = holds-Tuple n (AtomLit r.tag ∷ map (λ (f : Name × Term). f.1) (with_fields given r).fields) ∙ or-later (holds_variable n (AtomLit r.tag)) _ (given-holds given r.fields a e h)
