-- The definitions of a module by their numbers, and what holds of the tuples of its records.
use Rattle.std.proofs.Common.{◌≡◌, refl, ap, sym, subst, ◌∙◌, ℕ, zero, suc, ◌+◌, List, [], ◌∷◌, ◌++◌, map, length, arith, ◌⊎◌, inl, inr}
use Rattle.std.specs.Prelude.{Option, Some, None as Nothing, Bool, true, false, cond, slice_get}
use Rattle.std.specs.Option.{option_map}
use Rattle.std.proofs.lemmas.Bool.{and_parts, eqb-true}
use Rattle.type_terms.specs.Keys.{Name, same_name}
use Rattle.type_terms.specs.Definitions.{given_definitions}
use Rattle.type_terms.specs.declared.term.Def.{Def}
use Rattle.type_terms.specs.declared.term.Term.{Term, Any}
use Rattle.erl_tree.specs.Lists.{Every, Among}
use Rattle.erl_tree.specs.declared.token.Node.{Node}
use Rattle.erl_tree.specs.declared.expr.ExprKind.{ExprKind}
use Rattle.erl_tree.specs.declared.type_expr.TypeKind.{TypeKind}
use Rattle.erl_tree.specs.declared.form.TypeDefKind.{TypeDefKind}
use Rattle.erl_tree.specs.declared.form.RecDefKind.{RecDefKind}
use Rattle.erl_tree.specs.declared.form.RecFieldKind.{RecFieldKind}
use Rattle.erl_runs.specs.Records.{find_record, fields_of}
use Rattle.erl_runs.specs.Specs.{all_present}
use Rattle.typespecs_rules.specs.TypeParts.{from_each, types_within}
use Rattle.typespecs_rules.specs.BuiltInTypes.{is_built_in_name}
use Rattle.typespecs_rules.specs.Declarations.{Declarations, position, is_type_named, type_number, record_number}
use Rattle.typespecs_rules.specs.TypeTerms.{RecordTuple, named_term, field_term, no_variables, tuple_of, tuple_within, type_kind_term}
use Rattle.typespecs_rules.specs.SpecTerms.{type_definition, record_definition}
use Rattle.typespecs_rules.specs.RegularUse.{field_types, of_record, all_types}
use Rattle.typespecs_rules.proofs.RightTypes.{from_each-append}
use Rattle.typespecs_lemmas.proofs.AlikeTypes.{among-left, among-right}
use Rattle.typespecs_lemmas.proofs.FirstFault.{some-inj}
use Rattle.typespecs_lemmas.proofs.GivenReach.{mapped, both}
use Rattle.typespecs_lemmas.proofs.GoodParts.{AllGood, good-Any}
use Rattle.typespecs_lemmas.proofs.TermParts.{Grounds, term-good, present-parts, map-length}

-- ---- lists by index

pub present-at : {A : Type 0} (os : List (Option A)) (xs : List A) → all_present os ≡ Some xs → (n : ℕ) (x : A) → slice_get xs n ≡ Some x → slice_get os n ≡ Some (Some x)
present-at {A = A} [] xs e n x g = absurd (nothing (subst (λ l. slice_get l n ≡ Some x) (sym (some-inj [] xs e)) g))
  where
    nothing : slice_get [] n ≡ Some x → ⊥
    nothing q = cc
present-at {A = A} (o ∷ os) xs e n x g =
    let p = present-parts o os xs e in
    at n p.0 p.1 p.2 (subst (λ l. slice_get l n ≡ Some x) (sym p.4) g) (λ k. present-at os p.1 p.3 k x)
  where
    at : (k : ℕ) (a : A) (more : List A) → o ≡ Some a → slice_get (a ∷ more) k ≡ Some x → ((i : ℕ) → slice_get more i ≡ Some x → slice_get os i ≡ Some (Some x)) → slice_get (o ∷ os) k ≡ Some (Some x)
    at zero a more q h r = ap Some (q ∙ h)
    at (suc k) a more q h r = r k h

pub present-back : {A : Type 0} (os : List (Option A)) (xs : List A) → all_present os ≡ Some xs → (n : ℕ) (o : Option A) → slice_get os n ≡ Some o → (x : A) × (o ≡ Some x) × (slice_get xs n ≡ Some x)
present-back [] xs e n o g = absurd (cc)
present-back (o ∷ os) xs e zero q g =
    let p = present-parts o os xs e in
    (p.0, sym (some-inj o q g) ∙ p.2, subst (λ l. slice_get l 0 ≡ Some p.0) p.4 refl)
present-back (o ∷ os) xs e (suc n) q g =
    let p = present-parts o os xs e in
    let r = present-back os p.1 p.3 n q g in
    (r.0, r.1, subst (λ l. slice_get l (suc n) ≡ Some r.0) p.4 r.2)

pub get-append : {A : Type 0} (xs ys : List A) (n : ℕ) (z : A) → slice_get (xs ++ ys) n ≡ Some z → (slice_get xs n ≡ Some z) ⊎ ((i : ℕ) × (n ≡ length xs + i) × (slice_get ys i ≡ Some z))
get-append [] ys n z e = inr (n, omega arith, e)
get-append (x ∷ xs) ys zero z e = inl e
get-append (x ∷ xs) ys (suc n) z e = go (get-append xs ys n z e)
  where
    go : (slice_get xs n ≡ Some z) ⊎ ((i : ℕ) × (n ≡ length xs + i) × (slice_get ys i ≡ Some z)) → (slice_get (x ∷ xs) (suc n) ≡ Some z) ⊎ ((i : ℕ) × (suc n ≡ length (x ∷ xs) + i) × (slice_get ys i ≡ Some z))
    go (inl q) = inl q
    go (inr (i, q, r)) = inr (i, omega arith, r)

pub get-left : {A : Type 0} (xs ys : List A) (n : ℕ) (z : A) → slice_get xs n ≡ Some z → slice_get (xs ++ ys) n ≡ Some z
get-left [] ys n z e = absurd (cc)
get-left (x ∷ xs) ys zero z e = e
get-left (x ∷ xs) ys (suc n) z e = get-left xs ys n z e

pub get-right : {A : Type 0} (xs ys : List A) (n i : ℕ) (z : A) → n ≡ length xs + i → slice_get ys i ≡ Some z → slice_get (xs ++ ys) n ≡ Some z
get-right [] ys n i z q e = let p : i ≡ n = omega arith in subst (λ k. slice_get ys k ≡ Some z) p e
get-right (x ∷ xs) ys zero i z q e = absurd (none q)
  where
    none : 0 ≡ suc (length xs) + i → ⊥
    none r = omega arith
get-right (x ∷ xs) ys (suc n) i z q e = get-right xs ys n i z (omega arith) e

pub get-map : {A B : Type 0} (f : A → B) (xs : List A) (n : ℕ) (z : B) → slice_get (map f xs) n ≡ Some z → (x : A) × (slice_get xs n ≡ Some x) × (f x ≡ z)
get-map f [] n z e = absurd (cc)
get-map f (x ∷ xs) zero z e = (x, refl, some-inj (f x) z e)
get-map f (x ∷ xs) (suc n) z e = get-map f xs n z e

pub get-of-map : {A B : Type 0} (f : A → B) (xs : List A) (n : ℕ) (x : A) → slice_get xs n ≡ Some x → slice_get (map f xs) n ≡ Some (f x)
get-of-map f [] n x e = absurd (cc)
get-of-map f (y ∷ xs) zero x e = ap (λ o. option_map f o) e
get-of-map f (y ∷ xs) (suc n) x e = get-of-map f xs n x e

pub position-is : {A : Type 0} (test : A → Bool) (xs : List A) (i : ℕ) → position test xs ≡ Some i → (x : A) × (slice_get xs i ≡ Some x) × (test x ≡ true)
position-is {A = A} test [] i e = absurd (cc)
position-is {A = A} test (x ∷ xs) i e = go (test x) refl e (position-is test xs)
  where
    go : (b : Bool) → test x ≡ b → cond b (Some 0) (option_map suc (position test xs)) ≡ Some i → ((j : ℕ) → position test xs ≡ Some j → (y : A) × (slice_get xs j ≡ Some y) × (test y ≡ true)) → (y : A) × (slice_get (x ∷ xs) i ≡ Some y) × (test y ≡ true)
    go true q r h = (x, ap (λ k. slice_get (x ∷ xs) k) (sym (some-inj 0 i r)), q)
    go false q r h =
        let p = mapped suc (position test xs) i r in
        let s = h p.0 p.1 in
        (s.0, ap (λ k. slice_get (x ∷ xs) k) (sym p.2) ∙ s.1, s.2)

-- ---- numbers of declarations

pub type-numbered : (declared : Declarations) (name : Name) (count n : ℕ) → type_number declared name count ≡ Some n → (i : ℕ) × (d : TypeDefKind) × (n ≡ 2 + i) × (slice_get declared.types i ≡ Some d) × (length d.params ≡ count)
type-numbered declared name count n e = go (is_built_in_name name) e
  where
    go : (b : Bool) → cond b Nothing (option_map (λ i. 2 + i) (position (is_type_named name count) declared.types)) ≡ Some n → (i : ℕ) × (d : TypeDefKind) × (n ≡ 2 + i) × (slice_get declared.types i ≡ Some d) × (length d.params ≡ count)
    go true q = absurd (cc)
    go false q =
        let p = mapped (λ i. 2 + i) (position (is_type_named name count) declared.types) n q in
        let r = position-is (is_type_named name count) declared.types p.0 p.1 in
        (p.0, r.0, sym p.2, r.1, eqb-true (length r.0.params) count (and_parts _ _ r.2).1)

pub record-numbered : (declared : Declarations) (name : Name) (n : ℕ) → record_number declared name ≡ Some n → (i : ℕ) × (r : RecDefKind) × (n ≡ 2 + (length declared.types + i)) × (slice_get declared.records i ≡ Some r) × (same_name r.name name ≡ true)
record-numbered declared name n e =
    let p = mapped (λ i. 2 + (length declared.types + i)) (position (λ (r : RecDefKind). same_name r.name name) declared.records) n e in
    let q = position-is (λ (r : RecDefKind). same_name r.name name) declared.records p.0 p.1 in
    (p.0, q.0, sym p.2, q.1, q.2)

-- ---- definitions

-- what a definition is made of
pub data MadeOf (declared : Declarations) (n : ℕ) (def : Def) : Type 0 where
  a_given : slice_get given_definitions n ≡ Some def → MadeOf declared n def
  a_type : (i : ℕ) (d : TypeDefKind) → n ≡ 2 + i → slice_get declared.types i ≡ Some d → type_definition declared d ≡ Some def → MadeOf declared n def
  a_record : (i : ℕ) (r : RecDefKind) → n ≡ 2 + (length declared.types + i) → slice_get declared.records i ≡ Some r → record_definition declared r ≡ Some def → MadeOf declared n def

module _ (declared : Declarations) (own : List Def) (present : all_present (map (type_definition declared) declared.types ++ map (record_definition declared) declared.records) ≡ Some own) where
  abbrev types_then_records : List (Option Def)
  types_then_records = map (type_definition declared) declared.types ++ map (record_definition declared) declared.records

  pub made-of : (n : ℕ) (def : Def) → slice_get (given_definitions ++ own) n ≡ Some def → MadeOf declared n def
  made-of n def e = go (get-append given_definitions own n def e)
    where
      own-made : (i : ℕ) → n ≡ 2 + i → (slice_get (map (type_definition declared) declared.types) i ≡ Some (Some def)) ⊎ ((j : ℕ) × (i ≡ length (map (type_definition declared) declared.types) + j) × (slice_get (map (record_definition declared) declared.records) j ≡ Some (Some def))) → MadeOf declared n def
      own-made i q (inl r) = let p = get-map (type_definition declared) declared.types i (Some def) r in a_type i p.0 q p.1 p.2
      own-made i q (inr (j, r, s)) =
          let p = get-map (record_definition declared) declared.records j (Some def) s in
          let l : length (map (type_definition declared) declared.types) ≡ length declared.types = map-length (type_definition declared) declared.types in
          a_record j p.0 (omega arith) p.1 p.2

      go : (slice_get given_definitions n ≡ Some def) ⊎ ((i : ℕ) × (n ≡ 2 + i) × (slice_get own i ≡ Some def)) → MadeOf declared n def
      go (inl q) = a_given q
      go (inr (i, q, r)) = own-made i q (get-append (map (type_definition declared) declared.types) (map (record_definition declared) declared.records) i (Some def) (present-at types_then_records own present i def r))

  pub type-defined : (n i : ℕ) (d : TypeDefKind) → n ≡ 2 + i → slice_get declared.types i ≡ Some d → (def : Def) × (slice_get (given_definitions ++ own) n ≡ Some def) × (type_definition declared d ≡ Some def)
  type-defined n i d q e =
      let p = present-back types_then_records own present i (type_definition declared d) (get-left (map (type_definition declared) declared.types) _ i _ (get-of-map (type_definition declared) declared.types i d e)) in
      (p.0, get-right given_definitions own n i p.0 q p.2, p.1)

  pub record-defined : (n i : ℕ) (r : RecDefKind) → n ≡ 2 + (length declared.types + i) → slice_get declared.records i ≡ Some r → (def : Def) × (slice_get (given_definitions ++ own) n ≡ Some def) × (record_definition declared r ≡ Some def)
  record-defined n i r q e =
      let l : length (map (type_definition declared) declared.types) ≡ length declared.types = map-length (type_definition declared) declared.types in
      let p = present-back types_then_records own present (length declared.types + i) (record_definition declared r) (get-right (map (type_definition declared) declared.types) (map (record_definition declared) declared.records) (length declared.types + i) i _ (omega arith) (get-of-map (record_definition declared) declared.records i r e)) in
      (p.0, get-right given_definitions own n (length declared.types + i) p.0 q p.2, p.1)

-- ---- tuples of records

module _ (declared : Declarations) (Good : Name → Term → Type 0) where
  -- each part of the tuples of a record is good, where records stand inside one another through at most so many
  abbrev pub TuplesGood : ℕ → Type 0
  TuplesGood k = (name : Name) (r : RecordTuple) → tuple_within declared k name ≡ Some r → Every (AllGood (Good name)) (map (λ f. f.1) r.fields)

  abbrev pub RecordGrounds : Type 0
  RecordGrounds = (name : Name) (r : RecDefKind) → find_record declared.records name ≡ Some r → (k : ℕ) → TuplesGood k → Grounds declared (tuple_within declared k) no_variables (λ t. Among t (all_types (of_record r))) (Good name)

  module _ (grounds : RecordGrounds) where
    module _ (name : Name) (r : RecDefKind) (found : find_record declared.records name ≡ Some r) (k : ℕ) (below : TuplesGood k) where
      abbrev term_of : TypeKind → Option Term
      term_of t = type_kind_term declared (tuple_within declared k) no_variables t

      abbrev AllInside : List (Node TypeKind) → Type 0
      AllInside ts = (t : Node TypeKind) → Among t ts → Among t (all_types (of_record r))

      field-good : (field : Name) (default : Option (Node ExprKind)) (ty : Option (Node TypeKind)) (w : Term) → AllInside (from_each types_within (field_types ty)) → field_term term_of (record { name = field; default = default; ty = ty }) ≡ Some w → AllGood (Good name) w
      field-good field default Nothing w all e = subst (AllGood (Good name)) (some-inj Any w e) (good-Any (Good name) (grounds name r found k below).plain)
      field-good field default (Some t) w all e = term-good declared (tuple_within declared k) no_variables (λ u. Among u (all_types (of_record r))) (Good name) (grounds name r found k below) t w (λ u a. all u (among-left u (types_within t) [] a)) e

      fields-good : (fs : List RecFieldKind) (given : List (Name × Term)) → AllInside (from_each types_within (from_each (λ (f : RecFieldKind). field_types f.ty) fs)) → all_present (map (λ (f : RecFieldKind). named_term f.name (field_term term_of f)) fs) ≡ Some given → Every (AllGood (Good name)) (map (λ f. f.1) given)
      fields-good [] given all e = subst (λ (o : List (Name × Term)). Every (AllGood (Good name)) (map (λ f. f.1) o)) (some-inj [] given e) tt
      fields-good (f ∷ fs) given all e =
          let p = present-parts (named_term f.name (field_term term_of f)) (map (λ (g : RecFieldKind). named_term g.name (field_term term_of g)) fs) given e in
          let q = mapped (λ own. (f.name, own)) (field_term term_of f) p.0 p.2 in
          let more : List (Node TypeKind) = from_each (λ (g : RecFieldKind). field_types g.ty) fs in
          let apart = from_each-append types_within (field_types f.ty) more in
          let both_inside : AllInside (from_each types_within (field_types f.ty) ++ from_each types_within more) = subst AllInside apart all in
          let here : AllGood (Good name) q.0 = field-good f.name f.default f.ty q.0 (λ t a. both_inside t (among-left t (from_each types_within (field_types f.ty)) (from_each types_within more) a)) q.1 in
          subst (λ (o : List (Name × Term)). Every (AllGood (Good name)) (map (λ g. g.1) o)) p.4 (
            subst (AllGood (Good name)) (ap (λ (x : Name × Term). x.1) q.2) here,
            fields-good fs p.1 (λ t a. both_inside t (among-right t (from_each types_within (field_types f.ty)) (from_each types_within more) a)) p.3,
          )

    pub tuples-good : (k : ℕ) → TuplesGood k
    tuples-good zero name r e = absurd (cc)
    tuples-good (suc k) name r e =
        let a = both (find_record declared.records name) (λ d. tuple_of (type_kind_term declared (tuple_within declared k) no_variables) d) r e in
        let b = mapped (λ fields. record { tag = a.0.tag; fields = fields }) (all_present (map (λ (f : RecFieldKind). named_term f.name (field_term (type_kind_term declared (tuple_within declared k) no_variables) f)) (fields_of a.0))) r a.2 in
        subst (λ (x : RecordTuple). Every (AllGood (Good name)) (map (λ f. f.1) x.fields)) b.2 (fields-good name a.0 a.1 k (tuples-good k) (fields_of a.0) b.0 (λ t i. i) b.1)
