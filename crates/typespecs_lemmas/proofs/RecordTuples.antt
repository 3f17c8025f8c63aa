-- The tuples of records: where no record leads back to itself, they are those of the terms of its fields.
use Rattle.std.proofs.Common.{◌≡◌, refl, ap, sym, subst, ◌∙◌, ⊎_elim, inl, inr, ℕ, zero, suc, ◌+◌, ◌<◌, ◌≤◌, List, [], ◌∷◌, ◌++◌, map, length, get_or, arith}
use Rattle.std.specs.Prelude.{Option, Some, None as Nothing, Bool, true, false, cond, slice_get, if◌then◌else◌}
use Rattle.std.specs.Option.{option_map}
use Rattle.std.specs.List.{Contains}
use Rattle.std.proofs.lemmas.List.{get_or-append-add}
use Rattle.type_terms.specs.Keys.{Name, same_name}
use Rattle.type_terms.specs.declared.term.Term.{Term}
use Rattle.type_terms.proofs.Contained.{contains-first, contains-later}
use Rattle.erl_tree.specs.declared.token.Node.{Node}
use Rattle.erl_tree.specs.declared.expr.ExprKind.{ExprKind}
use Rattle.erl_tree.specs.declared.type_expr.TypeKind.{TypeKind, out-TypeKind}
use Rattle.erl_tree.specs.declared.type_expr.MapPart.{MapPart}
use Rattle.erl_tree.specs.declared.type_expr.TypeKind.TheOpen as O
use Rattle.erl_tree.specs.declared.form.RecFieldKind.{RecFieldKind}
use Rattle.erl_tree.specs.declared.form.RecDefKind.{RecDefKind}
use Rattle.erl_tree.specs.Lists.{Among}
use Rattle.erl_runs.specs.Names.{is_wildcard}
use Rattle.erl_runs.specs.Records.{find_record, fields_of}
use Rattle.erl_runs.specs.Specs.{and_then, all_present}
use Rattle.typespecs_rules.specs.TypeParts.{from_each, types_within}
use Rattle.typespecs_rules.specs.Declarations.{Declarations, position, record_number}
use Rattle.typespecs_rules.specs.TypeTerms.{RecordTuple, named_term, no_variables, field_term, tuple_of, tuple_within, record_tuple, type_kind_term}
use Rattle.typespecs_rules.specs.RegularUse.{Declaration, field_types, of_type, of_record, by_number, all_types, if_some, expansion_layer, expanded_by, expansion_graph}
use Rattle.typespecs_lemmas.specs.Acyclic.{HasNoInfiniteRecord}
use Rattle.typespecs_lemmas.proofs.AlikeTypes.{among-each, AgreesAt, all-alike}
use Rattle.typespecs_lemmas.proofs.Chains.{Chain, no-long-chain}

-- ---- lists

pub among-contains : {A : Type 0} (x : A) (xs : List A) → Among x xs → Contains xs x
among-contains x [] a = absurd a
among-contains x (y ∷ xs) a = ⊎_elim (λ e. subst (λ z. Contains (z ∷ xs) x) e (contains-first x xs)) (λ r. contains-later y x xs (among-contains x xs r)) a

pub position-below : {A : Type 0} (test : A → Bool) (xs : List A) (i : ℕ) → position test xs ≡ Some i → i < length xs
position-below test [] i e = absurd (cc)
position-below test (x ∷ xs) i e = go (test x) (position test xs) (position-below test xs) e
  where
    go : (b : Bool) (o : Option ℕ) → ((k : ℕ) → o ≡ Some k → k < length xs) → cond b (Some 0) (option_map suc o) ≡ Some i → i < suc (length xs)
    go true o h q = let z : 0 ≡ i = some-is q in omega arith
      where
        some-is : Some 0 ≡ Some i → 0 ≡ i
        some-is r = cc
    go false Nothing h q = absurd (cc)
    go false (Some k) h q = let z : suc k ≡ i = some-is q in let l : k < length xs = h k refl in omega arith
      where
        some-is : Some (suc k) ≡ Some i → suc k ≡ i
        some-is r = cc

pub get-mapped : {A B : Type 0} (f : A → B) (xs : List A) (i : ℕ) (x : A) (other : B) → slice_get xs i ≡ Some x → get_or (map f xs) i other ≡ f x
get-mapped f [] i x other e = absurd (cc)
get-mapped f (y ∷ xs) zero x other e = ap f (first e)
  where
    first : Some y ≡ Some x → y ≡ x
    first r = cc
get-mapped f (y ∷ xs) (suc i) x other e = get-mapped f xs i x other e

-- ---- readings that agree

-- readings that agree on variables, and on records that stand with fields
pub agreeing : (tuples other_tuples : Name → Option RecordTuple) (variables other_variables : Name → Option Term) (o : O.TypeKind-F TypeKind MapPart) →
    ((name tag : Name) (f : Node (Name × Node TypeKind)) (fs : List (Node (Name × Node TypeKind))) → o ≡ O.Rec name tag (f ∷ fs) → tuples name ≡ other_tuples name) →
    ((x : Name) → o ≡ O.Var x → is_wildcard x ≡ false → variables x ≡ other_variables x) →
    AgreesAt tuples other_tuples variables other_variables o
agreeing tuples other_tuples variables other_variables (O.Var x) h v = v x refl
agreeing tuples other_tuples variables other_variables (O.Rec name tag (f ∷ fs)) h v = h name tag f fs refl
agreeing tuples other_tuples variables other_variables _ h v = tt

-- ---- fields

field-at : (g h : TypeKind → Option Term) (name : Name) (default : Option (Node ExprKind)) (o : Option (Node TypeKind)) → ((t : Node TypeKind) → o ≡ Some t → g t.kind ≡ h t.kind) →
    field_term g (record { name = name; default = default; ty = o }) ≡ field_term h (record { name = name; default = default; ty = o })
field-at g h name default Nothing same = refl
field-at g h name default (Some t) same = same t refl

fields-same : (g h : TypeKind → Option Term) (fs : List RecFieldKind) → ((f : RecFieldKind) (t : Node TypeKind) → Among f fs → f.ty ≡ Some t → g t.kind ≡ h t.kind) →
    all_present (map (λ (f : RecFieldKind). named_term f.name (field_term g f)) fs) ≡ all_present (map (λ (f : RecFieldKind). named_term f.name (field_term h f)) fs)
fields-same g h [] same = refl
fields-same g h (f ∷ fs) same =
    let first : field_term g f ≡ field_term h f = field-at g h f.name f.default f.ty (λ t e. same f t (inl refl) e) in
    let rest = fields-same g h fs (λ e t a q. same e t (inr a) q) in
    λ j. and_then (named_term f.name (first j)) (λ a. and_then (rest j) (λ more. Some (a ∷ more)))

-- the tuples of a record depend on the terms of its fields' types alone
pub tuple-same : (g h : TypeKind → Option Term) (r : RecDefKind) → ((f : RecFieldKind) (t : Node TypeKind) → Among f (fields_of r) → f.ty ≡ Some t → g t.kind ≡ h t.kind) → tuple_of g r ≡ tuple_of h r
tuple-same g h r same = ap (λ fields. option_map (λ own. record { tag = r.tag; fields = own }) fields) (fields-same g h (fields_of r) same)

-- ---- records by their numbers

found-step : (name : Name) (r : RecDefKind) (rs : List RecDefKind) (s : RecDefKind) → ((s' : RecDefKind) → find_record rs name ≡ Some s' → (i : ℕ) × (position (λ (q : RecDefKind). same_name q.name name) rs ≡ Some i) × (slice_get rs i ≡ Some s')) → (b : Bool) → (if b then Some r else find_record rs name) ≡ Some s → (i : ℕ) × (cond b (Some 0) (option_map suc (position (λ (q : RecDefKind). same_name q.name name) rs)) ≡ Some i) × (slice_get (r ∷ rs) i ≡ Some s)
found-step name r rs s h true e = (0, refl, e)
found-step name r rs s h false e = let p = h s e in (suc p.0, ap (λ o. option_map suc o) p.1, p.2)

found-at : (rs : List RecDefKind) (name : Name) (r : RecDefKind) → find_record rs name ≡ Some r → (i : ℕ) × (position (λ (q : RecDefKind). same_name q.name name) rs ≡ Some i) × (slice_get rs i ≡ Some r)
found-at [] name r e = absurd (cc)
found-at (q ∷ rs) name r e = found-step name q rs r (found-at rs name) (same_name q.name name) e

pub length-mapped : {A B : Type 0} (f : A → B) (xs : List A) → length (map f xs) ≡ length xs
length-mapped f [] = refl
length-mapped f (x ∷ xs) = ap suc (length-mapped f xs)

map-behind : {A B : Type 0} (f : A → B) (xs ys : List A) → map f (xs ++ ys) ≡ map f xs ++ map f ys
map-behind f [] ys = refl
map-behind f (x ∷ xs) ys = ap (λ more. f x ∷ more) (map-behind f xs ys)

-- what is said of a record's declaration stands at its number
pub at-record : (declared : Declarations) (f : Declaration → List ℕ) (i : ℕ) (r : RecDefKind) → slice_get declared.records i ≡ Some r → get_or (map f (by_number declared)) (2 + (length declared.types + i)) [] ≡ f (of_record r)
at-record declared f i r e =
    let n : 2 + (length declared.types + i) ≡ suc (suc (length declared.types + i)) = omega arith in
    let types = map of_type declared.types in
    let records = map of_record declared.records in
    let many : length (map f types) ≡ length declared.types = length-mapped f types ∙ length-mapped of_type declared.types in
    ap (λ k. get_or (map f (by_number declared)) k []) n
    ∙ (ap (λ l. get_or l (length declared.types + i) []) (map-behind f types records)
    ∙ (ap (λ k. get_or (map f types ++ map f records) (k + i) []) (sym many)
    ∙ (get_or-append-add (map f types) (map f records) i []
    ∙ (ap (λ l. get_or l i []) (map-again declared.records) ∙ get-mapped (λ s. f (of_record s)) declared.records i r [] e))))
  where
    map-again : (rs : List RecDefKind) → map f (map of_record rs) ≡ map (λ s. f (of_record s)) rs
    map-again [] = refl
    map-again (s ∷ rs) = ap (λ more. f (of_record s) ∷ more) (map-again rs)

module _ (declared : Declarations) where
  abbrev pub RecordChain : ℕ → Name → Type 0
  RecordChain k name = Chain (record_number declared) (expansion_graph declared) k name

  pub numbered : (name : Name) (r : RecDefKind) → find_record declared.records name ≡ Some r → (i : ℕ) × (record_number declared name ≡ Some (2 + (length declared.types + i))) × (slice_get declared.records i ≡ Some r)
  numbered name r e = let p = found-at declared.records name r e in (p.0, ap (λ o. option_map (λ i. 2 + (length declared.types + i)) o) p.1, p.2)

  numbers-within : (name : Name) (n : ℕ) → record_number declared name ≡ Some n → (2 + length declared.types ≤ n) × (n < (2 + length declared.types) + length declared.records)
  numbers-within name n e = go (position (λ (q : RecDefKind). same_name q.name name) declared.records) (position-below (λ (q : RecDefKind). same_name q.name name) declared.records) e
    where
      go : (o : Option ℕ) → ((i : ℕ) → o ≡ Some i → i < length declared.records) → option_map (λ i. 2 + (length declared.types + i)) o ≡ Some n → (2 + length declared.types ≤ n) × (n < (2 + length declared.types) + length declared.records)
      go Nothing h q = absurd (cc)
      go (Some i) h q =
          let l : i < length declared.records = h i refl in
          let s : 2 + (length declared.types + i) ≡ n = some-is q in
          (omega arith, omega arith)
        where
          some-is : Some (2 + (length declared.types + i)) ≡ Some n → 2 + (length declared.types + i) ≡ n
          some-is r = cc

  -- a record stands with fields inside another one, which leads to it
  pub leads-to : (name : Name) (r : RecDefKind) (f : RecFieldKind) (t u : Node TypeKind) (used tag : Name) (g : Node (Name × Node TypeKind)) (gs : List (Node (Name × Node TypeKind))) (n : ℕ) →
      (found : find_record declared.records name ≡ Some r) → Among f (fields_of r) → f.ty ≡ Some t → Among u (types_within t) → out-TypeKind u.kind ≡ O.Rec used tag (g ∷ gs) → record_number declared used ≡ Some n →
      Contains (get_or (expansion_graph declared) (2 + (length declared.types + (numbered name r found).0)) []) n
  leads-to name r f t u used tag g gs n found a e i o q =
      let p = numbered name r found in
      let own : Among n (expanded_by declared u) = subst (λ l. Among n (expansion_layer declared l)) (sym o) (subst (λ m. Among n (if_some m)) (sym q) (inl refl)) in
      let field : Among t (field_types f.ty) = subst (λ m. Among t (field_types m)) (sym e) (inl refl) in
      let all : Among u (all_types (of_record r)) = among-each types_within t u (from_each (λ (h : RecFieldKind). field_types h.ty) (fields_of r)) (among-each (λ (h : RecFieldKind). field_types h.ty) f t (fields_of r) a field) i in
      subst (λ l. Contains l n) (sym (at-record declared (λ d. from_each (expanded_by declared) (all_types d)) p.0 r p.2))
      (among-contains n _ (among-each (expanded_by declared) u n (all_types (of_record r)) all own))

  pub chain-number : (k : ℕ) (name : Name) → RecordChain k name → (n : ℕ) × (record_number declared name ≡ Some n)
  chain-number zero name c = c
  chain-number (suc k) name c = (c.0, c.1)

  -- where no chain of so many records begins at a record, one more level changes nothing
  stays : (k : ℕ) (name : Name) → (RecordChain k name → ⊥) → tuple_within declared k name ≡ tuple_within declared (suc k) name
  stays zero name ends = go (find_record declared.records name) refl
    where
      go : (o : Option RecDefKind) → find_record declared.records name ≡ o → Nothing ≡ and_then o (λ r. tuple_of (type_kind_term declared (tuple_within declared zero) no_variables) r)
      go Nothing e = refl
      go (Some r) e = let p = numbered name r e in absurd (ends (2 + (length declared.types + p.0), p.1))
  stays (suc k) name ends = go (find_record declared.records name) refl (stays k)
    where
      go : (o : Option RecDefKind) → find_record declared.records name ≡ o → ((other : Name) → (RecordChain k other → ⊥) → tuple_within declared k other ≡ tuple_within declared (suc k) other) →
          and_then o (λ r. tuple_of (type_kind_term declared (tuple_within declared k) no_variables) r) ≡ and_then o (λ r. tuple_of (type_kind_term declared (tuple_within declared (suc k)) no_variables) r)
      go Nothing e below = refl
      go (Some r) e below = tuple-same _ _ r (λ f t a q. all-alike declared (tuple_within declared k) (tuple_within declared (suc k)) no_variables no_variables t.kind t.place t.marks
          (λ u i. agreeing (tuple_within declared k) (tuple_within declared (suc k)) no_variables no_variables (out-TypeKind u.kind)
          (λ used tag g gs o. below used (λ c. let n = chain-number k used c in let p = numbered name r e in ends (2 + (length declared.types + p.0), p.1, used, n.0, n.1, leads-to name r f t u used tag g gs n.0 e a q i o n.1, c)))
          (λ x o w. refl)))

  pub no-record-chain : HasNoInfiniteRecord declared → (name : Name) → RecordChain (length declared.records) name → ⊥
  no-record-chain h name = no-long-chain (record_number declared) (expansion_graph declared) h (2 + length declared.types) (length declared.records) numbers-within name

  -- the tuples of a record are those of its fields' terms
  pub by-fields : HasNoInfiniteRecord declared → (name : Name) → record_tuple declared name ≡ and_then (find_record declared.records name) (λ r. tuple_of (type_kind_term declared (record_tuple declared) no_variables) r)
  by-fields h name = stays (length declared.records) name (no-record-chain h name)
