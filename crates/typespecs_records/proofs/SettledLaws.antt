-- Tuples of records that are settled record by record.
use Rattle.std.proofs.Common.{◌≡◌, ℕ, zero, suc, ◌+◌, ◌-◌, ◌<◌, ◌≤◌, Bool, true, false, cond, List, [], ◌∷◌, length, get_or, inl, inr, refl, sym, ap, ◌∙◌, subst, Option, Some, None, is_some, true≢false, arith}
use Rattle.std.specs.Prelude.{if◌then◌else◌, Result, Ok, Err, IfOk, OnOk}
use Rattle.std.specs.Borrow.{Bor}
use Rattle.std.specs.Option.{option_map}
use Rattle.std.specs.List.{Contains}
use Rattle.type_terms.specs.Keys.{Name, same_name}
use Rattle.type_terms.proofs.KeyLaws.{name-is, name-refl}
use Rattle.erl_tree.specs.declared.token.Node.{Node}
use Rattle.erl_tree.specs.declared.type_expr.TypeKind.{TypeKind, out-TypeKind}
use Rattle.erl_tree.specs.declared.type_expr.TypeKind.TheOpen as O
use Rattle.erl_tree.specs.declared.form.RecFieldKind.{RecFieldKind}
use Rattle.erl_tree.specs.declared.form.RecDefKind.{RecDefKind}
use Rattle.erl_tree.specs.Lists.{Among}
use Rattle.erl_runs.specs.Records.{find_record, fields_of}
use Rattle.erl_runs.specs.Specs.{and_then}
use Rattle.typespecs_rules.specs.Declarations.{Declarations, position, record_number}
use Rattle.typespecs_rules.specs.TypeParts.{from_each, types_within}
use Rattle.typespecs_rules.specs.TypeTerms.{RecordTuple, no_variables, record_tuple, tuple_of, type_kind_term}
use Rattle.typespecs_rules.specs.RegularUse.{field_types, of_record, all_types, if_some, expansion_layer, expanded_by}
use Rattle.typespecs_lemmas.specs.Acyclic.{HasNoInfiniteRecord}
use Rattle.typespecs_lemmas.proofs.AlikeTypes.{among-each, all-alike}
use Rattle.typespecs_lemmas.proofs.RecordTuples.{agreeing, tuple-same, numbered, by-fields, among-contains}
use Rattle.typespecs_records.specs.Records.{records_seen}
use Rattle.typespecs_records.specs.Settled.{tuple_so_far, IsNotedAt, AreSettled, HasOwnNumber}

same-some : {A : Type 0} (a b : A) → Some a ≡ Some b → a ≡ b
same-some a b e = cc

none-some : {A B : Type 0} (a : A) → ◌≡◌ {A = Option A} None (Some a) → B
none-some a e = absurd (true≢false (sym (ap is_some e)))

-- what is known of a result by two clauses
pub both-ok : {A E : Type 0} (r : Result A E) (P Q R : Type 0) → (P → Q → R) → IfOk r (λ _. P) → IfOk r (λ _. Q) → OnOk r R
both-ok (Ok a) P Q R f p q = f p q
both-ok (Err e) P Q R f p q = tt

-- ---- records by their places

-- the record to which the reference at a place leads
pub seen-at : (xs : List (Bor RecDefKind)) (i : ℕ) (b x : Bor RecDefKind) → b ≡ get_or xs i x → b.now ≡ get_or (records_seen xs) i x.now
seen-at [] i b x e = ap (λ (z : Bor RecDefKind). z.now) e
seen-at (y ∷ xs) zero b x e = ap (λ (z : Bor RecDefKind). z.now) e
seen-at (y ∷ xs) (suc i) b x e = seen-at xs i b x e

pub seen-length : (xs : List (Bor RecDefKind)) → length (records_seen xs) ≡ length xs
seen-length [] = refl
seen-length (x ∷ xs) = ap suc (seen-length xs)

abbrev named-so : Name → RecDefKind → Bool
named-so name r = same_name r.name name

-- the first record with a name, by its place
found-there : (rs : List RecDefKind) (name : Name) (i : ℕ) (r : RecDefKind) → position (named-so name) rs ≡ Some i → i < length rs → r ≡ get_or rs i r → find_record rs name ≡ Some r
found-there [] name i r e lt is = absurd (omega arith)
found-there (a ∷ rs) name i r e lt is = go (same_name a.name name) (position (named-so name) rs) (λ k p l s. found-there rs name k r p l s) refl e
  where
    Below : Type 0
    Below = (k : ℕ) → position (named-so name) rs ≡ Some k → k < length rs → r ≡ get_or rs k r → find_record rs name ≡ Some r

    here : (j : ℕ) → 0 ≡ j → r ≡ get_or (a ∷ rs) j r → Some a ≡ Some r
    here zero t s = ap Some (sym s)
    here (suc j) t s = absurd (omega arith)

    pred : (k j : ℕ) → suc k ≡ suc j → k ≡ j
    pred k j z = omega arith

    later : Below → (k j : ℕ) → position (named-so name) rs ≡ Some k → suc k ≡ j → j < suc (length rs) → r ≡ get_or (a ∷ rs) j r → find_record rs name ≡ Some r
    later below k zero p t l s = absurd (omega arith)
    later below k (suc j) p t l s = below k p (omega arith) (s ∙ ap (λ m. get_or rs m r) (sym (pred k j t)))

    go : (s : Bool) (o : Option ℕ) → Below → position (named-so name) rs ≡ o → cond s (Some 0) (option_map suc o) ≡ Some i → (if s then Some a else find_record rs name) ≡ Some r
    go true o below p q = here i (same-some 0 i q) is
    go false None below p q = none-some i q
    go false (Some k) below p q = later below k i p (same-some (suc k) i q) lt is

-- two names with one place are the same
one-name : (rs : List RecDefKind) (x y : Name) (n : ℕ) → position (named-so x) rs ≡ Some n → position (named-so y) rs ≡ Some n → x ≡ y
one-name [] x y n q r = none-some n q
one-name (a ∷ rs) x y n q r = by (same_name a.name x) (same_name a.name y) refl refl (λ k g h. one-name rs x y k g h) (position (named-so x) rs) (position (named-so y) rs) refl refl q r
  where
    by : (s t : Bool) → same_name a.name x ≡ s → same_name a.name y ≡ t → ((k : ℕ) → position (named-so x) rs ≡ Some k → position (named-so y) rs ≡ Some k → x ≡ y) → (o m : Option ℕ) → position (named-so x) rs ≡ o → position (named-so y) rs ≡ m → cond s (Some 0) (option_map suc o) ≡ Some n → cond t (Some 0) (option_map suc m) ≡ Some n → x ≡ y
    by true true e f below o m g h q r = sym (name-is a.name x e) ∙ name-is a.name y f
    by true false e f below o None g h q r = none-some n r
    by true false e f below o (Some k) g h q r = let z : 0 ≡ n = same-some 0 n q in let w : suc k ≡ n = same-some (suc k) n r in absurd (omega arith)
    by false true e f below None m g h q r = none-some n q
    by false true e f below (Some k) m g h q r = let z : suc k ≡ n = same-some (suc k) n q in let w : 0 ≡ n = same-some 0 n r in absurd (omega arith)
    by false false e f below None m g h q r = none-some n q
    by false false e f below (Some k) None g h q r = none-some n r
    by false false e f below (Some k) (Some l) g h q r =
        let z : suc k ≡ n = same-some (suc k) n q in let w : suc l ≡ n = same-some (suc l) n r in let v : l ≡ k = omega arith in below k g (h ∙ ap Some v)

-- a place by the number
place-of : (m : ℕ) (o : Option ℕ) (n : ℕ) → option_map (λ i. 2 + (m + i)) o ≡ Some n → (i : ℕ) × (o ≡ Some i) × (2 + (m + i) ≡ n)
place-of m None n e = none-some n e
place-of m (Some i) n e = (i, refl, same-some (2 + (m + i)) n e)

-- what is found among records is one of them and has the name
found-among : (x : Name) (rs : List RecDefKind) (r : RecDefKind) → find_record rs x ≡ Some r → Among r rs × (r.name ≡ x)
found-among x [] r e = none-some r e
found-among x (a ∷ rs) r e = by (same_name a.name x) (λ q. found-among x rs r q) refl e
  where
    by : (s : Bool) → (find_record rs x ≡ Some r → Among r rs × (r.name ≡ x)) → same_name a.name x ≡ s → (if s then Some a else find_record rs x) ≡ Some r → Among r (a ∷ rs) × (r.name ≡ x)
    by true below p q = let i : a ≡ r = same-some a r q in (inl (sym i), ap (λ (z : RecDefKind). z.name) (sym i) ∙ name-is a.name x p)
    by false below p q = let m = below q in (inr m.0, m.1)

-- a name that isn't found has no place
no-place : (x : Name) (rs : List RecDefKind) → find_record rs x ≡ None → (i : ℕ) → position (named-so x) rs ≡ Some i → ⊥
no-place x [] f i q = none-some i q
no-place x (a ∷ rs) f i q = by (same_name a.name x) (λ g k h. no-place x rs g k h) f (position (named-so x) rs) refl q
  where
    by : (s : Bool) → (find_record rs x ≡ None → (k : ℕ) → position (named-so x) rs ≡ Some k → ⊥) → (if s then Some a else find_record rs x) ≡ None → (o : Option ℕ) → position (named-so x) rs ≡ o → cond s (Some 0) (option_map suc o) ≡ Some i → ⊥
    by true below g o h q = none-some a (sym g)
    by false below g None h q = none-some i q
    by false below g (Some k) h q = below g k h

module _ (d : Declarations) where
  one-record : (x y : Name) (n : ℕ) → record_number d x ≡ Some n → record_number d y ≡ Some n → x ≡ y
  one-record x y n e f =
      let p = place-of (length d.types) (position (named-so x) d.records) n e in
      let q = place-of (length d.types) (position (named-so y) d.records) n f in
      let s : p.0 ≡ n - (2 + length d.types) = at p.0 p.2 in
      let t : q.0 ≡ n - (2 + length d.types) = at q.0 q.2 in
      one-name d.records x y p.0 p.1 (q.1 ∙ ap Some (t ∙ sym s))
    where
      at : (i : ℕ) → 2 + (length d.types + i) ≡ n → i ≡ n - (2 + length d.types)
      at i h = omega arith

  -- a record whose number is that of its place is the first one with its name
  pub is-first : (records : List RecDefKind) (first r : RecDefKind) (at n : ℕ) → records ≡ d.records → at < length records → first ≡ get_or records 0 first → r ≡ get_or records at r → HasOwnNumber d first at r (Some n) → find_record d.records r.name ≡ Some r
  is-first records first r at n all lt is here own =
      let p = place-of (length d.types) (position (named-so r.name) d.records) n own.0 in
      let q = place-of (length d.types) (position (named-so first.name) d.records) (n - at) own.2 in
      let none : q.0 ≡ 0 = same-some q.0 0 (sym q.1 ∙ front d.records (is ∙ ap (λ rs. get_or rs 0 first) all) (subst (λ rs. at < length rs) all lt)) in
      let le : at ≤ n = own.1 in
      let e : 2 + (length d.types + p.0) ≡ n = p.2 in
      let f : 2 + (length d.types + q.0) ≡ n - at = q.2 in
      let s : p.0 ≡ at = places p.0 q.0 none le e f in
      found-there d.records r.name at r (p.1 ∙ ap Some s) (subst (λ rs. at < length rs) all lt) (here ∙ ap (λ rs. get_or rs at r) all)
    where
      front : (rs : List RecDefKind) → first ≡ get_or rs 0 first → at < length rs → position (named-so first.name) rs ≡ Some 0
      front [] i l = absurd (omega arith)
      front (a ∷ rs) i l = ap (λ b. cond b (Some 0) (option_map suc (position (named-so first.name) rs))) (ap (λ (z : RecDefKind). same_name z.name first.name) (sym i) ∙ name-refl first.name)

      places : (i j : ℕ) → j ≡ 0 → at ≤ n → 2 + (length d.types + i) ≡ n → 2 + (length d.types + j) ≡ n - at → i ≡ at
      places i j z le e f = omega arith

module _ (d : Declarations) (finite : HasNoInfiniteRecord d) where
  -- a record that isn't declared stands for no tuples
  undeclared : (x : Name) → record_number d x ≡ None → record_tuple d x ≡ None
  undeclared x none = by-fields d finite x ∙ go (find_record d.records x) refl
    where
      go : (o : Option RecDefKind) → find_record d.records x ≡ o → and_then o (λ r. tuple_of (type_kind_term d (record_tuple d) no_variables) r) ≡ None
      go None e = refl
      go (Some r) e = let p = numbered d x r e in none-some (2 + (length d.types + p.0)) (sym none ∙ p.1)

  module _ (tuples : Name → Option RecordTuple) (settled : List Bool) (so_far : (x : Name) → tuples x ≡ tuple_so_far settled (record_tuple d x) (record_number d x)) where
    -- a record that is settled, if it is declared, has its tuples
    pub stands : (x : Name) → ((n : ℕ) → record_number d x ≡ Some n → get_or settled n false ≡ true) → tuples x ≡ record_tuple d x
    stands x is = so_far x ∙ go (record_number d x) refl
      where
        go : (o : Option ℕ) → record_number d x ≡ o → tuple_so_far settled (record_tuple d x) o ≡ record_tuple d x
        go None e = sym (undeclared x e)
        go (Some n) e = ap (λ b. cond b (record_tuple d x) None) (is n e)

    -- once all are settled, each record has its tuples
    pub all-stand : AreSettled d settled d.records → (x : Name) → tuples x ≡ record_tuple d x
    all-stand all x = stands x (λ n e. go (find_record d.records x) refl n e)
      where
        go : (o : Option RecDefKind) → find_record d.records x ≡ o → (n : ℕ) → record_number d x ≡ Some n → get_or settled n false ≡ true
        go (Some r) f n e = let p = found-among x d.records r f in all r p.0 n (ap (record_number d) p.1 ∙ e)
        go None f n e = let p = place-of (length d.types) (position (named-so x) d.records) n e in absurd (no-place x d.records f p.0 p.1)

    -- where all that a record expands is settled, its tuples by what is there are its tuples
    pub settled-tuple : (r : RecDefKind) → find_record d.records r.name ≡ Some r → ((n : ℕ) → Contains (from_each (expanded_by d) (all_types (of_record r))) n → get_or settled n false ≡ true)
        → tuple_of (type_kind_term d tuples no_variables) r ≡ record_tuple d r.name
    settled-tuple r found ready =
        tuple-same (type_kind_term d tuples no_variables) (type_kind_term d (record_tuple d) no_variables) r (λ f t a q. all-alike d tuples (record_tuple d) no_variables no_variables t.kind t.place t.marks
        (λ u i. agreeing tuples (record_tuple d) no_variables no_variables (out-TypeKind u.kind)
        (λ used tag g gs o. stands used (λ n e. ready n (leads f t u used tag g gs n a q i o e)))
        (λ x o w. refl)))
        ∙ sym (by-fields d finite r.name ∙ ap (λ o. and_then o (λ r'. tuple_of (type_kind_term d (record_tuple d) no_variables) r')) found)
      where
        leads : (f : RecFieldKind) (t u : Node TypeKind) (used tag : Name) (g : Node (Name × Node TypeKind)) (gs : List (Node (Name × Node TypeKind))) (n : ℕ) →
            Among f (fields_of r) → f.ty ≡ Some t → Among u (types_within t) → out-TypeKind u.kind ≡ O.Rec used tag (g ∷ gs) → record_number d used ≡ Some n → Contains (from_each (expanded_by d) (all_types (of_record r))) n
        leads f t u used tag g gs n a e i o q =
            let own : Among n (expanded_by d u) = subst (λ l. Among n (expansion_layer d l)) (sym o) (subst (λ m. Among n (if_some m)) (sym q) (inl refl)) in
            let field : Among t (field_types f.ty) = subst (λ m. Among t (field_types m)) (sym e) (inl refl) in
            let all : Among u (all_types (of_record r)) = among-each types_within t u (from_each (λ (h : RecFieldKind). field_types h.ty) (fields_of r)) (among-each (λ (h : RecFieldKind). field_types h.ty) f t (fields_of r) a field) i in
            among-contains n _ (among-each (expanded_by d) u n (all_types (of_record r)) all own)

    -- one more record is settled: it has its tuples from now on
    module _ (name : Name) (n : ℕ) (number : record_number d name ≡ Some n) (term : Option RecordTuple) (right : term ≡ record_tuple d name) where
      before : term ≡ None → tuples name ≡ None
      before none = so_far name ∙ (ap (tuple_so_far settled (record_tuple d name)) number ∙ go (get_or settled n false))
        where
          go : (b : Bool) → cond b (record_tuple d name) None ≡ None
          go true = sym right ∙ none
          go false = refl

      noted-own : (o : Option RecordTuple) (new : Name → Option RecordTuple) → term ≡ o → IsNotedAt name o tuples new → new name ≡ o
      noted-own None new e h = h name ∙ before e
      noted-own (Some t) new e h = h name ∙ ap (λ b. cond b (Some t) (tuples name)) (name-refl name)

      noted-other : (o : Option RecordTuple) (new : Name → Option RecordTuple) (x : Name) → IsNotedAt name o tuples new → same_name name x ≡ false → new x ≡ tuples x
      noted-other None new x h e = h x
      noted-other (Some t) new x h e = h x ∙ ap (λ b. cond b (Some t) (tuples x)) e

      pub settled-more : (new : Name → Option RecordTuple) (marks : List Bool) → IsNotedAt name term tuples new → get_or marks n false ≡ true → ((i : ℕ) → (i ≡ n → ⊥) → get_or marks i false ≡ get_or settled i false)
          → (x : Name) → new x ≡ tuple_so_far marks (record_tuple d x) (record_number d x)
      settled-more new marks noted here elsewhere x = go (same_name name x) refl
        where
          other : (o : Option ℕ) → record_number d x ≡ o → (x ≡ name → ⊥) → tuple_so_far settled (record_tuple d x) o ≡ tuple_so_far marks (record_tuple d x) o
          other None e h = refl
          other (Some k) e h = ap (λ b. cond b (record_tuple d x) None) (sym (elsewhere k (λ q. h (one-record d x name n (e ∙ ap Some q) number))))

          own : new name ≡ tuple_so_far marks (record_tuple d name) (record_number d name)
          own = noted-own term new refl noted ∙ (right ∙ sym (ap (tuple_so_far marks (record_tuple d name)) number ∙ ap (λ b. cond b (record_tuple d name) None) here))

          go : (s : Bool) → same_name name x ≡ s → new x ≡ tuple_so_far marks (record_tuple d x) (record_number d x)
          go true e = subst (λ (y : Name). new y ≡ tuple_so_far marks (record_tuple d y) (record_number d y)) (name-is name x e) own
          go false e = noted-other term new x noted e ∙ (so_far x ∙ other (record_number d x) refl (λ q. true≢false (sym (subst (λ (y : Name). same_name name y ≡ true) (sym q) (name-refl name)) ∙ e)))
