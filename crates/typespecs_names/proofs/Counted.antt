-- Tables of names with numbers that count.
use Rattle.std.proofs.Common.{◌≡◌, ℕ, suc, ◌+◌, ◌<◌, ◌≤◌, Bool, true, false, cond, List, [], ◌∷◌, ◌++◌, length, drop, get_or, inl, inr, refl, sym, ap, ◌∙◌, subst, Option, Some, None, true≢false, arith}
use Rattle.std.proofs.lemmas.List.{drop_all}
use Rattle.erl_tree.specs.Lists.{Among}
use Rattle.erl_tree.specs.Functions.{FunctionId}
use Rattle.erl_runs.specs.Names.{same_id}
use Rattle.name_table.specs.Table.{Entry, ids, IsInsertion}
use Rattle.typespecs_rules.specs.TypeParts.{from_each}
use Rattle.typespecs_names.specs.Numbers.{first_number, or_first, numbered, IsAdded}
use Rattle.typespecs_names.proofs.LookUps.{same_id-itself, same_id-is}
use Rattle.typespecs_names.proofs.Steps.{rest_at}

or_none : (o : Option ℕ) → or_first o None ≡ o
or_none (Some n) = refl
or_none None = refl

or_assoc : (a b c : Option ℕ) → or_first (or_first a b) c ≡ or_first a (or_first b c)
or_assoc (Some n) b c = refl
or_assoc None b c = refl

-- one more at the end
first-push : (es : List Entry) (f : FunctionId) (n : ℕ) (id : FunctionId) → first_number (es ++ (f, n) ∷ []) id ≡ or_first (first_number es id) (cond (same_id id f) (Some n) None)
first-push [] f n id = refl
first-push (e ∷ es) f n id = by (same_id id e.0) (first-push es f n id)
  where
    by : (b : Bool) → first_number (es ++ (f, n) ∷ []) id ≡ or_first (first_number es id) (cond (same_id id f) (Some n) None)
        → cond b (Some e.1) (first_number (es ++ (f, n) ∷ []) id) ≡ or_first (cond b (Some e.1) (first_number es id)) (cond (same_id id f) (Some n) None)
    by true h = refl
    by false h = h

-- one that is there already has a number
there-already : (es : List Entry) (f : FunctionId) (o : Option ℕ) → Among f (ids es) → first_number es f ≡ or_first (first_number es f) o
there-already [] f o h = absurd h
there-already (e ∷ es) f o h = by (same_id f e.0) refl h (there-already es f o)
  where
    by : (b : Bool) → same_id f e.0 ≡ b → Among f (ids (e ∷ es)) → (Among f (ids es) → first_number es f ≡ or_first (first_number es f) o) → cond b (Some e.1) (first_number es f) ≡ or_first (cond b (Some e.1) (first_number es f)) o
    by true p h among = refl
    by false p (inl is) among = absurd (true≢false (sym (same_id-itself f) ∙ (ap (same_id f) is ∙ p)))
    by false p (inr later) among = among later

-- what an insertion adds
pub inserted : (b : Bool) (old : List Entry) (f : FunctionId) (n m : ℕ) (new : List Entry) → IsInsertion b old f n new → m ≡ n + 1 → IsAdded old n (f ∷ []) m new
inserted true old f n m new h counts = record { adds = λ id. ap (λ es. first_number es id) h.1 ∙ first-push old f n id; counts = counts }
inserted false old f n m new h counts = record { adds = λ id. ap (λ es. first_number es id) h.1 ∙ by id (same_id id f) refl; counts = counts }
  where
    by : (id : FunctionId) (b : Bool) → same_id id f ≡ b → first_number old id ≡ or_first (first_number old id) (cond b (Some n) None)
    by id true p = there-already old id (Some n) (subst (λ (g : FunctionId). Among g (ids old)) (sym (same_id-is id f p)) h.0)
    by id false p = sym (or_none (first_number old id))

pub nothing_added : (old : List Entry) (n : ℕ) (fs : List FunctionId) → fs ≡ [] → IsAdded old n fs n old
nothing_added old n fs none = record {
  adds = λ id. sym (ap (λ gs. or_first (first_number old id) (first_number (numbered n gs) id)) none ∙ or_none (first_number old id));
  counts = zero_more ∙ ap (λ (gs : List FunctionId). n + length gs) (sym none);
}
  where
    zero_more : n ≡ n + 0
    zero_more = omega arith

numbered-append : (n m : ℕ) (fs gs : List FunctionId) (id : FunctionId) → m ≡ n + length fs → first_number (numbered n (fs ++ gs)) id ≡ or_first (first_number (numbered n fs) id) (first_number (numbered m gs) id)
numbered-append n m [] gs id is = ap (λ k. first_number (numbered k gs) id) (sym same)
  where
    same : m ≡ n
    same = omega arith
numbered-append n m (f ∷ fs) gs id is = by (same_id id f) (numbered-append (suc n) m fs gs id later)
  where
    later : m ≡ suc n + length fs
    later = omega arith

    by : (b : Bool) → first_number (numbered (suc n) (fs ++ gs)) id ≡ or_first (first_number (numbered (suc n) fs) id) (first_number (numbered m gs) id)
        → cond b (Some n) (first_number (numbered (suc n) (fs ++ gs)) id) ≡ or_first (cond b (Some n) (first_number (numbered (suc n) fs) id)) (first_number (numbered m gs) id)
    by true h = refl
    by false h = h

length-append_by : (fs gs : List FunctionId) → length (fs ++ gs) ≡ length fs + length gs
length-append_by [] gs = omega arith
length-append_by (f ∷ fs) gs = omega (arith, length-append_by fs gs)

-- some, and then others
pub then_added : (old mid new : List Entry) (n m k : ℕ) (fs gs : List FunctionId) → IsAdded old n fs m mid → IsAdded mid m gs k new → IsAdded old n (fs ++ gs) k new
then_added old mid new n m k fs gs h l = record {
  adds = λ id. l.adds id ∙ (ap (λ o. or_first o (first_number (numbered m gs) id)) (h.adds id) ∙ (or_assoc (first_number old id) (first_number (numbered n fs) id) (first_number (numbered m gs) id) ∙ ap (or_first (first_number old id)) (sym (numbered-append n m fs gs id h.counts))));
  counts = total;
}
  where
    total : k ≡ n + length (fs ++ gs)
    total = omega (arith, h.counts, l.counts, length-append_by fs gs)

-- ---- loops

module _ {A : Type 0} (of : A → List FunctionId) (xs : List A) (start : List Entry) (first : ℕ) where
  -- what is added from here on is all that is left to add
  abbrev pub IsAddedTo : ℕ → ℕ → List Entry → Type 0
  IsAddedTo i n table = (m : ℕ) (new : List Entry) → IsAdded table n (from_each of (drop i xs)) m new → IsAdded start first (from_each of xs) m new

  pub added_next : (i : ℕ) (x : A) (n m : ℕ) (old new : List Entry) → i < length xs → x ≡ get_or xs i x → IsAdded old n (of x) m new → IsAddedTo i n old → IsAddedTo (i + 1) m new
  added_next i x n m old new lt is h so_far k last l = so_far k last (subst (λ ys. IsAdded old n (from_each of ys) k last) (sym (rest_at xs i x lt is)) (then_added old new last n m k (of x) (from_each of (drop (i + 1) xs)) h l))

  pub added_last : (i n : ℕ) (table empty : List Entry) → length xs ≤ i → start ≡ empty → IsAddedTo i n table → IsAdded empty first (from_each of xs) n table
  added_last i n table empty end is so_far = subst (λ (es : List Entry). IsAdded es first (from_each of xs) n table) is (so_far n table (nothing_added table n (from_each of (drop i xs)) (ap (from_each of) (drop_all i xs end))))
