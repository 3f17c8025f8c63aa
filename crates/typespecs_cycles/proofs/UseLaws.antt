-- Uses that lead back, declaration by declaration.
use Rattle.std.proofs.Common.{◌≡◌, refl, ap, sym, subst, ◌∙◌, ℕ, suc, zero, ◌+◌, ◌<◌, ◌≤◌, ◌⊎◌, inl, inr, List, [], ◌∷◌, length, get_or, map, Bool, true, false, true≢false, ◌↔◌, arith}
use Rattle.std.proofs.lemmas.Bool.{ltb-true, ltb-false}
use Rattle.std.specs.Prelude.{Option, Some, None, IsTrue, slice_get, nat_lt}
use Rattle.type_terms.specs.Keys.{Name}
use Rattle.type_terms.specs.Graphs.{NeverRises}
use Rattle.type_terms.specs.Paths.{IsPath, edge, onward}
use Rattle.erl_tree.specs.Lists.{Among}
use Rattle.erl_tree.specs.declared.token.Node.{Node}
use Rattle.erl_tree.specs.declared.type_expr.TypeKind.{TypeKind}
use Rattle.typespecs_rules.specs.declared.fault.PlacedFault.{PlacedFault}
use Rattle.typespecs_rules.specs.Declarations.{Declarations}
use Rattle.typespecs_rules.specs.RegularUse.{PassesOthers, PassesParameters, IsInfinite, mentioned_by, expanded_by, mention_graph, expansion_graph, if_some}
use Rattle.typespecs_cycles.specs.DeclarationParts.{Inner, IsIrregularIn}
use Rattle.typespecs_cycles.specs.FirstFaults.{IsFirstWith, OfSome}
use Rattle.typespecs_cycles.specs.GraphFaults.{IsIrregularUse}
use Rattle.typespecs_cycles.proofs.FirstLaws.{First, Faults, in-turn, alike, none-more}

-- ---- ranks

-- no path leads to a higher rank
pub path-stays : (graph : List (List ℕ)) (ranks : List ℕ) → NeverRises graph ranks → (n m : ℕ) → IsPath graph n m → get_or ranks m 0 ≤ get_or ranks n 0
path-stays graph ranks r n _ (edge _ m c) = r n m c
path-stays graph ranks r n _ (onward _ k m p c) = let a : get_or ranks k 0 ≤ get_or ranks n 0 = path-stays graph ranks r n k p in let b : get_or ranks m 0 ≤ get_or ranks k 0 = r k m c in omega arith

pub no-path : (graph : List (List ℕ)) (ranks : List ℕ) → NeverRises graph ranks → (n m : ℕ) → get_or ranks n 0 < get_or ranks m 0 → IsPath graph n m → ⊥
no-path graph ranks r n m lt p = let a : get_or ranks m 0 ≤ get_or ranks n 0 = path-stays graph ranks r n m p in omega arith

-- ---- one use

among-one : (n : ℕ) → Among n (n ∷ [])
among-one n = inl refl

only-one : (n used : ℕ) → Among used (n ∷ []) → used ≡ n
only-one n used (inl e) = e
only-one n used (inr a) = absurd a

none-of : (o : Option ℕ) (xs : List ℕ) (used : ℕ) → o ≡ None → if_some o ≡ xs → Among used xs → ⊥
none-of o xs used e is a = subst (λ l. Among used l) (sym is ∙ ap if_some e) a

one-of : (o : Option ℕ) (n : ℕ) (xs : List ℕ) → o ≡ Some n → if_some o ≡ xs → xs ≡ n ∷ []
one-of o n xs e is = sym is ∙ ap if_some e

module _ (d : Declarations) (t : Node TypeKind) (n : ℕ) (params : List Name) (o : Option ℕ) (mentioned : if_some o ≡ mentioned_by d t) where
  abbrev Others : Type 0
  Others = PassesOthers d n (record { params = params; types = [] }) t

  pub passes-nothing : o ≡ None → Others → ⊥
  passes-nothing e p = none-of o (mentioned_by d t) p.0 e mentioned p.1

  pub passes-own : PassesParameters d params t → Others → ⊥
  passes-own own p = p.3 own

  pub passes-by : (used : ℕ) (b : Bool) → o ≡ Some used → (PassesParameters d params t → ⊥) → (IsTrue b ↔ IsPath (mention_graph d) used n) → IsTrue b ↔ Others
  passes-by used b e differ leads = (
    (λ h. (used, subst (λ l. Among used l) (sym (one-of o used (mentioned_by d t) e mentioned)) (among-one used), leads.0 h, differ)),
    (λ p. leads.1 (subst (λ u. IsPath (mention_graph d) u n) (only-one used p.0 (subst (λ l. Among p.0 l) (one-of o used (mentioned_by d t) e mentioned) p.1)) p.2)),
  )

module _ (d : Declarations) (t : Node TypeKind) (n : ℕ) (o : Option ℕ) (expanded : if_some o ≡ expanded_by d t) where
  pub expands-nothing : o ≡ None → IsInfinite d n t → ⊥
  expands-nothing e p = none-of o (expanded_by d t) p.0 e expanded p.1

  pub expands-by : (used : ℕ) (b : Bool) → o ≡ Some used → (IsTrue b ↔ IsPath (expansion_graph d) used n) → IsTrue b ↔ IsInfinite d n t
  expands-by used b e leads = (
    (λ h. (used, subst (λ l. Among used l) (sym (one-of o used (expanded_by d t) e expanded)) (among-one used), leads.0 h)),
    (λ p. leads.1 (subst (λ u. IsPath (expansion_graph d) u n) (only-one used p.0 (subst (λ l. Among p.0 l) (one-of o used (expanded_by d t) e expanded) p.1)) p.2)),
  )

-- the second of two, where the first isn't so
pub second : (P Q : Type 0) (b : Bool) → (P → ⊥) → (IsTrue b ↔ Q) → IsTrue b ↔ (P ⊎ Q)
second P Q b never says = ((λ h. inr (says.0 h)), (λ x. by x))
  where
    by : P ⊎ Q → IsTrue b
    by (inl p) = absurd (never p)
    by (inr q) = says.1 q

-- what an answer that is no refutes
pub told-not : (P : Type 0) (b : Bool) → b ≡ false → (IsTrue b ↔ P) → P → ⊥
told-not P b e says p = true≢false (sym (says.1 p) ∙ e)

-- ---- lists of declarations

get-below : {A : Type 0} (xs : List A) (i : ℕ) (x : A) → slice_get xs i ≡ Some x → i < length xs
get-below [] i x e = absurd (cc)
get-below (y ∷ ys) zero x e = omega arith
get-below (y ∷ ys) (suc i) x e = let l : i < length ys = get-below ys i x e in omega arith

get-at : {A B : Type 0} (v : A → B) (xs : List A) (i : ℕ) (x : A) → i < length xs → x ≡ get_or xs i x → slice_get (map v xs) i ≡ Some (v x)
get-at v [] i x lt is = absurd (omega arith)
get-at v (y ∷ ys) zero x lt is = ap (λ z. Some (v z)) (sym is)
get-at v (y ∷ ys) (suc i) x lt is = get-at v ys i x (omega arith) is

same-some : {A : Type 0} (x y : A) → Some x ≡ Some y → x ≡ y
same-some x y e = cc

map-length : {A B : Type 0} (v : A → B) (xs : List A) → length (map v xs) ≡ length xs
map-length v [] = refl
map-length v (x ∷ xs) = ap suc (map-length v xs)

-- the irregular uses in the declarations before this number
abbrev pub IsIrregularBefore : Declarations → List Inner → ℕ → PlacedFault → Type 0
IsIrregularBefore declared ds i f = (n : ℕ) × (n < i) × (x : Inner) × (slice_get ds n ≡ Some x) × OfSome (IsIrregularUse declared n x.0) x.1 f

module _ (d : Declarations) (start : First) {A : Type 0} (v : A → Inner) (xs : List A) where
  pub irregular-start : IsFirstWith start (IsIrregularBefore d (map v xs) 0) start
  irregular-start = none-more (IsIrregularBefore d (map v xs) 0) start (λ f o. let l : o.0 < 0 = o.1 in omega arith)

  pub irregular-next : (i : ℕ) (x : A) (first new : First) → i < length xs → x ≡ get_or xs i x → IsFirstWith first (OfSome (IsIrregularUse d i (v x).0) (v x).1) new
      → IsFirstWith start (IsIrregularBefore d (map v xs) i) first → IsFirstWith start (IsIrregularBefore d (map v xs) (i + 1)) new
  irregular-next i x first new lt is step so_far =
      alike (λ f. IsIrregularBefore d (map v xs) i f ⊎ OfSome (IsIrregularUse d i (v x).0) (v x).1 f) (IsIrregularBefore d (map v xs) (i + 1)) start new (λ f. into f) (λ f. from f)
      (in-turn (IsIrregularBefore d (map v xs) i) (OfSome (IsIrregularUse d i (v x).0) (v x).1) start first new so_far step)
    where
      at : slice_get (map v xs) i ≡ Some (v x)
      at = get-at v xs i x lt is

      into : (f : PlacedFault) → IsIrregularBefore d (map v xs) i f ⊎ OfSome (IsIrregularUse d i (v x).0) (v x).1 f → IsIrregularBefore d (map v xs) (i + 1) f
      into f (inl o) = let l : o.0 < i = o.1 in let m : o.0 < i + 1 = omega arith in (o.0, m, o.2, o.3, o.4)
      into f (inr o) = let m : i < i + 1 = omega arith in (i, m, v x, at, o)

      split : (a b : ℕ) → a < b + 1 → (a < b) ⊎ (a ≡ b)
      split a b l = by (nat_lt a b) refl
        where
          by : (c : Bool) → nat_lt a b ≡ c → (a < b) ⊎ (a ≡ b)
          by true q = inl (ltb-true a b q)
          by false q = let g : b ≤ a = ltb-false a b q in inr (omega arith)

      one : (f : PlacedFault) (n : ℕ) (y : Inner) → slice_get (map v xs) n ≡ Some y → OfSome (IsIrregularUse d n y.0) y.1 f → (n < i) ⊎ (n ≡ i) → IsIrregularBefore d (map v xs) i f ⊎ OfSome (IsIrregularUse d i (v x).0) (v x).1 f
      one f n y here o (inl l) = inl (n, l, y, here, o)
      one f n y here o (inr e) =
          let same : y ≡ v x = same-some y (v x) (sym here ∙ (ap (slice_get (map v xs)) e ∙ at)) in
          inr (subst (λ z. OfSome (IsIrregularUse d i z.0) z.1 f) same (subst (λ m. OfSome (IsIrregularUse d m y.0) y.1 f) e o))

      from : (f : PlacedFault) → IsIrregularBefore d (map v xs) (i + 1) f → IsIrregularBefore d (map v xs) i f ⊎ OfSome (IsIrregularUse d i (v x).0) (v x).1 f
      from f o = one f o.0 o.2 o.3 o.4 (split o.0 i o.1)

  pub irregular-end : (i : ℕ) (first : First) → length xs ≤ i → IsFirstWith start (IsIrregularBefore d (map v xs) i) first → IsFirstWith start (IsIrregularIn d (map v xs)) first
  irregular-end i first le so_far =
      alike (IsIrregularBefore d (map v xs) i) (IsIrregularIn d (map v xs)) start first
      (λ f o. (o.0, o.2, o.3, o.4)) (λ f o. let l : o.0 < length (map v xs) = get-below (map v xs) o.0 o.1 o.2 in let e : length (map v xs) ≡ length xs = map-length v xs in let m : o.0 < i = omega arith in (o.0, m, o.1, o.2, o.3)) so_far

-- faults of what references lead to
module _ {A B : Type 0} (P : B → Faults) (v : A → B) where
  pub map-into : (xs : List A) (f : PlacedFault) → OfSome (λ x. P (v x)) xs f → OfSome P (map v xs) f
  map-into [] f o = absurd o.1
  map-into (y ∷ ys) f o = by o.0 o.1 o.2 (map-into ys f)
    where
      by : (x : A) → Among x (y ∷ ys) → P (v x) f → (OfSome (λ z. P (v z)) ys f → OfSome P (map v ys) f) → OfSome P (map v (y ∷ ys)) f
      by x (inl e) p later = (v y, inl refl, subst (λ z. P (v z) f) e p)
      by x (inr a) p later = let r : OfSome P (map v ys) f = later (x, a, p) in (r.0, inr r.1, r.2)

  pub map-from : (xs : List A) (f : PlacedFault) → OfSome P (map v xs) f → OfSome (λ x. P (v x)) xs f
  map-from [] f o = absurd o.1
  map-from (y ∷ ys) f o = by o.0 o.1 o.2 (map-from ys f)
    where
      by : (z : B) → Among z (v y ∷ map v ys) → P z f → (OfSome P (map v ys) f → OfSome (λ x. P (v x)) ys f) → OfSome (λ x. P (v x)) (y ∷ ys) f
      by z (inl e) p later = (y, inl refl, subst (λ w. P w f) e p)
      by z (inr a) p later = let r : OfSome (λ x. P (v x)) ys f = later (z, a, p) in (r.0, inr r.1, r.2)
