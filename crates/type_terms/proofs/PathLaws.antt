-- Paths stay in a closed set and descend in ranks.
use Rattle.std.proofs.Common.{◌≡◌, sym, ◌∙◌, subst, ℕ, zero, suc, ◌<◌, ◌≤◌, List, [], ◌∷◌, ◌++◌, length, get_or, Bool, true, false, arith}
use Rattle.std.proofs.lemmas.Bool.{false≢true}
use Rattle.std.proofs.lemmas.List.{get_or_default}
use Rattle.std.proofs.lemmas.List.Elements.{Contains-push, Contains-append_left}
use Rattle.std.specs.List.{Contains}
use Rattle.type_terms.specs.Graphs.{FallsFrom, NeverRises, AreIn, IsClosed}
use Rattle.type_terms.specs.Paths.{IsPath, edge, onward}
use Rattle.type_terms.proofs.Contained.{contains-none}

pub path-inside : (graph : List (List ℕ)) (set : List Bool) (n m : ℕ) → AreIn set (get_or graph n []) → IsClosed graph set → IsPath graph n m → get_or set m false ≡ true
path-inside graph set n _ start closed (edge _ m c) = start m c
path-inside graph set n _ start closed (onward _ k m p c) = closed k (path-inside graph set n k start closed p) m c

path-falls : (graph : List (List ℕ)) (ranks : List ℕ) → NeverRises graph ranks → (n m : ℕ) → FallsFrom graph ranks n → IsPath graph n m → get_or ranks m 0 < get_or ranks n 0
path-falls graph ranks r n _ f (edge _ m c) = f m c
path-falls graph ranks r n _ f (onward _ k m p c) = let a : get_or ranks k 0 < get_or ranks n 0 = path-falls graph ranks r n k f p in let b : get_or ranks m 0 ≤ get_or ranks k 0 = r k m c in omega arith

pub no-cycle : (graph : List (List ℕ)) (ranks : List ℕ) → NeverRises graph ranks → (n : ℕ) → FallsFrom graph ranks n → IsPath graph n n → ⊥
no-cycle graph ranks r n f p = let a : get_or ranks n 0 < get_or ranks n 0 = path-falls graph ranks r n n f p in omega arith

node-inside : (graph : List (List ℕ)) (n m : ℕ) → Contains (get_or graph n []) m → n < length graph
node-inside [] n m c = absurd (contains-none m c)
node-inside (l ∷ ls) zero m c = omega arith
node-inside (l ∷ ls) (suc n) m c = let a : n < length ls = node-inside ls n m c in omega arith

pub path-start : (graph : List (List ℕ)) (n m : ℕ) → IsPath graph n m → n < length graph
path-start graph n _ (edge _ m c) = node-inside graph n m c
path-start graph n _ (onward _ k m p c) = path-start graph n k p

pub no-cycle-at-all : (graph : List (List ℕ)) (count : ℕ) → length graph < suc count → ((n : ℕ) → n < count → IsPath graph n n → ⊥) → (n : ℕ) → IsPath graph n n → ⊥
no-cycle-at-all graph count l h n p = let a : n < length graph = path-start graph n n p in let b : n < count = omega arith in h n b p

pub no-members : {A : Type 0} (s : List Bool) (i : ℕ) → s ≡ [] → get_or s i false ≡ true → A
no-members s i e q = absurd (false≢true (subst (λ (l : List Bool). get_or l i false ≡ true) e q))

pub no-items : {A : Type 0} (s : List ℕ) (i : ℕ) → s ≡ [] → Contains s i → A
no-items s i e q = absurd (contains-none i (subst (λ (l : List ℕ). Contains l i) e q))

pub onward-by : (graph : List (List ℕ)) (n k : ℕ) (nodes : List ℕ) → nodes ≡ get_or graph k [] → IsPath graph n k → (i : ℕ) → Contains nodes i → IsPath graph n i
onward-by graph n k nodes e p i c = onward n k i p (subst (λ (l : List ℕ). Contains l i) e c)

pub edge-by : (graph : List (List ℕ)) (n : ℕ) (nodes : List ℕ) → nodes ≡ get_or graph n [] → (i : ℕ) → Contains nodes i → IsPath graph n i
edge-by graph n nodes e i c = edge n i (subst (λ (l : List ℕ). Contains l i) e c)

pub popped : (old new : List ℕ) (last : ℕ) → old ≡ new ++ last ∷ [] → Contains old last
popped old new last e = subst (λ (l : List ℕ). Contains l last) (sym e) (Contains-push new last)

pub kept-of-popped : (old new : List ℕ) (last i : ℕ) → old ≡ new ++ last ∷ [] → Contains new i → Contains old i
kept-of-popped old new last i e c = subst (λ (l : List ℕ). Contains l i) (sym e) (Contains-append_left new (last ∷ []) i c)

-- what holds at each index of a list holds of each of its items
pub at-items : (P : ℕ → Type 0) (xs : List ℕ) (n : ℕ) → length xs < suc n → ((k : ℕ) → k < n → P (get_or xs k 0)) → (m : ℕ) → Contains xs m → P m
at-items P xs n l h m c = let a : c.0 < length xs = c.1 in let b : c.0 < n = omega arith in subst P (get_or_default xs c.0 0 m c.1 ∙ c.2) (h c.0 b)

-- what holds of each list of a graph holds also of the empty lists past its end
pub at-lists : (P : ℕ → Type 0) (graph : List (List ℕ)) (count : ℕ) → length graph < suc count → (n m : ℕ) → Contains (get_or graph n []) m → n < count
at-lists P graph count l n m c = let a : n < length graph = node-inside graph n m c in omega arith
