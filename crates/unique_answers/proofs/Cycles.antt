-- The least node that leads back to itself, and the nodes that are reached.
use Rattle.std.proofs.Common.{◌≡◌, refl, ap, ℕ, ◌<◌, Bool, true, false, List}
use Rattle.std.specs.Prelude.{◌↔◌, MatchOption, Option, Some, None, get_or}
use Rattle.type_terms.specs.Paths.{IsPath}
use Rattle.unique_answers.proofs.Small.{neither-below, both-ways}

abbrev IsLeast : List (List ℕ) → Option ℕ → Type 0
IsLeast graph a = MatchOption a ((n : ℕ) → IsPath graph n n → ⊥) (λ n. IsPath graph n n × ((m : ℕ) → m < n → IsPath graph m m → ⊥))

pub one-least : (graph : List (List ℕ)) (a b : Option ℕ) → IsLeast graph a → IsLeast graph b → a ≡ b
one-least graph None None h k = refl
one-least graph None (Some n) h k = absurd (h n k.0)
one-least graph (Some m) None h k = absurd (k m h.0)
one-least graph (Some m) (Some n) h k = ap Some (neither-below m n (λ l. k.1 m l h.0) (λ l. h.1 n l k.0))

abbrev AreReached : List (List ℕ) → ℕ → List Bool → Type 0
AreReached graph node seen = (m : ℕ) → (get_or seen m false ≡ true) ↔ IsPath graph node m

pub one-reached : (graph : List (List ℕ)) (node : ℕ) (seen other : List Bool) → AreReached graph node seen → AreReached graph node other → (m : ℕ) → get_or seen m false ≡ get_or other m false
one-reached graph node seen other h k m = both-ways (get_or seen m false) (get_or other m false) (λ e. (k m).1 ((h m).0 e)) (λ e. (h m).1 ((k m).0 e))
