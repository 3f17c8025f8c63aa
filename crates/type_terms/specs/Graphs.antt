-- Ranks of the nodes of a graph, and sets of nodes that no edge leaves.
use Rattle.std.specs.Prelude.{◌≡◌, ℕ, ◌<◌, ◌≤◌, List, [], get_or, Bool, true, false}
use Rattle.std.specs.List.{Contains}

-- each edge from a node leads to one of a lower rank
abbrev pub FallsFrom : List (List ℕ) → List ℕ → ℕ → Type 0
FallsFrom graph ranks n = (m : ℕ) → Contains (get_or graph n []) m → get_or ranks m 0 < get_or ranks n 0

-- no edge leads to a node of a higher rank
abbrev pub NeverRises : List (List ℕ) → List ℕ → Type 0
NeverRises graph ranks = (n m : ℕ) → Contains (get_or graph n []) m → get_or ranks m 0 ≤ get_or ranks n 0

-- the nodes of a list are in a set
abbrev pub AreIn : List Bool → List ℕ → Type 0
AreIn set nodes = (m : ℕ) → Contains nodes m → get_or set m false ≡ true

-- what follows a node of a set is in it
abbrev pub IsClosed : List (List ℕ) → List Bool → Type 0
IsClosed graph set = (n : ℕ) → get_or set n false ≡ true → AreIn set (get_or graph n [])
