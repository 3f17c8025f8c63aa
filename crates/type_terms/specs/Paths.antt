-- Paths in a graph, which has for each node the list of those that follow it.
use Rattle.std.specs.Prelude.{ℕ, List, [], get_or}
use Rattle.std.specs.List.{Contains}

-- one or more edges lead from the first node to the second
pub data IsPath (graph : List (List ℕ)) : ℕ → ℕ → Type 0 where
  edge : (n m : ℕ) → Contains (get_or graph n []) m → IsPath graph n m
  onward : (n between m : ℕ) → IsPath graph n between → Contains (get_or graph between []) m → IsPath graph n m
