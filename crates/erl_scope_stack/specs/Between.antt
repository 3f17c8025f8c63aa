-- Parts of a list that has the latest first.
use Rattle.std.specs.Prelude.{ℕ, List}
use Rattle.erl_scope_stack.specs.State.{above, below}

-- what is among the first `high`, and above the first `low`
unfoldable pub between : {A : Type 0} → (low high : ℕ) → List A → List A
between low high xs = above low (below high xs)
