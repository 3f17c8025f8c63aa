-- Lists that are collected one by one, as long as nothing is absent.
use Rattle.std.specs.Prelude.{List, [], ◌∷◌, ◌++◌, Option, Some}
use Rattle.erl_runs.specs.Specs.{and_then}

-- one more behind others, where there are both
abbrev pub added : {A : Type 0} → Option (List A) → Option A → Option (List A)
added list item = and_then list (λ l. and_then item (λ x. Some (l ++ x ∷ [])))
