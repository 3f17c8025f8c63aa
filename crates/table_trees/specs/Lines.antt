-- Texts on one line.
use Rattle.std.specs.Prelude.{ℕ, List, All, ◌≢◌}

-- there is no line feed in it
abbrev pub IsOneLine : List ℕ → Type 0
IsOneLine bytes = All (λ b. b ≢ 10) bytes
