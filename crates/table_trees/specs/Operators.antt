-- The texts of tokens that are operators.
use Rattle.std.specs.Prelude.{ℕ, List, ◌≡◌, ◌⊎◌}
use Rattle.erl_tree.specs.declared.token.Token.{Token}
use Rattle.erl_tree.specs.declared.token.Token.TheVariants.{Word, Mark}

-- the token is this word or this mark
abbrev pub IsTokenOf : List ℕ → Token → Type 0
IsTokenOf text token = (token ≡ Word text) ⊎ (token ≡ Mark text)
