-- How large an integer of a source text may be.
use Rattle.std.specs.Prelude.{ℕ, pos, negsuc, ◌<◌}
use Rattle.erl_tree.specs.declared.token.Token.{Token}
use Rattle.erl_tree.specs.declared.token.Token.TheVariants.{Int}

-- the greatest integer of a source text, 2 ^ 127 - 2
abbrev pub integer_limit : ℕ
integer_limit = 170141183460469231731687303715884105726

-- an integer above the limit, or a negative one, which no text has: a minus sign is a token of its own
abbrev pub IsAboveLimit : Token → Type 0
IsAboveLimit (Int (pos n)) = integer_limit < n
IsAboveLimit (Int (negsuc n)) = Unit {0}
IsAboveLimit _ = ⊥

-- no integer that is negative or above the limit
abbrev pub IsInLimit : Token → Type 0
IsInLimit t = IsAboveLimit t → ⊥
