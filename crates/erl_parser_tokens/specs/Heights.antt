-- How many levels trees have: what is counted while they are read.
use Rattle.std.specs.Prelude.{ℕ, zero, suc, ◌+◌, nat_le, if◌then◌else◌}
use Rattle.erl_tree.specs.declared.token.Place.{Place}
use Rattle.erl_parser_tokens.specs.declared.height.Height.{Height}
use Rattle.erl_parser_tokens.specs.declared.height.Measured.{Measured}

-- the place where a text begins
abbrev pub origin : Place
origin = record { line = 1; column = 1 }

-- what has no levels
abbrev pub flat : Height
flat = record { depth = 0; deepest = origin }

-- the greater of two heights, and the first where they are equal
abbrev pub higher : Height → Height → Height
higher h k = if nat_le k.depth h.depth then h else k

-- so many levels more, of what has any
abbrev pub raised_from : ℕ → ℕ → Place → Height
raised_from levels zero p = record { depth = 0; deepest = p }
raised_from levels (suc depth) p = record { depth = suc depth + levels; deepest = p }

abbrev pub raised : ℕ → Height → Height
raised levels h = raised_from levels h.depth h.deepest

-- the height of a node with parts of this height
abbrev pub above_from : Place → ℕ → Place → Height
above_from p zero q = record { depth = 1; deepest = p }
above_from p (suc depth) q = record { depth = suc (suc depth); deepest = q }

abbrev pub above : Place → Height → Height
above p h = above_from p h.depth h.deepest

-- a tree with its height
abbrev pub measured : {A : Type 0} → A → Height → Measured A
measured x h = record { tree = x; height = h }
