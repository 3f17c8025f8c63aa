-- Small texts, for the examples. The tokens of each lie in the first line, at the columns of its text.
use Rattle.std.specs.Prelude.{pos, List, [], ◌∷◌, codes}
use Rattle.erl_tree.specs.SmallText.{placed}
use Rattle.erl_tree.specs.declared.token.Placed.{Placed}
use Rattle.erl_tree.specs.declared.token.Token.TheVariants as T

-- `is_function(F, 256)`
abbrev pub arity_of_256 : List Placed
arity_of_256 = placed (T.Atom (codes "is_function")) 1 ∷ placed (T.Mark (codes "(")) 12 ∷ placed (T.Var (codes "F")) 13 ∷ placed (T.Mark (codes ",")) 14 ∷ placed (T.Int (pos 256)) 16 ∷ placed (T.Mark (codes ")")) 19 ∷ []

-- `m:f`
abbrev pub name_in_m : List Placed
name_in_m = placed (T.Atom (codes "m")) 1 ∷ placed (T.Mark (codes ":")) 2 ∷ placed (T.Atom (codes "f")) 3 ∷ []

-- `#{k => v ||`
abbrev pub map_of_all : List Placed
map_of_all = placed (T.Mark (codes "#")) 1 ∷ placed (T.Mark (codes "{")) 2 ∷ placed (T.Atom (codes "k")) 3 ∷ placed (T.Mark (codes "=>")) 5 ∷ placed (T.Atom (codes "v")) 8 ∷ placed (T.Mark (codes "||")) 10 ∷ []

-- `a`
abbrev pub only_a : List Placed
only_a = placed (T.Atom (codes "a")) 1 ∷ []

-- `{X, b`
abbrev pub open_tuple : List Placed
open_tuple = placed (T.Mark (codes "{")) 1 ∷ placed (T.Var (codes "X")) 2 ∷ placed (T.Mark (codes ",")) 3 ∷ placed (T.Atom (codes "b")) 5 ∷ []

-- `1`, without the end of the text
abbrev pub one_unended : List Placed
one_unended = placed (T.Int (pos 1)) 1 ∷ []

-- `1` and the end of the text
abbrev pub one_ended : List Placed
one_ended = placed (T.Int (pos 1)) 1 ∷ placed T.End 2 ∷ []

-- `1` and two ends
abbrev pub one_ended_twice : List Placed
one_ended_twice = placed (T.Int (pos 1)) 1 ∷ placed T.End 2 ∷ placed T.End 3 ∷ []
