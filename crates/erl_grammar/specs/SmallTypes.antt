-- Small types, for the examples. The tokens of each lie in the first line, at the columns of its text.
use Rattle.std.specs.Prelude.{ℕ, pos, List, [], ◌∷◌, Some, true, false, codes}
use Rattle.type_terms.specs.Keys.{Name}
use Rattle.erl_tree.specs.SmallText.{place, placed}
use Rattle.erl_tree.specs.declared.token.Placed.{Placed}
use Rattle.erl_tree.specs.declared.token.Node.{Node}
use Rattle.erl_tree.specs.declared.token.Token.TheVariants as T
use Rattle.erl_tree.specs.declared.pattern.LiteralKind.{LiteralKind}
use Rattle.erl_tree.specs.declared.pattern.LiteralKind.TheVariants as L
use Rattle.erl_tree.specs.declared.type_expr.TypeKind.{TypeKind}
use Rattle.erl_tree.specs.declared.type_expr.TypeKind.TheVariants as Y
use Rattle.erl_tree.specs.declared.type_expr.MapPart.{MapPart}
use Rattle.erl_grammar.specs.Grammar.{node}
use Rattle.erl_grammar.specs.TypeGrammar.{map_part_of}

-- ---- the parts of examples

-- an atom at a column
abbrev pub atom_type_at : Name → ℕ → Node TypeKind
atom_type_at a column = node (place column) (place column ∷ []) (Y.Atom a)

-- two types with `|` at a column between them
abbrev pub union_at : ℕ → Node TypeKind → Node TypeKind → Node TypeKind
union_at column t u = node t.place (place column ∷ []) (Y.Or t u)

-- a type with a variable at a column, and `::` at another, in front of it
abbrev pub named_at : Name → ℕ → ℕ → Node TypeKind → Node TypeKind
named_at x column colons t = node (place column) (place column ∷ place colons ∷ []) (Y.Named x t)

-- ---- unions and parameters

-- `a | b | c`, grouped to the right
abbrev pub union_right : Node TypeKind
union_right = union_at 3 (atom_type_at (codes "a") 1) (union_at 7 (atom_type_at (codes "b") 5) (atom_type_at (codes "c") 9))

-- the same, grouped to the left
abbrev pub union_left : Node TypeKind
union_left = union_at 7 (union_at 3 (atom_type_at (codes "a") 1) (atom_type_at (codes "b") 5)) (atom_type_at (codes "c") 9)

-- the tokens of `a | b | c`
abbrev pub union_tokens : List Placed
union_tokens = placed (T.Atom (codes "a")) 1 ∷ placed (T.Mark (codes "|")) 3 ∷ placed (T.Atom (codes "b")) 5 ∷ placed (T.Mark (codes "|")) 7 ∷ placed (T.Atom (codes "c")) 9 ∷ []

-- `X :: a | b`, as `X :: (a | b)`
abbrev pub union_named : Node TypeKind
union_named = named_at (codes "X") 1 3 (union_at 8 (atom_type_at (codes "a") 6) (atom_type_at (codes "b") 10))

-- the same, as `(X :: a) | b`
abbrev pub named_in_union : Node TypeKind
named_in_union = union_at 8 (named_at (codes "X") 1 3 (atom_type_at (codes "a") 6)) (atom_type_at (codes "b") 10)

-- the tokens of `X :: a | b`
abbrev pub union_named_tokens : List Placed
union_named_tokens = placed (T.Var (codes "X")) 1 ∷ placed (T.Mark (codes "::")) 3 ∷ placed (T.Atom (codes "a")) 6 ∷ placed (T.Mark (codes "|")) 8 ∷ placed (T.Atom (codes "b")) 10 ∷ []

-- `X :: a`
abbrev pub named_alone : Node TypeKind
named_alone = named_at (codes "X") 1 3 (atom_type_at (codes "a") 6)

-- `{X :: a}`
abbrev pub named_in_tuple : Node TypeKind
named_in_tuple = node (place 1) (place 1 ∷ place 8 ∷ []) (Y.Tuple (named_at (codes "X") 2 4 (atom_type_at (codes "a") 7) ∷ []))

-- ---- ranges and lists

-- `-1` in `-1..5`
abbrev pub minus_one : Node LiteralKind
minus_one = node (place 1) (place 1 ∷ place 2 ∷ []) (L.NegInt (pos 1))

-- `-1..5`
abbrev pub from_minus_one : Node TypeKind
from_minus_one = node (place 1) (place 3 ∷ []) (Y.Range minus_one (node (place 5) (place 5 ∷ []) (L.Int (pos 5))))

-- its tokens
abbrev pub from_minus_one_tokens : List Placed
from_minus_one_tokens = placed (T.Mark (codes "-")) 1 ∷ placed (T.Int (pos 1)) 2 ∷ placed (T.Mark (codes "..")) 3 ∷ placed (T.Int (pos 5)) 5 ∷ []

-- `a..5`
abbrev pub from_atom : Node TypeKind
from_atom = node (place 1) (place 2 ∷ []) (Y.Range (node (place 1) (place 1 ∷ []) (L.Atom (codes "a"))) (node (place 4) (place 4 ∷ []) (L.Int (pos 5))))

-- `[a, ...]`
abbrev pub some_atoms : Node TypeKind
some_atoms = node (place 1) (place 1 ∷ place 3 ∷ place 5 ∷ place 8 ∷ []) (Y.NonEmpty (atom_type_at (codes "a") 2))

-- its tokens
abbrev pub some_atoms_tokens : List Placed
some_atoms_tokens = placed (T.Mark (codes "[")) 1 ∷ placed (T.Atom (codes "a")) 2 ∷ placed (T.Mark (codes ",")) 3 ∷ placed (T.Mark (codes "...")) 5 ∷ placed (T.Mark (codes "]")) 8 ∷ []

-- `[a]`
abbrev pub list_of_atoms : Node TypeKind
list_of_atoms = node (place 1) (place 1 ∷ place 3 ∷ []) (Y.ListOf (atom_type_at (codes "a") 2))

-- ---- functions and maps

-- `fun((X :: a) -> b)`
abbrev pub fun_of_named : Node TypeKind
fun_of_named = node (place 1) (place 1 ∷ place 4 ∷ place 5 ∷ place 12 ∷ place 14 ∷ place 18 ∷ []) (Y.Fun (named_at (codes "X") 6 8 (atom_type_at (codes "a") 11) ∷ []) (atom_type_at (codes "b") 17))

-- its tokens
abbrev pub fun_of_named_tokens : List Placed
fun_of_named_tokens = placed (T.Word (codes "fun")) 1 ∷ placed (T.Mark (codes "(")) 4
    ∷ placed (T.Mark (codes "(")) 5 ∷ placed (T.Var (codes "X")) 6 ∷ placed (T.Mark (codes "::")) 8 ∷ placed (T.Atom (codes "a")) 11 ∷ placed (T.Mark (codes ")")) 12
    ∷ placed (T.Mark (codes "->")) 14 ∷ placed (T.Atom (codes "b")) 17 ∷ placed (T.Mark (codes ")")) 18 ∷ []

-- `fun((a) -> X :: b)`
abbrev pub fun_to_named : Node TypeKind
fun_to_named = node (place 1) (place 1 ∷ place 4 ∷ place 5 ∷ place 7 ∷ place 9 ∷ place 18 ∷ []) (Y.Fun (atom_type_at (codes "a") 6 ∷ []) (named_at (codes "X") 12 14 (atom_type_at (codes "b") 17)))

-- `a := b` in `#{a := b, c => d}`
abbrev pub a_to_b : Node MapPart
a_to_b = node (place 3) (place 5 ∷ []) (map_part_of (atom_type_at (codes "a") 3) true (atom_type_at (codes "b") 8))

-- `c => d` in `#{a := b, c => d}`
abbrev pub c_to_d : Node MapPart
c_to_d = node (place 11) (place 13 ∷ []) (map_part_of (atom_type_at (codes "c") 11) false (atom_type_at (codes "d") 16))

-- `#{a := b, c => d}`
abbrev pub map_of_two : Node TypeKind
map_of_two = node (place 1) (place 1 ∷ place 2 ∷ place 9 ∷ place 17 ∷ []) (Y.Map (a_to_b ∷ c_to_d ∷ []))

-- its tokens
abbrev pub map_of_two_tokens : List Placed
map_of_two_tokens = placed (T.Mark (codes "#")) 1 ∷ placed (T.Mark (codes "{")) 2 ∷ placed (T.Atom (codes "a")) 3 ∷ placed (T.Mark (codes ":=")) 5 ∷ placed (T.Atom (codes "b")) 8
    ∷ placed (T.Mark (codes ",")) 9 ∷ placed (T.Atom (codes "c")) 11 ∷ placed (T.Mark (codes "=>")) 13 ∷ placed (T.Atom (codes "d")) 16 ∷ placed (T.Mark (codes "}")) 17 ∷ []

-- ---- set operations

-- `ety:negation(a)`
abbrev pub negation_of_atom : Node TypeKind
negation_of_atom = node (place 1) (place 1 ∷ place 4 ∷ place 5 ∷ place 13 ∷ place 15 ∷ []) (Y.Use (Some (codes "ety")) (codes "negation") (atom_type_at (codes "a") 14 ∷ []))

-- its tokens
abbrev pub negation_of_atom_tokens : List Placed
negation_of_atom_tokens = placed (T.Atom (codes "ety")) 1 ∷ placed (T.Mark (codes ":")) 4 ∷ placed (T.Atom (codes "negation")) 5 ∷ placed (T.Mark (codes "(")) 13 ∷ placed (T.Atom (codes "a")) 14 ∷ placed (T.Mark (codes ")")) 15 ∷ []

-- `ety:other(a)`
abbrev pub other_of_atom : Node TypeKind
other_of_atom = node (place 1) (place 1 ∷ place 4 ∷ place 5 ∷ place 10 ∷ place 12 ∷ []) (Y.Use (Some (codes "ety")) (codes "other") (atom_type_at (codes "a") 11 ∷ []))

-- `ety:negation(a, b)`
abbrev pub negation_of_two : Node TypeKind
negation_of_two = node (place 1) (place 1 ∷ place 4 ∷ place 5 ∷ place 13 ∷ place 15 ∷ place 18 ∷ []) (Y.Use (Some (codes "ety")) (codes "negation") (atom_type_at (codes "a") 14 ∷ atom_type_at (codes "b") 17 ∷ []))
