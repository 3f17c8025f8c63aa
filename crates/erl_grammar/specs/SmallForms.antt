-- Small forms, for the examples. The tokens of each lie in the first line, at the columns of its text.
use Rattle.std.specs.Prelude.{ℕ, List, [], ◌∷◌, None, codes}
use Rattle.type_terms.specs.Keys.{Name}
use Rattle.erl_tree.specs.SmallText.{place, placed}
use Rattle.erl_tree.specs.declared.token.Placed.{Placed}
use Rattle.erl_tree.specs.declared.token.Node.{Node}
use Rattle.erl_tree.specs.declared.token.Token.TheVariants as T
use Rattle.erl_tree.specs.declared.pattern.PatternKind.{PatternKind}
use Rattle.erl_tree.specs.declared.pattern.PatternKind.TheVariants as P
use Rattle.erl_tree.specs.declared.expr.ClauseKind.{ClauseKind}
use Rattle.erl_tree.specs.declared.form.Function.{Function}
use Rattle.erl_tree.specs.declared.form.TreeForm.{TreeForm}
use Rattle.erl_tree.specs.declared.form.TreeForm.TheVariants as F
use Rattle.erl_grammar.specs.Grammar.{node, clause_of}
use Rattle.erl_grammar.specs.SmallTrees.{item_at}

-- ---- functions

-- a pattern that is an atom at a column
abbrev pub atom_pattern_at : Name → ℕ → Node PatternKind
atom_pattern_at a column = node (place column) (place column ∷ []) (P.Atom a)

-- `f(a) -> b` in `f(a) -> b; f(c) -> d.`
abbrev pub a_gives_b : Node ClauseKind
a_gives_b = node (place 1) (place 1 ∷ place 2 ∷ place 4 ∷ place 6 ∷ []) (clause_of (atom_pattern_at (codes "a") 3 ∷ []) None (item_at (codes "b") 9 ∷ []))

-- `f(c) -> d` in `f(a) -> b; f(c) -> d.`
abbrev pub c_gives_d : Node ClauseKind
c_gives_d = node (place 12) (place 12 ∷ place 13 ∷ place 15 ∷ place 17 ∷ []) (clause_of (atom_pattern_at (codes "c") 14 ∷ []) None (item_at (codes "d") 20 ∷ []))

-- `f(a) -> b; f(c) -> d.`
abbrev pub function_of_two : Function
function_of_two = record { name = codes "f"; place = place 1; marks = place 10 ∷ place 21 ∷ []; clauses = a_gives_b ∷ c_gives_d ∷ [] }

-- its tokens
abbrev pub function_of_two_tokens : List Placed
function_of_two_tokens = placed (T.Atom (codes "f")) 1 ∷ placed (T.Mark (codes "(")) 2 ∷ placed (T.Atom (codes "a")) 3 ∷ placed (T.Mark (codes ")")) 4 ∷ placed (T.Mark (codes "->")) 6 ∷ placed (T.Atom (codes "b")) 9 ∷ placed (T.Mark (codes ";")) 10
    ∷ placed (T.Atom (codes "f")) 12 ∷ placed (T.Mark (codes "(")) 13 ∷ placed (T.Atom (codes "c")) 14 ∷ placed (T.Mark (codes ")")) 15 ∷ placed (T.Mark (codes "->")) 17 ∷ placed (T.Atom (codes "d")) 20 ∷ placed T.Dot 21 ∷ []

-- a function without clauses
abbrev pub function_of_none : Function
function_of_none = record { name = codes "f"; place = place 1; marks = place 1 ∷ []; clauses = [] }

-- ---- other attributes

-- `-name.`, with the dot at a column
abbrev pub attribute_at : Name → ℕ → TreeForm
attribute_at attribute dot = F.Skipped (node (place 1) (place 1 ∷ place 2 ∷ place dot ∷ []) (record { name = attribute; tokens = [] }))

-- the tokens of `-foo.`
abbrev pub foo_tokens : List Placed
foo_tokens = placed (T.Mark (codes "-")) 1 ∷ placed (T.Atom (codes "foo")) 2 ∷ placed T.Dot 5 ∷ []
