-- How the patterns of the examples are written: a function for each form.
use Rattle.std.specs.Prelude.{ℕ, pos, List, Some, None}
use Rattle.type_terms.specs.Keys.{Name}
use Rattle.erl_tree.specs.declared.token.Node.{Node}
use Rattle.erl_tree.specs.declared.pattern.LiteralKind.{LiteralKind}
use Rattle.erl_tree.specs.declared.pattern.LiteralKind.TheVariants as L
use Rattle.erl_tree.specs.declared.pattern.PatternKind.TheVariants as P
use Rattle.examples_runs.specs.Trees.{node, Pattern}

abbrev pub int : ℕ → Pattern
int m = node (P.Int (pos m))

-- an integer behind a minus sign
abbrev pub minus : ℕ → Pattern
minus m = node (P.NegInt (pos m))

abbrev pub atom : Name → Pattern
atom a = node (P.Atom a)

abbrev pub char : ℕ → Pattern
char c = node (P.Char c)

abbrev pub text : Name → Pattern
text s = node (P.Str s)

abbrev pub var : Name → Pattern
var x = node (P.Var x)

abbrev pub paren : Pattern → Pattern
paren p = node (P.Paren p)

abbrev pub tuple : List Pattern → Pattern
tuple ps = node (P.Tuple ps)

abbrev pub list : List Pattern → Pattern
list ps = node (P.Cells ps None)

-- `[P1, .., Pn | T]`
abbrev pub list_onto : List Pattern → Pattern → Pattern
list_onto ps tail = node (P.Cells ps (Some tail))

-- `K := P`, with each kind of key
abbrev pub Entry : Type 0
Entry = Node (Node LiteralKind × Pattern)

abbrev pub at_int : ℕ → Pattern → Entry
at_int m p = node (node (L.Int (pos m)), p)

abbrev pub at_minus : ℕ → Pattern → Entry
at_minus m p = node (node (L.NegInt (pos m)), p)

abbrev pub at_atom : Name → Pattern → Entry
at_atom a p = node (node (L.Atom a), p)

abbrev pub at_char : ℕ → Pattern → Entry
at_char c p = node (node (L.Char c), p)

abbrev pub map : List Entry → Pattern
map entries = node (P.Map entries)

abbrev pub field : Name → Pattern → Node (Name × Pattern)
field name p = node (name, p)

-- `#name{..}`, of a record whose tuples begin with its name
abbrev pub rec : Name → List (Node (Name × Pattern)) → Pattern
rec name fields = node (P.Rec name name fields)

-- `P = Q`
abbrev pub alias : Pattern → Pattern → Pattern
alias p q = node (P.Alias p q)
