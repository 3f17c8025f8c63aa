-- Small types and modules, for the examples. Places count, and are those of the text; marks don't, but for the names of declarations, and are left out.
use Rattle.std.specs.Prelude.{ℕ, pos, Option, Bool, List, [], ◌∷◌, None, true, false, codes}
use Rattle.type_terms.specs.Keys.{Name}
use Rattle.erl_tree.specs.declared.token.Node.{Node}
use Rattle.erl_tree.specs.declared.pattern.LiteralKind.TheVariants as L
use Rattle.erl_tree.specs.declared.type_expr.TypeKind.{TypeKind}
use Rattle.erl_tree.specs.declared.type_expr.TypeKind.TheVariants as Y
use Rattle.erl_tree.specs.declared.type_expr.MapPart.{MapPart}
use Rattle.erl_tree.specs.SmallText.{place}
use Rattle.erl_grammar.specs.Grammar.{node}
use Rattle.erl_grammar.specs.TypeGrammar.{map_part_of}
use Rattle.type_terms.specs.declared.term.Term.{Term}
use Rattle.typespecs_rules.specs.Declarations.{nothing_declared}
use Rattle.typespecs_rules.specs.TypeTerms.{type_term, no_variables}
use Rattle.typespecs_rules.specs.declared.fault.PlacedFault.{PlacedFault}
use Rattle.typespecs_rules.specs.declared.fault.TypeFault.{TypeFault}
use Rattle.typespecs_rules.specs.TypeFaults.{fault_at, type_faults, any_variable}

-- a node in the first line
abbrev pub at : {K : Type 0} → ℕ → K → Node K
at column kind = node (place column) [] kind

-- the term of a type without variables, where nothing is declared
abbrev pub alone : TypeKind → Option Term
alone t = type_term nothing_declared no_variables (at 1 t)

-- what is wrong with a type where nothing is declared
abbrev pub wrong : TypeKind → List PlacedFault
wrong t = type_faults nothing_declared any_variable (at 1 t)

-- a fault in the first line
abbrev pub fault : TypeFault → ℕ → PlacedFault
fault what column = fault_at what (place column)

-- the atoms a and b, the integer n, and a type's name with arguments
abbrev pub atom_a : ℕ → Node TypeKind
atom_a column = at column (Y.Atom (codes "a"))

abbrev pub atom_b : ℕ → Node TypeKind
atom_b column = at column (Y.Atom (codes "b"))

abbrev pub used : Name → List (Node TypeKind) → TypeKind
used name args = Y.Use None name args

-- `1..$a`, `2..-1`
abbrev pub range_of_characters : TypeKind
range_of_characters = Y.Range (at 1 (L.Int (pos 1))) (at 4 (L.Char 97))

abbrev pub empty_range : TypeKind
empty_range = Y.Range (at 1 (L.Int (pos 2))) (at 4 (L.NegInt (pos 1)))

-- a part of a map type at a column
abbrev pub part_at : ℕ → TypeKind → Bool → Node TypeKind → Node MapPart
part_at column key required value = at column (map_part_of (at column key) required value)

-- `#{a:=a,1=>b,integer()=>a}`
abbrev pub some_map : TypeKind
some_map = Y.Map (part_at 3 (Y.Atom (codes "a")) true (atom_a 6) ∷ part_at 8 (Y.Int (pos 1)) false (atom_b 11) ∷ part_at 13 (used (codes "integer") []) false (atom_a 24) ∷ [])

-- `#{$a=>a,97=>b}`
abbrev pub one_key_twice : TypeKind
one_key_twice = Y.Map (part_at 3 (Y.Char 97) false (atom_a 7) ∷ part_at 9 (Y.Int (pos 97)) false (atom_b 13) ∷ [])

-- `#{(a)=>a}`
abbrev pub key_in_parentheses : TypeKind
key_in_parentheses = Y.Map (part_at 3 (Y.Paren (atom_a 4)) false (atom_a 8) ∷ [])

-- `#{pid()=>a}`
abbrev pub key_out_of_profile : TypeKind
key_out_of_profile = Y.Map (part_at 3 (used (codes "pid") []) false (atom_a 10) ∷ [])

-- `#{integer():=a}`
abbrev pub required_rest : TypeKind
required_rest = Y.Map (part_at 3 (used (codes "integer") []) true (atom_a 14) ∷ [])

-- `#{-0=>a,0=>b}`
abbrev pub zero_twice : TypeKind
zero_twice = Y.Map (part_at 3 (Y.NegInt (pos 0)) false (atom_a 6) ∷ part_at 8 (Y.Int (pos 0)) false (atom_b 11) ∷ [])

-- `#{integer()=>a,integer()=>b}`
abbrev pub rest_twice : TypeKind
rest_twice = Y.Map (part_at 3 (used (codes "integer") []) false (atom_a 14) ∷ part_at 16 (used (codes "integer") []) false (atom_b 27) ∷ [])

-- `#{foo()=>a}`
abbrev pub key_unknown : TypeKind
key_unknown = Y.Map (part_at 3 (used (codes "foo") []) false (atom_a 10) ∷ [])
