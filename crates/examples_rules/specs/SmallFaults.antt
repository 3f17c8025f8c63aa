-- Small modules and types with faults, for the examples. Places count, and are those of the text; marks don't, and are left out.
use Rattle.std.specs.Prelude.{ℕ, [], ◌∷◌, false, codes}
use Rattle.type_terms.specs.Keys.{Name}
use Rattle.erl_tree.specs.declared.token.Node.{Node}
use Rattle.erl_tree.specs.declared.type_expr.TypeKind.{TypeKind}
use Rattle.erl_tree.specs.declared.type_expr.TypeKind.TheVariants as Y
use Rattle.erl_tree.specs.declared.form.Module.{Module}
use Rattle.typespecs_rules.specs.SmallTypes.{at, used, atom_a, atom_b, part_at}
use Rattle.typespecs_rules.specs.SmallModules.{module_of, spec_form, clause, name_t}
use Rattle.typespecs_rules.specs.SmallModules as small

-- `-spec f(foo()) -> a; () -> a.` in the second line
abbrev pub two_faults : Module
two_faults = module_of (spec_form 2 (clause 2 8 (small.at 2 9 (used (codes "foo") []) ∷ []) (small.atom_a 2 19) [] ∷ clause 2 22 [] (small.atom_a 2 28) [] ∷ []) ∷ [])

-- `foo()`
abbrev pub unknown : Node TypeKind
unknown = at 1 (used (codes "foo") [])

-- `#{a=>foo(),a=>b}`
abbrev pub key_twice_behind_unknown : TypeKind
key_twice_behind_unknown = Y.Map (part_at 3 (Y.Atom (codes "a")) false (at 6 (used (codes "foo") [])) ∷ part_at 12 (Y.Atom (codes "a")) false (atom_b 15) ∷ [])

-- `t(a)`
abbrev pub t_of_a : Node TypeKind
t_of_a = at 1 (used name_t (atom_a 3 ∷ []))

-- a variable
abbrev pub variable_at : ℕ → Name → Node TypeKind
variable_at column x = at column (Y.Var x)

-- `X | Y`
abbrev pub either : Node TypeKind
either = at 1 (Y.Or (variable_at 1 (codes "X")) (variable_at 5 (codes "Y")))

-- `{_,X}`
abbrev pub wildcard_and_variable : Node TypeKind
wildcard_and_variable = at 1 (Y.Tuple (variable_at 2 (codes "_") ∷ variable_at 4 (codes "X") ∷ []))
