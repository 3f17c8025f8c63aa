-- What is wrong with parts of specs.
use Rattle.std.specs.Prelude.{List, Bool}
use Rattle.type_terms.specs.Keys.{Name}
use Rattle.erl_tree.specs.declared.token.Node.{Node}
use Rattle.erl_tree.specs.declared.type_expr.TypeKind.{TypeKind}
use Rattle.erl_tree.specs.declared.form.SpecClauseKind.{SpecClauseKind}
use Rattle.erl_tree.specs.Functions.{spec_clauses_arity}
use Rattle.typespecs_rules.specs.declared.fault.PlacedFault.{PlacedFault}
use Rattle.typespecs_rules.specs.Declarations.{Declarations}
use Rattle.typespecs_rules.specs.TypeFaults.{type_faults, arities_differ}

-- the right side of a bound
abbrev pub bound_faults : Declarations → (Name → Bool) → Name × Node TypeKind → List PlacedFault
bound_faults declared allowed b = type_faults declared allowed b.1

-- clauses with another number of parameters than the first one, which has as many as itself
abbrev pub arity_faults : List (Node SpecClauseKind) → List PlacedFault
arity_faults cs = arities_differ (spec_clauses_arity cs) cs
