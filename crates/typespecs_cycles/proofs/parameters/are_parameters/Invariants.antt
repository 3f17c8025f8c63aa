use Rattle.std.proofs.Common.{◌≡◌, ◌+◌, ◌<◌, ℕ, get_or, take}
use Rattle.std.specs.Prelude.{Some}
use Rattle.erl_tree.specs.declared.token.Node.{Node}
use Rattle.erl_tree.specs.declared.type_expr.TypeKind.{TypeKind}
use Rattle.type_terms.specs.declared.term.Term.{Var}
use Rattle.typespecs_rules.specs.Declarations.{Declarations}
use Rattle.typespecs_rules.specs.TypeTerms.{type_term}
use Rattle.typespecs_rules.specs.TypeVariables.{parameters}
use Rattle.typespecs_cycles.proofs.Names.{seen_names}
use Rattle.typespecs_cycles.proofs.parameters.are_parameters.Given as goal

abbrev pub invariant-loop-position : goal.invariant-loop-position
invariant-loop-position l = record {
  names : seen_names l.before.keys ≡ take l.position l.params;
  terms : (d : Declarations) (k : ℕ) (t : Node TypeKind) → k < l.position → type_term d (parameters l.params) (get_or l.args k t) ≡ Some (Var (0 + k));
}
