-- Specs among forms, in no clause of which a bound leads back to its own variable.
use Rattle.std.specs.Prelude.{List}
use Rattle.erl_tree.specs.declared.token.Node.{Node}
use Rattle.erl_tree.specs.declared.form.SpecKind.{SpecKind}
use Rattle.erl_tree.specs.declared.form.SpecClauseKind.{SpecClauseKind}
use Rattle.erl_tree.specs.declared.form.TreeForm.{TreeForm}
use Rattle.erl_tree.specs.Lists.{Among}
use Rattle.erl_runs.specs.Specs.{specs_in}
use Rattle.typespecs_rules.specs.Bounds.{IsCyclic}

abbrev pub HaveNoCyclicBound : List TreeForm → Type 0
HaveNoCyclicBound forms = (s : Node SpecKind) (c : Node SpecClauseKind) → Among s (specs_in forms) → Among c s.kind.clauses → IsCyclic c.kind.bounds → ⊥
