use Rattle.erl_scope_variables.specs.Walks.{after_generator}
use Rattle.erl_scope_variables.proofs.WalkLaws.{IsLeft}
use Rattle.erl_scope_variables.proofs.expressions.see_generators.Given as goal

abbrev pub invariant-loop-qualifier : goal.invariant-loop-qualifier
invariant-loop-qualifier l = IsLeft after_generator l.qualifiers l.qualifier-index l.walk l.initial.walk
