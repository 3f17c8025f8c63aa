use Rattle.std.proofs.Common.{take}
use Rattle.erl_tree.specs.Lists.{Every}
use Rattle.type_terms.specs.Signs.{IsWellSigned}
use Rattle.typespecs.proofs.signs.are_signed.Given as goal

abbrev pub invariant-loop-term : goal.invariant-loop-term
invariant-loop-term l = Every (IsWellSigned l.defs) (take l.term-index l.terms)
