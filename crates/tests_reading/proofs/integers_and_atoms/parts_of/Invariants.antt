use Rattle.key_sets.specs.Parts.{AreLimited}
use Rattle.tests_reading.proofs.integers_and_atoms.parts_of.Given as goal

abbrev pub invariant-loop-piece : goal.invariant-loop-piece
invariant-loop-piece l = AreLimited l.parts
