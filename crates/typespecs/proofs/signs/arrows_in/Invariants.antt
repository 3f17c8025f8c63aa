use Rattle.std.proofs.Common.{◌≡◌, take}
use Rattle.type_terms.specs.declared.spec.FunSpec.{FunSpec}
use Rattle.typespecs_rules.specs.TypeParts.{from_each}
use Rattle.typespecs.specs.Names.{arrows_seen}
use Rattle.typespecs.proofs.signs.arrows_in.Given as goal

abbrev pub invariant-loop-function : goal.invariant-loop-function
invariant-loop-function l = arrows_seen l.list.items ≡ from_each (λ (f : FunSpec). f.clauses) (take l.function-index l.functions)
