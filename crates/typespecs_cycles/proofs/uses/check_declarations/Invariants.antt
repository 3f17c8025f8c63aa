use Rattle.std.proofs.Common.{map}
use Rattle.typespecs_rules.specs.Declarations.{Declarations}
use Rattle.typespecs_cycles.specs.DeclarationParts.{inner_of}
use Rattle.typespecs_cycles.specs.Edges.{AreUsesOf}
use Rattle.typespecs_cycles.specs.FirstFaults.{IsFirstWith}
use Rattle.typespecs_cycles.proofs.UseLaws.{IsIrregularBefore}
use Rattle.typespecs_cycles.proofs.uses.check_declarations.Given as goal

abbrev pub invariant-loop-number : goal.invariant-loop-number
invariant-loop-number l = (d : Declarations) → AreUsesOf l.uses d → IsFirstWith l.initial.first (IsIrregularBefore d (map inner_of l.parts) l.number) l.first
