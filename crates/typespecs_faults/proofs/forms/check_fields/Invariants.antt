use Rattle.std.proofs.Common.{[]}
use Rattle.typespecs_rules.specs.Declarations.{Declarations}
use Rattle.typespecs_rules.specs.TypeFaults.{declared_fields_faults}
use Rattle.typespecs_rules.specs.Earliest.{earliest}
use Rattle.typespecs_faults.specs.Noted.{KnowsDeclared}
use Rattle.typespecs_faults.proofs.FormLaws.{IsDeclaredFieldsTo}
use Rattle.typespecs_faults.proofs.forms.check_fields.Given as goal

abbrev pub invariant-loop-field : goal.invariant-loop-field
invariant-loop-field l = (d : Declarations) → KnowsDeclared l.scope d → IsDeclaredFieldsTo d l.fields (earliest l.initial.first (declared_fields_faults d [] l.fields)) l.field-index l.before.keys l.first
