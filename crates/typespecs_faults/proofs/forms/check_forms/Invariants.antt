use Rattle.std.proofs.Common.{◌≡◌, drop}
use Rattle.typespecs_rules.specs.Declarations.{Declarations}
use Rattle.typespecs_rules.specs.TypeFaults.{Behind, forms_faults}
use Rattle.typespecs_rules.specs.Earliest.{earliest}
use Rattle.typespecs_faults.specs.Noted.{KnowsDeclared}
use Rattle.typespecs_faults.specs.Behind.{IsBehind, nothing_behind}
use Rattle.typespecs_faults.proofs.forms.check_forms.Given as goal

abbrev pub invariant-loop-form : goal.invariant-loop-form
invariant-loop-form l = (b : Behind) × IsBehind l.before b × ((d : Declarations) → KnowsDeclared l.scope d → earliest l.first (forms_faults d b (drop l.form-index l.forms)) ≡ earliest l.initial.first (forms_faults d nothing_behind l.forms))
