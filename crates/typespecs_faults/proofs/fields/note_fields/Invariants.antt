use Rattle.std.proofs.Common.{◌≡◌, [], drop, Option}
use Rattle.std.specs.Option.{option_copied}
use Rattle.erl_tree.specs.declared.form.RecDefKind.{RecDefKind}
use Rattle.typespecs_rules.specs.TypeFaults.{fields_faults}
use Rattle.typespecs_rules.specs.Earliest.{earliest}
use Rattle.typespecs_faults.specs.NameSets.{names_in}
use Rattle.typespecs_faults.specs.Fields.{HasFieldsOf}
use Rattle.typespecs_faults.proofs.fields.note_fields.Given as goal

abbrev pub invariant-loop-field : goal.invariant-loop-field
invariant-loop-field l = (d : Option RecDefKind) → HasFieldsOf (option_copied l.declared) d → earliest l.first (fields_faults d (names_in l.before.keys) (drop l.field-index l.fields)) ≡ earliest l.initial.first (fields_faults d [] l.fields)
