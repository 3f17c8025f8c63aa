use Rattle.std.proofs.Common.{◌≡◌, [], drop}
use Rattle.name_table.specs.Table.{ids}
use Rattle.erl_scope_rules.specs.Earliest.{earliest}
use Rattle.erl_scope_faults.specs.FormFaults.{all_form_faults}
use Rattle.erl_scope_faults.proofs.forms.check_forms.Given as goal

abbrev pub invariant-loop-form : goal.invariant-loop-form
invariant-loop-form l = earliest l.first (all_form_faults (ids l.names.functions) l.names.records (ids l.specified) (ids l.before) (drop l.form-index l.forms)) ≡ earliest l.initial.first (all_form_faults (ids l.names.functions) l.names.records (ids l.specified) [] l.forms)
