use Rattle.std.proofs.Common.{◌∙◌, ap}
use Rattle.std.specs.Prelude.{None}
use Rattle.name_table.specs.Table.{ids}
use Rattle.erl_scope_rules.specs.Earliest.{earliest}
use Rattle.erl_scope_faults.proofs.Alike.{whole-of}
use Rattle.erl_scope_faults.proofs.forms.first_name_fault.Goals as goal

pub returns : goal.returns
returns c =
    c.in_ok-check_forms.ensures
    ∙ ap (earliest None) (whole-of c.args.module.now c.as_slice-forms.result.now (ids c.in_ok-names.names.functions) c.in_ok-names.names.records (ids c.in_ok-specified.specified) c.as_slice-forms.ensures c.in_ok-names.ensures.functions c.in_ok-names.ensures.records c.in_ok-specified.ensures)
