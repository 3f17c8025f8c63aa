use Rattle.name_table.specs.Table.{ids}
use Rattle.erl_scope_rules.specs.ScopeFaults.{defined_by}
use Rattle.erl_scope_faults.specs.Bounds.{AreBounded}
use Rattle.erl_scope_faults.proofs.TableLaws.{IsGathered, all_defined, defined_more}
use Rattle.std.proofs.Common.{refl}
use Rattle.erl_scope_faults.proofs.tables.defined_functions.Given as goal

abbrev pub invariant-loop-form : goal.invariant-loop-form
invariant-loop-form l = IsGathered defined_by all_defined refl defined_more l.forms l.form-index (ids l.table) × AreBounded (ids l.table)
