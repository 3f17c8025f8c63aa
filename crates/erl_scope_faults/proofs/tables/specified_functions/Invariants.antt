use Rattle.name_table.specs.Table.{ids}
use Rattle.erl_scope_rules.specs.ScopeFaults.{specified_by, specified_in}
use Rattle.erl_scope_faults.proofs.TableLaws.{IsGathered}
use Rattle.std.proofs.Common.{refl}
use Rattle.erl_scope_faults.proofs.tables.specified_functions.Given as goal

abbrev pub invariant-loop-form : goal.invariant-loop-form
invariant-loop-form l = IsGathered specified_by specified_in refl (λ form forms. refl) l.forms l.form-index (ids l.table)
