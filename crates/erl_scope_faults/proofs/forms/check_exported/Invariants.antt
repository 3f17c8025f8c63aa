use Rattle.std.proofs.Common.{ℤ}
use Rattle.type_terms.specs.Keys.{Name}
use Rattle.name_table.specs.Table.{ids}
use Rattle.erl_scope_rules.specs.declared.fault.NameFault.TheVariants.{NoSuchFunction}
use Rattle.erl_scope_rules.specs.ScopeFaults.{unless, is_defined_at}
use Rattle.erl_scope_faults.proofs.Rows.{IsNotedTo}
use Rattle.erl_scope_faults.proofs.forms.check_exported.Given as goal

abbrev pub invariant-loop-name : goal.invariant-loop-name
invariant-loop-name l = IsNotedTo (λ (n : Name × ℤ). unless (is_defined_at (ids l.names.functions) l.names.records n.0 n.1) NoSuchFunction l.place) l.exported l.initial.first l.name-index l.first
