use Rattle.std.proofs.Common.{◌∙◌}
use Rattle.erl_scope_faults.proofs.RecordLookups.{found-by}
use Rattle.erl_scope_faults.proofs.record_table.RecordTable.find.Goals as goal

pub returns : goal.returns
returns c = found-by c.as_slice.result.now c.args.name.now c.self.inside.declarations.entries c.args.self.now c.copied.result c.as_slice.ensures c.self.view_is c.self.invariant (c.copied.ensures ∙ c.get.ensures.value)
