use Rattle.typespecs_faults.proofs.RecordLookups.{found-by}
use Rattle.typespecs_faults.proofs.record_table.RecordTable.find.Goals as goal

pub returns : goal.returns
returns c = found-by c.as_slice.result.now c.args.name.now c.args.self.now.sets.entries _ c.as_slice.ensures c.get.ensures.value
