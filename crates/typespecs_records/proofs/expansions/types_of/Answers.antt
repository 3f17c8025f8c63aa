use Rattle.std.proofs.Common.{◌∙◌, arith}
use Rattle.typespecs_records.proofs.LoopLaws.{all-gathered}
use Rattle.typespecs_records.proofs.expansions.types_of.Goals as goal

pub returns : goal.returns
returns c = c.fields.invariant ∙ all-gathered c.args.record.now c.as_slice-field-items.result.now c.fields.field-index c.as_slice-field-items.ensures (omega arith)
