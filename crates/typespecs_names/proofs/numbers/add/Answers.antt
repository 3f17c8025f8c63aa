use Rattle.std.proofs.Common.{refl}
use Rattle.erl_tree.specs.Functions.{of_function}
use Rattle.typespecs_names.proofs.Counted.{inserted}
use Rattle.typespecs_names.proofs.numbers.add.Goals as goal

pub returns : goal.returns
returns c = inserted c.in_ok-insert.field-0 c.args.table.now (of_function c.args.name.now c.args.count) c.args.number _ c.insert.new.self c.in_ok-insert.ensures.inserted refl
