use Rattle.typespecs_faults.proofs.LevelLaws.{type-built_in, type-declared}
use Rattle.typespecs_faults.proofs.levels.is_type.Goals as goal

pub returns-then-is_built_in_type : goal.returns-then-is_built_in_type
returns-then-is_built_in_type c = λ d k. type-built_in d c.args.name.now c.args.count c.is_built_in_type.result c.is_built_in_type.ensures c.if-is_built_in_type.true

pub returns : goal.returns
returns c = λ d k. type-declared d c.args.name.now c.args.count c.is_built_in_type.result c.is_some.result c.in_ok-type_number.field-0 c.is_built_in_type.ensures c.if-is_built_in_type.false c.is_some.ensures (c.in_ok-type_number.ensures d k.numbers)
