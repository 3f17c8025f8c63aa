use Rattle.flat_tests.proofs.KnownTypes.{known_in_parens, known_range, known_union, unknown_union, known_use}
use Rattle.flat_tests.proofs.known_types.+is_known_type.Goals as goal

pub returns-in-Paren : goal.returns-in-Paren
returns-in-Paren t c = known_in_parens c.args.ty.now.kind c.get.result.now c.get.ensures c.in-Paren.inner c.is_known_type.result c.in-Paren.is c.is_known_type.ensures

pub returns-then-is_known_type : goal.returns-then-is_known_type
returns-then-is_known_type t c =
    known_union c.args.ty.now.kind c.get.result.now c.get.ensures c.in-Or.left c.in-Or.right c.in-Or.is c.is_known_type-in-Or.result c.is_known_type-in-Or.ensures
    c.is_known_type-then-is_known_type.result c.if-is_known_type.true c.is_known_type-then-is_known_type.ensures

pub returns-else-is_known_type : goal.returns-else-is_known_type
returns-else-is_known_type t c =
    unknown_union c.args.ty.now.kind c.get.result.now c.get.ensures c.in-Or.left c.in-Or.right c.in-Or.is c.is_known_type-in-Or.result c.is_known_type-in-Or.ensures c.if-is_known_type.false

pub returns-in-Range : goal.returns-in-Range
returns-in-Range t c = known_range c.args.ty.now.kind c.get.result.now c.get.ensures c.in-Range.low c.in-Range.high c.is_range.result c.in-Range.is c.is_range.ensures

pub returns-in-Use : goal.returns-in-Use
returns-in-Use t c = known_use c.args.ty.now.kind c.get.result.now c.get.ensures c.in-Use.prefix c.in-Use.name c.in-Use.args c.is_known_use.result c.in-Use.is c.is_known_use.ensures
