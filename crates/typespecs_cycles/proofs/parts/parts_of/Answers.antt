use Rattle.std.proofs.Common.{map}
use Rattle.typespecs_cycles.specs.DeclarationParts.{inner_of}
use Rattle.typespecs_cycles.proofs.FormLaws.{two-given, all-parts}
use Rattle.typespecs_cycles.proofs.parts.parts_of.Goals as goal

pub returns : goal.returns
returns c =
    all-parts c.args.module.now c.as_slice.result.now c.as_slice-2.result.now (map inner_of c.push-2.new.self.items) (map inner_of c.add_types.new.list.items) (map inner_of c.add_records.new.list.items)
    (two-given c.new-list.result.items c.push.new.self.items c.push-2.new.self.items c.given_parts.result c.given_parts-2.result c.new-list.ensures.items c.in_ok-push.ensures.items c.in_ok-push-2.ensures.items c.given_parts.ensures c.given_parts-2.ensures)
    c.as_slice.ensures c.as_slice-2.ensures c.in_ok-add_types.ensures c.in_ok-add_records.ensures
