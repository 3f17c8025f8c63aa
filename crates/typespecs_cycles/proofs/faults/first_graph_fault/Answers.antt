use Rattle.std.proofs.Common.{◌∙◌, ap, map}
use Rattle.typespecs_rules.specs.Declarations.{declarations_of}
use Rattle.typespecs_cycles.specs.DeclarationParts.{inner_of}
use Rattle.typespecs_cycles.proofs.GraphLaws.{whole}
use Rattle.typespecs_cycles.proofs.faults.first_graph_fault.Goals as goal

pub returns : goal.returns
returns c =
    whole c.args.module.now c.as_slice.result.now (map inner_of c.as_slice-3.result.now) c.check_bounds.new.first c.check_declarations.new.first c.as_slice.ensures
    (ap (map inner_of) c.as_slice-3.ensures.value ∙ c.in_ok-parts.ensures) c.in_ok-check_bounds.ensures
    (c.in_ok-check_declarations.ensures (declarations_of c.args.module.now) (c.in_ok-uses.ensures (declarations_of c.args.module.now) c.requires (ap (map inner_of) c.as_slice-2.ensures.value ∙ c.in_ok-parts.ensures)))
