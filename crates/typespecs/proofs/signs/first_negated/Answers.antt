use Rattle.std.proofs.Common.{◌∙◌, ap}
use Rattle.type_terms.specs.declared.spec.FunSpec.{FunSpec}
use Rattle.typespecs_rules.specs.TypeParts.{from_each}
use Rattle.typespecs.specs.Names.{arrows_seen, clause_places_among}
use Rattle.typespecs.proofs.Arrows.{negated_answer}
use Rattle.typespecs.proofs.signs.first_negated.Goals as goal

pub returns : goal.returns
returns c =
    negated_answer c.args.module.now c.args.specs.now (arrows_seen c.deref.result.now) c.in_ok-places-in-Some.places c.in-Some.number c.copied.result c.requires
    (ap arrows_seen c.deref.ensures.value ∙ (c.in_ok-arrows.ensures ∙ ap (from_each (λ (f : FunSpec). f.clauses)) c.as_slice.ensures))
    (c.in_ok-places-in-Some.ensures ∙ ap clause_places_among c.as_slice-in-Some.ensures)
    (c.copied.ensures ∙ c.get.ensures.value)
    c.in-Some.ensures
