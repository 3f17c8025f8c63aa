use Rattle.std.proofs.Common.{◌∙◌, ◌-◌, ap, sym, subst}
use Rattle.std.specs.Prelude.{slice_get}
use Rattle.type_terms.specs.Refusals.{IsRefusedAs}
use Rattle.typespecs.specs.SpecParts.{specs_of_parts}
use Rattle.typespecs_lemmas.proofs.WellMade.{well-made}
use Rattle.typespecs_lemmas.proofs.DefinedNames.{names-defined}
use Rattle.typespecs.proofs.Inversion.{none-some}
use Rattle.typespecs.proofs.Contractive.{at-least-two, place-there, reaches-itself}
use Rattle.typespecs.proofs.assembly.with_definitions.Goals as goal

pub new-requires : goal.new-requires
new-requires c = well-made c.args.module.now (specs_of_parts c.args.parts) c.requires.no_fault c.requires.parts

pub overflow_sub-number : goal.overflow_sub-number
overflow_sub-number c = at-least-two c.args.module.now (specs_of_parts c.args.parts) c.requires.no_fault c.requires.parts c.in-Err-NotContractive.number (subst (λ f. IsRefusedAs c.args.parts.defs f) c.in-Err-NotContractive.field-0-is c.in-Err-NotContractive.ensures)

pub returns-in-Some-clause-fault : goal.returns-in-Some-clause-fault
returns-in-Some-clause-fault c =
    reaches-itself c.args.module.now (specs_of_parts c.args.parts) c.requires.no_fault c.requires.parts c.in-Err-NotContractive.number (subst (λ f. IsRefusedAs c.args.parts.defs f) c.in-Err-NotContractive.field-0-is c.in-Err-NotContractive.ensures) c.in-Some.place.now
    (ap (λ ps. slice_get ps (c.in-Err-NotContractive.number - 2)) (sym c.in_ok-places-in-Err-NotContractive.ensures) ∙ sym c.in-Some.ensures.value)

pub unreachable-requires : goal.unreachable-requires
unreachable-requires c =
    none-some (c.in-None.ensures.value ∙ (ap (λ ps. slice_get ps (c.in-Err-NotContractive.number - 2)) c.in_ok-places-in-Err-NotContractive.ensures
    ∙ (place-there c.args.module.now (specs_of_parts c.args.parts) c.requires.no_fault c.requires.parts c.in-Err-NotContractive.number (subst (λ f. IsRefusedAs c.args.parts.defs f) c.in-Err-NotContractive.field-0-is c.in-Err-NotContractive.ensures)).1))

pub unreachable-requires-in-Err-NoName : goal.unreachable-requires-in-Err-NoName
unreachable-requires-in-Err-NoName c = none-some (sym (names-defined c.args.module.now (specs_of_parts c.args.parts) c.requires.parts) ∙ subst (λ f. IsRefusedAs c.args.parts.defs f) c.in-Err-NoName.field-0-is c.in-Err-NoName.ensures)
