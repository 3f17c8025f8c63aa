use Rattle.std.proofs.Common.{arith, ap, ◌∙◌}
use Rattle.std.proofs.lemmas.List.{drop_all}
use Rattle.erl_tree.specs.declared.form.RecFieldKind.{RecFieldKind}
use Rattle.erl_runs.specs.Records.{fields_of}
use Rattle.typespecs_faults.proofs.NameSetLaws.{names_of, named_init, named_next, named_last, names_next, fields-named}
use Rattle.typespecs_faults.proofs.name_set.NameSet.of_fields.Goals as goal

pub loop-field-init : goal.loop-field-init
loop-field-init c = named_init (names_of c.args.declaration.now.fields) _ c.new-set.result.keys c.new-set.ensures.empty (ap names_of c.as_slice-field-items.ensures)

pub loop-field-preserved : goal.loop-field-preserved
loop-field-preserved c =
    named_next (names_of c.args.declaration.now.fields) _ _ c.field-item.result.kind.name c.loop-field.set.keys c.insert.new.self.keys c.as_slice.result
    (names_next c.as_slice-field-items.result.now c.loop-field.field-index c.field-item.result c.loop-field-test.true c.field-item.is)
    (c.as_slice.ensures ∙ ap (λ (k : RecFieldKind). k.name) c.get.ensures) c.in_ok-insert.ensures.keys c.loop-field.invariant

pub returns : goal.returns
returns c = λ x.
    named_last (names_of c.args.declaration.now.fields) _ c.loop-field.set.keys (ap names_of (drop_all c.loop-field.field-index c.as_slice-field-items.result.now (omega arith))) c.loop-field.invariant x
    ∙ fields-named (fields_of c.args.declaration.now) x
