use Rattle.typespecs_rules.specs.Declarations.{declarations_of}
use Rattle.typespecs.proofs.Declared.{no-types-answer, no-records-answer, definitions-answer}
use Rattle.typespecs.proofs.definitions.definitions.Goals as goal

pub returns-then-not-branch : goal.returns-then-not-branch
returns-then-not-branch c =
    no-types-answer c.args.module.now c.as_slice-forms.result.now c.in_ok-add_types.field-0 c.in_ok-defs.defs c.add_types.new.defs c.as_slice-forms.ensures c.if-not-branch.true
    (c.in_ok-add_types.ensures (declarations_of c.args.module.now) c.requires)

pub returns-then-not-branch-2 : goal.returns-then-not-branch-2
returns-then-not-branch-2 c =
    no-records-answer c.args.module.now c.as_slice-forms.result.now c.in_ok-add_records.field-0 c.add_types.new.defs c.add_records.new.defs c.as_slice-forms.ensures c.if-not-branch-2.true
    (c.in_ok-add_records.ensures (declarations_of c.args.module.now) c.requires)

pub returns : goal.returns
returns c =
    definitions-answer c.args.module.now c.as_slice-forms.result.now c.in_ok-add_types.field-0 c.in_ok-add_records.field-0 c.in_ok-defs.defs c.add_types.new.defs c.add_records.new.defs c.as_slice-forms.ensures c.in_ok-defs.ensures
    c.if-not-branch.false c.if-not-branch-2.false
    (c.in_ok-add_types.ensures (declarations_of c.args.module.now) c.requires) (c.in_ok-add_records.ensures (declarations_of c.args.module.now) c.requires)
