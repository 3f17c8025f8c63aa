use Rattle.typespecs_rules.specs.SpecTerms.{record_definition}
use Rattle.typespecs.specs.Reads.{ReadsDeclared}
use Rattle.typespecs.proofs.Declared.{records_of, item-added, record-given, no-record-added}
use Rattle.typespecs.proofs.definitions.add_record.Goals as goal

pub returns-in_ok-record_definition-in-RecDef : goal.returns-in_ok-record_definition-in-RecDef
returns-in_ok-record_definition-in-RecDef c =
    item-added records_of (ReadsDeclared c.args.declared.now) c.args.form.now (λ d. record_definition d c.get.result.now) c.in_ok-record_definition-in-RecDef.field-0 c.add.result c.args.defs.now c.add.new.list
    (λ d reads. record-given d c.args.form.now c.in-RecDef.declaration c.get.result.now c.in-RecDef.is c.get.ensures) c.in_ok-record_definition-in-RecDef.ensures c.add.ensures

pub returns-in_default : goal.returns-in_default
returns-in_default c = λ d reads. no-record-added d c.args.form.now c.args.defs.now c.in_default.not-RecDef
