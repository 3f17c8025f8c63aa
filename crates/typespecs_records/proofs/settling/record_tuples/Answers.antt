use Rattle.std.proofs.Common.{◌∙◌, Bool, List, ap, subst}
use Rattle.typespecs_rules.specs.Declarations.{declarations_of}
use Rattle.typespecs_terms.specs.Tables.{tuples_in}
use Rattle.typespecs_records.specs.Records.{records_seen}
use Rattle.typespecs_records.specs.Settled.{AreSettled}
use Rattle.typespecs_records.proofs.SettledLaws.{all-stand}
use Rattle.typespecs_records.proofs.settling.record_tuples.Goals as goal

pub returns-then-branch : goal.returns-then-branch
returns-then-branch c =
    let d = declarations_of c.args.module.now in
    all-stand d c.requires.finite (tuples_in c.in_ok-so_far.so_far.tuples) c.in_ok-so_far.so_far.settled
    (c.in_ok-so_far.ensures d (record { numbers = c.requires.numbers; records = ap records_seen c.as_slice.ensures.value ∙ c.in_ok-records.ensures; finite = c.requires.finite }))
    (subst (λ (marks : List Bool). AreSettled d marks d.records) c.as_slice-3.ensures
    (c.in_ok-are_all_settled.ensures c.if-branch.true d (record { numbers = c.requires.numbers; records = ap records_seen c.as_slice.ensures.value ∙ c.in_ok-records.ensures; finite = c.requires.finite })))
