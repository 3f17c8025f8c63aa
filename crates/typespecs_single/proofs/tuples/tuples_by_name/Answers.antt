use Rattle.std.proofs.Common.{◌∙◌, ◌+◌, sym, ap, subst, arith}
use Rattle.std.specs.Option.{option_map}
use Rattle.typespecs_terms.specs.declared.tables.TupleTable.{TupleTable}
use Rattle.typespecs_terms.specs.Tables.{tuple_as, tuples_in}
use Rattle.typespecs_single.proofs.DeclaredTuples.{HasTuplesTo, known-tuple, no-tuple, new-tuple, all-tuples}
use Rattle.typespecs_single.proofs.tuples.tuples_by_name.Goals as goal
use Rattle.typespecs_single.proofs.tuples.tuples_by_name.Goals.{then-not-has_tuples+in_ok-tuple+in-Some+in_ok-insert, then-not-has_tuples+in_ok-tuple+in_default, else-not-has_tuples}

pub records-preserved : goal.records-preserved
records-preserved c =
    let s = c.args.specs.now in
    let qs = c.as_slice-record-items.result.now in
    let i = c.records.record-index in
    let q = c.record-item.result in
    let old = tuples_in c.records.tuples in
    elim c.if-not-has_tuples.branch [
      | then-not-has_tuples+in_ok-tuple+in-Some+in_ok-insert w ↦
          subst (λ (t : TupleTable). HasTuplesTo s (i + 1) (tuples_in t)) (sym w.tuples-is)
          (new-tuple s qs c.as_slice-record-items.ensures i q c.records-test.true c.record-item.is old c.records.invariant (sym c.has_tuples.ensures ∙ w.if-not-has_tuples.true) (option_map tuple_as w.in_ok-tuple.field-0) w.in_ok-tuple.ensures
          (tuple_as w.in-Some.tuple) (tuples_in w.insert.new.self) (ap (option_map tuple_as) w.in-Some.is) w.in_ok-insert.ensures)
      | then-not-has_tuples+in_ok-tuple+in_default w ↦
          subst (λ (t : TupleTable). HasTuplesTo s (i + 1) (tuples_in t)) (sym w.tuples-is)
          (no-tuple s qs c.as_slice-record-items.ensures i q c.records-test.true c.record-item.is old c.records.invariant (sym c.has_tuples.ensures ∙ w.if-not-has_tuples.true) (option_map tuple_as w.in_ok-tuple.field-0) w.in_ok-tuple.ensures
          (ap (option_map tuple_as) w.in_default.is))
      | else-not-has_tuples w ↦
          subst (λ (t : TupleTable). HasTuplesTo s (i + 1) (tuples_in t)) (sym w.tuples-is)
          (known-tuple s qs c.as_slice-record-items.ensures i q c.records-test.true c.record-item.is old c.records.invariant (sym c.has_tuples.ensures ∙ w.if-not-has_tuples.false))
    ]

pub returns : goal.returns
returns c = all-tuples c.args.specs.now c.as_slice-record-items.result.now c.records.record-index (tuples_in c.records.tuples) c.as_slice-record-items.ensures (omega arith) c.records.invariant
