use Rattle.std.proofs.Common.{◌≡◌, ◌∙◌, ◌+◌, sym, subst, take, arith}
use Rattle.indexmap.proofs.CallerLemmas.{insert_entry-new}
use Rattle.typespecs_rules.specs.Bounds.{bounded}
use Rattle.typespecs_cycles.specs.Positions.{KnowsPositions}
use Rattle.typespecs_cycles.proofs.PositionLaws.{is_under, is-none, known-new, known-old}
use Rattle.typespecs_cycles.proofs.bounds.positions_of.Goals as goal
use Rattle.typespecs_cycles.proofs.bounds.positions_of.Goals.{then-not-contains_key+in_ok-insert, else-not-contains_key}

pub loop-bound-preserved : goal.loop-bound-preserved
loop-bound-preserved c = record {
  known =
      elim c.if-not-contains_key.branch [
        | then-not-contains_key+in_ok-insert w ↦
            subst (λ t. KnowsPositions t.entries (bounded (take (c.loop-bound.bound-index + 1) c.args.bounds.now))) (sym w.table-is)
            (known-new c.args.bounds.now c.loop-bound.bound-index c.bound-item.result c.loop-bound-test.true c.bound-item.is c.as_slice-name.result c.as_slice-name.ensures c.loop-bound.table.entries c.loop-bound.invariant.known c.loop-bound.position w.insert.new.self.entries c.loop-bound.invariant.count
            (w.in_ok-insert.ensures.entries ∙ insert_entry-new (λ k. is_under k.now) c.loop-bound.table c.as_slice-name.result c.loop-bound.position (is-none _ c.contains_key.result c.contains_key.ensures w.if-not-contains_key.true)))
        | else-not-contains_key w ↦
            subst (λ t. KnowsPositions t.entries (bounded (take (c.loop-bound.bound-index + 1) c.args.bounds.now))) (sym w.table-is)
            (known-old c.args.bounds.now c.loop-bound.bound-index c.bound-item.result c.loop-bound-test.true c.bound-item.is c.as_slice-name.result c.as_slice-name.ensures c.loop-bound.table.entries c.loop-bound.invariant.known c.contains_key.result c.contains_key.ensures w.if-not-contains_key.false)
      ];
  count = let e : c.loop-bound.position ≡ c.loop-bound.bound-index = c.loop-bound.invariant.count in omega (arith, c.requires);
}
