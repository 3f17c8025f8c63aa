use Rattle.std.proofs.Common.{◌∙◌, [], ◌∷◌, sym, append-nil, arith}
use Rattle.typespecs_cycles.specs.Edges.{edges_of}
use Rattle.typespecs_cycles.proofs.Gathering.{gathered-next, gathered-end, each-map, one-some, one-absent}
use Rattle.typespecs_cycles.proofs.edges.edges_in.Goals as goal
use Rattle.typespecs_cycles.proofs.edges.edges_in.Goals.{in-Some+in_ok-push, in_default}

pub loop-t-preserved : goal.loop-t-preserved
loop-t-preserved c = λ d k.
    elim c.match-branch-2.branch [
      | in-Some+in_ok-push w ↦
          gathered-next (λ t. edges_of c.args.edges d t.now) c.args.types.now [] c.loop-t.t-index c.t-item.result c.loop-t.list c.match-branch-2.list (w.in-Some.number ∷ []) c.loop-t-test.true c.t-item.is
          (one-some c.in_ok-number.field-0 w.in-Some.number w.in-Some.is ∙ c.in_ok-number.ensures d k) (w.list-is ∙ w.in_ok-push.ensures.ok) (c.loop-t.invariant d k)
      | in_default w ↦
          gathered-next (λ t. edges_of c.args.edges d t.now) c.args.types.now [] c.loop-t.t-index c.t-item.result c.loop-t.list c.match-branch-2.list [] c.loop-t-test.true c.t-item.is
          (one-absent c.in_ok-number.field-0 w.in_default.not-Some ∙ c.in_ok-number.ensures d k) (w.list-is ∙ sym (append-nil c.loop-t.list)) (c.loop-t.invariant d k)
    ]

pub returns : goal.returns
returns c = λ d k. gathered-end (λ t. edges_of c.args.edges d t.now) c.args.types.now [] c.loop-t.t-index c.loop-t.list (omega arith) (c.loop-t.invariant d k) ∙ each-map (edges_of c.args.edges d) (λ t. t.now) c.args.types.now
