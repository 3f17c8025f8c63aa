use Rattle.std.proofs.Common.{rules, arith, ◌<◌, length, suc}
use Rattle.type_terms.proofs.PathLaws.{no-cycle, no-cycle-at-all}
use Rattle.type_terms.proofs.paths.least_on_cycle.Goals as goal

pub returns-then-first-graph : goal.returns-then-first-graph
returns-then-first-graph c =
    let l : length c.args.graph.now < suc c.first_not_falling-first.result = omega arith in
    no-cycle-at-all c.args.graph.now c.first_not_falling-first.result l (λ n q. no-cycle c.args.graph.now c.as_slice-ranks.result.now (c.if-never_rises.ensures (search rules)) n (c.first_not_falling-first.ensures.falls n q))

pub returns-then-branch : goal.returns-then-branch
returns-then-branch c = (c.in_ok-reaches_itself.ensures.0 (search rules), λ m q. no-cycle c.args.graph.now c.as_slice-ranks.result.now (c.if-never_rises.ensures (search rules)) m (c.first_not_falling-first.ensures.falls m q))

pub returns : goal.returns
returns c = let l : length c.args.graph.now < suc c.nodes.node = omega arith in no-cycle-at-all c.args.graph.now c.nodes.node l c.nodes.invariant
