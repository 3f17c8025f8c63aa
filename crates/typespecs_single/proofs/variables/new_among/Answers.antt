use Rattle.std.proofs.Common.{take, refl}
use Rattle.typespecs_clauses.proofs.ClauseLaws.{own_in}
use Rattle.typespecs_single.proofs.SeenNames.{seen-new, seen-again, seen-none, seen-one}
use Rattle.typespecs_single.proofs.variables.new_among.Goals as goal
use Rattle.typespecs_single.proofs.variables.new_among.Goals.{in-Some+in_ok-insert+then-branch+in_ok-push, in-Some+in_ok-insert+else-branch, in_default}

pub types-preserved : goal.types-preserved
types-preserved c =
    let i = c.types.t-index in
    let xs = own_in (take i c.args.types.now) in
    elim c.match-own_variable.branch [
      | in-Some+in_ok-insert+then-branch+in_ok-push w ↦
          seen-one c.args.names.now c.args.types.now i c.t-item.result c.types-test.true c.t-item.is w.insert.new.self.keys w.push.new.self.items c.match-own_variable.seen.keys c.match-own_variable.new.items (λ j. (w.seen-is j).keys) (λ j. (w.new-is j).items) w.in-Some.name.now w.in-Some.ensures
          (seen-new c.args.names.now xs c.types.seen.keys c.types.new.items c.types.invariant w.as_slice.result w.in-Some.name.now w.as_slice.ensures w.in_ok-insert.field-0 w.in_ok-insert.ensures.added w.insert.new.self.keys w.in_ok-insert.ensures.keys w.if-branch.true w.in-Some.name w.push.new.self.items refl w.in_ok-push.ensures.items)
      | in-Some+in_ok-insert+else-branch w ↦
          seen-one c.args.names.now c.args.types.now i c.t-item.result c.types-test.true c.t-item.is w.insert.new.self.keys c.types.new.items c.match-own_variable.seen.keys c.match-own_variable.new.items (λ j. (w.seen-is j).keys) (λ j. (w.new-is j).items) w.in-Some.name.now w.in-Some.ensures
          (seen-again c.args.names.now xs c.types.seen.keys c.types.new.items c.types.invariant w.as_slice.result w.in-Some.name.now w.as_slice.ensures w.in_ok-insert.field-0 w.in_ok-insert.ensures.added w.insert.new.self.keys w.in_ok-insert.ensures.keys w.if-branch.false)
      | in_default w ↦
          seen-none c.args.names.now c.args.types.now i c.t-item.result c.types-test.true c.t-item.is c.types.seen.keys c.types.new.items c.match-own_variable.seen.keys c.match-own_variable.new.items (λ j. (w.seen-is j).keys) (λ j. (w.new-is j).items) w.in_default.ensures c.types.invariant
    ]
