use Rattle.std.proofs.Common.{◌∙◌, ℕ, List, ap, sym, Vec, Global, Bor}
use Rattle.typespecs_clauses.specs.Names.{texts}
use Rattle.typespecs_clauses.proofs.ArrowLaws.{held-more, held-same}
use Rattle.typespecs_clauses.proofs.arrows.marked_names.Goals as goal
use Rattle.typespecs_clauses.proofs.arrows.marked_names.Goals.{then-is_marked+in_ok-push, else-is_marked}

pub names-preserved : goal.names-preserved
names-preserved c =
    elim c.if-is_marked.branch [
      | then-is_marked+in_ok-push w ↦ λ a same.
          ap (λ (v : Vec (Bor (List ℕ)) Global). texts v.items) w.marked-is
          ∙ held-more c.args.names.now c.names.number c.index-names-number.result c.names-test.true c.index-names-number.is a c.args.marks.now same c.names.marked.items (c.names.invariant a same) w.push.new.self.items (sym c.is_marked.ensures ∙ w.if-is_marked.true) w.in_ok-push.ensures.items
      | else-is_marked w ↦ λ a same.
          ap (λ (v : Vec (Bor (List ℕ)) Global). texts v.items) w.marked-is
          ∙ held-same c.args.names.now c.names.number c.index-names-number.result c.names-test.true c.index-names-number.is a c.args.marks.now same c.names.marked.items (c.names.invariant a same) (sym c.is_marked.ensures ∙ w.if-is_marked.false)
    ]
