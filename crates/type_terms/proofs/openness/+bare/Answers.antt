use Rattle.std.proofs.Common.{rules, true, false, arith, ◌∙◌, ap, sym, refl, ◌++◌, append-nil}
use Rattle.type_terms.specs.declared.term.Term.{Any}
use Rattle.type_terms.specs.BareNumbers.{open_by, bare_in}
use Rattle.type_terms.proofs.BareLaws.{argument-step}
use Rattle.type_terms.proofs.openness.+bare.Goals as goal
use Rattle.type_terms.proofs.openness.+bare.Goals.{find_in_arguments-then-is_open+in_ok-find_bare, find_in_arguments-else-is_open}

pub find_in_arguments-loop-at-preserved : goal.find_in_arguments-loop-at-preserved
find_in_arguments-loop-at-preserved t c =
    elim c.if-is_open.branch [
      | find_in_arguments-then-is_open+in_ok-find_bare w ↦ argument-step c.args.wanted (open_by c.args.opens.now) c.args.number c.args.arguments.now c.loop-at.at c.index-arguments-at.result c.args.found.now c.loop-at.found c.if-is_open.found true (omega arith) c.loop-at.invariant (search rules) (w.found-is ∙ (w.in_ok-find_bare.ensures ∙ ap (λ x. c.loop-at.found ++ bare_in c.args.wanted (open_by c.args.opens.now) x) (refl ∙ c.index-arguments-at.is)))
      | find_in_arguments-else-is_open w ↦ argument-step c.args.wanted (open_by c.args.opens.now) c.args.number c.args.arguments.now c.loop-at.at Any c.args.found.now c.loop-at.found c.if-is_open.found false (omega arith) c.loop-at.invariant (search rules) (w.found-is ∙ sym (append-nil c.loop-at.found))
    ]
