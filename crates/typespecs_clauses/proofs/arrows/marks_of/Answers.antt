use Rattle.std.proofs.Common.{◌∙◌, ap, get_or, false}
use Rattle.std.specs.Prelude.{◌||◌}
use Rattle.typespecs_rules.specs.SpecTerms.{holds_variable}
use Rattle.typespecs_clauses.specs.Held.{holds_in_terms}
use Rattle.typespecs_clauses.proofs.arrows.marks_of.Goals as goal

pub returns : goal.returns
returns c = λ n.
    c.in_ok-mark_held.ensures n
    ∙ ap (λ b. b || holds_variable n c.args.arrow.now.result) (c.in_ok-mark_in_terms.ensures n ∙ (λ j. get_or (c.new-marks.ensures j) n false || holds_in_terms n (c.as_slice.ensures j)))
