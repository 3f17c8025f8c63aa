use Rattle.std.proofs.Common.{append_assoc}
use Rattle.etylizer_program.proofs.report.push_not_text.Goals as goal

pub returns : goal.returns
returns c =
    rw (c.in_ok-extend_from_slice-3.ensures.items, c.in_ok-push_words.ensures, c.in_ok-extend_from_slice-2.ensures.items, c.in_ok-push_place.ensures, c.in_ok-extend_from_slice.ensures.items)
    (simp append_assoc)
