use Rattle.std.proofs.Common.{sym, subst}
use Rattle.typespecs.specs.TextFaults.{IsFirstOfText}
use Rattle.typespecs.proofs.FirstText.{first-text}
use Rattle.typespecs.proofs.first.first_text_fault.Goals as goal

pub returns : goal.returns
returns c =
    subst (IsFirstOfText c.args.module.now) (sym c.first_of.ensures)
    (first-text c.args.module.now c.in_ok-listed.listed c.in_ok-leading_back.leading_back c.in_ok-listed.ensures c.in_ok-leading_back.ensures)
