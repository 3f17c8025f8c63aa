use Rattle.std.proofs.Common.{◌∙◌}
use Rattle.key_sets.proofs.Listed.{is_among-insert}
use Rattle.key_sets.proofs.contents.Contents.add.Goals as goal

pub returns-in_ok-insert-in-Atom : goal.returns-in_ok-insert-in-Atom
returns-in_ok-insert-in-Atom c =
    is_among-insert _ _ _ _ c.in_ok-from_slice-in-Atom.field-0 _ c.in-Atom.name c.in-Atom.is
    (c.in_ok-from_slice-in-Atom.ensures.items ∙ c.as_slice.ensures) c.in_ok-insert-in-Atom.ensures.keys
