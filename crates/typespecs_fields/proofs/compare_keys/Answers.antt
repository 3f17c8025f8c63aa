use Rattle.std.proofs.Common.{◌∙◌, ap, ap₂, is_lt}
use Rattle.type_terms.specs.Keys.{name_lt}
use Rattle.typespecs_fields.proofs.KeysCompared.{name-compared}
use Rattle.typespecs_fields.proofs.compare_keys.Goals as goal

pub returns-in-Atom-right-2 : goal.returns-in-Atom-right-2
returns-in-Atom-right-2 c =
    rw (c.in-Atom.is, c.in-Atom-right-2.is)
    (ap is_lt c.cmp-in-Atom-right-2.ensures ∙ name-compared c.as_slice.result.now c.as_slice-in-Atom-right-2.result.now ∙ ap₂ name_lt c.as_slice.ensures c.as_slice-in-Atom-right-2.ensures)
