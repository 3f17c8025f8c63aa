use Rattle.std.proofs.Common.{◌≡◌, ℕ, ◌<◌}
use Rattle.std.specs.Prelude.{Some, slice_get}
use Rattle.type_terms.specs.declared.term.Def.{Def}
use Rattle.type_terms.specs.declared.openness.Wanted.TheVariants.{Variables}
use Rattle.type_terms.specs.BareNumbers.{bare_in, open_by}
use Rattle.type_terms.specs.Openness.{SaysOpen}
use Rattle.type_terms.proofs.open_table.is_settled.Given as goal

abbrev pub invariant-bodies : goal.invariant-bodies
invariant-bodies l = (n : ℕ) (def : Def) → n < l.number → slice_get l.defs n ≡ Some def → SaysOpen l.table n (bare_in Variables (open_by l.table) def.body)
