use Rattle.std.proofs.Common.{◌≡◌, ℕ, ◌<◌, false}
use Rattle.std.specs.Prelude.{Some, slice_get}
use Rattle.type_terms.specs.declared.term.Def.{Def}
use Rattle.type_terms.specs.declared.sign_search.DefSigns.{DefSigns}
use Rattle.type_terms.specs.SignTables.{IsRow, IsTableOf}
use Rattle.type_terms.proofs.sign_table.raise_all.Given as goal

abbrev pub invariant-bodies : goal.invariant-bodies
invariant-bodies l = record {
  said : IsTableOf l.defs l.table;
  rows : l.is_new ≡ false → (n : ℕ) → n < l.number → (def : Def) → slice_get l.defs n ≡ Some def → (row : DefSigns) × (slice_get l.table n ≡ Some row) × IsRow l.table def row;
}
