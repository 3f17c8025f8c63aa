use Rattle.std.proofs.Common.{◌≡◌, ℕ, get_or, take, false, true}
use Rattle.std.specs.List.{Contains}
use Rattle.typespecs_records.proofs.settling.are_marked.Given as goal

abbrev pub invariant-numbers : goal.invariant-numbers
invariant-numbers l = (j : ℕ) → Contains (take l.number-index l.numbers) j → get_or l.marks j false ≡ true
