use Rattle.std.proofs.Common.{◌≡◌, ◌≤◌, ◌++◌, length, reverse, take}
use Rattle.type_terms.proofs.defs.push_turned.Given as goal

abbrev pub invariant-pushing : goal.invariant-pushing
invariant-pushing l = record {
  all : l.list ++ reverse l.more ≡ l.initial.list ++ reverse l.initial.more;
  longer : length l.initial.list ≤ length l.list;
  begins : take (length l.initial.list) l.list ≡ l.initial.list;
}

abbrev pub decreases-pushing : goal.decreases-pushing
decreases-pushing l = length l.more
