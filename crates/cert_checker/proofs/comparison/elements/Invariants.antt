use Rattle.std.proofs.Common.{◌≡◌, List, take, length}
use Rattle.type_terms.specs.declared.term.Term.{Term}
use Rattle.cert_checker.specs.Judging.{StandForAll}
use Rattle.cert_checker.proofs.Arguments.{keys_of}
use Rattle.cert_checker.proofs.comparison.elements.Given as goal

abbrev pub invariant-loop-found : goal.invariant-loop-found
invariant-loop-found l = record {
  as_many : length l.keys ≡ l.found-index;
  elements : (ts : List Term) → StandForAll l.scope (take l.found-index l.args) ts → keys_of l.keys ts;
}
