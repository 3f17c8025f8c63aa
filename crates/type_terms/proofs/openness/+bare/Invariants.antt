use Rattle.std.proofs.Common.{◌≡◌, ◌++◌, take}
use Rattle.type_terms.specs.BareNumbers.{open_by, bare_in_terms, bare_in_arguments}
use Rattle.type_terms.proofs.openness.+bare.Given as goal

abbrev pub invariant-find_in_terms-loop-term : goal.invariant-find_in_terms-loop-term
invariant-find_in_terms-loop-term l = l.found ≡ l.initial.found ++ bare_in_terms l.wanted (open_by l.opens) (take l.term-index l.terms)

abbrev pub invariant-find_in_arguments-loop-at : goal.invariant-find_in_arguments-loop-at
invariant-find_in_arguments-loop-at l = l.found ≡ l.initial.found ++ bare_in_arguments l.wanted (open_by l.opens) l.number 0 (take l.at l.arguments)
