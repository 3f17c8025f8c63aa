use Rattle.std.proofs.Common.{◌≡◌, ◌+◌, ◌≤◌, length}
use Rattle.erl_parser_patterns.specs.Scan.{leads, leads_to}
use Rattle.erl_parser_patterns.specs.Views.{context_seen}
use Rattle.erl_parser_patterns.proofs.scan.leads_to.Given as goal

-- going on gives what scanning from the front gives
abbrev pub invariant-scan : goal.invariant-scan
invariant-scan l = record {
  going : leads l.ending (context_seen l.context) l.depth l.rest ≡ leads_to l.fn.ending l.fn.tokens;
  low : l.depth + length l.rest ≤ length l.fn.tokens;
}

abbrev pub decreases-scan : goal.decreases-scan
decreases-scan l = length l.rest
