use Rattle.std.proofs.Common.{◌≤◌, length}
use Rattle.erl_parser_tokens.specs.Tokens.{Reads}
use Rattle.erl_parser.specs.Forms.{read_items}
use Rattle.erl_parser.specs.Views.{Part, listed, Follows}
use Rattle.erl_parser.proofs.ItemLoops.{GoingItems}
use Rattle.erl_parser.proofs.items.separated_items.Given as goal

-- going on with what was read gives what reading gives, for each reader that the function that was passed follows
abbrev pub invariant-items : goal.invariant-items
invariant-items g l = record {
  going : (reads : Reads (Part g.row.T.Denot)) → Follows (goal.F-post g l.part) reads → GoingItems l.separator reads (listed l.found) l.rest (read_items l.separator reads l.tokens);
  shorter : length l.rest ≤ length l.tokens;
}

abbrev pub decreases-items : goal.decreases-items
decreases-items g l = length l.rest
