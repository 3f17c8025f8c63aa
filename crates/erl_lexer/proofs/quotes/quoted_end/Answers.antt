use Rattle.std.proofs.Common.{sym, arith}
use Rattle.erl_lexer.proofs.Quoting.{walk_begins, walk_two, two_within, walk_closed, walk_failed}
use Rattle.erl_lexer.proofs.quotes.quoted_end.Goals as goal

pub loop-i-init : goal.loop-i-init
loop-i-init c = record { within = omega arith; walked = walk_begins c.args.quote c.args.text.now }

pub returns-then-not-is_escape_at-clause-closed : goal.returns-then-not-is_escape_at-clause-closed
returns-then-not-is_escape_at-clause-closed c = (walk_failed c.args.quote c.loop-i.i c.args.text.now c.loop-i.invariant.walked c.loop-i-test.true c.if-c-eq92.true (sym c.if-not-is_escape_at.ensures)).closes

pub returns-then-not-is_escape_at-clause-bad : goal.returns-then-not-is_escape_at-clause-bad
returns-then-not-is_escape_at-clause-bad c = (walk_failed c.args.quote c.loop-i.i c.args.text.now c.loop-i.invariant.walked c.loop-i-test.true c.if-c-eq92.true (sym c.if-not-is_escape_at.ensures)).fails

pub loop-i-preserved-then-c-eq92 : goal.loop-i-preserved-then-c-eq92
loop-i-preserved-then-c-eq92 c = record {
  within = two_within c.loop-i.i c.args.text.now (sym c.if-not-is_escape_at.ensures);
  walked = walk_two c.args.quote c.loop-i.i c.args.text.now c.loop-i.invariant.walked c.loop-i-test.true c.if-c-eq92.true (sym c.if-not-is_escape_at.ensures);
}

pub returns-then-c-quote-clause-closed : goal.returns-then-c-quote-clause-closed
returns-then-c-quote-clause-closed c = (walk_closed c.args.quote c.loop-i.i c.args.text.now c.loop-i.invariant.walked c.loop-i-test.true c.if-c-eq92.false c.if-c-quote.true).closes

pub returns-then-c-quote-clause-bad : goal.returns-then-c-quote-clause-bad
returns-then-c-quote-clause-bad c = (walk_closed c.args.quote c.loop-i.i c.args.text.now c.loop-i.invariant.walked c.loop-i-test.true c.if-c-eq92.false c.if-c-quote.true).fails
