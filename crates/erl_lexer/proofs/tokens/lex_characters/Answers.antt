use Rattle.std.proofs.Common.{arith}
use Rattle.erl_lexer.proofs.Arms.{length_is}
use Rattle.erl_lexer.proofs.Loop.{begins, at_gap, ends, goes, fails, line_at, column_at, empty_is, not_empty}
use Rattle.erl_lexer.proofs.tokens.lex_characters.Goals as goal

pub more-init : goal.more-init
more-init c = record { so_far = rw c.new-tokens.ensures (begins c.args.bytes.now c.requires.utf8); line = omega arith; column = omega arith }

pub returns-then-is_empty-clause-found : goal.returns-then-is_empty-clause-found
returns-then-is_empty-clause-found c =
    ends c.args.bytes.now c.more.tokens c.push.new.self c.moved-here.result c.split_at.result.1.now
    (at_gap c.args.bytes.now c.more.tokens c.more.place c.moved-here.result c.more.rest.now c.split_at.result.0.now c.split_at.result.1.now c.gap_length.result c.more.invariant.so_far c.gap_length.ensures.value c.split_at.ensures.front c.split_at.ensures.back c.moved-here.ensures)
    (empty_is _ c.if-is_empty.ensures) c.in_ok-push.ensures.ok

pub next-requires-clause-line : goal.next-requires-clause-line
next-requires-clause-line c = omega (arith, line_at c.more.place c.moved-here.result c.split_at.result.0.now c.moved-here.ensures, c.more.invariant.line, c.requires.size, c.split_at.ensures.front_len, c.split_at.ensures.back_len)

pub next-requires-clause-column : goal.next-requires-clause-column
next-requires-clause-column c = omega (arith, column_at c.more.place c.moved-here.result c.split_at.result.0.now c.moved-here.ensures, c.more.invariant.column, c.requires.size, c.split_at.ensures.front_len, c.split_at.ensures.back_len)

pub returns-in-Err-clause-fault : goal.returns-in-Err-clause-fault
returns-in-Err-clause-fault c =
    fails c.args.bytes.now c.more.tokens c.moved-here.result c.split_at.result.1.now c.in-Err.fault
    (at_gap c.args.bytes.now c.more.tokens c.more.place c.moved-here.result c.more.rest.now c.split_at.result.0.now c.split_at.result.1.now c.gap_length.result c.more.invariant.so_far c.gap_length.ensures.value c.split_at.ensures.front c.split_at.ensures.back c.moved-here.ensures)
    (not_empty _ c.if-is_empty.ensures) c.in-Err.ensures

pub split_at-requires-in-Ok : goal.split_at-requires-in-Ok
split_at-requires-in-Ok c = (length_is c.in-Ok.length c.split_at.result.1.now c.in-Ok.ensures.1).within

pub moved-place-requires-clause-line : goal.moved-place-requires-clause-line
moved-place-requires-clause-line c = omega (arith, line_at c.more.place c.moved-here.result c.split_at.result.0.now c.moved-here.ensures, c.more.invariant.line, c.requires.size, c.split_at.ensures.front_len, c.split_at.ensures.back_len, c.split_at-in-Ok.ensures.front_len, c.split_at-in-Ok.ensures.back_len)

pub moved-place-requires-clause-column : goal.moved-place-requires-clause-column
moved-place-requires-clause-column c = omega (arith, column_at c.more.place c.moved-here.result c.split_at.result.0.now c.moved-here.ensures, c.more.invariant.column, c.requires.size, c.split_at.ensures.front_len, c.split_at.ensures.back_len, c.split_at-in-Ok.ensures.front_len, c.split_at-in-Ok.ensures.back_len)

pub more-smaller : goal.more-smaller
more-smaller c =
    let f = length_is c.in-Ok.length c.split_at.result.1.now c.in-Ok.ensures.1 in
    omega (arith, f.within, f.some, c.split_at.ensures.front_len, c.split_at.ensures.back_len, c.split_at-in-Ok.ensures.front_len, c.split_at-in-Ok.ensures.back_len)

pub more-preserved : goal.more-preserved
more-preserved c = record {
  so_far = goes c.args.bytes.now c.more.tokens c.push-in-Ok.new.self c.moved-here.result c.moved-place.result c.split_at.result.1.now c.split_at-in-Ok.result.0.now c.split_at-in-Ok.result.1.now c.in-Ok.token c.in-Ok.length
      (at_gap c.args.bytes.now c.more.tokens c.more.place c.moved-here.result c.more.rest.now c.split_at.result.0.now c.split_at.result.1.now c.gap_length.result c.more.invariant.so_far c.gap_length.ensures.value c.split_at.ensures.front c.split_at.ensures.back c.moved-here.ensures)
      c.in-Ok.ensures c.split_at-in-Ok.ensures.front c.split_at-in-Ok.ensures.back c.moved-place.ensures c.in_ok-push-in-Ok.ensures.ok;
  line = omega (arith, line_at c.more.place c.moved-here.result c.split_at.result.0.now c.moved-here.ensures, line_at c.moved-here.result c.moved-place.result c.split_at-in-Ok.result.0.now c.moved-place.ensures, c.more.invariant.line, c.split_at.ensures.front_len, c.split_at.ensures.back_len, c.split_at-in-Ok.ensures.front_len, c.split_at-in-Ok.ensures.back_len);
  column = omega (arith, column_at c.more.place c.moved-here.result c.split_at.result.0.now c.moved-here.ensures, column_at c.moved-here.result c.moved-place.result c.split_at-in-Ok.result.0.now c.moved-place.ensures, c.more.invariant.column, c.split_at.ensures.front_len, c.split_at.ensures.back_len, c.split_at-in-Ok.ensures.front_len, c.split_at-in-Ok.ensures.back_len);
}
