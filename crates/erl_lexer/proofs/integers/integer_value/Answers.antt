use Rattle.std.proofs.Common.{◌∙◌, sym, arith}
use Rattle.erl_lexer.proofs.Digits.{value_plain, has_base, value_parts, base_is}
use Rattle.erl_lexer.proofs.integers.integer_value.Goals as goal

pub returns-then-at-text : goal.returns-then-at-text
returns-then-at-text c = rw (value_plain 0 c.args.text.now (sym c.length_before_hash-at.ensures.value ∙ c.if-at-text.true)) c.number.ensures

pub returns-in-None : goal.returns-in-None
returns-in-None c =
    let h = has_base c.args.text.now c.length_before_hash-at.result c.requires c.length_before_hash-at.ensures.value c.if-at-text.false in
    let b = base_is c.args.text.now c.split_at.result.0.now c.length_before_hash-at.result h c.length_before_hash-at.ensures.value c.split_at.ensures.front in
    absurd (omega (arith, b.1, c.in-None.ensures))

pub returns-then-base-lt1 : goal.returns-then-base-lt1
returns-then-base-lt1 c =
    let h = has_base c.args.text.now c.length_before_hash-at.result c.requires c.length_before_hash-at.ensures.value c.if-at-text.false in
    let b = base_is c.args.text.now c.split_at.result.0.now c.length_before_hash-at.result h c.length_before_hash-at.ensures.value c.split_at.ensures.front in
    absurd (omega (arith, b.0, c.in-Some.ensures.0))

pub returns : goal.returns
returns c =
    let h = has_base c.args.text.now c.length_before_hash-at.result c.requires c.length_before_hash-at.ensures.value c.if-at-text.false in
    rw (value_parts c.args.text.now c.split_at.result.0.now c.split_at.result.1.now c.behind.result.now c.length_before_hash-at.result c.in-Some.base h c.length_before_hash-at.ensures.value c.split_at.ensures.front c.split_at.ensures.back c.behind.ensures c.in-Some.ensures.0) c.number-3.ensures
