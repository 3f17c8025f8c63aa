use Rattle.std.proofs.Common.{◌∙◌, sym, arith}
use Rattle.std.proofs.lemmas.Bool.{ne_eqb}
use Rattle.erl_lexer.proofs.Digits.{based_goes}
use Rattle.erl_lexer.proofs.integers.based_length.Goals as goal

pub loop-i-preserved : goal.loop-i-preserved
loop-i-preserved c = record {
  within = omega arith;
  base = c.next_base-base.ensures.within;
  rest = based_goes c.loop-i.i c.loop-i.base c.next_base-base.result c.args.text.now c.loop-i-test.true (ne_eqb _ _ c.if-c-eq35.false) (sym c.if-not-is_digit.ensures) c.next_base-base.ensures.value ∙ c.loop-i.invariant.rest;
}
