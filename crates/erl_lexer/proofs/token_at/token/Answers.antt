use Rattle.std.proofs.Common.{◌∙◌, ap, sym}
use Rattle.erl_tree.specs.declared.token.Token.TheVariants as T
use Rattle.erl_lexer.proofs.Arms.{by_at_lower, by_at_upper, by_at_digit}
use Rattle.erl_lexer.proofs.token_at.token.Goals as goal

pub returns-in_ok-name_token-in-Some-clause-value : goal.returns-in_ok-name_token-in-Some-clause-value
returns-in_ok-name_token-in-Some-clause-value c =
    c.in_ok-name_token-in-Some.ensures.value ∙ sym (by_at_lower c.args.text.now c.args.follow.now c.in-Some.c c.in-Some.rest.now c.in-Some.ensures.value (sym c.if-is_lower.ensures))

pub returns-in_ok-from_slice-in-Some-clause-value : goal.returns-in_ok-from_slice-in-Some-clause-value
returns-in_ok-from_slice-in-Some-clause-value c =
    ap T.Var c.in_ok-from_slice-in-Some.ensures ∙ sym (by_at_upper c.args.text.now c.args.follow.now c.in-Some.c c.in-Some.rest.now c.in-Some.ensures.value (sym c.if-is_lower.ensures) (sym c.if-is_upper.ensures))

pub returns-then-is_digit-clause-value : goal.returns-then-is_digit-clause-value
returns-then-is_digit-clause-value c =
    rw (by_at_digit c.args.text.now c.args.follow.now c.in-Some.c c.in-Some.rest.now c.in-Some.ensures.value (sym c.if-is_lower.ensures) (sym c.if-is_upper.ensures) (sym c.if-is_digit.ensures)) c.integer_token.ensures.value
