use Rattle.std.proofs.Common.{◌∙◌, ap, sym, ℕ, Some}
use Rattle.erl_lexer.specs.Scan.{character_bytes}
use Rattle.erl_lexer.proofs.Arms.{at_digit, at_other}
use Rattle.erl_lexer.proofs.token_at.token_length.Goals as goal

pub returns-then-is_digit : goal.returns-then-is_digit
returns-then-is_digit c =
    at_digit character_bytes c.args.text.now c.in-Some.c c.in-Some.rest.now c.in-Some.ensures.value (sym c.if-is_lower.ensures) (sym c.if-is_upper.ensures) (sym c.if-is_digit.ensures) ∙ ap (λ (n : ℕ). Some n) (sym c.integer_length.ensures.value)

pub returns-else-is_digit : goal.returns-else-is_digit
returns-else-is_digit c =
    at_other character_bytes c.args.text.now c.in-Some.c c.in-Some.rest.now c.in-Some.ensures.value (sym c.if-is_lower.ensures) (sym c.if-is_upper.ensures) (sym c.if-is_digit.ensures) ∙ c.other_length.ensures
