use Rattle.std.proofs.Common.{◌∙◌, ap, sym}
use Rattle.erl_tree.specs.Lexis.{is_digit}
use Rattle.erl_lexer.specs.Scan.{grouped_run, or_else}
use Rattle.erl_lexer.proofs.Digits.{ten_grouped}
use Rattle.erl_lexer.proofs.integers.integer_length.Goals as goal

pub returns-in-None-clause-value : goal.returns-in-None-clause-value
returns-in-None-clause-value c = c.grouped_length.ensures.value ∙ (ten_grouped c.args.text.now ∙ ap (λ o. or_else o (grouped_run is_digit c.args.text.now)) (sym c.in-None.ensures.value))
