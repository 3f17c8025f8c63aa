-- Small texts that are safe and that are not.
use Rattle.std.proofs.Common.{◌≡◌}
use Rattle.std.specs.Prelude.{codes}
use Rattle.erl_tree.specs.SmallText.{small_text, small_module}
use Rattle.erl_tree.specs.declared.form.Module.{Module}
use Rattle.erl_tree.proofs.TextExamples.{dollar_spells_nothing}
use Rattle.erl_grammar.specs.FormSpelling.{module_tokens}
use Rattle.erl_grammar.specs.Texts.{SpellsModule}
use Rattle.flat_modules.proofs.SmallExamples.{no-functions}
use Rattle.typespecs_rules.specs.declared.specs.Specs.{Specs}
use Rattle.text_reader_rules.specs.Readable.{IsReadable}
use Rattle.erl_runs.specs.Safety.{IsSafe}
use Rattle.text_reader_rules.specs.SafeTexts.{IsSafeText}
use Rattle.erl_runs.proofs.TextExamples.{small_module_spelled}
use Rattle.erl_parser.proofs.TextLaws.{one_module}

only_small : (other : Module) → SpellsModule small_text other → other ≡ small_module
only_small other s = one_module small_text other small_module s small_module_spelled

small_readable : IsReadable small_module
small_readable = no-functions.readable

small_is_safe : (s : Specs) → IsSafe small_module s.functions s.defs
small_is_safe s outside f arrow i args steps among = absurd among

pub safe_text : IsSafeText small_text
safe_text = record { tree = small_module; spelled = small_module_spelled; only = only_small; readable = small_readable; safe = small_is_safe small_readable.specs }

pub dollar_not_safe : IsSafeText (codes "$") → ⊥
dollar_not_safe s = dollar_spells_nothing (module_tokens s.tree) s.spelled.tokens
