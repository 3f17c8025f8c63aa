-- The small text spells the small module.
use Rattle.std.proofs.Common.{[], subst, sym}
use Rattle.std.specs.Prelude.{codes}
use Rattle.erl_tree.specs.Lexis.{SpellsTokens}
use Rattle.erl_tree.specs.SmallText.{place, small_text, small_module}
use Rattle.erl_tree.proofs.TextExamples.{small_spelled}
use Rattle.erl_grammar.specs.FormGrammar.{IsModule, module_of}
use Rattle.erl_grammar.specs.Texts.{SpellsModule}
use Rattle.erl_grammar.proofs.FormSpellingLaws.{module_tokens-parts}

small-module-formed : IsModule small_module
small-module-formed = module_of (place 1) (place 2) (place 8) (place 9) (place 10) (place 11) (place 12) (codes "a") [] (λ f i. absurd i)

pub small_module_spelled : SpellsModule small_text small_module
small_module_spelled = record {
  tokens = subst (SpellsTokens small_text) (sym (module_tokens-parts small_module)) small_spelled;
  well_formed = small-module-formed;
}
