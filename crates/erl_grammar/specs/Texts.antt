-- Which module a text spells, and how large the integers of a module are.
use Rattle.std.specs.Prelude.{ℕ, List}
use Rattle.erl_tree.specs.Lists.{Every}
use Rattle.erl_tree.specs.Lexis.{SpellsTokens}
use Rattle.erl_tree.specs.Limits.{IsInLimit}
use Rattle.erl_tree.specs.declared.form.Module.{Module}
use Rattle.erl_grammar.specs.FormSpelling.{module_tokens}
use Rattle.erl_grammar.specs.FormGrammar.{IsModule}

-- the bytes spell the tokens of the module, and it is well formed
pub record SpellsModule (bytes : List ℕ) (m : Module) : Type 0 where
  pub tokens : SpellsTokens bytes (module_tokens m)
  pub well_formed : IsModule m

-- each integer of the module's text is within the limit
abbrev pub HasIntegersInLimit : Module → Type 0
HasIntegersInLimit m = Every (λ t. IsInLimit t.token) (module_tokens m)
