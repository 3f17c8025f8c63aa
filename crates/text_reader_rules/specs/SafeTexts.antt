-- When a text is safe: the claim that an accepted text keeps.
use Rattle.std.specs.Prelude.{◌≡◌, ℕ, List}
use Rattle.erl_tree.specs.declared.form.Module.{Module}
use Rattle.erl_grammar.specs.Texts.{SpellsModule}
use Rattle.erl_runs.specs.Safety.{IsSafe}
use Rattle.text_reader_rules.specs.Readable.{IsReadable}

-- the bytes spell exactly one module, which is readable and safe
pub record IsSafeText (bytes : List ℕ) : Type 0 where
  pub tree : Module
  pub spelled : SpellsModule bytes tree
  pub only : (other : Module) → SpellsModule bytes other → other ≡ tree
  pub readable : IsReadable tree
  pub safe : IsSafe tree readable.specs.functions readable.specs.defs
