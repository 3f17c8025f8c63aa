-- A text that is one module.
use Rattle.std.specs.Prelude.{◌≡◌, List}
use Rattle.erl_tree.specs.declared.token.Placed.{Placed}
use Rattle.erl_tree.specs.declared.form.Module.{Module}
use Rattle.erl_grammar.specs.FormSpelling.{module_tokens}

-- the tokens are those of the module
abbrev pub IsModuleText : Module → List Placed → Type 0
IsModuleText m ts = module_tokens m ≡ ts
