-- When a module is readable: its names, its types and its specs are used rightly (Erlang Reference Manual, "Expressions" on variables, "Functions", "Records", "Types and Function Specifications"). It is said of modules that are well formed.
use Rattle.erl_tree.specs.declared.form.Module.{Module}
use Rattle.erl_scope_rules.specs.ScopeFaults.{HasRightNames}
use Rattle.typespecs_rules.specs.declared.specs.Specs.{Specs}
use Rattle.typespecs_rules.specs.TypeFaults.{HasSpecs}

-- nothing is wrong with its names, and nothing with its types, records and specs, which are these
pub record IsReadable (m : Module) : Type 0 where
  pub right_names : HasRightNames m
  pub specs : Specs
  pub has_specs : HasSpecs m specs
