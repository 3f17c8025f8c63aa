-- The modules that are checked so far: flat modules in which names, types and specs are used rightly.
use Rattle.std.specs.Prelude.{◌≡◌, true}
use Rattle.erl_tree.specs.Lists.{Every, AreDistinct}
use Rattle.erl_tree.specs.declared.token.Node.{Node}
use Rattle.erl_tree.specs.declared.expr.ClauseKind.{ClauseKind, out-ClauseKind}
use Rattle.erl_tree.specs.declared.form.Function.{Function}
use Rattle.erl_tree.specs.declared.form.Module.{Module}
use Rattle.erl_tree.specs.Functions.{functions_of, function_ids}
use Rattle.erl_grammar.specs.FormGrammar.{IsModule}
use Rattle.erl_grammar.specs.FormNesting.{IsModuleWithin}
use Rattle.erl_grammar.specs.Nesting.{nesting_limit}
use Rattle.erl_grammar.specs.Texts.{HasIntegersInLimit}
use Rattle.text_reader_rules.specs.Readable.{IsReadable}
use Rattle.flat_modules.specs.FlatSpecs.{HasFlatSpecs}
use Rattle.flat_modules.specs.FlatNames.{bound_by, FunctionCallsOnly}
use Rattle.flat_modules.specs.Flat.{is_flat}

-- the variables of a head are distinct
abbrev pub HasDistinctHead : Node ClauseKind → Type 0
HasDistinctHead c = AreDistinct (bound_by (out-ClauseKind c.kind).patterns)

-- the same of each clause
abbrev pub HasDistinctHeads : Function → Type 0
HasDistinctHeads f = Every HasDistinctHead f.clauses

-- a well-formed module that is flat, in which names, types and specs are used rightly, each spec has terms of flat types, the variables of each head are distinct and calls are of the module's own functions alone, nested at most 256 levels deep and with integers within the limit
pub record IsFlatModule (m : Module) : Type 0 where
  pub well_formed : IsModule m
  pub flat : is_flat m ≡ true
  pub readable : IsReadable m
  pub flat_specs : HasFlatSpecs m
  pub distinct_heads : Every HasDistinctHeads (functions_of m)
  pub own_calls : Every (FunctionCallsOnly (function_ids m)) (functions_of m)
  pub within : IsModuleWithin nesting_limit m
  pub in_limit : HasIntegersInLimit m
