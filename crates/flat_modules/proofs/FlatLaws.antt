-- What a flat module is in the grammar of flat modules.
use Rattle.std.proofs.Common.{sym, subst, List}
use Rattle.erl_tree.specs.declared.token.Placed.{Placed}
use Rattle.erl_tree.specs.declared.form.Module.{Module}
use Rattle.erl_tree.specs.Lists.{Every}
use Rattle.erl_tree.specs.Limits.{IsInLimit}
use Rattle.erl_tree.specs.Functions.{functions_of, function_ids}
use Rattle.erl_grammar.specs.FormNesting.{IsModuleWithin}
use Rattle.erl_grammar.specs.Nesting.{nesting_limit}
use Rattle.text_reader_rules.specs.Readable.{IsReadable}
use Rattle.flat_modules.specs.FlatSpecs.{HasFlatSpecs}
use Rattle.flat_modules.specs.FlatNames.{FunctionCallsOnly, HasRightFlatNames}
use Rattle.flat_modules.specs.Spelling.{tokens_of}
use Rattle.flat_modules.specs.Grammar.{IsWellFormed}
use Rattle.flat_modules.specs.FlatModules.{HasDistinctHeads, IsFlatModule}
use Rattle.flat_modules.proofs.InProfile.{calls-in-profile}
use Rattle.flat_modules.proofs.RightFlatNames.{right-flat-names}
use Rattle.flat_modules.proofs.ModuleLaws.{module-whole, module-tokens, module-passing, module-flat}

-- the integers of some tokens are within the limit
abbrev pub AreInLimit : List Placed → Type 0
AreInLimit tokens = Every (λ t. IsInLimit t.token) tokens

pub flat-formed : (m : Module) → IsFlatModule m → IsWellFormed m
flat-formed m f = module-flat m f.well_formed f.flat

-- what the right names of a flat module come to
pub flat-names : (m : Module) → IsFlatModule m → HasRightFlatNames m
flat-names m f = right-flat-names m (flat-formed m f) f.readable.right_names f.flat_specs

pub flat-limits : (m : Module) → IsFlatModule m → AreInLimit (tokens_of m)
flat-limits m f = subst AreInLimit (sym (module-tokens m (flat-formed m f))) f.in_limit

pub flat-module : (m : Module) → IsWellFormed m → IsReadable m → HasFlatSpecs m → Every HasDistinctHeads (functions_of m) → Every (FunctionCallsOnly (function_ids m)) (functions_of m)
    → IsModuleWithin nesting_limit m → AreInLimit (tokens_of m) → IsFlatModule m
flat-module m w r s heads own within limits = record {
  well_formed = module-whole m w (calls-in-profile m w (right-flat-names m w r.right_names s).not_built_in own);
  flat = module-passing m w;
  readable = r;
  flat_specs = s;
  distinct_heads = heads;
  own_calls = own;
  within = within;
  in_limit = subst AreInLimit (module-tokens m w) limits;
}
