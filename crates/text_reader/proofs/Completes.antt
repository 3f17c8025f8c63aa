-- What is answered of a text within the limit, unless memory runs out.
use Rattle.std.proofs.Common.{◌⊎◌, ◌≤◌, ℕ, List, length, Result, Ok, Err, IfOk, IfErr, IsErrOf, IsOk, refl, inl, inr, arith}
use Rattle.erl_grammar.specs.FormSpelling.{module_tokens}
use Rattle.erl_scope_rules.specs.declared.fault.PlacedFault.{PlacedFault}
use Rattle.erl_scope.specs.FaultPlaces.{placed_fault}
use Rattle.typespecs_rules.specs.declared.fault.PlacedFault.{PlacedFault as TypePlacedFault}
use Rattle.typespecs.specs.FaultPlaces.{placed_fault as placed_spec_fault}
use Rattle.text_reader.specs.declared.fault.ReadFault.{ReadFault}
use Rattle.text_reader.specs.declared.fault.ReadFault.TheVariants as R
use Rattle.text_reader.specs.declared.reading.ReadModule.{ReadModule}
use Rattle.text_reader.specs.Modules.{text_limit, IsReadModule, HasNoModule, HasWrongNames, HasWrongSpecs, HasReadableModule, is_readable}
use Rattle.text_reader.specs.Refusals.{IsReadRefusal, IsNoModuleReading, IsWrongNamesReading, IsWrongSpecsReading}
use Rattle.text_reader.proofs.Apart.{no_fault, refusal_none, wrong_right, told_right, told_module, told_same, specs_right, told_specs_right, told_specs_module, told_specs_names, told_names_specs, told_specs_same}

-- what is read of a text
abbrev Reads : List ℕ → ReadModule → Type 0
Reads text r = IsReadModule text r.tree r.scopes r.specs

pub readable_is_read : (text : List ℕ) (result : Result ReadModule ReadFault) → IfErr result (IsReadRefusal text) → HasReadableModule text → length text ≤ text_limit → IsOk result ⊎ IsErrOf result R.NoMemory
readable_is_read text (Ok r) is has short = inl refl
readable_is_read text (Err R.NoMemory) is has short = inr refl
readable_is_read text (Err R.TooLong) is has short = absurd (omega arith)
readable_is_read text (Err (R.Lex fault)) is has short = absurd (no_fault text (module_tokens has.tree) fault has.parsed.lexed is)
readable_is_read text (Err (R.Parse fault)) is has short = absurd (refusal_none text has.tree fault has.parsed is)
readable_is_read text (Err (R.Scope fault)) is has short = absurd (told_right text has.tree (placed_fault fault) has.parsed has.readable.right_names is)
readable_is_read text (Err (R.Spec fault)) is has short = absurd (told_specs_right text has.tree (placed_spec_fault fault) has.parsed has.readable is)

pub no_module_is_refused : (text : List ℕ) (result : Result ReadModule ReadFault) → IfOk result (Reads text) → IfErr result (IsReadRefusal text) → HasNoModule text → length text ≤ text_limit → IsNoModuleReading result
no_module_is_refused text (Ok r) read is none short = none r.tree read.parsed
no_module_is_refused text (Err R.NoMemory) read is none short = tt
no_module_is_refused text (Err R.TooLong) read is none short = absurd (omega arith)
no_module_is_refused text (Err (R.Lex fault)) read is none short = tt
no_module_is_refused text (Err (R.Parse fault)) read is none short = tt
no_module_is_refused text (Err (R.Scope fault)) read is none short = told_module text (placed_fault fault) none is
no_module_is_refused text (Err (R.Spec fault)) read is none short = told_specs_module text (placed_spec_fault fault) none is

pub wrong_is_refused : (text : List ℕ) (f : PlacedFault) (result : Result ReadModule ReadFault) → IfOk result (Reads text) → IfErr result (IsReadRefusal text) → HasWrongNames text f → length text ≤ text_limit → IsWrongNamesReading f result
wrong_is_refused text f (Ok r) read is w short = wrong_right text r.tree f read.parsed read.right_names w
wrong_is_refused text f (Err R.NoMemory) read is w short = tt
wrong_is_refused text f (Err R.TooLong) read is w short = absurd (omega arith)
wrong_is_refused text f (Err (R.Lex fault)) read is w short = no_fault text (module_tokens w.tree) fault w.parsed.lexed is
wrong_is_refused text f (Err (R.Parse fault)) read is w short = refusal_none text w.tree fault w.parsed is
wrong_is_refused text f (Err (R.Scope fault)) read is w short = told_same text f (placed_fault fault) w is
wrong_is_refused text f (Err (R.Spec fault)) read is w short = told_specs_names text f (placed_spec_fault fault) w is

pub wrong_specs_are_refused : (text : List ℕ) (f : TypePlacedFault) (result : Result ReadModule ReadFault) → IfOk result (Reads text) → IfErr result (IsReadRefusal text) → HasWrongSpecs text f → length text ≤ text_limit → IsWrongSpecsReading f result
wrong_specs_are_refused text f (Ok r) read is w short = specs_right text r.tree f read.parsed (is_readable text r.tree r.scopes r.specs read) w
wrong_specs_are_refused text f (Err R.NoMemory) read is w short = tt
wrong_specs_are_refused text f (Err R.TooLong) read is w short = absurd (omega arith)
wrong_specs_are_refused text f (Err (R.Lex fault)) read is w short = no_fault text (module_tokens w.tree) fault w.parsed.lexed is
wrong_specs_are_refused text f (Err (R.Parse fault)) read is w short = refusal_none text w.tree fault w.parsed is
wrong_specs_are_refused text f (Err (R.Scope fault)) read is w short = told_names_specs text f (placed_fault fault) w is
wrong_specs_are_refused text f (Err (R.Spec fault)) read is w short = told_specs_same text f (placed_spec_fault fault) w is
