-- What the program says of a module's text.
use Rattle.std.specs.Prelude.{◌≡◌, ◌⊎◌, ◌<◌, ◌+◌, ◌↔◌, ℕ, List, [], ◌∷◌, length, slice_get, Some, Result, Ok, Err}
use Rattle.std.specs.Option.{option_map}
use Rattle.type_terms.specs.declared.spec.Kind.{Kind}
use Rattle.erl_tree.specs.declared.token.Place.{Place}
use Rattle.erl_tree.specs.declared.token.Node.{Node}
use Rattle.erl_tree.specs.declared.form.Function.{Function}
use Rattle.erl_tree.specs.declared.form.SpecKind.{SpecKind}
use Rattle.erl_tree.specs.declared.form.Module.{Module}
use Rattle.erl_tree.specs.Functions.{functions_of, clauses_arity}
use Rattle.erl_runs.specs.Specs.{specs_in}
use Rattle.erl_grammar.specs.FormSpelling.{module_tokens}
use Rattle.erl_grammar.specs.Texts.{SpellsModule}
use Rattle.erl_tree.specs.Profile.{IsLexed}
use Rattle.erl_lexer.specs.declared.LexFault.TheVariants as L
use Rattle.erl_tree.specs.Lists.{Every}
use Rattle.erl_scope_rules.specs.declared.fault.NameFault.{NameFault}
use Rattle.erl_scope_rules.specs.declared.fault.NameFault.TheVariants as N
use Rattle.erl_scope_rules.specs.declared.fault.PlacedFault.{PlacedFault}
use Rattle.typespecs_rules.specs.declared.fault.TypeFault.{TypeFault}
use Rattle.typespecs_rules.specs.declared.fault.TypeFault.TheVariants as T
use Rattle.typespecs_rules.specs.declared.fault.Outside.{Outside}
use Rattle.typespecs_rules.specs.declared.fault.PlacedFault.{PlacedFault as TypePlacedFault}
use Rattle.typespecs_rules.specs.declared.specs.Specs.{Specs}
use Rattle.typespecs_rules.specs.SpecTerms.{module_specs}
use Rattle.typespecs_rules.specs.TypeFaults.{fault_at, outside_words}
use Rattle.typespecs.specs.FaultPlaces.{placed_fault as placed_spec_fault}
use Rattle.text_reader_rules.specs.Readable.{IsReadable}
use Rattle.text_reader.specs.declared.fault.ReadFault.{ReadFault}
use Rattle.text_reader.specs.declared.fault.ReadFault.TheVariants as R
use Rattle.text_reader.specs.Modules.{text_limit, IsParsedAs, HasWrongNames, HasWrongSpecs}
use Rattle.text_reader.specs.Refusals.{IsFirstFault, IsUnexpected, IsOutOfProfile, IsTooDeep, IsParseRefusal, IsScopeRefusal, IsSpecRefusal}
use Rattle.erl_scope.specs.FaultPlaces.{placed_fault}
use Rattle.flat_modules.specs.FlatModules.{IsFlatModule}
use Rattle.erl_runs.specs.Safety.{IsSafe}
use Rattle.text_reader_rules.specs.SafeTexts.{IsSafeText}
use Rattle.cert_checker.specs.declared.refusal.Shown.{Shown}
use Rattle.cert_checker.specs.declared.refusal.FirstRefusal.{FirstRefusal}
use Rattle.cert_checker.specs.declared.refusal.FirstRefusal.TheVariants.{NoMemory as NoMemoryToCheck, Failed as FailedConstraint}
use Rattle.cert_checker.specs.Constraints.{Test, FindsFits, Holds, owed_of}
use Rattle.cert_checker.specs.Failures.{MeetsConstraints, ShowsFirstFailure}
use Rattle.etylizer_program.specs.declared.check.Accepted.{Accepted as AcceptedText}
use Rattle.etylizer_program.specs.declared.check.Refused.{Refused}
use Rattle.etylizer_program.specs.declared.check.Refused.TheVariants.{NoMemory as NoMemoryForText, TooLong as TooLongText, Lex as LexText, Parse as ParseText, Scope as ScopeText, Spec as SpecText, NotBuilt as NotBuiltText, Types}
use Rattle.etylizer_program.specs.declared.report.Verdict.{Verdict}
use Rattle.etylizer_program.specs.declared.report.Verdict.TheVariants.{Accepted, Failed, NotText, NotUtf8, TooLong, NotBuilt, Usage}
use Rattle.etylizer_program.specs.declared.report.Words.{Words}
use Rattle.etylizer_program.specs.declared.report.Words.TheVariants as W

-- the bytes are lexed as this module's tokens and spell no other one, and it is flat
pub record IsReadAs (text : List ℕ) (m : Module) : Type 0 where
  pub lexed : IsLexed text (module_tokens m)
  pub spelled : SpellsModule text m
  pub only : (other : Module) → SpellsModule text other → other ≡ m
  pub flat : IsFlatModule m

-- the same, and these are its specs
pub record IsReadWith (text : List ℕ) (m : Module) (s : Specs) : Type 0 where
  pub read : IsReadAs text m
  pub specs : module_specs m ≡ Some s

-- ---- texts that are read

-- the bytes are lexed as the tokens of a well-formed module, nested within the limit; it is readable, and it isn't flat
pub record IsNotBuilt (text : List ℕ) : Type 0 where
  pub tree : Module
  pub parsed : IsParsedAs text tree
  pub readable : IsReadable tree
  pub not_flat : IsFlatModule tree → ⊥

-- the bytes are lexed as the tokens of a flat module all of whose constraints hold, with some test of arguments that finds what fits
pub record IsRightText (text : List ℕ) : Type 0 where
  pub tree : Module
  pub lexed : IsLexed text (module_tokens tree)
  pub flat : IsFlatModule tree
  pub fits : Test
  pub finds_fits : FindsFits fits
  pub meets : Every Holds (owed_of fits tree)

-- ---- modules that are accepted

-- the number of functions of a module
abbrev pub function_count : Module → ℕ
function_count m = length (functions_of m)

-- the number of clauses of these specs together
abbrev pub clauses_in : List (Node SpecKind) → ℕ
clauses_in [] = 0
clauses_in (spec ∷ specs) = length spec.kind.clauses + clauses_in specs

-- the number of clauses of the specs of a module
abbrev pub spec_clause_count : Module → ℕ
spec_clause_count m = clauses_in (specs_in m.forms)

-- the module's name and the numbers of its functions and spec clauses
pub record IsSummary (m : Module) (name : List ℕ) (functions clauses : ℕ) : Type 0 where
  pub named : name ≡ m.name
  pub functions_counted : functions ≡ function_count m
  pub clauses_counted : clauses ≡ spec_clause_count m

-- the module's constraints hold, it is safe by the specs that its text gives, if it gives some, and this is its summary
pub record IsAcceptedModule (m : Module) (name : List ℕ) (functions clauses : ℕ) : Type 0 where
  pub meets : MeetsConstraints m
  pub safe : (s : Specs) → module_specs m ≡ Some s → IsSafe m s.functions s.defs
  pub summary : IsSummary m name functions clauses

-- the text is a safe text and lexed as its module's tokens, the module is flat and its constraints hold, and this is the module's summary
pub record IsAcceptedText (text name : List ℕ) (functions clauses : ℕ) : Type 0 where
  pub safe : IsSafeText text
  pub lexed : IsLexed text (module_tokens safe.tree)
  pub flat : IsFlatModule safe.tree
  pub meets : MeetsConstraints safe.tree
  pub summary : IsSummary safe.tree name functions clauses

-- ---- modules that are refused

-- a constraint of the module fails
abbrev pub IsFailure : Module → FirstRefusal → Type 0
IsFailure m NoMemoryToCheck = ⊥
IsFailure m (FailedConstraint function place kind shown) = ShowsFirstFailure m (FailedConstraint function place kind shown)

-- why a text is refused whose module is refused
abbrev pub refused_as : FirstRefusal → Refused
refused_as NoMemoryToCheck = NoMemoryForText
refused_as (FailedConstraint function place kind shown) = Types (FailedConstraint function place kind shown)

-- why a text is refused of which no readable module was read
abbrev pub refused_by_reader : ReadFault → Refused
refused_by_reader R.NoMemory = NoMemoryForText
refused_by_reader R.TooLong = TooLongText
refused_by_reader (R.Lex fault) = LexText fault
refused_by_reader (R.Parse fault) = ParseText fault
refused_by_reader (R.Scope fault) = ScopeText fault
refused_by_reader (R.Spec fault) = SpecText fault

-- why a text may be refused
abbrev pub IsTextRefusal : List ℕ → Refused → Type 0
IsTextRefusal text NoMemoryForText = Unit {0}
IsTextRefusal text TooLongText = text_limit < length text
IsTextRefusal text NotBuiltText = IsNotBuilt text
IsTextRefusal text (LexText fault) = IsFirstFault text fault
IsTextRefusal text (ParseText fault) = IsParseRefusal text fault
IsTextRefusal text (ScopeText fault) = IsScopeRefusal text fault
IsTextRefusal text (SpecText fault) = IsSpecRefusal text fault
IsTextRefusal text (Types refusal) = (m : Module) × IsReadAs text m × IsFailure m refusal

-- a text without a module is refused by the lexer or the parser, unless memory runs out
abbrev pub IsNoModuleAnswer : Result AcceptedText Refused → Type 0
IsNoModuleAnswer (Ok a) = ⊥
IsNoModuleAnswer (Err NoMemoryForText) = Unit {0}
IsNoModuleAnswer (Err (LexText fault)) = Unit {0}
IsNoModuleAnswer (Err (ParseText fault)) = Unit {0}
IsNoModuleAnswer (Err _) = ⊥

-- a text whose module has wrong names is refused with their first fault, unless memory runs out
abbrev pub IsWrongNamesAnswer : PlacedFault → Result AcceptedText Refused → Type 0
IsWrongNamesAnswer fault (Ok a) = ⊥
IsWrongNamesAnswer fault (Err NoMemoryForText) = Unit {0}
IsWrongNamesAnswer fault (Err (ScopeText answer)) = placed_fault answer ≡ Some fault
IsWrongNamesAnswer fault (Err _) = ⊥

-- a text whose module has right names and wrong types, records or specs is refused with their first fault, unless memory runs out
abbrev pub IsWrongSpecsAnswer : TypePlacedFault → Result AcceptedText Refused → Type 0
IsWrongSpecsAnswer fault (Ok a) = ⊥
IsWrongSpecsAnswer fault (Err NoMemoryForText) = Unit {0}
IsWrongSpecsAnswer fault (Err (SpecText answer)) = placed_spec_fault answer ≡ Some fault
IsWrongSpecsAnswer fault (Err _) = ⊥

-- a function's name and arity
abbrev pub name_and_arity : Function → List ℕ × ℕ
name_and_arity f = (f.name, clauses_arity f.clauses)

-- a constraint of the module fails, in the first spec clause of this function, with the place, kind and element that are shown
pub record IsFailedModule (m : Module) (name function : List ℕ) (arity clause : ℕ) (place : Place) (kind : Kind) (shown : Shown) : Type 0 where
  pub number : ℕ
  pub failed : ShowsFirstFailure m (FailedConstraint number place kind shown)
  pub named : name ≡ m.name
  pub in_function : option_map name_and_arity (slice_get (functions_of m) number) ≡ Some (function, arity)
  pub first_clause : clause ≡ 1

-- ---- verdicts

-- the words for a fault of names
abbrev pub fault_words : NameFault → Words
fault_words N.Unbound = W.UnboundVariable
fault_words N.Unsafe = W.UnsafeVariable
fault_words N.NoSuchFunction = W.NoSuchFunction
fault_words N.TwoFunctions = W.TwoFunctions
fault_words N.NoSpec = W.NoSpec
fault_words N.NoSuchRecord = W.NoSuchRecord
fault_words N.NoSuchField = W.NoSuchField
fault_words N.Repeated = W.Repeated
fault_words N.ArityDiffers = W.ArityDiffers

-- a fault of names at a place
abbrev pub placed : NameFault → Place → PlacedFault
placed fault place = record { place = place; fault = fault }

-- the words for a fault of types, records and specs
abbrev pub spec_fault_words : TypeFault → Words
spec_fault_words T.NoSuchType = W.NoSuchType
spec_fault_words T.Repeated = W.Repeated
spec_fault_words T.NotContractive = W.NotContractive
spec_fault_words T.NegatedFun = W.NegatedFun
spec_fault_words (T.OutOfProfile what) = W.OutOfProfile (outside_words what)
spec_fault_words T.ArityDiffers = W.ArityDiffers
spec_fault_words T.BadRange = W.EmptyRange

-- what stands at the place in a type, a record or a spec is out of the profile, in these words
abbrev pub HasOutsideSpec : List ℕ → Place → List ℕ → Type 0
HasOutsideSpec text place form = (what : Outside) × (form ≡ outside_words what) × HasWrongSpecs text (fault_at (T.OutOfProfile what) place)

-- why a text within the limit has no readable module, by the words of its refusal and the place
abbrev pub IsNoText : List ℕ → Place → Words → Type 0
IsNoText text place W.BadToken = IsFirstFault text (L.BadToken place)
IsNoText text place W.BadEscape = IsFirstFault text (L.BadEscape place)
IsNoText text place W.NumberTooWide = IsFirstFault text (L.WideNumber place)
IsNoText text place (W.OutOfProfile form) = IsFirstFault text (L.OutOfProfile place form) ⊎ (IsOutOfProfile text place form ⊎ HasOutsideSpec text place form)
IsNoText text place W.Unexpected = IsUnexpected text
IsNoText text place W.TooDeep = IsTooDeep text place
IsNoText text place W.UnboundVariable = HasWrongNames text (placed N.Unbound place)
IsNoText text place W.UnsafeVariable = HasWrongNames text (placed N.Unsafe place)
IsNoText text place W.NoSuchFunction = HasWrongNames text (placed N.NoSuchFunction place)
IsNoText text place W.TwoFunctions = HasWrongNames text (placed N.TwoFunctions place)
IsNoText text place W.NoSpec = HasWrongNames text (placed N.NoSpec place)
IsNoText text place W.NoSuchRecord = HasWrongNames text (placed N.NoSuchRecord place)
IsNoText text place W.NoSuchField = HasWrongNames text (placed N.NoSuchField place)
IsNoText text place W.Repeated = HasWrongNames text (placed N.Repeated place) ⊎ HasWrongSpecs text (fault_at T.Repeated place)
IsNoText text place W.ArityDiffers = HasWrongNames text (placed N.ArityDiffers place) ⊎ HasWrongSpecs text (fault_at T.ArityDiffers place)
IsNoText text place W.NoSuchType = HasWrongSpecs text (fault_at T.NoSuchType place)
IsNoText text place W.NotContractive = HasWrongSpecs text (fault_at T.NotContractive place)
IsNoText text place W.NegatedFun = HasWrongSpecs text (fault_at T.NegatedFun place)
IsNoText text place W.EmptyRange = HasWrongSpecs text (fault_at T.BadRange place)

-- what a verdict says of a module that was read
abbrev pub IsModuleVerdict : Module → Verdict → Type 0
IsModuleVerdict m (Accepted name functions clauses) = IsAcceptedModule m name functions clauses
IsModuleVerdict m (Failed name function arity clause place kind shown) = IsFailedModule m name function arity clause place kind shown
IsModuleVerdict m (NotText place words) = ⊥
IsModuleVerdict m (NotUtf8 at) = ⊥
IsModuleVerdict m TooLong = ⊥
IsModuleVerdict m NotBuilt = ⊥
IsModuleVerdict m Usage = ⊥

-- what a verdict says of a text
abbrev pub IsTextVerdict : List ℕ → Verdict → Type 0
IsTextVerdict text (Accepted name functions clauses) = IsAcceptedText text name functions clauses
IsTextVerdict text (Failed name function arity clause place kind shown) = (m : Module) × IsReadAs text m × IsFailedModule m name function arity clause place kind shown
IsTextVerdict text (NotText place words) = IsNoText text place words
IsTextVerdict text (NotUtf8 at) = IsFirstFault text (L.NotUtf8 at)
IsTextVerdict text TooLong = text_limit < length text
IsTextVerdict text NotBuilt = IsNotBuilt text
IsTextVerdict text Usage = ⊥

-- the verdict is right, and says that the text is too long exactly where it is
pub record IsRightVerdict (text : List ℕ) (verdict : Verdict) : Type 0 where
  pub right : IsTextVerdict text verdict
  pub too_long : (text_limit < length text) ↔ (verdict ≡ TooLong)
