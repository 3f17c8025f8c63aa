-- Why a text gives no readable module.
use Rattle.std.specs.Prelude.{◌≡◌, ◌≢◌, ◌<◌, ℕ, List, length, Option, Some, None, Result, Ok, Err}
use Rattle.erl_tree.specs.declared.token.Place.{Place}
use Rattle.erl_tree.specs.declared.token.Placed.{Placed}
use Rattle.erl_tree.specs.declared.form.Module.{Module}
use Rattle.erl_tree.specs.Lists.{Among}
use Rattle.erl_tree.specs.Profile.{IsLexed}
use Rattle.erl_grammar.specs.FormSpelling.{module_tokens}
use Rattle.erl_grammar.specs.FormGrammar.{IsModule}
use Rattle.erl_grammar.specs.FormNesting.{module_deep}
use Rattle.erl_grammar.specs.Nesting.{nesting_limit}
use Rattle.erl_lexer.specs.declared.LexFault.{LexFault}
use Rattle.erl_lexer.specs.declared.LexFault.TheVariants as L
use Rattle.erl_lexer.specs.Faults.{IsFault}
use Rattle.erl_parser_tokens.specs.declared.fault.ParseFault.{ParseFault}
use Rattle.erl_parser_tokens.specs.declared.fault.ParseFault.TheVariants as P
use Rattle.erl_parser_tokens.specs.Outside.{HasOutside}
use Rattle.erl_scope_rules.specs.declared.fault.PlacedFault.{PlacedFault}
use Rattle.erl_scope.specs.declared.fault.ScopeFault.{ScopeFault}
use Rattle.erl_scope.specs.FaultPlaces.{placed_fault}
use Rattle.typespecs_rules.specs.declared.fault.PlacedFault.{PlacedFault as TypePlacedFault}
use Rattle.typespecs.specs.declared.fault.SpecFault.{SpecFault}
use Rattle.typespecs.specs.FaultPlaces.{placed_fault as placed_spec_fault}
use Rattle.text_reader.specs.declared.fault.ReadFault.{ReadFault}
use Rattle.text_reader.specs.declared.fault.ReadFault.TheVariants as R
use Rattle.text_reader.specs.declared.reading.ReadModule.{ReadModule}
use Rattle.text_reader.specs.Modules.{text_limit, HasWrongNames, HasWrongSpecs}

-- ---- tokens

-- the first fault of the lexer, which isn't want of memory
pub record IsFirstFault (text : List ℕ) (fault : LexFault) : Type 0 where
  pub stands : IsFault text fault
  pub proper : fault ≢ L.NoMemory

-- ---- trees

-- the bytes are lexed as these tokens, and no well-formed module has them
pub record SpellsNone (text : List ℕ) (tokens : List Placed) : Type 0 where
  pub lexed : IsLexed text tokens
  pub none : (m : Module) → IsModule m → module_tokens m ≡ tokens → ⊥

-- the bytes are lexed as tokens of no well-formed module
pub record IsUnexpected (text : List ℕ) : Type 0 where
  pub tokens : List Placed
  pub spells_none : SpellsNone text tokens

-- the same, and a form of this name, which is outside of the profile, begins at the place
pub record IsOutOfProfile (text : List ℕ) (place : Place) (form : List ℕ) : Type 0 where
  pub tokens : List Placed
  pub spells_none : SpellsNone text tokens
  pub stands : HasOutside tokens place form

-- the bytes are lexed, and in every well-formed module with their tokens a node that is nested too deep begins at the place
pub record IsTooDeep (text : List ℕ) (place : Place) : Type 0 where
  pub tokens : List Placed
  pub lexed : IsLexed text tokens
  pub deep : (m : Module) → IsModule m → module_tokens m ≡ tokens → Among place (module_deep m nesting_limit)

-- why the parser refuses the tokens of a text
abbrev pub IsParseRefusal : List ℕ → ParseFault → Type 0
IsParseRefusal text P.NoMemory = ⊥
IsParseRefusal text (P.OutOfProfile place form) = IsOutOfProfile text place form
IsParseRefusal text (P.Unexpected place) = IsUnexpected text
IsParseRefusal text (P.TooDeep place) = IsTooDeep text place

-- why a text is refused whose tokens are refused
abbrev pub refused_by_parser : ParseFault → ReadFault
refused_by_parser P.NoMemory = R.NoMemory
refused_by_parser (P.OutOfProfile place form) = R.Parse (P.OutOfProfile place form)
refused_by_parser (P.Unexpected place) = R.Parse (P.Unexpected place)
refused_by_parser (P.TooDeep place) = R.Parse (P.TooDeep place)

-- ---- names

-- the first fault of the names, if one is told
abbrev pub HasToldFault : List ℕ → Option PlacedFault → Type 0
HasToldFault text None = ⊥
HasToldFault text (Some fault) = HasWrongNames text fault

-- why the names of a text's module are refused
abbrev pub IsScopeRefusal : List ℕ → ScopeFault → Type 0
IsScopeRefusal text fault = HasToldFault text (placed_fault fault)

-- ---- types, records and specs

-- the first fault of the types, records and specs, if one is told
abbrev pub HasToldSpecFault : List ℕ → Option TypePlacedFault → Type 0
HasToldSpecFault text None = ⊥
HasToldSpecFault text (Some fault) = HasWrongSpecs text fault

-- why the types, records and specs of a text's module are refused
abbrev pub IsSpecRefusal : List ℕ → SpecFault → Type 0
IsSpecRefusal text fault = HasToldSpecFault text (placed_spec_fault fault)

-- ---- texts

-- why a text may be refused
abbrev pub IsReadRefusal : List ℕ → ReadFault → Type 0
IsReadRefusal text R.NoMemory = Unit {0}
IsReadRefusal text R.TooLong = text_limit < length text
IsReadRefusal text (R.Lex fault) = IsFirstFault text fault
IsReadRefusal text (R.Parse fault) = IsParseRefusal text fault
IsReadRefusal text (R.Scope fault) = IsScopeRefusal text fault
IsReadRefusal text (R.Spec fault) = IsSpecRefusal text fault

-- a text without a module is refused by the lexer or the parser, unless memory runs out
abbrev pub IsNoModuleReading : Result ReadModule ReadFault → Type 0
IsNoModuleReading (Ok r) = ⊥
IsNoModuleReading (Err R.NoMemory) = Unit {0}
IsNoModuleReading (Err (R.Lex fault)) = Unit {0}
IsNoModuleReading (Err (R.Parse fault)) = Unit {0}
IsNoModuleReading (Err _) = ⊥

-- a text whose module has wrong names is refused with their first fault, unless memory runs out
abbrev pub IsWrongNamesReading : PlacedFault → Result ReadModule ReadFault → Type 0
IsWrongNamesReading fault (Ok r) = ⊥
IsWrongNamesReading fault (Err R.NoMemory) = Unit {0}
IsWrongNamesReading fault (Err (R.Scope answer)) = placed_fault answer ≡ Some fault
IsWrongNamesReading fault (Err _) = ⊥

-- a text whose module has right names and wrong types, records or specs is refused with their first fault, unless memory runs out
abbrev pub IsWrongSpecsReading : TypePlacedFault → Result ReadModule ReadFault → Type 0
IsWrongSpecsReading fault (Ok r) = ⊥
IsWrongSpecsReading fault (Err R.NoMemory) = Unit {0}
IsWrongSpecsReading fault (Err (R.Spec answer)) = placed_spec_fault answer ≡ Some fault
IsWrongSpecsReading fault (Err _) = ⊥
