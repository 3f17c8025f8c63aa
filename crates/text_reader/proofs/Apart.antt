-- What a text calls for is one thing: tokens or a fault of the lexer, a module or a refusal of the parser, right names or their first fault, specs or the first fault of these.
use Rattle.std.proofs.Common.{◌≡◌, ℕ, List, [], Option, Some, None, Ok, refl, ap, subst}
use Rattle.erl_tree.specs.Lists.{Among}
use Rattle.erl_tree.specs.declared.form.Module.{Module}
use Rattle.erl_tree.specs.declared.token.Place.{Place}
use Rattle.erl_tree.specs.declared.token.Placed.{Placed}
use Rattle.erl_tree.specs.Profile.{IsLexed}
use Rattle.erl_grammar.specs.FormSpelling.{module_tokens}
use Rattle.erl_grammar.specs.FormNesting.{module_deep}
use Rattle.erl_grammar.specs.Nesting.{nesting_limit}
use Rattle.erl_lexer.specs.declared.LexFault.{LexFault}
use Rattle.erl_lexer.specs.declared.LexFault.TheVariants as L
use Rattle.erl_lexer.proofs.Answered.{only_by, exact_by}
use Rattle.erl_parser_tokens.specs.declared.fault.ParseFault.{ParseFault}
use Rattle.erl_parser_tokens.specs.declared.fault.ParseFault.TheVariants as P
use Rattle.erl_scope_rules.specs.declared.fault.PlacedFault.{PlacedFault}
use Rattle.erl_scope_rules.specs.ScopeFaults.{faults_of, HasRightNames, IsFirstFault as IsFirstNameFault}
use Rattle.erl_scope.proofs.OneFirst.{IsFirstFault-same}
use Rattle.typespecs_rules.specs.declared.fault.PlacedFault.{PlacedFault as TypePlacedFault}
use Rattle.typespecs_rules.specs.TypeFaults.{IsFirstFault as IsFirstSpecFault}
use Rattle.typespecs_lemmas.proofs.FirstFault.{one-first, no-first}
use Rattle.text_reader_rules.specs.Readable.{IsReadable}
use Rattle.text_reader.specs.Modules.{IsParsedAs, HasNoModule, HasWrongNames, HasWrongSpecs}
use Rattle.text_reader.specs.Refusals.{IsFirstFault, IsUnexpected, IsOutOfProfile, IsTooDeep, IsParseRefusal, HasToldFault, HasToldSpecFault}
use Rattle.text_reader.proofs.Parsed.{same_parsed}

-- ---- tokens and faults

-- a text is lexed as one list of tokens
one_lexing : (text : List ℕ) (ts us : List Placed) → IsLexed text ts → IsLexed text us → ts ≡ us
one_lexing text ts us h g = only_by text (Ok ts) h tt us g

-- a text that is lexed has no fault
pub no_fault : (text : List ℕ) (tokens : List Placed) (fault : LexFault) → IsLexed text tokens → IsFirstFault text fault → ⊥
no_fault text tokens L.NoMemory lexed is = is.proper refl
no_fault text tokens (L.NotUtf8 at) lexed is = exact_by text (Ok tokens) lexed tt (L.NotUtf8 at) is.stands
no_fault text tokens (L.OutOfProfile place form) lexed is = exact_by text (Ok tokens) lexed tt (L.OutOfProfile place form) is.stands
no_fault text tokens (L.WideNumber place) lexed is = exact_by text (Ok tokens) lexed tt (L.WideNumber place) is.stands
no_fault text tokens (L.BadEscape place) lexed is = exact_by text (Ok tokens) lexed tt (L.BadEscape place) is.stands
no_fault text tokens (L.BadToken place) lexed is = exact_by text (Ok tokens) lexed tt (L.BadToken place) is.stands

-- ---- texts that are parsed

-- nothing among no places
among_none : (p : Place) (ps : List Place) → ps ≡ [] → Among p ps → ⊥
among_none p ps e a = subst (λ (qs : List Place). Among p qs) e a

-- a text that is parsed as a module is refused by no parser
pub unexpected_none : (text : List ℕ) (m : Module) → IsParsedAs text m → IsUnexpected text → ⊥
unexpected_none text m p u = u.spells_none.none m p.well_formed (one_lexing text (module_tokens m) u.tokens p.lexed u.spells_none.lexed)

pub outside_none : (text : List ℕ) (m : Module) (place : Place) (form : List ℕ) → IsParsedAs text m → IsOutOfProfile text place form → ⊥
outside_none text m place form p o = o.spells_none.none m p.well_formed (one_lexing text (module_tokens m) o.tokens p.lexed o.spells_none.lexed)

pub deep_none : (text : List ℕ) (m : Module) (place : Place) → IsParsedAs text m → IsTooDeep text place → ⊥
deep_none text m place p d = among_none place (module_deep m nesting_limit) p.within (d.deep m p.well_formed (one_lexing text (module_tokens m) d.tokens p.lexed d.lexed))

pub refusal_none : (text : List ℕ) (m : Module) (fault : ParseFault) → IsParsedAs text m → IsParseRefusal text fault → ⊥
refusal_none text m P.NoMemory p is = is
refusal_none text m (P.OutOfProfile place form) p is = outside_none text m place form p is
refusal_none text m (P.Unexpected place) p is = unexpected_none text m p is
refusal_none text m (P.TooDeep place) p is = deep_none text m place p is

-- ---- names

among_no_faults : (f : PlacedFault) (fs : List PlacedFault) → fs ≡ [] → Among f fs → ⊥
among_no_faults f fs e a = subst (λ (gs : List PlacedFault). Among f gs) e a

-- names aren't both right and wrong
pub wrong_right : (text : List ℕ) (m : Module) (f : PlacedFault) → IsParsedAs text m → HasRightNames m → HasWrongNames text f → ⊥
wrong_right text m f p right w = among_no_faults f (faults_of m) right (subst (λ (n : Module). Among f (faults_of n)) (same_parsed text w.tree m w.parsed p) w.first.stands)

pub told_right : (text : List ℕ) (m : Module) (o : Option PlacedFault) → IsParsedAs text m → HasRightNames m → HasToldFault text o → ⊥
told_right text m None p right is = is
told_right text m (Some f) p right is = wrong_right text m f p right is

-- a fault is told of a module
pub told_module : (text : List ℕ) (o : Option PlacedFault) → HasNoModule text → HasToldFault text o → ⊥
told_module text None none is = is
told_module text (Some f) none is = none is.tree is.parsed

-- a text has one first fault of names
pub same_fault : (text : List ℕ) (f g : PlacedFault) → HasWrongNames text f → HasWrongNames text g → f ≡ g
same_fault text f g w v = IsFirstFault-same v.tree f g (subst (λ (n : Module). IsFirstNameFault n f) (same_parsed text w.tree v.tree w.parsed v.parsed) w.first) v.first

pub told_same : (text : List ℕ) (f : PlacedFault) (o : Option PlacedFault) → HasWrongNames text f → HasToldFault text o → o ≡ Some f
told_same text f None w is = absurd is
told_same text f (Some g) w is = ap Some (same_fault text g f is w)

-- ---- types, records and specs

-- they aren't both right and wrong
pub specs_right : (text : List ℕ) (m : Module) (f : TypePlacedFault) → IsParsedAs text m → IsReadable m → HasWrongSpecs text f → ⊥
specs_right text m f p readable w = no-first m readable.specs f readable.has_specs (subst (λ (n : Module). IsFirstSpecFault n f) (same_parsed text w.tree m w.parsed p) w.first)

pub told_specs_right : (text : List ℕ) (m : Module) (o : Option TypePlacedFault) → IsParsedAs text m → IsReadable m → HasToldSpecFault text o → ⊥
told_specs_right text m None p readable is = is
told_specs_right text m (Some f) p readable is = specs_right text m f p readable is

-- a fault is told of a module
pub told_specs_module : (text : List ℕ) (o : Option TypePlacedFault) → HasNoModule text → HasToldSpecFault text o → ⊥
told_specs_module text None none is = is
told_specs_module text (Some f) none is = none is.tree is.parsed

-- where names are wrong no fault of specs is told
pub names_first : (text : List ℕ) (f : PlacedFault) (g : TypePlacedFault) → HasWrongNames text f → HasWrongSpecs text g → ⊥
names_first text f g w v = wrong_right text v.tree f v.parsed v.right_names w

pub told_specs_names : (text : List ℕ) (f : PlacedFault) (o : Option TypePlacedFault) → HasWrongNames text f → HasToldSpecFault text o → ⊥
told_specs_names text f None w is = is
told_specs_names text f (Some g) w is = names_first text f g w is

pub told_names_specs : (text : List ℕ) (g : TypePlacedFault) (o : Option PlacedFault) → HasWrongSpecs text g → HasToldFault text o → ⊥
told_names_specs text g None v is = is
told_names_specs text g (Some f) v is = names_first text f g is v

-- a text has one first fault of types, records and specs
pub same_spec_fault : (text : List ℕ) (f g : TypePlacedFault) → HasWrongSpecs text f → HasWrongSpecs text g → f ≡ g
same_spec_fault text f g w v = one-first v.tree f g (subst (λ (n : Module). IsFirstSpecFault n f) (same_parsed text w.tree v.tree w.parsed v.parsed) w.first) v.first

pub told_specs_same : (text : List ℕ) (f : TypePlacedFault) (o : Option TypePlacedFault) → HasWrongSpecs text f → HasToldSpecFault text o → o ≡ Some f
told_specs_same text f None w is = absurd is
told_specs_same text f (Some g) w is = ap Some (same_spec_fault text g f is w)
