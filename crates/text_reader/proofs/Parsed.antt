-- From the tokens of a module to what is said of its text.
use Rattle.std.proofs.Common.{◌≡◌, ℕ, List, Result, Err, IsErrOf, refl, subst, sym}
use Rattle.erl_tree.specs.declared.form.Module.{Module}
use Rattle.erl_tree.specs.declared.token.Place.{Place}
use Rattle.erl_tree.specs.declared.token.Placed.{Placed}
use Rattle.erl_tree.specs.Lists.{Among}
use Rattle.erl_tree.specs.Profile.{IsLexed}
use Rattle.erl_tree.proofs.Lexed.{lexed_is_spelled}
use Rattle.erl_grammar.specs.FormSpelling.{module_tokens}
use Rattle.erl_grammar.specs.FormGrammar.{IsModule}
use Rattle.erl_grammar.specs.FormNesting.{IsModuleWithin, module_deep}
use Rattle.erl_grammar.specs.Nesting.{nesting_limit}
use Rattle.erl_grammar.specs.Texts.{SpellsModule, HasIntegersInLimit}
use Rattle.erl_parser_tokens.specs.declared.fault.ParseFault.{ParseFault}
use Rattle.erl_parser_tokens.specs.declared.fault.ParseFault.TheVariants as P
use Rattle.erl_parser_tokens.specs.Outside.{HasOutside}
use Rattle.erl_parser.proofs.TextLaws.{one_module, lexed_in_limit}
use Rattle.erl_scope_rules.specs.Resolution.{resolved_of}
use Rattle.erl_scope_rules.specs.ScopeFaults.{HasRightNames}
use Rattle.erl_scope_numbers.specs.Table.{Table, IsTableOf}
use Rattle.typespecs_rules.specs.declared.specs.Specs.{Specs}
use Rattle.typespecs_rules.specs.TypeFaults.{HasSpecs}
use Rattle.text_reader.specs.declared.fault.ReadFault.{ReadFault}
use Rattle.text_reader.specs.Modules.{IsParsedAs, IsReadModule}
use Rattle.text_reader.specs.Refusals.{IsReadRefusal, refused_by_parser}

pub spells : (text : List ℕ) (m : Module) → IsLexed text (module_tokens m) → IsModule m → SpellsModule text m
spells text m lexed w = record { tokens = lexed_is_spelled text (module_tokens m) lexed; well_formed = w }

-- a text spells no other module than the one that it is parsed as
pub only_parsed : (text : List ℕ) (m : Module) → IsParsedAs text m → (other : Module) → SpellsModule text other → other ≡ m
only_parsed text m p other s = one_module text other m s (spells text m p.lexed p.well_formed)

-- a text is parsed as one module
pub same_parsed : (text : List ℕ) (m n : Module) → IsParsedAs text m → IsParsedAs text n → m ≡ n
same_parsed text m n p q = only_parsed text n q m (spells text m p.lexed p.well_formed)

pub limits : (text : List ℕ) (m : Module) → IsLexed text (module_tokens m) → HasIntegersInLimit m
limits text m lexed = lexed_in_limit text (module_tokens m) lexed

-- the tokens of a module that a text was parsed as
lexed_as : (text : List ℕ) (tokens : List Placed) (m : Module) → IsLexed text tokens → module_tokens m ≡ tokens → IsLexed text (module_tokens m)
lexed_as text tokens m lexed same = subst (λ (ts : List Placed). IsLexed text ts) (sym same) lexed

-- a text was parsed as the module that the parser gives for its tokens
pub parsed_as : (text : List ℕ) (tokens : List Placed) (m : Module) → IsLexed text tokens → IsModule m × IsModuleWithin nesting_limit m × (module_tokens m ≡ tokens) → IsParsedAs text m
parsed_as text tokens m lexed found = record { lexed = lexed_as text tokens m lexed found.2; well_formed = found.0; within = found.1 }

-- the module that a text was parsed as, with what was read of it
pub read_module : (text : List ℕ) (m : Module) (scopes : Table) (specs : Specs) → IsParsedAs text m → HasRightNames m → IsTableOf (resolved_of m) scopes → HasSpecs m specs → IsReadModule text m scopes specs
read_module text m scopes specs p right table has = record {
  parsed = p;
  spelled = spells text m p.lexed p.well_formed;
  only = only_parsed text m p;
  right_names = right;
  table = table;
  has_specs = has;
}

-- the parser refuses the tokens with this fault
abbrev refuses_with : ParseFault → Result Module ParseFault
refuses_with fault = Err fault

-- a refusal of the parser is right of the text
pub tokens_refused : (text : List ℕ) (tokens : List Placed) (fault : ParseFault) (refused : ReadFault) → refused ≡ refused_by_parser fault → IsLexed text tokens
    → ((p : Place) → IsErrOf (refuses_with fault) (P.TooDeep p) → (m : Module) → IsModule m → module_tokens m ≡ tokens → Among p (module_deep m nesting_limit))
    → ((p : Place) → IsErrOf (refuses_with fault) (P.Unexpected p) → (m : Module) → IsModule m → module_tokens m ≡ tokens → ⊥)
    → ((p : Place) (form : List ℕ) → IsErrOf (refuses_with fault) (P.OutOfProfile p form) → HasOutside tokens p form × ((m : Module) → IsModule m → module_tokens m ≡ tokens → ⊥))
    → IsReadRefusal text refused
tokens_refused text tokens fault refused is lexed deep unexpected outside = subst (λ (r : ReadFault). IsReadRefusal text r) (sym is) (right fault deep unexpected outside)
  where
    right : (fault : ParseFault)
        → ((p : Place) → IsErrOf (refuses_with fault) (P.TooDeep p) → (m : Module) → IsModule m → module_tokens m ≡ tokens → Among p (module_deep m nesting_limit))
        → ((p : Place) → IsErrOf (refuses_with fault) (P.Unexpected p) → (m : Module) → IsModule m → module_tokens m ≡ tokens → ⊥)
        → ((p : Place) (form : List ℕ) → IsErrOf (refuses_with fault) (P.OutOfProfile p form) → HasOutside tokens p form × ((m : Module) → IsModule m → module_tokens m ≡ tokens → ⊥))
        → IsReadRefusal text (refused_by_parser fault)
    right P.NoMemory d u o = tt
    right (P.TooDeep p) d u o = record { tokens = tokens; lexed = lexed; deep = d p refl }
    right (P.Unexpected p) d u o = record { tokens = tokens; spells_none = record { lexed = lexed; none = u p refl } }
    right (P.OutOfProfile p form) d u o = record { tokens = tokens; spells_none = record { lexed = lexed; none = (o p form refl).1 }; stands = (o p form refl).0 }
