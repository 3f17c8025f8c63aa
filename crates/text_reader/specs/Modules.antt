-- The module of a text: the one that its tokens are those of, and what is wrong with it.
use Rattle.std.specs.Prelude.{◌≡◌, ℕ, List}
use Rattle.erl_tree.specs.Profile.{IsLexed}
use Rattle.erl_tree.specs.declared.form.Module.{Module}
use Rattle.erl_grammar.specs.FormSpelling.{module_tokens}
use Rattle.erl_grammar.specs.FormGrammar.{IsModule}
use Rattle.erl_grammar.specs.FormNesting.{IsModuleWithin}
use Rattle.erl_grammar.specs.Nesting.{nesting_limit}
use Rattle.erl_grammar.specs.Texts.{SpellsModule}
use Rattle.erl_scope_rules.specs.Resolution.{resolved_of}
use Rattle.erl_scope_rules.specs.declared.fault.PlacedFault.{PlacedFault}
use Rattle.erl_scope_rules.specs.ScopeFaults.{HasRightNames, IsFirstFault as IsFirstNameFault}
use Rattle.erl_scope_numbers.specs.Table.{Table, IsTableOf}
use Rattle.typespecs_rules.specs.declared.fault.PlacedFault.{PlacedFault as TypePlacedFault}
use Rattle.typespecs_rules.specs.declared.specs.Specs.{Specs}
use Rattle.typespecs_rules.specs.TypeFaults.{HasSpecs, IsFirstFault as IsFirstSpecFault}
use Rattle.text_reader_rules.specs.Readable.{IsReadable}

-- the greatest number of bytes of a module's text
abbrev pub text_limit : ℕ
text_limit = 1048576

-- the bytes are lexed as the tokens of a well-formed module, nested within the limit
pub record IsParsedAs (text : List ℕ) (m : Module) : Type 0 where
  pub lexed : IsLexed text (module_tokens m)
  pub well_formed : IsModule m
  pub within : IsModuleWithin nesting_limit m

-- there is no such module: the bytes aren't lexed, or they are lexed as tokens of no well-formed module, or of one that is nested too deep
abbrev pub HasNoModule : List ℕ → Type 0
HasNoModule text = (m : Module) → IsParsedAs text m → ⊥

-- there is such a module, and this is the first fault of its names
pub record HasWrongNames (text : List ℕ) (fault : PlacedFault) : Type 0 where
  pub tree : Module
  pub parsed : IsParsedAs text tree
  pub first : IsFirstNameFault tree fault

-- there is such a module, nothing is wrong with its names, and this is the first fault of its types, records and specs
pub record HasWrongSpecs (text : List ℕ) (fault : TypePlacedFault) : Type 0 where
  pub tree : Module
  pub parsed : IsParsedAs text tree
  pub right_names : HasRightNames tree
  pub first : IsFirstSpecFault tree fault

-- there is such a module, and it is readable
pub record HasReadableModule (text : List ℕ) : Type 0 where
  pub tree : Module
  pub parsed : IsParsedAs text tree
  pub readable : IsReadable tree

-- this is such a module, and the bytes spell no other one; nothing is wrong with its names, the table has the numbers of its variables, and these are its specs
pub record IsReadModule (text : List ℕ) (m : Module) (scopes : Table) (specs : Specs) : Type 0 where
  pub parsed : IsParsedAs text m
  pub spelled : SpellsModule text m
  pub only : (other : Module) → SpellsModule text other → other ≡ m
  pub right_names : HasRightNames m
  pub table : IsTableOf (resolved_of m) scopes
  pub has_specs : HasSpecs m specs

-- so it is readable
abbrev pub is_readable : (text : List ℕ) (m : Module) (scopes : Table) (specs : Specs) → IsReadModule text m scopes specs → IsReadable m
is_readable text m scopes specs read = record { right_names = read.right_names; specs = specs; has_specs = read.has_specs }
