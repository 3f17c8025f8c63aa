-- What the program claims: of a text that it accepts, and of its output at each status.
use Rattle.std.specs.Prelude.{◌≡◌, ◌≢◌, ◌⊎◌, ◌≤◌, ℕ, List, [], ◌∷◌, length, Option, Some, None, codes}
use Rattle.std.specs.Option.{ForSome}
use Rattle.flat_modules.specs.FlatModules.{IsFlatModule}
use Rattle.erl_scope_rules.specs.declared.fault.PlacedFault.{PlacedFault}
use Rattle.typespecs_rules.specs.declared.fault.PlacedFault.{PlacedFault as TypePlacedFault}
use Rattle.text_reader_rules.specs.SafeTexts.{IsSafeText}
use Rattle.cert_checker.specs.Failures.{MeetsConstraints}
use Rattle.etylizer_program.specs.declared.report.Verdict.{Verdict}
use Rattle.etylizer_program.specs.declared.report.Verdict.TheVariants.{Accepted, Failed, NotText, NotUtf8, TooLong, NotBuilt, Usage}
use Rattle.tool_io.specs.Outside.{Holdings, IsHeld, Puts, PutsBeginning}
use Rattle.etylizer_program.specs.Commands.{command_of}
use Rattle.etylizer_program.specs.Report.{report_text}
use Rattle.text_reader.specs.Modules.{text_limit, HasNoModule, HasWrongNames, HasWrongSpecs}
use Rattle.etylizer_program.specs.Check.{function_count, spec_clause_count, IsNotBuilt, IsRightText, IsRightVerdict}

-- the words are `check FILE`
abbrev pub IsCheckOf : List (List ℕ) → (file : List ℕ) → Type 0
IsCheckOf words file = words ≡ codes "check" ∷ file ∷ []

-- ---- an accepted text

-- what is held under the file is a safe text, its module is flat and its constraints hold, and the report has the module's name and the numbers of its functions and spec clauses
pub record HoldsSafeText (files : Holdings) (file : List ℕ) (before after : Option (List ℕ)) : Type 0 where
  pub text : List ℕ
  pub held : files file ≡ Some text
  pub safe : IsSafeText text
  pub flat : IsFlatModule safe.tree
  pub meets : MeetsConstraints safe.tree
  pub written : Puts before after (report_text (Accepted safe.tree.name (function_count safe.tree) (spec_clause_count safe.tree)))

-- the words are `check FILE`, and where the files tell what they hold, FILE holds a safe text
pub record AcceptsSafeText (words : List (List ℕ)) (held : Option Holdings) (before after : Option (List ℕ)) : Type 0 where
  pub file : List ℕ
  pub said : IsCheckOf words file
  pub safe : ForSome held (λ files. HoldsSafeText files file before after)

-- ---- verdicts

-- the exit status of a verdict
abbrev pub verdict_status : Verdict → ℕ
verdict_status (Accepted name functions clauses) = 0
verdict_status (Failed name function arity clause place kind shown) = 1
verdict_status Usage = 2
verdict_status (NotText place words) = 3
verdict_status (NotUtf8 at) = 3
verdict_status TooLong = 3
verdict_status NotBuilt = 3

-- the verdict is right of what is held under the file
pub record IsVerdictUnder (files : Holdings) (file : List ℕ) (verdict : Verdict) : Type 0 where
  pub text : List ℕ
  pub held : files file ≡ Some text
  pub right : IsRightVerdict text verdict

-- the whole report of a verdict with this status was written, and it is right of the text
pub record JudgesText (status : ℕ) (text : List ℕ) (before after : Option (List ℕ)) : Type 0 where
  pub verdict : Verdict
  pub status_is : verdict_status verdict ≡ status
  pub written : Puts before after (report_text verdict)
  pub right : IsRightVerdict text verdict

-- the whole report of a verdict with this status was written, and where the files tell what they hold, it is right of the file
pub record JudgesFile (status : ℕ) (file : List ℕ) (held : Option Holdings) (before after : Option (List ℕ)) : Type 0 where
  pub verdict : Verdict
  pub status_is : verdict_status verdict ≡ status
  pub written : Puts before after (report_text verdict)
  pub right : ForSome held (λ files. IsVerdictUnder files file verdict)

-- the words are `check FILE`, and the file is judged
pub record Judges (status : ℕ) (words : List (List ℕ)) (held : Option Holdings) (before after : Option (List ℕ)) : Type 0 where
  pub file : List ℕ
  pub said : IsCheckOf words file
  pub judged : JudgesFile status file held before after

-- ---- reports that break off

-- a beginning of the report of a verdict was written, and the verdict is right of the text
pub record BeginsTextReport (text : List ℕ) (before after : Option (List ℕ)) : Type 0 where
  pub verdict : Verdict
  pub begun : PutsBeginning before after (report_text verdict)
  pub right : IsRightVerdict text verdict

-- a beginning of the report of a verdict that isn't the usage was written, and where the files tell what they hold, the verdict is right of the file
pub record BeginsFileReport (file : List ℕ) (held : Option Holdings) (before after : Option (List ℕ)) : Type 0 where
  pub verdict : Verdict
  pub proper : verdict ≢ Usage
  pub begun : PutsBeginning before after (report_text verdict)
  pub right : ForSome held (λ files. IsVerdictUnder files file verdict)

-- the words are `check FILE`, and a report on the file was begun
pub record BeginsNamedReport (words : List (List ℕ)) (held : Option Holdings) (before after : Option (List ℕ)) : Type 0 where
  pub file : List ℕ
  pub said : IsCheckOf words file
  pub begun : BeginsFileReport file held before after

-- the words are no command, and a beginning of the usage was written
pub record BeginsUsage (words : List (List ℕ)) (before after : Option (List ℕ)) : Type 0 where
  pub no_command : command_of words ≡ None
  pub begun : PutsBeginning before after (report_text Usage)

-- nothing was written, or a beginning of a report that is right
abbrev pub BreaksOff : (words : List (List ℕ)) → (held : Option Holdings) → (before after : Option (List ℕ)) → Type 0
BreaksOff words held before after = (after ≡ before) ⊎ (BeginsUsage words before after ⊎ BeginsNamedReport words held before after)

-- the file that the words name is held
abbrev pub HoldsNamedFile : Option Holdings → (words : List (List ℕ)) → Type 0
HoldsNamedFile held words = (file : List ℕ) → IsCheckOf words file → IsHeld held file

-- ---- what the words name

-- the words are `check FILE`, the files tell what they hold, and what is held under FILE is this text, within the limit of texts
pub record NamesText (words : List (List ℕ)) (held : Option Holdings) (text : List ℕ) : Type 0 where
  pub file : List ℕ
  pub said : IsCheckOf words file
  pub files : Holdings
  pub told : held ≡ Some files
  pub holds : files file ≡ Some text
  pub short : length text ≤ text_limit

-- the words name a text that isn't lexed as the tokens of a well-formed module nested within the limit
pub record NamesNoModule (words : List (List ℕ)) (held : Option Holdings) : Type 0 where
  pub text : List ℕ
  pub named : NamesText words held text
  pub none : HasNoModule text

-- the words name a text that is lexed as the tokens of such a module, and this is the first fault of its names
pub record NamesWrongNames (words : List (List ℕ)) (held : Option Holdings) (fault : PlacedFault) : Type 0 where
  pub text : List ℕ
  pub named : NamesText words held text
  pub wrong : HasWrongNames text fault

-- the words name a text that is lexed as the tokens of such a module, whose names are right, and this is the first fault of its types, records and specs
pub record NamesWrongSpecs (words : List (List ℕ)) (held : Option Holdings) (fault : TypePlacedFault) : Type 0 where
  pub text : List ℕ
  pub named : NamesText words held text
  pub wrong : HasWrongSpecs text fault

-- the words name a text that is lexed as the tokens of such a module, which is readable and isn't flat
pub record NamesNotBuilt (words : List (List ℕ)) (held : Option Holdings) : Type 0 where
  pub text : List ℕ
  pub named : NamesText words held text
  pub not_built : IsNotBuilt text

-- the words name a text whose tokens are those of a flat module all of whose constraints hold
pub record NamesRightModule (words : List (List ℕ)) (held : Option Holdings) : Type 0 where
  pub text : List ℕ
  pub named : NamesText words held text
  pub right : IsRightText text
