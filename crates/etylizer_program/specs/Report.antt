-- The texts that the program writes.
use Rattle.std.specs.Prelude.{ℕ, List, [], ◌∷◌, ◌++◌, length, Bool, false, not, ◌&&◌, ◌||◌, ◌==◌, if◌then◌else◌, codes, decimal, flat_map}
use Rattle.std.specs.List.{list_all}
use Rattle.std.specs.Fmt.{signed_decimal}
use Rattle.type_terms.specs.declared.term.Key.{Key}
use Rattle.type_terms.specs.declared.term.Key.TheVariants.{Int, Atom}
use Rattle.type_terms.specs.declared.spec.Kind.{Kind}
use Rattle.type_terms.specs.declared.spec.Kind.TheVariants.{Skip, Variable, Uncovered, Result, Operand, List as ListKind, Part, Call, Apply, Key as KeyKind, Update, Filter}
use Rattle.erl_tree.specs.declared.token.Place.{Place}
use Rattle.erl_tree.specs.Lexis.{is_lower, is_name, is_reserved}
use Rattle.cert_checker.specs.declared.refusal.Shown.{Shown}
use Rattle.cert_checker.specs.declared.refusal.Shown.TheVariants.{One, Missing}
use Rattle.etylizer_program.specs.declared.report.Verdict.{Verdict}
use Rattle.etylizer_program.specs.declared.report.Verdict.TheVariants.{Accepted, Failed, NotText, NotUtf8, TooLong, NotBuilt, Usage}
use Rattle.etylizer_program.specs.declared.report.Words.{Words}
use Rattle.etylizer_program.specs.declared.report.Words.TheVariants.{BadToken, BadEscape, NumberTooWide, OutOfProfile, Unexpected, TooDeep, UnboundVariable, UnsafeVariable, NoSuchFunction, TwoFunctions, NoSpec, NoSuchRecord, NoSuchField, Repeated, ArityDiffers, NoSuchType, NotContractive, NegatedFun, EmptyRange}

-- whether a small letter comes first
abbrev pub begins_lower : List ℕ → Bool
begins_lower [] = false
begins_lower (c ∷ cs) = is_lower c

-- a small letter, then letters, digits, _ and @, and no reserved word
abbrev pub is_plain_atom : List ℕ → Bool
is_plain_atom name = begins_lower name && list_all is_name name && not (is_reserved name)

-- a quote and a backslash stand behind a backslash
abbrev pub escaped : ℕ → List ℕ
escaped c = if (c == 39) || (c == 92) then 92 ∷ c ∷ [] else c ∷ []

-- an atom is written plain where it may be, and otherwise between quotes
unfoldable pub atom_text : List ℕ → List ℕ
atom_text name = if is_plain_atom name then name else (codes "'" ++ (flat_map escaped name ++ codes "'"))

-- an integer in decimal, or an atom
abbrev pub key_text : Key → List ℕ
key_text (Int n) = signed_decimal n
key_text (Atom name) = atom_text name

-- keys with commas between them
abbrev pub keys_text : List Key → List ℕ
keys_text [] = []
keys_text (key ∷ keys) = key_text key ++ flat_map (λ k. 44 ∷ key_text k) keys

-- the fun that fails on these arguments
abbrev pub missing_text : List Key → List ℕ
missing_text keys = codes "fun/" ++ (decimal (length keys) ++ (codes "{(" ++ (keys_text keys ++ codes ") -> fails}")))

-- an element: an integer or an atom, or a fun
abbrev pub shown_text : Shown → List ℕ
shown_text (One key) = key_text key
shown_text (Missing keys) = missing_text keys

-- the word for a kind of constraint
abbrev pub kind_text : Kind → List ℕ
kind_text Skip = codes "skip"
kind_text Variable = codes "variable"
kind_text Uncovered = codes "uncovered"
kind_text Result = codes "result"
kind_text Operand = codes "operand"
kind_text ListKind = codes "list"
kind_text Part = codes "part"
kind_text Call = codes "call"
kind_text Apply = codes "apply"
kind_text KeyKind = codes "key"
kind_text Update = codes "update"
kind_text Filter = codes "filter"

-- why a text is no module, in words
abbrev pub words_text : Words → List ℕ
words_text BadToken = codes "bad token"
words_text BadEscape = codes "bad escape"
words_text NumberTooWide = codes "number too wide"
words_text (OutOfProfile form) = codes "out of profile: " ++ form
words_text Unexpected = codes "unexpected"
words_text TooDeep = codes "nested too deep"
words_text UnboundVariable = codes "unbound variable"
words_text UnsafeVariable = codes "unsafe variable"
words_text NoSuchFunction = codes "no such function"
words_text TwoFunctions = codes "function defined twice"
words_text NoSpec = codes "no spec"
words_text NoSuchRecord = codes "no such record"
words_text NoSuchField = codes "no such field"
words_text Repeated = codes "repeated"
words_text ArityDiffers = codes "arity differs"
words_text NoSuchType = codes "no such type"
words_text NotContractive = codes "not contractive"
words_text NegatedFun = codes "negated fun type"
words_text EmptyRange = codes "empty range"

-- line:column
abbrev pub place_text : Place → List ℕ
place_text place = decimal place.line ++ (codes ":" ++ decimal place.column)

-- the line that a verdict is written as
abbrev pub report_text : Verdict → List ℕ
report_text (Accepted name functions clauses) =
    codes "accepted " ++ (atom_text name ++ (codes ": " ++ (decimal functions ++ (codes " functions, " ++ (decimal clauses ++ codes " clauses\n")))))
report_text (Failed name function arity clause place kind shown) =
    (codes "refused " ++ (atom_text name ++ (codes ": " ++ (atom_text function ++ (codes "/" ++ (decimal arity ++ (codes " clause " ++ decimal clause)))))))
    ++ (codes " at " ++ (place_text place ++ (codes ": " ++ (kind_text kind ++ (codes ": " ++ (shown_text shown ++ codes "\n"))))))
report_text (NotText place words) = codes "not a module: " ++ (place_text place ++ (codes ": " ++ (words_text words ++ codes "\n")))
report_text (NotUtf8 at) = codes "not a module: byte " ++ (decimal at ++ codes ": not UTF-8\n")
report_text TooLong = codes "not a module: over 1048576 bytes\n"
report_text NotBuilt = codes "not a module: not built yet\n"
report_text Usage = codes "usage: etylizer check FILE\n"
