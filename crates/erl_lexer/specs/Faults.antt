-- What lexing answers of some bytes.
use Rattle.std.specs.Prelude.{◌≡◌, true, ℕ, List, Result, Ok, Err, IsUtf8, encode_utf8_all}
use Rattle.std.specs.Str.{all_scalars, IsValidUpTo}
use Rattle.erl_tree.specs.declared.token.Placed.{Placed}
use Rattle.erl_tree.specs.Profile.{IsOutsideAt, IsWideAt, IsBadEscapeAt, IsBadTokenAt}
use Rattle.erl_lexer.specs.declared.LexFault.{LexFault}
use Rattle.erl_lexer.specs.declared.LexFault.TheVariants.{NoMemory, NotUtf8, OutOfProfile, WideNumber, BadEscape, BadToken}

-- the bytes are the UTF-8 of characters of which this is so
abbrev pub OfCharacters : List ℕ → (List ℕ → Type 0) → Type 0
OfCharacters bytes P = (characters : List ℕ) × (all_scalars characters ≡ true) × (encode_utf8_all characters ≡ bytes) × P characters

-- what a fault says of the bytes; NotUtf8 tells the first byte of the first ill-formed sequence
abbrev pub IsFault : List ℕ → LexFault → Type 0
IsFault bytes NoMemory = Unit {0}
IsFault bytes (NotUtf8 at) = (IsUtf8 bytes → ⊥) × IsValidUpTo bytes at
IsFault bytes (OutOfProfile place form) = OfCharacters bytes (λ text. IsOutsideAt text place form)
IsFault bytes (WideNumber place) = OfCharacters bytes (λ text. IsWideAt text place)
IsFault bytes (BadEscape place) = OfCharacters bytes (λ text. IsBadEscapeAt text place)
IsFault bytes (BadToken place) = OfCharacters bytes (λ text. IsBadTokenAt text place)

-- the answer is these tokens, unless memory ran out
abbrev pub IsOrNoMemory : List Placed → Result (List Placed) LexFault → Type 0
IsOrNoMemory tokens (Ok given) = given ≡ tokens
IsOrNoMemory tokens (Err NoMemory) = Unit {0}
IsOrNoMemory tokens (Err _) = ⊥

-- the answer is this fault, unless memory ran out
abbrev pub IsFaultOrNoMemory : LexFault → Result (List Placed) LexFault → Type 0
IsFaultOrNoMemory NoMemory _ = Unit {0}
IsFaultOrNoMemory fault (Ok _) = ⊥
IsFaultOrNoMemory fault (Err NoMemory) = Unit {0}
IsFaultOrNoMemory fault (Err given) = given ≡ fault
