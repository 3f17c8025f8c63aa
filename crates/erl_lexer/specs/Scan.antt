-- Lengths of gaps and of tokens' texts at the front of a text, from left to right, and the token of a text. In bytes, where nothing else is said.
use Rattle.std.specs.Prelude.{ℕ, zero, suc, ◌+◌, ◌-◌, ◌*◌, pos, List, [], ◌∷◌, length, take, Option, Some, None, Bool, true, false, not, nat_le, ◌==◌, ◌&&◌, ◌||◌, if◌then◌else◌, codes}
use Rattle.erl_tree.specs.declared.token.Place.{Place}
use Rattle.erl_tree.specs.declared.token.Token.{Token}
use Rattle.erl_tree.specs.declared.token.Token.TheVariants.{Atom, Var, Int, Char, Str, End}
use Rattle.erl_tree.specs.Lexis.{is_lower, is_upper, is_digit, is_digit_of, is_name, is_white, is_escape, is_mark, name_token, mark_token, integer_value, unquoted, escape_value}
use Rattle.erl_tree.specs.Profile.{further, bad_in_quotes, bad_in_character}
use Rattle.erl_lexer.specs.declared.quotes.Quoted.{Quoted}
use Rattle.erl_lexer.specs.declared.quotes.Quoted.TheVariants.{Closed, Bad}

-- how many characters at the front are so
abbrev pub run : (ℕ → Bool) → List ℕ → ℕ
run p [] = 0
run p (c ∷ cs) = if p c then suc (run p cs) else 0

-- how long the gap at the front is; commented: a comment is open
abbrev pub gap_run : (commented : Bool) → List ℕ → ℕ
gap_run commented [] = 0
gap_run false (c ∷ cs) = if is_white c then suc (gap_run false cs) else if c == 37 then suc (gap_run true cs) else 0
gap_run true (c ∷ cs) = if c == 10 then suc (gap_run false cs) else suc (gap_run true cs)

-- the bytes of a character after its first one, 128 to 191
abbrev pub is_continuation : ℕ → Bool
is_continuation c = nat_le 128 c && nat_le c 191

-- the place after one byte: the first byte of a character moves it
abbrev pub byte_step : Place → ℕ → Place
byte_step p c = if c == 10 then record { line = p.line + 1; column = 1 } else if is_continuation c then p else record { line = p.line; column = p.column + 1 }

-- the place after some bytes
abbrev pub bytes_after : Place → List ℕ → Place
bytes_after p [] = p
bytes_after p (c ∷ cs) = bytes_after (byte_step p c) cs

-- whether a text begins with such a character
abbrev pub first_is : (ℕ → Bool) → List ℕ → Bool
first_is p [] = false
first_is p (c ∷ cs) = p c

-- how many characters at the front are digits of a kind, with single underscores between them
abbrev pub grouped_run : (ℕ → Bool) → List ℕ → ℕ
grouped_run digit [] = 0
grouped_run digit (c ∷ cs) = if digit c || ((c == 95) && first_is digit cs) then suc (grouped_run digit cs) else 0

-- how long the # behind a base is, with the digits after it
abbrev pub hashed_run : (base : ℕ) → List ℕ → Option ℕ
hashed_run base cs = if nat_le 2 base && (nat_le base 36 && first_is (is_digit_of base) cs) then Some (suc (grouped_run (is_digit_of base) cs)) else None

-- how long the integer with a base at the front is, after the decimal digits so far
abbrev pub based_run : (base : ℕ) → List ℕ → Option ℕ
based_run base [] = None
based_run base (c ∷ cs) = if c == 35 then hashed_run base cs else if is_digit c then further 1 (based_run (base * 10 + (c - 48)) cs) else None

-- any character but #
abbrev pub is_no_hash : ℕ → Bool
is_no_hash c = not (c == 35)

-- a number that is there, or another
abbrev pub or_else : Option ℕ → ℕ → ℕ
or_else None n = n
or_else (Some m) n = m

-- how long the integer at the front is
abbrev pub integer_length : List ℕ → ℕ
integer_length text = or_else (based_run 0 text) (grouped_run is_digit text)

-- what follows an opening quote, from left to right: how many characters stand before its closing quote, or before the first backslash that heads no escape, and so many more
abbrev pub quoted_walk : (close bad : Option ℕ) (quote : ℕ) → List ℕ → Option ℕ
quoted_walk close bad quote [] = None
quoted_walk close bad quote (c ∷ []) = if c == 92 then bad else if c == quote then close else None
quoted_walk close bad quote (c ∷ d ∷ cs) =
    if c == 92 then (if is_escape d then further 2 (quoted_walk close bad quote cs) else bad) else
    if c == quote then close else further 1 (quoted_walk close bad quote (d ∷ cs))

-- how long what follows an opening quote is, up to and with the closing one, if there is one
abbrev pub quoted_run : (quote : ℕ) → List ℕ → Option ℕ
quoted_run quote text = quoted_walk (Some 1) None quote text

-- where the closing quote ends, and where the first bad escape is, by how a quoted text was found to end
abbrev pub closed_at : Quoted → Option ℕ
closed_at (Closed n) = Some n
closed_at _ = None

abbrev pub bad_at : Quoted → Option ℕ
bad_at (Bad n) = Some n
bad_at _ = None

-- how many characters of a character's text follow the $
abbrev pub character_run : List ℕ → Option ℕ
character_run [] = None
character_run (c ∷ cs) = if c == 92 then (if first_is is_escape cs then Some 2 else None) else Some 1

-- how many bytes of it these are
abbrev pub character_bytes : List ℕ → Option ℕ
character_bytes [] = None
character_bytes (c ∷ cs) = if c == 92 then (if first_is is_escape cs then Some 2 else None) else if nat_le 128 c then Some (suc (run is_continuation cs)) else Some 1

-- how long the longest mark at the front is; 0 where there is none
abbrev pub mark_length : List ℕ → ℕ
mark_length text =
    if is_mark (take 3 text) then length (take 3 text) else
    if is_mark (take 2 text) then length (take 2 text) else
    if is_mark (take 1 text) then length (take 1 text) else 0

-- a length that isn't 0
abbrev pub some_length : ℕ → Option ℕ
some_length zero = None
some_length (suc n) = Some (suc n)

-- how long the text of a quoted token, a character or a mark is
abbrev pub other_length : (character : List ℕ → Option ℕ) (first : ℕ) → List ℕ → Option ℕ
other_length character c cs =
    if c == 39 then further 1 (quoted_run 39 cs) else
    if c == 34 then further 1 (quoted_run 34 cs) else
    if c == 36 then further 1 (character cs) else
    some_length (mark_length (c ∷ cs))

-- how long the text of a token at the front is, if there is one
unfoldable pub length_by : (character : List ℕ → Option ℕ) → List ℕ → Option ℕ
length_by character [] = None
length_by character (c ∷ cs) =
    if is_lower c then Some (suc (run is_name cs)) else
    if is_upper c then Some (suc (run is_name cs)) else
    if is_digit c then Some (integer_length (c ∷ cs)) else
    other_length character c cs

-- the same of bytes
abbrev pub token_length : List ℕ → Option ℕ
token_length text = length_by character_bytes text

-- the character with these bytes, or that an escape stands for
abbrev pub code_of : List ℕ → ℕ
code_of [] = 0
code_of (a ∷ []) = a
code_of (a ∷ b ∷ []) = if a == 92 then escape_value b else (a - 192) * 64 + (b - 128)
code_of (a ∷ b ∷ c ∷ []) = ((a - 224) * 64 + (b - 128)) * 64 + (c - 128)
code_of (a ∷ b ∷ c ∷ d ∷ cs) = (((a - 240) * 64 + (b - 128)) * 64 + (c - 128)) * 64 + (d - 128)

-- a quoted token, a character or a mark
abbrev pub other_token : (first : ℕ) (text follow : List ℕ) → Token
other_token c cs follow =
    if c == 39 then Atom (unquoted cs) else
    if c == 34 then Str (unquoted cs) else
    if c == 36 then Char (code_of cs) else
    mark_token (c ∷ cs) follow

-- the token with this text, before what follows
unfoldable pub token_by : (text follow : List ℕ) → Token
token_by [] follow = End
token_by (c ∷ cs) follow =
    if is_lower c then name_token (c ∷ cs) else
    if is_upper c then Var (c ∷ cs) else
    if is_digit c then Int (pos (integer_value 0 (c ∷ cs))) else
    other_token c cs follow

-- the form outside of the profile, by the tests in turn
abbrev pub form_by : (float macro binary send difference triple sigil wide strict loose : Bool) → Option (List ℕ)
form_by float macro binary send difference triple sigil wide strict loose =
    if float then Some (codes "float") else
    if macro then Some (codes "macro") else
    if binary then Some (codes "binary") else
    if send then Some (codes "send") else
    if difference then Some (codes "list difference") else
    if triple then Some (codes "triple-quoted string") else
    if sigil then Some (codes "sigil") else
    if wide then Some (codes "non-ASCII name") else
    if strict || loose then Some (codes "strict generator") else None

-- where the first bad escape is behind the first character of a quoted token or of a character
abbrev pub bad_choice : (first : ℕ) → List ℕ → Option ℕ
bad_choice c cs = if (c == 39) || (c == 34) then bad_in_quotes c cs else if c == 36 then bad_in_character cs else None
