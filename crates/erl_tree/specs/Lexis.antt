-- Which placed tokens a text spells: tokens, comments and reserved words of the Erlang Reference Manual ("Data Types", "Expressions", "Modules").
use Rattle.std.specs.Prelude.{◌≡◌, ◌≢◌, ◌⊎◌, ◌≤◌, ◌+◌, ◌*◌, ◌-◌, ℕ, pos, List, [], ◌∷◌, ◌++◌, length, Option, Some, None, Bool, true, false, not, nat_le, ◌==◌, ◌&&◌, ◌||◌, if◌then◌else◌, codes, encode_utf8_all}
use Rattle.std.specs.List.{list_any}
use Rattle.std.specs.Str.{bytes_eq, all_scalars}
use Rattle.erl_tree.specs.declared.token.Place.{Place}
use Rattle.erl_tree.specs.declared.token.Placed.{Placed}
use Rattle.erl_tree.specs.declared.token.Token.{Token}
use Rattle.erl_tree.specs.declared.token.Token.TheVariants.{Atom, Var, Int, Char, Str, Word, Mark, Dot, End}

-- ---- characters, by their code points

-- a to z
abbrev pub is_lower : ℕ → Bool
is_lower c = nat_le 97 c && nat_le c 122

-- 0 to 9
abbrev pub is_digit : ℕ → Bool
is_digit c = nat_le 48 c && nat_le c 57

-- A to Z and the underscore
abbrev pub is_upper : ℕ → Bool
is_upper c = (nat_le 65 c && nat_le c 90) || (c == 95)

-- what a name goes on with: letters, digits, the underscore and @
abbrev pub is_name : ℕ → Bool
is_name c = is_lower c || (is_digit c || (is_upper c || (c == 64)))

-- space, tab, line feed, vertical tab, form feed and carriage return
abbrev pub is_white : ℕ → Bool
is_white c = (c == 32) || (nat_le 9 c && nat_le c 13)

-- the test passes on each character
abbrev pub every : (ℕ → Bool) → List ℕ → Bool
every p [] = true
every p (c ∷ cs) = p c && every p cs

-- ---- gaps

-- white space, and comments from % to the end of a line or of the text; commented: a comment is open
abbrev pub IsGap : (commented : Bool) → (gap rest : List ℕ) → Type 0
IsGap false [] rest = Unit {0}
IsGap true [] rest = rest ≡ []
IsGap false (c ∷ cs) rest = ((is_white c ≡ true) × IsGap false cs rest) ⊎ ((c ≡ 37) × IsGap true cs rest)
IsGap true (c ∷ cs) rest = ((c ≡ 10) × IsGap false cs rest) ⊎ ((c ≢ 10) × IsGap true cs rest)

-- ---- texts of tokens of every kind

-- what may follow a backslash: n r t s b d e f v, a backslash and both quotes
abbrev pub is_escape : ℕ → Bool
is_escape c = list_any (λ d. c == d) (codes "nrtsbdefv\\'\"")

-- what follows an opening quote, up to and with the closing one
abbrev pub is_quoted : (quote : ℕ) → List ℕ → Bool
is_quoted quote [] = false
is_quoted quote (c ∷ []) = c == quote
is_quoted quote (c ∷ d ∷ cs) = if c == 92 then (is_escape d && is_quoted quote cs) else (not (c == quote) && is_quoted quote (d ∷ cs))

-- what follows $: one character, or an escape
abbrev pub is_character : List ℕ → Bool
is_character [] = false
is_character (c ∷ []) = not (c == 92)
is_character (c ∷ d ∷ []) = (c == 92) && is_escape d
is_character (c ∷ d ∷ e ∷ cs) = false

-- digits of a kind with single underscores between them
abbrev mutual
  pub is_grouped : (ℕ → Bool) → List ℕ → Bool
  is_grouped digit [] = false
  is_grouped digit (c ∷ cs) = digit c && goes_on_grouped digit cs

  pub goes_on_grouped : (ℕ → Bool) → List ℕ → Bool
  goes_on_grouped digit [] = true
  goes_on_grouped digit (c ∷ cs) = if c == 95 then is_grouped digit cs else (digit c && goes_on_grouped digit cs)

-- the number whose decimal digits these are, after those of n
abbrev pub decimal : ℕ → List ℕ → ℕ
decimal n [] = n
decimal n (d ∷ ds) = decimal (n * 10 + (d - 48)) ds

-- a digit below the base; a letter of either case is 10 and more
abbrev pub is_digit_of : (base : ℕ) → ℕ → Bool
is_digit_of base c = (is_digit c && nat_le (c + 1) (48 + base)) || ((nat_le 97 c && nat_le (c + 11) (97 + base)) && is_lower c) || (nat_le 65 c && nat_le (c + 11) (65 + base) && nat_le c 90)

-- a base from 2 to 36, after the decimal digits so far, then # and digits of that base
abbrev pub is_based : (base : ℕ) → List ℕ → Bool
is_based base [] = false
is_based base (c ∷ cs) = if c == 35 then (nat_le 2 base && nat_le base 36 && is_grouped (is_digit_of base) cs) else (is_digit c && is_based (decimal base (c ∷ [])) cs)

-- the punctuation
abbrev pub marks : List (List ℕ)
marks = codes "(" ∷ codes ")" ∷ codes "[" ∷ codes "]" ∷ codes "{" ∷ codes "}" ∷ codes "," ∷ codes ";" ∷ codes ":" ∷ codes "::" ∷ codes "." ∷ codes ".." ∷ codes "..."
    ∷ codes "|" ∷ codes "||" ∷ codes "<-" ∷ codes "->" ∷ codes "=>" ∷ codes ":=" ∷ codes "=" ∷ codes "#" ∷ codes "+" ∷ codes "-" ∷ codes "*" ∷ codes "==" ∷ codes "/=" ∷ codes "=:=" ∷ codes "=/="
    ∷ codes "<" ∷ codes ">" ∷ codes "=<" ∷ codes ">=" ∷ codes "++" ∷ codes "/" ∷ []

-- punctuation; a dot is read as one too here
abbrev pub is_mark : List ℕ → Bool
is_mark text = list_any (λ mark. bytes_eq text mark) marks

-- the text of a token of whatever kind
unfoldable pub is_token_text : List ℕ → Bool
is_token_text [] = false
is_token_text (c ∷ cs) =
    if is_lower c then every is_name cs else
    if is_upper c then every is_name cs else
    if is_digit c then (is_grouped is_digit (c ∷ cs) || is_based 0 (c ∷ cs)) else
    if c == 39 then is_quoted 39 cs else
    if c == 34 then is_quoted 34 cs else
    if c == 36 then is_character cs else
    is_mark (c ∷ cs)

-- no longer prefix of what stands there is the text of a token
abbrev pub IsLongest : (text follow : List ℕ) → Type 0
IsLongest text follow = (longer after : List ℕ) → text ++ follow ≡ longer ++ after → is_token_text longer ≡ true → length longer ≤ length text

-- ---- the token of a text

-- the reserved words
abbrev pub reserved_words : List (List ℕ)
reserved_words = codes "after" ∷ codes "and" ∷ codes "andalso" ∷ codes "band" ∷ codes "begin" ∷ codes "bnot" ∷ codes "bor" ∷ codes "bsl" ∷ codes "bsr" ∷ codes "bxor" ∷ codes "case" ∷ codes "catch" ∷ codes "cond"
    ∷ codes "div" ∷ codes "else" ∷ codes "end" ∷ codes "fun" ∷ codes "if" ∷ codes "let" ∷ codes "maybe" ∷ codes "not" ∷ codes "of" ∷ codes "or" ∷ codes "orelse" ∷ codes "receive" ∷ codes "rem" ∷ codes "try" ∷ codes "when" ∷ codes "xor" ∷ []

-- whether a name is a reserved word
abbrev pub is_reserved : List ℕ → Bool
is_reserved text = list_any (λ word. bytes_eq text word) reserved_words

-- a name's token: a reserved word or an atom
abbrev pub name_token : List ℕ → Token
name_token text = if is_reserved text then Word text else Atom text

-- white space, a comment or the end of the text follows the dot of a form
abbrev pub ends_form : List ℕ → Bool
ends_form [] = true
ends_form (c ∷ cs) = is_white c || (c == 37)

-- the token of punctuation: the dot of a form, or a mark
abbrev pub mark_token : (text follow : List ℕ) → Token
mark_token text follow = if bytes_eq text (codes ".") && ends_form follow then Dot else Mark text

-- the value of a digit; a letter of either case is 10 and more
abbrev pub digit_value : ℕ → ℕ
digit_value c = if is_digit c then c - 48 else if is_lower c then c - 87 else c - 55

-- the number whose digits these are, after those of n; underscores between them say nothing
abbrev pub number : (base n : ℕ) → List ℕ → ℕ
number base n [] = n
number base n (c ∷ cs) = if c == 95 then number base n cs else number base (n * base + digit_value c) cs

-- the number with these digits of the base that stands before the #; or the decimal number, where there is no #
abbrev pub integer_value : (before : ℕ) → List ℕ → ℕ
integer_value before [] = before
integer_value before (c ∷ cs) = if c == 35 then number before 0 cs else if c == 95 then integer_value before cs else integer_value (before * 10 + digit_value c) cs

-- the character that an escape stands for: line feed, return, tab, space, backspace, delete, escape, form feed, vertical tab, or the character itself
abbrev pub escape_value : ℕ → ℕ
escape_value c =
    if c == 110 then 10 else if c == 114 then 13 else if c == 116 then 9 else if c == 115 then 32 else
    if c == 98 then 8 else if c == 100 then 127 else if c == 101 then 27 else if c == 102 then 12 else if c == 118 then 11 else c

-- the characters that stand between quotes, of what follows the opening one, up to and with the closing one
abbrev pub unquoted : List ℕ → List ℕ
unquoted [] = []
unquoted (c ∷ []) = []
unquoted (c ∷ d ∷ cs) = if c == 92 then escape_value d ∷ unquoted cs else c ∷ unquoted (d ∷ cs)

-- the character that follows $, or that its escape stands for
abbrev pub character_value : List ℕ → ℕ
character_value [] = 0
character_value (c ∷ []) = c
character_value (c ∷ d ∷ cs) = escape_value d

-- the token, where the test holds
abbrev pub when : Bool → Token → Option Token
when holds t = if holds then Some t else None

-- The token whose text this is, before what follows. Texts that tokens hold are the UTF-8 of their characters.
unfoldable pub token_of : (text follow : List ℕ) → Option Token
token_of [] follow = None
token_of (c ∷ cs) follow =
    if is_lower c then when (every is_name cs) (name_token (c ∷ cs)) else
    if is_upper c then when (every is_name cs) (Var (c ∷ cs)) else
    if is_digit c then when (is_grouped is_digit (c ∷ cs) || is_based 0 (c ∷ cs)) (Int (pos (integer_value 0 (c ∷ cs)))) else
    if c == 39 then when (is_quoted 39 cs) (Atom (encode_utf8_all (unquoted cs))) else
    if c == 34 then when (is_quoted 34 cs) (Str (encode_utf8_all (unquoted cs))) else
    if c == 36 then when (is_character cs) (Char (character_value cs)) else
    when (is_mark (c ∷ cs)) (mark_token (c ∷ cs) follow)

-- ---- places

-- the place after one character; a line feed ends a line
abbrev pub step : Place → ℕ → Place
step p c = if c == 10 then record { line = p.line + 1; column = 1 } else record { line = p.line; column = p.column + 1 }

-- the place after some characters
abbrev pub after : Place → List ℕ → Place
after p [] = p
after p (c ∷ cs) = after (step p c) cs

-- the place of the first character
abbrev pub start : Place
start = record { line = 1; column = 1 }

-- ---- the whole

-- the characters from a place on are gaps and the texts of these tokens in turn, and End stands after the last one
unfoldable pub Spells : Place → List ℕ → List Placed → Type 0
Spells p text [] = ⊥
Spells p text (t ∷ []) = IsGap false text [] × (t.token ≡ End) × (t.place ≡ after p text)
Spells p text (t ∷ u ∷ ts) = (gap word rest : List ℕ) × (text ≡ gap ++ (word ++ rest)) × IsGap false gap (word ++ rest)
    × (token_of word rest ≡ Some t.token) × IsLongest word rest × (t.place ≡ after p gap) × Spells (after (after p gap) word) rest (u ∷ ts)

-- the bytes are the UTF-8 of characters that spell these tokens
pub record SpellsTokens (bytes : List ℕ) (tokens : List Placed) : Type 0 where
  pub characters : List ℕ
  pub are_characters : all_scalars characters ≡ true
  pub encoded : encode_utf8_all characters ≡ bytes
  pub spelled : Spells start characters tokens
