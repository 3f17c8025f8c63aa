-- What the lexer refuses, and where (the profile of Erlang that is read: no floats, binaries, macros, processes, and names of ASCII letters alone).
use Rattle.std.specs.Prelude.{◌≡◌, ◌≢◌, ◌+◌, ℕ, List, [], ◌∷◌, ◌++◌, take, Option, Some, None, Bool, true, false, not, nat_le, ◌==◌, ◌&&◌, ◌||◌, if◌then◌else◌, codes, encode_utf8_all}
use Rattle.std.specs.Str.{all_scalars}
use Rattle.erl_tree.specs.declared.token.Place.{Place}
use Rattle.erl_tree.specs.declared.token.Placed.{Placed}
use Rattle.erl_tree.specs.declared.token.Token.{Token}
use Rattle.erl_tree.specs.declared.token.Token.TheVariants.{End}
use Rattle.erl_tree.specs.Limits.{IsAboveLimit, IsInLimit}
use Rattle.erl_tree.specs.Lexis.{is_digit, is_white, is_escape, IsGap, IsLongest, token_of, after, start}

-- ---- forms outside of the profile, by the characters from a token's place on

-- digits, single underscores between them, a point and a digit follow
abbrev pub is_float : (digit : Bool) → List ℕ → Bool
is_float digit [] = false
is_float digit (c ∷ []) = false
is_float digit (c ∷ d ∷ cs) = if is_digit c then is_float true (d ∷ cs) else if c == 95 then (digit && is_digit d && is_float false (d ∷ cs)) else ((c == 46) && digit && is_digit d)

-- whether characters begin with others
abbrev pub begins : (front text : List ℕ) → Bool
begins [] text = true
begins (c ∷ cs) [] = false
begins (c ∷ cs) (d ∷ ds) = (c == d) && begins cs ds

-- the form that is outside of the profile and begins there, by its name
unfoldable pub outside_form : List ℕ → Option (List ℕ)
outside_form [] = None
outside_form (c ∷ cs) =
    if is_float false (c ∷ cs) then Some (codes "float") else
    if c == 63 then Some (codes "macro") else
    if begins (codes "<<") (c ∷ cs) then Some (codes "binary") else
    if c == 33 then Some (codes "send") else
    if begins (codes "--") (c ∷ cs) then Some (codes "list difference") else
    if begins (codes "\"\"\"") (c ∷ cs) then Some (codes "triple-quoted string") else
    if c == 126 then Some (codes "sigil") else
    if nat_le 128 c then Some (codes "non-ASCII name") else
    if begins (codes "<:-") (c ∷ cs) || begins (codes "<:=") (c ∷ cs) then Some (codes "strict generator") else None

-- ---- bad escapes

-- some more, where there is a number
abbrev pub further : ℕ → Option ℕ → Option ℕ
further n None = None
further n (Some m) = Some (n + m)

-- how many characters stand before the first backslash that heads no escape, of what follows an opening quote, up to the closing one or the end of the text
abbrev pub bad_in_quotes : (quote : ℕ) → List ℕ → Option ℕ
bad_in_quotes quote [] = None
bad_in_quotes quote (c ∷ []) = if c == 92 then Some 0 else None
bad_in_quotes quote (c ∷ d ∷ cs) =
    if c == 92 then (if is_escape d then further 2 (bad_in_quotes quote cs) else Some 0) else
    if c == quote then None else further 1 (bad_in_quotes quote (d ∷ cs))

-- the same of what follows a $
abbrev pub bad_in_character : List ℕ → Option ℕ
bad_in_character [] = None
bad_in_character (c ∷ []) = if c == 92 then Some 0 else None
bad_in_character (c ∷ d ∷ cs) = if (c == 92) && not (is_escape d) then Some 0 else None

-- how many characters stand before the first backslash that heads no escape, from the place of a quoted token or of a character on
unfoldable pub bad_escape : List ℕ → Option ℕ
bad_escape [] = None
bad_escape (c ∷ cs) =
    if (c == 39) || (c == 34) then further 1 (bad_in_quotes c cs) else
    if c == 36 then further 1 (bad_in_character cs) else None

-- ---- texts up to a place

-- white space or a comment begins there
abbrev pub begins_gap : List ℕ → Bool
begins_gap [] = false
begins_gap (c ∷ cs) = is_white c || (c == 37)

-- the characters from a place on begin with gaps and the texts of these tokens in turn, up to a token's place or the end of the text; no form outside of the profile stands at the tokens' places, and their integers are within the limit
unfoldable pub BeginsWith : Place → List ℕ → List Placed → (there : Place) → (rest : List ℕ) → Type 0
BeginsWith p text [] there rest = (gap : List ℕ) × (text ≡ gap ++ rest) × IsGap false gap rest × (begins_gap rest ≡ false) × (there ≡ after p gap)
BeginsWith p text (t ∷ ts) there rest = (gap word more : List ℕ) × (text ≡ gap ++ (word ++ more)) × IsGap false gap (word ++ more)
    × (token_of word more ≡ Some t.token) × IsLongest word more × (t.place ≡ after p gap) × (outside_form (word ++ more) ≡ None) × IsInLimit t.token × BeginsWith (after (after p gap) word) more ts there rest

-- the bytes spell these tokens, in the profile and with integers within the limit
pub record IsLexed (bytes : List ℕ) (tokens : List Placed) : Type 0 where
  pub characters : List ℕ
  pub are_characters : all_scalars characters ≡ true
  pub encoded : encode_utf8_all characters ≡ bytes
  pub before : List Placed
  pub end : Place
  pub spelled : BeginsWith start characters before end []
  pub listed : tokens ≡ before ++ record { token = End; place = end } ∷ []

-- ---- the first fault of a text

-- at a place behind tokens that are right, characters are left that begin there no form outside of the profile
pub record IsRightUpTo (text : List ℕ) (there : Place) (rest : List ℕ) : Type 0 where
  pub tokens : List Placed
  pub begins : BeginsWith start text tokens there rest
  pub inside : outside_form rest ≡ None

-- at a place behind tokens that are right a form begins that is outside of the profile
pub record IsOutsideAt (text : List ℕ) (place : Place) (form : List ℕ) : Type 0 where
  pub tokens : List Placed
  pub rest : List ℕ
  pub begins : BeginsWith start text tokens place rest
  pub outside : outside_form rest ≡ Some form

-- an integer stands there that is above the limit
pub record IsWideAt (text : List ℕ) (place : Place) : Type 0 where
  pub word : List ℕ
  pub more : List ℕ
  pub token : Token
  pub right : IsRightUpTo text place (word ++ more)
  pub spelled : token_of word more ≡ Some token
  pub longest : IsLongest word more
  pub wide : IsAboveLimit token

-- a backslash that heads no escape stands there, in a quoted token or a character
pub record IsBadEscapeAt (text : List ℕ) (place : Place) : Type 0 where
  pub there : Place
  pub rest : List ℕ
  pub before : ℕ
  pub right : IsRightUpTo text there rest
  pub bad : bad_escape rest ≡ Some before
  pub placed : place ≡ after there (take before rest)

-- no text of a token stands there, though the text goes on
pub record IsBadTokenAt (text : List ℕ) (place : Place) : Type 0 where
  pub rest : List ℕ
  pub right : IsRightUpTo text place rest
  pub escapes : bad_escape rest ≡ None
  pub goes_on : rest ≢ []
  pub no_token : (word more : List ℕ) (token : Token) → rest ≡ word ++ more → token_of word more ≡ Some token → ⊥
