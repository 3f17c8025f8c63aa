-- Reading tokens from left to right. A reader answers what stands at the front of the tokens, with the tokens behind it, or why nothing can be read there.
use Rattle.std.specs.Prelude.{◌≡◌, ℕ, ℤ, List, [], ◌∷◌, Option, Some, None, Result, Ok, Err, Bool, true, false, ◌||◌, if◌then◌else◌, codes}
use Rattle.std.specs.Str.{bytes_eq}
use Rattle.erl_tree.specs.declared.token.Place.{Place}
use Rattle.erl_tree.specs.declared.token.Placed.{Placed}
use Rattle.erl_tree.specs.declared.token.Token.{Token}
use Rattle.erl_tree.specs.declared.token.Token.TheVariants as T
use Rattle.erl_tree.specs.declared.expr.UnaryOp.{UnaryOp}
use Rattle.erl_tree.specs.declared.expr.UnaryOp.TheVariants.{Plus, Minus, Not}
use Rattle.erl_tree.specs.declared.expr.BinaryOp.{BinaryOp}
use Rattle.erl_tree.specs.declared.expr.BinaryOp.TheVariants.{Orelse, Andalso, Eq, Ne, ExactEq, ExactNe, Lt, Gt, Le, Ge, Append, Add, Sub, Or, Xor, Mul, Div, Rem, And}
use Rattle.erl_grammar.specs.FormGrammar.{is_one_of, preprocessor_attributes}
use Rattle.erl_parser_tokens.specs.declared.fault.ParseFault.{ParseFault}
use Rattle.erl_parser_tokens.specs.declared.fault.ParseFault.TheVariants as faults
use Rattle.erl_parser_tokens.specs.Heights.{origin}

-- ---- readers

-- what a reader answers
abbrev pub Answer : Type 0 → Type 0
Answer A = Result A ParseFault

-- a reader of such things
abbrev pub Reads : Type 0 → Type 0
Reads A = List Placed → Answer (A × List Placed)

-- a test of what stands at the front: what was found, with the tokens behind it
abbrev pub Accepts : Type 0 → Type 0
Accepts A = List Placed → Option (A × List Placed)

-- a fault for want of memory, or the one that the reader answers
abbrev pub Fails : {Y : Type 0} → ParseFault → Answer Y → Type 0
Fails faults.NoMemory read = Unit {0}
Fails f read = read ≡ Err f

-- what a function returned, seen by view, is what the reader answers, unless memory ran out
abbrev pub Gives : {X Y : Type 0} → (X → Y) → Result X ParseFault → Answer Y → Type 0
Gives view (Ok x) read = read ≡ Ok (view x)
Gives view (Err f) read = Fails f read

-- the same of a function that only tests
abbrev pub Finds : {X Y : Type 0} → (X → Y) → Option X → Option Y → Type 0
Finds view None found = found ≡ None
Finds view (Some x) found = found ≡ Some (view x)

-- what is read next, where something was read
infixl 10 ◌>>=◌
abbrev pub ◌>>=◌ : {A B : Type 0} → Answer A → (A → Answer B) → Answer B
(Ok x) >>= f = f x
(Err f) >>= g = Err f

-- by cases of what was found: nothing, or this
abbrev pub in_case : {A B : Type 0} → Option A → B → (A → B) → B
in_case None b f = b
in_case (Some a) b f = f a

-- ---- faults

-- where the tokens go on
abbrev pub first_place : List Placed → Place
first_place [] = origin
first_place (t ∷ ts) = t.place

-- what stands there fits nowhere
abbrev pub unexpected : {A : Type 0} → List Placed → Answer A
unexpected ts = Err (faults.Unexpected (first_place ts))

-- a form stands there that is outside of the profile
abbrev pub outside : {A : Type 0} → List ℕ → Place → Answer A
outside form p = Err (faults.OutOfProfile p form)

-- what was found, or else the tokens fit nowhere
abbrev pub found_in : {A : Type 0} → List Placed → Option (A × List Placed) → Answer (A × List Placed)
found_in ts None = unexpected ts
found_in ts (Some x) = Ok x

abbrev pub expect : {A : Type 0} → Accepts A → Reads A
expect accept ts = found_in ts (accept ts)

-- ---- single tokens

-- whether a token is the mark with this text
abbrev pub is_mark : List ℕ → Token → Bool
is_mark text (T.Mark m) = bytes_eq m text
is_mark text _ = false

-- a mark, by its place
unfoldable pub mark : List ℕ → Accepts Place
mark text [] = None
mark text (t ∷ ts) = if is_mark text t.token then Some (t.place, ts) else None

-- whether a token is the reserved word with this text
abbrev pub is_word : List ℕ → Token → Bool
is_word text (T.Word w) = bytes_eq w text
is_word text _ = false

-- a reserved word, by its place
unfoldable pub word : List ℕ → Accepts Place
word text [] = None
word text (t ∷ ts) = if is_word text t.token then Some (t.place, ts) else None

-- the name of a token that is an atom
abbrev pub atom_name : Token → Option (List ℕ)
atom_name (T.Atom a) = Some a
atom_name _ = None

-- an atom, by its name and its place
unfoldable pub atom : Accepts (List ℕ × Place)
atom [] = None
atom (t ∷ ts) = in_case (atom_name t.token) None (λ a. Some ((a, t.place), ts))

-- the value of a token that is an integer
abbrev pub integer_value : Token → Option ℤ
integer_value (T.Int n) = Some n
integer_value _ = None

-- an integer, by its value and its place
unfoldable pub integer : Accepts (ℤ × Place)
integer [] = None
integer (t ∷ ts) = in_case (integer_value t.token) None (λ n. Some ((n, t.place), ts))

-- whether a token is a string
abbrev pub is_string : Token → Bool
is_string (T.Str s) = true
is_string _ = false

-- a string comes next
unfoldable pub string_next : List Placed → Bool
string_next [] = false
string_next (t ∷ ts) = is_string t.token

-- whether a token is the end of the text
abbrev pub is_end : Token → Bool
is_end T.End = true
is_end _ = false

-- the end of the text with nothing behind it, by its place
unfoldable pub end : List Placed → Option Place
end [] = None
end (t ∷ []) = if is_end t.token then Some t.place else None
end (t ∷ u ∷ ts) = None

-- whether a token is the variable with this text
abbrev pub is_variable : List ℕ → Token → Bool
is_variable text (T.Var x) = bytes_eq x text
is_variable text _ = false

-- ---- operators

-- the sign in front of an operand that a token is
abbrev pub sign_of : Token → Option UnaryOp
sign_of (T.Mark m) = if bytes_eq m (codes "+") then Some Plus else (if bytes_eq m (codes "-") then Some Minus else None)
sign_of (T.Word w) = if bytes_eq w (codes "not") then Some Not else None
sign_of _ = None

-- `+`, `-`, `not` in front of an operand, with its place
unfoldable pub sign : Accepts (UnaryOp × Place)
sign [] = None
sign (t ∷ ts) = in_case (sign_of t.token) None (λ op. Some ((op, t.place), ts))

-- the comparison that punctuation is
unfoldable pub comparison_of : List ℕ → Option BinaryOp
comparison_of m =
    if bytes_eq m (codes "==") then Some Eq else
    if bytes_eq m (codes "/=") then Some Ne else
    if bytes_eq m (codes "=:=") then Some ExactEq else
    if bytes_eq m (codes "=/=") then Some ExactNe else
    if bytes_eq m (codes "<") then Some Lt else
    if bytes_eq m (codes ">") then Some Gt else
    if bytes_eq m (codes "=<") then Some Le else
    if bytes_eq m (codes ">=") then Some Ge else None

-- another operator that punctuation is
unfoldable pub arithmetic_of : List ℕ → Option BinaryOp
arithmetic_of m =
    if bytes_eq m (codes "++") then Some Append else
    if bytes_eq m (codes "+") then Some Add else
    if bytes_eq m (codes "-") then Some Sub else
    if bytes_eq m (codes "*") then Some Mul else None

-- the operator that a reserved word is
unfoldable pub word_operator_of : List ℕ → Option BinaryOp
word_operator_of w =
    if bytes_eq w (codes "orelse") then Some Orelse else
    if bytes_eq w (codes "andalso") then Some Andalso else
    if bytes_eq w (codes "or") then Some Or else
    if bytes_eq w (codes "xor") then Some Xor else
    if bytes_eq w (codes "div") then Some Div else
    if bytes_eq w (codes "rem") then Some Rem else
    if bytes_eq w (codes "and") then Some And else None

-- the operator between operands that a token is
abbrev pub operator_of : Token → Option BinaryOp
operator_of (T.Mark m) = in_case (comparison_of m) (arithmetic_of m) (λ op. Some op)
operator_of (T.Word w) = word_operator_of w
operator_of _ = None

-- an operator between operands, with its place
unfoldable pub operator : Accepts (BinaryOp × Place)
operator [] = None
operator (t ∷ ts) = in_case (operator_of t.token) None (λ op. Some ((op, t.place), ts))

-- whether a reserved word is a bit operator between operands
unfoldable pub is_bit_operator : List ℕ → Bool
is_bit_operator w = bytes_eq w (codes "band") || (bytes_eq w (codes "bor") || (bytes_eq w (codes "bxor") || (bytes_eq w (codes "bsl") || bytes_eq w (codes "bsr"))))

-- the form outside of the profile that a token behind an expression is
abbrev pub outside_behind : Token → Option (List ℕ)
outside_behind (T.Mark m) = if bytes_eq m (codes "=") then Some (codes "nested match") else (if bytes_eq m (codes "/") then Some (codes "float") else None)
outside_behind (T.Word w) = if is_bit_operator w then Some (codes "bit operator") else None
outside_behind _ = None

-- an expression ends there, and no form outside of the profile follows
unfoldable pub ended : {A : Type 0} → A → Reads A
ended x [] = Ok (x, [])
ended x (t ∷ ts) = in_case (outside_behind t.token) (Ok (x, t ∷ ts)) (λ form. outside form t.place)

-- the form outside of the profile that a token behind a pattern is
abbrev pub outside_behind_pattern : Token → Option (List ℕ)
outside_behind_pattern (T.Mark m) = if bytes_eq m (codes "++") then Some (codes "list pattern") else (if bytes_eq m (codes "/") then Some (codes "float") else None)
outside_behind_pattern (T.Word w) = if is_bit_operator w then Some (codes "bit operator") else None
outside_behind_pattern _ = None

-- the form outside of the profile that a token behind a type is
abbrev pub outside_behind_type : Token → Option (List ℕ)
outside_behind_type (T.Mark m) = if bytes_eq m (codes "/") then Some (codes "float") else None
outside_behind_type (T.Word w) = if is_bit_operator w then Some (codes "bit operator") else None
outside_behind_type _ = None

-- the form outside of the profile that stands behind a pattern, with its place
unfoldable pub outside_next : List Placed → Option (Place × List ℕ)
outside_next [] = None
outside_next (t ∷ ts) = in_case (outside_behind_pattern t.token) None (λ form. Some (t.place, form))

-- the form outside of the profile that a reserved word at the place of an operand or of a pattern begins
unfoldable pub outside_word : List ℕ → Option (List ℕ)
outside_word w =
    if bytes_eq w (codes "catch") then Some (codes "catch") else
    if bytes_eq w (codes "receive") then Some (codes "receive") else
    if bytes_eq w (codes "maybe") then Some (codes "maybe") else
    if bytes_eq w (codes "bnot") then Some (codes "bit operator") else None

-- the form outside of the profile that an attribute of this name is
unfoldable pub outside_attribute : List ℕ → Option (List ℕ)
outside_attribute name =
    if is_one_of name preprocessor_attributes then Some (codes "preprocessor") else
    if bytes_eq name (codes "import") then Some (codes "import") else
    if bytes_eq name (codes "nominal") then Some (codes "nominal") else None

-- what begins with a reserved word that begins no expression and no pattern
abbrev pub wrong_word : {A : Type 0} → List ℕ → Place → Answer A
wrong_word w p = in_case (outside_word w) (Err (faults.Unexpected p)) (λ form. outside form p)

-- a token that begins a pattern and no key
abbrev pub begins_no_key : Token → Bool
begins_no_key (T.Var x) = true
begins_no_key (T.Str s) = true
begins_no_key (T.Mark m) = bytes_eq m (codes "(") || (bytes_eq m (codes "{") || (bytes_eq m (codes "[") || bytes_eq m (codes "#")))
begins_no_key _ = false
