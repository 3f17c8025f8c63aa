-- Single tokens: each is accepted again, and what is accepted takes exactly its token.
use Rattle.std.proofs.Common.{◌≡◌, ℕ, ℤ, Bool, true, false, List, [], ◌∷◌, ◌++◌, refl, ap, sym, ◌∙◌, subst}
use Rattle.std.specs.Prelude.{Option, Some, None, Ok, if◌then◌else◌, codes}
use Rattle.std.specs.Str.{bytes_eq}
use Rattle.std.proofs.lemmas.Slice.Eq.{bytes_eq-Decides}
use Rattle.erl_tree.specs.declared.token.Place.{Place}
use Rattle.erl_tree.specs.declared.token.Placed.{Placed}
use Rattle.erl_tree.specs.declared.token.Node.{Node}
use Rattle.erl_tree.specs.declared.token.Token.{Token}
use Rattle.erl_tree.specs.declared.token.Token.TheVariants as T
use Rattle.erl_tree.specs.declared.pattern.PatternKind.{PatternKind}
use Rattle.erl_tree.specs.declared.expr.ExprKind.{ExprKind}
use Rattle.erl_tree.specs.declared.expr.UnaryOp.{UnaryOp}
use Rattle.erl_tree.specs.declared.expr.UnaryOp.TheVariants.{Plus, Minus, Not}
use Rattle.erl_tree.specs.declared.expr.BinaryOp.{BinaryOp}
use Rattle.erl_tree.specs.declared.expr.BinaryOp.TheVariants.{Orelse, Andalso, Eq, Ne, ExactEq, ExactNe, Lt, Gt, Le, Ge, Append, Add, Sub, Or, Xor, Mul, Div, Rem, And}
use Rattle.erl_grammar.specs.Pieces.{at}
use Rattle.erl_grammar.specs.Operators.{unary_token, operator_token}
use Rattle.erl_grammar.specs.Spelling.{pattern_tokens, expr_tokens}
use Rattle.erl_grammar.specs.Grammar.{IsSimplePattern, IsExpr}
use Rattle.erl_parser_tokens.specs.Tokens.{in_case, outside, found_in, expect, is_mark, mark, is_word, word, atom_name, atom, integer_value, integer, is_string, string_next, is_end, end, is_variable, sign_of, sign, comparison_of, arithmetic_of, word_operator_of, operator_of, operator, outside_behind, ended, wrong_word, outside_behind_pattern, outside_next}
use Rattle.erl_parser_tokens.specs.Outside.{HasOutside, IsOutside, by_word, behind_expr, behind_pattern}
use Rattle.erl_parser_tokens.proofs.Then.{Right, right_ok, right_fault, right_outside, right_expect, right_case}

-- ---- what was found

abbrev pub some : {A : Type 0} → A → Option A
some x = Some x

pub some_is : {A : Type 0} (x y : A) → some x ≡ some y → x ≡ y
some_is x y e = cc

-- each value that was found is of some kind
abbrev pub Holds : {A : Type 0} → (A → Type 0) → Option A → Type 0
Holds {A} P o = (x : A) → o ≡ Some x → P x

pub holds_none : {A : Type 0} (P : A → Type 0) → Holds P None
holds_none P x e = absurd cc

pub holds_some : {A : Type 0} (P : A → Type 0) (x : A) → P x → Holds P (Some x)
holds_some P x h y e = subst P (some_is x y e) h

pub holds_if : {A : Type 0} (P : A → Type 0) (test : Bool) (x : A) (other : Option A) → (test ≡ true → P x) → Holds P other → Holds P (if test then Some x else other)
holds_if P true x other h k = holds_some P x (h refl)
holds_if P false x other h k = k

pub case_some : {A B : Type 0} {o : Option A} {a : A} → o ≡ Some a → (none : B) (some : A → B) → in_case o none some ≡ some a
case_some e none some = ap (λ z. in_case z none some) e

pub case_none : {A B : Type 0} {o : Option A} → o ≡ None → (none : B) (some : A → B) → in_case o none some ≡ none
case_none e none some = ap (λ z. in_case z none some) e

pub same_text : (text : List ℕ) → bytes_eq text text ≡ true
same_text text = (bytes_eq-Decides text text).1 refl

pub text_is : (text m : List ℕ) → bytes_eq m text ≡ true → m ≡ text
text_is text m e = (bytes_eq-Decides m text).0 e

pub token_is : (t : Placed) (k : Token) → t.token ≡ k → t ≡ at k t.place
token_is t k e = ap (λ j. at j t.place) e

-- ---- marks

-- the first token is the mark with this text
abbrev pub IsMarkNext : List ℕ → List Placed → Place × List Placed → Type 0
IsMarkNext text ts x = ts ≡ at (T.Mark text) x.0 ∷ x.1

pub mark-again : (text : List ℕ) (p : Place) (ts : List Placed) → mark text (at (T.Mark text) p ∷ ts) ≡ Some (p, ts)
unfolding mark
mark-again text p ts = rw (same_text text) refl

pub is_mark-takes : (text : List ℕ) (t : Token) → is_mark text t ≡ true → t ≡ T.Mark text
is_mark-takes text (T.Mark m) e = ap T.Mark (text_is text m e)
is_mark-takes text _ e = absurd cc

pub mark-takes : (text : List ℕ) (ts : List Placed) (x : Place × List Placed) → mark text ts ≡ Some x → IsMarkNext text ts x
unfolding mark
mark-takes text [] = holds_none (IsMarkNext text [])
mark-takes text (t ∷ ts) = holds_if (IsMarkNext text (t ∷ ts)) (is_mark text t.token) (t.place, ts) None (λ e. ap (λ j. j ∷ ts) (token_is t (T.Mark text) (is_mark-takes text t.token e))) (holds_none _)

-- another token
pub mark-other : (text : List ℕ) (t : Token) (p : Place) (ts : List Placed) → is_mark text t ≡ false → mark text (at t p ∷ ts) ≡ None
unfolding mark
mark-other text t p ts e = rw e refl

pub expect_mark : (text : List ℕ) (ts : List Placed) → Right (IsMarkNext text ts) ts (expect (mark text) ts)
expect_mark text ts = right_expect (mark text) ts (mark-takes text ts)

pub expect_mark-again : (text : List ℕ) (p : Place) (ts : List Placed) → expect (mark text) (at (T.Mark text) p ∷ ts) ≡ Ok (p, ts)
expect_mark-again text p ts = ap (found_in (at (T.Mark text) p ∷ ts)) (mark-again text p ts)

-- ---- reserved words

-- the first token is the reserved word with this text
abbrev pub IsWordNext : List ℕ → List Placed → Place × List Placed → Type 0
IsWordNext text ts x = ts ≡ at (T.Word text) x.0 ∷ x.1

pub word-again : (text : List ℕ) (p : Place) (ts : List Placed) → word text (at (T.Word text) p ∷ ts) ≡ Some (p, ts)
unfolding word
word-again text p ts = rw (same_text text) refl

pub is_word-takes : (text : List ℕ) (t : Token) → is_word text t ≡ true → t ≡ T.Word text
is_word-takes text (T.Word w) e = ap T.Word (text_is text w e)
is_word-takes text _ e = absurd cc

pub word-takes : (text : List ℕ) (ts : List Placed) (x : Place × List Placed) → word text ts ≡ Some x → IsWordNext text ts x
unfolding word
word-takes text [] = holds_none (IsWordNext text [])
word-takes text (t ∷ ts) = holds_if (IsWordNext text (t ∷ ts)) (is_word text t.token) (t.place, ts) None (λ e. ap (λ j. j ∷ ts) (token_is t (T.Word text) (is_word-takes text t.token e))) (holds_none _)

pub expect_word : (text : List ℕ) (ts : List Placed) → Right (IsWordNext text ts) ts (expect (word text) ts)
expect_word text ts = right_expect (word text) ts (word-takes text ts)

pub expect_word-again : (text : List ℕ) (p : Place) (ts : List Placed) → expect (word text) (at (T.Word text) p ∷ ts) ≡ Ok (p, ts)
expect_word-again text p ts = ap (found_in (at (T.Word text) p ∷ ts)) (word-again text p ts)

-- ---- tokens with a value

-- the first token has this value
abbrev IsValueNext : {A : Type 0} → (A → Token) → List Placed → (A × Place) × List Placed → Type 0
IsValueNext token ts x = ts ≡ at (token x.0.0) x.0.1 ∷ x.1

value_takes : {A : Type 0} (value : Token → Option A) (token : A → Token) → ((t : Token) → Holds (λ a. t ≡ token a) (value t)) → (t : Placed) (ts : List Placed)
    → Holds (IsValueNext token (t ∷ ts)) (in_case (value t.token) None (λ a. Some ((a, t.place), ts)))
value_takes {A} value token takes t ts = by (value t.token) (takes t.token)
  where
    by : (o : Option A) → Holds (λ a. t.token ≡ token a) o → Holds (IsValueNext token (t ∷ ts)) (in_case o None (λ a. Some ((a, t.place), ts)))
    by None h = holds_none _
    by (Some a) h = holds_some (IsValueNext token (t ∷ ts)) ((a, t.place), ts) (ap (λ j. j ∷ ts) (token_is t (token a) (h a refl)))

-- ---- atoms

-- the first token is the atom with this name
abbrev pub IsAtomNext : List Placed → (List ℕ × Place) × List Placed → Type 0
IsAtomNext ts x = ts ≡ at (T.Atom x.0.0) x.0.1 ∷ x.1

pub atom-again : (name : List ℕ) (p : Place) (ts : List Placed) → atom (at (T.Atom name) p ∷ ts) ≡ Some ((name, p), ts)
unfolding atom
atom-again name p ts = refl

atom_name-takes : (t : Token) → Holds (λ a. t ≡ T.Atom a) (atom_name t)
atom_name-takes (T.Atom b) a e = ap T.Atom (some_is b a e)
atom_name-takes _ a e = absurd cc

pub atom-takes : (ts : List Placed) (x : (List ℕ × Place) × List Placed) → atom ts ≡ Some x → IsAtomNext ts x
unfolding atom
atom-takes [] = holds_none (IsAtomNext [])
atom-takes (t ∷ ts) = value_takes atom_name T.Atom atom_name-takes t ts

pub expect_atom : (ts : List Placed) → Right (IsAtomNext ts) ts (expect atom ts)
expect_atom ts = right_expect atom ts (atom-takes ts)

pub expect_atom-again : (name : List ℕ) (p : Place) (ts : List Placed) → expect atom (at (T.Atom name) p ∷ ts) ≡ Ok ((name, p), ts)
expect_atom-again name p ts = ap (found_in (at (T.Atom name) p ∷ ts)) (atom-again name p ts)

-- ---- integers

-- the first token is the integer with this value
abbrev pub IsIntegerNext : List Placed → (ℤ × Place) × List Placed → Type 0
IsIntegerNext ts x = ts ≡ at (T.Int x.0.0) x.0.1 ∷ x.1

pub integer-again : (n : ℤ) (p : Place) (ts : List Placed) → integer (at (T.Int n) p ∷ ts) ≡ Some ((n, p), ts)
unfolding integer
integer-again n p ts = refl

integer_value-takes : (t : Token) → Holds (λ n. t ≡ T.Int n) (integer_value t)
integer_value-takes (T.Int m) n e = ap T.Int (some_is m n e)
integer_value-takes _ n e = absurd cc

pub integer-takes : (ts : List Placed) (x : (ℤ × Place) × List Placed) → integer ts ≡ Some x → IsIntegerNext ts x
unfolding integer
integer-takes [] = holds_none (IsIntegerNext [])
integer-takes (t ∷ ts) = value_takes integer_value T.Int integer_value-takes t ts

pub expect_integer : (ts : List Placed) → Right (IsIntegerNext ts) ts (expect integer ts)
expect_integer ts = right_expect integer ts (integer-takes ts)

pub expect_integer-again : (n : ℤ) (p : Place) (ts : List Placed) → expect integer (at (T.Int n) p ∷ ts) ≡ Ok ((n, p), ts)
expect_integer-again n p ts = ap (found_in (at (T.Int n) p ∷ ts)) (integer-again n p ts)

-- ---- signs in front of operands

-- the first token is this sign
abbrev pub IsSignNext : List Placed → (UnaryOp × Place) × List Placed → Type 0
IsSignNext ts x = ts ≡ at (unary_token x.0.0) x.0.1 ∷ x.1

pub sign_of-token : (op : UnaryOp) → sign_of (unary_token op) ≡ Some op
sign_of-token Plus = refl
sign_of-token Minus = refl
sign_of-token Not = refl

pub sign-again : (op : UnaryOp) (p : Place) (ts : List Placed) → sign (at (unary_token op) p ∷ ts) ≡ Some ((op, p), ts)
unfolding sign
sign-again op p ts = rw (sign_of-token op) refl

pub sign_of-takes : (t : Token) (op : UnaryOp) → sign_of t ≡ Some op → t ≡ unary_token op
sign_of-takes (T.Mark m) = holds_if (λ op. T.Mark m ≡ unary_token op) _ Plus _ (λ e. ap T.Mark (text_is (codes "+") m e)) (holds_if (λ op. T.Mark m ≡ unary_token op) _ Minus _ (λ e. ap T.Mark (text_is (codes "-") m e)) (holds_none _))
sign_of-takes (T.Word w) = holds_if (λ op. T.Word w ≡ unary_token op) _ Not _ (λ e. ap T.Word (text_is (codes "not") w e)) (holds_none _)
sign_of-takes _ = holds_none _

pub sign-takes : (ts : List Placed) (x : (UnaryOp × Place) × List Placed) → sign ts ≡ Some x → IsSignNext ts x
unfolding sign
sign-takes [] = holds_none (IsSignNext [])
sign-takes (t ∷ ts) = value_takes sign_of unary_token sign_of-takes t ts

-- ---- operators between operands

-- the first token is this operator
abbrev pub IsOperatorNext : List Placed → (BinaryOp × Place) × List Placed → Type 0
IsOperatorNext ts x = ts ≡ at (operator_token x.0.0) x.0.1 ∷ x.1

pub operator_of-token : (op : BinaryOp) → operator_of (operator_token op) ≡ Some op
unfolding comparison_of arithmetic_of word_operator_of
operator_of-token Orelse = refl
operator_of-token Andalso = refl
operator_of-token Eq = refl
operator_of-token Ne = refl
operator_of-token ExactEq = refl
operator_of-token ExactNe = refl
operator_of-token Lt = refl
operator_of-token Gt = refl
operator_of-token Le = refl
operator_of-token Ge = refl
operator_of-token Append = refl
operator_of-token Add = refl
operator_of-token Sub = refl
operator_of-token Or = refl
operator_of-token Xor = refl
operator_of-token Mul = refl
operator_of-token Div = refl
operator_of-token Rem = refl
operator_of-token And = refl

pub operator-again : (op : BinaryOp) (p : Place) (ts : List Placed) → operator (at (operator_token op) p ∷ ts) ≡ Some ((op, p), ts)
unfolding operator
operator-again op p ts = case_some (operator_of-token op) None (λ a. Some ((a, p), ts))

-- an operator that is a mark
abbrev IsMarkOf : List ℕ → BinaryOp → Type 0
IsMarkOf m op = T.Mark m ≡ operator_token op

mark_chain : (m text : List ℕ) (op : BinaryOp) (other : Option BinaryOp) → operator_token op ≡ T.Mark text → Holds (IsMarkOf m) other → Holds (IsMarkOf m) (if bytes_eq m text then Some op else other)
mark_chain m text op other e h = holds_if (IsMarkOf m) (bytes_eq m text) op other (λ g. ap T.Mark (text_is text m g) ∙ sym e) h

comparison_of-takes : (m : List ℕ) → Holds (IsMarkOf m) (comparison_of m)
unfolding comparison_of
comparison_of-takes m =
    mark_chain m (codes "==") Eq _ refl (mark_chain m (codes "/=") Ne _ refl (mark_chain m (codes "=:=") ExactEq _ refl (mark_chain m (codes "=/=") ExactNe _ refl
    (mark_chain m (codes "<") Lt _ refl (mark_chain m (codes ">") Gt _ refl (mark_chain m (codes "=<") Le _ refl (mark_chain m (codes ">=") Ge _ refl (holds_none _))))))))

arithmetic_of-takes : (m : List ℕ) → Holds (IsMarkOf m) (arithmetic_of m)
unfolding arithmetic_of
arithmetic_of-takes m = mark_chain m (codes "++") Append _ refl (mark_chain m (codes "+") Add _ refl (mark_chain m (codes "-") Sub _ refl (mark_chain m (codes "*") Mul _ refl (holds_none _))))

-- an operator that is a reserved word
abbrev IsWordOf : List ℕ → BinaryOp → Type 0
IsWordOf w op = T.Word w ≡ operator_token op

word_chain : (w text : List ℕ) (op : BinaryOp) (other : Option BinaryOp) → operator_token op ≡ T.Word text → Holds (IsWordOf w) other → Holds (IsWordOf w) (if bytes_eq w text then Some op else other)
word_chain w text op other e h = holds_if (IsWordOf w) (bytes_eq w text) op other (λ g. ap T.Word (text_is text w g) ∙ sym e) h

word_operator_of-takes : (w : List ℕ) → Holds (IsWordOf w) (word_operator_of w)
unfolding word_operator_of
word_operator_of-takes w =
    word_chain w (codes "orelse") Orelse _ refl (word_chain w (codes "andalso") Andalso _ refl (word_chain w (codes "or") Or _ refl (word_chain w (codes "xor") Xor _ refl
    (word_chain w (codes "div") Div _ refl (word_chain w (codes "rem") Rem _ refl (word_chain w (codes "and") And _ refl (holds_none _)))))))

mark_operator-takes : (m : List ℕ) (o : Option BinaryOp) → Holds (IsMarkOf m) o → Holds (IsMarkOf m) (in_case o (arithmetic_of m) (λ op. Some op))
mark_operator-takes m None h = arithmetic_of-takes m
mark_operator-takes m (Some op) h = h

pub operator_of-takes : (t : Token) (op : BinaryOp) → operator_of t ≡ Some op → t ≡ operator_token op
operator_of-takes (T.Mark m) = mark_operator-takes m (comparison_of m) (comparison_of-takes m)
operator_of-takes (T.Word w) = word_operator_of-takes w
operator_of-takes _ = holds_none _

pub operator-takes : (ts : List Placed) (x : (BinaryOp × Place) × List Placed) → operator ts ≡ Some x → IsOperatorNext ts x
unfolding operator
operator-takes [] = holds_none (IsOperatorNext [])
operator-takes (t ∷ ts) = value_takes operator_of operator_token operator_of-takes t ts

-- ---- strings

is_string-takes : (t : Token) → is_string t ≡ true → (s : List ℕ) × (t ≡ T.Str s)
is_string-takes (T.Str s) e = (s, refl)
is_string-takes _ e = absurd cc

pub string_next-takes : (ts : List Placed) → string_next ts ≡ true → (s : List ℕ) × (p : Place) × (us : List Placed) × (ts ≡ at (T.Str s) p ∷ us)
unfolding string_next
string_next-takes [] e = absurd cc
string_next-takes (t ∷ ts) e = let h = is_string-takes t.token e in (h.0, t.place, ts, ap (λ j. j ∷ ts) (token_is t (T.Str h.0) h.1))

-- ---- the end

is_end-takes : (t : Token) → is_end t ≡ true → t ≡ T.End
is_end-takes T.End e = refl
is_end-takes _ e = absurd cc

pub end-takes : (ts : List Placed) (p : Place) → end ts ≡ Some p → ts ≡ at T.End p ∷ []
unfolding end
end-takes [] = holds_none (λ p. [] ≡ at T.End p ∷ [])
end-takes (t ∷ []) = holds_if (λ p. t ∷ [] ≡ at T.End p ∷ []) (is_end t.token) t.place None (λ e. ap (λ j. j ∷ []) (token_is t T.End (is_end-takes t.token e))) (holds_none _)
end-takes (t ∷ u ∷ ts) = holds_none (λ p. t ∷ u ∷ ts ≡ at T.End p ∷ [])

pub end-again : (p : Place) → end (at T.End p ∷ []) ≡ Some p
unfolding end
end-again p = refl

-- ---- variables

pub is_variable-takes : (text : List ℕ) (t : Token) → is_variable text t ≡ true → t ≡ T.Var text
is_variable-takes text (T.Var x) e = ap T.Var (text_is text x e)
is_variable-takes text _ e = absurd cc

-- ---- forms outside of the profile

-- such a form begins the tokens
pub stands_first : {ts : List Placed} {p : Place} {form : List ℕ} → IsOutside form p [] ts → HasOutside ts p form
stands_first i = record { before = []; rest = _; split = refl; stands = i }

-- or stands behind these tokens
pub stands_after : {rest : List Placed} {p : Place} {form : List ℕ} (before : List Placed) → IsOutside form p before rest → HasOutside (before ++ rest) p form
stands_after before i = record { before = before; rest = _; split = refl; stands = i }

-- an expression ends there: the answer is the expression, with all of the tokens behind it
pub ended-right : {A : Type 0} (x : A) (e : Node ExprKind) (ts : List Placed) → IsExpr 0 e → Right (λ q. q ≡ (x, ts)) (expr_tokens e ++ ts) (ended x ts)
unfolding ended
ended-right x e [] i = right_ok refl
ended-right x e (t ∷ ts) i = right_case (λ n. right_ok refl) (λ form h. right_outside (stands_after (expr_tokens e) (behind_expr form e t.token t.place [] ts i h)))

-- no form outside of the profile goes on with an expression
abbrev pub NoneBehind : List Placed → Type 0
NoneBehind [] = Unit {0}
NoneBehind (t ∷ ts) = outside_behind t.token ≡ None

pub ended-again : {A : Type 0} (x : A) (ts : List Placed) → NoneBehind ts → ended x ts ≡ Ok (x, ts)
unfolding ended
ended-again x [] e = refl
ended-again x (t ∷ ts) e = case_none e (Ok (x, t ∷ ts)) (λ form. outside form t.place)

-- a form outside of the profile stands at this place
abbrev pub StandsIn : List Placed → Place × List ℕ → Type 0
StandsIn ts o = HasOutside ts o.0 o.1

-- what stands behind a pattern, where it is a form outside of the profile
pub outside_next-stands : (q : Node PatternKind) (ts : List Placed) → IsSimplePattern q → Holds (StandsIn (pattern_tokens q ++ ts)) (outside_next ts)
unfolding outside_next
outside_next-stands q [] i = holds_none (StandsIn (pattern_tokens q ++ []))
outside_next-stands q (t ∷ ts) i = by (outside_behind_pattern t.token) (λ form h. stands_after (pattern_tokens q) (behind_pattern form q t.token t.place [] ts i h))
  where
    by : (o : Option (List ℕ)) → Holds (λ form. HasOutside (pattern_tokens q ++ t ∷ ts) t.place form) o → Holds (StandsIn (pattern_tokens q ++ t ∷ ts)) (in_case o None (λ form. Some (t.place, form)))
    by None h = holds_none (StandsIn (pattern_tokens q ++ t ∷ ts))
    by (Some form) h = holds_some (StandsIn (pattern_tokens q ++ t ∷ ts)) (t.place, form) (h form refl)

-- no form outside of the profile stands behind a pattern
pub outside_next-none : (k : Token) (p : Place) (ts : List Placed) → outside_behind_pattern k ≡ None → outside_next (at k p ∷ ts) ≡ None
unfolding outside_next
outside_next-none k p ts e = rw e refl

-- a reserved word that begins no expression and no pattern
pub wrong_word-right : {A : Type 0} {G : A → Type 0} (w : List ℕ) (p : Place) (ts : List Placed) → Right G (at (T.Word w) p ∷ ts) (wrong_word w p)
wrong_word-right w p ts = right_case (λ e. right_fault tt) (λ form e. right_outside (stands_first (by_word form w p [] ts e)))
