-- Over the tokens of a well-formed expression the scan for `=` or `<-` goes on behind it, or meets a token that stands in no pattern.
use Rattle.std.proofs.Common.{◌≡◌, ℕ, ℤ, suc, List, [], ◌∷◌, ◌++◌, map, Bool, true, false, refl, ap, ◌∙◌, inl, inr, append_assoc, append-nil}
use Rattle.std.proofs.Math.Dec.{eqb-suc-zero}
use Rattle.std.specs.Prelude.{◌⊎◌, Some, None, ◌==◌, ◌&&◌, if◌then◌else◌, codes}
use Rattle.std.specs.Str.{bytes_eq}
use Rattle.type_terms.specs.Keys.{Name}
use Rattle.erl_tree.specs.Lists.{Among}
use Rattle.erl_tree.specs.declared.token.Place.{Place}
use Rattle.erl_tree.specs.declared.token.Placed.{Placed}
use Rattle.erl_tree.specs.declared.token.Node.{Node}
use Rattle.erl_tree.specs.declared.token.Token.{Token}
use Rattle.erl_tree.specs.declared.token.Token.TheVariants as T
use Rattle.erl_tree.specs.declared.expr.UnaryOp.{UnaryOp}
use Rattle.erl_tree.specs.declared.expr.UnaryOp.TheVariants as U
use Rattle.erl_tree.specs.declared.expr.BinaryOp.{BinaryOp}
use Rattle.erl_tree.specs.declared.expr.BinaryOp.TheVariants as B
use Rattle.erl_tree.specs.declared.expr.ExprKind.{ExprKind}
use Rattle.erl_tree.specs.declared.expr.ExprKind.TheVariants as X
use Rattle.erl_tree.specs.declared.expr.AssocKind.{AssocKind}
use Rattle.erl_grammar.specs.declared.head.Head.{Head}
use Rattle.erl_grammar.specs.Pieces.{at, Piece, own, inner, fill, mark, commas}
use Rattle.erl_grammar.specs.Operators.{unary_token, operator_token}
use Rattle.erl_grammar.specs.Spelling.{expr_tokens, assoc_tokens, expr_field_tokens, tail_pieces}
use Rattle.erl_grammar.specs.Grammar.{node, AreSeparators, IsExpr, operation, unary, postfix, IsPostfix, atom, integer, character, string, variable, parens, tuple, list, cells, comprehension, call, prefixed_call, variable_applied, parens_applied, new_map, changed_map, new_record, changed_record, record_field, begin_end, case_of, if_end, fun_name, fun_end, try_end, IsAssoc, added, exact, IsField, field}
use Rattle.erl_grammar.proofs.SpellingLaws.{expr_shown-Atom, expr_shown-Int, expr_shown-Char, expr_shown-Str, expr_shown-Var, expr_shown-Paren, expr_shown-Tuple, expr_shown-Cells, expr_shown-Comp, expr_shown-Unary, expr_shown-Binary, expr_shown-Call, expr_shown-Apply, expr_shown-MapNew, expr_shown-MapChange, expr_shown-RecNew, expr_shown-RecChange, expr_shown-RecGet, expr_shown-Begin, expr_shown-Case, expr_shown-If, expr_shown-FunName, expr_shown-Fun, expr_shown-Try, assoc_shown-assoc_of}
use Rattle.erl_parser_tokens.specs.Tokens.{in_case, is_mark}
use Rattle.erl_parser_patterns.specs.Scan.{leaf, begins, closes, joins, divides, alien, bracket_sort, mark_sort, sort_of, over, leads, leads_to, Sort, number, minus, hash, Context, before_part, after_part, after_minus, Scanned, scanned}

-- ---- one token

-- a mark to which a scan leads, which is none of those over which it goes on outside of brackets
pub record IsEnding (ending : List ℕ) : Type 0 where
  pub hash : bytes_eq (codes "#") ending ≡ false
  pub paren : bytes_eq (codes "(") ending ≡ false
  pub brace : bytes_eq (codes "{") ending ≡ false
  pub bracket : bytes_eq (codes "[") ending ≡ false
  pub colon : bytes_eq (codes ":") ending ≡ false
  pub sign : (op : UnaryOp) → is_mark ending (unary_token op) ≡ false
  pub operator : (op : BinaryOp) → is_mark ending (operator_token op) ≡ false

equals_sign : (op : UnaryOp) → is_mark (codes "=") (unary_token op) ≡ false
equals_sign U.Plus = refl
equals_sign U.Minus = refl
equals_sign U.Not = refl

equals_operator : (op : BinaryOp) → is_mark (codes "=") (operator_token op) ≡ false
equals_operator B.Orelse = refl
equals_operator B.Andalso = refl
equals_operator B.Eq = refl
equals_operator B.Ne = refl
equals_operator B.ExactEq = refl
equals_operator B.ExactNe = refl
equals_operator B.Lt = refl
equals_operator B.Gt = refl
equals_operator B.Le = refl
equals_operator B.Ge = refl
equals_operator B.Append = refl
equals_operator B.Add = refl
equals_operator B.Sub = refl
equals_operator B.Or = refl
equals_operator B.Xor = refl
equals_operator B.Mul = refl
equals_operator B.Div = refl
equals_operator B.Rem = refl
equals_operator B.And = refl

arrow_sign : (op : UnaryOp) → is_mark (codes "<-") (unary_token op) ≡ false
arrow_sign U.Plus = refl
arrow_sign U.Minus = refl
arrow_sign U.Not = refl

arrow_operator : (op : BinaryOp) → is_mark (codes "<-") (operator_token op) ≡ false
arrow_operator B.Orelse = refl
arrow_operator B.Andalso = refl
arrow_operator B.Eq = refl
arrow_operator B.Ne = refl
arrow_operator B.ExactEq = refl
arrow_operator B.ExactNe = refl
arrow_operator B.Lt = refl
arrow_operator B.Gt = refl
arrow_operator B.Le = refl
arrow_operator B.Ge = refl
arrow_operator B.Append = refl
arrow_operator B.Add = refl
arrow_operator B.Sub = refl
arrow_operator B.Or = refl
arrow_operator B.Xor = refl
arrow_operator B.Mul = refl
arrow_operator B.Div = refl
arrow_operator B.Rem = refl
arrow_operator B.And = refl

pub equals_ending : IsEnding (codes "=")
equals_ending = record { hash = refl; paren = refl; brace = refl; bracket = refl; colon = refl; sign = equals_sign; operator = equals_operator }

pub arrow_ending : IsEnding (codes "<-")
arrow_ending = record { hash = refl; paren = refl; brace = refl; bracket = refl; colon = refl; sign = arrow_sign; operator = arrow_operator }

-- by a test that fails
if_false : {A : Type 0} {b : Bool} (x y : A) → b ≡ false → (if b then x else y) ≡ y
if_false {b = false} x y e = refl
if_false {b = true} x y e = absurd cc

and_false : (a b : Bool) → b ≡ false → (a && b) ≡ false
and_false true b e = e
and_false false b e = refl

-- over a token that isn't the ending
pub leads-over : (ending : List ℕ) (c : Context) (depth : ℕ) (t : Placed) (ts : List Placed) → is_mark ending t.token ≡ false → leads ending c depth (t ∷ ts) ≡ in_case (over (sort_of t.token) c depth) false (λ s. leads ending s.context s.depth ts)
unfolding leads
leads-over ending c depth t ts e = if_false true (in_case (over (sort_of t.token) c depth) false (λ s. leads ending s.context s.depth ts)) (and_false (depth == 0) (is_mark ending t.token) e)

-- over a token in brackets
pub leads-within : (ending : List ℕ) (c : Context) (depth : ℕ) (t : Placed) (ts : List Placed) → leads ending c (suc depth) (t ∷ ts) ≡ in_case (over (sort_of t.token) c (suc depth)) false (λ s. leads ending s.context s.depth ts)
unfolding leads
leads-within ending c depth t ts = rw (eqb-suc-zero depth) refl

comma_sort : sort_of (T.Mark (codes ",")) ≡ divides
unfolding mark_sort
comma_sort = refl

bar_sort : sort_of (T.Mark (codes "|")) ≡ divides
unfolding mark_sort
bar_sort = refl

exact_sort : sort_of (T.Mark (codes ":=")) ≡ divides
unfolding mark_sort
exact_sort = refl

hash_sort : sort_of (T.Mark (codes "#")) ≡ hash
unfolding mark_sort
hash_sort = refl

equals_sort : sort_of (T.Mark (codes "=")) ≡ joins
unfolding mark_sort
equals_sort = refl

brace_sort : sort_of (T.Mark (codes "{")) ≡ begins
unfolding mark_sort bracket_sort
brace_sort = refl

bracket_sort-open : sort_of (T.Mark (codes "[")) ≡ begins
unfolding mark_sort bracket_sort
bracket_sort-open = refl

paren_closes : sort_of (T.Mark (codes ")")) ≡ closes
unfolding mark_sort bracket_sort
paren_closes = refl

brace_closes : sort_of (T.Mark (codes "}")) ≡ closes
unfolding mark_sort bracket_sort
brace_closes = refl

bracket_closes : sort_of (T.Mark (codes "]")) ≡ closes
unfolding mark_sort bracket_sort
bracket_closes = refl

colon_sort : sort_of (T.Mark (codes ":")) ≡ alien
unfolding mark_sort bracket_sort
colon_sort = refl

bars_sort : sort_of (T.Mark (codes "||")) ≡ alien
unfolding mark_sort bracket_sort
bars_sort = refl

arrow_sort : sort_of (T.Mark (codes "=>")) ≡ alien
unfolding mark_sort bracket_sort
arrow_sort = refl

-- an operator stands in no pattern, between parts, or is a minus sign
operator_sort : (op : BinaryOp) → (sort_of (operator_token op) ≡ alien) ⊎ ((sort_of (operator_token op) ≡ joins) ⊎ (sort_of (operator_token op) ≡ minus))
unfolding mark_sort bracket_sort
operator_sort B.Orelse = inl refl
operator_sort B.Andalso = inl refl
operator_sort B.Eq = inl refl
operator_sort B.Ne = inl refl
operator_sort B.ExactEq = inl refl
operator_sort B.ExactNe = inl refl
operator_sort B.Lt = inl refl
operator_sort B.Gt = inl refl
operator_sort B.Le = inl refl
operator_sort B.Ge = inl refl
operator_sort B.Add = inl refl
operator_sort B.Or = inl refl
operator_sort B.Xor = inl refl
operator_sort B.Mul = inl refl
operator_sort B.Div = inl refl
operator_sort B.Rem = inl refl
operator_sort B.And = inl refl
operator_sort B.Append = inr (inl refl)
operator_sort B.Sub = inr (inr refl)

-- so does a sign, or it is a minus sign
sign_sort : (op : UnaryOp) → (sort_of (unary_token op) ≡ alien) ⊎ (sort_of (unary_token op) ≡ minus)
unfolding mark_sort bracket_sort
sign_sort U.Plus = inl refl
sign_sort U.Minus = inr refl
sign_sort U.Not = inl refl

-- a token that stands in no pattern
over_none : (c : Context) (depth : ℕ) → over alien c depth ≡ None
over_none before_part depth = refl
over_none after_part depth = refl
over_none after_minus depth = refl

-- ---- what the scan finds behind

module _ (ending : List ℕ) (quiet : IsEnding ending) where
  -- the scan from the first tokens finds nothing, or goes on as the second one
  pub data Goes : (found other : Bool) → Type 0 where
    stops : {found other : Bool} → found ≡ false → Goes found other
    goes : {found other : Bool} → found ≡ other → Goes found other

  pub goes_then : {a b c : Bool} → Goes a b → Goes b c → Goes a c
  goes_then (stops e) h = stops e
  goes_then (goes e) (stops f) = stops (e ∙ f)
  goes_then (goes e) (goes f) = goes (e ∙ f)

  goes_from : {a b c : Bool} → a ≡ b → Goes b c → Goes a c
  goes_from e h = goes_then (goes e) h

  -- tokens over which the scan goes, from in front of a part
  abbrev pub Passes : List Placed → Type 0
  Passes ts = (depth : ℕ) (rest : List Placed) → Goes (leads ending before_part depth (ts ++ rest)) (leads ending after_part depth rest)

  -- the same in brackets
  abbrev pub PassesWithin : List Placed → Type 0
  PassesWithin ts = (depth : ℕ) (rest : List Placed) → Goes (leads ending before_part (suc depth) (ts ++ rest)) (leads ending after_part (suc depth) rest)

  -- ---- tokens

  -- what the scan finds behind a token of this sort
  abbrev behind : Sort → Context → ℕ → List Placed → Bool
  behind s c depth rest = in_case (over s c depth) false (λ n. leads ending n.context n.depth rest)

  over_sort : (t : Token) (p : Place) (c : Context) (depth : ℕ) (rest : List Placed) {s : Sort} → is_mark ending t ≡ false → sort_of t ≡ s → leads ending c depth (at t p ∷ rest) ≡ behind s c depth rest
  over_sort t p c depth rest e f = leads-over ending c depth (at t p) rest e ∙ ap (λ s. behind s c depth rest) f

  within_sort : (t : Token) (p : Place) (c : Context) (depth : ℕ) (rest : List Placed) {s : Sort} → sort_of t ≡ s → leads ending c (suc depth) (at t p ∷ rest) ≡ behind s c (suc depth) rest
  within_sort t p c depth rest f = leads-within ending c depth (at t p) rest ∙ ap (λ s. behind s c (suc depth) rest) f

  over_leaf : (t : Token) (p : Place) (depth : ℕ) (rest : List Placed) → is_mark ending t ≡ false → sort_of t ≡ leaf → leads ending before_part depth (at t p ∷ rest) ≡ leads ending after_part depth rest
  over_leaf t p depth rest e f = over_sort t p before_part depth rest e f

  over_number : (n : ℤ) (p : Place) (depth : ℕ) (rest : List Placed) → leads ending before_part depth (at (T.Int n) p ∷ rest) ≡ leads ending after_part depth rest
  over_number n p depth rest = over_sort (T.Int n) p before_part depth rest refl refl

  over_joins : (t : Token) (p : Place) (depth : ℕ) (rest : List Placed) → is_mark ending t ≡ false → sort_of t ≡ joins → leads ending after_part depth (at t p ∷ rest) ≡ leads ending before_part depth rest
  over_joins t p depth rest e f = over_sort t p after_part depth rest e f

  over_begins : (t : Token) (p : Place) (c : Context) (depth : ℕ) (rest : List Placed) → is_mark ending t ≡ false → sort_of t ≡ begins → over begins c depth ≡ Some (scanned before_part (suc depth)) → leads ending c depth (at t p ∷ rest) ≡ leads ending before_part (suc depth) rest
  over_begins t p c depth rest e f o = over_sort t p c depth rest e f ∙ ap (λ s. in_case s false (λ n. leads ending n.context n.depth rest)) o

  over_alien : (t : Token) (p : Place) (c : Context) (depth : ℕ) (rest : List Placed) → is_mark ending t ≡ false → sort_of t ≡ alien → leads ending c depth (at t p ∷ rest) ≡ false
  over_alien t p c depth rest e f = over_sort t p c depth rest e f ∙ ap (λ s. in_case s false (λ n. leads ending n.context n.depth rest)) (over_none c depth)

  over_hash : (p : Place) (depth : ℕ) (rest : List Placed) → leads ending before_part depth (at (T.Mark (codes "#")) p ∷ rest) ≡ leads ending before_part depth rest
  over_hash p depth rest = over_sort (T.Mark (codes "#")) p before_part depth rest quiet.hash hash_sort

  -- `#` behind a part
  over_tail : (p : Place) (depth : ℕ) (rest : List Placed) → leads ending after_part depth (at (T.Mark (codes "#")) p ∷ rest) ≡ false
  over_tail p depth rest = over_sort (T.Mark (codes "#")) p after_part depth rest quiet.hash hash_sort

  over_paren : (p : Place) (depth : ℕ) (rest : List Placed) → leads ending before_part depth (at (T.Mark (codes "(")) p ∷ rest) ≡ leads ending before_part (suc depth) rest
  unfolding mark_sort bracket_sort
  over_paren p depth rest = leads-over ending before_part depth (at (T.Mark (codes "(")) p) rest quiet.paren

  over_call : (p : Place) (depth : ℕ) (rest : List Placed) → leads ending after_part depth (at (T.Mark (codes "(")) p ∷ rest) ≡ false
  unfolding mark_sort bracket_sort
  over_call p depth rest = leads-over ending after_part depth (at (T.Mark (codes "(")) p) rest quiet.paren

  over_close : (t : Token) (p : Place) (c : Context) (depth : ℕ) (rest : List Placed) → sort_of t ≡ closes → over closes c (suc depth) ≡ Some (scanned after_part depth) → leads ending c (suc depth) (at t p ∷ rest) ≡ leads ending after_part depth rest
  over_close t p c depth rest f o = within_sort t p c depth rest f ∙ ap (λ s. in_case s false (λ n. leads ending n.context n.depth rest)) o

  over_divides : (t : Token) (p : Place) (depth : ℕ) (rest : List Placed) → sort_of t ≡ divides → leads ending after_part (suc depth) (at t p ∷ rest) ≡ leads ending before_part (suc depth) rest
  over_divides t p depth rest f = within_sort t p after_part depth rest f

  within_alien : (t : Token) (p : Place) (depth : ℕ) (rest : List Placed) → sort_of t ≡ alien → leads ending after_part (suc depth) (at t p ∷ rest) ≡ false
  within_alien t p depth rest f = within_sort t p after_part depth rest f

  within_joins : (t : Token) (p : Place) (depth : ℕ) (rest : List Placed) → sort_of t ≡ joins → leads ending after_part (suc depth) (at t p ∷ rest) ≡ leads ending before_part (suc depth) rest
  within_joins t p depth rest f = within_sort t p after_part depth rest f

  -- behind a minus sign the scan goes on as in front of a part, or stops
  signed : (test : Bool) (s : Sort) (depth : ℕ) (next : Scanned → Bool) → Goes (if test then true else in_case (over s after_minus depth) false next) (if test then true else in_case (over s before_part depth) false next)
  signed true s depth next = goes refl
  signed false number depth next = goes refl
  signed false _ depth next = stops refl

  after_sign : (depth : ℕ) (ts : List Placed) → Goes (leads ending after_minus depth ts) (leads ending before_part depth ts)
  unfolding leads
  after_sign depth [] = goes refl
  after_sign depth (t ∷ ts) = signed ((depth == 0) && is_mark ending t.token) (sort_of t.token) depth (λ n. leads ending n.context n.depth ts)

  -- ---- lists of parts, in brackets

  -- parts with commas between them, from in front of a part, and what closes them
  passes_parts : {A : Type 0} (tokens : A → List Placed) (x : A) (xs : List A) (ms : List Place) (close : List Piece) (cs : List Place) → ((y : A) → Among y (x ∷ xs) → PassesWithin (tokens y)) → AreSeparators (x ∷ xs) ms
      → (depth : ℕ) (rest : List Placed) → Goes (leads ending before_part (suc depth) (fill (commas (map tokens (x ∷ xs)) ++ close) (ms ++ cs) ++ rest)) (leads ending after_part (suc depth) (fill close cs ++ rest))
  passes_parts tokens x [] [] close cs h g depth rest = goes_from (ap (leads ending before_part (suc depth)) (append_assoc (tokens x) (fill close cs) rest)) (h x (inl refl) depth (fill close cs ++ rest))
  passes_parts tokens x [] (m ∷ ms) close cs h g depth rest = absurd g
  passes_parts tokens x (y ∷ ys) [] close cs h g depth rest = absurd g
  passes_parts tokens x (y ∷ ys) (m ∷ ms) close cs h g depth rest =
      let others : List Placed = fill (commas (map tokens (y ∷ ys)) ++ close) (ms ++ cs) in
      goes_from (ap (leads ending before_part (suc depth)) (append_assoc (tokens x) (at (T.Mark (codes ",")) m ∷ others) rest))
      (goes_then (h x (inl refl) depth (at (T.Mark (codes ",")) m ∷ (others ++ rest)))
      (goes_from (over_divides (T.Mark (codes ",")) m depth (others ++ rest) comma_sort)
      (passes_parts tokens y ys ms close cs (λ z i. h z (inr i)) g depth rest)))

  -- a closing bracket behind a part
  abbrev IsClose : List ℕ → Type 0
  IsClose text = sort_of (T.Mark text) ≡ closes

  -- parts or none, and the closing bracket
  passes_closed : {A : Type 0} (tokens : A → List Placed) (xs : List A) (ms : List Place) (text : List ℕ) (c : Place) → IsClose text → ((y : A) → Among y xs → PassesWithin (tokens y)) → AreSeparators xs ms
      → (depth : ℕ) (rest : List Placed) → Goes (leads ending before_part (suc depth) (fill (commas (map tokens xs) ++ mark text ∷ []) (ms ++ c ∷ []) ++ rest)) (leads ending after_part depth rest)
  passes_closed tokens [] [] text c k h g depth rest = goes (over_close (T.Mark text) c before_part depth rest k refl)
  passes_closed tokens [] (m ∷ ms) text c k h g depth rest = absurd g
  passes_closed tokens (x ∷ xs) ms text c k h g depth rest = goes_then (passes_parts tokens x xs ms (mark text ∷ []) (c ∷ []) h g depth rest) (goes (over_close (T.Mark text) c after_part depth rest k refl))

  -- a list's tail, and the closing bracket
  passes_tail : (t : Node ExprKind) (b c : Place) → PassesWithin (expr_tokens t) → (depth : ℕ) (rest : List Placed) → Goes (leads ending after_part (suc depth) (fill (tail_pieces expr_tokens (Some t)) (b ∷ c ∷ []) ++ rest)) (leads ending after_part depth rest)
  passes_tail t b c h depth rest =
      goes_from (over_divides (T.Mark (codes "|")) b depth _ bar_sort)
      (goes_from (ap (leads ending before_part (suc depth)) (append_assoc (expr_tokens t) (at (T.Mark (codes "]")) c ∷ []) rest))
      (goes_then (h depth (at (T.Mark (codes "]")) c ∷ rest)) (goes (over_close (T.Mark (codes "]")) c after_part depth rest bracket_closes refl))))

  -- ---- operators

  -- an operator stops the scan, or leads to a part
  over_operator : (t : Token) (m : Place) (depth : ℕ) (rest : List Placed) → is_mark ending t ≡ false → (sort_of t ≡ alien) ⊎ ((sort_of t ≡ joins) ⊎ (sort_of t ≡ minus)) → Goes (leads ending after_part depth (at t m ∷ rest)) (leads ending before_part depth rest)
  over_operator t m depth rest e (inl s) = stops (over_alien t m after_part depth rest e s)
  over_operator t m depth rest e (inr (inl s)) = goes (over_joins t m depth rest e s)
  over_operator t m depth rest e (inr (inr s)) = stops (over_sort t m after_part depth rest e s)

  -- and so does a sign
  over_sign : (t : Token) (m : Place) (depth : ℕ) (rest : List Placed) → is_mark ending t ≡ false → (sort_of t ≡ alien) ⊎ (sort_of t ≡ minus) → Goes (leads ending before_part depth (at t m ∷ rest)) (leads ending before_part depth rest)
  over_sign t m depth rest e (inl s) = stops (over_alien t m before_part depth rest e s)
  over_sign t m depth rest e (inr s) = goes_from (over_sort t m before_part depth rest e s) (after_sign depth rest)

  -- ---- expressions

  word_stops : (text : List ℕ) (p : Place) (depth : ℕ) (rest ts : List Placed) {other : Bool} → ts ≡ at (T.Word text) p ∷ rest → Goes (leads ending before_part depth ts) other
  word_stops text p depth rest ts e = stops (ap (leads ending before_part depth) e ∙ over_alien (T.Word text) p before_part depth rest refl refl)

  leaf_passes : (t : Token) (p : Place) → is_mark ending t ≡ false → sort_of t ≡ leaf → (ts : List Placed) → ts ≡ at t p ∷ [] → Passes ts
  leaf_passes t p e f ts g depth rest = goes (ap (λ us. leads ending before_part depth (us ++ rest)) g ∙ over_leaf t p depth rest e f)

  number_passes : (n : ℤ) (p : Place) (ts : List Placed) → ts ≡ at (T.Int n) p ∷ [] → Passes ts
  number_passes n p ts g depth rest = goes (ap (λ us. leads ending before_part depth (us ++ rest)) g ∙ over_number n p depth rest)

  within : (ts : List Placed) → Passes ts → PassesWithin ts
  within ts h depth rest = h (suc depth) rest

  -- `{ .. }` and `[ .. ]`, whose parts pass
  bracket_passes : {A : Type 0} (tokens : A → List Placed) (xs : List A) (ms : List Place) (opening closing : List ℕ) (o c : Place) → bytes_eq opening ending ≡ false → sort_of (T.Mark opening) ≡ begins → IsClose closing → ((y : A) → Among y xs → Passes (tokens y)) → AreSeparators xs ms
      → (depth : ℕ) (rest : List Placed) → Goes (leads ending before_part depth (at (T.Mark opening) o ∷ (fill (commas (map tokens xs) ++ mark closing ∷ []) (ms ++ c ∷ []) ++ rest))) (leads ending after_part depth rest)
  bracket_passes tokens xs ms opening closing o c e f k h g depth rest =
      goes_from (over_begins (T.Mark opening) o before_part depth _ e f refl) (passes_closed tokens xs ms closing c k (λ y i. within (tokens y) (h y i)) g depth rest)

  -- `#{ .. }`
  map_passes : (assocs : List (Node AssocKind)) (h o c : Place) (ms : List Place) → ((a : Node AssocKind) → Among a assocs → PassesWithin (assoc_tokens a)) → AreSeparators assocs ms
      → (depth : ℕ) (rest : List Placed) → Goes (leads ending before_part depth (at (T.Mark (codes "#")) h ∷ at (T.Mark (codes "{")) o ∷ (fill (commas (map assoc_tokens assocs) ++ mark (codes "}") ∷ []) (ms ++ c ∷ []) ++ rest))) (leads ending after_part depth rest)
  map_passes assocs h o c ms k g depth rest =
      goes_from (over_hash h depth _)
      (goes_from (over_begins (T.Mark (codes "{")) o before_part depth _ quiet.brace brace_sort refl)
      (passes_closed assoc_tokens assocs ms (codes "}") c brace_closes k g depth rest))

  -- `#name{ .. }`
  record_passes : (name : Name) (fields : List (Node (Name × Node ExprKind))) (h n o c : Place) (ms : List Place) → ((f : Node (Name × Node ExprKind)) → Among f fields → PassesWithin (expr_field_tokens f)) → AreSeparators fields ms
      → (depth : ℕ) (rest : List Placed) → Goes (leads ending before_part depth (at (T.Mark (codes "#")) h ∷ at (T.Atom name) n ∷ at (T.Mark (codes "{")) o ∷ (fill (commas (map expr_field_tokens fields) ++ mark (codes "}") ∷ []) (ms ++ c ∷ []) ++ rest))) (leads ending after_part depth rest)
  record_passes name fields h n o c ms k g depth rest =
      goes_from (over_hash h depth _)
      (goes_from (over_leaf (T.Atom name) n depth _ refl refl)
      (goes_from (over_begins (T.Mark (codes "{")) o after_part depth _ quiet.brace brace_sort refl)
      (passes_closed expr_field_tokens fields ms (codes "}") c brace_closes k g depth rest)))

  -- the tokens are these, of which the first ones pass
  front_passes : (ts us vs : List Placed) (depth : ℕ) (rest : List Placed) {other : Bool} → ts ≡ us ++ vs → Passes us → Goes (leads ending after_part depth (vs ++ rest)) other → Goes (leads ending before_part depth (ts ++ rest)) other
  front_passes ts us vs depth rest e h g = goes_from (ap (λ l. leads ending before_part depth (l ++ rest)) e ∙ ap (leads ending before_part depth) (append_assoc us vs rest)) (goes_then (h depth (vs ++ rest)) g)

  from_tokens : {ts us : List Placed} (depth : ℕ) (rest : List Placed) {other : Bool} → ts ≡ us → Goes (leads ending before_part depth (us ++ rest)) other → Goes (leads ending before_part depth (ts ++ rest)) other
  from_tokens depth rest e g = goes_from (ap (λ l. leads ending before_part depth (l ++ rest)) e) g

  variable_passes : (p : Place) (x : Name) → Passes (expr_tokens (node p (p ∷ []) (X.Var x)))
  variable_passes p x = leaf_passes (T.Var x) p refl refl _ (expr_shown-Var x (p ∷ []))

  parens_passes : (o c : Place) (e : Node ExprKind) → Passes (expr_tokens e) → Passes (expr_tokens (node o (o ∷ c ∷ []) (X.Paren e)))
  parens_passes o c e h depth rest =
      from_tokens depth rest (expr_shown-Paren e (o ∷ c ∷ []))
      (goes_from (over_paren o depth _)
      (goes_from (ap (leads ending before_part (suc depth)) (append_assoc (expr_tokens e) (at (T.Mark (codes ")")) c ∷ []) rest))
      (goes_then (h (suc depth) (at (T.Mark (codes ")")) c ∷ rest)) (goes (over_close (T.Mark (codes ")")) c after_part depth rest paren_closes refl)))))

  mutual
    pub expr_passes : {least : ℕ} {e : Node ExprKind} → IsExpr least e → Passes (expr_tokens e)
    expr_passes (operation least op a b m l h k) depth rest =
        front_passes _ (expr_tokens a) (fill (own (operator_token op) ∷ inner (expr_tokens b) ∷ []) (m ∷ [])) depth rest (expr_shown-Binary op a b (m ∷ [])) (expr_passes h)
        (goes_then (over_operator (operator_token op) m depth _ (quiet.operator op) (operator_sort op))
        (goes_from (ap (λ ts. leads ending before_part depth (ts ++ rest)) (append-nil (expr_tokens b))) (expr_passes k depth rest)))
    expr_passes (unary least op p e l h) depth rest =
        from_tokens depth rest (expr_shown-Unary op e (p ∷ []))
        (goes_then (over_sign (unary_token op) p depth _ (quiet.sign op) (sign_sort op))
        (goes_from (ap (λ ts. leads ending before_part depth (ts ++ rest)) (append-nil (expr_tokens e))) (expr_passes h depth rest)))
    expr_passes (postfix least head e h) depth rest = postfix_passes h depth rest

    pub postfix_passes : {head : Head} {e : Node ExprKind} → IsPostfix head e → Passes (expr_tokens e)
    postfix_passes (atom p a) depth rest = leaf_passes (T.Atom a) p refl refl _ (expr_shown-Atom a (p ∷ [])) depth rest
    postfix_passes (integer p n) depth rest = number_passes n p _ (expr_shown-Int n (p ∷ [])) depth rest
    postfix_passes (character p c) depth rest = leaf_passes (T.Char c) p refl refl _ (expr_shown-Char c (p ∷ [])) depth rest
    postfix_passes (string p s) depth rest = leaf_passes (T.Str s) p refl refl _ (expr_shown-Str s (p ∷ [])) depth rest
    postfix_passes (variable p x) depth rest = variable_passes p x depth rest
    postfix_passes (parens o c e h) depth rest = parens_passes o c e (expr_passes h) depth rest
    postfix_passes (tuple o c ms es g h) depth rest =
        from_tokens depth rest (expr_shown-Tuple es _) (bracket_passes expr_tokens es ms (codes "{") (codes "}") o c quiet.brace brace_sort brace_closes (λ y i. expr_passes (h y i)) g depth rest)
    postfix_passes (list o c ms es g h) depth rest =
        from_tokens depth rest (expr_shown-Cells es None _) (bracket_passes expr_tokens es ms (codes "[") (codes "]") o c quiet.bracket bracket_sort-open bracket_closes (λ y i. expr_passes (h y i)) g depth rest)
    postfix_passes (cells o b c ms e t es g h k) depth rest =
        from_tokens depth rest (expr_shown-Cells (e ∷ es) (Some t) _)
        (goes_from (over_begins (T.Mark (codes "[")) o before_part depth _ quiet.bracket bracket_sort-open refl)
        (goes_then (passes_parts expr_tokens e es ms (tail_pieces expr_tokens (Some t)) (b ∷ c ∷ []) (λ y i. within (expr_tokens y) (expr_passes (h y i))) g depth rest)
        (passes_tail t b c (within (expr_tokens t) (expr_passes k)) depth rest)))
    postfix_passes (comprehension o b c ms e q qs h g k) depth rest =
        from_tokens depth rest (expr_shown-Comp e (q ∷ qs) _)
        (goes_from (over_begins (T.Mark (codes "[")) o before_part depth _ quiet.bracket bracket_sort-open refl)
        (goes_from (ap (leads ending before_part (suc depth)) (append_assoc (expr_tokens e) _ rest))
        (goes_then (expr_passes h (suc depth) _) (stops (within_alien (T.Mark (codes "||")) b depth _ bars_sort)))))
    postfix_passes (call n o c ms name args i g h) depth rest =
        from_tokens depth rest (expr_shown-Call None name args _) (goes_from (over_leaf (T.Atom name) n depth _ refl refl) (stops (over_call o depth _)))
    postfix_passes (prefixed_call p d n o c ms name args i g h) depth rest =
        from_tokens depth rest (expr_shown-Call (Some (codes "erlang")) name args _) (goes_from (over_leaf (T.Atom (codes "erlang")) p depth _ refl refl) (stops (over_alien (T.Mark (codes ":")) d after_part depth _ quiet.colon colon_sort)))
    postfix_passes (variable_applied p o c ms x args g h) depth rest =
        front_passes _ (expr_tokens (node p (p ∷ []) (X.Var x))) _ depth rest (expr_shown-Apply (node p (p ∷ []) (X.Var x)) args _) (variable_passes p x) (stops (over_call o depth _))
    postfix_passes (parens_applied p q o c ms f args k g h) depth rest =
        front_passes _ (expr_tokens (node p (p ∷ q ∷ []) (X.Paren f))) _ depth rest (expr_shown-Apply (node p (p ∷ q ∷ []) (X.Paren f)) args _) (parens_passes p q f (expr_passes k)) (stops (over_call o depth _))
    postfix_passes (new_map h o c ms assocs g k) depth rest =
        from_tokens depth rest (expr_shown-MapNew assocs _) (map_passes assocs h o c ms (λ a i. assoc_passes (k a i)) g depth rest)
    postfix_passes (changed_map head h o c ms e assocs t k g r) depth rest =
        front_passes _ (expr_tokens e) _ depth rest (expr_shown-MapChange e assocs _) (postfix_passes k) (stops (over_tail h depth _))
    postfix_passes (new_record h n o c ms name fields g k) depth rest =
        from_tokens depth rest (expr_shown-RecNew name name fields _) (record_passes name fields h n o c ms (λ f i. field_passes (k f i)) g depth rest)
    postfix_passes (changed_record head h n o c ms e name fields t k g r) depth rest =
        front_passes _ (expr_tokens e) _ depth rest (expr_shown-RecChange e name name fields _) (postfix_passes k) (stops (over_tail h depth _))
    postfix_passes (record_field head h n d f e name chosen t k) depth rest =
        front_passes _ (expr_tokens e) _ depth rest (expr_shown-RecGet e name name chosen _) (postfix_passes k) (stops (over_tail h depth _))
    postfix_passes (begin_end b e ms i is g h) depth rest = from_tokens depth rest (expr_shown-Begin (i ∷ is) _) (word_stops (codes "begin") b depth _ _ refl)
    postfix_passes (case_of p o e ms subject c cs h g k) depth rest = from_tokens depth rest (expr_shown-Case subject (c ∷ cs) _) (word_stops (codes "case") p depth _ _ refl)
    postfix_passes (if_end p e ms c cs g k) depth rest = from_tokens depth rest (expr_shown-If (c ∷ cs) _) (word_stops (codes "if") p depth _ _ refl)
    postfix_passes (fun_name p n s a name arity) depth rest = from_tokens depth rest (expr_shown-FunName name arity _) (word_stops (codes "fun") p depth _ _ refl)
    postfix_passes (fun_end p e ms c cs g k) depth rest = from_tokens depth rest (expr_shown-Fun (c ∷ cs) _) (word_stops (codes "fun") p depth _ _ refl)
    postfix_passes (try_end p e ms os cs ns i body of_clauses catches after g h j k l q r t x) depth rest = from_tokens depth rest (expr_shown-Try (i ∷ body) of_clauses catches after _) (word_stops (codes "try") p depth _ _ refl)

    assoc_passes : {may_be_exact : Bool} {a : Node AssocKind} → IsAssoc may_be_exact a → PassesWithin (assoc_tokens a)
    assoc_passes (added may_be_exact k v m h g) depth rest =
        front_passes _ (expr_tokens k) _ (suc depth) rest (assoc_shown-assoc_of k false v (m ∷ [])) (expr_passes h) (stops (within_alien (T.Mark (codes "=>")) m depth _ arrow_sort))
    assoc_passes (exact k v m h g) depth rest =
        front_passes _ (expr_tokens k) _ (suc depth) rest (assoc_shown-assoc_of k true v (m ∷ [])) (expr_passes h)
        (goes_from (over_divides (T.Mark (codes ":=")) m depth _ exact_sort)
        (goes_from (ap (λ ts. leads ending before_part (suc depth) (ts ++ rest)) (append-nil (expr_tokens v))) (expr_passes g (suc depth) rest)))

    field_passes : {f : Node (Name × Node ExprKind)} → IsField f → PassesWithin (expr_field_tokens f)
    field_passes (field n m name e h) depth rest =
        goes_from (leads-within ending before_part depth (at (T.Atom name) n) _)
        (goes_from (within_joins (T.Mark (codes "=")) m depth _ equals_sort)
        (goes_from (ap (λ ts. leads ending before_part (suc depth) (ts ++ rest)) (append-nil (expr_tokens e))) (expr_passes h (suc depth) rest)))

-- ---- an expression leads to no `=` and no `<-`

no_ending : {found other : Bool} (ending : List ℕ) (quiet : IsEnding ending) → Goes ending quiet found other → other ≡ false → found ≡ false
no_ending ending quiet (stops e) f = e
no_ending ending quiet (goes e) f = e ∙ f

pub no_equals_in : {least : ℕ} (e : Node ExprKind) (rest : List Placed) → IsExpr least e → leads (codes "=") after_part 0 rest ≡ false → leads_to (codes "=") (expr_tokens e ++ rest) ≡ false
no_equals_in e rest h f = no_ending (codes "=") equals_ending (expr_passes (codes "=") equals_ending h 0 rest) f

pub no_arrow_in : {least : ℕ} (e : Node ExprKind) (rest : List Placed) → IsExpr least e → leads (codes "<-") after_part 0 rest ≡ false → leads_to (codes "<-") (expr_tokens e ++ rest) ≡ false
no_arrow_in e rest h f = no_ending (codes "<-") arrow_ending (expr_passes (codes "<-") arrow_ending h 0 rest) f
