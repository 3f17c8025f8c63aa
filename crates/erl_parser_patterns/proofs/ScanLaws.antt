-- What the scan for a mark makes of a pattern's tokens: it goes over them, and stands behind a part then.
use Prim.Native.Nat.compare
use Rattle.std.proofs.Common.{◌≡◌, ℕ, ℤ, zero, suc, true, false, List, [], ◌∷◌, ◌++◌, map, refl, ap, ◌∙◌, inl, inr, append_assoc, append-nil}
use Rattle.std.specs.Prelude.{Some, None, ◌==◌, codes}
use Rattle.erl_tree.specs.Lists.{Among}
use Rattle.erl_tree.specs.declared.token.Place.{Place}
use Rattle.erl_tree.specs.declared.token.Placed.{Placed}
use Rattle.erl_tree.specs.declared.token.Node.{Node}
use Rattle.erl_tree.specs.declared.token.Token.{Token}
use Rattle.erl_tree.specs.declared.token.Token.TheVariants as T
use Rattle.erl_tree.specs.declared.pattern.LiteralKind.{LiteralKind}
use Rattle.erl_tree.specs.declared.pattern.PatternKind.{PatternKind}
use Rattle.erl_tree.specs.declared.pattern.PatternKind.TheVariants as P
use Rattle.erl_grammar.specs.Pieces.{at, own, inner, fill, commas}
use Rattle.erl_grammar.specs.Spelling.{pattern_tokens, literal_tokens, pattern_entry_tokens, pattern_field_tokens}
use Rattle.erl_grammar.specs.Grammar.{node, AreSeparators, IsKey, atom_key, integer_key, negative_key, character_key, IsPattern, one_pattern, alias, IsSimplePattern, atom_pattern, integer_pattern, negative_pattern, character_pattern, string_pattern, variable_pattern, paren_pattern, tuple_pattern, list_pattern, cells_pattern, map_pattern, record_pattern, IsEntry, entry, IsFieldPattern, field_pattern}
use Rattle.erl_grammar.proofs.SpellingLaws.{pattern_shown-Atom, pattern_shown-Int, pattern_shown-NegInt, pattern_shown-Char, pattern_shown-Str, pattern_shown-Var, pattern_shown-Paren, pattern_shown-Tuple, pattern_shown-Cells, pattern_shown-Map, pattern_shown-Rec, pattern_shown-Alias}
use Rattle.erl_parser_tokens.specs.Tokens.{is_mark}
use Rattle.erl_parser_patterns.specs.Scan.{leaf, begins, opens, closes, joins, divides, bracket_sort, mark_sort, sort_of, Scanned, scanned, over, leads, leads_to, number, minus, hash, Context, before_part, after_part, after_minus}
use Rattle.erl_parser_tokens.proofs.TokenLaws.{same_text}
use Rattle.erl_parser_tokens.proofs.PartLaws.{listed, fill-listed}

-- the mark is not looked for at this depth, or is another one than this
abbrev pub Passes : List ℕ → ℕ → Token → Type 0
Passes ending zero t = is_mark ending t ≡ false
Passes ending (suc depth) t = Unit {0}

pub inside : (depth : ℕ) → (suc depth == 0) ≡ false
inside depth = rw compare.suc-zero refl

pub leads_over : (ending : List ℕ) (context : Context) (depth : ℕ) (t : Placed) (ts : List Placed) (s : Scanned) → Passes ending depth t.token → over (sort_of t.token) context depth ≡ Some s → leads ending context depth (t ∷ ts) ≡ leads ending s.context s.depth ts
unfolding leads
leads_over ending context zero t ts s p o = rw (p, o) refl
leads_over ending context (suc depth) t ts s p o = rw (inside depth, o) refl

-- the mark is not looked for at this depth, or is none that begins a pattern
pub record Quiet (ending : List ℕ) (depth : ℕ) : Type 0 where
  pub paren : Passes ending depth (T.Mark (codes "("))
  pub brace : Passes ending depth (T.Mark (codes "{"))
  pub bracket : Passes ending depth (T.Mark (codes "["))
  pub hash : Passes ending depth (T.Mark (codes "#"))
  pub minus : Passes ending depth (T.Mark (codes "-"))

pub quiet_inside : (ending : List ℕ) (depth : ℕ) → Quiet ending (suc depth)
quiet_inside ending depth = record { paren = tt; brace = tt; bracket = tt; hash = tt; minus = tt }

-- the scan goes over these tokens and stands behind a part then
abbrev pub Skips : List ℕ → ℕ → List Placed → Type 0
Skips ending depth us = (ts : List Placed) → leads ending before_part depth (us ++ ts) ≡ leads ending after_part depth ts

pub passes_other : (ending : List ℕ) (depth : ℕ) (k : Token) → is_mark ending k ≡ false → Passes ending depth k
passes_other ending zero k m = m
passes_other ending (suc depth) k m = tt

pub leaf_skips : (ending : List ℕ) (depth : ℕ) (k : Token) (p : Place) (ts : List Placed) → sort_of k ≡ leaf → is_mark ending k ≡ false → leads ending before_part depth (at k p ∷ ts) ≡ leads ending after_part depth ts
leaf_skips ending depth k p ts s m = leads_over ending before_part depth (at k p) ts (scanned after_part depth) (passes_other ending depth k m) (ap (λ z. over z before_part depth) s)

pub number_skips : (ending : List ℕ) (depth : ℕ) (c : Context) (n : ℤ) (p : Place) (ts : List Placed) → leads ending c depth (at (T.Int n) p ∷ ts) ≡ leads ending after_part depth ts
number_skips ending depth c n p ts = leads_over ending c depth (at (T.Int n) p) ts (scanned after_part depth) (passes_other ending depth (T.Int n) refl) refl

-- the sorts of marks
pub comma_sort : mark_sort (codes ",") ≡ divides
unfolding mark_sort bracket_sort
comma_sort = refl

pub bar_sort : mark_sort (codes "|") ≡ divides
unfolding mark_sort bracket_sort
bar_sort = refl

pub exact_sort : mark_sort (codes ":=") ≡ divides
unfolding mark_sort bracket_sort
exact_sort = refl

pub paren_sort : mark_sort (codes "(") ≡ opens
unfolding mark_sort bracket_sort
paren_sort = refl

pub brace_sort : mark_sort (codes "{") ≡ begins
unfolding mark_sort bracket_sort
brace_sort = refl

pub bracket_mark_sort : mark_sort (codes "[") ≡ begins
unfolding mark_sort bracket_sort
bracket_mark_sort = refl

pub close_paren_sort : mark_sort (codes ")") ≡ closes
unfolding mark_sort bracket_sort
close_paren_sort = refl

pub close_brace_sort : mark_sort (codes "}") ≡ closes
unfolding mark_sort bracket_sort
close_brace_sort = refl

pub close_bracket_sort : mark_sort (codes "]") ≡ closes
unfolding mark_sort bracket_sort
close_bracket_sort = refl

pub hash_sort : mark_sort (codes "#") ≡ hash
unfolding mark_sort bracket_sort
hash_sort = refl

pub minus_sort : mark_sort (codes "-") ≡ minus
unfolding mark_sort bracket_sort
minus_sort = refl

pub equals_sort : mark_sort (codes "=") ≡ joins
unfolding mark_sort bracket_sort
equals_sort = refl

-- over marks
pub begins_skips : (ending : List ℕ) (depth : ℕ) (c : Context) (m : List ℕ) (p : Place) (ts : List Placed) → Passes ending depth (T.Mark m) → mark_sort m ≡ begins → over begins c depth ≡ Some (scanned before_part (suc depth)) → leads ending c depth (at (T.Mark m) p ∷ ts) ≡ leads ending before_part (suc depth) ts
begins_skips ending depth c m p ts q s o = leads_over ending c depth (at (T.Mark m) p) ts (scanned before_part (suc depth)) q (ap (λ z. over z c depth) s ∙ o)

pub opens_skips : (ending : List ℕ) (depth : ℕ) (m : List ℕ) (p : Place) (ts : List Placed) → Passes ending depth (T.Mark m) → mark_sort m ≡ opens → leads ending before_part depth (at (T.Mark m) p ∷ ts) ≡ leads ending before_part (suc depth) ts
opens_skips ending depth m p ts q s = leads_over ending before_part depth (at (T.Mark m) p) ts (scanned before_part (suc depth)) q (ap (λ z. over z before_part depth) s)

pub hash_skips : (ending : List ℕ) (depth : ℕ) (p : Place) (ts : List Placed) → Passes ending depth (T.Mark (codes "#")) → leads ending before_part depth (at (T.Mark (codes "#")) p ∷ ts) ≡ leads ending before_part depth ts
hash_skips ending depth p ts q = leads_over ending before_part depth (at (T.Mark (codes "#")) p) ts (scanned before_part depth) q (ap (λ z. over z before_part depth) hash_sort)

-- over a minus sign and the integer behind it
pub negative_skips : (ending : List ℕ) (depth : ℕ) (h p : Place) (n : ℤ) (ts : List Placed) → Passes ending depth (T.Mark (codes "-")) → leads ending before_part depth (at (T.Mark (codes "-")) h ∷ at (T.Int n) p ∷ ts) ≡ leads ending after_part depth ts
negative_skips ending depth h p n ts q = leads_over ending before_part depth (at (T.Mark (codes "-")) h) (at (T.Int n) p ∷ ts) (scanned after_minus depth) q (ap (λ z. over z before_part depth) minus_sort) ∙ number_skips ending depth after_minus n p ts

pub joins_skips : (ending : List ℕ) (depth : ℕ) (m : List ℕ) (p : Place) (ts : List Placed) → Passes ending depth (T.Mark m) → mark_sort m ≡ joins → leads ending after_part depth (at (T.Mark m) p ∷ ts) ≡ leads ending before_part depth ts
joins_skips ending depth m p ts q s = leads_over ending after_part depth (at (T.Mark m) p) ts (scanned before_part depth) q (ap (λ z. over z after_part depth) s)

pub divides_skips : (ending : List ℕ) (depth : ℕ) (m : List ℕ) (p : Place) (ts : List Placed) → mark_sort m ≡ divides → leads ending after_part (suc depth) (at (T.Mark m) p ∷ ts) ≡ leads ending before_part (suc depth) ts
divides_skips ending depth m p ts s = leads_over ending after_part (suc depth) (at (T.Mark m) p) ts (scanned before_part (suc depth)) tt (ap (λ z. over z after_part (suc depth)) s)

pub closes_skips : (ending : List ℕ) (depth : ℕ) (c : Context) (m : List ℕ) (p : Place) (ts : List Placed) → mark_sort m ≡ closes → over closes c (suc depth) ≡ Some (scanned after_part depth) → leads ending c (suc depth) (at (T.Mark m) p ∷ ts) ≡ leads ending after_part depth ts
closes_skips ending depth c m p ts s o = leads_over ending c (suc depth) (at (T.Mark m) p) ts (scanned after_part depth) tt (ap (λ z. over z c (suc depth)) s ∙ o)

-- ---- parts with commas between them

module _ {A : Type 0} (tokens : A → List Placed) (ending : List ℕ) (depth : ℕ) where
  pub listed_skips : (x : A) (xs : List A) (ms : List Place) → AreSeparators (x ∷ xs) ms → ((y : A) → Among y (x ∷ xs) → Skips ending (suc depth) (tokens y)) → Skips ending (suc depth) (listed tokens (T.Mark (codes ",")) (x ∷ xs) ms)
  listed_skips x [] [] g h ts = ap (λ us. leads ending before_part (suc depth) (us ++ ts)) (append-nil (tokens x)) ∙ h x (inl refl) ts
  listed_skips x (y ∷ ys) (m ∷ ms) g h ts =
      let L : List Placed = listed tokens (T.Mark (codes ",")) (y ∷ ys) ms in
      ap (leads ending before_part (suc depth)) (append_assoc (tokens x) (at (T.Mark (codes ",")) m ∷ L) ts) ∙ (h x (inl refl) (at (T.Mark (codes ",")) m ∷ (L ++ ts))
      ∙ (divides_skips ending depth (codes ",") m (L ++ ts) comma_sort ∙ listed_skips y ys ms g (λ z a. h z (inr a)) ts))
  listed_skips x [] (m ∷ ms) g h ts = absurd g
  listed_skips x (y ∷ ys) [] g h ts = absurd g

  -- parts in brackets
  pub closed_skips : (closing : List ℕ) → mark_sort closing ≡ closes → (xs : List A) (ms : List Place) (c : Place) (ts : List Placed) → AreSeparators xs ms → ((y : A) → Among y xs → Skips ending (suc depth) (tokens y))
      → leads ending before_part (suc depth) (fill (commas (map tokens xs) ++ own (T.Mark closing) ∷ []) (ms ++ c ∷ []) ++ ts) ≡ leads ending after_part depth ts
  closed_skips closing s [] [] c ts g h = closes_skips ending depth before_part closing c ts s refl
  closed_skips closing s (x ∷ xs) ms c ts g h =
      ap (λ us. leads ending before_part (suc depth) (us ++ ts)) (fill-listed tokens (T.Mark (codes ",")) (x ∷ xs) ms (own (T.Mark closing) ∷ []) (c ∷ []) g)
      ∙ (ap (leads ending before_part (suc depth)) (append_assoc (listed tokens (T.Mark (codes ",")) (x ∷ xs) ms) (at (T.Mark closing) c ∷ []) ts)
      ∙ (listed_skips x xs ms g h (at (T.Mark closing) c ∷ ts) ∙ closes_skips ending depth after_part closing c ts s refl))
  closed_skips closing s [] (m ∷ ms) c ts g h = absurd g

  -- elements with a tail
  pub tail_skips : (x t : A) (xs : List A) (ms : List Place) (b c : Place) (ts : List Placed) → AreSeparators (x ∷ xs) ms → ((y : A) → Among y (x ∷ xs) → Skips ending (suc depth) (tokens y)) → Skips ending (suc depth) (tokens t)
      → leads ending before_part (suc depth) (fill (commas (map tokens (x ∷ xs)) ++ own (T.Mark (codes "|")) ∷ inner (tokens t) ∷ own (T.Mark (codes "]")) ∷ []) (ms ++ b ∷ c ∷ []) ++ ts) ≡ leads ending after_part depth ts
  tail_skips x t xs ms b c ts g h k =
      let L : List Placed = listed tokens (T.Mark (codes ",")) (x ∷ xs) ms in
      ap (λ us. leads ending before_part (suc depth) (us ++ ts)) (fill-listed tokens (T.Mark (codes ",")) (x ∷ xs) ms (own (T.Mark (codes "|")) ∷ inner (tokens t) ∷ own (T.Mark (codes "]")) ∷ []) (b ∷ c ∷ []) g)
      ∙ (ap (leads ending before_part (suc depth)) (append_assoc L (at (T.Mark (codes "|")) b ∷ (tokens t ++ at (T.Mark (codes "]")) c ∷ [])) ts)
      ∙ (listed_skips x xs ms g h (at (T.Mark (codes "|")) b ∷ ((tokens t ++ at (T.Mark (codes "]")) c ∷ []) ++ ts))
      ∙ (divides_skips ending depth (codes "|") b ((tokens t ++ at (T.Mark (codes "]")) c ∷ []) ++ ts) bar_sort
      ∙ (ap (leads ending before_part (suc depth)) (append_assoc (tokens t) (at (T.Mark (codes "]")) c ∷ []) ts) ∙ (k (at (T.Mark (codes "]")) c ∷ ts) ∙ closes_skips ending depth after_part (codes "]") c ts close_bracket_sort refl)))))

-- ---- keys

key_skips : (ending : List ℕ) (depth : ℕ) (k : Node LiteralKind) → IsKey k → Skips ending (suc depth) (literal_tokens k)
key_skips ending depth _ (atom_key p a) ts = leaf_skips ending (suc depth) (T.Atom a) p ts refl refl
key_skips ending depth _ (integer_key p n) ts = number_skips ending (suc depth) before_part n p ts
key_skips ending depth _ (negative_key h p n) ts = negative_skips ending (suc depth) h p n ts tt
key_skips ending depth _ (character_key p c) ts = leaf_skips ending (suc depth) (T.Char c) p ts refl refl

-- ---- patterns

-- one token, by the equation for the whole's tokens
pub by_leaf : (ending : List ℕ) (depth : ℕ) (k : Token) (p : Place) (us : List Placed) → us ≡ at k p ∷ [] → sort_of k ≡ leaf → is_mark ending k ≡ false → Skips ending depth us
by_leaf ending depth k p us e s m ts = ap (λ l. leads ending before_part depth (l ++ ts)) e ∙ leaf_skips ending depth k p ts s m

mutual
  pub simple_skips : {p : Node PatternKind} → IsSimplePattern p → (ending : List ℕ) (depth : ℕ) → Quiet ending depth → Skips ending depth (pattern_tokens p)
  simple_skips (atom_pattern p a) ending depth q ts = by_leaf ending depth (T.Atom a) p _ (pattern_shown-Atom a (p ∷ [])) refl refl ts
  simple_skips (integer_pattern p n) ending depth q ts = ap (λ l. leads ending before_part depth (l ++ ts)) (pattern_shown-Int n (p ∷ [])) ∙ number_skips ending depth before_part n p ts
  simple_skips (negative_pattern h p n) ending depth q ts = ap (λ l. leads ending before_part depth (l ++ ts)) (pattern_shown-NegInt n (h ∷ p ∷ [])) ∙ negative_skips ending depth h p n ts q.minus
  simple_skips (character_pattern p c) ending depth q ts = by_leaf ending depth (T.Char c) p _ (pattern_shown-Char c (p ∷ [])) refl refl ts
  simple_skips (string_pattern p s) ending depth q ts = by_leaf ending depth (T.Str s) p _ (pattern_shown-Str s (p ∷ [])) refl refl ts
  simple_skips (variable_pattern p x) ending depth q ts = by_leaf ending depth (T.Var x) p _ (pattern_shown-Var x (p ∷ [])) refl refl ts
  simple_skips (paren_pattern o c p i) ending depth q ts = ap (λ l. leads ending before_part depth (l ++ ts)) (pattern_shown-Paren p (o ∷ c ∷ [])) ∙ (opens_skips ending depth (codes "(") o ((pattern_tokens p ++ at (T.Mark (codes ")")) c ∷ []) ++ ts) q.paren paren_sort
      ∙ (ap (leads ending before_part (suc depth)) (append_assoc (pattern_tokens p) (at (T.Mark (codes ")")) c ∷ []) ts) ∙ (inside_skips i ending depth (at (T.Mark (codes ")")) c ∷ ts) ∙ closes_skips ending depth after_part (codes ")") c ts close_paren_sort refl)))
  simple_skips (tuple_pattern o c ms ps g i) ending depth q ts = ap (λ l. leads ending before_part depth (l ++ ts)) (pattern_shown-Tuple ps (o ∷ (ms ++ c ∷ []))) ∙ (begins_skips ending depth before_part (codes "{") o _ q.brace brace_sort refl
      ∙ closed_skips pattern_tokens ending depth (codes "}") close_brace_sort ps ms c ts g (λ p a. inside_skips (i p a) ending depth))
  simple_skips (list_pattern o c ms ps g i) ending depth q ts = ap (λ l. leads ending before_part depth (l ++ ts)) (pattern_shown-Cells ps None (o ∷ (ms ++ c ∷ []))) ∙ (begins_skips ending depth before_part (codes "[") o _ q.bracket bracket_mark_sort refl
      ∙ closed_skips pattern_tokens ending depth (codes "]") close_bracket_sort ps ms c ts g (λ p a. inside_skips (i p a) ending depth))
  simple_skips (cells_pattern o b c ms p t ps g i j) ending depth q ts = ap (λ l. leads ending before_part depth (l ++ ts)) (pattern_shown-Cells (p ∷ ps) (Some t) (o ∷ (ms ++ b ∷ c ∷ []))) ∙ (begins_skips ending depth before_part (codes "[") o _ q.bracket bracket_mark_sort refl
      ∙ tail_skips pattern_tokens ending depth p t ps ms b c ts g (λ p' a. inside_skips (i p' a) ending depth) (inside_skips j ending depth))
  simple_skips (map_pattern h o c ms entries g i) ending depth q ts = ap (λ l. leads ending before_part depth (l ++ ts)) (pattern_shown-Map entries (h ∷ o ∷ (ms ++ c ∷ []))) ∙ (hash_skips ending depth h _ q.hash ∙ (begins_skips ending depth before_part (codes "{") o _ q.brace brace_sort refl
      ∙ closed_skips pattern_entry_tokens ending depth (codes "}") close_brace_sort entries ms c ts g (λ n a. entry_skips (i n a) ending depth)))
  simple_skips (record_pattern h n o c ms name fields g i) ending depth q ts = ap (λ l. leads ending before_part depth (l ++ ts)) (pattern_shown-Rec name name fields (h ∷ n ∷ o ∷ (ms ++ c ∷ []))) ∙ (hash_skips ending depth h _ q.hash ∙ (leaf_skips ending depth (T.Atom name) n _ refl refl
      ∙ (begins_skips ending depth after_part (codes "{") o _ q.brace brace_sort refl ∙ closed_skips pattern_field_tokens ending depth (codes "}") close_brace_sort fields ms c ts g (λ f a. field_skips (i f a) ending depth))))

  -- a pattern in brackets
  pub inside_skips : {p : Node PatternKind} → IsPattern p → (ending : List ℕ) (depth : ℕ) → Skips ending (suc depth) (pattern_tokens p)
  inside_skips (one_pattern p i) ending depth ts = simple_skips i ending (suc depth) (quiet_inside ending depth) ts
  inside_skips (alias p q m i j) ending depth ts = ap (λ l. leads ending before_part (suc depth) (l ++ ts)) (pattern_shown-Alias p q (m ∷ [])) ∙ (ap (leads ending before_part (suc depth)) (append_assoc (pattern_tokens p) (at (T.Mark (codes "=")) m ∷ (pattern_tokens q ++ [])) ts)
      ∙ (simple_skips i ending (suc depth) (quiet_inside ending depth) (at (T.Mark (codes "=")) m ∷ ((pattern_tokens q ++ []) ++ ts)) ∙ (joins_skips ending (suc depth) (codes "=") m ((pattern_tokens q ++ []) ++ ts) tt equals_sort
      ∙ (ap (λ l. leads ending before_part (suc depth) (l ++ ts)) (append-nil (pattern_tokens q)) ∙ inside_skips j ending depth ts))))

  entry_skips : {n : Node (Node LiteralKind × Node PatternKind)} → IsEntry n → (ending : List ℕ) (depth : ℕ) → Skips ending (suc depth) (pattern_entry_tokens n)
  entry_skips (entry k p m i j) ending depth ts = ap (leads ending before_part (suc depth)) (append_assoc (literal_tokens k) (at (T.Mark (codes ":=")) m ∷ (pattern_tokens p ++ [])) ts)
      ∙ (key_skips ending depth k i (at (T.Mark (codes ":=")) m ∷ ((pattern_tokens p ++ []) ++ ts)) ∙ (divides_skips ending depth (codes ":=") m ((pattern_tokens p ++ []) ++ ts) exact_sort
      ∙ (ap (λ l. leads ending before_part (suc depth) (l ++ ts)) (append-nil (pattern_tokens p)) ∙ inside_skips j ending depth ts)))

  field_skips : {f : Node (List ℕ × Node PatternKind)} → IsFieldPattern f → (ending : List ℕ) (depth : ℕ) → Skips ending (suc depth) (pattern_field_tokens f)
  field_skips (field_pattern n m name p i) ending depth ts = leaf_skips ending (suc depth) (T.Atom name) n (at (T.Mark (codes "=")) m ∷ ((pattern_tokens p ++ []) ++ ts)) refl refl
      ∙ (joins_skips ending (suc depth) (codes "=") m ((pattern_tokens p ++ []) ++ ts) tt equals_sort
      ∙ (ap (λ l. leads ending before_part (suc depth) (l ++ ts)) (append-nil (pattern_tokens p)) ∙ inside_skips i ending depth ts))

-- ---- outside of brackets

-- the mark stands there
pub leads-found : (ending : List ℕ) (c : Context) (m : Place) (rest : List Placed) → leads ending c 0 (at (T.Mark ending) m ∷ rest) ≡ true
unfolding leads
leads-found ending c m rest = rw (same_text ending) refl

quiet_equals : Quiet (codes "=") 0
quiet_equals = record { paren = refl; brace = refl; bracket = refl; hash = refl; minus = refl }

quiet_arrow : Quiet (codes "<-") 0
quiet_arrow = record { paren = refl; brace = refl; bracket = refl; hash = refl; minus = refl }

-- the tokens of `P = Q`
pub alias_text : (p q : Node PatternKind) (m : Place) (ts : List Placed) → pattern_tokens (node p.place (m ∷ []) (P.Alias p q)) ++ ts ≡ pattern_tokens p ++ (at (T.Mark (codes "=")) m ∷ (pattern_tokens q ++ ts))
alias_text p q m ts = ap (λ l. l ++ ts) (pattern_shown-Alias p q (m ∷ [])) ∙ (append_assoc (pattern_tokens p) (at (T.Mark (codes "=")) m ∷ (pattern_tokens q ++ [])) ts ∙ ap (λ l. pattern_tokens p ++ (at (T.Mark (codes "=")) m ∷ (l ++ ts))) (append-nil (pattern_tokens q)))

-- the scan for `=` goes over a pattern without one
pub simple_pattern-leads : {p : Node PatternKind} → IsSimplePattern p → (ts : List Placed) → leads_to (codes "=") (pattern_tokens p ++ ts) ≡ leads (codes "=") after_part 0 ts
simple_pattern-leads i ts = simple_skips i (codes "=") 0 quiet_equals ts

-- a pattern and `=` lead to `=`
pub pattern-leads_to_equals : {p : Node PatternKind} → IsPattern p → (m : Place) (rest : List Placed) → leads_to (codes "=") (pattern_tokens p ++ at (T.Mark (codes "=")) m ∷ rest) ≡ true
pattern-leads_to_equals (one_pattern p i) m rest = simple_pattern-leads i (at (T.Mark (codes "=")) m ∷ rest) ∙ leads-found (codes "=") after_part m rest
pattern-leads_to_equals (alias p q n i j) m rest = ap (leads_to (codes "=")) (alias_text p q n (at (T.Mark (codes "=")) m ∷ rest)) ∙ (simple_pattern-leads i (at (T.Mark (codes "=")) n ∷ (pattern_tokens q ++ at (T.Mark (codes "=")) m ∷ rest)) ∙ leads-found (codes "=") after_part n _)

-- the scan for `<-` goes over a pattern
pub pattern-leads : {p : Node PatternKind} → IsPattern p → (ts : List Placed) → leads_to (codes "<-") (pattern_tokens p ++ ts) ≡ leads (codes "<-") after_part 0 ts
pattern-leads (one_pattern p i) ts = simple_skips i (codes "<-") 0 quiet_arrow ts
pattern-leads (alias p q n i j) ts = ap (leads_to (codes "<-")) (alias_text p q n ts) ∙ (simple_skips i (codes "<-") 0 quiet_arrow (at (T.Mark (codes "=")) n ∷ (pattern_tokens q ++ ts)) ∙ (joins_skips (codes "<-") 0 (codes "=") n (pattern_tokens q ++ ts) refl equals_sort ∙ pattern-leads j ts))

-- a pattern and `<-` lead to `<-`
pub pattern-leads_to_arrow : {p : Node PatternKind} → IsPattern p → (m : Place) (rest : List Placed) → leads_to (codes "<-") (pattern_tokens p ++ at (T.Mark (codes "<-")) m ∷ rest) ≡ true
pattern-leads_to_arrow i m rest = pattern-leads i (at (T.Mark (codes "<-")) m ∷ rest) ∙ leads-found (codes "<-") after_part m rest
