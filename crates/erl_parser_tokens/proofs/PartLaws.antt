-- Parts with marks between them, cells of lists and fields of records: what is read of the whole, from what is read of each part.
use Rattle.std.proofs.Common.{◌≡◌, ℕ, zero, suc, ◌+◌, ◌-◌, ◌≤◌, ◌<◌, Bool, true, false, ◌&&◌, List, [], ◌∷◌, ◌++◌, map, length, refl, ap, sym, ◌∙◌, subst, inl, inr, append_assoc, append-nil, length-append, le_trans, arith}
use Rattle.std.specs.Prelude.{Option, Some, None, Ok, Err, codes}
use Rattle.erl_tree.specs.Lists.{Among}
use Rattle.erl_tree.specs.declared.token.Place.{Place}
use Rattle.erl_tree.specs.declared.token.Placed.{Placed}
use Rattle.erl_tree.specs.declared.token.Node.{Node}
use Rattle.erl_tree.specs.declared.token.Token.{Token}
use Rattle.erl_tree.specs.declared.token.Token.TheVariants as T
use Rattle.erl_grammar.specs.Pieces.{at, Piece, own, inner, fill, separated, commas}
use Rattle.erl_grammar.specs.Spelling.{field_tokens, tail_pieces}
use Rattle.erl_grammar.specs.Nesting.{Deep, deep_all, deep_optional, deep_second, deep_cells, fewer}
use Rattle.erl_grammar.specs.Grammar.{node, AreSeparators}
use Rattle.erl_parser_tokens.specs.declared.height.Height.{Height}
use Rattle.erl_parser_tokens.specs.declared.height.Measured.{Measured}
use Rattle.erl_parser_tokens.specs.declared.fault.ParseFault.TheVariants as faults
use Rattle.erl_parser_tokens.specs.Heights.{flat, higher, raised, measured}
use Rattle.erl_parser_tokens.specs.Tokens.{Answer, Reads, ◌>>=◌, first_place, expect, mark}
use Rattle.erl_parser_tokens.specs.Parts.{Several, no_parts, with_part, with_mark, read_several, read_parts, read_closed, Cells, cells_of, with_element, close_cells, read_cells, is_wildcard_field, read_field}
use Rattle.erl_parser_tokens.specs.Outside.{HasOutside, record_wildcard}
use Rattle.erl_parser_tokens.proofs.Right.{Measures, Read}
use Rattle.erl_parser_tokens.proofs.HeightLaws.{among_front, among_behind, measures_as, nothing_measured, both_measured, raised_measured, fewer-sub, higher_within, raised_within}
use Rattle.erl_parser_tokens.proofs.Then.{behind_token, behind_part, behind_behind, Right, right_ok, right_fault, right_outside, right_as, right_behind, right_then, right_next, right_case, right_if, IsRead, Again, again_ok, again_deep, again_as, again_from, again_then, again_step, again_none, again_some, IsPart, IsDeep, again_read}
use Rattle.erl_parser_tokens.proofs.TokenLaws.{is_mark-takes, is_variable-takes, token_is, stands_first, IsMarkNext, mark-again, mark-takes, expect_mark, expect_mark-again, expect_atom, expect_atom-again}

-- ---- tokens of parts with a token between two of them

-- a token in front of each part
abbrev pub each_behind : Token → List (List Placed) → List Piece
each_behind t [] = []
each_behind t (x ∷ xs) = own t ∷ inner x ∷ each_behind t xs

pub separated-each_behind : (t : Token) (x : List Placed) (xs : List (List Placed)) → separated t (x ∷ xs) ≡ inner x ∷ each_behind t xs
separated-each_behind t x [] = refl
separated-each_behind t x (y ∷ ys) = ap (λ ps. inner x ∷ own t ∷ ps) (separated-each_behind t y ys)

module _ {A : Type 0} (tokens : A → List Placed) (t : Token) where
  -- the parts with the token between two of them
  abbrev pub listed : List A → List Place → List Placed
  listed xs ms = fill (separated t (map tokens xs)) ms

  pub fill-listed : (xs : List A) (ms : List Place) (ps : List Piece) (ns : List Place) → AreSeparators xs ms → fill (separated t (map tokens xs) ++ ps) (ms ++ ns) ≡ listed xs ms ++ fill ps ns
  fill-listed [] [] ps ns g = refl
  fill-listed (x ∷ []) [] ps ns g = ap (λ l. l ++ fill ps ns) (sym (append-nil (tokens x)))
  fill-listed (x ∷ y ∷ ys) (m ∷ ms) ps ns g = ap (λ l. tokens x ++ (at t m ∷ l)) (fill-listed (y ∷ ys) ms ps ns g) ∙ sym (append_assoc (tokens x) (at t m ∷ listed (y ∷ ys) ms) (fill ps ns))
  fill-listed _ _ ps ns g = absurd g

-- ---- parts with marks between them: what is read is right

-- parts were read, with this mark between two of them, at least one
pub record AreRead {A : Type 0} (Is : A → Type 0) (tokens : A → List Placed) (deep : A → Deep) (levels : ℕ) (separator : List ℕ) (ts : List Placed) (q : Several A × List Placed) : Type 0 where
  pub first : A
  pub others : List A
  pub items : q.0.items ≡ first ∷ others
  pub formed : (x : A) → Among x q.0.items → Is x
  pub gaps : AreSeparators q.0.items q.0.marks
  pub takes : ts ≡ listed tokens (T.Mark separator) q.0.items q.0.marks ++ q.1
  pub measures : Measures (deep_all deep q.0.items) q.0.height
  pub within : q.0.height.depth ≤ levels

-- parts were read, or none, and their closing mark
pub record AreClosed {A : Type 0} (Is : A → Type 0) (tokens : A → List Placed) (deep : A → Deep) (levels : ℕ) (closing : List ℕ) (ts : List Placed) (q : Several A × List Placed) : Type 0 where
  pub between : List Place
  pub close : Place
  pub marks : q.0.marks ≡ between ++ close ∷ []
  pub formed : (x : A) → Among x q.0.items → Is x
  pub gaps : AreSeparators q.0.items between
  pub takes : ts ≡ fill (commas (map tokens q.0.items) ++ own (T.Mark closing) ∷ []) q.0.marks ++ q.1
  pub measures : Measures (deep_all deep q.0.items) q.0.height
  pub within : q.0.height.depth ≤ levels

-- parts, with marks and a height
abbrev pub several : {A : Type 0} → List A → List Place → Height → Several A
several xs ms h = record { items = xs; marks = ms; height = h }

-- each is well formed, where the first is and each of the others
pub either : {A : Type 0} (Is : A → Type 0) (x : A) (xs : List A) (y : A) → Among y (x ∷ xs) → Is x → ((z : A) → Among z xs → Is z) → Is y
either Is x xs y (inl e) h k = subst Is (sym e) h
either Is x xs y (inr a) h k = k y a

module _ {A : Type 0} (Is : A → Type 0) (tokens : A → List Placed) (deep : A → Deep) (levels : ℕ) (inner : Reads (Measured A)) (inner-right : (ts : List Placed) → Right (IsRead Is tokens deep levels ts) ts (inner ts)) where
  -- more parts were read, behind those that were
  pub record MoreRead (separator : List ℕ) (s : Several A) (ts : List Placed) (q : Several A × List Placed) : Type 0 where
    pub first : A
    pub others : List A
    pub between : List Place
    pub items : q.0.items ≡ s.items ++ first ∷ others
    pub marks : q.0.marks ≡ s.marks ++ between
    pub formed : (x : A) → Among x (first ∷ others) → Is x
    pub gaps : AreSeparators (first ∷ others) between
    pub takes : ts ≡ listed tokens (T.Mark separator) (first ∷ others) between ++ q.1
    pub measures : (f : Deep) → Measures f s.height → Measures (λ n. f n ++ deep_all deep (first ∷ others) n) q.0.height
    pub within : s.height.depth ≤ levels → q.0.height.depth ≤ levels

  one_read : (separator : List ℕ) (s : Several A) (ts : List Placed) (x : Measured A) (rest : List Placed) → Read Is tokens deep levels ts x rest → MoreRead separator s ts (with_part s x, rest)
  one_read separator s ts x rest h = record {
    first = x.tree;
    others = [];
    between = [];
    items = refl;
    marks = sym (append-nil s.marks);
    formed = λ y a. either Is x.tree [] y a h.formed (λ z b. elim b [ ]);
    gaps = tt;
    takes = h.takes ∙ ap (λ l. l ++ rest) (sym (append-nil (tokens x.tree)));
    measures = λ f m. measures_as (λ n. ap (λ l. f n ++ l) (append-nil (deep x.tree n))) (both_measured m h.measures);
    within = λ l. higher_within s.height x.height levels l h.within;
  }

  one_more : (separator : List ℕ) (s : Several A) (ts : List Placed) (x : Measured A) (us : List Placed) (m : Place) (vs : List Placed) (q : Several A × List Placed) → Read Is tokens deep levels ts x us → us ≡ at (T.Mark separator) m ∷ vs → MoreRead separator (with_mark (with_part s x) m) vs q → MoreRead separator s ts q
  one_more separator s ts x us m vs q h e r = record {
    first = x.tree;
    others = r.first ∷ r.others;
    between = m ∷ r.between;
    items = r.items ∙ append_assoc s.items (x.tree ∷ []) (r.first ∷ r.others);
    marks = r.marks ∙ append_assoc s.marks (m ∷ []) r.between;
    formed = λ y a. either Is x.tree (r.first ∷ r.others) y a h.formed r.formed;
    gaps = r.gaps;
    takes = h.takes ∙ (ap (λ l. tokens x.tree ++ l) (e ∙ ap (λ l. at (T.Mark separator) m ∷ l) r.takes) ∙ sym (append_assoc (tokens x.tree) (at (T.Mark separator) m ∷ listed tokens (T.Mark separator) (r.first ∷ r.others) r.between) q.1));
    measures = λ f g. measures_as (λ n. sym (append_assoc (f n) (deep x.tree n) (deep_all deep (r.first ∷ r.others) n))) (r.measures (λ n. f n ++ deep x.tree n) (both_measured g h.measures));
    within = λ l. r.within (higher_within s.height x.height levels l h.within);
  }

  -- behind parts that were read, so many more at most
  pub several-right : (separator : List ℕ) (k : ℕ) (s : Several A) (ts : List Placed) → Right (MoreRead separator s ts) ts (read_several separator inner k s ts)
  unfolding read_several
  several-right separator zero s ts = right_fault tt
  several-right separator (suc k) s ts = right_then (inner-right ts) λ x h. right_case
      (λ e. right_ok (one_read separator s ts x.0 x.1 h))
      (λ m e. let g = mark-takes separator x.1 m e in
      right_behind (behind_behind (behind_part (tokens x.0.tree) h.takes) (behind_token g)) (right_as (λ q r. one_more separator s ts x.0 x.1 m.0 m.1 q h g r) (several-right separator k (with_mark (with_part s x.0) m.0) m.1)))

  parts_read : (separator : List ℕ) (ts : List Placed) (q : Several A × List Placed) → MoreRead separator no_parts ts q → AreRead Is tokens deep levels separator ts q
  parts_read separator ts q r = record {
    first = r.first;
    others = r.others;
    items = r.items;
    formed = λ x a. r.formed x (subst (Among x) r.items a);
    gaps = subst (λ xs. AreSeparators xs q.0.marks) (sym r.items) (subst (AreSeparators (r.first ∷ r.others)) (sym r.marks) r.gaps);
    takes = r.takes ∙ ap (λ l. l ++ q.1) (ap (λ xs. listed tokens (T.Mark separator) xs r.between) (sym r.items) ∙ ap (listed tokens (T.Mark separator) q.0.items) (sym r.marks));
    measures = measures_as (λ n. ap (λ xs. deep_all deep xs n) r.items) (r.measures (λ n. []) (nothing_measured (λ n. refl)));
    within = r.within (omega arith);
  }

  -- parts are read rightly
  pub read_parts-right : (separator : List ℕ) (ts : List Placed) → Right (AreRead Is tokens deep levels separator ts) ts (read_parts separator inner ts)
  read_parts-right separator ts = right_as (parts_read separator ts) (several-right separator (suc (length ts)) no_parts ts)

  none_closed : (closing : List ℕ) (ts : List Placed) (c : Place × List Placed) → IsMarkNext closing ts c → AreClosed Is tokens deep levels closing ts (with_mark no_parts c.0, c.1)
  none_closed closing ts c e = record {
    between = [];
    close = c.0;
    marks = refl;
    formed = λ x a. elim a [ ];
    gaps = tt;
    takes = e;
    measures = nothing_measured (λ n. refl);
    within = omega arith;
  }

  some_closed : (closing : List ℕ) (ts : List Placed) (q : Several A × List Placed) (c : Place × List Placed) → AreRead Is tokens deep levels (codes ",") ts q → IsMarkNext closing q.1 c → AreClosed Is tokens deep levels closing ts (with_mark q.0 c.0, c.1)
  some_closed closing ts q c r e = record {
    between = q.0.marks;
    close = c.0;
    marks = refl;
    formed = r.formed;
    gaps = r.gaps;
    takes = r.takes ∙ (ap (λ l. listed tokens (T.Mark (codes ",")) q.0.items q.0.marks ++ l) e ∙ (sym (append_assoc (listed tokens (T.Mark (codes ",")) q.0.items q.0.marks) (at (T.Mark closing) c.0 ∷ []) c.1)
        ∙ ap (λ l. l ++ c.1) (sym (fill-listed tokens (T.Mark (codes ",")) q.0.items q.0.marks (own (T.Mark closing) ∷ []) (c.0 ∷ []) r.gaps))));
    measures = r.measures;
    within = r.within;
  }

  -- parts in brackets are read rightly
  pub read_closed-right : (closing : List ℕ) (ts : List Placed) → Right (AreClosed Is tokens deep levels closing ts) ts (read_closed closing inner ts)
  read_closed-right closing ts = right_case
      (λ e. right_then (read_parts-right (codes ",") ts) λ q r. right_next (behind_part _ r.takes) (expect_mark closing q.1) λ c g. right_ok (some_closed closing ts q c r g))
      (λ c e. right_ok (none_closed closing ts c (mark-takes closing ts c e)))

-- ---- parts with marks between them are read again

-- these parts were read, with these marks
abbrev pub AreThese : {A : Type 0} → List A → List Place → List Placed → Several A × List Placed → Type 0
AreThese xs ms rest q = (h : Height) × (q ≡ (several xs ms h, rest))

-- these parts were read again, and those steps behind them
pub again_these : {A Y : Type 0} {H : Y → Type 0} {D E : Place → Type 0} {xs : List A} {ms : List Place} {rest : List Placed} {answer : Answer (Several A × List Placed)} (next : Several A × List Placed → Answer Y) → Again (AreThese xs ms rest) D answer → ((p : Place) → D p → E p) → ((h : Height) → Again H E (next (several xs ms h, rest))) → Again H E (answer >>= next)
again_these {H = H} {E = E} next a d k = again_then a d λ q g. subst (λ z. Again H E (next z)) (sym g.1) (k g.0)

these_regrouped : {A : Type 0} (items : List A) (marks : List Place) (x : A) (m : Place) (xs : List A) (ms : List Place) (rest : List Placed) (q : Several A × List Placed) → AreThese ((items ++ x ∷ []) ++ xs) ((marks ++ m ∷ []) ++ ms) rest q → AreThese (items ++ x ∷ xs) (marks ++ m ∷ ms) rest q
these_regrouped items marks x m xs ms rest q r = (r.0, r.1 ∙ (ap (λ ys. (several ys ((marks ++ m ∷ []) ++ ms) r.0, rest)) (append_assoc items (x ∷ []) xs) ∙ ap (λ ns. (several (items ++ x ∷ xs) ns r.0, rest)) (append_assoc marks (m ∷ []) ms)))

-- behind a token there are fewer
pub shorter : (front us rest : List Placed) (t : Placed) (k : ℕ) → length ((front ++ t ∷ us) ++ rest) < suc k → length (us ++ rest) < k
shorter front us rest t k l = omega (arith, length-append (front ++ t ∷ us) rest, length-append front (t ∷ us), length-append us rest)

module _ {A : Type 0} (Is : A → Type 0) (tokens : A → List Placed) (deep : A → Deep) (levels : ℕ) (Follows : List Placed → Type 0) (inner : Reads (Measured A)) (inner-again : (x : A) (rest : List Placed) → Is x → Follows rest → Again (IsPart x rest) (IsDeep deep levels x) (inner (tokens x ++ rest))) where
  module _ (separator : List ℕ) (follows_separator : (m : Place) (us : List Placed) → Follows (at (T.Mark separator) m ∷ us)) where
    -- behind parts that were read; there is fuel for each token
    pub several-again : (k : ℕ) (s : Several A) (x : A) (xs : List A) (ms : List Place) (rest : List Placed) → ((y : A) → Among y (x ∷ xs) → Is y) → AreSeparators (x ∷ xs) ms → Follows rest → mark separator rest ≡ None
        → length (listed tokens (T.Mark separator) (x ∷ xs) ms ++ rest) < k
        → Again (AreThese (s.items ++ x ∷ xs) (s.marks ++ ms) rest) (λ p. Among p (deep_all deep (x ∷ xs) levels)) (read_several separator inner k s (listed tokens (T.Mark separator) (x ∷ xs) ms ++ rest))
    unfolding read_several
    several-again zero s x xs ms rest i g f n l = absurd (omega arith)
    several-again (suc k) s x [] [] rest i g f n l = again_from (ap (λ ts. read_several separator inner (suc k) s (ts ++ rest)) (append-nil (tokens x)))
        (again_read _ (inner-again x rest (i x (inl refl)) f) (λ p d. among_front p (deep x levels) [] d) λ h.
        again_none _ n (again_ok (higher s.height h, ap (λ ms. (several (s.items ++ x ∷ []) ms (higher s.height h), rest)) (sym (append-nil s.marks)))))
    several-again (suc k) s x (y ∷ ys) (m ∷ ms) rest i g f n l = again_from (ap (read_several separator inner (suc k) s) (append_assoc (tokens x) (at (T.Mark separator) m ∷ listed tokens (T.Mark separator) (y ∷ ys) ms) rest))
        (again_read _ (inner-again x (at (T.Mark separator) m ∷ (listed tokens (T.Mark separator) (y ∷ ys) ms ++ rest)) (i x (inl refl)) (follows_separator m _)) (λ p d. among_front p (deep x levels) _ d) λ h.
        again_some _ _ (mark-again separator m _) (again_as (λ q r. these_regrouped s.items s.marks x m (y ∷ ys) ms rest q r) (λ p d. among_behind p (deep x levels) _ d)
        (several-again k (with_mark (with_part s (measured x h)) m) y ys ms rest (λ z a. i z (inr a)) g f n (shorter (tokens x) (listed tokens (T.Mark separator) (y ∷ ys) ms) rest (at (T.Mark separator) m) k l))))
    several-again (suc k) s x _ _ rest i g f n l = absurd g

    -- parts are read again
    pub read_parts-again : (x : A) (xs : List A) (ms : List Place) (rest : List Placed) → ((y : A) → Among y (x ∷ xs) → Is y) → AreSeparators (x ∷ xs) ms → Follows rest → mark separator rest ≡ None
        → Again (AreThese (x ∷ xs) ms rest) (λ p. Among p (deep_all deep (x ∷ xs) levels)) (read_parts separator inner (listed tokens (T.Mark separator) (x ∷ xs) ms ++ rest))
    read_parts-again x xs ms rest i g f n = several-again (suc (length (listed tokens (T.Mark separator) (x ∷ xs) ms ++ rest))) no_parts x xs ms rest i g f n (omega arith)

  -- the tokens begin with those of the first part
  pub listed-first : (t : Token) (x : A) (xs : List A) (ms : List Place) (rest : List Placed) → listed tokens t (x ∷ xs) ms ++ rest ≡ tokens x ++ (fill (each_behind t (map tokens xs)) ms ++ rest)
  listed-first t x xs ms rest = ap (λ ps. fill ps ms ++ rest) (separated-each_behind t (tokens x) (map tokens xs)) ∙ append_assoc (tokens x) (fill (each_behind t (map tokens xs)) ms) rest

  -- parts in brackets are read again
  pub read_closed-again : (closing : List ℕ) → ((m : Place) (us : List Placed) → Follows (at (T.Mark (codes ",")) m ∷ us)) → ((c : Place) (us : List Placed) → Follows (at (T.Mark closing) c ∷ us))
      → ((c : Place) (us : List Placed) → mark (codes ",") (at (T.Mark closing) c ∷ us) ≡ None) → ((x : A) (us : List Placed) → Is x → mark closing (tokens x ++ us) ≡ None)
      → (xs : List A) (ms : List Place) (c : Place) (rest : List Placed) → ((y : A) → Among y xs → Is y) → AreSeparators xs ms
      → Again (AreThese xs (ms ++ c ∷ []) rest) (λ p. Among p (deep_all deep xs levels)) (read_closed closing inner (fill (commas (map tokens xs) ++ own (T.Mark closing) ∷ []) (ms ++ c ∷ []) ++ rest))
  read_closed-again closing comma close no_comma opens [] [] c rest i g = again_some _ _ (mark-again closing c rest) (again_ok (flat, refl))
  read_closed-again closing comma close no_comma opens (x ∷ xs) ms c rest i g =
      let behind : List Placed = at (T.Mark closing) c ∷ rest in
      again_from (ap (λ ts. read_closed closing inner (ts ++ rest)) (fill-listed tokens (T.Mark (codes ",")) (x ∷ xs) ms (own (T.Mark closing) ∷ []) (c ∷ []) g) ∙ ap (read_closed closing inner) (append_assoc (listed tokens (T.Mark (codes ",")) (x ∷ xs) ms) (at (T.Mark closing) c ∷ []) rest))
      (again_none _ (ap (mark closing) (listed-first (T.Mark (codes ",")) x xs ms behind) ∙ opens x (fill (each_behind (T.Mark (codes ",")) (map tokens xs)) ms ++ behind) (i x (inl refl)))
      (again_these _ (read_parts-again (codes ",") comma x xs ms behind i g (close c rest) (no_comma c rest)) (λ p d. d) λ h.
      again_step _ (expect_mark-again closing c rest) (again_ok (h, refl))))
  read_closed-again closing comma close no_comma opens [] (m ∷ ms) c rest i g = absurd g

-- ---- cells of lists: what is read is right

-- cells, with marks and a height
abbrev pub cells : {A : Type 0} → List A → Option A → List Place → Height → Cells A
cells xs tail ms h = record { items = xs; tail = tail; marks = ms; height = h }

-- the elements behind one that has so many levels, and the tail
abbrev pub deep_behind : {A : Type 0} → (A → Deep) → List A → Option A → Deep
deep_behind deep [] tail levels = deep_optional deep tail levels
deep_behind deep (x ∷ xs) tail levels = deep_cells deep (x ∷ xs) tail (fewer levels)

pub deep_cells-first : {A : Type 0} (deep : A → Deep) (x : A) (xs : List A) (tail : Option A) (levels : ℕ) → deep_cells deep (x ∷ xs) tail levels ≡ deep x levels ++ deep_behind deep xs tail levels
deep_cells-first deep x [] tail levels = refl
deep_cells-first deep x (y ∷ ys) tail levels = refl

-- the marks of what closes a list: a closing bracket, or a bar in front of a tail and a closing bracket
abbrev pub IsTail : {A : Type 0} → (A → Type 0) → Option A → List Place → Type 0
IsTail Is None (c ∷ []) = Unit {0}
IsTail Is (Some t) (b ∷ c ∷ []) = Is t
IsTail Is _ _ = ⊥

pub tail_cases : {A : Type 0} (Is : A → Type 0) (P : Option A → List Place → Type 0) → ((c : Place) → P None (c ∷ [])) → ((b c : Place) (t : A) → Is t → P (Some t) (b ∷ c ∷ [])) → (tail : Option A) (ends : List Place) → IsTail Is tail ends → P tail ends
tail_cases Is P none some None (c ∷ []) i = none c
tail_cases Is P none some (Some t) (b ∷ c ∷ []) i = some b c t i
tail_cases Is P none some None _ i = absurd i
tail_cases Is P none some (Some t) _ i = absurd i

-- the pieces of the elements behind the first and of what closes the list
abbrev pub cells_behind : {A : Type 0} → (A → List Placed) → List A → Option A → List Piece
cells_behind tokens xs tail = each_behind (T.Mark (codes ",")) (map tokens xs) ++ tail_pieces tokens tail

pub cells-first : {A : Type 0} (tokens : A → List Placed) (x : A) (xs : List A) (tail : Option A) (ms : List Place) (rest : List Placed) → fill (commas (map tokens (x ∷ xs)) ++ tail_pieces tokens tail) ms ++ rest ≡ tokens x ++ (fill (cells_behind tokens xs tail) ms ++ rest)
cells-first tokens x xs tail ms rest = ap (λ ps. fill (ps ++ tail_pieces tokens tail) ms ++ rest) (separated-each_behind (T.Mark (codes ",")) (tokens x) (map tokens xs)) ∙ append_assoc (tokens x) (fill (cells_behind tokens xs tail) ms) rest

-- cells were read, behind others of which the last stands so many levels deeper than the first
pub record CellsRead {A : Type 0} (Is : A → Type 0) (tokens : A → List Placed) (deep : A → Deep) (levels deeper : ℕ) (s : Several A) (ts : List Placed) (q : Cells A × List Placed) : Type 0 where
  pub others : List A
  pub between : List Place
  pub ends : List Place
  pub items : q.0.items ≡ s.items ++ others
  pub marks : q.0.marks ≡ s.marks ++ (between ++ ends)
  pub formed : (x : A) → Among x others → Is x
  pub gaps : (x : A) → AreSeparators (x ∷ others) between
  pub closed : IsTail Is q.0.tail ends
  pub takes : ts ≡ fill (cells_behind tokens others q.0.tail) (between ++ ends) ++ q.1
  pub measures : (f : Deep) → Measures f s.height → Measures (λ n. f n ++ deep_behind deep others q.0.tail (n - levels)) q.0.height
  pub within : (limit : ℕ) → levels + deeper ≤ limit → s.height.depth ≤ limit → q.0.height.depth ≤ limit

module _ {A : Type 0} (Is : A → Type 0) (tokens : A → List Placed) (deep : A → Deep) where
  -- each reader reads rightly, with as many levels as there are readers behind it
  abbrev pub AreRight : List (Reads (Measured A)) → Type 0
  AreRight [] = Unit {0}
  AreRight (read ∷ readers) = ((ts : List Placed) → Right (IsRead Is tokens deep (length readers) ts) ts (read ts)) × AreRight readers

  bare_closed : (levels deeper : ℕ) (s : Several A) (ts : List Placed) (c : Place × List Placed) → IsMarkNext (codes "]") ts c → CellsRead Is tokens deep levels deeper s ts (cells_of s None c.0 s.height, c.1)
  bare_closed levels deeper s ts c e = record {
    others = [];
    between = [];
    ends = c.0 ∷ [];
    items = sym (append-nil s.items);
    marks = refl;
    formed = λ x a. elim a [ ];
    gaps = λ x. tt;
    closed = tt;
    takes = e;
    measures = λ f m. measures_as (λ n. append-nil (f n)) m;
    within = λ limit l m. m;
  }

  tail_closed : (levels deeper : ℕ) (s : Several A) (ts : List Placed) (b : Place) (us : List Placed) (t : Measured A) (vs : List Placed) (c : Place × List Placed) → IsMarkNext (codes "|") ts (b, us) → Read Is tokens deep deeper us t vs → IsMarkNext (codes "]") vs c
      → CellsRead Is tokens deep levels deeper s ts (cells_of (with_mark s b) (Some t.tree) c.0 (higher s.height (raised levels t.height)), c.1)
  tail_closed levels deeper s ts b us t vs c e h g = record {
    others = [];
    between = [];
    ends = b ∷ c.0 ∷ [];
    items = sym (append-nil s.items);
    marks = append_assoc s.marks (b ∷ []) (c.0 ∷ []);
    formed = λ x a. elim a [ ];
    gaps = λ x. tt;
    closed = h.formed;
    takes = e ∙ ap (λ l. at (T.Mark (codes "|")) b ∷ l) (h.takes ∙ (ap (λ l. tokens t.tree ++ l) g ∙ sym (append_assoc (tokens t.tree) (at (T.Mark (codes "]")) c.0 ∷ []) c.1)));
    measures = λ f m. both_measured m (raised_measured levels h.measures);
    within = λ limit l m. higher_within s.height (raised levels t.height) limit m (le_trans (raised_within levels t.height deeper h.within) l);
  }

  close_cells-right : (last : Reads (Measured A)) (levels deeper : ℕ) (s : Several A) (ts : List Placed) → ((us : List Placed) → Right (IsRead Is tokens deep deeper us) us (last us))
      → Right (CellsRead Is tokens deep levels deeper s ts) ts (close_cells last levels s ts)
  unfolding close_cells
  close_cells-right last levels deeper s ts last-right = right_case
      (λ e. right_then (expect_mark (codes "]") ts) λ c g. right_ok (bare_closed levels deeper s ts c g))
      (λ b e. let e' = mark-takes (codes "|") ts b e in let one = behind_token e' in
      right_next one (last-right b.1) λ t h. right_next (behind_behind one (behind_part (tokens t.0.tree) h.takes)) (expect_mark (codes "]") t.1) λ c g. right_ok (tail_closed levels deeper s ts b.0 b.1 t.0 t.1 c e' h g))

  one_cell : (levels deeper : ℕ) (s : Several A) (ts : List Placed) (m : Place) (us : List Placed) (x : Measured A) (vs : List Placed) (q : Cells A × List Placed) → IsMarkNext (codes ",") ts (m, us) → Read Is tokens deep deeper us x vs
      → CellsRead Is tokens deep (suc levels) deeper (with_element (suc levels) (with_mark s m) x) vs q → CellsRead Is tokens deep levels (suc deeper) s ts q
  one_cell levels deeper s ts m us x vs q e h r = record {
    others = x.tree ∷ r.others;
    between = m ∷ r.between;
    ends = r.ends;
    items = r.items ∙ append_assoc s.items (x.tree ∷ []) r.others;
    marks = r.marks ∙ append_assoc s.marks (m ∷ []) (r.between ++ r.ends);
    formed = λ y a. either Is x.tree r.others y a h.formed r.formed;
    gaps = λ y. r.gaps x.tree;
    closed = r.closed;
    takes = e ∙ ap (λ l. at (T.Mark (codes ",")) m ∷ l) (h.takes ∙ (ap (λ l. tokens x.tree ++ l) r.takes ∙ sym (append_assoc (tokens x.tree) (fill (cells_behind tokens r.others q.0.tail) (r.between ++ r.ends)) q.1)));
    measures = λ f g. measures_as (λ n. ap (λ l. f n ++ l) (ap (deep_cells deep (x.tree ∷ r.others) q.0.tail) (fewer-sub n levels) ∙ deep_cells-first deep x.tree r.others q.0.tail (n - suc levels))
        ∙ sym (append_assoc (f n) (deep x.tree (n - suc levels)) (deep_behind deep r.others q.0.tail (n - suc levels))))
        (r.measures (λ n. f n ++ deep x.tree (n - suc levels)) (both_measured g (raised_measured (suc levels) h.measures)));
    within = λ limit l g. r.within limit (omega arith) (higher_within s.height (raised (suc levels) x.height) limit g (le_trans (raised_within (suc levels) x.height deeper h.within) (omega arith)));
  }

  -- cells are read rightly
  pub read_cells-right : (readers : List (Reads (Measured A))) (last : Reads (Measured A)) (levels : ℕ) (s : Several A) (ts : List Placed) → AreRight readers → ((us : List Placed) → Right (IsRead Is tokens deep (length readers) us) us (last us))
      → Right (CellsRead Is tokens deep levels (length readers) s ts) ts (read_cells readers last levels s ts)
  unfolding read_cells
  read_cells-right [] last levels s ts r last-right = right_case {o = mark (codes ",") ts} {some = λ m. Err (faults.TooDeep (first_place m.1))} (λ e. close_cells-right last levels zero s ts last-right) (λ m e. right_fault tt)
  read_cells-right (next ∷ readers) last levels s ts r last-right = right_case
      (λ e. close_cells-right last levels (suc (length readers)) s ts last-right)
      (λ m e. let e' = mark-takes (codes ",") ts m e in let one = behind_token e' in
      right_next one (r.0 m.1) λ x h. right_behind (behind_behind one (behind_part (tokens x.0.tree) h.takes))
      (right_as (λ q g. one_cell levels (length readers) s ts m.0 m.1 x.0 x.1 q e' h g) (read_cells-right readers next (suc levels) (with_element (suc levels) (with_mark s m.0) x.0) x.1 r.1 r.0)))

-- a list with elements was read
pub record ListRead {A : Type 0} (Is : A → Type 0) (tokens : A → List Placed) (deep : A → Deep) (levels : ℕ) (ts : List Placed) (q : Cells A × List Placed) : Type 0 where
  pub first : A
  pub others : List A
  pub between : List Place
  pub ends : List Place
  pub same : q.0 ≡ cells (first ∷ others) q.0.tail (between ++ ends) q.0.height
  pub formed : (x : A) → Among x (first ∷ others) → Is x
  pub gaps : AreSeparators (first ∷ others) between
  pub closed : IsTail Is q.0.tail ends
  pub takes : ts ≡ fill (commas (map tokens (first ∷ others)) ++ tail_pieces tokens q.0.tail) (between ++ ends) ++ q.1
  pub measures : Measures (deep_cells deep (first ∷ others) q.0.tail) q.0.height
  pub within : q.0.height.depth ≤ levels

sub-zero : (n : ℕ) → n ≡ n - 0
sub-zero n = omega arith

-- a list was read, where its first element was and the cells behind that
pub list_read : {A : Type 0} {Is : A → Type 0} {tokens : A → List Placed} {deep : A → Deep} {levels : ℕ} {ts us : List Placed} (x : Measured A) (q : Cells A × List Placed) → Read Is tokens deep levels ts x us → CellsRead Is tokens deep 0 levels (with_part no_parts x) us q → ListRead Is tokens deep levels ts q
list_read {Is = Is} {tokens = tokens} {deep = deep} {levels = levels} x q h r = record {
  first = x.tree;
  others = r.others;
  between = r.between;
  ends = r.ends;
  same = ap (λ xs. cells xs q.0.tail q.0.marks q.0.height) r.items ∙ ap (λ ms. cells (x.tree ∷ r.others) q.0.tail ms q.0.height) r.marks;
  formed = λ y a. either Is x.tree r.others y a h.formed r.formed;
  gaps = r.gaps x.tree;
  closed = r.closed;
  takes = h.takes ∙ (ap (λ l. tokens x.tree ++ l) r.takes ∙ sym (cells-first tokens x.tree r.others q.0.tail (r.between ++ r.ends) q.1));
  measures = measures_as (λ n. deep_cells-first deep x.tree r.others q.0.tail n ∙ ap (λ m. deep x.tree n ++ deep_behind deep r.others q.0.tail m) (sub-zero n))
      (r.measures (deep x.tree) (both_measured (nothing_measured {f = λ n. []} (λ n. refl)) h.measures));
  within = r.within levels (omega arith) (higher_within flat x.height levels (omega arith) h.within);
}

-- ---- cells are read again

-- these cells were read, with these marks
abbrev pub AreCells : {A : Type 0} → List A → Option A → List Place → List Placed → Cells A × List Placed → Type 0
AreCells xs tail ms rest q = (h : Height) × (q ≡ (cells xs tail ms h, rest))

-- these cells were read again, and those steps behind them
pub again_cells : {A Y : Type 0} {H : Y → Type 0} {D E : Place → Type 0} {xs : List A} {tail : Option A} {ms : List Place} {rest : List Placed} {answer : Answer (Cells A × List Placed)} (next : Cells A × List Placed → Answer Y) → Again (AreCells xs tail ms rest) D answer → ((p : Place) → D p → E p) → ((h : Height) → Again H E (next (cells xs tail ms h, rest))) → Again H E (answer >>= next)
again_cells {H = H} {E = E} next a d k = again_then a d λ q g. subst (λ z. Again H E (next z)) (sym g.1) (k g.0)

-- a comma, a bar and a closing bracket may follow
pub record MayFollow (Follows : List Placed → Type 0) : Type 0 where
  pub comma : (m : Place) (us : List Placed) → Follows (at (T.Mark (codes ",")) m ∷ us)
  pub bar : (m : Place) (us : List Placed) → Follows (at (T.Mark (codes "|")) m ∷ us)
  pub bracket : (m : Place) (us : List Placed) → Follows (at (T.Mark (codes "]")) m ∷ us)

cells_regrouped : {A : Type 0} (items : List A) (marks : List Place) (x : A) (m : Place) (xs : List A) (tail : Option A) (ms : List Place) (rest : List Placed) (q : Cells A × List Placed) → AreCells ((items ++ x ∷ []) ++ xs) tail ((marks ++ m ∷ []) ++ ms) rest q → AreCells (items ++ x ∷ xs) tail (marks ++ m ∷ ms) rest q
cells_regrouped items marks x m xs tail ms rest q r = (r.0, r.1 ∙ (ap (λ ys. (cells ys tail ((marks ++ m ∷ []) ++ ms) r.0, rest)) (append_assoc items (x ∷ []) xs) ∙ ap (λ ns. (cells (items ++ x ∷ xs) tail ns r.0, rest)) (append_assoc marks (m ∷ []) ms)))

cells_ended : {A : Type 0} (items : List A) (tail : Option A) (ms : List Place) (rest : List Placed) (q : Cells A × List Placed) → AreCells items tail ms rest q → AreCells (items ++ []) tail ms rest q
cells_ended items tail ms rest q r = (r.0, r.1 ∙ ap (λ ys. (cells ys tail ms r.0, rest)) (sym (append-nil items)))

bracket_no_bar : (c : Place) (us : List Placed) → mark (codes "|") (at (T.Mark (codes "]")) c ∷ us) ≡ None
unfolding mark
bracket_no_bar c us = refl

module _ {A : Type 0} (Is : A → Type 0) (tokens : A → List Placed) (deep : A → Deep) (Follows : List Placed → Type 0) where
  -- each reader reads again, with as many levels as there are readers behind it
  abbrev pub AreAgain : List (Reads (Measured A)) → Type 0
  AreAgain [] = Unit {0}
  AreAgain (read ∷ readers) = ((x : A) (rest : List Placed) → Is x → Follows rest → Again (IsPart x rest) (IsDeep deep (length readers) x) (read (tokens x ++ rest))) × AreAgain readers

  tail_no_comma : (tail : Option A) (ends : List Place) (rest : List Placed) → IsTail Is tail ends → mark (codes ",") (fill (tail_pieces tokens tail) ends ++ rest) ≡ None
  unfolding mark
  tail_no_comma None (c ∷ []) rest h = refl
  tail_no_comma (Some t) (b ∷ c ∷ []) rest h = refl
  tail_no_comma _ _ rest h = absurd h

  module _ (follow : MayFollow Follows) (first : (x : A) (us : List Placed) → Is x → IsDeep deep 0 x (first_place (tokens x ++ us))) where
    close_cells-again : (last : Reads (Measured A)) (levels deeper : ℕ) (s : Several A) (tail : Option A) (ends : List Place) (rest : List Placed) → IsTail Is tail ends
        → ((x : A) (us : List Placed) → Is x → Follows us → Again (IsPart x us) (IsDeep deep deeper x) (last (tokens x ++ us)))
        → Again (AreCells s.items tail (s.marks ++ ends) rest) (λ p. Among p (deep_optional deep tail deeper)) (close_cells last levels s (fill (tail_pieces tokens tail) ends ++ rest))
    unfolding close_cells
    close_cells-again last levels deeper s None (c ∷ []) rest i last-again = again_none _ (bracket_no_bar c rest) (again_step _ (expect_mark-again (codes "]") c rest) (again_ok (s.height, refl)))
    close_cells-again last levels deeper s (Some t) (b ∷ c ∷ []) rest i last-again = again_some _ _ (mark-again (codes "|") b _)
        (again_from (ap (λ ts. last ts >>= λ t. expect (mark (codes "]")) t.1 >>= λ c. Ok (cells_of (with_mark s b) (Some t.0.tree) c.0 (higher s.height (raised levels t.0.height)), c.1)) (append_assoc (tokens t) (at (T.Mark (codes "]")) c ∷ []) rest))
        (again_read _ (last-again t (at (T.Mark (codes "]")) c ∷ rest) i (follow.bracket c rest)) (λ p d. d) λ h.
        again_step _ (expect_mark-again (codes "]") c rest) (again_ok (higher s.height (raised levels h), ap (λ ms. (cells s.items (Some t) ms (higher s.height (raised levels h)), rest)) (append_assoc s.marks (b ∷ []) (c ∷ []))))))
    close_cells-again last levels deeper s _ _ rest i last-again = absurd i

    -- what follows an element of a list, or its first
    pub cells_follow : (x : A) (xs : List A) (tail : Option A) (between ends : List Place) (rest : List Placed) → AreSeparators (x ∷ xs) between → IsTail Is tail ends → Follows (fill (cells_behind tokens xs tail) (between ++ ends) ++ rest)
    cells_follow x [] None [] (c ∷ []) rest g t = follow.bracket c rest
    cells_follow x [] (Some u) [] (b ∷ c ∷ []) rest g t = follow.bar b _
    cells_follow x (y ∷ ys) tail (m ∷ ms) ends rest g t = follow.comma m _
    cells_follow x [] _ (m ∷ ms) ends rest g t = absurd g
    cells_follow x (y ∷ ys) tail [] ends rest g t = absurd g
    cells_follow x [] _ [] _ rest g t = absurd t

    -- cells are read again
    pub read_cells-again : (readers : List (Reads (Measured A))) (last : Reads (Measured A)) (levels : ℕ) (s : Several A) (x : A) (xs : List A) (tail : Option A) (between ends : List Place) (rest : List Placed)
        → ((y : A) → Among y xs → Is y) → AreSeparators (x ∷ xs) between → IsTail Is tail ends → AreAgain readers → ((y : A) (us : List Placed) → Is y → Follows us → Again (IsPart y us) (IsDeep deep (length readers) y) (last (tokens y ++ us)))
        → Again (AreCells (s.items ++ xs) tail (s.marks ++ (between ++ ends)) rest) (λ p. Among p (deep_behind deep xs tail (length readers))) (read_cells readers last levels s (fill (cells_behind tokens xs tail) (between ++ ends) ++ rest))
    unfolding read_cells
    read_cells-again [] last levels s x [] tail [] ends rest i g t r last-again =
        again_none _ (tail_no_comma tail ends rest t) (again_as (λ q a. cells_ended s.items tail (s.marks ++ ends) rest q a) (λ p d. d) (close_cells-again last levels zero s tail ends rest t last-again))
    read_cells-again (next ∷ readers) last levels s x [] tail [] ends rest i g t r last-again =
        again_none _ (tail_no_comma tail ends rest t) (again_as (λ q a. cells_ended s.items tail (s.marks ++ ends) rest q a) (λ p d. d) (close_cells-again last levels (suc (length readers)) s tail ends rest t last-again))
    read_cells-again [] last levels s x (y ∷ ys) tail (m ∷ ms) ends rest i g t r last-again =
        again_some {o = mark (codes ",") (at (T.Mark (codes ",")) m ∷ ((tokens y ++ fill (cells_behind tokens ys tail) (ms ++ ends)) ++ rest))} _ (λ n. Err (faults.TooDeep (first_place n.1))) (mark-again (codes ",") m _)
        (again_deep (subst (Among (first_place ((tokens y ++ fill (cells_behind tokens ys tail) (ms ++ ends)) ++ rest))) (sym (deep_cells-first deep y ys tail 0))
        (among_front _ (deep y 0) _ (subst (λ ts. Among (first_place ts) (deep y 0)) (sym (append_assoc (tokens y) _ rest)) (first y _ (i y (inl refl)))))))
    read_cells-again (next ∷ readers) last levels s x (y ∷ ys) tail (m ∷ ms) ends rest i g t r last-again =
        again_some _ _ (mark-again (codes ",") m _)
        (again_from (ap (λ ts. next ts >>= λ z. read_cells readers next (suc levels) (with_element (suc levels) (with_mark s m) z.0) z.1) (append_assoc (tokens y) (fill (cells_behind tokens ys tail) (ms ++ ends)) rest))
        (again_read _ (r.0 y (fill (cells_behind tokens ys tail) (ms ++ ends) ++ rest) (i y (inl refl)) (cells_follow y ys tail ms ends rest g t)) (λ p d. subst (Among p) (sym (deep_cells-first deep y ys tail (length readers))) (among_front p (deep y (length readers)) _ d)) λ h.
        again_as (λ q a. cells_regrouped s.items s.marks y m ys tail (ms ++ ends) rest q a)
        (λ p d. subst (Among p) (sym (deep_cells-first deep y ys tail (length readers))) (among_behind p (deep y (length readers)) _ d))
        (read_cells-again readers next (suc levels) (with_element (suc levels) (with_mark s m) (measured y h)) y ys tail ms ends rest (λ z a. i z (inr a)) g t r.1 r.0)))
    read_cells-again _ last levels s x _ tail _ ends rest i g t r last-again = absurd g

-- ---- fields of records

pub both_true : (a b : Bool) → (a && b) ≡ true → (a ≡ true) × (b ≡ true)
both_true true b e = (refl, e)
both_true false b e = absurd cc

wildcard_stands : (ts : List Placed) → is_wildcard_field ts ≡ true → HasOutside ts (first_place ts) (codes "record wildcard")
wildcard_stands [] e = absurd cc
wildcard_stands (t ∷ []) e = absurd cc
wildcard_stands (t ∷ u ∷ ts) e =
    let h = both_true _ _ e in
    let v = token_is t (T.Var (codes "_")) (is_variable-takes (codes "_") t.token h.0) in
    let w = token_is u (T.Mark (codes "=")) (is_mark-takes (codes "=") u.token h.1) in
    subst (λ l. HasOutside l t.place (codes "record wildcard")) (sym (ap (λ x. x ∷ u ∷ ts) v ∙ ap (λ x. at (T.Var (codes "_")) t.place ∷ x ∷ ts) w)) (stands_first (record_wildcard t.place u.place [] ts))

module _ {K : Type 0} (Is : Node K → Type 0) (tokens : Node K → List Placed) (deep : Node K → Deep) (levels : ℕ) (inner : Reads (Measured (Node K))) where
  -- a field, by the place of its name, the mark, the name and the value
  abbrev pub field_node : Place → Place → List ℕ → Node K → Node (List ℕ × Node K)
  field_node n m field v = node n (n ∷ m ∷ []) (field, v)

  -- a field is read rightly
  pub read_field-right : (IsField : Node (List ℕ × Node K) → Type 0) → ((n m : Place) (field : List ℕ) (v : Node K) → Is v → IsField (field_node n m field v)) → ((ts : List Placed) → Right (IsRead Is tokens deep levels ts) ts (inner ts))
      → (ts : List Placed) → Right (IsRead IsField (field_tokens tokens) (deep_second deep) levels ts) ts (read_field inner ts)
  unfolding read_field
  read_field-right IsField make inner-right ts = right_if (λ e. right_outside (wildcard_stands ts e)) λ e.
      right_then (expect_atom ts) λ a ha. right_next (behind_token ha) (expect_mark (codes "=") a.1) λ m hm.
      right_next (behind_behind (behind_token ha) (behind_token hm)) (inner-right m.1) λ v h. right_ok (record {
        formed = make a.0.1 m.0 a.0.0 v.0.tree h.formed;
        takes = ha ∙ ap (λ l. at (T.Atom a.0.0) a.0.1 ∷ l) (hm ∙ ap (λ l. at (T.Mark (codes "=")) m.0 ∷ l) (h.takes ∙ ap (λ l. l ++ v.1) (sym (append-nil (tokens v.0.tree)))));
        measures = h.measures;
        within = h.within;
      })

  -- a field is read again
  pub read_field-again : (n m : Place) (field : List ℕ) (v : Node K) (rest : List Placed) → Again (IsPart v rest) (IsDeep deep levels v) (inner (tokens v ++ rest))
      → Again (IsPart (field_node n m field v) rest) (IsDeep (deep_second deep) levels (field_node n m field v)) (read_field inner (field_tokens tokens (field_node n m field v) ++ rest))
  unfolding read_field
  read_field-again n m field v rest a = again_step _ (expect_atom-again field n _) (again_step _ (expect_mark-again (codes "=") m _)
      (again_from (ap (λ l. inner (l ++ rest) >>= λ w. Ok (measured (field_node n m field w.0.tree) w.0.height, w.1)) (append-nil (tokens v)))
      (again_read _ a (λ p d. d) λ h. again_ok (h, refl))))
