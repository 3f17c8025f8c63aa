-- Parts with marks of their own and a mark between two of them: what is read of the whole, from what is read of each part.
use Rattle.std.proofs.Common.{◌≡◌, ℕ, zero, suc, ◌<◌, List, [], ◌∷◌, ◌++◌, map, length, refl, ap, sym, ◌∙◌, subst, inl, inr, append_assoc, append-nil, arith}
use Rattle.std.specs.Prelude.{None, codes}
use Rattle.erl_tree.specs.Lists.{Among}
use Rattle.erl_tree.specs.declared.token.Place.{Place}
use Rattle.erl_tree.specs.declared.token.Placed.{Placed}
use Rattle.erl_tree.specs.declared.token.Token.{Token}
use Rattle.erl_tree.specs.declared.token.Token.TheVariants as T
use Rattle.erl_grammar.specs.Pieces.{at, Piece, own, inner, fill, owned, between, separated}
use Rattle.erl_grammar.specs.Nesting.{Deep, deep_all}
use Rattle.erl_grammar.specs.Grammar.{AreSeparators}
use Rattle.erl_parser_tokens.specs.Tokens.{Answer, Reads, ◌>>=◌, mark}
use Rattle.erl_parser_tokens.proofs.HeightLaws.{among_front, among_behind}
use Rattle.erl_parser_tokens.proofs.Then.{behind_token, behind_part, behind_behind, Right, right_ok, right_fault, right_as, right_behind, right_then, right_next, right_case, Again, again_ok, again_as, again_from, again_then, again_step, again_none, again_some, IsDeep}
use Rattle.erl_parser_tokens.proofs.TokenLaws.{mark-again, mark-takes, expect_mark, expect_mark-again}
use Rattle.erl_parser_tokens.proofs.PartLaws.{shorter, listed}
use Rattle.erl_parser.specs.Forms.{Listed, no_items, with_item, with_separator, read_more_items, read_items, read_items_to}

-- ---- pieces

-- pieces and others behind them, where the first have as many marks as tokens of their own
pub fill_joined : (ps qs : List Piece) (ms ns : List Place) → owned ps ≡ length ms → fill (ps ++ qs) (ms ++ ns) ≡ fill ps ms ++ fill qs ns
fill_joined [] qs [] ns e = refl
fill_joined [] qs (m ∷ ms) ns e = absurd (omega arith)
fill_joined (inner ts ∷ ps) qs ms ns e = ap (λ l. ts ++ l) (fill_joined ps qs ms ns e) ∙ sym (append_assoc ts (fill ps ms) (fill qs ns))
fill_joined (own t ∷ ps) qs [] ns e = absurd (omega arith)
fill_joined (own t ∷ ps) qs (m ∷ ms) ns e = ap (λ l. at t m ∷ l) (fill_joined ps qs ms ns (omega arith))

-- pieces, others behind them, and what stands behind those
pub fill_nested : (ps qs rs : List Piece) (ms ns : List Place) → owned ps ≡ length ms → fill ((ps ++ qs) ++ rs) (ms ++ ns) ≡ fill ps ms ++ fill (qs ++ rs) ns
fill_nested ps qs rs ms ns e = ap (λ l. fill l (ms ++ ns)) (append_assoc ps qs rs) ∙ fill_joined ps (qs ++ rs) ms ns e

-- the same with tokens behind all of it
pub nested_behind : (ps qs rs : List Piece) (ms ns : List Place) (rest : List Placed) → owned ps ≡ length ms → fill ((ps ++ qs) ++ rs) (ms ++ ns) ++ rest ≡ fill ps ms ++ (fill (qs ++ rs) ns ++ rest)
nested_behind ps qs rs ms ns rest e = ap (λ l. l ++ rest) (fill_nested ps qs rs ms ns e) ∙ append_assoc (fill ps ms) (fill (qs ++ rs) ns) rest

-- ---- parts and their marks

-- some parts with their marks, and a mark between two of them: at least one part
pub data AreItems {A : Type 0} (IsItem : A → List Place → Type 0) : List A → List Place → Type 0 where
  last_item : (x : A) (ms : List Place) → IsItem x ms → AreItems IsItem (x ∷ []) ms
  more_items : (x y : A) (ys : List A) (ms : List Place) (m : Place) (ns : List Place) → IsItem x ms → AreItems IsItem (y ∷ ys) ns → AreItems IsItem (x ∷ y ∷ ys) (ms ++ m ∷ ns)

-- the same, or no parts
pub data MayBeItems {A : Type 0} (IsItem : A → List Place → Type 0) : List A → List Place → Type 0 where
  none_at_all : MayBeItems IsItem [] []
  items : (x : A) (xs : List A) (ms : List Place) → AreItems IsItem (x ∷ xs) ms → MayBeItems IsItem (x ∷ xs) ms

-- the tokens of parts with a token between two of them
abbrev pub text_of : {A : Type 0} → (A → List Piece) → Token → List A → List Place → List Placed
text_of pieces t xs ms = fill (between t (map pieces xs)) ms

-- parts with marks
abbrev pub these : {A : Type 0} → List A → List Place → Listed A
these xs ms = record { items = xs; marks = ms }

-- these parts were read, with these marks, and these tokens come behind them
abbrev pub IsThis : {X : Type 0} → X → X → Type 0
IsThis x y = y ≡ x

-- a step that gives just this, or a place of a node that is nested too deep, and those behind it
pub again_this : {X Y : Type 0} {H : Y → Type 0} {D E : Place → Type 0} {x : X} {answer : Answer X} (next : X → Answer Y) → Again (IsThis x) D answer → ((p : Place) → D p → E p) → Again H E (next x) → Again H E (answer >>= next)
again_this {H = H} {E = E} next a d k = again_then a d λ y e. subst (λ z. Again H E (next z)) (sym e) k

module _ {A : Type 0} (IsItem : A → List Place → Type 0) (pieces : A → List Piece) (many : (x : A) (ms : List Place) → IsItem x ms → owned (pieces x) ≡ length ms) (deep : A → Deep) (levels : ℕ) where
  -- a part was read with its marks
  pub record ItemRead (ts : List Placed) (q : (A × List Place) × List Placed) : Type 0 where
    pub formed : IsItem q.0.0 q.0.1
    pub takes : ts ≡ fill (pieces q.0.0) q.0.1 ++ q.1
    pub shallow : deep q.0.0 levels ≡ []

  -- the first part, and the others
  first_text : (t : Token) (x y : A) (ys : List A) (ms : List Place) (m : Place) (ns : List Place) → IsItem x ms → text_of pieces t (x ∷ y ∷ ys) (ms ++ m ∷ ns) ≡ fill (pieces x) ms ++ at t m ∷ text_of pieces t (y ∷ ys) ns
  first_text t x y ys ms m ns i = fill_joined (pieces x) (own t ∷ between t (map pieces (y ∷ ys))) ms (m ∷ ns) (many x ms i)

  -- the parts have as many marks as tokens of their own
  pub items_many : (t : Token) (xs : List A) (ms : List Place) → AreItems IsItem xs ms → owned (between t (map pieces xs)) ≡ length ms
  items_many t _ _ (last_item x ms i) = many x ms i
  items_many t _ _ (more_items x y ys ms m ns i r) = owned_joined (pieces x) (own t ∷ between t (map pieces (y ∷ ys))) ms (m ∷ ns) (many x ms i) (ap suc (items_many t (y ∷ ys) ns r))
    where
      owned_joined : (ps qs : List Piece) (ms ns : List Place) → owned ps ≡ length ms → owned qs ≡ length ns → owned (ps ++ qs) ≡ length (ms ++ ns)
      owned_joined [] qs [] ns e f = f
      owned_joined [] qs (m ∷ ms) ns e f = absurd (omega arith)
      owned_joined (inner ts ∷ ps) qs ms ns e f = owned_joined ps qs ms ns e f
      owned_joined (own t ∷ ps) qs [] ns e f = absurd (omega arith)
      owned_joined (own t ∷ ps) qs (m ∷ ms) ns e f = ap suc (owned_joined ps qs ms ns (omega arith) f)

  pub may_be_many : (t : Token) (xs : List A) (ms : List Place) → MayBeItems IsItem xs ms → owned (between t (map pieces xs)) ≡ length ms
  may_be_many t _ _ none_at_all = refl
  may_be_many t _ _ (items x xs ms r) = items_many t (x ∷ xs) ms r

  -- parts were read, at least one
  pub record ItemsRead (separator : List ℕ) (ts : List Placed) (q : Listed A × List Placed) : Type 0 where
    pub formed : AreItems IsItem q.0.items q.0.marks
    pub takes : ts ≡ text_of pieces (T.Mark separator) q.0.items q.0.marks ++ q.1
    pub shallow : deep_all deep q.0.items levels ≡ []

  -- parts were read, or none, and their closing mark
  pub record ClosedRead (closing : List ℕ) (ts : List Placed) (q : (Listed A × Place) × List Placed) : Type 0 where
    pub formed : MayBeItems IsItem q.0.0.items q.0.0.marks
    pub takes : ts ≡ text_of pieces (T.Mark (codes ",")) q.0.0.items q.0.0.marks ++ at (T.Mark closing) q.0.1 ∷ q.1
    pub shallow : deep_all deep q.0.0.items levels ≡ []

  module _ (part : Reads (A × List Place)) (part-right : (ts : List Placed) → Right (ItemRead ts) ts (part ts)) where
    -- more parts were read, behind those that were
    record MoreItems (separator : List ℕ) (s : Listed A) (ts : List Placed) (q : Listed A × List Placed) : Type 0 where
      first : A
      others : List A
      between_them : List Place
      same : q.0 ≡ these (s.items ++ first ∷ others) (s.marks ++ between_them)
      formed : AreItems IsItem (first ∷ others) between_them
      takes : ts ≡ text_of pieces (T.Mark separator) (first ∷ others) between_them ++ q.1
      shallow : deep_all deep (first ∷ others) levels ≡ []

    one_item : (separator : List ℕ) (s : Listed A) (ts : List Placed) (x : (A × List Place) × List Placed) → ItemRead ts x → MoreItems separator s ts (with_item s x.0, x.1)
    one_item separator s ts x h = record {
      first = x.0.0;
      others = [];
      between_them = x.0.1;
      same = refl;
      formed = last_item x.0.0 x.0.1 h.formed;
      takes = h.takes;
      shallow = append-nil (deep x.0.0 levels) ∙ h.shallow;
    }

    both_empty : (ps qs : List Place) → ps ≡ [] → qs ≡ [] → ps ++ qs ≡ []
    both_empty ps qs e f = ap (λ l. l ++ qs) e ∙ f

    one_more : (separator : List ℕ) (s : Listed A) (ts : List Placed) (x : (A × List Place) × List Placed) (m : Place) (vs : List Placed) (q : Listed A × List Placed) → ItemRead ts x → x.1 ≡ at (T.Mark separator) m ∷ vs → MoreItems separator (with_separator (with_item s x.0) m) vs q → MoreItems separator s ts q
    one_more separator s ts x m vs q h e r =
        let t : Token = T.Mark separator in
        let behind : List Placed = text_of pieces t (r.first ∷ r.others) r.between_them in
        record {
          first = x.0.0;
          others = r.first ∷ r.others;
          between_them = x.0.1 ++ m ∷ r.between_them;
          same = r.same ∙ (ap (λ xs. these xs (((s.marks ++ x.0.1) ++ m ∷ []) ++ r.between_them)) (append_assoc s.items (x.0.0 ∷ []) (r.first ∷ r.others))
              ∙ ap (these (s.items ++ x.0.0 ∷ r.first ∷ r.others)) (append_assoc (s.marks ++ x.0.1) (m ∷ []) r.between_them ∙ append_assoc s.marks x.0.1 (m ∷ r.between_them)));
          formed = more_items x.0.0 r.first r.others x.0.1 m r.between_them h.formed r.formed;
          takes = h.takes ∙ (ap (λ l. fill (pieces x.0.0) x.0.1 ++ l) (e ∙ ap (λ l. at t m ∷ l) r.takes)
              ∙ (sym (append_assoc (fill (pieces x.0.0) x.0.1) (at t m ∷ behind) q.1) ∙ ap (λ l. l ++ q.1) (sym (first_text t x.0.0 r.first r.others x.0.1 m r.between_them h.formed))));
          shallow = both_empty (deep x.0.0 levels) (deep_all deep (r.first ∷ r.others) levels) h.shallow r.shallow;
        }

    more_items-right : (separator : List ℕ) (k : ℕ) (s : Listed A) (ts : List Placed) → Right (MoreItems separator s ts) ts (read_more_items separator part k s ts)
    unfolding read_more_items
    more_items-right separator zero s ts = right_fault tt
    more_items-right separator (suc k) s ts = right_then (part-right ts) λ x h. right_case
        (λ e. right_ok (one_item separator s ts x h))
        (λ m e. let g = mark-takes separator x.1 m e in
        right_behind (behind_behind (behind_part (fill (pieces x.0.0) x.0.1) h.takes) (behind_token g)) (right_as (λ q r. one_more separator s ts x m.0 m.1 q h g r) (more_items-right separator k (with_separator (with_item s x.0) m.0) m.1)))

    items_read : (separator : List ℕ) (ts : List Placed) (q : Listed A × List Placed) → MoreItems separator no_items ts q → ItemsRead separator ts q
    items_read separator ts q r = subst (λ s. ItemsRead separator ts (s, q.1)) (sym r.same) (record { formed = r.formed; takes = r.takes; shallow = r.shallow })

    -- parts are read rightly
    pub items-right : (separator : List ℕ) (ts : List Placed) → Right (ItemsRead separator ts) ts (read_items separator part ts)
    items-right separator ts = right_as (items_read separator ts) (more_items-right separator (suc (length ts)) no_items ts)

    may_be : (xs : List A) (ms : List Place) → AreItems IsItem xs ms → MayBeItems IsItem xs ms
    may_be _ _ (last_item x ms i) = items x [] ms (last_item x ms i)
    may_be _ _ (more_items x y ys ms m ns i r) = items x (y ∷ ys) (ms ++ m ∷ ns) (more_items x y ys ms m ns i r)

    -- parts in brackets are read rightly
    pub items_to-right : (closing : List ℕ) (ts : List Placed) → Right (ClosedRead closing ts) ts (read_items_to closing part ts)
    unfolding read_items_to
    items_to-right closing ts = right_case
        (λ e. right_then (items-right (codes ",") ts) λ s r. right_next (behind_part _ r.takes) (expect_mark closing s.1) λ c g. right_ok (record {
          formed = may_be s.0.items s.0.marks r.formed;
          takes = r.takes ∙ ap (λ l. text_of pieces (T.Mark (codes ",")) s.0.items s.0.marks ++ l) g;
          shallow = r.shallow;
        }))
        (λ c e. right_ok (record { formed = none_at_all; takes = mark-takes closing ts c e; shallow = refl }))

  module _ (Follows : List Placed → Type 0) (part : Reads (A × List Place)) (part-again : (x : A) (ms : List Place) (rest : List Placed) → IsItem x ms → Follows rest → Again (IsThis ((x, ms), rest)) (IsDeep deep levels x) (part (fill (pieces x) ms ++ rest))) where
    -- the first part, and what stands behind it
    text_behind : (t : Token) (x y : A) (ys : List A) (ms : List Place) (m : Place) (ns : List Place) (rest : List Placed) → IsItem x ms → text_of pieces t (x ∷ y ∷ ys) (ms ++ m ∷ ns) ++ rest ≡ fill (pieces x) ms ++ at t m ∷ (text_of pieces t (y ∷ ys) ns ++ rest)
    text_behind t x y ys ms m ns rest i = ap (λ l. l ++ rest) (first_text t x y ys ms m ns i) ∙ append_assoc (fill (pieces x) ms) (at t m ∷ text_of pieces t (y ∷ ys) ns) rest

    items_regrouped : (s : Listed A) (x : A) (xs : List A) (ms : List Place) (m : Place) (ns : List Place) (rest : List Placed) (q : Listed A × List Placed) → IsThis (these ((s.items ++ x ∷ []) ++ xs) (((s.marks ++ ms) ++ m ∷ []) ++ ns), rest) q → IsThis (these (s.items ++ x ∷ xs) (s.marks ++ (ms ++ m ∷ ns)), rest) q
    items_regrouped s x xs ms m ns rest q e = e ∙ (ap (λ ys. (these ys (((s.marks ++ ms) ++ m ∷ []) ++ ns), rest)) (append_assoc s.items (x ∷ []) xs)
        ∙ ap (λ us. (these (s.items ++ x ∷ xs) us, rest)) (append_assoc (s.marks ++ ms) (m ∷ []) ns ∙ append_assoc s.marks ms (m ∷ ns)))

    module _ (separator : List ℕ) (follows : (m : Place) (us : List Placed) → Follows (at (T.Mark separator) m ∷ us)) where
      -- behind parts that were read; there is fuel for each token
      more_items-again : (k : ℕ) (s : Listed A) (xs : List A) (ms : List Place) (rest : List Placed) → AreItems IsItem xs ms → Follows rest → mark separator rest ≡ None → length (text_of pieces (T.Mark separator) xs ms ++ rest) < k
          → Again (IsThis (these (s.items ++ xs) (s.marks ++ ms), rest)) (IsDeep (deep_all deep) levels xs) (read_more_items separator part k s (text_of pieces (T.Mark separator) xs ms ++ rest))
      unfolding read_more_items
      more_items-again zero s xs ms rest r f n l = absurd (omega arith)
      more_items-again (suc k) s _ _ rest (last_item x ms i) f n l = again_this _ (part-again x ms rest i f) (λ p d. among_front p (deep x levels) [] d) (again_none _ n (again_ok refl))
      more_items-again (suc k) s _ _ rest (more_items x y ys ms m ns i r) f n l =
          let t : Token = T.Mark separator in
          let behind : List Placed = text_of pieces t (y ∷ ys) ns in
          again_from (ap (read_more_items separator part (suc k) s) (text_behind t x y ys ms m ns rest i))
          (again_this _ (part-again x ms (at t m ∷ (behind ++ rest)) i (follows m _)) (λ p d. among_front p (deep x levels) _ d)
          (again_some _ _ (mark-again separator m _) (again_as (λ q e. items_regrouped s x (y ∷ ys) ms m ns rest q e) (λ p d. among_behind p (deep x levels) _ d)
          (more_items-again k (with_separator (with_item s (x, ms)) m) (y ∷ ys) ns rest r f n (shorter (fill (pieces x) ms) behind rest (at t m) k (subst (λ z. length (z ++ rest) < suc k) (first_text t x y ys ms m ns i) l))))))

      -- parts are read again
      pub items-again : (xs : List A) (ms : List Place) (rest : List Placed) → AreItems IsItem xs ms → Follows rest → mark separator rest ≡ None
          → Again (IsThis (these xs ms, rest)) (IsDeep (deep_all deep) levels xs) (read_items separator part (text_of pieces (T.Mark separator) xs ms ++ rest))
      items-again xs ms rest r f n = more_items-again (suc (length (text_of pieces (T.Mark separator) xs ms ++ rest))) no_items xs ms rest r f n (omega arith)

    -- parts in brackets are read again
    pub items_to-again : (closing : List ℕ) → ((m : Place) (us : List Placed) → Follows (at (T.Mark (codes ",")) m ∷ us)) → ((c : Place) (us : List Placed) → Follows (at (T.Mark closing) c ∷ us))
        → ((c : Place) (us : List Placed) → mark (codes ",") (at (T.Mark closing) c ∷ us) ≡ None) → ((x : A) (ms : List Place) (us : List Placed) → IsItem x ms → mark closing (fill (pieces x) ms ++ us) ≡ None)
        → (xs : List A) (ms : List Place) (c : Place) (rest : List Placed) → MayBeItems IsItem xs ms
        → Again (IsThis ((these xs ms, c), rest)) (IsDeep (deep_all deep) levels xs) (read_items_to closing part (text_of pieces (T.Mark (codes ",")) xs ms ++ at (T.Mark closing) c ∷ rest))
    unfolding read_items_to
    items_to-again closing comma close no_comma opens _ _ c rest none_at_all = again_some _ _ (mark-again closing c rest) (again_ok refl)
    items_to-again closing comma close no_comma opens _ _ c rest (items x xs ms r) =
        let behind : List Placed = at (T.Mark closing) c ∷ rest in
        again_none _ (begins x xs ms behind r)
        (again_this _ (items-again (codes ",") comma (x ∷ xs) ms behind r (close c rest) (no_comma c rest)) (λ p d. d)
        (again_step _ (expect_mark-again closing c rest) (again_ok refl)))
      where
        begins : (y : A) (ys : List A) (ns : List Place) (us : List Placed) → AreItems IsItem (y ∷ ys) ns → mark closing (text_of pieces (T.Mark (codes ",")) (y ∷ ys) ns ++ us) ≡ None
        begins _ _ _ us (last_item y ns i) = opens y ns us i
        begins _ _ _ us (more_items y z zs ns n ks i r) = ap (mark closing) (text_behind (T.Mark (codes ",")) y z zs ns n ks us i) ∙ opens y ns _ i

-- by the first part and the others
pub by_first : {A : Type 0} {IsItem : A → List Place → Type 0} (P : List A → List Place → Type 0) → ((x : A) (ys : List A) (ms : List Place) → AreItems IsItem (x ∷ ys) ms → P (x ∷ ys) ms) → (xs : List A) (ms : List Place) → AreItems IsItem xs ms → P xs ms
by_first P k _ _ (last_item x ms i) = k x [] ms (last_item x ms i)
by_first P k _ _ (more_items x y ys ms m ns i r) = k x (y ∷ ys) (ms ++ m ∷ ns) (more_items x y ys ms m ns i r)

-- ---- nodes as parts: they have no marks beside their own

pub data IsNodeItem {A : Type 0} (Is : A → Type 0) : A → List Place → Type 0 where
  node_item : (x : A) → Is x → IsNodeItem Is x []

module _ {A : Type 0} (Is : A → Type 0) (tokens : A → List Placed) where
  abbrev pub node_pieces : A → List Piece
  node_pieces x = inner (tokens x) ∷ []

  pub node_many : (x : A) (ms : List Place) → IsNodeItem Is x ms → owned (node_pieces x) ≡ length ms
  node_many x _ (node_item _ i) = refl

  -- the tokens of nodes with a token between two of them
  pub nodes_text : (t : Token) (xs : List A) (ms : List Place) → fill (between t (map node_pieces xs)) ms ≡ listed tokens t xs ms
  nodes_text t xs ms = ap (λ ps. fill ps ms) (same xs)
    where
      same : (xs : List A) → between t (map node_pieces xs) ≡ separated t (map tokens xs)
      same [] = refl
      same (x ∷ []) = refl
      same (x ∷ y ∷ ys) = ap (λ ps. inner (tokens x) ∷ own t ∷ ps) (same (y ∷ ys))

  -- nodes that are parts are well formed, and a mark stands between two of them
  pub nodes_formed : (xs : List A) (ms : List Place) → AreItems (IsNodeItem Is) xs ms → (x : A) → Among x xs → Is x
  nodes_formed _ _ (last_item x _ (node_item _ i)) y (inl e) = subst Is (sym e) i
  nodes_formed _ _ (last_item x _ (node_item _ i)) y (inr a) = elim a [ ]
  nodes_formed _ _ (more_items x z zs _ m ns (node_item _ i) r) y (inl e) = subst Is (sym e) i
  nodes_formed _ _ (more_items x z zs _ m ns (node_item _ i) r) y (inr a) = nodes_formed (z ∷ zs) ns r y a

  pub may_be_formed : (xs : List A) (ms : List Place) → MayBeItems (IsNodeItem Is) xs ms → (x : A) → Among x xs → Is x
  may_be_formed _ _ none_at_all y a = elim a [ ]
  may_be_formed _ _ (items x xs ms r) y a = nodes_formed (x ∷ xs) ms r y a

  pub nodes_gaps : (xs : List A) (ms : List Place) → AreItems (IsNodeItem Is) xs ms → AreSeparators xs ms
  nodes_gaps _ _ (last_item x _ (node_item _ i)) = tt
  nodes_gaps _ _ (more_items x z zs _ m ns (node_item _ i) r) = nodes_gaps (z ∷ zs) ns r

  pub may_be_gaps : (xs : List A) (ms : List Place) → MayBeItems (IsNodeItem Is) xs ms → AreSeparators xs ms
  may_be_gaps _ _ none_at_all = tt
  may_be_gaps _ _ (items x xs ms r) = nodes_gaps (x ∷ xs) ms r

  -- and the other way round
  pub nodes_items : (x : A) (xs : List A) (ms : List Place) → ((y : A) → Among y (x ∷ xs) → Is y) → AreSeparators (x ∷ xs) ms → AreItems (IsNodeItem Is) (x ∷ xs) ms
  nodes_items x [] [] h g = last_item x [] (node_item x (h x (inl refl)))
  nodes_items x (y ∷ ys) (m ∷ ms) h g = more_items x y ys [] m ms (node_item x (h x (inl refl))) (nodes_items y ys ms (λ z a. h z (inr a)) g)
  nodes_items x _ _ h g = absurd g

  pub nodes_may_be : (xs : List A) (ms : List Place) → ((y : A) → Among y xs → Is y) → AreSeparators xs ms → MayBeItems (IsNodeItem Is) xs ms
  nodes_may_be [] [] h g = none_at_all
  nodes_may_be (x ∷ xs) ms h g = items x xs ms (nodes_items x xs ms h g)
  nodes_may_be [] (m ∷ ms) h g = absurd g

  module _ (deep : A → Deep) (levels : ℕ) where
    -- a node was read as a part
    pub node_read : (ts : List Placed) (x : A) (rest : List Placed) → Is x → ts ≡ tokens x ++ rest → deep x levels ≡ [] → ItemRead (IsNodeItem Is) node_pieces node_many deep levels ts ((x, []), rest)
    node_read ts x rest i e d = record { formed = node_item x i; takes = e ∙ ap (λ l. l ++ rest) (sym (append-nil (tokens x))); shallow = d }

    -- a node is read again as a part
    pub node_again : (Follows : List Placed → Type 0) (part : Reads (A × List Place)) → ((x : A) (rest : List Placed) → Is x → Follows rest → Again (IsThis ((x, []), rest)) (IsDeep deep levels x) (part (tokens x ++ rest)))
        → (x : A) (ms : List Place) (rest : List Placed) → IsNodeItem Is x ms → Follows rest → Again (IsThis ((x, ms), rest)) (IsDeep deep levels x) (part (fill (node_pieces x) ms ++ rest))
    node_again Follows part h x _ rest (node_item _ i) f = again_from (ap (λ l. part (l ++ rest)) (append-nil (tokens x))) (h x rest i f)
