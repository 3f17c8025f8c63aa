-- Parameters of any kind: what is read is right, and what is well formed is read again, from what is said of each parameter.
use Rattle.std.proofs.Common.{◌≡◌, ℕ, zero, suc, ◌+◌, ◌≤◌, ◌<◌, false, List, [], ◌∷◌, ◌++◌, map, length, refl, ap, sym, ◌∙◌, subst, inl, inr, append_assoc, append-nil, length-append, leb-true, leb-false, arith}
use Rattle.std.proofs.lemmas.Bool.{lt-leb}
use Rattle.std.proofs.lemmas.List.{length-map}
use Rattle.std.specs.Prelude.{None, nat_le, codes}
use Rattle.erl_tree.specs.Lists.{Among}
use Rattle.erl_tree.specs.declared.token.Place.{Place}
use Rattle.erl_tree.specs.declared.token.Placed.{Placed}
use Rattle.erl_tree.specs.declared.token.Token.TheVariants as T
use Rattle.erl_grammar.specs.Pieces.{at}
use Rattle.erl_grammar.specs.Nesting.{Deep, deep_all}
use Rattle.erl_grammar.specs.Grammar.{AreSeparators, IsArity}
use Rattle.erl_parser_tokens.specs.declared.height.Height.{Height}
use Rattle.erl_parser_tokens.specs.declared.height.Measured.{Measured}
use Rattle.erl_parser_tokens.specs.Heights.{flat, higher, measured}
use Rattle.erl_parser_tokens.specs.Tokens.{Reads, mark}
use Rattle.erl_parser_tokens.specs.Parts.{Several, no_parts, with_part, with_mark, too_many, read_more_parameters, read_parameters}
use Rattle.erl_parser_tokens.specs.Outside.{IsParameterText, arity}
use Rattle.erl_parser_tokens.proofs.Right.{Measures}
use Rattle.erl_parser_tokens.proofs.HeightLaws.{among_front, among_behind, measures_as, nothing_measured, both_measured, higher_within, deep_all-more}
use Rattle.erl_parser_tokens.proofs.Then.{Behind, behind_part, behind_behind, Right, right_ok, right_fault, right_outside, right_next, right_case, right_if, IsRead, Again, again_ok, again_as, again_from, again_step, again_none, again_some, again_false, IsPart, IsDeep, again_read}
use Rattle.erl_parser_tokens.proofs.TokenLaws.{IsMarkNext, mark-again, mark-takes, expect_mark, expect_mark-again}
use Rattle.erl_parser_tokens.proofs.PartLaws.{listed, listed-first, AreThese}
use Rattle.erl_parser_tokens.proofs.Endings.{mark-none}

-- ---- parameters with a comma behind each

module _ {A : Type 0} (tokens : A → List Placed) where
  -- parameters with commas between them
  abbrev parameters_text : List A → List Place → List Placed
  parameters_text ps ms = listed tokens (T.Mark (codes ",")) ps ms

  -- the text of parameters, each with its comma
  abbrev each_closed : List A → List Place → List Placed
  each_closed (p ∷ ps) (m ∷ ms) = tokens p ++ at (T.Mark (codes ",")) m ∷ each_closed ps ms
  each_closed _ _ = []

  listed_more : (p : A) (ps : List A) (q : A) (m : Place) (ms : List Place) → parameters_text (p ∷ (ps ++ q ∷ [])) (m ∷ ms) ≡ tokens p ++ at (T.Mark (codes ",")) m ∷ parameters_text (ps ++ q ∷ []) ms
  listed_more p [] q m ms = refl
  listed_more p (r ∷ ps) q m ms = refl

  -- one more parameter, behind its comma
  listed_last : (ps : List A) (ms : List Place) (q : A) → length ms ≡ length ps → parameters_text (ps ++ q ∷ []) ms ≡ each_closed ps ms ++ tokens q
  listed_last [] [] q e = append-nil (tokens q)
  listed_last (p ∷ ps) (m ∷ ms) q e = listed_more p ps q m ms ∙ (ap (λ l. tokens p ++ at (T.Mark (codes ",")) m ∷ l) (listed_last ps ms q (omega arith)) ∙ sym (append_assoc (tokens p) (at (T.Mark (codes ",")) m ∷ each_closed ps ms) (tokens q)))
  listed_last [] (m ∷ ms) q e = absurd (omega arith)
  listed_last (p ∷ ps) [] q e = absurd (omega arith)

  closed_more : (ps : List A) (ms : List Place) (q : A) (m : Place) → length ms ≡ length ps → each_closed (ps ++ q ∷ []) (ms ++ m ∷ []) ≡ each_closed ps ms ++ (tokens q ++ at (T.Mark (codes ",")) m ∷ [])
  closed_more [] [] q m e = refl
  closed_more (p ∷ ps) (n ∷ ms) q m e = ap (λ l. tokens p ++ at (T.Mark (codes ",")) n ∷ l) (closed_more ps ms q m (omega arith)) ∙ sym (append_assoc (tokens p) (at (T.Mark (codes ",")) n ∷ each_closed ps ms) _)
  closed_more [] (n ∷ ms) q m e = absurd (omega arith)
  closed_more (p ∷ ps) [] q m e = absurd (omega arith)

gaps_last : {A : Type 0} (ps : List A) (ms : List Place) (q : A) → length ms ≡ length ps → AreSeparators (ps ++ q ∷ []) ms
gaps_last [] [] q e = tt
gaps_last (p ∷ []) (m ∷ []) q e = tt
gaps_last (p ∷ r ∷ ps) (m ∷ ms) q e = gaps_last (r ∷ ps) ms q (omega arith)
gaps_last [] (m ∷ ms) q e = absurd (omega arith)
gaps_last (p ∷ ps) [] q e = absurd (omega arith)
gaps_last (p ∷ []) (m ∷ n ∷ ms) q e = absurd (omega arith)

-- the same marks stand between the texts of parameters
gaps_of_texts : {A B : Type 0} (f : A → B) (ps : List A) (ms : List Place) → AreSeparators ps ms → AreSeparators (map f ps) ms
gaps_of_texts f [] [] g = tt
gaps_of_texts f (p ∷ []) [] g = tt
gaps_of_texts f (p ∷ q ∷ ps) (m ∷ ms) g = gaps_of_texts f (q ∷ ps) ms g
gaps_of_texts f _ _ g = absurd g

-- ---- parameters are read rightly

-- parameters were read, or none, and the closing parenthesis
pub record ParametersRead {A : Type 0} (Is : A → Type 0) (tokens : A → List Placed) (deep : A → Deep) (levels : ℕ) (ts : List Placed) (q : Several A × List Placed) : Type 0 where
  pub between : List Place
  pub close : Place
  pub marks : q.0.marks ≡ between ++ close ∷ []
  pub formed : (p : A) → Among p q.0.items → Is p
  pub gaps : AreSeparators q.0.items between
  pub takes : ts ≡ listed tokens (T.Mark (codes ",")) q.0.items between ++ at (T.Mark (codes ")")) close ∷ q.1
  pub measures : Measures (deep_all deep q.0.items) q.0.height
  pub within : q.0.height.depth ≤ levels
  pub few : IsArity q.0.items

formed_more : {A : Type 0} (Is : A → Type 0) (ps : List A) (q : A) → ((p : A) → Among p ps → Is p) → Is q → (p : A) → Among p (ps ++ q ∷ []) → Is p
formed_more Is [] q h i p (inl e) = subst Is (sym e) i
formed_more Is [] q h i p (inr a) = elim a [ ]
formed_more Is (r ∷ ps) q h i p (inl e) = h p (inl e)
formed_more Is (r ∷ ps) q h i p (inr a) = formed_more Is ps q (λ z b. h z (inr b)) i p a

measures_more : {A : Type 0} (deep : A → Deep) (ps : List A) (q : A) (h k : Height) → Measures (deep_all deep ps) h → Measures (deep q) k → Measures (deep_all deep (ps ++ q ∷ [])) (higher h k)
measures_more deep ps q h k m l = measures_as (λ n. deep_all-more deep ps (q ∷ []) n ∙ ap (λ z. deep_all deep ps n ++ z) (append-nil (deep q n))) (both_measured m l)

module _ {A : Type 0} (Is : A → Type 0) (tokens : A → List Placed) (deep : A → Deep) (levels : ℕ) (is_text : (x : A) → Is x → IsParameterText (tokens x)) (inner : Reads (Measured A)) (inner-right : (ts : List Placed) → Right (IsRead Is tokens deep levels ts) ts (inner ts)) where
  -- these parameters were read from the front of all of the tokens, each with its comma
  record ReadSoFar (all : List Placed) (s : Several A) (ts : List Placed) : Type 0 where
    stands : all ≡ each_closed tokens s.items s.marks ++ ts
    closed : length s.marks ≡ length s.items
    formed : (p : A) → Among p s.items → Is p
    measures : Measures (deep_all deep s.items) s.height
    within : s.height.depth ≤ levels
    few : length s.items ≤ 254

  -- all of the tokens up to the comma or the parenthesis behind one more parameter
  stands_behind : (all : List Placed) (s : Several A) (ts : List Placed) (p : Measured A × List Placed) (t : Placed) (us : List Placed) → ReadSoFar all s ts → IsRead Is tokens deep levels ts p → p.1 ≡ t ∷ us
      → all ≡ parameters_text tokens (s.items ++ p.0.tree ∷ []) s.marks ++ t ∷ us
  stands_behind all s ts p t us r h e = r.stands ∙ (ap (λ l. each_closed tokens s.items s.marks ++ l) (h.takes ∙ ap (λ l. tokens p.0.tree ++ l) e) ∙ (sym (append_assoc (each_closed tokens s.items s.marks) (tokens p.0.tree) (t ∷ us)) ∙ ap (λ l. l ++ t ∷ us) (sym (listed_last tokens s.items s.marks p.0.tree r.closed))))

  all_read : (all : List Placed) (s : Several A) (ts : List Placed) (p : Measured A × List Placed) (c : Place × List Placed) → ReadSoFar all s ts → IsRead Is tokens deep levels ts p → IsMarkNext (codes ")") p.1 c → ParametersRead Is tokens deep levels all (with_mark (with_part s p.0) c.0, c.1)
  all_read all s ts p c r h e = record {
    between = s.marks;
    close = c.0;
    marks = refl;
    formed = formed_more Is s.items p.0.tree r.formed h.formed;
    gaps = gaps_last s.items s.marks p.0.tree r.closed;
    takes = stands_behind all s ts p _ c.1 r h e;
    measures = measures_more deep s.items p.0.tree s.height p.0.height r.measures h.measures;
    within = higher_within s.height p.0.height levels r.within h.within;
    few = omega (arith, length-append s.items (p.0.tree ∷ []), r.few);
  }

  more_so_far : (all : List Placed) (s : Several A) (ts : List Placed) (p : Measured A × List Placed) (m : Place × List Placed) → ReadSoFar all s ts → IsRead Is tokens deep levels ts p → IsMarkNext (codes ",") p.1 m → suc (length s.items) < 255 → ReadSoFar all (with_mark (with_part s p.0) m.0) m.1
  more_so_far all s ts p m r h e l = record {
    stands = r.stands ∙ (ap (λ l. each_closed tokens s.items s.marks ++ l) (h.takes ∙ (ap (λ l. tokens p.0.tree ++ l) e ∙ sym (append_assoc (tokens p.0.tree) (at (T.Mark (codes ",")) m.0 ∷ []) m.1))) ∙ (sym (append_assoc (each_closed tokens s.items s.marks) (tokens p.0.tree ++ at (T.Mark (codes ",")) m.0 ∷ []) m.1) ∙ ap (λ l. l ++ m.1) (sym (closed_more tokens s.items s.marks p.0.tree m.0 r.closed))));
    closed = omega (arith, length-append s.items (p.0.tree ∷ []), length-append s.marks (m.0 ∷ []), r.closed);
    formed = formed_more Is s.items p.0.tree r.formed h.formed;
    measures = measures_more deep s.items p.0.tree s.height p.0.height r.measures h.measures;
    within = higher_within s.height p.0.height levels r.within h.within;
    few = omega (arith, length-append s.items (p.0.tree ∷ []), l);
  }

  texts_of : (ps : List A) → ((p : A) → Among p ps → Is p) → (x : List Placed) → Among x (map tokens ps) → IsParameterText x
  texts_of [] h x a = elim a [ ]
  texts_of (p ∷ ps) h x (inl e) = subst IsParameterText (sym e) (is_text p (h p (inl refl)))
  texts_of (p ∷ ps) h x (inr a) = texts_of ps (λ q b. h q (inr b)) x a

  -- a parameter behind an opening parenthesis and 255 others
  too_many-right : {X : Type 0} {G : X → Type 0} (o : Place) (ps : List A) (ms : List Place) (m : Place) (us all : List Placed) → length ps ≡ 255 → AreSeparators ps ms → ((p : A) → Among p ps → Is p) → all ≡ parameters_text tokens ps ms ++ at (T.Mark (codes ",")) m ∷ us → Right G (at (T.Mark (codes "(")) o ∷ all) (too_many us)
  too_many-right o ps ms m [] all n g h e = right_fault tt
  too_many-right o ps ms m (t ∷ us) all n g h e = right_outside (record {
    before = at (T.Mark (codes "(")) o ∷ (parameters_text tokens ps ms ++ at (T.Mark (codes ",")) m ∷ []);
    rest = t ∷ us;
    split = ap (λ l. at (T.Mark (codes "(")) o ∷ l) (e ∙ sym (append_assoc (parameters_text tokens ps ms) (at (T.Mark (codes ",")) m ∷ []) (t ∷ us)));
    stands = arity (map tokens ps) ms o m [] us t (length-map ps tokens ∙ n) (gaps_of_texts tokens ps ms g) (texts_of ps h);
  })

  -- the opening parenthesis stands in front of all of the tokens
  more_parameters-right : (k : ℕ) (s : Several A) (o : Place) (ts all : List Placed) → ReadSoFar all s ts → Right (ParametersRead Is tokens deep levels all) (at (T.Mark (codes "(")) o ∷ all) (read_more_parameters inner k s ts)
  unfolding read_more_parameters
  more_parameters-right zero s o ts all r = right_fault tt
  more_parameters-right (suc k) s o ts all r =
      let b : Behind (at (T.Mark (codes "(")) o ∷ all) ts = behind_part (at (T.Mark (codes "(")) o ∷ each_closed tokens s.items s.marks) (ap (λ us. at (T.Mark (codes "(")) o ∷ us) r.stands) in
      right_next b (inner-right ts) λ p h. right_case
      (λ e. right_next (behind_behind b (behind_part (tokens p.0.tree) h.takes)) (expect_mark (codes ")") p.1) λ c i. right_ok (all_read all s ts p c r h i))
      (λ m e. let i = mark-takes (codes ",") p.1 m e in right_if
      (λ x. let full : 255 ≤ suc (length s.items) = leb-true 255 (suc (length s.items)) x in
      too_many-right o (s.items ++ p.0.tree ∷ []) s.marks m.0 m.1 all (omega (arith, length-append s.items (p.0.tree ∷ []), r.few, full)) (gaps_last s.items s.marks p.0.tree r.closed) (formed_more Is s.items p.0.tree r.formed h.formed) (stands_behind all s ts p _ m.1 r h i))
      (λ x. more_parameters-right k (with_mark (with_part s p.0) m.0) o m.1 all (more_so_far all s ts p m r h i (leb-false 255 (suc (length s.items)) x))))

  nothing_so_far : (ts : List Placed) → ReadSoFar ts no_parts ts
  nothing_so_far ts = record { stands = refl; closed = refl; formed = λ p a. elim a [ ]; measures = nothing_measured (λ n. refl); within = omega arith; few = omega arith }

  no_parameters : (ts : List Placed) (c : Place × List Placed) → IsMarkNext (codes ")") ts c → ParametersRead Is tokens deep levels ts (with_mark no_parts c.0, c.1)
  no_parameters ts c e = record { between = []; close = c.0; marks = refl; formed = λ p a. elim a [ ]; gaps = tt; takes = e; measures = nothing_measured (λ n. refl); within = omega arith; few = omega arith }

  -- parameters and the closing parenthesis are read rightly, behind the opening parenthesis
  pub parameters-right : (o : Place) (ts : List Placed) → Right (ParametersRead Is tokens deep levels ts) (at (T.Mark (codes "(")) o ∷ ts) (read_parameters inner ts)
  unfolding read_parameters
  parameters-right o ts = right_case
      (λ e. more_parameters-right (suc (length ts)) no_parts o ts ts (nothing_so_far ts))
      (λ c e. right_ok (no_parameters ts c (mark-takes (codes ")") ts c e)))

-- ---- parameters are read again

shorter : (front us : List Placed) (t : Placed) (k : ℕ) → length (front ++ t ∷ us) < suc k → length us < k
shorter front us t k l = omega (arith, length-append front (t ∷ us))

not_full : (a b : ℕ) → a + suc (suc b) ≤ 255 → nat_le 255 (suc a) ≡ false
not_full a b n = lt-leb 255 (suc a) (omega arith)

parameters_regrouped : {A : Type 0} (s : Several A) (p : A) (h : Height) (m : Place) (ps : List A) (ms : List Place) (rest : List Placed) (q : Several A × List Placed) → AreThese ((s.items ++ p ∷ []) ++ ps) ((s.marks ++ m ∷ []) ++ ms) rest q → AreThese (s.items ++ p ∷ ps) (s.marks ++ m ∷ ms) rest q
parameters_regrouped s p h m ps ms rest q r = (r.0, r.1 ∙ (ap (λ ys. (record { items = ys; marks = (s.marks ++ m ∷ []) ++ ms; height = r.0 }, rest)) (append_assoc s.items (p ∷ []) ps) ∙ ap (λ ns. (record { items = s.items ++ p ∷ ps; marks = ns; height = r.0 }, rest)) (append_assoc s.marks (m ∷ []) ms)))

module _ {A : Type 0} (Is : A → Type 0) (tokens : A → List Placed) (deep : A → Deep) (levels : ℕ) (Follows : List Placed → Type 0) (inner : Reads (Measured A)) (inner-again : (x : A) (rest : List Placed) → Is x → Follows rest → Again (IsPart x rest) (IsDeep deep levels x) (inner (tokens x ++ rest)))
    (comma : (m : Place) (us : List Placed) → Follows (at (T.Mark (codes ",")) m ∷ us)) (close : (c : Place) (us : List Placed) → Follows (at (T.Mark (codes ")")) c ∷ us)) where
  more_parameters-again : (k : ℕ) (s : Several A) (p : A) (ps : List A) (ms : List Place) (c : Place) (rest : List Placed) → ((q : A) → Among q (p ∷ ps) → Is q) → AreSeparators (p ∷ ps) ms
      → length s.items + length (p ∷ ps) ≤ 255 → length (parameters_text tokens (p ∷ ps) ms ++ at (T.Mark (codes ")")) c ∷ rest) < k
      → Again (AreThese (s.items ++ p ∷ ps) (s.marks ++ (ms ++ c ∷ [])) rest) (λ q. Among q (deep_all deep (p ∷ ps) levels)) (read_more_parameters inner k s (parameters_text tokens (p ∷ ps) ms ++ at (T.Mark (codes ")")) c ∷ rest))
  unfolding read_more_parameters
  more_parameters-again zero s p ps ms c rest i g n f = absurd (omega arith)
  more_parameters-again (suc k) s p [] [] c rest i g n f = again_from (ap (λ us. read_more_parameters inner (suc k) s (us ++ at (T.Mark (codes ")")) c ∷ rest)) (append-nil (tokens p)))
      (again_read _ (inner-again p _ (i p (inl refl)) (close c rest)) (λ q d. among_front q (deep p levels) [] d) λ h.
      again_none _ (mark-none (codes ",") (T.Mark (codes ")")) c rest refl) (again_step _ (expect_mark-again (codes ")") c rest) (again_ok (higher s.height h, refl))))
  more_parameters-again (suc k) s p (r ∷ ps) (m ∷ ms) c rest i g n f =
      let us : List Placed = parameters_text tokens (r ∷ ps) ms ++ at (T.Mark (codes ")")) c ∷ rest in
      let e : parameters_text tokens (p ∷ r ∷ ps) (m ∷ ms) ++ at (T.Mark (codes ")")) c ∷ rest ≡ tokens p ++ at (T.Mark (codes ",")) m ∷ us = append_assoc (tokens p) (at (T.Mark (codes ",")) m ∷ parameters_text tokens (r ∷ ps) ms) (at (T.Mark (codes ")")) c ∷ rest) in
      again_from (ap (read_more_parameters inner (suc k) s) e)
      (again_read _ (inner-again p _ (i p (inl refl)) (comma m us)) (λ q d. among_front q (deep p levels) _ d) λ h.
      again_some _ _ (mark-again (codes ",") m us)
      (again_false _ (not_full (length s.items) (length ps) n)
      (again_as (λ q x. parameters_regrouped s p h m (r ∷ ps) (ms ++ c ∷ []) rest q x) (λ q d. among_behind q (deep p levels) _ d)
      (more_parameters-again k (with_mark (with_part s (measured p h)) m) r ps ms c rest (λ q a. i q (inr a)) g (omega (arith, length-append s.items (p ∷ []), n)) (shorter (tokens p) us _ k (subst (λ z. length z < suc k) e f))))))
  more_parameters-again (suc k) s p _ _ c rest i g n f = absurd g

  -- parameters and the closing parenthesis are read again
  pub parameters-again : ((x : A) (us : List Placed) → Is x → mark (codes ")") (tokens x ++ us) ≡ None) → (ps : List A) (ms : List Place) (c : Place) (rest : List Placed) → ((p : A) → Among p ps → Is p) → AreSeparators ps ms → IsArity ps
      → Again (AreThese ps (ms ++ c ∷ []) rest) (λ q. Among q (deep_all deep ps levels)) (read_parameters inner (listed tokens (T.Mark (codes ",")) ps ms ++ at (T.Mark (codes ")")) c ∷ rest))
  unfolding read_parameters
  parameters-again opens [] [] c rest i g n = again_some _ _ (mark-again (codes ")") c rest) (again_ok (flat, refl))
  parameters-again opens [] (m ∷ ms) c rest i g n = absurd g
  parameters-again opens (p ∷ ps) ms c rest i g n =
      let behind : List Placed = at (T.Mark (codes ")")) c ∷ rest in
      again_none _ (ap (mark (codes ")")) (listed-first Is tokens deep levels Follows inner inner-again (T.Mark (codes ",")) p ps ms behind) ∙ opens p _ (i p (inl refl)))
      (more_parameters-again (suc (length (parameters_text tokens (p ∷ ps) ms ++ behind))) no_parts p ps ms c rest i g (omega (arith, n)) (omega arith))
