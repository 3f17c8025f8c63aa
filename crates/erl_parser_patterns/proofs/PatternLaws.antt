-- Patterns: what is read is right, and what is well formed is read again.
use Rattle.std.proofs.Common.{◌≡◌, ℕ, zero, suc, ◌≤◌, true, false, List, [], ◌∷◌, ◌++◌, map, length, refl, ap, sym, ◌∙◌, subst, inl, inr, append_assoc, append-nil, arith}
use Rattle.std.specs.Prelude.{Option, Some, None, Ok, codes}
use Rattle.std.specs.Str.{bytes_eq}
use Rattle.type_terms.specs.Keys.{Name}
use Rattle.erl_tree.specs.Lists.{Among}
use Rattle.erl_tree.specs.declared.token.Place.{Place}
use Rattle.erl_tree.specs.declared.token.Placed.{Placed}
use Rattle.erl_tree.specs.declared.token.Node.{Node}
use Rattle.erl_tree.specs.declared.token.Token.{Token}
use Rattle.erl_tree.specs.declared.token.Token.TheVariants as T
use Rattle.erl_tree.specs.declared.pattern.LiteralKind.{LiteralKind}
use Rattle.erl_tree.specs.declared.pattern.PatternKind.{PatternKind}
use Rattle.erl_tree.specs.declared.pattern.PatternKind.TheVariants as P
use Rattle.erl_grammar.specs.Pieces.{at, fill, commas}
use Rattle.erl_grammar.specs.Spelling.{tail_pieces, pattern_tokens, literal_tokens, pattern_entry_tokens, pattern_field_tokens}
use Rattle.erl_grammar.specs.Nesting.{Deep, deep_second, deep_cells, pattern_kind_deep, pattern_deep, IsPatternWithin}
use Rattle.erl_grammar.specs.Grammar.{node, AreSeparators, IsKey, atom_key, integer_key, negative_key, character_key, IsPattern, one_pattern, alias, IsSimplePattern, atom_pattern, integer_pattern, negative_pattern, character_pattern, string_pattern, variable_pattern, paren_pattern, tuple_pattern, list_pattern, cells_pattern, map_pattern, record_pattern, IsEntry, entry, IsFieldPattern, field_pattern}
use Rattle.erl_grammar.proofs.SpellingLaws.{pattern_shown-Atom, pattern_shown-Int, pattern_shown-NegInt, pattern_shown-Char, pattern_shown-Str, pattern_shown-Var, pattern_shown-Paren, pattern_shown-Tuple, pattern_shown-Cells, pattern_shown-Map, pattern_shown-Rec, pattern_shown-Alias}
use Rattle.erl_grammar.proofs.NestingLaws.{pattern_kind_deep-Atom, pattern_kind_deep-Int, pattern_kind_deep-NegInt, pattern_kind_deep-Char, pattern_kind_deep-Str, pattern_kind_deep-Var, pattern_kind_deep-Paren, pattern_kind_deep-Tuple, pattern_kind_deep-Cells, pattern_kind_deep-Map, pattern_kind_deep-Rec, pattern_kind_deep-Alias}
use Rattle.erl_grammar.proofs.DeeperLaws.{pattern_falls}
use Rattle.erl_parser_tokens.specs.declared.height.Height.{Height}
use Rattle.erl_parser_tokens.specs.declared.height.Measured.{Measured}
use Rattle.erl_parser_tokens.specs.declared.fault.ParseFault.TheVariants as faults
use Rattle.erl_parser_tokens.specs.Heights.{flat, higher, above, measured}
use Rattle.erl_parser_tokens.specs.Tokens.{Answer, Reads, ◌>>=◌, first_place, is_mark, mark, begins_no_key, is_string, string_next, outside_behind_pattern}
use Rattle.erl_parser_patterns.specs.Scan.{leads_to}
use Rattle.erl_parser_tokens.specs.Parts.{Several, no_parts, with_part, Cells, read_field, built, within}
use Rattle.erl_parser_patterns.specs.Patterns.{Pattern, leaf, key_from, read_key, read_entry, read_negative, read_paren_pattern, read_tuple_pattern, read_list_pattern, read_map_pattern, read_record_pattern, read_hash_pattern, pattern_from_mark, pattern_from, read_simple_pattern, alias_of, read_alias, read_pattern_with, pattern_levels, read_pattern, read_left, read_string_pattern, no_outside}
use Rattle.erl_parser_patterns.specs.Patterns as Patterns
use Rattle.erl_parser_tokens.specs.Outside.{HasOutside, map_key, adjacent_strings, record_index}
use Rattle.erl_parser_tokens.specs.Outside as Outside
use Rattle.erl_parser_tokens.proofs.Right.{Measures, Read, IsRight, IsAgain}
use Rattle.erl_parser_tokens.proofs.HeightLaws.{among_front, among_behind, measures_as, nothing_measured, both_measured, node_measured, higher_within, above_within}
use Rattle.erl_parser_tokens.proofs.Then.{Behind, behind_token, behind_part, behind_behind, Right, right_ok, right_fault, right_outside, right_behind, right_then, right_next, right_case, right_if, right_within, right_is, IsRead, is_shallow, is_right, Again, again_ok, again_deep, again_as, again_from, again_then, again_step, again_none, again_some, again_true, again_false, again_within, IsPart, IsDeep, again_read, again_read_right, is_again, again_shallow}
use Rattle.erl_parser_tokens.proofs.TokenLaws.{text_is, stands_first, IsMarkNext, mark-other, mark-again, mark-takes, expect_mark, expect_mark-again, expect_atom, expect_atom-again, expect_integer, expect_integer-again, string_next-takes, outside_next-stands, outside_next-none, wrong_word-right}
use Rattle.erl_parser_patterns.proofs.PatternEnds.{EndsPattern, LeftRead, IsLeft}
use Rattle.erl_parser_tokens.proofs.PartLaws.{AreClosed, read_closed-right, IsTail, tail_cases, deep_cells-first, cells_behind, cells-first, ListRead, list_read, AreRight, read_cells-right, again_these, read_closed-again, again_cells, MayFollow, cells_follow, AreAgain, read_cells-again, read_field-right, read_field-again}
use Rattle.erl_parser_patterns.proofs.ScanLaws.{alias_text, pattern-leads_to_equals}

-- ---- keys

-- the tokens begin with this key
abbrev IsKeyNext : List Placed → Node LiteralKind × List Placed → Type 0
IsKeyNext ts k = IsKey k.0 × (ts ≡ literal_tokens k.0 ++ k.1)

key_from-right : (k : Token) (p : Place) (ts : List Placed) → Right (IsKeyNext (at k p ∷ ts)) (at k p ∷ ts) (key_from k p ts)
key_from-right (T.Atom a) p ts = right_ok (atom_key p a, refl)
key_from-right (T.Int n) p ts = right_ok (integer_key p n, refl)
key_from-right (T.Char c) p ts = right_ok (character_key p c, refl)
key_from-right (T.Mark m) p ts = right_if
    (λ e. right_next (behind_token refl) (expect_integer ts) λ n h. right_ok (negative_key p n.0.1 n.0.0, ap (λ z. at (T.Mark z) p ∷ ts) (text_is (codes "-") m e) ∙ ap (λ l. at (T.Mark (codes "-")) p ∷ l) h))
    (λ e. right_if (λ g. right_outside (stands_first (map_key (T.Mark m) p [] ts g))) (λ g. right_fault tt))
key_from-right (T.Var x) p ts = right_outside (stands_first (map_key (T.Var x) p [] ts refl))
key_from-right (T.Str s) p ts = right_outside (stands_first (map_key (T.Str s) p [] ts refl))
key_from-right _ p ts = right_fault {f = faults.Unexpected p} tt

read_key-right : (ts : List Placed) → Right (IsKeyNext ts) ts (read_key ts)
unfolding read_key
read_key-right [] = right_fault tt
read_key-right (t ∷ ts) = key_from-right t.token t.place ts

read_key-again : {k : Node LiteralKind} → IsKey k → (ts : List Placed) → read_key (literal_tokens k ++ ts) ≡ Ok (k, ts)
unfolding read_key
read_key-again (atom_key p a) ts = refl
read_key-again (integer_key p n) ts = refl
read_key-again (negative_key h p n) ts = rw (expect_integer-again n p ts) refl
read_key-again (character_key p c) ts = refl

-- ---- what is read is right

-- a node of a pattern was read, with its parts
built_read : {ts rest : List Placed} {o : Place} {ms : List Place} {kind : PatternKind} {h : Height} {levels : ℕ} → IsSimplePattern (node o ms kind) → ts ≡ pattern_tokens (node o ms kind) ++ rest → Measures (pattern_kind_deep kind) h → h.depth ≤ levels
    → Read IsSimplePattern pattern_tokens pattern_deep (suc levels) ts (built o ms kind h) rest
built_read {o = o} {ms = ms} {kind = kind} {h = h} {levels = levels} i e m l = record { formed = i; takes = e; measures = node_measured (node o ms (pattern_kind_deep kind)) h m; within = above_within o h levels l }

-- a node of one token was read
leaf_right : (levels : ℕ) (k : Token) (p : Place) (kind : PatternKind) (ts : List Placed) → IsSimplePattern (node p (p ∷ []) kind) → pattern_tokens (node p (p ∷ []) kind) ≡ at k p ∷ [] → ((n : ℕ) → pattern_kind_deep kind n ≡ [])
    → Right (IsRead IsSimplePattern pattern_tokens pattern_deep (suc levels) (at k p ∷ ts)) (at k p ∷ ts) (leaf p kind ts)
leaf_right levels k p kind ts i e d = right_ok (built_read i (ap (λ l. l ++ ts) (sym e)) (nothing_measured d) (omega arith))

-- a reader of patterns that answers what begins with these tokens rightly
abbrev pub ReadsSimple : ℕ → List Placed → Answer (Measured Pattern × List Placed) → Type 0
ReadsSimple levels ts answer = Right (IsRead IsSimplePattern pattern_tokens pattern_deep levels ts) ts answer

read_string_pattern-right : (levels : ℕ) (s : Name) (p : Place) (ts : List Placed) → ReadsSimple (suc levels) (at (T.Str s) p ∷ ts) (read_string_pattern s p ts)
unfolding read_string_pattern
read_string_pattern-right levels s p ts = right_if
    (λ e. let f = string_next-takes ts e in right_outside (subst (λ us. HasOutside (at (T.Str s) p ∷ us) p (codes "adjacent strings")) (sym f.3) (stands_first (adjacent_strings s f.0 p f.1 [] f.2))))
    (λ e. leaf_right levels (T.Str s) p (P.Str s) ts (string_pattern p s) (pattern_shown-Str s (p ∷ [])) (pattern_kind_deep-Str s))

read_negative-right : (levels : ℕ) (p : Place) (ts : List Placed) → ReadsSimple (suc levels) (at (T.Mark (codes "-")) p ∷ ts) (read_negative p ts)
unfolding read_negative
read_negative-right levels p ts = right_next (behind_token refl) (expect_integer ts) λ n h.
    right_ok (built_read (negative_pattern p n.0.1 n.0.0) (ap (λ l. at (T.Mark (codes "-")) p ∷ l) h ∙ ap (λ l. l ++ n.1) (sym (pattern_shown-NegInt n.0.0 (p ∷ n.0.1 ∷ [])))) (nothing_measured (pattern_kind_deep-NegInt n.0.0)) (omega arith))

module _ (levels : ℕ) (inner : Reads (Measured Pattern)) (inner-right : (ts : List Placed) → Right (IsRead IsPattern pattern_tokens pattern_deep levels ts) ts (inner ts)) where
  read_entry-right : (ts : List Placed) → Right (IsRead IsEntry pattern_entry_tokens (deep_second pattern_deep) levels ts) ts (read_entry inner ts)
  unfolding read_entry
  read_entry-right ts = right_then (read_key-right ts) λ k hk. right_next (behind_part _ hk.1) (expect_mark (codes ":=") k.1) λ m hm.
      right_next (behind_behind (behind_part _ hk.1) (behind_token hm)) (inner-right m.1) λ p h. right_ok (record {
        formed = entry k.0 p.0.tree m.0 hk.0 h.formed;
        takes = hk.1 ∙ (ap (λ l. literal_tokens k.0 ++ l) (hm ∙ ap (λ l. at (T.Mark (codes ":=")) m.0 ∷ l) (h.takes ∙ ap (λ l. l ++ p.1) (sym (append-nil (pattern_tokens p.0.tree)))))
            ∙ sym (append_assoc (literal_tokens k.0) (at (T.Mark (codes ":=")) m.0 ∷ (pattern_tokens p.0.tree ++ [])) p.1));
        measures = h.measures;
        within = h.within;
      })

  read_paren_pattern-right : (o : Place) (ts : List Placed) → ReadsSimple (suc levels) (at (T.Mark (codes "(")) o ∷ ts) (read_paren_pattern inner o ts)
  unfolding read_paren_pattern
  read_paren_pattern-right o ts = right_next (behind_token refl) (inner-right ts) λ p h. right_next (behind_behind (behind_token refl) (behind_part _ h.takes)) (expect_mark (codes ")") p.1) λ c g.
      right_ok (built_read (paren_pattern o c.0 p.0.tree h.formed)
      (ap (λ l. at (T.Mark (codes "(")) o ∷ l) (h.takes ∙ (ap (λ l. pattern_tokens p.0.tree ++ l) g ∙ sym (append_assoc (pattern_tokens p.0.tree) (at (T.Mark (codes ")")) c.0 ∷ []) c.1))) ∙ ap (λ l. l ++ c.1) (sym (pattern_shown-Paren p.0.tree (o ∷ c.0 ∷ []))))
      (measures_as (pattern_kind_deep-Paren p.0.tree) h.measures) h.within)

  -- what is in brackets, with its marks
  tuple_read : (o : Place) (ts : List Placed) (s : Several Pattern × List Placed) → AreClosed IsPattern pattern_tokens pattern_deep levels (codes "}") ts s → Read IsSimplePattern pattern_tokens pattern_deep (suc levels) (at (T.Mark (codes "{")) o ∷ ts) (built o (o ∷ s.0.marks) (P.Tuple s.0.items) s.0.height) s.1
  tuple_read o ts s r = built_read
      (subst (λ ms. IsSimplePattern (node o (o ∷ ms) (P.Tuple s.0.items))) (sym r.marks) (tuple_pattern o r.close r.between s.0.items r.gaps r.formed))
      (ap (λ l. at (T.Mark (codes "{")) o ∷ l) r.takes ∙ ap (λ l. l ++ s.1) (sym (pattern_shown-Tuple s.0.items (o ∷ s.0.marks))))
      (measures_as (pattern_kind_deep-Tuple s.0.items) r.measures) r.within

  read_tuple_pattern-right : (o : Place) (ts : List Placed) → ReadsSimple (suc levels) (at (T.Mark (codes "{")) o ∷ ts) (read_tuple_pattern inner o ts)
  unfolding read_tuple_pattern
  read_tuple_pattern-right o ts = right_next (behind_token refl) (read_closed-right IsPattern pattern_tokens pattern_deep levels inner inner-right (codes "}") ts) λ s r. right_ok (tuple_read o ts s r)

  map_read : (h o : Place) (ts : List Placed) (s : Several (Node (Node LiteralKind × Pattern)) × List Placed) → AreClosed IsEntry pattern_entry_tokens (deep_second pattern_deep) levels (codes "}") ts s
      → Read IsSimplePattern pattern_tokens pattern_deep (suc levels) (at (T.Mark (codes "#")) h ∷ at (T.Mark (codes "{")) o ∷ ts) (built h (h ∷ o ∷ s.0.marks) (P.Map s.0.items) s.0.height) s.1
  map_read h o ts s r = built_read
      (subst (λ ms. IsSimplePattern (node h (h ∷ o ∷ ms) (P.Map s.0.items))) (sym r.marks) (map_pattern h o r.close r.between s.0.items r.gaps r.formed))
      (ap (λ l. at (T.Mark (codes "#")) h ∷ at (T.Mark (codes "{")) o ∷ l) r.takes ∙ ap (λ l. l ++ s.1) (sym (pattern_shown-Map s.0.items (h ∷ o ∷ s.0.marks))))
      (measures_as (pattern_kind_deep-Map s.0.items) r.measures) r.within

  read_map_pattern-right : (h o : Place) (ts : List Placed) → ReadsSimple (suc levels) (at (T.Mark (codes "#")) h ∷ at (T.Mark (codes "{")) o ∷ ts) (read_map_pattern inner h o ts)
  unfolding read_map_pattern
  read_map_pattern-right h o ts = right_next (behind_behind (behind_token refl) (behind_token refl)) (read_closed-right IsEntry pattern_entry_tokens (deep_second pattern_deep) levels (read_entry inner) read_entry-right (codes "}") ts) λ s r. right_ok (map_read h o ts s r)

  record_read : (h n o : Place) (name : Name) (ts : List Placed) (s : Several (Node (Name × Pattern)) × List Placed) → AreClosed IsFieldPattern pattern_field_tokens (deep_second pattern_deep) levels (codes "}") ts s
      → Read IsSimplePattern pattern_tokens pattern_deep (suc levels) (at (T.Mark (codes "#")) h ∷ at (T.Atom name) n ∷ at (T.Mark (codes "{")) o ∷ ts) (built h (h ∷ n ∷ o ∷ s.0.marks) (P.Rec name name s.0.items) s.0.height) s.1
  record_read h n o name ts s r = built_read
      (subst (λ ms. IsSimplePattern (node h (h ∷ n ∷ o ∷ ms) (P.Rec name name s.0.items))) (sym r.marks) (record_pattern h n o r.close r.between name s.0.items r.gaps r.formed))
      (ap (λ l. at (T.Mark (codes "#")) h ∷ at (T.Atom name) n ∷ at (T.Mark (codes "{")) o ∷ l) r.takes ∙ ap (λ l. l ++ s.1) (sym (pattern_shown-Rec name name s.0.items (h ∷ n ∷ o ∷ s.0.marks))))
      (measures_as (pattern_kind_deep-Rec name name s.0.items) r.measures) r.within

  read_record_pattern-right : (h : Place) (ts : List Placed) → ReadsSimple (suc levels) (at (T.Mark (codes "#")) h ∷ ts) (read_record_pattern inner h ts)
  unfolding read_record_pattern
  read_record_pattern-right h ts = right_next (behind_token refl) (expect_atom ts) λ a ha. let one = behind_behind (behind_token refl) (behind_token ha) in right_case
      (λ e. right_next one (expect_mark (codes "{") a.1) λ o ho. let two = behind_behind one (behind_token ho) in
      right_next two (read_closed-right IsFieldPattern pattern_field_tokens (deep_second pattern_deep) levels (read_field inner) (read_field-right IsPattern pattern_tokens pattern_deep levels inner IsFieldPattern field_pattern inner-right) (codes "}") o.1) λ s r.
      right_ok (subst (λ l. Read IsSimplePattern pattern_tokens pattern_deep (suc levels) l (built h (h ∷ a.0.1 ∷ o.0 ∷ s.0.marks) (P.Rec a.0.0 a.0.0 s.0.items) s.0.height) s.1)
      (sym (ap (λ l. at (T.Mark (codes "#")) h ∷ l) (ha ∙ ap (λ l. at (T.Atom a.0.0) a.0.1 ∷ l) ho))) (record_read h a.0.1 o.0 a.0.0 o.1 s r)))
      (λ d e. right_outside (subst (λ l. HasOutside l h (codes "record index")) (sym (ap (λ l. at (T.Mark (codes "#")) h ∷ l) (ha ∙ ap (λ l. at (T.Atom a.0.0) a.0.1 ∷ l) (mark-takes (codes ".") a.1 d e)))) (stands_first (record_index a.0.0 h a.0.1 d.0 [] d.1))))

  read_hash_pattern-right : (h : Place) (ts : List Placed) → ReadsSimple (suc levels) (at (T.Mark (codes "#")) h ∷ ts) (read_hash_pattern inner h ts)
  unfolding read_hash_pattern
  read_hash_pattern-right h ts = right_case
      (λ e. read_record_pattern-right h ts)
      (λ o e. subst (λ l. ReadsSimple (suc levels) l (read_map_pattern inner h o.0 o.1)) (sym (ap (λ l. at (T.Mark (codes "#")) h ∷ l) (mark-takes (codes "{") ts o e))) (read_map_pattern-right h o.0 o.1))

-- a list with elements, by the marks of what closes it
cells_formed : (o : Place) (between : List Place) (p : Pattern) (ps : List Pattern) → AreSeparators (p ∷ ps) between → ((q : Pattern) → Among q (p ∷ ps) → IsPattern q) → (tail : Option Pattern) (ends : List Place) → IsTail IsPattern tail ends → IsSimplePattern (node o (o ∷ (between ++ ends)) (P.Cells (p ∷ ps) tail))
cells_formed o between p ps g i = tail_cases IsPattern (λ tail ends. IsSimplePattern (node o (o ∷ (between ++ ends)) (P.Cells (p ∷ ps) tail))) (λ c. list_pattern o c between (p ∷ ps) g i) (λ b c t j. cells_pattern o b c between p t ps g i j)

cells_read : (levels : ℕ) (o : Place) (ts : List Placed) (cs : Cells Pattern × List Placed) → ListRead IsPattern pattern_tokens pattern_deep levels ts cs → Read IsSimplePattern pattern_tokens pattern_deep (suc levels) (at (T.Mark (codes "[")) o ∷ ts) (Patterns.list_pattern o cs.0) cs.1
cells_read levels o ts cs r =
    let ps : List Pattern = r.first ∷ r.others in
    let ms : List Place = r.between ++ r.ends in
    subst (λ z. Read IsSimplePattern pattern_tokens pattern_deep (suc levels) (at (T.Mark (codes "[")) o ∷ ts) (Patterns.list_pattern o z) cs.1) (sym r.same)
    (built_read (cells_formed o r.between r.first r.others r.gaps r.formed cs.0.tail r.ends r.closed)
    (ap (λ l. at (T.Mark (codes "[")) o ∷ l) r.takes ∙ ap (λ l. l ++ cs.1) (sym (pattern_shown-Cells ps cs.0.tail (o ∷ ms))))
    (measures_as (pattern_kind_deep-Cells ps cs.0.tail) r.measures) r.within)

read_list_pattern-right : (deeper : List (Reads (Measured Pattern))) (inner : Reads (Measured Pattern)) → AreRight IsPattern pattern_tokens pattern_deep (inner ∷ deeper) → (o : Place) (ts : List Placed) → ReadsSimple (suc (length deeper)) (at (T.Mark (codes "[")) o ∷ ts) (read_list_pattern deeper inner o ts)
unfolding read_list_pattern
read_list_pattern-right deeper inner r o ts = right_case
    (λ e. right_next (behind_token refl) (r.0 ts) λ p h. right_next (behind_behind (behind_token refl) (behind_part _ h.takes))
    (read_cells-right IsPattern pattern_tokens pattern_deep deeper inner 0 (with_part no_parts p.0) p.1 r.1 r.0) λ cs c. right_ok (cells_read (length deeper) o ts cs (list_read p.0 cs h c)))
    (λ c e. right_ok (built_read (list_pattern o c.0 [] [] tt (λ p a. elim a [ ])) (ap (λ l. at (T.Mark (codes "[")) o ∷ l) (mark-takes (codes "]") ts c e) ∙ ap (λ l. l ++ c.1) (sym (pattern_shown-Cells [] None (o ∷ c.0 ∷ [])))) (nothing_measured (pattern_kind_deep-Cells [] None)) (omega arith)))

-- the token is the mark with this text
by_text : {levels : ℕ} {m text : List ℕ} {p : Place} {ts : List Placed} {answer : Answer (Measured Pattern × List Placed)} → bytes_eq m text ≡ true → ReadsSimple levels (at (T.Mark text) p ∷ ts) answer → ReadsSimple levels (at (T.Mark m) p ∷ ts) answer
by_text {levels} {m} {text} {p} {ts} {answer} e r = subst (λ z. ReadsSimple levels (at (T.Mark z) p ∷ ts) answer) (sym (text_is text m e)) r

module _ (deeper : List (Reads (Measured Pattern))) (inner : Reads (Measured Pattern)) (r : AreRight IsPattern pattern_tokens pattern_deep (inner ∷ deeper)) where
  pattern_from-right : (k : Token) (p : Place) (ts : List Placed) → ReadsSimple (suc (length deeper)) (at k p ∷ ts) (pattern_from k p deeper inner ts)
  pattern_from-right (T.Atom a) p ts = leaf_right (length deeper) (T.Atom a) p (P.Atom a) ts (atom_pattern p a) (pattern_shown-Atom a (p ∷ [])) (pattern_kind_deep-Atom a)
  pattern_from-right (T.Int n) p ts = leaf_right (length deeper) (T.Int n) p (P.Int n) ts (integer_pattern p n) (pattern_shown-Int n (p ∷ [])) (pattern_kind_deep-Int n)
  pattern_from-right (T.Char c) p ts = leaf_right (length deeper) (T.Char c) p (P.Char c) ts (character_pattern p c) (pattern_shown-Char c (p ∷ [])) (pattern_kind_deep-Char c)
  pattern_from-right (T.Str s) p ts = read_string_pattern-right (length deeper) s p ts
  pattern_from-right (T.Var x) p ts = leaf_right (length deeper) (T.Var x) p (P.Var x) ts (variable_pattern p x) (pattern_shown-Var x (p ∷ [])) (pattern_kind_deep-Var x)
  pattern_from-right (T.Mark m) p ts =
      right_if (λ e. by_text e (read_paren_pattern-right (length deeper) inner r.0 p ts)) λ e.
      right_if (λ e. by_text e (read_tuple_pattern-right (length deeper) inner r.0 p ts)) λ e.
      right_if (λ e. by_text e (read_list_pattern-right deeper inner r p ts)) λ e.
      right_if (λ e. by_text e (read_hash_pattern-right (length deeper) inner r.0 p ts)) λ e.
      right_if (λ e. by_text e (read_negative-right (length deeper) p ts)) λ e. right_fault {f = faults.Unexpected p} tt
  pattern_from-right (T.Word w) p ts = wrong_word-right w p ts
  pattern_from-right _ p ts = right_fault {f = faults.Unexpected p} tt

-- a pattern without `=` is read rightly
pub read_simple_pattern-right : (readers : List (Reads (Measured Pattern))) → AreRight IsPattern pattern_tokens pattern_deep readers → (ts : List Placed) → ReadsSimple (length readers) ts (read_simple_pattern readers ts)
unfolding read_simple_pattern
read_simple_pattern-right readers r [] = right_fault tt
read_simple_pattern-right [] r (t ∷ ts) = right_fault tt
read_simple_pattern-right (inner ∷ deeper) r (t ∷ ts) = pattern_from-right deeper inner r t.token t.place ts

-- a form outside of the profile behind a pattern
right_no_outside : {X : Type 0} {G : X → Type 0} {levels : ℕ} {ts us : List Placed} {p : Measured Pattern} {answer : Answer X} → Read IsSimplePattern pattern_tokens pattern_deep levels ts p us → Right G ts answer → Right G ts (no_outside us answer)
right_no_outside {us = us} {p = p} h a = right_case (λ e. a) (λ o e. right_behind (behind_part [] h.takes) (right_outside (outside_next-stands p.tree us h.formed o e)))

-- a pattern without `=` is a pattern
simple_is : {levels : ℕ} {ts rest : List Placed} {p : Measured Pattern} → Read IsSimplePattern pattern_tokens pattern_deep levels ts p rest → Read IsPattern pattern_tokens pattern_deep levels ts p rest
simple_is {p = p} h = record { formed = one_pattern p.tree h.formed; takes = h.takes; measures = h.measures; within = h.within }

-- `P = Q` was read
alias_read : {levels : ℕ} {ts us vs rest : List Placed} {p q : Measured Pattern} (m : Place) → Read IsSimplePattern pattern_tokens pattern_deep (suc levels) ts p us → us ≡ at (T.Mark (codes "=")) m ∷ vs → p.height.depth ≤ levels → Read IsPattern pattern_tokens pattern_deep levels vs q rest
    → Read IsPattern pattern_tokens pattern_deep (suc levels) ts (alias_of p m q) rest
alias_read {levels = levels} {ts = ts} {rest = rest} {p = p} {q = q} m h e l g = record {
  formed = alias p.tree q.tree m h.formed g.formed;
  takes = h.takes ∙ (ap (λ l. pattern_tokens p.tree ++ l) (e ∙ ap (λ l. at (T.Mark (codes "=")) m ∷ l) g.takes) ∙ sym (alias_text p.tree q.tree m rest));
  measures = node_measured (node p.tree.place (m ∷ []) (pattern_kind_deep (P.Alias p.tree q.tree))) (higher p.height q.height) (measures_as (pattern_kind_deep-Alias p.tree q.tree) (both_measured h.measures g.measures));
  within = above_within p.tree.place (higher p.height q.height) levels (higher_within p.height q.height levels l g.within);
}

read_alias-right : (readers : List (Reads (Measured Pattern))) → AreRight IsPattern pattern_tokens pattern_deep readers → (ts : List Placed) (p : Measured Pattern) (us : List Placed) → Read IsSimplePattern pattern_tokens pattern_deep (length readers) ts p us
    → Right (IsRead IsPattern pattern_tokens pattern_deep (length readers) ts) ts (read_alias readers p us)
read_alias-right [] r ts p us h = right_ok (simple_is h)
read_alias-right (inner ∷ deeper) r ts p us h = right_case
    (λ e. right_ok (simple_is h))
    (λ m e. let g = mark-takes (codes "=") us m e in right_within (length deeper) p λ l.
    right_next (behind_behind (behind_part _ h.takes) (behind_token g)) (r.0 m.1) λ q k. right_ok (alias_read m.0 h g l k))

-- a pattern is read rightly
pub read_pattern_with-right : (readers : List (Reads (Measured Pattern))) → AreRight IsPattern pattern_tokens pattern_deep readers → (ts : List Placed) → Right (IsRead IsPattern pattern_tokens pattern_deep (length readers) ts) ts (read_pattern_with readers ts)
unfolding read_pattern_with
read_pattern_with-right readers r ts = right_then (read_simple_pattern-right readers r ts) λ p h. right_no_outside h (read_alias-right readers r ts p.0 p.1 h)

left_read : {levels : ℕ} {ts us : List Placed} {p : Measured Pattern} (m : Place × List Placed) → Read IsSimplePattern pattern_tokens pattern_deep levels ts p us → IsMarkNext (codes "=") us m → Read IsPattern pattern_tokens pattern_deep levels ts p (at (T.Mark (codes "=")) m.0 ∷ m.1)
left_read {p = p} m h e = record { formed = one_pattern p.tree h.formed; takes = h.takes ∙ ap (λ l. pattern_tokens p.tree ++ l) e; measures = h.measures; within = h.within }

-- the left side of a match is read rightly
pub read_left-right : (readers : List (Reads (Measured Pattern))) → AreRight IsPattern pattern_tokens pattern_deep readers → (ts : List Placed) → Right (LeftRead (length readers) ts) ts (read_left readers ts)
unfolding read_left
read_left-right [] r ts = right_fault tt
read_left-right (inner ∷ deeper) r ts = right_then (read_simple_pattern-right (inner ∷ deeper) r ts) λ p h. right_no_outside h
    (right_next (behind_part _ h.takes) (expect_mark (codes "=") p.1) λ m e. right_if
    (λ t. right_within (length deeper) p.0 λ l. right_next (behind_behind (behind_part _ h.takes) (behind_token e)) (read_left-right deeper r.1 m.1) λ q g. right_ok (record { read = alias_read m.0 h e l g.read }))
    (λ t. right_ok (record { read = left_read m h e })))

-- ---- the first token of a pattern

-- the tokens of a pattern begin with one at its place, which closes no brackets
pub record Begins (x : Pattern) : Type 0 where
  pub token : Token
  pub behind : List Placed
  pub begins : pattern_tokens x ≡ at token x.place ∷ behind
  pub no_paren : is_mark (codes ")") token ≡ false
  pub no_brace : is_mark (codes "}") token ≡ false
  pub no_bracket : is_mark (codes "]") token ≡ false

begins_with : {x : Pattern} (t : Token) {us : List Placed} → pattern_tokens x ≡ at t x.place ∷ us → is_mark (codes ")") t ≡ false → is_mark (codes "}") t ≡ false → is_mark (codes "]") t ≡ false → Begins x
begins_with t {us = us} e a b c = record { token = t; behind = us; begins = e; no_paren = a; no_brace = b; no_bracket = c }

simple_begins : {x : Pattern} → IsSimplePattern x → Begins x
simple_begins (atom_pattern p a) = begins_with (T.Atom a) (pattern_shown-Atom a (p ∷ [])) refl refl refl
simple_begins (integer_pattern p n) = begins_with (T.Int n) (pattern_shown-Int n (p ∷ [])) refl refl refl
simple_begins (negative_pattern h p n) = begins_with (T.Mark (codes "-")) (pattern_shown-NegInt n (h ∷ p ∷ [])) refl refl refl
simple_begins (character_pattern p c) = begins_with (T.Char c) (pattern_shown-Char c (p ∷ [])) refl refl refl
simple_begins (string_pattern p s) = begins_with (T.Str s) (pattern_shown-Str s (p ∷ [])) refl refl refl
simple_begins (variable_pattern p x) = begins_with (T.Var x) (pattern_shown-Var x (p ∷ [])) refl refl refl
simple_begins (paren_pattern o c p i) = begins_with (T.Mark (codes "(")) (pattern_shown-Paren p (o ∷ c ∷ [])) refl refl refl
simple_begins (tuple_pattern o c ms ps g i) = begins_with (T.Mark (codes "{")) (pattern_shown-Tuple ps (o ∷ (ms ++ c ∷ []))) refl refl refl
simple_begins (list_pattern o c ms ps g i) = begins_with (T.Mark (codes "[")) (pattern_shown-Cells ps None (o ∷ (ms ++ c ∷ []))) refl refl refl
simple_begins (cells_pattern o b c ms p t ps g i j) = begins_with (T.Mark (codes "[")) (pattern_shown-Cells (p ∷ ps) (Some t) (o ∷ (ms ++ b ∷ c ∷ []))) refl refl refl
simple_begins (map_pattern h o c ms entries g i) = begins_with (T.Mark (codes "#")) (pattern_shown-Map entries (h ∷ o ∷ (ms ++ c ∷ []))) refl refl refl
simple_begins (record_pattern h n o c ms name fields g i) = begins_with (T.Mark (codes "#")) (pattern_shown-Rec name name fields (h ∷ n ∷ o ∷ (ms ++ c ∷ []))) refl refl refl

pub pattern_begins : {x : Pattern} → IsPattern x → Begins x
pattern_begins (one_pattern p i) = simple_begins i
pattern_begins (alias p q m i j) =
    let b = simple_begins i in
    begins_with b.token (pattern_shown-Alias p q (m ∷ []) ∙ ap (λ l. l ++ (at (T.Mark (codes "=")) m ∷ (pattern_tokens q ++ []))) b.begins) b.no_paren b.no_brace b.no_bracket

pub pattern_first_place : {x : Pattern} → IsPattern x → (us : List Placed) → first_place (pattern_tokens x ++ us) ≡ x.place
pattern_first_place i us = ap (λ l. first_place (l ++ us)) (pattern_begins i).begins

-- a pattern for which no level is left
pattern_first : (x : Pattern) (us : List Placed) → IsPattern x → IsDeep pattern_deep 0 x (first_place (pattern_tokens x ++ us))
pattern_first x us i = inl (pattern_first_place i us)

pub pattern_no_paren : (x : Pattern) (us : List Placed) → IsPattern x → mark (codes ")") (pattern_tokens x ++ us) ≡ None
pattern_no_paren x us i = let b = pattern_begins i in ap (λ l. mark (codes ")") (l ++ us)) b.begins ∙ mark-other (codes ")") b.token x.place (b.behind ++ us) b.no_paren

pub pattern_no_brace : (x : Pattern) (us : List Placed) → IsPattern x → mark (codes "}") (pattern_tokens x ++ us) ≡ None
pattern_no_brace x us i = let b = pattern_begins i in ap (λ l. mark (codes "}") (l ++ us)) b.begins ∙ mark-other (codes "}") b.token x.place (b.behind ++ us) b.no_brace

pub pattern_no_bracket : (x : Pattern) (us : List Placed) → IsPattern x → mark (codes "]") (pattern_tokens x ++ us) ≡ None
pattern_no_bracket x us i = let b = pattern_begins i in ap (λ l. mark (codes "]") (l ++ us)) b.begins ∙ mark-other (codes "]") b.token x.place (b.behind ++ us) b.no_bracket

-- ---- what may follow a pattern

-- any other token may follow
pub token_ends_pattern : (t : Token) (p : Place) (ts : List Placed) → is_mark (codes "=") t ≡ false → outside_behind_pattern t ≡ None → is_string t ≡ false → EndsPattern (at t p ∷ ts)
unfolding string_next
token_ends_pattern t p ts e o s = record { no_equals = mark-other (codes "=") t p ts e; none_outside = outside_next-none t p ts o; no_string = s }

pub mark_ends_pattern : (text : List ℕ) (p : Place) (ts : List Placed) → bytes_eq text (codes "=") ≡ false → outside_behind_pattern (T.Mark text) ≡ None → EndsPattern (at (T.Mark text) p ∷ ts)
mark_ends_pattern text p ts e o = token_ends_pattern (T.Mark text) p ts e o refl

pub end_ends_pattern : (p : Place) (ts : List Placed) → EndsPattern (at T.End p ∷ ts)
end_ends_pattern p ts = token_ends_pattern T.End p ts refl refl refl

-- the punctuation that follows patterns
pub ends_comma : (p : Place) (ts : List Placed) → EndsPattern (at (T.Mark (codes ",")) p ∷ ts)
ends_comma p ts = mark_ends_pattern (codes ",") p ts refl refl

pub ends_paren : (p : Place) (ts : List Placed) → EndsPattern (at (T.Mark (codes ")")) p ∷ ts)
ends_paren p ts = mark_ends_pattern (codes ")") p ts refl refl

pub ends_bracket : (p : Place) (ts : List Placed) → EndsPattern (at (T.Mark (codes "]")) p ∷ ts)
ends_bracket p ts = mark_ends_pattern (codes "]") p ts refl refl

pub ends_brace : (p : Place) (ts : List Placed) → EndsPattern (at (T.Mark (codes "}")) p ∷ ts)
ends_brace p ts = mark_ends_pattern (codes "}") p ts refl refl

pub ends_bar : (p : Place) (ts : List Placed) → EndsPattern (at (T.Mark (codes "|")) p ∷ ts)
ends_bar p ts = mark_ends_pattern (codes "|") p ts refl refl

pub patterns_follow : MayFollow EndsPattern
patterns_follow = record { comma = ends_comma; bar = ends_bar; bracket = ends_bracket }

-- ---- what is well formed is read again

-- a node in a pattern is nested too deep
in_kind : (levels : ℕ) (l : Place) {f : Deep} (kind : PatternKind) → ((n : ℕ) → pattern_kind_deep kind n ≡ f n) → Among l (f levels) → Among l (pattern_kind_deep kind levels)
in_kind levels l kind e d = subst (Among l) (sym (e levels)) d

-- this pattern is read again, or a node of it is nested too deep
abbrev pub AgainPattern : ℕ → Pattern → List Placed → Answer (Measured Pattern × List Placed) → Type 0
AgainPattern levels x rest answer = Again (IsPart x rest) (IsDeep pattern_deep levels x) answer

module _ (levels : ℕ) (inner : Reads (Measured Pattern)) (inner-again : (x : Pattern) (rest : List Placed) → IsPattern x → EndsPattern rest → AgainPattern levels x rest (inner (pattern_tokens x ++ rest))) where
  entry_again : (n : Node (Node LiteralKind × Pattern)) (rest : List Placed) → IsEntry n → EndsPattern rest → Again (IsPart n rest) (IsDeep (deep_second pattern_deep) levels n) (read_entry inner (pattern_entry_tokens n ++ rest))
  unfolding read_entry
  entry_again _ rest (entry k p m i j) ends = again_from (ap (read_entry inner) (append_assoc (literal_tokens k) (at (T.Mark (codes ":=")) m ∷ (pattern_tokens p ++ [])) rest ∙ ap (λ l. literal_tokens k ++ (at (T.Mark (codes ":=")) m ∷ (l ++ rest))) (append-nil (pattern_tokens p))))
      (again_step _ (read_key-again i (at (T.Mark (codes ":=")) m ∷ (pattern_tokens p ++ rest))) (again_step _ (expect_mark-again (codes ":=") m (pattern_tokens p ++ rest))
      (again_read _ (inner-again p rest j ends) (λ l d. d) λ h. again_ok (h, refl))))

  field_again : (f : Node (Name × Pattern)) (rest : List Placed) → IsFieldPattern f → EndsPattern rest → Again (IsPart f rest) (IsDeep (deep_second pattern_deep) levels f) (read_field inner (pattern_field_tokens f ++ rest))
  field_again _ rest (field_pattern n m name p i) ends = read_field-again IsPattern pattern_tokens pattern_deep levels inner n m name p rest (inner-again p rest i ends)

  key_no_brace : {k : Node LiteralKind} (us : List Placed) → IsKey k → mark (codes "}") (literal_tokens k ++ us) ≡ None
  unfolding mark
  key_no_brace us (atom_key p a) = refl
  key_no_brace us (integer_key p n) = refl
  key_no_brace us (negative_key h p n) = refl
  key_no_brace us (character_key p c) = refl

  entry_no_brace : (n : Node (Node LiteralKind × Pattern)) (us : List Placed) → IsEntry n → mark (codes "}") (pattern_entry_tokens n ++ us) ≡ None
  entry_no_brace _ us (entry k p m i j) = ap (mark (codes "}")) (append_assoc (literal_tokens k) (at (T.Mark (codes ":=")) m ∷ (pattern_tokens p ++ [])) us) ∙ key_no_brace (at (T.Mark (codes ":=")) m ∷ ((pattern_tokens p ++ []) ++ us)) i

  field_no_brace : (f : Node (Name × Pattern)) (us : List Placed) → IsFieldPattern f → mark (codes "}") (pattern_field_tokens f ++ us) ≡ None
  unfolding mark
  field_no_brace _ us (field_pattern n m name p i) = refl

brace_no_comma : (c : Place) (us : List Placed) → mark (codes ",") (at (T.Mark (codes "}")) c ∷ us) ≡ None
brace_no_comma c us = mark-other (codes ",") (T.Mark (codes "}")) c us refl

module _ (deeper : List (Reads (Measured Pattern))) (inner : Reads (Measured Pattern)) (a : AreAgain IsPattern pattern_tokens pattern_deep EndsPattern (inner ∷ deeper)) where
  -- a list with elements is read again
  cells_again : (o : Place) (between ends : List Place) (p : Pattern) (ps : List Pattern) (tail : Option Pattern) (rest : List Placed) → AreSeparators (p ∷ ps) between → ((q : Pattern) → Among q (p ∷ ps) → IsPattern q) → IsTail IsPattern tail ends
      → Again (IsPart (node o (o ∷ (between ++ ends)) (P.Cells (p ∷ ps) tail)) rest) (λ l. Among l (deep_cells pattern_deep (p ∷ ps) tail (length deeper))) (read_list_pattern deeper inner o (fill (commas (map pattern_tokens (p ∷ ps)) ++ tail_pieces pattern_tokens tail) (between ++ ends) ++ rest))
  unfolding read_list_pattern
  cells_again o between ends p ps tail rest g i t =
      let us : List Placed = fill (cells_behind pattern_tokens ps tail) (between ++ ends) ++ rest in
      again_from (ap (read_list_pattern deeper inner o) (cells-first pattern_tokens p ps tail (between ++ ends) rest))
      (again_none _ (pattern_no_bracket p us (i p (inl refl)))
      (again_read _ (a.0 p us (i p (inl refl)) (cells_follow IsPattern pattern_tokens pattern_deep EndsPattern patterns_follow pattern_first p ps tail between ends rest g t)) (λ l d. subst (Among l) (sym (deep_cells-first pattern_deep p ps tail (length deeper))) (among_front l (pattern_deep p (length deeper)) _ d)) λ h.
      again_cells _ (read_cells-again IsPattern pattern_tokens pattern_deep EndsPattern patterns_follow pattern_first deeper inner 0 (with_part no_parts (measured p h)) p ps tail between ends rest (λ q b. i q (inr b)) g t a.1 a.0)
      (λ l d. subst (Among l) (sym (deep_cells-first pattern_deep p ps tail (length deeper))) (among_behind l (pattern_deep p (length deeper)) _ d)) λ k. again_ok (above o k, refl)))

  again_empty : (o c : Place) (rest : List Placed) → AgainPattern (suc (length deeper)) (node o (o ∷ c ∷ []) (P.Cells [] None)) rest (read_list_pattern deeper inner o (at (T.Mark (codes "]")) c ∷ rest))
  unfolding read_list_pattern
  again_empty o c rest = again_some _ _ (mark-again (codes "]") c rest) (again_ok (above o flat, refl))

  again_leaf : {x : Pattern} (t : Token) (p : Place) (rest : List Placed) (h : Height) → pattern_tokens x ≡ at t p ∷ [] → pattern_from t p deeper inner rest ≡ Ok (measured x h, rest) → AgainPattern (suc (length deeper)) x rest (read_simple_pattern (inner ∷ deeper) (pattern_tokens x ++ rest))
  unfolding read_simple_pattern
  again_leaf t p rest h e f = again_from (ap (λ l. read_simple_pattern (inner ∷ deeper) (l ++ rest)) e ∙ f) (again_ok (h, refl))

  string_again : (s : Name) (p : Place) (rest : List Placed) → string_next rest ≡ false → read_string_pattern s p rest ≡ Ok (measured (node p (p ∷ []) (P.Str s)) (above p flat), rest)
  unfolding read_string_pattern
  string_again s p rest n = rw n refl

  simple_again : {x : Pattern} → IsSimplePattern x → (rest : List Placed) → string_next rest ≡ false → AgainPattern (suc (length deeper)) x rest (read_simple_pattern (inner ∷ deeper) (pattern_tokens x ++ rest))
  unfolding read_simple_pattern read_negative read_paren_pattern read_tuple_pattern read_map_pattern read_record_pattern read_hash_pattern
  simple_again (atom_pattern p b) rest n = again_leaf (T.Atom b) p rest (above p flat) (pattern_shown-Atom b (p ∷ [])) refl
  simple_again (integer_pattern p n) rest w = again_leaf (T.Int n) p rest (above p flat) (pattern_shown-Int n (p ∷ [])) refl
  simple_again (negative_pattern h p n) rest w = again_from (ap (λ l. read_simple_pattern (inner ∷ deeper) (l ++ rest)) (pattern_shown-NegInt n (h ∷ p ∷ []))) (again_step _ (expect_integer-again n p rest) (again_ok (above h flat, refl)))
  simple_again (character_pattern p c) rest n = again_leaf (T.Char c) p rest (above p flat) (pattern_shown-Char c (p ∷ [])) refl
  simple_again (string_pattern p s) rest n = again_leaf (T.Str s) p rest (above p flat) (pattern_shown-Str s (p ∷ [])) (string_again s p rest n)
  simple_again (variable_pattern p x) rest n = again_leaf (T.Var x) p rest (above p flat) (pattern_shown-Var x (p ∷ [])) refl
  simple_again (paren_pattern o c p i) rest n = again_from (ap (λ l. read_simple_pattern (inner ∷ deeper) (l ++ rest)) (pattern_shown-Paren p (o ∷ c ∷ [])) ∙ ap (read_paren_pattern inner o) (append_assoc (pattern_tokens p) (at (T.Mark (codes ")")) c ∷ []) rest))
      (again_read _ (a.0 p (at (T.Mark (codes ")")) c ∷ rest) i (ends_paren c rest)) (λ l d. in_kind (length deeper) l (P.Paren p) (pattern_kind_deep-Paren p) d) λ h.
      again_step _ (expect_mark-again (codes ")") c rest) (again_ok (above o h, refl)))
  simple_again (tuple_pattern o c ms ps g i) rest n = again_from (ap (λ l. read_simple_pattern (inner ∷ deeper) (l ++ rest)) (pattern_shown-Tuple ps (o ∷ (ms ++ c ∷ []))))
      (again_these _ (read_closed-again IsPattern pattern_tokens pattern_deep (length deeper) EndsPattern inner a.0 (codes "}") ends_comma ends_brace brace_no_comma pattern_no_brace ps ms c rest i g) (λ l d. in_kind (length deeper) l (P.Tuple ps) (pattern_kind_deep-Tuple ps) d) λ h.
      again_ok (above o h, refl))
  simple_again (list_pattern o c [] [] g i) rest n = again_from (ap (λ l. read_simple_pattern (inner ∷ deeper) (l ++ rest)) (pattern_shown-Cells [] None (o ∷ c ∷ []))) (again_empty o c rest)
  simple_again (list_pattern o c ms (p ∷ ps) g i) rest n = again_from (ap (λ l. read_simple_pattern (inner ∷ deeper) (l ++ rest)) (pattern_shown-Cells (p ∷ ps) None (o ∷ (ms ++ c ∷ []))))
      (again_as (λ q r. r) (λ l d. in_kind (length deeper) l (P.Cells (p ∷ ps) None) (pattern_kind_deep-Cells (p ∷ ps) None) d) (cells_again o ms (c ∷ []) p ps None rest g i tt))
  simple_again (list_pattern o c (m ∷ ms) [] g i) rest n = absurd g
  simple_again (cells_pattern o b c ms p t ps g i j) rest n = again_from (ap (λ l. read_simple_pattern (inner ∷ deeper) (l ++ rest)) (pattern_shown-Cells (p ∷ ps) (Some t) (o ∷ (ms ++ b ∷ c ∷ []))))
      (again_as (λ q r. r) (λ l d. in_kind (length deeper) l (P.Cells (p ∷ ps) (Some t)) (pattern_kind_deep-Cells (p ∷ ps) (Some t)) d) (cells_again o ms (b ∷ c ∷ []) p ps (Some t) rest g i j))
  simple_again (map_pattern h o c ms entries g i) rest n = again_from (ap (λ l. read_simple_pattern (inner ∷ deeper) (l ++ rest)) (pattern_shown-Map entries (h ∷ o ∷ (ms ++ c ∷ []))))
      (again_some _ _ (mark-again (codes "{") o _)
      (again_these _ (read_closed-again IsEntry pattern_entry_tokens (deep_second pattern_deep) (length deeper) EndsPattern (read_entry inner) (entry_again (length deeper) inner a.0) (codes "}") ends_comma ends_brace brace_no_comma (entry_no_brace (length deeper) inner a.0) entries ms c rest i g) (λ l d. in_kind (length deeper) l (P.Map entries) (pattern_kind_deep-Map entries) d) λ k.
      again_ok (above h k, refl)))
  simple_again (record_pattern h n o c ms name fields g i) rest w = again_from (ap (λ l. read_simple_pattern (inner ∷ deeper) (l ++ rest)) (pattern_shown-Rec name name fields (h ∷ n ∷ o ∷ (ms ++ c ∷ []))))
      (again_none _ (mark-other (codes "{") (T.Atom name) n _ refl) (again_step _ (expect_atom-again name n _) (again_none _ (mark-other (codes ".") (T.Mark (codes "{")) o _ refl) (again_step _ (expect_mark-again (codes "{") o _)
      (again_these _ (read_closed-again IsFieldPattern pattern_field_tokens (deep_second pattern_deep) (length deeper) EndsPattern (read_field inner) (field_again (length deeper) inner a.0) (codes "}") ends_comma ends_brace brace_no_comma (field_no_brace (length deeper) inner a.0) fields ms c rest i g) (λ l d. in_kind (length deeper) l (P.Rec name name fields) (pattern_kind_deep-Rec name name fields) d) λ k.
      again_ok (above h k, refl))))))

-- the readers read rightly, and again
abbrev pub AreReaders : List (Reads (Measured Pattern)) → Type 0
AreReaders readers = AreRight IsPattern pattern_tokens pattern_deep readers × AreAgain IsPattern pattern_tokens pattern_deep EndsPattern readers

-- a pattern without `=` is read again, where no string follows
pub read_simple_pattern-again : (readers : List (Reads (Measured Pattern))) → AreReaders readers → {x : Pattern} → IsSimplePattern x → (rest : List Placed) → string_next rest ≡ false → AgainPattern (length readers) x rest (read_simple_pattern readers (pattern_tokens x ++ rest))
unfolding read_simple_pattern
read_simple_pattern-again [] a {x} i rest n = again_from (ap (λ l. read_simple_pattern [] (l ++ rest)) (simple_begins i).begins) (again_deep (inl refl))
read_simple_pattern-again (inner ∷ deeper) a i rest n = simple_again deeper inner a.1 i rest n

read_alias-none : (readers : List (Reads (Measured Pattern))) (p : Measured Pattern) (rest : List Placed) → mark (codes "=") rest ≡ None → read_alias readers p rest ≡ Ok (p, rest)
read_alias-none [] p rest e = refl
read_alias-none (inner ∷ deeper) p rest e = rw e refl

-- a node in the left pattern of `P = Q`, at the same limit
in_left : (levels : ℕ) (l : Place) (p q : Pattern) (m : Place) → IsDeep pattern_deep levels p l → IsDeep pattern_deep levels (node p.place (m ∷ []) (P.Alias p q)) l
in_left levels l p q m d = (pattern_falls (node p.place (m ∷ []) (P.Alias p q))).falls levels l (in_kind levels l (P.Alias p q) (pattern_kind_deep-Alias p q) (among_front l (pattern_deep p levels) _ d))

-- a pattern is read again
pub read_pattern_with-again : (readers : List (Reads (Measured Pattern))) → AreReaders readers → {x : Pattern} → IsPattern x → (rest : List Placed) → EndsPattern rest → AgainPattern (length readers) x rest (read_pattern_with readers (pattern_tokens x ++ rest))
unfolding read_pattern_with read_simple_pattern string_next
read_pattern_with-again [] a {x} i rest ends = again_from (ap (λ l. read_pattern_with [] (l ++ rest)) (pattern_begins i).begins) (again_deep (inl refl))
read_pattern_with-again (inner ∷ deeper) a (one_pattern p i) rest ends = again_read _ (read_simple_pattern-again (inner ∷ deeper) a i rest ends.no_string) (λ l d. d) λ h. again_none _ ends.none_outside (again_from (read_alias-none (inner ∷ deeper) (measured p h) rest ends.no_equals) (again_ok (h, refl)))
read_pattern_with-again (inner ∷ deeper) a (alias p q m i j) rest ends =
    let us : List Placed = at (T.Mark (codes "=")) m ∷ (pattern_tokens q ++ rest) in
    again_from (ap (read_pattern_with (inner ∷ deeper)) (alias_text p q m rest))
    (again_read_right _ (read_simple_pattern-right (inner ∷ deeper) a.0 (pattern_tokens p ++ us)) (read_simple_pattern-again (inner ∷ deeper) a i us refl) (λ l d. in_left (suc (length deeper)) l p q m d) λ h w.
    again_none _ (outside_next-none (T.Mark (codes "=")) m (pattern_tokens q ++ rest) refl) (again_some _ _ (mark-again (codes "=") m (pattern_tokens q ++ rest))
    (again_within (length deeper) (measured p h) w (λ l d. in_kind (length deeper) l (P.Alias p q) (pattern_kind_deep-Alias p q) (among_front l (pattern_deep p (length deeper)) _ d))
    (again_read _ (a.1.0 q rest j ends) (λ l d. in_kind (length deeper) l (P.Alias p q) (pattern_kind_deep-Alias p q) (among_behind l (pattern_deep p (length deeper)) _ d)) λ k. again_ok (above p.place (higher h k), refl)))))

-- this was read again, and those steps behind it
pub again_left : {Y : Type 0} {H : Y → Type 0} {D E : Place → Type 0} {x : Pattern} {m : Place} {rest : List Placed} {answer : Answer ((Measured Pattern × Place) × List Placed)} (next : (Measured Pattern × Place) × List Placed → Answer Y) → Again (IsLeft x m rest) D answer → ((p : Place) → D p → E p) → ((h : Height) → Again H E (next ((measured x h, m), rest))) → Again H E (answer >>= next)
again_left {H = H} {E = E} {x = x} {m = m} {rest = rest} next a d k = again_then a d λ q g. subst (λ z. Again H E (next ((z.0, q.0.1), z.1))) (sym g.0.1) (subst (λ n. Again H E (next ((measured x g.0.0, n), rest))) (sym g.1) (k g.0.0))

-- the left side of a match is read again, where no other `=` of it follows
pub read_left-again : (readers : List (Reads (Measured Pattern))) → AreReaders readers → {x : Pattern} → IsPattern x → (m : Place) (rest : List Placed) → leads_to (codes "=") rest ≡ false
    → Again (IsLeft x m rest) (IsDeep pattern_deep (length readers) x) (read_left readers (pattern_tokens x ++ at (T.Mark (codes "=")) m ∷ rest))
unfolding read_left string_next
read_left-again [] a {x} i m rest e = again_deep (pattern_first x (at (T.Mark (codes "=")) m ∷ rest) i)
read_left-again (inner ∷ deeper) a (one_pattern p i) m rest e = again_read _ (read_simple_pattern-again (inner ∷ deeper) a i (at (T.Mark (codes "=")) m ∷ rest) refl) (λ l d. d) λ h.
    again_none _ (outside_next-none (T.Mark (codes "=")) m rest refl) (again_step _ (expect_mark-again (codes "=") m rest) (again_false _ e (again_ok ((h, refl), refl))))
read_left-again (inner ∷ deeper) a (alias p q n i j) m rest e =
    let vs : List Placed = pattern_tokens q ++ at (T.Mark (codes "=")) m ∷ rest in
    let us : List Placed = at (T.Mark (codes "=")) n ∷ vs in
    again_from (ap (read_left (inner ∷ deeper)) (alias_text p q n (at (T.Mark (codes "=")) m ∷ rest)))
    (again_read_right _ (read_simple_pattern-right (inner ∷ deeper) a.0 (pattern_tokens p ++ us)) (read_simple_pattern-again (inner ∷ deeper) a i us refl) (λ l d. in_left (suc (length deeper)) l p q n d) λ h w.
    again_none _ (outside_next-none (T.Mark (codes "=")) n vs refl) (again_step _ (expect_mark-again (codes "=") n vs) (again_true _ (pattern-leads_to_equals j m rest)
    (again_within (length deeper) (measured p h) w (λ l d. in_kind (length deeper) l (P.Alias p q) (pattern_kind_deep-Alias p q) (among_front l (pattern_deep p (length deeper)) _ d))
    (again_left _ (read_left-again deeper (a.0.1, a.1.1) j m rest e) (λ l d. in_kind (length deeper) l (P.Alias p q) (pattern_kind_deep-Alias p q) (among_behind l (pattern_deep p (length deeper)) _ d)) λ k. again_ok ((above p.place (higher h k), refl), refl))))))

-- ---- patterns nested at most so many levels deep

pub pattern_levels-length : (d : ℕ) → length (pattern_levels d) ≡ d
unfolding pattern_levels
pattern_levels-length zero = refl
pattern_levels-length (suc d) = ap suc (pattern_levels-length d)

pub pattern_levels-right : (d : ℕ) → AreRight IsPattern pattern_tokens pattern_deep (pattern_levels d)
unfolding pattern_levels
pattern_levels-right zero = tt
pattern_levels-right (suc d) = (read_pattern_with-right (pattern_levels d) (pattern_levels-right d), pattern_levels-right d)

again_by : (readers : List (Reads (Measured Pattern))) → AreReaders readers → (x : Pattern) (rest : List Placed) → IsPattern x → EndsPattern rest → AgainPattern (length readers) x rest (read_pattern_with readers (pattern_tokens x ++ rest))
again_by readers a x rest i ends = read_pattern_with-again readers a i rest ends

pub pattern_levels-again : (d : ℕ) → AreAgain IsPattern pattern_tokens pattern_deep EndsPattern (pattern_levels d)
unfolding pattern_levels
pattern_levels-again zero = tt
pattern_levels-again (suc d) = (again_by (pattern_levels d) (pattern_levels-right d, pattern_levels-again d), pattern_levels-again d)

pub pattern_readers : (d : ℕ) → AreReaders (pattern_levels d)
pattern_readers d = (pattern_levels-right d, pattern_levels-again d)

-- a pattern is read rightly
pub read_pattern-right : (d : ℕ) (ts : List Placed) → Right (IsRead IsPattern pattern_tokens pattern_deep d ts) ts (read_pattern d ts)
read_pattern-right d ts = subst (λ n. Right (IsRead IsPattern pattern_tokens pattern_deep n ts) ts (read_pattern d ts)) (pattern_levels-length d) (read_pattern_with-right (pattern_levels d) (pattern_levels-right d) ts)

-- a pattern is read again
pub read_pattern-again : (d : ℕ) (x : Pattern) (rest : List Placed) → IsPattern x → EndsPattern rest → AgainPattern d x rest (read_pattern d (pattern_tokens x ++ rest))
read_pattern-again d x rest i ends = subst (λ n. AgainPattern n x rest (read_pattern d (pattern_tokens x ++ rest))) (pattern_levels-length d) (read_pattern_with-again (pattern_levels d) (pattern_readers d) i rest ends)

-- a pattern without `=` is read rightly
pub read_simple_levels-right : (d : ℕ) (ts : List Placed) → Right (IsRead IsSimplePattern pattern_tokens pattern_deep d ts) ts (read_simple_pattern (pattern_levels d) ts)
read_simple_levels-right d ts = subst (λ n. Right (IsRead IsSimplePattern pattern_tokens pattern_deep n ts) ts (read_simple_pattern (pattern_levels d) ts)) (pattern_levels-length d) (read_simple_pattern-right (pattern_levels d) (pattern_levels-right d) ts)

-- a pattern without `=` is read again, where no string follows
pub read_simple_levels-again : (d : ℕ) {x : Pattern} → IsSimplePattern x → (rest : List Placed) → string_next rest ≡ false → AgainPattern d x rest (read_simple_pattern (pattern_levels d) (pattern_tokens x ++ rest))
read_simple_levels-again d {x} i rest n = subst (λ n. AgainPattern n x rest (read_simple_pattern (pattern_levels d) (pattern_tokens x ++ rest))) (pattern_levels-length d) (read_simple_pattern-again (pattern_levels d) (pattern_readers d) i rest n)

-- the left side of a match is read rightly
pub read_left_levels-right : (d : ℕ) (ts : List Placed) → Right (LeftRead d ts) ts (read_left (pattern_levels d) ts)
read_left_levels-right d ts = subst (λ n. Right (LeftRead n ts) ts (read_left (pattern_levels d) ts)) (pattern_levels-length d) (read_left-right (pattern_levels d) (pattern_levels-right d) ts)

-- the left side of a match is read again
pub read_left_levels-again : (d : ℕ) (x : Pattern) (m : Place) (rest : List Placed) → IsPattern x → leads_to (codes "=") rest ≡ false
    → Again (IsLeft x m rest) (IsDeep pattern_deep d x) (read_left (pattern_levels d) (pattern_tokens x ++ at (T.Mark (codes "=")) m ∷ rest))
read_left_levels-again d x m rest i e = subst (λ n. Again (IsLeft x m rest) (IsDeep pattern_deep n x) (read_left (pattern_levels d) (pattern_tokens x ++ at (T.Mark (codes "=")) m ∷ rest))) (pattern_levels-length d) (read_left-again (pattern_levels d) (pattern_readers d) i m rest e)

-- what a reader of patterns answers is right
pub read_pattern-is_right : (d : ℕ) (ts : List Placed) → IsRight IsPattern pattern_tokens pattern_deep d ts (read_pattern d ts)
read_pattern-is_right d ts = is_right IsPattern pattern_tokens pattern_deep d ts (read_pattern d ts) (read_pattern-right d ts)

-- each pattern is read again, or nested too deep
pub read_pattern-is_again : (d : ℕ) (x : Pattern) (rest : List Placed) → IsPattern x → EndsPattern rest → IsAgain pattern_deep d x rest (read_pattern d (pattern_tokens x ++ rest))
read_pattern-is_again d x rest i ends = is_again pattern_deep d x rest (read_pattern d (pattern_tokens x ++ rest)) (read_pattern-again d x rest i ends)

-- a pattern within the limit is read again
pub read_pattern-within : (d : ℕ) (x : Pattern) (rest : List Placed) → IsPattern x → IsPatternWithin d x → EndsPattern rest → (h : Height) × (read_pattern d (pattern_tokens x ++ rest) ≡ Ok (measured x h, rest))
read_pattern-within d x rest i w ends =
    let r = again_shallow (λ p b. elim (subst (Among p) w b) [ ]) (read_pattern-again d x rest i ends) in
    (r.2.0, r.1 ∙ ap (λ q. Ok q) r.2.1)

-- and so is one whose tokens are all
pub read_pattern-whole : (x : Pattern) (e : Place) → IsPattern x → IsPatternWithin 256 x → (h : Height) × (read_pattern 256 (pattern_tokens x ++ at T.End e ∷ []) ≡ Ok (measured x h, at T.End e ∷ []))
read_pattern-whole x e i w = read_pattern-within 256 x (at T.End e ∷ []) i w (end_ends_pattern e [])

-- what is read is a pattern within the limit, and takes exactly its tokens
pub read_pattern-takes : (d : ℕ) (ts : List Placed) (x : Measured Pattern) (rest : List Placed) → read_pattern d ts ≡ Ok (x, rest) → IsPattern x.tree × IsPatternWithin d x.tree × (ts ≡ pattern_tokens x.tree ++ rest)
read_pattern-takes d ts x rest e = let h = right_is (read_pattern-right d ts) e in (h.formed, is_shallow h, h.takes)
