-- Types and parameters of fun types: what is well formed is read again, or a node of it is nested too deep.
use Rattle.std.proofs.Common.{◌≡◌, ℕ, ℤ, zero, suc, List, [], ◌∷◌, ◌++◌, map, length, refl, ap, sym, ◌∙◌, subst, inl, append_assoc}
use Rattle.std.specs.Prelude.{Some, None, Ok, Err, true, codes}
use Rattle.type_terms.specs.Keys.{Name}
use Rattle.erl_tree.specs.Lists.{Among}
use Rattle.erl_tree.specs.declared.token.Place.{Place}
use Rattle.erl_tree.specs.declared.token.Placed.{Placed}
use Rattle.erl_tree.specs.declared.token.Node.{Node}
use Rattle.erl_tree.specs.declared.token.Token.TheVariants as T
use Rattle.erl_tree.specs.declared.pattern.LiteralKind.{LiteralKind}
use Rattle.erl_tree.specs.declared.pattern.LiteralKind.TheVariants as L
use Rattle.erl_tree.specs.declared.type_expr.TypeKind.{TypeKind}
use Rattle.erl_tree.specs.declared.type_expr.TypeKind.TheVariants as Y
use Rattle.erl_tree.specs.declared.type_expr.MapPart.{MapPart}
use Rattle.erl_grammar.specs.Pieces.{at, own, fill, commas}
use Rattle.erl_grammar.specs.Spelling.{literal_tokens, association_text}
use Rattle.erl_grammar.specs.TypeSpelling.{type_shown, type_tokens, map_part_tokens, type_field_tokens}
use Rattle.erl_grammar.specs.Nesting.{Deep, deep_all, deep_second}
use Rattle.erl_grammar.specs.TypeNesting.{type_kind_deep, type_deep, map_part_deep}
use Rattle.erl_grammar.specs.Grammar.{node, AreSeparators, IsArity}
use Rattle.erl_grammar.specs.TypeGrammar.{IsRangeEnd, integer_end, negative_end, character_end, IsType, IsParameter, unnamed, named, IsSimpleType, IsMapPart, map_part, IsFieldType, field_type}
use Rattle.erl_grammar.specs.TypeGrammar as G
use Rattle.erl_grammar.proofs.TypeSpellingLaws as S
use Rattle.erl_grammar.proofs.TypeNestingLaws as N
use Rattle.erl_grammar.proofs.TypeDeeperLaws.{type_falls}
use Rattle.erl_parser_tokens.specs.declared.height.Measured.{Measured}
use Rattle.erl_parser_tokens.specs.declared.fault.ParseFault.TheVariants as faults
use Rattle.erl_parser_tokens.specs.Heights.{flat, higher, above, measured}
use Rattle.erl_parser_tokens.specs.Tokens.{Answer, Reads, mark}
use Rattle.erl_parser_tokens.specs.Parts.{built, read_closed}
use Rattle.erl_parser_tokens.proofs.HeightLaws.{among_front, among_behind}
use Rattle.erl_parser_tokens.proofs.Then.{Again, again_ok, again_deep, again_from, again_step, again_none, again_some, again_true, again_within, IsPart, IsDeep, again_read, again_read_right}
use Rattle.erl_parser_tokens.proofs.TokenLaws.{mark-other, mark-again, expect_mark-again, expect_atom-again, expect_integer-again}
use Rattle.erl_parser_tokens.proofs.PartLaws.{AreThese, again_these, read_closed-again, AreAgain}
use Rattle.erl_parser_tokens.proofs.ParameterLaws.{parameters-again}
use Rattle.erl_parser_tokens.proofs.ArrowLaws.{arrow-again}
use Rattle.erl_parser_types.specs.Types.{TypeExpr, leaf, read_range_end, literal_type, read_behind_literal, read_negative, read_set_operation, read_named, read_variable, read_parens, read_tuple, read_list_end, read_list, read_map_part, read_typed_field, read_record, read_hash, name_of_parameter, read_parameter, read_fun_type, read_fun, read_simple_type, read_union, read_type_with, type_levels, read_type, read_parameter_at}
use Rattle.erl_parser_types.proofs.TypeTexts.{range_text, union_text, named_text, field_text, map_part_text, result_text, parameters_text, fun_text}
use Rattle.erl_parser_types.proofs.TypeRight.{AreTypeReaders, read_simple_type-right, type_levels-length, type_levels-right}
use Rattle.erl_parser_types.proofs.TypeEnds.{EndsSimpleType, EndsType, EndsParameter, none_outside-again, ends_comma, ends_paren, ends_bracket, ends_brace, ends_arrow, ends_bar, comma_ends_parameter, paren_ends_parameter, simple_type_begins, type_begins, type_no_paren, type_no_brace, type_no_bracket, type_no_name, parameter_no_paren, map_part_no_brace, field_no_brace}

-- this type is read again, or a node of it is nested too deep
abbrev pub AgainType : ℕ → TypeExpr → List Placed → Answer (Measured TypeExpr × List Placed) → Type 0
AgainType levels x rest answer = Again (IsPart x rest) (IsDeep type_deep levels x) answer

-- each reader reads types again, with as many levels as there are readers behind it
abbrev pub ReadAgain : List (Reads (Measured TypeExpr)) → Type 0
ReadAgain readers = AreAgain IsType type_tokens type_deep EndsType readers

-- a node in a type is nested too deep
in_kind : (levels : ℕ) (l : Place) {f : Deep} (kind : TypeKind) → ((n : ℕ) → type_kind_deep kind n ≡ f n) → Among l (f levels) → Among l (type_kind_deep kind levels)
in_kind levels l kind e d = subst (Among l) (sym (e levels)) d

-- ---- literals and ranges

read_range_end-again : {h : Node LiteralKind} → IsRangeEnd h → (ts : List Placed) → read_range_end (literal_tokens h ++ ts) ≡ Ok (h, ts)
unfolding read_range_end
read_range_end-again (integer_end p n) ts = refl
read_range_end-again (negative_end h p n) ts = rw (expect_integer-again n p ts) refl
read_range_end-again (character_end p c) ts = refl

literal-again : (l : Node LiteralKind) (ts : List Placed) → mark (codes "..") ts ≡ None → read_behind_literal l ts ≡ Ok (built l.place l.marks (literal_type l.kind) flat, ts)
unfolding read_behind_literal
literal-again l ts e = rw e refl

range-again : (l : Node LiteralKind) {h : Node LiteralKind} (m : Place) (ts : List Placed) → IsRangeEnd h → read_behind_literal l (at (T.Mark (codes "..")) m ∷ (literal_tokens h ++ ts)) ≡ Ok (built l.place (m ∷ []) (Y.Range l h) flat, ts)
unfolding read_behind_literal
range-again l {h} m ts i = rw (mark-again (codes "..") m (literal_tokens h ++ ts), read_range_end-again i ts) refl

negative-again : (h p : Place) (n : ℤ) (ts : List Placed) → read_negative h (at (T.Int n) p ∷ ts) ≡ read_behind_literal (node h (h ∷ p ∷ []) (L.NegInt n)) ts
unfolding read_negative
negative-again h p n ts = rw (expect_integer-again n p ts) refl

module _ (deeper : List (Reads (Measured TypeExpr))) (inner : Reads (Measured TypeExpr)) where
  -- what begins with a literal
  from_literal : {l : Node LiteralKind} → IsRangeEnd l → (ts : List Placed) → read_simple_type (inner ∷ deeper) (literal_tokens l ++ ts) ≡ read_behind_literal l ts
  unfolding read_simple_type
  from_literal (integer_end p n) ts = refl
  from_literal (negative_end h p n) ts = negative-again h p n ts
  from_literal (character_end p c) ts = refl

  literal_again : {l : Node LiteralKind} → IsRangeEnd l → type_shown (literal_type l.kind) l.marks ≡ literal_tokens l → (rest : List Placed) → EndsSimpleType rest → AgainType (suc (length deeper)) (node l.place l.marks (literal_type l.kind)) rest (read_simple_type (inner ∷ deeper) (type_shown (literal_type l.kind) l.marks ++ rest))
  literal_again {l} i e rest ends = again_from (ap (λ ts. read_simple_type (inner ∷ deeper) (ts ++ rest)) e ∙ (from_literal i rest ∙ literal-again l rest ends.no_dots)) (again_ok (above l.place flat, refl))

-- ---- names

named-again : (inner : Reads (Measured TypeExpr)) (a : Name) (p : Place) (rest : List Placed) → EndsSimpleType rest → read_named inner a p rest ≡ leaf p (Y.Atom a) rest
unfolding read_named
named-again inner a p rest ends = rw (ends.no_paren, ends.no_colon) refl

variable-again : (x : Name) (p : Place) (rest : List Placed) → EndsSimpleType rest → read_variable x p rest ≡ leaf p (Y.Var x) rest
unfolding read_variable
variable-again x p rest ends = rw ends.no_colon refl

paren_no_comma : (c : Place) (us : List Placed) → mark (codes ",") (at (T.Mark (codes ")")) c ∷ us) ≡ None
paren_no_comma c us = mark-other (codes ",") (T.Mark (codes ")")) c us refl

brace_no_comma : (c : Place) (us : List Placed) → mark (codes ",") (at (T.Mark (codes "}")) c ∷ us) ≡ None
brace_no_comma c us = mark-other (codes ",") (T.Mark (codes "}")) c us refl

-- ---- parts of maps, fields

module _ (levels : ℕ) (inner : Reads (Measured TypeExpr)) (inner-again : (x : TypeExpr) (rest : List Placed) → IsType x → EndsType rest → AgainType levels x rest (inner (type_tokens x ++ rest))) where
  map_part_again : (part : Node MapPart) (rest : List Placed) → IsMapPart part → EndsType rest → Again (IsPart part rest) (IsDeep map_part_deep levels part) (read_map_part inner (map_part_tokens part ++ rest))
  unfolding read_map_part
  map_part_again _ rest (map_part k v m required i j) ends =
      let us : List Placed = at (T.Mark (association_text required)) m ∷ (type_tokens v ++ rest) in
      again_from (ap (read_map_part inner) (map_part_text k v m required rest))
      (again_read _ (inner-again k us i (ends_arrow required m (type_tokens v ++ rest))) (λ l d. subst (Among l) (sym (N.map_part_kind_deep-map_part_of k required v levels)) (among_front l (type_deep k levels) _ d)) λ h.
      again_step _ (arrow-again true required m (type_tokens v ++ rest) (λ e. refl))
      (again_read _ (inner-again v rest j ends) (λ l d. subst (Among l) (sym (N.map_part_kind_deep-map_part_of k required v levels)) (among_behind l (type_deep k levels) _ d)) λ g.
      again_ok (higher h g, refl)))

  field_again : (f : Node (Name × TypeExpr)) (rest : List Placed) → IsFieldType f → EndsType rest → Again (IsPart f rest) (IsDeep (deep_second type_deep) levels f) (read_typed_field inner (type_field_tokens f ++ rest))
  unfolding read_typed_field
  field_again _ rest (field_type n m name t i) ends = again_from (ap (read_typed_field inner) (field_text n m name t rest))
      (again_step _ (expect_atom-again name n _) (again_step _ (expect_mark-again (codes "::") m _) (again_read _ (inner-again t rest i ends) (λ l d. d) λ h. again_ok (h, refl))))

-- ---- parameters

name-again : (x : Name) (p m : Place) (ts : List Placed) → name_of_parameter (at (T.Var x) p ∷ at (T.Mark (codes "::")) m ∷ ts) ≡ Some ((x, p, m), ts)
unfolding name_of_parameter
name-again x p m ts = rw (mark-again (codes "::") m ts) refl

-- a parameter is read again
read_parameter-again : (deeper : List (Reads (Measured TypeExpr))) (inner : Reads (Measured TypeExpr)) → ReadAgain (inner ∷ deeper) → (x : TypeExpr) (rest : List Placed) → IsParameter x → EndsParameter rest → AgainType (length deeper) x rest (read_parameter deeper inner (type_tokens x ++ rest))
unfolding read_parameter
read_parameter-again deeper inner a x rest (unnamed _ i) ends = again_none _ (type_no_name x rest i ends.no_name) (a.0 x rest i ends.ends)
read_parameter-again [] inner a _ rest (named p m x t i) ends = again_from (ap (read_parameter [] inner) (named_text p m x t rest))
    (again_some {o = name_of_parameter (at (T.Var x) p ∷ at (T.Mark (codes "::")) m ∷ (type_tokens t ++ rest))} _ (λ n. Err (faults.TooDeep n.0.1)) (name-again x p m (type_tokens t ++ rest)) (again_deep (inl refl)))
read_parameter-again (next ∷ deeper) inner a _ rest (named p m x t i) ends = again_from (ap (read_parameter (next ∷ deeper) inner) (named_text p m x t rest))
    (again_some _ _ (name-again x p m (type_tokens t ++ rest)) (again_read _ (a.1.0 t rest i ends.ends) (λ l d. in_kind (length deeper) l (Y.Named x t) (N.type_kind_deep-Named x t) d) λ h. again_ok (above p h, refl)))

-- ---- types without `|`

module _ (deeper : List (Reads (Measured TypeExpr))) (inner : Reads (Measured TypeExpr)) (a : ReadAgain (inner ∷ deeper)) where
  -- types with commas between them and what closes them
  closed_again : (closing : List ℕ) → ((c : Place) (us : List Placed) → EndsType (at (T.Mark closing) c ∷ us)) → ((c : Place) (us : List Placed) → mark (codes ",") (at (T.Mark closing) c ∷ us) ≡ None) → ((x : TypeExpr) (us : List Placed) → IsType x → mark closing (type_tokens x ++ us) ≡ None)
      → (xs : List TypeExpr) (ms : List Place) (c : Place) (rest : List Placed) → ((y : TypeExpr) → Among y xs → IsType y) → AreSeparators xs ms
      → Again (AreThese xs (ms ++ c ∷ []) rest) (λ p. Among p (deep_all type_deep xs (length deeper))) (read_closed closing inner (fill (commas (map type_tokens xs) ++ own (T.Mark closing) ∷ []) (ms ++ c ∷ []) ++ rest))
  closed_again closing close no_comma opens = read_closed-again IsType type_tokens type_deep (length deeper) EndsType inner a.0 closing ends_comma close no_comma opens

  -- a fun type is read again
  fun_again : (f o q r b c : Place) (ms : List Place) (params : List TypeExpr) (result : TypeExpr) (rest : List Placed) → IsArity params → AreSeparators params ms → ((t : TypeExpr) → Among t params → IsParameter t) → IsType result
      → AgainType (suc (length deeper)) (node f (f ∷ o ∷ q ∷ (ms ++ r ∷ b ∷ c ∷ [])) (Y.Fun params result)) rest (read_fun deeper inner f (at (T.Mark (codes "(")) o ∷ at (T.Mark (codes "(")) q ∷ parameters_text params ms r (result_text b c result rest)))
  unfolding read_fun read_fun_type
  fun_again f o q r b c ms params result rest e g i j = again_step _ (expect_mark-again (codes "(") o _) (again_none _ (mark-other (codes ")") (T.Mark (codes "(")) q _ refl) (again_step _ (expect_mark-again (codes "(") q _)
      (again_these _ (parameters-again IsParameter type_tokens type_deep (length deeper) EndsParameter (read_parameter deeper inner) (read_parameter-again deeper inner a) comma_ends_parameter paren_ends_parameter parameter_no_paren params ms r (result_text b c result rest) i g e)
      (λ l d. in_kind (length deeper) l (Y.Fun params result) (N.type_kind_deep-Fun params result) (among_front l (deep_all type_deep params (length deeper)) _ d)) λ h.
      again_step _ (expect_mark-again (codes "->") b _)
      (again_read _ (a.0 result (at (T.Mark (codes ")")) c ∷ rest) j (ends_paren c rest)) (λ l d. in_kind (length deeper) l (Y.Fun params result) (N.type_kind_deep-Fun params result) (among_behind l (deep_all type_deep params (length deeper)) _ d)) λ k.
      again_step _ (expect_mark-again (codes ")") c rest) (again_ok (above f (higher h k), ap (λ ns. (built f (f ∷ o ∷ q ∷ ns) (Y.Fun params result) (higher h k), rest)) (append_assoc ms (r ∷ []) (b ∷ c ∷ []))))))))

  -- what stands in brackets is read again
  list_again : (o c : Place) (t : TypeExpr) (rest : List Placed) → IsType t → AgainType (suc (length deeper)) (node o (o ∷ c ∷ []) (Y.ListOf t)) rest (read_list inner o (type_tokens t ++ at (T.Mark (codes "]")) c ∷ rest))
  unfolding read_list read_list_end
  list_again o c t rest i = again_none _ (type_no_bracket t _ i) (again_read _ (a.0 t (at (T.Mark (codes "]")) c ∷ rest) i (ends_bracket c rest)) (λ l d. in_kind (length deeper) l (Y.ListOf t) (N.type_kind_deep-ListOf t) d) λ h.
      again_none _ (mark-other (codes ",") (T.Mark (codes "]")) c rest refl) (again_step _ (expect_mark-again (codes "]") c rest) (again_ok (above o h, refl))))

  nonempty_again : (o m d c : Place) (t : TypeExpr) (rest : List Placed) → IsType t → AgainType (suc (length deeper)) (node o (o ∷ m ∷ d ∷ c ∷ []) (Y.NonEmpty t)) rest (read_list inner o (type_tokens t ++ at (T.Mark (codes ",")) m ∷ at (T.Mark (codes "...")) d ∷ at (T.Mark (codes "]")) c ∷ rest))
  unfolding read_list read_list_end
  nonempty_again o m d c t rest i = again_none _ (type_no_bracket t _ i) (again_read _ (a.0 t _ i (ends_comma m _)) (λ l e. in_kind (length deeper) l (Y.NonEmpty t) (N.type_kind_deep-NonEmpty t) e) λ h.
      again_some _ _ (mark-again (codes ",") m _) (again_step _ (expect_mark-again (codes "...") d _) (again_step _ (expect_mark-again (codes "]") c rest) (again_ok (above o h, refl)))))

  nil_again : (o c : Place) (rest : List Placed) → AgainType (suc (length deeper)) (node o (o ∷ c ∷ []) Y.Nil) rest (read_list inner o (at (T.Mark (codes "]")) c ∷ rest))
  unfolding read_list
  nil_again o c rest = again_some _ _ (mark-again (codes "]") c rest) (again_ok (above o flat, refl))

  simple_again : {x : TypeExpr} → IsSimpleType x → (rest : List Placed) → EndsSimpleType rest → AgainType (suc (length deeper)) x rest (read_simple_type (inner ∷ deeper) (type_tokens x ++ rest))
  unfolding read_simple_type read_named read_set_operation read_parens read_tuple read_hash read_record read_fun
  simple_again (G.atom_type p b) rest ends = again_from (ap (λ l. read_simple_type (inner ∷ deeper) (l ++ rest)) (S.type_shown-Atom b (p ∷ [])) ∙ named-again inner b p rest ends) (again_ok (above p flat, refl))
  simple_again (G.integer_type p n) rest ends = literal_again deeper inner (integer_end p n) (S.type_shown-Int n (p ∷ [])) rest ends
  simple_again (G.negative_type h p n) rest ends = literal_again deeper inner (negative_end h p n) (S.type_shown-NegInt n (h ∷ p ∷ [])) rest ends
  simple_again (G.character_type p c) rest ends = literal_again deeper inner (character_end p c) (S.type_shown-Char c (p ∷ [])) rest ends
  simple_again (G.variable_type p x) rest ends = again_from (ap (λ l. read_simple_type (inner ∷ deeper) (l ++ rest)) (S.type_shown-Var x (p ∷ [])) ∙ variable-again x p rest ends) (again_ok (above p flat, refl))
  simple_again (G.paren_type o c t i) rest ends = again_from (ap (λ l. read_simple_type (inner ∷ deeper) (l ++ rest)) (S.type_shown-Paren t (o ∷ c ∷ [])) ∙ ap (read_parens inner o) (append_assoc (type_tokens t) (at (T.Mark (codes ")")) c ∷ []) rest))
      (again_read _ (a.0 t (at (T.Mark (codes ")")) c ∷ rest) i (ends_paren c rest)) (λ l d. in_kind (length deeper) l (Y.Paren t) (N.type_kind_deep-Paren t) d) λ h.
      again_step _ (expect_mark-again (codes ")") c rest) (again_ok (above o h, refl)))
  simple_again (G.range low high m i j) rest ends = again_from (ap (read_simple_type (inner ∷ deeper)) (range_text low high m rest) ∙ (from_literal deeper inner i _ ∙ range-again low m rest j)) (again_ok (above low.place flat, refl))
  simple_again (G.used_type n o c ms name args g i) rest ends = again_from (ap (λ l. read_simple_type (inner ∷ deeper) (l ++ rest)) (S.type_shown-Use None name args (n ∷ o ∷ (ms ++ c ∷ []))))
      (again_some _ _ (mark-again (codes "(") o _)
      (again_these _ (closed_again (codes ")") ends_paren paren_no_comma type_no_paren args ms c rest i g) (λ l d. in_kind (length deeper) l (Y.Use None name args) (N.type_kind_deep-Use None name args) d) λ h.
      again_ok (above n h, refl)))
  simple_again (G.set_operation p d n o c ms name args e g i) rest ends = again_from (ap (λ l. read_simple_type (inner ∷ deeper) (l ++ rest)) (S.type_shown-Use (Some (codes "ety")) name args (p ∷ d ∷ n ∷ o ∷ (ms ++ c ∷ []))))
      (again_none _ (mark-other (codes "(") (T.Mark (codes ":")) d _ refl) (again_some _ _ (mark-again (codes ":") d _)
      (again_step _ (expect_atom-again name n _) (again_step _ (expect_mark-again (codes "(") o _)
      (again_these _ (closed_again (codes ")") ends_paren paren_no_comma type_no_paren args ms c rest i g) (λ l k. in_kind (length deeper) l (Y.Use (Some (codes "ety")) name args) (N.type_kind_deep-Use (Some (codes "ety")) name args) k) λ h.
      again_true _ e (again_ok (above p h, refl)))))))
  simple_again (G.nil_type o c) rest ends = again_from (ap (λ l. read_simple_type (inner ∷ deeper) (l ++ rest)) (S.type_shown-Nil (o ∷ c ∷ []))) (nil_again o c rest)
  simple_again (G.list_type o c t i) rest ends = again_from (ap (λ l. read_simple_type (inner ∷ deeper) (l ++ rest)) (S.type_shown-ListOf t (o ∷ c ∷ [])) ∙ ap (read_list inner o) (append_assoc (type_tokens t) (at (T.Mark (codes "]")) c ∷ []) rest)) (list_again o c t rest i)
  simple_again (G.nonempty_list_type o m d c t i) rest ends = again_from (ap (λ l. read_simple_type (inner ∷ deeper) (l ++ rest)) (S.type_shown-NonEmpty t (o ∷ m ∷ d ∷ c ∷ []))
      ∙ ap (read_list inner o) (append_assoc (type_tokens t) (at (T.Mark (codes ",")) m ∷ at (T.Mark (codes "...")) d ∷ at (T.Mark (codes "]")) c ∷ []) rest)) (nonempty_again o m d c t rest i)
  simple_again (G.tuple_type o c ms ts g i) rest ends = again_from (ap (λ l. read_simple_type (inner ∷ deeper) (l ++ rest)) (S.type_shown-Tuple ts (o ∷ (ms ++ c ∷ []))))
      (again_these _ (closed_again (codes "}") ends_brace brace_no_comma type_no_brace ts ms c rest i g) (λ l d. in_kind (length deeper) l (Y.Tuple ts) (N.type_kind_deep-Tuple ts) d) λ h.
      again_ok (above o h, refl))
  simple_again (G.map_type h o c ms parts g i) rest ends = again_from (ap (λ l. read_simple_type (inner ∷ deeper) (l ++ rest)) (S.type_shown-Map parts (h ∷ o ∷ (ms ++ c ∷ []))))
      (again_some _ _ (mark-again (codes "{") o _)
      (again_these _ (read_closed-again IsMapPart map_part_tokens map_part_deep (length deeper) EndsType (read_map_part inner) (map_part_again (length deeper) inner a.0) (codes "}") ends_comma ends_brace brace_no_comma map_part_no_brace parts ms c rest i g) (λ l d. in_kind (length deeper) l (Y.Map parts) (N.type_kind_deep-Map parts) d) λ k.
      again_ok (above h k, refl)))
  simple_again (G.any_fun_type f o c) rest ends = again_from (ap (λ l. read_simple_type (inner ∷ deeper) (l ++ rest)) (S.type_shown-FunAll (f ∷ o ∷ c ∷ [])))
      (again_step _ (expect_mark-again (codes "(") o _) (again_some _ _ (mark-again (codes ")") c rest) (again_ok (above f flat, refl))))
  simple_again (G.fun_type f o q r b c ms params result e g i j) rest ends = again_from (ap (read_simple_type (inner ∷ deeper)) (fun_text f o q r b c ms params result rest g)) (fun_again f o q r b c ms params result rest e g i j)
  simple_again (G.record_type h n o c ms name fields g i) rest ends = again_from (ap (λ l. read_simple_type (inner ∷ deeper) (l ++ rest)) (S.type_shown-Rec name name fields (h ∷ n ∷ o ∷ (ms ++ c ∷ []))))
      (again_none _ (mark-other (codes "{") (T.Atom name) n _ refl) (again_step _ (expect_atom-again name n _) (again_step _ (expect_mark-again (codes "{") o _)
      (again_these _ (read_closed-again IsFieldType type_field_tokens (deep_second type_deep) (length deeper) EndsType (read_typed_field inner) (field_again (length deeper) inner a.0) (codes "}") ends_comma ends_brace brace_no_comma field_no_brace fields ms c rest i g) (λ l d. in_kind (length deeper) l (Y.Rec name name fields) (N.type_kind_deep-Rec name name fields) d) λ k.
      again_ok (above h k, refl)))))

-- ---- types

-- the readers read rightly, and again
abbrev pub AreReaders : List (Reads (Measured TypeExpr)) → Type 0
AreReaders readers = AreTypeReaders readers × ReadAgain readers

-- a type without `|` is read again
read_simple_type-again : (readers : List (Reads (Measured TypeExpr))) → AreReaders readers → {x : TypeExpr} → IsSimpleType x → (rest : List Placed) → EndsSimpleType rest → AgainType (length readers) x rest (read_simple_type readers (type_tokens x ++ rest))
unfolding read_simple_type
read_simple_type-again [] a {x} i rest ends = again_from (ap (λ l. read_simple_type [] (l ++ rest)) (simple_type_begins i).begins) (again_deep (inl refl))
read_simple_type-again (inner ∷ deeper) a i rest ends = simple_again deeper inner a.1 i rest ends

union-none : (readers : List (Reads (Measured TypeExpr))) (t : Measured TypeExpr) (rest : List Placed) → mark (codes "|") rest ≡ None → read_union readers t rest ≡ Ok (t, rest)
union-none [] t rest e = refl
union-none (inner ∷ deeper) t rest e = rw e refl

-- a node in the left type of `T | U`, at the same limit
in_left : (levels : ℕ) (l : Place) (t u : TypeExpr) (m : Place) → IsDeep type_deep levels t l → IsDeep type_deep levels (node t.place (m ∷ []) (Y.Or t u)) l
in_left levels l t u m d = (type_falls (node t.place (m ∷ []) (Y.Or t u))).falls levels l (in_kind levels l (Y.Or t u) (N.type_kind_deep-Or t u) (among_front l (type_deep t levels) _ d))

-- a type is read again
read_type_with-again : (readers : List (Reads (Measured TypeExpr))) → AreReaders readers → {x : TypeExpr} → IsType x → (rest : List Placed) → EndsType rest → AgainType (length readers) x rest (read_type_with readers (type_tokens x ++ rest))
unfolding read_type_with read_simple_type
read_type_with-again [] a {x} i rest ends = again_from (ap (λ l. read_type_with [] (l ++ rest)) (type_begins i).begins) (again_deep (inl refl))
read_type_with-again (inner ∷ deeper) a (G.one_type t i) rest ends = again_read _ (read_simple_type-again (inner ∷ deeper) a i rest ends.simple) (λ l d. d) λ h.
    again_from (none_outside-again rest _ ends.no_form ∙ union-none (inner ∷ deeper) (measured t h) rest ends.no_bar) (again_ok (h, refl))
read_type_with-again (inner ∷ deeper) a (G.union t u m i j) rest ends =
    let us : List Placed = at (T.Mark (codes "|")) m ∷ (type_tokens u ++ rest) in
    again_from (ap (read_type_with (inner ∷ deeper)) (union_text t u m rest))
    (again_read_right _ (read_simple_type-right (inner ∷ deeper) a.0 (type_tokens t ++ us)) (read_simple_type-again (inner ∷ deeper) a i us (ends_bar m (type_tokens u ++ rest))) (λ l d. in_left (suc (length deeper)) l t u m d) λ h w.
    again_some _ _ (mark-again (codes "|") m (type_tokens u ++ rest))
    (again_within (length deeper) (measured t h) w (λ l d. in_kind (length deeper) l (Y.Or t u) (N.type_kind_deep-Or t u) (among_front l (type_deep t (length deeper)) _ d))
    (again_read _ (a.1.0 u rest j ends) (λ l d. in_kind (length deeper) l (Y.Or t u) (N.type_kind_deep-Or t u) (among_behind l (type_deep t (length deeper)) _ d)) λ k. again_ok (above t.place (higher h k), refl))))

-- ---- types nested at most so many levels deep

again_by : (readers : List (Reads (Measured TypeExpr))) → AreReaders readers → (x : TypeExpr) (rest : List Placed) → IsType x → EndsType rest → AgainType (length readers) x rest (read_type_with readers (type_tokens x ++ rest))
again_by readers a x rest i ends = read_type_with-again readers a i rest ends

pub type_levels-again : (d : ℕ) → ReadAgain (type_levels d)
unfolding type_levels
type_levels-again zero = tt
type_levels-again (suc d) = (again_by (type_levels d) (type_levels-right d, type_levels-again d), type_levels-again d)

-- a type is read again
pub read_type-again : (d : ℕ) (x : TypeExpr) (rest : List Placed) → IsType x → EndsType rest → AgainType d x rest (read_type d (type_tokens x ++ rest))
read_type-again d x rest i ends = subst (λ n. AgainType n x rest (read_type d (type_tokens x ++ rest))) (type_levels-length d) (read_type_with-again (type_levels d) (type_levels-right d, type_levels-again d) i rest ends)

-- a parameter is read again
pub read_parameter_at-again : (d : ℕ) (x : TypeExpr) (rest : List Placed) → IsParameter x → EndsParameter rest → AgainType d x rest (read_parameter_at d (type_tokens x ++ rest))
read_parameter_at-again d x rest i ends = subst (λ n. AgainType n x rest (read_parameter_at d (type_tokens x ++ rest))) (type_levels-length d)
    (read_parameter-again (type_levels d) (read_type d) (again_by (type_levels d) (type_levels-right d, type_levels-again d), type_levels-again d) x rest i ends)
