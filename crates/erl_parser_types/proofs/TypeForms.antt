-- Names and brackets of types: what is read is right.
use Rattle.std.proofs.Common.{◌≡◌, ℕ, suc, List, [], ◌∷◌, ◌++◌, map, ap, sym, ◌∙◌, subst, refl, append_assoc, arith}
use Rattle.std.specs.Prelude.{Some, None, true, false, if◌then◌else◌, codes}
use Rattle.std.specs.Str.{bytes_eq}
use Rattle.type_terms.specs.Keys.{Name}
use Rattle.erl_tree.specs.declared.token.Place.{Place}
use Rattle.erl_tree.specs.declared.token.Placed.{Placed}
use Rattle.erl_tree.specs.declared.token.Node.{Node}
use Rattle.erl_tree.specs.declared.token.Token.TheVariants as T
use Rattle.erl_tree.specs.declared.type_expr.TypeKind.TheVariants as Y
use Rattle.erl_tree.specs.declared.type_expr.MapPart.{MapPart}
use Rattle.erl_grammar.specs.Pieces.{at, own, fill, commas}
use Rattle.erl_grammar.specs.TypeSpelling.{type_tokens, map_part_tokens, type_field_tokens}
use Rattle.erl_grammar.specs.Nesting.{deep_second}
use Rattle.erl_grammar.specs.TypeNesting.{type_deep, map_part_deep}
use Rattle.erl_grammar.specs.Grammar.{node}
use Rattle.erl_grammar.specs.TypeGrammar.{is_set_operation, IsType, IsSimpleType, atom_type, variable_type, paren_type, used_type, set_operation, nil_type, list_type, nonempty_list_type, tuple_type, map_type, record_type, IsMapPart, IsFieldType}
use Rattle.erl_grammar.proofs.TypeSpellingLaws.{type_shown-Atom, type_shown-Var, type_shown-Paren, type_shown-Use, type_shown-Nil, type_shown-ListOf, type_shown-NonEmpty, type_shown-Tuple, type_shown-Map, type_shown-Rec}
use Rattle.erl_grammar.proofs.TypeNestingLaws.{type_kind_deep-Atom, type_kind_deep-Var, type_kind_deep-Paren, type_kind_deep-Use, type_kind_deep-Nil, type_kind_deep-ListOf, type_kind_deep-NonEmpty, type_kind_deep-Tuple, type_kind_deep-Map, type_kind_deep-Rec}
use Rattle.erl_parser_tokens.specs.declared.height.Measured.{Measured}
use Rattle.erl_parser_tokens.specs.Tokens.{Reads, outside}
use Rattle.erl_parser_tokens.specs.Parts.{Several, built, read_closed}
use Rattle.erl_parser_tokens.specs.Outside.{HasOutside, remote_variable, remote_type, no_set_operation}
use Rattle.erl_parser_tokens.proofs.Right.{Read}
use Rattle.erl_parser_tokens.proofs.HeightLaws.{measures_as, nothing_measured}
use Rattle.erl_parser_tokens.proofs.Then.{behind_token, behind_part, behind_behind, Right, right_ok, right_outside, right_next, right_case, right_if, IsRead}
use Rattle.erl_parser_tokens.proofs.TokenLaws.{text_is, IsMarkNext, mark-takes, expect_mark, expect_atom, stands_after}
use Rattle.erl_parser_tokens.proofs.PartLaws.{AreClosed, read_closed-right}
use Rattle.erl_parser_types.specs.Types.{TypeExpr, read_set_operation, read_named, read_variable, read_parens, read_tuple, read_list_end, read_list, read_map_part, read_typed_field, read_record, read_hash}
use Rattle.erl_parser_types.proofs.TypeParts.{built_read, ReadsSimple, leaf_right, read_map_part-right, read_typed_field-right}

-- ---- names

pub read_variable-right : (levels : ℕ) (x : Name) (p : Place) (ts : List Placed) → ReadsSimple (suc levels) (at (T.Var x) p ∷ ts) (read_variable x p ts)
unfolding read_variable
read_variable-right levels x p ts = right_case
    (λ e. leaf_right levels (T.Var x) p (Y.Var x) ts (variable_type p x) (type_shown-Var x (p ∷ [])) (type_kind_deep-Var x))
    (λ d e. right_outside (subst (λ us. HasOutside (at (T.Var x) p ∷ us) d.0 (codes "remote name")) (sym (mark-takes (codes ":") ts d e)) (stands_after (at (T.Var x) p ∷ []) (remote_variable x p d.0 [] d.1))))

module _ (levels : ℕ) (inner : Reads (Measured TypeExpr)) (inner-right : (ts : List Placed) → Right (IsRead IsType type_tokens type_deep levels ts) ts (inner ts)) where
  -- types with commas between them were read, and what closes them
  abbrev TypesClosed : List ℕ → List Placed → Several TypeExpr × List Placed → Type 0
  TypesClosed closing ts s = AreClosed IsType type_tokens type_deep levels closing ts s

  types_closed : (closing : List ℕ) (ts : List Placed) → Right (TypesClosed closing ts) ts (read_closed closing inner ts)
  types_closed closing ts = read_closed-right IsType type_tokens type_deep levels inner inner-right closing ts

  use_read : (p o : Place) (a : Name) (ts : List Placed) (s : Several TypeExpr × List Placed) → TypesClosed (codes ")") ts s
      → Read IsSimpleType type_tokens type_deep (suc levels) (at (T.Atom a) p ∷ at (T.Mark (codes "(")) o ∷ ts) (built p (p ∷ o ∷ s.0.marks) (Y.Use None a s.0.items) s.0.height) s.1
  use_read p o a ts s r = built_read
      (subst (λ ms. IsSimpleType (node p (p ∷ o ∷ ms) (Y.Use None a s.0.items))) (sym r.marks) (used_type p o r.close r.between a s.0.items r.gaps r.formed))
      (ap (λ l. at (T.Atom a) p ∷ at (T.Mark (codes "(")) o ∷ l) r.takes ∙ ap (λ l. l ++ s.1) (sym (type_shown-Use None a s.0.items (p ∷ o ∷ s.0.marks))))
      (measures_as (type_kind_deep-Use None a s.0.items) r.measures) r.within

  operation_read : (p d n o : Place) (name : Name) (ts : List Placed) (s : Several TypeExpr × List Placed) → is_set_operation name s.0.items ≡ true → TypesClosed (codes ")") ts s
      → Read IsSimpleType type_tokens type_deep (suc levels) (at (T.Atom (codes "ety")) p ∷ at (T.Mark (codes ":")) d ∷ at (T.Atom name) n ∷ at (T.Mark (codes "(")) o ∷ ts) (built p (p ∷ d ∷ n ∷ o ∷ s.0.marks) (Y.Use (Some (codes "ety")) name s.0.items) s.0.height) s.1
  operation_read p d n o name ts s e r = built_read
      (subst (λ ms. IsSimpleType (node p (p ∷ d ∷ n ∷ o ∷ ms) (Y.Use (Some (codes "ety")) name s.0.items))) (sym r.marks) (set_operation p d n o r.close r.between name s.0.items e r.gaps r.formed))
      (ap (λ l. at (T.Atom (codes "ety")) p ∷ at (T.Mark (codes ":")) d ∷ at (T.Atom name) n ∷ at (T.Mark (codes "(")) o ∷ l) r.takes ∙ ap (λ l. l ++ s.1) (sym (type_shown-Use (Some (codes "ety")) name s.0.items (p ∷ d ∷ n ∷ o ∷ s.0.marks))))
      (measures_as (type_kind_deep-Use (Some (codes "ety")) name s.0.items) r.measures) r.within

  no_operation : (p d n o : Place) (name : Name) (ts : List Placed) (s : Several TypeExpr × List Placed) → is_set_operation name s.0.items ≡ false → TypesClosed (codes ")") ts s
      → HasOutside (at (T.Atom (codes "ety")) p ∷ at (T.Mark (codes ":")) d ∷ at (T.Atom name) n ∷ at (T.Mark (codes "(")) o ∷ ts) d (codes "remote name")
  no_operation p d n o name ts s e r = subst (λ l. HasOutside (at (T.Atom (codes "ety")) p ∷ at (T.Mark (codes ":")) d ∷ at (T.Atom name) n ∷ at (T.Mark (codes "(")) o ∷ l) d (codes "remote name"))
      (sym (r.takes ∙ ap (λ ms. fill (commas (map type_tokens s.0.items) ++ own (T.Mark (codes ")")) ∷ []) ms ++ s.1) r.marks))
      (stands_after (at (T.Atom (codes "ety")) p ∷ []) (no_set_operation name s.0.items p d n o r.close r.between [] s.1 e r.gaps r.formed))

  read_set_operation-right : (p d : Place) (ts : List Placed) → ReadsSimple (suc levels) (at (T.Atom (codes "ety")) p ∷ at (T.Mark (codes ":")) d ∷ ts) (read_set_operation inner p d ts)
  unfolding read_set_operation
  read_set_operation-right p d ts = let two = behind_behind (behind_token refl) (behind_token refl) in right_next two (expect_atom ts) λ n hn.
      let three = behind_behind two (behind_token hn) in right_next three (expect_mark (codes "(") n.1) λ o ho.
      let front = ap (λ l. at (T.Atom (codes "ety")) p ∷ at (T.Mark (codes ":")) d ∷ l) (hn ∙ ap (λ l. at (T.Atom n.0.0) n.0.1 ∷ l) ho) in
      right_next (behind_behind three (behind_token ho)) (types_closed (codes ")") o.1) λ s r. right_if
      (λ e. right_ok (subst (λ l. Read IsSimpleType type_tokens type_deep (suc levels) l (built p (p ∷ d ∷ n.0.1 ∷ o.0 ∷ s.0.marks) (Y.Use (Some (codes "ety")) n.0.0 s.0.items) s.0.height) s.1) (sym front) (operation_read p d n.0.1 o.0 n.0.0 o.1 s e r)))
      (λ e. right_outside (subst (λ l. HasOutside l d (codes "remote name")) (sym front) (no_operation p d n.0.1 o.0 n.0.0 o.1 s e r)))

  -- behind an atom and a colon
  read_prefixed : (a : Name) (p : Place) (ts : List Placed) (d : Place × List Placed) → IsMarkNext (codes ":") ts d → ReadsSimple (suc levels) (at (T.Atom a) p ∷ ts) (if bytes_eq a (codes "ety") then read_set_operation inner p d.0 d.1 else outside (codes "remote name") d.0)
  read_prefixed a p ts d g = right_if
      (λ e. subst (λ z. ReadsSimple (suc levels) (at (T.Atom z) p ∷ ts) (read_set_operation inner p d.0 d.1)) (sym (text_is (codes "ety") a e))
      (subst (λ l. ReadsSimple (suc levels) (at (T.Atom (codes "ety")) p ∷ l) (read_set_operation inner p d.0 d.1)) (sym g) (read_set_operation-right p d.0 d.1)))
      (λ e. right_outside (subst (λ l. HasOutside (at (T.Atom a) p ∷ l) d.0 (codes "remote name")) (sym g) (stands_after (at (T.Atom a) p ∷ []) (remote_type a p d.0 [] d.1 e))))

  pub read_named-right : (a : Name) (p : Place) (ts : List Placed) → ReadsSimple (suc levels) (at (T.Atom a) p ∷ ts) (read_named inner a p ts)
  unfolding read_named
  read_named-right a p ts = right_case
      (λ e. right_case
      (λ g. leaf_right levels (T.Atom a) p (Y.Atom a) ts (atom_type p a) (type_shown-Atom a (p ∷ [])) (type_kind_deep-Atom a))
      (λ d g. read_prefixed a p ts d (mark-takes (codes ":") ts d g)))
      (λ o e. let g = mark-takes (codes "(") ts o e in right_next (behind_behind (behind_token refl) (behind_token g)) (types_closed (codes ")") o.1) λ s r.
      right_ok (subst (λ l. Read IsSimpleType type_tokens type_deep (suc levels) (at (T.Atom a) p ∷ l) (built p (p ∷ o.0 ∷ s.0.marks) (Y.Use None a s.0.items) s.0.height) s.1) (sym g) (use_read p o.0 a o.1 s r)))

  -- ---- brackets

  pub read_parens-right : (o : Place) (ts : List Placed) → ReadsSimple (suc levels) (at (T.Mark (codes "(")) o ∷ ts) (read_parens inner o ts)
  unfolding read_parens
  read_parens-right o ts = right_next (behind_token refl) (inner-right ts) λ t h. right_next (behind_behind (behind_token refl) (behind_part _ h.takes)) (expect_mark (codes ")") t.1) λ c g.
      right_ok (built_read (paren_type o c.0 t.0.tree h.formed)
      (ap (λ l. at (T.Mark (codes "(")) o ∷ l) (h.takes ∙ (ap (λ l. type_tokens t.0.tree ++ l) g ∙ sym (append_assoc (type_tokens t.0.tree) (at (T.Mark (codes ")")) c.0 ∷ []) c.1))) ∙ ap (λ l. l ++ c.1) (sym (type_shown-Paren t.0.tree (o ∷ c.0 ∷ []))))
      (measures_as (type_kind_deep-Paren t.0.tree) h.measures) h.within)

  tuple_read : (o : Place) (ts : List Placed) (s : Several TypeExpr × List Placed) → TypesClosed (codes "}") ts s → Read IsSimpleType type_tokens type_deep (suc levels) (at (T.Mark (codes "{")) o ∷ ts) (built o (o ∷ s.0.marks) (Y.Tuple s.0.items) s.0.height) s.1
  tuple_read o ts s r = built_read
      (subst (λ ms. IsSimpleType (node o (o ∷ ms) (Y.Tuple s.0.items))) (sym r.marks) (tuple_type o r.close r.between s.0.items r.gaps r.formed))
      (ap (λ l. at (T.Mark (codes "{")) o ∷ l) r.takes ∙ ap (λ l. l ++ s.1) (sym (type_shown-Tuple s.0.items (o ∷ s.0.marks))))
      (measures_as (type_kind_deep-Tuple s.0.items) r.measures) r.within

  pub read_tuple-right : (o : Place) (ts : List Placed) → ReadsSimple (suc levels) (at (T.Mark (codes "{")) o ∷ ts) (read_tuple inner o ts)
  unfolding read_tuple
  read_tuple-right o ts = right_next (behind_token refl) (types_closed (codes "}") ts) λ s r. right_ok (tuple_read o ts s r)

  -- the type in the brackets of a list was read
  list_read : (o : Place) (ts : List Placed) (t : Measured TypeExpr) (us : List Placed) (c : Place × List Placed) → Read IsType type_tokens type_deep levels ts t us → IsMarkNext (codes "]") us c
      → Read IsSimpleType type_tokens type_deep (suc levels) (at (T.Mark (codes "[")) o ∷ ts) (built o (o ∷ c.0 ∷ []) (Y.ListOf t.tree) t.height) c.1
  list_read o ts t us c h g = built_read (list_type o c.0 t.tree h.formed)
      (ap (λ l. at (T.Mark (codes "[")) o ∷ l) (h.takes ∙ (ap (λ l. type_tokens t.tree ++ l) g ∙ sym (append_assoc (type_tokens t.tree) (at (T.Mark (codes "]")) c.0 ∷ []) c.1))) ∙ ap (λ l. l ++ c.1) (sym (type_shown-ListOf t.tree (o ∷ c.0 ∷ []))))
      (measures_as (type_kind_deep-ListOf t.tree) h.measures) h.within

  nonempty_read : (o : Place) (ts : List Placed) (t : Measured TypeExpr) (us : List Placed) (m d c : Place × List Placed) → Read IsType type_tokens type_deep levels ts t us → IsMarkNext (codes ",") us m → IsMarkNext (codes "...") m.1 d → IsMarkNext (codes "]") d.1 c
      → Read IsSimpleType type_tokens type_deep (suc levels) (at (T.Mark (codes "[")) o ∷ ts) (built o (o ∷ m.0 ∷ d.0 ∷ c.0 ∷ []) (Y.NonEmpty t.tree) t.height) c.1
  nonempty_read o ts t us m d c h f g e = built_read (nonempty_list_type o m.0 d.0 c.0 t.tree h.formed)
      (ap (λ l. at (T.Mark (codes "[")) o ∷ l) (h.takes ∙ (ap (λ l. type_tokens t.tree ++ l) (f ∙ ap (λ l. at (T.Mark (codes ",")) m.0 ∷ l) (g ∙ ap (λ l. at (T.Mark (codes "...")) d.0 ∷ l) e))
      ∙ sym (append_assoc (type_tokens t.tree) (at (T.Mark (codes ",")) m.0 ∷ at (T.Mark (codes "...")) d.0 ∷ at (T.Mark (codes "]")) c.0 ∷ []) c.1))) ∙ ap (λ l. l ++ c.1) (sym (type_shown-NonEmpty t.tree (o ∷ m.0 ∷ d.0 ∷ c.0 ∷ []))))
      (measures_as (type_kind_deep-NonEmpty t.tree) h.measures) h.within

  read_list_end-right : (o : Place) (ts : List Placed) (t : Measured TypeExpr) (us : List Placed) → Read IsType type_tokens type_deep levels ts t us → ReadsSimple (suc levels) (at (T.Mark (codes "[")) o ∷ ts) (read_list_end o t us)
  unfolding read_list_end
  read_list_end-right o ts t us h = let one = behind_behind (behind_token {t = at (T.Mark (codes "[")) o} refl) (behind_part _ h.takes) in right_case
      (λ e. right_next one (expect_mark (codes "]") us) λ c g. right_ok (list_read o ts t us c h g))
      (λ m e. let f = mark-takes (codes ",") us m e in let two = behind_behind one (behind_token f) in right_next two (expect_mark (codes "...") m.1) λ d g.
      right_next (behind_behind two (behind_token g)) (expect_mark (codes "]") d.1) λ c k. right_ok (nonempty_read o ts t us m d c h f g k))

  pub read_list-right : (o : Place) (ts : List Placed) → ReadsSimple (suc levels) (at (T.Mark (codes "[")) o ∷ ts) (read_list inner o ts)
  unfolding read_list
  read_list-right o ts = right_case
      (λ e. right_next (behind_token refl) (inner-right ts) λ t h. read_list_end-right o ts t.0 t.1 h)
      (λ c e. right_ok (built_read (nil_type o c.0) (ap (λ l. at (T.Mark (codes "[")) o ∷ l) (mark-takes (codes "]") ts c e) ∙ ap (λ l. l ++ c.1) (sym (type_shown-Nil (o ∷ c.0 ∷ [])))) (nothing_measured type_kind_deep-Nil) (omega arith)))

  map_read : (h o : Place) (ts : List Placed) (s : Several (Node MapPart) × List Placed) → AreClosed IsMapPart map_part_tokens map_part_deep levels (codes "}") ts s
      → Read IsSimpleType type_tokens type_deep (suc levels) (at (T.Mark (codes "#")) h ∷ at (T.Mark (codes "{")) o ∷ ts) (built h (h ∷ o ∷ s.0.marks) (Y.Map s.0.items) s.0.height) s.1
  map_read h o ts s r = built_read
      (subst (λ ms. IsSimpleType (node h (h ∷ o ∷ ms) (Y.Map s.0.items))) (sym r.marks) (map_type h o r.close r.between s.0.items r.gaps r.formed))
      (ap (λ l. at (T.Mark (codes "#")) h ∷ at (T.Mark (codes "{")) o ∷ l) r.takes ∙ ap (λ l. l ++ s.1) (sym (type_shown-Map s.0.items (h ∷ o ∷ s.0.marks))))
      (measures_as (type_kind_deep-Map s.0.items) r.measures) r.within

  record_read : (h n o : Place) (name : Name) (ts : List Placed) (s : Several (Node (Name × TypeExpr)) × List Placed) → AreClosed IsFieldType type_field_tokens (deep_second type_deep) levels (codes "}") ts s
      → Read IsSimpleType type_tokens type_deep (suc levels) (at (T.Mark (codes "#")) h ∷ at (T.Atom name) n ∷ at (T.Mark (codes "{")) o ∷ ts) (built h (h ∷ n ∷ o ∷ s.0.marks) (Y.Rec name name s.0.items) s.0.height) s.1
  record_read h n o name ts s r = built_read
      (subst (λ ms. IsSimpleType (node h (h ∷ n ∷ o ∷ ms) (Y.Rec name name s.0.items))) (sym r.marks) (record_type h n o r.close r.between name s.0.items r.gaps r.formed))
      (ap (λ l. at (T.Mark (codes "#")) h ∷ at (T.Atom name) n ∷ at (T.Mark (codes "{")) o ∷ l) r.takes ∙ ap (λ l. l ++ s.1) (sym (type_shown-Rec name name s.0.items (h ∷ n ∷ o ∷ s.0.marks))))
      (measures_as (type_kind_deep-Rec name name s.0.items) r.measures) r.within

  read_record-right : (h : Place) (ts : List Placed) → ReadsSimple (suc levels) (at (T.Mark (codes "#")) h ∷ ts) (read_record inner h ts)
  unfolding read_record
  read_record-right h ts = right_next (behind_token refl) (expect_atom ts) λ a ha. let one = behind_behind (behind_token refl) (behind_token ha) in
      right_next one (expect_mark (codes "{") a.1) λ o ho. right_next (behind_behind one (behind_token ho))
      (read_closed-right IsFieldType type_field_tokens (deep_second type_deep) levels (read_typed_field inner) (read_typed_field-right levels inner inner-right) (codes "}") o.1) λ s r.
      right_ok (subst (λ l. Read IsSimpleType type_tokens type_deep (suc levels) l (built h (h ∷ a.0.1 ∷ o.0 ∷ s.0.marks) (Y.Rec a.0.0 a.0.0 s.0.items) s.0.height) s.1)
      (sym (ap (λ l. at (T.Mark (codes "#")) h ∷ l) (ha ∙ ap (λ l. at (T.Atom a.0.0) a.0.1 ∷ l) ho))) (record_read h a.0.1 o.0 a.0.0 o.1 s r))

  pub read_hash-right : (h : Place) (ts : List Placed) → ReadsSimple (suc levels) (at (T.Mark (codes "#")) h ∷ ts) (read_hash inner h ts)
  unfolding read_hash
  read_hash-right h ts = right_case
      (λ e. read_record-right h ts)
      (λ o e. let g = mark-takes (codes "{") ts o e in right_next (behind_behind (behind_token refl) (behind_token g))
      (read_closed-right IsMapPart map_part_tokens map_part_deep levels (read_map_part inner) (read_map_part-right levels inner inner-right) (codes "}") o.1) λ s r.
      right_ok (subst (λ l. Read IsSimpleType type_tokens type_deep (suc levels) (at (T.Mark (codes "#")) h ∷ l) (built h (h ∷ o.0 ∷ s.0.marks) (Y.Map s.0.items) s.0.height) s.1) (sym g) (map_read h o.0 o.1 s r)))
