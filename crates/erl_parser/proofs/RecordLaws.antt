-- Definitions of records: what is read is right, and what is well formed is read again.
use Rattle.std.proofs.Common.{◌≡◌, ℕ, List, [], ◌∷◌, ◌++◌, map, length, refl, ap, sym, ◌∙◌, append_assoc, append-nil}
use Rattle.std.specs.Prelude.{Option, Some, None, Ok, codes}
use Rattle.type_terms.specs.Keys.{Name}
use Rattle.erl_tree.specs.Lists.{Among}
use Rattle.erl_tree.specs.declared.token.Place.{Place}
use Rattle.erl_tree.specs.declared.token.Placed.{Placed}
use Rattle.erl_tree.specs.declared.token.Node.{Node}
use Rattle.erl_tree.specs.declared.token.Token.TheVariants as T
use Rattle.erl_tree.specs.declared.expr.ExprKind.{ExprKind}
use Rattle.erl_tree.specs.declared.type_expr.TypeKind.{TypeKind}
use Rattle.erl_tree.specs.declared.form.RecDefKind.{RecDefKind}
use Rattle.erl_tree.specs.declared.form.RecFieldKind.{RecFieldKind}
use Rattle.erl_tree.specs.declared.form.TreeForm.TheVariants as F
use Rattle.erl_grammar.specs.Pieces.{at, own, fill, owned, commas}
use Rattle.erl_grammar.specs.Grammar.{node, AreSeparators}
use Rattle.erl_grammar.specs.Nesting.{deep_optional, expr_deep}
use Rattle.erl_grammar.specs.Spelling.{expr_tokens}
use Rattle.erl_grammar.specs.TypeSpelling.{type_tokens}
use Rattle.erl_grammar.specs.TypeNesting.{type_deep}
use Rattle.erl_grammar.specs.FormSpelling.{default_pieces, declared_type_pieces, record_field_tokens, record_definition_tokens}
use Rattle.erl_grammar.specs.FormNesting.{record_field_deep, form_deep}
use Rattle.erl_grammar.specs.FormGrammar as G
use Rattle.erl_grammar.specs.FormGrammar.{IsDefault, IsDeclaredType, IsRecordField}
use Rattle.erl_grammar.proofs.MarkLaws.{only_gaps}
use Rattle.erl_parser_tokens.specs.Tokens.{◌>>=◌, mark}
use Rattle.erl_parser_tokens.proofs.HeightLaws.{among_front, among_behind}
use Rattle.erl_parser_tokens.proofs.Then.{behind_token, behind_part, behind_behind, Right, right_ok, right_next, right_case, Again, again_ok, again_from, again_step, again_none, again_some, again_read, IsDeep}
use Rattle.erl_parser_tokens.proofs.TokenLaws.{mark-takes, mark-again, expect_mark-again, expect_atom-again}
use Rattle.erl_parser_tokens.proofs.Endings.{mark-none}
use Rattle.erl_parser_exprs.proofs.Levels.{EndsExpr}
use Rattle.erl_parser_exprs.proofs.Endings.{comma-closes, brace-closes, closes-expr}
use Rattle.erl_parser_exprs.proofs.LevelLaws.{read_expr-right, read_expr-again}
use Rattle.erl_parser_exprs.specs.Expressions.{read_expr}
use Rattle.erl_parser_types.specs.Types.{read_type}
use Rattle.erl_parser_types.proofs.TypeEnds.{EndsType, ends_comma, ends_brace}
use Rattle.erl_parser_types.proofs.TypeRight.{read_type-right}
use Rattle.erl_parser_types.proofs.TypeAgain.{read_type-again}
use Rattle.erl_parser.specs.Forms.{read_default, read_annotation, read_record_field, read_record}
use Rattle.erl_parser.proofs.ItemsLaws.{fill_joined, nested_behind, text_of, IsThis, again_this, ItemRead, items_to-right, items_to-again, IsNodeItem, node_item, node_pieces, node_many, nodes_text, may_be_formed, may_be_gaps, nodes_may_be, node_read, node_again}
use Rattle.erl_parser.proofs.FormTokens.{right_mark, right_atom, right_dot, expect_dot-again, colons-ends_expr, FormRead, attribute_text, behind_name}

-- ---- defaults

-- a default or none was read
record DefaultRead (levels : ℕ) (ts : List Placed) (q : (Option (Node ExprKind) × List Place) × List Placed) : Type 0 where
  formed : IsDefault q.0.0 q.0.1
  takes : ts ≡ fill (default_pieces q.0.0) q.0.1 ++ q.1
  shallow : deep_optional expr_deep q.0.0 levels ≡ []

default-right : (levels : ℕ) (ts : List Placed) → Right (DefaultRead levels ts) ts (read_default levels ts)
unfolding read_default
default-right levels ts = right_case
    (λ e. right_ok (record { formed = G.no_default; takes = refl; shallow = refl }))
    (λ m e. let g = mark-takes (codes "=") ts m e in right_next (behind_token g) (read_expr-right levels m.1) λ x h. right_ok (record {
      formed = G.default m.0 x.0.tree h.formed;
      takes = g ∙ ap (λ l. at (T.Mark (codes "=")) m.0 ∷ l) (h.takes ∙ ap (λ l. l ++ x.1) (sym (append-nil (expr_tokens x.0.tree))));
      shallow = h.measures.shallow levels h.within;
    }))

default-again : (levels : ℕ) (e : Option (Node ExprKind)) (ds : List Place) (rest : List Placed) → IsDefault e ds → mark (codes "=") rest ≡ None → EndsExpr rest → Again (IsThis ((e, ds), rest)) (IsDeep (deep_optional expr_deep) levels e) (read_default levels (fill (default_pieces e) ds ++ rest))
unfolding read_default
default-again levels _ _ rest G.no_default n f = again_none _ n (again_ok refl)
default-again levels _ _ rest (G.default m e i) n f = again_some _ _ (mark-again (codes "=") m _)
    (again_from (ap (λ l. read_expr levels (l ++ rest) >>= λ x. Ok ((Some x.0.tree, m ∷ []), x.1)) (append-nil (expr_tokens e)))
    (again_read _ (read_expr-again levels e rest i f) (λ p d. d) λ h. again_ok refl))

-- ---- types

-- a type or none was read
record AnnotationRead (levels : ℕ) (ts : List Placed) (q : (Option (Node TypeKind) × List Place) × List Placed) : Type 0 where
  formed : IsDeclaredType q.0.0 q.0.1
  takes : ts ≡ fill (declared_type_pieces q.0.0) q.0.1 ++ q.1
  shallow : deep_optional type_deep q.0.0 levels ≡ []

annotation-right : (levels : ℕ) (ts : List Placed) → Right (AnnotationRead levels ts) ts (read_annotation levels ts)
unfolding read_annotation
annotation-right levels ts = right_case
    (λ e. right_ok (record { formed = G.no_declared_type; takes = refl; shallow = refl }))
    (λ m e. let g = mark-takes (codes "::") ts m e in right_next (behind_token g) (read_type-right levels m.1) λ x h. right_ok (record {
      formed = G.annotation m.0 x.0.tree h.formed;
      takes = g ∙ ap (λ l. at (T.Mark (codes "::")) m.0 ∷ l) (h.takes ∙ ap (λ l. l ++ x.1) (sym (append-nil (type_tokens x.0.tree))));
      shallow = h.measures.shallow levels h.within;
    }))

annotation-again : (levels : ℕ) (t : Option (Node TypeKind)) (us : List Place) (rest : List Placed) → IsDeclaredType t us → mark (codes "::") rest ≡ None → EndsType rest → Again (IsThis ((t, us), rest)) (IsDeep (deep_optional type_deep) levels t) (read_annotation levels (fill (declared_type_pieces t) us ++ rest))
unfolding read_annotation
annotation-again levels _ _ rest G.no_declared_type n f = again_none _ n (again_ok refl)
annotation-again levels _ _ rest (G.annotation m t i) n f = again_some _ _ (mark-again (codes "::") m _)
    (again_from (ap (λ l. read_type levels (l ++ rest) >>= λ x. Ok ((Some x.0.tree, m ∷ []), x.1)) (append-nil (type_tokens t)))
    (again_read _ (read_type-again levels t rest i f) (λ p d. d) λ h. again_ok refl))

-- ---- fields

-- what may follow a field
record EndsField (ts : List Placed) : Type 0 where
  no_equals : mark (codes "=") ts ≡ None
  no_colons : mark (codes "::") ts ≡ None
  ends_expr : EndsExpr ts
  ends_type : EndsType ts

-- what stands behind the default
record EndsDefault (ts : List Placed) : Type 0 where
  no_equals : mark (codes "=") ts ≡ None
  ends_expr : EndsExpr ts

annotation_ends : (t : Option (Node TypeKind)) (us : List Place) (rest : List Placed) → IsDeclaredType t us → EndsField rest → EndsDefault (fill (declared_type_pieces t) us ++ rest)
annotation_ends _ _ rest G.no_declared_type f = record { no_equals = f.no_equals; ends_expr = f.ends_expr }
annotation_ends _ _ rest (G.annotation m t i) f = record { no_equals = mark-none (codes "=") (T.Mark (codes "::")) m _ refl; ends_expr = colons-ends_expr m _ }

default_many : (e : Option (Node ExprKind)) (ds : List Place) → IsDefault e ds → owned (default_pieces e) ≡ length ds
default_many _ _ G.no_default = refl
default_many _ _ (G.default m e i) = refl

abbrev field_of : Place → (ds us : List Place) → Name → Option (Node ExprKind) → Option (Node TypeKind) → Node RecFieldKind
field_of p ds us name e t = node p (p ∷ (ds ++ us)) (record { name = name; default = e; ty = t })

field_in_turn : (p : Place) (ds us : List Place) (name : Name) (e : Option (Node ExprKind)) (t : Option (Node TypeKind)) (rest : List Placed) → IsDefault e ds → record_field_tokens (field_of p ds us name e t) ++ rest ≡ at (T.Atom name) p ∷ (fill (default_pieces e) ds ++ (fill (declared_type_pieces t) us ++ rest))
field_in_turn p ds us name e t rest i = ap (λ l. at (T.Atom name) p ∷ l) (ap (λ l. l ++ rest) (fill_joined (default_pieces e) (declared_type_pieces t) ds us (default_many e ds i)) ∙ append_assoc (fill (default_pieces e) ds) (fill (declared_type_pieces t) us) rest)

both_empty : (ps qs : List Place) → ps ≡ [] → qs ≡ [] → ps ++ qs ≡ []
both_empty ps qs e f = ap (λ l. l ++ qs) e ∙ f

field-right : (levels : ℕ) (ts : List Placed) → Right (ItemRead (IsNodeItem IsRecordField) (node_pieces IsRecordField record_field_tokens) (node_many IsRecordField record_field_tokens) record_field_deep levels ts) ts (read_record_field levels ts)
unfolding read_record_field
field-right levels ts = right_atom ts λ a ha. right_next (behind_token ha) (default-right levels a.1) λ d hd.
    right_next (behind_behind (behind_token ha) (behind_part _ hd.takes)) (annotation-right levels d.1) λ t ht. right_ok (node_read IsRecordField record_field_tokens record_field_deep levels ts (field_of a.0.1 d.0.1 t.0.1 a.0.0 d.0.0 t.0.0) t.1
    (G.record_field a.0.1 d.0.1 t.0.1 a.0.0 d.0.0 t.0.0 hd.formed ht.formed)
    (ha ∙ (ap (λ l. at (T.Atom a.0.0) a.0.1 ∷ l) (hd.takes ∙ ap (λ l. fill (default_pieces d.0.0) d.0.1 ++ l) ht.takes) ∙ sym (field_in_turn a.0.1 d.0.1 t.0.1 a.0.0 d.0.0 t.0.0 t.1 hd.formed)))
    (both_empty (deep_optional expr_deep d.0.0 levels) (deep_optional type_deep t.0.0 levels) hd.shallow ht.shallow))

field-again : (levels : ℕ) (f : Node RecFieldKind) (rest : List Placed) → IsRecordField f → EndsField rest → Again (IsThis ((f, []), rest)) (IsDeep record_field_deep levels f) (read_record_field levels (record_field_tokens f ++ rest))
unfolding read_record_field
field-again levels _ rest (G.record_field p ds us name e t i j) f =
    let n = annotation_ends t us rest j f in
    again_from (ap (read_record_field levels) (field_in_turn p ds us name e t rest i))
    (again_step _ (expect_atom-again name p _)
    (again_this _ (default-again levels e ds _ i n.no_equals n.ends_expr) (λ q d. among_front q (deep_optional expr_deep e levels) _ d)
    (again_this _ (annotation-again levels t us rest j f.no_colons f.ends_type) (λ q d. among_behind q (deep_optional expr_deep e levels) _ d) (again_ok refl))))

-- ---- definitions

abbrev record_of : (h w o n c b d e p : Place) → List Place → Name → List (Node RecFieldKind) → Node RecDefKind
record_of h w o n c b d e p ms name fields = node h (h ∷ w ∷ o ∷ n ∷ c ∷ b ∷ (ms ++ d ∷ e ∷ p ∷ [])) (record { name = name; tag = name; fields = fields })

-- the fields, with commas between them
abbrev fields_text : List (Node RecFieldKind) → List Place → List Placed
fields_text fields ms = text_of (node_pieces IsRecordField record_field_tokens) (T.Mark (codes ",")) fields ms

-- what stands behind the name of the attribute
abbrev record_text : (o n c b d e p : Place) → List Place → Name → List (Node RecFieldKind) → List Placed → List Placed
record_text o n c b d e p ms name fields rest = at (T.Mark (codes "(")) o ∷ at (T.Atom name) n ∷ at (T.Mark (codes ",")) c ∷ at (T.Mark (codes "{")) b ∷ (fields_text fields ms ++ at (T.Mark (codes "}")) d ∷ at (T.Mark (codes ")")) e ∷ at T.Dot p ∷ rest)

record_in_turn : (h w o n c b d e p : Place) (ms : List Place) (name : Name) (fields : List (Node RecFieldKind)) (rest : List Placed) → AreSeparators fields ms → record_definition_tokens (record_of h w o n c b d e p ms name fields) ++ rest ≡ attribute_text (codes "record") h w (record_text o n c b d e p ms name fields rest)
record_in_turn h w o n c b d e p ms name fields rest g = ap (λ l. attribute_text (codes "record") h w (at (T.Mark (codes "(")) o ∷ at (T.Atom name) n ∷ at (T.Mark (codes ",")) c ∷ at (T.Mark (codes "{")) b ∷ l))
    (nested_behind (commas (map record_field_tokens fields)) (own (T.Mark (codes "}")) ∷ own (T.Mark (codes ")")) ∷ []) (own T.Dot ∷ []) ms (d ∷ e ∷ p ∷ []) rest (only_gaps (T.Mark (codes ",")) record_field_tokens fields ms g)
    ∙ ap (λ l. l ++ at (T.Mark (codes "}")) d ∷ at (T.Mark (codes ")")) e ∷ at T.Dot p ∷ rest) (sym (nodes_text IsRecordField record_field_tokens (T.Mark (codes ",")) fields ms)))

-- a definition of a record is read rightly
pub record-right : (levels : ℕ) (h w : Place) (ts : List Placed) → let whole : List Placed = attribute_text (codes "record") h w ts in Right (FormRead levels whole) whole (read_record levels h w ts)
unfolding read_record
record-right levels h w ts = right_mark (codes "(") ts λ o ho. right_atom o.1 λ n hn. right_mark (codes ",") n.1 λ c hc. right_mark (codes "{") c.1 λ b hb.
    right_next (behind_behind (behind_name (codes "record") h w ts) (behind_behind (behind_token ho) (behind_behind (behind_token hn) (behind_behind (behind_token hc) (behind_token hb)))))
    (items_to-right (IsNodeItem IsRecordField) (node_pieces IsRecordField record_field_tokens) (node_many IsRecordField record_field_tokens) record_field_deep levels (read_record_field levels) (field-right levels) (codes "}") b.1) λ s hs.
    right_mark (codes ")") s.1 λ e he. right_dot e.1 λ p hp.
    let gaps = may_be_gaps IsRecordField record_field_tokens s.0.0.items s.0.0.marks hs.formed in
    right_ok (record {
      formed = G.record_form _ (G.record_definition h w o.0 n.0.1 c.0 b.0 s.0.1 e.0 p.0 s.0.0.marks n.0.0 s.0.0.items gaps (may_be_formed IsRecordField record_field_tokens s.0.0.items s.0.0.marks hs.formed));
      takes = ap (attribute_text (codes "record") h w) (ho ∙ ap (λ l. at (T.Mark (codes "(")) o.0 ∷ l) (hn ∙ ap (λ l. at (T.Atom n.0.0) n.0.1 ∷ l) (hc ∙ ap (λ l. at (T.Mark (codes ",")) c.0 ∷ l) (hb ∙ ap (λ l. at (T.Mark (codes "{")) b.0 ∷ l)
          (hs.takes ∙ ap (λ l. fields_text s.0.0.items s.0.0.marks ++ at (T.Mark (codes "}")) s.0.1 ∷ l) (he ∙ ap (λ l. at (T.Mark (codes ")")) e.0 ∷ l) hp))))))
          ∙ sym (record_in_turn h w o.0 n.0.1 c.0 b.0 s.0.1 e.0 p.0 s.0.0.marks n.0.0 s.0.0.items p.1 gaps);
      shallow = hs.shallow;
    })

comma_ends_field : (m : Place) (us : List Placed) → EndsField (at (T.Mark (codes ",")) m ∷ us)
comma_ends_field m us = record { no_equals = mark-none (codes "=") (T.Mark (codes ",")) m us refl; no_colons = mark-none (codes "::") (T.Mark (codes ",")) m us refl; ends_expr = closes-expr comma-closes m us; ends_type = ends_comma m us }

brace_ends_field : (m : Place) (us : List Placed) → EndsField (at (T.Mark (codes "}")) m ∷ us)
brace_ends_field m us = record { no_equals = mark-none (codes "=") (T.Mark (codes "}")) m us refl; no_colons = mark-none (codes "::") (T.Mark (codes "}")) m us refl; ends_expr = closes-expr brace-closes m us; ends_type = ends_brace m us }

no_brace : (f : Node RecFieldKind) (ms : List Place) (us : List Placed) → IsNodeItem IsRecordField f ms → mark (codes "}") (fill (node_pieces IsRecordField record_field_tokens f) ms ++ us) ≡ None
no_brace _ _ us (node_item _ (G.record_field p ds ns name e t i j)) = mark-none (codes "}") (T.Atom name) p _ refl

-- a definition of a record is read again
pub record-again : (levels : ℕ) (h w o n c b d e p : Place) (ms : List Place) (name : Name) (fields : List (Node RecFieldKind)) (rest : List Placed) → AreSeparators fields ms → ((f : Node RecFieldKind) → Among f fields → IsRecordField f)
    → (record_definition_tokens (record_of h w o n c b d e p ms name fields) ++ rest ≡ attribute_text (codes "record") h w (record_text o n c b d e p ms name fields rest))
    × Again (IsThis (F.RecDef (record_of h w o n c b d e p ms name fields), rest)) (IsDeep form_deep levels (F.RecDef (record_of h w o n c b d e p ms name fields))) (read_record levels h w (record_text o n c b d e p ms name fields rest))
unfolding read_record
record-again levels h w o n c b d e p ms name fields rest g i = (
  record_in_turn h w o n c b d e p ms name fields rest g,
  again_step _ (expect_mark-again (codes "(") o _) (again_step _ (expect_atom-again name n _) (again_step _ (expect_mark-again (codes ",") c _) (again_step _ (expect_mark-again (codes "{") b _)
      (again_this _ (items_to-again (IsNodeItem IsRecordField) (node_pieces IsRecordField record_field_tokens) (node_many IsRecordField record_field_tokens) record_field_deep levels EndsField (read_record_field levels)
      (node_again IsRecordField record_field_tokens record_field_deep levels EndsField (read_record_field levels) (field-again levels)) (codes "}") comma_ends_field brace_ends_field (λ m us. mark-none (codes ",") (T.Mark (codes "}")) m us refl) no_brace fields ms d _ (nodes_may_be IsRecordField record_field_tokens fields ms i g)) (λ q a. a)
      (again_step _ (expect_mark-again (codes ")") e _) (again_step _ (expect_dot-again p rest) (again_ok refl))))))),
)
