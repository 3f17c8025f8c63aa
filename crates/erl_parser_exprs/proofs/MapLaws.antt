-- Maps and records, new and changed, and fields of records.
use Rattle.std.proofs.Common.{◌≡◌, ℕ, suc, ◌≤◌, true, false, List, [], ◌∷◌, ◌++◌, map, refl, ap, sym, ◌∙◌, subst, append_assoc, arith}
use Rattle.std.specs.Prelude.{Some, None, Ok, Err, codes}
use Rattle.type_terms.specs.Keys.{Name}
use Rattle.erl_tree.specs.Lists.{Among}
use Rattle.erl_tree.specs.declared.token.Place.{Place}
use Rattle.erl_tree.specs.declared.token.Placed.{Placed}
use Rattle.erl_tree.specs.declared.token.Node.{Node}
use Rattle.erl_tree.specs.declared.token.Token.TheVariants as T
use Rattle.erl_tree.specs.declared.expr.ExprKind.{ExprKind}
use Rattle.erl_tree.specs.declared.expr.ExprKind.TheVariants as X
use Rattle.erl_tree.specs.declared.expr.AssocKind.{AssocKind}
use Rattle.erl_grammar.specs.declared.head.Head.{Head}
use Rattle.erl_grammar.specs.declared.head.Head.TheVariants.{OfMap, OfRecord}
use Rattle.erl_grammar.specs.Pieces.{at, own, fill, commas}
use Rattle.erl_grammar.specs.Spelling.{expr_tokens, assoc_tokens, expr_field_tokens}
use Rattle.erl_grammar.specs.Nesting.{deep_second, expr_deep, assoc_deep}
use Rattle.erl_grammar.specs.Grammar.{node, takes_map, takes_record, IsPostfix, new_map, changed_map, new_record, changed_record, record_field, IsAssoc, IsField}
use Rattle.erl_grammar.proofs.SpellingLaws.{expr_shown-MapNew, expr_shown-MapChange, expr_shown-RecNew, expr_shown-RecChange, expr_shown-RecGet}
use Rattle.erl_grammar.proofs.NestingLaws.{expr_kind_deep-MapNew, expr_kind_deep-MapChange, expr_kind_deep-RecNew, expr_kind_deep-RecChange, expr_kind_deep-RecGet}
use Rattle.erl_parser_tokens.specs.declared.height.Measured.{Measured}
use Rattle.erl_parser_tokens.specs.Heights.{higher}
use Rattle.erl_parser_tokens.specs.Tokens.{Answer, ◌>>=◌, in_case, outside, expect, mark, atom}
use Rattle.erl_parser_tokens.specs.Parts.{Several, read_closed, read_field, built}
use Rattle.erl_parser_tokens.specs.Outside.{HasOutside, record_index}
use Rattle.erl_parser_exprs.specs.Operations.{Expr}
use Rattle.erl_parser_exprs.specs.Expressions.{Level, Headed, read_assoc, read_new_record, read_hash, read_map_change, read_record_change, read_record_field, read_behind_record}
use Rattle.erl_parser_tokens.proofs.Right.{Measures, Read}
use Rattle.erl_parser_tokens.proofs.HeightLaws.{measures_as, both_measured, higher_within}
use Rattle.erl_parser_tokens.proofs.Then.{Behind, behind_none, behind_token, behind_part, behind_behind, Right, right_ok, right_outside, right_next, right_case}
use Rattle.erl_parser_tokens.proofs.TokenLaws.{mark-takes, expect_mark, expect_atom}
use Rattle.erl_parser_tokens.proofs.PartLaws.{AreClosed, read_closed-right}
use Rattle.erl_parser_exprs.proofs.Inner.{AreParts}
use Rattle.erl_parser_exprs.proofs.Heads.{HeadedRead, headed_read, right_tokens}
use Rattle.erl_parser_exprs.proofs.CallLaws.{stands}

-- an expression in front of a map's or a record's parts, with at most so many levels
pub record IsLeftSide (levels : ℕ) (head : Head) (e : Measured Expr) : Type 0 where
  pub formed : IsPostfix head e.tree
  pub measures : Measures (expr_deep e.tree) e.height
  pub within : e.height.depth ≤ levels

module _ (levels : ℕ) (l : Level) (parts : AreParts levels l) where
  associations_right : (ts : List Placed) → Right (AreClosed (IsAssoc false) assoc_tokens assoc_deep levels (codes "}") ts) ts (read_closed (codes "}") (read_assoc l false) ts)
  associations_right ts = read_closed-right (IsAssoc false) assoc_tokens assoc_deep levels (read_assoc l false) (parts.assoc_right false) (codes "}") ts

  changes_right : (ts : List Placed) → Right (AreClosed (IsAssoc true) assoc_tokens assoc_deep levels (codes "}") ts) ts (read_closed (codes "}") (read_assoc l true) ts)
  changes_right ts = read_closed-right (IsAssoc true) assoc_tokens assoc_deep levels (read_assoc l true) (parts.assoc_right true) (codes "}") ts

  fields_right : (ts : List Placed) → Right (AreClosed IsField expr_field_tokens (deep_second expr_deep) levels (codes "}") ts) ts (read_closed (codes "}") (read_field l.expr) ts)
  fields_right ts = read_closed-right IsField expr_field_tokens (deep_second expr_deep) levels (read_field l.expr) parts.field_right (codes "}") ts

  -- the tokens of a new record up to its opening brace
  abbrev record_front : (h : Place) (name : Name) (n o : Place) → List Placed
  record_front h name n o = at (T.Mark (codes "#")) h ∷ at (T.Atom name) n ∷ at (T.Mark (codes "{")) o ∷ []

  -- a new record is read rightly, behind `#`
  pub read_new_record-right : (h : Place) (ts : List Placed) → Right (HeadedRead (suc levels) (at (T.Mark (codes "#")) h ∷ ts)) (at (T.Mark (codes "#")) h ∷ ts) (read_new_record l h ts)
  unfolding read_new_record
  read_new_record-right h ts = right_next (behind_part (at (T.Mark (codes "#")) h ∷ []) refl) (expect_atom ts) λ a e. right_case
      (λ n. right_next (behind_part (at (T.Mark (codes "#")) h ∷ at (T.Atom a.0.0) a.0.1 ∷ []) (ap (λ us. at (T.Mark (codes "#")) h ∷ us) e)) (expect_mark (codes "{") a.1) λ o g.
      let t : at (T.Mark (codes "#")) h ∷ ts ≡ record_front h a.0.0 a.0.1 o.0 ++ o.1 = ap (λ us. at (T.Mark (codes "#")) h ∷ us) (e ∙ ap (λ us. at (T.Atom a.0.0) a.0.1 ∷ us) g) in
      right_next (behind_part (record_front h a.0.0 a.0.1 o.0) t) (fields_right o.1) λ q r. right_ok
      (headed_read h (h ∷ a.0.1 ∷ o.0 ∷ q.0.marks) (X.RecNew a.0.0 a.0.0 q.0.items) q.0.height OfRecord q.1
      (subst (λ ms. IsPostfix OfRecord (node h (h ∷ a.0.1 ∷ o.0 ∷ ms) (X.RecNew a.0.0 a.0.0 q.0.items))) (sym r.marks) (new_record h a.0.1 o.0 r.close r.between a.0.0 q.0.items r.gaps r.formed))
      (t ∙ (ap (λ us. record_front h a.0.0 a.0.1 o.0 ++ us) r.takes ∙ ap (λ us. us ++ q.1) (sym (expr_shown-RecNew a.0.0 a.0.0 q.0.items (h ∷ a.0.1 ∷ o.0 ∷ q.0.marks)))))
      (measures_as (expr_kind_deep-RecNew a.0.0 a.0.0 q.0.items) r.measures)
      r.within))
      (λ d g. right_outside (subst (λ us. HasOutside us h (codes "record index")) (sym (ap (λ us. at (T.Mark (codes "#")) h ∷ us) (e ∙ ap (λ us. at (T.Atom a.0.0) a.0.1 ∷ us) (mark-takes (codes ".") a.1 d g)))) (stands (record_index a.0.0 h a.0.1 d.0 [] d.1))))

  -- a new map or record is read rightly, behind `#`
  pub read_hash-right : (h : Place) (ts : List Placed) → Right (HeadedRead (suc levels) (at (T.Mark (codes "#")) h ∷ ts)) (at (T.Mark (codes "#")) h ∷ ts) (read_hash l h ts)
  unfolding read_hash
  read_hash-right h ts = right_case
      (λ n. read_new_record-right h ts)
      (λ o e. let t : at (T.Mark (codes "#")) h ∷ ts ≡ at (T.Mark (codes "#")) h ∷ at (T.Mark (codes "{")) o.0 ∷ o.1 = ap (λ us. at (T.Mark (codes "#")) h ∷ us) (mark-takes (codes "{") ts o e) in
      right_next (behind_part (at (T.Mark (codes "#")) h ∷ at (T.Mark (codes "{")) o.0 ∷ []) t) (associations_right o.1) λ q r. right_ok
      (headed_read h (h ∷ o.0 ∷ q.0.marks) (X.MapNew q.0.items) q.0.height OfMap q.1
      (subst (λ ms. IsPostfix OfMap (node h (h ∷ o.0 ∷ ms) (X.MapNew q.0.items))) (sym r.marks) (new_map h o.0 r.close r.between q.0.items r.gaps r.formed))
      (t ∙ (ap (λ us. at (T.Mark (codes "#")) h ∷ at (T.Mark (codes "{")) o.0 ∷ us) r.takes ∙ ap (λ us. us ++ q.1) (sym (expr_shown-MapNew q.0.items (h ∷ o.0 ∷ q.0.marks)))))
      (measures_as (expr_kind_deep-MapNew q.0.items) r.measures)
      r.within))

  -- ---- behind an expression

  module _ (head : Head) (e : Measured Expr) (left : IsLeftSide levels head e) where
    -- the tokens of the expression with these behind it
    text : (front closed rest : List Placed) → expr_tokens e.tree ++ (front ++ (closed ++ rest)) ≡ (expr_tokens e.tree ++ (front ++ closed)) ++ rest
    text front closed rest = ap (λ us. expr_tokens e.tree ++ us) (sym (append_assoc front closed rest)) ∙ sym (append_assoc (expr_tokens e.tree) (front ++ closed) rest)

    behind_left : (front us : List Placed) → Behind (expr_tokens e.tree ++ (front ++ us)) us
    behind_left front us = behind_part (expr_tokens e.tree ++ front) (sym (append_assoc (expr_tokens e.tree) front us))

    -- a changed map is read rightly, behind `{`
    pub read_map_change-right : takes_map head ≡ true → (h o : Place) (ts : List Placed) → let all : List Placed = expr_tokens e.tree ++ at (T.Mark (codes "#")) h ∷ at (T.Mark (codes "{")) o ∷ ts in Right (HeadedRead (suc levels) all) all (read_map_change l e h o ts)
    unfolding read_map_change
    read_map_change-right k h o ts = right_next (behind_left (at (T.Mark (codes "#")) h ∷ at (T.Mark (codes "{")) o ∷ []) ts) (changes_right ts) λ q r. right_ok
        (headed_read e.tree.place (h ∷ o ∷ q.0.marks) (X.MapChange e.tree q.0.items) (higher e.height q.0.height) OfMap q.1
        (subst (λ ms. IsPostfix OfMap (node e.tree.place (h ∷ o ∷ ms) (X.MapChange e.tree q.0.items))) (sym r.marks) (changed_map head h o r.close r.between e.tree q.0.items k left.formed r.gaps r.formed))
        (ap (λ us. expr_tokens e.tree ++ at (T.Mark (codes "#")) h ∷ at (T.Mark (codes "{")) o ∷ us) r.takes ∙ (text (at (T.Mark (codes "#")) h ∷ at (T.Mark (codes "{")) o ∷ []) _ q.1 ∙ ap (λ us. us ++ q.1) (sym (expr_shown-MapChange e.tree q.0.items (h ∷ o ∷ q.0.marks)))))
        (measures_as (expr_kind_deep-MapChange e.tree q.0.items) (both_measured left.measures r.measures))
        (higher_within e.height q.0.height levels left.within r.within))

    -- a changed record is read rightly, behind `{`
    pub read_record_change-right : takes_record head ≡ true → (h : Place) (name : Name) (n o : Place) (ts : List Placed) → let all : List Placed = expr_tokens e.tree ++ (record_front h name n o ++ ts) in Right (HeadedRead (suc levels) all) all (read_record_change l e h name n o ts)
    unfolding read_record_change
    read_record_change-right k h name n o ts = right_next (behind_left (record_front h name n o) ts) (fields_right ts) λ q r. right_ok
        (headed_read e.tree.place (h ∷ n ∷ o ∷ q.0.marks) (X.RecChange e.tree name name q.0.items) (higher e.height q.0.height) OfRecord q.1
        (subst (λ ms. IsPostfix OfRecord (node e.tree.place (h ∷ n ∷ o ∷ ms) (X.RecChange e.tree name name q.0.items))) (sym r.marks) (changed_record head h n o r.close r.between e.tree name q.0.items k left.formed r.gaps r.formed))
        (ap (λ us. expr_tokens e.tree ++ (record_front h name n o ++ us)) r.takes ∙ (text (record_front h name n o) _ q.1 ∙ ap (λ us. us ++ q.1) (sym (expr_shown-RecChange e.tree name name q.0.items (h ∷ n ∷ o ∷ q.0.marks)))))
        (measures_as (expr_kind_deep-RecChange e.tree name name q.0.items) (both_measured left.measures r.measures))
        (higher_within e.height q.0.height levels left.within r.within))

    -- a field of a record is read rightly, behind `.`
    pub read_record_field-right : takes_record head ≡ true → (h : Place) (name : Name) (n d : Place) (ts : List Placed) → let all : List Placed = expr_tokens e.tree ++ at (T.Mark (codes "#")) h ∷ at (T.Atom name) n ∷ at (T.Mark (codes ".")) d ∷ ts in Right (HeadedRead (suc levels) all) all (read_record_field e h name n d ts)
    unfolding read_record_field
    read_record_field-right k h name n d ts = right_next (behind_left (at (T.Mark (codes "#")) h ∷ at (T.Atom name) n ∷ at (T.Mark (codes ".")) d ∷ []) ts) (expect_atom ts) λ f g. right_ok
        (headed_read e.tree.place (h ∷ n ∷ d ∷ f.0.1 ∷ []) (X.RecGet e.tree name name f.0.0) e.height OfRecord f.1
        (record_field head h n d f.0.1 e.tree name f.0.0 k left.formed)
        (ap (λ us. expr_tokens e.tree ++ at (T.Mark (codes "#")) h ∷ at (T.Atom name) n ∷ at (T.Mark (codes ".")) d ∷ us) g ∙ (text (at (T.Mark (codes "#")) h ∷ at (T.Atom name) n ∷ at (T.Mark (codes ".")) d ∷ []) (at (T.Atom f.0.0) f.0.1 ∷ []) f.1 ∙ ap (λ us. us ++ f.1) (sym (expr_shown-RecGet e.tree name name f.0.0 (h ∷ n ∷ d ∷ f.0.1 ∷ [])))))
        (measures_as (expr_kind_deep-RecGet e.tree name name f.0.0) left.measures)
        left.within)

    -- a record's fields, or one of its fields, are read rightly, behind its name
    pub read_behind_record-right : takes_record head ≡ true → (h : Place) (name : Name) (n : Place) (ts : List Placed) → let all : List Placed = expr_tokens e.tree ++ at (T.Mark (codes "#")) h ∷ at (T.Atom name) n ∷ ts in Right (HeadedRead (suc levels) all) all (read_behind_record l e h name n ts)
    unfolding read_behind_record
    read_behind_record-right k h name n ts = right_case
        (λ m. right_next (behind_left (at (T.Mark (codes "#")) h ∷ at (T.Atom name) n ∷ []) ts) (expect_mark (codes "{") ts) λ o g.
        right_tokens (ap (λ us. expr_tokens e.tree ++ at (T.Mark (codes "#")) h ∷ at (T.Atom name) n ∷ us) g) (read_record_change-right k h name n o.0 o.1))
        (λ d g. right_tokens (ap (λ us. expr_tokens e.tree ++ at (T.Mark (codes "#")) h ∷ at (T.Atom name) n ∷ us) (mark-takes (codes ".") ts d g)) (read_record_field-right k h name n d.0 d.1))
