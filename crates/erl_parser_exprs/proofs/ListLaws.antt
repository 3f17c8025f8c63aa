-- Lists and comprehensions.
use Rattle.std.proofs.Common.{◌≡◌, ℕ, zero, suc, ◌-◌, ◌≤◌, List, [], ◌∷◌, ◌++◌, map, length, refl, ap, sym, ◌∙◌, subst, inl, inr, append_assoc, append-nil, arith}
use Rattle.std.specs.Prelude.{Option, Some, None, Ok, Err, codes}
use Rattle.std.proofs.lemmas.List.{length-map}
use Rattle.erl_tree.specs.Lists.{Among}
use Rattle.erl_tree.specs.declared.token.Place.{Place}
use Rattle.erl_tree.specs.declared.token.Placed.{Placed}
use Rattle.erl_tree.specs.declared.token.Node.{Node}
use Rattle.erl_tree.specs.declared.token.Token.TheVariants as T
use Rattle.erl_tree.specs.declared.expr.ExprKind.{ExprKind}
use Rattle.erl_tree.specs.declared.expr.ExprKind.TheVariants as X
use Rattle.erl_tree.specs.declared.expr.QualifierKind.{QualifierKind}
use Rattle.erl_grammar.specs.declared.head.Head.TheVariants.{Plain}
use Rattle.erl_grammar.specs.Pieces.{at, own, inner, fill, commas}
use Rattle.erl_grammar.specs.Spelling.{expr_shown, expr_tokens, qualifier_tokens, tail_pieces}
use Rattle.erl_grammar.specs.Nesting.{deep_all, expr_kind_deep, expr_deep, qualifier_deep}
use Rattle.erl_grammar.specs.Grammar.{node, AreSeparators, IsExpr, IsPostfix, list, cells, comprehension, IsQualifier}
use Rattle.erl_grammar.proofs.SpellingLaws.{expr_shown-Cells, expr_shown-Comp}
use Rattle.erl_grammar.proofs.NestingLaws.{expr_kind_deep-Cells, expr_kind_deep-Comp}
use Rattle.erl_parser_tokens.specs.declared.height.Height.{Height}
use Rattle.erl_parser_tokens.specs.declared.height.Measured.{Measured}
use Rattle.erl_parser_tokens.specs.Heights.{flat, higher}
use Rattle.erl_parser_tokens.specs.Tokens.{Answer, Reads, ◌>>=◌, in_case, expect, mark}
use Rattle.erl_parser_tokens.specs.Parts.{Several, Cells, no_parts, with_part, read_parts, read_cells, built}
use Rattle.erl_parser_exprs.specs.Operations.{Expr}
use Rattle.erl_parser_exprs.specs.Expressions.{Level, Headed, read_qualifier, expr_readers, read_comprehension, read_list}
use Rattle.erl_parser_tokens.proofs.Right.{Measures, Read}
use Rattle.erl_parser_tokens.proofs.HeightLaws.{measures_as, nothing_measured, both_measured, higher_within}
use Rattle.erl_parser_tokens.proofs.Then.{Behind, behind_none, behind_token, behind_part, behind_behind, Right, right_ok, right_next, right_case, IsRead}
use Rattle.erl_parser_tokens.proofs.TokenLaws.{IsMarkNext, mark-takes, expect_mark}
use Rattle.erl_parser_tokens.proofs.PartLaws.{separated-each_behind, listed, fill-listed, AreRead, read_parts-right, deep_behind, deep_cells-first, IsTail, cells_behind, CellsRead, AreRight, read_cells-right}
use Rattle.erl_parser_exprs.proofs.Levels.{IsLevel}
use Rattle.erl_parser_exprs.proofs.Inner.{ReadsRightly, AreParts, AreLevels}
use Rattle.erl_parser_exprs.proofs.Heads.{HeadedRead, headed_read, listed_closed, right_tokens}

-- ---- cells

-- the readers of deeper levels read rightly
readers_right : (deeper : List Level) → AreLevels deeper → AreRight (IsExpr 0) expr_tokens expr_deep (expr_readers deeper)
readers_right [] a = tt
readers_right (l ∷ deeper) a = (λ ts. subst (λ n. Right (IsRead (IsExpr 0) expr_tokens expr_deep n ts) ts (l.expr ts)) (sym (length-map deeper (λ (k : Level). k.expr))) (a.0.expr_right ts), readers_right deeper a.1)

-- cells are well formed
cells_formed : (o : Place) (e : Expr) (es : List Expr) (tail : Option Expr) (between ends : List Place) → ((f : Expr) → Among f (e ∷ es) → IsExpr 0 f) → AreSeparators (e ∷ es) between → IsTail (IsExpr 0) tail ends
    → IsPostfix Plain (node o (o ∷ (between ++ ends)) (X.Cells (e ∷ es) tail))
cells_formed o e es None between (c ∷ []) h g t = list o c between (e ∷ es) g h
cells_formed o e es (Some u) between (b ∷ c ∷ []) h g t = cells o b c between e u es g h t
cells_formed o e es _ between _ h g t = absurd t

-- the tokens of cells
pub cells_text : (o : Place) (e : Expr) (es : List Expr) (tail : Option Expr) (ms : List Place) → expr_shown (X.Cells (e ∷ es) tail) (o ∷ ms) ≡ at (T.Mark (codes "[")) o ∷ (expr_tokens e ++ fill (cells_behind expr_tokens es tail) ms)
cells_text o e es tail ms = expr_shown-Cells (e ∷ es) tail (o ∷ ms) ∙ ap (λ ps. at (T.Mark (codes "[")) o ∷ fill (ps ++ tail_pieces expr_tokens tail) ms) (separated-each_behind (T.Mark (codes ",")) (expr_tokens e) (map expr_tokens es))

first_or : (e : Expr) (es : List Expr) (f : Expr) → IsExpr 0 e → ((g : Expr) → Among g es → IsExpr 0 g) → Among f (e ∷ es) → IsExpr 0 f
first_or e es f i k (inl g) = subst (IsExpr 0) (sym g) i
first_or e es f i k (inr a) = k f a

module _ (levels : ℕ) (l : Level) (known : IsLevel levels l) where
  cells_read : (o : Place) (ts : List Placed) (e : Measured Expr) (us : List Placed) (deeper : ℕ) (q : Cells Expr × List Placed) → deeper ≡ levels → Read (IsExpr 0) expr_tokens expr_deep levels ts e us → CellsRead (IsExpr 0) expr_tokens expr_deep zero deeper (with_part no_parts e) us q
      → HeadedRead (suc levels) (at (T.Mark (codes "[")) o ∷ ts) ((built o (o ∷ q.0.marks) (X.Cells q.0.items q.0.tail) q.0.height, Plain), q.1)
  cells_read o ts e us deeper q d r c =
      let items : q.0.items ≡ e.tree ∷ c.others = c.items in
      let marks : q.0.marks ≡ c.between ++ c.ends = c.marks in
      headed_read o (o ∷ q.0.marks) (X.Cells q.0.items q.0.tail) q.0.height Plain q.1
      (subst (λ xs. IsPostfix Plain (node o (o ∷ q.0.marks) (X.Cells xs q.0.tail))) (sym items) (subst (λ ms. IsPostfix Plain (node o (o ∷ ms) (X.Cells (e.tree ∷ c.others) q.0.tail))) (sym marks)
      (cells_formed o e.tree c.others q.0.tail c.between c.ends (λ f a. first_or e.tree c.others f r.formed c.formed a) (c.gaps e.tree) c.closed)))
      (ap (λ vs. at (T.Mark (codes "[")) o ∷ vs) (r.takes ∙ (ap (λ vs. expr_tokens e.tree ++ vs) c.takes ∙ sym (append_assoc (expr_tokens e.tree) (fill (cells_behind expr_tokens c.others q.0.tail) (c.between ++ c.ends)) q.1)))
      ∙ ap (λ vs. vs ++ q.1) (sym (ap (λ xs. expr_shown (X.Cells xs q.0.tail) (o ∷ q.0.marks)) items ∙ (ap (λ ms. expr_shown (X.Cells (e.tree ∷ c.others) q.0.tail) (o ∷ ms)) marks ∙ cells_text o e.tree c.others q.0.tail (c.between ++ c.ends)))))
      (measures_as (λ n. ap (λ xs. expr_kind_deep (X.Cells xs q.0.tail) n) items ∙ (expr_kind_deep-Cells (e.tree ∷ c.others) q.0.tail n ∙ (deep_cells-first expr_deep e.tree c.others q.0.tail n ∙ ap (λ k. expr_deep e.tree n ++ deep_behind expr_deep c.others q.0.tail k) (omega arith))))
      (c.measures (expr_deep e.tree) (both_measured (nothing_measured (λ n. refl)) r.measures)))
      (c.within levels (omega arith) (higher_within flat e.height levels (omega arith) r.within))

  empty_read : (o : Place) (ts : List Placed) (c : Place × List Placed) → IsMarkNext (codes "]") ts c → HeadedRead (suc levels) (at (T.Mark (codes "[")) o ∷ ts) ((built o (o ∷ c.0 ∷ []) (X.Cells [] None) flat, Plain), c.1)
  empty_read o ts c e = headed_read o (o ∷ c.0 ∷ []) (X.Cells [] None) flat Plain c.1 (list o c.0 [] [] tt (λ f a. elim a [ ]))
      (ap (λ vs. at (T.Mark (codes "[")) o ∷ vs) e ∙ ap (λ vs. vs ++ c.1) (sym (expr_shown-Cells [] None (o ∷ c.0 ∷ []))))
      (nothing_measured (λ n. expr_kind_deep-Cells [] None n))
      (omega arith)

  module _ (parts : AreParts levels l) where
    comprehension_read : (o b : Place) (ts : List Placed) (e : Measured Expr) (us vs : List Placed) (q : Several (Node QualifierKind) × List Placed) (c : Place × List Placed) → Read (IsExpr 0) expr_tokens expr_deep levels ts e us → us ≡ at (T.Mark (codes "||")) b ∷ vs
        → AreRead IsQualifier qualifier_tokens qualifier_deep levels (codes ",") vs q → IsMarkNext (codes "]") q.1 c
        → HeadedRead (suc levels) (at (T.Mark (codes "[")) o ∷ ts) ((built o (o ∷ b ∷ (q.0.marks ++ c.0 ∷ [])) (X.Comp e.tree q.0.items) (higher e.height q.0.height), Plain), c.1)
    comprehension_read o b ts e us vs q c r g s h =
        headed_read o (o ∷ b ∷ (q.0.marks ++ c.0 ∷ [])) (X.Comp e.tree q.0.items) (higher e.height q.0.height) Plain c.1
        (subst (λ qs. IsPostfix Plain (node o (o ∷ b ∷ (q.0.marks ++ c.0 ∷ [])) (X.Comp e.tree qs))) (sym s.items)
        (comprehension o b c.0 q.0.marks e.tree s.first s.others r.formed (subst (λ qs. AreSeparators qs q.0.marks) s.items s.gaps) (λ x a. s.formed x (subst (Among x) (sym s.items) a))))
        (ap (λ ws. at (T.Mark (codes "[")) o ∷ ws) (r.takes ∙ (ap (λ ws. expr_tokens e.tree ++ ws) (g ∙ ap (λ ws. at (T.Mark (codes "||")) b ∷ ws) (s.takes ∙ (ap (λ ws. listed qualifier_tokens (T.Mark (codes ",")) q.0.items q.0.marks ++ ws) h
        ∙ listed_closed qualifier_tokens (T.Mark (codes ",")) (T.Mark (codes "]")) q.0.items q.0.marks c.0 c.1 s.gaps)))
        ∙ sym (append_assoc (expr_tokens e.tree) _ c.1)))
        ∙ ap (λ ws. ws ++ c.1) (sym (expr_shown-Comp e.tree q.0.items (o ∷ b ∷ (q.0.marks ++ c.0 ∷ [])))))
        (measures_as (expr_kind_deep-Comp e.tree q.0.items) (both_measured r.measures s.measures))
        (higher_within e.height q.0.height levels r.within s.within)

    read_comprehension-right : (o b : Place) (ts : List Placed) (e : Measured Expr) (us vs : List Placed) → Read (IsExpr 0) expr_tokens expr_deep levels ts e us → us ≡ at (T.Mark (codes "||")) b ∷ vs
        → Right (HeadedRead (suc levels) (at (T.Mark (codes "[")) o ∷ ts)) (at (T.Mark (codes "[")) o ∷ ts) (read_comprehension l o e b vs)
    unfolding read_comprehension
    read_comprehension-right o b ts e us vs r g =
        let start : Behind (at (T.Mark (codes "[")) o ∷ ts) vs = behind_behind (behind_part (at (T.Mark (codes "[")) o ∷ []) refl) (behind_behind (behind_part (expr_tokens e.tree) r.takes) (behind_token g)) in
        right_next start (read_parts-right IsQualifier qualifier_tokens qualifier_deep levels (read_qualifier l) parts.qualifier_right (codes ",") vs) λ q s.
        right_next (behind_behind start (behind_part (listed qualifier_tokens (T.Mark (codes ",")) q.0.items q.0.marks) s.takes)) (expect_mark (codes "]") q.1) λ c h.
        right_ok (comprehension_read o b ts e us vs q c r g s h)

    -- what begins with a bracket is read rightly
    pub read_list-right : (deeper : List Level) → length deeper ≡ levels → AreLevels deeper → (o : Place) (ts : List Placed) → Right (HeadedRead (suc levels) (at (T.Mark (codes "[")) o ∷ ts)) (at (T.Mark (codes "[")) o ∷ ts) (read_list deeper l o ts)
    unfolding read_list
    read_list-right deeper d a o ts =
        let start : Behind (at (T.Mark (codes "[")) o ∷ ts) ts = behind_part (at (T.Mark (codes "[")) o ∷ []) refl in
        let as_many : length (expr_readers deeper) ≡ levels = length-map deeper (λ (k : Level). k.expr) ∙ d in
        right_case
        (λ n. right_next start (known.expr_right ts) λ e r. right_case
        (λ m. right_next (behind_behind start (behind_part (expr_tokens e.0.tree) r.takes))
        (read_cells-right (IsExpr 0) expr_tokens expr_deep (expr_readers deeper) l.expr zero (with_part no_parts e.0) e.1 (readers_right deeper a)
        (λ us. subst (λ k. Right (IsRead (IsExpr 0) expr_tokens expr_deep k us) us (l.expr us)) (sym as_many) (known.expr_right us)))
        λ q c. right_ok (cells_read o ts e.0 e.1 (length (expr_readers deeper)) q as_many r c))
        (λ b g. read_comprehension-right o b.0 ts e.0 e.1 b.1 r (mark-takes (codes "||") e.1 b g)))
        (λ c e. right_ok (empty_read o ts c (mark-takes (codes "]") ts c e)))
