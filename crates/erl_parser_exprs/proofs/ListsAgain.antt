-- Lists and comprehensions are read again.
use Rattle.std.proofs.Common.{◌≡◌, ℕ, zero, suc, List, [], ◌∷◌, ◌++◌, map, length, refl, ap, sym, ◌∙◌, subst, inl, inr, append_assoc}
use Rattle.std.specs.Prelude.{Option, Some, None, Ok, codes}
use Rattle.std.proofs.lemmas.List.{length-map}
use Rattle.erl_tree.specs.Lists.{Among}
use Rattle.erl_tree.specs.declared.token.Place.{Place}
use Rattle.erl_tree.specs.declared.token.Placed.{Placed}
use Rattle.erl_tree.specs.declared.token.Node.{Node}
use Rattle.erl_tree.specs.declared.token.Token.TheVariants as T
use Rattle.erl_tree.specs.declared.expr.ExprKind.{ExprKind}
use Rattle.erl_tree.specs.declared.expr.ExprKind.TheVariants as X
use Rattle.erl_tree.specs.declared.expr.QualifierKind.{QualifierKind}
use Rattle.erl_grammar.specs.declared.head.Head.TheVariants.{Plain}
use Rattle.erl_grammar.specs.Pieces.{at, fill}
use Rattle.erl_grammar.specs.Spelling.{expr_tokens, qualifier_tokens, tail_pieces}
use Rattle.erl_grammar.specs.Nesting.{deep_all, deep_cells, expr_kind_deep, expr_deep, qualifier_deep}
use Rattle.erl_grammar.specs.Grammar.{node, AreSeparators, IsExpr, IsQualifier}
use Rattle.erl_grammar.proofs.NestingLaws.{expr_kind_deep-Cells, expr_kind_deep-Comp}
use Rattle.erl_parser_tokens.specs.declared.height.Height.{Height}
use Rattle.erl_parser_tokens.specs.declared.height.Measured.{Measured}
use Rattle.erl_parser_tokens.specs.Heights.{flat, higher, above, measured}
use Rattle.erl_parser_tokens.specs.Tokens.{Answer, Reads, ◌>>=◌, in_case, expect, mark}
use Rattle.erl_parser_tokens.specs.Parts.{Several, Cells, no_parts, with_part, read_parts, read_cells, built}
use Rattle.erl_parser_exprs.specs.Operations.{Expr}
use Rattle.erl_parser_exprs.specs.Expressions.{Level, Headed, read_qualifier, expr_readers, read_comprehension, read_list}
use Rattle.erl_parser_tokens.proofs.HeightLaws.{among_front, among_behind}
use Rattle.erl_parser_tokens.proofs.Then.{Again, again_ok, again_step, again_none, again_some, IsPart, IsDeep, again_read}
use Rattle.erl_parser_tokens.proofs.TokenLaws.{mark-again, expect_mark-again}
use Rattle.erl_parser_tokens.proofs.PartLaws.{listed, again_these, read_parts-again, deep_behind, deep_cells-first, IsTail, cells_behind, MayFollow, AreAgain, again_cells, cells_follow, read_cells-again}
use Rattle.erl_parser_exprs.proofs.FirstTokens as F
use Rattle.erl_parser_exprs.proofs.Levels.{EndsExpr, IsLevel}
use Rattle.erl_parser_tokens.proofs.Endings.{mark-none}
use Rattle.erl_parser_exprs.proofs.Endings.{EndsQualifier, closes-expr, closes-qualifier, comma-closes, bar-closes, bars-closes, bracket-closes}
use Rattle.erl_parser_exprs.proofs.ItemLaws.{deeper_in}
use Rattle.erl_parser_exprs.proofs.Inner.{AreParts, AreLevels}
use Rattle.erl_parser_exprs.proofs.CallsAgain.{ReadsHeaded}

-- what may follow an element of a list
expr_follows : MayFollow EndsExpr
expr_follows = record { comma = λ m us. closes-expr comma-closes m us; bar = λ m us. closes-expr bar-closes m us; bracket = λ m us. closes-expr bracket-closes m us }

-- the readers of deeper levels read again
readers_again : (deeper : List Level) → AreLevels deeper → AreAgain (IsExpr 0) expr_tokens expr_deep EndsExpr (expr_readers deeper)
readers_again [] a = tt
readers_again (l ∷ deeper) a = (λ e rest i f. subst (λ n. Again (IsPart e rest) (IsDeep expr_deep n e) (l.expr (expr_tokens e ++ rest))) (sym (length-map deeper (λ (k : Level). k.expr))) (a.0.expr_again e rest i f), readers_again deeper a.1)

-- no comprehension goes on behind an element of a list
no_bars : (e : Expr) (es : List Expr) (tail : Option Expr) (between ends : List Place) (rest : List Placed) → AreSeparators (e ∷ es) between → IsTail (IsExpr 0) tail ends → mark (codes "||") (fill (cells_behind expr_tokens es tail) (between ++ ends) ++ rest) ≡ None
no_bars e [] None [] (c ∷ []) rest g t = mark-none (codes "||") (T.Mark (codes "]")) c rest refl
no_bars e [] (Some u) [] (b ∷ c ∷ []) rest g t = mark-none (codes "||") (T.Mark (codes "|")) b _ refl
no_bars e (f ∷ fs) tail (m ∷ ms) ends rest g t = mark-none (codes "||") (T.Mark (codes ",")) m _ refl
no_bars e [] _ (m ∷ ms) ends rest g t = absurd g
no_bars e (f ∷ fs) tail [] ends rest g t = absurd g
no_bars e [] _ [] _ rest g t = absurd t

module _ (levels : ℕ) (l : Level) (known : IsLevel levels l) (deeper : List Level) (as_many : length deeper ≡ levels) (behind : AreLevels deeper) where
  -- an empty list is read again
  pub read_empty-again : (o c : Place) (rest : List Placed) → ReadsHeaded levels Plain (node o (o ∷ c ∷ []) (X.Cells [] None)) rest (read_list deeper l o (at (T.Mark (codes "]")) c ∷ rest))
  unfolding read_list
  read_empty-again o c rest = again_some _ _ (mark-again (codes "]") c rest) (again_ok (above o flat, refl))

  -- a list with elements is read again
  pub read_cells_list-again : (o : Place) (e : Expr) (es : List Expr) (tail : Option Expr) (between ends : List Place) (rest : List Placed) → ((f : Expr) → Among f (e ∷ es) → IsExpr 0 f) → AreSeparators (e ∷ es) between → IsTail (IsExpr 0) tail ends
      → ReadsHeaded levels Plain (node o (o ∷ (between ++ ends)) (X.Cells (e ∷ es) tail)) rest (read_list deeper l o (expr_tokens e ++ (fill (cells_behind expr_tokens es tail) (between ++ ends) ++ rest)))
  unfolding read_list
  read_cells_list-again o e es tail between ends rest h g t =
      let more : List Placed = fill (cells_behind expr_tokens es tail) (between ++ ends) ++ rest in
      let many : length (expr_readers deeper) ≡ levels = length-map deeper (λ (k : Level). k.expr) ∙ as_many in
      let place : expr_kind_deep (X.Cells (e ∷ es) tail) levels ≡ expr_deep e levels ++ deep_behind expr_deep es tail levels = expr_kind_deep-Cells (e ∷ es) tail levels ∙ deep_cells-first expr_deep e es tail levels in
      again_none _ (F.expr_no_close e more F.closes_bracket (h e (inl refl)))
      (again_read _ (known.expr_again e more (h e (inl refl)) (cells_follow (IsExpr 0) expr_tokens expr_deep EndsExpr expr_follows (λ x us i. F.expr_first_deep x us i) e es tail between ends rest g t)) (λ p d. deeper_in p place (among_front p (expr_deep e levels) _ d)) λ j.
      again_none _ (no_bars e es tail between ends rest g t)
      (again_cells _ (read_cells-again (IsExpr 0) expr_tokens expr_deep EndsExpr expr_follows (λ x us i. F.expr_first_deep x us i) (expr_readers deeper) l.expr zero (with_part no_parts (measured e j)) e es tail between ends rest (λ f a. h f (inr a)) g t (readers_again deeper behind)
      (λ f us i a. subst (λ n. Again (IsPart f us) (IsDeep expr_deep n f) (l.expr (expr_tokens f ++ us))) (sym many) (known.expr_again f us i a)))
      (λ p d. deeper_in p place (among_behind p (expr_deep e levels) _ (subst (λ n. Among p (deep_behind expr_deep es tail n)) many d))) λ k. again_ok (above o k, refl)))

  module _ (parts : AreParts levels l) where
    -- a comprehension is read again
    pub read_comprehension-again : (o b c : Place) (ms : List Place) (e : Expr) (q : Node QualifierKind) (qs : List (Node QualifierKind)) (rest : List Placed) → IsExpr 0 e → AreSeparators (q ∷ qs) ms → ((r : Node QualifierKind) → Among r (q ∷ qs) → IsQualifier r)
        → ReadsHeaded levels Plain (node o (o ∷ b ∷ (ms ++ c ∷ [])) (X.Comp e (q ∷ qs))) rest (read_list deeper l o (expr_tokens e ++ at (T.Mark (codes "||")) b ∷ (listed qualifier_tokens (T.Mark (codes ",")) (q ∷ qs) ms ++ at (T.Mark (codes "]")) c ∷ rest)))
    unfolding read_list read_comprehension
    read_comprehension-again o b c ms e q qs rest i g h =
        let more : List Placed = listed qualifier_tokens (T.Mark (codes ",")) (q ∷ qs) ms ++ at (T.Mark (codes "]")) c ∷ rest in
        again_none _ (F.expr_no_close e (at (T.Mark (codes "||")) b ∷ more) F.closes_bracket i)
        (again_read _ (known.expr_again e (at (T.Mark (codes "||")) b ∷ more) i (closes-expr bars-closes b more)) (λ p d. deeper_in p (expr_kind_deep-Comp e (q ∷ qs) levels) (among_front p (expr_deep e levels) _ d)) λ j.
        again_some _ _ (mark-again (codes "||") b more)
        (again_these _ (read_parts-again IsQualifier qualifier_tokens qualifier_deep levels EndsQualifier (read_qualifier l) parts.qualifier_again (codes ",") (λ m us. closes-qualifier comma-closes m us) q qs ms (at (T.Mark (codes "]")) c ∷ rest) h g (closes-qualifier bracket-closes c rest) (mark-none (codes ",") (T.Mark (codes "]")) c rest refl))
        (λ p d. deeper_in p (expr_kind_deep-Comp e (q ∷ qs) levels) (among_behind p (expr_deep e levels) _ d)) λ k.
        again_step _ (expect_mark-again (codes "]") c rest) (again_ok (above o (higher j k), refl))))
