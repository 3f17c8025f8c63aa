-- The readers of all levels: each reads what is nested at most so many levels deep.
use Rattle.std.proofs.Common.{◌≡◌, ℕ, zero, suc, List, [], ◌∷◌, ◌++◌, length, refl, ap, sym, subst}
use Rattle.std.specs.Prelude.{drop, false, codes}
use Rattle.erl_tree.specs.declared.token.Place.{Place}
use Rattle.erl_tree.specs.declared.token.Placed.{Placed}
use Rattle.erl_tree.specs.declared.token.Node.{Node}
use Rattle.erl_tree.specs.declared.token.Token.TheVariants as T
use Rattle.erl_tree.specs.declared.pattern.PatternKind.{PatternKind}
use Rattle.erl_grammar.specs.Pieces.{at}
use Rattle.erl_grammar.specs.Spelling.{pattern_tokens, expr_tokens}
use Rattle.erl_grammar.specs.Nesting.{pattern_deep, expr_deep}
use Rattle.erl_grammar.specs.Grammar.{IsPattern, IsExpr}
use Rattle.erl_parser_patterns.specs.Scan.{leads_to}
use Rattle.erl_parser_patterns.specs.Patterns.{read_pattern, pattern_levels, read_left}
use Rattle.erl_parser_exprs.specs.Operations.{Expr, read_expr_with}
use Rattle.erl_parser_exprs.specs.Expressions.{Level, level_of, expr_levels, read_expr, read_postfix}
use Rattle.erl_parser_tokens.proofs.Then.{Right, Again, IsRead, IsPart, IsDeep}
use Rattle.erl_parser_exprs.proofs.OperationLaws.{read_expr_with-right}
use Rattle.erl_parser_exprs.proofs.OperationsAgain.{read_expr_with-again}
use Rattle.erl_parser_exprs.proofs.Levels.{EndsExpr, IsLevel}
use Rattle.erl_parser_patterns.proofs.PatternEnds.{EndsPattern, LeftRead, IsLeft}
use Rattle.erl_parser_exprs.proofs.Inner.{AreParts, AreLevels}
use Rattle.erl_parser_patterns.proofs.PatternLaws.{read_pattern-right, read_pattern-again, read_left_levels-right, read_left_levels-again}
use Rattle.erl_parser_exprs.proofs.PostfixLaws.{read_postfix-right}
use Rattle.erl_parser_exprs.proofs.PostfixAgain.{read_postfix-again}

-- there are as many levels as were asked for
pub length-expr_levels : (d : ℕ) → length (expr_levels d) ≡ d
unfolding expr_levels
length-expr_levels zero = refl
length-expr_levels (suc d) = ap suc (length-expr_levels d)

-- fewer levels
pub levels-drop : (s : ℕ) (levels : List Level) → AreLevels levels → AreLevels (drop s levels)
levels-drop zero levels a = a
levels-drop (suc s) [] a = tt
levels-drop (suc s) (l ∷ levels) a = levels-drop s levels a.1

-- an expression is read rightly, where the readers of each level do
whole_right : (levels : List Level) → AreLevels levels → (ts : List Placed) → Right (IsRead (IsExpr 0) expr_tokens expr_deep (length levels) ts) ts (read_expr_with read_postfix levels ts)
whole_right levels a ts = read_expr_with-right read_postfix levels (λ s us. read_postfix-right (drop s levels) (levels-drop s levels a) us) ts

-- and again
whole_again : (levels : List Level) → AreLevels levels → (e : Expr) (rest : List Placed) → IsExpr 0 e → EndsExpr rest → Again (IsPart e rest) (IsDeep expr_deep (length levels) e) (read_expr_with read_postfix levels (expr_tokens e ++ rest))
whole_again levels a e rest i n = read_expr_with-again read_postfix levels (λ s us. read_postfix-right (drop s levels) (levels-drop s levels a) us)
    (λ s head f us j m. read_postfix-again (drop s levels) (levels-drop s levels a) head f us j m) e rest i n

level_by : (d : ℕ) (levels : List Level) → AreLevels levels → length levels ≡ d → IsLevel d (level_of d levels)
level_by d levels a g = record {
  expr_right = λ ts. subst (λ n. Right (IsRead (IsExpr 0) expr_tokens expr_deep n ts) ts (read_expr_with read_postfix levels ts)) g (whole_right levels a ts);
  expr_again = λ e rest i n. subst (λ k. Again (IsPart e rest) (IsDeep expr_deep k e) (read_expr_with read_postfix levels (expr_tokens e ++ rest))) g (whole_again levels a e rest i n);
  pattern_right = λ ts. read_pattern-right d ts;
  pattern_again = λ p rest i n. read_pattern-again d p rest i n;
  left_right = λ ts. read_left_levels-right d ts;
  left_again = λ p m rest i n. read_left_levels-again d p m rest i n;
}

-- the readers of all levels read what is nested at most so many levels deep
pub levels_known : (d : ℕ) → AreLevels (expr_levels d)
unfolding expr_levels
levels_known zero = tt
levels_known (suc d) = (subst (λ n. IsLevel n (level_of d (expr_levels d))) (sym (length-expr_levels d)) (level_by d (expr_levels d) (levels_known d) (length-expr_levels d)), levels_known d)

-- so do those of one level
pub level_known : (d : ℕ) → IsLevel d (level_of d (expr_levels d))
level_known d = level_by d (expr_levels d) (levels_known d) (length-expr_levels d)

-- an expression nested at most so many levels deep is read rightly
pub read_expr-right : (d : ℕ) (ts : List Placed) → Right (IsRead (IsExpr 0) expr_tokens expr_deep d ts) ts (read_expr d ts)
read_expr-right d ts = (level_known d).expr_right ts

-- and again
pub read_expr-again : (d : ℕ) (e : Expr) (rest : List Placed) → IsExpr 0 e → EndsExpr rest → Again (IsPart e rest) (IsDeep expr_deep d e) (read_expr d (expr_tokens e ++ rest))
read_expr-again d e rest i n = (level_known d).expr_again e rest i n
