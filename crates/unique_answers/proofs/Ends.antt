-- Tokens before the end of the text are those of one tree.
use Rattle.std.proofs.Common.{◌≡◌, refl, sym, ◌∙◌, List, [], ◌∷◌, ◌++◌}
use Rattle.erl_tree.specs.declared.token.Placed.{Placed}
use Rattle.erl_grammar.specs.Grammar.{IsExpr, IsPattern}
use Rattle.erl_grammar.specs.Spelling.{expr_tokens, pattern_tokens}
use Rattle.erl_grammar.specs.TypeGrammar.{IsType}
use Rattle.erl_grammar.specs.TypeSpelling.{type_tokens}
use Rattle.erl_parser_patterns.specs.Answers.{IsPatternText}
use Rattle.erl_parser_patterns.specs.Patterns.{Pattern}
use Rattle.erl_parser_patterns.proofs.WholePatterns.{one_pattern}
use Rattle.erl_parser_types.specs.Answers.{IsTypeText}
use Rattle.erl_parser_types.specs.Types.{TypeExpr}
use Rattle.erl_parser_types.proofs.WholeTypes.{one_type}
use Rattle.erl_parser_exprs.specs.Answers.{IsText}
use Rattle.erl_parser_exprs.specs.Operations.{Expr}
use Rattle.erl_parser_exprs.proofs.WholeLaws.{one_expression}

-- lists that are the same with one more element behind each are the same
without-last : (xs ys : List Placed) (x y : Placed) → xs ++ x ∷ [] ≡ ys ++ y ∷ [] → xs ≡ ys
without-last [] [] x y e = refl
without-last [] (b ∷ []) x y e = absurd cc
without-last [] (b ∷ c ∷ ys) x y e = absurd cc
without-last (a ∷ []) [] x y e = absurd cc
without-last (a ∷ c ∷ xs) [] x y e = absurd cc
without-last (a ∷ xs) (b ∷ ys) x y e = let head : a ≡ b = cc in let rest : xs ++ x ∷ [] ≡ ys ++ y ∷ [] = cc in λ i. head i ∷ without-last xs ys x y rest i

pub one-pattern-text : (tokens : List Placed) (p q : Pattern) → IsPattern p → IsPattern q → IsPatternText p tokens → IsPatternText q tokens → p ≡ q
one-pattern-text tokens p q h k s t = one_pattern p q h k (without-last (pattern_tokens p) (pattern_tokens q) _ _ (sym s.text ∙ t.text))

pub one-type-text : (tokens : List Placed) (s t : TypeExpr) → IsType s → IsType t → IsTypeText s tokens → IsTypeText t tokens → s ≡ t
one-type-text tokens s t h k a b = one_type s t h k (without-last (type_tokens s) (type_tokens t) _ _ (sym a.text ∙ b.text))

pub one-expr-text : (tokens : List Placed) (e f : Expr) → IsExpr 0 e → IsExpr 0 f → IsText e tokens → IsText f tokens → e ≡ f
one-expr-text tokens e f h k s t = one_expression e f h k (without-last (expr_tokens e) (expr_tokens f) _ _ (sym s.text ∙ t.text))
