-- What is said of the readers of one level, and what may follow an expression.
use Rattle.std.specs.Prelude.{◌≡◌, ℕ, List, ◌∷◌, ◌++◌, None, false, codes}
use Rattle.erl_tree.specs.declared.token.Place.{Place}
use Rattle.erl_tree.specs.declared.token.Placed.{Placed}
use Rattle.erl_tree.specs.declared.token.Node.{Node}
use Rattle.erl_tree.specs.declared.token.Token.TheVariants as T
use Rattle.erl_tree.specs.declared.pattern.PatternKind.{PatternKind}
use Rattle.erl_tree.specs.declared.expr.ExprKind.{ExprKind}
use Rattle.erl_grammar.specs.Pieces.{at}
use Rattle.erl_grammar.specs.Spelling.{pattern_tokens, expr_tokens}
use Rattle.erl_grammar.specs.Nesting.{pattern_deep, expr_deep}
use Rattle.erl_grammar.specs.Grammar.{IsPattern, IsExpr}
use Rattle.erl_parser_tokens.specs.Tokens.{operator, mark, string_next, outside_next}
use Rattle.erl_parser_patterns.specs.Scan.{leads_to}
use Rattle.erl_parser_exprs.specs.Expressions.{Level}
use Rattle.erl_parser_tokens.proofs.Then.{Right, Again, IsRead, IsPart, IsDeep}
use Rattle.erl_parser_tokens.proofs.TokenLaws.{NoneBehind}
use Rattle.erl_parser_patterns.proofs.PatternEnds.{EndsPattern, LeftRead, IsLeft}

-- what may follow an expression without operators: no call, no part of a map or a record, no prefix, no string
pub record EndsPostfix (ts : List Placed) : Type 0 where
  pub no_call : mark (codes "(") ts ≡ None
  pub no_hash : mark (codes "#") ts ≡ None
  pub no_colon : mark (codes ":") ts ≡ None
  pub no_string : string_next ts ≡ false

-- what may follow an expression
pub record EndsExpr (ts : List Placed) : Type 0 where
  pub ends_postfix : EndsPostfix ts
  pub no_operator : operator ts ≡ None
  pub none_behind : NoneBehind ts

-- the readers of a level read what is nested at most so many levels deep
pub record IsLevel (levels : ℕ) (l : Level) : Type 0 where
  pub expr_right : (ts : List Placed) → Right (IsRead (IsExpr 0) expr_tokens expr_deep levels ts) ts (l.expr ts)
  pub expr_again : (e : Node ExprKind) (rest : List Placed) → IsExpr 0 e → EndsExpr rest → Again (IsPart e rest) (IsDeep expr_deep levels e) (l.expr (expr_tokens e ++ rest))
  pub pattern_right : (ts : List Placed) → Right (IsRead IsPattern pattern_tokens pattern_deep levels ts) ts (l.pattern ts)
  pub pattern_again : (p : Node PatternKind) (rest : List Placed) → IsPattern p → EndsPattern rest → Again (IsPart p rest) (IsDeep pattern_deep levels p) (l.pattern (pattern_tokens p ++ rest))
  pub left_right : (ts : List Placed) → Right (LeftRead levels ts) ts (l.left ts)
  pub left_again : (p : Node PatternKind) (m : Place) (rest : List Placed) → IsPattern p → leads_to (codes "=") rest ≡ false → Again (IsLeft p m rest) (IsDeep pattern_deep levels p) (l.left (pattern_tokens p ++ at (T.Mark (codes "=")) m ∷ rest))
