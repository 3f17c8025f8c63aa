-- The readers of the parts of one level, from those of its expressions and patterns.
use Rattle.std.proofs.Common.{ℕ, List, ◌∷◌, ◌++◌}
use Rattle.type_terms.specs.Keys.{Name}
use Rattle.erl_tree.specs.declared.token.Placed.{Placed}
use Rattle.erl_tree.specs.declared.token.Node.{Node}
use Rattle.erl_grammar.specs.Spelling.{expr_tokens, expr_field_tokens}
use Rattle.erl_grammar.specs.Nesting.{deep_second, expr_deep}
use Rattle.erl_grammar.specs.Grammar.{IsExpr, IsField, field}
use Rattle.erl_parser_tokens.specs.Parts.{read_field}
use Rattle.erl_parser_exprs.specs.Operations.{Expr}
use Rattle.erl_parser_exprs.specs.Expressions.{Level}
use Rattle.erl_parser_tokens.proofs.Then.{Again, IsPart, IsDeep}
use Rattle.erl_parser_tokens.proofs.PartLaws.{read_field-right, read_field-again}
use Rattle.erl_parser_exprs.proofs.Levels.{EndsExpr, IsLevel}
use Rattle.erl_parser_exprs.proofs.ItemLaws.{item-right, qualifier-right, assoc-right, item-again, qualifier-again, assoc-again}
use Rattle.erl_parser_exprs.proofs.ClauseLaws.{case_clause-right, case_clause-again, if_clause-right, if_clause-again, fun_clause-right, fun_clause-again}
use Rattle.erl_parser_exprs.proofs.CatchLaws.{catch-right, catch-again}
use Rattle.erl_parser_exprs.proofs.Inner.{AreParts}

-- a field of a record is read again
field_again : (levels : ℕ) (l : Level) → IsLevel levels l → (f : Node (Name × Expr)) (rest : List Placed) → IsField f → EndsExpr rest → Again (IsPart f rest) (IsDeep (deep_second expr_deep) levels f) (read_field l.expr (expr_field_tokens f ++ rest))
field_again levels l known f rest (field n m name e i) s = read_field-again (IsExpr 0) expr_tokens expr_deep levels l.expr n m name e rest (known.expr_again e rest i s)

-- the readers of the parts of a level
pub parts_known : (levels : ℕ) (l : Level) → IsLevel levels l → AreParts levels l
parts_known levels l known = record {
  item_right = λ ts. item-right levels l known ts;
  qualifier_right = λ ts. qualifier-right levels l known ts;
  assoc_right = λ b ts. assoc-right levels l known b ts;
  field_right = λ ts. read_field-right (IsExpr 0) expr_tokens expr_deep levels l.expr IsField (λ n m name e i. field n m name e i) known.expr_right ts;
  case_clause_right = λ ts. case_clause-right levels l known ts;
  if_clause_right = λ ts. if_clause-right levels l known ts;
  fun_clause_right = λ ts. fun_clause-right levels l known ts;
  catch_right = λ ts. catch-right levels l known ts;
  item_again = λ x rest i e. item-again levels l known x rest i e;
  qualifier_again = λ x rest i e. qualifier-again levels l known x rest i e;
  assoc_again = λ b x rest i e. assoc-again levels l known b x rest i e;
  field_again = λ x rest i e. field_again levels l known x rest i e;
  case_clause_again = λ x rest i e. case_clause-again levels l known x rest i e;
  if_clause_again = λ x rest i e. if_clause-again levels l known x rest i e;
  fun_clause_again = λ x rest i e. fun_clause-again levels l known x rest i e;
  catch_again = λ x rest i e. catch-again levels l known x rest i e;
}
