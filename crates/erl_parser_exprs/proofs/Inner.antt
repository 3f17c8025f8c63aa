-- What is said of the readers of elements of bodies, qualifiers, associations and clauses of one level, and of the readers of several levels.
use Rattle.std.specs.Prelude.{◌≡◌, ℕ, List, [], ◌∷◌, ◌++◌, length, Bool}
use Rattle.erl_tree.specs.declared.token.Placed.{Placed}
use Rattle.erl_tree.specs.declared.token.Node.{Node}
use Rattle.erl_tree.specs.declared.expr.ItemKind.{ItemKind}
use Rattle.erl_tree.specs.declared.expr.ClauseKind.{ClauseKind}
use Rattle.erl_tree.specs.declared.expr.QualifierKind.{QualifierKind}
use Rattle.erl_tree.specs.declared.expr.AssocKind.{AssocKind}
use Rattle.erl_tree.specs.declared.expr.CatchKind.{CatchKind}
use Rattle.erl_grammar.specs.Spelling.{item_tokens, qualifier_tokens, assoc_tokens, catch_tokens, expr_field_tokens, case_clause_tokens, if_clause_tokens, fun_clause_tokens}
use Rattle.erl_grammar.specs.Nesting.{Deep, deep_second, expr_deep, item_deep, qualifier_deep, assoc_deep, catch_deep, clause_deep}
use Rattle.erl_grammar.specs.Grammar.{IsItem, IsQualifier, IsAssoc, IsField, IsCaseClause, IsIfClause, IsFunClause, IsCatch}
use Rattle.erl_parser_tokens.specs.declared.height.Measured.{Measured}
use Rattle.erl_parser_tokens.specs.Tokens.{Answer, Reads}
use Rattle.erl_parser_tokens.specs.Parts.{read_field}
use Rattle.erl_parser_exprs.specs.Expressions.{Level, read_item, read_qualifier, read_assoc, read_case_clause, read_if_clause, read_fun_clause, read_catch}
use Rattle.erl_parser_tokens.proofs.Then.{Right, Again, IsRead, IsPart, IsDeep}
use Rattle.erl_parser_exprs.proofs.Levels.{EndsExpr, IsLevel}
use Rattle.erl_parser_exprs.proofs.Endings.{EndsItem, EndsQualifier, EndsAssoc, EndsBody}

-- a reader reads such parts rightly
abbrev pub ReadsRightly : {A : Type 0} → (A → Type 0) → (A → List Placed) → (A → Deep) → ℕ → Reads (Measured A) → Type 0
ReadsRightly Is tokens deep levels read = (ts : List Placed) → Right (IsRead Is tokens deep levels ts) ts (read ts)

-- a reader reads such parts again, where such tokens follow
abbrev pub ReadsAgain : {A : Type 0} → (A → Type 0) → (A → List Placed) → (A → Deep) → (List Placed → Type 0) → ℕ → Reads (Measured A) → Type 0
ReadsAgain {A} Is tokens deep Follows levels read = (x : A) (rest : List Placed) → Is x → Follows rest → Again (IsPart x rest) (IsDeep deep levels x) (read (tokens x ++ rest))

-- the readers of the parts of one level
pub record AreParts (levels : ℕ) (l : Level) : Type 0 where
  pub item_right : ReadsRightly IsItem item_tokens item_deep levels (read_item l)
  pub qualifier_right : ReadsRightly IsQualifier qualifier_tokens qualifier_deep levels (read_qualifier l)
  pub assoc_right : (may_be_exact : Bool) → ReadsRightly (IsAssoc may_be_exact) assoc_tokens assoc_deep levels (read_assoc l may_be_exact)
  pub field_right : ReadsRightly IsField expr_field_tokens (deep_second expr_deep) levels (read_field l.expr)
  pub case_clause_right : ReadsRightly IsCaseClause case_clause_tokens clause_deep levels (read_case_clause l)
  pub if_clause_right : ReadsRightly IsIfClause if_clause_tokens clause_deep levels (read_if_clause l)
  pub fun_clause_right : ReadsRightly IsFunClause fun_clause_tokens clause_deep levels (read_fun_clause l)
  pub catch_right : ReadsRightly IsCatch catch_tokens catch_deep levels (read_catch l)
  pub item_again : ReadsAgain IsItem item_tokens item_deep EndsItem levels (read_item l)
  pub qualifier_again : ReadsAgain IsQualifier qualifier_tokens qualifier_deep EndsQualifier levels (read_qualifier l)
  pub assoc_again : (may_be_exact : Bool) → ReadsAgain (IsAssoc may_be_exact) assoc_tokens assoc_deep EndsAssoc levels (read_assoc l may_be_exact)
  pub field_again : ReadsAgain IsField expr_field_tokens (deep_second expr_deep) EndsExpr levels (read_field l.expr)
  pub case_clause_again : ReadsAgain IsCaseClause case_clause_tokens clause_deep EndsBody levels (read_case_clause l)
  pub if_clause_again : ReadsAgain IsIfClause if_clause_tokens clause_deep EndsBody levels (read_if_clause l)
  pub fun_clause_again : ReadsAgain IsFunClause fun_clause_tokens clause_deep EndsBody levels (read_fun_clause l)
  pub catch_again : ReadsAgain IsCatch catch_tokens catch_deep EndsBody levels (read_catch l)

-- the readers of these levels, each with as many levels as there are readers behind it
abbrev pub AreLevels : List Level → Type 0
AreLevels [] = Unit {0}
AreLevels (l ∷ deeper) = IsLevel (length deeper) l × AreLevels deeper
