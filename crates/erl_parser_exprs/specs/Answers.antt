-- A text that is one expression and the end of the text.
use Rattle.std.specs.Prelude.{◌≡◌, List, [], ◌∷◌, ◌++◌}
use Rattle.erl_tree.specs.declared.token.Place.{Place}
use Rattle.erl_tree.specs.declared.token.Placed.{Placed}
use Rattle.erl_tree.specs.declared.token.Token.TheVariants as T
use Rattle.erl_grammar.specs.Pieces.{at}
use Rattle.erl_grammar.specs.Spelling.{expr_tokens}
use Rattle.erl_parser_exprs.specs.Operations.{Expr}

-- the tokens are those of the expression and the end of the text
pub record IsText (e : Expr) (ts : List Placed) : Type 0 where
  pub end : Place
  pub text : ts ≡ expr_tokens e ++ at T.End end ∷ []
