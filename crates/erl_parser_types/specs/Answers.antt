-- A text that is one type and the end of the text.
use Rattle.std.specs.Prelude.{◌≡◌, List, [], ◌∷◌, ◌++◌}
use Rattle.erl_tree.specs.declared.token.Place.{Place}
use Rattle.erl_tree.specs.declared.token.Placed.{Placed}
use Rattle.erl_tree.specs.declared.token.Token.TheVariants as T
use Rattle.erl_grammar.specs.Pieces.{at}
use Rattle.erl_grammar.specs.TypeSpelling.{type_tokens}
use Rattle.erl_parser_types.specs.Types.{TypeExpr}

-- the tokens are those of the type and the end of the text
pub record IsTypeText (t : TypeExpr) (ts : List Placed) : Type 0 where
  pub end : Place
  pub text : ts ≡ type_tokens t ++ at T.End end ∷ []
