-- A text that is one pattern and the end of the text.
use Rattle.std.specs.Prelude.{◌≡◌, List, [], ◌∷◌, ◌++◌}
use Rattle.erl_tree.specs.declared.token.Place.{Place}
use Rattle.erl_tree.specs.declared.token.Placed.{Placed}
use Rattle.erl_tree.specs.declared.token.Token.TheVariants as T
use Rattle.erl_grammar.specs.Pieces.{at}
use Rattle.erl_grammar.specs.Spelling.{pattern_tokens}
use Rattle.erl_parser_patterns.specs.Patterns.{Pattern}

-- the tokens are those of the pattern and the end of the text
pub record IsPatternText (p : Pattern) (ts : List Placed) : Type 0 where
  pub end : Place
  pub text : ts ≡ pattern_tokens p ++ at T.End end ∷ []
