-- The parameters of a fun's clause, which are patterns: what is read is right, and what is well formed is read again.
use Rattle.std.proofs.Common.{ℕ, List, [], ◌∷◌, ◌++◌, refl}
use Rattle.std.specs.Prelude.{codes}
use Rattle.erl_tree.specs.Lists.{Among}
use Rattle.erl_tree.specs.declared.token.Place.{Place}
use Rattle.erl_tree.specs.declared.token.Placed.{Placed}
use Rattle.erl_tree.specs.declared.token.Node.{Node}
use Rattle.erl_tree.specs.declared.token.Token.TheVariants as T
use Rattle.erl_tree.specs.declared.pattern.PatternKind.{PatternKind}
use Rattle.erl_grammar.specs.Pieces.{at}
use Rattle.erl_grammar.specs.Spelling.{pattern_tokens}
use Rattle.erl_grammar.specs.Nesting.{deep_all, pattern_deep}
use Rattle.erl_grammar.specs.Grammar.{AreSeparators, IsPattern, IsArity}
use Rattle.erl_parser_tokens.specs.Parts.{read_parameters}
use Rattle.erl_parser_tokens.specs.Outside.{pattern_text}
use Rattle.erl_parser_exprs.specs.Expressions.{Level}
use Rattle.erl_parser_tokens.proofs.Then.{Right, Again}
use Rattle.erl_parser_tokens.proofs.PartLaws.{listed, AreThese}
use Rattle.erl_parser_tokens.proofs.ParameterLaws.{ParametersRead, parameters-right, parameters-again}
use Rattle.erl_parser_patterns.proofs.PatternEnds.{EndsPattern, ends_pattern}
use Rattle.erl_parser_exprs.proofs.Levels.{IsLevel}
use Rattle.erl_parser_exprs.proofs.PatternFirst.{pattern-closes_none}

-- parameters and the closing parenthesis are read rightly, behind the opening parenthesis
pub patterns-right : (levels : ℕ) (l : Level) → IsLevel levels l → (o : Place) (ts : List Placed) → Right (ParametersRead IsPattern pattern_tokens pattern_deep levels ts) (at (T.Mark (codes "(")) o ∷ ts) (read_parameters l.pattern ts)
patterns-right levels l L o ts = parameters-right IsPattern pattern_tokens pattern_deep levels pattern_text l.pattern L.pattern_right o ts

-- parameters and the closing parenthesis are read again
pub patterns-again : (levels : ℕ) (l : Level) → IsLevel levels l → (ps : List (Node PatternKind)) (ms : List Place) (c : Place) (rest : List Placed) → ((p : Node PatternKind) → Among p ps → IsPattern p) → AreSeparators ps ms → IsArity ps
    → Again (AreThese ps (ms ++ c ∷ []) rest) (λ q. Among q (deep_all pattern_deep ps levels)) (read_parameters l.pattern (listed pattern_tokens (T.Mark (codes ",")) ps ms ++ at (T.Mark (codes ")")) c ∷ rest))
patterns-again levels l L = parameters-again IsPattern pattern_tokens pattern_deep levels EndsPattern l.pattern L.pattern_again
    (λ m us. ends_pattern (T.Mark (codes ",")) m us refl refl refl) (λ c us. ends_pattern (T.Mark (codes ")")) c us refl refl refl) pattern-closes_none
