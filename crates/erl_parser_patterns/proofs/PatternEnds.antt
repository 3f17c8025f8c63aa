-- What may follow a pattern, and what is said of the left side of a match.
use Rattle.std.specs.Prelude.{◌≡◌, ℕ, List, ◌∷◌, None, false, codes}
use Rattle.erl_tree.specs.declared.token.Place.{Place}
use Rattle.erl_tree.specs.declared.token.Placed.{Placed}
use Rattle.erl_tree.specs.declared.token.Node.{Node}
use Rattle.erl_tree.specs.declared.token.Token.{Token}
use Rattle.erl_tree.specs.declared.token.Token.TheVariants as T
use Rattle.erl_tree.specs.declared.pattern.PatternKind.{PatternKind}
use Rattle.erl_grammar.specs.Pieces.{at}
use Rattle.erl_grammar.specs.Spelling.{pattern_tokens}
use Rattle.erl_grammar.specs.Nesting.{pattern_deep}
use Rattle.erl_grammar.specs.Grammar.{IsPattern}
use Rattle.erl_parser_tokens.specs.declared.height.Measured.{Measured}
use Rattle.erl_parser_tokens.specs.Tokens.{is_mark, mark, is_string, string_next, outside_behind_pattern, outside_next}
use Rattle.erl_parser_tokens.proofs.Right.{Read}
use Rattle.erl_parser_tokens.proofs.Then.{IsPart}
use Rattle.erl_parser_tokens.proofs.TokenLaws.{outside_next-none}
use Rattle.erl_parser_tokens.proofs.Endings.{mark-none, string-none}

-- what may follow a pattern
pub record EndsPattern (ts : List Placed) : Type 0 where
  pub no_equals : mark (codes "=") ts ≡ None
  pub none_outside : outside_next ts ≡ None
  pub no_string : string_next ts ≡ false

-- the left side of a match was read, and the place of its `=`
pub record LeftRead (levels : ℕ) (ts : List Placed) (q : (Measured (Node PatternKind) × Place) × List Placed) : Type 0 where
  pub read : Read IsPattern pattern_tokens pattern_deep levels ts q.0.0 (at (T.Mark (codes "=")) q.0.1 ∷ q.1)

-- the left side of a match is read again
abbrev pub IsLeft : Node PatternKind → Place → List Placed → (Measured (Node PatternKind) × Place) × List Placed → Type 0
IsLeft p m rest q = IsPart p rest (q.0.0, q.1) × (q.0.1 ≡ m)

pub ends_pattern : (k : Token) (p : Place) (ts : List Placed) → is_mark (codes "=") k ≡ false → outside_behind_pattern k ≡ None → is_string k ≡ false → EndsPattern (at k p ∷ ts)
ends_pattern k p ts e o s = record { no_equals = mark-none _ k p ts e; none_outside = outside_next-none k p ts o; no_string = string-none k p ts s }
