-- Bodies: what is read is right, and what is well formed is read again.
use Rattle.std.specs.Prelude.{ℕ, List, ◌∷◌, ◌++◌, codes}
use Rattle.erl_tree.specs.Lists.{Among}
use Rattle.erl_tree.specs.declared.token.Place.{Place}
use Rattle.erl_tree.specs.declared.token.Placed.{Placed}
use Rattle.erl_tree.specs.declared.token.Node.{Node}
use Rattle.erl_tree.specs.declared.token.Token.TheVariants as T
use Rattle.erl_tree.specs.declared.expr.ItemKind.{ItemKind}
use Rattle.erl_grammar.specs.Spelling.{item_tokens}
use Rattle.erl_grammar.specs.Nesting.{deep_all, item_deep}
use Rattle.erl_grammar.specs.Grammar.{AreSeparators, IsItem}
use Rattle.erl_parser_exprs.specs.Expressions.{Level, read_item, read_body}
use Rattle.erl_parser_tokens.proofs.Then.{Right, Again}
use Rattle.erl_parser_tokens.proofs.PartLaws.{listed, AreRead, read_parts-right, AreThese, read_parts-again}
use Rattle.erl_parser_exprs.proofs.Levels.{IsLevel}
use Rattle.erl_parser_exprs.proofs.Endings.{EndsItem, EndsBody, comma-closes, closes-item}
use Rattle.erl_parser_exprs.proofs.ItemLaws.{item-right, item-again}

-- a body is read rightly
pub body-right : (levels : ℕ) (l : Level) → IsLevel levels l → (ts : List Placed) → Right (AreRead IsItem item_tokens item_deep levels (codes ",") ts) ts (read_body l ts)
unfolding read_body
body-right levels l L ts = read_parts-right IsItem item_tokens item_deep levels (read_item l) (item-right levels l L) (codes ",") ts

-- a body is read again
pub body-again : (levels : ℕ) (l : Level) → IsLevel levels l → (i : Node ItemKind) (is : List (Node ItemKind)) (ms : List Place) (rest : List Placed) → ((j : Node ItemKind) → Among j (i ∷ is) → IsItem j) → AreSeparators (i ∷ is) ms → EndsBody rest
    → Again (AreThese (i ∷ is) ms rest) (λ p. Among p (deep_all item_deep (i ∷ is) levels)) (read_body l (listed item_tokens (T.Mark (codes ",")) (i ∷ is) ms ++ rest))
unfolding read_body
body-again levels l L i is ms rest h g f = read_parts-again IsItem item_tokens item_deep levels EndsItem (read_item l) (item-again levels l L) (codes ",") (closes-item comma-closes) i is ms rest h g f.ends_item f.no_comma
