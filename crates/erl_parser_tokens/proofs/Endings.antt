-- Tokens of another kind than is looked for: nothing is found.
use Rattle.std.proofs.Common.{◌≡◌, ℕ, false, List, ◌∷◌, refl}
use Rattle.std.specs.Prelude.{None}
use Rattle.erl_tree.specs.declared.token.Place.{Place}
use Rattle.erl_tree.specs.declared.token.Placed.{Placed}
use Rattle.erl_tree.specs.declared.token.Token.{Token}
use Rattle.erl_grammar.specs.Pieces.{at}
use Rattle.erl_parser_tokens.specs.Tokens.{is_mark, mark, is_word, word, is_string, string_next, operator_of, operator}

-- another mark comes next
pub mark-none : (text : List ℕ) (k : Token) (p : Place) (ts : List Placed) → is_mark text k ≡ false → mark text (at k p ∷ ts) ≡ None
unfolding mark
mark-none text k p ts e = rw e refl

-- another reserved word comes next, or none
pub word-none : (text : List ℕ) (k : Token) (p : Place) (ts : List Placed) → is_word text k ≡ false → word text (at k p ∷ ts) ≡ None
unfolding word
word-none text k p ts e = rw e refl

-- no operator comes next
pub operator-none : (k : Token) (p : Place) (ts : List Placed) → operator_of k ≡ None → operator (at k p ∷ ts) ≡ None
unfolding operator
operator-none k p ts e = rw e refl

-- no string comes next
pub string-none : (k : Token) (p : Place) (ts : List Placed) → is_string k ≡ false → string_next (at k p ∷ ts) ≡ false
unfolding string_next
string-none k p ts e = e
