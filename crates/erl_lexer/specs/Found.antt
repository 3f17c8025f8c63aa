-- What is found at the place of a token, by the bytes from there on.
use Rattle.std.specs.Prelude.{◌≡◌, ℕ, List, take, drop, Some, None, Result, Ok, Err}
use Rattle.erl_tree.specs.declared.token.Place.{Place}
use Rattle.erl_tree.specs.declared.token.Token.{Token}
use Rattle.erl_tree.specs.Limits.{IsAboveLimit, IsInLimit}
use Rattle.erl_tree.specs.Profile.{outside_form, bad_escape}
use Rattle.erl_lexer.specs.declared.LexFault.{LexFault}
use Rattle.erl_lexer.specs.declared.LexFault.TheVariants.{NoMemory, NotUtf8, OutOfProfile, WideNumber, BadEscape, BadToken}
use Rattle.erl_lexer.specs.Scan.{bytes_after, token_length, token_by}

-- the token with its length, or the fault with its place
abbrev pub Finds : Place → List ℕ → Result (Token × ℕ) LexFault → Type 0
Finds here text (Ok it) = (outside_form text ≡ None) × (token_length text ≡ Some it.1) × (it.0 ≡ token_by (take it.1 text) (drop it.1 text)) × IsInLimit it.0
Finds here text (Err NoMemory) = Unit {0}
Finds here text (Err (NotUtf8 at)) = ⊥
Finds here text (Err (OutOfProfile place form)) = (outside_form text ≡ Some form) × (place ≡ here)
Finds here text (Err (WideNumber place)) = (outside_form text ≡ None) × ((n : ℕ) × (token_length text ≡ Some n) × IsAboveLimit (token_by (take n text) (drop n text))) × (place ≡ here)
Finds here text (Err (BadEscape place)) = (outside_form text ≡ None) × ((n : ℕ) × (bad_escape text ≡ Some n) × (place ≡ bytes_after here (take n text)))
Finds here text (Err (BadToken place)) = (outside_form text ≡ None) × (bad_escape text ≡ None) × (token_length text ≡ None) × (place ≡ here)
