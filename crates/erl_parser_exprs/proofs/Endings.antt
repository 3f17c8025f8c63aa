-- What may follow expressions, elements of bodies, qualifiers, associations and guards.
use Rattle.std.proofs.Common.{◌≡◌, ℕ, true, false, List, ◌∷◌, refl}
use Rattle.std.specs.Prelude.{None, codes}
use Rattle.erl_tree.specs.declared.token.Place.{Place}
use Rattle.erl_tree.specs.declared.token.Placed.{Placed}
use Rattle.erl_tree.specs.declared.token.Token.{Token}
use Rattle.erl_tree.specs.declared.token.Token.TheVariants as T
use Rattle.erl_grammar.specs.Pieces.{at}
use Rattle.erl_parser_tokens.specs.Tokens.{is_mark, mark, word, is_string, comparison_of, arithmetic_of, word_operator_of, operator_of, is_bit_operator, outside_behind, is_word, string_next, operator, outside_behind_pattern}
use Rattle.erl_parser_patterns.specs.Scan.{bracket_sort, mark_sort, sort_of, over, leads, after_part}
use Rattle.erl_parser_exprs.proofs.Levels.{EndsExpr}
use Rattle.erl_parser_tokens.proofs.Endings.{mark-none, word-none, operator-none, string-none}

-- what may follow an element of a body
pub record EndsItem (ts : List Placed) : Type 0 where
  pub ends_expr : EndsExpr ts
  pub no_match : leads (codes "=") after_part 0 ts ≡ false

-- what may follow a qualifier
pub record EndsQualifier (ts : List Placed) : Type 0 where
  pub ends_expr : EndsExpr ts
  pub no_generator : leads (codes "<-") after_part 0 ts ≡ false

-- what may follow a body
pub record EndsBody (ts : List Placed) : Type 0 where
  pub ends_item : EndsItem ts
  pub no_comma : mark (codes ",") ts ≡ None

-- what may follow an association
pub record EndsAssoc (ts : List Placed) : Type 0 where
  pub ends_expr : EndsExpr ts
  pub no_qualifiers : mark (codes "||") ts ≡ None

-- what may follow a guard
pub record EndsGuard (ts : List Placed) : Type 0 where
  pub ends_expr : EndsExpr ts
  pub no_comma : mark (codes ",") ts ≡ None
  pub no_semicolon : mark (codes ";") ts ≡ None

-- what may follow a guard that may be left out
pub record EndsWhen (ts : List Placed) : Type 0 where
  pub ends_guard : EndsGuard ts
  pub no_when : word (codes "when") ts ≡ None

-- ---- single tokens

leads-none : (ending : List ℕ) (k : Token) (p : Place) (ts : List Placed) → is_mark ending k ≡ false → over (sort_of k) after_part 0 ≡ None → leads ending after_part 0 (at k p ∷ ts) ≡ false
unfolding leads
leads-none ending k p ts e o = rw (e, o) refl

-- a token that may follow expressions, elements of bodies and qualifiers
pub record Closes (k : Token) : Type 0 where
  pub no_call : is_mark (codes "(") k ≡ false
  pub no_hash : is_mark (codes "#") k ≡ false
  pub no_colon : is_mark (codes ":") k ≡ false
  pub no_string : is_string k ≡ false
  pub no_operator : operator_of k ≡ None
  pub none_behind : outside_behind k ≡ None
  pub no_match : is_mark (codes "=") k ≡ false
  pub no_generator : is_mark (codes "<-") k ≡ false
  pub stands : over (sort_of k) after_part 0 ≡ None

pub closes-expr : {k : Token} → Closes k → (p : Place) (ts : List Placed) → EndsExpr (at k p ∷ ts)
closes-expr {k} c p ts = record {
  ends_postfix = record { no_call = mark-none _ k p ts c.no_call; no_hash = mark-none _ k p ts c.no_hash; no_colon = mark-none _ k p ts c.no_colon; no_string = string-none k p ts c.no_string };
  no_operator = operator-none k p ts c.no_operator;
  none_behind = c.none_behind;
}

pub closes-item : {k : Token} → Closes k → (p : Place) (ts : List Placed) → EndsItem (at k p ∷ ts)
closes-item {k} c p ts = record { ends_expr = closes-expr c p ts; no_match = leads-none _ k p ts c.no_match c.stands }

pub closes-qualifier : {k : Token} → Closes k → (p : Place) (ts : List Placed) → EndsQualifier (at k p ∷ ts)
closes-qualifier {k} c p ts = record { ends_expr = closes-expr c p ts; no_generator = leads-none _ k p ts c.no_generator c.stands }

pub closes-body : {k : Token} → Closes k → is_mark (codes ",") k ≡ false → (p : Place) (ts : List Placed) → EndsBody (at k p ∷ ts)
closes-body {k} c e p ts = record { ends_item = closes-item c p ts; no_comma = mark-none _ k p ts e }

pub closes-assoc : {k : Token} → Closes k → is_mark (codes "||") k ≡ false → (p : Place) (ts : List Placed) → EndsAssoc (at k p ∷ ts)
closes-assoc {k} c e p ts = record { ends_expr = closes-expr c p ts; no_qualifiers = mark-none _ k p ts e }

-- ---- the tokens that may follow

pub comma-closes : Closes (T.Mark (codes ","))
unfolding comparison_of arithmetic_of bracket_sort mark_sort
comma-closes = record { no_call = refl; no_hash = refl; no_colon = refl; no_string = refl; no_operator = refl; none_behind = refl; no_match = refl; no_generator = refl; stands = refl }

pub semicolon-closes : Closes (T.Mark (codes ";"))
unfolding comparison_of arithmetic_of bracket_sort mark_sort
semicolon-closes = record { no_call = refl; no_hash = refl; no_colon = refl; no_string = refl; no_operator = refl; none_behind = refl; no_match = refl; no_generator = refl; stands = refl }

pub parenthesis-closes : Closes (T.Mark (codes ")"))
unfolding comparison_of arithmetic_of bracket_sort mark_sort
parenthesis-closes = record { no_call = refl; no_hash = refl; no_colon = refl; no_string = refl; no_operator = refl; none_behind = refl; no_match = refl; no_generator = refl; stands = refl }

pub bracket-closes : Closes (T.Mark (codes "]"))
unfolding comparison_of arithmetic_of bracket_sort mark_sort
bracket-closes = record { no_call = refl; no_hash = refl; no_colon = refl; no_string = refl; no_operator = refl; none_behind = refl; no_match = refl; no_generator = refl; stands = refl }

pub brace-closes : Closes (T.Mark (codes "}"))
unfolding comparison_of arithmetic_of bracket_sort mark_sort
brace-closes = record { no_call = refl; no_hash = refl; no_colon = refl; no_string = refl; no_operator = refl; none_behind = refl; no_match = refl; no_generator = refl; stands = refl }

pub bar-closes : Closes (T.Mark (codes "|"))
unfolding comparison_of arithmetic_of bracket_sort mark_sort
bar-closes = record { no_call = refl; no_hash = refl; no_colon = refl; no_string = refl; no_operator = refl; none_behind = refl; no_match = refl; no_generator = refl; stands = refl }

pub bars-closes : Closes (T.Mark (codes "||"))
unfolding comparison_of arithmetic_of bracket_sort mark_sort
bars-closes = record { no_call = refl; no_hash = refl; no_colon = refl; no_string = refl; no_operator = refl; none_behind = refl; no_match = refl; no_generator = refl; stands = refl }

pub arrow-closes : Closes (T.Mark (codes "->"))
unfolding comparison_of arithmetic_of bracket_sort mark_sort
arrow-closes = record { no_call = refl; no_hash = refl; no_colon = refl; no_string = refl; no_operator = refl; none_behind = refl; no_match = refl; no_generator = refl; stands = refl }

pub adds-closes : Closes (T.Mark (codes "=>"))
unfolding comparison_of arithmetic_of bracket_sort mark_sort
adds-closes = record { no_call = refl; no_hash = refl; no_colon = refl; no_string = refl; no_operator = refl; none_behind = refl; no_match = refl; no_generator = refl; stands = refl }

pub exact-closes : Closes (T.Mark (codes ":="))
unfolding comparison_of arithmetic_of bracket_sort mark_sort
exact-closes = record { no_call = refl; no_hash = refl; no_colon = refl; no_string = refl; no_operator = refl; none_behind = refl; no_match = refl; no_generator = refl; stands = refl }

pub of-closes : Closes (T.Word (codes "of"))
unfolding word_operator_of is_bit_operator
of-closes = record { no_call = refl; no_hash = refl; no_colon = refl; no_string = refl; no_operator = refl; none_behind = refl; no_match = refl; no_generator = refl; stands = refl }

pub end-closes : Closes (T.Word (codes "end"))
unfolding word_operator_of is_bit_operator
end-closes = record { no_call = refl; no_hash = refl; no_colon = refl; no_string = refl; no_operator = refl; none_behind = refl; no_match = refl; no_generator = refl; stands = refl }

pub catch-closes : Closes (T.Word (codes "catch"))
unfolding word_operator_of is_bit_operator
catch-closes = record { no_call = refl; no_hash = refl; no_colon = refl; no_string = refl; no_operator = refl; none_behind = refl; no_match = refl; no_generator = refl; stands = refl }

pub after-closes : Closes (T.Word (codes "after"))
unfolding word_operator_of is_bit_operator
after-closes = record { no_call = refl; no_hash = refl; no_colon = refl; no_string = refl; no_operator = refl; none_behind = refl; no_match = refl; no_generator = refl; stands = refl }

pub end_of_text-closes : Closes T.End
end_of_text-closes = record { no_call = refl; no_hash = refl; no_colon = refl; no_string = refl; no_operator = refl; none_behind = refl; no_match = refl; no_generator = refl; stands = refl }

-- ---- what may follow guards

pub arrow-ends_guard : (p : Place) (ts : List Placed) → EndsGuard (at (T.Mark (codes "->")) p ∷ ts)
arrow-ends_guard p ts = record { ends_expr = closes-expr arrow-closes p ts; no_comma = mark-none _ _ p ts refl; no_semicolon = mark-none _ _ p ts refl }

pub arrow-ends_when : (p : Place) (ts : List Placed) → EndsWhen (at (T.Mark (codes "->")) p ∷ ts)
arrow-ends_when p ts = record { ends_guard = arrow-ends_guard p ts; no_when = word-none _ _ p ts refl }
