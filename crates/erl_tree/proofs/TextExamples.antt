-- Small texts, and what they spell.
use Rattle.std.proofs.Common.{◌≡◌, refl, sym, ◌∙◌, subst, ℕ, ◌+◌, ◌-◌, ◌*◌, ◌≤◌, List, [], ◌∷◌, ◌++◌, length, Bool, true, false, Some, arith, inl, inr}
use Rattle.std.proofs.Common.{Option, cond}
use Rattle.std.specs.Prelude.{◌||◌, ◌==◌, codes, encode_utf8_all, pos, None}
use Rattle.std.proofs.Math.Utf8.{encode}
use Rattle.std.proofs.lemmas.Bool.Decides.{nat_tests}
use Rattle.erl_tree.specs.declared.token.Place.{Place}
use Rattle.erl_tree.specs.declared.token.Placed.{Placed}
use Rattle.erl_tree.specs.declared.token.Token.{Token}
use Rattle.erl_tree.specs.declared.token.Token.TheVariants.{Atom, Var, Int, Str, Mark, Dot, End}
use Rattle.erl_tree.specs.Lexis.{every, is_lower, is_upper, is_digit, is_grouped, is_based, decimal, integer_value, when, IsLongest, is_token_text, token_of, Spells, SpellsTokens, start}
use Rattle.erl_tree.specs.Profile.{begins_gap, outside_form, bad_escape, BeginsWith, IsLexed, IsOutsideAt, IsWideAt, IsBadEscapeAt, IsBadTokenAt}
use Rattle.erl_tree.specs.Faults.{IsFaultAt, wide}
use Rattle.erl_tree.specs.SmallText.{place, placed, small_text, small_tokens, text_with_a_string, tokens_with_a_string}
use Rattle.erl_tree.proofs.TokenTexts.{NoGap, and_true, digits_grouped, token_is_text}
use Rattle.erl_tree.proofs.Spelled.{one_text_of_bytes}
use Rattle.erl_tree.proofs.LongestTexts.{none_from, none_longer, longest, longest_last}
use Rattle.erl_tree.proofs.Lexed.{no_gap_there, lexed_without_fault}

-- ---- `-module(a).`

spells_end : Spells (place 12) [] (placed End 12 ∷ [])
unfolding Spells
spells_end = (tt, refl, refl)

spells_dot : Spells (place 11) (codes ".") (placed Dot 11 ∷ placed End 12 ∷ [])
unfolding Spells token_of
spells_dot = ([], codes ".", [], refl, tt, refl, longest_last (codes "."), refl, spells_end)

spells_close : Spells (place 10) (codes ").") (placed (Mark (codes ")")) 10 ∷ placed Dot 11 ∷ placed End 12 ∷ [])
unfolding Spells token_of is_token_text
spells_close = ([], codes ")", codes ".", refl, tt, refl, longest (codes ")") _ _ refl, refl, spells_dot)

spells_name : Spells (place 9) (codes "a).") (placed (Atom (codes "a")) 9 ∷ placed (Mark (codes ")")) 10 ∷ placed Dot 11 ∷ placed End 12 ∷ [])
unfolding Spells token_of is_token_text
spells_name = ([], codes "a", codes ").", refl, tt, refl, longest (codes "a") _ _ refl, refl, spells_close)

spells_open : Spells (place 8) (codes "(a).") (placed (Mark (codes "(")) 8 ∷ placed (Atom (codes "a")) 9 ∷ placed (Mark (codes ")")) 10 ∷ placed Dot 11 ∷ placed End 12 ∷ [])
unfolding Spells token_of is_token_text
spells_open = ([], codes "(", codes "a).", refl, tt, refl, longest (codes "(") _ _ refl, refl, spells_name)

spells_module : Spells (place 2) (codes "module(a).") (placed (Atom (codes "module")) 2 ∷ placed (Mark (codes "(")) 8 ∷ placed (Atom (codes "a")) 9 ∷ placed (Mark (codes ")")) 10 ∷ placed Dot 11 ∷ placed End 12 ∷ [])
unfolding Spells token_of is_token_text
spells_module = ([], codes "module", codes "(a).", refl, tt, refl, longest (codes "module") _ _ refl, refl, spells_open)

spells_whole : Spells start small_text small_tokens
unfolding Spells token_of is_token_text
spells_whole = ([], codes "-", codes "module(a).", refl, tt, refl, longest (codes "-") _ _ refl, refl, spells_module)

pub small_spelled : SpellsTokens small_text small_tokens
unfolding encode
small_spelled = record { characters = small_text; are_characters = refl; encoded = refl; spelled = spells_whole }

-- ---- what begins no token

-- characters that begin no gap, and no text of a token, spell nothing
nothing_from : (p : Place) (c : ℕ) (cs : List ℕ) (ts : List Placed) → begins_gap (c ∷ cs) ≡ false → none_from [] (c ∷ cs) ≡ true → Spells p (c ∷ cs) ts → ⊥
unfolding Spells
nothing_from p c cs [] g n h = h
nothing_from p c cs (t ∷ []) g n h = let k = no_gap_there (c ∷ cs) g in elim h.0 [ inl w ↦ absurd (let z : true ≡ false = sym w.0 ∙ k.0 in cc) | inr w ↦ k.1 w.0 ]
nothing_from p c cs (t ∷ u ∷ ts) g n ([], word, rest, e, i, o, l, q, m) = none_longer [] (c ∷ cs) word rest n e (token_is_text word rest t.token o)
nothing_from p c cs (t ∷ u ∷ ts) g n (d ∷ ds, word, rest, e, i, o, l, q, m) =
    let k : NoGap (d ∷ (ds ++ (word ++ rest))) = subst NoGap e (no_gap_there (c ∷ cs) g) in
    elim i [ inl w ↦ absurd (let z : true ≡ false = sym w.0 ∙ k.0 in cc) | inr w ↦ k.1 w.0 ]

-- bytes that begin no gap, and no text of a token, spell nothing
nothing_spelled : (c : ℕ) (cs : List ℕ) (tokens : List Placed) → encode_utf8_all (c ∷ cs) ≡ c ∷ cs → begins_gap (c ∷ cs) ≡ false → none_from [] (c ∷ cs) ≡ true → SpellsTokens (c ∷ cs) tokens → ⊥
nothing_spelled c cs tokens e g n h =
    nothing_from start c cs tokens g n (subst (λ (x : List ℕ). Spells start x tokens) (one_text_of_bytes (c ∷ cs) h.characters (c ∷ cs) h.encoded e) h.spelled)

-- a dollar sign alone spells nothing
pub dollar_spells_nothing : (tokens : List Placed) → SpellsTokens (codes "$") tokens → ⊥
unfolding encode is_token_text
dollar_spells_nothing tokens = nothing_spelled 36 [] tokens refl refl refl

-- an open quote spells nothing
pub quote_spells_nothing : (tokens : List Placed) → SpellsTokens (codes "'a") tokens → ⊥
unfolding encode is_token_text
quote_spells_nothing tokens = nothing_spelled 39 (codes "a") tokens refl refl refl

-- ---- `=:=1`

pub long_mark : IsLongest (codes "=:=") (codes "1")
unfolding is_token_text
long_mark = longest (codes "=:=") _ _ refl

pub short_mark : IsLongest (codes "=") (codes ":=1") → ⊥
unfolding is_token_text
short_mark h = let k : length (codes "=:=") ≤ length (codes "=") = h (codes "=:=") (codes "1") refl refl in absurd (omega arith)

-- ---- a text that is lexed

lexed_string : BeginsWith (place 3) (codes "\"a\\n\".%b") (placed (Str (97 ∷ 10 ∷ [])) 3 ∷ placed Dot 8 ∷ []) (place 11) []
unfolding BeginsWith token_of is_token_text outside_form encode
lexed_string = (
  [],
  codes "\"a\\n\"",
  codes ".%b",
  refl,
  tt,
  refl,
  longest (codes "\"a\\n\"") _ _ refl,
  refl,
  refl,
  (λ h. h),
  (
    [],
    codes ".",
    codes "%b",
    refl,
    tt,
    refl,
    longest (codes ".") _ _ refl,
    refl,
    refl,
    (λ h. h),
    (codes "%b", refl, inr (refl, inr (differ, refl)), refl, refl),
  ),
)
  where
    differ : ◌≡◌ {A = ℕ} 98 10 → ⊥
    differ e = absurd (omega arith)

lexed_whole : BeginsWith start text_with_a_string (placed (Var (codes "X")) 1 ∷ placed (Mark (codes "=")) 2 ∷ placed (Str (97 ∷ 10 ∷ [])) 3 ∷ placed Dot 8 ∷ []) (place 11) []
unfolding BeginsWith token_of is_token_text outside_form
lexed_whole = (
  [],
  codes "X",
  codes "=\"a\\n\".%b",
  refl,
  tt,
  refl,
  longest (codes "X") _ _ refl,
  refl,
  refl,
  (λ h. h),
  ([], codes "=", codes "\"a\\n\".%b", refl, tt, refl, longest (codes "=") _ _ refl, refl, refl, (λ h. h), lexed_string),
)

pub string_lexed : IsLexed text_with_a_string tokens_with_a_string
unfolding encode
string_lexed = record { characters = text_with_a_string; are_characters = refl; encoded = refl; before = _; end = place 11; spelled = lexed_whole; listed = refl }

-- ---- decimal integers, however long

no_mark_of_digits : (c : ℕ) → is_digit c ≡ true → ((c == 35) ≡ false) × ((c == 95) ≡ false)
no_mark_of_digits c h = (grind (arith, nat_tests), grind (arith, nat_tests))

decimal_value : (n : ℕ) (ds : List ℕ) → every is_digit ds ≡ true → integer_value n ds ≡ decimal n ds
decimal_value n [] h = refl
decimal_value n (d ∷ ds) h =
    let w = and_true (is_digit d) (every is_digit ds) h in
    let k = no_mark_of_digits d w.0 in
    rw (k.0, k.1, w.0) (decimal_value (n * 10 + (d - 48)) ds w.1)

token_of_value : (c : ℕ) (cs follow : List ℕ) (n : ℕ) → is_lower c ≡ false → is_upper c ≡ false → is_digit c ≡ true → is_grouped is_digit (c ∷ cs) ≡ true → integer_value 0 (c ∷ cs) ≡ n → token_of (c ∷ cs) follow ≡ Some (Int (pos n))
unfolding token_of
token_of_value c cs follow n l u d g v = by_parts (is_lower c) (is_upper c) (is_digit c) (is_grouped is_digit (c ∷ cs)) (is_based 0 (c ∷ cs)) (integer_value 0 (c ∷ cs)) _ _ _ l u d g v
  where
    by_parts : (lower upper digit grouped based : Bool) (m : ℕ) (a b e : Option Token) → lower ≡ false → upper ≡ false → digit ≡ true → grouped ≡ true → m ≡ n
        → cond lower a (cond upper b (cond digit (when (grouped || based) (Int (pos m))) e)) ≡ Some (Int (pos n))
    by_parts lower upper digit grouped based m a b e l u d g v = rw (l, u, d, g, v) refl

decimal_token : (c : ℕ) (cs follow : List ℕ) (n : ℕ) → is_lower c ≡ false → is_upper c ≡ false → every is_digit (c ∷ cs) ≡ true → decimal 0 (c ∷ cs) ≡ n → token_of (c ∷ cs) follow ≡ Some (Int (pos n))
decimal_token c cs follow n l u d v =
    let w = and_true (is_digit c) (every is_digit cs) d in
    token_of_value c cs follow n l u w.0 (rw w.0 (digits_grouped cs w.1)) (decimal_value 0 (c ∷ cs) d ∙ v)

limit_token : token_of (codes "170141183460469231731687303715884105726") [] ≡ Some (Int (pos 170141183460469231731687303715884105726))
limit_token = decimal_token 49 (codes "70141183460469231731687303715884105726") [] 170141183460469231731687303715884105726 refl refl refl refl

wide_token : token_of (codes "170141183460469231731687303715884105727") [] ≡ Some (Int (pos 170141183460469231731687303715884105727))
wide_token = decimal_token 49 (codes "70141183460469231731687303715884105727") [] 170141183460469231731687303715884105727 refl refl refl refl

-- ---- first faults

-- `a`, a space and more
behind : (c : ℕ) (cs : List ℕ) → begins_gap (c ∷ cs) ≡ false → none_from (codes "a ") (c ∷ cs) ≡ true → outside_form (codes "a " ++ c ∷ cs) ≡ None → BeginsWith start (codes "a " ++ c ∷ cs) (placed (Atom (codes "a")) 1 ∷ []) (place 3) (c ∷ cs)
unfolding BeginsWith token_of
behind c cs g n o = (
  [],
  codes "a",
  codes " " ++ c ∷ cs,
  refl,
  tt,
  refl,
  longest (codes "a") 32 (c ∷ cs) n,
  refl,
  o,
  (λ h. h),
  (codes " ", refl, inl (refl, tt), g, refl),
)

pub outside_there : IsOutsideAt (codes "a 1.5") (place 3) (codes "float")
unfolding is_token_text outside_form
outside_there = record { tokens = _; rest = codes "1.5"; begins = behind 49 (codes ".5") refl refl refl; outside = refl }

pub wide_there : IsWideAt (codes "a 170141183460469231731687303715884105727") (place 3)
unfolding is_token_text outside_form
wide_there = record {
  word = codes "170141183460469231731687303715884105727";
  more = [];
  token = Int (pos 170141183460469231731687303715884105727);
  right = record { tokens = _; begins = behind 49 (codes "70141183460469231731687303715884105727") refl refl refl; inside = refl };
  spelled = wide_token;
  longest = longest_last (codes "170141183460469231731687303715884105727");
  wide = omega arith;
}

pub escape_there : IsBadEscapeAt (codes "a '\\q'") (place 4)
unfolding is_token_text outside_form bad_escape
escape_there = record {
  there = place 3;
  rest = codes "'\\q'";
  before = 1;
  right = record { tokens = _; begins = behind 39 (codes "\\q'") refl refl refl; inside = refl };
  bad = refl;
  placed = refl;
}

no_token_there : (word more : List ℕ) (t : Token) → codes "'b" ≡ word ++ more → token_of word more ≡ Some t → ⊥
unfolding is_token_text
no_token_there word more t e h = none_longer [] (codes "'b") word more refl e (token_is_text word more t h)

pub bad_token_there : IsBadTokenAt (codes "a 'b") (place 3)
unfolding is_token_text outside_form bad_escape
bad_token_there = record {
  rest = codes "'b";
  right = record { tokens = _; begins = behind 39 (codes "b") refl refl refl; inside = refl };
  escapes = refl;
  goes_on = λ e. cc;
  no_token = no_token_there;
}

-- ---- the greatest integer

pub greatest_lexed : IsLexed (codes "170141183460469231731687303715884105726") (placed (Int (pos 170141183460469231731687303715884105726)) 1 ∷ placed End 40 ∷ [])
unfolding encode BeginsWith outside_form
greatest_lexed = record {
  characters = codes "170141183460469231731687303715884105726";
  are_characters = refl;
  encoded = refl;
  before = placed (Int (pos 170141183460469231731687303715884105726)) 1 ∷ [];
  end = place 40;
  spelled = (
    [],
    codes "170141183460469231731687303715884105726",
    [],
    refl,
    tt,
    limit_token,
    longest_last (codes "170141183460469231731687303715884105726"),
    refl,
    refl,
    (λ h. absurd (omega arith)),
    ([], refl, tt, refl, refl),
  );
  listed = refl;
}

pub greatest_not_wide : IsFaultAt (codes "170141183460469231731687303715884105726") (place 1) wide → ⊥
unfolding encode
greatest_not_wide h = lexed_without_fault (codes "170141183460469231731687303715884105726") _ (place 1) wide greatest_lexed h
