-- Each text has an answer: its tokens, or a first fault.
use Rattle.std.proofs.Common.{◌≡◌, ℕ, zero, suc, ◌<◌, ◌≤◌, Bool, true, false, cond, List, [], ◌∷◌, ◌++◌, length, length-append, Option, Some, None, refl, ap, sym, subst, ◌∙◌, arith, inl, inr}
use Rattle.std.specs.Prelude.{◌⊎◌, ◌||◌, ◌==◌, pos, negsuc, take, encode_utf8_all}
use Rattle.std.specs.Str.{all_scalars}
use Rattle.std.proofs.Math.Dec.{ltb}
use Rattle.std.proofs.lemmas.Bool.{eqb-true, ltb-true, ltb-false}
use Rattle.erl_tree.specs.declared.token.Place.{Place}
use Rattle.erl_tree.specs.declared.token.Placed.{Placed}
use Rattle.erl_tree.specs.declared.token.Token.{Token}
use Rattle.erl_tree.specs.declared.token.Token.TheVariants as T
use Rattle.erl_tree.specs.Lexis.{every, is_lower, is_upper, is_digit, is_name, is_white, is_grouped, is_based, is_quoted, is_character, is_mark, integer_value, unquoted, character_value, name_token, mark_token, is_token_text, token_of, when, IsGap, IsLongest, after, start}
use Rattle.erl_tree.specs.Limits.{integer_limit, IsInLimit, IsAboveLimit}
use Rattle.erl_tree.specs.Profile.{begins_gap, outside_form, bad_escape, BeginsWith, IsLexed}
use Rattle.erl_tree.specs.Faults.{FaultKind, outside, wide, escape, no_token, IsFaultAt}
use Rattle.erl_tree.proofs.TokenTexts.{token_is_text, empty_has_none}
use Rattle.erl_tree.proofs.Spelled.{placed}
use Rattle.erl_tree.proofs.LongestTexts.{none_from, none_longer, IsFound, found_or_none}
use Rattle.erl_tree.proofs.Lexed.{IsFaultOfRest, fault_from_rest}

-- ---- a text of a token has a token

holds : (b : Bool) (t : Token) → b ≡ true → (u : Token) × (when b t ≡ Some u)
holds true t e = (t, refl)
holds false t e = absurd cc

either : (b x y : Bool) (m n : Option Token) → cond b x y ≡ true → (x ≡ true → (u : Token) × (m ≡ Some u)) → (y ≡ true → (u : Token) × (n ≡ Some u)) → (u : Token) × (cond b m n ≡ Some u)
either true x y m n e f g = f e
either false x y m n e f g = g e

pub text_has_token : (word more : List ℕ) → is_token_text word ≡ true → (t : Token) × (token_of word more ≡ Some t)
unfolding token_of is_token_text
text_has_token [] more h = absurd cc
text_has_token (c ∷ cs) more h =
    either (is_lower c) _ _ _ _ h (holds (every is_name cs) (name_token (c ∷ cs))) (λ h.
    either (is_upper c) _ _ _ _ h (holds (every is_name cs) (T.Var (c ∷ cs))) (λ h.
    either (is_digit c) (is_grouped is_digit (c ∷ cs) || is_based 0 (c ∷ cs)) _ _ _ h (holds (is_grouped is_digit (c ∷ cs) || is_based 0 (c ∷ cs)) (T.Int (pos (integer_value 0 (c ∷ cs))))) (λ h.
    either (c == 39) _ _ _ _ h (holds (is_quoted 39 cs) (T.Atom (encode_utf8_all (unquoted cs)))) (λ h.
    either (c == 34) _ _ _ _ h (holds (is_quoted 34 cs) (T.Str (encode_utf8_all (unquoted cs)))) (λ h.
    either (c == 36) _ _ _ _ h (holds (is_character cs) (T.Char (character_value cs))) (holds (is_mark (c ∷ cs)) (mark_token (c ∷ cs) more)))))))

-- ---- integers within the limit

pub above_or_within : (t : Token) → IsAboveLimit t ⊎ IsInLimit t
above_or_within (T.Int (pos n)) = by_test (ltb integer_limit n) refl
  where
    by_test : (b : Bool) → ltb integer_limit n ≡ b → (integer_limit < n) ⊎ (integer_limit < n → ⊥)
    by_test true e = inl (ltb-true integer_limit n e)
    by_test false e = let k : n ≤ integer_limit = ltb-false integer_limit n e in inr (λ l. absurd (omega (arith, k, l)))
above_or_within (T.Int (negsuc n)) = inl tt
above_or_within _ = inr (λ h. h)

-- ---- gaps

-- a gap of the characters behind which none begins
abbrev pub IsSplit : (commented : Bool) → (text : List ℕ) → Type 0
IsSplit commented text = (gap rest : List ℕ) × (text ≡ gap ++ rest) × IsGap commented gap rest × (begins_gap rest ≡ false)

pub split_gap : (commented : Bool) (text : List ℕ) → IsSplit commented text
split_gap false [] = ([], [], refl, tt, refl)
split_gap true [] = ([], [], refl, refl, refl)
split_gap false (c ∷ cs) = by_tests (is_white c) (c == 37) refl refl (split_gap false cs) (split_gap true cs)
  where
    by_tests : (white comment : Bool) → is_white c ≡ white → (c == 37) ≡ comment → IsSplit false cs → IsSplit true cs → IsSplit false (c ∷ cs)
    by_tests true comment e f (gap, rest, s, g, n) b = (c ∷ gap, rest, cc s, inl (e, g), n)
    by_tests false true e f a (gap, rest, s, g, n) = (c ∷ gap, rest, cc s, inr (eqb-true c 37 f, g), n)
    by_tests false false e f a b = ([], c ∷ cs, refl, tt, rw (e, f) refl)
split_gap true (c ∷ cs) = by_test (c == 10) refl (split_gap false cs) (split_gap true cs)
  where
    by_test : (b : Bool) → (c == 10) ≡ b → IsSplit false cs → IsSplit true cs → IsSplit true (c ∷ cs)
    by_test true e (gap, rest, s, g, n) b = (c ∷ gap, rest, cc s, inl (eqb-true c 10 e, g), n)
    by_test false e a (gap, rest, s, g, n) = (c ∷ gap, rest, cc s, inr ((λ k. let z : (c == 10) ≡ true = ap (λ x. x == 10) k in absurd (let w : true ≡ false = sym z ∙ e in cc)), g), n)

-- ---- one step

-- a token with which one goes on
abbrev pub IsTokenOfRest : List ℕ → Type 0
IsTokenOfRest rest = (word more : List ℕ) × (t : Token) × (rest ≡ word ++ more) × (token_of word more ≡ Some t) × IsLongest word more × (outside_form (word ++ more) ≡ None) × IsInLimit t

-- a fault of the characters that are left
abbrev pub HasFaultOfRest : Place → List ℕ → Type 0
HasFaultOfRest there rest = (p : Place) × (f : FaultKind) × IsFaultOfRest there rest p f

pub one_step : (there : Place) (rest : List ℕ) → (rest ≡ []) ⊎ HasFaultOfRest there rest ⊎ IsTokenOfRest rest
one_step there [] = inl refl
one_step there (c ∷ cs) = inr (by_outside (outside_form (c ∷ cs)) refl)
  where
    by_limit : (word more : List ℕ) (t : Token) → outside_form (c ∷ cs) ≡ None → c ∷ cs ≡ word ++ more → token_of word more ≡ Some t → IsLongest word more
        → IsAboveLimit t ⊎ IsInLimit t → HasFaultOfRest there (c ∷ cs) ⊎ IsTokenOfRest (c ∷ cs)
    by_limit word more t o e h l (inl a) = inl (there, wide, (refl, o, word, more, t, e, h, l, a))
    by_limit word more t o e h l (inr i) = inr (word, more, t, e, h, l, ap outside_form (sym e) ∙ o, i)

    by_text : outside_form (c ∷ cs) ≡ None → bad_escape (c ∷ cs) ≡ None → IsFound [] (c ∷ cs) ⊎ (none_from [] (c ∷ cs) ≡ true) → HasFaultOfRest there (c ∷ cs) ⊎ IsTokenOfRest (c ∷ cs)
    by_text o b (inl (word, more, e, t, l)) = let k = text_has_token word more t in by_limit word more k.0 o e k.1 l (above_or_within k.0)
    by_text o b (inr n) = inl (there, no_token, (refl, o, b, (λ e. cc), (λ word more t e h. none_longer [] (c ∷ cs) word more n e (token_is_text word more t h))))

    by_escape : outside_form (c ∷ cs) ≡ None → (o : Option ℕ) → bad_escape (c ∷ cs) ≡ o → HasFaultOfRest there (c ∷ cs) ⊎ IsTokenOfRest (c ∷ cs)
    by_escape o None b = by_text o b (found_or_none [] (c ∷ cs))
    by_escape o (Some n) b = inl (after there (take n (c ∷ cs)), escape, (o, n, b, refl))

    by_outside : (o : Option (List ℕ)) → outside_form (c ∷ cs) ≡ o → HasFaultOfRest there (c ∷ cs) ⊎ IsTokenOfRest (c ∷ cs)
    by_outside None o = by_escape o (bad_escape (c ∷ cs)) refl
    by_outside (Some form) o = inl (there, outside form, (refl, o))

-- ---- all steps

-- tokens up to the end or a fault
abbrev pub IsAnswered : Place → List ℕ → Type 0
IsAnswered p text = (ts : List Placed) × (there : Place) × (rest : List ℕ) × BeginsWith p text ts there rest × ((rest ≡ []) ⊎ HasFaultOfRest there rest)

shorter : (gap word more rest : List ℕ) (text : List ℕ) (n : ℕ) → text ≡ gap ++ rest → rest ≡ word ++ more → 1 ≤ length word → length text ≤ suc n → length more ≤ n
shorter gap word more rest text n e f w l = omega (arith, ap length e, ap length f, length-append gap rest, length-append word more)

not_empty : (word more : List ℕ) (t : Token) → token_of word more ≡ Some t → 1 ≤ length word
not_empty [] more t h = absurd (empty_has_none more t h)
not_empty (c ∷ cs) more t h = omega arith

goes_on : (p : Place) (text gap rest word more : List ℕ) (t : Token) → text ≡ gap ++ rest → IsGap false gap rest → rest ≡ word ++ more → token_of word more ≡ Some t → IsLongest word more
    → outside_form (word ++ more) ≡ None → IsInLimit t → IsAnswered (after (after p gap) word) more → IsAnswered p text
unfolding BeginsWith
goes_on p text gap rest word more t e g f h l o i (ts, there, left, b, r) =
    (placed t (after p gap) ∷ ts, there, left, (gap, word, more, e ∙ ap (λ x. gap ++ x) f, subst (IsGap false gap) f g, h, l, refl, o, i, b), r)

stops : (p : Place) (text gap rest : List ℕ) → text ≡ gap ++ rest → IsGap false gap rest → begins_gap rest ≡ false → (rest ≡ []) ⊎ HasFaultOfRest (after p gap) rest → IsAnswered p text
unfolding BeginsWith
stops p text gap rest e g n r = ([], after p gap, rest, (gap, e, g, n, refl), r)

pub answered_from : (n : ℕ) (p : Place) (text : List ℕ) → length text ≤ n → IsAnswered p text
answered_from zero p [] l = stops p [] [] [] refl tt refl (inl refl)
answered_from zero p (c ∷ cs) l = absurd (omega arith)
answered_from (suc n) p text l = by_gap (split_gap false text) (λ q more. answered_from n q more)
  where
    by_step : (gap rest : List ℕ) → text ≡ gap ++ rest → IsGap false gap rest → begins_gap rest ≡ false → (rest ≡ []) ⊎ HasFaultOfRest (after p gap) rest ⊎ IsTokenOfRest rest
        → ((q : Place) (more : List ℕ) → length more ≤ n → IsAnswered q more) → IsAnswered p text
    by_step gap rest e g b (inl z) again = stops p text gap rest e g b (inl z)
    by_step gap rest e g b (inr (inl z)) again = stops p text gap rest e g b (inr z)
    by_step gap rest e g b (inr (inr (word, more, t, f, h, k, o, i))) again =
        goes_on p text gap rest word more t e g f h k o i (again (after (after p gap) word) more (shorter gap word more rest text n e f (not_empty word more t h) l))

    by_gap : IsSplit false text → ((q : Place) (more : List ℕ) → length more ≤ n → IsAnswered q more) → IsAnswered p text
    by_gap (gap, rest, e, g, b) again = by_step gap rest e g b (one_step (after p gap) rest) again

-- the tokens of a text, or its first fault
pub each_answered : (text : List ℕ) → all_scalars text ≡ true
    → ((tokens : List Placed) × IsLexed (encode_utf8_all text) tokens) ⊎ ((p : Place) × (f : FaultKind) × IsFaultAt text p f)
each_answered text s = by_answer (answered_from (length text) start text (omega arith))
  where
    by_answer : IsAnswered start text → ((tokens : List Placed) × IsLexed (encode_utf8_all text) tokens) ⊎ ((p : Place) × (f : FaultKind) × IsFaultAt text p f)
    by_answer (ts, there, rest, b, inl e) = inl (
      ts ++ placed T.End there ∷ [],
      record { characters = text; are_characters = s; encoded = refl; before = ts; end = there; spelled = subst (BeginsWith start text ts there) e b; listed = refl },
    )
    by_answer (ts, there, rest, b, inr (p, f, h)) = inr (p, f, fault_from_rest text ts there rest p f b h)
