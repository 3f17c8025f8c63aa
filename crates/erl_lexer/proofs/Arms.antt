-- The length of a token's text and its token, by the first character.
use Rattle.std.proofs.Common.{◌≡◌, ◌≢◌, ℕ, zero, suc, ◌+◌, ◌≤◌, Bool, true, false, List, [], ◌∷◌, length, take, Option, Some, None, refl, ap, sym, ◌∙◌, arith, inl, inr}
use Rattle.std.specs.Prelude.{◌||◌, if◌then◌else◌, pos, nat_le}
use Rattle.std.proofs.Math.Dec.{eqb}
use Rattle.std.proofs.lemmas.Bool.Decides.{nat_tests}
use Rattle.erl_tree.specs.declared.token.Token.TheVariants as T
use Rattle.erl_tree.specs.Lexis.{is_lower, is_upper, is_digit, is_name, is_escape, is_grouped, is_based, integer_value, name_token}
use Rattle.erl_lexer.specs.Scan.{run, first_is, is_continuation, integer_length, quoted_run, character_bytes, mark_length, some_length, other_length, length_by, other_token, token_by}
use Rattle.erl_lexer.proofs.IntegerTexts.{integer_is, integer_some, further_is}
use Rattle.erl_lexer.proofs.QuotedTexts.{quoted_is}
use Rattle.erl_lexer.proofs.Marks.{mark_is}
use Rattle.erl_lexer.proofs.Texts.{Kind, kind, IsOther, some_eq, run_le, length_lower, length_upper, length_digit, length_atom, length_string, length_character, length_mark}
use Rattle.erl_lexer.proofs.Texts.Kind.{Lower, Upper, Digit, Atom, String, Character_mark, Other}
use Rattle.erl_lexer.proofs.Values.{by_lower, by_upper, by_digit, by_none, passed}

-- ---- lengths

pub mark_found : (n : ℕ) → n ≢ 0 → some_length n ≡ Some n
mark_found zero h = absurd (h refl)
mark_found (suc n) h = refl

pub mark_missed : (n : ℕ) → n ≡ 0 → some_length n ≡ None
mark_missed n h = ap some_length h

pub ruleset marks_found = (mark_found, mark_missed)

plus_one : (n : ℕ) → Some (suc n) ≡ Some (n + 1)
plus_one n = let e : suc n ≡ n + 1 = omega arith in ap (λ (x : ℕ). Some x) e

pub at_empty : (ch : List ℕ → Option ℕ) (text : List ℕ) → text ≡ [] → length_by ch text ≡ None
unfolding length_by
at_empty ch text e = ap (length_by ch) e

pub at_lower : (ch : List ℕ → Option ℕ) (text : List ℕ) (c : ℕ) (cs : List ℕ) → text ≡ c ∷ cs → is_lower c ≡ true → length_by ch text ≡ Some (run is_name cs + 1)
at_lower ch text c cs e h = ap (length_by ch) e ∙ (length_lower ch c cs h ∙ plus_one (run is_name cs))

pub at_upper : (ch : List ℕ → Option ℕ) (text : List ℕ) (c : ℕ) (cs : List ℕ) → text ≡ c ∷ cs → is_lower c ≡ false → is_upper c ≡ true → length_by ch text ≡ Some (run is_name cs + 1)
at_upper ch text c cs e h i = ap (length_by ch) e ∙ (length_upper ch c cs h i ∙ plus_one (run is_name cs))

pub at_digit : (ch : List ℕ → Option ℕ) (text : List ℕ) (c : ℕ) (cs : List ℕ) → text ≡ c ∷ cs → is_lower c ≡ false → is_upper c ≡ false → is_digit c ≡ true → length_by ch text ≡ Some (integer_length text)
at_digit ch text c cs e h i j = ap (length_by ch) e ∙ (length_digit ch c cs h i j ∙ ap (λ (x : List ℕ). Some (integer_length x)) (sym e))

other_cons : (ch : List ℕ → Option ℕ) (c : ℕ) (cs : List ℕ) → is_lower c ≡ false → is_upper c ≡ false → is_digit c ≡ false → length_by ch (c ∷ cs) ≡ other_length ch c cs
unfolding length_by
other_cons ch c cs h i j = rw (h, i) (by (is_digit c) j)
  where
    by : (b : Bool) → b ≡ false → (if b then Some (integer_length (c ∷ cs)) else other_length ch c cs) ≡ other_length ch c cs
    by true e = absurd cc
    by false e = refl

pub at_other : (ch : List ℕ → Option ℕ) (text : List ℕ) (c : ℕ) (cs : List ℕ) → text ≡ c ∷ cs → is_lower c ≡ false → is_upper c ≡ false → is_digit c ≡ false → length_by ch text ≡ other_length ch c cs
at_other ch text c cs e h i j = ap (length_by ch) e ∙ other_cons ch c cs h i j

pub ruleset lengths = (at_empty, at_lower, at_upper, at_digit, at_other)

-- ---- tokens

pub by_at_empty : (text follow : List ℕ) → text ≡ [] → token_by text follow ≡ T.End
by_at_empty text follow e = ap (λ (x : List ℕ). token_by x follow) e ∙ by_none follow

pub by_at_lower : (text follow : List ℕ) (c : ℕ) (cs : List ℕ) → text ≡ c ∷ cs → is_lower c ≡ true → token_by text follow ≡ name_token text
by_at_lower text follow c cs e h = ap (λ (x : List ℕ). token_by x follow) e ∙ (by_lower c cs follow h ∙ ap name_token (sym e))

pub by_at_upper : (text follow : List ℕ) (c : ℕ) (cs : List ℕ) → text ≡ c ∷ cs → is_lower c ≡ false → is_upper c ≡ true → token_by text follow ≡ T.Var text
by_at_upper text follow c cs e h i = ap (λ (x : List ℕ). token_by x follow) e ∙ (by_upper c cs follow h i ∙ ap T.Var (sym e))

pub by_at_digit : (text follow : List ℕ) (c : ℕ) (cs : List ℕ) → text ≡ c ∷ cs → is_lower c ≡ false → is_upper c ≡ false → is_digit c ≡ true → token_by text follow ≡ T.Int (pos (integer_value 0 text))
by_at_digit text follow c cs e h i j = ap (λ (x : List ℕ). token_by x follow) e ∙ (by_digit c cs follow h i j ∙ ap (λ (x : List ℕ). T.Int (pos (integer_value 0 x))) (sym e))

other_by : (c : ℕ) (cs follow : List ℕ) → is_lower c ≡ false → is_upper c ≡ false → is_digit c ≡ false → token_by (c ∷ cs) follow ≡ other_token c cs follow
unfolding token_by
other_by c cs follow h i j = rw (h, i) (passed (is_digit c) _ _ j)

pub by_at_other : (text follow : List ℕ) (c : ℕ) (cs : List ℕ) → text ≡ c ∷ cs → is_lower c ≡ false → is_upper c ≡ false → is_digit c ≡ false → token_by text follow ≡ other_token c cs follow
by_at_other text follow c cs e h i j = ap (λ (x : List ℕ). token_by x follow) e ∙ other_by c cs follow h i j

pub first_digit : (text : List ℕ) (c : ℕ) (cs : List ℕ) → text ≡ c ∷ cs → is_digit c ≡ true → first_is is_digit text ≡ true
first_digit text c cs e h = ap (first_is is_digit) e ∙ h

pub ruleset values = (by_at_empty, by_at_lower, by_at_upper, by_at_digit, by_at_other, first_digit)

-- ---- what is known of a length

no_digit_lower : (c : ℕ) → is_lower c ≡ true → is_digit c ≡ true → ⊥
no_digit_lower c h g = grind (arith, nat_tests)

-- so many bytes are there, at least one, and they are an integer's text where they begin with a digit
pub record IsLength (n : ℕ) (text : List ℕ) : Type 0 where
  pub within : n ≤ length text
  pub some : 1 ≤ n
  pub integer : first_is is_digit (take n text) ≡ true → (is_grouped is_digit (take n text) || is_based 0 (take n text)) ≡ true

no_digit : (n c : ℕ) (cs : List ℕ) → is_digit c ≡ false → first_is is_digit (take n (c ∷ cs)) ≡ true → (is_grouped is_digit (take n (c ∷ cs)) || is_based 0 (take n (c ∷ cs))) ≡ true
no_digit zero c cs h e = absurd cc
no_digit (suc n) c cs h e = absurd (let z : false ≡ true = sym h ∙ e in cc)

length_at : (n k c : ℕ) (cs : List ℕ) → is_digit c ≡ false → n ≡ suc k → k ≤ length cs → IsLength n (c ∷ cs)
length_at n k c cs d e l = record { within = omega arith; some = omega arith; integer = no_digit n c cs d }

bytes_within : (m : ℕ) (cs : List ℕ) → character_bytes cs ≡ Some m → m ≤ length cs
bytes_within m [] h = absurd cc
bytes_within m (c ∷ cs) h = by (eqb c 92) (first_is is_escape cs) (nat_le 128 c) refl h
  where
    two : (cs : List ℕ) → first_is is_escape cs ≡ true → 1 ≤ length cs
    two [] e = absurd cc
    two (d ∷ ds) e = omega arith

    by : (a e w : Bool) → first_is is_escape cs ≡ e → (if a then (if e then Some 2 else None) else if w then Some (suc (run is_continuation cs)) else Some 1) ≡ Some m → m ≤ suc (length cs)
    by true true w f g = omega (arith, two cs f, some_eq 2 m g)
    by true false w f g = absurd cc
    by false e true f g = omega (arith, run_le is_continuation cs, some_eq _ m g)
    by false e false f g = omega (arith, some_eq 1 m g)

mark_length_is : (n k c : ℕ) (cs : List ℕ) → IsOther c → k ≡ mark_length (c ∷ cs) → some_length k ≡ Some n → IsLength n (c ∷ cs)
mark_length_is n zero c cs o e h = absurd cc
mark_length_is n (suc k) c cs o e h =
    let same : n ≡ suc k = sym (some_eq (suc k) n h) in
    elim (mark_is (c ∷ cs)) [ inl z ↦ absurd (omega arith) | inr m ↦ length_at n k c cs o.no_digit same (omega arith) ]

length_kind : (n c : ℕ) (cs : List ℕ) → Kind c → length_by character_bytes (c ∷ cs) ≡ Some n → IsLength n (c ∷ cs)
length_kind n c cs (Lower l) h = length_at n (run is_name cs) c cs (lower_no_digit c l) (sym (some_eq _ n (sym (length_lower character_bytes c cs l) ∙ h))) (run_le is_name cs)
  where
    lower_no_digit : (c : ℕ) → is_lower c ≡ true → is_digit c ≡ false
    lower_no_digit c l = grind (arith, nat_tests)
length_kind n c cs (Upper l u) h = length_at n (run is_name cs) c cs (upper_no_digit c u) (sym (some_eq _ n (sym (length_upper character_bytes c cs l u) ∙ h))) (run_le is_name cs)
  where
    upper_no_digit : (c : ℕ) → is_upper c ≡ true → is_digit c ≡ false
    upper_no_digit c l = grind (arith, nat_tests)
length_kind n c cs (Digit l u d) h =
    let e : n ≡ integer_length (c ∷ cs) = sym (some_eq _ n (sym (length_digit character_bytes c cs l u d) ∙ h)) in
    let i = integer_is (c ∷ cs) d in
    rw e (record { within = i.within; some = integer_some c cs d; integer = λ f. i.is })
length_kind n c cs (Atom e) h =
    let k : length_by character_bytes (39 ∷ cs) ≡ Some n = rw e at h in
    let f = further_is 1 n (quoted_run 39 cs) (sym (length_atom character_bytes cs) ∙ k) in
    let m : n ≡ suc f.0 = omega (arith, f.2) in
    rw e (length_at n f.0 39 cs refl m (quoted_is 39 f.0 cs f.1).within)
length_kind n c cs (String e) h =
    let k : length_by character_bytes (34 ∷ cs) ≡ Some n = rw e at h in
    let f = further_is 1 n (quoted_run 34 cs) (sym (length_string character_bytes cs) ∙ k) in
    let m : n ≡ suc f.0 = omega (arith, f.2) in
    rw e (length_at n f.0 34 cs refl m (quoted_is 34 f.0 cs f.1).within)
length_kind n c cs (Character_mark e) h =
    let k : length_by character_bytes (36 ∷ cs) ≡ Some n = rw e at h in
    let f = further_is 1 n (character_bytes cs) (sym (length_character character_bytes cs) ∙ k) in
    let m : n ≡ suc f.0 = omega (arith, f.2) in
    rw e (length_at n f.0 36 cs refl m (bytes_within f.0 cs f.1))
length_kind n c cs (Other o) h = mark_length_is n (mark_length (c ∷ cs)) c cs o refl (sym (length_mark character_bytes c cs o) ∙ h)

pub length_is : (n : ℕ) (text : List ℕ) → length_by character_bytes text ≡ Some n → IsLength n text
length_is n [] h = absurd (let z : None ≡ Some n = sym (at_empty character_bytes [] refl) ∙ h in cc)
length_is n (c ∷ cs) h = length_kind n c cs (kind c) h
