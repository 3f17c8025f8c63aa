-- What stands at the front of a text is read from its UTF-8: lengths of tokens, places, forms outside of the profile and bad escapes.
use Rattle.std.proofs.Common.{◌≡◌, ℕ, zero, suc, ◌+◌, ◌-◌, ◌*◌, ◌<◌, ◌≤◌, Bool, true, false, List, [], ◌∷◌, ◌++◌, length, take, Option, Some, None, refl, ap, sym, subst, ◌∙◌, arith, inl, inr}
use Rattle.std.specs.Prelude.{◌⊎◌, ◌&&◌, ◌||◌, not, if◌then◌else◌, nat_le, codes}
use Rattle.std.specs.List.{list_any}
use Rattle.std.specs.Str.{bytes_eq}
use Rattle.std.proofs.Math.Dec.{eqb, leb}
use Rattle.std.proofs.lemmas.Bool.{eqb-true, cases_lt, cases_Bool, le-leb, or_cases, leb-true, false_from_ne_true}
use Rattle.std.proofs.lemmas.Bool.Decides.{nat_tests}
use Rattle.std.proofs.lemmas.Slice.Eq.{bytes_eq-Decides}
use Rattle.std.proofs.lemmas.List.{length-take}
use lib.Utf8.{encode, encodes}
use Rattle.erl_tree.specs.declared.token.Place.{Place}
use Rattle.erl_tree.specs.Lexis.{is_lower, is_upper, is_digit, is_digit_of, is_mark, marks, is_name, after, step}
use Rattle.erl_tree.specs.Profile.{further, bad_escape, bad_in_quotes, bad_in_character, is_float, begins, outside_form}
use Rattle.erl_tree.proofs.TokenTexts.{chosen, and_true}
use Rattle.erl_lexer.specs.Scan.{run, first_is, is_continuation, byte_step, bytes_after, grouped_run, based_run, or_else, integer_length, quoted_run, character_run, character_bytes, mark_length, some_length, length_by, form_by}
use Rattle.erl_lexer.proofs.Encoded.{wide, AreContinuations, IsAsciiTest, encodes_low, first_same, run_same, bytes_of, sized, AreAscii, encodes_ascii, ascii_by}
use Rattle.erl_lexer.proofs.IntegerTexts.{further_is, integer_is}
use Rattle.erl_lexer.proofs.Marks.{mark_is}
use Rattle.erl_lexer.proofs.Texts.{run_le, Kind, kind, IsOther, length_lower, length_upper, length_digit, length_atom, length_string, length_character, length_mark, bad_atom, bad_string, bad_character, bad_other}
use Rattle.erl_lexer.proofs.Texts.Kind.{Lower, Upper, Digit, Atom, String, Character_mark, Other}
use Rattle.erl_lexer.proofs.Walks.{digit_ascii, name_ascii, digit_of_ascii, is_not, bytes_of_low, sized_low, bad_same, quoted_same, character_same, bad_character_same}

-- ---- integers

pub grouped_same : (digit : ℕ → Bool) (cs : List ℕ) → IsAsciiTest digit → grouped_run digit (encodes cs) ≡ grouped_run digit cs
grouped_same digit [] t = refl
grouped_same digit (c ∷ cs) t = elim (cases_lt c 128) [
  | inl l ↦ ap (grouped_run digit) (encodes_low c cs l) ∙ rw (first_same digit cs t, grouped_same digit cs t) refl
  | inr h ↦
      let w = wide c h in
      let none : (b : ℕ) (bs : List ℕ) → 128 ≤ b → grouped_run digit (b ∷ bs) ≡ 0 = λ b bs k. rw (t b k, is_not 95 b (omega arith) k) refl in
      let first : grouped_run digit (encode c ++ encodes cs) ≡ 0 = rw w.is (none w.first (w.others ++ encodes cs) (omega (arith, w.above))) in
      first ∙ sym (none c cs h)
]

neither : (a : Bool) (x y : Option ℕ) → (if a && false then x else None) ≡ (if a && false then y else None)
neither true x y = refl
neither false x y = refl

based_hash : (base : ℕ) (cs : List ℕ) (b : Bool) → nat_le base 36 ≡ b → based_run base (35 ∷ encodes cs) ≡ based_run base (35 ∷ cs)
based_hash base cs true e =
    let t = digit_of_ascii base (leb-true base 36 e) in
    rw (first_same (is_digit_of base) cs t, grouped_same (is_digit_of base) cs t) refl
based_hash base cs false e = rw e (neither (nat_le 2 base) (Some (suc (grouped_run (is_digit_of base) (encodes cs)))) (Some (suc (grouped_run (is_digit_of base) cs))))

pub based_same : (base : ℕ) (cs : List ℕ) → based_run base (encodes cs) ≡ based_run base cs
based_same base [] = refl
based_same base (c ∷ cs) = elim (cases_lt c 128) [
  | inl l ↦ ap (based_run base) (encodes_low c cs l) ∙ elim (cases_Bool (eqb c 35)) [
    | inl e ↦ let k : c ≡ 35 = eqb-true c 35 e in rw k (based_hash base cs (nat_le base 36) refl)
    | inr e ↦ rw (e, based_same (base * 10 + (c - 48)) cs) refl
  ]
  | inr h ↦
      let w = wide c h in
      let none : (b : ℕ) (bs : List ℕ) → 128 ≤ b → based_run base (b ∷ bs) ≡ None = λ b bs k. rw (is_not 35 b (omega arith) k, digit_ascii b k) refl in
      let first : based_run base (encode c ++ encodes cs) ≡ None = rw w.is (none w.first (w.others ++ encodes cs) (omega (arith, w.above))) in
      first ∙ sym (none c cs h)
]

pub integer_same : (cs : List ℕ) → integer_length (encodes cs) ≡ integer_length cs
integer_same cs = rw (based_same 0 cs, grouped_same is_digit cs digit_ascii) refl

-- ---- texts of ASCII

grouped_low_by : (digit : ℕ → Bool) (c : ℕ) (cs : List ℕ) (b : Bool) → IsAsciiTest digit → (digit c || (eqb c 95 && first_is digit cs)) ≡ b → AreAscii (take (grouped_run digit cs) cs) → AreAscii (take (if b then suc (grouped_run digit cs) else 0) (c ∷ cs))
grouped_low_by digit c cs false t e h = tt
grouped_low_by digit c cs true t e h = elim (or_cases (digit c) (eqb c 95 && first_is digit cs) e) [
  | inl w ↦ (ascii_by digit c t w, h)
  | inr w ↦ let k : c ≡ 95 = eqb-true c 95 (and_true (eqb c 95) (first_is digit cs) w).0 in (omega arith, h)
]

pub grouped_low : (digit : ℕ → Bool) (cs : List ℕ) → IsAsciiTest digit → AreAscii (take (grouped_run digit cs) cs)
grouped_low digit [] t = tt
grouped_low digit (c ∷ cs) t = grouped_low_by digit c cs (digit c || (eqb c 95 && first_is digit cs)) t refl (grouped_low digit cs t)

some_suc : (k n : ℕ) → Some k ≡ Some n → n ≡ k
some_suc k n e = cc

pub based_low : (base n : ℕ) (text : List ℕ) → based_run base text ≡ Some n → AreAscii (take n text)
based_low base n [] h = absurd cc
based_low base n (c ∷ cs) h =
    elim (chosen (eqb c 35) (if nat_le 2 base && (nat_le base 36 && first_is (is_digit_of base) cs) then Some (suc (grouped_run (is_digit_of base) cs)) else None) (if is_digit c then further 1 (based_run (base * 10 + (c - 48)) cs) else None) (Some n) h) [
      | inl w ↦ elim (chosen (nat_le 2 base && (nat_le base 36 && first_is (is_digit_of base) cs)) (Some (suc (grouped_run (is_digit_of base) cs))) None (Some n) w.1) [
        | inl v ↦
            let e = some_suc _ n v.1 in
            let b = and_true (nat_le base 36) _ (and_true (nat_le 2 base) _ v.0).1 in
            let k : c ≡ 35 = eqb-true c 35 w.0 in
            rw e (omega arith, grouped_low (is_digit_of base) cs (digit_of_ascii base (leb-true base 36 b.0)))
        | inr v ↦ absurd (let z : None ≡ Some n = v.1 in cc)
      ]
      | inr w ↦ elim (chosen (is_digit c) (further 1 (based_run (base * 10 + (c - 48)) cs)) None (Some n) w.1) [
        | inl v ↦
            let f = further_is 1 n (based_run (base * 10 + (c - 48)) cs) v.1 in
            let e : n ≡ suc f.0 = omega (arith, f.2) in
            rw e (ascii_by is_digit c digit_ascii v.0, based_low (base * 10 + (c - 48)) f.0 cs f.1)
        | inr v ↦ absurd (let z : None ≡ Some n = v.1 in cc)
      ]
    ]

integer_low_by : (text : List ℕ) (o : Option ℕ) → based_run 0 text ≡ o → AreAscii (take (or_else o (grouped_run is_digit text)) text)
integer_low_by text None e = grouped_low is_digit text digit_ascii
integer_low_by text (Some n) e = based_low 0 n text e

pub integer_low : (text : List ℕ) → AreAscii (take (integer_length text) text)
integer_low text = integer_low_by text (based_run 0 text) refl

are_low : List ℕ → Bool
are_low [] = true
are_low (c ∷ cs) = not (nat_le 128 c) && are_low cs

all_low : List (List ℕ) → Bool
all_low [] = true
all_low (m ∷ ms) = are_low m && all_low ms

low_is : (cs : List ℕ) → are_low cs ≡ true → AreAscii cs
unfolding are_low
low_is [] h = tt
low_is (c ∷ cs) h = let a = and_true (not (nat_le 128 c)) (are_low cs) h in (one c a.0, low_is cs a.1)
  where
    one : (c : ℕ) → not (nat_le 128 c) ≡ true → c < 128
    one c e = grind (arith, nat_tests)

low_by : (text : List ℕ) (ms : List (List ℕ)) → all_low ms ≡ true → list_any (λ m. bytes_eq text m) ms ≡ true → AreAscii text
unfolding all_low
low_by text [] h g = absurd cc
low_by text (m ∷ ms) h g =
    let w = and_true (are_low m) (all_low ms) h in
    elim (or_cases (bytes_eq text m) _ g) [
      | inl e ↦ subst AreAscii (sym ((bytes_eq-Decides text m).0 e)) (low_is m w.0)
      | inr e ↦ low_by text ms w.1 e
    ]

-- marks are of ASCII
pub mark_low : (text : List ℕ) → is_mark text ≡ true → AreAscii text
unfolding are_low all_low
mark_low text h = low_by text marks refl h

run_low_by : (p : ℕ → Bool) (c : ℕ) (cs : List ℕ) (b : Bool) → IsAsciiTest p → p c ≡ b → AreAscii (take (run p cs) cs) → AreAscii (take (if b then suc (run p cs) else 0) (c ∷ cs))
run_low_by p c cs true t e h = (ascii_by p c t e, h)
run_low_by p c cs false t e h = tt

pub run_low : (p : ℕ → Bool) (cs : List ℕ) → IsAsciiTest p → AreAscii (take (run p cs) cs)
run_low p [] t = tt
run_low p (c ∷ cs) t = run_low_by p c cs (p c) t refl (run_low p cs t)

-- so many characters of ASCII are as many bytes
pub bytes_of_ascii : (n : ℕ) (cs : List ℕ) → AreAscii (take n cs) → n ≤ length cs → bytes_of n cs ≡ n
bytes_of_ascii n cs h l = ap (λ (x : List ℕ). length x) (encodes_ascii (take n cs) h) ∙ omega (arith, length-take n cs)

-- ---- marks

abbrev HasHigh : List ℕ → Type 0
HasHigh [] = ⊥
HasHigh (c ∷ cs) = (128 ≤ c) ⊎ HasHigh cs

not_both : (cs : List ℕ) → HasHigh cs → AreAscii cs → ⊥
not_both [] h a = h
not_both (c ∷ cs) h a = elim h [ inl l ↦ absurd (omega (arith, a.0)) | inr r ↦ not_both cs r a.1 ]

high_no_mark : (text : List ℕ) → HasHigh text → is_mark text ≡ false
high_no_mark text h = false_from_ne_true (is_mark text) (λ e. not_both text h (mark_low text e))

fronts : (k : ℕ) (cs : List ℕ) → (take k (encodes cs) ≡ take k cs) ⊎ (HasHigh (take k (encodes cs)) × HasHigh (take k cs))
fronts zero cs = inl refl
fronts (suc k) [] = inl refl
fronts (suc k) (c ∷ cs) = elim (cases_lt c 128) [
  | inl l ↦
      let e : take (suc k) (encodes (c ∷ cs)) ≡ c ∷ take k (encodes cs) = ap (take (suc k)) (encodes_low c cs l) in
      elim (fronts k cs) [ inl f ↦ inl (e ∙ ap (λ (x : List ℕ). c ∷ x) f) | inr f ↦ inr (subst HasHigh (sym e) (inr f.0), inr f.1) ]
  | inr h ↦
      let w = wide c h in
      let e : take (suc k) (encodes (c ∷ cs)) ≡ w.first ∷ take k (w.others ++ encodes cs) = ap (λ (x : List ℕ). take (suc k) (x ++ encodes cs)) w.is in
      inr (subst HasHigh (sym e) (inl (omega (arith, w.above))), inl h)
]

mark_step : (a b : List ℕ) (x y : ℕ) → (a ≡ b) ⊎ (HasHigh a × HasHigh b) → x ≡ y → (if is_mark a then length a else x) ≡ (if is_mark b then length b else y)
mark_step a b x y (inl e) h = rw (e, h) refl
mark_step a b x y (inr e) h = rw (high_no_mark a e.0, high_no_mark b e.1) h

pub mark_same : (cs : List ℕ) → mark_length (encodes cs) ≡ mark_length cs
mark_same cs = mark_step _ _ _ _ (fronts 3 cs) (mark_step _ _ _ _ (fronts 2 cs) (mark_step _ _ 0 0 (fronts 1 cs) refl))

-- ---- the length of a token

pub high_other : (c : ℕ) → 128 ≤ c → IsOther c
high_other c h = record { no_lower = grind (arith, nat_tests); no_upper = grind (arith, nat_tests); no_digit = digit_ascii c h; no_atom = is_not 39 c (omega arith) h; no_string = is_not 34 c (omega arith) h; no_character = is_not 36 c (omega arith) h }

sized_mark : (cs : List ℕ) (k : ℕ) → k ≡ mark_length cs → some_length k ≡ sized (some_length k) cs
sized_mark cs zero e = refl
sized_mark cs (suc k) e =
    elim (mark_is cs) [
      | inl z ↦ absurd (omega arith)
      | inr m ↦
          let a : AreAscii (take (suc k) cs) = subst (λ (n : ℕ). AreAscii (take n cs)) (sym e) (mark_low _ m.0) in
          ap (λ (x : ℕ). Some x) (sym (bytes_of_ascii (suc k) cs a (omega arith)))
    ]

length_run : (c : ℕ) (cs : List ℕ) → c < 128 → Some (suc (run is_name (encodes cs))) ≡ sized (Some (suc (run is_name cs))) (c ∷ cs)
length_run c cs l =
    let e : bytes_of (run is_name cs) cs ≡ run is_name cs = bytes_of_ascii (run is_name cs) cs (run_low is_name cs name_ascii) (run_le is_name cs) in
    ap (λ (x : ℕ). Some (suc x)) (run_same is_name cs name_ascii ∙ sym e) ∙ ap (λ (x : ℕ). Some x) (sym (bytes_of_low c (run is_name cs) cs l))

length_low : (c : ℕ) (cs : List ℕ) → c < 128 → Kind c → length_by character_bytes (c ∷ encodes cs) ≡ sized (length_by character_run (c ∷ cs)) (c ∷ cs)
length_low c cs l (Lower k) = length_lower _ c _ k ∙ (length_run c cs l ∙ ap (λ (o : Option ℕ). sized o (c ∷ cs)) (sym (length_lower character_run c cs k)))
length_low c cs l (Upper k u) = length_upper _ c _ k u ∙ (length_run c cs l ∙ ap (λ (o : Option ℕ). sized o (c ∷ cs)) (sym (length_upper character_run c cs k u)))
length_low c cs l (Digit k u d) =
    let same : integer_length (c ∷ encodes cs) ≡ integer_length (c ∷ cs) = ap integer_length (sym (encodes_low c cs l)) ∙ integer_same (c ∷ cs) in
    let size : bytes_of (integer_length (c ∷ cs)) (c ∷ cs) ≡ integer_length (c ∷ cs) = bytes_of_ascii _ (c ∷ cs) (integer_low (c ∷ cs)) (integer_is (c ∷ cs) d).within in
    length_digit _ c _ k u d ∙ (ap (λ (x : ℕ). Some x) (same ∙ sym size) ∙ ap (λ (o : Option ℕ). sized o (c ∷ cs)) (sym (length_digit character_run c cs k u d)))
length_low c cs l (Atom e) =
    rw e (length_atom _ _ ∙ (ap (further 1) (quoted_same 39 cs (omega arith)) ∙ (sym (sized_low 39 cs (quoted_run 39 cs) (omega arith)) ∙ ap (λ (o : Option ℕ). sized o (39 ∷ cs)) (sym (length_atom character_run cs)))))
length_low c cs l (String e) =
    rw e (length_string _ _ ∙ (ap (further 1) (quoted_same 34 cs (omega arith)) ∙ (sym (sized_low 34 cs (quoted_run 34 cs) (omega arith)) ∙ ap (λ (o : Option ℕ). sized o (34 ∷ cs)) (sym (length_string character_run cs)))))
length_low c cs l (Character_mark e) =
    rw e (length_character _ _ ∙ (ap (further 1) (character_same cs) ∙ (sym (sized_low 36 cs (character_run cs) (omega arith)) ∙ ap (λ (o : Option ℕ). sized o (36 ∷ cs)) (sym (length_character character_run cs)))))
length_low c cs l (Other o) =
    let same : mark_length (c ∷ encodes cs) ≡ mark_length (c ∷ cs) = ap mark_length (sym (encodes_low c cs l)) ∙ mark_same (c ∷ cs) in
    length_mark _ c _ o ∙ (ap some_length same ∙ (sized_mark (c ∷ cs) (mark_length (c ∷ cs)) refl ∙ ap (λ (o : Option ℕ). sized o (c ∷ cs)) (sym (length_mark character_run c cs o))))

length_none : (ch : List ℕ → Option ℕ) → length_by ch [] ≡ None
unfolding length_by
length_none ch = refl

pub length_same : (cs : List ℕ) → length_by character_bytes (encodes cs) ≡ sized (length_by character_run cs) cs
length_same [] = length_none _ ∙ ap (λ (o : Option ℕ). sized o []) (sym (length_none character_run))
length_same (c ∷ cs) = elim (cases_lt c 128) [
  | inl l ↦ ap (length_by character_bytes) (encodes_low c cs l) ∙ length_low c cs l (kind c)
  | inr h ↦
      let w = wide c h in
      let first : length_by character_bytes (encodes (c ∷ cs)) ≡ some_length (mark_length (encodes (c ∷ cs))) = rw w.is (length_mark _ w.first (w.others ++ encodes cs) (high_other w.first (omega (arith, w.above)))) in
      first ∙ (ap some_length (mark_same (c ∷ cs)) ∙ (sized_mark (c ∷ cs) (mark_length (c ∷ cs)) refl ∙ ap (λ (o : Option ℕ). sized o (c ∷ cs)) (sym (length_mark character_run c cs (high_other c h)))))
]

-- ---- bad escapes

bad_low : (c : ℕ) (cs : List ℕ) → c < 128 → Kind c → bad_escape (c ∷ encodes cs) ≡ sized (bad_escape (c ∷ cs)) (c ∷ cs)
bad_low c cs l (Atom e) = rw e (bad_atom _ ∙ (ap (further 1) (bad_same 39 cs (omega arith)) ∙ (sym (sized_low 39 cs (bad_in_quotes 39 cs) (omega arith)) ∙ ap (λ (o : Option ℕ). sized o (39 ∷ cs)) (sym (bad_atom cs)))))
bad_low c cs l (String e) = rw e (bad_string _ ∙ (ap (further 1) (bad_same 34 cs (omega arith)) ∙ (sym (sized_low 34 cs (bad_in_quotes 34 cs) (omega arith)) ∙ ap (λ (o : Option ℕ). sized o (34 ∷ cs)) (sym (bad_string cs)))))
bad_low c cs l (Character_mark e) = rw e (bad_character _ ∙ (ap (further 1) (bad_character_same cs) ∙ (sym (sized_low 36 cs (bad_in_character cs) (omega arith)) ∙ ap (λ (o : Option ℕ). sized o (36 ∷ cs)) (sym (bad_character cs)))))
bad_low c cs l (Other o) = bad_other c _ o.no_atom o.no_string o.no_character ∙ ap (λ (o : Option ℕ). sized o (c ∷ cs)) (sym (bad_other c cs o.no_atom o.no_string o.no_character))
bad_low c cs l (Lower k) = none_at c cs (lower_39 c k) (lower_34 c k) (lower_36 c k)
  where
    lower_39 : (c : ℕ) → is_lower c ≡ true → eqb c 39 ≡ false
    lower_39 c k = grind (arith, nat_tests)

    lower_34 : (c : ℕ) → is_lower c ≡ true → eqb c 34 ≡ false
    lower_34 c k = grind (arith, nat_tests)

    lower_36 : (c : ℕ) → is_lower c ≡ true → eqb c 36 ≡ false
    lower_36 c k = grind (arith, nat_tests)

    none_at : (c : ℕ) (cs : List ℕ) → eqb c 39 ≡ false → eqb c 34 ≡ false → eqb c 36 ≡ false → bad_escape (c ∷ encodes cs) ≡ sized (bad_escape (c ∷ cs)) (c ∷ cs)
    none_at c cs a s m = bad_other c _ a s m ∙ ap (λ (o : Option ℕ). sized o (c ∷ cs)) (sym (bad_other c cs a s m))
bad_low c cs l (Upper k u) = none_at c cs (upper_39 c u) (upper_34 c u) (upper_36 c u)
  where
    upper_39 : (c : ℕ) → is_upper c ≡ true → eqb c 39 ≡ false
    upper_39 c k = grind (arith, nat_tests)

    upper_34 : (c : ℕ) → is_upper c ≡ true → eqb c 34 ≡ false
    upper_34 c k = grind (arith, nat_tests)

    upper_36 : (c : ℕ) → is_upper c ≡ true → eqb c 36 ≡ false
    upper_36 c k = grind (arith, nat_tests)

    none_at : (c : ℕ) (cs : List ℕ) → eqb c 39 ≡ false → eqb c 34 ≡ false → eqb c 36 ≡ false → bad_escape (c ∷ encodes cs) ≡ sized (bad_escape (c ∷ cs)) (c ∷ cs)
    none_at c cs a s m = bad_other c _ a s m ∙ ap (λ (o : Option ℕ). sized o (c ∷ cs)) (sym (bad_other c cs a s m))
bad_low c cs l (Digit k u d) = none_at c cs (digit_39 c d) (digit_34 c d) (digit_36 c d)
  where
    digit_39 : (c : ℕ) → is_digit c ≡ true → eqb c 39 ≡ false
    digit_39 c k = grind (arith, nat_tests)

    digit_34 : (c : ℕ) → is_digit c ≡ true → eqb c 34 ≡ false
    digit_34 c k = grind (arith, nat_tests)

    digit_36 : (c : ℕ) → is_digit c ≡ true → eqb c 36 ≡ false
    digit_36 c k = grind (arith, nat_tests)

    none_at : (c : ℕ) (cs : List ℕ) → eqb c 39 ≡ false → eqb c 34 ≡ false → eqb c 36 ≡ false → bad_escape (c ∷ encodes cs) ≡ sized (bad_escape (c ∷ cs)) (c ∷ cs)
    none_at c cs a s m = bad_other c _ a s m ∙ ap (λ (o : Option ℕ). sized o (c ∷ cs)) (sym (bad_other c cs a s m))

pub bad_none : bad_escape [] ≡ None
unfolding bad_escape
bad_none = refl

pub bad_escape_same : (cs : List ℕ) → bad_escape (encodes cs) ≡ sized (bad_escape cs) cs
bad_escape_same [] = bad_none ∙ ap (λ (o : Option ℕ). sized o []) (sym bad_none)
bad_escape_same (c ∷ cs) = elim (cases_lt c 128) [
  | inl l ↦ ap bad_escape (encodes_low c cs l) ∙ bad_low c cs l (kind c)
  | inr h ↦
      let w = wide c h in
      let o = high_other w.first (omega (arith, w.above)) in
      let first : bad_escape (encodes (c ∷ cs)) ≡ None = rw w.is (bad_other w.first (w.others ++ encodes cs) o.no_atom o.no_string o.no_character) in
      let k = high_other c h in
      first ∙ ap (λ (o : Option ℕ). sized o (c ∷ cs)) (sym (bad_other c cs k.no_atom k.no_string k.no_character))
]

-- ---- forms outside of the profile

float_by : (a b e digit first rest more : Bool) → first ≡ false → rest ≡ false → more ≡ false → false ≡ (if a then rest else if b then (digit && first && more) else (e && digit && first))
float_by true b e digit first rest more f r m = sym r
float_by false true e true first rest more f r m = rw f refl
float_by false true e false first rest more f r m = refl
float_by false false true true first rest more f r m = sym f
float_by false false true false first rest more f r m = refl
float_by false false false digit first rest more f r m = refl

-- one step of the test
pub float_step : (digit : Bool) (c : ℕ) (cs : List ℕ) → is_float digit (c ∷ cs) ≡ (if is_digit c then is_float true cs else if eqb c 95 then (digit && first_is is_digit cs && is_float false cs) else ((eqb c 46) && digit && first_is is_digit cs))
float_step digit c [] = float_by (is_digit c) (eqb c 95) (eqb c 46) digit false false false refl refl refl
float_step digit c (d ∷ ds) = refl

float_high : (digit : Bool) (c : ℕ) (cs : List ℕ) → 128 ≤ c → is_float digit (c ∷ cs) ≡ false
float_high digit c cs h = float_step digit c cs ∙ rw (digit_ascii c h, is_not 95 c (omega arith) h, is_not 46 c (omega arith) h) refl

pub float_same : (digit : Bool) (cs : List ℕ) → is_float digit (encodes cs) ≡ is_float digit cs
float_same digit [] = refl
float_same digit (c ∷ cs) = elim (cases_lt c 128) [
  | inl l ↦ ap (is_float digit) (encodes_low c cs l) ∙ (float_step digit c (encodes cs) ∙ (rw (first_same is_digit cs digit_ascii, float_same true cs, float_same false cs) refl ∙ sym (float_step digit c cs)))
  | inr h ↦
      let w = wide c h in
      let first : is_float digit (encode c ++ encodes cs) ≡ false = rw w.is (float_high digit w.first (w.others ++ encodes cs) (omega (arith, w.above))) in
      first ∙ sym (float_high digit c cs h)
]

begins_high : (a b : ℕ) (xs bs : List ℕ) → a < 128 → 128 ≤ b → begins (a ∷ xs) (b ∷ bs) ≡ false
begins_high a b xs bs l h = let e : eqb a b ≡ false = grind (arith, nat_tests) in rw e refl

pub begins_same : (front cs : List ℕ) → AreAscii front → begins front (encodes cs) ≡ begins front cs
begins_same [] cs a = refl
begins_same (x ∷ xs) [] a = refl
begins_same (x ∷ xs) (c ∷ cs) a = elim (cases_lt c 128) [
  | inl l ↦ ap (begins (x ∷ xs)) (encodes_low c cs l) ∙ ap (λ (b : Bool). eqb x c && b) (begins_same xs cs a.1)
  | inr h ↦
      let w = wide c h in
      let first : begins (x ∷ xs) (encode c ++ encodes cs) ≡ false = rw w.is (begins_high x w.first xs (w.others ++ encodes cs) a.0 (omega (arith, w.above))) in
      first ∙ sym (begins_high x c xs cs a.0 h)
]

pub form_is : (c : ℕ) (cs : List ℕ) → outside_form (c ∷ cs) ≡ form_by (is_float false (c ∷ cs)) (eqb c 63) (begins (codes "<<") (c ∷ cs)) (eqb c 33) (begins (codes "--") (c ∷ cs)) (begins (codes "\"\"\"") (c ∷ cs)) (eqb c 126) (leb 128 c) (begins (codes "<:-") (c ∷ cs)) (begins (codes "<:=") (c ∷ cs))
unfolding outside_form
form_is c cs = refl

form_high : (c : ℕ) (cs : List ℕ) → 128 ≤ c → outside_form (c ∷ cs) ≡ Some (codes "non-ASCII name")
form_high c cs h =
    form_is c cs ∙ rw (float_high false c cs h, is_not 63 c (omega arith) h, begins_high 60 c (codes "<") cs (omega arith) h, is_not 33 c (omega arith) h, begins_high 45 c (codes "-") cs (omega arith) h, begins_high 34 c (codes "\"\"") cs (omega arith) h, is_not 126 c (omega arith) h, le-leb 128 c h) refl

pub form_none : outside_form [] ≡ None
unfolding outside_form
form_none = refl

low_front : (text : List ℕ) → are_low text ≡ true → AreAscii text
low_front text h = low_is text h

form_low : (c : ℕ) (cs ds : List ℕ) → is_float false (c ∷ cs) ≡ is_float false (c ∷ ds) → begins (codes "<<") (c ∷ cs) ≡ begins (codes "<<") (c ∷ ds) → begins (codes "--") (c ∷ cs) ≡ begins (codes "--") (c ∷ ds)
    → begins (codes "\"\"\"") (c ∷ cs) ≡ begins (codes "\"\"\"") (c ∷ ds) → begins (codes "<:-") (c ∷ cs) ≡ begins (codes "<:-") (c ∷ ds) → begins (codes "<:=") (c ∷ cs) ≡ begins (codes "<:=") (c ∷ ds) → outside_form (c ∷ cs) ≡ outside_form (c ∷ ds)
form_low c cs ds f b d t s l =
    let w : Bool = leb 128 c in
    form_is c cs ∙ (ap (λ (x : Bool). form_by x (eqb c 63) (begins (codes "<<") (c ∷ cs)) (eqb c 33) (begins (codes "--") (c ∷ cs)) (begins (codes "\"\"\"") (c ∷ cs)) (eqb c 126) w (begins (codes "<:-") (c ∷ cs)) (begins (codes "<:=") (c ∷ cs))) f
    ∙ (ap (λ (x : Bool). form_by (is_float false (c ∷ ds)) (eqb c 63) x (eqb c 33) (begins (codes "--") (c ∷ cs)) (begins (codes "\"\"\"") (c ∷ cs)) (eqb c 126) w (begins (codes "<:-") (c ∷ cs)) (begins (codes "<:=") (c ∷ cs))) b
    ∙ (ap (λ (x : Bool). form_by (is_float false (c ∷ ds)) (eqb c 63) (begins (codes "<<") (c ∷ ds)) (eqb c 33) x (begins (codes "\"\"\"") (c ∷ cs)) (eqb c 126) w (begins (codes "<:-") (c ∷ cs)) (begins (codes "<:=") (c ∷ cs))) d
    ∙ (ap (λ (x : Bool). form_by (is_float false (c ∷ ds)) (eqb c 63) (begins (codes "<<") (c ∷ ds)) (eqb c 33) (begins (codes "--") (c ∷ ds)) x (eqb c 126) w (begins (codes "<:-") (c ∷ cs)) (begins (codes "<:=") (c ∷ cs))) t
    ∙ (ap (λ (x : Bool). form_by (is_float false (c ∷ ds)) (eqb c 63) (begins (codes "<<") (c ∷ ds)) (eqb c 33) (begins (codes "--") (c ∷ ds)) (begins (codes "\"\"\"") (c ∷ ds)) (eqb c 126) w x (begins (codes "<:=") (c ∷ cs))) s
    ∙ (ap (λ (x : Bool). form_by (is_float false (c ∷ ds)) (eqb c 63) (begins (codes "<<") (c ∷ ds)) (eqb c 33) (begins (codes "--") (c ∷ ds)) (begins (codes "\"\"\"") (c ∷ ds)) (eqb c 126) w (begins (codes "<:-") (c ∷ ds)) x) l ∙ sym (form_is c ds)))))))

pub form_same : (cs : List ℕ) → outside_form (encodes cs) ≡ outside_form cs
unfolding are_low
form_same [] = refl
form_same (c ∷ cs) = elim (cases_lt c 128) [
  | inl l ↦
      let e : encodes (c ∷ cs) ≡ c ∷ encodes cs = encodes_low c cs l in
      ap outside_form e ∙ form_low c (encodes cs) cs (ap (is_float false) (sym e) ∙ float_same false (c ∷ cs)) (ap (begins (codes "<<")) (sym e) ∙ begins_same (codes "<<") (c ∷ cs) (low_front (codes "<<") refl))
      (ap (begins (codes "--")) (sym e) ∙ begins_same (codes "--") (c ∷ cs) (low_front (codes "--") refl)) (ap (begins (codes "\"\"\"")) (sym e) ∙ begins_same (codes "\"\"\"") (c ∷ cs) (low_front (codes "\"\"\"") refl))
      (ap (begins (codes "<:-")) (sym e) ∙ begins_same (codes "<:-") (c ∷ cs) (low_front (codes "<:-") refl)) (ap (begins (codes "<:=")) (sym e) ∙ begins_same (codes "<:=") (c ∷ cs) (low_front (codes "<:=") refl))
  | inr h ↦
      let w = wide c h in
      let first : outside_form (encode c ++ encodes cs) ≡ Some (codes "non-ASCII name") = rw w.is (form_high w.first (w.others ++ encodes cs) (omega (arith, w.above))) in
      first ∙ sym (form_high c cs h)
]

-- ---- places

continued_stay : (p : Place) (os bs : List ℕ) → AreContinuations os → bytes_after p (os ++ bs) ≡ bytes_after p bs
continued_stay p [] bs h = refl
continued_stay p (b ∷ os) bs h =
    ap (λ (q : Place). bytes_after q (os ++ bs)) (stays p b h.0 h.1) ∙ continued_stay p os bs h.2
  where
    stays : (p : Place) (b : ℕ) → 128 ≤ b → b < 192 → byte_step p b ≡ p
    stays p b l m = let k : is_continuation b ≡ true = one b l m in rw (is_not 10 b (omega arith) l, k) refl
      where
        one : (b : ℕ) → 128 ≤ b → b < 192 → is_continuation b ≡ true
        one b l m = grind (arith, nat_tests)

step_low : (p : Place) (c : ℕ) → is_continuation c ≡ false → byte_step p c ≡ step p c
step_low p c e = rw e refl

step_high : (p : Place) (b c : ℕ) → 192 ≤ b → 128 ≤ c → byte_step p b ≡ step p c
step_high p b c l h = let k : is_continuation b ≡ false = one b l in rw (k, is_not 10 b (omega arith) (omega arith), is_not 10 c (omega arith) h) refl
  where
    one : (b : ℕ) → 192 ≤ b → is_continuation b ≡ false
    one b l = grind (arith, nat_tests)

pub after_same : (p : Place) (cs : List ℕ) → bytes_after p (encodes cs) ≡ after p cs
after_same p [] = refl
after_same p (c ∷ cs) = elim (cases_lt c 128) [
  | inl l ↦
      let k : is_continuation c ≡ false = one c l in
      ap (bytes_after p) (encodes_low c cs l) ∙ (ap (λ (q : Place). bytes_after q (encodes cs)) (step_low p c k) ∙ after_same (step p c) cs)
  | inr h ↦
      let w = wide c h in
      let first : bytes_after p (encode c ++ encodes cs) ≡ bytes_after (byte_step p w.first) (encodes cs) = rw w.is (continued_stay (byte_step p w.first) w.others (encodes cs) w.continued) in
      first ∙ (ap (λ (q : Place). bytes_after q (encodes cs)) (step_high p w.first c w.above h) ∙ after_same (step p c) cs)
]
  where
    one : (c : ℕ) → c < 128 → is_continuation c ≡ false
    one c l = grind (arith, nat_tests)
