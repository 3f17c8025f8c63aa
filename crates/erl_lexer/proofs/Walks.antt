-- Lengths in a text and in its UTF-8: gaps, integers, quoted texts, characters and marks.
use Rattle.std.proofs.Common.{◌≡◌, ℕ, zero, suc, ◌+◌, ◌<◌, ◌≤◌, Bool, true, false, List, [], ◌∷◌, ◌++◌, length, take, Option, Some, None, refl, ap, sym, ◌∙◌, arith, inl, inr}
use Rattle.std.specs.Prelude.{◌&&◌, not, if◌then◌else◌, codes}
use Rattle.std.specs.List.{list_any}
use Rattle.std.proofs.Math.Dec.{eqb, leb}
use Rattle.std.proofs.lemmas.Bool.{cases_lt, cases_Bool, le-leb, lt-leb, or_parts}
use Rattle.std.proofs.lemmas.Bool.Decides.{nat_tests}
use Rattle.std.proofs.lemmas.List.{length-append}
use Rattle.std.proofs.lemmas.Str.{encode_ascii}
use lib.Utf8.{encode, encodes}
use Rattle.erl_tree.specs.Lexis.{is_white, is_digit, is_digit_of, is_escape, is_name}
use Rattle.erl_tree.specs.Profile.{further, bad_in_quotes, bad_in_character}
use Rattle.erl_lexer.specs.Scan.{run, gap_run, first_is, is_continuation, quoted_walk, quoted_run, character_run, character_bytes}
use Rattle.erl_lexer.proofs.Encoded.{wide, high, AreHigh, AreContinuations, IsAsciiTest, encodes_low, first_same, bytes_of, sized, ascii_by}

-- ---- tests that no byte of 128 and more passes

not_among : (c : ℕ) (ds : List ℕ) → 128 ≤ c → list_any (λ d. leb 128 d) ds ≡ false → list_any (λ d. eqb c d) ds ≡ false
not_among c [] h l = refl
not_among c (d ∷ ds) h l =
    let w = or_parts (leb 128 d) (list_any (λ d. leb 128 d) ds) l in
    let k : eqb c d ≡ false = apart c d h w.0 in
    rw k (not_among c ds h w.1)
  where
    apart : (c d : ℕ) → 128 ≤ c → leb 128 d ≡ false → eqb c d ≡ false
    apart c d h l = grind (arith, nat_tests)

pub escape_ascii : IsAsciiTest is_escape
escape_ascii c h = not_among c (codes "nrtsbdefv\\'\"") h refl

-- an answer at a place at once
abbrev at_0 : Option ℕ
at_0 = Some 0

abbrev nowhere : Option ℕ
nowhere = None

pub digit_ascii : IsAsciiTest is_digit
digit_ascii c h = grind (arith, nat_tests)

pub name_ascii : IsAsciiTest is_name
name_ascii c h = grind (arith, nat_tests)

pub white_ascii : IsAsciiTest is_white
white_ascii c h = grind (arith, nat_tests)

pub digit_of_ascii : (base : ℕ) → base ≤ 36 → IsAsciiTest (is_digit_of base)
digit_of_ascii base l c h = grind (arith, nat_tests)

pub is_not : (k c : ℕ) → k < 128 → 128 ≤ c → eqb c k ≡ false
is_not k c l h = grind (arith, nat_tests)

-- ---- gaps

pub bytes_of_low : (c m : ℕ) (cs : List ℕ) → c < 128 → bytes_of (suc m) (c ∷ cs) ≡ suc (bytes_of m cs)
bytes_of_low c m cs l = ap (λ (x : List ℕ). length x) (encodes_low c (take m cs) l)

pub bytes_of_more : (c m : ℕ) (cs : List ℕ) → bytes_of (suc m) (c ∷ cs) ≡ length (encode c) + bytes_of m cs
bytes_of_more c m cs = length-append (encode c) (encodes (take m cs))

high_gap : (hs bs : List ℕ) → AreHigh hs → gap_run true (hs ++ bs) ≡ length hs + gap_run true bs
high_gap [] bs h = omega arith
high_gap (b ∷ hs) bs h = rw (is_not 10 b (omega arith) h.0) (omega (arith, high_gap hs bs h.1))

white_low : (c : ℕ) → is_white c ≡ true → c < 128
white_low c h = ascii_by is_white c white_ascii h

gap_low_false : (c : ℕ) (cs : List ℕ) (w k : Bool) → is_white c ≡ w → eqb c 37 ≡ k → c < 128 → gap_run false (encodes cs) ≡ bytes_of (gap_run false cs) cs → gap_run true (encodes cs) ≡ bytes_of (gap_run true cs) cs
    → gap_run false (c ∷ encodes cs) ≡ bytes_of (gap_run false (c ∷ cs)) (c ∷ cs)
gap_low_false c cs true k e f l g h = rw e (ap (λ (x : ℕ). suc x) g ∙ sym (bytes_of_low c (gap_run false cs) cs l))
gap_low_false c cs false true e f l g h = rw (e, f) (ap (λ (x : ℕ). suc x) h ∙ sym (bytes_of_low c (gap_run true cs) cs l))
gap_low_false c cs false false e f l g h = rw (e, f) refl

gap_low_true : (c : ℕ) (cs : List ℕ) (k : Bool) → eqb c 10 ≡ k → c < 128 → gap_run false (encodes cs) ≡ bytes_of (gap_run false cs) cs → gap_run true (encodes cs) ≡ bytes_of (gap_run true cs) cs
    → gap_run true (c ∷ encodes cs) ≡ bytes_of (gap_run true (c ∷ cs)) (c ∷ cs)
gap_low_true c cs true f l g h = rw f (ap (λ (x : ℕ). suc x) g ∙ sym (bytes_of_low c (gap_run false cs) cs l))
gap_low_true c cs false f l g h = rw f (ap (λ (x : ℕ). suc x) h ∙ sym (bytes_of_low c (gap_run true cs) cs l))

stop_gap : (b : ℕ) (bs : List ℕ) → 128 ≤ b → gap_run false (b ∷ bs) ≡ 0
stop_gap b bs h = rw (white_ascii b h, is_not 37 b (omega arith) h) refl

pub gap_bytes : (cs : List ℕ) → (gap_run false (encodes cs) ≡ bytes_of (gap_run false cs) cs) × (gap_run true (encodes cs) ≡ bytes_of (gap_run true cs) cs)
gap_bytes [] = (refl, refl)
gap_bytes (c ∷ cs) =
    let r = gap_bytes cs in
    elim (cases_lt c 128) [
      | inl l ↦ (
        ap (gap_run false) (encodes_low c cs l) ∙ gap_low_false c cs (is_white c) (eqb c 37) refl refl l r.0 r.1,
        ap (gap_run true) (encodes_low c cs l) ∙ gap_low_true c cs (eqb c 10) refl l r.0 r.1,
      )
      | inr h ↦
          let w = wide c h in
          let none : gap_run false (encode c ++ encodes cs) ≡ 0 = rw w.is (stop_gap w.first (w.others ++ encodes cs) (omega (arith, w.above))) in
          let whole : gap_run true (c ∷ cs) ≡ suc (gap_run true cs) = rw (is_not 10 c (omega arith) h) refl in (
            none ∙ ap (λ (n : ℕ). bytes_of n (c ∷ cs)) (sym (stop_gap c cs h)),
            high_gap (encode c) (encodes cs) (high c h) ∙ (ap (λ (n : ℕ). length (encode c) + n) r.1 ∙ (sym (bytes_of_more c (gap_run true cs) cs) ∙ ap (λ (n : ℕ). bytes_of n (c ∷ cs)) (sym whole))),
          )
    ]

-- ---- a number of characters behind others

pub further_further : (n m : ℕ) (o : Option ℕ) → further n (further m o) ≡ further (n + m) o
further_further n m None = refl
further_further n m (Some k) = let e : n + (m + k) ≡ (n + m) + k = omega arith in ap (λ (x : ℕ). Some x) e

pub sized_further : (c : ℕ) (cs : List ℕ) (o : Option ℕ) → sized (further 1 o) (c ∷ cs) ≡ further (length (encode c)) (sized o cs)
sized_further c cs None = refl
sized_further c cs (Some m) = let e : 1 + m ≡ suc m = omega arith in rw e (ap (λ (x : ℕ). Some x) (bytes_of_more c m cs))

pub length_low : (c : ℕ) → c < 128 → length (encode c) ≡ 1
length_low c l = ap (λ (x : List ℕ). length x) (encode_ascii c l)

pub sized_low : (c : ℕ) (cs : List ℕ) (o : Option ℕ) → c < 128 → sized (further 1 o) (c ∷ cs) ≡ further 1 (sized o cs)
sized_low c cs o l = sized_further c cs o ∙ ap (λ (n : ℕ). further n (sized o cs)) (length_low c l)

sized_two : (c d : ℕ) (cs : List ℕ) (o : Option ℕ) → c < 128 → d < 128 → sized (further 2 o) (c ∷ d ∷ cs) ≡ further 2 (sized o cs)
sized_two c d cs o l m =
    ap (λ (x : Option ℕ). sized x (c ∷ d ∷ cs)) (sym (further_further 1 1 o)) ∙ (sized_low c (d ∷ cs) (further 1 o) l ∙ (ap (further 1) (sized_low d cs o m) ∙ further_further 1 1 (sized o cs)))

-- ---- quoted texts

-- an answer within the first character, which is of ASCII
abbrev pub IsShort : Option ℕ → Type 0
IsShort None = Unit {0}
IsShort (Some n) = n ≤ 1

sized_short : (c : ℕ) (cs : List ℕ) (o : Option ℕ) → c < 128 → IsShort o → sized o (c ∷ cs) ≡ o
sized_short c cs None l s = refl
sized_short c cs (Some zero) l s = refl
sized_short c cs (Some (suc zero)) l s = ap (λ (x : ℕ). Some x) (bytes_of_low c 0 cs l)
sized_short c cs (Some (suc (suc n))) l s = absurd (omega arith)

pub walk_plain : (close bad : Option ℕ) (quote c : ℕ) (cs : List ℕ) → eqb c 92 ≡ false → eqb c quote ≡ false → quoted_walk close bad quote (c ∷ cs) ≡ further 1 (quoted_walk close bad quote cs)
walk_plain close bad quote c [] e f = rw (e, f) refl
walk_plain close bad quote c (d ∷ ds) e f = rw (e, f) refl

pub walk_close : (close bad : Option ℕ) (quote c : ℕ) (cs : List ℕ) → eqb c 92 ≡ false → eqb c quote ≡ true → quoted_walk close bad quote (c ∷ cs) ≡ close
walk_close close bad quote c [] e f = rw (e, f) refl
walk_close close bad quote c (d ∷ ds) e f = rw (e, f) refl

pub walk_bad : (close bad : Option ℕ) (quote c : ℕ) (cs : List ℕ) → eqb c 92 ≡ true → first_is is_escape cs ≡ false → quoted_walk close bad quote (c ∷ cs) ≡ bad
walk_bad close bad quote c [] e f = rw e refl
walk_bad close bad quote c (d ∷ ds) e f = rw (e, f) refl

pub walk_escape : (close bad : Option ℕ) (quote c d : ℕ) (cs : List ℕ) → eqb c 92 ≡ true → is_escape d ≡ true → quoted_walk close bad quote (c ∷ d ∷ cs) ≡ further 2 (quoted_walk close bad quote cs)
walk_escape close bad quote c d cs e f = rw (e, f) refl

walk_high : (close bad : Option ℕ) (quote : ℕ) (hs bs : List ℕ) → quote < 128 → AreHigh hs → quoted_walk close bad quote (hs ++ bs) ≡ further (length hs) (quoted_walk close bad quote bs)
walk_high close bad quote [] bs q h = sym (nothing_more (quoted_walk close bad quote bs))
  where
    nothing_more : (o : Option ℕ) → further 0 o ≡ o
    nothing_more None = refl
    nothing_more (Some n) = let e : 0 + n ≡ n = omega arith in ap (λ (x : ℕ). Some x) e
walk_high close bad quote (b ∷ hs) bs q h =
    let e : 1 + length hs ≡ suc (length hs) = omega arith in
    walk_plain close bad quote b (hs ++ bs) (is_not 92 b (omega arith) h.0) (is_not quote b q h.0) ∙ (ap (further 1) (walk_high close bad quote hs bs q h.1)
    ∙ (further_further 1 (length hs) (quoted_walk close bad quote bs) ∙ ap (λ (n : ℕ). further n (quoted_walk close bad quote bs)) e))

abbrev IsSameWalk : Option ℕ → Option ℕ → ℕ → List ℕ → Type 0
IsSameWalk close bad quote cs = quoted_walk close bad quote (encodes cs) ≡ sized (quoted_walk close bad quote cs) cs

walk_by_high : (close bad : Option ℕ) (quote c : ℕ) (cs : List ℕ) → quote < 128 → 128 ≤ c → IsSameWalk close bad quote cs → IsSameWalk close bad quote (c ∷ cs)
walk_by_high close bad quote c cs q h r =
    walk_high close bad quote (encode c) (encodes cs) q (high c h) ∙ (ap (further (length (encode c))) r
    ∙ (sym (sized_further c cs (quoted_walk close bad quote cs)) ∙ ap (λ (o : Option ℕ). sized o (c ∷ cs)) (sym (walk_plain close bad quote c cs (is_not 92 c (omega arith) h) (is_not quote c q h)))))

walk_by_low : (close bad : Option ℕ) (quote c : ℕ) (cs : List ℕ) (f : Bool) → IsShort close → c < 128 → eqb c 92 ≡ false → eqb c quote ≡ f → IsSameWalk close bad quote cs → quoted_walk close bad quote (c ∷ encodes cs) ≡ sized (quoted_walk close bad quote (c ∷ cs)) (c ∷ cs)
walk_by_low close bad quote c cs true s l e f r =
    walk_close close bad quote c (encodes cs) e f ∙ (sym (sized_short c cs close l s) ∙ ap (λ (o : Option ℕ). sized o (c ∷ cs)) (sym (walk_close close bad quote c cs e f)))
walk_by_low close bad quote c cs false s l e f r =
    walk_plain close bad quote c (encodes cs) e f ∙ (ap (further 1) r ∙ (sym (sized_low c cs (quoted_walk close bad quote cs) l) ∙ ap (λ (o : Option ℕ). sized o (c ∷ cs)) (sym (walk_plain close bad quote c cs e f))))

walk_by_bad : (close bad : Option ℕ) (quote c : ℕ) (cs : List ℕ) → IsShort bad → c < 128 → eqb c 92 ≡ true → first_is is_escape cs ≡ false → quoted_walk close bad quote (c ∷ encodes cs) ≡ sized (quoted_walk close bad quote (c ∷ cs)) (c ∷ cs)
walk_by_bad close bad quote c cs s l e f =
    walk_bad close bad quote c (encodes cs) e (first_same is_escape cs escape_ascii ∙ f) ∙ (sym (sized_short c cs bad l s) ∙ ap (λ (o : Option ℕ). sized o (c ∷ cs)) (sym (walk_bad close bad quote c cs e f)))

walk_by_escape : (close bad : Option ℕ) (quote c d : ℕ) (cs : List ℕ) → c < 128 → eqb c 92 ≡ true → is_escape d ≡ true → IsSameWalk close bad quote cs → quoted_walk close bad quote (c ∷ encodes (d ∷ cs)) ≡ sized (quoted_walk close bad quote (c ∷ d ∷ cs)) (c ∷ d ∷ cs)
walk_by_escape close bad quote c d cs l e f r =
    let m = ascii_by is_escape d escape_ascii f in
    ap (λ (x : List ℕ). quoted_walk close bad quote (c ∷ x)) (encodes_low d cs m) ∙ (walk_escape close bad quote c d (encodes cs) e f ∙ (ap (further 2) r
    ∙ (sym (sized_two c d cs (quoted_walk close bad quote cs) l m) ∙ ap (λ (o : Option ℕ). sized o (c ∷ d ∷ cs)) (sym (walk_escape close bad quote c d cs e f)))))

pub walk_same : (close bad : Option ℕ) (quote : ℕ) (cs : List ℕ) → IsShort close → IsShort bad → quote < 128 → IsSameWalk close bad quote cs
walk_same close bad quote [] s t q = refl
walk_same close bad quote (c ∷ []) s t q =
    elim (cases_lt c 128) [
      | inr h ↦ walk_by_high close bad quote c [] q h refl
      | inl l ↦ ap (quoted_walk close bad quote) (encodes_low c [] l) ∙ elim (cases_Bool (eqb c 92)) [
        | inl e ↦ walk_by_bad close bad quote c [] t l e refl
        | inr e ↦ walk_by_low close bad quote c [] (eqb c quote) s l e refl refl
      ]
    ]
walk_same close bad quote (c ∷ d ∷ cs) s t q =
    elim (cases_lt c 128) [
      | inr h ↦ walk_by_high close bad quote c (d ∷ cs) q h (walk_same close bad quote (d ∷ cs) s t q)
      | inl l ↦ ap (quoted_walk close bad quote) (encodes_low c (d ∷ cs) l) ∙ elim (cases_Bool (eqb c 92)) [
        | inr e ↦ walk_by_low close bad quote c (d ∷ cs) (eqb c quote) s l e refl (walk_same close bad quote (d ∷ cs) s t q)
        | inl e ↦ elim (cases_Bool (is_escape d)) [
          | inl f ↦ walk_by_escape close bad quote c d cs l e f (walk_same close bad quote cs s t q)
          | inr f ↦ walk_by_bad close bad quote c (d ∷ cs) t l e f
        ]
      ]
    ]

bad_walk_by : (quote c d : ℕ) (cs : List ℕ) (b e f : Bool) → bad_in_quotes quote cs ≡ quoted_walk None (Some 0) quote cs → bad_in_quotes quote (d ∷ cs) ≡ quoted_walk None (Some 0) quote (d ∷ cs)
    → (if b then (if e then further 2 (bad_in_quotes quote cs) else Some 0) else if f then None else further 1 (bad_in_quotes quote (d ∷ cs)))
    ≡ (if b then (if e then further 2 (quoted_walk None (Some 0) quote cs) else Some 0) else if f then None else further 1 (quoted_walk None (Some 0) quote (d ∷ cs)))
bad_walk_by quote c d cs true true f g h = ap (further 2) g
bad_walk_by quote c d cs true false f g h = refl
bad_walk_by quote c d cs false e true g h = refl
bad_walk_by quote c d cs false e false g h = ap (further 1) h

-- where the first bad escape is, as such a walk
pub bad_is_walk : (quote : ℕ) (cs : List ℕ) → bad_in_quotes quote cs ≡ quoted_walk None (Some 0) quote cs
bad_is_walk quote [] = refl
bad_is_walk quote (c ∷ []) = by (eqb c 92) (eqb c quote)
  where
    by : (b f : Bool) → (if b then at_0 else nowhere) ≡ (if b then at_0 else if f then nowhere else nowhere)
    by true f = refl
    by false true = refl
    by false false = refl
bad_is_walk quote (c ∷ d ∷ cs) = bad_walk_by quote c d cs (eqb c 92) (is_escape d) (eqb c quote) (bad_is_walk quote cs) (bad_is_walk quote (d ∷ cs))

pub bad_same : (quote : ℕ) (cs : List ℕ) → quote < 128 → bad_in_quotes quote (encodes cs) ≡ sized (bad_in_quotes quote cs) cs
bad_same quote cs q = bad_is_walk quote (encodes cs) ∙ (walk_same None (Some 0) quote cs tt (omega arith) q ∙ ap (λ (o : Option ℕ). sized o cs) (sym (bad_is_walk quote cs)))

pub quoted_same : (quote : ℕ) (cs : List ℕ) → quote < 128 → quoted_run quote (encodes cs) ≡ sized (quoted_run quote cs) cs
quoted_same quote cs q = walk_same (Some 1) None quote cs (omega arith) tt q

-- ---- characters

first_no_continuation : (cs : List ℕ) → first_is is_continuation (encodes cs) ≡ false
first_no_continuation [] = refl
first_no_continuation (c ∷ cs) = elim (cases_lt c 128) [
  | inl l ↦ ap (first_is is_continuation) (encodes_low c cs l) ∙ low c l
  | inr h ↦ let w = wide c h in rw w.is (above w.first w.above)
]
  where
    low : (c : ℕ) → c < 128 → is_continuation c ≡ false
    low c l = grind (arith, nat_tests)

    above : (c : ℕ) → 192 ≤ c → is_continuation c ≡ false
    above c l = grind (arith, nat_tests)

run_none : (p : ℕ → Bool) (cs : List ℕ) → first_is p cs ≡ false → run p cs ≡ 0
run_none p [] h = refl
run_none p (c ∷ cs) h = rw h refl

pub continuations : (os bs : List ℕ) → AreContinuations os → first_is is_continuation bs ≡ false → run is_continuation (os ++ bs) ≡ length os
continuations [] bs h n = run_none is_continuation bs n
continuations (b ∷ os) bs h n =
    let e : is_continuation b ≡ true = one b h.0 h.1 in rw e (ap (λ (x : ℕ). suc x) (continuations os bs h.2 n))
  where
    one : (b : ℕ) → 128 ≤ b → b < 192 → is_continuation b ≡ true
    one b l m = grind (arith, nat_tests)

sized_escape : (c : ℕ) (cs : List ℕ) (b : Bool) → c < 128 → first_is is_escape cs ≡ b → (if b then Some 2 else None) ≡ sized (if b then Some 2 else None) (c ∷ cs)
sized_escape c cs false l e = refl
sized_escape c [] true l e = absurd cc
sized_escape c (d ∷ ds) true l e =
    let m = ascii_by is_escape d escape_ascii e in
    let k : bytes_of 2 (c ∷ d ∷ ds) ≡ 2 = bytes_of_low c 1 (d ∷ ds) l ∙ ap (λ (x : ℕ). suc x) (bytes_of_low d 0 ds m) in
    ap (λ (x : ℕ). Some x) (sym k)

character_low : (c : ℕ) (cs : List ℕ) (b e : Bool) → c < 128 → eqb c 92 ≡ b → first_is is_escape cs ≡ e → character_bytes (c ∷ encodes cs) ≡ sized (character_run (c ∷ cs)) (c ∷ cs)
character_low c cs true e l f g = rw (f, first_same is_escape cs escape_ascii) (sized_escape c cs (first_is is_escape cs) l refl)
character_low c cs false e l f g =
    let k : leb 128 c ≡ false = lt-leb 128 c l in
    rw (f, k) (ap (λ (x : ℕ). Some x) (sym (bytes_of_low c 0 cs l)))

pub character_same : (cs : List ℕ) → character_bytes (encodes cs) ≡ sized (character_run cs) cs
character_same [] = refl
character_same (c ∷ cs) = elim (cases_lt c 128) [
  | inl l ↦ ap character_bytes (encodes_low c cs l) ∙ character_low c cs (eqb c 92) (first_is is_escape cs) l refl refl
  | inr h ↦
      let w = wide c h in
      let one : character_run (c ∷ cs) ≡ Some 1 = rw (is_not 92 c (omega arith) h) refl in
      let k : leb 128 w.first ≡ true = le-leb 128 w.first (omega (arith, w.above)) in
      let size : bytes_of 1 (c ∷ cs) ≡ suc (length w.others) = bytes_of_more c 0 cs ∙ rw w.is (omega arith) in
      let run_is : run is_continuation (w.others ++ encodes cs) ≡ length w.others = continuations w.others (encodes cs) w.continued (first_no_continuation cs) in
      let all : character_bytes (encode c ++ encodes cs) ≡ Some (suc (length w.others)) = rw (w.is, is_not 92 w.first (omega arith) (omega (arith, w.above)), k) (ap (λ (x : ℕ). Some (suc x)) run_is) in
      all ∙ (ap (λ (x : ℕ). Some x) (sym size) ∙ ap (λ (o : Option ℕ). sized o (c ∷ cs)) (sym one))
]

bad_one : (c : ℕ) (cs : List ℕ) → bad_in_character (c ∷ cs) ≡ (if eqb c 92 && not (first_is is_escape cs) then at_0 else nowhere)
bad_one c [] = by (eqb c 92)
  where
    by : (b : Bool) → (if b then at_0 else nowhere) ≡ (if b && true then at_0 else nowhere)
    by true = refl
    by false = refl
bad_one c (d ∷ ds) = refl

sized_zero : (b : Bool) (cs : List ℕ) → (if b then at_0 else nowhere) ≡ sized (if b then at_0 else nowhere) cs
sized_zero true cs = refl
sized_zero false cs = refl

pub bad_character_same : (cs : List ℕ) → bad_in_character (encodes cs) ≡ sized (bad_in_character cs) cs
bad_character_same [] = refl
bad_character_same (c ∷ cs) = elim (cases_lt c 128) [
  | inl l ↦
      let e : bad_in_character (c ∷ encodes cs) ≡ bad_in_character (c ∷ cs) = bad_one c (encodes cs) ∙ (ap (λ (b : Bool). if eqb c 92 && not b then at_0 else nowhere) (first_same is_escape cs escape_ascii) ∙ sym (bad_one c cs)) in
      let f : bad_in_character (c ∷ cs) ≡ sized (bad_in_character (c ∷ cs)) (c ∷ cs) = rw (bad_one c cs) (sized_zero (eqb c 92 && not (first_is is_escape cs)) (c ∷ cs)) in
      ap bad_in_character (encodes_low c cs l) ∙ (e ∙ f)
  | inr h ↦
      let w = wide c h in
      let none : (b : ℕ) (bs : List ℕ) → 128 ≤ b → bad_in_character (b ∷ bs) ≡ None = λ b bs k. bad_one b bs ∙ rw (is_not 92 b (omega arith) k) refl in
      let first : bad_in_character (encode c ++ encodes cs) ≡ None = rw w.is (none w.first (w.others ++ encodes cs) (omega (arith, w.above))) in
      first ∙ ap (λ (o : Option ℕ). sized o (c ∷ cs)) (sym (none c cs h))
]
