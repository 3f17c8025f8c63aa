-- Steps of the loops over an integer's text, and its value.
use Rattle.std.proofs.Common.{◌≡◌, ℕ, suc, ◌+◌, ◌-◌, ◌*◌, ◌<◌, ◌≤◌, Bool, true, false, List, [], ◌∷◌, length, get_or, take, drop, Some, None, refl, ap, sym, ◌∙◌, arith, inl, inr, min}
use Rattle.std.specs.Prelude.{◌&&◌, ◌||◌, not, nat_le, if◌then◌else◌}
use Rattle.std.proofs.Math.Dec.{eqb}
use Rattle.std.proofs.lemmas.Bool.{eqb-true, cases_lt, leb-true, lt-leb}
use Rattle.std.proofs.lemmas.Bool.Decides.{nat_tests}
use Rattle.erl_tree.specs.Lexis.{is_digit, is_digit_of, is_grouped, goes_on_grouped, is_based, number, digit_value, integer_value}
use Rattle.erl_tree.specs.Profile.{further}
use Rattle.erl_tree.proofs.TokenTexts.{chosen, and_true, or_true}
use Rattle.erl_lexer.specs.Scan.{run, first_is, grouped_run, hashed_run, based_run, is_no_hash}
use Rattle.erl_lexer.proofs.Walks.{further_further}
use Rattle.erl_lexer.proofs.Runs.{first_of, none_of, run_step, run_stop, run_end}

-- ---- digits with underscores

pub group_step : (digit : ℕ → Bool) (i : ℕ) (text : List ℕ) → i < length text → (digit (get_or text i 0) || (eqb (get_or text i 0) 95 && first_is digit (drop (i + 1) text))) ≡ true → grouped_run digit (drop i text) ≡ suc (grouped_run digit (drop (i + 1) text))
group_step digit i text h e = ap (grouped_run digit) (first_of i text h) ∙ rw e refl

pub group_stop : (digit : ℕ → Bool) (i : ℕ) (text : List ℕ) → i < length text → (digit (get_or text i 0) || (eqb (get_or text i 0) 95 && first_is digit (drop (i + 1) text))) ≡ false → grouped_run digit (drop i text) ≡ 0
group_stop digit i text h e = ap (grouped_run digit) (first_of i text h) ∙ rw e refl

pub group_end : (digit : ℕ → Bool) (i : ℕ) (text : List ℕ) → length text ≤ i → grouped_run digit (drop i text) ≡ 0
group_end digit i text h = ap (grouped_run digit) (none_of i text h)

pub ruleset groups = (group_step, group_stop, group_end)

ten : (c : ℕ) → is_digit_of 10 c ≡ is_digit c
ten c = grind (arith, nat_tests)

ten_first : (cs : List ℕ) → first_is (is_digit_of 10) cs ≡ first_is is_digit cs
ten_first [] = refl
ten_first (c ∷ cs) = ten c

pub ten_grouped : (cs : List ℕ) → grouped_run (is_digit_of 10) cs ≡ grouped_run is_digit cs
ten_grouped [] = refl
ten_grouped (c ∷ cs) = ap (λ (b : Bool). if b || (eqb c 95 && first_is (is_digit_of 10) cs) then suc (grouped_run (is_digit_of 10) cs) else 0) (ten c)
    ∙ (ap (λ (b : Bool). if is_digit c || (eqb c 95 && b) then suc (grouped_run (is_digit_of 10) cs) else 0) (ten_first cs)
    ∙ ap (λ (n : ℕ). if is_digit c || (eqb c 95 && first_is is_digit cs) then suc n else 0) (ten_grouped cs))

-- ---- a base

too_wide : (base : ℕ) (cs : List ℕ) → 37 ≤ base → hashed_run base cs ≡ None
too_wide base cs h = by (nat_le 2 base) (nat_le base 36) (lt-leb base 36 (omega arith))
  where
    by : (a b : Bool) → b ≡ false → (if a && (b && first_is (is_digit_of base) cs) then Some (suc (grouped_run (is_digit_of base) cs)) else None) ≡ None
    by true false e = refl
    by false false e = refl
    by a true e = absurd cc

pub wide_based : (base other : ℕ) (cs : List ℕ) → 37 ≤ base → 37 ≤ other → based_run base cs ≡ based_run other cs
wide_based base other [] h g = refl
wide_based base other (c ∷ cs) h g = rw (too_wide base cs h, too_wide other cs g, wide_based (base * 10 + (c - 48)) (other * 10 + (c - 48)) cs (omega arith) (omega arith)) refl

pub capped : (base : ℕ) (cs : List ℕ) → based_run (min base 37) cs ≡ based_run base cs
capped base cs = elim (cases_lt base 37) [
  | inl l ↦ let e : min base 37 ≡ base = omega arith in ap (λ (b : ℕ). based_run b cs) e
  | inr h ↦ wide_based (min base 37) base cs (omega arith) h
]

pub based_goes : (i base next : ℕ) (text : List ℕ) → i < length text → eqb (get_or text i 0) 35 ≡ false → is_digit (get_or text i 0) ≡ true → next ≡ min (base * 10 + (get_or text i 0 - 48)) 37
    → further (i + 1) (based_run next (drop (i + 1) text)) ≡ further i (based_run base (drop i text))
based_goes i base next text h e d n =
    let c : ℕ = get_or text i 0 in
    let a : based_run base (drop i text) ≡ further 1 (based_run (base * 10 + (c - 48)) (drop (i + 1) text)) = ap (based_run base) (first_of i text h) ∙ rw (e, d) refl in
    let b : based_run next (drop (i + 1) text) ≡ based_run (base * 10 + (c - 48)) (drop (i + 1) text) = ap (λ (x : ℕ). based_run x (drop (i + 1) text)) n ∙ capped (base * 10 + (c - 48)) (drop (i + 1) text) in
    ap (further (i + 1)) b ∙ (sym (further_further i 1 (based_run (base * 10 + (c - 48)) (drop (i + 1) text))) ∙ ap (further i) (sym a))

pub based_hash_at : (i base : ℕ) (text : List ℕ) → i < length text → eqb (get_or text i 0) 35 ≡ true → based_run base (drop i text) ≡ hashed_run base (drop (i + 1) text)
based_hash_at i base text h e = ap (based_run base) (first_of i text h) ∙ rw e refl

pub based_stops : (i base : ℕ) (text : List ℕ) → i < length text → eqb (get_or text i 0) 35 ≡ false → is_digit (get_or text i 0) ≡ false → based_run base (drop i text) ≡ None
based_stops i base text h e d = ap (based_run base) (first_of i text h) ∙ rw (e, d) refl

pub based_ends : (i base : ℕ) (text : List ℕ) → length text ≤ i → based_run base (drop i text) ≡ None
based_ends i base text h = ap (based_run base) (none_of i text h)

-- ---- numbers

grown : (base n : ℕ) → 1 ≤ base → n ≤ n * base
grown base n h = grind arith

pub number_grows : (base n : ℕ) (ds : List ℕ) → 1 ≤ base → n ≤ number base n ds
number_grows base n [] h = omega arith
number_grows base n (d ∷ ds) h = by (eqb d 95) (number_grows base n ds h) (omega (arith, grown base n h, number_grows base (n * base + digit_value d) ds h))
  where
    by : (b : Bool) → n ≤ number base n ds → n ≤ number base (n * base + digit_value d) ds → n ≤ (if b then number base n ds else number base (n * base + digit_value d) ds)
    by true x y = x
    by false x y = y

pub number_step : (base n i : ℕ) (ds : List ℕ) → i < length ds → eqb (get_or ds i 0) 95 ≡ false → number base n (drop i ds) ≡ number base (n * base + digit_value (get_or ds i 0)) (drop (i + 1) ds)
number_step base n i ds h e = ap (number base n) (first_of i ds h) ∙ rw e refl

pub number_skip : (base n i : ℕ) (ds : List ℕ) → i < length ds → get_or ds i 0 ≡ 95 → number base n (drop i ds) ≡ number base n (drop (i + 1) ds)
number_skip base n i ds h e = ap (number base n) (first_of i ds h) ∙ rw e refl

pub number_end : (base n i : ℕ) (ds : List ℕ) → length ds ≤ i → number base n (drop i ds) ≡ n
number_end base n i ds h = ap (number base n) (none_of i ds h)

pub ruleset numbers = (number_step, number_skip, number_end, number_grows)

-- ---- the #

no_hash_by : (c : ℕ) → eqb c 35 ≡ false → is_no_hash c ≡ true
no_hash_by c e = rw e refl

pub hash_step : (i : ℕ) (text : List ℕ) → i < length text → eqb (get_or text i 0) 35 ≡ false → run is_no_hash (drop i text) ≡ suc (run is_no_hash (drop (i + 1) text))
hash_step i text h e = run_step is_no_hash i text h (no_hash_by _ e)

pub hash_stop : (i : ℕ) (text : List ℕ) → i < length text → get_or text i 0 ≡ 35 → run is_no_hash (drop i text) ≡ 0
hash_stop i text h e = run_stop is_no_hash i text h (rw e refl)

pub hash_end : (i : ℕ) (text : List ℕ) → length text ≤ i → run is_no_hash (drop i text) ≡ 0
hash_end i text h = run_end is_no_hash i text h

pub ruleset hashes = (hash_step, hash_stop, hash_end)

-- ---- the value of an integer

no_hash_is : (c : ℕ) → is_no_hash c ≡ true → eqb c 35 ≡ false
no_hash_is c h = by (eqb c 35) h
  where
    by : (b : Bool) → not b ≡ true → b ≡ false
    by true e = absurd cc
    by false e = refl

hash_free : (c : ℕ) (cs : List ℕ) → run is_no_hash (c ∷ cs) ≡ suc (length cs) → (eqb c 35 ≡ false) × (run is_no_hash cs ≡ length cs)
hash_free c cs h = by (is_no_hash c) refl h
  where
    by : (b : Bool) → is_no_hash c ≡ b → (if b then suc (run is_no_hash cs) else 0) ≡ suc (length cs) → (eqb c 35 ≡ false) × (run is_no_hash cs ≡ length cs)
    by true e g = (no_hash_is c e, omega arith)
    by false e g = absurd (omega arith)

pub value_plain : (n : ℕ) (text : List ℕ) → run is_no_hash text ≡ length text → integer_value n text ≡ number 10 n text
value_plain n [] h = refl
value_plain n (c ∷ cs) h =
    let f = hash_free c cs h in
    rw f.0 (by (eqb c 95) (value_plain n cs f.1) (value_plain (n * 10 + digit_value c) cs f.1))
  where
    by : (b : Bool) → integer_value n cs ≡ number 10 n cs → integer_value (n * 10 + digit_value c) cs ≡ number 10 (n * 10 + digit_value c) cs
        → (if b then integer_value n cs else integer_value (n * 10 + digit_value c) cs) ≡ (if b then number 10 n cs else number 10 (n * 10 + digit_value c) cs)
    by true x y = x
    by false x y = y

-- an integer with a # has a base
pub record HasBase (before : ℕ) (text : List ℕ) : Type 0 where
  pub value : integer_value before text ≡ number (number 10 before (take (run is_no_hash text) text)) 0 (drop 1 (drop (run is_no_hash text) text))
  pub low : 2 ≤ number 10 before (take (run is_no_hash text) text)
  pub high : number 10 before (take (run is_no_hash text) text) ≤ 36

digit_not : (k c : ℕ) → is_digit k ≡ false → is_digit c ≡ true → eqb c k ≡ false
digit_not k c n h = by (eqb c k) refl
  where
    by : (b : Bool) → eqb c k ≡ b → b ≡ false
    by true e = absurd (let z : is_digit k ≡ true = ap is_digit (sym (eqb-true c k e)) ∙ h in let y : false ≡ true = sym n ∙ z in cc)
    by false e = refl

based_by : (before c : ℕ) (cs : List ℕ) → is_digit c ≡ true → HasBase (before * 10 + (c - 48)) cs → HasBase before (c ∷ cs)
based_by before c cs d h =
    let a = digit_not 35 c refl d in
    let b = digit_not 95 c refl d in
    let v : digit_value c ≡ c - 48 = rw d refl in
    let n : run is_no_hash (c ∷ cs) ≡ suc (run is_no_hash cs) = rw a refl in
    let base : number 10 before (take (run is_no_hash (c ∷ cs)) (c ∷ cs)) ≡ number 10 (before * 10 + (c - 48)) (take (run is_no_hash cs) cs) =
    ap (λ (k : ℕ). number 10 before (take k (c ∷ cs))) n ∙ rw (b, d) refl in
    let whole : integer_value before (c ∷ cs) ≡ integer_value (before * 10 + (c - 48)) cs = rw (a, b, d) refl in
    let back : drop 1 (drop (run is_no_hash (c ∷ cs)) (c ∷ cs)) ≡ drop 1 (drop (run is_no_hash cs) cs) = ap (λ (k : ℕ). drop 1 (drop k (c ∷ cs))) n in
    record {
      value = whole ∙ (h.value ∙ (ap (λ (k : ℕ). number k 0 (drop 1 (drop (run is_no_hash cs) cs))) (sym base) ∙ ap (number (number 10 before (take (run is_no_hash (c ∷ cs)) (c ∷ cs))) 0) (sym back)));
      low = omega (arith, h.low, base);
      high = omega (arith, h.high, base);
    }

based_base : (before : ℕ) (text : List ℕ) → is_based before text ≡ true → HasBase before text
based_base before [] h = absurd cc
based_base before (c ∷ cs) h =
    elim (chosen (eqb c 35) ((nat_le 2 before && nat_le before 36) && is_grouped (is_digit_of before) cs) (is_digit c && is_based (before * 10 + (c - 48)) cs) true h) [
      | inl w ↦
          let a = and_true (nat_le 2 before) (nat_le before 36) (and_true (nat_le 2 before && nat_le before 36) (is_grouped (is_digit_of before) cs) w.1).0 in
          hashed before c cs (eqb-true c 35 w.0) (leb-true 2 before a.0) (leb-true before 36 a.1)
      | inr w ↦ let a = and_true (is_digit c) (is_based (before * 10 + (c - 48)) cs) w.1 in based_by before c cs a.0 (based_base (before * 10 + (c - 48)) cs a.1)
    ]
  where
    hashed : (before c : ℕ) (cs : List ℕ) → c ≡ 35 → 2 ≤ before → before ≤ 36 → HasBase before (c ∷ cs)
    hashed before c cs e l h = rw e (record { value = refl; low = l; high = h })

no_hash_step : (c : ℕ) (cs : List ℕ) → eqb c 35 ≡ false → run is_no_hash cs ≡ length cs → run is_no_hash (c ∷ cs) ≡ suc (length cs)
no_hash_step c cs e h = rw (e, h) refl

not_35 : (c : ℕ) → eqb c 95 ≡ true → eqb c 35 ≡ false
not_35 c h = grind (arith, nat_tests)

grouped_free : (text : List ℕ) → (goes_on_grouped is_digit text ≡ true → run is_no_hash text ≡ length text) × (is_grouped is_digit text ≡ true → run is_no_hash text ≡ length text)
grouped_free [] = (λ h. refl, λ h. refl)
grouped_free (c ∷ cs) =
    let r = grouped_free cs in (
      λ h. elim (chosen (eqb c 95) (is_grouped is_digit cs) (is_digit c && goes_on_grouped is_digit cs) true h) [
        | inl w ↦ no_hash_step c cs (not_35 c w.0) (r.1 w.1)
        | inr w ↦ let a = and_true (is_digit c) (goes_on_grouped is_digit cs) w.1 in no_hash_step c cs (digit_not 35 c refl a.0) (r.0 a.1)
      ],
      λ h. let a = and_true (is_digit c) (goes_on_grouped is_digit cs) h in no_hash_step c cs (digit_not 35 c refl a.0) (r.0 a.1),
    )

pub has_base : (text : List ℕ) (at : ℕ) → (is_grouped is_digit text || is_based 0 text) ≡ true → at ≡ run is_no_hash text → (at ≡ length text → ⊥) → HasBase 0 text
has_base text at h e n = elim (or_true (is_grouped is_digit text) (is_based 0 text) h) [
  | inl w ↦ absurd (n (e ∙ (grouped_free text).1 w))
  | inr w ↦ based_base 0 text w
]

-- the parts of an integer with a base
pub value_parts : (text front back digits : List ℕ) (at base : ℕ) → HasBase 0 text → at ≡ run is_no_hash text → front ≡ take at text → back ≡ drop at text → digits ≡ drop 1 back → base ≡ number 10 0 front → integer_value 0 text ≡ number base 0 digits
value_parts text front back digits at base h ea ef eb ed en = rw (en, ed, ef, eb, ea) h.value

pub base_is : (text front : List ℕ) (at : ℕ) → HasBase 0 text → at ≡ run is_no_hash text → front ≡ take at text → (2 ≤ number 10 0 front) × (number 10 0 front ≤ 36)
base_is text front at h ea ef = rw (ef, ea) (h.low, h.high)
