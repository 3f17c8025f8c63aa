-- Steps of the tests on forms outside of the profile and on bad escapes.
use Rattle.std.proofs.Common.{◌≡◌, ℕ, ◌+◌, ◌<◌, ◌≤◌, Bool, true, false, List, [], ◌∷◌, length, get_or, drop, Option, None, refl, ap, ◌∙◌}
use Rattle.std.specs.Prelude.{◌&&◌, ◌||◌, if◌then◌else◌, codes}
use Rattle.std.proofs.Math.Dec.{eqb, leb}
use Rattle.std.proofs.lemmas.Bool.{eq-eqb, ne_eqb}
use Rattle.erl_tree.specs.Lexis.{is_digit}
use Rattle.erl_tree.specs.Profile.{further, is_float, begins, outside_form, bad_escape, bad_in_quotes, bad_in_character}
use Rattle.erl_lexer.specs.Scan.{first_is, form_by, bad_choice}
use Rattle.erl_lexer.proofs.Runs.{first_of, none_of}
use Rattle.erl_lexer.proofs.Same.{float_step, form_is, form_none, bad_none}

-- ---- floats

pub float_digit : (digit : Bool) (i : ℕ) (text : List ℕ) → i < length text → is_digit (get_or text i 0) ≡ true → is_float digit (drop i text) ≡ is_float true (drop (i + 1) text)
float_digit digit i text h e = ap (is_float digit) (first_of i text h) ∙ (float_step digit (get_or text i 0) (drop (i + 1) text) ∙ by (is_digit (get_or text i 0)) e)
  where
    by : (b : Bool) → b ≡ true → (if b then is_float true (drop (i + 1) text) else if eqb (get_or text i 0) 95 then (digit && first_is is_digit (drop (i + 1) text) && is_float false (drop (i + 1) text)) else ((eqb (get_or text i 0) 46) && digit && first_is is_digit (drop (i + 1) text))) ≡ is_float true (drop (i + 1) text)
    by true e = refl
    by false e = absurd cc

pub float_other : (digit : Bool) (i : ℕ) (text : List ℕ) → i < length text → is_digit (get_or text i 0) ≡ false
    → is_float digit (drop i text) ≡ (if eqb (get_or text i 0) 95 then (digit && first_is is_digit (drop (i + 1) text) && is_float false (drop (i + 1) text)) else ((eqb (get_or text i 0) 46) && digit && first_is is_digit (drop (i + 1) text)))
float_other digit i text h e = ap (is_float digit) (first_of i text h) ∙ (float_step digit (get_or text i 0) (drop (i + 1) text) ∙ by (is_digit (get_or text i 0)) e)
  where
    by : (b : Bool) → b ≡ false → (if b then is_float true (drop (i + 1) text) else if eqb (get_or text i 0) 95 then (digit && first_is is_digit (drop (i + 1) text) && is_float false (drop (i + 1) text)) else ((eqb (get_or text i 0) 46) && digit && first_is is_digit (drop (i + 1) text)))
        ≡ (if eqb (get_or text i 0) 95 then (digit && first_is is_digit (drop (i + 1) text) && is_float false (drop (i + 1) text)) else ((eqb (get_or text i 0) 46) && digit && first_is is_digit (drop (i + 1) text)))
    by true e = absurd cc
    by false e = refl

pub float_end : (digit : Bool) (i : ℕ) (text : List ℕ) → length text ≤ i → is_float digit (drop i text) ≡ false
float_end digit i text h = ap (is_float digit) (none_of i text h)

pub ruleset floats = (float_digit, float_other, float_end)

-- ---- beginnings

pub begins_step : (i : ℕ) (front text : List ℕ) → i < length front → i < length text → get_or front i 0 ≡ get_or text i 0 → begins (drop i front) (drop i text) ≡ begins (drop (i + 1) front) (drop (i + 1) text)
begins_step i front text h g e = ap (λ (x : List ℕ). begins x (drop i text)) (first_of i front h) ∙ (ap (begins (get_or front i 0 ∷ drop (i + 1) front)) (first_of i text g) ∙ rw (eq-eqb _ _ e) refl)

pub begins_differs : (i : ℕ) (front text : List ℕ) → i < length front → i < length text → (get_or front i 0 ≡ get_or text i 0 → ⊥) → begins (drop i front) (drop i text) ≡ false
begins_differs i front text h g e = ap (λ (x : List ℕ). begins x (drop i text)) (first_of i front h) ∙ (ap (begins (get_or front i 0 ∷ drop (i + 1) front)) (first_of i text g) ∙ rw (ne_eqb _ _ e) refl)

pub begins_short : (i : ℕ) (front text : List ℕ) → i < length front → length text ≤ i → begins (drop i front) (drop i text) ≡ false
begins_short i front text h g = ap (λ (x : List ℕ). begins x (drop i text)) (first_of i front h) ∙ ap (begins (get_or front i 0 ∷ drop (i + 1) front)) (none_of i text g)

pub begins_end : (i : ℕ) (front text : List ℕ) → length front ≤ i → begins (drop i front) (drop i text) ≡ true
begins_end i front text h = ap (λ (x : List ℕ). begins x (drop i text)) (none_of i front h)

pub ruleset beginnings = (begins_step, begins_differs, begins_short, begins_end)

-- ---- forms

pub form_at : (text : List ℕ) (c : ℕ) (cs : List ℕ) → text ≡ c ∷ cs
    → outside_form text ≡ form_by (is_float false text) (eqb c 63) (begins (codes "<<") text) (eqb c 33) (begins (codes "--") text) (begins (codes "\"\"\"") text) (eqb c 126) (leb 128 c) (begins (codes "<:-") text) (begins (codes "<:=") text)
form_at text c cs e = rw e (form_is c cs)

pub form_empty : (text : List ℕ) → text ≡ [] → outside_form text ≡ None
form_empty text e = ap outside_form e ∙ form_none

pub ruleset forms = (form_at, form_empty)

-- ---- bad escapes

pub bad_empty : (text : List ℕ) → text ≡ [] → bad_escape text ≡ None
bad_empty text e = ap bad_escape e ∙ bad_none

bad_by : (a b : Bool) (x y : Option ℕ) → (if a then further 1 x else if b then further 1 y else None) ≡ further 1 (if a then x else if b then y else None)
bad_by true b x y = refl
bad_by false true x y = refl
bad_by false false x y = refl

bad_cons : (c : ℕ) (cs : List ℕ) → bad_escape (c ∷ cs) ≡ further 1 (bad_choice c cs)
unfolding bad_escape
bad_cons c cs = bad_by (eqb c 39 || eqb c 34) (eqb c 36) (bad_in_quotes c cs) (bad_in_character cs)

pub bad_is : (text : List ℕ) (c : ℕ) (cs : List ℕ) → text ≡ c ∷ cs → bad_escape text ≡ further 1 (bad_choice c cs)
bad_is text c cs e = ap bad_escape e ∙ bad_cons c cs

pub ruleset bads = (bad_empty, bad_is)
