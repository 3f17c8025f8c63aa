-- The signs in a list with one more item.
use Rattle.std.proofs.Common.{◌≡◌, refl, sym, ◌∙◌, ap, ℕ, zero, suc, ◌+◌, ◌<◌, List, [], ◌∷◌, ◌++◌, length, take, get_or, Bool, true, false, arith, zero-add, add-zero, add-one}
use Rattle.std.specs.Prelude.{slice_get, ◌||◌}
use Rattle.type_terms.specs.declared.sign_search.Signs.{Signs}
use Rattle.type_terms.specs.declared.sign_search.DefSigns.{DefSigns}
use Rattle.type_terms.specs.declared.sign_search.Sought.{Sought}
use Rattle.type_terms.specs.declared.term.Field.{Field}
use Rattle.type_terms.specs.declared.term.Term.{Term}
use Rattle.type_terms.specs.SignTables.{no_signs, either, through, variable_signs, signs_in, signs_in_terms, signs_in_fields, signs_through}

or-none : (a : Bool) → (a || false) ≡ a
or-none true = refl
or-none false = refl

or-twice : (a b c : Bool) → ((a || b) || c) ≡ (a || (b || c))
or-twice true b c = refl
or-twice false b c = refl

pub either-none : (a : Signs) → either a no_signs ≡ a
either-none a = λ i. record { even = or-none a.even i; odd = or-none a.odd i }

pub either-twice : (a b c : Signs) → either (either a b) c ≡ either a (either b c)
either-twice a b c = λ i. record { even = or-twice a.even b.even c.even i; odd = or-twice a.odd b.odd c.odd i }

pub terms-append : (table : List DefSigns) (w : Sought) (ts : List Term) (t : Term) → signs_in_terms table w (ts ++ t ∷ []) ≡ either (signs_in_terms table w ts) (signs_in table w t)
terms-append table w [] t = either-none (signs_in table w t)
terms-append table w (s ∷ ts) t = ap (either (signs_in table w s)) (terms-append table w ts t) ∙ sym (either-twice (signs_in table w s) (signs_in_terms table w ts) (signs_in table w t))

pub fields-append : (table : List DefSigns) (w : Sought) (fs : List Field) (f : Field) → signs_in_fields table w (fs ++ f ∷ []) ≡ either (signs_in_fields table w fs) (signs_in table w f.term)
fields-append table w [] f = either-none (signs_in table w f.term)
fields-append table w (g ∷ fs) f = ap (either (signs_in table w g.term)) (fields-append table w fs f) ∙ sym (either-twice (signs_in table w g.term) (signs_in_fields table w fs) (signs_in table w f.term))

through-more : (table : List DefSigns) (w : Sought) (n : ℕ) (ts : List Term) (i j : ℕ) (d : Term) → i < length ts → signs_through table w n j (take (suc i) ts) ≡ either (signs_through table w n j (take i ts)) (through (variable_signs (slice_get table n) (i + j)) (signs_in table w (get_or ts i d)))
through-more table w n [] i j d l = absurd (omega arith)
through-more table w n (t ∷ ts) zero j d l = either-none (through (variable_signs (slice_get table n) j) (signs_in table w t)) ∙ ap (λ k. through (variable_signs (slice_get table n) k) (signs_in table w t)) (sym (zero-add j))
through-more table w n (t ∷ ts) (suc i) j d l =
    let l' : i < length ts = omega arith in
    let e : i + suc j ≡ suc i + j = omega arith in
    ap (either (through (variable_signs (slice_get table n) j) (signs_in table w t))) (through-more table w n ts i (suc j) d l' ∙ ap (λ k. either (signs_through table w n (suc j) (take i ts)) (through (variable_signs (slice_get table n) k) (signs_in table w (get_or ts i d)))) e)
    ∙ sym (either-twice (through (variable_signs (slice_get table n) j) (signs_in table w t)) (signs_through table w n (suc j) (take i ts)) (through (variable_signs (slice_get table n) (suc i + j)) (signs_in table w (get_or ts i d))))

-- one more argument
pub through-step : (table : List DefSigns) (w : Sought) (n : ℕ) (ts : List Term) (i : ℕ) (d : Term) (found : Signs) → i < length ts → found ≡ signs_through table w n 0 (take i ts) → either found (through (variable_signs (slice_get table n) i) (signs_in table w (get_or ts i d))) ≡ signs_through table w n 0 (take (i + 1) ts)
through-step table w n ts i d found l e =
    ap (λ x. either x (through (variable_signs (slice_get table n) i) (signs_in table w (get_or ts i d)))) e
    ∙ (ap (λ k. either (signs_through table w n 0 (take i ts)) (through (variable_signs (slice_get table n) k) (signs_in table w (get_or ts i d)))) (sym (add-zero i))
    ∙ (sym (through-more table w n ts i 0 d l) ∙ ap (λ k. signs_through table w n 0 (take k ts)) (sym (add-one i))))

pub ruleset append_laws = (terms-append, fields-append)
