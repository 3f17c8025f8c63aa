-- What the functions of a module owe, form by form.
use Rattle.std.proofs.Common.{◌≡◌, refl, sym, ◌∙◌, ap, subst, inl, inr, ℕ, zero, suc, ◌+◌, ◌<◌, ◌≤◌, List, [], ◌∷◌, ◌++◌, length, take, arith, append_assoc, length-append}
use Rattle.std.specs.Prelude.{Some, slice_get}
use Rattle.type_terms.specs.declared.spec.FunSpec.{FunSpec}
use Rattle.erl_tree.specs.declared.form.Function.{Function}
use Rattle.erl_tree.specs.declared.form.TreeForm.{TreeForm}
use Rattle.erl_tree.specs.declared.form.TreeForm.TheVariants as F
use Rattle.erl_tree.specs.declared.form.Module.{Module}
use Rattle.erl_tree.specs.Lists.{Every, Among}
use Rattle.erl_tree.specs.Functions.{functions_in, functions_of, clauses_arity}
use Rattle.flat_modules.specs.FlatSpecs.{specs_of}
use Rattle.erl_runs.specs.Membership.{arrows_of}
use Rattle.cert_checker.specs.declared.refusal.FirstRefusal.{FirstRefusal}
use Rattle.cert_checker.specs.declared.refusal.FirstRefusal.TheVariants.{NoMemory, Failed}
use Rattle.cert_checker.specs.Constraints.{Test, Holds, owed_for_arrows, owed_by_functions, owed_of}
use Rattle.cert_checker.specs.Failures.{IsFirstFailure, ShowsFailure}
use Rattle.cert_checker.proofs.Lists.{every-join, none-some, some-inj}
use Rattle.cert_checker.proofs.Takes.{take-more, split-at}
use Rattle.cert_checker.proofs.Failing.{failure-within}

-- ---- functions

functions-append : (forms more : List TreeForm) → functions_in (forms ++ more) ≡ functions_in forms ++ functions_in more
functions-append [] more = refl
functions-append (F.Function f ∷ forms) more = ap (λ z. f ∷ z) (functions-append forms more)
functions-append (F.Spec f ∷ forms) more = functions-append forms more
functions-append (F.Export f ∷ forms) more = functions-append forms more
functions-append (F.RecDef f ∷ forms) more = functions-append forms more
functions-append (F.TypeDef f ∷ forms) more = functions-append forms more
functions-append (F.Skipped f ∷ forms) more = functions-append forms more

pub function-count : (forms : List TreeForm) (i : ℕ) → length (functions_in (take i forms)) ≤ i
function-count forms zero = omega arith
function-count [] (suc i) = omega arith
function-count (F.Function f ∷ forms) (suc i) = let h : length (functions_in (take i forms)) ≤ i = function-count forms i in omega arith
function-count (F.Spec f ∷ forms) (suc i) = let h : length (functions_in (take i forms)) ≤ i = function-count forms i in omega arith
function-count (F.Export f ∷ forms) (suc i) = let h : length (functions_in (take i forms)) ≤ i = function-count forms i in omega arith
function-count (F.RecDef f ∷ forms) (suc i) = let h : length (functions_in (take i forms)) ≤ i = function-count forms i in omega arith
function-count (F.TypeDef f ∷ forms) (suc i) = let h : length (functions_in (take i forms)) ≤ i = function-count forms i in omega arith
function-count (F.Skipped f ∷ forms) (suc i) = let h : length (functions_in (take i forms)) ≤ i = function-count forms i in omega arith

function-inj : (f g : Function) → F.Function f ≡ F.Function g → f ≡ g
function-inj f g e = cc

pub place-function : (forms : List TreeForm) (k : ℕ) (f : Function) → slice_get forms k ≡ Some (F.Function f) → Among f (functions_in forms)
place-function [] k f e = none-some _ e
place-function (F.Function g ∷ forms) zero f e = inl (function-inj f g (some-inj _ _ (sym e)))
place-function (F.Function g ∷ forms) (suc k) f e = inr (place-function forms k f e)
place-function (F.Spec g ∷ forms) zero f e = absurd (cc)
place-function (F.Spec g ∷ forms) (suc k) f e = place-function forms k f e
place-function (F.Export g ∷ forms) zero f e = absurd (cc)
place-function (F.Export g ∷ forms) (suc k) f e = place-function forms k f e
place-function (F.RecDef g ∷ forms) zero f e = absurd (cc)
place-function (F.RecDef g ∷ forms) (suc k) f e = place-function forms k f e
place-function (F.TypeDef g ∷ forms) zero f e = absurd (cc)
place-function (F.TypeDef g ∷ forms) (suc k) f e = place-function forms k f e
place-function (F.Skipped g ∷ forms) zero f e = absurd (cc)
place-function (F.Skipped g ∷ forms) (suc k) f e = place-function forms k f e

-- ---- what is owed

owed-append : (fits : Test) (n : ℕ) (fs gs : List Function) (specs : List FunSpec) → owed_by_functions fits n (fs ++ gs) specs ≡ owed_by_functions fits n fs specs ++ owed_by_functions fits (n + length fs) gs specs
owed-append fits n [] gs specs = let e : n ≡ n + 0 = omega arith in ap (λ k. owed_by_functions fits k gs specs) e
owed-append fits n (f ∷ fs) gs specs =
    let e : (n + 1) + length fs ≡ n + suc (length fs) = omega arith in
    ap (λ z. owed_for_arrows fits n specs f.clauses (arrows_of specs f.name (clauses_arity f.clauses)) ++ z) (owed-append fits (n + 1) fs gs specs ∙ ap (λ k. owed_by_functions fits (n + 1) fs specs ++ owed_by_functions fits k gs specs) e)
    ∙ sym (append_assoc (owed_for_arrows fits n specs f.clauses (arrows_of specs f.name (clauses_arity f.clauses))) (owed_by_functions fits (n + 1) fs specs) (owed_by_functions fits (n + suc (length fs)) gs specs))

-- the functions of the forms so far, and of one more
pub holds-step : (fits : Test) (forms : List TreeForm) (specs : List FunSpec) (i : ℕ) (form : TreeForm) (n next : ℕ) → slice_get forms i ≡ Some form → Every Holds (owed_by_functions fits 0 (functions_in (take i forms)) specs) → n ≡ length (functions_in (take i forms)) →
    Every Holds (owed_by_functions fits n (functions_in (form ∷ [])) specs) → next ≡ n + length (functions_in (form ∷ [])) →
    Every Holds (owed_by_functions fits 0 (functions_in (take (i + 1) forms)) specs) × (next ≡ length (functions_in (take (i + 1) forms)))
holds-step fits forms specs i form n next e h c g d =
    let t : take (i + 1) forms ≡ take i forms ++ form ∷ [] = take-more forms i form e in
    let f : functions_in (take (i + 1) forms) ≡ functions_in (take i forms) ++ functions_in (form ∷ []) = ap functions_in t ∙ functions-append (take i forms) (form ∷ []) in
    let o : owed_by_functions fits 0 (functions_in (take (i + 1) forms)) specs ≡ owed_by_functions fits 0 (functions_in (take i forms)) specs ++ owed_by_functions fits (0 + length (functions_in (take i forms))) (functions_in (form ∷ [])) specs =
    ap (λ z. owed_by_functions fits 0 z specs) f ∙ owed-append fits 0 (functions_in (take i forms)) (functions_in (form ∷ [])) specs in
    let k : n ≡ 0 + length (functions_in (take i forms)) = omega arith in (
      subst (λ z. Every Holds z) (sym o) (every-join Holds _ _ h (subst (λ z. Every Holds (owed_by_functions fits z (functions_in (form ∷ [])) specs)) k g)),
      d ∙ (ap (λ z. z + length (functions_in (form ∷ []))) c ∙ (sym (length-append (functions_in (take i forms)) (functions_in (form ∷ []))) ∙ ap length (sym f))),
    )

pub next-count : (forms : List TreeForm) (i : ℕ) (form : TreeForm) (n next : ℕ) → slice_get forms i ≡ Some form → n ≡ length (functions_in (take i forms)) → next ≡ n + length (functions_in (form ∷ [])) → next ≡ length (functions_in (take (i + 1) forms))
next-count forms i form n next e c d =
    let f : functions_in (take (i + 1) forms) ≡ functions_in (take i forms) ++ functions_in (form ∷ []) = ap functions_in (take-more forms i form e) ∙ functions-append (take i forms) (form ∷ []) in
    d ∙ (ap (λ z. z + length (functions_in (form ∷ []))) c ∙ (sym (length-append (functions_in (take i forms)) (functions_in (form ∷ []))) ∙ ap length (sym f)))

-- ---- failures

pub fails-step : (fits : Test) (m : Module) (i : ℕ) (form : TreeForm) (n : ℕ) (refusal : FirstRefusal) → slice_get m.forms i ≡ Some form → Every Holds (owed_by_functions fits 0 (functions_in (take i m.forms)) (specs_of m)) → n ≡ length (functions_in (take i m.forms)) →
    ShowsFailure (owed_by_functions fits n (functions_in (form ∷ [])) (specs_of m)) (n + length (functions_in (form ∷ []))) refusal → ShowsFailure (owed_of fits m) (length (functions_of m)) refusal
unfolding owed_of
fails-step fits m i form n NoMemory e h c s = tt
fails-step fits m i form n (Failed function place kind shown) e h c s =
    let p : (after : List TreeForm) × (m.forms ≡ take i m.forms ++ form ∷ after) = split-at m.forms i form e in
    let head : List Function = functions_in (take i m.forms) in
    let one : List Function = functions_in (form ∷ []) in
    let f : functions_of m ≡ head ++ (one ++ functions_in p.0) = ap functions_in p.1 ∙ (functions-append (take i m.forms) (form ∷ p.0) ∙ ap (λ z. head ++ z) (functions-append (form ∷ []) p.0)) in
    let k : n ≡ 0 + length head = omega arith in
    let o : owed_by_functions fits 0 (functions_of m) (specs_of m) ≡ owed_by_functions fits 0 head (specs_of m) ++ (owed_by_functions fits n one (specs_of m) ++ owed_by_functions fits (n + length one) (functions_in p.0) (specs_of m)) =
    ap (λ z. owed_by_functions fits 0 z (specs_of m)) f ∙ (owed-append fits 0 head (one ++ functions_in p.0) (specs_of m) ∙ ap (λ z. owed_by_functions fits 0 head (specs_of m) ++ z) (ap (λ j. owed_by_functions fits j (one ++ functions_in p.0) (specs_of m)) (sym k) ∙ owed-append fits n one (functions_in p.0) (specs_of m))) in
    let l : length (functions_of m) ≡ length head + (length one + length (functions_in p.0)) = ap length f ∙ (length-append head (one ++ functions_in p.0) ∙ ap (λ z. length head + z) (length-append one (functions_in p.0))) in
    let b : function < n + length one = s.1 in
    (subst (λ z. IsFirstFailure z function place kind shown) (sym o) (failure-within (owed_by_functions fits 0 head (specs_of m)) (owed_by_functions fits n one (specs_of m)) (owed_by_functions fits (n + length one) (functions_in p.0) (specs_of m)) function place kind shown h s.0), omega arith)
