-- The function with a number among forms.
use Rattle.std.proofs.Common.{◌≡◌, ◌∙◌, ◌<◌, ◌≤◌, ℕ, zero, suc, List, [], ◌∷◌, length, take, get_or, slice_get, Some, None, ap, sym, subst, arith}
use Rattle.std.proofs.lemmas.Option.{slice_get_past}
use Rattle.std.proofs.Math.Seq.{take-length}
use Rattle.erl_tree.specs.declared.form.Function.{Function}
use Rattle.erl_tree.specs.declared.form.TreeForm.{TreeForm}
use Rattle.erl_tree.specs.declared.form.TreeForm.TheVariants as F
use Rattle.erl_tree.specs.Functions.{functions_in}

first_found : (x : TreeForm) (xs : List TreeForm) (f : Function) → x ≡ F.Function f → slice_get (functions_in (x ∷ xs)) 0 ≡ Some f
first_found (F.Function g) xs f e = ap Some (same g f e)
  where
    same : (g f : Function) → F.Function g ≡ F.Function f → g ≡ f
    same g f e = cc
first_found (F.Export x) xs f e = absurd (cc)
first_found (F.RecDef x) xs f e = absurd (cc)
first_found (F.TypeDef x) xs f e = absurd (cc)
first_found (F.Spec x) xs f e = absurd (cc)
first_found (F.Skipped x) xs f e = absurd (cc)

found : (forms : List TreeForm) (i : ℕ) (f : Function) → i < length forms → get_or forms i (F.Function f) ≡ F.Function f → slice_get (functions_in forms) (length (functions_in (take i forms))) ≡ Some f
found [] i f within e = absurd (omega arith)
found (x ∷ xs) zero f within e = first_found x xs f e
found (F.Function g ∷ xs) (suc i) f within e = found xs i f (omega arith) e
found (F.Export x ∷ xs) (suc i) f within e = found xs i f (omega arith) e
found (F.RecDef x ∷ xs) (suc i) f within e = found xs i f (omega arith) e
found (F.TypeDef x ∷ xs) (suc i) f within e = found xs i f (omega arith) e
found (F.Spec x ∷ xs) (suc i) f within e = found xs i f (omega arith) e
found (F.Skipped x ∷ xs) (suc i) f within e = found xs i f (omega arith) e

-- a function form has the number of the functions before it
pub function_found : (forms : List TreeForm) (i before number : ℕ) (form : TreeForm) (f : Function) → i < length forms → form ≡ get_or forms i form → form ≡ F.Function f
    → before ≡ length (functions_in (take i forms)) → before ≡ number → Some f ≡ slice_get (functions_in forms) number
function_found forms i before number form f within at is counted here =
    sym (subst (λ (n : ℕ). slice_get (functions_in forms) n ≡ Some f) (sym counted ∙ here)
    (found forms i f within (subst (λ (x : TreeForm). get_or forms i x ≡ x) is (sym at))))

-- no function has a number past the last one
pub none_found : (forms : List TreeForm) (i before number : ℕ) → i ≡ length forms → before ≡ length (functions_in (take i forms)) → before ≤ number → None ≡ slice_get (functions_in forms) number
none_found forms i before number end counted passed =
    let whole : take i forms ≡ forms = ap (λ n. take n forms) end ∙ take-length forms in
    let all : length (functions_in (take i forms)) ≡ length (functions_in forms) = ap (λ xs. length (functions_in xs)) whole in
    sym (slice_get_past (functions_in forms) number (omega arith))
