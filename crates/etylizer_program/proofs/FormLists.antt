-- The functions and the specs among forms, one list of forms behind another.
use Rattle.std.proofs.Common.{◌≡◌, List, [], ◌∷◌, ◌++◌, refl, ap}
use Rattle.erl_tree.specs.declared.form.TreeForm.{TreeForm}
use Rattle.erl_tree.specs.declared.form.TreeForm.TheVariants as F
use Rattle.erl_tree.specs.Functions.{functions_in}
use Rattle.erl_runs.specs.Specs.{specs_in}

pub functions_in_append : (xs ys : List TreeForm) → functions_in (xs ++ ys) ≡ functions_in xs ++ functions_in ys
functions_in_append [] ys = refl
functions_in_append (F.Function f ∷ xs) ys = ap (λ fs. f ∷ fs) (functions_in_append xs ys)
functions_in_append (F.Export x ∷ xs) ys = functions_in_append xs ys
functions_in_append (F.RecDef x ∷ xs) ys = functions_in_append xs ys
functions_in_append (F.TypeDef x ∷ xs) ys = functions_in_append xs ys
functions_in_append (F.Spec x ∷ xs) ys = functions_in_append xs ys
functions_in_append (F.Skipped x ∷ xs) ys = functions_in_append xs ys

pub specs_in_append : (xs ys : List TreeForm) → specs_in (xs ++ ys) ≡ specs_in xs ++ specs_in ys
specs_in_append [] ys = refl
specs_in_append (F.Spec s ∷ xs) ys = ap (λ ss. s ∷ ss) (specs_in_append xs ys)
specs_in_append (F.Export x ∷ xs) ys = specs_in_append xs ys
specs_in_append (F.RecDef x ∷ xs) ys = specs_in_append xs ys
specs_in_append (F.TypeDef x ∷ xs) ys = specs_in_append xs ys
specs_in_append (F.Function x ∷ xs) ys = specs_in_append xs ys
specs_in_append (F.Skipped x ∷ xs) ys = specs_in_append xs ys
