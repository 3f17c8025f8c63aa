-- What is there of each form, one form after the other.
use Rattle.std.proofs.Common.{◌≡◌, ◌∙◌, ℕ, ◌+◌, ◌<◌, List, [], ◌∷◌, ◌++◌, refl, ap, sym, subst, length, take, drop, get_or, append_assoc, append-nil, Option, Some, None, Bool, true, false}
use Rattle.std.specs.Prelude.{slice_get}
use Rattle.std.proofs.lemmas.List.{take-append-drop}
use Rattle.std.proofs.lemmas.Option.{slice_get_read}
use Rattle.erl_tree.specs.declared.form.TreeForm.{TreeForm}
use Rattle.erl_runs.specs.Specs.{and_then, all_present}
use Rattle.typespecs.specs.Reads.{added, given_all}
use Rattle.typespecs.proofs.Arrows.{take_is}
use Rattle.typespecs.proofs.Inversion.{some-is, false-true}

-- ---- lists of what may be there

pub both-there : {A : Type 0} (xs ys : List (Option A)) (own more : List A) → all_present xs ≡ Some own → all_present ys ≡ Some more → all_present (xs ++ ys) ≡ Some (own ++ more)
both-there [] ys own more e f = f ∙ ap (λ zs. Some (zs ++ more)) (some-is e)
both-there (None ∷ xs) ys own more e f = absurd (cc)
both-there {A = A} (Some x ∷ xs) ys own more e f = by (all_present xs) refl e (λ rest is. both-there xs ys rest more is f)
  where
    by : (o : Option (List A)) → all_present xs ≡ o → and_then o (λ rest. Some (x ∷ rest)) ≡ Some own → ((rest : List A) → all_present xs ≡ Some rest → all_present (xs ++ ys) ≡ Some (rest ++ more)) → all_present (Some x ∷ (xs ++ ys)) ≡ Some (own ++ more)
    by None is e again = absurd (cc)
    by (Some rest) is e again = ap (λ o. and_then o (λ rest. Some (x ∷ rest))) (again rest is) ∙ ap (λ zs. Some (zs ++ more)) (some-is e)

pub none-behind : {A : Type 0} (xs ys : List (Option A)) → all_present ys ≡ None → all_present (xs ++ ys) ≡ None
none-behind [] ys e = e
none-behind (None ∷ xs) ys e = refl
none-behind (Some x ∷ xs) ys e = ap (λ o. and_then o (λ more. Some (x ∷ more))) (none-behind xs ys e)

none-rest : {A : Type 0} (x : A) (o : Option (List A)) → and_then o (λ more. Some (x ∷ more)) ≡ None → o ≡ None
none-rest x None e = refl
none-rest x (Some zs) e = absurd (cc)

pub none-before : {A : Type 0} (xs ys : List (Option A)) → all_present xs ≡ None → all_present (xs ++ ys) ≡ None
none-before [] ys e = absurd (cc)
none-before (None ∷ xs) ys e = refl
none-before (Some x ∷ xs) ys e = ap (λ o. and_then o (λ more. Some (x ∷ more))) (none-before xs ys (none-rest x (all_present xs) e))

-- ---- one that is added

pub one-added : {A : Type 0} (o : Option A) (b : Bool) (old new : List A) → added o b old new → given_all (all_present (o ∷ [])) b old new
one-added None true old new is = absurd (false-true (sym is.0))
one-added None false old new is = refl
one-added (Some x) true old new is = (x ∷ [], refl, is.1)
one-added (Some x) false old new is = absurd (false-true is.0)

pub nothing-added : {A : Type 0} (old : List A) → given_all (Some []) true old old
nothing-added old = ([], refl, sym (append-nil old))

-- ---- form by form

module _ {A : Type 0} (of_forms : List TreeForm → List (Option A)) (append : (xs ys : List TreeForm) → of_forms (xs ++ ys) ≡ of_forms xs ++ of_forms ys) (forms : List TreeForm) where
  -- what the first so many forms add
  abbrev pub AddedTo : ℕ → List A → List A → Type 0
  AddedTo i old new = given_all (all_present (of_forms (take i forms))) true old new

  module _ (i : ℕ) (form : TreeForm) (inside : i < length forms) (is : form ≡ get_or forms i form) where
    at : slice_get forms i ≡ Some form
    at = slice_get_read forms (length forms) i form refl inside is

    pub added-next : (old now new : List A) → AddedTo i old now → given_all (all_present (of_forms (form ∷ []))) true now new → AddedTo (i + 1) old new
    added-next old now new so_far one = (
      so_far.0 ++ one.0,
      ap (λ fs. all_present (of_forms fs)) (take_is forms i form at) ∙ (ap all_present (append (take i forms) (form ∷ [])) ∙ both-there (of_forms (take i forms)) (of_forms (form ∷ [])) so_far.0 one.0 so_far.1 one.1),
      one.2 ∙ (ap (λ xs. xs ++ one.0) so_far.2 ∙ append_assoc old so_far.0 one.0),
    )

    pub added-stops : (old new : List A) → all_present (of_forms (form ∷ [])) ≡ None → given_all (all_present (of_forms forms)) false old new
    added-stops old new none =
        subst (λ fs. all_present (of_forms fs) ≡ None) (take-append-drop (i + 1) forms)
        (ap all_present (append (take (i + 1) forms) (drop (i + 1) forms)) ∙ none-before (of_forms (take (i + 1) forms)) (of_forms (drop (i + 1) forms))
        (ap (λ fs. all_present (of_forms fs)) (take_is forms i form at) ∙ (ap all_present (append (take i forms) (form ∷ [])) ∙ none-behind (of_forms (take i forms)) (of_forms (form ∷ [])) none)))
