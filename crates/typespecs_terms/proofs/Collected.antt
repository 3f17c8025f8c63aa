-- Lists that are collected one by one.
use Rattle.std.proofs.Common.{◌≡◌, refl, sym, ap, ◌∙◌, ℕ, ◌+◌, ◌<◌, List, [], ◌∷◌, ◌++◌, map, take, get_or, length, add-one, Option, Some, None, option_map}
use Rattle.std.proofs.Math.Seq.{take-suc}
use Rattle.std.proofs.lemmas.List.{map-append}
use Rattle.erl_runs.specs.Specs.{and_then, all_present}
use Rattle.typespecs_terms.specs.Collecting.{added}

module _ {B : Type 0} where
  added-first : (a : B) (list : Option (List B)) (x : Option B) → and_then (added list x) (λ more. Some (a ∷ more)) ≡ added (and_then list (λ more. Some (a ∷ more))) x
  added-first a None x = refl
  added-first a (Some l) None = refl
  added-first a (Some l) (Some y) = refl

  all_present-last : (xs : List (Option B)) (x : Option B) → all_present (xs ++ x ∷ []) ≡ added (all_present xs) x
  all_present-last [] None = refl
  all_present-last [] (Some y) = refl
  all_present-last (None ∷ xs) x = refl
  all_present-last (Some a ∷ xs) x = ap (λ p. and_then p (λ more. Some (a ∷ more))) (all_present-last xs x) ∙ added-first a (all_present xs) x

module _ {A B : Type 0} (f : A → Option B) where
  -- one more of a list's elements
  pub collected : (ts : List A) (i : ℕ) (t : A) (list : Option (List B)) (item : Option B) → i < length ts → t ≡ get_or ts i t → list ≡ all_present (map f (take i ts)) → item ≡ f t → added list item ≡ all_present (map f (take (i + 1) ts))
  collected ts i t list item below is sofar item-is =
      (λ k. added (sofar k) (item-is k))
      ∙ sym (ap (λ l. all_present (map f l)) front ∙ ap all_present (map-append f (take i ts) (t ∷ [])) ∙ all_present-last (map f (take i ts)) (f t))
    where
      front : take (i + 1) ts ≡ take i ts ++ t ∷ []
      front = ap (λ n. take n ts) (add-one i) ∙ take-suc ts i t below ∙ ap (λ x. take i ts ++ x ∷ []) (sym is)

-- what is added to others, seen another way
pub added-mapped : {A B : Type 0} (g : A → B) (list : Option (List A)) (item : Option A) → option_map (map g) (added list item) ≡ added (option_map (map g) list) (option_map g item)
added-mapped g None item = refl
added-mapped g (Some l) None = refl
added-mapped g (Some l) (Some x) = ap Some (map-append g l (x ∷ []))
