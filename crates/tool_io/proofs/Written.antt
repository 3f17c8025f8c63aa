-- What was written after a put that broke off.
use Rattle.std.proofs.Common.{◌≡◌, ◌∙◌, ℕ, List, [], ◌++◌, refl, sym, ap, subst, append_assoc, take, drop, Option, Some, None, Result, Ok, Err, OnErr, true}
use Rattle.std.specs.Result.{is_err}
use Rattle.std.proofs.lemmas.List.{take-append-drop}
use Rattle.tool_io.specs.Outside.{PutsBeginning}

-- a beginning came behind what was written
pub puts_taken : (old new text : List ℕ) (n : ℕ) → new ≡ old ++ take n text → PutsBeginning (Some old) (Some new) text
puts_taken old new text n e = (take n text, (drop n text, sym (take-append-drop n text)), λ before told. ap Some e ∙ ap (λ xs. Some (xs ++ take n text)) (some-injective told))
  where
    some-injective : {x y : List ℕ} → Some x ≡ Some y → x ≡ y
    some-injective h = cc

-- nothing is told
pub puts_untold : (text : List ℕ) → PutsBeginning None None text
puts_untold text = ([], (text, refl), λ before told. absurd (cc))

-- a beginning of a text's first bytes is one of the text
puts_shorter : (before after : Option (List ℕ)) (text : List ℕ) (n : ℕ) → PutsBeginning before after (take n text) → PutsBeginning before after text
puts_shorter before after text n begun =
    (begun.0, (begun.1.0 ++ drop n text, sym (take-append-drop n text) ∙ ap (λ xs. xs ++ drop n text) begun.1.1 ∙ append_assoc begun.0 begun.1.0 (drop n text)), begun.2)

-- a beginning of the first bytes came behind what was written
pub puts_first : (old middle new first given text : List ℕ) (n : ℕ) → middle ≡ old → first ≡ take n given → given ≡ text → PutsBeginning (Some middle) (Some new) first → PutsBeginning (Some old) (Some new) text
puts_first old middle new first given text n kept first_is given_is begun =
    let in_first : PutsBeginning (Some middle) (Some new) (take n text) = subst (λ (xs : List ℕ). PutsBeginning (Some middle) (Some new) xs) (first_is ∙ ap (λ xs. take n xs) given_is) begun in
    subst (λ (xs : List ℕ). PutsBeginning (Some xs) (Some new) text) kept (puts_shorter (Some middle) (Some new) text n in_first)

-- what is said of an error holds where there is one
pub on_err : {A E : Type 0} (P : Type 0) (result : Result A E) → is_err result ≡ true → OnErr result P → P
on_err P (Ok value) failed said = absurd (cc)
on_err P (Err error) failed said = said
