-- What the tests of the parts of a list say of the list.
use Rattle.std.proofs.Common.{◌≡◌, Bool, true, false, List, [], ◌∷◌, ◌++◌, ◌↔◌, sym, ◌∙◌, subst, true≢false}
use Rattle.std.specs.Prelude.{IsTrue, IfOk, Result, Ok, Err}
use Rattle.erl_tree.specs.Lists.{Every}
use Rattle.flat_tests.proofs.Everywhere.{Every-append, Every-front, Every-back, Every-made, Every-unmade}

module _ {A : Type 0} (P : A → Type 0) where
  pub of_same : (b : Bool) (xs ys : List A) → xs ≡ ys → (IsTrue b ↔ Every P ys) → IsTrue b ↔ Every P xs
  of_same b xs ys e says = subst (λ zs. IsTrue b ↔ Every P zs) (sym e) says

  pub of_one : (b : Bool) (x : A) → (IsTrue b ↔ P x) → IsTrue b ↔ Every P (x ∷ [])
  of_one b x says = ((λ e. (says.0 e, tt)), λ h. says.1 h.0)

  module _ (xs ys : List A) (a : Bool) (says : IsTrue a ↔ Every P xs) where
    pub of_both : (b : Bool) → a ≡ true → (IsTrue b ↔ Every P ys) → IsTrue b ↔ Every P (xs ++ ys)
    of_both b holds tells = ((λ e. Every-append P xs ys (says.0 holds) (tells.0 e)), λ h. tells.1 (Every-back P xs ys h))

    pub of_first : (b : Bool) → a ≡ false → b ≡ false → IsTrue b ↔ Every P (xs ++ ys)
    of_first b fails is = ((λ e. absurd (true≢false (sym e ∙ is))), λ h. absurd (true≢false (sym (says.1 (Every-front P xs ys h)) ∙ fails)))

-- a list that is made of a list for each item
module _ {A B : Type 0} (P : B → Type 0) (f : A → List B) (made : List A → List B) (none : made [] ≡ []) (more : (x : A) (xs : List A) → made (x ∷ xs) ≡ f x ++ made xs) where
  pub of_all : (xs : List A) (b : Bool) → (IsTrue b ↔ Every (λ x. Every P (f x)) xs) → IsTrue b ↔ Every P (made xs)
  of_all xs b says = ((λ e. Every-made f made P none more xs (says.0 e)), λ h. says.1 (Every-unmade f made P none more xs h))

-- what follows of an answer, unless there is none
pub if_answered : {A E : Type 0} (P Q : A → Type 0) → ((a : A) → P a → Q a) → (r : Result A E) → IfOk r P → IfOk r Q
if_answered P Q f (Ok a) h = f a h
if_answered P Q f (Err e) h = h
