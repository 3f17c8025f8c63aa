-- The parameters of a type, one more behind others.
use Rattle.std.proofs.Common.{◌≡◌, ◌∙◌, ℕ, ◌+◌, List, [], ◌∷◌, ◌++◌, refl, ap, sym, length, Option, Some, None, Bool, true, false, arith}
use Rattle.std.specs.Prelude.{cond, is_some}
use Rattle.std.specs.Borrow.{Bor}
use Rattle.std.specs.Option.{option_map, option_or, option_copied}
use Rattle.type_terms.specs.Keys.{Name, same_name}
use Rattle.type_terms.specs.declared.term.Term.{Term, Var}
use Rattle.type_terms.proofs.KeyLaws.{name-is}
use Rattle.typespecs_rules.specs.Declarations.{position}
use Rattle.typespecs_rules.specs.TypeVariables.{parameters}
use Rattle.typespecs_clauses.proofs.NameLaws.{position-push, same-sym}

abbrev by_place : Option ℕ → Option Term
by_place p = option_map (λ i. Var (0 + i)) p

new-step : (p : Option ℕ) (b : Bool) (n k : ℕ) → k ≡ n → (b ≡ true → is_some p ≡ false) → cond b (Some (Var n)) (by_place p) ≡ by_place (option_or p (cond b (Some k) None))
new-step None true n k e h = ap (λ i. Some (Var i)) (sym e ∙ from-zero k)
  where
    from-zero : (k : ℕ) → k ≡ 0 + k
    from-zero k = grind (arith)
new-step None false n k e h = refl
new-step (Some i) true n k e h = absurd (impossible (h refl))
  where
    impossible : true ≡ false → ⊥
    impossible e = absurd (cc)
new-step (Some i) false n k e h = refl

known-step : (p : Option ℕ) (b : Bool) (k : ℕ) → (b ≡ true → is_some p ≡ true) → by_place p ≡ by_place (option_or p (cond b (Some k) None))
known-step None true k h = absurd (impossible (h refl))
  where
    impossible : false ≡ true → ⊥
    impossible e = absurd (cc)
known-step None false k h = refl
known-step (Some i) b k h = refl

there : (p : Option ℕ) → is_some (by_place p) ≡ is_some p
there None = refl
there (Some i) = refl

module _ (xs : List Name) (y : Name) (old : Name → Option Term) (so_far : (x : Name) → old x ≡ parameters xs x) where
  stands : (x : Name) (b : Bool) → is_some (old y) ≡ b → same_name x y ≡ true → is_some (position (same_name x) xs) ≡ b
  stands x b is e = sym (there (position (same_name x) xs)) ∙ (ap is_some (sym (so_far x)) ∙ (ap (λ z. is_some (old z)) (name-is x y e) ∙ is))

  -- a name that is new has the next number
  pub new-parameter : (n : ℕ) (new : Name → Option Term) → length xs ≡ n → is_some (old y) ≡ false → ((x : Name) → new x ≡ cond (same_name y x) (Some (Var n)) (old x)) → (x : Name) → new x ≡ parameters (xs ++ y ∷ []) x
  new-parameter n new counted is_new inserted x =
      inserted x ∙ (ap (λ b. cond b (Some (Var n)) (old x)) (same-sym y x) ∙ (ap (cond (same_name x y) (Some (Var n))) (so_far x)
      ∙ (new-step (position (same_name x) xs) (same_name x y) n (length xs) counted (stands x false is_new) ∙ ap by_place (sym (position-push (same_name x) xs y)))))

  -- one that stood before keeps its own
  pub known-parameter : is_some (old y) ≡ true → (x : Name) → old x ≡ parameters (xs ++ y ∷ []) x
  known-parameter is_known x =
      so_far x ∙ (known-step (position (same_name x) xs) (same_name x y) (length xs) (stands x true is_known) ∙ ap by_place (sym (position-push (same_name x) xs y)))

-- a term that is looked up is there where it is there in the table
pub copied-there : (o : Option (Bor Term)) → is_some (option_copied o) ≡ is_some o
copied-there None = refl
copied-there (Some b) = refl
