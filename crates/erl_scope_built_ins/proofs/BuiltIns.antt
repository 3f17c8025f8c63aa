-- The test of built-in functions, by their arities.
use Rattle.std.proofs.Common.{◌≡◌, ℕ, Bool, true, false, ◌&&◌, ◌||◌, [], ◌∷◌, nat_eq, refl, ap}
use Rattle.std.specs.List.{list_any}
use Rattle.std.specs.Str.{bytes_eq}
use Rattle.std.specs.Prelude.{codes}
use Rattle.std.proofs.lemmas.Bool.{false_from_ne_true}
use Rattle.std.proofs.lemmas.Bool.Decides.{Decides-eqb}
use Rattle.type_terms.specs.Keys.{Name, same_name}
use Rattle.erl_runs.specs.Names.{is_built_in}
use Rattle.erl_tree.specs.Functions.{of_function}
use Rattle.erl_scope_built_ins.specs.Parts.{type_tests, operations, exceptions}

pub same_name-bytes : (m n : Name) → same_name m n ≡ bytes_eq m n
same_name-bytes [] [] = refl
same_name-bytes [] (y ∷ n) = refl
same_name-bytes (x ∷ m) [] = refl
same_name-bytes (x ∷ m) (y ∷ n) = ap (λ b. nat_eq x y && b) (same_name-bytes m n)

and_true : (b : Bool) → (b && true) ≡ b
and_true true = refl
and_true false = refl

and_false : (b : Bool) → (b && false) ≡ false
and_false true = refl
and_false false = refl

or_assoc : (a b c : Bool) → ((a || b) || c) ≡ (a || (b || c))
or_assoc true b c = refl
or_assoc false b c = refl

or_false : (b : Bool) → (b || false) ≡ b
or_false true = refl
or_false false = refl

pub of_one : (name : Name) → is_built_in (of_function name 1) ≡ (list_any (bytes_eq name) type_tests || (list_any (bytes_eq name) operations || list_any (bytes_eq name) exceptions))
of_one name = simp (same_name-bytes, and_true, and_false, or_assoc, or_false)

pub of_two : (name : Name) → is_built_in (of_function name 2) ≡ bytes_eq name (codes "is_function")
of_two name = simp (same_name-bytes, and_true, and_false, or_false)

other : (n k : ℕ) → (n ≡ k → ⊥) → nat_eq n k ≡ false
other n k apart = false_from_ne_true (nat_eq n k) (λ e. apart ((Decides-eqb n k).0 e))

pub of_others : (name : Name) (n : ℕ) → (n ≡ 1 → ⊥) → (n ≡ 2 → ⊥) → is_built_in (of_function name n) ≡ false
of_others name n one two = simp (other n 1 one, other n 2 two, and_false)
