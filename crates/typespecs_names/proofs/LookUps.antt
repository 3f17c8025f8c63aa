-- Look-ups by name and number of parameters.
use Rattle.std.proofs.Common.{◌≡◌, ℕ, Bool, true, false, ◌&&◌, cond, List, [], ◌∷◌, inl, inr, refl, sym, ap, ap₂, ◌∙◌, subst, Option, Some, None, true≢false, nat_eq, arith}
use Rattle.std.proofs.lemmas.Bool.Decides.{Decides-eqb, nat_tests}
use Rattle.type_terms.specs.Keys.{Name, same_name}
use Rattle.type_terms.proofs.KeyLaws.{name-is, name-refl}
use Rattle.erl_tree.specs.Lists.{Among, AreDistinct}
use Rattle.erl_tree.specs.Functions.{FunctionId, of_function}
use Rattle.erl_runs.specs.Names.{same_id}
use Rattle.name_table.specs.Table.{Entry, ids, IsFound}
use Rattle.name_table.proofs.Lookups.{Among-ids}
use Rattle.typespecs_names.specs.Numbers.{first_number}

pub same_id-itself : (f : FunctionId) → same_id f f ≡ true
same_id-itself f = ap₂ ◌&&◌ (name-refl f.name) ((Decides-eqb f.arity f.arity).1 refl)

pub same_id-is : (f g : FunctionId) → same_id f g ≡ true → f ≡ g
same_id-is f g h = by (same_name f.name g.name) refl (nat_eq f.arity g.arity) refl h
  where
    by : (a : Bool) → same_name f.name g.name ≡ a → (b : Bool) → nat_eq f.arity g.arity ≡ b → (a && b) ≡ true → f ≡ g
    by true p true q k = λ j. of_function (name-is f.name g.name p j) ((Decides-eqb f.arity g.arity).0 q j)
    by true p false q k = absurd (true≢false (sym k))
    by false p b q k = absurd (true≢false (sym k))

pub eq-sym : (m n : ℕ) → nat_eq m n ≡ nat_eq n m
eq-sym m n = grind (arith, nat_tests)

pub name-sym : (m n : Name) → same_name m n ≡ same_name n m
name-sym [] [] = refl
name-sym [] (y ∷ n) = refl
name-sym (x ∷ m) [] = refl
name-sym (x ∷ m) (y ∷ n) = ap₂ ◌&&◌ (eq-sym x y) (name-sym m n)

first-among : (es : List Entry) (id : FunctionId) (n : ℕ) → AreDistinct (ids es) → Among (id, n) es → first_number es id ≡ Some n
first-among [] id n distinct h = absurd h
first-among (e ∷ es) id n distinct h = by (same_id id e.0) refl h (first-among es id n distinct.1)
  where
    by : (b : Bool) → same_id id e.0 ≡ b → Among (id, n) (e ∷ es) → (Among (id, n) es → first_number es id ≡ Some n) → cond b (Some e.1) (first_number es id) ≡ Some n
    by true p (inl is) among = ap (λ (x : Entry). Some x.1) (sym is)
    by true p (inr later) among = absurd (distinct.0 (subst (λ (g : FunctionId). Among g (ids es)) (same_id-is id e.0 p) (Among-ids id n es later)))
    by false p (inl is) among = absurd (true≢false (sym (same_id-itself id) ∙ (ap (λ (x : Entry). same_id id x.0) is ∙ p)))
    by false p (inr later) among = among later

first-none : (es : List Entry) (id : FunctionId) → (Among id (ids es) → ⊥) → first_number es id ≡ None
first-none [] id h = refl
first-none (e ∷ es) id h = by (same_id id e.0) refl (first-none es id (λ later. h (inr later)))
  where
    by : (b : Bool) → same_id id e.0 ≡ b → first_number es id ≡ None → cond b (Some e.1) (first_number es id) ≡ None
    by true p none = absurd (h (inl (same_id-is id e.0 p)))
    by false p none = none

-- what a look-up finds is the first
pub found-first : (es : List Entry) (id : FunctionId) (o : Option ℕ) → AreDistinct (ids es) → IsFound es id o → o ≡ first_number es id
found-first es id (Some n) distinct h = sym (first-among es id n distinct h)
found-first es id None distinct h = sym (first-none es id h)
