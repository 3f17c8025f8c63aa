-- A function that isn't built in has no meaning as a built-in one.
use Rattle.std.proofs.Common.{◌≡◌, refl, ℕ, List, [], ◌∷◌, length}
use Rattle.std.specs.Prelude.{Bool, true, false, ◌&&◌, Some, None, if◌then◌else◌, codes}
use Rattle.std.specs.List.{list_any}
use Rattle.std.proofs.lemmas.Bool.{or_parts}
use Rattle.type_terms.specs.Keys.{Name, same_name}
use Rattle.erl_tree.specs.Lists.{Every}
use Rattle.erl_tree.specs.Functions.{FunctionId, of_function}
use Rattle.erl_runs.specs.Names.{built_ins, same_id, is_built_in}
use Rattle.erl_runs.specs.Value.{Value, error, exit, throw}
use Rattle.erl_runs.specs.Operations.{elements_of, is_atom, is_boolean, is_integer, is_list, is_map, is_tuple, is_function, test_named, head_of, tail_of, count_of, tuple_size_of, map_size_of, absolute_of, operation_named, class_named, first_built_in, has_arity, built_in}

none-of : (p : FunctionId → Bool) (ids : List FunctionId) → list_any p ids ≡ false → Every (λ id. p id ≡ false) ids
none-of p [] e = tt
none-of p (id ∷ ids) e = let r : (p id ≡ false) × (list_any p ids ≡ false) = or_parts (p id) (list_any p ids) e in (r.0, none-of p ids r.1)

-- where the numbers of parameters agree, the names differ
other : (b : Bool) → (b && true) ≡ false → b ≡ false
other true e = e
other false e = refl

module _ (name : Name) where
  -- none of the built-in functions has this name and so many parameters
  abbrev IsOther : ℕ → Type 0
  IsOther n = Every (λ id. same_id (of_function name n) id ≡ false) built_ins

  no-test : IsOther 1 → test_named name ≡ None
  no-test h = λ j.
      if other (same_name name (codes "is_atom")) h.0 j then Some is_atom else
      if other (same_name name (codes "is_boolean")) h.1.0 j then Some is_boolean else
      if other (same_name name (codes "is_integer")) h.1.1.0 j then Some is_integer else
      if other (same_name name (codes "is_list")) h.1.1.1.0 j then Some is_list else
      if other (same_name name (codes "is_map")) h.1.1.1.1.0 j then Some is_map else
      if other (same_name name (codes "is_tuple")) h.1.1.1.1.1.0 j then Some is_tuple else
      if other (same_name name (codes "is_function")) h.1.1.1.1.1.1.0 j then Some is_function else None

  no-operation : IsOther 1 → operation_named name ≡ None
  no-operation h = λ j.
      if other (same_name name (codes "hd")) h.1.1.1.1.1.1.1.1.0 j then Some head_of else
      if other (same_name name (codes "tl")) h.1.1.1.1.1.1.1.1.1.0 j then Some tail_of else
      if other (same_name name (codes "length")) h.1.1.1.1.1.1.1.1.1.1.0 j then Some (λ v. count_of (elements_of v)) else
      if other (same_name name (codes "tuple_size")) h.1.1.1.1.1.1.1.1.1.1.1.0 j then Some tuple_size_of else
      if other (same_name name (codes "map_size")) h.1.1.1.1.1.1.1.1.1.1.1.1.0 j then Some map_size_of else
      if other (same_name name (codes "abs")) h.1.1.1.1.1.1.1.1.1.1.1.1.1.0 j then Some absolute_of else None

  no-class : IsOther 1 → class_named name ≡ None
  no-class h = λ j.
      if other (same_name name (codes "error")) h.1.1.1.1.1.1.1.1.1.1.1.1.1.1.0 j then Some error else
      if other (same_name name (codes "throw")) h.1.1.1.1.1.1.1.1.1.1.1.1.1.1.1.0 j then Some throw else
      if other (same_name name (codes "exit")) h.1.1.1.1.1.1.1.1.1.1.1.1.1.1.1.1.0 j then Some exit else None

  one-none : (arity : Value → ℕ) (v : Value) → IsOther 1 → built_in arity name (v ∷ []) ≡ None
  one-none arity v h = λ j. first_built_in (no-test h j) (no-operation h j) (no-class h j) v

  two-none : (arity : Value → ℕ) (v w : Value) → IsOther 2 → built_in arity name (v ∷ w ∷ []) ≡ None
  two-none arity v w h = λ j. if other (same_name name (codes "is_function")) h.1.1.1.1.1.1.1.0 j then Some (has_arity arity v w) else None

  pub not-built_in : (arity : Value → ℕ) (vs : List Value) → is_built_in (of_function name (length vs)) ≡ false → built_in arity name vs ≡ None
  not-built_in arity [] e = refl
  not-built_in arity (v ∷ []) e = one-none arity v (none-of (same_id (of_function name 1)) built_ins e)
  not-built_in arity (v ∷ w ∷ []) e = two-none arity v w (none-of (same_id (of_function name 2)) built_ins e)
  not-built_in arity (u ∷ v ∷ w ∷ vs) e = refl
