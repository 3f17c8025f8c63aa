-- A function of a module is found among those of its code, with the number of the first fun expression in it.
use Rattle.std.proofs.Common.{◌≡◌, ap, ℕ, List, [], ◌∷◌}
use Rattle.std.specs.Prelude.{Bool, true, false, Some, cond, if◌then◌else◌}
use Rattle.type_terms.specs.Keys.{Name}
use Rattle.erl_tree.specs.declared.form.Function.{Function}
use Rattle.erl_tree.specs.Functions.{has_id, find_function}
use Rattle.erl_runs.specs.Running.{behind, funs_in_function, numbered, find_numbered}
use Rattle.cert_checker.proofs.Lists.{some-inj, none-some}

-- the function is found, with some number
abbrev IsFound : List (Function × ℕ) → Name → ℕ → Function → Type 0
IsFound fs name arity f = (first : ℕ) × (find_numbered fs name arity ≡ Some (f, first))

pub found-numbered : (fs : List Function) (name : Name) (arity number : ℕ) (f : Function) → find_function fs name arity ≡ Some f → (first : ℕ) × (find_numbered (numbered fs number) name arity ≡ Some (f, first))
found-numbered [] name arity number f e = none-some f e
found-numbered (g ∷ fs) name arity number f e = go (has_id name arity g) e (found-numbered fs name arity (behind number (funs_in_function g)) f)
  where
    rest : List (Function × ℕ)
    rest = numbered fs (behind number (funs_in_function g))

    go : (b : Bool) → (if b then Some g else find_function fs name arity) ≡ Some f → (find_function fs name arity ≡ Some f → IsFound rest name arity f) → (first : ℕ) × (cond b (Some (g, number)) (find_numbered rest name arity) ≡ Some (f, first))
    go true e later = (number, ap (λ z. Some (z, number)) (some-inj g f e))
    go false e later = later e
