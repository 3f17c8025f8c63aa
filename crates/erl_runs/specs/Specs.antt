-- What definitions of specs are made of (Erlang Reference Manual, "Types and Function Specifications").
use Rattle.std.specs.Prelude.{ℤ, List, [], ◌∷◌, Option, Some, None, if◌then◌else◌}
use Rattle.type_terms.specs.Reading.{le_int}
use Rattle.type_terms.specs.declared.term.Term.{Term, Ints}
use Rattle.type_terms.specs.declared.spec.FunSpec.{FunSpec}
use Rattle.erl_tree.specs.declared.token.Node.{Node}
use Rattle.erl_tree.specs.declared.form.SpecKind.{SpecKind}
use Rattle.erl_tree.specs.declared.form.TreeForm.{TreeForm}
use Rattle.erl_tree.specs.declared.form.TreeForm.TheVariants as F
use Rattle.erl_tree.specs.Functions.{FunctionId, of_function, spec_clauses_arity}

-- the next step, where there is a value
abbrev pub and_then : {A B : Type 0} → Option A → (A → Option B) → Option B
and_then None f = None
and_then (Some a) f = f a

-- each of them, where none is absent
abbrev pub all_present : {A : Type 0} → List (Option A) → Option (List A)
all_present [] = Some []
all_present (o ∷ os) = and_then o (λ a. and_then (all_present os) (λ more. Some (a ∷ more)))

-- one integer
abbrev pub one_integer : ℤ → Term
one_integer n = Ints (Some n) (Some n)

-- the integers between two ends; a range whose lower end is above the upper one is no type
abbrev pub range : (low high : ℤ) → Option Term
range low high = if le_int low high then Some (Ints (Some low) (Some high)) else None

-- the function that a spec is written for
abbrev pub specified_id : Node SpecKind → FunctionId
specified_id s = of_function s.kind.name (spec_clauses_arity s.kind.clauses)

-- the specs among forms
abbrev pub specs_in : List TreeForm → List (Node SpecKind)
specs_in [] = []
specs_in (F.Spec s ∷ forms) = s ∷ specs_in forms
specs_in (form ∷ forms) = specs_in forms

-- a spec's name and arity
abbrev pub spec_id : FunSpec → FunctionId
spec_id s = of_function s.name s.arity
