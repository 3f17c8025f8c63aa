-- The numbers of the variables, or of the names, that stand bare in a term, where definitions are taken to be open in certain parameters.
use Rattle.std.specs.Prelude.{ℕ, suc, List, [], ◌∷◌, ◌++◌, Bool, false, cond, get_or}
use Rattle.type_terms.specs.declared.openness.Wanted.{Wanted}
use Rattle.type_terms.specs.declared.openness.Wanted.TheVariants.{Variables, Names}
use Rattle.type_terms.specs.declared.term.Term.{Term, fold-Term}
use Rattle.type_terms.specs.declared.term.Term.TheOpen.{Term-F, Or, And, Not, Var, Name}

-- whether a definition is open in a parameter, by a list for each definition. What it lacks is not open
abbrev pub open_by : List (List Bool) → ℕ → ℕ → Bool
open_by table n i = get_or (get_or table n []) i false

abbrev pub variable_number : Wanted → ℕ → List ℕ
variable_number Variables n = n ∷ []
variable_number Names n = []

abbrev pub name_number : Wanted → ℕ → List ℕ
name_number Variables n = []
name_number Names n = n ∷ []

-- lists one after another
abbrev pub joined : List (List ℕ) → List ℕ
joined [] = []
joined (xs ∷ more) = xs ++ joined more

-- of lists for arguments, the first of which has this number, those for which the name is open
abbrev pub open_ones : (ℕ → Bool) → ℕ → List (List ℕ) → List ℕ
open_ones opens j [] = []
open_ones opens j (xs ∷ more) = cond (opens j) xs [] ++ open_ones opens (suc j) more

-- one level of a term
abbrev pub layer_bare : Wanted → (ℕ → ℕ → Bool) → Term-F (List ℕ) (List ℕ) → List ℕ
layer_bare wanted opens (Or parts) = joined parts
layer_bare wanted opens (And parts) = joined parts
layer_bare wanted opens (Not negated) = negated
layer_bare wanted opens (Var number) = variable_number wanted number
layer_bare wanted opens (Name number arguments) = name_number wanted number ++ open_ones (opens number) 0 arguments
layer_bare wanted opens _ = []

-- these numbers in a term
unfoldable pub bare_in : Wanted → (ℕ → ℕ → Bool) → Term → List ℕ
bare_in wanted opens t = fold-Term (List ℕ) (List ℕ) (layer_bare wanted opens) (λ field. field.term) t

-- these numbers in the terms of a list
abbrev pub bare_in_terms : Wanted → (ℕ → ℕ → Bool) → List Term → List ℕ
bare_in_terms wanted opens [] = []
bare_in_terms wanted opens (t ∷ ts) = bare_in wanted opens t ++ bare_in_terms wanted opens ts

-- these numbers in arguments, the first of which has this number
abbrev pub bare_in_arguments : Wanted → (ℕ → ℕ → Bool) → ℕ → ℕ → List Term → List ℕ
bare_in_arguments wanted opens n j [] = []
bare_in_arguments wanted opens n j (t ∷ ts) = cond (opens n j) (bare_in wanted opens t) [] ++ bare_in_arguments wanted opens n (suc j) ts
