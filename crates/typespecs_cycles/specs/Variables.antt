-- What an argument says of a parameter.
use Rattle.std.specs.Prelude.{◌≡◌, ℕ, Option, Some, MatchOption}
use Rattle.type_terms.specs.Keys.{Name}
use Rattle.type_terms.specs.declared.term.Term.{Term, Var}

-- a term is what this variable stands for, or is no variable at all
abbrev pub IsVariableOf : (Name → Option Term) → Option Name → Option Term → Type 0
IsVariableOf variables name term = MatchOption name ((i : ℕ) → term ≡ Some (Var i) → ⊥) (λ x. term ≡ variables x)
