-- Small tables: what they tell at each place, by which of the places that are listed it is.
use Rattle.std.proofs.Common.{◌≡◌, refl, ℕ, Bool, true, false}
use Rattle.std.specs.Prelude.{Option, Some, None, cond}
use Rattle.std.specs.Option.{option_flatten}
use Rattle.erl_scope_rules.specs.Bindings.{same_place}
use Rattle.erl_scope_rules.specs.Resolution.{resolved_of}
use Rattle.examples_rules.specs.SmallScopes.{below, matched_before}
use Rattle.erl_scope_rules.proofs.OccurrenceLaws.{variables_equations, part_equations}
use Rattle.erl_scope_numbers.specs.Table.{IsTableOf}
use Rattle.examples_rules.specs.SmallTables.{four_variables, four_numbers, one_listed_more, one_number_more, another_number, one_binding}

pub variables_found : resolved_of matched_before ≡ four_variables
variables_found = simp (part_equations, variables_equations)

-- what is listed for the four places, by which of them it is
found_at : (a b c d : Bool) → option_flatten {T = ℕ} (cond a (Some (Some 0)) (cond b (Some (Some 1)) (cond c (Some (Some 0)) (cond d (Some (Some 1)) None)))) ≡ cond a (Some 0) (cond b (Some 1) (cond c (Some 0) (cond d (Some 1) None)))
found_at true b c d = refl
found_at false true c d = refl
found_at false false true d = refl
found_at false false false true = refl
found_at false false false false = refl

found_or_listed : (a b c d e : Bool) → option_flatten {T = ℕ} (cond a (Some (Some 0)) (cond b (Some (Some 1)) (cond c (Some (Some 0)) (cond d (Some (Some 1)) (cond e (Some None) None))))) ≡ cond a (Some 0) (cond b (Some 1) (cond c (Some 0) (cond d (Some 1) None)))
found_or_listed true b c d e = refl
found_or_listed false true c d e = refl
found_or_listed false false true d e = refl
found_or_listed false false false true e = refl
found_or_listed false false false false true = refl
found_or_listed false false false false false = refl

pub table_of_four : IsTableOf four_variables four_numbers
table_of_four = (λ place. found_at (same_place (below 3) place) (same_place (below 7) place) (same_place (below 9) place) (same_place (below 11) place), λ number. refl)

pub table_with_a_place : IsTableOf four_variables one_listed_more
table_with_a_place = (λ place. found_or_listed (same_place (below 3) place) (same_place (below 7) place) (same_place (below 9) place) (same_place (below 11) place) (same_place (below 20) place), λ number. refl)

some_none : {A : Type 0} (a : A) → Some a ≡ None → ⊥
some_none a e = cc

none_some : {A : Type 0} (a : A) → None ≡ Some a → ⊥
none_some a e = cc

zero_one : ◌≡◌ {A = Option ℕ} (Some 0) (Some 1) → ⊥
zero_one e = cc

pub no_table_with_a_number : IsTableOf four_variables one_number_more → ⊥
no_table_with_a_number is = some_none 0 (is.0 (below 20))

pub no_table_with_another : IsTableOf four_variables another_number → ⊥
no_table_with_another is = zero_one (is.0 (below 11))

pub no_table_of_one_binding : IsTableOf four_variables one_binding → ⊥
no_table_of_one_binding is = none_some (below 7) (is.1 1)
