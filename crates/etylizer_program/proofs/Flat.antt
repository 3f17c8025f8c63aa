-- Each spec of a flat module has one clause.
use Rattle.std.proofs.Common.{◌≡◌, List, [], ◌∷◌, length, refl, arith}
use Rattle.erl_tree.specs.Lists.{Every}
use Rattle.erl_tree.specs.declared.token.Place.{Place}
use Rattle.erl_tree.specs.declared.token.Node.{Node}
use Rattle.erl_tree.specs.declared.form.SpecClauseKind.{SpecClauseKind}
use Rattle.erl_tree.specs.declared.form.TreeForm.{TreeForm}
use Rattle.erl_tree.specs.declared.form.TreeForm.TheVariants as F
use Rattle.erl_tree.specs.declared.form.Module.{Module}
use Rattle.flat_modules.specs.Grammar.{IsWellFormed, IsForm, is_module_layer, is_spec_layer}
use Rattle.erl_runs.specs.Specs.{specs_in}
use Rattle.etylizer_program.specs.Check.{clauses_in, spec_clause_count}

one_clause : (cs : List (Node SpecClauseKind)) (p : Place) (ms : List Place) → is_spec_layer cs p ms → length cs ≡ 1
one_clause (c ∷ []) p ms is = refl
one_clause [] p ms is = absurd is
one_clause (c ∷ d ∷ cs) p ms is = absurd is

clauses_of_forms : (forms : List TreeForm) → Every IsForm forms → clauses_in (specs_in forms) ≡ length (specs_in forms)
clauses_of_forms [] are = refl
clauses_of_forms (F.Spec s ∷ forms) are = let one = one_clause s.kind.clauses s.place s.marks are.0 in let more = clauses_of_forms forms are.1 in omega arith
clauses_of_forms (F.Function f ∷ forms) are = clauses_of_forms forms are.1
clauses_of_forms (F.Export x ∷ forms) are = absurd are.0
clauses_of_forms (F.RecDef x ∷ forms) are = absurd are.0
clauses_of_forms (F.TypeDef x ∷ forms) are = absurd are.0
clauses_of_forms (F.Skipped x ∷ forms) are = absurd are.0

are_forms : (forms : List TreeForm) (ms : List Place) → is_module_layer forms ms → Every IsForm forms
are_forms forms (h ∷ m ∷ o ∷ n ∷ c ∷ d ∷ e ∷ []) are = are
are_forms forms [] are = absurd are
are_forms forms (h ∷ []) are = absurd are
are_forms forms (h ∷ m ∷ []) are = absurd are
are_forms forms (h ∷ m ∷ o ∷ []) are = absurd are
are_forms forms (h ∷ m ∷ o ∷ n ∷ []) are = absurd are
are_forms forms (h ∷ m ∷ o ∷ n ∷ c ∷ []) are = absurd are
are_forms forms (h ∷ m ∷ o ∷ n ∷ c ∷ d ∷ []) are = absurd are
are_forms forms (h ∷ m ∷ o ∷ n ∷ c ∷ d ∷ e ∷ f ∷ ms) are = absurd are

pub clauses_counted_by_specs : (m : Module) → IsWellFormed m → spec_clause_count m ≡ length (specs_in m.forms)
unfolding IsWellFormed
clauses_counted_by_specs m well_formed = clauses_of_forms m.forms (are_forms m.forms m.marks well_formed)
