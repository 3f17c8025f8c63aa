-- What a readable module has for each of its functions: one spec, whose clauses are the arrows by which the function is judged.
use Rattle.std.specs.Prelude.{◌≡◌, ◌<◌, ℕ, List, length, Some}
use Rattle.std.specs.List.{Contains}
use Rattle.type_terms.specs.declared.spec.Arrow.{Arrow}
use Rattle.type_terms.specs.declared.spec.FunSpec.{FunSpec}
use Rattle.erl_tree.specs.declared.token.Node.{Node}
use Rattle.erl_tree.specs.declared.form.Function.{Function}
use Rattle.erl_tree.specs.declared.form.SpecKind.{SpecKind}
use Rattle.erl_tree.specs.declared.form.SpecClauseKind.{SpecClauseKind}
use Rattle.erl_tree.specs.declared.form.Module.{Module}
use Rattle.erl_tree.specs.Lists.{Among}
use Rattle.erl_tree.specs.Functions.{function_id, clauses_arity}
use Rattle.erl_runs.specs.Membership.{arrows_of}
use Rattle.erl_runs.specs.Specs.{specs_in, specified_id}
use Rattle.typespecs_rules.specs.Declarations.{Declarations, declarations_of}
use Rattle.typespecs_rules.specs.SpecTerms.{clause_arrow, arrows_from}

-- a clause's arrow, whose type variables have the numbers from some number on, is among these
pub record HasArrow (declared : Declarations) (c : Node SpecClauseKind) (arrows : List Arrow) : Type 0 where
  pub first : ℕ
  pub arrow : Arrow
  pub meant : clause_arrow declared first c.kind ≡ Some arrow
  pub among : Contains arrows arrow

-- exactly one spec of the module is written for the function. It has a clause, each of its clauses has an arrow among those of the function, and these are the arrows of its clauses, one after the other
pub record HasItsArrows (m : Module) (specs : List FunSpec) (f : Function) : Type 0 where
  pub spec : Node SpecKind
  pub written : Among spec (specs_in m.forms)
  pub for_function : specified_id spec ≡ function_id f
  pub only : (other : Node SpecKind) → Among other (specs_in m.forms) → specified_id other ≡ function_id f → other ≡ spec
  pub some_clause : 0 < length spec.kind.clauses
  pub every_clause : (c : Node SpecClauseKind) → Among c spec.kind.clauses → HasArrow (declarations_of m) c (arrows_of specs f.name (clauses_arity f.clauses))
  pub arrows : arrows_from (declarations_of m) 0 spec.kind.clauses ≡ Some (arrows_of specs f.name (clauses_arity f.clauses))
