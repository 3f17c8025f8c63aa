-- Tables of the specs of a module: from the name and arity of each to its place among the forms, and from there to the sets of its parameters and result.
use Rattle.std.specs.Prelude.{◌≡◌, ◌⊎◌, ℕ, ◌<◌, List, Some, length, slice_get, map, Option}
use Rattle.type_terms.specs.declared.spec.Arrow.{Arrow}
use Rattle.erl_tree.specs.declared.token.Node.{Node}
use Rattle.erl_tree.specs.declared.form.SpecKind.{SpecKind}
use Rattle.erl_tree.specs.declared.form.SpecClauseKind.{SpecClauseKind}
use Rattle.erl_tree.specs.declared.form.TreeForm.{TreeForm}
use Rattle.erl_tree.specs.declared.form.TreeForm.TheVariants as F
use Rattle.erl_tree.specs.Lists.{Every, Among}
use Rattle.erl_tree.specs.Functions.{FunctionId}
use Rattle.erl_runs.specs.Specs.{and_then, all_present, specified_id}
use Rattle.flat_modules.specs.FlatSpecs.{type_term, clause_arrow}
use Rattle.name_table.specs.Table.{Entry, ids}
use Rattle.cert_checker.specs.declared.spec_table.FunctionTypes.{FunctionTypes}
use Rattle.cert_checker.specs.declared.spec_table.FormTypes.{FormTypes}
use Rattle.cert_checker.specs.declared.spec_table.FormTypes.TheVariants.{Spec}
use Rattle.cert_checker.specs.FlatTypes.{IsSetOf, AreSetsOf, IsFlatType}

-- a table holds the specs among the first forms, each at its place
pub record HoldsSpecs (forms : List TreeForm) (count : ℕ) (table : List Entry) : Type 0 where
  pub sound : (id : FunctionId) (k : ℕ) → Among (id, k) table → (s : Node SpecKind) × (slice_get forms k ≡ Some (F.Spec s)) × (specified_id s ≡ id)
  pub complete : (k : ℕ) (s : Node SpecKind) → k < count → slice_get forms k ≡ Some (F.Spec s) → Among (specified_id s) (ids table)

-- what a form adds to a table: a spec, where its name and arity are new, and nothing else
abbrev pub Adds : TreeForm → ℕ → List Entry → List Entry → Type 0
Adds (F.Spec s) number old new = ((e : Entry) → Among e new → (Among e old) ⊎ (e ≡ (specified_id s, number))) × ((id : FunctionId) → Among id (ids old) → Among id (ids new)) × Among (specified_id s) (ids new)
Adds _ number old new = new ≡ old

-- the arrow of the first clause of a spec
abbrev pub IsFirstArrow : List (Node SpecClauseKind) → Arrow → Type 0
IsFirstArrow clauses arrow = (c : Node SpecClauseKind) × (slice_get clauses 0 ≡ Some c) × (clause_arrow c ≡ Some arrow)

-- the arrow of the first clause of the spec at a place among the forms
abbrev pub IsArrowAt : List TreeForm → ℕ → Arrow → Type 0
IsArrowAt forms k arrow = (s : Node SpecKind) × (slice_get forms k ≡ Some (F.Spec s)) × IsFirstArrow s.kind.clauses arrow

-- ---- the sets of specs

-- the arrow of what stands in a spec's clause
abbrev pub kind_arrow : SpecClauseKind → Option Arrow
kind_arrow c = and_then (all_present (map type_term c.params)) (λ params. and_then (type_term c.result) (λ result. Some (record { params = params; result = result })))

-- the parameters and the result of a spec's clause are types of flat modules
abbrev pub IsFlatSpecClause : SpecClauseKind → Type 0
IsFlatSpecClause c = Every IsFlatType c.params × IsFlatType c.result

-- a spec has a clause, and the first one is such a clause
abbrev pub IsFlatSpec : List (Node SpecClauseKind) → Type 0
IsFlatSpec clauses = (c : Node SpecClauseKind) × (slice_get clauses 0 ≡ Some c) × IsFlatSpecClause c.kind

-- a form that is no spec, or such a spec
abbrev pub IsFlatForm : TreeForm → Type 0
IsFlatForm (F.Spec s) = IsFlatSpec s.kind.clauses
IsFlatForm _ = Unit {0}

-- the sets of an arrow's parameters and result
pub record HasTypesOf (types : FunctionTypes) (arrow : Arrow) : Type 0 where
  pub params : AreSetsOf types.params arrow.params
  pub result : IsSetOf types.result arrow.result

-- the sets of a spec are those of its first arrow
abbrev pub IsTypesOf : TreeForm → FormTypes → Type 0
IsTypesOf (F.Spec s) types = (f : FunctionTypes) × (types ≡ Spec f) × ((arrow : Arrow) → IsFirstArrow s.kind.clauses arrow → HasTypesOf f arrow)
IsTypesOf _ types = Unit {0}

-- each of the first forms has its sets, at its place
pub record HaveTypes (forms : List TreeForm) (count : ℕ) (types : List FormTypes) : Type 0 where
  pub as_many : length types ≡ count
  pub each : (k : ℕ) (form : TreeForm) → k < count → slice_get forms k ≡ Some form → (t : FormTypes) × (slice_get types k ≡ Some t) × IsTypesOf form t
