use Rattle.std.proofs.Common.{◌≡◌, subst, ℕ, List}
use Rattle.std.specs.Prelude.{Option, Some, None}
use Rattle.std.proofs.lemmas.Result.{err_from_is_err_and}
use Rattle.erl_tree.specs.Lists.{Among}
use Rattle.erl_tree.specs.Functions.{FunctionId, of_function}
use Rattle.name_table.specs.Table.{Entry, IsFound, ids}
use Rattle.cert_checker.proofs.CallChecks.{called-types, as-many, typed, fails, is-called}
use Rattle.cert_checker.proofs.call_check.check_call.Goals as goal

found-at : (entries : List Entry) (id : FunctionId) (at : ℕ) (o : Option ℕ) → o ≡ Some at → IsFound entries id o → Among (id, at) entries
found-at entries id at o e h = subst (λ (z : Option ℕ). IsFound entries id z) e h

found-none : (entries : List Entry) (id : FunctionId) (o : Option ℕ) → o ≡ None → IsFound entries id o → Among id (ids entries) → ⊥
found-none entries id o e h = subst (λ (z : Option ℕ). IsFound entries id z) e h

pub types_at-types-requires : goal.types_at-types-requires
types_at-types-requires c = called-types c.args.scope.now c.args.name.now c.args.args.now c.len.result c.in-Some.at c.len.ensures (found-at c.args.scope.now.table.now.places (of_function c.args.name.now c.len.result) c.in-Some.at c.in_ok-at.field-0 c.in-Some.is c.in_ok-at.ensures.found) c.requires

pub check_arguments_within-requires-clause-as_many : goal.check_arguments_within-requires-clause-as_many
check_arguments_within-requires-clause-as_many c = as-many c.args.scope.now c.args.name.now c.args.args.now c.len.result c.in-Some.at c.len.ensures (found-at c.args.scope.now.table.now.places (of_function c.args.name.now c.len.result) c.in-Some.at c.in_ok-at.field-0 c.in-Some.is c.in_ok-at.ensures.found) c.types_at-types.result.now c.types_at-types.ensures c.requires

pub returns-in_err-check_arguments_within-in-Some-clause-fails : goal.returns-in_err-check_arguments_within-in-Some-clause-fails
returns-in_err-check_arguments_within-in-Some-clause-fails c =
    let p = err_from_is_err_and c.from_residual-in_err-check_arguments_within-in-Some.result c.from_residual-in_err-check_arguments_within-in-Some.ensures.1 in
    rw (p.1, p.2) (fails c.args.scope.now c.args.name.now c.args.args.now c.len.result c.in-Some.at c.len.ensures (found-at c.args.scope.now.table.now.places (of_function c.args.name.now c.len.result) c.in-Some.at c.in_ok-at.field-0 c.in-Some.is c.in_ok-at.ensures.found) c.args.place c.types_at-types.result.now c.in_err-check_arguments_within-in-Some.field-0.0 c.types_at-types.ensures c.in_err-check_arguments_within-in-Some.ensures.fails)

pub returns-clause-typed : goal.returns-clause-typed
returns-clause-typed c = typed c.args.scope.now c.args.name.now c.args.args.now c.len.result c.in-Some.at c.len.ensures (found-at c.args.scope.now.table.now.places (of_function c.args.name.now c.len.result) c.in-Some.at c.in_ok-at.field-0 c.in-Some.is c.in_ok-at.ensures.found) c.args.place c.types_at-types.result.now c.types_at-types.ensures (c.in_ok-check_arguments_within-in-Some).ensures.holds

pub unreachable-requires : goal.unreachable-requires
unreachable-requires c = is-called c.args.scope.now c.args.name.now c.args.args.now c.len.result c.len.ensures c.requires (found-none c.args.scope.now.table.now.places (of_function c.args.name.now c.len.result) c.in_ok-at.field-0 c.in-None.is c.in_ok-at.ensures.found)
