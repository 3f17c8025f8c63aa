use Rattle.std.proofs.Common.{◌≡◌, subst, ℕ, List}
use Rattle.std.specs.Prelude.{Option, Some, None}
use Rattle.std.proofs.lemmas.Result.{on_ok_weaker, IfErr-weaker}
use Rattle.erl_tree.specs.Lists.{Among}
use Rattle.erl_tree.specs.Functions.{FunctionId, of_function}
use Rattle.name_table.specs.Table.{Entry, IsFound, ids}
use Rattle.cert_checker.proofs.ModuleChecks.{function-types, clauses-judged, function-holds, function-fails, function-found}
use Rattle.cert_checker.proofs.checks.check_function.Goals as goal

found-at : (entries : List Entry) (id : FunctionId) (at : ℕ) (o : Option ℕ) → o ≡ Some at → IsFound entries id o → Among (id, at) entries
found-at entries id at o e h = subst (λ (z : Option ℕ). IsFound entries id z) e h

found-none : (entries : List Entry) (id : FunctionId) (o : Option ℕ) → o ≡ None → IsFound entries id o → Among id (ids entries) → ⊥
found-none entries id o e h = subst (λ (z : Option ℕ). IsFound entries id z) e h

pub types_at-requires : goal.types_at-requires
types_at-requires c = function-types c.args.module.now c.args.table.now c.args.number c.args.function.now c.arity.result c.in-Some.at c.requires.flat c.requires.table c.requires.function c.arity.ensures (found-at c.args.table.now.places (of_function c.args.function.now.name c.arity.result) c.in-Some.at c.in_ok-at.field-0 c.in-Some.is c.in_ok-at.ensures.found)

pub check_clauses-requires : goal.check_clauses-requires
check_clauses-requires c = clauses-judged c.args.module.now c.args.table.now c.args.number c.args.function.now c.arity.result c.in-Some.at c.requires.flat c.requires.table c.requires.function c.arity.ensures (found-at c.args.table.now.places (of_function c.args.function.now.name c.arity.result) c.in-Some.at c.in_ok-at.field-0 c.in-Some.is c.in_ok-at.ensures.found) c.types_at.result.now c.types_at.ensures

pub returns-clause-holds : goal.returns-clause-holds
returns-clause-holds c = on_ok_weaker c.check_clauses.result (function-holds c.args.module.now c.args.table.now c.args.number c.args.function.now c.arity.result c.in-Some.at c.requires.flat c.requires.table c.requires.function c.arity.ensures (found-at c.args.table.now.places (of_function c.args.function.now.name c.arity.result) c.in-Some.at c.in_ok-at.field-0 c.in-Some.is c.in_ok-at.ensures.found) c.types_at.result.now c.types_at.ensures) c.check_clauses.ensures.holds

pub returns-clause-fails : goal.returns-clause-fails
returns-clause-fails c = IfErr-weaker c.check_clauses.result _ _ (λ refusal h. function-fails c.args.module.now c.args.table.now c.args.number c.args.function.now c.arity.result c.in-Some.at c.requires.flat c.requires.table c.requires.function c.arity.ensures (found-at c.args.table.now.places (of_function c.args.function.now.name c.arity.result) c.in-Some.at c.in_ok-at.field-0 c.in-Some.is c.in_ok-at.ensures.found) c.types_at.result.now c.types_at.ensures refusal h) c.check_clauses.ensures.fails

pub unreachable-requires : goal.unreachable-requires
unreachable-requires c = function-found c.args.module.now c.args.table.now c.args.function.now c.arity.result c.requires.flat c.requires.table c.requires.function c.arity.ensures (found-none c.args.table.now.places (of_function c.args.function.now.name c.arity.result) c.in_ok-at.field-0 c.in-None.is c.in_ok-at.ensures.found)
