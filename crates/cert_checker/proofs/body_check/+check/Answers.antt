use Rattle.std.proofs.Common.{◌≡◌, sym, ◌∙◌, ap, subst, length, arith, rules, to_z, of_z}
use borrow.Author.Rules.{get_or_read}
use mir.Syntax.{w128}
use Rattle.std.proofs.lemmas.Int.{ints}
use Rattle.std.proofs.lemmas.Result.{IfOk-weaker, IfErr-weaker, err_from_is_err_and}
use Rattle.erl_tree.specs.declared.expr.ExprKind.{the_lemmas}
use Rattle.cert_checker.specs.FlatTypes.{IsFlatExpr}
use Rattle.cert_checker.specs.declared.expression_type.ExpressionType.TheVariants.{OneInteger}
use Rattle.cert_checker.specs.Judging.{IsTypeIn, AreTypesIn}
use Rattle.cert_checker.proofs.Takes.{item-found, take-all, every-get}
use Rattle.cert_checker.proofs.ExpressionForms.{flat-Int, flat-Paren, flat-Binary, flat-Call, expr-forms}
use Rattle.cert_checker.proofs.Judgments.{int-typed, atom-typed, var-typed, var-judged, paren-judged, paren-typed, paren-fails, left-judged, right-judged, typed-stands, left-fails, right-fails, operands-fail, operation-typed, arguments-judged, arguments-fail, is-call, call-typed, call-fails, argument-judged, argument-fails, arguments-more}
use Rattle.cert_checker.proofs.body_check.+check.Goals as goal

-- ---- arguments

pub check_arguments-check_expression-requires : goal.check_arguments-check_expression-requires
check_arguments-check_expression-requires t c =
    let f = item-found c.as_slice-argument-items.result.now c.args.args.now c.loop-argument.argument-index c.argument-item.result c.as_slice-argument-items.ensures c.loop-argument-test.true c.argument-item.is in
    (search (rules, the_lemmas, get_or_read), (every-get IsFlatExpr c.args.args.now c.loop-argument.argument-index c.argument-item.result c.requires.flat f, argument-judged c.args.scope.now c.args.args.now c.loop-argument.argument-index c.argument-item.result f c.requires.judged))

pub check_arguments-returns-in_err-found-clause-fails : goal.check_arguments-returns-in_err-found-clause-fails
check_arguments-returns-in_err-found-clause-fails t c =
    let f = item-found c.as_slice-argument-items.result.now c.args.args.now c.loop-argument.argument-index c.argument-item.result c.as_slice-argument-items.ensures c.loop-argument-test.true c.argument-item.is in
    let p = err_from_is_err_and c.from_residual.result c.from_residual.ensures.1 in
    rw (p.1, p.2) (argument-fails c.args.scope.now c.args.args.now c.loop-argument.argument-index c.argument-item.result c.loop-argument.types c.in_err-found.field-0.0 f c.loop-argument.invariant c.in_err-found.ensures.fails)

pub check_arguments-loop-argument-preserved : goal.check_arguments-loop-argument-preserved
check_arguments-loop-argument-preserved t c =
    let f = item-found c.as_slice-argument-items.result.now c.args.args.now c.loop-argument.argument-index c.argument-item.result c.as_slice-argument-items.ensures c.loop-argument-test.true c.argument-item.is in
    arguments-more c.args.scope.now c.args.args.now c.loop-argument.argument-index c.argument-item.result c.loop-argument.types c.push.new.self c.in_ok-found.found f c.in_ok-push.ensures.ok c.loop-argument.invariant c.in_ok-found.ensures.typed

pub check_arguments-returns-clause-typed : goal.check_arguments-returns-clause-typed
check_arguments-returns-clause-typed t c =
    let full : c.loop-argument.argument-index ≡ length c.args.args.now = let l = ap length c.as_slice-argument-items.ensures in let x = c.loop-argument-test.false in let y = c.loop-argument.auto.argument-index-end in omega arith in
    subst (λ z. AreTypesIn c.args.scope.now z c.loop-argument.types) (take-all c.args.args.now c.loop-argument.argument-index full) c.loop-argument.invariant

-- ---- leaves and parentheses

pub check_expression-returns-in-Int-clause-typed : goal.check_expression-returns-in-Int-clause-typed
check_expression-returns-in-Int-clause-typed t c =
    let e : to_z w128 (of_z w128 c.in-Int.number) ≡ c.in-Int.number = omega (arith, ints) in
    let q = sym c.get.ensures ∙ c.in-Int.is in
    subst (λ z. IsTypeIn c.args.scope.now c.args.expression.now (OneInteger z)) (sym e) (int-typed c.args.scope.now c.args.expression.now c.in-Int.number q (flat-Int c.args.expression.now c.in-Int.number c.requires.flat q))

pub check_expression-returns-in_ok-name-in-Atom-clause-typed : goal.check_expression-returns-in_ok-name-in-Atom-clause-typed
check_expression-returns-in_ok-name-in-Atom-clause-typed t c = atom-typed c.args.scope.now c.args.expression.now c.in-Atom.name c.in_ok-name-in-Atom.name (sym c.get.ensures ∙ c.in-Atom.is) c.in_ok-name-in-Atom.ensures

pub check_expression-parameter_of-requires : goal.check_expression-parameter_of-requires
check_expression-parameter_of-requires t c = var-judged c.args.scope.now c.args.expression.now c.in-Var.name (sym c.get.ensures ∙ c.in-Var.is) c.requires.judged

pub check_expression-returns-in-Var-clause-typed : goal.check_expression-returns-in-Var-clause-typed
check_expression-returns-in-Var-clause-typed t c = var-typed c.args.scope.now c.args.expression.now c.in-Var.name c.parameter_of.result (sym c.get.ensures ∙ c.in-Var.is) c.parameter_of.ensures

pub check_expression-check_expression-requires : goal.check_expression-check_expression-requires
check_expression-check_expression-requires t c = (search (rules, the_lemmas), (flat-Paren c.args.expression.now c.in-Paren.inner c.requires.flat (sym c.get.ensures ∙ c.in-Paren.is), paren-judged c.args.scope.now c.args.expression.now c.in-Paren.inner (sym c.get.ensures ∙ c.in-Paren.is) c.requires.judged))

pub check_expression-returns-in-Paren-clause-typed : goal.check_expression-returns-in-Paren-clause-typed
check_expression-returns-in-Paren-clause-typed t c = IfOk-weaker c.check_expression.result _ _ (λ found h. paren-typed c.args.scope.now c.args.expression.now c.in-Paren.inner found (sym c.get.ensures ∙ c.in-Paren.is) h) c.check_expression.ensures.typed

pub check_expression-returns-in-Paren-clause-fails : goal.check_expression-returns-in-Paren-clause-fails
check_expression-returns-in-Paren-clause-fails t c = IfErr-weaker c.check_expression.result _ _ (λ refusal h. paren-fails c.args.scope.now c.args.expression.now c.in-Paren.inner refusal (sym c.get.ensures ∙ c.in-Paren.is) h) c.check_expression.ensures.fails

-- ---- operations

pub check_expression-check_expression-requires-in-Binary : goal.check_expression-check_expression-requires-in-Binary
check_expression-check_expression-requires-in-Binary t c =
    let q = sym c.get.ensures ∙ c.in-Binary.is in
    (search (rules, the_lemmas), ((flat-Binary c.args.expression.now c.in-Binary.left c.in-Binary.right c.in-Binary.field-0 c.requires.flat q).0, left-judged c.args.scope.now c.args.expression.now c.in-Binary.left c.in-Binary.right c.in-Binary.field-0 q c.requires.judged))

pub check_expression-returns-in_err-left_type-in-Binary-clause-fails : goal.check_expression-returns-in_err-left_type-in-Binary-clause-fails
check_expression-returns-in_err-left_type-in-Binary-clause-fails t c =
    let q = sym c.get.ensures ∙ c.in-Binary.is in
    let p = err_from_is_err_and c.from_residual-in_err-left_type-in-Binary.result c.from_residual-in_err-left_type-in-Binary.ensures.1 in
    rw (p.1, p.2) (left-fails c.args.scope.now c.args.expression.now c.in-Binary.left c.in-Binary.right c.in-Binary.field-0 c.in_err-left_type-in-Binary.field-0.0 q c.in_err-left_type-in-Binary.ensures.fails)

pub check_expression-check_expression-requires-in-Binary-2 : goal.check_expression-check_expression-requires-in-Binary-2
check_expression-check_expression-requires-in-Binary-2 t c =
    let q = sym c.get.ensures ∙ c.in-Binary.is in
    (search (rules, the_lemmas), ((flat-Binary c.args.expression.now c.in-Binary.left c.in-Binary.right c.in-Binary.field-0 c.requires.flat q).1, right-judged c.args.scope.now c.args.expression.now c.in-Binary.left c.in-Binary.right c.in-Binary.field-0 q c.requires.judged))

pub check_expression-returns-in_err-right_type-in-Binary-clause-fails : goal.check_expression-returns-in_err-right_type-in-Binary-clause-fails
check_expression-returns-in_err-right_type-in-Binary-clause-fails t c =
    let q = sym c.get.ensures ∙ c.in-Binary.is in
    let p = err_from_is_err_and c.from_residual-in_err-right_type-in-Binary.result c.from_residual-in_err-right_type-in-Binary.ensures.1 in
    rw (p.1, p.2) (right-fails c.args.scope.now c.args.expression.now c.in-Binary.left c.in-Binary.right c.in-Binary.field-0 c.in_ok-left_type-in-Binary.left_type c.in_err-right_type-in-Binary.field-0.0 q c.in_ok-left_type-in-Binary.ensures.typed c.in_err-right_type-in-Binary.ensures.fails)

pub check_expression-check_operands-requires-clause-left : goal.check_expression-check_operands-requires-clause-left
check_expression-check_operands-requires-clause-left t c =
    let q = sym c.get.ensures ∙ c.in-Binary.is in
    typed-stands c.args.scope.now c.in-Binary.left c.in_ok-left_type-in-Binary.left_type (left-judged c.args.scope.now c.args.expression.now c.in-Binary.left c.in-Binary.right c.in-Binary.field-0 q c.requires.judged) c.in_ok-left_type-in-Binary.ensures.typed

pub check_expression-check_operands-requires-clause-right : goal.check_expression-check_operands-requires-clause-right
check_expression-check_operands-requires-clause-right t c =
    let q = sym c.get.ensures ∙ c.in-Binary.is in
    typed-stands c.args.scope.now c.in-Binary.right c.in_ok-right_type-in-Binary.right_type (right-judged c.args.scope.now c.args.expression.now c.in-Binary.left c.in-Binary.right c.in-Binary.field-0 q c.requires.judged) c.in_ok-right_type-in-Binary.ensures.typed

pub check_expression-returns-in_err-check_operands-in-Binary-clause-fails : goal.check_expression-returns-in_err-check_operands-in-Binary-clause-fails
check_expression-returns-in_err-check_operands-in-Binary-clause-fails t c =
    let q = sym c.get.ensures ∙ c.in-Binary.is in
    let p = err_from_is_err_and c.from_residual-in_err-check_operands-in-Binary.result c.from_residual-in_err-check_operands-in-Binary.ensures.1 in
    rw (p.1, p.2) (operands-fail c.args.scope.now c.args.expression.now c.in-Binary.left c.in-Binary.right c.in-Binary.field-0 c.in_ok-left_type-in-Binary.left_type c.in_ok-right_type-in-Binary.right_type c.in_err-check_operands-in-Binary.field-0.0 q c.in_ok-left_type-in-Binary.ensures.typed c.in_ok-right_type-in-Binary.ensures.typed c.in_err-check_operands-in-Binary.ensures.fails)

pub check_expression-returns-in_ok-check_operands-in-Binary-clause-typed : goal.check_expression-returns-in_ok-check_operands-in-Binary-clause-typed
check_expression-returns-in_ok-check_operands-in-Binary-clause-typed t c =
    let q = sym c.get.ensures ∙ c.in-Binary.is in
    operation-typed c.args.scope.now c.args.expression.now c.in-Binary.left c.in-Binary.right c.in-Binary.field-0 c.in_ok-left_type-in-Binary.left_type c.in_ok-right_type-in-Binary.right_type q c.in_ok-left_type-in-Binary.ensures.typed c.in_ok-right_type-in-Binary.ensures.typed c.in_ok-check_operands-in-Binary.ensures.holds

-- ---- calls

pub check_expression-check_arguments-requires : goal.check_expression-check_arguments-requires
check_expression-check_arguments-requires t c =
    let f = flat-Call c.args.expression.now c.in-Call.prefix c.in-Call.name c.in-Call.args c.requires.flat (sym c.get.ensures ∙ c.in-Call.is) in
    (search (rules, the_lemmas), (f.1, arguments-judged c.args.scope.now c.args.expression.now c.in-Call.name c.in-Call.args f.0 c.requires.judged))

pub check_expression-returns-in_err-types-in-Call-clause-fails : goal.check_expression-returns-in_err-types-in-Call-clause-fails
check_expression-returns-in_err-types-in-Call-clause-fails t c =
    let f = flat-Call c.args.expression.now c.in-Call.prefix c.in-Call.name c.in-Call.args c.requires.flat (sym c.get.ensures ∙ c.in-Call.is) in
    let p = err_from_is_err_and c.from_residual-in_err-types-in-Call.result c.from_residual-in_err-types-in-Call.ensures.1 in
    rw (p.1, p.2) (arguments-fail c.args.scope.now c.args.expression.now c.in-Call.name c.in-Call.args c.in_err-types-in-Call.field-0.0 f.0 c.in_err-types-in-Call.ensures.fails)

pub check_expression-check_call-requires : goal.check_expression-check_call-requires
check_expression-check_call-requires t c =
    let f = flat-Call c.args.expression.now c.in-Call.prefix c.in-Call.name c.in-Call.args c.requires.flat (sym c.get.ensures ∙ c.in-Call.is) in
    is-call c.args.scope.now c.args.expression.now c.in-Call.name c.in-Call.args c.in_ok-types-in-Call.types f.0 c.in_ok-types-in-Call.ensures.typed c.requires.judged

pub check_expression-returns-in_ok-types-in-Call-clause-typed : goal.check_expression-returns-in_ok-types-in-Call-clause-typed
check_expression-returns-in_ok-types-in-Call-clause-typed t c =
    let f = flat-Call c.args.expression.now c.in-Call.prefix c.in-Call.name c.in-Call.args c.requires.flat (sym c.get.ensures ∙ c.in-Call.is) in
    IfOk-weaker c.check_call.result _ _ (λ found h. call-typed c.args.scope.now c.args.expression.now c.in-Call.name c.in-Call.args c.in_ok-types-in-Call.types found f.0 c.in_ok-types-in-Call.ensures.typed h) c.check_call.ensures.typed

pub check_expression-returns-in_ok-types-in-Call-clause-fails : goal.check_expression-returns-in_ok-types-in-Call-clause-fails
check_expression-returns-in_ok-types-in-Call-clause-fails t c =
    let f = flat-Call c.args.expression.now c.in-Call.prefix c.in-Call.name c.in-Call.args c.requires.flat (sym c.get.ensures ∙ c.in-Call.is) in
    IfErr-weaker c.check_call.result _ _ (λ refusal h. call-fails c.args.scope.now c.args.expression.now c.in-Call.name c.in-Call.args c.in_ok-types-in-Call.types refusal f.0 c.in_ok-types-in-Call.ensures.typed h) c.check_call.ensures.fails

pub check_expression-unreachable-requires : goal.check_expression-unreachable-requires
check_expression-unreachable-requires t c =
    let k = c.get.ensures in
    expr-forms c.args.expression.now c.requires.flat
    (λ a e. c.in_default.not-Atom a (k ∙ e)) (λ n e. c.in_default.not-Int n (k ∙ e)) (λ x e. c.in_default.not-Var x (k ∙ e)) (λ u e. c.in_default.not-Paren u (k ∙ e))
    (λ op a b e. c.in_default.not-Binary op a b (k ∙ e)) (λ p n a e. c.in_default.not-Call p n a (k ∙ e))
