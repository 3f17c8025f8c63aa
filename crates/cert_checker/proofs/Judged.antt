-- In a flat module each body is judged, for each arrow of its function's spec: so each function owes one constraint on its result, and no body goes unchecked.
use Rattle.std.proofs.Common.{◌≡◌, refl, sym, ◌∙◌, ap, subst, inl, inr, ℕ, suc, ◌+◌, List, [], ◌∷◌, ◌++◌, length, arith}
use Rattle.std.specs.Prelude.{Bool, true, false, ◌||◌, Option, Some, None, map, if◌then◌else◌}
use Rattle.std.specs.List.{list_any, Contains}
use Rattle.type_terms.specs.declared.term.Term.{Term}
use Rattle.type_terms.specs.declared.spec.Arrow.{Arrow}
use Rattle.type_terms.specs.declared.spec.FunSpec.{FunSpec}
use Rattle.type_terms.specs.Keys.{Name, same_name}
use Rattle.type_terms.proofs.KeyLaws.{name-refl}
use Rattle.type_terms.proofs.Contained.{contains-first}
use Rattle.erl_tree.specs.declared.token.Place.{Place}
use Rattle.erl_tree.specs.declared.token.Node.{Node}
use Rattle.erl_tree.specs.declared.pattern.PatternKind.{PatternKind, out-PatternKind}
use Rattle.erl_tree.specs.declared.pattern.PatternKind.TheOpen as P
use Rattle.erl_tree.specs.declared.expr.BinaryOp.{BinaryOp}
use Rattle.erl_tree.specs.declared.expr.BinaryOp.TheVariants.{Add, Sub, Mul}
use Rattle.erl_tree.specs.declared.expr.ExprKind.{ExprKind}
use Rattle.erl_tree.specs.declared.expr.ItemKind.{ItemKind, out-ItemKind}
use Rattle.erl_tree.specs.declared.expr.ClauseKind.{ClauseKind, out-ClauseKind}
use Rattle.erl_tree.specs.declared.expr.QualifierKind.{QualifierKind}
use Rattle.erl_tree.specs.declared.expr.AssocKind.{AssocKind}
use Rattle.erl_tree.specs.declared.expr.CatchKind.{CatchKind}
use Rattle.erl_tree.specs.declared.expr.ExprKind.TheVariants as X
use Rattle.erl_tree.specs.declared.expr.ExprKind.TheOpen as E
use Rattle.erl_tree.specs.declared.form.Function.{Function}
use Rattle.erl_tree.specs.declared.form.Module.{Module}
use Rattle.erl_tree.specs.Lists.{Every, Among}
use Rattle.erl_tree.specs.Functions.{FunctionId, of_function, function_id, functions_of, function_ids, clauses_arity}
use Rattle.erl_runs.specs.Specs.{and_then, specs_in}
use Rattle.flat_modules.specs.FlatSpecs.{specs_of}
use Rattle.flat_modules.specs.Grammar.{IsExpr, one_product, sum, IsProduct, one_operand, product, IsOperand, integer, atom, variable, parens, call as call_operand, AreArguments, no_arguments, last_argument, more_arguments, IsAdditive, IsPattern, is_pattern_layer, IsBody, IsClause, IsFunction, IsItem, is_item_layer, is_clause_layer}
use Rattle.erl_runs.specs.Names.{is_wildcard}
use Rattle.flat_modules.specs.FlatNames.{bound_layer, bound_by, used_in, used_item_layer, used_by, called_in, called_item_layer, IsScopedClause, CallsOnly}
use Rattle.flat_modules.specs.FlatModules.{IsFlatModule}
use Rattle.flat_modules.proofs.FlatLaws.{flat-formed, flat-names}
use Rattle.erl_runs.specs.Membership.{arrows_of}
use Rattle.flat_modules.proofs.FlatNameEquations.{all_used, all_called, used_in-Var, used_in-Paren, used_in-Binary, used_in-Call, called_in-Var, called_in-Paren, called_in-Binary, called_in-Call}
use Rattle.cert_checker.specs.Constraints.{Constraint, Test, Context, Judged, JudgedAll, variable_type, of_type, is_arithmetic, operation, call, judge, judge_kind, owed_result, owed_by_item, owed_by_body, owed_by_clauses, owed_for_arrows, owed_by_functions, owed_of, result_count}
use Rattle.cert_checker.proofs.Lists.{every-split, every-at}
use Rattle.cert_checker.proofs.Parts.{HasOneArrow, one-arrow-each, arrow-arity, well_formed-forms, forms-functions, forms-specs, function-clause}
use Rattle.cert_checker.proofs.Tables.{own-arrow}
use Rattle.cert_checker.proofs.JudgeLaws.{judge_args, judge_kind-Int, judge_kind-Atom, judge_kind-Var, judge_kind-Paren, judge_kind-Binary, judge_kind-Call}

-- ---- a variable of a head has a type

find-typed : (w : Bool) (x y : Name) (t : Term) (bound : List Name) (rest : Option Term) → Among x ((if w then [] else y ∷ []) ++ bound) → (Among x bound → (u : Term) × (rest ≡ Some u)) → (u : Term) × ((if list_any (same_name x) (if w then [] else y ∷ []) then Some t else rest) ≡ Some u)
find-typed true x y t bound rest a later = later a
find-typed false x y t bound rest (inl q) later = (t, ap (λ (b : Bool). if (b || false) then Some t else rest) (subst (λ z. same_name x z ≡ true) q (name-refl x)))
find-typed false x y t bound rest (inr a) later = go (same_name x y) (later a)
  where
    go : (b : Bool) → (u : Term) × (rest ≡ Some u) → (u : Term) × ((if (b || false) then Some t else rest) ≡ Some u)
    go true h = (t, refl)
    go false h = h

layer-typed : (l : P.PatternKind-F PatternKind) (place : Place) (marks : List Place) → is_pattern_layer l place marks → (x : Name) (t : Term) (bound : List Name) (rest : Option Term) → Among x (bound_layer l ++ bound) → (Among x bound → (u : Term) × (rest ≡ Some u)) → (u : Term) × ((if list_any (same_name x) (bound_layer l) then Some t else rest) ≡ Some u)
layer-typed (P.Var y) place marks w x t bound rest a later = find-typed (is_wildcard y) x y t bound rest a later
layer-typed _ place marks w x t bound rest a later = absurd w

pub variable-typed : (ps : List (Node PatternKind)) (ts : List Term) (x : Name) → Every IsPattern ps → length ps ≡ length ts → Among x (bound_by ps) → (u : Term) × (variable_type ps ts x ≡ Some u)
variable-typed [] ts x w l a = absurd a
variable-typed (p ∷ ps) [] x w l a = absurd (cc)
variable-typed (p ∷ ps) (t ∷ ts) x w l a = layer-typed (out-PatternKind p.kind) p.place p.marks w.0 x t (bound_by ps) (variable_type ps ts x) a (variable-typed ps ts x w.1 (cc))

-- ---- counts

pub result-append : (cs ds : List Constraint) → result_count (cs ++ ds) ≡ result_count cs + result_count ds
result-append [] ds = omega arith
result-append (c ∷ cs) ds = let h : result_count (cs ++ ds) ≡ result_count cs + result_count ds = result-append cs ds in omega (arith, h)

no-results : (cs ds : List Constraint) → result_count cs ≡ 0 → result_count ds ≡ 0 → result_count (cs ++ ds) ≡ 0
no-results cs ds p q = let h : result_count (cs ++ ds) ≡ result_count cs + result_count ds = result-append cs ds in omega (arith, h, p, q)

-- ---- expressions

-- a type is found, and no constraint that is owed is on a result
abbrev pub IsJudged : Option Judged → Type 0
IsJudged o = (j : Judged) × (o ≡ Some j) × (result_count j.owed ≡ 0)

judged-after : {A : Type 0} (o : Option A) (f : A → Option Judged) (a : A) → o ≡ Some a → IsJudged (f a) → IsJudged (and_then o f)
judged-after o f a e h = (h.0, ap (λ z. and_then z f) e ∙ h.1, h.2)

judged-at : (o q : Option Judged) → o ≡ q → IsJudged q → IsJudged o
judged-at o q e h = (h.0, e ∙ h.1, h.2)

module _ (fits : Test) (number : ℕ) (specs : List FunSpec) (context : Context) (bound : List Name) (ids : List FunctionId) (typed : (x : Name) → Among x bound → (u : Term) × (context x ≡ Some u))
    (arrows : (name : Name) (arity : ℕ) → Among (of_function name arity) ids → (arrow : Arrow) × (arrows_of specs name arity ≡ arrow ∷ [])) where
  -- each variable is bound, and each function is one of these
  abbrev pub IsNamed : List Name → List FunctionId → Type 0
  IsNamed used called = Every (λ x. Among x bound) used × Every (λ id. Among id ids) called

  first-named : (us vs : List Name) (cs ds : List FunctionId) → IsNamed (us ++ vs) (cs ++ ds) → IsNamed us cs
  first-named us vs cs ds h = ((every-split (λ x. Among x bound) us vs h.0).0, (every-split (λ id. Among id ids) cs ds h.1).0)

  then-named : (us vs : List Name) (cs ds : List FunctionId) → IsNamed (us ++ vs) (cs ++ ds) → IsNamed vs ds
  then-named us vs cs ds h = ((every-split (λ x. Among x bound) us vs h.0).1, (every-split (λ id. Among id ids) cs ds h.1).1)

  named-at : (used us : List Name) (called cs : List FunctionId) → used ≡ us → called ≡ cs → IsNamed used called → IsNamed us cs
  named-at used us called cs p q h = (subst (λ z. Every (λ x. Among x bound) z) p h.0, subst (λ z. Every (λ id. Among id ids) z) q h.1)

  operation-judged : (op : BinaryOp) → is_arithmetic op ≡ true → (p q : Place) (j k : Judged) → result_count j.owed ≡ 0 → result_count k.owed ≡ 0 → IsJudged (operation fits number specs (is_arithmetic op) p j q k)
  operation-judged op e p q j k m n = judged-at _ (operation fits number specs true p j q k) (ap (λ b. operation fits number specs b p j q k) e) (_, refl, no-results j.owed _ m (no-results k.owed _ n refl))

  additive : (op : BinaryOp) → IsAdditive op → is_arithmetic op ≡ true
  additive Add h = refl
  additive Sub h = refl
  additive Mul h = absurd h
  additive _ h = absurd h

  binary-judged : (op : BinaryOp) (a b : Node ExprKind) (place : Place) → is_arithmetic op ≡ true → IsJudged (judge fits number specs a context) → IsJudged (judge fits number specs b context) → IsJudged (judge_kind fits number specs (X.Binary op a b) place context)
  binary-judged op a b place e h k = judged-at _ _ (judge_kind-Binary fits number specs op a b place context)
      (judged-after (judge fits number specs a context) _ h.0 h.1 (judged-after (judge fits number specs b context) _ k.0 k.1 (operation-judged op e a.place b.place h.0 k.0 h.2 k.2)))

  abbrev ArgsJudged : List (Node ExprKind) → Type 0
  ArgsJudged es = (js : JudgedAll) × (judge_args fits number specs es context ≡ Some js) × (length js.types ≡ length es) × (result_count js.owed ≡ 0)

  args-more : (e : Node ExprKind) (es : List (Node ExprKind)) → IsJudged (judge fits number specs e context) → ArgsJudged es → ArgsJudged (e ∷ es)
  args-more e es h k = (
    record { types = h.0.type ∷ k.0.types; owed = h.0.owed ++ k.0.owed },
    ap (λ z. and_then z (λ j. and_then (judge_args fits number specs es context) (λ js. Some (record { types = j.type ∷ js.types; owed = j.owed ++ js.owed })))) h.1
        ∙ ap (λ z. and_then z (λ (js : JudgedAll). Some (record { types = h.0.type ∷ js.types; owed = h.0.owed ++ js.owed }))) k.1,
    ap suc k.2,
    no-results h.0.owed k.0.owed h.2 k.3,
  )

  call-judged : (place : Place) (name : Name) (args : List (Node ExprKind)) → Among (of_function name (length args)) ids → ArgsJudged args → IsJudged (judge_kind fits number specs (X.Call None name args) place context)
  call-judged place name args a h =
      let arrow : (arrow : Arrow) × (arrows_of specs name (length args) ≡ arrow ∷ []) = arrows name (length args) a in
      judged-at _ _ (judge_kind-Call fits number specs name args place context)
      (judged-after (judge_args fits number specs args context) _ h.0 h.1
      (judged-at _ (call fits number specs place (arrow.0 ∷ []) h.0) (ap (λ z. call fits number specs place z h.0) (ap (arrows_of specs name) h.2 ∙ arrow.1)) (_, refl, no-results h.0.owed _ h.3 refl)))

  mutual
    pub expr-judged : (e : Node ExprKind) → IsExpr e → IsNamed (used_in e.kind) (called_in e.kind) → IsJudged (judge fits number specs e context)
    expr-judged e (one_product _ w) h = product-judged e w h
    expr-judged e (sum op a b m o v w) h =
        let n : IsNamed (used_in a.kind ++ used_in b.kind) (called_in a.kind ++ called_in b.kind) = named-at _ _ _ _ (used_in-Binary op a b) (called_in-Binary op a b) h in
        binary-judged op a b a.place (additive op o) (expr-judged a v (first-named _ _ _ _ n)) (product-judged b w (then-named (used_in a.kind) _ (called_in a.kind) _ n))

    product-judged : (e : Node ExprKind) → IsProduct e → IsNamed (used_in e.kind) (called_in e.kind) → IsJudged (judge fits number specs e context)
    product-judged e (one_operand _ w) h = operand-judged e w h
    product-judged e (product a b m v w) h =
        let n : IsNamed (used_in a.kind ++ used_in b.kind) (called_in a.kind ++ called_in b.kind) = named-at _ _ _ _ (used_in-Binary Mul a b) (called_in-Binary Mul a b) h in
        binary-judged Mul a b a.place refl (product-judged a v (first-named _ _ _ _ n)) (operand-judged b w (then-named (used_in a.kind) _ (called_in a.kind) _ n))

    operand-judged : (e : Node ExprKind) → IsOperand e → IsNamed (used_in e.kind) (called_in e.kind) → IsJudged (judge fits number specs e context)
    operand-judged e (integer p n) h = judged-at _ _ (judge_kind-Int fits number specs n p context) (_, refl, refl)
    operand-judged e (atom p a) h = judged-at _ _ (judge_kind-Atom fits number specs a p context) (_, refl, refl)
    operand-judged e (variable p x) h =
        let n : IsNamed (x ∷ []) [] = named-at _ _ _ _ (used_in-Var x) (called_in-Var x) h in
        let t : (u : Term) × (context x ≡ Some u) = typed x n.0.0 in
        judged-at _ _ (judge_kind-Var fits number specs x p context) (judged-after (context x) of_type t.0 t.1 (_, refl, refl))
    operand-judged e (parens o c f w) h = judged-at _ _ (judge_kind-Paren fits number specs f o context) (expr-judged f w (named-at _ _ _ _ (used_in-Paren f) (called_in-Paren f) h))
    operand-judged e (call_operand n o ms name args w) h =
        let n' : IsNamed (all_used args) (of_function name (length args) ∷ all_called args) = named-at _ _ _ _ (used_in-Call name args) (called_in-Call name args) h in
        call-judged n name args n'.1.0 (args-judged args ms w (n'.0, n'.1.1))

    args-judged : (es : List (Node ExprKind)) (ms : List Place) → AreArguments es ms → IsNamed (all_used es) (all_called es) → ArgsJudged es
    args-judged es ms (no_arguments c) h = (_, refl, refl, refl)
    args-judged es ms (last_argument e c w) h = args-more e [] (expr-judged e w (first-named _ _ _ _ h)) (_, refl, refl, refl)
    args-judged es ms (more_arguments e f fs m ns v w) h = args-more e (f ∷ fs) (expr-judged e v (first-named _ _ _ _ h)) (args-judged (f ∷ fs) ns w (then-named (used_in e.kind) _ (called_in e.kind) _ h))

-- ---- the body of a function

pub clause-parts : (l : E.ClauseKind-F ExprKind ItemKind QualifierKind AssocKind CatchKind ClauseKind) (place : Place) (marks : List Place) → is_clause_layer l place marks → (l.guard ≡ None) × Every IsPattern l.patterns × IsBody l.body
clause-parts l place [] w = absurd w
clause-parts l place (n ∷ []) w = absurd w
clause-parts l place (n ∷ o ∷ ms) w = (w.1, w.2, w.5)

pub body-item : (body : List (Node ItemKind)) → IsBody body → (i : Node ItemKind) × (body ≡ i ∷ []) × IsItem i
body-item [] w = absurd w
body-item (i ∷ []) w = (i, refl, w)
body-item (i ∷ k ∷ is) w = absurd w

item-expr : (l : E.ItemKind-F ExprKind ItemKind QualifierKind AssocKind CatchKind ClauseKind) (place : Place) (marks : List Place) → is_item_layer l place marks → (e : Node ExprKind) × (l ≡ E.Value e) × IsExpr e
item-expr (E.Value e) place [] w = (e, refl, w.1)
item-expr (E.Value e) place (m ∷ ms) w = absurd w
item-expr (E.Match p e) place ms w = absurd w

-- the body of a function is one expression, which is judged
pub record JudgedBody (fits : Test) (number : ℕ) (specs : List FunSpec) (f : Function) (arrow : Arrow) : Type 0 where
  pub clause : Node ClauseKind
  pub one_clause : f.clauses ≡ clause ∷ []
  pub clause_formed : IsClause clause
  pub item : Node ItemKind
  pub one_item : (out-ClauseKind clause.kind).body ≡ item ∷ []
  pub expression : Node ExprKind
  pub is_expression : out-ItemKind item.kind ≡ E.Value expression
  pub formed : IsExpr expression
  pub judged : Judged
  pub is_judged : judge fits number specs expression (variable_type (out-ClauseKind clause.kind).patterns arrow.params) ≡ Some judged
  pub none_on_result : result_count judged.owed ≡ 0

pub among-source : {A B : Type 0} (f : A → B) (y : B) (xs : List A) → Among y (map f xs) → (x : A) × Among x xs × (y ≡ f x)
among-source f y [] a = absurd a
among-source f y (x ∷ xs) (inl e) = (x, inl refl, e)
among-source f y (x ∷ xs) (inr a) = let r : (z : _) × Among z xs × (y ≡ f z) = among-source f y xs a in (r.0, inr r.1, r.2)

-- the function with this name and arity, and its one arrow
pub defined-arrow : (m : Module) → IsFlatModule m → (name : Name) (arity : ℕ) → Among (of_function name arity) (function_ids m) → (arrow : Arrow) × (arrows_of (specs_of m) name arity ≡ arrow ∷ [])
defined-arrow m flat name arity a =
    let f : (f : Function) × Among f (functions_of m) × (of_function name arity ≡ function_id f) = among-source function_id (of_function name arity) (functions_of m) a in
    let r : (arrow : Arrow) × (arrows_of (specs_of m) f.0.name (clauses_arity f.0.clauses) ≡ arrow ∷ []) × (clauses_arity f.0.clauses ≡ length arrow.params) = own-arrow m f.0 flat f.1 in
    (r.0, ap (λ (z : FunctionId). arrows_of (specs_of m) z.name z.arity) f.2 ∙ r.1)

pub body-judged : (fits : Test) (number : ℕ) (m : Module) → IsFlatModule m → (f : Function) → Among f (functions_of m) → (arrow : Arrow) → Contains (arrows_of (specs_of m) f.name (clauses_arity f.clauses)) arrow → JudgedBody fits number (specs_of m) f arrow
body-judged fits number m flat f a arrow k =
    let w : IsFunction f = every-at IsFunction f (functions_of m) (forms-functions m.forms (well_formed-forms m (flat-formed m flat))) a in
    let c : (c : Node ClauseKind) × (f.clauses ≡ c ∷ []) × IsClause c = function-clause f w in
    let p : ((out-ClauseKind c.0.kind).guard ≡ None) × Every IsPattern (out-ClauseKind c.0.kind).patterns × IsBody (out-ClauseKind c.0.kind).body = clause-parts (out-ClauseKind c.0.kind) c.0.place c.0.marks c.2 in
    let i : (i : Node ItemKind) × ((out-ClauseKind c.0.kind).body ≡ i ∷ []) × IsItem i = body-item (out-ClauseKind c.0.kind).body p.2 in
    let e : (e : Node ExprKind) × (out-ItemKind i.0.kind ≡ E.Value e) × IsExpr e = item-expr (out-ItemKind i.0.kind) i.0.place i.0.marks i.2 in
    let patterns : List (Node PatternKind) = (out-ClauseKind c.0.kind).patterns in
    let scoped : Every IsScopedClause (c.0 ∷ []) = subst (λ z. Every IsScopedClause z) c.1 (every-at _ f (functions_of m) (flat-names m flat).scoped a) in
    let used : Every (λ x. Among x (bound_by patterns)) (used_item_layer (out-ItemKind i.0.kind) ++ []) = subst (λ z. Every (λ x. Among x (bound_by patterns)) (used_by z)) i.1 scoped.0 in
    let calls : Every (CallsOnly (function_ids m)) (c.0 ∷ []) = subst (λ z. Every (CallsOnly (function_ids m)) z) c.1 (every-at _ f (functions_of m) flat.own_calls a) in
    let called : Every (λ (i : Node ItemKind). Every (λ id. Among id (function_ids m)) (called_item_layer (out-ItemKind i.kind))) (i.0 ∷ []) = subst (λ z. Every (λ (i : Node ItemKind). Every (λ id. Among id (function_ids m)) (called_item_layer (out-ItemKind i.kind))) z) i.1 calls.0 in
    let one : Every HasOneArrow (specs_of m) = one-arrow-each (specs_in m.forms) (specs_of m) (forms-specs m.forms (well_formed-forms m (flat-formed m flat))) flat.flat_specs.specs_read in
    let len : length patterns ≡ length arrow.params = sym (arrow-arity (specs_of m) f.name (clauses_arity f.clauses) arrow one k ∙ ap clauses_arity c.1) in
    let j : IsJudged (judge fits number (specs_of m) e.0 (variable_type patterns arrow.params)) =
    expr-judged fits number (specs_of m) (variable_type patterns arrow.params) (bound_by patterns) (function_ids m) (λ x b. variable-typed patterns arrow.params x p.1 len b) (λ name arity b. defined-arrow m flat name arity b) e.0 e.2
    (subst (λ l. Every (λ x. Among x (bound_by patterns)) (used_item_layer l)) e.1 (every-split (λ x. Among x (bound_by patterns)) (used_item_layer (out-ItemKind i.0.kind)) [] used).0, subst (λ l. Every (λ id. Among id (function_ids m)) (called_item_layer l)) e.1 called.0) in
    record { clause = c.0; one_clause = c.1; clause_formed = c.2; item = i.0; one_item = i.1; expression = e.0; is_expression = e.1; formed = e.2; judged = j.0; is_judged = j.1; none_on_result = j.2 }

-- what such a body owes
pub body-owes : (fits : Test) (number : ℕ) (specs : List FunSpec) (f : Function) (arrow : Arrow) (b : JudgedBody fits number specs f arrow) → owed_by_clauses fits number specs f.clauses arrow ≡ owed_result fits number specs b.expression.place (Some b.judged) arrow.result ++ []
body-owes fits number specs f arrow b =
    ap (λ z. owed_by_clauses fits number specs z arrow) b.one_clause
    ∙ (ap (λ z. owed_by_body fits number specs z (out-ClauseKind b.clause.kind).patterns arrow ++ []) b.one_item
    ∙ (ap (λ z. owed_by_item fits number specs z (out-ClauseKind b.clause.kind).patterns arrow ++ []) b.is_expression
    ∙ ap (λ z. owed_result fits number specs b.expression.place z arrow.result ++ []) b.is_judged))

-- ---- one constraint on each result

add-one : (a b : ℕ) → a ≡ 0 → b ≡ 1 → a + b ≡ 1
add-one a b p q = omega arith

add-none : (a b : ℕ) → a ≡ 1 → b ≡ 0 → a + b ≡ 1
add-none a b p q = omega arith

add-next : (k a b : ℕ) → a ≡ 1 → b ≡ k → a + b ≡ suc k
add-next k a b p q = omega arith

clauses-count : (fits : Test) (number : ℕ) (specs : List FunSpec) (f : Function) (arrow : Arrow) → JudgedBody fits number specs f arrow → result_count (owed_by_clauses fits number specs f.clauses arrow) ≡ 1
clauses-count fits number specs f arrow b =
    ap result_count (body-owes fits number specs f arrow b)
    ∙ (result-append (owed_result fits number specs b.expression.place (Some b.judged) arrow.result) []
    ∙ add-none _ _ (result-append b.judged.owed _ ∙ add-one _ _ b.none_on_result refl) refl)

arrows-count : (fits : Test) (number : ℕ) (specs : List FunSpec) (f : Function) (arrows : List Arrow) (arrow : Arrow) → arrows ≡ arrow ∷ [] → result_count (owed_by_clauses fits number specs f.clauses arrow) ≡ 1 → result_count (owed_for_arrows fits number specs f.clauses arrows) ≡ 1
arrows-count fits number specs f arrows arrow e h =
    ap (λ z. result_count (owed_for_arrows fits number specs f.clauses z)) e ∙ (result-append (owed_by_clauses fits number specs f.clauses arrow) [] ∙ add-none _ _ h refl)

functions-count : (fits : Test) (m : Module) → IsFlatModule m → (number : ℕ) (fs : List Function) → ((f : Function) → Among f fs → Among f (functions_of m)) → result_count (owed_by_functions fits number fs (specs_of m)) ≡ length fs
functions-count fits m flat number [] sub = refl
functions-count fits m flat number (f ∷ fs) sub =
    let a : (arrow : Arrow) × (arrows_of (specs_of m) f.name (clauses_arity f.clauses) ≡ arrow ∷ []) × (clauses_arity f.clauses ≡ length arrow.params) = own-arrow m f flat (sub f (inl refl)) in
    let k : Contains (arrows_of (specs_of m) f.name (clauses_arity f.clauses)) a.0 = subst (λ (z : List Arrow). Contains z a.0) (sym a.1) (contains-first a.0 []) in
    let one : result_count (owed_for_arrows fits number (specs_of m) f.clauses (arrows_of (specs_of m) f.name (clauses_arity f.clauses))) ≡ 1 =
    arrows-count fits number (specs_of m) f _ a.0 a.1 (clauses-count fits number (specs_of m) f a.0 (body-judged fits number m flat f (sub f (inl refl)) a.0 k)) in
    result-append (owed_for_arrows fits number (specs_of m) f.clauses (arrows_of (specs_of m) f.name (clauses_arity f.clauses))) (owed_by_functions fits (number + 1) fs (specs_of m))
    ∙ add-next (length fs) _ _ one (functions-count fits m flat (number + 1) fs (λ g b. sub g (inr b)))

-- each function of a flat module owes one constraint on its result
pub one-result-each : (fits : Test) (m : Module) → IsFlatModule m → result_count (owed_of fits m) ≡ length (functions_of m)
unfolding owed_of
one-result-each fits m flat = functions-count fits m flat 0 (functions_of m) (λ f a. a)
