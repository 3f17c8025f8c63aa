-- A flat module all of whose owed constraints hold is safe.
use Rattle.std.proofs.Common.{◌≡◌, refl, sym, ◌∙◌, ap, subst, ◌⊎◌, inl, inr, ℕ, zero, suc, ◌+◌, List, [], ◌∷◌, ◌++◌, length, arith}
use Rattle.std.specs.Prelude.{Bool, true, false, ◌||◌, ◌&&◌, Option, Some, None, cond, map, pos, negsuc, ℤ, nat_eq, if◌then◌else◌}
use Rattle.std.specs.List.{Contains, list_any}
use Rattle.std.proofs.lemmas.Bool.{and_parts, and_from, eqb-true, eq-eqb}
use Rattle.type_terms.specs.declared.term.Term.{Term, AtomLit, And, Fun}
use Rattle.type_terms.specs.declared.spec.Arrow.{Arrow}
use Rattle.type_terms.specs.declared.spec.FunSpec.{FunSpec}
use Rattle.type_terms.specs.declared.spec.Kind.TheVariants.{Call as CallKind, Result}
use Rattle.type_terms.specs.Keys.{Name, same_name}
use Rattle.type_terms.specs.Definitions.{given_definitions}
use Rattle.type_terms.specs.Instances.{Instance, no_variables}
use Rattle.type_terms.specs.Reading.{Reading, le_int}
use Rattle.type_terms.proofs.KeyLaws.{name-refl, name-is}
use Rattle.type_terms.proofs.Contained.{contains-cases, contains-none, contains-first}
use Rattle.erl_tree.specs.declared.token.Place.{Place}
use Rattle.erl_tree.specs.declared.token.Node.{Node}
use Rattle.erl_tree.specs.declared.pattern.PatternKind.{PatternKind, out-PatternKind}
use Rattle.erl_tree.specs.declared.pattern.PatternKind.TheOpen as P
use Rattle.erl_tree.specs.declared.expr.BinaryOp.{BinaryOp}
use Rattle.erl_tree.specs.declared.expr.BinaryOp.TheVariants.{Add, Sub, Mul}
use Rattle.erl_tree.specs.declared.expr.ExprKind.{ExprKind}
use Rattle.erl_tree.specs.declared.expr.ExprKind.TheVariants as X
use Rattle.erl_tree.specs.declared.expr.ItemKind.{roll-ItemKind, roll-out-ItemKind}
use Rattle.erl_tree.specs.declared.expr.ItemKind.TheVariants as I
use Rattle.erl_tree.specs.declared.expr.ClauseKind.{ClauseKind, out-ClauseKind}
use Rattle.erl_tree.specs.declared.form.RecDefKind.{RecDefKind}
use Rattle.erl_tree.specs.declared.form.Function.{Function}
use Rattle.erl_tree.specs.declared.form.Module.{Module}
use Rattle.erl_tree.specs.Lists.{Every, Among}
use Rattle.erl_tree.specs.Functions.{of_function, function_id, functions_of, function_ids, clauses_arity, find_function, FunctionId}
use Rattle.erl_runs.specs.Specs.{and_then, one_integer, specs_in, spec_id}
use Rattle.typespecs_rules.specs.declared.specs.Specs.{Specs}
use Rattle.typespecs_rules.specs.SpecTerms.{module_specs}
use Rattle.flat_modules.specs.FlatSpecs.{specs_of}
use Rattle.flat_modules.specs.Grammar.{IsExpr, one_product, sum, IsProduct, one_operand, product, IsOperand, AreArguments, no_arguments, last_argument, more_arguments, IsAdditive, IsPattern, is_pattern_layer, IsBody}
use Rattle.flat_modules.specs.Grammar as G
use Rattle.erl_runs.specs.Names.{is_wildcard, is_built_in}
use Rattle.flat_modules.specs.FlatNames.{bound_layer, bound_by}
use Rattle.flat_modules.specs.FlatModules.{HasDistinctHead, IsFlatModule}
use Rattle.flat_modules.proofs.FlatLaws.{flat-formed, flat-names}
use Rattle.flat_modules.proofs.FlatVariables.{some-is}
use Rattle.flat_modules.proofs.HasSpecs.{flat-whole}
use Rattle.erl_runs.specs.Value.{Value, Environment, no_bindings, named_fun, Run, Outcome, came, raised, wrong, going, integer, atom, Call, nil, cons, tuple, map_of, closure}
use Rattle.erl_runs.specs.Matching.{variable_value, match_patterns}
use Rattle.erl_runs.specs.Membership.{Program, InTerm, values_in, arrows_if, arrows_of, ends_well, calls_within}
use Rattle.erl_runs.specs.Records.{records_of}
use Rattle.erl_runs.specs.Operations.{operate, built_in}
use Rattle.erl_runs.specs.Running.{ends, meaning, gives, goes_wrong, go_on, then, Applies, behind, run_all, run_operator, run_call, taken_anew, run_clauses, run_kind, choices, Code, code_of, numbered, find_numbered, arity_of, run_function, enter, apply_within, apply, program_of}
use Rattle.erl_runs.specs.Safety.{IsRightRun, IsSafe}
use Rattle.erl_runs.proofs.RunLaws.{expr_part, runs-Int, runs-Atom, runs-Var, runs-Paren, runs-Binary, runs-Call, run_bound, one_clause-runs}
use Rattle.cert_checker.specs.Constraints.{Test, Holds, IsWithin, Context, Judged, JudgedAll, of_type, integers, is_arithmetic, operand, operation, call, variable_type, judge, judge_kind, owed_result, owed_by_clauses, owed_for_arrows, owed_by_functions, owed_of}
use Rattle.cert_checker.specs.Failures.{MeetsConstraints}
use Rattle.cert_checker.proofs.Lists.{every-split, every-at, then-some, some-inj, none-some}
use Rattle.cert_checker.proofs.Heads.{Taken, all_in, take-patterns}
use Rattle.cert_checker.proofs.Parts.{HasOneArrow, one-arrow-each, arrow-arity, well_formed-forms, forms-specs, found}
use Rattle.cert_checker.proofs.JudgeLaws.{judge_args, judge_kind-Int, judge_kind-Atom, judge_kind-Var, judge_kind-Paren, judge_kind-Binary, judge_kind-Call}
use Rattle.cert_checker.proofs.KeyTerms.{IsOfKeys, IsArrowOfKeys, moved, values-moved, ints-keys, atom-keys, module-keys}
use Rattle.cert_checker.proofs.Calls.{call-takes}
use Rattle.cert_checker.proofs.Tables.{own-arrow}
use Rattle.cert_checker.proofs.Judged.{JudgedBody, body-judged, body-owes, clause-parts, among-source}
use Rattle.cert_checker.proofs.BuiltInLaws.{not-built_in}
use Rattle.cert_checker.proofs.CodeLaws.{found-numbered}

-- the test that finds that all arguments fit: a call's type is the spec's result
abbrev pub always : Test
always types params = true

-- ---- what is owed by a function

arrows-holds : (n : ℕ) (specs : List FunSpec) (cs : List (Node ClauseKind)) (arrows : List Arrow) (arrow : Arrow) → Every Holds (owed_for_arrows always n specs cs arrows) → Contains arrows arrow → Every Holds (owed_by_clauses always n specs cs arrow)
arrows-holds n specs cs [] arrow h c = absurd (contains-none arrow c)
arrows-holds n specs cs (a ∷ arrows) arrow h c =
    let s : Every Holds (owed_by_clauses always n specs cs a) × Every Holds (owed_for_arrows always n specs cs arrows) = every-split Holds (owed_by_clauses always n specs cs a) _ h in
    elim (contains-cases a arrow arrows c) [ inl e ↦ subst (λ z. Every Holds (owed_by_clauses always n specs cs z)) e s.0 | inr k ↦ arrows-holds n specs cs arrows arrow s.1 k ]

functions-hold : (n : ℕ) (fs : List Function) (specs : List FunSpec) (f : Function) (arrow : Arrow) → Every Holds (owed_by_functions always n fs specs) → Among f fs → Contains (arrows_of specs f.name (clauses_arity f.clauses)) arrow → (k : ℕ) × Every Holds (owed_by_clauses always k specs f.clauses arrow)
functions-hold n [] specs f arrow h a c = absurd a
functions-hold n (g ∷ fs) specs f arrow h (inl e) c =
    let s : Every Holds (owed_for_arrows always n specs g.clauses (arrows_of specs g.name (clauses_arity g.clauses))) × Every Holds (owed_by_functions always (n + 1) fs specs) = every-split Holds (owed_for_arrows always n specs g.clauses (arrows_of specs g.name (clauses_arity g.clauses))) _ h in
    (n, arrows-holds n specs f.clauses (arrows_of specs f.name (clauses_arity f.clauses)) arrow (subst (λ (z : Function). Every Holds (owed_for_arrows always n specs z.clauses (arrows_of specs z.name (clauses_arity z.clauses)))) (sym e) s.0) c)
functions-hold n (g ∷ fs) specs f arrow h (inr a) c =
    let s : Every Holds (owed_for_arrows always n specs g.clauses (arrows_of specs g.name (clauses_arity g.clauses))) × Every Holds (owed_by_functions always (n + 1) fs specs) = every-split Holds (owed_for_arrows always n specs g.clauses (arrows_of specs g.name (clauses_arity g.clauses))) _ h in
    functions-hold (n + 1) fs specs f arrow s.1 a c

-- ---- variables and functions that have types are there

module _ (x : Name) (u : Term) where
  typed-here : (w : Bool) (y : Name) (t : Term) (bound : List Name) (rest : Option Term) → (if list_any (same_name x) (if w then [] else y ∷ []) then Some t else rest) ≡ Some u → (rest ≡ Some u → Among x bound) → Among x ((if w then [] else y ∷ []) ++ bound)
  typed-here true y t bound rest e later = later e
  typed-here false y t bound rest e later = go (same_name x y) refl e
    where
      go : (b : Bool) → same_name x y ≡ b → (if (b || false) then Some t else rest) ≡ Some u → Among x (y ∷ bound)
      go true q e = inl (name-is x y q)
      go false q e = inr (later e)

  layer-bound : (l : P.PatternKind-F PatternKind) (place : Place) (marks : List Place) → is_pattern_layer l place marks → (t : Term) (bound : List Name) (rest : Option Term) → (if list_any (same_name x) (bound_layer l) then Some t else rest) ≡ Some u → (rest ≡ Some u → Among x bound) → Among x (bound_layer l ++ bound)
  layer-bound (P.Var y) place marks w t bound rest e later = typed-here (is_wildcard y) y t bound rest e later
  layer-bound _ place marks w t bound rest e later = absurd w

  typed-bound : (ps : List (Node PatternKind)) (ts : List Term) → Every IsPattern ps → variable_type ps ts x ≡ Some u → Among x (bound_by ps)
  typed-bound [] ts w e = none-some u e
  typed-bound (p ∷ ps) [] w e = none-some u e
  typed-bound (p ∷ ps) (t ∷ ts) w e = layer-bound (out-PatternKind p.kind) p.place p.marks w.0 t (bound_by ps) (variable_type ps ts x) e (typed-bound ps ts w.1)

nil-cons : {A : Type 0} {C : Type 0} (a : A) (more : List A) → [] ≡ a ∷ more → C
nil-cons a more e = absurd (cc)

arrow-named : (specs : List FunSpec) (name : Name) (arity : ℕ) (arrow : Arrow) (more : List Arrow) → arrows_of specs name arity ≡ arrow ∷ more → Among (of_function name arity) (map spec_id specs)
arrow-named [] name arity arrow more e = nil-cons arrow more e
arrow-named (s ∷ specs) name arity arrow more e = go (same_name s.name name && nat_eq s.arity arity) refl e (arrow-named specs name arity arrow more)
  where
    go : (b : Bool) → (same_name s.name name && nat_eq s.arity arity) ≡ b → arrows_if b s.clauses ++ arrows_of specs name arity ≡ arrow ∷ more → (arrows_of specs name arity ≡ arrow ∷ more → Among (of_function name arity) (map spec_id specs)) → Among (of_function name arity) (map spec_id (s ∷ specs))
    go true q e later =
        let p : (same_name s.name name ≡ true) × (nat_eq s.arity arity ≡ true) = and_parts _ _ q in
        let n : name ≡ s.name = sym (name-is s.name name p.0) in
        let a : arity ≡ s.arity = sym (eqb-true s.arity arity p.1) in
        inl (λ i. of_function (n i) (a i))
    go false q e later = inr (later e)

-- ---- integers

nat_le-same : (n : ℕ) → le_int (pos n) (pos n) ≡ true
nat_le-same n = grind arith

le-same : (z : ℤ) → le_int z z ≡ true
le-same (pos n) = nat_le-same n
le-same (negsuc n) = nat_le-same n

-- ---- runs

-- how a run ends, and what is asked of a result
abbrev ends_as : {A : Type 0} → Outcome A → (A → Type 0) → Type 0
ends_as (came a) q = q a
ends_as (raised class v) q = Unit {0}
ends_as wrong q = ⊥
ends_as going q = Unit {0}

module _ (program : Program) where
  -- a value is in a term: of keys, so that level and instance make no difference
  abbrev Held : Value → Term → Type 0
  Held v t = InTerm program 0 v t given_definitions no_variables

  -- each value is in its term
  abbrev AreHeld : List Value → List Term → Type 0
  AreHeld vs ts = values_in (InTerm program 0) vs ts given_definitions no_variables

  -- a run that doesn't go wrong, whose result is as asked, and whose calls are within their specs
  record GoodRun (A : Type 0) (Q : A → Type 0) (run : Run A) : Type 0 where
    ends : ends_as run.outcome Q
    calls : calls_within program (InTerm program) run.calls

  calls-join : (cs ds : List Call) → calls_within program (InTerm program) cs → calls_within program (InTerm program) ds → calls_within program (InTerm program) (cs ++ ds)
  calls-join [] ds h k = k
  calls-join (c ∷ cs) ds h k = (h.0, calls-join cs ds h.1 k)

  go_on-good : {A B : Type 0} (Q : A → Type 0) (R : B → Type 0) (o : Outcome A) (steps : ℕ) (next : A → ℕ → Run B) → ends_as o Q → ((a : A) (left : ℕ) → Q a → GoodRun B R (next a left)) → GoodRun B R (go_on o steps next)
  go_on-good Q R (came a) steps next e h = h a steps e
  go_on-good Q R (raised class v) steps next e h = record { ends = tt; calls = tt }
  go_on-good Q R wrong steps next e h = absurd e
  go_on-good Q R going steps next e h = record { ends = tt; calls = tt }

  -- a good run, and then one that is good for each of its results
  then-good : {A B : Type 0} (Q : A → Type 0) (R : B → Type 0) (run : Run A) (next : A → ℕ → Run B) → GoodRun A Q run → ((a : A) (left : ℕ) → Q a → GoodRun B R (next a left)) → GoodRun B R ((then) run next)
  unfolding then
  then-good Q R run next g h =
      let r : GoodRun _ R (go_on run.outcome run.left next) = go_on-good Q R run.outcome run.left next g.ends h in
      record { ends = r.ends; calls = calls-join run.calls _ g.calls r.calls }

  gives-good : {A : Type 0} (Q : A → Type 0) (a : A) (steps : ℕ) → Q a → GoodRun A Q (gives a steps)
  gives-good Q a steps h = record { ends = h; calls = tt }

  ends-weaker : {A : Type 0} (Q R : A → Type 0) (o : Outcome A) → ((a : A) → Q a → R a) → ends_as o Q → ends_as o R
  ends-weaker Q R (came a) f h = f a h
  ends-weaker Q R (raised class v) f h = h
  ends-weaker Q R wrong f h = h
  ends-weaker Q R going f h = h

  good-weaker : {A : Type 0} (Q R : A → Type 0) (run : Run A) → ((a : A) → Q a → R a) → GoodRun A Q run → GoodRun A R run
  good-weaker Q R run f g = record { ends = ends-weaker Q R run.outcome f g.ends; calls = g.calls }

  -- ---- operators

  integer-held : (v : Value) → Held v integers → (n : ℤ) × (v ≡ integer n)
  integer-held (integer n) h = (n, refl)
  integer-held (atom a) h = absurd h
  integer-held nil h = absurd h
  integer-held (cons v w) h = absurd h
  integer-held (tuple vs) h = absurd h
  integer-held (map_of es) h = absurd h
  integer-held (named_fun name arity) h = absurd h
  integer-held (closure number environment) h = absurd h

  abbrev IsInteger : Value → Type 0
  IsInteger v = Held v integers

  operates : (op : BinaryOp) → (op ≡ Add) ⊎ ((op ≡ Sub) ⊎ (op ≡ Mul)) → (v w : Value) (steps : ℕ) → IsInteger v → IsInteger w → GoodRun Value IsInteger (ends (operate op v w) steps)
  operates op o v w steps h k =
      let m : (m : ℤ) × (v ≡ integer m) = integer-held v h in
      let n : (n : ℤ) × (w ≡ integer n) = integer-held w k in
      subst (λ z. GoodRun Value IsInteger (ends (operate op z w) steps)) (sym m.1) (subst (λ z. GoodRun Value IsInteger (ends (operate op (integer m.0) z) steps)) (sym n.1) (elim o [
        | inl e ↦ subst (λ z. GoodRun Value IsInteger (ends (operate z (integer m.0) (integer n.0)) steps)) (sym e) (record { ends = refl; calls = tt })
        | inr p ↦ elim p [
          | inl e ↦ subst (λ z. GoodRun Value IsInteger (ends (operate z (integer m.0) (integer n.0)) steps)) (sym e) (record { ends = refl; calls = tt })
          | inr e ↦ subst (λ z. GoodRun Value IsInteger (ends (operate z (integer m.0) (integer n.0)) steps)) (sym e) (record { ends = refl; calls = tt })
        ]
      ]))

  -- such an operator runs its operand on the right behind that on the left
  operator-runs : (op : BinaryOp) → (op ≡ Add) ⊎ ((op ≡ Sub) ⊎ (op ≡ Mul)) → (v : Value) (right : ℕ → Run Value) (steps : ℕ) → run_operator op v right steps ≡ (then) (right steps) (λ w left. ends (operate op v w) left)
  operator-runs op o v right steps = elim o [
    | inl e ↦ subst (λ z. run_operator z v right steps ≡ (then) (right steps) (λ w left. ends (operate z v w) left)) (sym e) refl
    | inr p ↦ elim p [
      | inl e ↦ subst (λ z. run_operator z v right steps ≡ (then) (right steps) (λ w left. ends (operate z v w) left)) (sym e) refl
      | inr e ↦ subst (λ z. run_operator z v right steps ≡ (then) (right steps) (λ w left. ends (operate z v w) left)) (sym e) refl
    ]
  ]

  held-within : (s t : Term) → IsWithin s t → (v : Value) → Held v s → Held v t
  held-within s t w v h = w program no_variables 0 v tt h

  -- ---- expressions

  module _ (number : ℕ) (specs : List FunSpec) (keyed : (name : Name) (arity : ℕ) (arrow : Arrow) → Contains (arrows_of specs name arity) arrow → IsArrowOfKeys arrow) (unbound : Outcome Value) (records : List RecDefKind) (arity : Value → ℕ) (apply : Applies)
      (free : (name : Name) (arrow : Arrow) (vs : List Value) → arrows_of specs name (length vs) ≡ arrow ∷ [] → built_in arity name vs ≡ None)
      (called : (name : Name) (arrow : Arrow) (vs : List Value) (steps : ℕ) → arrows_of specs name (length vs) ≡ arrow ∷ [] → AreHeld vs arrow.params → GoodRun Value (λ v. Held v arrow.result) (apply (named_fun name (length vs)) vs steps))
      (context : Context) (environment : Environment) (owns : (x : Name) (t : Term) → context x ≡ Some t → IsOfKeys t × (v : Value) × (variable_value environment x ≡ Some v) × Held v t) where
    -- what an expression is run as, and several in turn
    abbrev runs : Node ExprKind → ℕ → ℕ → Run Value
    runs e first steps = (expr_part unbound records arity apply e).run first environment steps

    abbrev run_args : List (Node ExprKind) → ℕ → ℕ → Run (List Value)
    run_args es first steps = run_all (map (expr_part unbound records arity apply) es) first environment steps

    -- the number behind those of the fun expressions in an expression
    abbrev past : Node ExprKind → ℕ → ℕ
    past e first = behind first (expr_part unbound records arity apply e).funs

    -- the type is of keys, and where what is owed holds, each run is good for it, whatever the number of its first fun expression
    record Sound (e : ExprKind) (j : Judged) : Type 0 where
      keys : IsOfKeys j.type
      good : Every Holds j.owed → (first steps : ℕ) → GoodRun Value (λ v. Held v j.type) ((run_kind unbound records arity apply e).run first environment steps)

    -- the same of expressions in turn
    record AreSound (es : List (Node ExprKind)) (js : JudgedAll) : Type 0 where
      keys : Every IsOfKeys js.types
      good : Every Holds js.owed → (first steps : ℕ) → GoodRun (List Value) (λ vs. AreHeld vs js.types) (run_args es first steps)

    sound-at : (e : ExprKind) (i j : Judged) → Some i ≡ Some j → Sound e i → Sound e j
    sound-at e i j q s = subst (λ z. Sound e z) (some-inj i j q) s

    are-sound-at : (es : List (Node ExprKind)) (is js : JudgedAll) → Some is ≡ Some js → AreSound es is → AreSound es js
    are-sound-at es is js q s = subst (λ z. AreSound es z) (some-inj is js q) s

    abbrev ExprSound : Node ExprKind → Type 0
    ExprSound e = (j : Judged) → judge always number specs e context ≡ Some j → Sound e.kind j

    abbrev ArgsSound : List (Node ExprKind) → Type 0
    ArgsSound es = (js : JudgedAll) → judge_args always number specs es context ≡ Some js → AreSound es js

    is-arithmetic : (op : BinaryOp) → (op ≡ Add) ⊎ ((op ≡ Sub) ⊎ (op ≡ Mul)) → is_arithmetic op ≡ true
    is-arithmetic op (inl e) = ap is_arithmetic e
    is-arithmetic op (inr (inl e)) = ap is_arithmetic e
    is-arithmetic op (inr (inr e)) = ap is_arithmetic e

    binary-sound : (op : BinaryOp) → (op ≡ Add) ⊎ ((op ≡ Sub) ⊎ (op ≡ Mul)) → (a b : Node ExprKind) (place : Place) → ExprSound a → ExprSound b → (j : Judged) → judge_kind always number specs (X.Binary op a b) place context ≡ Some j → Sound (X.Binary op a b) j
    binary-sound op o a b place sa sb j q =
        let x : (i : Judged) × (judge always number specs a context ≡ Some i) × (and_then (judge always number specs b context) (λ k. operation always number specs (is_arithmetic op) a.place i b.place k) ≡ Some j) =
        then-some (judge always number specs a context) _ j (sym (judge_kind-Binary always number specs op a b place context) ∙ q) in
        let y : (k : Judged) × (judge always number specs b context ≡ Some k) × (operation always number specs (is_arithmetic op) a.place x.0 b.place k ≡ Some j) = then-some (judge always number specs b context) _ j x.2 in
        let s : Sound a.kind x.0 = sa x.0 x.1 in
        let t : Sound b.kind y.0 = sb y.0 y.1 in
        sound-at (X.Binary op a b) (record { type = integers; owed = x.0.owed ++ (y.0.owed ++ operand always number specs a.place x.0.type ∷ operand always number specs b.place y.0.type ∷ []) }) j
        (ap (λ z. operation always number specs z a.place x.0 b.place y.0) (sym (is-arithmetic op o)) ∙ y.2)
        (record {
          keys = ints-keys None None;
          good = λ h first steps.
              let h1 : Every Holds x.0.owed × Every Holds (y.0.owed ++ operand always number specs a.place x.0.type ∷ operand always number specs b.place y.0.type ∷ []) = every-split Holds x.0.owed _ h in
              let h2 : Every Holds y.0.owed × Every Holds (operand always number specs a.place x.0.type ∷ operand always number specs b.place y.0.type ∷ []) = every-split Holds y.0.owed _ h1.1 in
              subst (λ z. GoodRun Value IsInteger z) (sym (runs-Binary unbound records arity apply op a b first environment steps))
              (then-good (λ v. Held v x.0.type) IsInteger (runs a first steps) _ (s.good h1.0 first steps) (λ v left hv.
              subst (λ z. GoodRun Value IsInteger z) (sym (operator-runs op o v (λ rest. runs b (past a first) rest) left))
              (then-good (λ w. Held w y.0.type) IsInteger (runs b (past a first) left) _ (t.good h2.0 (past a first) left) (λ w rest hw.
              operates op o v w rest (held-within x.0.type integers h2.1.0 v hv) (held-within y.0.type integers h2.1.1.0 w hw)))));
        })

    held-length : (vs : List Value) (ts : List Term) → AreHeld vs ts → length vs ≡ length ts
    held-length [] [] h = refl
    held-length (v ∷ vs) (t ∷ ts) h = ap suc (held-length vs ts h.1)
    held-length [] (t ∷ ts) h = absurd h
    held-length (v ∷ vs) [] h = absurd h

    call-sound : (place : Place) (name : Name) (args : List (Node ExprKind)) → ArgsSound args → (j : Judged) → judge_kind always number specs (X.Call None name args) place context ≡ Some j → Sound (X.Call None name args) j
    call-sound place name args sargs j q =
        let x : (js : JudgedAll) × (judge_args always number specs args context ≡ Some js) × (call always number specs place (arrows_of specs name (length js.types)) js ≡ Some j) =
        then-some (judge_args always number specs args context) _ j (sym (judge_kind-Call always number specs name args place context) ∙ q) in
        go x.0 (sargs x.0 x.1) (arrows_of specs name (length x.0.types)) refl x.2
      where
        go : (js : JudgedAll) → AreSound args js → (arrows : List Arrow) → arrows_of specs name (length js.types) ≡ arrows → call always number specs place arrows js ≡ Some j → Sound (X.Call None name args) j
        go js s [] e q = none-some j q
        go js s (arrow ∷ other ∷ more) e q = none-some j q
        go js s (arrow ∷ []) e q =
            let k : IsArrowOfKeys arrow = keyed name (length js.types) arrow (subst (λ (z : List Arrow). Contains z arrow) (sym e) (contains-first arrow [])) in
            sound-at (X.Call None name args)
            (record { type = arrow.result; owed = js.owed ++ record { function = number; place = place; kind = CallKind; left = And (Fun arrow.params arrow.result ∷ []); right = Fun js.types arrow.result } ∷ [] }) j q
            (record {
              keys = k.1;
              good = λ h first steps.
                  let hs : Every Holds js.owed × Every Holds (record { function = number; place = place; kind = CallKind; left = And (Fun arrow.params arrow.result ∷ []); right = Fun js.types arrow.result } ∷ []) = every-split Holds js.owed _ h in
                  subst (λ z. GoodRun Value (λ v. Held v arrow.result) z) (sym (runs-Call unbound records arity apply None name args first environment steps))
                  (then-good (λ vs. AreHeld vs js.types) (λ v. Held v arrow.result) (run_args args first steps) _ (s.good hs.0 first steps) (λ vs left hv.
                  let one : arrows_of specs name (length vs) ≡ arrow ∷ [] = ap (arrows_of specs name) (held-length vs js.types hv) ∙ e in
                  subst (λ z. GoodRun Value (λ v. Held v arrow.result) (run_call unbound None z (λ rest. apply (named_fun name (length vs)) vs rest) left)) (sym (free name arrow vs one))
                  (called name arrow vs left one (call-takes js.types arrow.params arrow.result arrow.result s.keys k.0 hs.1.0 program 0 no_variables vs hv))));
            })

    args-none : ArgsSound []
    args-none js q = are-sound-at [] (record { types = []; owed = [] }) js q (record { keys = tt; good = λ h first steps. record { ends = tt; calls = tt } })

    args-more : (e : Node ExprKind) (es : List (Node ExprKind)) → ExprSound e → ArgsSound es → ArgsSound (e ∷ es)
    args-more e es se ses js q =
        let x : (j : Judged) × (judge always number specs e context ≡ Some j) × (and_then (judge_args always number specs es context) (λ ks. Some (record { types = j.type ∷ ks.types; owed = j.owed ++ ks.owed })) ≡ Some js) = then-some (judge always number specs e context) _ js q in
        let y : (ks : JudgedAll) × (judge_args always number specs es context ≡ Some ks) × (Some (record { types = x.0.type ∷ ks.types; owed = x.0.owed ++ ks.owed }) ≡ Some js) = then-some (judge_args always number specs es context) _ js x.2 in
        let s : Sound e.kind x.0 = se x.0 x.1 in
        let t : AreSound es y.0 = ses y.0 y.1 in
        are-sound-at (e ∷ es) (record { types = x.0.type ∷ y.0.types; owed = x.0.owed ++ y.0.owed }) js y.2
        (record {
          keys = (s.keys, t.keys);
          good = λ h first steps.
              let hs : Every Holds x.0.owed × Every Holds y.0.owed = every-split Holds x.0.owed y.0.owed h in
              then-good (λ v. Held v x.0.type) (λ vs. AreHeld vs (x.0.type ∷ y.0.types)) (runs e first steps) _ (s.good hs.0 first steps) (λ v left hv.
              then-good (λ vs. AreHeld vs y.0.types) (λ vs. AreHeld vs (x.0.type ∷ y.0.types)) (run_args es (past e first) left) _ (t.good hs.1 (past e first) left) (λ vs rest hvs. record { ends = (hv, hvs); calls = tt }));
        })

    additive : (op : BinaryOp) → IsAdditive op → (op ≡ Add) ⊎ ((op ≡ Sub) ⊎ (op ≡ Mul))
    additive Add h = inl refl
    additive Sub h = inr (inl refl)
    additive _ h = absurd h

    mutual
      expr-sound : (e : Node ExprKind) → IsExpr e → (j : Judged) → judge always number specs e context ≡ Some j → Sound e.kind j
      expr-sound e (one_product _ w) j q = product-sound e w j q
      expr-sound e (sum op a b m o v w) j q = binary-sound op (additive op o) a b a.place (λ i r. expr-sound a v i r) (λ i r. product-sound b w i r) j q

      product-sound : (e : Node ExprKind) → IsProduct e → (j : Judged) → judge always number specs e context ≡ Some j → Sound e.kind j
      product-sound e (one_operand _ w) j q = operand-sound e w j q
      product-sound e (product a b m v w) j q = binary-sound Mul (inr (inr refl)) a b a.place (λ i r. product-sound a v i r) (λ i r. operand-sound b w i r) j q

      operand-sound : (e : Node ExprKind) → IsOperand e → (j : Judged) → judge always number specs e context ≡ Some j → Sound e.kind j
      operand-sound e (G.integer p n) j q = sound-at (X.Int n) (record { type = one_integer n; owed = [] }) j (sym (judge_kind-Int always number specs n p context) ∙ q)
          (record { keys = ints-keys (Some n) (Some n); good = λ h first steps. subst (λ z. GoodRun Value (λ v. Held v (one_integer n)) z) (sym (runs-Int unbound records arity apply n first environment steps)) (record { ends = and_from _ _ (le-same n) (le-same n); calls = tt }) })
      operand-sound e (G.atom p a) j q = sound-at (X.Atom a) (record { type = AtomLit a; owed = [] }) j (sym (judge_kind-Atom always number specs a p context) ∙ q)
          (record { keys = atom-keys a; good = λ h first steps. subst (λ z. GoodRun Value (λ v. Held v (AtomLit a)) z) (sym (runs-Atom unbound records arity apply a first environment steps)) (record { ends = name-refl a; calls = tt }) })
      operand-sound e (G.variable p x) j q =
          let t : (t : Term) × (context x ≡ Some t) × (of_type t ≡ Some j) = then-some (context x) _ j (sym (judge_kind-Var always number specs x p context) ∙ q) in
          let o : IsOfKeys t.0 × (v : Value) × (variable_value environment x ≡ Some v) × Held v t.0 = owns x t.0 t.1 in
          sound-at (X.Var x) (record { type = t.0; owed = [] }) j t.2
          (record { keys = o.0; good = λ h first steps. subst (λ z. GoodRun Value (λ v. Held v t.0) z) (sym (runs-Var unbound records arity apply x first environment steps ∙ ap (λ z. ends (meaning unbound z) steps) o.2)) (record { ends = o.3; calls = tt }) })
      operand-sound e (G.parens o c f w) j q =
          let s : Sound f.kind j = expr-sound f w j (sym (judge_kind-Paren always number specs f o context) ∙ q) in
          record { keys = s.keys; good = λ h first steps. subst (λ z. GoodRun Value (λ v. Held v j.type) z) (sym (runs-Paren unbound records arity apply f first environment steps)) (s.good h first steps) }
      operand-sound e (G.call n o ms name args w) j q = call-sound n name args (λ js r. args-sound args ms w js r) j q

      args-sound : (es : List (Node ExprKind)) (ms : List Place) → AreArguments es ms → (js : JudgedAll) → judge_args always number specs es context ≡ Some js → AreSound es js
      args-sound es ms (no_arguments c) js q = args-none js q
      args-sound es ms (last_argument e c w) js q = args-more e [] (λ j r. expr-sound e w j r) args-none js q
      args-sound es ms (more_arguments e f fs m ns v w) js q = args-more e (f ∷ fs) (λ j r. expr-sound e v j r) (λ ks r. args-sound (f ∷ fs) ns w ks r) js q

-- ---- functions

-- the type of a variable is one of the types
typed-keys : (Q : Term → Type 0) (ps : List (Node PatternKind)) (ts : List Term) (x : Name) (u : Term) → Every Q ts → variable_type ps ts x ≡ Some u → Q u
typed-keys Q [] ts x u h e = none-some u e
typed-keys Q (p ∷ ps) [] x u h e = none-some u e
typed-keys Q (p ∷ ps) (t ∷ ts) x u h e = go (list_any (same_name x) (bound_layer (out-PatternKind p.kind))) e (typed-keys Q ps ts x u h.1)
  where
    go : (b : Bool) → (if b then Some t else variable_type ps ts x) ≡ Some u → (variable_type ps ts x ≡ Some u → Q u) → Q u
    go true e later = subst Q (some-inj t u e) h.0
    go false e later = later e

module _ (m : Module) (flat : IsFlatModule m) (hold : Every Holds (owed_of always m)) (outside : List (Node ExprKind)) where
  abbrev code : Code
  code = code_of m outside

  abbrev whole : Program
  whole = program_of code (specs_of m) given_definitions

  -- what is claimed of an application
  abbrev IsCalled : Applies → Type 0
  IsCalled apply = (name : Name) (arrow : Arrow) (vs : List Value) (steps : ℕ) → arrows_of (specs_of m) name (length vs) ≡ arrow ∷ [] → AreHeld whole vs arrow.params → GoodRun whole Value (λ v. Held whole v arrow.result) (apply (named_fun name (length vs)) vs steps)

  keys-of : (name : Name) (arity : ℕ) (arrow : Arrow) → Contains (arrows_of (specs_of m) name arity) arrow → IsArrowOfKeys arrow
  keys-of = module-keys m (flat-formed m flat) flat.flat_specs.specs_read

  free : (name : Name) (arrow : Arrow) (vs : List Value) → arrows_of (specs_of m) name (length vs) ≡ arrow ∷ [] → built_in (arity_of code) name vs ≡ None
  free name arrow vs e =
      let d : Among (of_function name (length vs)) (function_ids m) = every-at _ (of_function name (length vs)) (map spec_id (specs_of m)) (flat-names m flat).defined (arrow-named (specs_of m) name (length vs) arrow [] e) in
      not-built_in name (arity_of code) vs (every-at (λ id. is_built_in id ≡ false) (of_function name (length vs)) (function_ids m) (flat-names m flat).not_built_in d)

  all-held : (vs : List Value) (ts : List Term) → AreHeld whole vs ts → all_in (Held whole) vs ts
  all-held [] [] h = tt
  all-held (v ∷ vs) (t ∷ ts) h = (h.0, all-held vs ts h.1)
  all-held [] (t ∷ ts) h = absurd h
  all-held (v ∷ vs) [] h = absurd h

  function-owes : (f : Function) (arrow : Arrow) → Among f (functions_of m) → Contains (arrows_of (specs_of m) f.name (clauses_arity f.clauses)) arrow → (k : ℕ) × Every Holds (owed_by_clauses always k (specs_of m) f.clauses arrow)
  unfolding owed_of
  function-owes f arrow a c = functions-hold 0 (functions_of m) (specs_of m) f arrow hold a c

  function-good : (apply : Applies) → IsCalled apply → (f : Function) → Among f (functions_of m) → (arrow : Arrow) → Contains (arrows_of (specs_of m) f.name (clauses_arity f.clauses)) arrow → (first : ℕ) (vs : List Value) (steps : ℕ) → AreHeld whole vs arrow.params →
      GoodRun whole Value (λ v. Held whole v arrow.result) (run_function code apply (Some (f, first)) vs steps)
  function-good apply called f a arrow c first vs steps h =
      let k : IsArrowOfKeys arrow = keys-of f.name (clauses_arity f.clauses) arrow c in
      let o : (k : ℕ) × Every Holds (owed_by_clauses always k (specs_of m) f.clauses arrow) = function-owes f arrow a c in
      let b : JudgedBody always o.0 (specs_of m) f arrow = body-judged always o.0 m flat f a arrow c in
      let all : Every Holds (owed_result always o.0 (specs_of m) b.expression.place (Some b.judged) arrow.result) × Every Holds [] = every-split Holds _ [] (subst (λ z. Every Holds z) (body-owes always o.0 (specs_of m) f arrow b) o.1) in
      let own : Every Holds b.judged.owed × Every Holds (record { function = o.0; place = b.expression.place; kind = Result; left = b.judged.type; right = arrow.result } ∷ []) = every-split Holds b.judged.owed _ all.0 in
      let patterns : List (Node PatternKind) = (out-ClauseKind b.clause.kind).patterns in
      let p : ((out-ClauseKind b.clause.kind).guard ≡ None) × Every IsPattern patterns × IsBody (out-ClauseKind b.clause.kind).body = clause-parts (out-ClauseKind b.clause.kind) b.clause.place b.clause.marks b.clause_formed in
      let distinct : Every HasDistinctHead (b.clause ∷ []) = subst (λ z. Every HasDistinctHead z) b.one_clause (every-at _ f (functions_of m) flat.distinct_heads a) in
      let one : Every HasOneArrow (specs_of m) = one-arrow-each (specs_in m.forms) (specs_of m) (forms-specs m.forms (well_formed-forms m (flat-formed m flat))) flat.flat_specs.specs_read in
      let len : length patterns ≡ length arrow.params = sym (arrow-arity (specs_of m) f.name (clauses_arity f.clauses) arrow one c ∙ ap clauses_arity b.one_clause) in
      let t : Taken (Held whole) (bound_by patterns) (variable_type patterns arrow.params) no_bindings (match_patterns (records_of m) patterns vs no_bindings) = take-patterns (Held whole) (records_of m) patterns arrow.params vs no_bindings p.1 distinct.0 len (all-held vs arrow.params h) (λ x z. refl) in
      let layer : out-ClauseKind b.clause.kind ≡ record { patterns = patterns; guard = None; body = b.item ∷ [] } = λ i. record { patterns = patterns; guard = p.0 i; body = b.one_item i } in
      let item : b.item.kind ≡ I.Value b.expression = sym (roll-out-ItemKind b.item.kind) ∙ (ap roll-ItemKind b.is_expression ∙ I.rolls-Value b.expression) in
      let body : Run Value = (run_kind wrong (records_of m) (arity_of code) apply b.expression.kind).run first t.environment steps in
      let same : run_clauses taken_anew (choices wrong (records_of m) (arity_of code) apply f.clauses) first no_bindings vs steps ≡ body =
      ap (λ z. run_clauses taken_anew (choices wrong (records_of m) (arity_of code) apply z) first no_bindings vs steps) b.one_clause
      ∙ (one_clause-runs wrong (records_of m) (arity_of code) apply b.clause.kind patterns b.item b.expression layer item first vs steps
      ∙ ap (λ z. run_bound wrong (records_of m) (arity_of code) apply z (λ environment. (run_kind wrong (records_of m) (arity_of code) apply b.expression.kind).run first environment steps) steps) t.is) in
      let s : Sound whole o.0 (specs_of m) keys-of wrong (records_of m) (arity_of code) apply free called (variable_type patterns arrow.params) t.environment (owns b.clause arrow k p.1 t.environment t.own) b.expression.kind b.judged =
      expr-sound whole o.0 (specs_of m) keys-of wrong (records_of m) (arity_of code) apply free called (variable_type patterns arrow.params) t.environment (owns b.clause arrow k p.1 t.environment t.own) b.expression b.formed b.judged b.is_judged in
      subst (λ z. GoodRun whole Value (λ v. Held whole v arrow.result) z) (sym same) (good-weaker whole (λ v. Held whole v b.judged.type) (λ v. Held whole v arrow.result) body (λ v x. held-within whole b.judged.type arrow.result own.1.0 v x) (s.good own.0 first steps))
    where
      owns : (c : Node ClauseKind) (arrow : Arrow) → IsArrowOfKeys arrow → Every IsPattern (out-ClauseKind c.kind).patterns → (e : Environment) →
          ((x : Name) → Among x (bound_by (out-ClauseKind c.kind).patterns) → (t : Term) × (v : Value) × (variable_type (out-ClauseKind c.kind).patterns arrow.params x ≡ Some t) × (variable_value e x ≡ Some v) × Held whole v t) →
          (x : Name) (t : Term) → variable_type (out-ClauseKind c.kind).patterns arrow.params x ≡ Some t → IsOfKeys t × (v : Value) × (variable_value e x ≡ Some v) × Held whole v t
      owns c arrow k w e own x t q =
          let o : (t : Term) × (v : Value) × (variable_type (out-ClauseKind c.kind).patterns arrow.params x ≡ Some t) × (variable_value e x ≡ Some v) × Held whole v t = own x (typed-bound x t (out-ClauseKind c.kind).patterns arrow.params w q) in
          (typed-keys IsOfKeys (out-ClauseKind c.kind).patterns arrow.params x t k.0 q, o.1, o.3, subst (λ z. Held whole o.1 z) (some-inj o.0 t (sym o.2 ∙ q)) o.4)

  cond-good : (b : Bool) (t : Term) (run : Run Value) (steps : ℕ) → b ≡ true → GoodRun whole Value (λ v. Held whole v t) run → GoodRun whole Value (λ v. Held whole v t) (cond b run (goes_wrong steps))
  cond-good true t run steps e g = g
  cond-good false t run steps e g = absurd (cc)

  enter-good : (apply : Applies) → IsCalled apply → (name : Name) (arrow : Arrow) (vs : List Value) (steps : ℕ) → arrows_of (specs_of m) name (length vs) ≡ arrow ∷ [] → AreHeld whole vs arrow.params →
      GoodRun whole Value (λ v. Held whole v arrow.result) (enter code apply (named_fun name (length vs)) vs steps)
  enter-good apply called name arrow vs steps e h =
      let c : Contains (arrows_of (specs_of m) name (length vs)) arrow = subst (λ (z : List Arrow). Contains z arrow) (sym e) (contains-first arrow []) in
      let d : Among (of_function name (length vs)) (function_ids m) = every-at _ (of_function name (length vs)) (map spec_id (specs_of m)) (flat-names m flat).defined (arrow-named (specs_of m) name (length vs) arrow [] e) in
      let f : (f : Function) × Among f (functions_of m) × (of_function name (length vs) ≡ function_id f) = among-source function_id (of_function name (length vs)) (functions_of m) d in
      let is : find_function (functions_of m) name (length vs) ≡ Some f.0 = ap (λ (z : FunctionId). find_function (functions_of m) z.name z.arity) f.2 ∙ found (functions_of m) f.0 f.1 (flat-names m flat).functions_distinct in
      let n : (first : ℕ) × (find_numbered (numbered (functions_of m) 0) name (length vs) ≡ Some (f.0, first)) = found-numbered (functions_of m) name (length vs) 0 f.0 is in
      let g : GoodRun whole Value (λ v. Held whole v arrow.result) (run_function code apply (Some (f.0, n.0)) vs steps) = function-good apply called f.0 f.1 arrow (subst (λ (z : FunctionId). Contains (arrows_of (specs_of m) z.name z.arity) arrow) f.2 c) n.0 vs steps h in
      let run : Run Value = run_function code apply (find_numbered (numbered (functions_of m) 0) name (length vs)) vs steps in
      let r : GoodRun whole Value (λ v. Held whole v arrow.result) (cond (nat_eq (length vs) (length vs)) run (goes_wrong steps)) =
      cond-good (nat_eq (length vs) (length vs)) arrow.result run steps (eq-eqb (length vs) (length vs) refl) (subst (λ z. GoodRun whole Value (λ v. Held whole v arrow.result) (run_function code apply z vs steps)) (sym n.1) g) in
      record { ends = r.ends; calls = ((λ none. none arrow no_variables c tt (values-moved arrow.params (keys-of name (length vs) arrow c).0 whole whole 0 steps no_variables no_variables vs h)), r.calls) }

  -- by induction on the bound of applications inside one another
  calls-good : (bound : ℕ) → IsCalled (apply_within code bound)
  unfolding apply_within
  calls-good zero name arrow vs zero e h = record { ends = tt; calls = tt }
  calls-good zero name arrow vs (suc steps) e h = record { ends = tt; calls = tt }
  calls-good (suc bound) name arrow vs zero e h = record { ends = tt; calls = tt }
  calls-good (suc bound) name arrow vs (suc steps) e h = enter-good (apply_within code bound) (calls-good bound) name arrow vs steps e h

  ends-right : (o : Outcome Value) (left : ℕ) (t : Term) (i : Instance) → IsOfKeys t → ends_as o (λ v. Held whole v t) → ends_well o (λ v. InTerm whole left v t given_definitions i)
  ends-right (came v) left t i k h = moved t k whole whole 0 left no_variables i v h
  ends-right (raised class v) left t i k h = h
  ends-right wrong left t i k h = h
  ends-right going left t i k h = h

  run-right : (run : Run Value) (t : Term) (i : Instance) → IsOfKeys t → GoodRun whole Value (λ v. Held whole v t) run → IsRightRun whole run t i
  run-right run t i k g = record {
    good = (ends-right run.outcome run.left t i k g.ends, g.calls);
    value = λ v e l. moved t k whole whole 0 l no_variables i v (subst (λ o. ends_as o (λ w. Held whole w t)) e g.ends);
  }

  in-length : (read : Value → Reading) (vs : List Value) (ts : List Term) (i : Instance) → values_in read vs ts given_definitions i → length vs ≡ length ts
  in-length read [] [] i h = refl
  in-length read (v ∷ vs) (t ∷ ts) i h = ap suc (in-length read vs ts i h.1)
  in-length read [] (t ∷ ts) i h = absurd h
  in-length read (v ∷ vs) [] i h = absurd h

  only-arrow : (f : Function) (arrow : Arrow) → Among f (functions_of m) → Contains (arrows_of (specs_of m) f.name (clauses_arity f.clauses)) arrow → arrows_of (specs_of m) f.name (clauses_arity f.clauses) ≡ arrow ∷ []
  only-arrow f arrow a c =
      let o : (one : Arrow) × (arrows_of (specs_of m) f.name (clauses_arity f.clauses) ≡ one ∷ []) × (clauses_arity f.clauses ≡ length one.params) = own-arrow m f flat a in
      o.1 ∙ ap (λ z. z ∷ []) (elim (contains-cases o.0 arrow [] (subst (λ (z : List Arrow). Contains z arrow) o.1 c)) [ inl e ↦ e | inr k ↦ absurd (contains-none arrow k) ])

  safe-run : (f : Function) (arrow : Arrow) (i : Instance) (args : List Value) (steps : ℕ) → Among f (functions_of m) → Contains (arrows_of (specs_of m) f.name (clauses_arity f.clauses)) arrow → values_in (InTerm whole 0) args arrow.params given_definitions i →
      IsRightRun whole (apply code (named_fun f.name (clauses_arity f.clauses)) args steps) arrow.result i
  safe-run f arrow i args steps a c h =
      let k : IsArrowOfKeys arrow = keys-of f.name (clauses_arity f.clauses) arrow c in
      let e : arrows_of (specs_of m) f.name (clauses_arity f.clauses) ≡ arrow ∷ [] = only-arrow f arrow a c in
      let one : Every HasOneArrow (specs_of m) = one-arrow-each (specs_in m.forms) (specs_of m) (forms-specs m.forms (well_formed-forms m (flat-formed m flat))) flat.flat_specs.specs_read in
      let n : length args ≡ clauses_arity f.clauses = in-length (InTerm whole 0) args arrow.params i h ∙ arrow-arity (specs_of m) f.name (clauses_arity f.clauses) arrow one c in
      subst (λ z. IsRightRun whole (apply code (named_fun f.name z) args steps) arrow.result i) n
      (run-right (apply code (named_fun f.name (length args)) args steps) arrow.result i k.1 (calls-good steps f.name arrow args steps (ap (arrows_of (specs_of m) f.name) n ∙ e) (values-moved arrow.params k.0 whole whole 0 0 i no_variables args h)))

-- a module whose owed constraints hold is safe
pub holds-safe : (m : Module) → IsFlatModule m → Every Holds (owed_of (λ types params. true) m) → IsSafe m (specs_of m) given_definitions
holds-safe m flat hold outside f arrow i args steps a c w r = safe-run m flat hold outside f arrow i args steps a c (r 0)

-- a module that meets its constraints is safe
pub meets-safe : (m : Module) → IsFlatModule m → MeetsConstraints m → IsSafe m (specs_of m) given_definitions
meets-safe m flat meets = holds-safe m flat (meets (λ types params. true) (λ types params fit. refl))

-- the same of the specs that the module has
pub specs-safe : (m : Module) → IsFlatModule m → (s : Specs) → module_specs m ≡ Some s → MeetsConstraints m → IsSafe m s.functions s.defs
specs-safe m flat s e meets = subst (λ (z : Specs). IsSafe m z.functions z.defs) (some-is _ _ (sym (flat-whole m flat) ∙ e)) (meets-safe m flat meets)
