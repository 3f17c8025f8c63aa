-- What is said of an expression, by what is said of its parts.
use Rattle.std.proofs.Common.{◌≡◌, refl, sym, ◌∙◌, ap, subst, ℕ, ℤ, ◌+◌, List, [], ◌∷◌, ◌++◌, length, take, append_assoc}
use Rattle.std.specs.Prelude.{Bool, true, false, Option, Some, None, slice_get}
use Rattle.type_terms.specs.declared.term.Term.{Term, AtomLit}
use Rattle.type_terms.specs.declared.spec.Arrow.{Arrow}
use Rattle.type_terms.specs.Keys.{Name}
use Rattle.erl_tree.specs.declared.token.Node.{Node}
use Rattle.erl_tree.specs.declared.expr.BinaryOp.{BinaryOp}
use Rattle.erl_tree.specs.declared.expr.ExprKind.{ExprKind}
use Rattle.erl_tree.specs.declared.expr.ExprKind.TheVariants as X
use Rattle.erl_tree.specs.Lists.{Every}
use Rattle.erl_runs.specs.Specs.{and_then, one_integer}
use Rattle.erl_runs.specs.Membership.{arrows_of}
use Rattle.cert_checker.specs.declared.refusal.FirstRefusal.{FirstRefusal}
use Rattle.cert_checker.specs.declared.expression_type.ExpressionType.{ExpressionType}
use Rattle.cert_checker.specs.declared.expression_type.ExpressionType.TheVariants.{Integers, OneInteger, OneAtom, Parameter}
use Rattle.cert_checker.specs.declared.scope.Scope.{Scope}
use Rattle.cert_checker.specs.Constraints.{Constraint, Judged, JudgedAll, Holds, integers, is_arithmetic, operation, call, of_type, judge, judge_kind}
use Rattle.cert_checker.specs.Failures.{ShowsFailure}
use Rattle.cert_checker.specs.FlatTypes.{is_limited}
use Rattle.cert_checker.specs.Judging.{Setting, context_of, JudgedBy, IsJudged, judge_arguments, AllJudgedBy, AreJudged, StandsFor, StandForAll, IsTypeIn, FailsIn, AreTypesIn, AllFailIn, owed_operands, type_of_call, owed_call, IsCall}
use Rattle.cert_checker.proofs.Lists.{some-inj, none-some, then-some, every-join}
use Rattle.cert_checker.proofs.JudgeLaws.{judge_args, judge_kind-Int, judge_kind-Atom, judge_kind-Var, judge_kind-Paren, judge_kind-Binary, judge_kind-Call}
use Rattle.cert_checker.proofs.Takes.{take-more, split-at}
use Rattle.cert_checker.proofs.Arguments.{stand-append}
use Rattle.cert_checker.proofs.Failing.{shows-within, shows-before, shows-after}

module _ (scope : Scope) (s : Setting scope) where
  -- ---- one level of an expression

  -- what is said of an expression of a known form
  at-form : (e : Node ExprKind) (k : ExprKind) (j : Judged) (o : Option Judged) → e.kind ≡ k → judge_kind s.fits scope.number s.specs k e.place (context_of scope s) ≡ o → JudgedBy scope s e j → o ≡ Some j
  at-form e k j o q l h = sym (ap (λ z. judge_kind s.fits scope.number s.specs z e.place (context_of scope s)) q ∙ l) ∙ h

  pub judged-Int : (e : Node ExprKind) (n : ℤ) (j : Judged) → e.kind ≡ X.Int n → JudgedBy scope s e j → record { type = one_integer n; owed = [] } ≡ j
  judged-Int e n j q h = some-inj _ j (at-form e (X.Int n) j (of_type (one_integer n)) q (judge_kind-Int s.fits scope.number s.specs n e.place (context_of scope s)) h)

  pub judged-Atom : (e : Node ExprKind) (a : Name) (j : Judged) → e.kind ≡ X.Atom a → JudgedBy scope s e j → record { type = AtomLit a; owed = [] } ≡ j
  judged-Atom e a j q h = some-inj _ j (at-form e (X.Atom a) j (of_type (AtomLit a)) q (judge_kind-Atom s.fits scope.number s.specs a e.place (context_of scope s)) h)

  pub judged-Var : (e : Node ExprKind) (x : Name) (j : Judged) → e.kind ≡ X.Var x → JudgedBy scope s e j → (t : Term) × (context_of scope s x ≡ Some t) × (record { type = t; owed = [] } ≡ j)
  judged-Var e x j q h =
      let r : (t : Term) × (context_of scope s x ≡ Some t) × (of_type t ≡ Some j) = then-some (context_of scope s x) of_type j (at-form e (X.Var x) j _ q (judge_kind-Var s.fits scope.number s.specs x e.place (context_of scope s)) h) in
      (r.0, r.1, some-inj _ j r.2)

  pub judged-Paren : (e u : Node ExprKind) (j : Judged) → e.kind ≡ X.Paren u → JudgedBy scope s e j → JudgedBy scope s u j
  judged-Paren e u j q h = at-form e (X.Paren u) j _ q (judge_kind-Paren s.fits scope.number s.specs u e.place (context_of scope s)) h

  -- what is said of an operation
  pub record JudgedBinary (a b : Node ExprKind) (j : Judged) : Type 0 where
    pub left : Judged
    pub right : Judged
    pub left_is : JudgedBy scope s a left
    pub right_is : JudgedBy scope s b right
    pub type_is : integers ≡ j.type
    pub owed_is : left.owed ++ (right.owed ++ owed_operands scope.number a.place left.type b.place right.type) ≡ j.owed

  pub judged-Binary : (e a b : Node ExprKind) (op : BinaryOp) (j : Judged) → e.kind ≡ X.Binary op a b → JudgedBy scope s e j → JudgedBinary a b j
  judged-Binary e a b op j q h =
      let r : (ja : Judged) × (judge s.fits scope.number s.specs a (context_of scope s) ≡ Some ja) × (and_then (judge s.fits scope.number s.specs b (context_of scope s)) (λ k. operation s.fits scope.number s.specs (is_arithmetic op) a.place ja b.place k) ≡ Some j) =
      then-some (judge s.fits scope.number s.specs a (context_of scope s)) _ j (at-form e (X.Binary op a b) j _ q (judge_kind-Binary s.fits scope.number s.specs op a b e.place (context_of scope s)) h) in
      let t : (jb : Judged) × (judge s.fits scope.number s.specs b (context_of scope s) ≡ Some jb) × (operation s.fits scope.number s.specs (is_arithmetic op) a.place r.0 b.place jb ≡ Some j) = then-some (judge s.fits scope.number s.specs b (context_of scope s)) _ j r.2 in
      go r.0 t.0 (is_arithmetic op) r.1 t.1 t.2
    where
      go : (ja jb : Judged) (w : Bool) → JudgedBy scope s a ja → JudgedBy scope s b jb → operation s.fits scope.number s.specs w a.place ja b.place jb ≡ Some j → JudgedBinary a b j
      go ja jb true x y z = record { left = ja; right = jb; left_is = x; right_is = y; type_is = ap (λ (k : Judged). k.type) (some-inj _ j z); owed_is = ap (λ (k : Judged). k.owed) (some-inj _ j z) }
      go ja jb false x y z = none-some j z

  -- ---- expressions in turn

  args-same : (es : List (Node ExprKind)) → judge_args s.fits scope.number s.specs es (context_of scope s) ≡ judge_arguments s.fits scope.number s.specs es (context_of scope s)
  args-same [] = refl
  args-same (e ∷ es) = ap (λ o. and_then (judge s.fits scope.number s.specs e (context_of scope s)) (λ j. and_then o (λ js. Some (record { types = j.type ∷ js.types; owed = j.owed ++ js.owed })))) (args-same es)

  -- what is said of a first expression, and of the others
  pub record JudgedFirst (e : Node ExprKind) (es : List (Node ExprKind)) (js : JudgedAll) : Type 0 where
    pub first : Judged
    pub rest : JudgedAll
    pub first_is : JudgedBy scope s e first
    pub rest_is : AllJudgedBy scope s es rest
    pub types_are : first.type ∷ rest.types ≡ js.types
    pub owed_is : first.owed ++ rest.owed ≡ js.owed

  pub judged-first : (e : Node ExprKind) (es : List (Node ExprKind)) (js : JudgedAll) → AllJudgedBy scope s (e ∷ es) js → JudgedFirst e es js
  judged-first e es js h =
      let r : (j : Judged) × (judge s.fits scope.number s.specs e (context_of scope s) ≡ Some j) × (and_then (judge_arguments s.fits scope.number s.specs es (context_of scope s)) (λ js. Some (record { types = j.type ∷ js.types; owed = j.owed ++ js.owed })) ≡ Some js) =
      then-some (judge s.fits scope.number s.specs e (context_of scope s)) _ js h in
      let t : (ks : JudgedAll) × (judge_arguments s.fits scope.number s.specs es (context_of scope s) ≡ Some ks) × (Some (record { types = r.0.type ∷ ks.types; owed = r.0.owed ++ ks.owed }) ≡ Some js) = then-some (judge_arguments s.fits scope.number s.specs es (context_of scope s)) _ js r.2 in
      let q : record { types = r.0.type ∷ t.0.types; owed = r.0.owed ++ t.0.owed } ≡ js = some-inj _ js t.2 in
      record { first = r.0; rest = t.0; first_is = r.1; rest_is = t.1; types_are = ap (λ (k : JudgedAll). k.types) q; owed_is = ap (λ (k : JudgedAll). k.owed) q }

  -- what is said of some expressions, and of those behind them
  pub record JudgedParts (es fs : List (Node ExprKind)) (js : JudgedAll) : Type 0 where
    pub before : JudgedAll
    pub behind : JudgedAll
    pub before_is : AllJudgedBy scope s es before
    pub behind_is : AllJudgedBy scope s fs behind
    pub types_are : before.types ++ behind.types ≡ js.types
    pub owed_is : before.owed ++ behind.owed ≡ js.owed

  pub judged-parts : (es fs : List (Node ExprKind)) (js : JudgedAll) → AllJudgedBy scope s (es ++ fs) js → JudgedParts es fs js
  judged-parts [] fs js h = record { before = record { types = []; owed = [] }; behind = js; before_is = refl; behind_is = h; types_are = refl; owed_is = refl }
  judged-parts (e ∷ es) fs js h =
      let r : JudgedFirst e (es ++ fs) js = judged-first e (es ++ fs) js h in
      let t : JudgedParts es fs r.rest = judged-parts es fs r.rest r.rest_is in
      record {
        before = record { types = r.first.type ∷ t.before.types; owed = r.first.owed ++ t.before.owed };
        behind = t.behind;
        before_is = ap (λ z. and_then z (λ j. and_then (judge_arguments s.fits scope.number s.specs es (context_of scope s)) (λ js. Some (record { types = j.type ∷ js.types; owed = j.owed ++ js.owed })))) r.first_is ∙ ap (λ z. and_then z (λ (js : JudgedAll). Some (record { types = r.first.type ∷ js.types; owed = r.first.owed ++ js.owed }))) t.before_is;
        behind_is = t.behind_is;
        types_are = ap (λ z. r.first.type ∷ z) t.types_are ∙ r.types_are;
        owed_is = append_assoc r.first.owed t.before.owed t.behind.owed ∙ (ap (λ z. r.first.owed ++ z) t.owed_is ∙ r.owed_is);
      }

  -- what is said of a call
  pub record JudgedCall (e : Node ExprKind) (name : Name) (args : List (Node ExprKind)) (j : Judged) : Type 0 where
    pub arguments : JudgedAll
    pub arguments_are : AllJudgedBy scope s args arguments
    pub arrow : Arrow
    pub specified : arrows_of s.specs name (length arguments.types) ≡ arrow ∷ []
    pub type_is : type_of_call scope s arguments.types arrow ≡ j.type
    pub owed_is : arguments.owed ++ owed_call scope s e.place arguments.types arrow ≡ j.owed

  pub judged-Call : (e : Node ExprKind) (name : Name) (args : List (Node ExprKind)) (j : Judged) → e.kind ≡ X.Call None name args → JudgedBy scope s e j → JudgedCall e name args j
  judged-Call e name args j q h =
      let r : (js : JudgedAll) × (judge_args s.fits scope.number s.specs args (context_of scope s) ≡ Some js) × (call s.fits scope.number s.specs e.place (arrows_of s.specs name (length js.types)) js ≡ Some j) =
      then-some (judge_args s.fits scope.number s.specs args (context_of scope s)) _ j (at-form e (X.Call None name args) j _ q (judge_kind-Call s.fits scope.number s.specs name args e.place (context_of scope s)) h) in
      go r.0 (sym (args-same args) ∙ r.1) (arrows_of s.specs name (length r.0.types)) refl r.2
    where
      go : (js : JudgedAll) → AllJudgedBy scope s args js → (arrows : List Arrow) → arrows_of s.specs name (length js.types) ≡ arrows → call s.fits scope.number s.specs e.place arrows js ≡ Some j → JudgedCall e name args j
      go js x (arrow ∷ []) y z = record { arguments = js; arguments_are = x; arrow = arrow; specified = y; type_is = ap (λ (k : Judged). k.type) (some-inj _ j z); owed_is = ap (λ (k : Judged). k.owed) (some-inj _ j z) }
      go js x [] y z = none-some j z
      go js x (arrow ∷ other ∷ arrows) y z = none-some j z

module _ (scope : Scope) where
  -- ---- leaves

  abbrev holds : List Constraint → Type 0
  holds cs = Every Holds cs

  pub int-typed : (e : Node ExprKind) (n : ℤ) → e.kind ≡ X.Int n → is_limited n ≡ true → IsTypeIn scope e (OneInteger n)
  int-typed e n q l s j h = let r = judged-Int scope s e n j q h in ((ap (λ (k : Judged). k.type) (sym r), l), subst (λ (k : Judged). holds k.owed) r tt)

  pub atom-typed : (e : Node ExprKind) (a b : Name) → e.kind ≡ X.Atom a → b ≡ a → IsTypeIn scope e (OneAtom b)
  atom-typed e a b q w s j h = let r = judged-Atom scope s e a j q h in (ap (λ (k : Judged). k.type) (sym r) ∙ ap AtomLit (sym w), subst (λ (k : Judged). holds k.owed) r tt)

  pub var-typed : (e : Node ExprKind) (x : Name) (at : ℕ) → e.kind ≡ X.Var x → ((s : Setting scope) (t : Term) → context_of scope s x ≡ Some t → StandsFor scope (Parameter at) t) → IsTypeIn scope e (Parameter at)
  var-typed e x at q w s j h = let r = judged-Var scope s e x j q h in (subst (λ (k : Judged). StandsFor scope (Parameter at) k.type) r.2 (w s r.0 r.1), subst (λ (k : Judged). holds k.owed) r.2 tt)

  pub var-judged : (e : Node ExprKind) (x : Name) → e.kind ≡ X.Var x → IsJudged scope e → (s : Setting scope) × (t : Term) × (context_of scope s x ≡ Some t)
  var-judged e x q h = let r = judged-Var scope h.setting e x h.judged q h.is in (h.setting, r.0, r.1)

  -- ---- parentheses

  pub paren-judged : (e u : Node ExprKind) → e.kind ≡ X.Paren u → IsJudged scope e → IsJudged scope u
  paren-judged e u q h = record { setting = h.setting; judged = h.judged; is = judged-Paren scope h.setting e u h.judged q h.is }

  pub paren-typed : (e u : Node ExprKind) (found : ExpressionType) → e.kind ≡ X.Paren u → IsTypeIn scope u found → IsTypeIn scope e found
  paren-typed e u found q w s j h = w s j (judged-Paren scope s e u j q h)

  pub paren-fails : (e u : Node ExprKind) (refusal : FirstRefusal) → e.kind ≡ X.Paren u → FailsIn scope u refusal → FailsIn scope e refusal
  paren-fails e u refusal q w s j h = w s j (judged-Paren scope s e u j q h)

  -- ---- operations

  pub left-judged : (e a b : Node ExprKind) (op : BinaryOp) → e.kind ≡ X.Binary op a b → IsJudged scope e → IsJudged scope a
  left-judged e a b op q h = let r = judged-Binary scope h.setting e a b op h.judged q h.is in record { setting = h.setting; judged = r.left; is = r.left_is }

  pub right-judged : (e a b : Node ExprKind) (op : BinaryOp) → e.kind ≡ X.Binary op a b → IsJudged scope e → IsJudged scope b
  right-judged e a b op q h = let r = judged-Binary scope h.setting e a b op h.judged q h.is in record { setting = h.setting; judged = r.right; is = r.right_is }

  -- what a judged expression's type stands for
  pub typed-stands : (e : Node ExprKind) (found : ExpressionType) → IsJudged scope e → IsTypeIn scope e found → (t : Term) × StandsFor scope found t
  typed-stands e found h w = (h.judged.type, (w h.setting h.judged h.is).0)

  pub left-fails : (e a b : Node ExprKind) (op : BinaryOp) (refusal : FirstRefusal) → e.kind ≡ X.Binary op a b → FailsIn scope a refusal → FailsIn scope e refusal
  left-fails e a b op refusal q w s j h =
      let r = judged-Binary scope s e a b op j q h in
      subst (λ z. ShowsFailure z (scope.number + 1) refusal) r.owed_is (shows-before r.left.owed _ (scope.number + 1) refusal (w s r.left r.left_is))

  pub right-fails : (e a b : Node ExprKind) (op : BinaryOp) (l : ExpressionType) (refusal : FirstRefusal) → e.kind ≡ X.Binary op a b → IsTypeIn scope a l → FailsIn scope b refusal → FailsIn scope e refusal
  right-fails e a b op l refusal q v w s j h =
      let r = judged-Binary scope s e a b op j q h in
      subst (λ z. ShowsFailure z (scope.number + 1) refusal) r.owed_is (shows-within r.left.owed r.right.owed _ (scope.number + 1) refusal (v s r.left r.left_is).1 (w s r.right r.right_is))

  pub operands-fail : (e a b : Node ExprKind) (op : BinaryOp) (l m : ExpressionType) (refusal : FirstRefusal) → e.kind ≡ X.Binary op a b → IsTypeIn scope a l → IsTypeIn scope b m →
      ((t u : Term) → StandsFor scope l t → StandsFor scope m u → ShowsFailure (owed_operands scope.number a.place t b.place u) (scope.number + 1) refusal) → FailsIn scope e refusal
  operands-fail e a b op l m refusal q v w k s j h =
      let r = judged-Binary scope s e a b op j q h in
      let x = v s r.left r.left_is in
      let y = w s r.right r.right_is in
      let o : List Constraint = owed_operands scope.number a.place r.left.type b.place r.right.type in
      subst (λ z. ShowsFailure z (scope.number + 1) refusal) r.owed_is
      (shows-after r.left.owed (r.right.owed ++ o) (scope.number + 1) refusal x.1 (shows-after r.right.owed o (scope.number + 1) refusal y.1 (k r.left.type r.right.type x.0 y.0)))

  pub operation-typed : (e a b : Node ExprKind) (op : BinaryOp) (l m : ExpressionType) → e.kind ≡ X.Binary op a b → IsTypeIn scope a l → IsTypeIn scope b m →
      ((t u : Term) → StandsFor scope l t → StandsFor scope m u → Every Holds (owed_operands scope.number a.place t b.place u)) → IsTypeIn scope e Integers
  operation-typed e a b op l m q v w k s j h =
      let r = judged-Binary scope s e a b op j q h in
      let x = v s r.left r.left_is in
      let y = w s r.right r.right_is in
      (sym r.type_is, subst (λ z. holds z) r.owed_is (every-join Holds r.left.owed _ x.1 (every-join Holds r.right.owed _ y.1 (k r.left.type r.right.type x.0 y.0))))

  -- ---- calls

  pub arguments-judged : (e : Node ExprKind) (name : Name) (args : List (Node ExprKind)) → e.kind ≡ X.Call None name args → IsJudged scope e → AreJudged scope args
  arguments-judged e name args q h = let r = judged-Call scope h.setting e name args h.judged q h.is in record { setting = h.setting; judged = r.arguments; is = r.arguments_are }

  pub arguments-fail : (e : Node ExprKind) (name : Name) (args : List (Node ExprKind)) (refusal : FirstRefusal) → e.kind ≡ X.Call None name args → AllFailIn scope args refusal → FailsIn scope e refusal
  arguments-fail e name args refusal q w s j h =
      let r = judged-Call scope s e name args j q h in
      subst (λ z. ShowsFailure z (scope.number + 1) refusal) r.owed_is (shows-before r.arguments.owed _ (scope.number + 1) refusal (w s r.arguments r.arguments_are))

  pub is-call : (e : Node ExprKind) (name : Name) (args : List (Node ExprKind)) (types : List ExpressionType) → e.kind ≡ X.Call None name args → AreTypesIn scope args types → IsJudged scope e → IsCall scope name types
  is-call e name args types q w h =
      let r = judged-Call scope h.setting e name args h.judged q h.is in
      record { setting = h.setting; types = r.arguments.types; stand = (w h.setting r.arguments r.arguments_are).0; arrow = r.arrow; specified = r.specified }

  pub call-typed : (e : Node ExprKind) (name : Name) (args : List (Node ExprKind)) (types : List ExpressionType) (found : ExpressionType) → e.kind ≡ X.Call None name args → AreTypesIn scope args types →
      ((s : Setting scope) (ts : List Term) (arrow : Arrow) → StandForAll scope types ts → arrows_of s.specs name (length ts) ≡ arrow ∷ [] → StandsFor scope found (type_of_call scope s ts arrow) × Every Holds (owed_call scope s e.place ts arrow)) → IsTypeIn scope e found
  call-typed e name args types found q w k s j h =
      let r = judged-Call scope s e name args j q h in
      let x = w s r.arguments r.arguments_are in
      let y = k s r.arguments.types r.arrow x.0 r.specified in
      (subst (StandsFor scope found) r.type_is y.0, subst (λ z. holds z) r.owed_is (every-join Holds r.arguments.owed _ x.1 y.1))

  pub call-fails : (e : Node ExprKind) (name : Name) (args : List (Node ExprKind)) (types : List ExpressionType) (refusal : FirstRefusal) → e.kind ≡ X.Call None name args → AreTypesIn scope args types →
      ((s : Setting scope) (ts : List Term) (arrow : Arrow) → StandForAll scope types ts → arrows_of s.specs name (length ts) ≡ arrow ∷ [] → ShowsFailure (owed_call scope s e.place ts arrow) (scope.number + 1) refusal) → FailsIn scope e refusal
  call-fails e name args types refusal q w k s j h =
      let r = judged-Call scope s e name args j q h in
      let x = w s r.arguments r.arguments_are in
      subst (λ z. ShowsFailure z (scope.number + 1) refusal) r.owed_is (shows-after r.arguments.owed _ (scope.number + 1) refusal x.1 (k s r.arguments.types r.arrow x.0 r.specified))

  -- ---- expressions in turn

  pub none-typed : (types : List ExpressionType) → types ≡ [] → AreTypesIn scope [] types
  none-typed types e s js h = let q : record { types = []; owed = [] } ≡ js = some-inj _ js h in subst (λ z. StandForAll scope z js.types × holds js.owed) (sym e) (subst (λ (k : JudgedAll). StandForAll scope [] k.types × holds k.owed) q (tt, tt))

  pub argument-judged : (args : List (Node ExprKind)) (i : ℕ) (e : Node ExprKind) → slice_get args i ≡ Some e → AreJudged scope args → IsJudged scope e
  argument-judged args i e f h =
      let a : (after : List (Node ExprKind)) × (args ≡ take i args ++ e ∷ after) = split-at args i e f in
      let r = judged-parts scope h.setting (take i args) (e ∷ a.0) h.judged (subst (λ z. AllJudgedBy scope h.setting z h.judged) a.1 h.is) in
      let t = judged-first scope h.setting e a.0 r.behind r.behind_is in
      record { setting = h.setting; judged = t.first; is = t.first_is }

  pub argument-fails : (args : List (Node ExprKind)) (i : ℕ) (e : Node ExprKind) (types : List ExpressionType) (refusal : FirstRefusal) → slice_get args i ≡ Some e → AreTypesIn scope (take i args) types → FailsIn scope e refusal → AllFailIn scope args refusal
  argument-fails args i e types refusal f v w s js h =
      let a : (after : List (Node ExprKind)) × (args ≡ take i args ++ e ∷ after) = split-at args i e f in
      let r = judged-parts scope s (take i args) (e ∷ a.0) js (subst (λ z. AllJudgedBy scope s z js) a.1 h) in
      let t = judged-first scope s e a.0 r.behind r.behind_is in
      subst (λ z. ShowsFailure z (scope.number + 1) refusal) (ap (λ z. r.before.owed ++ z) t.owed_is ∙ r.owed_is)
      (shows-within r.before.owed t.first.owed t.rest.owed (scope.number + 1) refusal (v s r.before r.before_is).1 (w s t.first t.first_is))

  pub arguments-more : (args : List (Node ExprKind)) (i : ℕ) (e : Node ExprKind) (types new : List ExpressionType) (found : ExpressionType) → slice_get args i ≡ Some e → new ≡ types ++ found ∷ [] → AreTypesIn scope (take i args) types → IsTypeIn scope e found → AreTypesIn scope (take (i + 1) args) new
  arguments-more args i e types new found f n v w s js h =
      let r = judged-parts scope s (take i args) (e ∷ []) js (subst (λ z. AllJudgedBy scope s z js) (take-more args i e f) h) in
      let t = judged-first scope s e [] r.behind r.behind_is in
      let none : record { types = []; owed = [] } ≡ t.rest = some-inj _ t.rest t.rest_is in
      let x = v s r.before r.before_is in
      let y = w s t.first t.first_is in
      let types_are : r.before.types ++ t.first.type ∷ [] ≡ js.types = ap (λ (k : JudgedAll). r.before.types ++ t.first.type ∷ k.types) none ∙ (ap (λ z. r.before.types ++ z) t.types_are ∙ r.types_are) in
      let owed_is : r.before.owed ++ (t.first.owed ++ []) ≡ js.owed = ap (λ (k : JudgedAll). r.before.owed ++ (t.first.owed ++ k.owed)) none ∙ (ap (λ z. r.before.owed ++ z) t.owed_is ∙ r.owed_is) in (
        subst (λ z. StandForAll scope z js.types) (sym n) (subst (λ z. StandForAll scope (types ++ found ∷ []) z) types_are (stand-append scope types r.before.types found t.first.type x.0 y.0)),
        subst (λ z. holds z) owed_is (every-join Holds r.before.owed _ x.1 (every-join Holds t.first.owed [] y.1 tt)),
      )
