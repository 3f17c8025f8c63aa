-- In a flat module whose calls are of its own functions alone, none of which is built in, each call is in the profile.
use Rattle.std.proofs.Common.{◌≡◌, refl, sym, subst, List, [], ◌∷◌, ◌||◌, length, inl, inr, Bool, true, false}
use Rattle.std.specs.Prelude.{not, codes}
use Rattle.std.specs.Str.{bytes_eq}
use Rattle.std.proofs.lemmas.Bool.{true≢false}
use Rattle.std.proofs.lemmas.Slice.Eq.{bytes_eq-Decides}
use Rattle.type_terms.specs.Keys.{Name}
use Rattle.erl_tree.specs.Lists.{Every, Among}
use Rattle.erl_tree.specs.Functions.{FunctionId, of_function, functions_in, functions_of, function_ids}
use Rattle.erl_tree.specs.declared.token.Node.{Node}
use Rattle.erl_tree.specs.declared.expr.ExprKind.{ExprKind}
use Rattle.erl_tree.specs.declared.expr.ExprKind.TheOpen as E
use Rattle.erl_tree.specs.declared.expr.ItemKind.{ItemKind, out-ItemKind}
use Rattle.erl_tree.specs.declared.expr.ClauseKind.{ClauseKind, out-ClauseKind}
use Rattle.erl_tree.specs.declared.expr.QualifierKind.{QualifierKind}
use Rattle.erl_tree.specs.declared.expr.AssocKind.{AssocKind}
use Rattle.erl_tree.specs.declared.expr.CatchKind.{CatchKind}
use Rattle.erl_tree.specs.declared.form.TreeForm.{TreeForm}
use Rattle.erl_tree.specs.declared.form.TreeForm.TheVariants as F
use Rattle.erl_tree.specs.declared.form.Module.{Module}
use Rattle.erl_grammar.specs.Guards.{has_arity_second, is_call_in_profile}
use Rattle.erl_grammar.proofs.Layers.{each}
use Rattle.erl_runs.specs.Names.{is_built_in}
use Rattle.flat_modules.specs.FlatNames.{called_in, called_item_layer, CallsOnly, FunctionCallsOnly}
use Rattle.flat_modules.proofs.FlatNameEquations.{all_called, called_in-Paren, called_in-Binary, called_in-Call}
use Rattle.flat_modules.specs.Grammar.{IsWellFormed}
use Rattle.flat_modules.specs.Calls.{StandsIn, whole, in_parens, in_left, in_right, in_argument, item_in_profile, ItemInProfile, ClauseInProfile, FormInProfile, HasCallsInProfile}
use Rattle.flat_modules.proofs.Lists.{every-so, every-split}

-- a function that isn't built in
abbrev IsOther : FunctionId → Type 0
IsOther id = is_built_in id ≡ false

-- ---- one call

-- `is_function` with two arguments is built in
not-two : (args : List (Node ExprKind)) → IsOther (of_function (codes "is_function") (length args)) → has_arity_second args ≡ true
not-two [] h = refl
not-two (f ∷ []) h = refl
not-two (f ∷ n ∷ []) h = absurd (true≢false h)
not-two (f ∷ n ∷ e ∷ es) h = refl

call-in-profile : (name : Name) (args : List (Node ExprKind)) → IsOther (of_function name (length args)) → is_call_in_profile name args ≡ true
call-in-profile name args h = go (bytes_eq name (codes "is_function")) refl
  where
    go : (same : Bool) → bytes_eq name (codes "is_function") ≡ same → (not same || has_arity_second args) ≡ true
    go false e = refl
    go true e = not-two args (subst (λ x. IsOther (of_function x (length args))) ((bytes_eq-Decides name (codes "is_function")).0 e) h)

-- ---- the calls in an expression

argument-calls : (Q : FunctionId → Type 0) (es : List (Node ExprKind)) → Every Q (all_called es) → (e : Node ExprKind) → Among e es → Every Q (called_in e.kind)
argument-calls Q [] h e i = absurd i
argument-calls Q (f ∷ es) h e (inl q) = subst (λ g. Every Q (called_in g.kind)) (sym q) (every-split Q _ _ h).0
argument-calls Q (f ∷ es) h e (inr i) = argument-calls Q es (every-split Q _ _ h).1 e i

standing-in-profile : (name : Name) (args : List (Node ExprKind)) (e : Node ExprKind) → StandsIn name args e → Every IsOther (called_in e.kind) → is_call_in_profile name args ≡ true
standing-in-profile name args _ (whole p ms) h = call-in-profile name args (subst (Every IsOther) (called_in-Call name args) h).0
standing-in-profile name args _ (in_parens p ms e s) h = standing-in-profile name args e s (subst (Every IsOther) (called_in-Paren e) h)
standing-in-profile name args _ (in_left p ms op a b s) h = standing-in-profile name args a s (every-split IsOther _ _ (subst (Every IsOther) (called_in-Binary op a b) h)).0
standing-in-profile name args _ (in_right p ms op a b s) h = standing-in-profile name args b s (every-split IsOther _ _ (subst (Every IsOther) (called_in-Binary op a b) h)).1
standing-in-profile name args _ (in_argument p ms called others e i s) h = standing-in-profile name args e s (argument-calls IsOther others (subst (Every IsOther) (called_in-Call called others) h).1 e i)

-- ---- the calls in a module

module _ (ids : List FunctionId) (none : Every IsOther ids) where
  layer-in-profile : (l : E.ItemKind-F ExprKind ItemKind QualifierKind AssocKind CatchKind ClauseKind) → Every (λ id. Among id ids) (called_item_layer l) → item_in_profile l
  layer-in-profile (E.Value e) own = λ name args s. standing-in-profile name args e s (every-so (λ id. Among id ids) IsOther (called_in e.kind) (each IsOther ids none) own)
  layer-in-profile _ own = tt

  clause-in-profile : (c : Node ClauseKind) → CallsOnly ids c → ClauseInProfile c
  clause-in-profile c own = every-so (λ i. Every (λ id. Among id ids) (called_item_layer (out-ItemKind i.kind))) ItemInProfile (out-ClauseKind c.kind).body (λ i k. layer-in-profile (out-ItemKind i.kind) k) own

  forms-in-profile : (forms : List TreeForm) → Every (FunctionCallsOnly ids) (functions_in forms) → Every FormInProfile forms
  forms-in-profile [] own = tt
  forms-in-profile (F.Function f ∷ forms) own = (every-so (CallsOnly ids) ClauseInProfile f.clauses clause-in-profile own.0, forms-in-profile forms own.1)
  forms-in-profile (_ ∷ forms) own = (tt, forms-in-profile forms own)

pub calls-in-profile : (m : Module) → IsWellFormed m → Every (λ id. is_built_in id ≡ false) (function_ids m) → Every (FunctionCallsOnly (function_ids m)) (functions_of m) → HasCallsInProfile m
calls-in-profile m w none own = forms-in-profile (function_ids m) none m.forms own
