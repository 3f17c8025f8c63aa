-- Small examples of modules that are flat, and of some that aren't.
use Rattle.std.proofs.Common.{◌≡◌, refl, ap, sym, subst, ◌∙◌, ℕ, pos, [], ◌∷◌, inl, true, false, ◌&&◌, arith}
use Rattle.std.specs.Prelude.{None, codes}
use Rattle.std.proofs.lemmas.Bool.{true≢false}
use Rattle.erl_tree.specs.Lists.{Among}
use Rattle.erl_tree.specs.SmallText.{place, small_module}
use Rattle.erl_tree.specs.declared.token.Node.{Node}
use Rattle.erl_tree.specs.declared.expr.BinaryOp.TheVariants.{Add}
use Rattle.erl_tree.specs.declared.expr.ExprKind.{ExprKind}
use Rattle.erl_tree.specs.declared.expr.ExprKind.TheVariants as X
use Rattle.erl_tree.specs.declared.expr.ExprKind.TheOpen as E
use Rattle.erl_tree.specs.declared.expr.ItemKind.{ItemKind, out-ItemKind}
use Rattle.erl_tree.specs.declared.expr.ItemKind.TheVariants as I
use Rattle.erl_tree.specs.declared.expr.ClauseKind.{ClauseKind, out-ClauseKind, out-roll-ClauseKind}
use Rattle.erl_tree.specs.declared.expr.QualifierKind.{QualifierKind}
use Rattle.erl_tree.specs.declared.expr.AssocKind.{AssocKind}
use Rattle.erl_tree.specs.declared.expr.CatchKind.{CatchKind}
use Rattle.erl_tree.specs.declared.form.Function.{Function}
use Rattle.erl_tree.specs.declared.form.TreeForm.{TreeForm}
use Rattle.erl_tree.specs.declared.form.TreeForm.TheVariants as V
use Rattle.erl_tree.specs.declared.form.Module.{Module}
use Rattle.flat_modules.specs.Grammar.{IsWellFormed}
use Rattle.flat_modules.specs.Grammar as F
use Rattle.erl_grammar.specs.declared.head.Head.TheVariants.{Plain}
use Rattle.erl_grammar.specs.Guards.{is_arity_layer, is_call_in_profile}
use Rattle.erl_grammar.specs.Grammar.{node, clause_of, IsItem, value, match_item, no_guard}
use Rattle.erl_grammar.specs.Grammar as G
use Rattle.erl_grammar.specs.FormGrammar.{IsModule, module_of, IsForm, IsFunctionClause, function_clause}
use Rattle.erl_grammar.specs.FormGrammar as GF
use Rattle.erl_grammar.proofs.Layers.{each, postfix_layer, expr-layer}
use Rattle.erl_grammar.proofs.Layers as GL
use Rattle.erl_grammar.specs.FormSpelling.{module_tokens}
use Rattle.flat_modules.specs.FlatSpecs.{specs_of, module_specs_of}
use Rattle.erl_runs.proofs.TextExamples.{small_module_spelled}
use Rattle.flat_modules.specs.Flat.{flat_item_layer, flat_clause_layer, is_flat_expr, is_flat}
use Rattle.flat_modules.specs.FlatModules.{IsFlatModule}
use Rattle.flat_modules.specs.SmallModules.{clause_with, function_with, module_with, sum_of_two, module_with_sum, empty_tuple, module_with_tuple, two_atoms, call_outside, module_with_call}
use Rattle.flat_modules.proofs.Layers.{flat_expr_of, flat_expr-out}
use Rattle.flat_modules.proofs.ModuleLaws.{module-passing}
use Rattle.flat_modules.proofs.RightFlatNames.{right-flat-names}
use Rattle.flat_modules.proofs.HasSpecs.{has-specs}

-- ---- a function of an expression

flat-formed : (e : Node ExprKind) (dot end : ℕ) → F.IsExpr e → IsWellFormed (module_with e dot end)
unfolding IsWellFormed
flat-formed e dot end h =
    let item : F.IsItem (node e.place [] (I.Value e)) = subst (λ l. F.is_item_layer l e.place []) (sym (I.outs-Value e)) (refl, h) in
    let clause : F.IsClause (clause_with e)
    = subst (λ l. F.is_clause_layer l (place 13) (place 13 ∷ place 14 ∷ place 15 ∷ place 16 ∷ [])) (sym (out-roll-ClauseKind (record { patterns = []; guard = None; body = node e.place [] (I.Value e) ∷ [] }))) (refl, refl, tt, omega arith, tt, item) in
    ((refl, clause), tt)

whole-formed : (e : Node ExprKind) (dot end : ℕ) → G.IsExpr 0 e → IsModule (module_with e dot end)
whole-formed e dot end h =
    let clause : IsFunctionClause (clause_with e)
    = function_clause (place 13) (place 14) (place 15) (place 16) [] None [] [] [] (node e.place [] (I.Value e)) [] (omega arith) tt (λ p i. absurd i) no_guard tt (each IsItem (node e.place [] (I.Value e) ∷ []) (value e h, tt)) in
    let form : IsForm (V.Function (function_with e dot))
    = GF.function_form (function_with e dot) (GF.function (codes "f") (place dot) [] (clause_with e) [] tt (each IsFunctionClause (clause_with e ∷ []) (clause, tt))) in
    module_of (place 1) (place 2) (place 8) (place 9) (place 10) (place 11) (place end) (codes "m") (V.Function (function_with e dot) ∷ []) (each IsForm (V.Function (function_with e dot) ∷ []) (form, tt))

not-flat : (e : Node ExprKind) (dot end : ℕ) → is_flat_expr e ≡ false → is_flat (module_with e dot end) ≡ false
unfolding is_flat
not-flat e dot end h = ap (λ b. b && true) (ap flat_clause_layer (out-roll-ClauseKind (record { patterns = []; guard = None; body = node e.place [] (I.Value e) ∷ [] })) ∙ (ap flat_item_layer (I.outs-Value e) ∙ h))

-- ---- a sum

pub sum-flat : IsWellFormed module_with_sum
sum-flat = flat-formed sum_of_two 21 22 (F.sum Add _ _ (place 19) tt (F.one_product _ (F.one_operand _ (F.integer (place 18) (pos 1)))) (F.one_operand _ (F.integer (place 20) (pos 2))))

pub sum-whole : IsModule module_with_sum
sum-whole = whole-formed sum_of_two 21 22 (G.operation 0 Add _ _ (place 19) (omega arith) (G.postfix 5 Plain _ (G.integer (place 18) (pos 1))) (G.postfix 6 Plain _ (G.integer (place 20) (pos 2))))

pub sum-passes : is_flat module_with_sum ≡ true
sum-passes = module-passing module_with_sum sum-flat

-- ---- a tuple

pub tuple-whole : IsModule module_with_tuple
tuple-whole = whole-formed empty_tuple 20 21 (G.postfix 0 Plain _ (G.tuple (place 18) (place 19) [] [] tt (λ e i. absurd i)))

pub tuple-fails : is_flat module_with_tuple ≡ false
tuple-fails = not-flat empty_tuple 20 21 (flat_expr-out (X.Tuple []) ∙ ap flat_expr_of (X.outs-Tuple []))

pub tuple-not-flat : IsWellFormed module_with_tuple → ⊥
tuple-not-flat h = absurd (true≢false (sym (module-passing module_with_tuple h) ∙ tuple-fails))

-- ---- a call outside of the profile

pub call-flat : IsWellFormed module_with_call
call-flat =
    let atom_operand : (p : _) (a : _) → F.IsExpr (node p (p ∷ []) (X.Atom a)) = λ p a. F.one_product _ (F.one_operand _ (F.atom p a)) in
    flat-formed call_outside 34 35 (F.one_product _ (F.one_operand _ (F.call (place 18) (place 29) (place 31 ∷ place 33 ∷ []) (codes "is_function") two_atoms
    (F.more_arguments _ _ [] (place 31) (place 33 ∷ []) (atom_operand (place 30) (codes "a")) (F.last_argument _ (place 33) (atom_operand (place 32) (codes "a")))))))

pub call-passes : is_flat module_with_call ≡ true
call-passes = module-passing module_with_call call-flat

-- what a module has
forms-formed : (m : Module) → IsModule m → (f : TreeForm) → Among f m.forms → IsForm f
forms-formed _ (module_of h w o n c d e name forms i) = i

abbrev function_layer : TreeForm → Type 0
function_layer (V.Function f) = GF.IsFunction f
function_layer _ = Unit {0}

function-formed : (f : TreeForm) → IsForm f → function_layer f
function-formed _ (GF.function_form f h) = h
function-formed _ (GF.spec_form s h) = tt
function-formed _ (GF.export_form e h) = tt
function-formed _ (GF.record_form r h) = tt
function-formed _ (GF.type_form d h) = tt
function-formed _ (GF.skipped_form s h) = tt

clauses-formed : (f : Function) → GF.IsFunction f → (c : Node ClauseKind) → Among c f.clauses → IsFunctionClause c
clauses-formed _ (GF.function name p ms c cs g h) = h

abbrev HasItems : E.ClauseKind-F ExprKind ItemKind QualifierKind AssocKind CatchKind ClauseKind → Type 0
HasItems l = (i : Node ItemKind) → Among i l.body → IsItem i

items-formed : (c : Node ClauseKind) → IsFunctionClause c → HasItems (out-ClauseKind c.kind)
items-formed _ (function_clause n o c a ps w ns ws ms i is r g h x gi k) = subst HasItems (sym (out-roll-ClauseKind (record { patterns = ps; guard = w; body = i ∷ is }))) k

abbrev value_layer : E.ItemKind-F ExprKind ItemKind QualifierKind AssocKind CatchKind ClauseKind → Type 0
value_layer (E.Value e) = G.IsExpr 0 e
value_layer _ = Unit {0}

value-formed : (i : Node ItemKind) → IsItem i → value_layer (out-ItemKind i.kind)
value-formed _ (value e h) = subst value_layer (sym (I.outs-Value e)) h
value-formed _ (match_item p e m h k) = subst value_layer (sym (I.outs-Match p e)) tt

expr-formed : (e : Node ExprKind) (dot end : ℕ) → IsModule (module_with e dot end) → G.IsExpr 0 e
expr-formed e dot end h =
    let function : GF.IsFunction (function_with e dot) = function-formed _ (forms-formed (module_with e dot end) h (V.Function (function_with e dot)) (inl refl)) in
    let items : HasItems (record { patterns = []; guard = None; body = node e.place [] (I.Value e) ∷ [] })
    = subst HasItems (out-roll-ClauseKind (record { patterns = []; guard = None; body = node e.place [] (I.Value e) ∷ [] })) (items-formed (clause_with e) (clauses-formed (function_with e dot) function (clause_with e) (inl refl))) in
    subst value_layer (I.outs-Value e) (value-formed (node e.place [] (I.Value e)) (items (node e.place [] (I.Value e)) (inl refl)))

pub call-not-whole : IsModule module_with_call → ⊥
call-not-whole h =
    let layer : is_call_in_profile (codes "is_function") two_atoms ≡ true = subst (GL.expr_layer 0) (X.outs-Call None (codes "is_function") two_atoms) (expr-layer 0 call_outside (expr-formed call_outside 34 35 h)) in
    let wrong : false ≡ true = sym (ap is_arity_layer (X.outs-Atom (codes "a"))) ∙ layer in
    absurd (true≢false (sym wrong))

-- ---- specs

small-formed : IsWellFormed small_module
unfolding IsWellFormed
small-formed = tt

pub no-functions : IsFlatModule small_module
unfolding is_flat specs_of module_tokens
no-functions = record {
  well_formed = small_module_spelled.well_formed;
  flat = refl;
  readable = record { right_names = refl; specs = module_specs_of small_module; has_specs = has-specs small_module small-formed refl refl tt };
  flat_specs = record { specs_read = refl; specs_distinct = tt };
  distinct_heads = tt;
  own_calls = tt;
  within = refl;
  in_limit = ((λ i. i), ((λ i. i), ((λ i. i), ((λ i. i), ((λ i. i), ((λ i. i), ((λ i. i), tt)))))));
}

pub no-spec : IsFlatModule module_with_sum → ⊥
unfolding specs_of
no-spec h = (right-flat-names module_with_sum sum-flat h.readable.right_names h.flat_specs).specified.0
