-- The specs and the bodies of a flat module: their types and expressions are those of a flat module.
use Rattle.std.proofs.Common.{◌≡◌, refl, sym, ap, subst, inl, inr, suc, List, [], ◌∷◌, map, length}
use Rattle.std.specs.Prelude.{Some}
use Rattle.type_terms.specs.declared.term.Term.{Term}
use Rattle.type_terms.specs.declared.spec.Arrow.{Arrow}
use Rattle.type_terms.specs.declared.spec.FunSpec.{FunSpec}
use Rattle.type_terms.specs.Keys.{Name}
use Rattle.erl_tree.specs.declared.token.Place.{Place}
use Rattle.erl_tree.specs.declared.token.Node.{Node}
use Rattle.erl_tree.specs.declared.type_expr.TypeKind.{TypeKind}
use Rattle.erl_tree.specs.declared.expr.ExprKind.{ExprKind}
use Rattle.erl_tree.specs.declared.expr.ExprKind.TheOpen as E
use Rattle.erl_tree.specs.declared.expr.ItemKind.{ItemKind, out-ItemKind}
use Rattle.erl_tree.specs.declared.expr.ClauseKind.{ClauseKind, out-ClauseKind}
use Rattle.erl_tree.specs.declared.expr.QualifierKind.{QualifierKind}
use Rattle.erl_tree.specs.declared.expr.AssocKind.{AssocKind}
use Rattle.erl_tree.specs.declared.expr.CatchKind.{CatchKind}
use Rattle.erl_tree.specs.declared.form.SpecClauseKind.{SpecClauseKind}
use Rattle.erl_tree.specs.declared.form.Function.{Function}
use Rattle.erl_tree.specs.declared.form.TreeForm.{TreeForm}
use Rattle.erl_tree.specs.declared.form.TreeForm.TheVariants as F
use Rattle.erl_tree.specs.declared.form.Module.{Module}
use Rattle.erl_tree.specs.Lists.{Every, Among}
use Rattle.erl_tree.specs.Functions.{functions_in, functions_of}
use Rattle.erl_runs.specs.Specs.{and_then, all_present, specs_in}
use Rattle.flat_modules.specs.FlatSpecs.{type_term, clause_arrow, function_spec, specs_of}
use Rattle.flat_modules.specs.Spelling.{tokens_of, module_layer, forms_tokens, form_tokens, spec_layer, spec_clause_layer, spec_clause_tokens, function_tokens, clauses_tokens, clause_layer, clause_tokens, body_tokens, item_layer, item_tokens, pattern_tokens, type_tokens, expr_tokens}
use Rattle.flat_modules.specs.Grammar.{IsType, IsExpr, IsForm, IsFunction, IsClause, IsItem, IsBody, IsWellFormed, AreParamMarks, is_module_layer, is_spec_layer, is_spec_clause_layer, is_function_layer, is_clause_layer, is_item_layer}
use Rattle.flat_modules.specs.FlatModules.{IsFlatModule}
use Rattle.flat_modules.proofs.FlatLaws.{AreInLimit, flat-formed, flat-limits}
use Rattle.cert_checker.specs.FlatTypes.{IsFlatType, IsFlatExpr}
use Rattle.cert_checker.specs.SpecTables.{IsFlatForm, IsFlatSpec, IsFlatSpecClause}
use Rattle.cert_checker.proofs.Lists.{every-split, every-at, then-some}
use Rattle.cert_checker.proofs.Parts.{well_formed-forms, forms-functions, arrow-spec}
use Rattle.cert_checker.proofs.IntegerLimits.{InLimit, type-limited, expr-limited, params-split}

-- ---- forms

form-limits : (forms : List TreeForm) → AreInLimit (forms_tokens forms) → Every (λ f. AreInLimit (form_tokens f)) forms
form-limits [] h = tt
form-limits (f ∷ forms) h = let s : AreInLimit (form_tokens f) × AreInLimit (forms_tokens forms) = every-split InLimit (form_tokens f) (forms_tokens forms) h in (s.0, form-limits forms s.1)

module-limits : (m : Module) → IsWellFormed m → AreInLimit (tokens_of m) → Every (λ f. AreInLimit (form_tokens f)) m.forms
unfolding IsWellFormed tokens_of
module-limits m w h = go m.marks w h
  where
    go : (marks : List Place) → is_module_layer m.forms marks → AreInLimit (module_layer m.name m.forms marks) → Every (λ f. AreInLimit (form_tokens f)) m.forms
    go (a ∷ b ∷ o ∷ n ∷ c ∷ d ∷ e ∷ []) w h = form-limits m.forms (every-split InLimit (forms_tokens m.forms) _ h.1.1.1.1.1.1).0
    go [] w h = absurd w
    go (a ∷ []) w h = absurd w
    go (a ∷ b ∷ []) w h = absurd w
    go (a ∷ b ∷ o ∷ []) w h = absurd w
    go (a ∷ b ∷ o ∷ n ∷ []) w h = absurd w
    go (a ∷ b ∷ o ∷ n ∷ c ∷ []) w h = absurd w
    go (a ∷ b ∷ o ∷ n ∷ c ∷ d ∷ []) w h = absurd w
    go (a ∷ b ∷ o ∷ n ∷ c ∷ d ∷ e ∷ f ∷ r) w h = absurd w

-- ---- specs

map-length : {A B : Type 0} (f : A → B) (xs : List A) → length (map f xs) ≡ length xs
map-length f [] = refl
map-length f (x ∷ xs) = ap suc (map-length f xs)

types-flat : (ts : List (Node TypeKind)) (us : List Term) → Every IsType ts → Every (λ x. AreInLimit x) (map type_tokens ts) → all_present (map type_term ts) ≡ Some us → Every IsFlatType ts
types-flat [] us w l e = tt
types-flat (t ∷ ts) us w l e =
    let p : (u : Term) × (type_term t ≡ Some u) × (and_then (all_present (map type_term ts)) (λ more. Some (u ∷ more)) ≡ Some us) = then-some (type_term t) _ us e in
    let q : (more : List Term) × (all_present (map type_term ts) ≡ Some more) × (Some (p.0 ∷ more) ≡ Some us) = then-some (all_present (map type_term ts)) _ us p.2 in
    (record { well_formed = w.0; limited = type-limited t w.0 l.0; term = p.0; read = p.1 }, types-flat ts q.0 w.1 l.1 q.1)

clause-flat : (c : SpecClauseKind) (place : Place) (marks : List Place) (ps : List Term) (t : Term) → is_spec_clause_layer c place marks → AreInLimit (spec_clause_layer c marks) → all_present (map type_term c.params) ≡ Some ps → type_term c.result ≡ Some t → IsFlatSpecClause c
clause-flat c place [] ps t w h e f = absurd w
clause-flat c place (o ∷ ms) ps t w h e f =
    let s : Every (λ x. AreInLimit x) (map type_tokens c.params) × AreInLimit (type_tokens c.result) = params-split (map type_tokens c.params) ms (type_tokens c.result) (subst (λ n. AreParamMarks n ms) (sym (map-length type_tokens c.params)) w.3) h.1 in
    (types-flat c.params ps w.1 s.0 e, record { well_formed = w.4; limited = type-limited c.result w.4 s.1; term = t; read = f })

spec-flat : (name : Name) (clauses : List (Node SpecClauseKind)) (place : Place) (marks : List Place) (f : FunSpec) → is_spec_layer clauses place marks → AreInLimit (spec_layer name clauses marks) → (g : (c : Node SpecClauseKind) → clauses ≡ c ∷ [] → (a : Arrow) × (clause_arrow c ≡ Some a)) → IsFlatSpec clauses
spec-flat name (c ∷ []) place (h ∷ s ∷ n ∷ d ∷ []) f w l g =
    let a : (a : Arrow) × (clause_arrow c ≡ Some a) = g c refl in
    let p : (ps : List Term) × (all_present (map type_term c.kind.params) ≡ Some ps) × (and_then (type_term c.kind.result) (λ result. Some (record { params = ps; result = result })) ≡ Some a.0) = then-some (all_present (map type_term c.kind.params)) _ a.0 a.1 in
    let r : (t : Term) × (type_term c.kind.result ≡ Some t) × (Some (record { params = p.0; result = t }) ≡ Some a.0) = then-some (type_term c.kind.result) _ a.0 p.2 in
    (c, refl, clause-flat c.kind c.place c.marks p.0 r.0 w.1 (every-split InLimit (spec_clause_tokens c) _ l.1.1.1).0 p.1 r.1)
spec-flat name [] place marks f w l g = absurd w
spec-flat name (c ∷ e ∷ cs) place marks f w l g = absurd w
spec-flat name (c ∷ []) place [] f w l g = absurd w
spec-flat name (c ∷ []) place (h ∷ []) f w l g = absurd w
spec-flat name (c ∷ []) place (h ∷ s ∷ []) f w l g = absurd w
spec-flat name (c ∷ []) place (h ∷ s ∷ n ∷ []) f w l g = absurd w
spec-flat name (c ∷ []) place (h ∷ s ∷ n ∷ d ∷ e ∷ r) f w l g = absurd w

forms-flat : (forms : List TreeForm) (fs : List FunSpec) → Every IsForm forms → Every (λ f. AreInLimit (form_tokens f)) forms → all_present (map function_spec (specs_in forms)) ≡ Some fs → Every IsFlatForm forms
forms-flat [] fs w l e = tt
forms-flat (F.Spec s ∷ forms) fs w l e =
    let f : (f : FunSpec) × (function_spec s ≡ Some f) × (and_then (all_present (map function_spec (specs_in forms))) (λ more. Some (f ∷ more)) ≡ Some fs) = then-some (function_spec s) _ fs e in
    let r : (more : List FunSpec) × (all_present (map function_spec (specs_in forms)) ≡ Some more) × (Some (f.0 ∷ more) ≡ Some fs) = then-some (all_present (map function_spec (specs_in forms))) _ fs f.2 in (
      spec-flat s.kind.name s.kind.clauses s.place s.marks f.0 w.0 l.0 (λ c q. let a = arrow-spec s.kind.name c s.kind.clauses f.0 q f.1 in (a.0, a.1)),
      forms-flat forms r.0 w.1 l.1 r.1,
    )
forms-flat (F.Function f ∷ forms) fs w l e = (tt, forms-flat forms fs w.1 l.1 e)
forms-flat (_ ∷ forms) fs w l e = absurd w.0

-- the types of a flat module's specs
pub module-flat : (m : Module) → IsFlatModule m → Every IsFlatForm m.forms
module-flat m flat = forms-flat m.forms (specs_of m) (well_formed-forms m (flat-formed m flat)) (module-limits m (flat-formed m flat) (flat-limits m flat)) flat.flat_specs.specs_read

-- ---- bodies

function-limits : (forms : List TreeForm) (f : Function) → Every IsForm forms → Every (λ g. AreInLimit (form_tokens g)) forms → Among f (functions_in forms) → AreInLimit (function_tokens f)
function-limits [] f w l a = absurd a
function-limits (F.Function g ∷ forms) f w l (inl q) = subst (λ z. AreInLimit (function_tokens z)) (sym q) l.0
function-limits (F.Function g ∷ forms) f w l (inr a) = function-limits forms f w.1 l.1 a
function-limits (F.Spec s ∷ forms) f w l a = function-limits forms f w.1 l.1 a
function-limits (_ ∷ forms) f w l a = absurd w.0

item-limits : (l : E.ItemKind-F ExprKind ItemKind QualifierKind AssocKind CatchKind ClauseKind) (place : Place) (marks : List Place) (e : Node ExprKind) → is_item_layer l place marks → l ≡ E.Value e → AreInLimit (item_layer l marks) → AreInLimit (expr_tokens e)
item-limits l place marks e w q h = go marks (subst (λ z. is_item_layer z place marks) q w) (subst (λ z. AreInLimit (item_layer z marks)) q h)
  where
    go : (marks : List Place) → is_item_layer (E.Value e) place marks → AreInLimit (item_layer (E.Value e) marks) → AreInLimit (expr_tokens e)
    go [] w h = h
    go (m ∷ ms) w h = absurd w

clause-limits : (name : Name) (c : E.ClauseKind-F ExprKind ItemKind QualifierKind AssocKind CatchKind ClauseKind) (place : Place) (marks : List Place) → is_clause_layer c place marks → AreInLimit (clause_layer name c marks) → AreInLimit (body_tokens c.body)
clause-limits name c place [] w h = absurd w
clause-limits name c place (n ∷ []) w h = absurd w
clause-limits name c place (n ∷ o ∷ ms) w h =
    (params-split (map pattern_tokens c.patterns) ms (body_tokens c.body) (subst (λ k. AreParamMarks k ms) (sym (map-length pattern_tokens c.patterns)) w.4) h.1.1).1

clauses-limits : (name : Name) (clauses : List (Node ClauseKind)) (place : Place) (marks : List Place) (c : Node ClauseKind) → is_function_layer clauses place marks → clauses ≡ c ∷ [] → AreInLimit (clauses_tokens name clauses marks) → AreInLimit (clause_tokens name c)
clauses-limits name clauses place marks c w q h = go marks (subst (λ z. is_function_layer z place marks) q w) (subst (λ z. AreInLimit (clauses_tokens name z marks)) q h)
  where
    go : (marks : List Place) → is_function_layer (c ∷ []) place marks → AreInLimit (clauses_tokens name (c ∷ []) marks) → AreInLimit (clause_tokens name c)
    go (d ∷ []) w h = (every-split InLimit (clause_tokens name c) _ h).0
    go [] w h = absurd w
    go (d ∷ e ∷ r) w h = absurd w

clause-item : (c : E.ClauseKind-F ExprKind ItemKind QualifierKind AssocKind CatchKind ClauseKind) (place : Place) (marks : List Place) (i : Node ItemKind) → is_clause_layer c place marks → c.body ≡ i ∷ [] → IsItem i
clause-item c place [] i w q = absurd w
clause-item c place (n ∷ []) i w q = absurd w
clause-item c place (n ∷ o ∷ ms) i w q = go c.body q w.5
  where
    first-inj : (i j : Node ItemKind) → i ∷ [] ≡ j ∷ [] → i ≡ j
    first-inj i j e = cc

    go : (body : List (Node ItemKind)) → body ≡ i ∷ [] → IsBody body → IsItem i
    go (j ∷ []) q w = subst IsItem (first-inj j i q) w
    go [] q w = absurd w
    go (j ∷ k ∷ r) q w = absurd w

-- the one expression of a function's body
pub body-flat : (m : Module) (f : Function) (c : Node ClauseKind) (i : Node ItemKind) (e : Node ExprKind) → IsFlatModule m → Among f (functions_of m) → f.clauses ≡ c ∷ [] → IsClause c → (out-ClauseKind c.kind).body ≡ i ∷ [] → out-ItemKind i.kind ≡ E.Value e → IsExpr e → IsFlatExpr e
body-flat m f c i e flat a q w p v x =
    let forms : Every IsForm m.forms = well_formed-forms m (flat-formed m flat) in
    let t : AreInLimit (function_tokens f) = function-limits m.forms f forms (module-limits m (flat-formed m flat) (flat-limits m flat)) a in
    let y : AreInLimit (clause_tokens f.name c) = clauses-limits f.name f.clauses f.place f.marks c (every-at IsFunction f (functions_of m) (forms-functions m.forms forms) a) q t in
    let b : AreInLimit (body_tokens (out-ClauseKind c.kind).body) = clause-limits f.name (out-ClauseKind c.kind) c.place c.marks w y in
    let z : AreInLimit (item_tokens i) = subst (λ u. AreInLimit (body_tokens u)) p b in
    record { well_formed = x; limited = expr-limited e x (item-limits (out-ItemKind i.kind) i.place i.marks e (clause-item (out-ClauseKind c.kind) c.place c.marks i w p) v z) }
