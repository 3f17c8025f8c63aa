-- What is wrong with names is the same where the same functions and records are found.
use Rattle.std.proofs.Common.{◌≡◌, refl, ap, sym, subst, ◌∙◌, ℕ, ℤ, pos, negsuc, List, [], ◌∷◌, ◌++◌, map, Bool, true, false, not, ◌||◌, ◌+◌, ◌<◌, ◌≤◌, length, drop, get_or}
use Rattle.std.specs.Prelude.{Option, Some, None}
use Rattle.type_terms.specs.Keys.{Name}
use Rattle.erl_tree.specs.declared.token.Place.{Place}
use Rattle.erl_tree.specs.declared.pattern.PatternKind.{fold-PatternKind}
use Rattle.erl_tree.specs.declared.pattern.PatternKind.TheOpen as P
use Rattle.erl_tree.specs.declared.expr.ExprKind.{fold-ExprKind}
use Rattle.erl_tree.specs.declared.expr.ClauseKind.{fold-ClauseKind}
use Rattle.erl_tree.specs.declared.expr.ExprKind.TheOpen as E
use Rattle.erl_tree.specs.declared.form.RecDefKind.{RecDefKind}
use Rattle.erl_tree.specs.declared.form.TreeForm.{TreeForm}
use Rattle.erl_tree.specs.declared.form.TreeForm.TheVariants as F
use Rattle.erl_tree.specs.declared.form.Module.{Module}
use Rattle.erl_tree.specs.Functions.{FunctionId, of_function, function_id, function_ids, functions_in, spec_clauses_arity}
use Rattle.erl_runs.specs.Names.{same_id, is_built_in}
use Rattle.erl_runs.specs.Records.{records_of, records_in}
use Rattle.erl_scope_rules.specs.declared.fault.PlacedFault.{PlacedFault}
use Rattle.erl_scope_rules.specs.declared.fault.NameFault.TheVariants.{NoSuchFunction, TwoFunctions, NoSpec}
use Rattle.erl_scope_rules.specs.ScopeFaults.{unless, faults_of_each, faults_of_optional, declared_faults, fields_faults, get_faults, Faults, node_faults, kind_faults, ClauseFaults, clause_faults, clauses_faults, is_defined_at, call_faults, pattern_layer, pattern_kind_faults, pattern_faults, expr_layer, item_layer, qualifier_layer, assoc_layer, catch_layer, clause_layer, expr_kind_faults, clause_kind_faults, clause_node, export_faults, form_faults, forms_faults, defined_by, specified_in}
use Rattle.std.proofs.lemmas.List.{drop_all}
use Rattle.erl_scope_rules.specs.Earliest.{earliest}
use Rattle.erl_scope_rules.proofs.EarliestLaws.{earliest-append}
use Rattle.erl_scope_faults.proofs.Rows.{rest_at}
use Rattle.erl_scope_faults.specs.FormFaults.{HasSameFunctions, HasSameRecords, all_form_faults}

module _ (fs gs : List FunctionId) (rs qs : List RecDefKind) (functions : HasSameFunctions fs gs) (records : HasSameRecords rs qs) where
  -- ---- patterns

  pattern-level : (o : P.PatternKind-F Faults) (place : Place) → pattern_layer fs rs o place ≡ pattern_layer gs qs o place
  pattern-level (P.Rec name tag fields) place = λ j. declared_faults (records name j) place ++ (fields_faults (records name j) [] fields ++ faults_of_each (λ f. node_faults f.kind.1) fields)
  pattern-level _ place = refl

  pattern-kinds : pattern_kind_faults fs rs ≡ pattern_kind_faults gs qs
  unfolding pattern_kind_faults
  pattern-kinds = λ j k. fold-PatternKind Faults (λ o place. pattern-level o place j) k

  patterns : pattern_faults fs rs ≡ pattern_faults gs qs
  patterns = λ j p. pattern-kinds j p.kind p.place

  -- ---- expressions

  defined-at : (name : Name) (n : ℤ) → is_defined_at fs rs name n ≡ is_defined_at gs qs name n
  defined-at name (pos n) = functions (of_function name n)
  defined-at name (negsuc n) = refl

  call : (prefix : Option Name) (id : FunctionId) (place : Place) → call_faults fs rs prefix id place ≡ call_faults gs qs prefix id place
  call None id place = ap (λ b. unless (is_built_in id || b) NoSuchFunction place) (functions id)
  call (Some prefix) id place = refl

  expr-level : (o : E.ExprKind-F Faults (List PlacedFault) (List PlacedFault) (List PlacedFault) (List PlacedFault) ClauseFaults) (place : Place) → expr_layer fs rs o place ≡ expr_layer gs qs o place
  expr-level (E.Call prefix name args) place = ap (λ cs. cs ++ faults_of_each node_faults args) (call prefix _ place)
  expr-level (E.RecNew name tag fields) place = λ j. declared_faults (records name j) place ++ (fields_faults (records name j) [] fields ++ faults_of_each (λ f. node_faults f.kind.1) fields)
  expr-level (E.RecChange e name tag fields) place = λ j. node_faults e ++ (declared_faults (records name j) place ++ (fields_faults (records name j) [] fields ++ faults_of_each (λ f. node_faults f.kind.1) fields))
  expr-level (E.RecGet e name tag field) place = λ j. node_faults e ++ get_faults (records name j) field place
  expr-level (E.FunName name n) place = ap (λ b. unless b NoSuchFunction place) (defined-at name n)
  expr-level _ place = refl

  item-level : (o : E.ItemKind-F Faults (List PlacedFault) (List PlacedFault) (List PlacedFault) (List PlacedFault) ClauseFaults) → item_layer fs rs o ≡ item_layer gs qs o
  item-level (E.Value e) = refl
  item-level (E.Match p e) = λ j. patterns j p ++ node_faults e

  qualifier-level : (o : E.QualifierKind-F Faults (List PlacedFault) (List PlacedFault) (List PlacedFault) (List PlacedFault) ClauseFaults) → qualifier_layer fs rs o ≡ qualifier_layer gs qs o
  qualifier-level (E.Generator p e) = λ j. patterns j p ++ node_faults e
  qualifier-level (E.Filter e) = refl

  catch-level : (o : E.CatchKind-F Faults (List PlacedFault) (List PlacedFault) (List PlacedFault) (List PlacedFault) ClauseFaults) → catch_layer fs rs o ≡ catch_layer gs qs o
  catch-level o = λ j. faults_of_optional (patterns j) o.class ++ clause_faults o.clause

  clause-level : (o : E.ClauseKind-F Faults (List PlacedFault) (List PlacedFault) (List PlacedFault) (List PlacedFault) ClauseFaults) → clause_layer fs rs o ≡ clause_layer gs qs o
  clause-level o = λ j. record {
    arity = (clause_layer fs rs o).arity;
    faults = faults_of_each (patterns j) o.patterns ++ (faults_of_optional (λ g. faults_of_each (faults_of_each node_faults) g.kind) o.guard ++ faults_of_each kind_faults o.body);
  }

  expr-kinds : expr_kind_faults fs rs ≡ expr_kind_faults gs qs
  unfolding expr_kind_faults
  expr-kinds = λ j k. fold-ExprKind Faults (List PlacedFault) (List PlacedFault) (List PlacedFault) (List PlacedFault) ClauseFaults (λ o place. expr-level o place j) (λ o. item-level o j) (λ o. qualifier-level o j) (assoc_layer fs rs) (λ o. catch-level o j) (λ o. clause-level o j) k

  clause-kinds : clause_kind_faults fs rs ≡ clause_kind_faults gs qs
  unfolding clause_kind_faults
  clause-kinds = λ j k. fold-ClauseKind Faults (List PlacedFault) (List PlacedFault) (List PlacedFault) (List PlacedFault) ClauseFaults (λ o place. expr-level o place j) (λ o. item-level o j) (λ o. qualifier-level o j) (assoc_layer fs rs) (λ o. catch-level o j) (λ o. clause-level o j) k

  clause-nodes : clause_node fs rs ≡ clause_node gs qs
  clause-nodes = λ j c. record { place = c.place; marks = c.marks; kind = clause-kinds j c.kind }

  -- ---- forms

  exported : (types : Bool) (names : List (Name × ℤ)) (place : Place) → export_faults fs rs types names place ≡ export_faults gs qs types names place
  exported true names place = refl
  exported false names place = λ j. faults_of_each (λ n. unless (defined-at n.0 n.1 j) NoSuchFunction place) names

  module _ (specified also : List FunctionId) (specs : HasSameFunctions specified also) where
    form-alike : (before other : List FunctionId) → HasSameFunctions before other → (form : TreeForm) → form_faults fs rs specified before form ≡ form_faults gs qs also other form
    form-alike before other there (F.Function f) = λ j. unless (not (is_built_in (function_id f) || there (function_id f) j)) TwoFunctions f.place ++ (unless (specs (function_id f) j) NoSpec f.place ++ clauses_faults (map (clause-nodes j) f.clauses))
    form-alike before other there (F.RecDef r) = λ j. faults_of_each (λ f. faults_of_optional (λ e. expr-kinds j e.kind e.place) f.kind.default) r.kind.fields
    form-alike before other there (F.Export e) = exported e.kind.types e.kind.names e.place
    form-alike before other there (F.Spec s) = ap (λ b. unless b NoSuchFunction s.place) (functions (of_function s.kind.name (spec_clauses_arity s.kind.clauses)))
    form-alike before other there _ = refl

    behind : (form : TreeForm) (before other : List FunctionId) → HasSameFunctions before other → HasSameFunctions (defined_by form ++ before) (defined_by form ++ other)
    behind (F.Function f) before other there id = ap (λ b. same_id id (function_id f) || b) (there id)
    behind _ before other there id = there id

    pub forms-alike : (before other : List FunctionId) → HasSameFunctions before other → (forms : List TreeForm) → all_form_faults fs rs specified before forms ≡ all_form_faults gs qs also other forms
    forms-alike before other there [] = refl
    forms-alike before other there (form ∷ forms) = λ j. form-alike before other there form j ++ forms-alike (defined_by form ++ before) (defined_by form ++ other) (behind form before other there) forms j

-- in a module
pub in-module : (m : Module) (before : List FunctionId) (forms : List TreeForm) → all_form_faults (function_ids m) (records_of m) (specified_in m.forms) before forms ≡ forms_faults m before forms
in-module m before [] = refl
in-module m before (form ∷ forms) = ap (λ fs. form_faults (function_ids m) (records_of m) (specified_in m.forms) before form ++ fs) (in-module m (defined_by form ++ before) forms)

pub whole-module : (m : Module) (fs : List FunctionId) (rs : List RecDefKind) (specified : List FunctionId) → HasSameFunctions fs (map function_id (functions_in m.forms)) → HasSameRecords rs (records_in m.forms) → HasSameFunctions specified (specified_in m.forms)
    → all_form_faults fs rs specified [] m.forms ≡ forms_faults m [] m.forms
whole-module m fs rs specified functions records specs = forms-alike fs (function_ids m) rs (records_of m) functions records specified (specified_in m.forms) specs [] [] (λ id. refl) m.forms ∙ in-module m [] m.forms

-- one more form
pub forms_next : (functions : List FunctionId) (records : List RecDefKind) (specified : List FunctionId) (forms : List TreeForm) (whole : Option PlacedFault) (before new : List FunctionId) (i : ℕ) (form : TreeForm) (first next : Option PlacedFault)
    → i < length forms → form ≡ get_or forms i form → next ≡ earliest first (form_faults functions records specified before form) → HasSameFunctions new (defined_by form ++ before)
    → earliest first (all_form_faults functions records specified before (drop i forms)) ≡ whole → earliest next (all_form_faults functions records specified new (drop (i + 1) forms)) ≡ whole
forms_next functions records specified forms whole before new i form first next lt is noted added so_far =
    ap (earliest next) (forms-alike functions functions records records (λ id. refl) (λ name. refl) specified specified (λ id. refl) new (defined_by form ++ before) added (drop (i + 1) forms))
    ∙ (ap (λ f. earliest f (all_form_faults functions records specified (defined_by form ++ before) (drop (i + 1) forms))) noted
    ∙ (sym (earliest-append first (form_faults functions records specified before form) (all_form_faults functions records specified (defined_by form ++ before) (drop (i + 1) forms)))
    ∙ (ap (λ fs. earliest first (all_form_faults functions records specified before fs)) (sym (rest_at forms i form lt is)) ∙ so_far)))

pub forms_last : (functions : List FunctionId) (records : List RecDefKind) (specified : List FunctionId) (forms : List TreeForm) (whole : Option PlacedFault) (before : List FunctionId) (i : ℕ) (first : Option PlacedFault)
    → length forms ≤ i → earliest first (all_form_faults functions records specified before (drop i forms)) ≡ whole → first ≡ whole
forms_last functions records specified forms whole before i first end so_far = ap (λ fs. earliest first (all_form_faults functions records specified before fs)) (sym (drop_all i forms end)) ∙ so_far

-- what was looked at are the module's forms
pub whole-of : (m : Module) (forms : List TreeForm) (fs : List FunctionId) (rs : List RecDefKind) (specified : List FunctionId) → forms ≡ m.forms → HasSameFunctions fs (map function_id (functions_in forms)) → HasSameRecords rs (records_in forms) → HasSameFunctions specified (specified_in forms)
    → all_form_faults fs rs specified [] forms ≡ forms_faults m [] m.forms
whole-of m forms fs rs specified e functions records specs =
    ap (λ xs. all_form_faults fs rs specified [] xs) e
    ∙ whole-module m fs rs specified (subst (λ xs. HasSameFunctions fs (map function_id (functions_in xs))) e functions) (subst (λ xs. HasSameRecords rs (records_in xs)) e records) (subst (λ xs. HasSameFunctions specified (specified_in xs)) e specs)
