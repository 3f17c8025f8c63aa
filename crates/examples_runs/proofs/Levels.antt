-- The definitions of runs once more, by levels of trees: as folds they don't compute, and these do.
use Rattle.std.proofs.Common.{◌≡◌, refl, sym, ◌∙◌, ap, ℕ, zero, suc, List, [], ◌∷◌, ◌++◌, map, length}
use Rattle.std.specs.Prelude.{cond, nat_eq, Option, Some, None, is_none, slice_get, codes}
use Rattle.type_terms.specs.Keys.{Name}
use Rattle.erl_tree.specs.declared.token.Node.{Node}
use Rattle.erl_tree.specs.declared.pattern.PatternKind.{PatternKind, out-PatternKind, map-PatternKind, fold-PatternKind, fold_out-PatternKind}
use Rattle.erl_tree.specs.declared.expr.ExprKind.{ExprKind, out-ExprKind, map-ExprKind, roll-out-ExprKind, para-ExprKind, para-roll-ExprKind, fold-ExprKind, fold_out-ExprKind}
use Rattle.erl_tree.specs.declared.expr.ItemKind.{ItemKind, out-ItemKind, map-ItemKind, roll-out-ItemKind, para-ItemKind, para-roll-ItemKind}
use Rattle.erl_tree.specs.declared.expr.QualifierKind.{QualifierKind, out-QualifierKind, map-QualifierKind, roll-out-QualifierKind, para-QualifierKind, para-roll-QualifierKind}
use Rattle.erl_tree.specs.declared.expr.AssocKind.{AssocKind, out-AssocKind, map-AssocKind, roll-out-AssocKind, para-AssocKind, para-roll-AssocKind}
use Rattle.erl_tree.specs.declared.expr.CatchKind.{CatchKind, out-CatchKind, map-CatchKind, roll-out-CatchKind, para-CatchKind, para-roll-CatchKind}
use Rattle.erl_tree.specs.declared.expr.ClauseKind.{ClauseKind, out-ClauseKind, map-ClauseKind, roll-out-ClauseKind, para-roll-ClauseKind}
use Rattle.erl_tree.specs.declared.expr.ExprKind.TheOpen as E
use Rattle.erl_tree.specs.declared.form.Function.{Function}
use Rattle.erl_tree.specs.declared.form.Module.{Module}
use Rattle.erl_tree.specs.declared.form.RecDefKind.{RecDefKind}
use Rattle.erl_tree.specs.declared.form.RecFieldKind.{RecFieldKind}
use Rattle.erl_tree.specs.Functions.{functions_of}
use Rattle.erl_grammar.specs.Guards.{Asks, misfit_in, misfit_layer}
use Rattle.erl_runs.specs.Value.{Value, atom, named_fun, closure, Environment, no_bindings, throw, Outcome, wrong, Run}
use Rattle.erl_runs.specs.Operations.{elements_of, Association}
use Rattle.erl_runs.specs.Records as R
use Rattle.erl_runs.specs.Records.{records_of, find_record, fields_of, have_fields, and_values, given_for, omitted, new_values, default_kind, default_layer}
use Rattle.erl_runs.specs.Matching.{Match, match_kind, match_layer, match_pattern, match_each, match_next, match_value}
use Rattle.erl_runs.specs.Running.{Beside, Does, Part, Choice, Applies, Code, plain, part, of, all_of, funs_in, funs_in_choices, field_parts, names_of, behind, run_all, run_body, run_clauses, taken_anew, anew, guard_holds, class_name, then, finally, ends, gives, gives_found, goes_wrong, still_going, with_calls, run_filter, paired, tagged, new_record, run_kind, choice_kind, run_layer, run_item_layer, run_qualifier_layer, run_assoc_layer, run_catch_layer, run_clause_layer, matched, front, environments_of, generated, match_class, match_caught, applies_nothing, funs_in_function, funs_in_functions, numbered, code_of, find_numbered, arity_of, run_function, run_closure, enter, apply_within, apply}
use Rattle.examples_runs.specs.Outcomes.{main, module_of, run_of, outcome_of}

-- ---- folds

-- a pattern's match, so many of its levels by computing
unfoldable pub match_levels : ℕ → List RecDefKind → PatternKind → Match
match_levels zero records = match_kind records
match_levels (suc k) records = λ p. match_layer records (map-PatternKind PatternKind Match (match_levels k records) (out-PatternKind p))

match-levels : (k : ℕ) (records : List RecDefKind) → match_levels k records ≡ match_kind records
unfolding match_levels match_kind
match-levels zero records = refl
match-levels (suc k) records =
    (λ j p. match_layer records (map-PatternKind PatternKind Match (match-levels k records j) (out-PatternKind p)))
    ∙ (λ j p. sym (fold_out-PatternKind Match (match_layer records) p) j)

-- the same of misfits
unfoldable pub misfit_levels : ℕ → ExprKind → Asks
misfit_levels zero = misfit_in
misfit_levels (suc k) = λ e. misfit_layer (map-ExprKind ExprKind ItemKind QualifierKind AssocKind CatchKind ClauseKind Asks (Unit {0}) (Unit {0}) (Unit {0}) (Unit {0}) (Unit {0}) (misfit_levels k) (λ i. tt) (λ q. tt) (λ a. tt) (λ c. tt) (λ c. tt) (out-ExprKind e))

misfit-levels : (k : ℕ) → misfit_levels k ≡ misfit_in
unfolding misfit_levels misfit_in
misfit-levels zero = refl
misfit-levels (suc k) =
    (λ j e. misfit_layer (map-ExprKind ExprKind ItemKind QualifierKind AssocKind CatchKind ClauseKind Asks (Unit {0}) (Unit {0}) (Unit {0}) (Unit {0}) (Unit {0}) (misfit-levels k j) (λ i. tt) (λ q. tt) (λ a. tt) (λ c. tt) (λ c. tt) (out-ExprKind e)))
    ∙ (λ j e. sym (fold_out-ExprKind Asks (Unit {0}) (Unit {0}) (Unit {0}) (Unit {0}) (Unit {0}) misfit_layer (λ i. tt) (λ q. tt) (λ a. tt) (λ c. tt) (λ c. tt) e) j)

-- the same of defaults
unfoldable pub default_levels : ℕ → ExprKind → Option Value
default_levels zero = default_kind
default_levels (suc k) = λ e. default_layer (map-ExprKind ExprKind ItemKind QualifierKind AssocKind CatchKind ClauseKind (Option Value) (Unit {0}) (Unit {0}) (Unit {0}) (Unit {0}) (Unit {0}) (default_levels k) (λ i. tt) (λ q. tt) (λ a. tt) (λ c. tt) (λ c. tt) (out-ExprKind e))

default-levels : (k : ℕ) → default_levels k ≡ default_kind
unfolding default_levels default_kind
default-levels zero = refl
default-levels (suc k) =
    (λ j e. default_layer (map-ExprKind ExprKind ItemKind QualifierKind AssocKind CatchKind ClauseKind (Option Value) (Unit {0}) (Unit {0}) (Unit {0}) (Unit {0}) (Unit {0}) (default-levels k j) (λ i. tt) (λ q. tt) (λ a. tt) (λ c. tt) (λ c. tt) (out-ExprKind e)))
    ∙ (λ j e. sym (fold_out-ExprKind (Option Value) (Unit {0}) (Unit {0}) (Unit {0}) (Unit {0}) (Unit {0}) default_layer (λ i. tt) (λ q. tt) (λ a. tt) (λ c. tt) (λ c. tt) e) j)

-- ---- one level

-- what a run asks of a tree by a fold of its own
record Folds : Type 0 where
  matches : List RecDefKind → PatternKind → Match
  misfits : ExprKind → Asks
  defaults : ExprKind → Option Value

abbrev true_folds : Folds
true_folds = record { matches = match_kind; misfits = misfit_in; defaults = default_kind }

abbrev folds_of : ℕ → Folds
folds_of k = record { matches = match_levels k; misfits = misfit_levels k; defaults = default_levels k }

folds-of : (k : ℕ) → folds_of k ≡ true_folds
folds-of k j = record { matches = λ records. match-levels k records j; misfits = misfit-levels k j; defaults = default-levels k j }

-- what each kind of node does
record Readers : Type 0 where
  expr : ExprKind → Does
  item : ItemKind → Part (Value × Environment)
  qualifier : QualifierKind → Part (List Environment)
  assoc : AssocKind → Part Association
  caught : CatchKind → Choice
  clause : ClauseKind → Choice

module _ (folds : Folds) where
  abbrev omitted_by : Option (Node ExprKind) → Option Value
  omitted_by None = Some (atom (codes "undefined"))
  omitted_by (Some e) = folds.defaults e.kind

  abbrev new_values_by : List RecFieldKind → List (Name × Value) → Option (List Value)
  new_values_by [] given = Some []
  new_values_by (f ∷ fs) given = and_values (R.or_else (given_for given f.name) (omitted_by f.default)) (new_values_by fs given)

  abbrev new_record_by : Option RecDefKind → Name → List Name → List Value → Option Value
  new_record_by None tag names vs = None
  new_record_by (Some r) tag names vs = cond (have_fields (fields_of r) names) (tagged tag (new_values_by (fields_of r) (paired names vs))) None

  module _ (unbound : Outcome Value) (records : List RecDefKind) (arity : Value → ℕ) (apply : Applies) where
    abbrev expr_layer : Beside E.ExprKind-F → Does
    expr_layer (E.RecNew name tag fields) = plain (funs_in (field_parts fields))
        (λ number environment steps. then (run_all (field_parts fields) number environment steps) (λ vs left. gives_found (new_record_by (find_record records name) tag (names_of fields) vs) left))
    expr_layer l = run_layer unbound records arity apply l

    abbrev item_layer : Beside E.ItemKind-F → Part (Value × Environment)
    item_layer (E.Value e) = run_item_layer unbound records arity apply (E.Value e)
    item_layer (E.Match p e) = record { funs = (part e).funs; run = λ number environment steps. then ((part e).run number environment steps) (λ v left. matched unbound records arity apply (folds.matches records p.kind v environment) v left) }

    abbrev environments_by : Node PatternKind → List Value → Environment → List Environment
    environments_by p [] environment = []
    environments_by p (v ∷ vs) environment = front unbound records arity apply (anew (folds.matches records p.kind v no_bindings) environment) (environments_by p vs environment)

    abbrev generated_by : Node PatternKind → Option (List Value) → Environment → ℕ → Run (List Environment)
    generated_by p None environment steps = goes_wrong steps
    generated_by p (Some vs) environment steps = gives (environments_by p vs environment) steps

    abbrev qualifier_layer : Beside E.QualifierKind-F → Part (List Environment)
    qualifier_layer (E.Generator p e) = record { funs = (part e).funs; run = λ number environment steps. then ((part e).run number environment steps) (λ v left. generated_by p (elements_of v) environment left) }
    qualifier_layer (E.Filter e) = record { funs = (part e).funs; run = run_filter (is_none (folds.misfits e.kind.0 e.place)) e }

    abbrev matches_by : List (Node PatternKind) → List Value → Environment → Option Environment
    matches_by ps vs environment = match_each (map (λ p. folds.matches records p.kind) ps) vs environment

    abbrev clause_layer : Beside E.ClauseKind-F → Choice
    clause_layer c = record { funs = funs_in (all_of c.body); matches = matches_by c.patterns; allows = guard_holds c.guard; run = run_body (all_of c.body) }

    abbrev class_by : Option (Node PatternKind) → Value → Environment → Option Environment
    class_by None class environment = match_value (class_name throw) class environment
    class_by (Some p) class environment = folds.matches records p.kind class environment

    abbrev caught_by : Option (Node PatternKind) → Choice → List Value → Environment → Option Environment
    caught_by class c [] environment = None
    caught_by class c (v ∷ vs) environment = match_next (class_by class v environment) (c.matches vs)

    abbrev catch_layer : Beside E.CatchKind-F → Choice
    catch_layer c = record { funs = (of c.clause).funs; matches = caught_by c.class (of c.clause); allows = (of c.clause).allows; run = (of c.clause).run }

    -- one level of each kind, whose parts do what these say
    unfoldable next : Readers → Readers
    next r = record {
      expr = λ y. expr_layer (map-ExprKind ExprKind ItemKind QualifierKind AssocKind CatchKind ClauseKind (ExprKind × Does) (ItemKind × Part (Value × Environment)) (QualifierKind × Part (List Environment)) (AssocKind × Part Association) (CatchKind × Choice) (ClauseKind × Choice) (λ y. (y, r.expr y)) (λ y. (y, r.item y)) (λ y. (y, r.qualifier y)) (λ y. (y, r.assoc y)) (λ y. (y, r.caught y)) (λ y. (y, r.clause y)) (out-ExprKind y));
      item = λ y. item_layer (map-ItemKind ExprKind ItemKind QualifierKind AssocKind CatchKind ClauseKind (ExprKind × Does) (ItemKind × Part (Value × Environment)) (QualifierKind × Part (List Environment)) (AssocKind × Part Association) (CatchKind × Choice) (ClauseKind × Choice) (λ y. (y, r.expr y)) (λ y. (y, r.item y)) (λ y. (y, r.qualifier y)) (λ y. (y, r.assoc y)) (λ y. (y, r.caught y)) (λ y. (y, r.clause y)) (out-ItemKind y));
      qualifier = λ y. qualifier_layer (map-QualifierKind ExprKind ItemKind QualifierKind AssocKind CatchKind ClauseKind (ExprKind × Does) (ItemKind × Part (Value × Environment)) (QualifierKind × Part (List Environment)) (AssocKind × Part Association) (CatchKind × Choice) (ClauseKind × Choice) (λ y. (y, r.expr y)) (λ y. (y, r.item y)) (λ y. (y, r.qualifier y)) (λ y. (y, r.assoc y)) (λ y. (y, r.caught y)) (λ y. (y, r.clause y)) (out-QualifierKind y));
      assoc = λ y. run_assoc_layer unbound records arity apply (map-AssocKind ExprKind ItemKind QualifierKind AssocKind CatchKind ClauseKind (ExprKind × Does) (ItemKind × Part (Value × Environment)) (QualifierKind × Part (List Environment)) (AssocKind × Part Association) (CatchKind × Choice) (ClauseKind × Choice) (λ y. (y, r.expr y)) (λ y. (y, r.item y)) (λ y. (y, r.qualifier y)) (λ y. (y, r.assoc y)) (λ y. (y, r.caught y)) (λ y. (y, r.clause y)) (out-AssocKind y));
      caught = λ y. catch_layer (map-CatchKind ExprKind ItemKind QualifierKind AssocKind CatchKind ClauseKind (ExprKind × Does) (ItemKind × Part (Value × Environment)) (QualifierKind × Part (List Environment)) (AssocKind × Part Association) (CatchKind × Choice) (ClauseKind × Choice) (λ y. (y, r.expr y)) (λ y. (y, r.item y)) (λ y. (y, r.qualifier y)) (λ y. (y, r.assoc y)) (λ y. (y, r.caught y)) (λ y. (y, r.clause y)) (out-CatchKind y));
      clause = λ y. clause_layer (map-ClauseKind ExprKind ItemKind QualifierKind AssocKind CatchKind ClauseKind (ExprKind × Does) (ItemKind × Part (Value × Environment)) (QualifierKind × Part (List Environment)) (AssocKind × Part Association) (CatchKind × Choice) (ClauseKind × Choice) (λ y. (y, r.expr y)) (λ y. (y, r.item y)) (λ y. (y, r.qualifier y)) (λ y. (y, r.assoc y)) (λ y. (y, r.caught y)) (λ y. (y, r.clause y)) (out-ClauseKind y));
    }

-- ---- the same as the definitions

new-values : (fs : List RecFieldKind) (given : List (Name × Value)) → new_values_by true_folds fs given ≡ new_values fs given
new-values [] given = refl
new-values (f ∷ fs) given = λ j. and_values (R.or_else (given_for given f.name) (omitted-same f.default j)) (new-values fs given j)
  where
    omitted-same : (e : Option (Node ExprKind)) → omitted_by true_folds e ≡ omitted e
    omitted-same None = refl
    omitted-same (Some e) = refl

new-record : (r : Option RecDefKind) (tag : Name) (names : List Name) (vs : List Value) → new_record_by true_folds r tag names vs ≡ new_record r tag names vs
new-record None tag names vs = refl
new-record (Some r) tag names vs = λ j. cond (have_fields (fields_of r) names) (tagged tag (new-values (fields_of r) (paired names vs) j)) None

module _ (unbound : Outcome Value) (records : List RecDefKind) (arity : Value → ℕ) (apply : Applies) where
  expr-layer : (l : Beside E.ExprKind-F) → expr_layer true_folds unbound records arity apply l ≡ run_layer unbound records arity apply l
  expr-layer (E.RecNew name tag fields) = λ j. plain (funs_in (field_parts fields))
      (λ number environment steps. then (run_all (field_parts fields) number environment steps) (λ vs left. gives_found (new-record (find_record records name) tag (names_of fields) vs j) left))
  expr-layer l = refl

  item-layer : (l : Beside E.ItemKind-F) → item_layer true_folds unbound records arity apply l ≡ run_item_layer unbound records arity apply l
  item-layer (E.Value e) = refl
  item-layer (E.Match p e) = refl

  environments : (p : Node PatternKind) (vs : List Value) (environment : Environment) → environments_by true_folds unbound records arity apply p vs environment ≡ environments_of unbound records arity apply p vs environment
  environments p [] environment = refl
  environments p (v ∷ vs) environment = λ j. front unbound records arity apply (anew (match_pattern records p v no_bindings) environment) (environments p vs environment j)

  generated-same : (p : Node PatternKind) (vs : Option (List Value)) (environment : Environment) (steps : ℕ) → generated_by true_folds unbound records arity apply p vs environment steps ≡ generated unbound records arity apply p vs environment steps
  generated-same p None environment steps = refl
  generated-same p (Some vs) environment steps = λ j. gives (environments p vs environment j) steps

  qualifier-layer : (l : Beside E.QualifierKind-F) → qualifier_layer true_folds unbound records arity apply l ≡ run_qualifier_layer unbound records arity apply l
  qualifier-layer (E.Generator p e) = λ j. record { funs = (part e).funs; run = λ number environment steps. then ((part e).run number environment steps) (λ v left. generated-same p (elements_of v) environment left j) }
  qualifier-layer (E.Filter e) = refl

  class-same : (class : Option (Node PatternKind)) (v : Value) (environment : Environment) → class_by true_folds unbound records arity apply class v environment ≡ match_class unbound records arity apply class v environment
  class-same None v environment = refl
  class-same (Some p) v environment = refl

  caught-same : (class : Option (Node PatternKind)) (c : Choice) (vs : List Value) (environment : Environment) → caught_by true_folds unbound records arity apply class c vs environment ≡ match_caught unbound records arity apply class c vs environment
  caught-same class c [] environment = refl
  caught-same class c (v ∷ vs) environment = λ j. match_next (class-same class v environment j) (c.matches vs)

  catch-layer : (l : Beside E.CatchKind-F) → catch_layer true_folds unbound records arity apply l ≡ run_catch_layer unbound records arity apply l
  catch-layer c = λ j. record { funs = (of c.clause).funs; matches = λ vs environment. caught-same c.class (of c.clause) vs environment j; allows = (of c.clause).allows; run = (of c.clause).run }

  -- what the definitions say that each kind of node does
  abbrev true_readers : Readers
  true_readers = record {
    expr = run_kind unbound records arity apply;
    item = λ y. para-ItemKind Does (Part (Value × Environment)) (Part (List Environment)) (Part Association) Choice Choice (run_layer unbound records arity apply) (run_item_layer unbound records arity apply) (run_qualifier_layer unbound records arity apply) (run_assoc_layer unbound records arity apply) (run_catch_layer unbound records arity apply) (run_clause_layer unbound records arity apply) y;
    qualifier = λ y. para-QualifierKind Does (Part (Value × Environment)) (Part (List Environment)) (Part Association) Choice Choice (run_layer unbound records arity apply) (run_item_layer unbound records arity apply) (run_qualifier_layer unbound records arity apply) (run_assoc_layer unbound records arity apply) (run_catch_layer unbound records arity apply) (run_clause_layer unbound records arity apply) y;
    assoc = λ y. para-AssocKind Does (Part (Value × Environment)) (Part (List Environment)) (Part Association) Choice Choice (run_layer unbound records arity apply) (run_item_layer unbound records arity apply) (run_qualifier_layer unbound records arity apply) (run_assoc_layer unbound records arity apply) (run_catch_layer unbound records arity apply) (run_clause_layer unbound records arity apply) y;
    caught = λ y. para-CatchKind Does (Part (Value × Environment)) (Part (List Environment)) (Part Association) Choice Choice (run_layer unbound records arity apply) (run_item_layer unbound records arity apply) (run_qualifier_layer unbound records arity apply) (run_assoc_layer unbound records arity apply) (run_catch_layer unbound records arity apply) (run_clause_layer unbound records arity apply) y;
    clause = choice_kind unbound records arity apply;
  }

  expr-real : (y : ExprKind) → (next true_folds unbound records arity apply true_readers).expr y ≡ true_readers.expr y
  unfolding next run_kind choice_kind
  expr-real y =
      expr-layer (map-ExprKind ExprKind ItemKind QualifierKind AssocKind CatchKind ClauseKind (ExprKind × Does) (ItemKind × Part (Value × Environment)) (QualifierKind × Part (List Environment)) (AssocKind × Part Association) (CatchKind × Choice) (ClauseKind × Choice) (λ y. (y, true_readers.expr y)) (λ y. (y, true_readers.item y)) (λ y. (y, true_readers.qualifier y)) (λ y. (y, true_readers.assoc y)) (λ y. (y, true_readers.caught y)) (λ y. (y, true_readers.clause y)) (out-ExprKind y))
      ∙ (sym (para-roll-ExprKind Does (Part (Value × Environment)) (Part (List Environment)) (Part Association) Choice Choice (run_layer unbound records arity apply) (run_item_layer unbound records arity apply) (run_qualifier_layer unbound records arity apply) (run_assoc_layer unbound records arity apply) (run_catch_layer unbound records arity apply) (run_clause_layer unbound records arity apply) (out-ExprKind y))
      ∙ ap true_readers.expr (roll-out-ExprKind y))

  item-real : (y : ItemKind) → (next true_folds unbound records arity apply true_readers).item y ≡ true_readers.item y
  unfolding next run_kind choice_kind
  item-real y =
      item-layer (map-ItemKind ExprKind ItemKind QualifierKind AssocKind CatchKind ClauseKind (ExprKind × Does) (ItemKind × Part (Value × Environment)) (QualifierKind × Part (List Environment)) (AssocKind × Part Association) (CatchKind × Choice) (ClauseKind × Choice) (λ y. (y, true_readers.expr y)) (λ y. (y, true_readers.item y)) (λ y. (y, true_readers.qualifier y)) (λ y. (y, true_readers.assoc y)) (λ y. (y, true_readers.caught y)) (λ y. (y, true_readers.clause y)) (out-ItemKind y))
      ∙ (sym (para-roll-ItemKind Does (Part (Value × Environment)) (Part (List Environment)) (Part Association) Choice Choice (run_layer unbound records arity apply) (run_item_layer unbound records arity apply) (run_qualifier_layer unbound records arity apply) (run_assoc_layer unbound records arity apply) (run_catch_layer unbound records arity apply) (run_clause_layer unbound records arity apply) (out-ItemKind y))
      ∙ ap true_readers.item (roll-out-ItemKind y))

  qualifier-real : (y : QualifierKind) → (next true_folds unbound records arity apply true_readers).qualifier y ≡ true_readers.qualifier y
  unfolding next run_kind choice_kind
  qualifier-real y =
      qualifier-layer (map-QualifierKind ExprKind ItemKind QualifierKind AssocKind CatchKind ClauseKind (ExprKind × Does) (ItemKind × Part (Value × Environment)) (QualifierKind × Part (List Environment)) (AssocKind × Part Association) (CatchKind × Choice) (ClauseKind × Choice) (λ y. (y, true_readers.expr y)) (λ y. (y, true_readers.item y)) (λ y. (y, true_readers.qualifier y)) (λ y. (y, true_readers.assoc y)) (λ y. (y, true_readers.caught y)) (λ y. (y, true_readers.clause y)) (out-QualifierKind y))
      ∙ (sym (para-roll-QualifierKind Does (Part (Value × Environment)) (Part (List Environment)) (Part Association) Choice Choice (run_layer unbound records arity apply) (run_item_layer unbound records arity apply) (run_qualifier_layer unbound records arity apply) (run_assoc_layer unbound records arity apply) (run_catch_layer unbound records arity apply) (run_clause_layer unbound records arity apply) (out-QualifierKind y))
      ∙ ap true_readers.qualifier (roll-out-QualifierKind y))

  assoc-real : (y : AssocKind) → (next true_folds unbound records arity apply true_readers).assoc y ≡ true_readers.assoc y
  unfolding next run_kind choice_kind
  assoc-real y =
      refl
      ∙ (sym (para-roll-AssocKind Does (Part (Value × Environment)) (Part (List Environment)) (Part Association) Choice Choice (run_layer unbound records arity apply) (run_item_layer unbound records arity apply) (run_qualifier_layer unbound records arity apply) (run_assoc_layer unbound records arity apply) (run_catch_layer unbound records arity apply) (run_clause_layer unbound records arity apply) (out-AssocKind y))
      ∙ ap true_readers.assoc (roll-out-AssocKind y))

  caught-real : (y : CatchKind) → (next true_folds unbound records arity apply true_readers).caught y ≡ true_readers.caught y
  unfolding next run_kind choice_kind
  caught-real y =
      catch-layer (map-CatchKind ExprKind ItemKind QualifierKind AssocKind CatchKind ClauseKind (ExprKind × Does) (ItemKind × Part (Value × Environment)) (QualifierKind × Part (List Environment)) (AssocKind × Part Association) (CatchKind × Choice) (ClauseKind × Choice) (λ y. (y, true_readers.expr y)) (λ y. (y, true_readers.item y)) (λ y. (y, true_readers.qualifier y)) (λ y. (y, true_readers.assoc y)) (λ y. (y, true_readers.caught y)) (λ y. (y, true_readers.clause y)) (out-CatchKind y))
      ∙ (sym (para-roll-CatchKind Does (Part (Value × Environment)) (Part (List Environment)) (Part Association) Choice Choice (run_layer unbound records arity apply) (run_item_layer unbound records arity apply) (run_qualifier_layer unbound records arity apply) (run_assoc_layer unbound records arity apply) (run_catch_layer unbound records arity apply) (run_clause_layer unbound records arity apply) (out-CatchKind y))
      ∙ ap true_readers.caught (roll-out-CatchKind y))

  clause-real : (y : ClauseKind) → (next true_folds unbound records arity apply true_readers).clause y ≡ true_readers.clause y
  unfolding next run_kind choice_kind
  clause-real y =
      refl
      ∙ (sym (para-roll-ClauseKind Does (Part (Value × Environment)) (Part (List Environment)) (Part Association) Choice Choice (run_layer unbound records arity apply) (run_item_layer unbound records arity apply) (run_qualifier_layer unbound records arity apply) (run_assoc_layer unbound records arity apply) (run_catch_layer unbound records arity apply) (run_clause_layer unbound records arity apply) (out-ClauseKind y))
      ∙ ap true_readers.clause (roll-out-ClauseKind y))

  next-real : next true_folds unbound records arity apply true_readers ≡ true_readers
  next-real j = record { expr = λ y. expr-real y j; item = λ y. item-real y j; qualifier = λ y. qualifier-real y j; assoc = λ y. assoc-real y j; caught = λ y. caught-real y j; clause = λ y. clause-real y j }

  -- so many levels of a tree by computing
  unfoldable levels : Folds → ℕ → Readers
  levels folds zero = true_readers
  levels folds (suc k) = next folds unbound records arity apply (levels folds k)

  levels-real : (k : ℕ) → levels true_folds k ≡ true_readers
  unfolding levels
  levels-real zero = refl
  levels-real (suc k) = ap (next true_folds unbound records arity apply) (levels-real k) ∙ next-real

-- ---- programs

-- what each kind of node does in a program
abbrev Programs : Type 0
Programs = Outcome Value → List RecDefKind → (Value → ℕ) → Applies → Readers

unfoldable of_levels : ℕ → Programs
of_levels k = λ unbound records arity apply. levels unbound records arity apply (folds_of k) k

of-levels : (k : ℕ) → of_levels k ≡ true_readers
unfolding of_levels
of-levels k = (λ j unbound records arity apply. levels unbound records arity apply (folds-of k j) k) ∙ (λ j unbound records arity apply. levels-real unbound records arity apply k j)

module _ (readers : Programs) where
  abbrev choices_by : Outcome Value → List RecDefKind → (Value → ℕ) → Applies → List (Node ClauseKind) → List Choice
  choices_by unbound records arity apply cs = map (λ c. (readers unbound records arity apply).clause c.kind) cs

  abbrev funs_by : Function → List (Node ExprKind)
  funs_by f = funs_in_choices (choices_by wrong [] (λ v. 0) applies_nothing f.clauses)

  abbrev all_funs_by : List Function → List (Node ExprKind)
  all_funs_by [] = []
  all_funs_by (f ∷ fs) = funs_by f ++ all_funs_by fs

  abbrev numbered_by : List Function → ℕ → List (Function × ℕ)
  numbered_by [] number = []
  numbered_by (f ∷ fs) number = (f, number) ∷ numbered_by fs (behind number (funs_by f))

  abbrev code_by : Module → Code
  code_by m = record { unbound = wrong; records = records_of m; functions = numbered_by (functions_of m) 0; funs = all_funs_by (functions_of m) ++ [] }

  abbrev run_function_by : Code → Applies → Option (Function × ℕ) → List Value → ℕ → Run Value
  run_function_by code apply None args steps = ends code.unbound steps
  run_function_by code apply (Some f) args steps = run_clauses taken_anew (choices_by code.unbound code.records (arity_of code) apply f.0.clauses) f.1 no_bindings args steps

  abbrev run_closure_by : Code → Applies → Option (Node ExprKind) → ℕ → Environment → List Value → ℕ → Run Value
  run_closure_by code apply None number environment args steps = goes_wrong steps
  run_closure_by code apply (Some e) number environment args steps = ((readers code.unbound code.records (arity_of code) apply).expr e.kind).enter (suc number) environment args steps

  abbrev enter_by : Code → Applies → Value → List Value → ℕ → Run Value
  enter_by code apply (named_fun name arity) args steps =
      with_calls (record { name = name; args = args; left = steps } ∷ []) (cond (nat_eq arity (length args)) (run_function_by code apply (find_numbered code.functions name arity) args steps) (goes_wrong steps))
  enter_by code apply (closure number environment) args steps = run_closure_by code apply (slice_get code.funs number) number environment args steps
  enter_by code apply _ args steps = goes_wrong steps

  unfoldable within_by : Code → (bound : ℕ) → Applies
  within_by code bound f args zero = still_going zero
  within_by code zero f args (suc steps) = still_going zero
  within_by code (suc bound) f args (suc steps) = enter_by code (within_by code bound) f args steps

numbered-same : (fs : List Function) (number : ℕ) → numbered_by true_readers fs number ≡ numbered fs number
numbered-same [] number = refl
numbered-same (f ∷ fs) number = λ j. (f, number) ∷ numbered-same fs (behind number (funs_in_function f)) j

all-funs-same : (fs : List Function) → all_funs_by true_readers fs ≡ funs_in_functions fs
all-funs-same [] = refl
all-funs-same (f ∷ fs) = λ j. funs_in_function f ++ all-funs-same fs j

code-same : (m : Module) → code_by true_readers m ≡ code_of m []
code-same m j = record { unbound = wrong; records = records_of m; functions = numbered-same (functions_of m) 0 j; funs = all-funs-same (functions_of m) j ++ [] }

function-same : (code : Code) (apply : Applies) (f : Option (Function × ℕ)) (args : List Value) (steps : ℕ) → run_function_by true_readers code apply f args steps ≡ run_function code apply f args steps
function-same code apply None args steps = refl
function-same code apply (Some f) args steps = refl

closure-same : (code : Code) (apply : Applies) (e : Option (Node ExprKind)) (number : ℕ) (environment : Environment) (args : List Value) (steps : ℕ) → run_closure_by true_readers code apply e number environment args steps ≡ run_closure code apply e number environment args steps
closure-same code apply None number environment args steps = refl
closure-same code apply (Some e) number environment args steps = refl

enter-same : (code : Code) (apply : Applies) (f : Value) (args : List Value) (steps : ℕ) → enter_by true_readers code apply f args steps ≡ enter code apply f args steps
enter-same code apply (named_fun name arity) args steps = λ j.
    with_calls (record { name = name; args = args; left = steps } ∷ []) (cond (nat_eq arity (length args)) (function-same code apply (find_numbered code.functions name arity) args steps j) (goes_wrong steps))
enter-same code apply (closure number environment) args steps = closure-same code apply (slice_get code.funs number) number environment args steps
enter-same code apply _ args steps = refl

within-same : (code : Code) (bound : ℕ) → within_by true_readers code bound ≡ apply_within code bound
unfolding within_by apply_within
within-same code bound = λ j f args steps. go bound f args steps j
  where
    go : (bound : ℕ) (f : Value) (args : List Value) (steps : ℕ) → within_by true_readers code bound f args steps ≡ apply_within code bound f args steps
    go zero f args zero = refl
    go (suc bound) f args zero = refl
    go zero f args (suc steps) = refl
    go (suc bound) f args (suc steps) = enter-same code (within_by true_readers code bound) f args steps ∙ (λ j. enter code (λ g vs left. go bound g vs left j) f args steps)

-- ---- examples

-- the run of an expression with so many levels by computing
unfoldable run_by : Programs → List RecDefKind → List Function → Node ExprKind → Run Value
run_by readers records functions e = within_by readers (code_by readers (module_of records (main e ∷ functions))) 100 (named_fun (codes "main") 0) [] 100

run-true : (records : List RecDefKind) (functions : List Function) (e : Node ExprKind) → run_by true_readers records functions e ≡ run_of records functions e
unfolding run_by run_of
run-true records functions e =
    let m : Module = module_of records (main e ∷ functions) in
    (λ j. within_by true_readers (code-same m j) 100 (named_fun (codes "main") 0) [] 100) ∙ (λ j. within-same (code_of m []) 100 j (named_fun (codes "main") 0) [] 100)

unfoldable pub run_in_levels : ℕ → List RecDefKind → List Function → Node ExprKind → Run Value
unfolding Rattle.std.specs.Str.chars run_by within_by of_levels levels next match_levels misfit_levels default_levels then finally Rattle.erl_tree.specs.declared.expr.ExprKind.TheBlock.shape-the_row-ExprKind-0 Rattle.erl_tree.specs.declared.expr.ExprKind.TheBlock.hidden-the_row-ExprKind-0 Rattle.erl_tree.specs.declared.expr.ExprKind.TheBlock.shown-the_row-ExprKind-0 Rattle.erl_tree.specs.declared.expr.ExprKind.TheBlock.shape-the_row-ExprKind-Tuple-0-4-1 Rattle.erl_tree.specs.declared.expr.ExprKind.TheBlock.hidden-the_row-ExprKind-Tuple-0-4-1 Rattle.erl_tree.specs.declared.expr.ExprKind.TheBlock.shown-the_row-ExprKind-Tuple-0-4-1 Rattle.erl_tree.specs.declared.expr.ExprKind.TheBlock.shape-the_row-QualifierKind-2 Rattle.erl_tree.specs.declared.expr.ExprKind.TheBlock.hidden-the_row-QualifierKind-2 Rattle.erl_tree.specs.declared.expr.ExprKind.TheBlock.shown-the_row-QualifierKind-2 Rattle.erl_tree.specs.declared.expr.ExprKind.TheBlock.shape-the_row-ExprKind-Comp-1-4-3 Rattle.erl_tree.specs.declared.expr.ExprKind.TheBlock.hidden-the_row-ExprKind-Comp-1-4-3 Rattle.erl_tree.specs.declared.expr.ExprKind.TheBlock.shown-the_row-ExprKind-Comp-1-4-3 Rattle.erl_tree.specs.declared.expr.ExprKind.TheBlock.shape-the_row-AssocKind-4 Rattle.erl_tree.specs.declared.expr.ExprKind.TheBlock.hidden-the_row-AssocKind-4 Rattle.erl_tree.specs.declared.expr.ExprKind.TheBlock.shown-the_row-AssocKind-4 Rattle.erl_tree.specs.declared.expr.ExprKind.TheBlock.shape-the_row-ExprKind-MapNew-0-4-5 Rattle.erl_tree.specs.declared.expr.ExprKind.TheBlock.hidden-the_row-ExprKind-MapNew-0-4-5 Rattle.erl_tree.specs.declared.expr.ExprKind.TheBlock.shown-the_row-ExprKind-MapNew-0-4-5 Rattle.erl_tree.specs.declared.expr.ExprKind.TheBlock.shape-the_row-ExprKind-RecNew-2-8-6 Rattle.erl_tree.specs.declared.expr.ExprKind.TheBlock.hidden-the_row-ExprKind-RecNew-2-8-6 Rattle.erl_tree.specs.declared.expr.ExprKind.TheBlock.shown-the_row-ExprKind-RecNew-2-8-6 Rattle.erl_tree.specs.declared.expr.ExprKind.TheBlock.shape-the_row-ExprKind-RecNew-2-10-7 Rattle.erl_tree.specs.declared.expr.ExprKind.TheBlock.hidden-the_row-ExprKind-RecNew-2-10-7 Rattle.erl_tree.specs.declared.expr.ExprKind.TheBlock.shown-the_row-ExprKind-RecNew-2-10-7 Rattle.erl_tree.specs.declared.expr.ExprKind.TheBlock.shape-the_row-ItemKind-8 Rattle.erl_tree.specs.declared.expr.ExprKind.TheBlock.hidden-the_row-ItemKind-8 Rattle.erl_tree.specs.declared.expr.ExprKind.TheBlock.shown-the_row-ItemKind-8 Rattle.erl_tree.specs.declared.expr.ExprKind.TheBlock.shape-the_row-ExprKind-Begin-0-4-9 Rattle.erl_tree.specs.declared.expr.ExprKind.TheBlock.hidden-the_row-ExprKind-Begin-0-4-9 Rattle.erl_tree.specs.declared.expr.ExprKind.TheBlock.shown-the_row-ExprKind-Begin-0-4-9 Rattle.erl_tree.specs.declared.expr.ExprKind.TheBlock.shape-the_row-ClauseKind-guard-7-10 Rattle.erl_tree.specs.declared.expr.ExprKind.TheBlock.hidden-the_row-ClauseKind-guard-7-10 Rattle.erl_tree.specs.declared.expr.ExprKind.TheBlock.shown-the_row-ClauseKind-guard-7-10 Rattle.erl_tree.specs.declared.expr.ExprKind.TheBlock.shape-the_row-ClauseKind-guard-8-11 Rattle.erl_tree.specs.declared.expr.ExprKind.TheBlock.hidden-the_row-ClauseKind-guard-8-11 Rattle.erl_tree.specs.declared.expr.ExprKind.TheBlock.shown-the_row-ClauseKind-guard-8-11 Rattle.erl_tree.specs.declared.expr.ExprKind.TheBlock.shape-the_row-ClauseKind-12 Rattle.erl_tree.specs.declared.expr.ExprKind.TheBlock.hidden-the_row-ClauseKind-12 Rattle.erl_tree.specs.declared.expr.ExprKind.TheBlock.shown-the_row-ClauseKind-12 Rattle.erl_tree.specs.declared.expr.ExprKind.TheBlock.shape-the_row-ExprKind-Case-1-4-13 Rattle.erl_tree.specs.declared.expr.ExprKind.TheBlock.hidden-the_row-ExprKind-Case-1-4-13 Rattle.erl_tree.specs.declared.expr.ExprKind.TheBlock.shown-the_row-ExprKind-Case-1-4-13 Rattle.erl_tree.specs.declared.expr.ExprKind.TheBlock.shape-the_row-CatchKind-14 Rattle.erl_tree.specs.declared.expr.ExprKind.TheBlock.hidden-the_row-CatchKind-14 Rattle.erl_tree.specs.declared.expr.ExprKind.TheBlock.shown-the_row-CatchKind-14 Rattle.erl_tree.specs.declared.expr.ExprKind.TheBlock.shape-the_row-ExprKind-Try-2-4-15 Rattle.erl_tree.specs.declared.expr.ExprKind.TheBlock.hidden-the_row-ExprKind-Try-2-4-15 Rattle.erl_tree.specs.declared.expr.ExprKind.TheBlock.shown-the_row-ExprKind-Try-2-4-15 Rattle.erl_tree.specs.declared.pattern.PatternKind.TheBlock.shape-the_row-PatternKind-0 Rattle.erl_tree.specs.declared.pattern.PatternKind.TheBlock.hidden-the_row-PatternKind-0 Rattle.erl_tree.specs.declared.pattern.PatternKind.TheBlock.shown-the_row-PatternKind-0 Rattle.erl_tree.specs.declared.pattern.PatternKind.TheBlock.shape-the_row-PatternKind-Tuple-0-4-1 Rattle.erl_tree.specs.declared.pattern.PatternKind.TheBlock.hidden-the_row-PatternKind-Tuple-0-4-1 Rattle.erl_tree.specs.declared.pattern.PatternKind.TheBlock.shown-the_row-PatternKind-Tuple-0-4-1 Rattle.erl_tree.specs.declared.pattern.PatternKind.TheBlock.shape-the_row-PatternKind-Map-0-8-2 Rattle.erl_tree.specs.declared.pattern.PatternKind.TheBlock.hidden-the_row-PatternKind-Map-0-8-2 Rattle.erl_tree.specs.declared.pattern.PatternKind.TheBlock.shown-the_row-PatternKind-Map-0-8-2 Rattle.erl_tree.specs.declared.pattern.PatternKind.TheBlock.shape-the_row-PatternKind-Map-0-10-3 Rattle.erl_tree.specs.declared.pattern.PatternKind.TheBlock.hidden-the_row-PatternKind-Map-0-10-3 Rattle.erl_tree.specs.declared.pattern.PatternKind.TheBlock.shown-the_row-PatternKind-Map-0-10-3 Rattle.erl_tree.specs.declared.pattern.PatternKind.TheBlock.shape-the_row-PatternKind-Rec-2-8-4 Rattle.erl_tree.specs.declared.pattern.PatternKind.TheBlock.hidden-the_row-PatternKind-Rec-2-8-4 Rattle.erl_tree.specs.declared.pattern.PatternKind.TheBlock.shown-the_row-PatternKind-Rec-2-8-4 Rattle.erl_tree.specs.declared.pattern.PatternKind.TheBlock.shape-the_row-PatternKind-Rec-2-10-5 Rattle.erl_tree.specs.declared.pattern.PatternKind.TheBlock.hidden-the_row-PatternKind-Rec-2-10-5 Rattle.erl_tree.specs.declared.pattern.PatternKind.TheBlock.shown-the_row-PatternKind-Rec-2-10-5 Rattle.erl_tree.specs.declared.expr.ExprKind.TheViews.out-ExprKind Rattle.erl_tree.specs.declared.expr.ExprKind.TheViews.roll-ExprKind Rattle.erl_tree.specs.declared.expr.ExprKind.TheViews.out-ItemKind Rattle.erl_tree.specs.declared.expr.ExprKind.TheViews.roll-ItemKind Rattle.erl_tree.specs.declared.expr.ExprKind.TheViews.out-QualifierKind Rattle.erl_tree.specs.declared.expr.ExprKind.TheViews.roll-QualifierKind Rattle.erl_tree.specs.declared.expr.ExprKind.TheViews.out-CatchKind Rattle.erl_tree.specs.declared.expr.ExprKind.TheViews.roll-CatchKind Rattle.erl_tree.specs.declared.pattern.PatternKind.TheViews.out-PatternKind Rattle.erl_tree.specs.declared.pattern.PatternKind.TheViews.roll-PatternKind denote.Hole.Carrier.out denote.Hole.Carrier.roll denote.Hole.Carrier.shown denote.Hole.Carrier.hidden
run_in_levels k = run_by (of_levels k)

run-levels : (k : ℕ) (records : List RecDefKind) (functions : List Function) (e : Node ExprKind) → run_in_levels k records functions e ≡ run_of records functions e
unfolding run_in_levels
run-levels k records functions e = (λ j. run_by (of-levels k j) records functions e) ∙ run-true records functions e

pub computed-run : (records : List RecDefKind) (functions : List Function) (e : Node ExprKind) (run : Run Value) → run_in_levels 40 records functions e ≡ run → run_of records functions e ≡ run
computed-run records functions e run h = sym (run-levels 40 records functions e) ∙ h

unfoldable pub outcome_in_levels : ℕ → List RecDefKind → List Function → Node ExprKind → Outcome Value
unfolding run_in_levels
outcome_in_levels k records functions e = (run_in_levels k records functions e).outcome

outcome-levels : (k : ℕ) (records : List RecDefKind) (functions : List Function) (e : Node ExprKind) → outcome_in_levels k records functions e ≡ outcome_of records functions e
unfolding outcome_in_levels outcome_of
outcome-levels k records functions e = λ j. (run-levels k records functions e j).outcome

pub computed : (records : List RecDefKind) (functions : List Function) (e : Node ExprKind) (outcome : Outcome Value) → outcome_in_levels 40 records functions e ≡ outcome → outcome_of records functions e ≡ outcome
computed records functions e outcome h = sym (outcome-levels 40 records functions e) ∙ h
