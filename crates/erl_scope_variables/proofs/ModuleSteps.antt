-- What a pass does at the forms of a module.
use Rattle.std.proofs.Common.{◌≡◌, refl, ap, sym, ◌∙◌, List, [], ◌∷◌, map}
use Rattle.std.specs.Prelude.{Option, Some, None}
use Rattle.erl_tree.specs.declared.token.Node.{Node}
use Rattle.erl_tree.specs.declared.expr.ExprKind.{ExprKind}
use Rattle.erl_tree.specs.declared.expr.ClauseKind.{ClauseKind}
use Rattle.erl_tree.specs.declared.form.Function.{Function}
use Rattle.erl_tree.specs.declared.form.RecDefKind.{RecDefKind}
use Rattle.erl_tree.specs.declared.form.RecFieldKind.{RecFieldKind}
use Rattle.erl_tree.specs.declared.form.TreeForm.{TreeForm}
use Rattle.erl_tree.specs.declared.form.TreeForm.TheVariants as F
use Rattle.erl_tree.specs.declared.form.Module.{Module}
use Rattle.erl_scope_rules.specs.declared.role.Role.TheVariants.{Met}
use Rattle.erl_scope_rules.specs.Occurrences.{side_by_side, expr_kind_part, default_part, form_occurrences, forms_occurrences, expr_part, clause_part}
use Rattle.erl_scope_rules.specs.Resolution.{resolved_of}
use Rattle.erl_scope_variables.specs.declared.walk.Walk.{Walk}
use Rattle.erl_scope_variables.specs.declared.walk.Start.{Start}
use Rattle.erl_scope_variables.specs.Walks.{at_first, after_each, start_of, forgotten_since, after_occurrences, after_part, after_clause, after_default_expression, after_default, after_form}
use Rattle.erl_scope_variables.proofs.WalkLaws.{occurrences-beside, occurrences-of_part, occurrences-append, occurrences-none}
use Rattle.erl_scope_variables.proofs.ExprSteps.{walked-beside}

pub without-default : (o : Option (Node ExprKind)) → o ≡ None → (w : Walk) → w ≡ after_default_expression o w
without-default o none w = sym (ap (λ x. after_default_expression x w) none ∙ occurrences-none w)

pub with-default : (o : Option (Node ExprKind)) (e : Node ExprKind) → o ≡ Some e → (w : Walk) (start : Start) → start ≡ start_of w → (j : ExprKind) → j ≡ e.kind → (a : Walk) → a ≡ after_part (expr_kind_part j e.place) w → (v : Walk) → v ≡ forgotten_since start a → v ≡ after_default_expression o w
with-default o e some w start at j same a walked v ends =
    ends ∙ ((λ n. forgotten_since (at n) ((walked ∙ ap (λ i. after_part (expr_kind_part i e.place) w) same) n)) ∙ (occurrences-of_part (expr_part e) w ∙ sym (ap (λ x. after_default_expression x w) some)))

pub default-at : (f : Node RecFieldKind) (k : RecFieldKind) → k ≡ f.kind → (w v : Walk) → v ≡ after_default_expression k.default w → v ≡ after_default f w
default-at f k same w v h = h ∙ ap (λ (x : RecFieldKind). after_default_expression x.default w) same

defaults-walked : (fs : List (Node RecFieldKind)) (w : Walk) → after_each after_default fs w ≡ after_occurrences (side_by_side (map default_part fs)).occurrences w
defaults-walked [] w = sym (occurrences-none w)
defaults-walked (f ∷ fs) w = defaults-walked fs (after_default f w) ∙ sym (occurrences-append (default_part f).occurrences (side_by_side (map default_part fs)).occurrences w)

module _ (form : TreeForm) (w : Walk) where
  pub function-walked : (f : Function) → form ≡ F.Function f → (start : Start) → start ≡ start_of w → (s : List (Node ClauseKind)) → s ≡ f.clauses → (a : Walk) → a ≡ after_each (after_clause Met) s w → (v : Walk) → v ≡ forgotten_since start a → v ≡ after_form form w
  function-walked f is start at s listed a walked v ends =
      ends ∙ ((λ n. forgotten_since (at n) ((walked ∙ (ap (λ xs. after_each (after_clause Met) xs w) listed ∙ walked-beside (clause_part Met) f.clauses w)) n))
      ∙ (occurrences-beside (side_by_side (map (clause_part Met) f.clauses)) w ∙ sym (ap (λ x. after_form x w) is)))

  pub record-walked : (r : Node RecDefKind) → form ≡ F.RecDef r → (k : RecDefKind) → k ≡ r.kind → (s : List (Node RecFieldKind)) → s ≡ k.fields → (v : Walk) → v ≡ after_each after_default s w → v ≡ after_form form w
  record-walked r is k same s listed v h =
      h ∙ (ap (λ xs. after_each after_default xs w) (listed ∙ ap (λ (x : RecDefKind). x.fields) same) ∙ (defaults-walked r.kind.fields w ∙ sym (ap (λ x. after_form x w) is)))

  module _ (no_function : (f : Function) → form ≡ F.Function f → ⊥) (no_record : (r : Node RecDefKind) → form ≡ F.RecDef r → ⊥) where
    none-in : (x : TreeForm) → form ≡ x → form_occurrences x ≡ []
    none-in (F.Function f) e = absurd (no_function f e)
    none-in (F.RecDef r) e = absurd (no_record r e)
    none-in _ e = refl

    pub other-walked : w ≡ after_form form w
    other-walked = sym (ap (λ os. after_occurrences os w) (none-in form refl) ∙ occurrences-none w)

forms-walked : (forms : List TreeForm) (w : Walk) → after_each after_form forms w ≡ after_occurrences (forms_occurrences forms) w
forms-walked [] w = sym (occurrences-none w)
forms-walked (form ∷ forms) w = forms-walked forms (after_form form w) ∙ sym (occurrences-append (form_occurrences form) (forms_occurrences forms) w)

at-first-found : (m : Module) → (after_occurrences (forms_occurrences m.forms) at_first).found ≡ resolved_of m
unfolding after_occurrences
at-first-found m = refl

pub module-walked : (m : Module) (forms : List TreeForm) → forms ≡ m.forms → (first w : Walk) → first ≡ at_first → w ≡ after_each after_form forms first → w.found ≡ resolved_of m
module-walked m forms listed first w begins walked = ap (λ (x : Walk). x.found) (walked ∙ ((λ n. after_each after_form (listed n) (begins n)) ∙ forms-walked m.forms at_first)) ∙ at-first-found m
