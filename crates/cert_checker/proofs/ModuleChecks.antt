-- What is found of the functions of a flat module.
use Rattle.std.proofs.Common.{◌≡◌, refl, sym, ◌∙◌, ap, subst, ℕ, ◌+◌, List, [], ◌∷◌, ◌++◌, length}
use Rattle.std.specs.Prelude.{Some, true, slice_get}
use Rattle.std.specs.List.{Contains}
use Rattle.std.proofs.lemmas.List.{append-nil}
use Rattle.std.proofs.lemmas.Option.{slice_get_within}
use Rattle.type_terms.specs.declared.spec.Arrow.{Arrow}
use Rattle.type_terms.proofs.Contained.{contains-first}
use Rattle.erl_tree.specs.declared.token.Node.{Node}
use Rattle.erl_tree.specs.declared.expr.ExprKind.{ExprKind}
use Rattle.erl_tree.specs.declared.expr.ClauseKind.{ClauseKind}
use Rattle.erl_tree.specs.declared.form.Function.{Function}
use Rattle.erl_tree.specs.declared.form.TreeForm.TheVariants as F
use Rattle.erl_tree.specs.declared.form.Module.{Module}
use Rattle.erl_tree.specs.Lists.{Every, Among}
use Rattle.erl_tree.specs.Functions.{functions_of, clauses_arity, of_function}
use Rattle.flat_modules.specs.FlatSpecs.{specs_of}
use Rattle.erl_runs.specs.Membership.{arrows_of}
use Rattle.flat_modules.specs.FlatModules.{IsFlatModule}
use Rattle.name_table.specs.Table.{ids}
use Rattle.cert_checker.specs.declared.refusal.FirstRefusal.{FirstRefusal}
use Rattle.cert_checker.specs.declared.spec_table.FunctionTypes.{FunctionTypes}
use Rattle.cert_checker.specs.declared.spec_table.FormTypes.{FormTypes}
use Rattle.cert_checker.specs.declared.spec_table.FormTypes.TheVariants.{Spec}
use Rattle.cert_checker.specs.declared.spec_table.SpecTable.{SpecTable}
use Rattle.cert_checker.specs.Constraints.{Constraint, Test, FindsFits, Judged, Holds, owed_result, owed_for_arrows}
use Rattle.cert_checker.specs.Failures.{ShowsFailure}
use Rattle.cert_checker.specs.SpecTables.{HoldsSpecs, HaveTypes, IsTypesOf, IsArrowAt, HasTypesOf}
use Rattle.cert_checker.specs.Judging.{HoldsTypes, FunctionSetting, IsClauseOf, ClauseJudgedBy, AreJudgedClauses}
use Rattle.cert_checker.proofs.Tables.{found-arrow, is-specified, own-arrow, arrow-length-of}
use Rattle.cert_checker.proofs.Judged.{JudgedBody, body-judged, body-owes}
use Rattle.cert_checker.proofs.ModuleForms.{body-flat}

-- ---- the table

pub table-holds : (m : Module) (table : SpecTable) → IsFlatModule m → HoldsSpecs m.forms (length m.forms) table.places → HaveTypes m.forms (length m.forms) table.types → HoldsTypes (specs_of m) table
table-holds m table flat places types = record {
  sound = λ name arity k a.
      let r : (arrow : Arrow) × IsArrowAt m.forms k arrow × (arrows_of (specs_of m) name arity ≡ arrow ∷ []) = found-arrow m table.places name arity k flat places a in
      let t : (t : FormTypes) × (slice_get table.types k ≡ Some t) × IsTypesOf (F.Spec r.1.0) t = types.each k (F.Spec r.1.0) (slice_get_within m.forms k (F.Spec r.1.0) r.1.1) r.1.1 in
      (r.0, t.2.0, r.2, t.1 ∙ ap Some t.2.1, t.2.2 r.0 r.1.2, arrow-length-of m name arity r.0 flat r.2);
  complete = λ name arity arrow e absent. is-specified m table.places name arity arrow flat places e absent;
}

-- ---- a function

spec-inj : (f g : FunctionTypes) → Some (Spec f) ≡ Some (Spec g) → f ≡ g
spec-inj f g e = cc

first-inj : (a b : Arrow) → a ∷ [] ≡ b ∷ [] → a ≡ b
first-inj a b e = cc

module _ (m : Module) (table : SpecTable) (number : ℕ) (f : Function) (n at : ℕ) (flat : IsFlatModule m) (holds : HoldsTypes (specs_of m) table) (among : Among f (functions_of m)) (same : n ≡ clauses_arity f.clauses) (found : Among (of_function f.name n, at) table.places) where
  pub function-types : (types : FunctionTypes) × (slice_get table.types at ≡ Some (Spec types))
  function-types = let r = holds.sound f.name n at found in (r.1, r.3)

  module _ (types : FunctionTypes) (there : slice_get table.types at ≡ Some (Spec types)) where
    -- the function's one arrow, which the sets are of
    own : (arrow : Arrow) × (arrows_of (specs_of m) f.name (clauses_arity f.clauses) ≡ arrow ∷ []) × HasTypesOf types arrow
    own =
        let r : (arrow : Arrow) × (g : FunctionTypes) × (arrows_of (specs_of m) f.name n ≡ arrow ∷ []) × (slice_get table.types at ≡ Some (Spec g)) × HasTypesOf g arrow × (length arrow.params ≡ n) = holds.sound f.name n at found in
        (r.0, ap (arrows_of (specs_of m) f.name) (sym same) ∙ r.2, subst (λ g. HasTypesOf g r.0) (spec-inj r.1 types (sym r.3 ∙ there)) r.4)

    setting : (fits : Test) → FindsFits fits → FunctionSetting table types
    setting fits finds = record { fits = fits; finds = finds; specs = specs_of m; holds = holds; arrow = own.0; typed = own.2 }

    body : (fits : Test) → JudgedBody fits number (specs_of m) f own.0
    body fits = body-judged fits number m flat f among own.0 (subst (λ z. Contains z own.0) (sym own.1) (contains-first own.0 []))

    clause-of : (fits : Test) → IsClauseOf f.clauses (body fits).clause (body fits).expression
    clause-of fits = record { one = (body fits).one_clause; is_body = record { item = (body fits).item; one = (body fits).one_item; is_value = (body fits).is_expression } }

    abbrev any_test : Test
    any_test = λ types params. true

    pub clauses-judged : AreJudgedClauses table types number f.clauses
    unfolding setting
    clauses-judged =
        let b : JudgedBody any_test number (specs_of m) f own.0 = body any_test in
        record {
          clause = b.clause;
          expression = b.expression;
          is_clause = record { one = b.one_clause; is_body = record { item = b.item; one = b.one_item; is_value = b.is_expression } };
          flat = body-flat m f b.clause b.item b.expression flat among b.one_clause b.clause_formed b.one_item b.is_expression b.formed;
          setting = setting any_test (λ types params w. refl);
          judged = b.judged;
          is = b.is_judged;
        }

    owed-is : (fits : Test) → owed_result fits number (specs_of m) (body fits).expression.place (Some (body fits).judged) own.0.result ≡ owed_for_arrows fits number (specs_of m) f.clauses (arrows_of (specs_of m) f.name (clauses_arity f.clauses))
    owed-is fits =
        let o : List Constraint = owed_result fits number (specs_of m) (body fits).expression.place (Some (body fits).judged) own.0.result in
        sym (append-nil o) ∙ (sym (append-nil (o ++ [])) ∙ (ap (λ z. z ++ []) (sym (body-owes fits number (specs_of m) f own.0 (body fits))) ∙ ap (owed_for_arrows fits number (specs_of m) f.clauses) (sym own.1)))

    pub function-holds : ((s : FunctionSetting table types) (clause : Node ClauseKind) (e : Node ExprKind) (j : Judged) → IsClauseOf f.clauses clause e → ClauseJudgedBy number s clause e j → Every Holds (owed_result s.fits number s.specs e.place (Some j) s.arrow.result)) →
        (fits : Test) → FindsFits fits → Every Holds (owed_for_arrows fits number (specs_of m) f.clauses (arrows_of (specs_of m) f.name (clauses_arity f.clauses)))
    unfolding setting
    function-holds h fits finds = subst (λ z. Every Holds z) (owed-is fits) (h (setting fits finds) (body fits).clause (body fits).expression (body fits).judged (clause-of fits) (body fits).is_judged)

    pub function-fails : (refusal : FirstRefusal) → ((s : FunctionSetting table types) (clause : Node ClauseKind) (e : Node ExprKind) (j : Judged) → IsClauseOf f.clauses clause e → ClauseJudgedBy number s clause e j → ShowsFailure (owed_result s.fits number s.specs e.place (Some j) s.arrow.result) (number + 1) refusal) →
        (fits : Test) → FindsFits fits → ShowsFailure (owed_for_arrows fits number (specs_of m) f.clauses (arrows_of (specs_of m) f.name (clauses_arity f.clauses))) (number + 1) refusal
    unfolding setting
    function-fails refusal h fits finds = subst (λ z. ShowsFailure z (number + 1) refusal) (owed-is fits) (h (setting fits finds) (body fits).clause (body fits).expression (body fits).judged (clause-of fits) (body fits).is_judged)

-- each function of a flat module is in the table
pub function-found : (m : Module) (table : SpecTable) (f : Function) (n : ℕ) → IsFlatModule m → HoldsTypes (specs_of m) table → Among f (functions_of m) → n ≡ clauses_arity f.clauses → (Among (of_function f.name n) (ids table.places) → ⊥) → ⊥
function-found m table f n flat holds a same absent =
    let r : (arrow : Arrow) × (arrows_of (specs_of m) f.name (clauses_arity f.clauses) ≡ arrow ∷ []) × (clauses_arity f.clauses ≡ length arrow.params) = own-arrow m f flat a in
    holds.complete f.name n r.0 (ap (arrows_of (specs_of m) f.name) same ∙ r.1) absent
