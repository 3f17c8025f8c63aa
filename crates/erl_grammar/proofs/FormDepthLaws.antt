-- Every well-formed module stays within some number of levels.
use Rattle.std.proofs.Common.{List, ◌∷◌}
use Rattle.std.specs.Prelude.{Option}
use Rattle.type_terms.specs.Keys.{Name}
use Rattle.erl_tree.specs.declared.token.Place.{Place}
use Rattle.erl_tree.specs.declared.token.Node.{Node}
use Rattle.erl_tree.specs.declared.expr.ExprKind.{ExprKind}
use Rattle.erl_tree.specs.declared.expr.ClauseKind.{ClauseKind}
use Rattle.erl_tree.specs.declared.type_expr.TypeKind.{TypeKind}
use Rattle.erl_tree.specs.declared.form.RecFieldKind.{RecFieldKind}
use Rattle.erl_tree.specs.declared.form.SpecClauseKind.{SpecClauseKind}
use Rattle.erl_tree.specs.declared.form.TreeForm.{TreeForm}
use Rattle.erl_tree.specs.declared.form.Module.{Module}
use Rattle.erl_grammar.specs.Nesting.{deep_all, deep_optional, pattern_deep, expr_deep, item_deep, clause_deep}
use Rattle.erl_grammar.specs.TypeNesting.{type_deep}
use Rattle.erl_grammar.specs.FormNesting.{record_field_deep, bound_deep, spec_clause_deep, form_deep, module_deep}
use Rattle.erl_grammar.specs.FormGrammar.{IsDefault, IsDeclaredType, IsRecordField, AreBounds, IsSpecClause, IsFunctionClause, IsForm, IsModule}
use Rattle.erl_grammar.specs.FormGrammar as G
use Rattle.erl_grammar.proofs.NestingLaws.{clause_kind_deep-clause_of}
use Rattle.erl_grammar.proofs.DepthLaws.{Bounded, bounded_as, bounded_none, bounded_both, bounded_all, pattern_bounded, expr_bounded, when_bounded, item_bounded}
use Rattle.erl_grammar.proofs.TypeDepthLaws.{type_bounded, parameter_bounded}

default_bounded : {e : Option (Node ExprKind)} {ms : List Place} → IsDefault e ms → Bounded (deep_optional expr_deep e)
default_bounded G.no_default = bounded_none
default_bounded (G.default m e h) = expr_bounded h

annotation_bounded : {t : Option (Node TypeKind)} {ms : List Place} → IsDeclaredType t ms → Bounded (deep_optional type_deep t)
annotation_bounded G.no_declared_type = bounded_none
annotation_bounded (G.annotation m t h) = type_bounded h

record_field_bounded : {f : Node RecFieldKind} → IsRecordField f → Bounded (record_field_deep f)
record_field_bounded (G.record_field p ds ts name e t h k) = bounded_both (default_bounded h) (annotation_bounded k)

bounds_bounded : {bs : List (Name × Node TypeKind)} {ms : List Place} → AreBounds bs ms → Bounded (deep_all bound_deep bs)
bounds_bounded G.no_bounds = bounded_none
bounds_bounded (G.bounds w ms bs g h) = bounded_all bound_deep bs (λ b i. type_bounded (h b i))

spec_clause_bounded : {c : Node SpecClauseKind} → IsSpecClause c → Bounded (spec_clause_deep c)
spec_clause_bounded (G.spec_clause o c a ms bs params result bounds i g h k l) = bounded_both (bounded_all type_deep params (λ t n. parameter_bounded (h t n))) (bounded_both (type_bounded k) (bounds_bounded l))

function_clause_bounded : {c : Node ClauseKind} → IsFunctionClause c → Bounded (clause_deep c)
function_clause_bounded (G.function_clause n o c a ps w ns ws ms i is r g h k l q) = bounded_as (clause_kind_deep-clause_of ps w (i ∷ is)) (bounded_both (bounded_all pattern_deep ps (λ p n. pattern_bounded (h p n))) (bounded_both (when_bounded k) (bounded_all item_deep (i ∷ is) (λ j n. item_bounded (q j n)))))

form_bounded : {f : TreeForm} → IsForm f → Bounded (form_deep f)
form_bounded (G.export_form e h) = bounded_none
form_bounded (G.record_form r (G.record_definition h w o n c b d e p ms name fields g k)) = bounded_all record_field_deep fields (λ f i. record_field_bounded (k f i))
form_bounded (G.type_form d (G.type_definition h w n o c m p ms opaque name params body g k)) = type_bounded k
form_bounded (G.spec_form s (G.spec h w n p ms name c cs g k)) = bounded_all spec_clause_deep (c ∷ cs) (λ d i. spec_clause_bounded (k d i))
form_bounded (G.skipped_form s h) = bounded_none
form_bounded (G.function_form f (G.function name p ms c cs g k)) = bounded_all clause_deep (c ∷ cs) (λ d i. function_clause_bounded (k d i))

pub module_bounded : {m : Module} → IsModule m → Bounded (module_deep m)
module_bounded (G.module_of h w o n c d e name forms k) = bounded_all form_deep forms (λ f i. form_bounded (k f i))
