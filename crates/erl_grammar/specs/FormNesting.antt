-- How deep forms and modules are nested: each outermost type, pattern and expression of a form stands at level 1.
use Rattle.std.specs.Prelude.{◌≡◌, ℕ, [], ◌++◌}
use Rattle.type_terms.specs.Keys.{Name}
use Rattle.erl_tree.specs.declared.token.Node.{Node}
use Rattle.erl_tree.specs.declared.type_expr.TypeKind.{TypeKind}
use Rattle.erl_tree.specs.declared.form.RecFieldKind.{RecFieldKind}
use Rattle.erl_tree.specs.declared.form.SpecClauseKind.{SpecClauseKind}
use Rattle.erl_tree.specs.declared.form.TreeForm.{TreeForm}
use Rattle.erl_tree.specs.declared.form.TreeForm.TheVariants as F
use Rattle.erl_tree.specs.declared.form.Module.{Module}
use Rattle.erl_grammar.specs.Nesting.{Deep, deep_all, deep_optional, expr_deep, clause_deep}
use Rattle.erl_grammar.specs.TypeNesting.{type_deep}

-- a field of a record
abbrev pub record_field_deep : Node RecFieldKind → Deep
record_field_deep f levels = deep_optional expr_deep f.kind.default levels ++ deep_optional type_deep f.kind.ty levels

-- a bound
abbrev pub bound_deep : Name × Node TypeKind → Deep
bound_deep b levels = type_deep b.1 levels

-- a clause of a spec
abbrev pub spec_clause_deep : Node SpecClauseKind → Deep
spec_clause_deep c levels = deep_all type_deep c.kind.params levels ++ (type_deep c.kind.result levels ++ deep_all bound_deep c.kind.bounds levels)

-- the places of a form's nodes that are nested deeper than so many levels
abbrev pub form_deep : TreeForm → Deep
form_deep (F.RecDef r) levels = deep_all record_field_deep r.kind.fields levels
form_deep (F.TypeDef d) levels = type_deep d.kind.body levels
form_deep (F.Spec s) levels = deep_all spec_clause_deep s.kind.clauses levels
form_deep (F.Function f) levels = deep_all clause_deep f.clauses levels
form_deep _ levels = []

-- of a module
abbrev pub module_deep : Module → Deep
module_deep m levels = deep_all form_deep m.forms levels

-- a module nested at most so many levels deep
abbrev pub IsModuleWithin : ℕ → Module → Type 0
IsModuleWithin levels m = module_deep m levels ≡ []
