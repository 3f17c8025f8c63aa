-- The specs of a flat module as type terms (Erlang Reference Manual, "Types and Function Specifications"): integers, plain atoms, ranges, `integer()`, `atom()`, parentheses and unions. Other type expressions have no term here.
use Rattle.std.specs.Prelude.{◌≡◌, ℕ, ℤ, neg_ℤ, List, [], ◌∷◌, map, length, Option, Some, None, if◌then◌else◌, codes}
use Rattle.std.specs.Option.{unwrap_or}
use Rattle.std.specs.Str.{bytes_eq}
use Rattle.type_terms.specs.Keys.{Name}
use Rattle.type_terms.specs.declared.term.Term.{Term, Ints, AtomLit, AnyAtom, Or}
use Rattle.type_terms.specs.declared.spec.Arrow.{Arrow}
use Rattle.type_terms.specs.declared.spec.FunSpec.{FunSpec}
use Rattle.type_terms.specs.Definitions.{given_definitions}
use Rattle.erl_tree.specs.Lists.{AreDistinct}
use Rattle.erl_tree.specs.declared.token.Node.{Node}
use Rattle.erl_tree.specs.declared.pattern.LiteralKind.{LiteralKind}
use Rattle.erl_tree.specs.declared.pattern.LiteralKind.TheVariants as L
use Rattle.erl_tree.specs.declared.type_expr.TypeKind.{TypeKind, fold-TypeKind}
use Rattle.erl_tree.specs.declared.type_expr.TypeKind.TheOpen as Y
use Rattle.erl_tree.specs.declared.form.SpecKind.{SpecKind}
use Rattle.erl_tree.specs.declared.form.SpecClauseKind.{SpecClauseKind}
use Rattle.erl_tree.specs.declared.form.Module.{Module}
use Rattle.erl_runs.specs.Specs.{and_then, all_present, one_integer, range, specs_in, spec_id}
use Rattle.typespecs_rules.specs.declared.specs.Specs.{Specs}

-- ---- types

-- the integer that a literal stands for
abbrev pub end_of : LiteralKind → Option ℤ
end_of (L.Int n) = Some n
end_of (L.NegInt n) = Some (neg_ℤ n)
end_of _ = None

-- the term of a built-in type without arguments
abbrev pub built_in_type : Name → Option Term
built_in_type name =
    if bytes_eq name (codes "integer") then Some (Ints None None) else
    if bytes_eq name (codes "atom") then Some AnyAtom else None

-- the term of one level of a type expression, whose parts have these terms
abbrev pub type_term_layer : Y.TypeKind-F (Option Term) (Unit {0}) → Option Term
type_term_layer (Y.Atom a) = Some (AtomLit a)
type_term_layer (Y.Int n) = Some (one_integer n)
type_term_layer (Y.NegInt n) = Some (one_integer (neg_ℤ n))
type_term_layer (Y.Paren t) = t.kind
type_term_layer (Y.Or t u) = and_then t.kind (λ a. and_then u.kind (λ b. Some (Or (a ∷ b ∷ []))))
type_term_layer (Y.Range low high) = and_then (end_of low.kind) (λ l. and_then (end_of high.kind) (λ h. range l h))
type_term_layer (Y.Use None name []) = built_in_type name
type_term_layer _ = None

-- the term of what stands in a type's node
unfoldable pub type_kind_term : TypeKind → Option Term
type_kind_term t = fold-TypeKind (Option Term) (Unit {0}) type_term_layer (λ part. tt) t

-- the term of a type expression
abbrev pub type_term : Node TypeKind → Option Term
type_term t = type_kind_term t.kind

-- ---- specs

-- the arrow of a spec's clause
abbrev pub clause_arrow : Node SpecClauseKind → Option Arrow
clause_arrow c = and_then (all_present (map type_term c.kind.params)) (λ params. and_then (type_term c.kind.result) (λ result. Some (record { params = params; result = result })))

-- the number of parameters of the first clause
abbrev pub arrows_arity : List Arrow → ℕ
arrows_arity [] = 0
arrows_arity (a ∷ more) = length a.params

-- a spec, without type variables
abbrev pub function_spec : Node SpecKind → Option FunSpec
function_spec s = and_then (all_present (map clause_arrow s.kind.clauses)) (λ arrows. Some (record { name = s.kind.name; arity = arrows_arity arrows; vars = 0; clauses = arrows }))

-- the specs of a module in text order, where each of them has terms
abbrev pub read_specs : Module → Option (List FunSpec)
read_specs m = all_present (map function_spec (specs_in m.forms))

-- the specs of a module, where each of them has terms, and no specs where one has none
unfoldable pub specs_of : Module → List FunSpec
specs_of m = unwrap_or (read_specs m) []

-- each spec of a module has terms here, and no function has two specs
pub record HasFlatSpecs (m : Module) : Type 0 where
  pub specs_read : read_specs m ≡ Some (specs_of m)
  pub specs_distinct : AreDistinct (map spec_id (specs_of m))

-- all that the types, records and specs of a flat module are: it declares no types and records, and so has the definitions that are given
abbrev pub module_specs_of : Module → Specs
module_specs_of m = record { defs = given_definitions; types = []; functions = specs_of m; records = [] }
