-- The tokens of forms and modules, as functions of their trees (Erlang Reference Manual, "Modules", "Records", "Types and Function Specifications" and "Functions").
use Rattle.std.specs.Prelude.{ℕ, ℤ, List, [], ◌∷◌, ◌++◌, map, Option, Some, None, Bool, true, false, codes}
use Rattle.erl_tree.specs.declared.token.Place.{Place}
use Rattle.erl_tree.specs.declared.token.Placed.{Placed}
use Rattle.erl_tree.specs.declared.token.Node.{Node}
use Rattle.erl_tree.specs.declared.token.Token.TheVariants as T
use Rattle.erl_tree.specs.declared.expr.ExprKind.{ExprKind}
use Rattle.erl_tree.specs.declared.expr.ClauseKind.{ClauseKind}
use Rattle.erl_tree.specs.declared.type_expr.TypeKind.{TypeKind}
use Rattle.erl_tree.specs.declared.form.ExportKind.{ExportKind}
use Rattle.erl_tree.specs.declared.form.RecDefKind.{RecDefKind}
use Rattle.erl_tree.specs.declared.form.RecFieldKind.{RecFieldKind}
use Rattle.erl_tree.specs.declared.form.TypeDefKind.{TypeDefKind}
use Rattle.erl_tree.specs.declared.form.SpecKind.{SpecKind}
use Rattle.erl_tree.specs.declared.form.SpecClauseKind.{SpecClauseKind}
use Rattle.erl_tree.specs.declared.form.SkippedKind.{SkippedKind}
use Rattle.erl_tree.specs.declared.form.Function.{Function}
use Rattle.erl_tree.specs.declared.form.TreeForm.{TreeForm}
use Rattle.erl_tree.specs.declared.form.TreeForm.TheVariants as F
use Rattle.erl_tree.specs.declared.form.Module.{Module}
use Rattle.erl_grammar.specs.Pieces.{Piece, own, inner, fill, mark, word, name, between, commas, semicolons}
use Rattle.erl_grammar.specs.Spelling.{expr_tokens, argument_pieces, parameters_pieces, clause_parts}
use Rattle.erl_grammar.specs.TypeSpelling.{type_tokens}

-- an attribute: `-name .. .`
abbrev pub attribute_pieces : List ℕ → List Piece → List Piece
attribute_pieces attribute pieces = mark (codes "-") ∷ name attribute ∷ (pieces ++ own T.Dot ∷ [])

-- ---- exports

-- `f/1`
abbrev pub arity_pieces : List ℕ × ℤ → List Piece
arity_pieces f = name f.0 ∷ mark (codes "/") ∷ own (T.Int f.1) ∷ []

-- the name of an export's attribute
abbrev pub export_attribute : Bool → List ℕ
export_attribute true = codes "export_type"
export_attribute false = codes "export"

-- `-export([f/1, ..]).`, `-export_type([t/1, ..]).`
abbrev pub export_tokens : Node ExportKind → List Placed
export_tokens e = fill (attribute_pieces (export_attribute e.kind.types) (mark (codes "(") ∷ mark (codes "[") ∷ (between (T.Mark (codes ",")) (map arity_pieces e.kind.names) ++ mark (codes "]") ∷ mark (codes ")") ∷ []))) e.marks

-- ---- records

-- a default, where there is one: `= E`
abbrev pub default_pieces : Option (Node ExprKind) → List Piece
default_pieces None = []
default_pieces (Some e) = mark (codes "=") ∷ inner (expr_tokens e) ∷ []

-- a type, where there is one: `:: T`
abbrev pub declared_type_pieces : Option (Node TypeKind) → List Piece
declared_type_pieces None = []
declared_type_pieces (Some t) = mark (codes "::") ∷ inner (type_tokens t) ∷ []

-- `field = E :: T`
abbrev pub record_field_tokens : Node RecFieldKind → List Placed
record_field_tokens f = fill (name f.kind.name ∷ (default_pieces f.kind.default ++ declared_type_pieces f.kind.ty)) f.marks

-- `-record(name, {field = E :: T, ..}).`
abbrev pub record_definition_tokens : Node RecDefKind → List Placed
record_definition_tokens r = fill (attribute_pieces (codes "record") (mark (codes "(") ∷ name r.kind.name ∷ mark (codes ",") ∷ mark (codes "{") ∷ (commas (map record_field_tokens r.kind.fields) ++ mark (codes "}") ∷ mark (codes ")") ∷ []))) r.marks

-- ---- types

-- the name of a type definition's attribute
abbrev pub type_attribute : Bool → List ℕ
type_attribute true = codes "opaque"
type_attribute false = codes "type"

-- a variable
abbrev pub variable_pieces : List ℕ → List Piece
variable_pieces x = own (T.Var x) ∷ []

-- `-type name(X, ..) :: T.`, `-opaque name(X, ..) :: T.`
abbrev pub type_definition_tokens : Node TypeDefKind → List Placed
type_definition_tokens d = fill (attribute_pieces (type_attribute d.kind.opaque) (name d.kind.name ∷ mark (codes "(") ∷ (between (T.Mark (codes ",")) (map variable_pieces d.kind.params) ++ mark (codes ")") ∷ mark (codes "::") ∷ inner (type_tokens d.kind.body) ∷ []))) d.marks

-- ---- specs

-- a bound: `X :: T`
abbrev pub bound_pieces : List ℕ × Node TypeKind → List Piece
bound_pieces b = own (T.Var b.0) ∷ mark (codes "::") ∷ inner (type_tokens b.1) ∷ []

-- bounds, where there are any: `when X :: T, ..`
abbrev pub bounds_pieces : List (List ℕ × Node TypeKind) → List Piece
bounds_pieces [] = []
bounds_pieces (b ∷ bs) = word (codes "when") ∷ between (T.Mark (codes ",")) (map bound_pieces (b ∷ bs))

-- a clause of a spec: `(T, ..) -> T when X :: T, ..`
abbrev pub spec_clause_tokens : Node SpecClauseKind → List Placed
spec_clause_tokens c = fill (argument_pieces (map type_tokens c.kind.params) ++ mark (codes "->") ∷ inner (type_tokens c.kind.result) ∷ bounds_pieces c.kind.bounds) c.marks

-- `-spec name(T, ..) -> T; (T, ..) -> T.`
abbrev pub spec_tokens : Node SpecKind → List Placed
spec_tokens s = fill (attribute_pieces (codes "spec") (name s.kind.name ∷ semicolons (map spec_clause_tokens s.kind.clauses))) s.marks

-- ---- other attributes

-- `-name .. .`
abbrev pub skipped_tokens : Node SkippedKind → List Placed
skipped_tokens s = fill (attribute_pieces s.kind.name (map own s.kind.tokens)) s.marks

-- ---- functions

-- a clause of a function of this name: `name(P, ..) when G -> I, ..`
abbrev pub function_clause_tokens : List ℕ → Node ClauseKind → List Placed
function_clause_tokens function c = fill (name function ∷ parameters_pieces (clause_parts c.kind)) c.marks

-- clauses with semicolons between them, and a dot
abbrev pub function_tokens : Function → List Placed
function_tokens f = fill (semicolons (map (function_clause_tokens f.name) f.clauses) ++ own T.Dot ∷ []) f.marks

-- the tokens of a function with such marks in the place of its own
abbrev pub function_text : Function → List Place → List Placed
function_text f ms = function_tokens (record { name = f.name; place = f.place; marks = ms; clauses = f.clauses })

-- ---- modules

abbrev pub form_tokens : TreeForm → List Placed
form_tokens (F.Export e) = export_tokens e
form_tokens (F.RecDef r) = record_definition_tokens r
form_tokens (F.TypeDef d) = type_definition_tokens d
form_tokens (F.Spec s) = spec_tokens s
form_tokens (F.Skipped s) = skipped_tokens s
form_tokens (F.Function f) = function_tokens f

-- forms in turn
abbrev pub forms_tokens : List TreeForm → List Placed
forms_tokens [] = []
forms_tokens (f ∷ fs) = form_tokens f ++ forms_tokens fs

-- the tokens of a module: `-module(name).`, its forms, and the end of the text
unfoldable pub module_tokens : Module → List Placed
module_tokens m = fill (attribute_pieces (codes "module") (mark (codes "(") ∷ name m.name ∷ mark (codes ")") ∷ []) ++ inner (forms_tokens m.forms) ∷ own T.End ∷ []) m.marks

-- the tokens of a module with such marks in the place of its own
abbrev pub module_text : Module → List Place → List Placed
module_text m ms = module_tokens (record { name = m.name; marks = ms; forms = m.forms })
