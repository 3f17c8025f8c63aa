-- Small modules of types, records and specs, for the examples. Places count, and are those of the text; marks don't, but for the names of types, and are left out. The first line is that of the module's name.
use Rattle.std.specs.Prelude.{ℕ, pos, List, [], ◌∷◌, ◌++◌, Option, Some, None, false, codes}
use Rattle.type_terms.specs.Keys.{Name}
use Rattle.erl_tree.specs.declared.token.Place.{Place}
use Rattle.erl_tree.specs.declared.token.Node.{Node}
use Rattle.erl_tree.specs.declared.expr.UnaryOp.TheVariants.{Plus}
use Rattle.erl_tree.specs.declared.expr.ExprKind.{ExprKind}
use Rattle.erl_tree.specs.declared.expr.ExprKind.TheVariants as X
use Rattle.erl_tree.specs.declared.type_expr.TypeKind.{TypeKind}
use Rattle.erl_tree.specs.declared.type_expr.TypeKind.TheVariants as Y
use Rattle.erl_tree.specs.declared.form.RecFieldKind.{RecFieldKind}
use Rattle.erl_tree.specs.declared.form.SpecClauseKind.{SpecClauseKind}
use Rattle.erl_tree.specs.declared.form.TreeForm.{TreeForm}
use Rattle.erl_tree.specs.declared.form.TreeForm.TheVariants as F
use Rattle.erl_tree.specs.declared.form.Module.{Module}
use Rattle.erl_grammar.specs.Grammar.{node}
use Rattle.type_terms.specs.declared.spec.FunSpec.{FunSpec}
use Rattle.erl_runs.specs.Specs.{specs_in}
use Rattle.typespecs_rules.specs.Declarations.{declarations_of}
use Rattle.typespecs_rules.specs.declared.specs.Specs.{Specs}
use Rattle.typespecs_rules.specs.SpecTerms.{function_specs}
use Rattle.type_terms.specs.Definitions.{given_definitions}
use Rattle.type_terms.specs.declared.spec.Arrow.{Arrow}
use Rattle.type_terms.specs.declared.term.Def.{Def}
use Rattle.type_terms.specs.declared.term.Term.{Ints, AtomLit, Or, Not, Var, Name as NameTerm}
use Rattle.typespecs_rules.specs.RegularUse.{Declaration}
use Rattle.typespecs_rules.specs.Bounds.{Bound}
use Rattle.typespecs_rules.specs.declared.fault.PlacedFault.{PlacedFault}
use Rattle.typespecs_rules.specs.declared.fault.TypeFault.{TypeFault}
use Rattle.typespecs_rules.specs.TypeFaults.{fault_at}
use Rattle.typespecs_rules.specs.SmallTypes.{used}

-- ---- parts

abbrev pub module_of : List TreeForm → Module
module_of forms = record { name = codes "m"; marks = []; forms = forms }

-- a place and a node in a line
abbrev pub in_line : ℕ → ℕ → Place
in_line line column = record { line = line; column = column }

abbrev pub at : {K : Type 0} → ℕ → ℕ → K → Node K
at line column kind = node (in_line line column) [] kind

-- a fault in a line
abbrev pub fault : TypeFault → ℕ → ℕ → PlacedFault
fault what line column = fault_at what (in_line line column)

abbrev pub atom_a : ℕ → ℕ → Node TypeKind
atom_a line column = at line column (Y.Atom (codes "a"))

abbrev pub variable : Name → ℕ → ℕ → Node TypeKind
variable x line column = at line column (Y.Var x)

abbrev pub integers : ℕ → ℕ → Node TypeKind
integers line column = at line column (used (codes "integer") [])

-- `-type name(X, ..) :: T.`
abbrev pub type_form : ℕ → Name → List Name → Node TypeKind → TreeForm
type_form line name params body = F.TypeDef (node (in_line line 1) (in_line line 1 ∷ in_line line 2 ∷ in_line line 7 ∷ []) (record { opaque = false; name = name; params = params; body = body }))

-- `-record(r, {field, ..}).`
abbrev pub record_form : ℕ → List (Node RecFieldKind) → TreeForm
record_form line fields = F.RecDef (at line 1 (record { name = codes "r"; tag = codes "r"; fields = fields }))

abbrev pub field : ℕ → ℕ → Name → Option (Node ExprKind) → Option (Node TypeKind) → Node RecFieldKind
field line column name default ty = at line column (record { name = name; default = default; ty = ty })

-- `-spec f clause; ...`, and a clause at its opening parenthesis
abbrev pub spec_form : ℕ → List (Node SpecClauseKind) → TreeForm
spec_form line clauses = F.Spec (at line 1 (record { name = codes "f"; clauses = clauses }))

abbrev pub clause : ℕ → ℕ → List (Node TypeKind) → Node TypeKind → List Bound → Node SpecClauseKind
clause line column params result bounds = at line column (record { params = params; result = result; bounds = bounds })

abbrev pub letter_a : Name
letter_a = codes "A"

abbrev pub letter_b : Name
letter_b = codes "B"

abbrev pub name_r : Name
name_r = codes "r"

abbrev pub name_t : Name
name_t = codes "t"

-- a type `r` with a field in its place: `#r{name::T}`
abbrev pub with_field_at : ℕ → ℕ → Name → Node TypeKind → TypeKind
with_field_at line column name t = Y.Rec name_r name_r (at line column (name, t) ∷ [])

-- ---- declarations

-- `-type t() :: a.` `-type t(A) :: [A].` `-type u() :: #r{f::a}.` `-type v() :: #r{}.` `-record(r, {f, g :: t(a)}).`
abbrev pub types_and_a_record : Module
types_and_a_record = module_of (type_form 2 name_t [] (atom_a 2 14) ∷ type_form 3 name_t (letter_a ∷ []) (at 3 15 (Y.ListOf (variable letter_a 3 16)))
    ∷ type_form 4 (codes "u") [] (at 4 14 (with_field_at 4 17 (codes "f") (atom_a 4 20))) ∷ type_form 5 (codes "v") [] (at 5 14 (Y.Rec name_r name_r []))
    ∷ record_form 6 (field 6 13 (codes "f") None None ∷ field 6 16 (codes "g") None (Some (at 6 21 (used name_t (atom_a 6 23 ∷ [])))) ∷ []) ∷ [])

-- `-type t(A, A) :: A.`
abbrev pub parameter_twice : Module
parameter_twice = module_of (type_form 2 name_t (letter_a ∷ letter_a ∷ []) (variable letter_a 2 18) ∷ [])

-- `-type t() :: foo().`
abbrev pub unknown_type : Module
unknown_type = module_of (type_form 2 name_t [] (at 2 14 (used (codes "foo") [])) ∷ [])

-- `-type t() :: A.`
abbrev pub no_parameter : Module
no_parameter = module_of (type_form 2 name_t [] (variable letter_a 2 14) ∷ [])

-- `-record(r, {f :: A}).`
abbrev pub variable_in_a_record : Module
variable_in_a_record = module_of (record_form 2 (field 2 13 (codes "f") None (Some (variable letter_a 2 18)) ∷ []) ∷ [])

-- `-record(r, {f}).` `-type t() :: #r{g::a}.`
abbrev pub no_such_field : Module
no_such_field = module_of (record_form 2 (field 2 13 (codes "f") None None ∷ []) ∷ type_form 3 name_t [] (at 3 14 (with_field_at 3 17 (codes "g") (atom_a 3 20))) ∷ [])

-- `-type t() :: a.` `-type t() :: a.`
abbrev pub type_twice : Module
type_twice = module_of (type_form 2 name_t [] (atom_a 2 14) ∷ type_form 3 name_t [] (atom_a 3 14) ∷ [])

-- `-type pid(A) :: a.`
abbrev pub reserved_name : Module
reserved_name = module_of (type_form 2 (codes "pid") (letter_a ∷ []) (atom_a 2 17) ∷ [])

-- `-record(r, {f, f}).` `-record(r, {}).`
abbrev pub record_twice : Module
record_twice = module_of (record_form 2 (field 2 13 (codes "f") None None ∷ field 2 16 (codes "f") None None ∷ []) ∷ record_form 3 [] ∷ [])

-- `-record(r, {f = +1}).`
abbrev pub wrong_default : Module
wrong_default = module_of (record_form 2 (field 2 13 (codes "f") (Some (at 2 17 (X.Unary Plus (at 2 18 (X.Int (pos 1)))))) None ∷ []) ∷ [])

-- `-record(r, {f = {a, 1}}).`
abbrev pub right_tuple : ExprKind
right_tuple = X.Tuple (at 2 18 (X.Atom (codes "a")) ∷ at 2 21 (X.Int (pos 1)) ∷ [])

abbrev pub right_default : Module
right_default = module_of (record_form 2 (field 2 13 (codes "f") (Some (at 2 17 right_tuple)) None ∷ []) ∷ [])

-- ---- specs

-- `-spec f(X) -> Y when X :: integer(), Y :: integer().`
abbrev pub bounds_once : List Bound
bounds_once = (codes "X", integers 2 27) ∷ (codes "Y", integers 2 43) ∷ []

abbrev pub bounded_once : Module
bounded_once = module_of (spec_form 2 (clause 2 8 (variable (codes "X") 2 9 ∷ []) (variable (codes "Y") 2 15) bounds_once ∷ []) ∷ [])

-- what it is
abbrev pub once_specs : Specs
once_specs = record { defs = given_definitions; types = []; functions = record { name = codes "f"; arity = 1; vars = 0; clauses = record { params = Ints None None ∷ []; result = Ints None None } ∷ [] } ∷ []; records = [] }

-- `-spec f(A) -> A when A :: [B].`
abbrev pub bounded_twice : Module
bounded_twice = module_of (spec_form 2 (clause 2 8 (variable letter_a 2 9 ∷ []) (variable letter_a 2 15) ((letter_a, at 2 27 (Y.ListOf (variable letter_b 2 28))) ∷ []) ∷ []) ∷ [])

-- `-spec f(A) -> B when A :: [B].`
abbrev pub bound_with_a_variable : Module
bound_with_a_variable = module_of (spec_form 2 (clause 2 8 (variable letter_a 2 9 ∷ []) (variable letter_b 2 15) ((letter_a, at 2 27 (Y.ListOf (variable letter_b 2 28))) ∷ []) ∷ []) ∷ [])

-- `-spec f(A) -> a when A :: B, B :: [C].`
abbrev pub bounds_in_a_row : Module
bounds_in_a_row = module_of (spec_form 2 (clause 2 8 (variable letter_a 2 9 ∷ []) (atom_a 2 15) ((letter_a, variable letter_b 2 27) ∷ (letter_b, at 2 35 (Y.ListOf (variable (codes "C") 2 36))) ∷ []) ∷ []) ∷ [])

-- `-spec f(_) -> a when A :: [B].`
abbrev pub unused_bound : Module
unused_bound = module_of (spec_form 2 (clause 2 8 (variable (codes "_") 2 9 ∷ []) (atom_a 2 15) ((letter_a, at 2 27 (Y.ListOf (variable letter_b 2 28))) ∷ []) ∷ []) ∷ [])

-- `-spec f(A) -> B; (A) -> A.`
abbrev pub two_clauses : Module
two_clauses = module_of (spec_form 2 (clause 2 8 (variable letter_a 2 9 ∷ []) (variable letter_b 2 15) [] ∷ clause 2 18 (variable letter_a 2 19 ∷ []) (variable letter_a 2 25) [] ∷ []) ∷ [])

-- `-spec f(a) -> a; () -> a.` `-spec f(a) -> a.`
abbrev pub clauses_and_specs_differ : Module
clauses_and_specs_differ = module_of (spec_form 2 (clause 2 8 (atom_a 2 9 ∷ []) (atom_a 2 15) [] ∷ clause 2 18 [] (atom_a 2 24) [] ∷ []) ∷ spec_form 3 (clause 3 8 (atom_a 3 9 ∷ []) (atom_a 3 15) [] ∷ []) ∷ [])

-- `-spec f(A) -> a when A :: integer(), A :: integer().`
abbrev pub two_bounds : Module
two_bounds = module_of (spec_form 2 (clause 2 8 (variable letter_a 2 9 ∷ []) (atom_a 2 15) ((letter_a, integers 2 27) ∷ (letter_a, integers 2 43) ∷ []) ∷ []) ∷ [])

-- `-spec f(A) -> a when A :: [A].`
abbrev pub own_bound : Bound
own_bound = (letter_a, at 2 27 (Y.ListOf (variable letter_a 2 28)))

abbrev pub clause_with_own_bound : Node SpecClauseKind
clause_with_own_bound = clause 2 8 (variable letter_a 2 9 ∷ []) (atom_a 2 15) (own_bound ∷ [])

abbrev pub bound_on_itself : Module
bound_on_itself = module_of (spec_form 2 (clause_with_own_bound ∷ []) ∷ [])

-- `-spec f(ety:negation(A)) -> a.`
abbrev pub negating_clause : Node SpecClauseKind
negating_clause = clause 2 8 (at 2 9 (Y.Use (Some (codes "ety")) (codes "negation") (variable letter_a 2 22 ∷ [])) ∷ []) (atom_a 2 29) []

abbrev pub negated_variable : Module
negated_variable = module_of (spec_form 2 (negating_clause ∷ []) ∷ [])

-- what it is
abbrev pub negating_arrow : Arrow
negating_arrow = record { params = Not (Var 0) ∷ []; result = AtomLit (codes "a") }

abbrev pub negating_specs : Specs
negating_specs = record { defs = given_definitions; types = []; functions = record { name = codes "f"; arity = 1; vars = 1; clauses = negating_arrow ∷ [] } ∷ []; records = [] }

-- ---- uses

-- `-type t(A) :: {t(a)}.`
abbrev pub irregular_use : Node TypeKind
irregular_use = at 2 16 (used name_t (atom_a 2 18 ∷ []))

abbrev pub irregular_body : Node TypeKind
irregular_body = at 2 15 (Y.Tuple (irregular_use ∷ []))

abbrev pub irregular_declaration : Declaration
irregular_declaration = record { params = letter_a ∷ []; types = irregular_body ∷ [] }

abbrev pub not_regular : Module
not_regular = module_of (type_form 2 name_t (letter_a ∷ []) irregular_body ∷ [])

-- `-type t(A) :: {t(A)}.`
abbrev pub regular_use : Node TypeKind
regular_use = at 2 16 (used name_t (variable letter_a 2 18 ∷ []))

abbrev pub regular_body : Node TypeKind
regular_body = at 2 15 (Y.Tuple (regular_use ∷ []))

abbrev pub regular_declaration : Declaration
regular_declaration = record { params = letter_a ∷ []; types = regular_body ∷ [] }

abbrev pub regular : Module
regular = module_of (type_form 2 name_t (letter_a ∷ []) regular_body ∷ [])

-- `-record(r, {f, g :: #r{f::a}}).`
abbrev pub record_in_itself : Node TypeKind
record_in_itself = at 2 21 (with_field_at 2 24 (codes "f") (atom_a 2 27))

abbrev pub infinite_declaration : Declaration
infinite_declaration = record { params = []; types = record_in_itself ∷ [] }

abbrev pub infinite_record : Module
infinite_record = module_of (record_form 2 (field 2 13 (codes "f") None None ∷ field 2 16 (codes "g") None (Some record_in_itself) ∷ []) ∷ [])

-- `-type t() :: t() | a.`
abbrev pub own_use : Node TypeKind
own_use = at 2 14 (used name_t [])

abbrev pub own_union : Node TypeKind
own_union = at 2 14 (Y.Or own_use (atom_a 2 20))

abbrev pub own_declaration : Declaration
own_declaration = record { params = []; types = own_union ∷ [] }

abbrev pub own_alternative : Module
own_alternative = module_of (type_form 2 name_t [] own_union ∷ [])

-- what it is
abbrev pub own_definition : Def
own_definition = record { params = 0; body = Or (NameTerm 2 [] ∷ AtomLit (codes "a") ∷ []) }

abbrev pub own_specs : Specs
own_specs = record { defs = given_definitions ++ own_definition ∷ []; types = record { name = name_t; params = 0 } ∷ []; functions = []; records = [] }

-- the specs of a small module
abbrev pub function_specs_of : Module → Option (List FunSpec)
function_specs_of m = function_specs (declarations_of m) (specs_in m.forms)
