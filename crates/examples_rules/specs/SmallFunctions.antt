-- Small functions and their specs, for the examples. Places count, and are those of the text; marks don't, and are left out. The first line is that of the module's name.
use Rattle.std.specs.Prelude.{ℕ, pos, List, [], ◌∷◌, None, codes}
use Rattle.type_terms.specs.Keys.{Name}
use Rattle.type_terms.specs.Definitions.{given_definitions}
use Rattle.type_terms.specs.declared.spec.FunSpec.{FunSpec}
use Rattle.type_terms.specs.declared.term.Term.{Ints}
use Rattle.erl_tree.specs.declared.token.Node.{Node}
use Rattle.erl_tree.specs.declared.pattern.PatternKind.{PatternKind}
use Rattle.erl_tree.specs.declared.pattern.PatternKind.TheVariants as P
use Rattle.erl_tree.specs.declared.type_expr.TypeKind.{TypeKind}
use Rattle.erl_tree.specs.declared.type_expr.TypeKind.TheVariants as Y
use Rattle.erl_tree.specs.declared.expr.ExprKind.{ExprKind}
use Rattle.erl_tree.specs.declared.expr.ExprKind.TheVariants as X
use Rattle.erl_tree.specs.declared.expr.ItemKind.TheVariants as I
use Rattle.erl_tree.specs.declared.form.TreeForm.{TreeForm}
use Rattle.erl_tree.specs.declared.form.TreeForm.TheVariants as F
use Rattle.erl_tree.specs.declared.form.Module.{Module}
use Rattle.erl_grammar.specs.Grammar.{clause_of}
use Rattle.typespecs_rules.specs.declared.specs.Specs.{Specs}
use Rattle.typespecs_rules.specs.SmallTypes.{used}
use Rattle.typespecs_rules.specs.SmallModules.{in_line, at, integers, spec_form, clause, module_of}

-- `-spec f() -> T.` with the type at column 14
abbrev pub spec_of_f : ℕ → TypeKind → TreeForm
spec_of_f line result = spec_form line (clause line 8 [] (at line 14 result) [] ∷ [])

-- `-spec f() -> integer().`
abbrev pub integer_spec : ℕ → TreeForm
integer_spec line = spec_of_f line (used (codes "integer") [])

-- `name(P, ..) -> E.` with its one expression at a column
abbrev pub function_form : ℕ → Name → List (Node PatternKind) → ℕ → ExprKind → TreeForm
function_form line name patterns column e = F.Function (record { name = name; place = in_line line 1; marks = []; clauses = at line 1 (clause_of patterns None (at line column (I.Value (at line column e)) ∷ [])) ∷ [] })

-- `f() -> 1.`
abbrev pub one_function : ℕ → TreeForm
one_function line = function_form line (codes "f") [] 8 (X.Int (pos 1))

-- `-spec f() -> integer().` `f() -> 1.`
abbrev pub with_its_spec : Module
with_its_spec = module_of (integer_spec 2 ∷ one_function 3 ∷ [])

-- what it is
abbrev pub integer_function : FunSpec
integer_function = record { name = codes "f"; arity = 0; vars = 0; clauses = record { params = []; result = Ints None None } ∷ [] }

abbrev pub its_specs : Specs
its_specs = record { defs = given_definitions; types = []; functions = integer_function ∷ []; records = [] }

-- `-spec f(integer()) -> integer().` `f(X) -> X.`
abbrev pub identity : Module
identity = module_of (spec_form 2 (clause 2 8 (integers 2 9 ∷ []) (integers 2 23) [] ∷ []) ∷ function_form 3 (codes "f") (at 3 3 (P.Var (codes "X")) ∷ []) 9 (X.Var (codes "X")) ∷ [])

-- what it is
abbrev pub identity_function : FunSpec
identity_function = record { name = codes "f"; arity = 1; vars = 0; clauses = record { params = Ints None None ∷ []; result = Ints None None } ∷ [] }

-- `f() -> 1.`
abbrev pub without_a_spec : Module
without_a_spec = module_of (one_function 2 ∷ [])

-- what it is
abbrev pub no_specs : Specs
no_specs = record { defs = given_definitions; types = []; functions = []; records = [] }

-- `-spec f() -> foo().` `f() -> 1.`
abbrev pub of_an_unknown_type : Module
of_an_unknown_type = module_of (spec_of_f 2 (used (codes "foo") []) ∷ one_function 3 ∷ [])

-- `-spec f() -> [integer()].` `f() -> 1.`
abbrev pub of_lists : Module
of_lists = module_of (spec_of_f 2 (Y.ListOf (integers 2 15)) ∷ one_function 3 ∷ [])

-- `-spec f() -> integer().` `-spec f() -> integer().` `f() -> 1.`
abbrev pub specified_twice : Module
specified_twice = module_of (integer_spec 2 ∷ integer_spec 3 ∷ one_function 4 ∷ [])

-- `-spec f() -> integer().`
abbrev pub spec_alone : Module
spec_alone = module_of (integer_spec 2 ∷ [])

-- `-spec f() -> integer().` `f() -> 1.` `f() -> 1.`
abbrev pub defined_twice : Module
defined_twice = module_of (integer_spec 2 ∷ one_function 3 ∷ one_function 4 ∷ [])

-- `-spec length(integer()) -> integer().` `length(X) -> 1.`
abbrev pub built_in : Module
built_in = module_of (F.Spec (at 2 1 (record { name = codes "length"; clauses = clause 2 13 (integers 2 14 ∷ []) (integers 2 28) [] ∷ [] })) ∷ function_form 3 (codes "length") (at 3 8 (P.Var (codes "X")) ∷ []) 14 (X.Int (pos 1)) ∷ [])

-- `-spec f() -> integer().` `f() -> X.`
abbrev pub unbound : Module
unbound = module_of (integer_spec 2 ∷ function_form 3 (codes "f") [] 8 (X.Var (codes "X")) ∷ [])
