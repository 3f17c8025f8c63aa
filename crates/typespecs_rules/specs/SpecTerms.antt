-- What a module's type declarations, records and specs are: definitions, and for each function its arrows (Erlang Reference Manual, "Types and Function Specifications").
use Rattle.std.specs.Prelude.{ℕ, suc, ◌+◌, List, [], ◌∷◌, ◌++◌, map, length, Option, Some, None as Nothing, Bool, false, cond, nat_eq, ◌||◌}
use Rattle.std.specs.Option.{option_map}
use Rattle.std.specs.List.{list_any}
use Rattle.type_terms.specs.Keys.{Name}
use Rattle.type_terms.specs.Definitions.{given_definitions}
use Rattle.type_terms.specs.declared.term.Def.{Def}
use Rattle.type_terms.specs.declared.term.Term.{Term, fold-Term}
use Rattle.type_terms.specs.declared.term.Term.TheOpen.{Term-F, Cons, Tuple, Map, Fun, Or, And, Not, Var, Name as NameTerm}
use Rattle.type_terms.specs.declared.spec.Arrow.{Arrow}
use Rattle.type_terms.specs.declared.spec.FunSpec.{FunSpec}
use Rattle.erl_tree.specs.declared.token.Node.{Node}
use Rattle.erl_tree.specs.declared.type_expr.TypeKind.{TypeKind}
use Rattle.erl_tree.specs.declared.form.TypeDefKind.{TypeDefKind}
use Rattle.erl_tree.specs.declared.form.RecDefKind.{RecDefKind}
use Rattle.erl_tree.specs.declared.form.RecFieldKind.{RecFieldKind}
use Rattle.erl_tree.specs.declared.form.SpecKind.{SpecKind}
use Rattle.erl_tree.specs.declared.form.SpecClauseKind.{SpecClauseKind}
use Rattle.erl_tree.specs.declared.form.Module.{Module}
use Rattle.erl_tree.specs.Functions.{spec_clauses_arity}
use Rattle.erl_runs.specs.Records.{fields_of}
use Rattle.erl_runs.specs.Specs.{and_then, all_present, specs_in}
use Rattle.typespecs_rules.specs.declared.specs.TypeName.{TypeName}
use Rattle.typespecs_rules.specs.declared.specs.RecordSpec.{RecordSpec}
use Rattle.typespecs_rules.specs.declared.specs.Specs.{Specs}
use Rattle.typespecs_rules.specs.Declarations.{Declarations, declarations_of}
use Rattle.typespecs_rules.specs.TypeTerms.{type_term, record_tuple, tuple_term}
use Rattle.typespecs_rules.specs.TypeVariables.{parameters, numbered_from, and_variables_of, clause_variables}
use Rattle.typespecs_rules.specs.Bounds.{stands_for}

-- ---- definitions

-- a type declaration, over its parameters
abbrev pub type_definition : Declarations → TypeDefKind → Option Def
type_definition declared d = option_map (λ body. record { params = length d.params; body = body }) (type_term declared (parameters d.params) d.body)

-- a record, whose definition has no parameters
abbrev pub record_definition : Declarations → RecDefKind → Option Def
record_definition declared r = option_map (λ tuple. record { params = 0; body = tuple_term tuple }) (record_tuple declared r.name)

-- the definitions of a module, by their numbers: those that are given, the types, the records
abbrev pub definitions : Declarations → Option (List Def)
definitions declared = option_map (λ own. given_definitions ++ own) (all_present (map (type_definition declared) declared.types ++ map (record_definition declared) declared.records))

-- the records, the first of which has this number
abbrev pub records_from : ℕ → List RecDefKind → List RecordSpec
records_from n [] = []
records_from n (r ∷ rs) = record { name = r.name; fields = map (λ (f : RecFieldKind). f.name) (fields_of r); def = n } ∷ records_from (suc n) rs

abbrev pub record_specs : Declarations → List RecordSpec
record_specs declared = records_from (2 + length declared.types) declared.records

-- the types, by their names and the numbers of their parameters
abbrev pub type_names : Declarations → List TypeName
type_names declared = map (λ (d : TypeDefKind). record { name = d.name; params = length d.params }) declared.types

-- ---- the variables that stand in terms

abbrev pub some_true : List Bool → Bool
some_true tests = list_any (λ b. b) tests

abbrev pub if_there : Option Bool → Bool
if_there Nothing = false
if_there (Some b) = b

-- whether a variable stands in one level of a term
abbrev pub holds_layer : ℕ → Term-F Bool Bool → Bool
holds_layer n (Cons head tail) = head || tail
holds_layer n (Tuple parts) = some_true parts
holds_layer n (Map fields rest_int rest_atom) = some_true fields || (if_there rest_int || if_there rest_atom)
holds_layer n (Fun parameters result) = some_true parameters || result
holds_layer n (Or parts) = some_true parts
holds_layer n (And parts) = some_true parts
holds_layer n (Not negated) = negated
holds_layer n (Var number) = nat_eq number n
holds_layer n (NameTerm number arguments) = some_true arguments
holds_layer n _ = false

-- whether the variable with this number stands in a term, at any depth
unfoldable pub holds_variable : ℕ → Term → Bool
holds_variable n t = fold-Term Bool Bool (holds_layer n) (λ field. field.term) t

-- whether it stands in an arrow
abbrev pub arrow_holds : Arrow → ℕ → Bool
arrow_holds a n = list_any (holds_variable n) a.params || holds_variable n a.result

-- ---- specs

-- the term of a type in a clause whose variables themselves have these terms
abbrev pub clause_term : Declarations → SpecClauseKind → (Name → Option Term) → Node TypeKind → Option Term
clause_term declared c variables t = type_term declared (stands_for declared c variables) t

-- its arrow
abbrev pub arrow_with : Declarations → SpecClauseKind → (Name → Option Term) → Option Arrow
arrow_with declared c variables = and_then (all_present (map (clause_term declared c variables) c.params)) (λ params. option_map (λ result. record { params = params; result = result }) (clause_term declared c variables c.result))

-- of names that are numbered one after the other, the first with this number, those whose variables an arrow holds
abbrev pub held_from : Arrow → ℕ → List Name → List Name
held_from a n [] = []
held_from a n (x ∷ xs) = cond (arrow_holds a n) (x ∷ held_from a (suc n) xs) (held_from a (suc n) xs)

abbrev pub held_in : Option Arrow → List Name → List Name
held_in Nothing names = []
held_in (Some a) names = held_from a 0 names

-- the variables that the terms of a clause hold once bounded ones are replaced, in the order of first occurrence. These alone have numbers
abbrev pub held_variables : Declarations → SpecClauseKind → List Name
held_variables declared c = held_in (arrow_with declared c (numbered_from 0 (clause_variables c))) (clause_variables c)

-- the arrow of a clause whose variables have numbers that count from this one
abbrev pub clause_arrow : Declarations → ℕ → SpecClauseKind → Option Arrow
clause_arrow declared first c = arrow_with declared c (numbered_from first (held_variables declared c))

-- the arrows of clauses, whose variables are numbered clause by clause: the same letter in two clauses is two variables
abbrev pub arrows_from : Declarations → ℕ → List (Node SpecClauseKind) → Option (List Arrow)
arrows_from declared first [] = Some []
arrows_from declared first (c ∷ cs) = and_then (clause_arrow declared first c.kind) (λ a. option_map (λ more. a ∷ more) (arrows_from declared (first + length (held_variables declared c.kind)) cs))

-- how many variables clauses have
abbrev pub variables_in : Declarations → List (Node SpecClauseKind) → ℕ
variables_in declared [] = 0
variables_in declared (c ∷ cs) = length (held_variables declared c.kind) + variables_in declared cs

-- the spec of a function
abbrev pub function_spec : Declarations → SpecKind → Option FunSpec
function_spec declared s = option_map (λ arrows. record { name = s.name; arity = spec_clauses_arity s.clauses; vars = variables_in declared s.clauses; clauses = arrows }) (arrows_from declared 0 s.clauses)

-- ---- modules

-- the specs among declarations, in text order
abbrev pub function_specs : Declarations → List (Node SpecKind) → Option (List FunSpec)
function_specs declared specs = all_present (map (λ s. function_spec declared s.kind) specs)

-- all of a module, where each type expression has a term
abbrev pub module_specs : Module → Option Specs
module_specs m = and_then (definitions (declarations_of m)) (λ defs. option_map (λ functions. record { defs = defs; types = type_names (declarations_of m); functions = functions; records = record_specs (declarations_of m) }) (function_specs (declarations_of m) (specs_in m.forms)))

-- ---- types that stand alone

-- the term of a type that is read behind others, whose variables have these names: each name has the number of its place, and new ones come behind
abbrev pub term_behind : Declarations → List Name → Node TypeKind → Option Term
term_behind declared names t = type_term declared (numbered_from 0 (and_variables_of names t)) t
