-- What the types of a module are read by, and what reading adds.
use Rattle.std.specs.Prelude.{◌≡◌, List, [], ◌∷◌, ◌++◌, map, Bool, true, false, Option, Some, None}
use Rattle.type_terms.specs.Keys.{Name}
use Rattle.type_terms.specs.declared.term.Def.{Def}
use Rattle.type_terms.specs.declared.spec.FunSpec.{FunSpec}
use Rattle.erl_tree.specs.declared.form.TreeForm.{TreeForm}
use Rattle.erl_runs.specs.Records.{records_in}
use Rattle.erl_runs.specs.Specs.{all_present, specs_in}
use Rattle.typespecs_rules.specs.Declarations.{Declarations, types_in}
use Rattle.typespecs_rules.specs.TypeTerms.{record_tuple}
use Rattle.typespecs_rules.specs.TypeVariables.{parameters}
use Rattle.typespecs_rules.specs.SpecTerms.{type_definition, record_definition, function_spec}
use Rattle.typespecs_names.specs.Numbers.{KnowsNumbers}
use Rattle.typespecs_terms.specs.declared.tables.TermTable.{TermTable}
use Rattle.typespecs_terms.specs.Tables.{terms_in, tuples_in}
use Rattle.typespecs.specs.declared.definitions.Declared.{Declared}

-- the numbers and the tuples are those of these declarations
pub record ReadsDeclared (r : Declared) (d : Declarations) : Type 0 where
  pub numbers : KnowsNumbers r.numbers.now d
  pub tuples : (name : Name) → tuples_in r.tuples.now name ≡ record_tuple d name

-- the table has the parameters with these names
abbrev pub parameters_in : TermTable → List Name → Type 0
parameters_in table names = (x : Name) → terms_in table x ≡ parameters names x

-- one came behind others, where it is there
abbrev pub added : {A : Type 0} → Option A → Bool → List A → List A → Type 0
added None is_there old new = (is_there ≡ false) × (new ≡ old)
added (Some def) is_there old new = (is_there ≡ true) × (new ≡ old ++ def ∷ [])

-- some came behind others, where each is there
abbrev pub given_all : {A : Type 0} → Option (List A) → Bool → List A → List A → Type 0
given_all {A = A} defs true old new = (own : List A) × (defs ≡ Some own) × (new ≡ old ++ own)
given_all defs false old new = defs ≡ None

-- those of the types and the records among forms
abbrev pub types_given : Declarations → List TreeForm → Bool → List Def → List Def → Type 0
types_given d forms are_there old new = given_all (all_present (map (λ t. type_definition d t.kind) (types_in forms))) are_there old new

abbrev pub records_given : Declarations → List TreeForm → Bool → List Def → List Def → Type 0
records_given d forms are_there old new = given_all (all_present (map (record_definition d) (records_in forms))) are_there old new

-- those of the specs among forms
abbrev pub specs_given : Declarations → List TreeForm → Bool → List FunSpec → List FunSpec → Type 0
specs_given d forms are_there old new = given_all (all_present (map (λ s. function_spec d s.kind) (specs_in forms))) are_there old new
