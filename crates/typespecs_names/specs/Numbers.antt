-- What contracts see of the numbers of definitions by name.
use Rattle.std.specs.Prelude.{◌≡◌, ℕ, suc, ◌+◌, List, [], ◌∷◌, length, Option, Some, None, cond}
use Rattle.type_terms.specs.Keys.{Name}
use Rattle.erl_tree.specs.declared.form.TypeDefKind.{TypeDefKind}
use Rattle.erl_tree.specs.declared.form.RecDefKind.{RecDefKind}
use Rattle.erl_tree.specs.declared.form.TreeForm.{TreeForm}
use Rattle.erl_tree.specs.declared.form.TreeForm.TheVariants as F
use Rattle.erl_tree.specs.Functions.{FunctionId, of_function}
use Rattle.erl_runs.specs.Names.{same_id}
use Rattle.name_table.specs.Table.{Entry}
use Rattle.typespecs_rules.specs.declared.specs.TypeName.{TypeName}
use Rattle.typespecs_rules.specs.declared.specs.RecordSpec.{RecordSpec}
use Rattle.typespecs_rules.specs.BuiltInTypes.{is_built_in_name}
use Rattle.typespecs_rules.specs.Declarations.{Declarations, type_number, record_number}
use Rattle.typespecs_names.specs.declared.numbers.DeclaredNumbers.{DeclaredNumbers}

-- the number of the first entry with this name and so many parameters
abbrev pub first_number : List Entry → FunctionId → Option ℕ
first_number [] id = None
first_number (e ∷ es) id = cond (same_id id e.0) (Some e.1) (first_number es id)

-- the first of two that is there
abbrev pub or_first : Option ℕ → Option ℕ → Option ℕ
or_first (Some n) other = Some n
or_first None other = other

-- names in turn with numbers that count from this one
abbrev pub numbered : ℕ → List FunctionId → List Entry
numbered n [] = []
numbered n (f ∷ fs) = (f, n) ∷ numbered (suc n) fs

-- names were added to a table in turn, unless they stood there, with numbers from the first one's on to the one behind them
pub record IsAdded (old : List Entry) (first : ℕ) (fs : List FunctionId) (behind : ℕ) (new : List Entry) : Type 0 where
  pub adds : (id : FunctionId) → first_number new id ≡ or_first (first_number old id) (first_number (numbered first fs) id)
  pub counts : behind ≡ first + length fs

-- each look-up by name gives the number that the declarations give
pub record KnowsNumbers (numbers : DeclaredNumbers) (d : Declarations) : Type 0 where
  pub types : (name : Name) (count : ℕ) → cond (is_built_in_name name) None (first_number numbers.types (of_function name count)) ≡ type_number d name count
  pub records : (name : Name) → first_number numbers.records (of_function name 0) ≡ record_number d name

-- what a type is looked up by, and a record
abbrev pub type_id : TypeDefKind → FunctionId
type_id d = of_function d.name (length d.params)

abbrev pub record_id : RecDefKind → FunctionId
record_id r = of_function r.name 0

-- that of the type that a form declares, and of the record
abbrev pub type_ids : TreeForm → List FunctionId
type_ids (F.TypeDef d) = type_id d.kind ∷ []
type_ids _ = []

abbrev pub record_ids : TreeForm → List FunctionId
record_ids (F.RecDef r) = record_id r.kind ∷ []
record_ids _ = []

-- that of a type and of a record whose names are known
abbrev pub name_ids : TypeName → List FunctionId
name_ids t = of_function t.name t.params ∷ []

abbrev pub spec_ids : RecordSpec → List FunctionId
spec_ids r = of_function r.name 0 ∷ []
