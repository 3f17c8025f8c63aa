-- The types and records that a module declares, and the numbers of their definitions (Erlang Reference Manual, "Types and Function Specifications", type declarations, and "Records").
use Rattle.std.specs.Prelude.{ℕ, suc, ◌+◌, List, [], ◌∷◌, map, length, Option, Some, None, Bool, ◌&&◌, cond, nat_eq}
use Rattle.std.specs.Option.{option_map}
use Rattle.type_terms.specs.Keys.{Name, same_name}
use Rattle.erl_tree.specs.declared.token.Node.{Node}
use Rattle.erl_tree.specs.declared.form.TypeDefKind.{TypeDefKind}
use Rattle.erl_tree.specs.declared.form.RecDefKind.{RecDefKind}
use Rattle.erl_tree.specs.declared.form.TreeForm.{TreeForm}
use Rattle.erl_tree.specs.declared.form.TreeForm.TheVariants as F
use Rattle.erl_tree.specs.declared.form.Module.{Module}
use Rattle.erl_runs.specs.Records.{records_of}
use Rattle.typespecs_rules.specs.BuiltInTypes.{is_built_in_name}

-- the type declarations among forms
abbrev pub types_in : List TreeForm → List (Node TypeDefKind)
types_in [] = []
types_in (F.TypeDef d ∷ forms) = d ∷ types_in forms
types_in (form ∷ forms) = types_in forms

-- the record declarations among forms
abbrev pub record_forms_in : List TreeForm → List (Node RecDefKind)
record_forms_in [] = []
record_forms_in (F.RecDef r ∷ forms) = r ∷ record_forms_in forms
record_forms_in (form ∷ forms) = record_forms_in forms

-- what a module declares: its types and its records, each in text order
pub record Declarations : Type 0 where
  pub types : List TypeDefKind
  pub records : List RecDefKind

abbrev pub declarations_of : Module → Declarations
declarations_of m = record { types = map (λ d. d.kind) (types_in m.forms); records = records_of m }

-- nothing declared, as around a type that stands alone
abbrev pub nothing_declared : Declarations
nothing_declared = record { types = []; records = [] }

-- the position of the first element that passes a test
abbrev pub position : {A : Type 0} → (A → Bool) → List A → Option ℕ
position test [] = None
position test (x ∷ xs) = cond (test x) (Some 0) (option_map suc (position test xs))

-- whether a type is declared with this name and so many parameters
abbrev pub is_type_named : Name → ℕ → TypeDefKind → Bool
is_type_named name count d = same_name d.name name && nat_eq (length d.params) count

-- the number of a declared type's definition: 0 and 1 are given, and the module's types follow in text order. A built-in type's name is none of the module's, and of a type that is declared twice the first counts
abbrev pub type_number : Declarations → Name → ℕ → Option ℕ
type_number declared name count = cond (is_built_in_name name) None (option_map (λ i. 2 + i) (position (is_type_named name count) declared.types))

-- the number of a record's definition: the module's records follow its types, in text order. Of a record that is declared twice the first counts
abbrev pub record_number : Declarations → Name → Option ℕ
record_number declared name = option_map (λ i. 2 + (length declared.types + i)) (position (λ (r : RecDefKind). same_name r.name name) declared.records)
