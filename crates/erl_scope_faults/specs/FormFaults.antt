-- What is wrong with the names in forms, by the functions and the records that are there.
use Rattle.std.specs.Prelude.{◌≡◌, List, [], ◌∷◌, ◌++◌}
use Rattle.std.specs.List.{list_any}
use Rattle.type_terms.specs.Keys.{Name}
use Rattle.erl_tree.specs.declared.form.RecDefKind.{RecDefKind}
use Rattle.erl_tree.specs.declared.form.TreeForm.{TreeForm}
use Rattle.erl_tree.specs.Functions.{FunctionId}
use Rattle.erl_runs.specs.Names.{same_id}
use Rattle.erl_runs.specs.Records.{find_record}
use Rattle.erl_scope_rules.specs.declared.fault.PlacedFault.{PlacedFault}
use Rattle.erl_scope_rules.specs.ScopeFaults.{form_faults, defined_by}

-- the same functions are among both
abbrev pub HasSameFunctions : List FunctionId → List FunctionId → Type 0
HasSameFunctions fs gs = (id : FunctionId) → list_any (same_id id) fs ≡ list_any (same_id id) gs

-- the same records are found in both
abbrev pub HasSameRecords : List RecDefKind → List RecDefKind → Type 0
HasSameRecords rs qs = (name : Name) → find_record rs name ≡ find_record qs name

-- forms behind others that define these functions, in a module that defines and specifies these and has these records
abbrev pub all_form_faults : (functions : List FunctionId) (records : List RecDefKind) (specified before : List FunctionId) → List TreeForm → List PlacedFault
all_form_faults functions records specified before [] = []
all_form_faults functions records specified before (form ∷ forms) = form_faults functions records specified before form ++ all_form_faults functions records specified (defined_by form ++ before) forms
