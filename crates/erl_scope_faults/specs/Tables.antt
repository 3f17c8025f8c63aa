-- What contracts see of the tables.
use Rattle.std.specs.Prelude.{◌≡◌, ℕ, List, [], ◌∷◌, ◌++◌, map}
use Rattle.std.specs.Borrow.{Bor}
use Rattle.type_terms.specs.Keys.{Name}
use Rattle.erl_tree.specs.declared.form.RecDefKind.{RecDefKind}
use Rattle.erl_tree.specs.Lists.{Every}
use Rattle.erl_runs.specs.Records.{find_record}

-- the entries of a table of records: a name and its declaration
abbrev pub Declarations : Type 0
Declarations = List (Bor (List ℕ) × Bor RecDefKind)

-- each stands under its name
abbrev pub AreNamed : Declarations → Type 0
AreNamed entries = Every (λ e. e.0.now ≡ e.1.now.name) entries

-- the records that are declared, in the order in which they were added
abbrev pub declared_in : Declarations → List RecDefKind
declared_in entries = map (λ e. e.1.now) entries

-- one more declaration behind others, of which the first of each name counts
abbrev pub IsDeclaration : (old : List RecDefKind) → RecDefKind → (new : List RecDefKind) → Type 0
IsDeclaration old r new = (name : Name) → find_record new name ≡ find_record (old ++ r ∷ []) name
