-- Lists of references to records.
use Rattle.std.specs.Prelude.{List, map}
use Rattle.std.specs.Borrow.{Bor}
use Rattle.erl_tree.specs.declared.form.RecDefKind.{RecDefKind}

-- the records to which references lead
abbrev pub records_seen : List (Bor RecDefKind) → List RecDefKind
records_seen list = map (λ b. b.now) list
