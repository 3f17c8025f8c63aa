-- The tuples of records, settled record by record.
use Rattle.std.specs.Prelude.{◌≡◌, ◌≤◌, ◌-◌, ℕ, List, Option, Some, None as Nothing, Bool, cond, false, true, get_or}
use Rattle.type_terms.specs.Keys.{Name, same_name}
use Rattle.type_terms.specs.declared.term.Term.{Term}
use Rattle.erl_tree.specs.declared.token.Node.{Node}
use Rattle.erl_tree.specs.declared.type_expr.TypeKind.{TypeKind}
use Rattle.erl_tree.specs.declared.form.RecFieldKind.{RecFieldKind}
use Rattle.erl_tree.specs.declared.form.RecDefKind.{RecDefKind}
use Rattle.erl_tree.specs.Lists.{Among}
use Rattle.typespecs_rules.specs.Declarations.{Declarations, record_number}
use Rattle.typespecs_rules.specs.TypeTerms.{RecordTuple, field_term, named_term, record_tuple}
use Rattle.typespecs_lemmas.specs.Acyclic.{HasNoInfiniteRecord}
use Rattle.typespecs_names.specs.Numbers.{KnowsNumbers}
use Rattle.typespecs_terms.specs.Tables.{tuples_in}
use Rattle.typespecs_records.specs.declared.settling.Source.{Source}
use Rattle.typespecs_records.specs.declared.settling.Settled.{Settled}
use Rattle.typespecs_records.specs.Records.{records_seen}

-- a field's name with its term, where types have these terms
abbrev pub of_field : (TypeKind → Option Term) → Node RecFieldKind → Option (Name × Term)
of_field term_of f = named_term f.kind.name (field_term term_of f.kind)

-- records are read with what declarations have, and none of them leads back to itself
pub record Knows (source : Source) (d : Declarations) : Type 0 where
  pub numbers : KnowsNumbers source.numbers.now d
  pub records : records_seen source.records.now ≡ d.records
  pub finite : HasNoInfiniteRecord d

-- the tuples that a record with this number has so far: its own where it is settled, and else none
abbrev pub tuple_so_far : List Bool → Option RecordTuple → Option ℕ → Option RecordTuple
tuple_so_far settled own Nothing = Nothing
tuple_so_far settled own (Some n) = cond (get_or settled n false) own Nothing

-- a table has the tuples of the records that are settled, and of no others
abbrev pub StandsSoFar : Declarations → Settled → Type 0
StandsSoFar d s = (name : Name) → tuples_in s.tuples name ≡ tuple_so_far s.settled (record_tuple d name) (record_number d name)

-- a record's tuples are noted under its name, if it has any
abbrev pub IsNotedAt : Name → Option RecordTuple → (old new : Name → Option RecordTuple) → Type 0
IsNotedAt name Nothing old new = (x : Name) → new x ≡ old x
IsNotedAt name (Some t) old new = (x : Name) → new x ≡ cond (same_name name x) (Some t) (old x)

-- each of these records that has a number is settled
abbrev pub AreSettled : Declarations → List Bool → List RecDefKind → Type 0
AreSettled d settled records = (r : RecDefKind) → Among r records → (n : ℕ) → record_number d r.name ≡ Some n → get_or settled n false ≡ true

-- a number is that of a record and, less the record's place, that of the first record of all
abbrev pub HasOwnNumber : Declarations → RecDefKind → ℕ → RecDefKind → Option ℕ → Type 0
HasOwnNumber d first at r Nothing = Unit {0}
HasOwnNumber d first at r (Some n) = (record_number d r.name ≡ Some n) × (at ≤ n) × (record_number d first.name ≡ Some (n - at))
