-- What contracts see of tables of terms and of records' tuples by name.
use Rattle.std.specs.Prelude.{ℕ, List, [], ◌∷◌, Option, Some, None, cond}
use Rattle.std.specs.Option.{option_map}
use Rattle.std.specs.declared.vec.Vec.{Vec}
use Rattle.std.specs.declared.alloc.Global.{Global}
use Rattle.type_terms.specs.Keys.{Name, same_name}
use Rattle.type_terms.specs.declared.term.Term.{Term}
use Rattle.typespecs_rules.specs.TypeTerms.{RecordTuple}
use Rattle.typespecs_terms.specs.declared.tables.TermTable.{TermTable}
use Rattle.typespecs_terms.specs.declared.tables.TupleTable.{TupleTable}
use Rattle.typespecs_terms.specs.declared.tables.Fields.{Fields}

-- the value of the first entry with this name
abbrev pub first_named : {A : Type 0} → List (Vec ℕ Global × A) → Name → Option A
first_named [] x = None
first_named (e ∷ es) x = cond (same_name e.0.items x) (Some e.1) (first_named es x)

-- the term that a table has for a name
abbrev pub terms_in : TermTable → Name → Option Term
terms_in table x = first_named table.terms.entries x

-- a record's tag and the terms of its fields as the tuples that it stands for
abbrev pub tuple_as : Fields → RecordTuple
tuple_as r = record { tag = r.tag; fields = r.fields }

-- the tuples that a table has for a record
abbrev pub tuples_in : TupleTable → Name → Option RecordTuple
tuples_in table x = option_map tuple_as (first_named table.tuples.entries x)
