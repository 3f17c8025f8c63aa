-- What the variables of a clause are looked up in, and where their terms stand.
use Rattle.std.specs.Prelude.{◌≡◌, ℕ, ◌+◌, List, Option, Some, None as Nothing, Bool, cond, false, get_or}
use Rattle.std.specs.Option.{option_map}
use Rattle.type_terms.specs.Keys.{Name, same_name}
use Rattle.type_terms.specs.declared.term.Term.{Term, Var}
use Rattle.erl_tree.specs.declared.form.SpecClauseKind.{SpecClauseKind}
use Rattle.typespecs_rules.specs.Declarations.{Declarations}
use Rattle.typespecs_rules.specs.TypeTerms.{record_tuple, type_kind_term}
use Rattle.typespecs_rules.specs.TypeVariables.{clause_occurrences, place_among}
use Rattle.typespecs_rules.specs.Bounds.{Bound, bounded, bound_graph, stands_for, stands_once, with_bound}
use Rattle.typespecs_names.specs.Numbers.{KnowsNumbers}
use Rattle.typespecs_terms.specs.declared.tables.TermTable.{TermTable}
use Rattle.typespecs_terms.specs.Tables.{terms_in, tuples_in}
use Rattle.typespecs_clauses.specs.declared.clause.ClauseVariables.{ClauseVariables}
use Rattle.typespecs_clauses.specs.declared.standing.Source.{Source}
use Rattle.typespecs_clauses.specs.declared.standing.Standing.{Standing}
use Rattle.typespecs_clauses.specs.Names.{Entry, number_of}
use Rattle.typespecs_clauses.specs.Occurrences.{AreOccurrences, ArePlaces}

-- they are those of this clause
pub record AreVariables (v : ClauseVariables) (c : SpecClauseKind) : Type 0 where
  pub occurrences : AreOccurrences v.occurrences (clause_occurrences c)
  pub places : ArePlaces v.places (bounded c.bounds)
  pub graph : v.graph.items ≡ bound_graph c.bounds

-- what a clause is read with is that of declarations
pub record Knows (source : Source) (d : Declarations) : Type 0 where
  pub numbers : KnowsNumbers source.numbers.now d
  pub tuples : (name : Name) → tuples_in source.tuples.now name ≡ record_tuple d name

-- a variable by its place, where numbers count from this one
abbrev pub variable_at : ℕ → Option ℕ → Option Term
variable_at first place = option_map (λ i. Var (first + i)) place

-- variables themselves, by their places
abbrev pub own_terms : ℕ → List Entry → Name → Option Term
own_terms first places x = variable_at first (number_of places x)

-- the term that a variable has so far: its own where it isn't bounded, what it stands for where its bound is settled, and else none
abbrev pub term_so_far : List Bool → Option Term → Option Term → Option ℕ → Option Term
term_so_far settled own standing Nothing = own
term_so_far settled own standing (Some place) = cond (get_or settled place false) standing Nothing

-- each variable has in the table the term that it has so far
abbrev pub StandsSoFar : Declarations → SpecClauseKind → (Name → Option Term) → Standing → Type 0
StandsSoFar d c own s = (x : Name) → terms_in s.terms x ≡ term_so_far s.settled (own x) (stands_for d c own x) (place_among (bounded c.bounds) x)

-- that of a variable before any bound is settled
abbrev pub without_bound : Option ℕ → Option Term → Option Term
without_bound Nothing own = own
without_bound (Some place) own = Nothing

-- a term is noted under a name, if there is one
abbrev pub IsNotedAt : Name → Option Term → (old new : Name → Option Term) → Type 0
IsNotedAt name Nothing old new = (x : Name) → new x ≡ old x
IsNotedAt name (Some t) old new = (x : Name) → new x ≡ cond (same_name name x) (Some t) (old x)

-- the term of a bounded variable is noted, by the terms that were there before
abbrev pub IsNoted : Declarations → Source → (Name → Option Term) → Bound → (old new : TermTable) → Type 0
IsNoted d source own bound old new =
    IsNotedAt bound.0 (with_bound (stands_once source.clause.now bound.0) (own bound.0) (type_kind_term d (tuples_in source.tuples.now) (terms_in old) bound.1.kind)) (terms_in old) (terms_in new)
