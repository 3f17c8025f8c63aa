use Rattle.std.proofs.Common.{◌≡◌, ℕ, take, get_or, false}
use Rattle.type_terms.specs.declared.spec.Arrow.{Arrow}
use Rattle.typespecs_rules.specs.SpecTerms.{arrow_holds, held_from}
use Rattle.typespecs_clauses.specs.Names.{texts}
use Rattle.typespecs_clauses.proofs.arrows.marked_names.Given as goal

abbrev pub invariant-names : goal.invariant-names
invariant-names l = (a : Arrow) → ((n : ℕ) → get_or l.marks n false ≡ arrow_holds a n) → texts l.marked.items ≡ held_from a 0 (texts (take l.number l.names))
