-- Which terms have finitely many instances of names.
use Rattle.std.specs.Prelude.{List, [], ◌∷◌}
use Rattle.type_terms.specs.declared.term.Term.{Term, Any, Name}
use Rattle.erl_tree.specs.Lists.{Among}
use Rattle.typespecs_laws.specs.Occurring.{Occurs, HasFinitelyManyInstances}
use Rattle.typespecs_laws.specs.SmallInstances.{lists, list_of_any, list_of_lists, growing}
use Rattle.typespecs_laws.proofs.ListInstances.{two-instances}
use Rattle.typespecs_laws.proofs.GrowingInstances.{always-another}

pub lists-finite : HasFinitelyManyInstances lists list_of_lists
lists-finite = record { instances = list_of_lists ∷ list_of_any ∷ []; are_all = two-instances }

pub growing-infinite : HasFinitelyManyInstances growing (Name 0 (Any ∷ [])) → ⊥
growing-infinite h =
    let another : (arguments : List Term) × Occurs growing (Name 0 (Any ∷ [])) (Name 0 arguments) × (Among (Name 0 arguments) h.instances → ⊥) = always-another h.instances in
    another.2 (h.are_all 0 another.0 another.1)
