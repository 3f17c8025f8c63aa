use Rattle.std.proofs.Common.{◌∙◌, ◌+◌, List, not, is_some, sym, ap, subst, take}
use Rattle.typespecs_clauses.specs.Names.{Entry, texts}
use Rattle.typespecs_clauses.specs.Occurrences.{ArePlaces}
use Rattle.typespecs_clauses.proofs.NameLaws.{places-step, places-stay}
use Rattle.typespecs_clauses.proofs.names.places_of.Goals as goal
use Rattle.typespecs_clauses.proofs.names.places_of.Goals.{then-is_none+in_ok-set, else-is_none}

pub names-preserved : goal.names-preserved
names-preserved c =
    elim c.if-is_none.branch [
      | then-is_none+in_ok-set w ↦
          subst (λ (places : List Entry). ArePlaces places (texts (take (c.names.place + 1) c.args.names.now))) (sym w.places-is)
          (places-step c.args.names.now c.names.place c.index-names-place.result c.index-names-place.result c.names-test.true c.index-names-place.is c.names.places c.names.invariant w.set.new.self
          (ap is_some (sym c.get.ensures) ∙ (c.is_none.ensures ∙ ap not w.if-is_none.true)) w.in_ok-set.ensures)
      | else-is_none w ↦
          subst (λ (places : List Entry). ArePlaces places (texts (take (c.names.place + 1) c.args.names.now))) (sym w.places-is)
          (places-stay c.args.names.now c.names.place c.index-names-place.result c.index-names-place.result c.names-test.true c.index-names-place.is c.names.places c.names.invariant
          (ap is_some (sym c.get.ensures) ∙ (c.is_none.ensures ∙ ap not w.if-is_none.false)))
    ]
