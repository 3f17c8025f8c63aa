use Rattle.std.proofs.Common.{◌≡◌, ◌∙◌, ℕ, List, ◌∷◌, ◌++◌, [], cond, Some, sym}
use Rattle.type_terms.specs.Keys.{Name, same_name}
use Rattle.typespecs_clauses.specs.Names.{Entry, number_of}
use Rattle.typespecs_clauses.specs.Occurrences.{AreOccurrences}
use Rattle.typespecs_clauses.proofs.OccurrenceLaws.{add-new, add-more, on-ok}
use Rattle.typespecs_clauses.proofs.variables.Occurrences.add.Goals as goal

abbrev Sets : List Entry → Name → ℕ → List Entry → Type 0
Sets old name n new = (x : Name) → number_of new x ≡ cond (same_name x name) (Some n) (number_of old x)

pub returns-in_ok-push-in-None : goal.returns-in_ok-push-in-None
returns-in_ok-push-in-None c =
    on-ok c.set.result (Sets c.args.self.now.counts c.args.name.now 1 c.set.new.self)
    ((names : List Name) → AreOccurrences c.args.self.now names → AreOccurrences (record { counts = c.set.new.self; firsts = c.push.new.self }) (names ++ c.args.name.now ∷ []))
    (λ set names are.
    let both = add-new c.args.self.now c.set.new.self c.push.new.self.items names c.args.name are (sym c.get.ensures ∙ c.in-None.is) c.in_ok-push-in-None.ensures.items set in
    record { counts = both.0; firsts = both.1 })
    c.set.ensures

pub returns-in-Some-checked_add : goal.returns-in-Some-checked_add
returns-in-Some-checked_add c =
    on-ok c.set-in-Some-checked_add.result (Sets c.args.self.now.counts c.args.name.now c.in-Some-checked_add.count c.set-in-Some-checked_add.new.self)
    ((names : List Name) → AreOccurrences c.args.self.now names → AreOccurrences (record { counts = c.set-in-Some-checked_add.new.self; firsts = c.args.self.now.firsts }) (names ++ c.args.name.now ∷ []))
    (λ set names are.
    let both = add-more c.args.self.now c.set-in-Some-checked_add.new.self c.in-Some.count c.in-Some-checked_add.count names c.args.name.now are (sym c.get.ensures ∙ c.in-Some.is) c.in-Some-checked_add.ensures.1 set in
    record { counts = both.0; firsts = both.1 })
    c.set-in-Some-checked_add.ensures
