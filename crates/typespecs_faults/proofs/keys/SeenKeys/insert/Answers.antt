use Rattle.std.proofs.Common.{◌≡◌, arith, of_z, to_z, ◌∙◌, ◌∷◌, refl, ap, sym, subst, not, true}
use mir.Syntax.{w128}
use Rattle.std.specs.List.{list_any}
use Rattle.std.specs.Ordering.{int_eq}
use Rattle.std.proofs.lemmas.Int.{ints}
use Rattle.indexmap.specs.IndexSet.{insert_key}
use Rattle.type_terms.specs.Keys.{Name}
use Rattle.type_terms.specs.declared.term.Key.TheVariants.{Atom as AtomKey}
use Rattle.typespecs_rules.specs.TypeTerms.{MapKey, this_key}
use Rattle.typespecs_rules.specs.TypeFaults.{same_map_key}
use Rattle.typespecs_faults.specs.declared.keys.Key.{Key}
use Rattle.typespecs_faults.specs.SeenKeys.{IsSeen, meant}
use Rattle.typespecs_faults.proofs.MapKeyLaws.{int-test, int-added, atom-added, atom-new, integers-added, all_atoms-added}
use Rattle.typespecs_faults.proofs.keys.SeenKeys.insert.Goals as goal

pub returns-in_ok-insert-in-Atom-clause-is_new : goal.returns-in_ok-insert-in-Atom-clause-is_new
returns-in_ok-insert-in-Atom-clause-is_new c = λ before h.
    atom-new c.args.self.now c.args.self.now before h c.as_slice.result c.in_ok-insert-in-Atom.field-0 c.in_ok-insert-in-Atom.ensures.added
    ∙ (ap (λ (n : Name). not (list_any (same_map_key (this_key (AtomKey n))) before)) c.as_slice.ensures ∙ ap (λ (k : Key). not (list_any (same_map_key (meant k)) before)) (sym c.in-Atom.is))

pub returns-in_ok-insert-in-Atom-clause-added : goal.returns-in_ok-insert-in-Atom-clause-added
returns-in_ok-insert-in-Atom-clause-added c = λ before h.
    subst (λ (k : MapKey). IsSeen (record { integers = c.args.self.now.integers; atoms = c.insert-in-Atom.new.self; all_integers = c.args.self.now.all_integers; all_atoms = c.args.self.now.all_atoms }) (k ∷ before)) (ap (λ (n : Name). this_key (AtomKey n)) c.as_slice.ensures ∙ ap meant (sym c.in-Atom.is))
    (atom-added c.args.self.now (record { integers = c.args.self.now.integers; atoms = c.insert-in-Atom.new.self; all_integers = c.args.self.now.all_integers; all_atoms = c.args.self.now.all_atoms }) before h c.as_slice.result c.in_ok-insert-in-Atom.ensures.keys refl refl refl)

pub returns-in_ok-insert-in-Int-clause-added : goal.returns-in_ok-insert-in-Int-clause-added
returns-in_ok-insert-in-Int-clause-added c = λ before h.
    let q : to_z w128 (of_z w128 c.in-Int.number) ≡ c.in-Int.number = omega (arith, ints) in
    subst (λ (k : Key). IsSeen (record { integers = c.insert.new.self; atoms = c.args.self.now.atoms; all_integers = c.args.self.now.all_integers; all_atoms = c.args.self.now.all_atoms }) (meant k ∷ before)) (sym c.in-Int.is)
    (int-added c.args.self.now (record { integers = c.insert.new.self; atoms = c.args.self.now.atoms; all_integers = c.args.self.now.all_integers; all_atoms = c.args.self.now.all_atoms }) before h int_eq int-test c.in-Int.number (c.in_ok-insert-in-Int.ensures.keys ∙ ap (insert_key int_eq c.args.self.now.integers.keys) q) refl refl refl)

pub returns-in-AllIntegers-clause-added : goal.returns-in-AllIntegers-clause-added
returns-in-AllIntegers-clause-added c = λ before h.
    subst (λ (k : Key). IsSeen (record { integers = c.args.self.now.integers; atoms = c.args.self.now.atoms; all_integers = true; all_atoms = c.args.self.now.all_atoms }) (meant k ∷ before)) (sym c.in-AllIntegers.is)
    (integers-added c.args.self.now (record { integers = c.args.self.now.integers; atoms = c.args.self.now.atoms; all_integers = true; all_atoms = c.args.self.now.all_atoms }) before h refl refl refl refl)

pub returns-in-AllAtoms-clause-added : goal.returns-in-AllAtoms-clause-added
returns-in-AllAtoms-clause-added c = λ before h.
    subst (λ (k : Key). IsSeen (record { integers = c.args.self.now.integers; atoms = c.args.self.now.atoms; all_integers = c.args.self.now.all_integers; all_atoms = true }) (meant k ∷ before)) (sym c.in-AllAtoms.is)
    (all_atoms-added c.args.self.now (record { integers = c.args.self.now.integers; atoms = c.args.self.now.atoms; all_integers = c.args.self.now.all_integers; all_atoms = true }) before h refl refl refl refl)
