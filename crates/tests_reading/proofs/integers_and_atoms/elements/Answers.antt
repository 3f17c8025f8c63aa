use Rattle.std.proofs.Common.{refl, pos, []}
use Rattle.type_terms.specs.declared.term.Key.TheVariants.{Int as IntKey, Atom as AtomKey}
use Rattle.type_terms.proofs.KeyLaws.{name-refl}
use Rattle.tests_reading.proofs.integers_and_atoms.elements.Goals as goal

pub element_of-requires-clause-some : goal.element_of-requires-clause-some
element_of-requires-clause-some g c = (IntKey (pos 7), refl)

pub element_of-requires-2-clause-some : goal.element_of-requires-2-clause-some
element_of-requires-2-clause-some g c = (AtomKey [], refl)

pub element_of-requires-3-clause-some : goal.element_of-requires-3-clause-some
element_of-requires-3-clause-some g c = (AtomKey c.in_ok-from_slice.field-0, name-refl c.in_ok-from_slice.field-0)
