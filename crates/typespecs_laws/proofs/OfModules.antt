-- A term whose names are defined by a module in whose text nothing is wrong has finitely many instances of names.
use Rattle.std.proofs.Common.{[], ◌∷◌, ◌++◌}
use Rattle.type_terms.specs.Definitions.{NamesAreDefined}
use Rattle.type_terms.specs.declared.spec.Arrow.{Arrow}
use Rattle.type_terms.specs.declared.term.Term.{Term}
use Rattle.type_terms.proofs.UndefinedMeaning.{among-none}
use Rattle.erl_tree.specs.Lists.{Among}
use Rattle.erl_tree.specs.declared.form.Module.{Module}
use Rattle.typespecs_rules.specs.declared.specs.Specs.{Specs}
use Rattle.typespecs_rules.specs.TypeFaults.{HasTerms, arrows_of}
use Rattle.typespecs_lemmas.proofs.DefinedNames.{names-defined}
use Rattle.typespecs_laws.proofs.RegularSpecs.{specs-regular}
use Rattle.typespecs_lemmas.proofs.WellMade.{well-made}
use Rattle.typespecs_laws.specs.Occurring.{HasFinitelyManyInstances}
use Rattle.typespecs_laws.proofs.FewChains.{finitely-many}
use Rattle.typespecs_laws.proofs.ArrowNames.{arrow-names}

pub of-module : (m : Module) (s : Specs) → HasTerms m s → (t : Term) → NamesAreDefined s.defs t → HasFinitelyManyInstances s.defs t
of-module m s h = finitely-many s.defs (specs-regular m s h) (among-none s.defs (names-defined m s h.terms)) (λ def c. (well-made m s h.no_fault h.terms def c).0)

-- so has each term of an arrow
pub of-arrows : (m : Module) (s : Specs) → HasTerms m s → (a : Arrow) → Among a (arrows_of s) → (t : Term) → Among t (a.params ++ (a.result ∷ [])) → HasFinitelyManyInstances s.defs t
of-arrows m s h a i t j = of-module m s h t (arrow-names m s h.terms a i t j)
