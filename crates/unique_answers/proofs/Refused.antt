-- A list of definitions is refused with one fault, and with none where it is taken.
use Rattle.std.proofs.Common.{◌≡◌, refl, sym, ap, ◌∙◌, List}
use Rattle.std.specs.Prelude.{◌≢◌}
use Rattle.type_terms.specs.Definitions.{AreDefinitions}
use Rattle.type_terms.specs.Refusals.{IsRefusedAs}
use Rattle.type_terms.specs.declared.defs.DefFault.{DefFault}
use Rattle.type_terms.specs.declared.defs.DefFault.TheVariants.{NoMemory, NoName, NotContractive}
use Rattle.type_terms.specs.declared.term.Def.{Def}
use Rattle.type_terms.proofs.UndefinedMeaning.{none-among}
use Rattle.unique_answers.proofs.Small.{some-same, none-some, neither-below}

pub one-refusal : (list : List Def) (f g : DefFault) → IsRefusedAs list f → IsRefusedAs list g → f ≢ NoMemory → g ≢ NoMemory → f ≡ g
one-refusal list NoMemory g h k n m = absurd (n refl)
one-refusal list (NoName a) NoMemory h k n m = absurd (m refl)
one-refusal list (NoName a) (NoName b) h k n m = ap NoName (some-same a b (sym h ∙ k))
one-refusal list (NoName a) (NotContractive b) h k n m = absurd (none-some a (sym k.0 ∙ h))
one-refusal list (NotContractive a) NoMemory h k n m = absurd (m refl)
one-refusal list (NotContractive a) (NoName b) h k n m = absurd (none-some b (sym h.0 ∙ k))
one-refusal list (NotContractive a) (NotContractive b) h k n m = ap NotContractive (neither-below a b (λ l. k.2 a l h.1) (λ l. h.2 b l k.1))

pub taken-or-refused : (list : List Def) (f : DefFault) → AreDefinitions list → IsRefusedAs list f → f ≡ NoMemory
taken-or-refused list NoMemory d h = refl
taken-or-refused list (NoName n) d h = absurd (none-some n (sym (none-among list d.names_defined) ∙ h))
taken-or-refused list (NotContractive n) d h = absurd (d.contractive n h.1)
