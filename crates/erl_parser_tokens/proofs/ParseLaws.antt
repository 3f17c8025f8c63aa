-- What is said of the answer of a call, from what is said of the reader's answer.
use Rattle.std.proofs.Common.{◌≡◌, subst, List}
use Rattle.std.specs.Prelude.{Result, Ok, Err, IfOk, IsErrOf}
use Rattle.type_terms.specs.Keys.{Name}
use Rattle.erl_tree.specs.declared.token.Place.{Place}
use Rattle.erl_tree.specs.declared.token.Placed.{Placed}
use Rattle.erl_parser_tokens.specs.declared.fault.ParseFault.{ParseFault}
use Rattle.erl_parser_tokens.specs.declared.fault.ParseFault.TheVariants as faults
use Rattle.erl_parser_tokens.specs.Tokens.{Answer, Gives}
use Rattle.erl_parser_tokens.specs.Outside.{HasOutside}
use Rattle.erl_parser_tokens.specs.Answers.{IsOrNoMemory}
use Rattle.erl_parser_tokens.proofs.Then.{Right, Again}

abbrev ok : {A : Type 0} → A → Result A ParseFault
ok x = Ok x

abbrev err : {A : Type 0} → ParseFault → Result A ParseFault
err f = Err f

no_fault : {A : Type 0} (y : A) (f : ParseFault) → IsErrOf (ok y) f → ⊥
no_fault y f e = absurd cc

the_fault : (A : Type 0) (f g : ParseFault) → IsErrOf (err {A = A} f) g → f ≡ g
the_fault A f g e = cc

-- what was found is of the kind that the reader answers
pub given-found : {A : Type 0} {G H : A → Type 0} {ts : List Placed} (answer : Answer A) (result : Result A ParseFault) → ((x : A) → G x → H x) → Gives (λ x. x) result answer → Right G ts answer → IfOk result H
given-found {G = G} {ts = ts} answer (Ok x) k g r = k x (subst (λ z. Right G ts z) g r).holds
given-found answer (Err f) k g r = tt

-- what is read again is what is given
pub given-again : {A : Type 0} {D : Place → Type 0} (x : A) (answer : Answer A) (result : Result A ParseFault) → ((p : Place) → D p → ⊥) → Gives (λ y. y) result answer → Again (λ y. y ≡ x) D answer → IsOrNoMemory x result
given-again {D = D} x answer (Ok y) d g a = (subst (λ z. Again (λ w. w ≡ x) D z) g a).holds
given-again x answer (Err faults.NoMemory) d g a = tt
given-again {D = D} x answer (Err (faults.OutOfProfile p form)) d g a = (subst (λ z. Again (λ w. w ≡ x) D z) g a).holds
given-again {D = D} x answer (Err (faults.Unexpected p)) d g a = (subst (λ z. Again (λ w. w ≡ x) D z) g a).holds
given-again {D = D} x answer (Err (faults.TooDeep p)) d g a = absurd (d p (subst (λ z. Again (λ w. w ≡ x) D z) g a).holds)

-- the place that is answered is that of a node of what is read again
pub given-too_deep : {A : Type 0} {D : Place → Type 0} (x : A) (answer : Answer A) (result : Result A ParseFault) (p : Place) → IsErrOf result (faults.TooDeep p) → Gives (λ y. y) result answer → Again (λ y. y ≡ x) D answer → D p
given-too_deep {A} {D} x answer (Ok y) p e g a = absurd (no_fault y (faults.TooDeep p) e)
given-too_deep {A} {D} x answer (Err f) p e g a = (subst (λ z. Again (λ w. w ≡ x) D z) (subst (λ h. Gives (λ y. y) (Err h) answer) (the_fault A f _ e) g) a).holds

-- nothing is read again where what stands there fits nowhere
pub given-unexpected : {A : Type 0} {D : Place → Type 0} (x : A) (answer : Answer A) (result : Result A ParseFault) (p : Place) → IsErrOf result (faults.Unexpected p) → Gives (λ y. y) result answer → Again (λ y. y ≡ x) D answer → ⊥
given-unexpected {A} {D} x answer (Ok y) p e g a = absurd (no_fault y (faults.Unexpected p) e)
given-unexpected {A} {D} x answer (Err f) p e g a = (subst (λ z. Again (λ w. w ≡ x) D z) (subst (λ h. Gives (λ y. y) (Err h) answer) (the_fault A f _ e) g) a).holds

-- nor where a form stands that is outside of the profile
pub given-no_outside : {A : Type 0} {D : Place → Type 0} (x : A) (answer : Answer A) (result : Result A ParseFault) (p : Place) (form : Name) → IsErrOf result (faults.OutOfProfile p form) → Gives (λ y. y) result answer → Again (λ y. y ≡ x) D answer → ⊥
given-no_outside {A} {D} x answer (Ok y) p form e g a = absurd (no_fault y (faults.OutOfProfile p form) e)
given-no_outside {A} {D} x answer (Err f) p form e g a = (subst (λ z. Again (λ w. w ≡ x) D z) (subst (λ h. Gives (λ y. y) (Err h) answer) (the_fault A f _ e) g) a).holds

-- and the form stands there
pub given-outside : {A : Type 0} {G : A → Type 0} {ts : List Placed} (answer : Answer A) (result : Result A ParseFault) (p : Place) (form : Name) → IsErrOf result (faults.OutOfProfile p form) → Gives (λ x. x) result answer → Right G ts answer → HasOutside ts p form
given-outside {A} {G} {ts} answer (Ok y) p form e g r = absurd (no_fault y (faults.OutOfProfile p form) e)
given-outside {A} {G} {ts} answer (Err f) p form e g r = (subst (λ z. Right G ts z) (subst (λ h. Gives (λ y. y) (Err h) answer) (the_fault A f _ e) g) r).holds
