use Rattle.std.proofs.Common.{◌≡◌, subst, true}
use Rattle.type_terms.specs.Keys.{same_name, same_key}
use Rattle.type_terms.proofs.KeyLaws.{name-is, name-refl, key-is, key-refl}
use Rattle.type_terms.proofs.laws.same_is_equal.Goals as goal

pub returns-clause-name : goal.returns-clause-name
returns-clause-name c = λ a b. (name-is a b, (λ e. subst (λ x. same_name a x ≡ true) e (name-refl a)))

pub returns-clause-key : goal.returns-clause-key
returns-clause-key c = λ j k. (key-is j k, (λ e. subst (λ x. same_key j x ≡ true) e (key-refl j)))
