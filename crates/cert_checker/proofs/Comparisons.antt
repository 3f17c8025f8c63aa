-- What comparisons of sets say of the terms whose values they have.
use Rattle.std.proofs.Common.{◌≡◌, refl, sym, ◌∙◌, ap, subst, ℕ, ℤ, List, [], ◌∷◌}
use Rattle.std.specs.Prelude.{Bool, true, false, ◌||◌, Option, Some, None, MatchOption, slice_get}
use Rattle.std.proofs.lemmas.Bool.{false≢true}
use Rattle.type_terms.specs.declared.term.Key.{Key}
use Rattle.type_terms.specs.declared.term.Key.TheVariants.{Int as IntKey, Atom as AtomKey}
use Rattle.type_terms.specs.declared.term.Term.{Term, AtomLit}
use Rattle.type_terms.specs.Keys.{Name}
use Rattle.type_terms.specs.Instances.{no_variables}
use Rattle.key_sets.specs.declared.key_set.KeySet.{KeySet}
use Rattle.key_sets.specs.declared.part.Part.{Part}
use Rattle.key_sets.specs.KeySets.{has}
use Rattle.key_sets.specs.Parts.{part_has, parts_have}
use Rattle.erl_runs.specs.Specs.{one_integer}
use Rattle.erl_runs.specs.Value.{Value, integer, atom, nil, cons, tuple, map_of, named_fun, closure}
use Rattle.erl_runs.specs.Membership.{Program}
use Rattle.erl_runs.specs.Running.{still_going}
use Rattle.cert_checker.specs.declared.refusal.Shown.TheVariants.{One}
use Rattle.cert_checker.specs.declared.spec_table.FunctionTypes.{FunctionTypes}
use Rattle.cert_checker.specs.declared.spec_table.FormTypes.TheVariants.{Spec}
use Rattle.cert_checker.specs.declared.expression_type.ExpressionType.{ExpressionType}
use Rattle.cert_checker.specs.declared.expression_type.ExpressionType.TheVariants as T
use Rattle.cert_checker.specs.declared.scope.Scope.{Scope}
use Rattle.cert_checker.specs.Constraints.{IsWithin, integers}
use Rattle.cert_checker.specs.Failures.{Refutes, KeyIn, IsCompared}
use Rattle.cert_checker.specs.FlatTypes.{has_value, HasValuesOf, IsSetOf, IsPartOf, is_limited}
use Rattle.cert_checker.specs.Judging.{StandsFor}
use Rattle.cert_checker.proofs.Lists.{some-inj}
use Rattle.cert_checker.proofs.KeyTerms.{IsKey, IsOfKeys}
use Rattle.cert_checker.proofs.ValueSets.{values-same}

-- a program that does nothing
no_program : Program
no_program = record { apply = λ f args steps. still_going steps; arity = λ v. 0; specs = []; defs = [] }

-- ---- keys

pub key-in : (f : Key → Bool) (t : Term) → HasValuesOf f t → (key : Key) → f key ≡ true → KeyIn key t
key-in f t d (IntKey n) e = (d.same no_program no_variables 0 (integer n)).1 e
key-in f t d (AtomKey a) e = (d.same no_program no_variables 0 (atom a)).1 e

pub key-has : (f : Key → Bool) (t : Term) → HasValuesOf f t → (key : Key) → KeyIn key t → f key ≡ true
key-has f t d (IntKey n) e = (d.same no_program no_variables 0 (integer n)).0 e
key-has f t d (AtomKey a) e = (d.same no_program no_variables 0 (atom a)).0 e

pub key-fails : (key : Key) (left right : Term) → Refutes (One key) left right → IsWithin left right → ⊥
key-fails (IntKey n) left right h w = h.1 (w no_program no_variables 0 (integer n) tt h.0)
key-fails (AtomKey a) left right h w = h.1 (w no_program no_variables 0 (atom a) tt h.0)

value-key : (f : Key → Bool) (v : Value) → has_value f v ≡ true → IsKey v
value-key f (integer z) e = tt
value-key f (atom a) e = tt
value-key f nil e = absurd (false≢true e)
value-key f (cons a b) e = absurd (false≢true e)
value-key f (tuple a) e = absurd (false≢true e)
value-key f (map_of a) e = absurd (false≢true e)
value-key f (named_fun a b) e = absurd (false≢true e)
value-key f (closure a b) e = absurd (false≢true e)

-- a term with a set of its values has keys alone
pub values-of_keys : (f : Key → Bool) (t : Term) → HasValuesOf f t → IsOfKeys t
unfolding IsOfKeys
values-of_keys f t d p q k l i j v h = let e : has_value f v ≡ true = (d.same p i k v).0 h in (value-key f v e, (d.same q j l v).1 e)

-- ---- comparisons

has_value-less : (f g : Key → Bool) (v : Value) → ((key : Key) → f key ≡ true → g key ≡ true) → has_value f v ≡ true → has_value g v ≡ true
has_value-less f g (integer z) h e = h (IntKey z) e
has_value-less f g (atom a) h e = h (AtomKey a) e
has_value-less f g nil h e = e
has_value-less f g (cons a b) h e = e
has_value-less f g (tuple a) h e = e
has_value-less f g (map_of a) h e = e
has_value-less f g (named_fun a b) h e = e
has_value-less f g (closure a b) h e = e

pub compared : (l r : KeySet) (s t : Term) (found : Option Key) → IsSetOf l s → IsSetOf r t →
    MatchOption found ((key : Key) → has l key ≡ true → has r key ≡ true) (λ key. (has l key ≡ true) × (has r key ≡ false)) → IsCompared s t found
compared l r s t None a b h = λ p i k v w x. (b.same p i k v).1 (has_value-less (has l) (has r) v h ((a.same p i k v).0 x))
compared l r s t (Some key) a b h = (key-in (has l) s a key h.0, λ x. false≢true (sym h.1 ∙ key-has (has r) t b key x))

-- ---- the types of expressions

or-false : (b : Bool) → (b || false) ≡ b
or-false true = refl
or-false false = refl

pub part-set : (set : KeySet) (part : Part) (parts : List Part) (t : Term) → parts ≡ part ∷ [] → ((key : Key) → has set key ≡ parts_have parts key) → IsPartOf part t → IsSetOf set t
part-set set part parts t e h d = values-same (has set) (part_has part) t (λ key. h key ∙ (ap (λ z. parts_have z key) e ∙ or-false (part_has part key))) d.0

module _ (scope : Scope) where
  pub stands-Integers : (found : ExpressionType) (set : KeySet) (s : Term) → found ≡ T.Integers → IsSetOf set integers → StandsFor scope found s → IsSetOf set s
  stands-Integers found set s e h w = subst (IsSetOf set) (sym (subst (λ z. StandsFor scope z s) e w)) h

  pub stands-OneInteger : (found : ExpressionType) (n : ℤ) (set : KeySet) (s : Term) → found ≡ T.OneInteger n → IsSetOf set (one_integer n) → StandsFor scope found s → IsSetOf set s
  stands-OneInteger found n set s e h w = let x : (s ≡ one_integer n) × (is_limited n ≡ true) = subst (λ z. StandsFor scope z s) e w in subst (IsSetOf set) (sym x.0) h

  pub stands-OneAtom : (found : ExpressionType) (a : Name) (set : KeySet) (s : Term) → found ≡ T.OneAtom a → IsSetOf set (AtomLit a) → StandsFor scope found s → IsSetOf set s
  stands-OneAtom found a set s e h w = subst (IsSetOf set) (sym (subst (λ z. StandsFor scope z s) e w)) h

  pub stands-Parameter : (found : ExpressionType) (at : ℕ) (set : KeySet) (s : Term) → found ≡ T.Parameter at → slice_get scope.params.now at ≡ Some set → StandsFor scope found s → IsSetOf set s
  stands-Parameter found at set s e h w =
      let x : (set : KeySet) × (slice_get scope.params.now at ≡ Some set) × IsSetOf set s = subst (λ z. StandsFor scope z s) e w in
      subst (λ z. IsSetOf z s) (some-inj x.0 set (sym x.1 ∙ h)) x.2

  pub stands-ResultAt : (found : ExpressionType) (at : ℕ) (set : KeySet) (s : Term) → found ≡ T.ResultAt at → (f : FunctionTypes) × (slice_get scope.table.now.types at ≡ Some (Spec f)) × (f.result ≡ set) → StandsFor scope found s → IsSetOf set s
  stands-ResultAt found at set s e h w =
      let x : (f : FunctionTypes) × (slice_get scope.table.now.types at ≡ Some (Spec f)) × IsSetOf f.result s = subst (λ z. StandsFor scope z s) e w in
      subst (λ z. IsSetOf z s) (ap (λ (z : FunctionTypes). z.result) (spec-inj x.0 h.0 (some-inj _ _ (sym x.1 ∙ h.1))) ∙ h.2) x.2
    where
      spec-inj : (f g : FunctionTypes) → Spec f ≡ Spec g → f ≡ g
      spec-inj f g e = cc
