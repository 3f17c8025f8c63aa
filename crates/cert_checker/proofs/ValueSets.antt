-- Tests of keys that say which values are in a type's term.
use Rattle.std.proofs.Common.{◌≡◌, refl, sym, ◌∙◌, ap, subst, ℕ, ℤ, zero, suc, List, [], ◌∷◌, ◌++◌, ◌↔◌, arith}
use Rattle.std.proofs.Math.Path.{transport}
use Rattle.std.specs.Prelude.{Bool, true, false, ◌&&◌, ◌||◌, Option, Some, None, pos, negsuc, nat_le, codes, if◌then◌else◌}
use Rattle.std.specs.Str.{bytes_eq}
use Rattle.std.specs.List.{All}
use Rattle.std.proofs.lemmas.Bool.{false≢true, leb-true}
use Rattle.std.proofs.lemmas.List.Folds.{list_any-append}
use Rattle.std.proofs.lemmas.List.Elements.{All-append}
use Rattle.type_terms.specs.declared.term.Key.{Key}
use Rattle.type_terms.specs.declared.term.Key.TheVariants.{Int as IntKey, Atom as AtomKey}
use Rattle.type_terms.specs.declared.term.Term.{Term, Ints, AtomLit, AnyAtom, Or}
use Rattle.type_terms.specs.Keys.{Name}
use Rattle.type_terms.specs.Definitions.{given_definitions}
use Rattle.type_terms.specs.Instances.{Instance}
use Rattle.type_terms.specs.Reading.{le_int, at_least, at_most}
use Rattle.type_terms.proofs.KeyLaws.{name-refl}
use Rattle.type_terms.proofs.ReadingLaws.{read-Or}
use Rattle.key_sets.specs.declared.part.Part.{Part}
use Rattle.key_sets.specs.declared.part.Part.TheVariants.{Integers, Atom, Atoms}
use Rattle.key_sets.specs.declared.key_set.KeySet.{KeySet}
use Rattle.key_sets.specs.KeySets.{has}
use Rattle.key_sets.specs.Parts.{IsLimited, IsLimitedEnd, AreLimited, part_has, parts_have}
use Rattle.erl_runs.specs.Specs.{one_integer, range}
use Rattle.flat_modules.specs.FlatSpecs.{built_in_type}
use Rattle.erl_runs.specs.Value.{Value, integer, atom, nil, cons, tuple, map_of, named_fun, closure}
use Rattle.erl_runs.specs.Membership.{Program, InTerm, levels_below, layer, no_tag}
use Rattle.cert_checker.specs.FlatTypes.{has_value, HasValuesOf, IsSetOf, IsPartOf, AddsPartsOf, is_limited}
use Rattle.cert_checker.proofs.Lists.{some-inj, none-some}

nat_le-same : (n : ℕ) → nat_le n n ≡ true
nat_le-same n = grind arith

pub le_int-same : (z : ℤ) → le_int z z ≡ true
le_int-same (pos n) = nat_le-same n
le_int-same (negsuc n) = nat_le-same n

pub both : (a b : Bool) → a ≡ true → b ≡ true → (a && b) ≡ true
both true b p q = q
both false b p q = p

-- ---- the terms of one part

ints-same : (low high : Option ℤ) (program : Program) (i : Instance) (k : ℕ) (v : Value) → InTerm program k v (Ints low high) given_definitions i ↔ (has_value (part_has (Integers low high)) v ≡ true)
ints-same low high p i k (integer z) = ((λ h. h), (λ h. h))
ints-same low high p i k (atom a) = ((λ h. absurd h), (λ h. absurd (false≢true h)))
ints-same low high p i k nil = ((λ h. absurd h), (λ h. absurd (false≢true h)))
ints-same low high p i k (cons a b) = ((λ h. absurd h), (λ h. absurd (false≢true h)))
ints-same low high p i k (tuple a) = ((λ h. absurd h), (λ h. absurd (false≢true h)))
ints-same low high p i k (map_of a) = ((λ h. absurd h), (λ h. absurd (false≢true h)))
ints-same low high p i k (named_fun a b) = ((λ h. absurd h), (λ h. absurd (false≢true h)))
ints-same low high p i k (closure a b) = ((λ h. absurd h), (λ h. absurd (false≢true h)))

pub ints-values : (low high : Option ℤ) (n : ℤ) → (at_least low n && at_most high n) ≡ true → HasValuesOf (part_has (Integers low high)) (Ints low high)
ints-values low high n h = record { same = ints-same low high; some = (IntKey n, h) }

atom-same : (a : Name) (program : Program) (i : Instance) (k : ℕ) (v : Value) → InTerm program k v (AtomLit a) given_definitions i ↔ (has_value (part_has (Atom a)) v ≡ true)
atom-same a p i k (integer z) = ((λ h. absurd h), (λ h. absurd (false≢true h)))
atom-same a p i k (atom b) = ((λ h. h), (λ h. h))
atom-same a p i k nil = ((λ h. absurd h), (λ h. absurd (false≢true h)))
atom-same a p i k (cons b c) = ((λ h. absurd h), (λ h. absurd (false≢true h)))
atom-same a p i k (tuple b) = ((λ h. absurd h), (λ h. absurd (false≢true h)))
atom-same a p i k (map_of b) = ((λ h. absurd h), (λ h. absurd (false≢true h)))
atom-same a p i k (named_fun b c) = ((λ h. absurd h), (λ h. absurd (false≢true h)))
atom-same a p i k (closure b c) = ((λ h. absurd h), (λ h. absurd (false≢true h)))

atoms-same : (program : Program) (i : Instance) (k : ℕ) (v : Value) → InTerm program k v AnyAtom given_definitions i ↔ (has_value (part_has Atoms) v ≡ true)
atoms-same p i k (integer z) = ((λ h. absurd h), (λ h. absurd (false≢true h)))
atoms-same p i k (atom b) = ((λ h. refl), (λ h. tt))
atoms-same p i k nil = ((λ h. absurd h), (λ h. absurd (false≢true h)))
atoms-same p i k (cons b c) = ((λ h. absurd h), (λ h. absurd (false≢true h)))
atoms-same p i k (tuple b) = ((λ h. absurd h), (λ h. absurd (false≢true h)))
atoms-same p i k (map_of b) = ((λ h. absurd h), (λ h. absurd (false≢true h)))
atoms-same p i k (named_fun b c) = ((λ h. absurd h), (λ h. absurd (false≢true h)))
atoms-same p i k (closure b c) = ((λ h. absurd h), (λ h. absurd (false≢true h)))

limited-end : (n : ℤ) → is_limited n ≡ true → IsLimitedEnd (Some n)
limited-end n e = leb-true _ _ e

pub range-part : (low high : ℤ) → le_int low high ≡ true → is_limited low ≡ true → is_limited high ≡ true → IsPartOf (Integers (Some low) (Some high)) (Ints (Some low) (Some high))
range-part low high h l m = (ints-values (Some low) (Some high) low (both _ _ (le_int-same low) h), (limited-end low l, limited-end high m))

pub integer-part : (n : ℤ) → is_limited n ≡ true → IsPartOf (Integers (Some n) (Some n)) (one_integer n)
integer-part n h = range-part n n (le_int-same n) h h

pub integers-part : IsPartOf (Integers None None) (Ints None None)
integers-part = (ints-values None None (pos 0) refl, (tt, tt))

pub atom-part : (a : Name) → IsPartOf (Atom a) (AtomLit a)
atom-part a = (record { same = atom-same a; some = (AtomKey a, name-refl a) }, tt)

pub atoms-part : IsPartOf Atoms AnyAtom
atoms-part = (record { same = atoms-same; some = (AtomKey [], refl) }, tt)

-- ---- what a type expression means

pub range-reads : (low high : ℤ) (t : Term) → range low high ≡ Some t → is_limited low ≡ true → is_limited high ≡ true → IsPartOf (Integers (Some low) (Some high)) t
range-reads low high t e l m = go (le_int low high) refl e
  where
    go : (b : Bool) → le_int low high ≡ b → (if b then Some (Ints (Some low) (Some high)) else None) ≡ Some t → IsPartOf (Integers (Some low) (Some high)) t
    go true q e = subst (λ z. IsPartOf (Integers (Some low) (Some high)) z) (some-inj _ t e) (range-part low high q l m)
    go false q e = none-some t e

pub integer-reads : (name : Name) (t : Term) → bytes_eq name (codes "integer") ≡ true → built_in_type name ≡ Some t → IsPartOf (Integers None None) t
integer-reads name t q e = subst (λ z. IsPartOf (Integers None None) z) (some-inj _ t (sym (ap (λ (b : Bool). if b then Some (Ints None None) else (if bytes_eq name (codes "atom") then Some AnyAtom else None)) q) ∙ e)) integers-part

pub atom-reads : (name : Name) (t : Term) → bytes_eq name (codes "integer") ≡ false → built_in_type name ≡ Some t → IsPartOf Atoms t
atom-reads name t q e = go (bytes_eq name (codes "atom")) (sym (ap (λ (b : Bool). if b then Some (Ints None None) else (if bytes_eq name (codes "atom") then Some AnyAtom else None)) q) ∙ e)
  where
    go : (b : Bool) → (if b then Some AnyAtom else None) ≡ Some t → IsPartOf Atoms t
    go true e = subst (λ z. IsPartOf Atoms z) (some-inj _ t e) atoms-part
    go false e = none-some t e

-- ---- tests that agree, and unions

has_value-same : (f g : Key → Bool) (v : Value) → ((key : Key) → f key ≡ g key) → has_value f v ≡ has_value g v
has_value-same f g (integer z) h = h (IntKey z)
has_value-same f g (atom a) h = h (AtomKey a)
has_value-same f g nil h = refl
has_value-same f g (cons a b) h = refl
has_value-same f g (tuple a) h = refl
has_value-same f g (map_of a) h = refl
has_value-same f g (named_fun a b) h = refl
has_value-same f g (closure a b) h = refl

pub values-same : (f g : Key → Bool) (t : Term) → ((key : Key) → f key ≡ g key) → HasValuesOf g t → HasValuesOf f t
values-same f g t h d = record {
  same = λ p i k v. let e : has_value f v ≡ has_value g v = has_value-same f g v h in ((λ x. e ∙ (d.same p i k v).0 x), (λ x. (d.same p i k v).1 (sym e ∙ x)));
  some = (d.some.0, h d.some.0 ∙ d.some.1);
}

has_value-or : (f g : Key → Bool) (v : Value) → has_value (λ key. f key || g key) v ≡ (has_value f v || has_value g v)
has_value-or f g (integer z) = refl
has_value-or f g (atom a) = refl
has_value-or f g nil = refl
has_value-or f g (cons a b) = refl
has_value-or f g (tuple a) = refl
has_value-or f g (map_of a) = refl
has_value-or f g (named_fun a b) = refl
has_value-or f g (closure a b) = refl

or-tells : {A B : Type 0} (x y : Bool) → A ↔ (x ≡ true) → B ↔ (y ≡ true) → (((A → ⊥) × ((((B → ⊥) × (⊥ → ⊥)) → ⊥) → ⊥)) → ⊥) ↔ ((x || y) ≡ true)
or-tells true y a b = ((λ h. refl), (λ e n. n.0 (a.1 refl)))
or-tells false true a b = ((λ h. refl), (λ e n. n.1 (λ m. m.0 (b.1 refl))))
or-tells false false a b = ((λ h. absurd (h ((λ x. false≢true (a.0 x)), (λ z. z ((λ y. false≢true (b.0 y)), (λ x. x)))))), (λ e. absurd (false≢true e)))

or-true : (x y : Bool) → x ≡ true → (x || y) ≡ true
or-true true y e = refl
or-true false y e = absurd (false≢true e)

pub or-values : (f g : Key → Bool) (t u : Term) → HasValuesOf f t → HasValuesOf g u → HasValuesOf (λ key. f key || g key) (Or (t ∷ u ∷ []))
or-values f g t u a b = record {
  same = λ p i k v.
      let q = or-tells (has_value f v) (has_value g v) (a.same p i k v) (b.same p i k v) in
      let e : has_value (λ key. f key || g key) v ≡ (has_value f v || has_value g v) = has_value-or f g v in
      let r = read-Or (layer p (levels_below p k) k v) no_tag given_definitions i (t ∷ u ∷ []) in
      ((λ x. e ∙ q.0 (transport r x)), (λ x. transport (sym r) (q.1 (sym e ∙ x))));
  some = (a.some.0, or-true (f a.some.0) (g a.some.0) a.some.1);
}

-- ---- lists of parts

or-false : (b : Bool) → (b || false) ≡ b
or-false true = refl
or-false false = refl

all-one : {A : Type 0} (P : A → Type 0) (x : A) → P x → All P (x ∷ [])
all-one P x h zero d l = h
all-one P x h (suc k) d l = absurd (omega arith)

pub push-adds : (part : Part) (t : Term) (old new : List Part) → new ≡ old ++ part ∷ [] → IsPartOf part t → AddsPartsOf t old new
push-adds part t old new e h = record {
  added = part ∷ [];
  joined = e;
  limited = all-one IsLimited part h.1;
  values = values-same (parts_have (part ∷ [])) (part_has part) t (λ key. or-false (part_has part key)) h.0;
}

pub or-adds : (t u : Term) (old mid new : List Part) → AddsPartsOf t old mid → AddsPartsOf u mid new → AddsPartsOf (Or (t ∷ u ∷ [])) old new
or-adds t u old mid new a b = record {
  added = a.added ++ b.added;
  joined = b.joined ∙ (ap (λ z. z ++ b.added) a.joined ∙ append-parts old a.added b.added);
  limited = All-append IsLimited a.added b.added a.limited b.limited;
  values = values-same (parts_have (a.added ++ b.added)) (λ key. parts_have a.added key || parts_have b.added key) (Or (t ∷ u ∷ [])) (λ key. list_any-append (λ part. part_has part key) a.added b.added) (or-values (parts_have a.added) (parts_have b.added) t u a.values b.values);
}
  where
    append-parts : (xs ys zs : List Part) → (xs ++ ys) ++ zs ≡ xs ++ (ys ++ zs)
    append-parts [] ys zs = refl
    append-parts (x ∷ xs) ys zs = ap (λ z. x ∷ z) (append-parts xs ys zs)

pub parts-set : (set : KeySet) (t : Term) (old new : List Part) → old ≡ [] → AddsPartsOf t old new → ((key : Key) → has set key ≡ parts_have new key) → IsSetOf set t
parts-set set t old new e a h = values-same (has set) (parts_have a.added) t (λ key. h key ∙ ap (λ z. parts_have z key) (a.joined ∙ ap (λ z. z ++ a.added) e)) a.values

pub parts-limited : (t : Term) (old new : List Part) → old ≡ [] → AddsPartsOf t old new → AreLimited new
parts-limited t old new e a = subst AreLimited (sym (a.joined ∙ ap (λ z. z ++ a.added) e)) a.limited
