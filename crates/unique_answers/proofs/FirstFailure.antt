-- The first constraint that fails is one.
use Rattle.std.proofs.Common.{◌≡◌, refl, sym, ap, subst, ◌∙◌, ℕ, List, [], ◌∷◌, ◌++◌, true}
use Rattle.type_terms.specs.declared.spec.Kind.{Kind}
use Rattle.erl_tree.specs.Lists.{Every}
use Rattle.erl_tree.specs.declared.form.Module.{Module}
use Rattle.erl_tree.specs.declared.token.Place.{Place}
use Rattle.cert_checker.specs.Constraints.{Constraint, Holds, Test, FindsFits, owed_of}
use Rattle.cert_checker.specs.Failures.{MeetsConstraints, ShowsFirstFailure, IsFirstFailure}
use Rattle.cert_checker.specs.declared.refusal.FirstRefusal.{FirstRefusal}
use Rattle.cert_checker.specs.declared.refusal.FirstRefusal.TheVariants.{Failed, NoMemory}
use Rattle.cert_checker.specs.declared.refusal.Shown.{Shown}

-- a test that always says yes finds what fits
always : Test
always types parameters = true

finds : FindsFits always
unfolding always
finds types parameters h = refl

one-in-list : (xs ys zs ws : List Constraint) (c d : Constraint) → xs ++ c ∷ zs ≡ ys ++ d ∷ ws → Every Holds xs → Every Holds ys → (Holds c → ⊥) → (Holds d → ⊥) → c ≡ d
one-in-list [] [] zs ws c d e h k f g = cc
one-in-list [] (y ∷ ys) zs ws c d e h k f g = let same : y ≡ c = cc in absurd (f (subst Holds same k.0))
one-in-list (x ∷ xs) [] zs ws c d e h k f g = let same : x ≡ d = cc in absurd (g (subst Holds same h.0))
one-in-list (x ∷ xs) (y ∷ ys) zs ws c d e h k f g = let rest : xs ++ c ∷ zs ≡ ys ++ d ∷ ws = cc in one-in-list xs ys zs ws c d rest h.1 k.1 f g

held : (xs zs : List Constraint) (c : Constraint) → Every Holds (xs ++ c ∷ zs) → Holds c
held [] zs c h = h.0
held (x ∷ xs) zs c h = held xs zs c h.1

module _ (owed : List Constraint) where
  one-constraint : (f g : ℕ) (p q : Place) (k l : Kind) (s t : Shown) → IsFirstFailure owed f p k s → IsFirstFailure owed g q l t → (f ≡ g) × ((p ≡ q) × (k ≡ l))
  one-constraint f g p q k l s t a b =
      let same : record { function = f; place = p; kind = k; left = a.left; right = a.right } ≡ record { function = g; place = q; kind = l; left = b.left; right = b.right } =
      one-in-list a.before b.before a.after b.after _ _ (sym a.listed ∙ b.listed) a.earlier b.earlier a.fails b.fails
      in (ap (λ (c : Constraint). c.function) same, (ap (λ (c : Constraint). c.place) same, ap (λ (c : Constraint). c.kind) same))

pub one-failure : (m : Module) (f g : ℕ) (p q : Place) (k l : Kind) (s t : Shown) → ShowsFirstFailure m (Failed f p k s) → ShowsFirstFailure m (Failed g q l t) → (f ≡ g) × ((p ≡ q) × (k ≡ l))
one-failure m f g p q k l s t a b = one-constraint (owed_of always m) f g p q k l s t (a always finds).0 (b always finds).0

pub met-or-failed : (m : Module) (refusal : FirstRefusal) → MeetsConstraints m → ShowsFirstFailure m refusal → refusal ≡ NoMemory
met-or-failed m NoMemory h k = refl
met-or-failed m (Failed f p k s) h a =
    let first : IsFirstFailure (owed_of always m) f p k s = (a always finds).0 in
    absurd (first.fails (held first.before first.after _ (subst (Every Holds) first.listed (h always finds))))
