-- What is held after one pair more.
use Rattle.std.proofs.Common.{◌≡◌, ◌≢◌, ℕ, List, [], ◌∷◌, ◌++◌, refl, ap, sym, subst, ◌∙◌, Option, Some, None, true, false, bytes_eq, arith}
use Rattle.std.proofs.lemmas.Slice.Eq.{bytes_eq-Decides}
use Rattle.std.proofs.lemmas.Bool.{false_from_ne_true}
use Rattle.std.specs.Option.{ForSome}
use Rattle.tool_io.specs.Memory.{held_in, either, when}
use Rattle.tool_io.specs.Outside.{KeepsOthers, Holdings}

either-assoc : (a b c : Option (List ℕ)) → either (either a b) c ≡ either a (either b c)
either-assoc (Some x) b c = refl
either-assoc None b c = refl

-- the last pair counts before all others
pub held_in_more : (pairs : List (List ℕ × List ℕ)) (pair : List ℕ × List ℕ) (name : List ℕ) → held_in (pairs ++ pair ∷ []) name ≡ either (when (bytes_eq pair.0 name) pair.1) (held_in pairs name)
held_in_more [] pair name = elim (bytes_eq pair.0 name) as (λ b. either None (when b pair.1) ≡ either (when b pair.1) None) [ true ↦ refl | false ↦ refl ]
held_in_more (p ∷ pairs) pair name =
    ap (λ o. either o (when (bytes_eq p.0 name) p.1)) (held_in_more pairs pair name) ∙ either-assoc (when (bytes_eq pair.0 name) pair.1) (held_in pairs name) (when (bytes_eq p.0 name) p.1)

told-is : (held files : Holdings) → Some held ≡ Some files → held ≡ files
told-is held files e = cc

same-true : (name : List ℕ) → bytes_eq name name ≡ true
same-true name = grind (arith, bytes_eq-Decides)

other-false : (name other : List ℕ) → other ≢ name → bytes_eq name other ≡ false
other-false name other differs = false_from_ne_true (bytes_eq name other) (λ same. differs (sym (grind (arith, bytes_eq-Decides))))

pub held_in-added : (pairs more : List (List ℕ × List ℕ)) (name bytes : List ℕ) → more ≡ pairs ++ (name, bytes) ∷ [] → held_in more name ≡ Some bytes
held_in-added pairs more name bytes e = rw (e, held_in_more pairs (name, bytes) name, same-true name) refl

pub held_in-other : (pairs more : List (List ℕ × List ℕ)) (name bytes other : List ℕ) → more ≡ pairs ++ (name, bytes) ∷ [] → other ≢ name → held_in more other ≡ held_in pairs other
held_in-other pairs more name bytes other e differs = rw (e, held_in_more pairs (name, bytes) other, other-false name other differs) refl

-- the pair that was added is held
pub holds_added : (pairs more : List (List ℕ × List ℕ)) (name bytes : List ℕ) → more ≡ pairs ++ (name, bytes) ∷ [] → ForSome (Some (held_in more)) (λ files. files name ≡ Some bytes)
holds_added pairs more name bytes e files told =
    subst (λ (f : Holdings). f name ≡ Some bytes) (told-is (held_in more) files told) (held_in-added pairs more name bytes e)

-- other names keep what they have
pub keeps_others : (pairs more : List (List ℕ × List ℕ)) (name bytes : List ℕ) → more ≡ pairs ++ (name, bytes) ∷ [] → KeepsOthers (Some (held_in pairs)) (Some (held_in more)) name
keeps_others pairs more name bytes e old told_old new told_new other differs =
    subst (λ (f : Holdings). f other ≡ old other) (told-is (held_in more) new told_new)
    (subst (λ (f : Holdings). held_in more other ≡ f other) (told-is (held_in pairs) old told_old) (held_in-other pairs more name bytes other e differs))
