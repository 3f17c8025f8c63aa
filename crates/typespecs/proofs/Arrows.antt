-- What is read of the arrows of a module's specs, one after the other, and the clauses whose arrows they are.
use Rattle.std.proofs.Common.{◌≡◌, ◌∙◌, ℕ, zero, suc, ◌+◌, ◌<◌, List, [], ◌∷◌, ◌++◌, refl, ap, sym, subst, map, length, take, get_or, Option, Some, arith}
use Rattle.std.specs.Prelude.{slice_get, MatchOption}
use Rattle.std.specs.Option.{option_map}
use Rattle.std.specs.Borrow.{Bor}
use Rattle.std.proofs.lemmas.List.{map-append, take_more}
use Rattle.std.proofs.lemmas.Option.{slice_get-get_or, slice_get-map, slice_get_read, slice_get_within, get_or_from_slice_get}
use Rattle.type_terms.specs.declared.spec.Arrow.{Arrow}
use Rattle.erl_tree.specs.declared.token.Place.{Place}
use Rattle.erl_tree.specs.declared.token.Node.{Node}
use Rattle.erl_tree.specs.declared.form.SpecKind.{SpecKind}
use Rattle.erl_tree.specs.declared.form.SpecClauseKind.{SpecClauseKind}
use Rattle.erl_tree.specs.declared.form.Module.{Module}
use Rattle.erl_tree.specs.Lists.{Every}
use Rattle.erl_runs.specs.Specs.{specs_in}
use Rattle.typespecs_rules.specs.declared.specs.Specs.{Specs}
use Rattle.typespecs_rules.specs.declared.fault.TypeFault.TheVariants.{NegatedFun}
use Rattle.typespecs_rules.specs.TypeParts.{from_each}
use Rattle.typespecs_rules.specs.TypeFaults.{HasTerms, IsNotSigned, IsWellSignedArrow, arrows_of, spec_clauses, fault_at}
use Rattle.typespecs.specs.Names.{arrows_seen, clause_places, clause_places_among}
use Rattle.typespecs_lemmas.proofs.EachHasAPlace.{arrow-clauses}
use Rattle.typespecs.proofs.Inversion.{some-is}

-- ---- one of a list

pub slice_there : {A : Type 0} (xs : List A) (n : ℕ) → n < length xs → (x : A) × (slice_get xs n ≡ Some x)
slice_there [] n lt = absurd (grind (arith))
slice_there (x ∷ xs) n lt = (get_or (x ∷ xs) n x, slice_get-get_or (x ∷ xs) n x lt)

pub take_is : {A : Type 0} (xs : List A) (i : ℕ) (x : A) → slice_get xs i ≡ Some x → take (i + 1) xs ≡ take i xs ++ x ∷ []
take_is xs i x e = take_more xs i x (slice_get_within xs i x e) ∙ ap (λ y. take i xs ++ y ∷ []) (get_or_from_slice_get xs i x x e)

module _ {A : Type 0} (P : A → Type 0) where
  pub every_more : (xs : List A) (x : A) → Every P xs → P x → Every P (xs ++ x ∷ [])
  every_more [] x h p = (p, tt)
  every_more (y ∷ xs) x h p = (h.0, every_more xs x h.1 p)

  pub every_next : (xs : List A) (i : ℕ) (x : A) → slice_get xs i ≡ Some x → Every P (take i xs) → P x → Every P (take (i + 1) xs)
  every_next xs i x e h p = subst (Every P) (sym (take_is xs i x e)) (every_more (take i xs) x h p)

  pub every_at : (xs : List A) (i : ℕ) (x : A) → slice_get xs i ≡ Some x → Every P xs → P x
  every_at [] i x e h = absurd (grind (arith, slice_get_within))
  every_at (y ∷ xs) zero x e h = subst P (some-is e) h.0
  every_at (y ∷ xs) (suc i) x e h = every_at xs i x e h.1

pub seen_is : (bs : List (Bor Arrow)) (i : ℕ) (b : Bor Arrow) → i < length bs → b ≡ get_or bs i b → slice_get (arrows_seen bs) i ≡ Some b.now
seen_is bs i b lt is = slice_get-map (λ (b : Bor Arrow). b.now) bs i ∙ ap (option_map (λ (b : Bor Arrow). b.now)) (slice_get_read bs (length bs) i b refl lt is)

-- ---- places

abbrev clauses_in : List (Node SpecKind) → List (Node SpecClauseKind)
clauses_in ss = from_each (λ (s : Node SpecKind). s.kind.clauses) ss

places_are : (ss : List (Node SpecKind)) → from_each clause_places ss ≡ map (λ (c : Node SpecClauseKind). c.place) (clauses_in ss)
places_are [] = refl
places_are (s ∷ ss) = ap (λ ps. clause_places s ++ ps) (places_are ss) ∙ sym (map-append (λ (c : Node SpecClauseKind). c.place) s.kind.clauses (clauses_in ss))

-- the first clause that isn't well signed, where its arrow is the first that isn't
pub negated_at : (m : Module) (s : Specs) (n : ℕ) (a : Arrow) → HasTerms m s → slice_get (arrows_of s) n ≡ Some a → (IsWellSignedArrow s.defs a → ⊥) → Every (IsWellSignedArrow s.defs) (take n (arrows_of s))
    → (p : Place) × (slice_get (clause_places_among m.forms) n ≡ Some p) × IsNotSigned m s (fault_at NegatedFun p)
negated_at m s n a has there negated before =
    let clause = slice_there (spec_clauses m) n (subst (λ k. n < k) (arrow-clauses m s has.terms) (slice_get_within (arrows_of s) n a there)) in (
      (clause.0).place,
      ap (λ ps. slice_get ps n) (places_are (specs_in m.forms)) ∙ (slice_get-map (λ (c : Node SpecClauseKind). c.place) (spec_clauses m) n ∙ ap (option_map (λ (c : Node SpecClauseKind). c.place)) clause.1),
      record { number = n; clause = clause.0; arrow = a; written = clause.1; meant = there; fault = refl; not_signed = negated; first = λ i b lt at. every_at (IsWellSignedArrow s.defs) (take n (arrows_of s)) i b (in_take n (arrows_of s) i b lt at) before },
    )
  where
    in_take : (n : ℕ) (xs : List Arrow) (i : ℕ) (b : Arrow) → i < n → slice_get xs i ≡ Some b → slice_get (take n xs) i ≡ Some b
    in_take zero xs i b lt at = absurd (grind (arith))
    in_take (suc n) [] i b lt at = at
    in_take (suc n) (x ∷ xs) zero b lt at = at
    in_take (suc n) (x ∷ xs) (suc i) b lt at = in_take n xs i b (grind (arith)) at

-- the answer of a look at the places, where an arrow isn't well signed
pub negated_answer : (m : Module) (s : Specs) (arrows : List Arrow) (places : List Place) (n : ℕ) (o : Option Place) → HasTerms m s → arrows ≡ arrows_of s → places ≡ clause_places_among m.forms → o ≡ slice_get places n
    → ((a : Arrow) × (slice_get arrows n ≡ Some a) × (IsWellSignedArrow s.defs a → ⊥) × Every (IsWellSignedArrow s.defs) (take n arrows))
    → MatchOption o (Every (IsWellSignedArrow s.defs) (arrows_of s)) (λ p. IsNotSigned m s (fault_at NegatedFun p))
negated_answer m s arrows places n o has arrows_are places_are o_is found =
    let given = subst (λ xs. (a : Arrow) × (slice_get xs n ≡ Some a) × (IsWellSignedArrow s.defs a → ⊥) × Every (IsWellSignedArrow s.defs) (take n xs)) arrows_are found in
    let at = negated_at m s n given.0 has given.1 given.2 given.3 in
    subst (λ (p : Option Place). MatchOption p (Every (IsWellSignedArrow s.defs) (arrows_of s)) (λ p. IsNotSigned m s (fault_at NegatedFun p))) (sym (o_is ∙ (ap (λ ps. slice_get ps n) places_are ∙ at.1))) at.2
