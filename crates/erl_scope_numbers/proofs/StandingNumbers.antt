-- Which places of a module have a number, and which numbers have a place.
use Rattle.std.proofs.Common.{◌≡◌, ℕ, zero, suc, ◌≤◌, ◌↔◌, inl, inr, Bool, true, false, cond, List, [], ◌∷◌, ◌++◌, length, slice_get, refl, sym, ap, subst, ◌∙◌, Option, Some, None, arith}
use Rattle.std.specs.Option.{option_map}
use Rattle.std.proofs.lemmas.Option.{slice_get_past}
use Rattle.erl_tree.specs.Lists.{Among, Every}
use Rattle.erl_tree.specs.declared.token.Place.{Place}
use Rattle.erl_tree.specs.declared.form.Module.{Module}
use Rattle.erl_scope_rules.specs.declared.fault.NameFault.{NameFault}
use Rattle.erl_scope_rules.specs.declared.fault.PlacedFault.{PlacedFault}
use Rattle.erl_scope_rules.specs.declared.role.Role.{Role}
use Rattle.erl_scope_rules.specs.declared.role.Role.TheVariants.{Used, Met, Renewed}
use Rattle.erl_scope_rules.specs.Occurrences.{Mark, Occurrence, occurrences_of}
use Rattle.erl_scope_rules.specs.Bindings.{innermost, bound_by_role, is_binding, binding_of, bindings_in, bindings_of, same_place, next_number, number_at, number_of as number_of_mark, number_standing_at, variable_number, binding_place}
use Rattle.erl_scope_rules.specs.Resolution.{resolved_of}
use Rattle.erl_scope_rules.specs.ScopeFaults.{at, faults_of_each, faults_of_optional, stands_among, role_fault, fault_of, occurrence_faults, forms_faults, HasRightNames}
use Rattle.erl_scope_rules.proofs.SeenMarks.{binding_seen}
use Rattle.erl_scope_numbers.specs.Table.{Table, IsTableOf, number_of, place_of}
use Rattle.erl_scope_numbers.proofs.Places.{same_place-Decides}
use Rattle.erl_scope_numbers.proofs.OfModules.{number_of-variable_number, place_of-binding_place}

-- ---- lists

append-none : {A : Type 0} (xs ys : List A) → xs ++ ys ≡ [] → (xs ≡ []) × (ys ≡ [])
append-none [] ys e = (refl, e)
append-none (x ∷ xs) ys e = absurd (cc)

none-at : {A : Type 0} (of : A → List PlacedFault) (x : A) (xs : List A) → faults_of_each of xs ≡ [] → Among x xs → of x ≡ []
none-at of x [] e a = absurd a
none-at of x (y ∷ xs) e (inl s) = ap of s ∙ (append-none (of y) (faults_of_each of xs) e).0
none-at of x (y ∷ xs) e (inr a) = none-at of x xs (append-none (of y) (faults_of_each of xs) e).1 a

every-among : {A : Type 0} (P : A → Type 0) (xs : List A) → ((x : A) → Among x xs → P x) → Every P xs
every-among P [] f = tt
every-among P (x ∷ xs) f = (f x (inl refl), every-among P xs (λ y a. f y (inr a)))

some-same : {A : Type 0} (a b : A) → Some a ≡ Some b → a ≡ b
some-same a b e = cc

some-none : {A : Type 0} (o : Option A) (a : A) → o ≡ Some a → o ≡ None → ⊥
some-none o a e f = cc

-- ---- the binding of a variable

no-fault : (fault : Option NameFault) (place : Place) → faults_of_optional (λ (f : NameFault). at f place) fault ≡ [] → fault ≡ None
no-fault None place e = refl
no-fault (Some f) place e = absurd (cc)

-- a variable that isn't at fault has a binding: only a use can be without, and is a fault there
faultless-bound : (role : Role) (mark : Mark) (outer : Option Mark) (ended : Bool) → role_fault role outer ended ≡ None → (b : Mark) × (bound_by_role role mark outer ≡ Some b)
faultless-bound Used mark None true e = absurd (cc)
faultless-bound Used mark None false e = absurd (cc)
faultless-bound Used mark (Some b) ended e = (b, refl)
faultless-bound Met mark None ended e = (mark, refl)
faultless-bound Met mark (Some b) ended e = (b, refl)
faultless-bound Renewed mark outer ended e = (mark, refl)

right-bound : (m : Module) → HasRightNames m → (o : Occurrence) → Among o (occurrences_of m) → (b : Mark) × (binding_of o ≡ Some b)
right-bound m h o a =
    let faultless : occurrence_faults o ≡ [] = none-at occurrence_faults o (occurrences_of m) (append-none (faults_of_each occurrence_faults (occurrences_of m)) (forms_faults m [] m.forms) h).0 a in
    faultless-bound o.mark.role o.mark (innermost o.mark.name o.sees) (stands_among o.mark.name o.ended) (no-fault (fault_of o) o.mark.place faultless)

-- ---- its number

abbrev IsNumber : Option ℕ → Type 0
IsNumber o = (n : ℕ) × (o ≡ Some n)

-- a binding has a number, that of the first binding at its place
among-number : (b : Mark) (marks : List Mark) → Among b marks → IsNumber (number_at b.place marks)
among-number b [] a = absurd a
among-number b (m ∷ marks) (inl e) = (zero, ap (λ same. cond same (Some zero) (next_number (number_at b.place marks))) (ap (λ (c : Mark). same_place c.place b.place) (sym e) ∙ (same_place-Decides b.place b.place).1 refl))
among-number b (m ∷ marks) (inr a) = by (same_place m.place b.place) (among-number b marks a)
  where
    by : (same : Bool) → IsNumber (number_at b.place marks) → IsNumber (cond same (Some zero) (next_number (number_at b.place marks)))
    by true h = (zero, refl)
    by false h = (suc h.0, ap next_number h.1)

-- so each variable of a module with right names has one
right-number : (m : Module) → HasRightNames m → (o : Occurrence) → Among o (occurrences_of m) → IsNumber (number_of_mark (binding_of o) (bindings_of m))
right-number m h o a =
    let bound : (b : Mark) × (binding_of o ≡ Some b) = right-bound m h o a in
    let number : IsNumber (number_at bound.0.place (bindings_of m)) = among-number bound.0 (bindings_of m) (binding_seen m o bound.0 a bound.1) in
    (number.0, ap (λ b. number_of_mark b (bindings_of m)) bound.1 ∙ number.1)

-- ---- the numbers of places

-- no variable stands at the place
abbrev NoneStands : Place → List Occurrence → Type 0
NoneStands place os = Every (λ (o : Occurrence). same_place o.mark.place place ≡ false) os

none_stands-no_number : (place : Place) (marks : List Mark) (os : List Occurrence) → NoneStands place os → number_standing_at place os marks ≡ None
none_stands-no_number place marks [] h = refl
none_stands-no_number place marks (o ∷ os) h = ap (λ same. cond same (number_of_mark (binding_of o) marks) (number_standing_at place os marks)) h.0 ∙ none_stands-no_number place marks os h.1

no_number-none_stands : (place : Place) (marks : List Mark) (os : List Occurrence) → Every (λ (o : Occurrence). IsNumber (number_of_mark (binding_of o) marks)) os → number_standing_at place os marks ≡ None → NoneStands place os
no_number-none_stands place marks [] h e = tt
no_number-none_stands place marks (o ∷ os) h e = by (same_place o.mark.place place) refl e (no_number-none_stands place marks os h.1)
  where
    by : (same : Bool) → same_place o.mark.place place ≡ same → cond same (number_of_mark (binding_of o) marks) (number_standing_at place os marks) ≡ None → (number_standing_at place os marks ≡ None → NoneStands place os)
        → (same_place o.mark.place place ≡ false) × NoneStands place os
    by true s e more = absurd (some-none (number_of_mark (binding_of o) marks) h.0.0 h.0.1 e)
    by false s e more = (s, more e)

pub no_number-where_none_stands : (m : Module) → HasRightNames m → (place : Place) → (variable_number m place ≡ None) ↔ Every (λ (o : Occurrence). same_place o.mark.place place ≡ false) (occurrences_of m)
no_number-where_none_stands m h place = (
  no_number-none_stands place (bindings_of m) (occurrences_of m) (every-among (λ (o : Occurrence). IsNumber (number_of_mark (binding_of o) (bindings_of m))) (occurrences_of m) (right-number m h)),
  none_stands-no_number place (bindings_of m) (occurrences_of m),
)

-- ---- the places of numbers

abbrev place_of_mark : Mark → Place
place_of_mark m = m.place

-- a binding stands at the place
abbrev BindingStands : Place → List Occurrence → Type 0
BindingStands p os = (o : Occurrence) × Among o os × (is_binding o ≡ true) × (o.mark.place ≡ p)

binding_stands-behind : (p : Place) (o : Occurrence) (os : List Occurrence) → BindingStands p os → BindingStands p (o ∷ os)
binding_stands-behind p o os h = (h.0, inr h.1, h.2, h.3)

place-binding_stands : (os : List Occurrence) (n : ℕ) (p : Place) → option_map place_of_mark (slice_get (bindings_in os) n) ≡ Some p → BindingStands p os
place-binding_stands [] n p e = absurd (cc)
place-binding_stands (o ∷ os) n p e = by (is_binding o) refl n e (λ k. place-binding_stands os k p)
  where
    by : (binds : Bool) → is_binding o ≡ binds → (k : ℕ) → option_map place_of_mark (slice_get (cond binds (o.mark ∷ bindings_in os) (bindings_in os)) k) ≡ Some p
        → ((k : ℕ) → option_map place_of_mark (slice_get (bindings_in os) k) ≡ Some p → BindingStands p os) → BindingStands p (o ∷ os)
    by true s zero e more = (o, inl refl, s, some-same o.mark.place p e)
    by true s (suc k) e more = binding_stands-behind p o os (more k e)
    by false s k e more = binding_stands-behind p o os (more k e)

pub binding-stands : (m : Module) (n : ℕ) (p : Place) → binding_place m n ≡ Some p → (o : Occurrence) × Among o (occurrences_of m) × (is_binding o ≡ true) × (o.mark.place ≡ p)
binding-stands m n p e = place-binding_stands (occurrences_of m) n p e

no_place-past : (marks : List Mark) (n : ℕ) → option_map place_of_mark (slice_get marks n) ≡ None → length marks ≤ n
no_place-past [] n e = omega arith
no_place-past (m ∷ marks) zero e = absurd (cc)
no_place-past (m ∷ marks) (suc n) e = let past : length marks ≤ n = no_place-past marks n e in omega arith

pub no_place-past_the_bindings : (m : Module) (n : ℕ) → (binding_place m n ≡ None) ↔ (length (bindings_of m) ≤ n)
no_place-past_the_bindings m n = (no_place-past (bindings_of m) n, λ past. ap (option_map place_of_mark) (slice_get_past (bindings_of m) n past))

-- ---- tables

pub no_number_in_table : (m : Module) (table : Table) → IsTableOf (resolved_of m) table → HasRightNames m → (place : Place) → (number_of table place ≡ None) ↔ Every (λ (o : Occurrence). same_place o.mark.place place ≡ false) (occurrences_of m)
no_number_in_table m table is h place = subst (λ n. (n ≡ None) ↔ Every (λ (o : Occurrence). same_place o.mark.place place ≡ false) (occurrences_of m)) (sym (number_of-variable_number m table place is)) (no_number-where_none_stands m h place)

pub binding_in_table : (m : Module) (table : Table) → IsTableOf (resolved_of m) table → (n : ℕ) (p : Place) → place_of table n ≡ Some p → (o : Occurrence) × Among o (occurrences_of m) × (is_binding o ≡ true) × (o.mark.place ≡ p)
binding_in_table m table is n p e = binding-stands m n p (sym (place_of-binding_place m table n is) ∙ e)

pub no_place_in_table : (m : Module) (table : Table) → IsTableOf (resolved_of m) table → (n : ℕ) → (place_of table n ≡ None) ↔ (length (bindings_of m) ≤ n)
no_place_in_table m table is n = subst (λ (o : Option Place). (o ≡ None) ↔ (length (bindings_of m) ≤ n)) (sym (place_of-binding_place m table n is)) (no_place-past_the_bindings m n)
