-- What the calls on a scope make of what is in scope, by counts that are no larger than what is there.
use Rattle.std.proofs.Common.{◌≡◌, refl, ap, sym, ◌∙◌, ℕ, ◌-◌, List, [], ◌∷◌, ◌++◌, length, take, drop, arith, Bool, true, false}
use Rattle.std.specs.Prelude.{min, Option, Some, None, Result, Ok, Err, OnOk}
use Rattle.std.specs.Option.{option_map}
use Rattle.type_terms.specs.Keys.{Name}
use Rattle.erl_tree.specs.declared.token.Place.{Place}
use Rattle.erl_scope_rules.specs.declared.role.Role.{Role}
use Rattle.erl_scope_rules.specs.declared.role.Role.TheVariants.{Used, Met, Renewed}
use Rattle.erl_scope_rules.specs.declared.resolved.Resolved.{Resolved}
use Rattle.erl_scope_rules.specs.Bindings.{innermost}
use Rattle.erl_scope_rules.specs.ScopeFaults.{stands_among}
use Rattle.erl_scope_rules.specs.Resolution.{resolved_as}
use Rattle.erl_scope_rules.specs.Occurrences.{Mark, names_of, unseen, use_at}
use Rattle.erl_scope_stack.specs.State.{State, above, below, with_body_ended, with_part_aside, with_parts_ended, with_only, with_head_ended}
use Rattle.erl_scope_variables.specs.declared.walk.Walk.{Walk}
use Rattle.erl_scope_variables.specs.declared.walk.Start.{Start}
use Rattle.erl_scope_variables.specs.Outcomes.{resolved_at}
use Rattle.erl_scope_variables.specs.Walks.{start_of, unseen_since, body_ended_since, part_aside_since, parts_ended_since, forgotten_since, head_ended_since, after_part}
use Rattle.erl_scope_variables.proofs.WalkLaws.{below-itself}

pub on_ok : {T E P Q : Type 0} → (P → Q) → (r : Result T E) → OnOk r P → OnOk r Q
on_ok f (Ok x) h = f h
on_ok f (Err e) h = h

minus-min : (l n : ℕ) → l - min n l ≡ l - n
minus-min l n = omega arith

pub above-min : {A : Type 0} (n : ℕ) (xs : List A) → above (min n (length xs)) xs ≡ above n xs
above-min n xs = ap (λ m. take m xs) (minus-min (length xs) n)

pub below-min : {A : Type 0} (n : ℕ) (xs : List A) → below (min n (length xs)) xs ≡ below n xs
below-min n xs = ap (λ m. drop m xs) (minus-min (length xs) n)

module _ (w : Walk) (start within : Start) (seen : within.seen ≡ min start.seen (length w.scope.sees)) (ended : within.ended ≡ min start.ended (length w.scope.ended)) (aside : within.aside ≡ min start.aside (length w.scope.aside)) where
  sees-below : below within.seen w.scope.sees ≡ below start.seen w.scope.sees
  sees-below = ap (λ n. below n w.scope.sees) seen ∙ below-min start.seen w.scope.sees

  sees-above : above within.seen w.scope.sees ≡ above start.seen w.scope.sees
  sees-above = ap (λ n. above n w.scope.sees) seen ∙ above-min start.seen w.scope.sees

  ended-below : below within.ended w.scope.ended ≡ below start.ended w.scope.ended
  ended-below = ap (λ n. below n w.scope.ended) ended ∙ below-min start.ended w.scope.ended

  ended-above : above within.ended w.scope.ended ≡ above start.ended w.scope.ended
  ended-above = ap (λ n. above n w.scope.ended) ended ∙ above-min start.ended w.scope.ended

  aside-below : below within.aside w.scope.aside ≡ below start.aside w.scope.aside
  aside-below = ap (λ n. below n w.scope.aside) aside ∙ below-min start.aside w.scope.aside

  aside-above : above within.aside w.scope.aside ≡ above start.aside w.scope.aside
  aside-above = ap (λ n. above n w.scope.aside) aside ∙ above-min start.aside w.scope.aside

  module _ (s : State) where
    abbrev Reached : Walk → Type 0
    Reached v = record { scope = s; found = w.found } ≡ v

    pub ends_body : s ≡ with_body_ended within.seen w.scope → Reached (body_ended_since start w)
    unfolding body_ended_since
    ends_body is = λ j. record { scope = (is ∙ λ i. record { sees = sees-below i; ended = names_of (sees-above i) ++ w.scope.ended; aside = w.scope.aside }) j; found = w.found }

    pub ends_head : s ≡ with_head_ended within.seen within.ended w.scope → Reached (head_ended_since start w)
    unfolding head_ended_since
    ends_head is = λ j. record { scope = (is ∙ λ i. record { sees = sees-below i; ended = unseen (sees-above i) (ended-above i) ++ ended-below i; aside = w.scope.aside }) j; found = w.found }

    pub sets_aside : s ≡ with_part_aside within.seen within.ended w.scope → Reached (part_aside_since start w)
    unfolding part_aside_since
    sets_aside is = λ j. record { scope = (is ∙ λ i. record { sees = sees-below i; ended = ended-below i; aside = names_of (sees-above i) ++ (ended-above i ++ w.scope.aside) }) j; found = w.found }

    pub ends_parts : s ≡ with_parts_ended within.aside w.scope → Reached (parts_ended_since start w)
    unfolding parts_ended_since
    ends_parts is = λ j. record { scope = (is ∙ λ i. record { sees = w.scope.sees; ended = aside-above i ++ w.scope.ended; aside = aside-below i }) j; found = w.found }

    pub forgets : s ≡ with_only within.seen within.ended within.aside w.scope → Reached (forgotten_since start w)
    unfolding forgotten_since
    forgets is = λ j. record { scope = (is ∙ λ i. record { sees = sees-below i; ended = ended-below i; aside = aside-below i }) j; found = w.found }

    pub unsees : (here : Start) → here ≡ start_of w → s ≡ with_only within.seen here.ended here.aside w.scope → Reached (unseen_since start w)
    unfolding unseen_since
    unsees here at is = λ j. record {
      scope = (is ∙ ((λ i. with_only within.seen (at i).ended (at i).aside w.scope) ∙ λ i. record { sees = sees-below i; ended = below-itself w.scope.ended i; aside = below-itself w.scope.aside i })) j;
      found = w.found;
    }

-- ---- what becomes of a variable

pub resolved-same : (m : Mark) (outer : Option Mark) (has_ended : Bool) → resolved_as m outer has_ended ≡ resolved_at m.role m.place (option_map (λ b. b.place) outer) has_ended
resolved-same m outer has_ended = by m.role outer has_ended
  where
    by : (role : Role) (outer : Option Mark) (has_ended : Bool) → resolved_as (record { name = m.name; place = m.place; role = role }) outer has_ended ≡ resolved_at role m.place (option_map (λ b. b.place) outer) has_ended
    by Used None true = refl
    by Used None false = refl
    by Used (Some b) ended = refl
    by Met None true = refl
    by Met None false = refl
    by Met (Some b) ended = refl
    by Renewed None ended = refl
    by Renewed (Some b) ended = refl

pub resolves : (name : Name) (place : Place) (role : Role) (s : State) (outer : Option Place) (has_ended : Bool) (r : Resolved) → outer ≡ option_map (λ m. m.place) (innermost name s.sees) → has_ended ≡ stands_among name s.ended → r ≡ resolved_at role place outer has_ended →
    r ≡ resolved_as (record { name = name; place = place; role = role }) (innermost name s.sees) (stands_among name s.ended)
resolves name place role s outer has_ended r e f is = is ∙ ((λ j. resolved_at role place (e j) (f j)) ∙ sym (resolved-same (record { name = name; place = place; role = role }) (innermost name s.sees) (stands_among name s.ended)))

pub uses : (name : Name) (place : Place) (w v : Walk) → v ≡ record { scope = w.scope; found = w.found ++ resolved_as (record { name = name; place = place; role = Used }) (innermost name w.scope.sees) (stands_among name w.scope.ended) ∷ [] } → v ≡ after_part (use_at name place) w
unfolding after_part
uses name place w v is = is
