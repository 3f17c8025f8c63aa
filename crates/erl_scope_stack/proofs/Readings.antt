-- Look-ups, against the state that the lists stand for.
use Rattle.std.proofs.Common.{◌≡◌, ℕ, ◌-◌, ◌<◌, false, List, length, get_or, map, Option, Some, None, nat_lt, sym, ap, ◌∙◌, subst, arith}
use Rattle.std.specs.Option.{option_map, IfSome}
use Rattle.type_terms.specs.Keys.{Name}
use Rattle.erl_tree.specs.declared.token.Place.{Place}
use Rattle.erl_scope_rules.specs.Bindings.{innermost}
use Rattle.erl_scope_rules.specs.Occurrences.{is_named_among}
use Rattle.erl_scope_rules.specs.ScopeFaults.{stands_among}
use Rattle.erl_scope_stack.specs.declared.entries.Seen.{Seen}
use Rattle.erl_scope_stack.specs.declared.entries.NameState.{NameState}
use Rattle.erl_scope_stack.specs.State.{State, above}
use Rattle.erl_scope_stack.specs.Named.{name_at, HasNumber}
use Rattle.erl_scope_stack.specs.Stored.{mark_of, stored}
use Rattle.erl_scope_stack.specs.Indexed.{stack, top_of, place_in, count_in, state_of, top_reaches, AreIndexed, IsBindingAt}
use Rattle.erl_scope_stack.proofs.NameLaws.{place_of}
use Rattle.erl_scope_stack.proofs.LatestFirst.{length-latest_first}
use Rattle.erl_scope_stack.proofs.StackLaws.{latest_first-map, binding-kept, top_of-below}
use Rattle.erl_scope_stack.proofs.LookUps.{place-look_up, count-look_up, above-look_up}
use Rattle.erl_scope_stack.proofs.Absent.{innermost-absent, stands-absent, named-absent}

module _ (ns : List Name) (sts : List NameState) (es : List Seen) (bs cs : List ℕ) (h : AreIndexed ns sts es bs cs) where
  -- what is read of a name
  state-read : (n : ℕ) → n < length ns → (t : NameState) → t ≡ get_or sts n t → t ≡ state_of n (stack es) (stack bs)
  state-read n inside t read = let l : n < length sts = omega (arith, h.room) in read ∙ h.kept n t l

  pub top-read : (n : ℕ) → n < length ns → (t : NameState) → t ≡ get_or sts n t → t.top ≡ top_of n (stack es)
  top-read n inside t read = ap (λ (t : NameState). t.top) (state-read n inside t read)

  pub ended_read : (n : ℕ) → n < length ns → (t : NameState) → t ≡ get_or sts n t → t.ended ≡ count_in n (stack bs)
  ended_read n inside t read = ap (λ (t : NameState). t.ended) (state-read n inside t read)

  pub top-within : (n : ℕ) → n < length ns → (t : NameState) → t ≡ get_or sts n t → (lent : List Seen) → lent ≡ es → IfSome t.top (λ at. at < length lent)
  top-within n inside t read lent e = by t.top (top-read n inside t read)
    where
      by : (o : Option ℕ) → o ≡ top_of n (stack es) → IfSome o (λ at. at < length lent)
      by None p = tt
      by (Some at) p = let l : at < length (stack es) = top_of-below n (stack es) at (sym p) in omega (arith, length-latest_first (λ (x : Seen). x) es, ap length e)

  pub place-read : (n : ℕ) → n < length ns → (t : NameState) → t ≡ get_or sts n t → (place : Option Place) (lent : List Seen) → lent ≡ es → IsBindingAt lent t.top place → place ≡ place_in n (stack es)
  place-read n inside t read place lent e is = binding-kept n es t.top place h.linked (top-read n inside t read) (subst (λ (xs : List Seen). IsBindingAt xs t.top place) e is)

  module _ (s : State) (view : stored ns es bs cs ≡ s) where
    sees_is : map (mark_of ns) (stack es) ≡ s.sees
    sees_is = sym (latest_first-map (mark_of ns) es) ∙ ap (λ (t : State). t.sees) view

    ended_is : map (name_at ns) (stack bs) ≡ s.ended
    ended_is = sym (latest_first-map (name_at ns) bs) ∙ ap (λ (t : State). t.ended) view

    module _ (n : ℕ) (x : Name) (has : HasNumber ns x n) (t : NameState) (read : t ≡ get_or sts n t) where
      pub binding-read : (place : Option Place) (lent : List Seen) → lent ≡ es → IsBindingAt lent t.top place → place ≡ option_map place_of (innermost x s.sees)
      binding-read place lent e is =
          place-read n has.0 t read place lent e is ∙ place-look_up ns h.one_number n (stack es) has.0 h.seen_named ∙ ap (λ y. option_map place_of (innermost y (map (mark_of ns) (stack es)))) has.1 ∙ ap (λ ms. option_map place_of (innermost x ms)) sees_is

      pub ended-read : nat_lt 0 t.ended ≡ stands_among x s.ended
      ended-read = ap (nat_lt 0) (ended_read n has.0 t read) ∙ count-look_up ns h.one_number n (stack bs) has.0 h.behind_named ∙ ap (λ y. stands_among y (map (name_at ns) (stack bs))) has.1 ∙ ap (stands_among x) ended_is

      pub above-read : (count : ℕ) → top_reaches count t.top ≡ is_named_among x (above count s.sees)
      above-read count =
          ap (top_reaches count) (top-read n has.0 t read) ∙ above-look_up ns h.one_number count n (stack es) has.0 h.seen_named ∙ ap (λ y. is_named_among y (above count (map (mark_of ns) (stack es)))) has.1 ∙ ap (λ ms. is_named_among x (above count ms)) sees_is

    module _ (x : Name) (absent : (n : ℕ) → HasNumber ns x n → ⊥) where
      pub binding-absent : None ≡ option_map place_of (innermost x s.sees)
      binding-absent = ap (option_map place_of) (sym (innermost-absent ns x absent (stack es) h.seen_named)) ∙ ap (λ ms. option_map place_of (innermost x ms)) sees_is

      pub ended-absent : false ≡ stands_among x s.ended
      ended-absent = sym (stands-absent ns x absent (stack bs) h.behind_named) ∙ ap (stands_among x) ended_is

      pub above-absent : (count : ℕ) → false ≡ is_named_among x (above count s.sees)
      above-absent count = sym (named-absent ns x absent (length (map (mark_of ns) (stack es)) - count) (stack es) h.seen_named) ∙ ap (λ ms. is_named_among x (above count ms)) sees_is
