-- The first of the faults in two lists is the first of the two lists' first faults.
use Rattle.std.proofs.Common.{◌≡◌, refl, sym, ap, ◌∙◌, List, [], ◌∷◌, Bool, true, false, cond, Option, Some, None}
use Rattle.erl_scope_rules.specs.declared.fault.PlacedFault.{PlacedFault}
use Rattle.erl_scope_rules.specs.ScopeFaults.{is_earlier}
use Rattle.erl_scope_rules.specs.Earliest.{earlier, earliest}
use Rattle.erl_scope.specs.Outcomes.{listed}
use Rattle.erl_scope.proofs.FaultOrder.{earlier_through, not_earlier_through}

-- ---- of three faults

-- the first of three is found from either end
earlier_of_three : (f g h : PlacedFault) → earlier (Some (earlier (Some f) g)) h ≡ earlier (Some f) (earlier (Some g) h)
earlier_of_three f g h = by (is_earlier g f) refl (is_earlier h g) refl
  where
    by : (b : Bool) → is_earlier g f ≡ b → (k : Bool) → is_earlier h g ≡ k → cond (is_earlier h (cond b g f)) h (cond b g f) ≡ cond (is_earlier (cond k h g) f) (cond k h g) f
    by true p true q = ap (λ t. cond t h g) q ∙ sym (ap (λ t. cond t h f) (earlier_through h g f q p))
    by true p false q = ap (λ t. cond t h g) q ∙ sym (ap (λ t. cond t g f) p)
    by false p true q = refl
    by false p false q = ap (λ t. cond t h f) (not_earlier_through h g f q p) ∙ sym (ap (λ t. cond t g f) p)

earlier-earlier : (first : Option PlacedFault) (g h : PlacedFault) → earlier (Some (earlier first g)) h ≡ earlier first (earlier (Some g) h)
earlier-earlier None g h = refl
earlier-earlier (Some f) g h = earlier_of_three f g h

-- ---- of two lists

earliest-behind : (first : Option PlacedFault) (g : PlacedFault) (hs : List PlacedFault) → earliest first (listed (earliest (Some g) hs)) ≡ earliest (Some (earlier first g)) hs
earliest-behind first g [] = refl
earliest-behind first g (h ∷ hs) = earliest-behind first (earlier (Some g) h) hs ∙ sym (ap (λ f. earliest (Some f) hs) (earlier-earlier first g h))

pub earliest-listed : (first : Option PlacedFault) (fs : List PlacedFault) → earliest first (listed (earliest None fs)) ≡ earliest first fs
earliest-listed first [] = refl
earliest-listed first (f ∷ fs) = earliest-behind first f fs
