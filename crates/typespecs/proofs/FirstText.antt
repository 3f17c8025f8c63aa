-- The first fault of a text is the first of two: the first of those at single places, and the first of those that are told by mentions.
use Rattle.std.proofs.Common.{◌≡◌, ◌⊎◌, List, [], ◌∷◌, refl, sym, subst, Option, Some, None, Bool, true, false, inl, inr}
use Rattle.std.specs.Prelude.{MatchOption, cond}
use Rattle.erl_tree.specs.declared.form.Module.{Module}
use Rattle.erl_tree.specs.Lists.{Among, Every}
use Rattle.typespecs_rules.specs.declared.fault.PlacedFault.{PlacedFault}
use Rattle.typespecs_rules.specs.TypeFaults.{IsTextFault, at_one_place, bound_leads_back, not_regular, is_earlier, listed_faults}
use Rattle.typespecs_rules.specs.Earliest.{earliest}
use Rattle.typespecs_faults.proofs.EarliestLaws.{earliest-stands, earliest-first, earliest-none}
use Rattle.typespecs_cycles.specs.GraphFaults.{IsGraphFault}
use Rattle.typespecs_cycles.specs.GraphFaults as G
use Rattle.typespecs_cycles.proofs.FaultOrder.{not-back, not-onward}
use Rattle.typespecs.specs.TextFaults.{IsFirstOfText}
use Rattle.typespecs.specs.FirstOfTwo.{first_of_two}

either-way : (m : Module) (f : PlacedFault) → IsTextFault m f → Among f (listed_faults m) ⊎ IsGraphFault m f
either-way m f (at_one_place g among) = inl among
either-way m f (bound_leads_back c among cyclic) = inr (G.bound_leads_back c among cyclic)
either-way m f (not_regular t irregular) = inr (G.not_regular t irregular)

told-by-mentions : (m : Module) (f : PlacedFault) → IsGraphFault m f → IsTextFault m f
told-by-mentions m f (G.bound_leads_back c among cyclic) = bound_leads_back c among cyclic
told-by-mentions m f (G.not_regular t irregular) = not_regular t irregular

choose : {A B C : Type 0} → A ⊎ B → (A → C) → (B → C) → C
choose (inl a) f g = f a
choose (inr b) f g = g b

of-each : (P : PlacedFault → Type 0) (fs : List PlacedFault) (f : PlacedFault) → Every P fs → Among f fs → P f
of-each P [] f every among = absurd among
of-each P (g ∷ gs) f every (inl is) = subst P (sym is) every.0
of-each P (g ∷ gs) f every (inr there) = of-each P gs f every.1 there

module _ (m : Module) where
  abbrev NoGraph : Type 0
  NoGraph = (f : PlacedFault) → IsGraphFault m f → ⊥

  abbrev FirstGraph : PlacedFault → Type 0
  FirstGraph f = IsGraphFault m f × ((g : PlacedFault) → IsGraphFault m g → is_earlier g f ≡ false)

  none-listed : None ≡ earliest None (listed_faults m) → (f : PlacedFault) → Among f (listed_faults m) → ⊥
  none-listed is f among = subst (λ fs. Among f fs) (earliest-none (listed_faults m) (sym is)) among

  later-listed : (f : PlacedFault) → Some f ≡ earliest None (listed_faults m) → (g : PlacedFault) → Among g (listed_faults m) → is_earlier g f ≡ false
  later-listed f is g among = of-each (λ h. is_earlier h f ≡ false) (listed_faults m) g (earliest-first (listed_faults m) f (sym is)) among

  by-cases : {A : Type 0} (f : PlacedFault) → IsTextFault m f → (Among f (listed_faults m) → A) → (IsGraphFault m f → A) → A
  by-cases f is listed graph = choose (either-way m f is) listed graph

  both : (f g : PlacedFault) → Some f ≡ earliest None (listed_faults m) → FirstGraph g → (b : Bool) → is_earlier g f ≡ b → IsFirstOfText m (cond b (Some g) (Some f))
  both f g is graph true earlier =
      record {
        stands = told-by-mentions m g graph.0;
        first = λ h t. by-cases h t (λ a. not-onward h f g (later-listed f is h a) (not-back g f earlier)) (λ b. graph.1 h b);
      }
  both f g is graph false later =
      record {
        stands = at_one_place f (earliest-stands (listed_faults m) f (sym is));
        first = λ h t. by-cases h t (λ a. later-listed f is h a) (λ b. not-onward h g f (graph.1 h b) later);
      }

  pub first-text : (listed graph : Option PlacedFault) → listed ≡ earliest None (listed_faults m) → MatchOption graph NoGraph FirstGraph → IsFirstOfText m (first_of_two listed graph)
  first-text None None is none = λ f t. by-cases f t (none-listed is f) (none f)
  first-text None (Some g) is graph =
      record { stands = told-by-mentions m g graph.0; first = λ h t. by-cases h t (λ a. absurd (none-listed is h a)) (λ b. graph.1 h b) }
  first-text (Some f) None is none =
      record { stands = at_one_place f (earliest-stands (listed_faults m) f (sym is)); first = λ h t. by-cases h t (λ a. later-listed f is h a) (λ b. absurd (none h b)) }
  first-text (Some f) (Some g) is graph = both f g is graph (is_earlier g f) refl
