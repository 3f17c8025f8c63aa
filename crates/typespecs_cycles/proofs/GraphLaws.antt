-- The faults of a module that are told by mentions, from those of its clauses and of its declarations.
use Rattle.std.proofs.Common.{◌≡◌, refl, ap, sym, subst, ◌∙◌, ℕ, suc, zero, ◌⊎◌, inl, inr, List, [], ◌∷◌, map}
use Rattle.std.specs.Prelude.{Some, None, slice_get}
use Rattle.erl_tree.specs.Lists.{Among}
use Rattle.erl_tree.specs.declared.token.Node.{Node}
use Rattle.erl_tree.specs.declared.type_expr.TypeKind.{TypeKind}
use Rattle.erl_tree.specs.declared.form.SpecClauseKind.{SpecClauseKind}
use Rattle.erl_tree.specs.declared.form.TreeForm.{TreeForm}
use Rattle.erl_tree.specs.declared.form.Module.{Module}
use Rattle.typespecs_rules.specs.declared.fault.PlacedFault.{PlacedFault}
use Rattle.typespecs_rules.specs.Declarations.{Declarations, declarations_of}
use Rattle.typespecs_rules.specs.RegularUse.{Declaration, by_number, mention_graph, expansion_graph}
use Rattle.typespecs_rules.specs.TypeParts.{from_each}
use Rattle.typespecs_cycles.specs.declared.edges.Edges.TheVariants.{Mentions, Expansions}
use Rattle.typespecs_cycles.specs.DeclarationParts.{Inner, inside, inside_all, IsIrregularIn}
use Rattle.typespecs_cycles.specs.Edges.{edges_of, graph_of}
use Rattle.typespecs_cycles.specs.FirstFaults.{IsFirstOf, IsFirstWith, OfSome}
use Rattle.typespecs_cycles.specs.GraphFaults.{IsGraphFault, bound_leads_back, not_regular, IsCyclicClause, IsIrregular, IsIrregularUse, form_clauses}
use Rattle.typespecs_cycles.proofs.FirstLaws.{First, Faults, in-turn}
use Rattle.typespecs_cycles.proofs.FormLaws.{clauses-are}
use Rattle.typespecs_cycles.proofs.Gathering.{map-twice}

-- ---- graphs

pub mentions-are : (d : Declarations) (ds : List Inner) → ds ≡ inside_all d → graph_of Mentions d ds ≡ mention_graph d
mentions-are d ds e = ap (graph_of Mentions d) e ∙ sym (map-twice (λ (x : Inner). from_each (edges_of Mentions d) x.1) inside (by_number d))

pub expansions-are : (d : Declarations) (ds : List Inner) → ds ≡ inside_all d → graph_of Expansions d ds ≡ expansion_graph d
expansions-are d ds e = ap (graph_of Expansions d) e ∙ sym (map-twice (λ (x : Inner). from_each (edges_of Expansions d) x.1) inside (by_number d))

-- ---- faults

as-first : (P Q : Faults) (last : First) → ((f : PlacedFault) → P f → Q f) → ((f : PlacedFault) → Q f → P f) → IsFirstWith None P last → IsFirstOf Q last
as-first P Q None to from h = λ f q. h f (inr (from f q))
as-first P Q (Some x) to from h = (there h.0, (λ g q. h.1 g (inr (from g q))))
  where
    there : (None ≡ Some x) ⊎ P x → Q x
    there (inl e) = absurd (none-some e)
      where
        none-some : None ≡ Some x → ⊥
        none-some q = absurd (cc)
    there (inr p) = to x p

inner-of : {A B : Type 0} (v : A → B) (xs : List A) (n : ℕ) (y : B) → slice_get (map v xs) n ≡ Some y → (x : A) × (slice_get xs n ≡ Some x) × (v x ≡ y)
inner-of v [] n y e = absurd (cc)
inner-of v (x ∷ xs) zero y e = (x, refl, same e)
  where
    same : Some (v x) ≡ Some y → v x ≡ y
    same q = cc
inner-of v (x ∷ xs) (suc n) y e = inner-of v xs n y e

at-map : {A B : Type 0} (v : A → B) (xs : List A) (n : ℕ) (x : A) → slice_get xs n ≡ Some x → slice_get (map v xs) n ≡ Some (v x)
at-map v [] n x e = absurd (cc)
at-map v (y ∷ xs) zero x e = ap (λ z. Some (v z)) (same e)
  where
    same : Some y ≡ Some x → y ≡ x
    same q = cc
at-map v (y ∷ xs) (suc n) x e = at-map v xs n x e

module _ (m : Module) where
  abbrev Told : PlacedFault → Type 0
  Told f = OfSome IsCyclicClause (from_each form_clauses m.forms) f ⊎ IsIrregularIn (declarations_of m) (inside_all (declarations_of m)) f

  told-clause : (f : PlacedFault) → OfSome IsCyclicClause (from_each form_clauses m.forms) f → IsGraphFault m f
  told-clause f o = subst (IsGraphFault m) (sym o.2.1) (bound_leads_back o.0 (subst (λ (cs : List (Node SpecClauseKind)). Among o.0 cs) (clauses-are m.forms) o.1) o.2.0)

  told-use : (f : PlacedFault) (n : ℕ) (t : Node TypeKind) (x : Inner) (d : Declaration) → slice_get (by_number (declarations_of m)) n ≡ Some d → inside d ≡ x → Among t x.1 → IsIrregularUse (declarations_of m) n x.0 t f → IsGraphFault m f
  told-use f n t x d at is a irregular = subst (IsGraphFault m) (sym irregular.1) (not_regular t (record {
    number = n;
    declaration = d;
    numbered = at;
    inside = subst (λ (y : Inner). Among t y.1) (sym is) a;
    why = subst (λ (y : Inner). IsIrregular (declarations_of m) n y.0 t) (sym is) irregular.0;
  }))

  told : (f : PlacedFault) → Told f → IsGraphFault m f
  told f (inl o) = told-clause f o
  told f (inr (n, x, at, o)) = let d = inner-of inside (by_number (declarations_of m)) n x at in told-use f n o.0 x d.0 d.1 d.2 o.1 o.2

  tells : (f : PlacedFault) → IsGraphFault m f → Told f
  tells _ (bound_leads_back c a cyclic) = inl (c, subst (λ (cs : List (Node SpecClauseKind)). Among c cs) (sym (clauses-are m.forms)) a, (cyclic, refl))
  tells _ (not_regular t r) = inr (r.number, inside r.declaration, at-map inside (by_number (declarations_of m)) r.number r.declaration r.numbered, (t, r.inside, (r.why, refl)))

  pub whole : (forms : List TreeForm) (ds : List Inner) (mid last : First) → forms ≡ m.forms → ds ≡ inside_all (declarations_of m) → IsFirstWith None (OfSome IsCyclicClause (from_each form_clauses forms)) mid → IsFirstWith mid (IsIrregularIn (declarations_of m) ds) last → IsFirstOf (IsGraphFault m) last
  whole forms ds mid last same is h k =
      as-first Told (IsGraphFault m) last told tells
      (in-turn (OfSome IsCyclicClause (from_each form_clauses m.forms)) (IsIrregularIn (declarations_of m) (inside_all (declarations_of m))) None mid last
      (subst (λ (fs : List TreeForm). IsFirstWith None (OfSome IsCyclicClause (from_each form_clauses fs)) mid) same h) (subst (λ (es : List Inner). IsFirstWith mid (IsIrregularIn (declarations_of m) es) last) is k))
