-- The terms of the arrows of specs, in a module in whose text nothing is wrong: the variables of each clause count on from those of the clauses before it.
use Rattle.std.proofs.Common.{◌≡◌, refl, ap, sym, subst, ◌∙◌, ⊎_elim, ◌⊎◌, inl, inr, ℕ, zero, suc, ◌+◌, ◌≤◌, List, [], ◌∷◌, ◌++◌, map, length, arith}
use Rattle.std.specs.Prelude.{Option, Some, None as Nothing, Bool, true, false, cond, is_some}
use Rattle.std.specs.List.{Contains}
use Rattle.type_terms.specs.Keys.{Name}
use Rattle.type_terms.specs.Definitions.{given_definitions}
use Rattle.type_terms.specs.declared.spec.Arrow.{Arrow}
use Rattle.type_terms.specs.declared.spec.FunSpec.{FunSpec}
use Rattle.type_terms.specs.declared.term.Def.{Def}
use Rattle.type_terms.specs.declared.term.Term.{Term, And}
use Rattle.type_terms.proofs.PartLaws.{contains-at}
use Rattle.erl_tree.specs.Lists.{Every, Among}
use Rattle.erl_tree.specs.declared.token.Node.{Node}
use Rattle.erl_tree.specs.declared.type_expr.TypeKind.{TypeKind}
use Rattle.erl_tree.specs.declared.form.SpecKind.{SpecKind}
use Rattle.erl_tree.specs.declared.form.SpecClauseKind.{SpecClauseKind}
use Rattle.erl_tree.specs.declared.form.Module.{Module}
use Rattle.erl_tree.specs.Functions.{spec_clauses_arity}
use Rattle.erl_runs.specs.Specs.{all_present, specs_in}
use Rattle.typespecs_rules.specs.declared.specs.Specs.{Specs}
use Rattle.typespecs_rules.specs.Declarations.{Declarations, declarations_of}
use Rattle.typespecs_rules.specs.TypeTerms.{type_term}
use Rattle.typespecs_rules.specs.TypeVariables.{numbered_from, clause_types}
use Rattle.typespecs_rules.specs.Bounds.{Bound, bound_of, stands_once, with_bound, stands_within, stands_for}
use Rattle.typespecs_rules.specs.SpecTerms.{type_definition, record_definition, definitions, clause_term, held_variables, clause_arrow, arrows_from, variables_in, function_spec, function_specs}
use Rattle.typespecs_rules.specs.TypeFaults.{type_faults, any_variable, HasTerms}
use Rattle.typespecs_lemmas.specs.Acyclic.{bounded_term}
use Rattle.typespecs_lemmas.proofs.AlikeTypes.{among-left, among-right}
use Rattle.typespecs_lemmas.proofs.BoundTerms.{placed, one-level}
use Rattle.typespecs_lemmas.proofs.ByNumber.{get-of-map}
use Rattle.typespecs_lemmas.proofs.FirstFault.{some-inj}
use Rattle.typespecs_lemmas.proofs.GivenReach.{mapped, both, defs-are}
use Rattle.typespecs_lemmas.proofs.GoodParts.{AllGood, good-And}
use Rattle.typespecs_lemmas.proofs.NoFaults.{RecordRight, all-right}
use Rattle.typespecs_lemmas.proofs.TermParts.{present-parts}
use Rattle.typespecs_lemmas.proofs.TextFaults.{contains-among, clause-is-right}
use Rattle.typespecs_laws.specs.WellMade.{IsTermOf, IsWellMadeTerm}
use Rattle.typespecs_laws.proofs.MadeTerms.{IsMade, made-plain, well-made, AreMade, made-numbered, type-made}

-- a bound is one of the types of its clause
bound-type : (c : SpecClauseKind) (x : Name) (t : Node TypeKind) → bound_of c.bounds x ≡ Some t → Among t (clause_types c)
bound-type c x t e =
    let p = placed c.bounds x t e in
    among-right t c.params (c.result ∷ map (λ b. b.1) c.bounds) (inr (contains-among t (map (λ b. b.1) c.bounds) (contains-at (map (λ b. b.1) c.bounds) p.0 t (get-of-map (λ (b : Bound). b.1) c.bounds p.0 p.2 p.3 ∙ ap Some p.4))))

-- a bounded variable stands for its bound, or for what is in both
with-made : (defs : List Def) (count : ℕ) (once : Bool) (variable bound : Option Term) (w : Term) → ((a : Term) → variable ≡ Some a → AllGood (IsMade defs count) a) → ((b : Term) → bound ≡ Some b → AllGood (IsMade defs count) b) → with_bound once variable bound ≡ Some w → AllGood (IsMade defs count) w
with-made defs count true variable bound w h k e = k w e
with-made defs count false variable bound w h k e =
    let a = both variable _ w e in
    let b = mapped (λ c. And (a.0 ∷ c ∷ [])) bound w a.2 in
    subst (λ (u : Term). AllGood (IsMade defs count) u) b.2 (good-And (IsMade defs count) (made-plain defs count) (a.0 ∷ b.0 ∷ []) (h a.0 a.1, (k b.0 b.1, tt)))

module _ (declared : Declarations) (own : List Def) (present : all_present (map (type_definition declared) declared.types ++ map (record_definition declared) declared.records) ≡ Some own)
    (records_right : Every (RecordRight declared) declared.records) (count : ℕ) where
  abbrev defs : List Def
  defs = given_definitions ++ own

  -- nothing is wrong with the types of a clause
  abbrev IsRight : SpecClauseKind → Type 0
  IsRight c = (t : Node TypeKind) → Among t (clause_types c) → type_faults declared any_variable t ≡ []

  module _ (c : SpecClauseKind) (right : IsRight c) (variables : Name → Option Term) (vars : AreMade defs count variables) where
    within-made : (k : ℕ) → AreMade defs count (stands_within declared c variables k)
    within-made zero x w e = go (is_some (bound_of c.bounds x)) e
      where
        go : (b : Bool) → cond b Nothing (variables x) ≡ Some w → AllGood (IsMade defs count) w
        go true q = absurd (cc)
        go false q = vars x w q
    within-made (suc k) x w e = go (bound_of c.bounds x) refl (within-made k) (sym (one-level declared c variables k x) ∙ e)
      where
        go : (o : Option (Node TypeKind)) → bound_of c.bounds x ≡ o → AreMade defs count (stands_within declared c variables k) → bounded_term declared c variables (stands_within declared c variables k) x o ≡ Some w → AllGood (IsMade defs count) w
        go Nothing at before q = vars x w q
        go (Some t) at before q = with-made defs count (stands_once c x) (variables x) (type_term declared (stands_within declared c variables k) t) w (λ a r. vars x a r)
            (λ b r. type-made declared own present records_right count (stands_within declared c variables k) before t (right t (bound-type c x t at)) b r) q

    clause-made : (t : Node TypeKind) → Among t (clause_types c) → (w : Term) → clause_term declared c variables t ≡ Some w → AllGood (IsMade defs count) w
    clause-made t a w e = type-made declared own present records_right count (stands_for declared c variables) (within-made (length c.bounds)) t (right t a) w e

    params-made : (ts : List (Node TypeKind)) → ((t : Node TypeKind) → Among t ts → Among t (clause_types c)) → (ws : List Term) → all_present (map (clause_term declared c variables) ts) ≡ Some ws → (w : Term) → Among w ws → AllGood (IsMade defs count) w
    params-made [] i ws e w a = elim (subst (λ (l : List Term). Among w l) (sym (some-inj [] ws e)) a) [ ]
    params-made (t ∷ ts) i ws e w a =
        let p = present-parts (clause_term declared c variables t) (map (clause_term declared c variables) ts) ws e in
        ⊎_elim (λ (q : w ≡ p.0). subst (λ (u : Term). AllGood (IsMade defs count) u) (sym q) (clause-made t (i t (inl refl)) p.0 p.2)) (λ r. params-made ts (λ u j. i u (inr j)) p.1 p.3 w r) (subst (λ (l : List Term). Among w l) (sym p.4) a)

  -- all parts of each term of an arrow are so
  abbrev IsMadeArrow : Arrow → Type 0
  IsMadeArrow a = (w : Term) → Among w a.params ⊎ (w ≡ a.result) → AllGood (IsMade defs count) w

  arrow-made : (first : ℕ) (c : SpecClauseKind) → IsRight c → first + length (held_variables declared c) ≤ count → (a : Arrow) → clause_arrow declared first c ≡ Some a → IsMadeArrow a
  arrow-made first c right l a e =
      let vars : AreMade defs count (numbered_from first (held_variables declared c)) = made-numbered defs count first (held_variables declared c) l in
      let p = both (all_present (map (clause_term declared c (numbered_from first (held_variables declared c))) c.params)) _ a e in
      let r = mapped (λ result. record { params = p.0; result = result }) (clause_term declared c (numbered_from first (held_variables declared c)) c.result) a p.2 in
      subst IsMadeArrow r.2 (λ w i. ⊎_elim
      (λ j. params-made c right (numbered_from first (held_variables declared c)) vars c.params (λ t k. among-left t c.params (c.result ∷ map (λ b. b.1) c.bounds) k) p.0 p.1 w j)
      (λ (q : w ≡ r.0). subst (λ (u : Term). AllGood (IsMade defs count) u) (sym q) (clause-made c right (numbered_from first (held_variables declared c)) vars c.result (among-right c.result c.params (c.result ∷ map (λ b. b.1) c.bounds) (inl refl)) r.0 r.1))
      i)

  arrows-made : (first : ℕ) (cs : List (Node SpecClauseKind)) → ((c : Node SpecClauseKind) → Among c cs → IsRight c.kind) → first + variables_in declared cs ≤ count → (arrows : List Arrow) → arrows_from declared first cs ≡ Some arrows → (a : Arrow) → Among a arrows → IsMadeArrow a
  arrows-made first [] right l arrows e a i = elim (subst (λ (s : List Arrow). Among a s) (sym (some-inj [] arrows e)) i) [ ]
  arrows-made first (c ∷ cs) right l arrows e a i =
      let p = both (clause_arrow declared first c.kind) _ arrows e in
      let r = mapped (λ more. p.0 ∷ more) (arrows_from declared (first + length (held_variables declared c.kind)) cs) arrows p.2 in
      ⊎_elim (λ (q : a ≡ p.0). subst IsMadeArrow (sym q) (arrow-made first c.kind (right c (inl refl)) (omega arith) p.0 p.1))
      (λ j. arrows-made (first + length (held_variables declared c.kind)) cs (λ d k. right d (inr k)) (omega arith) r.0 r.1 a j)
      (subst (λ (s : List Arrow). Among a s) (sym r.2) i)

-- the spec that a function's is made of
made-from : (declared : Declarations) (ss : List (Node SpecKind)) (fs : List FunSpec) → function_specs declared ss ≡ Some fs → (f : FunSpec) → Among f fs → (s : Node SpecKind) × Among s ss × (function_spec declared s.kind ≡ Some f)
made-from declared [] fs e f i = elim (subst (λ (l : List FunSpec). Among f l) (sym (some-inj [] fs e)) i) [ ]
made-from declared (s ∷ ss) fs e f i =
    let p = present-parts (function_spec declared s.kind) (map (λ (t : Node SpecKind). function_spec declared t.kind) ss) fs e in
    ⊎_elim (λ (q : f ≡ p.0). (s, inl refl, p.2 ∙ ap Some (sym q))) (λ j. let more = made-from declared ss p.1 p.3 f j in (more.0, inr more.1, more.2)) (subst (λ (l : List FunSpec). Among f l) (sym p.4) i)

spec-made : (declared : Declarations) (own : List Def) → all_present (map (type_definition declared) declared.types ++ map (record_definition declared) declared.records) ≡ Some own → Every (RecordRight declared) declared.records →
    (s : SpecKind) → ((c : Node SpecClauseKind) → Among c s.clauses → (t : Node TypeKind) → Among t (clause_types c.kind) → type_faults declared any_variable t ≡ []) →
    (f : FunSpec) → function_spec declared s ≡ Some f → (a : Arrow) → Among a f.clauses → (w : Term) → Among w a.params ⊎ (w ≡ a.result) → AllGood (IsMade (given_definitions ++ own) f.vars) w
spec-made declared own present records_right s right f e =
    let p = mapped (λ arrows. record { name = s.name; arity = spec_clauses_arity s.clauses; vars = variables_in declared s.clauses; clauses = arrows }) (arrows_from declared 0 s.clauses) f e in
    subst (λ (x : FunSpec). (a : Arrow) → Among a x.clauses → (w : Term) → Among w a.params ⊎ (w ≡ a.result) → AllGood (IsMade (given_definitions ++ own) x.vars) w) p.2
    (arrows-made declared own present records_right (variables_in declared s.clauses) 0 s.clauses right (omega arith) p.0 p.1)

pub all-made : (m : Module) (s : Specs) → HasTerms m s → (f : FunSpec) → Contains s.functions f → (a : Arrow) → Contains f.clauses a → (t : Term) → IsTermOf a t → IsWellMadeTerm s.defs f.vars t
all-made m s h f i a j t k =
    let d = defs-are m s h.terms in
    let p = both (definitions (declarations_of m)) _ s h.terms in
    let r = mapped _ (function_specs (declarations_of m) (specs_in m.forms)) s p.2 in
    let spec = made-from (declarations_of m) (specs_in m.forms) r.0 r.1 f (subst (λ (x : Specs). Among f x.functions) (sym r.2) (contains-among f s.functions i)) in
    subst (λ (ds : List Def). IsWellMadeTerm ds f.vars t) (sym d.2) (well-made (given_definitions ++ d.0) f.vars t
    (spec-made (declarations_of m) d.0 d.1 (all-right m h.no_fault).1 spec.0.kind (clause-is-right m h.no_fault spec.0 spec.1) f spec.2 a (contains-among a f.clauses j) t
    (⊎_elim (λ c. inl (contains-among t a.params c)) (λ q. inr q) k)))
