-- The arrow of a clause is there also where only the variables that it holds have numbers.
use Rattle.std.proofs.Common.{◌≡◌, refl, ap, sym, subst, ◌∙◌, ⊎_elim, inl, ℕ, zero, suc, ◌+◌, List, [], ◌∷◌, map, length, arith}
use Rattle.std.specs.Prelude.{Option, Some, None as Nothing, Bool, true, false, ◌||◌, cond, is_some, if◌then◌else◌}
use Rattle.std.specs.Option.{option_map}
use Rattle.std.specs.List.{list_any}
use Rattle.type_terms.specs.Keys.{Name, same_name}
use Rattle.type_terms.specs.declared.term.Term.{Term, And, Var}
use Rattle.type_terms.specs.declared.spec.Arrow.{Arrow}
use Rattle.erl_tree.specs.declared.token.Node.{Node}
use Rattle.erl_tree.specs.declared.type_expr.TypeKind.{TypeKind}
use Rattle.erl_tree.specs.declared.form.RecFieldKind.{RecFieldKind}
use Rattle.erl_tree.specs.declared.form.RecDefKind.{RecDefKind}
use Rattle.erl_tree.specs.declared.form.SpecClauseKind.{SpecClauseKind}
use Rattle.erl_tree.specs.Lists.{Among}
use Rattle.erl_runs.specs.Records.{find_record, fields_of, has_field}
use Rattle.erl_runs.specs.Specs.{all_present}
use Rattle.typespecs_rules.specs.Declarations.{Declarations}
use Rattle.typespecs_rules.specs.TypeTerms.{RecordTuple, type_kind_term, no_variables, named_term, field_term, tuple_within, record_tuple, type_term}
use Rattle.typespecs_rules.specs.TypeVariables.{variables_of, place_among, numbered_from, clause_types, clause_variables}
use Rattle.typespecs_rules.specs.Bounds.{bound_of, IsCyclic, stands_once, with_bound, stands_for}
use Rattle.typespecs_rules.specs.SpecTerms.{holds_variable, arrow_holds, clause_term, arrow_with, held_from, held_in, clause_arrow}
use Rattle.typespecs_rules.specs.TypeFaults.{type_faults, any_variable}
use Rattle.typespecs_rules.proofs.VariableLaws.{holds-And, holds-Var}
use Rattle.typespecs_rules.proofs.RightTypes.{map-some}
use Rattle.typespecs_lemmas.specs.Acyclic.{bounded_term}
use Rattle.typespecs_lemmas.proofs.AlikeTypes.{among-left, among-right}
use Rattle.typespecs_lemmas.proofs.Chains.{same-number}
use Rattle.typespecs_lemmas.proofs.BoundTerms.{by-bound}
use Rattle.typespecs_lemmas.proofs.Definitions.{any-placed}
use Rattle.typespecs_lemmas.proofs.ClauseTerms.{AreNeeded, arrow-there, all-there, first-arrow, clause-variable, bound-type}
use Rattle.typespecs_lemmas.proofs.HeldVariables.{then-is, map-is, same-some, or-first, or-later}
use Rattle.typespecs_lemmas.proofs.HeldThrough.{HaveFields, all-hold}

some-there : {A : Type 0} (o : Option A) → is_some o ≡ true → (a : A) × (o ≡ Some a)
some-there Nothing e = absurd (cc)
some-there (Some a) e = (a, refl)

-- ---- the fields of a record's tuples

fields-named : (g : TypeKind → Option Term) (fs : List RecFieldKind) (own : List (Name × Term)) (a : Name) → all_present (map (λ (f : RecFieldKind). named_term f.name (field_term g f)) fs) ≡ Some own → has_field fs a ≡ true → list_any (λ (h : Name × Term). same_name h.0 a) own ≡ true
fields-named g [] own a e h = absurd (cc)
fields-named g (f ∷ fs) own a e h =
    let first = then-is (named_term f.name (field_term g f)) _ own e in
    let t = map-is (λ own'. (f.name, own')) (field_term g f) first.0 first.1 in
    let rest = then-is (all_present (map (λ (f : RecFieldKind). named_term f.name (field_term g f)) fs)) _ own first.2 in
    subst (λ (l : List (Name × Term)). list_any (λ (k : Name × Term). same_name k.0 a) l ≡ true) (same-some (first.0 ∷ rest.0) own rest.2)
    (subst (λ (k : Name × Term). (same_name k.0 a || list_any (λ (j : Name × Term). same_name j.0 a) rest.0) ≡ true) t.2 (go (same_name f.name a) h (fields-named g fs rest.0 a rest.1)))
  where
    go : (b : Bool) → (if b then true else has_field fs a) ≡ true → {c : Bool} → (has_field fs a ≡ true → c ≡ true) → (b || c) ≡ true
    go true s more = refl
    go false s more = more s

tuple-fields : (declared : Declarations) (k : ℕ) (name : Name) (d : RecDefKind) (r : RecordTuple) → find_record declared.records name ≡ Some d → tuple_within declared k name ≡ Some r → (a : Name) → has_field (fields_of d) a ≡ true → list_any (λ (g : Name × Term). same_name g.0 a) r.fields ≡ true
tuple-fields declared zero name d r e q a h = absurd (cc)
tuple-fields declared (suc k) name d r e q a h =
    let made = then-is (find_record declared.records name) _ r q in
    let same : made.0 ≡ d = same-some made.0 d (sym made.1 ∙ e) in
    let own = map-is _ (all_present (map (λ (f : RecFieldKind). named_term f.name (field_term (type_kind_term declared (tuple_within declared k) no_variables) f)) (fields_of made.0))) r made.2 in
    subst (λ (t : RecordTuple). list_any (λ (g : Name × Term). same_name g.0 a) t.fields ≡ true) own.2
    (fields-named (type_kind_term declared (tuple_within declared k) no_variables) (fields_of made.0) own.0 a own.1 (subst (λ (s : RecDefKind). has_field (fields_of s) a ≡ true) (sym same) h))

pub have-fields : (declared : Declarations) → HaveFields declared (record_tuple declared)
have-fields declared name d r e q a h = tuple-fields declared (length declared.records) name d r e q a h

-- ---- held variables

held-kept : (a : Arrow) (n : ℕ) (x y : Name) (ys : List Name) → list_any (same_name x) (held_from a (suc n) ys) ≡ true → list_any (same_name x) (held_from a n (y ∷ ys)) ≡ true
held-kept a n x y ys e = go (arrow_holds a n)
  where
    go : (b : Bool) → list_any (same_name x) (cond b (y ∷ held_from a (suc n) ys) (held_from a (suc n) ys)) ≡ true
    go true = or-later (same_name x y) _ e
    go false = e

held-place : (a : Arrow) (n : ℕ) (x : Name) (xs : List Name) (i : ℕ) → place_among xs x ≡ Some i → arrow_holds a (n + i) ≡ true → list_any (same_name x) (held_from a n xs) ≡ true
held-place a n x [] i e h = absurd (cc)
held-place a n x (y ∷ ys) i e h = go (same_name x y) refl e (held-place a (suc n) x ys)
  where
    here : (b : Bool) → b ≡ true → same_name x y ≡ true → list_any (same_name x) (cond b (y ∷ held_from a (suc n) ys) (held_from a (suc n) ys)) ≡ true
    here true q s = or-first _ _ s
    here false q s = absurd (cc)

    go : (b : Bool) → same_name x y ≡ b → cond b (Some 0) (option_map suc (place_among ys x)) ≡ Some i → ((j : ℕ) → place_among ys x ≡ Some j → arrow_holds a (suc n + j) ≡ true → list_any (same_name x) (held_from a (suc n) ys) ≡ true) → list_any (same_name x) (held_from a n (y ∷ ys)) ≡ true
    go true s q more =
        let z : 0 ≡ i = same-some 0 i q in
        let at : n + i ≡ n = omega arith in
        here (arrow_holds a n) (subst (λ k. arrow_holds a k ≡ true) at h) s
    go false s q more =
        let p = map-is suc (place_among ys x) i q in
        let z : suc p.0 ≡ i = p.2 in
        let at : n + i ≡ suc n + p.0 = omega arith in
        held-kept a n x y ys (more p.0 p.1 (subst (λ k. arrow_holds a k ≡ true) at h))

-- the terms of a list by their types
present-at : {A : Type 0} (f : A → Option Term) (xs : List A) (ys : List Term) (x : A) → all_present (map f xs) ≡ Some ys → Among x xs → (y : Term) × (f x ≡ Some y) × ((n : ℕ) → holds_variable n y ≡ true → list_any (holds_variable n) ys ≡ true)
present-at f [] ys x e a = absurd a
present-at f (z ∷ xs) ys x e a =
    let first = then-is (f z) _ ys e in
    let rest = then-is (all_present (map f xs)) _ ys first.2 in
    let same = same-some (first.0 ∷ rest.0) ys rest.2 in
    ⊎_elim
    (λ q. (first.0, ap f q ∙ first.1, λ n h. subst (λ (l : List Term). list_any (holds_variable n) l ≡ true) same (or-first _ _ h)))
    (λ r. let p = present-at f xs rest.0 x rest.1 r in (p.0, p.1, λ n h. subst (λ (l : List Term). list_any (holds_variable n) l ≡ true) same (or-later (holds_variable n first.0) _ (p.2 n h))))
    a

module _ (declared : Declarations) (records : (name : Name) → is_some (find_record declared.records name) ≡ true → is_some (record_tuple declared name) ≡ true)
    (c : SpecClauseKind) (acyclic : IsCyclic c.bounds → ⊥) (right : (t : Node TypeKind) → Among t (clause_types c) → type_faults declared any_variable t ≡ []) where
  -- all variables numbered
  abbrev all : Name → Option Term
  all x = numbered_from 0 (clause_variables c) x

  abbrev standing : Name → Option Term
  standing x = stands_for declared c all x

  module _ (a : Arrow) (made : arrow_with declared c all ≡ Some a) (first : ℕ) where
    -- what is held by it is held by the arrow
    abbrev IsHeld : Term → Type 0
    IsHeld b = (n : ℕ) → holds_variable n b ≡ true → arrow_holds a n ≡ true

    abbrev IsNeeded : Name → Type 0
    IsNeeded x = (b : Term) × (standing x ≡ Some b) × IsHeld b

    abbrev held : Name → Option Term
    held x = numbered_from first (held_from a 0 (clause_variables c)) x

    number-held : (x : Name) (b : Term) → all x ≡ Some b → IsHeld b → is_some (held x) ≡ true
    number-held x b e h =
        let p = map-is (λ i. Var (0 + i)) (place_among (clause_variables c) x) b e in
        let itself : holds_variable (0 + p.0) b ≡ true = subst (λ t. holds_variable (0 + p.0) t ≡ true) p.2 (holds-Var (0 + p.0) (0 + p.0) ∙ same-number (0 + p.0)) in
        map-some _ (place_among (held_from a 0 (clause_variables c)) x) (any-placed (same_name x) (held_from a 0 (clause_variables c)) (held-place a 0 x (clause_variables c) p.0 p.1 (h (0 + p.0) itself)))

    by-its-bound : (x : Name) (o : Option (Node TypeKind)) (b : Term) → bound_of c.bounds x ≡ o → standing x ≡ Some b → bounded_term declared c all standing x o ≡ Some b
    by-its-bound x o b e q = subst (λ p. bounded_term declared c all standing x p ≡ Some b) e (sym (by-bound declared c all acyclic x) ∙ q)

    -- a variable of a type whose term is held is needed
    through : (t : Node TypeKind) → Among t (clause_types c) → (b : Term) → type_term declared standing t ≡ Some b → IsHeld b → (x : Name) → Among x (variables_of t) → IsNeeded x
    through t i b e h x v =
        let own = some-there (standing x) (all-there declared records c acyclic right x (clause-variable declared records c acyclic right x t i v)) in
        (own.0, own.1, λ n l. h n (all-hold declared (record_tuple declared) standing (have-fields declared) x n own.0 own.1 l t.kind t.place t.marks (right t i) v b e))

    bound-held : (x : Name) (t : Node TypeKind) (b : Term) (once : Bool) → with_bound once (all x) (type_term declared standing t) ≡ Some b → IsHeld b → (d : Term) × (type_term declared standing t ≡ Some d) × IsHeld d
    bound-held x t b true e h = (b, e, h)
    bound-held x t b false e h =
        let v = then-is (all x) _ b e in
        let d = map-is (λ d. And (v.0 ∷ d ∷ [])) (type_term declared standing t) b v.2 in
        (d.0, d.1, λ n l. h n (subst (λ t'. holds_variable n t' ≡ true) d.2 (holds-And n (v.0 ∷ d.0 ∷ []) ∙ or-later (holds_variable n v.0) _ (or-first (holds_variable n d.0) false l))))

    twice-held : (x : Name) (t : Node TypeKind) (b : Term) (once : Bool) → once ≡ false → with_bound once (all x) (type_term declared standing t) ≡ Some b → IsHeld b → is_some (held x) ≡ true
    twice-held x t b true o e h = absurd (cc)
    twice-held x t b false o e h =
        let v = then-is (all x) _ b e in
        let d = map-is (λ d. And (v.0 ∷ d ∷ [])) (type_term declared standing t) b v.2 in
        number-held x v.0 v.1 (λ n l. h n (subst (λ t'. holds_variable n t' ≡ true) d.2 (holds-And n (v.0 ∷ d.0 ∷ []) ∙ or-first (holds_variable n v.0) _ l)))

    needed : AreNeeded declared records c acyclic right held IsNeeded
    needed = record {
      unbounded = λ x n e. number-held x n.0 (by-its-bound x Nothing n.0 e n.1) n.2;
      standing_twice = λ x t n e o. twice-held x t n.0 (stands_once c x) o (by-its-bound x (Some t) n.0 e n.1) n.2;
      inside = λ x t n e y v. let d = bound-held x t n.0 (stands_once c x) (by-its-bound x (Some t) n.0 e n.1) n.2 in through t (bound-type declared records c acyclic right x t e) d.0 d.1 d.2 y v;
    }

    -- the arrow with the held variables' numbers
    renumbered : is_some (arrow_with declared c held) ≡ true
    renumbered =
        let ps = then-is (all_present (map (clause_term declared c all) c.params)) _ a made in
        let r = map-is _ (clause_term declared c all c.result) a ps.2 in
        arrow-there declared records c acyclic right held IsNeeded needed
        (λ t i y v. let p = present-at (clause_term declared c all) c.params ps.0 t ps.1 i in
        through t (among-left t c.params (c.result ∷ map (λ b. b.1) c.bounds) i) p.0 p.1 (λ n l. subst (λ (w : Arrow). arrow_holds w n ≡ true) r.2 (or-first _ _ (p.2 n l))) y v)
        (λ y v. through c.result (among-right c.result c.params (c.result ∷ map (λ b. b.1) c.bounds) (inl refl)) r.0 r.1 (λ n l. subst (λ (w : Arrow). arrow_holds w n ≡ true) r.2 (or-later (list_any (holds_variable n) ps.0) _ l)) y v)

  -- the arrow of a clause is there, from whatever number its variables count
  pub clause-arrow-there : (first : ℕ) → is_some (clause_arrow declared first c) ≡ true
  clause-arrow-there first =
      let a = some-there (arrow_with declared c all) (first-arrow declared records c acyclic right) in
      subst (λ o. is_some (arrow_with declared c (numbered_from first (held_in o (clause_variables c)))) ≡ true) (sym a.1) (renumbered a.0 a.1 first)
