-- Which specs have terms.
use Rattle.std.proofs.Common.{◌≡◌, Bool, true, false, List, [], ◌∷◌, map, ◌↔◌, refl, sym, ap, ◌∙◌, subst, Option, Some, None, true≢false}
use Rattle.std.specs.Prelude.{IsSome, IsTrue}
use Rattle.type_terms.specs.declared.spec.Arrow.{Arrow}
use Rattle.type_terms.specs.declared.spec.FunSpec.{FunSpec}
use Rattle.erl_tree.specs.declared.token.Node.{Node}
use Rattle.erl_tree.specs.declared.type_expr.TypeKind.{TypeKind}
use Rattle.erl_tree.specs.declared.form.SpecKind.{SpecKind}
use Rattle.erl_tree.specs.declared.form.SpecClauseKind.{SpecClauseKind}
use Rattle.erl_tree.specs.Lists.{Every}
use Rattle.erl_runs.specs.Specs.{and_then, all_present}
use Rattle.flat_modules.specs.FlatSpecs.{type_term, clause_arrow, arrows_arity, function_spec}

module _ {A B C : Type 0} where
  -- both are there
  pub both-some : (o : Option A) (p : Option B) (g : A → B → C) → IsSome o → IsSome p → IsSome (and_then o (λ a. and_then p (λ b. Some (g a b))))
  both-some None p g h k = absurd (true≢false (sym h))
  both-some (Some a) None g h k = absurd (true≢false (sym k))
  both-some (Some a) (Some b) g h k = refl

  pub first-some : (o : Option A) (p : Option B) (g : A → B → C) → IsSome (and_then o (λ a. and_then p (λ b. Some (g a b)))) → IsSome o
  first-some None p g h = h
  first-some (Some a) p g h = refl

  pub second-some : (o : Option A) (p : Option B) (g : A → B → C) → IsSome (and_then o (λ a. and_then p (λ b. Some (g a b)))) → IsSome p
  second-some None p g h = absurd (true≢false (sym h))
  second-some (Some a) None g h = h
  second-some (Some a) (Some b) g h = refl

  -- what the tests of both answer
  pub both_known : (o : Option A) (p : Option B) (g : A → B → C) (a b : Bool) → (IsTrue a ↔ IsSome o) → a ≡ true → (IsTrue b ↔ IsSome p) → IsTrue b ↔ IsSome (and_then o (λ x. and_then p (λ y. Some (g x y))))
  both_known o p g a b says holds tells = ((λ e. both-some o p g (says.0 holds) (tells.0 e)), λ h. tells.1 (second-some o p g h))

  pub first_unknown : (o : Option A) (p : Option B) (g : A → B → C) (a : Bool) → (IsTrue a ↔ IsSome o) → a ≡ false → IsTrue a ↔ IsSome (and_then o (λ x. and_then p (λ y. Some (g x y))))
  first_unknown o p g a says fails = ((λ e. absurd (true≢false (sym e ∙ fails))), λ h. says.1 (first-some o p g h))

module _ {A B : Type 0} where
  pub one-some : (o : Option A) (g : A → B) → IsSome o → IsSome (and_then o (λ a. Some (g a)))
  one-some None g h = h
  one-some (Some a) g h = refl

  pub some-one : (o : Option A) (g : A → B) → IsSome (and_then o (λ a. Some (g a))) → IsSome o
  some-one None g h = h
  some-one (Some a) g h = refl

  module _ (f : A → Option B) where
    pub all-some : (xs : List A) → Every (λ x. IsSome (f x)) xs → IsSome (all_present (map f xs))
    all-some [] h = refl
    all-some (x ∷ xs) h = both-some (f x) (all_present (map f xs)) (λ a more. a ∷ more) h.0 (all-some xs h.1)

    pub some-all : (xs : List A) → IsSome (all_present (map f xs)) → Every (λ x. IsSome (f x)) xs
    some-all [] h = tt
    some-all (x ∷ xs) h =
        (first-some (f x) (all_present (map f xs)) (λ a more. a ∷ more) h, some-all xs (second-some (f x) (all_present (map f xs)) (λ a more. a ∷ more) h))

-- ---- a clause

pub clause-some : (c : Node SpecClauseKind) → Every (λ ty. IsSome (type_term ty)) c.kind.params → IsSome (type_term c.kind.result) → IsSome (clause_arrow c)
clause-some c h g = both-some (all_present (map type_term c.kind.params)) (type_term c.kind.result) (λ params result. record { params = params; result = result }) (all-some type_term c.kind.params h) g

pub clause-params : (c : Node SpecClauseKind) → IsSome (clause_arrow c) → Every (λ ty. IsSome (type_term ty)) c.kind.params
clause-params c h = some-all type_term c.kind.params (first-some {C = Arrow} (all_present (map type_term c.kind.params)) (type_term c.kind.result) (λ params result. record { params = params; result = result }) h)

pub clause-result : (c : Node SpecClauseKind) → IsSome (clause_arrow c) → IsSome (type_term c.kind.result)
clause-result c h = second-some {C = Arrow} (all_present (map type_term c.kind.params)) (type_term c.kind.result) (λ params result. record { params = params; result = result }) h

-- ---- a spec

pub spec-some : (s : Node SpecKind) → Every (λ c. IsSome (clause_arrow c)) s.kind.clauses → IsSome (function_spec s)
spec-some s h = one-some (all_present (map clause_arrow s.kind.clauses)) (λ arrows. record { name = s.kind.name; arity = arrows_arity arrows; vars = 0; clauses = arrows }) (all-some clause_arrow s.kind.clauses h)

pub some-spec : (s : Node SpecKind) → IsSome (function_spec s) → Every (λ c. IsSome (clause_arrow c)) s.kind.clauses
some-spec s h = some-all clause_arrow s.kind.clauses (some-one {B = FunSpec} (all_present (map clause_arrow s.kind.clauses)) (λ arrows. record { name = s.kind.name; arity = arrows_arity arrows; vars = 0; clauses = arrows }) h)

-- ---- what the tests of a clause and of a spec answer

module _ (c : Node SpecClauseKind) (k : SpecClauseKind) (params : List (Node TypeKind)) (here : k ≡ c.kind) (of_kind : params ≡ k.params) (a : Bool) (says : IsTrue a ↔ Every (λ ty. IsSome (type_term ty)) params) where
  of_clause : params ≡ c.kind.params
  of_clause = of_kind ∙ ap (λ (x : SpecClauseKind). x.params) here

  pub known_clause : (b : Bool) → (IsTrue b ↔ IsSome (type_term k.result)) → a ≡ true → IsTrue b ↔ IsSome (clause_arrow c)
  known_clause b tells holds = (
    (λ e. clause-some c (subst (Every (λ ty. IsSome (type_term ty))) of_clause (says.0 holds)) (subst (λ (x : SpecClauseKind). IsSome (type_term x.result)) here (tells.0 e))),
    λ h. tells.1 (subst (λ (x : SpecClauseKind). IsSome (type_term x.result)) (sym here) (clause-result c h)),
  )

  pub unknown_clause : a ≡ false → IsTrue a ↔ IsSome (clause_arrow c)
  unknown_clause fails =
      ((λ e. absurd (true≢false (sym e ∙ fails))), λ h. says.1 (subst (Every (λ ty. IsSome (type_term ty))) (sym of_clause) (clause-params c h)))

pub known_spec : (s : Node SpecKind) (k : SpecKind) (clauses : List (Node SpecClauseKind)) (b : Bool) → k ≡ s.kind → clauses ≡ k.clauses → (IsTrue b ↔ Every (λ c. IsSome (clause_arrow c)) clauses) → IsTrue b ↔ IsSome (function_spec s)
known_spec s k clauses b here of_kind says =
    let e : clauses ≡ s.kind.clauses = of_kind ∙ ap (λ (x : SpecKind). x.clauses) here in
    ((λ h. spec-some s (subst (Every (λ c. IsSome (clause_arrow c))) e (says.0 h))), λ h. says.1 (subst (Every (λ c. IsSome (clause_arrow c))) (sym e) (some-spec s h)))
