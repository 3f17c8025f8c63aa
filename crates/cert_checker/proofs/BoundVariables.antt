-- The type of a variable of a head, by the place of the pattern that binds it.
use Rattle.std.proofs.Common.{◌≡◌, refl, sym, ◌∙◌, ap, ℕ, zero, suc, ◌+◌, ◌<◌, List, [], ◌∷◌, length, arith}
use Rattle.std.specs.Prelude.{Bool, true, false, ◌&&◌, ◌||◌, Some, None, nat_eq, slice_get, if◌then◌else◌}
use Rattle.std.specs.Str.{bytes_eq}
use Rattle.std.specs.List.{list_any}
use Rattle.std.proofs.lemmas.Bool.{true≢false, eqb-true, eq-eqb}
use Rattle.type_terms.specs.declared.term.Term.{Term}
use Rattle.type_terms.specs.Keys.{Name, same_name}
use Rattle.erl_tree.specs.declared.token.Node.{Node}
use Rattle.erl_tree.specs.declared.pattern.PatternKind.{PatternKind}
use Rattle.erl_runs.specs.Names.{is_wildcard}
use Rattle.cert_checker.specs.Constraints.{variable_type}
use Rattle.cert_checker.specs.declared.expression_type.ExpressionType.TheVariants.{Parameter}
use Rattle.cert_checker.specs.declared.scope.Scope.{Scope}
use Rattle.cert_checker.specs.Judging.{Setting, StandsFor, context_of, is_bound_by, is_this_variable}
use Rattle.cert_checker.proofs.Arguments.{sets-of}
use Rattle.cert_checker.proofs.Lists.{none-some, some-inj}

nat_eq-turned : (m n : ℕ) → nat_eq m n ≡ nat_eq n m
nat_eq-turned m n = go (nat_eq m n) (nat_eq n m) refl refl
  where
    go : (a b : Bool) → nat_eq m n ≡ a → nat_eq n m ≡ b → nat_eq m n ≡ nat_eq n m
    go true true p q = p ∙ sym q
    go false false p q = p ∙ sym q
    go true false p q = absurd (true≢false (sym (eq-eqb n m (sym (eqb-true m n p))) ∙ q))
    go false true p q = absurd (true≢false (sym (eq-eqb m n (sym (eqb-true n m q))) ∙ p))

pub same-bytes : (x y : Name) → same_name x y ≡ bytes_eq y x
same-bytes [] [] = refl
same-bytes [] (n ∷ ns) = refl
same-bytes (m ∷ ms) [] = refl
same-bytes (m ∷ ms) (n ∷ ns) = λ j. nat_eq-turned m n j && same-bytes ms ns j

or-false : (b : Bool) → (b || false) ≡ b
or-false true = refl
or-false false = refl

pub same-variable : (x y : Name) → (same_name x y || false) ≡ bytes_eq y x
same-variable x y = or-false (same_name x y) ∙ same-bytes x y

pub named-variable : (y x : Name) → is_wildcard y ≡ false → bytes_eq y x ≡ is_this_variable y x
named-variable y x w = sym (same-variable x y) ∙ ap (λ (b : Bool). list_any (same_name x) (if b then [] else y ∷ [])) (sym w)

pub wildcard-variable : (y x : Name) → is_wildcard y ≡ true → false ≡ is_this_variable y x
wildcard-variable y x w = ap (λ (b : Bool). list_any (same_name x) (if b then [] else y ∷ [])) (sym w)

-- none of the first patterns binds the name
abbrev pub NoneBinds : List (Node PatternKind) → Name → ℕ → Type 0
NoneBinds ps x count = (k : ℕ) (p : Node PatternKind) → k < count → slice_get ps k ≡ Some p → is_bound_by x p ≡ false

below : (k i : ℕ) → k < i + 1 → nat_eq k i ≡ false → k < i
below k i l s = grind (arith)

pub none-more : (ps : List (Node PatternKind)) (x : Name) (i : ℕ) (q : Node PatternKind) → NoneBinds ps x i → slice_get ps i ≡ Some q → is_bound_by x q ≡ false → NoneBinds ps x (i + 1)
none-more ps x i q h e b k p l f = go (nat_eq k i) refl
  where
    go : (same : Bool) → nat_eq k i ≡ same → is_bound_by x p ≡ false
    go true s = let g : k ≡ i = eqb-true k i s in let r : q ≡ p = some-inj q p (sym e ∙ (ap (slice_get ps) (sym g) ∙ f)) in ap (is_bound_by x) (sym r) ∙ b
    go false s = h k p (below k i l s) f

pub variable-at : (ps : List (Node PatternKind)) (ts : List Term) (x : Name) (i : ℕ) (q : Node PatternKind) → NoneBinds ps x i → slice_get ps i ≡ Some q → is_bound_by x q ≡ true → variable_type ps ts x ≡ slice_get ts i
variable-at [] ts x i q h e b = none-some q e
variable-at (p ∷ ps) [] x i q h e b = refl
variable-at (p ∷ ps) (t ∷ ts) x zero q h e b = ap (λ (s : Bool). if s then Some t else variable_type ps ts x) (ap (is_bound_by x) (some-inj p q e) ∙ b)
variable-at (p ∷ ps) (t ∷ ts) x (suc i) q h e b =
    ap (λ (s : Bool). if s then Some t else variable_type ps ts x) (h zero p (omega arith) refl)
    ∙ variable-at ps ts x i q (λ k r l f. h (suc k) r (omega arith) f) e b

pub variable-absent : (ps : List (Node PatternKind)) (ts : List Term) (x : Name) → NoneBinds ps x (length ps) → variable_type ps ts x ≡ None
variable-absent [] ts x h = refl
variable-absent (p ∷ ps) [] x h = refl
variable-absent (p ∷ ps) (t ∷ ts) x h =
    ap (λ (s : Bool). if s then Some t else variable_type ps ts x) (h zero p (omega arith) refl)
    ∙ variable-absent ps ts x (λ k r l f. h (suc k) r (omega arith) f)

-- the parameter at the place of the pattern that binds a variable
pub parameter-stands : (scope : Scope) (x : Name) (i : ℕ) (q : Node PatternKind) → NoneBinds scope.patterns.now x i → slice_get scope.patterns.now i ≡ Some q → is_bound_by x q ≡ true → (s : Setting scope) (t : Term) → context_of scope s x ≡ Some t → StandsFor scope (Parameter i) t
parameter-stands scope x i q h e b s t c = sets-of scope.params.now s.types i t s.described (sym (variable-at scope.patterns.now s.types x i q h e b) ∙ c)

pub no-parameter : (scope : Scope) (x : Name) → NoneBinds scope.patterns.now x (length scope.patterns.now) → (s : Setting scope) (t : Term) → context_of scope s x ≡ Some t → ⊥
no-parameter scope x h s t c = none-some t (sym (variable-absent scope.patterns.now s.types x h) ∙ c)
