-- The instances in t(any), where t(A) = {A, t({A, A})}: their arguments grow without end.
use Rattle.std.proofs.Common.{◌≡◌, refl, sym, ◌∙◌, ap, subst, ⊎_elim, ℕ, zero, suc, ◌+◌, ◌<◌, List, [], ◌∷◌, arith}
use Rattle.std.specs.List.{Contains}
use Rattle.type_terms.specs.Parts.{layer_children, children, IsPart, itself, in_child}
use Rattle.type_terms.specs.Regular.{mentions, AreParameters, AreRegular}
use Rattle.type_terms.specs.Replacement.{argument_of, replaced_by, terms_of}
use Rattle.type_terms.specs.declared.term.Term.{Term, Any, Tuple, Tuple', Var, Name, Row_of-Term, end_of-Term, more_of-Term}
use Rattle.type_terms.specs.declared.term.Term.TheBlock.{hidden-the_row-Term-1}
use Rattle.type_terms.specs.declared.term.Term.TheViews as Views
use Rattle.type_terms.proofs.Contained.{contains-first, contains-later}
use Rattle.type_terms.proofs.PartLaws.{kind_number, children-Name}
use Rattle.type_terms.proofs.ReadingLaws.{terms_of-hidden}
use Rattle.type_terms.proofs.ReplacementParts as Parts
use Rattle.erl_tree.specs.Lists.{Among}
use Rattle.typespecs_laws.specs.Occurring.{Occurs, stands, in_body}
use Rattle.typespecs_laws.specs.SmallInstances.{growing}

-- the body of the definition
abbrev body : Term
body = Tuple (Var 0 ∷ Name 0 (Tuple (Var 0 ∷ Var 0 ∷ []) ∷ []) ∷ [])

-- any, {any, any}, {{any, any}, {any, any}}, ..
abbrev grown : ℕ → Term
grown zero = Any
grown (suc k) = Tuple (grown k ∷ grown k ∷ [])

body-replaced : (x : Term) → replaced_by (x ∷ []) body ≡ Tuple (x ∷ Name 0 (Tuple (x ∷ x ∷ []) ∷ []) ∷ [])
body-replaced x =
    Parts.replaced-Tuple (argument_of (x ∷ [])) (Var 0 ∷ Name 0 (Tuple (Var 0 ∷ Var 0 ∷ []) ∷ []) ∷ [])
    ∙ ap (λ (t : Term). Tuple (x ∷ t ∷ [])) (Parts.replaced-Name (argument_of (x ∷ [])) 0 (Tuple (Var 0 ∷ Var 0 ∷ []) ∷ []) ∙ ap (λ (t : Term). Name 0 (t ∷ [])) (Parts.replaced-Tuple (argument_of (x ∷ [])) (Var 0 ∷ Var 0 ∷ [])))

second-part : (x y : Term) → IsPart y (Tuple (x ∷ y ∷ []))
second-part x y = in_child y y (Tuple (x ∷ y ∷ [])) (subst (λ (l : List Term). Contains l y) (sym (ap layer_children (Views.outs-Tuple (x ∷ y ∷ [])))) (contains-later x y (y ∷ []) (contains-first y []))) (itself y)

grown-occurs : (k : ℕ) → Occurs growing (Name 0 (Any ∷ [])) (Name 0 (grown k ∷ []))
grown-occurs zero = stands (Name 0 (Any ∷ [])) (itself (Name 0 (Any ∷ [])))
grown-occurs (suc k) = in_body 0 (grown k ∷ []) (record { params = 1; body = body }) (Name 0 (grown (suc k) ∷ [])) (grown-occurs k) refl
    (subst (λ (w : Term). IsPart (Name 0 (grown (suc k) ∷ [])) w) (sym (body-replaced (grown k))) (second-part (grown k) (Name 0 (grown (suc k) ∷ []))))

-- ---- how deep a tuple is in its first parts

abbrev mutual
  depth : Term → ℕ
  depth (Tuple' s ts) = suc (depth_row ts)
  depth _ = 0

  depth_row : {m : _} → Row_of-Term m → ℕ
  depth_row end_of-Term = 0
  depth_row (more_of-Term t ts) = depth t

abbrev first_depth : List Term → ℕ
first_depth [] = 0
first_depth (t ∷ ts) = depth t

row-depth : {m : _} (ts : Row_of-Term m) → depth_row ts ≡ first_depth (terms_of ts)
row-depth end_of-Term = refl
row-depth (more_of-Term t ts) = refl

grown-depth : (k : ℕ) → depth (grown k) ≡ k
grown-depth zero = refl
grown-depth (suc k) = ap suc (row-depth (hidden-the_row-Term-1 (grown k ∷ grown k ∷ [])) ∙ (ap first_depth (terms_of-hidden (grown k ∷ grown k ∷ [])) ∙ grown-depth k))

-- more than the depth of the first argument of each
abbrev bound : List Term → ℕ
bound [] = 0
bound (x ∷ xs) = suc (first_depth (children x)) + bound xs

below-bound : (x : Term) (xs : List Term) → Among x xs → first_depth (children x) < bound xs
below-bound x [] a = elim a [ ]
below-bound x (y ∷ xs) a = ⊎_elim
    (λ (e : x ≡ y). let q : first_depth (children x) ≡ first_depth (children y) = ap (λ (w : Term). first_depth (children w)) e in omega arith)
    (λ r. let l : first_depth (children x) < bound xs = below-bound x xs r in omega arith) a

pub always-another : (instances : List Term) → (arguments : List Term) × Occurs growing (Name 0 (Any ∷ [])) (Name 0 arguments) × (Among (Name 0 arguments) instances → ⊥)
always-another instances = (grown (bound instances) ∷ [], grown-occurs (bound instances), λ a. apart (below-bound (Name 0 (grown (bound instances) ∷ [])) instances a))
  where
    deep : first_depth (children (Name 0 (grown (bound instances) ∷ []))) ≡ bound instances
    deep = ap first_depth (children-Name 0 (grown (bound instances) ∷ [])) ∙ grown-depth (bound instances)

    apart : first_depth (children (Name 0 (grown (bound instances) ∷ []))) < bound instances → ⊥
    apart l = let d : first_depth (children (Name 0 (grown (bound instances) ∷ []))) ≡ bound instances = deep in omega arith

-- ---- the definition isn't regular

differ : (m n : ℕ) → m < n → m ≡ n → ⊥
differ m n l e = omega arith

pub not-regular : AreRegular growing → ⊥
not-regular r =
    let inside : IsPart (Name 0 (Tuple (Var 0 ∷ Var 0 ∷ []) ∷ [])) body = second-part (Var 0) (Name 0 (Tuple (Var 0 ∷ Var 0 ∷ []) ∷ [])) in
    let p : AreParameters 1 (Tuple (Var 0 ∷ Var 0 ∷ []) ∷ []) = r 0 0 (record { params = 1; body = body }) (Tuple (Var 0 ∷ Var 0 ∷ []) ∷ []) refl inside (mentions 0 0 (record { params = 1; body = body }) (Tuple (Var 0 ∷ Var 0 ∷ []) ∷ []) refl inside) in
    differ 7 15 (omega arith) (ap kind_number (p.1 0 (Tuple (Var 0 ∷ Var 0 ∷ [])) refl))
