-- A name under a tuple, and the parameters in which `ends` is open.
use Rattle.std.proofs.Common.{◌≡◌, refl, sym, ap, subst, ℕ, zero, suc, [], ◌∷◌, arith}
use Rattle.std.specs.Prelude.{Some, slice_get, codes}
use Rattle.type_terms.specs.declared.term.Def.{Def}
use Rattle.type_terms.specs.declared.term.Term.{Term, AtomLit, Cons, Tuple, Or, Var, Name}
use Rattle.type_terms.specs.declared.term.Term.TheViews as Views
use Rattle.type_terms.specs.Parts.{layer_operands}
use Rattle.type_terms.specs.Definitions.{IsBarePart, IsOpenIn, open_in, Reaches, directly, by_way_of, IsContractive, ends_definition, given_definitions}
use Rattle.type_terms.proofs.Contained.{contains-none}
use Rattle.type_terms.proofs.PartLaws.{kind_number, number_of, bare-step, each-of-two, operands-Or, operands-Cons, operands-Var}

abbrev own_element : Def
own_element = record { params = 0; body = Or (AtomLit (codes "a") ∷ Tuple (AtomLit (codes "a") ∷ Name 0 [] ∷ []) ∷ []) }

abbrev NoName : Term → Type 0
NoName p = kind_number p ≡ 16 → ⊥

own-bare : (p : Term) → IsBarePart (own_element ∷ []) p own_element.body → NoName p
own-bare =
    let cell : Term = Tuple (AtomLit (codes "a") ∷ Name 0 [] ∷ []) in
    bare-step (own_element ∷ []) NoName own_element.body (AtomLit (codes "a") ∷ cell ∷ []) (operands-Or _) (λ e. omega arith) (λ e. omega arith)
    (each-of-two (λ c. (p : Term) → IsBarePart (own_element ∷ []) p c → NoName p) (AtomLit (codes "a")) cell
    (bare-step (own_element ∷ []) NoName (AtomLit (codes "a")) [] (ap layer_operands (Views.outs-AtomLit (codes "a"))) (λ e. omega arith) (λ e. omega arith) (λ c k. absurd (contains-none c k)))
    (bare-step (own_element ∷ []) NoName cell [] (ap layer_operands (Views.outs-Tuple _)) (λ e. omega arith) (λ e. omega arith) (λ c k. absurd (contains-none c k))))

own-reaches : (n m : ℕ) → Reaches (own_element ∷ []) n m → ⊥
own-reaches _ _ (directly n m def args e b) = go n def e b
  where
    go : (n' : ℕ) (d : Def) → slice_get (own_element ∷ []) n' ≡ Some d → IsBarePart (own_element ∷ []) (Name m args) d.body → ⊥
    go zero d q c = own-bare (Name m args) (subst (λ (x : Def). IsBarePart (own_element ∷ []) (Name m args) x.body) (sym (inj q)) c) refl
      where
        inj : Some own_element ≡ Some d → own_element ≡ d
        inj r = cc
    go (suc n') d q c = absurd (cc)
own-reaches _ _ (by_way_of n l m r q) = own-reaches n l r

pub own-element : IsContractive (own_element ∷ [])
own-element n = own-reaches n n

-- the variables that stand bare in `ends` are the second parameter
abbrev Second : Term → Type 0
Second p = kind_number p ≡ 15 → number_of p ≡ 1

ends-bare : (p : Term) → IsBarePart given_definitions p ends_definition.body → Second p
ends-bare =
    let cell : Term = Cons (Var 0) (Name 1 (Var 0 ∷ Var 1 ∷ [])) in
    bare-step given_definitions Second ends_definition.body (Var 1 ∷ cell ∷ []) (operands-Or _) (λ e. omega arith) (λ e. absurd (omega arith))
    (each-of-two (λ c. (p : Term) → IsBarePart given_definitions p c → Second p) (Var 1) cell
    (bare-step given_definitions Second (Var 1) [] (operands-Var 1) (λ e. omega arith) (λ e. refl) (λ c k. absurd (contains-none c k)))
    (bare-step given_definitions Second cell [] (operands-Cons _ _) (λ e. omega arith) (λ e. absurd (omega arith)) (λ c k. absurd (contains-none c k))))

given-ends : (n : ℕ) (def : Def) → n ≡ 1 → slice_get given_definitions n ≡ Some def → ends_definition ≡ def
given-ends n def z e = same (subst (λ m. slice_get given_definitions m ≡ Some def) z e)
  where
    same : Some ends_definition ≡ Some def → ends_definition ≡ def
    same q = cc

ends-not_first : (n i : ℕ) → n ≡ 1 → i ≡ 0 → IsOpenIn given_definitions n i → ⊥
ends-not_first n i z f (open_in _ _ def e b) =
    let one : i ≡ 1 = ends-bare (Var i) (subst (λ (d : Def). IsBarePart given_definitions (Var i) d.body) (sym (given-ends n def z e)) b) refl in omega arith

pub ends-first : IsOpenIn given_definitions 1 0 → ⊥
ends-first = ends-not_first 1 0 refl refl
