-- The children and operands of each kind of term, and the cases of a part.
use Rattle.std.proofs.Common.{◌≡◌, refl, sym, ◌∙◌, ap, subst, ℕ, zero, suc, List, [], ◌∷◌, Bool, false, not, ⊎_elim, arith}
use Rattle.std.specs.Prelude.{Some, slice_get}
use Rattle.std.specs.List.{Contains}
use Rattle.type_terms.specs.declared.term.Def.{Def}
use Rattle.type_terms.specs.declared.term.Field.{Field}
use Rattle.type_terms.specs.declared.term.Term.{Term, out-Term, roll-Term, roll-out-Term, Any, None, Ints, AtomLit, AnyAtom, Nil, Cons, Cons', Tuple', AnyTuple, Map', Fun', AnyFun, Or, Or', And', Not, Not', Var, Name, Name', Row_of-Term, end_of-Term, more_of-Term, items_shown-the_row-Term-1}
use Rattle.type_terms.specs.declared.term.Term.TheBlock.{shape-the_row-Term-0, hidden-the_row-Term-0, shown-the_row-Term-0, shown-the_row-Term-1}
use Rattle.type_terms.specs.declared.term.Term.TheOpen
use denote.Hole.Carrier.{shown}
use Rattle.type_terms.specs.declared.term.Term.TheViews as Views
use Rattle.type_terms.specs.Definitions.{IsBarePart, itself, in_operand, in_argument, IsOpenIn}
use Rattle.type_terms.specs.Parts.{layer_children, children, layer_operands, operands, layer_positive_children, positive_children, IsPart, in_child, itself as whole_itself}
use Rattle.type_terms.specs.Signs.{StandsUnder, in_not, in_body, itself as under_itself, in_child as under_child}
use Rattle.type_terms.specs.Replacement.{terms_of}
use Rattle.type_terms.proofs.Ranks.{all_bare, all_bare_row, all_bare_args}
use Rattle.type_terms.proofs.Contained.{contains-none, contains-cases, contains-first, contains-later}
use Rattle.type_terms.proofs.ReadingLaws.{terms_of-items}

-- the number of a term's kind
abbrev pub kind_number : Term → ℕ
kind_number Any = 0
kind_number None = 1
kind_number (Ints low high) = 2
kind_number (AtomLit name) = 3
kind_number AnyAtom = 4
kind_number Nil = 5
kind_number (Cons' s a t b) = 6
kind_number (Tuple' s ts) = 7
kind_number AnyTuple = 8
kind_number (Map' s fs r q) = 9
kind_number (Fun' s ts t a) = 10
kind_number (AnyFun n) = 11
kind_number (Or' s ts) = 12
kind_number (And' s ts) = 13
kind_number (Not' s ts) = 14
kind_number (Var n) = 15
kind_number (Name' n s ts) = 16

pub shown-terms : (s : _) (ts : Row_of-Term _) → shown-the_row-Term-1 s ts ≡ terms_of ts
shown-terms s ts = items_shown-the_row-Term-1 s ts ∙ sym (terms_of-items ts)

pub shown-term : (s : _) (ts : Row_of-Term _) → shown-the_row-Term-0 s ts ∷ [] ≡ terms_of ts
unfolding shape-the_row-Term-0 hidden-the_row-Term-0 shown-the_row-Term-0 shown
shown-term s (more_of-Term t end_of-Term) = refl

pub operands-Or' : (s : _) (ts : Row_of-Term _) → operands (Or' s ts) ≡ terms_of ts
operands-Or' s ts = ap layer_operands (Views.outs-Or' s ts) ∙ shown-terms s ts

pub operands-And' : (s : _) (ts : Row_of-Term _) → operands (And' s ts) ≡ terms_of ts
operands-And' s ts = ap layer_operands (Views.outs-And' s ts) ∙ shown-terms s ts

pub operands-Not' : (s : _) (ts : Row_of-Term _) → operands (Not' s ts) ≡ terms_of ts
operands-Not' s ts = ap layer_operands (Views.outs-Not' s ts) ∙ shown-term s ts

pub name-terms : (n : ℕ) (s : _) (ts : Row_of-Term _) → Name' n s ts ≡ Name n (terms_of ts)
name-terms n s ts = sym (roll-out-Term (Name' n s ts)) ∙ (ap roll-Term (Views.outs-Name' n s ts) ∙ (Views.rolls-Name n (shown-the_row-Term-1 s ts) ∙ ap (Name n) (shown-terms s ts)))

pub children-Name : (n : ℕ) (ts : List Term) → children (Name n ts) ≡ ts
children-Name n ts = ap layer_children (Views.outs-Name n ts)

pub children-Or : (ts : List Term) → children (Or ts) ≡ ts
children-Or ts = ap layer_children (Views.outs-Or ts)

pub operands-Or : (ts : List Term) → operands (Or ts) ≡ ts
operands-Or ts = ap layer_operands (Views.outs-Or ts)

pub children-Cons : (s t : Term) → children (Cons s t) ≡ s ∷ t ∷ []
children-Cons s t = ap layer_children (Views.outs-Cons s t)

pub operands-Cons : (s t : Term) → operands (Cons s t) ≡ []
operands-Cons s t = ap layer_operands (Views.outs-Cons s t)

pub contains-at : {X : Type 0} (xs : List X) (j : ℕ) (x : X) → slice_get xs j ≡ Some x → Contains xs x
contains-at [] j x e = absurd (cc)
contains-at (y ∷ ys) zero x e = subst (λ z. Contains (y ∷ ys) z) (some_inj e) (contains-first y ys)
  where
    some_inj : Some y ≡ Some x → y ≡ x
    some_inj q = cc
contains-at (y ∷ ys) (suc j) x e = contains-later y x ys (contains-at ys j x e)

-- an operand is a child
operand-child : (l : TheOpen.Term-F Term Field) (t : Term) → Contains (layer_operands l) t → Contains (layer_children l) t
operand-child (TheOpen.Or ts) t c = c
operand-child (TheOpen.And ts) t c = c
operand-child (TheOpen.Not s) t c = c
operand-child TheOpen.Any t c = absurd (contains-none t c)
operand-child TheOpen.None t c = absurd (contains-none t c)
operand-child (TheOpen.Ints low high) t c = absurd (contains-none t c)
operand-child (TheOpen.AtomLit name) t c = absurd (contains-none t c)
operand-child TheOpen.AnyAtom t c = absurd (contains-none t c)
operand-child TheOpen.Nil t c = absurd (contains-none t c)
operand-child (TheOpen.Cons a b) t c = absurd (contains-none t c)
operand-child (TheOpen.Tuple ts) t c = absurd (contains-none t c)
operand-child TheOpen.AnyTuple t c = absurd (contains-none t c)
operand-child (TheOpen.Map fs r q) t c = absurd (contains-none t c)
operand-child (TheOpen.Fun ts s) t c = absurd (contains-none t c)
operand-child (TheOpen.AnyFun n) t c = absurd (contains-none t c)
operand-child (TheOpen.Var n) t c = absurd (contains-none t c)
operand-child (TheOpen.Name n ts) t c = absurd (contains-none t c)

argument-child : (w t : Term) (n : ℕ) (ts : List Term) → w ≡ Name n ts → Contains ts t → Contains (children w) t
argument-child w t n ts e c = subst (λ x. Contains (children x) t) (sym e) (subst (λ l. Contains l t) (sym (children-Name n ts)) c)

-- a bare part is a part
pub bare-part : (defs : List Def) (p w : Term) → IsBarePart defs p w → IsPart p w
bare-part defs _ _ (itself t) = whole_itself t
bare-part defs _ _ (in_operand p o w c b) = in_child p o w (operand-child (out-Term w) o c) (bare-part defs p o b)
bare-part defs _ _ (in_argument p a w n j args e g o b) = in_child p a w (argument-child w a n args e (contains-at args j a g)) (bare-part defs p a b)

-- what fulfils P and V wherever it stands bare
module _ (defs : List Def) (P : ℕ → Type 0) (V : ℕ → Type 0) where
  mutual
    pub bare-into : (t : Term) → ((m : ℕ) (args : List Term) → IsBarePart defs (Name m args) t → P m) → ((j : ℕ) → IsBarePart defs (Var j) t → V j) → all_bare P V (IsOpenIn defs) t
    bare-into Any p v = tt
    bare-into None p v = tt
    bare-into (Ints low high) p v = tt
    bare-into (AtomLit name) p v = tt
    bare-into AnyAtom p v = tt
    bare-into Nil p v = tt
    bare-into (Cons' s a t b) p v = tt
    bare-into (Tuple' s ts) p v = tt
    bare-into AnyTuple p v = tt
    bare-into (Map' s fs r q) p v = tt
    bare-into (Fun' s ts t a) p v = tt
    bare-into (AnyFun n) p v = tt
    bare-into (Or' s ts) p v = bare_row-into (Or' s ts) ts (λ u c. subst (λ l. Contains l u) (sym (operands-Or' s ts)) c) p v
    bare-into (And' s ts) p v = bare_row-into (And' s ts) ts (λ u c. subst (λ l. Contains l u) (sym (operands-And' s ts)) c) p v
    bare-into (Not' s ts) p v = bare_row-into (Not' s ts) ts (λ u c. subst (λ l. Contains l u) (sym (operands-Not' s ts)) c) p v
    bare-into (Var n) p v = v n (itself (Var n))
    bare-into (Name' n s ts) p v = (p n (terms_of ts) (subst (λ w. IsBarePart defs w (Name' n s ts)) (name-terms n s ts) (itself (Name' n s ts))), bare_args-into (Name' n s ts) n (terms_of ts) (name-terms n s ts) (λ j. j) ts (λ j u e. e) p v)

    bare_row-into : {m : _} (w : Term) (ts : Row_of-Term m) → ((u : Term) → Contains (terms_of ts) u → Contains (operands w) u) → ((m' : ℕ) (args : List Term) → IsBarePart defs (Name m' args) w → P m') → ((j : ℕ) → IsBarePart defs (Var j) w → V j) → all_bare_row P V (IsOpenIn defs) ts
    bare_row-into w end_of-Term c p v = tt
    bare_row-into w (more_of-Term t ts) c p v =
        let here : Contains (operands w) t = c t (contains-first t (terms_of ts)) in (
          bare-into t (λ m args b. p m args (in_operand (Name m args) t w here b)) (λ j b. v j (in_operand (Var j) t w here b)),
          bare_row-into w ts (λ u c'. c u (contains-later t u (terms_of ts) c')) p v,
        )

    bare_args-into : {m : _} (w : Term) (n : ℕ) (all : List Term) → w ≡ Name n all → (place : ℕ → ℕ) (ts : Row_of-Term m) → ((j : ℕ) (u : Term) → slice_get (terms_of ts) j ≡ Some u → slice_get all (place j) ≡ Some u) → ((m' : ℕ) (args : List Term) → IsBarePart defs (Name m' args) w → P m') → ((j : ℕ) → IsBarePart defs (Var j) w → V j) → all_bare_args P V (IsOpenIn defs) n place ts
    bare_args-into w n all e place end_of-Term g p v = tt
    bare_args-into w n all e place (more_of-Term t ts) g p v =
        let here : slice_get all (place 0) ≡ Some t = g 0 t refl in (
          (λ o. bare-into t (λ m args b. p m args (in_argument (Name m args) t w n (place 0) all e here o b)) (λ j b. v j (in_argument (Var j) t w n (place 0) all e here o b))),
          bare_args-into w n all e (λ j. place (suc j)) ts (λ j u q. g (suc j) u q) p v,
        )

-- the cases of a part
pub each-part : (Q : Term → Type 0) (w : Term) (ts : List Term) → children w ≡ ts → Q w → ((c : Term) → Contains ts c → (p : Term) → IsPart p c → Q p) → (p : Term) → IsPart p w → Q p
each-part Q w ts e q h _ (whole_itself _) = q
each-part Q w ts e q h _ (in_child p c _ k b) = h c (subst (λ l. Contains l c) e k) p b

pub bare-step : (defs : List Def) (Q : Term → Type 0) (w : Term) (ts : List Term) → operands w ≡ ts → (kind_number w ≡ 16 → ⊥) → Q w → ((c : Term) → Contains ts c → (p : Term) → IsBarePart defs p c → Q p) → (p : Term) → IsBarePart defs p w → Q p
bare-step defs Q w ts e no_name q h _ (itself _) = q
bare-step defs Q w ts e no_name q h _ (in_operand p o _ c b) = h o (subst (λ l. Contains l o) e c) p b
bare-step defs Q w ts e no_name q h _ (in_argument p a _ n j args e' g o b) = absurd (no_name (ap kind_number e'))

pub under-step : (defs : List Def) (Q : Bool → Term → Type 0) (w : Term) (ts : List Term) → positive_children w ≡ ts → (kind_number w ≡ 14 → ⊥) → (kind_number w ≡ 16 → ⊥) → Q false w → ((c : Term) → Contains ts c → (odd : Bool) (p : Term) → StandsUnder defs odd p c → Q odd p) → (odd : Bool) (p : Term) → StandsUnder defs odd p w → Q odd p
under-step defs Q w ts e no_not no_name q h _ _ (under_itself _) = q
under-step defs Q w ts e no_not no_name q h _ _ (under_child odd p c _ k s) = h c (subst (λ l. Contains l c) e k) odd p s
under-step defs Q w ts e no_not no_name q h _ _ (in_not odd p n _ e' s) = absurd (no_not (ap kind_number e'))
under-step defs Q w ts e no_not no_name q h _ _ (in_body odd p _ n args def e' g s) = absurd (no_name (ap kind_number e'))

apart : (a b : ℕ) → a ≡ 14 → b ≡ 16 → a ≡ b → ⊥
apart a b p q e = omega arith

not-name : {A : Type 0} (t : Term) (n : ℕ) (args : List Term) → Not t ≡ Name n args → A
not-name t n args e = absurd (apart (kind_number (Not t)) (kind_number (Name n args)) refl refl (ap kind_number e))

pub under-Not : (defs : List Def) (Q : Bool → Term → Type 0) (t : Term) → Q false (Not t) → ((odd : Bool) (p : Term) → StandsUnder defs odd p t → Q (not odd) p) → (odd : Bool) (p : Term) → StandsUnder defs odd p (Not t) → Q odd p
under-Not defs Q t q h o p s = go o p (Not t) refl s
  where
    negated : (a b : Term) → Not a ≡ Not b → b ≡ a
    negated a b e = heads (sym (ap layer_children (Views.outs-Not b)) ∙ (ap children (sym e) ∙ ap layer_children (Views.outs-Not a)))
      where
        head_or : List Term → Term
        head_or [] = Any
        head_or (x ∷ xs) = x

        heads : b ∷ [] ≡ a ∷ [] → b ≡ a
        heads r = ap head_or r

    go : (o' : Bool) (p' w : Term) → w ≡ Not t → StandsUnder defs o' p' w → Q o' p'
    go _ _ _ e (under_itself w) = subst (λ x. Q false x) (sym e) q
    go _ _ _ e (under_child odd p' c w k u) = absurd (contains-none c (subst (λ l. Contains l c) (ap positive_children e ∙ ap layer_positive_children (Views.outs-Not t)) k))
    go _ _ _ e (in_not odd p' n w e' u) = h odd p' (subst (λ x. StandsUnder defs odd p' x) (negated t n (sym e ∙ e')) u)
    go _ _ _ e (in_body odd p' w n args def e' g u) = not-name t n args (sym e ∙ e')

pub each-of-one : {X : Type 0} (R : X → Type 0) (a : X) → R a → (c : X) → Contains (a ∷ []) c → R c
each-of-one R a r c k = ⊎_elim (λ (e : a ≡ c). subst R e r) (λ n. absurd (contains-none c n)) (contains-cases a c [] k)

pub each-of-two : {X : Type 0} (R : X → Type 0) (a b : X) → R a → R b → (c : X) → Contains (a ∷ b ∷ []) c → R c
each-of-two R a b r s c k = ⊎_elim (λ (e : a ≡ c). subst R e r) (each-of-one R b s c) (contains-cases a c (b ∷ []) k)

-- the number of a variable or name
abbrev pub number_of : Term → ℕ
number_of (Var n) = n
number_of (Name' n s ts) = n
number_of _ = 0

pub var-number : (i j : ℕ) → Var i ≡ Var j → i ≡ j
var-number i j e = ap number_of e

pub name-number : (n m : ℕ) (cs bs : List Term) → Name n cs ≡ Name m bs → n ≡ m
name-number n m cs bs e = ap number_of e

pub name-arguments : (n m : ℕ) (cs bs : List Term) → Name n cs ≡ Name m bs → cs ≡ bs
name-arguments n m cs bs e = sym (children-Name n cs) ∙ (ap children e ∙ children-Name m bs)

pub children-Nil : children Nil ≡ []
children-Nil = ap layer_children Views.outs-Nil

pub operands-Nil : operands Nil ≡ []
operands-Nil = ap layer_operands Views.outs-Nil

pub children-Var : (n : ℕ) → children (Var n) ≡ []
children-Var n = ap layer_children (Views.outs-Var n)

pub operands-Var : (n : ℕ) → operands (Var n) ≡ []
operands-Var n = ap layer_operands (Views.outs-Var n)

pub children-Ints : (low high : _) → children (Ints low high) ≡ []
children-Ints low high = ap layer_children (Views.outs-Ints low high)

pub positive_children-Ints : (low high : _) → positive_children (Ints low high) ≡ []
positive_children-Ints low high = ap layer_positive_children (Views.outs-Ints low high)

pub positive_children-Var : (n : ℕ) → positive_children (Var n) ≡ []
positive_children-Var n = ap layer_positive_children (Views.outs-Var n)

pub children-Not : (t : Term) → children (Not t) ≡ t ∷ []
children-Not t = ap layer_children (Views.outs-Not t)
