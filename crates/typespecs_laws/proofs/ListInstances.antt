-- The instances in list(list(any)).
use Rattle.std.proofs.Common.{◌≡◌, refl, sym, ◌∙◌, ap, subst, ⊎_elim, inl, inr, ℕ, zero, suc, ◌<◌, List, [], ◌∷◌, arith}
use Rattle.std.specs.Prelude.{Some, slice_get}
use Rattle.std.specs.List.{Contains}
use Rattle.type_terms.specs.Definitions.{list_definition}
use Rattle.type_terms.specs.Parts.{IsPart, itself, in_child}
use Rattle.type_terms.specs.Regular.{AreParameters, AreRegular}
use Rattle.type_terms.specs.Replacement.{argument_of, replaced_by}
use Rattle.type_terms.specs.declared.term.Def.{Def}
use Rattle.type_terms.specs.declared.term.Term.{Term, Any, Nil, Cons, Or, Var, Name}
use Rattle.type_terms.specs.declared.term.Term.TheViews as Views
use Rattle.type_terms.specs.Parts.{layer_children}
use Rattle.type_terms.proofs.Contained.{contains-none, contains-first}
use Rattle.type_terms.proofs.PartLaws.{kind_number, each-part, each-of-one, each-of-two, children-Name, children-Or, children-Cons, children-Nil, children-Var, name-number, name-arguments}
use Rattle.type_terms.proofs.ReplacementParts as Parts
use Rattle.erl_tree.specs.Lists.{Among}
use Rattle.typespecs_laws.specs.Occurring.{Occurs, stands, in_body}
use Rattle.typespecs_laws.specs.SmallInstances.{lists, list_of_any, list_of_lists}
use Rattle.typespecs_laws.proofs.ReplacedNames.{part-through}
use Rattle.typespecs_lemmas.proofs.FirstFault.{some-inj}

-- the body of the definition of lists of x
abbrev cells : Term → Term
cells x = Or (Nil ∷ Cons x (Name 0 (x ∷ [])) ∷ [])

cells-replaced : (x : Term) → replaced_by (x ∷ []) list_definition.body ≡ cells x
cells-replaced x =
    Parts.replaced-Or (argument_of (x ∷ [])) (Nil ∷ Cons (Var 0) (Name 0 (Var 0 ∷ [])) ∷ [])
    ∙ ap (λ (t : Term). Or (Nil ∷ t ∷ [])) (Parts.replaced-Cons (argument_of (x ∷ [])) (Var 0) (Name 0 (Var 0 ∷ [])) ∙ ap (Cons x) (Parts.replaced-Name (argument_of (x ∷ [])) 0 (Var 0 ∷ [])))

no-name : {A : Type 0} (k : ℕ) → k < 16 → k ≡ 16 → A
no-name k l e = absurd (omega arith)

-- each name in it stands in list(x)
names-in-cells : (x : Term) (p : Term) → IsPart p (cells x) → kind_number p ≡ 16 → IsPart p (Name 0 (x ∷ []))
names-in-cells x = each-part Q (cells x) (Nil ∷ Cons x (Name 0 (x ∷ [])) ∷ []) (children-Or _) (no-name 12 (omega arith))
    (each-of-two (λ c. (p : Term) → IsPart p c → Q p) Nil (Cons x (Name 0 (x ∷ []))) in-nil in-cons)
  where
    Q : Term → Type 0
    Q p = kind_number p ≡ 16 → IsPart p (Name 0 (x ∷ []))

    in-nil : (p : Term) → IsPart p Nil → Q p
    in-nil = each-part Q Nil [] children-Nil (no-name 5 (omega arith)) (λ c k. absurd (contains-none c k))

    in-cons : (p : Term) → IsPart p (Cons x (Name 0 (x ∷ []))) → Q p
    in-cons = each-part Q (Cons x (Name 0 (x ∷ []))) (x ∷ Name 0 (x ∷ []) ∷ []) (children-Cons x (Name 0 (x ∷ []))) (no-name 6 (omega arith))
        (each-of-two (λ c. (p : Term) → IsPart p c → Q p) x (Name 0 (x ∷ []))
        (λ p part e. in_child p x (Name 0 (x ∷ [])) (subst (λ (l : List Term). Contains l x) (sym (children-Name 0 (x ∷ []))) (contains-first x [])) part)
        (λ p part e. part))

-- the names in list(x), by those in x
names-in-list : (x : Term) (Q : Term → Type 0) → Q (Name 0 (x ∷ [])) → ((p : Term) → IsPart p x → Q p) → (p : Term) → IsPart p (Name 0 (x ∷ [])) → Q p
names-in-list x Q q h = each-part Q (Name 0 (x ∷ [])) (x ∷ []) (children-Name 0 (x ∷ [])) q (each-of-one (λ c. (p : Term) → IsPart p c → Q p) x h)

names-in-any : (Q : Term → Type 0) → Q Any → (p : Term) → IsPart p Any → Q p
names-in-any Q q = each-part Q Any [] (ap layer_children Views.outs-Any) q (λ c k. absurd (contains-none c k))

-- each name in list(list(any)) is one of two
two-names : (p : Term) → IsPart p list_of_lists → kind_number p ≡ 16 → Among p (list_of_lists ∷ list_of_any ∷ [])
two-names = names-in-list list_of_any Q (λ e. inl refl) (names-in-list Any Q (λ e. inr (inl refl)) (names-in-any Q (no-name 0 (omega arith))))
  where
    Q : Term → Type 0
    Q p = kind_number p ≡ 16 → Among p (list_of_lists ∷ list_of_any ∷ [])

-- both are names of a list
a-list : (p : Term) → Among p (list_of_lists ∷ list_of_any ∷ []) → (x : Term) × (p ≡ Name 0 (x ∷ []))
a-list p a = ⊎_elim (λ (e : p ≡ list_of_lists). (list_of_any, e)) (λ r. ⊎_elim (λ (e : p ≡ list_of_any). (Any, e)) (λ n. elim n [ ]) r) a

at-zero : (n : ℕ) (def : Def) → n ≡ 0 → slice_get lists n ≡ Some def → list_definition ≡ def
at-zero n def e g = some-inj list_definition def (subst (λ (k : ℕ). slice_get lists k ≡ Some def) e g)

-- each name in what occurs stands in list(list(any))
occurring : (u : Term) → Occurs lists list_of_lists u → (m : ℕ) (args : List Term) → IsPart (Name m args) u → IsPart (Name m args) list_of_lists
occurring _ (stands u p) m args q = part-through (Name m args) u list_of_lists q p
occurring _ (in_body n b def u o g p) m args q = go (occurring (Name n b) o n b (itself (Name n b)))
  where
    go : IsPart (Name n b) list_of_lists → IsPart (Name m args) list_of_lists
    go here =
        let x = a-list (Name n b) (two-names (Name n b) here refl) in
        let d : list_definition ≡ def = at-zero n def (name-number n 0 b (x.0 ∷ []) x.1) g in
        let same : replaced_by b def.body ≡ cells x.0 = (λ j. replaced_by (name-arguments n 0 b (x.0 ∷ []) x.1 j) ((sym d j).body)) ∙ cells-replaced x.0 in
        let whole : IsPart (Name m args) (cells x.0) = subst (λ (w : Term). IsPart (Name m args) w) same (part-through (Name m args) u (replaced_by b def.body) q p) in
        part-through (Name m args) (Name n b) list_of_lists (subst (λ (w : Term). IsPart (Name m args) w) (sym x.1) (names-in-cells x.0 (Name m args) whole refl)) here

pub two-instances : (n : ℕ) (arguments : List Term) → Occurs lists list_of_lists (Name n arguments) → Among (Name n arguments) (list_of_lists ∷ list_of_any ∷ [])
two-instances n arguments o = two-names (Name n arguments) (occurring (Name n arguments) o n arguments (itself (Name n arguments))) refl

pub second-occurs : Occurs lists list_of_lists list_of_any
second-occurs = stands list_of_any (in_child list_of_any list_of_any list_of_lists (subst (λ (l : List Term). Contains l list_of_any) (sym (children-Name 0 (list_of_any ∷ []))) (contains-first list_of_any [])) (itself list_of_any))

-- ---- the definition is regular

the-parameter : AreParameters 1 (Var 0 ∷ [])
the-parameter = (refl, go)
  where
    go : (i : ℕ) (t : Term) → slice_get (Var 0 ∷ []) i ≡ Some t → t ≡ Var i
    go zero t e = sym (some-inj (Var 0) t e)
    go (suc i) t e = absurd (cc)

parameters-only : (m : ℕ) (args : List Term) → IsPart (Name m args) list_definition.body → AreParameters 1 args
parameters-only m args p = go (Name m args) (names-in-cells (Var 0) (Name m args) p refl) m args refl
  where
    Q : Term → Type 0
    Q w = (n : ℕ) (bs : List Term) → w ≡ Name n bs → AreParameters 1 bs

    go : (w : Term) → IsPart w (Name 0 (Var 0 ∷ [])) → Q w
    go = names-in-list (Var 0) Q (λ n bs e. subst (λ (l : List Term). AreParameters 1 l) (name-arguments 0 n (Var 0 ∷ []) bs e) the-parameter)
        (each-part Q (Var 0) [] (children-Var 0) (λ n bs e. no-name 15 (omega arith) (ap kind_number e)) (λ c k. absurd (contains-none c k)))

pub lists-regular : AreRegular lists
lists-regular zero m def args e p l = let d : list_definition ≡ def = some-inj list_definition def e in subst (λ (x : Def). AreParameters x.params args) d (parameters-only m args (subst (λ (x : Def). IsPart (Name m args) x.body) (sym d) p))
lists-regular (suc n) m def args e p l = absurd (cc)
