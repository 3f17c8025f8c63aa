-- The bare numbers of a term are those of its bare parts, and paths between names are what definitions reach.
use Rattle.std.proofs.Common.{◌≡◌, refl, sym, ◌∙◌, ap, subst, ℕ, zero, suc, ◌+◌, append-nil, List, [], ◌∷◌, map, get_or, Bool, true, false, cond, ⊎_elim, arith, add-zero}
use Rattle.std.specs.Prelude.{Some, slice_get}
use Rattle.std.specs.List.{Contains}
use Rattle.std.proofs.lemmas.List.Elements.{Contains-append_left, Contains-append_right, Contains-append_cases}
use Rattle.type_terms.specs.declared.term.Def.{Def}
use Rattle.type_terms.specs.declared.term.Field.{Field}
use Rattle.type_terms.specs.declared.term.Term.{Term, out-Term, roll-Term, roll-out-Term, Any, None, Ints, AtomLit, AnyAtom, Nil, Cons, Tuple, AnyTuple, Map, Fun, AnyFun, Or, And, Not, Var, Name}
use Rattle.type_terms.specs.declared.term.Term.TheOpen as F
use Rattle.type_terms.specs.declared.term.Term.TheViews as Views
use Rattle.type_terms.specs.declared.openness.Wanted.{Wanted}
use Rattle.type_terms.specs.declared.openness.Wanted.TheVariants.{Variables, Names}
use Rattle.type_terms.specs.Parts.{layer_children, layer_operands, operands}
use Rattle.type_terms.specs.Definitions.{IsBarePart, itself, in_operand, in_argument, IsOpenIn, open_in, Reaches, directly, by_way_of}
use Rattle.type_terms.specs.BareNumbers.{open_by, name_number, bare_in, bare_in_terms, bare_in_arguments}
use Rattle.type_terms.specs.Openness.{OpenWhereSaid, SaysAll, names_by}
use Rattle.type_terms.specs.Paths.{IsPath, edge, onward}
use Rattle.type_terms.proofs.Contained.{contains-none, contains-cases, contains-first, contains-later}
use Rattle.type_terms.proofs.PartLaws.{contains-at}
use Rattle.type_terms.proofs.Induction.{by-children}
use Rattle.type_terms.proofs.BareLaws

contains-one : (n x : ℕ) → Contains (n ∷ []) x → n ≡ x
contains-one n x k = ⊎_elim (λ (e : n ≡ x). e) (λ k'. absurd (contains-none x k')) (contains-cases n x [] k)

-- that a number of this sort stands bare in a term
abbrev BareOf : List Def → Wanted → ℕ → Term → Type 0
BareOf defs Variables i t = IsBarePart defs (Var i) t
BareOf defs Names n t = (arguments : List Term) × IsBarePart defs (Name n arguments) t

operand-bare : (defs : List Def) (w : Wanted) (x : ℕ) (c whole : Term) → Contains (operands whole) c → BareOf defs w x c → BareOf defs w x whole
operand-bare defs Variables x c whole k b = in_operand (Var x) c whole k b
operand-bare defs Names x c whole k b = (b.0, in_operand (Name x b.0) c whole k b.1)

argument-bare : (defs : List Def) (w : Wanted) (x : ℕ) (c : Term) (n j : ℕ) (ts : List Term) → slice_get ts j ≡ Some c → IsOpenIn defs n j → BareOf defs w x c → BareOf defs w x (Name n ts)
argument-bare defs Variables x c n j ts g o b = in_argument (Var x) c (Name n ts) n j ts refl g o b
argument-bare defs Names x c n j ts g o b = (b.0, in_argument (Name x b.0) c (Name n ts) n j ts refl g o b.1)

module _ (w : Wanted) (o : ℕ → ℕ → Bool) where
  from-terms : (ts : List Term) (x : ℕ) → Contains (bare_in_terms w o ts) x → (c : Term) × Contains ts c × Contains (bare_in w o c) x
  from-terms [] x k = absurd (contains-none x k)
  from-terms (t ∷ ts) x k =
      ⊎_elim (λ (k' : Contains (bare_in w o t) x). (t, contains-first t ts, k'))
      (λ (k' : Contains (bare_in_terms w o ts) x). let q : (c : Term) × Contains ts c × Contains (bare_in w o c) x = from-terms ts x k' in (q.0, contains-later t q.0 ts q.1, q.2))
      (Contains-append_cases (bare_in w o t) (bare_in_terms w o ts) x k)

  into-terms : (ts : List Term) (c : Term) (x : ℕ) → Contains ts c → Contains (bare_in w o c) x → Contains (bare_in_terms w o ts) x
  into-terms [] c x k b = absurd (contains-none c k)
  into-terms (t ∷ ts) c x k b =
      ⊎_elim (λ (e : t ≡ c). Contains-append_left (bare_in w o t) (bare_in_terms w o ts) x (subst (λ (d : Term). Contains (bare_in w o d) x) (sym e) b))
      (λ (k' : Contains ts c). Contains-append_right (bare_in w o t) (bare_in_terms w o ts) x (into-terms ts c x k' b))
      (contains-cases t c ts k)

  chosen : (b : Bool) (xs : List ℕ) (x : ℕ) → Contains (cond b xs []) x → (b ≡ true) × Contains xs x
  chosen true xs x k = (refl, k)
  chosen false xs x k = absurd (contains-none x k)

  choose : (b : Bool) (xs : List ℕ) (x : ℕ) → b ≡ true → Contains xs x → Contains (cond b xs []) x
  choose b xs x e k = subst (λ c. Contains (cond c xs []) x) (sym e) k

  Argument : ℕ → ℕ → List Term → ℕ → Type 0
  Argument n j ts x = (i : ℕ) × (c : Term) × (slice_get ts i ≡ Some c) × (o n (i + j) ≡ true) × Contains (bare_in w o c) x

  from-arguments : (n j : ℕ) (ts : List Term) (x : ℕ) → Contains (bare_in_arguments w o n j ts) x → Argument n j ts x
  unfolding Argument
  from-arguments n j [] x k = absurd (contains-none x k)
  from-arguments n j (t ∷ ts) x k =
      ⊎_elim (λ (k' : Contains (cond (o n j) (bare_in w o t) []) x). let q : (o n j ≡ true) × Contains (bare_in w o t) x = chosen (o n j) (bare_in w o t) x k' in let z : j ≡ 0 + j = omega arith in (0, t, refl, sym (ap (o n) z) ∙ q.0, q.1))
      (λ (k' : Contains (bare_in_arguments w o n (suc j) ts) x). let q : Argument n (suc j) ts x = from-arguments n (suc j) ts x k' in let z : q.0 + suc j ≡ suc q.0 + j = omega arith in (suc q.0, q.1, q.2, sym (ap (o n) z) ∙ q.3, q.4))
      (Contains-append_cases (cond (o n j) (bare_in w o t) []) (bare_in_arguments w o n (suc j) ts) x k)

  into-arguments : (n j : ℕ) (ts : List Term) (i : ℕ) (c : Term) (x : ℕ) → slice_get ts i ≡ Some c → o n (i + j) ≡ true → Contains (bare_in w o c) x → Contains (bare_in_arguments w o n j ts) x
  into-arguments n j [] i c x g q b = absurd (cc)
  into-arguments n j (t ∷ ts) zero c x g q b =
      let z : 0 + j ≡ j = omega arith in
      let e : t ≡ c = some_inj g in
      Contains-append_left (cond (o n j) (bare_in w o t) []) (bare_in_arguments w o n (suc j) ts) x (choose (o n j) (bare_in w o t) x (sym (ap (o n) z) ∙ q) (subst (λ (d : Term). Contains (bare_in w o d) x) (sym e) b))
    where
      some_inj : Some t ≡ Some c → t ≡ c
      some_inj r = cc
  into-arguments n j (t ∷ ts) (suc i) c x g q b =
      let z : suc i + j ≡ i + suc j = omega arith in
      Contains-append_right (cond (o n j) (bare_in w o t) []) (bare_in_arguments w o n (suc j) ts) x (into-arguments n (suc j) ts i c x g (sym (ap (o n) z) ∙ q) b)

module _ (defs : List Def) (o : ℕ → ℕ → Bool) (sound : (n i : ℕ) → o n i ≡ true → IsOpenIn defs n i) where
  Sound : Term → Type 0
  Sound t = (w : Wanted) (x : ℕ) → Contains (bare_in w o t) x → BareOf defs w x t

  nothing : (t : Term) → ((w : Wanted) → bare_in w o t ≡ []) → Sound t
  unfolding Sound
  nothing t e w x k = absurd (contains-none x (subst (λ (l : List ℕ). Contains l x) (e w) k))

  of-terms : (t : Term) (ts : List Term) → operands t ≡ ts → ((w : Wanted) → bare_in w o t ≡ bare_in_terms w o ts) → ((c : Term) → Contains ts c → Sound c) → Sound t
  unfolding Sound
  of-terms t ts q e ih w x k =
      let r : (c : Term) × Contains ts c × Contains (bare_in w o c) x = from-terms w o ts x (subst (λ (l : List ℕ). Contains l x) (e w) k) in
      operand-bare defs w x r.0 t (subst (λ (l : List Term). Contains l r.0) (sym q) r.1) (ih r.0 r.1 w x r.2)

  of-variable : (n : ℕ) → Sound (Var n)
  unfolding Sound
  of-variable n Variables x k = subst (λ m. IsBarePart defs (Var m) (Var n)) (contains-one n x (subst (λ (l : List ℕ). Contains l x) (BareLaws.bare-Var Variables o n) k)) (itself (Var n))
  of-variable n Names x k = absurd (contains-none x (subst (λ (l : List ℕ). Contains l x) (BareLaws.bare-Var Names o n) k))

  of-own_name : (w : Wanted) (n x : ℕ) (ts : List Term) → Contains (name_number w n) x → BareOf defs w x (Name n ts)
  of-own_name Variables n x ts k = absurd (contains-none x k)
  of-own_name Names n x ts k = (ts, subst (λ m. IsBarePart defs (Name m ts) (Name n ts)) (contains-one n x k) (itself (Name n ts)))

  of-name : (n : ℕ) (ts : List Term) → ((c : Term) → Contains ts c → Sound c) → Sound (Name n ts)
  unfolding Sound Argument
  of-name n ts ih w x k =
      ⊎_elim (λ (k' : Contains (name_number w n) x). of-own_name w n x ts k')
      (λ (k' : Contains (bare_in_arguments w o n 0 ts) x).
      let q : (i : ℕ) × (c : Term) × (slice_get ts i ≡ Some c) × (o n (i + 0) ≡ true) × Contains (bare_in w o c) x = from-arguments w o n 0 ts x k' in
      argument-bare defs w x q.1 n q.0 ts q.2 (sound n q.0 (sym (ap (o n) (add-zero q.0)) ∙ q.3)) (ih q.1 (contains-at ts q.0 q.1 q.2) w x q.4))
      (Contains-append_cases (name_number w n) (bare_in_arguments w o n 0 ts) x (subst (λ (l : List ℕ). Contains l x) (BareLaws.bare-Name w o n ts) k))

  of-layer : (l : F.Term-F Term Field) → ((c : Term) → Contains (layer_children l) c → Sound c) → Sound (roll-Term l)
  of-layer F.Any ih = subst Sound (sym Views.rolls-Any) (nothing Any (λ w. BareLaws.bare-Any w o))
  of-layer F.None ih = subst Sound (sym Views.rolls-None) (nothing None (λ w. BareLaws.bare-None w o))
  of-layer (F.Ints low high) ih = subst Sound (sym (Views.rolls-Ints low high)) (nothing (Ints low high) (λ w. BareLaws.bare-Ints w o low high))
  of-layer (F.AtomLit name) ih = subst Sound (sym (Views.rolls-AtomLit name)) (nothing (AtomLit name) (λ w. BareLaws.bare-AtomLit w o name))
  of-layer F.AnyAtom ih = subst Sound (sym Views.rolls-AnyAtom) (nothing AnyAtom (λ w. BareLaws.bare-AnyAtom w o))
  of-layer F.Nil ih = subst Sound (sym Views.rolls-Nil) (nothing Nil (λ w. BareLaws.bare-Nil w o))
  of-layer (F.Cons s t) ih = subst Sound (sym (Views.rolls-Cons s t)) (nothing (Cons s t) (λ w. BareLaws.bare-Cons w o s t))
  of-layer (F.Tuple ts) ih = subst Sound (sym (Views.rolls-Tuple ts)) (nothing (Tuple ts) (λ w. BareLaws.bare-Tuple w o ts))
  of-layer F.AnyTuple ih = subst Sound (sym Views.rolls-AnyTuple) (nothing AnyTuple (λ w. BareLaws.bare-AnyTuple w o))
  of-layer (F.Map fs r q) ih = subst Sound (sym (Views.rolls-Map fs r q)) (nothing (Map fs r q) (λ w. BareLaws.bare-Map w o fs r q))
  of-layer (F.Fun ts t) ih = subst Sound (sym (Views.rolls-Fun ts t)) (nothing (Fun ts t) (λ w. BareLaws.bare-Fun w o ts t))
  of-layer (F.AnyFun n) ih = subst Sound (sym (Views.rolls-AnyFun n)) (nothing (AnyFun n) (λ w. BareLaws.bare-AnyFun w o n))
  of-layer (F.Or ts) ih = subst Sound (sym (Views.rolls-Or ts)) (of-terms (Or ts) ts (ap layer_operands (Views.outs-Or ts)) (λ w. BareLaws.bare-Or w o ts) ih)
  of-layer (F.And ts) ih = subst Sound (sym (Views.rolls-And ts)) (of-terms (And ts) ts (ap layer_operands (Views.outs-And ts)) (λ w. BareLaws.bare-And w o ts) ih)
  of-layer (F.Not t) ih = subst Sound (sym (Views.rolls-Not t)) (of-terms (Not t) (t ∷ []) (ap layer_operands (Views.outs-Not t)) (λ w. BareLaws.bare-Not w o t ∙ sym (append-nil (bare_in w o t))) ih)
  of-layer (F.Var n) ih = subst Sound (sym (Views.rolls-Var n)) (of-variable n)
  of-layer (F.Name n ts) ih = subst Sound (sym (Views.rolls-Name n ts)) (of-name n ts ih)

  pub bare-sound : (w : Wanted) (x : ℕ) (t : Term) → Contains (bare_in w o t) x → BareOf defs w x t
  unfolding Sound
  bare-sound w x t k = by-children Sound (λ t' ih. subst Sound (roll-out-Term t') (of-layer (out-Term t') ih)) t w x k

-- the numbers of an operand and of an open argument are the whole's
module _ (w : Wanted) (o : ℕ → ℕ → Bool) (x : ℕ) where
  whole-terms : (t : Term) (ts : List Term) → bare_in w o t ≡ bare_in_terms w o ts → (c : Term) → Contains ts c → Contains (bare_in w o c) x → Contains (bare_in w o t) x
  whole-terms t ts e c k b = subst (λ (l : List ℕ). Contains l x) (sym e) (into-terms w o ts c x k b)

  layer-operand : (l : F.Term-F Term Field) (c : Term) → Contains (layer_operands l) c → Contains (bare_in w o c) x → Contains (bare_in w o (roll-Term l)) x
  layer-operand (F.Or ts) c k b = subst (λ (t : Term). Contains (bare_in w o t) x) (sym (Views.rolls-Or ts)) (whole-terms (Or ts) ts (BareLaws.bare-Or w o ts) c k b)
  layer-operand (F.And ts) c k b = subst (λ (t : Term). Contains (bare_in w o t) x) (sym (Views.rolls-And ts)) (whole-terms (And ts) ts (BareLaws.bare-And w o ts) c k b)
  layer-operand (F.Not s) c k b = subst (λ (t : Term). Contains (bare_in w o t) x) (sym (Views.rolls-Not s)) (whole-terms (Not s) (s ∷ []) (BareLaws.bare-Not w o s ∙ sym (append-nil (bare_in w o s))) c k b)
  layer-operand F.Any c k b = absurd (contains-none c k)
  layer-operand F.None c k b = absurd (contains-none c k)
  layer-operand (F.Ints low high) c k b = absurd (contains-none c k)
  layer-operand (F.AtomLit name) c k b = absurd (contains-none c k)
  layer-operand F.AnyAtom c k b = absurd (contains-none c k)
  layer-operand F.Nil c k b = absurd (contains-none c k)
  layer-operand (F.Cons s t) c k b = absurd (contains-none c k)
  layer-operand (F.Tuple ts) c k b = absurd (contains-none c k)
  layer-operand F.AnyTuple c k b = absurd (contains-none c k)
  layer-operand (F.Map fs r q) c k b = absurd (contains-none c k)
  layer-operand (F.Fun ts t) c k b = absurd (contains-none c k)
  layer-operand (F.AnyFun n) c k b = absurd (contains-none c k)
  layer-operand (F.Var n) c k b = absurd (contains-none c k)
  layer-operand (F.Name n ts) c k b = absurd (contains-none c k)

  pub whole-operand : (t c : Term) → Contains (operands t) c → Contains (bare_in w o c) x → Contains (bare_in w o t) x
  whole-operand t c k b = subst (λ (s : Term). Contains (bare_in w o s) x) (roll-out-Term t) (layer-operand (out-Term t) c k b)

  pub whole-argument : (n j : ℕ) (ts : List Term) (c : Term) → slice_get ts j ≡ Some c → o n j ≡ true → Contains (bare_in w o c) x → Contains (bare_in w o (Name n ts)) x
  whole-argument n j ts c g q b = subst (λ (l : List ℕ). Contains l x) (sym (BareLaws.bare-Name w o n ts)) (Contains-append_right (name_number w n) (bare_in_arguments w o n 0 ts) x (into-arguments w o n 0 ts j c x g (ap (o n) (add-zero j) ∙ q) b))

module _ (defs : List Def) (o : ℕ → ℕ → Bool) (closed : (n : ℕ) (def : Def) → slice_get defs n ≡ Some def → (i : ℕ) → Contains (bare_in Variables o def.body) i → o n i ≡ true) where
  mutual
    pub bare-complete : (part whole : Term) → IsBarePart defs part whole → (w : Wanted) (x : ℕ) → Contains (bare_in w o part) x → Contains (bare_in w o whole) x
    bare-complete _ _ (itself t) w x k = k
    bare-complete _ _ (in_operand part operand whole c b) w x k = whole-operand w o x whole operand c (bare-complete part operand b w x k)
    bare-complete _ _ (in_argument part argument whole n j arguments e g op b) w x k = subst (λ (t : Term). Contains (bare_in w o t) x) (sym e) (whole-argument w o x n j arguments argument g (open-said n j op) (bare-complete part argument b w x k))

    pub open-said : (n i : ℕ) → IsOpenIn defs n i → o n i ≡ true
    open-said _ _ (open_in n i def e b) = closed n def e i (bare-complete (Var i) def.body b Variables i (subst (λ (l : List ℕ). Contains l i) (sym (BareLaws.bare-Var Variables o i)) (contains-first i [])))

  pub name-said : (m : ℕ) (arguments : List Term) (t : Term) → IsBarePart defs (Name m arguments) t → Contains (bare_in Names o t) m
  name-said m arguments t b = bare-complete (Name m arguments) t b Names m (subst (λ (l : List ℕ). Contains l m) (sym (BareLaws.bare-Name Names o m arguments)) (contains-first m (bare_in_arguments Names o m 0 arguments)))

-- paths between names
path-joined : (graph : List (List ℕ)) (n k m : ℕ) → IsPath graph n k → IsPath graph k m → IsPath graph n m
path-joined graph n _ _ p (edge k m c) = onward n k m p c
path-joined graph n _ _ p (onward k l m q c) = onward n l m (path-joined graph n k l p q) c

get-mapped : {A : Type 0} (f : A → List ℕ) (xs : List A) (n : ℕ) (x : A) → slice_get xs n ≡ Some x → get_or (map f xs) n [] ≡ f x
get-mapped f [] n x e = absurd (cc)
get-mapped f (y ∷ ys) zero x e = ap f (some_inj e)
  where
    some_inj : Some y ≡ Some x → y ≡ x
    some_inj q = cc
get-mapped f (y ∷ ys) (suc n) x e = get-mapped f ys n x e

mapped-from : {A : Type 0} (f : A → List ℕ) (xs : List A) (n m : ℕ) → Contains (get_or (map f xs) n []) m → (x : A) × (slice_get xs n ≡ Some x) × Contains (f x) m
mapped-from f [] n m k = absurd (contains-none m k)
mapped-from f (y ∷ ys) zero m k = (y, refl, k)
mapped-from f (y ∷ ys) (suc n) m k = mapped-from f ys n m k

module _ (defs : List Def) (table : List (List Bool)) (sound : OpenWhereSaid defs table) (closed : SaysAll defs table) where
  pub path-of : (n m : ℕ) → Reaches defs n m → IsPath (names_by table defs) n m
  path-of _ _ (directly n m def arguments e b) =
      edge n m (subst (λ (l : List ℕ). Contains l m) (sym (get-mapped (λ (d : Def). bare_in Names (open_by table) d.body) defs n def e)) (name-said defs (open_by table) closed m arguments def.body b))
  path-of _ _ (by_way_of n between m r q) = path-joined (names_by table defs) n between m (path-of n between r) (path-of between m q)

  edge-reaches : (n m : ℕ) → Contains (get_or (names_by table defs) n []) m → Reaches defs n m
  edge-reaches n m k =
      let q : (d : Def) × (slice_get defs n ≡ Some d) × Contains (bare_in Names (open_by table) d.body) m = mapped-from (λ (d : Def). bare_in Names (open_by table) d.body) defs n m k in
      let b : (arguments : List Term) × IsBarePart defs (Name m arguments) q.0.body = bare-sound defs (open_by table) sound Names m q.0.body q.2 in
      directly n m q.0 b.0 q.1 b.1

  pub reaches-of : (n m : ℕ) → IsPath (names_by table defs) n m → Reaches defs n m
  reaches-of _ _ (edge n m c) = edge-reaches n m c
  reaches-of _ _ (onward n between m p c) = by_way_of n between m (reaches-of n between p) (edge-reaches between m c)
