-- The definitions of a module in whose text nothing is wrong are regular.
use Rattle.std.proofs.Common.{◌≡◌, refl, ap, sym, subst, ◌∙◌, ℕ, zero, suc, ◌<◌, ◌+◌, List, [], ◌∷◌, ◌++◌, map, length, arith, ◌⊎◌, inl, inr}
use Rattle.std.specs.Prelude.{Some, None as Nothing, Bool, true, false, slice_get, nat_eq}
use Rattle.std.proofs.lemmas.Bool.{true≢false, eqb-true, eq-eqb}
use Rattle.type_terms.specs.Keys.{Name}
use Rattle.type_terms.specs.Parts.{IsPart, layer_children}
use Rattle.type_terms.specs.Paths.{IsPath}
use Rattle.type_terms.specs.Definitions.{given_definitions, list_definition, ends_definition}
use Rattle.type_terms.specs.Regular.{LeadsTo, mentions, onward, AreParameters, AreRegular}
use Rattle.type_terms.specs.declared.term.Def.{Def}
use Rattle.type_terms.specs.declared.term.Term.{Term, Any, None, Ints, AtomLit, AnyAtom, Nil, Cons', Tuple', AnyTuple, Map', Fun', AnyFun, Or', And', Not', Var, Name as NameTerm, Name'}
use Rattle.type_terms.specs.declared.term.Term.TheViews as Views
use Rattle.type_terms.proofs.KeyLaws.{name-is}
use Rattle.type_terms.proofs.PartLaws.{kind_number, name-number, name-arguments, children-Var}
use Rattle.erl_tree.specs.Lists.{Among}
use Rattle.erl_tree.specs.declared.token.Node.{Node}
use Rattle.erl_tree.specs.declared.type_expr.TypeKind.{TypeKind, out-TypeKind}
use Rattle.erl_tree.specs.declared.type_expr.MapPart.{MapPart}
use Rattle.erl_tree.specs.declared.type_expr.TypeKind.TheOpen as O
use Rattle.erl_tree.specs.declared.form.TypeDefKind.{TypeDefKind}
use Rattle.erl_tree.specs.declared.form.RecDefKind.{RecDefKind}
use Rattle.erl_tree.specs.declared.form.Module.{Module}
use Rattle.erl_runs.specs.Specs.{all_present}
use Rattle.typespecs_rules.specs.declared.specs.Specs.{Specs}
use Rattle.typespecs_rules.specs.Declarations.{Declarations, declarations_of, type_number, record_number}
use Rattle.typespecs_rules.specs.TypeTerms.{record_tuple, tuple_term, type_term}
use Rattle.typespecs_rules.specs.TypeVariables.{parameters}
use Rattle.typespecs_rules.specs.SpecTerms.{type_definition, record_definition}
use Rattle.typespecs_rules.specs.RegularUse.{Declaration, of_type, by_number, all_types, mention_layer, mentioned_by, mention_graph, arguments_of, variables_from, PassesParameters, PassesOthers}
use Rattle.typespecs_rules.specs.TypeFaults.{HasTerms, not_regular}
use Rattle.typespecs_lemmas.proofs.FirstFault.{some-inj}
use Rattle.typespecs_lemmas.proofs.GivenReach.{mapped, defs-are}
use Rattle.typespecs_lemmas.proofs.GoodParts.{AllGood, of-children, good-Nil, good-Cons, good-Or}
use Rattle.typespecs_lemmas.proofs.TermParts.{present-length, map-length}
use Rattle.typespecs_lemmas.proofs.ByNumber.{type-numbered, record-numbered, MadeOf, a_given, a_type, a_record, made-of}
use Rattle.typespecs_laws.proofs.Mentions.{path-through, if_some-is, type-at, mention-leads, FromRecord, IsMentioned, ComesBy, in-type, in-record}

-- ---- arguments that aren't refuted to be the parameters are the parameters

stable-number : (a b : ℕ) → ((a ≡ b → ⊥) → ⊥) → a ≡ b
stable-number a b h = go (nat_eq a b) refl
  where
    go : (t : Bool) → nat_eq a b ≡ t → a ≡ b
    go true e = eqb-true a b e
    go false e = absurd (h (λ q. true≢false (sym (eq-eqb a b q) ∙ e)))

no-variable : (t : Term) (i : ℕ) → (kind_number t ≡ 15 → ⊥) → ((t ≡ Var i → ⊥) → ⊥) → t ≡ Var i
no-variable t i no_var h = absurd (h (λ e. no_var (ap kind_number e)))

stable-variable : (t : Term) (i : ℕ) → ((t ≡ Var i → ⊥) → ⊥) → t ≡ Var i
stable-variable Any i h = no-variable Any i (λ e. omega arith) h
stable-variable None i h = no-variable None i (λ e. omega arith) h
stable-variable (Ints low high) i h = no-variable (Ints low high) i (λ e. omega arith) h
stable-variable (AtomLit name) i h = no-variable (AtomLit name) i (λ e. omega arith) h
stable-variable AnyAtom i h = no-variable AnyAtom i (λ e. omega arith) h
stable-variable Nil i h = no-variable Nil i (λ e. omega arith) h
stable-variable (Cons' s a t b) i h = no-variable (Cons' s a t b) i (λ e. omega arith) h
stable-variable (Tuple' s ts) i h = no-variable (Tuple' s ts) i (λ e. omega arith) h
stable-variable AnyTuple i h = no-variable AnyTuple i (λ e. omega arith) h
stable-variable (Map' s fs r q) i h = no-variable (Map' s fs r q) i (λ e. omega arith) h
stable-variable (Fun' s ts t a) i h = no-variable (Fun' s ts t a) i (λ e. omega arith) h
stable-variable (AnyFun n) i h = no-variable (AnyFun n) i (λ e. omega arith) h
stable-variable (Or' s ts) i h = no-variable (Or' s ts) i (λ e. omega arith) h
stable-variable (And' s ts) i h = no-variable (And' s ts) i (λ e. omega arith) h
stable-variable (Not' s ts) i h = no-variable (Not' s ts) i (λ e. omega arith) h
stable-variable (Var n) i h = ap Var (stable-number n i (λ k. h (λ e. k (ap number_in e))))
  where
    number_in : Term → ℕ
    number_in (Var m) = m
    number_in _ = 0
stable-variable (Name' n s ts) i h = no-variable (Name' n s ts) i (λ e. omega arith) h

stable-parameters : (count : ℕ) (args : List Term) → ((AreParameters count args → ⊥) → ⊥) → AreParameters count args
stable-parameters count args h = (stable-number (length args) count (λ k. h (λ p. k p.0)), λ i t e. stable-variable t i (λ k. h (λ p. k (p.1 i t e))))

variables-length : (n : ℕ) (names : List Name) → length (variables_from n names) ≡ length names
variables-length n [] = refl
variables-length n (x ∷ names) = ap suc (variables-length (suc n) names)

variables-are : (n : ℕ) (names : List Name) (i : ℕ) (t : Term) → slice_get (variables_from n names) i ≡ Some t → t ≡ Var (n + i)
variables-are n [] i t e = absurd (cc)
variables-are n (x ∷ names) zero t e = let q : n ≡ n + 0 = omega arith in sym (some-inj (Var n) t e) ∙ ap Var q
variables-are n (x ∷ names) (suc i) t e = let q : suc n + i ≡ n + suc i = omega arith in variables-are (suc n) names i t e ∙ ap Var q

are-parameters : (names : List Name) (args : List Term) → args ≡ variables_from 0 names → AreParameters (length names) args
are-parameters names args e = (
  ap length e ∙ variables-length 0 names,
  λ i t g. let q : 0 + i ≡ i = omega arith in variables-are 0 names i t (subst (λ l. slice_get l i ≡ Some t) e g) ∙ ap Var q,
)

none-long : {A : Type 0} (xs : List A) → length xs ≡ 0 → xs ≡ []
none-long [] e = refl
none-long (x ∷ xs) e = absurd (cc)

no-parameters : (args : List Term) → length args ≡ 0 → AreParameters 0 args
no-parameters args e = (e, λ i t g. absurd (nothing i t (subst (λ l. slice_get l i ≡ Some t) (none-long args e) g)))
  where
    nothing : (i : ℕ) (t : Term) → slice_get [] i ≡ Some t → ⊥
    nothing i t g = cc

-- ---- the given definitions

-- a name is this one, with these arguments
abbrev IsThis : ℕ → List Term → Term → Type 0
IsThis n own p = (m : ℕ) (args : List Term) → p ≡ NameTerm m args → (m ≡ n) × (args ≡ own)

module _ (n : ℕ) (own : List Term) where
  this-plain : (p : Term) → (kind_number p ≡ 16 → ⊥) → (kind_number p ≡ 15 → ⊥) → (kind_number p ≡ 9 → ⊥) → IsThis n own p
  this-plain p no_name no_var no_map m args e = absurd (no_name (ap kind_number e))

  this-Var : (i : ℕ) → AllGood (IsThis n own) (Var i)
  this-Var i = of-children (IsThis n own) (Var i) [] (children-Var i) (λ m args e. let f : 15 ≡ 16 = ap kind_number e in absurd (omega arith)) tt

  this-name : IsThis n own (NameTerm n own)
  this-name m args e = (sym (name-number n m own args e), sym (name-arguments n m own args e))

list-names : AllGood (IsThis 0 (Var 0 ∷ [])) list_definition.body
list-names = good-Or (IsThis 0 (Var 0 ∷ [])) (this-plain 0 (Var 0 ∷ [])) _ (
  good-Nil (IsThis 0 (Var 0 ∷ [])) (this-plain 0 (Var 0 ∷ [])),
  (
    good-Cons (IsThis 0 (Var 0 ∷ [])) (this-plain 0 (Var 0 ∷ [])) (Var 0) (NameTerm 0 (Var 0 ∷ [])) (this-Var 0 (Var 0 ∷ []) 0)
        (of-children (IsThis 0 (Var 0 ∷ [])) (NameTerm 0 (Var 0 ∷ [])) (Var 0 ∷ []) (ap layer_children (Views.outs-Name 0 (Var 0 ∷ []))) (this-name 0 (Var 0 ∷ [])) (this-Var 0 (Var 0 ∷ []) 0, tt)),
    tt,
  ),
)

ends-names : AllGood (IsThis 1 (Var 0 ∷ Var 1 ∷ [])) ends_definition.body
ends-names = good-Or (IsThis 1 (Var 0 ∷ Var 1 ∷ [])) (this-plain 1 (Var 0 ∷ Var 1 ∷ [])) _ (
  this-Var 1 (Var 0 ∷ Var 1 ∷ []) 1,
  (
    good-Cons (IsThis 1 (Var 0 ∷ Var 1 ∷ [])) (this-plain 1 (Var 0 ∷ Var 1 ∷ [])) (Var 0) (NameTerm 1 (Var 0 ∷ Var 1 ∷ [])) (this-Var 1 (Var 0 ∷ Var 1 ∷ []) 0)
        (of-children (IsThis 1 (Var 0 ∷ Var 1 ∷ [])) (NameTerm 1 (Var 0 ∷ Var 1 ∷ [])) (Var 0 ∷ Var 1 ∷ []) (ap layer_children (Views.outs-Name 1 (Var 0 ∷ Var 1 ∷ []))) (this-name 1 (Var 0 ∷ Var 1 ∷ [])) (this-Var 1 (Var 0 ∷ Var 1 ∷ []) 0, (this-Var 1 (Var 0 ∷ Var 1 ∷ []) 1, tt))),
    tt,
  ),
)

one-parameter : AreParameters 1 (Var 0 ∷ [])
one-parameter = are-parameters ([] ∷ []) (Var 0 ∷ []) refl

two-parameters : AreParameters 2 (Var 0 ∷ Var 1 ∷ [])
two-parameters = are-parameters ([] ∷ [] ∷ []) (Var 0 ∷ Var 1 ∷ []) refl

given-regular : (n m : ℕ) (def : Def) (args : List Term) → slice_get given_definitions n ≡ Some def → IsPart (NameTerm m args) def.body → (m ≡ n) × AreParameters def.params args
given-regular zero m def args e = subst (λ (d : Def). IsPart (NameTerm m args) d.body → (m ≡ 0) × AreParameters d.params args) (some-inj list_definition def e)
    (λ part. let h = list-names (NameTerm m args) part m args refl in (h.0, subst (AreParameters 1) (sym h.1) one-parameter))
given-regular (suc zero) m def args e = subst (λ (d : Def). IsPart (NameTerm m args) d.body → (m ≡ 1) × AreParameters d.params args) (some-inj ends_definition def e)
    (λ part. let h = ends-names (NameTerm m args) part m args refl in (h.0, subst (AreParameters 2) (sym h.1) two-parameters))
given-regular (suc (suc n)) m def args e = absurd (cc)

given-below : (n : ℕ) (def : Def) → slice_get given_definitions n ≡ Some def → n < 2
given-below zero def e = omega arith
given-below (suc zero) def e = omega arith
given-below (suc (suc n)) def e = absurd (cc)

-- ---- what is mentioned is found by its name

module _ (declared : Declarations) where
  data IsNamed (n : ℕ) : Type 0 where
    type_named : (name : Name) (count : ℕ) → type_number declared name count ≡ Some n → IsNamed n
    record_named : (name : Name) → record_number declared name ≡ Some n → IsNamed n

  layer-named : (l : O.TypeKind-F TypeKind MapPart) (n : ℕ) → Among n (mention_layer declared l) → IsNamed n
  layer-named (O.Atom a) n k = absurd k
  layer-named (O.Int i) n k = absurd k
  layer-named (O.NegInt i) n k = absurd k
  layer-named (O.Char c) n k = absurd k
  layer-named (O.Var x) n k = absurd k
  layer-named (O.Paren s) n k = absurd k
  layer-named (O.Or s u) n k = absurd k
  layer-named (O.Named x s) n k = absurd k
  layer-named (O.Range low high) n k = absurd k
  layer-named (O.Use Nothing name args) n k = type_named name (length args) (if_some-is (type_number declared name (length args)) n k)
  layer-named (O.Use (Some prefix) name args) n k = absurd k
  layer-named O.Nil n k = absurd k
  layer-named (O.ListOf s) n k = absurd k
  layer-named (O.NonEmpty s) n k = absurd k
  layer-named (O.Tuple ts) n k = absurd k
  layer-named (O.Map parts) n k = absurd k
  layer-named O.FunAll n k = absurd k
  layer-named (O.Fun params result) n k = absurd k
  layer-named (O.Rec name tag fields) n k = record_named name (if_some-is (record_number declared name) n k)

  mentioned-named : (t : Node TypeKind) (n : ℕ) → Among n (mentioned_by declared t) → IsNamed n
  mentioned-named t n k = layer-named (out-TypeKind t.kind) n k

  named-above : (n : ℕ) → IsNamed n → n < 2 → ⊥
  named-above n (type_named name count e) l = let a = type-numbered declared name count n e in let q : n ≡ 2 + a.0 = a.2 in omega arith
  named-above n (record_named name e) l = let a = record-numbered declared name n e in let q : n ≡ 2 + (length declared.types + a.0) = a.2 in omega arith

  -- a record that is found by its name has that number
  below-length : {A : Type 0} (xs : List A) (i : ℕ) (x : A) → slice_get xs i ≡ Some x → i < length xs
  below-length [] i x e = absurd (cc)
  below-length (y ∷ xs) zero x e = omega arith
  below-length (y ∷ xs) (suc i) x e = let l = below-length xs i x e in omega arith

  record-first : (n i : ℕ) (r : RecDefKind) → IsNamed n → n ≡ 2 + (length declared.types + i) → slice_get declared.records i ≡ Some r → record_number declared r.name ≡ Some n
  record-first n i r (type_named name count e) q g =
      let a = type-numbered declared name count n e in
      let l : a.0 < length declared.types = below-length declared.types a.0 a.1 a.3 in
      let p : n ≡ 2 + a.0 = a.2 in
      absurd (apart a.0 p l)
    where
      apart : (k : ℕ) → n ≡ 2 + k → k < length declared.types → ⊥
      apart k p l = omega arith
  record-first n i r (record_named name e) q g =
      let a = record-numbered declared name n e in
      let p : n ≡ 2 + (length declared.types + a.0) = a.2 in
      let j : a.0 ≡ i = omega arith in
      let s : a.1 ≡ r = some-inj a.1 r (sym a.3 ∙ (ap (slice_get declared.records) j ∙ g)) in
      ap (record_number declared) (ap (λ (x : RecDefKind). x.name) (sym s) ∙ name-is a.1.name name a.4) ∙ e

  -- ---- what leads on

  module _ (own : List Def) (present : all_present (map (type_definition declared) declared.types ++ map (record_definition declared) declared.records) ≡ Some own) where
    abbrev defs : List Def
    defs = given_definitions ++ own

    abbrev the_graph : List (List ℕ)
    the_graph = mention_graph declared

    -- from a number that a name has, mentions lead on to another such, or the definition is that of lists
    abbrev LeadsOn : ℕ → ℕ → Type 0
    LeadsOn k n = (n ≡ 0) ⊎ (IsPath the_graph k n × IsNamed n)

    from-record-on : (name : Name) (k n : ℕ) (args : List Term) → record_number declared name ≡ Some k → FromRecord declared name n args → LeadsOn k n
    from-record-on name k n args e f = inr (go (f.leads k e), mentioned-named f.mention n f.mentions)
      where
        step : IsPath the_graph f.number n
        step = mention-leads declared f.number n f.holder f.mention f.numbered f.inside f.mentions

        go : (k ≡ f.number) ⊎ IsPath the_graph k f.number → IsPath the_graph k n
        go (inl q) = subst (λ x. IsPath the_graph x n) (sym q) step
        go (inr p) = path-through the_graph k f.number n p step

    type-on : (k i n : ℕ) (d : TypeDefKind) (args : List Term) → k ≡ 2 + i → slice_get declared.types i ≡ Some d → (n ≡ 0) ⊎ (IsMentioned declared (of_type d) n args ⊎ ComesBy declared (of_type d) n args) → LeadsOn k n
    type-on k i n d args q e (inl z) = inl z
    type-on k i n d args q e (inr (inl m)) = inr (mention-leads declared k n (of_type d) m.mention (type-at declared k i d q e) m.inside m.mentions, mentioned-named m.mention n m.mentions)
    type-on k i n d args q e (inr (inr b)) = go (from-record-on b.name b.number n args b.numbered b.from)
      where
        go : LeadsOn b.number n → LeadsOn k n
        go (inl z) = inl z
        go (inr (p, named)) = inr (path-through the_graph k b.number n (mention-leads declared k b.number (of_type d) b.mention (type-at declared k i d q e) b.inside b.mentions) p, named)

    record-on : (name : Name) (k n : ℕ) (args : List Term) → record_number declared name ≡ Some k → (n ≡ 0) ⊎ FromRecord declared name n args → LeadsOn k n
    record-on name k n args e (inl z) = inl z
    record-on name k n args e (inr f) = from-record-on name k n args e f

    name-leads : (k n : ℕ) (def : Def) (args : List Term) → MadeOf declared k def → IsPart (NameTerm n args) def.body → (k ≡ 0 → n ≡ 0) × (IsNamed k → LeadsOn k n)
    name-leads k n def args (a_given e) part = ((λ z. (given-regular k n def args e part).0 ∙ z), λ named. absurd (named-above k named (given-below k def e)))
    name-leads k n def args (a_type i d q e made) part = ((λ z. absurd (apart z)), λ named. type-on k i n d args q e (in-type declared d def made (NameTerm n args) part n args refl))
      where
        apart : k ≡ 0 → ⊥
        apart z = omega arith
    name-leads k n def args (a_record i r q e made) part = ((λ z. absurd (apart z)), λ named. record-on r.name k n args (record-first k i r named q e) (in-record declared r def made (NameTerm n args) part n args refl))
      where
        apart : k ≡ 0 → ⊥
        apart z = omega arith

    leads-on : (k n : ℕ) → LeadsTo defs k n → (k ≡ 0 → n ≡ 0) × (IsNamed k → LeadsOn k n)
    leads-on _ _ (mentions k n def args e part) = name-leads k n def args (made-of declared own present k def e) part
    leads-on _ _ (onward k b n l r) = ((λ z. (leads-on b n r).0 ((leads-on k b l).0 z)), λ named. go ((leads-on k b l).1 named) (leads-on b n r))
      where
        go : LeadsOn k b → (b ≡ 0 → n ≡ 0) × (IsNamed b → LeadsOn b n) → LeadsOn k n
        go (inl z) h = inl (h.0 z)
        go (inr (p, named)) h = further (h.1 named)
          where
            further : LeadsOn b n → LeadsOn k n
            further (inl z) = inl z
            further (inr (q, found)) = inr (path-through the_graph k b n p q, found)

    -- ---- regular use

    module _ (right : (n : ℕ) (d : Declaration) (t : Node TypeKind) → slice_get (by_number declared) n ≡ Some d → Among t (all_types d) → PassesOthers declared n d t → ⊥) where
      -- what a use on a cycle doesn't pass leads to no contradiction only where it passes the parameters
      passes : (n m : ℕ) (d : Declaration) (t : Node TypeKind) → slice_get (by_number declared) n ≡ Some d → Among t (all_types d) → Among m (mentioned_by declared t) → IsPath the_graph m n → (PassesParameters declared d.params t → ⊥) → ⊥
      passes n m d t e a b p k = right n d t e a (m, b, p, k)

      -- the arguments in a record's tuples
      record-arguments : (name : Name) (m : ℕ) (args : List Term) (f : FromRecord declared name m args) → IsPath the_graph m f.number → AreParameters 0 args
      record-arguments name m args f p = stable-parameters 0 args (λ k. passes f.number m f.holder f.mention f.numbered f.inside f.mentions p (λ q. k (no-parameters args (f.counted ∙ no-arguments q))))
        where
          no-arguments : PassesParameters declared f.holder.params f.mention → length (arguments_of f.mention) ≡ 0
          no-arguments q =
              sym (map-length (type_term declared (parameters f.holder.params)) (arguments_of f.mention))
              ∙ (sym (present-length _ (variables_from 0 f.holder.params) q) ∙ (variables-length 0 f.holder.params ∙ ap length f.no_params))

      type-regular : (n m i : ℕ) (d : TypeDefKind) (args : List Term) → n ≡ 2 + i → slice_get declared.types i ≡ Some d → (m ≡ 0) ⊎ (IsMentioned declared (of_type d) m args ⊎ ComesBy declared (of_type d) m args) → (m ≡ 0 → n ≡ 0) × (IsNamed m → LeadsOn m n) → AreParameters (length d.params) args
      type-regular n m i d args q e (inl z) h = absurd (apart (h.0 z))
        where
          apart : n ≡ 0 → ⊥
          apart y = omega arith
      type-regular n m i d args q e (inr (inl u)) h = go (h.1 (mentioned-named u.mention m u.mentions))
        where
          apart : n ≡ 0 → ⊥
          apart y = omega arith

          go : LeadsOn m n → AreParameters (length d.params) args
          go (inl z) = absurd (apart z)
          go (inr (p, named)) = stable-parameters (length d.params) args (λ k. passes n m (of_type d) u.mention (type-at declared n i d q e) u.inside u.mentions p (λ w. k (are-parameters d.params args (some-inj args (variables_from 0 d.params) (sym u.passed ∙ w)))))
      type-regular n m i d args q e (inr (inr b)) h = go (h.1 (mentioned-named b.from.mention m b.from.mentions))
        where
          apart : n ≡ 0 → ⊥
          apart y = omega arith

          to_record : IsPath the_graph n b.number
          to_record = mention-leads declared n b.number (of_type d) b.mention (type-at declared n i d q e) b.inside b.mentions

          to_mention : IsPath the_graph b.from.number m
          to_mention = mention-leads declared b.from.number m b.from.holder b.from.mention b.from.numbered b.from.inside b.from.mentions

          inner : (b.number ≡ b.from.number) ⊎ IsPath the_graph b.number b.from.number → (k : ℕ) → IsPath the_graph k b.number → IsPath the_graph k b.from.number
          inner (inl y) k p = subst (λ x. IsPath the_graph k x) y p
          inner (inr r) k p = path-through the_graph k b.number b.from.number p r

          outer : (b.number ≡ b.from.number) ⊎ IsPath the_graph b.number b.from.number → (k : ℕ) → IsPath the_graph b.from.number k → IsPath the_graph b.number k
          outer (inl y) k p = subst (λ x. IsPath the_graph x k) (sym y) p
          outer (inr r) k p = path-through the_graph b.number b.from.number k r p

          go : LeadsOn m n → AreParameters (length d.params) args
          go (inl z) = absurd (apart z)
          go (inr (p, named)) =
              let leads = b.from.leads b.number b.numbered in
              let there : IsPath the_graph m b.from.number = inner leads m (path-through the_graph m n b.number p to_record) in
              let back : IsPath the_graph b.number n = path-through the_graph b.number m n (outer leads m to_mention) p in
              let none : AreParameters 0 args = record-arguments b.name m args b.from there in
              stable-parameters (length d.params) args (λ k. passes n b.number (of_type d) b.mention (type-at declared n i d q e) b.inside b.mentions back (λ w. k (subst (λ c. AreParameters c args) (sym (no-params w)) none)))
            where
              no-params : PassesParameters declared d.params b.mention → length d.params ≡ 0
              no-params w = sym (variables-length 0 d.params) ∙ (present-length _ (variables_from 0 d.params) w ∙ (map-length (type_term declared (parameters d.params)) (arguments_of b.mention) ∙ ap length b.no_arguments))

      record-regular : (n m i : ℕ) (r : RecDefKind) (args : List Term) → n ≡ 2 + (length declared.types + i) → slice_get declared.records i ≡ Some r → (m ≡ 0) ⊎ FromRecord declared r.name m args → (m ≡ 0 → n ≡ 0) × (IsNamed m → LeadsOn m n) → AreParameters 0 args
      record-regular n m i r args q e (inl z) h = absurd (apart (h.0 z))
        where
          apart : n ≡ 0 → ⊥
          apart y = omega arith
      record-regular n m i r args q e (inr f) h = go (h.1 (mentioned-named f.mention m f.mentions))
        where
          apart : n ≡ 0 → ⊥
          apart y = omega arith

          inner : IsPath the_graph m n → (n ≡ f.number) ⊎ IsPath the_graph n f.number → IsPath the_graph m f.number
          inner p (inl y) = subst (λ x. IsPath the_graph m x) y p
          inner p (inr s) = path-through the_graph m n f.number p s

          go : LeadsOn m n → AreParameters 0 args
          go (inl z) = absurd (apart z)
          go (inr (p, named)) = record-arguments r.name m args f (inner p (f.leads n (record-first n i r named q e)))

      made-regular : (n m : ℕ) (def : Def) (args : List Term) → MadeOf declared n def → IsPart (NameTerm m args) def.body → LeadsTo defs m n → AreParameters def.params args
      made-regular n m def args (a_given e) part l = (given-regular n m def args e part).1
      made-regular n m def args (a_type i d q e made) part l =
          let p = mapped (λ body. record { params = length d.params; body = body }) (type_term declared (parameters d.params) d.body) def made in
          subst (λ c. AreParameters c args) (ap (λ (x : Def). x.params) p.2) (type-regular n m i d args q e (in-type declared d def made (NameTerm m args) part m args refl) (leads-on m n l))
      made-regular n m def args (a_record i r q e made) part l =
          let p = mapped (λ tuple. record { params = 0; body = tuple_term tuple }) (record_tuple declared r.name) def made in
          subst (λ c. AreParameters c args) (ap (λ (x : Def). x.params) p.2) (record-regular n m i r args q e (in-record declared r def made (NameTerm m args) part m args refl) (leads-on m n l))

      pub all-regular : AreRegular defs
      all-regular n m def args e part l = made-regular n m def args (made-of declared own present n def e) part l

pub specs-regular : (m : Module) (s : Specs) → HasTerms m s → AreRegular s.defs
specs-regular m s h =
    let d = defs-are m s h.terms in
    subst AreRegular (sym d.2) (all-regular (declarations_of m) d.0 d.1 (λ n decl t e a w. h.no_fault _ (not_regular t (record { number = n; declaration = decl; numbered = e; inside = a; why = inl w }))))
