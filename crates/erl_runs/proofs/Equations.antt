-- What is in each kind of term, in terms of values.
use Rattle.std.proofs.Common.{◌≡◌, refl, sym, ◌∙◌, ap, subst, ℕ, suc, ◌<◌, ℤ, List, [], ◌∷◌, length, Bool, true, false, ◌&&◌, ◌↔◌, ⊎_elim}
use Rattle.std.proofs.Math.Path.{transport}
use Rattle.std.proofs.lemmas.Bool.{eqb-true, eq-eqb}
use Rattle.std.specs.Prelude.{Option, Some, None as Nothing, nat_eq, cond, is_some, slice_get}
use Rattle.std.specs.List.{Contains}
use Rattle.type_terms.specs.declared.term.Def.{Def}
use Rattle.type_terms.specs.declared.term.Field.{Field}
use Rattle.type_terms.specs.declared.term.Key.{Key}
use Rattle.type_terms.specs.declared.term.Term.{Term, Any, None, Ints, AtomLit, AnyAtom, Nil, Cons, Tuple, AnyTuple, Map, Fun, AnyFun, Or, And, Not, Var, Name as NameTerm, back-Term-Map-1}
use Rattle.type_terms.specs.declared.term.Term.TheBlock.{hidden-the_row-Field-2}
use Rattle.type_terms.specs.Definitions.{AreDefinitions, IsOpenIn}
use Rattle.type_terms.specs.Keys.{Name, Bound, key_lt}
use Rattle.type_terms.specs.Instances.{Instance, no_variables, variable_and}
use Rattle.type_terms.specs.Replacement.{replaced_by}
use Rattle.type_terms.specs.Reading.{at_least, at_most, of_arity, holds, variable_in, is_map, is_fun, is_cons, is_tuple, each_in, entries_in, field_of, rest_of, rest_term, or_else, term_for, if_some}
use Rattle.std.specs.Prelude.{◌≤ℤ◌}
use Rattle.type_terms.proofs.IntegerOrder.{between-is}
use Rattle.type_terms.proofs.Contained.{contains-none, contains-cases, contains-first, contains-later}
use Rattle.type_terms.proofs.KeyLaws.{name-refl, name-is, key-same, key-asym}
use Rattle.type_terms.proofs.ReadingLaws.{some_of, all_of, read-Not, read-Or, read-And, read-Cons, read-Tuple, read-Map, read-Name, unfolded-undefined, field_of-hidden, rest_term-back, required-hidden}
use Rattle.erl_runs.specs.Value.{Value, integer, atom, nil, cons, tuple, map_of, named_fun, closure, Values, no_values, value_and, items_of, IsFun, Row, no_entries, entry_and, MapEntries}
use Rattle.erl_runs.specs.FiniteMaps.{pick, get}
use Rattle.erl_runs.specs.Membership.{Program, InTerm, IsGoodRun, Spends, levels_below, layer, layers, entry_layers, no_tag, values_in}
use Rattle.erl_runs.proofs.FiniteMapLaws.{get-below, get-first}
use Rattle.erl_runs.proofs.MapReads.{has_key-get}
use Rattle.type_terms.proofs.Ranking.{by-ranks}
use Rattle.type_terms.proofs.ReadingStability.{pair-stable, to-stable}
use Rattle.erl_runs.proofs.MembershipStability.{in-stable}
use Rattle.erl_runs.proofs.MembershipLaws.{in-Fun}

pub equal-iff : {A B : Type 0} → A ≡ B → A ↔ B
equal-iff e = (transport e, transport (sym e))

pub iff-trans : {A B C : Type 0} → A ↔ B → B ↔ C → A ↔ C
iff-trans f g = ((λ x. g.0 (f.0 x)), (λ z. f.1 (g.1 z)))

-- what holds of some of a list's terms, and of all
some_of-at : (q : Term → Type 0) (ts : List Term) (u : Term) → Contains ts u → q u → some_of q ts
some_of-at q [] u c x = absurd (contains-none u c)
some_of-at q (t ∷ ts) u c x = λ n. ⊎_elim (λ (e : t ≡ u). n.0 (subst q (sym e) x)) (λ c'. n.1 (some_of-at q ts u c' x)) (contains-cases t u ts c)

some_of-out : (q : Term → Type 0) (ts : List Term) → some_of q ts → ((t : Term) → Contains ts t → q t → ⊥) → ⊥
some_of-out q [] h n = h
some_of-out q (t ∷ ts) h n = h ((λ x. n t (contains-first t ts) x), (λ s. some_of-out q ts s (λ u c x. n u (contains-later t u ts c) x)))

some_of-into : (q : Term → Type 0) (ts : List Term) → (((t : Term) → Contains ts t → q t → ⊥) → ⊥) → some_of q ts
some_of-into q [] h = h (λ t c x. contains-none t c)
some_of-into q (t ∷ ts) h = λ n. h (λ u c x. some_of-at q (t ∷ ts) u c x n)

all_of-out : (q : Term → Type 0) (ts : List Term) → all_of q ts → (t : Term) → Contains ts t → q t
all_of-out q [] h u c = absurd (contains-none u c)
all_of-out q (t ∷ ts) h u c = ⊎_elim (λ (e : t ≡ u). subst q e h.0) (λ c'. all_of-out q ts h.1 u c') (contains-cases t u ts c)

all_of-into : (q : Term → Type 0) (ts : List Term) → ((t : Term) → Contains ts t → q t) → all_of q ts
all_of-into q [] h = tt
all_of-into q (t ∷ ts) h = (h t (contains-first t ts), all_of-into q ts (λ u c. h u (contains-later t u ts c)))

module _ (p : Program) (k : ℕ) (d : List Def) (i : Instance) where
  pub in-Any : (v : Value) → InTerm p k v Any d i
  in-Any v = tt

  pub in-None : (v : Value) → InTerm p k v None d i → ⊥
  in-None v h = h

  pub in-Or : (v : Value) (ts : List Term) → InTerm p k v (Or ts) d i ↔ (((t : Term) → Contains ts t → InTerm p k v t d i → ⊥) → ⊥)
  in-Or v ts = iff-trans (equal-iff (read-Or (layer p (levels_below p k) k v) no_tag d i ts)) (some_of-out (λ t. InTerm p k v t d i) ts, some_of-into (λ t. InTerm p k v t d i) ts)

  pub in-And : (v : Value) (ts : List Term) → InTerm p k v (And ts) d i ↔ ((t : Term) → Contains ts t → InTerm p k v t d i)
  in-And v ts = iff-trans (equal-iff (read-And (layer p (levels_below p k) k v) no_tag d i ts)) (all_of-out (λ t. InTerm p k v t d i) ts, all_of-into (λ t. InTerm p k v t d i) ts)

  pub in-Not : (v : Value) (t : Term) → InTerm p k v (Not t) d i ↔ (InTerm p k v t d i → ⊥)
  in-Not v t = equal-iff (read-Not (layer p (levels_below p k) k v) no_tag d i t)

  ints-out : (v : Value) (low high : Option ℤ) → InTerm p k v (Ints low high) d i → (n : ℤ) × (v ≡ integer n) × ((at_least low n && at_most high n) ≡ true)
  ints-out (integer n) low high h = (n, refl, h)
  ints-out (atom a) low high h = absurd h
  ints-out nil low high h = absurd h
  ints-out (cons a b) low high h = absurd h
  ints-out (tuple vs) low high h = absurd h
  ints-out (map_of es) low high h = absurd h
  ints-out (named_fun n m) low high h = absurd h
  ints-out (closure n e) low high h = absurd h

  pub in-Ints : (v : Value) (low high : Option ℤ) → InTerm p k v (Ints low high) d i ↔ ((n : ℤ) × (v ≡ integer n) × ((l : ℤ) → low ≡ Some l → l ≤ℤ n) × ((h : ℤ) → high ≡ Some h → n ≤ℤ h))
  in-Ints v low high = (
    (λ x. let h : (n : ℤ) × (v ≡ integer n) × ((at_least low n && at_most high n) ≡ true) = ints-out v low high x in
        let q : ((l : ℤ) → low ≡ Some l → l ≤ℤ h.0) × ((h' : ℤ) → high ≡ Some h' → h.0 ≤ℤ h') = (between-is low high h.0).0 h.2 in
        (h.0, h.1, q.0, q.1)),
    (λ h. subst (λ w. InTerm p k w (Ints low high) d i) (sym h.1) ((between-is low high h.0).1 (h.2, h.3))),
  )

  atom-out : (v : Value) (a : Name) → InTerm p k v (AtomLit a) d i → v ≡ atom a
  atom-out (atom b) a h = ap atom (name-is b a h)
  atom-out (integer n) a h = absurd h
  atom-out nil a h = absurd h
  atom-out (cons x y) a h = absurd h
  atom-out (tuple vs) a h = absurd h
  atom-out (map_of es) a h = absurd h
  atom-out (named_fun n m) a h = absurd h
  atom-out (closure n e) a h = absurd h

  pub in-AtomLit : (v : Value) (a : Name) → InTerm p k v (AtomLit a) d i ↔ (v ≡ atom a)
  in-AtomLit v a = (atom-out v a, (λ e. subst (λ w. InTerm p k w (AtomLit a) d i) (sym e) (name-refl a)))

  any_atom-out : (v : Value) → InTerm p k v AnyAtom d i → (a : Name) × (v ≡ atom a)
  any_atom-out (atom b) h = (b, refl)
  any_atom-out (integer n) h = absurd h
  any_atom-out nil h = absurd h
  any_atom-out (cons x y) h = absurd h
  any_atom-out (tuple vs) h = absurd h
  any_atom-out (map_of es) h = absurd h
  any_atom-out (named_fun n m) h = absurd h
  any_atom-out (closure n e) h = absurd h

  pub in-AnyAtom : (v : Value) → InTerm p k v AnyAtom d i ↔ ((a : Name) × (v ≡ atom a))
  in-AnyAtom v = (any_atom-out v, (λ h. subst (λ w. InTerm p k w AnyAtom d i) (sym h.1) tt))

  nil-out : (v : Value) → InTerm p k v Nil d i → v ≡ nil
  nil-out nil h = refl
  nil-out (atom b) h = absurd h
  nil-out (integer n) h = absurd h
  nil-out (cons x y) h = absurd h
  nil-out (tuple vs) h = absurd h
  nil-out (map_of es) h = absurd h
  nil-out (named_fun n m) h = absurd h
  nil-out (closure n e) h = absurd h

  pub in-Nil : (v : Value) → InTerm p k v Nil d i ↔ (v ≡ nil)
  in-Nil v = (nil-out v, (λ e. subst (λ w. InTerm p k w Nil d i) (sym e) tt))

  any_tuple-out : (v : Value) → InTerm p k v AnyTuple d i → (vs : Values) × (v ≡ tuple vs)
  any_tuple-out (tuple vs) h = (vs, refl)
  any_tuple-out (atom b) h = absurd h
  any_tuple-out (integer n) h = absurd h
  any_tuple-out nil h = absurd h
  any_tuple-out (cons x y) h = absurd h
  any_tuple-out (map_of es) h = absurd h
  any_tuple-out (named_fun n m) h = absurd h
  any_tuple-out (closure n e) h = absurd h

  pub in-AnyTuple : (v : Value) → InTerm p k v AnyTuple d i ↔ ((vs : Values) × (v ≡ tuple vs))
  in-AnyTuple v = (any_tuple-out v, (λ h. subst (λ w. InTerm p k w AnyTuple d i) (sym h.1) tt))

  arity-out : (o : Option ℕ) (n : ℕ) → of_arity o n → (m : ℕ) → o ≡ Some m → n ≡ m
  arity-out Nothing n h m e = absurd (cc)
  arity-out (Some l) n h m e = eqb-true n l h ∙ some_inj e
    where
      some_inj : Some l ≡ Some m → l ≡ m
      some_inj q = cc

  arity-into : (o : Option ℕ) (n : ℕ) → ((m : ℕ) → o ≡ Some m → n ≡ m) → of_arity o n
  arity-into Nothing n h = tt
  arity-into (Some l) n h = eq-eqb n l (h l refl)

  pub in-AnyFun : (v : Value) (arity : Option ℕ) → InTerm p k v (AnyFun arity) d i ↔ (IsFun v × ((n : ℕ) → arity ≡ Some n → p.arity v ≡ n))
  in-AnyFun (named_fun n m) o = ((λ h. (tt, arity-out o _ h)), (λ h. arity-into o _ h.1))
  in-AnyFun (closure n e) o = ((λ h. (tt, arity-out o _ h)), (λ h. arity-into o _ h.1))
  in-AnyFun (atom b) o = ((λ h. absurd h), (λ h. h.0))
  in-AnyFun (integer n) o = ((λ h. absurd h), (λ h. h.0))
  in-AnyFun nil o = ((λ h. absurd h), (λ h. h.0))
  in-AnyFun (cons x y) o = ((λ h. absurd h), (λ h. h.0))
  in-AnyFun (tuple vs) o = ((λ h. absurd h), (λ h. h.0))
  in-AnyFun (map_of es) o = ((λ h. absurd h), (λ h. h.0))

  cons-out : (v : Value) (s t : Term) → is_cons (λ r. r s d i) (λ r. r t d i) (layer p (levels_below p k) k v) → (head tail : Value) × (v ≡ cons head tail) × InTerm p k head s d i × InTerm p k tail t d i
  cons-out (cons x y) s t h = (x, y, refl, h.0, h.1)
  cons-out nil s t h = absurd h
  cons-out (atom b) s t h = absurd h
  cons-out (integer n) s t h = absurd h
  cons-out (tuple vs) s t h = absurd h
  cons-out (map_of es) s t h = absurd h
  cons-out (named_fun n m) s t h = absurd h
  cons-out (closure n e) s t h = absurd h

  pub in-Cons : (v : Value) (s t : Term) → InTerm p k v (Cons s t) d i ↔ ((head tail : Value) × (v ≡ cons head tail) × InTerm p k head s d i × InTerm p k tail t d i)
  in-Cons v s t = iff-trans (equal-iff (read-Cons (layer p (levels_below p k) k v) no_tag d i s t)) (cons-out v s t, (λ h. subst (λ w. is_cons (λ r. r s d i) (λ r. r t d i) (layer p (levels_below p k) k w)) (sym h.2) (h.3, h.4)))

  each-values : (vs : Values) (ts : List Term) → each_in (layers p (levels_below p k) k vs) ts d i ≡ values_in (InTerm p k) (items_of vs) ts d i
  each-values no_values [] = refl
  each-values no_values (t ∷ ts) = refl
  each-values (value_and v vs) [] = refl
  each-values (value_and v vs) (t ∷ ts) = λ j. InTerm p k v t d i × each-values vs ts j

  tuple-out : (v : Value) (ts : List Term) → is_tuple ts d i (layer p (levels_below p k) k v) → (vs : Values) × (v ≡ tuple vs) × values_in (InTerm p k) (items_of vs) ts d i
  tuple-out (tuple vs) ts h = (vs, refl, transport (each-values vs ts) h)
  tuple-out nil ts h = absurd h
  tuple-out (atom b) ts h = absurd h
  tuple-out (integer n) ts h = absurd h
  tuple-out (cons x y) ts h = absurd h
  tuple-out (map_of es) ts h = absurd h
  tuple-out (named_fun n m) ts h = absurd h
  tuple-out (closure n e) ts h = absurd h

  pub in-Tuple : (v : Value) (ts : List Term) → InTerm p k v (Tuple ts) d i ↔ ((vs : Values) × (v ≡ tuple vs) × values_in (InTerm p k) (items_of vs) ts d i)
  in-Tuple v ts = iff-trans (equal-iff (read-Tuple (layer p (levels_below p k) k v) no_tag d i ts)) (tuple-out v ts, (λ h. subst (λ w. is_tuple ts d i (layer p (levels_below p k) k w)) (sym h.1) (transport (sym (each-values h.0 ts)) h.2)))

  pub in-Name : (v : Value) → AreDefinitions d → (n : ℕ) (args : List Term) (def : Def) → slice_get d n ≡ Some def → length args ≡ def.params → InTerm p k v (NameTerm n args) d i ↔ InTerm p k v (replaced_by args def.body) d i
  in-Name v right n args def e q =
      by-ranks d right n def e (pair-stable (to-stable (in-stable p k v (replaced_by args def.body) d i)) (to-stable (in-stable p k v (NameTerm n args) d i)))
      (λ rank ranked. equal-iff (read-Name (layer p (levels_below p k) k v) no_tag d i rank (IsOpenIn d) ranked n args def e q))

  pub in-undefined : (v : Value) (n : ℕ) (args : List Term) → ((def : Def) → slice_get d n ≡ Some def → def.params ≡ length args → ⊥) → InTerm p k v (NameTerm n args) d i → ⊥
  in-undefined v n args h x = transport (ap (holds (layer p (levels_below p k) k v) d i (variable_in (layer p (levels_below p k) k v) no_tag i)) (unfolded-undefined d n args h)) x

-- a map's entries, against what is looked up
none-some : (v : Value) → Nothing ≡ Some v → ⊥
none-some v e = cc

some-inj : (v w : Value) → Some v ≡ Some w → v ≡ w
some-inj v w e = cc

module _ (p : Program) (k : ℕ) (d : List Def) (i : Instance) (fields : List Field) (rest_int rest_atom : Option Term) where
  entry_term : Key → Option Term
  entry_term x = or_else (field_of x (hidden-the_row-Field-2 fields)) (rest_of x (rest_term (back-Term-Map-1 rest_int)) (rest_term (back-Term-Map-1 rest_atom)))

  entry_term-is : (x : Key) → entry_term x ≡ term_for x fields rest_int rest_atom
  unfolding entry_term
  entry_term-is x = λ j. or_else (field_of-hidden x fields j) (rest_of x (rest_term-back rest_int j) (rest_term-back rest_atom j))

  Allowed : Key → Value → Type 0
  Allowed x w = if_some (entry_term x) (λ t. InTerm p k w t d i)

  allowed-is : (x : Key) (w : Value) → Allowed x w ≡ if_some (term_for x fields rest_int rest_atom) (λ t. InTerm p k w t d i)
  unfolding Allowed
  allowed-is x w = ap (λ o. if_some o (λ t. InTerm p k w t d i)) (entry_term-is x)

  Entries : {b : Bound} → Row b → Type 0
  Entries r = entries_in (hidden-the_row-Field-2 fields) (rest_term (back-Term-Map-1 rest_int)) (rest_term (back-Term-Map-1 rest_atom)) d i (entry_layers p (levels_below p k) k r)

  entries-out : {b : Bound} (r : Row b) → Entries r → (x : Key) (w : Value) → get r x ≡ Some w → Allowed x w
  unfolding Entries Allowed entry_term
  entries-out no_entries h x w e = absurd (none-some w e)
  entries-out (entry_and j above_j v r) h x w e = go (key_lt x j) (key_lt j x) refl refl e (entries-out r h.1 x w)
    where
      go : (a c : Bool) → key_lt x j ≡ a → key_lt j x ≡ c → pick a c v (get r x) ≡ Some w → (get r x ≡ Some w → Allowed x w) → Allowed x w
      go true c s q e' ih = absurd (none-some w e')
      go false true s q e' ih = ih e'
      go false false s q e' ih = subst (λ u. Allowed x u) (some-inj v w e') (subst (λ y. Allowed y v) (key-same j x q s) h.0)

  entries-into : {b : Bound} (r : Row b) → ((x : Key) (w : Value) → get r x ≡ Some w → Allowed x w) → Entries r
  unfolding Entries Allowed entry_term
  entries-into no_entries h = tt
  entries-into {b = b} (entry_and j above_j v r) h = (h j v (get-first b j above_j v r), entries-into r (λ x w e. h x w (later x w e (key_lt j x) refl)))
    where
      later : (x : Key) (w : Value) → get r x ≡ Some w → (c : Bool) → key_lt j x ≡ c → pick (key_lt x j) (key_lt j x) v (get r x) ≡ Some w
      later x w e true q = (λ n. pick (key-asym j x q n) (q n) v (get r x)) ∙ e
      later x w e false q = absurd (none-some w (sym (get-below j r x q) ∙ e))

  map-iff : (r : MapEntries) → is_map (hidden-the_row-Field-2 fields) (back-Term-Map-1 rest_int) (back-Term-Map-1 rest_atom) d i (layer p (levels_below p k) k (map_of r))
      ↔ (((x : Key) (w : Value) → get r x ≡ Some w → if_some (term_for x fields rest_int rest_atom) (λ t. InTerm p k w t d i)) × ((f : Field) → Contains fields f → f.required ≡ true → is_some (get r f.key) ≡ true))
  unfolding Entries
  map-iff r =
      let q : _ = required-hidden fields (entry_layers p (levels_below p k) k r) in (
        (λ h. ((λ x w e. transport (allowed-is x w) (entries-out r h.0 x w e)), (λ f c x. sym (has_key-get p (levels_below p k) k r f.key) ∙ q.0 h.1 f c x))),
        (λ h. (entries-into r (λ x w e. transport (sym (allowed-is x w)) (h.0 x w e)), q.1 (λ f c x. has_key-get p (levels_below p k) k r f.key ∙ h.1 f c x))),
      )

  map-out : (v : Value) → is_map (hidden-the_row-Field-2 fields) (back-Term-Map-1 rest_int) (back-Term-Map-1 rest_atom) d i (layer p (levels_below p k) k v)
      → (r : MapEntries) × (v ≡ map_of r) × ((x : Key) (w : Value) → get r x ≡ Some w → if_some (term_for x fields rest_int rest_atom) (λ t. InTerm p k w t d i)) × ((f : Field) → Contains fields f → f.required ≡ true → is_some (get r f.key) ≡ true)
  map-out (map_of r) h = let m : _ = (map-iff r).0 h in (r, refl, m.0, m.1)
  map-out nil h = absurd h
  map-out (atom b) h = absurd h
  map-out (integer n) h = absurd h
  map-out (cons x y) h = absurd h
  map-out (tuple vs) h = absurd h
  map-out (named_fun n m) h = absurd h
  map-out (closure n e) h = absurd h

  pub in-Map : (v : Value) → InTerm p k v (Map fields rest_int rest_atom) d i
      ↔ ((r : MapEntries) × (v ≡ map_of r) × ((x : Key) (w : Value) → get r x ≡ Some w → if_some (term_for x fields rest_int rest_atom) (λ t. InTerm p k w t d i)) × ((f : Field) → Contains fields f → f.required ≡ true → is_some (get r f.key) ≡ true))
  in-Map v = iff-trans (equal-iff (read-Map (layer p (levels_below p k) k v) no_tag d i fields rest_int rest_atom))
      (map-out v, (λ h. subst (λ w. is_map (hidden-the_row-Field-2 fields) (back-Term-Map-1 rest_int) (back-Term-Map-1 rest_atom) d i (layer p (levels_below p k) k w)) (sym h.1) ((map-iff h.0).1 (h.2, h.3))))

-- a fun at level k is judged by the levels below k
module _ (p : Program) (spends : Spends p) (k : ℕ) (d : List Def) (i : Instance) (ss : List Term) (t : Term) where
  fun-out : (f : Value) → is_fun ss t d i (layer p (InTerm p) k f) ↔ (IsFun f × (p.arity f ≡ length ss) × ((m : ℕ) (args : List Value) → m < k → values_in (InTerm p m) args ss d i → IsGoodRun p (p.apply f args (suc m)) t d i))
  fun-out (named_fun n m) = ((λ h. (tt, eqb-true _ _ h.0, h.1)), (λ h. (eq-eqb _ _ h.1, h.2)))
  fun-out (closure n e) = ((λ h. (tt, eqb-true _ _ h.0, h.1)), (λ h. (eq-eqb _ _ h.1, h.2)))
  fun-out nil = ((λ h. absurd h), (λ h. h.0))
  fun-out (atom b) = ((λ h. absurd h), (λ h. h.0))
  fun-out (integer n) = ((λ h. absurd h), (λ h. h.0))
  fun-out (cons x y) = ((λ h. absurd h), (λ h. h.0))
  fun-out (tuple vs) = ((λ h. absurd h), (λ h. h.0))
  fun-out (map_of es) = ((λ h. absurd h), (λ h. h.0))

  pub in-Fun-iff : (f : Value) → InTerm p k f (Fun ss t) d i ↔ (IsFun f × (p.arity f ≡ length ss) × ((m : ℕ) (args : List Value) → m < k → values_in (InTerm p m) args ss d i → IsGoodRun p (p.apply f args (suc m)) t d i))
  in-Fun-iff f = iff-trans (equal-iff (in-Fun p spends k f ss t d i)) (fun-out f)

module _ (p : Program) (k : ℕ) (d : List Def) where
  pub in-Var : (v : Value) (a : ℕ) (t : Term) (e : List Def) (g rest : Instance) → InTerm p k v (Var a) d (variable_and a t e g rest) ↔ InTerm p k v t e g
  in-Var v a t e g rest = equal-iff (ap (λ b. cond b (InTerm p k v t e g) (InTerm p k v (Var a) d rest)) (eq-eqb a a refl))

  pub in-Var-other : (v : Value) (a b : ℕ) (t : Term) (e : List Def) (g rest : Instance) → (a ≡ b → ⊥) → InTerm p k v (Var a) d (variable_and b t e g rest) ↔ InTerm p k v (Var a) d rest
  in-Var-other v a b t e g rest h = go (nat_eq a b) refl
    where
      go : (x : Bool) → nat_eq a b ≡ x → cond x (InTerm p k v t e g) (InTerm p k v (Var a) d rest) ↔ InTerm p k v (Var a) d rest
      go true q = absurd (h (eqb-true a b q))
      go false q = ((λ y. y), (λ y. y))

  pub in-Var-none : (v : Value) (a : ℕ) → InTerm p k v (Var a) d no_variables → ⊥
  in-Var-none v a h = h
