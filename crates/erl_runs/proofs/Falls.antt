-- A value that is in a well-signed term at a level is in it at each smaller one.
use Rattle.std.proofs.Common.{◌≡◌, refl, sym, subst, ℕ, zero, suc, ◌≤◌, ◌+◌, ◌-◌, List, [], ◌∷◌, Bool, true, false, arith}
use Rattle.std.specs.Prelude.{Option, Some, None as Nothing, nat_eq, cond, ◌||◌}
use Rattle.type_terms.specs.declared.term.Def.{Def}
use Rattle.type_terms.specs.declared.term.Key.{Key}
use Rattle.type_terms.specs.declared.term.Key.TheVariants.{Int as IntKey, Atom as AtomKey}
use Rattle.type_terms.specs.declared.term.Term.{Term, Any, None, Ints, AtomLit, AnyAtom, Nil, Cons', Tuple', AnyTuple, Map', Fun', AnyFun, Or', And', Not', Var, Name', Row_of-Term, end_of-Term, more_of-Term, Row_of-Field, end_of-Field, more_of-Field, Held-Term-Map-1, Term-Map-1-None', Some'}
use Rattle.type_terms.specs.Instances.{Instance, no_variables, variable_and, IsInstance}
use Rattle.type_terms.specs.Keys.{Bound, same_key}
use Rattle.type_terms.specs.Reading.{Reading, Layer, integer_layer, atom_layer, nil_layer, cons_layer, tuple_layer, map_layer, fun_layer, is_integer, is_atom, is_any_atom, is_nil, is_cons, each_in, is_tuple, is_any_tuple, is_fun, is_any_fun, field_of, rest_term, rest_of, or_else, if_some, entries_in, has_key, has_required, is_map, holds, some_holds, all_hold, variable_in, read}
use Rattle.type_terms.specs.Replacement.{terms_of}
use Rattle.type_terms.specs.Signs.{IsWellSigned}
use Rattle.type_terms.specs.Unfolding.{unfolded}
use Rattle.erl_runs.specs.Value.{Value, integer, atom, nil, cons, tuple, map_of, named_fun, closure, Values, no_values, value_and, Row, no_entries, entry_and}
use Rattle.erl_runs.specs.Membership.{Program, InTerm, Spends, levels_below, layer, layers, entry_layers, gives_at, no_tag}
use Rattle.erl_runs.proofs.MembershipLaws.{arrow-is}
use Rattle.erl_runs.proofs.SignedTrees.{NoneUnder, signed-none, all_none, all_fields, all_rest, tree, tree_row, none-tree}

-- a fact, one universe up, beside facts of layers
record Up (A : Type 0) : Type 1 where
  down : A

abbrev if_any : (Term → Type 0) → Option Term → Type 0
if_any P Nothing = Unit {0}
if_any P (Some t) = P t

cond-any : (P : Term → Type 0) (b : Bool) (t : Term) (o : Option Term) → P t → if_any P o → if_any P (cond b (Some t) o)
cond-any P true t o h g = h
cond-any P false t o h g = g

field-any : {m : _} (P : Term → Type 0) (k : Key) (fs : Row_of-Field m) → all_fields P fs → if_any P (field_of k fs)
field-any P k end_of-Field h = tt
field-any P k (more_of-Field c r t fs) h = cond-any P (same_key k c) t (field_of k fs) h.0 (field-any P k fs h.1)

rest_term-any : (P : Term → Type 0) (r : Held-Term-Map-1) → all_rest P r → if_any P (rest_term r)
rest_term-any P Term-Map-1-None' h = tt
rest_term-any P (Some' s (more_of-Term t end_of-Term)) h = h

rest-any : (P : Term → Type 0) (k : Key) (r q : Option Term) → if_any P r → if_any P q → if_any P (rest_of k r q)
rest-any P (IntKey n) r q h g = h
rest-any P (AtomKey a) r q h g = g

else-any : (P : Term → Type 0) (o q : Option Term) → if_any P o → if_any P q → if_any P (or_else o q)
else-any P Nothing q h g = g
else-any P (Some t) q h g = h

entry-any : {m : _} (P : Term → Type 0) (k : Key) (fs : Row_of-Field m) (r q : Held-Term-Map-1) → all_fields P fs × all_rest P r × all_rest P q → if_any P (or_else (field_of k fs) (rest_of k (rest_term r) (rest_term q)))
entry-any P k fs r q h = else-any P (field_of k fs) (rest_of k (rest_term r) (rest_term q)) (field-any P k fs h.0) (rest-any P k (rest_term r) (rest_term q) (rest_term-any P r h.1) (rest_term-any P q h.2))

some-to : (P : Term → Type 0) (o : Option Term) (A B : Term → Type 0) → if_any P o → ((t : Term) → P t → A t → B t) → if_some o A → if_some o B
some-to P Nothing A B h f x = x
some-to P (Some t) A B h f x = f t h x

-- each variable's term is well signed by its own definitions
abbrev Signed : Instance → Type 0
Signed no_variables = Unit {0}
Signed (variable_and a t d inner rest) = NoneUnder true d t × Signed inner × Signed rest

instance-signed : (i : Instance) → IsInstance i → Signed i
instance-signed no_variables h = tt
instance-signed (variable_and a t d inner rest) h = (signed-none d t h.1, instance-signed inner h.3, instance-signed rest h.4)

-- from the first to the second where P holds, and back where N holds
abbrev BothWays : Type 0 → Type 0 → Type 0 → Type 0 → Type 0
BothWays P N A B = (P → A → B) × (N → B → A)

same-ways : {P N A : Type 0} → BothWays P N A A
same-ways = ((λ p h. h), (λ p h. h))

equal-ways : {P N A B : Type 0} → A ≡ B → BothWays P N A B
equal-ways e = ((λ p h. subst (λ X. X) e h), (λ p h. subst (λ X. X) (sym e) h))

pair-ways : {P N A B Q M C D : Type 0} → BothWays P N A B → BothWays Q M C D → BothWays (P × Q) (N × M) (A × C) (B × D)
pair-ways f g = ((λ p h. (f.0 p.0 h.0, g.0 p.1 h.1)), (λ p h. (f.1 p.0 h.0, g.1 p.1 h.1)))

-- one reading says no less than another of terms in which nothing stands under an odd number of negations, and no more of those in which nothing stands under an even number
abbrev Falls : Reading → Reading → Type 0
Falls r q = (t : Term) (d : List Def) (i : Instance) → Signed i → BothWays (NoneUnder true d t) (NoneUnder false d t) (r t d i) (q t d i)

abbrev all_fall : List {1} Reading → List {1} Reading → Type 0
all_fall [] [] = Unit {0}
all_fall (r ∷ rs) (q ∷ qs) = Falls r q × all_fall rs qs
all_fall _ _ = ⊥

abbrev entries_fall : List {1} (Key × Reading) → List {1} (Key × Reading) → Type 0
entries_fall [] [] = Unit {0}
entries_fall (e ∷ es) (g ∷ gs) = (e.0 ≡ g.0) × Falls e.1 g.1 × entries_fall es gs
entries_fall _ _ = ⊥

data LayerFalls : Layer → Layer → Type 1 where
  same_integer : (n : _) → LayerFalls (integer_layer n) (integer_layer n)
  same_atom : (n : _) → LayerFalls (atom_layer n) (atom_layer n)
  same_nil : LayerFalls nil_layer nil_layer
  both_cons : (a b c d : Reading) → Falls a c → Falls b d → LayerFalls (cons_layer a b) (cons_layer c d)
  both_tuple : (rs qs : List {1} Reading) → all_fall rs qs → LayerFalls (tuple_layer rs) (tuple_layer qs)
  both_map : (rs qs : List {1} (Key × Reading)) → entries_fall rs qs → LayerFalls (map_layer rs) (map_layer qs)
  both_fun : (n : ℕ) (f g : List Term → Term → List Def → Instance → Type 0) → ((ss : List Term) (t : Term) (d : List Def) (i : Instance) → f ss t d i → g ss t d i) → LayerFalls (fun_layer n f) (fun_layer n g)

-- what looks at the head alone
head-same : (A : Layer → Type 0) → ((n : ℕ) (f g : List Term → Term → List Def → Instance → Type 0) → A (fun_layer n f) ≡ A (fun_layer n g)) → ((rs qs : List {1} Reading) → A (tuple_layer rs) ≡ A (tuple_layer qs)) → ((a b c e : Reading) → A (cons_layer a b) ≡ A (cons_layer c e)) → ((rs qs : List {1} (Key × Reading)) → A (map_layer rs) ≡ A (map_layer qs)) → (l k : Layer) → LayerFalls l k → A l ≡ A k
head-same A f t c m _ _ (both_fun n g h w) = f n g h
head-same A f t c m _ _ (both_tuple rs qs w) = t rs qs
head-same A f t c m _ _ (both_cons r q r' q' w u) = c r q r' q'
head-same A f t c m _ _ (same_integer n) = refl
head-same A f t c m _ _ (same_atom n) = refl
head-same A f t c m _ _ same_nil = refl
head-same A f t c m _ _ (both_map rs qs e) = m rs qs

keys-same : (c : Key) (es gs : List {1} (Key × Reading)) → entries_fall es gs → has_key c es ≡ has_key c gs
keys-same c [] [] f = refl
keys-same c [] (g ∷ gs) f = absurd f
keys-same c (e ∷ es) [] f = absurd f
keys-same c (e ∷ es) (g ∷ gs) f = λ j. same_key (f.0 j) c || keys-same c es gs f.2 j

required-same : {m : _} (fs : Row_of-Field m) (es gs : List {1} (Key × Reading)) → entries_fall es gs → has_required fs es ≡ has_required fs gs
required-same end_of-Field es gs f = refl
required-same (more_of-Field c r t fs) es gs f = λ j. (r ≡ true → keys-same c es gs f j ≡ true) × required-same fs es gs f j

module _ (d : List Def) (i : Instance) (signed : Signed i) where
  each-falls : (ts : List Term) (rs qs : List {1} Reading) → all_fall rs qs → BothWays (all_none true d ts) (all_none false d ts) (each_in rs ts d i) (each_in qs ts d i)
  each-falls [] [] [] f = same-ways
  each-falls [] (r ∷ rs) (q ∷ qs) f = same-ways
  each-falls (t ∷ ts) [] [] f = same-ways
  each-falls ts [] (q ∷ qs) f = absurd f
  each-falls ts (r ∷ rs) [] f = absurd f
  each-falls (t ∷ ts) (r ∷ rs) (q ∷ qs) f = pair-ways (f.0 t d i signed) (each-falls ts rs qs f.1)

  cons-falls : (a b : Term) (l k : Layer) → LayerFalls l k → BothWays (NoneUnder true d a × NoneUnder true d b) (NoneUnder false d a × NoneUnder false d b) (is_cons (λ r. r a d i) (λ r. r b d i) l) (is_cons (λ r. r a d i) (λ r. r b d i) k)
  cons-falls a b _ _ (both_cons r q r' q' f g) = pair-ways (f a d i signed) (g b d i signed)
  cons-falls a b _ _ (same_integer n) = same-ways
  cons-falls a b _ _ (same_atom n) = same-ways
  cons-falls a b _ _ same_nil = same-ways
  cons-falls a b _ _ (both_tuple rs qs f) = same-ways
  cons-falls a b _ _ (both_map rs qs w) = same-ways
  cons-falls a b _ _ (both_fun n f g h) = same-ways

  tuple-falls : (ts : List Term) (l k : Layer) → LayerFalls l k → BothWays (all_none true d ts) (all_none false d ts) (is_tuple ts d i l) (is_tuple ts d i k)
  tuple-falls ts _ _ (both_tuple rs qs f) = each-falls ts rs qs f
  tuple-falls ts _ _ (both_cons r q r' q' f g) = same-ways
  tuple-falls ts _ _ (same_integer n) = same-ways
  tuple-falls ts _ _ (same_atom n) = same-ways
  tuple-falls ts _ _ same_nil = same-ways
  tuple-falls ts _ _ (both_map rs qs w) = same-ways
  tuple-falls ts _ _ (both_fun n f g h) = same-ways

  fun-falls : (ss : List Term) (t : Term) (l k : Layer) → LayerFalls l k → is_fun ss t d i l → is_fun ss t d i k
  fun-falls ss t _ _ (both_fun n f g h) x = (x.0, h ss t d i x.1)
  fun-falls ss t _ _ (both_tuple rs qs f) x = x
  fun-falls ss t _ _ (both_cons r q r' q' f g) x = x
  fun-falls ss t _ _ (same_integer n) x = x
  fun-falls ss t _ _ (same_atom n) x = x
  fun-falls ss t _ _ same_nil x = x
  fun-falls ss t _ _ (both_map rs qs w) x = x

  module _ {m : _} (fs : Row_of-Field m) (r q : Held-Term-Map-1) where
    abbrev PartsNone : Bool → Type 0
    PartsNone b = all_fields (NoneUnder b d) fs × all_rest (NoneUnder b d) r × all_rest (NoneUnder b d) q

    abbrev term_of : Key → Option Term
    term_of c = or_else (field_of c fs) (rest_of c (rest_term r) (rest_term q))

    entries-falls : (es gs : List {1} (Key × Reading)) → entries_fall es gs → BothWays (PartsNone true) (PartsNone false) (entries_in fs (rest_term r) (rest_term q) d i es) (entries_in fs (rest_term r) (rest_term q) d i gs)
    entries-falls [] [] f = same-ways
    entries-falls [] (g ∷ gs) f = absurd f
    entries-falls (e ∷ es) [] f = absurd f
    entries-falls (e ∷ es) (g ∷ gs) f =
        let more : BothWays (PartsNone true) (PartsNone false) (entries_in fs (rest_term r) (rest_term q) d i es) (entries_in fs (rest_term r) (rest_term q) d i gs) = entries-falls es gs f.2 in (
          (λ p h. (
            subst (λ c. if_some (term_of c) (λ t. g.1 t d i)) f.0
                (some-to (NoneUnder true d) (term_of e.0) (λ t. e.1 t d i) (λ t. g.1 t d i) (entry-any (NoneUnder true d) e.0 fs r q p) (λ t x y. (f.1 t d i signed).0 x y) h.0),
            more.0 p h.1,
          )),
          (λ p h. (
            some-to (NoneUnder false d) (term_of e.0) (λ t. g.1 t d i) (λ t. e.1 t d i) (entry-any (NoneUnder false d) e.0 fs r q p) (λ t x y. (f.1 t d i signed).1 x y)
                (subst (λ c. if_some (term_of c) (λ t. g.1 t d i)) (sym f.0) h.0),
            more.1 p h.1,
          )),
        )

    map-falls : (l k : Layer) → LayerFalls l k → BothWays (PartsNone true) (PartsNone false) (is_map fs r q d i l) (is_map fs r q d i k)
    map-falls _ _ (both_map es gs f) = (
      (λ p h. ((entries-falls es gs f).0 p h.0, subst (λ X. X) (required-same fs es gs f) h.1)),
      (λ p h. ((entries-falls es gs f).1 p h.0, subst (λ X. X) (sym (required-same fs es gs f)) h.1)),
    )
    map-falls _ _ (both_cons a b a' b' f g) = same-ways
    map-falls _ _ (both_tuple rs qs f) = same-ways
    map-falls _ _ (same_integer n) = same-ways
    map-falls _ _ (same_atom n) = same-ways
    map-falls _ _ same_nil = same-ways
    map-falls _ _ (both_fun n f g h') = same-ways

  module _ (l k : Layer) (falls : LayerFalls l k) (higher lower : ℕ → Type 0) (variables : (a : ℕ) → higher a → lower a) where
    mutual
      holds-falls : (t : Term) → BothWays (tree true d t) (tree false d t) (holds l d i higher t) (holds k d i lower t)
      holds-falls Any = same-ways
      holds-falls None = same-ways
      holds-falls (Ints low high) = equal-ways (head-same (is_integer low high) (λ n f g. refl) (λ rs qs. refl) (λ a b c e. refl) (λ rs qs. refl) l k falls)
      holds-falls (AtomLit a) = equal-ways (head-same (is_atom a) (λ n f g. refl) (λ rs qs. refl) (λ a b c e. refl) (λ rs qs. refl) l k falls)
      holds-falls AnyAtom = equal-ways (head-same is_any_atom (λ n f g. refl) (λ rs qs. refl) (λ a b c e. refl) (λ rs qs. refl) l k falls)
      holds-falls Nil = equal-ways (head-same is_nil (λ n f g. refl) (λ rs qs. refl) (λ a b c e. refl) (λ rs qs. refl) l k falls)
      holds-falls (Cons' s (more_of-Term a end_of-Term) t (more_of-Term b end_of-Term)) = cons-falls a b l k falls
      holds-falls (Tuple' s ts) = tuple-falls (terms_of ts) l k falls
      holds-falls AnyTuple = equal-ways (head-same is_any_tuple (λ n f g. refl) (λ rs qs. refl) (λ a b c e. refl) (λ rs qs. refl) l k falls)
      holds-falls (Map' s fs r q) = map-falls fs r q l k falls
      holds-falls (Fun' s ts t (more_of-Term a end_of-Term)) = ((λ p h. fun-falls (terms_of ts) a l k falls h), (λ p h. absurd p))
      holds-falls (AnyFun n) = equal-ways (head-same (is_any_fun n) (λ n f g. refl) (λ rs qs. refl) (λ a b c e. refl) (λ rs qs. refl) l k falls)
      holds-falls (Or' s ts) = some-falls ts
      holds-falls (And' s ts) = all-falls ts
      holds-falls (Not' s (more_of-Term t end_of-Term)) = ((λ p h x. h ((holds-falls t).1 p.0 x)), (λ p h x. h ((holds-falls t).0 p.0 x)))
      holds-falls (Var n) = ((λ p h. variables n h), (λ p h. absurd p))
      holds-falls (Name' n s ts) = same-ways

      some-falls : {m : _} (ts : Row_of-Term m) → BothWays (tree_row true d ts) (tree_row false d ts) (some_holds l d i higher ts) (some_holds k d i lower ts)
      some-falls end_of-Term = same-ways
      some-falls (more_of-Term t ts) = (
        (λ p h n. h ((λ x. n.0 ((holds-falls t).0 p.0 x)), (λ x. n.1 ((some-falls ts).0 p.1 x)))),
        (λ p h n. h ((λ x. n.0 ((holds-falls t).1 p.0 x)), (λ x. n.1 ((some-falls ts).1 p.1 x)))),
      )

      all-falls : {m : _} (ts : Row_of-Term m) → BothWays (tree_row true d ts) (tree_row false d ts) (all_hold l d i higher ts) (all_hold k d i lower ts)
      all-falls end_of-Term = same-ways
      all-falls (more_of-Term t ts) = pair-ways (holds-falls t) (all-falls ts)

cond-to : (b : Bool) {A B A' B' : Type 0} → (A → A') → (B → B') → cond b A B → cond b A' B'
cond-to true f g h = f h
cond-to false f g h = g h

module _ (l k : Layer) (falls : LayerFalls l k) (tag : ℕ → Type 0) where
  variable-falls : (i : Instance) → Signed i → (a : ℕ) → variable_in l tag i a → variable_in k tag i a
  variable-falls no_variables s a h = h
  variable-falls (variable_and b t d i rest) s a h =
      cond-to (nat_eq a b)
      ((holds-falls d i s.1 l k falls (variable_in l tag i) (variable_in k tag i) (λ c x. variable-falls i s.1 c x) (unfolded d t)).0 (none-tree d true t s.0))
      (λ x. variable-falls rest s.2 a x) h

  read-falls : Falls (read l tag) (read k tag)
  read-falls t d i s =
      let h : BothWays (tree true d (unfolded d t)) (tree false d (unfolded d t)) (read l tag t d i) (read k tag t d i) =
      holds-falls d i s l k falls (variable_in l tag i) (variable_in k tag i) (variable-falls i s) (unfolded d t) in
      ((λ p. h.0 (none-tree d true t p)), (λ n. h.1 (none-tree d false t n)))

module _ (p : Program) (spends : Spends p) (n : ℕ) where
  fun-gives : (f : Value) (ss : List Term) (t : Term) (d : List Def) (i : Instance) → gives_at p (levels_below p (suc n)) (suc n) f ss t d i → gives_at p (levels_below p n) n f ss t d i
  fun-gives f ss t d i h =
      let g : gives_at p (InTerm p) (suc n) f ss t d i = subst (λ X. X) (arrow-is p spends (suc n) f ss t d i) h in
      let e : gives_at p (InTerm p) n f ss t d i = λ m args l. g m args (omega arith) in
      subst (λ X. X) (sym (arrow-is p spends n f ss t d i)) e

  mutual
    layer-falls : (v : Value) → LayerFalls (layer p (levels_below p (suc n)) (suc n) v) (layer p (levels_below p n) n v)
    layer-falls (integer z) = same_integer z
    layer-falls (atom a) = same_atom a
    layer-falls nil = same_nil
    layer-falls (cons a b) = both_cons _ _ _ _ (read-falls _ _ (layer-falls a) no_tag) (read-falls _ _ (layer-falls b) no_tag)
    layer-falls (tuple vs) = both_tuple _ _ (layers-fall vs).down
    layer-falls (map_of es) = both_map _ _ (entry_layers-fall es).down
    layer-falls (named_fun f a) = both_fun _ _ _ (fun-gives (named_fun f a))
    layer-falls (closure c env) = both_fun _ _ _ (fun-gives (closure c env))

    layers-fall : (vs : Values) → Up (all_fall (layers p (levels_below p (suc n)) (suc n) vs) (layers p (levels_below p n) n vs))
    layers-fall no_values = record { down = tt }
    layers-fall (value_and v vs) = record { down = (read-falls _ _ (layer-falls v) no_tag, (layers-fall vs).down) }

    entry_layers-fall : {b : Bound} (es : Row b) → Up (entries_fall (entry_layers p (levels_below p (suc n)) (suc n) es) (entry_layers p (levels_below p n) n es))
    entry_layers-fall no_entries = record { down = tt }
    entry_layers-fall (entry_and c e v es) = record { down = (refl, read-falls _ _ (layer-falls v) no_tag, (entry_layers-fall es).down) }

  -- a value that is in a signed term at one level is in it at the level below
  in-one_less : (v : Value) (t : Term) (d : List Def) (i : Instance) → Signed i → NoneUnder true d t → InTerm p (suc n) v t d i → InTerm p n v t d i
  in-one_less v t d i s q h = (read-falls _ _ (layer-falls v) no_tag t d i s).0 q h

in-less : (p : Program) → Spends p → (more m : ℕ) (v : Value) (t : Term) (d : List Def) (i : Instance) → Signed i → NoneUnder true d t → InTerm p (more + m) v t d i → InTerm p m v t d i
in-less p spends zero m v t d i s q h = subst (λ k. InTerm p k v t d i) (omega arith) h
in-less p spends (suc more) m v t d i s q h = in-less p spends more m v t d i s q (in-one_less p spends (more + m) v t d i s q (subst (λ k. InTerm p k v t d i) (omega arith) h))

-- a value that is in a well-signed term at a level is in it at each smaller one
pub in-falls : (p : Program) → Spends p → (i : Instance) → IsInstance i → (d : List Def) (t : Term) → IsWellSigned d t → (v : Value) (k m : ℕ) → m ≤ k → InTerm p k v t d i → InTerm p m v t d i
in-falls p spends i s d t q v k m l h = in-less p spends (k - m) m v t d i (instance-signed i s) (signed-none d t q) (subst (λ x. InTerm p x v t d i) (omega arith) h)
