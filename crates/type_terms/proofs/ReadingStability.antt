-- What a term says is stable under double negation, so that a proof may go by cases on it where it shows a contradiction.
use Rattle.std.proofs.Common.{◌≡◌, refl, ℕ, List, [], ◌∷◌, length, Bool, true, false}
use Rattle.std.specs.Prelude.{Option, Some, None as Nothing, nat_eq, cond, ◌&&◌}
use Rattle.type_terms.specs.declared.term.Key.{Key}
use Rattle.type_terms.specs.declared.term.Term.{Term, Any, None, Ints, AtomLit, AnyAtom, Nil, Cons', Tuple', AnyTuple, Map', Fun', AnyFun, Or', And', Not', Var, Name', Row_of-Term, end_of-Term, more_of-Term, Row_of-Field, end_of-Field, more_of-Field}
use Rattle.type_terms.specs.Keys.{same_name}
use Rattle.type_terms.specs.Unfolding.{unfolded}
use Rattle.type_terms.specs.Replacement.{terms_of}
use Rattle.type_terms.specs.declared.term.Def.{Def}
use Rattle.type_terms.specs.Instances.{Instance, no_variables, variable_and}
use Rattle.type_terms.specs.Reading
use Rattle.type_terms.specs.Reading.{Reading, Layer, integer_layer, atom_layer, nil_layer, cons_layer, tuple_layer, map_layer, fun_layer}

abbrev pub Stable : Type 0 → Type 0
Stable A = ((A → ⊥) → ⊥) → A

pub true-stable : (b : Bool) → Stable (b ≡ true)
true-stable true h = refl
true-stable false h = absurd (h (λ (e : false ≡ true). cc))

pub unit-stable : Stable (Unit {0})
unit-stable h = tt

pub none-stable : Stable ⊥
none-stable h = h (λ x. x)

pub pair-stable : {A B : Type 0} → Stable A → Stable B → Stable (A × B)
pair-stable a b h = (a (λ k. h (λ p. k p.0)), b (λ k. h (λ p. k p.1)))

pub not-stable : (A : Type 0) → Stable (A → ⊥)
not-stable A h x = h (λ k. k x)

pub to-stable : {A B : Type 0} → Stable B → Stable (A → B)
to-stable b h x = b (λ k. h (λ f. k (f x)))

abbrev pub StableReading : Reading → Type 0
StableReading r = (t : Term) (d : List Def) (i : Instance) → Stable (r t d i)

abbrev pub all_stable : List {1} Reading → Type 0
all_stable [] = Unit {0}
all_stable (r ∷ rs) = StableReading r × all_stable rs

abbrev pub entries_stable : List {1} (Key × Reading) → Type 0
entries_stable [] = Unit {0}
entries_stable (e ∷ es) = StableReading e.1 × entries_stable es

abbrev pub LayerStable : Layer → Type 0
LayerStable (cons_layer a b) = StableReading a × StableReading b
LayerStable (tuple_layer rs) = all_stable rs
LayerStable (map_layer es) = entries_stable es
LayerStable (fun_layer n arrow) = (ss : List Term) (t : Term) (d : List Def) (i : Instance) → Stable (arrow ss t d i)
LayerStable _ = Unit {0}

is_integer-stable : (lo hi : _) (l : Layer) → Stable (Reading.is_integer lo hi l)
is_integer-stable lo hi (integer_layer n) = true-stable (Reading.at_least lo n && Reading.at_most hi n)
is_integer-stable lo hi _ = none-stable

is_atom-stable : (a : _) (l : Layer) → Stable (Reading.is_atom a l)
is_atom-stable a (atom_layer b) = true-stable (same_name b a)
is_atom-stable a _ = none-stable

is_any_atom-stable : (l : Layer) → Stable (Reading.is_any_atom l)
is_any_atom-stable (atom_layer b) = unit-stable
is_any_atom-stable _ = none-stable

is_nil-stable : (l : Layer) → Stable (Reading.is_nil l)
is_nil-stable nil_layer = unit-stable
is_nil-stable _ = none-stable

is_any_tuple-stable : (l : Layer) → Stable (Reading.is_any_tuple l)
is_any_tuple-stable (tuple_layer rs) = unit-stable
is_any_tuple-stable _ = none-stable

is_cons-stable : (s t : Term) (d : List Def) (i : Instance) (l : Layer) → LayerStable l → Stable (Reading.is_cons (λ r. r s d i) (λ r. r t d i) l)
is_cons-stable s t d i (cons_layer a b) h = pair-stable (h.0 s d i) (h.1 t d i)
is_cons-stable s t d i (integer_layer n) h = none-stable
is_cons-stable s t d i (atom_layer n) h = none-stable
is_cons-stable s t d i nil_layer h = none-stable
is_cons-stable s t d i (tuple_layer n) h = none-stable
is_cons-stable s t d i (map_layer n) h = none-stable
is_cons-stable s t d i (fun_layer n f) h = none-stable

each-stable : (ts : List Term) (d : List Def) (i : Instance) (rs : List {1} Reading) → all_stable rs → Stable (Reading.each_in rs ts d i)
each-stable [] d i [] h = unit-stable
each-stable (t ∷ ts) d i [] h = none-stable
each-stable [] d i (r ∷ rs) h = none-stable
each-stable (t ∷ ts) d i (r ∷ rs) h = pair-stable (h.0 t d i) (each-stable ts d i rs h.1)

is_tuple-stable : (ts : List Term) (d : List Def) (i : Instance) (l : Layer) → LayerStable l → Stable (Reading.is_tuple ts d i l)
is_tuple-stable ts d i (tuple_layer rs) h = each-stable ts d i rs h
is_tuple-stable ts d i (cons_layer a b) h = none-stable
is_tuple-stable ts d i (integer_layer n) h = none-stable
is_tuple-stable ts d i (atom_layer n) h = none-stable
is_tuple-stable ts d i nil_layer h = none-stable
is_tuple-stable ts d i (map_layer n) h = none-stable
is_tuple-stable ts d i (fun_layer n f) h = none-stable

of_arity-stable : (o : Option ℕ) (n : ℕ) → Stable (Reading.of_arity o n)
of_arity-stable Nothing n = unit-stable
of_arity-stable (Some m) n = true-stable (nat_eq n m)

is_any_fun-stable : (o : Option ℕ) (l : Layer) → Stable (Reading.is_any_fun o l)
is_any_fun-stable o (fun_layer n f) = of_arity-stable o n
is_any_fun-stable o _ = none-stable

is_fun-stable : (ss : List Term) (t : Term) (d : List Def) (i : Instance) (l : Layer) → LayerStable l → Stable (Reading.is_fun ss t d i l)
is_fun-stable ss t d i (fun_layer n f) h = pair-stable (true-stable (nat_eq n (length ss))) (h ss t d i)
is_fun-stable ss t d i (tuple_layer rs) h = none-stable
is_fun-stable ss t d i (cons_layer a b) h = none-stable
is_fun-stable ss t d i (integer_layer n) h = none-stable
is_fun-stable ss t d i (atom_layer n) h = none-stable
is_fun-stable ss t d i nil_layer h = none-stable
is_fun-stable ss t d i (map_layer n) h = none-stable

if_some-stable : (o : Option Term) (r : Reading) (d : List Def) (i : Instance) → StableReading r → Stable (Reading.if_some o (λ t. r t d i))
if_some-stable Nothing r d i h = none-stable
if_some-stable (Some t) r d i h = h t d i

entries_in-stable : {m : _} (fs : Row_of-Field m) (r q : Option Term) (d : List Def) (i : Instance) (es : List {1} (Key × Reading)) → entries_stable es → Stable (Reading.entries_in fs r q d i es)
entries_in-stable fs r q d i [] h = unit-stable
entries_in-stable fs r q d i (e ∷ es) h = pair-stable (if_some-stable (Reading.or_else (Reading.field_of e.0 fs) (Reading.rest_of e.0 r q)) e.1 d i h.0) (entries_in-stable fs r q d i es h.1)

required-stable : {m : _} (fs : Row_of-Field m) (es : List {1} (Key × Reading)) → Stable (Reading.has_required fs es)
required-stable end_of-Field es = unit-stable
required-stable (more_of-Field c r t fs) es = pair-stable (to-stable (true-stable (Reading.has_key c es))) (required-stable fs es)

is_map-stable : {m : _} (fs : Row_of-Field m) (r q : _) (d : List Def) (i : Instance) (l : Layer) → LayerStable l → Stable (Reading.is_map fs r q d i l)
is_map-stable fs r q d i (map_layer es) h = pair-stable (entries_in-stable fs (Reading.rest_term r) (Reading.rest_term q) d i es h) (required-stable fs es)
is_map-stable fs r q d i (tuple_layer rs) h = none-stable
is_map-stable fs r q d i (cons_layer a b) h = none-stable
is_map-stable fs r q d i (integer_layer n) h = none-stable
is_map-stable fs r q d i (atom_layer n) h = none-stable
is_map-stable fs r q d i nil_layer h = none-stable
is_map-stable fs r q d i (fun_layer n f) h = none-stable

module _ (l : Layer) (ls : LayerStable l) (d : List Def) (i : Instance) (var : ℕ → Type 0) (vs : (a : ℕ) → Stable (var a)) where
  mutual
    holds-stable : (t : Term) → Stable (Reading.holds l d i var t)
    holds-stable Any = unit-stable
    holds-stable None = none-stable
    holds-stable (Ints lo hi) = is_integer-stable lo hi l
    holds-stable (AtomLit a) = is_atom-stable a l
    holds-stable AnyAtom = is_any_atom-stable l
    holds-stable Nil = is_nil-stable l
    holds-stable (Cons' s (more_of-Term a end_of-Term) t (more_of-Term b end_of-Term)) = is_cons-stable a b d i l ls
    holds-stable (Tuple' s ts) = is_tuple-stable (terms_of ts) d i l ls
    holds-stable AnyTuple = is_any_tuple-stable l
    holds-stable (Map' s fs r q) = is_map-stable fs r q d i l ls
    holds-stable (Fun' s ts t (more_of-Term a end_of-Term)) = is_fun-stable (terms_of ts) a d i l ls
    holds-stable (AnyFun n) = is_any_fun-stable n l
    holds-stable (Or' s ts) = some-stable ts
    holds-stable (And' s ts) = all-stable ts
    holds-stable (Not' s (more_of-Term t end_of-Term)) = not-stable (Reading.holds l d i var t)
    holds-stable (Var n) = vs n
    holds-stable (Name' n s ts) = none-stable

    some-stable : {m : _} (ts : Row_of-Term m) → Stable (Reading.some_holds l d i var ts)
    some-stable end_of-Term = none-stable
    some-stable (more_of-Term t ts) = not-stable ((Reading.holds l d i var t → ⊥) × (Reading.some_holds l d i var ts → ⊥))

    all-stable : {m : _} (ts : Row_of-Term m) → Stable (Reading.all_hold l d i var ts)
    all-stable end_of-Term = unit-stable
    all-stable (more_of-Term t ts) = pair-stable (holds-stable t) (all-stable ts)

pub cond-stable : (b : Bool) {A B : Type 0} → Stable A → Stable B → Stable (cond b A B)
cond-stable true a b = a
cond-stable false a b = b

module _ (l : Layer) (ls : LayerStable l) (tag : ℕ → Type 0) (tags : (a : ℕ) → Stable (tag a)) where
  variable_in-stable : (i : Instance) (a : ℕ) → Stable (Reading.variable_in l tag i a)
  variable_in-stable no_variables a = tags a
  variable_in-stable (variable_and b t d i rest) a = cond-stable (nat_eq a b) (holds-stable l ls d i (Reading.variable_in l tag i) (λ c. variable_in-stable i c) (unfolded d t)) (variable_in-stable rest a)

  pub read-stable : StableReading (Reading.read l tag)
  read-stable t d i = holds-stable l ls d i (Reading.variable_in l tag i) (variable_in-stable i) (unfolded d t)
