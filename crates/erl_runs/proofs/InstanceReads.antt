-- A value is in a term with its variables replaced exactly where it is in the term under the instance that holds what they are replaced by.
use Rattle.std.proofs.Common.{◌≡◌, refl, sym, ◌∙◌, ap, subst, ℕ, zero, suc, ◌<◌, ◌+◌, List, [], ◌∷◌, ◌++◌, length, get_or, map, Bool, true, false, ◌↔◌, arith}
use Rattle.std.proofs.lemmas.Bool.{eqb-true, eq-eqb}
use Rattle.std.proofs.lemmas.List.Elements.{Contains-append_left, Contains-append_right}
use Rattle.std.specs.Prelude.{nat_eq, cond}
use Rattle.std.specs.List.{Contains}
use Rattle.type_terms.specs.declared.term.Def.{Def}
use Rattle.type_terms.specs.declared.term.Term.{Term, Any, None, Ints, AtomLit, AnyAtom, Nil, Cons', Tuple', AnyTuple, Map', Fun', AnyFun, Or', And', Not', Var, Name', Row_of-Term, end_of-Term, more_of-Term, Row_of-Field, end_of-Field, more_of-Field, Held-Term-Map-1, Term-Map-1-None', Some', view-Term-Map-1, items-the_row-Field}
use Rattle.type_terms.specs.Definitions.{VariablesBelow}
use Rattle.type_terms.specs.Instances.{Instance}
use Rattle.type_terms.specs.Keys.{Bound}
use Rattle.type_terms.specs.Parts.{layer_children, children, field_terms, rest_terms, IsPart, itself, in_child}
use Rattle.type_terms.specs.Reading.{Layer, holds, variable_in, read}
use Rattle.type_terms.specs.Replacement.{Substitution, replaced, replaced_row, replaced_fields, replaced_rest, replaced_by, argument_of, terms_of}
use Rattle.type_terms.specs.Unfolding.{unfolded_in, name_unfolded, unfolded}
use Rattle.type_terms.proofs.Contained.{contains-first, contains-later}
use Rattle.type_terms.proofs.PartLaws.{shown-term}
use Rattle.type_terms.proofs.ReplacementLaws.{replaced-id}
use Rattle.type_terms.proofs.UnfoldingLaws.{unfolded-replaced}
use Rattle.erl_runs.specs.Value.{Value, integer, atom, nil, cons, tuple, map_of, named_fun, closure, Values, no_values, value_and, Row, no_entries, entry_and, Outcome, came, raised, wrong, going}
use Rattle.erl_runs.specs.Membership.{Program, Levels, InTerm, levels_below, layer, layers, entry_layers, gives_at, values_in, ends_well, calls_within, no_tag}
use Rattle.erl_runs.specs.TermInstances.{entries_from, instance_of}
use Rattle.erl_runs.proofs.Equations.{equal-iff}
use Rattle.erl_runs.proofs.ReplacedTerms.{Swaps, all_swap, entries_swap, LayerSwaps, unfolded-swap, names-swap}
use Rattle.erl_runs.proofs.TermLayers.{out-Cons', out-Tuple', out-Map', out-Fun', out-Or', out-And', out-Not', out-Name'}

-- ---- what is put in for a term's own variables decides

module _ (f g : Substitution) where
  abbrev Agree : Term → Type 0
  Agree t = (a : ℕ) → IsPart (Var a) t → f a ≡ g a

  agree-child : (w c : Term) → Agree w → Contains (children w) c → Agree c
  agree-child w c h k a p = h a (in_child (Var a) c w k p)

  abbrev AgreeAll : List Term → Type 0
  AgreeAll ts = (c : Term) → Contains ts c → Agree c

  agree-children : (w : Term) (ts : List Term) → children w ≡ ts → Agree w → AgreeAll ts
  agree-children w ts e h c k = agree-child w c h (subst (λ (l : List Term). Contains l c) (sym e) k)

  mutual
    replaced-agree : (t : Term) → Agree t → replaced f t ≡ replaced g t
    replaced-agree Any h = refl
    replaced-agree None h = refl
    replaced-agree (Ints low high) h = refl
    replaced-agree (AtomLit name) h = refl
    replaced-agree AnyAtom h = refl
    replaced-agree Nil h = refl
    replaced-agree (Cons' s (more_of-Term x end_of-Term) t (more_of-Term y end_of-Term)) h =
        let c : AgreeAll (x ∷ y ∷ []) = agree-children _ _ (ap layer_children (out-Cons' s t x y)) h in
        λ j. Cons' s (more_of-Term (replaced-agree x (c x (contains-first x (y ∷ []))) j) end_of-Term) t (more_of-Term (replaced-agree y (c y (contains-later x y (y ∷ []) (contains-first y []))) j) end_of-Term)
    replaced-agree (Tuple' s ts) h = λ j. Tuple' s (row-agree ts (agree-children _ _ (ap layer_children (out-Tuple' s ts)) h) j)
    replaced-agree AnyTuple h = refl
    replaced-agree (Map' s fs r q) h =
        let fields : List Term = field_terms (items-the_row-Field _ fs) in
        let ints : List Term = rest_terms (view-Term-Map-1 r) in
        let atoms : List Term = rest_terms (view-Term-Map-1 q) in
        let c : AgreeAll (fields ++ (ints ++ atoms)) = agree-children _ _ (ap layer_children (out-Map' s fs r q)) h in
        λ j. Map' s (fields-agree fs (λ t k. c t (Contains-append_left fields (ints ++ atoms) t k)) j)
        (rest-agree r (λ t k. c t (Contains-append_right fields (ints ++ atoms) t (Contains-append_left ints atoms t k))) j)
        (rest-agree q (λ t k. c t (Contains-append_right fields (ints ++ atoms) t (Contains-append_right ints atoms t k))) j)
    replaced-agree (Fun' s ts t (more_of-Term x end_of-Term)) h =
        let c : AgreeAll (terms_of ts ++ (x ∷ [])) = agree-children _ _ (ap layer_children (out-Fun' s t ts x)) h in
        λ j. Fun' s (row-agree ts (λ u k. c u (Contains-append_left (terms_of ts) (x ∷ []) u k)) j) t (more_of-Term (replaced-agree x (c x (Contains-append_right (terms_of ts) (x ∷ []) x (contains-first x []))) j) end_of-Term)
    replaced-agree (AnyFun arity) h = refl
    replaced-agree (Or' s ts) h = λ j. Or' s (row-agree ts (agree-children _ _ (ap layer_children (out-Or' s ts)) h) j)
    replaced-agree (And' s ts) h = λ j. And' s (row-agree ts (agree-children _ _ (ap layer_children (out-And' s ts)) h) j)
    replaced-agree (Not' s (more_of-Term t end_of-Term)) h = λ j. Not' s (more_of-Term (replaced-agree t (agree-children _ _ (ap layer_children (out-Not' s t)) h t (contains-first t [])) j) end_of-Term)
    replaced-agree (Var n) h = h n (itself (Var n))
    replaced-agree (Name' n s ts) h = λ j. Name' n s (row-agree ts (agree-children _ _ (ap layer_children (out-Name' n s ts)) h) j)

    row-agree : {m : _} (ts : Row_of-Term m) → AgreeAll (terms_of ts) → replaced_row f ts ≡ replaced_row g ts
    row-agree end_of-Term h = refl
    row-agree (more_of-Term t ts) h = λ j. more_of-Term (replaced-agree t (h t (contains-first t (terms_of ts))) j) (row-agree ts (λ c k. h c (contains-later t c (terms_of ts) k)) j)

    fields-agree : {m : _} (fs : Row_of-Field m) → AgreeAll (field_terms (items-the_row-Field m fs)) → replaced_fields f fs ≡ replaced_fields g fs
    fields-agree end_of-Field h = refl
    fields-agree (more_of-Field key required t fs) h = λ j. more_of-Field key required (replaced-agree t (h t (contains-first t _)) j) (fields-agree fs (λ c k. h c (contains-later t c _ k)) j)

    rest-agree : (r : Held-Term-Map-1) → AgreeAll (rest_terms (view-Term-Map-1 r)) → replaced_rest f r ≡ replaced_rest g r
    rest-agree Term-Map-1-None' h = refl
    rest-agree (Some' s (more_of-Term t end_of-Term)) h = λ j. Some' s (more_of-Term (replaced-agree t (h t (subst (λ (l : List Term). Contains l t) (sym (shown-term s (more_of-Term t end_of-Term))) (contains-first t []))) j) end_of-Term)

-- ---- terms of a list, and the instance of the list

-- as a variable without an entry does, `None` holds of no value
abbrev given : List Term → Substitution
given terms n = get_or terms n None

get-below : (terms : List Term) (n : ℕ) (s t : Term) → n < length terms → get_or terms n s ≡ get_or terms n t
get-below [] n s t l = absurd (omega arith)
get-below (u ∷ us) zero s t l = refl
get-below (u ∷ us) (suc n) s t l = get-below us n s t (omega arith)

replaced_by-given : (terms : List Term) (t : Term) → VariablesBelow (length terms) t → replaced_by terms t ≡ replaced (given terms) t
replaced_by-given terms t h = replaced-agree (argument_of terms) (given terms) t (λ a p. get-below terms a Any None (h a p))

module _ (d : List Def) (i : Instance) where
  entry-read : (l : Layer) (terms : List Term) (a n : ℕ) → holds l d i (variable_in l no_tag i) (unfolded d (given terms n)) ≡ variable_in l no_tag (entries_from a terms d i) (n + a)
  entry-read l [] a n = refl
  entry-read l (t ∷ ts) a zero = pick (nat_eq (zero + a) a) (eq-eqb (zero + a) a (omega arith))
    where
      pick : (b : Bool) → b ≡ true → holds l d i (variable_in l no_tag i) (unfolded d t) ≡ cond b (holds l d i (variable_in l no_tag i) (unfolded d t)) (variable_in l no_tag (entries_from (suc a) ts d i) (zero + a))
      pick true e = refl
      pick false e = absurd (cc)
  entry-read l (t ∷ ts) a (suc n) = pick (nat_eq (suc n + a) a) refl (entry-read l ts (suc a) n)
    where
      later : suc n + a ≡ a → ⊥
      later e = omega arith

      pick : (b : Bool) → nat_eq (suc n + a) a ≡ b → holds l d i (variable_in l no_tag i) (unfolded d (given ts n)) ≡ variable_in l no_tag (entries_from (suc a) ts d i) (n + suc a) → holds l d i (variable_in l no_tag i) (unfolded d (given ts n)) ≡ cond b (holds l d i (variable_in l no_tag i) (unfolded d t)) (variable_in l no_tag (entries_from (suc a) ts d i) (suc n + a))
      pick true e h = absurd (later (eqb-true (suc n + a) a e))
      pick false e h = subst (λ m. holds l d i (variable_in l no_tag i) (unfolded d (given ts n)) ≡ variable_in l no_tag (entries_from (suc a) ts d i) m) (omega arith) h

module _ (terms : List Term) (d : List Def) (i : Instance) where
  abbrev σ : Substitution
  σ = given terms

  abbrev I : Instance
  I = instance_of terms d i

  variable-read : (l : Layer) (n : ℕ) → holds l d i (variable_in l no_tag i) (unfolded d (σ n)) ≡ variable_in l no_tag I n
  variable-read l n = subst (λ m. holds l d i (variable_in l no_tag i) (unfolded d (σ n)) ≡ variable_in l no_tag I m) (omega arith) (entry-read d i l terms zero n)

  read-swap : (l : Layer) → LayerSwaps σ d i I l → Swaps σ d i I (read l no_tag)
  read-swap l swaps t =
      ap (holds l d i (variable_in l no_tag i)) (unfolded-replaced (name_unfolded d (length d)) Var Var σ t ∙ (λ j. unfolded_in (name_unfolded d (length d)) (λ n. replaced-id (σ n) j) (λ n. unfolded d (σ n)) t))
      ∙ unfolded-swap σ d i I l swaps (variable_in l no_tag i) (variable_in l no_tag I) (name_unfolded d (length d)) (names-swap σ d i I l swaps (variable_in l no_tag i) (variable_in l no_tag I) (length d))
      Var (λ n. unfolded d (σ n)) Var (λ n. variable-read l n) t

  module _ (p : Program) where
    module _ (table : Levels) (swaps : (m : ℕ) (v : Value) → Swaps σ d i I (table m v)) (k : ℕ) where
      values-swap : (m : ℕ) (vs : List Value) (ss : List Term) → values_in (table m) vs (map (replaced σ) ss) d i ≡ values_in (table m) vs ss d I
      values-swap m [] [] = refl
      values-swap m [] (s ∷ ss) = refl
      values-swap m (v ∷ vs) [] = refl
      values-swap m (v ∷ vs) (s ∷ ss) = λ j. swaps m v s j × values-swap m vs ss j

      ends-swap : (o : Outcome Value) (left : ℕ) (t : Term) → ends_well o (λ v. table left v (replaced σ t) d i) ≡ ends_well o (λ v. table left v t d I)
      ends-swap (came v) left t = swaps left v t
      ends-swap (raised c v) left t = refl
      ends-swap wrong left t = refl
      ends-swap going left t = refl

      gives-swap : (f : Value) (ss : List Term) (t : Term) → gives_at p table k f (map (replaced σ) ss) (replaced σ t) d i ≡ gives_at p table k f ss t d I
      gives-swap f ss t = λ j. (m : ℕ) (args : List Value) → m < k → values-swap m args ss j → ends-swap (p.apply f args (suc m)).outcome (p.apply f args (suc m)).left t j × calls_within p table (p.apply f args (suc m)).calls

      mutual
        layer-swap : (v : Value) → LayerSwaps σ d i I (layer p table k v)
        layer-swap (integer n) = tt
        layer-swap (atom a) = tt
        layer-swap nil = tt
        layer-swap (cons a b) = (read-swap (layer p table k a) (layer-swap a), read-swap (layer p table k b) (layer-swap b))
        layer-swap (tuple vs) = layers-swap vs
        layer-swap (map_of es) = entry_layers-swap es
        layer-swap (named_fun f a) = gives-swap (named_fun f a)
        layer-swap (closure c env) = gives-swap (closure c env)

        layers-swap : (vs : Values) → all_swap σ d i I (layers p table k vs)
        layers-swap no_values = tt
        layers-swap (value_and v vs) = (read-swap (layer p table k v) (layer-swap v), layers-swap vs)

        entry_layers-swap : {b : Bound} (es : Row b) → entries_swap σ d i I (entry_layers p table k es)
        entry_layers-swap no_entries = tt
        entry_layers-swap (entry_and c e v es) = (read-swap (layer p table k v) (layer-swap v), entry_layers-swap es)

    levels-swap : (k m : ℕ) (v : Value) (t : Term) → levels_below p k m v (replaced σ t) d i ≡ levels_below p k m v t d I
    levels-swap zero m v t = refl
    levels-swap (suc k) m v t = λ j. cond (nat_eq m k) (read-swap (layer p (levels_below p k) k v) (layer-swap (levels_below p k) (λ m' w. levels-swap k m' w) k v) t j) (levels-swap k m v t j)

    in-swap : (k : ℕ) (v : Value) (t : Term) → InTerm p k v (replaced σ t) d i ≡ InTerm p k v t d I
    in-swap k v t = read-swap (layer p (levels_below p k) k v) (layer-swap (levels_below p k) (λ m w. levels-swap k m w) k v) t

    -- to replace a term's variables by terms is to read it under their instance
    pub in-replaced : (k : ℕ) (v : Value) (t : Term) → VariablesBelow (length terms) t → InTerm p k v (replaced_by terms t) d i ↔ InTerm p k v t d (instance_of terms d i)
    in-replaced k v t h = equal-iff (ap (λ u. InTerm p k v u d i) (replaced_by-given terms t h) ∙ in-swap k v t)
