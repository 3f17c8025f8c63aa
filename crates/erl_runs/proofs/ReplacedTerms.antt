-- A term with its variables replaced is read as the term itself is under an instance that holds what they are replaced by: of one layer.
use Rattle.std.proofs.Common.{◌≡◌, refl, sym, ◌∙◌, ap, ℕ, zero, suc, List, [], ◌∷◌, length, map, Bool, true, false}
use Rattle.std.specs.Prelude.{Option, Some, None as Nothing, nat_eq, cond, slice_get}
use Rattle.std.specs.Option.{option_map}
use Rattle.type_terms.specs.declared.term.Def.{Def}
use Rattle.type_terms.specs.declared.term.Key.{Key}
use Rattle.type_terms.specs.declared.term.Key.TheVariants.{Int as IntKey, Atom as AtomKey}
use Rattle.type_terms.specs.declared.term.Term.{Term, Any, None, Ints, AtomLit, AnyAtom, Nil, Cons', Tuple', AnyTuple, Map', Fun', AnyFun, Or', And', Not', Var, Name', Row_of-Term, end_of-Term, more_of-Term, Row_of-Field, end_of-Field, more_of-Field, Held-Term-Map-1, Term-Map-1-None', Some'}
use Rattle.type_terms.specs.Instances.{Instance}
use Rattle.type_terms.specs.Keys.{same_key}
use Rattle.type_terms.specs.Reading.{Reading, Layer, integer_layer, atom_layer, nil_layer, cons_layer, tuple_layer, map_layer, fun_layer, is_cons, each_in, is_tuple, is_fun, field_of, rest_term, rest_of, or_else, if_some, entries_in, has_key, has_required, is_map, holds, some_holds, all_hold}
use Rattle.type_terms.specs.Replacement.{Substitution, replaced, replaced_row, replaced_fields, replaced_rest, argument_of, terms_of}
use Rattle.type_terms.specs.Unfolding.{NameUnfolding, unfolded_in, unfolded_row, body_of, or_none, name_unfolded}
use Rattle.type_terms.proofs.ReplacementLaws.{replaced-replaced, replaced_row-replaced, replaced_fields-replaced, replaced_rest-replaced}
use Rattle.type_terms.proofs.SignLaws.{argument-mapped}

terms_of-replaced : {m : _} (f : Substitution) (ts : Row_of-Term m) → terms_of (replaced_row f ts) ≡ map (replaced f) (terms_of ts)
terms_of-replaced f end_of-Term = refl
terms_of-replaced f (more_of-Term t ts) = ap (λ us. replaced f t ∷ us) (terms_of-replaced f ts)

length-replaced : (f : Substitution) (ts : List Term) → length (map (replaced f) ts) ≡ length ts
length-replaced f [] = refl
length-replaced f (t ∷ ts) = ap suc (length-replaced f ts)

-- ---- the term for a key of a map

cond-replaced : (f : Substitution) (b : Bool) (t : Term) (o q : Option Term) → o ≡ option_map (replaced f) q → cond b (Some (replaced f t)) o ≡ option_map (replaced f) (cond b (Some t) q)
cond-replaced f true t o q e = refl
cond-replaced f false t o q e = e

field_of-replaced : {m : _} (f : Substitution) (k : Key) (fs : Row_of-Field m) → field_of k (replaced_fields f fs) ≡ option_map (replaced f) (field_of k fs)
field_of-replaced f k end_of-Field = refl
field_of-replaced f k (more_of-Field c r t fs) = cond-replaced f (same_key k c) t _ _ (field_of-replaced f k fs)

rest_term-replaced : (f : Substitution) (r : Held-Term-Map-1) → rest_term (replaced_rest f r) ≡ option_map (replaced f) (rest_term r)
rest_term-replaced f Term-Map-1-None' = refl
rest_term-replaced f (Some' s (more_of-Term t end_of-Term)) = refl

rest_of-replaced : (f : Substitution) (k : Key) (r q : Option Term) → rest_of k (option_map (replaced f) r) (option_map (replaced f) q) ≡ option_map (replaced f) (rest_of k r q)
rest_of-replaced f (IntKey n) r q = refl
rest_of-replaced f (AtomKey a) r q = refl

or_else-replaced : (f : Substitution) (o q : Option Term) → or_else (option_map (replaced f) o) (option_map (replaced f) q) ≡ option_map (replaced f) (or_else o q)
or_else-replaced f Nothing q = refl
or_else-replaced f (Some t) q = refl

term_for-replaced : {m : _} (f : Substitution) (k : Key) (fs : Row_of-Field m) (r q : Option Term) → or_else (field_of k (replaced_fields f fs)) (rest_of k (option_map (replaced f) r) (option_map (replaced f) q)) ≡ option_map (replaced f) (or_else (field_of k fs) (rest_of k r q))
term_for-replaced f k fs r q = (λ j. or_else (field_of-replaced f k fs j) (rest_of-replaced f k r q j)) ∙ or_else-replaced f (field_of k fs) (rest_of k r q)

required-replaced : {m : _} (f : Substitution) (fs : Row_of-Field m) (es : List {1} (Key × Reading)) → has_required (replaced_fields f fs) es ≡ has_required fs es
required-replaced f end_of-Field es = refl
required-replaced f (more_of-Field c r t fs) es = λ j. (r ≡ true → has_key c es ≡ true) × required-replaced f fs es j

-- ---- a layer

-- variables replaced by σ and read under i, against the instance I
module _ (σ : Substitution) (d : List Def) (i I : Instance) where
  -- a reading says the same of both
  abbrev pub Swaps : Reading → Type 1
  Swaps r = (t : Term) → r (replaced σ t) d i ≡ r t d I

  abbrev pub all_swap : List {1} Reading → Type 1
  all_swap [] = Unit {1}
  all_swap (r ∷ rs) = Swaps r × all_swap rs

  abbrev pub entries_swap : List {1} (Key × Reading) → Type 1
  entries_swap [] = Unit {1}
  entries_swap (e ∷ es) = Swaps e.1 × entries_swap es

  abbrev pub LayerSwaps : Layer → Type 1
  LayerSwaps (cons_layer a b) = Swaps a × Swaps b
  LayerSwaps (tuple_layer rs) = all_swap rs
  LayerSwaps (map_layer es) = entries_swap es
  LayerSwaps (fun_layer n gives) = (ss : List Term) (t : Term) → gives (map (replaced σ) ss) (replaced σ t) d i ≡ gives ss t d I
  LayerSwaps _ = Unit {1}

  cons-swap : (s t : Term) (l : Layer) → LayerSwaps l → is_cons (λ r. r (replaced σ s) d i) (λ r. r (replaced σ t) d i) l ≡ is_cons (λ r. r s d I) (λ r. r t d I) l
  cons-swap s t (cons_layer a b) h = λ j. h.0 s j × h.1 t j
  cons-swap s t (integer_layer n) h = refl
  cons-swap s t (atom_layer n) h = refl
  cons-swap s t nil_layer h = refl
  cons-swap s t (tuple_layer n) h = refl
  cons-swap s t (map_layer n) h = refl
  cons-swap s t (fun_layer n f) h = refl

  each-swap : (ts : List Term) (rs : List {1} Reading) → all_swap rs → each_in rs (map (replaced σ) ts) d i ≡ each_in rs ts d I
  each-swap [] [] h = refl
  each-swap (t ∷ ts) [] h = refl
  each-swap [] (r ∷ rs) h = refl
  each-swap (t ∷ ts) (r ∷ rs) h = λ j. h.0 t j × each-swap ts rs h.1 j

  tuple-swap : (ts : List Term) (l : Layer) → LayerSwaps l → is_tuple (map (replaced σ) ts) d i l ≡ is_tuple ts d I l
  tuple-swap ts (tuple_layer rs) h = each-swap ts rs h
  tuple-swap ts (cons_layer a b) h = refl
  tuple-swap ts (integer_layer n) h = refl
  tuple-swap ts (atom_layer n) h = refl
  tuple-swap ts nil_layer h = refl
  tuple-swap ts (map_layer n) h = refl
  tuple-swap ts (fun_layer n f) h = refl

  fun-swap : (ss : List Term) (t : Term) (l : Layer) → LayerSwaps l → is_fun (map (replaced σ) ss) (replaced σ t) d i l ≡ is_fun ss t d I l
  fun-swap ss t (fun_layer n f) h = λ j. (nat_eq n (length-replaced σ ss j) ≡ true) × h ss t j
  fun-swap ss t (cons_layer a b) h = refl
  fun-swap ss t (integer_layer n) h = refl
  fun-swap ss t (atom_layer n) h = refl
  fun-swap ss t nil_layer h = refl
  fun-swap ss t (map_layer n) h = refl
  fun-swap ss t (tuple_layer n) h = refl

  some-swap : (o : Option Term) (r : Reading) → Swaps r → if_some (option_map (replaced σ) o) (λ t. r t d i) ≡ if_some o (λ t. r t d I)
  some-swap Nothing r h = refl
  some-swap (Some t) r h = h t

  entries-swap : {m : _} (fs : Row_of-Field m) (r q : Option Term) (es : List {1} (Key × Reading)) → entries_swap es → entries_in (replaced_fields σ fs) (option_map (replaced σ) r) (option_map (replaced σ) q) d i es ≡ entries_in fs r q d I es
  entries-swap fs r q [] h = refl
  entries-swap fs r q (e ∷ es) h =
      let one : if_some (or_else (field_of e.0 (replaced_fields σ fs)) (rest_of e.0 (option_map (replaced σ) r) (option_map (replaced σ) q))) (λ t. e.1 t d i) ≡ if_some (or_else (field_of e.0 fs) (rest_of e.0 r q)) (λ t. e.1 t d I) =
      ap (λ z. if_some z (λ t. e.1 t d i)) (term_for-replaced σ e.0 fs r q) ∙ some-swap (or_else (field_of e.0 fs) (rest_of e.0 r q)) e.1 h.0 in
      λ j. one j × entries-swap fs r q es h.1 j

  map-swap : {m : _} (fs : Row_of-Field m) (r q : Held-Term-Map-1) (l : Layer) → LayerSwaps l → is_map (replaced_fields σ fs) (replaced_rest σ r) (replaced_rest σ q) d i l ≡ is_map fs r q d I l
  map-swap fs r q (map_layer es) h =
      (λ j. entries_in (replaced_fields σ fs) (rest_term-replaced σ r j) (rest_term-replaced σ q j) d i es × has_required (replaced_fields σ fs) es)
      ∙ (λ j. entries-swap fs (rest_term r) (rest_term q) es h j × required-replaced σ fs es j)
  map-swap fs r q (cons_layer a b) h = refl
  map-swap fs r q (integer_layer n) h = refl
  map-swap fs r q (atom_layer n) h = refl
  map-swap fs r q nil_layer h = refl
  map-swap fs r q (tuple_layer n) h = refl
  map-swap fs r q (fun_layer n f) h = refl

  -- ---- a term's unfolding, read of a layer

  module _ (l : Layer) (swaps : LayerSwaps l) (V W : ℕ → Type 0) where
    abbrev Left : Term → Type 0
    Left t = holds l d i V t

    abbrev Right : Term → Type 0
    Right t = holds l d I W t

    abbrev pub NamesSwap : NameUnfolding → Type 1
    NamesSwap e = (n : ℕ) (ps qs hs ks : List Term) → ps ≡ map (replaced σ) qs → ((j : ℕ) → Left (argument_of hs j) ≡ Right (argument_of ks j)) → Left (e n ps hs) ≡ Right (e n qs ks)

    rows : {m : _} (f : Substitution) (ts : Row_of-Term m) → terms_of (replaced_row (λ n. replaced σ (f n)) ts) ≡ map (replaced σ) (terms_of (replaced_row f ts))
    rows f ts = ap terms_of (sym (replaced_row-replaced σ f ts)) ∙ terms_of-replaced σ (replaced_row f ts)

    module _ (e : NameUnfolding) (names : NamesSwap e) (f h k : Substitution) (variables : (n : ℕ) → Left (h n) ≡ Right (k n)) where
      mutual
        pub unfolded-swap : (t : Term) → Left (unfolded_in e (λ n. replaced σ (f n)) h t) ≡ Right (unfolded_in e f k t)
        unfolded-swap Any = refl
        unfolded-swap None = refl
        unfolded-swap (Ints x y) = refl
        unfolded-swap (AtomLit x) = refl
        unfolded-swap AnyAtom = refl
        unfolded-swap Nil = refl
        unfolded-swap (Cons' s (more_of-Term x end_of-Term) t (more_of-Term y end_of-Term)) =
            (λ j. is_cons (λ r. r (sym (replaced-replaced σ f x) j) d i) (λ r. r (sym (replaced-replaced σ f y) j) d i) l) ∙ cons-swap (replaced f x) (replaced f y) l swaps
        unfolded-swap (Tuple' s ts) = ap (λ us. is_tuple us d i l) (rows f ts) ∙ tuple-swap (terms_of (replaced_row f ts)) l swaps
        unfolded-swap AnyTuple = refl
        unfolded-swap (Map' s fs r q) =
            (λ j. is_map (sym (replaced_fields-replaced σ f fs) j) (sym (replaced_rest-replaced σ f r) j) (sym (replaced_rest-replaced σ f q) j) d i l)
            ∙ map-swap (replaced_fields f fs) (replaced_rest f r) (replaced_rest f q) l swaps
        unfolded-swap (Fun' s ts t (more_of-Term x end_of-Term)) =
            (λ j. is_fun (rows f ts j) (sym (replaced-replaced σ f x) j) d i l) ∙ fun-swap (terms_of (replaced_row f ts)) (replaced f x) l swaps
        unfolded-swap (AnyFun n) = refl
        unfolded-swap (Or' s ts) = some-row ts
        unfolded-swap (And' s ts) = all-row ts
        unfolded-swap (Not' s (more_of-Term t end_of-Term)) = λ j. unfolded-swap t j → ⊥
        unfolded-swap (Var n) = variables n
        unfolded-swap (Name' n s ts) = names n _ _ _ _ (rows f ts) (argument-row ts)

        some-row : {m : _} (ts : Row_of-Term m) → some_holds l d i V (unfolded_row e (λ n. replaced σ (f n)) h ts) ≡ some_holds l d I W (unfolded_row e f k ts)
        some-row end_of-Term = refl
        some-row (more_of-Term t ts) = λ j. (unfolded-swap t j → ⊥) × (some-row ts j → ⊥) → ⊥

        all-row : {m : _} (ts : Row_of-Term m) → all_hold l d i V (unfolded_row e (λ n. replaced σ (f n)) h ts) ≡ all_hold l d I W (unfolded_row e f k ts)
        all-row end_of-Term = refl
        all-row (more_of-Term t ts) = λ j. unfolded-swap t j × all-row ts j

        argument-row : {m : _} (ts : Row_of-Term m) (j : ℕ) → Left (argument_of (terms_of (unfolded_row e (λ n. replaced σ (f n)) h ts)) j) ≡ Right (argument_of (terms_of (unfolded_row e f k ts)) j)
        argument-row end_of-Term j = refl
        argument-row (more_of-Term t ts) zero = unfolded-swap t
        argument-row (more_of-Term t ts) (suc j) = argument-row ts j

    pub names-swap : (k : ℕ) → NamesSwap (name_unfolded d k)
    names-swap zero n ps qs hs ks e b = refl
    names-swap (suc k) n ps qs hs ks e b = named (names-swap k) (body_of (slice_get d n) (length ps)) (body_of (slice_get d n) (length qs)) (ap (body_of (slice_get d n)) (ap length e ∙ length-replaced σ qs))
      where
        opened : NamesSwap (name_unfolded d k) → (o : Option Term) → Left (or_none o (unfolded_in (name_unfolded d k) (argument_of ps) (argument_of hs))) ≡ Right (or_none o (unfolded_in (name_unfolded d k) (argument_of qs) (argument_of ks)))
        opened below Nothing = refl
        opened below (Some t) =
            ap Left (λ j. unfolded_in (name_unfolded d k) (λ m. (ap (λ us. argument_of us m) e ∙ argument-mapped σ qs m) j) (argument_of hs) t)
            ∙ unfolded-swap (name_unfolded d k) below (argument_of qs) (argument_of hs) (argument_of ks) b t

        named : NamesSwap (name_unfolded d k) → (o u : Option Term) → o ≡ u → Left (or_none o (unfolded_in (name_unfolded d k) (argument_of ps) (argument_of hs))) ≡ Right (or_none u (unfolded_in (name_unfolded d k) (argument_of qs) (argument_of ks)))
        named below o u q = ap (λ z. Left (or_none z (unfolded_in (name_unfolded d k) (argument_of ps) (argument_of hs)))) q ∙ opened below u
