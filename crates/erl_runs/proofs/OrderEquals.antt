-- Values that compare equal are the same.
use Rattle.std.proofs.Common.{◌≡◌, refl, ap, sym, subst, length, true}
use Rattle.std.proofs.Math.Nat.{suc_inj}
use mathlib.Core.Bool.{Bool-set}
use Rattle.type_terms.specs.declared.term.Key.{Key}
use Rattle.type_terms.specs.declared.term.Key.TheVariants.{Atom as AtomKey}
use Rattle.type_terms.specs.Keys.{Bound, after, above}
use Rattle.erl_runs.specs.Value.{Value, integer, atom, nil, cons, tuple, map_of, named_fun, closure, Values, no_values, value_and, items_of, Row, no_entries, entry_and}
use Rattle.erl_runs.specs.Order.{equal, by_first, compare_numbers, compare_keys, size, compare_row_keys, compare_shapes, compare, compare_each, compare_row_values}
use Rattle.erl_runs.proofs.Orders.{not-equal, first-equal, second-equal, keys-equal, numbers-equal, integers-equal, names-equal, no-size, shapes-size}

-- ---- values that compare equal are the same

-- entries with one key and one value, whose rests are the same where they compare equal
entries-equal : (b : Bound) (j i : Key) (p : above b j ≡ true) (q : above b i ≡ true) (v w : Value) (es : Row (after j)) (fs : Row (after i)) → j ≡ i → v ≡ w →
    ((gs : Row (after j)) → size es ≡ size gs → compare_row_keys es gs ≡ equal → compare_row_values es gs ≡ equal → es ≡ gs) →
    size es ≡ size fs → compare_row_keys es fs ≡ equal → compare_row_values es fs ≡ equal → entry_and {b = b} j p v es ≡ entry_and {b = b} i q w fs
entries-equal b j i p q v w es fs ji vw h =
    subst (λ z. (r : above b z ≡ true) (gs : Row (after z)) → size es ≡ size gs → compare_row_keys es gs ≡ equal → compare_row_values es gs ≡ equal → entry_and {b = b} j p v es ≡ entry_and {b = b} z r w gs) ji
    (λ r gs n k e. λ x. entry_and j (Bool-set _ _ p r x) (vw x) (h gs n k e x)) q fs

mutual
  pub value-equal : (v w : Value) → compare v w ≡ equal → v ≡ w
  value-equal (integer m) (integer n) e = ap (λ x. integer x) (integers-equal m n e)
  value-equal (atom a) (atom b) e = ap (λ x. atom x) (names-equal a b e)
  value-equal nil nil e = refl
  value-equal (cons a s) (cons b t) e = λ j. cons (value-equal a b (first-equal _ _ e) j) (value-equal s t (second-equal (compare a b) _ e) j)
  value-equal (tuple vs) (tuple ws) e = ap (λ x. tuple x) (each-equal vs ws (numbers-equal _ _ (first-equal _ _ e)) (second-equal (compare_numbers (length (items_of vs)) (length (items_of ws))) _ e))
  value-equal (map_of d) (map_of f) e =
      let h : compare_shapes d f ≡ equal = first-equal _ _ e in
      ap (λ x. map_of x) (row-equal d f (shapes-size d f h) (second-equal (compare_numbers (size d) (size f)) _ h) (second-equal (compare_shapes d f) _ e))
  value-equal (named_fun f m) (named_fun g n) e = λ j. named_fun (names-equal f g (first-equal _ _ e) j) (numbers-equal m n (second-equal (compare_keys (AtomKey f) (AtomKey g)) _ e) j)
  value-equal (closure m d) (closure n f) e =
      let k : by_first (compare_shapes d f) (compare_row_values d f) ≡ equal = second-equal (compare_numbers m n) _ e in
      let h : compare_shapes d f ≡ equal = first-equal _ _ k in
      λ j. closure (numbers-equal m n (first-equal _ _ e) j) (row-equal d f (shapes-size d f h) (second-equal (compare_numbers (size d) (size f)) _ h) (second-equal (compare_shapes d f) _ k) j)
  value-equal _ _ e = absurd (not-equal _ refl e)

  each-equal : (vs ws : Values) → length (items_of vs) ≡ length (items_of ws) → compare_each vs ws ≡ equal → vs ≡ ws
  each-equal no_values no_values n e = refl
  each-equal no_values (value_and w ws) n e = absurd (no-size (sym n))
  each-equal (value_and v vs) no_values n e = absurd (no-size n)
  each-equal (value_and v vs) (value_and w ws) n e = λ j. value_and (value-equal v w (first-equal _ _ e) j) (each-equal vs ws (suc_inj n) (second-equal (compare v w) _ e) j)

  row-equal : {b : Bound} (d f : Row b) → size d ≡ size f → compare_row_keys d f ≡ equal → compare_row_values d f ≡ equal → d ≡ f
  row-equal no_entries no_entries n k e = refl
  row-equal no_entries (entry_and j p w fs) n k e = absurd (no-size (sym n))
  row-equal (entry_and j p v es) no_entries n k e = absurd (no-size n)
  row-equal {b = b} (entry_and j p v es) (entry_and i q w fs) n k e =
      entries-equal b j i p q v w es fs (keys-equal j i (first-equal _ _ k)) (value-equal v w (first-equal _ _ e))
      (λ gs. row-equal es gs) (suc_inj n) (second-equal (compare_keys j i) _ k) (second-equal (compare v w) _ e)
