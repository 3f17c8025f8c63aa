-- What is less than a lesser value is less.
use Rattle.std.proofs.Common.{◌≡◌, refl, sym, subst, length}
use Rattle.std.proofs.Math.Nat.{suc_inj}
use Rattle.type_terms.specs.declared.term.Key.TheVariants.{Int as IntKey, Atom as AtomKey}
use Rattle.type_terms.specs.Keys.{Bound}
use Rattle.erl_runs.specs.Value.{Value, integer, atom, nil, cons, tuple, map_of, named_fun, closure, Values, no_values, value_and, items_of, Row, no_entries, entry_and}
use Rattle.erl_runs.specs.Order.{Order, less, equal, greater, by_first, compare_numbers, compare_keys, rank, size, compare_shapes, compare, compare_each, compare_row_values}
use Rattle.erl_runs.proofs.Orders.{not-equal, Chain, chain-less, chain-first, keys-chain, number_key, numbers-equal, no-size, shapes-size, shapes-chain}

-- ---- what is less than a lesser value is less

ranked : (v w : Value) → compare v w ≡ by_first (compare_numbers (rank v) (rank w)) (compare v w)
ranked (integer m) (integer n) = refl
ranked (atom a) (atom b) = refl
ranked (cons a s) (cons b t) = refl
ranked (tuple vs) (tuple ws) = refl
ranked (map_of d) (map_of e) = refl
ranked (named_fun f m) (named_fun g n) = refl
ranked (closure m d) (closure n e) = refl
ranked nil nil = refl
ranked _ _ = refl

-- values chain where those of one kind do
kinds-chain : (u v w : Value) → (compare_numbers (rank u) (rank v) ≡ equal → compare_numbers (rank v) (rank w) ≡ equal → Chain (compare u v) (compare v w) (compare u w)) → Chain (compare u v) (compare v w) (compare u w)
kinds-chain u v w h =
    subst (λ X. X) (λ j. Chain (sym (ranked u v) j) (sym (ranked v w) j) (sym (ranked u w) j))
    (chain-first (compare_numbers (rank u) (rank v)) (compare_numbers (rank v) (rank w)) (compare_numbers (rank u) (rank w)) (compare u v) (compare v w) (compare u w) (keys-chain (number_key (rank u)) (number_key (rank v)) (number_key (rank w))) h)

less-later : (o : Order) → Chain o less less
less-later less = refl
less-later equal = refl
less-later greater = tt

less-sooner : (o : Order) → Chain less o less
less-sooner less = refl
less-sooner equal = refl
less-sooner greater = tt

greater-later : (o : Order) → Chain o greater greater
greater-later less = tt
greater-later equal = tt
greater-later greater = tt

mutual
  kind-chain : (u v w : Value) → compare_numbers (rank u) (rank v) ≡ equal → compare_numbers (rank v) (rank w) ≡ equal → Chain (compare u v) (compare v w) (compare u w)
  kind-chain (integer l) (integer m) (integer n) p q = keys-chain (IntKey l) (IntKey m) (IntKey n)
  kind-chain (integer l) (integer m) _ p q = absurd (not-equal _ refl q)
  kind-chain (integer l) _ w p q = absurd (not-equal _ refl p)
  kind-chain (atom a) (atom b) (atom c) p q = keys-chain (AtomKey a) (AtomKey b) (AtomKey c)
  kind-chain (atom a) (atom b) _ p q = absurd (not-equal _ refl q)
  kind-chain (atom a) _ w p q = absurd (not-equal _ refl p)
  kind-chain nil nil nil p q = refl
  kind-chain nil nil _ p q = absurd (not-equal _ refl q)
  kind-chain nil _ w p q = absurd (not-equal _ refl p)
  kind-chain (cons a r) (cons b s) (cons c t) p q = chain-first (compare a b) (compare b c) (compare a c) (compare r s) (compare s t) (compare r t) (kinds-chain a b c (kind-chain a b c)) (λ x y. kinds-chain r s t (kind-chain r s t))
  kind-chain (cons a r) (cons b s) _ p q = absurd (not-equal _ refl q)
  kind-chain (cons a r) _ w p q = absurd (not-equal _ refl p)
  kind-chain (tuple us) (tuple vs) (tuple ws) p q =
      chain-first (compare_numbers (length (items_of us)) (length (items_of vs))) (compare_numbers (length (items_of vs)) (length (items_of ws))) (compare_numbers (length (items_of us)) (length (items_of ws))) _ _ _
      (keys-chain (number_key (length (items_of us))) (number_key (length (items_of vs))) (number_key (length (items_of ws)))) (λ x y. each-chain us vs ws (numbers-equal _ _ x) (numbers-equal _ _ y))
  kind-chain (tuple us) (tuple vs) _ p q = absurd (not-equal _ refl q)
  kind-chain (tuple us) _ w p q = absurd (not-equal _ refl p)
  kind-chain (map_of d) (map_of e) (map_of f) p q = chain-first (compare_shapes d e) (compare_shapes e f) (compare_shapes d f) _ _ _ (shapes-chain d e f) (λ x y. row-chain d e f (shapes-size d e x) (shapes-size e f y))
  kind-chain (map_of d) (map_of e) _ p q = absurd (not-equal _ refl q)
  kind-chain (map_of d) _ w p q = absurd (not-equal _ refl p)
  kind-chain (named_fun f l) (named_fun g m) (named_fun h n) p q =
      chain-first (compare_keys (AtomKey f) (AtomKey g)) (compare_keys (AtomKey g) (AtomKey h)) (compare_keys (AtomKey f) (AtomKey h)) _ _ _ (keys-chain (AtomKey f) (AtomKey g) (AtomKey h)) (λ x y. keys-chain (number_key l) (number_key m) (number_key n))
  kind-chain (named_fun f l) (named_fun g m) (closure n d) p q = less-later (compare (named_fun f l) (named_fun g m))
  kind-chain (named_fun f l) (closure m d) (named_fun h n) p q = tt
  kind-chain (named_fun f l) (closure m d) (closure n e) p q = less-sooner (compare (closure m d) (closure n e))
  kind-chain (named_fun f l) (named_fun g m) _ p q = absurd (not-equal _ refl q)
  kind-chain (named_fun f l) (closure m d) _ p q = absurd (not-equal _ refl q)
  kind-chain (named_fun f l) _ w p q = absurd (not-equal _ refl p)
  kind-chain (closure l d) (closure m e) (closure n f) p q =
      chain-first (compare_numbers l m) (compare_numbers m n) (compare_numbers l n) _ _ _ (keys-chain (number_key l) (number_key m) (number_key n))
      (λ x y. chain-first (compare_shapes d e) (compare_shapes e f) (compare_shapes d f) _ _ _ (shapes-chain d e f) (λ s t. row-chain d e f (shapes-size d e s) (shapes-size e f t)))
  kind-chain (closure l d) (closure m e) (named_fun h n) p q = greater-later (compare (closure l d) (closure m e))
  kind-chain (closure l d) (named_fun g m) w p q = tt
  kind-chain (closure l d) (closure m e) _ p q = absurd (not-equal _ refl q)
  kind-chain (closure l d) _ w p q = absurd (not-equal _ refl p)

  each-chain : (us vs ws : Values) → length (items_of us) ≡ length (items_of vs) → length (items_of vs) ≡ length (items_of ws) → Chain (compare_each us vs) (compare_each vs ws) (compare_each us ws)
  each-chain no_values no_values no_values p q = refl
  each-chain no_values no_values (value_and w ws) p q = absurd (no-size (sym q))
  each-chain no_values (value_and v vs) ws p q = absurd (no-size (sym p))
  each-chain (value_and u us) no_values ws p q = absurd (no-size p)
  each-chain (value_and u us) (value_and v vs) no_values p q = absurd (no-size q)
  each-chain (value_and u us) (value_and v vs) (value_and w ws) p q = chain-first (compare u v) (compare v w) (compare u w) _ _ _ (kinds-chain u v w (kind-chain u v w)) (λ x y. each-chain us vs ws (suc_inj p) (suc_inj q))

  row-chain : {a b c : Bound} (d : Row a) (e : Row b) (f : Row c) → size d ≡ size e → size e ≡ size f → Chain (compare_row_values d e) (compare_row_values e f) (compare_row_values d f)
  row-chain no_entries no_entries no_entries p q = refl
  row-chain no_entries no_entries (entry_and k t w fs) p q = absurd (no-size (sym q))
  row-chain no_entries (entry_and k t w fs) f p q = absurd (no-size (sym p))
  row-chain (entry_and i r u ds) no_entries f p q = absurd (no-size p)
  row-chain (entry_and i r u ds) (entry_and j s v es) no_entries p q = absurd (no-size q)
  row-chain (entry_and i r u ds) (entry_and j s v es) (entry_and k t w fs) p q = chain-first (compare u v) (compare v w) (compare u w) _ _ _ (kinds-chain u v w (kind-chain u v w)) (λ x y. row-chain ds es fs (suc_inj p) (suc_inj q))

pub value-less : (u v w : Value) → compare u v ≡ less → compare v w ≡ less → compare u w ≡ less
value-less u v w = chain-less (compare u v) (compare v w) (compare u w) (kinds-chain u v w (kind-chain u v w))
