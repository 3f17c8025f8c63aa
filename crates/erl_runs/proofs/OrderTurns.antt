-- A value compares equal to itself, and comparisons turn round.
use Rattle.std.proofs.Common.{◌≡◌, refl, length}
use Rattle.type_terms.specs.declared.term.Key.TheVariants.{Int as IntKey, Atom as AtomKey}
use Rattle.type_terms.specs.Keys.{Bound}
use Rattle.erl_runs.specs.Value.{Value, integer, atom, nil, cons, tuple, map_of, named_fun, closure, Values, no_values, value_and, items_of, Row, no_entries, entry_and}
use Rattle.erl_runs.specs.Order.{equal, by_first, compare_numbers, compare_keys, compare_shapes, compare, compare_each, compare_row_values, turned}
use Rattle.erl_runs.proofs.Orders.{both-equal, turn-first, keys-refl, keys-turn, number_key, shapes-same, shapes-turn}

-- ---- a value compares equal to itself

mutual
  pub value-same : (v : Value) → compare v v ≡ equal
  value-same (integer n) = keys-refl (IntKey n)
  value-same (atom a) = keys-refl (AtomKey a)
  value-same nil = refl
  value-same (cons head tail) = both-equal _ _ (value-same head) (value-same tail)
  value-same (tuple vs) = both-equal _ _ (keys-refl (number_key (length (items_of vs)))) (each-same vs)
  value-same (map_of d) = both-equal _ _ (shapes-same d) (row-same d)
  value-same (named_fun f n) = both-equal _ _ (keys-refl (AtomKey f)) (keys-refl (number_key n))
  value-same (closure n d) = both-equal _ _ (keys-refl (number_key n)) (both-equal _ _ (shapes-same d) (row-same d))

  each-same : (vs : Values) → compare_each vs vs ≡ equal
  each-same no_values = refl
  each-same (value_and v vs) = both-equal _ _ (value-same v) (each-same vs)

  row-same : {b : Bound} (d : Row b) → compare_row_values d d ≡ equal
  row-same no_entries = refl
  row-same (entry_and k p v es) = both-equal _ _ (value-same v) (row-same es)

-- ---- comparisons turn round

mutual
  pub value-turn : (v w : Value) → compare w v ≡ turned (compare v w)
  value-turn (integer m) (integer n) = keys-turn (IntKey m) (IntKey n)
  value-turn (atom a) (atom b) = keys-turn (AtomKey a) (AtomKey b)
  value-turn (cons a s) (cons b t) = turn-first (compare a b) (compare s t) _ _ (value-turn a b) (value-turn s t)
  value-turn (tuple vs) (tuple ws) = turn-first (compare_numbers (length (items_of vs)) (length (items_of ws))) (compare_each vs ws) _ _ (keys-turn (number_key (length (items_of vs))) (number_key (length (items_of ws)))) (each-turn vs ws)
  value-turn (map_of d) (map_of e) = turn-first (compare_shapes d e) (compare_row_values d e) _ _ (shapes-turn d e) (row-turn d e)
  value-turn (named_fun f m) (named_fun g n) = turn-first (compare_keys (AtomKey f) (AtomKey g)) (compare_numbers m n) _ _ (keys-turn (AtomKey f) (AtomKey g)) (keys-turn (number_key m) (number_key n))
  value-turn (closure m d) (closure n e) = turn-first (compare_numbers m n) (by_first (compare_shapes d e) (compare_row_values d e)) _ _ (keys-turn (number_key m) (number_key n)) (turn-first (compare_shapes d e) (compare_row_values d e) _ _ (shapes-turn d e) (row-turn d e))
  value-turn nil nil = refl
  value-turn _ _ = refl

  each-turn : (vs ws : Values) → compare_each ws vs ≡ turned (compare_each vs ws)
  each-turn (value_and v vs) (value_and w ws) = turn-first (compare v w) (compare_each vs ws) _ _ (value-turn v w) (each-turn vs ws)
  each-turn no_values no_values = refl
  each-turn no_values (value_and w ws) = refl
  each-turn (value_and v vs) no_values = refl

  row-turn : {b c : Bound} (d : Row b) (e : Row c) → compare_row_values e d ≡ turned (compare_row_values d e)
  row-turn (entry_and j p v es) (entry_and k q w fs) = turn-first (compare v w) (compare_row_values es fs) _ _ (value-turn v w) (row-turn es fs)
  row-turn no_entries no_entries = refl
  row-turn no_entries (entry_and k q w fs) = refl
  row-turn (entry_and j p v es) no_entries = refl
