-- The order of values: integers, then atoms, funs, tuples, maps, the empty list, and cells (after the Erlang Reference Manual, "Term Comparisons", without floats, pids, ports, references and binaries; that a named fun comes before a closure, and how two closures are compared, is this project's own). `==` and `=:=` are the same here, since there are no floats.
use Rattle.std.specs.Prelude.{ℕ, zero, suc, ℤ, Bool, true, false, nat_lt, length}
use Rattle.type_terms.specs.declared.term.Key.{Key}
use Rattle.type_terms.specs.Keys.{Name, Bound, less_int, name_lt, key_lt}
use Rattle.erl_runs.specs.Value.{Value, integer, atom, nil, cons, tuple, map_of, named_fun, closure, Values, value_and, items_of, Row, no_entries, entry_and}

-- how two things compare
pub data Order : Type 0 where
  less equal greater : Order

-- how the right compares with the left, where the left compares so with the right
abbrev pub turned : Order → Order
turned less = greater
turned equal = equal
turned greater = less

-- as the first comparison decides, and where it doesn't, as the second
abbrev pub by_first : Order → Order → Order
by_first less second = less
by_first equal second = second
by_first greater second = greater

-- by whether the left comes before the right, and the right before the left
abbrev pub by_tests : Bool → Bool → Order
by_tests true after = less
by_tests false true = greater
by_tests false false = equal

abbrev pub compare_numbers : ℕ → ℕ → Order
compare_numbers m n = by_tests (nat_lt m n) (nat_lt n m)

abbrev pub compare_integers : ℤ → ℤ → Order
compare_integers m n = by_tests (less_int m n) (less_int n m)

-- by their characters
abbrev pub compare_names : Name → Name → Order
compare_names a b = by_tests (name_lt a b) (name_lt b a)

abbrev pub compare_keys : Key → Key → Order
compare_keys j k = by_tests (key_lt j k) (key_lt k j)

-- the place of a value's kind among the kinds
abbrev pub rank : Value → ℕ
rank (integer n) = 0
rank (atom a) = 1
rank (named_fun name arity) = 2
rank (closure code environment) = 2
rank (tuple vs) = 3
rank (map_of row) = 4
rank nil = 5
rank (cons head tail) = 6

-- the number of entries of a map
abbrev pub size : {b : Bound} → Row b → ℕ
size no_entries = zero
size (entry_and k e v more) = suc (size more)

-- the keys of two maps of one size, in ascending order
abbrev pub compare_row_keys : {b c : Bound} → Row b → Row c → Order
compare_row_keys (entry_and j d v es) (entry_and k e w fs) = by_first (compare_keys j k) (compare_row_keys es fs)
compare_row_keys _ _ = equal

-- two maps by their sizes, and then their keys
abbrev pub compare_shapes : {b c : Bound} → Row b → Row c → Order
compare_shapes d e = by_first (compare_numbers (size d) (size e)) (compare_row_keys d e)

abbrev mutual
  -- two values. Maps and environments compare by their sizes, then their keys, then their values in the order of the keys
  pub compare : Value → Value → Order
  compare (integer m) (integer n) = compare_integers m n
  compare (atom a) (atom b) = compare_names a b
  compare (named_fun f m) (named_fun g n) = by_first (compare_names f g) (compare_numbers m n)
  compare (named_fun f m) (closure n environment) = less
  compare (closure m environment) (named_fun g n) = greater
  compare (closure m d) (closure n e) = by_first (compare_numbers m n) (by_first (compare_shapes d e) (compare_row_values d e))
  compare (tuple vs) (tuple ws) = by_first (compare_numbers (length (items_of vs)) (length (items_of ws))) (compare_each vs ws)
  compare (map_of d) (map_of e) = by_first (compare_shapes d e) (compare_row_values d e)
  compare (cons a s) (cons b t) = by_first (compare a b) (compare s t)
  compare v w = compare_numbers (rank v) (rank w)

  -- the elements of two tuples of one size
  pub compare_each : Values → Values → Order
  compare_each (value_and v vs) (value_and w ws) = by_first (compare v w) (compare_each vs ws)
  compare_each _ _ = equal

  -- the values of two maps of one size, in the order of the keys
  pub compare_row_values : {b c : Bound} → Row b → Row c → Order
  compare_row_values (entry_and j d v es) (entry_and k e w fs) = by_first (compare v w) (compare_row_values es fs)
  compare_row_values _ _ = equal

abbrev pub is_equal : Order → Bool
is_equal equal = true
is_equal _ = false

abbrev pub is_less : Order → Bool
is_less less = true
is_less _ = false

-- whether two values are the same
abbrev pub same_value : Value → Value → Bool
same_value v w = is_equal (compare v w)
