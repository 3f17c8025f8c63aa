-- Names, and the order of map keys: integers before atoms, integers by size, atoms letter by letter (Erlang Reference Manual, "Term Comparisons").
use Rattle.std.specs.Prelude.{ℕ, ℤ, pos, negsuc, List, [], ◌∷◌, Bool, true, false, ◌&&◌, nat_lt, nat_eq}
use Rattle.type_terms.specs.declared.term.Key.{Key}
use Rattle.type_terms.specs.declared.term.Key.TheVariants.{Int as IntKey, Atom as AtomKey}

-- the UTF-8 bytes of a name
abbrev pub Name : Type 0
Name = List ℕ

-- true where the first letters are less; where they are neither less nor greater, as the rest is
abbrev pub lexicographic : Bool → Bool → Bool → Bool
lexicographic true greater rest = true
lexicographic false true rest = false
lexicographic false false rest = rest

-- whether a name comes before another one: at the first place where they differ, and a beginning before what it begins. The order of UTF-8 bytes is the order of characters
abbrev pub name_lt : Name → Name → Bool
name_lt [] [] = false
name_lt [] (n ∷ ns) = true
name_lt (m ∷ ms) [] = false
name_lt (m ∷ ms) (n ∷ ns) = lexicographic (nat_lt m n) (nat_lt n m) (name_lt ms ns)

-- whether an integer is less than another one
abbrev pub less_int : ℤ → ℤ → Bool
less_int (pos m) (pos n) = nat_lt m n
less_int (pos m) (negsuc n) = false
less_int (negsuc m) (pos n) = true
less_int (negsuc m) (negsuc n) = nat_lt n m

-- whether a key comes before another one
abbrev pub key_lt : Key → Key → Bool
key_lt (IntKey m) (IntKey n) = less_int m n
key_lt (IntKey m) (AtomKey b) = true
key_lt (AtomKey a) (IntKey n) = false
key_lt (AtomKey a) (AtomKey b) = name_lt a b

-- whether two names are the same
abbrev pub same_name : Name → Name → Bool
same_name [] [] = true
same_name (m ∷ ms) (n ∷ ns) = nat_eq m n && same_name ms ns
same_name _ _ = false

-- whether two integers are the same
abbrev pub same_int : ℤ → ℤ → Bool
same_int (pos m) (pos n) = nat_eq m n
same_int (negsuc m) (negsuc n) = nat_eq m n
same_int _ _ = false

-- whether two keys are the same
abbrev pub same_key : Key → Key → Bool
same_key (IntKey m) (IntKey n) = same_int m n
same_key (AtomKey a) (AtomKey b) = same_name a b
same_key _ _ = false

-- what the keys of a row lie above: nothing, all integers, or a key
pub data Bound : Type 0 where
  any_key : Bound
  any_atom : Bound
  after : Key → Bound

-- whether a key lies above a bound
abbrev pub above : Bound → Key → Bool
above any_key k = true
above any_atom (IntKey n) = false
above any_atom (AtomKey a) = true
above (after j) k = key_lt j k

-- whether each key comes before the next
abbrev pub ascending : List Key → Bool
ascending [] = true
ascending (k ∷ []) = true
ascending (k ∷ j ∷ ks) = key_lt k j && ascending (j ∷ ks)
