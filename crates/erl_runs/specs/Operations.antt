-- What operators and built-in functions give for values (Erlang Reference Manual, "Expressions"; the module `erlang`). An operand outside its operator's domain goes wrong.
use Rattle.std.specs.Prelude.{ℕ, ℤ, pos, ◌+ℤ◌, ◌-ℤ◌, ◌*ℤ◌, neg_ℤ, int_div, int_rem, nat_abs, List, [], ◌∷◌, length, Option, Some, None, Bool, true, false, not, ◌&&◌, ◌||◌, if◌then◌else◌, nat_eq, is_some, refl, codes}
use Rattle.type_terms.specs.declared.term.Key.{Key}
use Rattle.type_terms.specs.declared.term.Key.TheVariants.{Int as IntKey, Atom as AtomKey}
use Rattle.type_terms.specs.Keys.{Name, any_key, same_name, same_int}
use Rattle.erl_tree.specs.declared.expr.UnaryOp.{UnaryOp}
use Rattle.erl_tree.specs.declared.expr.UnaryOp.TheVariants as U
use Rattle.erl_tree.specs.declared.expr.BinaryOp.{BinaryOp}
use Rattle.erl_tree.specs.declared.expr.BinaryOp.TheVariants as B
use Rattle.erl_runs.specs.FiniteMaps.{get, insert}
use Rattle.erl_runs.specs.Order.{compare, is_equal, is_less, size}
use Rattle.erl_runs.specs.Records.{list_with}
use Rattle.erl_runs.specs.Value.{Value, integer, atom, nil, cons, tuple, map_of, named_fun, closure, no_values, value_and, items_of, MapEntries, Class, error, exit, throw, Outcome, came, raised, wrong, going}

-- ---- booleans and lists

abbrev pub boolean : Bool → Value
boolean true = atom (codes "true")
boolean false = atom (codes "false")

-- the truth value that a name stands for
abbrev pub truth_of_name : Name → Option Bool
truth_of_name a = if same_name a (codes "true") then Some true else (if same_name a (codes "false") then Some false else None)

-- the truth value that a value is
abbrev pub truth_of : Value → Option Bool
truth_of (atom a) = truth_of_name a
truth_of _ = None

-- one element in front of others
abbrev pub and_element : Value → Option (List Value) → Option (List Value)
and_element v None = None
and_element v (Some vs) = Some (v ∷ vs)

-- the elements of a proper list: one that ends in the empty list
abbrev pub elements_of : Value → Option (List Value)
elements_of nil = Some []
elements_of (cons head tail) = and_element head (elements_of tail)
elements_of _ = None

-- ---- operators

abbrev pub integers_to : (ℤ → ℤ → Outcome Value) → Value → Value → Outcome Value
integers_to f (integer m) (integer n) = f m n
integers_to f _ _ = wrong

-- a quotient or a remainder; the divisor 0 raises
abbrev pub divided : (ℤ → ℤ → ℤ) → ℤ → ℤ → Outcome Value
divided f m n = if same_int n (pos 0) then raised error (atom (codes "badarith")) else came (integer (f m n))

abbrev pub truths_to : (Bool → Bool → Bool) → Option Bool → Option Bool → Outcome Value
truths_to f (Some a) (Some b) = came (boolean (f a b))
truths_to f _ _ = wrong

abbrev pub exclusive_or : Bool → Bool → Bool
exclusive_or true b = not b
exclusive_or false b = b

-- the elements of the left, in front of the right
abbrev pub appended : Option (List Value) → Value → Outcome Value
appended None w = wrong
appended (Some vs) w = came (list_with vs w)

-- an operator whose operands are both evaluated first. Quotients are cut toward zero, and a remainder has the sign of the dividend
abbrev pub operate : BinaryOp → Value → Value → Outcome Value
operate B.Add v w = integers_to (λ m n. came (integer (m +ℤ n))) v w
operate B.Sub v w = integers_to (λ m n. came (integer (m -ℤ n))) v w
operate B.Mul v w = integers_to (λ m n. came (integer (m *ℤ n))) v w
operate B.Div v w = integers_to (divided int_div) v w
operate B.Rem v w = integers_to (divided int_rem) v w
operate B.Eq v w = came (boolean (is_equal (compare v w)))
operate B.ExactEq v w = came (boolean (is_equal (compare v w)))
operate B.Ne v w = came (boolean (not (is_equal (compare v w))))
operate B.ExactNe v w = came (boolean (not (is_equal (compare v w))))
operate B.Lt v w = came (boolean (is_less (compare v w)))
operate B.Gt v w = came (boolean (is_less (compare w v)))
operate B.Le v w = came (boolean (not (is_less (compare w v))))
operate B.Ge v w = came (boolean (not (is_less (compare v w))))
operate B.And v w = truths_to (λ a b. a && b) (truth_of v) (truth_of w)
operate B.Or v w = truths_to (λ a b. a || b) (truth_of v) (truth_of w)
operate B.Xor v w = truths_to exclusive_or (truth_of v) (truth_of w)
operate B.Append v w = appended (elements_of v) w
operate B.Andalso v w = wrong
operate B.Orelse v w = wrong

abbrev pub negated : Option Bool → Outcome Value
negated None = wrong
negated (Some b) = came (boolean (not b))

-- an operator in front of its operand
abbrev pub operate_one : UnaryOp → Value → Outcome Value
operate_one U.Plus (integer n) = came (integer n)
operate_one U.Minus (integer n) = came (integer (neg_ℤ n))
operate_one U.Not v = negated (truth_of v)
operate_one _ _ = wrong

-- ---- built-in functions

-- the kinds of values that are asked for by name
abbrev pub is_atom : Value → Bool
is_atom (atom a) = true
is_atom _ = false

abbrev pub is_boolean : Value → Bool
is_boolean v = is_some (truth_of v)

abbrev pub is_integer : Value → Bool
is_integer (integer n) = true
is_integer _ = false

-- the empty list, and every cell
abbrev pub is_list : Value → Bool
is_list nil = true
is_list (cons head tail) = true
is_list _ = false

abbrev pub is_map : Value → Bool
is_map (map_of row) = true
is_map _ = false

abbrev pub is_tuple : Value → Bool
is_tuple (tuple vs) = true
is_tuple _ = false

abbrev pub is_function : Value → Bool
is_function (named_fun name arity) = true
is_function (closure code environment) = true
is_function _ = false

-- the functions of one argument that tell kinds of values apart
abbrev pub test_named : Name → Option (Value → Bool)
test_named name =
    if same_name name (codes "is_atom") then Some is_atom else
    if same_name name (codes "is_boolean") then Some is_boolean else
    if same_name name (codes "is_integer") then Some is_integer else
    if same_name name (codes "is_list") then Some is_list else
    if same_name name (codes "is_map") then Some is_map else
    if same_name name (codes "is_tuple") then Some is_tuple else
    if same_name name (codes "is_function") then Some is_function else None

abbrev pub head_of : Value → Outcome Value
head_of (cons head tail) = came head
head_of _ = wrong

abbrev pub tail_of : Value → Outcome Value
tail_of (cons head tail) = came tail
tail_of _ = wrong

abbrev pub count_of : Option (List Value) → Outcome Value
count_of None = wrong
count_of (Some vs) = came (integer (pos (length vs)))

abbrev pub tuple_size_of : Value → Outcome Value
tuple_size_of (tuple vs) = came (integer (pos (length (items_of vs))))
tuple_size_of _ = wrong

abbrev pub map_size_of : Value → Outcome Value
map_size_of (map_of row) = came (integer (pos (size row)))
map_size_of _ = wrong

abbrev pub absolute_of : Value → Outcome Value
absolute_of (integer n) = came (integer (pos (nat_abs n)))
absolute_of _ = wrong

-- the functions of one argument that are defined on one kind of values
abbrev pub operation_named : Name → Option (Value → Outcome Value)
operation_named name =
    if same_name name (codes "hd") then Some head_of else
    if same_name name (codes "tl") then Some tail_of else
    if same_name name (codes "length") then Some (λ v. count_of (elements_of v)) else
    if same_name name (codes "tuple_size") then Some tuple_size_of else
    if same_name name (codes "map_size") then Some map_size_of else
    if same_name name (codes "abs") then Some absolute_of else None

-- the functions of one argument that raise it, by the class of the exception
abbrev pub class_named : Name → Option Class
class_named name =
    if same_name name (codes "error") then Some error else
    if same_name name (codes "throw") then Some throw else
    if same_name name (codes "exit") then Some exit else None

-- the first of these that there is, for one argument
abbrev pub first_built_in : Option (Value → Bool) → Option (Value → Outcome Value) → Option Class → Value → Option (Outcome Value)
first_built_in (Some test) operation class v = Some (came (boolean (test v)))
first_built_in None (Some operation) class v = Some (operation v)
first_built_in None None (Some class) v = Some (raised class v)
first_built_in None None None v = None

-- whether a value is a fun of this arity
abbrev pub has_arity : (Value → ℕ) → Value → Value → Outcome Value
has_arity arity v (integer (pos n)) = came (boolean (is_function v && nat_eq (arity v) n))
has_arity arity v _ = wrong

-- what a built-in function gives for arguments, where there is one with this name and number of parameters; the first argument here tells the arity of a fun
abbrev pub built_in : (Value → ℕ) → Name → List Value → Option (Outcome Value)
built_in arity name (v ∷ []) = first_built_in (test_named name) (operation_named name) (class_named name) v
built_in arity name (v ∷ w ∷ []) = if same_name name (codes "is_function") then Some (has_arity arity v w) else None
built_in arity name _ = None

-- ---- maps

-- the key that a value is: an integer or an atom
abbrev pub key_of : Value → Option Key
key_of (integer n) = Some (IntKey n)
key_of (atom a) = Some (AtomKey a)
key_of _ = None

-- the map with this value for a key
abbrev pub with_key : Key → Value → MapEntries → MapEntries
with_key k v row = insert {b = any_key} k refl v row

-- the reason of an exception for a key that isn't there
abbrev pub bad_key : Value → Value
bad_key k = tuple (value_and (atom (codes "badkey")) (value_and k no_values))

-- a key that has to be there
abbrev pub replaced : Option Value → Key → Value → Value → MapEntries → Outcome MapEntries
replaced None key k v row = raised error (bad_key k)
replaced (Some old) key k v row = came (with_key key v row)

-- one association: `=>` adds or replaces, `:=` replaces
abbrev pub associate : (exact : Bool) → Option Key → Value → Value → MapEntries → Outcome MapEntries
associate exact None k v row = wrong
associate true (Some key) k v row = replaced (get row key) key k v row
associate false (Some key) k v row = came (with_key key v row)

-- an association: whether it is `:=`, its key and its value
pub record Association : Type 0 where
  pub exact : Bool
  pub key : Value
  pub value : Value

-- what is done with a map, where there is one
abbrev pub with_map : Outcome MapEntries → (MapEntries → Outcome Value) → Outcome Value
with_map (came row) next = next row
with_map (raised class v) next = raised class v
with_map wrong next = wrong
with_map going next = going

-- associations in turn
abbrev pub associate_all : List Association → MapEntries → Outcome Value
associate_all [] row = came (map_of row)
associate_all (a ∷ more) row = with_map (associate a.exact (key_of a.key) a.key a.value row) (associate_all more)

-- a map with associations
abbrev pub change_map : Value → List Association → Outcome Value
change_map (map_of row) associations = associate_all associations row
change_map _ associations = wrong
