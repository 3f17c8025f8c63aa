-- Guards: the functions of one argument in two parts, and expressions in turn.
use Rattle.std.proofs.Common.{◌≡◌, ◌∙◌, refl, ap, ℕ, Bool, true, false, List}
use Rattle.std.specs.Prelude.{◌||◌, codes}
use Rattle.std.specs.Str.{bytes_eq}
use Rattle.std.specs.List.{list_any}
use Rattle.erl_grammar.specs.Guards.{guard_functions, is_guard_function}
use Rattle.erl_parser_exprs.specs.GuardNames.{is_type_test, is_part_function}

or_false : (a : Bool) → a || false ≡ a
or_false true = refl
or_false false = refl

seven_or : (a b c d e f g h : Bool) → a || (b || (c || (d || (e || (f || (g || h)))))) ≡ (a || (b || (c || (d || (e || (f || g)))))) || h
seven_or true b c d e f g h = refl
seven_or false true c d e f g h = refl
seven_or false false true d e f g h = refl
seven_or false false false true e f g h = refl
seven_or false false false false true f g h = refl
seven_or false false false false false true g h = refl
seven_or false false false false false false g h = refl

last_of_six : (a b c d e f : Bool) → a || (b || (c || (d || (e || (f || false))))) ≡ a || (b || (c || (d || (e || f))))
last_of_six a b c d e f = ap (λ x. a || (b || (c || (d || (e || x))))) (or_false f)

known_in_two : (name : List ℕ) → list_any (λ known. bytes_eq name known) guard_functions ≡ is_type_test name || is_part_function name
unfolding is_type_test is_part_function
known_in_two name =
    seven_or (bytes_eq name (codes "is_atom")) (bytes_eq name (codes "is_boolean")) (bytes_eq name (codes "is_integer")) (bytes_eq name (codes "is_list")) (bytes_eq name (codes "is_map")) (bytes_eq name (codes "is_tuple")) (bytes_eq name (codes "is_function")) _
    ∙ ap (λ x. is_type_test name || x) (last_of_six (bytes_eq name (codes "hd")) (bytes_eq name (codes "tl")) (bytes_eq name (codes "length")) (bytes_eq name (codes "tuple_size")) (bytes_eq name (codes "map_size")) (bytes_eq name (codes "abs")))

pub guard_function_of_one : (name : List ℕ) (count : ℕ) → count ≡ 1 → is_guard_function name count ≡ is_type_test name || is_part_function name
guard_function_of_one name count e = ap (λ n. is_guard_function name n) e ∙ (or_false _ ∙ known_in_two name)
