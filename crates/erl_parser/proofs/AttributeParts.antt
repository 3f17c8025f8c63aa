-- The attributes of the preprocessor in two parts.
use Rattle.std.proofs.Common.{◌≡◌, ◌∙◌, refl, ap, ℕ, Bool, true, false, List}
use Rattle.std.specs.Prelude.{◌||◌, codes}
use Rattle.std.specs.Str.{bytes_eq}
use Rattle.erl_grammar.specs.FormGrammar.{is_one_of, preprocessor_attributes}
use Rattle.erl_parser.specs.AttributeNames.{is_of_macros, is_of_conditions}

or_false : (a : Bool) → a || false ≡ a
or_false true = refl
or_false false = refl

six_or : (a b c d e f g : Bool) → a || (b || (c || (d || (e || (f || g))))) ≡ (a || (b || (c || (d || (e || f))))) || g
six_or true b c d e f g = refl
six_or false true c d e f g = refl
six_or false false true d e f g = refl
six_or false false false true e f g = refl
six_or false false false false true f g = refl
six_or false false false false false f g = refl

last_of_seven : (a b c d e f g : Bool) → a || (b || (c || (d || (e || (f || (g || false)))))) ≡ a || (b || (c || (d || (e || (f || g)))))
last_of_seven a b c d e f g = ap (λ x. a || (b || (c || (d || (e || (f || x)))))) (or_false g)

pub preprocessor_in_two : (name : List ℕ) → is_one_of name preprocessor_attributes ≡ is_of_macros name || is_of_conditions name
unfolding is_of_macros is_of_conditions
preprocessor_in_two name =
    six_or (bytes_eq name (codes "define")) (bytes_eq name (codes "undef")) (bytes_eq name (codes "include")) (bytes_eq name (codes "include_lib")) (bytes_eq name (codes "ifdef")) (bytes_eq name (codes "ifndef")) _
    ∙ ap (λ x. is_of_macros name || x) (last_of_seven (bytes_eq name (codes "else")) (bytes_eq name (codes "endif")) (bytes_eq name (codes "if")) (bytes_eq name (codes "elif")) (bytes_eq name (codes "error")) (bytes_eq name (codes "warning")) (bytes_eq name (codes "feature")))
