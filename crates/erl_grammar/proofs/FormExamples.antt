-- Small examples of forms.
use Rattle.std.proofs.Common.{◌≡◌, refl, ℕ, List, [], ◌∷◌, arith}
use Rattle.std.specs.Prelude.{true, false, codes}
use Rattle.type_terms.specs.Keys.{Name}
use Rattle.erl_tree.specs.SmallText.{place}
use Rattle.erl_tree.specs.declared.form.Function.{Function}
use Rattle.erl_tree.specs.declared.form.TreeForm.{TreeForm}
use Rattle.erl_tree.specs.declared.form.TreeForm.TheVariants as F
use Rattle.erl_grammar.specs.declared.head.Head.TheVariants.{Plain}
use Rattle.erl_grammar.specs.Grammar.{IsPattern, one_pattern, atom_pattern, postfix, atom, IsItem, value, no_guard}
use Rattle.erl_grammar.specs.FormSpelling.{function_tokens, form_tokens}
use Rattle.erl_grammar.specs.FormGrammar.{read_attributes, preprocessor_attributes, is_one_of, IsSkipped, IsFunctionClause, IsFunction, IsForm}
use Rattle.erl_grammar.specs.FormGrammar as G
use Rattle.erl_grammar.specs.SmallTrees.{item_at}
use Rattle.erl_grammar.specs.SmallForms.{atom_pattern_at, a_gives_b, c_gives_d, function_of_two, function_of_two_tokens, function_of_none, attribute_at, foo_tokens}
use Rattle.erl_grammar.proofs.SpellingLaws.{pattern_tokens_laws, clause_tokens_laws, expr_tokens_laws, part_tokens_laws}
use Rattle.erl_grammar.proofs.Layers.{each}

-- ---- functions

pattern-formed : (a : Name) (column : ℕ) → IsPattern (atom_pattern_at a column)
pattern-formed a column = one_pattern _ (atom_pattern (place column) a)

body-formed : (a : Name) (column : ℕ) → IsItem (item_at a column)
body-formed a column = value _ (postfix 0 Plain _ (atom (place column) a))

first-formed : IsFunctionClause a_gives_b
first-formed = G.function_clause (place 1) (place 2) (place 4) (place 6) _ _ [] [] [] _ [] (omega arith) tt (each IsPattern (atom_pattern_at (codes "a") 3 ∷ []) (pattern-formed (codes "a") 3, tt)) no_guard tt (each IsItem (item_at (codes "b") 9 ∷ []) (body-formed (codes "b") 9, tt))

second-formed : IsFunctionClause c_gives_d
second-formed = G.function_clause (place 12) (place 13) (place 15) (place 17) _ _ [] [] [] _ [] (omega arith) tt (each IsPattern (atom_pattern_at (codes "c") 14 ∷ []) (pattern-formed (codes "c") 14, tt)) no_guard tt (each IsItem (item_at (codes "d") 20 ∷ []) (body-formed (codes "d") 20, tt))

pub function-of-two-formed : IsFunction function_of_two
function-of-two-formed = G.function (codes "f") (place 21) (place 10 ∷ []) _ _ tt (each IsFunctionClause (a_gives_b ∷ c_gives_d ∷ []) (first-formed, (second-formed, tt)))

pub function-of-two-tokens : function_tokens function_of_two ≡ function_of_two_tokens
function-of-two-tokens = simp (pattern_tokens_laws, clause_tokens_laws, expr_tokens_laws, part_tokens_laws) refl

-- a list with an element
abbrev has_element : {A : Type 0} → List A → Type 0
has_element [] = ⊥
has_element (x ∷ xs) = Unit {0}

has-clause : (f : Function) → IsFunction f → has_element f.clauses
has-clause _ (G.function name p ms c cs g k) = tt

pub function-of-none-not-formed : IsFunction function_of_none → ⊥
function-of-none-not-formed h = has-clause function_of_none h

-- ---- other attributes

pub foo-formed : IsForm (attribute_at (codes "foo") 5)
foo-formed = G.skipped_form _ (G.skipped (place 1) (place 2) (place 5) [] (codes "foo") [] refl refl refl tt (λ t i. absurd i))

pub foo-tokens : form_tokens (attribute_at (codes "foo") 5) ≡ foo_tokens
foo-tokens = refl

-- what a skipped attribute isn't named
abbrev skipped_layer : TreeForm → Type 0
skipped_layer (F.Skipped s) = (is_one_of s.kind.name read_attributes ≡ false) × (is_one_of s.kind.name preprocessor_attributes ≡ false)
skipped_layer _ = Unit {0}

skipped-layer : (f : TreeForm) → IsForm f → skipped_layer f
skipped-layer _ (G.skipped_form _ (G.skipped h w p ms name tokens i j k g l)) = (i, j)
skipped-layer _ (G.export_form e h) = tt
skipped-layer _ (G.record_form r h) = tt
skipped-layer _ (G.type_form d h) = tt
skipped-layer _ (G.spec_form s h) = tt
skipped-layer _ (G.function_form f h) = tt

pub spec-not-skipped : IsForm (attribute_at (codes "spec") 6) → ⊥
spec-not-skipped h = let wrong : true ≡ false = (skipped-layer (attribute_at (codes "spec") 6) h).0 in absurd cc

pub if-not-skipped : IsForm (attribute_at (codes "if") 4) → ⊥
if-not-skipped h = let wrong : true ≡ false = (skipped-layer (attribute_at (codes "if") 4) h).1 in absurd cc
