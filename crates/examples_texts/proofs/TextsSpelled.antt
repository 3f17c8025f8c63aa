-- The texts spell their modules.
use Rattle.std.proofs.Common.{◌≡◌, refl, sym, ◌∙◌, subst, List, [], ◌∷◌, inl, arith}
use Rattle.std.specs.Prelude.{None, codes}
use Rattle.std.proofs.Math.Utf8.{encode}
use Rattle.erl_tree.specs.declared.token.Token.{Token}
use Rattle.erl_tree.specs.declared.token.Token.TheVariants as T
use Rattle.erl_tree.specs.declared.token.Placed.{Placed}
use Rattle.erl_tree.specs.declared.expr.ExprKind.{ExprKind}
use Rattle.erl_tree.specs.declared.expr.ExprKind.TheVariants as X
use Rattle.erl_tree.specs.declared.form.TreeForm.TheVariants as F
use Rattle.erl_tree.specs.Lexis.{is_token_text, token_of, Spells, SpellsTokens, start}
use Rattle.erl_tree.specs.SmallText.{place, placed}
use Rattle.erl_tree.proofs.LongestTexts.{longest, longest_last}
use Rattle.erl_grammar.specs.declared.head.Head.TheVariants.{Plain}
use Rattle.erl_grammar.specs.Grammar.{IsPattern, one_pattern, variable_pattern, IsExpr, postfix, variable, IsItem, value, no_guard}
use Rattle.erl_grammar.specs.Grammar as G
use Rattle.erl_grammar.specs.TypeGrammar.{IsType, one_type, used_type, IsParameter, unnamed}
use Rattle.erl_grammar.specs.FormGrammar.{no_bounds, IsSpecClause, spec_clause, IsSpec, spec, IsFunctionClause, function_clause, IsFunction, function, IsForm, spec_form, function_form, IsModule, module_of}
use Rattle.erl_grammar.specs.FormSpelling.{module_tokens}
use Rattle.erl_grammar.specs.Texts.{SpellsModule}
use Rattle.erl_grammar.proofs.Layers.{each}
use Rattle.erl_grammar.proofs.FormSpellingLaws.{module_tokens-parts}
use Rattle.erl_grammar.proofs.SpellingLaws.{pattern_tokens_laws, clause_tokens_laws, expr_tokens_laws, part_tokens_laws}
use Rattle.erl_grammar.proofs.TypeSpellingLaws.{type_tokens_laws}
use Rattle.examples_texts.specs.SmallTexts.{text_that_keeps, text_that_breaks, integer_type, spec_clause_written, spec_written, body, clause_layer, clause_written, function_written, module_with, module_that_keeps, module_that_breaks}

-- ---- tokens

-- the tokens of both texts, with that of the body
tokens_with : Token → List Placed
tokens_with the_token = placed (T.Mark (codes "-")) 1 ∷ placed (T.Atom (codes "module")) 2 ∷ placed (T.Mark (codes "(")) 8 ∷ placed (T.Atom (codes "a")) 9 ∷ placed (T.Mark (codes ")")) 10 ∷ placed T.Dot 11 ∷ placed (T.Mark (codes "-")) 13 ∷ placed (T.Atom (codes "spec")) 14 ∷ placed (T.Atom (codes "f")) 19 ∷ placed (T.Mark (codes "(")) 20 ∷ placed (T.Atom (codes "integer")) 21 ∷ placed (T.Mark (codes "(")) 28 ∷ placed (T.Mark (codes ")")) 29 ∷ placed (T.Mark (codes ")")) 30 ∷ placed (T.Mark (codes "->")) 32 ∷ placed (T.Atom (codes "integer")) 35 ∷ placed (T.Mark (codes "(")) 42 ∷ placed (T.Mark (codes ")")) 43 ∷ placed T.Dot 44 ∷ placed (T.Atom (codes "f")) 46 ∷ placed (T.Mark (codes "(")) 47 ∷ placed (T.Var (codes "X")) 48 ∷ placed (T.Mark (codes ")")) 49 ∷ placed (T.Mark (codes "->")) 51 ∷ placed the_token 54 ∷ placed T.Dot 55 ∷ placed T.End 56 ∷ []

keeps_whole : Spells start text_that_keeps (tokens_with (T.Var (codes "X")))
unfolding tokens_with Spells token_of is_token_text
keeps_whole = ([], codes "-", codes "module(a). -spec f(integer()) -> integer(). f(X) -> X.", refl, tt, refl, longest (codes "-") _ _ refl, refl, ([], codes "module", codes "(a). -spec f(integer()) -> integer(). f(X) -> X.", refl, tt, refl, longest (codes "module") _ _ refl, refl, ([], codes "(", codes "a). -spec f(integer()) -> integer(). f(X) -> X.", refl, tt, refl, longest (codes "(") _ _ refl, refl, ([], codes "a", codes "). -spec f(integer()) -> integer(). f(X) -> X.", refl, tt, refl, longest (codes "a") _ _ refl, refl, ([], codes ")", codes ". -spec f(integer()) -> integer(). f(X) -> X.", refl, tt, refl, longest (codes ")") _ _ refl, refl, ([], codes ".", codes " -spec f(integer()) -> integer(). f(X) -> X.", refl, tt, refl, longest (codes ".") _ _ refl, refl, (codes " ", codes "-", codes "spec f(integer()) -> integer(). f(X) -> X.", refl, inl (refl, tt), refl, longest (codes "-") _ _ refl, refl, ([], codes "spec", codes " f(integer()) -> integer(). f(X) -> X.", refl, tt, refl, longest (codes "spec") _ _ refl, refl, (codes " ", codes "f", codes "(integer()) -> integer(). f(X) -> X.", refl, inl (refl, tt), refl, longest (codes "f") _ _ refl, refl, ([], codes "(", codes "integer()) -> integer(). f(X) -> X.", refl, tt, refl, longest (codes "(") _ _ refl, refl, ([], codes "integer", codes "()) -> integer(). f(X) -> X.", refl, tt, refl, longest (codes "integer") _ _ refl, refl, ([], codes "(", codes ")) -> integer(). f(X) -> X.", refl, tt, refl, longest (codes "(") _ _ refl, refl, ([], codes ")", codes ") -> integer(). f(X) -> X.", refl, tt, refl, longest (codes ")") _ _ refl, refl, ([], codes ")", codes " -> integer(). f(X) -> X.", refl, tt, refl, longest (codes ")") _ _ refl, refl, (codes " ", codes "->", codes " integer(). f(X) -> X.", refl, inl (refl, tt), refl, longest (codes "->") _ _ refl, refl, (codes " ", codes "integer", codes "(). f(X) -> X.", refl, inl (refl, tt), refl, longest (codes "integer") _ _ refl, refl, ([], codes "(", codes "). f(X) -> X.", refl, tt, refl, longest (codes "(") _ _ refl, refl, ([], codes ")", codes ". f(X) -> X.", refl, tt, refl, longest (codes ")") _ _ refl, refl, ([], codes ".", codes " f(X) -> X.", refl, tt, refl, longest (codes ".") _ _ refl, refl, (codes " ", codes "f", codes "(X) -> X.", refl, inl (refl, tt), refl, longest (codes "f") _ _ refl, refl, ([], codes "(", codes "X) -> X.", refl, tt, refl, longest (codes "(") _ _ refl, refl, ([], codes "X", codes ") -> X.", refl, tt, refl, longest (codes "X") _ _ refl, refl, ([], codes ")", codes " -> X.", refl, tt, refl, longest (codes ")") _ _ refl, refl, (codes " ", codes "->", codes " X.", refl, inl (refl, tt), refl, longest (codes "->") _ _ refl, refl, (codes " ", codes "X", codes ".", refl, inl (refl, tt), refl, longest (codes "X") _ _ refl, refl, ([], codes ".", [], refl, tt, refl, longest_last (codes "."), refl, (tt, refl, refl)))))))))))))))))))))))))))

keeps_spelled : SpellsTokens text_that_keeps (tokens_with (T.Var (codes "X")))
unfolding encode
keeps_spelled = record { characters = text_that_keeps; are_characters = refl; encoded = refl; spelled = keeps_whole }

breaks_whole : Spells start text_that_breaks (tokens_with (T.Atom (codes "a")))
unfolding tokens_with Spells token_of is_token_text
breaks_whole = ([], codes "-", codes "module(a). -spec f(integer()) -> integer(). f(X) -> a.", refl, tt, refl, longest (codes "-") _ _ refl, refl, ([], codes "module", codes "(a). -spec f(integer()) -> integer(). f(X) -> a.", refl, tt, refl, longest (codes "module") _ _ refl, refl, ([], codes "(", codes "a). -spec f(integer()) -> integer(). f(X) -> a.", refl, tt, refl, longest (codes "(") _ _ refl, refl, ([], codes "a", codes "). -spec f(integer()) -> integer(). f(X) -> a.", refl, tt, refl, longest (codes "a") _ _ refl, refl, ([], codes ")", codes ". -spec f(integer()) -> integer(). f(X) -> a.", refl, tt, refl, longest (codes ")") _ _ refl, refl, ([], codes ".", codes " -spec f(integer()) -> integer(). f(X) -> a.", refl, tt, refl, longest (codes ".") _ _ refl, refl, (codes " ", codes "-", codes "spec f(integer()) -> integer(). f(X) -> a.", refl, inl (refl, tt), refl, longest (codes "-") _ _ refl, refl, ([], codes "spec", codes " f(integer()) -> integer(). f(X) -> a.", refl, tt, refl, longest (codes "spec") _ _ refl, refl, (codes " ", codes "f", codes "(integer()) -> integer(). f(X) -> a.", refl, inl (refl, tt), refl, longest (codes "f") _ _ refl, refl, ([], codes "(", codes "integer()) -> integer(). f(X) -> a.", refl, tt, refl, longest (codes "(") _ _ refl, refl, ([], codes "integer", codes "()) -> integer(). f(X) -> a.", refl, tt, refl, longest (codes "integer") _ _ refl, refl, ([], codes "(", codes ")) -> integer(). f(X) -> a.", refl, tt, refl, longest (codes "(") _ _ refl, refl, ([], codes ")", codes ") -> integer(). f(X) -> a.", refl, tt, refl, longest (codes ")") _ _ refl, refl, ([], codes ")", codes " -> integer(). f(X) -> a.", refl, tt, refl, longest (codes ")") _ _ refl, refl, (codes " ", codes "->", codes " integer(). f(X) -> a.", refl, inl (refl, tt), refl, longest (codes "->") _ _ refl, refl, (codes " ", codes "integer", codes "(). f(X) -> a.", refl, inl (refl, tt), refl, longest (codes "integer") _ _ refl, refl, ([], codes "(", codes "). f(X) -> a.", refl, tt, refl, longest (codes "(") _ _ refl, refl, ([], codes ")", codes ". f(X) -> a.", refl, tt, refl, longest (codes ")") _ _ refl, refl, ([], codes ".", codes " f(X) -> a.", refl, tt, refl, longest (codes ".") _ _ refl, refl, (codes " ", codes "f", codes "(X) -> a.", refl, inl (refl, tt), refl, longest (codes "f") _ _ refl, refl, ([], codes "(", codes "X) -> a.", refl, tt, refl, longest (codes "(") _ _ refl, refl, ([], codes "X", codes ") -> a.", refl, tt, refl, longest (codes "X") _ _ refl, refl, ([], codes ")", codes " -> a.", refl, tt, refl, longest (codes ")") _ _ refl, refl, (codes " ", codes "->", codes " a.", refl, inl (refl, tt), refl, longest (codes "->") _ _ refl, refl, (codes " ", codes "a", codes ".", refl, inl (refl, tt), refl, longest (codes "a") _ _ refl, refl, ([], codes ".", [], refl, tt, refl, longest_last (codes "."), refl, (tt, refl, refl)))))))))))))))))))))))))))

breaks_spelled : SpellsTokens text_that_breaks (tokens_with (T.Atom (codes "a")))
unfolding encode
breaks_spelled = record { characters = text_that_breaks; are_characters = refl; encoded = refl; spelled = breaks_whole }

-- ---- trees

keeps_tokens : module_tokens module_that_keeps ≡ tokens_with (T.Var (codes "X"))
unfolding tokens_with
keeps_tokens = module_tokens-parts module_that_keeps ∙ simp (type_tokens_laws, pattern_tokens_laws, clause_tokens_laws, expr_tokens_laws, part_tokens_laws) refl

breaks_tokens : module_tokens module_that_breaks ≡ tokens_with (T.Atom (codes "a"))
unfolding tokens_with
breaks_tokens = module_tokens-parts module_that_breaks ∙ simp (type_tokens_laws, pattern_tokens_laws, clause_tokens_laws, expr_tokens_laws, part_tokens_laws) refl

integer_formed : (column opens closes : _) → IsType (integer_type column opens closes)
integer_formed column opens closes = one_type _ (used_type (place column) (place opens) (place closes) [] (codes "integer") [] tt (λ t i. absurd i))

spec_clause_formed : IsSpecClause spec_clause_written
spec_clause_formed = spec_clause (place 20) (place 30) (place 32) [] [] (integer_type 21 28 29 ∷ []) (integer_type 35 42 43) [] (omega arith) tt (each IsParameter (integer_type 21 28 29 ∷ []) (unnamed _ (integer_formed 21 28 29), tt)) (integer_formed 35 42 43) no_bounds

spec_formed : IsSpec spec_written
spec_formed = spec (place 13) (place 14) (place 19) (place 44) [] (codes "f") spec_clause_written [] tt (each IsSpecClause (spec_clause_written ∷ []) (spec_clause_formed, tt))

clause_formed : (e : ExprKind) → IsExpr 0 (body e) → IsFunctionClause (clause_written e)
clause_formed e h = function_clause (place 46) (place 47) (place 49) (place 51) (clause_layer e).patterns None [] [] [] _ [] (omega arith) tt
    (each IsPattern (clause_layer e).patterns (one_pattern _ (variable_pattern (place 48) (codes "X")), tt)) no_guard tt (each IsItem (clause_layer e).body (value (body e) h, tt))

function_formed : (e : ExprKind) → IsExpr 0 (body e) → IsFunction (function_written e)
function_formed e h = function (codes "f") (place 55) [] _ [] tt (each IsFunctionClause (clause_written e ∷ []) (clause_formed e h, tt))

module_formed : (e : ExprKind) → IsExpr 0 (body e) → IsModule (module_with e)
module_formed e h = module_of (place 1) (place 2) (place 8) (place 9) (place 10) (place 11) (place 56) (codes "a") _
    (each IsForm (F.Spec spec_written ∷ F.Function (function_written e) ∷ []) (spec_form spec_written spec_formed, (function_form (function_written e) (function_formed e h), tt)))

-- ---- texts

pub keeps_is_spelled : SpellsModule text_that_keeps module_that_keeps
keeps_is_spelled = record { tokens = subst (SpellsTokens text_that_keeps) (sym keeps_tokens) keeps_spelled; well_formed = module_formed (X.Var (codes "X")) (postfix 0 Plain _ (variable (place 54) (codes "X"))) }

pub breaks_is_spelled : SpellsModule text_that_breaks module_that_breaks
breaks_is_spelled = record { tokens = subst (SpellsTokens text_that_breaks) (sym breaks_tokens) breaks_spelled; well_formed = module_formed (X.Atom (codes "a")) (postfix 0 Plain _ (G.atom (place 54) (codes "a"))) }
