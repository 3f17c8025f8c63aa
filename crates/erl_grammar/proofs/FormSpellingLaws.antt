-- The tokens of clauses of functions and of modules, by their parts. Those of the other forms are what their definitions say.
use Rattle.std.proofs.Common.{◌≡◌, refl, ap, List, [], ◌∷◌, ◌++◌, ℕ, map}
use Rattle.std.specs.Prelude.{Option, codes}
use Rattle.erl_tree.specs.declared.token.Place.{Place}
use Rattle.erl_tree.specs.declared.token.Node.{Node}
use Rattle.erl_tree.specs.declared.token.Token.TheVariants as T
use Rattle.erl_tree.specs.declared.pattern.PatternKind.{PatternKind}
use Rattle.erl_tree.specs.declared.expr.ExprKind.{ExprKind}
use Rattle.erl_tree.specs.declared.expr.ItemKind.{ItemKind}
use Rattle.erl_tree.specs.declared.form.Module.{Module}
use Rattle.erl_grammar.specs.Pieces.{own, inner, fill, mark, name, commas}
use Rattle.erl_grammar.specs.Spelling.{pattern_tokens, optional_guard, when_pieces, body_pieces, parameters_pieces, expr_tokens, item_tokens}
use Rattle.erl_grammar.specs.FormSpelling.{attribute_pieces, function_clause_tokens, forms_tokens, module_tokens}
use Rattle.erl_grammar.specs.Grammar.{node, clause_of}
use Rattle.erl_grammar.proofs.SpellingLaws.{clause_parts-clause_of}

pub function_clause-tokens : (function : List ℕ) (p : Place) (ms : List Place) (ps : List (Node PatternKind)) (w : Option (Node (List (List (Node ExprKind))))) (is : List (Node ItemKind)) → function_clause_tokens function (node p ms (clause_of ps w is)) ≡ fill (name function ∷ mark (codes "(") ∷ (commas (map pattern_tokens ps) ++ mark (codes ")") ∷ (when_pieces (optional_guard expr_tokens w) ++ body_pieces (map item_tokens is)))) ms
function_clause-tokens function p ms ps w is = ap (λ c. fill (name function ∷ parameters_pieces c) ms) (clause_parts-clause_of ps w is)

pub module_tokens-parts : (m : Module) → module_tokens m ≡ fill (attribute_pieces (codes "module") (mark (codes "(") ∷ name m.name ∷ mark (codes ")") ∷ []) ++ inner (forms_tokens m.forms) ∷ own T.End ∷ []) m.marks
unfolding module_tokens
module_tokens-parts m = refl
