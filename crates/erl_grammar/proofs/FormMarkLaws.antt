-- A well-formed form has as many marks as tokens of its own, and so has a module.
use Rattle.std.proofs.Common.{◌≡◌, ℤ, suc, List, [], ◌∷◌, ◌++◌, refl, ap, map, length}
use Rattle.std.specs.Prelude.{Option, codes}
use Rattle.type_terms.specs.Keys.{Name}
use Rattle.erl_tree.specs.declared.token.Place.{Place}
use Rattle.erl_tree.specs.declared.token.Node.{Node}
use Rattle.erl_tree.specs.declared.token.Token.{Token}
use Rattle.erl_tree.specs.declared.token.Token.TheVariants as T
use Rattle.erl_tree.specs.declared.expr.ExprKind.{ExprKind}
use Rattle.erl_tree.specs.declared.expr.ClauseKind.{ClauseKind}
use Rattle.erl_tree.specs.declared.type_expr.TypeKind.{TypeKind}
use Rattle.erl_tree.specs.declared.form.ExportKind.{ExportKind}
use Rattle.erl_tree.specs.declared.form.RecDefKind.{RecDefKind}
use Rattle.erl_tree.specs.declared.form.RecFieldKind.{RecFieldKind}
use Rattle.erl_tree.specs.declared.form.TypeDefKind.{TypeDefKind}
use Rattle.erl_tree.specs.declared.form.SpecKind.{SpecKind}
use Rattle.erl_tree.specs.declared.form.SpecClauseKind.{SpecClauseKind}
use Rattle.erl_tree.specs.declared.form.SkippedKind.{SkippedKind}
use Rattle.erl_tree.specs.declared.form.Function.{Function}
use Rattle.erl_tree.specs.declared.form.Module.{Module}
use Rattle.erl_grammar.specs.Pieces.{Piece, own, inner, mark, name, between, commas, semicolons, owned, HasMarks, HasMarkEach}
use Rattle.erl_grammar.specs.Spelling.{pattern_tokens, optional_guard, when_pieces, body_pieces, argument_pieces, expr_tokens, item_tokens}
use Rattle.erl_grammar.specs.TypeSpelling.{type_tokens}
use Rattle.erl_grammar.specs.FormSpelling.{attribute_pieces, arity_pieces, export_attribute, export_tokens, default_pieces, declared_type_pieces, record_field_tokens, record_definition_tokens, type_attribute, variable_pieces, type_definition_tokens, bound_pieces, bounds_pieces, spec_clause_tokens, spec_tokens, skipped_tokens, function_clause_tokens, function_text, forms_tokens, module_text}
use Rattle.erl_grammar.specs.FormGrammar.{HaveArityMarks, IsExport, IsDefault, IsDeclaredType, IsRecordField, IsRecordDefinition, HaveVariableMarks, IsTypeDefinition, HaveBoundMarks, AreBounds, IsSpecClause, IsSpec, HaveMarkEach, IsSkipped, IsFunctionClause, IsFunction, IsModule}
use Rattle.erl_grammar.specs.FormGrammar as G
use Rattle.erl_grammar.proofs.MarkLaws.{as_pieces, joined, nested, only_gaps, gaps, when_and_body}
use Rattle.erl_grammar.proofs.FormSpellingLaws.{function_clause-tokens, module_tokens-parts}

-- ---- exports

-- names with their arities, with commas between them
abbrev arities_text : List (Name × ℤ) → List Piece
arities_text names = between (T.Mark (codes ",")) (map arity_pieces names)

arity_marks : (names : List (Name × ℤ)) (ms : List Place) → HaveArityMarks names ms → owned (arities_text names) ≡ length ms
arity_marks [] [] g = refl
arity_marks [] (m ∷ ms) g = elim g [ ]
arity_marks (f ∷ []) [] g = elim g [ ]
arity_marks (f ∷ []) (n ∷ []) g = elim g [ ]
arity_marks (f ∷ []) (n ∷ s ∷ []) g = elim g [ ]
arity_marks (f ∷ []) (n ∷ s ∷ a ∷ []) g = refl
arity_marks (f ∷ []) (n ∷ s ∷ a ∷ c ∷ ms) g = elim g [ ]
arity_marks (f ∷ h ∷ hs) [] g = elim g [ ]
arity_marks (f ∷ h ∷ hs) (n ∷ []) g = elim g [ ]
arity_marks (f ∷ h ∷ hs) (n ∷ s ∷ []) g = elim g [ ]
arity_marks (f ∷ h ∷ hs) (n ∷ s ∷ a ∷ []) g = elim g [ ]
arity_marks (f ∷ h ∷ hs) (n ∷ s ∷ a ∷ c ∷ ms) g = ap (λ n. suc (suc (suc (suc n)))) (arity_marks (h ∷ hs) ms g)

pub export_marks : {e : Node ExportKind} → IsExport e → HasMarkEach export_tokens e
export_marks (G.export h w o b c d p ms types names g) = as_pieces (attribute_pieces (export_attribute types) (mark (codes "(") ∷ mark (codes "[") ∷ (arities_text names ++ mark (codes "]") ∷ mark (codes ")") ∷ []))) (λ ms. refl)
    (ap (λ n. suc (suc (suc (suc n)))) (nested (arities_text names) (mark (codes "]") ∷ mark (codes ")") ∷ []) (own T.Dot ∷ []) ms (c ∷ d ∷ p ∷ []) (arity_marks names ms g) refl))

-- ---- records

default_marks : {e : Option (Node ExprKind)} {ms : List Place} → IsDefault e ms → owned (default_pieces e) ≡ length ms
default_marks G.no_default = refl
default_marks (G.default m e h) = refl

annotation_marks : {t : Option (Node TypeKind)} {ms : List Place} → IsDeclaredType t ms → owned (declared_type_pieces t) ≡ length ms
annotation_marks G.no_declared_type = refl
annotation_marks (G.annotation m t h) = refl

pub record_field_marks : {f : Node RecFieldKind} → IsRecordField f → HasMarkEach record_field_tokens f
record_field_marks (G.record_field p ds ts given e t h k) = as_pieces (name given ∷ (default_pieces e ++ declared_type_pieces t)) (λ ms. refl) (ap suc (joined (default_pieces e) (declared_type_pieces t) ds ts (default_marks h) (annotation_marks k)))

pub record_marks : {r : Node RecDefKind} → IsRecordDefinition r → HasMarkEach record_definition_tokens r
record_marks (G.record_definition h w o n c b d e p ms given fields g k) = as_pieces (attribute_pieces (codes "record") (mark (codes "(") ∷ name given ∷ mark (codes ",") ∷ mark (codes "{") ∷ (commas (map record_field_tokens fields) ++ mark (codes "}") ∷ mark (codes ")") ∷ []))) (λ ms. refl)
    (ap (λ n. suc (suc (suc (suc (suc (suc n)))))) (nested (commas (map record_field_tokens fields)) (mark (codes "}") ∷ mark (codes ")") ∷ []) (own T.Dot ∷ []) ms (d ∷ e ∷ p ∷ []) (only_gaps (T.Mark (codes ",")) record_field_tokens fields ms g) refl))

-- ---- types

-- variables, with commas between them
abbrev variables_text : List Name → List Piece
variables_text xs = between (T.Mark (codes ",")) (map variable_pieces xs)

variable_marks : (xs : List Name) (ms : List Place) → HaveVariableMarks xs ms → owned (variables_text xs) ≡ length ms
variable_marks [] [] g = refl
variable_marks [] (m ∷ ms) g = elim g [ ]
variable_marks (x ∷ []) [] g = elim g [ ]
variable_marks (x ∷ []) (p ∷ []) g = refl
variable_marks (x ∷ []) (p ∷ c ∷ ms) g = elim g [ ]
variable_marks (x ∷ y ∷ ys) [] g = elim g [ ]
variable_marks (x ∷ y ∷ ys) (p ∷ []) g = elim g [ ]
variable_marks (x ∷ y ∷ ys) (p ∷ c ∷ ms) g = ap (λ n. suc (suc n)) (variable_marks (y ∷ ys) ms g)

pub type_definition_marks : {d : Node TypeDefKind} → IsTypeDefinition d → HasMarkEach type_definition_tokens d
type_definition_marks (G.type_definition h w n o c m p ms opaque given params body g k) = as_pieces (attribute_pieces (type_attribute opaque) (name given ∷ mark (codes "(") ∷ (variables_text params ++ mark (codes ")") ∷ mark (codes "::") ∷ inner (type_tokens body) ∷ []))) (λ ms. refl)
    (ap (λ n. suc (suc (suc (suc n)))) (nested (variables_text params) (mark (codes ")") ∷ mark (codes "::") ∷ inner (type_tokens body) ∷ []) (own T.Dot ∷ []) ms (c ∷ m ∷ p ∷ []) (variable_marks params ms g) refl))

-- ---- specs

bound_marks : (bs : List (Name × Node TypeKind)) (ms : List Place) → HaveBoundMarks bs ms → owned (between (T.Mark (codes ",")) (map bound_pieces bs)) ≡ length ms
bound_marks [] ms g = elim g [ ]
bound_marks (b ∷ []) [] g = elim g [ ]
bound_marks (b ∷ []) (x ∷ []) g = elim g [ ]
bound_marks (b ∷ []) (x ∷ m ∷ []) g = refl
bound_marks (b ∷ []) (x ∷ m ∷ c ∷ ms) g = elim g [ ]
bound_marks (b ∷ d ∷ ds) [] g = elim g [ ]
bound_marks (b ∷ d ∷ ds) (x ∷ []) g = elim g [ ]
bound_marks (b ∷ d ∷ ds) (x ∷ m ∷ []) g = elim g [ ]
bound_marks (b ∷ d ∷ ds) (x ∷ m ∷ c ∷ ms) g = ap (λ n. suc (suc (suc n))) (bound_marks (d ∷ ds) ms g)

bounds_marks : {bs : List (Name × Node TypeKind)} {ms : List Place} → AreBounds bs ms → owned (bounds_pieces bs) ≡ length ms
bounds_marks G.no_bounds = refl
bounds_marks (G.bounds w ms [] g h) = elim g [ ]
bounds_marks (G.bounds w ms (b ∷ bs) g h) = ap suc (bound_marks (b ∷ bs) ms g)

pub spec_clause_marks : {c : Node SpecClauseKind} → IsSpecClause c → HasMarkEach spec_clause_tokens c
spec_clause_marks (G.spec_clause o c a ms bs params result bounds i g h k l) = as_pieces (argument_pieces (map type_tokens params) ++ mark (codes "->") ∷ inner (type_tokens result) ∷ bounds_pieces bounds) (λ ms. refl)
    (ap suc (nested (commas (map type_tokens params)) (mark (codes ")") ∷ []) (mark (codes "->") ∷ inner (type_tokens result) ∷ bounds_pieces bounds) ms (c ∷ a ∷ bs) (only_gaps (T.Mark (codes ",")) type_tokens params ms g) (ap (λ n. suc (suc n)) (bounds_marks l))))

pub spec_marks : {s : Node SpecKind} → IsSpec s → HasMarkEach spec_tokens s
spec_marks (G.spec h w n p ms given c cs g k) = as_pieces (attribute_pieces (codes "spec") (name given ∷ semicolons (map spec_clause_tokens (c ∷ cs)))) (λ ms. refl)
    (ap (λ n. suc (suc (suc n))) (gaps (T.Mark (codes ";")) spec_clause_tokens (c ∷ cs) ms (own T.Dot ∷ []) (p ∷ []) g refl))

-- ---- other attributes

token_marks : (tokens : List Token) (ms : List Place) → HaveMarkEach tokens ms → owned (map own tokens) ≡ length ms
token_marks [] [] g = refl
token_marks [] (m ∷ ms) g = elim g [ ]
token_marks (t ∷ ts) [] g = elim g [ ]
token_marks (t ∷ ts) (m ∷ ms) g = ap suc (token_marks ts ms g)

pub skipped_marks : {s : Node SkippedKind} → IsSkipped s → HasMarkEach skipped_tokens s
skipped_marks (G.skipped h w p ms given tokens i j k g l) = as_pieces (attribute_pieces given (map own tokens)) (λ ms. refl)
    (ap (λ n. suc (suc n)) (joined (map own tokens) (own T.Dot ∷ []) ms (p ∷ []) (token_marks tokens ms g) refl))

-- ---- functions

pub function_clause_marks : (function : Name) {c : Node ClauseKind} → IsFunctionClause c → HasMarkEach (function_clause_tokens function) c
function_clause_marks function (G.function_clause n o c a ps w ns ws ms i is r g h k l q) = as_pieces (name function ∷ mark (codes "(") ∷ (commas (map pattern_tokens ps) ++ mark (codes ")") ∷ (when_pieces (optional_guard expr_tokens w) ++ body_pieces (map item_tokens (i ∷ is))))) (λ us. function_clause-tokens function n us ps w (i ∷ is))
    (ap (λ n. suc (suc n)) (gaps (T.Mark (codes ",")) pattern_tokens ps ns _ (c ∷ (ws ++ a ∷ ms)) g (ap suc (when_and_body a (i ∷ is) ms k l))))

pub function_marks : {f : Function} → IsFunction f → HasMarks (function_text f) f.marks
function_marks (G.function given p ms c cs g k) = as_pieces (semicolons (map (function_clause_tokens given) (c ∷ cs)) ++ own T.Dot ∷ []) (λ ms. refl) (gaps (T.Mark (codes ";")) (function_clause_tokens given) (c ∷ cs) ms (own T.Dot ∷ []) (p ∷ []) g refl)

-- ---- modules

pub module_marks : {m : Module} → IsModule m → HasMarks (module_text m) m.marks
module_marks (G.module_of h w o n c d e given forms k) = as_pieces (attribute_pieces (codes "module") (mark (codes "(") ∷ name given ∷ mark (codes ")") ∷ []) ++ inner (forms_tokens forms) ∷ own T.End ∷ []) (λ ms. module_tokens-parts (record { name = given; marks = ms; forms = forms })) refl
