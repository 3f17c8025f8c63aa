-- The place of a well-formed form is that of its first token.
use Rattle.std.proofs.Common.{List, [], ◌∷◌, ◌++◌, refl, inl}
use Rattle.type_terms.specs.Keys.{Name}
use Rattle.erl_tree.specs.declared.token.Place.{Place}
use Rattle.erl_tree.specs.declared.token.Node.{Node}
use Rattle.erl_tree.specs.declared.expr.ClauseKind.{ClauseKind}
use Rattle.erl_tree.specs.declared.form.ExportKind.{ExportKind}
use Rattle.erl_tree.specs.declared.form.RecDefKind.{RecDefKind}
use Rattle.erl_tree.specs.declared.form.RecFieldKind.{RecFieldKind}
use Rattle.erl_tree.specs.declared.form.TypeDefKind.{TypeDefKind}
use Rattle.erl_tree.specs.declared.form.SpecKind.{SpecKind}
use Rattle.erl_tree.specs.declared.form.SpecClauseKind.{SpecClauseKind}
use Rattle.erl_tree.specs.declared.form.SkippedKind.{SkippedKind}
use Rattle.erl_tree.specs.declared.form.Function.{Function}
use Rattle.erl_grammar.specs.Pieces.{BeginsAt}
use Rattle.erl_grammar.specs.FormSpelling.{export_tokens, record_field_tokens, record_definition_tokens, type_definition_tokens, spec_clause_tokens, spec_tokens, skipped_tokens, function_clause_tokens, function_tokens}
use Rattle.erl_grammar.specs.FormGrammar.{IsExport, IsRecordField, IsRecordDefinition, IsTypeDefinition, IsSpecClause, IsSpec, IsSkipped, IsFunctionClause, IsFunction}
use Rattle.erl_grammar.specs.FormGrammar as G
use Rattle.erl_grammar.proofs.PlaceLaws.{begins_by, begins_with}
use Rattle.erl_grammar.proofs.FormSpellingLaws.{function_clause-tokens}

pub export_begins : {e : Node ExportKind} → IsExport e → BeginsAt e.place (export_tokens e)
export_begins (G.export h w o b c d p ms types names g) = begins_by _ _ refl

pub record_field_begins : {f : Node RecFieldKind} → IsRecordField f → BeginsAt f.place (record_field_tokens f)
record_field_begins (G.record_field p ds ts name e t h k) = begins_by _ _ refl

pub record_begins : {r : Node RecDefKind} → IsRecordDefinition r → BeginsAt r.place (record_definition_tokens r)
record_begins (G.record_definition h w o n c b d e p ms name fields g k) = begins_by _ _ refl

pub type_definition_begins : {d : Node TypeDefKind} → IsTypeDefinition d → BeginsAt d.place (type_definition_tokens d)
type_definition_begins (G.type_definition h w n o c m p ms opaque name params body g k) = begins_by _ _ refl

pub spec_clause_begins : {c : Node SpecClauseKind} → IsSpecClause c → BeginsAt c.place (spec_clause_tokens c)
spec_clause_begins (G.spec_clause o c a ms bs params result bounds i g h k l) = begins_by _ _ refl

pub spec_begins : {s : Node SpecKind} → IsSpec s → BeginsAt s.place (spec_tokens s)
spec_begins (G.spec h w n p ms name c cs g k) = begins_by _ _ refl

pub skipped_begins : {s : Node SkippedKind} → IsSkipped s → BeginsAt s.place (skipped_tokens s)
skipped_begins (G.skipped h w p ms name tokens i j k g l) = begins_by _ _ refl

pub function_clause_begins : (function : Name) {c : Node ClauseKind} → IsFunctionClause c → BeginsAt c.place (function_clause_tokens function c)
function_clause_begins function (G.function_clause n o c a ps w ns ws ms i is r g h k l q) = begins_by _ _ (function_clause-tokens function n (n ∷ o ∷ (ns ++ c ∷ (ws ++ a ∷ ms))) ps w (i ∷ is))

-- the clauses of a function behind its first clause
begins_with_clause : (name : Name) (p : Place) (ms : List Place) (c : Node ClauseKind) (cs : List (Node ClauseKind)) → BeginsAt c.place (function_clause_tokens name c) → BeginsAt c.place (function_tokens (record { name = name; place = p; marks = ms; clauses = c ∷ cs }))
begins_with_clause name p ms c [] b = begins_with (function_clause_tokens name c) _ refl b
begins_with_clause name p ms c (d ∷ ds) b = begins_with (function_clause_tokens name c) _ refl b

pub function_begins : {f : Function} → IsFunction f → BeginsAt f.place (function_tokens f)
function_begins (G.function name p ms c cs g k) = begins_with_clause name c.place (ms ++ p ∷ []) c cs (function_clause_begins name (k c (inl refl)))
