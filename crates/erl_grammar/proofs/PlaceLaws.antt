-- The place of a well-formed node is that of its first token.
use Rattle.std.proofs.Common.{◌≡◌, ℕ, List, [], ◌∷◌, ◌++◌, refl, ap, ◌∙◌, inl}
use Rattle.std.specs.Prelude.{Some, None, Bool, true, false, codes}
use Rattle.type_terms.specs.Keys.{Name}
use Rattle.erl_tree.specs.declared.token.Place.{Place}
use Rattle.erl_tree.specs.declared.token.Placed.{Placed}
use Rattle.erl_tree.specs.declared.token.Node.{Node}
use Rattle.erl_tree.specs.declared.token.Token.{Token}
use Rattle.erl_tree.specs.declared.pattern.LiteralKind.{LiteralKind}
use Rattle.erl_tree.specs.declared.pattern.PatternKind.{PatternKind}
use Rattle.erl_tree.specs.declared.expr.ExprKind.{ExprKind}
use Rattle.erl_tree.specs.declared.expr.ExprKind.TheVariants as X
use Rattle.erl_tree.specs.declared.expr.ItemKind.{ItemKind}
use Rattle.erl_tree.specs.declared.expr.ClauseKind.{ClauseKind}
use Rattle.erl_tree.specs.declared.expr.QualifierKind.{QualifierKind}
use Rattle.erl_tree.specs.declared.expr.AssocKind.{AssocKind}
use Rattle.erl_tree.specs.declared.expr.CatchKind.{CatchKind}
use Rattle.erl_grammar.specs.declared.head.Head.{Head}
use Rattle.erl_grammar.specs.Pieces.{at, BeginsAt}
use Rattle.erl_grammar.specs.Spelling.{literal_tokens, pattern_tokens, pattern_entry_tokens, pattern_field_tokens, expr_tokens, item_tokens, qualifier_tokens, assoc_tokens, catch_tokens, case_clause_tokens, if_clause_tokens, fun_clause_tokens, expr_field_tokens, expr_guard_tokens}
use Rattle.erl_grammar.specs.Grammar.{node, IsKey, IsPattern, IsSimplePattern, IsEntry, IsFieldPattern, IsClass, IsExpr, IsPostfix, IsItem, IsQualifier, IsAssoc, IsField, IsGuard, IsCaseClause, IsIfClause, IsFunClause, IsCatch}
use Rattle.erl_grammar.specs.Grammar as G
use Rattle.erl_grammar.proofs.SpellingLaws as S

pub begins_by : {p : Place} {ts : List Placed} (first : Token) (others : List Placed) → ts ≡ at first p ∷ others → BeginsAt p ts
begins_by first others e = record { first = first; others = others; in_turn = e }

-- the tokens of a part, and others behind them
pub begins_with : {p : Place} {ts : List Placed} (us vs : List Placed) → ts ≡ us ++ vs → BeginsAt p us → BeginsAt p ts
begins_with us vs e b = record { first = b.first; others = b.others ++ vs; in_turn = e ∙ ap (λ ws. ws ++ vs) b.in_turn }

-- ---- patterns

pub key_begins : {k : Node LiteralKind} → IsKey k → BeginsAt k.place (literal_tokens k)
key_begins (G.atom_key p a) = begins_by _ _ refl
key_begins (G.integer_key p n) = begins_by _ _ refl
key_begins (G.negative_key h p n) = begins_by _ _ refl
key_begins (G.character_key p c) = begins_by _ _ refl

pub simple_begins : {p : Node PatternKind} → IsSimplePattern p → BeginsAt p.place (pattern_tokens p)
simple_begins (G.atom_pattern p a) = begins_by _ _ (S.pattern_shown-Atom a _)
simple_begins (G.integer_pattern p n) = begins_by _ _ (S.pattern_shown-Int n _)
simple_begins (G.negative_pattern h p n) = begins_by _ _ (S.pattern_shown-NegInt n _)
simple_begins (G.character_pattern p c) = begins_by _ _ (S.pattern_shown-Char c _)
simple_begins (G.string_pattern p s) = begins_by _ _ (S.pattern_shown-Str s _)
simple_begins (G.variable_pattern p x) = begins_by _ _ (S.pattern_shown-Var x _)
simple_begins (G.paren_pattern o c p h) = begins_by _ _ (S.pattern_shown-Paren p _)
simple_begins (G.tuple_pattern o c ms ps g h) = begins_by _ _ (S.pattern_shown-Tuple ps _)
simple_begins (G.list_pattern o c ms ps g h) = begins_by _ _ (S.pattern_shown-Cells ps None _)
simple_begins (G.cells_pattern o b c ms p t ps g h k) = begins_by _ _ (S.pattern_shown-Cells (p ∷ ps) (Some t) _)
simple_begins (G.map_pattern h o c ms entries g k) = begins_by _ _ (S.pattern_shown-Map entries _)
simple_begins (G.record_pattern h n o c ms name fields g k) = begins_by _ _ (S.pattern_shown-Rec name name fields _)

pub pattern_begins : {p : Node PatternKind} → IsPattern p → BeginsAt p.place (pattern_tokens p)
pattern_begins (G.one_pattern p h) = simple_begins h
pattern_begins (G.alias p q m h k) = begins_with (pattern_tokens p) _ (S.pattern_shown-Alias p q _) (simple_begins h)

pub entry_begins : {n : Node (Node LiteralKind × Node PatternKind)} → IsEntry n → BeginsAt n.place (pattern_entry_tokens n)
entry_begins (G.entry k p m h i) = begins_with (literal_tokens k) _ refl (key_begins h)

pub field_pattern_begins : {f : Node (Name × Node PatternKind)} → IsFieldPattern f → BeginsAt f.place (pattern_field_tokens f)
field_pattern_begins (G.field_pattern n m field p h) = begins_by _ _ refl

class_begins : {p : Node PatternKind} → IsClass p → BeginsAt p.place (pattern_tokens p)
class_begins (G.atom_class p a) = begins_by _ _ (S.pattern_shown-Atom a _)
class_begins (G.variable_class p x) = begins_by _ _ (S.pattern_shown-Var x _)

-- ---- expressions

pub postfix_begins : {head : Head} {e : Node ExprKind} → IsPostfix head e → BeginsAt e.place (expr_tokens e)
postfix_begins (G.atom p a) = begins_by _ _ (S.expr_shown-Atom a _)
postfix_begins (G.integer p n) = begins_by _ _ (S.expr_shown-Int n _)
postfix_begins (G.character p c) = begins_by _ _ (S.expr_shown-Char c _)
postfix_begins (G.string p s) = begins_by _ _ (S.expr_shown-Str s _)
postfix_begins (G.variable p x) = begins_by _ _ (S.expr_shown-Var x _)
postfix_begins (G.parens o c e h) = begins_by _ _ (S.expr_shown-Paren e _)
postfix_begins (G.tuple o c ms es g h) = begins_by _ _ (S.expr_shown-Tuple es _)
postfix_begins (G.list o c ms es g h) = begins_by _ _ (S.expr_shown-Cells es None _)
postfix_begins (G.cells o b c ms e t es g h k) = begins_by _ _ (S.expr_shown-Cells (e ∷ es) (Some t) _)
postfix_begins (G.comprehension o b c ms e q qs h g k) = begins_by _ _ (S.expr_shown-Comp e (q ∷ qs) _)
postfix_begins (G.call n o c ms name args i g h) = begins_by _ _ (S.expr_shown-Call None name args _)
postfix_begins (G.prefixed_call p d n o c ms name args i g h) = begins_by _ _ (S.expr_shown-Call (Some (codes "erlang")) name args _)
postfix_begins (G.variable_applied p o c ms x args g h) = begins_with (expr_tokens (node p (p ∷ []) (X.Var x))) _ (S.expr_shown-Apply (node p (p ∷ []) (X.Var x)) args _) (begins_by _ _ (S.expr_shown-Var x _))
postfix_begins (G.parens_applied p q o c ms f args h g k) = begins_with (expr_tokens (node p (p ∷ q ∷ []) (X.Paren f))) _ (S.expr_shown-Apply (node p (p ∷ q ∷ []) (X.Paren f)) args _) (begins_by _ _ (S.expr_shown-Paren f _))
postfix_begins (G.new_map h o c ms assocs g k) = begins_by _ _ (S.expr_shown-MapNew assocs _)
postfix_begins (G.changed_map head h o c ms e assocs i k g l) = begins_with (expr_tokens e) _ (S.expr_shown-MapChange e assocs _) (postfix_begins k)
postfix_begins (G.new_record h n o c ms name fields g k) = begins_by _ _ (S.expr_shown-RecNew name name fields _)
postfix_begins (G.changed_record head h n o c ms e name fields i k g l) = begins_with (expr_tokens e) _ (S.expr_shown-RecChange e name name fields _) (postfix_begins k)
postfix_begins (G.record_field head h n d f e name field i k) = begins_with (expr_tokens e) _ (S.expr_shown-RecGet e name name field _) (postfix_begins k)
postfix_begins (G.begin_end b e ms i is g h) = begins_by _ _ (S.expr_shown-Begin (i ∷ is) _)
postfix_begins (G.case_of p o e ms subject c cs h g k) = begins_by _ _ (S.expr_shown-Case subject (c ∷ cs) _)
postfix_begins (G.if_end p e ms c cs g h) = begins_by _ _ (S.expr_shown-If (c ∷ cs) _)
postfix_begins (G.fun_name p n s a name arity) = begins_by _ _ (S.expr_shown-FunName name arity _)
postfix_begins (G.fun_end p e ms c cs g h) = begins_by _ _ (S.expr_shown-Fun (c ∷ cs) _)
postfix_begins (G.try_end p e ms os cs ns i body of_clauses catches after g h j k l m n q r) = begins_by _ _ (S.expr_shown-Try (i ∷ body) of_clauses catches after _)

pub expr_begins : {least : ℕ} {e : Node ExprKind} → IsExpr least e → BeginsAt e.place (expr_tokens e)
expr_begins (G.operation least op a b m l h k) = begins_with (expr_tokens a) _ (S.expr_shown-Binary op a b _) (expr_begins h)
expr_begins (G.unary least op p e l h) = begins_by _ _ (S.expr_shown-Unary op e _)
expr_begins (G.postfix least head e h) = postfix_begins h

-- ---- parts of expressions

pub item_begins : {i : Node ItemKind} → IsItem i → BeginsAt i.place (item_tokens i)
item_begins (G.value e h) = begins_with (expr_tokens e) _ (S.item_shown-Value e _) (expr_begins h)
item_begins (G.match_item p e m h k) = begins_with (pattern_tokens p) _ (S.item_shown-Match p e _) (pattern_begins h)

pub qualifier_begins : {q : Node QualifierKind} → IsQualifier q → BeginsAt q.place (qualifier_tokens q)
qualifier_begins (G.generator p e m h k) = begins_with (pattern_tokens p) _ (S.qualifier_shown-Generator p e _) (pattern_begins h)
qualifier_begins (G.filter e h) = begins_with (expr_tokens e) _ (S.qualifier_shown-Filter e _) (expr_begins h)

pub assoc_begins : {may_be_exact : Bool} {a : Node AssocKind} → IsAssoc may_be_exact a → BeginsAt a.place (assoc_tokens a)
assoc_begins (G.added may_be_exact k v m h g) = begins_with (expr_tokens k) _ (S.assoc_shown-assoc_of k false v _) (expr_begins h)
assoc_begins (G.exact k v m h g) = begins_with (expr_tokens k) _ (S.assoc_shown-assoc_of k true v _) (expr_begins h)

pub field_begins : {f : Node (Name × Node ExprKind)} → IsField f → BeginsAt f.place (expr_field_tokens f)
field_begins (G.field n m name e h) = begins_by _ _ refl

-- the tests and alternatives of a guard behind its first test
begins_with_test : (p : Place) (ms : List Place) (t : Node ExprKind) (ts : List (Node ExprKind)) (alternatives : List (List (Node ExprKind))) → BeginsAt t.place (expr_tokens t) → BeginsAt t.place (expr_guard_tokens (node p ms ((t ∷ ts) ∷ alternatives)))
begins_with_test p ms t [] [] b = begins_with (expr_tokens t) _ refl b
begins_with_test p ms t [] (us ∷ uss) b = begins_with (expr_tokens t) _ refl b
begins_with_test p ms t (u ∷ ts) [] b = begins_with (expr_tokens t) _ refl b
begins_with_test p ms t (u ∷ ts) (us ∷ uss) b = begins_with (expr_tokens t) _ refl b

pub guard_begins : {g : Node (List (List (Node ExprKind)))} → IsGuard g → BeginsAt g.place (expr_guard_tokens g)
guard_begins (G.guard ms t ts alternatives n g h k) = begins_with_test t.place ms t ts alternatives (expr_begins (h t (inl refl)))

pub case_clause_begins : {c : Node ClauseKind} → IsCaseClause c → BeginsAt c.place (case_clause_tokens c)
case_clause_begins (G.case_clause p w a ws ms i is h k g l) = begins_with (pattern_tokens p) _ (S.case_clause-tokens p.place _ (p ∷ []) w (i ∷ is)) (pattern_begins h)

pub if_clause_begins : {c : Node ClauseKind} → IsIfClause c → BeginsAt c.place (if_clause_tokens c)
if_clause_begins (G.if_clause g a ms i is h k l) = begins_with (expr_guard_tokens g) _ (S.if_clause-tokens g.place _ [] (Some g) (i ∷ is)) (guard_begins h)

pub fun_clause_begins : {c : Node ClauseKind} → IsFunClause c → BeginsAt c.place (fun_clause_tokens c)
fun_clause_begins (G.fun_clause o c a ps w ns ws ms i is r g h k l q) = begins_by _ _ (S.fun_clause-tokens o (o ∷ (ns ++ c ∷ (ws ++ a ∷ ms))) ps w (i ∷ is))

pub catch_begins : {c : Node CatchKind} → IsCatch c → BeginsAt c.place (catch_tokens c)
catch_begins (G.thrown c h) = begins_with (case_clause_tokens c) _ (S.catch_shown-catch_of None c _) (case_clause_begins h)
catch_begins (G.of_class p m c h k) = begins_with (pattern_tokens p) _ (S.catch_shown-catch_of (Some p) c _) (class_begins h)
