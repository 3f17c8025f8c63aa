-- A well-formed node has as many marks as tokens of its own.
use Rattle.std.proofs.Common.{◌≡◌, ℕ, suc, List, [], ◌∷◌, ◌++◌, refl, ap, ◌∙◌, map, length, arith}
use Rattle.std.proofs.lemmas.List.{append_assoc}
use Rattle.std.specs.Prelude.{Option, Some, None, Bool, true, false, codes}
use Rattle.type_terms.specs.Keys.{Name}
use Rattle.erl_tree.specs.declared.token.Place.{Place}
use Rattle.erl_tree.specs.declared.token.Placed.{Placed}
use Rattle.erl_tree.specs.declared.token.Node.{Node}
use Rattle.erl_tree.specs.declared.token.Token.{Token}
use Rattle.erl_tree.specs.declared.token.Token.TheVariants as T
use Rattle.erl_tree.specs.declared.pattern.LiteralKind.{LiteralKind}
use Rattle.erl_tree.specs.declared.pattern.PatternKind.{PatternKind}
use Rattle.erl_tree.specs.declared.expr.ExprKind.{ExprKind}
use Rattle.erl_tree.specs.declared.expr.ExprKind.TheVariants as X
use Rattle.erl_tree.specs.declared.expr.ItemKind.{ItemKind}
use Rattle.erl_tree.specs.declared.expr.ClauseKind.{ClauseKind}
use Rattle.erl_tree.specs.declared.expr.QualifierKind.{QualifierKind}
use Rattle.erl_tree.specs.declared.expr.AssocKind.{AssocKind}
use Rattle.erl_tree.specs.declared.expr.CatchKind.{CatchKind}
use Rattle.erl_grammar.specs.declared.head.Head.{Head}
use Rattle.erl_grammar.specs.Pieces.{Piece, own, inner, fill, mark, word, name, separated, commas, semicolons, between, owned, HasMarks, HasMarkEach}
use Rattle.erl_grammar.specs.Operators.{unary_token, operator_token}
use Rattle.erl_grammar.specs.Spelling.{literal_tokens, association_text, optional_guard, when_pieces, body_pieces, expr_guard_tokens, tail_pieces, map_pieces, record_pieces, prefix_pieces, argument_pieces, pattern_tokens, pattern_entry_tokens, pattern_field_tokens, of_pieces, catch_pieces, after_pieces, expr_tokens, item_tokens, qualifier_tokens, assoc_tokens, catch_tokens, case_clause_tokens, if_clause_tokens, fun_clause_tokens, expr_field_tokens}
use Rattle.erl_grammar.specs.Grammar.{node, AreSeparators, HavePartMarks, HasAfterMarks, NoneEmpty, all_of, IsKey, IsPattern, IsSimplePattern, IsEntry, IsFieldPattern, IsExpr, IsPostfix, IsItem, IsQualifier, IsAssoc, IsField, IsGuard, IsWhen, IsCaseClause, IsIfClause, IsFunClause, IsCatch}
use Rattle.erl_grammar.specs.Grammar as G
use Rattle.erl_grammar.proofs.SpellingLaws as S

pub as_pieces : {text : List Place → List Placed} {marks : List Place} (pieces : List Piece) → ((ms : List Place) → text ms ≡ fill pieces ms) → owned pieces ≡ length marks → HasMarks text marks
as_pieces pieces e n = record { pieces = pieces; written = e; as_many = n }

-- pieces, and others behind them
pub joined : (ps qs : List Piece) (ms ns : List Place) → owned ps ≡ length ms → owned qs ≡ length ns → owned (ps ++ qs) ≡ length (ms ++ ns)
joined [] qs [] ns e f = f
joined [] qs (m ∷ ms) ns e f = absurd (omega arith)
joined (inner ts ∷ ps) qs ms ns e f = joined ps qs ms ns e f
joined (own t ∷ ps) qs [] ns e f = absurd (omega arith)
joined (own t ∷ ps) qs (m ∷ ms) ns e f = ap suc (joined ps qs ms ns (omega arith) f)

-- pieces, others behind them, and what stands behind those
pub nested : (ps qs rs : List Piece) (ms ns : List Place) → owned ps ≡ length ms → owned (qs ++ rs) ≡ length ns → owned ((ps ++ qs) ++ rs) ≡ length (ms ++ ns)
nested ps qs rs ms ns e f = ap owned (append_assoc ps qs rs) ∙ joined ps (qs ++ rs) ms ns e f

-- the separators of parts
pub only_gaps : {A : Type 0} (t : Token) (tokens : A → List Placed) (xs : List A) (ms : List Place) → AreSeparators xs ms → owned (separated t (map tokens xs)) ≡ length ms
only_gaps t tokens [] [] g = refl
only_gaps t tokens [] (m ∷ ms) g = elim g [ ]
only_gaps t tokens (x ∷ []) [] g = refl
only_gaps t tokens (x ∷ []) (m ∷ ms) g = elim g [ ]
only_gaps t tokens (x ∷ y ∷ ys) [] g = elim g [ ]
only_gaps t tokens (x ∷ y ∷ ys) (m ∷ ms) g = ap suc (only_gaps t tokens (y ∷ ys) ms g)

-- the separators of parts, and what stands behind the last part
pub gaps : {A : Type 0} (t : Token) (tokens : A → List Placed) (xs : List A) (ms : List Place) (ps : List Piece) (ns : List Place) → AreSeparators xs ms → owned ps ≡ length ns → owned (separated t (map tokens xs) ++ ps) ≡ length (ms ++ ns)
gaps t tokens xs ms ps ns g e = joined (separated t (map tokens xs)) ps ms ns (only_gaps t tokens xs ms g) e

-- parts between marks that open and close
pub closed : {A : Type 0} (tokens : A → List Placed) (xs : List A) (ms : List Place) (closing : Token) (c : Place) → AreSeparators xs ms → owned (commas (map tokens xs) ++ own closing ∷ []) ≡ length (ms ++ c ∷ [])
closed tokens xs ms closing c g = gaps (T.Mark (codes ",")) tokens xs ms (own closing ∷ []) (c ∷ []) g refl

clauses : {A : Type 0} (tokens : A → List Placed) (xs : List A) (ms : List Place) (c : Place) → AreSeparators xs ms → owned (semicolons (map tokens xs) ++ word (codes "end") ∷ []) ≡ length (ms ++ c ∷ [])
clauses tokens xs ms c g = gaps (T.Mark (codes ";")) tokens xs ms (word (codes "end") ∷ []) (c ∷ []) g refl

-- the parts of a `try`
of_part : {A : Type 0} (tokens : A → List Placed) (xs : List A) (ms : List Place) (ps : List Piece) (ns : List Place) → HavePartMarks xs ms → owned ps ≡ length ns → owned (of_pieces (map tokens xs) ++ ps) ≡ length (ms ++ ns)
of_part tokens [] [] ps ns g e = e
of_part tokens [] (w ∷ ms) ps ns g e = elim g [ ]
of_part tokens (x ∷ xs) [] ps ns g e = elim g [ ]
of_part tokens (x ∷ xs) (w ∷ ms) ps ns g e = ap suc (gaps (T.Mark (codes ";")) tokens (x ∷ xs) ms ps ns g e)

catch_part : {A : Type 0} (tokens : A → List Placed) (xs : List A) (ms : List Place) (ps : List Piece) (ns : List Place) → HavePartMarks xs ms → owned ps ≡ length ns → owned (catch_pieces (map tokens xs) ++ ps) ≡ length (ms ++ ns)
catch_part tokens [] [] ps ns g e = e
catch_part tokens [] (w ∷ ms) ps ns g e = elim g [ ]
catch_part tokens (x ∷ xs) [] ps ns g e = elim g [ ]
catch_part tokens (x ∷ xs) (w ∷ ms) ps ns g e = ap suc (gaps (T.Mark (codes ";")) tokens (x ∷ xs) ms ps ns g e)

after_part : {A : Type 0} (tokens : A → List Placed) (after : Option (List A)) (ms : List Place) (ps : List Piece) (ns : List Place) → HasAfterMarks after ms → owned ps ≡ length ns → owned (after_pieces tokens after ++ ps) ≡ length (ms ++ ns)
after_part tokens None [] ps ns g e = e
after_part tokens None (w ∷ ms) ps ns g e = elim g [ ]
after_part tokens (Some []) ms ps ns g e = elim g [ ]
after_part tokens (Some (x ∷ xs)) [] ps ns g e = elim g [ ]
after_part tokens (Some (x ∷ xs)) (w ∷ ms) ps ns g e = ap suc (gaps (T.Mark (codes ",")) tokens (x ∷ xs) ms ps ns g e)

-- ---- patterns

simple_marks : {p : Node PatternKind} → IsSimplePattern p → HasMarkEach pattern_tokens p
simple_marks (G.atom_pattern p a) = as_pieces (name a ∷ []) (S.pattern_shown-Atom a) refl
simple_marks (G.integer_pattern p n) = as_pieces (own (T.Int n) ∷ []) (S.pattern_shown-Int n) refl
simple_marks (G.negative_pattern h p n) = as_pieces (mark (codes "-") ∷ own (T.Int n) ∷ []) (S.pattern_shown-NegInt n) refl
simple_marks (G.character_pattern p c) = as_pieces (own (T.Char c) ∷ []) (S.pattern_shown-Char c) refl
simple_marks (G.string_pattern p s) = as_pieces (own (T.Str s) ∷ []) (S.pattern_shown-Str s) refl
simple_marks (G.variable_pattern p x) = as_pieces (own (T.Var x) ∷ []) (S.pattern_shown-Var x) refl
simple_marks (G.paren_pattern o c p h) = as_pieces (mark (codes "(") ∷ inner (pattern_tokens p) ∷ mark (codes ")") ∷ []) (S.pattern_shown-Paren p) refl
simple_marks (G.tuple_pattern o c ms ps g h) = as_pieces (mark (codes "{") ∷ (commas (map pattern_tokens ps) ++ mark (codes "}") ∷ [])) (S.pattern_shown-Tuple ps) (ap suc (closed pattern_tokens ps ms (T.Mark (codes "}")) c g))
simple_marks (G.list_pattern o c ms ps g h) = as_pieces (mark (codes "[") ∷ (commas (map pattern_tokens ps) ++ tail_pieces pattern_tokens None)) (S.pattern_shown-Cells ps None) (ap suc (closed pattern_tokens ps ms (T.Mark (codes "]")) c g))
simple_marks (G.cells_pattern o b c ms p t ps g h k) = as_pieces (mark (codes "[") ∷ (commas (map pattern_tokens (p ∷ ps)) ++ tail_pieces pattern_tokens (Some t))) (S.pattern_shown-Cells (p ∷ ps) (Some t)) (ap suc (gaps (T.Mark (codes ",")) pattern_tokens (p ∷ ps) ms _ (b ∷ c ∷ []) g refl))
simple_marks (G.map_pattern h o c ms entries g k) = as_pieces (map_pieces (map pattern_entry_tokens entries)) (S.pattern_shown-Map entries) (ap (λ n. suc (suc n)) (closed pattern_entry_tokens entries ms (T.Mark (codes "}")) c g))
simple_marks (G.record_pattern h n o c ms name fields g k) = as_pieces (record_pieces name (map pattern_field_tokens fields)) (S.pattern_shown-Rec name name fields) (ap (λ n. suc (suc (suc n))) (closed pattern_field_tokens fields ms (T.Mark (codes "}")) c g))

pub pattern_marks : {p : Node PatternKind} → IsPattern p → HasMarkEach pattern_tokens p
pattern_marks (G.one_pattern p h) = simple_marks h
pattern_marks (G.alias p q m h k) = as_pieces (inner (pattern_tokens p) ∷ mark (codes "=") ∷ inner (pattern_tokens q) ∷ []) (S.pattern_shown-Alias p q) refl

-- ---- expressions

postfix_marks : {head : Head} {e : Node ExprKind} → IsPostfix head e → HasMarkEach expr_tokens e
postfix_marks (G.atom p a) = as_pieces (name a ∷ []) (S.expr_shown-Atom a) refl
postfix_marks (G.integer p n) = as_pieces (own (T.Int n) ∷ []) (S.expr_shown-Int n) refl
postfix_marks (G.character p c) = as_pieces (own (T.Char c) ∷ []) (S.expr_shown-Char c) refl
postfix_marks (G.string p s) = as_pieces (own (T.Str s) ∷ []) (S.expr_shown-Str s) refl
postfix_marks (G.variable p x) = as_pieces (own (T.Var x) ∷ []) (S.expr_shown-Var x) refl
postfix_marks (G.parens o c e h) = as_pieces (mark (codes "(") ∷ inner (expr_tokens e) ∷ mark (codes ")") ∷ []) (S.expr_shown-Paren e) refl
postfix_marks (G.tuple o c ms es g h) = as_pieces (mark (codes "{") ∷ (commas (map expr_tokens es) ++ mark (codes "}") ∷ [])) (S.expr_shown-Tuple es) (ap suc (closed expr_tokens es ms (T.Mark (codes "}")) c g))
postfix_marks (G.list o c ms es g h) = as_pieces (mark (codes "[") ∷ (commas (map expr_tokens es) ++ tail_pieces expr_tokens None)) (S.expr_shown-Cells es None) (ap suc (closed expr_tokens es ms (T.Mark (codes "]")) c g))
postfix_marks (G.cells o b c ms e t es g h k) = as_pieces (mark (codes "[") ∷ (commas (map expr_tokens (e ∷ es)) ++ tail_pieces expr_tokens (Some t))) (S.expr_shown-Cells (e ∷ es) (Some t)) (ap suc (gaps (T.Mark (codes ",")) expr_tokens (e ∷ es) ms _ (b ∷ c ∷ []) g refl))
postfix_marks (G.comprehension o b c ms e q qs h g k) = as_pieces (mark (codes "[") ∷ inner (expr_tokens e) ∷ mark (codes "||") ∷ (commas (map qualifier_tokens (q ∷ qs)) ++ mark (codes "]") ∷ [])) (S.expr_shown-Comp e (q ∷ qs)) (ap (λ n. suc (suc n)) (closed qualifier_tokens (q ∷ qs) ms (T.Mark (codes "]")) c g))
postfix_marks (G.call n o c ms given args i g h) = as_pieces (prefix_pieces None ++ name given ∷ argument_pieces (map expr_tokens args)) (S.expr_shown-Call None given args) (ap (λ n. suc (suc n)) (closed expr_tokens args ms (T.Mark (codes ")")) c g))
postfix_marks (G.prefixed_call p d n o c ms given args i g h) = as_pieces (prefix_pieces (Some (codes "erlang")) ++ name given ∷ argument_pieces (map expr_tokens args)) (S.expr_shown-Call (Some (codes "erlang")) given args) (ap (λ n. suc (suc (suc (suc n)))) (closed expr_tokens args ms (T.Mark (codes ")")) c g))
postfix_marks (G.variable_applied p o c ms x args g h) = as_pieces (inner (expr_tokens (node p (p ∷ []) (X.Var x))) ∷ argument_pieces (map expr_tokens args)) (S.expr_shown-Apply (node p (p ∷ []) (X.Var x)) args) (ap suc (closed expr_tokens args ms (T.Mark (codes ")")) c g))
postfix_marks (G.parens_applied p q o c ms f args h g k) = as_pieces (inner (expr_tokens (node p (p ∷ q ∷ []) (X.Paren f))) ∷ argument_pieces (map expr_tokens args)) (S.expr_shown-Apply (node p (p ∷ q ∷ []) (X.Paren f)) args) (ap suc (closed expr_tokens args ms (T.Mark (codes ")")) c g))
postfix_marks (G.new_map h o c ms assocs g k) = as_pieces (map_pieces (map assoc_tokens assocs)) (S.expr_shown-MapNew assocs) (ap (λ n. suc (suc n)) (closed assoc_tokens assocs ms (T.Mark (codes "}")) c g))
postfix_marks (G.changed_map head h o c ms e assocs i k g l) = as_pieces (inner (expr_tokens e) ∷ map_pieces (map assoc_tokens assocs)) (S.expr_shown-MapChange e assocs) (ap (λ n. suc (suc n)) (closed assoc_tokens assocs ms (T.Mark (codes "}")) c g))
postfix_marks (G.new_record h n o c ms name fields g k) = as_pieces (record_pieces name (map expr_field_tokens fields)) (S.expr_shown-RecNew name name fields) (ap (λ n. suc (suc (suc n))) (closed expr_field_tokens fields ms (T.Mark (codes "}")) c g))
postfix_marks (G.changed_record head h n o c ms e name fields i k g l) = as_pieces (inner (expr_tokens e) ∷ record_pieces name (map expr_field_tokens fields)) (S.expr_shown-RecChange e name name fields) (ap (λ n. suc (suc (suc n))) (closed expr_field_tokens fields ms (T.Mark (codes "}")) c g))
postfix_marks (G.record_field head h n d f e given field i k) = as_pieces (inner (expr_tokens e) ∷ mark (codes "#") ∷ name given ∷ mark (codes ".") ∷ name field ∷ []) (S.expr_shown-RecGet e given given field) refl
postfix_marks (G.begin_end b e ms i is g h) = as_pieces (word (codes "begin") ∷ (commas (map item_tokens (i ∷ is)) ++ word (codes "end") ∷ [])) (S.expr_shown-Begin (i ∷ is)) (ap suc (closed item_tokens (i ∷ is) ms (T.Word (codes "end")) e g))
postfix_marks (G.case_of p o e ms subject c cs h g k) = as_pieces (word (codes "case") ∷ inner (expr_tokens subject) ∷ word (codes "of") ∷ (semicolons (map case_clause_tokens (c ∷ cs)) ++ word (codes "end") ∷ [])) (S.expr_shown-Case subject (c ∷ cs)) (ap (λ n. suc (suc n)) (clauses case_clause_tokens (c ∷ cs) ms e g))
postfix_marks (G.if_end p e ms c cs g h) = as_pieces (word (codes "if") ∷ (semicolons (map if_clause_tokens (c ∷ cs)) ++ word (codes "end") ∷ [])) (S.expr_shown-If (c ∷ cs)) (ap suc (clauses if_clause_tokens (c ∷ cs) ms e g))
postfix_marks (G.fun_name p n s a given arity) = as_pieces (word (codes "fun") ∷ name given ∷ mark (codes "/") ∷ own (T.Int arity) ∷ []) (S.expr_shown-FunName given arity) refl
postfix_marks (G.fun_end p e ms c cs g h) = as_pieces (word (codes "fun") ∷ (semicolons (map fun_clause_tokens (c ∷ cs)) ++ word (codes "end") ∷ [])) (S.expr_shown-Fun (c ∷ cs)) (ap suc (clauses fun_clause_tokens (c ∷ cs) ms e g))
postfix_marks (G.try_end p e ms os cs ns i body of_clauses catches after g h j k l q r t x) = as_pieces (word (codes "try") ∷ (commas (map item_tokens (i ∷ body)) ++ (of_pieces (map case_clause_tokens of_clauses) ++ (catch_pieces (map catch_tokens catches) ++ (after_pieces item_tokens after ++ word (codes "end") ∷ []))))) (S.expr_shown-Try (i ∷ body) of_clauses catches after)
    (ap suc (gaps (T.Mark (codes ",")) item_tokens (i ∷ body) ms _ _ g
    (of_part case_clause_tokens of_clauses os _ _ j
    (catch_part catch_tokens catches cs _ _ l
    (after_part item_tokens after ns _ (e ∷ []) r refl)))))

pub expr_marks : {least : ℕ} {e : Node ExprKind} → IsExpr least e → HasMarkEach expr_tokens e
expr_marks (G.operation least op a b m l h k) = as_pieces (inner (expr_tokens a) ∷ own (operator_token op) ∷ inner (expr_tokens b) ∷ []) (S.expr_shown-Binary op a b) refl
expr_marks (G.unary least op p e l h) = as_pieces (own (unary_token op) ∷ inner (expr_tokens e) ∷ []) (S.expr_shown-Unary op e) refl
expr_marks (G.postfix least head e h) = postfix_marks h

-- ---- keys, entries and fields

pub key_marks : {k : Node LiteralKind} → IsKey k → HasMarkEach literal_tokens k
key_marks (G.atom_key p a) = as_pieces (name a ∷ []) (λ ms. refl) refl
key_marks (G.integer_key p n) = as_pieces (own (T.Int n) ∷ []) (λ ms. refl) refl
key_marks (G.negative_key h p n) = as_pieces (mark (codes "-") ∷ own (T.Int n) ∷ []) (λ ms. refl) refl
key_marks (G.character_key p c) = as_pieces (own (T.Char c) ∷ []) (λ ms. refl) refl

pub entry_marks : {n : Node (Node LiteralKind × Node PatternKind)} → IsEntry n → HasMarkEach pattern_entry_tokens n
entry_marks (G.entry k p m h i) = as_pieces (inner (literal_tokens k) ∷ mark (codes ":=") ∷ inner (pattern_tokens p) ∷ []) (λ ms. refl) refl

pub field_pattern_marks : {f : Node (Name × Node PatternKind)} → IsFieldPattern f → HasMarkEach pattern_field_tokens f
field_pattern_marks (G.field_pattern n m field p h) = as_pieces (name field ∷ mark (codes "=") ∷ inner (pattern_tokens p) ∷ []) (λ ms. refl) refl

pub field_marks : {f : Node (Name × Node ExprKind)} → IsField f → HasMarkEach expr_field_tokens f
field_marks (G.field n m field e h) = as_pieces (name field ∷ mark (codes "=") ∷ inner (expr_tokens e) ∷ []) (λ ms. refl) refl

-- ---- elements of bodies, qualifiers and associations

pub item_marks : {i : Node ItemKind} → IsItem i → HasMarkEach item_tokens i
item_marks (G.value e h) = as_pieces (inner (expr_tokens e) ∷ []) (S.item_shown-Value e) refl
item_marks (G.match_item p e m h k) = as_pieces (inner (pattern_tokens p) ∷ mark (codes "=") ∷ inner (expr_tokens e) ∷ []) (S.item_shown-Match p e) refl

pub qualifier_marks : {q : Node QualifierKind} → IsQualifier q → HasMarkEach qualifier_tokens q
qualifier_marks (G.generator p e m h k) = as_pieces (inner (pattern_tokens p) ∷ mark (codes "<-") ∷ inner (expr_tokens e) ∷ []) (S.qualifier_shown-Generator p e) refl
qualifier_marks (G.filter e h) = as_pieces (inner (expr_tokens e) ∷ []) (S.qualifier_shown-Filter e) refl

pub assoc_marks : {may_be_exact : Bool} {a : Node AssocKind} → IsAssoc may_be_exact a → HasMarkEach assoc_tokens a
assoc_marks (G.added may_be_exact k v m h g) = as_pieces (inner (expr_tokens k) ∷ mark (association_text false) ∷ inner (expr_tokens v) ∷ []) (S.assoc_shown-assoc_of k false v) refl
assoc_marks (G.exact k v m h g) = as_pieces (inner (expr_tokens k) ∷ mark (association_text true) ∷ inner (expr_tokens v) ∷ []) (S.assoc_shown-assoc_of k true v) refl

-- ---- guards and clauses

-- the pieces of a guard
abbrev guard_text : List (List (Node ExprKind)) → List Piece
guard_text alternatives = between (T.Mark (codes ";")) (map (λ tests. commas (map expr_tokens tests)) alternatives)

tests_and_alternatives : (alternatives : List (List (Node ExprKind))) (t : Node ExprKind) (ts : List (Node ExprKind)) (ms : List Place) → NoneEmpty alternatives → AreSeparators (all_of ((t ∷ ts) ∷ alternatives)) ms → owned (guard_text ((t ∷ ts) ∷ alternatives)) ≡ length ms
tests_and_alternatives [] t [] [] n g = refl
tests_and_alternatives [] t [] (m ∷ ms) n g = elim g [ ]
tests_and_alternatives ([] ∷ uss) t [] ms n g = elim n [ ]
tests_and_alternatives ((u ∷ us) ∷ uss) t [] [] n g = elim g [ ]
tests_and_alternatives ((u ∷ us) ∷ uss) t [] (m ∷ ms) n g = ap suc (tests_and_alternatives uss u us ms n g)
tests_and_alternatives [] t (u ∷ ts) [] n g = elim g [ ]
tests_and_alternatives [] t (u ∷ ts) (m ∷ ms) n g = ap suc (tests_and_alternatives [] u ts ms n g)
tests_and_alternatives (us ∷ uss) t (u ∷ ts) [] n g = elim g [ ]
tests_and_alternatives (us ∷ uss) t (u ∷ ts) (m ∷ ms) n g = ap suc (tests_and_alternatives (us ∷ uss) u ts ms n g)

pub guard_marks : {g : Node (List (List (Node ExprKind)))} → IsGuard g → HasMarkEach expr_guard_tokens g
guard_marks (G.guard ms t ts alternatives n g h k) = as_pieces (guard_text ((t ∷ ts) ∷ alternatives)) (λ ms. refl) (tests_and_alternatives alternatives t ts ms n g)

-- the elements of a body, behind which nothing stands
body : (is : List (Node ItemKind)) (ms : List Place) → AreSeparators is ms → owned (commas (map item_tokens is)) ≡ length ms
body is ms g = only_gaps (T.Mark (codes ",")) item_tokens is ms g

-- a guard, where there is one, and a body
pub when_and_body : {w : Option (Node (List (List (Node ExprKind))))} {ws : List Place} (a : Place) (is : List (Node ItemKind)) (ms : List Place) → IsWhen w ws → AreSeparators is ms → owned (when_pieces (optional_guard expr_tokens w) ++ body_pieces (map item_tokens is)) ≡ length (ws ++ a ∷ ms)
when_and_body a is ms G.no_guard g = ap suc (body is ms g)
when_and_body a is ms (G.when_guard w v h) g = ap (λ n. suc (suc n)) (body is ms g)

pub case_clause_marks : {c : Node ClauseKind} → IsCaseClause c → HasMarkEach case_clause_tokens c
case_clause_marks (G.case_clause p w a ws ms i is h k g l) = as_pieces (inner (pattern_tokens p) ∷ (when_pieces (optional_guard expr_tokens w) ++ body_pieces (map item_tokens (i ∷ is)))) (λ ns. S.case_clause-tokens p.place ns (p ∷ []) w (i ∷ is)) (when_and_body a (i ∷ is) ms k g)

pub if_clause_marks : {c : Node ClauseKind} → IsIfClause c → HasMarkEach if_clause_tokens c
if_clause_marks (G.if_clause v a ms i is h g l) = as_pieces (inner (expr_guard_tokens v) ∷ body_pieces (map item_tokens (i ∷ is))) (λ ns. S.if_clause-tokens v.place ns [] (Some v) (i ∷ is)) (ap suc (body (i ∷ is) ms g))

pub fun_clause_marks : {c : Node ClauseKind} → IsFunClause c → HasMarkEach fun_clause_tokens c
fun_clause_marks (G.fun_clause o c a ps w ns ws ms i is r g h k l q) = as_pieces (mark (codes "(") ∷ (commas (map pattern_tokens ps) ++ mark (codes ")") ∷ (when_pieces (optional_guard expr_tokens w) ++ body_pieces (map item_tokens (i ∷ is))))) (λ us. S.fun_clause-tokens o us ps w (i ∷ is))
    (ap suc (gaps (T.Mark (codes ",")) pattern_tokens ps ns _ (c ∷ (ws ++ a ∷ ms)) g (ap suc (when_and_body a (i ∷ is) ms k l))))

pub catch_marks : {c : Node CatchKind} → IsCatch c → HasMarkEach catch_tokens c
catch_marks (G.thrown c h) = as_pieces (inner (case_clause_tokens c) ∷ []) (S.catch_shown-catch_of None c) refl
catch_marks (G.of_class p m c h k) = as_pieces (inner (pattern_tokens p) ∷ mark (codes ":") ∷ inner (case_clause_tokens c) ∷ []) (S.catch_shown-catch_of (Some p) c) refl
