-- The tokens of patterns and expressions: one equation for each form.
use Rattle.std.proofs.Common.{◌≡◌, refl, ap, sym, ◌∙◌, ℕ, ℤ, List, [], ◌∷◌, ◌++◌, map}
use Rattle.std.specs.Prelude.{Option, Some, None, Bool, codes}
use Rattle.erl_tree.specs.declared.token.Place.{Place}
use Rattle.erl_tree.specs.declared.token.Placed.{Placed}
use Rattle.erl_tree.specs.declared.token.Node.{Node}
use Rattle.erl_tree.specs.declared.token.Token.TheVariants as T
use Rattle.erl_tree.specs.declared.pattern.LiteralKind.{LiteralKind}
use Rattle.erl_tree.specs.declared.pattern.PatternKind.{PatternKind, roll-PatternKind, map-PatternKind, fold-roll-PatternKind}
use Rattle.erl_tree.specs.declared.pattern.PatternKind.TheVariants as P
use Rattle.erl_tree.specs.declared.pattern.PatternKind.TheOpen as L
use Rattle.erl_tree.specs.declared.pattern.PatternKind.TheShapes as R
use Rattle.erl_tree.specs.declared.expr.UnaryOp.{UnaryOp}
use Rattle.erl_tree.specs.declared.expr.BinaryOp.{BinaryOp}
use Rattle.erl_tree.specs.declared.expr.ExprKind.{ExprKind, roll-ExprKind, map-ExprKind, fold-roll-ExprKind}
use Rattle.erl_tree.specs.declared.expr.ExprKind.TheVariants as X
use Rattle.erl_tree.specs.declared.expr.ExprKind.TheOpen as E
use Rattle.erl_tree.specs.declared.expr.ExprKind.TheShapes as S
use Rattle.erl_tree.specs.declared.expr.ItemKind.{ItemKind, roll-ItemKind, map-ItemKind, fold-roll-ItemKind}
use Rattle.erl_tree.specs.declared.expr.ItemKind.TheVariants as I
use Rattle.erl_tree.specs.declared.expr.ClauseKind.{ClauseKind, fold-roll-ClauseKind}
use Rattle.erl_tree.specs.declared.expr.QualifierKind.{QualifierKind, roll-QualifierKind, map-QualifierKind, fold-roll-QualifierKind}
use Rattle.erl_tree.specs.declared.expr.QualifierKind.TheVariants as Q
use Rattle.erl_tree.specs.declared.expr.AssocKind.{AssocKind, fold-roll-AssocKind}
use Rattle.erl_tree.specs.declared.expr.CatchKind.{CatchKind, fold-roll-CatchKind}
use Rattle.erl_grammar.specs.Pieces.{own, inner, fill, mark, word, name, between, commas, semicolons}
use Rattle.erl_grammar.specs.Operators.{unary_token, operator_token}
use Rattle.erl_grammar.specs.Spelling.{Shown, shown, entry_tokens, field_tokens, tail_pieces, map_pieces, record_pieces, pattern_pieces, pattern_shown, pattern_tokens, ClauseText, optional_guard, clause_text, when_pieces, guard_pieces, body_pieces, case_clause_shown, if_clause_shown, fun_clause_shown, of_pieces, catch_pieces, after_pieces, prefix_pieces, argument_pieces, expr_pieces, item_pieces, qualifier_pieces, association_text, assoc_pieces, class_pieces, caught_pieces, expr_shown, item_shown, qualifier_shown, assoc_shown, catch_shown, clause_parts, expr_tokens, item_tokens, qualifier_tokens, assoc_tokens, catch_tokens, case_clause_tokens, if_clause_tokens, fun_clause_tokens, pattern_entry_tokens, pattern_field_tokens, expr_field_tokens}
use Rattle.erl_grammar.specs.Grammar.{node, clause_of, assoc_of, catch_of}

-- ---- lists of parts, each with what is said of its kind put in place of the kind

pub shown_list : {A : Type 0} (say : A → Shown) (ns : List (Node A)) → map shown (S.former-ExprKind-Tuple-0.map A Shown say ns) ≡ map (λ (n : Node A). say n.kind n.marks) ns
shown_list say [] = refl
shown_list say (n ∷ ns) = ap (λ ts. say n.kind n.marks ∷ ts) (shown_list say ns)

shown_entries : {A : Type 0} (say : A → Shown) (ns : List (Node (Node LiteralKind × Node A))) → map (entry_tokens shown) (R.former-PatternKind-Map-0.map A Shown say ns) ≡ map (entry_tokens (λ (n : Node A). say n.kind n.marks)) ns
shown_entries say [] = refl
shown_entries say (n ∷ ns) = ap (λ ts. entry_tokens (λ p. say p.kind p.marks) n ∷ ts) (shown_entries say ns)

shown_fields : {A : Type 0} (say : A → Shown) (ns : List (Node (List ℕ × Node A))) → map (field_tokens shown) (S.former-ExprKind-RecNew-2.map A Shown say ns) ≡ map (field_tokens (λ (n : Node A). say n.kind n.marks)) ns
shown_fields say [] = refl
shown_fields say (n ∷ ns) = ap (λ ts. field_tokens (λ p. say p.kind p.marks) n ∷ ts) (shown_fields say ns)

shown_tail : {A : Type 0} (say : A → Shown) (tail : Option (Node A)) → tail_pieces shown (S.former-ExprKind-Cells-1.map A Shown say tail) ≡ tail_pieces (λ (n : Node A). say n.kind n.marks) tail
shown_tail say None = refl
shown_tail say (Some t) = refl

shown_clauses : (show : Node ClauseText → List Placed) (cs : List (Node ClauseKind)) → map show (S.former-ExprKind-Case-1.map ClauseKind ClauseText clause_parts cs) ≡ map (λ (c : Node ClauseKind). show (node c.place c.marks (clause_parts c.kind))) cs
shown_clauses show [] = refl
shown_clauses show (c ∷ cs) = ap (λ ts. show (node c.place c.marks (clause_parts c.kind)) ∷ ts) (shown_clauses show cs)

shown_tests : {A : Type 0} (say : A → Shown) (alternatives : List (List (Node A))) → map (λ tests. commas (map shown tests)) (S.former-ClauseKind-guard-at-8.map A Shown say alternatives) ≡ map (λ tests. commas (map (λ (n : Node A). say n.kind n.marks) tests)) alternatives
shown_tests say [] = refl
shown_tests {A = A} say (tests ∷ alternatives) = ap (λ ts. commas ts ∷ map (λ tests. commas (map shown tests)) (S.former-ClauseKind-guard-at-8.map A Shown say alternatives)) (shown_list say tests) ∙ ap (λ tss. commas (map (λ (n : Node A). say n.kind n.marks) tests) ∷ tss) (shown_tests say alternatives)

-- ---- patterns

-- one level
pattern_rolled : (layer : L.PatternKind-F PatternKind) (ms : List Place) → pattern_shown (roll-PatternKind layer) ms ≡ fill (pattern_pieces (map-PatternKind PatternKind Shown pattern_shown layer)) ms
unfolding pattern_shown
pattern_rolled layer ms = ap (λ (f : Shown). f ms) (fold-roll-PatternKind Shown (λ l. fill (pattern_pieces l)) layer)

pub pattern_shown-Atom : (a : List ℕ) (ms : List Place) → pattern_shown (P.Atom a) ms ≡ fill (name a ∷ []) ms
pattern_shown-Atom a ms = ap (λ k. pattern_shown k ms) (sym (P.rolls-Atom a)) ∙ pattern_rolled (L.Atom a) ms

pub pattern_shown-Int : (n : ℤ) (ms : List Place) → pattern_shown (P.Int n) ms ≡ fill (own (T.Int n) ∷ []) ms
pattern_shown-Int n ms = ap (λ k. pattern_shown k ms) (sym (P.rolls-Int n)) ∙ pattern_rolled (L.Int n) ms

pub pattern_shown-NegInt : (n : ℤ) (ms : List Place) → pattern_shown (P.NegInt n) ms ≡ fill (mark (codes "-") ∷ own (T.Int n) ∷ []) ms
pattern_shown-NegInt n ms = ap (λ k. pattern_shown k ms) (sym (P.rolls-NegInt n)) ∙ pattern_rolled (L.NegInt n) ms

pub pattern_shown-Char : (c : ℕ) (ms : List Place) → pattern_shown (P.Char c) ms ≡ fill (own (T.Char c) ∷ []) ms
pattern_shown-Char c ms = ap (λ k. pattern_shown k ms) (sym (P.rolls-Char c)) ∙ pattern_rolled (L.Char c) ms

pub pattern_shown-Str : (s : List ℕ) (ms : List Place) → pattern_shown (P.Str s) ms ≡ fill (own (T.Str s) ∷ []) ms
pattern_shown-Str s ms = ap (λ k. pattern_shown k ms) (sym (P.rolls-Str s)) ∙ pattern_rolled (L.Str s) ms

pub pattern_shown-Var : (x : List ℕ) (ms : List Place) → pattern_shown (P.Var x) ms ≡ fill (own (T.Var x) ∷ []) ms
pattern_shown-Var x ms = ap (λ k. pattern_shown k ms) (sym (P.rolls-Var x)) ∙ pattern_rolled (L.Var x) ms

pub pattern_shown-Paren : (p : Node PatternKind) (ms : List Place) → pattern_shown (P.Paren p) ms ≡ fill (mark (codes "(") ∷ inner (pattern_tokens p) ∷ mark (codes ")") ∷ []) ms
pattern_shown-Paren p ms = ap (λ k. pattern_shown k ms) (sym (P.rolls-Paren p)) ∙ pattern_rolled (L.Paren p) ms

pub pattern_shown-Tuple : (ps : List (Node PatternKind)) (ms : List Place) → pattern_shown (P.Tuple ps) ms ≡ fill (mark (codes "{") ∷ (commas (map pattern_tokens ps) ++ mark (codes "}") ∷ [])) ms
pattern_shown-Tuple ps ms = ap (λ k. pattern_shown k ms) (sym (P.rolls-Tuple ps)) ∙ (pattern_rolled (L.Tuple ps) ms ∙ ap (λ ts. fill (mark (codes "{") ∷ (commas ts ++ mark (codes "}") ∷ [])) ms) (shown_list pattern_shown ps))

pub pattern_shown-Cells : (ps : List (Node PatternKind)) (tail : Option (Node PatternKind)) (ms : List Place) → pattern_shown (P.Cells ps tail) ms ≡ fill (mark (codes "[") ∷ (commas (map pattern_tokens ps) ++ tail_pieces pattern_tokens tail)) ms
pattern_shown-Cells ps tail ms = ap (λ k. pattern_shown k ms) (sym (P.rolls-Cells ps tail)) ∙ (pattern_rolled (L.Cells ps tail) ms ∙ (ap (λ ts. fill (mark (codes "[") ∷ (commas ts ++ tail_pieces shown (S.former-ExprKind-Cells-1.map PatternKind Shown pattern_shown tail))) ms) (shown_list pattern_shown ps) ∙ ap (λ ts. fill (mark (codes "[") ∷ (commas (map pattern_tokens ps) ++ ts)) ms) (shown_tail pattern_shown tail)))

pub pattern_shown-Map : (entries : List (Node (Node LiteralKind × Node PatternKind))) (ms : List Place) → pattern_shown (P.Map entries) ms ≡ fill (map_pieces (map pattern_entry_tokens entries)) ms
pattern_shown-Map entries ms = ap (λ k. pattern_shown k ms) (sym (P.rolls-Map entries)) ∙ (pattern_rolled (L.Map entries) ms ∙ ap (λ ts. fill (map_pieces ts) ms) (shown_entries pattern_shown entries))

pub pattern_shown-Rec : (record_name tag : List ℕ) (fields : List (Node (List ℕ × Node PatternKind))) (ms : List Place) → pattern_shown (P.Rec record_name tag fields) ms ≡ fill (record_pieces record_name (map pattern_field_tokens fields)) ms
pattern_shown-Rec record_name tag fields ms = ap (λ k. pattern_shown k ms) (sym (P.rolls-Rec record_name tag fields)) ∙ (pattern_rolled (L.Rec record_name tag fields) ms ∙ ap (λ ts. fill (record_pieces record_name ts) ms) (shown_fields pattern_shown fields))

pub pattern_shown-Alias : (p q : Node PatternKind) (ms : List Place) → pattern_shown (P.Alias p q) ms ≡ fill (inner (pattern_tokens p) ∷ mark (codes "=") ∷ inner (pattern_tokens q) ∷ []) ms
pattern_shown-Alias p q ms = ap (λ k. pattern_shown k ms) (sym (P.rolls-Alias p q)) ∙ pattern_rolled (L.Alias p q) ms

pub ruleset pattern_tokens_laws = (pattern_shown-Atom, pattern_shown-Int, pattern_shown-NegInt, pattern_shown-Char, pattern_shown-Str, pattern_shown-Var, pattern_shown-Paren, pattern_shown-Tuple, pattern_shown-Cells, pattern_shown-Map, pattern_shown-Rec, pattern_shown-Alias)

-- ---- clauses

shown_guard : (w : Option (Node (List (List (Node ExprKind))))) → optional_guard shown (S.former-ClauseKind-guard.map ExprKind Shown expr_shown w) ≡ optional_guard expr_tokens w
shown_guard None = refl
shown_guard (Some g) = ap (λ ts. Some (fill (between (T.Mark (codes ";")) ts) g.marks)) (shown_tests expr_shown g.kind)

abbrev clause_record : List (List Placed) → Option (List Placed) → List (List Placed) → ClauseText
clause_record patterns guard body = record { patterns = patterns; guard = guard; body = body }

-- what stands in a clause's node
pub clause_parts-clause_of : (ps : List (Node PatternKind)) (w : Option (Node (List (List (Node ExprKind))))) (is : List (Node ItemKind)) → clause_parts (clause_of ps w is) ≡ record { patterns = map pattern_tokens ps; guard = optional_guard expr_tokens w; body = map item_tokens is }
unfolding expr_shown item_shown qualifier_shown assoc_shown catch_shown clause_parts
clause_parts-clause_of ps w is = fold-roll-ClauseKind Shown Shown Shown Shown Shown ClauseText (λ l. fill (expr_pieces l)) (λ l. fill (item_pieces l)) (λ l. fill (qualifier_pieces l)) (λ l. fill (assoc_pieces l)) (λ l. fill (caught_pieces l)) clause_text (record { patterns = ps; guard = w; body = is })
    ∙ (ap (λ g. clause_record (map pattern_tokens ps) g (map shown (S.former-ExprKind-Begin-0.map ItemKind Shown item_shown is))) (shown_guard w)
    ∙ ap (λ ts. clause_record (map pattern_tokens ps) (optional_guard expr_tokens w) ts) (shown_list item_shown is))

pub case_clause-tokens : (p : Place) (ms : List Place) (ps : List (Node PatternKind)) (w : Option (Node (List (List (Node ExprKind))))) (is : List (Node ItemKind)) → case_clause_tokens (node p ms (clause_of ps w is)) ≡ fill (commas (map pattern_tokens ps) ++ (when_pieces (optional_guard expr_tokens w) ++ body_pieces (map item_tokens is))) ms
case_clause-tokens p ms ps w is = ap (λ c. case_clause_shown (node p ms c)) (clause_parts-clause_of ps w is)

pub if_clause-tokens : (p : Place) (ms : List Place) (ps : List (Node PatternKind)) (w : Option (Node (List (List (Node ExprKind))))) (is : List (Node ItemKind)) → if_clause_tokens (node p ms (clause_of ps w is)) ≡ fill (guard_pieces (optional_guard expr_tokens w) ++ body_pieces (map item_tokens is)) ms
if_clause-tokens p ms ps w is = ap (λ c. if_clause_shown (node p ms c)) (clause_parts-clause_of ps w is)

pub fun_clause-tokens : (p : Place) (ms : List Place) (ps : List (Node PatternKind)) (w : Option (Node (List (List (Node ExprKind))))) (is : List (Node ItemKind)) → fun_clause_tokens (node p ms (clause_of ps w is)) ≡ fill (mark (codes "(") ∷ (commas (map pattern_tokens ps) ++ mark (codes ")") ∷ (when_pieces (optional_guard expr_tokens w) ++ body_pieces (map item_tokens is)))) ms
fun_clause-tokens p ms ps w is = ap (λ c. fun_clause_shown (node p ms c)) (clause_parts-clause_of ps w is)

pub ruleset clause_tokens_laws = (clause_parts-clause_of, case_clause-tokens, if_clause-tokens, fun_clause-tokens)

-- ---- expressions

-- one level
expr_rolled : (layer : E.ExprKind-F ExprKind ItemKind QualifierKind AssocKind CatchKind ClauseKind) (ms : List Place) → expr_shown (roll-ExprKind layer) ms ≡ fill (expr_pieces (map-ExprKind ExprKind ItemKind QualifierKind AssocKind CatchKind ClauseKind Shown Shown Shown Shown Shown ClauseText expr_shown item_shown qualifier_shown assoc_shown catch_shown clause_parts layer)) ms
unfolding expr_shown item_shown qualifier_shown assoc_shown catch_shown clause_parts
expr_rolled layer ms = ap (λ (f : Shown). f ms) (fold-roll-ExprKind Shown Shown Shown Shown Shown ClauseText (λ l. fill (expr_pieces l)) (λ l. fill (item_pieces l)) (λ l. fill (qualifier_pieces l)) (λ l. fill (assoc_pieces l)) (λ l. fill (caught_pieces l)) clause_text layer)

-- one level
item_rolled : (layer : E.ItemKind-F ExprKind ItemKind QualifierKind AssocKind CatchKind ClauseKind) (ms : List Place) → item_shown (roll-ItemKind layer) ms ≡ fill (item_pieces (map-ItemKind ExprKind ItemKind QualifierKind AssocKind CatchKind ClauseKind Shown Shown Shown Shown Shown ClauseText expr_shown item_shown qualifier_shown assoc_shown catch_shown clause_parts layer)) ms
unfolding expr_shown item_shown qualifier_shown assoc_shown catch_shown clause_parts
item_rolled layer ms = ap (λ (f : Shown). f ms) (fold-roll-ItemKind Shown Shown Shown Shown Shown ClauseText (λ l. fill (expr_pieces l)) (λ l. fill (item_pieces l)) (λ l. fill (qualifier_pieces l)) (λ l. fill (assoc_pieces l)) (λ l. fill (caught_pieces l)) clause_text layer)

-- one level
qualifier_rolled : (layer : E.QualifierKind-F ExprKind ItemKind QualifierKind AssocKind CatchKind ClauseKind) (ms : List Place) → qualifier_shown (roll-QualifierKind layer) ms ≡ fill (qualifier_pieces (map-QualifierKind ExprKind ItemKind QualifierKind AssocKind CatchKind ClauseKind Shown Shown Shown Shown Shown ClauseText expr_shown item_shown qualifier_shown assoc_shown catch_shown clause_parts layer)) ms
unfolding expr_shown item_shown qualifier_shown assoc_shown catch_shown clause_parts
qualifier_rolled layer ms = ap (λ (f : Shown). f ms) (fold-roll-QualifierKind Shown Shown Shown Shown Shown ClauseText (λ l. fill (expr_pieces l)) (λ l. fill (item_pieces l)) (λ l. fill (qualifier_pieces l)) (λ l. fill (assoc_pieces l)) (λ l. fill (caught_pieces l)) clause_text layer)

pub expr_shown-Atom : (a : List ℕ) (ms : List Place) → expr_shown (X.Atom a) ms ≡ fill (name a ∷ []) ms
expr_shown-Atom a ms = ap (λ k. expr_shown k ms) (sym (X.rolls-Atom a)) ∙ expr_rolled (E.Atom a) ms

pub expr_shown-Int : (n : ℤ) (ms : List Place) → expr_shown (X.Int n) ms ≡ fill (own (T.Int n) ∷ []) ms
expr_shown-Int n ms = ap (λ k. expr_shown k ms) (sym (X.rolls-Int n)) ∙ expr_rolled (E.Int n) ms

pub expr_shown-Char : (c : ℕ) (ms : List Place) → expr_shown (X.Char c) ms ≡ fill (own (T.Char c) ∷ []) ms
expr_shown-Char c ms = ap (λ k. expr_shown k ms) (sym (X.rolls-Char c)) ∙ expr_rolled (E.Char c) ms

pub expr_shown-Str : (s : List ℕ) (ms : List Place) → expr_shown (X.Str s) ms ≡ fill (own (T.Str s) ∷ []) ms
expr_shown-Str s ms = ap (λ k. expr_shown k ms) (sym (X.rolls-Str s)) ∙ expr_rolled (E.Str s) ms

pub expr_shown-Var : (x : List ℕ) (ms : List Place) → expr_shown (X.Var x) ms ≡ fill (own (T.Var x) ∷ []) ms
expr_shown-Var x ms = ap (λ k. expr_shown k ms) (sym (X.rolls-Var x)) ∙ expr_rolled (E.Var x) ms

pub expr_shown-Paren : (e : Node ExprKind) (ms : List Place) → expr_shown (X.Paren e) ms ≡ fill (mark (codes "(") ∷ inner (expr_tokens e) ∷ mark (codes ")") ∷ []) ms
expr_shown-Paren e ms = ap (λ k. expr_shown k ms) (sym (X.rolls-Paren e)) ∙ expr_rolled (E.Paren e) ms

pub expr_shown-Tuple : (es : List (Node ExprKind)) (ms : List Place) → expr_shown (X.Tuple es) ms ≡ fill (mark (codes "{") ∷ (commas (map expr_tokens es) ++ mark (codes "}") ∷ [])) ms
expr_shown-Tuple es ms = ap (λ k. expr_shown k ms) (sym (X.rolls-Tuple es)) ∙ (expr_rolled (E.Tuple es) ms ∙ ap (λ ts. fill (mark (codes "{") ∷ (commas ts ++ mark (codes "}") ∷ [])) ms) (shown_list expr_shown es))

pub expr_shown-Cells : (es : List (Node ExprKind)) (tail : Option (Node ExprKind)) (ms : List Place) → expr_shown (X.Cells es tail) ms ≡ fill (mark (codes "[") ∷ (commas (map expr_tokens es) ++ tail_pieces expr_tokens tail)) ms
expr_shown-Cells es tail ms = ap (λ k. expr_shown k ms) (sym (X.rolls-Cells es tail)) ∙ (expr_rolled (E.Cells es tail) ms ∙ (ap (λ ts. fill (mark (codes "[") ∷ (commas ts ++ tail_pieces shown (S.former-ExprKind-Cells-1.map ExprKind Shown expr_shown tail))) ms) (shown_list expr_shown es) ∙ ap (λ ts. fill (mark (codes "[") ∷ (commas (map expr_tokens es) ++ ts)) ms) (shown_tail expr_shown tail)))

pub expr_shown-Comp : (e : Node ExprKind) (qs : List (Node QualifierKind)) (ms : List Place) → expr_shown (X.Comp e qs) ms ≡ fill (mark (codes "[") ∷ inner (expr_tokens e) ∷ mark (codes "||") ∷ (commas (map qualifier_tokens qs) ++ mark (codes "]") ∷ [])) ms
expr_shown-Comp e qs ms = ap (λ k. expr_shown k ms) (sym (X.rolls-Comp e qs)) ∙ (expr_rolled (E.Comp e qs) ms ∙ ap (λ ts. fill (mark (codes "[") ∷ inner (expr_tokens e) ∷ mark (codes "||") ∷ (commas ts ++ mark (codes "]") ∷ [])) ms) (shown_list qualifier_shown qs))

pub expr_shown-Unary : (op : UnaryOp) (e : Node ExprKind) (ms : List Place) → expr_shown (X.Unary op e) ms ≡ fill (own (unary_token op) ∷ inner (expr_tokens e) ∷ []) ms
expr_shown-Unary op e ms = ap (λ k. expr_shown k ms) (sym (X.rolls-Unary op e)) ∙ expr_rolled (E.Unary op e) ms

pub expr_shown-Binary : (op : BinaryOp) (a b : Node ExprKind) (ms : List Place) → expr_shown (X.Binary op a b) ms ≡ fill (inner (expr_tokens a) ∷ own (operator_token op) ∷ inner (expr_tokens b) ∷ []) ms
expr_shown-Binary op a b ms = ap (λ k. expr_shown k ms) (sym (X.rolls-Binary op a b)) ∙ expr_rolled (E.Binary op a b) ms

pub expr_shown-Call : (prefix : Option (List ℕ)) (called : List ℕ) (args : List (Node ExprKind)) (ms : List Place) → expr_shown (X.Call prefix called args) ms ≡ fill (prefix_pieces prefix ++ name called ∷ argument_pieces (map expr_tokens args)) ms
expr_shown-Call prefix called args ms = ap (λ k. expr_shown k ms) (sym (X.rolls-Call prefix called args)) ∙ (expr_rolled (E.Call prefix called args) ms ∙ ap (λ ts. fill (prefix_pieces prefix ++ name called ∷ argument_pieces ts) ms) (shown_list expr_shown args))

pub expr_shown-Apply : (f : Node ExprKind) (args : List (Node ExprKind)) (ms : List Place) → expr_shown (X.Apply f args) ms ≡ fill (inner (expr_tokens f) ∷ argument_pieces (map expr_tokens args)) ms
expr_shown-Apply f args ms = ap (λ k. expr_shown k ms) (sym (X.rolls-Apply f args)) ∙ (expr_rolled (E.Apply f args) ms ∙ ap (λ ts. fill (inner (expr_tokens f) ∷ argument_pieces ts) ms) (shown_list expr_shown args))

pub expr_shown-MapNew : (assocs : List (Node AssocKind)) (ms : List Place) → expr_shown (X.MapNew assocs) ms ≡ fill (map_pieces (map assoc_tokens assocs)) ms
expr_shown-MapNew assocs ms = ap (λ k. expr_shown k ms) (sym (X.rolls-MapNew assocs)) ∙ (expr_rolled (E.MapNew assocs) ms ∙ ap (λ ts. fill (map_pieces ts) ms) (shown_list assoc_shown assocs))

pub expr_shown-MapChange : (e : Node ExprKind) (assocs : List (Node AssocKind)) (ms : List Place) → expr_shown (X.MapChange e assocs) ms ≡ fill (inner (expr_tokens e) ∷ map_pieces (map assoc_tokens assocs)) ms
expr_shown-MapChange e assocs ms = ap (λ k. expr_shown k ms) (sym (X.rolls-MapChange e assocs)) ∙ (expr_rolled (E.MapChange e assocs) ms ∙ ap (λ ts. fill (inner (expr_tokens e) ∷ map_pieces ts) ms) (shown_list assoc_shown assocs))

pub expr_shown-RecNew : (record_name tag : List ℕ) (fields : List (Node (List ℕ × Node ExprKind))) (ms : List Place) → expr_shown (X.RecNew record_name tag fields) ms ≡ fill (record_pieces record_name (map expr_field_tokens fields)) ms
expr_shown-RecNew record_name tag fields ms = ap (λ k. expr_shown k ms) (sym (X.rolls-RecNew record_name tag fields)) ∙ (expr_rolled (E.RecNew record_name tag fields) ms ∙ ap (λ ts. fill (record_pieces record_name ts) ms) (shown_fields expr_shown fields))

pub expr_shown-RecChange : (e : Node ExprKind) (record_name tag : List ℕ) (fields : List (Node (List ℕ × Node ExprKind))) (ms : List Place) → expr_shown (X.RecChange e record_name tag fields) ms ≡ fill (inner (expr_tokens e) ∷ record_pieces record_name (map expr_field_tokens fields)) ms
expr_shown-RecChange e record_name tag fields ms = ap (λ k. expr_shown k ms) (sym (X.rolls-RecChange e record_name tag fields)) ∙ (expr_rolled (E.RecChange e record_name tag fields) ms ∙ ap (λ ts. fill (inner (expr_tokens e) ∷ record_pieces record_name ts) ms) (shown_fields expr_shown fields))

pub expr_shown-RecGet : (e : Node ExprKind) (record_name tag field : List ℕ) (ms : List Place) → expr_shown (X.RecGet e record_name tag field) ms ≡ fill (inner (expr_tokens e) ∷ mark (codes "#") ∷ name record_name ∷ mark (codes ".") ∷ name field ∷ []) ms
expr_shown-RecGet e record_name tag field ms = ap (λ k. expr_shown k ms) (sym (X.rolls-RecGet e record_name tag field)) ∙ expr_rolled (E.RecGet e record_name tag field) ms

pub expr_shown-Begin : (is : List (Node ItemKind)) (ms : List Place) → expr_shown (X.Begin is) ms ≡ fill (word (codes "begin") ∷ (commas (map item_tokens is) ++ word (codes "end") ∷ [])) ms
expr_shown-Begin is ms = ap (λ k. expr_shown k ms) (sym (X.rolls-Begin is)) ∙ (expr_rolled (E.Begin is) ms ∙ ap (λ ts. fill (word (codes "begin") ∷ (commas ts ++ word (codes "end") ∷ [])) ms) (shown_list item_shown is))

pub expr_shown-Case : (e : Node ExprKind) (cs : List (Node ClauseKind)) (ms : List Place) → expr_shown (X.Case e cs) ms ≡ fill (word (codes "case") ∷ inner (expr_tokens e) ∷ word (codes "of") ∷ (semicolons (map case_clause_tokens cs) ++ word (codes "end") ∷ [])) ms
expr_shown-Case e cs ms = ap (λ k. expr_shown k ms) (sym (X.rolls-Case e cs)) ∙ (expr_rolled (E.Case e cs) ms ∙ ap (λ ts. fill (word (codes "case") ∷ inner (expr_tokens e) ∷ word (codes "of") ∷ (semicolons ts ++ word (codes "end") ∷ [])) ms) (shown_clauses case_clause_shown cs))

pub expr_shown-If : (cs : List (Node ClauseKind)) (ms : List Place) → expr_shown (X.If cs) ms ≡ fill (word (codes "if") ∷ (semicolons (map if_clause_tokens cs) ++ word (codes "end") ∷ [])) ms
expr_shown-If cs ms = ap (λ k. expr_shown k ms) (sym (X.rolls-If cs)) ∙ (expr_rolled (E.If cs) ms ∙ ap (λ ts. fill (word (codes "if") ∷ (semicolons ts ++ word (codes "end") ∷ [])) ms) (shown_clauses if_clause_shown cs))

pub expr_shown-FunName : (named : List ℕ) (arity : ℤ) (ms : List Place) → expr_shown (X.FunName named arity) ms ≡ fill (word (codes "fun") ∷ name named ∷ mark (codes "/") ∷ own (T.Int arity) ∷ []) ms
expr_shown-FunName named arity ms = ap (λ k. expr_shown k ms) (sym (X.rolls-FunName named arity)) ∙ expr_rolled (E.FunName named arity) ms

pub expr_shown-Fun : (cs : List (Node ClauseKind)) (ms : List Place) → expr_shown (X.Fun cs) ms ≡ fill (word (codes "fun") ∷ (semicolons (map fun_clause_tokens cs) ++ word (codes "end") ∷ [])) ms
expr_shown-Fun cs ms = ap (λ k. expr_shown k ms) (sym (X.rolls-Fun cs)) ∙ (expr_rolled (E.Fun cs) ms ∙ ap (λ ts. fill (word (codes "fun") ∷ (semicolons ts ++ word (codes "end") ∷ [])) ms) (shown_clauses fun_clause_shown cs))

shown_after : (after : Option (List (Node ItemKind))) → after_pieces shown (S.former-ExprKind-Try-3.map ItemKind Shown item_shown after) ≡ after_pieces item_tokens after
shown_after None = refl
shown_after (Some items) = ap (λ ts. word (codes "after") ∷ commas ts) (shown_list item_shown items)

pub expr_shown-Try : (body : List (Node ItemKind)) (of_clauses : List (Node ClauseKind)) (catches : List (Node CatchKind)) (after : Option (List (Node ItemKind))) (ms : List Place) → expr_shown (X.Try body of_clauses catches after) ms ≡ fill (word (codes "try") ∷ (commas (map item_tokens body) ++ (of_pieces (map case_clause_tokens of_clauses) ++ (catch_pieces (map catch_tokens catches) ++ (after_pieces item_tokens after ++ word (codes "end") ∷ []))))) ms
expr_shown-Try body of_clauses catches after ms = ap (λ k. expr_shown k ms) (sym (X.rolls-Try body of_clauses catches after)) ∙ (expr_rolled (E.Try body of_clauses catches after) ms ∙ (ap (λ ts. fill (word (codes "try") ∷ (commas ts ++ (of_pieces (map case_clause_shown (S.former-ExprKind-Case-1.map ClauseKind ClauseText clause_parts of_clauses)) ++ (catch_pieces (map shown (S.former-ExprKind-Tuple-0.map CatchKind Shown catch_shown catches)) ++ (after_pieces shown (S.former-ExprKind-Try-3.map ItemKind Shown item_shown after) ++ word (codes "end") ∷ []))))) ms) (shown_list item_shown body) ∙ (ap (λ ts. fill (word (codes "try") ∷ (commas (map item_tokens body) ++ (of_pieces ts ++ (catch_pieces (map shown (S.former-ExprKind-Tuple-0.map CatchKind Shown catch_shown catches)) ++ (after_pieces shown (S.former-ExprKind-Try-3.map ItemKind Shown item_shown after) ++ word (codes "end") ∷ []))))) ms) (shown_clauses case_clause_shown of_clauses) ∙ (ap (λ ts. fill (word (codes "try") ∷ (commas (map item_tokens body) ++ (of_pieces (map case_clause_tokens of_clauses) ++ (catch_pieces ts ++ (after_pieces shown (S.former-ExprKind-Try-3.map ItemKind Shown item_shown after) ++ word (codes "end") ∷ []))))) ms) (shown_list catch_shown catches) ∙ ap (λ ts. fill (word (codes "try") ∷ (commas (map item_tokens body) ++ (of_pieces (map case_clause_tokens of_clauses) ++ (catch_pieces (map catch_tokens catches) ++ (ts ++ word (codes "end") ∷ []))))) ms) (shown_after after)))))

pub ruleset expr_tokens_laws = (expr_shown-Atom, expr_shown-Int, expr_shown-Char, expr_shown-Str, expr_shown-Var, expr_shown-Paren, expr_shown-Tuple, expr_shown-Cells, expr_shown-Comp, expr_shown-Unary, expr_shown-Binary, expr_shown-Call, expr_shown-Apply, expr_shown-MapNew, expr_shown-MapChange, expr_shown-RecNew, expr_shown-RecChange, expr_shown-RecGet, expr_shown-Begin, expr_shown-Case, expr_shown-If, expr_shown-FunName, expr_shown-Fun, expr_shown-Try)

-- ---- elements of bodies, qualifiers, associations and clauses of `catch` parts

pub item_shown-Value : (e : Node ExprKind) (ms : List Place) → item_shown (I.Value e) ms ≡ fill (inner (expr_tokens e) ∷ []) ms
item_shown-Value e ms = ap (λ k. item_shown k ms) (sym (I.rolls-Value e)) ∙ item_rolled (E.Value e) ms

pub item_shown-Match : (p : Node PatternKind) (e : Node ExprKind) (ms : List Place) → item_shown (I.Match p e) ms ≡ fill (inner (pattern_tokens p) ∷ mark (codes "=") ∷ inner (expr_tokens e) ∷ []) ms
item_shown-Match p e ms = ap (λ k. item_shown k ms) (sym (I.rolls-Match p e)) ∙ item_rolled (E.Match p e) ms

pub qualifier_shown-Generator : (p : Node PatternKind) (e : Node ExprKind) (ms : List Place) → qualifier_shown (Q.Generator p e) ms ≡ fill (inner (pattern_tokens p) ∷ mark (codes "<-") ∷ inner (expr_tokens e) ∷ []) ms
qualifier_shown-Generator p e ms = ap (λ k. qualifier_shown k ms) (sym (Q.rolls-Generator p e)) ∙ qualifier_rolled (E.Generator p e) ms

pub qualifier_shown-Filter : (e : Node ExprKind) (ms : List Place) → qualifier_shown (Q.Filter e) ms ≡ fill (inner (expr_tokens e) ∷ []) ms
qualifier_shown-Filter e ms = ap (λ k. qualifier_shown k ms) (sym (Q.rolls-Filter e)) ∙ qualifier_rolled (E.Filter e) ms

pub assoc_shown-assoc_of : (key : Node ExprKind) (exact : Bool) (value : Node ExprKind) (ms : List Place) → assoc_shown (assoc_of key exact value) ms ≡ fill (inner (expr_tokens key) ∷ mark (association_text exact) ∷ inner (expr_tokens value) ∷ []) ms
unfolding expr_shown item_shown qualifier_shown assoc_shown catch_shown clause_parts
assoc_shown-assoc_of key exact value ms = ap (λ (f : Shown). f ms) (fold-roll-AssocKind Shown Shown Shown Shown Shown ClauseText (λ l. fill (expr_pieces l)) (λ l. fill (item_pieces l)) (λ l. fill (qualifier_pieces l)) (λ l. fill (assoc_pieces l)) (λ l. fill (caught_pieces l)) clause_text (record { key = key; exact = exact; value = value }))

pub catch_shown-catch_of : (class : Option (Node PatternKind)) (clause : Node ClauseKind) (ms : List Place) → catch_shown (catch_of class clause) ms ≡ fill (class_pieces class ++ inner (case_clause_tokens clause) ∷ []) ms
unfolding expr_shown item_shown qualifier_shown assoc_shown catch_shown clause_parts
catch_shown-catch_of class clause ms = ap (λ (f : Shown). f ms) (fold-roll-CatchKind Shown Shown Shown Shown Shown ClauseText (λ l. fill (expr_pieces l)) (λ l. fill (item_pieces l)) (λ l. fill (qualifier_pieces l)) (λ l. fill (assoc_pieces l)) (λ l. fill (caught_pieces l)) clause_text (record { class = class; clause = clause }))

pub ruleset part_tokens_laws = (item_shown-Value, item_shown-Match, qualifier_shown-Generator, qualifier_shown-Filter, assoc_shown-assoc_of, catch_shown-catch_of)
