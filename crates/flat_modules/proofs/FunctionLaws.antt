-- Functions of flat modules: what is well formed in one grammar is so in the other, with the same tokens.
use Rattle.std.proofs.Common.{◌≡◌, refl, ap, sym, subst, ◌∙◌, arith, List, [], ◌∷◌, ◌++◌, map, length, inl, true, ◌&&◌, append-nil, is_none}
use Rattle.std.specs.Prelude.{Option, Some, None, codes}
use Rattle.std.specs.List.{list_all}
use Rattle.std.proofs.lemmas.Bool.{and_parts, and_from, true≢false}
use Rattle.type_terms.specs.Keys.{Name}
use Rattle.erl_tree.specs.Lists.{Every, Among}
use Rattle.erl_tree.specs.declared.token.Place.{Place}
use Rattle.erl_tree.specs.declared.token.Node.{Node}
use Rattle.erl_tree.specs.declared.token.Token.TheVariants as T
use Rattle.erl_tree.specs.declared.pattern.PatternKind.{PatternKind, out-PatternKind}
use Rattle.erl_tree.specs.declared.pattern.PatternKind.TheVariants as V
use Rattle.erl_tree.specs.declared.pattern.PatternKind.TheOpen as O
use Rattle.erl_tree.specs.declared.expr.ExprKind.{ExprKind}
use Rattle.erl_tree.specs.declared.expr.ItemKind.{ItemKind}
use Rattle.erl_tree.specs.declared.expr.ItemKind.TheVariants as I
use Rattle.erl_tree.specs.declared.expr.ClauseKind.{ClauseKind, out-roll-ClauseKind}
use Rattle.erl_tree.specs.declared.form.Function.{Function}
use Rattle.flat_modules.specs.Grammar.{node, AreParamMarks}
use Rattle.flat_modules.specs.Grammar as F
use Rattle.flat_modules.specs.Spelling.{at, atom, mark, params_tokens}
use Rattle.flat_modules.specs.Spelling as FS
use Rattle.erl_grammar.specs.Pieces.{inner, fill, commas}
use Rattle.erl_grammar.specs.Pieces as P
use Rattle.erl_grammar.specs.Grammar.{AreSeparators, IsArity, IsPattern, one_pattern, alias, variable_pattern, IsItem, value, match_item, IsWhen, no_guard, when_guard, clause_of}
use Rattle.erl_grammar.specs.Grammar as GG
use Rattle.erl_grammar.specs.Spelling as GS
use Rattle.erl_grammar.specs.FormGrammar as G
use Rattle.erl_grammar.specs.FormSpelling.{function_clause_tokens}
use Rattle.erl_grammar.specs.FormSpelling as TS
use Rattle.erl_grammar.proofs.SpellingLaws as GL
use Rattle.erl_grammar.proofs.FormSpellingLaws.{function_clause-tokens}
use Rattle.erl_grammar.proofs.Layers.{each}
use Rattle.flat_modules.specs.Flat.{is_one, flat_pattern_layer, is_flat_pattern, flat_item_layer, is_flat_item, flat_clause_layer, is_flat_clause, is_flat_function}
use Rattle.flat_modules.specs.Calls.{CallsInProfile, item_in_profile, ItemInProfile, ClauseInProfile}
use Rattle.flat_modules.proofs.Lists.{every, every-so, all-among, all-every, map-same, HaveParamMarks, param-marks, marks-of-params, params-filled}
use Rattle.flat_modules.proofs.Shapes.{PatternShape, variable, pattern_shape, BodyShape, body_tokens-value, function_node, FunctionShape, function, function_shape, function_tokens-node}
use Rattle.flat_modules.proofs.Shapes as S
use Rattle.flat_modules.proofs.SpecLaws.{text-marks}
use Rattle.flat_modules.proofs.FlatExprs.{expr-whole, expr-tokens, expr-passing}
use Rattle.flat_modules.proofs.WholeExprs.{expr-flat}

-- ---- patterns

pattern_whole : (p : Node PatternKind) → PatternShape p → IsPattern p
pattern_whole _ (variable v p) = one_pattern _ (variable_pattern p v)

pattern_tokens : (p : Node PatternKind) → PatternShape p → FS.pattern_tokens p ≡ GS.pattern_tokens p
pattern_tokens _ (variable v p) = let e : FS.pattern_tokens (node p (p ∷ []) (V.Var v)) ≡ at (T.Var v) p ∷ [] = rw (V.outs-Var v) refl in e ∙ sym (GL.pattern_shown-Var v (p ∷ []))

pattern_passing : (p : Node PatternKind) → PatternShape p → is_flat_pattern p ≡ true
pattern_passing _ (variable v p) = ap flat_pattern_layer (V.outs-Var v)

-- one level of a pattern that passes the test
abbrev FlatPattern : O.PatternKind-F PatternKind → Type 0
FlatPattern (O.Var x) = Unit {0}
FlatPattern _ = ⊥

pattern_parts : (l : O.PatternKind-F PatternKind) → flat_pattern_layer l ≡ true → FlatPattern l
pattern_parts (O.Var x) h = tt
pattern_parts _ h = absurd (true≢false (sym h))

parts : (k : PatternKind) (l : O.PatternKind-F PatternKind) → out-PatternKind k ≡ l → flat_pattern_layer (out-PatternKind k) ≡ true → FlatPattern l
parts k l e h = pattern_parts l (sym (ap flat_pattern_layer e) ∙ h)

simple_pattern-flat : (p : Node PatternKind) → GG.IsSimplePattern p → is_flat_pattern p ≡ true → F.IsPattern p
simple_pattern-flat _ (GG.variable_pattern p x) f = rw (V.outs-Var x) refl
simple_pattern-flat _ (GG.atom_pattern p a) f = absurd (parts (V.Atom a) (O.Atom a) (V.outs-Atom a) f)
simple_pattern-flat _ (GG.integer_pattern p n) f = absurd (parts (V.Int n) (O.Int n) (V.outs-Int n) f)
simple_pattern-flat _ (GG.negative_pattern h p n) f = absurd (parts (V.NegInt n) (O.NegInt n) (V.outs-NegInt n) f)
simple_pattern-flat _ (GG.character_pattern p c) f = absurd (parts (V.Char c) (O.Char c) (V.outs-Char c) f)
simple_pattern-flat _ (GG.string_pattern p s) f = absurd (parts (V.Str s) (O.Str s) (V.outs-Str s) f)
simple_pattern-flat _ (GG.paren_pattern o c p h) f = absurd (parts (V.Paren p) (O.Paren p) (V.outs-Paren p) f)
simple_pattern-flat _ (GG.tuple_pattern o c ms ps g h) f = absurd (parts (V.Tuple ps) (O.Tuple ps) (V.outs-Tuple ps) f)
simple_pattern-flat _ (GG.list_pattern o c ms ps g h) f = absurd (parts (V.Cells ps None) (O.Cells ps None) (V.outs-Cells ps None) f)
simple_pattern-flat _ (GG.cells_pattern o b c ms p t ps g h k) f = absurd (parts (V.Cells (p ∷ ps) (Some t)) (O.Cells (p ∷ ps) (Some t)) (V.outs-Cells (p ∷ ps) (Some t)) f)
simple_pattern-flat _ (GG.map_pattern h o c ms entries g k) f = absurd (parts (V.Map entries) (O.Map entries) (V.outs-Map entries) f)
simple_pattern-flat _ (GG.record_pattern h n o c ms name fields g k) f = absurd (parts (V.Rec name name fields) (O.Rec name name fields) (V.outs-Rec name name fields) f)

pattern-flat : (p : Node PatternKind) → IsPattern p → is_flat_pattern p ≡ true → F.IsPattern p
pattern-flat _ (one_pattern p h) f = simple_pattern-flat p h f
pattern-flat _ (alias p q m h k) f = absurd (parts (V.Alias p q) (O.Alias p q) (V.outs-Alias p q) f)

-- ---- bodies

-- an element that is an expression
abbrev value_node : Node ExprKind → Node ItemKind
value_node e = node e.place [] (I.Value e)

value-tokens : (e : Node ExprKind) → F.IsExpr e → FS.body_tokens (value_node e ∷ []) ≡ GS.item_tokens (value_node e)
value-tokens e h = body_tokens-value e ∙ (expr-tokens e h ∙ sym (GL.item_shown-Value e [] ∙ append-nil (GS.expr_tokens e)))

item-flat : (i : Node ItemKind) → IsItem i → is_flat_item i ≡ true → F.IsItem i
item-flat _ (value e h) f = subst (λ l. F.is_item_layer l e.place []) (sym (I.outs-Value e)) (refl, expr-flat e h (sym (ap flat_item_layer (I.outs-Value e)) ∙ f))
item-flat _ (match_item p e m h k) f = absurd (true≢false (sym (sym (ap flat_item_layer (I.outs-Match p e)) ∙ f)))

-- ---- from the grammar of flat modules

-- a clause whose body is an expression
abbrev clause_node : Place → Place → List (Node PatternKind) → List Place → Node ExprKind → Node ClauseKind
clause_node n o ps ms e = node n (n ∷ o ∷ ms) (clause_of ps None (value_node e ∷ []))

clause-calls : (n o : Place) (ps : List (Node PatternKind)) (ms : List Place) (e : Node ExprKind) → ClauseInProfile (clause_node n o ps ms e) → CallsInProfile e
clause-calls n o ps ms e c = subst item_in_profile (I.outs-Value e) (subst (λ l. Every ItemInProfile l.body) (out-roll-ClauseKind (record { patterns = ps; guard = None; body = value_node e ∷ [] })) c).0

clause-whole : (n o : Place) (ps : List (Node PatternKind)) (ms : List Place) (e : Node ExprKind) → Every F.IsPattern ps → IsArity ps → AreParamMarks (length ps) ms → F.IsExpr e → CallsInProfile e → G.IsFunctionClause (clause_node n o ps ms e)
clause-whole n o ps ms e h a m k c =
    let r : HaveParamMarks ps ms = param-marks ps ms m in
    subst (λ ns. G.IsFunctionClause (clause_node n o ps ns e)) (sym r.in_turn)
    (G.function_clause n o r.close r.arrow ps None r.separators [] [] (value_node e) [] a r.between (each IsPattern ps (every-so F.IsPattern IsPattern ps (λ p i. pattern_whole p (pattern_shape p i)) h)) no_guard tt
    (each IsItem (value_node e ∷ []) (value e (expr-whole e k c 0 (omega arith)), tt)))

function_whole : (f : Function) → FunctionShape f → Every ClauseInProfile f.clauses → G.IsFunction f
function_whole _ (function name n o d ps ms _ h a m (S.value e k)) c =
    G.function name d [] (clause_node n o ps ms e) [] tt (each G.IsFunctionClause (clause_node n o ps ms e ∷ []) (clause-whole n o ps ms e h a m k (clause-calls n o ps ms e c.0), tt))

pub function-whole : (f : Function) → F.IsFunction f → Every ClauseInProfile f.clauses → G.IsFunction f
function-whole f h c = function_whole f (function_shape f h) c

params-tokens : (ps : List (Node PatternKind)) (ms : List Place) (e : Node ExprKind) → Every F.IsPattern ps → AreParamMarks (length ps) ms → F.IsExpr e
    → params_tokens (map FS.pattern_tokens ps) ms (FS.body_tokens (value_node e ∷ [])) ≡ fill (commas (map GS.pattern_tokens ps) ++ P.mark (codes ")") ∷ P.mark (codes "->") ∷ inner (GS.item_tokens (value_node e)) ∷ []) ms
params-tokens ps ms e h m k =
    ap (λ ts. params_tokens (map FS.pattern_tokens ps) ms ts) (value-tokens e k)
    ∙ (ap (λ xs. params_tokens xs ms (GS.item_tokens (value_node e)))
    (map-same FS.pattern_tokens GS.pattern_tokens ps (each (λ p. FS.pattern_tokens p ≡ GS.pattern_tokens p) ps (every-so F.IsPattern (λ p. FS.pattern_tokens p ≡ GS.pattern_tokens p) ps (λ p i. pattern_tokens p (pattern_shape p i)) h)))
    ∙ params-filled (map GS.pattern_tokens ps) ms (GS.item_tokens (value_node e)) (text-marks GS.pattern_tokens ps ms m))

function_tokens : (f : Function) → FunctionShape f → FS.function_tokens f ≡ TS.function_tokens f
function_tokens _ (function name n o d ps ms _ h a m (S.value e k)) =
    function_tokens-node name n o d ps ms (value_node e ∷ [])
    ∙ ap (λ ts. ts ++ at T.Dot d ∷ []) (ap (λ ts. atom name n ∷ mark (codes "(") o ∷ ts) (params-tokens ps ms e h m k) ∙ sym (function_clause-tokens name n (n ∷ o ∷ ms) ps None (value_node e ∷ [])))

pub function-tokens : (f : Function) → F.IsFunction f → FS.function_tokens f ≡ TS.function_tokens f
function-tokens f h = function_tokens f (function_shape f h)

function_passing : (f : Function) → FunctionShape f → is_flat_function f ≡ true
function_passing _ (function name n o d ps ms _ h a m (S.value e k)) =
    ap flat_clause_layer (out-roll-ClauseKind (record { patterns = ps; guard = None; body = value_node e ∷ [] }))
    ∙ and_from _ _ (all-every is_flat_pattern ps (every-so F.IsPattern (λ p. is_flat_pattern p ≡ true) ps (λ p i. pattern_passing p (pattern_shape p i)) h)) (ap flat_item_layer (I.outs-Value e) ∙ expr-passing e k)

pub function-passing : (f : Function) → F.IsFunction f → is_flat_function f ≡ true
function-passing f h = function_passing f (function_shape f h)

-- ---- from the grammar of all modules

clause_flat : (n o c a : Place) (ps : List (Node PatternKind)) (w : Option (Node (List (List (Node ExprKind))))) (ns ws ms : List Place) (i : Node ItemKind) (is : List (Node ItemKind))
    → IsArity ps → AreSeparators ps ns → ((p : Node PatternKind) → Among p ps → IsPattern p) → IsWhen w ws → AreSeparators (i ∷ is) ms → IsItem i
    → (is_none w && (list_all is_flat_pattern ps && is_one is_flat_item (i ∷ is))) ≡ true → F.is_clause_layer (record { patterns = ps; guard = w; body = i ∷ is }) n (n ∷ o ∷ (ns ++ c ∷ (ws ++ a ∷ ms)))
clause_flat n o c a ps _ ns _ [] i [] r g h no_guard gi k f =
    let p : (list_all is_flat_pattern ps ≡ true) × (is_flat_item i ≡ true) = and_parts _ _ f in
    (refl, refl, every F.IsPattern ps (λ q j. pattern-flat q (h q j) (all-among is_flat_pattern ps p.0 q j)), r, marks-of-params ps ns c a g, item-flat i k p.1)
clause_flat n o c a ps _ ns _ (m ∷ ms) i [] r g h no_guard gi k f = absurd gi
clause_flat n o c a ps _ ns _ ms i (j ∷ js) r g h no_guard gi k f = absurd (true≢false (sym (and_parts _ _ f).1))
clause_flat n o c a ps _ ns _ ms i is r g h (when_guard w x y) gi k f = absurd (true≢false (sym f))

clause-flat : (c : Node ClauseKind) → G.IsFunctionClause c → is_flat_clause c ≡ true → F.IsClause c
clause-flat _ (G.function_clause n o c a ps w ns ws ms i is r g h x gi k) f =
    let e : _ = out-roll-ClauseKind (record { patterns = ps; guard = w; body = i ∷ is }) in
    subst (λ l. F.is_clause_layer l n (n ∷ o ∷ (ns ++ c ∷ (ws ++ a ∷ ms)))) (sym e) (clause_flat n o c a ps w ns ws ms i is r g h x gi (k i (inl refl)) (sym (ap flat_clause_layer e) ∙ f))

function_flat : (name : Name) (p : Place) (ms : List Place) (c : Node ClauseKind) (cs : List (Node ClauseKind)) → AreSeparators (c ∷ cs) ms → G.IsFunctionClause c → is_one is_flat_clause (c ∷ cs) ≡ true
    → F.IsFunction (record { name = name; place = c.place; marks = ms ++ p ∷ []; clauses = c ∷ cs })
function_flat name p [] c [] g h f = (refl, clause-flat c h f)
function_flat name p (m ∷ ms) c [] g h f = absurd g
function_flat name p ms c (d ∷ ds) g h f = absurd (true≢false (sym f))

pub function-flat : (f : Function) → G.IsFunction f → is_flat_function f ≡ true → F.IsFunction f
function-flat _ (G.function name p ms c cs g h) f = function_flat name p ms c cs g (h c (inl refl)) f
