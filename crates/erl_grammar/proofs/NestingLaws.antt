-- How deep patterns and expressions are nested: one equation for each form.
use Rattle.std.proofs.Common.{◌≡◌, refl, ap, sym, ◌∙◌, ℕ, suc, ℤ, List, [], ◌∷◌, ◌++◌}
use Rattle.std.specs.Prelude.{Option, Some, None, Bool}
use Rattle.erl_tree.specs.declared.token.Node.{Node}
use Rattle.erl_tree.specs.declared.pattern.LiteralKind.{LiteralKind}
use Rattle.erl_tree.specs.declared.pattern.PatternKind.{PatternKind, roll-PatternKind, map-PatternKind, fold-roll-PatternKind}
use Rattle.erl_tree.specs.declared.pattern.PatternKind.TheVariants as P
use Rattle.erl_tree.specs.declared.pattern.PatternKind.TheOpen as L
use Rattle.erl_tree.specs.declared.pattern.PatternKind.TheShapes as R
use Rattle.erl_tree.specs.declared.expr.UnaryOp.{UnaryOp}
use Rattle.erl_tree.specs.declared.expr.BinaryOp.{BinaryOp}
use Rattle.erl_tree.specs.declared.expr.ExprKind.{ExprKind, roll-ExprKind, map-ExprKind, fold-roll-ExprKind}
use Rattle.erl_tree.specs.declared.expr.ExprKind.TheVariants as X
use Rattle.erl_tree.specs.declared.expr.ExprKind.TheOpen as E
use Rattle.erl_tree.specs.declared.expr.ExprKind.TheShapes as S
use Rattle.erl_tree.specs.declared.expr.ItemKind.{ItemKind, roll-ItemKind, map-ItemKind, fold-roll-ItemKind}
use Rattle.erl_tree.specs.declared.expr.ItemKind.TheVariants as I
use Rattle.erl_tree.specs.declared.expr.ClauseKind.{ClauseKind, fold-roll-ClauseKind}
use Rattle.erl_tree.specs.declared.expr.QualifierKind.{QualifierKind, roll-QualifierKind, map-QualifierKind, fold-roll-QualifierKind}
use Rattle.erl_tree.specs.declared.expr.QualifierKind.TheVariants as Q
use Rattle.erl_tree.specs.declared.expr.AssocKind.{AssocKind, fold-roll-AssocKind}
use Rattle.erl_tree.specs.declared.expr.CatchKind.{CatchKind, fold-roll-CatchKind}
use Rattle.erl_grammar.specs.Nesting.{Deep, deep_node, deep_part, deep_all, deep_optional, deep_second, fewer, deep_cells, deep_guard, deep_in_pattern, pattern_kind_deep, pattern_deep, deep_in_clause, deep_in_expr, deep_in_item, deep_in_qualifier, deep_in_assoc, deep_in_catch, expr_kind_deep, item_kind_deep, qualifier_kind_deep, assoc_kind_deep, catch_kind_deep, clause_kind_deep, expr_deep, item_deep, qualifier_deep, assoc_deep, catch_deep, clause_deep}
use Rattle.erl_grammar.specs.Grammar.{node, clause_of, assoc_of, catch_of}

-- ---- a node that counts as a level

pub pattern_deep-zero : (p : Node PatternKind) → pattern_deep p 0 ≡ p.place ∷ pattern_kind_deep p.kind 0
pattern_deep-zero p = refl

pub pattern_deep-suc : (p : Node PatternKind) (levels : ℕ) → pattern_deep p (suc levels) ≡ pattern_kind_deep p.kind levels
pattern_deep-suc p levels = refl

pub expr_deep-zero : (e : Node ExprKind) → expr_deep e 0 ≡ e.place ∷ expr_kind_deep e.kind 0
expr_deep-zero e = refl

pub expr_deep-suc : (e : Node ExprKind) (levels : ℕ) → expr_deep e (suc levels) ≡ expr_kind_deep e.kind levels
expr_deep-suc e levels = refl

pub ruleset level_laws = (pattern_deep-zero, pattern_deep-suc, expr_deep-zero, expr_deep-suc)

-- ---- lists of parts, each with what is said of its kind put in place of the kind

-- a node with what is said of its kind
abbrev pub put : {A : Type 0} → (A → Deep) → Node A → Node Deep
put say n = node n.place n.marks (say n.kind)

pub deep_list : {A : Type 0} (say : A → Deep) (deep : Node Deep → Deep) (ns : List (Node A)) (levels : ℕ) → deep_all deep (S.former-ExprKind-Tuple-0.map A Deep say ns) levels ≡ deep_all (λ n. deep (put say n)) ns levels
deep_list say deep [] levels = refl
deep_list say deep (n ∷ ns) levels = ap (λ ps. deep (put say n) levels ++ ps) (deep_list say deep ns levels)

deep_entries : {A : Type 0} (say : A → Deep) (ns : List (Node (Node LiteralKind × Node A))) (levels : ℕ) → deep_all (deep_second deep_node) (R.former-PatternKind-Map-0.map A Deep say ns) levels ≡ deep_all (deep_second (λ n. deep_node (put say n))) ns levels
deep_entries say [] levels = refl
deep_entries say (n ∷ ns) levels = ap (λ ps. deep_node (put say n.kind.1) levels ++ ps) (deep_entries say ns levels)

pub deep_fields : {A : Type 0} (say : A → Deep) (ns : List (Node (List ℕ × Node A))) (levels : ℕ) → deep_all (deep_second deep_node) (S.former-ExprKind-RecNew-2.map A Deep say ns) levels ≡ deep_all (deep_second (λ n. deep_node (put say n))) ns levels
deep_fields say [] levels = refl
deep_fields say (n ∷ ns) levels = ap (λ ps. deep_node (put say n.kind.1) levels ++ ps) (deep_fields say ns levels)

deep_tail : {A : Type 0} (say : A → Deep) (tail : Option (Node A)) (levels : ℕ) → deep_optional deep_node (S.former-ExprKind-Cells-1.map A Deep say tail) levels ≡ deep_optional (λ n. deep_node (put say n)) tail levels
deep_tail say None levels = refl
deep_tail say (Some t) levels = refl

deep_row : {A : Type 0} (say : A → Deep) (ns : List (Node A)) (tail : Option (Node A)) (levels : ℕ) → deep_cells deep_node (S.former-ExprKind-Tuple-0.map A Deep say ns) (S.former-ExprKind-Cells-1.map A Deep say tail) levels ≡ deep_cells (λ n. deep_node (put say n)) ns tail levels
deep_row say [] tail levels = deep_tail say tail levels
deep_row say (n ∷ []) tail levels = ap (λ ps. deep_node (put say n) levels ++ ps) (deep_tail say tail levels)
deep_row say (n ∷ m ∷ ns) tail levels = ap (λ ps. deep_node (put say n) levels ++ ps) (deep_row say (m ∷ ns) tail (fewer levels))

deep_tests : {A : Type 0} (say : A → Deep) (alternatives : List (List (Node A))) (levels : ℕ) → deep_all (deep_all deep_node) (S.former-ClauseKind-guard-at-8.map A Deep say alternatives) levels ≡ deep_all (deep_all (λ n. deep_node (put say n))) alternatives levels
deep_tests say [] levels = refl
deep_tests {A = A} say (tests ∷ alternatives) levels = ap (λ ps. ps ++ deep_all (deep_all deep_node) (S.former-ClauseKind-guard-at-8.map A Deep say alternatives) levels) (deep_list say deep_node tests levels) ∙ ap (λ ps. deep_all (λ n. deep_node (put say n)) tests levels ++ ps) (deep_tests say alternatives levels)

deep_when : {A : Type 0} (say : A → Deep) (w : Option (Node (List (List (Node A))))) (levels : ℕ) → deep_optional (deep_guard deep_node) (S.former-ClauseKind-guard.map A Deep say w) levels ≡ deep_optional (deep_guard (λ n. deep_node (put say n))) w levels
deep_when say None levels = refl
deep_when say (Some g) levels = deep_tests say g.kind levels

deep_after : {A : Type 0} (say : A → Deep) (after : Option (List (Node A))) (levels : ℕ) → deep_optional (deep_all deep_part) (S.former-ExprKind-Try-3.map A Deep say after) levels ≡ deep_optional (deep_all (λ n. deep_part (put say n))) after levels
deep_after say None levels = refl
deep_after say (Some items) levels = deep_list say deep_part items levels

-- ---- patterns

-- one level
pub pattern_rolled : (layer : L.PatternKind-F PatternKind) (levels : ℕ) → pattern_kind_deep (roll-PatternKind layer) levels ≡ deep_in_pattern (map-PatternKind PatternKind Deep pattern_kind_deep layer) levels
unfolding pattern_kind_deep
pattern_rolled layer levels = ap (λ (f : Deep). f levels) (fold-roll-PatternKind Deep deep_in_pattern layer)

pub pattern_kind_deep-Atom : (a : List ℕ) (levels : ℕ) → pattern_kind_deep (P.Atom a) levels ≡ []
pattern_kind_deep-Atom a levels = ap (λ k. pattern_kind_deep k levels) (sym (P.rolls-Atom a)) ∙ pattern_rolled (L.Atom a) levels

pub pattern_kind_deep-Int : (n : ℤ) (levels : ℕ) → pattern_kind_deep (P.Int n) levels ≡ []
pattern_kind_deep-Int n levels = ap (λ k. pattern_kind_deep k levels) (sym (P.rolls-Int n)) ∙ pattern_rolled (L.Int n) levels

pub pattern_kind_deep-NegInt : (n : ℤ) (levels : ℕ) → pattern_kind_deep (P.NegInt n) levels ≡ []
pattern_kind_deep-NegInt n levels = ap (λ k. pattern_kind_deep k levels) (sym (P.rolls-NegInt n)) ∙ pattern_rolled (L.NegInt n) levels

pub pattern_kind_deep-Char : (c : ℕ) (levels : ℕ) → pattern_kind_deep (P.Char c) levels ≡ []
pattern_kind_deep-Char c levels = ap (λ k. pattern_kind_deep k levels) (sym (P.rolls-Char c)) ∙ pattern_rolled (L.Char c) levels

pub pattern_kind_deep-Str : (s : List ℕ) (levels : ℕ) → pattern_kind_deep (P.Str s) levels ≡ []
pattern_kind_deep-Str s levels = ap (λ k. pattern_kind_deep k levels) (sym (P.rolls-Str s)) ∙ pattern_rolled (L.Str s) levels

pub pattern_kind_deep-Var : (x : List ℕ) (levels : ℕ) → pattern_kind_deep (P.Var x) levels ≡ []
pattern_kind_deep-Var x levels = ap (λ k. pattern_kind_deep k levels) (sym (P.rolls-Var x)) ∙ pattern_rolled (L.Var x) levels

pub pattern_kind_deep-Paren : (p : Node PatternKind) (levels : ℕ) → pattern_kind_deep (P.Paren p) levels ≡ pattern_deep p levels
pattern_kind_deep-Paren p levels = ap (λ k. pattern_kind_deep k levels) (sym (P.rolls-Paren p)) ∙ pattern_rolled (L.Paren p) levels

pub pattern_kind_deep-Tuple : (ps : List (Node PatternKind)) (levels : ℕ) → pattern_kind_deep (P.Tuple ps) levels ≡ deep_all pattern_deep ps levels
pattern_kind_deep-Tuple ps levels = ap (λ k. pattern_kind_deep k levels) (sym (P.rolls-Tuple ps)) ∙ (pattern_rolled (L.Tuple ps) levels ∙ deep_list pattern_kind_deep deep_node ps levels)

pub pattern_kind_deep-Cells : (ps : List (Node PatternKind)) (tail : Option (Node PatternKind)) (levels : ℕ) → pattern_kind_deep (P.Cells ps tail) levels ≡ deep_cells pattern_deep ps tail levels
pattern_kind_deep-Cells ps tail levels = ap (λ k. pattern_kind_deep k levels) (sym (P.rolls-Cells ps tail)) ∙ (pattern_rolled (L.Cells ps tail) levels ∙ deep_row pattern_kind_deep ps tail levels)

pub pattern_kind_deep-Map : (entries : List (Node (Node LiteralKind × Node PatternKind))) (levels : ℕ) → pattern_kind_deep (P.Map entries) levels ≡ deep_all (deep_second pattern_deep) entries levels
pattern_kind_deep-Map entries levels = ap (λ k. pattern_kind_deep k levels) (sym (P.rolls-Map entries)) ∙ (pattern_rolled (L.Map entries) levels ∙ deep_entries pattern_kind_deep entries levels)

pub pattern_kind_deep-Rec : (name tag : List ℕ) (fields : List (Node (List ℕ × Node PatternKind))) (levels : ℕ) → pattern_kind_deep (P.Rec name tag fields) levels ≡ deep_all (deep_second pattern_deep) fields levels
pattern_kind_deep-Rec name tag fields levels = ap (λ k. pattern_kind_deep k levels) (sym (P.rolls-Rec name tag fields)) ∙ (pattern_rolled (L.Rec name tag fields) levels ∙ deep_fields pattern_kind_deep fields levels)

pub pattern_kind_deep-Alias : (p q : Node PatternKind) (levels : ℕ) → pattern_kind_deep (P.Alias p q) levels ≡ pattern_deep p levels ++ pattern_deep q levels
pattern_kind_deep-Alias p q levels = ap (λ k. pattern_kind_deep k levels) (sym (P.rolls-Alias p q)) ∙ pattern_rolled (L.Alias p q) levels

pub ruleset pattern_deep_laws = (pattern_kind_deep-Atom, pattern_kind_deep-Int, pattern_kind_deep-NegInt, pattern_kind_deep-Char, pattern_kind_deep-Str, pattern_kind_deep-Var, pattern_kind_deep-Paren, pattern_kind_deep-Tuple, pattern_kind_deep-Cells, pattern_kind_deep-Map, pattern_kind_deep-Rec, pattern_kind_deep-Alias)

-- ---- expressions

-- one level
pub expr_rolled : (layer : E.ExprKind-F ExprKind ItemKind QualifierKind AssocKind CatchKind ClauseKind) (levels : ℕ) → expr_kind_deep (roll-ExprKind layer) levels ≡ deep_in_expr (map-ExprKind ExprKind ItemKind QualifierKind AssocKind CatchKind ClauseKind Deep Deep Deep Deep Deep Deep expr_kind_deep item_kind_deep qualifier_kind_deep assoc_kind_deep catch_kind_deep clause_kind_deep layer) levels
unfolding expr_kind_deep item_kind_deep qualifier_kind_deep assoc_kind_deep catch_kind_deep clause_kind_deep
expr_rolled layer levels = ap (λ (f : Deep). f levels) (fold-roll-ExprKind Deep Deep Deep Deep Deep Deep deep_in_expr deep_in_item deep_in_qualifier deep_in_assoc deep_in_catch deep_in_clause layer)

-- one level
pub item_rolled : (layer : E.ItemKind-F ExprKind ItemKind QualifierKind AssocKind CatchKind ClauseKind) (levels : ℕ) → item_kind_deep (roll-ItemKind layer) levels ≡ deep_in_item (map-ItemKind ExprKind ItemKind QualifierKind AssocKind CatchKind ClauseKind Deep Deep Deep Deep Deep Deep expr_kind_deep item_kind_deep qualifier_kind_deep assoc_kind_deep catch_kind_deep clause_kind_deep layer) levels
unfolding expr_kind_deep item_kind_deep qualifier_kind_deep assoc_kind_deep catch_kind_deep clause_kind_deep
item_rolled layer levels = ap (λ (f : Deep). f levels) (fold-roll-ItemKind Deep Deep Deep Deep Deep Deep deep_in_expr deep_in_item deep_in_qualifier deep_in_assoc deep_in_catch deep_in_clause layer)

-- one level
pub qualifier_rolled : (layer : E.QualifierKind-F ExprKind ItemKind QualifierKind AssocKind CatchKind ClauseKind) (levels : ℕ) → qualifier_kind_deep (roll-QualifierKind layer) levels ≡ deep_in_qualifier (map-QualifierKind ExprKind ItemKind QualifierKind AssocKind CatchKind ClauseKind Deep Deep Deep Deep Deep Deep expr_kind_deep item_kind_deep qualifier_kind_deep assoc_kind_deep catch_kind_deep clause_kind_deep layer) levels
unfolding expr_kind_deep item_kind_deep qualifier_kind_deep assoc_kind_deep catch_kind_deep clause_kind_deep
qualifier_rolled layer levels = ap (λ (f : Deep). f levels) (fold-roll-QualifierKind Deep Deep Deep Deep Deep Deep deep_in_expr deep_in_item deep_in_qualifier deep_in_assoc deep_in_catch deep_in_clause layer)

pub expr_kind_deep-Atom : (a : List ℕ) (levels : ℕ) → expr_kind_deep (X.Atom a) levels ≡ []
expr_kind_deep-Atom a levels = ap (λ k. expr_kind_deep k levels) (sym (X.rolls-Atom a)) ∙ expr_rolled (E.Atom a) levels

pub expr_kind_deep-Int : (n : ℤ) (levels : ℕ) → expr_kind_deep (X.Int n) levels ≡ []
expr_kind_deep-Int n levels = ap (λ k. expr_kind_deep k levels) (sym (X.rolls-Int n)) ∙ expr_rolled (E.Int n) levels

pub expr_kind_deep-Char : (c : ℕ) (levels : ℕ) → expr_kind_deep (X.Char c) levels ≡ []
expr_kind_deep-Char c levels = ap (λ k. expr_kind_deep k levels) (sym (X.rolls-Char c)) ∙ expr_rolled (E.Char c) levels

pub expr_kind_deep-Str : (s : List ℕ) (levels : ℕ) → expr_kind_deep (X.Str s) levels ≡ []
expr_kind_deep-Str s levels = ap (λ k. expr_kind_deep k levels) (sym (X.rolls-Str s)) ∙ expr_rolled (E.Str s) levels

pub expr_kind_deep-Var : (x : List ℕ) (levels : ℕ) → expr_kind_deep (X.Var x) levels ≡ []
expr_kind_deep-Var x levels = ap (λ k. expr_kind_deep k levels) (sym (X.rolls-Var x)) ∙ expr_rolled (E.Var x) levels

pub expr_kind_deep-Paren : (e : Node ExprKind) (levels : ℕ) → expr_kind_deep (X.Paren e) levels ≡ expr_deep e levels
expr_kind_deep-Paren e levels = ap (λ k. expr_kind_deep k levels) (sym (X.rolls-Paren e)) ∙ expr_rolled (E.Paren e) levels

pub expr_kind_deep-Tuple : (es : List (Node ExprKind)) (levels : ℕ) → expr_kind_deep (X.Tuple es) levels ≡ deep_all expr_deep es levels
expr_kind_deep-Tuple es levels = ap (λ k. expr_kind_deep k levels) (sym (X.rolls-Tuple es)) ∙ (expr_rolled (E.Tuple es) levels ∙ deep_list expr_kind_deep deep_node es levels)

pub expr_kind_deep-Cells : (es : List (Node ExprKind)) (tail : Option (Node ExprKind)) (levels : ℕ) → expr_kind_deep (X.Cells es tail) levels ≡ deep_cells expr_deep es tail levels
expr_kind_deep-Cells es tail levels = ap (λ k. expr_kind_deep k levels) (sym (X.rolls-Cells es tail)) ∙ (expr_rolled (E.Cells es tail) levels ∙ deep_row expr_kind_deep es tail levels)

pub expr_kind_deep-Comp : (e : Node ExprKind) (qs : List (Node QualifierKind)) (levels : ℕ) → expr_kind_deep (X.Comp e qs) levels ≡ expr_deep e levels ++ deep_all qualifier_deep qs levels
expr_kind_deep-Comp e qs levels = ap (λ k. expr_kind_deep k levels) (sym (X.rolls-Comp e qs)) ∙ (expr_rolled (E.Comp e qs) levels ∙ ap (λ ps. expr_deep e levels ++ ps) (deep_list qualifier_kind_deep deep_part qs levels))

pub expr_kind_deep-Unary : (op : UnaryOp) (e : Node ExprKind) (levels : ℕ) → expr_kind_deep (X.Unary op e) levels ≡ expr_deep e levels
expr_kind_deep-Unary op e levels = ap (λ k. expr_kind_deep k levels) (sym (X.rolls-Unary op e)) ∙ expr_rolled (E.Unary op e) levels

pub expr_kind_deep-Binary : (op : BinaryOp) (a b : Node ExprKind) (levels : ℕ) → expr_kind_deep (X.Binary op a b) levels ≡ expr_deep a levels ++ expr_deep b levels
expr_kind_deep-Binary op a b levels = ap (λ k. expr_kind_deep k levels) (sym (X.rolls-Binary op a b)) ∙ expr_rolled (E.Binary op a b) levels

pub expr_kind_deep-Call : (prefix : Option (List ℕ)) (name : List ℕ) (args : List (Node ExprKind)) (levels : ℕ) → expr_kind_deep (X.Call prefix name args) levels ≡ deep_all expr_deep args levels
expr_kind_deep-Call prefix name args levels = ap (λ k. expr_kind_deep k levels) (sym (X.rolls-Call prefix name args)) ∙ (expr_rolled (E.Call prefix name args) levels ∙ deep_list expr_kind_deep deep_node args levels)

pub expr_kind_deep-Apply : (f : Node ExprKind) (args : List (Node ExprKind)) (levels : ℕ) → expr_kind_deep (X.Apply f args) levels ≡ expr_deep f levels ++ deep_all expr_deep args levels
expr_kind_deep-Apply f args levels = ap (λ k. expr_kind_deep k levels) (sym (X.rolls-Apply f args)) ∙ (expr_rolled (E.Apply f args) levels ∙ ap (λ ps. expr_deep f levels ++ ps) (deep_list expr_kind_deep deep_node args levels))

pub expr_kind_deep-MapNew : (assocs : List (Node AssocKind)) (levels : ℕ) → expr_kind_deep (X.MapNew assocs) levels ≡ deep_all assoc_deep assocs levels
expr_kind_deep-MapNew assocs levels = ap (λ k. expr_kind_deep k levels) (sym (X.rolls-MapNew assocs)) ∙ (expr_rolled (E.MapNew assocs) levels ∙ deep_list assoc_kind_deep deep_part assocs levels)

pub expr_kind_deep-MapChange : (e : Node ExprKind) (assocs : List (Node AssocKind)) (levels : ℕ) → expr_kind_deep (X.MapChange e assocs) levels ≡ expr_deep e levels ++ deep_all assoc_deep assocs levels
expr_kind_deep-MapChange e assocs levels = ap (λ k. expr_kind_deep k levels) (sym (X.rolls-MapChange e assocs)) ∙ (expr_rolled (E.MapChange e assocs) levels ∙ ap (λ ps. expr_deep e levels ++ ps) (deep_list assoc_kind_deep deep_part assocs levels))

pub expr_kind_deep-RecNew : (name tag : List ℕ) (fields : List (Node (List ℕ × Node ExprKind))) (levels : ℕ) → expr_kind_deep (X.RecNew name tag fields) levels ≡ deep_all (deep_second expr_deep) fields levels
expr_kind_deep-RecNew name tag fields levels = ap (λ k. expr_kind_deep k levels) (sym (X.rolls-RecNew name tag fields)) ∙ (expr_rolled (E.RecNew name tag fields) levels ∙ deep_fields expr_kind_deep fields levels)

pub expr_kind_deep-RecChange : (e : Node ExprKind) (name tag : List ℕ) (fields : List (Node (List ℕ × Node ExprKind))) (levels : ℕ) → expr_kind_deep (X.RecChange e name tag fields) levels ≡ expr_deep e levels ++ deep_all (deep_second expr_deep) fields levels
expr_kind_deep-RecChange e name tag fields levels = ap (λ k. expr_kind_deep k levels) (sym (X.rolls-RecChange e name tag fields)) ∙ (expr_rolled (E.RecChange e name tag fields) levels ∙ ap (λ ps. expr_deep e levels ++ ps) (deep_fields expr_kind_deep fields levels))

pub expr_kind_deep-RecGet : (e : Node ExprKind) (name tag field : List ℕ) (levels : ℕ) → expr_kind_deep (X.RecGet e name tag field) levels ≡ expr_deep e levels
expr_kind_deep-RecGet e name tag field levels = ap (λ k. expr_kind_deep k levels) (sym (X.rolls-RecGet e name tag field)) ∙ expr_rolled (E.RecGet e name tag field) levels

pub expr_kind_deep-Begin : (is : List (Node ItemKind)) (levels : ℕ) → expr_kind_deep (X.Begin is) levels ≡ deep_all item_deep is levels
expr_kind_deep-Begin is levels = ap (λ k. expr_kind_deep k levels) (sym (X.rolls-Begin is)) ∙ (expr_rolled (E.Begin is) levels ∙ deep_list item_kind_deep deep_part is levels)

pub expr_kind_deep-Case : (e : Node ExprKind) (cs : List (Node ClauseKind)) (levels : ℕ) → expr_kind_deep (X.Case e cs) levels ≡ expr_deep e levels ++ deep_all clause_deep cs levels
expr_kind_deep-Case e cs levels = ap (λ k. expr_kind_deep k levels) (sym (X.rolls-Case e cs)) ∙ (expr_rolled (E.Case e cs) levels ∙ ap (λ ps. expr_deep e levels ++ ps) (deep_list clause_kind_deep deep_part cs levels))

pub expr_kind_deep-If : (cs : List (Node ClauseKind)) (levels : ℕ) → expr_kind_deep (X.If cs) levels ≡ deep_all clause_deep cs levels
expr_kind_deep-If cs levels = ap (λ k. expr_kind_deep k levels) (sym (X.rolls-If cs)) ∙ (expr_rolled (E.If cs) levels ∙ deep_list clause_kind_deep deep_part cs levels)

pub expr_kind_deep-FunName : (named : List ℕ) (arity : ℤ) (levels : ℕ) → expr_kind_deep (X.FunName named arity) levels ≡ []
expr_kind_deep-FunName named arity levels = ap (λ k. expr_kind_deep k levels) (sym (X.rolls-FunName named arity)) ∙ expr_rolled (E.FunName named arity) levels

pub expr_kind_deep-Fun : (cs : List (Node ClauseKind)) (levels : ℕ) → expr_kind_deep (X.Fun cs) levels ≡ deep_all clause_deep cs levels
expr_kind_deep-Fun cs levels = ap (λ k. expr_kind_deep k levels) (sym (X.rolls-Fun cs)) ∙ (expr_rolled (E.Fun cs) levels ∙ deep_list clause_kind_deep deep_part cs levels)

pub expr_kind_deep-Try : (body : List (Node ItemKind)) (of_clauses : List (Node ClauseKind)) (catches : List (Node CatchKind)) (after : Option (List (Node ItemKind))) (levels : ℕ) → expr_kind_deep (X.Try body of_clauses catches after) levels ≡ deep_all item_deep body levels ++ (deep_all clause_deep of_clauses levels ++ (deep_all catch_deep catches levels ++ deep_optional (deep_all item_deep) after levels))
expr_kind_deep-Try body of_clauses catches after levels = ap (λ k. expr_kind_deep k levels) (sym (X.rolls-Try body of_clauses catches after)) ∙ (expr_rolled (E.Try body of_clauses catches after) levels ∙ (ap (λ ps. ps ++ (deep_all deep_part (S.former-ExprKind-Tuple-0.map ClauseKind Deep clause_kind_deep of_clauses) levels ++ (deep_all deep_part (S.former-ExprKind-Tuple-0.map CatchKind Deep catch_kind_deep catches) levels ++ deep_optional (deep_all deep_part) (S.former-ExprKind-Try-3.map ItemKind Deep item_kind_deep after) levels))) (deep_list item_kind_deep deep_part body levels) ∙ (ap (λ ps. deep_all item_deep body levels ++ (ps ++ (deep_all deep_part (S.former-ExprKind-Tuple-0.map CatchKind Deep catch_kind_deep catches) levels ++ deep_optional (deep_all deep_part) (S.former-ExprKind-Try-3.map ItemKind Deep item_kind_deep after) levels))) (deep_list clause_kind_deep deep_part of_clauses levels) ∙ (ap (λ ps. deep_all item_deep body levels ++ (deep_all clause_deep of_clauses levels ++ (ps ++ deep_optional (deep_all deep_part) (S.former-ExprKind-Try-3.map ItemKind Deep item_kind_deep after) levels))) (deep_list catch_kind_deep deep_part catches levels) ∙ ap (λ ps. deep_all item_deep body levels ++ (deep_all clause_deep of_clauses levels ++ (deep_all catch_deep catches levels ++ ps))) (deep_after item_kind_deep after levels)))))

pub ruleset expr_deep_laws = (expr_kind_deep-Atom, expr_kind_deep-Int, expr_kind_deep-Char, expr_kind_deep-Str, expr_kind_deep-Var, expr_kind_deep-Paren, expr_kind_deep-Tuple, expr_kind_deep-Cells, expr_kind_deep-Comp, expr_kind_deep-Unary, expr_kind_deep-Binary, expr_kind_deep-Call, expr_kind_deep-Apply, expr_kind_deep-MapNew, expr_kind_deep-MapChange, expr_kind_deep-RecNew, expr_kind_deep-RecChange, expr_kind_deep-RecGet, expr_kind_deep-Begin, expr_kind_deep-Case, expr_kind_deep-If, expr_kind_deep-FunName, expr_kind_deep-Fun, expr_kind_deep-Try)

-- ---- elements of bodies, qualifiers, associations and clauses

pub item_kind_deep-Value : (e : Node ExprKind) (levels : ℕ) → item_kind_deep (I.Value e) levels ≡ expr_deep e levels
item_kind_deep-Value e levels = ap (λ k. item_kind_deep k levels) (sym (I.rolls-Value e)) ∙ item_rolled (E.Value e) levels

pub item_kind_deep-Match : (p : Node PatternKind) (e : Node ExprKind) (levels : ℕ) → item_kind_deep (I.Match p e) levels ≡ pattern_deep p levels ++ expr_deep e levels
item_kind_deep-Match p e levels = ap (λ k. item_kind_deep k levels) (sym (I.rolls-Match p e)) ∙ item_rolled (E.Match p e) levels

pub qualifier_kind_deep-Generator : (p : Node PatternKind) (e : Node ExprKind) (levels : ℕ) → qualifier_kind_deep (Q.Generator p e) levels ≡ pattern_deep p levels ++ expr_deep e levels
qualifier_kind_deep-Generator p e levels = ap (λ k. qualifier_kind_deep k levels) (sym (Q.rolls-Generator p e)) ∙ qualifier_rolled (E.Generator p e) levels

pub qualifier_kind_deep-Filter : (e : Node ExprKind) (levels : ℕ) → qualifier_kind_deep (Q.Filter e) levels ≡ expr_deep e levels
qualifier_kind_deep-Filter e levels = ap (λ k. qualifier_kind_deep k levels) (sym (Q.rolls-Filter e)) ∙ qualifier_rolled (E.Filter e) levels

pub assoc_kind_deep-assoc_of : (key : Node ExprKind) (exact : Bool) (value : Node ExprKind) (levels : ℕ) → assoc_kind_deep (assoc_of key exact value) levels ≡ expr_deep key levels ++ expr_deep value levels
unfolding expr_kind_deep item_kind_deep qualifier_kind_deep assoc_kind_deep catch_kind_deep clause_kind_deep
assoc_kind_deep-assoc_of key exact value levels = ap (λ (f : Deep). f levels) (fold-roll-AssocKind Deep Deep Deep Deep Deep Deep deep_in_expr deep_in_item deep_in_qualifier deep_in_assoc deep_in_catch deep_in_clause (record { key = key; exact = exact; value = value }))

pub catch_kind_deep-catch_of : (class : Option (Node PatternKind)) (clause : Node ClauseKind) (levels : ℕ) → catch_kind_deep (catch_of class clause) levels ≡ deep_optional pattern_deep class levels ++ clause_deep clause levels
unfolding expr_kind_deep item_kind_deep qualifier_kind_deep assoc_kind_deep catch_kind_deep clause_kind_deep
catch_kind_deep-catch_of class clause levels = ap (λ (f : Deep). f levels) (fold-roll-CatchKind Deep Deep Deep Deep Deep Deep deep_in_expr deep_in_item deep_in_qualifier deep_in_assoc deep_in_catch deep_in_clause (record { class = class; clause = clause }))

pub clause_kind_deep-clause_of : (ps : List (Node PatternKind)) (w : Option (Node (List (List (Node ExprKind))))) (is : List (Node ItemKind)) (levels : ℕ) → clause_kind_deep (clause_of ps w is) levels ≡ deep_all pattern_deep ps levels ++ (deep_optional (deep_guard expr_deep) w levels ++ deep_all item_deep is levels)
unfolding expr_kind_deep item_kind_deep qualifier_kind_deep assoc_kind_deep catch_kind_deep clause_kind_deep
clause_kind_deep-clause_of ps w is levels = ap (λ (f : Deep). f levels) (fold-roll-ClauseKind Deep Deep Deep Deep Deep Deep deep_in_expr deep_in_item deep_in_qualifier deep_in_assoc deep_in_catch deep_in_clause (record { patterns = ps; guard = w; body = is }))
    ∙ (ap (λ q. deep_all pattern_deep ps levels ++ (q ++ deep_all deep_part (S.former-ExprKind-Tuple-0.map ItemKind Deep item_kind_deep is) levels)) (deep_when expr_kind_deep w levels)
    ∙ ap (λ q. deep_all pattern_deep ps levels ++ (deep_optional (deep_guard expr_deep) w levels ++ q)) (deep_list item_kind_deep deep_part is levels))

pub ruleset part_deep_laws = (item_kind_deep-Value, item_kind_deep-Match, qualifier_kind_deep-Generator, qualifier_kind_deep-Filter, assoc_kind_deep-assoc_of, catch_kind_deep-catch_of, clause_kind_deep-clause_of)
