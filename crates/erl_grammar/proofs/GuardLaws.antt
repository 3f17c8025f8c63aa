-- Which nodes of an expression may not stand in guards: one equation for each form.
use Rattle.std.proofs.Common.{◌≡◌, refl, ap, sym, ◌∙◌, ℕ, suc, ℤ, List, [], ◌∷◌, length}
use Rattle.std.specs.Prelude.{Option, Some, None, if◌then◌else◌}
use Rattle.erl_tree.specs.declared.token.Place.{Place}
use Rattle.erl_tree.specs.declared.token.Node.{Node}
use Rattle.erl_tree.specs.declared.expr.UnaryOp.{UnaryOp}
use Rattle.erl_tree.specs.declared.expr.BinaryOp.{BinaryOp}
use Rattle.erl_tree.specs.declared.expr.ExprKind.{ExprKind, roll-ExprKind, map-ExprKind, fold-roll-ExprKind}
use Rattle.erl_tree.specs.declared.expr.ExprKind.TheVariants as X
use Rattle.erl_tree.specs.declared.expr.ExprKind.TheOpen as E
use Rattle.erl_tree.specs.declared.expr.ExprKind.TheShapes as S
use Rattle.erl_tree.specs.declared.expr.ItemKind.{ItemKind}
use Rattle.erl_tree.specs.declared.expr.ClauseKind.{ClauseKind}
use Rattle.erl_tree.specs.declared.expr.QualifierKind.{QualifierKind}
use Rattle.erl_tree.specs.declared.expr.AssocKind.{AssocKind}
use Rattle.erl_tree.specs.declared.expr.CatchKind.{CatchKind}
use Rattle.erl_grammar.specs.declared.misfit.Misfit.TheVariants.{Call, Other}
use Rattle.erl_grammar.specs.Guards.{Asks, is_guard_function, is_guard_operator, or_else, misfit_of, first_misfit, optional_misfit, misfit_layer, misfit_in, misfit}

-- ---- lists of parts, each with what is said of its kind put in place of the kind

misfit_list : (es : List (Node ExprKind)) → first_misfit misfit_of (S.former-ExprKind-Tuple-0.map ExprKind Asks misfit_in es) ≡ first_misfit misfit es
misfit_list [] = refl
misfit_list (e ∷ es) = ap (λ m. or_else (misfit e) m) (misfit_list es)

misfit_tail : (tail : Option (Node ExprKind)) → optional_misfit misfit_of (S.former-ExprKind-Cells-1.map ExprKind Asks misfit_in tail) ≡ optional_misfit misfit tail
misfit_tail None = refl
misfit_tail (Some t) = refl

misfit_count : (es : List (Node ExprKind)) → length (S.former-ExprKind-Tuple-0.map ExprKind Asks misfit_in es) ≡ length es
misfit_count [] = refl
misfit_count (e ∷ es) = ap suc (misfit_count es)

-- ---- expressions

-- one level
misfit_rolled : (layer : E.ExprKind-F ExprKind ItemKind QualifierKind AssocKind CatchKind ClauseKind) (p : Place) → misfit_in (roll-ExprKind layer) p ≡ misfit_layer (map-ExprKind ExprKind ItemKind QualifierKind AssocKind CatchKind ClauseKind Asks (Unit {0}) (Unit {0}) (Unit {0}) (Unit {0}) (Unit {0}) misfit_in (λ i. tt) (λ q. tt) (λ a. tt) (λ c. tt) (λ c. tt) layer) p
unfolding misfit_in
misfit_rolled layer p = ap (λ (f : Asks). f p) (fold-roll-ExprKind Asks (Unit {0}) (Unit {0}) (Unit {0}) (Unit {0}) (Unit {0}) misfit_layer (λ i. tt) (λ q. tt) (λ a. tt) (λ c. tt) (λ c. tt) layer)

pub misfit_in-Atom : (a : List ℕ) (p : Place) → misfit_in (X.Atom a) p ≡ (None)
misfit_in-Atom a p = ap (λ k. misfit_in k p) (sym (X.rolls-Atom a)) ∙ misfit_rolled (E.Atom a) p

pub misfit_in-Int : (n : ℤ) (p : Place) → misfit_in (X.Int n) p ≡ (None)
misfit_in-Int n p = ap (λ k. misfit_in k p) (sym (X.rolls-Int n)) ∙ misfit_rolled (E.Int n) p

pub misfit_in-Char : (c : ℕ) (p : Place) → misfit_in (X.Char c) p ≡ (None)
misfit_in-Char c p = ap (λ k. misfit_in k p) (sym (X.rolls-Char c)) ∙ misfit_rolled (E.Char c) p

pub misfit_in-Str : (s : List ℕ) (p : Place) → misfit_in (X.Str s) p ≡ (None)
misfit_in-Str s p = ap (λ k. misfit_in k p) (sym (X.rolls-Str s)) ∙ misfit_rolled (E.Str s) p

pub misfit_in-Var : (x : List ℕ) (p : Place) → misfit_in (X.Var x) p ≡ (None)
misfit_in-Var x p = ap (λ k. misfit_in k p) (sym (X.rolls-Var x)) ∙ misfit_rolled (E.Var x) p

pub misfit_in-Paren : (e : Node ExprKind) (p : Place) → misfit_in (X.Paren e) p ≡ (misfit e)
misfit_in-Paren e p = ap (λ k. misfit_in k p) (sym (X.rolls-Paren e)) ∙ misfit_rolled (E.Paren e) p

pub misfit_in-Tuple : (es : List (Node ExprKind)) (p : Place) → misfit_in (X.Tuple es) p ≡ (first_misfit misfit es)
misfit_in-Tuple es p = ap (λ k. misfit_in k p) (sym (X.rolls-Tuple es)) ∙ (misfit_rolled (E.Tuple es) p ∙ misfit_list es)

pub misfit_in-Cells : (es : List (Node ExprKind)) (tail : Option (Node ExprKind)) (p : Place) → misfit_in (X.Cells es tail) p ≡ (or_else (first_misfit misfit es) (optional_misfit misfit tail))
misfit_in-Cells es tail p = ap (λ k. misfit_in k p) (sym (X.rolls-Cells es tail)) ∙ (misfit_rolled (E.Cells es tail) p ∙ (ap (λ m. or_else m (optional_misfit misfit_of (S.former-ExprKind-Cells-1.map ExprKind Asks misfit_in tail))) (misfit_list es) ∙ ap (λ m. or_else (first_misfit misfit es) m) (misfit_tail tail)))

pub misfit_in-Comp : (e : Node ExprKind) (qs : List (Node QualifierKind)) (p : Place) → misfit_in (X.Comp e qs) p ≡ (Some (Other p))
misfit_in-Comp e qs p = ap (λ k. misfit_in k p) (sym (X.rolls-Comp e qs)) ∙ misfit_rolled (E.Comp e qs) p

pub misfit_in-Unary : (op : UnaryOp) (e : Node ExprKind) (p : Place) → misfit_in (X.Unary op e) p ≡ (misfit e)
misfit_in-Unary op e p = ap (λ k. misfit_in k p) (sym (X.rolls-Unary op e)) ∙ misfit_rolled (E.Unary op e) p

pub misfit_in-Binary : (op : BinaryOp) (a b : Node ExprKind) (p : Place) → misfit_in (X.Binary op a b) p ≡ (or_else (misfit a) (if is_guard_operator op then misfit b else Some (Other p)))
misfit_in-Binary op a b p = ap (λ k. misfit_in k p) (sym (X.rolls-Binary op a b)) ∙ misfit_rolled (E.Binary op a b) p

pub misfit_in-Call : (prefix : Option (List ℕ)) (name : List ℕ) (args : List (Node ExprKind)) (p : Place) → misfit_in (X.Call prefix name args) p ≡ (if is_guard_function name (length args) then first_misfit misfit args else Some (Call p))
misfit_in-Call prefix name args p = ap (λ k. misfit_in k p) (sym (X.rolls-Call prefix name args)) ∙ (misfit_rolled (E.Call prefix name args) p ∙ (ap (λ n. if is_guard_function name n then first_misfit misfit_of (S.former-ExprKind-Tuple-0.map ExprKind Asks misfit_in args) else Some (Call p)) (misfit_count args) ∙ ap (λ m. if is_guard_function name (length args) then m else Some (Call p)) (misfit_list args)))

pub misfit_in-Apply : (f : Node ExprKind) (args : List (Node ExprKind)) (p : Place) → misfit_in (X.Apply f args) p ≡ (Some (Call p))
misfit_in-Apply f args p = ap (λ k. misfit_in k p) (sym (X.rolls-Apply f args)) ∙ misfit_rolled (E.Apply f args) p

pub misfit_in-MapNew : (assocs : List (Node AssocKind)) (p : Place) → misfit_in (X.MapNew assocs) p ≡ (Some (Other p))
misfit_in-MapNew assocs p = ap (λ k. misfit_in k p) (sym (X.rolls-MapNew assocs)) ∙ misfit_rolled (E.MapNew assocs) p

pub misfit_in-MapChange : (e : Node ExprKind) (assocs : List (Node AssocKind)) (p : Place) → misfit_in (X.MapChange e assocs) p ≡ (Some (Other p))
misfit_in-MapChange e assocs p = ap (λ k. misfit_in k p) (sym (X.rolls-MapChange e assocs)) ∙ misfit_rolled (E.MapChange e assocs) p

pub misfit_in-RecNew : (name tag : List ℕ) (fields : List (Node (List ℕ × Node ExprKind))) (p : Place) → misfit_in (X.RecNew name tag fields) p ≡ (Some (Other p))
misfit_in-RecNew name tag fields p = ap (λ k. misfit_in k p) (sym (X.rolls-RecNew name tag fields)) ∙ misfit_rolled (E.RecNew name tag fields) p

pub misfit_in-RecChange : (e : Node ExprKind) (name tag : List ℕ) (fields : List (Node (List ℕ × Node ExprKind))) (p : Place) → misfit_in (X.RecChange e name tag fields) p ≡ (Some (Other p))
misfit_in-RecChange e name tag fields p = ap (λ k. misfit_in k p) (sym (X.rolls-RecChange e name tag fields)) ∙ misfit_rolled (E.RecChange e name tag fields) p

pub misfit_in-RecGet : (e : Node ExprKind) (name tag field : List ℕ) (p : Place) → misfit_in (X.RecGet e name tag field) p ≡ (misfit e)
misfit_in-RecGet e name tag field p = ap (λ k. misfit_in k p) (sym (X.rolls-RecGet e name tag field)) ∙ misfit_rolled (E.RecGet e name tag field) p

pub misfit_in-Begin : (is : List (Node ItemKind)) (p : Place) → misfit_in (X.Begin is) p ≡ (Some (Other p))
misfit_in-Begin is p = ap (λ k. misfit_in k p) (sym (X.rolls-Begin is)) ∙ misfit_rolled (E.Begin is) p

pub misfit_in-Case : (e : Node ExprKind) (cs : List (Node ClauseKind)) (p : Place) → misfit_in (X.Case e cs) p ≡ (Some (Other p))
misfit_in-Case e cs p = ap (λ k. misfit_in k p) (sym (X.rolls-Case e cs)) ∙ misfit_rolled (E.Case e cs) p

pub misfit_in-If : (cs : List (Node ClauseKind)) (p : Place) → misfit_in (X.If cs) p ≡ (Some (Other p))
misfit_in-If cs p = ap (λ k. misfit_in k p) (sym (X.rolls-If cs)) ∙ misfit_rolled (E.If cs) p

pub misfit_in-FunName : (named : List ℕ) (arity : ℤ) (p : Place) → misfit_in (X.FunName named arity) p ≡ (Some (Other p))
misfit_in-FunName named arity p = ap (λ k. misfit_in k p) (sym (X.rolls-FunName named arity)) ∙ misfit_rolled (E.FunName named arity) p

pub misfit_in-Fun : (cs : List (Node ClauseKind)) (p : Place) → misfit_in (X.Fun cs) p ≡ (Some (Other p))
misfit_in-Fun cs p = ap (λ k. misfit_in k p) (sym (X.rolls-Fun cs)) ∙ misfit_rolled (E.Fun cs) p

pub misfit_in-Try : (body : List (Node ItemKind)) (of_clauses : List (Node ClauseKind)) (catches : List (Node CatchKind)) (after : Option (List (Node ItemKind))) (p : Place) → misfit_in (X.Try body of_clauses catches after) p ≡ (Some (Other p))
misfit_in-Try body of_clauses catches after p = ap (λ k. misfit_in k p) (sym (X.rolls-Try body of_clauses catches after)) ∙ misfit_rolled (E.Try body of_clauses catches after) p

pub ruleset guard_laws = (misfit_in-Atom, misfit_in-Int, misfit_in-Char, misfit_in-Str, misfit_in-Var, misfit_in-Paren, misfit_in-Tuple, misfit_in-Cells, misfit_in-Comp, misfit_in-Unary, misfit_in-Binary, misfit_in-Call, misfit_in-Apply, misfit_in-MapNew, misfit_in-MapChange, misfit_in-RecNew, misfit_in-RecChange, misfit_in-RecGet, misfit_in-Begin, misfit_in-Case, misfit_in-If, misfit_in-FunName, misfit_in-Fun, misfit_in-Try)
