-- The equations of the variables and the calls of expressions: one for each form of a flat module.
use Rattle.std.proofs.Common.{◌≡◌, refl, ap, sym, ◌∙◌, ℤ, suc, List, [], ◌∷◌, ◌++◌, length}
use Rattle.std.specs.Prelude.{None}
use Rattle.type_terms.specs.Keys.{Name}
use Rattle.erl_tree.specs.declared.token.Node.{Node}
use Rattle.erl_tree.specs.declared.expr.BinaryOp.{BinaryOp}
use Rattle.erl_tree.specs.declared.expr.ExprKind.{ExprKind, fold-ExprKind, fold-roll-ExprKind}
use Rattle.erl_tree.specs.declared.expr.ExprKind.TheVariants as X
use Rattle.erl_tree.specs.declared.expr.ExprKind.TheOpen as E
use Rattle.erl_tree.specs.declared.expr.ExprKind.TheShapes as S
use Rattle.erl_tree.specs.Functions.{FunctionId, of_function}
use Rattle.flat_modules.specs.FlatNames.{together, used_layer, used_in, called_layer, called_in}

-- what all of some expressions have, in turn
abbrev pub all_used : List (Node ExprKind) → List Name
all_used [] = []
all_used (e ∷ es) = used_in e.kind ++ all_used es

used_args : (es : List (Node ExprKind)) → together (S.former-ExprKind-Tuple-0.map ExprKind (List Name) (fold-ExprKind (List Name) (Unit {0}) (Unit {0}) (Unit {0}) (Unit {0}) (Unit {0}) used_layer (λ i. tt) (λ q. tt) (λ a. tt) (λ c. tt) (λ c. tt)) es) ≡ all_used es
unfolding used_in
used_args [] = refl
used_args (e ∷ es) = ap (λ xs. used_in e.kind ++ xs) (used_args es)

pub used_in-Int : (n : ℤ) → used_in (X.Int n) ≡ []
unfolding used_in
used_in-Int n = ap (λ k. used_in k) (sym (X.rolls-Int n)) ∙ fold-roll-ExprKind (List Name) (Unit {0}) (Unit {0}) (Unit {0}) (Unit {0}) (Unit {0}) used_layer (λ i. tt) (λ q. tt) (λ a. tt) (λ c. tt) (λ c. tt) (E.Int n)

pub used_in-Atom : (a : Name) → used_in (X.Atom a) ≡ []
unfolding used_in
used_in-Atom a = ap (λ k. used_in k) (sym (X.rolls-Atom a)) ∙ fold-roll-ExprKind (List Name) (Unit {0}) (Unit {0}) (Unit {0}) (Unit {0}) (Unit {0}) used_layer (λ i. tt) (λ q. tt) (λ a. tt) (λ c. tt) (λ c. tt) (E.Atom a)

pub used_in-Var : (x : Name) → used_in (X.Var x) ≡ x ∷ []
unfolding used_in
used_in-Var x = ap (λ k. used_in k) (sym (X.rolls-Var x)) ∙ fold-roll-ExprKind (List Name) (Unit {0}) (Unit {0}) (Unit {0}) (Unit {0}) (Unit {0}) used_layer (λ i. tt) (λ q. tt) (λ a. tt) (λ c. tt) (λ c. tt) (E.Var x)

pub used_in-Paren : (e : Node ExprKind) → used_in (X.Paren e) ≡ used_in e.kind
unfolding used_in
used_in-Paren e = ap (λ k. used_in k) (sym (X.rolls-Paren e)) ∙ fold-roll-ExprKind (List Name) (Unit {0}) (Unit {0}) (Unit {0}) (Unit {0}) (Unit {0}) used_layer (λ i. tt) (λ q. tt) (λ a. tt) (λ c. tt) (λ c. tt) (E.Paren e)

pub used_in-Binary : (op : BinaryOp) (a b : Node ExprKind) → used_in (X.Binary op a b) ≡ used_in a.kind ++ used_in b.kind
unfolding used_in
used_in-Binary op a b = ap (λ k. used_in k) (sym (X.rolls-Binary op a b)) ∙ fold-roll-ExprKind (List Name) (Unit {0}) (Unit {0}) (Unit {0}) (Unit {0}) (Unit {0}) used_layer (λ i. tt) (λ q. tt) (λ a. tt) (λ c. tt) (λ c. tt) (E.Binary op a b)

pub used_in-Call : (name : Name) (args : List (Node ExprKind)) → used_in (X.Call None name args) ≡ all_used args
unfolding used_in
used_in-Call name args = ap (λ k. used_in k) (sym (X.rolls-Call None name args)) ∙ (fold-roll-ExprKind (List Name) (Unit {0}) (Unit {0}) (Unit {0}) (Unit {0}) (Unit {0}) used_layer (λ i. tt) (λ q. tt) (λ a. tt) (λ c. tt) (λ c. tt) (E.Call None name args) ∙ used_args args)

-- what all of some expressions have, in turn
abbrev pub all_called : List (Node ExprKind) → List FunctionId
all_called [] = []
all_called (e ∷ es) = called_in e.kind ++ all_called es

called_args : (es : List (Node ExprKind)) → together (S.former-ExprKind-Tuple-0.map ExprKind (List FunctionId) (fold-ExprKind (List FunctionId) (Unit {0}) (Unit {0}) (Unit {0}) (Unit {0}) (Unit {0}) called_layer (λ i. tt) (λ q. tt) (λ a. tt) (λ c. tt) (λ c. tt)) es) ≡ all_called es
unfolding called_in
called_args [] = refl
called_args (e ∷ es) = ap (λ xs. called_in e.kind ++ xs) (called_args es)

arg_count : (es : List (Node ExprKind)) → length (S.former-ExprKind-Tuple-0.map ExprKind (List FunctionId) (fold-ExprKind (List FunctionId) (Unit {0}) (Unit {0}) (Unit {0}) (Unit {0}) (Unit {0}) called_layer (λ i. tt) (λ q. tt) (λ a. tt) (λ c. tt) (λ c. tt)) es) ≡ length es
arg_count [] = refl
arg_count (e ∷ es) = ap suc (arg_count es)

pub called_in-Int : (n : ℤ) → called_in (X.Int n) ≡ []
unfolding called_in
called_in-Int n = ap (λ k. called_in k) (sym (X.rolls-Int n)) ∙ fold-roll-ExprKind (List FunctionId) (Unit {0}) (Unit {0}) (Unit {0}) (Unit {0}) (Unit {0}) called_layer (λ i. tt) (λ q. tt) (λ a. tt) (λ c. tt) (λ c. tt) (E.Int n)

pub called_in-Atom : (a : Name) → called_in (X.Atom a) ≡ []
unfolding called_in
called_in-Atom a = ap (λ k. called_in k) (sym (X.rolls-Atom a)) ∙ fold-roll-ExprKind (List FunctionId) (Unit {0}) (Unit {0}) (Unit {0}) (Unit {0}) (Unit {0}) called_layer (λ i. tt) (λ q. tt) (λ a. tt) (λ c. tt) (λ c. tt) (E.Atom a)

pub called_in-Var : (x : Name) → called_in (X.Var x) ≡ []
unfolding called_in
called_in-Var x = ap (λ k. called_in k) (sym (X.rolls-Var x)) ∙ fold-roll-ExprKind (List FunctionId) (Unit {0}) (Unit {0}) (Unit {0}) (Unit {0}) (Unit {0}) called_layer (λ i. tt) (λ q. tt) (λ a. tt) (λ c. tt) (λ c. tt) (E.Var x)

pub called_in-Paren : (e : Node ExprKind) → called_in (X.Paren e) ≡ called_in e.kind
unfolding called_in
called_in-Paren e = ap (λ k. called_in k) (sym (X.rolls-Paren e)) ∙ fold-roll-ExprKind (List FunctionId) (Unit {0}) (Unit {0}) (Unit {0}) (Unit {0}) (Unit {0}) called_layer (λ i. tt) (λ q. tt) (λ a. tt) (λ c. tt) (λ c. tt) (E.Paren e)

pub called_in-Binary : (op : BinaryOp) (a b : Node ExprKind) → called_in (X.Binary op a b) ≡ called_in a.kind ++ called_in b.kind
unfolding called_in
called_in-Binary op a b = ap (λ k. called_in k) (sym (X.rolls-Binary op a b)) ∙ fold-roll-ExprKind (List FunctionId) (Unit {0}) (Unit {0}) (Unit {0}) (Unit {0}) (Unit {0}) called_layer (λ i. tt) (λ q. tt) (λ a. tt) (λ c. tt) (λ c. tt) (E.Binary op a b)

pub called_in-Call : (name : Name) (args : List (Node ExprKind)) → called_in (X.Call None name args) ≡ of_function name (length args) ∷ all_called args
unfolding called_in
called_in-Call name args = ap (λ k. called_in k) (sym (X.rolls-Call None name args)) ∙ (fold-roll-ExprKind (List FunctionId) (Unit {0}) (Unit {0}) (Unit {0}) (Unit {0}) (Unit {0}) called_layer (λ i. tt) (λ q. tt) (λ a. tt) (λ c. tt) (λ c. tt) (E.Call None name args) ∙ ap (λ n. of_function name n ∷ together (S.former-ExprKind-Tuple-0.map ExprKind (List FunctionId) (fold-ExprKind (List FunctionId) (Unit {0}) (Unit {0}) (Unit {0}) (Unit {0}) (Unit {0}) called_layer (λ i. tt) (λ q. tt) (λ a. tt) (λ c. tt) (λ c. tt)) args)) (arg_count args) ∙ ap (λ xs. of_function name (length args) ∷ xs) (called_args args))

pub ruleset used_laws = (used_in-Int, used_in-Atom, used_in-Var, used_in-Paren, used_in-Binary, used_in-Call)

pub ruleset called_laws = (called_in-Int, called_in-Atom, called_in-Var, called_in-Paren, called_in-Binary, called_in-Call)
