-- What is said of types and expressions by recursion, at one level: by the view of a kind that a `match` has.
use Rattle.std.proofs.Common.{◌≡◌, refl, ap, ◌∙◌, List, [], ◌∷◌, ◌++◌, length, suc}
use Rattle.std.specs.Prelude.{Option, Some, None, neg_ℤ}
use Rattle.type_terms.specs.declared.term.Term.{Term, AtomLit, Or}
use Rattle.erl_tree.specs.declared.token.Node.{Node}
use Rattle.erl_tree.specs.declared.type_expr.TypeKind.{TypeKind, out-TypeKind, map-TypeKind, fold_out-TypeKind}
use Rattle.erl_tree.specs.declared.type_expr.TypeKind.TheOpen as Y
use Rattle.erl_tree.specs.declared.type_expr.MapPart.{MapPart}
use Rattle.erl_tree.specs.declared.expr.ExprKind.{ExprKind, out-ExprKind, map-ExprKind, fold_out-ExprKind}
use Rattle.erl_tree.specs.declared.expr.ExprKind.TheOpen as E
use Rattle.erl_tree.specs.declared.expr.ExprKind.TheShapes as S
use Rattle.erl_tree.specs.declared.expr.ItemKind.{ItemKind}
use Rattle.erl_tree.specs.declared.expr.QualifierKind.{QualifierKind}
use Rattle.erl_tree.specs.declared.expr.AssocKind.{AssocKind}
use Rattle.erl_tree.specs.declared.expr.CatchKind.{CatchKind}
use Rattle.erl_tree.specs.declared.expr.ClauseKind.{ClauseKind}
use Rattle.erl_tree.specs.Functions.{FunctionId, of_function}
use Rattle.erl_runs.specs.Specs.{one_integer, and_then}
use Rattle.flat_modules.specs.FlatSpecs.{type_term_layer, type_kind_term}
use Rattle.flat_modules.specs.FlatNames.{together, called_layer, called_in}
use Rattle.flat_modules.proofs.FlatNameEquations.{all_called}
use Rattle.flat_tests.specs.Names.{range_term, use_term}

-- ---- types

-- the term of a type, by the terms of its parts
abbrev pub term_of : Y.TypeKind-F TypeKind MapPart → Option Term
term_of (Y.Atom a) = Some (AtomLit a)
term_of (Y.Int n) = Some (one_integer n)
term_of (Y.NegInt n) = Some (one_integer (neg_ℤ n))
term_of (Y.Paren t) = type_kind_term t.kind
term_of (Y.Or t u) = and_then (type_kind_term t.kind) (λ a. and_then (type_kind_term u.kind) (λ b. Some (Or (a ∷ b ∷ []))))
term_of (Y.Range low high) = range_term low.kind high.kind
term_of (Y.Use prefix name args) = use_term prefix name args
term_of _ = None

term_same : (o : Y.TypeKind-F TypeKind MapPart) → type_term_layer (map-TypeKind TypeKind MapPart (Option Term) (Unit {0}) type_kind_term (λ part. tt) o) ≡ term_of o
term_same (Y.Use None name []) = refl
term_same (Y.Use None name (t ∷ ts)) = refl
term_same (Y.Use (Some prefix) name ts) = refl
term_same _ = refl

pub type_kind_term-out : (k : TypeKind) → type_kind_term k ≡ term_of (out-TypeKind k)
unfolding type_kind_term
type_kind_term-out k = fold_out-TypeKind (Option Term) (Unit {0}) type_term_layer (λ part. tt) k ∙ term_same (out-TypeKind k)

pub ruleset term_laws = (type_kind_term-out)

-- ---- expressions

abbrev pub ExprLevel : Type 0
ExprLevel = E.ExprKind-F ExprKind ItemKind QualifierKind AssocKind CatchKind ClauseKind

-- one level of an expression, whose parts have what f says
abbrev mapped : {A : Type 0} → (ExprKind → A) → ExprLevel → E.ExprKind-F A (Unit {0}) (Unit {0}) (Unit {0}) (Unit {0}) (Unit {0})
mapped {A} f o = map-ExprKind ExprKind ItemKind QualifierKind AssocKind CatchKind ClauseKind A (Unit {0}) (Unit {0}) (Unit {0}) (Unit {0}) (Unit {0}) f (λ i. tt) (λ q. tt) (λ a. tt) (λ c. tt) (λ c. tt) o

-- the functions that an expression calls, by those that its parts call
abbrev pub called_of : ExprLevel → List FunctionId
called_of (E.Paren e) = called_in e.kind
called_of (E.Binary op a b) = called_in a.kind ++ called_in b.kind
called_of (E.Call None name args) = of_function name (length args) ∷ all_called args
called_of _ = []

called_args : (es : List (Node ExprKind)) → together (S.former-ExprKind-Tuple-0.map ExprKind (List FunctionId) called_in es) ≡ all_called es
called_args [] = refl
called_args (e ∷ es) = ap (λ xs. called_in e.kind ++ xs) (called_args es)

arg_count : (es : List (Node ExprKind)) → length (S.former-ExprKind-Tuple-0.map ExprKind (List FunctionId) called_in es) ≡ length es
arg_count [] = refl
arg_count (e ∷ es) = ap suc (arg_count es)

called_same : (o : ExprLevel) → called_layer (mapped called_in o) ≡ called_of o
called_same (E.Call None name args) =
    ap (λ n. of_function name n ∷ together (S.former-ExprKind-Tuple-0.map ExprKind (List FunctionId) called_in args)) (arg_count args) ∙ ap (λ ids. of_function name (length args) ∷ ids) (called_args args)
called_same (E.Call (Some prefix) name args) = refl
called_same _ = refl

pub called_in-out : (k : ExprKind) → called_in k ≡ called_of (out-ExprKind k)
unfolding called_in
called_in-out k = fold_out-ExprKind (List FunctionId) (Unit {0}) (Unit {0}) (Unit {0}) (Unit {0}) (Unit {0}) called_layer (λ i. tt) (λ q. tt) (λ a. tt) (λ c. tt) (λ c. tt) k ∙ called_same (out-ExprKind k)

pub ruleset called_laws = (called_in-out)
