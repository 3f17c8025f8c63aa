-- Whether a variable stands in a term, and whether an expression may be a default, by the parts of each.
use Rattle.std.proofs.Common.{◌≡◌, ap, sym, ◌∙◌, ℕ, ℤ, List, map}
use Rattle.std.specs.Prelude.{◌||◌, Option, None as Nothing, Bool, true, false, nat_eq}
use Rattle.type_terms.specs.Keys.{Name as KeyName}
use Rattle.type_terms.specs.declared.term.Term.{Term, fold-roll-Term, Any, None, Ints, AtomLit, AnyAtom, Nil, Cons, Tuple, AnyTuple, Fun, AnyFun, Or, And, Not, Var, Name}
use Rattle.type_terms.specs.declared.term.Term.TheOpen as F
use Rattle.type_terms.specs.declared.term.Term.TheViews as Views
use Rattle.erl_tree.specs.declared.token.Node.{Node}
use Rattle.erl_tree.specs.declared.expr.UnaryOp.TheVariants.{Plus, Minus}
use Rattle.erl_tree.specs.declared.expr.ExprKind.{ExprKind, fold-roll-ExprKind}
use Rattle.erl_tree.specs.declared.expr.ExprKind.TheVariants as X
use Rattle.erl_tree.specs.declared.expr.ExprKind.TheOpen as E
use Rattle.erl_tree.specs.declared.expr.ExprKind.TheShapes as S
use Rattle.typespecs_rules.specs.SpecTerms.{holds_variable, holds_layer, some_true}
use Rattle.typespecs_rules.specs.RecordDefaults.{DefaultPart, default_part, default_layer, may_be, all_defaults}

-- ---- variables in terms

pub holds-Any : (n : ℕ) → holds_variable n Any ≡ false
unfolding holds_variable
holds-Any n = ap (holds_variable n) (sym Views.rolls-Any) ∙ fold-roll-Term Bool Bool (holds_layer n) (λ field. field.term) F.Any

pub holds-Ints : (n : ℕ) (low high : Option ℤ) → holds_variable n (Ints low high) ≡ false
unfolding holds_variable
holds-Ints n low high = ap (holds_variable n) (sym (Views.rolls-Ints low high)) ∙ fold-roll-Term Bool Bool (holds_layer n) (λ field. field.term) (F.Ints low high)

pub holds-AtomLit : (n : ℕ) (a : KeyName) → holds_variable n (AtomLit a) ≡ false
unfolding holds_variable
holds-AtomLit n a = ap (holds_variable n) (sym (Views.rolls-AtomLit a)) ∙ fold-roll-Term Bool Bool (holds_layer n) (λ field. field.term) (F.AtomLit a)

pub holds-And : (n : ℕ) (ts : List Term) → holds_variable n (And ts) ≡ some_true (map (holds_variable n) ts)
unfolding holds_variable
holds-And n ts = ap (holds_variable n) (sym (Views.rolls-And ts)) ∙ fold-roll-Term Bool Bool (holds_layer n) (λ field. field.term) (F.And ts)

pub holds-Not : (n : ℕ) (t : Term) → holds_variable n (Not t) ≡ holds_variable n t
unfolding holds_variable
holds-Not n t = ap (holds_variable n) (sym (Views.rolls-Not t)) ∙ fold-roll-Term Bool Bool (holds_layer n) (λ field. field.term) (F.Not t)

pub holds-Var : (n i : ℕ) → holds_variable n (Var i) ≡ nat_eq i n
unfolding holds_variable
holds-Var n i = ap (holds_variable n) (sym (Views.rolls-Var i)) ∙ fold-roll-Term Bool Bool (holds_layer n) (λ field. field.term) (F.Var i)

pub holds-Name : (n i : ℕ) (ts : List Term) → holds_variable n (Name i ts) ≡ some_true (map (holds_variable n) ts)
unfolding holds_variable
holds-Name n i ts = ap (holds_variable n) (sym (Views.rolls-Name i ts)) ∙ fold-roll-Term Bool Bool (holds_layer n) (λ field. field.term) (F.Name i ts)

pub holds-None : (n : ℕ) → holds_variable n None ≡ false
unfolding holds_variable
holds-None n = ap (holds_variable n) (sym Views.rolls-None) ∙ fold-roll-Term Bool Bool (holds_layer n) (λ field. field.term) F.None

pub holds-AnyAtom : (n : ℕ) → holds_variable n AnyAtom ≡ false
unfolding holds_variable
holds-AnyAtom n = ap (holds_variable n) (sym Views.rolls-AnyAtom) ∙ fold-roll-Term Bool Bool (holds_layer n) (λ field. field.term) F.AnyAtom

pub holds-Nil : (n : ℕ) → holds_variable n Nil ≡ false
unfolding holds_variable
holds-Nil n = ap (holds_variable n) (sym Views.rolls-Nil) ∙ fold-roll-Term Bool Bool (holds_layer n) (λ field. field.term) F.Nil

pub holds-AnyTuple : (n : ℕ) → holds_variable n AnyTuple ≡ false
unfolding holds_variable
holds-AnyTuple n = ap (holds_variable n) (sym Views.rolls-AnyTuple) ∙ fold-roll-Term Bool Bool (holds_layer n) (λ field. field.term) F.AnyTuple

pub holds-Cons : (n : ℕ) (head tail : Term) → holds_variable n (Cons head tail) ≡ (holds_variable n head || holds_variable n tail)
unfolding holds_variable
holds-Cons n head tail = ap (holds_variable n) (sym (Views.rolls-Cons head tail)) ∙ fold-roll-Term Bool Bool (holds_layer n) (λ field. field.term) (F.Cons head tail)

pub holds-Tuple : (n : ℕ) (ts : List Term) → holds_variable n (Tuple ts) ≡ some_true (map (holds_variable n) ts)
unfolding holds_variable
holds-Tuple n ts = ap (holds_variable n) (sym (Views.rolls-Tuple ts)) ∙ fold-roll-Term Bool Bool (holds_layer n) (λ field. field.term) (F.Tuple ts)

pub holds-Fun : (n : ℕ) (params : List Term) (result : Term) → holds_variable n (Fun params result) ≡ (some_true (map (holds_variable n) params) || holds_variable n result)
unfolding holds_variable
holds-Fun n params result = ap (holds_variable n) (sym (Views.rolls-Fun params result)) ∙ fold-roll-Term Bool Bool (holds_layer n) (λ field. field.term) (F.Fun params result)

pub holds-AnyFun : (n : ℕ) (arity : Option ℕ) → holds_variable n (AnyFun arity) ≡ false
unfolding holds_variable
holds-AnyFun n arity = ap (holds_variable n) (sym (Views.rolls-AnyFun arity)) ∙ fold-roll-Term Bool Bool (holds_layer n) (λ field. field.term) (F.AnyFun arity)

pub holds-Or : (n : ℕ) (ts : List Term) → holds_variable n (Or ts) ≡ some_true (map (holds_variable n) ts)
unfolding holds_variable
holds-Or n ts = ap (holds_variable n) (sym (Views.rolls-Or ts)) ∙ fold-roll-Term Bool Bool (holds_layer n) (λ field. field.term) (F.Or ts)

pub ruleset holds_equations = (holds-None, holds-AnyAtom, holds-Nil, holds-AnyTuple, holds-Cons, holds-Tuple, holds-Fun, holds-AnyFun, holds-Or, holds-Any, holds-Ints, holds-AtomLit, holds-And, holds-Not, holds-Var, holds-Name)

-- ---- defaults

pub default-Int : (n : ℤ) → default_part (X.Int n) ≡ record { digits = true; default = true }
unfolding default_part
default-Int n = ap (λ k. default_part k) (sym (X.rolls-Int n)) ∙ fold-roll-ExprKind DefaultPart (Unit {0}) (Unit {0}) (Unit {0}) (Unit {0}) (Unit {0}) default_layer (λ i. tt) (λ q. tt) (λ a. tt) (λ c. tt) (λ c. tt) (E.Int n)

pub default-Atom : (a : KeyName) → default_part (X.Atom a) ≡ may_be true
unfolding default_part
default-Atom a = ap (λ k. default_part k) (sym (X.rolls-Atom a)) ∙ fold-roll-ExprKind DefaultPart (Unit {0}) (Unit {0}) (Unit {0}) (Unit {0}) (Unit {0}) default_layer (λ i. tt) (λ q. tt) (λ a. tt) (λ c. tt) (λ c. tt) (E.Atom a)

pub default-Plus : (e : Node ExprKind) → default_part (X.Unary Plus e) ≡ may_be false
unfolding default_part
default-Plus e = ap (λ k. default_part k) (sym (X.rolls-Unary Plus e)) ∙ fold-roll-ExprKind DefaultPart (Unit {0}) (Unit {0}) (Unit {0}) (Unit {0}) (Unit {0}) default_layer (λ i. tt) (λ q. tt) (λ a. tt) (λ c. tt) (λ c. tt) (E.Unary Plus e)

pub default-Minus : (e : Node ExprKind) → default_part (X.Unary Minus e) ≡ may_be (default_part e.kind).digits
unfolding default_part
default-Minus e = ap (λ k. default_part k) (sym (X.rolls-Unary Minus e)) ∙ fold-roll-ExprKind DefaultPart (Unit {0}) (Unit {0}) (Unit {0}) (Unit {0}) (Unit {0}) default_layer (λ i. tt) (λ q. tt) (λ a. tt) (λ c. tt) (λ c. tt) (E.Unary Minus e)

-- whether all elements may be defaults
abbrev pub are_defaults : List (Node ExprKind) → Bool
are_defaults es = all_defaults (S.former-ExprKind-Tuple-0.map ExprKind DefaultPart default_part es)

pub default-Tuple : (es : List (Node ExprKind)) → default_part (X.Tuple es) ≡ may_be (are_defaults es)
unfolding default_part
default-Tuple es = ap (λ k. default_part k) (sym (X.rolls-Tuple es)) ∙ fold-roll-ExprKind DefaultPart (Unit {0}) (Unit {0}) (Unit {0}) (Unit {0}) (Unit {0}) default_layer (λ i. tt) (λ q. tt) (λ a. tt) (λ c. tt) (λ c. tt) (E.Tuple es)

pub default-Char : (c : ℕ) → default_part (X.Char c) ≡ may_be true
unfolding default_part
default-Char c = ap (λ k. default_part k) (sym (X.rolls-Char c)) ∙ fold-roll-ExprKind DefaultPart (Unit {0}) (Unit {0}) (Unit {0}) (Unit {0}) (Unit {0}) default_layer (λ i. tt) (λ q. tt) (λ a. tt) (λ c. tt) (λ c. tt) (E.Char c)

pub default-Str : (text : List ℕ) → default_part (X.Str text) ≡ may_be true
unfolding default_part
default-Str text = ap (λ k. default_part k) (sym (X.rolls-Str text)) ∙ fold-roll-ExprKind DefaultPart (Unit {0}) (Unit {0}) (Unit {0}) (Unit {0}) (Unit {0}) default_layer (λ i. tt) (λ q. tt) (λ a. tt) (λ c. tt) (λ c. tt) (E.Str text)

pub default-Var : (x : KeyName) → default_part (X.Var x) ≡ may_be false
unfolding default_part
default-Var x = ap (λ k. default_part k) (sym (X.rolls-Var x)) ∙ fold-roll-ExprKind DefaultPart (Unit {0}) (Unit {0}) (Unit {0}) (Unit {0}) (Unit {0}) default_layer (λ i. tt) (λ q. tt) (λ a. tt) (λ c. tt) (λ c. tt) (E.Var x)

pub default-Paren : (e : Node ExprKind) → default_part (X.Paren e) ≡ may_be false
unfolding default_part
default-Paren e = ap (λ k. default_part k) (sym (X.rolls-Paren e)) ∙ fold-roll-ExprKind DefaultPart (Unit {0}) (Unit {0}) (Unit {0}) (Unit {0}) (Unit {0}) default_layer (λ i. tt) (λ q. tt) (λ a. tt) (λ c. tt) (λ c. tt) (E.Paren e)

pub default-Cells : (es : List (Node ExprKind)) → default_part (X.Cells es Nothing) ≡ may_be (are_defaults es)
unfolding default_part
default-Cells es = ap (λ k. default_part k) (sym (X.rolls-Cells es Nothing)) ∙ fold-roll-ExprKind DefaultPart (Unit {0}) (Unit {0}) (Unit {0}) (Unit {0}) (Unit {0}) default_layer (λ i. tt) (λ q. tt) (λ a. tt) (λ c. tt) (λ c. tt) (E.Cells es Nothing)

pub ruleset default_equations = (default-Char, default-Str, default-Var, default-Paren, default-Cells, default-Int, default-Atom, default-Plus, default-Minus, default-Tuple)
