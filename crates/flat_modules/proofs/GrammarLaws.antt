-- What one layer of a well-formed expression or type is: the forms of a flat module, with well-formed parts.
use Rattle.std.proofs.Common.{◌≡◌, sym, subst, List, [], ◌∷◌}
use Rattle.std.specs.Prelude.{None}
use Rattle.erl_tree.specs.Lists.{Every}
use Rattle.erl_tree.specs.declared.token.Place.{Place}
use Rattle.erl_tree.specs.declared.token.Node.{Node}
use Rattle.erl_tree.specs.declared.type_expr.TypeKind.{TypeKind, out-TypeKind}
use Rattle.erl_tree.specs.declared.type_expr.MapPart.{MapPart}
use Rattle.erl_tree.specs.declared.type_expr.TypeKind.TheVariants as YV
use Rattle.erl_tree.specs.declared.type_expr.TypeKind.TheOpen as Y
use Rattle.erl_tree.specs.declared.expr.BinaryOp.{BinaryOp}
use Rattle.erl_tree.specs.declared.expr.BinaryOp.TheVariants.{Add, Sub, Mul}
use Rattle.erl_tree.specs.declared.expr.ExprKind.{ExprKind, out-ExprKind}
use Rattle.erl_tree.specs.declared.expr.ItemKind.{ItemKind}
use Rattle.erl_tree.specs.declared.expr.ClauseKind.{ClauseKind}
use Rattle.erl_tree.specs.declared.expr.QualifierKind.{QualifierKind}
use Rattle.erl_tree.specs.declared.expr.AssocKind.{AssocKind}
use Rattle.erl_tree.specs.declared.expr.CatchKind.{CatchKind}
use Rattle.erl_tree.specs.declared.expr.ExprKind.TheVariants as EV
use Rattle.erl_tree.specs.declared.expr.ExprKind.TheOpen as E
use Rattle.flat_modules.specs.Grammar.{IsEnd, IsType, one_type, union, IsSimpleType, atom_type, integer_type, negative_type, range_type, use_type, paren_type, IsAdditive, IsExpr, one_product, sum, IsProduct, one_operand, product, IsOperand, integer, atom, variable, parens, call, AreArguments, no_arguments, last_argument, more_arguments}

-- ---- expressions

-- one layer of an operand
abbrev pub operand_layer : E.ExprKind-F ExprKind ItemKind QualifierKind AssocKind CatchKind ClauseKind → Type 0
operand_layer (E.Int n) = Unit {0}
operand_layer (E.Atom a) = Unit {0}
operand_layer (E.Var x) = Unit {0}
operand_layer (E.Paren e) = IsExpr e
operand_layer (E.Call None name args) = Every IsExpr args
operand_layer _ = ⊥

-- one layer of a product: an operand, or operands with `*` between them
abbrev pub product_layer : E.ExprKind-F ExprKind ItemKind QualifierKind AssocKind CatchKind ClauseKind → Type 0
product_layer (E.Binary Mul a b) = IsProduct a × IsOperand b
product_layer l = operand_layer l

-- one layer of an expression, which says how operators group
abbrev pub grouped_layer : E.ExprKind-F ExprKind ItemKind QualifierKind AssocKind CatchKind ClauseKind → Type 0
grouped_layer (E.Binary Add a b) = IsExpr a × IsProduct b
grouped_layer (E.Binary Sub a b) = IsExpr a × IsProduct b
grouped_layer l = product_layer l

arguments-each : (args : List (Node ExprKind)) (ms : List Place) → AreArguments args ms → Every IsExpr args
arguments-each _ _ (no_arguments c) = tt
arguments-each _ _ (last_argument e c h) = (h, tt)
arguments-each _ _ (more_arguments e f es m ms h r) = (h, arguments-each (f ∷ es) ms r)

pub operand-grouped : (e : Node ExprKind) → IsOperand e → operand_layer (out-ExprKind e.kind)
operand-grouped _ (integer p n) = subst operand_layer (sym (EV.outs-Int n)) tt
operand-grouped _ (atom p a) = subst operand_layer (sym (EV.outs-Atom a)) tt
operand-grouped _ (variable p x) = subst operand_layer (sym (EV.outs-Var x)) tt
operand-grouped _ (parens o c e h) = subst operand_layer (sym (EV.outs-Paren e)) h
operand-grouped _ (call n o ms name args h) = subst operand_layer (sym (EV.outs-Call None name args)) (arguments-each args ms h)

operand-product : (l : E.ExprKind-F ExprKind ItemKind QualifierKind AssocKind CatchKind ClauseKind) → operand_layer l → product_layer l
operand-product (E.Binary op a b) h = absurd h
operand-product _ h = h

product-expr : (l : E.ExprKind-F ExprKind ItemKind QualifierKind AssocKind CatchKind ClauseKind) → product_layer l → grouped_layer l
product-expr (E.Binary Add a b) h = absurd h
product-expr (E.Binary Sub a b) h = absurd h
product-expr _ h = h

pub product-grouped : (e : Node ExprKind) → IsProduct e → product_layer (out-ExprKind e.kind)
product-grouped _ (one_operand e h) = operand-product (out-ExprKind e.kind) (operand-grouped e h)
product-grouped _ (product a b m h k) = subst product_layer (sym (EV.outs-Binary Mul a b)) (h, k)

sum-layer : (op : BinaryOp) (a b : Node ExprKind) → IsAdditive op → IsExpr a → IsProduct b → grouped_layer (E.Binary op a b)
sum-layer Add a b o h k = (h, k)
sum-layer Sub a b o h k = (h, k)
sum-layer _ a b o h k = absurd o

pub expr-grouped : (e : Node ExprKind) → IsExpr e → grouped_layer (out-ExprKind e.kind)
expr-grouped _ (one_product e h) = product-expr (out-ExprKind e.kind) (product-grouped e h)
expr-grouped _ (sum op a b m o h k) = subst grouped_layer (sym (EV.outs-Binary op a b)) (sum-layer op a b o h k)

-- `+`, `-` and `*`
abbrev pub IsArithmetic : BinaryOp → Type 0
IsArithmetic Add = Unit {0}
IsArithmetic Sub = Unit {0}
IsArithmetic Mul = Unit {0}
IsArithmetic _ = ⊥

-- one layer of an expression of a flat module, with well-formed parts
abbrev pub flat_layer : E.ExprKind-F ExprKind ItemKind QualifierKind AssocKind CatchKind ClauseKind → Type 0
flat_layer (E.Int n) = Unit {0}
flat_layer (E.Atom a) = Unit {0}
flat_layer (E.Var x) = Unit {0}
flat_layer (E.Paren e) = IsExpr e
flat_layer (E.Binary op a b) = IsArithmetic op × IsExpr a × IsExpr b
flat_layer (E.Call None name args) = Every IsExpr args
flat_layer _ = ⊥

grouped-flat : (l : E.ExprKind-F ExprKind ItemKind QualifierKind AssocKind CatchKind ClauseKind) → grouped_layer l → flat_layer l
grouped-flat (E.Binary Add a b) h = (tt, h.0, one_product b h.1)
grouped-flat (E.Binary Sub a b) h = (tt, h.0, one_product b h.1)
grouped-flat (E.Binary Mul a b) h = (tt, one_product a h.0, one_product b (one_operand b h.1))
grouped-flat (E.Binary op a b) h = absurd h
grouped-flat _ h = h

-- a well-formed expression is a form of a flat module, with well-formed parts
pub expr-layer : (e : Node ExprKind) → IsExpr e → flat_layer (out-ExprKind e.kind)
expr-layer e h = grouped-flat (out-ExprKind e.kind) (expr-grouped e h)

-- the same, with the layer that a match finds
pub expr-layer-at : (e : Node ExprKind) (l : E.ExprKind-F ExprKind ItemKind QualifierKind AssocKind CatchKind ClauseKind) → out-ExprKind e.kind ≡ l → IsExpr e → flat_layer l
expr-layer-at e l q h = subst flat_layer q (expr-layer e h)

-- ---- types

-- one layer of a type of a flat module, with well-formed parts
abbrev pub flat_type_layer : Y.TypeKind-F TypeKind MapPart → Type 0
flat_type_layer (Y.Atom a) = Unit {0}
flat_type_layer (Y.Int n) = Unit {0}
flat_type_layer (Y.NegInt n) = Unit {0}
flat_type_layer (Y.Use None name []) = Unit {0}
flat_type_layer (Y.Paren t) = IsType t
flat_type_layer (Y.Or t u) = IsType t × IsType u
flat_type_layer (Y.Range low high) = IsEnd low × IsEnd high
flat_type_layer _ = ⊥

simple_type-layer : (t : Node TypeKind) → IsSimpleType t → flat_type_layer (out-TypeKind t.kind)
simple_type-layer _ (atom_type p a) = subst flat_type_layer (sym (YV.outs-Atom a)) tt
simple_type-layer _ (integer_type p n) = subst flat_type_layer (sym (YV.outs-Int n)) tt
simple_type-layer _ (negative_type h p n) = subst flat_type_layer (sym (YV.outs-NegInt n)) tt
simple_type-layer _ (range_type low high m h k) = subst flat_type_layer (sym (YV.outs-Range low high)) (h, k)
simple_type-layer _ (use_type p o c name) = subst flat_type_layer (sym (YV.outs-Use None name [])) tt
simple_type-layer _ (paren_type o c t h) = subst flat_type_layer (sym (YV.outs-Paren t)) h

-- a well-formed type is a form of a flat module, with well-formed parts
pub type-layer : (t : Node TypeKind) → IsType t → flat_type_layer (out-TypeKind t.kind)
type-layer _ (one_type t h) = simple_type-layer t h
type-layer _ (union t u m h k) = subst flat_type_layer (sym (YV.outs-Or t u)) (one_type t h, k)

-- the same, with the layer that a match finds
pub type-layer-at : (t : Node TypeKind) (l : Y.TypeKind-F TypeKind MapPart) → out-TypeKind t.kind ≡ l → IsType t → flat_type_layer l
type-layer-at t l q h = subst flat_type_layer q (type-layer t h)
