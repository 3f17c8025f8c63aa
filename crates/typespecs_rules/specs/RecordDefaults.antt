-- What may stand as the default of a record's field: an integer, one behind a minus sign, a character, an atom, a string, or a tuple or a list without a bar whose elements are defaults (this project's own rule; the Erlang Reference Manual, "Records", has any expression).
use Rattle.std.specs.Prelude.{List, None, Bool, true, false}
use Rattle.std.specs.List.{list_all}
use Rattle.erl_tree.specs.declared.token.Node.{Node}
use Rattle.erl_tree.specs.declared.expr.UnaryOp.TheVariants.{Minus}
use Rattle.erl_tree.specs.declared.expr.ExprKind.{ExprKind, fold-ExprKind}
use Rattle.erl_tree.specs.declared.expr.ExprKind.TheOpen as E

-- what is known of a part of an expression: whether it is an integer's digits, and whether it may be a default
pub record DefaultPart : Type 0 where
  pub digits : Bool
  pub default : Bool

-- a default, or not, that isn't an integer's digits
abbrev pub may_be : Bool → DefaultPart
may_be default = record { digits = false; default = default }

-- whether all may be defaults
abbrev pub all_defaults : List (Node DefaultPart) → Bool
all_defaults es = list_all (λ e. e.kind.default) es

-- one level of an expression
abbrev pub default_layer : E.ExprKind-F DefaultPart (Unit {0}) (Unit {0}) (Unit {0}) (Unit {0}) (Unit {0}) → DefaultPart
default_layer (E.Int n) = record { digits = true; default = true }
default_layer (E.Unary Minus e) = may_be e.kind.digits
default_layer (E.Char c) = may_be true
default_layer (E.Atom a) = may_be true
default_layer (E.Str s) = may_be true
default_layer (E.Tuple es) = may_be (all_defaults es)
default_layer (E.Cells es None) = may_be (all_defaults es)
default_layer _ = may_be false

-- what is known of what stands in an expression's node
unfoldable pub default_part : ExprKind → DefaultPart
default_part e = fold-ExprKind DefaultPart (Unit {0}) (Unit {0}) (Unit {0}) (Unit {0}) (Unit {0}) default_layer (λ i. tt) (λ q. tt) (λ a. tt) (λ c. tt) (λ c. tt) e

-- whether an expression may be a default
abbrev pub is_default : Node ExprKind → Bool
is_default e = (default_part e.kind).default
