-- The calls that stand in a flat module, and whether each is in the profile.
use Rattle.std.specs.Prelude.{◌≡◌, List, None, true}
use Rattle.type_terms.specs.Keys.{Name}
use Rattle.erl_tree.specs.Lists.{Every, Among}
use Rattle.erl_tree.specs.declared.token.Place.{Place}
use Rattle.erl_tree.specs.declared.token.Node.{Node}
use Rattle.erl_tree.specs.declared.expr.BinaryOp.{BinaryOp}
use Rattle.erl_tree.specs.declared.expr.ExprKind.{ExprKind}
use Rattle.erl_tree.specs.declared.expr.ExprKind.TheVariants as X
use Rattle.erl_tree.specs.declared.expr.ItemKind.{ItemKind, out-ItemKind}
use Rattle.erl_tree.specs.declared.expr.ClauseKind.{ClauseKind, out-ClauseKind}
use Rattle.erl_tree.specs.declared.expr.QualifierKind.{QualifierKind}
use Rattle.erl_tree.specs.declared.expr.AssocKind.{AssocKind}
use Rattle.erl_tree.specs.declared.expr.CatchKind.{CatchKind}
use Rattle.erl_tree.specs.declared.expr.ExprKind.TheOpen as E
use Rattle.erl_tree.specs.declared.form.TreeForm.{TreeForm}
use Rattle.erl_tree.specs.declared.form.TreeForm.TheVariants as F
use Rattle.erl_tree.specs.declared.form.Module.{Module}
use Rattle.erl_grammar.specs.Guards.{is_call_in_profile}
use Rattle.erl_grammar.specs.Grammar.{node}

-- a call of a function of this name with these arguments stands in an expression of a flat module
pub data StandsIn (name : Name) (args : List (Node ExprKind)) : Node ExprKind → Type 0 where
  whole : (p : Place) (ms : List Place) → StandsIn name args (node p ms (X.Call None name args))
  in_parens : (p : Place) (ms : List Place) (e : Node ExprKind) → StandsIn name args e → StandsIn name args (node p ms (X.Paren e))
  in_left : (p : Place) (ms : List Place) (op : BinaryOp) (a b : Node ExprKind) → StandsIn name args a → StandsIn name args (node p ms (X.Binary op a b))
  in_right : (p : Place) (ms : List Place) (op : BinaryOp) (a b : Node ExprKind) → StandsIn name args b → StandsIn name args (node p ms (X.Binary op a b))
  in_argument : (p : Place) (ms : List Place) (called : Name) (others : List (Node ExprKind)) (e : Node ExprKind) → Among e others → StandsIn name args e → StandsIn name args (node p ms (X.Call None called others))

-- each call in an expression is in the profile
abbrev pub CallsInProfile : Node ExprKind → Type 0
CallsInProfile e = (name : Name) (args : List (Node ExprKind)) → StandsIn name args e → is_call_in_profile name args ≡ true

-- each call in one level of an element of a body
abbrev pub item_in_profile : E.ItemKind-F ExprKind ItemKind QualifierKind AssocKind CatchKind ClauseKind → Type 0
item_in_profile (E.Value e) = CallsInProfile e
item_in_profile _ = Unit {0}

-- each call in an element of a body
abbrev pub ItemInProfile : Node ItemKind → Type 0
ItemInProfile i = item_in_profile (out-ItemKind i.kind)

-- each call in a function's clause
abbrev pub ClauseInProfile : Node ClauseKind → Type 0
ClauseInProfile c = Every ItemInProfile (out-ClauseKind c.kind).body

-- each call in a form
abbrev pub FormInProfile : TreeForm → Type 0
FormInProfile (F.Function f) = Every ClauseInProfile f.clauses
FormInProfile _ = Unit {0}

-- each call in a flat module is in the profile
abbrev pub HasCallsInProfile : Module → Type 0
HasCallsInProfile m = Every FormInProfile m.forms
