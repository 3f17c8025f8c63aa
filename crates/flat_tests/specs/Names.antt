-- The functions that forms define, and what is right in one form.
use Rattle.std.specs.Prelude.{List, [], ◌∷◌, ◌++◌, Option, Some, None, IsSome}
use Rattle.type_terms.specs.Keys.{Name}
use Rattle.type_terms.specs.declared.term.Term.{Term}
use Rattle.erl_tree.specs.declared.token.Node.{Node}
use Rattle.erl_tree.specs.declared.pattern.PatternKind.{PatternKind, out-PatternKind}
use Rattle.erl_tree.specs.declared.pattern.LiteralKind.{LiteralKind}
use Rattle.erl_tree.specs.declared.type_expr.TypeKind.{TypeKind}
use Rattle.erl_tree.specs.declared.expr.ExprKind.{ExprKind}
use Rattle.erl_tree.specs.declared.expr.ItemKind.{ItemKind, out-ItemKind}
use Rattle.erl_tree.specs.declared.form.TreeForm.{TreeForm}
use Rattle.erl_tree.specs.declared.form.TreeForm.TheVariants as F
use Rattle.erl_tree.specs.Lists.{Every, Among, AreDistinct}
use Rattle.erl_tree.specs.Functions.{FunctionId, function_id}
use Rattle.erl_runs.specs.Specs.{and_then, range}
use Rattle.flat_modules.specs.FlatSpecs.{end_of, built_in_type, function_spec}
use Rattle.flat_modules.specs.FlatNames.{bound_by, bound_layer, called_in, called_item_layer, FunctionCallsOnly}
use Rattle.flat_modules.specs.FlatModules.{HasDistinctHeads}

-- what an option holds, as a list
abbrev pub listed : {A : Type 0} → Option A → List A
listed None = []
listed (Some a) = a ∷ []

-- the function that a form defines
abbrev pub named_by : TreeForm → List FunctionId
named_by (F.Function f) = function_id f ∷ []
named_by _ = []

-- the functions that forms define
abbrev pub names_in : List TreeForm → List FunctionId
names_in [] = []
names_in (form ∷ forms) = named_by form ++ names_in forms

-- the term of a type with a prefix, a name and arguments
abbrev pub use_term : Option Name → Name → List (Node TypeKind) → Option Term
use_term None name [] = built_in_type name
use_term _ name args = None

-- the term of a range with these ends
abbrev pub range_term : LiteralKind → LiteralKind → Option Term
range_term low high = and_then (end_of low) (λ l. and_then (end_of high) (λ h. range l h))

-- the variables of a pattern are bound by none of the other patterns
abbrev pub IsFresh : Node PatternKind → List (Node PatternKind) → Type 0
IsFresh p others = Every (λ x. Among x (bound_by others) → ⊥) (bound_layer (out-PatternKind p.kind))

-- a spec has terms, and the variables of each head of a function are distinct
abbrev pub IsRightForm : TreeForm → Type 0
IsRightForm (F.Spec s) = IsSome (function_spec s)
IsRightForm (F.Function f) = HasDistinctHeads f
IsRightForm _ = Unit {0}

-- an expression calls only these functions
abbrev pub ExpressionCallsOnly : List FunctionId → Node ExprKind → Type 0
ExpressionCallsOnly ids e = Every (λ id. Among id ids) (called_in e.kind)

-- an item of a body calls only these functions
abbrev pub ItemCallsOnly : List FunctionId → Node ItemKind → Type 0
ItemCallsOnly ids i = Every (λ id. Among id ids) (called_item_layer (out-ItemKind i.kind))

-- a form calls only these functions
abbrev pub FormCallsOnly : List FunctionId → TreeForm → Type 0
FormCallsOnly ids (F.Function f) = FunctionCallsOnly ids f
FormCallsOnly ids _ = Unit {0}

-- each function is defined once, and each call is of one that is defined
pub record HasMatchingNames (forms : List TreeForm) : Type 0 where
  pub defined_once : AreDistinct (names_in forms)
  pub calls_defined : Every (FormCallsOnly (names_in forms)) forms
