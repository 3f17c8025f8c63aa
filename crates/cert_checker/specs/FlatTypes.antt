-- The types of flat modules as tests of keys: which integers and atoms are values of a type; and the integers that stand in types and expressions.
use Rattle.std.specs.Prelude.{◌≡◌, ◌↔◌, ℕ, ℤ, ◌++◌, List, [], ◌∷◌, Bool, true, false, ◌&&◌, nat_le, Option, Some}
use Rattle.std.specs.Int.RustNames.{unsigned_abs}
use Rattle.type_terms.specs.declared.term.Key.{Key}
use Rattle.type_terms.specs.declared.term.Key.TheVariants.{Int as IntKey, Atom as AtomKey}
use Rattle.type_terms.specs.declared.term.Term.{Term}
use Rattle.type_terms.specs.Definitions.{given_definitions}
use Rattle.type_terms.specs.Instances.{Instance}
use Rattle.key_sets.specs.declared.key_set.KeySet.{KeySet}
use Rattle.key_sets.specs.declared.part.Part.{Part}
use Rattle.key_sets.specs.KeySets.{has}
use Rattle.key_sets.specs.Parts.{IsLimited, AreLimited, part_has, parts_have}
use Rattle.erl_tree.specs.declared.token.Node.{Node}
use Rattle.erl_tree.specs.declared.pattern.LiteralKind.{LiteralKind}
use Rattle.erl_tree.specs.declared.pattern.LiteralKind.TheVariants as L
use Rattle.erl_tree.specs.declared.type_expr.TypeKind.{TypeKind, fold-TypeKind}
use Rattle.erl_tree.specs.declared.type_expr.TypeKind.TheOpen as Y
use Rattle.erl_tree.specs.declared.expr.ExprKind.{ExprKind, fold-ExprKind}
use Rattle.erl_tree.specs.declared.expr.ExprKind.TheOpen as E
use Rattle.flat_modules.specs.Grammar.{IsType, IsExpr}
use Rattle.erl_tree.specs.Limits.{integer_limit}
use Rattle.erl_runs.specs.Specs.{and_then, range}
use Rattle.flat_modules.specs.FlatSpecs.{end_of, type_term}
use Rattle.erl_runs.specs.Value.{Value, integer, atom}
use Rattle.erl_runs.specs.Membership.{Program, InTerm}

-- ---- sets of values

-- whether a value is an integer or atom that a test has
abbrev pub has_value : (Key → Bool) → Value → Bool
has_value test (integer n) = test (IntKey n)
has_value test (atom a) = test (AtomKey a)
has_value test _ = false

-- the values of a term are the integers and atoms of a test: of every program, under every instance, at every level. There is one
pub record HasValuesOf (test : Key → Bool) (t : Term) : Type 0 where
  pub same : (program : Program) (i : Instance) (k : ℕ) (v : Value) → InTerm program k v t given_definitions i ↔ (has_value test v ≡ true)
  pub some : (key : Key) × (test key ≡ true)

-- a set of the values of a term
abbrev pub IsSetOf : KeySet → Term → Type 0
IsSetOf set t = HasValuesOf (has set) t

-- as many sets as terms, each of its term's values
abbrev pub AreSetsOf : List KeySet → List Term → Type 0
AreSetsOf [] [] = Unit {0}
AreSetsOf (s ∷ ss) (t ∷ ts) = IsSetOf s t × AreSetsOf ss ts
AreSetsOf _ _ = ⊥

-- a part of a set that has the values of a term
abbrev pub IsPartOf : Part → Term → Type 0
IsPartOf part t = HasValuesOf (part_has part) t × IsLimited part

-- parts of a set of a term's values came to the end of a list
pub record AddsPartsOf (t : Term) (old new : List Part) : Type 0 where
  pub added : List Part
  pub joined : new ≡ old ++ added
  pub limited : AreLimited added
  pub values : HasValuesOf (parts_have added) t

-- ---- the integers in types and expressions

-- whether an integer's absolute value is at most the limit
abbrev pub is_limited : ℤ → Bool
is_limited n = nat_le (unsigned_abs n) integer_limit

-- the same of the integer of a range's end
abbrev pub is_limited_end : LiteralKind → Bool
is_limited_end (L.Int n) = is_limited n
is_limited_end (L.NegInt n) = is_limited n
is_limited_end _ = true

-- the same of one level of a type, of whose parts it is known
abbrev pub limited_type_layer : Y.TypeKind-F Bool (Unit {0}) → Bool
limited_type_layer (Y.Int n) = is_limited n
limited_type_layer (Y.NegInt n) = is_limited n
limited_type_layer (Y.Paren t) = t.kind
limited_type_layer (Y.Or t u) = t.kind && u.kind
limited_type_layer (Y.Range low high) = is_limited_end low.kind && is_limited_end high.kind
limited_type_layer _ = true

-- whether each integer in a type is in the limit
unfoldable pub is_limited_type : TypeKind → Bool
is_limited_type t = fold-TypeKind Bool (Unit {0}) limited_type_layer (λ part. tt) t

-- whether it is known of all nodes
abbrev pub all_limited : List (Node Bool) → Bool
all_limited [] = true
all_limited (n ∷ ns) = n.kind && all_limited ns

-- the same of one level of an expression
abbrev pub limited_expr_layer : E.ExprKind-F Bool (Unit {0}) (Unit {0}) (Unit {0}) (Unit {0}) (Unit {0}) → Bool
limited_expr_layer (E.Int n) = is_limited n
limited_expr_layer (E.Paren e) = e.kind
limited_expr_layer (E.Binary op a b) = a.kind && b.kind
limited_expr_layer (E.Call prefix name args) = all_limited args
limited_expr_layer _ = true

-- whether each integer in an expression is in the limit
unfoldable pub is_limited_expr : ExprKind → Bool
is_limited_expr e = fold-ExprKind Bool (Unit {0}) (Unit {0}) (Unit {0}) (Unit {0}) (Unit {0}) limited_expr_layer (λ i. tt) (λ q. tt) (λ a. tt) (λ c. tt) (λ c. tt) e

-- ---- types and expressions of flat modules

-- the term of the range between two literals
abbrev pub range_term : Node LiteralKind → Node LiteralKind → Option Term
range_term low high = and_then (end_of low.kind) (λ l. and_then (end_of high.kind) (λ h. range l h))

-- a type of a flat module: well formed, with integers in the limit and a term
pub record IsFlatType (t : Node TypeKind) : Type 0 where
  pub well_formed : IsType t
  pub limited : is_limited_type t.kind ≡ true
  pub term : Term
  pub read : type_term t ≡ Some term

-- an expression of a flat module: well formed, with integers in the limit
pub record IsFlatExpr (e : Node ExprKind) : Type 0 where
  pub well_formed : IsExpr e
  pub limited : is_limited_expr e.kind ≡ true
