-- The faults of a module that are told by mentions which lead back.
use Rattle.std.specs.Prelude.{◌≡◌, ◌⊎◌, ℕ, List, []}
use Rattle.type_terms.specs.Keys.{Name}
use Rattle.erl_tree.specs.declared.token.Node.{Node}
use Rattle.erl_tree.specs.declared.type_expr.TypeKind.{TypeKind}
use Rattle.erl_tree.specs.declared.form.SpecClauseKind.{SpecClauseKind}
use Rattle.erl_tree.specs.declared.form.TreeForm.{TreeForm}
use Rattle.erl_tree.specs.declared.form.TreeForm.TheVariants as F
use Rattle.erl_tree.specs.declared.form.Module.{Module}
use Rattle.erl_tree.specs.Lists.{Among}
use Rattle.typespecs_rules.specs.declared.fault.PlacedFault.{PlacedFault}
use Rattle.typespecs_rules.specs.declared.fault.TypeFault.TheVariants.{OutOfProfile}
use Rattle.typespecs_rules.specs.declared.fault.Outside.TheVariants.{NonRegularType, CyclicBound}
use Rattle.typespecs_rules.specs.Declarations.{Declarations, declarations_of}
use Rattle.typespecs_rules.specs.Bounds.{IsCyclic}
use Rattle.typespecs_rules.specs.RegularUse.{IsNotRegular, PassesOthers, IsInfinite}
use Rattle.typespecs_rules.specs.TypeFaults.{fault_at, spec_clauses}

-- the clauses of a form, if it is a spec
abbrev pub form_clauses : TreeForm → List (Node SpecClauseKind)
form_clauses (F.Spec s) = s.kind.clauses
form_clauses form = []

-- a clause whose bounds lead back to one of their variables
abbrev pub IsCyclicClause : Node SpecClauseKind → PlacedFault → Type 0
IsCyclicClause c f = IsCyclic c.kind.bounds × (f ≡ fault_at (OutOfProfile CyclicBound) c.place)

-- a type expression inside the declaration with this number and these parameters that is an irregular use
abbrev pub IsIrregular : Declarations → ℕ → List Name → Node TypeKind → Type 0
IsIrregular declared n params t = PassesOthers declared n (record { params = params; types = [] }) t ⊎ IsInfinite declared n t

abbrev pub IsIrregularUse : Declarations → ℕ → List Name → Node TypeKind → PlacedFault → Type 0
IsIrregularUse declared n params t f = IsIrregular declared n params t × (f ≡ fault_at (OutOfProfile NonRegularType) t.place)

-- a fault of a module that is told by mentions: a spec clause with a cyclic bound, or a use that isn't regular
pub data IsGraphFault (m : Module) : PlacedFault → Type 0 where
  bound_leads_back : (c : Node SpecClauseKind) → Among c (spec_clauses m) → IsCyclic c.kind.bounds → IsGraphFault m (fault_at (OutOfProfile CyclicBound) c.place)
  not_regular : (t : Node TypeKind) → IsNotRegular (declarations_of m) t → IsGraphFault m (fault_at (OutOfProfile NonRegularType) t.place)
