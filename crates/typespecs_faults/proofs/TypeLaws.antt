-- Lists of type expressions, and what is wrong with them.
use Rattle.std.proofs.Common.{◌≡◌, List, [], ◌∷◌, ◌++◌, Bool, map, refl, ap, sym, ◌∙◌, Bor}
use Rattle.type_terms.specs.Keys.{Name}
use Rattle.erl_tree.specs.declared.token.Node.{Node}
use Rattle.erl_tree.specs.declared.type_expr.TypeKind.{TypeKind}
use Rattle.erl_tree.specs.declared.form.SpecClauseKind.{SpecClauseKind}
use Rattle.typespecs_rules.specs.declared.fault.PlacedFault.{PlacedFault}
use Rattle.typespecs_rules.specs.TypeParts.{from_each}
use Rattle.typespecs_rules.specs.Declarations.{Declarations}
use Rattle.typespecs_rules.specs.TypeVariables.{clause_types}
use Rattle.typespecs_rules.specs.TypeFaults.{type_faults}
use Rattle.typespecs_names.specs.Seen.{seen}
use Rattle.typespecs_faults.specs.Specs.{bound_faults}
use Rattle.typespecs_faults.proofs.Rows.{from_each-append}

pub each-seen : (of : Node TypeKind → List PlacedFault) (xs : List (Bor (Node TypeKind))) → from_each (λ b. of b.now) xs ≡ from_each of (seen xs)
each-seen of [] = refl
each-seen of (x ∷ xs) = ap (λ fs. of x.now ++ fs) (each-seen of xs)

-- only which variables may stand counts
pub allowed-alike : (d : Declarations) (a b : Name → Bool) → ((x : Name) → a x ≡ b x) → (t : Node TypeKind) → type_faults d a t ≡ type_faults d b t
allowed-alike d a b h t = ap (λ (c : Name → Bool). type_faults d c t) (λ j. λ x. h x j)

pub each-allowed : (d : Declarations) (a b : Name → Bool) → ((x : Name) → a x ≡ b x) → (ts : List (Node TypeKind)) → from_each (type_faults d a) ts ≡ from_each (type_faults d b) ts
each-allowed d a b h ts = ap (λ (c : Name → Bool). from_each (type_faults d c) ts) (λ j. λ x. h x j)

bounds-are : (d : Declarations) (a : Name → Bool) (bounds : List (Name × Node TypeKind)) → from_each (bound_faults d a) bounds ≡ from_each (type_faults d a) (map (λ b. b.1) bounds)
bounds-are d a [] = refl
bounds-are d a (b ∷ bounds) = ap (λ fs. type_faults d a b.1 ++ fs) (bounds-are d a bounds)

-- the type expressions of a clause
pub clause-types : (d : Declarations) (a : Name → Bool) (c : SpecClauseKind) → from_each (type_faults d a) c.params ++ (type_faults d a c.result ++ from_each (bound_faults d a) c.bounds) ≡ from_each (type_faults d a) (clause_types c)
clause-types d a c =
    ap (λ fs. from_each (type_faults d a) c.params ++ (type_faults d a c.result ++ fs)) (bounds-are d a c.bounds)
    ∙ sym (from_each-append (type_faults d a) c.params (c.result ∷ map (λ b. b.1) c.bounds))
