-- What is wrong with one level of a type expression, by its form.
use Rattle.std.proofs.Common.{◌≡◌, ℕ, Bool, true, false, ◌||◌, cond, List, [], ◌∷◌, length, is_some, refl, sym, ap, ◌∙◌, Option, Some, None}
use Rattle.type_terms.specs.Keys.{Name}
use Rattle.erl_tree.specs.declared.token.Place.{Place}
use Rattle.erl_tree.specs.declared.token.Node.{Node}
use Rattle.erl_tree.specs.declared.pattern.LiteralKind.{LiteralKind}
use Rattle.erl_tree.specs.declared.type_expr.TypeKind.{TypeKind, out-TypeKind, roll-TypeKind, roll-out-TypeKind}
use Rattle.erl_tree.specs.declared.type_expr.MapPart.{MapPart}
use Rattle.erl_tree.specs.declared.type_expr.TypeKind.TheVariants as Y
use Rattle.erl_tree.specs.declared.type_expr.TypeKind.TheOpen as O
use Rattle.typespecs_rules.specs.declared.fault.Outside.TheVariants.{UnusableType}
use Rattle.typespecs_rules.specs.declared.fault.TypeFault.TheVariants.{NoSuchType, OutOfProfile}
use Rattle.typespecs_rules.specs.declared.fault.PlacedFault.{PlacedFault}
use Rattle.typespecs_rules.specs.BuiltInTypes.{is_out_of_profile, is_built_in_type}
use Rattle.typespecs_rules.specs.Declarations.{Declarations, type_number}
use Rattle.typespecs_rules.specs.TypeFaults.{fault_at, unless, use_faults, fault_layer, own_faults}
use Rattle.typespecs_rules.specs.Earliest.{earliest}
use Rattle.typespecs_faults.specs.Levels.{named_faults}

pub use-out : (d : Declarations) (name : Name) (count : ℕ) (place : Place) (old new : Option PlacedFault) (b : Bool) → b ≡ is_out_of_profile name → b ≡ true → new ≡ earliest old (fault_at (OutOfProfile UnusableType) place ∷ []) → new ≡ earliest old (use_faults d name count place)
use-out d name count place old new b is holds h =
    h ∙ ap (λ (c : Bool). earliest old (cond c (fault_at (OutOfProfile UnusableType) place ∷ []) (unless (is_built_in_type name count || is_some (type_number d name count)) NoSuchType place))) (sym holds ∙ is)

pub use-in : (d : Declarations) (name : Name) (count : ℕ) (place : Place) (old new : Option PlacedFault) (b t : Bool) → b ≡ is_out_of_profile name → b ≡ false → t ≡ (is_built_in_type name count || is_some (type_number d name count)) → new ≡ earliest old (unless t NoSuchType place) → new ≡ earliest old (use_faults d name count place)
use-in d name count place old new b t is fails there h =
    h ∙ (ap (λ (c : Bool). earliest old (unless c NoSuchType place)) there
    ∙ ap (λ (c : Bool). earliest old (cond c (fault_at (OutOfProfile UnusableType) place ∷ []) (unless (is_built_in_type name count || is_some (type_number d name count)) NoSuchType place))) (sym fails ∙ is))

pub type-built_in : (d : Declarations) (name : Name) (count : ℕ) (b : Bool) → b ≡ is_built_in_type name count → b ≡ true → true ≡ (is_built_in_type name count || is_some (type_number d name count))
type-built_in d name count b is holds = ap (λ c. c || is_some (type_number d name count)) (sym holds ∙ is)

pub type-declared : (d : Declarations) (name : Name) (count : ℕ) (b t : Bool) (o : Option ℕ) → b ≡ is_built_in_type name count → b ≡ false → t ≡ is_some o → o ≡ type_number d name count → t ≡ (is_built_in_type name count || is_some (type_number d name count))
type-declared d name count b t o is fails there number = there ∙ (ap is_some number ∙ ap (λ c. c || is_some (type_number d name count)) (sym fails ∙ is))

-- one level that is known
pub own-is : (d : Declarations) (allowed : Name → Bool) (t : Node TypeKind) (k v : TypeKind) (o : O.TypeKind-F TypeKind MapPart) → k ≡ t.kind → k ≡ v → out-TypeKind v ≡ o → fault_layer d allowed o t.place ≡ own_faults d allowed t
own-is d allowed t k v o same is outs = ap (λ l. fault_layer d allowed l t.place) (sym outs ∙ ap out-TypeKind (sym is ∙ same))

named-is : (d : Declarations) (allowed : Name → Bool) (prefix : Option Name) (name : Name) (args : List (Node TypeKind)) (place : Place) → named_faults d prefix name (length args) place ≡ fault_layer d allowed (O.Use prefix name args) place
named-is d allowed None name args place = refl
named-is d allowed (Some prefix) name args place = refl

pub own-use : (d : Declarations) (allowed : Name → Bool) (t : Node TypeKind) (k : TypeKind) (prefix : Option Name) (name : Name) (args : List (Node TypeKind)) (count : ℕ) → k ≡ t.kind → k ≡ Y.Use prefix name args → count ≡ length args → named_faults d prefix name count t.place ≡ own_faults d allowed t
own-use d allowed t k prefix name args count same is counts = ap (λ n. named_faults d prefix name n t.place) counts ∙ (named-is d allowed prefix name args t.place ∙ own-is d allowed t k (Y.Use prefix name args) (O.Use prefix name args) same is (Y.outs-Use prefix name args))

-- any other level has no fault
pub own-other : (d : Declarations) (allowed : Name → Bool) (t : Node TypeKind) (k : TypeKind) → k ≡ t.kind
    → ((x : Name) → k ≡ Y.Var x → ⊥) → ((low high : Node LiteralKind) → k ≡ Y.Range low high → ⊥) → ((prefix : Option Name) (name : Name) (ts : List (Node TypeKind)) → k ≡ Y.Use prefix name ts → ⊥) → ((parts : List (Node MapPart)) → k ≡ Y.Map parts → ⊥)
    → ((name tag : Name) (fields : List (Node (Name × Node TypeKind))) → k ≡ Y.Rec name tag fields → ⊥) → own_faults d allowed t ≡ []
own-other d allowed t k same var range use_ map_ rec_ = go (out-TypeKind t.kind) (same ∙ sym (roll-out-TypeKind t.kind))
  where
    go : (l : O.TypeKind-F TypeKind MapPart) → k ≡ roll-TypeKind l → fault_layer d allowed l t.place ≡ []
    go (O.Var x) e = absurd (var x (e ∙ Y.rolls-Var x))
    go (O.Range low high) e = absurd (range low high (e ∙ Y.rolls-Range low high))
    go (O.Use prefix name ts) e = absurd (use_ prefix name ts (e ∙ Y.rolls-Use prefix name ts))
    go (O.Map parts) e = absurd (map_ parts (e ∙ Y.rolls-Map parts))
    go (O.Rec name tag fields) e = absurd (rec_ name tag fields (e ∙ Y.rolls-Rec name tag fields))
    go _ e = refl
