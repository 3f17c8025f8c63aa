-- One level of a type expression of another form than those that are asked for.
use Rattle.std.proofs.Common.{◌≡◌, refl, ap, sym, ◌∙◌, List, []}
use Rattle.std.specs.Prelude.{Option}
use Rattle.type_terms.specs.Keys.{Name}
use Rattle.erl_tree.specs.declared.token.Node.{Node}
use Rattle.erl_tree.specs.declared.type_expr.TypeKind.{TypeKind, out-TypeKind, roll-TypeKind, roll-out-TypeKind}
use Rattle.erl_tree.specs.declared.type_expr.MapPart.{MapPart}
use Rattle.erl_tree.specs.declared.type_expr.TypeKind.TheVariants as Y
use Rattle.erl_tree.specs.declared.type_expr.TypeKind.TheOpen as O
use Rattle.typespecs_rules.specs.Declarations.{Declarations}
use Rattle.typespecs_rules.specs.RegularUse.{mention_layer, expansion_layer, argument_layer}
use Rattle.typespecs_rules.specs.TypeVariables.{variable_layer}

abbrev Open : Type 0
Open = O.TypeKind-F TypeKind MapPart

abbrev NotVar : TypeKind → Type 0
NotVar k = (x : Name) → k ≡ Y.Var x → ⊥

abbrev NotUse : TypeKind → Type 0
NotUse k = (prefix : Option Name) (name : Name) (args : List (Node TypeKind)) → k ≡ Y.Use prefix name args → ⊥

abbrev NotRec : TypeKind → Type 0
NotRec k = (name tag : Name) (fields : List (Node (Name × Node TypeKind))) → k ≡ Y.Rec name tag fields → ⊥

no-variable : (y : Open) → ((x : Name) → y ≡ O.Var x → ⊥) → variable_layer y ≡ []
no-variable (O.Var x) f = absurd (f x refl)
no-variable y f = refl

no-arguments : (y : Open) → ((prefix : Option Name) (name : Name) (args : List (Node TypeKind)) → y ≡ O.Use prefix name args → ⊥) → argument_layer y ≡ []
no-arguments (O.Use p n args) f = absurd (f p n args refl)
no-arguments y f = refl

module _ (d : Declarations) where
  no-mention : (y : Open) → ((prefix : Option Name) (name : Name) (args : List (Node TypeKind)) → y ≡ O.Use prefix name args → ⊥) → ((name tag : Name) (fields : List (Node (Name × Node TypeKind))) → y ≡ O.Rec name tag fields → ⊥) → mention_layer d y ≡ []
  no-mention (O.Use p n args) f g = absurd (f p n args refl)
  no-mention (O.Rec n t fs) f g = absurd (g n t fs refl)
  no-mention y f g = refl

  no-expansion : (y : Open) → ((name tag : Name) (fields : List (Node (Name × Node TypeKind))) → y ≡ O.Rec name tag fields → ⊥) → expansion_layer d y ≡ []
  no-expansion (O.Rec n t fs) g = absurd (g n t fs refl)
  no-expansion y g = refl

module _ (k : TypeKind) where
  out-is : (y : Open) → out-TypeKind k ≡ y → k ≡ roll-TypeKind y
  out-is y e = sym (roll-out-TypeKind k) ∙ ap roll-TypeKind e

  pub variable-none : NotVar k → variable_layer (out-TypeKind k) ≡ []
  variable-none f = no-variable (out-TypeKind k) (λ x e. f x (out-is (O.Var x) e ∙ Y.rolls-Var x))

  pub arguments-none : NotUse k → argument_layer (out-TypeKind k) ≡ []
  arguments-none f = no-arguments (out-TypeKind k) (λ p n args e. f p n args (out-is (O.Use p n args) e ∙ Y.rolls-Use p n args))

  pub mention-none : (d : Declarations) → NotUse k → NotRec k → mention_layer d (out-TypeKind k) ≡ []
  mention-none d f g = no-mention d (out-TypeKind k) (λ p n args e. f p n args (out-is (O.Use p n args) e ∙ Y.rolls-Use p n args)) (λ n t fs e. g n t fs (out-is (O.Rec n t fs) e ∙ Y.rolls-Rec n t fs))

  pub expansion-none : (d : Declarations) → NotRec k → expansion_layer d (out-TypeKind k) ≡ []
  expansion-none d g = no-expansion d (out-TypeKind k) (λ n t fs e. g n t fs (out-is (O.Rec n t fs) e ∙ Y.rolls-Rec n t fs))
