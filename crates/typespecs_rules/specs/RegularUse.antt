-- The regular use of types: a type that leads back to the one in whose declaration it is used is used there with that one's own parameters. So a name has finitely many instances (this project's own rule; Frisch, Castagna, Benzaken 2008 ask for regular trees).
use Rattle.std.specs.Prelude.{◌≡◌, ◌⊎◌, ℕ, suc, List, [], ◌∷◌, ◌++◌, map, length, slice_get, Option, Some, None as Nothing}
use Rattle.type_terms.specs.Keys.{Name}
use Rattle.type_terms.specs.Paths.{IsPath}
use Rattle.type_terms.specs.declared.term.Term.{Term, Var}
use Rattle.erl_tree.specs.declared.token.Node.{Node}
use Rattle.erl_tree.specs.declared.type_expr.TypeKind.{TypeKind, out-TypeKind}
use Rattle.erl_tree.specs.declared.type_expr.TypeKind.TheOpen as Y
use Rattle.erl_tree.specs.declared.form.TypeDefKind.{TypeDefKind}
use Rattle.erl_tree.specs.declared.form.RecDefKind.{RecDefKind}
use Rattle.erl_tree.specs.declared.form.RecFieldKind.{RecFieldKind}
use Rattle.erl_tree.specs.Lists.{Among}
use Rattle.erl_runs.specs.Records.{fields_of}
use Rattle.erl_runs.specs.Specs.{all_present}
use Rattle.typespecs_rules.specs.TypeParts.{from_each, types_within}
use Rattle.typespecs_rules.specs.Declarations.{Declarations, type_number, record_number}
use Rattle.typespecs_rules.specs.TypeTerms.{type_term}
use Rattle.typespecs_rules.specs.TypeVariables.{parameters}

-- ---- declarations by their numbers

-- the parameters of a declaration, and the type expressions in it
pub record Declaration : Type 0 where
  pub params : List Name
  pub types : List (Node TypeKind)

abbrev pub of_type : TypeDefKind → Declaration
of_type d = record { params = d.params; types = d.body ∷ [] }

-- the type of a field, where it has one
abbrev pub field_types : Option (Node TypeKind) → List (Node TypeKind)
field_types Nothing = []
field_types (Some t) = t ∷ []

abbrev pub of_record : RecDefKind → Declaration
of_record r = record { params = []; types = from_each (λ (f : RecFieldKind). field_types f.ty) (fields_of r) }

-- one of the two definitions that are given, in which no type expression stands
abbrev pub given_declaration : Declaration
given_declaration = record { params = []; types = [] }

-- by the numbers of their definitions
abbrev pub by_number : Declarations → List Declaration
by_number declared = given_declaration ∷ given_declaration ∷ (map of_type declared.types ++ map of_record declared.records)

-- all type expressions of a declaration, at any depth
abbrev pub all_types : Declaration → List (Node TypeKind)
all_types d = from_each types_within d.types

-- ---- mentions

abbrev pub if_some : Option ℕ → List ℕ
if_some Nothing = []
if_some (Some n) = n ∷ []

-- the number of what one level of a type expression mentions: a declared type, or a record, with or without fields
abbrev pub mention_layer : {A B : Type 0} → Declarations → Y.TypeKind-F A B → List ℕ
mention_layer declared (Y.Use Nothing name args) = if_some (type_number declared name (length args))
mention_layer declared (Y.Rec name tag fields) = if_some (record_number declared name)
mention_layer declared _ = []

abbrev pub mentioned_by : Declarations → Node TypeKind → List ℕ
mentioned_by declared t = mention_layer declared (out-TypeKind t.kind)

-- for each declaration what it mentions at any depth, in arguments too
abbrev pub mention_graph : Declarations → List (List ℕ)
mention_graph declared = map (λ d. from_each (mentioned_by declared) (all_types d)) (by_number declared)

-- the record that stands in one level with fields in the places of its own, so that the term there is made of those of its other fields
abbrev pub expansion_layer : {A B : Type 0} → Declarations → Y.TypeKind-F A B → List ℕ
expansion_layer declared (Y.Rec name tag (f ∷ fs)) = if_some (record_number declared name)
expansion_layer declared _ = []

abbrev pub expanded_by : Declarations → Node TypeKind → List ℕ
expanded_by declared t = expansion_layer declared (out-TypeKind t.kind)

-- for each declaration the records that are so made inside it
abbrev pub expansion_graph : Declarations → List (List ℕ)
expansion_graph declared = map (λ d. from_each (expanded_by declared) (all_types d)) (by_number declared)

-- ---- regular use

-- the arguments of one level; a record has none
abbrev pub argument_layer : {B : Type 0} → Y.TypeKind-F TypeKind B → List (Node TypeKind)
argument_layer (Y.Use prefix name args) = args
argument_layer _ = []

abbrev pub arguments_of : Node TypeKind → List (Node TypeKind)
arguments_of t = argument_layer (out-TypeKind t.kind)

-- so many variables from a number on
abbrev pub variables_from : ℕ → List Name → List Term
variables_from n [] = []
variables_from n (x ∷ xs) = Var n ∷ variables_from (suc n) xs

-- a type expression passes exactly these parameters in their order, by the terms of its arguments
abbrev pub PassesParameters : Declarations → List Name → Node TypeKind → Type 0
PassesParameters declared params t = all_present (map (type_term declared (parameters params)) (arguments_of t)) ≡ Some (variables_from 0 params)

-- inside declaration n a type or record is used that leads back to n by mentions, with other arguments than the parameters of n
abbrev pub PassesOthers : Declarations → ℕ → Declaration → Node TypeKind → Type 0
PassesOthers declared n d t = (used : ℕ) × Among used (mentioned_by declared t) × IsPath (mention_graph declared) used n × (PassesParameters declared d.params t → ⊥)

-- inside record n a record stands with fields in the places of its own that leads back to n by such mentions: its term can be infinite, and is refused also where the fields that lead back are the replaced ones
abbrev pub IsInfinite : Declarations → ℕ → Node TypeKind → Type 0
IsInfinite declared n t = (used : ℕ) × Among used (expanded_by declared t) × IsPath (expansion_graph declared) used n

-- a use in a declaration that isn't regular
pub record IsNotRegular (declared : Declarations) (t : Node TypeKind) : Type 0 where
  pub number : ℕ
  pub declaration : Declaration
  pub numbered : slice_get (by_number declared) number ≡ Some declaration
  pub inside : Among t (all_types declaration)
  pub why : PassesOthers declared number declaration t ⊎ IsInfinite declared number t
