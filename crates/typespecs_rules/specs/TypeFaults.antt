-- What is wrong with the types, records and specs of a module (Erlang Reference Manual, "Types and Function Specifications", "Records"). What is out of the profile, contractive definitions and well signed specs are this project's own rules.
use Rattle.std.specs.Prelude.{◌≡◌, ℕ, ◌+◌, ◌<◌, List, [], ◌∷◌, ◌++◌, map, length, get_or, slice_get, Option, Some, None, Bool, true, false, not, ◌&&◌, ◌||◌, cond, nat_eq, nat_lt, is_some, codes}
use Rattle.std.specs.List.{list_any}
use Rattle.type_terms.specs.Keys.{Name, same_name, same_key}
use Rattle.type_terms.specs.Definitions.{IsContractive, Reaches}
use Rattle.type_terms.specs.Signs.{IsWellSigned}
use Rattle.type_terms.specs.declared.term.Def.{Def}
use Rattle.type_terms.specs.declared.spec.Arrow.{Arrow}
use Rattle.type_terms.specs.declared.spec.FunSpec.{FunSpec}
use Rattle.erl_tree.specs.declared.token.Place.{Place}
use Rattle.erl_tree.specs.declared.token.Node.{Node}
use Rattle.erl_tree.specs.declared.expr.ExprKind.{ExprKind}
use Rattle.erl_tree.specs.declared.type_expr.TypeKind.{TypeKind, out-TypeKind}
use Rattle.erl_tree.specs.declared.type_expr.MapPart.{MapPart, out-MapPart}
use Rattle.erl_tree.specs.declared.type_expr.TypeKind.TheOpen as Y
use Rattle.erl_tree.specs.declared.form.TypeDefKind.{TypeDefKind}
use Rattle.erl_tree.specs.declared.form.RecDefKind.{RecDefKind}
use Rattle.erl_tree.specs.declared.form.RecFieldKind.{RecFieldKind}
use Rattle.erl_tree.specs.declared.form.SpecKind.{SpecKind}
use Rattle.erl_tree.specs.declared.form.SpecClauseKind.{SpecClauseKind}
use Rattle.erl_tree.specs.declared.form.TreeForm.{TreeForm}
use Rattle.erl_tree.specs.declared.form.TreeForm.TheVariants as F
use Rattle.erl_tree.specs.declared.form.Module.{Module}
use Rattle.erl_tree.specs.Lists.{Among, Every}
use Rattle.erl_tree.specs.Functions.{FunctionId}
use Rattle.erl_runs.specs.Names.{is_wildcard, same_id}
use Rattle.erl_runs.specs.Records.{find_record, fields_of, has_field}
use Rattle.erl_runs.specs.Specs.{specs_in, specified_id}
use Rattle.typespecs_rules.specs.declared.fault.Outside.{Outside}
use Rattle.typespecs_rules.specs.declared.fault.Outside.TheVariants.{RecordDefault, MapKey as MapKeyOutside, UnusableType, NonRegularType, CyclicBound}
use Rattle.typespecs_rules.specs.declared.fault.TypeFault.{TypeFault}
use Rattle.typespecs_rules.specs.declared.fault.TypeFault.TheVariants.{NoSuchType, Repeated, NotContractive, NegatedFun, OutOfProfile, ArityDiffers, BadRange}
use Rattle.typespecs_rules.specs.declared.fault.PlacedFault.{PlacedFault}
use Rattle.typespecs_rules.specs.TypeParts.{from_each, types_within}
use Rattle.typespecs_rules.specs.BuiltInTypes.{is_built_in_name, is_out_of_profile, is_built_in_type}
use Rattle.typespecs_rules.specs.Declarations.{Declarations, declarations_of, types_in, record_forms_in, is_type_named, type_number}
use Rattle.typespecs_rules.specs.TypeTerms.{MapKey, this_key, integer_keys, atom_keys, no_key, map_key, range_term, is_prefixed_type}
use Rattle.typespecs_rules.specs.TypeVariables.{clause_types}
use Rattle.typespecs_rules.specs.Bounds.{bounded, IsCyclic}
use Rattle.typespecs_rules.specs.declared.specs.Specs.{Specs}
use Rattle.typespecs_rules.specs.SpecTerms.{module_specs}
use Rattle.typespecs_rules.specs.RegularUse.{IsNotRegular, field_types}
use Rattle.typespecs_rules.specs.RecordDefaults.{is_default}

-- ---- faults

-- what is out of the profile, in words
abbrev pub outside_words : Outside → Name
outside_words RecordDefault = codes "record default"
outside_words MapKeyOutside = codes "map key"
outside_words UnusableType = codes "type"
outside_words NonRegularType = codes "non-regular type"
outside_words CyclicBound = codes "cyclic bound"

-- a fault at its place
abbrev pub fault_at : TypeFault → Place → PlacedFault
fault_at fault place = record { place = place; fault = fault }

-- one where it isn't so
abbrev pub unless : Bool → TypeFault → Place → List PlacedFault
unless holds fault place = cond holds [] (fault_at fault place ∷ [])

-- whether a name stands among others
abbrev pub stands_among : Name → List Name → Bool
stands_among x names = list_any (same_name x) names

-- ---- uses

-- a use of a type, by its name and the number of its arguments
abbrev pub use_faults : Declarations → Name → ℕ → Place → List PlacedFault
use_faults declared name count place = cond (is_out_of_profile name) (fault_at (OutOfProfile UnusableType) place ∷ []) (unless (is_built_in_type name count || is_some (type_number declared name count)) NoSuchType place)

-- ---- map types

-- whether what stands before `:=` or `=>` is a key
abbrev pub is_key : MapKey → Bool
is_key no_key = false
is_key _ = true

-- whether two are the same key, or both all integers, or both all atoms
abbrev pub same_map_key : MapKey → MapKey → Bool
same_map_key (this_key j) (this_key k) = same_key j k
same_map_key integer_keys integer_keys = true
same_map_key atom_keys atom_keys = true
same_map_key _ _ = false

-- the key of a part of a map type
abbrev pub part_key : Node MapPart → MapKey
part_key part = map_key (out-MapPart part.kind).required (out-MapPart part.kind).key.kind

-- a key behind others
abbrev pub key_faults : List MapKey → MapKey → Place → List PlacedFault
key_faults before key place = unless (is_key key) (OutOfProfile MapKeyOutside) place ++ unless (not (list_any (same_map_key key) before)) Repeated place

-- the keys of a map type, behind others of it
abbrev pub keys_faults : List MapKey → List (Node MapPart) → List PlacedFault
keys_faults before [] = []
keys_faults before (part ∷ parts) = key_faults before (part_key part) (out-MapPart part.kind).key.place ++ keys_faults (part_key part ∷ before) parts

-- ---- record types

-- whether a record, if it is declared, has a field
abbrev pub may_have : Option RecDefKind → Name → Bool
may_have None x = true
may_have (Some r) x = has_field (fields_of r) x

-- the fields of a record type, behind others with these names
abbrev pub fields_faults : Option RecDefKind → List Name → List (Node (Name × Node TypeKind)) → List PlacedFault
fields_faults declared before [] = []
fields_faults declared before (f ∷ fs) = unless (may_have declared f.kind.0) NoSuchType f.place ++ (unless (not (stands_among f.kind.0 before)) Repeated f.place ++ fields_faults declared (f.kind.0 ∷ before) fs)

-- ---- type expressions

-- what is wrong with one level of a type expression, where these variables may stand
abbrev pub fault_layer : Declarations → (Name → Bool) → Y.TypeKind-F TypeKind MapPart → Place → List PlacedFault
fault_layer declared allowed (Y.Var x) place = unless (is_wildcard x || allowed x) NoSuchType place
fault_layer declared allowed (Y.Range low high) place = unless (is_some (range_term low high)) BadRange place
fault_layer declared allowed (Y.Use None name args) place = use_faults declared name (length args) place
fault_layer declared allowed (Y.Use (Some prefix) name args) place = unless (is_prefixed_type prefix name (length args)) NoSuchType place
fault_layer declared allowed (Y.Map parts) place = keys_faults [] parts
fault_layer declared allowed (Y.Rec name tag fields) place = unless (is_some (find_record declared.records name)) NoSuchType place ++ fields_faults (find_record declared.records name) [] fields
fault_layer declared allowed _ place = []

abbrev pub own_faults : Declarations → (Name → Bool) → Node TypeKind → List PlacedFault
own_faults declared allowed t = fault_layer declared allowed (out-TypeKind t.kind) t.place

-- what is wrong with a type expression, at any depth
abbrev pub type_faults : Declarations → (Name → Bool) → Node TypeKind → List PlacedFault
type_faults declared allowed t = from_each (own_faults declared allowed) (types_within t)

-- each variable may stand in a spec, and in a type that stands alone, and none in a record
abbrev pub any_variable : Name → Bool
any_variable x = true

abbrev pub no_variable : Name → Bool
no_variable x = false

-- ---- types

-- a type declaration behind others: its name is a built-in type's, or is declared before with as many parameters; and its body, in which only its parameters may stand
abbrev pub type_form_faults : Declarations → List TypeDefKind → Node TypeDefKind → List PlacedFault
type_form_faults declared before d = unless (not (is_built_in_name d.kind.name || list_any (is_type_named d.kind.name (length d.kind.params)) before)) Repeated d.place ++ type_faults declared (λ x. stands_among x d.kind.params) d.kind.body

-- ---- records

-- a default, whole
abbrev pub default_faults : Option (Node ExprKind) → List PlacedFault
default_faults None = []
default_faults (Some e) = unless (is_default e) (OutOfProfile RecordDefault) e.place

-- the fields of a record, behind others with these names
abbrev pub declared_fields_faults : Declarations → List Name → List (Node RecFieldKind) → List PlacedFault
declared_fields_faults declared before [] = []
declared_fields_faults declared before (f ∷ fs) = unless (not (stands_among f.kind.name before)) Repeated f.place
    ++ (default_faults f.kind.default ++ (from_each (type_faults declared no_variable) (field_types f.kind.ty) ++ declared_fields_faults declared (f.kind.name ∷ before) fs))

-- a record behind others with these names
abbrev pub record_form_faults : Declarations → List Name → Node RecDefKind → List PlacedFault
record_form_faults declared before r = unless (not (stands_among r.kind.name before)) Repeated r.place ++ declared_fields_faults declared [] r.kind.fields

-- ---- specs

-- whether a name stands twice
abbrev pub has_repeated : List Name → Bool
has_repeated [] = false
has_repeated (x ∷ xs) = stands_among x xs || has_repeated xs

-- a clause: a variable with two bounds, and its type expressions
abbrev pub clause_faults : Declarations → Node SpecClauseKind → List PlacedFault
clause_faults declared c = unless (not (has_repeated (bounded c.kind.bounds))) Repeated c.place ++ from_each (type_faults declared any_variable) (clause_types c.kind)

-- clauses with another number of parameters than this
abbrev pub arities_differ : ℕ → List (Node SpecClauseKind) → List PlacedFault
arities_differ count cs = from_each (λ (c : Node SpecClauseKind). unless (nat_eq (length c.kind.params) count) ArityDiffers c.place) cs

-- the clauses of a spec, each by the first one's number of parameters
abbrev pub clauses_faults : Declarations → List (Node SpecClauseKind) → List PlacedFault
clauses_faults declared [] = []
clauses_faults declared (c ∷ cs) = arities_differ (length c.kind.params) cs ++ from_each (clause_faults declared) (c ∷ cs)

-- a spec behind those of these functions
abbrev pub spec_form_faults : Declarations → List FunctionId → Node SpecKind → List PlacedFault
spec_form_faults declared before s = unless (not (list_any (same_id (specified_id s)) before)) Repeated s.place ++ clauses_faults declared s.kind.clauses

-- ---- modules

-- what stands in the forms behind others, the latest first
pub record Behind : Type 0 where
  pub types : List TypeDefKind
  pub records : List Name
  pub specs : List FunctionId

abbrev pub behind : TreeForm → Behind → Behind
behind (F.TypeDef d) b = record { types = d.kind ∷ b.types; records = b.records; specs = b.specs }
behind (F.RecDef r) b = record { types = b.types; records = r.kind.name ∷ b.records; specs = b.specs }
behind (F.Spec s) b = record { types = b.types; records = b.records; specs = specified_id s ∷ b.specs }
behind _ b = b

abbrev pub form_faults : Declarations → Behind → TreeForm → List PlacedFault
form_faults declared b (F.TypeDef d) = type_form_faults declared b.types d
form_faults declared b (F.RecDef r) = record_form_faults declared b.records r
form_faults declared b (F.Spec s) = spec_form_faults declared b.specs s
form_faults declared b _ = []

abbrev pub forms_faults : Declarations → Behind → List TreeForm → List PlacedFault
forms_faults declared b [] = []
forms_faults declared b (form ∷ forms) = form_faults declared b form ++ forms_faults declared (behind form b) forms

-- what is wrong with single places of a module
abbrev pub listed_faults : Module → List PlacedFault
listed_faults m = forms_faults (declarations_of m) (record { types = []; records = []; specs = [] }) m.forms

-- the clauses of a module's specs, in text order
abbrev pub spec_clauses : Module → List (Node SpecClauseKind)
spec_clauses m = from_each (λ (s : Node SpecKind). s.kind.clauses) (specs_in m.forms)

-- a fault of a module, other than those that are told by its terms: at a single place, or by mentions that lead back
pub data IsTextFault (m : Module) : PlacedFault → Type 0 where
  at_one_place : (f : PlacedFault) → Among f (listed_faults m) → IsTextFault m f
  bound_leads_back : (c : Node SpecClauseKind) → Among c (spec_clauses m) → IsCyclic c.kind.bounds → IsTextFault m (fault_at (OutOfProfile CyclicBound) c.place)
  not_regular : (t : Node TypeKind) → IsNotRegular (declarations_of m) t → IsTextFault m (fault_at (OutOfProfile NonRegularType) t.place)

-- ---- the first

-- whether a place stands before another
abbrev pub is_before : Place → Place → Bool
is_before p q = nat_lt p.line q.line || (nat_eq p.line q.line && nat_lt p.column q.column)

-- the order of faults at one place
abbrev pub outside_rank : Outside → ℕ
outside_rank RecordDefault = 4
outside_rank MapKeyOutside = 5
outside_rank UnusableType = 6
outside_rank NonRegularType = 7
outside_rank CyclicBound = 8

abbrev pub rank : TypeFault → ℕ
rank NoSuchType = 0
rank Repeated = 1
rank NotContractive = 2
rank NegatedFun = 3
rank (OutOfProfile what) = outside_rank what
rank ArityDiffers = 9
rank BadRange = 10

-- whether a fault is named before another: it stands before it in the text, or at the same place with a lower rank
abbrev pub is_earlier : PlacedFault → PlacedFault → Bool
is_earlier f g = is_before f.place g.place || (not (is_before g.place f.place) && nat_lt (rank f.fault) (rank g.fault))

-- ---- faults that are told by the terms

-- where the name of each declared type and record stands, by the number of its definition from 2 on: behind `- type`, and behind `- record (`
abbrev pub name_places : Module → List Place
name_places m = map (λ (d : Node TypeDefKind). get_or d.marks 2 d.place) (types_in m.forms) ++ map (λ (r : Node RecDefKind). get_or r.marks 3 r.place) (record_forms_in m.forms)

-- the first definition that reaches itself, at its name
pub record ReachesItself (m : Module) (s : Specs) (f : PlacedFault) : Type 0 where
  pub index : ℕ
  pub place : Place
  pub named : slice_get (name_places m) index ≡ Some place
  pub fault : f ≡ fault_at NotContractive place
  pub reaches : Reaches s.defs (2 + index) (2 + index)
  pub first : (n : ℕ) → n < 2 + index → Reaches s.defs n n → ⊥

-- all terms of an arrow are well signed
abbrev pub IsWellSignedArrow : List Def → Arrow → Type 0
IsWellSignedArrow defs a = Every (IsWellSigned defs) a.params × IsWellSigned defs a.result

-- the arrows of a module's specs, in text order
abbrev pub arrows_of : Specs → List Arrow
arrows_of s = from_each (λ (f : FunSpec). f.clauses) s.functions

-- the first clause of a spec that isn't well signed, at its opening parenthesis
pub record IsNotSigned (m : Module) (s : Specs) (f : PlacedFault) : Type 0 where
  pub number : ℕ
  pub clause : Node SpecClauseKind
  pub arrow : Arrow
  pub written : slice_get (spec_clauses m) number ≡ Some clause
  pub meant : slice_get (arrows_of s) number ≡ Some arrow
  pub fault : f ≡ fault_at NegatedFun clause.place
  pub not_signed : IsWellSignedArrow s.defs arrow → ⊥
  pub first : (i : ℕ) (a : Arrow) → i < number → slice_get (arrows_of s) i ≡ Some a → IsWellSignedArrow s.defs a

-- no fault stands in a module but, maybe, those that are told by its terms, and these are they
pub record HasTerms (m : Module) (s : Specs) : Type 0 where
  pub no_fault : (f : PlacedFault) → IsTextFault m f → ⊥
  pub terms : module_specs m ≡ Some s

-- the first fault of a module. Terms are asked only where no other fault stands, and signs only where the definitions are contractive
pub data IsFirstFault (m : Module) (f : PlacedFault) : Type 0 where
  of_the_text : IsTextFault m f → ((g : PlacedFault) → IsTextFault m g → is_earlier g f ≡ false) → IsFirstFault m f
  of_definitions : (s : Specs) → HasTerms m s → ReachesItself m s f → IsFirstFault m f
  of_specs : (s : Specs) → HasTerms m s → IsContractive s.defs → IsNotSigned m s f → IsFirstFault m f

-- nothing is wrong with the types of a module, and this is what they are
pub record HasSpecs (m : Module) (s : Specs) : Type 0 where
  pub terms : HasTerms m s
  pub contractive : IsContractive s.defs
  pub well_signed : Every (IsWellSignedArrow s.defs) (arrows_of s)

-- ---- types that stand alone

-- the first fault of a type that stands alone
pub record IsFirstTypeFault (declared : Declarations) (t : Node TypeKind) (f : PlacedFault) : Type 0 where
  pub stands : Among f (type_faults declared any_variable t)
  pub first : Every (λ g. is_earlier g f ≡ false) (type_faults declared any_variable t)
