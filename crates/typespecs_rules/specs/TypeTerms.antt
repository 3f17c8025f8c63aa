-- The terms of type expressions (Erlang Reference Manual, "Types and Function Specifications"). That a map type says of each key that it doesn't name whether it is allowed, and the spellings `ety:intersection` and `ety:negation`, are this project's own.
use Rattle.std.specs.Prelude.{ℕ, zero, suc, ℤ, pos, neg_ℤ, List, [], ◌∷◌, map, length, Option, Some, None as Nothing, Bool, false, ◌&&◌, cond, codes}
use Rattle.std.specs.Option.{option_map}
use Rattle.type_terms.specs.Keys.{Name, same_name, key_lt}
use Rattle.type_terms.specs.declared.term.Key.{Key}
use Rattle.type_terms.specs.declared.term.Key.TheVariants.{Int as IntKey, Atom as AtomKey}
use Rattle.type_terms.specs.declared.term.Field.{Field}
use Rattle.type_terms.specs.declared.term.Term.{Term, Any, AtomLit, Nil, Tuple, Map, Fun, AnyFun, Or, And, Not, Name as NameTerm}
use Rattle.erl_tree.specs.declared.token.Node.{Node}
use Rattle.erl_tree.specs.declared.pattern.LiteralKind.{LiteralKind}
use Rattle.erl_tree.specs.declared.pattern.LiteralKind.TheVariants as L
use Rattle.erl_tree.specs.declared.type_expr.TypeKind.{TypeKind, out-TypeKind, para-TypeKind}
use Rattle.erl_tree.specs.declared.type_expr.MapPart.{MapPart, para-MapPart}
use Rattle.erl_tree.specs.declared.type_expr.TypeKind.TheOpen as Y
use Rattle.erl_tree.specs.declared.form.RecFieldKind.{RecFieldKind}
use Rattle.erl_tree.specs.declared.form.RecDefKind.{RecDefKind}
use Rattle.erl_runs.specs.Names.{is_wildcard}
use Rattle.erl_runs.specs.Records.{find_record, fields_of}
use Rattle.erl_runs.specs.Specs.{and_then, all_present, one_integer, range}
use Rattle.typespecs_rules.specs.BuiltInTypes.{list_of, nonempty_list_of, built_in_term, is_built_in_name}
use Rattle.typespecs_rules.specs.Declarations.{Declarations, type_number, record_number}

-- ---- ranges

-- the integer that an end of a range stands for; a character stands for its code point
abbrev pub range_end : LiteralKind → Option ℤ
range_end (L.Int n) = Some n
range_end (L.NegInt n) = Some (neg_ℤ n)
range_end (L.Char c) = Some (pos c)
range_end (L.Atom a) = Nothing

-- the term of the range between two ends; where the lower one is above the upper one there is none
abbrev pub range_term : Node LiteralKind → Node LiteralKind → Option Term
range_term low high = and_then (range_end low.kind) (λ l. and_then (range_end high.kind) (λ h. range l h))

-- ---- map types

-- what stands before `:=` or `=>` in a map type: one key, all integers, all atoms, or what is no key
pub data MapKey : Type 0 where
  this_key : Key → MapKey
  integer_keys : MapKey
  atom_keys : MapKey
  no_key : MapKey

-- `integer()` and `atom()` as keys
abbrev pub keys_of_type : Name → MapKey
keys_of_type name = cond (same_name name (codes "integer")) integer_keys (cond (same_name name (codes "atom")) atom_keys no_key)

-- the key that one level of a type expression is: an atom, an integer, one behind a minus sign, a character, `integer()` or `atom()`. One in parentheses is none
abbrev pub key_layer : {A B : Type 0} → Y.TypeKind-F A B → MapKey
key_layer (Y.Atom a) = this_key (AtomKey a)
key_layer (Y.Int n) = this_key (IntKey n)
key_layer (Y.NegInt n) = this_key (IntKey (neg_ℤ n))
key_layer (Y.Char c) = this_key (IntKey (pos c))
key_layer (Y.Use Nothing name []) = keys_of_type name
key_layer _ = no_key

-- the same before `:=`, where `integer()` and `atom()` are no keys
abbrev pub required_key : MapKey → MapKey
required_key (this_key k) = this_key k
required_key _ = no_key

-- what a part of a map type has as its key, by whether it is required
abbrev pub map_key : Bool → TypeKind → MapKey
map_key required key = cond required (required_key (key_layer (out-TypeKind key))) (key_layer (out-TypeKind key))

-- a part of a map type: its key, whether it is required, and the term of its values
pub record MapEntry : Type 0 where
  pub key : MapKey
  pub required : Bool
  pub value : Term

-- an entry, where it has a key
abbrev pub entry_of : MapKey → Bool → Term → Option MapEntry
entry_of no_key required value = Nothing
entry_of key required value = Some (record { key = key; required = required; value = value })

-- a field among others, whose keys ascend
abbrev pub inserted : Field → List Field → List Field
inserted field [] = field ∷ []
inserted field (next ∷ fields) = cond (key_lt field.key next.key) (field ∷ next ∷ fields) (next ∷ inserted field fields)

-- a field for each entry with one key, ascending by key
abbrev pub with_field : MapKey → Bool → Term → List Field → List Field
with_field (this_key k) required value fields = inserted (record { key = k; required = required; term = value }) fields
with_field _ required value fields = fields

abbrev pub fields_among : List MapEntry → List Field
fields_among [] = []
fields_among (e ∷ es) = with_field e.key e.required e.value (fields_among es)

-- the term of all other integers' values, and of all other atoms'
abbrev pub rest_for_integers : MapKey → Term → Option Term → Option Term
rest_for_integers integer_keys value other = Some value
rest_for_integers _ value other = other

abbrev pub integer_rest : List MapEntry → Option Term
integer_rest [] = Nothing
integer_rest (e ∷ es) = rest_for_integers e.key e.value (integer_rest es)

abbrev pub rest_for_atoms : MapKey → Term → Option Term → Option Term
rest_for_atoms atom_keys value other = Some value
rest_for_atoms _ value other = other

abbrev pub atom_rest : List MapEntry → Option Term
atom_rest [] = Nothing
atom_rest (e ∷ es) = rest_for_atoms e.key e.value (atom_rest es)

-- the term of a map type with these entries
abbrev pub map_term : List MapEntry → Term
map_term entries = Map (fields_among entries) (integer_rest entries) (atom_rest entries)

-- ---- records

-- the tuples that a record stands for: the tag, and for each field its term
pub record RecordTuple : Type 0 where
  pub tag : Name
  pub fields : List (Name × Term)

-- their term
abbrev pub tuple_term : RecordTuple → Term
tuple_term r = Tuple (AtomLit r.tag ∷ map (λ f. f.1) r.fields)

-- the term that is given for a field, or else its own
abbrev pub given_or : List (Name × Term) → Name → Term → Term
given_or [] field own = own
given_or (g ∷ given) field own = cond (same_name g.0 field) g.1 (given_or given field own)

-- the tuples of a record with these terms in the places of those of some fields
abbrev pub with_fields : List (Name × Term) → RecordTuple → RecordTuple
with_fields given r = record { tag = r.tag; fields = map (λ f. (f.0, given_or given f.0 f.1)) r.fields }

-- ---- uses

-- `ety:intersection(T, U)` and `ety:negation(T)`
abbrev pub set_operation : Name → List Term → Option Term
set_operation name (t ∷ u ∷ []) = cond (same_name name (codes "intersection")) (Some (And (t ∷ u ∷ []))) Nothing
set_operation name (t ∷ []) = cond (same_name name (codes "negation")) (Some (Not t)) Nothing
set_operation name _ = Nothing

-- a declared type with these arguments
abbrev pub declared_term : Declarations → Name → List Term → Option Term
declared_term declared name args = option_map (λ n. NameTerm n args) (type_number declared name (length args))

-- a type without a prefix, with these arguments
abbrev pub used_term : Declarations → Name → List Term → Option Term
used_term declared name args = cond (is_built_in_name name) (built_in_term name args) (declared_term declared name args)

-- a type with the prefix `ety`
abbrev pub prefixed_term : Name → Name → List Term → Option Term
prefixed_term prefix name args = cond (same_name prefix (codes "ety")) (set_operation name args) Nothing

-- whether a type with a prefix is written with so many arguments
abbrev pub is_set_operation : Name → ℕ → Bool
is_set_operation name (suc (suc zero)) = same_name name (codes "intersection")
is_set_operation name (suc zero) = same_name name (codes "negation")
is_set_operation name _ = false

abbrev pub is_prefixed_type : Name → Name → ℕ → Bool
is_prefixed_type prefix name count = same_name prefix (codes "ety") && is_set_operation name count

-- ---- type expressions

-- a part of a type expression, with its term
abbrev pub term : Node (TypeKind × Option Term) → Option Term
term n = n.kind.1

-- the terms of parts, where each has one
abbrev pub terms : List (Node (TypeKind × Option Term)) → Option (List Term)
terms ns = all_present (map term ns)

-- the entries of a map type, where each has a key and a term
abbrev pub entries : List (Node (MapPart × Option MapEntry)) → Option (List MapEntry)
entries ns = all_present (map (λ n. n.kind.1) ns)

-- a field's name with its term, where it has one
abbrev pub named_term : Name → Option Term → Option (Name × Term)
named_term name t = option_map (λ own. (name, own)) t

-- the fields of a record type with their terms
abbrev pub named_terms : List (Node (Name × Node (TypeKind × Option Term))) → Option (List (Name × Term))
named_terms fields = all_present (map (λ f. named_term f.kind.0 (term f.kind.1)) fields)

-- one level of a part of a map type
abbrev pub entry_layer : Y.MapPart-F (TypeKind × Option Term) (MapPart × Option MapEntry) → Option MapEntry
entry_layer part = and_then (term part.value) (λ value. entry_of (map_key part.required part.key.kind.0) part.required value)

-- in a module that declares these, where records stand for these tuples and variables for these terms
module _ (declared : Declarations) (tuples : Name → Option RecordTuple) (variables : Name → Option Term) where
  -- one level of a type expression
  abbrev pub term_layer : Y.TypeKind-F (TypeKind × Option Term) (MapPart × Option MapEntry) → Option Term
  term_layer (Y.Atom a) = Some (AtomLit a)
  term_layer (Y.Int n) = Some (one_integer n)
  term_layer (Y.NegInt n) = Some (one_integer (neg_ℤ n))
  term_layer (Y.Char c) = Some (one_integer (pos c))
  term_layer (Y.Var x) = cond (is_wildcard x) (Some Any) (variables x)
  term_layer (Y.Paren t) = term t
  term_layer (Y.Or t u) = and_then (term t) (λ a. and_then (term u) (λ b. Some (Or (a ∷ b ∷ []))))
  term_layer (Y.Named x t) = term t
  term_layer (Y.Range low high) = range_term low high
  term_layer (Y.Use Nothing name args) = and_then (terms args) (λ own. used_term declared name own)
  term_layer (Y.Use (Some prefix) name args) = and_then (terms args) (λ own. prefixed_term prefix name own)
  term_layer Y.Nil = Some Nil
  term_layer (Y.ListOf t) = option_map list_of (term t)
  term_layer (Y.NonEmpty t) = option_map nonempty_list_of (term t)
  term_layer (Y.Tuple ts) = option_map (λ own. Tuple own) (terms ts)
  term_layer (Y.Map parts) = option_map map_term (entries parts)
  term_layer Y.FunAll = Some (AnyFun Nothing)
  term_layer (Y.Fun params result) = and_then (terms params) (λ own. option_map (λ r. Fun own r) (term result))
  term_layer (Y.Rec name tag []) = option_map (λ n. NameTerm n []) (record_number declared name)
  term_layer (Y.Rec name tag (f ∷ fs)) = and_then (named_terms (f ∷ fs)) (λ given. option_map (λ r. tuple_term (with_fields given r)) (tuples name))

  -- the term of what stands in a type's node
  unfoldable pub type_kind_term : TypeKind → Option Term
  type_kind_term t = para-TypeKind (Option Term) (Option MapEntry) term_layer entry_layer t

  unfoldable pub map_part_entry : MapPart → Option MapEntry
  map_part_entry part = para-MapPart (Option Term) (Option MapEntry) term_layer entry_layer part

-- ---- records' tuples

-- no variable stands for anything, as in a record's declaration
abbrev pub no_variables : Name → Option Term
no_variables x = Nothing

-- the term of a declared field; without a type it is `any()`
abbrev pub field_term : (TypeKind → Option Term) → RecFieldKind → Option Term
field_term term_of field = of_type field.ty
  where
    of_type : Option (Node TypeKind) → Option Term
    of_type Nothing = Some Any
    of_type (Some t) = term_of t.kind

-- the tuples of a record whose fields have these terms
abbrev pub tuple_of : (TypeKind → Option Term) → RecDefKind → Option RecordTuple
tuple_of term_of r = option_map (λ fields. record { tag = r.tag; fields = fields }) (all_present (map (λ (f : RecFieldKind). named_term f.name (field_term term_of f)) (fields_of r)))

-- the tuples of a record, where record types with fields in their places stand inside one another through at most so many records
abbrev pub tuple_within : Declarations → ℕ → Name → Option RecordTuple
tuple_within declared zero name = Nothing
tuple_within declared (suc k) name = and_then (find_record declared.records name) (λ r. tuple_of (type_kind_term declared (tuple_within declared k) no_variables) r)

-- the tuples of a record. Where no record leads back to itself through such record types, the number of records is enough
abbrev pub record_tuple : Declarations → Name → Option RecordTuple
record_tuple declared name = tuple_within declared (length declared.records) name

-- the term of a type expression in a module that declares these, where variables stand for these terms
abbrev pub type_term : Declarations → (Name → Option Term) → Node TypeKind → Option Term
type_term declared variables t = type_kind_term declared (record_tuple declared) variables t.kind
