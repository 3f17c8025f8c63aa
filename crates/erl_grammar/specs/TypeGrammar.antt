-- Which type expressions are well formed: the grammar of the Erlang Reference Manual ("Types and Function Specifications") in the profile.
use Rattle.std.specs.Prelude.{◌≡◌, ℕ, ℤ, List, [], ◌∷◌, ◌++◌, length, Some, None, Bool, true, ◌==◌, ◌&&◌, ◌||◌, codes}
use Rattle.std.specs.Str.{bytes_eq}
use Rattle.type_terms.specs.Keys.{Name}
use Rattle.erl_tree.specs.Lists.{Among}
use Rattle.erl_tree.specs.declared.token.Place.{Place}
use Rattle.erl_tree.specs.declared.token.Node.{Node}
use Rattle.erl_tree.specs.declared.pattern.LiteralKind.{LiteralKind}
use Rattle.erl_tree.specs.declared.pattern.LiteralKind.TheVariants as L
use Rattle.erl_tree.specs.declared.type_expr.TypeKind.{TypeKind}
use Rattle.erl_tree.specs.declared.type_expr.TypeKind.TheVariants as Y
use Rattle.erl_tree.specs.declared.type_expr.MapPart.{MapPart, roll-MapPart}
use Rattle.erl_grammar.specs.Grammar.{node, AreSeparators, IsArity}

-- a part of a map type, by its key, whether it is required, and the type of its values
abbrev pub map_part_of : Node TypeKind → Bool → Node TypeKind → MapPart
map_part_of key required value = roll-MapPart (record { key = key; required = required; value = value })

-- what stands behind the prefix `ety`: `intersection` with two arguments, `negation` with one
abbrev pub is_set_operation : Name → List (Node TypeKind) → Bool
is_set_operation name args = (bytes_eq name (codes "intersection") && (length args == 2)) || (bytes_eq name (codes "negation") && (length args == 1))

-- an end of a range: `1`, `-1`, `$c`
pub data IsRangeEnd : Node LiteralKind → Type 0 where
  integer_end : (p : Place) (n : ℤ) → IsRangeEnd (node p (p ∷ []) (L.Int n))
  negative_end : (h p : Place) (n : ℤ) → IsRangeEnd (node h (h ∷ p ∷ []) (L.NegInt n))
  character_end : (p : Place) (c : ℕ) → IsRangeEnd (node p (p ∷ []) (L.Char c))

mutual
  -- a type: types with `|` between them, which group to the right
  pub data IsType : Node TypeKind → Type 0 where
    one_type : (t : Node TypeKind) → IsSimpleType t → IsType t
    union : (t u : Node TypeKind) (m : Place) → IsSimpleType t → IsType u → IsType (node t.place (m ∷ []) (Y.Or t u))

  -- a parameter of a fun type or of a spec: `T`, `X :: T`
  pub data IsParameter : Node TypeKind → Type 0 where
    unnamed : (t : Node TypeKind) → IsType t → IsParameter t
    named : (p m : Place) (x : Name) (t : Node TypeKind) → IsType t → IsParameter (node p (p ∷ m ∷ []) (Y.Named x t))

  -- a type without `|` outside of brackets
  pub data IsSimpleType : Node TypeKind → Type 0 where
    atom_type : (p : Place) (a : Name) → IsSimpleType (node p (p ∷ []) (Y.Atom a))
    integer_type : (p : Place) (n : ℤ) → IsSimpleType (node p (p ∷ []) (Y.Int n))
    negative_type : (h p : Place) (n : ℤ) → IsSimpleType (node h (h ∷ p ∷ []) (Y.NegInt n))
    character_type : (p : Place) (c : ℕ) → IsSimpleType (node p (p ∷ []) (Y.Char c))
    variable_type : (p : Place) (x : Name) → IsSimpleType (node p (p ∷ []) (Y.Var x))
    paren_type : (o c : Place) (t : Node TypeKind) → IsType t → IsSimpleType (node o (o ∷ c ∷ []) (Y.Paren t))
    range : (low high : Node LiteralKind) (m : Place) → IsRangeEnd low → IsRangeEnd high → IsSimpleType (node low.place (m ∷ []) (Y.Range low high))
    used_type : (n o c : Place) (ms : List Place) (name : Name) (args : List (Node TypeKind)) → AreSeparators args ms → ((t : Node TypeKind) → Among t args → IsType t) → IsSimpleType (node n (n ∷ o ∷ (ms ++ c ∷ [])) (Y.Use None name args))
    set_operation : (p d n o c : Place) (ms : List Place) (name : Name) (args : List (Node TypeKind)) → is_set_operation name args ≡ true → AreSeparators args ms → ((t : Node TypeKind) → Among t args → IsType t) → IsSimpleType (node p (p ∷ d ∷ n ∷ o ∷ (ms ++ c ∷ [])) (Y.Use (Some (codes "ety")) name args))
    nil_type : (o c : Place) → IsSimpleType (node o (o ∷ c ∷ []) Y.Nil)
    list_type : (o c : Place) (t : Node TypeKind) → IsType t → IsSimpleType (node o (o ∷ c ∷ []) (Y.ListOf t))
    nonempty_list_type : (o m d c : Place) (t : Node TypeKind) → IsType t → IsSimpleType (node o (o ∷ m ∷ d ∷ c ∷ []) (Y.NonEmpty t))
    tuple_type : (o c : Place) (ms : List Place) (ts : List (Node TypeKind)) → AreSeparators ts ms → ((t : Node TypeKind) → Among t ts → IsType t) → IsSimpleType (node o (o ∷ (ms ++ c ∷ [])) (Y.Tuple ts))
    map_type : (h o c : Place) (ms : List Place) (parts : List (Node MapPart)) → AreSeparators parts ms → ((part : Node MapPart) → Among part parts → IsMapPart part) → IsSimpleType (node h (h ∷ o ∷ (ms ++ c ∷ [])) (Y.Map parts))
    any_fun_type : (f o c : Place) → IsSimpleType (node f (f ∷ o ∷ c ∷ []) Y.FunAll)
    fun_type : (f o q r a c : Place) (ms : List Place) (params : List (Node TypeKind)) (result : Node TypeKind) → IsArity params → AreSeparators params ms → ((t : Node TypeKind) → Among t params → IsParameter t) → IsType result → IsSimpleType (node f (f ∷ o ∷ q ∷ (ms ++ r ∷ a ∷ c ∷ [])) (Y.Fun params result))
    record_type : (h n o c : Place) (ms : List Place) (name : Name) (fields : List (Node (Name × Node TypeKind))) → AreSeparators fields ms → ((f : Node (Name × Node TypeKind)) → Among f fields → IsFieldType f) → IsSimpleType (node h (h ∷ n ∷ o ∷ (ms ++ c ∷ [])) (Y.Rec name name fields))

  -- `K := T`, `K => T`
  pub data IsMapPart : Node MapPart → Type 0 where
    map_part : (k v : Node TypeKind) (m : Place) (required : Bool) → IsType k → IsType v → IsMapPart (node k.place (m ∷ []) (map_part_of k required v))

  -- `field :: T`
  pub data IsFieldType : Node (Name × Node TypeKind) → Type 0 where
    field_type : (n m : Place) (name : Name) (t : Node TypeKind) → IsType t → IsFieldType (node n (n ∷ m ∷ []) (name, t))
