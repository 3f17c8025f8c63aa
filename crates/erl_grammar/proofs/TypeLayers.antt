-- What one layer of a well-formed type says of its parts.
use Rattle.std.proofs.Common.{◌≡◌, sym, subst}
use Rattle.std.specs.Prelude.{Some, None, true, codes}
use Rattle.erl_tree.specs.Lists.{Among}
use Rattle.erl_tree.specs.declared.token.Node.{Node}
use Rattle.erl_tree.specs.declared.pattern.LiteralKind.{LiteralKind}
use Rattle.erl_tree.specs.declared.pattern.LiteralKind.TheVariants as L
use Rattle.erl_tree.specs.declared.type_expr.TypeKind.{TypeKind, out-TypeKind}
use Rattle.erl_tree.specs.declared.type_expr.TypeKind.TheVariants as Y
use Rattle.erl_tree.specs.declared.type_expr.TypeKind.TheOpen as O
use Rattle.erl_tree.specs.declared.type_expr.MapPart.{MapPart}
use Rattle.erl_grammar.specs.TypeGrammar.{is_set_operation, IsRangeEnd, IsType, IsParameter, IsSimpleType}
use Rattle.erl_grammar.specs.TypeGrammar as G

-- an end of a range is no atom
abbrev pub end_layer : LiteralKind → Type 0
end_layer (L.Atom a) = ⊥
end_layer _ = Unit {0}

pub end-layer : (k : Node LiteralKind) → IsRangeEnd k → end_layer k.kind
end-layer _ (G.integer_end p n) = tt
end-layer _ (G.negative_end h p n) = tt
end-layer _ (G.character_end p c) = tt

-- one layer of a type, of whose parts nothing is said
abbrev pub TypeLayer : Type 0
TypeLayer = O.TypeKind-F TypeKind MapPart

-- one layer of a type without `|` outside of brackets
abbrev pub simple_type_layer : TypeLayer → Type 0
simple_type_layer (O.Or t u) = ⊥
simple_type_layer (O.Named x t) = ⊥
simple_type_layer (O.Range low high) = IsRangeEnd low × IsRangeEnd high
simple_type_layer (O.Use (Some prefix) name args) = is_set_operation name args ≡ true
simple_type_layer (O.Tuple ts) = (t : Node TypeKind) → Among t ts → IsType t
simple_type_layer (O.Fun params result) = IsType result
simple_type_layer _ = Unit {0}

-- one layer of a type
abbrev pub type_layer : TypeLayer → Type 0
type_layer (O.Or t u) = IsSimpleType t × IsType u
type_layer l = simple_type_layer l

-- one layer of a parameter
abbrev pub parameter_layer : TypeLayer → Type 0
parameter_layer (O.Named x t) = IsType t
parameter_layer l = type_layer l

pub simple-type-layer : (t : Node TypeKind) → IsSimpleType t → simple_type_layer (out-TypeKind t.kind)
simple-type-layer _ (G.atom_type p a) = subst simple_type_layer (sym (Y.outs-Atom a)) tt
simple-type-layer _ (G.integer_type p n) = subst simple_type_layer (sym (Y.outs-Int n)) tt
simple-type-layer _ (G.negative_type h p n) = subst simple_type_layer (sym (Y.outs-NegInt n)) tt
simple-type-layer _ (G.character_type p c) = subst simple_type_layer (sym (Y.outs-Char c)) tt
simple-type-layer _ (G.variable_type p x) = subst simple_type_layer (sym (Y.outs-Var x)) tt
simple-type-layer _ (G.paren_type o c t h) = subst simple_type_layer (sym (Y.outs-Paren t)) tt
simple-type-layer _ (G.range low high m h k) = subst simple_type_layer (sym (Y.outs-Range low high)) (h, k)
simple-type-layer _ (G.used_type n o c ms name args g h) = subst simple_type_layer (sym (Y.outs-Use None name args)) tt
simple-type-layer _ (G.set_operation p d n o c ms name args i g h) = subst simple_type_layer (sym (Y.outs-Use (Some (codes "ety")) name args)) i
simple-type-layer _ (G.nil_type o c) = subst simple_type_layer (sym Y.outs-Nil) tt
simple-type-layer _ (G.list_type o c t h) = subst simple_type_layer (sym (Y.outs-ListOf t)) tt
simple-type-layer _ (G.nonempty_list_type o m d c t h) = subst simple_type_layer (sym (Y.outs-NonEmpty t)) tt
simple-type-layer _ (G.tuple_type o c ms ts g h) = subst simple_type_layer (sym (Y.outs-Tuple ts)) h
simple-type-layer _ (G.map_type h o c ms parts g k) = subst simple_type_layer (sym (Y.outs-Map parts)) tt
simple-type-layer _ (G.any_fun_type f o c) = subst simple_type_layer (sym Y.outs-FunAll) tt
simple-type-layer _ (G.fun_type f o q r a c ms params result i g h k) = subst simple_type_layer (sym (Y.outs-Fun params result)) k
simple-type-layer _ (G.record_type h n o c ms name fields g k) = subst simple_type_layer (sym (Y.outs-Rec name name fields)) tt

simple-type : (l : TypeLayer) → simple_type_layer l → type_layer l
simple-type (O.Or t u) h = absurd h
simple-type _ h = h

pub type-layer : (t : Node TypeKind) → IsType t → type_layer (out-TypeKind t.kind)
type-layer _ (G.one_type t h) = simple-type (out-TypeKind t.kind) (simple-type-layer t h)
type-layer _ (G.union t u m h k) = subst type_layer (sym (Y.outs-Or t u)) (h, k)

type-parameter : (l : TypeLayer) → type_layer l → parameter_layer l
type-parameter (O.Named x t) h = absurd h
type-parameter _ h = h

pub parameter-layer : (t : Node TypeKind) → IsParameter t → parameter_layer (out-TypeKind t.kind)
parameter-layer _ (G.unnamed t h) = type-parameter (out-TypeKind t.kind) (type-layer t h)
parameter-layer _ (G.named p m x t h) = subst parameter_layer (sym (Y.outs-Named x t)) h
