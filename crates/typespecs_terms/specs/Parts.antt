-- The terms of the parts of type expressions.
use Rattle.std.specs.Prelude.{List, [], ◌∷◌, Option, Some, None as Nothing, cond}
use Rattle.type_terms.specs.Keys.{Name, same_name}
use Rattle.type_terms.specs.declared.term.Term.{Term}
use Rattle.erl_tree.specs.declared.token.Node.{Node}
use Rattle.erl_tree.specs.declared.type_expr.TypeKind.{TypeKind}
use Rattle.erl_tree.specs.declared.type_expr.MapPart.{MapPart}
use Rattle.typespecs_rules.specs.Declarations.{Declarations}
use Rattle.typespecs_rules.specs.TypeTerms.{MapEntry, RecordTuple, named_term, used_term, prefixed_term, type_kind_term, map_part_entry}

-- of a type expression, of a part of a map type, and of a field of a record type
module _ (declared : Declarations) (tuples : Name → Option RecordTuple) (variables : Name → Option Term) where
  abbrev pub of_node : Node TypeKind → Option Term
  of_node t = type_kind_term declared tuples variables t.kind

  abbrev pub of_part : Node MapPart → Option MapEntry
  of_part p = map_part_entry declared tuples variables p.kind

  abbrev pub of_field : Node (Name × Node TypeKind) → Option (Name × Term)
  of_field f = named_term f.kind.0 (of_node f.kind.1)

-- a type with a prefix or without one, with these arguments
abbrev pub use_of : Declarations → Option Name → Name → List Term → Option Term
use_of declared Nothing name args = used_term declared name args
use_of declared (Some prefix) name args = prefixed_term prefix name args

-- the first term that is given for a field
abbrev pub given_for : List (Name × Term) → Name → Option Term
given_for [] x = Nothing
given_for (g ∷ given) x = cond (same_name g.0 x) (Some g.1) (given_for given x)

-- a term that is given, or else the own one
abbrev pub or_own : Option Term → Term → Term
or_own (Some t) own = t
or_own Nothing own = own
