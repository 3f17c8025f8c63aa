-- What a type expression is and holds, by what its parts are and hold: one equation for each form.
use Rattle.std.proofs.Common.{◌≡◌, refl, ap, sym, ◌∙◌, ℕ, ℤ, pos, List, [], ◌∷◌, ◌++◌, map}
use Rattle.std.specs.Prelude.{Option, Some, None as Nothing, Bool, cond, neg_ℤ}
use Rattle.std.specs.Option.{option_map}
use Rattle.type_terms.specs.Keys.{Name}
use Rattle.type_terms.specs.declared.term.Term.{Term, Any, AtomLit, Nil, Tuple, Fun, AnyFun, Or, Name as NameTerm}
use Rattle.erl_tree.specs.declared.token.Node.{Node}
use Rattle.erl_tree.specs.declared.pattern.LiteralKind.{LiteralKind}
use Rattle.erl_tree.specs.declared.expr.ExprKind.TheShapes as S
use Rattle.erl_tree.specs.declared.type_expr.TypeKind.{TypeKind, roll-TypeKind, map-TypeKind, para-roll-TypeKind}
use Rattle.erl_tree.specs.declared.type_expr.MapPart.{MapPart, roll-MapPart, map-MapPart, para-roll-MapPart, out-MapPart, out-roll-MapPart}
use Rattle.erl_tree.specs.declared.type_expr.TypeKind.TheVariants as Y
use Rattle.erl_tree.specs.declared.type_expr.TypeKind.TheOpen as O
use Rattle.erl_grammar.specs.TypeGrammar.{map_part_of}
use Rattle.erl_runs.specs.Names.{is_wildcard}
use Rattle.erl_runs.specs.Specs.{and_then, all_present, one_integer}
use Rattle.typespecs_rules.specs.TypeParts.{Inside, from_each, with_inside, inside_layer, inside_map_part_layer, inside_kind, inside_map_part_kind, types_within}
use Rattle.typespecs_rules.specs.BuiltInTypes.{list_of, nonempty_list_of}
use Rattle.typespecs_rules.specs.Declarations.{Declarations, record_number}
use Rattle.typespecs_rules.specs.TypeTerms.{MapEntry, RecordTuple, range_term, map_term, map_key, entry_of, tuple_term, with_fields, used_term, prefixed_term, terms, entries, named_term, named_terms, term_layer, entry_layer, type_kind_term, map_part_entry}

-- ---- terms

module _ (declared : Declarations) (tuples : Name → Option RecordTuple) (variables : Name → Option Term) where
  abbrev pub of_kind : TypeKind → Option Term
  of_kind k = type_kind_term declared tuples variables k

  abbrev pub of_node : Node TypeKind → Option Term
  of_node t = of_kind t.kind

  abbrev pub of_part : Node MapPart → Option MapEntry
  of_part p = map_part_entry declared tuples variables p.kind

  abbrev pub of_field : Node (Name × Node TypeKind) → Option (Name × Term)
  of_field f = named_term f.kind.0 (of_node f.kind.1)

  abbrev pub with_term : TypeKind → TypeKind × Option Term
  with_term k = (k, of_kind k)

  abbrev pub with_entry : MapPart → MapPart × Option MapEntry
  with_entry p = (p, map_part_entry declared tuples variables p)

  -- one level
  pub term-rolls : (x : O.TypeKind-F TypeKind MapPart) → of_kind (roll-TypeKind x) ≡ term_layer declared tuples variables (map-TypeKind TypeKind MapPart (TypeKind × Option Term) (MapPart × Option MapEntry) with_term with_entry x)
  unfolding type_kind_term map_part_entry
  term-rolls x = para-roll-TypeKind (Option Term) (Option MapEntry) (term_layer declared tuples variables) entry_layer x

  pub entry-rolls : (x : O.MapPart-F TypeKind MapPart) → map_part_entry declared tuples variables (roll-MapPart x) ≡ entry_layer (map-MapPart TypeKind MapPart (TypeKind × Option Term) (MapPart × Option MapEntry) with_term with_entry x)
  unfolding type_kind_term map_part_entry
  entry-rolls x = para-roll-MapPart (Option Term) (Option MapEntry) (term_layer declared tuples variables) entry_layer x

  pub terms-are : (ts : List (Node TypeKind)) → terms (S.former-ExprKind-Tuple-0.map TypeKind (TypeKind × Option Term) with_term ts) ≡ all_present (map of_node ts)
  terms-are [] = refl
  terms-are (t ∷ ts) = ap (λ more. and_then (of_node t) (λ a. and_then more (λ others. Some (a ∷ others)))) (terms-are ts)

  pub entries-are : (ps : List (Node MapPart)) → entries (S.former-ExprKind-Tuple-0.map MapPart (MapPart × Option MapEntry) with_entry ps) ≡ all_present (map of_part ps)
  entries-are [] = refl
  entries-are (p ∷ ps) = ap (λ more. and_then (of_part p) (λ a. and_then more (λ others. Some (a ∷ others)))) (entries-are ps)

  pub fields-are : (fs : List (Node (Name × Node TypeKind))) → named_terms (S.former-ExprKind-RecNew-2.map TypeKind (TypeKind × Option Term) with_term fs) ≡ all_present (map of_field fs)
  fields-are [] = refl
  fields-are (f ∷ fs) = ap (λ more. and_then (of_field f) (λ a. and_then more (λ others. Some (a ∷ others)))) (fields-are fs)

  pub type_term-Atom : (a : Name) → of_kind (Y.Atom a) ≡ Some (AtomLit a)
  type_term-Atom a = ap (λ k. of_kind k) (sym (Y.rolls-Atom a)) ∙ term-rolls (O.Atom a)

  pub type_term-Int : (n : ℤ) → of_kind (Y.Int n) ≡ Some (one_integer n)
  type_term-Int n = ap (λ k. of_kind k) (sym (Y.rolls-Int n)) ∙ term-rolls (O.Int n)

  pub type_term-NegInt : (n : ℤ) → of_kind (Y.NegInt n) ≡ Some (one_integer (neg_ℤ n))
  type_term-NegInt n = ap (λ k. of_kind k) (sym (Y.rolls-NegInt n)) ∙ term-rolls (O.NegInt n)

  pub type_term-Char : (c : ℕ) → of_kind (Y.Char c) ≡ Some (one_integer (pos c))
  type_term-Char c = ap (λ k. of_kind k) (sym (Y.rolls-Char c)) ∙ term-rolls (O.Char c)

  pub type_term-Var : (x : Name) → of_kind (Y.Var x) ≡ cond (is_wildcard x) (Some Any) (variables x)
  type_term-Var x = ap (λ k. of_kind k) (sym (Y.rolls-Var x)) ∙ term-rolls (O.Var x)

  pub type_term-Paren : (t : Node TypeKind) → of_kind (Y.Paren t) ≡ of_node t
  type_term-Paren t = ap (λ k. of_kind k) (sym (Y.rolls-Paren t)) ∙ term-rolls (O.Paren t)

  pub type_term-Or : (t u : Node TypeKind) → of_kind (Y.Or t u) ≡ and_then (of_node t) (λ a. and_then (of_node u) (λ b. Some (Or (a ∷ b ∷ []))))
  type_term-Or t u = ap (λ k. of_kind k) (sym (Y.rolls-Or t u)) ∙ term-rolls (O.Or t u)

  pub type_term-Named : (x : Name) (t : Node TypeKind) → of_kind (Y.Named x t) ≡ of_node t
  type_term-Named x t = ap (λ k. of_kind k) (sym (Y.rolls-Named x t)) ∙ term-rolls (O.Named x t)

  pub type_term-Range : (low high : Node LiteralKind) → of_kind (Y.Range low high) ≡ range_term low high
  type_term-Range low high = ap (λ k. of_kind k) (sym (Y.rolls-Range low high)) ∙ term-rolls (O.Range low high)

  pub type_term-Use_used : (name : Name) (args : List (Node TypeKind)) → of_kind (Y.Use Nothing name args) ≡ and_then (all_present (map of_node args)) (λ own. used_term declared name own)
  type_term-Use_used name args = (ap (λ k. of_kind k) (sym (Y.rolls-Use Nothing name args)) ∙ term-rolls (O.Use Nothing name args)) ∙ ap (λ ts. and_then ts (λ own. used_term declared name own)) (terms-are args)

  pub type_term-Use_prefixed : (prefix name : Name) (args : List (Node TypeKind)) → of_kind (Y.Use (Some prefix) name args) ≡ and_then (all_present (map of_node args)) (λ own. prefixed_term prefix name own)
  type_term-Use_prefixed prefix name args = (ap (λ k. of_kind k) (sym (Y.rolls-Use (Some prefix) name args)) ∙ term-rolls (O.Use (Some prefix) name args)) ∙ ap (λ ts. and_then ts (λ own. prefixed_term prefix name own)) (terms-are args)

  pub type_term-Nil : of_kind Y.Nil ≡ Some Nil
  type_term-Nil = ap (λ k. of_kind k) (sym Y.rolls-Nil) ∙ term-rolls O.Nil

  pub type_term-ListOf : (t : Node TypeKind) → of_kind (Y.ListOf t) ≡ option_map list_of (of_node t)
  type_term-ListOf t = ap (λ k. of_kind k) (sym (Y.rolls-ListOf t)) ∙ term-rolls (O.ListOf t)

  pub type_term-NonEmpty : (t : Node TypeKind) → of_kind (Y.NonEmpty t) ≡ option_map nonempty_list_of (of_node t)
  type_term-NonEmpty t = ap (λ k. of_kind k) (sym (Y.rolls-NonEmpty t)) ∙ term-rolls (O.NonEmpty t)

  pub type_term-Tuple : (ts : List (Node TypeKind)) → of_kind (Y.Tuple ts) ≡ option_map (λ own. Tuple own) (all_present (map of_node ts))
  type_term-Tuple ts = (ap (λ k. of_kind k) (sym (Y.rolls-Tuple ts)) ∙ term-rolls (O.Tuple ts)) ∙ ap (λ own. option_map (λ parts. Tuple parts) own) (terms-are ts)

  pub type_term-Map : (parts : List (Node MapPart)) → of_kind (Y.Map parts) ≡ option_map map_term (all_present (map of_part parts))
  type_term-Map parts = (ap (λ k. of_kind k) (sym (Y.rolls-Map parts)) ∙ term-rolls (O.Map parts)) ∙ ap (λ own. option_map map_term own) (entries-are parts)

  pub type_term-FunAll : of_kind Y.FunAll ≡ Some (AnyFun Nothing)
  type_term-FunAll = ap (λ k. of_kind k) (sym Y.rolls-FunAll) ∙ term-rolls O.FunAll

  pub type_term-Fun : (params : List (Node TypeKind)) (result : Node TypeKind) → of_kind (Y.Fun params result) ≡ and_then (all_present (map of_node params)) (λ own. option_map (λ r. Fun own r) (of_node result))
  type_term-Fun params result = (ap (λ k. of_kind k) (sym (Y.rolls-Fun params result)) ∙ term-rolls (O.Fun params result)) ∙ ap (λ ts. and_then ts (λ own. option_map (λ r. Fun own r) (of_node result))) (terms-are params)

  pub type_term-Rec_plain : (name tag : Name) → of_kind (Y.Rec name tag []) ≡ option_map (λ n. NameTerm n []) (record_number declared name)
  type_term-Rec_plain name tag = ap (λ k. of_kind k) (sym (Y.rolls-Rec name tag [])) ∙ term-rolls (O.Rec name tag [])

  pub type_term-Rec_with : (name tag : Name) (f : Node (Name × Node TypeKind)) (fs : List (Node (Name × Node TypeKind))) → of_kind (Y.Rec name tag (f ∷ fs)) ≡ and_then (all_present (map of_field (f ∷ fs))) (λ given. option_map (λ r. tuple_term (with_fields given r)) (tuples name))
  type_term-Rec_with name tag f fs = (ap (λ k. of_kind k) (sym (Y.rolls-Rec name tag (f ∷ fs))) ∙ term-rolls (O.Rec name tag (f ∷ fs))) ∙ ap (λ gs. and_then gs (λ given. option_map (λ r. tuple_term (with_fields given r)) (tuples name))) (fields-are (f ∷ fs))

  pub entry-of : (key : Node TypeKind) (required : Bool) (value : Node TypeKind) → map_part_entry declared tuples variables (map_part_of key required value) ≡ and_then (of_node value) (λ own. entry_of (map_key required key.kind) required own)
  entry-of key required value = entry-rolls (record { key = key; required = required; value = value })

pub ruleset type_term_equations = (type_term-Atom, type_term-Int, type_term-NegInt, type_term-Char, type_term-Var, type_term-Paren, type_term-Or, type_term-Named, type_term-Range, type_term-Use_used, type_term-Use_prefixed, type_term-Nil, type_term-ListOf, type_term-NonEmpty, type_term-Tuple, type_term-Map, type_term-FunAll, type_term-Fun, type_term-Rec_plain, type_term-Rec_with, entry-of)

-- ---- what stands inside

abbrev pub with_all : TypeKind → TypeKind × Inside
with_all k = (k, inside_kind k)

abbrev pub part_with_all : MapPart → MapPart × Inside
part_with_all p = (p, inside_map_part_kind p)

-- one level
pub inside-rolls : (x : O.TypeKind-F TypeKind MapPart) → inside_kind (roll-TypeKind x) ≡ inside_layer (map-TypeKind TypeKind MapPart (TypeKind × Inside) (MapPart × Inside) with_all part_with_all x)
unfolding inside_kind inside_map_part_kind
inside-rolls x = para-roll-TypeKind Inside Inside inside_layer inside_map_part_layer x

pub inside_part-rolls : (x : O.MapPart-F TypeKind MapPart) → inside_map_part_kind (roll-MapPart x) ≡ inside_map_part_layer (map-MapPart TypeKind MapPart (TypeKind × Inside) (MapPart × Inside) with_all part_with_all x)
unfolding inside_kind inside_map_part_kind
inside_part-rolls x = para-roll-MapPart Inside Inside inside_layer inside_map_part_layer x

pub inside-each : (ts : List (Node TypeKind)) → from_each with_inside (S.former-ExprKind-Tuple-0.map TypeKind (TypeKind × Inside) with_all ts) ≡ from_each types_within ts
inside-each [] = refl
inside-each (t ∷ ts) = ap (λ more. types_within t ++ more) (inside-each ts)

pub inside-parts : (ps : List (Node MapPart)) → from_each (λ (part : Node (MapPart × Inside)). part.kind.1) (S.former-ExprKind-Tuple-0.map MapPart (MapPart × Inside) part_with_all ps) ≡ from_each (λ (part : Node MapPart). inside_map_part_kind part.kind) ps
inside-parts [] = refl
inside-parts (p ∷ ps) = ap (λ more. inside_map_part_kind p.kind ++ more) (inside-parts ps)

pub inside-fields : (fs : List (Node (Name × Node TypeKind))) → from_each (λ (field : Node (Name × Node (TypeKind × Inside))). with_inside field.kind.1) (S.former-ExprKind-RecNew-2.map TypeKind (TypeKind × Inside) with_all fs) ≡ from_each (λ (field : Node (Name × Node TypeKind)). types_within field.kind.1) fs
inside-fields [] = refl
inside-fields (f ∷ fs) = ap (λ more. types_within f.kind.1 ++ more) (inside-fields fs)

pub inside-Atom : (a : Name) → inside_kind (Y.Atom a) ≡ []
inside-Atom a = ap (λ k. inside_kind k) (sym (Y.rolls-Atom a)) ∙ inside-rolls (O.Atom a)

pub inside-Int : (n : ℤ) → inside_kind (Y.Int n) ≡ []
inside-Int n = ap (λ k. inside_kind k) (sym (Y.rolls-Int n)) ∙ inside-rolls (O.Int n)

pub inside-NegInt : (n : ℤ) → inside_kind (Y.NegInt n) ≡ []
inside-NegInt n = ap (λ k. inside_kind k) (sym (Y.rolls-NegInt n)) ∙ inside-rolls (O.NegInt n)

pub inside-Char : (c : ℕ) → inside_kind (Y.Char c) ≡ []
inside-Char c = ap (λ k. inside_kind k) (sym (Y.rolls-Char c)) ∙ inside-rolls (O.Char c)

pub inside-Var : (x : Name) → inside_kind (Y.Var x) ≡ []
inside-Var x = ap (λ k. inside_kind k) (sym (Y.rolls-Var x)) ∙ inside-rolls (O.Var x)

pub inside-Paren : (t : Node TypeKind) → inside_kind (Y.Paren t) ≡ types_within t
inside-Paren t = ap (λ k. inside_kind k) (sym (Y.rolls-Paren t)) ∙ inside-rolls (O.Paren t)

pub inside-Or : (t u : Node TypeKind) → inside_kind (Y.Or t u) ≡ types_within t ++ types_within u
inside-Or t u = ap (λ k. inside_kind k) (sym (Y.rolls-Or t u)) ∙ inside-rolls (O.Or t u)

pub inside-Named : (x : Name) (t : Node TypeKind) → inside_kind (Y.Named x t) ≡ types_within t
inside-Named x t = ap (λ k. inside_kind k) (sym (Y.rolls-Named x t)) ∙ inside-rolls (O.Named x t)

pub inside-Range : (low high : Node LiteralKind) → inside_kind (Y.Range low high) ≡ []
inside-Range low high = ap (λ k. inside_kind k) (sym (Y.rolls-Range low high)) ∙ inside-rolls (O.Range low high)

pub inside-Use : (prefix : Option Name) (name : Name) (args : List (Node TypeKind)) → inside_kind (Y.Use prefix name args) ≡ from_each types_within args
inside-Use prefix name args = (ap (λ k. inside_kind k) (sym (Y.rolls-Use prefix name args)) ∙ inside-rolls (O.Use prefix name args)) ∙ inside-each args

pub inside-Nil : inside_kind Y.Nil ≡ []
inside-Nil = ap (λ k. inside_kind k) (sym Y.rolls-Nil) ∙ inside-rolls O.Nil

pub inside-ListOf : (t : Node TypeKind) → inside_kind (Y.ListOf t) ≡ types_within t
inside-ListOf t = ap (λ k. inside_kind k) (sym (Y.rolls-ListOf t)) ∙ inside-rolls (O.ListOf t)

pub inside-NonEmpty : (t : Node TypeKind) → inside_kind (Y.NonEmpty t) ≡ types_within t
inside-NonEmpty t = ap (λ k. inside_kind k) (sym (Y.rolls-NonEmpty t)) ∙ inside-rolls (O.NonEmpty t)

pub inside-Tuple : (ts : List (Node TypeKind)) → inside_kind (Y.Tuple ts) ≡ from_each types_within ts
inside-Tuple ts = (ap (λ k. inside_kind k) (sym (Y.rolls-Tuple ts)) ∙ inside-rolls (O.Tuple ts)) ∙ inside-each ts

pub inside-Map : (parts : List (Node MapPart)) → inside_kind (Y.Map parts) ≡ from_each (λ (part : Node MapPart). inside_map_part_kind part.kind) parts
inside-Map parts = (ap (λ k. inside_kind k) (sym (Y.rolls-Map parts)) ∙ inside-rolls (O.Map parts)) ∙ inside-parts parts

pub inside-FunAll : inside_kind Y.FunAll ≡ []
inside-FunAll = ap (λ k. inside_kind k) (sym Y.rolls-FunAll) ∙ inside-rolls O.FunAll

pub inside-Fun : (params : List (Node TypeKind)) (result : Node TypeKind) → inside_kind (Y.Fun params result) ≡ from_each types_within params ++ types_within result
inside-Fun params result = (ap (λ k. inside_kind k) (sym (Y.rolls-Fun params result)) ∙ inside-rolls (O.Fun params result)) ∙ ap (λ own. own ++ types_within result) (inside-each params)

pub inside-Rec : (name tag : Name) (fields : List (Node (Name × Node TypeKind))) → inside_kind (Y.Rec name tag fields) ≡ from_each (λ (field : Node (Name × Node TypeKind)). types_within field.kind.1) fields
inside-Rec name tag fields = (ap (λ k. inside_kind k) (sym (Y.rolls-Rec name tag fields)) ∙ inside-rolls (O.Rec name tag fields)) ∙ inside-fields fields

pub inside_part-of : (key : Node TypeKind) (required : Bool) (value : Node TypeKind) → inside_map_part_kind (map_part_of key required value) ≡ types_within key ++ types_within value
inside_part-of key required value = inside_part-rolls (record { key = key; required = required; value = value })

pub part-out : (key : Node TypeKind) (required : Bool) (value : Node TypeKind) → out-MapPart (map_part_of key required value) ≡ record { key = key; required = required; value = value }
part-out key required value = out-roll-MapPart (record { key = key; required = required; value = value })

pub ruleset inside_equations = (inside-Atom, inside-Int, inside-NegInt, inside-Char, inside-Var, inside-Paren, inside-Or, inside-Named, inside-Range, inside-Use, inside-Nil, inside-ListOf, inside-NonEmpty, inside-Tuple, inside-Map, inside-FunAll, inside-Fun, inside-Rec, inside_part-of, part-out, Y.outs-Atom, Y.outs-Int, Y.outs-NegInt, Y.outs-Char, Y.outs-Var, Y.outs-Paren, Y.outs-Or, Y.outs-Named, Y.outs-Range, Y.outs-Use, Y.outs-Nil, Y.outs-ListOf, Y.outs-NonEmpty, Y.outs-Tuple, Y.outs-Map, Y.outs-FunAll, Y.outs-Fun, Y.outs-Rec)
