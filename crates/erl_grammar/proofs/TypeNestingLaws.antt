-- How deep types are nested: one equation for each form.
use Rattle.std.proofs.Common.{◌≡◌, refl, ap, sym, ◌∙◌, ℕ, suc, ℤ, List, [], ◌∷◌, ◌++◌}
use Rattle.std.specs.Prelude.{Option, Bool}
use Rattle.erl_tree.specs.declared.token.Node.{Node}
use Rattle.erl_tree.specs.declared.pattern.LiteralKind.{LiteralKind}
use Rattle.erl_tree.specs.declared.type_expr.TypeKind.{TypeKind, roll-TypeKind, map-TypeKind, fold-roll-TypeKind}
use Rattle.erl_tree.specs.declared.type_expr.TypeKind.TheVariants as Y
use Rattle.erl_tree.specs.declared.type_expr.TypeKind.TheOpen as O
use Rattle.erl_tree.specs.declared.type_expr.MapPart.{MapPart, roll-MapPart, map-MapPart, fold-roll-MapPart}
use Rattle.erl_grammar.specs.Nesting.{Deep, deep_node, deep_part, deep_all, deep_second}
use Rattle.erl_grammar.specs.TypeNesting.{deep_in_type, deep_in_map_part, type_kind_deep, map_part_kind_deep, type_deep, map_part_deep}
use Rattle.erl_grammar.specs.TypeGrammar.{map_part_of}
use Rattle.erl_grammar.proofs.NestingLaws.{deep_list, deep_fields}

-- ---- a node that counts as a level

pub type_deep-zero : (t : Node TypeKind) → type_deep t 0 ≡ t.place ∷ type_kind_deep t.kind 0
type_deep-zero t = refl

pub type_deep-suc : (t : Node TypeKind) (levels : ℕ) → type_deep t (suc levels) ≡ type_kind_deep t.kind levels
type_deep-suc t levels = refl

pub ruleset type_level_laws = (type_deep-zero, type_deep-suc)

-- ---- types

-- one level
pub type_rolled : (layer : O.TypeKind-F TypeKind MapPart) (levels : ℕ) → type_kind_deep (roll-TypeKind layer) levels ≡ deep_in_type (map-TypeKind TypeKind MapPart Deep Deep type_kind_deep map_part_kind_deep layer) levels
unfolding type_kind_deep map_part_kind_deep
type_rolled layer levels = ap (λ (f : Deep). f levels) (fold-roll-TypeKind Deep Deep deep_in_type deep_in_map_part layer)

-- one level
pub map_part_rolled : (layer : O.MapPart-F TypeKind MapPart) (levels : ℕ) → map_part_kind_deep (roll-MapPart layer) levels ≡ deep_in_map_part (map-MapPart TypeKind MapPart Deep Deep type_kind_deep map_part_kind_deep layer) levels
unfolding type_kind_deep map_part_kind_deep
map_part_rolled layer levels = ap (λ (f : Deep). f levels) (fold-roll-MapPart Deep Deep deep_in_type deep_in_map_part layer)

pub type_kind_deep-Atom : (a : List ℕ) (levels : ℕ) → type_kind_deep (Y.Atom a) levels ≡ []
type_kind_deep-Atom a levels = ap (λ k. type_kind_deep k levels) (sym (Y.rolls-Atom a)) ∙ type_rolled (O.Atom a) levels

pub type_kind_deep-Int : (n : ℤ) (levels : ℕ) → type_kind_deep (Y.Int n) levels ≡ []
type_kind_deep-Int n levels = ap (λ k. type_kind_deep k levels) (sym (Y.rolls-Int n)) ∙ type_rolled (O.Int n) levels

pub type_kind_deep-NegInt : (n : ℤ) (levels : ℕ) → type_kind_deep (Y.NegInt n) levels ≡ []
type_kind_deep-NegInt n levels = ap (λ k. type_kind_deep k levels) (sym (Y.rolls-NegInt n)) ∙ type_rolled (O.NegInt n) levels

pub type_kind_deep-Char : (c : ℕ) (levels : ℕ) → type_kind_deep (Y.Char c) levels ≡ []
type_kind_deep-Char c levels = ap (λ k. type_kind_deep k levels) (sym (Y.rolls-Char c)) ∙ type_rolled (O.Char c) levels

pub type_kind_deep-Var : (x : List ℕ) (levels : ℕ) → type_kind_deep (Y.Var x) levels ≡ []
type_kind_deep-Var x levels = ap (λ k. type_kind_deep k levels) (sym (Y.rolls-Var x)) ∙ type_rolled (O.Var x) levels

pub type_kind_deep-Paren : (t : Node TypeKind) (levels : ℕ) → type_kind_deep (Y.Paren t) levels ≡ type_deep t levels
type_kind_deep-Paren t levels = ap (λ k. type_kind_deep k levels) (sym (Y.rolls-Paren t)) ∙ type_rolled (O.Paren t) levels

pub type_kind_deep-Or : (t u : Node TypeKind) (levels : ℕ) → type_kind_deep (Y.Or t u) levels ≡ type_deep t levels ++ type_deep u levels
type_kind_deep-Or t u levels = ap (λ k. type_kind_deep k levels) (sym (Y.rolls-Or t u)) ∙ type_rolled (O.Or t u) levels

pub type_kind_deep-Named : (x : List ℕ) (t : Node TypeKind) (levels : ℕ) → type_kind_deep (Y.Named x t) levels ≡ type_deep t levels
type_kind_deep-Named x t levels = ap (λ k. type_kind_deep k levels) (sym (Y.rolls-Named x t)) ∙ type_rolled (O.Named x t) levels

pub type_kind_deep-Range : (low high : Node LiteralKind) (levels : ℕ) → type_kind_deep (Y.Range low high) levels ≡ []
type_kind_deep-Range low high levels = ap (λ k. type_kind_deep k levels) (sym (Y.rolls-Range low high)) ∙ type_rolled (O.Range low high) levels

pub type_kind_deep-Use : (prefix : Option (List ℕ)) (name : List ℕ) (args : List (Node TypeKind)) (levels : ℕ) → type_kind_deep (Y.Use prefix name args) levels ≡ deep_all type_deep args levels
type_kind_deep-Use prefix name args levels = ap (λ k. type_kind_deep k levels) (sym (Y.rolls-Use prefix name args)) ∙ (type_rolled (O.Use prefix name args) levels ∙ deep_list type_kind_deep deep_node args levels)

pub type_kind_deep-Nil : (levels : ℕ) → type_kind_deep Y.Nil levels ≡ []
type_kind_deep-Nil levels = ap (λ k. type_kind_deep k levels) (sym Y.rolls-Nil) ∙ type_rolled O.Nil levels

pub type_kind_deep-ListOf : (t : Node TypeKind) (levels : ℕ) → type_kind_deep (Y.ListOf t) levels ≡ type_deep t levels
type_kind_deep-ListOf t levels = ap (λ k. type_kind_deep k levels) (sym (Y.rolls-ListOf t)) ∙ type_rolled (O.ListOf t) levels

pub type_kind_deep-NonEmpty : (t : Node TypeKind) (levels : ℕ) → type_kind_deep (Y.NonEmpty t) levels ≡ type_deep t levels
type_kind_deep-NonEmpty t levels = ap (λ k. type_kind_deep k levels) (sym (Y.rolls-NonEmpty t)) ∙ type_rolled (O.NonEmpty t) levels

pub type_kind_deep-Tuple : (ts : List (Node TypeKind)) (levels : ℕ) → type_kind_deep (Y.Tuple ts) levels ≡ deep_all type_deep ts levels
type_kind_deep-Tuple ts levels = ap (λ k. type_kind_deep k levels) (sym (Y.rolls-Tuple ts)) ∙ (type_rolled (O.Tuple ts) levels ∙ deep_list type_kind_deep deep_node ts levels)

pub type_kind_deep-Map : (parts : List (Node MapPart)) (levels : ℕ) → type_kind_deep (Y.Map parts) levels ≡ deep_all map_part_deep parts levels
type_kind_deep-Map parts levels = ap (λ k. type_kind_deep k levels) (sym (Y.rolls-Map parts)) ∙ (type_rolled (O.Map parts) levels ∙ deep_list map_part_kind_deep deep_part parts levels)

pub type_kind_deep-FunAll : (levels : ℕ) → type_kind_deep Y.FunAll levels ≡ []
type_kind_deep-FunAll levels = ap (λ k. type_kind_deep k levels) (sym Y.rolls-FunAll) ∙ type_rolled O.FunAll levels

pub type_kind_deep-Fun : (params : List (Node TypeKind)) (result : Node TypeKind) (levels : ℕ) → type_kind_deep (Y.Fun params result) levels ≡ deep_all type_deep params levels ++ type_deep result levels
type_kind_deep-Fun params result levels = ap (λ k. type_kind_deep k levels) (sym (Y.rolls-Fun params result)) ∙ (type_rolled (O.Fun params result) levels ∙ ap (λ ps. ps ++ type_deep result levels) (deep_list type_kind_deep deep_node params levels))

pub type_kind_deep-Rec : (name tag : List ℕ) (fields : List (Node (List ℕ × Node TypeKind))) (levels : ℕ) → type_kind_deep (Y.Rec name tag fields) levels ≡ deep_all (deep_second type_deep) fields levels
type_kind_deep-Rec name tag fields levels = ap (λ k. type_kind_deep k levels) (sym (Y.rolls-Rec name tag fields)) ∙ (type_rolled (O.Rec name tag fields) levels ∙ deep_fields type_kind_deep fields levels)

-- ---- parts of map types

pub map_part_kind_deep-map_part_of : (key : Node TypeKind) (required : Bool) (value : Node TypeKind) (levels : ℕ) → map_part_kind_deep (map_part_of key required value) levels ≡ type_deep key levels ++ type_deep value levels
map_part_kind_deep-map_part_of key required value levels = map_part_rolled (record { key = key; required = required; value = value }) levels

pub ruleset type_deep_laws = (type_kind_deep-Atom, type_kind_deep-Int, type_kind_deep-NegInt, type_kind_deep-Char, type_kind_deep-Var, type_kind_deep-Paren, type_kind_deep-Or, type_kind_deep-Named, type_kind_deep-Range, type_kind_deep-Use, type_kind_deep-Nil, type_kind_deep-ListOf, type_kind_deep-NonEmpty, type_kind_deep-Tuple, type_kind_deep-Map, type_kind_deep-FunAll, type_kind_deep-Fun, type_kind_deep-Rec, map_part_kind_deep-map_part_of)
