-- The tokens of types: one equation for each form.
use Rattle.std.proofs.Common.{◌≡◌, refl, ap, sym, ◌∙◌, ℕ, ℤ, List, [], ◌∷◌, ◌++◌, map}
use Rattle.std.specs.Prelude.{Option, Bool, codes}
use Rattle.erl_tree.specs.declared.token.Place.{Place}
use Rattle.erl_tree.specs.declared.token.Node.{Node}
use Rattle.erl_tree.specs.declared.token.Token.TheVariants as T
use Rattle.erl_tree.specs.declared.pattern.LiteralKind.{LiteralKind}
use Rattle.erl_tree.specs.declared.expr.ExprKind.TheShapes as S
use Rattle.erl_tree.specs.declared.type_expr.TypeKind.{TypeKind, roll-TypeKind, map-TypeKind, fold-roll-TypeKind}
use Rattle.erl_tree.specs.declared.type_expr.TypeKind.TheVariants as Y
use Rattle.erl_tree.specs.declared.type_expr.TypeKind.TheOpen as O
use Rattle.erl_tree.specs.declared.type_expr.MapPart.{MapPart, fold-roll-MapPart}
use Rattle.erl_grammar.specs.Pieces.{own, inner, fill, mark, word, name, commas}
use Rattle.erl_grammar.specs.Spelling.{Shown, shown, literal_tokens, map_pieces, record_pieces, prefix_pieces, argument_pieces, association_text}
use Rattle.erl_grammar.specs.TypeSpelling.{annotated_field_tokens, type_pieces, map_part_pieces, type_shown, map_part_shown, type_tokens, map_part_tokens, type_field_tokens}
use Rattle.erl_grammar.specs.TypeGrammar.{map_part_of}
use Rattle.erl_grammar.proofs.SpellingLaws.{shown_list}

-- ---- fields, each with what is said of its kind put in place of the kind

shown_typed_fields : {A : Type 0} (say : A → Shown) (ns : List (Node (List ℕ × Node A))) → map (annotated_field_tokens shown) (S.former-ExprKind-RecNew-2.map A Shown say ns) ≡ map (annotated_field_tokens (λ (n : Node A). say n.kind n.marks)) ns
shown_typed_fields say [] = refl
shown_typed_fields say (n ∷ ns) = ap (λ ts. annotated_field_tokens (λ t. say t.kind t.marks) n ∷ ts) (shown_typed_fields say ns)

-- ---- types

-- one level
type_rolled : (layer : O.TypeKind-F TypeKind MapPart) (ms : List Place) → type_shown (roll-TypeKind layer) ms ≡ fill (type_pieces (map-TypeKind TypeKind MapPart Shown Shown type_shown map_part_shown layer)) ms
unfolding type_shown map_part_shown
type_rolled layer ms = ap (λ (f : Shown). f ms) (fold-roll-TypeKind Shown Shown (λ l. fill (type_pieces l)) (λ l. fill (map_part_pieces l)) layer)

pub type_shown-Atom : (a : List ℕ) (ms : List Place) → type_shown (Y.Atom a) ms ≡ fill (name a ∷ []) ms
type_shown-Atom a ms = ap (λ k. type_shown k ms) (sym (Y.rolls-Atom a)) ∙ type_rolled (O.Atom a) ms

pub type_shown-Int : (n : ℤ) (ms : List Place) → type_shown (Y.Int n) ms ≡ fill (own (T.Int n) ∷ []) ms
type_shown-Int n ms = ap (λ k. type_shown k ms) (sym (Y.rolls-Int n)) ∙ type_rolled (O.Int n) ms

pub type_shown-NegInt : (n : ℤ) (ms : List Place) → type_shown (Y.NegInt n) ms ≡ fill (mark (codes "-") ∷ own (T.Int n) ∷ []) ms
type_shown-NegInt n ms = ap (λ k. type_shown k ms) (sym (Y.rolls-NegInt n)) ∙ type_rolled (O.NegInt n) ms

pub type_shown-Char : (c : ℕ) (ms : List Place) → type_shown (Y.Char c) ms ≡ fill (own (T.Char c) ∷ []) ms
type_shown-Char c ms = ap (λ k. type_shown k ms) (sym (Y.rolls-Char c)) ∙ type_rolled (O.Char c) ms

pub type_shown-Var : (x : List ℕ) (ms : List Place) → type_shown (Y.Var x) ms ≡ fill (own (T.Var x) ∷ []) ms
type_shown-Var x ms = ap (λ k. type_shown k ms) (sym (Y.rolls-Var x)) ∙ type_rolled (O.Var x) ms

pub type_shown-Paren : (t : Node TypeKind) (ms : List Place) → type_shown (Y.Paren t) ms ≡ fill (mark (codes "(") ∷ inner (type_tokens t) ∷ mark (codes ")") ∷ []) ms
type_shown-Paren t ms = ap (λ k. type_shown k ms) (sym (Y.rolls-Paren t)) ∙ type_rolled (O.Paren t) ms

pub type_shown-Or : (t u : Node TypeKind) (ms : List Place) → type_shown (Y.Or t u) ms ≡ fill (inner (type_tokens t) ∷ mark (codes "|") ∷ inner (type_tokens u) ∷ []) ms
type_shown-Or t u ms = ap (λ k. type_shown k ms) (sym (Y.rolls-Or t u)) ∙ type_rolled (O.Or t u) ms

pub type_shown-Named : (x : List ℕ) (t : Node TypeKind) (ms : List Place) → type_shown (Y.Named x t) ms ≡ fill (own (T.Var x) ∷ mark (codes "::") ∷ inner (type_tokens t) ∷ []) ms
type_shown-Named x t ms = ap (λ k. type_shown k ms) (sym (Y.rolls-Named x t)) ∙ type_rolled (O.Named x t) ms

pub type_shown-Range : (low high : Node LiteralKind) (ms : List Place) → type_shown (Y.Range low high) ms ≡ fill (inner (literal_tokens low) ∷ mark (codes "..") ∷ inner (literal_tokens high) ∷ []) ms
type_shown-Range low high ms = ap (λ k. type_shown k ms) (sym (Y.rolls-Range low high)) ∙ type_rolled (O.Range low high) ms

pub type_shown-Use : (prefix : Option (List ℕ)) (used : List ℕ) (args : List (Node TypeKind)) (ms : List Place) → type_shown (Y.Use prefix used args) ms ≡ fill (prefix_pieces prefix ++ name used ∷ argument_pieces (map type_tokens args)) ms
type_shown-Use prefix used args ms = ap (λ k. type_shown k ms) (sym (Y.rolls-Use prefix used args)) ∙ (type_rolled (O.Use prefix used args) ms ∙ ap (λ ts. fill (prefix_pieces prefix ++ name used ∷ argument_pieces ts) ms) (shown_list type_shown args))

pub type_shown-Nil : (ms : List Place) → type_shown Y.Nil ms ≡ fill (mark (codes "[") ∷ mark (codes "]") ∷ []) ms
type_shown-Nil ms = ap (λ k. type_shown k ms) (sym Y.rolls-Nil) ∙ type_rolled O.Nil ms

pub type_shown-ListOf : (t : Node TypeKind) (ms : List Place) → type_shown (Y.ListOf t) ms ≡ fill (mark (codes "[") ∷ inner (type_tokens t) ∷ mark (codes "]") ∷ []) ms
type_shown-ListOf t ms = ap (λ k. type_shown k ms) (sym (Y.rolls-ListOf t)) ∙ type_rolled (O.ListOf t) ms

pub type_shown-NonEmpty : (t : Node TypeKind) (ms : List Place) → type_shown (Y.NonEmpty t) ms ≡ fill (mark (codes "[") ∷ inner (type_tokens t) ∷ mark (codes ",") ∷ mark (codes "...") ∷ mark (codes "]") ∷ []) ms
type_shown-NonEmpty t ms = ap (λ k. type_shown k ms) (sym (Y.rolls-NonEmpty t)) ∙ type_rolled (O.NonEmpty t) ms

pub type_shown-Tuple : (ts : List (Node TypeKind)) (ms : List Place) → type_shown (Y.Tuple ts) ms ≡ fill (mark (codes "{") ∷ (commas (map type_tokens ts) ++ mark (codes "}") ∷ [])) ms
type_shown-Tuple ts ms = ap (λ k. type_shown k ms) (sym (Y.rolls-Tuple ts)) ∙ (type_rolled (O.Tuple ts) ms ∙ ap (λ us. fill (mark (codes "{") ∷ (commas us ++ mark (codes "}") ∷ [])) ms) (shown_list type_shown ts))

pub type_shown-Map : (parts : List (Node MapPart)) (ms : List Place) → type_shown (Y.Map parts) ms ≡ fill (map_pieces (map map_part_tokens parts)) ms
type_shown-Map parts ms = ap (λ k. type_shown k ms) (sym (Y.rolls-Map parts)) ∙ (type_rolled (O.Map parts) ms ∙ ap (λ ts. fill (map_pieces ts) ms) (shown_list map_part_shown parts))

pub type_shown-FunAll : (ms : List Place) → type_shown Y.FunAll ms ≡ fill (word (codes "fun") ∷ mark (codes "(") ∷ mark (codes ")") ∷ []) ms
type_shown-FunAll ms = ap (λ k. type_shown k ms) (sym Y.rolls-FunAll) ∙ type_rolled O.FunAll ms

pub type_shown-Fun : (params : List (Node TypeKind)) (result : Node TypeKind) (ms : List Place) → type_shown (Y.Fun params result) ms ≡ fill (word (codes "fun") ∷ mark (codes "(") ∷ (argument_pieces (map type_tokens params) ++ mark (codes "->") ∷ inner (type_tokens result) ∷ mark (codes ")") ∷ [])) ms
type_shown-Fun params result ms = ap (λ k. type_shown k ms) (sym (Y.rolls-Fun params result)) ∙ (type_rolled (O.Fun params result) ms ∙ ap (λ ts. fill (word (codes "fun") ∷ mark (codes "(") ∷ (argument_pieces ts ++ mark (codes "->") ∷ inner (type_tokens result) ∷ mark (codes ")") ∷ [])) ms) (shown_list type_shown params))

pub type_shown-Rec : (record_name tag : List ℕ) (fields : List (Node (List ℕ × Node TypeKind))) (ms : List Place) → type_shown (Y.Rec record_name tag fields) ms ≡ fill (record_pieces record_name (map type_field_tokens fields)) ms
type_shown-Rec record_name tag fields ms = ap (λ k. type_shown k ms) (sym (Y.rolls-Rec record_name tag fields)) ∙ (type_rolled (O.Rec record_name tag fields) ms ∙ ap (λ ts. fill (record_pieces record_name ts) ms) (shown_typed_fields type_shown fields))

-- ---- parts of map types

pub map_part_shown-map_part_of : (key : Node TypeKind) (required : Bool) (value : Node TypeKind) (ms : List Place) → map_part_shown (map_part_of key required value) ms ≡ fill (inner (type_tokens key) ∷ mark (association_text required) ∷ inner (type_tokens value) ∷ []) ms
unfolding type_shown map_part_shown
map_part_shown-map_part_of key required value ms = ap (λ (f : Shown). f ms) (fold-roll-MapPart Shown Shown (λ l. fill (type_pieces l)) (λ l. fill (map_part_pieces l)) (record { key = key; required = required; value = value }))

pub ruleset type_tokens_laws = (type_shown-Atom, type_shown-Int, type_shown-NegInt, type_shown-Char, type_shown-Var, type_shown-Paren, type_shown-Or, type_shown-Named, type_shown-Range, type_shown-Use, type_shown-Nil, type_shown-ListOf, type_shown-NonEmpty, type_shown-Tuple, type_shown-Map, type_shown-FunAll, type_shown-Fun, type_shown-Rec, map_part_shown-map_part_of)
