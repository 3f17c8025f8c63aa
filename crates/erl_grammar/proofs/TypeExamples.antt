-- Small examples of types.
use Rattle.std.proofs.Common.{◌≡◌, refl, subst, ℕ, [], ◌∷◌, inl, arith}
use Rattle.std.specs.Prelude.{true, false, codes}
use Rattle.type_terms.specs.Keys.{Name}
use Rattle.erl_tree.specs.SmallText.{place}
use Rattle.erl_tree.specs.declared.token.Node.{Node}
use Rattle.erl_tree.specs.declared.type_expr.TypeKind.{TypeKind}
use Rattle.erl_tree.specs.declared.type_expr.TypeKind.TheVariants as Y
use Rattle.erl_grammar.specs.TypeSpelling.{type_tokens}
use Rattle.erl_grammar.specs.TypeNesting.{type_deep, IsTypeWithin}
use Rattle.erl_grammar.specs.TypeGrammar.{IsType, IsParameter, IsSimpleType, IsMapPart}
use Rattle.erl_grammar.specs.TypeGrammar as G
use Rattle.erl_grammar.specs.SmallTypes.{atom_type_at, named_at, union_right, union_left, union_tokens, union_named, named_in_union, union_named_tokens, named_alone, named_in_tuple, from_minus_one, from_minus_one_tokens, from_atom, some_atoms, some_atoms_tokens, list_of_atoms, fun_of_named, fun_of_named_tokens, fun_to_named, a_to_b, c_to_d, map_of_two, map_of_two_tokens, negation_of_atom, negation_of_atom_tokens, other_of_atom, negation_of_two}
use Rattle.erl_grammar.proofs.TypeSpellingLaws.{type_tokens_laws}
use Rattle.erl_grammar.proofs.TypeNestingLaws.{type_deep_laws}
use Rattle.erl_grammar.proofs.Layers.{each}
use Rattle.erl_grammar.proofs.TypeLayers.{end-layer, simple_type_layer, type_layer, parameter_layer, simple-type-layer, type-layer, parameter-layer}

-- ---- the parts of examples

simple-atom-formed : (a : Name) (column : ℕ) → IsSimpleType (atom_type_at a column)
simple-atom-formed a column = G.atom_type (place column) a

atom-type-formed : (a : Name) (column : ℕ) → IsType (atom_type_at a column)
atom-type-formed a column = G.one_type _ (simple-atom-formed a column)

-- `X :: T` is no type
named-not-formed : (x : Name) (column colons : ℕ) (t : Node TypeKind) → IsType (named_at x column colons t) → ⊥
named-not-formed x column colons t h = subst type_layer (Y.outs-Named x t) (type-layer (named_at x column colons t) h)

-- ---- unions and parameters

pub union-right-formed : IsType union_right
union-right-formed = G.union _ _ (place 3) (simple-atom-formed (codes "a") 1) (G.union _ _ (place 7) (simple-atom-formed (codes "b") 5) (atom-type-formed (codes "c") 9))

pub union-left-not-formed : IsType union_left → ⊥
union-left-not-formed h =
    let outer : _ = subst type_layer (Y.outs-Or _ _) (type-layer union_left h) in
    subst simple_type_layer (Y.outs-Or _ _) (simple-type-layer _ outer.0)

pub union-right-tokens : type_tokens union_right ≡ union_tokens
union-right-tokens = simp type_tokens_laws refl

pub union-left-tokens : type_tokens union_left ≡ union_tokens
union-left-tokens = simp type_tokens_laws refl

pub union-named-formed : IsParameter union_named
union-named-formed = G.named (place 1) (place 3) (codes "X") _ (G.union _ _ (place 8) (simple-atom-formed (codes "a") 6) (atom-type-formed (codes "b") 10))

pub named-in-union-not-formed : IsParameter named_in_union → ⊥
named-in-union-not-formed h =
    let outer : _ = subst parameter_layer (Y.outs-Or _ _) (parameter-layer named_in_union h) in
    subst simple_type_layer (Y.outs-Named _ _) (simple-type-layer _ outer.0)

pub union-named-tokens : type_tokens union_named ≡ union_named_tokens
union-named-tokens = simp type_tokens_laws refl

pub named-in-union-tokens : type_tokens named_in_union ≡ union_named_tokens
named-in-union-tokens = simp type_tokens_laws refl

pub named-alone-formed : IsParameter named_alone
named-alone-formed = G.named (place 1) (place 3) (codes "X") _ (atom-type-formed (codes "a") 6)

pub named-alone-no-type : IsType named_alone → ⊥
named-alone-no-type h = named-not-formed _ _ _ _ h

pub named-in-tuple-not-formed : IsType named_in_tuple → ⊥
named-in-tuple-not-formed h =
    let inside : _ = subst type_layer (Y.outs-Tuple _) (type-layer named_in_tuple h) in
    named-not-formed (codes "X") 2 4 (atom_type_at (codes "a") 7) (inside _ (inl refl))

-- ---- ranges and lists

pub from-minus-one-formed : IsType from_minus_one
from-minus-one-formed = G.one_type _ (G.range _ _ (place 3) (G.negative_end (place 1) (place 2) _) (G.integer_end (place 5) _))

pub from-minus-one-tokens : type_tokens from_minus_one ≡ from_minus_one_tokens
from-minus-one-tokens = simp type_tokens_laws refl

pub from-atom-not-formed : IsType from_atom → ⊥
from-atom-not-formed h =
    let ends : _ = subst type_layer (Y.outs-Range _ _) (type-layer from_atom h) in
    end-layer _ ends.0

pub some-atoms-formed : IsType some_atoms
some-atoms-formed = G.one_type _ (G.nonempty_list_type (place 1) (place 3) (place 5) (place 8) _ (atom-type-formed (codes "a") 2))

pub some-atoms-tokens : type_tokens some_atoms ≡ some_atoms_tokens
some-atoms-tokens = simp type_tokens_laws refl

-- ---- functions and maps

pub fun-of-named-formed : IsType fun_of_named
fun-of-named-formed =
    G.one_type _
    (G.fun_type (place 1) (place 4) (place 5) (place 12) (place 14) (place 18) [] _ _ (omega arith) tt
    (each IsParameter (named_at (codes "X") 6 8 (atom_type_at (codes "a") 11) ∷ []) (G.named (place 6) (place 8) (codes "X") _ (atom-type-formed (codes "a") 11), tt))
    (atom-type-formed (codes "b") 17))

pub fun-of-named-tokens : type_tokens fun_of_named ≡ fun_of_named_tokens
fun-of-named-tokens = simp type_tokens_laws refl

pub fun-to-named-not-formed : IsType fun_to_named → ⊥
fun-to-named-not-formed h = named-not-formed _ _ _ _ (subst type_layer (Y.outs-Fun _ _) (type-layer fun_to_named h))

pub map-of-two-formed : IsType map_of_two
map-of-two-formed =
    G.one_type _
    (G.map_type (place 1) (place 2) (place 17) (place 9 ∷ []) _ tt
    (each IsMapPart (a_to_b ∷ c_to_d ∷ [])
    (G.map_part _ _ (place 5) true (atom-type-formed (codes "a") 3) (atom-type-formed (codes "b") 8), (G.map_part _ _ (place 13) false (atom-type-formed (codes "c") 11) (atom-type-formed (codes "d") 16), tt))))

pub map-of-two-tokens : type_tokens map_of_two ≡ map_of_two_tokens
map-of-two-tokens = simp type_tokens_laws refl

-- ---- set operations

pub negation-of-atom-formed : IsType negation_of_atom
negation-of-atom-formed =
    G.one_type _
    (G.set_operation (place 1) (place 4) (place 5) (place 13) (place 15) [] (codes "negation") _ refl tt
    (each IsType (atom_type_at (codes "a") 14 ∷ []) (atom-type-formed (codes "a") 14, tt)))

pub negation-of-atom-tokens : type_tokens negation_of_atom ≡ negation_of_atom_tokens
negation-of-atom-tokens = simp type_tokens_laws refl

pub other-of-atom-not-formed : IsType other_of_atom → ⊥
other-of-atom-not-formed h = let wrong : false ≡ true = subst type_layer (Y.outs-Use _ _ _) (type-layer other_of_atom h) in absurd cc

pub negation-of-two-not-formed : IsType negation_of_two → ⊥
negation-of-two-not-formed h = let wrong : false ≡ true = subst type_layer (Y.outs-Use _ _ _) (type-layer negation_of_two h) in absurd cc

-- ---- nesting

pub list-of-atoms-formed : IsType list_of_atoms
list-of-atoms-formed = G.one_type _ (G.list_type (place 1) (place 3) _ (atom-type-formed (codes "a") 2))

atom-at-level-2 : type_deep list_of_atoms 1 ≡ place 2 ∷ []
atom-at-level-2 = simp type_deep_laws refl

pub within-2 : IsTypeWithin 2 list_of_atoms
within-2 = simp type_deep_laws refl

pub not-within-1 : IsTypeWithin 1 list_of_atoms → ⊥
not-within-1 h = let e = atom-at-level-2 in cc
