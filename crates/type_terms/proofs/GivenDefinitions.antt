-- The given definitions are definitions, and small examples of definitions, signs and instances.
use Rattle.std.proofs.Common.{◌≡◌, refl, ◌∙◌, ap, subst, ℕ, ◌<◌, List, [], ◌∷◌, length, true, arith}
use Rattle.std.specs.Prelude.{Option, Some, slice_get}
use Rattle.std.specs.List.{Contains}
use Rattle.type_terms.specs.declared.term.Def.{Def}
use Rattle.type_terms.specs.declared.term.Field.{Field}
use Rattle.type_terms.specs.declared.term.Term.{Term, Nil, Cons, Map, Var, Name}
use Rattle.type_terms.specs.Keys.{ascending}
use Rattle.type_terms.specs.Parts.{children, operands, IsPart, field_keys}
use Rattle.type_terms.specs.Definitions.{IsBarePart, Reaches, directly, by_way_of, AreDefinitions, list_definition, ends_definition, given_definitions}
use Rattle.type_terms.proofs.Contained.{contains-none}
use Rattle.type_terms.proofs.PartLaws.{kind_number, each-part, bare-step, each-of-one, each-of-two, contains-at, var-number, name-number, name-arguments, children-Nil, operands-Nil, children-Var, operands-Var, children-Or, operands-Or, children-Cons, operands-Cons, children-Name}

-- what definitions ask of a part of a body: its name is defined, its variable is a parameter, its fields ascend
abbrev pub FitPart : List Def → ℕ → Term → Type 0
FitPart defs params p =
    ((n : ℕ) (args : List Term) → p ≡ Name n args → (def : Def) × (slice_get defs n ≡ Some def) × (def.params ≡ length args))
    × ((i : ℕ) → p ≡ Var i → i < params)
    × ((fields : List Field) (rest_int rest_atom : Option Term) → p ≡ Map fields rest_int rest_atom → ascending (field_keys fields) ≡ true)

pub fit-plain : (defs : List Def) (params : ℕ) (p : Term) → (kind_number p ≡ 16 → ⊥) → (kind_number p ≡ 15 → ⊥) → (kind_number p ≡ 9 → ⊥) → FitPart defs params p
fit-plain defs params p no_name no_var no_map = ((λ n args e. absurd (no_name (ap kind_number e))), (λ i e. absurd (no_var (ap kind_number e))), (λ fields rest_int rest_atom e. absurd (no_map (ap kind_number e))))

pub fit-Var : (defs : List Def) (params j : ℕ) → j < params → FitPart defs params (Var j)
fit-Var defs params j l = ((λ n args e. let f : 15 ≡ 16 = ap kind_number e in absurd (omega arith)), (λ i e. subst (λ m. m < params) (var-number j i e) l), (λ fields rest_int rest_atom e. let f : 15 ≡ 9 = ap kind_number e in absurd (omega arith)))

pub fit-Name : (defs : List Def) (params n : ℕ) (args : List Term) (def : Def) → slice_get defs n ≡ Some def → def.params ≡ length args → FitPart defs params (Name n args)
fit-Name defs params n args def g q = (
  (λ m bs e. (def, subst (λ x. slice_get defs x ≡ Some def) (name-number n m args bs e) g, q ∙ ap length (name-arguments n m args bs e))),
  (λ i e. let f : 16 ≡ 15 = ap kind_number e in absurd (omega arith)),
  (λ fields rest_int rest_atom e. let f : 16 ≡ 9 = ap kind_number e in absurd (omega arith)),
)

module _ (defs : List Def) (params : ℕ) where
  Fit : Term → Type 0
  Fit p = FitPart defs params p

  pub fit-leaf : (w : Term) → children w ≡ [] → FitPart defs params w → (p : Term) → IsPart p w → FitPart defs params p
  fit-leaf w e q = each-part (λ p. FitPart defs params p) w [] e q (λ c k. absurd (contains-none c k))

  fit-variable : (j : ℕ) → j < params → (p : Term) → IsPart p (Var j) → FitPart defs params p
  fit-variable j l = fit-leaf (Var j) (children-Var j) (fit-Var defs params j l)

list-fits : (p : Term) → IsPart p list_definition.body → FitPart given_definitions 1 p
list-fits =
    each-part Q list_definition.body (Nil ∷ Cons (Var 0) (Name 0 (Var 0 ∷ [])) ∷ []) (children-Or _) (fit-plain given_definitions 1 _ (λ e. omega arith) (λ e. omega arith) (λ e. omega arith))
    (each-of-two R Nil (Cons (Var 0) (Name 0 (Var 0 ∷ [])))
    (fit-leaf given_definitions 1 Nil children-Nil (fit-plain given_definitions 1 _ (λ e. omega arith) (λ e. omega arith) (λ e. omega arith)))
    (each-part Q (Cons (Var 0) (Name 0 (Var 0 ∷ []))) (Var 0 ∷ Name 0 (Var 0 ∷ []) ∷ []) (children-Cons _ _) (fit-plain given_definitions 1 _ (λ e. omega arith) (λ e. omega arith) (λ e. omega arith))
    (each-of-two R (Var 0) (Name 0 (Var 0 ∷ []))
    (fit-variable given_definitions 1 0 (omega arith))
    (each-part Q (Name 0 (Var 0 ∷ [])) (Var 0 ∷ []) (children-Name _ _) (fit-Name given_definitions 1 0 (Var 0 ∷ []) list_definition refl refl)
    (each-of-one R (Var 0) (fit-variable given_definitions 1 0 (omega arith)))))))
  where
    Q : Term → Type 0
    Q p = FitPart given_definitions 1 p

    R : Term → Type 0
    R c = (p : Term) → IsPart p c → FitPart given_definitions 1 p

ends-fits : (p : Term) → IsPart p ends_definition.body → FitPart given_definitions 2 p
ends-fits =
    each-part Q ends_definition.body (Var 1 ∷ Cons (Var 0) (Name 1 (Var 0 ∷ Var 1 ∷ [])) ∷ []) (children-Or _) (fit-plain given_definitions 2 _ (λ e. omega arith) (λ e. omega arith) (λ e. omega arith))
    (each-of-two R (Var 1) (Cons (Var 0) (Name 1 (Var 0 ∷ Var 1 ∷ [])))
    (fit-variable given_definitions 2 1 (omega arith))
    (each-part Q (Cons (Var 0) (Name 1 (Var 0 ∷ Var 1 ∷ []))) (Var 0 ∷ Name 1 (Var 0 ∷ Var 1 ∷ []) ∷ []) (children-Cons _ _) (fit-plain given_definitions 2 _ (λ e. omega arith) (λ e. omega arith) (λ e. omega arith))
    (each-of-two R (Var 0) (Name 1 (Var 0 ∷ Var 1 ∷ []))
    (fit-variable given_definitions 2 0 (omega arith))
    (each-part Q (Name 1 (Var 0 ∷ Var 1 ∷ [])) (Var 0 ∷ Var 1 ∷ []) (children-Name _ _) (fit-Name given_definitions 2 1 (Var 0 ∷ Var 1 ∷ []) ends_definition refl refl)
    (each-of-two R (Var 0) (Var 1) (fit-variable given_definitions 2 0 (omega arith)) (fit-variable given_definitions 2 1 (omega arith)))))))
  where
    Q : Term → Type 0
    Q p = FitPart given_definitions 2 p

    R : Term → Type 0
    R c = (p : Term) → IsPart p c → FitPart given_definitions 2 p

given-fits : (def : Def) → Contains given_definitions def → (p : Term) → IsPart p def.body → FitPart given_definitions def.params p
given-fits = each-of-two (λ def. (p : Term) → IsPart p def.body → FitPart given_definitions def.params p) list_definition ends_definition list-fits ends-fits

-- no name stands bare in a given body
abbrev NoName : Term → Type 0
NoName p = kind_number p ≡ 16 → ⊥

bare-leaf : (w : Term) → operands w ≡ [] → (kind_number w ≡ 16 → ⊥) → (p : Term) → IsBarePart given_definitions p w → NoName p
bare-leaf w e no_name = bare-step given_definitions NoName w [] e no_name no_name (λ c k. absurd (contains-none c k))

given-bare : (def : Def) → Contains given_definitions def → (p : Term) → IsBarePart given_definitions p def.body → NoName p
given-bare = each-of-two R list_definition ends_definition
    (bare-step given_definitions NoName list_definition.body (Nil ∷ Cons (Var 0) (Name 0 (Var 0 ∷ [])) ∷ []) (operands-Or _) (λ e. omega arith) (λ e. omega arith)
    (each-of-two S Nil (Cons (Var 0) (Name 0 (Var 0 ∷ []))) (bare-leaf Nil operands-Nil (λ e. omega arith)) (bare-leaf (Cons (Var 0) (Name 0 (Var 0 ∷ []))) (operands-Cons _ _) (λ e. omega arith))))
    (bare-step given_definitions NoName ends_definition.body (Var 1 ∷ Cons (Var 0) (Name 1 (Var 0 ∷ Var 1 ∷ [])) ∷ []) (operands-Or _) (λ e. omega arith) (λ e. omega arith)
    (each-of-two S (Var 1) (Cons (Var 0) (Name 1 (Var 0 ∷ Var 1 ∷ []))) (bare-leaf (Var 1) (operands-Var 1) (λ e. omega arith)) (bare-leaf (Cons (Var 0) (Name 1 (Var 0 ∷ Var 1 ∷ []))) (operands-Cons _ _) (λ e. omega arith))))
  where
    R : Def → Type 0
    R def = (p : Term) → IsBarePart given_definitions p def.body → kind_number p ≡ 16 → ⊥

    S : Term → Type 0
    S c = (p : Term) → IsBarePart given_definitions p c → kind_number p ≡ 16 → ⊥

given-reaches : (n m : ℕ) → Reaches given_definitions n m → ⊥
given-reaches _ _ (directly n m def args e b) = given-bare def (contains-at given_definitions n def e) (Name m args) b refl
given-reaches _ _ (by_way_of n l m r q) = given-reaches n l r

pub given : AreDefinitions given_definitions
given = record {
  contractive = λ n. given-reaches n n;
  names_defined = λ def c n args part. (given-fits def c (Name n args) part).0 n args refl;
  own_variables = λ def c i part. (given-fits def c (Var i) part).1 i refl;
  fields_ascend = λ def c fields rest_int rest_atom part. (given-fits def c (Map fields rest_int rest_atom) part).2 fields rest_int rest_atom refl;
}
