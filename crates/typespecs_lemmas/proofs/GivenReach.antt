-- The given definitions reach nothing, whatever definitions stand behind them.
use Rattle.std.proofs.Common.{◌≡◌, refl, sym, ap, subst, ◌∙◌, ℕ, zero, suc, ◌<◌, List, [], ◌∷◌, ◌++◌, map, arith}
use Rattle.std.specs.Prelude.{Option, Some, None as Nothing, slice_get}
use Rattle.std.specs.Option.{option_map}
use Rattle.type_terms.specs.declared.term.Def.{Def}
use Rattle.type_terms.specs.declared.term.Term.{Term, Nil, Cons, Var, Name}
use Rattle.type_terms.specs.Parts.{operands}
use Rattle.type_terms.specs.Definitions.{IsBarePart, Reaches, directly, by_way_of, list_definition, ends_definition, given_definitions}
use Rattle.type_terms.proofs.Contained.{contains-none}
use Rattle.type_terms.proofs.PartLaws.{kind_number, bare-step, each-of-two, operands-Nil, operands-Var, operands-Or, operands-Cons}
use Rattle.erl_tree.specs.declared.form.Module.{Module}
use Rattle.erl_runs.specs.Specs.{and_then, all_present, specs_in}
use Rattle.typespecs_rules.specs.declared.specs.Specs.{Specs}
use Rattle.typespecs_rules.specs.Declarations.{declarations_of}
use Rattle.typespecs_rules.specs.SpecTerms.{definitions, type_definition, record_definition, module_specs, function_specs}
use Rattle.typespecs_lemmas.proofs.FirstFault.{some-inj}

-- ---- on definitions that begin with those that are given

module _ (own : List Def) where
  abbrev all_defs : List Def
  all_defs = given_definitions ++ own

  -- no name stands bare in a given body
  abbrev NoName : Term → Type 0
  NoName p = kind_number p ≡ 16 → ⊥

  bare-leaf : (w : Term) → operands w ≡ [] → (kind_number w ≡ 16 → ⊥) → (p : Term) → IsBarePart all_defs p w → NoName p
  bare-leaf w e no_name = bare-step all_defs NoName w [] e no_name no_name (λ c k. absurd (contains-none c k))

  abbrev NoneBare : Term → Type 0
  NoneBare c = (p : Term) → IsBarePart all_defs p c → NoName p

  list-bare : NoneBare list_definition.body
  list-bare =
      bare-step all_defs NoName list_definition.body (Nil ∷ Cons (Var 0) (Name 0 (Var 0 ∷ [])) ∷ []) (operands-Or _) (λ e. omega arith) (λ e. omega arith)
      (each-of-two NoneBare Nil (Cons (Var 0) (Name 0 (Var 0 ∷ []))) (bare-leaf Nil operands-Nil (λ e. omega arith)) (bare-leaf (Cons (Var 0) (Name 0 (Var 0 ∷ []))) (operands-Cons _ _) (λ e. omega arith)))

  ends-bare : NoneBare ends_definition.body
  ends-bare =
      bare-step all_defs NoName ends_definition.body (Var 1 ∷ Cons (Var 0) (Name 1 (Var 0 ∷ Var 1 ∷ [])) ∷ []) (operands-Or _) (λ e. omega arith) (λ e. omega arith)
      (each-of-two NoneBare (Var 1) (Cons (Var 0) (Name 1 (Var 0 ∷ Var 1 ∷ []))) (bare-leaf (Var 1) (operands-Var 1) (λ e. omega arith)) (bare-leaf (Cons (Var 0) (Name 1 (Var 0 ∷ Var 1 ∷ []))) (operands-Cons _ _) (λ e. omega arith)))

  given-bare : (n : ℕ) (def : Def) → n < 2 → slice_get all_defs n ≡ Some def → NoneBare def.body
  given-bare zero def l e = subst (λ (d : Def). NoneBare d.body) (some-inj list_definition def e) list-bare
  given-bare (suc zero) def l e = subst (λ (d : Def). NoneBare d.body) (some-inj ends_definition def e) ends-bare
  given-bare (suc (suc n)) def l e = omega arith

  given-reach : (n m : ℕ) → n < 2 → Reaches all_defs n m → ⊥
  given-reach _ _ l (directly n m def args e b) = given-bare n def l e (Name m args) b refl
  given-reach _ _ l (by_way_of n k m r q) = given-reach n k l r

-- ---- the definitions of a module

pub mapped : {A B : Type 0} (f : A → B) (o : Option A) (b : B) → option_map f o ≡ Some b → (a : A) × (o ≡ Some a) × (f a ≡ b)
mapped f Nothing b e = absurd (cc)
mapped f (Some a) b e = (a, refl, some-inj (f a) b e)

pub both : {A B : Type 0} (o : Option A) (f : A → Option B) (b : B) → and_then o f ≡ Some b → (a : A) × (o ≡ Some a) × (f a ≡ Some b)
both Nothing f b e = absurd (cc)
both (Some a) f b e = (a, refl, e)

-- the definitions of a module are those that are given and its own
pub defs-are : (m : Module) (s : Specs) → module_specs m ≡ Some s → (own : List Def) × (all_present (map (type_definition (declarations_of m)) (declarations_of m).types ++ map (record_definition (declarations_of m)) (declarations_of m).records) ≡ Some own) × (s.defs ≡ given_definitions ++ own)
defs-are m s e =
    let a = both (definitions (declarations_of m)) _ s e in
    let b = mapped _ (function_specs (declarations_of m) (specs_in m.forms)) s a.2 in
    let c = mapped (λ own. given_definitions ++ own) _ a.0 a.1 in
    (c.0, c.1, ap (λ (x : Specs). x.defs) (sym b.2) ∙ sym c.2)

pub given-reach-nothing : (m : Module) (s : Specs) → module_specs m ≡ Some s → (n : ℕ) → n < 2 → Reaches s.defs n n → ⊥
given-reach-nothing m s e n l r =
    let d = defs-are m s e in
    given-reach d.0 n n l (subst (λ defs. Reaches defs n n) d.2 r)
