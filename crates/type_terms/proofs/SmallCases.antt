-- Small examples of definitions, signs and instances.
use Rattle.std.proofs.Common.{◌≡◌, refl, sym, ◌∙◌, ap, subst, ℕ, zero, suc, List, [], ◌∷◌, Bool, true, false, not, ◌⊎◌, inl, inr, ⊎_elim, arith}
use Rattle.std.proofs.lemmas.Bool.{false≢true}
use Rattle.std.specs.Prelude.{Option, Some, None as Nothing, slice_get, ℤ}
use Rattle.std.specs.List.{Contains}
use Rattle.type_terms.specs.declared.term.Def.{Def}
use Rattle.type_terms.specs.declared.term.Field.{Field}
use Rattle.type_terms.specs.declared.term.Term.{Term, Any, Ints, Cons, Map, Fun, AnyFun, Not, Var, Name}
use Rattle.type_terms.specs.declared.term.Term.TheBlock.{shape-the_row-Term-0, hidden-the_row-Term-0, shape-the_row-Term-1, hidden-the_row-Term-1}
use denote.Hole.Carrier.{hidden}
use Rattle.type_terms.specs.Keys.{ascending}
use Rattle.type_terms.specs.Parts.{children, operands, positive_children, layer_children, layer_operands, layer_positive_children, IsPart, field_keys}
use Rattle.type_terms.specs.Definitions.{IsBarePart, itself, in_operand, in_argument, IsOpenIn, open_in, Reaches, directly, by_way_of, IsContractive, NamesAreDefined, FieldsAscend, AreDefinitions}
use Rattle.type_terms.specs.Signs.{StandsUnder, itself as stands_itself, in_not, in_body, IsWellSigned}
use Rattle.type_terms.specs.Instances.{no_variables, variable_and, IsInstance}
use Rattle.type_terms.specs.declared.term.Term.TheViews as Views
use Rattle.type_terms.proofs.Contained.{contains-none}
use Rattle.type_terms.proofs.PartLaws.{kind_number, each-part, bare-step, under-step, under-Not, each-of-one, name-number, children-Ints, positive_children-Ints, children-Not, operands-Cons}

-- contractive definitions
self : List Def
self = record { params = 0; body = Name 0 [] } ∷ []

pub own-name : IsContractive (record { params = 0; body = Name 0 [] } ∷ []) → ⊥
own-name h = h 0 (directly 0 0 (record { params = 0; body = Name 0 [] }) [] refl (itself (Name 0 [])))

abbrev pub open_defs : List Def
open_defs = record { params = 1; body = Var 0 } ∷ record { params = 0; body = Name 0 (Name 1 [] ∷ []) } ∷ []

pub reaches-itself : Reaches open_defs 1 1
reaches-itself = directly 1 1 (record { params = 0; body = Name 0 (Name 1 [] ∷ []) }) [] refl
    (in_argument (Name 1 []) (Name 1 []) (Name 0 (Name 1 [] ∷ [])) 0 0 (Name 1 [] ∷ []) refl refl (open_in 0 0 (record { params = 1; body = Var 0 }) refl (itself (Var 0))) (itself (Name 1 [])))

pub open-argument : IsContractive open_defs → ⊥
open-argument h = h 1 reaches-itself

abbrev closed_defs : List Def
closed_defs = record { params = 1; body = Cons (Var 0) (Var 0) } ∷ record { params = 0; body = Name 0 (Name 1 [] ∷ []) } ∷ []

numbers-apart : {A : Type 0} (a b c d : ℕ) → a ≡ c → b ≡ d → a ≡ b → (c ≡ d → ⊥) → A
numbers-apart a b c d p q e h = absurd (h (sym p ∙ (e ∙ q)))

-- only the cell itself stands bare in a cell
cell-bare : (p : Term) → IsBarePart closed_defs p (Cons (Var 0) (Var 0)) → kind_number p ≡ 6
cell-bare = bare-step closed_defs (λ p. kind_number p ≡ 6) (Cons (Var 0) (Var 0)) [] (operands-Cons _ _) (λ e. omega arith) refl (λ c k. absurd (contains-none c k))

not-open : (j : ℕ) → IsOpenIn closed_defs 0 j → ⊥
not-open j o = go 0 j o refl
  where
    cell : Def
    cell = record { params = 1; body = Cons (Var 0) (Var 0) }

    some_inj : (def : Def) → Some cell ≡ Some def → def ≡ cell
    some_inj def e = cc

    six : (i : ℕ) (x : ℕ) → x ≡ 15 → x ≡ 6 → ⊥
    six i x e f = omega arith

    go : (n i : ℕ) → IsOpenIn closed_defs n i → n ≡ 0 → ⊥
    go _ _ (open_in n i def e b) q =
        let d : def ≡ cell = some_inj def (sym (ap (slice_get closed_defs) q) ∙ e) in
        six i (kind_number (Var i)) refl (cell-bare (Var i) (subst (λ x. IsBarePart closed_defs (Var i) x.body) d b))

operands-Name : (n : ℕ) (args : List Term) → operands (Name n args) ≡ []
operands-Name n args = ap layer_operands (Views.outs-Name n args)

-- of a name whose definition is open in no parameter only the name itself stands bare
pub bare-Name : (defs : List Def) (n : ℕ) (args : List Term) → ((j : ℕ) → IsOpenIn defs n j → ⊥) → (p w : Term) → IsBarePart defs p w → w ≡ Name n args → p ≡ w
bare-Name defs n args h _ _ (itself t) e = refl
bare-Name defs n args h _ _ (in_operand p o w c b) e = absurd (contains-none o (subst (λ l. Contains l o) (ap operands e ∙ operands-Name n args) c))
bare-Name defs n args h _ _ (in_argument p a w m j bs e' g o b) e = absurd (h j (subst (λ x. IsOpenIn defs x j) (name-number m n bs args (sym e' ∙ e)) o))

closed-reaches : (n m : ℕ) → Reaches closed_defs n m → (n ≡ 1) × (m ≡ 0)
closed-reaches _ _ (directly n m def args e b) = go n e
  where
    some_inj : (d : Def) → Some d ≡ Some def → def ≡ d
    some_inj d q = cc

    six : (x : ℕ) → x ≡ 16 → x ≡ 6 → ⊥
    six x p q = omega arith

    go : (n' : ℕ) → slice_get closed_defs n' ≡ Some def → (n' ≡ 1) × (m ≡ 0)
    go zero q = absurd (six (kind_number (Name m args)) refl (cell-bare (Name m args) (subst (λ x. IsBarePart closed_defs (Name m args) x.body) (some_inj (record { params = 1; body = Cons (Var 0) (Var 0) }) q) b)))
    go (suc zero) q =
        let b' : IsBarePart closed_defs (Name m args) (Name 0 (Name 1 [] ∷ [])) = subst (λ x. IsBarePart closed_defs (Name m args) x.body) (some_inj (record { params = 0; body = Name 0 (Name 1 [] ∷ []) }) q) b in
        (refl, name-number m 0 args (Name 1 [] ∷ []) (bare-Name closed_defs 0 (Name 1 [] ∷ []) not-open (Name m args) (Name 0 (Name 1 [] ∷ [])) b' refl))
    go (suc (suc k)) q = absurd (cc)
closed-reaches _ _ (by_way_of n l m r q) =
    let a : (n ≡ 1) × (l ≡ 0) = closed-reaches n l r in
    let b : (l ≡ 1) × (m ≡ 0) = closed-reaches l m q in
    absurd (omega (arith, a.1, b.0))

pub closed-argument : IsContractive closed_defs
closed-argument n r = let a : (n ≡ 1) × (n ≡ 0) = closed-reaches n n r in omega (arith, a.0, a.1)

-- signs
pub negated-fun : IsWellSigned [] (Not (Fun [] Any)) → ⊥
negated-fun h = h.no_odd_fun [] Any (in_not false (Fun [] Any) (Fun [] Any) (Not (Fun [] Any)) refl (stands_itself (Fun [] Any)))

-- what is neither a fun type nor a variable, or stands under an even number of negations
abbrev pub Kept : Bool → Term → Type 0
Kept odd p = odd ≡ true → (kind_number p ≡ 10) ⊎ (kind_number p ≡ 15) → ⊥

pub kept-even : (p : Term) → Kept false p
kept-even p e = absurd (false≢true e)

pub no-names : (defs : List Def) (t : Term) → ((p : Term) → IsPart p t → kind_number p ≡ 16 → ⊥) → NamesAreDefined defs t
no-names defs t h n args part = absurd (h (Name n args) part refl)

pub well-signed : (defs : List Def) (t : Term) → NamesAreDefined defs t → ((odd : Bool) (p : Term) → StandsUnder defs odd p t → Kept odd p) → IsWellSigned defs t
well-signed defs t names kept = record {
  names_defined = names;
  no_odd_fun = λ ss r s. kept true (Fun ss r) s refl (inl refl);
  no_odd_variable = λ a s. kept true (Var a) s refl (inr refl);
}

abbrev pub NotName : Term → Type 0
NotName p = kind_number p ≡ 16 → ⊥

pub children-Any : children Any ≡ []
children-Any = ap layer_children Views.outs-Any

children-Fun : children (Fun [] Any) ≡ Any ∷ []
children-Fun = ap layer_children (Views.outs-Fun [] Any)

children-AnyFun : (o : Option ℕ) → children (AnyFun o) ≡ []
children-AnyFun o = ap layer_children (Views.outs-AnyFun o)

pub positive_children-Any : positive_children Any ≡ []
positive_children-Any = ap layer_positive_children Views.outs-Any

pub positive_children-Fun : positive_children (Fun [] Any) ≡ Any ∷ []
positive_children-Fun = ap layer_positive_children (Views.outs-Fun [] Any)

positive_children-AnyFun : (o : Option ℕ) → positive_children (AnyFun o) ≡ []
positive_children-AnyFun o = ap layer_positive_children (Views.outs-AnyFun o)

abbrev pub NoNameIn : Term → Type 0
NoNameIn t = (p : Term) → IsPart p t → kind_number p ≡ 16 → ⊥

pub no-name-leaf : (t : Term) → children t ≡ [] → (kind_number t ≡ 16 → ⊥) → NoNameIn t
no-name-leaf t e h = each-part NotName t [] e h (λ c k. absurd (contains-none c k))

no-name-Not : (t : Term) → NoNameIn t → NoNameIn (Not t)
no-name-Not t h = each-part NotName (Not t) (t ∷ []) (children-Not t) (λ e. omega arith) (each-of-one NoNameIn t h)

pub no-name-Fun : NoNameIn (Fun [] Any)
no-name-Fun = each-part NotName (Fun [] Any) (Any ∷ []) children-Fun (λ e. omega arith) (each-of-one NoNameIn Any (no-name-leaf Any children-Any (λ e. omega arith)))

pub fun-negated-twice : IsWellSigned [] (Not (Not (Fun [] Any)))
fun-negated-twice = well-signed [] (Not (Not (Fun [] Any))) (no-names [] _ (no-name-Not _ (no-name-Not _ no-name-Fun)))
    (under-Not [] Kept (Not (Fun [] Any)) (kept-even (Not (Not (Fun [] Any))))
    (under-Not [] (λ odd p. Kept (not odd) p) (Fun [] Any) (λ e k. ⊎_elim (λ (q : 14 ≡ 10). omega arith) (λ (q : 14 ≡ 15). omega arith) k)
    (under-step [] (λ odd p. Kept (not (not odd)) p) (Fun [] Any) (Any ∷ []) positive_children-Fun (λ e. omega arith) (λ e. omega arith) (kept-even (Fun [] Any))
    (each-of-one (λ c. (odd : Bool) (p : Term) → StandsUnder [] odd p c → Kept (not (not odd)) p) Any
    (under-step [] (λ odd p. Kept (not (not odd)) p) Any [] positive_children-Any (λ e. omega arith) (λ e. omega arith) (kept-even Any) (λ c k. absurd (contains-none c k)))))))

pub negated-any-fun : IsWellSigned [] (Not (AnyFun Nothing))
negated-any-fun = well-signed [] (Not (AnyFun Nothing)) (no-names [] _ (no-name-Not _ (no-name-leaf (AnyFun Nothing) (children-AnyFun Nothing) (λ e. omega arith))))
    (under-Not [] Kept (AnyFun Nothing) (kept-even (Not (AnyFun Nothing)))
    (under-step [] (λ odd p. Kept (not odd) p) (AnyFun Nothing) [] (positive_children-AnyFun Nothing) (λ e. omega arith) (λ e. omega arith)
    (λ e k. ⊎_elim (λ (q : 11 ≡ 10). omega arith) (λ (q : 11 ≡ 15). omega arith) k) (λ c k. absurd (contains-none c k))))

abbrev negation : List Def
negation = record { params = 1; body = Not (Var 0) } ∷ []

pub through-a-name : IsWellSigned negation (Name 0 (Var 0 ∷ [])) → ⊥
unfolding shape-the_row-Term-0 hidden-the_row-Term-0 shape-the_row-Term-1 hidden-the_row-Term-1 hidden
through-a-name h = h.no_odd_variable 0 (in_body true (Var 0) (Name 0 (Var 0 ∷ [])) 0 (Var 0 ∷ []) (record { params = 1; body = Not (Var 0) }) refl refl
    (in_not false (Var 0) (Var 0) (Not (Var 0)) refl (stands_itself (Var 0))))

-- instances
pub no-definitions : AreDefinitions []
no-definitions = record {
  contractive = λ n r. none n n r;
  names_defined = λ def c. absurd (contains-none def c);
  own_variables = λ def c. absurd (contains-none def c);
  fields_ascend = λ def c. absurd (contains-none def c);
}
  where
    none : (n m : ℕ) → Reaches [] n m → ⊥
    none _ _ (directly n m def args e b) = cc
    none _ _ (by_way_of n l m r q) = none n l r

pub ints-well-signed : (defs : List Def) (low high : Option ℤ) → IsWellSigned defs (Ints low high)
ints-well-signed defs low high = well-signed defs (Ints low high) (no-names defs _ (no-name-leaf (Ints low high) (children-Ints low high) (λ e. omega arith)))
    (under-step defs Kept (Ints low high) [] (positive_children-Ints low high) (λ e. omega arith) (λ e. omega arith) (kept-even (Ints low high)) (λ c k. absurd (contains-none c k)))

abbrev MapAscends : Term → Type 0
MapAscends p = (fields : List Field) (rest_int rest_atom : Option Term) → p ≡ Map fields rest_int rest_atom → ascending (field_keys fields) ≡ true

pub ints-fields : (low high : Option ℤ) → FieldsAscend (Ints low high)
ints-fields low high fields rest_int rest_atom part =
    each-part MapAscends (Ints low high) [] (children-Ints low high) (λ fs r q e. let f : 2 ≡ 9 = ap kind_number e in absurd (omega arith)) (λ c k. absurd (contains-none c k)) _ part fields rest_int rest_atom refl

pub integers-instance : (a : ℕ) → IsInstance (variable_and a (Ints Nothing Nothing) [] no_variables no_variables)
integers-instance a = (no-definitions, ints-well-signed [] Nothing Nothing, ints-fields Nothing Nothing, tt, tt)

pub negated-variable : IsInstance (variable_and 0 (Not (Var 0)) [] no_variables no_variables) → ⊥
negated-variable h = h.1.no_odd_variable 0 (in_not false (Var 0) (Var 0) (Not (Var 0)) refl (stands_itself (Var 0)))
