-- Terms over so many variables, in which the keys of map terms ascend.
use Rattle.std.proofs.Common.{◌≡◌, refl, sym, ◌∙◌, ap, subst, ℕ, ◌+◌, ◌<◌, ◌≤◌, List, [], ◌∷◌, ◌++◌, length, get_or, true, ⊎_elim, arith}
use Rattle.std.specs.Prelude.{Option, Some, None as Nothing}
use Rattle.std.specs.List.{Contains}
use Rattle.std.proofs.lemmas.List.{get_or_default}
use Rattle.std.proofs.lemmas.List.Elements.{Contains-append_cases}
use Rattle.type_terms.specs.declared.term.Def.{Def}
use Rattle.type_terms.specs.declared.term.Field.{Field}
use Rattle.type_terms.specs.declared.term.Term.{Term, out-Term, Any, Nil, AtomLit, Tuple, Map, Fun, Or, Not, Var, Name}
use Rattle.type_terms.specs.declared.term.Term.TheOpen as F
use Rattle.type_terms.specs.declared.term.Term.TheViews as Views
use Rattle.type_terms.specs.Keys.{ascending}
use Rattle.type_terms.specs.Parts.{layer_children, children, field_keys, field_terms, rest_terms, IsPart}
use Rattle.type_terms.specs.Definitions.{FieldsAscend, VariablesBelow}
use Rattle.type_terms.specs.Refusals.{AreWellMade}
use Rattle.type_terms.proofs.Contained.{contains-none}
use Rattle.type_terms.proofs.PartLaws.{kind_number, each-of-one, each-part, children-Not, var-number, children-Name, children-Or, children-Nil, children-Var}

abbrev pub Simple : ℕ → Term → Type 0
Simple n t = VariablesBelow n t × FieldsAscend t

abbrev Fits : ℕ → Term → Type 0
Fits n p = ((i : ℕ) → p ≡ Var i → i < n) × ((fields : List Field) (rest_int rest_atom : Option Term) → p ≡ Map fields rest_int rest_atom → ascending (field_keys fields) ≡ true)

fits-kind : (n : ℕ) (p : Term) → (kind_number p ≡ 15 → ⊥) → (kind_number p ≡ 9 → ⊥) → Fits n p
fits-kind n p no_var no_map = ((λ i e. absurd (no_var (ap kind_number e))), (λ fields rest_int rest_atom e. absurd (no_map (ap kind_number e))))

fits-simple : (n : ℕ) (t : Term) → Simple n t → (p : Term) → IsPart p t → Fits n p
fits-simple n t s p k = ((λ i e. s.0 i (subst (λ (q : Term). IsPart q t) e k)), (λ fields rest_int rest_atom e. s.1 fields rest_int rest_atom (subst (λ (q : Term). IsPart q t) e k)))

of-parts : (n : ℕ) (w : Term) (ts : List Term) → children w ≡ ts → Fits n w → ((c : Term) → Contains ts c → Simple n c) → Simple n w
of-parts n w ts e own h =
    let all : (p : Term) → IsPart p w → Fits n p = each-part (Fits n) w ts e own (λ c k p q. fits-simple n c (h c k) p q) in
    ((λ i k. (all (Var i) k).0 i refl), (λ fields rest_int rest_atom k. (all (Map fields rest_int rest_atom) k).1 fields rest_int rest_atom refl))

node-simple : (n : ℕ) (w : Term) (ts : List Term) → children w ≡ ts → (kind_number w ≡ 15 → ⊥) → (kind_number w ≡ 9 → ⊥) → ((c : Term) → Contains ts c → Simple n c) → Simple n w
node-simple n w ts e no_var no_map h = of-parts n w ts e (fits-kind n w no_var no_map) h

pub simple-Nil : (n : ℕ) → Simple n Nil
simple-Nil n = node-simple n Nil [] children-Nil (λ e. omega arith) (λ e. omega arith) (λ c k. absurd (contains-none c k))

pub simple-Any : (n : ℕ) → Simple n Any
simple-Any n = node-simple n Any [] (ap layer_children Views.outs-Any) (λ e. omega arith) (λ e. omega arith) (λ c k. absurd (contains-none c k))

pub simple-AtomLit : (n : ℕ) (name : List ℕ) → Simple n (AtomLit name)
simple-AtomLit n name = node-simple n (AtomLit name) [] (ap layer_children (Views.outs-AtomLit name)) (λ e. omega arith) (λ e. omega arith) (λ c k. absurd (contains-none c k))

pub simple-Var : (n i : ℕ) → i < n → Simple n (Var i)
simple-Var n i l = of-parts n (Var i) [] (children-Var i) ((λ j e. subst (λ k. k < n) (var-number i j e) l), (λ fields rest_int rest_atom e. absurd (no-map (ap kind_number e)))) (λ c k. absurd (contains-none c k))
  where
    no-map : kind_number (Var i) ≡ 9 → ⊥
    no-map e = omega arith

pub simple-Name : (n m : ℕ) (ts : List Term) → ((c : Term) → Contains ts c → Simple n c) → Simple n (Name m ts)
simple-Name n m ts h = node-simple n (Name m ts) ts (children-Name m ts) (λ q. omega arith) (λ q. omega arith) h

pub simple-Or : (n : ℕ) (ts : List Term) → ((c : Term) → Contains ts c → Simple n c) → Simple n (Or ts)
simple-Or n ts h = node-simple n (Or ts) ts (children-Or ts) (λ e. omega arith) (λ e. omega arith) h

pub simple-Tuple : (n : ℕ) (ts : List Term) → ((c : Term) → Contains ts c → Simple n c) → Simple n (Tuple ts)
simple-Tuple n ts h = node-simple n (Tuple ts) ts (ap layer_children (Views.outs-Tuple ts)) (λ e. omega arith) (λ e. omega arith) h

pub simple-Not : (n : ℕ) (t : Term) → Simple n t → Simple n (Not t)
simple-Not n t h = node-simple n (Not t) (t ∷ []) (children-Not t) (λ e. omega arith) (λ e. omega arith) (each-of-one (Simple n) t h)

pub simple-Fun : (n : ℕ) (ts : List Term) (t : Term) → ((c : Term) → Contains ts c → Simple n c) → Simple n t → Simple n (Fun ts t)
simple-Fun n ts t hs h = node-simple n (Fun ts t) (ts ++ t ∷ []) (ap layer_children (Views.outs-Fun ts t)) (λ e. omega arith) (λ e. omega arith) (λ c k. ⊎_elim (hs c) (each-of-one (Simple n) t h c) (Contains-append_cases ts (t ∷ []) c k))

-- the fields of a map term
abbrev layer_fields : F.Term-F Term Field → List Field
layer_fields (F.Map fields rest_int rest_atom) = fields
layer_fields _ = []

abbrev fields_of : Term → List Field
fields_of t = layer_fields (out-Term t)

fields-Map : (fields : List Field) (rest_int rest_atom : Option Term) → fields_of (Map fields rest_int rest_atom) ≡ fields
fields-Map fields rest_int rest_atom = ap layer_fields (Views.outs-Map fields rest_int rest_atom)

pub map-fields : (fs gs : List Field) (r q r' q' : Option Term) → Map fs r q ≡ Map gs r' q' → fs ≡ gs
map-fields fs gs r q r' q' e = sym (fields-Map fs r q) ∙ (ap fields_of e ∙ fields-Map gs r' q')

one-item : (xs : List Field) (f : Field) → 1 ≤ length xs → length xs < 2 → f ≡ get_or xs 0 f → xs ≡ f ∷ []
one-item [] f l m e = absurd (omega arith)
one-item (x ∷ []) f l m e = λ i. sym e i ∷ []
one-item (x ∷ y ∷ xs) f l m e = absurd (omega arith)

pub simple-Map : (n : ℕ) (fs : List Field) (rest_int rest_atom : Option Term) → ascending (field_keys fs) ≡ true → ((c : Term) → Contains (field_terms fs) c → Simple n c) → ((c : Term) → Contains (rest_terms rest_int) c → Simple n c) → ((c : Term) → Contains (rest_terms rest_atom) c → Simple n c) → Simple n (Map fs rest_int rest_atom)
simple-Map n fs rest_int rest_atom ascends in_fields in_int in_atom =
    of-parts n (Map fs rest_int rest_atom) (field_terms fs ++ (rest_terms rest_int ++ rest_terms rest_atom)) (ap layer_children (Views.outs-Map fs rest_int rest_atom))
    ((λ i e. let f : 9 ≡ 15 = ap kind_number e in absurd (omega arith)), (λ fields r q e. subst (λ (gs : List Field). ascending (field_keys gs) ≡ true) (map-fields fs fields rest_int rest_atom r q e) ascends))
    (λ c k. ⊎_elim (in_fields c) (λ k'. ⊎_elim (in_int c) (in_atom c) (Contains-append_cases (rest_terms rest_int) (rest_terms rest_atom) c k')) (Contains-append_cases (field_terms fs) (rest_terms rest_int ++ rest_terms rest_atom) c k))

pub simple-field : (n : ℕ) (xs : List Field) (f : Field) → 1 ≤ length xs → length xs < 2 → f ≡ get_or xs 0 f → Simple n f.term → (ascending (field_keys xs) ≡ true) × ((c : Term) → Contains (field_terms xs) c → Simple n c)
simple-field n xs f l m e s = subst (λ (ys : List Field). (ascending (field_keys ys) ≡ true) × ((c : Term) → Contains (field_terms ys) c → Simple n c)) (sym (one-item xs f l m e)) (refl, each-of-one (Simple n) f.term s)

pub simple-rest : (n : ℕ) (rest : Option Term) (t : Term) → rest ≡ Some t → Simple n t → (c : Term) → Contains (rest_terms rest) c → Simple n c
simple-rest n rest t e s = subst (λ (r : Option Term). (c : Term) → Contains (rest_terms r) c → Simple n c) (sym e) (each-of-one (Simple n) t s)

pub simple-no_rest : (n : ℕ) (rest : Option Term) → rest ≡ Nothing → (c : Term) → Contains (rest_terms rest) c → Simple n c
simple-no_rest n rest e = subst (λ (r : Option Term). (c : Term) → Contains (rest_terms r) c → Simple n c) (sym e) (λ c k. absurd (contains-none c k))

pub variable-below : VariablesBelow 1 (Var 0)
variable-below i k = each-part (λ p. (j : ℕ) → p ≡ Var j → j < 1) (Var 0) [] (children-Var 0) (λ j e. let z : 0 ≡ j = var-number 0 j e in omega arith) (λ c q. absurd (contains-none c q)) (Var i) k i refl

-- what holds at each index of a list holds of each of its items
pub all-at : {X : Type 0} (P : X → Type 0) (d : X) (xs : List X) (n : ℕ) → length xs < n + 1 → ((k : ℕ) → k < n → P (get_or xs k d)) → (x : X) → Contains xs x → P x
all-at P d xs n l h x c = let a : c.0 < length xs = c.1 in let b : c.0 < n = omega arith in subst P (get_or_default xs c.0 d x c.1 ∙ c.2) (h c.0 b)

pub made-of-simple : (defs : List Def) (n : ℕ) → length defs < n + 1 → ((k : ℕ) → k < n → (def : Def) → def ≡ get_or defs k def → Simple def.params def.body) → AreWellMade defs
made-of-simple defs n l h def c =
    let a : c.0 < length defs = c.1 in
    let b : c.0 < n = omega arith in
    h c.0 b def (sym c.2)

pub made-of-both : (xs ys : List Def) → AreWellMade xs → AreWellMade ys → AreWellMade (xs ++ ys)
made-of-both xs ys p q def k = ⊎_elim (p def) (q def) (Contains-append_cases xs ys def k)
