-- A definition whose body is a map term.
use Rattle.std.proofs.Common.{◌≡◌, refl, ap, subst, ℕ, List, [], ◌∷◌, true, arith}
use Rattle.std.specs.Prelude.{Some, None as Nothing, pos}
use Rattle.std.specs.List.{Contains}
use Rattle.type_terms.specs.declared.term.Def.{Def}
use Rattle.type_terms.specs.declared.term.Field.{Field}
use Rattle.type_terms.specs.declared.term.Key.TheVariants.{Int as IntKey}
use Rattle.type_terms.specs.declared.term.Term.{Term, Map, Var, Name}
use Rattle.type_terms.specs.declared.term.Term.TheViews as Views
use Rattle.type_terms.specs.Keys.{ascending}
use Rattle.type_terms.specs.Parts.{children, layer_children, operands, layer_operands, field_keys, IsPart}
use Rattle.type_terms.specs.Definitions.{IsBarePart, Reaches, directly, by_way_of, AreDefinitions}
use Rattle.type_terms.proofs.Contained.{contains-none}
use Rattle.type_terms.proofs.PartLaws.{kind_number, each-part, bare-step, each-of-one, each-of-two, contains-at, children-Name, children-Var}
use Rattle.type_terms.proofs.SimpleTerms.{map-fields}
use Rattle.type_terms.proofs.GivenDefinitions.{FitPart, fit-Var, fit-Name, fit-leaf}

abbrev field : Field
field = record { key = IntKey (pos 1); required = true; term = Var 0 }

abbrev own_name : Term
own_name = Name 0 (Var 0 ∷ [])

abbrev body : Term
body = Map (field ∷ []) Nothing (Some own_name)

abbrev map_definition : Def
map_definition = record { params = 1; body = body }

abbrev map_defs : List Def
map_defs = map_definition ∷ []

children-body : children body ≡ Var 0 ∷ own_name ∷ []
children-body = ap layer_children (Views.outs-Map (field ∷ []) Nothing (Some own_name))

operands-body : operands body ≡ []
operands-body = ap layer_operands (Views.outs-Map (field ∷ []) Nothing (Some own_name))

abbrev Fit : Term → Type 0
Fit p = FitPart map_defs 1 p

abbrev AllFit : Term → Type 0
AllFit t = (p : Term) → IsPart p t → FitPart map_defs 1 p

fit-body : Fit body
fit-body = (
  (λ n args e. let f : 9 ≡ 16 = ap kind_number e in absurd (omega arith)),
  (λ i e. let f : 9 ≡ 15 = ap kind_number e in absurd (omega arith)),
  (λ fields rest_int rest_atom e. subst (λ (fs : List Field). ascending (field_keys fs) ≡ true) (map-fields (field ∷ []) fields Nothing (Some own_name) rest_int rest_atom e) refl),
)

variable-fits : AllFit (Var 0)
variable-fits = fit-leaf map_defs 1 (Var 0) (children-Var 0) (fit-Var map_defs 1 0 (omega arith))

body-fits : AllFit body
body-fits =
    each-part Fit body (Var 0 ∷ own_name ∷ []) children-body fit-body
    (each-of-two AllFit (Var 0) own_name variable-fits
    (each-part Fit own_name (Var 0 ∷ []) (children-Name 0 (Var 0 ∷ [])) (fit-Name map_defs 1 0 (Var 0 ∷ []) map_definition refl refl) (each-of-one AllFit (Var 0) variable-fits)))

fits : (def : Def) → Contains map_defs def → (p : Term) → IsPart p def.body → FitPart map_defs def.params p
fits = each-of-one (λ def. (p : Term) → IsPart p def.body → FitPart map_defs def.params p) map_definition body-fits

abbrev NoName : Term → Type 0
NoName p = kind_number p ≡ 16 → ⊥

body-bare : (def : Def) → Contains map_defs def → (p : Term) → IsBarePart map_defs p def.body → NoName p
body-bare = each-of-one (λ def. (p : Term) → IsBarePart map_defs p def.body → kind_number p ≡ 16 → ⊥) map_definition
    (bare-step map_defs NoName body [] operands-body (λ e. omega arith) (λ e. omega arith) (λ c k. absurd (contains-none c k)))

reaches-nothing : (n m : ℕ) → Reaches map_defs n m → ⊥
reaches-nothing _ _ (directly n m def args e b) = body-bare def (contains-at map_defs n def e) (Name m args) b refl
reaches-nothing _ _ (by_way_of n l m r q) = reaches-nothing n l r

pub map-definitions : AreDefinitions (record { params = 1; body = Map (record { key = IntKey (pos 1); required = true; term = Var 0 } ∷ []) Nothing (Some (Name 0 (Var 0 ∷ []))) } ∷ [])
map-definitions = record {
  contractive = λ n. reaches-nothing n n;
  names_defined = λ def c n args part. (fits def c (Name n args) part).0 n args refl;
  own_variables = λ def c i part. (fits def c (Var i) part).1 i refl;
  fields_ascend = λ def c fields rest_int rest_atom part. (fits def c (Map fields rest_int rest_atom) part).2 fields rest_int rest_atom refl;
}
