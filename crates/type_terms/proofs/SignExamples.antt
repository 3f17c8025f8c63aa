-- A definition that doesn't reach itself though another does through it, a fun type among the parameters of another one, in a map's rest, and a negation in an argument that isn't used.
use Rattle.std.proofs.Common.{◌≡◌, refl, sym, ap, subst, ℕ, zero, suc, List, [], ◌∷◌, Bool, true, false, arith}
use Rattle.std.proofs.lemmas.Bool.{true≢false}
use Rattle.std.specs.Prelude.{Some, None as Nothing, slice_get}
use Rattle.std.specs.List.{Contains}
use Rattle.type_terms.specs.declared.term.Def.{Def}
use Rattle.type_terms.specs.declared.term.Term.{Term, Any, Nil, Map, Fun, Not, Var, Name}
use Rattle.type_terms.specs.declared.term.Term.TheViews as Views
use Rattle.type_terms.specs.Parts.{children, layer_children, positive_children, layer_positive_children, IsPart}
use Rattle.type_terms.specs.Replacement.{replaced_by}
use Rattle.type_terms.specs.Definitions.{IsBarePart, Reaches, directly, by_way_of}
use Rattle.type_terms.specs.Signs.{StandsUnder, itself as stands_itself, in_child, in_not, IsWellSigned}
use Rattle.type_terms.proofs.Contained.{contains-none, contains-first}
use Rattle.type_terms.proofs.PartLaws.{kind_number, each-part, bare-step, under-step, each-of-one, each-of-two, contains-at, children-Name, children-Not, children-Var, operands-Var}
use Rattle.type_terms.proofs.GivenDefinitions.{FitPart, fit-plain, fit-Var, fit-Name, fit-leaf}
use Rattle.type_terms.proofs.ListExamples.{sign}
use Rattle.type_terms.proofs.SmallCases.{open_defs, Kept, kept-even, no-names, well-signed, NotName, NoNameIn, children-Any, positive_children-Any, positive_children-Fun, no-name-leaf, no-name-Fun}

-- u(A) = A reaches nothing
variable-bare : (p : Term) → IsBarePart open_defs p (Var 0) → NotName p
variable-bare = bare-step open_defs NotName (Var 0) [] (operands-Var 0) (λ e. omega arith) (λ e. omega arith) (λ c k. absurd (contains-none c k))

first-open : (n : ℕ) (def : Def) → n ≡ 0 → slice_get open_defs n ≡ Some def → record { params = 1; body = Var 0 } ≡ def
first-open n def z e = same (subst (λ m. slice_get open_defs m ≡ Some def) z e)
  where
    same : Some (record { params = 1; body = Var 0 }) ≡ Some def → record { params = 1; body = Var 0 } ≡ def
    same q = cc

reaches-nothing : (n m : ℕ) → Reaches open_defs n m → n ≡ 0 → ⊥
reaches-nothing _ _ (directly n m def args e b) z = variable-bare (Name m args) (subst (λ (d : Def). IsBarePart open_defs (Name m args) d.body) (sym (first-open n def z e)) b) refl
reaches-nothing _ _ (by_way_of n l m r q) z = reaches-nothing n l r z

pub reaches-not-itself : Reaches open_defs 0 0 → ⊥
reaches-not-itself r = reaches-nothing 0 0 r refl

-- a fun type among the parameters of another one
abbrev plain_fun : Term
plain_fun = Fun [] Any

abbrev of_fun : Term
of_fun = Fun (plain_fun ∷ []) Any

children-of_fun : children of_fun ≡ plain_fun ∷ Any ∷ []
children-of_fun = ap layer_children (Views.outs-Fun (plain_fun ∷ []) Any)

positive_children-of_fun : positive_children of_fun ≡ plain_fun ∷ Any ∷ []
positive_children-of_fun = ap layer_positive_children (Views.outs-Fun (plain_fun ∷ []) Any)

abbrev AllKept : Term → Type 0
AllKept t = (odd : Bool) (p : Term) → StandsUnder [] odd p t → Kept odd p

any-kept : AllKept Any
any-kept = under-step [] Kept Any [] positive_children-Any (λ e. omega arith) (λ e. omega arith) (kept-even Any) (λ c k. absurd (contains-none c k))

fun-kept : AllKept plain_fun
fun-kept = under-step [] Kept plain_fun (Any ∷ []) positive_children-Fun (λ e. omega arith) (λ e. omega arith) (kept-even plain_fun) (each-of-one AllKept Any any-kept)

pub fun-among-parameters : IsWellSigned [] (Fun (Fun [] Any ∷ []) Any)
fun-among-parameters = well-signed [] of_fun
    (no-names [] of_fun (each-part NotName of_fun (plain_fun ∷ Any ∷ []) children-of_fun (λ e. omega arith) (each-of-two NoNameIn plain_fun Any no-name-Fun (no-name-leaf Any children-Any (λ e. omega arith)))))
    (under-step [] Kept of_fun (plain_fun ∷ Any ∷ []) positive_children-of_fun (λ e. omega arith) (λ e. omega arith) (kept-even of_fun) (each-of-two AllKept plain_fun Any fun-kept any-kept))

-- a negated fun type in the rest of a map
abbrev rest_map : Term
rest_map = Map [] Nothing (Some (Not plain_fun))

positive_children-rest_map : positive_children rest_map ≡ Not plain_fun ∷ []
positive_children-rest_map = ap layer_positive_children (Views.outs-Map [] Nothing (Some (Not plain_fun)))

pub odd-in-rest : IsWellSigned [] (Map [] Nothing (Some (Not (Fun [] Any)))) → ⊥
odd-in-rest h = h.no_odd_fun [] Any (in_child true plain_fun (Not plain_fun) rest_map (subst (λ (ts : List Term). Contains ts (Not plain_fun)) (sym positive_children-rest_map) (contains-first (Not plain_fun) [])) (in_not false plain_fun plain_fun (Not plain_fun) refl (stands_itself plain_fun)))

-- an argument that the definition doesn't use
abbrev unused : Def
unused = record { params = 1; body = Nil }

abbrev unused_defs : List Def
unused_defs = unused ∷ []

abbrev unused_name : Term
unused_name = Name 0 (Not (Var 0) ∷ [])

only-unused : (n : ℕ) (def : Def) → slice_get unused_defs n ≡ Some def → unused ≡ def
only-unused zero def e = cc
only-unused (suc n) def e = absurd (cc)

abbrev reached : List Term
reached = unused_name ∷ Nil ∷ []

abbrev even_reached : Bool → Term → Type 0
even_reached p t = (p ≡ false) × Contains reached t

no-child : (t : Term) → Contains reached t → (u : Term) → Contains (positive_children t) u → ⊥
no-child = each-of-two (λ t. (u : Term) → Contains (positive_children t) u → ⊥) unused_name Nil
    (λ u c. contains-none u (subst (λ (ts : List Term). Contains ts u) (ap layer_positive_children (Views.outs-Name 0 (Not (Var 0) ∷ []))) c))
    (λ u c. contains-none u (subst (λ (ts : List Term). Contains ts u) (ap layer_positive_children Views.outs-Nil) c))

no-negation : (t : Term) → Contains reached t → kind_number t ≡ 14 → ⊥
no-negation = each-of-two (λ t. kind_number t ≡ 14 → ⊥) unused_name Nil (λ e. omega arith) (λ e. omega arith)

unused-body : (arguments : List Term) (n : ℕ) (def : Def) → slice_get unused_defs n ≡ Some def → Contains reached (replaced_by arguments def.body)
unused-body arguments n def e = subst (λ (d : Def). Contains reached (replaced_by arguments d.body)) (only-unused n def e) (contains-at reached 1 Nil refl)

unused-even : (part : Term) → StandsUnder unused_defs true part unused_name → ⊥
unused-even part r = true≢false (sign unused_defs even_reached (λ p t u s c. absurd (no-child t s.1 u c)) (λ p t u s e. absurd (no-negation t s.1 (ap kind_number e))) (λ p t n arguments def s e g. (s.0, unused-body arguments n def g)) true part unused_name r false (refl, contains-first unused_name (Nil ∷ []))).0

abbrev Fit : Term → Type 0
Fit p = FitPart unused_defs 1 p

abbrev AllFit : Term → Type 0
AllFit t = (p : Term) → IsPart p t → FitPart unused_defs 1 p

unused-fits : AllFit unused_name
unused-fits =
    each-part Fit unused_name (Not (Var 0) ∷ []) (children-Name 0 (Not (Var 0) ∷ [])) (fit-Name unused_defs 1 0 (Not (Var 0) ∷ []) unused refl refl)
    (each-of-one AllFit (Not (Var 0)) (each-part Fit (Not (Var 0)) (Var 0 ∷ []) (children-Not (Var 0)) (fit-plain unused_defs 1 (Not (Var 0)) (λ e. omega arith) (λ e. omega arith) (λ e. omega arith))
    (each-of-one AllFit (Var 0) (fit-leaf unused_defs 1 (Var 0) (children-Var 0) (fit-Var unused_defs 1 0 (omega arith))))))

pub unused-argument : IsWellSigned (record { params = 1; body = Nil } ∷ []) (Name 0 (Not (Var 0) ∷ []))
unused-argument = record {
  names_defined = λ n arguments p. (unused-fits (Name n arguments) p).0 n arguments refl;
  no_odd_fun = λ ps t r. unused-even (Fun ps t) r;
  no_odd_variable = λ a r. unused-even (Var a) r;
}
