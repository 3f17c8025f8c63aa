-- Bare parts of unions, cells and names, the signs of what stands in `list(A)`, and an instance over the given definitions.
use Rattle.std.proofs.Common.{◌≡◌, refl, sym, ap, subst, ℕ, List, [], ◌∷◌, Bool, true, false, ⊎_elim, arith}
use Rattle.std.proofs.lemmas.Bool.{true≢false}
use Rattle.std.specs.Prelude.{Some, None as Open, slice_get, not, codes}
use Rattle.std.specs.List.{Contains}
use Rattle.type_terms.specs.declared.term.Def.{Def}
use Rattle.type_terms.specs.declared.term.Term.{Term, Any, Ints, AtomLit, Nil, Cons, Fun, Or, Not, Var, Name}
use Rattle.type_terms.specs.declared.term.Term.TheBlock.{shape-the_row-Term-0, hidden-the_row-Term-0, shape-the_row-Term-1, hidden-the_row-Term-1}
use Rattle.type_terms.specs.declared.term.Term.TheViews as Views
use denote.Hole.Carrier.{hidden}
use Rattle.type_terms.specs.Parts.{layer_positive_children, positive_children, IsPart}
use Rattle.type_terms.specs.Replacement.{replaced_by}
use Rattle.type_terms.specs.Definitions.{IsBarePart, itself, in_operand, in_argument, IsOpenIn, open_in, Reaches, directly, IsContractive, list_definition, ends_definition, given_definitions}
use Rattle.type_terms.specs.Instances.{IsInstance, no_variables, variable_and}
use Rattle.type_terms.specs.Signs.{StandsUnder, itself as stands_itself, in_child, in_not, in_body, IsWellSigned}
use Rattle.type_terms.proofs.Contained.{contains-none, contains-cases, contains-first}
use Rattle.type_terms.proofs.ReadingLaws.{all_of}
use Rattle.type_terms.proofs.GivenDefinitions.{given, FitPart, fit-Var, fit-Name}
use Rattle.type_terms.proofs.PartLaws.{kind_number, each-part, bare-step, each-of-one, each-of-two, contains-at, name-number, name-arguments, children-Name, children-Var, operands-Or, operands-Cons, operands-Nil, positive_children-Var}
use Rattle.type_terms.proofs.SmallCases.{bare-Name, ints-well-signed, ints-fields}

-- ---- bare parts

bare-operand : (defs : List Def) (ts : List Term) (t : Term) → Contains ts t → IsBarePart defs t (Or ts)
bare-operand defs ts t c = in_operand t t (Or ts) (subst (λ (us : List Term). Contains us t) (sym (operands-Or ts)) c) (itself t)

pub bare-alternative : (defs : List Def) → IsBarePart defs (Var 0) (Or (Nil ∷ Var 0 ∷ []))
bare-alternative defs = bare-operand defs (Nil ∷ Var 0 ∷ []) (Var 0) (contains-at (Nil ∷ Var 0 ∷ []) 1 (Var 0) refl)

abbrev own_alternative : Def
own_alternative = record { params = 0; body = Or (Name 0 [] ∷ AtomLit (codes "a") ∷ []) }

pub alternative-reaches : Reaches (record { params = 0; body = Or (Name 0 [] ∷ AtomLit (codes "a") ∷ []) } ∷ []) 0 0
alternative-reaches = directly 0 0 own_alternative [] refl (bare-operand (own_alternative ∷ []) (Name 0 [] ∷ AtomLit (codes "a") ∷ []) (Name 0 []) (contains-first (Name 0 []) (AtomLit (codes "a") ∷ [])))

pub own-alternative : IsContractive (record { params = 0; body = Or (Name 0 [] ∷ AtomLit (codes "a") ∷ []) } ∷ []) → ⊥
own-alternative h = h 0 alternative-reaches

abbrev NoVariable : Term → Type 0
NoVariable p = kind_number p ≡ 15 → ⊥

bare-cell : (defs : List Def) (s t p : Term) → IsBarePart defs p (Cons s t) → NoVariable p
bare-cell defs s t = bare-step defs NoVariable (Cons s t) [] (operands-Cons s t) (λ e. omega arith) (λ e. omega arith) (λ c k. absurd (contains-none c k))

pub bare-head : (defs : List Def) → IsBarePart defs (Var 0) (Cons (Var 0) Nil) → ⊥
bare-head defs b = bare-cell defs (Var 0) Nil (Var 0) b refl

pub ends-open : IsOpenIn given_definitions 1 1
ends-open =
    let cells : List Term = Cons (Var 0) (Name 1 (Var 0 ∷ Var 1 ∷ [])) ∷ [] in
    open_in 1 1 ends_definition refl (bare-operand given_definitions (Var 1 ∷ cells) (Var 1) (contains-first (Var 1) cells))

pub bare-open_argument : IsBarePart given_definitions (Var 0) (Name 1 (Any ∷ Var 0 ∷ []))
bare-open_argument = in_argument (Var 0) (Var 0) (Name 1 (Any ∷ Var 0 ∷ [])) 1 1 (Any ∷ Var 0 ∷ []) refl refl ends-open (itself (Var 0))

list-bare : (p : Term) → IsBarePart given_definitions p list_definition.body → NoVariable p
list-bare =
    let cell : Term = Cons (Var 0) (Name 0 (Var 0 ∷ [])) in
    bare-step given_definitions NoVariable (Or (Nil ∷ cell ∷ [])) (Nil ∷ cell ∷ []) (operands-Or (Nil ∷ cell ∷ [])) (λ e. omega arith) (λ e. omega arith)
    (each-of-two (λ c. (p : Term) → IsBarePart given_definitions p c → NoVariable p) Nil cell
    (bare-step given_definitions NoVariable Nil [] operands-Nil (λ e. omega arith) (λ e. omega arith) (λ c k. absurd (contains-none c k)))
    (bare-cell given_definitions (Var 0) (Name 0 (Var 0 ∷ []))))

given-list : (n : ℕ) (def : Def) → n ≡ 0 → slice_get given_definitions n ≡ Some def → list_definition ≡ def
given-list n def z e = same (subst (λ m. slice_get given_definitions m ≡ Some def) z e)
  where
    same : Some list_definition ≡ Some def → list_definition ≡ def
    same q = cc

list-open : (n j : ℕ) → n ≡ 0 → IsOpenIn given_definitions n j → ⊥
list-open n j z (open_in _ _ def e b) = list-bare (Var j) (subst (λ (d : Def). IsBarePart given_definitions (Var j) d.body) (sym (given-list n def z e)) b) refl

pub bare-other_argument : IsBarePart given_definitions (Var 0) (Name 0 (Var 0 ∷ [])) → ⊥
bare-other_argument b =
    let e : Var 0 ≡ Name 0 (Var 0 ∷ []) = bare-Name given_definitions 0 (Var 0 ∷ []) (λ j. list-open 0 j refl) (Var 0) (Name 0 (Var 0 ∷ [])) b refl in
    apart (kind_number (Var 0)) (kind_number (Name 0 (Var 0 ∷ []))) refl refl (ap kind_number e)
  where
    apart : (m n : ℕ) → m ≡ 15 → n ≡ 16 → m ≡ n → ⊥
    apart m n p q e = omega arith

-- ---- signs

-- the sign of a part, by the sign of the whole
abbrev flip : Bool → Bool → Bool
flip true p = not p
flip false p = p

flip-not : (odd p : Bool) → flip odd (not p) ≡ flip (not odd) p
flip-not true true = refl
flip-not true false = refl
flip-not false true = refl
flip-not false false = refl

-- what is kept by each way to a part holds of what stands under so many `Not`
module _ (defs : List Def) (S : Bool → Term → Type 0) (child : (p : Bool) (t u : Term) → S p t → Contains (positive_children t) u → S p u) (negated : (p : Bool) (t u : Term) → S p t → t ≡ Not u → S (not p) u) (body : (p : Bool) (t : Term) (n : ℕ) (arguments : List Term) (def : Def) → S p t → t ≡ Name n arguments → slice_get defs n ≡ Some def → S p (replaced_by arguments def.body)) where
  pub sign : (odd : Bool) (part whole : Term) → StandsUnder defs odd part whole → (p : Bool) → S p whole → S (flip odd p) part
  sign odd part whole (stands_itself _) p s = s
  sign odd part whole (in_child _ _ u _ c r) p s = sign odd part u r p (child p whole u s c)
  sign odd part whole (in_not b _ u _ e r) p s = subst (λ q. S q part) (flip-not b p) (sign b part u r (not p) (negated p whole u s e))
  sign odd part whole (in_body _ _ _ n arguments def e g r) p s = sign odd part (replaced_by arguments def.body) r p (body p whole n arguments def s e g)

abbrev list_of : Term
list_of = Name 0 (Var 0 ∷ [])

abbrev list_cell : Term
list_cell = Cons (Var 0) list_of

abbrev list_parts : List Term
list_parts = Nil ∷ list_cell ∷ []

-- the terms that stand in `list(A)`, at any depth and through names
abbrev members : List Term
members = list_of ∷ Or list_parts ∷ Nil ∷ list_cell ∷ Var 0 ∷ []

each-of : (q : Term → Type 0) (ts : List Term) → all_of q ts → (t : Term) → Contains ts t → q t
each-of q [] h u c = absurd (contains-none u c)
each-of q (t ∷ ts) h u c = ⊎_elim (λ (e : t ≡ u). subst q e h.0) (λ c'. each-of q ts h.1 u c') (contains-cases t u ts c)

each-member : (q : Term → Type 0) → q list_of → q (Or list_parts) → q Nil → q list_cell → q (Var 0) → (t : Term) → Contains members t → q t
each-member q a b c d e = each-of q members (a, (b, (c, (d, (e, tt)))))

member : (n : ℕ) (t : Term) → slice_get members n ≡ Some t → Contains members t
member n t e = contains-at members n t e

child-in : (t : Term) (ts : List Term) → positive_children t ≡ ts → all_of (Contains members) ts → (u : Term) → Contains (positive_children t) u → Contains members u
child-in t ts e h u c = each-of (Contains members) ts h u (subst (λ (us : List Term). Contains us u) e c)

members-child : (t : Term) → Contains members t → (u : Term) → Contains (positive_children t) u → Contains members u
members-child =
    each-member (λ t. (u : Term) → Contains (positive_children t) u → Contains members u)
    (child-in list_of [] (ap layer_positive_children (Views.outs-Name 0 (Var 0 ∷ []))) tt)
    (child-in (Or list_parts) list_parts (ap layer_positive_children (Views.outs-Or list_parts)) (member 2 Nil refl, (member 3 list_cell refl, tt)))
    (child-in Nil [] (ap layer_positive_children Views.outs-Nil) tt)
    (child-in list_cell (Var 0 ∷ list_of ∷ []) (ap layer_positive_children (Views.outs-Cons (Var 0) list_of)) (member 4 (Var 0) refl, (member 0 list_of refl, tt)))
    (child-in (Var 0) [] (positive_children-Var 0) tt)

members-kind : (t : Term) → Contains members t → kind_number t ≡ 14 → ⊥
members-kind = each-member (λ t. kind_number t ≡ 14 → ⊥) (λ e. omega arith) (λ e. omega arith) (λ e. omega arith) (λ e. omega arith) (λ e. omega arith)

replaced-list : replaced_by (Var 0 ∷ []) list_definition.body ≡ Or list_parts
unfolding shape-the_row-Term-0 hidden-the_row-Term-0 shape-the_row-Term-1 hidden-the_row-Term-1 hidden
replaced-list = refl

list-body : (n : ℕ) (arguments : List Term) (def : Def) → list_of ≡ Name n arguments → slice_get given_definitions n ≡ Some def → Contains members (replaced_by arguments def.body)
list-body n arguments def e g =
    subst (λ (d : Def). Contains members (replaced_by arguments d.body)) (given-list n def (sym (name-number 0 n (Var 0 ∷ []) arguments e)) g)
    (subst (λ (us : List Term). Contains members (replaced_by us list_definition.body)) (name-arguments 0 n (Var 0 ∷ []) arguments e) (subst (Contains members) (sym replaced-list) (member 1 (Or list_parts) refl)))

-- the body of each name among the members
abbrev BodyIn : Term → Type 0
BodyIn t = (n : ℕ) (arguments : List Term) (def : Def) → t ≡ Name n arguments → slice_get given_definitions n ≡ Some def → Contains members (replaced_by arguments def.body)

unnamed : (t : Term) → (kind_number t ≡ 16 → ⊥) → BodyIn t
unnamed t h n arguments def e g = absurd (h (ap kind_number e))

members-body : (t : Term) → Contains members t → BodyIn t
members-body = each-member BodyIn list-body (unnamed (Or list_parts) (λ e. omega arith)) (unnamed Nil (λ e. omega arith)) (unnamed list_cell (λ e. omega arith)) (unnamed (Var 0) (λ e. omega arith))

-- a member, under an even number of `Not`
abbrev even_member : Bool → Term → Type 0
even_member p t = (p ≡ false) × Contains members t

not-negated : (p : Bool) (t u : Term) → even_member p t → t ≡ Not u → even_member (not p) u
not-negated p t u s e = absurd (members-kind t s.1 (ap kind_number e))

list-even : (part : Term) → StandsUnder given_definitions true part list_of → ⊥
list-even part r = true≢false (sign given_definitions even_member (λ p t u s c. (s.0, members-child t s.1 u c)) not-negated (λ p t n arguments def s e g. (s.0, members-body t s.1 n arguments def e g)) true part list_of r false (refl, member 0 list_of refl)).0

pub list-signed : IsWellSigned given_definitions (Name 0 (Var 0 ∷ []))
list-signed = record {
  names_defined = λ n arguments p. (each-part (FitPart given_definitions 1) list_of (Var 0 ∷ []) (children-Name 0 (Var 0 ∷ [])) (fit-Name given_definitions 1 0 (Var 0 ∷ []) list_definition refl refl)
      (each-of-one (λ c. (q : Term) → IsPart q c → FitPart given_definitions 1 q) (Var 0) (each-part (FitPart given_definitions 1) (Var 0) [] (children-Var 0) (fit-Var given_definitions 1 0 (omega arith)) (λ c k. absurd (contains-none c k)))) (Name n arguments) p).0 n arguments refl;
  no_odd_fun = λ ps t r. list-even (Fun ps t) r;
  no_odd_variable = λ a r. list-even (Var a) r;
}

-- ---- instances

pub integers-over_given : IsInstance (variable_and 0 (Ints Open Open) given_definitions no_variables no_variables)
integers-over_given = (given, ints-well-signed given_definitions Open Open, ints-fields Open Open, tt, tt)
