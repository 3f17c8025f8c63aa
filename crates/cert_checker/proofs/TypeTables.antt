-- The sets of the types of a module's specs.
use Rattle.std.proofs.Common.{◌≡◌, refl, sym, ◌∙◌, ap, subst, ℕ, ◌+◌, List, [], ◌∷◌, ◌++◌, length, take, arith, length-append}
use Rattle.std.specs.Prelude.{Some, map, slice_get}
use Rattle.type_terms.specs.declared.term.Term.{Term}
use Rattle.type_terms.specs.declared.spec.Arrow.{Arrow}
use Rattle.key_sets.specs.declared.key_set.KeySet.{KeySet}
use Rattle.erl_tree.specs.declared.token.Node.{Node}
use Rattle.erl_tree.specs.declared.type_expr.TypeKind.{TypeKind}
use Rattle.erl_tree.specs.declared.form.SpecKind.{SpecKind}
use Rattle.erl_tree.specs.declared.form.SpecClauseKind.{SpecClauseKind}
use Rattle.erl_tree.specs.declared.form.TreeForm.{TreeForm}
use Rattle.erl_tree.specs.declared.form.TreeForm.TheVariants as F
use Rattle.erl_runs.specs.Specs.{and_then, all_present}
use Rattle.flat_modules.specs.FlatSpecs.{type_term, clause_arrow}
use Rattle.cert_checker.specs.declared.spec_table.FunctionTypes.{FunctionTypes}
use Rattle.cert_checker.specs.declared.spec_table.FormTypes.{FormTypes}
use Rattle.cert_checker.specs.declared.spec_table.FormTypes.TheVariants.{Spec}
use Rattle.cert_checker.specs.FlatTypes.{IsSetOf, AreSetsOf}
use Rattle.cert_checker.specs.SpecTables.{IsFirstArrow, HasTypesOf, IsTypesOf, HaveTypes, kind_arrow, IsFlatForm, IsFlatSpec, IsFlatSpecClause}
use Rattle.cert_checker.proofs.Lists.{some-inj, then-some}
use Rattle.cert_checker.proofs.Takes.{take-more, present-more, get-before, get-last, below-or-there}

sets-append : (ss : List KeySet) (ts : List Term) (s : KeySet) (t : Term) → AreSetsOf ss ts → IsSetOf s t → AreSetsOf (ss ++ s ∷ []) (ts ++ t ∷ [])
sets-append [] [] s t h k = (k, tt)
sets-append (r ∷ ss) (u ∷ ts) s t h k = (h.0, sets-append ss ts s t h.1 k)
sets-append [] (u ∷ ts) s t h k = absurd h
sets-append (r ∷ ss) [] s t h k = absurd h

-- the sets of the types so far, and of one more
pub sets-more : (types : List (Node TypeKind)) (i : ℕ) (ty : Node TypeKind) (sets new : List KeySet) (set : KeySet) → slice_get types i ≡ Some ty → new ≡ sets ++ set ∷ [] → ((t : Term) → type_term ty ≡ Some t → IsSetOf set t) →
    ((terms : List Term) → all_present (map type_term (take i types)) ≡ Some terms → AreSetsOf sets terms) → (terms : List Term) → all_present (map type_term (take (i + 1) types)) ≡ Some terms → AreSetsOf new terms
sets-more types i ty sets new set e q h k terms p =
    let r : (us : List Term) × (u : Term) × (all_present (map type_term (take i types)) ≡ Some us) × (type_term ty ≡ Some u) × (terms ≡ us ++ u ∷ []) =
    present-more type_term (take i types) ty terms (ap (λ z. all_present (map type_term z)) (sym (take-more types i ty e)) ∙ p) in
    subst (λ z. AreSetsOf z terms) (sym q) (subst (λ z. AreSetsOf (sets ++ set ∷ []) z) (sym r.4) (sets-append sets r.0 set r.1 (k r.0 r.2) (h r.1 r.3)))

pub clause-types : (c : SpecClauseKind) (f : FunctionTypes) → ((terms : List Term) → all_present (map type_term c.params) ≡ Some terms → AreSetsOf f.params terms) → ((t : Term) → type_term c.result ≡ Some t → IsSetOf f.result t) → (arrow : Arrow) → kind_arrow c ≡ Some arrow → HasTypesOf f arrow
clause-types c f h k arrow e =
    let p : (ps : List Term) × (all_present (map type_term c.params) ≡ Some ps) × (and_then (type_term c.result) (λ result. Some (record { params = ps; result = result })) ≡ Some arrow) = then-some (all_present (map type_term c.params)) _ arrow e in
    let r : (t : Term) × (type_term c.result ≡ Some t) × (Some (record { params = p.0; result = t }) ≡ Some arrow) = then-some (type_term c.result) _ arrow p.2 in
    subst (HasTypesOf f) (some-inj _ arrow r.2) (record { params = h p.0 p.1; result = k r.0 r.1 })

-- the first clause's arrow
pub first-kind : (cs : List (Node SpecClauseKind)) (c : Node SpecClauseKind) (kind : SpecClauseKind) (arrow : Arrow) → Some c ≡ slice_get cs 0 → kind ≡ c.kind → IsFirstArrow cs arrow → kind_arrow kind ≡ Some arrow
first-kind cs c kind arrow e q h = ap kind_arrow q ∙ (ap clause_arrow (some-inj c h.0 (e ∙ h.1)) ∙ h.2)

-- the types of the forms so far, and of one more
pub types-more : (forms : List TreeForm) (i : ℕ) (form : TreeForm) (types new : List FormTypes) (t : FormTypes) → slice_get forms i ≡ Some form → new ≡ types ++ t ∷ [] → IsTypesOf form t → HaveTypes forms i types → HaveTypes forms (i + 1) new
types-more forms i form types new t e q h k = subst (HaveTypes forms (i + 1)) (sym q) (record {
  as_many = length-append types (t ∷ []) ∙ (let l : length types ≡ i = k.as_many in omega arith);
  each = λ j other l g. below-or-there j i l
      (λ b. let r : (u : FormTypes) × (slice_get types j ≡ Some u) × IsTypesOf other u = k.each j other b g in (r.0, get-before types (t ∷ []) j r.0 r.1, r.2))
      (λ b. (t, get-last types j t (k.as_many ∙ sym b), subst (λ z. IsTypesOf z t) (some-inj form other (sym e ∙ (ap (slice_get forms) (sym b) ∙ g))) h));
})

pub no-types : (forms : List TreeForm) (types : List FormTypes) → types ≡ [] → HaveTypes forms 0 types
no-types forms types e = subst (HaveTypes forms 0) (sym e) (record { as_many = refl; each = λ k form l g. absurd (omega arith) })

pub no-sets : (sets : List KeySet) (terms : List Term) → sets ≡ [] → [] ≡ terms → AreSetsOf sets terms
no-sets sets terms e q = subst (λ z. AreSetsOf z terms) (sym e) (subst (λ z. AreSetsOf [] z) q tt)

pub form-types : (form : TreeForm) (s : Node SpecKind) (kind : SpecKind) (f : FunctionTypes) → form ≡ F.Spec s → kind ≡ s.kind → ((arrow : Arrow) → IsFirstArrow kind.clauses arrow → HasTypesOf f arrow) → IsTypesOf form (Spec f)
form-types form s kind f e q h = subst (λ z. IsTypesOf z (Spec f)) (sym e) (f, refl, subst (λ (z : SpecKind). (arrow : Arrow) → IsFirstArrow z.clauses arrow → HasTypesOf f arrow) q h)

pub form-flat : (form : TreeForm) (s : Node SpecKind) (kind : SpecKind) → form ≡ F.Spec s → kind ≡ s.kind → IsFlatForm form → IsFlatSpec kind.clauses
form-flat form s kind e q h = subst (λ (z : SpecKind). IsFlatSpec z.clauses) (sym q) (subst IsFlatForm e h)

pub other-types : (form : TreeForm) (t : FormTypes) → ((s : Node SpecKind) → form ≡ F.Spec s → ⊥) → IsTypesOf form t
other-types (F.Spec s) t h = absurd (h s refl)
other-types (F.Function f) t h = tt
other-types (F.Export f) t h = tt
other-types (F.RecDef f) t h = tt
other-types (F.TypeDef f) t h = tt
other-types (F.Skipped f) t h = tt

pub spec-first : (cs : List (Node SpecClauseKind)) (c : Node SpecClauseKind) (kind : SpecClauseKind) → Some c ≡ slice_get cs 0 → kind ≡ c.kind → IsFlatSpec cs → IsFlatSpecClause kind
spec-first cs c kind e q h = subst IsFlatSpecClause (sym q) (subst (λ (z : Node SpecClauseKind). IsFlatSpecClause z.kind) (sym (some-inj c h.0 (e ∙ h.1))) h.2)
