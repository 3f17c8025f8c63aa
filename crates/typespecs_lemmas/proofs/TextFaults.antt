-- A module in whose text nothing is wrong: nothing is wrong with its type expressions, and no record and no bound leads back to itself.
use Rattle.std.proofs.Common.{◌≡◌, refl, ap, sym, subst, ◌∙◌, ⊎_elim, ◌⊎◌, inl, inr, ℕ, zero, suc, List, [], ◌∷◌, ◌++◌, map, get_or}
use Rattle.std.specs.Prelude.{Some, slice_get}
use Rattle.std.specs.List.{Contains}
use Rattle.type_terms.specs.Keys.{Name}
use Rattle.type_terms.specs.Paths.{IsPath, edge, onward}
use Rattle.type_terms.proofs.Contained.{contains-none, contains-cases}
use Rattle.erl_tree.specs.declared.token.Node.{Node}
use Rattle.erl_tree.specs.declared.type_expr.TypeKind.{TypeKind}
use Rattle.erl_tree.specs.declared.form.TypeDefKind.{TypeDefKind}
use Rattle.erl_tree.specs.declared.form.RecFieldKind.{RecFieldKind}
use Rattle.erl_tree.specs.declared.form.RecDefKind.{RecDefKind}
use Rattle.erl_tree.specs.declared.form.SpecKind.{SpecKind}
use Rattle.erl_tree.specs.declared.form.SpecClauseKind.{SpecClauseKind}
use Rattle.erl_tree.specs.declared.form.TreeForm.{TreeForm}
use Rattle.erl_tree.specs.declared.form.TreeForm.TheVariants as F
use Rattle.erl_tree.specs.declared.form.Module.{Module}
use Rattle.erl_tree.specs.Lists.{Among}
use Rattle.erl_runs.specs.Records.{fields_of, records_in}
use Rattle.erl_runs.specs.Specs.{specs_in}
use Rattle.typespecs_rules.specs.declared.fault.PlacedFault.{PlacedFault}
use Rattle.typespecs_rules.specs.TypeParts.{from_each}
use Rattle.typespecs_rules.specs.Declarations.{Declarations, declarations_of, types_in}
use Rattle.typespecs_rules.specs.TypeVariables.{clause_types}
use Rattle.typespecs_rules.specs.Bounds.{IsCyclic}
use Rattle.typespecs_rules.specs.RegularUse.{by_number, all_types, field_types, expanded_by, expansion_graph}
use Rattle.typespecs_rules.specs.TypeFaults.{type_faults, any_variable, no_variable, stands_among, form_faults, forms_faults, behind, Behind, declared_fields_faults, clause_faults, clauses_faults, listed_faults, spec_clauses, IsTextFault, at_one_place, bound_leads_back, not_regular}
use Rattle.typespecs_rules.proofs.RightTypes.{nil-parts}
use Rattle.typespecs_lemmas.specs.Acyclic.{HasNoInfiniteRecord}

-- ---- lists

pub contains-among : {A : Type 0} (x : A) (xs : List A) → Contains xs x → Among x xs
contains-among x [] c = absurd (contains-none x c)
contains-among x (y ∷ xs) c = ⊎_elim (λ e. inl (sym e)) (λ r. inr (contains-among x xs r)) (contains-cases y x xs c)

pub among-cases : {A : Type 0} (x : A) (xs ys : List A) → Among x (xs ++ ys) → Among x xs ⊎ Among x ys
among-cases x [] ys a = inr a
among-cases x (y ∷ xs) ys a = ⊎_elim (λ e. inl (inl e)) (λ r. ⊎_elim (λ l. inl (inr l)) (λ s. inr s) (among-cases x xs ys r)) a

pub among-source : {A B : Type 0} (f : A → List B) (y : B) (xs : List A) → Among y (from_each f xs) → (x : A) × Among x xs × Among y (f x)
among-source f y [] a = absurd a
among-source f y (x ∷ xs) a = ⊎_elim (λ l. (x, inl refl, l)) (λ r. let s = among-source f y xs r in (s.0, inr s.1, s.2)) (among-cases y (f x) (from_each f xs) a)

-- none of those that each element gives
pub nil-each : {A B : Type 0} (f : A → List B) (x : A) (xs : List A) → from_each f xs ≡ [] → Among x xs → f x ≡ []
nil-each f x [] e a = absurd a
nil-each f x (y ∷ xs) e a = let h = nil-parts (f y) (from_each f xs) e in ⊎_elim (λ q. ap f q ∙ h.0) (λ r. nil-each f x xs h.1 r) a

none-at-all : {A : Type 0} (xs : List A) → ((x : A) → Among x xs → ⊥) → xs ≡ []
none-at-all [] h = refl
none-at-all (x ∷ xs) h = absurd (h x (inl refl))

pub got-mapped : {A B : Type 0} (f : A → List B) (xs : List A) (i : ℕ) (y : B) → Contains (get_or (map f xs) i []) y → (x : A) × (slice_get xs i ≡ Some x) × Contains (f x) y
got-mapped f [] i y c = absurd (contains-none y c)
got-mapped f (x ∷ xs) zero y c = (x, refl, c)
got-mapped f (x ∷ xs) (suc i) y c = got-mapped f xs i y c

-- ---- forms

types-right : (declared : Declarations) (forms : List TreeForm) (b : Behind) → forms_faults declared b forms ≡ [] → (d : Node TypeDefKind) → Among d (types_in forms) → type_faults declared (λ x. stands_among x d.kind.params) d.kind.body ≡ []
types-right declared [] b e d a = absurd a
types-right declared (F.TypeDef q ∷ forms) b e d a =
    let h = nil-parts (form_faults declared b (F.TypeDef q)) (forms_faults declared (behind (F.TypeDef q) b) forms) e in
    ⊎_elim (λ s. subst (λ (t : Node TypeDefKind). type_faults declared (λ x. stands_among x t.kind.params) t.kind.body ≡ []) (sym s) (nil-parts _ _ h.0).1) (λ r. types-right declared forms (behind (F.TypeDef q) b) h.1 d r) a
types-right declared (F.RecDef q ∷ forms) b e d a = types-right declared forms (behind (F.RecDef q) b) (nil-parts (form_faults declared b (F.RecDef q)) (forms_faults declared (behind (F.RecDef q) b) forms) e).1 d a
types-right declared (F.Spec q ∷ forms) b e d a = types-right declared forms (behind (F.Spec q) b) (nil-parts (form_faults declared b (F.Spec q)) (forms_faults declared (behind (F.Spec q) b) forms) e).1 d a
types-right declared (F.Export q ∷ forms) b e d a = types-right declared forms b e d a
types-right declared (F.Skipped q ∷ forms) b e d a = types-right declared forms b e d a
types-right declared (F.Function q ∷ forms) b e d a = types-right declared forms b e d a

fields-right : (declared : Declarations) (before : List Name) (fs : List (Node RecFieldKind)) → declared_fields_faults declared before fs ≡ [] → (f : RecFieldKind) → Among f (map (λ g. g.kind) fs) → (t : Node TypeKind) → f.ty ≡ Some t → type_faults declared no_variable t ≡ []
fields-right declared before [] e f a t q = absurd a
fields-right declared before (g ∷ fs) e f a t q =
    let h = nil-parts _ _ (nil-parts _ _ (nil-parts _ _ e).1).1 in
    ⊎_elim (λ s. nil-each (type_faults declared no_variable) t (field_types g.kind.ty) h.0 (subst (λ o. Among t (field_types o)) (sym (ap (λ (r : RecFieldKind). r.ty) (sym s) ∙ q)) (inl refl))) (λ r. fields-right declared (g.kind.name ∷ before) fs h.1 f r t q) a

records-right : (declared : Declarations) (forms : List TreeForm) (b : Behind) → forms_faults declared b forms ≡ [] → (r : RecDefKind) → Among r (records_in forms) → (f : RecFieldKind) → Among f (fields_of r) → (t : Node TypeKind) → f.ty ≡ Some t → type_faults declared no_variable t ≡ []
records-right declared [] b e r a f i t s = absurd a
records-right declared (F.RecDef q ∷ forms) b e r a f i t s =
    let h = nil-parts (form_faults declared b (F.RecDef q)) (forms_faults declared (behind (F.RecDef q) b) forms) e in
    ⊎_elim (λ p. fields-right declared [] q.kind.fields (nil-parts _ _ h.0).1 f (subst (λ (k : RecDefKind). Among f (fields_of k)) p i) t s) (λ p. records-right declared forms (behind (F.RecDef q) b) h.1 r p f i t s) a
records-right declared (F.TypeDef q ∷ forms) b e r a f i t s = records-right declared forms (behind (F.TypeDef q) b) (nil-parts (form_faults declared b (F.TypeDef q)) (forms_faults declared (behind (F.TypeDef q) b) forms) e).1 r a f i t s
records-right declared (F.Spec q ∷ forms) b e r a f i t s = records-right declared forms (behind (F.Spec q) b) (nil-parts (form_faults declared b (F.Spec q)) (forms_faults declared (behind (F.Spec q) b) forms) e).1 r a f i t s
records-right declared (F.Export q ∷ forms) b e r a f i t s = records-right declared forms b e r a f i t s
records-right declared (F.Skipped q ∷ forms) b e r a f i t s = records-right declared forms b e r a f i t s
records-right declared (F.Function q ∷ forms) b e r a f i t s = records-right declared forms b e r a f i t s

clauses-right : (declared : Declarations) (cs : List (Node SpecClauseKind)) → clauses_faults declared cs ≡ [] → (c : Node SpecClauseKind) → Among c cs → (t : Node TypeKind) → Among t (clause_types c.kind) → type_faults declared any_variable t ≡ []
clauses-right declared [] e c a t i = absurd a
clauses-right declared (d ∷ cs) e c a t i =
    let own = nil-each (clause_faults declared) c (d ∷ cs) (nil-parts _ (from_each (clause_faults declared) (d ∷ cs)) e).1 a in
    nil-each (type_faults declared any_variable) t (clause_types c.kind) (nil-parts _ _ own).1 i

specs-right : (declared : Declarations) (forms : List TreeForm) (b : Behind) → forms_faults declared b forms ≡ [] → (s : Node SpecKind) → Among s (specs_in forms) → clauses_faults declared s.kind.clauses ≡ []
specs-right declared [] b e s a = absurd a
specs-right declared (F.Spec q ∷ forms) b e s a =
    let h = nil-parts (form_faults declared b (F.Spec q)) (forms_faults declared (behind (F.Spec q) b) forms) e in
    ⊎_elim (λ p. subst (λ (k : Node SpecKind). clauses_faults declared k.kind.clauses ≡ []) (sym p) (nil-parts _ _ h.0).1) (λ r. specs-right declared forms (behind (F.Spec q) b) h.1 s r) a
specs-right declared (F.TypeDef q ∷ forms) b e s a = specs-right declared forms (behind (F.TypeDef q) b) (nil-parts (form_faults declared b (F.TypeDef q)) (forms_faults declared (behind (F.TypeDef q) b) forms) e).1 s a
specs-right declared (F.RecDef q ∷ forms) b e s a = specs-right declared forms (behind (F.RecDef q) b) (nil-parts (form_faults declared b (F.RecDef q)) (forms_faults declared (behind (F.RecDef q) b) forms) e).1 s a
specs-right declared (F.Export q ∷ forms) b e s a = specs-right declared forms b e s a
specs-right declared (F.Skipped q ∷ forms) b e s a = specs-right declared forms b e s a
specs-right declared (F.Function q ∷ forms) b e s a = specs-right declared forms b e s a

-- ---- paths

-- the first step of a path
first-step : (graph : List (List ℕ)) (n m : ℕ) → IsPath graph n m → (k : ℕ) × Contains (get_or graph n []) k × ((k ≡ m) ⊎ IsPath graph k m)
first-step graph n _ (edge _ m c) = (m, c, inl refl)
first-step graph n _ (onward _ b m p c) =
    let h = first-step graph n b p in
    (h.0, h.1, ⊎_elim (λ e. inr (edge h.0 m (subst (λ x. Contains (get_or graph x []) m) (sym e) c))) (λ q. inr (onward h.0 b m q c)) h.2)

-- ---- modules

module _ (m : Module) (right : (f : PlacedFault) → IsTextFault m f → ⊥) where
  none-listed : listed_faults m ≡ []
  none-listed = none-at-all (listed_faults m) (λ f a. right f (at_one_place f a))

  pub type-is-right : (d : Node TypeDefKind) → Among d (types_in m.forms) → type_faults (declarations_of m) (λ x. stands_among x d.kind.params) d.kind.body ≡ []
  type-is-right d a = types-right (declarations_of m) m.forms _ none-listed d a

  pub field-is-right : (r : RecDefKind) → Among r (declarations_of m).records → (f : RecFieldKind) → Among f (fields_of r) → (t : Node TypeKind) → f.ty ≡ Some t → type_faults (declarations_of m) no_variable t ≡ []
  field-is-right r a f i t e = records-right (declarations_of m) m.forms _ none-listed r a f i t e

  pub clause-is-right : (s : Node SpecKind) → Among s (specs_in m.forms) → (c : Node SpecClauseKind) → Among c s.kind.clauses → (t : Node TypeKind) → Among t (clause_types c.kind) → type_faults (declarations_of m) any_variable t ≡ []
  clause-is-right s a c i t u = clauses-right (declarations_of m) s.kind.clauses (specs-right (declarations_of m) m.forms _ none-listed s a) c i t u

  pub no-cyclic-bound : (c : Node SpecClauseKind) → Among c (spec_clauses m) → IsCyclic c.kind.bounds → ⊥
  no-cyclic-bound c a cycle = right _ (bound_leads_back c a cycle)

  -- no record leads back to itself
  pub no-infinite-record : HasNoInfiniteRecord (declarations_of m)
  no-infinite-record n p =
      let h = first-step (expansion_graph (declarations_of m)) n n p in
      let back : IsPath (expansion_graph (declarations_of m)) h.0 n = ⊎_elim (λ e. subst (λ k. IsPath (expansion_graph (declarations_of m)) k n) (sym e) p) (λ q. q) h.2 in
      let at = got-mapped (λ d. from_each (expanded_by (declarations_of m)) (all_types d)) (by_number (declarations_of m)) n h.0 h.1 in
      let standing = among-source (expanded_by (declarations_of m)) h.0 (all_types at.0) (contains-among h.0 _ at.2) in
      right _ (not_regular standing.0 (record { number = n; declaration = at.0; numbered = at.1; inside = standing.1; why = inr (h.0, standing.2, back) }))
