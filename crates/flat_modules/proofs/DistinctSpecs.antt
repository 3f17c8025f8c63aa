-- Where nothing is wrong with a module's specs, no function has two.
use Rattle.std.proofs.Common.{◌≡◌, refl, sym, subst, List, [], ◌∷◌, map, inl, inr, Bool, true, false}
use Rattle.std.specs.Prelude.{Some, not}
use Rattle.std.specs.List.{list_any}
use Rattle.erl_tree.specs.Lists.{Every, Among, AreDistinct}
use Rattle.erl_tree.specs.Functions.{FunctionId}
use Rattle.erl_tree.specs.declared.token.Place.{Place}
use Rattle.erl_tree.specs.declared.token.Node.{Node}
use Rattle.erl_tree.specs.declared.form.SpecKind.{SpecKind}
use Rattle.erl_tree.specs.declared.form.TreeForm.{TreeForm}
use Rattle.erl_tree.specs.declared.form.TreeForm.TheVariants as F
use Rattle.erl_tree.specs.declared.form.Module.{Module}
use Rattle.erl_grammar.proofs.Layers.{each}
use Rattle.erl_runs.specs.Names.{same_id}
use Rattle.erl_runs.specs.Specs.{specified_id, specs_in}
use Rattle.typespecs_rules.specs.Declarations.{Declarations, declarations_of}
use Rattle.typespecs_rules.specs.declared.fault.TypeFault.{TypeFault}
use Rattle.typespecs_rules.specs.declared.fault.TypeFault.TheVariants.{Repeated}
use Rattle.typespecs_rules.specs.TypeFaults.{unless, Behind, behind, form_faults, forms_faults, spec_form_faults, clauses_faults, listed_faults, at_one_place}
use Rattle.text_reader_rules.specs.Readable.{IsReadable}
use Rattle.flat_modules.specs.FlatSpecs.{read_specs, specs_of, HasFlatSpecs}
use Rattle.flat_modules.proofs.Lists.{every-so}
use Rattle.flat_modules.proofs.SeenVariables.{append-none}
use Rattle.flat_modules.proofs.RightFlatNames.{none-among, names-read}

-- a list with no element is empty
empty : {A : Type 0} (xs : List A) → ((x : A) → Among x xs → ⊥) → xs ≡ []
empty [] h = refl
empty (x ∷ xs) h = absurd (h x (inl refl))

-- there is no fault only where the test fails
unless-not : (holds : Bool) (fault : TypeFault) (place : Place) → unless (not holds) fault place ≡ [] → holds ≡ false
unless-not false fault place h = refl
unless-not true fault place h = absurd (cc)

-- specs are of different functions, and of others than those before
record AreNew (before : List FunctionId) (forms : List TreeForm) : Type 0 where
  distinct : AreDistinct (map specified_id (specs_in forms))
  other : Every (λ id. Among id before → ⊥) (map specified_id (specs_in forms))

module _ (declared : Declarations) where
  with-spec : (before : List FunctionId) (s : Node SpecKind) (forms : List TreeForm) → spec_form_faults declared before s ≡ [] → AreNew (specified_id s ∷ before) forms → AreNew before (F.Spec s ∷ forms)
  with-spec before s forms h more =
      let own : (unless (not (list_any (same_id (specified_id s)) before)) Repeated s.place ≡ []) × (clauses_faults declared s.kind.clauses ≡ []) = append-none _ _ h in
      let others : List FunctionId = map specified_id (specs_in forms) in
      record {
        distinct = ((λ i. each (λ id. Among id (specified_id s ∷ before) → ⊥) others more.other (specified_id s) i (inl refl)), more.distinct);
        other = (none-among (specified_id s) before (unless-not _ Repeated s.place own.0), every-so (λ id. Among id (specified_id s ∷ before) → ⊥) (λ id. Among id before → ⊥) others (λ id away i. away (inr i)) more.other);
      }

  new-specs : (b : Behind) (forms : List TreeForm) → forms_faults declared b forms ≡ [] → AreNew b.specs forms
  new-specs b [] h = record { distinct = tt; other = tt }
  new-specs b (F.Spec s ∷ forms) h =
      let parts : (spec_form_faults declared b.specs s ≡ []) × (forms_faults declared (behind (F.Spec s) b) forms ≡ []) = append-none _ _ h in
      with-spec b.specs s forms parts.0 (new-specs (behind (F.Spec s) b) forms parts.1)
  new-specs b (F.TypeDef d ∷ forms) h = passed (new-specs (behind (F.TypeDef d) b) forms (append-none (form_faults declared b (F.TypeDef d)) _ h).1)
    where
      passed : AreNew b.specs forms → AreNew b.specs (F.TypeDef d ∷ forms)
      passed n = record { distinct = n.distinct; other = n.other }
  new-specs b (F.RecDef r ∷ forms) h = passed (new-specs (behind (F.RecDef r) b) forms (append-none (form_faults declared b (F.RecDef r)) _ h).1)
    where
      passed : AreNew b.specs forms → AreNew b.specs (F.RecDef r ∷ forms)
      passed n = record { distinct = n.distinct; other = n.other }
  new-specs b (F.Export e ∷ forms) h = passed (new-specs b forms h)
    where
      passed : AreNew b.specs forms → AreNew b.specs (F.Export e ∷ forms)
      passed n = record { distinct = n.distinct; other = n.other }
  new-specs b (F.Skipped s ∷ forms) h = passed (new-specs b forms h)
    where
      passed : AreNew b.specs forms → AreNew b.specs (F.Skipped s ∷ forms)
      passed n = record { distinct = n.distinct; other = n.other }
  new-specs b (F.Function f ∷ forms) h = passed (new-specs b forms h)
    where
      passed : AreNew b.specs forms → AreNew b.specs (F.Function f ∷ forms)
      passed n = record { distinct = n.distinct; other = n.other }

-- in a readable module it is enough that each spec has terms
pub flat-specs : (m : Module) → IsReadable m → read_specs m ≡ Some (specs_of m) → HasFlatSpecs m
flat-specs m r read =
    let listed : listed_faults m ≡ [] = empty (listed_faults m) (λ f a. r.has_specs.terms.no_fault f (at_one_place f a)) in
    let new : AreNew [] m.forms = new-specs (declarations_of m) (record { types = []; records = []; specs = [] }) m.forms listed in
    record {
      specs_read = read;
      specs_distinct = subst AreDistinct (sym (names-read (specs_in m.forms) (specs_of m) read)) new.distinct;
    }
