-- The tests of the forms and of their names say together that a module is flat.
use Rattle.std.proofs.Common.{◌≡◌, List, [], ◌∷◌, ◌↔◌, Bool, true, false, refl, sym, ap, ◌∙◌, subst, true≢false, Option, Some, None, is_some}
use Rattle.std.specs.Prelude.{IsTrue, IsSome, IfOk, Result, Ok, Err}
use Rattle.std.specs.Option.{unwrap_or}
use Rattle.type_terms.specs.declared.list.NoMemory.{NoMemory}
use Rattle.type_terms.specs.declared.spec.FunSpec.{FunSpec}
use Rattle.erl_tree.specs.declared.form.TreeForm.{TreeForm}
use Rattle.erl_tree.specs.declared.form.TreeForm.TheVariants as F
use Rattle.erl_tree.specs.declared.form.Module.{Module}
use Rattle.erl_tree.specs.Lists.{Every, AreDistinct}
use Rattle.erl_tree.specs.Functions.{FunctionId, functions_in, function_ids}
use Rattle.erl_runs.specs.Specs.{specs_in}
use Rattle.flat_modules.specs.FlatSpecs.{function_spec, read_specs, specs_of}
use Rattle.erl_grammar.specs.FormGrammar.{IsModule}
use Rattle.erl_grammar.specs.FormNesting.{IsModuleWithin}
use Rattle.erl_grammar.specs.Nesting.{nesting_limit}
use Rattle.erl_grammar.specs.Texts.{HasIntegersInLimit}
use Rattle.text_reader_rules.specs.Readable.{IsReadable}
use Rattle.flat_modules.specs.FlatNames.{FunctionCallsOnly}
use Rattle.flat_modules.specs.Flat.{is_flat}
use Rattle.flat_modules.specs.FlatModules.{HasDistinctHeads, IsFlatModule}
use Rattle.flat_modules.proofs.FlatLaws.{flat-formed}
use Rattle.flat_modules.proofs.RightFlatNames.{right-flat-names}
use Rattle.flat_modules.proofs.DistinctSpecs.{flat-specs}
use Rattle.flat_tests.specs.Names.{names_in, FormCallsOnly, IsRightForm, HasMatchingNames}
use Rattle.flat_tests.proofs.SpecTerms.{all-some, some-all}
use Rattle.flat_tests.proofs.FunctionNames.{defined}

-- ---- right forms

right_specs : (forms : List TreeForm) → Every IsRightForm forms → Every (λ s. IsSome (function_spec s)) (specs_in forms)
right_specs [] h = tt
right_specs (F.Spec s ∷ forms) h = (h.0, right_specs forms h.1)
right_specs (_ ∷ forms) h = right_specs forms h.1

right_functions : (forms : List TreeForm) → Every IsRightForm forms → Every HasDistinctHeads (functions_in forms)
right_functions [] h = tt
right_functions (F.Function f ∷ forms) h = (h.0, right_functions forms h.1)
right_functions (_ ∷ forms) h = right_functions forms h.1

right_forms : (forms : List TreeForm) → Every (λ s. IsSome (function_spec s)) (specs_in forms) → Every HasDistinctHeads (functions_in forms) → Every IsRightForm forms
right_forms [] h g = tt
right_forms (F.Spec s ∷ forms) h g = (h.0, right_forms forms h.1 g)
right_forms (F.Function f ∷ forms) h g = (g.0, right_forms forms h g.1)
right_forms (_ ∷ forms) h g = (tt, right_forms forms h g)

-- ---- calls

form_calls : (ids : List FunctionId) (forms : List TreeForm) → Every (FormCallsOnly ids) forms → Every (FunctionCallsOnly ids) (functions_in forms)
form_calls ids [] h = tt
form_calls ids (F.Function f ∷ forms) h = (h.0, form_calls ids forms h.1)
form_calls ids (_ ∷ forms) h = form_calls ids forms h.1

calls_of_forms : (ids : List FunctionId) (forms : List TreeForm) → Every (FunctionCallsOnly ids) (functions_in forms) → Every (FormCallsOnly ids) forms
calls_of_forms ids [] h = tt
calls_of_forms ids (F.Function f ∷ forms) h = (h.0, calls_of_forms ids forms h.1)
calls_of_forms ids (_ ∷ forms) h = (tt, calls_of_forms ids forms h)

-- ---- specs

there : (o : Option (List FunSpec)) → IsSome o → o ≡ Some (unwrap_or o [])
there None h = absurd (true≢false (sym h))
there (Some fs) h = refl

specs_there : (m : Module) → IsSome (read_specs m) → read_specs m ≡ Some (specs_of m)
unfolding specs_of
specs_there m h = there (read_specs m) h

-- ---- the whole

pub flat : (m : Module) → IsModule m → IsModuleWithin nesting_limit m → HasIntegersInLimit m → IsReadable m → is_flat m ≡ true → Every IsRightForm m.forms → HasMatchingNames m.forms → IsFlatModule m
flat m well_formed within in_limit readable passes forms names =
    let read : read_specs m ≡ Some (specs_of m) = specs_there m (all-some function_spec (specs_in m.forms) (right_specs m.forms forms)) in
    let ids : names_in m.forms ≡ function_ids m = defined m.forms in
    record {
      well_formed = well_formed;
      flat = passes;
      readable = readable;
      flat_specs = flat-specs m readable read;
      distinct_heads = right_functions m.forms forms;
      own_calls = form_calls (function_ids m) m.forms (subst (λ s. Every (FormCallsOnly s) m.forms) ids names.calls_defined);
      within = within;
      in_limit = in_limit;
    }

pub flat_forms : (m : Module) → IsFlatModule m → Every IsRightForm m.forms
flat_forms m h = right_forms m.forms (some-all function_spec (specs_in m.forms) (ap is_some h.flat_specs.specs_read)) h.distinct_heads

pub flat_names : (m : Module) → IsFlatModule m → HasMatchingNames m.forms
flat_names m h =
    let ids : function_ids m ≡ names_in m.forms = sym (defined m.forms) in
    record {
      defined_once = subst AreDistinct ids (right-flat-names m (flat-formed m h) h.readable.right_names h.flat_specs).functions_distinct;
      calls_defined = subst (λ s. Every (FormCallsOnly s) m.forms) ids (calls_of_forms (function_ids m) m.forms h.own_calls);
    }

-- ---- what the test of a module answers

pub not_flat : (m : Module) (b : Bool) → b ≡ is_flat m → b ≡ false → IsFlatModule m → IsTrue false
not_flat m b is fails h = absurd (true≢false (sym h.flat ∙ (sym is ∙ fails)))

module _ (m : Module) (forms : List TreeForm) (of_module : forms ≡ m.forms) where
  module _ (a : Bool) (says : IsTrue a ↔ Every IsRightForm forms) where
    pub wrong_forms : a ≡ false → IsFlatModule m → IsTrue false
    wrong_forms fails h = absurd (true≢false (sym (says.1 (subst (Every IsRightForm) (sym of_module) (flat_forms m h))) ∙ fails))

    module _ (r : Result Bool NoMemory) (tells : IfOk r (λ b. IsTrue b ↔ HasMatchingNames forms)) where
      pub sound : IsModule m → IsModuleWithin nesting_limit m → HasIntegersInLimit m → IsReadable m → is_flat m ≡ true → a ≡ true → IfOk r (λ b. IsTrue b → IsFlatModule m)
      sound well_formed within in_limit readable passes holds = by r tells
        where
          by : (q : Result Bool NoMemory) → IfOk q (λ b. IsTrue b ↔ HasMatchingNames forms) → IfOk q (λ b. IsTrue b → IsFlatModule m)
          by (Ok b) t = λ e. flat m well_formed within in_limit readable passes (subst (Every IsRightForm) of_module (says.0 holds)) (subst HasMatchingNames of_module (t.0 e))
          by (Err e) t = t

      pub complete : IfOk r (λ b. IsFlatModule m → IsTrue b)
      complete = by r tells
        where
          by : (q : Result Bool NoMemory) → IfOk q (λ b. IsTrue b ↔ HasMatchingNames forms) → IfOk q (λ b. IsFlatModule m → IsTrue b)
          by (Ok b) t = λ h. t.1 (subst HasMatchingNames (sym of_module) (flat_names m h))
          by (Err e) t = t
