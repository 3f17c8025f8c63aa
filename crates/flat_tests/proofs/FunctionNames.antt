-- The functions that forms define, and the tables of them.
use Rattle.std.proofs.Common.{◌≡◌, ℕ, ◌+◌, ◌<◌, ◌≤◌, inl, ◌↔◌, Bool, true, false, List, [], ◌∷◌, ◌++◌, length, drop, get_or, map, refl, sym, ap, ◌∙◌, subst, true≢false, Option, Some, None, is_some, append_assoc, append-nil}
use Rattle.std.specs.Prelude.{IsTrue, IfOk, MatchOption, Result, Ok, Err}
use Rattle.std.proofs.lemmas.List.{drop_all}
use Rattle.type_terms.specs.declared.list.NoMemory.{NoMemory}
use Rattle.erl_tree.specs.declared.form.TreeForm.{TreeForm}
use Rattle.erl_tree.specs.declared.form.TreeForm.TheVariants as F
use Rattle.erl_tree.specs.Lists.{Every, Among, AreDistinct}
use Rattle.erl_tree.specs.Functions.{FunctionId, function_id, functions_in}
use Rattle.name_table.specs.Table.{Entry, ids, IsInsertion, IsFound}
use Rattle.name_table.proofs.Distinct.{AreDistinct-push}
use Rattle.name_table.proofs.Lookups.{Among-ids}
use Rattle.flat_tests.specs.Names.{named_by, names_in, FormCallsOnly, HasMatchingNames}
use Rattle.flat_tests.proofs.ForEach.{rest_at}
use Rattle.flat_tests.proofs.Everywhere.{Every-among}
use Rattle.flat_tests.proofs.Variables.{AreDistinct-left, AreDistinct-apart}

-- ---- what the forms define

pub defined : (forms : List TreeForm) → names_in forms ≡ map function_id (functions_in forms)
defined [] = refl
defined (F.Function f ∷ forms) = ap (λ ids. function_id f ∷ ids) (defined forms)
defined (_ ∷ forms) = defined forms

-- ---- an insertion

-- the functions stay distinct where the new one was added, and only there
pub distinct_if_added : (old : List Entry) (id : FunctionId) (n : ℕ) (new : List Entry) (added : Bool) (named : List FunctionId) → named ≡ id ∷ [] → AreDistinct (ids old) → IsInsertion added old id n new → IsTrue added ↔ AreDistinct (ids old ++ named)
distinct_if_added old id n new true named is distinct h = ((λ _. subst (λ ns. AreDistinct (ids old ++ ns)) (sym is) (AreDistinct-push (ids old) id distinct h.0)), λ _. refl)
distinct_if_added old id n new false named is distinct h = (
  (λ e. absurd (true≢false (sym e))),
  λ g. absurd (Every-among (λ x. Among x (id ∷ []) → ⊥) id (ids old) (AreDistinct-apart (ids old) (id ∷ []) (subst (λ ns. AreDistinct (ids old ++ ns)) is g)) h.0 (inl refl)),
)

pub distinct_if_ok : (old : List Entry) (id : FunctionId) (n : ℕ) (new : List Entry) (named : List FunctionId) (r : Result Bool NoMemory) → named ≡ id ∷ [] → AreDistinct (ids old) → IfOk r (λ added. IsInsertion added old id n new) → IfOk r (λ added. IsTrue added ↔ AreDistinct (ids old ++ named))
distinct_if_ok old id n new named (Ok added) is distinct h = distinct_if_added old id n new added named is distinct h
distinct_if_ok old id n new named (Err e) is distinct h = h

-- ---- a look-up

pub named_if_found : (es : List Entry) (id : FunctionId) (o : Option ℕ) (b : Bool) (named : List FunctionId) → named ≡ id ∷ [] → b ≡ is_some o → IsFound es id o → IsTrue b ↔ Every (λ i. Among i (ids es)) named
named_if_found es id (Some n) b named is e h = ((λ _. subst (Every (λ i. Among i (ids es))) (sym is) (Among-ids id n es h, tt)), λ _. e)
named_if_found es id None b named is e h =
    ((λ t. absurd (true≢false (sym t ∙ e))), λ g. absurd (h ((subst (Every (λ i. Among i (ids es))) is g).0)))

pub defined_if_found : (es : List Entry) (id : FunctionId) (o : Option ℕ) (b : Bool) → b ≡ is_some o → IsFound es id o → IsTrue b ↔ Among id (ids es)
defined_if_found es id (Some n) b e h = ((λ _. Among-ids id n es h), λ _. e)
defined_if_found es id None b e h = ((λ t. absurd (true≢false (sym t ∙ e))), λ g. absurd (h g))

-- ---- the table of the functions that forms define

pub record IsGathered (forms : List TreeForm) (i : ℕ) (found : List FunctionId) : Type 0 where
  pub so_far : found ++ names_in (drop i forms) ≡ names_in forms
  pub distinct : AreDistinct found

pub gathered_first : (forms : List TreeForm) → IsGathered forms 0 []
gathered_first forms = record { so_far = refl; distinct = tt }

split : (forms : List TreeForm) (i : ℕ) (form : TreeForm) (found : List FunctionId) → i < length forms → form ≡ get_or forms i form → IsGathered forms i found → (found ++ named_by form) ++ names_in (drop (i + 1) forms) ≡ names_in forms
split forms i form found lt is g = append_assoc found (named_by form) (names_in (drop (i + 1) forms)) ∙ ap (λ rest. found ++ names_in rest) (sym (rest_at forms i form lt is)) ∙ g.so_far

pub gathered_next : (forms : List TreeForm) (i : ℕ) (form : TreeForm) (found new : List FunctionId) (b : Bool) → i < length forms → form ≡ get_or forms i form → IsGathered forms i found → (IsTrue b ↔ AreDistinct (found ++ named_by form)) → b ≡ true → new ≡ found ++ named_by form → IsGathered forms (i + 1) new
gathered_next forms i form found new b lt is g says holds e =
    record { so_far = ap (λ f. f ++ names_in (drop (i + 1) forms)) e ∙ split forms i form found lt is g; distinct = subst AreDistinct (sym e) (says.0 holds) }

pub gathered_twice : (forms : List TreeForm) (i : ℕ) (form : TreeForm) (found : List FunctionId) (b : Bool) → i < length forms → form ≡ get_or forms i form → IsGathered forms i found → (IsTrue b ↔ AreDistinct (found ++ named_by form)) → b ≡ false → AreDistinct (names_in forms) → ⊥
gathered_twice forms i form found b lt is g says fails h =
    true≢false (sym (says.1 (AreDistinct-left (found ++ named_by form) (names_in (drop (i + 1) forms)) (subst AreDistinct (sym (split forms i form found lt is g)) h))) ∙ fails)

pub gathered_last : (forms : List TreeForm) (i : ℕ) (found : List FunctionId) → length forms ≤ i → IsGathered forms i found → found ≡ names_in forms
gathered_last forms i found end g = sym (append-nil found) ∙ ap (λ rest. found ++ names_in rest) (sym (drop_all i forms end)) ∙ g.so_far

-- the table that was made
pub made_table : (forms : List TreeForm) (o : Option (List Entry)) (table : List Entry) → o ≡ Some table
    → MatchOption o (AreDistinct (names_in forms) → ⊥) (λ t. (ids t ≡ names_in forms) × AreDistinct (ids t)) → (ids table ≡ names_in forms) × AreDistinct (ids table)
made_table forms o table e h = subst (λ p. MatchOption p (AreDistinct (names_in forms) → ⊥) (λ t. (ids t ≡ names_in forms) × AreDistinct (ids t))) e h

-- ---- whether each function is defined once

pub defined_twice : (forms : List TreeForm) → (AreDistinct (names_in forms) → ⊥) → IsTrue false ↔ HasMatchingNames forms
defined_twice forms h = ((λ e. absurd (true≢false (sym e))), λ g. absurd (h g.defined_once))

module _ (forms : List TreeForm) (definitions : List FunctionId) (all_definitions : definitions ≡ names_in forms) (distinct : AreDistinct definitions) where
  matching : (d : Bool) → (IsTrue d ↔ Every (FormCallsOnly definitions) forms) → IsTrue d ↔ HasMatchingNames forms
  matching d called = (
    (λ e. record {
      defined_once = subst AreDistinct all_definitions distinct;
      calls_defined = subst (λ s. Every (FormCallsOnly s) forms) all_definitions (called.0 e);
    }),
    λ g. called.1 (subst (λ s. Every (FormCallsOnly s) forms) (sym all_definitions) g.calls_defined),
  )

  pub matching_if_ok : (r : Result Bool NoMemory) → IfOk r (λ d. IsTrue d ↔ Every (FormCallsOnly definitions) forms) → IfOk r (λ d. IsTrue d ↔ HasMatchingNames forms)
  matching_if_ok (Ok d) called = matching d called
  matching_if_ok (Err e) called = called
