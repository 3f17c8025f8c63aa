-- Tables that are filled form by form.
use Rattle.std.proofs.Common.{◌≡◌, ℕ, ◌+◌, ◌<◌, ◌≤◌, ◌^◌, Bool, true, false, not, ◌||◌, List, [], ◌∷◌, ◌++◌, length, drop, get_or, map, inl, inr, refl, sym, ap, ◌∙◌, subst, Option, Some, None, append_assoc, append-nil}
use Rattle.std.specs.Prelude.{if◌then◌else◌}
use Rattle.std.specs.List.{list_any}
use Rattle.std.proofs.lemmas.List.{drop_all}
use Rattle.std.proofs.lemmas.List.Folds.{list_any-append}
use Rattle.type_terms.specs.Keys.{Name, same_name}
use Rattle.erl_tree.specs.declared.token.Node.{Node}
use Rattle.erl_tree.specs.declared.form.Function.{Function}
use Rattle.erl_tree.specs.declared.form.SpecKind.{SpecKind}
use Rattle.erl_tree.specs.declared.form.RecDefKind.{RecDefKind}
use Rattle.erl_tree.specs.declared.form.TreeForm.{TreeForm}
use Rattle.erl_tree.specs.declared.form.TreeForm.TheVariants as F
use Rattle.erl_tree.specs.Lists.{Among}
use Rattle.erl_tree.specs.Functions.{FunctionId, function_id, functions_in}
use Rattle.erl_runs.specs.Names.{same_id, is_built_in}
use Rattle.erl_runs.specs.Records.{find_record, records_in}
use Rattle.name_table.specs.Table.{Entry, ids, IsInsertion}
use Rattle.name_table.proofs.Lookups.{ids-push}
use Rattle.name_table.proofs.Distinct.{Among-append}
use Rattle.erl_scope_rules.specs.ScopeFaults.{defined_by, specified_by}
use Rattle.erl_scope_faults.specs.Bounds.{AreBounded}
use Rattle.erl_scope_faults.specs.FormFaults.{HasSameFunctions, HasSameRecords}
use Rattle.erl_scope_faults.specs.Tables.{IsDeclaration}
use Rattle.erl_scope_faults.proofs.Rows.{rest_at}
use Rattle.erl_scope_faults.proofs.FunctionLookups.{same_id-is, any-if-among, none-if-any}

or-false : (b : Bool) → (b || false) ≡ b
or-false true = refl
or-false false = refl

or-assoc : (a b c : Bool) → ((a || b) || c) ≡ (a || (b || c))
or-assoc true b c = refl
or-assoc false b c = refl

or-swap : (a b : Bool) → (a || b) ≡ (b || a)
or-swap true true = refl
or-swap true false = refl
or-swap false true = refl
or-swap false false = refl

-- what an insertion adds
pub inserted : (b : Bool) (old : List Entry) (f : FunctionId) (n : ℕ) (new : List Entry) → IsInsertion b old f n new → (x : FunctionId) → list_any (same_id x) (ids new) ≡ (list_any (same_id x) (ids old) || same_id x f)
inserted true old f n new h x = ap (λ es. list_any (same_id x) (ids es)) h.1 ∙ (ap (list_any (same_id x)) (ids-push old f n) ∙ (list_any-append (same_id x) (ids old) (f ∷ []) ∙ ap (λ b. list_any (same_id x) (ids old) || b) (or-false (same_id x f))))
inserted false old f n new h x = ap (λ es. list_any (same_id x) (ids es)) h.1 ∙ by (same_id x f) refl
  where
    by : (b : Bool) → same_id x f ≡ b → list_any (same_id x) (ids old) ≡ (list_any (same_id x) (ids old) || b)
    by true e = let there : list_any (same_id x) (ids old) ≡ true = any-if-among x (ids old) (subst (λ (g : FunctionId). Among g (ids old)) (sym (same_id-is x f e)) h.0) in there ∙ sym (ap (λ b. b || true) there)
    by false e = sym (or-false (list_any (same_id x) (ids old)))

-- in front of the others, where it is told from them
pub in_front : (b : Bool) (old : List Entry) (f : FunctionId) (n : ℕ) (new : List Entry) → IsInsertion b old f n new → HasSameFunctions (ids new) (f ∷ ids old)
in_front b old f n new h x = inserted b old f n new h x ∙ or-swap (list_any (same_id x) (ids old)) (same_id x f)

-- whether it is new
pub is_new : (b : Bool) (old : List Entry) (f : FunctionId) (n : ℕ) (new : List Entry) → IsInsertion b old f n new → list_any (same_id f) (ids old) ≡ (if b then false else true)
is_new true old f n new h = none-if-any f (ids old) h.0
is_new false old f n new h = any-if-among f (ids old) h.0

pub still_bounded : (b : Bool) (old : List Entry) (f : FunctionId) (n : ℕ) (new : List Entry) → IsInsertion b old f n new → f.arity < 2 ^ 64 → AreBounded (ids old) → AreBounded (ids new)
still_bounded true old f n new h fits bounded g there =
    elim (Among-append g (ids old) (f ∷ []) (subst (Among g) (ap ids h.1 ∙ ids-push old f n) there)) [
      | inl before ↦ bounded g before
      | inr last ↦ elim last [ inl e ↦ subst (λ (i : FunctionId). i.arity < 2 ^ 64) (sym e) fits | inr nothing ↦ absurd nothing ]
    ]
still_bounded false old f n new h fits bounded g there = bounded g (subst (Among g) (ap ids h.1) there)

-- whether a function behind these is free: it is new, and not built in
pub free_if_new : (b : Bool) (old : List Entry) (f : FunctionId) (n : ℕ) (new : List Entry) → IsInsertion b old f n new → b ≡ true → (k : Bool) → k ≡ is_built_in f → not k ≡ not (is_built_in f || list_any (same_id f) (ids old))
free_if_new b old f n new h holds k e = ap not (e ∙ sym (ap (λ x. is_built_in f || x) (is_new b old f n new h ∙ ap (λ x. if x then false else true) holds) ∙ or-false (is_built_in f)))

pub not_free : (b : Bool) (old : List Entry) (f : FunctionId) (n : ℕ) (new : List Entry) → IsInsertion b old f n new → b ≡ false → false ≡ not (is_built_in f || list_any (same_id f) (ids old))
not_free b old f n new h fails = sym (ap not (ap (λ x. is_built_in f || x) (is_new b old f n new h ∙ ap (λ x. if x then false else true) fails) ∙ or-swap (is_built_in f) true))

-- ---- functions of forms

pub not_defined : (form : TreeForm) → ((f : Function) → form ≡ F.Function f → ⊥) → defined_by form ≡ []
not_defined (F.Function f) h = absurd (h f refl)
not_defined _ h = refl

pub not_specified : (form : TreeForm) → ((s : Node SpecKind) → form ≡ F.Spec s → ⊥) → specified_by form ≡ []
not_specified (F.Spec s) h = absurd (h s refl)
not_specified _ h = refl

pub not_declared : (form : TreeForm) (forms : List TreeForm) → ((r : Node RecDefKind) → form ≡ F.RecDef r → ⊥) → records_in (form ∷ forms) ≡ records_in forms
not_declared (F.RecDef r) forms h = absurd (h r refl)
not_declared _ forms h = refl

pub is_declared : (form : TreeForm) (forms : List TreeForm) (r : Node RecDefKind) (k : RecDefKind) → form ≡ F.RecDef r → k ≡ r.kind → records_in (form ∷ forms) ≡ k ∷ records_in forms
is_declared form forms r k is e = ap (λ f. records_in (f ∷ forms)) is ∙ ap (λ q. q ∷ records_in forms) (sym e)

module _ (of : TreeForm → List FunctionId) (all : List TreeForm → List FunctionId) (none : all [] ≡ []) (more : (form : TreeForm) (forms : List TreeForm) → all (form ∷ forms) ≡ of form ++ all forms) (forms : List TreeForm) where
  abbrev pub IsGathered : ℕ → List FunctionId → Type 0
  IsGathered i found = (id : FunctionId) → (list_any (same_id id) found || list_any (same_id id) (all (drop i forms))) ≡ list_any (same_id id) (all forms)

  pub gathered_next : (i : ℕ) (form : TreeForm) (found new : List FunctionId) → i < length forms → form ≡ get_or forms i form → ((id : FunctionId) → list_any (same_id id) new ≡ (list_any (same_id id) found || list_any (same_id id) (of form))) → IsGathered i found → IsGathered (i + 1) new
  gathered_next i form found new lt is adds so_far id =
      ap (λ b. b || list_any (same_id id) (all (drop (i + 1) forms))) (adds id)
      ∙ (or-assoc (list_any (same_id id) found) (list_any (same_id id) (of form)) (list_any (same_id id) (all (drop (i + 1) forms)))
      ∙ (ap (λ b. list_any (same_id id) found || b) (sym (list_any-append (same_id id) (of form) (all (drop (i + 1) forms))))
      ∙ (ap (λ fs. list_any (same_id id) found || list_any (same_id id) fs) (sym (more form (drop (i + 1) forms)) ∙ ap all (sym (rest_at forms i form lt is))) ∙ so_far id)))

  pub gathered_last : (i : ℕ) (found : List FunctionId) → length forms ≤ i → IsGathered i found → HasSameFunctions found (all forms)
  gathered_last i found end so_far id =
      sym (or-false (list_any (same_id id) found)) ∙ (ap (λ fs. list_any (same_id id) found || list_any (same_id id) fs) (sym (ap all (drop_all i forms end) ∙ none)) ∙ so_far id)

-- the functions that forms define
abbrev pub all_defined : List TreeForm → List FunctionId
all_defined forms = map function_id (functions_in forms)

pub defined_more : (form : TreeForm) (forms : List TreeForm) → all_defined (form ∷ forms) ≡ defined_by form ++ all_defined forms
defined_more (F.Function f) forms = refl
defined_more _ forms = refl

-- one more function, and none
pub adds_one : (b : Bool) (old : List Entry) (f : FunctionId) (n : ℕ) (new : List Entry) (named : List FunctionId) → named ≡ f ∷ [] → IsInsertion b old f n new → (x : FunctionId) → list_any (same_id x) (ids new) ≡ (list_any (same_id x) (ids old) || list_any (same_id x) named)
adds_one b old f n new named is h x = inserted b old f n new h x ∙ ap (λ c. list_any (same_id x) (ids old) || c) (sym (ap (list_any (same_id x)) is ∙ or-false (same_id x f)))

pub adds_none : (found named : List FunctionId) → named ≡ [] → (x : FunctionId) → list_any (same_id x) found ≡ (list_any (same_id x) found || list_any (same_id x) named)
adds_none found named is x = sym (ap (λ fs. list_any (same_id x) found || list_any (same_id x) fs) is ∙ or-false (list_any (same_id x) found))

-- ---- records of forms

-- the first of these, or of those behind them
first_found : Option RecDefKind → Option RecDefKind → Option RecDefKind
first_found (Some r) other = Some r
first_found None other = other

find-append : (rs qs : List RecDefKind) (n : Name) → find_record (rs ++ qs) n ≡ first_found (find_record rs n) (find_record qs n)
unfolding first_found
find-append [] qs n = refl
find-append (r ∷ rs) qs n = by (same_name r.name n) (find-append rs qs n)
  where
    by : (b : Bool) → find_record (rs ++ qs) n ≡ first_found (find_record rs n) (find_record qs n) → (if b then Some r else find_record (rs ++ qs) n) ≡ first_found (if b then Some r else find_record rs n) (find_record qs n)
    by true e = refl
    by false e = e

module _ (forms : List TreeForm) where
  abbrev pub IsDeclaredTo : ℕ → List RecDefKind → Type 0
  IsDeclaredTo i found = (n : Name) → find_record (found ++ records_in (drop i forms)) n ≡ find_record (records_in forms) n

  pub declared_next : (i : ℕ) (form : TreeForm) (r : RecDefKind) (found new : List RecDefKind) → i < length forms → form ≡ get_or forms i form → records_in (form ∷ drop (i + 1) forms) ≡ r ∷ records_in (drop (i + 1) forms) → IsDeclaration found r new → IsDeclaredTo i found → IsDeclaredTo (i + 1) new
  declared_next i form r found new lt is one adds so_far n =
      find-append new (records_in (drop (i + 1) forms)) n
      ∙ (ap (λ o. first_found o (find_record (records_in (drop (i + 1) forms)) n)) (adds n)
      ∙ (sym (find-append (found ++ r ∷ []) (records_in (drop (i + 1) forms)) n)
      ∙ (ap (λ rs. find_record rs n) (append_assoc found (r ∷ []) (records_in (drop (i + 1) forms)) ∙ ap (λ rs. found ++ rs) (sym one ∙ ap records_in (sym (rest_at forms i form lt is)))) ∙ so_far n)))

  pub declared_same : (i : ℕ) (form : TreeForm) (found : List RecDefKind) → i < length forms → form ≡ get_or forms i form → records_in (form ∷ drop (i + 1) forms) ≡ records_in (drop (i + 1) forms) → IsDeclaredTo i found → IsDeclaredTo (i + 1) found
  declared_same i form found lt is nothing so_far n = ap (λ rs. find_record (found ++ rs) n) (sym nothing ∙ ap records_in (sym (rest_at forms i form lt is))) ∙ so_far n

  pub declared_last : (i : ℕ) (found : List RecDefKind) → length forms ≤ i → IsDeclaredTo i found → HasSameRecords found (records_in forms)
  declared_last i found end so_far n = ap (λ rs. find_record rs n) (sym (append-nil found) ∙ ap (λ rs. found ++ rs) (sym (ap records_in (drop_all i forms end)))) ∙ so_far n
