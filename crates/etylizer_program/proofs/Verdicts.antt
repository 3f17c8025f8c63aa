-- From what is said of a module to what is said of its text.
use Rattle.std.proofs.Common.{◌≡◌, ◌∙◌, ◌<◌, ◌↔◌, ℕ, List, length, Some, Result, Ok, Err, IfOk, true, refl, subst, sym}
use Rattle.type_terms.specs.declared.list.NoMemory.{NoMemory}
use Rattle.erl_tree.specs.declared.form.Module.{Module}
use Rattle.erl_tree.specs.declared.token.Place.{Place}
use Rattle.type_terms.specs.declared.spec.Kind.{Kind}
use Rattle.erl_tree.specs.Functions.{functions_in, functions_of}
use Rattle.erl_runs.specs.Specs.{specs_in}
use Rattle.typespecs_rules.specs.declared.specs.Specs.{Specs}
use Rattle.typespecs_rules.specs.SpecTerms.{module_specs}
use Rattle.flat_modules.proofs.FlatLaws.{flat-formed}
use Rattle.flat_modules.specs.FlatModules.{IsFlatModule}
use Rattle.erl_runs.specs.Safety.{IsSafe}
use Rattle.text_reader_rules.specs.SafeTexts.{IsSafeText}
use Rattle.cert_checker.specs.Failures.{MeetsConstraints, ShowsFirstFailure}
use Rattle.cert_checker.specs.declared.refusal.FirstRefusal.{FirstRefusal}
use Rattle.cert_checker.specs.declared.refusal.FirstRefusal.TheVariants as F
use Rattle.etylizer_program.specs.declared.check.Refused.{Refused}
use Rattle.cert_checker.specs.declared.refusal.Shown.{Shown}
use Rattle.etylizer_program.specs.declared.report.Verdict.{Verdict}
use Rattle.etylizer_program.specs.declared.report.Verdict.TheVariants as V
use Rattle.etylizer_program.specs.declared.check.Refused.TheVariants as Q
use Rattle.text_reader.specs.declared.fault.ReadFault.{ReadFault}
use Rattle.text_reader.specs.declared.reading.ReadModule.{ReadModule}
use Rattle.text_reader.specs.declared.fault.ReadFault.TheVariants as R
use Rattle.text_reader.specs.Modules.{text_limit, IsReadModule}
use Rattle.text_reader.specs.Refusals.{IsReadRefusal}
use Rattle.etylizer_program.specs.Check.{IsReadAs, IsReadWith, IsAcceptedModule, refused_as, refused_by_reader, IsAcceptedText, IsModuleVerdict, IsTextVerdict, IsTextRefusal, IsRightVerdict}
use Rattle.etylizer_program.proofs.Flat.{clauses_counted_by_specs}

-- the summary, counted by forms
pub accepted_module : (m : Module) (name : List ℕ) (functions clauses : ℕ) → IsFlatModule m → MeetsConstraints m → ((s : Specs) → module_specs m ≡ Some s → IsSafe m s.functions s.defs)
    → name ≡ m.name → functions ≡ length (functions_in m.forms) → clauses ≡ length (specs_in m.forms) → IsAcceptedModule m name functions clauses
accepted_module m name functions clauses flat meets safe named functions_are clauses_are =
    record { meets = meets; safe = safe; summary = record { named = named; functions_counted = functions_are; clauses_counted = clauses_are ∙ sym (clauses_counted_by_specs m (flat-formed m flat)) } }

-- what holds of the one list of specs of a module holds of each
pub of_specs : (m : Module) (s : Specs) (P : Specs → Type 0) → module_specs m ≡ Some s → P s → (t : Specs) → module_specs m ≡ Some t → P t
of_specs m s P is p t e = subst P (one s t (sym is ∙ e)) p
  where
    one : (s t : Specs) → Some s ≡ Some t → s ≡ t
    one s t h = cc

abbrev safe_text : (text : List ℕ) (m : Module) → IsReadAs text m → ((s : Specs) → module_specs m ≡ Some s → IsSafe m s.functions s.defs) → IsSafeText text
safe_text text m read safe =
    record { tree = m; spelled = read.spelled; only = read.only; readable = read.flat.readable; safe = safe read.flat.readable.specs read.flat.readable.has_specs.terms.terms }

-- a text whose module is accepted
pub text_accepted : (text : List ℕ) (m : Module) (name : List ℕ) (functions clauses : ℕ) → IsReadAs text m → IsAcceptedModule m name functions clauses → IsAcceptedText text name functions clauses
text_accepted text m name functions clauses read accepted = record { safe = safe_text text m read accepted.safe; lexed = read.lexed; flat = read.flat; meets = accepted.meets; summary = accepted.summary }

text_verdict : (text : List ℕ) (m : Module) (verdict : Verdict) → IsReadAs text m → IsModuleVerdict m verdict → IsTextVerdict text verdict
text_verdict text m (V.Accepted name functions clauses) read is = text_accepted text m name functions clauses read is
text_verdict text m (V.Failed name function arity clause place kind shown) read is = (m, read, is)
text_verdict text m (V.NotText place words) read is = absurd is
text_verdict text m (V.NotUtf8 at) read is = absurd is
text_verdict text m V.TooLong read is = absurd is
text_verdict text m V.NotBuilt read is = absurd is
text_verdict text m V.Usage read is = absurd is

not_too_long : (m : Module) (verdict : Verdict) → IsModuleVerdict m verdict → verdict ≡ V.TooLong → ⊥
not_too_long m (V.Accepted name functions clauses) is e = cc
not_too_long m (V.Failed name function arity clause place kind shown) is e = cc
not_too_long m (V.NotText place words) is e = cc
not_too_long m (V.NotUtf8 at) is e = cc
not_too_long m V.TooLong is e = is
not_too_long m V.NotBuilt is e = cc
not_too_long m V.Usage is e = cc

-- a text that was read, with a verdict on its module
pub right_verdict : (text : List ℕ) (m : Module) (result : Result Verdict NoMemory) → IsReadAs text m → (text_limit < length text → ⊥)
    → IfOk result (IsModuleVerdict m) → IfOk result (IsRightVerdict text)
right_verdict text m (Ok verdict) read within is = record { right = text_verdict text m verdict read is; too_long = ((λ long. absurd (within long)), (λ e. absurd (not_too_long m verdict is e))) }
right_verdict text m (Err e) read within is = is

-- the function in which a constraint fails is one of the module
pub function_counted : (m : Module) (number : ℕ) (place : Place) (kind : Kind) (shown : Shown) → ShowsFirstFailure m (F.Failed number place kind shown) → number < length (functions_of m)
function_counted m number place kind shown shows = (shows (λ types parameters. true) (λ types parameters within. refl)).1

-- the refusal of a module is right of the text that is read as it
pub text_refused : (text : List ℕ) (m : Module) (refusal : FirstRefusal) (refused : Refused) → refused ≡ refused_as refusal → IsReadAs text m → ShowsFirstFailure m refusal → IsTextRefusal text refused
text_refused text m refusal refused is read shows = subst (λ (r : Refused). IsTextRefusal text r) (sym is) (right refusal shows)
  where
    right : (refusal : FirstRefusal) → ShowsFirstFailure m refusal → IsTextRefusal text (refused_as refusal)
    right F.NoMemory shows = tt
    right (F.Failed function place kind shown) shows = (m, read, shows)

-- ---- texts that were read

-- a text of which a flat module was read
pub read_with : (text : List ℕ) (r : ReadModule) → IsReadModule text r.tree r.scopes r.specs → IsFlatModule r.tree → IsReadWith text r.tree r.specs
read_with text r read flat = record {
  read = record { lexed = read.parsed.lexed; spelled = read.spelled; only = read.only; flat = flat };
  specs = read.has_specs.terms.terms;
}

-- a refusal of the reader is right of the text
pub reading_refused : (text : List ℕ) (fault : ReadFault) (refused : Refused) → refused ≡ refused_by_reader fault → IsReadRefusal text fault → IsTextRefusal text refused
reading_refused text fault refused is refuses = subst (λ (r : Refused). IsTextRefusal text r) (sym is) (right fault refuses)
  where
    right : (fault : ReadFault) → IsReadRefusal text fault → IsTextRefusal text (refused_by_reader fault)
    right R.NoMemory is = tt
    right R.TooLong is = is
    right (R.Lex fault) is = is
    right (R.Parse fault) is = is
    right (R.Scope fault) is = is
    right (R.Spec fault) is = is

-- it says that the text is too long where the reader does
pub long_refused : (fault : ReadFault) (refused : Refused) → refused ≡ refused_by_reader fault → (refused ≡ Q.TooLong) ↔ (fault ≡ R.TooLong)
long_refused R.NoMemory refused is = ((λ e. cc), (λ e. cc))
long_refused R.TooLong refused is = ((λ e. refl), (λ e. is))
long_refused (R.Lex fault) refused is = ((λ e. cc), (λ e. cc))
long_refused (R.Parse fault) refused is = ((λ e. cc), (λ e. cc))
long_refused (R.Scope fault) refused is = ((λ e. cc), (λ e. cc))
long_refused (R.Spec fault) refused is = ((λ e. cc), (λ e. cc))

-- it tells of no constraint
pub no_types_refused : (fault : ReadFault) (refused : Refused) (refusal : FirstRefusal) → refused ≡ refused_by_reader fault → refused ≡ Q.Types refusal → ⊥
no_types_refused R.NoMemory refused refusal is e = cc
no_types_refused R.TooLong refused refusal is e = cc
no_types_refused (R.Lex fault) refused refusal is e = cc
no_types_refused (R.Parse fault) refused refusal is e = cc
no_types_refused (R.Scope fault) refused refusal is e = cc
no_types_refused (R.Spec fault) refused refusal is e = cc
