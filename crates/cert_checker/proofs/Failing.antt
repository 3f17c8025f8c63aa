-- First failures among constraints, and among more constraints before and after them.
use Rattle.std.proofs.Common.{refl, sym, ◌∙◌, ap, subst, ℕ, ◌+◌, ◌<◌, List, [], ◌∷◌, ◌++◌, arith, append_assoc}
use Rattle.std.proofs.lemmas.List.{append-nil}
use Rattle.type_terms.specs.declared.term.Key.{Key}
use Rattle.type_terms.specs.declared.term.Term.{Term}
use Rattle.type_terms.specs.declared.spec.Kind.{Kind}
use Rattle.erl_tree.specs.declared.token.Place.{Place}
use Rattle.erl_tree.specs.Lists.{Every}
use Rattle.cert_checker.specs.declared.refusal.Shown.{Shown}
use Rattle.cert_checker.specs.declared.refusal.Shown.TheVariants.{One}
use Rattle.cert_checker.specs.declared.refusal.FirstRefusal.{FirstRefusal}
use Rattle.cert_checker.specs.declared.refusal.FirstRefusal.TheVariants.{NoMemory, Failed}
use Rattle.cert_checker.specs.Constraints.{Constraint, Holds, IsWithin}
use Rattle.cert_checker.specs.Failures.{IsFirstFailure, ShowsFailure, Refutes}
use Rattle.cert_checker.specs.Judging.{owed_one}
use Rattle.cert_checker.proofs.Lists.{every-join}
use Rattle.cert_checker.proofs.Comparisons.{key-fails}

pub failure-within : (before mid after : List Constraint) (function : ℕ) (place : Place) (kind : Kind) (shown : Shown) → Every Holds before → IsFirstFailure mid function place kind shown → IsFirstFailure (before ++ (mid ++ after)) function place kind shown
failure-within before mid after function place kind shown h f =
    let c : Constraint = record { function = function; place = place; kind = kind; left = f.left; right = f.right } in
    record {
      before = before ++ f.before;
      left = f.left;
      right = f.right;
      after = f.after ++ after;
      listed = ap (λ z. before ++ (z ++ after)) f.listed ∙ (ap (λ z. before ++ z) (append_assoc f.before (c ∷ f.after) after) ∙ sym (append_assoc before f.before (c ∷ (f.after ++ after))));
      earlier = every-join Holds before f.before h f.earlier;
      fails = f.fails;
      refuted = f.refuted;
    }

-- a failure stays the first one behind constraints that hold, and before others
pub shows-within : (before mid after : List Constraint) (count : ℕ) (refusal : FirstRefusal) → Every Holds before → ShowsFailure mid count refusal → ShowsFailure (before ++ (mid ++ after)) count refusal
shows-within before mid after count NoMemory h s = tt
shows-within before mid after count (Failed function place kind shown) h s = (failure-within before mid after function place kind shown h s.0, s.1)

pub shows-before : (mid after : List Constraint) (count : ℕ) (refusal : FirstRefusal) → ShowsFailure mid count refusal → ShowsFailure (mid ++ after) count refusal
shows-before mid after count refusal s = shows-within [] mid after count refusal tt s

pub shows-after : (before mid : List Constraint) (count : ℕ) (refusal : FirstRefusal) → Every Holds before → ShowsFailure mid count refusal → ShowsFailure (before ++ mid) count refusal
shows-after before mid count refusal h s = subst (λ z. ShowsFailure (before ++ z) count refusal) (append-nil mid) (shows-within before mid [] count refusal h s)

pub one-fails : (n : ℕ) (place : Place) (kind : Kind) (s t : Term) (shown : Shown) → Refutes shown s t → (IsWithin s t → ⊥) → IsFirstFailure (owed_one n place kind s t) n place kind shown × (n < n + 1)
one-fails n place kind s t shown h f = (record { before = []; left = s; right = t; after = []; listed = refl; earlier = tt; fails = f; refuted = h }, omega arith)

pub key-shown : (n : ℕ) (place : Place) (kind : Kind) (s t : Term) (key : Key) → Refutes (One key) s t → IsFirstFailure (owed_one n place kind s t) n place kind (One key) × (n < n + 1)
key-shown n place kind s t key h = one-fails n place kind s t (One key) h (key-fails key s t h)
