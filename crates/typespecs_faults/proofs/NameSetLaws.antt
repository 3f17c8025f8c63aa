-- Sets of names.
use Rattle.std.proofs.Common.{◌≡◌, ℕ, ◌+◌, ◌<◌, Bool, true, false, ◌||◌, List, [], ◌∷◌, length, map, drop, get_or, refl, sym, ap, ap₂, ◌∙◌, Bor}
use Rattle.std.specs.Prelude.{if◌then◌else◌}
use Rattle.std.specs.List.{list_any}
use Rattle.std.specs.Str.{bytes_eq}
use Rattle.indexmap.specs.IndexSet.{insert_key}
use Rattle.type_terms.specs.Keys.{Name, same_name}
use Rattle.erl_tree.specs.declared.token.Node.{Node}
use Rattle.erl_tree.specs.declared.form.RecFieldKind.{RecFieldKind}
use Rattle.erl_runs.specs.Records.{has_field}
use Rattle.typespecs_rules.specs.TypeFaults.{stands_among}
use Rattle.typespecs_faults.specs.NameSets.{names_in}
use Rattle.typespecs_faults.proofs.NamesCompared.{bytes-same, same-sym}
use Rattle.typespecs_faults.proofs.FieldLaws.{Seen, is_key, seen-more}
use Rattle.typespecs_faults.proofs.Rows.{rest_at}

pub or-false : (b : Bool) → (b || false) ≡ b
or-false true = refl
or-false false = refl

pub under-any : (n : Name) (keys : Seen) → list_any (λ k. bytes_eq n k.now) keys ≡ stands_among n (names_in keys)
under-any n [] = refl
under-any n (k ∷ keys) = ap₂ ◌||◌ (bytes-same n k.now) (under-any n keys)

swap : (a b c : Bool) → ((a || b) || c) ≡ (b || (a || c))
swap true true c = refl
swap true false c = refl
swap false b c = refl

module _ (whole : List Name) where
  -- the names so far, and those that are left
  abbrev pub IsNamedTo : List Name → Seen → Type 0
  IsNamedTo rest keys = (x : Name) → (stands_among x (names_in keys) || stands_among x rest) ≡ stands_among x whole

  pub named_init : (rest : List Name) (keys : Seen) → keys ≡ [] → rest ≡ whole → IsNamedTo rest keys
  named_init rest keys none is x = λ j. stands_among x (names_in (none j)) || stands_among x (is j)

  pub named_next : (rest later : List Name) (name : Name) (keys new : Seen) (k : Bor (List ℕ)) → rest ≡ name ∷ later → k.now ≡ name → new ≡ insert_key is_key keys k → IsNamedTo rest keys → IsNamedTo later new
  named_next rest later name keys new k is same more so_far x =
      ap (λ b. b || stands_among x later) (ap (λ ks. stands_among x (names_in ks)) more ∙ (sym (seen-more keys k x) ∙ ap (λ (y : Name). stands_among x (y ∷ names_in keys)) same))
      ∙ (swap (same_name x name) (stands_among x (names_in keys)) (stands_among x later)
      ∙ (ap (λ ns. stands_among x (names_in keys) || stands_among x ns) (sym is) ∙ so_far x))

  pub named_last : (rest : List Name) (keys : Seen) → rest ≡ [] → IsNamedTo rest keys → (x : Name) → stands_among x (names_in keys) ≡ stands_among x whole
  named_last rest keys none so_far x = sym (ap (λ ns. stands_among x (names_in keys) || stands_among x ns) none ∙ or-false (stands_among x (names_in keys))) ∙ so_far x

-- ---- the names of a record's fields

abbrev pub names_of : List (Node RecFieldKind) → List Name
names_of fs = map (λ (f : RecFieldKind). f.name) (map (λ (f : Node RecFieldKind). f.kind) fs)

pub names_next : (fs : List (Node RecFieldKind)) (i : ℕ) (f : Node RecFieldKind) → i < length fs → f ≡ get_or fs i f → names_of (drop i fs) ≡ f.kind.name ∷ names_of (drop (i + 1) fs)
names_next fs i f lt is = ap names_of (rest_at fs i f lt is)

pub fields-named : (fs : List RecFieldKind) (x : Name) → stands_among x (map (λ (f : RecFieldKind). f.name) fs) ≡ has_field fs x
fields-named [] x = refl
fields-named (f ∷ fs) x = ap₂ ◌||◌ (same-sym x f.name) (fields-named fs x) ∙ either (same_name f.name x) (has_field fs x)
  where
    either : (a b : Bool) → (a || b) ≡ (if a then true else b)
    either true b = refl
    either false b = refl
