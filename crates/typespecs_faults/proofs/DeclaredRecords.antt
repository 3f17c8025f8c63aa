-- The records that forms declare, and those that specs tell.
use Rattle.std.proofs.Common.{◌≡◌, ℕ, suc, Bool, true, false, cond, List, [], ◌∷◌, ◌++◌, map, refl, sym, ap, ◌∙◌, Option, Some, None, append_assoc, append-nil}
use Rattle.std.specs.Prelude.{if◌then◌else◌}
use Rattle.std.specs.Option.{option_map}
use Rattle.type_terms.specs.Keys.{Name, same_name}
use Rattle.type_terms.specs.declared.term.Def.{Def}
use Rattle.type_terms.specs.declared.spec.FunSpec.{FunSpec}
use Rattle.erl_tree.specs.declared.token.Node.{Node}
use Rattle.erl_tree.specs.declared.form.RecDefKind.{RecDefKind}
use Rattle.erl_tree.specs.declared.form.TreeForm.{TreeForm}
use Rattle.erl_tree.specs.declared.form.TreeForm.TheVariants as F
use Rattle.erl_tree.specs.declared.form.Module.{Module}
use Rattle.erl_runs.specs.Records.{records_in, find_record, fields_of, has_field}
use Rattle.erl_runs.specs.Specs.{and_then, specs_in}
use Rattle.typespecs_rules.specs.declared.specs.RecordSpec.{RecordSpec}
use Rattle.typespecs_rules.specs.declared.specs.Specs.{Specs}
use Rattle.typespecs_rules.specs.Declarations.{Declarations, declarations_of}
use Rattle.typespecs_rules.specs.SpecTerms.{module_specs, definitions, function_specs, type_names, record_specs, records_from}
use Rattle.typespecs_faults.specs.Tables.{Record, find_fields, of_declaration, of_spec, HasSameRecords}
use Rattle.typespecs_faults.proofs.RecordLookups.{front-alike}
use Rattle.typespecs_faults.proofs.NameSetLaws.{fields-named}

pub not_declared : (form : TreeForm) (forms : List TreeForm) → ((r : Node RecDefKind) → form ≡ F.RecDef r → ⊥) → records_in (form ∷ forms) ≡ records_in forms
not_declared (F.RecDef r) forms h = absurd (h r refl)
not_declared _ forms h = refl

pub is_declared : (form : TreeForm) (forms : List TreeForm) (r : Node RecDefKind) (k : RecDefKind) → form ≡ F.RecDef r → k ≡ r.kind → records_in (form ∷ forms) ≡ k ∷ records_in forms
is_declared form forms r k is e = ap (λ f. records_in (f ∷ forms)) is ∙ ap (λ q. q ∷ records_in forms) (sym e)

-- a declaration gives the fields that the table finds
pub find-declared : (rs : List RecDefKind) (n : Name) → find_fields (map of_declaration rs) n ≡ option_map (λ (r : RecDefKind). has_field (fields_of r)) (find_record rs n)
find-declared [] n = refl
find-declared (r ∷ rs) n = by (same_name r.name n) (find-declared rs n)
  where
    by : (b : Bool) → find_fields (map of_declaration rs) n ≡ option_map (λ (r : RecDefKind). has_field (fields_of r)) (find_record rs n)
        → cond b (Some (has_field (fields_of r))) (find_fields (map of_declaration rs) n) ≡ option_map (λ (r : RecDefKind). has_field (fields_of r)) (if b then Some r else find_record rs n)
    by true e = refl
    by false e = e

-- only which names a record's fields have counts
pub fields-alike : (rs : List Record) (n : Name) (f g : Name → Bool) → ((x : Name) → f x ≡ g x) → HasSameRecords (rs ++ (n, f) ∷ []) (rs ++ (n, g) ∷ [])
fields-alike rs n f g h m = ap (λ (t : Name → Bool). find_fields (rs ++ (n, t) ∷ []) m) (λ j. λ x. h x j)

-- ---- loops

module _ (whole : List Record) where
  -- the records so far, and those that are left
  abbrev pub IsFilledTo : List Record → List Record → Type 0
  IsFilledTo rest found = HasSameRecords (found ++ rest) whole

  pub filled_init : (rest found : List Record) → found ≡ [] → rest ≡ whole → IsFilledTo rest found
  filled_init rest found none is n = λ j. find_fields (none j ++ is j) n

  pub filled_next : (rest later found new : List Record) (r : Record) → rest ≡ r ∷ later → HasSameRecords new (found ++ r ∷ []) → IsFilledTo rest found → IsFilledTo later new
  filled_next rest later found new r is adds so_far n =
      front-alike new (found ++ r ∷ []) later adds n
      ∙ (ap (λ rs. find_fields rs n) (append_assoc found (r ∷ []) later ∙ ap (λ rs. found ++ rs) (sym is)) ∙ so_far n)

  pub filled_same : (rest later found : List Record) → rest ≡ later → IsFilledTo rest found → IsFilledTo later found
  filled_same rest later found is so_far n = ap (λ rs. find_fields (found ++ rs) n) (sym is) ∙ so_far n

  pub filled_last : (rest found : List Record) → rest ≡ [] → IsFilledTo rest found → HasSameRecords found whole
  filled_last rest found none so_far n = ap (λ rs. find_fields rs n) (sym (append-nil found) ∙ ap (λ rs. found ++ rs) (sym none)) ∙ so_far n

-- ---- the records of a module's specs

specified : (n : ℕ) (rs : List RecDefKind) → map of_spec (records_from n rs) ≡ map of_declaration rs
specified n [] = refl
specified n (r ∷ rs) = λ j. (r.name, λ x. fields-named (fields_of r) x j) ∷ specified (suc n) rs j

records_of_some : Option Specs → List RecordSpec
records_of_some None = []
records_of_some (Some s) = s.records

records-are : (d : Declarations) (a : Option (List Def)) (b : Option (List FunSpec)) (s : Specs) → and_then a (λ defs. option_map (λ functions. record { defs = defs; types = type_names d; functions = functions; records = record_specs d }) b) ≡ Some s → s.records ≡ record_specs d
unfolding records_of_some
records-are d (Some a) (Some b) s e = sym (ap records_of_some e)
records-are d (Some a) None s e = absurd (cc)
records-are d None b s e = absurd (cc)

-- they are those of its declarations
pub specified-records : (m : Module) (s : Specs) → module_specs m ≡ Some s → map of_spec s.records ≡ map of_declaration (declarations_of m).records
specified-records m s e =
    ap (map of_spec) (records-are (declarations_of m) (definitions (declarations_of m)) (function_specs (declarations_of m) (specs_in m.forms)) s e)
    ∙ specified _ (declarations_of m).records
