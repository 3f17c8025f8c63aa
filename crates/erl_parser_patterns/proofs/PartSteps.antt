-- Entries of map patterns and fields of records are read by steps: what stands in front of the pattern, the pattern, and the part with both.
use Rattle.std.proofs.Common.{◌≡◌, ℕ, List, [], ◌∷◌, Bool, true, false, Ok, Err, refl, sym, subst}
use Rattle.std.specs.Prelude.{if◌then◌else◌, codes}
use Rattle.erl_tree.specs.declared.token.Place.{Place}
use Rattle.erl_tree.specs.declared.token.Placed.{Placed}
use Rattle.erl_tree.specs.declared.token.Node.{Node}
use Rattle.erl_tree.specs.declared.pattern.LiteralKind.{LiteralKind}
use Rattle.erl_tree.specs.declared.pattern.PatternKind.{PatternKind}
use Rattle.erl_grammar.specs.Grammar.{node}
use Rattle.erl_parser_tokens.specs.declared.height.Measured.{Measured}
use Rattle.erl_parser_tokens.specs.declared.fault.ParseFault.{ParseFault}
use Rattle.erl_parser_tokens.specs.declared.fault.ParseFault.TheVariants as faults
use Rattle.erl_parser_patterns.specs.declared.keys.EntryHead.{EntryHead}
use Rattle.erl_parser_tokens.specs.declared.parts.FieldHead.{FieldHead}
use Rattle.erl_parser_tokens.specs.Heights.{measured}
use Rattle.erl_parser_tokens.specs.Tokens.{Answer, Reads, Fails, ◌>>=◌, first_place, expect, mark, atom}
use Rattle.erl_parser_tokens.specs.Parts.{is_wildcard_field, read_field}
use Rattle.erl_parser_patterns.specs.Patterns.{read_key, read_entry}
use Rattle.erl_parser_tokens.specs.Views.{head_of, read_field_head}
use Rattle.erl_parser_patterns.specs.Views.{entry_head_of, read_entry_head}
use Rattle.erl_parser_tokens.proofs.LoopLaws.{first_fails}

-- what a reader of such things answers
abbrev Read : Type 0 → Type 0
Read A = Answer (A × List Placed)

-- what stands in front, by its first part and its second
abbrev headed : {A B H : Type 0} → (A → B → H) → A → B × List Placed → Read H
headed head a m = Ok (head a m.0, m.1)

-- the part with what is read behind that
abbrev whole_of : {H K P : Type 0} → (H → Measured K → Measured P) → H → Measured K × List Placed → Read (Measured P)
whole_of whole h p = Ok (whole h p.0, p.1)

abbrev ended : {H K P : Type 0} → (H → Measured K → Measured P) → Reads (Measured K) → H × List Placed → Read (Measured P)
ended whole inner h = inner h.1 >>= λ p. whole_of whole h.0 p

module _ {A B H K P : Type 0} (head : A → B → H) (whole : H → Measured K → Measured P) (inner : Reads (Measured K)) where
  behind : (a : A) (m : Read B) → (m >>= λ m. ended whole inner (head a m.0, m.1)) ≡ ((m >>= λ m. headed head a m) >>= λ h. ended whole inner h)
  behind a (Ok m) = refl
  behind a (Err f) = refl

  by_steps : (a : Read A) (next : Reads B) → (a >>= λ a. next a.1 >>= λ m. ended whole inner (head a.0 m.0, m.1)) ≡ ((a >>= λ a. next a.1 >>= λ m. headed head a.0 m) >>= λ h. ended whole inner h)
  by_steps (Ok a) next = behind a.0 (next a.1)
  by_steps (Err f) next = refl

  unless : (test : Bool) (f : ParseFault) (a : Read A) (next : Reads B)
      → (if test then Err f else (a >>= λ a. next a.1 >>= λ m. ended whole inner (head a.0 m.0, m.1))) ≡ ((if test then Err f else (a >>= λ a. next a.1 >>= λ m. headed head a.0 m)) >>= λ h. ended whole inner h)
  unless true f a next = refl
  unless false f a next = by_steps a next

-- ---- entries of map patterns

abbrev pub entry_of : EntryHead → Measured (Node PatternKind) → Measured (Node (Node LiteralKind × Node PatternKind))
entry_of h p = measured (node h.key.place (h.mark ∷ []) (h.key, p.tree)) p.height

entry_by_steps : (inner : Reads (Measured (Node PatternKind))) (ts : List Placed) → read_entry inner ts ≡ (read_entry_head ts >>= λ h. ended entry_of inner h)
unfolding read_entry read_entry_head
entry_by_steps inner ts = by_steps entry_head_of entry_of inner (read_key ts) (expect (mark (codes ":=")))

-- ---- fields of records

abbrev pub field_of : {K : Type 0} → FieldHead → Measured (Node K) → Measured (Node (List ℕ × Node K))
field_of h p = measured (node h.place (h.place ∷ h.equals ∷ []) (h.name, p.tree)) p.height

field_by_steps : {K : Type 0} (inner : Reads (Measured (Node K))) (ts : List Placed) → read_field inner ts ≡ (read_field_head ts >>= λ h. ended field_of inner h)
unfolding read_field read_field_head
field_by_steps inner ts = unless (λ (a : List ℕ × Place) (e : Place). head_of a.0 a.1 e) field_of inner (is_wildcard_field ts) (faults.OutOfProfile (first_place ts) (codes "record wildcard")) (expect atom ts) (expect (mark (codes "=")))

-- ---- what a part's steps give

module _ {H K P : Type 0} (head : Reads H) (whole : H → Measured K → Measured P) (inner : Reads (Measured K)) (ts : List Placed) (read : Read (Measured P)) (same : read ≡ (head ts >>= λ h. ended whole inner h)) where
  part_reads : (h : H) (behind : List Placed) (p : Measured K) (more : List Placed) → head ts ≡ Ok (h, behind) → inner behind ≡ Ok (p, more) → read ≡ Ok (whole h p, more)
  part_reads h behind p more e f = rw (e, f) at same

  head_fails : (f : ParseFault) → Fails f (head ts) → Fails f read
  head_fails f h = subst (Fails f) (sym same) (first_fails f (head ts) (λ h. ended whole inner h) h)

  value_fails : (f : ParseFault) (h : H) (behind : List Placed) → head ts ≡ Ok (h, behind) → Fails f (inner behind) → Fails f read
  value_fails f h behind e g = subst (Fails f) (sym (rw e at same)) (first_fails f (inner behind) (λ p. whole_of whole h p) g)

module _ (inner : Reads (Measured (Node PatternKind))) (ts : List Placed) where
  pub entry_reads : (h : EntryHead) (behind : List Placed) (p : Measured (Node PatternKind)) (more : List Placed) → read_entry_head ts ≡ Ok (h, behind) → inner behind ≡ Ok (p, more) → read_entry inner ts ≡ Ok (entry_of h p, more)
  entry_reads = part_reads read_entry_head entry_of inner ts (read_entry inner ts) (entry_by_steps inner ts)

  pub entry_head_fails : (f : ParseFault) → Fails f (read_entry_head ts) → Fails f (read_entry inner ts)
  entry_head_fails = head_fails read_entry_head entry_of inner ts (read_entry inner ts) (entry_by_steps inner ts)

  pub entry_value_fails : (f : ParseFault) (h : EntryHead) (behind : List Placed) → read_entry_head ts ≡ Ok (h, behind) → Fails f (inner behind) → Fails f (read_entry inner ts)
  entry_value_fails = value_fails read_entry_head entry_of inner ts (read_entry inner ts) (entry_by_steps inner ts)

module _ {K : Type 0} (inner : Reads (Measured (Node K))) (ts : List Placed) where
  pub field_reads : (h : FieldHead) (behind : List Placed) (p : Measured (Node K)) (more : List Placed) → read_field_head ts ≡ Ok (h, behind) → inner behind ≡ Ok (p, more) → read_field inner ts ≡ Ok (field_of h p, more)
  field_reads = part_reads read_field_head field_of inner ts (read_field inner ts) (field_by_steps inner ts)

  pub field_head_fails : (f : ParseFault) → Fails f (read_field_head ts) → Fails f (read_field inner ts)
  field_head_fails = head_fails read_field_head field_of inner ts (read_field inner ts) (field_by_steps inner ts)

  pub field_value_fails : (f : ParseFault) (h : FieldHead) (behind : List Placed) → read_field_head ts ≡ Ok (h, behind) → Fails f (inner behind) → Fails f (read_field inner ts)
  field_value_fails = value_fails read_field_head field_of inner ts (read_field inner ts) (field_by_steps inner ts)
