-- Going on with the parts that were read gives what reading gives: the steps of the loop over parts with marks of their own.
use Rattle.std.proofs.Common.{◌≡◌, ℕ, zero, suc, ◌<◌, List, length, Some, None, Ok, refl, ◌∙◌, arith}
use Rattle.erl_tree.specs.declared.token.Place.{Place}
use Rattle.erl_tree.specs.declared.token.Placed.{Placed}
use Rattle.erl_parser_tokens.specs.declared.fault.ParseFault.{ParseFault}
use Rattle.erl_parser_tokens.specs.Tokens.{Answer, Reads, Fails, mark}
use Rattle.erl_parser_tokens.proofs.LoopLaws.{fails_by, first_fails}
use Rattle.erl_parser.specs.Forms.{Listed, no_items, with_item, with_separator, read_more_items, read_items}
use Rattle.erl_parser.specs.Views.{Part}

-- going on with the parts that were read gives what reading gives
abbrev pub GoingItems : {A : Type 0} → List ℕ → Reads (Part A) → Listed A → List Placed → Answer (Listed A × List Placed) → Type 0
GoingItems separator inner s rest total = (k : ℕ) × (length rest < k) × (total ≡ read_more_items separator inner k s rest)

module _ {A : Type 0} (separator : List ℕ) (inner : Reads (Part A)) where
  pub items_begin : (s : Listed A) (ts : List Placed) → s ≡ no_items → GoingItems separator inner s ts (read_items separator inner ts)
  items_begin s ts e = (suc (length ts), omega arith, rw e refl)

  item_goes_on : (k : ℕ) (s : Listed A) (ts : List Placed) (x : Part A) (behind : List Placed) (m : Place) (more : List Placed)
      → inner ts ≡ Ok (x, behind) → mark separator behind ≡ Some (m, more) → read_more_items separator inner (suc k) s ts ≡ read_more_items separator inner k (with_separator (with_item s x) m) more
  unfolding read_more_items
  item_goes_on k s ts x behind m more h e = rw (h, e) refl

  pub items_step : (s : Listed A) (rest : List Placed) (total : Answer (Listed A × List Placed)) (t u : Listed A) (x : Part A) (behind : List Placed) (m : Place) (more : List Placed)
      → GoingItems separator inner s rest total → inner rest ≡ Ok (x, behind) → mark separator behind ≡ Some (m, more) → length more < length rest → t ≡ with_item s x → u ≡ with_separator t m → GoingItems separator inner u more total
  items_step s rest total t u x behind m more (zero, l, g) h e d v w = absurd (omega arith)
  items_step s rest total t u x behind m more (suc k, l, g) h e d v w = (k, omega arith, g ∙ item_goes_on k s rest x behind m more h e ∙ rw (w, v) refl)

  item_ends : (k : ℕ) (s : Listed A) (ts : List Placed) (x : Part A) (behind : List Placed)
      → inner ts ≡ Ok (x, behind) → mark separator behind ≡ None → read_more_items separator inner (suc k) s ts ≡ Ok (with_item s x, behind)
  unfolding read_more_items
  item_ends k s ts x behind h e = rw (h, e) refl

  pub items_end : (s : Listed A) (rest : List Placed) (total : Answer (Listed A × List Placed)) (t : Listed A) (x : Part A) (behind : List Placed)
      → GoingItems separator inner s rest total → inner rest ≡ Ok (x, behind) → mark separator behind ≡ None → t ≡ with_item s x → total ≡ Ok (t, behind)
  items_end s rest total t x behind (zero, l, g) h e v = absurd (omega arith)
  items_end s rest total t x behind (suc k, l, g) h e v = g ∙ item_ends k s rest x behind h e ∙ rw v refl

  item_fails : (f : ParseFault) (k : ℕ) (s : Listed A) (ts : List Placed) → Fails f (inner ts) → Fails f (read_more_items separator inner (suc k) s ts)
  unfolding read_more_items
  item_fails f k s ts h = first_fails f (inner ts) _ h

  pub items_fail : (f : ParseFault) (s : Listed A) (rest : List Placed) (total : Answer (Listed A × List Placed)) → GoingItems separator inner s rest total → Fails f (inner rest) → Fails f total
  items_fail f s rest total (zero, l, g) h = absurd (omega arith)
  items_fail f s rest total (suc k, l, g) h = fails_by f g (item_fails f k s rest h)
