-- The readers of types nested at most so many levels deep and fewer: their equations at a depth that is 0 and at one that is not.
use Rattle.std.proofs.Common.{◌≡◌, ◌≢◌, ℕ, zero, suc, ◌-◌, List, [], ◌∷◌, length, refl, ap, ◌∙◌, arith}
use Rattle.std.proofs.lemmas.Bool.{lt-leb, le-leb}
use Rattle.std.specs.Prelude.{◌≤◌, ◌<◌, Option, Some, None, Ok, Err, codes}
use Rattle.erl_tree.specs.declared.token.Place.{Place}
use Rattle.erl_tree.specs.declared.token.Placed.{Placed}
use Rattle.erl_parser_tokens.specs.declared.height.Measured.{Measured}
use Rattle.erl_parser_tokens.specs.declared.fault.ParseFault.{ParseFault}
use Rattle.erl_parser_tokens.specs.declared.fault.ParseFault.TheVariants as faults
use Rattle.erl_parser_tokens.specs.Tokens.{Answer, Reads, Fails, ◌>>=◌, in_case, outside, outside_behind_type, mark}
use Rattle.erl_parser_tokens.specs.Parts.{within}
use Rattle.erl_parser_tokens.specs.Views.{IsFault}
use Rattle.erl_parser_tokens.proofs.LoopLaws.{fails_by, first_fails}
use Rattle.erl_parser_types.specs.Types.{TypeExpr, type_levels, read_type, read_type_with, read_simple_type, none_outside, union_of}
use Rattle.erl_parser_types.specs.Levels.{outside_next}

pub no_levels : (d : ℕ) → d ≡ 0 → type_levels d ≡ []
unfolding type_levels
no_levels d h = rw h refl

pub levels_next : (d e : ℕ) → d ≡ suc e → type_levels d ≡ read_type e ∷ type_levels e
unfolding type_levels
levels_next zero e h = absurd (omega arith)
levels_next (suc d) e h = let same : e ≡ d = omega arith in rw same refl

pub levels_are : (d : ℕ) → d ≢ 0 → type_levels d ≡ read_type (d - 1) ∷ type_levels (d - 1)
levels_are d h = levels_next d (d - 1) (omega arith)

pub levels_length : (d : ℕ) → length (type_levels d) ≡ d
unfolding type_levels
levels_length zero = refl
levels_length (suc d) = ap suc (levels_length d)

-- ---- a type

outside_twice : {A : Type 0} (form : Option (List ℕ)) (p : Place) (answer : Answer A) → in_case form answer (λ f. outside f p) ≡ in_case {A = Place × List ℕ} (in_case {B = Option (Place × List ℕ)} form None (λ f. Some (p, f))) answer (λ f. outside f.1 f.0)
outside_twice None p answer = refl
outside_twice (Some form) p answer = refl

-- an answer where no form outside of the profile stands behind a type
none_outside_is : {A : Type 0} (ts : List Placed) (answer : Answer A) → none_outside ts answer ≡ in_case (outside_next ts) answer (λ f. outside f.1 f.0)
unfolding outside_next
none_outside_is [] answer = refl
none_outside_is (t ∷ ts) answer = outside_twice (outside_behind_type t.token) t.place answer

-- what stands behind a type without `|`, by the depth of what is one level deeper and its reader
abbrev behind_simple : ℕ → Reads (Measured TypeExpr) → Measured TypeExpr → Reads (Measured TypeExpr)
behind_simple below inner t ts = in_case (outside_next ts)
    (in_case (mark (codes "|") ts) (Ok (t, ts)) (λ m. within below t (inner m.1 >>= λ u. Ok (union_of t m.0 u.0, u.1))))
    (λ f. outside f.1 f.0)

same_behind : {A B : Type 0} (read : Answer A) (f g : A → Answer B) → ((x : A) → f x ≡ g x) → (read >>= f) ≡ (read >>= g)
same_behind (Ok x) f g h = h x
same_behind (Err e) f g h = refl

type_next : (below : ℕ) (levels : List (Reads (Measured TypeExpr))) (inner : Reads (Measured TypeExpr)) (deeper : List (Reads (Measured TypeExpr))) (ts : List Placed) → levels ≡ inner ∷ deeper → length deeper ≡ below
    → read_type_with levels ts ≡ (read_simple_type levels ts >>= λ t. behind_simple below inner t.0 t.1)
unfolding read_type_with
type_next below levels inner deeper ts e h = rw (e, ← h) (same_behind (read_simple_type (inner ∷ deeper) ts) _ _ (λ t. none_outside_is t.1 _))

type_is : (d : ℕ) (ts : List Placed) → d ≢ 0 → read_type d ts ≡ (read_simple_type (type_levels d) ts >>= λ t. behind_simple (d - 1) (read_type (d - 1)) t.0 t.1)
type_is d ts h = type_next (d - 1) (type_levels d) (read_type (d - 1)) (type_levels (d - 1)) ts (levels_are d h) (levels_length (d - 1))

-- ---- a type, by what was read of it

pub fault_fails : {A : Type 0} (f g : ParseFault) {read : Answer A} → IsFault f g → read ≡ Err f → Fails g read
fault_fails f faults.NoMemory h e = tt
fault_fails f (faults.OutOfProfile p form) h e = e ∙ ap Err h
fault_fails f (faults.Unexpected p) h e = e ∙ ap Err h
fault_fails f (faults.TooDeep p) h e = e ∙ ap Err h

-- what stands in front of the first `|` fails
pub type_fails : (d : ℕ) (ts : List Placed) (f : ParseFault) → Fails f (read_simple_type (type_levels d) ts) → Fails f (read_type d ts)
unfolding read_type_with
type_fails d ts f h = first_fails f (read_simple_type (type_levels d) ts) _ h

module _ (d : ℕ) (ts : List Placed) (t : Measured TypeExpr) (rest : List Placed) (some : 1 ≤ d) (first : read_simple_type (type_levels d) ts ≡ Ok (t, rest)) where
  first_read : read_type d ts ≡ behind_simple (d - 1) (read_type (d - 1)) t rest
  first_read = type_is d ts (omega (arith, some)) ∙ rw first refl

  pub type_outside : (p : Place) (form : List ℕ) → outside_next rest ≡ Some (p, form) → read_type d ts ≡ Err (faults.OutOfProfile p form)
  type_outside p form h = first_read ∙ rw h refl

  pub type_ends : outside_next rest ≡ None → mark (codes "|") rest ≡ None → read_type d ts ≡ Ok (t, rest)
  type_ends h e = first_read ∙ rw (h, e) refl

  pub type_too_deep : (m : Place) (behind : List Placed) → outside_next rest ≡ None → mark (codes "|") rest ≡ Some (m, behind) → d - 1 < t.height.depth → read_type d ts ≡ Err (faults.TooDeep t.height.deepest)
  type_too_deep m behind h e l = first_read ∙ rw (h, e, lt-leb t.height.depth (d - 1) l) refl

  right_read : (m : Place) (behind : List Placed) → outside_next rest ≡ None → mark (codes "|") rest ≡ Some (m, behind) → t.height.depth ≤ d - 1 → read_type d ts ≡ (read_type (d - 1) behind >>= λ u. Ok (union_of t m u.0, u.1))
  right_read m behind h e l = first_read ∙ rw (h, e, le-leb t.height.depth (d - 1) l) refl

  -- what stands behind the first `|` fails
  pub right_fails : (m : Place) (behind : List Placed) (f : ParseFault) → outside_next rest ≡ None → mark (codes "|") rest ≡ Some (m, behind) → t.height.depth ≤ d - 1 → Fails f (read_type (d - 1) behind) → Fails f (read_type d ts)
  right_fails m behind f h e l g = fails_by f (right_read m behind h e l) (first_fails f (read_type (d - 1) behind) _ g)

  pub type_union : (m : Place) (behind : List Placed) (u : Measured TypeExpr) (more : List Placed) → outside_next rest ≡ None → mark (codes "|") rest ≡ Some (m, behind) → t.height.depth ≤ d - 1 → read_type (d - 1) behind ≡ Ok (u, more) → read_type d ts ≡ Ok (union_of t m u, more)
  type_union m behind u more h e l g = right_read m behind h e l ∙ rw g refl
