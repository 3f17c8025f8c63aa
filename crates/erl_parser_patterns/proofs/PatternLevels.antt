-- The readers of patterns nested at most so many levels deep and fewer: their equations at a depth that is 0 and at one that is not.
use Rattle.std.proofs.Common.{◌≡◌, ◌≢◌, ℕ, zero, suc, ◌-◌, List, [], ◌∷◌, length, refl, ap, ◌∙◌, arith}
use Rattle.std.proofs.lemmas.Bool.{le-leb}
use Rattle.std.specs.Prelude.{◌≤◌, true, None, Ok, Err, if◌then◌else◌, codes}
use Rattle.erl_tree.specs.declared.token.Place.{Place}
use Rattle.erl_tree.specs.declared.token.Placed.{Placed}
use Rattle.erl_parser_tokens.specs.declared.height.Measured.{Measured}
use Rattle.erl_parser_tokens.specs.declared.fault.ParseFault.TheVariants as faults
use Rattle.erl_parser_tokens.specs.Tokens.{Reads, ◌>>=◌, first_place, expect, mark, outside_next}
use Rattle.erl_parser_patterns.specs.Scan.{leads_to}
use Rattle.erl_parser_patterns.specs.Patterns.{Pattern, pattern_levels, read_pattern, read_simple_pattern, alias_of, read_left, no_outside}
use Rattle.erl_parser_tokens.specs.Parts.{within}

pub no_levels : (d : ℕ) → d ≡ 0 → pattern_levels d ≡ []
unfolding pattern_levels
no_levels d h = rw h refl

pub levels_next : (d e : ℕ) → d ≡ suc e → pattern_levels d ≡ read_pattern e ∷ pattern_levels e
unfolding pattern_levels
levels_next zero e h = absurd (omega arith)
levels_next (suc d) e h = let same : e ≡ d = omega arith in rw same refl

pub levels_are : (d : ℕ) → d ≢ 0 → pattern_levels d ≡ read_pattern (d - 1) ∷ pattern_levels (d - 1)
levels_are d h = levels_next d (d - 1) (omega arith)

pub levels_length : (d : ℕ) → length (pattern_levels d) ≡ d
unfolding pattern_levels
levels_length zero = refl
levels_length (suc d) = ap suc (levels_length d)

-- ---- the left side of a match

-- what a left side is, by the readers of its parts
abbrev left_of : ℕ → List (Reads (Measured Pattern)) → List (Reads (Measured Pattern)) → Reads (Measured Pattern × Place)
left_of below levels deeper ts = read_simple_pattern levels ts >>= λ p. no_outside p.1 (expect (mark (codes "=")) p.1 >>= λ m.
    (if leads_to (codes "=") m.1 then within below p.0 (read_left deeper m.1 >>= λ q. Ok ((alias_of p.0 m.0 q.0.0, q.0.1), q.1)) else Ok ((p.0, m.0), m.1)))

pub no_left : (d : ℕ) (ts : List Placed) → d ≡ 0 → read_left (pattern_levels d) ts ≡ Err (faults.TooDeep (first_place ts))
unfolding read_left
no_left d ts h = rw (no_levels d h) refl

left_next : (below : ℕ) (levels : List (Reads (Measured Pattern))) (inner : Reads (Measured Pattern)) (deeper : List (Reads (Measured Pattern))) (ts : List Placed) → levels ≡ inner ∷ deeper → length deeper ≡ below → read_left levels ts ≡ left_of below levels deeper ts
unfolding read_left
left_next below levels inner deeper ts e h = rw (e, ← h) refl

pub left_is : (d : ℕ) (ts : List Placed) → d ≢ 0 → read_left (pattern_levels d) ts ≡ left_of (d - 1) (pattern_levels d) (pattern_levels (d - 1)) ts
left_is d ts h = left_next (d - 1) (pattern_levels d) (read_pattern (d - 1)) (pattern_levels (d - 1)) ts (levels_are d h) (levels_length (d - 1))

-- of several `=` the last one is the match's
pub left_goes_on : (d : ℕ) (ts : List Placed) (p : Measured Pattern) (rest : List Placed) (m : Place) (behind : List Placed) (q : Measured Pattern) (last : Place) (more : List Placed)
    → d ≢ 0 → read_simple_pattern (pattern_levels d) ts ≡ Ok (p, rest) → outside_next rest ≡ None → expect (mark (codes "=")) rest ≡ Ok (m, behind) → leads_to (codes "=") behind ≡ true → p.height.depth ≤ d - 1
    → read_left (pattern_levels (d - 1)) behind ≡ Ok ((q, last), more) → read_left (pattern_levels d) ts ≡ Ok ((alias_of p m q, last), more)
left_goes_on d ts p rest m behind q last more h s a e l w r = left_is d ts h ∙ rw (s, a, e, l, le-leb p.height.depth (d - 1) w, r) refl
