-- The readers of expressions nested at most so many levels deep and fewer: their equations.
use Rattle.std.proofs.Common.{◌≡◌, ◌≢◌, ℕ, zero, suc, ◌-◌, [], ◌∷◌, length, drop, refl, ap, ◌∙◌, arith}
use Rattle.erl_parser_exprs.specs.Expressions.{level_of, expr_levels, expr_readers, read_expr}

pub no_levels : (d : ℕ) → d ≡ 0 → expr_levels d ≡ []
unfolding expr_levels
no_levels d h = rw h refl

pub levels_next : (d e : ℕ) → d ≡ suc e → expr_levels d ≡ level_of e (expr_levels e) ∷ expr_levels e
unfolding expr_levels
levels_next zero e h = absurd (omega arith)
levels_next (suc d) e h = let same : e ≡ d = omega arith in rw same refl

pub levels_are : (d : ℕ) → d ≢ 0 → expr_levels d ≡ level_of (d - 1) (expr_levels (d - 1)) ∷ expr_levels (d - 1)
levels_are d h = levels_next d (d - 1) (omega arith)

pub levels_length : (d : ℕ) → length (expr_levels d) ≡ d
unfolding expr_levels
levels_length zero = refl
levels_length (suc d) = ap suc (levels_length d)

pub levels_dropped : (s d : ℕ) → drop s (expr_levels d) ≡ expr_levels (d - s)
unfolding expr_levels
levels_dropped zero d = let e : d ≡ d - 0 = omega arith in ap expr_levels e
levels_dropped (suc s) zero = let e : 0 ≡ 0 - suc s = omega arith in ap expr_levels e
levels_dropped (suc s) (suc d) = let e : d - s ≡ suc d - suc s = omega arith in levels_dropped s d ∙ ap expr_levels e

-- the readers of expressions that are nested less deep
pub readers_next : (d e : ℕ) → d ≡ suc e → expr_readers (expr_levels d) ≡ read_expr e ∷ expr_readers (expr_levels e)
readers_next d e h = ap expr_readers (levels_next d e h)

pub no_readers : (d : ℕ) → d ≡ 0 → expr_readers (expr_levels d) ≡ []
no_readers d h = ap expr_readers (no_levels d h)
