-- The operators that wait for their right side: which of them take an operand, and how many levels they need.
use Rattle.std.proofs.Common.{◌≡◌, ◌∙◌, refl, ap, sym, ℕ, suc, ◌+◌, ◌<◌, ◌≤◌, false, List, [], ◌∷◌, length, arith}
use Rattle.std.specs.Prelude.{nat_le, if◌then◌else◌}
use Rattle.std.proofs.Common.{subst}
use Rattle.std.proofs.lemmas.Bool.{le-leb}
use Rattle.std.proofs.lemmas.Bool.Decides.{leb_tells}
use Rattle.erl_parser_exprs.specs.declared.operators.Waiting.{Waiting}
use Rattle.erl_parser_exprs.specs.Operations.{Operand, operand, pending, asks, strength, joined, reduced}
use Rattle.erl_parser_exprs.specs.Waiting.{left_depth, FitIn, asks_last}

-- the last operator needs its levels, and the others theirs
pub fit_last : (levels : ℕ) (ws vs : List Waiting) (w : Waiting) → ws ≡ w ∷ vs → FitIn levels ws → (left_depth w + suc (length vs) ≤ levels) × FitIn levels vs
unfolding FitIn
fit_last levels ws vs w e h = subst (λ us. FitIn levels us) e h

-- one more operator fits where there is a level for it and its left operand
pub fit_more : (levels : ℕ) (ws vs : List Waiting) (w : Waiting) → ws ≡ w ∷ vs → FitIn levels vs → left_depth w + suc (length vs) ≤ levels → FitIn levels ws
unfolding FitIn
fit_more levels ws vs w e h l = subst (λ us. FitIn levels us) (sym e) (l, h)

-- no operators fit
pub fit_none : (levels : ℕ) (ws : List Waiting) → ws ≡ [] → FitIn levels ws
unfolding FitIn
fit_none levels ws e = subst (λ us. FitIn levels us) (sym e) tt

-- the last operator takes the operand, where its right side must bind more tightly
pub reduced_more : (limit : ℕ) (ws vs : List Waiting) (w : Waiting) (o : Operand) → ws ≡ w ∷ vs → limit < asks w → reduced limit ws o ≡ reduced limit vs (operand (joined w o.expr) (strength w))
unfolding reduced
reduced_more limit ws vs w o e h =
    ap (λ us. reduced limit us o) e
    ∙ ap (λ b. if b then reduced limit vs (operand (joined w o.expr) (strength w)) else pending (w ∷ vs) o) (le-leb (suc limit) (asks w) (omega (arith, h)))

less_is_no : (m n : ℕ) → n ≤ m → nat_le (suc m) n ≡ false
less_is_no m n h = grind (arith, leb_tells)

-- no operator takes it, where the last one's may bind as tightly
pub reduced_ends : (limit : ℕ) (ws : List Waiting) (o : Operand) → asks_last ws ≤ limit → reduced limit ws o ≡ pending ws o
unfolding reduced
reduced_ends limit [] o h = refl
reduced_ends limit (w ∷ ws) o h = ap (λ b. if b then reduced limit ws (operand (joined w o.expr) (strength w)) else pending (w ∷ ws) o) (less_is_no limit (asks w) h)
