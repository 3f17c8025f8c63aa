-- What is said of a function that is passed and reads parts: what it returns.
use Rattle.std.specs.Prelude.{ℕ, ◌<◌, ◌≤◌, List, length, Result, IfOk}
use Rattle.std.proofs.Common.{Bor}
use Rattle.erl_tree.specs.declared.token.Placed.{Placed}
use Rattle.erl_parser_tokens.specs.declared.fault.ParseFault.{ParseFault}
use Rattle.erl_parser_tokens.specs.declared.height.Measured.{Measured}
use Rattle.erl_parser_tokens.specs.Tokens.{Reads, Gives}

-- what a function that was passed may return, where it takes tokens
abbrev pub Returned : Type 0 → Type 0
Returned A = Result (Measured A × Bor (List Placed)) ParseFault

-- what a function that was passed returns is what the reader answers
abbrev pub Follows : {A : Type 0} → (Bor (List Placed) → Returned A → Type 0) → Reads (Measured A) → Type 0
Follows {A} post reads = (ts : Bor (List Placed)) (r : Returned A) → post ts r → Gives (λ x. (x.0, x.1.now)) r (reads ts.now)

-- what it returns has at most so many levels
abbrev pub StaysIn : {A : Type 0} → (Bor (List Placed) → Returned A → Type 0) → ℕ → Type 0
StaysIn {A} post most = (ts : Bor (List Placed)) (r : Returned A) → post ts r → IfOk r (λ x. x.0.height.depth ≤ most)

-- what it returns stands in front of fewer tokens
abbrev pub Shortens : {A : Type 0} → (Bor (List Placed) → Returned A → Type 0) → Type 0
Shortens {A} post = (ts : Bor (List Placed)) (r : Returned A) → post ts r → IfOk r (λ x. length x.1.now < length ts.now)
