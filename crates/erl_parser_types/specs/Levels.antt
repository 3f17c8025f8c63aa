-- What the functions of the parser read at one level.
use Rattle.std.specs.Prelude.{ℕ, ◌<◌, ◌≤◌, ◌^◌, List, [], ◌∷◌, ◌++◌, length, Option, Some, None, Ok, IfOk, codes}
use Rattle.std.proofs.Common.{Bor}
use Rattle.erl_tree.specs.declared.token.Place.{Place}
use Rattle.erl_tree.specs.declared.token.Placed.{Placed}
use Rattle.type_terms.specs.Keys.{Name}
use Rattle.erl_tree.specs.declared.type_expr.TypeKind.TheVariants as Y
use Rattle.erl_parser_tokens.specs.declared.height.Measured.{Measured}
use Rattle.erl_parser_tokens.specs.Tokens.{Reads, Gives, ◌>>=◌, in_case, outside_behind_type}
use Rattle.erl_parser_tokens.specs.Heights.{higher}
use Rattle.erl_parser_tokens.specs.Parts.{Several, built, read_closed}
use Rattle.erl_parser_tokens.specs.Passed.{Returned}
use Rattle.erl_parser_types.specs.Types.{TypeExpr, read_type}

-- a function that was passed reads the types nested less deep than this
pub record CanRead (pre : Bor (List Placed) → ℕ → Type 0) (post : Bor (List Placed) → ℕ → Returned TypeExpr → Type 0) (bound : ℕ) : Type 0 where
  pub fits : bound < 2 ^ 64
  pub can : (ts : Bor (List Placed)) (d : ℕ) → d < bound → pre ts d
  pub gives : (ts : Bor (List Placed)) (d : ℕ) (r : Returned TypeExpr) → post ts d r → Gives (λ x. (x.0, x.1.now)) r (read_type d ts.now)
  pub low : (ts : Bor (List Placed)) (d : ℕ) (r : Returned TypeExpr) → post ts d r → IfOk r (λ x. x.0.height.depth ≤ d)
  pub shorter : (ts : Bor (List Placed)) (d : ℕ) (r : Returned TypeExpr) → post ts d r → IfOk r (λ x. length x.1.now < length ts.now)

-- the form outside of the profile that stands behind a type, with its place
unfoldable pub outside_next : List Placed → Option (Place × List ℕ)
outside_next [] = None
outside_next (t ∷ ts) = in_case (outside_behind_type t.token) None (λ form. Some (t.place, form))

-- the use of a type, behind the opening parenthesis, by the places of its name and of the parenthesis
abbrev pub read_used : Reads (Measured TypeExpr) → Name → (p o : Place) → Reads (Measured TypeExpr)
read_used inner a p o ts = read_closed (codes ")") inner ts >>= λ s. Ok (built p (p ∷ o ∷ s.0.marks) (Y.Use None a s.0.items) s.0.height, s.1)

-- the type of functions with these parameters and this result, by the places of its other marks
abbrev pub fun_built : (f o q : Place) → Several TypeExpr → (a : Place) → Measured TypeExpr → (c : Place) → Measured TypeExpr
fun_built f o q s a r c = built f (f ∷ o ∷ q ∷ (s.marks ++ a ∷ c ∷ [])) (Y.Fun s.items r.tree) (higher s.height r.height)
