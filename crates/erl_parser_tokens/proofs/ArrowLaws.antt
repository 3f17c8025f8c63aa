-- The arrow of a map's association: what is read is right, and `=>` and `:=` are read again.
use Rattle.std.proofs.Common.{◌≡◌, Bool, true, false, List, ◌∷◌, refl}
use Rattle.std.specs.Prelude.{Ok, codes}
use Rattle.erl_tree.specs.declared.token.Place.{Place}
use Rattle.erl_tree.specs.declared.token.Placed.{Placed}
use Rattle.erl_tree.specs.declared.token.Token.TheVariants as T
use Rattle.erl_grammar.specs.Pieces.{at}
use Rattle.erl_grammar.specs.Spelling.{association_text}
use Rattle.erl_parser_tokens.specs.Parts.{read_arrow}
use Rattle.erl_parser_tokens.proofs.Then.{Right, right_ok, right_fault, right_then, right_case, right_if}
use Rattle.erl_parser_tokens.proofs.TokenLaws.{mark-takes, mark-again, expect_mark, expect_mark-again}
use Rattle.erl_parser_tokens.proofs.Endings.{mark-none}

-- an arrow was read, which may be `:=` where that may stand
pub record ArrowRead (may_be_exact : Bool) (ts : List Placed) (q : (Bool × Place) × List Placed) : Type 0 where
  pub takes : ts ≡ at (T.Mark (association_text q.0.0)) q.0.1 ∷ q.1
  pub allowed : q.0.0 ≡ true → may_be_exact ≡ true

-- what stands between a key and its value is read rightly
pub arrow-right : (may_be_exact : Bool) (ts : List Placed) → Right (ArrowRead may_be_exact ts) ts (read_arrow may_be_exact ts)
unfolding read_arrow
arrow-right may_be_exact ts = right_case
    (λ e. right_if
    (λ f. right_then (expect_mark (codes ":=") ts) λ m i. right_ok (record { takes = i; allowed = λ g. f }))
    (λ f. right_fault tt))
    (λ m e. right_ok (record { takes = mark-takes (codes "=>") ts m e; allowed = λ g. absurd cc }))

-- `=>` and `:=` are read again
pub arrow-again : (may_be_exact is_exact : Bool) (m : Place) (ts : List Placed) → (is_exact ≡ true → may_be_exact ≡ true) → read_arrow may_be_exact (at (T.Mark (association_text is_exact)) m ∷ ts) ≡ Ok ((is_exact, m), ts)
unfolding read_arrow
arrow-again may_be_exact false m ts e = rw (mark-again (codes "=>") m ts) refl
arrow-again may_be_exact true m ts e = rw (mark-none (codes "=>") (T.Mark (codes ":=")) m ts refl, e refl, expect_mark-again (codes ":=") m ts) refl
