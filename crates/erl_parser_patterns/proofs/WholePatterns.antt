-- A text that is one pattern: what is found is the pattern with these tokens, each well-formed pattern is found or is nested too deep, and no tokens are those of two.
use Rattle.std.proofs.Common.{◌≡◌, ℕ, List, [], ◌∷◌, ◌++◌, refl, ap, sym, ◌∙◌, subst, le_refl}
use Rattle.std.specs.Prelude.{Ok, Err}
use Rattle.erl_tree.specs.Lists.{Among}
use Rattle.erl_tree.specs.declared.token.Place.{Place}
use Rattle.erl_tree.specs.declared.token.Placed.{Placed}
use Rattle.erl_tree.specs.declared.token.Token.TheVariants as T
use Rattle.erl_grammar.specs.Pieces.{at}
use Rattle.erl_grammar.specs.Spelling.{pattern_tokens}
use Rattle.erl_grammar.specs.Nesting.{pattern_deep}
use Rattle.erl_grammar.specs.Grammar.{IsPattern}
use Rattle.erl_grammar.proofs.DepthLaws.{Bounded, pattern_bounded}
use Rattle.erl_parser_tokens.specs.declared.fault.ParseFault.TheVariants as faults
use Rattle.erl_parser_tokens.specs.declared.height.Measured.{Measured}
use Rattle.erl_parser_tokens.specs.Tokens.{Answer, ◌>>=◌, in_case, first_place, unexpected, end}
use Rattle.erl_parser_patterns.specs.Patterns.{Pattern, read_pattern}
use Rattle.erl_parser_patterns.specs.Answers.{IsPatternText}
use Rattle.erl_parser_tokens.proofs.Then.{Right, right_ok, right_fault, right_as, right_behind, right_then, right_case, behind_part, IsRead, Again, again_ok, again_some, again_read, again_shallow}
use Rattle.erl_parser_tokens.proofs.TokenLaws.{end-takes, end-again}
use Rattle.erl_parser_patterns.proofs.PatternLaws.{read_pattern-right, read_pattern-again, end_ends_pattern}

-- one pattern nested at most so many levels deep, and the end of the text
abbrev pub read_whole : ℕ → List Placed → Answer Pattern
read_whole d ts = read_pattern d ts >>= λ p. in_case (end p.1) (unexpected p.1) (λ e. Ok p.0.tree)

-- the pattern that was found
pub record FoundPattern (d : ℕ) (ts : List Placed) (x : Pattern) : Type 0 where
  pub formed : IsPattern x
  pub shallow : pattern_deep x d ≡ []
  pub text : IsPatternText x ts

found : (d : ℕ) (ts us : List Placed) (p : Measured Pattern) (e : Place) → IsRead IsPattern pattern_tokens pattern_deep d ts (p, us) → us ≡ at T.End e ∷ [] → FoundPattern d ts p.tree
found d ts us p e r g = record { formed = r.formed; shallow = r.measures.shallow d r.within; text = record { end = e; text = r.takes ∙ ap (λ vs. pattern_tokens p.tree ++ vs) g } }

-- what is found is well formed and has exactly these tokens, and a form outside of the profile is answered only where it stands
pub read_whole-right : (d : ℕ) (ts : List Placed) → Right (FoundPattern d ts) ts (read_whole d ts)
read_whole-right d ts = right_then (read_pattern-right d ts) λ p r. right_case (λ n. right_fault {f = faults.Unexpected (first_place p.1)} tt) (λ e s. right_ok (found d ts p.1 p.0 e r (end-takes p.1 e s)))

-- a well-formed pattern is what is answered, or a node of it is nested too deep
read_whole-again : (d : ℕ) (x : Pattern) (e : Place) → IsPattern x → Again (λ y. y ≡ x) (λ q. Among q (pattern_deep x d)) (read_whole d (pattern_tokens x ++ at T.End e ∷ []))
read_whole-again d x e i = again_read _ (read_pattern-again d x (at T.End e ∷ []) i (end_ends_pattern e [])) (λ q a. a) λ h. again_some _ _ (end-again e) (again_ok refl)

pub again_pattern : (d : ℕ) (ts : List Placed) (x : Pattern) → IsPattern x → IsPatternText x ts → Again (λ y. y ≡ x) (λ q. Among q (pattern_deep x d)) (read_whole d ts)
again_pattern d ts x i t = subst (λ us. Again (λ y. y ≡ x) (λ q. Among q (pattern_deep x d)) (read_whole d us)) (sym t.text) (read_whole-again d x t.end i)

-- a well-formed pattern that is nested at most so deep is found
pub read_whole-finds : (d : ℕ) (ts : List Placed) (x : Pattern) → IsPattern x → IsPatternText x ts → pattern_deep x d ≡ [] → read_whole d ts ≡ Ok x
read_whole-finds d ts x i t s = let r = again_shallow (λ p a. elim (subst (Among p) s a) [ ]) (again_pattern d ts x i t) in r.1 ∙ ap (λ y. Ok y) r.2

same_by : (d : ℕ) (ts : List Placed) (x y : Pattern) → IsPattern x → IsPatternText x ts → read_whole d ts ≡ Ok y → y ≡ x
same_by d ts x y i t g = (subst (λ z. Again (λ w. w ≡ x) (λ q. Among q (pattern_deep x d)) z) g (again_pattern d ts x i t)).holds

one_pattern_text : (ts : List Placed) (x y : Pattern) → IsPattern x → IsPattern y → IsPatternText x ts → IsPatternText y ts → x ≡ y
one_pattern_text ts x y i j t u = let b = pattern_bounded i in same_by b.bound ts y x j u (read_whole-finds b.bound ts x i t (b.empty b.bound (le_refl b.bound)))

-- no tokens are those of two well-formed patterns
pub one_pattern : (x y : Pattern) → IsPattern x → IsPattern y → pattern_tokens x ≡ pattern_tokens y → x ≡ y
one_pattern x y i j g = one_pattern_text (pattern_tokens x ++ at T.End x.place ∷ []) x y i j (record { end = x.place; text = refl }) (record { end = x.place; text = ap (λ ts. ts ++ at T.End x.place ∷ []) g })
