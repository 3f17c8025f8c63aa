-- Calls, and what begins with a name, a variable, a string or a parenthesis: what is well formed is read again.
use Rattle.std.proofs.Common.{◌≡◌, ℕ, suc, Bool, true, false, List, [], ◌∷◌, ◌++◌, map, refl, ap, sym, ◌∙◌, subst}
use Rattle.std.specs.Prelude.{Option, Some, None, Ok, codes}
use Rattle.std.specs.Str.{bytes_eq}
use Rattle.type_terms.specs.Keys.{Name}
use Rattle.erl_tree.specs.Lists.{Among}
use Rattle.erl_tree.specs.declared.token.Place.{Place}
use Rattle.erl_tree.specs.declared.token.Placed.{Placed}
use Rattle.erl_tree.specs.declared.token.Token.TheVariants as T
use Rattle.erl_tree.specs.declared.expr.ExprKind.{ExprKind}
use Rattle.erl_tree.specs.declared.expr.ExprKind.TheVariants as X
use Rattle.erl_grammar.specs.declared.head.Head.{Head}
use Rattle.erl_grammar.specs.declared.head.Head.TheVariants.{Plain, OfCall}
use Rattle.erl_grammar.specs.Guards.{is_call_in_profile}
use Rattle.erl_grammar.specs.Pieces.{at, own, fill, commas}
use Rattle.erl_grammar.specs.Spelling.{expr_tokens}
use Rattle.erl_grammar.specs.Nesting.{deep_all, expr_kind_deep, expr_deep}
use Rattle.erl_grammar.specs.Grammar.{node, AreSeparators, IsExpr}
use Rattle.erl_grammar.proofs.DeeperLaws.{expr_falls}
use Rattle.erl_grammar.proofs.NestingLaws.{expr_kind_deep-Paren, expr_kind_deep-Tuple, expr_kind_deep-Call, expr_kind_deep-Apply}
use Rattle.erl_parser_tokens.specs.declared.height.Height.{Height}
use Rattle.erl_parser_tokens.specs.declared.height.Measured.{Measured}
use Rattle.erl_parser_tokens.specs.Heights.{flat, higher, above, measured}
use Rattle.erl_parser_tokens.specs.Tokens.{Answer, ◌>>=◌, in_case, outside, expect, mark, string_next}
use Rattle.erl_parser_tokens.specs.Parts.{Several, read_closed, built, within}
use Rattle.erl_parser_exprs.specs.Operations.{Expr}
use Rattle.erl_parser_exprs.specs.Expressions.{Level, Headed, read_call, read_application, read_prefixed, read_named, read_variable, read_string, read_parens, read_tuple}
use Rattle.erl_parser_tokens.proofs.Right.{Measures}
use Rattle.erl_parser_tokens.proofs.HeightLaws.{among_front, among_behind, measures_as, node_measured}
use Rattle.erl_parser_tokens.proofs.Then.{Again, again_ok, again_step, again_none, again_some, again_true, again_false, again_within, IsDeep, again_read, again_read_right}
use Rattle.erl_parser_tokens.proofs.TokenLaws.{mark-again, expect_mark-again, expect_atom-again}
use Rattle.erl_parser_tokens.proofs.PartLaws.{AreThese, again_these, read_closed-again}
use Rattle.erl_parser_exprs.proofs.FirstTokens as F
use Rattle.erl_parser_exprs.proofs.Levels.{EndsExpr, IsLevel}
use Rattle.erl_parser_tokens.proofs.Endings.{mark-none}
use Rattle.erl_parser_exprs.proofs.Endings.{Closes, closes-expr, comma-closes, parenthesis-closes, brace-closes}
use Rattle.erl_parser_exprs.proofs.ItemLaws.{deeper_in}
use Rattle.erl_parser_exprs.proofs.Heads.{IsHeaded, EndsFirst}
use Rattle.erl_parser_exprs.proofs.CallLaws.{variable_read}

-- the tokens of expressions with commas between them, and their closing mark
abbrev pub closed_tokens : List ℕ → List Expr → List Place → Place → List Placed
closed_tokens closing es ms c = fill (commas (map expr_tokens es) ++ own (T.Mark closing) ∷ []) (ms ++ c ∷ [])

-- an expression without operators is read again, or a node of it is nested too deep
abbrev pub ReadsHeaded : ℕ → Head → Expr → List Placed → Answer (Headed × List Placed) → Type 0
ReadsHeaded levels head e rest answer = Again (IsHeaded head e rest) (IsDeep expr_deep (suc levels) e) answer

-- ---- single tokens

pub read_string-again : (levels : ℕ) (s : Name) (p : Place) (rest : List Placed) → EndsFirst rest → ReadsHeaded levels Plain (node p (p ∷ []) (X.Str s)) rest (read_string s p rest)
unfolding read_string
read_string-again levels s p rest e = again_false _ e.no_string (again_ok (above p flat, refl))

module _ (levels : ℕ) (l : Level) (known : IsLevel levels l) where
  -- expressions in brackets are read again
  pub exprs_again : (closing : List ℕ) → F.Closes closing → Closes (T.Mark closing) → ((c : Place) (us : List Placed) → mark (codes ",") (at (T.Mark closing) c ∷ us) ≡ None)
      → (es : List Expr) (ms : List Place) (c : Place) (rest : List Placed) → ((e : Expr) → Among e es → IsExpr 0 e) → AreSeparators es ms
      → Again (AreThese es (ms ++ c ∷ []) rest) (λ p. Among p (deep_all expr_deep es levels)) (read_closed closing l.expr (closed_tokens closing es ms c ++ rest))
  exprs_again closing k close no_comma es ms c rest h g =
      read_closed-again (IsExpr 0) expr_tokens expr_deep levels EndsExpr l.expr known.expr_again closing (λ m us. closes-expr comma-closes m us) (λ m us. closes-expr close m us) no_comma (λ e us i. F.expr_no_close e us k i) es ms c rest h g

  arguments_again : (es : List Expr) (ms : List Place) (c : Place) (rest : List Placed) → ((e : Expr) → Among e es → IsExpr 0 e) → AreSeparators es ms
      → Again (AreThese es (ms ++ c ∷ []) rest) (λ p. Among p (deep_all expr_deep es levels)) (read_closed (codes ")") l.expr (closed_tokens (codes ")") es ms c ++ rest))
  arguments_again es ms c rest h g = exprs_again (codes ")") F.closes_paren parenthesis-closes (λ c us. mark-none (codes ",") (T.Mark (codes ")")) c us refl) es ms c rest h g

  -- a tuple is read again
  pub read_tuple-again : (o c : Place) (ms : List Place) (es : List Expr) (rest : List Placed) → AreSeparators es ms → ((e : Expr) → Among e es → IsExpr 0 e) → ReadsHeaded levels Plain (node o (o ∷ (ms ++ c ∷ [])) (X.Tuple es)) rest (read_tuple l o (closed_tokens (codes "}") es ms c ++ rest))
  unfolding read_tuple
  read_tuple-again o c ms es rest g h = again_these _ (exprs_again (codes "}") F.closes_brace brace-closes (λ c us. mark-none (codes ",") (T.Mark (codes "}")) c us refl) es ms c rest h g) (λ p d. deeper_in p (expr_kind_deep-Tuple es levels) d) λ k. again_ok (above o k, refl)

  -- ---- calls

  -- a call is read again, behind its opening parenthesis
  read_call-again : (prefix : Option Name) (name : Name) (p : Place) (front : List Place) (c : Place) (ms : List Place) (args : List Expr) (rest : List Placed) → is_call_in_profile name args ≡ true → AreSeparators args ms → ((e : Expr) → Among e args → IsExpr 0 e)
      → ReadsHeaded levels OfCall (node p (front ++ (ms ++ c ∷ [])) (X.Call prefix name args)) rest (read_call l prefix name p front (closed_tokens (codes ")") args ms c ++ rest))
  unfolding read_call
  read_call-again prefix name p front c ms args rest i g h = again_these _ (arguments_again args ms c rest h g) (λ q d. deeper_in q (expr_kind_deep-Call prefix name args levels) d) λ k. again_true _ i (again_ok (above p k, refl))

  -- an atom is read again
  pub read_atom-again : (a : Name) (p : Place) (rest : List Placed) → EndsFirst rest → ReadsHeaded levels Plain (node p (p ∷ []) (X.Atom a)) rest (read_named l a p rest)
  unfolding read_named
  read_atom-again a p rest e = again_none _ e.no_call (again_none _ e.no_colon (again_ok (above p flat, refl)))

  -- a call without a prefix is read again
  pub read_called-again : (n o c : Place) (ms : List Place) (name : Name) (args : List Expr) (rest : List Placed) → is_call_in_profile name args ≡ true → AreSeparators args ms → ((e : Expr) → Among e args → IsExpr 0 e)
      → ReadsHeaded levels OfCall (node n (n ∷ o ∷ (ms ++ c ∷ [])) (X.Call None name args)) rest (read_named l name n (at (T.Mark (codes "(")) o ∷ (closed_tokens (codes ")") args ms c ++ rest)))
  unfolding read_named
  read_called-again n o c ms name args rest i g h = again_some _ _ (mark-again (codes "(") o _) (read_call-again None name n (n ∷ o ∷ []) c ms args rest i g h)

  read_prefixed-again : (p d n o c : Place) (ms : List Place) (name : Name) (args : List Expr) (rest : List Placed) → is_call_in_profile name args ≡ true → AreSeparators args ms → ((e : Expr) → Among e args → IsExpr 0 e)
      → ReadsHeaded levels OfCall (node p (p ∷ d ∷ n ∷ o ∷ (ms ++ c ∷ [])) (X.Call (Some (codes "erlang")) name args)) rest (read_prefixed l p d (at (T.Atom name) n ∷ at (T.Mark (codes "(")) o ∷ (closed_tokens (codes ")") args ms c ++ rest)))
  unfolding read_prefixed
  read_prefixed-again p d n o c ms name args rest i g h = again_step _ (expect_atom-again name n _) (again_step _ (expect_mark-again (codes "(") o _) (read_call-again (Some (codes "erlang")) name p (p ∷ d ∷ n ∷ o ∷ []) c ms args rest i g h))

  -- a call with the prefix `erlang:` is read again
  pub read_erlang-again : (p d n o c : Place) (ms : List Place) (name : Name) (args : List Expr) (rest : List Placed) → is_call_in_profile name args ≡ true → AreSeparators args ms → ((e : Expr) → Among e args → IsExpr 0 e)
      → ReadsHeaded levels OfCall (node p (p ∷ d ∷ n ∷ o ∷ (ms ++ c ∷ [])) (X.Call (Some (codes "erlang")) name args)) rest
      (read_named l (codes "erlang") p (at (T.Mark (codes ":")) d ∷ at (T.Atom name) n ∷ at (T.Mark (codes "(")) o ∷ (closed_tokens (codes ")") args ms c ++ rest)))
  unfolding read_named
  read_erlang-again p d n o c ms name args rest i g h = again_none _ (mark-none (codes "(") (T.Mark (codes ":")) d _ refl) (again_some _ _ (mark-again (codes ":") d _) (again_true (outside (codes "remote name") d) refl (read_prefixed-again p d n o c ms name args rest i g h)))

  -- ---- calls of what an expression gives

  -- the call is read again, behind its opening parenthesis
  read_application-again : (f : Expr) (k : Height) (o c : Place) (ms : List Place) (args : List Expr) (rest : List Placed) → Measures (expr_deep f) k → AreSeparators args ms → ((e : Expr) → Among e args → IsExpr 0 e)
      → ReadsHeaded levels OfCall (node f.place (o ∷ (ms ++ c ∷ [])) (X.Apply f args)) rest (read_application l levels (measured f k) o (closed_tokens (codes ")") args ms c ++ rest))
  unfolding read_application
  read_application-again f k o c ms args rest m g h = again_within levels (measured f k) m (λ p d. deeper_in p (expr_kind_deep-Apply f args levels) (among_front p (expr_deep f levels) _ d))
      (again_these _ (arguments_again args ms c rest h g) (λ p d. deeper_in p (expr_kind_deep-Apply f args levels) (among_behind p (expr_deep f levels) _ d)) λ j. again_ok (above f.place (higher k j), refl))

  -- a variable is read again
  pub read_variable-again : (x : Name) (p : Place) (rest : List Placed) → EndsFirst rest → ReadsHeaded levels Plain (node p (p ∷ []) (X.Var x)) rest (read_variable l levels x p rest)
  unfolding read_variable
  read_variable-again x p rest e = again_none _ e.no_call (again_none _ e.no_colon (again_ok (above p flat, refl)))

  -- a call of a variable is read again
  pub read_variable_applied-again : (p o c : Place) (ms : List Place) (x : Name) (args : List Expr) (rest : List Placed) → AreSeparators args ms → ((e : Expr) → Among e args → IsExpr 0 e)
      → ReadsHeaded levels OfCall (node p (o ∷ (ms ++ c ∷ [])) (X.Apply (node p (p ∷ []) (X.Var x)) args)) rest (read_variable l levels x p (at (T.Mark (codes "(")) o ∷ (closed_tokens (codes ")") args ms c ++ rest)))
  unfolding read_variable
  read_variable_applied-again p o c ms x args rest g h = again_some _ _ (mark-again (codes "(") o _) (read_application-again (node p (p ∷ []) (X.Var x)) (above p flat) o c ms args rest (variable_read levels x p []).measures g h)

  -- parentheses are read again
  pub read_parens-again : (o c : Place) (e : Expr) (rest : List Placed) → IsExpr 0 e → EndsFirst rest → ReadsHeaded levels Plain (node o (o ∷ c ∷ []) (X.Paren e)) rest (read_parens l levels o (expr_tokens e ++ at (T.Mark (codes ")")) c ∷ rest))
  unfolding read_parens
  read_parens-again o c e rest i f = again_read _ (known.expr_again e (at (T.Mark (codes ")")) c ∷ rest) i (closes-expr parenthesis-closes c rest)) (λ p d. deeper_in p (expr_kind_deep-Paren e levels) d) λ h.
      again_step _ (expect_mark-again (codes ")") c rest) (again_none _ f.no_call (again_ok (above o h, refl)))

  -- a call of an expression in parentheses is read again
  pub read_parens_applied-again : (p q o c : Place) (ms : List Place) (f : Expr) (args : List Expr) (rest : List Placed) → IsExpr 0 f → AreSeparators args ms → ((e : Expr) → Among e args → IsExpr 0 e)
      → ReadsHeaded levels OfCall (node p (o ∷ (ms ++ c ∷ [])) (X.Apply (node p (p ∷ q ∷ []) (X.Paren f)) args)) rest
      (read_parens l levels p (expr_tokens f ++ at (T.Mark (codes ")")) q ∷ at (T.Mark (codes "(")) o ∷ (closed_tokens (codes ")") args ms c ++ rest)))
  unfolding read_parens
  read_parens_applied-again p q o c ms f args rest i g h =
      let behind : List Placed = at (T.Mark (codes "(")) o ∷ (closed_tokens (codes ")") args ms c ++ rest) in
      again_read_right _ (known.expr_right (expr_tokens f ++ at (T.Mark (codes ")")) q ∷ behind)) (known.expr_again f (at (T.Mark (codes ")")) q ∷ behind) i (closes-expr parenthesis-closes q behind))
      (λ s d. deeper_in s (expr_kind_deep-Apply (node p (p ∷ q ∷ []) (X.Paren f)) args levels) (among_front s (expr_deep (node p (p ∷ q ∷ []) (X.Paren f)) levels) _
      ((expr_falls (node p (p ∷ q ∷ []) (X.Paren f))).falls levels s (deeper_in s (expr_kind_deep-Paren f levels) d)))) λ k m.
      again_step _ (expect_mark-again (codes ")") q behind) (again_some _ _ (mark-again (codes "(") o _)
      (read_application-again (node p (p ∷ q ∷ []) (X.Paren f)) (above p k) o c ms args rest (node_measured (node p (p ∷ q ∷ []) (expr_kind_deep (X.Paren f))) k (measures_as (expr_kind_deep-Paren f) m)) g h))
