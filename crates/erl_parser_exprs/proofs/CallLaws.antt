-- Calls, and what begins with a name, a variable, a string or a parenthesis.
use Rattle.std.proofs.Common.{◌≡◌, ℕ, suc, ◌≤◌, Bool, true, false, List, [], ◌∷◌, ◌++◌, map, refl, ap, sym, ◌∙◌, subst, inl, inr, append_assoc, append-nil, arith}
use Rattle.std.specs.Prelude.{Option, Some, None, Ok, Err, if◌then◌else◌, codes}
use Rattle.std.specs.Str.{bytes_eq}
use Rattle.std.proofs.lemmas.Slice.Eq.{bytes_eq-Decides}
use Rattle.type_terms.specs.Keys.{Name}
use Rattle.erl_tree.specs.Lists.{Among}
use Rattle.erl_tree.specs.declared.token.Place.{Place}
use Rattle.erl_tree.specs.declared.token.Placed.{Placed}
use Rattle.erl_tree.specs.declared.token.Token.TheVariants as T
use Rattle.erl_tree.specs.declared.expr.ExprKind.{ExprKind}
use Rattle.erl_tree.specs.declared.expr.ExprKind.TheVariants as X
use Rattle.erl_grammar.specs.declared.head.Head.TheVariants.{Plain, OfCall}
use Rattle.erl_grammar.specs.Guards.{is_call_in_profile}
use Rattle.erl_grammar.specs.Pieces.{at, own, inner, fill, commas}
use Rattle.erl_grammar.specs.Spelling.{expr_shown, expr_tokens, prefix_pieces, argument_pieces}
use Rattle.erl_grammar.specs.Nesting.{deep_all, expr_kind_deep, expr_deep}
use Rattle.erl_grammar.specs.Grammar.{node, AreSeparators, IsExpr, IsPostfix, variable, parens, tuple, call, prefixed_call, variable_applied, parens_applied}
use Rattle.erl_grammar.specs.Grammar as G
use Rattle.erl_grammar.proofs.SpellingLaws.{expr_shown-Atom, expr_shown-Var, expr_shown-Str, expr_shown-Paren, expr_shown-Tuple, expr_shown-Call, expr_shown-Apply}
use Rattle.erl_grammar.proofs.NestingLaws.{expr_kind_deep-Atom, expr_kind_deep-Var, expr_kind_deep-Str, expr_kind_deep-Paren, expr_kind_deep-Tuple, expr_kind_deep-Call, expr_kind_deep-Apply}
use Rattle.erl_parser_tokens.specs.declared.height.Height.{Height}
use Rattle.erl_parser_tokens.specs.declared.height.Measured.{Measured}
use Rattle.erl_parser_tokens.specs.Heights.{flat, higher}
use Rattle.erl_parser_tokens.specs.Tokens.{Answer, ◌>>=◌, in_case, outside, expect, mark, string_next}
use Rattle.erl_parser_tokens.specs.Parts.{Several, read_closed, built, within}
use Rattle.erl_parser_tokens.specs.Outside.{HasOutside, IsOutside, remote_atom, remote_variable, adjacent_strings, wrong_call, wrong_prefixed_call}
use Rattle.erl_parser_exprs.specs.Operations.{Expr}
use Rattle.erl_parser_exprs.specs.Expressions.{Level, Headed, plain_leaf, read_call, read_application, read_prefixed, read_named, read_variable, read_string, read_parens, read_tuple}
use Rattle.erl_parser_tokens.proofs.Right.{Measures, Read}
use Rattle.erl_parser_tokens.proofs.HeightLaws.{measures_as, nothing_measured, both_measured, higher_within}
use Rattle.erl_parser_tokens.proofs.Then.{Behind, behind_none, behind_token, behind_part, behind_behind, Right, right_ok, right_outside, right_then, right_next, right_case, right_if, right_within}
use Rattle.erl_parser_tokens.proofs.TokenLaws.{stands_after, mark-takes, expect_mark, expect_atom, string_next-takes}
use Rattle.erl_parser_tokens.proofs.PartLaws.{AreClosed, read_closed-right}
use Rattle.erl_parser_exprs.proofs.Levels.{IsLevel}
use Rattle.erl_parser_exprs.proofs.Heads.{HeadedRead, headed_read, right_tokens}

pub text_is : (text m : List ℕ) → bytes_eq m text ≡ true → m ≡ text
text_is text m e = (bytes_eq-Decides m text).0 e

-- ---- single tokens

pub atom_read : (levels : ℕ) (a : Name) (p : Place) (ts : List Placed) → HeadedRead (suc levels) (at (T.Atom a) p ∷ ts) ((built p (p ∷ []) (X.Atom a) flat, Plain), ts)
atom_read levels a p ts = headed_read p (p ∷ []) (X.Atom a) flat Plain ts (G.atom p a) (ap (λ us. us ++ ts) (sym (expr_shown-Atom a (p ∷ [])))) (nothing_measured (expr_kind_deep-Atom a)) (omega arith)

pub variable_read : (levels : ℕ) (x : Name) (p : Place) (ts : List Placed) → HeadedRead (suc levels) (at (T.Var x) p ∷ ts) ((built p (p ∷ []) (X.Var x) flat, Plain), ts)
variable_read levels x p ts = headed_read p (p ∷ []) (X.Var x) flat Plain ts (variable p x) (ap (λ us. us ++ ts) (sym (expr_shown-Var x (p ∷ [])))) (nothing_measured (expr_kind_deep-Var x)) (omega arith)

pub string_read : (levels : ℕ) (s : Name) (p : Place) (ts : List Placed) → HeadedRead (suc levels) (at (T.Str s) p ∷ ts) ((built p (p ∷ []) (X.Str s) flat, Plain), ts)
string_read levels s p ts = headed_read p (p ∷ []) (X.Str s) flat Plain ts (G.string p s) (ap (λ us. us ++ ts) (sym (expr_shown-Str s (p ∷ [])))) (nothing_measured (expr_kind_deep-Str s)) (omega arith)

-- a form outside of the profile begins there
pub stands : {ts : List Placed} {p : Place} {form : Name} → IsOutside form p [] ts → HasOutside ts p form
stands i = record { before = []; rest = _; split = refl; stands = i }

-- a string is read rightly
pub read_string-right : (levels : ℕ) (s : Name) (p : Place) (ts : List Placed) → Right (HeadedRead (suc levels) (at (T.Str s) p ∷ ts)) (at (T.Str s) p ∷ ts) (read_string s p ts)
unfolding read_string
read_string-right levels s p ts = right_if
    (λ e. let f = string_next-takes ts e in right_outside (subst (λ us. HasOutside (at (T.Str s) p ∷ us) p (codes "adjacent strings")) (sym f.3) (stands (adjacent_strings s f.0 p f.1 [] f.2))))
    (λ e. right_ok (string_read levels s p ts))

-- ---- calls

-- arguments were read, and their closing parenthesis
abbrev pub AreArguments : ℕ → List Placed → Several Expr × List Placed → Type 0
AreArguments levels ts q = AreClosed (IsExpr 0) expr_tokens expr_deep levels (codes ")") ts q

module _ (levels : ℕ) (l : Level) (known : IsLevel levels l) where
  arguments_right : (ts : List Placed) → Right (AreArguments levels ts) ts (read_closed (codes ")") l.expr ts)
  arguments_right ts = read_closed-right (IsExpr 0) expr_tokens expr_deep levels l.expr known.expr_right (codes ")") ts

  -- the tokens of a call up to its opening parenthesis, and its marks there
  record IsFront (prefix : Option Name) (name : Name) (p : Place) (front : List Place) (tokens : List Placed) : Type 0 where
    text : (args : List Expr) (ms : List Place) → expr_shown (X.Call prefix name args) (front ++ ms) ≡ tokens ++ fill (commas (map expr_tokens args) ++ own (T.Mark (codes ")")) ∷ []) ms
    refused : (c : Place) (ms : List Place) (args : List Expr) (rest : List Placed) → is_call_in_profile name args ≡ false → AreSeparators args ms → ((e : Expr) → Among e args → IsExpr 0 e) → IsOutside (codes "built-in") p [] (expr_shown (X.Call prefix name args) (front ++ (ms ++ c ∷ [])) ++ rest)
    formed : (c : Place) (ms : List Place) (args : List Expr) → is_call_in_profile name args ≡ true → AreSeparators args ms → ((e : Expr) → Among e args → IsExpr 0 e) → IsPostfix OfCall (node p (front ++ (ms ++ c ∷ [])) (X.Call prefix name args))

  call_read : (prefix : Option Name) (name : Name) (p : Place) (front : List Place) (tokens ts : List Placed) (q : Several Expr × List Placed) → IsFront prefix name p front tokens → AreArguments levels ts q → is_call_in_profile name q.0.items ≡ true
      → HeadedRead (suc levels) (tokens ++ ts) ((built p (front ++ q.0.marks) (X.Call prefix name q.0.items) q.0.height, OfCall), q.1)
  call_read prefix name p front tokens ts q f r e = headed_read p (front ++ q.0.marks) (X.Call prefix name q.0.items) q.0.height OfCall q.1
      (subst (λ ms. IsPostfix OfCall (node p (front ++ ms) (X.Call prefix name q.0.items))) (sym r.marks) (f.formed r.close r.between q.0.items e r.gaps r.formed))
      (ap (λ us. tokens ++ us) r.takes ∙ (sym (append_assoc tokens _ q.1) ∙ ap (λ us. us ++ q.1) (sym (f.text q.0.items q.0.marks))))
      (measures_as (expr_kind_deep-Call prefix name q.0.items) r.measures)
      r.within

  -- a call of `is_function` whose second argument is no arity
  call_outside : (prefix : Option Name) (name : Name) (p : Place) (front : List Place) (tokens ts : List Placed) (q : Several Expr × List Placed) → IsFront prefix name p front tokens → AreArguments levels ts q → is_call_in_profile name q.0.items ≡ false
      → HasOutside (tokens ++ ts) p (codes "built-in")
  call_outside prefix name p front tokens ts q f r e =
      let t : tokens ++ ts ≡ expr_shown (X.Call prefix name q.0.items) (front ++ (r.between ++ r.close ∷ [])) ++ q.1
      = ap (λ us. tokens ++ us) r.takes ∙ (sym (append_assoc tokens _ q.1) ∙ ap (λ us. us ++ q.1) (sym (f.text q.0.items q.0.marks) ∙ ap (λ ms. expr_shown (X.Call prefix name q.0.items) (front ++ ms)) r.marks)) in
      subst (λ us. HasOutside us p (codes "built-in")) (sym t) (stands (f.refused r.close r.between q.0.items q.1 e r.gaps r.formed))

  -- a call is read rightly, behind its opening parenthesis
  read_call-right : (prefix : Option Name) (name : Name) (p : Place) (front : List Place) (tokens ts : List Placed) → IsFront prefix name p front tokens → Right (HeadedRead (suc levels) (tokens ++ ts)) (tokens ++ ts) (read_call l prefix name p front ts)
  unfolding read_call
  read_call-right prefix name p front tokens ts f = right_next (behind_part tokens refl) (arguments_right ts) λ q r. right_if
      (λ e. right_ok (call_read prefix name p front tokens ts q f r e))
      (λ e. right_outside (call_outside prefix name p front tokens ts q f r e))

  plain_front : (name : Name) (p o : Place) → IsFront None name p (p ∷ o ∷ []) (at (T.Atom name) p ∷ at (T.Mark (codes "(")) o ∷ [])
  plain_front name p o = record {
    text = λ args ms. expr_shown-Call None name args (p ∷ o ∷ ms);
    refused = λ c ms args rest e g h. wrong_call name args p o c ms [] rest e g h;
    formed = λ c ms args e g h. call p o c ms name args e g h;
  }

  prefixed_front : (name : Name) (p d n o : Place) → IsFront (Some (codes "erlang")) name p (p ∷ d ∷ n ∷ o ∷ []) (at (T.Atom (codes "erlang")) p ∷ at (T.Mark (codes ":")) d ∷ at (T.Atom name) n ∷ at (T.Mark (codes "(")) o ∷ [])
  prefixed_front name p d n o = record {
    text = λ args ms. expr_shown-Call (Some (codes "erlang")) name args (p ∷ d ∷ n ∷ o ∷ ms);
    refused = λ c ms args rest e g h. wrong_prefixed_call name args p d n o c ms [] rest e g h;
    formed = λ c ms args e g h. prefixed_call p d n o c ms name args e g h;
  }

  -- behind the colon of `erlang:`
  pub read_prefixed-right : (p d : Place) (ts : List Placed) → Right (HeadedRead (suc levels) (at (T.Atom (codes "erlang")) p ∷ at (T.Mark (codes ":")) d ∷ ts)) (at (T.Atom (codes "erlang")) p ∷ at (T.Mark (codes ":")) d ∷ ts) (read_prefixed l p d ts)
  unfolding read_prefixed
  read_prefixed-right p d ts = right_next (behind_part (at (T.Atom (codes "erlang")) p ∷ at (T.Mark (codes ":")) d ∷ []) refl) (expect_atom ts) λ n e.
      right_next (behind_part (at (T.Atom (codes "erlang")) p ∷ at (T.Mark (codes ":")) d ∷ at (T.Atom n.0.0) n.0.1 ∷ []) (ap (λ us. at (T.Atom (codes "erlang")) p ∷ at (T.Mark (codes ":")) d ∷ us) e)) (expect_mark (codes "(") n.1) λ o g.
      right_tokens (ap (λ us. at (T.Atom (codes "erlang")) p ∷ at (T.Mark (codes ":")) d ∷ us) (e ∙ ap (λ us. at (T.Atom n.0.0) n.0.1 ∷ us) g))
      (read_call-right (Some (codes "erlang")) n.0.0 p (p ∷ d ∷ n.0.1 ∷ o.0 ∷ []) (at (T.Atom (codes "erlang")) p ∷ at (T.Mark (codes ":")) d ∷ at (T.Atom n.0.0) n.0.1 ∷ at (T.Mark (codes "(")) o.0 ∷ []) o.1 (prefixed_front n.0.0 p d n.0.1 o.0))

  -- what begins with an atom is read rightly
  pub read_named-right : (a : Name) (p : Place) (ts : List Placed) → Right (HeadedRead (suc levels) (at (T.Atom a) p ∷ ts)) (at (T.Atom a) p ∷ ts) (read_named l a p ts)
  unfolding read_named
  read_named-right a p ts = right_case
      (λ n. right_case
      (λ e. right_ok (atom_read levels a p ts))
      (λ d e. right_if
      (λ g. right_tokens (ap (λ b. at (T.Atom b) p ∷ ts) (text_is (codes "erlang") a g) ∙ ap (λ us. at (T.Atom (codes "erlang")) p ∷ us) (mark-takes (codes ":") ts d e)) (read_prefixed-right p d.0 d.1))
      (λ g. right_outside (subst (λ us. HasOutside (at (T.Atom a) p ∷ us) d.0 (codes "remote name")) (sym (mark-takes (codes ":") ts d e)) (stands_after (at (T.Atom a) p ∷ []) (remote_atom a p d.0 [] d.1 g))))))
      (λ o e. right_tokens (ap (λ us. at (T.Atom a) p ∷ us) (mark-takes (codes "(") ts o e)) (read_call-right None a p (p ∷ o.0 ∷ []) (at (T.Atom a) p ∷ at (T.Mark (codes "(")) o.0 ∷ []) o.1 (plain_front a p o.0)))

  -- ---- calls of what an expression gives

  -- an expression that may be called
  record IsApplied (f : Measured Expr) : Type 0 where
    formed : (o c : Place) (ms : List Place) (args : List Expr) → AreSeparators args ms → ((e : Expr) → Among e args → IsExpr 0 e) → IsPostfix OfCall (node f.tree.place (o ∷ (ms ++ c ∷ [])) (X.Apply f.tree args))
    measures : Measures (expr_deep f.tree) f.height

  -- the call is read rightly, behind its opening parenthesis
  read_application-right : (f : Measured Expr) (o : Place) (ts : List Placed) → IsApplied f
      → Right (HeadedRead (suc levels) (expr_tokens f.tree ++ at (T.Mark (codes "(")) o ∷ ts)) (expr_tokens f.tree ++ at (T.Mark (codes "(")) o ∷ ts) (read_application l levels f o ts)
  unfolding read_application
  read_application-right f o ts a = right_within levels f λ w. right_next (behind_part (expr_tokens f.tree ++ at (T.Mark (codes "(")) o ∷ []) (sym (append_assoc (expr_tokens f.tree) (at (T.Mark (codes "(")) o ∷ []) ts))) (arguments_right ts) λ q r. right_ok
      (headed_read f.tree.place (o ∷ q.0.marks) (X.Apply f.tree q.0.items) (higher f.height q.0.height) OfCall q.1
      (subst (λ ms. IsPostfix OfCall (node f.tree.place (o ∷ ms) (X.Apply f.tree q.0.items))) (sym r.marks) (a.formed o r.close r.between q.0.items r.gaps r.formed))
      (ap (λ us. expr_tokens f.tree ++ at (T.Mark (codes "(")) o ∷ us) r.takes ∙ (sym (append_assoc (expr_tokens f.tree) (at (T.Mark (codes "(")) o ∷ fill (commas (map expr_tokens q.0.items) ++ own (T.Mark (codes ")")) ∷ []) q.0.marks) q.1) ∙ ap (λ us. us ++ q.1) (sym (expr_shown-Apply f.tree q.0.items (o ∷ q.0.marks)))))
      (measures_as (expr_kind_deep-Apply f.tree q.0.items) (both_measured a.measures r.measures))
      (higher_within f.height q.0.height levels w r.within))

  variable_applied_read : (x : Name) (p : Place) → IsApplied (built p (p ∷ []) (X.Var x) flat)
  variable_applied_read x p = record {
    formed = λ o c ms args g h. variable_applied p o c ms x args g h;
    measures = (variable_read levels x p []).measures;
  }

  -- what begins with a variable is read rightly
  pub read_variable-right : (x : Name) (p : Place) (ts : List Placed) → Right (HeadedRead (suc levels) (at (T.Var x) p ∷ ts)) (at (T.Var x) p ∷ ts) (read_variable l levels x p ts)
  unfolding read_variable
  read_variable-right x p ts = right_case
      (λ n. right_case
      (λ e. right_ok (variable_read levels x p ts))
      (λ d e. right_outside (subst (λ us. HasOutside (at (T.Var x) p ∷ us) d.0 (codes "remote name")) (sym (mark-takes (codes ":") ts d e)) (stands_after (at (T.Var x) p ∷ []) (remote_variable x p d.0 [] d.1)))))
      (λ o e. right_tokens (ap (λ us. at (T.Var x) p ∷ us) (mark-takes (codes "(") ts o e) ∙ ap (λ us. us ++ at (T.Mark (codes "(")) o.0 ∷ o.1) (sym (expr_shown-Var x (p ∷ []))))
      (read_application-right (built p (p ∷ []) (X.Var x) flat) o.0 o.1 (variable_applied_read x p)))

  -- ---- parentheses and tuples

  parens_read : (o c : Place) (e : Measured Expr) (ts us rest : List Placed) → Read (IsExpr 0) expr_tokens expr_deep levels ts e us → us ≡ at (T.Mark (codes ")")) c ∷ rest
      → HeadedRead (suc levels) (at (T.Mark (codes "(")) o ∷ ts) ((built o (o ∷ c ∷ []) (X.Paren e.tree) e.height, Plain), rest)
  parens_read o c e ts us rest r g = headed_read o (o ∷ c ∷ []) (X.Paren e.tree) e.height Plain rest (parens o c e.tree r.formed)
      (ap (λ vs. at (T.Mark (codes "(")) o ∷ vs) (r.takes ∙ (ap (λ vs. expr_tokens e.tree ++ vs) g ∙ sym (append_assoc (expr_tokens e.tree) (at (T.Mark (codes ")")) c ∷ []) rest))) ∙ ap (λ vs. vs ++ rest) (sym (expr_shown-Paren e.tree (o ∷ c ∷ []))))
      (measures_as (expr_kind_deep-Paren e.tree) r.measures)
      r.within

  parens_applied_read : (o c : Place) (e : Measured Expr) (ts us rest : List Placed) → Read (IsExpr 0) expr_tokens expr_deep levels ts e us → us ≡ at (T.Mark (codes ")")) c ∷ rest → IsApplied (built o (o ∷ c ∷ []) (X.Paren e.tree) e.height)
  parens_applied_read o c e ts us rest r g = record {
    formed = λ a b ms args h k. parens_applied o c a b ms e.tree args r.formed h k;
    measures = (parens_read o c e ts us rest r g).measures;
  }

  -- what begins with a parenthesis is read rightly
  pub read_parens-right : (o : Place) (ts : List Placed) → Right (HeadedRead (suc levels) (at (T.Mark (codes "(")) o ∷ ts)) (at (T.Mark (codes "(")) o ∷ ts) (read_parens l levels o ts)
  unfolding read_parens
  read_parens-right o ts = right_next (behind_part (at (T.Mark (codes "(")) o ∷ []) refl) (known.expr_right ts) λ e r.
      right_next (behind_behind (behind_part (at (T.Mark (codes "(")) o ∷ []) refl) (behind_part (expr_tokens e.0.tree) r.takes)) (expect_mark (codes ")") e.1) λ c g. right_case
      (λ n. right_ok (parens_read o c.0 e.0 ts e.1 c.1 r g))
      (λ a h. right_tokens ((parens_read o c.0 e.0 ts e.1 c.1 r g).takes ∙ ap (λ us. expr_tokens (node o (o ∷ c.0 ∷ []) (X.Paren e.0.tree)) ++ us) (mark-takes (codes "(") c.1 a h))
      (read_application-right (built o (o ∷ c.0 ∷ []) (X.Paren e.0.tree) e.0.height) a.0 a.1 (parens_applied_read o c.0 e.0 ts e.1 c.1 r g)))

  -- a tuple is read rightly
  pub read_tuple-right : (o : Place) (ts : List Placed) → Right (HeadedRead (suc levels) (at (T.Mark (codes "{")) o ∷ ts)) (at (T.Mark (codes "{")) o ∷ ts) (read_tuple l o ts)
  unfolding read_tuple
  read_tuple-right o ts = right_next (behind_part (at (T.Mark (codes "{")) o ∷ []) refl) (read_closed-right (IsExpr 0) expr_tokens expr_deep levels l.expr known.expr_right (codes "}") ts) λ q r. right_ok
      (headed_read o (o ∷ q.0.marks) (X.Tuple q.0.items) q.0.height Plain q.1
      (subst (λ ms. IsPostfix Plain (node o (o ∷ ms) (X.Tuple q.0.items))) (sym r.marks) (tuple o r.close r.between q.0.items r.gaps r.formed))
      (ap (λ us. at (T.Mark (codes "{")) o ∷ us) r.takes ∙ ap (λ us. us ++ q.1) (sym (expr_shown-Tuple q.0.items (o ∷ q.0.marks))))
      (measures_as (expr_kind_deep-Tuple q.0.items) r.measures)
      r.within)
