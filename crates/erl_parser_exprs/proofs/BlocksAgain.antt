-- Expressions between words are read again.
use Rattle.std.proofs.Common.{◌≡◌, ℕ, ℤ, suc, Bool, true, false, List, [], ◌∷◌, ◌++◌, map, refl, ap, sym, ◌∙◌, subst, inl, append_assoc}
use Rattle.std.specs.Prelude.{Option, Some, None, Ok, codes}
use Rattle.type_terms.specs.Keys.{Name}
use Rattle.erl_tree.specs.Lists.{Among}
use Rattle.erl_tree.specs.declared.token.Place.{Place}
use Rattle.erl_tree.specs.declared.token.Placed.{Placed}
use Rattle.erl_tree.specs.declared.token.Node.{Node}
use Rattle.erl_tree.specs.declared.token.Token.{Token}
use Rattle.erl_tree.specs.declared.token.Token.TheVariants as T
use Rattle.erl_tree.specs.declared.expr.ExprKind.{ExprKind}
use Rattle.erl_tree.specs.declared.expr.ExprKind.TheVariants as X
use Rattle.erl_tree.specs.declared.expr.ItemKind.{ItemKind}
use Rattle.erl_tree.specs.declared.expr.ClauseKind.{ClauseKind}
use Rattle.erl_tree.specs.declared.expr.CatchKind.{CatchKind}
use Rattle.erl_grammar.specs.declared.head.Head.TheVariants.{Plain}
use Rattle.erl_grammar.specs.Pieces.{at, fill}
use Rattle.erl_grammar.specs.Spelling.{expr_tokens, item_tokens, case_clause_tokens, if_clause_tokens, fun_clause_tokens, catch_tokens, after_pieces}
use Rattle.erl_grammar.specs.Nesting.{Deep, deep_all, deep_optional, expr_deep, item_deep, clause_deep, catch_deep}
use Rattle.erl_grammar.specs.Grammar.{node, AreSeparators, IsExpr, HavePartMarks, HasAfterMarks, items_of, HasCatchOrAfter, IsItem, IsCaseClause, IsIfClause, IsFunClause, IsCatch, fun_clause}
use Rattle.erl_grammar.proofs.NestingLaws.{expr_kind_deep-Begin, expr_kind_deep-Case, expr_kind_deep-If, expr_kind_deep-Fun, expr_kind_deep-Try}
use Rattle.erl_parser_tokens.specs.declared.height.Height.{Height}
use Rattle.erl_parser_tokens.specs.declared.height.Measured.{Measured}
use Rattle.erl_parser_tokens.specs.Heights.{flat, higher, above, measured}
use Rattle.erl_parser_tokens.specs.Tokens as R
use Rattle.erl_parser_tokens.specs.Tokens.{Answer, Reads, ◌>>=◌, in_case, unexpected, outside, expect, is_mark, mark, atom, integer}
use Rattle.erl_parser_tokens.specs.Parts.{Several, no_parts, read_parts, built}
use Rattle.erl_parser_exprs.specs.Operations.{Expr}
use Rattle.erl_parser_exprs.specs.Expressions.{Level, Headed, read_item, read_body, read_case_clause, read_if_clause, read_fun_clause, read_catch, read_begin, read_case, read_if, read_fun_name, variable_next, read_fun_clauses, read_fun, read_part, Ending, read_after, has_end, try_built, read_try}
use Rattle.erl_parser_tokens.proofs.HeightLaws.{among_front, among_behind}
use Rattle.erl_parser_tokens.proofs.Then.{Again, again_ok, again_then, again_step, again_none, again_some, again_true, again_false, IsDeep, again_read}
use Rattle.erl_parser_tokens.proofs.TokenLaws.{word-again, expect_word-again, mark-again, expect_mark-again, atom-again, expect_integer-again}
use Rattle.erl_parser_tokens.proofs.PartLaws.{listed, AreThese, again_these, read_parts-again}
use Rattle.erl_parser_exprs.proofs.Levels.{EndsExpr, IsLevel}
use Rattle.erl_parser_tokens.proofs.Endings.{mark-none, word-none}
use Rattle.erl_parser_exprs.proofs.Endings.{Closes, EndsItem, EndsBody, closes-expr, closes-item, closes-body, comma-closes, semicolon-closes, of-closes, end-closes, catch-closes, after-closes}
use Rattle.erl_parser_exprs.proofs.ItemLaws.{deeper_in}
use Rattle.erl_parser_exprs.proofs.Inner.{ReadsAgain, AreParts}
use Rattle.erl_parser_exprs.proofs.BlockLaws.{part_pieces}
use Rattle.erl_parser_exprs.proofs.CallsAgain.{ReadsHeaded}

-- clauses of a fun begin with a parenthesis
fun_opens : (c : Node ClauseKind) (cs : List (Node ClauseKind)) (ms : List Place) (rest : List Placed) → IsFunClause c
    → (variable_next (listed fun_clause_tokens (T.Mark (codes ";")) (c ∷ cs) ms ++ rest) ≡ false) × (atom (listed fun_clause_tokens (T.Mark (codes ";")) (c ∷ cs) ms ++ rest) ≡ None)
unfolding variable_next atom
fun_opens _ [] ms rest (fun_clause o c a ps w ns ws bs i is h g k j m n) = (refl, refl)
fun_opens _ (d ∷ ds) ms rest (fun_clause o c a ps w ns ws bs i is h g k j m n) = (refl, refl)

-- ---- what may follow the parts of a `try`

pub record EndsPart (ts : List Placed) : Type 0 where
  pub ends_body : EndsBody ts
  pub no_semicolon : mark (codes ";") ts ≡ None

ends_part : {k : Token} → Closes k → is_mark (codes ",") k ≡ false → is_mark (codes ";") k ≡ false → (p : Place) (ts : List Placed) → EndsPart (at k p ∷ ts)
ends_part {k} c n s p ts = record { ends_body = closes-body c n p ts; no_semicolon = mark-none (codes ";") k p ts s }

-- the tokens behind the body, the `of` part and the `catch` part of a `try`
abbrev pub after_text : Option (List (Node ItemKind)) → List Place → Place → List Placed → List Placed
after_text after ns e rest = fill (after_pieces item_tokens after) ns ++ at (T.Word (codes "end")) e ∷ rest

abbrev pub catch_text : List (Node CatchKind) → List Place → List Placed → List Placed
catch_text catches cs ts = fill (part_pieces (codes "catch") (map catch_tokens catches)) cs ++ ts

abbrev pub of_text : List (Node ClauseKind) → List Place → List Placed → List Placed
of_text clauses os ts = fill (part_pieces (codes "of") (map case_clause_tokens clauses)) os ++ ts

record EndsCatch (ts : List Placed) : Type 0 where
  ends : EndsPart ts
  no_of : R.word (codes "of") ts ≡ None
  no_catch : R.word (codes "catch") ts ≡ None

after_ends : (after : Option (List (Node ItemKind))) (ns : List Place) (e : Place) (rest : List Placed) → HasAfterMarks after ns → EndsCatch (after_text after ns e rest)
after_ends None [] e rest h = record { ends = ends_part end-closes refl refl e rest; no_of = word-none (codes "of") (T.Word (codes "end")) e rest refl; no_catch = word-none (codes "catch") (T.Word (codes "end")) e rest refl }
after_ends (Some (i ∷ is)) (w ∷ ns) e rest h = record { ends = ends_part after-closes refl refl w _; no_of = word-none (codes "of") (T.Word (codes "after")) w _ refl; no_catch = word-none (codes "catch") (T.Word (codes "after")) w _ refl }
after_ends None (w ∷ ns) e rest h = absurd h
after_ends (Some []) _ e rest h = absurd h
after_ends (Some (i ∷ is)) [] e rest h = absurd h

record EndsOf (ts : List Placed) : Type 0 where
  ends : EndsPart ts
  no_of : R.word (codes "of") ts ≡ None

catch_ends : (catches : List (Node CatchKind)) (cs : List Place) (ts : List Placed) → HavePartMarks catches cs → EndsCatch ts → EndsOf (catch_text catches cs ts)
catch_ends [] [] ts h e = record { ends = e.ends; no_of = e.no_of }
catch_ends (c ∷ catches) (w ∷ cs) ts h e = record { ends = ends_part catch-closes refl refl w _; no_of = word-none (codes "of") (T.Word (codes "catch")) w _ refl }
catch_ends [] (w ∷ cs) ts h e = absurd h
catch_ends (c ∷ catches) [] ts h e = absurd h

of_ends : (clauses : List (Node ClauseKind)) (os : List Place) (ts : List Placed) → HavePartMarks clauses os → EndsOf ts → EndsPart (of_text clauses os ts)
of_ends [] [] ts h e = e.ends
of_ends (c ∷ clauses) (w ∷ os) ts h e = ends_part of-closes refl refl w _
of_ends [] (w ∷ os) ts h e = absurd h
of_ends (c ∷ clauses) [] ts h e = absurd h

has_end-again : (catches : List (Node CatchKind)) (after : Option (List (Node ItemKind))) → HasCatchOrAfter catches after → has_end catches after ≡ true
has_end-again [] None h = absurd h
has_end-again [] (Some is) h = refl
has_end-again (c ∷ cs) after h = refl

-- this ending was read
abbrev IsEnding : Option (List (Node ItemKind)) → List Place → List Placed → Ending × List Placed → Type 0
IsEnding items ms rest q = (h : Height) × (q ≡ (record { items = items; marks = ms; height = h }, rest))

again_ending : {Y : Type 0} {H : Y → Type 0} {D E : Place → Type 0} {items : Option (List (Node ItemKind))} {ms : List Place} {rest : List Placed} {answer : Answer (Ending × List Placed)} (next : Ending × List Placed → Answer Y) → Again (IsEnding items ms rest) D answer → ((p : Place) → D p → E p)
    → ((h : Height) → Again H E (next (record { items = items; marks = ms; height = h }, rest))) → Again H E (answer >>= next)
again_ending {H = H} {E = E} next a d k = again_then a d λ q g. subst (λ z. Again H E (next z)) (sym g.1) (k g.0)

module _ (levels : ℕ) (l : Level) (known : IsLevel levels l) (parts : AreParts levels l) where
  -- ---- bodies and clauses

  -- a body is read again
  body_again : (i : Node ItemKind) (is : List (Node ItemKind)) (ms : List Place) (rest : List Placed) → AreSeparators (i ∷ is) ms → ((j : Node ItemKind) → Among j (i ∷ is) → IsItem j) → EndsItem rest → mark (codes ",") rest ≡ None
      → Again (AreThese (i ∷ is) ms rest) (λ p. Among p (deep_all item_deep (i ∷ is) levels)) (read_body l (listed item_tokens (T.Mark (codes ",")) (i ∷ is) ms ++ rest))
  unfolding read_body
  body_again i is ms rest g h e n = read_parts-again IsItem item_tokens item_deep levels EndsItem (read_item l) parts.item_again (codes ",") (λ m us. closes-item comma-closes m us) i is ms rest h g e n

  -- clauses with semicolons between them are read again
  clauses_again : {A : Type 0} (Is : A → Type 0) (tokens : A → List Placed) (deep : A → Deep) (inner : Reads (Measured A)) → ReadsAgain Is tokens deep EndsBody levels inner
      → (c : A) (cs : List A) (ms : List Place) (rest : List Placed) → AreSeparators (c ∷ cs) ms → ((d : A) → Among d (c ∷ cs) → Is d) → EndsBody rest → mark (codes ";") rest ≡ None
      → Again (AreThese (c ∷ cs) ms rest) (λ p. Among p (deep_all deep (c ∷ cs) levels)) (read_parts (codes ";") inner (listed tokens (T.Mark (codes ";")) (c ∷ cs) ms ++ rest))
  clauses_again Is tokens deep inner again c cs ms rest g h e n = read_parts-again Is tokens deep levels EndsBody inner again (codes ";") (λ m us. closes-body semicolon-closes refl m us) c cs ms rest h g e n

  end_body : (e : Place) (rest : List Placed) → EndsBody (at (T.Word (codes "end")) e ∷ rest)
  end_body e rest = closes-body end-closes refl e rest

  end_no_semicolon : (e : Place) (rest : List Placed) → mark (codes ";") (at (T.Word (codes "end")) e ∷ rest) ≡ None
  end_no_semicolon e rest = mark-none (codes ";") (T.Word (codes "end")) e rest refl

  -- `begin` is read again
  pub read_begin-again : (b e : Place) (ms : List Place) (i : Node ItemKind) (is : List (Node ItemKind)) (rest : List Placed) → AreSeparators (i ∷ is) ms → ((j : Node ItemKind) → Among j (i ∷ is) → IsItem j)
      → ReadsHeaded levels Plain (node b (b ∷ (ms ++ e ∷ [])) (X.Begin (i ∷ is))) rest (read_begin l b (listed item_tokens (T.Mark (codes ",")) (i ∷ is) ms ++ at (T.Word (codes "end")) e ∷ rest))
  unfolding read_begin
  read_begin-again b e ms i is rest g h = again_these _ (body_again i is ms (at (T.Word (codes "end")) e ∷ rest) g h (closes-item end-closes e rest) (mark-none (codes ",") (T.Word (codes "end")) e rest refl)) (λ p d. deeper_in p (expr_kind_deep-Begin (i ∷ is) levels) d) λ k.
      again_step _ (expect_word-again (codes "end") e rest) (again_ok (above b k, refl))

  -- `case` is read again
  pub read_case-again : (p o e : Place) (ms : List Place) (subject : Expr) (c : Node ClauseKind) (cs : List (Node ClauseKind)) (rest : List Placed) → IsExpr 0 subject → AreSeparators (c ∷ cs) ms → ((d : Node ClauseKind) → Among d (c ∷ cs) → IsCaseClause d)
      → ReadsHeaded levels Plain (node p (p ∷ o ∷ (ms ++ e ∷ [])) (X.Case subject (c ∷ cs))) rest
      (read_case l p (expr_tokens subject ++ at (T.Word (codes "of")) o ∷ (listed case_clause_tokens (T.Mark (codes ";")) (c ∷ cs) ms ++ at (T.Word (codes "end")) e ∷ rest)))
  unfolding read_case
  read_case-again p o e ms subject c cs rest i g h =
      let more : List Placed = listed case_clause_tokens (T.Mark (codes ";")) (c ∷ cs) ms ++ at (T.Word (codes "end")) e ∷ rest in
      again_read _ (known.expr_again subject (at (T.Word (codes "of")) o ∷ more) i (closes-expr of-closes o more)) (λ q d. deeper_in q (expr_kind_deep-Case subject (c ∷ cs) levels) (among_front q (expr_deep subject levels) _ d)) λ j.
      again_step _ (expect_word-again (codes "of") o more)
      (again_these _ (clauses_again IsCaseClause case_clause_tokens clause_deep (read_case_clause l) parts.case_clause_again c cs ms (at (T.Word (codes "end")) e ∷ rest) g h (end_body e rest) (end_no_semicolon e rest))
      (λ q d. deeper_in q (expr_kind_deep-Case subject (c ∷ cs) levels) (among_behind q (expr_deep subject levels) _ d)) λ k.
      again_step _ (expect_word-again (codes "end") e rest) (again_ok (above p (higher j k), refl)))

  -- `if` is read again
  pub read_if-again : (p e : Place) (ms : List Place) (c : Node ClauseKind) (cs : List (Node ClauseKind)) (rest : List Placed) → AreSeparators (c ∷ cs) ms → ((d : Node ClauseKind) → Among d (c ∷ cs) → IsIfClause d)
      → ReadsHeaded levels Plain (node p (p ∷ (ms ++ e ∷ [])) (X.If (c ∷ cs))) rest (read_if l p (listed if_clause_tokens (T.Mark (codes ";")) (c ∷ cs) ms ++ at (T.Word (codes "end")) e ∷ rest))
  unfolding read_if
  read_if-again p e ms c cs rest g h = again_these _ (clauses_again IsIfClause if_clause_tokens clause_deep (read_if_clause l) parts.if_clause_again c cs ms (at (T.Word (codes "end")) e ∷ rest) g h (end_body e rest) (end_no_semicolon e rest)) (λ q d. deeper_in q (expr_kind_deep-If (c ∷ cs) levels) d) λ k.
      again_step _ (expect_word-again (codes "end") e rest) (again_ok (above p k, refl))

  -- `fun f/n` is read again
  pub read_fun_name-again : (p n s a : Place) (name : Name) (arity : ℤ) (rest : List Placed)
      → ReadsHeaded levels Plain (node p (p ∷ n ∷ s ∷ a ∷ []) (X.FunName name arity)) rest (read_fun l p (at (T.Atom name) n ∷ at (T.Mark (codes "/")) s ∷ at (T.Int arity) a ∷ rest))
  unfolding read_fun read_fun_name variable_next
  read_fun_name-again p n s a name arity rest = again_false (outside (codes "named fun") p) refl (again_some _ _ (atom-again name n _) (again_none _ (mark-none (codes ":") (T.Mark (codes "/")) s _ refl)
      (again_step _ (expect_mark-again (codes "/") s _) (again_step _ (expect_integer-again arity a rest) (again_ok (above p flat, refl))))))

  -- `fun` with clauses is read again
  pub read_fun_end-again : (p e : Place) (ms : List Place) (c : Node ClauseKind) (cs : List (Node ClauseKind)) (rest : List Placed) → AreSeparators (c ∷ cs) ms → ((d : Node ClauseKind) → Among d (c ∷ cs) → IsFunClause d)
      → ReadsHeaded levels Plain (node p (p ∷ (ms ++ e ∷ [])) (X.Fun (c ∷ cs))) rest (read_fun l p (listed fun_clause_tokens (T.Mark (codes ";")) (c ∷ cs) ms ++ at (T.Word (codes "end")) e ∷ rest))
  unfolding read_fun read_fun_clauses
  read_fun_end-again p e ms c cs rest g h =
      let opens = fun_opens c cs ms (at (T.Word (codes "end")) e ∷ rest) (h c (inl refl)) in
      again_false _ opens.0 (again_none _ opens.1
      (again_these _ (clauses_again IsFunClause fun_clause_tokens clause_deep (read_fun_clause l) parts.fun_clause_again c cs ms (at (T.Word (codes "end")) e ∷ rest) g h (end_body e rest) (end_no_semicolon e rest)) (λ q d. deeper_in q (expr_kind_deep-Fun (c ∷ cs) levels) d) λ k.
      again_step _ (expect_word-again (codes "end") e rest) (again_ok (above p k, refl))))

  -- ---- `try`

  -- a part of a `try` is read again
  pub read_part-again : {A : Type 0} (Is : A → Type 0) (tokens : A → List Placed) (deep : A → Deep) (inner : Reads (Measured A)) → ReadsAgain Is tokens deep EndsBody levels inner
      → (text : List ℕ) (xs : List A) (ms : List Place) (rest : List Placed) → HavePartMarks xs ms → ((x : A) → Among x xs → Is x) → EndsPart rest → R.word text rest ≡ None
      → Again (AreThese xs ms rest) (λ p. Among p (deep_all deep xs levels)) (read_part text inner (fill (part_pieces text (map tokens xs)) ms ++ rest))
  unfolding read_part
  read_part-again Is tokens deep inner again text [] [] rest h i e n = again_none _ n (again_ok (flat, refl))
  read_part-again Is tokens deep inner again text (x ∷ xs) (w ∷ ms) rest h i e n = again_some _ _ (word-again text w _)
      (again_these _ (clauses_again Is tokens deep inner again x xs ms rest h i e.ends_body e.no_semicolon) (λ p d. d) λ k. again_ok (k, refl))
  read_part-again Is tokens deep inner again text [] (w ∷ ms) rest h i e n = absurd h
  read_part-again Is tokens deep inner again text (x ∷ xs) [] rest h i e n = absurd h

  -- an `after` part is read again
  read_after-again : (after : Option (List (Node ItemKind))) (ns : List Place) (e : Place) (rest : List Placed) → HasAfterMarks after ns → ((j : Node ItemKind) → Among j (items_of after) → IsItem j)
      → Again (IsEnding after ns (at (T.Word (codes "end")) e ∷ rest)) (λ p. Among p (deep_optional (deep_all item_deep) after levels)) (read_after l (after_text after ns e rest))
  unfolding read_after
  read_after-again None [] e rest h i = again_none _ (word-none (codes "after") (T.Word (codes "end")) e rest refl) (again_ok (flat, refl))
  read_after-again (Some (i ∷ is)) (w ∷ ns) e rest h k = again_some _ _ (word-again (codes "after") w _)
      (again_these _ (body_again i is ns (at (T.Word (codes "end")) e ∷ rest) h k (closes-item end-closes e rest) (mark-none (codes ",") (T.Word (codes "end")) e rest refl)) (λ p d. d) λ j. again_ok (j, refl))
  read_after-again None (w ∷ ns) e rest h i = absurd h
  read_after-again (Some []) _ e rest h i = absurd h
  read_after-again (Some (i ∷ is)) [] e rest h k = absurd h

  -- `try` is read again
  pub read_try-again : (p e : Place) (ms os cs ns : List Place) (i : Node ItemKind) (body : List (Node ItemKind)) (of_clauses : List (Node ClauseKind)) (catches : List (Node CatchKind)) (after : Option (List (Node ItemKind))) (rest : List Placed)
      → AreSeparators (i ∷ body) ms → ((j : Node ItemKind) → Among j (i ∷ body) → IsItem j)
      → HavePartMarks of_clauses os → ((c : Node ClauseKind) → Among c of_clauses → IsCaseClause c)
      → HavePartMarks catches cs → ((c : Node CatchKind) → Among c catches → IsCatch c)
      → HasAfterMarks after ns → ((j : Node ItemKind) → Among j (items_of after) → IsItem j)
      → HasCatchOrAfter catches after
      → ReadsHeaded levels Plain (node p (p ∷ (ms ++ (os ++ (cs ++ (ns ++ e ∷ []))))) (X.Try (i ∷ body) of_clauses catches after)) rest
      (read_try l p (listed item_tokens (T.Mark (codes ",")) (i ∷ body) ms ++ of_text of_clauses os (catch_text catches cs (after_text after ns e rest))))
  unfolding read_try
  read_try-again p e ms os cs ns i body of_clauses catches after rest gb fb go fo gc fc ga fa end =
      let fourth = after_ends after ns e rest ga in
      let third = catch_ends catches cs (after_text after ns e rest) gc fourth in
      let second = of_ends of_clauses os (catch_text catches cs (after_text after ns e rest)) go third in
      let deep = expr_kind_deep-Try (i ∷ body) of_clauses catches after levels in
      again_these _ (body_again i body ms (of_text of_clauses os (catch_text catches cs (after_text after ns e rest))) gb fb second.ends_body.ends_item second.ends_body.no_comma) (λ q d. deeper_in q deep (among_front q (deep_all item_deep (i ∷ body) levels) _ d)) λ b.
      again_these _ (read_part-again IsCaseClause case_clause_tokens clause_deep (read_case_clause l) parts.case_clause_again (codes "of") of_clauses os (catch_text catches cs (after_text after ns e rest)) go fo third.ends third.no_of)
      (λ q d. deeper_in q deep (among_behind q (deep_all item_deep (i ∷ body) levels) _ (among_front q (deep_all clause_deep of_clauses levels) _ d))) λ o.
      again_these _ (read_part-again IsCatch catch_tokens catch_deep (read_catch l) parts.catch_again (codes "catch") catches cs (after_text after ns e rest) gc fc fourth.ends fourth.no_catch)
      (λ q d. deeper_in q deep (among_behind q (deep_all item_deep (i ∷ body) levels) _ (among_behind q (deep_all clause_deep of_clauses levels) _ (among_front q (deep_all catch_deep catches levels) _ d)))) λ c.
      again_ending _ (read_after-again after ns e rest ga fa)
      (λ q d. deeper_in q deep (among_behind q (deep_all item_deep (i ∷ body) levels) _ (among_behind q (deep_all clause_deep of_clauses levels) _ (among_behind q (deep_all catch_deep catches levels) _ d)))) λ a.
      again_true (unexpected (at (T.Word (codes "end")) e ∷ rest)) (has_end-again catches after end) (again_step _ (expect_word-again (codes "end") e rest) (again_ok (above p (higher b (higher o (higher c a))), refl)))
