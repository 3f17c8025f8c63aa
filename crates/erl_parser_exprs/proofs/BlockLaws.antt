-- Expressions between words: `begin`, `case`, `if`, `fun`, `try`.
use Rattle.std.proofs.Common.{◌≡◌, ℕ, ℤ, suc, ◌≤◌, Bool, true, false, List, [], ◌∷◌, ◌++◌, map, refl, ap, sym, ◌∙◌, subst, append_assoc, append-nil, arith}
use Rattle.std.specs.Prelude.{Option, Some, None, Ok, Err, codes}
use Rattle.type_terms.specs.Keys.{Name}
use Rattle.erl_tree.specs.Lists.{Among}
use Rattle.erl_tree.specs.declared.token.Place.{Place}
use Rattle.erl_tree.specs.declared.token.Placed.{Placed}
use Rattle.erl_tree.specs.declared.token.Node.{Node}
use Rattle.erl_tree.specs.declared.token.Token.{Token}
use Rattle.erl_tree.specs.declared.token.Token.TheVariants as T
use Rattle.erl_tree.specs.declared.expr.ExprKind.{ExprKind}
use Rattle.erl_tree.specs.declared.expr.ExprKind.TheVariants as X
use Rattle.erl_tree.specs.declared.expr.ItemKind.{ItemKind}
use Rattle.erl_tree.specs.declared.expr.ClauseKind.{ClauseKind}
use Rattle.erl_tree.specs.declared.expr.CatchKind.{CatchKind}
use Rattle.erl_grammar.specs.declared.head.Head.TheVariants.{Plain}
use Rattle.erl_grammar.specs.Pieces.{at, Piece, own, fill, word, commas, semicolons}
use Rattle.erl_grammar.specs.Spelling.{expr_shown, expr_tokens, item_tokens, case_clause_tokens, if_clause_tokens, fun_clause_tokens, catch_tokens, of_pieces, catch_pieces, after_pieces}
use Rattle.erl_grammar.specs.Nesting.{Deep, deep_all, deep_optional, expr_deep, item_deep, clause_deep, catch_deep}
use Rattle.erl_grammar.specs.Grammar.{node, AreSeparators, IsExpr, IsPostfix, HavePartMarks, HasAfterMarks, items_of, HasCatchOrAfter, begin_end, case_of, if_end, fun_name, fun_end, try_end, IsItem, IsCaseClause, IsIfClause, IsFunClause, IsCatch}
use Rattle.erl_grammar.proofs.SpellingLaws.{expr_shown-Begin, expr_shown-Case, expr_shown-If, expr_shown-FunName, expr_shown-Fun, expr_shown-Try}
use Rattle.erl_grammar.proofs.NestingLaws.{expr_kind_deep-Begin, expr_kind_deep-Case, expr_kind_deep-If, expr_kind_deep-FunName, expr_kind_deep-Fun, expr_kind_deep-Try}
use Rattle.erl_parser_tokens.specs.declared.height.Height.{Height}
use Rattle.erl_parser_tokens.specs.declared.height.Measured.{Measured}
use Rattle.erl_parser_tokens.specs.Heights.{flat, higher}
use Rattle.erl_parser_tokens.specs.Tokens as R
use Rattle.erl_parser_tokens.specs.Tokens.{Answer, Reads, ◌>>=◌, in_case, outside, expect, mark, atom, integer}
use Rattle.erl_parser_tokens.specs.Parts.{Several, no_parts, read_parts, built}
use Rattle.erl_parser_tokens.specs.Outside.{HasOutside, remote_fun, named_fun}
use Rattle.erl_parser_exprs.specs.Operations.{Expr}
use Rattle.erl_parser_exprs.specs.Expressions.{Level, Headed, read_item, read_body, read_case_clause, read_if_clause, read_fun_clause, read_catch, read_begin, read_case, read_if, read_fun_name, is_any_variable, variable_next, read_fun_clauses, read_fun, read_part, Ending, read_after, has_end, try_built, read_try}
use Rattle.erl_parser_tokens.proofs.Right.{Measures, Read}
use Rattle.erl_parser_tokens.proofs.HeightLaws.{measures_as, nothing_measured, both_measured, higher_within}
use Rattle.erl_parser_tokens.proofs.Then.{Behind, behind_none, behind_token, behind_part, behind_behind, Right, right_ok, right_fault, right_outside, right_next, right_case, right_if, IsRead}
use Rattle.erl_parser_tokens.proofs.TokenLaws.{stands_after, IsWordNext, word-takes, expect_word, mark-takes, expect_mark, atom-takes, expect_integer}
use Rattle.erl_parser_tokens.proofs.PartLaws.{listed, fill-listed, AreRead, read_parts-right}
use Rattle.erl_parser_exprs.proofs.Levels.{IsLevel}
use Rattle.erl_parser_exprs.proofs.Inner.{ReadsRightly, AreParts}
use Rattle.erl_parser_exprs.proofs.Heads.{HeadedRead, headed_read, listed_closed, right_tokens}
use Rattle.erl_parser_exprs.proofs.CallLaws.{stands}

-- the gaps between parts that were read, and what is said of each
module _ {A : Type 0} {Is : A → Type 0} {tokens : A → List Placed} {deep : A → Deep} {levels : ℕ} {separator : List ℕ} {ts : List Placed} {q : Several A × List Placed} (r : AreRead Is tokens deep levels separator ts q) where
  gaps_of : AreSeparators (r.first ∷ r.others) q.0.marks
  gaps_of = subst (λ xs. AreSeparators xs q.0.marks) r.items r.gaps

  formed_of : (x : A) → Among x (r.first ∷ r.others) → Is x
  formed_of x a = r.formed x (subst (Among x) (sym r.items) a)

-- ---- the parts of a `try`

-- a word, and parts with semicolons between them, or nothing
abbrev pub part_pieces : List ℕ → List (List Placed) → List Piece
part_pieces text [] = []
part_pieces text (c ∷ cs) = word text ∷ semicolons (c ∷ cs)

of_part : (cs : List (List Placed)) → of_pieces cs ≡ part_pieces (codes "of") cs
of_part [] = refl
of_part (c ∷ cs) = refl

catch_part : (cs : List (List Placed)) → catch_pieces cs ≡ part_pieces (codes "catch") cs
catch_part [] = refl
catch_part (c ∷ cs) = refl

pub fill-part : {A : Type 0} (tokens : A → List Placed) (text : List ℕ) (xs : List A) (ms : List Place) (ps : List Piece) (ns : List Place) → HavePartMarks xs ms → fill (part_pieces text (map tokens xs) ++ ps) (ms ++ ns) ≡ fill (part_pieces text (map tokens xs)) ms ++ fill ps ns
fill-part tokens text [] [] ps ns h = refl
fill-part tokens text (x ∷ xs) (w ∷ ms) ps ns h = ap (λ ts. at (T.Word text) w ∷ ts) (fill-listed tokens (T.Mark (codes ";")) (x ∷ xs) ms ps ns h)
fill-part tokens text [] (w ∷ ms) ps ns h = absurd h
fill-part tokens text (x ∷ xs) [] ps ns h = absurd h

pub fill-after : (after : Option (List (Node ItemKind))) (ms : List Place) (ps : List Piece) (ns : List Place) → HasAfterMarks after ms → fill (after_pieces item_tokens after ++ ps) (ms ++ ns) ≡ fill (after_pieces item_tokens after) ms ++ fill ps ns
fill-after None [] ps ns h = refl
fill-after (Some (i ∷ is)) (w ∷ ms) ps ns h = ap (λ ts. at (T.Word (codes "after")) w ∷ ts) (fill-listed item_tokens (T.Mark (codes ",")) (i ∷ is) ms ps ns h)
fill-after None (w ∷ ms) ps ns h = absurd h
fill-after (Some []) _ ps ns h = absurd h
fill-after (Some (i ∷ is)) [] ps ns h = absurd h

-- a part of a `try` was read, or none
pub record PartRead {A : Type 0} (Is : A → Type 0) (tokens : A → List Placed) (deep : A → Deep) (levels : ℕ) (text : List ℕ) (ts : List Placed) (q : Several A × List Placed) : Type 0 where
  pub formed : (x : A) → Among x q.0.items → Is x
  pub marks : HavePartMarks q.0.items q.0.marks
  pub takes : ts ≡ fill (part_pieces text (map tokens q.0.items)) q.0.marks ++ q.1
  pub measures : Measures (deep_all deep q.0.items) q.0.height
  pub within : q.0.height.depth ≤ levels

module _ {A : Type 0} (Is : A → Type 0) (tokens : A → List Placed) (deep : A → Deep) (levels : ℕ) (inner : Reads (Measured A)) (inner_right : ReadsRightly Is tokens deep levels inner) where
  part_read : (text : List ℕ) (ts : List Placed) (w : Place) (us : List Placed) (q : Several A × List Placed) → ts ≡ at (T.Word text) w ∷ us → AreRead Is tokens deep levels (codes ";") us q
      → PartRead Is tokens deep levels text ts (record { items = q.0.items; marks = w ∷ q.0.marks; height = q.0.height }, q.1)
  part_read text ts w us q e r = record {
    formed = r.formed;
    marks = subst (λ xs. HavePartMarks xs (w ∷ q.0.marks)) (sym r.items) (gaps_of r);
    takes = e ∙ (ap (λ vs. at (T.Word text) w ∷ vs) r.takes ∙ (ap (λ xs. at (T.Word text) w ∷ (listed tokens (T.Mark (codes ";")) xs q.0.marks ++ q.1)) r.items ∙ ap (λ xs. fill (part_pieces text (map tokens xs)) (w ∷ q.0.marks) ++ q.1) (sym r.items)));
    measures = r.measures;
    within = r.within;
  }

  -- a part of a `try` is read rightly
  pub read_part-right : (text : List ℕ) (ts : List Placed) → Right (PartRead Is tokens deep levels text ts) ts (read_part text inner ts)
  unfolding read_part
  read_part-right text ts = right_case
      (λ n. right_ok (record { formed = λ x a. elim a [ ]; marks = tt; takes = refl; measures = nothing_measured (λ n. refl); within = omega arith }))
      (λ w e. right_next (behind_token (word-takes text ts w e)) (read_parts-right Is tokens deep levels inner inner_right (codes ";") w.1) λ q r. right_ok (part_read text ts w.0 w.1 q (word-takes text ts w e) r))

-- an `after` part was read, or none
pub record AfterRead (levels : ℕ) (ts : List Placed) (q : Ending × List Placed) : Type 0 where
  pub formed : (j : Node ItemKind) → Among j (items_of q.0.items) → IsItem j
  pub marks : HasAfterMarks q.0.items q.0.marks
  pub takes : ts ≡ fill (after_pieces item_tokens q.0.items) q.0.marks ++ q.1
  pub measures : Measures (deep_optional (deep_all item_deep) q.0.items) q.0.height
  pub within : q.0.height.depth ≤ levels

catches_or_ends : (catches : List (Node CatchKind)) (after : Option (List (Node ItemKind))) → has_end catches after ≡ true → HasCatchOrAfter catches after
catches_or_ends [] None e = absurd cc
catches_or_ends [] (Some is) e = tt
catches_or_ends (c ∷ cs) after e = tt

is_any_variable-takes : (t : Token) → is_any_variable t ≡ true → (x : Name) × (t ≡ T.Var x)
is_any_variable-takes (T.Var x) e = (x, refl)
is_any_variable-takes _ e = absurd cc

variable_next-takes : (ts : List Placed) → variable_next ts ≡ true → (x : Name) × (p : Place) × (us : List Placed) × (ts ≡ at (T.Var x) p ∷ us)
unfolding variable_next
variable_next-takes [] e = absurd cc
variable_next-takes (t ∷ ts) e = let h = is_any_variable-takes t.token e in (h.0, t.place, ts, ap (λ k. at k t.place ∷ ts) h.1)

part_text : {A : Type 0} (tokens : A → List Placed) (text : List ℕ) (xs : List A) (ms : List Place) (ps : List Piece) (ns : List Place) (rest : List Placed) → HavePartMarks xs ms → fill (part_pieces text (map tokens xs) ++ ps) (ms ++ ns) ++ rest ≡ fill (part_pieces text (map tokens xs)) ms ++ (fill ps ns ++ rest)
part_text tokens text xs ms ps ns rest h = ap (λ ts. ts ++ rest) (fill-part tokens text xs ms ps ns h) ∙ append_assoc (fill (part_pieces text (map tokens xs)) ms) (fill ps ns) rest

-- the tokens of a `try`, behind it
pub try_text : (body : List (Node ItemKind)) (of_clauses : List (Node ClauseKind)) (catches : List (Node CatchKind)) (after : Option (List (Node ItemKind))) (ms os cs ns : List Place) (e : Place) (rest : List Placed)
    → AreSeparators body ms → HavePartMarks of_clauses os → HavePartMarks catches cs → HasAfterMarks after ns
    → fill (commas (map item_tokens body) ++ (of_pieces (map case_clause_tokens of_clauses) ++ (catch_pieces (map catch_tokens catches) ++ (after_pieces item_tokens after ++ word (codes "end") ∷ [])))) (ms ++ (os ++ (cs ++ (ns ++ e ∷ [])))) ++ rest
    ≡ listed item_tokens (T.Mark (codes ",")) body ms ++ (fill (part_pieces (codes "of") (map case_clause_tokens of_clauses)) os ++ (fill (part_pieces (codes "catch") (map catch_tokens catches)) cs ++ (fill (after_pieces item_tokens after) ns ++ at (T.Word (codes "end")) e ∷ rest)))
try_text body of_clauses catches after ms os cs ns e rest g h k l =
    ap (λ qs. fill (commas (map item_tokens body) ++ (qs ++ (catch_pieces (map catch_tokens catches) ++ (after_pieces item_tokens after ++ word (codes "end") ∷ [])))) (ms ++ (os ++ (cs ++ (ns ++ e ∷ [])))) ++ rest) (of_part (map case_clause_tokens of_clauses))
    ∙ (ap (λ qs. fill (commas (map item_tokens body) ++ (part_pieces (codes "of") (map case_clause_tokens of_clauses) ++ (qs ++ (after_pieces item_tokens after ++ word (codes "end") ∷ [])))) (ms ++ (os ++ (cs ++ (ns ++ e ∷ [])))) ++ rest) (catch_part (map catch_tokens catches))
    ∙ (ap (λ ts. ts ++ rest) (fill-listed item_tokens (T.Mark (codes ",")) body ms _ (os ++ (cs ++ (ns ++ e ∷ []))) g)
    ∙ (append_assoc (listed item_tokens (T.Mark (codes ",")) body ms) _ rest
    ∙ ap (λ ts. listed item_tokens (T.Mark (codes ",")) body ms ++ ts) (part_text case_clause_tokens (codes "of") of_clauses os _ (cs ++ (ns ++ e ∷ [])) rest h
    ∙ ap (λ ts. fill (part_pieces (codes "of") (map case_clause_tokens of_clauses)) os ++ ts) (part_text catch_tokens (codes "catch") catches cs _ (ns ++ e ∷ []) rest k
    ∙ ap (λ ts. fill (part_pieces (codes "catch") (map catch_tokens catches)) cs ++ ts) (ap (λ ts. ts ++ rest) (fill-after after ns (word (codes "end") ∷ []) (e ∷ []) l) ∙ append_assoc (fill (after_pieces item_tokens after) ns) (at (T.Word (codes "end")) e ∷ []) rest))))))

module _ (levels : ℕ) (l : Level) (known : IsLevel levels l) (parts : AreParts levels l) where
  body_right : (ts : List Placed) → Right (AreRead IsItem item_tokens item_deep levels (codes ",") ts) ts (read_body l ts)
  unfolding read_body
  body_right ts = read_parts-right IsItem item_tokens item_deep levels (read_item l) parts.item_right (codes ",") ts

  -- an `after` part is read rightly
  pub read_after-right : (ts : List Placed) → Right (AfterRead levels ts) ts (read_after l ts)
  unfolding read_after
  read_after-right ts = right_case
      (λ n. right_ok (record { formed = λ x a. elim a [ ]; marks = tt; takes = refl; measures = nothing_measured (λ n. refl); within = omega arith }))
      (λ w e. let g = word-takes (codes "after") ts w e in right_next (behind_token g) (body_right w.1) λ q r. right_ok (record {
        formed = r.formed;
        marks = subst (λ xs. HasAfterMarks (Some xs) (w.0 ∷ q.0.marks)) (sym r.items) (gaps_of r);
        takes = g ∙ ap (λ vs. at (T.Word (codes "after")) w.0 ∷ vs) r.takes;
        measures = r.measures;
        within = r.within;
      }))

  -- `begin` is read rightly
  pub read_begin-right : (b : Place) (ts : List Placed) → Right (HeadedRead (suc levels) (at (T.Word (codes "begin")) b ∷ ts)) (at (T.Word (codes "begin")) b ∷ ts) (read_begin l b ts)
  unfolding read_begin
  read_begin-right b ts =
      let start : Behind (at (T.Word (codes "begin")) b ∷ ts) ts = behind_part (at (T.Word (codes "begin")) b ∷ []) refl in
      right_next start (body_right ts) λ q r. right_next (behind_behind start (behind_part (listed item_tokens (T.Mark (codes ",")) q.0.items q.0.marks) r.takes)) (expect_word (codes "end") q.1) λ e g. right_ok
      (headed_read b (b ∷ (q.0.marks ++ e.0 ∷ [])) (X.Begin q.0.items) q.0.height Plain e.1
      (subst (λ is. IsPostfix Plain (node b (b ∷ (q.0.marks ++ e.0 ∷ [])) (X.Begin is))) (sym r.items) (begin_end b e.0 q.0.marks r.first r.others (gaps_of r) (formed_of r)))
      (ap (λ us. at (T.Word (codes "begin")) b ∷ us) (r.takes ∙ (ap (λ us. listed item_tokens (T.Mark (codes ",")) q.0.items q.0.marks ++ us) g ∙ listed_closed item_tokens (T.Mark (codes ",")) (T.Word (codes "end")) q.0.items q.0.marks e.0 e.1 r.gaps))
      ∙ ap (λ us. us ++ e.1) (sym (expr_shown-Begin q.0.items (b ∷ (q.0.marks ++ e.0 ∷ [])))))
      (measures_as (expr_kind_deep-Begin q.0.items) r.measures)
      r.within)

  -- `case` is read rightly
  pub read_case-right : (p : Place) (ts : List Placed) → Right (HeadedRead (suc levels) (at (T.Word (codes "case")) p ∷ ts)) (at (T.Word (codes "case")) p ∷ ts) (read_case l p ts)
  unfolding read_case
  read_case-right p ts =
      let start : Behind (at (T.Word (codes "case")) p ∷ ts) ts = behind_part (at (T.Word (codes "case")) p ∷ []) refl in
      right_next start (known.expr_right ts) λ e k. let second = behind_behind start (behind_part (expr_tokens e.0.tree) k.takes) in
      right_next second (expect_word (codes "of") e.1) λ o g. let third = behind_behind second (behind_token g) in
      right_next third (read_parts-right IsCaseClause case_clause_tokens clause_deep levels (read_case_clause l) parts.case_clause_right (codes ";") o.1) λ q r.
      right_next (behind_behind third (behind_part (listed case_clause_tokens (T.Mark (codes ";")) q.0.items q.0.marks) r.takes)) (expect_word (codes "end") q.1) λ d h. right_ok
      (headed_read p (p ∷ o.0 ∷ (q.0.marks ++ d.0 ∷ [])) (X.Case e.0.tree q.0.items) (higher e.0.height q.0.height) Plain d.1
      (subst (λ cs. IsPostfix Plain (node p (p ∷ o.0 ∷ (q.0.marks ++ d.0 ∷ [])) (X.Case e.0.tree cs))) (sym r.items) (case_of p o.0 d.0 q.0.marks e.0.tree r.first r.others k.formed (gaps_of r) (formed_of r)))
      (ap (λ us. at (T.Word (codes "case")) p ∷ us) (k.takes ∙ (ap (λ us. expr_tokens e.0.tree ++ us) (g ∙ ap (λ us. at (T.Word (codes "of")) o.0 ∷ us) (r.takes ∙ (ap (λ us. listed case_clause_tokens (T.Mark (codes ";")) q.0.items q.0.marks ++ us) h
      ∙ listed_closed case_clause_tokens (T.Mark (codes ";")) (T.Word (codes "end")) q.0.items q.0.marks d.0 d.1 r.gaps)))
      ∙ sym (append_assoc (expr_tokens e.0.tree) _ d.1)))
      ∙ ap (λ us. us ++ d.1) (sym (expr_shown-Case e.0.tree q.0.items (p ∷ o.0 ∷ (q.0.marks ++ d.0 ∷ [])))))
      (measures_as (expr_kind_deep-Case e.0.tree q.0.items) (both_measured k.measures r.measures))
      (higher_within e.0.height q.0.height levels k.within r.within))

  -- `if` is read rightly
  pub read_if-right : (p : Place) (ts : List Placed) → Right (HeadedRead (suc levels) (at (T.Word (codes "if")) p ∷ ts)) (at (T.Word (codes "if")) p ∷ ts) (read_if l p ts)
  unfolding read_if
  read_if-right p ts =
      let start : Behind (at (T.Word (codes "if")) p ∷ ts) ts = behind_part (at (T.Word (codes "if")) p ∷ []) refl in
      right_next start (read_parts-right IsIfClause if_clause_tokens clause_deep levels (read_if_clause l) parts.if_clause_right (codes ";") ts) λ q r.
      right_next (behind_behind start (behind_part (listed if_clause_tokens (T.Mark (codes ";")) q.0.items q.0.marks) r.takes)) (expect_word (codes "end") q.1) λ d h. right_ok
      (headed_read p (p ∷ (q.0.marks ++ d.0 ∷ [])) (X.If q.0.items) q.0.height Plain d.1
      (subst (λ cs. IsPostfix Plain (node p (p ∷ (q.0.marks ++ d.0 ∷ [])) (X.If cs))) (sym r.items) (if_end p d.0 q.0.marks r.first r.others (gaps_of r) (formed_of r)))
      (ap (λ us. at (T.Word (codes "if")) p ∷ us) (r.takes ∙ (ap (λ us. listed if_clause_tokens (T.Mark (codes ";")) q.0.items q.0.marks ++ us) h ∙ listed_closed if_clause_tokens (T.Mark (codes ";")) (T.Word (codes "end")) q.0.items q.0.marks d.0 d.1 r.gaps))
      ∙ ap (λ us. us ++ d.1) (sym (expr_shown-If q.0.items (p ∷ (q.0.marks ++ d.0 ∷ [])))))
      (measures_as (expr_kind_deep-If q.0.items) r.measures)
      r.within)

  -- `fun` with clauses is read rightly
  pub read_fun_clauses-right : (p : Place) (ts : List Placed) → Right (HeadedRead (suc levels) (at (T.Word (codes "fun")) p ∷ ts)) (at (T.Word (codes "fun")) p ∷ ts) (read_fun_clauses l p ts)
  unfolding read_fun_clauses
  read_fun_clauses-right p ts =
      let start : Behind (at (T.Word (codes "fun")) p ∷ ts) ts = behind_part (at (T.Word (codes "fun")) p ∷ []) refl in
      right_next start (read_parts-right IsFunClause fun_clause_tokens clause_deep levels (read_fun_clause l) parts.fun_clause_right (codes ";") ts) λ q r.
      right_next (behind_behind start (behind_part (listed fun_clause_tokens (T.Mark (codes ";")) q.0.items q.0.marks) r.takes)) (expect_word (codes "end") q.1) λ d h. right_ok
      (headed_read p (p ∷ (q.0.marks ++ d.0 ∷ [])) (X.Fun q.0.items) q.0.height Plain d.1
      (subst (λ cs. IsPostfix Plain (node p (p ∷ (q.0.marks ++ d.0 ∷ [])) (X.Fun cs))) (sym r.items) (fun_end p d.0 q.0.marks r.first r.others (gaps_of r) (formed_of r)))
      (ap (λ us. at (T.Word (codes "fun")) p ∷ us) (r.takes ∙ (ap (λ us. listed fun_clause_tokens (T.Mark (codes ";")) q.0.items q.0.marks ++ us) h ∙ listed_closed fun_clause_tokens (T.Mark (codes ";")) (T.Word (codes "end")) q.0.items q.0.marks d.0 d.1 r.gaps))
      ∙ ap (λ us. us ++ d.1) (sym (expr_shown-Fun q.0.items (p ∷ (q.0.marks ++ d.0 ∷ [])))))
      (measures_as (expr_kind_deep-Fun q.0.items) r.measures)
      r.within)

  -- `fun f/n` is read rightly, behind the name
  pub read_fun_name-right : (p : Place) (name : Name) (n : Place) (ts : List Placed) → let all : List Placed = at (T.Word (codes "fun")) p ∷ at (T.Atom name) n ∷ ts in Right (HeadedRead (suc levels) all) all (read_fun_name p name n ts)
  unfolding read_fun_name
  read_fun_name-right p name n ts = right_case
      (λ m. right_next (behind_part (at (T.Word (codes "fun")) p ∷ at (T.Atom name) n ∷ []) refl) (expect_mark (codes "/") ts) λ s g.
      right_next (behind_part (at (T.Word (codes "fun")) p ∷ at (T.Atom name) n ∷ at (T.Mark (codes "/")) s.0 ∷ []) (ap (λ us. at (T.Word (codes "fun")) p ∷ at (T.Atom name) n ∷ us) g)) (expect_integer s.1) λ a h. right_ok
      (headed_read p (p ∷ n ∷ s.0 ∷ a.0.1 ∷ []) (X.FunName name a.0.0) flat Plain a.1
      (fun_name p n s.0 a.0.1 name a.0.0)
      (ap (λ us. at (T.Word (codes "fun")) p ∷ at (T.Atom name) n ∷ us) (g ∙ ap (λ us. at (T.Mark (codes "/")) s.0 ∷ us) h) ∙ ap (λ us. us ++ a.1) (sym (expr_shown-FunName name a.0.0 (p ∷ n ∷ s.0 ∷ a.0.1 ∷ []))))
      (nothing_measured (expr_kind_deep-FunName name a.0.0))
      (omega arith)))
      (λ d g. right_outside (subst (λ us. HasOutside (at (T.Word (codes "fun")) p ∷ at (T.Atom name) n ∷ us) d.0 (codes "remote name")) (sym (mark-takes (codes ":") ts d g)) (stands_after (at (T.Word (codes "fun")) p ∷ at (T.Atom name) n ∷ []) (remote_fun name p n d.0 [] d.1))))

  -- `fun` is read rightly
  pub read_fun-right : (p : Place) (ts : List Placed) → Right (HeadedRead (suc levels) (at (T.Word (codes "fun")) p ∷ ts)) (at (T.Word (codes "fun")) p ∷ ts) (read_fun l p ts)
  unfolding read_fun
  read_fun-right p ts = right_if
      (λ e. let f = variable_next-takes ts e in right_outside (subst (λ us. HasOutside (at (T.Word (codes "fun")) p ∷ us) p (codes "named fun")) (sym f.3) (stands (named_fun f.0 p f.1 [] f.2))))
      (λ e. right_case
      (λ n. read_fun_clauses-right p ts)
      (λ a g. right_tokens (ap (λ us. at (T.Word (codes "fun")) p ∷ us) (atom-takes ts a g)) (read_fun_name-right p a.0.0 a.0.1 a.1)))

  try_read : (p : Place) (ts : List Placed) (b : Several (Node ItemKind) × List Placed) (o : Several (Node ClauseKind) × List Placed) (c : Several (Node CatchKind) × List Placed) (a : Ending × List Placed) (e : Place × List Placed)
      → AreRead IsItem item_tokens item_deep levels (codes ",") ts b → PartRead IsCaseClause case_clause_tokens clause_deep levels (codes "of") b.1 o → PartRead IsCatch catch_tokens catch_deep levels (codes "catch") o.1 c → AfterRead levels c.1 a
      → has_end c.0.items a.0.items ≡ true → IsWordNext (codes "end") a.1 e
      → HeadedRead (suc levels) (at (T.Word (codes "try")) p ∷ ts) ((try_built p b.0 o.0 c.0 a.0 e.0, Plain), e.1)
  try_read p ts b o c a e rb ro rc ra h g =
      headed_read p (p ∷ (b.0.marks ++ (o.0.marks ++ (c.0.marks ++ (a.0.marks ++ e.0 ∷ []))))) (X.Try b.0.items o.0.items c.0.items a.0.items) (higher b.0.height (higher o.0.height (higher c.0.height a.0.height))) Plain e.1
      (subst (λ is. IsPostfix Plain (node p (p ∷ (b.0.marks ++ (o.0.marks ++ (c.0.marks ++ (a.0.marks ++ e.0 ∷ []))))) (X.Try is o.0.items c.0.items a.0.items))) (sym rb.items)
      (try_end p e.0 b.0.marks o.0.marks c.0.marks a.0.marks rb.first rb.others o.0.items c.0.items a.0.items (gaps_of rb) (formed_of rb) ro.marks ro.formed rc.marks rc.formed ra.marks ra.formed (catches_or_ends c.0.items a.0.items h)))
      (ap (λ us. at (T.Word (codes "try")) p ∷ us) (rb.takes ∙ (ap (λ us. listed item_tokens (T.Mark (codes ",")) b.0.items b.0.marks ++ us) (ro.takes ∙ ap (λ us. fill (part_pieces (codes "of") (map case_clause_tokens o.0.items)) o.0.marks ++ us) (rc.takes ∙ ap (λ us. fill (part_pieces (codes "catch") (map catch_tokens c.0.items)) c.0.marks ++ us) (ra.takes ∙ ap (λ us. fill (after_pieces item_tokens a.0.items) a.0.marks ++ us) g)))
      ∙ sym (try_text b.0.items o.0.items c.0.items a.0.items b.0.marks o.0.marks c.0.marks a.0.marks e.0 e.1 rb.gaps ro.marks rc.marks ra.marks)))
      ∙ ap (λ us. us ++ e.1) (sym (expr_shown-Try b.0.items o.0.items c.0.items a.0.items (p ∷ (b.0.marks ++ (o.0.marks ++ (c.0.marks ++ (a.0.marks ++ e.0 ∷ []))))))))
      (measures_as (expr_kind_deep-Try b.0.items o.0.items c.0.items a.0.items) (both_measured rb.measures (both_measured ro.measures (both_measured rc.measures ra.measures))))
      (higher_within b.0.height _ levels rb.within (higher_within o.0.height _ levels ro.within (higher_within c.0.height a.0.height levels rc.within ra.within)))

  -- `try` is read rightly
  pub read_try-right : (p : Place) (ts : List Placed) → Right (HeadedRead (suc levels) (at (T.Word (codes "try")) p ∷ ts)) (at (T.Word (codes "try")) p ∷ ts) (read_try l p ts)
  unfolding read_try
  read_try-right p ts =
      let start : Behind (at (T.Word (codes "try")) p ∷ ts) ts = behind_part (at (T.Word (codes "try")) p ∷ []) refl in
      right_next start (body_right ts) λ b rb. let second = behind_behind start (behind_part (listed item_tokens (T.Mark (codes ",")) b.0.items b.0.marks) rb.takes) in
      right_next second (read_part-right IsCaseClause case_clause_tokens clause_deep levels (read_case_clause l) parts.case_clause_right (codes "of") b.1) λ o ro. let third = behind_behind second (behind_part (fill (part_pieces (codes "of") (map case_clause_tokens o.0.items)) o.0.marks) ro.takes) in
      right_next third (read_part-right IsCatch catch_tokens catch_deep levels (read_catch l) parts.catch_right (codes "catch") o.1) λ c rc. let fourth = behind_behind third (behind_part (fill (part_pieces (codes "catch") (map catch_tokens c.0.items)) c.0.marks) rc.takes) in
      right_next fourth (read_after-right c.1) λ a ra. right_if
      (λ h. right_next (behind_behind fourth (behind_part (fill (after_pieces item_tokens a.0.items) a.0.marks) ra.takes)) (expect_word (codes "end") a.1) λ e g. right_ok (try_read p ts b o c a e rb ro rc ra h g))
      (λ h. right_fault tt)
