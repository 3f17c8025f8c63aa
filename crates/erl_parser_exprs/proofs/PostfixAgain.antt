-- Expressions without operators are read again, with all that follows their first part.
use Rattle.std.proofs.Common.{◌≡◌, ℕ, zero, suc, ◌≤◌, ◌<◌, Bool, true, false, List, [], ◌∷◌, ◌++◌, map, length, refl, ap, sym, ◌∙◌, subst, inl, inr, append_assoc, length-append, arith}
use Rattle.std.specs.Prelude.{Option, Some, None, Ok, Err, if◌then◌else◌, codes}
use Rattle.type_terms.specs.Keys.{Name}
use Rattle.erl_tree.specs.Lists.{Among}
use Rattle.erl_tree.specs.declared.token.Place.{Place}
use Rattle.erl_tree.specs.declared.token.Placed.{Placed}
use Rattle.erl_tree.specs.declared.token.Node.{Node}
use Rattle.erl_tree.specs.declared.token.Token.{Token}
use Rattle.erl_tree.specs.declared.token.Token.TheVariants as T
use Rattle.erl_tree.specs.declared.expr.ExprKind.{ExprKind}
use Rattle.erl_tree.specs.declared.expr.ExprKind.TheVariants as X
use Rattle.erl_tree.specs.declared.expr.AssocKind.{AssocKind}
use Rattle.erl_grammar.specs.declared.head.Head.{Head}
use Rattle.erl_grammar.specs.declared.head.Head.TheVariants.{Plain, OfMap, OfRecord, OfCall}
use Rattle.erl_grammar.specs.Pieces.{at, own, fill, commas}
use Rattle.erl_grammar.specs.Spelling.{expr_tokens, qualifier_tokens, item_tokens, case_clause_tokens, if_clause_tokens, fun_clause_tokens}
use Rattle.erl_grammar.specs.Nesting.{expr_deep}
use Rattle.erl_grammar.specs.Grammar.{node, AreSeparators, IsExpr, takes_map, takes_record, IsPostfix, atom, integer, character, string, variable, parens, tuple, list, cells, comprehension, call, prefixed_call, variable_applied, parens_applied, new_map, changed_map, new_record, changed_record, record_field, begin_end, case_of, if_end, fun_name, fun_end, try_end, IsAssoc, IsField}
use Rattle.erl_grammar.proofs.DeeperLaws.{expr_falls}
use Rattle.erl_grammar.proofs.SpellingLaws.{expr_shown-Atom, expr_shown-Int, expr_shown-Char, expr_shown-Str, expr_shown-Var, expr_shown-Paren, expr_shown-Tuple, expr_shown-Cells, expr_shown-Comp, expr_shown-Call, expr_shown-Apply, expr_shown-MapNew, expr_shown-MapChange, expr_shown-RecNew, expr_shown-RecChange, expr_shown-RecGet, expr_shown-Begin, expr_shown-Case, expr_shown-If, expr_shown-FunName, expr_shown-Fun, expr_shown-Try}
use Rattle.erl_grammar.proofs.NestingLaws.{expr_kind_deep-MapChange, expr_kind_deep-RecChange, expr_kind_deep-RecGet}
use Rattle.erl_parser_tokens.specs.declared.height.Height.{Height}
use Rattle.erl_parser_tokens.specs.declared.height.Measured.{Measured}
use Rattle.erl_parser_tokens.specs.Heights.{flat, above, measured}
use Rattle.erl_parser_tokens.specs.Tokens as R
use Rattle.erl_parser_tokens.specs.Tokens.{Answer, ◌>>=◌, in_case, unexpected, mark}
use Rattle.erl_parser_tokens.specs.Parts.{within}
use Rattle.erl_parser_exprs.specs.Operations.{Expr}
use Rattle.erl_parser_exprs.specs.Expressions.{Level, Headed, Tail, no_tail, map_tail, record_tail, tail_behind, tail_of, read_tail, is_tail, read_tails, read_map_change, read_behind_record, primary_from, read_postfix}
use Rattle.erl_parser_tokens.proofs.Right.{Measures}
use Rattle.erl_parser_tokens.proofs.HeightLaws.{among_front}
use Rattle.erl_parser_tokens.proofs.Then.{Right, right_fault, right_within, Again, again_ok, again_deep, again_from, again_as, again_then, again_none, again_some, again_true, again_false, again_within, IsPart, IsDeep}
use Rattle.erl_parser_tokens.proofs.TokenLaws.{mark-again, atom-again}
use Rattle.erl_parser_tokens.proofs.PartLaws.{listed, IsTail, cells_behind}
use Rattle.erl_parser_exprs.proofs.FirstTokens as F
use Rattle.erl_parser_exprs.proofs.Levels.{EndsPostfix, IsLevel}
use Rattle.erl_parser_tokens.proofs.Endings.{mark-none}
use Rattle.erl_parser_exprs.proofs.ItemLaws.{deeper_in}
use Rattle.erl_parser_exprs.proofs.Inner.{AreParts, AreLevels}
use Rattle.erl_parser_exprs.proofs.PartsKnown.{parts_known}
use Rattle.erl_parser_exprs.proofs.Heads.{HeadedRead, IsHeaded, IsHeadedMeasured, again_headed, EndsFirst, ends_first, hash_ends_first, listed_closed}
use Rattle.erl_parser_exprs.proofs.ListLaws.{cells_text}
use Rattle.erl_parser_exprs.proofs.MapLaws.{IsLeftSide, read_map_change-right, read_behind_record-right}
use Rattle.erl_parser_exprs.proofs.BlockLaws.{try_text}
use Rattle.erl_parser_exprs.proofs.PostfixLaws.{primary_from-right}
use Rattle.erl_parser_exprs.proofs.CallsAgain.{closed_tokens, ReadsHeaded, read_string-again, read_tuple-again, read_atom-again, read_called-again, read_erlang-again, read_variable-again, read_variable_applied-again, read_parens-again, read_parens_applied-again}
use Rattle.erl_parser_exprs.proofs.ListsAgain.{read_empty-again, read_cells_list-again, read_comprehension-again}
use Rattle.erl_parser_exprs.proofs.MapsAgain.{assocs_closed, fields_closed, read_new_map-again, read_new_record-again, read_map_change-again, read_record_change-again, read_record_field-again}
use Rattle.erl_parser_exprs.proofs.BlocksAgain.{after_text, catch_text, of_text, read_begin-again, read_case-again, read_if-again, read_fun_name-again, read_fun_end-again, read_try-again}

-- ---- tails

-- a map's associations follow
tail_of-map : (head : Head) (h o : Place) (us : List Placed) → takes_map head ≡ true → tail_of head (at (T.Mark (codes "#")) h ∷ at (T.Mark (codes "{")) o ∷ us) ≡ map_tail h o us
unfolding tail_of
tail_of-map head h o us e = rw (mark-again (codes "#") h (at (T.Mark (codes "{")) o ∷ us), mark-again (codes "{") o us, e) refl

-- a record's name follows
tail_of-record : (head : Head) (h : Place) (name : Name) (n : Place) (us : List Placed) → takes_record head ≡ true → tail_of head (at (T.Mark (codes "#")) h ∷ at (T.Atom name) n ∷ us) ≡ record_tail h name n us
unfolding tail_of
tail_of-record head h name n us e = rw (mark-again (codes "#") h (at (T.Atom name) n ∷ us), mark-none (codes "{") (T.Atom name) n us refl, atom-again name n us, e) refl

-- none follows
tail_of-none : (head : Head) (ts : List Placed) → mark (codes "#") ts ≡ None → tail_of head ts ≡ no_tail
unfolding tail_of
tail_of-none head ts e = rw e refl

-- the first part of an expression without operators
abbrev first_from : List Level → Level → List Placed → Answer (Headed × List Placed)
first_from deeper l [] = unexpected []
first_from deeper l (t ∷ ts) = primary_from t.token t.place deeper l ts

-- how reading goes on behind it
abbrev then_tails : List Level → Level → Headed × List Placed → Answer (Measured Expr × List Placed)
then_tails deeper l q = read_tails (suc (length q.1)) l (length deeper) q.0 q.1

read_postfix-first : (deeper : List Level) (l : Level) (ts : List Placed) → read_postfix (l ∷ deeper) ts ≡ (first_from deeper l ts >>= then_tails deeper l)
unfolding read_postfix
read_postfix-first deeper l [] = refl
read_postfix-first deeper l (t ∷ ts) = refl

behind_front : (front closed rest : List Placed) (k : ℕ) → length (front ++ (closed ++ rest)) < suc k → 1 ≤ length front → length rest < k
behind_front front closed rest k l m = omega (arith, length-append front (closed ++ rest), length-append closed rest)

module _ (deeper : List Level) (l : Level) (known : IsLevel (length deeper) l) (parts : AreParts (length deeper) l) (behind : AreLevels deeper) where
  first_from-right : (ts : List Placed) → Right (HeadedRead (suc (length deeper)) ts) ts (first_from deeper l ts)
  first_from-right [] = right_fault tt
  first_from-right (t ∷ ts) = primary_from-right deeper l known parts behind t.token t.place ts

  -- reading goes on from this expression
  abbrev GoesOn : (Measured Expr × List Placed → Type 0) → (Place → Type 0) → Head → Expr → List Placed → Type 0
  GoesOn H D head e rest = (k : ℕ) (h : Height) → length rest < k → Measures (expr_deep e) h → Again H D (read_tails k l (length deeper) (measured e h, head) rest)

  -- a node of the expression that is nested too deep is one of the whole
  abbrev IsTooDeep : (Place → Type 0) → Expr → Type 0
  IsTooDeep D e = (p : Place) → IsDeep expr_deep (suc (length deeper)) e p → D p

  -- reading goes on behind what was read of it
  tails_on : {H : Measured Expr × List Placed → Type 0} {D : Place → Type 0} (head : Head) (e : Expr) (rest : List Placed) (answer : Answer (Headed × List Placed)) (k : ℕ) → Again (IsHeadedMeasured head e rest) (IsDeep expr_deep (suc (length deeper)) e) answer → IsTooDeep D e → GoesOn H D head e rest → length rest < k
      → Again H D (answer >>= λ f. read_tails k l (length deeper) f.0 f.1)
  tails_on {H} {D} head e rest answer k a d go m = again_then a d λ q g. subst (λ (z : Headed × List Placed). Again H D (read_tails k l (length deeper) z.0 z.1)) (sym g.2) (go k g.0 m g.1)

  -- the first part was read
  first_on : {H : Measured Expr × List Placed → Type 0} {D : Place → Type 0} (head : Head) (e : Expr) (rest : List Placed) → ReadsHeaded (length deeper) head e rest (first_from deeper l (expr_tokens e ++ rest)) → IsTooDeep D e → GoesOn H D head e rest
      → Again H D (first_from deeper l (expr_tokens e ++ rest) >>= then_tails deeper l)
  first_on {H} {D} head e rest a d go = again_then (again_headed (first_from-right (expr_tokens e ++ rest)) a) d λ q g. subst (λ (z : Headed × List Placed). Again H D (then_tails deeper l z)) (sym g.2) (go (suc (length rest)) g.0 (omega arith) g.1)

  -- a tail behind an expression was read
  tail_on : {H : Measured Expr × List Placed → Type 0} {D : Place → Type 0} (head : Head) (e : Expr) (h : Height) (ts : List Placed) (t : Tail) (other : Head) (whole : Expr) (rest : List Placed) (k : ℕ) → tail_of head ts ≡ t → is_tail t ≡ true
      → Again (IsHeadedMeasured other whole rest) (IsDeep expr_deep (suc (length deeper)) whole) (read_tail t l (length deeper) (measured e h) (Ok ((measured e h, head), ts)))
      → IsTooDeep D whole → GoesOn H D other whole rest → length rest < k → Again H D (read_tails (suc k) l (length deeper) (measured e h, head) ts)
  unfolding read_tails
  tail_on {H} {D} head e h ts t other whole rest k g i a d go m = subst (λ z. Again H D (if is_tail z then (read_tail z l (length deeper) (measured e h) (Ok ((measured e h, head), ts)) >>= λ f. read_tails k l (length deeper) f.0 f.1) else Ok (measured e h, ts))) (sym g)
      (again_true _ i (tails_on other whole rest _ k a d go m))

  -- ---- maps and records behind an expression

  changed_map_again : (head : Head) (h o c : Place) (ms : List Place) (e : Expr) (assocs : List (Node AssocKind)) (k : Height) (rest : List Placed) (otherwise : Answer (Headed × List Placed)) → takes_map head ≡ true → IsPostfix head e → AreSeparators assocs ms → ((a : Node AssocKind) → Among a assocs → IsAssoc true a) → Measures (expr_deep e) k
      → Again (IsHeadedMeasured OfMap (node e.place (h ∷ o ∷ (ms ++ c ∷ [])) (X.MapChange e assocs)) rest) (IsDeep expr_deep (suc (length deeper)) (node e.place (h ∷ o ∷ (ms ++ c ∷ [])) (X.MapChange e assocs)))
      (read_tail (map_tail h o (assocs_closed assocs ms c ++ rest)) l (length deeper) (measured e k) otherwise)
  changed_map_again head h o c ms e assocs k rest otherwise t i g j m =
      let us : List Placed = assocs_closed assocs ms c ++ rest in
      again_headed {ts = expr_tokens e ++ at (T.Mark (codes "#")) h ∷ at (T.Mark (codes "{")) o ∷ us}
      (right_within (length deeper) (measured e k) (λ w. read_map_change-right (length deeper) l parts head (measured e k) (record { formed = i; measures = m; within = w }) t h o us))
      (again_within (length deeper) (measured e k) m (λ p a. deeper_in p (expr_kind_deep-MapChange e assocs (length deeper)) (among_front p (expr_deep e (length deeper)) _ a)) (read_map_change-again (length deeper) l parts e k h o c ms assocs rest g j))

  map_on : {H : Measured Expr × List Placed → Type 0} {D : Place → Type 0} (head : Head) (h o c : Place) (ms : List Place) (e : Expr) (assocs : List (Node AssocKind)) (rest : List Placed) → takes_map head ≡ true → IsPostfix head e → AreSeparators assocs ms → ((a : Node AssocKind) → Among a assocs → IsAssoc true a)
      → IsTooDeep D (node e.place (h ∷ o ∷ (ms ++ c ∷ [])) (X.MapChange e assocs)) → GoesOn H D OfMap (node e.place (h ∷ o ∷ (ms ++ c ∷ [])) (X.MapChange e assocs)) rest
      → GoesOn H D head e (at (T.Mark (codes "#")) h ∷ at (T.Mark (codes "{")) o ∷ (assocs_closed assocs ms c ++ rest))
  map_on head h o c ms e assocs rest t i g j d go zero k n m = absurd (omega arith)
  map_on head h o c ms e assocs rest t i g j d go (suc f) k n m = tail_on head e k _ (map_tail h o (assocs_closed assocs ms c ++ rest)) OfMap (node e.place (h ∷ o ∷ (ms ++ c ∷ [])) (X.MapChange e assocs)) rest f (tail_of-map head h o _ t) refl
      (changed_map_again head h o c ms e assocs k rest (Ok ((measured e k, head), at (T.Mark (codes "#")) h ∷ at (T.Mark (codes "{")) o ∷ (assocs_closed assocs ms c ++ rest))) t i g j m) d go (behind_front (at (T.Mark (codes "#")) h ∷ at (T.Mark (codes "{")) o ∷ []) (assocs_closed assocs ms c) rest f n (omega arith))

  behind_again : (head : Head) (h : Place) (name : Name) (n : Place) (e whole : Expr) (k : Height) (us rest : List Placed) (otherwise : Answer (Headed × List Placed)) → takes_record head ≡ true → IsPostfix head e → Measures (expr_deep e) k
      → ((p : Place) → Among p (expr_deep e (length deeper)) → IsDeep expr_deep (suc (length deeper)) whole p) → ReadsHeaded (length deeper) OfRecord whole rest (read_behind_record l (measured e k) h name n us)
      → Again (IsHeadedMeasured OfRecord whole rest) (IsDeep expr_deep (suc (length deeper)) whole) (read_tail (record_tail h name n us) l (length deeper) (measured e k) otherwise)
  behind_again head h name n e whole k us rest otherwise t i m d a = again_headed {ts = expr_tokens e ++ at (T.Mark (codes "#")) h ∷ at (T.Atom name) n ∷ us}
      (right_within (length deeper) (measured e k) (λ w. read_behind_record-right (length deeper) l parts head (measured e k) (record { formed = i; measures = m; within = w }) t h name n us))
      (again_within (length deeper) (measured e k) m d a)

  record_on : {H : Measured Expr × List Placed → Type 0} {D : Place → Type 0} (head : Head) (h : Place) (name : Name) (n : Place) (e whole : Expr) (closed rest : List Placed) → takes_record head ≡ true → IsPostfix head e
      → ((p : Place) → Among p (expr_deep e (length deeper)) → IsDeep expr_deep (suc (length deeper)) whole p) → ((k : Height) → ReadsHeaded (length deeper) OfRecord whole rest (read_behind_record l (measured e k) h name n (closed ++ rest)))
      → IsTooDeep D whole → GoesOn H D OfRecord whole rest → GoesOn H D head e (at (T.Mark (codes "#")) h ∷ at (T.Atom name) n ∷ (closed ++ rest))
  record_on head h name n e whole closed rest t i c a d go zero k f m = absurd (omega arith)
  record_on head h name n e whole closed rest t i c a d go (suc j) k f m = tail_on head e k _ (record_tail h name n (closed ++ rest)) OfRecord whole rest j (tail_of-record head h name n _ t) refl
      (behind_again head h name n e whole k (closed ++ rest) rest (Ok ((measured e k, head), at (T.Mark (codes "#")) h ∷ at (T.Atom name) n ∷ (closed ++ rest))) t i m c (a k)) d go (behind_front (at (T.Mark (codes "#")) h ∷ at (T.Atom name) n ∷ []) closed rest j f (omega arith))

  -- ---- all of it

  -- the first part, by its tokens
  first_by : {H : Measured Expr × List Placed → Type 0} {D : Place → Type 0} (head : Head) (e : Expr) (rest ts : List Placed) → expr_tokens e ++ rest ≡ ts → ReadsHeaded (length deeper) head e rest (first_from deeper l ts) → IsTooDeep D e → GoesOn H D head e rest
      → Again H D (first_from deeper l (expr_tokens e ++ rest) >>= then_tails deeper l)
  first_by head e rest ts t a d go = first_on head e rest (again_from (ap (first_from deeper l) t) a) d go

  list_on : {H : Measured Expr × List Placed → Type 0} {D : Place → Type 0} (o c : Place) (ms : List Place) (es : List Expr) (rest : List Placed) → AreSeparators es ms → ((e : Expr) → Among e es → IsExpr 0 e)
      → IsTooDeep D (node o (o ∷ (ms ++ c ∷ [])) (X.Cells es None)) → GoesOn H D Plain (node o (o ∷ (ms ++ c ∷ [])) (X.Cells es None)) rest
      → Again H D (first_from deeper l (expr_tokens (node o (o ∷ (ms ++ c ∷ [])) (X.Cells es None)) ++ rest) >>= then_tails deeper l)
  list_on o c [] [] rest g h d go = first_by Plain _ rest _ (ap (λ ts. ts ++ rest) (expr_shown-Cells [] None (o ∷ c ∷ []))) (read_empty-again (length deeper) l known deeper refl behind o c rest) d go
  list_on o c (m ∷ ms) [] rest g h d go = absurd g
  list_on o c ms (e ∷ es) rest g h d go = first_by Plain _ rest _ (ap (λ ts. ts ++ rest) (cells_text o e es None (ms ++ c ∷ [])) ∙ ap (λ ts. at (T.Mark (codes "[")) o ∷ ts) (append_assoc (expr_tokens e) (fill (cells_behind expr_tokens es None) (ms ++ c ∷ [])) rest))
      (read_cells_list-again (length deeper) l known deeper refl behind o e es None ms (c ∷ []) rest h g tt) d go

  -- reading goes on from an expression without operators, or answers a node of it that is nested too deep
  postfix_on : {H : Measured Expr × List Placed → Type 0} {D : Place → Type 0} {head : Head} {e : Expr} → IsPostfix head e → (rest : List Placed) → EndsFirst rest → IsTooDeep D e → GoesOn H D head e rest
      → Again H D (first_from deeper l (expr_tokens e ++ rest) >>= then_tails deeper l)
  postfix_on (atom p a) rest f d go = first_by Plain _ rest _ (ap (λ ts. ts ++ rest) (expr_shown-Atom a (p ∷ []))) (read_atom-again (length deeper) l known a p rest f) d go
  postfix_on (integer p n) rest f d go = first_by Plain _ rest _ (ap (λ ts. ts ++ rest) (expr_shown-Int n (p ∷ []))) (again_ok (above p flat, refl)) d go
  postfix_on (character p c) rest f d go = first_by Plain _ rest _ (ap (λ ts. ts ++ rest) (expr_shown-Char c (p ∷ []))) (again_ok (above p flat, refl)) d go
  postfix_on (string p s) rest f d go = first_by Plain _ rest _ (ap (λ ts. ts ++ rest) (expr_shown-Str s (p ∷ []))) (read_string-again (length deeper) s p rest f) d go
  postfix_on (variable p x) rest f d go = first_by Plain _ rest _ (ap (λ ts. ts ++ rest) (expr_shown-Var x (p ∷ []))) (read_variable-again (length deeper) l known x p rest f) d go
  postfix_on (parens o c e i) rest f d go = first_by Plain _ rest _ (ap (λ ts. ts ++ rest) (expr_shown-Paren e (o ∷ c ∷ [])) ∙ ap (λ ts. at (T.Mark (codes "(")) o ∷ ts) (append_assoc (expr_tokens e) (at (T.Mark (codes ")")) c ∷ []) rest))
      (read_parens-again (length deeper) l known o c e rest i f) d go
  postfix_on (tuple o c ms es g h) rest f d go = first_by Plain _ rest _ (ap (λ ts. ts ++ rest) (expr_shown-Tuple es (o ∷ (ms ++ c ∷ [])))) (read_tuple-again (length deeper) l known o c ms es rest g h) d go
  postfix_on (list o c ms es g h) rest f d go = list_on o c ms es rest g h d go
  postfix_on (cells o b c ms e t es g h i) rest f d go = first_by Plain _ rest _ (ap (λ ts. ts ++ rest) (cells_text o e es (Some t) (ms ++ b ∷ c ∷ [])) ∙ ap (λ ts. at (T.Mark (codes "[")) o ∷ ts) (append_assoc (expr_tokens e) (fill (cells_behind expr_tokens es (Some t)) (ms ++ b ∷ c ∷ [])) rest))
      (read_cells_list-again (length deeper) l known deeper refl behind o e es (Some t) ms (b ∷ c ∷ []) rest h g i) d go
  postfix_on (comprehension o b c ms e q qs i g h) rest f d go = first_by Plain _ rest _
      (ap (λ ts. ts ++ rest) (expr_shown-Comp e (q ∷ qs) (o ∷ b ∷ (ms ++ c ∷ []))) ∙ ap (λ ts. at (T.Mark (codes "[")) o ∷ ts) (append_assoc (expr_tokens e) _ rest
      ∙ ap (λ ts. expr_tokens e ++ at (T.Mark (codes "||")) b ∷ ts) (sym (listed_closed qualifier_tokens (T.Mark (codes ",")) (T.Mark (codes "]")) (q ∷ qs) ms c rest g))))
      (read_comprehension-again (length deeper) l known deeper refl behind parts o b c ms e q qs rest i g h) d go
  postfix_on (call n o c ms name args i g h) rest f d go = first_by OfCall _ rest _ (ap (λ ts. ts ++ rest) (expr_shown-Call None name args (n ∷ o ∷ (ms ++ c ∷ [])))) (read_called-again (length deeper) l known n o c ms name args rest i g h) d go
  postfix_on (prefixed_call p q n o c ms name args i g h) rest f d go = first_by OfCall _ rest _ (ap (λ ts. ts ++ rest) (expr_shown-Call (Some (codes "erlang")) name args (p ∷ q ∷ n ∷ o ∷ (ms ++ c ∷ []))))
      (read_erlang-again (length deeper) l known p q n o c ms name args rest i g h) d go
  postfix_on (variable_applied p o c ms x args g h) rest f d go = first_by OfCall _ rest _
      (ap (λ ts. ts ++ rest) (expr_shown-Apply (node p (p ∷ []) (X.Var x)) args (o ∷ (ms ++ c ∷ [])) ∙ ap (λ ts. ts ++ at (T.Mark (codes "(")) o ∷ closed_tokens (codes ")") args ms c) (expr_shown-Var x (p ∷ []))))
      (read_variable_applied-again (length deeper) l known p o c ms x args rest g h) d go
  postfix_on (parens_applied p q o c ms e args i g h) rest f d go = first_by OfCall _ rest _
      (ap (λ ts. ts ++ rest) (expr_shown-Apply (node p (p ∷ q ∷ []) (X.Paren e)) args (o ∷ (ms ++ c ∷ [])) ∙ ap (λ ts. ts ++ at (T.Mark (codes "(")) o ∷ closed_tokens (codes ")") args ms c) (expr_shown-Paren e (p ∷ q ∷ [])))
      ∙ ap (λ ts. at (T.Mark (codes "(")) p ∷ ts) (ap (λ ts. ts ++ rest) (append_assoc (expr_tokens e) (at (T.Mark (codes ")")) q ∷ []) (at (T.Mark (codes "(")) o ∷ closed_tokens (codes ")") args ms c)) ∙ append_assoc (expr_tokens e) _ rest))
      (read_parens_applied-again (length deeper) l known p q o c ms e args rest i g h) d go
  postfix_on (new_map h o c ms assocs g i) rest f d go = first_by OfMap _ rest _ (ap (λ ts. ts ++ rest) (expr_shown-MapNew assocs (h ∷ o ∷ (ms ++ c ∷ [])))) (read_new_map-again (length deeper) l parts h o c ms assocs rest g i) d go
  postfix_on (new_record h n o c ms name fields g i) rest f d go = first_by OfRecord _ rest _ (ap (λ ts. ts ++ rest) (expr_shown-RecNew name name fields (h ∷ n ∷ o ∷ (ms ++ c ∷ [])))) (read_new_record-again (length deeper) l parts h n o c ms name fields rest g i) d go
  postfix_on (begin_end b e ms i is g h) rest f d go = first_by Plain _ rest _
      (ap (λ ts. ts ++ rest) (expr_shown-Begin (i ∷ is) (b ∷ (ms ++ e ∷ []))) ∙ ap (λ ts. at (T.Word (codes "begin")) b ∷ ts) (sym (listed_closed item_tokens (T.Mark (codes ",")) (T.Word (codes "end")) (i ∷ is) ms e rest g)))
      (read_begin-again (length deeper) l known parts b e ms i is rest g h) d go
  postfix_on (case_of p o e ms subject c cs i g h) rest f d go = first_by Plain _ rest _
      (ap (λ ts. ts ++ rest) (expr_shown-Case subject (c ∷ cs) (p ∷ o ∷ (ms ++ e ∷ []))) ∙ ap (λ ts. at (T.Word (codes "case")) p ∷ ts) (append_assoc (expr_tokens subject) _ rest
      ∙ ap (λ ts. expr_tokens subject ++ at (T.Word (codes "of")) o ∷ ts) (sym (listed_closed case_clause_tokens (T.Mark (codes ";")) (T.Word (codes "end")) (c ∷ cs) ms e rest g))))
      (read_case-again (length deeper) l known parts p o e ms subject c cs rest i g h) d go
  postfix_on (if_end p e ms c cs g h) rest f d go = first_by Plain _ rest _
      (ap (λ ts. ts ++ rest) (expr_shown-If (c ∷ cs) (p ∷ (ms ++ e ∷ []))) ∙ ap (λ ts. at (T.Word (codes "if")) p ∷ ts) (sym (listed_closed if_clause_tokens (T.Mark (codes ";")) (T.Word (codes "end")) (c ∷ cs) ms e rest g)))
      (read_if-again (length deeper) l known parts p e ms c cs rest g h) d go
  postfix_on (fun_name p n s a name arity) rest f d go = first_by Plain _ rest _ (ap (λ ts. ts ++ rest) (expr_shown-FunName name arity (p ∷ n ∷ s ∷ a ∷ []))) (read_fun_name-again (length deeper) l known parts p n s a name arity rest) d go
  postfix_on (fun_end p e ms c cs g h) rest f d go = first_by Plain _ rest _
      (ap (λ ts. ts ++ rest) (expr_shown-Fun (c ∷ cs) (p ∷ (ms ++ e ∷ []))) ∙ ap (λ ts. at (T.Word (codes "fun")) p ∷ ts) (sym (listed_closed fun_clause_tokens (T.Mark (codes ";")) (T.Word (codes "end")) (c ∷ cs) ms e rest g)))
      (read_fun_end-again (length deeper) l known parts p e ms c cs rest g h) d go
  postfix_on (try_end p e ms os cs ns i body of_clauses catches after gb fb go fo gc fc ga fa ends) rest f d on = first_by Plain _ rest _
      (ap (λ ts. ts ++ rest) (expr_shown-Try (i ∷ body) of_clauses catches after (p ∷ (ms ++ (os ++ (cs ++ (ns ++ e ∷ [])))))) ∙ ap (λ ts. at (T.Word (codes "try")) p ∷ ts) (try_text (i ∷ body) of_clauses catches after ms os cs ns e rest gb go gc ga))
      (read_try-again (length deeper) l known parts p e ms os cs ns i body of_clauses catches after rest gb fb go fo gc fc ga fa ends) d on
  postfix_on (changed_map head h o c ms e assocs t i g j) rest f d go = again_from (ap (λ ts. first_from deeper l ts >>= then_tails deeper l) (ap (λ ts. ts ++ rest) (expr_shown-MapChange e assocs (h ∷ o ∷ (ms ++ c ∷ []))) ∙ append_assoc (expr_tokens e) _ rest))
      (postfix_on i (at (T.Mark (codes "#")) h ∷ at (T.Mark (codes "{")) o ∷ (assocs_closed assocs ms c ++ rest)) (hash_ends_first h _)
      (λ p a. d p (deeper_in p (expr_kind_deep-MapChange e assocs (length deeper)) (among_front p (expr_deep e (length deeper)) _ ((expr_falls e).falls (length deeper) p a))))
      (map_on head h o c ms e assocs rest t i g j d go))
  postfix_on (changed_record head h n o c ms e name fields t i g j) rest f d go = again_from (ap (λ ts. first_from deeper l ts >>= then_tails deeper l) (ap (λ ts. ts ++ rest) (expr_shown-RecChange e name name fields (h ∷ n ∷ o ∷ (ms ++ c ∷ []))) ∙ append_assoc (expr_tokens e) _ rest))
      (postfix_on i (at (T.Mark (codes "#")) h ∷ at (T.Atom name) n ∷ at (T.Mark (codes "{")) o ∷ (fields_closed fields ms c ++ rest)) (hash_ends_first h _)
      (λ p a. d p (deeper_in p (expr_kind_deep-RecChange e name name fields (length deeper)) (among_front p (expr_deep e (length deeper)) _ ((expr_falls e).falls (length deeper) p a))))
      (record_on head h name n e _ (at (T.Mark (codes "{")) o ∷ fields_closed fields ms c) rest t i
      (λ p a. deeper_in p (expr_kind_deep-RecChange e name name fields (length deeper)) (among_front p (expr_deep e (length deeper)) _ a))
      (λ k. read_record_change-again (length deeper) l parts e k h n o c ms name fields rest g j) d go))
  postfix_on (record_field head h n q r e name got t i) rest f d go = again_from (ap (λ ts. first_from deeper l ts >>= then_tails deeper l) (ap (λ ts. ts ++ rest) (expr_shown-RecGet e name name got (h ∷ n ∷ q ∷ r ∷ [])) ∙ append_assoc (expr_tokens e) _ rest))
      (postfix_on i (at (T.Mark (codes "#")) h ∷ at (T.Atom name) n ∷ at (T.Mark (codes ".")) q ∷ at (T.Atom got) r ∷ rest) (hash_ends_first h _)
      (λ p a. d p (deeper_in p (expr_kind_deep-RecGet e name name got (length deeper)) ((expr_falls e).falls (length deeper) p a)))
      (record_on head h name n e _ (at (T.Mark (codes ".")) q ∷ at (T.Atom got) r ∷ []) rest t i
      (λ p a. deeper_in p (expr_kind_deep-RecGet e name name got (length deeper)) a)
      (λ k. read_record_field-again (length deeper) l parts e k h n q r name got rest) d go))

  -- the whole was read
  last_on : (head : Head) (e : Expr) (rest : List Placed) → EndsPostfix rest → GoesOn (IsPart e rest) (IsDeep expr_deep (suc (length deeper)) e) head e rest
  unfolding read_tails
  last_on head e rest n zero h f m = absurd (omega arith)
  last_on head e rest n (suc k) h f m = subst (λ z. Again (IsPart e rest) (IsDeep expr_deep (suc (length deeper)) e) (if is_tail z then (read_tail z l (length deeper) (measured e h) (Ok ((measured e h, head), rest)) >>= λ f. read_tails k l (length deeper) f.0 f.1) else Ok (measured e h, rest))) (sym (tail_of-none head rest n.no_hash))
      (again_ok (h, refl))

  level_postfix-again : (head : Head) (e : Expr) (rest : List Placed) → IsPostfix head e → EndsPostfix rest → Again (IsPart e rest) (IsDeep expr_deep (suc (length deeper)) e) (read_postfix (l ∷ deeper) (expr_tokens e ++ rest))
  level_postfix-again head e rest i n = again_from (read_postfix-first deeper l (expr_tokens e ++ rest)) (postfix_on i rest (ends_first n) (λ p a. a) (last_on head e rest n))

-- where there is no level, the expression itself is nested too deep
none_postfix-again : (e : Expr) (rest : List Placed) (t : Token) (others : List Placed) → expr_tokens e ≡ at t e.place ∷ others → Again (IsPart e rest) (IsDeep expr_deep 0 e) (read_postfix [] (expr_tokens e ++ rest))
unfolding read_postfix
none_postfix-again e rest t others g = again_from (ap (λ ts. read_postfix [] (ts ++ rest)) g) (again_deep (inl refl))

-- an expression without operators is read again, or a node of it is nested too deep
pub read_postfix-again : (levels : List Level) → AreLevels levels → (head : Head) (e : Expr) (rest : List Placed) → IsPostfix head e → EndsPostfix rest
    → Again (IsPart e rest) (IsDeep expr_deep (length levels) e) (read_postfix levels (expr_tokens e ++ rest))
read_postfix-again [] a head e rest i n = let b = F.postfix_first i in none_postfix-again e rest b.first b.others b.tokens
read_postfix-again (l ∷ deeper) a head e rest i n = level_postfix-again deeper l a.0 (parts_known (length deeper) l a.0) a.1 head e rest i n
