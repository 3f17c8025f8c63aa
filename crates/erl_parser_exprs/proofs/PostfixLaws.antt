-- Expressions without operators: what is read is well formed, takes its tokens and is measured.
use Rattle.std.proofs.Common.{◌≡◌, ℕ, zero, suc, ◌≤◌, Bool, true, false, List, [], ◌∷◌, ◌++◌, length, refl, ap, sym, ◌∙◌, subst, arith}
use Rattle.std.specs.Prelude.{Option, Some, None, Ok, Err, if◌then◌else◌, codes}
use Rattle.std.specs.Str.{bytes_eq}
use Rattle.type_terms.specs.Keys.{Name}
use Rattle.erl_tree.specs.declared.token.Place.{Place}
use Rattle.erl_tree.specs.declared.token.Placed.{Placed}
use Rattle.erl_tree.specs.declared.token.Token.{Token}
use Rattle.erl_tree.specs.declared.token.Token.TheVariants as T
use Rattle.erl_tree.specs.declared.expr.ExprKind.{ExprKind}
use Rattle.erl_tree.specs.declared.expr.ExprKind.TheVariants as X
use Rattle.erl_grammar.specs.declared.head.Head.{Head}
use Rattle.erl_grammar.specs.declared.head.Head.TheVariants.{Plain}
use Rattle.erl_grammar.specs.Pieces.{at}
use Rattle.erl_grammar.specs.Spelling.{expr_tokens}
use Rattle.erl_grammar.specs.Nesting.{expr_deep}
use Rattle.erl_grammar.specs.Grammar.{takes_map, takes_record}
use Rattle.erl_grammar.specs.Grammar as G
use Rattle.erl_grammar.proofs.SpellingLaws.{expr_shown-Int, expr_shown-Char}
use Rattle.erl_grammar.proofs.NestingLaws.{expr_kind_deep-Int, expr_kind_deep-Char}
use Rattle.erl_parser_tokens.specs.declared.height.Measured.{Measured}
use Rattle.erl_parser_tokens.specs.Heights.{flat}
use Rattle.erl_parser_tokens.specs.Tokens.{Answer, ◌>>=◌, in_case, mark, atom}
use Rattle.erl_parser_exprs.specs.Operations.{Expr}
use Rattle.erl_parser_exprs.specs.Expressions.{Level, Headed, Tail, no_tail, map_tail, record_tail, tail_behind, tail_of, read_tail, is_tail, read_tails, primary_from_mark, primary_from_word, primary_from, read_postfix}
use Rattle.erl_parser_tokens.proofs.HeightLaws.{nothing_measured}
use Rattle.erl_parser_tokens.proofs.Then.{Right, right_ok, right_fault, right_next, right_then, right_if, right_within, behind_none, IsRead}
use Rattle.erl_parser_tokens.proofs.TokenLaws.{mark-takes, atom-takes, wrong_word-right}
use Rattle.erl_parser_exprs.proofs.OperationLaws.{IsAnyPostfix}
use Rattle.erl_parser_exprs.proofs.Levels.{IsLevel}
use Rattle.erl_parser_exprs.proofs.Inner.{AreParts, AreLevels}
use Rattle.erl_parser_exprs.proofs.PartsKnown.{parts_known}
use Rattle.erl_parser_exprs.proofs.Heads.{HeadedRead, headed_read, right_tokens}
use Rattle.erl_parser_exprs.proofs.CallLaws.{text_is, read_string-right, read_named-right, read_variable-right, read_parens-right, read_tuple-right}
use Rattle.erl_parser_exprs.proofs.ListLaws.{read_list-right}
use Rattle.erl_parser_exprs.proofs.MapLaws.{IsLeftSide, read_hash-right, read_map_change-right, read_behind_record-right}
use Rattle.erl_parser_exprs.proofs.BlockLaws.{read_begin-right, read_case-right, read_if-right, read_fun-right, read_try-right}

-- ---- tails

-- the tail that stands at the front of the tokens, behind an expression with this head
abbrev pub IsTailOf : Head → List Placed → Tail → Type 0
IsTailOf head ts no_tail = Unit {0}
IsTailOf head ts (map_tail h o us) = (ts ≡ at (T.Mark (codes "#")) h ∷ at (T.Mark (codes "{")) o ∷ us) × (takes_map head ≡ true)
IsTailOf head ts (record_tail h name n us) = (ts ≡ at (T.Mark (codes "#")) h ∷ at (T.Atom name) n ∷ us) × (takes_record head ≡ true)

module _ (head : Head) (ts : List Placed) where
  map_is : (h o : Place) (us : List Placed) → ts ≡ at (T.Mark (codes "#")) h ∷ at (T.Mark (codes "{")) o ∷ us → (b : Bool) → takes_map head ≡ b → IsTailOf head ts (if b then map_tail h o us else no_tail)
  map_is h o us e true g = (e, g)
  map_is h o us e false g = tt

  record_is : (h : Place) (name : Name) (n : Place) (us : List Placed) → ts ≡ at (T.Mark (codes "#")) h ∷ at (T.Atom name) n ∷ us → (b : Bool) → takes_record head ≡ b → IsTailOf head ts (if b then record_tail h name n us else no_tail)
  record_is h name n us e true g = (e, g)
  record_is h name n us e false g = tt

  record_by : (h : Place) (us : List Placed) → ts ≡ at (T.Mark (codes "#")) h ∷ us → (o : Option ((Name × Place) × List Placed)) → atom us ≡ o → IsTailOf head ts (in_case o no_tail (λ a. if takes_record head then record_tail h a.0.0 a.0.1 a.1 else no_tail))
  record_by h us e None g = tt
  record_by h us e (Some a) g = record_is h a.0.0 a.0.1 a.1 (e ∙ ap (λ vs. at (T.Mark (codes "#")) h ∷ vs) (atom-takes us a g)) (takes_record head) refl

  map_by : (h : Place) (us : List Placed) → ts ≡ at (T.Mark (codes "#")) h ∷ us → (o : Option (Place × List Placed)) → mark (codes "{") us ≡ o
      → IsTailOf head ts (in_case o (in_case (atom us) no_tail (λ a. if takes_record head then record_tail h a.0.0 a.0.1 a.1 else no_tail)) (λ o. if takes_map head then map_tail h o.0 o.1 else no_tail))
  map_by h us e None g = record_by h us e (atom us) refl
  map_by h us e (Some o) g = map_is h o.0 o.1 (e ∙ ap (λ vs. at (T.Mark (codes "#")) h ∷ vs) (mark-takes (codes "{") us o g)) (takes_map head) refl

  hash_by : (o : Option (Place × List Placed)) → mark (codes "#") ts ≡ o → IsTailOf head ts (in_case o no_tail (λ h. tail_behind head h.0 h.1))
  hash_by None e = tt
  hash_by (Some h) e = map_by h.0 h.1 (mark-takes (codes "#") ts h e) (mark (codes "{") h.1) refl

  pub tail_of-takes : IsTailOf head ts (tail_of head ts)
  unfolding tail_of
  tail_of-takes = hash_by (mark (codes "#") ts) refl

module _ (levels : ℕ) (l : Level) (parts : AreParts levels l) where
  left_side : (all ts : List Placed) (e : Headed) → HeadedRead (suc levels) all (e, ts) → e.0.height.depth ≤ levels → IsLeftSide levels e.1 e.0
  left_side all ts e r w = record { formed = r.formed; measures = r.measures; within = w }

  tail_right : (all ts : List Placed) (e : Headed) → HeadedRead (suc levels) all (e, ts) → (t : Tail) → IsTailOf e.1 ts t → Right (HeadedRead (suc levels) all) all (read_tail t l levels e.0 (Ok (e, ts)))
  tail_right all ts e r no_tail g = right_ok r
  tail_right all ts e r (map_tail h o us) g = right_within levels e.0 λ w. right_tokens (r.takes ∙ ap (λ vs. expr_tokens e.0.tree ++ vs) g.0) (read_map_change-right levels l parts e.1 e.0 (left_side all ts e r w) g.1 h o us)
  tail_right all ts e r (record_tail h name n us) g = right_within levels e.0 λ w. right_tokens (r.takes ∙ ap (λ vs. expr_tokens e.0.tree ++ vs) g.0) (read_behind_record-right levels l parts e.1 e.0 (left_side all ts e r w) g.1 h name n us)

  -- all tails are read rightly
  pub read_tails-right : (k : ℕ) (all ts : List Placed) (e : Headed) → HeadedRead (suc levels) all (e, ts) → Right (IsRead IsAnyPostfix expr_tokens expr_deep (suc levels) all) all (read_tails k l levels e ts)
  unfolding read_tails
  read_tails-right zero all ts e r = right_fault tt
  read_tails-right (suc k) all ts e r = right_if
      (λ b. right_then (tail_right all ts e r (tail_of e.1 ts) (tail_of-takes e.1 ts)) λ f s. read_tails-right k all f.1 f.0 s)
      (λ b. right_ok (record { formed = (e.1, r.formed); takes = r.takes; measures = r.measures; within = r.within }))

-- ---- the first part

module _ (deeper : List Level) (l : Level) (known : IsLevel (length deeper) l) (parts : AreParts (length deeper) l) (behind : AreLevels deeper) where
  -- a first part that begins with this token is read rightly
  abbrev pub ReadsFirst : Token → Place → List Placed → Answer (Headed × List Placed) → Type 0
  ReadsFirst t p ts answer = Right (HeadedRead (suc (length deeper)) (at t p ∷ ts)) (at t p ∷ ts) answer

  -- by the text of a mark
  by_mark : (m text : Name) (p : Place) (ts : List Placed) {one other : Answer (Headed × List Placed)} → ReadsFirst (T.Mark text) p ts one → ReadsFirst (T.Mark m) p ts other → ReadsFirst (T.Mark m) p ts (if bytes_eq m text then one else other)
  by_mark m text p ts a b = right_if (λ e. right_tokens (ap (λ n. at (T.Mark n) p ∷ ts) (text_is text m e)) a) (λ e. b)

  by_word : (w text : Name) (p : Place) (ts : List Placed) {one other : Answer (Headed × List Placed)} → ReadsFirst (T.Word text) p ts one → ReadsFirst (T.Word w) p ts other → ReadsFirst (T.Word w) p ts (if bytes_eq w text then one else other)
  by_word w text p ts a b = right_if (λ e. right_tokens (ap (λ n. at (T.Word n) p ∷ ts) (text_is text w e)) a) (λ e. b)

  pub primary_from-right : (t : Token) (p : Place) (ts : List Placed) → ReadsFirst t p ts (primary_from t p deeper l ts)
  primary_from-right (T.Int n) p ts = right_ok (headed_read p (p ∷ []) (X.Int n) flat Plain ts (G.integer p n) (ap (λ us. us ++ ts) (sym (expr_shown-Int n (p ∷ [])))) (nothing_measured (expr_kind_deep-Int n)) (omega arith))
  primary_from-right (T.Char c) p ts = right_ok (headed_read p (p ∷ []) (X.Char c) flat Plain ts (G.character p c) (ap (λ us. us ++ ts) (sym (expr_shown-Char c (p ∷ [])))) (nothing_measured (expr_kind_deep-Char c)) (omega arith))
  primary_from-right (T.Str s) p ts = read_string-right (length deeper) s p ts
  primary_from-right (T.Atom a) p ts = read_named-right (length deeper) l known a p ts
  primary_from-right (T.Var x) p ts = read_variable-right (length deeper) l known x p ts
  primary_from-right (T.Mark m) p ts =
      by_mark m (codes "(") p ts (read_parens-right (length deeper) l known p ts) (by_mark m (codes "{") p ts (read_tuple-right (length deeper) l known p ts)
      (by_mark m (codes "[") p ts (read_list-right (length deeper) l known parts deeper refl behind p ts) (by_mark m (codes "#") p ts (read_hash-right (length deeper) l parts p ts) (right_fault tt))))
  primary_from-right (T.Word w) p ts =
      by_word w (codes "begin") p ts (read_begin-right (length deeper) l known parts p ts) (by_word w (codes "case") p ts (read_case-right (length deeper) l known parts p ts)
      (by_word w (codes "if") p ts (read_if-right (length deeper) l known parts p ts) (by_word w (codes "fun") p ts (read_fun-right (length deeper) l known parts p ts)
      (by_word w (codes "try") p ts (read_try-right (length deeper) l known parts p ts) (wrong_word-right w p ts)))))
  primary_from-right _ p ts = right_fault tt

  pub level_postfix-right : (ts : List Placed) → Right (IsRead IsAnyPostfix expr_tokens expr_deep (suc (length deeper)) ts) ts (read_postfix (l ∷ deeper) ts)
  unfolding read_postfix
  level_postfix-right [] = right_fault tt
  level_postfix-right (t ∷ ts) = right_then (primary_from-right t.token t.place ts) λ e r. read_tails-right (length deeper) l parts (suc (length e.1)) (t ∷ ts) e.1 e.0 r

-- an expression without operators is read rightly
pub read_postfix-right : (levels : List Level) → AreLevels levels → (ts : List Placed) → Right (IsRead IsAnyPostfix expr_tokens expr_deep (length levels) ts) ts (read_postfix levels ts)
unfolding read_postfix
read_postfix-right [] a [] = right_fault tt
read_postfix-right [] a (t ∷ ts) = right_fault tt
read_postfix-right (l ∷ deeper) a ts = level_postfix-right deeper l a.0 (parts_known (length deeper) l a.0) a.1 ts
