-- Operators: what is well formed is read again, or a node of it is nested too deep.
use Rattle.std.proofs.Common.{◌≡◌, ℕ, zero, suc, ◌-◌, ◌≤◌, ◌<◌, List, [], ◌∷◌, ◌++◌, length, refl, ap, sym, ◌∙◌, subst, inl, inr, le-leb, le_refl, append_assoc, length-append, length-drop, arith}
use Rattle.std.proofs.lemmas.Bool.{lt-leb}
use Rattle.std.specs.Prelude.{drop, Option, Some, None}
use Rattle.erl_tree.specs.Lists.{Among}
use Rattle.erl_tree.specs.declared.token.Place.{Place}
use Rattle.erl_tree.specs.declared.token.Placed.{Placed}
use Rattle.erl_tree.specs.declared.token.Node.{Node}
use Rattle.erl_tree.specs.declared.expr.UnaryOp.{UnaryOp}
use Rattle.erl_tree.specs.declared.expr.BinaryOp.{BinaryOp}
use Rattle.erl_tree.specs.declared.expr.BinaryOp.TheVariants.{Orelse}
use Rattle.erl_tree.specs.declared.expr.ExprKind.TheVariants as X
use Rattle.erl_grammar.specs.declared.head.Head.{Head}
use Rattle.erl_grammar.specs.Pieces.{at}
use Rattle.erl_grammar.specs.Operators.{operator_token, priority, unary_priority, left_priority, right_priority}
use Rattle.erl_grammar.specs.Spelling.{expr_tokens}
use Rattle.erl_grammar.specs.Nesting.{Deep, deep_node, expr_kind_deep, expr_deep}
use Rattle.erl_grammar.specs.Grammar.{node, IsExpr, operation, unary, postfix, IsPostfix}
use Rattle.erl_grammar.proofs.DeeperLaws.{expr_falls}
use Rattle.erl_grammar.proofs.NestingLaws.{expr_kind_deep-Unary, expr_kind_deep-Binary}
use Rattle.erl_parser_tokens.specs.declared.height.Height.{Height}
use Rattle.erl_parser_tokens.specs.declared.height.Measured.{Measured}
use Rattle.erl_parser_exprs.specs.declared.operators.Waiting.{Waiting}
use Rattle.erl_parser_exprs.specs.declared.operators.Waiting.TheVariants.{Sign, Operator}
use Rattle.erl_parser_tokens.specs.Heights.{higher, above, measured}
use Rattle.erl_parser_tokens.specs.Tokens.{Answer, Reads, in_case, ended, operator, mark, string_next}
use Rattle.erl_parser_exprs.specs.Operations.{Expr, Operand, operand, asks, strength, joined, pending, reduced, whole, postfix_priority, with_room, behind_operator, read_operations, read_expr_with}
use Rattle.erl_parser_exprs.proofs.Levels.{EndsPostfix, EndsExpr}
use Rattle.erl_parser_tokens.proofs.Right.{Measures}
use Rattle.erl_parser_tokens.proofs.HeightLaws.{among_front, among_behind}
use Rattle.erl_parser_tokens.proofs.Then.{Right, IsRead, Again, again_ok, again_deep, again_none, again_some, again_true, again_within, again_read_right, IsPart, IsDeep}
use Rattle.erl_parser_tokens.proofs.TokenLaws.{sign-again, operator-again, ended-again}
use Rattle.erl_parser_exprs.proofs.PriorityLaws.{bounded, left_priority-more, right_priority-more, binds_less}
use Rattle.erl_parser_exprs.proofs.FirstTokens.{postfix_no_sign}
use Rattle.erl_parser_exprs.proofs.OperationLaws.{sign_node, operator_node, sign_text, operator_text, sign_measured, operator_measured, asked, asks-positive, IsAnyPostfix}

-- ---- what may follow

-- what comes next goes on with no expression that binds so tightly
pub record EndsAt (least : ℕ) (ts : List Placed) : Type 0 where
  pub postfix : EndsPostfix ts
  pub loose : (x : (BinaryOp × Place) × List Placed) → operator ts ≡ Some x → left_priority x.0.0 ≤ least

pub operator_ends : (op : BinaryOp) (m : Place) (ts : List Placed) → EndsPostfix (at (operator_token op) m ∷ ts)
unfolding mark string_next
operator_ends Orelse m ts = record { no_call = refl; no_hash = refl; no_colon = refl; no_string = refl }
operator_ends _ m ts = record { no_call = refl; no_hash = refl; no_colon = refl; no_string = refl }

abbrev operated : BinaryOp → Place → List Placed → (BinaryOp × Place) × List Placed
operated op m ts = ((op, m), ts)

abbrev found : (BinaryOp × Place) × List Placed → Option ((BinaryOp × Place) × List Placed)
found x = Some x

found_is : (x y : (BinaryOp × Place) × List Placed) → found x ≡ found y → x ≡ y
found_is x y e = cc

-- an operator ends what its left side may be
operator_ends_left : (op : BinaryOp) (m : Place) (ts : List Placed) → EndsAt (left_priority op) (at (operator_token op) m ∷ ts)
operator_ends_left op m ts = record {
  postfix = operator_ends op m ts;
  loose = λ x e. subst (λ y. left_priority y.0.0 ≤ left_priority op) (found_is (operated op m ts) x (sym (operator-again op m ts) ∙ e)) (le_refl (left_priority op));
}

ends_looser : {least more : ℕ} {ts : List Placed} → least ≤ more → EndsAt least ts → EndsAt more ts
ends_looser l e = record { postfix = e.postfix; loose = λ x g. omega (arith, e.loose x g) }

none_found : (x : (BinaryOp × Place) × List Placed) → None ≡ found x → ⊥
none_found x e = absurd cc

operator_behind : (op : BinaryOp) (a : Expr) (m : Place) (b : Expr) (rest : List Placed) → expr_tokens (operator_node op a m b) ++ rest ≡ expr_tokens a ++ at (operator_token op) m ∷ (expr_tokens b ++ rest)
operator_behind op a m b rest = ap (λ ts. ts ++ rest) (operator_text op a m b) ∙ append_assoc (expr_tokens a) (at (operator_token op) m ∷ expr_tokens b) rest

-- ---- operators that wait take what they can

reduced_more : (limit : ℕ) (w : Waiting) (ws : List Waiting) (o : Operand) → limit < asks w → reduced limit (w ∷ ws) o ≡ reduced limit ws (operand (joined w o.expr) (strength w))
unfolding reduced
reduced_more limit w ws o l = rw (le-leb (suc limit) (asks w) l) refl

reduced_none : (limit : ℕ) (ws : List Waiting) (o : Operand) → asked ws ≤ limit → reduced limit ws o ≡ pending ws o
unfolding reduced
reduced_none limit [] o l = refl
reduced_none limit (w ∷ ws) o l = rw (lt-leb (suc limit) (asks w) (omega (arith, l))) refl

-- ---- nodes that are nested too deep

-- what is too deep for its parts is too deep for a node
deep_inside : (n : Node Deep) (d less : ℕ) (p : Place) → less ≡ d - 1 → Among p (n.kind less) → Among p (deep_node n d)
deep_inside n zero less p e a = inr (subst (λ l. Among p (n.kind l)) less_is a)
  where
    less_is : less ≡ 0
    less_is = omega arith
deep_inside n (suc d) less p e a = subst (λ l. Among p (n.kind l)) less_is a
  where
    less_is : less ≡ d
    less_is = omega arith

deep_in_sign : (op : UnaryOp) (q : Place) (e : Expr) (d less : ℕ) (p : Place) → less ≡ d - 1 → Among p (expr_deep e less) → Among p (expr_deep (sign_node op q e) d)
deep_in_sign op q e d less p g a = deep_inside (node q (q ∷ []) (expr_kind_deep (X.Unary op e))) d less p g (subst (Among p) (sym (expr_kind_deep-Unary op e less)) a)

deep_in_left : (op : BinaryOp) (a : Expr) (m : Place) (b : Expr) (d less : ℕ) (p : Place) → less ≡ d - 1 → Among p (expr_deep a less) → Among p (expr_deep (operator_node op a m b) d)
deep_in_left op a m b d less p g h = deep_inside (node a.place (m ∷ []) (expr_kind_deep (X.Binary op a b))) d less p g (subst (Among p) (sym (expr_kind_deep-Binary op a b less)) (among_front p (expr_deep a less) (expr_deep b less) h))

deep_in_right : (op : BinaryOp) (a : Expr) (m : Place) (b : Expr) (d less : ℕ) (p : Place) → less ≡ d - 1 → Among p (expr_deep b less) → Among p (expr_deep (operator_node op a m b) d)
deep_in_right op a m b d less p g h = deep_inside (node a.place (m ∷ []) (expr_kind_deep (X.Binary op a b))) d less p g (subst (Among p) (sym (expr_kind_deep-Binary op a b less)) (among_behind p (expr_deep a less) (expr_deep b less) h))

-- the left side is read with one level too many
deep_in_left_too : (op : BinaryOp) (a : Expr) (m : Place) (b : Expr) (d : ℕ) (p : Place) → Among p (expr_deep a d) → Among p (expr_deep (operator_node op a m b) d)
deep_in_left_too op a m b zero p h = deep_in_left op a m b zero zero p (omega arith) h
deep_in_left_too op a m b (suc d) p h = deep_in_left op a m b (suc d) d p (omega arith) ((expr_falls a).falls d p h)

deep_node_itself : (n : Node Deep) (d : ℕ) → d ≡ 0 → Among n.place (deep_node n d)
deep_node_itself n zero e = inl refl
deep_node_itself n (suc d) e = absurd (omega arith)

-- ---- the reader

room_again : {L X : Type 0} {H : X → Type 0} {E : Place → Type 0} (ls : List L) (p : Place) (answer : Answer X) → (length ls ≡ 0 → E p) → (1 ≤ length ls → Again H E answer) → Again H E (with_room ls p answer)
room_again [] p answer d k = again_deep (d refl)
room_again (l ∷ ls) p answer d k = k (omega arith)

-- what is read behind an operand
abbrev pub behind_operand : {L : Type 0} → (List L → Reads (Measured Expr)) → List L → ℕ → List Waiting → Operand → Reads (Measured Expr)
behind_operand inner levels k ws o ts = in_case (operator ts) (ended (whole ws o) ts) (λ x. behind_operator levels x.0.0 x.0.1 (reduced (priority x.0.0) ws o) (λ vs. read_operations inner levels k vs x.1))

-- an operator that waits takes the operand before anything else is read, if what comes next binds less tightly
behind_joined : {L : Type 0} (inner : List L → Reads (Measured Expr)) (levels : List L) (k : ℕ) (w : Waiting) (ws : List Waiting) (o : Operand) (ts : List Placed) → ((x : (BinaryOp × Place) × List Placed) → operator ts ≡ Some x → priority x.0.0 < asks w)
    → behind_operand inner levels k (w ∷ ws) o ts ≡ behind_operand inner levels k ws (operand (joined w o.expr) (strength w)) ts
behind_joined inner levels k w ws o ts l = by (operator ts) l
  where
    by : (f : Option ((BinaryOp × Place) × List Placed)) → ((x : (BinaryOp × Place) × List Placed) → f ≡ Some x → priority x.0.0 < asks w)
        → in_case f (ended (whole (w ∷ ws) o) ts) (λ x. behind_operator levels x.0.0 x.0.1 (reduced (priority x.0.0) (w ∷ ws) o) (λ vs. read_operations inner levels k vs x.1))
        ≡ in_case f (ended (whole ws (operand (joined w o.expr) (strength w))) ts) (λ x. behind_operator levels x.0.0 x.0.1 (reduced (priority x.0.0) ws (operand (joined w o.expr) (strength w))) (λ vs. read_operations inner levels k vs x.1))
    by None l = ap (λ r. ended r.operand.expr ts) (reduced_more 0 w ws o (asks-positive w))
    by (Some x) l = ap (λ r. behind_operator levels x.0.0 x.0.1 r (λ vs. read_operations inner levels k vs x.1)) (reduced_more (priority x.0.0) w ws o (l x refl))

module _ {L : Type 0} (inner : List L → Reads (Measured Expr)) (levels : List L)
    (inner_right : (s : ℕ) (ts : List Placed) → Right (IsRead IsAnyPostfix expr_tokens expr_deep (length (drop s levels)) ts) ts (inner (drop s levels) ts))
    (inner_again : (s : ℕ) (head : Head) (e : Expr) (rest : List Placed) → IsPostfix head e → EndsPostfix rest → Again (IsPart e rest) (IsDeep expr_deep (length (drop s levels)) e) (inner (drop s levels) (expr_tokens e ++ rest))) where
  -- it goes on as from a complete operand that is this expression and binds at least so tightly
  abbrev GoesOn : (Measured Expr × List Placed → Type 0) → (Place → Type 0) → List Waiting → ℕ → Expr → List Placed → Type 0
  GoesOn H E ws least e rest = (j : ℕ) (h : Height) (b : ℕ) → length rest ≤ j → Measures (expr_deep e) h → least ≤ b → Again H E (behind_operand inner levels j ws (operand (measured e h) b) rest)

  -- the places of the nodes that are nested too deep in an expression behind these operators
  abbrev IsTooDeep : (Place → Type 0) → List Waiting → Expr → Type 0
  IsTooDeep E ws e = (p : Place) → Among p (expr_deep e (length levels - length ws)) → E p

  postfix_on : {H : Measured Expr × List Placed → Type 0} {E : Place → Type 0} (k : ℕ) {head : Head} (e : Expr) → IsPostfix head e → (ws : List Waiting) (rest : List Placed) → EndsPostfix rest → length (expr_tokens e ++ rest) < k
      → IsTooDeep E ws e → GoesOn H E ws postfix_priority e rest → Again H E (read_operations inner levels k ws (expr_tokens e ++ rest))
  unfolding read_operations
  postfix_on zero e i ws rest s f d go = absurd (omega arith)
  postfix_on (suc k) e i ws rest s f d go = again_none _ (postfix_no_sign e rest i)
      (again_read_right _ (inner_right (length ws) (expr_tokens e ++ rest)) (inner_again (length ws) _ e rest i s) (λ p a. d p (subst (λ l. Among p (expr_deep e l)) (length-drop (length ws) levels) a))
      (λ h m. go k h postfix_priority (omega (arith, f, length-append (expr_tokens e) rest)) m (le_refl postfix_priority)))

  sign_on : {H : Measured Expr × List Placed → Type 0} {E : Place → Type 0} (k : ℕ) (op : UnaryOp) (q : Place) (e : Expr) (ws : List Waiting) (rest : List Placed)
      → IsTooDeep E ws (sign_node op q e)
      → ((j : ℕ) → suc j ≡ k → 1 ≤ length levels - length ws → Again H E (read_operations inner levels j (Sign op q ∷ ws) (expr_tokens e ++ rest)))
      → length (expr_tokens (sign_node op q e) ++ rest) < k
      → Again H E (read_operations inner levels k ws (expr_tokens (sign_node op q e) ++ rest))
  unfolding read_operations
  sign_on zero op q e ws rest d go f = absurd (omega arith)
  sign_on {H} {E} (suc k) op q e ws rest d go f = subst (λ ts. Again H E (read_operations inner levels (suc k) ws (ts ++ rest))) (sym (sign_text op q e))
      (again_some _ _ (sign-again op q (expr_tokens e ++ rest)) (room_again (drop (length ws) levels) q _
      (λ n. d q (deep_node_itself (node q (q ∷ []) (expr_kind_deep (X.Unary op e))) (length levels - length ws) (omega (arith, n, length-drop (length ws) levels))))
      (λ n. go k refl (omega (arith, n, length-drop (length ws) levels)))))

  -- the left side of an operator, which is put among those that wait
  left_on : {H : Measured Expr × List Placed → Type 0} {E : Place → Type 0} (k : ℕ) (op : BinaryOp) (x : Expr) (m : Place) (y : Expr) (h : Height) (b : ℕ) (ws : List Waiting) (rest : List Placed) → Measures (expr_deep x) h → asked ws ≤ priority op → left_priority op ≤ b
      → IsTooDeep E ws (operator_node op x m y)
      → Again H E (read_operations inner levels k (Operator (measured x h) op m ∷ ws) (expr_tokens y ++ rest))
      → Again H E (behind_operator levels op m (reduced (priority op) ws (operand (measured x h) b)) (λ vs. read_operations inner levels k vs (expr_tokens y ++ rest)))
  left_on {H} {E} k op x m y h b ws rest v a t d go = subst (λ r. Again H E (behind_operator levels op m r (λ vs. read_operations inner levels k vs (expr_tokens y ++ rest)))) (sym (reduced_none (priority op) ws (operand (measured x h) b) a))
      (again_true _ (le-leb (left_priority op) b t) (again_within (length (drop (suc (length ws)) levels)) (measured x h) v
      (λ p c. d p (deep_in_left op x m y (length levels - length ws) (length (drop (suc (length ws)) levels)) p (omega (arith, length-drop (suc (length ws)) levels)) c))
      go))

  -- reading an expression goes on as from a complete operand, or answers a node that is nested too deep
  reads_on : {H : Measured Expr × List Placed → Type 0} {E : Place → Type 0} (k : ℕ) {least : ℕ} {e : Expr} → IsExpr least e → least ≤ postfix_priority → (ws : List Waiting) → asked ws ≤ least → (rest : List Placed) → EndsAt least rest → length (expr_tokens e ++ rest) < k
      → IsTooDeep E ws e → GoesOn H E ws least e rest → Again H E (read_operations inner levels k ws (expr_tokens e ++ rest))
  reads_on k (postfix least head e i) l ws a rest s f d go = postfix_on k e i ws rest s.postfix f d (λ j h b n m t. go j h b n m (omega (arith, l, t)))
  reads_on {H} {E} k (unary least op q e t i) l ws a rest s f d go = sign_on k op q e ws rest d
      (λ j n r. reads_on j i (omega arith) (Sign op q ∷ ws) (le_refl unary_priority) rest (ends_looser t s) (omega (arith, n, f, ap (λ ts. length (ts ++ rest)) (sign_text op q e))) (λ p c. d p (deep_in_sign op q e (length levels - length ws) (length levels - suc (length ws)) p (omega arith) c))
      (λ j' h b n' m t'. subst (Again H E) (sym (behind_joined inner levels j' (Sign op q) ws (operand (measured e h) b) rest (λ x g. omega (arith, (bounded x.0.0).most))))
      (go j' (above q h) unary_priority n' (sign_measured op q e h m) t)))
      f
  reads_on {H} {E} k (operation least op x y m t i j) l ws a rest s f d go =
      let more : List Placed = expr_tokens y ++ rest in
      let text : expr_tokens (operator_node op x m y) ++ rest ≡ expr_tokens x ++ at (operator_token op) m ∷ more = operator_behind op x m y rest in
      subst (λ ts. Again H E (read_operations inner levels k ws ts)) (sym text) (reads_on k i (omega (arith, (bounded op).left_most)) ws (omega (arith, a, t, left_priority-more op)) (at (operator_token op) m ∷ more) (operator_ends_left op m more) (omega (arith, f, ap length text))
      (λ p c. d p (deep_in_left_too op x m y (length levels - length ws) p c))
      (λ k' h b n' v t'. again_some _ _ (operator-again op m more) (left_on k' op x m y h b ws rest v (omega (arith, a, t)) t' d
      (reads_on k' j (omega (arith, (bounded op).right_most)) (Operator (measured x h) op m ∷ ws) (le_refl (right_priority op)) rest (ends_looser (omega (arith, t, right_priority-more op)) s) (omega (arith, n'))
      (λ p c. d p (deep_in_right op x m y (length levels - length ws) (length levels - suc (length ws)) p (omega arith) c))
      (λ j' h' b' n'' w t''. subst (Again H E) (sym (behind_joined inner levels j' (Operator (measured x h) op m) ws (operand (measured y h') b') rest (λ z g. binds_less op z.0.0 (omega (arith, s.loose z g, t)))))
      (go j' (above x.place (higher h h')) (priority op) n'' (operator_measured op x m y h h' v w) t))))))

  -- what is well formed and followed by nothing that goes on with it is read again, or a node of it is nested too deep
  pub read_expr_with-again : (e : Expr) (rest : List Placed) → IsExpr 0 e → EndsExpr rest → Again (IsPart e rest) (IsDeep expr_deep (length levels) e) (read_expr_with inner levels (expr_tokens e ++ rest))
  unfolding reduced
  read_expr_with-again e rest i s = reads_on (suc (length (expr_tokens e ++ rest))) i (omega arith) [] (omega arith) rest (record { postfix = s.ends_postfix; loose = λ x g. absurd (none_found x (sym s.no_operator ∙ g)) }) (le_refl _)
      (λ p a. subst (λ l. Among p (expr_deep e l)) no_fewer a)
      (λ j h b n m t. again_none _ s.no_operator (subst (Again (IsPart e rest) (IsDeep expr_deep (length levels) e)) (sym (ended-again (measured e h) rest s.none_behind)) (again_ok (h, refl))))
    where
      no_fewer : length levels - 0 ≡ length levels
      no_fewer = omega arith
