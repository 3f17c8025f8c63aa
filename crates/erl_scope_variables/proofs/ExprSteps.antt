-- What a pass does at expressions, bodies and clauses, by their forms.
use Rattle.std.proofs.Common.{◌≡◌, refl, ap, sym, ◌∙◌, List, [], ◌∷◌, ◌++◌, map, length, append_assoc}
use Rattle.std.specs.Prelude.{Option, Some, None}
use Rattle.type_terms.specs.Keys.{Name}
use Rattle.erl_tree.specs.declared.token.Place.{Place}
use Rattle.erl_tree.specs.declared.token.Node.{Node}
use Rattle.erl_tree.specs.declared.pattern.PatternKind.{PatternKind}
use Rattle.erl_tree.specs.declared.expr.UnaryOp.{UnaryOp}
use Rattle.erl_tree.specs.declared.expr.BinaryOp.{BinaryOp}
use Rattle.erl_tree.specs.declared.expr.ExprKind.{ExprKind, out-ExprKind, roll-ExprKind, roll-out-ExprKind}
use Rattle.erl_tree.specs.declared.expr.ExprKind.TheVariants as X
use Rattle.erl_tree.specs.declared.expr.ExprKind.TheOpen as E
use Rattle.erl_tree.specs.declared.expr.ItemKind.{ItemKind, out-ItemKind}
use Rattle.erl_tree.specs.declared.expr.ItemKind.TheVariants as I
use Rattle.erl_tree.specs.declared.expr.QualifierKind.{QualifierKind, out-QualifierKind}
use Rattle.erl_tree.specs.declared.expr.QualifierKind.TheVariants as Q
use Rattle.erl_tree.specs.declared.expr.AssocKind.{AssocKind, out-AssocKind}
use Rattle.erl_tree.specs.declared.expr.CatchKind.{CatchKind, out-CatchKind}
use Rattle.erl_tree.specs.declared.expr.ClauseKind.{ClauseKind, out-ClauseKind}
use Rattle.erl_scope_rules.specs.declared.role.Role.{Role}
use Rattle.erl_scope_rules.specs.declared.role.Role.TheVariants.{Met, Renewed}
use Rattle.erl_scope_rules.specs.Occurrences.{Mark, names_of, Occurrence, Part, no_part, seeing, behind, in_turn, side_by_side, optional, row, row_marks, Step, Body, body, generated, use_at, clause_from, class_patterns, expr_kind_part, clause_kind_part, item_kind_step, qualifier_kind_step, assoc_kind_part, catch_kind_clause, item_step, qualifier_step, expr_part, field_part, assoc_part, clause_part}
use Rattle.erl_scope_rules.specs.Resolution.{all_resolved_in}
use Rattle.erl_scope_stack.specs.State.{above, below}
use Rattle.erl_scope_variables.specs.declared.walk.Walk.{Walk}
use Rattle.erl_scope_variables.specs.declared.walk.Start.{Start}
use Rattle.erl_scope_variables.specs.Nodes.{catch_node_part, body_of, tests_part, guard_tests, ended_body, construct_at, construct_part, long_construct_at, long_construct_part}
use Rattle.erl_scope_variables.specs.Walks.{after_each, start_of, head_ended_since, body_ended_since, part_aside_since, parts_ended_since, forgotten_since, after_occurrences, after_part, after_beside, after_step, after_marks, after_head, after_expression, after_field, after_association, after_tests, after_item, after_qualifier, after_clause, after_catch, after_generator}
use Rattle.erl_scope_variables.proofs.PartLevels.{ExprLevel, part_at, item_at, qualifier_at, expr-out, item-out, qualifier-out, assoc-out, clause-out, catch-out}
use Rattle.erl_scope_variables.proofs.WalkLaws.{resolved-append, resolved-seeing, resolved-behind, above-append, below-append, each-append, each-map, after-no_part, beside-no_part, after-one_more, after-in_turn, after-side_by_side, parts-ended, parts-forgotten, after_body, after-steps, body-ended, body-aside, head_walked, after-generated, after-comprehension}

-- ---- lists of parts

module _ {A : Type 0} (g : A → Part) where
  pub walked-all : (xs : List A) (w : Walk) → after_each (λ x u. after_part (g x) u) xs w ≡ after_part (in_turn (map g xs)) w
  walked-all xs w = sym (after-in_turn (map g xs) w ∙ each-map after_part g xs w)

  pub walked-behind : (p : Part) (xs : List A) (w : Walk) → after_each (λ x u. after_part (g x) u) xs (after_part p w) ≡ after_part (in_turn (p ∷ map g xs)) w
  walked-behind p xs w = walked-all xs (after_part p w) ∙ sym (after-one_more p (map g xs) w)

  pub walked-before : (p : Part) (xs : List A) (w : Walk) → after_part p (after_each (λ x u. after_part (g x) u) xs w) ≡ after_part (in_turn (map g xs ++ p ∷ [])) w
  walked-before p xs w = sym (after-in_turn (map g xs ++ p ∷ []) w ∙ (each-append after_part (map g xs) (p ∷ []) w ∙ ap (after_part p) (each-map after_part g xs w)))

  pub walked-beside : (xs : List A) (w : Walk) → after_each (λ x u. after_beside (g x) u) xs w ≡ after_beside (side_by_side (map g xs)) w
  walked-beside xs w = sym (after-side_by_side (map g xs) w ∙ each-map after_beside g xs w)

pub each-same : {A : Type 0} (f g : A → Walk → Walk) → ((x : A) (w : Walk) → f x w ≡ g x w) → (xs : List A) (w : Walk) → after_each f xs w ≡ after_each g xs w
each-same f g same [] w = refl
each-same f g same (x ∷ xs) w = ap (after_each f xs) (same x w) ∙ each-same f g same xs (g x w)

pub items-walked : (is : List (Node ItemKind)) (w : Walk) → after_each after_item is w ≡ after_body (body_of is) w
items-walked is w = sym (after-steps (map item_step is) w ∙ each-map after_step item_step is w)

pub qualifiers-walked : (qs : List (Node QualifierKind)) (w : Walk) → after_each after_qualifier qs w ≡ after_body (body (map qualifier_step qs)) w
qualifiers-walked qs w = sym (after-steps (map qualifier_step qs) w ∙ each-map after_step qualifier_step qs w)

pub generators-walked : (qs : List (Node QualifierKind)) (w : Walk) → after_each after_generator qs w ≡ after_marks (generated (map qualifier_step qs)) w
generators-walked qs w = sym (after-generated (map qualifier_step qs) w ∙ each-map (λ s v. after_marks s.binds v) qualifier_step qs w)

-- ---- expressions

-- a kind, by its level
kind-is : (k : ExprKind) (l : ExprLevel) (x : ExprKind) → out-ExprKind k ≡ l → roll-ExprKind l ≡ x → k ≡ x
kind-is k l x e rolls = sym (roll-out-ExprKind k) ∙ (ap roll-ExprKind e ∙ rolls)

module _ (k : ExprKind) (place : Place) (w v : Walk) where
  -- what is to be shown of an expression
  abbrev Done : Type 0
  Done = v ≡ after_part (expr_kind_part k place) w

  done : (x : ExprKind) (l : ExprLevel) → k ≡ x → out-ExprKind x ≡ l → v ≡ after_part (part_at l place) w → Done
  done x l is out h = h ∙ sym (ap (λ p. after_part p w) (expr-out k place ∙ ap (λ o. part_at o place) (ap out-ExprKind is ∙ out)))

  pub variable-done : (x : Name) → k ≡ X.Var x → v ≡ after_part (use_at x place) w → Done
  variable-done x is h = done (X.Var x) (E.Var x) is (X.outs-Var x) h

  module _ (e : Node ExprKind) (j : ExprKind) (same : j ≡ e.kind) where
    same-part : (u : Walk) → after_part (expr_kind_part j e.place) u ≡ after_part (expr_part e) u
    same-part u = ap (λ i. after_part (expr_kind_part i e.place) u) same

    pub paren-done : k ≡ X.Paren e → v ≡ after_part (expr_kind_part j e.place) w → Done
    paren-done is h = done (X.Paren e) (E.Paren e) is (X.outs-Paren e) (h ∙ same-part w)

    pub unary-done : (op : UnaryOp) → k ≡ X.Unary op e → v ≡ after_part (expr_kind_part j e.place) w → Done
    unary-done op is h = done (X.Unary op e) (E.Unary op e) is (X.outs-Unary op e) (h ∙ same-part w)

    pub get-done : (name tag field : Name) → k ≡ X.RecGet e name tag field → v ≡ after_part (expr_kind_part j e.place) w → Done
    get-done name tag field is h = done (X.RecGet e name tag field) (E.RecGet e name tag field) is (X.outs-RecGet e name tag field) (h ∙ same-part w)

    module _ (u : Walk) (first : u ≡ after_part (expr_kind_part j e.place) w) where
      then-walked : u ≡ after_part (expr_part e) w
      then-walked = first ∙ same-part w

      pub binary-done : (op : BinaryOp) (f : Node ExprKind) → k ≡ X.Binary op e f → (i : ExprKind) → i ≡ f.kind → v ≡ after_part (expr_kind_part i f.place) u → Done
      binary-done op f is i right h =
          done (X.Binary op e f) (E.Binary op e f) is (X.outs-Binary op e f)
          (h ∙ ((λ n. after_part (expr_kind_part (right n) f.place) (then-walked n)) ∙ sym (after-in_turn (expr_part e ∷ expr_part f ∷ []) w)))

      pub apply-done : (es : List (Node ExprKind)) → k ≡ X.Apply e es → (s : List (Node ExprKind)) → s ≡ es → v ≡ after_each after_expression s u → Done
      apply-done es is s listed h = done (X.Apply e es) (E.Apply e es) is (X.outs-Apply e es) (h ∙ ((λ n. after_each after_expression (listed n) (then-walked n)) ∙ walked-behind expr_part (expr_part e) es w))

      pub map_change-done : (as' : List (Node AssocKind)) → k ≡ X.MapChange e as' → (s : List (Node AssocKind)) → s ≡ as' → v ≡ after_each after_association s u → Done
      map_change-done as' is s listed h = done (X.MapChange e as') (E.MapChange e as') is (X.outs-MapChange e as') (h ∙ ((λ n. after_each after_association (listed n) (then-walked n)) ∙ walked-behind assoc_part (expr_part e) as' w))

      pub record_change-done : (name tag : Name) (fs : List (Node (Name × Node ExprKind))) → k ≡ X.RecChange e name tag fs → (s : List (Node (Name × Node ExprKind))) → s ≡ fs → v ≡ after_each after_field s u → Done
      record_change-done name tag fs is s listed h = done (X.RecChange e name tag fs) (E.RecChange e name tag fs) is (X.outs-RecChange e name tag fs) (h ∙ ((λ n. after_each after_field (listed n) (then-walked n)) ∙ walked-behind field_part (expr_part e) fs w))

  module _ (es s : List (Node ExprKind)) (listed : s ≡ es) (h : v ≡ after_each after_expression s w) where
    all-done : v ≡ after_part (in_turn (map expr_part es)) w
    all-done = h ∙ (ap (λ xs. after_each after_expression xs w) listed ∙ walked-all expr_part es w)

    pub tuple-done : k ≡ X.Tuple es → Done
    tuple-done is = done (X.Tuple es) (E.Tuple es) is (X.outs-Tuple es) all-done

    pub call-done : (prefix : Option Name) (name : Name) → k ≡ X.Call prefix name es → Done
    call-done prefix name is = done (X.Call prefix name es) (E.Call prefix name es) is (X.outs-Call prefix name es) all-done

  module _ (es : List (Node ExprKind)) (tail : Option (Node ExprKind)) (is : k ≡ X.Cells es tail) (s : List (Node ExprKind)) (listed : s ≡ es) (u : Walk) (first : u ≡ after_each after_expression s w) where
    pub list-done : tail ≡ None → v ≡ u → Done
    list-done none h =
        done (X.Cells es tail) (E.Cells es tail) is (X.outs-Cells es tail)
        (h ∙ (first ∙ (ap (λ xs. after_each after_expression xs w) listed
        ∙ (sym (after-no_part (after_each after_expression es w)) ∙ (walked-before expr_part no_part es w ∙ ap (λ o. after_part (in_turn (map expr_part es ++ optional expr_part o ∷ [])) w) (sym none))))))

    pub cells-done : (t : Node ExprKind) → tail ≡ Some t → (j : ExprKind) → j ≡ t.kind → v ≡ after_part (expr_kind_part j t.place) u → Done
    cells-done t some j same h =
        done (X.Cells es tail) (E.Cells es tail) is (X.outs-Cells es tail)
        (h ∙ ((λ n. after_part (expr_kind_part (same n) t.place) ((first ∙ ap (λ xs. after_each after_expression xs w) listed) n))
        ∙ (walked-before expr_part (expr_part t) es w ∙ ap (λ o. after_part (in_turn (map expr_part es ++ optional expr_part o ∷ [])) w) (sym some))))

  pub map_new-done : (as' : List (Node AssocKind)) → k ≡ X.MapNew as' → (s : List (Node AssocKind)) → s ≡ as' → v ≡ after_each after_association s w → Done
  map_new-done as' is s listed h = done (X.MapNew as') (E.MapNew as') is (X.outs-MapNew as') (h ∙ (ap (λ xs. after_each after_association xs w) listed ∙ walked-all assoc_part as' w))

  pub record_new-done : (name tag : Name) (fs : List (Node (Name × Node ExprKind))) → k ≡ X.RecNew name tag fs → (s : List (Node (Name × Node ExprKind))) → s ≡ fs → v ≡ after_each after_field s w → Done
  record_new-done name tag fs is s listed h = done (X.RecNew name tag fs) (E.RecNew name tag fs) is (X.outs-RecNew name tag fs) (h ∙ (ap (λ xs. after_each after_field xs w) listed ∙ walked-all field_part fs w))

  module _ (not_var : (x : Name) → k ≡ X.Var x → ⊥) (not_paren : (e : Node ExprKind) → k ≡ X.Paren e → ⊥) (not_tuple : (es : List (Node ExprKind)) → k ≡ X.Tuple es → ⊥) (not_cells : (es : List (Node ExprKind)) (o : Option (Node ExprKind)) → k ≡ X.Cells es o → ⊥) (not_unary : (op : UnaryOp) (e : Node ExprKind) → k ≡ X.Unary op e → ⊥) (not_binary : (op : BinaryOp) (e f : Node ExprKind) → k ≡ X.Binary op e f → ⊥) (not_call : (prefix : Option Name) (name : Name) (es : List (Node ExprKind)) → k ≡ X.Call prefix name es → ⊥) (not_apply : (e : Node ExprKind) (es : List (Node ExprKind)) → k ≡ X.Apply e es → ⊥) (not_mapnew : (as' : List (Node AssocKind)) → k ≡ X.MapNew as' → ⊥) (not_mapchange : (e : Node ExprKind) (as' : List (Node AssocKind)) → k ≡ X.MapChange e as' → ⊥) (not_recnew : (name tag : Name) (fs : List (Node (Name × Node ExprKind))) → k ≡ X.RecNew name tag fs → ⊥) (not_recchange : (e : Node ExprKind) (name tag : Name) (fs : List (Node (Name × Node ExprKind))) → k ≡ X.RecChange e name tag fs → ⊥) (not_recget : (e : Node ExprKind) (name tag field : Name) → k ≡ X.RecGet e name tag field → ⊥) where
    is-construct : (l : ExprLevel) → out-ExprKind k ≡ l → part_at l place ≡ construct_at l
    is-construct (E.Var x) h = absurd (not_var x (kind-is k (E.Var x) (X.Var x) h (X.rolls-Var x)))
    is-construct (E.Paren e) h = absurd (not_paren e (kind-is k (E.Paren e) (X.Paren e) h (X.rolls-Paren e)))
    is-construct (E.Tuple es) h = absurd (not_tuple es (kind-is k (E.Tuple es) (X.Tuple es) h (X.rolls-Tuple es)))
    is-construct (E.Cells es o) h = absurd (not_cells es o (kind-is k (E.Cells es o) (X.Cells es o) h (X.rolls-Cells es o)))
    is-construct (E.Unary op e) h = absurd (not_unary op e (kind-is k (E.Unary op e) (X.Unary op e) h (X.rolls-Unary op e)))
    is-construct (E.Binary op e f) h = absurd (not_binary op e f (kind-is k (E.Binary op e f) (X.Binary op e f) h (X.rolls-Binary op e f)))
    is-construct (E.Call prefix name es) h = absurd (not_call prefix name es (kind-is k (E.Call prefix name es) (X.Call prefix name es) h (X.rolls-Call prefix name es)))
    is-construct (E.Apply e es) h = absurd (not_apply e es (kind-is k (E.Apply e es) (X.Apply e es) h (X.rolls-Apply e es)))
    is-construct (E.MapNew as') h = absurd (not_mapnew as' (kind-is k (E.MapNew as') (X.MapNew as') h (X.rolls-MapNew as')))
    is-construct (E.MapChange e as') h = absurd (not_mapchange e as' (kind-is k (E.MapChange e as') (X.MapChange e as') h (X.rolls-MapChange e as')))
    is-construct (E.RecNew name tag fs) h = absurd (not_recnew name tag fs (kind-is k (E.RecNew name tag fs) (X.RecNew name tag fs) h (X.rolls-RecNew name tag fs)))
    is-construct (E.RecChange e name tag fs) h = absurd (not_recchange e name tag fs (kind-is k (E.RecChange e name tag fs) (X.RecChange e name tag fs) h (X.rolls-RecChange e name tag fs)))
    is-construct (E.RecGet e name tag field) h = absurd (not_recget e name tag field (kind-is k (E.RecGet e name tag field) (X.RecGet e name tag field) h (X.rolls-RecGet e name tag field)))
    is-construct _ h = refl

    pub construct-done : v ≡ after_part (construct_part k) w → Done
    construct-done h = h ∙ sym (ap (λ p. after_part p w) (expr-out k place ∙ is-construct (out-ExprKind k) refl))

-- ---- constructs

started-later : (p : Part) (w u : Walk) → parts_ended_since (start_of w) u ≡ parts_ended_since (start_of (after_part p w)) u
unfolding parts_ended_since after_part
started-later p w u = refl

module _ (k : ExprKind) (w : Walk) (start : Start) (at : start ≡ start_of w) where
  -- what is to be shown of a construct, and of a comprehension or a `try`
  abbrev Built : Walk → Type 0
  Built v = v ≡ after_part (construct_part k) w

  abbrev BuiltLong : Walk → Type 0
  BuiltLong v = v ≡ after_part (long_construct_part k) w

  built-long : (v : Walk) (x : ExprKind) (l : ExprLevel) → k ≡ x → out-ExprKind x ≡ l → v ≡ after_part (long_construct_at l) w → BuiltLong v
  built-long v x l is out h = h ∙ sym (ap (λ o. after_part (long_construct_at o) w) (ap out-ExprKind is ∙ out))

  built : (v : Walk) (x : ExprKind) (l : ExprLevel) → k ≡ x → out-ExprKind x ≡ l → v ≡ after_part (construct_at l) w → Built v
  built v x l is out h = h ∙ sym (ap (λ o. after_part (construct_at o) w) (ap out-ExprKind is ∙ out))

  body-walked : (is s : List (Node ItemKind)) → s ≡ is → (u v : Walk) → u ≡ after_each after_item s w → v ≡ body_ended_since start u → v ≡ after_part (ended_body is) w
  body-walked is s listed u v h ends = ends ∙ ((λ n. body_ended_since (at n) ((h ∙ (ap (λ xs. after_each after_item xs w) listed ∙ items-walked is w)) n)) ∙ body-ended (body_of is) w)

  pub begin-built : (is : List (Node ItemKind)) → k ≡ X.Begin is → (s : List (Node ItemKind)) → s ≡ is → (u v : Walk) → u ≡ after_each after_item s w → v ≡ body_ended_since start u → Built v
  begin-built is kind s listed u v h ends = built v (X.Begin is) (E.Begin is) kind (X.outs-Begin is) (body-walked is s listed u v h ends)

  pub if-built : (cs : List (Node ClauseKind)) → k ≡ X.If cs → (s : List (Node ClauseKind)) → s ≡ cs → (u v : Walk) → u ≡ after_each (after_clause Met) s w → v ≡ parts_ended_since start u → Built v
  if-built cs kind s listed u v h ends =
      built v (X.If cs) (E.If cs) kind (X.outs-If cs)
      (ends ∙ ((λ n. parts_ended_since (at n) ((h ∙ (ap (λ xs. after_each (after_clause Met) xs w) listed ∙ walked-beside (clause_part Met) cs w)) n)) ∙ parts-ended (side_by_side (map (clause_part Met) cs)) w))

  pub fun-built : (cs : List (Node ClauseKind)) → k ≡ X.Fun cs → (s : List (Node ClauseKind)) → s ≡ cs → (u v : Walk) → u ≡ after_each (after_clause Renewed) s w → v ≡ forgotten_since start u → Built v
  fun-built cs kind s listed u v h ends =
      built v (X.Fun cs) (E.Fun cs) kind (X.outs-Fun cs)
      (ends ∙ ((λ n. forgotten_since (at n) ((h ∙ (ap (λ xs. after_each (after_clause Renewed) xs w) listed ∙ walked-beside (clause_part Renewed) cs w)) n)) ∙ parts-forgotten (side_by_side (map (clause_part Renewed) cs)) w))

  -- parts side by side behind a part
  ends-behind : (p q : Part) (x u v : Walk) → x ≡ after_part p w → u ≡ after_beside q x → v ≡ parts_ended_since start u → v ≡ after_part (in_turn (p ∷ q ∷ [])) w
  ends-behind p q x u v first h ends =
      ends ∙ ((λ n. parts_ended_since (at n) ((h ∙ ap (after_beside q) first) n)) ∙ (started-later p w (after_beside q (after_part p w)) ∙ (parts-ended q (after_part p w) ∙ sym (after-in_turn (p ∷ q ∷ []) w))))

  pub case-built : (e : Node ExprKind) (cs : List (Node ClauseKind)) → k ≡ X.Case e cs → (j : ExprKind) → j ≡ e.kind → (x : Walk) → x ≡ after_part (expr_kind_part j e.place) w → (s : List (Node ClauseKind)) → s ≡ cs → (u v : Walk) → u ≡ after_each (after_clause Met) s x → v ≡ parts_ended_since start u → Built v
  case-built e cs kind j same x first s listed u v h ends =
      built v (X.Case e cs) (E.Case e cs) kind (X.outs-Case e cs)
      (ends-behind (expr_part e) (side_by_side (map (clause_part Met) cs)) x u v (first ∙ ap (λ i. after_part (expr_kind_part i e.place) w) same) (h ∙ (ap (λ xs. after_each (after_clause Met) xs x) listed ∙ walked-beside (clause_part Met) cs x)) ends)

  pub try-built : (is : List (Node ItemKind)) (cs : List (Node ClauseKind)) (catches : List (Node CatchKind)) (after : Option (List (Node ItemKind))) → k ≡ X.Try is cs catches after →
      (is' : List (Node ItemKind)) → is' ≡ is → (a : Walk) → a ≡ after_each after_item is' w → (b : Walk) → b ≡ body_ended_since start a →
      (cs' : List (Node ClauseKind)) → cs' ≡ cs → (c : Walk) → c ≡ after_each (after_clause Met) cs' b →
      (catches' : List (Node CatchKind)) → catches' ≡ catches → (d : Walk) → d ≡ after_each after_catch catches' c →
      (u : Walk) → u ≡ after_beside (optional ended_body after) d → (v : Walk) → v ≡ parts_ended_since start u → BuiltLong v
  try-built is cs catches after kind is' items a walked b ended cs' clauses c first catches' caught d second u last v ends =
      built-long v (X.Try is cs catches after) (E.Try is cs catches after) kind (X.outs-Try is cs catches after)
      (ends-behind (ended_body is) (side_by_side (side_by_side (map (clause_part Met) cs) ∷ side_by_side (map catch_node_part catches) ∷ optional ended_body after ∷ [])) b u v (body-walked is is' items a b walked ended)
      (last ∙ (ap (after_beside (optional ended_body after)) (second ∙ ((λ n. after_each after_catch (caught n) ((first ∙ (ap (λ xs. after_each (after_clause Met) xs b) clauses ∙ walked-beside (clause_part Met) cs b)) n)) ∙ walked-beside catch_node_part catches (after_beside (side_by_side (map (clause_part Met) cs)) b)))
      ∙ sym (after-side_by_side (side_by_side (map (clause_part Met) cs) ∷ side_by_side (map catch_node_part catches) ∷ optional ended_body after ∷ []) b))) ends)

  pub comprehension-built : (e : Node ExprKind) (qs : List (Node QualifierKind)) → k ≡ X.Comp e qs → (s : List (Node QualifierKind)) → s ≡ qs → (a : Walk) → a ≡ after_each after_generator s w →
      (j : ExprKind) → j ≡ e.kind → (b : Walk) → b ≡ after_part (expr_kind_part j e.place) a → (c : Walk) → c ≡ head_ended_since start b →
      (s' : List (Node QualifierKind)) → s' ≡ qs → (d : Walk) → d ≡ after_each after_qualifier s' c → (v : Walk) → v ≡ forgotten_since start d → BuiltLong v
  comprehension-built e qs kind s listed a seen j same b walked c headed s' again d qualified v ends =
      built-long v (X.Comp e qs) (E.Comp e qs) kind (X.outs-Comp e qs)
      (ends ∙ ((λ n. forgotten_since (at n) (behind-head n)) ∙ after-comprehension (expr_part e) (map qualifier_step qs) w))
    where
      before-head : c ≡ head_walked (expr_part e) (map qualifier_step qs) w
      before-head = headed ∙ λ n. head_ended_since (at n) ((walked ∙ λ i. after_part (expr_kind_part (same i) e.place) ((seen ∙ (ap (λ xs. after_each after_generator xs w) listed ∙ generators-walked qs w)) i)) n)

      behind-head : d ≡ after_body (body (map qualifier_step qs)) (head_walked (expr_part e) (map qualifier_step qs) w)
      behind-head = qualified ∙ ((λ n. after_each after_qualifier (again n) (before-head n)) ∙ qualifiers-walked qs (head_walked (expr_part e) (map qualifier_step qs) w))

  module _ (not_begin : (is : List (Node ItemKind)) → k ≡ X.Begin is → ⊥) (not_case : (e : Node ExprKind) (cs : List (Node ClauseKind)) → k ≡ X.Case e cs → ⊥) (not_if : (cs : List (Node ClauseKind)) → k ≡ X.If cs → ⊥) (not_fun : (cs : List (Node ClauseKind)) → k ≡ X.Fun cs → ⊥) where
    is-long : (l : ExprLevel) → out-ExprKind k ≡ l → construct_at l ≡ long_construct_at l
    is-long (E.Begin is) h = absurd (not_begin is (kind-is k (E.Begin is) (X.Begin is) h (X.rolls-Begin is)))
    is-long (E.Case e cs) h = absurd (not_case e cs (kind-is k (E.Case e cs) (X.Case e cs) h (X.rolls-Case e cs)))
    is-long (E.If cs) h = absurd (not_if cs (kind-is k (E.If cs) (X.If cs) h (X.rolls-If cs)))
    is-long (E.Fun cs) h = absurd (not_fun cs (kind-is k (E.Fun cs) (X.Fun cs) h (X.rolls-Fun cs)))
    is-long _ h = refl

    pub long-built : (v : Walk) → v ≡ after_part (long_construct_part k) w → Built v
    long-built v h = h ∙ sym (ap (λ p. after_part p w) (is-long (out-ExprKind k) refl))

  module _ (not_comp : (e : Node ExprKind) (qs : List (Node QualifierKind)) → k ≡ X.Comp e qs → ⊥) (not_try : (is : List (Node ItemKind)) (cs : List (Node ClauseKind)) (catches : List (Node CatchKind)) (after : Option (List (Node ItemKind))) → k ≡ X.Try is cs catches after → ⊥) where
    is-nothing : (l : ExprLevel) → out-ExprKind k ≡ l → long_construct_at l ≡ no_part
    is-nothing (E.Comp e qs) h = absurd (not_comp e qs (kind-is k (E.Comp e qs) (X.Comp e qs) h (X.rolls-Comp e qs)))
    is-nothing (E.Try is cs catches after) h = absurd (not_try is cs catches after (kind-is k (E.Try is cs catches after) (X.Try is cs catches after) h (X.rolls-Try is cs catches after)))
    is-nothing _ h = refl

    pub nothing-built : BuiltLong w
    nothing-built = sym (ap (λ p. after_part p w) (is-nothing (out-ExprKind k) refl) ∙ after-no_part w)

-- ---- elements of bodies, and qualifiers

pub step-value : (p : Part) (w : Walk) → after_step (record { pattern = []; binds = []; expression = p }) w ≡ after_part p w
unfolding after_step after_part
step-value p w = refl

pub step-match : (os : List Occurrence) (ms : List Mark) (p : Part) (w : Walk) → after_marks ms (after_part p (after_occurrences os w)) ≡ after_step (record { pattern = os; binds = ms; expression = p }) w
unfolding after_step after_part after_marks after_occurrences
step-match os ms p w = λ j. record {
  scope = record { sees = ms ++ w.scope.sees; ended = p.left ++ w.scope.ended; aside = w.scope.aside };
  found = (append_assoc w.found (all_resolved_in w.scope.sees w.scope.ended os) (all_resolved_in w.scope.sees w.scope.ended p.occurrences) ∙ ap (λ rs. w.found ++ rs) (sym (resolved-append w.scope.sees w.scope.ended os p.occurrences))) j;
}

module _ (w : Walk) (e : Node ExprKind) (j : ExprKind) (same : j ≡ e.kind) where
  module _ (k : ItemKind) where
    pub value-item : (v : Walk) → k ≡ I.Value e → v ≡ after_part (expr_kind_part j e.place) w → v ≡ after_step (item_kind_step k) w
    value-item v is h = h ∙ (ap (λ i. after_part (expr_kind_part i e.place) w) same ∙ (sym (step-value (expr_part e) w) ∙ sym (ap (λ s. after_step s w) (item-out k ∙ ap item_at (ap out-ItemKind is ∙ I.outs-Value e)))))

    pub match-item : (p : Node PatternKind) → k ≡ I.Match p e → (a b v : Walk) → a ≡ after_occurrences (row Met (p ∷ [])) w → b ≡ after_part (expr_kind_part j e.place) a → v ≡ after_marks (row_marks Met (p ∷ [])) b → v ≡ after_step (item_kind_step k) w
    match-item p is a b v found walked seen =
        seen ∙ (ap (after_marks (row_marks Met (p ∷ []))) (walked ∙ λ n. after_part (expr_kind_part (same n) e.place) (found n)) ∙ (step-match (row Met (p ∷ [])) (row_marks Met (p ∷ [])) (expr_part e) w ∙ sym (ap (λ s. after_step s w) (item-out k ∙ ap item_at (ap out-ItemKind is ∙ I.outs-Match p e)))))

  module _ (k : QualifierKind) where
    pub filter-qualifier : (v : Walk) → k ≡ Q.Filter e → v ≡ after_part (expr_kind_part j e.place) w → v ≡ after_step (qualifier_kind_step k) w
    filter-qualifier v is h = h ∙ (ap (λ i. after_part (expr_kind_part i e.place) w) same ∙ (sym (step-value (expr_part e) w) ∙ sym (ap (λ s. after_step s w) (qualifier-out k ∙ ap qualifier_at (ap out-QualifierKind is ∙ Q.outs-Filter e)))))

    pub generator-qualifier : (p : Node PatternKind) → k ≡ Q.Generator p e → (a b v : Walk) → a ≡ after_occurrences (row Renewed (p ∷ [])) w → b ≡ after_part (expr_kind_part j e.place) a → v ≡ after_marks (row_marks Renewed (p ∷ [])) b → v ≡ after_step (qualifier_kind_step k) w
    generator-qualifier p is a b v found walked seen =
        seen ∙ (ap (after_marks (row_marks Renewed (p ∷ []))) (walked ∙ λ n. after_part (expr_kind_part (same n) e.place) (found n)) ∙ (step-match (row Renewed (p ∷ [])) (row_marks Renewed (p ∷ [])) (expr_part e) w ∙ sym (ap (λ s. after_step s w) (qualifier-out k ∙ ap qualifier_at (ap out-QualifierKind is ∙ Q.outs-Generator p e)))))

marks-none : (w : Walk) → after_marks [] w ≡ w
unfolding after_marks
marks-none w = refl

pub generator-seen : (k : QualifierKind) (p : Node PatternKind) (e : Node ExprKind) → k ≡ Q.Generator p e → (w v : Walk) → v ≡ after_marks (row_marks Renewed (p ∷ [])) w → v ≡ after_marks (qualifier_kind_step k).binds w
generator-seen k p e is w v h = h ∙ sym (ap (λ (s : Step). after_marks s.binds w) (qualifier-out k ∙ ap qualifier_at (ap out-QualifierKind is ∙ Q.outs-Generator p e)))

pub filter-seen : (k : QualifierKind) (e : Node ExprKind) → k ≡ Q.Filter e → (w : Walk) → w ≡ after_marks (qualifier_kind_step k).binds w
filter-seen k e is w = sym (ap (λ (s : Step). after_marks s.binds w) (qualifier-out k ∙ ap qualifier_at (ap out-QualifierKind is ∙ Q.outs-Filter e)) ∙ marks-none w)

-- ---- associations

pub association-walked : (k : AssocKind) (w : Walk) (i : ExprKind) → i ≡ (out-AssocKind k).key.kind → (u : Walk) → u ≡ after_part (expr_kind_part i (out-AssocKind k).key.place) w → (j : ExprKind) → j ≡ (out-AssocKind k).value.kind → (v : Walk) → v ≡ after_part (expr_kind_part j (out-AssocKind k).value.place) u → v ≡ after_part (assoc_kind_part k) w
association-walked k w i key u first j value v last =
    last ∙ ((λ n. after_part (expr_kind_part (value n) (out-AssocKind k).value.place) ((first ∙ ap (λ a. after_part (expr_kind_part a (out-AssocKind k).key.place) w) key) n))
    ∙ (sym (after-in_turn (expr_part (out-AssocKind k).key ∷ expr_part (out-AssocKind k).value ∷ []) w) ∙ sym (ap (λ p. after_part p w) (assoc-out k))))

pub association-at : (a k : AssocKind) → k ≡ a → (w : Walk) (i : ExprKind) → i ≡ (out-AssocKind k).key.kind → (u : Walk) → u ≡ after_part (expr_kind_part i (out-AssocKind k).key.place) w → (j : ExprKind) → j ≡ (out-AssocKind k).value.kind → (v : Walk) → v ≡ after_part (expr_kind_part j (out-AssocKind k).value.place) u → v ≡ after_part (assoc_kind_part a) w
association-at a k same w i key u first j value v last = association-walked k w i key u first j value v last ∙ ap (λ x. after_part (assoc_kind_part x) w) same

-- ---- clauses

pub tests-walked : (es : List (Node ExprKind)) (w : Walk) → after_tests es w ≡ after_part (tests_part es) w
tests-walked es w = walked-all expr_part es w

pub guard-walked : (g : Node (List (List (Node ExprKind)))) (ts : List (List (Node ExprKind))) → ts ≡ g.kind → (w v : Walk) → v ≡ after_each after_tests ts w → v ≡ after_part (guard_tests g) w
guard-walked g ts listed w v h = h ∙ (ap (λ xs. after_each after_tests xs w) listed ∙ (each-same after_tests (λ es u. after_part (tests_part es) u) tests-walked g.kind w ∙ walked-all tests_part g.kind w))

above-three : {A : Type 0} (xs ys zs : List A) → above (length zs) (xs ++ (ys ++ zs)) ≡ xs ++ ys
above-three xs ys zs = ap (above (length zs)) (sym (append_assoc xs ys zs)) ∙ above-append (xs ++ ys) zs

below-three : {A : Type 0} (xs ys zs : List A) → below (length zs) (xs ++ (ys ++ zs)) ≡ zs
below-three xs ys zs = ap (below (length zs)) (sym (append_assoc xs ys zs)) ∙ below-append (xs ++ ys) zs

clause-aside : (os : List Occurrence) (ms : List Mark) (g : Part) (b : Body) (w : Walk) → part_aside_since (start_of w) (after_body b (after_part g (after_head os ms w))) ≡ after_beside (clause_from os ms g b) w
unfolding part_aside_since after_body after_part after_head after_beside
clause-aside os ms g b w = λ j. record {
  scope = record { sees = below-three b.binds ms w.scope.sees j; ended = below-three b.left g.left w.scope.ended j; aside = aside j };
  found = found j;
}
  where
    aside : names_of (above (length w.scope.sees) (b.binds ++ (ms ++ w.scope.sees))) ++ (above (length w.scope.ended) (b.left ++ (g.left ++ w.scope.ended)) ++ w.scope.aside) ≡ (names_of (b.binds ++ ms) ++ (b.left ++ g.left)) ++ w.scope.aside
    aside = (λ i. names_of (above-three b.binds ms w.scope.sees i) ++ (above-three b.left g.left w.scope.ended i ++ w.scope.aside)) ∙ sym (append_assoc (names_of (b.binds ++ ms)) (b.left ++ g.left) w.scope.aside)

    inner : all_resolved_in w.scope.sees w.scope.ended (seeing ms (g.occurrences ++ behind g.left b.occurrences)) ≡ all_resolved_in (ms ++ w.scope.sees) w.scope.ended g.occurrences ++ all_resolved_in (ms ++ w.scope.sees) (g.left ++ w.scope.ended) b.occurrences
    inner = resolved-seeing w.scope.sees w.scope.ended ms (g.occurrences ++ behind g.left b.occurrences) ∙ (resolved-append (ms ++ w.scope.sees) w.scope.ended g.occurrences (behind g.left b.occurrences) ∙ ap (λ rs. all_resolved_in (ms ++ w.scope.sees) w.scope.ended g.occurrences ++ rs) (resolved-behind (ms ++ w.scope.sees) w.scope.ended g.left b.occurrences))

    found : ((w.found ++ all_resolved_in w.scope.sees w.scope.ended os) ++ all_resolved_in (ms ++ w.scope.sees) w.scope.ended g.occurrences) ++ all_resolved_in (ms ++ w.scope.sees) (g.left ++ w.scope.ended) b.occurrences
        ≡ w.found ++ all_resolved_in w.scope.sees w.scope.ended (os ++ seeing ms (g.occurrences ++ behind g.left b.occurrences))
    found =
        append_assoc (w.found ++ all_resolved_in w.scope.sees w.scope.ended os) (all_resolved_in (ms ++ w.scope.sees) w.scope.ended g.occurrences) (all_resolved_in (ms ++ w.scope.sees) (g.left ++ w.scope.ended) b.occurrences)
        ∙ (ap (λ rs. (w.found ++ all_resolved_in w.scope.sees w.scope.ended os) ++ rs) (sym inner)
        ∙ (append_assoc w.found (all_resolved_in w.scope.sees w.scope.ended os) (all_resolved_in w.scope.sees w.scope.ended (seeing ms (g.occurrences ++ behind g.left b.occurrences)))
        ∙ ap (λ rs. w.found ++ rs) (sym (resolved-append w.scope.sees w.scope.ended os (seeing ms (g.occurrences ++ behind g.left b.occurrences))))))

pub clause-walked : (k : ClauseKind) (role : Role) (front : List (Node PatternKind)) (w : Walk) (start : Start) → start ≡ start_of w →
    (ps : List (Node PatternKind)) → ps ≡ (out-ClauseKind k).patterns → (a : Walk) → a ≡ after_head (row role (front ++ ps)) (row_marks role (front ++ ps)) w →
    (b : Walk) → b ≡ after_part (optional guard_tests (out-ClauseKind k).guard) a →
    (is : List (Node ItemKind)) → is ≡ (out-ClauseKind k).body → (c : Walk) → c ≡ after_each after_item is b →
    (v : Walk) → v ≡ part_aside_since start c → v ≡ after_beside (clause_kind_part k role front) w
clause-walked k role front w start at ps patterns a head b guard is items c walked v ends =
    ends ∙ ((λ n. part_aside_since (at n) (whole n)) ∙ (clause-aside (row role (front ++ l.patterns)) (row_marks role (front ++ l.patterns)) (optional guard_tests l.guard) (body_of l.body) w ∙ sym (ap (λ p. after_beside p w) (clause-out k role front))))
  where
    l : E.ClauseKind-F ExprKind ItemKind QualifierKind AssocKind CatchKind ClauseKind
    l = out-ClauseKind k

    whole : c ≡ after_body (body_of l.body) (after_part (optional guard_tests l.guard) (after_head (row role (front ++ l.patterns)) (row_marks role (front ++ l.patterns)) w))
    whole =
        walked ∙ ((λ n. after_each after_item (items n) ((guard ∙ ap (after_part (optional guard_tests l.guard)) (head ∙ ap (λ qs. after_head (row role (front ++ qs)) (row_marks role (front ++ qs)) w) patterns)) n))
        ∙ items-walked l.body (after_part (optional guard_tests l.guard) (after_head (row role (front ++ l.patterns)) (row_marks role (front ++ l.patterns)) w)))

pub catch-walked : (k : CatchKind) (w : Walk) (j : ClauseKind) → j ≡ (out-CatchKind k).clause.kind → (v : Walk) → v ≡ after_beside (clause_kind_part j Met (class_patterns (out-CatchKind k).class)) w → v ≡ after_beside (catch_kind_clause k Met []) w
catch-walked k w j same v h = h ∙ (ap (λ i. after_beside (clause_kind_part i Met (class_patterns (out-CatchKind k).class)) w) same ∙ sym (ap (λ p. after_beside p w) (catch-out k Met [])))

pub after-walked : (is s : List (Node ItemKind)) → s ≡ is → (w : Walk) (start : Start) → start ≡ start_of w → (u v : Walk) → u ≡ after_each after_item s w → v ≡ part_aside_since start u → v ≡ after_beside (ended_body is) w
after-walked is s listed w start at u v h ends = ends ∙ ((λ n. part_aside_since (at n) ((h ∙ (ap (λ xs. after_each after_item xs w) listed ∙ items-walked is w)) n)) ∙ body-aside (body_of is) w)

-- a `try` without an `after` part, and one with it
pub without-after : (after : Option (List (Node ItemKind))) → after ≡ None → (w : Walk) → w ≡ after_beside (optional ended_body after) w
without-after after none w = sym (ap (λ o. after_beside (optional ended_body o) w) none ∙ beside-no_part w)

pub with-after : (after : Option (List (Node ItemKind))) (is s : List (Node ItemKind)) → after ≡ Some is → s ≡ is → (w v : Walk) → v ≡ after_beside (ended_body s) w → v ≡ after_beside (optional ended_body after) w
with-after after is s some same w v h = h ∙ (ap (λ xs. after_beside (ended_body xs) w) same ∙ sym (ap (λ o. after_beside (optional ended_body o) w) some))

-- a clause without a guard, and one with it
pub without-guard : (o : Option (Node (List (List (Node ExprKind))))) → o ≡ None → (w : Walk) → w ≡ after_part (optional guard_tests o) w
without-guard o none w = sym (ap (λ g. after_part (optional guard_tests g) w) none ∙ after-no_part w)

pub with-guard : (o : Option (Node (List (List (Node ExprKind))))) (g : Node (List (List (Node ExprKind)))) → o ≡ Some g → (ts : List (List (Node ExprKind))) → ts ≡ g.kind → (w v : Walk) → v ≡ after_each after_tests ts w → v ≡ after_part (optional guard_tests o) w
with-guard o g some ts listed w v h = guard-walked g ts listed w v h ∙ sym (ap (λ x. after_part (optional guard_tests x) w) some)

pub catch-at : (a k : CatchKind) → k ≡ a → (w : Walk) (j : ClauseKind) → j ≡ (out-CatchKind k).clause.kind → (v : Walk) → v ≡ after_beside (clause_kind_part j Met (class_patterns (out-CatchKind k).class)) w → v ≡ after_beside (catch_kind_clause a Met []) w
catch-at a k same w j kind v h = catch-walked k w j kind v h ∙ ap (λ x. after_beside (catch_kind_clause x Met []) w) same
