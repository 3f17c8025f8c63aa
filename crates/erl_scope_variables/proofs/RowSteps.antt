-- What a pass does at patterns, by their forms.
use Rattle.std.proofs.Common.{◌≡◌, refl, ap, sym, ◌∙◌, List, [], ◌∷◌, ◌++◌, append-nil, Bool, true, false}
use Rattle.std.specs.Prelude.{Option, Some, None, if◌then◌else◌}
use Rattle.type_terms.specs.Keys.{Name}
use Rattle.erl_tree.specs.declared.token.Place.{Place}
use Rattle.erl_tree.specs.declared.token.Node.{Node}
use Rattle.erl_tree.specs.declared.pattern.LiteralKind.{LiteralKind}
use Rattle.erl_tree.specs.declared.pattern.PatternKind.{PatternKind, out-PatternKind, roll-PatternKind, roll-out-PatternKind}
use Rattle.erl_tree.specs.declared.pattern.PatternKind.TheVariants as Y
use Rattle.erl_tree.specs.declared.pattern.PatternKind.TheOpen as P
use Rattle.erl_runs.specs.Names.{is_wildcard}
use Rattle.erl_scope_rules.specs.declared.role.Role.{Role}
use Rattle.erl_scope_rules.specs.Occurrences.{Mark, Occurrence, variables_of_each, pattern_kind_variables, variables_of, row_variables, row, row_marks}
use Rattle.erl_scope_variables.specs.declared.walk.Walk.{Walk}
use Rattle.erl_scope_variables.specs.declared.walk.Start.{Start}
use Rattle.erl_scope_variables.specs.declared.rows.Row.{Row}
use Rattle.erl_scope_variables.specs.Nodes.{entry_variables, field_variables, optional_variables}
use Rattle.erl_scope_variables.specs.Walks.{after_each, start_of, unseen_since, after_occurrences, after_marks, after_variable, after_row, after_pattern, after_entry, after_pattern_field, after_head}
use Rattle.erl_scope_variables.proofs.PartLevels.{variables_at, variables-out}
use Rattle.erl_scope_variables.proofs.WalkLaws.{each-append, below-append, row_of, after-row, after-row_seen}

pub row-append : (r : Row) (vs us : List (Name × Place)) (w : Walk) → after_row r (vs ++ us) w ≡ after_row r us (after_row r vs w)
unfolding after_row
row-append r vs us w = each-append (after_variable r) vs us w

row-none : (r : Row) (w : Walk) → after_row r [] w ≡ w
unfolding after_row
row-none r w = refl

row-one : (r : Row) (v : Name × Place) (w : Walk) → after_row r (v ∷ []) w ≡ after_variable r v w
unfolding after_row
row-one r v w = refl

-- the variables of items, in turn
pub row-each : {A : Type 0} (r : Row) (f : A → List (Name × Place)) (xs : List A) (w : Walk) → after_row r (variables_of_each f xs) w ≡ after_each (λ x v. after_row r (f x) v) xs w
row-each r f [] w = row-none r w
row-each r f (x ∷ xs) w = row-append r (f x) (variables_of_each f xs) w ∙ row-each r f xs (after_row r (f x) w)

-- ---- patterns

module _ (k : PatternKind) (place : Place) (r : Row) (w v : Walk) where
  -- what is to be shown of a pattern
  abbrev Done : Type 0
  Done = v ≡ after_row r (pattern_kind_variables k place) w

  done : (x : PatternKind) (l : P.PatternKind-F PatternKind) → k ≡ x → out-PatternKind x ≡ l → v ≡ after_row r (variables_at l place) w → Done
  done x l is out h = h ∙ sym (ap (λ vs. after_row r vs w) (variables-out k place ∙ ap (λ o. variables_at o place) (ap out-PatternKind is ∙ out)))

  -- the variables of a variable's name
  abbrev named : Bool → Name → List (Name × Place)
  named b x = if b then [] else (x, place) ∷ []

  pub wildcard-done : (x : Name) → k ≡ Y.Var x → (b : Bool) → b ≡ is_wildcard x → b ≡ true → v ≡ w → Done
  wildcard-done x is b e h same = done (Y.Var x) (P.Var x) is (Y.outs-Var x) (same ∙ sym (ap (λ vs. after_row r vs w) (ap (λ a. named a x) (sym e ∙ h)) ∙ row-none r w))

  pub variable-done : (x : Name) → k ≡ Y.Var x → (b : Bool) → b ≡ is_wildcard x → b ≡ false → v ≡ after_variable r (x, place) w → Done
  variable-done x is b e h met = done (Y.Var x) (P.Var x) is (Y.outs-Var x) (met ∙ sym (ap (λ vs. after_row r vs w) (ap (λ a. named a x) (sym e ∙ h)) ∙ row-one r (x, place) w))

  pub paren-done : (p : Node PatternKind) → k ≡ Y.Paren p → (j : PatternKind) → j ≡ p.kind → v ≡ after_row r (pattern_kind_variables j p.place) w → Done
  paren-done p is j same h = done (Y.Paren p) (P.Paren p) is (Y.outs-Paren p) (h ∙ ap (λ i. after_row r (pattern_kind_variables i p.place) w) same)

  pub tuple-done : (ps : List (Node PatternKind)) → k ≡ Y.Tuple ps → (s : List (Node PatternKind)) → s ≡ ps → v ≡ after_each (after_pattern r) s w → Done
  tuple-done ps is s same h = done (Y.Tuple ps) (P.Tuple ps) is (Y.outs-Tuple ps) (h ∙ (ap (λ qs. after_each (after_pattern r) qs w) same ∙ sym (row-each r variables_of ps w)))

  module _ (ps : List (Node PatternKind)) (tail : Option (Node PatternKind)) (is : k ≡ Y.Cells ps tail) (s : List (Node PatternKind)) (same : s ≡ ps) (u : Walk) (first : u ≡ after_each (after_pattern r) s w) where
    pub list-done : tail ≡ None → v ≡ u → Done
    list-done none h =
        done (Y.Cells ps tail) (P.Cells ps tail) is (Y.outs-Cells ps tail)
        (h ∙ (first ∙ (ap (λ qs. after_each (after_pattern r) qs w) same ∙ (sym (row-each r variables_of ps w) ∙ ap (λ vs. after_row r vs w) (sym (append-nil (row_variables ps)) ∙ ap (λ o. row_variables ps ++ optional_variables o) (sym none))))))

    pub cells-done : (t : Node PatternKind) → tail ≡ Some t → (j : PatternKind) → j ≡ t.kind → v ≡ after_row r (pattern_kind_variables j t.place) u → Done
    cells-done t some j kind h =
        done (Y.Cells ps tail) (P.Cells ps tail) is (Y.outs-Cells ps tail)
        (h ∙ ((λ i. after_row r (pattern_kind_variables (kind i) t.place) ((first ∙ (ap (λ qs. after_each (after_pattern r) qs w) same ∙ sym (row-each r variables_of ps w))) i))
        ∙ (sym (row-append r (row_variables ps) (variables_of t) w) ∙ ap (λ o. after_row r (row_variables ps ++ optional_variables o) w) (sym some))))

  pub map-done : (es : List (Node (Node LiteralKind × Node PatternKind))) → k ≡ Y.Map es → (s : List (Node (Node LiteralKind × Node PatternKind))) → s ≡ es → v ≡ after_each (after_entry r) s w → Done
  map-done es is s same h = done (Y.Map es) (P.Map es) is (Y.outs-Map es) (h ∙ (ap (λ qs. after_each (after_entry r) qs w) same ∙ sym (row-each r entry_variables es w)))

  pub record-done : (name tag : Name) (fs : List (Node (Name × Node PatternKind))) → k ≡ Y.Rec name tag fs → (s : List (Node (Name × Node PatternKind))) → s ≡ fs → v ≡ after_each (after_pattern_field r) s w → Done
  record-done name tag fs is s same h = done (Y.Rec name tag fs) (P.Rec name tag fs) is (Y.outs-Rec name tag fs) (h ∙ (ap (λ qs. after_each (after_pattern_field r) qs w) same ∙ sym (row-each r field_variables fs w)))

  pub alias-done : (p q : Node PatternKind) → k ≡ Y.Alias p q → (i : PatternKind) → i ≡ p.kind → (u : Walk) → u ≡ after_row r (pattern_kind_variables i p.place) w → (j : PatternKind) → j ≡ q.kind → v ≡ after_row r (pattern_kind_variables j q.place) u → Done
  alias-done p q is i left u first j right h =
      done (Y.Alias p q) (P.Alias p q) is (Y.outs-Alias p q)
      (h ∙ ((λ n. after_row r (pattern_kind_variables (right n) q.place) ((first ∙ ap (λ a. after_row r (pattern_kind_variables a p.place) w) left) n)) ∙ sym (row-append r (variables_of p) (variables_of q) w)))

  -- a pattern of none of these forms has no variables
  module _ (no_variable : (x : Name) → k ≡ Y.Var x → ⊥) (no_paren : (p : Node PatternKind) → k ≡ Y.Paren p → ⊥) (no_tuple : (ps : List (Node PatternKind)) → k ≡ Y.Tuple ps → ⊥) (no_cells : (ps : List (Node PatternKind)) (o : Option (Node PatternKind)) → k ≡ Y.Cells ps o → ⊥) (no_map : (es : List (Node (Node LiteralKind × Node PatternKind))) → k ≡ Y.Map es → ⊥) (no_record : (name tag : Name) (fs : List (Node (Name × Node PatternKind))) → k ≡ Y.Rec name tag fs → ⊥) (no_alias : (p q : Node PatternKind) → k ≡ Y.Alias p q → ⊥) where
    kind-is : (l : P.PatternKind-F PatternKind) (x : PatternKind) → out-PatternKind k ≡ l → roll-PatternKind l ≡ x → k ≡ x
    kind-is l x e rolls = sym (roll-out-PatternKind k) ∙ (ap roll-PatternKind e ∙ rolls)

    no-variables : (l : P.PatternKind-F PatternKind) → out-PatternKind k ≡ l → variables_at l place ≡ []
    no-variables (P.Var x) e = absurd (no_variable x (kind-is (P.Var x) (Y.Var x) e (Y.rolls-Var x)))
    no-variables (P.Paren p) e = absurd (no_paren p (kind-is (P.Paren p) (Y.Paren p) e (Y.rolls-Paren p)))
    no-variables (P.Tuple ps) e = absurd (no_tuple ps (kind-is (P.Tuple ps) (Y.Tuple ps) e (Y.rolls-Tuple ps)))
    no-variables (P.Cells ps o) e = absurd (no_cells ps o (kind-is (P.Cells ps o) (Y.Cells ps o) e (Y.rolls-Cells ps o)))
    no-variables (P.Map es) e = absurd (no_map es (kind-is (P.Map es) (Y.Map es) e (Y.rolls-Map es)))
    no-variables (P.Rec name tag fs) e = absurd (no_record name tag fs (kind-is (P.Rec name tag fs) (Y.Rec name tag fs) e (Y.rolls-Rec name tag fs)))
    no-variables (P.Alias p q) e = absurd (no_alias p q (kind-is (P.Alias p q) (Y.Alias p q) e (Y.rolls-Alias p q)))
    no-variables _ e = refl

    pub plain-done : v ≡ w → Done
    plain-done same = same ∙ sym (ap (λ vs. after_row r vs w) (variables-out k place ∙ no-variables (out-PatternKind k) refl) ∙ row-none r w)

-- ---- rows

unseen-head : (os : List Occurrence) (ms : List Mark) (w : Walk) → unseen_since (start_of w) (after_head os ms w) ≡ after_occurrences os w
unfolding unseen_since after_head after_occurrences
unseen-head os ms w = λ j. record { scope = record { sees = below-append ms w.scope.sees j; ended = w.scope.ended; aside = w.scope.aside }; found = (after_occurrences os w).found }

module _ (role : Role) (w : Walk) (start : Start) (at : start ≡ start_of w) where
  -- the row that begins here
  abbrev pub row_here : Bool → Row
  row_here records = record { role = role; start = start.seen; records = records }

  row-begins : (records : Bool) → row_here records ≡ row_of role records w
  row-begins records = λ j. record { role = role; start = (at j).seen; records = records }

  module _ (p : Node PatternKind) (j : PatternKind) (kind : j ≡ p.kind) where
    of-pattern : (records : Bool) → after_row (row_here records) (pattern_kind_variables j p.place) w ≡ after_row (row_of role records w) (row_variables (p ∷ [])) w
    of-pattern records = (λ n. after_row (row_begins_at n) (pattern_kind_variables (kind n) p.place) w) ∙ ap (λ vs. after_row (row_of role records w) vs w) (sym (append-nil (variables_of p)))
      where
        row_begins_at : row_here records ≡ row_of role records w
        row_begins_at = row-begins records

    pub pattern-found : (v u : Walk) → v ≡ after_row (row_here true) (pattern_kind_variables j p.place) w → u ≡ unseen_since start v → u ≡ after_occurrences (row role (p ∷ [])) w
    pattern-found v u walked back = back ∙ ((λ n. unseen_since (at n) ((walked ∙ (of-pattern true ∙ after-row role (row_variables (p ∷ [])) w)) n)) ∙ unseen-head (row role (p ∷ [])) (row_marks role (p ∷ [])) w)

    pub pattern-seen : (v : Walk) → v ≡ after_row (row_here false) (pattern_kind_variables j p.place) w → v ≡ after_marks (row_marks role (p ∷ [])) w
    pattern-seen v walked = walked ∙ (of-pattern false ∙ after-row_seen role (row_variables (p ∷ [])) w)

  pub head-read : (front ps : List (Node PatternKind)) (u v : Walk) → u ≡ after_each (after_pattern (row_here true)) front w → v ≡ after_each (after_pattern (row_here true)) ps u → v ≡ after_head (row role (front ++ ps)) (row_marks role (front ++ ps)) w
  head-read front ps u v first last =
      last ∙ (ap (λ x. after_each (after_pattern (row_here true)) ps x) first ∙ (sym (each-append (after_pattern (row_here true)) front ps w)
      ∙ ((λ n. after_each (after_pattern (row-begins true n)) (front ++ ps) w) ∙ (sym (row-each (row_of role true w) variables_of (front ++ ps) w) ∙ after-row role (row_variables (front ++ ps)) w))))
