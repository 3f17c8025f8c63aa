-- How what a pass does is made of what it does at each part.
use Rattle.std.proofs.Common.{◌≡◌, refl, ap, sym, ◌∙◌, ℕ, ◌+◌, ◌-◌, ◌<◌, ◌≤◌, List, [], ◌∷◌, ◌++◌, map, length, take, drop, get_or, append_assoc, append-nil, arith, Bool, true, false}
use Rattle.std.proofs.lemmas.List.{map-append, drop_more, drop_all, length-append}
use Rattle.type_terms.specs.Keys.{Name}
use Rattle.erl_tree.specs.declared.token.Place.{Place}
use Rattle.erl_scope_rules.specs.declared.role.Role.{Role}
use Rattle.erl_scope_rules.specs.declared.resolved.Resolved.{Resolved}
use Rattle.erl_scope_rules.specs.Bindings.{innermost}
use Rattle.erl_scope_rules.specs.ScopeFaults.{stands_among}
use Rattle.erl_scope_rules.specs.Occurrences.{Mark, names_of, Occurrence, Part, no_part, seeing, behind, in_turn, side_by_side, unseen, closed, mark_behind, row_behind, marks_behind, Step, Body, body, whole, qualifiers, generated, comprehension}
use Rattle.erl_scope_rules.specs.Resolution.{resolved_as, resolved_in, all_resolved_in}
use Rattle.erl_scope_stack.specs.State.{above, below}
use Rattle.erl_scope_variables.specs.declared.walk.Walk.{Walk}
use Rattle.erl_scope_variables.specs.declared.rows.Row.{Row}
use Rattle.erl_scope_variables.specs.Walks.{after_each, start_of, body_ended_since, part_aside_since, parts_ended_since, forgotten_since, head_ended_since, after_occurrences, after_part, after_beside, after_step, after_marks, recorded, after_variable, after_row, after_head}

-- ---- what is resolved

pub resolved-append : (sees : List Mark) (ended : List Name) (os ps : List Occurrence) → all_resolved_in sees ended (os ++ ps) ≡ all_resolved_in sees ended os ++ all_resolved_in sees ended ps
resolved-append sees ended os ps = map-append (resolved_in sees ended) os ps

pub resolved-seeing : (sees : List Mark) (ended : List Name) (marks : List Mark) (os : List Occurrence) → all_resolved_in sees ended (seeing marks os) ≡ all_resolved_in (marks ++ sees) ended os
resolved-seeing sees ended marks [] = refl
resolved-seeing sees ended marks (o ∷ os) = λ j. resolved_as o.mark (innermost o.mark.name (append_assoc o.sees marks sees j)) (stands_among o.mark.name (o.ended ++ ended)) ∷ resolved-seeing sees ended marks os j

pub resolved-behind : (sees : List Mark) (ended names : List Name) (os : List Occurrence) → all_resolved_in sees ended (behind names os) ≡ all_resolved_in sees (names ++ ended) os
resolved-behind sees ended names [] = refl
resolved-behind sees ended names (o ∷ os) = λ j. resolved_as o.mark (innermost o.mark.name (o.sees ++ sees)) (stands_among o.mark.name (append_assoc o.ended names ended j)) ∷ resolved-behind sees ended names os j

-- ---- what lies above and below

minus-itself : (n : ℕ) → n - n ≡ 0
minus-itself n = omega arith

take-more : {A : Type 0} (xs ys : List A) → take (length xs) (xs ++ ys) ≡ xs
take-more [] ys = refl
take-more (x ∷ xs) ys = ap (λ zs. x ∷ zs) (take-more xs ys)

drop-more : {A : Type 0} (xs ys : List A) → drop (length xs) (xs ++ ys) ≡ ys
drop-more [] ys = refl
drop-more (x ∷ xs) ys = drop-more xs ys

minus-second : {A : Type 0} (xs ys : List A) → length (xs ++ ys) - length ys ≡ length xs
minus-second {A} xs ys = omega (arith, length-append xs ys)

pub above-append : {A : Type 0} (xs ys : List A) → above (length ys) (xs ++ ys) ≡ xs
above-append xs ys = ap (λ n. take n (xs ++ ys)) (minus-second xs ys) ∙ take-more xs ys

pub below-append : {A : Type 0} (xs ys : List A) → below (length ys) (xs ++ ys) ≡ ys
below-append xs ys = ap (λ n. drop n (xs ++ ys)) (minus-second xs ys) ∙ drop-more xs ys

minus-more : (m n : ℕ) → m ≤ n → m - n ≡ 0
minus-more m n le = omega arith

-- what lies above more than there is
pub above-all : {A : Type 0} (n : ℕ) (xs : List A) → length xs ≤ n → above n xs ≡ []
above-all n xs le = ap (λ m. take m xs) (minus-more (length xs) n le)

pub below-all : {A : Type 0} (n : ℕ) (xs : List A) → length xs ≤ n → below n xs ≡ xs
below-all n xs le = ap (λ m. drop m xs) (minus-more (length xs) n le)

pub below-itself : {A : Type 0} (xs : List A) → below (length xs) xs ≡ xs
below-itself xs = below-append [] xs

-- ---- items in turn

module _ {A : Type 0} (f : A → Walk → Walk) where
  -- what is left to do from an item on
  abbrev pub IsLeft : List A → ℕ → Walk → Walk → Type 0
  IsLeft xs i w first = after_each f (drop i xs) w ≡ after_each f xs first

  pub left-first : (xs : List A) (w : Walk) → IsLeft xs 0 w w
  left-first xs w = refl

  pub left-next : (xs : List A) (i : ℕ) (x : A) (w v first : Walk) → i < length xs → x ≡ get_or xs i x → v ≡ f x w → IsLeft xs i w first → IsLeft xs (i + 1) v first
  left-next xs i x w v first lt is does left =
      ap (λ u. after_each f (drop (i + 1) xs) u) does
      ∙ (sym (ap (λ ys. after_each f ys w) (drop_more xs i x lt ∙ ap (λ y. y ∷ drop (i + 1) xs) (sym is))) ∙ left)

  pub left-last : (xs : List A) (i : ℕ) (w first : Walk) → length xs ≤ i → IsLeft xs i w first → w ≡ after_each f xs first
  left-last xs i w first end left = sym (ap (λ ys. after_each f ys w) (drop_all i xs end)) ∙ left

  pub each-append : (xs ys : List A) (w : Walk) → after_each f (xs ++ ys) w ≡ after_each f ys (after_each f xs w)
  each-append [] ys w = refl
  each-append (x ∷ xs) ys w = each-append xs ys (f x w)

-- ---- parts in turn, and side by side

pub after-no_part : (w : Walk) → after_part no_part w ≡ w
unfolding after_part
after-no_part w = λ j. record { scope = w.scope; found = append-nil w.found j }

pub beside-no_part : (w : Walk) → after_beside no_part w ≡ w
unfolding after_beside
beside-no_part w = λ j. record { scope = w.scope; found = append-nil w.found j }

pub after-one_more : (p : Part) (ps : List Part) (w : Walk) → after_part (in_turn (p ∷ ps)) w ≡ after_part (in_turn ps) (after_part p w)
unfolding after_part
after-one_more p ps w = λ j. record {
  scope = record { sees = w.scope.sees; ended = append_assoc (in_turn ps).left p.left w.scope.ended j; aside = w.scope.aside };
  found = found j;
}
  where
    found : w.found ++ all_resolved_in w.scope.sees w.scope.ended (p.occurrences ++ behind p.left (in_turn ps).occurrences)
        ≡ (w.found ++ all_resolved_in w.scope.sees w.scope.ended p.occurrences) ++ all_resolved_in w.scope.sees (p.left ++ w.scope.ended) (in_turn ps).occurrences
    found =
        ap (λ rs. w.found ++ rs) (resolved-append w.scope.sees w.scope.ended p.occurrences (behind p.left (in_turn ps).occurrences) ∙ ap (λ rs. all_resolved_in w.scope.sees w.scope.ended p.occurrences ++ rs) (resolved-behind w.scope.sees w.scope.ended p.left (in_turn ps).occurrences))
        ∙ sym (append_assoc w.found (all_resolved_in w.scope.sees w.scope.ended p.occurrences) (all_resolved_in w.scope.sees (p.left ++ w.scope.ended) (in_turn ps).occurrences))

pub beside-one_more : (p : Part) (ps : List Part) (w : Walk) → after_beside (side_by_side (p ∷ ps)) w ≡ after_beside (side_by_side ps) (after_beside p w)
unfolding after_beside
beside-one_more p ps w = λ j. record {
  scope = record { sees = w.scope.sees; ended = w.scope.ended; aside = append_assoc (side_by_side ps).left p.left w.scope.aside j };
  found = found j;
}
  where
    found : w.found ++ all_resolved_in w.scope.sees w.scope.ended (p.occurrences ++ (side_by_side ps).occurrences)
        ≡ (w.found ++ all_resolved_in w.scope.sees w.scope.ended p.occurrences) ++ all_resolved_in w.scope.sees w.scope.ended (side_by_side ps).occurrences
    found =
        ap (λ rs. w.found ++ rs) (resolved-append w.scope.sees w.scope.ended p.occurrences (side_by_side ps).occurrences)
        ∙ sym (append_assoc w.found (all_resolved_in w.scope.sees w.scope.ended p.occurrences) (all_resolved_in w.scope.sees w.scope.ended (side_by_side ps).occurrences))

-- parts in turn are walked in turn
pub after-in_turn : (ps : List Part) (w : Walk) → after_part (in_turn ps) w ≡ after_each after_part ps w
after-in_turn [] w = after-no_part w
after-in_turn (p ∷ ps) w = after-one_more p ps w ∙ after-in_turn ps (after_part p w)

pub after-side_by_side : (ps : List Part) (w : Walk) → after_beside (side_by_side ps) w ≡ after_each after_beside ps w
after-side_by_side [] w = beside-no_part w
after-side_by_side (p ∷ ps) w = beside-one_more p ps w ∙ after-side_by_side ps (after_beside p w)

pub each-map : {A B : Type 0} (f : B → Walk → Walk) (g : A → B) (xs : List A) (w : Walk) → after_each f (map g xs) w ≡ after_each (λ x v. f (g x) v) xs w
each-map f g [] w = refl
each-map f g (x ∷ xs) w = each-map f g xs (f (g x) w)

-- ---- constructs

-- several parts side by side, which have ended
pub parts-ended : (p : Part) (w : Walk) → parts_ended_since (start_of w) (after_beside p w) ≡ after_part p w
unfolding parts_ended_since after_beside after_part
parts-ended p w = λ j. record {
  scope = record { sees = w.scope.sees; ended = above-append p.left w.scope.aside j ++ w.scope.ended; aside = below-append p.left w.scope.aside j };
  found = w.found ++ all_resolved_in w.scope.sees w.scope.ended p.occurrences;
}

-- parts that are forgotten
pub parts-forgotten : (p : Part) (w : Walk) → forgotten_since (start_of w) (after_beside p w) ≡ after_part (closed p) w
unfolding forgotten_since after_beside after_part
parts-forgotten p w = λ j. record {
  scope = record { sees = below-itself w.scope.sees j; ended = below-itself w.scope.ended j; aside = below-append p.left w.scope.aside j };
  found = w.found ++ all_resolved_in w.scope.sees w.scope.ended p.occurrences;
}

pub occurrences-beside : (p : Part) (w : Walk) → forgotten_since (start_of w) (after_beside p w) ≡ after_occurrences p.occurrences w
unfolding forgotten_since after_beside after_occurrences
occurrences-beside p w = λ j. record {
  scope = record { sees = below-itself w.scope.sees j; ended = below-itself w.scope.ended j; aside = below-append p.left w.scope.aside j };
  found = w.found ++ all_resolved_in w.scope.sees w.scope.ended p.occurrences;
}

pub occurrences-of_part : (p : Part) (w : Walk) → forgotten_since (start_of w) (after_part p w) ≡ after_occurrences p.occurrences w
unfolding forgotten_since after_part after_occurrences
occurrences-of_part p w = λ j. record {
  scope = record { sees = below-itself w.scope.sees j; ended = below-append p.left w.scope.ended j; aside = below-itself w.scope.aside j };
  found = w.found ++ all_resolved_in w.scope.sees w.scope.ended p.occurrences;
}

pub occurrences-append : (os ps : List Occurrence) (w : Walk) → after_occurrences (os ++ ps) w ≡ after_occurrences ps (after_occurrences os w)
unfolding after_occurrences
occurrences-append os ps w = λ j. record {
  scope = w.scope;
  found = (ap (λ rs. w.found ++ rs) (resolved-append w.scope.sees w.scope.ended os ps) ∙ sym (append_assoc w.found (all_resolved_in w.scope.sees w.scope.ended os) (all_resolved_in w.scope.sees w.scope.ended ps))) j;
}

pub occurrences-none : (w : Walk) → after_occurrences [] w ≡ w
unfolding after_occurrences
occurrences-none w = λ j. record { scope = w.scope; found = append-nil w.found j }

-- ---- bodies

-- all steps of a body
unfoldable pub after_body : Body → Walk → Walk
after_body b w = record {
  scope = record { sees = b.binds ++ w.scope.sees; ended = b.left ++ w.scope.ended; aside = w.scope.aside };
  found = w.found ++ all_resolved_in w.scope.sees w.scope.ended b.occurrences;
}

body-none : (w : Walk) → after_body (body []) w ≡ w
unfolding after_body
body-none w = λ j. record { scope = w.scope; found = append-nil w.found j }

abbrev own_found : Step → Walk → List Resolved
own_found s w = all_resolved_in w.scope.sees w.scope.ended (s.pattern ++ s.expression.occurrences)

abbrev others_found : Step → List Step → Walk → List Resolved
others_found s ss w = all_resolved_in (s.binds ++ w.scope.sees) (s.expression.left ++ w.scope.ended) (body ss).occurrences

body-one_more : (s : Step) (ss : List Step) (w : Walk) → after_body (body (s ∷ ss)) w ≡ after_body (body ss) (after_step s w)
unfolding after_body after_step
body-one_more s ss w = λ j. record {
  scope = record { sees = append_assoc (body ss).binds s.binds w.scope.sees j; ended = append_assoc (body ss).left s.expression.left w.scope.ended j; aside = w.scope.aside };
  found = found j;
}
  where
    found : w.found ++ all_resolved_in w.scope.sees w.scope.ended (s.pattern ++ (s.expression.occurrences ++ behind s.expression.left (seeing s.binds (body ss).occurrences))) ≡ (w.found ++ own_found s w) ++ others_found s ss w
    found =
        ap (λ os. w.found ++ all_resolved_in w.scope.sees w.scope.ended os) (sym (append_assoc s.pattern s.expression.occurrences (behind s.expression.left (seeing s.binds (body ss).occurrences))))
        ∙ (ap (λ rs. w.found ++ rs) (resolved-append w.scope.sees w.scope.ended (s.pattern ++ s.expression.occurrences) (behind s.expression.left (seeing s.binds (body ss).occurrences)))
        ∙ (ap (λ rs. w.found ++ (own_found s w ++ rs)) (resolved-behind w.scope.sees w.scope.ended s.expression.left (seeing s.binds (body ss).occurrences) ∙ resolved-seeing w.scope.sees (s.expression.left ++ w.scope.ended) s.binds (body ss).occurrences)
        ∙ sym (append_assoc w.found (own_found s w) (others_found s ss w))))

pub after-steps : (ss : List Step) (w : Walk) → after_body (body ss) w ≡ after_each after_step ss w
after-steps [] w = body-none w
after-steps (s ∷ ss) w = body-one_more s ss w ∙ after-steps ss (after_step s w)

-- a body that has ended
pub body-ended : (b : Body) (w : Walk) → body_ended_since (start_of w) (after_body b w) ≡ after_part (whole b) w
unfolding body_ended_since after_body after_part
body-ended b w = λ j. record {
  scope = record { sees = below-append b.binds w.scope.sees j; ended = (ap (λ ms. names_of ms ++ (b.left ++ w.scope.ended)) (above-append b.binds w.scope.sees) ∙ sym (append_assoc (names_of b.binds) b.left w.scope.ended)) j; aside = w.scope.aside };
  found = w.found ++ all_resolved_in w.scope.sees w.scope.ended b.occurrences;
}

-- one that stands beside other parts
pub body-aside : (b : Body) (w : Walk) → part_aside_since (start_of w) (after_body b w) ≡ after_beside (whole b) w
unfolding part_aside_since after_body after_beside
body-aside b w = λ j. record {
  scope = record {
    sees = below-append b.binds w.scope.sees j;
    ended = below-append b.left w.scope.ended j;
    aside = ((λ i. names_of (above-append b.binds w.scope.sees i) ++ (above-append b.left w.scope.ended i ++ w.scope.aside)) ∙ sym (append_assoc (names_of b.binds) b.left w.scope.aside)) j;
  };
  found = w.found ++ all_resolved_in w.scope.sees w.scope.ended b.occurrences;
}

-- ---- comprehensions

qualifiers-body : (ss : List Step) → (body ss).occurrences ≡ qualifiers ss
qualifiers-body [] = refl
qualifiers-body (s ∷ ss) = λ j. s.pattern ++ (s.expression.occurrences ++ behind s.expression.left (seeing s.binds (qualifiers-body ss j)))

generated-body : (ss : List Step) → (body ss).binds ≡ generated ss
generated-body [] = refl
generated-body (s ∷ ss) = λ j. generated-body ss j ++ s.binds

-- the variables of all generators
pub after-generated : (ss : List Step) (w : Walk) → after_marks (generated ss) w ≡ after_each (λ s v. after_marks s.binds v) ss w
unfolding after_marks
after-generated [] w = refl
after-generated (s ∷ ss) w = (λ j. record { scope = record { sees = append_assoc (generated ss) s.binds w.scope.sees j; ended = w.scope.ended; aside = w.scope.aside }; found = w.found }) ∙ after-generated ss (after_marks s.binds w)

below-both : {A : Type 0} (xs ys zs : List A) → below (length zs) (xs ++ (ys ++ zs)) ≡ zs
below-both xs ys zs = ap (below (length zs)) (sym (append_assoc xs ys zs)) ∙ below-append (xs ++ ys) zs

-- a comprehension: its head, and then its qualifiers
abbrev pub head_walked : Part → List Step → Walk → Walk
head_walked head ss w = head_ended_since (start_of w) (after_part head (after_marks (generated ss) w))

pub after-comprehension : (head : Part) (ss : List Step) (w : Walk) → forgotten_since (start_of w) (after_body (body ss) (head_walked head ss w)) ≡ after_part (comprehension head ss) w
unfolding forgotten_since head_ended_since after_body after_part after_marks
after-comprehension head ss w = λ j. record {
  scope = record { sees = sees j; ended = ended j; aside = below-itself w.scope.aside j };
  found = found j;
}
  where
    marks : below (length w.scope.sees) (generated ss ++ w.scope.sees) ≡ w.scope.sees
    marks = below-append (generated ss) w.scope.sees

    sees : below (length w.scope.sees) ((body ss).binds ++ below (length w.scope.sees) (generated ss ++ w.scope.sees)) ≡ w.scope.sees
    sees = ap (λ ms. below (length w.scope.sees) ((body ss).binds ++ ms)) marks ∙ below-append (body ss).binds w.scope.sees

    names : unseen (above (length w.scope.sees) (generated ss ++ w.scope.sees)) (above (length w.scope.ended) (head.left ++ w.scope.ended)) ++ below (length w.scope.ended) (head.left ++ w.scope.ended) ≡ unseen (generated ss) head.left ++ w.scope.ended
    names = λ i. unseen (above-append (generated ss) w.scope.sees i) (above-append head.left w.scope.ended i) ++ below-append head.left w.scope.ended i

    ended : below (length w.scope.ended) ((body ss).left ++ (unseen (above (length w.scope.sees) (generated ss ++ w.scope.sees)) (above (length w.scope.ended) (head.left ++ w.scope.ended)) ++ below (length w.scope.ended) (head.left ++ w.scope.ended))) ≡ w.scope.ended
    ended = ap (λ ns. below (length w.scope.ended) ((body ss).left ++ ns)) names ∙ below-both (body ss).left (unseen (generated ss) head.left) w.scope.ended

    found : (w.found ++ all_resolved_in (generated ss ++ w.scope.sees) w.scope.ended head.occurrences)
        ++ all_resolved_in (below (length w.scope.sees) (generated ss ++ w.scope.sees)) (unseen (above (length w.scope.sees) (generated ss ++ w.scope.sees)) (above (length w.scope.ended) (head.left ++ w.scope.ended)) ++ below (length w.scope.ended) (head.left ++ w.scope.ended)) (body ss).occurrences
        ≡ w.found ++ all_resolved_in w.scope.sees w.scope.ended (seeing (generated ss) head.occurrences ++ behind (unseen (generated ss) head.left) (qualifiers ss))
    found =
        (λ i. (w.found ++ sym (resolved-seeing w.scope.sees w.scope.ended (generated ss) head.occurrences) i) ++ all_resolved_in (marks i) (names i) (qualifiers-body ss i))
        ∙ ((λ i. (w.found ++ all_resolved_in w.scope.sees w.scope.ended (seeing (generated ss) head.occurrences)) ++ sym (resolved-behind w.scope.sees w.scope.ended (unseen (generated ss) head.left) (qualifiers ss)) i)
        ∙ (append_assoc w.found (all_resolved_in w.scope.sees w.scope.ended (seeing (generated ss) head.occurrences)) (all_resolved_in w.scope.sees w.scope.ended (behind (unseen (generated ss) head.left) (qualifiers ss)))
        ∙ ap (λ rs. w.found ++ rs) (sym (resolved-append w.scope.sees w.scope.ended (seeing (generated ss) head.occurrences) (behind (unseen (generated ss) head.left) (qualifiers ss))))))

-- ---- rows of patterns

-- a row that begins anew
abbrev pub row_of : Role → Bool → Walk → Row
row_of role records w = record { role = role; start = length w.scope.sees; records = records }

-- what is found of a row
abbrev row_found : Bool → Role → List Mark → List (Name × Place) → List Mark → List Name → List Resolved
row_found true role before vs sees ended = all_resolved_in sees ended (row_behind role before vs)
row_found false role before vs sees ended = []

abbrev row_walked : Role → Bool → List Mark → List (Name × Place) → Walk → Walk
row_walked role records before vs w = record {
  scope = record { sees = marks_behind role before vs ++ w.scope.sees; ended = w.scope.ended; aside = w.scope.aside };
  found = w.found ++ row_found records role before vs w.scope.sees w.scope.ended;
}

found-more : (records : Bool) (role : Role) (before : List Mark) (v : Name × Place) (vs : List (Name × Place)) (sees : List Mark) (ended : List Name) →
    recorded records (resolved_as (mark_behind role before v) (innermost v.0 (before ++ sees)) (stands_among v.0 ended)) ++ row_found records role (mark_behind role before v ∷ before) vs sees ended
    ≡ row_found records role before (v ∷ vs) sees ended
found-more true role before v vs sees ended = refl
found-more false role before v vs sees ended = refl

found-none : (records : Bool) (role : Role) (before : List Mark) (sees : List Mark) (ended : List Name) → row_found records role before [] sees ended ≡ []
found-none true role before sees ended = refl
found-none false role before sees ended = refl

-- the row that goes on behind these variables of it
row-from : (role : Role) (records : Bool) (vs : List (Name × Place)) (before : List Mark) (w : Walk) (found : List Resolved) →
    after_each (after_variable (row_of role records w)) vs (record { scope = record { sees = before ++ w.scope.sees; ended = w.scope.ended; aside = w.scope.aside }; found = found })
    ≡ record { scope = record { sees = marks_behind role before vs ++ w.scope.sees; ended = w.scope.ended; aside = w.scope.aside }; found = found ++ row_found records role before vs w.scope.sees w.scope.ended }
row-from role records [] before w found = λ j. record { scope = record { sees = before ++ w.scope.sees; ended = w.scope.ended; aside = w.scope.aside }; found = (sym (append-nil found) ∙ ap (λ rs. found ++ rs) (sym (found-none records role before w.scope.sees w.scope.ended))) j }
row-from role records (v ∷ vs) before w found =
    (λ j. after_each (after_variable (row_of role records w)) vs (record {
      scope = record { sees = mark_behind role (above-append before w.scope.sees j) v ∷ (before ++ w.scope.sees); ended = w.scope.ended; aside = w.scope.aside };
      found = found ++ recorded records (resolved_as (mark_behind role (above-append before w.scope.sees j) v) (innermost v.0 (before ++ w.scope.sees)) (stands_among v.0 w.scope.ended));
    }))
    ∙ (row-from role records vs (mark_behind role before v ∷ before) w (found ++ recorded records (resolved_as (mark_behind role before v) (innermost v.0 (before ++ w.scope.sees)) (stands_among v.0 w.scope.ended)))
    ∙ λ j. record {
      scope = record { sees = marks_behind role before (v ∷ vs) ++ w.scope.sees; ended = w.scope.ended; aside = w.scope.aside };
      found = (append_assoc found (recorded records (resolved_as (mark_behind role before v) (innermost v.0 (before ++ w.scope.sees)) (stands_among v.0 w.scope.ended))) (row_found records role (mark_behind role before v ∷ before) vs w.scope.sees w.scope.ended) ∙ ap (λ rs. found ++ rs) (found-more records role before v vs w.scope.sees w.scope.ended)) j;
    })

-- a row that is recorded
pub after-row : (role : Role) (vs : List (Name × Place)) (w : Walk) → after_row (row_of role true w) vs w ≡ after_head (row_behind role [] vs) (marks_behind role [] vs) w
unfolding after_row after_head
after-row role vs w = row-from role true vs [] w w.found

-- one that is only seen
pub after-row_seen : (role : Role) (vs : List (Name × Place)) (w : Walk) → after_row (row_of role false w) vs w ≡ after_marks (marks_behind role [] vs) w
unfolding after_row after_marks
after-row_seen role vs w = row-from role false vs [] w w.found ∙ λ j. record {
  scope = record { sees = marks_behind role [] vs ++ w.scope.sees; ended = w.scope.ended; aside = w.scope.aside };
  found = append-nil w.found j;
}
