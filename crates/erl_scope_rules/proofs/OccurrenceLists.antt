-- Lists of variables, occurrences and faults, joined: what code needs that goes through a tree from left to right.
use Rattle.std.proofs.Common.{◌≡◌, refl, ap, sym, ◌∙◌, List, [], ◌∷◌, ◌++◌, Bool, true, false, append_assoc}
use Rattle.std.specs.Prelude.{cond}
use Rattle.std.proofs.lemmas.List.{map-append}
use Rattle.type_terms.specs.Keys.{Name}
use Rattle.erl_tree.specs.declared.token.Place.{Place}
use Rattle.erl_scope_rules.specs.declared.fault.PlacedFault.{PlacedFault}
use Rattle.erl_scope_rules.specs.declared.role.Role.{Role}
use Rattle.erl_scope_rules.specs.Occurrences.{Mark, Occurrence, seeing, behind, variables_of_each, mark_behind, row_behind, marks_behind}
use Rattle.erl_scope_rules.specs.Bindings.{is_binding, bindings_in}
use Rattle.erl_scope_rules.specs.ScopeFaults.{faults_of_each}

-- ---- occurrences

pub seeing-append : (marks : List Mark) (os ps : List Occurrence) → seeing marks (os ++ ps) ≡ seeing marks os ++ seeing marks ps
seeing-append marks os ps = map-append (λ o. record { mark = o.mark; sees = o.sees ++ marks; ended = o.ended }) os ps

pub behind-append : (names : List Name) (os ps : List Occurrence) → behind names (os ++ ps) ≡ behind names os ++ behind names ps
behind-append names os ps = map-append (λ o. record { mark = o.mark; sees = o.sees; ended = o.ended ++ names }) os ps

pub seeing-seeing : (outer inner : List Mark) (os : List Occurrence) → seeing outer (seeing inner os) ≡ seeing (inner ++ outer) os
seeing-seeing outer inner [] = refl
seeing-seeing outer inner (o ∷ os) = λ j. record { mark = o.mark; sees = append_assoc o.sees inner outer j; ended = o.ended } ∷ seeing-seeing outer inner os j

pub behind-behind : (outer inner : List Name) (os : List Occurrence) → behind outer (behind inner os) ≡ behind (inner ++ outer) os
behind-behind outer inner [] = refl
behind-behind outer inner (o ∷ os) = λ j. record { mark = o.mark; sees = o.sees; ended = append_assoc o.ended inner outer j } ∷ behind-behind outer inner os j

pub seeing-behind : (seen : List Mark) (ended : List Name) (os : List Occurrence) → seeing seen (behind ended os) ≡ behind ended (seeing seen os)
seeing-behind seen ended [] = refl
seeing-behind seen ended (o ∷ os) = ap (λ ps. record { mark = o.mark; sees = o.sees ++ seen; ended = o.ended ++ ended } ∷ ps) (seeing-behind seen ended os)

pub ruleset occurrence_list_laws = (seeing-append, behind-append, seeing-seeing, behind-behind, seeing-behind)

-- ---- variables, rows, bindings and faults

pub variables_of_each-append : {A : Type 0} (of : A → List (Name × Place)) (xs ys : List A) → variables_of_each of (xs ++ ys) ≡ variables_of_each of xs ++ variables_of_each of ys
variables_of_each-append of [] ys = refl
variables_of_each-append of (x ∷ xs) ys = ap (λ vs. of x ++ vs) (variables_of_each-append of xs ys) ∙ sym (append_assoc (of x) (variables_of_each of xs) (variables_of_each of ys))

pub faults_of_each-append : {A : Type 0} (of : A → List PlacedFault) (xs ys : List A) → faults_of_each of (xs ++ ys) ≡ faults_of_each of xs ++ faults_of_each of ys
faults_of_each-append of [] ys = refl
faults_of_each-append of (x ∷ xs) ys = ap (λ fs. of x ++ fs) (faults_of_each-append of xs ys) ∙ sym (append_assoc (of x) (faults_of_each of xs) (faults_of_each of ys))

-- what holds of both that a test chooses between
cond-through : {A B : Type 0} (f : A → B) (b : Bool) (x y : A) (u v : B) → u ≡ f x → v ≡ f y → cond b u v ≡ f (cond b x y)
cond-through f true x y u v h k = h
cond-through f false x y u v h k = k

pub marks_behind-append : (role : Role) (before : List Mark) (vs ws : List (Name × Place)) → marks_behind role before (vs ++ ws) ≡ marks_behind role (marks_behind role before vs) ws
marks_behind-append role before [] ws = refl
marks_behind-append role before (v ∷ vs) ws = marks_behind-append role (mark_behind role before v ∷ before) vs ws

pub row_behind-append : (role : Role) (before : List Mark) (vs ws : List (Name × Place)) → row_behind role before (vs ++ ws) ≡ row_behind role before vs ++ row_behind role (marks_behind role before vs) ws
row_behind-append role before [] ws = refl
row_behind-append role before (v ∷ vs) ws = ap (λ os. record { mark = mark_behind role before v; sees = before; ended = [] } ∷ os) (row_behind-append role (mark_behind role before v ∷ before) vs ws)

pub bindings_in-append : (os ps : List Occurrence) → bindings_in (os ++ ps) ≡ bindings_in os ++ bindings_in ps
bindings_in-append [] ps = refl
bindings_in-append (o ∷ os) ps = cond-through (λ ms. ms ++ bindings_in ps) (is_binding o) _ _ _ _ (ap (λ ms. o.mark ∷ ms) (bindings_in-append os ps)) (bindings_in-append os ps)

pub ruleset joined_laws = (variables_of_each-append, faults_of_each-append, marks_behind-append, row_behind-append, bindings_in-append)
