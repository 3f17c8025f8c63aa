-- Variables that a part uses and that what stands around it has: where they are there for a whole, they are there for its parts, together with what the patterns between them bind.
use Rattle.std.proofs.Common.{◌≡◌, refl, sym, ◌∙◌, ap, subst, List, [], ◌∷◌, ◌++◌, map, inl, inr, Bool, true, false, not, ◌&&◌, ◌||◌, cond}
use Rattle.std.specs.Prelude.{Option, Some, None}
use Rattle.std.proofs.lemmas.Bool.{true≢false}
use Rattle.type_terms.specs.Keys.{Name, same_name}
use Rattle.type_terms.proofs.KeyLaws.{name-is}
use Rattle.erl_tree.specs.declared.token.Place.{Place}
use Rattle.erl_tree.specs.declared.token.Node.{Node}
use Rattle.erl_tree.specs.declared.pattern.PatternKind.{PatternKind}
use Rattle.erl_tree.specs.declared.form.Function.{Function}
use Rattle.erl_tree.specs.declared.form.TreeForm.{TreeForm}
use Rattle.erl_tree.specs.declared.form.TreeForm.TheVariants as F
use Rattle.erl_tree.specs.declared.form.Module.{Module}
use Rattle.erl_tree.specs.Lists.{Among, Every}
use Rattle.erl_tree.specs.Functions.{functions_in, functions_of}
use Rattle.erl_scope_rules.specs.declared.role.Role.{Role}
use Rattle.erl_scope_rules.specs.declared.role.Role.TheVariants.{Used, Met, Renewed}
use Rattle.erl_scope_rules.specs.Occurrences.{Mark, Occurrence, Part, seeing, behind, in_turn, side_by_side, is_named_among, mark_behind, marks_behind, row_variables, row_marks, Step, Body, body, qualifiers, generated, unseen, comprehension, clause_from, clause_part, function_occurrences, form_occurrences, forms_occurrences}
use Rattle.erl_scope_rules.specs.Bindings.{innermost, bound_by_role}
use Rattle.erl_scope_rules.specs.ScopeFaults.{at, stands_among, role_fault, faults_of_optional, occurrence_faults, HasRightNames}
use Rattle.runs_with_right_names.specs.KnownValues.{is_use, is_free}
use Rattle.runs_with_right_names.proofs.RightParts.{every-split, every-of, occurrences-right}

-- each name that a use among these sees no variable of is available
abbrev pub Covered : (Name → Bool) → List Occurrence → Type 0
Covered available os = Every (λ o. is_free o ≡ true → available o.mark.name ≡ true) os

-- what is available in one way is so in the other
abbrev pub Grows : (Name → Bool) → (Name → Bool) → Type 0
Grows a b = (x : Name) → a x ≡ true → b x ≡ true

-- each of these variables is available
abbrev pub Has : (Name → Bool) → List Mark → Type 0
Has available marks = Every (λ m. available m.name ≡ true) marks

-- ---- lists of occurrences

pub covered-append : (a : Name → Bool) (os ps : List Occurrence) → Covered a (os ++ ps) → Covered a os × Covered a ps
covered-append a os ps h = every-split (λ o. is_free o ≡ true → a o.mark.name ≡ true) os ps h

pub covered-behind : (a : Name → Bool) (names : List Name) (os : List Occurrence) → Covered a (behind names os) → Covered a os
covered-behind a names [] h = tt
covered-behind a names (o ∷ os) h = (h.0, covered-behind a names os h.1)

pub covered-more : (a b : Name → Bool) → Grows a b → (os : List Occurrence) → Covered a os → Covered b os
covered-more a b g [] h = tt
covered-more a b g (o ∷ os) h = (λ free. g o.mark.name (h.0 free), covered-more a b g os h.1)

either-in : (p q r s : Bool) → s ≡ (q || r) → (p || s) ≡ ((p || q) || r)
either-in true q r s e = refl
either-in false q r s e = e

either-false : (p : Bool) → (p || false) ≡ p
either-false true = refl
either-false false = refl

named-append : (x : Name) (ms ns : List Mark) → is_named_among x (ms ++ ns) ≡ (is_named_among x ms || is_named_among x ns)
named-append x [] ns = refl
named-append x (m ∷ ms) ns = either-in (same_name m.name x) (is_named_among x ms) (is_named_among x ns) (is_named_among x (ms ++ ns)) (named-append x ms ns)

-- a name among available variables is available
named-has : (b : Name → Bool) (x : Name) (ms : List Mark) → Has b ms → is_named_among x ms ≡ true → b x ≡ true
named-has b x [] h e = absurd (true≢false (sym e))
named-has b x (m ∷ ms) h e = by (same_name m.name x) refl e (named-has b x ms h.1)
  where
    by : (c : Bool) → same_name m.name x ≡ c → (c || is_named_among x ms) ≡ true → (is_named_among x ms ≡ true → b x ≡ true) → b x ≡ true
    by true p k later = subst (λ y. b y ≡ true) (name-is m.name x p) h.0
    by false p k later = later k

-- what also saw these variables, where they are available
seen-has : (a b : Name → Bool) (marks : List Mark) (o : Occurrence) → Grows a b → Has b marks →
    (is_free (record { mark = o.mark; sees = o.sees ++ marks; ended = o.ended }) ≡ true → a o.mark.name ≡ true) → is_free o ≡ true → b o.mark.name ≡ true
seen-has a b marks o g h k free = by (is_named_among o.mark.name marks) refl
  where
    same : is_named_among o.mark.name marks ≡ false → is_named_among o.mark.name (o.sees ++ marks) ≡ is_named_among o.mark.name o.sees
    same p = named-append o.mark.name o.sees marks ∙ (ap (λ c. is_named_among o.mark.name o.sees || c) p ∙ either-false (is_named_among o.mark.name o.sees))

    by : (c : Bool) → is_named_among o.mark.name marks ≡ c → b o.mark.name ≡ true
    by true p = named-has b o.mark.name marks h p
    by false p = g o.mark.name (k (ap (λ c. is_use o.mark.role && not c) (same p) ∙ free))

pub covered-seeing : (a : Name → Bool) (marks : List Mark) (os : List Occurrence) → Covered a (seeing marks os) → (b : Name → Bool) → Grows a b → Has b marks → Covered b os
covered-seeing a marks [] h b g k = tt
covered-seeing a marks (o ∷ os) h b g k = (seen-has a b marks o g k h.0, covered-seeing a marks os h.1 b g k)

-- ---- parts

pub covered-in_turn : (a : Name → Bool) (ps : List Part) → Covered a (in_turn ps).occurrences → Every (λ p. Covered a p.occurrences) ps
covered-in_turn a [] h = tt
covered-in_turn a (p ∷ ps) h =
    let s : Covered a p.occurrences × Covered a (behind p.left (in_turn ps).occurrences) = covered-append a p.occurrences (behind p.left (in_turn ps).occurrences) h in
    (s.0, covered-in_turn a ps (covered-behind a p.left (in_turn ps).occurrences s.1))

pub covered-side_by_side : (a : Name → Bool) (ps : List Part) → Covered a (side_by_side ps).occurrences → Every (λ p. Covered a p.occurrences) ps
covered-side_by_side a [] h = tt
covered-side_by_side a (p ∷ ps) h =
    let s : Covered a p.occurrences × Covered a (side_by_side ps).occurrences = covered-append a p.occurrences (side_by_side ps).occurrences h in
    (s.0, covered-side_by_side a ps s.1)

-- the same of the parts of some things
pub covered-each_in_turn : {A : Type 0} (a : Name → Bool) (of : A → Part) (xs : List A) → Covered a (in_turn (map of xs)).occurrences → Every (λ x. Covered a (of x).occurrences) xs
covered-each_in_turn a of xs h = every-of (λ (p : Part). Covered a p.occurrences) of xs (covered-in_turn a (map of xs) h)

pub covered-each_side_by_side : {A : Type 0} (a : Name → Bool) (of : A → Part) (xs : List A) → Covered a (side_by_side (map of xs)).occurrences → Every (λ x. Covered a (of x).occurrences) xs
covered-each_side_by_side a of xs h = every-of (λ (p : Part). Covered a p.occurrences) of xs (covered-side_by_side a (map of xs) h)

-- what stands behind an expression and sees these variables
covered-next : (a : Name → Bool) (pattern first next : List Occurrence) (left : List Name) (binds : List Mark) →
    Covered a (pattern ++ (first ++ behind left (seeing binds next))) → Covered a first × ((b : Name → Bool) → Grows a b → Has b binds → Covered b next)
covered-next a pattern first next left binds h =
    let s : Covered a first × Covered a (behind left (seeing binds next)) = covered-append a first (behind left (seeing binds next)) (covered-append a pattern (first ++ behind left (seeing binds next)) h).1 in
    (s.0, λ b g k. covered-seeing a binds next (covered-behind a left (seeing binds next) s.1) b g k)

pub covered-body : (a : Name → Bool) (s : Step) (ss : List Step) → Covered a (body (s ∷ ss)).occurrences →
    Covered a s.expression.occurrences × ((b : Name → Bool) → Grows a b → Has b s.binds → Covered b (body ss).occurrences)
covered-body a s ss h = covered-next a s.pattern s.expression.occurrences (body ss).occurrences s.expression.left s.binds h

pub covered-qualifiers : (a : Name → Bool) (s : Step) (ss : List Step) → Covered a (qualifiers (s ∷ ss)) →
    Covered a s.expression.occurrences × ((b : Name → Bool) → Grows a b → Has b s.binds → Covered b (qualifiers ss))
covered-qualifiers a s ss h = covered-next a s.pattern s.expression.occurrences (qualifiers ss) s.expression.left s.binds h

pub covered-comprehension : (a : Name → Bool) (head : Part) (ss : List Step) → Covered a (comprehension head ss).occurrences →
    Covered a (qualifiers ss) × ((b : Name → Bool) → Grows a b → Has b (generated ss) → Covered b head.occurrences)
covered-comprehension a head ss h =
    let s : Covered a (seeing (generated ss) head.occurrences) × Covered a (behind (unseen (generated ss) head.left) (qualifiers ss)) =
    covered-append a (seeing (generated ss) head.occurrences) (behind (unseen (generated ss) head.left) (qualifiers ss)) h in
    (covered-behind a (unseen (generated ss) head.left) (qualifiers ss) s.1, λ b g k. covered-seeing a (generated ss) head.occurrences s.0 b g k)

-- the variables of all generators are there where those of the first and of the others are
pub generated-has : (b : Name → Bool) (s : Step) (ss : List Step) → Has b s.binds → Has b (generated ss) → Has b (generated (s ∷ ss))
generated-has b s ss h k = join (generated ss) k
  where
    join : (ms : List Mark) → Has b ms → Has b (ms ++ s.binds)
    join [] k = h
    join (m ∷ ms) k = (k.0, join ms k.1)

pub covered-clause : (a : Name → Bool) (head : List Occurrence) (marks : List Mark) (guard : Part) (rest : Body) → Covered a (clause_from head marks guard rest).occurrences →
    (b : Name → Bool) → Grows a b → Has b marks → Covered b guard.occurrences × Covered b rest.occurrences
covered-clause a head marks guard rest h b g k =
    let s : Covered b (guard.occurrences ++ behind guard.left rest.occurrences) =
    covered-seeing a marks (guard.occurrences ++ behind guard.left rest.occurrences) (covered-append a head (seeing marks (guard.occurrences ++ behind guard.left rest.occurrences)) h).1 b g k in
    let t : Covered b guard.occurrences × Covered b (behind guard.left rest.occurrences) = covered-append b guard.occurrences (behind guard.left rest.occurrences) s in
    (t.0, covered-behind b guard.left rest.occurrences t.1)

-- ---- the variables of rows

marks_behind-named : (b : Name → Bool) (role : Role) (before : List Mark) (vs : List (Name × Place)) → Has b before → Every (λ y. b y.0 ≡ true) vs → Has b (marks_behind role before vs)
marks_behind-named b role before [] h k = h
marks_behind-named b role before (v ∷ vs) h k = marks_behind-named b role (mark_behind role before v ∷ before) vs (k.0, h) k.1

pub marks-named : (b : Name → Bool) (role : Role) (ps : List (Node PatternKind)) → Every (λ y. b y.0 ≡ true) (row_variables ps) → Has b (row_marks role ps)
marks-named b role ps h = marks_behind-named b role [] (row_variables ps) tt h

-- ---- modules

-- a name that none of these variables has, has no binding among them
innermost-none : (x : Name) (ms : List Mark) → is_named_among x ms ≡ false → innermost x ms ≡ None
innermost-none x [] e = refl
innermost-none x (m ∷ ms) e = by (same_name m.name x) e (innermost-none x ms)
  where
    by : (c : Bool) → (c || is_named_among x ms) ≡ false → (is_named_among x ms ≡ false → innermost x ms ≡ None) → cond c (bound_by_role m.role m (innermost x ms)) (innermost x ms) ≡ None
    by true k later = absurd (true≢false k)
    by false k later = later k

-- a use without fault has a binding
use-bound : (role : Role) (outer : Option Mark) (named ended : Bool) (place : Place) → (named ≡ false → outer ≡ None) →
    faults_of_optional (λ fault. at fault place) (role_fault role outer ended) ≡ [] → (is_use role && not named) ≡ true → ⊥
use-bound Used None named true place n e free = cc
use-bound Used None named false place n e free = cc
use-bound Used (Some m) true ended place n e free = true≢false (sym free)
use-bound Used (Some m) false ended place n e free = absurd-some m (n refl)
  where
    absurd-some : (m : Mark) → Some m ≡ None → ⊥
    absurd-some m q = cc
use-bound Met outer named ended place n e free = true≢false (sym free)
use-bound Renewed outer named ended place n e free = true≢false (sym free)

occurrences-covered : (a : Name → Bool) (os : List Occurrence) → Every (λ o. occurrence_faults o ≡ []) os → Covered a os
occurrences-covered a [] h = tt
occurrences-covered a (o ∷ os) h = (
  λ free. absurd (use-bound o.mark.role (innermost o.mark.name o.sees) (is_named_among o.mark.name o.sees) (stands_among o.mark.name o.ended) o.mark.place (innermost-none o.mark.name o.sees) h.0 free),
  occurrences-covered a os h.1,
)

function-occurs : (P : Occurrence → Type 0) (f : Function) (forms : List TreeForm) → Among f (functions_in forms) → Every P (forms_occurrences forms) → Every P (function_occurrences f)
function-occurs P f [] a h = absurd a
function-occurs P f (F.Function g ∷ forms) a h = by a (λ there. function-occurs P f forms there (every-split P (function_occurrences g) (forms_occurrences forms) h).1)
  where
    by : Among f (functions_in (F.Function g ∷ forms)) → (Among f (functions_in forms) → Every P (function_occurrences f)) → Every P (function_occurrences f)
    by (inl q) later = subst (λ z. Every P (function_occurrences z)) (sym q) (every-split P (function_occurrences g) (forms_occurrences forms) h).0
    by (inr there) later = later there
function-occurs P f (form ∷ forms) a h = function-occurs P f forms a (every-split P (form_occurrences form) (forms_occurrences forms) h).1

-- the clauses of a function of a module with right names use no variable that they don't see
pub function-covered : (m : Module) → HasRightNames m → (f : Function) → Among f (functions_of m) → (a : Name → Bool) → Every (λ c. Covered a (clause_part Met c).occurrences) f.clauses
function-covered m h f i a = covered-each_side_by_side a (clause_part Met) f.clauses (occurrences-covered a (function_occurrences f) (function-occurs (λ o. occurrence_faults o ≡ []) f m.forms i (occurrences-right m h)))
