-- What stands behind a variable that is seen is what that variable sees itself: of lists of occurrences, of parts of trees, of trees and of modules.
use Rattle.std.proofs.Common.{◌≡◌, refl, ap, sym, ◌∙◌, subst, ◌⊎◌, inl, inr, List, [], ◌∷◌, ◌++◌, map}
use Rattle.std.specs.Prelude.{Option, Some, None, Bool, true, false, cond}
use Rattle.type_terms.specs.Keys.{Name, same_name}
use Rattle.type_terms.proofs.KeyLaws.{name-is}
use Rattle.erl_tree.specs.declared.token.Place.{Place}
use Rattle.erl_tree.specs.declared.token.Node.{Node}
use Rattle.erl_tree.specs.declared.pattern.PatternKind.{PatternKind}
use Rattle.erl_tree.specs.declared.expr.ExprKind.{ExprKind, roll-ExprKind, out-roll-ExprKind, map-ExprKind, ind-ExprKind}
use Rattle.erl_tree.specs.declared.expr.ItemKind.{ItemKind, roll-ItemKind, out-roll-ItemKind, map-ItemKind}
use Rattle.erl_tree.specs.declared.expr.QualifierKind.{QualifierKind, roll-QualifierKind, out-roll-QualifierKind, map-QualifierKind}
use Rattle.erl_tree.specs.declared.expr.AssocKind.{AssocKind, roll-AssocKind, map-AssocKind}
use Rattle.erl_tree.specs.declared.expr.CatchKind.{CatchKind, roll-CatchKind, map-CatchKind}
use Rattle.erl_tree.specs.declared.expr.ClauseKind.{ClauseKind, roll-ClauseKind, map-ClauseKind, ind-ClauseKind}
use Rattle.erl_tree.specs.declared.expr.ExprKind.TheOpen as E
use Rattle.erl_tree.specs.declared.expr.ExprKind.TheShapes as S
use Rattle.erl_tree.specs.declared.form.RecFieldKind.{RecFieldKind}
use Rattle.erl_tree.specs.declared.form.TreeForm.{TreeForm}
use Rattle.erl_tree.specs.declared.form.TreeForm.TheVariants as F
use Rattle.erl_tree.specs.declared.form.Module.{Module}
use Rattle.erl_tree.specs.Lists.{Every, Among}
use Rattle.erl_scope_rules.specs.declared.role.Role.{Role}
use Rattle.erl_scope_rules.specs.declared.role.Role.TheVariants.{Used, Met, Renewed}
use Rattle.erl_scope_rules.specs.Occurrences.{Mark, Occurrence, Part, Step, Body, seeing, behind, in_turn, side_by_side, optional, mark_behind, row_behind, marks_behind, row_variables, row, row_marks, body, qualifiers, generated, unseen, comprehension, clause_from, expr_kind_part, item_kind_step, qualifier_kind_step, assoc_kind_part, catch_kind_clause, clause_kind_part, expr_part, item_step, qualifier_step, assoc_part, field_part, clause_part, catch_part, class_patterns, default_part, form_occurrences, forms_occurrences, occurrences_of}
use Rattle.erl_scope_rules.specs.Bindings.{bound_by_role, innermost, binding_of, binds_in_role, is_binding, bindings_in, bindings_of}
use Rattle.erl_scope_rules.proofs.OccurrenceLaws.{Trees, tests_part, guard_at, body_in, body_part, clauses_part, catches_part, expr_in, item_in, qualifier_in, assoc_in, catch_in, clause_in, expr-out, item-out, qualifier-out, part-roll_assoc, part-roll_catch, part-roll_clause}

-- ---- lists of occurrences

-- an occurrence with this mark stands among these, and sees these
abbrev Stands : List Occurrence → Mark → List Mark → Type 0
Stands [] m ms = ⊥
Stands (o ∷ os) m ms = ((o.mark ≡ m) × (o.sees ≡ ms)) ⊎ Stands os m ms

-- each of these variables stands there, and sees those behind it
abbrev EachStands : List Occurrence → List Mark → Type 0
EachStands os [] = Unit {0}
EachStands os (m ∷ ms) = Stands os m ms × EachStands os ms

-- what the second see stands so among the first
abbrev SeeOnly : List Occurrence → List Occurrence → Type 0
SeeOnly os ps = Every (λ p. EachStands os p.sees) ps

-- occurrences that see only each other
abbrev AreWhole : List Occurrence → Type 0
AreWhole os = SeeOnly os os

-- what stands among some stands among others, where it sees further variables
abbrev Into : List Mark → List Occurrence → List Occurrence → Type 0
Into marks os ps = (m : Mark) (ms : List Mark) → Stands os m ms → Stands ps m (ms ++ marks)

abbrev Within : List Occurrence → List Occurrence → Type 0
Within os ps = (m : Mark) (ms : List Mark) → Stands os m ms → Stands ps m ms

within-front : (os ps : List Occurrence) → Within os (os ++ ps)
within-front [] ps m ms h = absurd h
within-front (o ∷ os) ps m ms (inl h) = inl h
within-front (o ∷ os) ps m ms (inr h) = inr (within-front os ps m ms h)

within-back : (os ps : List Occurrence) → Within ps (os ++ ps)
within-back [] ps m ms h = h
within-back (o ∷ os) ps m ms h = inr (within-back os ps m ms h)

within-behind : (names : List Name) (os : List Occurrence) → Within os (behind names os)
within-behind names [] m ms h = absurd h
within-behind names (o ∷ os) m ms (inl h) = inl h
within-behind names (o ∷ os) m ms (inr h) = inr (within-behind names os m ms h)

into-seeing : (marks : List Mark) (os : List Occurrence) → Into marks os (seeing marks os)
into-seeing marks [] m ms h = absurd h
into-seeing marks (o ∷ os) m ms (inl h) = inl (h.0, ap (λ ns. ns ++ marks) h.1)
into-seeing marks (o ∷ os) m ms (inr h) = inr (into-seeing marks os m ms h)

each-within : (os ps : List Occurrence) → Within os ps → (ms : List Mark) → EachStands os ms → EachStands ps ms
each-within os ps w [] h = tt
each-within os ps w (m ∷ ms) h = (w m ms h.0, each-within os ps w ms h.1)

each-into : (os ps : List Occurrence) (marks : List Mark) → Into marks os ps → EachStands ps marks → (ms : List Mark) → EachStands os ms → EachStands ps (ms ++ marks)
each-into os ps marks w s [] h = s
each-into os ps marks w s (m ∷ ms) h = (w m ms h.0, each-into os ps marks w s ms h.1)

see-within : (os ps : List Occurrence) → Within os ps → (qs : List Occurrence) → SeeOnly os qs → SeeOnly ps qs
see-within os ps w [] h = tt
see-within os ps w (q ∷ qs) h = (each-within os ps w q.sees h.0, see-within os ps w qs h.1)

see-append : (os ps qs : List Occurrence) → SeeOnly os ps → SeeOnly os qs → SeeOnly os (ps ++ qs)
see-append os [] qs h k = k
see-append os (p ∷ ps) qs h k = (h.0, see-append os ps qs h.1 k)

see-behind : (os : List Occurrence) (names : List Name) (ps : List Occurrence) → SeeOnly os ps → SeeOnly os (behind names ps)
see-behind os names [] h = tt
see-behind os names (p ∷ ps) h = (h.0, see-behind os names ps h.1)

see-seeing : (os ps : List Occurrence) (marks : List Mark) → Into marks os ps → EachStands ps marks → (qs : List Occurrence) → SeeOnly os qs → SeeOnly ps (seeing marks qs)
see-seeing os ps marks w s [] h = tt
see-seeing os ps marks w s (q ∷ qs) h = (each-into os ps marks w s q.sees h.0, see-seeing os ps marks w s qs h.1)

whole-append : (os ps : List Occurrence) → AreWhole os → AreWhole ps → AreWhole (os ++ ps)
whole-append os ps h k = see-append (os ++ ps) os ps (see-within os (os ++ ps) (within-front os ps) os h) (see-within ps (os ++ ps) (within-back os ps) ps k)

whole-behind : (names : List Name) (os : List Occurrence) → AreWhole os → AreWhole (behind names os)
whole-behind names os h = see-behind (behind names os) names os (see-within os (behind names os) (within-behind names os) os h)

-- ---- parts

abbrev IsWhole : Part → Type 0
IsWhole p = AreWhole p.occurrences

in_turn-whole : (ps : List Part) → Every IsWhole ps → IsWhole (in_turn ps)
in_turn-whole [] h = tt
in_turn-whole (p ∷ ps) h = whole-append p.occurrences (behind p.left (in_turn ps).occurrences) h.0 (whole-behind p.left (in_turn ps).occurrences (in_turn-whole ps h.1))

side_by_side-whole : (ps : List Part) → Every IsWhole ps → IsWhole (side_by_side ps)
side_by_side-whole [] h = tt
side_by_side-whole (p ∷ ps) h = whole-append p.occurrences (side_by_side ps).occurrences h.0 (side_by_side-whole ps h.1)

-- a row of variables, behind some that stand
row_behind-whole : (role : Role) (os : List Occurrence) (before : List Mark) (vs : List (Name × Place)) → EachStands os before → Within (row_behind role before vs) os
    → SeeOnly os (row_behind role before vs) × EachStands os (marks_behind role before vs)
row_behind-whole role os before [] s w = (tt, s)
row_behind-whole role os before (v ∷ vs) s w =
    let rest : SeeOnly os (row_behind role (mark_behind role before v ∷ before) vs) × EachStands os (marks_behind role (mark_behind role before v ∷ before) vs) =
    row_behind-whole role os (mark_behind role before v ∷ before) vs (w (mark_behind role before v) before (inl (refl, refl)), s) (λ m ms h. w m ms (inr h)) in
    ((s, rest.0), rest.1)

row-whole : (role : Role) (ps : List (Node PatternKind)) → AreWhole (row role ps) × EachStands (row role ps) (row_marks role ps)
row-whole role ps = row_behind-whole role (row role ps) [] (row_variables ps) tt (λ m ms h. h)

-- an element of a body, or a qualifier
record IsWholeStep (s : Step) : Type 0 where
  pattern : AreWhole s.pattern
  binds : EachStands s.pattern s.binds
  expression : IsWhole s.expression

-- what stands behind a step, with the step in front of it
abbrev with_step : Step → List Occurrence → List Occurrence
with_step s os = s.pattern ++ (s.expression.occurrences ++ behind s.expression.left (seeing s.binds os))

step-into : (s : Step) (os : List Occurrence) → Into s.binds os (with_step s os)
step-into s os m ms h = within-back s.pattern _ m (ms ++ s.binds) (within-back s.expression.occurrences _ m (ms ++ s.binds) (within-behind s.expression.left (seeing s.binds os) m (ms ++ s.binds) (into-seeing s.binds os m ms h)))

step-binds : (s : Step) → IsWholeStep s → (os : List Occurrence) → EachStands (with_step s os) s.binds
step-binds s h os = each-within s.pattern (with_step s os) (within-front s.pattern _) s.binds h.binds

step-whole : (s : Step) → IsWholeStep s → (os : List Occurrence) (ms : List Mark) → AreWhole os × EachStands os ms → AreWhole (with_step s os) × EachStands (with_step s os) (ms ++ s.binds)
step-whole s h os ms k = (
  see-append (with_step s os) s.pattern _ (see-within s.pattern (with_step s os) (within-front s.pattern _) s.pattern h.pattern)
      (see-append (with_step s os) s.expression.occurrences _ (see-within s.expression.occurrences (with_step s os) (λ m ns l. within-back s.pattern _ m ns (within-front s.expression.occurrences _ m ns l)) s.expression.occurrences h.expression)
      (see-behind (with_step s os) s.expression.left (seeing s.binds os) (see-seeing os (with_step s os) s.binds (step-into s os) (step-binds s h os) os k.0))),
  each-into os (with_step s os) s.binds (step-into s os) (step-binds s h os) ms k.1,
)

body-whole : (ss : List Step) → Every IsWholeStep ss → AreWhole (body ss).occurrences × EachStands (body ss).occurrences (body ss).binds
body-whole [] h = (tt, tt)
body-whole (s ∷ ss) h = step-whole s h.0 (body ss).occurrences (body ss).binds (body-whole ss h.1)

qualifiers-whole : (ss : List Step) → Every IsWholeStep ss → AreWhole (qualifiers ss) × EachStands (qualifiers ss) (generated ss)
qualifiers-whole [] h = (tt, tt)
qualifiers-whole (s ∷ ss) h = step-whole s h.0 (qualifiers ss) (generated ss) (qualifiers-whole ss h.1)

comprehension-whole : (head : Part) (ss : List Step) → IsWhole head → Every IsWholeStep ss → IsWhole (comprehension head ss)
comprehension-whole head ss h k = see-append os (seeing marks head.occurrences) (behind names (qualifiers ss))
    (see-seeing head.occurrences os marks (λ m ms l. within-front (seeing marks head.occurrences) _ m (ms ++ marks) (into-seeing marks head.occurrences m ms l)) (each-within (qualifiers ss) os inside marks (qualifiers-whole ss k).1) head.occurrences h)
    (see-behind os names (qualifiers ss) (see-within (qualifiers ss) os inside (qualifiers ss) (qualifiers-whole ss k).0))
  where
    marks : List Mark
    marks = generated ss

    names : List Name
    names = unseen (generated ss) head.left

    os : List Occurrence
    os = seeing marks head.occurrences ++ behind names (qualifiers ss)

    inside : Within (qualifiers ss) os
    inside m ms l = within-back (seeing marks head.occurrences) (behind names (qualifiers ss)) m ms (within-behind names (qualifiers ss) m ms l)

clause_from-whole : (head : List Occurrence) (marks : List Mark) (guard : Part) (b : Body) → AreWhole head × EachStands head marks → IsWhole guard → AreWhole b.occurrences → IsWhole (clause_from head marks guard b)
clause_from-whole head marks guard b h k l = see-append os head (seeing marks inner) (see-within head os (within-front head (seeing marks inner)) head h.0)
    (see-seeing inner os marks (λ m ms t. within-back head (seeing marks inner) m (ms ++ marks) (into-seeing marks inner m ms t)) (each-within head os (within-front head (seeing marks inner)) marks h.1) inner
    (whole-append guard.occurrences (behind guard.left b.occurrences) k (whole-behind guard.left b.occurrences l)))
  where
    inner : List Occurrence
    inner = guard.occurrences ++ behind guard.left b.occurrences

    os : List Occurrence
    os = head ++ seeing marks inner

-- ---- trees

abbrev IsExprWhole : ExprKind → Type 0
IsExprWhole t = (place : Place) → IsWhole (expr_kind_part t place)

abbrev IsItemWhole : ItemKind → Type 0
IsItemWhole t = IsWholeStep (item_kind_step t)

abbrev IsQualifierWhole : QualifierKind → Type 0
IsQualifierWhole t = IsWholeStep (qualifier_kind_step t)

abbrev IsAssocWhole : AssocKind → Type 0
IsAssocWhole t = IsWhole (assoc_kind_part t)

abbrev IsCatchWhole : CatchKind → Type 0
IsCatchWhole t = (role : Role) (front : List (Node PatternKind)) → IsWhole (catch_kind_clause t role front)

abbrev IsClauseWhole : ClauseKind → Type 0
IsClauseWhole t = (role : Role) (front : List (Node PatternKind)) → IsWhole (clause_kind_part t role front)

abbrev WholeExpr : Type 0
WholeExpr = (t : ExprKind) × IsExprWhole t

abbrev WholeItem : Type 0
WholeItem = (t : ItemKind) × IsItemWhole t

abbrev WholeQualifier : Type 0
WholeQualifier = (t : QualifierKind) × IsQualifierWhole t

abbrev WholeAssoc : Type 0
WholeAssoc = (t : AssocKind) × IsAssocWhole t

abbrev WholeCatch : Type 0
WholeCatch = (t : CatchKind) × IsCatchWhole t

abbrev WholeClause : Type 0
WholeClause = (t : ClauseKind) × IsClauseWhole t

-- one layer of a tree, of whose parts it is known
abbrev Wholes : ((A B C D F G : Type 0) → Type 0) → Type 0
Wholes layer = layer WholeExpr WholeItem WholeQualifier WholeAssoc WholeCatch WholeClause

abbrev plain_expr : Wholes E.ExprKind-F → Trees E.ExprKind-F
plain_expr y = map-ExprKind WholeExpr WholeItem WholeQualifier WholeAssoc WholeCatch WholeClause ExprKind ItemKind QualifierKind AssocKind CatchKind ClauseKind (λ t. t.0) (λ t. t.0) (λ t. t.0) (λ t. t.0) (λ t. t.0) (λ t. t.0) y

abbrev plain_item : Wholes E.ItemKind-F → Trees E.ItemKind-F
plain_item y = map-ItemKind WholeExpr WholeItem WholeQualifier WholeAssoc WholeCatch WholeClause ExprKind ItemKind QualifierKind AssocKind CatchKind ClauseKind (λ t. t.0) (λ t. t.0) (λ t. t.0) (λ t. t.0) (λ t. t.0) (λ t. t.0) y

abbrev plain_qualifier : Wholes E.QualifierKind-F → Trees E.QualifierKind-F
plain_qualifier y = map-QualifierKind WholeExpr WholeItem WholeQualifier WholeAssoc WholeCatch WholeClause ExprKind ItemKind QualifierKind AssocKind CatchKind ClauseKind (λ t. t.0) (λ t. t.0) (λ t. t.0) (λ t. t.0) (λ t. t.0) (λ t. t.0) y

abbrev plain_assoc : Wholes E.AssocKind-F → Trees E.AssocKind-F
plain_assoc y = map-AssocKind WholeExpr WholeItem WholeQualifier WholeAssoc WholeCatch WholeClause ExprKind ItemKind QualifierKind AssocKind CatchKind ClauseKind (λ t. t.0) (λ t. t.0) (λ t. t.0) (λ t. t.0) (λ t. t.0) (λ t. t.0) y

abbrev plain_catch : Wholes E.CatchKind-F → Trees E.CatchKind-F
plain_catch y = map-CatchKind WholeExpr WholeItem WholeQualifier WholeAssoc WholeCatch WholeClause ExprKind ItemKind QualifierKind AssocKind CatchKind ClauseKind (λ t. t.0) (λ t. t.0) (λ t. t.0) (λ t. t.0) (λ t. t.0) (λ t. t.0) y

abbrev plain_clause : Wholes E.ClauseKind-F → Trees E.ClauseKind-F
plain_clause y = map-ClauseKind WholeExpr WholeItem WholeQualifier WholeAssoc WholeCatch WholeClause ExprKind ItemKind QualifierKind AssocKind CatchKind ClauseKind (λ t. t.0) (λ t. t.0) (λ t. t.0) (λ t. t.0) (λ t. t.0) (λ t. t.0) y

-- rows of nodes without what is known of them
abbrev plain_exprs : List (Node WholeExpr) → List (Node ExprKind)
plain_exprs ts = S.former-ExprKind-Tuple-0.map WholeExpr ExprKind (λ t. t.0) ts

abbrev plain_items : List (Node WholeItem) → List (Node ItemKind)
plain_items ts = S.former-ExprKind-Begin-0.map WholeItem ItemKind (λ t. t.0) ts

abbrev plain_clauses : List (Node WholeClause) → List (Node ClauseKind)
plain_clauses ts = S.former-ExprKind-Case-1.map WholeClause ClauseKind (λ t. t.0) ts

abbrev plain_catches : List (Node WholeCatch) → List (Node CatchKind)
plain_catches ts = S.former-ExprKind-Try-2.map WholeCatch CatchKind (λ t. t.0) ts

abbrev plain_after : Option (List (Node WholeItem)) → Option (List (Node ItemKind))
plain_after o = S.former-ExprKind-Try-3.map WholeItem ItemKind (λ t. t.0) o

exprs-whole : (ts : List (Node WholeExpr)) → Every IsWhole (map expr_part (plain_exprs ts))
exprs-whole [] = tt
exprs-whole (t ∷ ts) = (t.kind.1 t.place, exprs-whole ts)

items-whole : (ts : List (Node WholeItem)) → Every IsWholeStep (map item_step (plain_items ts))
items-whole [] = tt
items-whole (t ∷ ts) = (t.kind.1, items-whole ts)

steps-whole : (ts : List (Node WholeQualifier)) → Every IsWholeStep (map qualifier_step (S.former-ExprKind-Comp-1.map WholeQualifier QualifierKind (λ t. t.0) ts))
steps-whole [] = tt
steps-whole (t ∷ ts) = (t.kind.1, steps-whole ts)

assocs-whole : (ts : List (Node WholeAssoc)) → Every IsWhole (map assoc_part (S.former-ExprKind-MapNew-0.map WholeAssoc AssocKind (λ t. t.0) ts))
assocs-whole [] = tt
assocs-whole (t ∷ ts) = (t.kind.1, assocs-whole ts)

fields-whole : (ts : List (Node (Name × Node WholeExpr))) → Every IsWhole (map field_part (S.former-ExprKind-RecNew-2.map WholeExpr ExprKind (λ t. t.0) ts))
fields-whole [] = tt
fields-whole (t ∷ ts) = (t.kind.1.kind.1 t.kind.1.place, fields-whole ts)

clauses-whole : (role : Role) (ts : List (Node WholeClause)) → Every IsWhole (map (clause_part role) (plain_clauses ts))
clauses-whole role [] = tt
clauses-whole role (t ∷ ts) = (t.kind.1 role [], clauses-whole role ts)

catches-whole : (ts : List (Node WholeCatch)) → Every IsWhole (map (catch_part Met) (plain_catches ts))
catches-whole [] = tt
catches-whole (t ∷ ts) = (t.kind.1 Met [], catches-whole ts)

tail-whole : (o : Option (Node WholeExpr)) → IsWhole (optional expr_part (S.former-ExprKind-Cells-1.map WholeExpr ExprKind (λ t. t.0) o))
tail-whole None = tt
tail-whole (Some t) = t.kind.1 t.place

after-whole : (o : Option (List (Node WholeItem))) → IsWhole (optional body_part (plain_after o))
after-whole None = tt
after-whole (Some ts) = (body-whole _ (items-whole ts)).0

every-append : (ps qs : List Part) → Every IsWhole ps → Every IsWhole qs → Every IsWhole (ps ++ qs)
every-append [] qs h k = k
every-append (p ∷ ps) qs h k = (h.0, every-append ps qs h.1 k)

tests-whole : (ts : List (List (Node WholeExpr))) → Every IsWhole (map tests_part (S.former-ClauseKind-guard-at-8.map WholeExpr ExprKind (λ t. t.0) ts))
tests-whole [] = tt
tests-whole (t ∷ ts) = (in_turn-whole (map expr_part (plain_exprs t)) (exprs-whole t), tests-whole ts)

guard-whole : (g : Option (Node (List (List (Node WholeExpr))))) → IsWhole (optional guard_at (S.former-ClauseKind-guard.map WholeExpr ExprKind (λ t. t.0) g))
guard-whole None = tt
guard-whole (Some g) = in_turn-whole _ (tests-whole g.kind)

-- ---- one level of each kind of node

expr_in-whole : (y : Wholes E.ExprKind-F) (place : Place) → IsWhole (expr_in (plain_expr y) place)
expr_in-whole (E.Atom a) place = tt
expr_in-whole (E.Int z) place = tt
expr_in-whole (E.Char z) place = tt
expr_in-whole (E.Str z) place = tt
expr_in-whole (E.FunName name z) place = tt
expr_in-whole (E.Var x) place = (tt, tt)
expr_in-whole (E.Paren t) place = t.kind.1 t.place
expr_in-whole (E.Tuple ts) place = in_turn-whole _ (exprs-whole ts)
expr_in-whole (E.Cells ts o) place = in_turn-whole _ (every-append _ (optional expr_part (S.former-ExprKind-Cells-1.map WholeExpr ExprKind (λ t. t.0) o) ∷ []) (exprs-whole ts) (tail-whole o, tt))
expr_in-whole (E.Comp t qs) place = comprehension-whole (expr_kind_part t.kind.0 t.place) _ (t.kind.1 t.place) (steps-whole qs)
expr_in-whole (E.Unary op t) place = t.kind.1 t.place
expr_in-whole (E.Binary op t u) place = in_turn-whole (expr_kind_part t.kind.0 t.place ∷ expr_kind_part u.kind.0 u.place ∷ []) (t.kind.1 t.place, (u.kind.1 u.place, tt))
expr_in-whole (E.Call prefix name ts) place = in_turn-whole _ (exprs-whole ts)
expr_in-whole (E.Apply t ts) place = in_turn-whole (expr_kind_part t.kind.0 t.place ∷ _) (t.kind.1 t.place, exprs-whole ts)
expr_in-whole (E.MapNew assocs) place = in_turn-whole _ (assocs-whole assocs)
expr_in-whole (E.MapChange t assocs) place = in_turn-whole (expr_kind_part t.kind.0 t.place ∷ _) (t.kind.1 t.place, assocs-whole assocs)
expr_in-whole (E.RecNew name tag fs) place = in_turn-whole _ (fields-whole fs)
expr_in-whole (E.RecChange t name tag fs) place = in_turn-whole (expr_kind_part t.kind.0 t.place ∷ _) (t.kind.1 t.place, fields-whole fs)
expr_in-whole (E.RecGet t name tag field) place = t.kind.1 t.place
expr_in-whole (E.Begin is) place = (body-whole _ (items-whole is)).0
expr_in-whole (E.Case t cs) place = in_turn-whole (expr_kind_part t.kind.0 t.place ∷ clauses_part Met (plain_clauses cs) ∷ []) (t.kind.1 t.place, (side_by_side-whole _ (clauses-whole Met cs), tt))
expr_in-whole (E.If cs) place = side_by_side-whole _ (clauses-whole Met cs)
expr_in-whole (E.Fun cs) place = side_by_side-whole _ (clauses-whole Renewed cs)
expr_in-whole (E.Try is cs catches after) place = in_turn-whole (body_part (plain_items is) ∷ side_by_side others ∷ [])
    ((body-whole _ (items-whole is)).0, (side_by_side-whole others (side_by_side-whole _ (clauses-whole Met cs), (side_by_side-whole _ (catches-whole catches), (after-whole after, tt))), tt))
  where
    others : List Part
    others = clauses_part Met (plain_clauses cs) ∷ catches_part (plain_catches catches) ∷ optional body_part (plain_after after) ∷ []

item_in-whole : (y : Wholes E.ItemKind-F) → IsWholeStep (item_in (plain_item y))
item_in-whole (E.Value t) = record { pattern = tt; binds = tt; expression = t.kind.1 t.place }
item_in-whole (E.Match p t) = record { pattern = (row-whole Met (p ∷ [])).0; binds = (row-whole Met (p ∷ [])).1; expression = t.kind.1 t.place }

qualifier_in-whole : (y : Wholes E.QualifierKind-F) → IsWholeStep (qualifier_in (plain_qualifier y))
qualifier_in-whole (E.Generator p t) = record { pattern = (row-whole Renewed (p ∷ [])).0; binds = (row-whole Renewed (p ∷ [])).1; expression = t.kind.1 t.place }
qualifier_in-whole (E.Filter t) = record { pattern = tt; binds = tt; expression = t.kind.1 t.place }

assoc_in-whole : (y : Wholes E.AssocKind-F) → IsWhole (assoc_in (plain_assoc y))
assoc_in-whole y = in_turn-whole (expr_kind_part y.key.kind.0 y.key.place ∷ expr_kind_part y.value.kind.0 y.value.place ∷ []) (y.key.kind.1 y.key.place, (y.value.kind.1 y.value.place, tt))

clause_in-whole : (y : Wholes E.ClauseKind-F) (role : Role) (front : List (Node PatternKind)) → IsWhole (clause_in (plain_clause y) role front)
clause_in-whole y role front = clause_from-whole (row role (front ++ y.patterns)) (row_marks role (front ++ y.patterns)) (optional guard_at (S.former-ClauseKind-guard.map WholeExpr ExprKind (λ t. t.0) y.guard)) (body_in (plain_items y.body))
    (row-whole role (front ++ y.patterns)) (guard-whole y.guard) (body-whole (map item_step (plain_items y.body)) (items-whole y.body)).0

catch_in-whole : (y : Wholes E.CatchKind-F) (role : Role) (front : List (Node PatternKind)) → IsWhole (catch_in (plain_catch y) role front)
catch_in-whole y role front = y.clause.kind.1 role (front ++ class_patterns y.class)

-- ---- each kind of node

roll_expr-whole : (x : Trees E.ExprKind-F) (y : Wholes E.ExprKind-F) → plain_expr y ≡ x → IsExprWhole (roll-ExprKind x)
roll_expr-whole x y e place = subst (λ z. IsWhole (expr_kind_part (roll-ExprKind z) place)) e (subst (λ p. IsWhole p) (sym (expr-out (roll-ExprKind (plain_expr y)) place ∙ ap (λ l. expr_in l place) (out-roll-ExprKind (plain_expr y)))) (expr_in-whole y place))

roll_item-whole : (x : Trees E.ItemKind-F) (y : Wholes E.ItemKind-F) → plain_item y ≡ x → IsItemWhole (roll-ItemKind x)
roll_item-whole x y e = subst (λ z. IsWholeStep (item_kind_step (roll-ItemKind z))) e (subst (λ s. IsWholeStep s) (sym (item-out (roll-ItemKind (plain_item y)) ∙ ap (λ l. item_in l) (out-roll-ItemKind (plain_item y)))) (item_in-whole y))

roll_qualifier-whole : (x : Trees E.QualifierKind-F) (y : Wholes E.QualifierKind-F) → plain_qualifier y ≡ x → IsQualifierWhole (roll-QualifierKind x)
roll_qualifier-whole x y e = subst (λ z. IsWholeStep (qualifier_kind_step (roll-QualifierKind z))) e (subst (λ s. IsWholeStep s) (sym (qualifier-out (roll-QualifierKind (plain_qualifier y)) ∙ ap (λ l. qualifier_in l) (out-roll-QualifierKind (plain_qualifier y)))) (qualifier_in-whole y))

roll_assoc-whole : (x : Trees E.AssocKind-F) (y : Wholes E.AssocKind-F) → plain_assoc y ≡ x → IsAssocWhole (roll-AssocKind x)
roll_assoc-whole x y e = subst (λ z. IsWhole (assoc_kind_part (roll-AssocKind z))) e (subst (λ p. IsWhole p) (sym (part-roll_assoc (plain_assoc y))) (assoc_in-whole y))

roll_catch-whole : (x : Trees E.CatchKind-F) (y : Wholes E.CatchKind-F) → plain_catch y ≡ x → IsCatchWhole (roll-CatchKind x)
roll_catch-whole x y e role front = subst (λ z. IsWhole (catch_kind_clause (roll-CatchKind z) role front)) e (subst (λ p. IsWhole p) (sym (part-roll_catch (plain_catch y) role front)) (catch_in-whole y role front))

roll_clause-whole : (x : Trees E.ClauseKind-F) (y : Wholes E.ClauseKind-F) → plain_clause y ≡ x → IsClauseWhole (roll-ClauseKind x)
roll_clause-whole x y e role front = subst (λ z. IsWhole (clause_kind_part (roll-ClauseKind z) role front)) e (subst (λ p. IsWhole p) (sym (part-roll_clause (plain_clause y) role front)) (clause_in-whole y role front))

expr_kind-whole : (t : ExprKind) → IsExprWhole t
expr_kind-whole = ind-ExprKind IsExprWhole IsItemWhole IsQualifierWhole IsAssocWhole IsCatchWhole IsClauseWhole roll_expr-whole roll_item-whole roll_qualifier-whole roll_assoc-whole roll_catch-whole roll_clause-whole

clause_kind-whole : (t : ClauseKind) → IsClauseWhole t
clause_kind-whole = ind-ClauseKind IsExprWhole IsItemWhole IsQualifierWhole IsAssocWhole IsCatchWhole IsClauseWhole roll_expr-whole roll_item-whole roll_qualifier-whole roll_assoc-whole roll_catch-whole roll_clause-whole

-- ---- modules

function_clauses-whole : (cs : List (Node ClauseKind)) → Every IsWhole (map (λ (c : Node ClauseKind). clause_kind_part c.kind Met []) cs)
function_clauses-whole [] = tt
function_clauses-whole (c ∷ cs) = (clause_kind-whole c.kind Met [], function_clauses-whole cs)

default-whole : (o : Option (Node ExprKind)) → IsWhole (optional (λ (e : Node ExprKind). expr_kind_part e.kind e.place) o)
default-whole None = tt
default-whole (Some e) = expr_kind-whole e.kind e.place

defaults-whole : (fs : List (Node RecFieldKind)) → Every IsWhole (map default_part fs)
defaults-whole [] = tt
defaults-whole (f ∷ fs) = (default-whole f.kind.default, defaults-whole fs)

form-whole : (form : TreeForm) → AreWhole (form_occurrences form)
form-whole (F.Function f) = side_by_side-whole _ (function_clauses-whole f.clauses)
form-whole (F.RecDef r) = side_by_side-whole _ (defaults-whole r.kind.fields)
form-whole _ = tt

forms-whole : (forms : List TreeForm) → AreWhole (forms_occurrences forms)
forms-whole [] = tt
forms-whole (form ∷ forms) = whole-append (form_occurrences form) (forms_occurrences forms) (form-whole form) (forms-whole forms)

-- ---- what is seen

seen-of : (os ps : List Occurrence) → SeeOnly os ps → (p : Occurrence) → Among p ps → EachStands os p.sees
seen-of os [] h p a = absurd a
seen-of os (q ∷ qs) h p (inl e) = subst (λ (o : Occurrence). EachStands os o.sees) (sym e) h.0
seen-of os (q ∷ qs) h p (inr a) = seen-of os qs h.1 p a

stands-at : (os : List Occurrence) (before : List Mark) (m : Mark) (outer : List Mark) → EachStands os (before ++ m ∷ outer) → Stands os m outer
stands-at os [] m outer h = h.0
stands-at os (n ∷ before) m outer h = stands-at os before m outer h.1

one-stands : (os : List Occurrence) (m : Mark) (ms : List Mark) → Stands os m ms → (o : Occurrence) × Among o os × (o.mark ≡ m) × (o.sees ≡ ms)
one-stands [] m ms h = absurd h
one-stands (o ∷ os) m ms (inl h) = (o, inl refl, h.0, h.1)
one-stands (o ∷ os) m ms (inr h) = let r : (o : Occurrence) × Among o os × (o.mark ≡ m) × (o.sees ≡ ms) = one-stands os m ms h in (r.0, inr r.1, r.2, r.3)

pub marks_seen : (m : Module) (o : Occurrence) → Among o (occurrences_of m) → (before : List Mark) (mark : Mark) (outer : List Mark) → o.sees ≡ before ++ mark ∷ outer
    → (p : Occurrence) × Among p (occurrences_of m) × (p.mark ≡ mark) × (p.sees ≡ outer)
marks_seen m o a before mark outer e = one-stands (occurrences_of m) mark outer (stands-at (occurrences_of m) before mark outer (subst (λ ms. EachStands (occurrences_of m) ms) e (seen-of (occurrences_of m) (occurrences_of m) (forms-whole m.forms) o a)))

-- ---- the bindings of what is seen

some-same : (a b : Mark) → Some a ≡ Some b → a ≡ b
some-same a b e = cc

-- an occurrence that binds is among the bindings
among-binds : (os : List Occurrence) (o : Occurrence) → Among o os → is_binding o ≡ true → Among o.mark (bindings_in os)
among-binds [] o a h = absurd a
among-binds (p ∷ ps) o (inl e) h = subst (λ b. Among o.mark (cond b (p.mark ∷ bindings_in ps) (bindings_in ps))) (sym (ap (λ q. is_binding q) (sym e) ∙ h)) (inl (ap (λ q. q.mark) e))
among-binds (p ∷ ps) o (inr a) h = by (is_binding p) (among-binds ps o a h)
  where
    by : (b : Bool) → Among o.mark (bindings_in ps) → Among o.mark (cond b (p.mark ∷ bindings_in ps) (bindings_in ps))
    by true a = inr a
    by false a = a

-- the same of one that stands
stands-binds : (os : List Occurrence) (m : Mark) (ms : List Mark) → Stands os m ms → binds_in_role m.role (innermost m.name ms) ≡ true → Among m (bindings_in os)
stands-binds [] m ms h e = absurd h
stands-binds (o ∷ os) m ms (inl h) e = subst (λ b. Among m (cond b (o.mark ∷ bindings_in os) (bindings_in os))) (sym binds) (inl (sym h.0))
  where
    binds : is_binding o ≡ true
    binds = (λ j. binds_in_role (h.0 j).role (innermost (h.0 j).name (h.1 j))) ∙ e
stands-binds (o ∷ os) m ms (inr h) e = by (is_binding o) (stands-binds os m ms h e)
  where
    by : (b : Bool) → Among m (bindings_in os) → Among m (cond b (o.mark ∷ bindings_in os) (bindings_in os))
    by true a = inr a
    by false a = a

innermost-binds : (os : List Occurrence) (x : Name) (ms : List Mark) (b : Mark) → EachStands os ms → innermost x ms ≡ Some b → Among b (bindings_in os)
innermost-binds os x [] b h e = cc
innermost-binds os x (m ∷ ms) b h e = by_name (same_name m.name x) refl (innermost-binds os x ms b h.1) e
  where
    by_role : (role : Role) → m.role ≡ role → (outer : Option Mark) → innermost x ms ≡ outer → m.name ≡ x → (outer ≡ Some b → Among b (bindings_in os)) → bound_by_role role m outer ≡ Some b → Among b (bindings_in os)
    by_role Used r outer i n rest e = rest e
    by_role Met r None i n rest e = subst (λ (a : Mark). Among a (bindings_in os)) (some-same m b e) (stands-binds os m ms h.0 (λ j. binds_in_role (r j) ((ap (λ y. innermost y ms) n ∙ i) j)))
    by_role Met r (Some c) i n rest e = rest e
    by_role Renewed r outer i n rest e = subst (λ (a : Mark). Among a (bindings_in os)) (some-same m b e) (stands-binds os m ms h.0 (ap (λ y. binds_in_role y (innermost m.name ms)) r))

    by_name : (same : Bool) → same_name m.name x ≡ same → (innermost x ms ≡ Some b → Among b (bindings_in os)) → cond same (bound_by_role m.role m (innermost x ms)) (innermost x ms) ≡ Some b → Among b (bindings_in os)
    by_name true s rest e = by_role m.role refl (innermost x ms) refl (name-is m.name x s) rest e
    by_name false s rest e = rest e

pub binding_seen : (m : Module) (o : Occurrence) (b : Mark) → Among o (occurrences_of m) → binding_of o ≡ Some b → Among b (bindings_of m)
binding_seen m o b a e = by o.mark.role refl (innermost o.mark.name o.sees) refl e
  where
    sees : EachStands (occurrences_of m) o.sees
    sees = seen-of (occurrences_of m) (occurrences_of m) (forms-whole m.forms) o a

    itself : is_binding o ≡ true → o.mark ≡ b → Among b (bindings_of m)
    itself h s = subst (λ (c : Mark). Among c (bindings_of m)) s (among-binds (occurrences_of m) o a h)

    by : (role : Role) → o.mark.role ≡ role → (outer : Option Mark) → innermost o.mark.name o.sees ≡ outer → bound_by_role role o.mark outer ≡ Some b → Among b (bindings_of m)
    by Used r outer i e = innermost-binds (occurrences_of m) o.mark.name o.sees b sees (i ∙ e)
    by Met r None i e = itself (λ j. binds_in_role (r j) (i j)) (some-same o.mark b e)
    by Met r (Some c) i e = innermost-binds (occurrences_of m) o.mark.name o.sees b sees (i ∙ e)
    by Renewed r outer i e = itself (ap (λ y. binds_in_role y (innermost o.mark.name o.sees)) r) (some-same o.mark b e)
