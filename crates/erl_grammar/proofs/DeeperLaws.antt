-- What is nested deeper than so many levels, is nested deeper than fewer levels too.
use Rattle.std.proofs.Common.{◌≡◌, ap, sym, subst, inl, inr, ℕ, zero, suc, List, [], ◌∷◌, ◌++◌}
use Rattle.std.specs.Prelude.{Option, Some, None}
use Rattle.erl_tree.specs.Lists.{Among}
use Rattle.erl_tree.specs.declared.token.Place.{Place}
use Rattle.erl_tree.specs.declared.token.Node.{Node}
use Rattle.erl_tree.specs.declared.pattern.LiteralKind.{LiteralKind}
use Rattle.erl_tree.specs.declared.pattern.PatternKind.{PatternKind, roll-PatternKind, map-PatternKind, ind-PatternKind}
use Rattle.erl_tree.specs.declared.pattern.PatternKind.TheOpen as L
use Rattle.erl_tree.specs.declared.pattern.PatternKind.TheShapes as R
use Rattle.erl_tree.specs.declared.expr.ExprKind.{ExprKind, roll-ExprKind, map-ExprKind, ind-ExprKind}
use Rattle.erl_tree.specs.declared.expr.ExprKind.TheOpen as E
use Rattle.erl_tree.specs.declared.expr.ExprKind.TheShapes as S
use Rattle.erl_tree.specs.declared.expr.ItemKind.{ItemKind, roll-ItemKind, map-ItemKind}
use Rattle.erl_tree.specs.declared.expr.ClauseKind.{ClauseKind, roll-ClauseKind, map-ClauseKind, fold-roll-ClauseKind}
use Rattle.erl_tree.specs.declared.expr.QualifierKind.{QualifierKind, roll-QualifierKind, map-QualifierKind}
use Rattle.erl_tree.specs.declared.expr.AssocKind.{AssocKind, roll-AssocKind, map-AssocKind, fold-roll-AssocKind}
use Rattle.erl_tree.specs.declared.expr.CatchKind.{CatchKind, roll-CatchKind, map-CatchKind, fold-roll-CatchKind}
use Rattle.erl_grammar.specs.Grammar.{node}
use Rattle.erl_grammar.specs.Nesting.{Deep, deep_node, deep_part, deep_all, deep_optional, deep_second, fewer, deep_cells, deep_guard, deep_in_pattern, pattern_kind_deep, pattern_deep, deep_in_clause, deep_in_expr, deep_in_item, deep_in_qualifier, deep_in_assoc, deep_in_catch, expr_kind_deep, item_kind_deep, qualifier_kind_deep, assoc_kind_deep, catch_kind_deep, clause_kind_deep, expr_deep}
use Rattle.erl_grammar.proofs.NestingLaws.{pattern_rolled, expr_rolled, item_rolled, qualifier_rolled}

-- a node that is nested deeper than one level more, is nested deeper than so many
pub record Falls (deep : Deep) : Type 0 where
  pub falls : (levels : ℕ) (p : Place) → Among p (deep (suc levels)) → Among p (deep levels)

-- ---- elements of lists

among_front : {A : Type 0} (x : A) (xs ys : List A) → Among x xs → Among x (xs ++ ys)
among_front x [] ys h = elim h [ ]
among_front x (y ∷ xs) ys (inl e) = inl e
among_front x (y ∷ xs) ys (inr h) = inr (among_front x xs ys h)

among_behind : {A : Type 0} (x : A) (xs ys : List A) → Among x ys → Among x (xs ++ ys)
among_behind x [] ys h = h
among_behind x (y ∷ xs) ys h = inr (among_behind x xs ys h)

among_both : {A : Type 0} (x : A) (xs ys us vs : List A) → (Among x xs → Among x us) → (Among x ys → Among x vs) → Among x (xs ++ ys) → Among x (us ++ vs)
among_both x [] ys us vs f g h = among_behind x us vs (g h)
among_both x (y ∷ xs) ys us vs f g (inl e) = among_front x us vs (f (inl e))
among_both x (y ∷ xs) ys us vs f g (inr h) = among_both x xs ys us vs (λ a. f (inr a)) g h

-- ---- parts

pub falls_as : {f g : Deep} → ((levels : ℕ) → g levels ≡ f levels) → Falls f → Falls g
falls_as {f = f} {g = g} e h = record { falls = λ levels p a. subst (Among p) (sym (e levels)) (h.falls levels p (subst (Among p) (e (suc levels)) a)) }

pub none_falls : Falls (λ levels. [])
none_falls = record { falls = λ levels p a. a }

pub both_falls : {f g : Deep} → Falls f → Falls g → Falls (λ levels. f levels ++ g levels)
both_falls {f = f} {g = g} h k = record { falls = λ levels p a. among_both p (f (suc levels)) (g (suc levels)) (f levels) (g levels) (h.falls levels p) (k.falls levels p) a }

pub node_falls : (n : Node Deep) → Falls n.kind → Falls (deep_node n)
node_falls n h = record { falls = by }
  where
    by : (levels : ℕ) (p : Place) → Among p (deep_node n (suc levels)) → Among p (deep_node n levels)
    by zero p a = inr a
    by (suc levels) p a = h.falls levels p a

part_falls : (n : Node Deep) → Falls n.kind → Falls (deep_part n)
part_falls n h = h

-- one level fewer, as far as there is one
fewer_falls : {f : Deep} → Falls f → Falls (λ levels. f (fewer levels))
fewer_falls {f = f} h = record { falls = by }
  where
    by : (levels : ℕ) (p : Place) → Among p (f levels) → Among p (f (fewer levels))
    by zero p a = a
    by (suc levels) p a = h.falls levels p a

-- a kind of which this is true
abbrev pub Part : {A : Type 0} → (A → Deep) → Type 0
Part {A} say = (a : A) × Falls (say a)

-- the kinds without it
abbrev pub bare : {A : Type 0} (say : A → Deep) → Part say → A
bare say e = e.0

module _ {A : Type 0} (say : A → Deep) where
  abbrev pub said_list : List (Node (Part say)) → List (Node Deep)
  said_list ns = S.former-ExprKind-Tuple-0.map A Deep say (S.former-ExprKind-Tuple-0.map (Part say) A (bare say) ns)

  abbrev said_tail : Option (Node (Part say)) → Option (Node Deep)
  said_tail o = S.former-ExprKind-Cells-1.map A Deep say (S.former-ExprKind-Cells-1.map (Part say) A (bare say) o)

  pub all_nodes_fall : (ns : List (Node (Part say))) → Falls (deep_all deep_node (said_list ns))
  all_nodes_fall [] = none_falls
  all_nodes_fall (n ∷ ns) = both_falls (node_falls (node n.place n.marks (say n.kind.0)) n.kind.1) (all_nodes_fall ns)

  pub all_parts_fall : (ns : List (Node (Part say))) → Falls (deep_all deep_part (said_list ns))
  all_parts_fall [] = none_falls
  all_parts_fall (n ∷ ns) = both_falls n.kind.1 (all_parts_fall ns)

  all_entries_fall : (ns : List (Node (Node LiteralKind × Node (Part say)))) → Falls (deep_all (deep_second deep_node) (R.former-PatternKind-Map-0.map A Deep say (R.former-PatternKind-Map-0.map (Part say) A (bare say) ns)))
  all_entries_fall [] = none_falls
  all_entries_fall (n ∷ ns) = both_falls (node_falls (node n.kind.1.place n.kind.1.marks (say n.kind.1.kind.0)) n.kind.1.kind.1) (all_entries_fall ns)

  pub all_fields_fall : (ns : List (Node (List ℕ × Node (Part say)))) → Falls (deep_all (deep_second deep_node) (S.former-ExprKind-RecNew-2.map A Deep say (S.former-ExprKind-RecNew-2.map (Part say) A (bare say) ns)))
  all_fields_fall [] = none_falls
  all_fields_fall (n ∷ ns) = both_falls (node_falls (node n.kind.1.place n.kind.1.marks (say n.kind.1.kind.0)) n.kind.1.kind.1) (all_fields_fall ns)

  tail_falls : (o : Option (Node (Part say))) → Falls (deep_optional deep_node (said_tail o))
  tail_falls None = none_falls
  tail_falls (Some n) = node_falls (node n.place n.marks (say n.kind.0)) n.kind.1

  cells_fall : (ns : List (Node (Part say))) (o : Option (Node (Part say))) → Falls (deep_cells deep_node (said_list ns) (said_tail o))
  cells_fall [] o = tail_falls o
  cells_fall (n ∷ []) o = both_falls (node_falls (node n.place n.marks (say n.kind.0)) n.kind.1) (tail_falls o)
  cells_fall (n ∷ m ∷ ns) o = both_falls (node_falls (node n.place n.marks (say n.kind.0)) n.kind.1) (fewer_falls (cells_fall (m ∷ ns) o))

  tests_fall : (alternatives : List (List (Node (Part say)))) → Falls (deep_all (deep_all deep_node) (S.former-ClauseKind-guard-at-8.map A Deep say (S.former-ClauseKind-guard-at-8.map (Part say) A (bare say) alternatives)))
  tests_fall [] = none_falls
  tests_fall (tests ∷ alternatives) = both_falls (all_nodes_fall tests) (tests_fall alternatives)

  guard_falls : (w : Option (Node (List (List (Node (Part say)))))) → Falls (deep_optional (deep_guard deep_node) (S.former-ClauseKind-guard.map A Deep say (S.former-ClauseKind-guard.map (Part say) A (bare say) w)))
  guard_falls None = none_falls
  guard_falls (Some g) = tests_fall g.kind

  after_falls : (after : Option (List (Node (Part say)))) → Falls (deep_optional (deep_all deep_part) (S.former-ExprKind-Try-3.map A Deep say (S.former-ExprKind-Try-3.map (Part say) A (bare say) after)))
  after_falls None = none_falls
  after_falls (Some items) = all_parts_fall items

-- ---- patterns

abbrev PatternLayer : Type 0
PatternLayer = L.PatternKind-F (Part pattern_kind_deep)

abbrev plain_pattern : PatternLayer → L.PatternKind-F PatternKind
plain_pattern y = map-PatternKind (Part pattern_kind_deep) PatternKind (bare pattern_kind_deep) y

pattern_layer_falls : (y : PatternLayer) → Falls (deep_in_pattern (map-PatternKind PatternKind Deep pattern_kind_deep (plain_pattern y)))
pattern_layer_falls (L.Paren p) = node_falls (node p.place p.marks (pattern_kind_deep p.kind.0)) p.kind.1
pattern_layer_falls (L.Tuple ps) = all_nodes_fall pattern_kind_deep ps
pattern_layer_falls (L.Cells ps tail) = cells_fall pattern_kind_deep ps tail
pattern_layer_falls (L.Map entries) = all_entries_fall pattern_kind_deep entries
pattern_layer_falls (L.Rec name tag fields) = all_fields_fall pattern_kind_deep fields
pattern_layer_falls (L.Alias p q) = both_falls (node_falls (node p.place p.marks (pattern_kind_deep p.kind.0)) p.kind.1) (node_falls (node q.place q.marks (pattern_kind_deep q.kind.0)) q.kind.1)
pattern_layer_falls _ = none_falls

pattern_kind_falls : (k : PatternKind) → Falls (pattern_kind_deep k)
pattern_kind_falls = ind-PatternKind (λ k. Falls (pattern_kind_deep k)) (λ x y e. subst (λ z. Falls (pattern_kind_deep (roll-PatternKind z))) e (falls_as (pattern_rolled (plain_pattern y)) (pattern_layer_falls y)))

pub pattern_falls : (p : Node PatternKind) → Falls (pattern_deep p)
pattern_falls p = node_falls (node p.place p.marks (pattern_kind_deep p.kind)) (pattern_kind_falls p.kind)

all_patterns_fall : (ps : List (Node PatternKind)) → Falls (deep_all pattern_deep ps)
all_patterns_fall [] = none_falls
all_patterns_fall (p ∷ ps) = both_falls (pattern_falls p) (all_patterns_fall ps)

class_falls : (class : Option (Node PatternKind)) → Falls (deep_optional pattern_deep class)
class_falls None = none_falls
class_falls (Some p) = pattern_falls p

-- ---- expressions

abbrev ExprPart : Type 0
ExprPart = Part expr_kind_deep

abbrev ItemPart : Type 0
ItemPart = Part item_kind_deep

abbrev QualifierPart : Type 0
QualifierPart = Part qualifier_kind_deep

abbrev AssocPart : Type 0
AssocPart = Part assoc_kind_deep

abbrev CatchPart : Type 0
CatchPart = Part catch_kind_deep

abbrev ClausePart : Type 0
ClausePart = Part clause_kind_deep

expr_node_falls : (e : Node ExprPart) → Falls (deep_node (node e.place e.marks (expr_kind_deep e.kind.0)))
expr_node_falls e = node_falls (node e.place e.marks (expr_kind_deep e.kind.0)) e.kind.1

abbrev plain_expr : E.ExprKind-F ExprPart ItemPart QualifierPart AssocPart CatchPart ClausePart → E.ExprKind-F ExprKind ItemKind QualifierKind AssocKind CatchKind ClauseKind
plain_expr y = map-ExprKind ExprPart ItemPart QualifierPart AssocPart CatchPart ClausePart ExprKind ItemKind QualifierKind AssocKind CatchKind ClauseKind (bare expr_kind_deep) (bare item_kind_deep) (bare qualifier_kind_deep) (bare assoc_kind_deep) (bare catch_kind_deep) (bare clause_kind_deep) y

abbrev plain_item : E.ItemKind-F ExprPart ItemPart QualifierPart AssocPart CatchPart ClausePart → E.ItemKind-F ExprKind ItemKind QualifierKind AssocKind CatchKind ClauseKind
plain_item y = map-ItemKind ExprPart ItemPart QualifierPart AssocPart CatchPart ClausePart ExprKind ItemKind QualifierKind AssocKind CatchKind ClauseKind (bare expr_kind_deep) (bare item_kind_deep) (bare qualifier_kind_deep) (bare assoc_kind_deep) (bare catch_kind_deep) (bare clause_kind_deep) y

abbrev plain_qualifier : E.QualifierKind-F ExprPart ItemPart QualifierPart AssocPart CatchPart ClausePart → E.QualifierKind-F ExprKind ItemKind QualifierKind AssocKind CatchKind ClauseKind
plain_qualifier y = map-QualifierKind ExprPart ItemPart QualifierPart AssocPart CatchPart ClausePart ExprKind ItemKind QualifierKind AssocKind CatchKind ClauseKind (bare expr_kind_deep) (bare item_kind_deep) (bare qualifier_kind_deep) (bare assoc_kind_deep) (bare catch_kind_deep) (bare clause_kind_deep) y

abbrev plain_assoc : E.AssocKind-F ExprPart ItemPart QualifierPart AssocPart CatchPart ClausePart → E.AssocKind-F ExprKind ItemKind QualifierKind AssocKind CatchKind ClauseKind
plain_assoc y = map-AssocKind ExprPart ItemPart QualifierPart AssocPart CatchPart ClausePart ExprKind ItemKind QualifierKind AssocKind CatchKind ClauseKind (bare expr_kind_deep) (bare item_kind_deep) (bare qualifier_kind_deep) (bare assoc_kind_deep) (bare catch_kind_deep) (bare clause_kind_deep) y

abbrev plain_catch : E.CatchKind-F ExprPart ItemPart QualifierPart AssocPart CatchPart ClausePart → E.CatchKind-F ExprKind ItemKind QualifierKind AssocKind CatchKind ClauseKind
plain_catch y = map-CatchKind ExprPart ItemPart QualifierPart AssocPart CatchPart ClausePart ExprKind ItemKind QualifierKind AssocKind CatchKind ClauseKind (bare expr_kind_deep) (bare item_kind_deep) (bare qualifier_kind_deep) (bare assoc_kind_deep) (bare catch_kind_deep) (bare clause_kind_deep) y

abbrev plain_clause : E.ClauseKind-F ExprPart ItemPart QualifierPart AssocPart CatchPart ClausePart → E.ClauseKind-F ExprKind ItemKind QualifierKind AssocKind CatchKind ClauseKind
plain_clause y = map-ClauseKind ExprPart ItemPart QualifierPart AssocPart CatchPart ClausePart ExprKind ItemKind QualifierKind AssocKind CatchKind ClauseKind (bare expr_kind_deep) (bare item_kind_deep) (bare qualifier_kind_deep) (bare assoc_kind_deep) (bare catch_kind_deep) (bare clause_kind_deep) y

abbrev meant_expr : E.ExprKind-F ExprKind ItemKind QualifierKind AssocKind CatchKind ClauseKind → E.ExprKind-F Deep Deep Deep Deep Deep Deep
meant_expr x = map-ExprKind ExprKind ItemKind QualifierKind AssocKind CatchKind ClauseKind Deep Deep Deep Deep Deep Deep expr_kind_deep item_kind_deep qualifier_kind_deep assoc_kind_deep catch_kind_deep clause_kind_deep x

abbrev meant_item : E.ItemKind-F ExprKind ItemKind QualifierKind AssocKind CatchKind ClauseKind → E.ItemKind-F Deep Deep Deep Deep Deep Deep
meant_item x = map-ItemKind ExprKind ItemKind QualifierKind AssocKind CatchKind ClauseKind Deep Deep Deep Deep Deep Deep expr_kind_deep item_kind_deep qualifier_kind_deep assoc_kind_deep catch_kind_deep clause_kind_deep x

abbrev meant_qualifier : E.QualifierKind-F ExprKind ItemKind QualifierKind AssocKind CatchKind ClauseKind → E.QualifierKind-F Deep Deep Deep Deep Deep Deep
meant_qualifier x = map-QualifierKind ExprKind ItemKind QualifierKind AssocKind CatchKind ClauseKind Deep Deep Deep Deep Deep Deep expr_kind_deep item_kind_deep qualifier_kind_deep assoc_kind_deep catch_kind_deep clause_kind_deep x

abbrev meant_assoc : E.AssocKind-F ExprKind ItemKind QualifierKind AssocKind CatchKind ClauseKind → E.AssocKind-F Deep Deep Deep Deep Deep Deep
meant_assoc x = map-AssocKind ExprKind ItemKind QualifierKind AssocKind CatchKind ClauseKind Deep Deep Deep Deep Deep Deep expr_kind_deep item_kind_deep qualifier_kind_deep assoc_kind_deep catch_kind_deep clause_kind_deep x

abbrev meant_catch : E.CatchKind-F ExprKind ItemKind QualifierKind AssocKind CatchKind ClauseKind → E.CatchKind-F Deep Deep Deep Deep Deep Deep
meant_catch x = map-CatchKind ExprKind ItemKind QualifierKind AssocKind CatchKind ClauseKind Deep Deep Deep Deep Deep Deep expr_kind_deep item_kind_deep qualifier_kind_deep assoc_kind_deep catch_kind_deep clause_kind_deep x

abbrev meant_clause : E.ClauseKind-F ExprKind ItemKind QualifierKind AssocKind CatchKind ClauseKind → E.ClauseKind-F Deep Deep Deep Deep Deep Deep
meant_clause x = map-ClauseKind ExprKind ItemKind QualifierKind AssocKind CatchKind ClauseKind Deep Deep Deep Deep Deep Deep expr_kind_deep item_kind_deep qualifier_kind_deep assoc_kind_deep catch_kind_deep clause_kind_deep x

expr_layer_falls : (y : E.ExprKind-F ExprPart ItemPart QualifierPart AssocPart CatchPart ClausePart) → Falls (deep_in_expr (meant_expr (plain_expr y)))
expr_layer_falls (E.Paren e) = expr_node_falls e
expr_layer_falls (E.Tuple es) = all_nodes_fall expr_kind_deep es
expr_layer_falls (E.Cells es tail) = cells_fall expr_kind_deep es tail
expr_layer_falls (E.Comp e qs) = both_falls (expr_node_falls e) (all_parts_fall qualifier_kind_deep qs)
expr_layer_falls (E.Unary op e) = expr_node_falls e
expr_layer_falls (E.Binary op a b) = both_falls (expr_node_falls a) (expr_node_falls b)
expr_layer_falls (E.Call prefix name args) = all_nodes_fall expr_kind_deep args
expr_layer_falls (E.Apply f args) = both_falls (expr_node_falls f) (all_nodes_fall expr_kind_deep args)
expr_layer_falls (E.MapNew assocs) = all_parts_fall assoc_kind_deep assocs
expr_layer_falls (E.MapChange e assocs) = both_falls (expr_node_falls e) (all_parts_fall assoc_kind_deep assocs)
expr_layer_falls (E.RecNew name tag fields) = all_fields_fall expr_kind_deep fields
expr_layer_falls (E.RecChange e name tag fields) = both_falls (expr_node_falls e) (all_fields_fall expr_kind_deep fields)
expr_layer_falls (E.RecGet e name tag field) = expr_node_falls e
expr_layer_falls (E.Begin items) = all_parts_fall item_kind_deep items
expr_layer_falls (E.Case e cs) = both_falls (expr_node_falls e) (all_parts_fall clause_kind_deep cs)
expr_layer_falls (E.If cs) = all_parts_fall clause_kind_deep cs
expr_layer_falls (E.Fun cs) = all_parts_fall clause_kind_deep cs
expr_layer_falls (E.Try body of_clauses catches after) = both_falls (all_parts_fall item_kind_deep body) (both_falls (all_parts_fall clause_kind_deep of_clauses) (both_falls (all_parts_fall catch_kind_deep catches) (after_falls item_kind_deep after)))
expr_layer_falls _ = none_falls

item_layer_falls : (y : E.ItemKind-F ExprPart ItemPart QualifierPart AssocPart CatchPart ClausePart) → Falls (deep_in_item (meant_item (plain_item y)))
item_layer_falls (E.Value e) = expr_node_falls e
item_layer_falls (E.Match p e) = both_falls (pattern_falls p) (expr_node_falls e)

qualifier_layer_falls : (y : E.QualifierKind-F ExprPart ItemPart QualifierPart AssocPart CatchPart ClausePart) → Falls (deep_in_qualifier (meant_qualifier (plain_qualifier y)))
qualifier_layer_falls (E.Generator p e) = both_falls (pattern_falls p) (expr_node_falls e)
qualifier_layer_falls (E.Filter e) = expr_node_falls e

assoc_layer_falls : (y : E.AssocKind-F ExprPart ItemPart QualifierPart AssocPart CatchPart ClausePart) → Falls (deep_in_assoc (meant_assoc (plain_assoc y)))
assoc_layer_falls y = both_falls (expr_node_falls y.key) (expr_node_falls y.value)

catch_layer_falls : (y : E.CatchKind-F ExprPart ItemPart QualifierPart AssocPart CatchPart ClausePart) → Falls (deep_in_catch (meant_catch (plain_catch y)))
catch_layer_falls y = both_falls (class_falls y.class) y.clause.kind.1

clause_layer_falls : (y : E.ClauseKind-F ExprPart ItemPart QualifierPart AssocPart CatchPart ClausePart) → Falls (deep_in_clause (meant_clause (plain_clause y)))
clause_layer_falls y = both_falls (all_patterns_fall y.patterns) (both_falls (guard_falls expr_kind_deep y.guard) (all_parts_fall item_kind_deep y.body))

-- one level
assoc_rolled : (layer : E.AssocKind-F ExprKind ItemKind QualifierKind AssocKind CatchKind ClauseKind) (levels : ℕ) → assoc_kind_deep (roll-AssocKind layer) levels ≡ deep_in_assoc (meant_assoc layer) levels
unfolding expr_kind_deep item_kind_deep qualifier_kind_deep assoc_kind_deep catch_kind_deep clause_kind_deep
assoc_rolled layer levels = ap (λ (f : Deep). f levels) (fold-roll-AssocKind Deep Deep Deep Deep Deep Deep deep_in_expr deep_in_item deep_in_qualifier deep_in_assoc deep_in_catch deep_in_clause layer)

-- one level
catch_rolled : (layer : E.CatchKind-F ExprKind ItemKind QualifierKind AssocKind CatchKind ClauseKind) (levels : ℕ) → catch_kind_deep (roll-CatchKind layer) levels ≡ deep_in_catch (meant_catch layer) levels
unfolding expr_kind_deep item_kind_deep qualifier_kind_deep assoc_kind_deep catch_kind_deep clause_kind_deep
catch_rolled layer levels = ap (λ (f : Deep). f levels) (fold-roll-CatchKind Deep Deep Deep Deep Deep Deep deep_in_expr deep_in_item deep_in_qualifier deep_in_assoc deep_in_catch deep_in_clause layer)

-- one level
clause_rolled : (layer : E.ClauseKind-F ExprKind ItemKind QualifierKind AssocKind CatchKind ClauseKind) (levels : ℕ) → clause_kind_deep (roll-ClauseKind layer) levels ≡ deep_in_clause (meant_clause layer) levels
unfolding expr_kind_deep item_kind_deep qualifier_kind_deep assoc_kind_deep catch_kind_deep clause_kind_deep
clause_rolled layer levels = ap (λ (f : Deep). f levels) (fold-roll-ClauseKind Deep Deep Deep Deep Deep Deep deep_in_expr deep_in_item deep_in_qualifier deep_in_assoc deep_in_catch deep_in_clause layer)

expr_kind_falls : (k : ExprKind) → Falls (expr_kind_deep k)
expr_kind_falls = ind-ExprKind (λ k. Falls (expr_kind_deep k)) (λ k. Falls (item_kind_deep k)) (λ k. Falls (qualifier_kind_deep k)) (λ k. Falls (assoc_kind_deep k)) (λ k. Falls (catch_kind_deep k)) (λ k. Falls (clause_kind_deep k))
    (λ x y e. subst (λ z. Falls (expr_kind_deep (roll-ExprKind z))) e (falls_as (expr_rolled (plain_expr y)) (expr_layer_falls y)))
    (λ x y e. subst (λ z. Falls (item_kind_deep (roll-ItemKind z))) e (falls_as (item_rolled (plain_item y)) (item_layer_falls y)))
    (λ x y e. subst (λ z. Falls (qualifier_kind_deep (roll-QualifierKind z))) e (falls_as (qualifier_rolled (plain_qualifier y)) (qualifier_layer_falls y)))
    (λ x y e. subst (λ z. Falls (assoc_kind_deep (roll-AssocKind z))) e (falls_as (assoc_rolled (plain_assoc y)) (assoc_layer_falls y)))
    (λ x y e. subst (λ z. Falls (catch_kind_deep (roll-CatchKind z))) e (falls_as (catch_rolled (plain_catch y)) (catch_layer_falls y)))
    (λ x y e. subst (λ z. Falls (clause_kind_deep (roll-ClauseKind z))) e (falls_as (clause_rolled (plain_clause y)) (clause_layer_falls y)))

pub expr_falls : (e : Node ExprKind) → Falls (expr_deep e)
expr_falls e = node_falls (node e.place e.marks (expr_kind_deep e.kind)) (expr_kind_falls e.kind)
