-- The numbers of fun expressions: those in a tree don't depend on how it is run, those inside a fun expression have the numbers behind its own, and each function of a module has those of its own at the number that it is listed with.
use Rattle.std.proofs.Common.{◌≡◌, refl, sym, ◌∙◌, ap, subst, ℕ, zero, suc, ◌+◌, List, [], ◌∷◌, ◌++◌, map, length, inl, inr, Bool, true, false, ◌&&◌, ◌||◌, cond, nat_eq, is_some, arith}
use Rattle.std.specs.Prelude.{Option, Some, None, slice_get}
use Rattle.std.specs.List.{list_any}
use Rattle.std.proofs.lemmas.Bool.{true≢false}
use Rattle.std.proofs.lemmas.Bool.Decides.{Decides-eqb}
use Rattle.type_terms.specs.Keys.{Name, same_name}
use Rattle.type_terms.proofs.KeyLaws.{name-is, name-refl}
use Rattle.erl_tree.specs.declared.token.Node.{Node}
use Rattle.erl_tree.specs.declared.expr.ExprKind.{ExprKind, out-ExprKind, roll-ExprKind, map-ExprKind, ind-ExprKind}
use Rattle.erl_tree.specs.declared.expr.ItemKind.{ItemKind, roll-ItemKind, map-ItemKind}
use Rattle.erl_tree.specs.declared.expr.QualifierKind.{QualifierKind, roll-QualifierKind, map-QualifierKind}
use Rattle.erl_tree.specs.declared.expr.AssocKind.{AssocKind, roll-AssocKind, map-AssocKind}
use Rattle.erl_tree.specs.declared.expr.CatchKind.{CatchKind, roll-CatchKind, map-CatchKind}
use Rattle.erl_tree.specs.declared.expr.ClauseKind.{ClauseKind, roll-ClauseKind, map-ClauseKind, ind-ClauseKind}
use Rattle.erl_tree.specs.declared.expr.ExprKind.TheOpen as E
use Rattle.erl_tree.specs.declared.expr.ExprKind.TheShapes as S
use Rattle.erl_tree.specs.declared.form.Function.{Function}
use Rattle.erl_tree.specs.declared.form.RecDefKind.{RecDefKind}
use Rattle.erl_tree.specs.declared.form.Module.{Module}
use Rattle.erl_tree.specs.Lists.{Among}
use Rattle.erl_tree.specs.Functions.{of_function, function_id, functions_of, clauses_arity}
use Rattle.erl_runs.specs.Names.{same_id}
use Rattle.erl_runs.specs.Value.{Value, Environment, Outcome, wrong}
use Rattle.erl_runs.specs.Operations.{Association}
use Rattle.erl_runs.specs.Running.{Part, Does, Choice, Applies, is_fun_layer, with_itself, part, parts, all_of, funs_in, funs_in_choices, behind, optional, funs_in_optional, field_parts, tail_part, run_layer, run_item_layer, run_qualifier_layer, run_assoc_layer, run_clause_layer, run_catch_layer, run_kind, choice_kind, choices, applies_nothing, funs_in_function, funs_in_functions, funs_with, outside_funs, numbered, find_numbered, code_of}
use Rattle.erl_runs.proofs.RunLaws.{Trees, item_kind, qualifier_kind, assoc_kind, caught_kind, with_expr, with_item, with_qualifier, with_assoc, with_caught, with_choice, expr_layer, item_layer, qualifier_layer, assoc_layer, caught_layer, choice_layer, expr-rolls, item-rolls, qualifier-rolls, assoc-rolls, caught-rolls, choice-rolls}

-- ---- lists at numbers

some-inj : {A : Type 0} (a b : A) → Some a ≡ Some b → a ≡ b
some-inj a b e = cc

get-front : {A : Type 0} (xs ys : List A) (i : ℕ) (a : A) → slice_get xs i ≡ Some a → slice_get (xs ++ ys) i ≡ Some a
get-front [] ys i a e = absurd (cc)
get-front (x ∷ xs) ys zero a e = e
get-front (x ∷ xs) ys (suc i) a e = get-front xs ys i a e

get-behind : {A : Type 0} (xs ys : List A) (k i : ℕ) → k ≡ length xs + i → slice_get (xs ++ ys) k ≡ slice_get ys i
get-behind [] ys k i e = let q : k ≡ i = omega arith in ap (slice_get ys) q
get-behind (x ∷ xs) ys zero i e = absurd (omega arith)
get-behind (x ∷ xs) ys (suc k) i e = get-behind xs ys k i (omega arith)

-- fun expressions that stand at the numbers from this one on
abbrev pub StandAt : List (Node ExprKind) → ℕ → List (Node ExprKind) → Type 0
StandAt all number funs = (i : ℕ) (e : Node ExprKind) → slice_get funs i ≡ Some e → slice_get all (number + i) ≡ Some e

at-number : (all : List (Node ExprKind)) (e : Node ExprKind) (a b : ℕ) → a ≡ b → slice_get all a ≡ Some e → slice_get all b ≡ Some e
at-number all e a b q h = subst (λ n. slice_get all n ≡ Some e) q h

pub stand-append : (all : List (Node ExprKind)) (number : ℕ) (xs ys : List (Node ExprKind)) → StandAt all number (xs ++ ys) → StandAt all number xs × StandAt all (behind number xs) ys
stand-append all number xs ys s = (
  (λ i e h. s i e (get-front xs ys i e h)),
  (λ i e h. at-number all e (number + (length xs + i)) (behind number xs + i) (omega arith) (s (length xs + i) e (get-behind xs ys (length xs + i) i refl ∙ h))),
)

-- the first of them has the number itself
pub stand-first : (all : List (Node ExprKind)) (number : ℕ) (e : Node ExprKind) (inner : List (Node ExprKind)) → StandAt all number (e ∷ inner) → slice_get all number ≡ Some e
stand-first all number e inner s = at-number all e (number + 0) number (omega arith) (s 0 e refl)

-- a list stands in itself, at 0
pub stand-itself : (xs ys : List (Node ExprKind)) → StandAt (xs ++ ys) 0 xs
stand-itself xs ys i e h = at-number (xs ++ ys) e i (0 + i) (omega arith) (get-front xs ys i e h)

-- ---- the fun expressions in a tree

-- what the arity of no fun is asked for
abbrev pub no_arity : Value → ℕ
no_arity v = 0

-- those inside an expression
abbrev pub inside : ExprKind → List (Node ExprKind)
inside k = (run_kind wrong [] no_arity applies_nothing k).inner

-- behind each fun expression stand those inside it
abbrev pub IsNested : List (Node ExprKind) → Type 0
IsNested funs = (i : ℕ) (e : Node ExprKind) → slice_get funs i ≡ Some e → StandAt funs (suc i) (inside e.kind)

nested-none : IsNested []
nested-none i e h = absurd (cc)

nested-tail : (x : Node ExprKind) (xs : List (Node ExprKind)) → IsNested (x ∷ xs) → IsNested xs
nested-tail x xs h i e p j d q = at-number (x ∷ xs) d (suc (suc i) + j) (suc (suc i + j)) (omega arith) (h (suc i) e p j d q)

nested-append : (xs ys : List (Node ExprKind)) → IsNested xs → IsNested ys → IsNested (xs ++ ys)
nested-append [] ys h k i e p j d q = k i e p j d q
nested-append (x ∷ xs) ys h k zero e p j d q = get-front (x ∷ xs) ys (suc zero + j) d (h zero e p j d q)
nested-append (x ∷ xs) ys h k (suc i) e p j d q =
    at-number (x ∷ (xs ++ ys)) d (suc (suc i + j)) (suc (suc i) + j) (omega arith) (nested-append xs ys (nested-tail x xs h) k i e p j d q)

nested-itself : (e : Node ExprKind) → IsNested (inside e.kind) → IsNested (e ∷ inside e.kind)
nested-itself e h zero d p j c q =
    at-number (e ∷ inside e.kind) c (suc j) (suc zero + j) (omega arith) (subst (λ (z : Node ExprKind). slice_get (inside z.kind) j ≡ Some c) (sym (some-inj e d p)) q)
nested-itself e h (suc i) d p j c q = at-number (e ∷ inside e.kind) c (suc (suc i + j)) (suc (suc i) + j) (omega arith) (h i d p j c q)

nested-with : (e : Node ExprKind) → IsNested (inside e.kind) → (b : Bool) → IsNested (with_itself b e (inside e.kind))
nested-with e h true = nested-itself e h
nested-with e h false = h

-- the same fun expressions, each with those inside it behind it
record Fixed (xs ys : List (Node ExprKind)) : Type 0 where
  same : xs ≡ ys
  nested : IsNested ys

fixed-none : Fixed [] []
fixed-none = record { same = refl; nested = nested-none }

fixed-append : {xs ys us vs : List (Node ExprKind)} → Fixed xs ys → Fixed us vs → Fixed (xs ++ us) (ys ++ vs)
fixed-append {xs} {ys} {us} {vs} f g = record { same = λ j. f.same j ++ g.same j; nested = nested-append ys vs f.nested g.nested }

-- ---- each kind of node, however it is run

module _ (unbound : Outcome Value) (records : List RecDefKind) (arity : Value → ℕ) (apply : Applies) where
  abbrev IsExprFixed : ExprKind → Type 0
  IsExprFixed t = Fixed (run_kind unbound records arity apply t).inner (run_kind wrong [] no_arity applies_nothing t).inner

  abbrev IsItemFixed : ItemKind → Type 0
  IsItemFixed t = Fixed (item_kind unbound records arity apply t).funs (item_kind wrong [] no_arity applies_nothing t).funs

  abbrev IsQualifierFixed : QualifierKind → Type 0
  IsQualifierFixed t = Fixed (qualifier_kind unbound records arity apply t).funs (qualifier_kind wrong [] no_arity applies_nothing t).funs

  abbrev IsAssocFixed : AssocKind → Type 0
  IsAssocFixed t = Fixed (assoc_kind unbound records arity apply t).funs (assoc_kind wrong [] no_arity applies_nothing t).funs

  abbrev IsCatchFixed : CatchKind → Type 0
  IsCatchFixed t = Fixed (caught_kind unbound records arity apply t).funs (caught_kind wrong [] no_arity applies_nothing t).funs

  abbrev IsClauseFixed : ClauseKind → Type 0
  IsClauseFixed t = Fixed (choice_kind unbound records arity apply t).funs (choice_kind wrong [] no_arity applies_nothing t).funs

  abbrev ExprFixed : Type 0
  ExprFixed = (t : ExprKind) × IsExprFixed t

  abbrev ItemFixed : Type 0
  ItemFixed = (t : ItemKind) × IsItemFixed t

  abbrev QualifierFixed : Type 0
  QualifierFixed = (t : QualifierKind) × IsQualifierFixed t

  abbrev AssocFixed : Type 0
  AssocFixed = (t : AssocKind) × IsAssocFixed t

  abbrev CatchFixed : Type 0
  CatchFixed = (t : CatchKind) × IsCatchFixed t

  abbrev ClauseFixed : Type 0
  ClauseFixed = (t : ClauseKind) × IsClauseFixed t

  abbrev plain_expr : E.ExprKind-F ExprFixed ItemFixed QualifierFixed AssocFixed CatchFixed ClauseFixed → Trees E.ExprKind-F
  plain_expr y = map-ExprKind ExprFixed ItemFixed QualifierFixed AssocFixed CatchFixed ClauseFixed ExprKind ItemKind QualifierKind AssocKind CatchKind ClauseKind (λ t. t.0) (λ t. t.0) (λ t. t.0) (λ t. t.0) (λ t. t.0) (λ t. t.0) y

  abbrev plain_item : E.ItemKind-F ExprFixed ItemFixed QualifierFixed AssocFixed CatchFixed ClauseFixed → Trees E.ItemKind-F
  plain_item y = map-ItemKind ExprFixed ItemFixed QualifierFixed AssocFixed CatchFixed ClauseFixed ExprKind ItemKind QualifierKind AssocKind CatchKind ClauseKind (λ t. t.0) (λ t. t.0) (λ t. t.0) (λ t. t.0) (λ t. t.0) (λ t. t.0) y

  abbrev plain_qualifier : E.QualifierKind-F ExprFixed ItemFixed QualifierFixed AssocFixed CatchFixed ClauseFixed → Trees E.QualifierKind-F
  plain_qualifier y = map-QualifierKind ExprFixed ItemFixed QualifierFixed AssocFixed CatchFixed ClauseFixed ExprKind ItemKind QualifierKind AssocKind CatchKind ClauseKind (λ t. t.0) (λ t. t.0) (λ t. t.0) (λ t. t.0) (λ t. t.0) (λ t. t.0) y

  abbrev plain_assoc : E.AssocKind-F ExprFixed ItemFixed QualifierFixed AssocFixed CatchFixed ClauseFixed → Trees E.AssocKind-F
  plain_assoc y = map-AssocKind ExprFixed ItemFixed QualifierFixed AssocFixed CatchFixed ClauseFixed ExprKind ItemKind QualifierKind AssocKind CatchKind ClauseKind (λ t. t.0) (λ t. t.0) (λ t. t.0) (λ t. t.0) (λ t. t.0) (λ t. t.0) y

  abbrev plain_caught : E.CatchKind-F ExprFixed ItemFixed QualifierFixed AssocFixed CatchFixed ClauseFixed → Trees E.CatchKind-F
  plain_caught y = map-CatchKind ExprFixed ItemFixed QualifierFixed AssocFixed CatchFixed ClauseFixed ExprKind ItemKind QualifierKind AssocKind CatchKind ClauseKind (λ t. t.0) (λ t. t.0) (λ t. t.0) (λ t. t.0) (λ t. t.0) (λ t. t.0) y

  abbrev plain_choice : E.ClauseKind-F ExprFixed ItemFixed QualifierFixed AssocFixed CatchFixed ClauseFixed → Trees E.ClauseKind-F
  plain_choice y = map-ClauseKind ExprFixed ItemFixed QualifierFixed AssocFixed CatchFixed ClauseFixed ExprKind ItemKind QualifierKind AssocKind CatchKind ClauseKind (λ t. t.0) (λ t. t.0) (λ t. t.0) (λ t. t.0) (λ t. t.0) (λ t. t.0) y

  abbrev tree : {A : Type 0} {B : A → Type 0} → Node ((t : A) × B t) → Node A
  tree t = record { place = t.place; marks = t.marks; kind = t.kind.0 }

  part-fixed : (t : Node ExprFixed) → Fixed
      (part (record { place = t.place; marks = t.marks; kind = with_expr unbound records arity apply t.kind.0 })).funs
      (part (record { place = t.place; marks = t.marks; kind = with_expr wrong [] no_arity applies_nothing t.kind.0 })).funs
  part-fixed t = record { same = λ j. with_itself (is_fun_layer (out-ExprKind t.kind.0)) (tree t) (t.kind.1.same j); nested = nested-with (tree t) t.kind.1.nested (is_fun_layer (out-ExprKind t.kind.0)) }

  exprs-fixed : (ts : List (Node ExprFixed)) → Fixed
      (funs_in (parts (S.former-ExprKind-Tuple-0.map ExprKind (ExprKind × Does) (with_expr unbound records arity apply) (S.former-ExprKind-Tuple-0.map ExprFixed ExprKind (λ t. t.0) ts))))
      (funs_in (parts (S.former-ExprKind-Tuple-0.map ExprKind (ExprKind × Does) (with_expr wrong [] no_arity applies_nothing) (S.former-ExprKind-Tuple-0.map ExprFixed ExprKind (λ t. t.0) ts))))
  exprs-fixed [] = fixed-none
  exprs-fixed (t ∷ ts) = fixed-append (part-fixed t) (exprs-fixed ts)

  items-fixed : (ts : List (Node ItemFixed)) → Fixed
      (funs_in (all_of (S.former-ExprKind-Begin-0.map ItemKind (ItemKind × Part (Value × Environment)) (with_item unbound records arity apply) (S.former-ExprKind-Begin-0.map ItemFixed ItemKind (λ t. t.0) ts))))
      (funs_in (all_of (S.former-ExprKind-Begin-0.map ItemKind (ItemKind × Part (Value × Environment)) (with_item wrong [] no_arity applies_nothing) (S.former-ExprKind-Begin-0.map ItemFixed ItemKind (λ t. t.0) ts))))
  items-fixed [] = fixed-none
  items-fixed (t ∷ ts) = fixed-append (t.kind.1) (items-fixed ts)

  qualifiers-fixed : (ts : List (Node QualifierFixed)) → Fixed
      (funs_in (all_of (S.former-ExprKind-Comp-1.map QualifierKind (QualifierKind × Part (List Environment)) (with_qualifier unbound records arity apply) (S.former-ExprKind-Comp-1.map QualifierFixed QualifierKind (λ t. t.0) ts))))
      (funs_in (all_of (S.former-ExprKind-Comp-1.map QualifierKind (QualifierKind × Part (List Environment)) (with_qualifier wrong [] no_arity applies_nothing) (S.former-ExprKind-Comp-1.map QualifierFixed QualifierKind (λ t. t.0) ts))))
  qualifiers-fixed [] = fixed-none
  qualifiers-fixed (t ∷ ts) = fixed-append (t.kind.1) (qualifiers-fixed ts)

  assocs-fixed : (ts : List (Node AssocFixed)) → Fixed
      (funs_in (all_of (S.former-ExprKind-MapNew-0.map AssocKind (AssocKind × Part Association) (with_assoc unbound records arity apply) (S.former-ExprKind-MapNew-0.map AssocFixed AssocKind (λ t. t.0) ts))))
      (funs_in (all_of (S.former-ExprKind-MapNew-0.map AssocKind (AssocKind × Part Association) (with_assoc wrong [] no_arity applies_nothing) (S.former-ExprKind-MapNew-0.map AssocFixed AssocKind (λ t. t.0) ts))))
  assocs-fixed [] = fixed-none
  assocs-fixed (t ∷ ts) = fixed-append (t.kind.1) (assocs-fixed ts)

  choices-fixed : (ts : List (Node ClauseFixed)) → Fixed
      (funs_in_choices (all_of (S.former-ExprKind-Case-1.map ClauseKind (ClauseKind × Choice) (with_choice unbound records arity apply) (S.former-ExprKind-Case-1.map ClauseFixed ClauseKind (λ t. t.0) ts))))
      (funs_in_choices (all_of (S.former-ExprKind-Case-1.map ClauseKind (ClauseKind × Choice) (with_choice wrong [] no_arity applies_nothing) (S.former-ExprKind-Case-1.map ClauseFixed ClauseKind (λ t. t.0) ts))))
  choices-fixed [] = fixed-none
  choices-fixed (t ∷ ts) = fixed-append (t.kind.1) (choices-fixed ts)

  catches-fixed : (ts : List (Node CatchFixed)) → Fixed
      (funs_in_choices (all_of (S.former-ExprKind-Try-2.map CatchKind (CatchKind × Choice) (with_caught unbound records arity apply) (S.former-ExprKind-Try-2.map CatchFixed CatchKind (λ t. t.0) ts))))
      (funs_in_choices (all_of (S.former-ExprKind-Try-2.map CatchKind (CatchKind × Choice) (with_caught wrong [] no_arity applies_nothing) (S.former-ExprKind-Try-2.map CatchFixed CatchKind (λ t. t.0) ts))))
  catches-fixed [] = fixed-none
  catches-fixed (t ∷ ts) = fixed-append (t.kind.1) (catches-fixed ts)

  fields-fixed : (ts : List (Node (Name × Node ExprFixed))) → Fixed
      (funs_in (field_parts (S.former-ExprKind-RecNew-2.map ExprKind (ExprKind × Does) (with_expr unbound records arity apply) (S.former-ExprKind-RecNew-2.map ExprFixed ExprKind (λ t. t.0) ts))))
      (funs_in (field_parts (S.former-ExprKind-RecNew-2.map ExprKind (ExprKind × Does) (with_expr wrong [] no_arity applies_nothing) (S.former-ExprKind-RecNew-2.map ExprFixed ExprKind (λ t. t.0) ts))))
  fields-fixed [] = fixed-none
  fields-fixed (t ∷ ts) = fixed-append (part-fixed t.kind.1) (fields-fixed ts)

  tail-fixed : (o : Option (Node ExprFixed)) → Fixed
      ((tail_part (S.former-ExprKind-Cells-1.map ExprKind (ExprKind × Does) (with_expr unbound records arity apply) (S.former-ExprKind-Cells-1.map ExprFixed ExprKind (λ t. t.0) o))).funs)
      ((tail_part (S.former-ExprKind-Cells-1.map ExprKind (ExprKind × Does) (with_expr wrong [] no_arity applies_nothing) (S.former-ExprKind-Cells-1.map ExprFixed ExprKind (λ t. t.0) o))).funs)
  tail-fixed None = fixed-none
  tail-fixed (Some t) = part-fixed t

  after-fixed : (o : Option (List (Node ItemFixed))) → Fixed
      (funs_in_optional (optional (S.former-ExprKind-Try-3.map ItemKind (ItemKind × Part (Value × Environment)) (with_item unbound records arity apply) (S.former-ExprKind-Try-3.map ItemFixed ItemKind (λ t. t.0) o))))
      (funs_in_optional (optional (S.former-ExprKind-Try-3.map ItemKind (ItemKind × Part (Value × Environment)) (with_item wrong [] no_arity applies_nothing) (S.former-ExprKind-Try-3.map ItemFixed ItemKind (λ t. t.0) o))))
  after-fixed None = fixed-none
  after-fixed (Some ts) = items-fixed ts

  -- ---- one level of each kind of node

  layer-fixed : (y : E.ExprKind-F ExprFixed ItemFixed QualifierFixed AssocFixed CatchFixed ClauseFixed) → Fixed
      (run_layer unbound records arity apply (expr_layer unbound records arity apply (plain_expr y))).inner
      (run_layer wrong [] no_arity applies_nothing (expr_layer wrong [] no_arity applies_nothing (plain_expr y))).inner
  layer-fixed (E.Paren x) = part-fixed x
  layer-fixed (E.Tuple es) = exprs-fixed es
  layer-fixed (E.Cells es t) = fixed-append (exprs-fixed es) (tail-fixed t)
  layer-fixed (E.Comp x qs) = fixed-append (part-fixed x) (qualifiers-fixed qs)
  layer-fixed (E.Unary op x) = part-fixed x
  layer-fixed (E.Binary op x y) = fixed-append (part-fixed x) (part-fixed y)
  layer-fixed (E.Call prefix name es) = exprs-fixed es
  layer-fixed (E.Apply x es) = fixed-append (part-fixed x) (exprs-fixed es)
  layer-fixed (E.MapNew assocs) = assocs-fixed assocs
  layer-fixed (E.MapChange x assocs) = fixed-append (part-fixed x) (assocs-fixed assocs)
  layer-fixed (E.RecNew name tag fs) = fields-fixed fs
  layer-fixed (E.RecChange x name tag fs) = fixed-append (part-fixed x) (fields-fixed fs)
  layer-fixed (E.RecGet x name tag field) = part-fixed x
  layer-fixed (E.Begin is) = items-fixed is
  layer-fixed (E.Case x cs) = fixed-append (part-fixed x) (choices-fixed cs)
  layer-fixed (E.If cs) = choices-fixed cs
  layer-fixed (E.Fun cs) = choices-fixed cs
  layer-fixed (E.Try is cs catches after) = fixed-append (items-fixed is) (fixed-append (choices-fixed cs) (fixed-append (catches-fixed catches) (after-fixed after)))
  layer-fixed _ = fixed-none

  item_layer-fixed : (y : E.ItemKind-F ExprFixed ItemFixed QualifierFixed AssocFixed CatchFixed ClauseFixed) → Fixed
      (run_item_layer unbound records arity apply (item_layer unbound records arity apply (plain_item y))).funs
      (run_item_layer wrong [] no_arity applies_nothing (item_layer wrong [] no_arity applies_nothing (plain_item y))).funs
  item_layer-fixed (E.Value x) = part-fixed x
  item_layer-fixed (E.Match pattern x) = part-fixed x

  qualifier_layer-fixed : (y : E.QualifierKind-F ExprFixed ItemFixed QualifierFixed AssocFixed CatchFixed ClauseFixed) → Fixed
      (run_qualifier_layer unbound records arity apply (qualifier_layer unbound records arity apply (plain_qualifier y))).funs
      (run_qualifier_layer wrong [] no_arity applies_nothing (qualifier_layer wrong [] no_arity applies_nothing (plain_qualifier y))).funs
  qualifier_layer-fixed (E.Generator pattern x) = part-fixed x
  qualifier_layer-fixed (E.Filter x) = part-fixed x

  assoc_layer-fixed : (y : E.AssocKind-F ExprFixed ItemFixed QualifierFixed AssocFixed CatchFixed ClauseFixed) → Fixed
      (run_assoc_layer unbound records arity apply (assoc_layer unbound records arity apply (plain_assoc y))).funs
      (run_assoc_layer wrong [] no_arity applies_nothing (assoc_layer wrong [] no_arity applies_nothing (plain_assoc y))).funs
  assoc_layer-fixed y = fixed-append (part-fixed y.key) (part-fixed y.value)

  catch_layer-fixed : (y : E.CatchKind-F ExprFixed ItemFixed QualifierFixed AssocFixed CatchFixed ClauseFixed) → Fixed
      (run_catch_layer unbound records arity apply (caught_layer unbound records arity apply (plain_caught y))).funs
      (run_catch_layer wrong [] no_arity applies_nothing (caught_layer wrong [] no_arity applies_nothing (plain_caught y))).funs
  catch_layer-fixed y = y.clause.kind.1

  clause_layer-fixed : (y : E.ClauseKind-F ExprFixed ItemFixed QualifierFixed AssocFixed CatchFixed ClauseFixed) → Fixed
      (run_clause_layer unbound records arity apply (choice_layer unbound records arity apply (plain_choice y))).funs
      (run_clause_layer wrong [] no_arity applies_nothing (choice_layer wrong [] no_arity applies_nothing (plain_choice y))).funs
  clause_layer-fixed y = items-fixed y.body

  roll_expr-fixed : (x : Trees E.ExprKind-F) (y : E.ExprKind-F ExprFixed ItemFixed QualifierFixed AssocFixed CatchFixed ClauseFixed) → plain_expr y ≡ x → IsExprFixed (roll-ExprKind x)
  roll_expr-fixed x y e = subst (λ z. IsExprFixed (roll-ExprKind z)) e
      (subst (λ X. X) (λ j. Fixed (sym (expr-rolls unbound records arity apply (plain_expr y)) j).inner (sym (expr-rolls wrong [] no_arity applies_nothing (plain_expr y)) j).inner) (layer-fixed y))

  roll_item-fixed : (x : Trees E.ItemKind-F) (y : E.ItemKind-F ExprFixed ItemFixed QualifierFixed AssocFixed CatchFixed ClauseFixed) → plain_item y ≡ x → IsItemFixed (roll-ItemKind x)
  roll_item-fixed x y e = subst (λ z. IsItemFixed (roll-ItemKind z)) e
      (subst (λ X. X) (λ j. Fixed (sym (item-rolls unbound records arity apply (plain_item y)) j).funs (sym (item-rolls wrong [] no_arity applies_nothing (plain_item y)) j).funs) (item_layer-fixed y))

  roll_qualifier-fixed : (x : Trees E.QualifierKind-F) (y : E.QualifierKind-F ExprFixed ItemFixed QualifierFixed AssocFixed CatchFixed ClauseFixed) → plain_qualifier y ≡ x → IsQualifierFixed (roll-QualifierKind x)
  roll_qualifier-fixed x y e = subst (λ z. IsQualifierFixed (roll-QualifierKind z)) e
      (subst (λ X. X) (λ j. Fixed (sym (qualifier-rolls unbound records arity apply (plain_qualifier y)) j).funs (sym (qualifier-rolls wrong [] no_arity applies_nothing (plain_qualifier y)) j).funs) (qualifier_layer-fixed y))

  roll_assoc-fixed : (x : Trees E.AssocKind-F) (y : E.AssocKind-F ExprFixed ItemFixed QualifierFixed AssocFixed CatchFixed ClauseFixed) → plain_assoc y ≡ x → IsAssocFixed (roll-AssocKind x)
  roll_assoc-fixed x y e = subst (λ z. IsAssocFixed (roll-AssocKind z)) e
      (subst (λ X. X) (λ j. Fixed (sym (assoc-rolls unbound records arity apply (plain_assoc y)) j).funs (sym (assoc-rolls wrong [] no_arity applies_nothing (plain_assoc y)) j).funs) (assoc_layer-fixed y))

  roll_caught-fixed : (x : Trees E.CatchKind-F) (y : E.CatchKind-F ExprFixed ItemFixed QualifierFixed AssocFixed CatchFixed ClauseFixed) → plain_caught y ≡ x → IsCatchFixed (roll-CatchKind x)
  roll_caught-fixed x y e = subst (λ z. IsCatchFixed (roll-CatchKind z)) e
      (subst (λ X. X) (λ j. Fixed (sym (caught-rolls unbound records arity apply (plain_caught y)) j).funs (sym (caught-rolls wrong [] no_arity applies_nothing (plain_caught y)) j).funs) (catch_layer-fixed y))

  roll_choice-fixed : (x : Trees E.ClauseKind-F) (y : E.ClauseKind-F ExprFixed ItemFixed QualifierFixed AssocFixed CatchFixed ClauseFixed) → plain_choice y ≡ x → IsClauseFixed (roll-ClauseKind x)
  roll_choice-fixed x y e = subst (λ z. IsClauseFixed (roll-ClauseKind z)) e
      (subst (λ X. X) (λ j. Fixed (sym (choice-rolls unbound records arity apply (plain_choice y)) j).funs (sym (choice-rolls wrong [] no_arity applies_nothing (plain_choice y)) j).funs) (clause_layer-fixed y))

  kind-fixed : (t : ExprKind) → IsExprFixed t
  kind-fixed = ind-ExprKind IsExprFixed IsItemFixed IsQualifierFixed IsAssocFixed IsCatchFixed IsClauseFixed roll_expr-fixed roll_item-fixed roll_qualifier-fixed roll_assoc-fixed roll_caught-fixed roll_choice-fixed

  clause-fixed : (t : ClauseKind) → IsClauseFixed t
  clause-fixed = ind-ClauseKind IsExprFixed IsItemFixed IsQualifierFixed IsAssocFixed IsCatchFixed IsClauseFixed roll_expr-fixed roll_item-fixed roll_qualifier-fixed roll_assoc-fixed roll_caught-fixed roll_choice-fixed

  clauses-fixed : (cs : List (Node ClauseKind)) → Fixed (funs_in_choices (choices unbound records arity apply cs)) (funs_in_choices (choices wrong [] no_arity applies_nothing cs))
  clauses-fixed [] = fixed-none
  clauses-fixed (c ∷ cs) = fixed-append (clause-fixed c.kind) (clauses-fixed cs)

  -- those inside an expression
  pub inside-same : (t : ExprKind) → (run_kind unbound records arity apply t).inner ≡ inside t
  inside-same t = (kind-fixed t).same

  -- those in clauses
  pub clauses-same : (cs : List (Node ClauseKind)) → funs_in_choices (choices unbound records arity apply cs) ≡ funs_in_choices (choices wrong [] no_arity applies_nothing cs)
  clauses-same cs = (clauses-fixed cs).same

-- ---- modules

functions-nested : (fs : List Function) → IsNested (funs_in_functions fs)
functions-nested [] = nested-none
functions-nested (f ∷ fs) = nested-append (funs_in_function f) (funs_in_functions fs) (clauses-fixed wrong [] no_arity applies_nothing f.clauses).nested (functions-nested fs)

outside-nested : (es : List (Node ExprKind)) → IsNested (outside_funs es)
outside-nested [] = nested-none
outside-nested (e ∷ es) = nested-append (funs_with e) (outside_funs es) (nested-itself e (kind-fixed wrong [] no_arity applies_nothing e.kind).nested) (outside-nested es)

-- the fun expressions inside one of a module's code have the numbers behind its own
pub code-nested : (m : Module) (outside : List (Node ExprKind)) → IsNested (code_of m outside).funs
code-nested m outside = nested-append (funs_in_functions (functions_of m)) (outside_funs outside) (functions-nested (functions_of m)) (outside-nested outside)

-- a function that is found is one of these, and the fun expressions in it stand at its number
found-stands : (all : List (Node ExprKind)) (fs : List Function) (number : ℕ) → StandAt all number (funs_in_functions fs) → (name : Name) (arity : ℕ) (g : Function × ℕ) →
    find_numbered (numbered fs number) name arity ≡ Some g → Among g.0 fs × StandAt all g.1 (funs_in_function g.0)
found-stands all [] number s name arity g e = absurd (cc)
found-stands all (f ∷ fs) number s name arity g e = by (same_name f.name name && nat_eq (clauses_arity f.clauses) arity) e (found-stands all fs (behind number (funs_in_function f)) parts.1 name arity g)
  where
    others : Option (Function × ℕ)
    others = find_numbered (numbered fs (behind number (funs_in_function f))) name arity

    parts : StandAt all number (funs_in_function f) × StandAt all (behind number (funs_in_function f)) (funs_in_functions fs)
    parts = stand-append all number (funs_in_function f) (funs_in_functions fs) s

    found : (h : Function × ℕ) → (f, number) ≡ h → Among h.0 (f ∷ fs) × StandAt all h.1 (funs_in_function h.0)
    found h q = subst (λ (z : Function × ℕ). Among z.0 (f ∷ fs) × StandAt all z.1 (funs_in_function z.0)) q (inl refl, parts.0)

    by : (b : Bool) → cond b (Some (f, number)) others ≡ Some g → (others ≡ Some g → Among g.0 fs × StandAt all g.1 (funs_in_function g.0)) → Among g.0 (f ∷ fs) × StandAt all g.1 (funs_in_function g.0)
    by true q later = found g (some-inj (f, number) g q)
    by false q later = let r : Among g.0 fs × StandAt all g.1 (funs_in_function g.0) = later q in (inr r.0, r.1)

pub function-stands : (m : Module) (outside : List (Node ExprKind)) (name : Name) (arity : ℕ) (g : Function × ℕ) → find_numbered (code_of m outside).functions name arity ≡ Some g →
    Among g.0 (functions_of m) × StandAt (code_of m outside).funs g.1 (funs_in_function g.0)
function-stands m outside name arity g e = found-stands (code_of m outside).funs (functions_of m) 0 (stand-itself (funs_in_functions (functions_of m)) (outside_funs outside)) name arity g e

-- ---- functions that are defined

both-parts : (a b : Bool) → (a && b) ≡ true → (a ≡ true) × (b ≡ true)
both-parts true b h = (refl, h)
both-parts false b h = absurd (true≢false (sym h))

-- names and arities are compared both ways alike
turned : (name : Name) (arity : ℕ) (f : Function) → same_id (of_function name arity) (function_id f) ≡ true → (same_name f.name name && nat_eq (clauses_arity f.clauses) arity) ≡ true
turned name arity f h =
    let p : (same_name name f.name ≡ true) × (nat_eq arity (clauses_arity f.clauses) ≡ true) = both-parts (same_name name f.name) (nat_eq arity (clauses_arity f.clauses)) h in
    let x : same_name f.name name ≡ true = subst (λ z. same_name f.name z ≡ true) (sym (name-is name f.name p.0)) (name-refl f.name) in
    let y : nat_eq (clauses_arity f.clauses) arity ≡ true = (Decides-eqb (clauses_arity f.clauses) arity).1 (sym ((Decides-eqb arity (clauses_arity f.clauses)).0 p.1)) in
    λ j. x j && y j

found-there : (fs : List Function) (number : ℕ) (name : Name) (arity : ℕ) → list_any (same_id (of_function name arity)) (map function_id fs) ≡ true → is_some (find_numbered (numbered fs number) name arity) ≡ true
found-there [] number name arity h = absurd (true≢false (sym h))
found-there (f ∷ fs) number name arity h = by (same_name f.name name && nat_eq (clauses_arity f.clauses) arity) refl (found-there fs (behind number (funs_in_function f)) name arity)
  where
    defined : Bool
    defined = list_any (same_id (of_function name arity)) (map function_id fs)

    others : Option (Function × ℕ)
    others = find_numbered (numbered fs (behind number (funs_in_function f))) name arity

    later : (b : Bool) → same_id (of_function name arity) (function_id f) ≡ b → (b || defined) ≡ true → (same_name f.name name && nat_eq (clauses_arity f.clauses) arity) ≡ false → defined ≡ true
    later true q k n = absurd (true≢false (sym (turned name arity f q) ∙ n))
    later false q k n = k

    by : (b : Bool) → (same_name f.name name && nat_eq (clauses_arity f.clauses) arity) ≡ b → (defined ≡ true → is_some others ≡ true) → is_some (cond b (Some (f, number)) others) ≡ true
    by true q next = refl
    by false q next = next (later (same_id (of_function name arity) (function_id f)) refl h q)

-- a function that is defined is found
pub function-there : (m : Module) (outside : List (Node ExprKind)) (name : Name) (arity : ℕ) →
    list_any (same_id (of_function name arity)) (map function_id (functions_of m)) ≡ true → is_some (find_numbered (code_of m outside).functions name arity) ≡ true
function-there m outside name arity h = found-there (functions_of m) 0 name arity h

-- a function of a list is defined by it
pub defined-among : (f : Function) (fs : List Function) → Among f fs → list_any (same_id (function_id f)) (map function_id fs) ≡ true
defined-among f [] a = absurd a
defined-among f (g ∷ fs) (inl e) = λ j. subst (λ z. same_id (function_id f) (function_id z) ≡ true) e itself j || list_any (same_id (function_id f)) (map function_id fs)
  where
    itself : same_id (function_id f) (function_id f) ≡ true
    itself = λ j. name-refl f.name j && (Decides-eqb (clauses_arity f.clauses) (clauses_arity f.clauses)).1 refl j
defined-among f (g ∷ fs) (inr a) = by (same_id (function_id f) (function_id g)) (defined-among f fs a)
  where
    by : (b : Bool) → list_any (same_id (function_id f)) (map function_id fs) ≡ true → (b || list_any (same_id (function_id f)) (map function_id fs)) ≡ true
    by true h = refl
    by false h = h
