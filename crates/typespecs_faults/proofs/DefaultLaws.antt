-- Which expressions may be defaults, level by level.
use Rattle.std.proofs.Common.{◌≡◌, ℕ, ◌+◌, ◌<◌, ◌≤◌, Bool, true, false, ◌&&◌, List, [], ◌∷◌, length, drop, get_or, refl, sym, ap, ◌∙◌, Option, Some, None}
use Rattle.std.specs.List.{list_all}
use Rattle.std.proofs.lemmas.List.{drop_all}
use Rattle.erl_tree.specs.declared.token.Node.{Node}
use Rattle.erl_tree.specs.declared.expr.UnaryOp.{UnaryOp}
use Rattle.erl_tree.specs.declared.expr.UnaryOp.TheVariants.{Plus, Minus, Not}
use Rattle.erl_tree.specs.declared.expr.ExprKind.{ExprKind, out-ExprKind, map-ExprKind, fold_out-ExprKind}
use Rattle.erl_tree.specs.declared.expr.ItemKind.{ItemKind}
use Rattle.erl_tree.specs.declared.expr.QualifierKind.{QualifierKind}
use Rattle.erl_tree.specs.declared.expr.AssocKind.{AssocKind}
use Rattle.erl_tree.specs.declared.expr.CatchKind.{CatchKind}
use Rattle.erl_tree.specs.declared.expr.ClauseKind.{ClauseKind}
use Rattle.erl_tree.specs.declared.expr.ExprKind.TheVariants as X
use Rattle.erl_tree.specs.declared.expr.ExprKind.TheOpen as E
use Rattle.erl_tree.specs.declared.expr.ExprKind.TheShapes as S
use Rattle.typespecs_rules.specs.RecordDefaults.{DefaultPart, may_be, all_defaults, default_layer, default_part, is_default}
use Rattle.typespecs_faults.proofs.Rows.{rest_at}

abbrev Level : Type 0
Level = E.ExprKind-F ExprKind ItemKind QualifierKind AssocKind CatchKind ClauseKind

-- one level, of whose parts nothing is known
abbrev pub level_part : Level → DefaultPart
level_part (E.Int n) = record { digits = true; default = true }
level_part (E.Unary Minus e) = may_be (default_part e.kind).digits
level_part (E.Char c) = may_be true
level_part (E.Atom a) = may_be true
level_part (E.Str s) = may_be true
level_part (E.Tuple es) = may_be (list_all is_default es)
level_part (E.Cells es None) = may_be (list_all is_default es)
level_part _ = may_be false

all-are : (es : List (Node ExprKind)) → all_defaults (S.former-ExprKind-Tuple-0.map ExprKind DefaultPart default_part es) ≡ list_all is_default es
all-are [] = refl
all-are (e ∷ es) = ap (λ b. is_default e && b) (all-are es)

mapped : Level → E.ExprKind-F DefaultPart (Unit {0}) (Unit {0}) (Unit {0}) (Unit {0}) (Unit {0})
mapped o = map-ExprKind ExprKind ItemKind QualifierKind AssocKind CatchKind ClauseKind DefaultPart (Unit {0}) (Unit {0}) (Unit {0}) (Unit {0}) (Unit {0}) default_part (λ i. tt) (λ q. tt) (λ a. tt) (λ c. tt) (λ c. tt) o

level-same : (o : Level) → default_layer (mapped o) ≡ level_part o
unfolding mapped
level-same (E.Unary Plus e) = refl
level-same (E.Unary Minus e) = refl
level-same (E.Unary Not e) = refl
level-same (E.Tuple es) = ap may_be (all-are es)
level-same (E.Cells es None) = ap may_be (all-are es)
level-same (E.Cells es (Some e)) = refl
level-same _ = refl

pub part-out : (k : ExprKind) → default_part k ≡ level_part (out-ExprKind k)
unfolding mapped default_part
part-out k =
    fold_out-ExprKind DefaultPart (Unit {0}) (Unit {0}) (Unit {0}) (Unit {0}) (Unit {0}) default_layer (λ i. tt) (λ q. tt) (λ a. tt) (λ c. tt) (λ c. tt) k ∙ level-same (out-ExprKind k)

-- a level that is known
pub part-is : (k v : ExprKind) (o : Level) → k ≡ v → out-ExprKind v ≡ o → level_part o ≡ default_part k
part-is k v o is outs = sym (part-out k ∙ ap level_part (ap out-ExprKind is ∙ outs))

pub ruleset default_laws = (part-out)

-- ---- loops

module _ (es : List (Node ExprKind)) where
  abbrev pub AreDefaultsTo : ℕ → Type 0
  AreDefaultsTo i = list_all is_default (drop i es) ≡ list_all is_default es

  pub default_next : (i : ℕ) (e : Node ExprKind) (k : ExprKind) (b : Bool) → i < length es → e ≡ get_or es i e → k ≡ e.kind → b ≡ (default_part k).default → b ≡ true → AreDefaultsTo i → AreDefaultsTo (i + 1)
  default_next i e k b lt is kind test holds so_far =
      ap (λ c. c && list_all is_default (drop (i + 1) es)) (sym holds ∙ (test ∙ ap (λ j. (default_part j).default) kind)) ∙ (ap (list_all is_default) (sym (rest_at es i e lt is)) ∙ so_far)

  pub default_not : (i : ℕ) (e : Node ExprKind) (k : ExprKind) (b : Bool) → i < length es → e ≡ get_or es i e → k ≡ e.kind → b ≡ (default_part k).default → b ≡ false → AreDefaultsTo i → false ≡ list_all is_default es
  default_not i e k b lt is kind test fails so_far =
      ap (λ c. c && list_all is_default (drop (i + 1) es)) (sym fails ∙ (test ∙ ap (λ j. (default_part j).default) kind)) ∙ (ap (list_all is_default) (sym (rest_at es i e lt is)) ∙ so_far)

  pub default_last : (i : ℕ) → length es ≤ i → AreDefaultsTo i → true ≡ list_all is_default es
  default_last i end so_far = ap (list_all is_default) (sym (drop_all i es end)) ∙ so_far

-- ---- forms that are known

pub minus-is : (k : ExprKind) (op : UnaryOp) (e : Node ExprKind) → k ≡ X.Unary op e → op ≡ Minus → (default_part e.kind).digits ≡ (default_part k).default
minus-is k op e is minus = ap (λ (p : DefaultPart). p.default) (part-is k (X.Unary Minus e) (E.Unary Minus e) (is ∙ ap (λ o. X.Unary o e) minus) (X.outs-Unary Minus e))

pub unary-is : (k : ExprKind) (op : UnaryOp) (e : Node ExprKind) → k ≡ X.Unary op e → (op ≡ Minus → ⊥) → false ≡ (default_part k).default
unary-is k op e is other = by op other ∙ ap (λ (p : DefaultPart). p.default) (part-is k (X.Unary op e) (E.Unary op e) is (X.outs-Unary op e))
  where
    by : (o : UnaryOp) → (o ≡ Minus → ⊥) → false ≡ (level_part (E.Unary o e)).default
    by Plus h = refl
    by Minus h = absurd (h refl)
    by Not h = refl

pub tuple-is : (k : ExprKind) (es : List (Node ExprKind)) → k ≡ X.Tuple es → list_all is_default es ≡ (default_part k).default
tuple-is k es is = ap (λ (p : DefaultPart). p.default) (part-is k (X.Tuple es) (E.Tuple es) is (X.outs-Tuple es))

pub list-is : (k : ExprKind) (es : List (Node ExprKind)) (tail : Option (Node ExprKind)) → k ≡ X.Cells es tail → tail ≡ None → list_all is_default es ≡ (default_part k).default
list-is k es tail is none = ap (λ (p : DefaultPart). p.default) (part-is k (X.Cells es None) (E.Cells es None) (is ∙ ap (X.Cells es) none) (X.outs-Cells es None))

pub barred-is : (k : ExprKind) (es : List (Node ExprKind)) (tail : Option (Node ExprKind)) (e : Node ExprKind) → k ≡ X.Cells es tail → tail ≡ Some e → false ≡ (default_part k).default
barred-is k es tail e is some = ap (λ (p : DefaultPart). p.default) (part-is k (X.Cells es (Some e)) (E.Cells es (Some e)) (is ∙ ap (X.Cells es) some) (X.outs-Cells es (Some e)))
