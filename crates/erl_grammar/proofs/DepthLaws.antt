-- Every well-formed pattern and expression stays within some number of levels.
use Rattle.std.proofs.Common.{◌≡◌, ℕ, zero, suc, ◌+◌, ◌≤◌, List, [], ◌∷◌, ◌++◌, refl, ◌∙◌, inl, inr, arith}
use Rattle.std.specs.Prelude.{Option, Some, None, Bool, true, false}
use Rattle.type_terms.specs.Keys.{Name}
use Rattle.erl_tree.specs.Lists.{Among}
use Rattle.erl_tree.specs.declared.token.Place.{Place}
use Rattle.erl_tree.specs.declared.token.Node.{Node}
use Rattle.erl_tree.specs.declared.pattern.LiteralKind.{LiteralKind}
use Rattle.erl_tree.specs.declared.pattern.PatternKind.{PatternKind}
use Rattle.erl_tree.specs.declared.expr.ExprKind.{ExprKind}
use Rattle.erl_tree.specs.declared.expr.ExprKind.TheVariants as X
use Rattle.erl_tree.specs.declared.expr.ItemKind.{ItemKind}
use Rattle.erl_tree.specs.declared.expr.ClauseKind.{ClauseKind}
use Rattle.erl_tree.specs.declared.expr.QualifierKind.{QualifierKind}
use Rattle.erl_tree.specs.declared.expr.AssocKind.{AssocKind}
use Rattle.erl_tree.specs.declared.expr.CatchKind.{CatchKind}
use Rattle.erl_grammar.specs.declared.head.Head.{Head}
use Rattle.erl_grammar.specs.Nesting.{Deep, deep_node, deep_all, deep_optional, deep_second, fewer, deep_cells, pattern_kind_deep, pattern_deep, deep_guard, expr_kind_deep, expr_deep, item_deep, qualifier_deep, assoc_deep, catch_deep, clause_deep}
use Rattle.erl_grammar.specs.Grammar.{node, IsPattern, one_pattern, alias, IsSimplePattern, atom_pattern, integer_pattern, negative_pattern, character_pattern, string_pattern, variable_pattern, paren_pattern, tuple_pattern, list_pattern, cells_pattern, map_pattern, record_pattern, IsEntry, entry, IsFieldPattern, field_pattern}
use Rattle.erl_grammar.specs.Grammar as G
use Rattle.erl_grammar.specs.Grammar.{IsExpr, IsPostfix, IsItem, IsQualifier, IsAssoc, IsField, IsGuard, IsWhen, IsCaseClause, IsIfClause, IsFunClause, IsCatch, IsClass, all_of, items_of}
use Rattle.erl_grammar.proofs.NestingLaws as N

-- ---- what stays within some number of levels

-- no node is nested deeper than so many levels, and than more
pub record Bounded (f : Deep) : Type 0 where
  pub bound : ℕ
  pub empty : (levels : ℕ) → bound ≤ levels → f levels ≡ []

pub bounded_as : {f g : Deep} → ((levels : ℕ) → f levels ≡ g levels) → Bounded g → Bounded f
bounded_as e b = record { bound = b.bound; empty = λ levels l. e levels ∙ b.empty levels l }

pub bounded_none : Bounded (λ levels. [])
bounded_none = record { bound = 0; empty = λ levels l. refl }

nothing_joined : {xs ys : List Place} → xs ≡ [] → ys ≡ [] → xs ++ ys ≡ []
nothing_joined e f = rw (e, f) refl

pub bounded_both : {f g : Deep} → Bounded f → Bounded g → Bounded (λ levels. f levels ++ g levels)
bounded_both b c = record { bound = b.bound + c.bound; empty = λ levels l. nothing_joined (b.empty levels (omega arith)) (c.empty levels (omega arith)) }

-- a node, of whose kind it is known
pub bounded_node : {f : Deep} (p : Place) (ms : List Place) → Bounded f → Bounded (deep_node (record { place = p; marks = ms; kind = f }))
bounded_node {f} p ms b = record { bound = suc b.bound; empty = by }
  where
    by : (levels : ℕ) → suc b.bound ≤ levels → deep_node (record { place = p; marks = ms; kind = f }) levels ≡ []
    by zero l = absurd (omega arith)
    by (suc levels) l = b.empty levels (omega arith)

pub bounded_all : {A : Type 0} (deep : A → Deep) (xs : List A) → ((x : A) → Among x xs → Bounded (deep x)) → Bounded (deep_all deep xs)
bounded_all deep [] h = bounded_none
bounded_all deep (x ∷ xs) h = bounded_both (h x (inl refl)) (bounded_all deep xs (λ y i. h y (inr i)))

pub bounded_optional : {A : Type 0} (deep : A → Deep) (x : Option A) → ((y : A) → x ≡ Some y → Bounded (deep y)) → Bounded (deep_optional deep x)
bounded_optional deep None h = bounded_none
bounded_optional deep (Some x) h = h x refl

bounded_fewer : {f : Deep} → Bounded f → Bounded (λ levels. f (fewer levels))
bounded_fewer {f} b = record { bound = suc b.bound; empty = by }
  where
    by : (levels : ℕ) → suc b.bound ≤ levels → f (fewer levels) ≡ []
    by zero l = absurd (omega arith)
    by (suc levels) l = b.empty levels (omega arith)

bounded_cells : {A : Type 0} (deep : A → Deep) (xs : List A) (tail : Option A) → ((x : A) → Among x xs → Bounded (deep x)) → Bounded (deep_optional deep tail) → Bounded (deep_cells deep xs tail)
bounded_cells deep [] tail h t = t
bounded_cells deep (x ∷ []) tail h t = bounded_both (h x (inl refl)) t
bounded_cells deep (x ∷ y ∷ ys) tail h t = bounded_both (h x (inl refl)) (bounded_fewer (bounded_cells deep (y ∷ ys) tail (λ z i. h z (inr i)) t))

-- ---- patterns

pattern_up : (p : Node PatternKind) → Bounded (pattern_kind_deep p.kind) → Bounded (pattern_deep p)
pattern_up p b = bounded_node p.place p.marks b

mutual
  pattern_in : {p : Node PatternKind} → IsPattern p → Bounded (pattern_kind_deep p.kind)
  pattern_in (one_pattern p h) = simple_bounded h
  pattern_in (alias p q m h k) = bounded_as (N.pattern_kind_deep-Alias p q) (bounded_both (pattern_up p (simple_bounded h)) (pattern_up q (pattern_in k)))

  simple_bounded : {p : Node PatternKind} → IsSimplePattern p → Bounded (pattern_kind_deep p.kind)
  simple_bounded (atom_pattern p a) = bounded_as (N.pattern_kind_deep-Atom a) bounded_none
  simple_bounded (integer_pattern p n) = bounded_as (N.pattern_kind_deep-Int n) bounded_none
  simple_bounded (negative_pattern h p n) = bounded_as (N.pattern_kind_deep-NegInt n) bounded_none
  simple_bounded (character_pattern p c) = bounded_as (N.pattern_kind_deep-Char c) bounded_none
  simple_bounded (string_pattern p s) = bounded_as (N.pattern_kind_deep-Str s) bounded_none
  simple_bounded (variable_pattern p x) = bounded_as (N.pattern_kind_deep-Var x) bounded_none
  simple_bounded (paren_pattern o c p h) = bounded_as (N.pattern_kind_deep-Paren p) (pattern_up p (pattern_in h))
  simple_bounded (tuple_pattern o c ms ps g h) = bounded_as (N.pattern_kind_deep-Tuple ps) (bounded_all pattern_deep ps (λ p i. pattern_up p (pattern_in (h p i))))
  simple_bounded (list_pattern o c ms ps g h) = bounded_as (N.pattern_kind_deep-Cells ps None) (bounded_cells pattern_deep ps None (λ p i. pattern_up p (pattern_in (h p i))) bounded_none)
  simple_bounded (cells_pattern o b c ms p t ps g h k) = bounded_as (N.pattern_kind_deep-Cells (p ∷ ps) (Some t)) (bounded_cells pattern_deep (p ∷ ps) (Some t) (λ q i. pattern_up q (pattern_in (h q i))) (pattern_up t (pattern_in k)))
  simple_bounded (map_pattern h o c ms entries g k) = bounded_as (N.pattern_kind_deep-Map entries) (bounded_all (deep_second pattern_deep) entries (λ n i. entry_bounded (k n i)))
  simple_bounded (record_pattern h n o c ms name fields g k) = bounded_as (N.pattern_kind_deep-Rec name name fields) (bounded_all (deep_second pattern_deep) fields (λ f i. field_bounded (k f i)))

  entry_bounded : {n : Node (Node LiteralKind × Node PatternKind)} → IsEntry n → Bounded (deep_second pattern_deep n)
  entry_bounded (entry k p m i h) = pattern_up p (pattern_in h)

  field_bounded : {f : Node (Name × Node PatternKind)} → IsFieldPattern f → Bounded (deep_second pattern_deep f)
  field_bounded (field_pattern n m chosen p h) = pattern_up p (pattern_in h)

pub pattern_bounded : {p : Node PatternKind} → IsPattern p → Bounded (pattern_deep p)
pattern_bounded {p} h = pattern_up p (pattern_in h)

class_bounded : {p : Node PatternKind} → IsClass p → Bounded (pattern_kind_deep p.kind)
class_bounded (G.atom_class p a) = bounded_as (N.pattern_kind_deep-Atom a) bounded_none
class_bounded (G.variable_class p x) = bounded_as (N.pattern_kind_deep-Var x) bounded_none

-- ---- expressions

expr_up : (e : Node ExprKind) → Bounded (expr_kind_deep e.kind) → Bounded (expr_deep e)
expr_up e b = bounded_node e.place e.marks b

first_among : {A : Type 0} (x : A) (xs ys : List A) → Among x xs → Among x (xs ++ ys)
first_among x [] ys i = absurd i
first_among x (z ∷ zs) ys (inl e) = inl e
first_among x (z ∷ zs) ys (inr i) = inr (first_among x zs ys i)

later_among : {A : Type 0} (x : A) (xs ys : List A) → Among x ys → Among x (xs ++ ys)
later_among x [] ys i = i
later_among x (z ∷ zs) ys i = inr (later_among x zs ys i)

-- the tests of a guard, by its alternatives
bounded_alternatives : (tss : List (List (Node ExprKind))) → ((e : Node ExprKind) → Among e (all_of tss) → Bounded (expr_deep e)) → Bounded (deep_all (deep_all expr_deep) tss)
bounded_alternatives [] h = bounded_none
bounded_alternatives (ts ∷ tss) h = bounded_both (bounded_all expr_deep ts (λ e i. h e (first_among e ts (all_of tss) i))) (bounded_alternatives tss (λ e i. h e (later_among e ts (all_of tss) i)))

-- the elements of an `after` part
after_bounded : (after : Option (List (Node ItemKind))) → ((j : Node ItemKind) → Among j (items_of after) → Bounded (item_deep j)) → Bounded (deep_optional (deep_all item_deep) after)
after_bounded None h = bounded_none
after_bounded (Some is) h = bounded_all item_deep is h

mutual
  expr_in : {least : ℕ} {e : Node ExprKind} → IsExpr least e → Bounded (expr_kind_deep e.kind)
  expr_in (G.operation least op a b m l h k) = bounded_as (N.expr_kind_deep-Binary op a b) (bounded_both (expr_up a (expr_in h)) (expr_up b (expr_in k)))
  expr_in (G.unary least op p e l h) = bounded_as (N.expr_kind_deep-Unary op e) (expr_up e (expr_in h))
  expr_in (G.postfix least head e h) = postfix_bounded h

  postfix_bounded : {head : Head} {e : Node ExprKind} → IsPostfix head e → Bounded (expr_kind_deep e.kind)
  postfix_bounded (G.atom p a) = bounded_as (N.expr_kind_deep-Atom a) bounded_none
  postfix_bounded (G.integer p n) = bounded_as (N.expr_kind_deep-Int n) bounded_none
  postfix_bounded (G.character p c) = bounded_as (N.expr_kind_deep-Char c) bounded_none
  postfix_bounded (G.string p s) = bounded_as (N.expr_kind_deep-Str s) bounded_none
  postfix_bounded (G.variable p x) = bounded_as (N.expr_kind_deep-Var x) bounded_none
  postfix_bounded (G.parens o c e h) = bounded_as (N.expr_kind_deep-Paren e) (expr_up e (expr_in h))
  postfix_bounded (G.tuple o c ms es g h) = bounded_as (N.expr_kind_deep-Tuple es) (bounded_all expr_deep es (λ e i. expr_up e (expr_in (h e i))))
  postfix_bounded (G.list o c ms es g h) = bounded_as (N.expr_kind_deep-Cells es None) (bounded_cells expr_deep es None (λ e i. expr_up e (expr_in (h e i))) bounded_none)
  postfix_bounded (G.cells o b c ms e t es g h k) = bounded_as (N.expr_kind_deep-Cells (e ∷ es) (Some t)) (bounded_cells expr_deep (e ∷ es) (Some t) (λ f i. expr_up f (expr_in (h f i))) (expr_up t (expr_in k)))
  postfix_bounded (G.comprehension o b c ms e q qs h g k) = bounded_as (N.expr_kind_deep-Comp e (q ∷ qs)) (bounded_both (expr_up e (expr_in h)) (bounded_all qualifier_deep (q ∷ qs) (λ r i. qualifier_bounded (k r i))))
  postfix_bounded (G.call n o c ms name args i g h) = bounded_as (N.expr_kind_deep-Call _ name args) (bounded_all expr_deep args (λ e i. expr_up e (expr_in (h e i))))
  postfix_bounded (G.prefixed_call p d n o c ms name args i g h) = bounded_as (N.expr_kind_deep-Call _ name args) (bounded_all expr_deep args (λ e i. expr_up e (expr_in (h e i))))
  postfix_bounded (G.variable_applied p o c ms x args g h) = bounded_as (N.expr_kind_deep-Apply _ args) (bounded_both (expr_up (node p (p ∷ []) (X.Var x)) (bounded_as (N.expr_kind_deep-Var x) bounded_none)) (bounded_all expr_deep args (λ e i. expr_up e (expr_in (h e i)))))
  postfix_bounded (G.parens_applied p q o c ms f args k g h) = bounded_as (N.expr_kind_deep-Apply _ args) (bounded_both (expr_up (node p (p ∷ q ∷ []) (X.Paren f)) (bounded_as (N.expr_kind_deep-Paren f) (expr_up f (expr_in k)))) (bounded_all expr_deep args (λ e i. expr_up e (expr_in (h e i)))))
  postfix_bounded (G.new_map h o c ms assocs g k) = bounded_as (N.expr_kind_deep-MapNew assocs) (bounded_all assoc_deep assocs (λ a i. assoc_bounded (k a i)))
  postfix_bounded (G.changed_map head h o c ms e assocs t k g r) = bounded_as (N.expr_kind_deep-MapChange e assocs) (bounded_both (expr_up e (postfix_bounded k)) (bounded_all assoc_deep assocs (λ a i. assoc_bounded (r a i))))
  postfix_bounded (G.new_record h n o c ms name fields g k) = bounded_as (N.expr_kind_deep-RecNew name name fields) (bounded_all (deep_second expr_deep) fields (λ f i. expr_field_bounded (k f i)))
  postfix_bounded (G.changed_record head h n o c ms e name fields t k g r) = bounded_as (N.expr_kind_deep-RecChange e name name fields) (bounded_both (expr_up e (postfix_bounded k)) (bounded_all (deep_second expr_deep) fields (λ f i. expr_field_bounded (r f i))))
  postfix_bounded (G.record_field head h n d f e name chosen t k) = bounded_as (N.expr_kind_deep-RecGet e name name chosen) (expr_up e (postfix_bounded k))
  postfix_bounded (G.begin_end b e ms i is g h) = bounded_as (N.expr_kind_deep-Begin (i ∷ is)) (bounded_all item_deep (i ∷ is) (λ j n. item_bounded (h j n)))
  postfix_bounded (G.case_of p o e ms subject c cs h g k) = bounded_as (N.expr_kind_deep-Case subject (c ∷ cs)) (bounded_both (expr_up subject (expr_in h)) (bounded_all clause_deep (c ∷ cs) (λ d i. case_bounded (k d i))))
  postfix_bounded (G.if_end p e ms c cs g k) = bounded_as (N.expr_kind_deep-If (c ∷ cs)) (bounded_all clause_deep (c ∷ cs) (λ d i. if_bounded (k d i)))
  postfix_bounded (G.fun_name p n s a name arity) = bounded_as (N.expr_kind_deep-FunName name arity) bounded_none
  postfix_bounded (G.fun_end p e ms c cs g k) = bounded_as (N.expr_kind_deep-Fun (c ∷ cs)) (bounded_all clause_deep (c ∷ cs) (λ d i. fun_bounded (k d i)))
  postfix_bounded (G.try_end p e ms os cs ns i body of_clauses catches after g h j k l q r t x) = bounded_as (N.expr_kind_deep-Try (i ∷ body) of_clauses catches after)
      (bounded_both (bounded_all item_deep (i ∷ body) (λ y n. item_bounded (h y n)))
      (bounded_both (bounded_all clause_deep of_clauses (λ y n. case_bounded (k y n)))
      (bounded_both (bounded_all catch_deep catches (λ y n. catch_bounded (q y n)))
      (after_bounded after (λ y n. item_bounded (t y n))))))

  pub item_bounded : {i : Node ItemKind} → IsItem i → Bounded (item_deep i)
  item_bounded (G.value e h) = bounded_as (N.item_kind_deep-Value e) (expr_up e (expr_in h))
  item_bounded (G.match_item p e m h k) = bounded_as (N.item_kind_deep-Match p e) (bounded_both (pattern_bounded h) (expr_up e (expr_in k)))

  qualifier_bounded : {q : Node QualifierKind} → IsQualifier q → Bounded (qualifier_deep q)
  qualifier_bounded (G.generator p e m h k) = bounded_as (N.qualifier_kind_deep-Generator p e) (bounded_both (pattern_bounded h) (expr_up e (expr_in k)))
  qualifier_bounded (G.filter e h) = bounded_as (N.qualifier_kind_deep-Filter e) (expr_up e (expr_in h))

  assoc_bounded : {may_be_exact : Bool} {a : Node AssocKind} → IsAssoc may_be_exact a → Bounded (assoc_deep a)
  assoc_bounded (G.added may_be_exact k v m h g) = bounded_as (N.assoc_kind_deep-assoc_of k false v) (bounded_both (expr_up k (expr_in h)) (expr_up v (expr_in g)))
  assoc_bounded (G.exact k v m h g) = bounded_as (N.assoc_kind_deep-assoc_of k true v) (bounded_both (expr_up k (expr_in h)) (expr_up v (expr_in g)))

  expr_field_bounded : {f : Node (Name × Node ExprKind)} → IsField f → Bounded (deep_second expr_deep f)
  expr_field_bounded (G.field n m name e h) = expr_up e (expr_in h)

  guard_bounded : {g : Node (List (List (Node ExprKind)))} → IsGuard g → Bounded (deep_guard expr_deep g)
  guard_bounded (G.guard ms t ts alternatives n g h k) = bounded_alternatives ((t ∷ ts) ∷ alternatives) (λ e i. expr_up e (expr_in (h e i)))

  pub when_bounded : {w : Option (Node (List (List (Node ExprKind))))} {ms : List Place} → IsWhen w ms → Bounded (deep_optional (deep_guard expr_deep) w)
  when_bounded G.no_guard = bounded_none
  when_bounded (G.when_guard w g h) = guard_bounded h

  case_bounded : {c : Node ClauseKind} → IsCaseClause c → Bounded (clause_deep c)
  case_bounded (G.case_clause p w a ws ms i is h k g l) = bounded_as (N.clause_kind_deep-clause_of (p ∷ []) w (i ∷ is)) (bounded_both (bounded_both (pattern_bounded h) bounded_none) (bounded_both (when_bounded k) (bounded_all item_deep (i ∷ is) (λ j n. item_bounded (l j n)))))

  if_bounded : {c : Node ClauseKind} → IsIfClause c → Bounded (clause_deep c)
  if_bounded (G.if_clause g a ms i is h k l) = bounded_as (N.clause_kind_deep-clause_of [] (Some g) (i ∷ is)) (bounded_both bounded_none (bounded_both (guard_bounded h) (bounded_all item_deep (i ∷ is) (λ j n. item_bounded (l j n)))))

  fun_bounded : {c : Node ClauseKind} → IsFunClause c → Bounded (clause_deep c)
  fun_bounded (G.fun_clause o c a ps w ns ws ms i is r g h k l q) = bounded_as (N.clause_kind_deep-clause_of ps w (i ∷ is)) (bounded_both (bounded_all pattern_deep ps (λ p n. pattern_bounded (h p n))) (bounded_both (when_bounded k) (bounded_all item_deep (i ∷ is) (λ j n. item_bounded (q j n)))))

  catch_bounded : {c : Node CatchKind} → IsCatch c → Bounded (catch_deep c)
  catch_bounded (G.thrown c h) = bounded_as (N.catch_kind_deep-catch_of None c) (bounded_both bounded_none (case_bounded h))
  catch_bounded (G.of_class p m c h k) = bounded_as (N.catch_kind_deep-catch_of (Some p) c) (bounded_both (pattern_up p (class_bounded h)) (case_bounded k))

pub expr_bounded : {least : ℕ} {e : Node ExprKind} → IsExpr least e → Bounded (expr_deep e)
expr_bounded {e = e} h = expr_up e (expr_in h)
