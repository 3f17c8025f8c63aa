-- Elements of bodies, qualifiers and associations: what is read is right, and what is well formed is read again.
use Rattle.std.proofs.Common.{◌≡◌, ℕ, Bool, true, false, List, [], ◌∷◌, ◌++◌, refl, ap, sym, ◌∙◌, subst, append_assoc, append-nil}
use Rattle.std.specs.Prelude.{codes}
use Rattle.erl_tree.specs.Lists.{Among}
use Rattle.erl_tree.specs.declared.token.Place.{Place}
use Rattle.erl_tree.specs.declared.token.Placed.{Placed}
use Rattle.erl_tree.specs.declared.token.Node.{Node}
use Rattle.erl_tree.specs.declared.token.Token.TheVariants as T
use Rattle.erl_tree.specs.declared.pattern.PatternKind.{PatternKind}
use Rattle.erl_tree.specs.declared.expr.ExprKind.{ExprKind}
use Rattle.erl_tree.specs.declared.expr.ItemKind.{ItemKind}
use Rattle.erl_tree.specs.declared.expr.ItemKind.TheVariants as I
use Rattle.erl_tree.specs.declared.expr.QualifierKind.{QualifierKind}
use Rattle.erl_tree.specs.declared.expr.QualifierKind.TheVariants as Q
use Rattle.erl_tree.specs.declared.expr.AssocKind.{AssocKind}
use Rattle.erl_grammar.specs.Pieces.{at}
use Rattle.erl_grammar.specs.Spelling.{pattern_tokens, expr_tokens, item_tokens, qualifier_tokens, association_text, assoc_tokens}
use Rattle.erl_grammar.specs.Nesting.{pattern_deep, expr_deep, item_deep, qualifier_deep, assoc_deep}
use Rattle.erl_grammar.specs.Grammar.{node, IsPattern, IsExpr, IsItem, value, match_item, IsQualifier, generator, filter, assoc_of, IsAssoc, added, exact}
use Rattle.erl_grammar.proofs.SpellingLaws.{item_shown-Value, item_shown-Match, qualifier_shown-Generator, qualifier_shown-Filter, assoc_shown-assoc_of}
use Rattle.erl_grammar.proofs.NestingLaws.{item_kind_deep-Value, item_kind_deep-Match, qualifier_kind_deep-Generator, qualifier_kind_deep-Filter, assoc_kind_deep-assoc_of}
use Rattle.erl_parser_tokens.specs.declared.height.Height.{Height}
use Rattle.erl_parser_tokens.specs.declared.height.Measured.{Measured}
use Rattle.erl_parser_tokens.specs.Heights.{higher, measured}
use Rattle.erl_parser_tokens.specs.Tokens.{Answer, ◌>>=◌}
use Rattle.erl_parser_tokens.specs.Outside.{HasOutside, map_comprehension}
use Rattle.erl_parser_exprs.specs.Expressions.{Level, read_item, read_qualifier, read_assoc}
use Rattle.erl_parser_tokens.proofs.HeightLaws.{among_front, among_behind, measures_as, both_measured, higher_within}
use Rattle.erl_parser_tokens.proofs.Then.{behind_token, behind_part, behind_behind, Right, right_ok, right_outside, right_then, right_next, right_case, right_if, IsRead, Again, again_ok, again_from, again_then, again_step, again_none, again_true, again_false, IsPart, IsDeep, again_read}
use Rattle.erl_parser_tokens.proofs.ArrowLaws.{ArrowRead, arrow-right, arrow-again}
use Rattle.erl_parser_tokens.proofs.TokenLaws.{IsMarkNext, mark-takes, expect_mark, expect_mark-again}
use Rattle.erl_parser_exprs.proofs.Levels.{EndsExpr, IsLevel}
use Rattle.erl_parser_patterns.proofs.PatternEnds.{LeftRead, IsLeft, ends_pattern}
use Rattle.erl_parser_patterns.proofs.ScanLaws.{pattern-leads_to_equals, pattern-leads_to_arrow}
use Rattle.erl_parser_exprs.proofs.ScanExprLaws.{no_equals_in, no_arrow_in}
use Rattle.erl_parser_exprs.proofs.Endings.{EndsItem, EndsQualifier, EndsAssoc, adds-closes, exact-closes, closes-expr}

-- ---- elements of bodies

value_tokens : (e : Node ExprKind) → item_tokens (node e.place [] (I.Value e)) ≡ expr_tokens e
value_tokens e = item_shown-Value e [] ∙ append-nil (expr_tokens e)

match_tokens : (p : Node PatternKind) (e : Node ExprKind) (m : Place) → item_tokens (node p.place (m ∷ []) (I.Match p e)) ≡ pattern_tokens p ++ at (T.Mark (codes "=")) m ∷ expr_tokens e
match_tokens p e m = item_shown-Match p e (m ∷ []) ∙ ap (λ l. pattern_tokens p ++ at (T.Mark (codes "=")) m ∷ l) (append-nil (expr_tokens e))

-- the text of a part, a token and another part
pub two_parts : (whole front back ts us vs rest : List Placed) (t : Placed) → whole ≡ front ++ t ∷ back → ts ≡ front ++ us → us ≡ t ∷ vs → vs ≡ back ++ rest → ts ≡ whole ++ rest
two_parts whole front back ts us vs rest t w a b c = a ∙ (ap (λ l. front ++ l) (b ∙ ap (λ l. t ∷ l) c) ∙ (sym (append_assoc front (t ∷ back) rest) ∙ ap (λ l. l ++ rest) (sym w)))

value_read : (levels : ℕ) (ts : List Placed) (e : Measured (Node ExprKind) × List Placed) → IsRead (IsExpr 0) expr_tokens expr_deep levels ts e → IsRead IsItem item_tokens item_deep levels ts (measured (node e.0.tree.place [] (I.Value e.0.tree)) e.0.height, e.1)
value_read levels ts e h = record {
  formed = value e.0.tree h.formed;
  takes = h.takes ∙ ap (λ l. l ++ e.1) (sym (value_tokens e.0.tree));
  measures = measures_as (item_kind_deep-Value e.0.tree) h.measures;
  within = h.within;
}

match_read : (levels : ℕ) (ts : List Placed) (p : (Measured (Node PatternKind) × Place) × List Placed) (e : Measured (Node ExprKind) × List Placed) → LeftRead levels ts p → IsRead (IsExpr 0) expr_tokens expr_deep levels p.1 e
    → IsRead IsItem item_tokens item_deep levels ts (measured (node p.0.0.tree.place (p.0.1 ∷ []) (I.Match p.0.0.tree e.0.tree)) (higher p.0.0.height e.0.height), e.1)
match_read levels ts p e h g = record {
  formed = match_item p.0.0.tree e.0.tree p.0.1 h.read.formed g.formed;
  takes = two_parts _ (pattern_tokens p.0.0.tree) (expr_tokens e.0.tree) ts _ p.1 e.1 _ (match_tokens p.0.0.tree e.0.tree p.0.1) h.read.takes refl g.takes;
  measures = measures_as (item_kind_deep-Match p.0.0.tree e.0.tree) (both_measured h.read.measures g.measures);
  within = higher_within p.0.0.height e.0.height levels h.read.within g.within;
}

-- an element of a body is read rightly
pub item-right : (levels : ℕ) (l : Level) → IsLevel levels l → (ts : List Placed) → Right (IsRead IsItem item_tokens item_deep levels ts) ts (read_item l ts)
unfolding read_item
item-right levels l L ts = right_if
    (λ e. right_then (L.left_right ts) λ p h. right_next (behind_behind (behind_part (pattern_tokens p.0.0.tree) h.read.takes) (behind_token refl)) (L.expr_right p.1) λ e g. right_ok (match_read levels ts p e h g))
    (λ e. right_then (L.expr_right ts) λ e h. right_ok (value_read levels ts e h))

-- ---- qualifiers

filter_tokens : (e : Node ExprKind) → qualifier_tokens (node e.place [] (Q.Filter e)) ≡ expr_tokens e
filter_tokens e = qualifier_shown-Filter e [] ∙ append-nil (expr_tokens e)

generator_tokens : (p : Node PatternKind) (e : Node ExprKind) (m : Place) → qualifier_tokens (node p.place (m ∷ []) (Q.Generator p e)) ≡ pattern_tokens p ++ at (T.Mark (codes "<-")) m ∷ expr_tokens e
generator_tokens p e m = qualifier_shown-Generator p e (m ∷ []) ∙ ap (λ l. pattern_tokens p ++ at (T.Mark (codes "<-")) m ∷ l) (append-nil (expr_tokens e))

filter_read : (levels : ℕ) (ts : List Placed) (e : Measured (Node ExprKind) × List Placed) → IsRead (IsExpr 0) expr_tokens expr_deep levels ts e → IsRead IsQualifier qualifier_tokens qualifier_deep levels ts (measured (node e.0.tree.place [] (Q.Filter e.0.tree)) e.0.height, e.1)
filter_read levels ts e h = record {
  formed = filter e.0.tree h.formed;
  takes = h.takes ∙ ap (λ l. l ++ e.1) (sym (filter_tokens e.0.tree));
  measures = measures_as (qualifier_kind_deep-Filter e.0.tree) h.measures;
  within = h.within;
}

generator_read : (levels : ℕ) (ts : List Placed) (p : Measured (Node PatternKind) × List Placed) (m : Place × List Placed) (e : Measured (Node ExprKind) × List Placed) → IsRead IsPattern pattern_tokens pattern_deep levels ts p → IsMarkNext (codes "<-") p.1 m → IsRead (IsExpr 0) expr_tokens expr_deep levels m.1 e
    → IsRead IsQualifier qualifier_tokens qualifier_deep levels ts (measured (node p.0.tree.place (m.0 ∷ []) (Q.Generator p.0.tree e.0.tree)) (higher p.0.height e.0.height), e.1)
generator_read levels ts p m e h i g = record {
  formed = generator p.0.tree e.0.tree m.0 h.formed g.formed;
  takes = two_parts _ (pattern_tokens p.0.tree) (expr_tokens e.0.tree) ts p.1 m.1 e.1 _ (generator_tokens p.0.tree e.0.tree m.0) h.takes i g.takes;
  measures = measures_as (qualifier_kind_deep-Generator p.0.tree e.0.tree) (both_measured h.measures g.measures);
  within = higher_within p.0.height e.0.height levels h.within g.within;
}

-- a qualifier is read rightly
pub qualifier-right : (levels : ℕ) (l : Level) → IsLevel levels l → (ts : List Placed) → Right (IsRead IsQualifier qualifier_tokens qualifier_deep levels ts) ts (read_qualifier l ts)
unfolding read_qualifier
qualifier-right levels l L ts = right_if
    (λ e. right_then (L.pattern_right ts) λ p h. right_next (behind_part (pattern_tokens p.0.tree) h.takes) (expect_mark (codes "<-") p.1) λ m i. right_next (behind_behind (behind_part (pattern_tokens p.0.tree) h.takes) (behind_token i)) (L.expr_right m.1) λ e g. right_ok (generator_read levels ts p m e h i g))
    (λ e. right_then (L.expr_right ts) λ e h. right_ok (filter_read levels ts e h))

-- ---- associations

association_tokens : (k v : Node ExprKind) (b : Bool) (m : Place) → assoc_tokens (node k.place (m ∷ []) (assoc_of k b v)) ≡ expr_tokens k ++ at (T.Mark (association_text b)) m ∷ expr_tokens v
association_tokens k v b m = assoc_shown-assoc_of k b v (m ∷ []) ∙ ap (λ l. expr_tokens k ++ at (T.Mark (association_text b)) m ∷ l) (append-nil (expr_tokens v))

association_formed : (may_be_exact is_exact : Bool) (k v : Node ExprKind) (m : Place) → (is_exact ≡ true → may_be_exact ≡ true) → IsExpr 0 k → IsExpr 0 v → IsAssoc may_be_exact (node k.place (m ∷ []) (assoc_of k is_exact v))
association_formed may_be_exact false k v m e i j = added may_be_exact k v m i j
association_formed may_be_exact true k v m e i j = subst (λ b. IsAssoc b (node k.place (m ∷ []) (assoc_of k true v))) (sym (e refl)) (exact k v m i j)

assoc_read : (levels : ℕ) (may_be_exact : Bool) (ts : List Placed) (k : Measured (Node ExprKind) × List Placed) (a : (Bool × Place) × List Placed) (v : Measured (Node ExprKind) × List Placed) → IsRead (IsExpr 0) expr_tokens expr_deep levels ts k → ArrowRead may_be_exact k.1 a → IsRead (IsExpr 0) expr_tokens expr_deep levels a.1 v
    → IsRead (IsAssoc may_be_exact) assoc_tokens assoc_deep levels ts (measured (node k.0.tree.place (a.0.1 ∷ []) (assoc_of k.0.tree a.0.0 v.0.tree)) (higher k.0.height v.0.height), v.1)
assoc_read levels may_be_exact ts k a v h i g = record {
  formed = association_formed may_be_exact a.0.0 k.0.tree v.0.tree a.0.1 i.allowed h.formed g.formed;
  takes = two_parts _ (expr_tokens k.0.tree) (expr_tokens v.0.tree) ts k.1 a.1 v.1 _ (association_tokens k.0.tree v.0.tree a.0.0 a.0.1) h.takes i.takes g.takes;
  measures = measures_as (assoc_kind_deep-assoc_of k.0.tree a.0.0 v.0.tree) (both_measured h.measures g.measures);
  within = higher_within k.0.height v.0.height levels h.within g.within;
}

-- `||` stands behind an association
qualifiers_stand : (may_be_exact : Bool) (n : Node AssocKind) (ts us : List Placed) (m : Place × List Placed) → IsAssoc may_be_exact n → ts ≡ assoc_tokens n ++ us → IsMarkNext (codes "||") us m → HasOutside ts m.0 (codes "map comprehension")
qualifiers_stand may_be_exact n ts us m i t e = record { before = assoc_tokens n; rest = at (T.Mark (codes "||")) m.0 ∷ m.1; split = t ∙ ap (λ l. assoc_tokens n ++ l) e; stands = map_comprehension may_be_exact n m.0 [] m.1 i }

-- an association is read rightly
pub assoc-right : (levels : ℕ) (l : Level) → IsLevel levels l → (may_be_exact : Bool) (ts : List Placed) → Right (IsRead (IsAssoc may_be_exact) assoc_tokens assoc_deep levels ts) ts (read_assoc l may_be_exact ts)
unfolding read_assoc
assoc-right levels l L may_be_exact ts = right_then (L.expr_right ts) λ k h. right_next (behind_part (expr_tokens k.0.tree) h.takes) (arrow-right may_be_exact k.1) λ a i.
    let b = behind_behind (behind_part (expr_tokens k.0.tree) h.takes) (behind_token i.takes) in
    right_next b (L.expr_right a.1) λ v g. right_case
    (λ e. right_ok (assoc_read levels may_be_exact ts k a v h i g))
    (λ m e. let r = assoc_read levels may_be_exact ts k a v h i g in right_outside (qualifiers_stand may_be_exact _ ts v.1 m r.formed r.takes (mark-takes (codes "||") v.1 m e)))

-- ---- read again

-- a token between two parts, and what follows them
pub parts_behind : (whole front back rest : List Placed) (t : Placed) → whole ≡ front ++ t ∷ back → whole ++ rest ≡ front ++ t ∷ (back ++ rest)
parts_behind whole front back rest t w = ap (λ l. l ++ rest) w ∙ append_assoc front (t ∷ back) rest

pub deeper_in : (p : Place) {xs ys : List Place} → xs ≡ ys → Among p ys → Among p xs
deeper_in p e a = subst (Among p) (sym e) a

-- the left side of a match, its place and what follows it
left_is : {p : Node PatternKind} {m : Place} {rest : List Placed} (q : (Measured (Node PatternKind) × Place) × List Placed) → IsLeft p m rest q → (h : Height) × (q ≡ ((measured p h, m), rest))
left_is {p} {m} {rest} q g = (g.0.0, ap (λ (z : Measured (Node PatternKind) × List Placed). ((z.0, q.0.1), z.1)) g.0.1 ∙ ap (λ n. ((measured p g.0.0, n), rest)) g.1)

again_left : {Y : Type 0} {H : Y → Type 0} {D E : Place → Type 0} {p : Node PatternKind} {m : Place} {rest : List Placed} {answer : Answer ((Measured (Node PatternKind) × Place) × List Placed)} (next : (Measured (Node PatternKind) × Place) × List Placed → Answer Y) → Again (IsLeft p m rest) D answer → ((p : Place) → D p → E p) → ((h : Height) → Again H E (next ((measured p h, m), rest))) → Again H E (answer >>= next)
again_left {H = H} {E = E} next a d k = again_then a d λ q g. let e = left_is q g in subst (λ z. Again H E (next z)) (sym e.1) (k e.0)

-- an element of a body is read again
pub item-again : (levels : ℕ) (l : Level) → IsLevel levels l → (i : Node ItemKind) (rest : List Placed) → IsItem i → EndsItem rest → Again (IsPart i rest) (IsDeep item_deep levels i) (read_item l (item_tokens i ++ rest))
unfolding read_item
item-again levels l L _ rest (value e i) f = again_from (ap (λ ts. read_item l (ts ++ rest)) (value_tokens e))
    (again_false _ (no_equals_in e rest i f.no_match) (again_read _ (L.expr_again e rest i f.ends_expr) (λ p d. deeper_in p (item_kind_deep-Value e levels) d) λ h. again_ok (h, refl)))
item-again levels l L _ rest (match_item p e m i j) f = again_from (ap (read_item l) (parts_behind _ (pattern_tokens p) (expr_tokens e) rest _ (match_tokens p e m)))
    (again_true _ (pattern-leads_to_equals i m (expr_tokens e ++ rest))
    (again_left _ (L.left_again p m (expr_tokens e ++ rest) i (no_equals_in e rest j f.no_match)) (λ q d. deeper_in q (item_kind_deep-Match p e levels) (among_front q (pattern_deep p levels) _ d)) λ h.
    again_read _ (L.expr_again e rest j f.ends_expr) (λ q d. deeper_in q (item_kind_deep-Match p e levels) (among_behind q (pattern_deep p levels) _ d)) λ k. again_ok (higher h k, refl)))

-- a qualifier is read again
pub qualifier-again : (levels : ℕ) (l : Level) → IsLevel levels l → (q : Node QualifierKind) (rest : List Placed) → IsQualifier q → EndsQualifier rest → Again (IsPart q rest) (IsDeep qualifier_deep levels q) (read_qualifier l (qualifier_tokens q ++ rest))
unfolding read_qualifier
qualifier-again levels l L _ rest (filter e i) f = again_from (ap (λ ts. read_qualifier l (ts ++ rest)) (filter_tokens e))
    (again_false _ (no_arrow_in e rest i f.no_generator) (again_read _ (L.expr_again e rest i f.ends_expr) (λ p d. deeper_in p (qualifier_kind_deep-Filter e levels) d) λ h. again_ok (h, refl)))
qualifier-again levels l L _ rest (generator p e m i j) f = again_from (ap (read_qualifier l) (parts_behind _ (pattern_tokens p) (expr_tokens e) rest _ (generator_tokens p e m)))
    (again_true _ (pattern-leads_to_arrow i m (expr_tokens e ++ rest))
    (again_read _ (L.pattern_again p _ i (ends_pattern _ m (expr_tokens e ++ rest) refl refl refl)) (λ q d. deeper_in q (qualifier_kind_deep-Generator p e levels) (among_front q (pattern_deep p levels) _ d)) λ h.
    again_step _ (expect_mark-again (codes "<-") m (expr_tokens e ++ rest))
    (again_read _ (L.expr_again e rest j f.ends_expr) (λ q d. deeper_in q (qualifier_kind_deep-Generator p e levels) (among_behind q (pattern_deep p levels) _ d)) λ k. again_ok (higher h k, refl))))

-- a key and its value are read again
association-again : (levels : ℕ) (l : Level) → IsLevel levels l → (may_be_exact is_exact : Bool) (k v : Node ExprKind) (m : Place) (rest : List Placed) → (is_exact ≡ true → may_be_exact ≡ true) → IsExpr 0 k → IsExpr 0 v → EndsExpr (at (T.Mark (association_text is_exact)) m ∷ (expr_tokens v ++ rest)) → EndsAssoc rest
    → Again (IsPart (node k.place (m ∷ []) (assoc_of k is_exact v)) rest) (IsDeep assoc_deep levels (node k.place (m ∷ []) (assoc_of k is_exact v))) (read_assoc l may_be_exact (assoc_tokens (node k.place (m ∷ []) (assoc_of k is_exact v)) ++ rest))
unfolding read_assoc
association-again levels l L may_be_exact is_exact k v m rest x i j c f = again_from (ap (read_assoc l may_be_exact) (parts_behind _ (expr_tokens k) (expr_tokens v) rest _ (association_tokens k v is_exact m)))
    (again_read _ (L.expr_again k _ i c) (λ q d. deeper_in q (assoc_kind_deep-assoc_of k is_exact v levels) (among_front q (expr_deep k levels) _ d)) λ h.
    again_step _ (arrow-again may_be_exact is_exact m (expr_tokens v ++ rest) x)
    (again_read _ (L.expr_again v rest j f.ends_expr) (λ q d. deeper_in q (assoc_kind_deep-assoc_of k is_exact v levels) (among_behind q (expr_deep k levels) _ d)) λ g. again_none _ f.no_qualifiers (again_ok (higher h g, refl))))

-- an association is read again
pub assoc-again : (levels : ℕ) (l : Level) → IsLevel levels l → (may_be_exact : Bool) (a : Node AssocKind) (rest : List Placed) → IsAssoc may_be_exact a → EndsAssoc rest → Again (IsPart a rest) (IsDeep assoc_deep levels a) (read_assoc l may_be_exact (assoc_tokens a ++ rest))
assoc-again levels l L _ _ rest (added may_be_exact k v m i j) f = association-again levels l L may_be_exact false k v m rest (λ e. absurd cc) i j (closes-expr adds-closes m (expr_tokens v ++ rest)) f
assoc-again levels l L _ _ rest (exact k v m i j) f = association-again levels l L true true k v m rest (λ e. e) i j (closes-expr exact-closes m (expr_tokens v ++ rest)) f
