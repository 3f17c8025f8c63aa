-- Types and parameters of fun types: what is read is right.
use Rattle.std.proofs.Common.{◌≡◌, ℕ, zero, suc, ◌≤◌, List, [], ◌∷◌, ◌++◌, length, refl, ap, sym, ◌∙◌, subst, append_assoc, arith}
use Rattle.std.specs.Prelude.{Option, Some, None, Err, true, codes}
use Rattle.std.specs.Str.{bytes_eq}
use Rattle.type_terms.specs.Keys.{Name}
use Rattle.erl_tree.specs.declared.token.Place.{Place}
use Rattle.erl_tree.specs.declared.token.Placed.{Placed}
use Rattle.erl_tree.specs.declared.token.Token.{Token}
use Rattle.erl_tree.specs.declared.token.Token.TheVariants as T
use Rattle.erl_tree.specs.declared.pattern.LiteralKind.TheVariants as L
use Rattle.erl_tree.specs.declared.type_expr.TypeKind.TheVariants as Y
use Rattle.erl_grammar.specs.Pieces.{at}
use Rattle.erl_grammar.specs.TypeSpelling.{type_tokens}
use Rattle.erl_grammar.specs.TypeNesting.{type_deep}
use Rattle.erl_grammar.specs.Grammar.{node}
use Rattle.erl_grammar.specs.TypeGrammar.{integer_end, character_end, IsType, one_type, union, IsParameter, unnamed, named, IsSimpleType, any_fun_type, fun_type}
use Rattle.erl_grammar.proofs.TypeSpellingLaws.{type_shown-FunAll}
use Rattle.erl_grammar.proofs.TypeNestingLaws.{type_kind_deep-Or, type_kind_deep-Named, type_kind_deep-FunAll, type_kind_deep-Fun}
use Rattle.erl_parser_tokens.specs.declared.height.Measured.{Measured}
use Rattle.erl_parser_tokens.specs.declared.fault.ParseFault.TheVariants as faults
use Rattle.erl_parser_tokens.specs.Heights.{flat, higher}
use Rattle.erl_parser_tokens.specs.Tokens.{Answer, Reads, in_case, mark}
use Rattle.erl_parser_tokens.specs.Parts.{Several, built}
use Rattle.erl_parser_tokens.specs.Outside.{HasOutside, IsParameterText, type_text, behind_type}
use Rattle.erl_parser_tokens.proofs.Right.{Read}
use Rattle.erl_parser_tokens.proofs.HeightLaws.{measures_as, nothing_measured, both_measured, higher_within}
use Rattle.erl_parser_tokens.proofs.Then.{behind_token, behind_part, behind_behind, Right, right_ok, right_fault, right_outside, right_as, right_then, right_next, right_case, right_if, right_within, IsRead}
use Rattle.erl_parser_tokens.proofs.TokenLaws.{Holds, holds_none, holds_some, some_is, text_is, token_is, IsMarkNext, mark-takes, expect_mark, stands_after, wrong_word-right}
use Rattle.erl_parser_tokens.proofs.PartLaws.{AreRight}
use Rattle.erl_parser_tokens.proofs.ParameterLaws.{ParametersRead, parameters-right}
use Rattle.erl_parser_types.specs.Types.{TypeExpr, variable_name, name_of_parameter, read_parameter, read_fun_type, read_fun, type_from, read_simple_type, union_of, read_union, none_outside, read_type_with, type_levels, read_type, read_parameter_at}
use Rattle.erl_parser_types.proofs.TypeTexts.{union_text, named_text, parameters_text, fun_text}
use Rattle.erl_parser_types.proofs.TypeParts.{built_read, ReadsSimple, read_behind_literal-right, read_negative-right}
use Rattle.erl_parser_types.proofs.TypeForms.{read_variable-right, read_named-right, read_parens-right, read_tuple-right, read_list-right, read_hash-right}

-- each reader reads types rightly, with as many levels as there are readers behind it
abbrev pub AreTypeReaders : List (Reads (Measured TypeExpr)) → Type 0
AreTypeReaders readers = AreRight IsType type_tokens type_deep readers

-- ---- parameters

-- the tokens begin with a name and `::`
abbrev IsNameNext : List Placed → (Name × Place × Place) × List Placed → Type 0
IsNameNext ts x = ts ≡ at (T.Var x.0.0) x.0.1 ∷ at (T.Mark (codes "::")) x.0.2 ∷ x.1

variable_name-takes : (t : Token) → Holds (λ x. t ≡ T.Var x) (variable_name t)
variable_name-takes (T.Var y) x e = ap T.Var (some_is y x e)
variable_name-takes _ x e = absurd cc

name-takes : (ts : List Placed) → Holds (IsNameNext ts) (name_of_parameter ts)
unfolding name_of_parameter
name-takes [] = holds_none (IsNameNext [])
name-takes (t ∷ ts) = by (variable_name t.token) (mark (codes "::") ts) (variable_name-takes t.token) (mark-takes (codes "::") ts)
  where
    by : (v : Option Name) (o : Option (Place × List Placed)) → Holds (λ x. t.token ≡ T.Var x) v → Holds (IsMarkNext (codes "::") ts) o → Holds (IsNameNext (t ∷ ts)) (in_case v None (λ x. in_case o None (λ m. Some ((x, t.place, m.0), m.1))))
    by None o h k = holds_none (IsNameNext (t ∷ ts))
    by (Some x) None h k = holds_none (IsNameNext (t ∷ ts))
    by (Some x) (Some m) h k = holds_some (IsNameNext (t ∷ ts)) ((x, t.place, m.0), m.1) (ap (λ u. u ∷ ts) (token_is t (T.Var x) (h x refl)) ∙ ap (λ us. at (T.Var x) t.place ∷ us) (k m refl))

-- `X :: T` was read
named_read : {levels : ℕ} {ts us : List Placed} (x : Name) (p m : Place) (t : Measured TypeExpr × List Placed) → ts ≡ at (T.Var x) p ∷ at (T.Mark (codes "::")) m ∷ us → Read IsType type_tokens type_deep levels us t.0 t.1
    → Read IsParameter type_tokens type_deep (suc levels) ts (built p (p ∷ m ∷ []) (Y.Named x t.0.tree) t.0.height) t.1
named_read x p m t e h = built_read (named p m x t.0.tree h.formed) (e ∙ (ap (λ l. at (T.Var x) p ∷ at (T.Mark (codes "::")) m ∷ l) h.takes ∙ sym (named_text p m x t.0.tree t.1))) (measures_as (type_kind_deep-Named x t.0.tree) h.measures) h.within

unnamed_read : {levels : ℕ} {ts : List Placed} (t : Measured TypeExpr × List Placed) → IsRead IsType type_tokens type_deep levels ts t → IsRead IsParameter type_tokens type_deep levels ts t
unnamed_read t h = record { formed = unnamed t.0.tree h.formed; takes = h.takes; measures = h.measures; within = h.within }

read_parameter-right : (deeper : List (Reads (Measured TypeExpr))) (inner : Reads (Measured TypeExpr)) → AreTypeReaders (inner ∷ deeper) → (ts : List Placed) → Right (IsRead IsParameter type_tokens type_deep (length deeper) ts) ts (read_parameter deeper inner ts)
unfolding read_parameter
read_parameter-right [] inner r ts = right_case {o = name_of_parameter ts} {some = λ x. Err (faults.TooDeep x.0.1)} (λ e. right_as (λ t h. unnamed_read t h) (r.0 ts)) (λ x e. right_fault tt)
read_parameter-right (next ∷ deeper) inner r ts = right_case (λ e. right_as (λ t h. unnamed_read t h) (r.0 ts))
    (λ x e. let g = name-takes ts x e in right_next (behind_behind (behind_token g) (behind_token refl)) (r.1.0 x.1) λ t h. right_ok (named_read x.0.0 x.0.1 x.0.2 t g h))

-- ---- funs

-- the tokens of a parameter of a fun type
parameter_is_text : (t : TypeExpr) → IsParameter t → IsParameterText (type_tokens t)
parameter_is_text t i = type_text t i

any_fun_read : (levels : ℕ) (f : Place) (ts : List Placed) (o c : Place × List Placed) → IsMarkNext (codes "(") ts o → IsMarkNext (codes ")") o.1 c
    → Read IsSimpleType type_tokens type_deep (suc levels) (at (T.Word (codes "fun")) f ∷ ts) (built f (f ∷ o.0 ∷ c.0 ∷ []) Y.FunAll flat) c.1
any_fun_read levels f ts o c e g = built_read (any_fun_type f o.0 c.0) (ap (λ l. at (T.Word (codes "fun")) f ∷ l) (e ∙ ap (λ l. at (T.Mark (codes "(")) o.0 ∷ l) g) ∙ ap (λ l. l ++ c.1) (sym (type_shown-FunAll (f ∷ o.0 ∷ c.0 ∷ [])))) (nothing_measured type_kind_deep-FunAll) (omega arith)

-- parameters, an arrow, a result and the closing parenthesis were read
fun_read : (levels : ℕ) (f o q : Place) (ts : List Placed) (s : Several TypeExpr × List Placed) (a : Place × List Placed) (r : Measured TypeExpr × List Placed) (c : Place × List Placed)
    → ParametersRead IsParameter type_tokens type_deep levels ts s → IsMarkNext (codes "->") s.1 a → IsRead IsType type_tokens type_deep levels a.1 r → IsMarkNext (codes ")") r.1 c
    → Read IsSimpleType type_tokens type_deep (suc levels) (at (T.Word (codes "fun")) f ∷ at (T.Mark (codes "(")) o ∷ at (T.Mark (codes "(")) q ∷ ts) (built f (f ∷ o ∷ q ∷ (s.0.marks ++ a.0 ∷ c.0 ∷ [])) (Y.Fun s.0.items r.0.tree) (higher s.0.height r.0.height)) c.1
fun_read levels f o q ts s a r c h e k g =
    let marks = ap (λ ms. f ∷ o ∷ q ∷ ms) (ap (λ ms. ms ++ a.0 ∷ c.0 ∷ []) h.marks ∙ append_assoc h.between (h.close ∷ []) (a.0 ∷ c.0 ∷ [])) in
    subst (λ ms. Read IsSimpleType type_tokens type_deep (suc levels) (at (T.Word (codes "fun")) f ∷ at (T.Mark (codes "(")) o ∷ at (T.Mark (codes "(")) q ∷ ts) (built f ms (Y.Fun s.0.items r.0.tree) (higher s.0.height r.0.height)) c.1) (sym marks)
    (built_read (fun_type f o q h.close a.0 c.0 h.between s.0.items r.0.tree h.few h.gaps h.formed k.formed)
    (ap (λ l. at (T.Word (codes "fun")) f ∷ at (T.Mark (codes "(")) o ∷ at (T.Mark (codes "(")) q ∷ l) (h.takes ∙ ap (λ l. parameters_text s.0.items h.between h.close l) (e ∙ ap (λ l. at (T.Mark (codes "->")) a.0 ∷ l) (k.takes ∙ ap (λ l. type_tokens r.0.tree ++ l) g)))
    ∙ sym (fun_text f o q h.close a.0 c.0 h.between s.0.items r.0.tree c.1 h.gaps))
    (measures_as (type_kind_deep-Fun s.0.items r.0.tree) (both_measured h.measures k.measures)) (higher_within s.0.height r.0.height levels h.within k.within))

module _ (deeper : List (Reads (Measured TypeExpr))) (inner : Reads (Measured TypeExpr)) (readers : AreTypeReaders (inner ∷ deeper)) where
  read_fun_type-right : (f o : Place) (ts : List Placed) → ReadsSimple (suc (length deeper)) (at (T.Word (codes "fun")) f ∷ at (T.Mark (codes "(")) o ∷ ts) (read_fun_type deeper inner f o ts)
  unfolding read_fun_type
  read_fun_type-right f o ts = let one = behind_behind (behind_token {t = at (T.Word (codes "fun")) f} refl) (behind_token {t = at (T.Mark (codes "(")) o} refl) in right_next one (expect_mark (codes "(") ts) λ q hq.
      let two = behind_behind one (behind_token hq) in right_next (behind_behind one (behind_part [] hq)) (parameters-right IsParameter type_tokens type_deep (length deeper) parameter_is_text (read_parameter deeper inner) (read_parameter-right deeper inner readers) q.0 q.1) λ s h.
      let three = behind_behind two (behind_behind (behind_part _ h.takes) (behind_token refl)) in right_next three (expect_mark (codes "->") s.1) λ a ha.
      let four = behind_behind three (behind_token ha) in right_next four (readers.0 a.1) λ r hr. right_next (behind_behind four (behind_part _ hr.takes)) (expect_mark (codes ")") r.1) λ c hc.
      right_ok (subst (λ l. Read IsSimpleType type_tokens type_deep (suc (length deeper)) (at (T.Word (codes "fun")) f ∷ at (T.Mark (codes "(")) o ∷ l) (built f (f ∷ o ∷ q.0 ∷ (s.0.marks ++ a.0 ∷ c.0 ∷ [])) (Y.Fun s.0.items r.0.tree) (higher s.0.height r.0.height)) c.1) (sym hq)
      (fun_read (length deeper) f o q.0 q.1 s a r c h ha hr hc))

  read_fun-right : (f : Place) (ts : List Placed) → ReadsSimple (suc (length deeper)) (at (T.Word (codes "fun")) f ∷ ts) (read_fun deeper inner f ts)
  unfolding read_fun
  read_fun-right f ts = right_next (behind_token refl) (expect_mark (codes "(") ts) λ o ho. right_case
      (λ e. subst (λ l. ReadsSimple (suc (length deeper)) (at (T.Word (codes "fun")) f ∷ l) (read_fun_type deeper inner f o.0 o.1)) (sym ho) (read_fun_type-right f o.0 o.1))
      (λ c e. right_ok (any_fun_read (length deeper) f ts o c ho (mark-takes (codes ")") o.1 c e)))

-- ---- types

-- the token is the mark with this text
by_text : {levels : ℕ} {m text : List ℕ} {p : Place} {ts : List Placed} {answer : Answer (Measured TypeExpr × List Placed)} → bytes_eq m text ≡ true → ReadsSimple levels (at (T.Mark text) p ∷ ts) answer → ReadsSimple levels (at (T.Mark m) p ∷ ts) answer
by_text {levels} {m} {text} {p} {ts} {answer} e r = subst (λ z. ReadsSimple levels (at (T.Mark z) p ∷ ts) answer) (sym (text_is text m e)) r

-- or the reserved word
by_word_text : {levels : ℕ} {w text : List ℕ} {p : Place} {ts : List Placed} {answer : Answer (Measured TypeExpr × List Placed)} → bytes_eq w text ≡ true → ReadsSimple levels (at (T.Word text) p ∷ ts) answer → ReadsSimple levels (at (T.Word w) p ∷ ts) answer
by_word_text {levels} {w} {text} {p} {ts} {answer} e r = subst (λ z. ReadsSimple levels (at (T.Word z) p ∷ ts) answer) (sym (text_is text w e)) r

module _ (deeper : List (Reads (Measured TypeExpr))) (inner : Reads (Measured TypeExpr)) (r : AreTypeReaders (inner ∷ deeper)) where
  type_from-right : (k : Token) (p : Place) (ts : List Placed) → ReadsSimple (suc (length deeper)) (at k p ∷ ts) (type_from k p deeper inner ts)
  type_from-right (T.Atom a) p ts = read_named-right (length deeper) inner r.0 a p ts
  type_from-right (T.Var x) p ts = read_variable-right (length deeper) x p ts
  type_from-right (T.Int n) p ts = read_behind_literal-right (length deeper) (node p (p ∷ []) (L.Int n)) ts (integer_end p n)
  type_from-right (T.Char c) p ts = read_behind_literal-right (length deeper) (node p (p ∷ []) (L.Char c)) ts (character_end p c)
  type_from-right (T.Mark m) p ts =
      right_if (λ e. by_text e (read_parens-right (length deeper) inner r.0 p ts)) λ e.
      right_if (λ e. by_text e (read_tuple-right (length deeper) inner r.0 p ts)) λ e.
      right_if (λ e. by_text e (read_list-right (length deeper) inner r.0 p ts)) λ e.
      right_if (λ e. by_text e (read_hash-right (length deeper) inner r.0 p ts)) λ e.
      right_if (λ e. by_text e (read_negative-right (length deeper) p ts)) λ e. right_fault {f = faults.Unexpected p} tt
  type_from-right (T.Word w) p ts = right_if (λ e. by_word_text e (read_fun-right deeper inner r p ts)) (λ e. wrong_word-right w p ts)
  type_from-right _ p ts = right_fault {f = faults.Unexpected p} tt

-- a type without `|` is read rightly
pub read_simple_type-right : (readers : List (Reads (Measured TypeExpr))) → AreTypeReaders readers → (ts : List Placed) → ReadsSimple (length readers) ts (read_simple_type readers ts)
unfolding read_simple_type
read_simple_type-right readers r [] = right_fault tt
read_simple_type-right [] r (t ∷ ts) = right_fault tt
read_simple_type-right (inner ∷ deeper) r (t ∷ ts) = type_from-right deeper inner r t.token t.place ts

-- a type without `|` is a type
simple_is : {levels : ℕ} {ts rest : List Placed} {t : Measured TypeExpr} → Read IsSimpleType type_tokens type_deep levels ts t rest → Read IsType type_tokens type_deep levels ts t rest
simple_is {t = t} h = record { formed = one_type t.tree h.formed; takes = h.takes; measures = h.measures; within = h.within }

-- `T | U` was read
union_read : {levels : ℕ} {ts us vs rest : List Placed} {t u : Measured TypeExpr} (m : Place) → Read IsSimpleType type_tokens type_deep (suc levels) ts t us → us ≡ at (T.Mark (codes "|")) m ∷ vs → t.height.depth ≤ levels → Read IsType type_tokens type_deep levels vs u rest
    → Read IsType type_tokens type_deep (suc levels) ts (union_of t m u) rest
union_read {levels = levels} {rest = rest} {t = t} {u = u} m h e l g = built_read (union t.tree u.tree m h.formed g.formed)
    (h.takes ∙ (ap (λ l. type_tokens t.tree ++ l) (e ∙ ap (λ l. at (T.Mark (codes "|")) m ∷ l) g.takes) ∙ sym (union_text t.tree u.tree m rest)))
    (measures_as (type_kind_deep-Or t.tree u.tree) (both_measured h.measures g.measures)) (higher_within t.height u.height levels l g.within)

read_union-right : (readers : List (Reads (Measured TypeExpr))) → AreTypeReaders readers → (ts : List Placed) (t : Measured TypeExpr) (us : List Placed) → Read IsSimpleType type_tokens type_deep (length readers) ts t us
    → Right (IsRead IsType type_tokens type_deep (length readers) ts) ts (read_union readers t us)
read_union-right [] r ts t us h = right_ok (simple_is h)
read_union-right (inner ∷ deeper) r ts t us h = right_case
    (λ e. right_ok (simple_is h))
    (λ m e. let g = mark-takes (codes "|") us m e in right_within (length deeper) t λ l.
    right_next (behind_behind (behind_part _ h.takes) (behind_token g)) (r.0 m.1) λ u k. right_ok (union_read m.0 h g l k))

-- a form outside of the profile behind a type
right_none_outside : {X : Type 0} {G : X → Type 0} {ts : List Placed} {answer : Answer X} (t : TypeExpr) (us : List Placed) → IsSimpleType t → ts ≡ type_tokens t ++ us → Right G ts answer → Right G ts (none_outside us answer)
right_none_outside t [] i e a = a
right_none_outside t (k ∷ us) i e a = right_case (λ n. a) (λ form h. right_outside (subst (λ l. HasOutside l k.place form) (sym e) (stands_after (type_tokens t) (behind_type form t k.token k.place [] us i h))))

-- a type is read rightly
pub read_type_with-right : (readers : List (Reads (Measured TypeExpr))) → AreTypeReaders readers → (ts : List Placed) → Right (IsRead IsType type_tokens type_deep (length readers) ts) ts (read_type_with readers ts)
unfolding read_type_with
read_type_with-right readers r ts = right_then (read_simple_type-right readers r ts) λ t h. right_none_outside t.0.tree t.1 h.formed h.takes (read_union-right readers r ts t.0 t.1 h)

-- ---- types nested at most so many levels deep

pub type_levels-length : (d : ℕ) → length (type_levels d) ≡ d
unfolding type_levels
type_levels-length zero = refl
type_levels-length (suc d) = ap suc (type_levels-length d)

pub type_levels-right : (d : ℕ) → AreTypeReaders (type_levels d)
unfolding type_levels
type_levels-right zero = tt
type_levels-right (suc d) = (read_type_with-right (type_levels d) (type_levels-right d), type_levels-right d)

-- a type is read rightly
pub read_type-right : (d : ℕ) (ts : List Placed) → Right (IsRead IsType type_tokens type_deep d ts) ts (read_type d ts)
read_type-right d ts = subst (λ n. Right (IsRead IsType type_tokens type_deep n ts) ts (read_type d ts)) (type_levels-length d) (read_type_with-right (type_levels d) (type_levels-right d) ts)

-- a parameter is read rightly
pub read_parameter_at-right : (d : ℕ) (ts : List Placed) → Right (IsRead IsParameter type_tokens type_deep d ts) ts (read_parameter_at d ts)
read_parameter_at-right d ts = subst (λ n. Right (IsRead IsParameter type_tokens type_deep n ts) ts (read_parameter_at d ts)) (type_levels-length d)
    (read_parameter-right (type_levels d) (read_type d) (read_type_with-right (type_levels d) (type_levels-right d), type_levels-right d) ts)
