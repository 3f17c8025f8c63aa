-- Small texts: the forms outside of the profile that stand in them, and the expression that a text is.
use Rattle.std.proofs.Common.{◌≡◌, ℕ, Bool, true, false, List, [], ◌∷◌, ◌++◌, length, map, refl, ap, sym, ◌∙◌, subst, inl, inr, pos, append_assoc, length-append, arith}
use Rattle.std.specs.Prelude.{Option, Some, None, nat_eq, codes}
use Rattle.std.specs.Str.{bytes_eq}
use Rattle.type_terms.specs.Keys.{Name}
use Rattle.erl_tree.specs.Lists.{Among}
use Rattle.erl_tree.specs.SmallText.{place, placed}
use Rattle.erl_tree.specs.declared.token.Place.{Place}
use Rattle.erl_tree.specs.declared.token.Placed.{Placed}
use Rattle.erl_tree.specs.declared.token.Node.{Node}
use Rattle.erl_tree.specs.declared.token.Token.{Token}
use Rattle.erl_tree.specs.declared.token.Token.TheVariants as T
use Rattle.erl_tree.specs.declared.expr.ExprKind.{ExprKind}
use Rattle.erl_tree.specs.declared.expr.ExprKind.TheVariants as X
use Rattle.erl_tree.specs.declared.expr.AssocKind.{AssocKind}
use Rattle.erl_grammar.specs.declared.head.Head.TheVariants.{Plain}
use Rattle.erl_grammar.specs.declared.misfit.Misfit.TheVariants.{Call}
use Rattle.erl_grammar.specs.Pieces.{at}
use Rattle.erl_grammar.specs.Guards.{is_arity_layer, misfit}
use Rattle.erl_grammar.specs.Spelling.{expr_tokens, assoc_tokens}
use Rattle.erl_grammar.specs.Grammar.{node, assoc_of, IsExpr, postfix, atom, integer, variable, added}
use Rattle.erl_grammar.specs.SmallTrees.{int_at, atom_at, var_at, function_of_arity}
use Rattle.erl_grammar.proofs.SpellingLaws.{expr_shown-Int, expr_shown-Atom, expr_shown-Call, expr_tokens_laws, part_tokens_laws}
use Rattle.erl_grammar.proofs.GuardLaws.{misfit_in-Atom}
use Rattle.erl_grammar.proofs.Layers.{each}
use Rattle.erl_parser_tokens.specs.Tokens.{is_mark, outside_behind, outside_behind_pattern, outside_behind_type}
use Rattle.erl_parser_tokens.specs.Outside.{HasOutside, IsOutside, by_word, behind_expr, behind_pattern, behind_type, remote_atom, remote_variable, remote_fun, remote_type, no_set_operation, remote_spec, by_attribute, by_attribute_word, adjacent_strings, named_fun, map_comprehension, stack_trace, record_wildcard, record_index, map_key, arity, wrong_call, wrong_prefixed_call, guard_call}
use Rattle.erl_parser_tokens.proofs.TokenLaws.{same_text, stands_after}
use Rattle.erl_parser_exprs.specs.Answers.{IsText}
use Rattle.erl_parser_exprs.specs.SmallTexts.{arity_of_256, name_in_m, map_of_all, only_a, open_tuple, one_unended, one_ended, one_ended_twice}
use Rattle.erl_parser_exprs.proofs.FirstTokens.{expr_first}
use Rattle.erl_parser_exprs.proofs.WholeLaws.{one_expression}

-- ---- the parts of examples

integer_is : (n : ℕ) (column : ℕ) → IsExpr 0 (int_at (pos n) column)
integer_is n column = postfix 0 Plain _ (integer (place column) (pos n))

atom_is : (a : Name) (column : ℕ) → IsExpr 0 (atom_at a column)
atom_is a column = postfix 0 Plain _ (atom (place column) a)

variable_is : (x : Name) (column : ℕ) → IsExpr 0 (var_at x column)
variable_is x column = postfix 0 Plain _ (variable (place column) x)

-- ---- what stands there

call_tokens : expr_tokens (function_of_arity (pos 256)) ++ [] ≡ arity_of_256
call_tokens = simp expr_tokens_laws refl

pub call_stands : HasOutside arity_of_256 (place 1) (codes "built-in")
call_stands = stands_after [] (subst (IsOutside (codes "built-in") (place 1) []) call_tokens
    (wrong_call (codes "is_function") (var_at (codes "F") 13 ∷ int_at (pos 256) 16 ∷ []) (place 1) (place 12) (place 19) (place 14 ∷ []) [] []
    (subst (λ l. is_arity_layer l ≡ false) (sym (X.outs-Int (pos 256))) refl)
    tt
    (each (IsExpr 0) (var_at (codes "F") 13 ∷ int_at (pos 256) 16 ∷ []) (variable_is (codes "F") 13, (integer_is 256 16, tt)))))

pub name_stands : HasOutside name_in_m (place 2) (codes "remote name")
name_stands = stands_after (placed (T.Atom (codes "m")) 1 ∷ []) (remote_atom (codes "m") (place 1) (place 2) [] (placed (T.Atom (codes "f")) 3 ∷ []) refl)

-- `k => v`
abbrev association : Node AssocKind
association = node (place 3) (place 5 ∷ []) (assoc_of (atom_at (codes "k") 3) false (atom_at (codes "v") 8))

association_tokens : assoc_tokens association ≡ placed (T.Atom (codes "k")) 3 ∷ placed (T.Mark (codes "=>")) 5 ∷ placed (T.Atom (codes "v")) 8 ∷ []
association_tokens = simp (expr_tokens_laws, part_tokens_laws) refl

pub comprehension_stands : HasOutside map_of_all (place 10) (codes "map comprehension")
comprehension_stands = record {
  before = placed (T.Mark (codes "#")) 1 ∷ placed (T.Mark (codes "{")) 2 ∷ assoc_tokens association;
  rest = placed (T.Mark (codes "||")) 10 ∷ [];
  split = sym (ap (λ l. placed (T.Mark (codes "#")) 1 ∷ placed (T.Mark (codes "{")) 2 ∷ (l ++ placed (T.Mark (codes "||")) 10 ∷ [])) association_tokens);
  stands = map_comprehension false association (place 10) (placed (T.Mark (codes "#")) 1 ∷ placed (T.Mark (codes "{")) 2 ∷ []) [] (added false _ _ (place 5) (atom_is (codes "k") 3) (atom_is (codes "v") 8));
}

-- ---- what doesn't stand there

-- a form of another name
other_form : (form wanted : Name) → bytes_eq form wanted ≡ false → form ≡ wanted → ⊥
other_form form wanted e f = let g : bytes_eq form wanted ≡ true = subst (λ z. bytes_eq z wanted ≡ true) (sym f) (same_text wanted) in cc

none_some : {A : Type 0} (o : Option A) (a : A) → o ≡ None → o ≡ Some a → ⊥
none_some o a e f = cc

false_true : (b : Bool) → b ≡ false → b ≡ true → ⊥
false_true b e f = cc

-- a token is the only one
only_token : (before rest : List Placed) (t u : Placed) → u ∷ [] ≡ before ++ t ∷ rest → (t ≡ u) × (rest ≡ [])
only_token [] rest t u e = (cc, cc)
only_token (x ∷ before) rest t u e = absurd (omega (arith, ap length e, length-append before (t ∷ rest)))

only_kind : (before rest : List Placed) (k : Token) (p : Place) → only_a ≡ before ++ at k p ∷ rest → k ≡ T.Atom (codes "a")
only_kind before rest k p e = ap (λ t. t.token) (only_token before rest (at k p) (placed (T.Atom (codes "a")) 1) e).0

-- two tokens stand there
two_tokens : (before tokens us rest : List Placed) (t u : Placed) → tokens ≡ t ∷ u ∷ us → only_a ≡ before ++ (tokens ++ rest) → ⊥
two_tokens before tokens us rest t u e h = let g = only_token before (u ∷ (us ++ rest)) t (placed (T.Atom (codes "a")) 1) (h ∙ ap (λ l. before ++ (l ++ rest)) e) in let n : u ∷ (us ++ rest) ≡ [] = g.1 in cc

front_none : (xs ys : List Placed) → xs ++ ys ≡ [] → xs ≡ []
front_none [] ys e = refl
front_none (x ∷ xs) ys e = absurd cc

-- an expression whose tokens these are is the atom, in which no call stands
only_expr : (before rest : List Placed) (e : Node ExprKind) → IsExpr 0 e → only_a ≡ before ++ (expr_tokens e ++ rest) → e ≡ atom_at (codes "a") 1
only_expr before rest e i h =
    let b = expr_first i in
    let g = only_token before (b.others ++ rest) (at b.first e.place) (placed (T.Atom (codes "a")) 1) (h ∙ ap (λ l. before ++ (l ++ rest)) b.tokens) in
    let tokens : expr_tokens e ≡ only_a = b.tokens ∙ (ap (λ l. at b.first e.place ∷ l) (front_none b.others rest g.1) ∙ ap (λ t. t ∷ []) g.0) in
    one_expression e (atom_at (codes "a") 1) i (atom_is (codes "a") 1) (tokens ∙ sym (expr_shown-Atom (codes "a") (place 1 ∷ [])))

no_built_in : {form : Name} {p : Place} {before rest : List Placed} → IsOutside form p before rest → form ≡ codes "built-in" → only_a ≡ before ++ rest → ⊥
no_built_in (by_word form text p before rest e) f h = let g : T.Word text ≡ T.Atom (codes "a") = only_kind before rest (T.Word text) p h in cc
no_built_in (behind_expr form e t p before rest i o) f h = none_some (outside_behind (T.Atom (codes "a"))) form refl (subst (λ k. outside_behind k ≡ Some form) (only_kind (before ++ expr_tokens e) rest t p h) o)
no_built_in (behind_pattern form q t p before rest i o) f h = none_some (outside_behind_pattern (T.Atom (codes "a"))) form refl (subst (λ k. outside_behind_pattern k ≡ Some form) (only_kind _ rest t p h) o)
no_built_in (behind_type form u t p before rest i o) f h = none_some (outside_behind_type (T.Atom (codes "a"))) form refl (subst (λ k. outside_behind_type k ≡ Some form) (only_kind _ rest t p h) o)
no_built_in (remote_atom a q p before rest e) f h = other_form _ _ refl f
no_built_in (remote_type a q p before rest e) f h = other_form _ _ refl f
no_built_in (no_set_operation name args p d n o c ms before rest e g k) f h = other_form _ _ refl f
no_built_in (remote_spec a y w q p before rest) f h = other_form _ _ refl f
no_built_in (by_attribute form name p q before rest e) f h = let g : T.Mark (codes "-") ≡ T.Atom (codes "a") = only_kind before (at (T.Atom name) q ∷ rest) (T.Mark (codes "-")) p h in cc
no_built_in (by_attribute_word w p q before rest e) f h = other_form _ _ refl f
no_built_in (remote_variable x q p before rest) f h = other_form _ _ refl f
no_built_in (remote_fun a w q p before rest) f h = other_form _ _ refl f
no_built_in (adjacent_strings s t p q before rest) f h = other_form _ _ refl f
no_built_in (named_fun x p q before rest) f h = other_form _ _ refl f
no_built_in (map_comprehension b n p before rest i) f h = other_form _ _ refl f
no_built_in (stack_trace c q d p before rest i j) f h = other_form _ _ refl f
no_built_in (record_wildcard p q before rest) f h = other_form _ _ refl f
no_built_in (record_index name p q r before rest) f h = other_form _ _ refl f
no_built_in (map_key t p before rest e) f h = other_form _ _ refl f
no_built_in (arity ps ms o m before rest t e g k) f h = other_form _ _ refl f
no_built_in (wrong_call name args p o c ms before rest e g k) f h = two_tokens before _ _ rest _ _ (expr_shown-Call None name args (p ∷ o ∷ (ms ++ c ∷ []))) h
no_built_in (wrong_prefixed_call name args p d n o c ms before rest e g k) f h = two_tokens before _ _ rest _ _ (expr_shown-Call (Some (codes "erlang")) name args (p ∷ d ∷ n ∷ o ∷ (ms ++ c ∷ []))) h
no_built_in (guard_call e p before rest i m) f h = none_some (misfit (atom_at (codes "a") 1)) (Call p) (misfit_in-Atom (codes "a") (place 1)) (subst (λ z. misfit z ≡ Some (Call p)) (only_expr before rest e i h) m)

pub atom_no_call : (p : Place) → HasOutside only_a p (codes "built-in") → ⊥
atom_no_call p h = no_built_in h.stands refl h.split

stands_among : (before rest : List Placed) (t : Placed) → Among t (before ++ t ∷ rest)
stands_among [] rest t = inl refl
stands_among (x ∷ before) rest t = inr (stands_among before rest t)

-- what holds of each of the tokens
tuple_kinds : (P : Token → Type 0) → P (T.Mark (codes "{")) → P (T.Var (codes "X")) → P (T.Mark (codes ",")) → P (T.Atom (codes "b")) → (before rest : List Placed) (t : Placed) → open_tuple ≡ before ++ t ∷ rest → P t.token
tuple_kinds P a b c d before rest t e = by (subst (Among t) (sym e) (stands_among before rest t))
  where
    by : Among t open_tuple → P t.token
    by (inl g) = subst (λ z. P z.token) (sym g) a
    by (inr (inl g)) = subst (λ z. P z.token) (sym g) b
    by (inr (inr (inl g))) = subst (λ z. P z.token) (sym g) c
    by (inr (inr (inr (inl g)))) = subst (λ z. P z.token) (sym g) d
    by (inr (inr (inr (inr g)))) = absurd g

no_arity : {form : Name} {p : Place} {before rest : List Placed} → IsOutside form p before rest → form ≡ codes "arity" → open_tuple ≡ before ++ rest → ⊥
no_arity (by_word form text p before rest e) f h = tuple_kinds (λ k. k ≡ T.Word text → ⊥) (λ g. cc) (λ g. cc) (λ g. cc) (λ g. cc) before rest (at (T.Word text) p) h refl
no_arity (behind_expr form e t p before rest i o) f h = tuple_kinds (λ k. outside_behind k ≡ Some form → ⊥) (none_some _ form refl) (none_some _ form refl) (none_some _ form refl) (none_some _ form refl) (before ++ expr_tokens e) rest (at t p) h o
no_arity (behind_pattern form q t p before rest i o) f h = tuple_kinds (λ k. outside_behind_pattern k ≡ Some form → ⊥) (none_some _ form refl) (none_some _ form refl) (none_some _ form refl) (none_some _ form refl) _ rest (at t p) h o
no_arity (behind_type form u t p before rest i o) f h = tuple_kinds (λ k. outside_behind_type k ≡ Some form → ⊥) (none_some _ form refl) (none_some _ form refl) (none_some _ form refl) (none_some _ form refl) _ rest (at t p) h o
no_arity (remote_atom a q p before rest e) f h = other_form _ _ refl f
no_arity (remote_type a q p before rest e) f h = other_form _ _ refl f
no_arity (no_set_operation name args p d n o c ms before rest e g k) f h = other_form _ _ refl f
no_arity (remote_spec a y w q p before rest) f h = other_form _ _ refl f
no_arity (by_attribute form name p q before rest e) f h = tuple_kinds (λ k. is_mark (codes "-") k ≡ true → ⊥) (false_true _ refl) (false_true _ refl) (false_true _ refl) (false_true _ refl) before (at (T.Atom name) q ∷ rest) (at (T.Mark (codes "-")) p) h refl
no_arity (by_attribute_word w p q before rest e) f h = other_form _ _ refl f
no_arity (remote_variable x q p before rest) f h = other_form _ _ refl f
no_arity (remote_fun a w q p before rest) f h = other_form _ _ refl f
no_arity (adjacent_strings s t p q before rest) f h = other_form _ _ refl f
no_arity (named_fun x p q before rest) f h = other_form _ _ refl f
no_arity (map_comprehension b n p before rest i) f h = other_form _ _ refl f
no_arity (stack_trace c q d p before rest i j) f h = other_form _ _ refl f
no_arity (record_wildcard p q before rest) f h = other_form _ _ refl f
no_arity (record_index name p q r before rest) f h = other_form _ _ refl f
no_arity (map_key t p before rest e) f h = other_form _ _ refl f
no_arity (arity ps ms o m before rest t e g k) f h = tuple_kinds (λ k. is_mark (codes "(") k ≡ true → ⊥) (false_true _ refl) (false_true _ refl) (false_true _ refl) (false_true _ refl) before _ (at (T.Mark (codes "(")) o) (h ∙ append_assoc before _ (t ∷ rest)) refl
no_arity (wrong_call name args p o c ms before rest e g k) f h = other_form _ _ refl f
no_arity (wrong_prefixed_call name args p d n o c ms before rest e g k) f h = other_form _ _ refl f
no_arity (guard_call e p before rest i m) f h = other_form _ _ refl f

pub tuple_no_arity : (p : Place) → HasOutside open_tuple p (codes "arity") → ⊥
tuple_no_arity p h = no_arity h.stands refl h.split

-- ---- the text of an expression

one_tokens : expr_tokens (int_at (pos 1) 1) ≡ placed (T.Int (pos 1)) 1 ∷ []
one_tokens = expr_shown-Int (pos 1) (place 1 ∷ [])

pub ended_once : IsText (int_at (pos 1) 1) one_ended
ended_once = record { end = place 2; text = sym (ap (λ l. l ++ at T.End (place 2) ∷ []) one_tokens) }

-- a text of `1` has two tokens
two_long : (ts : List Placed) → IsText (int_at (pos 1) 1) ts → length ts ≡ 2
two_long ts h = ap length (h.text ∙ ap (λ l. l ++ at T.End h.end ∷ []) one_tokens)

-- a number is another one than 2
not_two : (n : ℕ) → n ≡ 2 → nat_eq n 2 ≡ false → ⊥
not_two n e f = false_true (nat_eq 2 2) (subst (λ m. nat_eq m 2 ≡ false) e f) refl

pub never_ended : IsText (int_at (pos 1) 1) one_unended → ⊥
never_ended h = not_two (length one_unended) (two_long one_unended h) refl

pub ended_twice : IsText (int_at (pos 1) 1) one_ended_twice → ⊥
ended_twice h = not_two (length one_ended_twice) (two_long one_ended_twice h) refl
