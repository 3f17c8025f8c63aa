-- The integers of a module's types and expressions are in the limit, since those of its tokens are.
use Rattle.std.proofs.Common.{◌≡◌, refl, ◌∙◌, subst, ℕ, ◌<◌, List, [], ◌∷◌, map, length, arith}
use Rattle.std.specs.Prelude.{Bool, true, false, ℤ, pos, negsuc, nat_le, Some, codes}
use Rattle.std.proofs.lemmas.Bool.{and_from}
use Rattle.erl_tree.specs.declared.token.Place.{Place}
use Rattle.erl_tree.specs.declared.token.Placed.{Placed}
use Rattle.erl_tree.specs.declared.token.Node.{Node}
use Rattle.erl_tree.specs.declared.token.Token.TheVariants as T
use Rattle.erl_tree.specs.declared.pattern.LiteralKind.{LiteralKind}
use Rattle.erl_tree.specs.declared.pattern.LiteralKind.TheVariants as L
use Rattle.erl_tree.specs.declared.type_expr.TypeKind.{TypeKind}
use Rattle.erl_tree.specs.declared.expr.BinaryOp.{BinaryOp}
use Rattle.erl_tree.specs.declared.expr.BinaryOp.TheVariants.{Add, Sub, Mul}
use Rattle.erl_tree.specs.declared.expr.ExprKind.{ExprKind}
use Rattle.erl_tree.specs.Lists.{Every}
use Rattle.erl_tree.specs.Limits.{integer_limit, IsInLimit}
use Rattle.flat_modules.specs.Grammar.{is_end_layer, IsType, one_type, union, IsSimpleType, atom_type, integer_type, negative_type, range_type, use_type, paren_type, IsAdditive, IsExpr, one_product, sum, IsProduct, one_operand, product, IsOperand, integer, atom, variable, parens, call as call_operand, AreArguments, no_arguments, last_argument, more_arguments, AreParamMarks}
use Rattle.flat_modules.specs.Spelling.{mark, literal_tokens, literal_layer, type_tokens, expr_tokens, operator_text, operation_tokens, params_tokens, arguments_tokens}
use Rattle.flat_modules.proofs.TreeLaws.{type_shown-Int, type_shown-NegInt, type_shown-Paren, type_shown-Or, type_shown-Range, expr_shown-Int, expr_shown-Paren, expr_shown-Binary, expr_shown-Call}
use Rattle.cert_checker.specs.FlatTypes.{is_limited, is_limited_end, is_limited_type, is_limited_expr}
use Rattle.cert_checker.proofs.Lists.{every-split}
use Rattle.cert_checker.proofs.FlatForms.{limited-Int as type-Int, limited-NegInt as type-NegInt, limited-Paren as type-Paren, limited-Or as type-Or, limited-Range as type-Range, limited-Atom as type-Atom, limited-Use as type-Use}
use Rattle.cert_checker.proofs.ExpressionForms.{are_limited, limited-Int as expr-Int, limited-Atom as expr-Atom, limited-Var as expr-Var, limited-Paren as expr-Paren, limited-Binary as expr-Binary, limited-Call as expr-Call}

-- a token in the limit
abbrev pub InLimit : Placed → Type 0
InLimit t = IsInLimit t.token

above : (n : ℕ) → nat_le n integer_limit ≡ false → integer_limit < n
above n e = grind arith

below : (n : ℕ) → (integer_limit < n → ⊥) → nat_le n integer_limit ≡ true
below n h = go (nat_le n integer_limit) refl
  where
    go : (b : Bool) → nat_le n integer_limit ≡ b → nat_le n integer_limit ≡ true
    go true e = e
    go false e = absurd (h (above n e))

pub token-limited : (n : ℤ) → IsInLimit (T.Int n) → is_limited n ≡ true
token-limited (pos n) h = below n h
token-limited (negsuc n) h = absurd (h tt)

-- ---- types

end-limited : (k : LiteralKind) (p : Place) (ms : List Place) → is_end_layer k p ms → Every InLimit (literal_layer k ms) → is_limited_end k ≡ true
end-limited (L.Int n) p (q ∷ []) w h = token-limited n h.0
end-limited (L.Int n) p [] w h = absurd w
end-limited (L.Int n) p (q ∷ r ∷ ms) w h = absurd w
end-limited (L.NegInt n) p (q ∷ r ∷ []) w h = token-limited n h.1.0
end-limited (L.NegInt n) p [] w h = absurd w
end-limited (L.NegInt n) p (q ∷ []) w h = absurd w
end-limited (L.NegInt n) p (q ∷ r ∷ s ∷ ms) w h = absurd w
end-limited (L.Atom a) p ms w h = absurd w
end-limited (L.Char a) p ms w h = absurd w

at-tokens : (ts us : List Placed) → ts ≡ us → Every InLimit ts → Every InLimit us
at-tokens ts us e h = subst (λ z. Every InLimit z) e h

mutual
  pub type-limited : (t : Node TypeKind) → IsType t → Every InLimit (type_tokens t) → is_limited_type t.kind ≡ true
  type-limited t (one_type _ w) h = simple-limited t w h
  type-limited t (union a b m v w) h =
      let x : Every InLimit (type_tokens a) × Every InLimit (mark (codes "|") m ∷ type_tokens b) = every-split InLimit (type_tokens a) _ (at-tokens _ _ (type_shown-Or a b m) h) in
      type-Or a b ∙ and_from _ _ (simple-limited a v x.0) (type-limited b w x.1.1)

  simple-limited : (t : Node TypeKind) → IsSimpleType t → Every InLimit (type_tokens t) → is_limited_type t.kind ≡ true
  simple-limited t (atom_type p a) h = type-Atom a
  simple-limited t (integer_type p n) h = type-Int n ∙ token-limited n (at-tokens _ _ (type_shown-Int n p) h).0
  simple-limited t (negative_type q p n) h = type-NegInt n ∙ token-limited n (at-tokens _ _ (type_shown-NegInt n q p) h).1.0
  simple-limited t (range_type low high m v w) h =
      let x : Every InLimit (literal_tokens low) × Every InLimit (mark (codes "..") m ∷ literal_tokens high) = every-split InLimit (literal_tokens low) _ (at-tokens _ _ (type_shown-Range low high m) h) in
      type-Range low high ∙ and_from _ _ (end-limited low.kind low.place low.marks v x.0) (end-limited high.kind high.place high.marks w x.1.1)
  simple-limited t (use_type p o c name) h = type-Use name
  simple-limited t (paren_type o c u w) h =
      let x : Every InLimit (type_tokens u) × Every InLimit (mark (codes ")") c ∷ []) = every-split InLimit (type_tokens u) _ (at-tokens _ _ (type_shown-Paren u o c) h).1 in
      type-Paren u ∙ type-limited u w x.0

-- ---- expressions

additive-text : (op : BinaryOp) → IsAdditive op → (text : List ℕ) × (operator_text op ≡ Some text)
additive-text Add h = (_, refl)
additive-text Sub h = (_, refl)
additive-text Mul h = absurd h
additive-text _ h = absurd h

operation-split : (op : BinaryOp) (text : List ℕ) (xs ys : List Placed) (m : Place) → operator_text op ≡ Some text → Every InLimit (operation_tokens (operator_text op) xs m ys) → Every InLimit xs × Every InLimit ys
operation-split op text xs ys m e h =
    let x : Every InLimit xs × Every InLimit (mark text m ∷ ys) = every-split InLimit xs (mark text m ∷ ys) (subst (λ o. Every InLimit (operation_tokens o xs m ys)) e h) in
    (x.0, x.1.1)

mutual
  pub expr-limited : (e : Node ExprKind) → IsExpr e → Every InLimit (expr_tokens e) → is_limited_expr e.kind ≡ true
  expr-limited e (one_product _ w) h = product-limited e w h
  expr-limited e (sum op a b m o v w) h =
      let t : (text : List ℕ) × (operator_text op ≡ Some text) = additive-text op o in
      let x : Every InLimit (expr_tokens a) × Every InLimit (expr_tokens b) = operation-split op t.0 (expr_tokens a) (expr_tokens b) m t.1 (at-tokens _ _ (expr_shown-Binary op a b m) h) in
      expr-Binary op a b ∙ and_from _ _ (expr-limited a v x.0) (product-limited b w x.1)

  product-limited : (e : Node ExprKind) → IsProduct e → Every InLimit (expr_tokens e) → is_limited_expr e.kind ≡ true
  product-limited e (one_operand _ w) h = operand-limited e w h
  product-limited e (product a b m v w) h =
      let x : Every InLimit (expr_tokens a) × Every InLimit (expr_tokens b) = operation-split Mul (codes "*") (expr_tokens a) (expr_tokens b) m refl (at-tokens _ _ (expr_shown-Binary Mul a b m) h) in
      expr-Binary Mul a b ∙ and_from _ _ (product-limited a v x.0) (operand-limited b w x.1)

  operand-limited : (e : Node ExprKind) → IsOperand e → Every InLimit (expr_tokens e) → is_limited_expr e.kind ≡ true
  operand-limited e (integer p n) h = expr-Int n ∙ token-limited n (at-tokens _ _ (expr_shown-Int n p) h).0
  operand-limited e (atom p a) h = expr-Atom a
  operand-limited e (variable p x) h = expr-Var x
  operand-limited e (parens o c f w) h =
      let x : Every InLimit (expr_tokens f) × Every InLimit (mark (codes ")") c ∷ []) = every-split InLimit (expr_tokens f) _ (at-tokens _ _ (expr_shown-Paren f o c) h).1 in
      expr-Paren f ∙ expr-limited f w x.0
  operand-limited e (call_operand n o ms name args w) h = expr-Call name args ∙ args-limited args ms w (at-tokens _ _ (expr_shown-Call name args n o ms) h).1.1

  args-limited : (es : List (Node ExprKind)) (ms : List Place) → AreArguments es ms → Every InLimit (arguments_tokens (map expr_tokens es) ms) → are_limited es ≡ true
  args-limited es ms (no_arguments c) h = refl
  args-limited es ms (last_argument e c w) h =
      let x : Every InLimit (expr_tokens e) × Every InLimit (mark (codes ")") c ∷ []) = every-split InLimit (expr_tokens e) _ h in
      and_from _ _ (expr-limited e w x.0) refl
  args-limited es ms (more_arguments e f fs m ns v w) h =
      let x : Every InLimit (expr_tokens e) × Every InLimit (mark (codes ",") m ∷ arguments_tokens (map expr_tokens (f ∷ fs)) ns) = every-split InLimit (expr_tokens e) _ h in
      and_from _ _ (expr-limited e v x.0) (args-limited (f ∷ fs) ns w x.1.1)

-- ---- parameters

-- the tokens of each of some parameters, and what follows
pub params-split : (xs : List (List Placed)) (ms : List Place) (rest : List Placed) → AreParamMarks (length xs) ms → Every InLimit (params_tokens xs ms rest) → Every (λ x. Every InLimit x) xs × Every InLimit rest
params-split [] (c ∷ a ∷ []) rest w h = (tt, h.1.1)
params-split [] [] rest w h = absurd w
params-split [] (c ∷ []) rest w h = absurd w
params-split [] (c ∷ a ∷ m ∷ ms) rest w h = absurd w
params-split (x ∷ []) (c ∷ a ∷ []) rest w h =
    let s : Every InLimit x × Every InLimit (mark (codes ")") c ∷ mark (codes "->") a ∷ rest) = every-split InLimit x _ h in
    ((s.0, tt), s.1.1.1)
params-split (x ∷ []) [] rest w h = absurd w
params-split (x ∷ []) (c ∷ []) rest w h = absurd w
params-split (x ∷ []) (c ∷ a ∷ m ∷ ms) rest w h = absurd w
params-split (x ∷ y ∷ ys) (m ∷ ms) rest w h =
    let s : Every InLimit x × Every InLimit (mark (codes ",") m ∷ params_tokens (y ∷ ys) ms rest) = every-split InLimit x _ h in
    let r : Every (λ x. Every InLimit x) (y ∷ ys) × Every InLimit rest = params-split (y ∷ ys) ms rest w s.1.1 in
    ((s.0, r.0), r.1)
params-split (x ∷ y ∷ ys) [] rest w h = absurd w
