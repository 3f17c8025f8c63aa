-- The first token of an expression: which tokens begin one, and that it stands at the expression's place.
use Rattle.std.proofs.Common.{◌≡◌, ℕ, ℤ, List, [], ◌∷◌, ◌++◌, false, refl, ap, ◌∙◌, sym, inl}
use Rattle.std.specs.Prelude.{Some, None, codes}
use Rattle.type_terms.specs.Keys.{Name}
use Rattle.erl_tree.specs.Lists.{Among}
use Rattle.erl_tree.specs.declared.token.Placed.{Placed}
use Rattle.erl_tree.specs.declared.token.Token.{Token}
use Rattle.erl_tree.specs.declared.token.Token.TheVariants as T
use Rattle.erl_tree.specs.declared.expr.UnaryOp.{UnaryOp}
use Rattle.erl_tree.specs.declared.expr.UnaryOp.TheVariants.{Plus}
use Rattle.erl_tree.specs.declared.expr.ExprKind.TheVariants as X
use Rattle.erl_grammar.specs.declared.head.Head.{Head}
use Rattle.erl_grammar.specs.Pieces.{at}
use Rattle.erl_grammar.specs.Operators.{unary_token}
use Rattle.erl_grammar.specs.Spelling.{expr_tokens}
use Rattle.erl_grammar.specs.Nesting.{expr_deep}
use Rattle.erl_grammar.specs.Grammar.{node, IsExpr, operation, unary, postfix, IsPostfix, atom, integer, character, string, variable, parens, tuple, list, cells, comprehension, call, prefixed_call, variable_applied, parens_applied, new_map, changed_map, new_record, changed_record, record_field, begin_end, case_of, if_end, fun_name, fun_end, try_end}
use Rattle.erl_grammar.proofs.SpellingLaws.{expr_shown-Atom, expr_shown-Int, expr_shown-Char, expr_shown-Str, expr_shown-Var, expr_shown-Paren, expr_shown-Tuple, expr_shown-Cells, expr_shown-Comp, expr_shown-Unary, expr_shown-Binary, expr_shown-Call, expr_shown-Apply, expr_shown-MapNew, expr_shown-MapChange, expr_shown-RecNew, expr_shown-RecChange, expr_shown-RecGet, expr_shown-Begin, expr_shown-Case, expr_shown-If, expr_shown-FunName, expr_shown-Fun, expr_shown-Try}
use Rattle.erl_parser_tokens.specs.Tokens.{first_place, is_mark, mark, sign_of, sign}
use Rattle.erl_parser_exprs.specs.Operations.{Expr}

-- a token that begins an expression without operators
pub data BeginsPostfix : Token → Type 0 where
  atom_begins : (a : Name) → BeginsPostfix (T.Atom a)
  integer_begins : (n : ℤ) → BeginsPostfix (T.Int n)
  character_begins : (c : ℕ) → BeginsPostfix (T.Char c)
  string_begins : (s : Name) → BeginsPostfix (T.Str s)
  variable_begins : (x : Name) → BeginsPostfix (T.Var x)
  paren_begins : BeginsPostfix (T.Mark (codes "("))
  brace_begins : BeginsPostfix (T.Mark (codes "{"))
  bracket_begins : BeginsPostfix (T.Mark (codes "["))
  hash_begins : BeginsPostfix (T.Mark (codes "#"))
  begin_begins : BeginsPostfix (T.Word (codes "begin"))
  case_begins : BeginsPostfix (T.Word (codes "case"))
  if_begins : BeginsPostfix (T.Word (codes "if"))
  fun_begins : BeginsPostfix (T.Word (codes "fun"))
  try_begins : BeginsPostfix (T.Word (codes "try"))

-- a token that begins an expression
pub data BeginsExpr : Token → Type 0 where
  sign_begins : (op : UnaryOp) → BeginsExpr (unary_token op)
  postfix_begins : (t : Token) → BeginsPostfix t → BeginsExpr t

-- an expression's first token is of some kind, and stands at the expression's place
pub record Begins (Is : Token → Type 0) (e : Expr) : Type 0 where
  pub first : Token
  pub others : List Placed
  pub is : Is first
  pub tokens : expr_tokens e ≡ at first e.place ∷ others

-- an expression that begins with another one
begins_with : {Is : Token → Type 0} (e f : Expr) (ts : List Placed) → e.place ≡ f.place → expr_tokens e ≡ expr_tokens f ++ ts → Begins Is f → Begins Is e
begins_with e f ts p g b = record { first = b.first; others = b.others ++ ts; is = b.is; tokens = g ∙ (ap (λ us. us ++ ts) b.tokens ∙ ap (λ q. at b.first q ∷ (b.others ++ ts)) (sym p)) }

begins_by : {Is : Token → Type 0} (e : Expr) (first : Token) (others : List Placed) → Is first → expr_tokens e ≡ at first e.place ∷ others → Begins Is e
begins_by e first others i g = record { first = first; others = others; is = i; tokens = g }

pub postfix_first : {head : Head} {e : Expr} → IsPostfix head e → Begins BeginsPostfix e
postfix_first (atom p a) = begins_by _ _ _ (atom_begins a) (expr_shown-Atom a _)
postfix_first (integer p n) = begins_by _ _ _ (integer_begins n) (expr_shown-Int n _)
postfix_first (character p c) = begins_by _ _ _ (character_begins c) (expr_shown-Char c _)
postfix_first (string p s) = begins_by _ _ _ (string_begins s) (expr_shown-Str s _)
postfix_first (variable p x) = begins_by _ _ _ (variable_begins x) (expr_shown-Var x _)
postfix_first (parens o c e h) = begins_by _ _ _ paren_begins (expr_shown-Paren e _)
postfix_first (tuple o c ms es g h) = begins_by _ _ _ brace_begins (expr_shown-Tuple es _)
postfix_first (list o c ms es g h) = begins_by _ _ _ bracket_begins (expr_shown-Cells es None _)
postfix_first (cells o b c ms e t es g h k) = begins_by _ _ _ bracket_begins (expr_shown-Cells (e ∷ es) (Some t) _)
postfix_first (comprehension o b c ms e q qs h g k) = begins_by _ _ _ bracket_begins (expr_shown-Comp e (q ∷ qs) _)
postfix_first (call n o c ms name args i g h) = begins_by _ _ _ (atom_begins name) (expr_shown-Call None name args _)
postfix_first (prefixed_call p d n o c ms name args i g h) = begins_by _ _ _ (atom_begins (codes "erlang")) (expr_shown-Call (Some (codes "erlang")) name args _)
postfix_first (variable_applied p o c ms x args g h) = begins_with _ (node p (p ∷ []) (X.Var x)) _ refl (expr_shown-Apply (node p (p ∷ []) (X.Var x)) args _) (begins_by _ _ _ (variable_begins x) (expr_shown-Var x _))
postfix_first (parens_applied p q o c ms f args h g k) = begins_with _ (node p (p ∷ q ∷ []) (X.Paren f)) _ refl (expr_shown-Apply (node p (p ∷ q ∷ []) (X.Paren f)) args _) (begins_by _ _ _ paren_begins (expr_shown-Paren f _))
postfix_first (new_map h o c ms assocs g k) = begins_by _ _ _ hash_begins (expr_shown-MapNew assocs _)
postfix_first (changed_map head h o c ms e assocs i k g l) = begins_with _ e _ refl (expr_shown-MapChange e assocs _) (postfix_first k)
postfix_first (new_record h n o c ms name fields g k) = begins_by _ _ _ hash_begins (expr_shown-RecNew name name fields _)
postfix_first (changed_record head h n o c ms e name fields i k g l) = begins_with _ e _ refl (expr_shown-RecChange e name name fields _) (postfix_first k)
postfix_first (record_field head h n d f e name field i k) = begins_with _ e _ refl (expr_shown-RecGet e name name field _) (postfix_first k)
postfix_first (begin_end b e ms i is g h) = begins_by _ _ _ begin_begins (expr_shown-Begin (i ∷ is) _)
postfix_first (case_of p o e ms subject c cs h g k) = begins_by _ _ _ case_begins (expr_shown-Case subject (c ∷ cs) _)
postfix_first (if_end p e ms c cs g h) = begins_by _ _ _ if_begins (expr_shown-If (c ∷ cs) _)
postfix_first (fun_name p n s a name arity) = begins_by _ _ _ fun_begins (expr_shown-FunName name arity _)
postfix_first (fun_end p e ms c cs g h) = begins_by _ _ _ fun_begins (expr_shown-Fun (c ∷ cs) _)
postfix_first (try_end p e ms os cs ns i body of_clauses catches after g h j k l m n q r) = begins_by _ _ _ try_begins (expr_shown-Try (i ∷ body) of_clauses catches after _)

postfix_as : {e : Expr} → Begins BeginsPostfix e → Begins BeginsExpr e
postfix_as b = record { first = b.first; others = b.others; is = postfix_begins b.first b.is; tokens = b.tokens }

pub expr_first : {least : ℕ} {e : Expr} → IsExpr least e → Begins BeginsExpr e
expr_first (operation least op a b m h f g) = begins_with _ a _ refl (expr_shown-Binary op a b _) (expr_first f)
expr_first (unary least op p e h f) = begins_by _ _ _ (sign_begins op) (expr_shown-Unary op e _)
expr_first (postfix least head e h) = postfix_as (postfix_first h)

-- ---- signs

not_a_sign : {t : Token} → BeginsPostfix t → sign_of t ≡ None
not_a_sign (atom_begins a) = refl
not_a_sign _ = refl

-- an expression without operators begins with no sign
pub postfix_no_sign : {head : Head} (e : Expr) (rest : List Placed) → IsPostfix head e → sign (expr_tokens e ++ rest) ≡ None
unfolding sign
postfix_no_sign e rest h = let b = postfix_first h in ap (λ ts. sign (ts ++ rest)) b.tokens ∙ rw (not_a_sign b.is)

-- ---- the first place

pub expr_first_place : {least : ℕ} (e : Expr) (us : List Placed) → IsExpr least e → first_place (expr_tokens e ++ us) ≡ e.place
expr_first_place e us h = ap (λ ts. first_place (ts ++ us)) (expr_first h).tokens

-- where there is no level, the expression itself is nested too deep
pub expr_first_deep : {least : ℕ} (e : Expr) (us : List Placed) → IsExpr least e → Among (first_place (expr_tokens e ++ us)) (expr_deep e 0)
expr_first_deep e us h = inl (expr_first_place e us h)

pub postfix_first_place : {head : Head} (e : Expr) (us : List Placed) → IsPostfix head e → first_place (expr_tokens e ++ us) ≡ e.place
postfix_first_place e us h = ap (λ ts. first_place (ts ++ us)) (postfix_first h).tokens

pub postfix_first_deep : {head : Head} (e : Expr) (us : List Placed) → IsPostfix head e → Among (first_place (expr_tokens e ++ us)) (expr_deep e 0)
postfix_first_deep e us h = inl (postfix_first_place e us h)

-- ---- closing marks

-- a mark that closes what another one opens
pub data Closes : List ℕ → Type 0 where
  closes_paren : Closes (codes ")")
  closes_bracket : Closes (codes "]")
  closes_brace : Closes (codes "}")

postfix_not_closing : {t : Token} {text : List ℕ} → Closes text → BeginsPostfix t → is_mark text t ≡ false
postfix_not_closing closes_paren (atom_begins a) = refl
postfix_not_closing closes_paren _ = refl
postfix_not_closing closes_bracket (atom_begins a) = refl
postfix_not_closing closes_bracket _ = refl
postfix_not_closing closes_brace (atom_begins a) = refl
postfix_not_closing closes_brace _ = refl

sign_not_closing : {text : List ℕ} → Closes text → (op : UnaryOp) → is_mark text (unary_token op) ≡ false
sign_not_closing closes_paren Plus = refl
sign_not_closing closes_paren _ = refl
sign_not_closing closes_bracket Plus = refl
sign_not_closing closes_bracket _ = refl
sign_not_closing closes_brace Plus = refl
sign_not_closing closes_brace _ = refl

not_closing : {t : Token} {text : List ℕ} → Closes text → BeginsExpr t → is_mark text t ≡ false
not_closing c (sign_begins op) = sign_not_closing c op
not_closing c (postfix_begins t b) = postfix_not_closing c b

-- an expression begins with no closing mark
pub expr_no_close : {least : ℕ} {text : List ℕ} (e : Expr) (us : List Placed) → Closes text → IsExpr least e → mark text (expr_tokens e ++ us) ≡ None
unfolding mark
expr_no_close {text = text} e us c h = let b = expr_first h in ap (λ ts. mark text (ts ++ us)) b.tokens ∙ rw (not_closing c b.is)
