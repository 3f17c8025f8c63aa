-- The forms outside of the profile that are refused while patterns, expressions, types and forms of a module are read, and the tokens that stand there.
use Rattle.std.specs.Prelude.{◌≡◌, List, [], ◌∷◌, ◌++◌, map, length, Some, None, Bool, true, false, codes}
use Rattle.std.specs.Str.{bytes_eq}
use Rattle.type_terms.specs.Keys.{Name}
use Rattle.erl_tree.specs.Lists.{Among}
use Rattle.erl_tree.specs.declared.token.Place.{Place}
use Rattle.erl_tree.specs.declared.token.Placed.{Placed}
use Rattle.erl_tree.specs.declared.token.Node.{Node}
use Rattle.erl_tree.specs.declared.token.Token.{Token}
use Rattle.erl_tree.specs.declared.token.Token.TheVariants as T
use Rattle.erl_tree.specs.declared.pattern.PatternKind.{PatternKind}
use Rattle.erl_tree.specs.declared.expr.ExprKind.{ExprKind}
use Rattle.erl_tree.specs.declared.expr.ExprKind.TheVariants as X
use Rattle.erl_tree.specs.declared.expr.AssocKind.{AssocKind}
use Rattle.erl_tree.specs.declared.type_expr.TypeKind.{TypeKind}
use Rattle.erl_grammar.specs.declared.misfit.Misfit.TheVariants.{Call}
use Rattle.erl_grammar.specs.Guards.{misfit, is_call_in_profile}
use Rattle.erl_grammar.specs.Pieces.{at, own, fill, commas}
use Rattle.erl_grammar.specs.Spelling.{pattern_tokens, expr_tokens, assoc_tokens}
use Rattle.erl_grammar.specs.Grammar.{node, AreSeparators, IsPattern, IsSimplePattern, IsClass, IsExpr, IsAssoc}
use Rattle.erl_grammar.specs.TypeSpelling.{type_tokens}
use Rattle.erl_grammar.specs.TypeGrammar.{IsType, IsParameter, IsSimpleType, is_set_operation}
use Rattle.erl_grammar.specs.FormGrammar.{is_one_of, preprocessor_attributes}
use Rattle.erl_parser_tokens.specs.Tokens.{outside_word, outside_behind, outside_behind_pattern, outside_behind_type, outside_attribute, begins_no_key}

-- the text of a parameter: a pattern, or a parameter of a fun type or of a spec
pub data IsParameterText : List Placed → Type 0 where
  pattern_text : (p : Node PatternKind) → IsPattern p → IsParameterText (pattern_tokens p)
  type_text : (t : Node TypeKind) → IsParameter t → IsParameterText (type_tokens t)

-- behind these tokens, a form of this name begins at the place with these tokens
pub data IsOutside : (form : Name) → Place → (before rest : List Placed) → Type 0 where
  -- `catch`, `receive`, `maybe`, `bnot`
  by_word : (form text : Name) (p : Place) (before rest : List Placed) → outside_word text ≡ Some form → IsOutside form p before (at (T.Word text) p ∷ rest)
  -- `=`, `/` or a bit operator behind a whole expression
  behind_expr : (form : Name) (e : Node ExprKind) (t : Token) (p : Place) (before rest : List Placed) → IsExpr 0 e → outside_behind t ≡ Some form → IsOutside form p (before ++ expr_tokens e) (at t p ∷ rest)
  -- `++`, `/` or a bit operator behind a pattern
  behind_pattern : (form : Name) (q : Node PatternKind) (t : Token) (p : Place) (before rest : List Placed) → IsSimplePattern q → outside_behind_pattern t ≡ Some form → IsOutside form p (before ++ pattern_tokens q) (at t p ∷ rest)
  -- `/` or a bit operator behind a type
  behind_type : (form : Name) (u : Node TypeKind) (t : Token) (p : Place) (before rest : List Placed) → IsSimpleType u → outside_behind_type t ≡ Some form → IsOutside form p (before ++ type_tokens u) (at t p ∷ rest)
  -- `m:`, where `m` is no `erlang`
  remote_atom : (a : Name) (q p : Place) (before rest : List Placed) → bytes_eq a (codes "erlang") ≡ false → IsOutside (codes "remote name") p (before ++ at (T.Atom a) q ∷ []) (at (T.Mark (codes ":")) p ∷ rest)
  -- `X:`
  remote_variable : (x : Name) (q p : Place) (before rest : List Placed) → IsOutside (codes "remote name") p (before ++ at (T.Var x) q ∷ []) (at (T.Mark (codes ":")) p ∷ rest)
  -- `fun m:`
  remote_fun : (a : Name) (f q p : Place) (before rest : List Placed) → IsOutside (codes "remote name") p (before ++ at (T.Word (codes "fun")) f ∷ at (T.Atom a) q ∷ []) (at (T.Mark (codes ":")) p ∷ rest)
  -- `m:` in a type, where `m` is no `ety`
  remote_type : (a : Name) (q p : Place) (before rest : List Placed) → bytes_eq a (codes "ety") ≡ false → IsOutside (codes "remote name") p (before ++ at (T.Atom a) q ∷ []) (at (T.Mark (codes ":")) p ∷ rest)
  -- `ety:` in front of another name than those of the set operations, or of another number of arguments
  no_set_operation : (name : Name) (args : List (Node TypeKind)) (p d n o c : Place) (ms : List Place) (before rest : List Placed) → is_set_operation name args ≡ false → AreSeparators args ms → ((u : Node TypeKind) → Among u args → IsType u)
      → IsOutside (codes "remote name") d (before ++ at (T.Atom (codes "ety")) p ∷ []) (at (T.Mark (codes ":")) d ∷ at (T.Atom name) n ∷ at (T.Mark (codes "(")) o ∷ (fill (commas (map type_tokens args) ++ own (T.Mark (codes ")")) ∷ []) (ms ++ c ∷ []) ++ rest))
  -- `-spec m:`
  remote_spec : (a : Name) (h w q p : Place) (before rest : List Placed) → IsOutside (codes "remote name") p (before ++ at (T.Mark (codes "-")) h ∷ at (T.Atom (codes "spec")) w ∷ at (T.Atom a) q ∷ []) (at (T.Mark (codes ":")) p ∷ rest)
  -- `-define`, `-import`, `-nominal` and other attributes
  by_attribute : (form name : Name) (p q : Place) (before rest : List Placed) → outside_attribute name ≡ Some form → IsOutside form p before (at (T.Mark (codes "-")) p ∷ at (T.Atom name) q ∷ rest)
  -- `-if`, `-else`
  by_attribute_word : (word : Name) (p q : Place) (before rest : List Placed) → is_one_of word preprocessor_attributes ≡ true → IsOutside (codes "preprocessor") p before (at (T.Mark (codes "-")) p ∷ at (T.Word word) q ∷ rest)
  adjacent_strings : (s t : Name) (p q : Place) (before rest : List Placed) → IsOutside (codes "adjacent strings") p before (at (T.Str s) p ∷ at (T.Str t) q ∷ rest)
  named_fun : (x : Name) (p q : Place) (before rest : List Placed) → IsOutside (codes "named fun") p before (at (T.Word (codes "fun")) p ∷ at (T.Var x) q ∷ rest)
  -- `||` behind an association
  map_comprehension : (may_be_exact : Bool) (n : Node AssocKind) (p : Place) (before rest : List Placed) → IsAssoc may_be_exact n → IsOutside (codes "map comprehension") p (before ++ assoc_tokens n) (at (T.Mark (codes "||")) p ∷ rest)
  -- a second `:` behind a class and a pattern
  stack_trace : (c q : Node PatternKind) (d p : Place) (before rest : List Placed) → IsClass c → IsPattern q → IsOutside (codes "stack trace") p (before ++ (pattern_tokens c ++ at (T.Mark (codes ":")) d ∷ pattern_tokens q)) (at (T.Mark (codes ":")) p ∷ rest)
  record_wildcard : (p q : Place) (before rest : List Placed) → IsOutside (codes "record wildcard") p before (at (T.Var (codes "_")) p ∷ at (T.Mark (codes "=")) q ∷ rest)
  record_index : (name : Name) (p q r : Place) (before rest : List Placed) → IsOutside (codes "record index") p before (at (T.Mark (codes "#")) p ∷ at (T.Atom name) q ∷ at (T.Mark (codes ".")) r ∷ rest)
  -- a token that begins a pattern, at the place of a key
  map_key : (t : Token) (p : Place) (before rest : List Placed) → begins_no_key t ≡ true → IsOutside (codes "map key") p before (at t p ∷ rest)
  -- a parameter behind an opening parenthesis and 255 others
  arity : (texts : List (List Placed)) (ms : List Place) (o m : Place) (before rest : List Placed) (t : Placed) → length texts ≡ 255 → AreSeparators texts ms → ((x : List Placed) → Among x texts → IsParameterText x)
      → IsOutside (codes "arity") t.place (before ++ at (T.Mark (codes "(")) o ∷ (fill (commas texts) ms ++ at (T.Mark (codes ",")) m ∷ [])) (t ∷ rest)
  -- a call of `is_function` with a second argument that is no integer from 0 to 255
  wrong_call : (name : Name) (args : List (Node ExprKind)) (p o c : Place) (ms : List Place) (before rest : List Placed) → is_call_in_profile name args ≡ false → AreSeparators args ms → ((e : Node ExprKind) → Among e args → IsExpr 0 e)
      → IsOutside (codes "built-in") p before (expr_tokens (node p (p ∷ o ∷ (ms ++ c ∷ [])) (X.Call None name args)) ++ rest)
  -- the same with `erlang:` in front
  wrong_prefixed_call : (name : Name) (args : List (Node ExprKind)) (p d n o c : Place) (ms : List Place) (before rest : List Placed) → is_call_in_profile name args ≡ false → AreSeparators args ms → ((e : Node ExprKind) → Among e args → IsExpr 0 e)
      → IsOutside (codes "built-in") p before (expr_tokens (node p (p ∷ d ∷ n ∷ o ∷ (ms ++ c ∷ [])) (X.Call (Some (codes "erlang")) name args)) ++ rest)
  -- a guard's test in which a call of another function than those of guards stands there, or a call of what an expression gives
  guard_call : (e : Node ExprKind) (p : Place) (before rest : List Placed) → IsExpr 0 e → misfit e ≡ Some (Call p) → IsOutside (codes "built-in") p before (expr_tokens e ++ rest)

-- somewhere in the tokens a form of this name begins at the place
pub record HasOutside (ts : List Placed) (p : Place) (form : Name) : Type 0 where
  pub before : List Placed
  pub rest : List Placed
  pub split : ts ≡ before ++ rest
  pub stands : IsOutside form p before rest
