-- The first token of a pattern, and where a pattern is the class of an exception.
use Rattle.std.proofs.Common.{◌≡◌, Bool, true, false, ◌&&◌, List, [], ◌∷◌, ◌++◌, refl, ap, sym, ◌∙◌, append_assoc}
use Rattle.std.specs.Prelude.{Some, None, codes}
use Rattle.erl_tree.specs.declared.token.Place.{Place}
use Rattle.erl_tree.specs.declared.token.Placed.{Placed}
use Rattle.erl_tree.specs.declared.token.Node.{Node}
use Rattle.erl_tree.specs.declared.token.Token.{Token}
use Rattle.erl_tree.specs.declared.token.Token.TheVariants as T
use Rattle.erl_tree.specs.declared.pattern.PatternKind.{PatternKind}
use Rattle.erl_grammar.specs.Pieces.{at}
use Rattle.erl_grammar.specs.Spelling.{pattern_tokens}
use Rattle.erl_grammar.specs.Grammar.{IsPattern, one_pattern, alias, IsSimplePattern, atom_pattern, integer_pattern, negative_pattern, character_pattern, string_pattern, variable_pattern, paren_pattern, tuple_pattern, list_pattern, cells_pattern, map_pattern, record_pattern, IsClass, atom_class, variable_class}
use Rattle.erl_grammar.proofs.SpellingLaws.{pattern_shown-Atom, pattern_shown-Int, pattern_shown-NegInt, pattern_shown-Char, pattern_shown-Str, pattern_shown-Var, pattern_shown-Paren, pattern_shown-Tuple, pattern_shown-Cells, pattern_shown-Map, pattern_shown-Rec, pattern_shown-Alias}
use Rattle.erl_parser_tokens.specs.Tokens.{is_mark, mark}
use Rattle.erl_parser_exprs.specs.Expressions.{may_be_class, class_next}
use Rattle.erl_parser_tokens.proofs.Endings.{mark-none}

-- a pattern's first token, which closes no parameters; where it may be the class of an exception, the pattern is that, and has no other token
record Begins (p : Node PatternKind) : Type 0 where
  first : Token
  others : List Placed
  tokens : pattern_tokens p ≡ at first p.place ∷ others
  closes_none : is_mark (codes ")") first ≡ false
  alone : may_be_class first ≡ true → others ≡ []
  class : may_be_class first ≡ true → IsClass p

no_class : {A : Type 0} {b : Bool} → b ≡ false → b ≡ true → A
no_class e f = absurd cc

simple_first : {p : Node PatternKind} → IsSimplePattern p → Begins p
simple_first (atom_pattern p a) = record { first = T.Atom a; others = []; tokens = pattern_shown-Atom a (p ∷ []); closes_none = refl; alone = λ e. refl; class = λ e. atom_class p a }
simple_first (variable_pattern p x) = record { first = T.Var x; others = []; tokens = pattern_shown-Var x (p ∷ []); closes_none = refl; alone = λ e. refl; class = λ e. variable_class p x }
simple_first (integer_pattern p n) = record { first = T.Int n; others = _; tokens = pattern_shown-Int n _; closes_none = refl; alone = no_class refl; class = no_class refl }
simple_first (negative_pattern h p n) = record { first = T.Mark (codes "-"); others = _; tokens = pattern_shown-NegInt n _; closes_none = refl; alone = no_class refl; class = no_class refl }
simple_first (character_pattern p c) = record { first = T.Char c; others = _; tokens = pattern_shown-Char c _; closes_none = refl; alone = no_class refl; class = no_class refl }
simple_first (string_pattern p s) = record { first = T.Str s; others = _; tokens = pattern_shown-Str s _; closes_none = refl; alone = no_class refl; class = no_class refl }
simple_first (paren_pattern o c p i) = record { first = T.Mark (codes "("); others = _; tokens = pattern_shown-Paren p _; closes_none = refl; alone = no_class refl; class = no_class refl }
simple_first (tuple_pattern o c ms ps g i) = record { first = T.Mark (codes "{"); others = _; tokens = pattern_shown-Tuple ps _; closes_none = refl; alone = no_class refl; class = no_class refl }
simple_first (list_pattern o c ms ps g i) = record { first = T.Mark (codes "["); others = _; tokens = pattern_shown-Cells ps None _; closes_none = refl; alone = no_class refl; class = no_class refl }
simple_first (cells_pattern o b c ms p t ps g i j) = record { first = T.Mark (codes "["); others = _; tokens = pattern_shown-Cells (p ∷ ps) (Some t) _; closes_none = refl; alone = no_class refl; class = no_class refl }
simple_first (map_pattern h o c ms entries g i) = record { first = T.Mark (codes "#"); others = _; tokens = pattern_shown-Map entries _; closes_none = refl; alone = no_class refl; class = no_class refl }
simple_first (record_pattern h n o c ms name fields g i) = record { first = T.Mark (codes "#"); others = _; tokens = pattern_shown-Rec name name fields _; closes_none = refl; alone = no_class refl; class = no_class refl }

-- ---- closing parentheses

pattern_first : {p : Node PatternKind} → IsPattern p → (t : Token) × (us : List Placed) × (pattern_tokens p ≡ at t p.place ∷ us) × (is_mark (codes ")") t ≡ false)
pattern_first (one_pattern p i) = let b = simple_first i in (b.first, b.others, b.tokens, b.closes_none)
pattern_first (alias p q m i j) = let b = simple_first i in (b.first, _, pattern_shown-Alias p q (m ∷ []) ∙ ap (λ l. l ++ at (T.Mark (codes "=")) m ∷ (pattern_tokens q ++ [])) b.tokens, b.closes_none)

-- a pattern begins with no closing parenthesis
pub pattern-closes_none : (p : Node PatternKind) (rest : List Placed) → IsPattern p → mark (codes ")") (pattern_tokens p ++ rest) ≡ None
pattern-closes_none p rest i = let f = pattern_first i in ap (λ l. mark (codes ")") (l ++ rest)) f.2 ∙ mark-none (codes ")") f.0 p.place (f.1 ++ rest) f.3

-- ---- classes of exceptions

no_class_first : (t : Placed) (ts : List Placed) → may_be_class t.token ≡ false → class_next (t ∷ ts) ≡ false
unfolding class_next
no_class_first t [] e = refl
no_class_first t (u ∷ us) e = rw e refl

no_colon_second : (t u : Placed) (ts : List Placed) → is_mark (codes ":") u.token ≡ false → class_next (t ∷ u ∷ ts) ≡ false
unfolding class_next
no_colon_second t u ts e = by (may_be_class t.token) (is_mark (codes ":") u.token) e
  where
    by : (a b : Bool) → b ≡ false → (a && b) ≡ false
    by true b e = e
    by false b e = refl

simple_no_class : {p : Node PatternKind} (u : Placed) (ts : List Placed) → IsSimplePattern p → is_mark (codes ":") u.token ≡ false → class_next (pattern_tokens p ++ u ∷ ts) ≡ false
simple_no_class {p} u ts i e = by (simple_first i)
  where
    begun : (b : Begins p) (c : Bool) → may_be_class b.first ≡ c → class_next (at b.first p.place ∷ (b.others ++ u ∷ ts)) ≡ false
    begun b true h = ap (λ l. class_next (at b.first p.place ∷ (l ++ u ∷ ts))) (b.alone h) ∙ no_colon_second (at b.first p.place) u ts e
    begun b false h = no_class_first (at b.first p.place) (b.others ++ u ∷ ts) h

    by : Begins p → class_next (pattern_tokens p ++ u ∷ ts) ≡ false
    by b = ap (λ l. class_next (l ++ u ∷ ts)) b.tokens ∙ begun b (may_be_class b.first) refl

-- no class and no colon stands where a pattern and another token than a colon stand
pub pattern-no_class : (p : Node PatternKind) (u : Placed) (ts : List Placed) → IsPattern p → is_mark (codes ":") u.token ≡ false → class_next (pattern_tokens p ++ u ∷ ts) ≡ false
pattern-no_class _ u ts (one_pattern p i) e = simple_no_class u ts i e
pattern-no_class _ u ts (alias p q m i j) e = ap (λ l. class_next (l ++ u ∷ ts)) (pattern_shown-Alias p q (m ∷ [])) ∙ (ap class_next (append_assoc (pattern_tokens p) (at (T.Mark (codes "=")) m ∷ (pattern_tokens q ++ [])) (u ∷ ts)) ∙ simple_no_class (at (T.Mark (codes "=")) m) _ i refl)

simple_class : {p : Node PatternKind} (rest : List Placed) → IsSimplePattern p → class_next (pattern_tokens p ++ rest) ≡ true → IsClass p
simple_class {p} rest i e = by (simple_first i)
  where
    begun : (b : Begins p) (c : Bool) → may_be_class b.first ≡ c → class_next (at b.first p.place ∷ (b.others ++ rest)) ≡ true → IsClass p
    begun b true h f = b.class h
    begun b false h f = no_class (no_class_first (at b.first p.place) (b.others ++ rest) h) f

    by : Begins p → IsClass p
    by b = begun b (may_be_class b.first) refl (sym (ap (λ l. class_next (l ++ rest)) b.tokens) ∙ e)

-- where a class and a colon come next, the pattern that stands there is a class
pub pattern-class : (p : Node PatternKind) (rest : List Placed) → IsPattern p → class_next (pattern_tokens p ++ rest) ≡ true → IsClass p
pattern-class _ rest (one_pattern p i) e = simple_class rest i e
pattern-class _ rest (alias p q m i j) e = no_class (simple_no_class (at (T.Mark (codes "=")) m) ((pattern_tokens q ++ []) ++ rest) i refl) (sym (ap (λ l. class_next (l ++ rest)) (pattern_shown-Alias p q (m ∷ [])) ∙ ap class_next (append_assoc (pattern_tokens p) (at (T.Mark (codes "=")) m ∷ (pattern_tokens q ++ [])) rest)) ∙ e)

-- a class and a colon come next
pub class-found : (c : Node PatternKind) (d : Place) (rest : List Placed) → IsClass c → class_next (pattern_tokens c ++ at (T.Mark (codes ":")) d ∷ rest) ≡ true
unfolding class_next
class-found _ d rest (atom_class p a) = rw (pattern_shown-Atom a (p ∷ [])) refl
class-found _ d rest (variable_class p x) = rw (pattern_shown-Var x (p ∷ [])) refl

-- a class is a pattern
pub class-pattern : {c : Node PatternKind} → IsClass c → IsPattern c
class-pattern (atom_class p a) = one_pattern _ (atom_pattern p a)
class-pattern (variable_class p x) = one_pattern _ (variable_pattern p x)
