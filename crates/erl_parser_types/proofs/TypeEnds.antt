-- What may follow a type, and how the tokens of a type begin.
use Rattle.std.proofs.Common.{◌≡◌, false, List, [], ◌∷◌, ◌++◌, refl, ap, ◌∙◌}
use Rattle.std.specs.Prelude.{Bool, true, None, codes}
use Rattle.type_terms.specs.Keys.{Name}
use Rattle.erl_tree.specs.declared.token.Place.{Place}
use Rattle.erl_tree.specs.declared.token.Placed.{Placed}
use Rattle.erl_tree.specs.declared.token.Node.{Node}
use Rattle.erl_tree.specs.declared.token.Token.{Token}
use Rattle.erl_tree.specs.declared.token.Token.TheVariants as T
use Rattle.erl_tree.specs.declared.type_expr.MapPart.{MapPart}
use Rattle.erl_grammar.specs.Pieces.{at}
use Rattle.erl_grammar.specs.Spelling.{association_text}
use Rattle.erl_grammar.specs.TypeSpelling.{type_tokens, map_part_tokens, type_field_tokens}
use Rattle.erl_grammar.specs.TypeGrammar as G
use Rattle.erl_grammar.specs.TypeGrammar.{IsRangeEnd, IsType, IsParameter, IsSimpleType, IsMapPart, IsFieldType}
use Rattle.erl_grammar.proofs.TypeSpellingLaws as S
use Rattle.erl_parser_tokens.specs.Tokens.{Answer, is_mark, mark, outside_behind_type}
use Rattle.erl_parser_tokens.proofs.TokenLaws.{mark-other}
use Rattle.erl_parser_types.specs.Types.{TypeExpr, variable_name, name_of_parameter, none_outside}
use Rattle.erl_parser_types.proofs.TypeTexts.{union_text, named_text, map_part_text}

-- ---- what may follow

-- what may follow a type without `|`: nothing that goes on with a name, a variable or an integer
pub record EndsSimpleType (ts : List Placed) : Type 0 where
  pub no_paren : mark (codes "(") ts ≡ None
  pub no_colon : mark (codes ":") ts ≡ None
  pub no_dots : mark (codes "..") ts ≡ None

-- no form outside of the profile stands behind a type
abbrev pub NoneBehindType : List Placed → Type 0
NoneBehindType [] = Unit {0}
NoneBehindType (t ∷ ts) = outside_behind_type t.token ≡ None

-- what may follow a type
pub record EndsType (ts : List Placed) : Type 0 where
  pub simple : EndsSimpleType ts
  pub no_bar : mark (codes "|") ts ≡ None
  pub no_form : NoneBehindType ts

-- what may follow a parameter: the `::` behind a variable would make a name of it
pub record EndsParameter (ts : List Placed) : Type 0 where
  pub ends : EndsType ts
  pub no_name : mark (codes "::") ts ≡ None

pub none_outside-again : {A : Type 0} (ts : List Placed) (answer : Answer A) → NoneBehindType ts → none_outside ts answer ≡ answer
none_outside-again [] answer e = refl
none_outside-again (t ∷ ts) answer e = rw e refl

pub token_ends_simple : (t : Token) (p : Place) (ts : List Placed) → is_mark (codes "(") t ≡ false → is_mark (codes ":") t ≡ false → is_mark (codes "..") t ≡ false → EndsSimpleType (at t p ∷ ts)
token_ends_simple t p ts a b c = record { no_paren = mark-other (codes "(") t p ts a; no_colon = mark-other (codes ":") t p ts b; no_dots = mark-other (codes "..") t p ts c }

-- any other token may follow a type
pub token_ends_type : (t : Token) (p : Place) (ts : List Placed) → is_mark (codes "(") t ≡ false → is_mark (codes ":") t ≡ false → is_mark (codes "..") t ≡ false → is_mark (codes "|") t ≡ false → outside_behind_type t ≡ None → EndsType (at t p ∷ ts)
token_ends_type t p ts a b c d e = record { simple = token_ends_simple t p ts a b c; no_bar = mark-other (codes "|") t p ts d; no_form = e }

-- and a parameter
pub token_ends_parameter : (t : Token) (p : Place) (ts : List Placed) → EndsType (at t p ∷ ts) → is_mark (codes "::") t ≡ false → EndsParameter (at t p ∷ ts)
token_ends_parameter t p ts ends e = record { ends = ends; no_name = mark-other (codes "::") t p ts e }

pub end_ends_type : (p : Place) (ts : List Placed) → EndsType (at T.End p ∷ ts)
end_ends_type p ts = token_ends_type T.End p ts refl refl refl refl refl

-- the punctuation that follows types
pub ends_comma : (p : Place) (ts : List Placed) → EndsType (at (T.Mark (codes ",")) p ∷ ts)
ends_comma p ts = token_ends_type (T.Mark (codes ",")) p ts refl refl refl refl refl

pub ends_paren : (p : Place) (ts : List Placed) → EndsType (at (T.Mark (codes ")")) p ∷ ts)
ends_paren p ts = token_ends_type (T.Mark (codes ")")) p ts refl refl refl refl refl

pub ends_bracket : (p : Place) (ts : List Placed) → EndsType (at (T.Mark (codes "]")) p ∷ ts)
ends_bracket p ts = token_ends_type (T.Mark (codes "]")) p ts refl refl refl refl refl

pub ends_brace : (p : Place) (ts : List Placed) → EndsType (at (T.Mark (codes "}")) p ∷ ts)
ends_brace p ts = token_ends_type (T.Mark (codes "}")) p ts refl refl refl refl refl

-- an arrow of a map type
pub ends_arrow : (required : Bool) (p : Place) (ts : List Placed) → EndsType (at (T.Mark (association_text required)) p ∷ ts)
ends_arrow true p ts = token_ends_type (T.Mark (codes ":=")) p ts refl refl refl refl refl
ends_arrow false p ts = token_ends_type (T.Mark (codes "=>")) p ts refl refl refl refl refl

pub ends_bar : (p : Place) (ts : List Placed) → EndsSimpleType (at (T.Mark (codes "|")) p ∷ ts)
ends_bar p ts = token_ends_simple (T.Mark (codes "|")) p ts refl refl refl

pub comma_ends_parameter : (p : Place) (ts : List Placed) → EndsParameter (at (T.Mark (codes ",")) p ∷ ts)
comma_ends_parameter p ts = token_ends_parameter (T.Mark (codes ",")) p ts (ends_comma p ts) refl

pub paren_ends_parameter : (p : Place) (ts : List Placed) → EndsParameter (at (T.Mark (codes ")")) p ∷ ts)
paren_ends_parameter p ts = token_ends_parameter (T.Mark (codes ")")) p ts (ends_paren p ts) refl

-- ---- the first token of a type

-- the tokens of a type begin with one at its place, which closes no brackets, and with no name of a parameter
pub record Begins (x : TypeExpr) : Type 0 where
  pub token : Token
  pub behind : List Placed
  pub begins : type_tokens x ≡ at token x.place ∷ behind
  pub no_paren : is_mark (codes ")") token ≡ false
  pub no_brace : is_mark (codes "}") token ≡ false
  pub no_bracket : is_mark (codes "]") token ≡ false
  pub no_name : (rest : List Placed) → mark (codes "::") rest ≡ None → name_of_parameter (type_tokens x ++ rest) ≡ None

no_variable : (t : Token) (p : Place) (ts : List Placed) → variable_name t ≡ None → name_of_parameter (at t p ∷ ts) ≡ None
unfolding name_of_parameter
no_variable t p ts e = rw e refl

variable_alone : (x : Name) (p : Place) (ts : List Placed) → mark (codes "::") ts ≡ None → name_of_parameter (at (T.Var x) p ∷ ts) ≡ None
unfolding name_of_parameter
variable_alone x p ts e = rw e refl

begins_with : {x : TypeExpr} (t : Token) {us : List Placed} → type_tokens x ≡ at t x.place ∷ us → is_mark (codes ")") t ≡ false → is_mark (codes "}") t ≡ false → is_mark (codes "]") t ≡ false → variable_name t ≡ None → Begins x
begins_with {x} t {us} e a b c v = record { token = t; behind = us; begins = e; no_paren = a; no_brace = b; no_bracket = c; no_name = λ rest n. ap (λ l. name_of_parameter (l ++ rest)) e ∙ no_variable t x.place (us ++ rest) v }

simple_begins : {x : TypeExpr} → IsSimpleType x → Begins x
simple_begins (G.atom_type p a) = begins_with (T.Atom a) (S.type_shown-Atom a (p ∷ [])) refl refl refl refl
simple_begins (G.integer_type p n) = begins_with (T.Int n) (S.type_shown-Int n (p ∷ [])) refl refl refl refl
simple_begins (G.negative_type h p n) = begins_with (T.Mark (codes "-")) (S.type_shown-NegInt n (h ∷ p ∷ [])) refl refl refl refl
simple_begins (G.character_type p c) = begins_with (T.Char c) (S.type_shown-Char c (p ∷ [])) refl refl refl refl
simple_begins (G.variable_type p x) = record { token = T.Var x; behind = []; begins = S.type_shown-Var x (p ∷ []); no_paren = refl; no_brace = refl; no_bracket = refl; no_name = λ rest n. ap (λ l. name_of_parameter (l ++ rest)) (S.type_shown-Var x (p ∷ [])) ∙ variable_alone x p rest n }
simple_begins (G.paren_type o c t i) = begins_with (T.Mark (codes "(")) (S.type_shown-Paren t (o ∷ c ∷ [])) refl refl refl refl
simple_begins (G.range low high m (G.integer_end p n) j) = begins_with (T.Int n) (S.type_shown-Range low high (m ∷ [])) refl refl refl refl
simple_begins (G.range low high m (G.negative_end h p n) j) = begins_with (T.Mark (codes "-")) (S.type_shown-Range low high (m ∷ [])) refl refl refl refl
simple_begins (G.range low high m (G.character_end p c) j) = begins_with (T.Char c) (S.type_shown-Range low high (m ∷ [])) refl refl refl refl
simple_begins (G.used_type n o c ms name args g i) = begins_with (T.Atom name) (S.type_shown-Use _ name args (n ∷ o ∷ (ms ++ c ∷ []))) refl refl refl refl
simple_begins (G.set_operation p d n o c ms name args e g i) = begins_with (T.Atom (codes "ety")) (S.type_shown-Use _ name args (p ∷ d ∷ n ∷ o ∷ (ms ++ c ∷ []))) refl refl refl refl
simple_begins (G.nil_type o c) = begins_with (T.Mark (codes "[")) (S.type_shown-Nil (o ∷ c ∷ [])) refl refl refl refl
simple_begins (G.list_type o c t i) = begins_with (T.Mark (codes "[")) (S.type_shown-ListOf t (o ∷ c ∷ [])) refl refl refl refl
simple_begins (G.nonempty_list_type o m d c t i) = begins_with (T.Mark (codes "[")) (S.type_shown-NonEmpty t (o ∷ m ∷ d ∷ c ∷ [])) refl refl refl refl
simple_begins (G.tuple_type o c ms ts g i) = begins_with (T.Mark (codes "{")) (S.type_shown-Tuple ts (o ∷ (ms ++ c ∷ []))) refl refl refl refl
simple_begins (G.map_type h o c ms parts g i) = begins_with (T.Mark (codes "#")) (S.type_shown-Map parts (h ∷ o ∷ (ms ++ c ∷ []))) refl refl refl refl
simple_begins (G.any_fun_type f o c) = begins_with (T.Word (codes "fun")) (S.type_shown-FunAll (f ∷ o ∷ c ∷ [])) refl refl refl refl
simple_begins (G.fun_type f o q r a c ms params result e g i j) = begins_with (T.Word (codes "fun")) (S.type_shown-Fun params result (f ∷ o ∷ q ∷ (ms ++ r ∷ a ∷ c ∷ []))) refl refl refl refl
simple_begins (G.record_type h n o c ms name fields g i) = begins_with (T.Mark (codes "#")) (S.type_shown-Rec name name fields (h ∷ n ∷ o ∷ (ms ++ c ∷ []))) refl refl refl refl

pub simple_type_begins : {x : TypeExpr} → IsSimpleType x → Begins x
simple_type_begins i = simple_begins i

pub type_begins : {x : TypeExpr} → IsType x → Begins x
type_begins (G.one_type t i) = simple_begins i
type_begins (G.union t u m i j) = let b = simple_begins i in record {
  token = b.token;
  behind = b.behind ++ (at (T.Mark (codes "|")) m ∷ (type_tokens u ++ []));
  begins = S.type_shown-Or t u (m ∷ []) ∙ ap (λ l. l ++ (at (T.Mark (codes "|")) m ∷ (type_tokens u ++ []))) b.begins;
  no_paren = b.no_paren;
  no_brace = b.no_brace;
  no_bracket = b.no_bracket;
  no_name = λ rest n. ap name_of_parameter (union_text t u m rest) ∙ b.no_name (at (T.Mark (codes "|")) m ∷ (type_tokens u ++ rest)) (mark-other (codes "::") (T.Mark (codes "|")) m (type_tokens u ++ rest) refl);
}

pub type_no_paren : (x : TypeExpr) (us : List Placed) → IsType x → mark (codes ")") (type_tokens x ++ us) ≡ None
type_no_paren x us i = let b = type_begins i in ap (λ l. mark (codes ")") (l ++ us)) b.begins ∙ mark-other (codes ")") b.token x.place (b.behind ++ us) b.no_paren

pub type_no_brace : (x : TypeExpr) (us : List Placed) → IsType x → mark (codes "}") (type_tokens x ++ us) ≡ None
type_no_brace x us i = let b = type_begins i in ap (λ l. mark (codes "}") (l ++ us)) b.begins ∙ mark-other (codes "}") b.token x.place (b.behind ++ us) b.no_brace

pub type_no_bracket : (x : TypeExpr) (us : List Placed) → IsType x → mark (codes "]") (type_tokens x ++ us) ≡ None
type_no_bracket x us i = let b = type_begins i in ap (λ l. mark (codes "]") (l ++ us)) b.begins ∙ mark-other (codes "]") b.token x.place (b.behind ++ us) b.no_bracket

pub type_no_name : (x : TypeExpr) (us : List Placed) → IsType x → mark (codes "::") us ≡ None → name_of_parameter (type_tokens x ++ us) ≡ None
type_no_name x us i e = (type_begins i).no_name us e

pub parameter_no_paren : (x : TypeExpr) (us : List Placed) → IsParameter x → mark (codes ")") (type_tokens x ++ us) ≡ None
parameter_no_paren x us (G.unnamed t i) = type_no_paren x us i
parameter_no_paren x us (G.named p m y t i) = ap (mark (codes ")")) (named_text p m y t us) ∙ mark-other (codes ")") (T.Var y) p _ refl

pub map_part_no_brace : (part : Node MapPart) (us : List Placed) → IsMapPart part → mark (codes "}") (map_part_tokens part ++ us) ≡ None
map_part_no_brace part us (G.map_part k v m required i j) = ap (mark (codes "}")) (map_part_text k v m required us) ∙ type_no_brace k _ i

pub field_no_brace : (f : Node (Name × TypeExpr)) (us : List Placed) → IsFieldType f → mark (codes "}") (type_field_tokens f ++ us) ≡ None
field_no_brace f us (G.field_type n m name t i) = mark-other (codes "}") (T.Atom name) n _ refl
