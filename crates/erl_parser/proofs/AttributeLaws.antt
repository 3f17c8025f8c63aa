-- Exports, definitions of types and attributes that mean nothing here: what is read is right, and what is well formed is read again.
use Rattle.std.proofs.Common.{◌≡◌, ℕ, ℤ, Bool, false, List, [], ◌∷◌, ◌++◌, map, length, refl, ap, sym, ◌∙◌, subst, inl, inr, append_assoc}
use Rattle.std.specs.Prelude.{None, Ok, codes}
use Rattle.type_terms.specs.Keys.{Name}
use Rattle.erl_tree.specs.Lists.{Among}
use Rattle.erl_tree.specs.declared.token.Place.{Place}
use Rattle.erl_tree.specs.declared.token.Placed.{Placed}
use Rattle.erl_tree.specs.declared.token.Node.{Node}
use Rattle.erl_tree.specs.declared.token.Token.{Token}
use Rattle.erl_tree.specs.declared.token.Token.TheVariants as T
use Rattle.erl_tree.specs.declared.type_expr.TypeKind.{TypeKind}
use Rattle.erl_tree.specs.declared.form.ExportKind.{ExportKind}
use Rattle.erl_tree.specs.declared.form.TypeDefKind.{TypeDefKind}
use Rattle.erl_tree.specs.declared.form.SkippedKind.{SkippedKind}
use Rattle.erl_tree.specs.declared.form.TreeForm.TheVariants as F
use Rattle.erl_grammar.specs.Pieces.{at, own, inner, fill, owned, between}
use Rattle.erl_grammar.specs.Grammar.{node}
use Rattle.erl_grammar.specs.Nesting.{Deep, deep_all}
use Rattle.erl_grammar.specs.TypeSpelling.{type_tokens}
use Rattle.erl_grammar.specs.TypeGrammar.{IsType}
use Rattle.erl_grammar.specs.FormSpelling.{arity_pieces, export_attribute, export_tokens, type_attribute, variable_pieces, type_definition_tokens, skipped_tokens}
use Rattle.erl_grammar.specs.FormNesting.{form_deep}
use Rattle.erl_grammar.specs.FormGrammar as G
use Rattle.erl_grammar.specs.FormGrammar.{HaveArityMarks, HaveVariableMarks, HaveMarkEach, IsInForm, is_one_of, read_attributes, preprocessor_attributes}
use Rattle.erl_parser_tokens.specs.Tokens.{Answer, ◌>>=◌, mark, integer}
use Rattle.erl_parser_tokens.proofs.Then.{behind_token, behind_part, behind_behind, Right, right_ok, right_fault, right_next, Again, again_ok, again_step, again_read, IsDeep}
use Rattle.erl_parser_tokens.proofs.TokenLaws.{expect_mark-again, expect_atom-again, expect_integer-again, integer-takes}
use Rattle.erl_parser_tokens.proofs.Endings.{mark-none}
use Rattle.erl_parser_types.proofs.TypeRight.{read_type-right}
use Rattle.erl_parser_types.proofs.TypeAgain.{read_type-again}
use Rattle.erl_parser.specs.Forms.{read_arity, read_export, read_type_parameter, read_type_definition, token_to_dot, read_to_dot, read_skipped}
use Rattle.erl_parser.proofs.ItemsLaws.{nested_behind, AreItems, last_item, more_items, MayBeItems, none_at_all, items, text_of, IsThis, again_this, ItemRead, may_be_many, items_to-right, items_to-again}
use Rattle.erl_parser.proofs.FormTokens.{right_step, right_mark, right_atom, right_dot, expect_dot-again, right_variable, expect_variable-again, dot-ends_type, FormRead, attribute_text, behind_name}

-- anything may follow
abbrev Anything : List Placed → Type 0
Anything ts = Unit {0}

-- parts without nodes
abbrev no_nodes : {A : Type 0} → A → Deep
no_nodes x levels = []

no_nodes_in : {A : Type 0} (xs : List A) (levels : ℕ) (p : Place) → Among p (deep_all no_nodes xs levels) → ⊥
no_nodes_in [] levels p a = elim a [ ]
no_nodes_in (x ∷ xs) levels p a = no_nodes_in xs levels p a

-- ---- names with their arities

data IsArityItem : Name × ℤ → List Place → Type 0 where
  arity_item : (f : Name × ℤ) (n s a : Place) → IsArityItem f (n ∷ s ∷ a ∷ [])

arity_many : (f : Name × ℤ) (ms : List Place) → IsArityItem f ms → owned (arity_pieces f) ≡ length ms
arity_many f _ (arity_item _ n s a) = refl

arity-right : (levels : ℕ) (ts : List Placed) → Right (ItemRead IsArityItem arity_pieces arity_many no_nodes levels ts) ts (read_arity ts)
unfolding read_arity
arity-right levels ts = right_atom ts λ a ha. right_mark (codes "/") a.1 λ s hs. right_step integer s.1 (integer-takes s.1) λ n hn. right_ok (record {
  formed = arity_item (a.0.0, n.0.0) a.0.1 s.0 n.0.1;
  takes = ha ∙ ap (λ l. at (T.Atom a.0.0) a.0.1 ∷ l) (hs ∙ ap (λ l. at (T.Mark (codes "/")) s.0 ∷ l) hn);
  shallow = refl;
})

arity-again : (levels : ℕ) (f : Name × ℤ) (ms : List Place) (rest : List Placed) → IsArityItem f ms → Anything rest → Again (IsThis ((f, ms), rest)) (IsDeep no_nodes levels f) (read_arity (fill (arity_pieces f) ms ++ rest))
unfolding read_arity
arity-again levels f _ rest (arity_item _ n s a) u = again_step _ (expect_atom-again f.0 n _) (again_step _ (expect_mark-again (codes "/") s _) (again_step _ (expect_integer-again f.1 a rest) (again_ok refl)))

arity_marks : (xs : List (Name × ℤ)) (ms : List Place) → AreItems IsArityItem xs ms → HaveArityMarks xs ms
arity_marks _ _ (last_item x _ (arity_item _ n s a)) = tt
arity_marks _ _ (more_items x y ys _ m ns (arity_item _ n s a) r) = arity_marks (y ∷ ys) ns r

arities_marks : (xs : List (Name × ℤ)) (ms : List Place) → MayBeItems IsArityItem xs ms → HaveArityMarks xs ms
arities_marks _ _ none_at_all = tt
arities_marks _ _ (items x xs ms r) = arity_marks (x ∷ xs) ms r

arity_items : (f : Name × ℤ) (fs : List (Name × ℤ)) (ms : List Place) → HaveArityMarks (f ∷ fs) ms → AreItems IsArityItem (f ∷ fs) ms
arity_items f [] (n ∷ s ∷ a ∷ []) g = last_item f (n ∷ s ∷ a ∷ []) (arity_item f n s a)
arity_items f (h ∷ hs) (n ∷ s ∷ a ∷ c ∷ ms) g = more_items f h hs (n ∷ s ∷ a ∷ []) c ms (arity_item f n s a) (arity_items h hs ms g)
arity_items f _ _ g = absurd g

arities_items : (fs : List (Name × ℤ)) (ms : List Place) → HaveArityMarks fs ms → MayBeItems IsArityItem fs ms
arities_items [] [] g = none_at_all
arities_items [] (m ∷ ms) g = absurd g
arities_items (f ∷ fs) ms g = items f fs ms (arity_items f fs ms g)

-- ---- exports

abbrev export_of : (h w o b c d p : Place) → List Place → Bool → List (Name × ℤ) → Node ExportKind
export_of h w o b c d p ms types names = node h (h ∷ w ∷ o ∷ b ∷ (ms ++ c ∷ d ∷ p ∷ [])) (record { types = types; names = names })

-- what stands behind the name of the attribute
abbrev export_text : (o b c d p : Place) → List Place → List (Name × ℤ) → List Placed → List Placed
export_text o b c d p ms names rest = at (T.Mark (codes "(")) o ∷ at (T.Mark (codes "[")) b ∷ (text_of arity_pieces (T.Mark (codes ",")) names ms ++ at (T.Mark (codes "]")) c ∷ at (T.Mark (codes ")")) d ∷ at T.Dot p ∷ rest)

export_in_turn : (h w o b c d p : Place) (ms : List Place) (types : Bool) (names : List (Name × ℤ)) (rest : List Placed) → MayBeItems IsArityItem names ms → export_tokens (export_of h w o b c d p ms types names) ++ rest ≡ attribute_text (export_attribute types) h w (export_text o b c d p ms names rest)
export_in_turn h w o b c d p ms types names rest r = ap (λ l. attribute_text (export_attribute types) h w (at (T.Mark (codes "(")) o ∷ at (T.Mark (codes "[")) b ∷ l))
    (nested_behind (between (T.Mark (codes ",")) (map arity_pieces names)) (own (T.Mark (codes "]")) ∷ own (T.Mark (codes ")")) ∷ []) (own T.Dot ∷ []) ms (c ∷ d ∷ p ∷ []) rest (may_be_many IsArityItem arity_pieces arity_many no_nodes 0 (T.Mark (codes ",")) names ms r))

-- an export is read rightly
pub export-right : (levels : ℕ) (types : Bool) (h w : Place) (ts : List Placed) → let whole : List Placed = attribute_text (export_attribute types) h w ts in Right (FormRead levels whole) whole (read_export types h w ts)
unfolding read_export
export-right levels types h w ts = right_mark (codes "(") ts λ o ho. right_mark (codes "[") o.1 λ b hb.
    right_next (behind_behind (behind_name (export_attribute types) h w ts) (behind_behind (behind_token ho) (behind_token hb))) (items_to-right IsArityItem arity_pieces arity_many no_nodes levels read_arity (arity-right levels) (codes "]") b.1) λ s hs.
    right_mark (codes ")") s.1 λ d hd. right_dot d.1 λ p hp. right_ok (record {
      formed = G.export_form _ (G.export h w o.0 b.0 s.0.1 d.0 p.0 s.0.0.marks types s.0.0.items (arities_marks s.0.0.items s.0.0.marks hs.formed));
      takes = ap (attribute_text (export_attribute types) h w) (ho ∙ ap (λ l. at (T.Mark (codes "(")) o.0 ∷ l) (hb ∙ ap (λ l. at (T.Mark (codes "[")) b.0 ∷ l)
          (hs.takes ∙ ap (λ l. text_of arity_pieces (T.Mark (codes ",")) s.0.0.items s.0.0.marks ++ at (T.Mark (codes "]")) s.0.1 ∷ l) (hd ∙ ap (λ l. at (T.Mark (codes ")")) d.0 ∷ l) hp))))
          ∙ sym (export_in_turn h w o.0 b.0 s.0.1 d.0 p.0 s.0.0.marks types s.0.0.items p.1 hs.formed);
      shallow = refl;
    })

no_bracket : (f : Name × ℤ) (ms : List Place) (us : List Placed) → IsArityItem f ms → mark (codes "]") (fill (arity_pieces f) ms ++ us) ≡ None
no_bracket f _ us (arity_item _ n s a) = mark-none (codes "]") (T.Atom f.0) n _ refl

-- an export is read again
pub export-again : (levels : ℕ) (h w o b c d p : Place) (ms : List Place) (types : Bool) (names : List (Name × ℤ)) (rest : List Placed) → HaveArityMarks names ms
    → (export_tokens (export_of h w o b c d p ms types names) ++ rest ≡ attribute_text (export_attribute types) h w (export_text o b c d p ms names rest))
    × Again (IsThis (F.Export (export_of h w o b c d p ms types names), rest)) (IsDeep form_deep levels (F.Export (export_of h w o b c d p ms types names))) (read_export types h w (export_text o b c d p ms names rest))
unfolding read_export
export-again levels h w o b c d p ms types names rest g = (
  export_in_turn h w o b c d p ms types names rest (arities_items names ms g),
  again_step _ (expect_mark-again (codes "(") o _) (again_step _ (expect_mark-again (codes "[") b _)
      (again_this _ (items_to-again IsArityItem arity_pieces arity_many no_nodes levels Anything read_arity (arity-again levels) (codes "]") (λ m us. tt) (λ m us. tt) (λ m us. mark-none (codes ",") (T.Mark (codes "]")) m us refl) no_bracket names ms c _ (arities_items names ms g)) (λ q a. absurd (no_nodes_in names levels q a))
      (again_step _ (expect_mark-again (codes ")") d _) (again_step _ (expect_dot-again p rest) (again_ok refl))))),
)

-- ---- parameters of types

data IsVariableItem : Name → List Place → Type 0 where
  variable_item : (x : Name) (p : Place) → IsVariableItem x (p ∷ [])

variable_many : (x : Name) (ms : List Place) → IsVariableItem x ms → owned (variable_pieces x) ≡ length ms
variable_many x _ (variable_item _ p) = refl

variable-right : (levels : ℕ) (ts : List Placed) → Right (ItemRead IsVariableItem variable_pieces variable_many no_nodes levels ts) ts (read_type_parameter ts)
unfolding read_type_parameter
variable-right levels ts = right_variable ts λ x hx. right_ok (record { formed = variable_item x.0.0 x.0.1; takes = hx; shallow = refl })

variable-again : (levels : ℕ) (x : Name) (ms : List Place) (rest : List Placed) → IsVariableItem x ms → Anything rest → Again (IsThis ((x, ms), rest)) (IsDeep no_nodes levels x) (read_type_parameter (fill (variable_pieces x) ms ++ rest))
unfolding read_type_parameter
variable-again levels x _ rest (variable_item _ p) u = again_step _ (expect_variable-again x p rest) (again_ok refl)

variable_marks : (xs : List Name) (ms : List Place) → AreItems IsVariableItem xs ms → HaveVariableMarks xs ms
variable_marks _ _ (last_item x _ (variable_item _ p)) = tt
variable_marks _ _ (more_items x y ys _ m ns (variable_item _ p) r) = variable_marks (y ∷ ys) ns r

variables_marks : (xs : List Name) (ms : List Place) → MayBeItems IsVariableItem xs ms → HaveVariableMarks xs ms
variables_marks _ _ none_at_all = tt
variables_marks _ _ (items x xs ms r) = variable_marks (x ∷ xs) ms r

variable_items : (x : Name) (xs : List Name) (ms : List Place) → HaveVariableMarks (x ∷ xs) ms → AreItems IsVariableItem (x ∷ xs) ms
variable_items x [] (p ∷ []) g = last_item x (p ∷ []) (variable_item x p)
variable_items x (y ∷ ys) (p ∷ c ∷ ms) g = more_items x y ys (p ∷ []) c ms (variable_item x p) (variable_items y ys ms g)
variable_items x _ _ g = absurd g

variables_items : (xs : List Name) (ms : List Place) → HaveVariableMarks xs ms → MayBeItems IsVariableItem xs ms
variables_items [] [] g = none_at_all
variables_items [] (m ∷ ms) g = absurd g
variables_items (x ∷ xs) ms g = items x xs ms (variable_items x xs ms g)

-- ---- definitions of types

abbrev definition_of : (h w n o c m p : Place) → List Place → Bool → Name → List Name → Node TypeKind → Node TypeDefKind
definition_of h w n o c m p ms opaque name params body = node h (h ∷ w ∷ n ∷ o ∷ (ms ++ c ∷ m ∷ p ∷ [])) (record { opaque = opaque; name = name; params = params; body = body })

-- what stands behind the name of the attribute
abbrev definition_text : (n o c m p : Place) → List Place → Name → List Name → Node TypeKind → List Placed → List Placed
definition_text n o c m p ms name params body rest = at (T.Atom name) n ∷ at (T.Mark (codes "(")) o ∷ (text_of variable_pieces (T.Mark (codes ",")) params ms ++ at (T.Mark (codes ")")) c ∷ at (T.Mark (codes "::")) m ∷ (type_tokens body ++ at T.Dot p ∷ rest))

definition_in_turn : (h w n o c m p : Place) (ms : List Place) (opaque : Bool) (name : Name) (params : List Name) (body : Node TypeKind) (rest : List Placed) → MayBeItems IsVariableItem params ms
    → type_definition_tokens (definition_of h w n o c m p ms opaque name params body) ++ rest ≡ attribute_text (type_attribute opaque) h w (definition_text n o c m p ms name params body rest)
definition_in_turn h w n o c m p ms opaque name params body rest r = ap (λ l. attribute_text (type_attribute opaque) h w (at (T.Atom name) n ∷ at (T.Mark (codes "(")) o ∷ l))
    (nested_behind (between (T.Mark (codes ",")) (map variable_pieces params)) (own (T.Mark (codes ")")) ∷ own (T.Mark (codes "::")) ∷ inner (type_tokens body) ∷ []) (own T.Dot ∷ []) ms (c ∷ m ∷ p ∷ []) rest (may_be_many IsVariableItem variable_pieces variable_many no_nodes 0 (T.Mark (codes ",")) params ms r)
    ∙ ap (λ l. text_of variable_pieces (T.Mark (codes ",")) params ms ++ at (T.Mark (codes ")")) c ∷ at (T.Mark (codes "::")) m ∷ l) (append_assoc (type_tokens body) (at T.Dot p ∷ []) rest))

-- a definition of a type is read rightly
pub type_definition-right : (levels : ℕ) (opaque : Bool) (h w : Place) (ts : List Placed) → let whole : List Placed = attribute_text (type_attribute opaque) h w ts in Right (FormRead levels whole) whole (read_type_definition levels opaque h w ts)
unfolding read_type_definition
type_definition-right levels opaque h w ts = right_atom ts λ n hn. right_mark (codes "(") n.1 λ o ho.
    let b0 = behind_behind (behind_name (type_attribute opaque) h w ts) (behind_behind (behind_token hn) (behind_token ho)) in
    right_next b0 (items_to-right IsVariableItem variable_pieces variable_many no_nodes levels read_type_parameter (variable-right levels) (codes ")") o.1) λ s hs.
    right_mark (codes "::") s.1 λ m hm.
    right_next (behind_behind b0 (behind_behind (behind_part _ hs.takes) (behind_behind (behind_token refl) (behind_token hm)))) (read_type-right levels m.1) λ t ht.
    right_dot t.1 λ p hp. right_ok (record {
      formed = G.type_form _ (G.type_definition h w n.0.1 o.0 s.0.1 m.0 p.0 s.0.0.marks opaque n.0.0 s.0.0.items t.0.tree (variables_marks s.0.0.items s.0.0.marks hs.formed) ht.formed);
      takes = ap (attribute_text (type_attribute opaque) h w) (hn ∙ ap (λ l. at (T.Atom n.0.0) n.0.1 ∷ l) (ho ∙ ap (λ l. at (T.Mark (codes "(")) o.0 ∷ l)
          (hs.takes ∙ ap (λ l. text_of variable_pieces (T.Mark (codes ",")) s.0.0.items s.0.0.marks ++ at (T.Mark (codes ")")) s.0.1 ∷ l) (hm ∙ ap (λ l. at (T.Mark (codes "::")) m.0 ∷ l) (ht.takes ∙ ap (λ l. type_tokens t.0.tree ++ l) hp)))))
          ∙ sym (definition_in_turn h w n.0.1 o.0 s.0.1 m.0 p.0 s.0.0.marks opaque n.0.0 s.0.0.items t.0.tree p.1 hs.formed);
      shallow = ht.measures.shallow levels ht.within;
    })

no_parenthesis : (x : Name) (ms : List Place) (us : List Placed) → IsVariableItem x ms → mark (codes ")") (fill (variable_pieces x) ms ++ us) ≡ None
no_parenthesis x _ us (variable_item _ p) = mark-none (codes ")") (T.Var x) p _ refl

-- a definition of a type is read again
pub type_definition-again : (levels : ℕ) (h w n o c m p : Place) (ms : List Place) (opaque : Bool) (name : Name) (params : List Name) (body : Node TypeKind) (rest : List Placed) → HaveVariableMarks params ms → IsType body
    → (type_definition_tokens (definition_of h w n o c m p ms opaque name params body) ++ rest ≡ attribute_text (type_attribute opaque) h w (definition_text n o c m p ms name params body rest))
    × Again (IsThis (F.TypeDef (definition_of h w n o c m p ms opaque name params body), rest)) (IsDeep form_deep levels (F.TypeDef (definition_of h w n o c m p ms opaque name params body))) (read_type_definition levels opaque h w (definition_text n o c m p ms name params body rest))
unfolding read_type_definition
type_definition-again levels h w n o c m p ms opaque name params body rest g i = (
  definition_in_turn h w n o c m p ms opaque name params body rest (variables_items params ms g),
  again_step _ (expect_atom-again name n _) (again_step _ (expect_mark-again (codes "(") o _)
      (again_this _ (items_to-again IsVariableItem variable_pieces variable_many no_nodes levels Anything read_type_parameter (variable-again levels) (codes ")") (λ m us. tt) (λ m us. tt) (λ m us. mark-none (codes ",") (T.Mark (codes ")")) m us refl) no_parenthesis params ms c _ (variables_items params ms g)) (λ q a. absurd (no_nodes_in params levels q a))
      (again_step _ (expect_mark-again (codes "::") m _)
      (again_read _ (read_type-again levels body (at T.Dot p ∷ rest) i (dot-ends_type p rest)) (λ q d. d) λ k. again_step _ (expect_dot-again p rest) (again_ok refl))))),
)

-- ---- attributes that mean nothing here

-- tokens were read up to a dot
record ToDot (ts : List Placed) (q : (List Token × List Place) × List Placed) : Type 0 where
  places : List Place
  dot : Place
  marks : q.0.1 ≡ places ++ dot ∷ []
  each : HaveMarkEach q.0.0 places
  formed : (t : Token) → Among t q.0.0 → IsInForm t
  takes : ts ≡ fill (map own q.0.0 ++ own T.Dot ∷ []) (places ++ dot ∷ []) ++ q.1

in_form : (u : Token) (ts : List Token) → IsInForm u → ((t : Token) → Among t ts → IsInForm t) → (t : Token) → Among t (u ∷ ts) → IsInForm t
in_form u ts i h t (inl e) = subst IsInForm (sym e) i
in_form u ts i h t (inr a) = h t a

one_more_token : (t : Token) (p : Place) (ts : List Placed) (r : (List Token × List Place) × List Placed) → IsInForm t → ToDot ts r → ToDot (at t p ∷ ts) ((t ∷ r.0.0, p ∷ r.0.1), r.1)
one_more_token t p ts r i h = record {
  places = p ∷ h.places;
  dot = h.dot;
  marks = ap (λ l. p ∷ l) h.marks;
  each = h.each;
  formed = in_form t r.0.0 i h.formed;
  takes = ap (λ l. at t p ∷ l) h.takes;
}

to_dot_step : (t : Token) (p : Place) (ts : List Placed) → Right (ToDot ts) ts (read_to_dot ts) → Right (ToDot (at t p ∷ ts)) (at t p ∷ ts) (token_to_dot t p ts (read_to_dot ts))
to_dot_step t p ts r = by t
  where
    kept : (u : Token) → IsInForm u → Right (ToDot (at u p ∷ ts)) (at u p ∷ ts) (read_to_dot ts >>= λ q. Ok ((u ∷ q.0.0, p ∷ q.0.1), q.1))
    kept u i = right_next (behind_token refl) r λ q h. right_ok (one_more_token u p ts q i h)

    by : (u : Token) → Right (ToDot (at u p ∷ ts)) (at u p ∷ ts) (token_to_dot u p ts (read_to_dot ts))
    by T.Dot = right_ok (record { places = []; dot = p; marks = refl; each = tt; formed = λ t a. elim a [ ]; takes = refl })
    by T.End = right_fault tt
    by (T.Atom a) = kept (T.Atom a) tt
    by (T.Var x) = kept (T.Var x) tt
    by (T.Int n) = kept (T.Int n) tt
    by (T.Char c) = kept (T.Char c) tt
    by (T.Str s) = kept (T.Str s) tt
    by (T.Mark m) = kept (T.Mark m) tt
    by (T.Word w) = kept (T.Word w) tt

to_dot-right : (ts : List Placed) → Right (ToDot ts) ts (read_to_dot ts)
unfolding read_to_dot
to_dot-right [] = right_fault tt
to_dot-right (t ∷ ts) = to_dot_step t.token t.place ts (to_dot-right ts)

token_kept : (t : Token) (p : Place) (ts : List Placed) (more : Answer ((List Token × List Place) × List Placed)) → IsInForm t → token_to_dot t p ts more ≡ (more >>= λ r. Ok ((t ∷ r.0.0, p ∷ r.0.1), r.1))
token_kept T.Dot p ts more i = absurd i
token_kept T.End p ts more i = absurd i
token_kept (T.Atom a) p ts more i = refl
token_kept (T.Var x) p ts more i = refl
token_kept (T.Int n) p ts more i = refl
token_kept (T.Char c) p ts more i = refl
token_kept (T.Str s) p ts more i = refl
token_kept (T.Mark m) p ts more i = refl
token_kept (T.Word w) p ts more i = refl

to_dot-again : (tokens : List Token) (ms : List Place) (p : Place) (rest : List Placed) → HaveMarkEach tokens ms → ((t : Token) → Among t tokens → IsInForm t) → read_to_dot (fill (map own tokens ++ own T.Dot ∷ []) (ms ++ p ∷ []) ++ rest) ≡ Ok ((tokens, ms ++ p ∷ []), rest)
unfolding read_to_dot
to_dot-again [] [] p rest g h = refl
to_dot-again [] (m ∷ ms) p rest g h = absurd g
to_dot-again (t ∷ ts) [] p rest g h = absurd g
to_dot-again (t ∷ ts) (m ∷ ms) p rest g h = token_kept t m _ _ (h t (inl refl)) ∙ ap (λ z. z >>= λ r. Ok ((t ∷ r.0.0, m ∷ r.0.1), r.1)) (to_dot-again ts ms p rest g (λ u a. h u (inr a)))

abbrev skipped_of : (h w p : Place) → List Place → Name → List Token → Node SkippedKind
skipped_of h w p ms name tokens = node h (h ∷ w ∷ (ms ++ p ∷ [])) (record { name = name; tokens = tokens })

-- what stands behind the name of the attribute
abbrev skipped_text : (p : Place) → List Place → List Token → List Placed → List Placed
skipped_text p ms tokens rest = fill (map own tokens ++ own T.Dot ∷ []) (ms ++ p ∷ []) ++ rest

-- the attribute is none that is read, and no form outside of the profile
pub record IsOther (name : Name) : Type 0 where
  pub not_read : is_one_of name read_attributes ≡ false
  pub no_preprocessor : is_one_of name preprocessor_attributes ≡ false
  pub no_other : is_one_of name (codes "import" ∷ codes "nominal" ∷ []) ≡ false

skipped_read : (levels : ℕ) (name : Name) (h w : Place) (ts : List Placed) (s : (List Token × List Place) × List Placed) → IsOther name → ToDot ts s → FormRead levels (attribute_text name h w ts) (F.Skipped (node h (h ∷ w ∷ s.0.1) (record { name = name; tokens = s.0.0 })), s.1)
skipped_read levels name h w ts s o r = subst (λ ms. FormRead levels (attribute_text name h w ts) (F.Skipped (node h (h ∷ w ∷ ms) (record { name = name; tokens = s.0.0 })), s.1)) (sym r.marks) (record {
  formed = G.skipped_form _ (G.skipped h w r.dot r.places name s.0.0 o.not_read o.no_preprocessor o.no_other r.each r.formed);
  takes = ap (attribute_text name h w) r.takes;
  shallow = refl;
})

-- an attribute that means nothing here is read rightly
pub skipped-right : (levels : ℕ) (name : Name) (h w : Place) (ts : List Placed) → IsOther name → Right (FormRead levels (attribute_text name h w ts)) (attribute_text name h w ts) (read_skipped name h w ts)
unfolding read_skipped
skipped-right levels name h w ts o = right_next (behind_name name h w ts) (to_dot-right ts) λ s r. right_ok (skipped_read levels name h w ts s o r)

-- an attribute that means nothing here is read again
pub skipped-again : (levels : ℕ) (h w p : Place) (ms : List Place) (name : Name) (tokens : List Token) (rest : List Placed) → HaveMarkEach tokens ms → ((t : Token) → Among t tokens → IsInForm t)
    → (skipped_tokens (skipped_of h w p ms name tokens) ++ rest ≡ attribute_text name h w (skipped_text p ms tokens rest))
    × Again (IsThis (F.Skipped (skipped_of h w p ms name tokens), rest)) (IsDeep form_deep levels (F.Skipped (skipped_of h w p ms name tokens))) (read_skipped name h w (skipped_text p ms tokens rest))
unfolding read_skipped
skipped-again levels h w p ms name tokens rest g i = (refl, again_step _ (to_dot-again tokens ms p rest g i) (again_ok refl))
