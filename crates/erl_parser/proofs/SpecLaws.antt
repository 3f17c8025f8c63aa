-- Specs: what is read is right, and what is well formed is read again.
use Rattle.std.proofs.Common.{◌≡◌, ℕ, List, [], ◌∷◌, ◌++◌, map, length, refl, ap, sym, ◌∙◌, subst, inl, inr, append_assoc, append-nil}
use Rattle.std.specs.Prelude.{None, Ok, codes}
use Rattle.type_terms.specs.Keys.{Name}
use Rattle.erl_tree.specs.Lists.{Among}
use Rattle.erl_tree.specs.declared.token.Place.{Place}
use Rattle.erl_tree.specs.declared.token.Placed.{Placed}
use Rattle.erl_tree.specs.declared.token.Node.{Node}
use Rattle.erl_tree.specs.declared.token.Token.TheVariants as T
use Rattle.erl_tree.specs.declared.type_expr.TypeKind.{TypeKind}
use Rattle.erl_tree.specs.declared.form.SpecKind.{SpecKind}
use Rattle.erl_tree.specs.declared.form.SpecClauseKind.{SpecClauseKind}
use Rattle.erl_tree.specs.declared.form.TreeForm.TheVariants as F
use Rattle.erl_grammar.specs.Pieces.{at, own, inner, fill, owned, commas}
use Rattle.erl_grammar.specs.Grammar.{node, AreSeparators}
use Rattle.erl_grammar.specs.Nesting.{deep_all}
use Rattle.erl_grammar.specs.TypeSpelling.{type_tokens}
use Rattle.erl_grammar.specs.TypeNesting.{type_deep}
use Rattle.erl_grammar.specs.TypeGrammar.{IsType, IsParameter}
use Rattle.erl_grammar.specs.FormSpelling.{bound_pieces, bounds_pieces, spec_clause_tokens, spec_tokens}
use Rattle.erl_grammar.specs.FormNesting.{bound_deep, spec_clause_deep, form_deep}
use Rattle.erl_grammar.specs.FormGrammar as G
use Rattle.erl_grammar.specs.FormGrammar.{HaveBoundMarks, AreBounds, IsSpecClause}
use Rattle.erl_parser_tokens.specs.Tokens.{◌>>=◌, is_bit_operator, mark, word}
use Rattle.erl_parser_tokens.specs.declared.height.Measured.{Measured}
use Rattle.erl_parser_tokens.specs.Parts.{Several}
use Rattle.erl_parser_tokens.specs.Outside.{HasOutside, remote_spec, type_text}
use Rattle.erl_parser_tokens.proofs.HeightLaws.{among_front, among_behind}
use Rattle.erl_parser_tokens.proofs.Then.{behind_token, behind_part, behind_behind, Right, right_ok, right_outside, right_next, right_case, IsRead, Again, again_ok, again_from, again_step, again_none, again_some, again_read, IsDeep}
use Rattle.erl_parser_tokens.proofs.TokenLaws.{IsMarkNext, mark-takes, word-takes, word-again, IsAtomNext, expect_mark-again, expect_atom-again, stands_after}
use Rattle.erl_parser_tokens.proofs.PartLaws.{listed, fill-listed, again_these}
use Rattle.erl_parser_tokens.proofs.ParameterLaws.{ParametersRead, parameters-right, parameters-again}
use Rattle.erl_parser_tokens.proofs.Endings.{mark-none, word-none}
use Rattle.erl_parser_types.specs.Types.{read_type, read_parameter_at}
use Rattle.erl_parser_types.proofs.TypeEnds.{EndsType, EndsParameter, token_ends_type, ends_comma, comma_ends_parameter, paren_ends_parameter, parameter_no_paren}
use Rattle.erl_parser_types.proofs.TypeRight.{read_type-right, read_parameter_at-right}
use Rattle.erl_parser_types.proofs.TypeAgain.{read_type-again, read_parameter_at-again}
use Rattle.erl_parser.specs.Forms.{read_bound, read_bounds, read_spec_clause, read_spec}
use Rattle.erl_parser.proofs.ItemsLaws.{AreItems, last_item, more_items, text_of, IsThis, again_this, ItemRead, items-right, items-again, by_first, IsNodeItem, node_item, node_pieces, node_many, nodes_text, nodes_formed, nodes_gaps, nodes_items, node_read, node_again}
use Rattle.erl_parser.proofs.FormTokens.{right_mark, right_atom, right_dot, expect_dot-again, right_variable, expect_variable-again, dot-ends_type, FormRead, attribute_text, behind_name}

-- ---- bounds

data IsBoundItem : Name × Node TypeKind → List Place → Type 0 where
  bound_item : (b : Name × Node TypeKind) (x m : Place) → IsType b.1 → IsBoundItem b (x ∷ m ∷ [])

bound_many : (b : Name × Node TypeKind) (ms : List Place) → IsBoundItem b ms → owned (bound_pieces b) ≡ length ms
bound_many b _ (bound_item _ x m i) = refl

bound-right : (levels : ℕ) (ts : List Placed) → Right (ItemRead IsBoundItem bound_pieces bound_many bound_deep levels ts) ts (read_bound levels ts)
unfolding read_bound
bound-right levels ts = right_variable ts λ x hx. right_mark (codes "::") x.1 λ m hm. right_next (behind_behind (behind_token hx) (behind_token hm)) (read_type-right levels m.1) λ t ht. right_ok (record {
  formed = bound_item (x.0.0, t.0.tree) x.0.1 m.0 ht.formed;
  takes = hx ∙ ap (λ l. at (T.Var x.0.0) x.0.1 ∷ l) (hm ∙ ap (λ l. at (T.Mark (codes "::")) m.0 ∷ l) (ht.takes ∙ ap (λ l. l ++ t.1) (sym (append-nil (type_tokens t.0.tree)))));
  shallow = ht.measures.shallow levels ht.within;
})

bound-again : (levels : ℕ) (b : Name × Node TypeKind) (ms : List Place) (rest : List Placed) → IsBoundItem b ms → EndsType rest → Again (IsThis ((b, ms), rest)) (IsDeep bound_deep levels b) (read_bound levels (fill (bound_pieces b) ms ++ rest))
unfolding read_bound
bound-again levels b _ rest (bound_item _ x m i) f = again_step _ (expect_variable-again b.0 x _) (again_step _ (expect_mark-again (codes "::") m _)
    (again_from (ap (λ l. read_type levels (l ++ rest) >>= λ t. Ok (((b.0, t.0.tree), x ∷ m ∷ []), t.1)) (append-nil (type_tokens b.1)))
    (again_read _ (read_type-again levels b.1 rest i f) (λ p d. d) λ h. again_ok refl)))

bound_marks : (bs : List (Name × Node TypeKind)) (ms : List Place) → AreItems IsBoundItem bs ms → HaveBoundMarks bs ms
bound_marks _ _ (last_item b _ (bound_item _ x m i)) = tt
bound_marks _ _ (more_items b c cs _ n ns (bound_item _ x m i) r) = bound_marks (c ∷ cs) ns r

bounds_formed : (bs : List (Name × Node TypeKind)) (ms : List Place) → AreItems IsBoundItem bs ms → (b : Name × Node TypeKind) → Among b bs → IsType b.1
bounds_formed _ _ (last_item b _ (bound_item _ x m i)) c (inl e) = subst (λ z. IsType z.1) (sym e) i
bounds_formed _ _ (last_item b _ (bound_item _ x m i)) c (inr a) = elim a [ ]
bounds_formed _ _ (more_items b c cs _ n ns (bound_item _ x m i) r) d (inl e) = subst (λ z. IsType z.1) (sym e) i
bounds_formed _ _ (more_items b c cs _ n ns (bound_item _ x m i) r) d (inr a) = bounds_formed (c ∷ cs) ns r d a

bound_items : (b : Name × Node TypeKind) (bs : List (Name × Node TypeKind)) (ms : List Place) → HaveBoundMarks (b ∷ bs) ms → ((c : Name × Node TypeKind) → Among c (b ∷ bs) → IsType c.1) → AreItems IsBoundItem (b ∷ bs) ms
bound_items b [] (x ∷ m ∷ []) g h = last_item b (x ∷ m ∷ []) (bound_item b x m (h b (inl refl)))
bound_items b (c ∷ cs) (x ∷ m ∷ n ∷ ms) g h = more_items b c cs (x ∷ m ∷ []) n ms (bound_item b x m (h b (inl refl))) (bound_items c cs ms g (λ d a. h d (inr a)))
bound_items b _ _ g h = absurd g

-- bounds or none were read
record BoundsRead (levels : ℕ) (ts : List Placed) (q : (List (Name × Node TypeKind) × List Place) × List Placed) : Type 0 where
  formed : AreBounds q.0.0 q.0.1
  takes : ts ≡ fill (bounds_pieces q.0.0) q.0.1 ++ q.1
  shallow : deep_all bound_deep q.0.0 levels ≡ []

some_bounds : (bs : List (Name × Node TypeKind)) (ms : List Place) (w : Place) → AreItems IsBoundItem bs ms → fill (bounds_pieces bs) (w ∷ ms) ≡ at (T.Word (codes "when")) w ∷ text_of bound_pieces (T.Mark (codes ",")) bs ms
some_bounds bs ms w r = by_first (λ xs ns. fill (bounds_pieces xs) (w ∷ ns) ≡ at (T.Word (codes "when")) w ∷ text_of bound_pieces (T.Mark (codes ",")) xs ns) (λ x ys ns k. refl) bs ms r

bounds-right : (levels : ℕ) (ts : List Placed) → Right (BoundsRead levels ts) ts (read_bounds levels ts)
unfolding read_bounds
bounds-right levels ts = right_case
    (λ e. right_ok (record { formed = G.no_bounds; takes = refl; shallow = refl }))
    (λ w e. let g = word-takes (codes "when") ts w e in right_next (behind_token g) (items-right IsBoundItem bound_pieces bound_many bound_deep levels (read_bound levels) (bound-right levels) (codes ",") w.1) λ s hs. right_ok (record {
      formed = G.bounds w.0 s.0.marks s.0.items (bound_marks s.0.items s.0.marks hs.formed) (bounds_formed s.0.items s.0.marks hs.formed);
      takes = g ∙ (ap (λ l. at (T.Word (codes "when")) w.0 ∷ l) hs.takes ∙ ap (λ l. l ++ s.1) (sym (some_bounds s.0.items s.0.marks w.0 hs.formed)));
      shallow = hs.shallow;
    }))

-- what may follow a clause of a spec
record EndsSpec (ts : List Placed) : Type 0 where
  ends_type : EndsType ts
  no_when : word (codes "when") ts ≡ None
  no_comma : mark (codes ",") ts ≡ None

bounds-again : (levels : ℕ) (bs : List (Name × Node TypeKind)) (us : List Place) (rest : List Placed) → AreBounds bs us → EndsSpec rest → Again (IsThis ((bs, us), rest)) (IsDeep (deep_all bound_deep) levels bs) (read_bounds levels (fill (bounds_pieces bs) us ++ rest))
unfolding read_bounds
bounds-again levels _ _ rest G.no_bounds f = again_none _ f.no_when (again_ok refl)
bounds-again levels _ _ rest (G.bounds w ms [] g h) f = absurd g
bounds-again levels _ _ rest (G.bounds w ms (b ∷ bs) g h) f = again_some _ _ (word-again (codes "when") w _)
    (again_this _ (items-again IsBoundItem bound_pieces bound_many bound_deep levels EndsType (read_bound levels) (bound-again levels) (codes ",") ends_comma (b ∷ bs) ms rest (bound_items b bs ms g h) f.ends_type f.no_comma) (λ p d. d) (again_ok refl))

when_ends_type : (w : Place) (ts : List Placed) → EndsType (at (T.Word (codes "when")) w ∷ ts)
unfolding is_bit_operator
when_ends_type w ts = token_ends_type (T.Word (codes "when")) w ts refl refl refl refl refl

bounds_end_type : (bs : List (Name × Node TypeKind)) (us : List Place) (rest : List Placed) → AreBounds bs us → EndsSpec rest → EndsType (fill (bounds_pieces bs) us ++ rest)
bounds_end_type _ _ rest G.no_bounds f = f.ends_type
bounds_end_type _ _ rest (G.bounds w ms [] g h) f = absurd g
bounds_end_type _ _ rest (G.bounds w ms (b ∷ bs) g h) f = when_ends_type w _

-- ---- clauses

abbrev clause_node : (o c a : Place) → (ms us : List Place) → List (Node TypeKind) → Node TypeKind → List (Name × Node TypeKind) → Node SpecClauseKind
clause_node o c a ms us params result bounds = node o (o ∷ (ms ++ c ∷ a ∷ us)) (record { params = params; result = result; bounds = bounds })

-- the parameters and the closing parenthesis, and what stands behind them
abbrev parameters_text : List (Node TypeKind) → List Place → Place → List Placed → List Placed
parameters_text params ms c rest = listed type_tokens (T.Mark (codes ",")) params ms ++ at (T.Mark (codes ")")) c ∷ rest

clause_in_turn : (o c a : Place) (ms us : List Place) (params : List (Node TypeKind)) (result : Node TypeKind) (bounds : List (Name × Node TypeKind)) (rest : List Placed) → AreSeparators params ms
    → spec_clause_tokens (clause_node o c a ms us params result bounds) ++ rest ≡ at (T.Mark (codes "(")) o ∷ parameters_text params ms c (at (T.Mark (codes "->")) a ∷ (type_tokens result ++ (fill (bounds_pieces bounds) us ++ rest)))
clause_in_turn o c a ms us params result bounds rest g =
    let behind = own (T.Mark (codes "->")) ∷ inner (type_tokens result) ∷ bounds_pieces bounds in
    let given = listed type_tokens (T.Mark (codes ",")) params ms in
    ap (λ l. at (T.Mark (codes "(")) o ∷ l) (ap (λ ps. fill ps (ms ++ c ∷ a ∷ us) ++ rest) (append_assoc (commas (map type_tokens params)) (own (T.Mark (codes ")")) ∷ []) behind)
    ∙ (ap (λ l. l ++ rest) (fill-listed type_tokens (T.Mark (codes ",")) params ms (own (T.Mark (codes ")")) ∷ behind) (c ∷ a ∷ us) g)
    ∙ (append_assoc given (fill (own (T.Mark (codes ")")) ∷ behind) (c ∷ a ∷ us)) rest
    ∙ ap (λ l. parameters_text params ms c (at (T.Mark (codes "->")) a ∷ l)) (append_assoc (type_tokens result) (fill (bounds_pieces bounds) us) rest))))

all_empty : (ps qs rs : List Place) → ps ≡ [] → qs ≡ [] → rs ≡ [] → ps ++ (qs ++ rs) ≡ []
all_empty ps qs rs e f g = ap (λ l. l ++ (qs ++ rs)) e ∙ (ap (λ l. l ++ rs) f ∙ g)

clause_read : (levels : ℕ) (ts : List Placed) (o : Place × List Placed) (s : Several (Node TypeKind) × List Placed) (a : Place × List Placed) (t : Measured (Node TypeKind) × List Placed) (b : (List (Name × Node TypeKind) × List Place) × List Placed)
    → IsMarkNext (codes "(") ts o → ParametersRead IsParameter type_tokens type_deep levels o.1 s → IsMarkNext (codes "->") s.1 a → IsRead IsType type_tokens type_deep levels a.1 t → BoundsRead levels t.1 b
    → ItemRead (IsNodeItem IsSpecClause) (node_pieces IsSpecClause spec_clause_tokens) (node_many IsSpecClause spec_clause_tokens) spec_clause_deep levels ts ((node o.0 (o.0 ∷ (s.0.marks ++ a.0 ∷ b.0.1)) (record { params = s.0.items; result = t.0.tree; bounds = b.0.0 }), []), b.1)
clause_read levels ts o s a t b ho hs ha ht hb =
    let one = node_read IsSpecClause spec_clause_tokens spec_clause_deep levels ts (clause_node o.0 hs.close a.0 hs.between b.0.1 s.0.items t.0.tree b.0.0) b.1
    (G.spec_clause o.0 hs.close a.0 hs.between b.0.1 s.0.items t.0.tree b.0.0 hs.few hs.gaps hs.formed ht.formed hb.formed)
    (ho ∙ (ap (λ l. at (T.Mark (codes "(")) o.0 ∷ l) (hs.takes ∙ ap (parameters_text s.0.items hs.between hs.close) (ha ∙ ap (λ l. at (T.Mark (codes "->")) a.0 ∷ l) (ht.takes ∙ ap (λ l. type_tokens t.0.tree ++ l) hb.takes)))
    ∙ sym (clause_in_turn o.0 hs.close a.0 hs.between b.0.1 s.0.items t.0.tree b.0.0 b.1 hs.gaps)))
    (all_empty (deep_all type_deep s.0.items levels) (type_deep t.0.tree levels) (deep_all bound_deep b.0.0 levels) (hs.measures.shallow levels hs.within) (ht.measures.shallow levels ht.within) hb.shallow) in
    subst (λ ms. ItemRead (IsNodeItem IsSpecClause) (node_pieces IsSpecClause spec_clause_tokens) (node_many IsSpecClause spec_clause_tokens) spec_clause_deep levels ts ((node o.0 (o.0 ∷ ms) (record { params = s.0.items; result = t.0.tree; bounds = b.0.0 }), []), b.1))
    (sym (ap (λ l. l ++ a.0 ∷ b.0.1) hs.marks ∙ append_assoc hs.between (hs.close ∷ []) (a.0 ∷ b.0.1))) one

spec_clause-right : (levels : ℕ) (ts : List Placed) → Right (ItemRead (IsNodeItem IsSpecClause) (node_pieces IsSpecClause spec_clause_tokens) (node_many IsSpecClause spec_clause_tokens) spec_clause_deep levels ts) ts (read_spec_clause levels ts)
unfolding read_spec_clause
spec_clause-right levels ts = right_mark (codes "(") ts λ o ho.
    right_next (behind_part [] ho) (parameters-right IsParameter type_tokens type_deep levels type_text (read_parameter_at levels) (read_parameter_at-right levels) o.0 o.1) λ s hs.
    let b0 = behind_behind (behind_token ho) (behind_behind (behind_part _ hs.takes) (behind_token refl)) in
    right_mark (codes "->") s.1 λ a ha. right_next (behind_behind b0 (behind_token ha)) (read_type-right levels a.1) λ t ht.
    right_next (behind_behind b0 (behind_behind (behind_token ha) (behind_part (type_tokens t.0.tree) ht.takes))) (bounds-right levels t.1) λ b hb. right_ok (clause_read levels ts o s a t b ho hs ha ht hb)

spec_clause-again : (levels : ℕ) (x : Node SpecClauseKind) (rest : List Placed) → IsSpecClause x → EndsSpec rest → Again (IsThis ((x, []), rest)) (IsDeep spec_clause_deep levels x) (read_spec_clause levels (spec_clause_tokens x ++ rest))
unfolding read_spec_clause
spec_clause-again levels _ rest (G.spec_clause o c a ms us params result bounds n g i j k) f =
    let behind = fill (bounds_pieces bounds) us ++ rest in
    again_from (ap (read_spec_clause levels) (clause_in_turn o c a ms us params result bounds rest g))
    (again_step _ (expect_mark-again (codes "(") o _)
    (again_these _ (parameters-again IsParameter type_tokens type_deep levels EndsParameter (read_parameter_at levels) (read_parameter_at-again levels) comma_ends_parameter paren_ends_parameter parameter_no_paren params ms c (at (T.Mark (codes "->")) a ∷ (type_tokens result ++ behind)) i g n)
    (λ p d. among_front p (deep_all type_deep params levels) _ d) λ h.
    again_step _ (expect_mark-again (codes "->") a _)
    (again_read _ (read_type-again levels result behind j (bounds_end_type bounds us rest k f)) (λ p d. among_behind p (deep_all type_deep params levels) _ (among_front p (type_deep result levels) _ d)) λ h.
    again_this _ (bounds-again levels bounds us rest k f) (λ p d. among_behind p (deep_all type_deep params levels) _ (among_behind p (type_deep result levels) _ d))
    (again_ok (ap (λ l. ((node o (o ∷ l) (record { params = params; result = result; bounds = bounds }), []), rest)) (append_assoc ms (c ∷ []) (a ∷ us)))))))

-- ---- specs

abbrev spec_of : (h w n p : Place) → List Place → Name → List (Node SpecClauseKind) → Node SpecKind
spec_of h w n p ms name clauses = node h (h ∷ w ∷ n ∷ (ms ++ p ∷ [])) (record { name = name; clauses = clauses })

-- the clauses, with semicolons between them
abbrev clauses_text : List (Node SpecClauseKind) → List Place → List Placed
clauses_text clauses ms = text_of (node_pieces IsSpecClause spec_clause_tokens) (T.Mark (codes ";")) clauses ms

-- what stands behind the name of the attribute
abbrev spec_text : (n p : Place) → List Place → Name → List (Node SpecClauseKind) → List Placed → List Placed
spec_text n p ms name clauses rest = at (T.Atom name) n ∷ (clauses_text clauses ms ++ at T.Dot p ∷ rest)

spec_in_turn : (h w n p : Place) (ms : List Place) (name : Name) (clauses : List (Node SpecClauseKind)) (rest : List Placed) → AreSeparators clauses ms → spec_tokens (spec_of h w n p ms name clauses) ++ rest ≡ attribute_text (codes "spec") h w (spec_text n p ms name clauses rest)
spec_in_turn h w n p ms name clauses rest g = ap (λ l. attribute_text (codes "spec") h w (at (T.Atom name) n ∷ l))
    (ap (λ l. l ++ rest) (fill-listed spec_clause_tokens (T.Mark (codes ";")) clauses ms (own T.Dot ∷ []) (p ∷ []) g)
    ∙ (append_assoc (listed spec_clause_tokens (T.Mark (codes ";")) clauses ms) (at T.Dot p ∷ []) rest
    ∙ ap (λ l. l ++ at T.Dot p ∷ rest) (sym (nodes_text IsSpecClause spec_clause_tokens (T.Mark (codes ";")) clauses ms))))

-- a spec, by its first clause and the others
spec_formed : (h w n p : Place) (name : Name) (clauses : List (Node SpecClauseKind)) (ms : List Place) → AreItems (IsNodeItem IsSpecClause) clauses ms → G.IsSpec (spec_of h w n p ms name clauses)
spec_formed h w n p name clauses ms r = by_first (λ xs ns. G.IsSpec (spec_of h w n p ns name xs)) (λ x ys ns k. G.spec h w n p ns name x ys (nodes_gaps IsSpecClause spec_clause_tokens (x ∷ ys) ns k) (nodes_formed IsSpecClause spec_clause_tokens (x ∷ ys) ns k)) clauses ms r

-- a colon stands behind the first name
remote_stands : (h w : Place) (ts : List Placed) (n : (List ℕ × Place) × List Placed) (d : Place × List Placed) → IsAtomNext ts n → IsMarkNext (codes ":") n.1 d → HasOutside (attribute_text (codes "spec") h w ts) d.0 (codes "remote name")
remote_stands h w ts n d hn hd = subst (λ l. HasOutside l d.0 (codes "remote name")) (sym (ap (attribute_text (codes "spec") h w) (hn ∙ ap (λ l. at (T.Atom n.0.0) n.0.1 ∷ l) hd)))
    (stands_after (at (T.Mark (codes "-")) h ∷ at (T.Atom (codes "spec")) w ∷ at (T.Atom n.0.0) n.0.1 ∷ []) (remote_spec n.0.0 h w n.0.1 d.0 [] d.1))

-- a spec is read rightly
pub spec-right : (levels : ℕ) (h w : Place) (ts : List Placed) → let whole : List Placed = attribute_text (codes "spec") h w ts in Right (FormRead levels whole) whole (read_spec levels h w ts)
unfolding read_spec
spec-right levels h w ts = right_atom ts λ n hn. right_case
    (λ e. right_next (behind_behind (behind_name (codes "spec") h w ts) (behind_token hn)) (items-right (IsNodeItem IsSpecClause) (node_pieces IsSpecClause spec_clause_tokens) (node_many IsSpecClause spec_clause_tokens) spec_clause_deep levels (read_spec_clause levels) (spec_clause-right levels) (codes ";") n.1) λ s hs.
    right_dot s.1 λ p hp. right_ok (record {
      formed = G.spec_form _ (spec_formed h w n.0.1 p.0 n.0.0 s.0.items s.0.marks hs.formed);
      takes = ap (attribute_text (codes "spec") h w) (hn ∙ ap (λ l. at (T.Atom n.0.0) n.0.1 ∷ l) (hs.takes ∙ ap (λ l. clauses_text s.0.items s.0.marks ++ l) hp))
          ∙ sym (spec_in_turn h w n.0.1 p.0 s.0.marks n.0.0 s.0.items p.1 (nodes_gaps IsSpecClause spec_clause_tokens s.0.items s.0.marks hs.formed));
      shallow = hs.shallow;
    }))
    (λ d e. right_outside (remote_stands h w ts n d hn (mark-takes (codes ":") n.1 d e)))

semicolon_ends_spec : (m : Place) (us : List Placed) → EndsSpec (at (T.Mark (codes ";")) m ∷ us)
semicolon_ends_spec m us = record { ends_type = token_ends_type (T.Mark (codes ";")) m us refl refl refl refl refl; no_when = word-none (codes "when") (T.Mark (codes ";")) m us refl; no_comma = mark-none (codes ",") (T.Mark (codes ";")) m us refl }

dot_ends_spec : (m : Place) (us : List Placed) → EndsSpec (at T.Dot m ∷ us)
dot_ends_spec m us = record { ends_type = dot-ends_type m us; no_when = word-none (codes "when") T.Dot m us refl; no_comma = mark-none (codes ",") T.Dot m us refl }

clause_no_colon : (x : Node SpecClauseKind) (us : List Placed) → IsSpecClause x → mark (codes ":") (spec_clause_tokens x ++ us) ≡ None
clause_no_colon _ us (G.spec_clause o c a ms bs params result bounds n g i j k) = mark-none (codes ":") (T.Mark (codes "(")) o _ refl

clauses_no_colon : (xs : List (Node SpecClauseKind)) (ms : List Place) (us : List Placed) → AreItems (IsNodeItem IsSpecClause) xs ms → mark (codes ":") (clauses_text xs ms ++ us) ≡ None
clauses_no_colon _ _ us (last_item x _ (node_item _ i)) = ap (λ l. mark (codes ":") (l ++ us)) (append-nil (spec_clause_tokens x)) ∙ clause_no_colon x us i
clauses_no_colon _ _ us (more_items x y ys _ m ns (node_item _ i) r) = ap (mark (codes ":")) (append_assoc (spec_clause_tokens x) (at (T.Mark (codes ";")) m ∷ clauses_text (y ∷ ys) ns) us) ∙ clause_no_colon x _ i

-- a spec is read again
pub spec-again : (levels : ℕ) (h w n p : Place) (ms : List Place) (name : Name) (c : Node SpecClauseKind) (cs : List (Node SpecClauseKind)) (rest : List Placed) → AreSeparators (c ∷ cs) ms → ((d : Node SpecClauseKind) → Among d (c ∷ cs) → IsSpecClause d)
    → (spec_tokens (spec_of h w n p ms name (c ∷ cs)) ++ rest ≡ attribute_text (codes "spec") h w (spec_text n p ms name (c ∷ cs) rest))
    × Again (IsThis (F.Spec (spec_of h w n p ms name (c ∷ cs)), rest)) (IsDeep form_deep levels (F.Spec (spec_of h w n p ms name (c ∷ cs)))) (read_spec levels h w (spec_text n p ms name (c ∷ cs) rest))
unfolding read_spec
spec-again levels h w n p ms name c cs rest g i =
    let r = nodes_items IsSpecClause spec_clause_tokens c cs ms i g in (
      spec_in_turn h w n p ms name (c ∷ cs) rest g,
      again_step _ (expect_atom-again name n _) (again_none _ (clauses_no_colon (c ∷ cs) ms _ r)
          (again_this _ (items-again (IsNodeItem IsSpecClause) (node_pieces IsSpecClause spec_clause_tokens) (node_many IsSpecClause spec_clause_tokens) spec_clause_deep levels EndsSpec (read_spec_clause levels)
          (node_again IsSpecClause spec_clause_tokens spec_clause_deep levels EndsSpec (read_spec_clause levels) (spec_clause-again levels)) (codes ";") semicolon_ends_spec (c ∷ cs) ms (at T.Dot p ∷ rest) r (dot_ends_spec p rest) (mark-none (codes ";") T.Dot p rest refl)) (λ q d. d)
          (again_step _ (expect_dot-again p rest) (again_ok refl)))),
    )
