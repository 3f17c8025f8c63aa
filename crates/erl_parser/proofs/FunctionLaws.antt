-- Functions: what is read is right, and what is well formed is read again.
use Rattle.std.proofs.Common.{◌≡◌, ℕ, List, [], ◌∷◌, ◌++◌, map, refl, ap, sym, ◌∙◌, subst, inl, append_assoc}
use Rattle.std.specs.Prelude.{Option, codes}
use Rattle.type_terms.specs.Keys.{Name}
use Rattle.erl_tree.specs.Lists.{Among}
use Rattle.erl_tree.specs.declared.token.Place.{Place}
use Rattle.erl_tree.specs.declared.token.Placed.{Placed}
use Rattle.erl_tree.specs.declared.token.Node.{Node}
use Rattle.erl_tree.specs.declared.token.Token.TheVariants as T
use Rattle.erl_tree.specs.declared.pattern.PatternKind.{PatternKind}
use Rattle.erl_tree.specs.declared.expr.ItemKind.{ItemKind}
use Rattle.erl_tree.specs.declared.expr.ClauseKind.{ClauseKind}
use Rattle.erl_tree.specs.declared.form.Function.{Function}
use Rattle.erl_tree.specs.declared.form.TreeForm.TheVariants as F
use Rattle.erl_grammar.specs.Pieces.{at, own, fill}
use Rattle.erl_grammar.specs.Spelling.{pattern_tokens}
use Rattle.erl_grammar.specs.Grammar.{node, AreSeparators, IsPattern, clause_of}
use Rattle.erl_grammar.specs.Nesting.{deep_all, pattern_deep, clause_deep}
use Rattle.erl_grammar.specs.FormSpelling.{function_clause_tokens, function_tokens}
use Rattle.erl_grammar.specs.FormNesting.{form_deep}
use Rattle.erl_grammar.specs.FormGrammar as G
use Rattle.erl_grammar.specs.FormGrammar.{IsFunctionClause, IsFunction}
use Rattle.erl_grammar.proofs.FormSpellingLaws.{function_clause-tokens}
use Rattle.erl_grammar.proofs.FormPlaceLaws.{function_begins}
use Rattle.erl_grammar.proofs.NestingLaws.{clause_kind_deep-clause_of}
use Rattle.erl_parser_tokens.specs.declared.height.Measured.{Measured}
use Rattle.erl_parser_tokens.specs.Heights.{measured}
use Rattle.erl_parser_tokens.specs.Tokens.{first_place, atom, expect}
use Rattle.erl_parser_tokens.specs.Parts.{Several}
use Rattle.erl_parser_tokens.proofs.HeightLaws.{among_front, among_behind}
use Rattle.erl_parser_tokens.proofs.Then.{behind_token, behind_part, behind_behind, Right, right_ok, right_next, right_then, Again, again_ok, again_as, again_from, again_step, again_read, IsDeep}
use Rattle.erl_parser_tokens.proofs.TokenLaws.{IsMarkNext, expect_mark-again, expect_atom-again}
use Rattle.erl_parser_tokens.proofs.PartLaws.{each_behind, separated-each_behind, listed, fill-listed, again_these}
use Rattle.erl_parser_tokens.proofs.ParameterLaws.{ParametersRead}
use Rattle.erl_parser_tokens.proofs.Endings.{mark-none}
use Rattle.erl_parser_exprs.specs.Expressions.{Guard}
use Rattle.erl_parser_exprs.specs.Levels.{level_at}
use Rattle.erl_parser_exprs.proofs.Endings.{EndsBody, closes-body, semicolon-closes}
use Rattle.erl_parser_exprs.proofs.ParameterLaws.{patterns-right, patterns-again}
use Rattle.erl_parser_exprs.proofs.ClauseLaws.{behind_pieces, behind_deep, BehindRead, behind_patterns-right, behind_patterns-again}
use Rattle.erl_parser_exprs.proofs.LevelLaws.{level_known}
use Rattle.erl_parser.specs.Forms.{read_function_clause, read_function}
use Rattle.erl_parser.proofs.ItemsLaws.{AreItems, text_of, IsThis, again_this, ItemRead, items-right, items-again, by_first, IsNodeItem, node_pieces, node_many, nodes_text, nodes_formed, nodes_gaps, nodes_items, node_read, node_again}
use Rattle.erl_parser.proofs.FormTokens.{right_named, IsNamedNext, expect_named-again, right_mark, right_atom, right_dot, expect_dot-again, dot-closes, FormRead}

-- ---- clauses

-- a clause by its marks: those of the name, the parentheses and between the parameters, and those behind
abbrev clause_node : (n o c : Place) → (ns bs : List Place) → List (Node PatternKind) → Option Guard → List (Node ItemKind) → Node ClauseKind
clause_node n o c ns bs ps w items = node n (n ∷ o ∷ (ns ++ c ∷ bs)) (clause_of ps w items)

-- the parameters and the closing parenthesis, and what stands behind them
abbrev parameters_text : List (Node PatternKind) → List Place → Place → List Placed → List Placed
parameters_text ps ns c rest = listed pattern_tokens (T.Mark (codes ",")) ps ns ++ at (T.Mark (codes ")")) c ∷ rest

clause_in_turn : (name : Name) (n o c : Place) (ns bs : List Place) (ps : List (Node PatternKind)) (w : Option Guard) (items : List (Node ItemKind)) (rest : List Placed) → AreSeparators ps ns
    → function_clause_tokens name (clause_node n o c ns bs ps w items) ++ rest ≡ at (T.Atom name) n ∷ at (T.Mark (codes "(")) o ∷ parameters_text ps ns c (fill (behind_pieces w items) bs ++ rest)
clause_in_turn name n o c ns bs ps w items rest g = ap (λ l. l ++ rest) (function_clause-tokens name n (n ∷ o ∷ (ns ++ c ∷ bs)) ps w items)
    ∙ ap (λ l. at (T.Atom name) n ∷ at (T.Mark (codes "(")) o ∷ l) (ap (λ l. l ++ rest) (fill-listed pattern_tokens (T.Mark (codes ",")) ps ns (own (T.Mark (codes ")")) ∷ behind_pieces w items) (c ∷ bs) g)
    ∙ append_assoc (listed pattern_tokens (T.Mark (codes ",")) ps ns) (at (T.Mark (codes ")")) c ∷ fill (behind_pieces w items) bs) rest)

-- the clause was read as a part
abbrev ClauseRead : ℕ → Name → List Placed → (Node ClauseKind × List Place) × List Placed → Type 0
ClauseRead levels name ts q = ItemRead (IsNodeItem IsFunctionClause) (node_pieces IsFunctionClause (function_clause_tokens name)) (node_many IsFunctionClause (function_clause_tokens name)) clause_deep levels ts q

clause_read : (levels : ℕ) (name : Name) (ts : List Placed) (n o : Place × List Placed) (s : Several (Node PatternKind) × List Placed) (q : Measured (Node ClauseKind) × List Placed)
    → IsNamedNext name ts n → IsMarkNext (codes "(") n.1 o → ParametersRead IsPattern pattern_tokens pattern_deep levels o.1 s → BehindRead levels n.0 (n.0 ∷ o.0 ∷ s.0.marks) s.0.items s.0.height s.1 q → ClauseRead levels name ts ((q.0.tree, []), q.1)
clause_read levels name ts n o s q hn ho hs r =
    let bs : List Place = r.guard_marks ++ r.arrow ∷ r.body_marks in
    let items : List (Node ItemKind) = r.first ∷ r.others in
    let marks : (n.0 ∷ o.0 ∷ s.0.marks) ++ bs ≡ n.0 ∷ o.0 ∷ (hs.between ++ hs.close ∷ bs) = ap (λ l. n.0 ∷ o.0 ∷ (l ++ bs)) hs.marks ∙ ap (λ l. n.0 ∷ o.0 ∷ l) (append_assoc hs.between (hs.close ∷ []) bs) in
    let one : ClauseRead levels name ts ((clause_node n.0 o.0 hs.close hs.between bs s.0.items r.guard items, []), q.1) = node_read IsFunctionClause (function_clause_tokens name) clause_deep levels ts (clause_node n.0 o.0 hs.close hs.between bs s.0.items r.guard items) q.1
    (G.function_clause n.0 o.0 hs.close r.arrow s.0.items r.guard hs.between r.guard_marks r.body_marks r.first r.others hs.few hs.gaps hs.formed r.is_when r.gaps r.formed)
    (hn ∙ (ap (λ l. at (T.Atom name) n.0 ∷ l) (ho ∙ ap (λ l. at (T.Mark (codes "(")) o.0 ∷ l) (hs.takes ∙ ap (parameters_text s.0.items hs.between hs.close) r.takes))
    ∙ sym (clause_in_turn name n.0 o.0 hs.close hs.between bs s.0.items r.guard items q.1 hs.gaps)))
    (clause_kind_deep-clause_of s.0.items r.guard items levels ∙ (r.measures (deep_all pattern_deep s.0.items) hs.measures).shallow levels (r.within hs.within)) in
    subst (λ z. ClauseRead levels name ts ((z, []), q.1)) (sym (r.clause ∙ ap (λ l. node n.0 l (clause_of s.0.items r.guard items)) marks)) one

clause-right : (levels : ℕ) (name : Name) (ts : List Placed) → Right (ClauseRead levels name ts) ts (read_function_clause levels name ts)
unfolding read_function_clause
clause-right levels name ts = right_named name ts λ n hn. right_mark (codes "(") n.1 λ o ho.
    right_next (behind_part (at (T.Atom name) n.0 ∷ []) (hn ∙ ap (λ l. at (T.Atom name) n.0 ∷ l) ho)) (patterns-right levels (level_at levels) (level_known levels) o.0 o.1) λ s hs.
    right_next (behind_behind (behind_token hn) (behind_behind (behind_token ho) (behind_behind (behind_part _ hs.takes) (behind_token refl))))
    (behind_patterns-right levels (level_at levels) (level_known levels) n.0 (n.0 ∷ o.0 ∷ s.0.marks) s.0.items s.0.height s.1) λ q r. right_ok (clause_read levels name ts n o s q hn ho hs r)

clause_deep_in : (n : Place) (ps : List (Node PatternKind)) (w : Option Guard) (items : List (Node ItemKind)) (ms : List Place) (levels : ℕ) → clause_deep (node n ms (clause_of ps w items)) levels ≡ deep_all pattern_deep ps levels ++ behind_deep w items levels
clause_deep_in n ps w items ms levels = clause_kind_deep-clause_of ps w items levels

-- a clause is read again
clause-again : (levels : ℕ) (name : Name) (x : Node ClauseKind) (rest : List Placed) → IsFunctionClause x → EndsBody rest → Again (IsThis ((x, []), rest)) (IsDeep clause_deep levels x) (read_function_clause levels name (function_clause_tokens name x ++ rest))
unfolding read_function_clause
clause-again levels name _ rest (G.function_clause n o c a ps w ns ws ms i is few g x y k f) e =
    let bs : List Place = ws ++ a ∷ ms in
    let items : List (Node ItemKind) = i ∷ is in
    let behind : List Placed = fill (behind_pieces w items) bs ++ rest in
    let all : List Place = n ∷ o ∷ (ns ++ c ∷ bs) in
    again_from (ap (read_function_clause levels name) (clause_in_turn name n o c ns bs ps w items rest g))
    (again_step _ (expect_named-again name n _) (again_step _ (expect_mark-again (codes "(") o _)
    (again_these _ (patterns-again levels (level_at levels) (level_known levels) ps ns c behind x g few) (λ q d. subst (Among q) (sym (clause_deep_in n ps w items all levels)) (among_front q (deep_all pattern_deep ps levels) _ d)) λ h.
    again_read {x = clause_node n o c ns bs ps w items} {rest = rest} _ (again_as (λ q r. (r.0, r.1 ∙ ap (λ m. (measured (node n (n ∷ o ∷ m) (clause_of ps w items)) r.0, rest)) (append_assoc ns (c ∷ []) bs))) (λ q d. d)
    (behind_patterns-again levels (level_at levels) (level_known levels) n (n ∷ o ∷ (ns ++ c ∷ [])) ps h w ws a ms i is rest y k f e))
    (λ q d. subst (Among q) (sym (clause_deep_in n ps w items all levels)) (among_behind q (deep_all pattern_deep ps levels) _ d)) λ h. again_ok refl)))

-- ---- functions

-- the clauses, with semicolons between them
abbrev clauses_text : Name → List (Node ClauseKind) → List Place → List Placed
clauses_text name clauses ms = text_of (node_pieces IsFunctionClause (function_clause_tokens name)) (T.Mark (codes ";")) clauses ms

abbrev function_of : Name → Place → List Place → Place → List (Node ClauseKind) → Function
function_of name place ms p clauses = record { name = name; place = place; marks = ms ++ p ∷ []; clauses = clauses }

function_in_turn : (name : Name) (place : Place) (ms : List Place) (p : Place) (clauses : List (Node ClauseKind)) (rest : List Placed) → AreSeparators clauses ms → function_tokens (function_of name place ms p clauses) ++ rest ≡ clauses_text name clauses ms ++ at T.Dot p ∷ rest
function_in_turn name place ms p clauses rest g = ap (λ l. l ++ rest) (fill-listed (function_clause_tokens name) (T.Mark (codes ";")) clauses ms (own T.Dot ∷ []) (p ∷ []) g)
    ∙ (append_assoc (listed (function_clause_tokens name) (T.Mark (codes ";")) clauses ms) (at T.Dot p ∷ []) rest
    ∙ ap (λ l. l ++ at T.Dot p ∷ rest) (sym (nodes_text IsFunctionClause (function_clause_tokens name) (T.Mark (codes ";")) clauses ms)))

-- the place of the first clause is that of the first token
first_stands : (f : Function) (place : Place) (ts us vs : List Placed) → IsFunction f → ts ≡ at (T.Atom f.name) place ∷ us → ts ≡ function_tokens f ++ vs → f.place ≡ place
first_stands f place ts us vs i e g = let b = function_begins i in ap first_place (sym (g ∙ ap (λ l. l ++ vs) b.in_turn) ∙ e)

-- what is known of the clauses of a function that was read
abbrev ReadsFunction : ℕ → Name → Place → (ts us : List Placed) → Place → List Placed → List (Node ClauseKind) → List Place → Type 0
ReadsFunction levels name place ts us p vs clauses ms = ts ≡ at (T.Atom name) place ∷ us → ts ≡ clauses_text name clauses ms ++ at T.Dot p ∷ vs → deep_all clause_deep clauses levels ≡ [] → FormRead levels ts (F.Function (function_of name place ms p clauses), vs)

function_read : (levels : ℕ) (name : Name) (place : Place) (ts us : List Placed) (p : Place) (vs : List Placed) (c : Node ClauseKind) (cs : List (Node ClauseKind)) (ms : List Place) → AreItems (IsNodeItem IsFunctionClause) (c ∷ cs) ms → ReadsFunction levels name place ts us p vs (c ∷ cs) ms
function_read levels name place ts us p vs c cs ms r e takes shallow =
    let gaps = nodes_gaps IsFunctionClause (function_clause_tokens name) (c ∷ cs) ms r in
    let formed : IsFunction (function_of name c.place ms p (c ∷ cs)) = G.function name p ms c cs gaps (nodes_formed IsFunctionClause (function_clause_tokens name) (c ∷ cs) ms r) in
    let whole : ts ≡ function_tokens (function_of name c.place ms p (c ∷ cs)) ++ vs = takes ∙ sym (function_in_turn name c.place ms p (c ∷ cs) vs gaps) in
    subst (λ z. FormRead levels ts (F.Function (function_of name z ms p (c ∷ cs)), vs)) (first_stands (function_of name c.place ms p (c ∷ cs)) place ts us vs formed e whole)
    (record { formed = G.function_form _ formed; takes = whole; shallow = shallow })

-- a function is read rightly
pub function-right : (levels : ℕ) (ts : List Placed) → Right (FormRead levels ts) ts (read_function levels ts)
unfolding read_function
function-right levels ts = right_atom ts λ n hn.
    right_then (items-right (IsNodeItem IsFunctionClause) (node_pieces IsFunctionClause (function_clause_tokens n.0.0)) (node_many IsFunctionClause (function_clause_tokens n.0.0)) clause_deep levels (read_function_clause levels n.0.0) (clause-right levels n.0.0) (codes ";") ts) λ s hs.
    right_dot s.1 λ p hp. right_ok (by_first (ReadsFunction levels n.0.0 n.0.1 ts n.1 p.0 p.1) (function_read levels n.0.0 n.0.1 ts n.1 p.0 p.1) s.0.items s.0.marks hs.formed hn (hs.takes ∙ ap (λ l. clauses_text n.0.0 s.0.items s.0.marks ++ l) hp) hs.shallow)

semicolon_ends_body : (m : Place) (us : List Placed) → EndsBody (at (T.Mark (codes ";")) m ∷ us)
semicolon_ends_body m us = closes-body semicolon-closes refl m us

-- the tokens of a clause begin with the name at its place
pub record BeginsWithName (name : Name) (place : Place) (ts : List Placed) : Type 0 where
  pub others : List Placed
  pub begins : ts ≡ at (T.Atom name) place ∷ others

clause_begins : (name : Name) (x : Node ClauseKind) (rest : List Placed) → IsFunctionClause x → BeginsWithName name x.place (function_clause_tokens name x ++ rest)
clause_begins name _ rest (G.function_clause n o c a ps w ns ws ms i is few g x y k f) = record { others = _; begins = clause_in_turn name n o c ns (ws ++ a ∷ ms) ps w (i ∷ is) rest g }

-- so do those of the clauses in turn
clauses_begin : (name : Name) (c : Node ClauseKind) (cs : List (Node ClauseKind)) (ms : List Place) (rest : List Placed) → IsFunctionClause c → BeginsWithName name c.place (clauses_text name (c ∷ cs) ms ++ rest)
clauses_begin name c cs ms rest i =
    let t = T.Mark (codes ";") in
    let b = clause_begins name c (fill (each_behind t (map (function_clause_tokens name) cs)) ms ++ rest) i in
    record {
      others = b.others;
      begins = ap (λ l. l ++ rest) (nodes_text IsFunctionClause (function_clause_tokens name) t (c ∷ cs) ms ∙ ap (λ ps. fill ps ms) (separated-each_behind t (function_clause_tokens name c) (map (function_clause_tokens name) cs)))
          ∙ (append_assoc (function_clause_tokens name c) (fill (each_behind t (map (function_clause_tokens name) cs)) ms) rest ∙ b.begins);
    }

-- the first token of a function is its name
pub function_begins_with : (f : Function) (rest : List Placed) → IsFunction f → BeginsWithName f.name f.place (function_tokens f ++ rest)
function_begins_with _ rest (G.function name p ms c cs g k) =
    let b = clauses_begin name c cs ms (at T.Dot p ∷ rest) (k c (inl refl)) in
    record { others = b.others; begins = function_in_turn name c.place ms p (c ∷ cs) rest g ∙ b.begins }

-- a function is read again
pub function-again : (levels : ℕ) (f : Function) (rest : List Placed) → IsFunction f → Again (IsThis (F.Function f, rest)) (IsDeep form_deep levels (F.Function f)) (read_function levels (function_tokens f ++ rest))
unfolding read_function
function-again levels _ rest (G.function name p ms c cs g k) =
    let behind : List Placed = at T.Dot p ∷ rest in
    let b = clauses_begin name c cs ms behind (k c (inl refl)) in
    again_from (ap (read_function levels) (function_in_turn name c.place ms p (c ∷ cs) rest g))
    (again_step _ (ap (expect atom) b.begins ∙ expect_atom-again name c.place b.others)
    (again_this _ (items-again (IsNodeItem IsFunctionClause) (node_pieces IsFunctionClause (function_clause_tokens name)) (node_many IsFunctionClause (function_clause_tokens name)) clause_deep levels EndsBody (read_function_clause levels name)
    (node_again IsFunctionClause (function_clause_tokens name) clause_deep levels EndsBody (read_function_clause levels name) (clause-again levels name)) (codes ";") semicolon_ends_body (c ∷ cs) ms behind
    (nodes_items IsFunctionClause (function_clause_tokens name) c cs ms k g) (closes-body dot-closes refl p rest) (mark-none (codes ";") T.Dot p rest refl)) (λ q d. d)
    (again_step _ (expect_dot-again p rest) (again_ok refl))))
