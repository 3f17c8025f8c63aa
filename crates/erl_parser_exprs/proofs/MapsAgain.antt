-- Maps and records, new and changed, and fields of records are read again.
use Rattle.std.proofs.Common.{◌≡◌, ℕ, suc, Bool, true, false, List, [], ◌∷◌, ◌++◌, map, refl, ap, sym, ◌∙◌, subst, append_assoc}
use Rattle.std.specs.Prelude.{Some, None, Ok, codes}
use Rattle.type_terms.specs.Keys.{Name}
use Rattle.erl_tree.specs.Lists.{Among}
use Rattle.erl_tree.specs.declared.token.Place.{Place}
use Rattle.erl_tree.specs.declared.token.Placed.{Placed}
use Rattle.erl_tree.specs.declared.token.Node.{Node}
use Rattle.erl_tree.specs.declared.token.Token.TheVariants as T
use Rattle.erl_tree.specs.declared.expr.ExprKind.{ExprKind}
use Rattle.erl_tree.specs.declared.expr.ExprKind.TheVariants as X
use Rattle.erl_tree.specs.declared.expr.AssocKind.{AssocKind}
use Rattle.erl_grammar.specs.declared.head.Head.{Head}
use Rattle.erl_grammar.specs.declared.head.Head.TheVariants.{OfMap, OfRecord}
use Rattle.erl_grammar.specs.Pieces.{at, own, fill, commas}
use Rattle.erl_grammar.specs.Spelling.{expr_tokens, assoc_tokens, expr_field_tokens, association_text}
use Rattle.erl_grammar.specs.Nesting.{deep_all, deep_second, expr_deep, assoc_deep}
use Rattle.erl_grammar.specs.Grammar.{node, AreSeparators, IsExpr, assoc_of, IsAssoc, added, exact, IsField, field}
use Rattle.erl_grammar.proofs.SpellingLaws.{assoc_shown-assoc_of}
use Rattle.erl_grammar.proofs.NestingLaws.{expr_kind_deep-MapNew, expr_kind_deep-MapChange, expr_kind_deep-RecNew, expr_kind_deep-RecChange, expr_kind_deep-RecGet}
use Rattle.erl_parser_tokens.specs.declared.height.Height.{Height}
use Rattle.erl_parser_tokens.specs.declared.height.Measured.{Measured}
use Rattle.erl_parser_tokens.specs.Heights.{higher, above, measured}
use Rattle.erl_parser_tokens.specs.Tokens.{Answer, ◌>>=◌, in_case, outside, expect, mark, atom}
use Rattle.erl_parser_tokens.specs.Parts.{Several, read_closed, read_field, built}
use Rattle.erl_parser_exprs.specs.Operations.{Expr}
use Rattle.erl_parser_exprs.specs.Expressions.{Level, Headed, read_assoc, read_new_record, read_hash, read_map_change, read_record_change, read_record_field, read_behind_record}
use Rattle.erl_parser_tokens.proofs.HeightLaws.{among_front, among_behind}
use Rattle.erl_parser_tokens.proofs.Then.{Again, again_ok, again_step, again_none, again_some, IsDeep}
use Rattle.erl_parser_tokens.proofs.TokenLaws.{mark-again, expect_mark-again, expect_atom-again}
use Rattle.erl_parser_tokens.proofs.PartLaws.{AreThese, again_these, read_closed-again}
use Rattle.erl_parser_exprs.proofs.FirstTokens as F
use Rattle.erl_parser_exprs.proofs.Levels.{EndsExpr}
use Rattle.erl_parser_tokens.proofs.Endings.{mark-none}
use Rattle.erl_parser_exprs.proofs.Endings.{EndsAssoc, closes-expr, closes-assoc, comma-closes, brace-closes}
use Rattle.erl_parser_exprs.proofs.ItemLaws.{deeper_in}
use Rattle.erl_parser_exprs.proofs.Inner.{AreParts}
use Rattle.erl_parser_exprs.proofs.CallsAgain.{ReadsHeaded}

-- an association begins with its key
key_opens : (k : Expr) (b : Bool) (v : Expr) (m : Place) (us : List Placed) → IsExpr 0 k → mark (codes "}") (assoc_tokens (node k.place (m ∷ []) (assoc_of k b v)) ++ us) ≡ None
key_opens k b v m us i = ap (λ ts. mark (codes "}") (ts ++ us)) (assoc_shown-assoc_of k b v (m ∷ [])) ∙ (ap (mark (codes "}")) (append_assoc (expr_tokens k) _ us) ∙ F.expr_no_close k _ F.closes_brace i)

assoc_opens : {may_be_exact : Bool} (a : Node AssocKind) (us : List Placed) → IsAssoc may_be_exact a → mark (codes "}") (assoc_tokens a ++ us) ≡ None
assoc_opens a us (added may_be_exact k v m i j) = key_opens k false v m us i
assoc_opens a us (exact k v m i j) = key_opens k true v m us i

-- a field begins with its name
field_opens : (f : Node (Name × Expr)) (us : List Placed) → IsField f → mark (codes "}") (expr_field_tokens f ++ us) ≡ None
field_opens f us (field n m name e i) = mark-none (codes "}") (T.Atom name) n _ refl

-- the tokens of associations with commas between them, and their closing brace
abbrev pub assocs_closed : List (Node AssocKind) → List Place → Place → List Placed
assocs_closed assocs ms c = fill (commas (map assoc_tokens assocs) ++ own (T.Mark (codes "}")) ∷ []) (ms ++ c ∷ [])

-- the same of fields
abbrev pub fields_closed : List (Node (Name × Expr)) → List Place → Place → List Placed
fields_closed fields ms c = fill (commas (map expr_field_tokens fields) ++ own (T.Mark (codes "}")) ∷ []) (ms ++ c ∷ [])

module _ (levels : ℕ) (l : Level) (parts : AreParts levels l) where
  assocs_again : (may_be_exact : Bool) (assocs : List (Node AssocKind)) (ms : List Place) (c : Place) (rest : List Placed) → AreSeparators assocs ms → ((a : Node AssocKind) → Among a assocs → IsAssoc may_be_exact a)
      → Again (AreThese assocs (ms ++ c ∷ []) rest) (λ p. Among p (deep_all assoc_deep assocs levels)) (read_closed (codes "}") (read_assoc l may_be_exact) (assocs_closed assocs ms c ++ rest))
  assocs_again may_be_exact assocs ms c rest g h = read_closed-again (IsAssoc may_be_exact) assoc_tokens assoc_deep levels EndsAssoc (read_assoc l may_be_exact) (parts.assoc_again may_be_exact) (codes "}")
      (λ m us. closes-assoc comma-closes refl m us) (λ m us. closes-assoc brace-closes refl m us) (λ m us. mark-none (codes ",") (T.Mark (codes "}")) m us refl) (λ a us i. assoc_opens a us i) assocs ms c rest h g

  fields_again : (fields : List (Node (Name × Expr))) (ms : List Place) (c : Place) (rest : List Placed) → AreSeparators fields ms → ((f : Node (Name × Expr)) → Among f fields → IsField f)
      → Again (AreThese fields (ms ++ c ∷ []) rest) (λ p. Among p (deep_all (deep_second expr_deep) fields levels)) (read_closed (codes "}") (read_field l.expr) (fields_closed fields ms c ++ rest))
  fields_again fields ms c rest g h = read_closed-again IsField expr_field_tokens (deep_second expr_deep) levels EndsExpr (read_field l.expr) parts.field_again (codes "}")
      (λ m us. closes-expr comma-closes m us) (λ m us. closes-expr brace-closes m us) (λ m us. mark-none (codes ",") (T.Mark (codes "}")) m us refl) field_opens fields ms c rest h g

  -- a new map is read again
  pub read_new_map-again : (h o c : Place) (ms : List Place) (assocs : List (Node AssocKind)) (rest : List Placed) → AreSeparators assocs ms → ((a : Node AssocKind) → Among a assocs → IsAssoc false a)
      → ReadsHeaded levels OfMap (node h (h ∷ o ∷ (ms ++ c ∷ [])) (X.MapNew assocs)) rest (read_hash l h (at (T.Mark (codes "{")) o ∷ (assocs_closed assocs ms c ++ rest)))
  unfolding read_hash
  read_new_map-again h o c ms assocs rest g i = again_some _ _ (mark-again (codes "{") o _) (again_these _ (assocs_again false assocs ms c rest g i) (λ p d. deeper_in p (expr_kind_deep-MapNew assocs levels) d) λ k. again_ok (above h k, refl))

  -- a new record is read again
  pub read_new_record-again : (h n o c : Place) (ms : List Place) (name : Name) (fields : List (Node (Name × Expr))) (rest : List Placed) → AreSeparators fields ms → ((f : Node (Name × Expr)) → Among f fields → IsField f)
      → ReadsHeaded levels OfRecord (node h (h ∷ n ∷ o ∷ (ms ++ c ∷ [])) (X.RecNew name name fields)) rest (read_hash l h (at (T.Atom name) n ∷ at (T.Mark (codes "{")) o ∷ (fields_closed fields ms c ++ rest)))
  unfolding read_hash read_new_record
  read_new_record-again h n o c ms name fields rest g i = again_none _ (mark-none (codes "{") (T.Atom name) n _ refl) (again_step _ (expect_atom-again name n _) (again_none _ (mark-none (codes ".") (T.Mark (codes "{")) o _ refl) (again_step _ (expect_mark-again (codes "{") o _)
      (again_these _ (fields_again fields ms c rest g i) (λ p d. deeper_in p (expr_kind_deep-RecNew name name fields levels) d) λ k. again_ok (above h k, refl)))))

  -- a changed map is read again, behind `{`
  pub read_map_change-again : (e : Expr) (k : Height) (h o c : Place) (ms : List Place) (assocs : List (Node AssocKind)) (rest : List Placed) → AreSeparators assocs ms → ((a : Node AssocKind) → Among a assocs → IsAssoc true a)
      → ReadsHeaded levels OfMap (node e.place (h ∷ o ∷ (ms ++ c ∷ [])) (X.MapChange e assocs)) rest (read_map_change l (measured e k) h o (assocs_closed assocs ms c ++ rest))
  unfolding read_map_change
  read_map_change-again e k h o c ms assocs rest g i = again_these _ (assocs_again true assocs ms c rest g i) (λ p d. deeper_in p (expr_kind_deep-MapChange e assocs levels) (among_behind p (expr_deep e levels) _ d)) λ j. again_ok (above e.place (higher k j), refl)

  -- a changed record is read again, behind its name
  pub read_record_change-again : (e : Expr) (k : Height) (h n o c : Place) (ms : List Place) (name : Name) (fields : List (Node (Name × Expr))) (rest : List Placed) → AreSeparators fields ms → ((f : Node (Name × Expr)) → Among f fields → IsField f)
      → ReadsHeaded levels OfRecord (node e.place (h ∷ n ∷ o ∷ (ms ++ c ∷ [])) (X.RecChange e name name fields)) rest (read_behind_record l (measured e k) h name n (at (T.Mark (codes "{")) o ∷ (fields_closed fields ms c ++ rest)))
  unfolding read_behind_record read_record_change
  read_record_change-again e k h n o c ms name fields rest g i = again_none _ (mark-none (codes ".") (T.Mark (codes "{")) o _ refl) (again_step _ (expect_mark-again (codes "{") o _)
      (again_these _ (fields_again fields ms c rest g i) (λ p d. deeper_in p (expr_kind_deep-RecChange e name name fields levels) (among_behind p (expr_deep e levels) _ d)) λ j. again_ok (above e.place (higher k j), refl)))

  -- a field of a record is read again, behind the record's name
  pub read_record_field-again : (e : Expr) (k : Height) (h n d f : Place) (name got : Name) (rest : List Placed)
      → ReadsHeaded levels OfRecord (node e.place (h ∷ n ∷ d ∷ f ∷ []) (X.RecGet e name name got)) rest (read_behind_record l (measured e k) h name n (at (T.Mark (codes ".")) d ∷ at (T.Atom got) f ∷ rest))
  unfolding read_behind_record read_record_field
  read_record_field-again e k h n d f name got rest = again_some _ _ (mark-again (codes ".") d _) (again_step _ (expect_atom-again got f rest) (again_ok (above e.place k, refl)))
