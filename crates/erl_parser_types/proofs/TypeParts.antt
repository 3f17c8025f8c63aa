-- The parts of types, and types that begin with a literal: what is read is right.
use Rattle.std.proofs.Common.{◌≡◌, ℕ, suc, ◌≤◌, List, [], ◌∷◌, ◌++◌, refl, ap, sym, ◌∙◌, subst, arith}
use Rattle.std.specs.Prelude.{true, codes}
use Rattle.erl_tree.specs.declared.token.Place.{Place}
use Rattle.erl_tree.specs.declared.token.Placed.{Placed}
use Rattle.erl_tree.specs.declared.token.Node.{Node}
use Rattle.erl_tree.specs.declared.token.Token.{Token}
use Rattle.erl_tree.specs.declared.token.Token.TheVariants as T
use Rattle.erl_tree.specs.declared.pattern.LiteralKind.{LiteralKind}
use Rattle.erl_tree.specs.declared.pattern.LiteralKind.TheVariants as L
use Rattle.erl_tree.specs.declared.type_expr.TypeKind.{TypeKind}
use Rattle.erl_grammar.specs.Pieces.{at}
use Rattle.erl_grammar.specs.Spelling.{literal_tokens, association_text}
use Rattle.erl_grammar.specs.TypeSpelling.{type_shown, type_tokens, map_part_tokens, type_field_tokens}
use Rattle.erl_grammar.specs.Nesting.{deep_second}
use Rattle.erl_grammar.specs.TypeNesting.{type_kind_deep, type_deep, map_part_deep}
use Rattle.erl_grammar.specs.Grammar.{node}
use Rattle.erl_grammar.specs.TypeGrammar.{IsRangeEnd, integer_end, negative_end, character_end, IsType, IsSimpleType, integer_type, negative_type, character_type, range, IsMapPart, map_part, IsFieldType, field_type}
use Rattle.erl_grammar.proofs.TypeSpellingLaws.{type_shown-Int, type_shown-NegInt, type_shown-Char}
use Rattle.erl_grammar.proofs.TypeNestingLaws.{type_kind_deep-Int, type_kind_deep-NegInt, type_kind_deep-Char, type_kind_deep-Range, map_part_kind_deep-map_part_of}
use Rattle.erl_parser_tokens.specs.declared.height.Height.{Height}
use Rattle.erl_parser_tokens.specs.declared.height.Measured.{Measured}
use Rattle.erl_parser_tokens.specs.declared.fault.ParseFault.TheVariants as faults
use Rattle.erl_parser_tokens.specs.Tokens.{Answer, Reads}
use Rattle.erl_parser_tokens.specs.Parts.{built}
use Rattle.erl_parser_tokens.proofs.Right.{Measures, Read}
use Rattle.erl_parser_tokens.proofs.HeightLaws.{measures_as, nothing_measured, both_measured, node_measured, higher_within, above_within}
use Rattle.erl_parser_tokens.proofs.Then.{behind_token, behind_part, behind_behind, Right, right_ok, right_fault, right_then, right_next, right_case, right_if, IsRead}
use Rattle.erl_parser_tokens.proofs.TokenLaws.{text_is, mark-takes, expect_mark, expect_atom, expect_integer}
use Rattle.erl_parser_tokens.proofs.ArrowLaws.{arrow-right}
use Rattle.erl_parser_types.specs.Types.{TypeExpr, leaf, range_end_from, read_range_end, literal_type, read_behind_literal, read_negative, read_map_part, read_typed_field}
use Rattle.erl_parser_types.proofs.TypeTexts.{range_text, field_text, map_part_text}

-- ---- nodes

-- a node of a type was read, with its parts
pub built_read : {Is : TypeExpr → Type 0} {ts rest : List Placed} {o : Place} {ms : List Place} {kind : TypeKind} {h : Height} {levels : ℕ} → Is (node o ms kind) → ts ≡ type_shown kind ms ++ rest → Measures (type_kind_deep kind) h → h.depth ≤ levels
    → Read Is type_tokens type_deep (suc levels) ts (built o ms kind h) rest
built_read {o = o} {ms = ms} {kind = kind} {h = h} {levels = levels} i e m l = record { formed = i; takes = e; measures = node_measured (node o ms (type_kind_deep kind)) h m; within = above_within o h levels l }

-- a reader of types that answers what begins with these tokens rightly
abbrev pub ReadsSimple : ℕ → List Placed → Answer (Measured TypeExpr × List Placed) → Type 0
ReadsSimple levels ts answer = Right (IsRead IsSimpleType type_tokens type_deep levels ts) ts answer

-- a node of one token was read
pub leaf_right : (levels : ℕ) (k : Token) (p : Place) (kind : TypeKind) (ts : List Placed) → IsSimpleType (node p (p ∷ []) kind) → type_shown kind (p ∷ []) ≡ at k p ∷ [] → ((n : ℕ) → type_kind_deep kind n ≡ []) → ReadsSimple (suc levels) (at k p ∷ ts) (leaf p kind ts)
leaf_right levels k p kind ts i e d = right_ok (built_read i (ap (λ l. l ++ ts) (sym e)) (nothing_measured d) (omega arith))

-- ---- ends of ranges

-- the tokens begin with this end of a range
abbrev IsRangeEndNext : List Placed → Node LiteralKind × List Placed → Type 0
IsRangeEndNext ts h = IsRangeEnd h.0 × (ts ≡ literal_tokens h.0 ++ h.1)

range_end_from-right : (k : Token) (p : Place) (ts : List Placed) → Right (IsRangeEndNext (at k p ∷ ts)) (at k p ∷ ts) (range_end_from k p ts)
range_end_from-right (T.Int n) p ts = right_ok (integer_end p n, refl)
range_end_from-right (T.Char c) p ts = right_ok (character_end p c, refl)
range_end_from-right (T.Mark m) p ts = right_if
    (λ e. right_next (behind_token refl) (expect_integer ts) λ n h. right_ok (negative_end p n.0.1 n.0.0, ap (λ z. at (T.Mark z) p ∷ ts) (text_is (codes "-") m e) ∙ ap (λ l. at (T.Mark (codes "-")) p ∷ l) h))
    (λ e. right_fault tt)
range_end_from-right _ p ts = right_fault {f = faults.Unexpected p} tt

read_range_end-right : (ts : List Placed) → Right (IsRangeEndNext ts) ts (read_range_end ts)
unfolding read_range_end
read_range_end-right [] = right_fault tt
read_range_end-right (t ∷ ts) = range_end_from-right t.token t.place ts

-- ---- literals and ranges

-- a literal that is an end of a range is a type
record LiteralType (l : Node LiteralKind) : Type 0 where
  formed : IsSimpleType (node l.place l.marks (literal_type l.kind))
  tokens : type_shown (literal_type l.kind) l.marks ≡ literal_tokens l
  nothing : (n : ℕ) → type_kind_deep (literal_type l.kind) n ≡ []

literal_is : {l : Node LiteralKind} → IsRangeEnd l → LiteralType l
literal_is (integer_end p n) = record { formed = integer_type p n; tokens = type_shown-Int n (p ∷ []); nothing = type_kind_deep-Int n }
literal_is (negative_end h p n) = record { formed = negative_type h p n; tokens = type_shown-NegInt n (h ∷ p ∷ []); nothing = type_kind_deep-NegInt n }
literal_is (character_end p c) = record { formed = character_type p c; tokens = type_shown-Char c (p ∷ []); nothing = type_kind_deep-Char c }

-- what begins with a literal is read rightly
pub read_behind_literal-right : (levels : ℕ) (l : Node LiteralKind) (ts : List Placed) → IsRangeEnd l → ReadsSimple (suc levels) (literal_tokens l ++ ts) (read_behind_literal l ts)
unfolding read_behind_literal
read_behind_literal-right levels l ts i = right_case
    (λ e. let t = literal_is i in right_ok (built_read t.formed (ap (λ us. us ++ ts) (sym t.tokens)) (nothing_measured t.nothing) (omega arith)))
    (λ m e. let g = mark-takes (codes "..") ts m e in right_next (behind_behind (behind_part (literal_tokens l) refl) (behind_token g)) (read_range_end-right m.1) λ h r.
    right_ok (built_read (range l h.0 m.0 i r.0) (ap (λ us. literal_tokens l ++ us) (g ∙ ap (λ us. at (T.Mark (codes "..")) m.0 ∷ us) r.1) ∙ sym (range_text l h.0 m.0 h.1)) (nothing_measured (type_kind_deep-Range l h.0)) (omega arith)))

pub read_negative-right : (levels : ℕ) (p : Place) (ts : List Placed) → ReadsSimple (suc levels) (at (T.Mark (codes "-")) p ∷ ts) (read_negative p ts)
unfolding read_negative
read_negative-right levels p ts = right_next (behind_token refl) (expect_integer ts) λ n h.
    let l : Node LiteralKind = node p (p ∷ n.0.1 ∷ []) (L.NegInt n.0.0) in
    subst (λ us. ReadsSimple (suc levels) (at (T.Mark (codes "-")) p ∷ us) (read_behind_literal l n.1)) (sym h) (read_behind_literal-right levels l n.1 (negative_end p n.0.1 n.0.0))

-- ---- parts of maps, fields

module _ (levels : ℕ) (inner : Reads (Measured TypeExpr)) (inner-right : (ts : List Placed) → Right (IsRead IsType type_tokens type_deep levels ts) ts (inner ts)) where
  -- a part of a map type is read rightly
  pub read_map_part-right : (ts : List Placed) → Right (IsRead IsMapPart map_part_tokens map_part_deep levels ts) ts (read_map_part inner ts)
  unfolding read_map_part
  read_map_part-right ts = right_then (inner-right ts) λ k hk. let one = behind_part _ hk.takes in
      right_next one (arrow-right true k.1) λ a ha. right_next (behind_behind one (behind_token ha.takes)) (inner-right a.1) λ v hv. right_ok (record {
        formed = map_part k.0.tree v.0.tree a.0.1 a.0.0 hk.formed hv.formed;
        takes = hk.takes ∙ (ap (λ l. type_tokens k.0.tree ++ l) (ha.takes ∙ ap (λ l. at (T.Mark (association_text a.0.0)) a.0.1 ∷ l) hv.takes) ∙ sym (map_part_text k.0.tree v.0.tree a.0.1 a.0.0 v.1));
        measures = measures_as (map_part_kind_deep-map_part_of k.0.tree a.0.0 v.0.tree) (both_measured hk.measures hv.measures);
        within = higher_within k.0.height v.0.height levels hk.within hv.within;
      })

  -- a field of a record type is read rightly
  pub read_typed_field-right : (ts : List Placed) → Right (IsRead IsFieldType type_field_tokens (deep_second type_deep) levels ts) ts (read_typed_field inner ts)
  unfolding read_typed_field
  read_typed_field-right ts = right_then (expect_atom ts) λ a ha. right_next (behind_token ha) (expect_mark (codes "::") a.1) λ m hm.
      right_next (behind_behind (behind_token ha) (behind_token hm)) (inner-right m.1) λ t h. right_ok (record {
        formed = field_type a.0.1 m.0 a.0.0 t.0.tree h.formed;
        takes = ha ∙ (ap (λ l. at (T.Atom a.0.0) a.0.1 ∷ l) (hm ∙ ap (λ l. at (T.Mark (codes "::")) m.0 ∷ l) h.takes) ∙ sym (field_text a.0.1 m.0 a.0.0 t.0.tree t.1));
        measures = h.measures;
        within = h.within;
      })
