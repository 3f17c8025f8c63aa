-- Types of flat modules: what is well formed in one grammar is so in the other, with the same tokens.
use Rattle.std.proofs.Common.{◌≡◌, refl, ap, ap₂, sym, subst, ◌∙◌, List, [], ◌∷◌, ◌++◌, true, append-nil}
use Rattle.std.specs.Prelude.{Some, None, codes}
use Rattle.std.proofs.lemmas.Bool.{true≢false}
use Rattle.type_terms.specs.Keys.{Name}
use Rattle.erl_tree.specs.declared.token.Place.{Place}
use Rattle.erl_tree.specs.declared.token.Placed.{Placed}
use Rattle.erl_tree.specs.declared.token.Node.{Node}
use Rattle.erl_tree.specs.declared.pattern.LiteralKind.{LiteralKind}
use Rattle.erl_tree.specs.declared.pattern.LiteralKind.TheVariants as L
use Rattle.erl_tree.specs.declared.type_expr.TypeKind.{TypeKind}
use Rattle.erl_tree.specs.declared.type_expr.TypeKind.TheVariants as V
use Rattle.erl_tree.specs.declared.type_expr.TypeKind.TheOpen as Y
use Rattle.flat_modules.specs.Grammar.{node}
use Rattle.flat_modules.specs.Grammar as F
use Rattle.flat_modules.specs.Spelling.{mark}
use Rattle.flat_modules.specs.Spelling as FS
use Rattle.flat_modules.proofs.TreeLaws as FL
use Rattle.erl_grammar.specs.Grammar.{AreSeparators}
use Rattle.erl_grammar.specs.Spelling as GS
use Rattle.erl_grammar.specs.TypeGrammar as G
use Rattle.erl_grammar.specs.TypeSpelling as TS
use Rattle.erl_grammar.proofs.TypeSpellingLaws as TL
use Rattle.flat_modules.specs.Flat.{is_flat_end, is_flat_type}
use Rattle.flat_modules.proofs.Layers.{FlatType, type-parts, type-passes}

-- two texts with a token between them, and with nothing behind them
pub joined : {ts us vs ws : List Placed} (t : Placed) → ts ≡ vs → us ≡ ws → ts ++ t ∷ us ≡ vs ++ t ∷ (ws ++ [])
joined {ws} t e f = ap₂ (λ xs ys. xs ++ t ∷ ys) e (f ∙ sym (append-nil ws))

-- ---- ends of ranges

end-whole_by : (k : LiteralKind) (p : Place) (ms : List Place) → F.is_end_layer k p ms → G.IsRangeEnd (node p ms k)
end-whole_by (L.Int n) p (q ∷ []) h = subst (λ x. G.IsRangeEnd (node x (q ∷ []) (L.Int n))) (sym h) (G.integer_end q n)
end-whole_by (L.NegInt n) p (r ∷ q ∷ []) h = subst (λ x. G.IsRangeEnd (node x (r ∷ q ∷ []) (L.NegInt n))) (sym h) (G.negative_end r q n)
end-whole_by _ p ms h = absurd h

end-whole : (l : Node LiteralKind) → F.IsEnd l → G.IsRangeEnd l
end-whole l h = end-whole_by l.kind l.place l.marks h

end-tokens_by : (k : LiteralKind) (p : Place) (ms : List Place) → F.is_end_layer k p ms → FS.literal_layer k ms ≡ GS.literal_tokens (node p ms k)
end-tokens_by (L.Int n) p (q ∷ []) h = refl
end-tokens_by (L.NegInt n) p (r ∷ q ∷ []) h = refl
end-tokens_by _ p ms h = absurd h

end-tokens : (l : Node LiteralKind) → F.IsEnd l → FS.literal_tokens l ≡ GS.literal_tokens l
end-tokens l h = end-tokens_by l.kind l.place l.marks h

end-passes_by : (k : LiteralKind) (p : Place) (ms : List Place) → F.is_end_layer k p ms → is_flat_end k ≡ true
end-passes_by (L.Int n) p ms h = refl
end-passes_by (L.NegInt n) p ms h = refl
end-passes_by _ p ms h = absurd h

end-passes : (l : Node LiteralKind) → F.IsEnd l → is_flat_end l.kind ≡ true
end-passes l h = end-passes_by l.kind l.place l.marks h

end-flat : (l : Node LiteralKind) → G.IsRangeEnd l → is_flat_end l.kind ≡ true → F.IsEnd l
end-flat _ (G.integer_end p n) f = refl
end-flat _ (G.negative_end h p n) f = refl
end-flat _ (G.character_end p c) f = absurd (true≢false (sym f))

-- ---- from the grammar of flat modules

mutual
  pub type-whole : (t : Node TypeKind) → F.IsType t → G.IsType t
  type-whole _ (F.one_type t h) = G.one_type t (simple-whole t h)
  type-whole _ (F.union t u m h k) = G.union t u m (simple-whole t h) (type-whole u k)

  simple-whole : (t : Node TypeKind) → F.IsSimpleType t → G.IsSimpleType t
  simple-whole _ (F.atom_type p a) = G.atom_type p a
  simple-whole _ (F.integer_type p n) = G.integer_type p n
  simple-whole _ (F.negative_type h p n) = G.negative_type h p n
  simple-whole _ (F.range_type low high m h k) = G.range low high m (end-whole low h) (end-whole high k)
  simple-whole _ (F.use_type p o c name) = G.used_type p o c [] name [] tt (λ t i. absurd i)
  simple-whole _ (F.paren_type o c t h) = G.paren_type o c t (type-whole t h)

mutual
  pub type-tokens : (t : Node TypeKind) → F.IsType t → FS.type_tokens t ≡ TS.type_tokens t
  type-tokens _ (F.one_type t h) = simple-tokens t h
  type-tokens _ (F.union t u m h k) = FL.type_shown-Or t u m ∙ (joined (mark (codes "|") m) (simple-tokens t h) (type-tokens u k) ∙ sym (TL.type_shown-Or t u (m ∷ [])))

  simple-tokens : (t : Node TypeKind) → F.IsSimpleType t → FS.type_tokens t ≡ TS.type_tokens t
  simple-tokens _ (F.atom_type p a) = FL.type_shown-Atom a p ∙ sym (TL.type_shown-Atom a (p ∷ []))
  simple-tokens _ (F.integer_type p n) = FL.type_shown-Int n p ∙ sym (TL.type_shown-Int n (p ∷ []))
  simple-tokens _ (F.negative_type h p n) = FL.type_shown-NegInt n h p ∙ sym (TL.type_shown-NegInt n (h ∷ p ∷ []))
  simple-tokens _ (F.range_type low high m h k) = FL.type_shown-Range low high m ∙ (joined (mark (codes "..") m) (end-tokens low h) (end-tokens high k) ∙ sym (TL.type_shown-Range low high (m ∷ [])))
  simple-tokens _ (F.use_type p o c name) = FL.type_shown-Use name p o c ∙ sym (TL.type_shown-Use None name [] (p ∷ o ∷ c ∷ []))
  simple-tokens _ (F.paren_type o c t h) = FL.type_shown-Paren t o c ∙ (ap (λ ts. mark (codes "(") o ∷ (ts ++ mark (codes ")") c ∷ [])) (type-tokens t h) ∙ sym (TL.type_shown-Paren t (o ∷ c ∷ [])))

mutual
  pub type-passing : (t : Node TypeKind) → F.IsType t → is_flat_type t ≡ true
  type-passing _ (F.one_type t h) = simple-passing t h
  type-passing _ (F.union t u m h k) = type-passes (V.Or t u) (Y.Or t u) (V.outs-Or t u) (simple-passing t h, type-passing u k)

  simple-passing : (t : Node TypeKind) → F.IsSimpleType t → is_flat_type t ≡ true
  simple-passing _ (F.atom_type p a) = type-passes (V.Atom a) (Y.Atom a) (V.outs-Atom a) tt
  simple-passing _ (F.integer_type p n) = type-passes (V.Int n) (Y.Int n) (V.outs-Int n) tt
  simple-passing _ (F.negative_type h p n) = type-passes (V.NegInt n) (Y.NegInt n) (V.outs-NegInt n) tt
  simple-passing _ (F.range_type low high m h k) = type-passes (V.Range low high) (Y.Range low high) (V.outs-Range low high) (end-passes low h, end-passes high k)
  simple-passing _ (F.use_type p o c name) = type-passes (V.Use None name []) (Y.Use None name []) (V.outs-Use None name []) tt
  simple-passing _ (F.paren_type o c t h) = type-passes (V.Paren t) (Y.Paren t) (V.outs-Paren t) (type-passing t h)

-- ---- from the grammar of all modules

used-flat : (n o c : Place) (ms : List Place) (name : Name) (args : List (Node TypeKind)) → AreSeparators args ms → FlatType (Y.Use None name args) → F.IsSimpleType (node n (n ∷ o ∷ (ms ++ c ∷ [])) (V.Use None name args))
used-flat n o c [] name [] g f = F.use_type n o c name
used-flat n o c (m ∷ ms) name [] g f = absurd g
used-flat n o c ms name (t ∷ ts) g f = absurd f

mutual
  pub type-flat : (t : Node TypeKind) → G.IsType t → is_flat_type t ≡ true → F.IsType t
  type-flat _ (G.one_type t h) f = F.one_type t (simple-flat t h f)
  type-flat _ (G.union t u m h k) f =
      let p : FlatType (Y.Or t u) = type-parts (V.Or t u) (Y.Or t u) (V.outs-Or t u) f in
      F.union t u m (simple-flat t h p.0) (type-flat u k p.1)

  simple-flat : (t : Node TypeKind) → G.IsSimpleType t → is_flat_type t ≡ true → F.IsSimpleType t
  simple-flat _ (G.atom_type p a) f = F.atom_type p a
  simple-flat _ (G.integer_type p n) f = F.integer_type p n
  simple-flat _ (G.negative_type h p n) f = F.negative_type h p n
  simple-flat _ (G.character_type p c) f = absurd (type-parts (V.Char c) (Y.Char c) (V.outs-Char c) f)
  simple-flat _ (G.variable_type p x) f = absurd (type-parts (V.Var x) (Y.Var x) (V.outs-Var x) f)
  simple-flat _ (G.paren_type o c t h) f = F.paren_type o c t (type-flat t h (type-parts (V.Paren t) (Y.Paren t) (V.outs-Paren t) f))
  simple-flat _ (G.range low high m h k) f =
      let p : FlatType (Y.Range low high) = type-parts (V.Range low high) (Y.Range low high) (V.outs-Range low high) f in
      F.range_type low high m (end-flat low h p.0) (end-flat high k p.1)
  simple-flat _ (G.used_type n o c ms name args g h) f = used-flat n o c ms name args g (type-parts (V.Use None name args) (Y.Use None name args) (V.outs-Use None name args) f)
  simple-flat _ (G.set_operation p d n o c ms name args i g h) f = absurd (type-parts (V.Use (Some (codes "ety")) name args) (Y.Use (Some (codes "ety")) name args) (V.outs-Use (Some (codes "ety")) name args) f)
  simple-flat _ (G.nil_type o c) f = absurd (type-parts V.Nil Y.Nil V.outs-Nil f)
  simple-flat _ (G.list_type o c t h) f = absurd (type-parts (V.ListOf t) (Y.ListOf t) (V.outs-ListOf t) f)
  simple-flat _ (G.nonempty_list_type o m d c t h) f = absurd (type-parts (V.NonEmpty t) (Y.NonEmpty t) (V.outs-NonEmpty t) f)
  simple-flat _ (G.tuple_type o c ms ts g h) f = absurd (type-parts (V.Tuple ts) (Y.Tuple ts) (V.outs-Tuple ts) f)
  simple-flat _ (G.map_type h o c ms parts g k) f = absurd (type-parts (V.Map parts) (Y.Map parts) (V.outs-Map parts) f)
  simple-flat _ (G.any_fun_type p o c) f = absurd (type-parts V.FunAll Y.FunAll V.outs-FunAll f)
  simple-flat _ (G.fun_type p o q r a c ms params result i g h k) f = absurd (type-parts (V.Fun params result) (Y.Fun params result) (V.outs-Fun params result) f)
  simple-flat _ (G.record_type h n o c ms name fields g k) f = absurd (type-parts (V.Rec name name fields) (Y.Rec name name fields) (V.outs-Rec name name fields) f)

pub parameter-flat : (t : Node TypeKind) → G.IsParameter t → is_flat_type t ≡ true → F.IsType t
parameter-flat _ (G.unnamed t h) f = type-flat t h f
parameter-flat _ (G.named p m x t h) f = absurd (type-parts (V.Named x t) (Y.Named x t) (V.outs-Named x t) f)
