-- Specs of flat modules: what is well formed in one grammar is so in the other, with the same tokens.
use Rattle.std.proofs.Common.{◌≡◌, refl, ap, sym, subst, ◌∙◌, List, [], ◌∷◌, ◌++◌, map, length, inl, true, ◌&&◌, append_assoc}
use Rattle.std.specs.Prelude.{codes}
use Rattle.std.specs.List.{list_all}
use Rattle.std.proofs.lemmas.Bool.{and_parts, and_from, true≢false}
use Rattle.type_terms.specs.Keys.{Name}
use Rattle.erl_tree.specs.Lists.{Every, Among}
use Rattle.erl_tree.specs.declared.token.Place.{Place}
use Rattle.erl_tree.specs.declared.token.Placed.{Placed}
use Rattle.erl_tree.specs.declared.token.Node.{Node}
use Rattle.erl_tree.specs.declared.token.Token.TheVariants as T
use Rattle.erl_tree.specs.declared.type_expr.TypeKind.{TypeKind}
use Rattle.erl_tree.specs.declared.form.SpecKind.{SpecKind}
use Rattle.erl_tree.specs.declared.form.SpecClauseKind.{SpecClauseKind}
use Rattle.flat_modules.specs.Grammar.{node, AreParamMarks}
use Rattle.flat_modules.specs.Grammar as F
use Rattle.flat_modules.specs.Spelling.{at, atom, mark, params_tokens}
use Rattle.flat_modules.specs.Spelling as FS
use Rattle.erl_grammar.specs.Pieces.{inner, fill, commas}
use Rattle.erl_grammar.specs.Pieces as P
use Rattle.erl_grammar.specs.Grammar.{AreSeparators, IsArity}
use Rattle.erl_grammar.specs.TypeGrammar.{IsType, IsParameter, unnamed}
use Rattle.erl_grammar.specs.TypeSpelling as TS
use Rattle.erl_grammar.specs.FormGrammar as G
use Rattle.erl_grammar.specs.FormSpelling as GS
use Rattle.erl_grammar.proofs.Layers.{each}
use Rattle.flat_modules.specs.Flat.{has_none, is_flat_type, is_flat_spec_clause, is_flat_spec}
use Rattle.flat_modules.proofs.Lists.{every, every-so, all-among, all-every, map-same, length-map, HaveParamMarks, param-marks, marks-of-params, params-filled}
use Rattle.flat_modules.proofs.Shapes.{SpecClauseShape, spec_clause, spec_clause_node, SpecShape, spec, spec_shape}
use Rattle.flat_modules.proofs.TypeLaws.{type-whole, type-tokens, type-passing, type-flat, parameter-flat}

-- ---- from the grammar of flat modules

clause-whole : (c : Node SpecClauseKind) → SpecClauseShape c → G.IsSpecClause c
clause-whole _ (spec_clause o ts ms t h a m k) =
    let r : HaveParamMarks ts ms = param-marks ts ms m in
    subst (λ ns. G.IsSpecClause (spec_clause_node o ts ns t)) (sym r.in_turn)
    (G.spec_clause o r.close r.arrow r.separators [] ts t [] a r.between (each IsParameter ts (every-so F.IsType IsParameter ts (λ u i. unnamed u (type-whole u i)) h)) (type-whole t k) G.no_bounds)

-- a list of parameters has as many texts
pub text-marks : {A : Type 0} (say : A → List Placed) (xs : List A) (ms : List Place) → AreParamMarks (length xs) ms → AreParamMarks (length (map say xs)) ms
text-marks say xs ms h = subst (λ n. AreParamMarks n ms) (sym (length-map say xs)) h

params-tokens : (ts : List (Node TypeKind)) (ms : List Place) (t : Node TypeKind) → Every F.IsType ts → AreParamMarks (length ts) ms → F.IsType t
    → params_tokens (map FS.type_tokens ts) ms (FS.type_tokens t) ≡ fill ((commas (map TS.type_tokens ts) ++ P.mark (codes ")") ∷ []) ++ P.mark (codes "->") ∷ inner (TS.type_tokens t) ∷ []) ms
params-tokens ts ms t h m k =
    ap (λ us. params_tokens (map FS.type_tokens ts) ms us) (type-tokens t k)
    ∙ (ap (λ xs. params_tokens xs ms (TS.type_tokens t)) (map-same FS.type_tokens TS.type_tokens ts (each (λ u. FS.type_tokens u ≡ TS.type_tokens u) ts (every-so F.IsType (λ u. FS.type_tokens u ≡ TS.type_tokens u) ts type-tokens h)))
    ∙ (params-filled (map TS.type_tokens ts) ms (TS.type_tokens t) (text-marks TS.type_tokens ts ms m)
    ∙ ap (λ pieces. fill pieces ms) (sym (append_assoc (commas (map TS.type_tokens ts)) (P.mark (codes ")") ∷ []) (P.mark (codes "->") ∷ inner (TS.type_tokens t) ∷ [])))))

clause-tokens : (c : Node SpecClauseKind) → SpecClauseShape c → FS.spec_clause_tokens c ≡ GS.spec_clause_tokens c
clause-tokens _ (spec_clause o ts ms t h a m k) = ap (λ us. mark (codes "(") o ∷ us) (params-tokens ts ms t h m k)

clause-passing : (c : Node SpecClauseKind) → SpecClauseShape c → is_flat_spec_clause c ≡ true
clause-passing _ (spec_clause o ts ms t h a m k) = and_from _ _ (all-every is_flat_type ts (every-so F.IsType (λ u. is_flat_type u ≡ true) ts type-passing h)) (type-passing t k)

spec_whole : (s : Node SpecKind) → SpecShape s → G.IsSpec s
spec_whole _ (spec h s n d name c i) = G.spec h s n d [] name c [] tt (each G.IsSpecClause (c ∷ []) (clause-whole c i, tt))

pub spec-whole : (s : Node SpecKind) → F.IsSpec s → G.IsSpec s
spec-whole s h = spec_whole s (spec_shape s h)

spec_tokens : (s : Node SpecKind) → SpecShape s → FS.spec_tokens s ≡ GS.spec_tokens s
spec_tokens _ (spec h s n d name c i) = ap (λ us. mark (codes "-") h ∷ atom (codes "spec") s ∷ atom name n ∷ (us ++ at T.Dot d ∷ [])) (clause-tokens c i)

pub spec-tokens : (s : Node SpecKind) → F.IsSpec s → FS.spec_tokens s ≡ GS.spec_tokens s
spec-tokens s h = spec_tokens s (spec_shape s h)

spec_passing : (s : Node SpecKind) → SpecShape s → is_flat_spec s ≡ true
spec_passing _ (spec h s n d name c i) = clause-passing c i

pub spec-passing : (s : Node SpecKind) → F.IsSpec s → is_flat_spec s ≡ true
spec-passing s h = spec_passing s (spec_shape s h)

-- ---- from the grammar of all modules

params-flat : (ts : List (Node TypeKind)) → ((t : Node TypeKind) → Among t ts → IsParameter t) → list_all is_flat_type ts ≡ true → Every F.IsType ts
params-flat ts h f = every F.IsType ts (λ t i. parameter-flat t (h t i) (all-among is_flat_type ts f t i))

clause_flat : (o c a : Place) (ms bs : List Place) (params : List (Node TypeKind)) (result : Node TypeKind) (bounds : List (Name × Node TypeKind)) → IsArity params → AreSeparators params ms → ((t : Node TypeKind) → Among t params → IsParameter t) → IsType result → G.AreBounds bounds bs
    → (has_none bounds && (list_all is_flat_type params && is_flat_type result)) ≡ true → F.is_spec_clause_layer (record { params = params; result = result; bounds = bounds }) o (o ∷ (ms ++ c ∷ a ∷ bs))
clause_flat o c a ms _ params result _ i g h k G.no_bounds f =
    let p : (list_all is_flat_type params ≡ true) × (is_flat_type result ≡ true) = and_parts _ _ f in
    (refl, params-flat params h p.0, i, marks-of-params params ms c a g, type-flat result k p.1, refl)
clause_flat o c a ms _ params result _ i g h k (G.bounds w ns [] x y) f = absurd x
clause_flat o c a ms _ params result _ i g h k (G.bounds w ns (b ∷ bs) x y) f = absurd (true≢false (sym f))

clause-flat : (c : Node SpecClauseKind) → G.IsSpecClause c → is_flat_spec_clause c ≡ true → F.IsSpecClause c
clause-flat _ (G.spec_clause o c a ms bs params result bounds i g h k b) f = clause_flat o c a ms bs params result bounds i g h k b f

spec_flat : (h w n p : Place) (ms : List Place) (name : Name) (c : Node SpecClauseKind) (cs : List (Node SpecClauseKind)) → AreSeparators (c ∷ cs) ms → G.IsSpecClause c → is_flat_spec (node h (h ∷ w ∷ n ∷ (ms ++ p ∷ [])) (record { name = name; clauses = c ∷ cs })) ≡ true
    → F.IsSpec (node h (h ∷ w ∷ n ∷ (ms ++ p ∷ [])) (record { name = name; clauses = c ∷ cs }))
spec_flat h w n p [] name c [] g i f = (refl, clause-flat c i f)
spec_flat h w n p (m ∷ ms) name c [] g i f = absurd g
spec_flat h w n p ms name c (d ∷ ds) g i f = absurd (true≢false (sym f))

pub spec-flat : (s : Node SpecKind) → G.IsSpec s → is_flat_spec s ≡ true → F.IsSpec s
spec-flat _ (G.spec h w n p ms name c cs g i) f = spec_flat h w n p ms name c cs g (i c (inl refl)) f
