-- What is the text of a token has no backslash that heads no escape.
use Rattle.std.proofs.Common.{◌≡◌, ℕ, Bool, true, false, List, [], ◌∷◌, ◌++◌, Option, Some, None, refl, ap, ◌∙◌}
use Rattle.std.specs.Prelude.{not, ◌==◌}
use Rattle.std.proofs.lemmas.Bool.{eqb-true}
use Rattle.erl_tree.specs.declared.token.Token.{Token}
use Rattle.erl_tree.specs.Lexis.{is_escape, is_quoted, is_character, token_of}
use Rattle.erl_tree.specs.Profile.{further, bad_in_quotes, bad_in_character, bad_escape}
use Rattle.erl_tree.proofs.TokenTexts.{and_true, when_holds, empty_has_none}

further_none : (n : ℕ) (o : Option ℕ) → o ≡ None → further n o ≡ None
further_none n None e = refl
further_none n (Some m) e = absurd cc

-- ---- quoted texts

closes : (quote c : ℕ) (more : List ℕ) → (quote == 92) ≡ false → (c == quote) ≡ true → bad_in_quotes quote (c ∷ more) ≡ None
closes quote c [] q e = rw (eqb-true c quote e, q) refl
closes quote c (d ∷ ds) q e = let k : c ≡ quote = eqb-true c quote e in let n : (c == 92) ≡ false = ap (λ x. x == 92) k ∙ q in rw (n, e) refl

quoted_step : (quote c d : ℕ) (cs rest : List ℕ) (backslash closed heads : Bool) → (c == 92) ≡ backslash → (c == quote) ≡ closed → is_escape d ≡ heads
    → is_quoted quote (c ∷ d ∷ cs) ≡ true
    → (is_quoted quote cs ≡ true → bad_in_quotes quote rest ≡ None) → (is_quoted quote (d ∷ cs) ≡ true → bad_in_quotes quote (d ∷ rest) ≡ None)
    → bad_in_quotes quote (c ∷ d ∷ rest) ≡ None
quoted_step quote c d cs rest true closed true e f g h a b =
    let k : is_quoted quote cs ≡ true = rw (e, g) at h in
    rw (e, g) (further_none 2 (bad_in_quotes quote rest) (a k))
quoted_step quote c d cs rest true closed false e f g h a b = let k : false ≡ true = rw (e, g) at h in absurd cc
quoted_step quote c d cs rest false true heads e f g h a b = let k : false ≡ true = rw (e, f) at h in absurd cc
quoted_step quote c d cs rest false false heads e f g h a b =
    let k : is_quoted quote (d ∷ cs) ≡ true = rw (e, f) at h in
    rw (e, f) (further_none 1 (bad_in_quotes quote (d ∷ rest)) (b k))

quoted_right : (quote : ℕ) (cs more : List ℕ) → (quote == 92) ≡ false → is_quoted quote cs ≡ true → bad_in_quotes quote (cs ++ more) ≡ None
quoted_right quote [] more q h = absurd cc
quoted_right quote (c ∷ []) more q h = closes quote c more q h
quoted_right quote (c ∷ d ∷ cs) more q h =
    quoted_step quote c d cs (cs ++ more) (c == 92) (c == quote) (is_escape d) refl refl refl h (quoted_right quote cs more q) (quoted_right quote (d ∷ cs) more q)

-- ---- characters

not_true : (b : Bool) → not b ≡ true → b ≡ false
not_true true e = absurd cc
not_true false e = refl

character_right : (cs more : List ℕ) → is_character cs ≡ true → bad_in_character (cs ++ more) ≡ None
character_right [] more h = absurd cc
character_right (c ∷ []) [] h = rw (not_true (c == 92) h) refl
character_right (c ∷ []) (d ∷ ds) h = rw (not_true (c == 92) h) refl
character_right (c ∷ d ∷ []) more h = let w = and_true (c == 92) (is_escape d) h in rw (w.0, w.1) refl
character_right (c ∷ d ∷ e ∷ cs) more h = absurd cc

-- ---- tokens

at_39 : (cs more : List ℕ) (t : Token) → token_of (39 ∷ cs) more ≡ Some t → bad_escape (39 ∷ (cs ++ more)) ≡ None
unfolding token_of bad_escape
at_39 cs more t h = further_none 1 (bad_in_quotes 39 (cs ++ more)) (quoted_right 39 cs more refl (when_holds (is_quoted 39 cs) _ t h).0)

at_34 : (cs more : List ℕ) (t : Token) → token_of (34 ∷ cs) more ≡ Some t → bad_escape (34 ∷ (cs ++ more)) ≡ None
unfolding token_of bad_escape
at_34 cs more t h = further_none 1 (bad_in_quotes 34 (cs ++ more)) (quoted_right 34 cs more refl (when_holds (is_quoted 34 cs) _ t h).0)

at_36 : (cs more : List ℕ) (t : Token) → token_of (36 ∷ cs) more ≡ Some t → bad_escape (36 ∷ (cs ++ more)) ≡ None
unfolding token_of bad_escape
at_36 cs more t h = further_none 1 (bad_in_character (cs ++ more)) (character_right cs more (when_holds (is_character cs) _ t h).0)

by_head : (c : ℕ) (cs more : List ℕ) (t : Token) (single double dollar : Bool) → (c == 39) ≡ single → (c == 34) ≡ double → (c == 36) ≡ dollar
    → token_of (c ∷ cs) more ≡ Some t → bad_escape (c ∷ (cs ++ more)) ≡ None
unfolding bad_escape
by_head c cs more t true double dollar e f g h = let k : c ≡ 39 = eqb-true c 39 e in let z : token_of (39 ∷ cs) more ≡ Some t = rw k at h in ap (λ x. bad_escape (x ∷ (cs ++ more))) k ∙ at_39 cs more t z
by_head c cs more t false true dollar e f g h = let k : c ≡ 34 = eqb-true c 34 f in let z : token_of (34 ∷ cs) more ≡ Some t = rw k at h in ap (λ x. bad_escape (x ∷ (cs ++ more))) k ∙ at_34 cs more t z
by_head c cs more t false false true e f g h = let k : c ≡ 36 = eqb-true c 36 g in let z : token_of (36 ∷ cs) more ≡ Some t = rw k at h in ap (λ x. bad_escape (x ∷ (cs ++ more))) k ∙ at_36 cs more t z
by_head c cs more t false false false e f g h = rw (e, f, g) refl

-- where a token stands, no bad escape does
pub token_escapes : (word more : List ℕ) (t : Token) → token_of word more ≡ Some t → bad_escape (word ++ more) ≡ None
token_escapes [] more t h = absurd (empty_has_none more t h)
token_escapes (c ∷ cs) more t h = by_head c cs more t (c == 39) (c == 34) (c == 36) refl refl refl h
