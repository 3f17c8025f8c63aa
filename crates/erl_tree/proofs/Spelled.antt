-- What characters spell is one list of tokens: a gap and a longest text determine the first, and what follows the others.
use Rattle.std.proofs.Common.{◌≡◌, ℕ, ◌≤◌, false, List, [], ◌∷◌, ◌++◌, length, Option, Some, refl, ap, sym, subst, ◌∙◌, arith}
use Rattle.std.specs.Prelude.{encode_utf8_all}
use Rattle.std.proofs.lemmas.List.{append-nil}
use Rattle.std.proofs.lemmas.Str.{encodes_same}
use Rattle.erl_tree.specs.declared.token.Place.{Place}
use Rattle.erl_tree.specs.declared.token.Placed.{Placed}
use Rattle.erl_tree.specs.declared.token.Token.{Token}
use Rattle.erl_tree.specs.declared.token.Token.TheVariants as T
use Rattle.erl_tree.specs.Lexis.{token_of, IsGap, IsLongest, after, start, Spells, SpellsTokens}
use Rattle.erl_tree.proofs.TokenTexts.{token_is_text, token_no_gap, empty_has_none}
use Rattle.erl_tree.proofs.Gaps.{cons_is, one_gap}

same_split : (a b x y : List ℕ) → a ++ x ≡ b ++ y → length a ≡ length b → (a ≡ b) × (x ≡ y)
same_split [] [] x y e n = (refl, e)
same_split [] (b ∷ bs) x y e n = absurd (omega arith)
same_split (a ∷ xs) [] x y e n = absurd (omega arith)
same_split (a ∷ xs) (b ∷ bs) x y e n = let s = cons_is a b (xs ++ x) (bs ++ y) e in let r = same_split xs bs x y s.1 (omega arith) in (cc (s.0, r.0), r.1)

-- the longest texts at one place are one
pub one_text : (text rest other more : List ℕ) (t u : Token) → text ++ rest ≡ other ++ more → token_of text rest ≡ Some t → token_of other more ≡ Some u → IsLongest text rest → IsLongest other more → (text ≡ other) × (rest ≡ more)
one_text text rest other more t u e h g n m =
    let a : length other ≤ length text = n other more e (token_is_text other more u g) in
    let b : length text ≤ length other = m text rest (sym e) (token_is_text text rest t h) in
    same_split text other rest more e (omega arith)

abbrev pub placed : Token → Place → Placed
placed t p = record { token = t; place = p }

abbrev option : Token → Option Token
option t = Some t

option_is : (t u : Token) → option t ≡ option u → t ≡ u
option_is t u e = cc

pub not_nothing : (text rest : List ℕ) (t : Token) → token_of text rest ≡ Some t → text ++ rest ≡ [] → ⊥
not_nothing [] rest t h e = empty_has_none rest t h
not_nothing (c ∷ cs) rest t h e = cc

-- what else begins with this gap and text begins with this token, and goes on from there
pub spells_only : (p : Place) (gap text rest : List ℕ) (t : Token) (ts : List Placed) → IsGap false gap (text ++ rest) → token_of text rest ≡ Some t → IsLongest text rest
    → Spells p (gap ++ (text ++ rest)) ts → (us : List Placed) × (ts ≡ placed t (after p gap) ∷ us) × Spells (after (after p gap) text) rest us
unfolding Spells
spells_only p gap text rest t [] h g n m = absurd m
spells_only p gap text rest t (u ∷ []) h g n m =
    let k = one_gap false gap (gap ++ (text ++ rest)) (text ++ rest) [] (sym (append-nil (gap ++ (text ++ rest)))) h m.0 (token_no_gap text rest t g) tt in
    absurd (not_nothing text rest t g k.1)
spells_only p gap text rest t (u ∷ v ∷ us) h g n (gap', text', rest', e, i, j, o, q, m) =
    let k = one_gap false gap gap' (text ++ rest) (text' ++ rest') e h i (token_no_gap text rest t g) (token_no_gap text' rest' u.token j) in
    let w = one_text text rest text' rest' t u.token k.1 g j n o in
    let same : t ≡ u.token = option_is t u.token (sym g ∙ (cc (w.0, w.1) ∙ j)) in
    let there : placed u.token u.place ≡ placed t (after p gap) = ap (λ x. placed x u.place) (sym same) ∙ ap (placed t) (q ∙ ap (after p) (sym k.0)) in
    let m1 : Spells (after (after p gap) text') rest' (v ∷ us) = subst (λ (x : List ℕ). Spells (after (after p x) text') rest' (v ∷ us)) (sym k.0) m in
    let m2 : Spells (after (after p gap) text) rest' (v ∷ us) = subst (λ (x : List ℕ). Spells (after (after p gap) x) rest' (v ∷ us)) (sym w.0) m1 in
    (v ∷ us, ap (λ x. x ∷ v ∷ us) there, subst (λ (x : List ℕ). Spells (after (after p gap) text) x (v ∷ us)) (sym w.1) m2)

-- after a gap alone comes the end
pub only_end : (p : Place) (text : List ℕ) (ts : List Placed) → IsGap false text [] → Spells p text ts → ts ≡ placed T.End (after p text) ∷ []
unfolding Spells
only_end p text [] h m = absurd m
only_end p text (t ∷ []) h m =
    let there : placed t.token t.place ≡ placed T.End (after p text) = ap (λ x. placed x t.place) m.1 ∙ ap (placed T.End) m.2 in
    ap (λ x. x ∷ []) there
only_end p text (t ∷ u ∷ us) h (gap, word, rest, e, i, j, o, q, m) =
    let k = one_gap false text gap [] (word ++ rest) (append-nil text ∙ e) h i tt (token_no_gap word rest t.token j) in
    absurd (not_nothing word rest t.token j (sym k.1))

pub one_spelling : (ts us : List Placed) (p : Place) (text : List ℕ) → Spells p text ts → Spells p text us → ts ≡ us
unfolding Spells
one_spelling [] us p text h g = absurd h
one_spelling (t ∷ []) us p text h g = only_end p text (t ∷ []) h.0 h ∙ sym (only_end p text us h.0 g)
one_spelling (t ∷ u ∷ ts) us p text (gap, word, rest, e, i, j, o, q, m) g =
    let r = spells_only p gap word rest t.token us i j o (subst (λ (x : List ℕ). Spells p x us) e g) in
    let ih = one_spelling (u ∷ ts) r.0 (after (after p gap) word) rest m r.2 in
    let there : placed t.token t.place ≡ placed t.token (after p gap) = ap (placed t.token) q in
    (ap (λ x. x ∷ u ∷ ts) there ∙ ap (λ l. placed t.token (after p gap) ∷ l) ih) ∙ sym r.1

-- bytes are the UTF-8 of one list of characters at most
pub one_text_of_bytes : (bytes cs ds : List ℕ) → encode_utf8_all cs ≡ bytes → encode_utf8_all ds ≡ bytes → cs ≡ ds
one_text_of_bytes bytes cs ds e f = encodes_same cs ds (e ∙ sym f)

pub bytes_spell_one : (bytes : List ℕ) (ts us : List Placed) → SpellsTokens bytes ts → SpellsTokens bytes us → ts ≡ us
bytes_spell_one bytes ts us h g =
    one_spelling ts us start g.characters (subst (λ (x : List ℕ). Spells start x ts) (one_text_of_bytes bytes h.characters g.characters h.encoded g.encoded) h.spelled) g.spelled
