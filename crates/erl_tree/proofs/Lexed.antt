-- A text is gone into in one way, so it has one list of tokens or one first fault.
use Rattle.std.proofs.Common.{◌≡◌, ℕ, Bool, true, false, List, [], ◌∷◌, ◌++◌, Option, Some, None, refl, ap, sym, subst, ◌∙◌}
use Rattle.std.specs.Prelude.{◌||◌, ◌==◌, take, encode_utf8_all}
use Rattle.std.proofs.lemmas.List.{append-nil}
use Rattle.erl_tree.specs.declared.token.Place.{Place}
use Rattle.erl_tree.specs.declared.token.Placed.{Placed}
use Rattle.erl_tree.specs.declared.token.Token.{Token}
use Rattle.erl_tree.specs.declared.token.Token.TheVariants as T
use Rattle.erl_tree.specs.Lexis.{is_white, token_of, IsGap, IsLongest, after, start, Spells, SpellsTokens}
use Rattle.erl_tree.specs.Limits.{IsInLimit, IsAboveLimit}
use Rattle.erl_tree.specs.Profile.{begins_gap, outside_form, bad_escape, BeginsWith, IsLexed}
use Rattle.erl_tree.specs.Faults.{FaultKind, outside, wide, escape, no_token, IsFaultAt}
use Rattle.erl_tree.proofs.TokenTexts.{NoGap, token_no_gap}
use Rattle.erl_tree.proofs.Gaps.{one_gap}
use Rattle.erl_tree.proofs.Spelled.{one_text, not_nothing, placed, one_text_of_bytes, bytes_spell_one}
use Rattle.erl_tree.proofs.Escapes.{token_escapes}

-- ---- what is lexed is spelled

pub spelled_from : (before : List Placed) (p : Place) (text : List ℕ) (end : Place) → BeginsWith p text before end [] → Spells p text (before ++ placed T.End end ∷ [])
unfolding BeginsWith Spells
spelled_from [] p text end (gap, e, g, n, o) =
    let k : text ≡ gap = e ∙ append-nil gap in
    (subst (λ (x : List ℕ). IsGap false x []) (sym k) g, refl, o ∙ ap (after p) (sym k))
spelled_from (t ∷ []) p text end (gap, word, more, e, g, h, l, o, f, i, m) = (gap, word, more, e, g, h, l, o, spelled_from [] (after (after p gap) word) more end m)
spelled_from (t ∷ u ∷ ts) p text end (gap, word, more, e, g, h, l, o, f, i, m) = (gap, word, more, e, g, h, l, o, spelled_from (u ∷ ts) (after (after p gap) word) more end m)

pub lexed_is_spelled : (bytes : List ℕ) (tokens : List Placed) → IsLexed bytes tokens → SpellsTokens bytes tokens
lexed_is_spelled bytes tokens h = record {
  characters = h.characters;
  are_characters = h.are_characters;
  encoded = h.encoded;
  spelled = subst (λ (x : List Placed). Spells start h.characters x) (sym h.listed) (spelled_from h.before start h.characters h.end h.spelled);
}

-- ---- how far a text is right

-- no token is there that one goes on from
abbrev pub IsStop : List ℕ → Type 0
IsStop rest = (word more : List ℕ) (t : Token) → rest ≡ word ++ more → token_of word more ≡ Some t → IsLongest word more → outside_form (word ++ more) ≡ None → IsInLimit t → ⊥

or_false : (a b : Bool) → (a || b) ≡ false → (a ≡ false) × (b ≡ false)
or_false true b e = absurd cc
or_false false b e = (refl, e)

pub no_gap_there : (rest : List ℕ) → begins_gap rest ≡ false → NoGap rest
no_gap_there [] h = tt
no_gap_there (c ∷ cs) h =
    let w = or_false (is_white c) (c == 37) h in
    (w.0, λ e. let k : (c == 37) ≡ true = ap (λ x. x == 37) e in absurd (let z : true ≡ false = sym k ∙ w.1 in cc))

same_token : (t u : Token) → ◌≡◌ {A = Option Token} (Some t) (Some u) → t ≡ u
same_token t u e = cc

-- two ways into a text that both stop are one way
pub one_way : (ts us : List Placed) (p : Place) (text : List ℕ) (there here : Place) (rest other : List ℕ)
    → BeginsWith p text ts there rest → BeginsWith p text us here other → IsStop rest → IsStop other → (ts ≡ us) × (there ≡ here) × (rest ≡ other)
unfolding BeginsWith
one_way [] [] p text there here rest other (gap, e, g, n, o) (gap', e', g', n', o') s s' =
    let k = one_gap false gap gap' rest other (sym e ∙ e') g g' (no_gap_there rest n) (no_gap_there other n') in
    (refl, o ∙ (ap (after p) k.0 ∙ sym o'), k.1)
one_way [] (u ∷ us) p text there here rest other (gap, e, g, n, o) (gap', word, more, e', g', h, l, o', f, i, m) s s' =
    let k = one_gap false gap gap' rest (word ++ more) (sym e ∙ e') g g' (no_gap_there rest n) (token_no_gap word more u.token h) in
    absurd (s word more u.token k.1 h l f i)
one_way (t ∷ ts) [] p text there here rest other (gap, word, more, e, g, h, l, o, f, i, m) (gap', e', g', n', o') s s' =
    let k = one_gap false gap gap' (word ++ more) other (sym e ∙ e') g g' (token_no_gap word more t.token h) (no_gap_there other n') in
    absurd (s' word more t.token (sym k.1) h l f i)
one_way (t ∷ ts) (u ∷ us) p text there here rest other (gap, word, more, e, g, h, l, o, f, i, m) (gap', word', more', e', g', h', l', o', f', i', m') s s' =
    let k = one_gap false gap gap' (word ++ more) (word' ++ more') (sym e ∙ e') g g' (token_no_gap word more t.token h) (token_no_gap word' more' u.token h') in
    let w = one_text word more word' more' t.token u.token k.1 h h' l l' in
    let q : after (after p gap') word' ≡ after (after p gap) word = sym (ap (λ x. after (after p x) word) k.0 ∙ ap (after (after p gap')) w.0) in
    let m1 : BeginsWith (after (after p gap) word) more' us here other = subst (λ (x : Place). BeginsWith x more' us here other) q m' in
    let m2 : BeginsWith (after (after p gap) word) more us here other = subst (λ (x : List ℕ). BeginsWith (after (after p gap) word) x us here other) (sym w.1) m1 in
    let r = one_way ts us (after (after p gap) word) more there here rest other m m2 s s' in
    let same : t.token ≡ u.token = same_token t.token u.token (sym h ∙ (cc (w.0, w.1) ∙ h')) in
    let at : t.place ≡ u.place = o ∙ (ap (after p) k.0 ∙ sym o') in
    let first : placed t.token t.place ≡ placed u.token u.place = ap (λ x. placed x t.place) same ∙ ap (placed u.token) at in
    (ap (λ x. x ∷ ts) first ∙ ap (λ l. u ∷ l) r.0, r.1, r.2)

-- ---- where a way stops

pub stops_at_end : IsStop []
stops_at_end word more t e h l f i = not_nothing word more t h (sym e)

pub stops_outside : (rest form : List ℕ) → outside_form rest ≡ Some form → IsStop rest
stops_outside rest form o word more t e h l f i = let k : outside_form rest ≡ None = ap outside_form e ∙ f in absurd cc

pub stops_wide : (word more : List ℕ) (t : Token) → token_of word more ≡ Some t → IsLongest word more → IsAboveLimit t → IsStop (word ++ more)
stops_wide word more t h l a word' more' u e h' l' f i =
    let w = one_text word more word' more' t u e h h' l l' in
    let same : t ≡ u = same_token t u (sym h ∙ (cc (w.0, w.1) ∙ h')) in
    i (subst IsAboveLimit same a)

pub stops_at_escape : (rest : List ℕ) (n : ℕ) → bad_escape rest ≡ Some n → IsStop rest
stops_at_escape rest n b word more t e h l f i = let k : bad_escape rest ≡ None = ap bad_escape e ∙ token_escapes word more t h in absurd cc

pub stops_at_no_token : (rest : List ℕ) → ((word more : List ℕ) (t : Token) → rest ≡ word ++ more → token_of word more ≡ Some t → ⊥) → IsStop rest
stops_at_no_token rest n word more t e h l f i = n word more t e h

-- ---- faults

-- what a fault of this kind at the place p says of the characters that are left at the place `there`
abbrev pub IsFaultOfRest : (there : Place) (rest : List ℕ) (p : Place) → FaultKind → Type 0
IsFaultOfRest there rest p (outside form) = (p ≡ there) × (outside_form rest ≡ Some form)
IsFaultOfRest there rest p wide = (p ≡ there) × (outside_form rest ≡ None) × (word more : List ℕ) × (t : Token) × (rest ≡ word ++ more) × (token_of word more ≡ Some t) × IsLongest word more × IsAboveLimit t
IsFaultOfRest there rest p escape = (outside_form rest ≡ None) × (before : ℕ) × (bad_escape rest ≡ Some before) × (p ≡ after there (take before rest))
IsFaultOfRest there rest p no_token = (p ≡ there) × (outside_form rest ≡ None) × (bad_escape rest ≡ None) × (rest ≡ [] → ⊥)
    × ((word more : List ℕ) (t : Token) → rest ≡ word ++ more → token_of word more ≡ Some t → ⊥)

-- a fault is one of the characters that are left, where a way into the text stops
pub fault_of_rest : (text : List ℕ) (p : Place) (f : FaultKind) → IsFaultAt text p f
    → (ts : List Placed) × (there : Place) × (rest : List ℕ) × BeginsWith start text ts there rest × IsStop rest × IsFaultOfRest there rest p f
fault_of_rest text p (outside form) h = (h.tokens, p, h.rest, h.begins, stops_outside h.rest form h.outside, (refl, h.outside))
fault_of_rest text p wide h =
    (h.right.tokens, p, h.word ++ h.more, h.right.begins, stops_wide h.word h.more h.token h.spelled h.longest h.wide, (refl, h.right.inside, h.word, h.more, h.token, refl, h.spelled, h.longest, h.wide))
fault_of_rest text p escape h =
    (h.right.tokens, h.there, h.rest, h.right.begins, stops_at_escape h.rest h.before h.bad, (h.right.inside, h.before, h.bad, h.placed))
fault_of_rest text p no_token h =
    (h.right.tokens, p, h.rest, h.right.begins, stops_at_no_token h.rest h.no_token, (refl, h.right.inside, h.escapes, h.goes_on, h.no_token))

-- and the other way
pub fault_from_rest : (text : List ℕ) (ts : List Placed) (there : Place) (rest : List ℕ) (p : Place) (f : FaultKind) → BeginsWith start text ts there rest → IsFaultOfRest there rest p f → IsFaultAt text p f
fault_from_rest text ts there rest p (outside form) b h = record { tokens = ts; rest = rest; begins = subst (λ (x : Place). BeginsWith start text ts x rest) (sym h.0) b; outside = h.1 }
fault_from_rest text ts there rest p wide b (q, o, word, more, t, e, i, j, k) =
    let b1 : BeginsWith start text ts p rest = subst (λ (x : Place). BeginsWith start text ts x rest) (sym q) b in
    record {
      word = word;
      more = more;
      token = t;
      right = record { tokens = ts; begins = subst (BeginsWith start text ts p) e b1; inside = ap outside_form (sym e) ∙ o };
      spelled = i;
      longest = j;
      wide = k;
    }
fault_from_rest text ts there rest p escape b (d, n, c, l) = record { there = there; rest = rest; before = n; right = record { tokens = ts; begins = b; inside = d }; bad = c; placed = l }
fault_from_rest text ts there rest p no_token b h =
    record { rest = rest; right = record { tokens = ts; begins = subst (λ (x : Place). BeginsWith start text ts x rest) (sym h.0) b; inside = h.1 }; escapes = h.2; goes_on = h.3; no_token = h.4 }

some_is : {A : Type 0} (x y : A) → ◌≡◌ {A = Option A} (Some x) (Some y) → x ≡ y
some_is x y e = cc

not_some : {A : Type 0} (o : Option A) (x : A) → o ≡ Some x → o ≡ None → ⊥
not_some None x e n = absurd cc
not_some (Some y) x e n = absurd cc

escape_or_token : (rest word more : List ℕ) (t : Token) (n : ℕ) → rest ≡ word ++ more → token_of word more ≡ Some t → bad_escape rest ≡ Some n → ⊥
escape_or_token rest word more t n e h b = not_some (bad_escape rest) n b (ap bad_escape e ∙ token_escapes word more t h)

pub one_fault_of_rest : (there : Place) (rest : List ℕ) (p q : Place) (f g : FaultKind) → IsFaultOfRest there rest p f → IsFaultOfRest there rest q g → (p ≡ q) × (f ≡ g)
one_fault_of_rest there rest p q (outside form) (outside other) h k = (h.0 ∙ sym k.0, ap outside (some_is form other (sym h.1 ∙ k.1)))
one_fault_of_rest there rest p q (outside form) wide h k = absurd (not_some (outside_form rest) form h.1 k.1)
one_fault_of_rest there rest p q (outside form) escape h k = absurd (not_some (outside_form rest) form h.1 k.0)
one_fault_of_rest there rest p q (outside form) no_token h k = absurd (not_some (outside_form rest) form h.1 k.1)
one_fault_of_rest there rest p q wide (outside form) h k = absurd (not_some (outside_form rest) form k.1 h.1)
one_fault_of_rest there rest p q wide wide h k = (h.0 ∙ sym k.0, refl)
one_fault_of_rest there rest p q wide escape (a, b, word, more, t, e, i, j, k) (d, n, c, l) = absurd (escape_or_token rest word more t n e i c)
one_fault_of_rest there rest p q wide no_token (a, b, word, more, t, e, i, j, k) m = absurd (m.4 word more t e i)
one_fault_of_rest there rest p q escape (outside form) h k = absurd (not_some (outside_form rest) form k.1 h.0)
one_fault_of_rest there rest p q escape wide (d, n, c, l) (a, b, word, more, t, e, i, j, k) = absurd (escape_or_token rest word more t n e i c)
one_fault_of_rest there rest p q escape escape (d, n, c, l) (d', n', c', l') = (l ∙ (ap (λ x. after there (take x rest)) (some_is n n' (sym c ∙ c')) ∙ sym l'), refl)
one_fault_of_rest there rest p q escape no_token (d, n, c, l) k = absurd (not_some (bad_escape rest) n c k.2)
one_fault_of_rest there rest p q no_token (outside form) h k = absurd (not_some (outside_form rest) form k.1 h.1)
one_fault_of_rest there rest p q no_token wide h (a, b, word, more, t, e, i, j, k) = absurd (h.4 word more t e i)
one_fault_of_rest there rest p q no_token escape h (d, n, c, l) = absurd (not_some (bad_escape rest) n c h.2)
one_fault_of_rest there rest p q no_token no_token h k = (h.0 ∙ sym k.0, refl)

pub no_fault_at_end : (there p : Place) (f : FaultKind) → IsFaultOfRest there [] p f → ⊥
unfolding outside_form bad_escape
no_fault_at_end there p (outside form) h = let k = h.1 in cc
no_fault_at_end there p wide (a, b, word, more, t, e, i, j, k) = not_nothing word more t i (sym e)
no_fault_at_end there p escape (d, n, c, l) = cc
no_fault_at_end there p no_token h = h.3 refl

-- ---- the answers

-- two first faults of one text are one
pub one_fault : (text : List ℕ) (p q : Place) (f g : FaultKind) → IsFaultAt text p f → IsFaultAt text q g → (p ≡ q) × (f ≡ g)
one_fault text p q f g h k =
    let x = fault_of_rest text p f h in
    let y = fault_of_rest text q g k in
    let w = one_way x.0 y.0 start text x.1 y.1 x.2 y.2 x.3 y.3 x.4 y.4 in
    let a : IsFaultOfRest x.1 y.2 q g = subst (λ (z : Place). IsFaultOfRest z y.2 q g) (sym w.1) y.5 in
    let b : IsFaultOfRest x.1 x.2 q g = subst (λ (z : List ℕ). IsFaultOfRest x.1 z q g) (sym w.2) a in
    one_fault_of_rest x.1 x.2 p q f g x.5 b

-- a text that is lexed has no fault
pub lexed_without_fault : (text : List ℕ) (tokens : List Placed) (p : Place) (f : FaultKind) → IsLexed (encode_utf8_all text) tokens → IsFaultAt text p f → ⊥
lexed_without_fault text tokens p f h k =
    let x = fault_of_rest text p f k in
    let b : BeginsWith start text h.before h.end [] = subst (λ (z : List ℕ). BeginsWith start z h.before h.end []) (one_text_of_bytes (encode_utf8_all text) h.characters text h.encoded refl) h.spelled in
    let w = one_way x.0 h.before start text x.1 h.end x.2 [] x.3 b x.4 stops_at_end in
    no_fault_at_end x.1 p f (subst (λ (z : List ℕ). IsFaultOfRest x.1 z p f) w.2 x.5)

-- bytes are lexed to one list of tokens at most
pub one_lexing : (bytes : List ℕ) (ts us : List Placed) → IsLexed bytes ts → IsLexed bytes us → ts ≡ us
one_lexing bytes ts us h g = bytes_spell_one bytes ts us (lexed_is_spelled bytes ts h) (lexed_is_spelled bytes us g)
