-- What is found at the front of a text is the text of a token, and no other is longer.
use Rattle.std.proofs.Common.{◌≡◌, ℕ, zero, suc, ◌+◌, ◌≤◌, subst, Bool, true, false, List, [], ◌∷◌, ◌++◌, length, take, drop, Option, Some, None, refl, ap, sym, ◌∙◌, arith, inl, inr}
use Rattle.std.specs.Prelude.{◌||◌, if◌then◌else◌}
use Rattle.std.proofs.Math.Dec.{eqb}
use Rattle.std.proofs.lemmas.Bool.{eqb-true}
use Rattle.std.proofs.lemmas.List.{take-append-drop, length-take}
use Rattle.erl_tree.specs.declared.token.Token.{Token}
use Rattle.erl_tree.specs.Lexis.{every, is_lower, is_upper, is_digit, is_name, is_mark, is_quoted, is_character, is_grouped, is_based, is_token_text, IsLongest, token_of}
use Rattle.erl_tree.specs.Profile.{further, bad_escape, bad_in_quotes, bad_in_character}
use Rattle.erl_tree.proofs.TokenTexts.{and_true, token_is_text}
use Rattle.erl_lexer.specs.Scan.{run, integer_length, quoted_run, character_run, mark_length, some_length, length_by}
use Rattle.erl_lexer.proofs.Marks.{mark_is, mark_covers}
use Rattle.erl_lexer.proofs.IntegerTexts.{integer_covers, integer_is, integer_some, further_is, some_is}
use Rattle.erl_lexer.proofs.QuotedTexts.{quoted_covers, quoted_is, character_covers, character_is}

-- ---- runs

pub run_max : (p : ℕ → Bool) (a b : List ℕ) → every p a ≡ true → length a ≤ run p (a ++ b)
run_max p [] b h = omega arith
run_max p (c ∷ cs) b h = let w = and_true (p c) (every p cs) h in rw w.0 (omega (arith, run_max p cs b w.1))

run_every_by : (p : ℕ → Bool) (c : ℕ) (cs : List ℕ) (b : Bool) → p c ≡ b → every p (take (run p cs) cs) ≡ true → every p (take (if b then (suc (run p cs)) else 0) (c ∷ cs)) ≡ true
run_every_by p c cs true e h = rw (e, h) refl
run_every_by p c cs false e h = refl

pub run_every : (p : ℕ → Bool) (cs : List ℕ) → every p (take (run p cs) cs) ≡ true
run_every p [] = refl
run_every p (c ∷ cs) = run_every_by p c cs (p c) refl (run_every p cs)

run_le_by : (b : Bool) (n m : ℕ) → n ≤ m → (if b then suc n else 0) ≤ suc m
run_le_by true n m h = omega arith
run_le_by false n m h = omega arith

pub run_le : (p : ℕ → Bool) (cs : List ℕ) → run p cs ≤ length cs
run_le p [] = omega arith
run_le p (c ∷ cs) = run_le_by (p c) (run p cs) (length cs) (run_le p cs)

-- ---- the length, by the kind of the first character

abbrev Character : Type 0
Character = List ℕ → Option ℕ

pub length_lower : (ch : Character) (c : ℕ) (cs : List ℕ) → is_lower c ≡ true → length_by ch (c ∷ cs) ≡ Some (suc (run is_name cs))
unfolding length_by
length_lower ch c cs h = rw h refl

pub length_upper : (ch : Character) (c : ℕ) (cs : List ℕ) → is_lower c ≡ false → is_upper c ≡ true → length_by ch (c ∷ cs) ≡ Some (suc (run is_name cs))
unfolding length_by
length_upper ch c cs h i = rw (h, i) refl

pub length_digit : (ch : Character) (c : ℕ) (cs : List ℕ) → is_lower c ≡ false → is_upper c ≡ false → is_digit c ≡ true → length_by ch (c ∷ cs) ≡ Some (integer_length (c ∷ cs))
unfolding length_by
length_digit ch c cs h i j = rw (h, i) (by (is_digit c) j)
  where
    by : (b : Bool) → b ≡ true → (if b then Some (integer_length (c ∷ cs)) else if eqb c 39 then further 1 (quoted_run 39 cs) else if eqb c 34 then further 1 (quoted_run 34 cs) else if eqb c 36 then further 1 (ch cs) else some_length (mark_length (c ∷ cs))) ≡ Some (integer_length (c ∷ cs))
    by true e = refl
    by false e = absurd cc

pub length_atom : (ch : Character) (cs : List ℕ) → length_by ch (39 ∷ cs) ≡ further 1 (quoted_run 39 cs)
unfolding length_by
length_atom ch cs = refl

pub length_string : (ch : Character) (cs : List ℕ) → length_by ch (34 ∷ cs) ≡ further 1 (quoted_run 34 cs)
unfolding length_by
length_string ch cs = refl

pub length_character : (ch : Character) (cs : List ℕ) → length_by ch (36 ∷ cs) ≡ further 1 (ch cs)
unfolding length_by
length_character ch cs = refl

-- a character that begins no name, integer, quoted token or character
pub record IsOther (c : ℕ) : Type 0 where
  pub no_lower : is_lower c ≡ false
  pub no_upper : is_upper c ≡ false
  pub no_digit : is_digit c ≡ false
  pub no_atom : eqb c 39 ≡ false
  pub no_string : eqb c 34 ≡ false
  pub no_character : eqb c 36 ≡ false

pub length_mark : (ch : Character) (c : ℕ) (cs : List ℕ) → IsOther c → length_by ch (c ∷ cs) ≡ some_length (mark_length (c ∷ cs))
unfolding length_by
length_mark ch c cs o = rw (o.no_lower, o.no_upper, o.no_atom, o.no_string, o.no_character) (by (is_digit c) o.no_digit)
  where
    by : (b : Bool) → b ≡ false → (if b then Some (integer_length (c ∷ cs)) else some_length (mark_length (c ∷ cs))) ≡ some_length (mark_length (c ∷ cs))
    by true e = absurd cc
    by false e = refl

-- ---- whether characters are a text, by the first one

pub text_lower : (c : ℕ) (cs : List ℕ) → is_lower c ≡ true → is_token_text (c ∷ cs) ≡ every is_name cs
unfolding is_token_text
text_lower c cs h = rw h refl

pub text_upper : (c : ℕ) (cs : List ℕ) → is_lower c ≡ false → is_upper c ≡ true → is_token_text (c ∷ cs) ≡ every is_name cs
unfolding is_token_text
text_upper c cs h i = rw (h, i) refl

pub text_digit : (c : ℕ) (cs : List ℕ) → is_lower c ≡ false → is_upper c ≡ false → is_digit c ≡ true → is_token_text (c ∷ cs) ≡ (is_grouped is_digit (c ∷ cs) || is_based 0 (c ∷ cs))
unfolding is_token_text
text_digit c cs h i j = rw (h, i) (by (is_digit c) j)
  where
    by : (b : Bool) → b ≡ true
        → (if b then (is_grouped is_digit (c ∷ cs) || is_based 0 (c ∷ cs)) else if eqb c 39 then is_quoted 39 cs else if eqb c 34 then is_quoted 34 cs else if eqb c 36 then is_character cs else is_mark (c ∷ cs)) ≡ (is_grouped is_digit (c ∷ cs) || is_based 0 (c ∷ cs))
    by true e = refl
    by false e = absurd cc

pub text_atom : (cs : List ℕ) → is_token_text (39 ∷ cs) ≡ is_quoted 39 cs
unfolding is_token_text
text_atom cs = refl

pub text_string : (cs : List ℕ) → is_token_text (34 ∷ cs) ≡ is_quoted 34 cs
unfolding is_token_text
text_string cs = refl

pub text_character : (cs : List ℕ) → is_token_text (36 ∷ cs) ≡ is_character cs
unfolding is_token_text
text_character cs = refl

pub text_mark : (c : ℕ) (cs : List ℕ) → IsOther c → is_token_text (c ∷ cs) ≡ is_mark (c ∷ cs)
unfolding is_token_text
text_mark c cs o = rw (o.no_lower, o.no_upper, o.no_atom, o.no_string, o.no_character) (by (is_digit c) o.no_digit)
  where
    by : (b : Bool) → b ≡ false → (if b then (is_grouped is_digit (c ∷ cs) || is_based 0 (c ∷ cs)) else is_mark (c ∷ cs)) ≡ is_mark (c ∷ cs)
    by true e = absurd cc
    by false e = refl

-- the kinds of a first character
pub data Kind (c : ℕ) : Type 0 where
  Lower : is_lower c ≡ true → Kind c
  Upper : is_lower c ≡ false → is_upper c ≡ true → Kind c
  Digit : is_lower c ≡ false → is_upper c ≡ false → is_digit c ≡ true → Kind c
  Atom : c ≡ 39 → Kind c
  String : c ≡ 34 → Kind c
  Character_mark : c ≡ 36 → Kind c
  Other : IsOther c → Kind c

kind_by : (c : ℕ) (l u d a s m : Bool) → is_lower c ≡ l → is_upper c ≡ u → is_digit c ≡ d → eqb c 39 ≡ a → eqb c 34 ≡ s → eqb c 36 ≡ m → Kind c
kind_by c true u d a s m el eu ed ea es em = Lower el
kind_by c false true d a s m el eu ed ea es em = Upper el eu
kind_by c false false true a s m el eu ed ea es em = Digit el eu ed
kind_by c false false false true s m el eu ed ea es em = Atom (eqb-true c 39 ea)
kind_by c false false false false true m el eu ed ea es em = String (eqb-true c 34 es)
kind_by c false false false false false true el eu ed ea es em = Character_mark (eqb-true c 36 em)
kind_by c false false false false false false el eu ed ea es em = Other (record { no_lower = el; no_upper = eu; no_digit = ed; no_atom = ea; no_string = es; no_character = em })

pub kind : (c : ℕ) → Kind c
kind c = kind_by c (is_lower c) (is_upper c) (is_digit c) (eqb c 39) (eqb c 34) (eqb c 36) refl refl refl refl refl refl

-- ---- each text of a token is covered

-- a length is found, and it is at least this
pub record IsCovered (n : ℕ) (found : Option ℕ) : Type 0 where
  pub length : ℕ
  pub is : found ≡ Some length
  pub covers : n ≤ length

some_length_at : (n : ℕ) → 1 ≤ n → some_length n ≡ Some n
some_length_at zero h = absurd (omega arith)
some_length_at (suc n) h = refl

pub empty_text : is_token_text [] ≡ true → ⊥
unfolding is_token_text
empty_text h = cc

covers_kind : (c : ℕ) (cs more : List ℕ) → Kind c → is_token_text (c ∷ cs) ≡ true → IsCovered (suc (length cs)) (length_by character_run (c ∷ (cs ++ more)))
covers_kind c cs more (Lower l) h = record { length = suc (run is_name (cs ++ more)); is = length_lower _ c _ l; covers = omega (arith, run_max is_name cs more (sym (text_lower c cs l) ∙ h)) }
covers_kind c cs more (Upper l u) h = record { length = suc (run is_name (cs ++ more)); is = length_upper _ c _ l u; covers = omega (arith, run_max is_name cs more (sym (text_upper c cs l u) ∙ h)) }
covers_kind c cs more (Digit l u d) h = record { length = integer_length (c ∷ (cs ++ more)); is = length_digit _ c _ l u d; covers = integer_covers c cs more (sym (text_digit c cs l u d) ∙ h) }
covers_kind c cs more (Atom e) h =
    let k : is_token_text (39 ∷ cs) ≡ true = rw e at h in
    record { length = 1 + length cs; is = rw e (length_atom _ _ ∙ ap (further 1) (quoted_covers 39 cs more refl (sym (text_atom cs) ∙ k))); covers = omega arith }
covers_kind c cs more (String e) h =
    let k : is_token_text (34 ∷ cs) ≡ true = rw e at h in
    record { length = 1 + length cs; is = rw e (length_string _ _ ∙ ap (further 1) (quoted_covers 34 cs more refl (sym (text_string cs) ∙ k))); covers = omega arith }
covers_kind c cs more (Character_mark e) h =
    let k : is_token_text (36 ∷ cs) ≡ true = rw e at h in
    record { length = 1 + length cs; is = rw e (length_character _ _ ∙ ap (further 1) (character_covers cs more (sym (text_character cs) ∙ k))); covers = omega arith }
covers_kind c cs more (Other o) h =
    let l = mark_covers (c ∷ cs) more (sym (text_mark c cs o) ∙ h) in
    record { length = mark_length (c ∷ (cs ++ more)); is = length_mark _ c _ o ∙ some_length_at _ (omega (arith, l)); covers = l }

pub length_covers : (word more : List ℕ) → is_token_text word ≡ true → IsCovered (length word) (length_by character_run (word ++ more))
length_covers [] more h = absurd (empty_text h)
length_covers (c ∷ cs) more h = covers_kind c cs more (kind c) h

-- ---- what is found is a text of a token

pub record IsText (n : ℕ) (text : List ℕ) : Type 0 where
  pub is : is_token_text (take n text) ≡ true
  pub within : n ≤ length text
  pub some : 1 ≤ n

pub some_eq : (m n : ℕ) → Some m ≡ Some n → m ≡ n
some_eq m n e = cc

found_run : (c n : ℕ) (cs : List ℕ) → is_token_text (c ∷ take (run is_name cs) cs) ≡ true → Some (suc (run is_name cs)) ≡ Some n → IsText n (c ∷ cs)
found_run c n cs h e = let k : n ≡ suc (run is_name cs) = sym (some_eq _ n e) in rw k (record { is = h; within = omega (arith, run_le is_name cs); some = omega arith })

found_integer : (c k : ℕ) (cs : List ℕ) → is_lower c ≡ false → is_upper c ≡ false → is_digit c ≡ true → k ≡ integer_length (c ∷ cs) → IsText k (c ∷ cs)
found_integer c zero cs l u d e = absurd (omega (arith, integer_some c cs d))
found_integer c (suc k) cs l u d e =
    let w = integer_is (c ∷ cs) d in
    let i : (is_grouped is_digit (c ∷ take k cs) || is_based 0 (c ∷ take k cs)) ≡ true = subst (λ (n : ℕ). (is_grouped is_digit (take n (c ∷ cs)) || is_based 0 (take n (c ∷ cs))) ≡ true) (sym e) w.is in
    record { is = text_digit c (take k cs) l u d ∙ i; within = omega (arith, w.within); some = omega arith }

found_mark : (c n k : ℕ) (cs : List ℕ) → IsOther c → k ≡ mark_length (c ∷ cs) → some_length k ≡ Some n → IsText n (c ∷ cs)
found_mark c n zero cs o e h = absurd cc
found_mark c n (suc k) cs o e h =
    let same : n ≡ suc k = sym (some_eq (suc k) n h) in
    elim (mark_is (c ∷ cs)) [
      | inl z ↦ absurd (omega arith)
      | inr m ↦
          let mark : is_mark (c ∷ take k cs) ≡ true = subst (λ (i : ℕ). is_mark (take i (c ∷ cs)) ≡ true) (sym e) m.0 in
          rw same (record { is = text_mark c (take k cs) o ∙ mark; within = omega arith; some = omega arith })
    ]

found_after : (first m n : ℕ) (cs : List ℕ) → n ≡ 1 + m → is_token_text (first ∷ take m cs) ≡ true → m ≤ length cs → IsText n (first ∷ cs)
found_after first m n cs e h l = let k : n ≡ suc m = omega arith in rw k (record { is = h; within = omega arith; some = omega arith })

is_kind : (c n : ℕ) (cs : List ℕ) → Kind c → length_by character_run (c ∷ cs) ≡ Some n → IsText n (c ∷ cs)
is_kind c n cs (Lower l) h = found_run c n cs (text_lower c _ l ∙ run_every is_name cs) (sym (length_lower character_run c cs l) ∙ h)
is_kind c n cs (Upper l u) h = found_run c n cs (text_upper c _ l u ∙ run_every is_name cs) (sym (length_upper character_run c cs l u) ∙ h)
is_kind c n cs (Digit l u d) h = found_integer c n cs l u d (sym (some_eq _ n (sym (length_digit character_run c cs l u d) ∙ h)))
is_kind c n cs (Atom e) h =
    let k : length_by character_run (39 ∷ cs) ≡ Some n = rw e at h in
    let f = further_is 1 n (quoted_run 39 cs) (sym (length_atom character_run cs) ∙ k) in
    let q = quoted_is 39 f.0 cs f.1 in
    rw e (found_after 39 f.0 n cs f.2 (text_atom _ ∙ q.is) q.within)
is_kind c n cs (String e) h =
    let k : length_by character_run (34 ∷ cs) ≡ Some n = rw e at h in
    let f = further_is 1 n (quoted_run 34 cs) (sym (length_string character_run cs) ∙ k) in
    let q = quoted_is 34 f.0 cs f.1 in
    rw e (found_after 34 f.0 n cs f.2 (text_string _ ∙ q.is) q.within)
is_kind c n cs (Character_mark e) h =
    let k : length_by character_run (36 ∷ cs) ≡ Some n = rw e at h in
    let f = further_is 1 n (character_run cs) (sym (length_character character_run cs) ∙ k) in
    let q = character_is f.0 cs f.1 in
    rw e (found_after 36 f.0 n cs f.2 (text_character _ ∙ q.is) q.within)
is_kind c n cs (Other o) h = found_mark c n (mark_length (c ∷ cs)) cs o refl (sym (length_mark character_run c cs o) ∙ h)

nothing_found : (n : ℕ) → length_by character_run [] ≡ Some n → ⊥
unfolding length_by
nothing_found n h = cc

pub length_is : (n : ℕ) (text : List ℕ) → length_by character_run text ≡ Some n → IsText n text
length_is n [] h = absurd (nothing_found n h)
length_is n (c ∷ cs) h = is_kind c n cs (kind c) h

-- ---- and the longest

pub longest : (n : ℕ) (text : List ℕ) → length_by character_run text ≡ Some n → IsLongest (take n text) (drop n text)
longest n text h longer after e g =
    let whole : text ≡ longer ++ after = sym (take-append-drop n text) ∙ e in
    let t = length_is n text h in
    let r = length_covers longer after g in
    let same : n ≡ r.length = some_is n r.length (length_by character_run text) h (ap (length_by character_run) whole ∙ r.is) in
    omega (arith, r.covers, t.within, length-take n text)

-- where none is found, no text has a token
pub none_there : (text word more : List ℕ) (t : Token) → length_by character_run text ≡ None → text ≡ word ++ more → token_of word more ≡ Some t → ⊥
none_there text word more t h e g =
    let r = length_covers word more (token_is_text word more t g) in
    let z : None ≡ Some r.length = sym h ∙ (ap (length_by character_run) e ∙ r.is) in
    cc

-- ---- bad escapes, by the first character

pub bad_atom : (cs : List ℕ) → bad_escape (39 ∷ cs) ≡ further 1 (bad_in_quotes 39 cs)
unfolding bad_escape
bad_atom cs = refl

pub bad_string : (cs : List ℕ) → bad_escape (34 ∷ cs) ≡ further 1 (bad_in_quotes 34 cs)
unfolding bad_escape
bad_string cs = refl

pub bad_character : (cs : List ℕ) → bad_escape (36 ∷ cs) ≡ further 1 (bad_in_character cs)
unfolding bad_escape
bad_character cs = refl

pub bad_other : (c : ℕ) (cs : List ℕ) → eqb c 39 ≡ false → eqb c 34 ≡ false → eqb c 36 ≡ false → bad_escape (c ∷ cs) ≡ None
unfolding bad_escape
bad_other c cs a s m = rw (a, s, m) refl
