-- The token of a text is read from its UTF-8.
use Rattle.std.proofs.Common.{◌≡◌, ℕ, ◌+◌, ◌-◌, ◌*◌, ◌/◌, ◌%◌, ◌<◌, ◌≤◌, Bool, true, false, cond, List, [], ◌∷◌, ◌++◌, length, Some, refl, ap, sym, ◌∙◌, arith, inl, inr, append-nil}
use Rattle.std.specs.Prelude.{◌&&◌, ◌||◌, not, if◌then◌else◌, nat_le, codes, pos}
use Rattle.std.specs.Str.{bytes_eq}
use Rattle.std.proofs.Math.Dec.{eqb, leb, ltb}
use Rattle.std.proofs.lemmas.Bool.{eqb-true, cases_lt, or_cases, le-ltb}
use Rattle.std.proofs.lemmas.Bool.Decides.{nat_tests}
use Rattle.std.proofs.lemmas.Str.{length-le-encodes}
use lib.Utf8.{encode, encodes}
use Rattle.erl_tree.specs.declared.token.Token.{Token}
use Rattle.erl_tree.specs.declared.token.Token.TheVariants as T
use Rattle.erl_tree.specs.Lexis.{every, is_lower, is_upper, is_digit, is_digit_of, is_escape, is_mark, is_name, is_quoted, is_character, is_grouped, goes_on_grouped, is_based, is_token_text, integer_value, escape_value, unquoted, character_value, name_token, mark_token, ends_form, when, token_of}
use Rattle.erl_tree.proofs.TokenTexts.{chosen, and_true}
use Rattle.erl_lexer.specs.Scan.{code_of, token_by}
use Rattle.erl_lexer.proofs.Encoded.{wide, high, AreHigh, IsAsciiTest, encodes_low, AreAscii, encodes_ascii, ascii_by}
use Rattle.erl_lexer.proofs.Texts.{Kind, kind, IsOther, text_lower, text_upper, text_digit, text_atom, text_string, text_character, text_mark, empty_text}
use Rattle.erl_lexer.proofs.Texts.Kind.{Lower, Upper, Digit, Atom, String, Character_mark, Other}
use Rattle.erl_lexer.proofs.Walks.{digit_ascii, name_ascii, white_ascii, escape_ascii, digit_of_ascii, is_not}
use Rattle.erl_lexer.proofs.Same.{mark_low}

-- ---- texts of ASCII

every_low : (p : ℕ → Bool) (cs : List ℕ) → IsAsciiTest p → every p cs ≡ true → AreAscii cs
every_low p [] t h = tt
every_low p (c ∷ cs) t h = let w = and_true (p c) (every p cs) h in (ascii_by p c t w.0, every_low p cs t w.1)

grouped_text_low : (digit : ℕ → Bool) (cs : List ℕ) → IsAsciiTest digit → (goes_on_grouped digit cs ≡ true → AreAscii cs) × (is_grouped digit cs ≡ true → AreAscii cs)
grouped_text_low digit [] t = (λ h. tt, λ h. tt)
grouped_text_low digit (c ∷ cs) t =
    let r = grouped_text_low digit cs t in (
      λ h. elim (chosen (eqb c 95) (is_grouped digit cs) (digit c && goes_on_grouped digit cs) true h) [
        | inl w ↦ let k : c ≡ 95 = eqb-true c 95 w.0 in (omega arith, r.1 w.1)
        | inr w ↦ let a = and_true (digit c) (goes_on_grouped digit cs) w.1 in (ascii_by digit c t a.0, r.0 a.1)
      ],
      λ h. let a = and_true (digit c) (goes_on_grouped digit cs) h in (ascii_by digit c t a.0, r.0 a.1),
    )

based_text_low : (base : ℕ) (cs : List ℕ) → is_based base cs ≡ true → AreAscii cs
based_text_low base [] h = tt
based_text_low base (c ∷ cs) h =
    elim (chosen (eqb c 35) ((nat_le 2 base && nat_le base 36) && is_grouped (is_digit_of base) cs) (is_digit c && is_based (base * 10 + (c - 48)) cs) true h) [
      | inl w ↦
          let a = and_true (nat_le 2 base && nat_le base 36) (is_grouped (is_digit_of base) cs) w.1 in
          let b = and_true (nat_le 2 base) (nat_le base 36) a.0 in
          let k : c ≡ 35 = eqb-true c 35 w.0 in
          let l : base ≤ 36 = small base b.1 in
          (omega arith, (grouped_text_low (is_digit_of base) cs (digit_of_ascii base l)).1 a.1)
      | inr w ↦ let a = and_true (is_digit c) (is_based (base * 10 + (c - 48)) cs) w.1 in (ascii_by is_digit c digit_ascii a.0, based_text_low (base * 10 + (c - 48)) cs a.1)
    ]
  where
    small : (base : ℕ) → nat_le base 36 ≡ true → base ≤ 36
    small base e = grind (arith, nat_tests)

integer_text_low : (cs : List ℕ) → (is_grouped is_digit cs || is_based 0 cs) ≡ true → AreAscii cs
integer_text_low cs h = elim (or_cases (is_grouped is_digit cs) (is_based 0 cs) h) [ inl w ↦ (grouped_text_low is_digit cs digit_ascii).1 w | inr w ↦ based_text_low 0 cs w ]

-- ---- what stands between quotes

unquoted_more : (c : ℕ) (bs : List ℕ) → eqb c 92 ≡ false → 1 ≤ length bs → unquoted (c ∷ bs) ≡ c ∷ unquoted bs
unquoted_more c [] e h = absurd (omega arith)
unquoted_more c (b ∷ bs) e h = rw e refl

unquoted_high : (hs bs : List ℕ) → AreHigh hs → 1 ≤ length bs → unquoted (hs ++ bs) ≡ hs ++ unquoted bs
unquoted_high [] bs h l = refl
unquoted_high (b ∷ hs) bs h l = unquoted_more b (hs ++ bs) (is_not 92 b (omega arith) h.0) (longer hs bs l) ∙ ap (λ (x : List ℕ). b ∷ x) (unquoted_high hs bs h.1 l)
  where
    longer : (hs bs : List ℕ) → 1 ≤ length bs → 1 ≤ length (hs ++ bs)
    longer [] bs l = l
    longer (x ∷ xs) bs l = omega arith

escape_low : (c : ℕ) → c < 128 → escape_value c < 128
escape_low c h = by (eqb c 110) (eqb c 114) (eqb c 116) (eqb c 115) (eqb c 98) (eqb c 100) (eqb c 101) (eqb c 102) (eqb c 118)
  where
    by : (n r t s b d e f v : Bool) → (if n then 10 else if r then 13 else if t then 9 else if s then 32 else if b then 8 else if d then 127 else if e then 27 else if f then 12 else if v then 11 else c) < 128
    by true r t s b d e f v = omega arith
    by false true t s b d e f v = omega arith
    by false false true s b d e f v = omega arith
    by false false false true b d e f v = omega arith
    by false false false false true d e f v = omega arith
    by false false false false false true e f v = omega arith
    by false false false false false false true f v = omega arith
    by false false false false false false false true v = omega arith
    by false false false false false false false false true = omega arith
    by false false false false false false false false false = h

unquoted_same : (quote : ℕ) (cs : List ℕ) → quote < 128 → is_quoted quote cs ≡ true → unquoted (encodes cs) ≡ encodes (unquoted cs)
unquoted_same quote [] q h = absurd cc
unquoted_same quote (c ∷ []) q h = let k : c < 128 = low (eqb-true c quote h) in ap unquoted (encodes_low c [] k)
  where
    low : c ≡ quote → c < 128
    low e = omega arith
unquoted_same quote (c ∷ d ∷ cs) q h =
    elim (chosen (eqb c 92) (is_escape d && is_quoted quote cs) (not (eqb c quote) && is_quoted quote (d ∷ cs)) true h) [
      | inl w ↦
          let a = and_true (is_escape d) (is_quoted quote cs) w.1 in
          let l : c < 128 = slash c (eqb-true c 92 w.0) in
          let m = ascii_by is_escape d escape_ascii a.0 in
          let e : encodes (c ∷ d ∷ cs) ≡ c ∷ d ∷ encodes cs = encodes_low c (d ∷ cs) l ∙ ap (λ (x : List ℕ). c ∷ x) (encodes_low d cs m) in
          let f : unquoted (c ∷ d ∷ encodes cs) ≡ escape_value d ∷ unquoted (encodes cs) = rw w.0 refl in
          let g : unquoted (c ∷ d ∷ cs) ≡ escape_value d ∷ unquoted cs = rw w.0 refl in
          ap unquoted e ∙ (f ∙ (ap (λ (x : List ℕ). escape_value d ∷ x) (unquoted_same quote cs q a.1) ∙ (sym (encodes_low (escape_value d) (unquoted cs) (escape_low d m)) ∙ ap encodes (sym g))))
      | inr w ↦
          let a = and_true (not (eqb c quote)) (is_quoted quote (d ∷ cs)) w.1 in
          let ih = unquoted_same quote (d ∷ cs) q a.1 in
          let some : 1 ≤ length (encodes (d ∷ cs)) = omega (arith, length-le-encodes (d ∷ cs)) in
          let g : unquoted (c ∷ d ∷ cs) ≡ c ∷ unquoted (d ∷ cs) = rw w.0 refl in
          elim (cases_lt c 128) [
            | inl l ↦ ap unquoted (encodes_low c (d ∷ cs) l) ∙ (unquoted_more c (encodes (d ∷ cs)) w.0 some ∙ (ap (λ (x : List ℕ). c ∷ x) ih ∙ (sym (encodes_low c (unquoted (d ∷ cs)) l) ∙ ap encodes (sym g))))
            | inr l ↦ unquoted_high (encode c) (encodes (d ∷ cs)) (high c l) some ∙ (ap (λ (x : List ℕ). encode c ++ x) ih ∙ ap encodes (sym g))
          ]
    ]
  where
    slash : (c : ℕ) → c ≡ 92 → c < 128
    slash c e = omega arith

-- ---- characters

code_by : (c : ℕ) (b d : Bool) → ltb c 2048 ≡ b → ltb c 65536 ≡ d → 128 ≤ c → code_of (cond b ((192 + c / 64) ∷ (128 + c % 64) ∷ []) (cond d ((224 + c / 4096) ∷ (128 + (c / 64) % 64) ∷ (128 + c % 64) ∷ []) ((240 + c / 262144) ∷ (128 + (c / 4096) % 64) ∷ (128 + (c / 64) % 64) ∷ (128 + c % 64) ∷ []))) ≡ c
code_by c true d e f h = let k : eqb (192 + c / 64) 92 ≡ false = is_not 92 (192 + c / 64) (omega arith) (omega arith) in rw k (omega arith)
code_by c false true e f h = omega arith
code_by c false false e f h = omega arith

code_high : (c : ℕ) → 128 ≤ c → code_of (encode c) ≡ c
unfolding encode
code_high c h = let e : ltb c 128 ≡ false = le-ltb c 128 h in rw e (code_by c (ltb c 2048) (ltb c 65536) refl refl h)

code_same : (cs : List ℕ) → is_character cs ≡ true → code_of (encodes cs) ≡ character_value cs
code_same [] h = absurd cc
code_same (c ∷ []) h = elim (cases_lt c 128) [
  | inl l ↦ ap code_of (encodes_low c [] l)
  | inr l ↦ ap code_of (append-nil (encode c)) ∙ code_high c l
]
code_same (c ∷ d ∷ []) h =
    let a = and_true (eqb c 92) (is_escape d) h in
    let l : c < 128 = slash c (eqb-true c 92 a.0) in
    let m = ascii_by is_escape d escape_ascii a.1 in
    let e : encodes (c ∷ d ∷ []) ≡ c ∷ d ∷ [] = encodes_low c (d ∷ []) l ∙ ap (λ (x : List ℕ). c ∷ x) (encodes_low d [] m) in
    ap code_of e ∙ rw a.0 refl
  where
    slash : (c : ℕ) → c ≡ 92 → c < 128
    slash c e = omega arith
code_same (c ∷ d ∷ e ∷ cs) h = absurd cc

-- ---- the token, by the kind of the first character

ends_same : (cs : List ℕ) → ends_form (encodes cs) ≡ ends_form cs
ends_same [] = refl
ends_same (c ∷ cs) = elim (cases_lt c 128) [
  | inl l ↦ ap ends_form (encodes_low c cs l)
  | inr h ↦
      let w = wide c h in
      let none : (b : ℕ) (bs : List ℕ) → 128 ≤ b → ends_form (b ∷ bs) ≡ false = λ b bs k. rw (white_ascii b k, is_not 37 b (omega arith) k) refl in
      let first : ends_form (encode c ++ encodes cs) ≡ false = rw w.is (none w.first (w.others ++ encodes cs) (omega (arith, w.above))) in
      first ∙ sym (none c cs h)
]

mark_token_same : (text follow : List ℕ) → mark_token text (encodes follow) ≡ mark_token text follow
mark_token_same text follow = ap (λ (b : Bool). if bytes_eq text (codes ".") && b then T.Dot else T.Mark text) (ends_same follow)

when_true : (b : Bool) (t : Token) → b ≡ true → when b t ≡ Some t
when_true true t e = refl
when_true false t e = absurd cc

of_lower : (c : ℕ) (cs f : List ℕ) → is_lower c ≡ true → (token_of (c ∷ cs) f ≡ when (every is_name cs) (name_token (c ∷ cs))) × (token_by (c ∷ cs) f ≡ name_token (c ∷ cs))
unfolding token_of token_by
of_lower c cs f h = (rw h refl, rw h refl)

of_upper : (c : ℕ) (cs f : List ℕ) → is_lower c ≡ false → is_upper c ≡ true → (token_of (c ∷ cs) f ≡ when (every is_name cs) (T.Var (c ∷ cs))) × (token_by (c ∷ cs) f ≡ T.Var (c ∷ cs))
unfolding token_of token_by
of_upper c cs f h i = (rw (h, i) refl, rw (h, i) refl)

taken : {A : Type 0} (b : Bool) (x y : A) → b ≡ true → cond b x y ≡ x
taken true x y e = refl
taken false x y e = absurd cc

pub passed : {A : Type 0} (b : Bool) (x y : A) → b ≡ false → cond b x y ≡ y
passed true x y e = absurd cc
passed false x y e = refl

of_digit : (c : ℕ) (cs f : List ℕ) → is_lower c ≡ false → is_upper c ≡ false → is_digit c ≡ true
    → (token_of (c ∷ cs) f ≡ when (is_grouped is_digit (c ∷ cs) || is_based 0 (c ∷ cs)) (T.Int (pos (integer_value 0 (c ∷ cs))))) × (token_by (c ∷ cs) f ≡ T.Int (pos (integer_value 0 (c ∷ cs))))
unfolding token_of token_by
of_digit c cs f h i j = (rw (h, i) (taken (is_digit c) _ _ j), rw (h, i) (taken (is_digit c) _ _ j))

of_atom : (cs f : List ℕ) → (token_of (39 ∷ cs) f ≡ when (is_quoted 39 cs) (T.Atom (encodes (unquoted cs)))) × (token_by (39 ∷ cs) f ≡ T.Atom (unquoted cs))
unfolding token_of token_by
of_atom cs f = (refl, refl)

of_string : (cs f : List ℕ) → (token_of (34 ∷ cs) f ≡ when (is_quoted 34 cs) (T.Str (encodes (unquoted cs)))) × (token_by (34 ∷ cs) f ≡ T.Str (unquoted cs))
unfolding token_of token_by
of_string cs f = (refl, refl)

of_character : (cs f : List ℕ) → (token_of (36 ∷ cs) f ≡ when (is_character cs) (T.Char (character_value cs))) × (token_by (36 ∷ cs) f ≡ T.Char (code_of cs))
unfolding token_of token_by
of_character cs f = (refl, refl)

of_mark : (c : ℕ) (cs f : List ℕ) → IsOther c → (token_of (c ∷ cs) f ≡ when (is_mark (c ∷ cs)) (mark_token (c ∷ cs) f)) × (token_by (c ∷ cs) f ≡ mark_token (c ∷ cs) f)
unfolding token_of token_by
of_mark c cs f o = (rw (o.no_lower, o.no_upper, o.no_atom, o.no_string, o.no_character) (passed (is_digit c) _ _ o.no_digit), rw (o.no_lower, o.no_upper, o.no_atom, o.no_string, o.no_character) (passed (is_digit c) _ _ o.no_digit))

pub by_none : (f : List ℕ) → token_by [] f ≡ T.End
unfolding token_by
by_none f = refl

pub by_lower : (c : ℕ) (cs f : List ℕ) → is_lower c ≡ true → token_by (c ∷ cs) f ≡ name_token (c ∷ cs)
by_lower c cs f h = (of_lower c cs f h).1

pub by_upper : (c : ℕ) (cs f : List ℕ) → is_lower c ≡ false → is_upper c ≡ true → token_by (c ∷ cs) f ≡ T.Var (c ∷ cs)
by_upper c cs f h i = (of_upper c cs f h i).1

pub by_digit : (c : ℕ) (cs f : List ℕ) → is_lower c ≡ false → is_upper c ≡ false → is_digit c ≡ true → token_by (c ∷ cs) f ≡ T.Int (pos (integer_value 0 (c ∷ cs)))
by_digit c cs f h i j = (of_digit c cs f h i j).1

pub by_atom : (cs f : List ℕ) → token_by (39 ∷ cs) f ≡ T.Atom (unquoted cs)
by_atom cs f = (of_atom cs f).1

pub by_string : (cs f : List ℕ) → token_by (34 ∷ cs) f ≡ T.Str (unquoted cs)
by_string cs f = (of_string cs f).1

pub by_character : (cs f : List ℕ) → token_by (36 ∷ cs) f ≡ T.Char (code_of cs)
by_character cs f = (of_character cs f).1

pub by_mark : (c : ℕ) (cs f : List ℕ) → IsOther c → token_by (c ∷ cs) f ≡ mark_token (c ∷ cs) f
by_mark c cs f o = (of_mark c cs f o).1

some_same : (t u : Token) → t ≡ u → Some t ≡ Some u
some_same t u e = ap (λ (x : Token). Some x) e

same_kind : (c : ℕ) (cs follow : List ℕ) → Kind c → is_token_text (c ∷ cs) ≡ true → token_of (c ∷ cs) follow ≡ Some (token_by (encodes (c ∷ cs)) (encodes follow))
same_kind c cs follow (Lower l) h =
    let e : every is_name cs ≡ true = sym (text_lower c cs l) ∙ h in
    let a : encodes (c ∷ cs) ≡ c ∷ cs = encodes_ascii (c ∷ cs) (first c l, every_low is_name cs name_ascii e) in
    (of_lower c cs follow l).0 ∙ (when_true _ _ e ∙ some_same _ _ (sym (ap (λ (x : List ℕ). token_by x (encodes follow)) a ∙ by_lower c cs (encodes follow) l)))
  where
    first : (c : ℕ) → is_lower c ≡ true → c < 128
    first c e = grind (arith, nat_tests)
same_kind c cs follow (Upper l u) h =
    let e : every is_name cs ≡ true = sym (text_upper c cs l u) ∙ h in
    let a : encodes (c ∷ cs) ≡ c ∷ cs = encodes_ascii (c ∷ cs) (first c u, every_low is_name cs name_ascii e) in
    (of_upper c cs follow l u).0 ∙ (when_true _ _ e ∙ some_same _ _ (sym (ap (λ (x : List ℕ). token_by x (encodes follow)) a ∙ by_upper c cs (encodes follow) l u)))
  where
    first : (c : ℕ) → is_upper c ≡ true → c < 128
    first c e = grind (arith, nat_tests)
same_kind c cs follow (Digit l u d) h =
    let e : (is_grouped is_digit (c ∷ cs) || is_based 0 (c ∷ cs)) ≡ true = sym (text_digit c cs l u d) ∙ h in
    let a : encodes (c ∷ cs) ≡ c ∷ cs = encodes_ascii (c ∷ cs) (integer_text_low (c ∷ cs) e) in
    (of_digit c cs follow l u d).0 ∙ (when_true _ _ e ∙ some_same _ _ (sym (ap (λ (x : List ℕ). token_by x (encodes follow)) a ∙ by_digit c cs (encodes follow) l u d)))
same_kind c cs follow (Atom i) h =
    let k : is_token_text (39 ∷ cs) ≡ true = rw i at h in
    let e : is_quoted 39 cs ≡ true = sym (text_atom cs) ∙ k in
    let a : encodes (39 ∷ cs) ≡ 39 ∷ encodes cs = encodes_low 39 cs (omega arith) in
    rw i ((of_atom cs follow).0 ∙ (when_true _ _ e ∙ some_same _ _ (sym (ap (λ (x : List ℕ). token_by x (encodes follow)) a ∙ (by_atom (encodes cs) (encodes follow) ∙ ap T.Atom (unquoted_same 39 cs (omega arith) e))))))
same_kind c cs follow (String i) h =
    let k : is_token_text (34 ∷ cs) ≡ true = rw i at h in
    let e : is_quoted 34 cs ≡ true = sym (text_string cs) ∙ k in
    let a : encodes (34 ∷ cs) ≡ 34 ∷ encodes cs = encodes_low 34 cs (omega arith) in
    rw i ((of_string cs follow).0 ∙ (when_true _ _ e ∙ some_same _ _ (sym (ap (λ (x : List ℕ). token_by x (encodes follow)) a ∙ (by_string (encodes cs) (encodes follow) ∙ ap T.Str (unquoted_same 34 cs (omega arith) e))))))
same_kind c cs follow (Character_mark i) h =
    let k : is_token_text (36 ∷ cs) ≡ true = rw i at h in
    let e : is_character cs ≡ true = sym (text_character cs) ∙ k in
    let a : encodes (36 ∷ cs) ≡ 36 ∷ encodes cs = encodes_low 36 cs (omega arith) in
    rw i ((of_character cs follow).0 ∙ (when_true _ _ e ∙ some_same _ _ (sym (ap (λ (x : List ℕ). token_by x (encodes follow)) a ∙ (by_character (encodes cs) (encodes follow) ∙ ap T.Char (code_same cs e))))))
same_kind c cs follow (Other o) h =
    let e : is_mark (c ∷ cs) ≡ true = sym (text_mark c cs o) ∙ h in
    let a : encodes (c ∷ cs) ≡ c ∷ cs = encodes_ascii (c ∷ cs) (mark_low (c ∷ cs) e) in
    (of_mark c cs follow o).0 ∙ (when_true _ _ e ∙ some_same _ _ (sym (ap (λ (x : List ℕ). token_by x (encodes follow)) a ∙ (by_mark c cs (encodes follow) o ∙ mark_token_same (c ∷ cs) follow))))

pub token_same : (text follow : List ℕ) → is_token_text text ≡ true → token_of text follow ≡ Some (token_by (encodes text) (encodes follow))
token_same [] follow h = absurd (empty_text h)
token_same (c ∷ cs) follow h = same_kind c cs follow (kind c) h
