-- The UTF-8 of characters: an ASCII character is its own byte, and the bytes of another are a first one of 192 and more and continuations.
use Rattle.std.proofs.Common.{◌≡◌, ℕ, suc, ◌+◌, ◌/◌, ◌%◌, ◌<◌, ◌≤◌, Bool, true, false, cond, List, [], ◌∷◌, ◌++◌, length, take, drop, Option, Some, None, refl, ap, sym, subst, ◌∙◌, arith, inl, inr}
use Rattle.std.specs.Prelude.{if◌then◌else◌}
use Rattle.std.proofs.Math.Dec.{ltb}
use Rattle.std.proofs.lemmas.Bool.{cases_lt, le-ltb}
use Rattle.std.proofs.lemmas.List.{take-append-drop}
use Rattle.std.proofs.Math.Seq.{take-append_seam, drop-append_seam}
use Rattle.std.proofs.lemmas.Str.{encode_ascii, encodes-append}
use lib.Utf8.{encode, encodes}
use Rattle.erl_lexer.specs.Scan.{run, first_is}

-- 128 and more
abbrev pub AreHigh : List ℕ → Type 0
AreHigh [] = Unit {0}
AreHigh (b ∷ bs) = (128 ≤ b) × AreHigh bs

-- 128 to 191
abbrev pub AreContinuations : List ℕ → Type 0
AreContinuations [] = Unit {0}
AreContinuations (b ∷ bs) = (128 ≤ b) × (b < 192) × AreContinuations bs

-- the bytes of a character that isn't of ASCII
pub record IsWide (bytes : List ℕ) : Type 0 where
  pub first : ℕ
  pub others : List ℕ
  pub is : bytes ≡ first ∷ others
  pub above : 192 ≤ first
  pub continued : AreContinuations others

wide_by : (c : ℕ) (a b : Bool) → IsWide (cond a ((192 + c / 64) ∷ (128 + c % 64) ∷ []) (cond b ((224 + c / 4096) ∷ (128 + (c / 64) % 64) ∷ (128 + c % 64) ∷ []) ((240 + c / 262144) ∷ (128 + (c / 4096) % 64) ∷ (128 + (c / 64) % 64) ∷ (128 + c % 64) ∷ [])))
wide_by c true b = record { first = 192 + c / 64; others = (128 + c % 64) ∷ []; is = refl; above = omega arith; continued = (omega arith, omega arith, tt) }
wide_by c false true = record { first = 224 + c / 4096; others = (128 + (c / 64) % 64) ∷ (128 + c % 64) ∷ []; is = refl; above = omega arith; continued = (omega arith, omega arith, (omega arith, omega arith, tt)) }
wide_by c false false = record { first = 240 + c / 262144; others = (128 + (c / 4096) % 64) ∷ (128 + (c / 64) % 64) ∷ (128 + c % 64) ∷ []; is = refl; above = omega arith; continued = (omega arith, omega arith, (omega arith, omega arith, (omega arith, omega arith, tt))) }

pub wide : (c : ℕ) → 128 ≤ c → IsWide (encode c)
unfolding encode
wide c h = let e : ltb c 128 ≡ false = le-ltb c 128 h in rw e (wide_by c (ltb c 2048) (ltb c 65536))

high_others : (bs : List ℕ) → AreContinuations bs → AreHigh bs
high_others [] h = tt
high_others (b ∷ bs) h = (h.0, high_others bs h.2)

pub high : (c : ℕ) → 128 ≤ c → AreHigh (encode c)
high c h = let w = wide c h in subst AreHigh (sym w.is) (omega (arith, w.above), high_others w.others w.continued)

-- ---- a test that no byte of 128 and more passes says the same of a text and of its bytes

abbrev pub IsAsciiTest : (ℕ → Bool) → Type 0
IsAsciiTest p = (c : ℕ) → 128 ≤ c → p c ≡ false

pub encodes_low : (c : ℕ) (cs : List ℕ) → c < 128 → encodes (c ∷ cs) ≡ c ∷ encodes cs
encodes_low c cs h = ap (λ (l : List ℕ). l ++ encodes cs) (encode_ascii c h)

pub first_same : (p : ℕ → Bool) (cs : List ℕ) → IsAsciiTest p → first_is p (encodes cs) ≡ first_is p cs
first_same p [] t = refl
first_same p (c ∷ cs) t = elim (cases_lt c 128) [
  | inl l ↦ ap (first_is p) (encodes_low c cs l)
  | inr h ↦ let w = wide c h in rw w.is (t w.first (omega (arith, w.above)) ∙ sym (t c h))
]

stop_run : (p : ℕ → Bool) (c : ℕ) (cs : List ℕ) → p c ≡ false → run p (c ∷ cs) ≡ 0
stop_run p c cs e = rw e refl

pub run_same : (p : ℕ → Bool) (cs : List ℕ) → IsAsciiTest p → run p (encodes cs) ≡ run p cs
run_same p [] t = refl
run_same p (c ∷ cs) t = elim (cases_lt c 128) [
  | inl l ↦ ap (run p) (encodes_low c cs l) ∙ ap (λ (n : ℕ). if p c then suc n else 0) (run_same p cs t)
  | inr h ↦ let w = wide c h in rw w.is (stop_run p w.first (w.others ++ encodes cs) (t w.first (omega (arith, w.above))) ∙ sym (stop_run p c cs (t c h)))
]

-- ---- a length in characters, and the same in bytes

-- so many characters have so many bytes
abbrev pub bytes_of : ℕ → List ℕ → ℕ
bytes_of m cs = length (encodes (take m cs))

pub take_bytes : (m : ℕ) (cs : List ℕ) → take (bytes_of m cs) (encodes cs) ≡ encodes (take m cs)
take_bytes m cs =
    let whole : encodes cs ≡ encodes (take m cs) ++ encodes (drop m cs) = ap encodes (sym (take-append-drop m cs)) ∙ encodes-append (take m cs) (drop m cs) in
    ap (take (bytes_of m cs)) whole ∙ take-append_seam (encodes (take m cs)) (encodes (drop m cs))

pub drop_bytes : (m : ℕ) (cs : List ℕ) → drop (bytes_of m cs) (encodes cs) ≡ encodes (drop m cs)
drop_bytes m cs =
    let whole : encodes cs ≡ encodes (take m cs) ++ encodes (drop m cs) = ap encodes (sym (take-append-drop m cs)) ∙ encodes-append (take m cs) (drop m cs) in
    ap (drop (bytes_of m cs)) whole ∙ drop-append_seam (encodes (take m cs)) (encodes (drop m cs))

-- a number of characters, if there is one, as a number of bytes
abbrev pub sized : Option ℕ → List ℕ → Option ℕ
sized None cs = None
sized (Some m) cs = Some (bytes_of m cs)

-- characters below 128
abbrev pub AreAscii : List ℕ → Type 0
AreAscii [] = Unit {0}
AreAscii (b ∷ bs) = (b < 128) × AreAscii bs

pub encodes_ascii : (cs : List ℕ) → AreAscii cs → encodes cs ≡ cs
encodes_ascii [] h = refl
encodes_ascii (c ∷ cs) h = encodes_low c cs h.0 ∙ ap (λ (l : List ℕ). c ∷ l) (encodes_ascii cs h.1)

pub ascii_by : (p : ℕ → Bool) (c : ℕ) → IsAsciiTest p → p c ≡ true → c < 128
ascii_by p c t e = elim (cases_lt c 128) [ inl l ↦ l | inr h ↦ absurd (let z : false ≡ true = sym (t c h) ∙ e in cc) ]
