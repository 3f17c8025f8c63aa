-- A text has one answer.
use Rattle.std.proofs.Common.{◌≡◌, ℕ, true, List, Result, Ok, Err, refl, ap, sym, subst, ◌∙◌}
use Rattle.std.specs.Prelude.{IfOk, IfErr, IsUtf8}
use Rattle.std.specs.Str.{IsValidUpTo}
use Rattle.std.proofs.lemmas.Str.{encodes_same, utf8_valid_len-IsValidUpTo}
use lib.Utf8.{encodes, scalars}
use Rattle.erl_tree.specs.declared.token.Place.{Place}
use Rattle.erl_tree.specs.declared.token.Placed.{Placed}
use Rattle.erl_tree.specs.Profile.{IsLexed}
use Rattle.erl_tree.specs.Faults.{FaultKind, IsFaultAt}
use Rattle.erl_tree.specs.Faults.FaultKind.{outside, wide, escape, no_token}
use Rattle.erl_tree.proofs.Lexed.{one_fault, lexed_without_fault, one_lexing}
use Rattle.erl_lexer.specs.declared.LexFault.{LexFault}
use Rattle.erl_lexer.specs.declared.LexFault.TheVariants.{NoMemory, NotUtf8, OutOfProfile, WideNumber, BadEscape, BadToken}
use Rattle.erl_lexer.specs.Faults.{IsFault, IsOrNoMemory, IsFaultOrNoMemory}

-- the fault of this kind at this place
as_fault : Place → FaultKind → LexFault
as_fault p (outside form) = OutOfProfile p form
as_fault p wide = WideNumber p
as_fault p escape = BadEscape p
as_fault p no_token = BadToken p

-- the fault stands in characters
record IsSeen (bytes : List ℕ) (fault : LexFault) : Type 0 where
  characters : List ℕ
  encoded : encodes characters ≡ bytes
  are_characters : scalars characters ≡ true
  place : Place
  kind : FaultKind
  is : fault ≡ as_fault place kind
  stands : IsFaultAt characters place kind

data Seen (bytes : List ℕ) (fault : LexFault) : Type 0 where
  memory : fault ≡ NoMemory → Seen bytes fault
  ill_formed : (at : ℕ) → fault ≡ NotUtf8 at → (IsUtf8 bytes → ⊥) → IsValidUpTo bytes at → Seen bytes fault
  seen : IsSeen bytes fault → Seen bytes fault

see : (bytes : List ℕ) (fault : LexFault) → IsFault bytes fault → Seen bytes fault
unfolding as_fault
see bytes NoMemory h = memory refl
see bytes (NotUtf8 at) h = ill_formed at refl h.0 h.1
see bytes (OutOfProfile p form) h = seen (record { characters = h.0; encoded = h.2; are_characters = h.1; place = p; kind = outside form; is = refl; stands = h.3 })
see bytes (WideNumber p) h = seen (record { characters = h.0; encoded = h.2; are_characters = h.1; place = p; kind = wide; is = refl; stands = h.3 })
see bytes (BadEscape p) h = seen (record { characters = h.0; encoded = h.2; are_characters = h.1; place = p; kind = escape; is = refl; stands = h.3 })
see bytes (BadToken p) h = seen (record { characters = h.0; encoded = h.2; are_characters = h.1; place = p; kind = no_token; is = refl; stands = h.3 })

lexed_utf8 : (bytes : List ℕ) (tokens : List Placed) → IsLexed bytes tokens → IsUtf8 bytes
lexed_utf8 bytes tokens l = (l.characters, (l.are_characters, l.encoded))

seen_utf8 : (bytes : List ℕ) (fault : LexFault) → IsSeen bytes fault → IsUtf8 bytes
seen_utf8 bytes fault s = (s.characters, (s.are_characters, s.encoded))

apart : (bytes : List ℕ) (tokens : List Placed) (fault : LexFault) → IsLexed bytes tokens → IsSeen bytes fault → ⊥
apart bytes tokens fault l s = lexed_without_fault s.characters tokens s.place s.kind (subst (λ (b : List ℕ). IsLexed b tokens) (sym s.encoded) l) s.stands

one_seen : (bytes : List ℕ) (f g : LexFault) → IsSeen bytes f → IsSeen bytes g → f ≡ g
one_seen bytes f g s t =
    let same : t.characters ≡ s.characters = encodes_same t.characters s.characters (t.encoded ∙ sym s.encoded) in
    let r = one_fault s.characters s.place t.place s.kind t.kind s.stands (subst (λ (x : List ℕ). IsFaultAt x t.place t.kind) same t.stands) in
    s.is ∙ (ap (λ (p : Place). as_fault p s.kind) r.0 ∙ (ap (as_fault t.place) r.1 ∙ sym t.is))

no_memory_given : (fault : LexFault) (tokens : List Placed) → fault ≡ NoMemory → IsOrNoMemory tokens (Err fault)
no_memory_given fault tokens e = rw e tt

-- what is lexed is given
pub only_by : (bytes : List ℕ) (answer : Result (List Placed) LexFault) → IfOk answer (IsLexed bytes) → IfErr answer (IsFault bytes) → (tokens : List Placed) → IsLexed bytes tokens → IsOrNoMemory tokens answer
only_by bytes (Ok given) found fault tokens l = one_lexing bytes given tokens found l
only_by bytes (Err f) found fault tokens l = elim (see bytes f fault) [
  | memory e ↦ no_memory_given f tokens e
  | ill_formed at e not_so valid ↦ absurd (not_so (lexed_utf8 bytes tokens l))
  | seen s ↦ absurd (apart bytes tokens f l s)
]

refused : (f g : LexFault) → g ≡ f → IsFaultOrNoMemory f (Err g)
refused NoMemory g e = tt
refused (NotUtf8 at) NoMemory e = tt
refused (NotUtf8 at) (NotUtf8 x) e = e
refused (NotUtf8 at) (OutOfProfile x y) e = e
refused (NotUtf8 at) (WideNumber x) e = e
refused (NotUtf8 at) (BadEscape x) e = e
refused (NotUtf8 at) (BadToken x) e = e
refused (OutOfProfile p q) NoMemory e = tt
refused (OutOfProfile p q) (NotUtf8 x) e = e
refused (OutOfProfile p q) (OutOfProfile x y) e = e
refused (OutOfProfile p q) (WideNumber x) e = e
refused (OutOfProfile p q) (BadEscape x) e = e
refused (OutOfProfile p q) (BadToken x) e = e
refused (WideNumber p) NoMemory e = tt
refused (WideNumber p) (NotUtf8 x) e = e
refused (WideNumber p) (OutOfProfile x y) e = e
refused (WideNumber p) (WideNumber x) e = e
refused (WideNumber p) (BadEscape x) e = e
refused (WideNumber p) (BadToken x) e = e
refused (BadEscape p) NoMemory e = tt
refused (BadEscape p) (NotUtf8 x) e = e
refused (BadEscape p) (OutOfProfile x y) e = e
refused (BadEscape p) (WideNumber x) e = e
refused (BadEscape p) (BadEscape x) e = e
refused (BadEscape p) (BadToken x) e = e
refused (BadToken p) NoMemory e = tt
refused (BadToken p) (NotUtf8 x) e = e
refused (BadToken p) (OutOfProfile x y) e = e
refused (BadToken p) (WideNumber x) e = e
refused (BadToken p) (BadEscape x) e = e
refused (BadToken p) (BadToken x) e = e

refused_no_memory : (f g : LexFault) → g ≡ NoMemory → IsFaultOrNoMemory f (Err g)
refused_no_memory f g e = rw e (by f)
  where
    by : (f : LexFault) → IsFaultOrNoMemory f (Err NoMemory)
    by NoMemory = tt
    by (NotUtf8 x) = tt
    by (OutOfProfile x y) = tt
    by (WideNumber x) = tt
    by (BadEscape x) = tt
    by (BadToken x) = tt

wanted_no_memory : (f : LexFault) (answer : Result (List Placed) LexFault) → f ≡ NoMemory → IsFaultOrNoMemory f answer
wanted_no_memory f answer e = rw e tt

exact_error : (bytes : List ℕ) (f g : LexFault) → Seen bytes f → Seen bytes g → IsFaultOrNoMemory f (Err g)
exact_error bytes f g (memory e) t = wanted_no_memory f (Err g) e
exact_error bytes f g (ill_formed at e not_so valid) (memory h) = refused_no_memory f g h
exact_error bytes f g (ill_formed at e not_so valid) (ill_formed other h never up) =
    refused f g (h ∙ (ap NotUtf8 (sym (utf8_valid_len-IsValidUpTo bytes other up) ∙ utf8_valid_len-IsValidUpTo bytes at valid) ∙ sym e))
exact_error bytes f g (ill_formed at e not_so valid) (seen t) = absurd (not_so (seen_utf8 bytes g t))
exact_error bytes f g (seen s) (memory h) = refused_no_memory f g h
exact_error bytes f g (seen s) (ill_formed other h never up) = absurd (never (seen_utf8 bytes f s))
exact_error bytes f g (seen s) (seen t) = refused f g (one_seen bytes g f t s)

-- where a fault stands, it is given
pub exact_by : (bytes : List ℕ) (answer : Result (List Placed) LexFault) → IfOk answer (IsLexed bytes) → IfErr answer (IsFault bytes) → (fault : LexFault) → IsFault bytes fault → IsFaultOrNoMemory fault answer
exact_by bytes (Ok given) found fault f h = elim (see bytes f h) [
  | memory e ↦ wanted_no_memory f (Ok given) e
  | ill_formed at e not_so valid ↦ absurd (not_so (lexed_utf8 bytes given found))
  | seen s ↦ absurd (apart bytes given f found s)
]
exact_by bytes (Err g) found fault f h = exact_error bytes f g (see bytes f h) (see bytes g fault)
