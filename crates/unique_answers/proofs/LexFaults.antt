-- Bytes have one first fault, and none where they spell tokens.
use Rattle.std.proofs.Common.{◌≡◌, refl, sym, ℕ, List, Err}
use Rattle.std.specs.Prelude.{◌≢◌}
use Rattle.erl_tree.specs.Profile.{IsLexed}
use Rattle.erl_tree.specs.declared.token.Placed.{Placed}
use Rattle.erl_lexer.specs.Faults.{IsFault, IsOrNoMemory, IsFaultOrNoMemory}
use Rattle.erl_lexer.specs.declared.LexFault.{LexFault}
use Rattle.erl_lexer.specs.declared.LexFault.TheVariants.{NoMemory, NotUtf8, OutOfProfile, WideNumber, BadEscape, BadToken}
use Rattle.erl_lexer.proofs.Answered.{only_by, exact_by}

-- the fault that is told is the one that stands, unless memory ran out
is-told : (f g : LexFault) → IsFaultOrNoMemory f (Err g) → f ≢ NoMemory → g ≢ NoMemory → g ≡ f
is-told NoMemory g h n m = absurd (n refl)
is-told (NotUtf8 x) NoMemory h n m = absurd (m refl)
is-told (NotUtf8 x) (NotUtf8 z) h n m = h
is-told (NotUtf8 x) (OutOfProfile z w) h n m = h
is-told (NotUtf8 x) (WideNumber z) h n m = h
is-told (NotUtf8 x) (BadEscape z) h n m = h
is-told (NotUtf8 x) (BadToken z) h n m = h
is-told (OutOfProfile x y) NoMemory h n m = absurd (m refl)
is-told (OutOfProfile x y) (NotUtf8 z) h n m = h
is-told (OutOfProfile x y) (OutOfProfile z w) h n m = h
is-told (OutOfProfile x y) (WideNumber z) h n m = h
is-told (OutOfProfile x y) (BadEscape z) h n m = h
is-told (OutOfProfile x y) (BadToken z) h n m = h
is-told (WideNumber x) NoMemory h n m = absurd (m refl)
is-told (WideNumber x) (NotUtf8 z) h n m = h
is-told (WideNumber x) (OutOfProfile z w) h n m = h
is-told (WideNumber x) (WideNumber z) h n m = h
is-told (WideNumber x) (BadEscape z) h n m = h
is-told (WideNumber x) (BadToken z) h n m = h
is-told (BadEscape x) NoMemory h n m = absurd (m refl)
is-told (BadEscape x) (NotUtf8 z) h n m = h
is-told (BadEscape x) (OutOfProfile z w) h n m = h
is-told (BadEscape x) (WideNumber z) h n m = h
is-told (BadEscape x) (BadEscape z) h n m = h
is-told (BadEscape x) (BadToken z) h n m = h
is-told (BadToken x) NoMemory h n m = absurd (m refl)
is-told (BadToken x) (NotUtf8 z) h n m = h
is-told (BadToken x) (OutOfProfile z w) h n m = h
is-told (BadToken x) (WideNumber z) h n m = h
is-told (BadToken x) (BadEscape z) h n m = h
is-told (BadToken x) (BadToken z) h n m = h

pub one-fault : (bytes : List ℕ) (f g : LexFault) → IsFault bytes f → IsFault bytes g → f ≢ NoMemory → g ≢ NoMemory → f ≡ g
one-fault bytes f g h k n m = sym (is-told f g (exact_by bytes (Err g) tt k f h) n m)

no-memory : (tokens : List Placed) (f : LexFault) → IsOrNoMemory tokens (Err f) → f ≡ NoMemory
no-memory tokens NoMemory h = refl
no-memory tokens (NotUtf8 x) h = absurd h
no-memory tokens (OutOfProfile x y) h = absurd h
no-memory tokens (WideNumber x) h = absurd h
no-memory tokens (BadEscape x) h = absurd h
no-memory tokens (BadToken x) h = absurd h

pub lexed-or-fault : (bytes : List ℕ) (tokens : List Placed) (f : LexFault) → IsLexed bytes tokens → IsFault bytes f → f ≡ NoMemory
lexed-or-fault bytes tokens f h k = no-memory tokens f (only_by bytes (Err f) tt k tokens h)
