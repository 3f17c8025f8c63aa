-- What the loop over a text keeps: the characters begin with the tokens so far, up to its place.
use Rattle.std.proofs.Common.{◌≡◌, ◌≢◌, ℕ, ◌+◌, ◌≤◌, Bool, true, false, List, [], ◌∷◌, ◌++◌, length, take, drop, Option, Some, None, Ok, Err, refl, ap, sym, subst, ◌∙◌, arith}
use Rattle.std.specs.Prelude.{if◌then◌else◌, IsUtf8}
use Rattle.std.proofs.Math.Dec.{eqb}
use Rattle.std.proofs.lemmas.Bool.{eqb-true, ne_eqb}
use Rattle.std.proofs.lemmas.List.{take-append-drop, nil_from_length}
use Rattle.std.proofs.lemmas.Str.{length-le-encodes}
use lib.Utf8.{encodes, scalars}
use Rattle.erl_tree.specs.declared.token.Place.{Place}
use Rattle.erl_tree.specs.declared.token.Placed.{Placed}
use Rattle.erl_tree.specs.declared.token.Token.{Token}
use Rattle.erl_tree.specs.declared.token.Token.TheVariants as T
use Rattle.erl_tree.specs.Lexis.{IsGap, IsLongest, token_of, after, start}
use Rattle.erl_tree.specs.Limits.{IsInLimit}
use Rattle.erl_tree.specs.Profile.{outside_form, bad_escape, begins_gap, BeginsWith, IsLexed, IsRightUpTo}
use Rattle.erl_tree.proofs.TokenTexts.{NoGap}
use Rattle.erl_lexer.specs.declared.LexFault.{LexFault}
use Rattle.erl_lexer.specs.declared.LexFault.TheVariants.{NoMemory, NotUtf8, OutOfProfile, WideNumber, BadEscape, BadToken}
use Rattle.erl_lexer.specs.Scan.{gap_run, byte_step, is_continuation, bytes_after, character_bytes, character_run, length_by, token_length, token_by}
use Rattle.erl_lexer.specs.Found.{Finds}
use Rattle.erl_lexer.specs.Faults.{IsFault}
use Rattle.erl_lexer.proofs.Encoded.{bytes_of, sized, take_bytes, drop_bytes}
use Rattle.erl_lexer.proofs.Walks.{gap_bytes}
use Rattle.erl_lexer.proofs.Same.{after_same, form_same, bad_escape_same, length_same}
use Rattle.erl_lexer.proofs.Texts.{IsText, length_is, longest, none_there}
use Rattle.erl_lexer.proofs.Values.{token_same}
use Rattle.erl_lexer.proofs.Runs.{gap_is}

abbrev pub placed : Token → Place → Placed
placed t p = record { token = t; place = p }

-- ---- characters that begin with tokens

-- the characters from a place on begin with gaps and the texts of these tokens in turn, up to the end of the last one
unfoldable Reaches : Place → List ℕ → List Placed → (there : Place) → (rest : List ℕ) → Type 0
Reaches p text [] there rest = (text ≡ rest) × (there ≡ p)
Reaches p text (t ∷ ts) there rest = (gap word more : List ℕ) × (text ≡ gap ++ (word ++ more)) × IsGap false gap (word ++ more)
    × (token_of word more ≡ Some t.token) × IsLongest word more × (t.place ≡ after p gap) × (outside_form (word ++ more) ≡ None) × IsInLimit t.token × Reaches (after (after p gap) word) more ts there rest

-- a gap and a token follow there
record IsNext (there : Place) (rest : List ℕ) (t : Placed) (gap word more : List ℕ) : Type 0 where
  split : rest ≡ gap ++ (word ++ more)
  is_gap : IsGap false gap (word ++ more)
  token : token_of word more ≡ Some t.token
  longest : IsLongest word more
  place : t.place ≡ after there gap
  inside : outside_form (word ++ more) ≡ None
  limit : IsInLimit t.token

reaches_start : (p : Place) (text : List ℕ) → Reaches p text [] p text
unfolding Reaches
reaches_start p text = (refl, refl)

reaches_push : (ts : List Placed) (p there : Place) (text rest : List ℕ) (t : Placed) (gap word more : List ℕ) → Reaches p text ts there rest → IsNext there rest t gap word more → Reaches p text (ts ++ t ∷ []) (after (after there gap) word) more
unfolding Reaches
reaches_push [] p there text rest t gap word more (e, i) n =
    (gap, word, more, e ∙ n.split, n.is_gap, n.token, n.longest, n.place ∙ ap (λ (q : Place). after q gap) i, n.inside, n.limit, (refl, ap (λ (q : Place). after (after q gap) word) i))
reaches_push (u ∷ us) p there text rest t gap word more (g, w, m, e, i, k, l, q, o, b, r) n = (g, w, m, e, i, k, l, q, o, b, reaches_push us (after (after p g) w) there m rest t gap word more r n)

reaches_gap : (ts : List Placed) (p there : Place) (text gap rest : List ℕ) → Reaches p text ts there (gap ++ rest) → IsGap false gap rest → begins_gap rest ≡ false → BeginsWith p text ts (after there gap) rest
unfolding Reaches BeginsWith
reaches_gap [] p there text gap rest (e, i) h n = (gap, e, h, n, ap (λ (q : Place). after q gap) i)
reaches_gap (u ∷ us) p there text gap rest (g, w, m, e, i, k, l, q, o, b, r) h n = (g, w, m, e, i, k, l, q, o, b, reaches_gap us (after (after p g) w) there m gap rest r h n)

-- ---- the loop

-- the bytes are characters that begin with these tokens, and the rest of them is these bytes
pub record IsSoFar (bytes : List ℕ) (out : List Placed) (place : Place) (left : List ℕ) : Type 0 where
  characters : List ℕ
  are_characters : scalars characters ≡ true
  encoded : encodes characters ≡ bytes
  rest : List ℕ
  of_rest : encodes rest ≡ left
  reached : Reaches start characters out place rest

pub begins : (bytes : List ℕ) → IsUtf8 bytes → IsSoFar bytes [] start bytes
begins bytes u = record { characters = u.0; are_characters = u.1.0; encoded = u.1.1; rest = u.0; of_rest = u.1.1; reached = reaches_start start u.0 }

-- the same behind a gap, at a token's place or the end
pub record IsAt (bytes : List ℕ) (out : List Placed) (here : Place) (more : List ℕ) : Type 0 where
  characters : List ℕ
  are_characters : scalars characters ≡ true
  encoded : encodes characters ≡ bytes
  before : Place
  gap : List ℕ
  rest : List ℕ
  of_rest : encodes rest ≡ more
  reached : Reaches start characters out before (gap ++ rest)
  is_gap : IsGap false gap rest
  no_gap : begins_gap rest ≡ false
  place : here ≡ after before gap

begins_no_gap : (rest : List ℕ) → NoGap rest → begins_gap rest ≡ false
begins_no_gap [] h = refl
begins_no_gap (c ∷ cs) h = rw (h.0, ne_eqb c 37 h.1) refl

at_place : (bytes : List ℕ) (out : List Placed) (place : Place) (left : List ℕ) (s : IsSoFar bytes out place left) → IsAt bytes out (bytes_after place (take (gap_run false left) left)) (drop (gap_run false left) left)
at_place bytes out place left s =
    let m : ℕ = gap_run false s.rest in
    let g = (gap_is s.rest).0 in
    let size : gap_run false left ≡ bytes_of m s.rest = ap (gap_run false) (sym s.of_rest) ∙ (gap_bytes s.rest).0 in
    let front : take (gap_run false left) left ≡ encodes (take m s.rest) = ap (λ (k : ℕ). take k left) size ∙ (ap (take (bytes_of m s.rest)) (sym s.of_rest) ∙ take_bytes m s.rest) in
    let back : drop (gap_run false left) left ≡ encodes (drop m s.rest) = ap (λ (k : ℕ). drop k left) size ∙ (ap (drop (bytes_of m s.rest)) (sym s.of_rest) ∙ drop_bytes m s.rest) in
    record {
      characters = s.characters;
      are_characters = s.are_characters;
      encoded = s.encoded;
      before = place;
      gap = take m s.rest;
      rest = drop m s.rest;
      of_rest = sym back;
      reached = subst (λ (l : List ℕ). Reaches start s.characters out place l) (sym (take-append-drop m s.rest)) s.reached;
      is_gap = g.gap;
      no_gap = begins_no_gap (drop m s.rest) g.ends;
      place = ap (bytes_after place) front ∙ after_same place (take m s.rest);
    }

pub at_gap : (bytes : List ℕ) (out : List Placed) (place here : Place) (left gap more : List ℕ) (n : ℕ) → IsSoFar bytes out place left → n ≡ gap_run false left → gap ≡ take n left → more ≡ drop n left → here ≡ bytes_after place gap → IsAt bytes out here more
at_gap bytes out place here left gap more n s e eg em eh =
    let a = at_place bytes out place left s in
    let here_is : here ≡ bytes_after place (take (gap_run false left) left) = eh ∙ ap (bytes_after place) (eg ∙ ap (λ (k : ℕ). take k left) e) in
    let more_is : more ≡ drop (gap_run false left) left = em ∙ ap (λ (k : ℕ). drop k left) e in
    subst (λ (p : Place). IsAt bytes out p more) (sym here_is) (subst (λ (l : List ℕ). IsAt bytes out (bytes_after place (take (gap_run false left) left)) l) (sym more_is) a)

begins_at : (bytes : List ℕ) (out : List Placed) (here : Place) (more : List ℕ) (a : IsAt bytes out here more) → BeginsWith start a.characters out here a.rest
begins_at bytes out here more a = subst (λ (p : Place). BeginsWith start a.characters out p a.rest) (sym a.place) (reaches_gap out start a.before a.characters a.gap a.rest a.reached a.is_gap a.no_gap)

encodes_nil : (cs : List ℕ) → encodes cs ≡ [] → cs ≡ []
encodes_nil cs e = nil_from_length cs (omega (arith, length-le-encodes cs, ap (λ (l : List ℕ). length l) e))

-- at the end
pub ends : (bytes : List ℕ) (out all : List Placed) (here : Place) (more : List ℕ) → IsAt bytes out here more → more ≡ [] → all ≡ out ++ placed T.End here ∷ [] → IsLexed bytes all
ends bytes out all here more a e l =
    let none : a.rest ≡ [] = encodes_nil a.rest (a.of_rest ∙ e) in
    record {
      characters = a.characters;
      are_characters = a.are_characters;
      encoded = a.encoded;
      before = out;
      end = here;
      spelled = subst (λ (r : List ℕ). BeginsWith start a.characters out here r) none (begins_at bytes out here more a);
      listed = l;
    }

-- ---- what next finds

-- so many bytes are a longest text and its token
record IsRead (n : ℕ) (rest : List ℕ) (token : Token) : Type 0 where
  size : ℕ
  bytes : n ≡ bytes_of size rest
  text : IsText size rest
  spelled : token_of (take size rest) (drop size rest) ≡ Some token
  longest : IsLongest (take size rest) (drop size rest)

sized_is : (o : Option ℕ) (cs : List ℕ) (n : ℕ) → sized o cs ≡ Some n → (m : ℕ) × (o ≡ Some m) × (n ≡ bytes_of m cs)
sized_is None cs n e = absurd cc
sized_is (Some m) cs n e = (m, refl, some_back (bytes_of m cs) n e)
  where
    some_back : (a b : ℕ) → Some a ≡ Some b → b ≡ a
    some_back a b e = cc

sized_none : (o : Option ℕ) (cs : List ℕ) → sized o cs ≡ None → o ≡ None
sized_none None cs e = refl
sized_none (Some m) cs e = absurd cc

read : (rest more : List ℕ) (n : ℕ) → encodes rest ≡ more → token_length more ≡ Some n → IsRead n rest (token_by (take n more) (drop n more))
read rest more n e h =
    let s = sized_is (length_by character_run rest) rest n (sym (length_same rest) ∙ (ap (length_by character_bytes) e ∙ h)) in
    let t = length_is s.0 rest s.1 in
    let front : take n more ≡ encodes (take s.0 rest) = ap (λ (k : ℕ). take k more) s.2 ∙ (ap (take (bytes_of s.0 rest)) (sym e) ∙ take_bytes s.0 rest) in
    let back : drop n more ≡ encodes (drop s.0 rest) = ap (λ (k : ℕ). drop k more) s.2 ∙ (ap (drop (bytes_of s.0 rest)) (sym e) ∙ drop_bytes s.0 rest) in
    let same : token_by (encodes (take s.0 rest)) (encodes (drop s.0 rest)) ≡ token_by (take n more) (drop n more) = ap (λ (l : List ℕ). token_by l (encodes (drop s.0 rest))) (sym front) ∙ ap (token_by (take n more)) (sym back) in
    record {
      size = s.0;
      bytes = s.2;
      text = t;
      spelled = token_same (take s.0 rest) (drop s.0 rest) t.is ∙ ap (λ (x : Token). Some x) same;
      longest = longest s.0 rest s.1;
    }

inside_at : (rest more : List ℕ) (o : Option (List ℕ)) → encodes rest ≡ more → outside_form more ≡ o → outside_form rest ≡ o
inside_at rest more o e h = sym (form_same rest) ∙ (ap outside_form e ∙ h)

-- a token more
pub goes : (bytes : List ℕ) (out all : List Placed) (here there : Place) (more text follow : List ℕ) (t : Token) (n : ℕ) → IsAt bytes out here more → Finds here more (Ok (t, n)) → text ≡ take n more → follow ≡ drop n more → there ≡ bytes_after here text
    → all ≡ out ++ placed t here ∷ [] → IsSoFar bytes all there follow
goes bytes out all here there more text follow t n a f et ef ep ea =
    let r = read a.rest more n a.of_rest f.1 in
    let word : List ℕ = take r.size a.rest in
    let after_word : List ℕ = drop r.size a.rest in
    let whole : a.rest ≡ word ++ after_word = sym (take-append-drop r.size a.rest) in
    let front : take n more ≡ encodes word = ap (λ (k : ℕ). take k more) r.bytes ∙ (ap (take (bytes_of r.size a.rest)) (sym a.of_rest) ∙ take_bytes r.size a.rest) in
    let back : drop n more ≡ encodes after_word = ap (λ (k : ℕ). drop k more) r.bytes ∙ (ap (drop (bytes_of r.size a.rest)) (sym a.of_rest) ∙ drop_bytes r.size a.rest) in
    let next : IsNext a.before (a.gap ++ a.rest) (placed t here) a.gap word after_word = record {
      split = ap (λ (l : List ℕ). a.gap ++ l) whole;
      is_gap = subst (λ (l : List ℕ). IsGap false a.gap l) whole a.is_gap;
      token = r.spelled ∙ ap (λ (x : Token). Some x) (sym f.2);
      longest = r.longest;
      place = a.place;
      inside = ap outside_form (sym whole) ∙ inside_at a.rest more None a.of_rest f.0;
      limit = f.3;
    } in
    let there_is : there ≡ after (after a.before a.gap) word = ep ∙ (ap (bytes_after here) (et ∙ front) ∙ (after_same here word ∙ ap (λ (p : Place). after p word) a.place)) in
    record {
      characters = a.characters;
      are_characters = a.are_characters;
      encoded = a.encoded;
      rest = after_word;
      of_rest = sym (ef ∙ back);
      reached = rw (ea, there_is) (reaches_push out start a.before a.characters (a.gap ++ a.rest) (placed t here) a.gap word after_word a.reached next);
    }

-- a fault
pub fails : (bytes : List ℕ) (out : List Placed) (here : Place) (more : List ℕ) (fault : LexFault) → IsAt bytes out here more → more ≢ [] → Finds here more (Err fault) → IsFault bytes fault
fails bytes out here more NoMemory a n f = tt
fails bytes out here more (NotUtf8 at) a n f = absurd f
fails bytes out here more (OutOfProfile place form) a n f =
    (a.characters, a.are_characters, a.encoded, rw f.1 (record { tokens = out; rest = a.rest; begins = begins_at bytes out here more a; outside = inside_at a.rest more (Some form) a.of_rest f.0 }))
fails bytes out here more (WideNumber place) a n f =
    let k : ℕ = f.1.0 in
    let r = read a.rest more k a.of_rest f.1.1 in
    let whole : a.rest ≡ take r.size a.rest ++ drop r.size a.rest = sym (take-append-drop r.size a.rest) in (
      a.characters,
      a.are_characters,
      a.encoded,
      rw f.2 (record {
        word = take r.size a.rest;
        more = drop r.size a.rest;
        token = token_by (take k more) (drop k more);
        right = subst (λ (l : List ℕ). IsRightUpTo a.characters here l) whole (record { tokens = out; begins = begins_at bytes out here more a; inside = inside_at a.rest more None a.of_rest f.0 });
        spelled = r.spelled;
        longest = r.longest;
        wide = f.1.2;
      }),
    )
fails bytes out here more (BadEscape place) a n f =
    let k : ℕ = f.1.0 in
    let s = sized_is (bad_escape a.rest) a.rest k (sym (bad_escape_same a.rest) ∙ (ap bad_escape a.of_rest ∙ f.1.1)) in
    let front : take k more ≡ encodes (take s.0 a.rest) = ap (λ (j : ℕ). take j more) s.2 ∙ (ap (take (bytes_of s.0 a.rest)) (sym a.of_rest) ∙ take_bytes s.0 a.rest) in (
      a.characters,
      a.are_characters,
      a.encoded,
      record {
        there = here;
        rest = a.rest;
        before = s.0;
        right = record { tokens = out; begins = begins_at bytes out here more a; inside = inside_at a.rest more None a.of_rest f.0 };
        bad = s.1;
        placed = f.1.2 ∙ (ap (bytes_after here) front ∙ after_same here (take s.0 a.rest));
      },
    )
fails bytes out here more (BadToken place) a n f = (
  a.characters,
  a.are_characters,
  a.encoded,
  rw f.3 (record {
    rest = a.rest;
    right = record { tokens = out; begins = begins_at bytes out here more a; inside = inside_at a.rest more None a.of_rest f.0 };
    escapes = sized_none (bad_escape a.rest) a.rest (sym (bad_escape_same a.rest) ∙ (ap bad_escape a.of_rest ∙ f.1));
    goes_on = λ e. n (sym a.of_rest ∙ ap encodes e);
    no_token = λ word rest t e g. none_there a.rest word rest t (sized_none (length_by character_run a.rest) a.rest (sym (length_same a.rest) ∙ (ap (length_by character_bytes) a.of_rest ∙ f.2))) e g;
  }),
)

-- ---- places

abbrev place_if : Bool → Bool → Place → Place
place_if b d p = if b then (record { line = p.line + 1; column = 1 }) else if d then p else (record { line = p.line; column = p.column + 1 })

step_line : (p : Place) (b d : Bool) → (place_if b d p).line ≤ p.line + 1
step_line p true d = omega arith
step_line p false true = omega arith
step_line p false false = omega arith

step_column : (p : Place) (b d : Bool) → (place_if b d p).column ≤ p.column + 1
step_column p true d = omega arith
step_column p false true = omega arith
step_column p false false = omega arith

after_line : (p : Place) (text : List ℕ) → (bytes_after p text).line ≤ p.line + length text
after_line p [] = omega arith
after_line p (c ∷ cs) = omega (arith, after_line (byte_step p c) cs, step_line p (eqb c 10) (is_continuation c))

after_column : (p : Place) (text : List ℕ) → (bytes_after p text).column ≤ p.column + length text
after_column p [] = omega arith
after_column p (c ∷ cs) = omega (arith, after_column (byte_step p c) cs, step_column p (eqb c 10) (is_continuation c))

pub line_at : (p here : Place) (gap : List ℕ) → here ≡ bytes_after p gap → here.line ≤ p.line + length gap
line_at p here gap e = rw e (after_line p gap)

pub column_at : (p here : Place) (gap : List ℕ) → here ≡ bytes_after p gap → here.column ≤ p.column + length gap
column_at p here gap e = rw e (after_column p gap)

pub empty_is : (more : List ℕ) → true ≡ eqb (length more) 0 → more ≡ []
empty_is more e = nil_from_length more (eqb-true _ _ (sym e))

pub not_empty : (more : List ℕ) → false ≡ eqb (length more) 0 → more ≢ []
not_empty more e h = let z : false ≡ true = e ∙ ap (λ l. eqb (length l) 0) h in cc
