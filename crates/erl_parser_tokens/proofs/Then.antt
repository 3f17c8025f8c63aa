-- What is said of a reader, from what is said of its steps in turn. Right: each value that is answered is of some kind, and each fault is right. Again: the answer is a value of some kind, or the place of a node of some kind that is nested too deep.
use Rattle.std.proofs.Common.{◌≡◌, ℕ, ◌≤◌, Bool, true, false, List, [], ◌∷◌, ◌++◌, refl, ap, sym, ◌∙◌, subst, inl, inr, append_assoc, leb-true, leb-false}
use Rattle.std.specs.Prelude.{Option, Some, None, Ok, Err, if◌then◌else◌, codes}
use Rattle.erl_tree.specs.Lists.{Among}
use Rattle.erl_tree.specs.declared.token.Place.{Place}
use Rattle.erl_tree.specs.declared.token.Placed.{Placed}
use Rattle.erl_tree.specs.declared.token.Token.TheVariants as T
use Rattle.erl_grammar.specs.Pieces.{at}
use Rattle.erl_grammar.specs.Nesting.{Deep}
use Rattle.erl_parser_tokens.specs.declared.fault.ParseFault.{ParseFault}
use Rattle.erl_parser_tokens.specs.declared.fault.ParseFault.TheVariants as faults
use Rattle.erl_parser_tokens.specs.declared.height.Height.{Height}
use Rattle.erl_parser_tokens.specs.declared.height.Measured.{Measured}
use Rattle.erl_parser_tokens.specs.Heights.{measured}
use Rattle.erl_parser_tokens.specs.Tokens.{Answer, Accepts, ◌>>=◌, in_case, outside, found_in, expect}
use Rattle.erl_parser_tokens.specs.Parts.{within}
use Rattle.erl_parser_tokens.specs.Outside.{HasOutside, IsOutside, by_word, behind_expr, behind_pattern, behind_type, remote_atom, remote_variable, remote_fun, remote_type, no_set_operation, remote_spec, by_attribute, by_attribute_word, adjacent_strings, named_fun, map_comprehension, stack_trace, record_wildcard, record_index, map_key, arity, wrong_call, wrong_prefixed_call, guard_call}
use Rattle.erl_parser_tokens.proofs.Right.{Measures, Read, IsFaultRight, IsRight, IsAgain}

-- ---- tokens behind others

-- the tokens end with these
pub record Behind (ts us : List Placed) : Type 0 where
  pub front : List Placed
  pub split : ts ≡ front ++ us

pub behind_none : {ts : List Placed} → Behind ts ts
behind_none = record { front = []; split = refl }

pub behind_token : {ts us : List Placed} {t : Placed} → ts ≡ t ∷ us → Behind ts us
behind_token {t = t} e = record { front = t ∷ []; split = e }

pub behind_part : {ts us : List Placed} (front : List Placed) → ts ≡ front ++ us → Behind ts us
behind_part front e = record { front = front; split = e }

pub behind_behind : {ts us vs : List Placed} → Behind ts us → Behind us vs → Behind ts vs
behind_behind {vs = vs} b c = record { front = b.front ++ c.front; split = b.split ∙ (ap (λ l. b.front ++ l) c.split ∙ sym (append_assoc b.front c.front vs)) }

later : {form : List ℕ} {p : Place} {rest : List Placed} (front before us : List Placed) → IsOutside form p ((front ++ before) ++ us) rest → IsOutside form p (front ++ (before ++ us)) rest
later {form} {p} {rest} front before us h = subst (λ l. IsOutside form p l rest) (append_assoc front before us) h

outside_later : {form : List ℕ} {p : Place} {before rest : List Placed} (front : List Placed) → IsOutside form p before rest → IsOutside form p (front ++ before) rest
outside_later front (by_word form text p before rest e) = by_word form text p (front ++ before) rest e
outside_later front (behind_expr form e t p before rest i h) = subst (λ l. IsOutside form p l (at t p ∷ rest)) (append_assoc front before _) (behind_expr form e t p (front ++ before) rest i h)
outside_later front (behind_pattern form q t p before rest i h) = subst (λ l. IsOutside form p l (at t p ∷ rest)) (append_assoc front before _) (behind_pattern form q t p (front ++ before) rest i h)
outside_later front (behind_type form u t p before rest i h) = subst (λ l. IsOutside form p l (at t p ∷ rest)) (append_assoc front before _) (behind_type form u t p (front ++ before) rest i h)
outside_later front (remote_atom a q p before rest e) = subst (λ l. IsOutside (codes "remote name") p l (at (T.Mark (codes ":")) p ∷ rest)) (append_assoc front before _) (remote_atom a q p (front ++ before) rest e)
outside_later front (remote_variable x q p before rest) = subst (λ l. IsOutside (codes "remote name") p l (at (T.Mark (codes ":")) p ∷ rest)) (append_assoc front before _) (remote_variable x q p (front ++ before) rest)
outside_later front (remote_fun a f q p before rest) = subst (λ l. IsOutside (codes "remote name") p l (at (T.Mark (codes ":")) p ∷ rest)) (append_assoc front before _) (remote_fun a f q p (front ++ before) rest)
outside_later front (remote_type a q p before rest e) = subst (λ l. IsOutside (codes "remote name") p l (at (T.Mark (codes ":")) p ∷ rest)) (append_assoc front before _) (remote_type a q p (front ++ before) rest e)
outside_later front (no_set_operation name args p d n o c ms before rest e g h) = later front before (at (T.Atom (codes "ety")) p ∷ []) (no_set_operation name args p d n o c ms (front ++ before) rest e g h)
outside_later front (remote_spec a h w q p before rest) = subst (λ l. IsOutside (codes "remote name") p l (at (T.Mark (codes ":")) p ∷ rest)) (append_assoc front before _) (remote_spec a h w q p (front ++ before) rest)
outside_later front (by_attribute form name p q before rest e) = by_attribute form name p q (front ++ before) rest e
outside_later front (by_attribute_word word p q before rest e) = by_attribute_word word p q (front ++ before) rest e
outside_later front (adjacent_strings s t p q before rest) = adjacent_strings s t p q (front ++ before) rest
outside_later front (named_fun x p q before rest) = named_fun x p q (front ++ before) rest
outside_later front (map_comprehension b n p before rest i) = subst (λ l. IsOutside (codes "map comprehension") p l (at (T.Mark (codes "||")) p ∷ rest)) (append_assoc front before _) (map_comprehension b n p (front ++ before) rest i)
outside_later front (stack_trace c q d p before rest i j) = subst (λ l. IsOutside (codes "stack trace") p l (at (T.Mark (codes ":")) p ∷ rest)) (append_assoc front before _) (stack_trace c q d p (front ++ before) rest i j)
outside_later front (record_wildcard p q before rest) = record_wildcard p q (front ++ before) rest
outside_later front (record_index name p q r before rest) = record_index name p q r (front ++ before) rest
outside_later front (map_key t p before rest e) = map_key t p (front ++ before) rest e
outside_later front (wrong_call name args p o c ms before rest e g h) = wrong_call name args p o c ms (front ++ before) rest e g h
outside_later front (wrong_prefixed_call name args p d n o c ms before rest e g h) = wrong_prefixed_call name args p d n o c ms (front ++ before) rest e g h
outside_later front (guard_call e p before rest h m) = guard_call e p (front ++ before) rest h m
outside_later front (arity ps ms o m before rest t e g h) = subst (λ l. IsOutside (codes "arity") t.place l (t ∷ rest)) (append_assoc front before _) (arity ps ms o m (front ++ before) rest t e g h)

-- a form outside of the profile stands there also in what has more tokens in front
pub has_outside-behind : {ts us : List Placed} {p : Place} {form : List ℕ} → Behind ts us → HasOutside us p form → HasOutside ts p form
has_outside-behind b h = record { before = b.front ++ h.before; rest = h.rest; split = b.split ∙ (ap (λ l. b.front ++ l) h.split ∙ sym (append_assoc b.front h.before h.rest)); stands = outside_later b.front h.stands }

pub fault_behind : {ts us : List Placed} → Behind ts us → (f : ParseFault) → IsFaultRight us f → IsFaultRight ts f
fault_behind b (faults.OutOfProfile p form) h = has_outside-behind b h
fault_behind b _ h = tt

-- ---- right

-- what is answered is a value of which this is true, or a fault that is right
abbrev pub RightBy : {X : Type 0} → (X → Type 0) → List Placed → Answer X → Type 0
RightBy Good ts (Ok x) = Good x
RightBy Good ts (Err f) = IsFaultRight ts f

pub record Right {X : Type 0} (Good : X → Type 0) (ts : List Placed) (answer : Answer X) : Type 0 where
  pub holds : RightBy Good ts answer

pub right_ok : {X : Type 0} {G : X → Type 0} {ts : List Placed} {x : X} → G x → Right G ts (Ok x)
right_ok g = record { holds = g }

pub right_fault : {X : Type 0} {G : X → Type 0} {ts : List Placed} {f : ParseFault} → IsFaultRight ts f → Right G ts (Err f)
right_fault h = record { holds = h }

pub right_outside : {X : Type 0} {G : X → Type 0} {ts : List Placed} {form : List ℕ} {p : Place} → HasOutside ts p form → Right G ts (outside form p)
right_outside h = record { holds = h }

-- what is read is of another kind too
pub right_as : {X : Type 0} {G H : X → Type 0} {ts : List Placed} {answer : Answer X} → ((x : X) → G x → H x) → Right G ts answer → Right H ts answer
right_as {answer = Ok x} k r = record { holds = k x r.holds }
right_as {answer = Err f} k r = record { holds = r.holds }

-- what was read behind other tokens
pub right_behind : {X : Type 0} {G : X → Type 0} {ts us : List Placed} {answer : Answer X} → Behind ts us → Right G us answer → Right G ts answer
right_behind {answer = Ok x} b r = record { holds = r.holds }
right_behind {answer = Err f} b r = record { holds = fault_behind b f r.holds }

-- one step, and those behind it
pub right_then : {X Y : Type 0} {G : X → Type 0} {H : Y → Type 0} {ts : List Placed} {answer : Answer X} {next : X → Answer Y} → Right G ts answer → ((x : X) → G x → Right H ts (next x)) → Right H ts (answer >>= next)
right_then {answer = Ok x} r k = k x r.holds
right_then {answer = Err f} r k = record { holds = r.holds }

-- a step that stands behind other tokens, and those behind it
pub right_next : {X Y : Type 0} {G : X → Type 0} {H : Y → Type 0} {ts us : List Placed} {answer : Answer X} {next : X → Answer Y} → Behind ts us → Right G us answer → ((x : X) → G x → Right H ts (next x)) → Right H ts (answer >>= next)
right_next b r k = right_then (right_behind b r) k

-- by cases of what was found
pub right_case : {A X : Type 0} {H : X → Type 0} {ts : List Placed} {o : Option A} {none : Answer X} {some : A → Answer X} → (o ≡ None → Right H ts none) → ((a : A) → o ≡ Some a → Right H ts (some a)) → Right H ts (in_case o none some)
right_case {o = None} n s = n refl
right_case {o = Some a} n s = s a refl

-- by a test
pub right_if : {X : Type 0} {H : X → Type 0} {ts : List Placed} {test : Bool} {one other : Answer X} → (test ≡ true → Right H ts one) → (test ≡ false → Right H ts other) → Right H ts (if test then one else other)
right_if {test = true} y n = y refl
right_if {test = false} y n = n refl

-- where what was read has not too many levels
pub right_within : {A X : Type 0} {H : X → Type 0} {ts : List Placed} {answer : Answer X} (levels : ℕ) (x : Measured A) → (x.height.depth ≤ levels → Right H ts answer) → Right H ts (within levels x answer)
right_within levels x k = right_if (λ e. k (leb-true x.height.depth levels e)) (λ e. right_fault tt)

right_found : {A : Type 0} {G : A × List Placed → Type 0} {ts : List Placed} {o : Option (A × List Placed)} → ((x : A × List Placed) → o ≡ Some x → G x) → Right G ts (found_in ts o)
right_found {o = None} k = right_fault tt
right_found {o = Some x} k = right_ok (k x refl)

-- what is expected there
pub right_expect : {A : Type 0} {G : A × List Placed → Type 0} (accept : Accepts A) (ts : List Placed) → ((x : A × List Placed) → accept ts ≡ Some x → G x) → Right G ts (expect accept ts)
right_expect accept ts k = right_found k

-- what is known of what was answered
pub right_is : {X : Type 0} {G : X → Type 0} {ts : List Placed} {answer : Answer X} {x : X} → Right G ts answer → answer ≡ Ok x → G x
right_is {G = G} {ts = ts} r e = (subst (λ z. Right G ts z) e r).holds

-- a part was read, with at most so many levels
abbrev pub IsRead : {A : Type 0} → (A → Type 0) → (A → List Placed) → (A → Deep) → ℕ → List Placed → Measured A × List Placed → Type 0
IsRead Is tokens deep levels ts q = Read Is tokens deep levels ts q.0 q.1

-- no node of it is nested too deep
pub is_shallow : {A : Type 0} {Is : A → Type 0} {tokens : A → List Placed} {deep : A → Deep} {levels : ℕ} {ts rest : List Placed} {x : Measured A} → Read Is tokens deep levels ts x rest → deep x.tree levels ≡ []
is_shallow {levels = levels} h = h.measures.shallow levels h.within

pub is_right : {A : Type 0} (Is : A → Type 0) (tokens : A → List Placed) (deep : A → Deep) (levels : ℕ) (ts : List Placed) (answer : Answer (Measured A × List Placed)) → Right (IsRead Is tokens deep levels ts) ts answer → IsRight Is tokens deep levels ts answer
is_right Is tokens deep levels ts (Ok q) r = r.holds
is_right Is tokens deep levels ts (Err f) r = r.holds

pub by_right : {A : Type 0} (Is : A → Type 0) (tokens : A → List Placed) (deep : A → Deep) (levels : ℕ) (ts : List Placed) (answer : Answer (Measured A × List Placed)) → IsRight Is tokens deep levels ts answer → Right (IsRead Is tokens deep levels ts) ts answer
by_right Is tokens deep levels ts (Ok q) r = record { holds = r }
by_right Is tokens deep levels ts (Err f) r = record { holds = r }

-- ---- again

-- what is answered is a value of which this is true, or a place of which that is true, as that of a node that is nested too deep
abbrev pub AgainBy : {X : Type 0} → (X → Type 0) → (Place → Type 0) → Answer X → Type 0
AgainBy Good Deeper (Ok x) = Good x
AgainBy Good Deeper (Err (faults.TooDeep p)) = Deeper p
AgainBy Good Deeper (Err _) = ⊥

pub record Again {X : Type 0} (Good : X → Type 0) (Deeper : Place → Type 0) (answer : Answer X) : Type 0 where
  pub holds : AgainBy Good Deeper answer

pub again_ok : {X : Type 0} {G : X → Type 0} {D : Place → Type 0} {x : X} → G x → Again G D (Ok x)
again_ok g = record { holds = g }

pub again_deep : {X : Type 0} {G : X → Type 0} {D : Place → Type 0} {p : Place} → D p → Again G D (Err (faults.TooDeep p))
again_deep d = record { holds = d }

deeper_as : {X Y : Type 0} (G : X → Type 0) (H : Y → Type 0) {D E : Place → Type 0} (f : ParseFault) → ((p : Place) → D p → E p) → AgainBy G D (Err f) → AgainBy H E (Err f)
deeper_as G H (faults.TooDeep p) d h = d p h
deeper_as G H _ d h = h

-- another answer that is the same
pub again_from : {X : Type 0} {G : X → Type 0} {D : Place → Type 0} {answer other : Answer X} → answer ≡ other → Again G D other → Again G D answer
again_from {G = G} {D = D} e a = subst (λ z. Again G D z) (sym e) a

-- what is read is of another kind too, and so are the places
pub again_as : {X : Type 0} {G H : X → Type 0} {D E : Place → Type 0} {answer : Answer X} → ((x : X) → G x → H x) → ((p : Place) → D p → E p) → Again G D answer → Again H E answer
again_as {answer = Ok x} k d a = record { holds = k x a.holds }
again_as {G = G} {H = H} {answer = Err f} k d a = record { holds = deeper_as G H f d a.holds }

-- one step, and those behind it
pub again_then : {X Y : Type 0} {G : X → Type 0} {H : Y → Type 0} {D E : Place → Type 0} {answer : Answer X} {next : X → Answer Y} → Again G D answer → ((p : Place) → D p → E p) → ((x : X) → G x → Again H E (next x)) → Again H E (answer >>= next)
again_then {answer = Ok x} a d k = k x a.holds
again_then {G = G} {H = H} {answer = Err f} a d k = record { holds = deeper_as G H f d a.holds }

-- a step that gives this, and those behind it
pub again_step : {X Y : Type 0} {H : Y → Type 0} {E : Place → Type 0} {answer : Answer X} (next : X → Answer Y) {x : X} → answer ≡ Ok x → Again H E (next x) → Again H E (answer >>= next)
again_step {H = H} {E = E} next e a = subst (λ z. Again H E (z >>= next)) (sym e) a

-- nothing was found
pub again_none : {A X : Type 0} {H : X → Type 0} {E : Place → Type 0} {o : Option A} {none : Answer X} (some : A → Answer X) → o ≡ None → Again H E none → Again H E (in_case o none some)
again_none {H = H} {E = E} {none = none} some e a = subst (λ z. Again H E (in_case z none some)) (sym e) a

-- this was found
pub again_some : {A X : Type 0} {H : X → Type 0} {E : Place → Type 0} {o : Option A} (none : Answer X) (some : A → Answer X) {x : A} → o ≡ Some x → Again H E (some x) → Again H E (in_case o none some)
again_some {H = H} {E = E} none some e a = subst (λ z. Again H E (in_case z none some)) (sym e) a

-- a test passes
pub again_true : {X : Type 0} {H : X → Type 0} {E : Place → Type 0} {test : Bool} {one : Answer X} (other : Answer X) → test ≡ true → Again H E one → Again H E (if test then one else other)
again_true {H = H} {E = E} {one = one} other e a = subst (λ z. Again H E (if z then one else other)) (sym e) a

-- a test fails
pub again_false : {X : Type 0} {H : X → Type 0} {E : Place → Type 0} {test : Bool} (one : Answer X) {other : Answer X} → test ≡ false → Again H E other → Again H E (if test then one else other)
again_false {H = H} {E = E} one {other = other} e a = subst (λ z. Again H E (if z then one else other)) (sym e) a

-- by a test
pub again_if : {X : Type 0} {H : X → Type 0} {E : Place → Type 0} {test : Bool} {one other : Answer X} → (test ≡ true → Again H E one) → (test ≡ false → Again H E other) → Again H E (if test then one else other)
again_if {test = true} y n = y refl
again_if {test = false} y n = n refl

-- where what was read has not too many levels
pub again_within : {A X : Type 0} {H : X → Type 0} {E : Place → Type 0} {deep : Deep} {answer : Answer X} (levels : ℕ) (x : Measured A) → Measures deep x.height → ((p : Place) → Among p (deep levels) → E p) → Again H E answer → Again H E (within levels x answer)
again_within levels x m d a = again_if (λ e. a) (λ e. again_deep (d x.height.deepest (m.reached levels (leb-false x.height.depth levels e))))

-- the part was read, and these tokens come behind it
abbrev pub IsPart : {A : Type 0} → A → List Placed → Measured A × List Placed → Type 0
IsPart x rest q = (h : Height) × (q ≡ (measured x h, rest))

-- a node of the part that is nested deeper than so many levels begins there
abbrev pub IsDeep : {A : Type 0} → (A → Deep) → ℕ → A → Place → Type 0
IsDeep deep levels x p = Among p (deep x levels)

-- a part was read again, and those steps behind it
pub again_read : {A Y : Type 0} {H : Y → Type 0} {D E : Place → Type 0} {x : A} {rest : List Placed} {answer : Answer (Measured A × List Placed)} (next : Measured A × List Placed → Answer Y) → Again (IsPart x rest) D answer → ((p : Place) → D p → E p) → ((h : Height) → Again H E (next (measured x h, rest))) → Again H E (answer >>= next)
again_read {H = H} {E = E} next a d k = again_then a d λ q g. subst (λ z. Again H E (next z)) (sym g.1) (k g.0)

-- the part was read and measured rightly, and these tokens come behind it
abbrev pub IsMeasuredPart : {A : Type 0} → (A → Deep) → A → List Placed → Measured A × List Placed → Type 0
IsMeasuredPart deep x rest q = (h : Height) × Measures (deep x) h × (q ≡ (measured x h, rest))

pub again_measured : {A : Type 0} {Is : A → Type 0} {tokens : A → List Placed} {deep : A → Deep} {levels : ℕ} {ts rest : List Placed} {x : A} {D : Place → Type 0} {answer : Answer (Measured A × List Placed)} → Right (IsRead Is tokens deep levels ts) ts answer → Again (IsPart x rest) D answer → Again (IsMeasuredPart deep x rest) D answer
again_measured {deep = deep} {answer = Ok q} r a = again_ok (a.holds.0, subst (λ z. Measures (deep z.0.tree) z.0.height) a.holds.1 r.holds.measures, a.holds.1)
again_measured {deep = deep} {rest = rest} {x = x} {answer = Err f} r a = record { holds = deeper_as (IsPart x rest) (IsMeasuredPart deep x rest) f (λ p d. d) a.holds }

-- the same of a part that is read and measured rightly
pub again_read_right : {A Y : Type 0} {Is : A → Type 0} {tokens : A → List Placed} {deep : A → Deep} {levels : ℕ} {H : Y → Type 0} {D E : Place → Type 0} {x : A} {ts rest : List Placed} {answer : Answer (Measured A × List Placed)} (next : Measured A × List Placed → Answer Y) → Right (IsRead Is tokens deep levels ts) ts answer → Again (IsPart x rest) D answer → ((p : Place) → D p → E p) → ((h : Height) → Measures (deep x) h → Again H E (next (measured x h, rest))) → Again H E (answer >>= next)
again_read_right {H = H} {E = E} next r a d k = again_then (again_measured r a) d λ q g. subst (λ z. Again H E (next z)) (sym g.2) (k g.0 g.1)

pub is_again : {A : Type 0} (deep : A → Deep) (levels : ℕ) (x : A) (rest : List Placed) (answer : Answer (Measured A × List Placed)) → Again (IsPart x rest) (IsDeep deep levels x) answer → IsAgain deep levels x rest answer
is_again deep levels x rest (Ok q) a = inl (a.holds.0, ap (λ z. Ok z) a.holds.1)
is_again deep levels x rest (Err (faults.TooDeep p)) a = inr (p, a.holds, refl)
is_again deep levels x rest (Err _) a = absurd a.holds

-- what is nested at most so many levels deep was read
pub again_shallow : {X : Type 0} {G : X → Type 0} {D : Place → Type 0} {answer : Answer X} → ((p : Place) → D p → ⊥) → Again G D answer → (x : X) × (answer ≡ Ok x) × G x
again_shallow {answer = Ok x} none a = (x, refl, a.holds)
again_shallow {answer = Err (faults.TooDeep p)} none a = absurd (none p a.holds)
again_shallow {answer = Err _} none a = absurd a.holds
