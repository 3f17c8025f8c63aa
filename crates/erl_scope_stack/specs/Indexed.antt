-- What a scope keeps of each name, and of each variable that it sees.
use Rattle.std.specs.Prelude.{◌≡◌, ℕ, suc, ◌+◌, ◌-◌, ◌<◌, ◌≤◌, ◌^◌, List, [], ◌∷◌, ◌++◌, ◌⊎◌, length, get_or, Option, Some, None, Bool, false, cond, nat_eq, nat_le}
use Rattle.type_terms.specs.Keys.{Name}
use Rattle.erl_tree.specs.declared.token.Place.{Place}
use Rattle.erl_tree.specs.Lists.{Every}
use Rattle.erl_scope_stack.specs.declared.entries.Seen.{Seen}
use Rattle.erl_scope_stack.specs.declared.entries.NameState.{NameState}
use Rattle.erl_scope_stack.specs.Named.{HaveOneNumber}
use Rattle.erl_scope_stack.specs.Stored.{latest_first, place_by_role}

-- ---- lists with the latest first

abbrev pub stack : {A : Type 0} → List A → List A
stack xs = latest_first (λ x. x) xs

-- the topmost variable with the name of this number, by how many stand below it
abbrev pub top_of : ℕ → List Seen → Option ℕ
top_of n [] = None
top_of n (e ∷ es) = cond (nat_eq n e.name) (Some (length es)) (top_of n es)

-- where the innermost binding of the name stands
abbrev pub place_in : ℕ → List Seen → Option Place
place_in n [] = None
place_in n (e ∷ es) = cond (nat_eq n e.name) (place_by_role e.role e.place (place_in n es)) (place_in n es)

-- how often the name stands among names
abbrev pub count_in : ℕ → List ℕ → ℕ
count_in n [] = 0
count_in n (m ∷ ms) = cond (nat_eq n m) (suc (count_in n ms)) (count_in n ms)

-- each variable keeps the topmost one below it that has its name, and where its binding stands
abbrev pub AreLinked : List Seen → Type 0
AreLinked [] = Unit {0}
AreLinked (e ∷ es) = (e.below ≡ top_of e.name es) × (e.binding ≡ place_by_role e.role e.place (place_in e.name es)) × AreLinked es

abbrev pub state_of : ℕ → List Seen → List ℕ → NameState
state_of n es bs = record { top = top_of n es; ended = count_in n bs }

-- what holds of the names, of what is kept of each, of the variables that are seen, and of the names that ended or are set aside, each by its number and with the latest last
pub record AreIndexed (names : List Name) (states : List NameState) (seen : List Seen) (behind beside : List ℕ) : Type 0 where
  pub one_number : HaveOneNumber names
  pub room : length names ≤ length states
  pub seen_named : Every (λ e. e.name < length names) (stack seen)
  pub behind_named : Every (λ n. n < length names) (stack behind)
  pub beside_named : Every (λ n. n < length names) (stack beside)
  pub linked : AreLinked (stack seen)
  pub kept : (n : ℕ) (s : NameState) → n < length states → get_or states n s ≡ state_of n (stack seen) (stack behind)

-- ---- look-ups

-- whether the topmost variable lies above the first so many
abbrev pub top_reaches : ℕ → Option ℕ → Bool
top_reaches count None = false
top_reaches count (Some at) = nat_le count at

-- the binding that is kept with the topmost variable
abbrev pub IsBindingAt : List Seen → Option ℕ → Option Place → Type 0
IsBindingAt seen None place = place ≡ None
IsBindingAt seen (Some at) place = (e : Seen) × (e ≡ get_or seen at e) × (place ≡ e.binding)

-- ---- changes

-- one state is changed
pub record IsChangedAt (n : ℕ) (change : NameState → NameState) (old new : List NameState) : Type 0 where
  pub same_length : length new ≡ length old
  pub changed : (i : ℕ) (s : NameState) → i < length old → get_or new i s ≡ cond (nat_eq i n) (change (get_or old i s)) (get_or old i s)

abbrev pub counted_up : NameState → NameState
counted_up s = record { top = s.top; ended = s.ended + 1 }

abbrev pub counted_down : NameState → NameState
counted_down s = record { top = s.top; ended = s.ended - 1 }

abbrev pub with_top : Option ℕ → NameState → NameState
with_top top s = record { top = top; ended = s.ended }

-- whether there is room to count up, and something to count down
abbrev pub IsCountable : List NameState → ℕ → Type 0
IsCountable states n = (s : NameState) → (get_or states n s).ended + 1 < 2 ^ 64

abbrev pub IsCounted : List NameState → ℕ → Type 0
IsCounted states n = (s : NameState) → 0 < (get_or states n s).ended

-- one more state was added, of a name that stands nowhere, or nothing changed
abbrev pub IsRoomier : (old new : List NameState) → Type 0
IsRoomier old new = (new ≡ old) ⊎ (new ≡ old ++ record { top = None; ended = 0 } ∷ [])
