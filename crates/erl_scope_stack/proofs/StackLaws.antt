-- Lists with the latest first, by numbers.
use Rattle.std.proofs.Common.{◌≡◌, ℕ, suc, ◌+◌, ◌<◌, ◌≤◌, Bool, true, false, cond, nat_eq, List, [], ◌∷◌, ◌++◌, length, take, drop, get_or, map, Option, Some, None, refl, sym, ap, ◌∙◌, subst, arith}
use Rattle.std.proofs.lemmas.List.{map-append, take-append-drop, length-take-le, length-append}
use Rattle.std.proofs.lemmas.Bool.{eqb-true}
use Rattle.erl_tree.specs.Lists.{Every}
use Rattle.erl_tree.specs.declared.token.Place.{Place}
use Rattle.erl_scope_stack.specs.declared.entries.Seen.{Seen}
use Rattle.erl_scope_stack.specs.Stored.{latest_first, place_by_role}
use Rattle.erl_scope_stack.specs.Indexed.{stack, top_of, place_in, count_in, AreLinked, IsBindingAt}
use Rattle.erl_scope_stack.proofs.LatestFirst.{latest_first-append, latest_first-push, latest_first-more, length-latest_first}

module _ {A : Type 0} where
  pub latest_first-map : {B : Type 0} (of : A → B) (xs : List A) → latest_first of xs ≡ map of (stack xs)
  latest_first-map of [] = refl
  latest_first-map of (x ∷ xs) = ap (λ ys. ys ++ of x ∷ []) (latest_first-map of xs) ∙ sym (map-append of (stack xs) (x ∷ []))

  pub Every-append_right : (P : A → Type 0) (xs ys : List A) → Every P (xs ++ ys) → Every P ys
  Every-append_right P [] ys h = h
  Every-append_right P (x ∷ xs) ys h = Every-append_right P xs ys h.1

  pub Every-weaker : (P Q : A → Type 0) → ((x : A) → P x → Q x) → (xs : List A) → Every P xs → Every Q xs
  Every-weaker P Q f [] h = h
  Every-weaker P Q f (x ∷ xs) h = (f x h.0, Every-weaker P Q f xs h.1)

  split : (xs : List A) (n : ℕ) → stack xs ≡ stack (drop n xs) ++ stack (take n xs)
  split xs n = ap stack (sym (take-append-drop n xs)) ∙ latest_first-append (λ (x : A). x) (take n xs) (drop n xs)

  pub split-read : (xs : List A) (n : ℕ) (x : A) → n < length xs → x ≡ get_or xs n x → stack xs ≡ stack (drop (n + 1) xs) ++ x ∷ stack (take n xs)
  split-read xs n x h read = split xs (n + 1) ∙ ap (λ ys. stack (drop (n + 1) xs) ++ ys) (latest_first-more (λ (x : A). x) n xs x h read)

  pub Every-take : (P : A → Type 0) (xs : List A) (n : ℕ) → Every P (stack xs) → Every P (stack (take n xs))
  Every-take P xs n h = Every-append_right P (stack (drop n xs)) (stack (take n xs)) (subst (Every P) (split xs n) h)

  pub Every-read : (P : A → Type 0) (xs : List A) (n : ℕ) (x : A) → n < length xs → x ≡ get_or xs n x → Every P (stack xs) → P x
  Every-read P xs n x h read all = (Every-append_right P (stack (drop (n + 1) xs)) (x ∷ stack (take n xs)) (subst (Every P) (split-read xs n x h read) all)).0

  pub last-named : (P : A → Type 0) (xs rest : List A) (x : A) → xs ≡ rest ++ x ∷ [] → Every P (stack xs) → P x
  last-named P xs rest x e all = (subst (Every P) (ap stack e ∙ latest_first-push (λ (x : A). x) rest x) all).0

-- ---- what numbers stand for in such lists

pub top_of-below : (n : ℕ) (es : List Seen) (at : ℕ) → top_of n es ≡ Some at → at < length es
top_of-below n [] at h = absurd (cc)
top_of-below n (e ∷ es) at h = by (nat_eq n e.name) h (top_of-below n es)
  where
    by : (b : Bool) → cond b (Some (length es)) (top_of n es) ≡ Some at → ((a : ℕ) → top_of n es ≡ Some a → a < length es) → at < suc (length es)
    by true p rest = let same : length es ≡ at = cc in omega arith
    by false p rest = let l : at < length es = rest at p in omega arith

pub place_in-none : (n : ℕ) (es : List Seen) → top_of n es ≡ None → place_in n es ≡ None
place_in-none n [] h = refl
place_in-none n (e ∷ es) h = by (nat_eq n e.name) h (place_in-none n es)
  where
    by : (b : Bool) → cond b (Some (length es)) (top_of n es) ≡ None → (top_of n es ≡ None → place_in n es ≡ None) → cond b (place_by_role e.role e.place (place_in n es)) (place_in n es) ≡ None
    by true p rest = absurd (cc)
    by false p rest = rest p

-- the topmost variable of a name keeps its binding
linked-top : (n : ℕ) (es : List Seen) (front : List Seen) (x : Seen) (bs : List Seen) → es ≡ front ++ x ∷ bs → AreLinked es → top_of n es ≡ Some (length bs) → x.binding ≡ place_in n es
linked-top n es [] x bs e linked top = by (nat_eq n x.name) refl
  where
    linked' : AreLinked (x ∷ bs)
    linked' = subst AreLinked e linked

    top' : top_of n (x ∷ bs) ≡ Some (length bs)
    top' = ap (top_of n) (sym e) ∙ top

    by : (b : Bool) → nat_eq n x.name ≡ b → x.binding ≡ place_in n es
    by true p =
        linked'.1 ∙ ap (λ m. place_by_role x.role x.place (place_in m bs)) (sym (eqb-true n x.name p)) ∙ ap (λ b. cond b (place_by_role x.role x.place (place_in n bs)) (place_in n bs)) (sym p) ∙ ap (place_in n) (sym e)
    by false p = let l : length bs < length bs = top_of-below n bs (length bs) (ap (λ b. cond b (Some (length bs)) (top_of n bs)) (sym p) ∙ top') in absurd (omega arith)
linked-top n es (a ∷ front) x bs e linked top = by (nat_eq n a.name) refl (linked-top n (front ++ x ∷ bs) front x bs refl)
  where
    linked' : AreLinked (a ∷ (front ++ x ∷ bs))
    linked' = subst AreLinked e linked

    top' : top_of n (a ∷ (front ++ x ∷ bs)) ≡ Some (length bs)
    top' = ap (top_of n) (sym e) ∙ top

    long : length (front ++ x ∷ bs) ≡ length front + suc (length bs)
    long = length-append front (x ∷ bs)

    by : (b : Bool) → nat_eq n a.name ≡ b → (AreLinked (front ++ x ∷ bs) → top_of n (front ++ x ∷ bs) ≡ Some (length bs) → x.binding ≡ place_in n (front ++ x ∷ bs)) → x.binding ≡ place_in n es
    by true p rest =
        let same : Some (length (front ++ x ∷ bs)) ≡ Some (length bs) = ap (λ b. cond b (Some (length (front ++ x ∷ bs))) (top_of n (front ++ x ∷ bs))) (sym p) ∙ top' in
        let same' : length (front ++ x ∷ bs) ≡ length bs = cc in
        absurd (omega (arith, long))
    by false p rest =
        rest linked'.2 (ap (λ b. cond b (Some (length (front ++ x ∷ bs))) (top_of n (front ++ x ∷ bs))) (sym p) ∙ top')
        ∙ ap (λ b. cond b (place_by_role a.role a.place (place_in n (front ++ x ∷ bs))) (place_in n (front ++ x ∷ bs))) (sym p) ∙ ap (place_in n) (sym e)

pub binding-kept : (n : ℕ) (es : List Seen) (top : Option ℕ) (place : Option Place) → AreLinked (stack es) → top ≡ top_of n (stack es) → IsBindingAt es top place → place ≡ place_in n (stack es)
binding-kept n es None place linked top is = is ∙ sym (place_in-none n (stack es) (sym top))
binding-kept n es (Some at) place linked top is =
    let x = is.0 in
    let l : at < length (stack es) = top_of-below n (stack es) at (sym top) in
    let inside : at < length es = omega (arith, length-latest_first (λ (x : Seen). x) es) in
    let low : length (stack (take at es)) ≡ at = length-latest_first (λ (x : Seen). x) (take at es) ∙ length-take-le at es (omega arith) in
    is.2 ∙ linked-top n (stack es) (stack (drop (at + 1) es)) x (stack (take at es)) (split-read es at x inside is.1) linked (sym top ∙ ap Some (sym low))

pub count_in-most : (n : ℕ) (ms : List ℕ) → count_in n ms ≤ length ms
count_in-most n [] = omega arith
count_in-most n (m ∷ ms) = by (nat_eq n m) (count_in-most n ms)
  where
    by : (b : Bool) → count_in n ms ≤ length ms → cond b (suc (count_in n ms)) (count_in n ms) ≤ suc (length ms)
    by true h = omega arith
    by false h = omega arith

-- a number that is none of a name's
pub top_of-none : (n size : ℕ) (es : List Seen) → size ≤ n → Every (λ (e : Seen). e.name < size) es → top_of n es ≡ None
top_of-none n size [] h all = refl
top_of-none n size (e ∷ es) h all = by (nat_eq n e.name) refl (top_of-none n size es h all.1)
  where
    by : (b : Bool) → nat_eq n e.name ≡ b → top_of n es ≡ None → cond b (Some (length es)) (top_of n es) ≡ None
    by true p rest = let same : n ≡ e.name = eqb-true n e.name p in let l : e.name < size = all.0 in absurd (omega arith)
    by false p rest = rest

pub count_in-none : (n size : ℕ) (ms : List ℕ) → size ≤ n → Every (λ (m : ℕ). m < size) ms → count_in n ms ≡ 0
count_in-none n size [] h all = refl
count_in-none n size (m ∷ ms) h all = by (nat_eq n m) refl (count_in-none n size ms h all.1)
  where
    by : (b : Bool) → nat_eq n m ≡ b → count_in n ms ≡ 0 → cond b (suc (count_in n ms)) (count_in n ms) ≡ 0
    by true p rest = let same : n ≡ m = eqb-true n m p in let l : m < size = all.0 in absurd (omega arith)
    by false p rest = rest
