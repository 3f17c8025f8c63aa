-- The heights of trees with parts: what measures each part, measures the whole.
use Rattle.std.proofs.Common.{◌≡◌, ℕ, zero, suc, pred, ◌+◌, ◌-◌, ◌≤◌, ◌<◌, Bool, true, false, List, [], ◌∷◌, ◌++◌, refl, ap, sym, ◌∙◌, subst, inl, inr, leb-true, leb-false, append_assoc, arith}
use Rattle.std.specs.Prelude.{◌⊎◌, nat_le, if◌then◌else◌}
use Rattle.erl_tree.specs.Lists.{Among}
use Rattle.erl_tree.specs.declared.token.Place.{Place}
use Rattle.erl_tree.specs.declared.token.Node.{Node}
use Rattle.erl_grammar.specs.Nesting.{Deep, deep_node, deep_all, fewer}
use Rattle.erl_parser_tokens.specs.declared.height.Height.{Height}
use Rattle.erl_parser_tokens.specs.Heights.{flat, higher, raised_from, raised, above_from, above}
use Rattle.erl_parser_tokens.proofs.Right.{Measures}

-- ---- elements of lists

pub among_front : {A : Type 0} (x : A) (xs ys : List A) → Among x xs → Among x (xs ++ ys)
among_front x [] ys h = elim h [ ]
among_front x (y ∷ xs) ys (inl e) = inl e
among_front x (y ∷ xs) ys (inr h) = inr (among_front x xs ys h)

pub among_behind : {A : Type 0} (x : A) (xs ys : List A) → Among x ys → Among x (xs ++ ys)
among_behind x [] ys h = h
among_behind x (y ∷ xs) ys h = inr (among_behind x xs ys h)

pub among_either : {A : Type 0} (x : A) (xs ys : List A) → Among x (xs ++ ys) → Among x xs ⊎ Among x ys
among_either x [] ys h = inr h
among_either x (y ∷ xs) ys (inl e) = inl (inl e)
among_either x (y ∷ xs) ys (inr h) = elim (among_either x xs ys h) [ inl a ↦ inl (inr a) | inr b ↦ inr b ]

-- ---- heights

-- the same nodes, said in another way
pub measures_as : {f g : Deep} {h : Height} → ((levels : ℕ) → g levels ≡ f levels) → Measures f h → Measures g h
measures_as e m = record { shallow = λ n l. e n ∙ m.shallow n l; reached = λ n l. subst (Among _) (sym (e n)) (m.reached n l) }

-- parts without nodes that count
pub nothing_measured : {f : Deep} → ((levels : ℕ) → f levels ≡ []) → Measures f flat
nothing_measured e = record { shallow = λ n l. e n; reached = λ n l. absurd (omega arith) }

none_of_both : (xs ys : List Place) → xs ≡ [] → ys ≡ [] → xs ++ ys ≡ []
none_of_both xs ys e g = rw (e, g) refl

both_by : {f g : Deep} {h k : Height} (b : Bool) → nat_le k.depth h.depth ≡ b → Measures f h → Measures g k → Measures (λ n. f n ++ g n) (if b then h else k)
both_by {f} {g} {h} {k} true e m l =
    let less : k.depth ≤ h.depth = leb-true _ _ e in
    record { shallow = λ n i. none_of_both (f n) (g n) (m.shallow n i) (l.shallow n (omega arith)); reached = λ n i. among_front _ (f n) (g n) (m.reached n i) }
both_by {f} {g} {h} {k} false e m l =
    let less : h.depth < k.depth = leb-false _ _ e in
    record { shallow = λ n i. none_of_both (f n) (g n) (m.shallow n (omega arith)) (l.shallow n i); reached = λ n i. among_behind _ (f n) (g n) (l.reached n i) }

-- one part behind another
pub both_measured : {f g : Deep} {h k : Height} → Measures f h → Measures g k → Measures (λ n. f n ++ g n) (higher h k)
both_measured {h = h} {k = k} m l = both_by (nat_le k.depth h.depth) refl m l

node_shallow : (n : Node Deep) (d : ℕ) → ((levels : ℕ) → d ≤ levels → n.kind levels ≡ []) → (levels : ℕ) → suc d ≤ levels → deep_node n levels ≡ []
node_shallow n d e zero l = absurd (omega arith)
node_shallow n d e (suc k) l = e k (omega arith)

node_reached : (n : Node Deep) (d : ℕ) (q : Place) → ((levels : ℕ) → levels < suc d → Among q (n.kind levels)) → (levels : ℕ) → levels < suc (suc d) → Among q (deep_node n levels)
node_reached n d q a zero l = inr (a zero (omega arith))
node_reached n d q a (suc k) l = a k (omega arith)

leaf_reached : (n : Node Deep) (levels : ℕ) → levels < 1 → Among n.place (deep_node n levels)
leaf_reached n zero l = inl refl
leaf_reached n (suc k) l = absurd (omega arith)

node_by : (n : Node Deep) (d : ℕ) (q : Place) → Measures n.kind (record { depth = d; deepest = q }) → Measures (deep_node n) (above_from n.place d q)
node_by n zero q m = record { shallow = node_shallow n zero m.shallow; reached = leaf_reached n }
node_by n (suc d) q m = record { shallow = node_shallow n (suc d) m.shallow; reached = node_reached n d q m.reached }

-- a node that counts as a level
pub node_measured : (n : Node Deep) (h : Height) → Measures n.kind h → Measures (deep_node n) (above n.place h)
node_measured n h m = node_by n h.depth h.deepest m

raised_by : {f : Deep} (k d : ℕ) (q : Place) → Measures f (record { depth = d; deepest = q }) → Measures (λ n. f (n - k)) (raised_from k d q)
raised_by k zero q m = record { shallow = λ n l. m.shallow (n - k) (omega arith); reached = λ n l. absurd (omega arith) }
raised_by k (suc d) q m = record { shallow = λ n l. m.shallow (n - k) (omega arith); reached = λ n l. m.reached (n - k) (omega arith) }

-- parts that stand so many levels deeper
pub raised_measured : {f : Deep} {h : Height} (k : ℕ) → Measures f h → Measures (λ n. f (n - k)) (raised k h)
raised_measured {h = h} k m = raised_by k h.depth h.deepest m

-- how many levels are left so many levels deeper
pub fewer-sub : (n k : ℕ) → fewer (n - k) ≡ n - suc k
fewer-sub n k = fewer_by (n - k) (n - suc k) (omega arith)
  where
    fewer_by : (a b : ℕ) → b ≡ pred a → fewer a ≡ b
    fewer_by zero b e = omega arith
    fewer_by (suc a) b e = omega arith

-- ---- at most so many levels

pub higher_within : (h k : Height) (limit : ℕ) → h.depth ≤ limit → k.depth ≤ limit → (higher h k).depth ≤ limit
higher_within h k limit a b = higher_by (nat_le k.depth h.depth) a b
  where
    higher_by : (c : Bool) → h.depth ≤ limit → k.depth ≤ limit → (if c then h else k).depth ≤ limit
    higher_by true a b = a
    higher_by false a b = b

pub above_within : (p : Place) (h : Height) (limit : ℕ) → h.depth ≤ limit → (above p h).depth ≤ suc limit
above_within p h limit a = above_by h.depth a
  where
    above_by : (d : ℕ) → d ≤ limit → (above_from p d h.deepest).depth ≤ suc limit
    above_by zero a = omega arith
    above_by (suc d) a = omega arith

pub raised_within : (k : ℕ) (h : Height) (limit : ℕ) → h.depth ≤ limit → (raised k h).depth ≤ k + limit
raised_within k h limit a = raised_by h.depth a
  where
    raised_by : (d : ℕ) → d ≤ limit → (raised_from k d h.deepest).depth ≤ k + limit
    raised_by zero a = omega arith
    raised_by (suc d) a = omega arith

-- ---- lists of parts

pub deep_all-more : {A : Type 0} (deep : A → Deep) (xs ys : List A) (levels : ℕ) → deep_all deep (xs ++ ys) levels ≡ deep_all deep xs levels ++ deep_all deep ys levels
deep_all-more deep [] ys levels = refl
deep_all-more deep (x ∷ xs) ys levels = ap (λ ps. deep x levels ++ ps) (deep_all-more deep xs ys levels) ∙ sym (append_assoc (deep x levels) _ _)

-- a part of a list that is nested too deep, in the list
pub among_all : {A : Type 0} (deep : A → Deep) (x : A) (xs : List A) (levels : ℕ) (p : Place) → Among x xs → Among p (deep x levels) → Among p (deep_all deep xs levels)
among_all deep x [] levels p h a = elim h [ ]
among_all deep x (y ∷ xs) levels p (inl e) a = among_front p (deep y levels) _ (subst (λ z. Among p (deep z levels)) e a)
among_all deep x (y ∷ xs) levels p (inr h) a = among_behind p (deep y levels) _ (among_all deep x xs levels p h a)
