-- What holds of every element of a list, of a list that is put together, and of optional values.
use Rattle.std.proofs.Common.{◌≡◌, refl, sym, ap, subst, inl, inr, List, [], ◌∷◌, ◌++◌}
use Rattle.std.specs.Prelude.{Option, Some, None, map}
use Rattle.erl_tree.specs.Lists.{Every, Among}
use Rattle.erl_runs.specs.Specs.{and_then}

pub every-split : {A : Type 0} (P : A → Type 0) (xs ys : List A) → Every P (xs ++ ys) → Every P xs × Every P ys
every-split P [] ys h = (tt, h)
every-split P (x ∷ xs) ys h = let k : Every P xs × Every P ys = every-split P xs ys h.1 in ((h.0, k.0), k.1)

pub every-join : {A : Type 0} (P : A → Type 0) (xs ys : List A) → Every P xs → Every P ys → Every P (xs ++ ys)
every-join P [] ys h k = k
every-join P (x ∷ xs) ys h k = (h.0, every-join P xs ys h.1 k)

pub every-at : {A : Type 0} (P : A → Type 0) (x : A) (xs : List A) → Every P xs → Among x xs → P x
every-at P x [] h a = absurd a
every-at P x (y ∷ xs) h (inl e) = subst P (sym e) h.0
every-at P x (y ∷ xs) h (inr a) = every-at P x xs h.1 a

pub among-map : {A B : Type 0} (f : A → B) (x : A) (xs : List A) → Among x xs → Among (f x) (map f xs)
among-map f x [] a = a
among-map f x (y ∷ xs) (inl e) = inl (ap f e)
among-map f x (y ∷ xs) (inr a) = inr (among-map f x xs a)

pub some-inj : {A : Type 0} (a b : A) → Some a ≡ Some b → a ≡ b
some-inj a b e = cc

pub none-some : {A C : Type 0} (a : A) → None ≡ Some a → C
none-some a e = absurd (cc)

-- what came before a value that came
pub then-some : {A B : Type 0} (o : Option A) (f : A → Option B) (b : B) → and_then o f ≡ Some b → (a : A) × (o ≡ Some a) × (f a ≡ Some b)
then-some None f b e = none-some b e
then-some (Some a) f b e = (a, refl, e)
