-- Lists of parts with the marks between them: as the grammar of flat modules has them, and as that of all modules does.
use Rattle.std.proofs.Common.{◌≡◌, refl, ap, sym, ◌∙◌, List, [], ◌∷◌, ◌++◌, length, suc, map, inl, inr, Bool, true, append-nil}
use Rattle.std.specs.Prelude.{codes}
use Rattle.std.specs.List.{list_all}
use Rattle.std.proofs.lemmas.Bool.{and_parts, and_from}
use Rattle.erl_tree.specs.Lists.{Every, Among}
use Rattle.erl_tree.specs.declared.token.Place.{Place}
use Rattle.erl_tree.specs.declared.token.Placed.{Placed}
use Rattle.erl_tree.specs.declared.token.Node.{Node}
use Rattle.erl_tree.specs.declared.expr.ExprKind.{ExprKind}
use Rattle.flat_modules.specs.Spelling.{mark, params_tokens, arguments_tokens}
use Rattle.flat_modules.specs.Grammar.{AreParamMarks, IsExpr, AreArguments, no_arguments, last_argument, more_arguments}
use Rattle.erl_grammar.specs.Pieces.{inner, fill, commas}
use Rattle.erl_grammar.specs.Pieces as P
use Rattle.erl_grammar.specs.Grammar.{AreSeparators}

-- ---- what holds of each part

pub every : {A : Type 0} (Q : A → Type 0) (xs : List A) → ((x : A) → Among x xs → Q x) → Every Q xs
every Q [] h = tt
every Q (x ∷ xs) h = (h x (inl refl), every Q xs (λ y i. h y (inr i)))

pub every-so : {A : Type 0} (Q R : A → Type 0) (xs : List A) → ((x : A) → Q x → R x) → Every Q xs → Every R xs
every-so Q R [] f h = tt
every-so Q R (x ∷ xs) f h = (f x h.0, every-so Q R xs f h.1)

pub every-split : {A : Type 0} (Q : A → Type 0) (xs ys : List A) → Every Q (xs ++ ys) → Every Q xs × Every Q ys
every-split Q [] ys h = (tt, h)
every-split Q (x ∷ xs) ys h = let k : Every Q xs × Every Q ys = every-split Q xs ys h.1 in ((h.0, k.0), k.1)

pub all-among : {A : Type 0} (test : A → Bool) (xs : List A) → list_all test xs ≡ true → (x : A) → Among x xs → test x ≡ true
all-among test [] h x i = absurd i
all-among test (y ∷ ys) h x (inl e) = ap test e ∙ (and_parts _ _ h).0
all-among test (y ∷ ys) h x (inr i) = all-among test ys (and_parts _ _ h).1 x i

pub all-every : {A : Type 0} (test : A → Bool) (xs : List A) → Every (λ x. test x ≡ true) xs → list_all test xs ≡ true
all-every test [] h = refl
all-every test (x ∷ xs) h = and_from _ _ h.0 (all-every test xs h.1)

pub map-same : {A B : Type 0} (f g : A → B) (xs : List A) → ((x : A) → Among x xs → f x ≡ g x) → map f xs ≡ map g xs
map-same f g [] h = refl
map-same f g (x ∷ xs) h = ap (λ y. y ∷ map f xs) (h x (inl refl)) ∙ ap (λ ys. g x ∷ ys) (map-same f g xs (λ y i. h y (inr i)))

pub length-map : {A B : Type 0} (f : A → B) (xs : List A) → length (map f xs) ≡ length xs
length-map f [] = refl
length-map f (x ∷ xs) = ap (λ n. suc n) (length-map f xs)

-- ---- parameters

-- marks between some parameters, that of the closing parenthesis and that of the arrow
pub record HaveParamMarks {A : Type 0} (xs : List A) (ms : List Place) : Type 0 where
  pub separators : List Place
  pub close : Place
  pub arrow : Place
  pub in_turn : ms ≡ separators ++ close ∷ arrow ∷ []
  pub between : AreSeparators xs separators

pub param-marks : {A : Type 0} (xs : List A) (ms : List Place) → AreParamMarks (length xs) ms → HaveParamMarks xs ms
param-marks [] (c ∷ a ∷ []) h = record { separators = []; close = c; arrow = a; in_turn = refl; between = tt }
param-marks (x ∷ []) (c ∷ a ∷ []) h = record { separators = []; close = c; arrow = a; in_turn = refl; between = tt }
param-marks (x ∷ y ∷ ys) (m ∷ ms) h =
    let r : HaveParamMarks (y ∷ ys) ms = param-marks (y ∷ ys) ms h in
    record { separators = m ∷ r.separators; close = r.close; arrow = r.arrow; in_turn = ap (λ ns. m ∷ ns) r.in_turn; between = r.between }
param-marks _ _ h = absurd h

pub marks-of-params : {A : Type 0} (xs : List A) (ns : List Place) (c a : Place) → AreSeparators xs ns → AreParamMarks (length xs) (ns ++ c ∷ a ∷ [])
marks-of-params [] [] c a h = tt
marks-of-params (x ∷ []) [] c a h = tt
marks-of-params (x ∷ y ∷ ys) (m ∷ ms) c a h = marks-of-params (y ∷ ys) ms c a h
marks-of-params _ _ c a h = absurd h

-- the same tokens
pub params-filled : (xs : List (List Placed)) (ms : List Place) (rest : List Placed) → AreParamMarks (length xs) ms → params_tokens xs ms rest ≡ fill (commas xs ++ P.mark (codes ")") ∷ P.mark (codes "->") ∷ inner rest ∷ []) ms
params-filled [] (c ∷ a ∷ []) rest h = ap (λ ts. mark (codes ")") c ∷ mark (codes "->") a ∷ ts) (sym (append-nil rest))
params-filled (x ∷ []) (c ∷ a ∷ []) rest h = ap (λ ts. x ++ mark (codes ")") c ∷ mark (codes "->") a ∷ ts) (sym (append-nil rest))
params-filled (x ∷ y ∷ ys) (m ∷ ms) rest h = ap (λ ts. x ++ mark (codes ",") m ∷ ts) (params-filled (y ∷ ys) ms rest h)
params-filled _ _ rest h = absurd h

-- ---- arguments

-- marks between some arguments, and that of the closing parenthesis
pub record HaveArgumentMarks (args : List (Node ExprKind)) (ms : List Place) : Type 0 where
  pub separators : List Place
  pub close : Place
  pub in_turn : ms ≡ separators ++ close ∷ []
  pub between : AreSeparators args separators

pub argument-marks : (args : List (Node ExprKind)) (ms : List Place) → AreArguments args ms → HaveArgumentMarks args ms
argument-marks _ _ (no_arguments c) = record { separators = []; close = c; in_turn = refl; between = tt }
argument-marks _ _ (last_argument e c h) = record { separators = []; close = c; in_turn = refl; between = tt }
argument-marks _ _ (more_arguments e f es m ms h r) =
    let s : HaveArgumentMarks (f ∷ es) ms = argument-marks (f ∷ es) ms r in
    record { separators = m ∷ s.separators; close = s.close; in_turn = ap (λ ns. m ∷ ns) s.in_turn; between = s.between }

pub arguments-made : (args : List (Node ExprKind)) (ns : List Place) (c : Place) → AreSeparators args ns → ((e : Node ExprKind) → Among e args → IsExpr e) → AreArguments args (ns ++ c ∷ [])
arguments-made [] [] c g h = no_arguments c
arguments-made (e ∷ []) [] c g h = last_argument e c (h e (inl refl))
arguments-made (e ∷ f ∷ es) (m ∷ ms) c g h = more_arguments e f es m (ms ++ c ∷ []) (h e (inl refl)) (arguments-made (f ∷ es) ms c g (λ x i. h x (inr i)))
arguments-made _ _ c g h = absurd g

-- the same tokens
pub arguments-filled : (say : Node ExprKind → List Placed) (args : List (Node ExprKind)) (ms : List Place) → AreArguments args ms → arguments_tokens (map say args) ms ≡ fill (commas (map say args) ++ P.mark (codes ")") ∷ []) ms
arguments-filled say _ _ (no_arguments c) = refl
arguments-filled say _ _ (last_argument e c h) = refl
arguments-filled say _ _ (more_arguments e f es m ms h r) = ap (λ ts. say e ++ mark (codes ",") m ∷ ts) (arguments-filled say (f ∷ es) ms r)
