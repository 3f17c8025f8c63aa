-- What is shown refutes: an element of the left term that isn't in the right one stands for a value of a program, so the left term isn't within the right one.
use Rattle.std.proofs.Common.{◌≡◌, refl, sym, subst, ℕ, ◌<◌, List, [], ◌∷◌, length, ◌↔◌, arith}
use Rattle.std.specs.Prelude.{Bool, true, false, cond, nat_eq}
use Rattle.std.proofs.lemmas.Bool.{false≢true, eq-eqb}
use Rattle.std.proofs.Math.Path.{transport}
use Rattle.type_terms.specs.declared.term.Def.{Def}
use Rattle.type_terms.specs.declared.term.Key.{Key}
use Rattle.type_terms.specs.declared.term.Key.TheVariants.{Int as IntKey, Atom as AtomKey}
use Rattle.type_terms.specs.declared.term.Term.{Term, And, Fun, Any, None, Ints, AtomLit, AnyAtom, Nil, Cons', Tuple', AnyTuple, Map', Fun', AnyFun, Or', And', Not', Var, Name', Row_of-Term, end_of-Term, more_of-Term}
use Rattle.type_terms.specs.Definitions.{given_definitions}
use Rattle.type_terms.specs.Instances.{Instance, no_variables, variable_and}
use Rattle.type_terms.specs.Replacement.{terms_of}
use Rattle.type_terms.specs.Unfolding.{unfolded}
use Rattle.type_terms.specs.Reading
use Rattle.type_terms.proofs.ReadingLaws.{read-And, read-Fun}
use Rattle.type_terms.specs.Reading.{fun_layer, read}
use Rattle.erl_tree.specs.Lists.{Every}
use Rattle.erl_runs.specs.Value.{Value, integer, atom, named_fun}
use Rattle.erl_runs.specs.Membership.{Program, InTerm, no_tag, values_in, gives_at, good_run, levels_below}
use Rattle.erl_runs.specs.Running.{goes_wrong, still_going}
use Rattle.cert_checker.specs.declared.refusal.Shown.{Shown}
use Rattle.cert_checker.specs.declared.refusal.Shown.TheVariants.{One, Missing}
use Rattle.cert_checker.specs.Constraints.{IsWithin}
use Rattle.cert_checker.specs.Failures.{keys_in, shown_layer, ShownIn, Refutes}
use Rattle.cert_checker.proofs.KeyTerms.{IsKey}
use Rattle.cert_checker.proofs.Calls.{same_values, values-refl, values-are, picky, values_of, keys-values, values-of-keys}

-- ---- two funs of one arity that give the same are in the same terms

module _ (n : ℕ) (g h : List Term → Term → List Def → Instance → Type 0) (same : (ss : List Term) (t : Term) (d : List Def) (i : Instance) → g ss t d i ↔ h ss t d i) where
  module _ (d : List Def) (i : Instance) (var var' : ℕ → Type 0) (vars : (a : ℕ) → var a ↔ var' a) where
    mutual
      holds-same : (t : Term) → Reading.holds (fun_layer n g) d i var t ↔ Reading.holds (fun_layer n h) d i var' t
      holds-same Any = ((λ x. x), (λ x. x))
      holds-same None = ((λ x. x), (λ x. x))
      holds-same (Ints lo hi) = ((λ x. x), (λ x. x))
      holds-same (AtomLit a) = ((λ x. x), (λ x. x))
      holds-same AnyAtom = ((λ x. x), (λ x. x))
      holds-same Nil = ((λ x. x), (λ x. x))
      holds-same (Cons' s (more_of-Term a end_of-Term) t (more_of-Term b end_of-Term)) = ((λ x. x), (λ x. x))
      holds-same (Tuple' s ts) = ((λ x. x), (λ x. x))
      holds-same AnyTuple = ((λ x. x), (λ x. x))
      holds-same (Map' s fs r q) = ((λ x. x), (λ x. x))
      holds-same (Fun' s ts t (more_of-Term a end_of-Term)) = ((λ x. (x.0, (same (terms_of ts) a d i).0 x.1)), (λ x. (x.0, (same (terms_of ts) a d i).1 x.1)))
      holds-same (AnyFun m) = ((λ x. x), (λ x. x))
      holds-same (Or' s ts) = some-same ts
      holds-same (And' s ts) = all-same ts
      holds-same (Not' s (more_of-Term t end_of-Term)) = ((λ x y. x ((holds-same t).1 y)), (λ x y. x ((holds-same t).0 y)))
      holds-same (Var a) = vars a
      holds-same (Name' m s ts) = ((λ x. x), (λ x. x))

      some-same : {m : _} (ts : Row_of-Term m) → Reading.some_holds (fun_layer n g) d i var ts ↔ Reading.some_holds (fun_layer n h) d i var' ts
      some-same end_of-Term = ((λ x. x), (λ x. x))
      some-same (more_of-Term t ts) = ((λ x y. x ((λ z. y.0 ((holds-same t).0 z)), (λ z. y.1 ((some-same ts).0 z)))), (λ x y. x ((λ z. y.0 ((holds-same t).1 z)), (λ z. y.1 ((some-same ts).1 z)))))

      all-same : {m : _} (ts : Row_of-Term m) → Reading.all_hold (fun_layer n g) d i var ts ↔ Reading.all_hold (fun_layer n h) d i var' ts
      all-same end_of-Term = ((λ x. x), (λ x. x))
      all-same (more_of-Term t ts) = ((λ x. ((holds-same t).0 x.0, (all-same ts).0 x.1)), (λ x. ((holds-same t).1 x.0, (all-same ts).1 x.1)))

  cond-same : (b : Bool) {A B C D : Type 0} → A ↔ B → C ↔ D → cond b A C ↔ cond b B D
  cond-same true p q = p
  cond-same false p q = q

  variable-same : (i : Instance) (a : ℕ) → Reading.variable_in (fun_layer n g) no_tag i a ↔ Reading.variable_in (fun_layer n h) no_tag i a
  variable-same no_variables a = ((λ x. x), (λ x. x))
  variable-same (variable_and b t d i rest) a = cond-same (nat_eq a b) (holds-same d i (Reading.variable_in (fun_layer n g) no_tag i) (Reading.variable_in (fun_layer n h) no_tag i) (λ c. variable-same i c) (unfolded d t)) (variable-same rest a)

  read-same : (t : Term) (d : List Def) (i : Instance) → read (fun_layer n g) no_tag t d i ↔ read (fun_layer n h) no_tag t d i
  read-same t d i = holds-same d i (Reading.variable_in (fun_layer n g) no_tag i) (Reading.variable_in (fun_layer n h) no_tag i) (variable-same i) (unfolded d t)

-- ---- a fun that fails for these keys

values-keys : (ks : List Key) → Every IsKey (values_of ks)
values-keys [] = tt
values-keys (IntKey n ∷ ks) = (tt, values-keys ks)
values-keys (AtomKey a ∷ ks) = (tt, values-keys ks)

module _ (keys : List Key) where
  abbrev failing : Program
  failing = picky (length keys) (values_of keys)

  -- a fun of that program
  abbrev fun : Value
  fun = named_fun [] 0

  -- what is asked of a run that goes wrong where the test says so
  abbrev Good : Bool → Term → List Def → Instance → Type 0
  Good b t d i = good_run failing (levels_below failing 1) (cond b (goes_wrong 0) (still_going 0)) t d i

  below-one : (m : ℕ) → m < 1 → m ≡ 0
  below-one m l = omega arith

  fails-same : (ss : List Term) (t : Term) (d : List Def) (i : Instance) → (keys_in keys ss d i → ⊥) ↔ gives_at failing (levels_below failing 1) 1 fun ss t d i
  fails-same ss t d i = (
    (λ out m args l a. spared m args (subst (λ z. values_in (levels_below failing 1 z) args ss d i) (below-one m l) a) out (same_values args (values_of keys)) refl),
    (λ gives x. wronged (same_values (values_of keys) (values_of keys)) (values-refl (values_of keys) (values-keys keys)) (gives 0 (values_of keys) (omega arith) (keys-values failing 0 d i keys ss x))),
  )
    where
      spared : (m : ℕ) (args : List Value) → values_in (InTerm failing 0) args ss d i → (keys_in keys ss d i → ⊥) → (b : Bool) → same_values args (values_of keys) ≡ b → Good b t d i
      spared m args a out true e = absurd (out (values-of-keys failing 0 d i keys ss (subst (λ z. values_in (InTerm failing 0) z ss d i) (values-are args (values_of keys) (values-keys keys) e) a)))
      spared m args a out false e = (tt, tt)

      wronged : (b : Bool) → b ≡ true → Good b t d i → ⊥
      wronged true e h = h.0
      wronged false e h = false≢true e

  shown-is : (t : Term) → ShownIn (Missing keys) t ↔ InTerm failing 1 fun t given_definitions no_variables
  shown-is t = read-same (length keys) (λ ss t d i. keys_in keys ss d i → ⊥) (gives_at failing (levels_below failing 1) 1 fun) fails-same t given_definitions no_variables

key-fails : (key : Key) (left right : Term) → Refutes (One key) left right → IsWithin left right → ⊥
key-fails (IntKey n) left right h w = h.1 (w (failing []) no_variables 0 (integer n) tt h.0)
key-fails (AtomKey a) left right h w = h.1 (w (failing []) no_variables 0 (atom a) tt h.0)

-- where an element refutes that a term is within another one, it isn't
pub refuted-fails : (shown : Shown) (left right : Term) → Refutes shown left right → IsWithin left right → ⊥
refuted-fails (One key) left right h w = key-fails key left right h w
refuted-fails (Missing keys) left right h w = h.1 ((shown-is keys right).1 (w (failing keys) no_variables 1 (fun keys) tt ((shown-is keys left).0 h.0)))

-- keys of the types of the arguments, not all of which are in the parameters, show that a call isn't within the function's spec
pub call-refuted : (keys : List Key) (types params : List Term) (r R : Term) → length keys ≡ length params → keys_in keys types given_definitions no_variables → (keys_in keys params given_definitions no_variables → ⊥) → Refutes (Missing keys) (And (Fun params r ∷ [])) (Fun types R)
call-refuted keys types params r R n x out =
    let l : Reading.Layer = shown_layer (Missing keys) in (
      transport (sym (read-And l no_tag given_definitions no_variables (Fun params r ∷ []))) (transport (sym (read-Fun l no_tag given_definitions no_variables params r)) (eq-eqb (length keys) (length params) n, out), tt),
      (λ h. (transport (read-Fun l no_tag given_definitions no_variables types R) h).1 x),
    )
