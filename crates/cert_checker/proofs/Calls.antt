-- The law of calls: where a function is within the funs that take arguments of some types, such arguments are in its parameters.
use Rattle.std.proofs.Common.{◌≡◌, refl, sym, ◌∙◌, ap, ap₂, subst, inl, inr, ℕ, zero, suc, ◌<◌, ℤ, List, [], ◌∷◌, length, arith}
use Rattle.std.specs.Prelude.{Bool, true, false, ◌&&◌, cond, nat_eq}
use Rattle.std.specs.List.{Contains}
use Rattle.std.proofs.Math.Path.{transport}
use Rattle.std.proofs.lemmas.Bool.{and_parts, and_from, eqb-true, eq-eqb, false≢true}
use Rattle.type_terms.specs.Keys.{same_int, same_name}
use Rattle.type_terms.specs.declared.term.Def.{Def}
use Rattle.type_terms.specs.declared.term.Key.{Key}
use Rattle.type_terms.specs.declared.term.Key.TheVariants.{Int as IntKey, Atom as AtomKey}
use Rattle.type_terms.specs.declared.term.Term.{Term, Any, And, Fun}
use Rattle.type_terms.specs.Definitions.{given_definitions}
use Rattle.type_terms.specs.Instances.{Instance, IsInstance, no_variables}
use Rattle.type_terms.specs.Reading.{is_fun}
use Rattle.type_terms.proofs.KeyLaws.{name-refl, name-is, key-refl, key-is}
use Rattle.type_terms.proofs.Contained.{contains-cases, contains-none, contains-first}
use Rattle.type_terms.proofs.ReadingLaws.{read-Fun}
use Rattle.type_terms.proofs.ReadingStability.{Stable, unit-stable, none-stable, pair-stable}
use Rattle.erl_tree.specs.Lists.{Every}
use Rattle.erl_runs.specs.Value.{Value, integer, atom, nil, cons, tuple, map_of, named_fun, closure, IsFun, Run, Outcome, came, raised, wrong, going}
use Rattle.erl_runs.specs.Membership.{Program, InTerm, level, levels_below, layer, no_tag, values_in, ends_well, good_run, gives_at, IsGoodRun, calls_below, Spends}
use Rattle.erl_runs.specs.Running.{goes_wrong, still_going}
use Rattle.erl_runs.proofs.Equations.{in-And, in-Fun-iff}
use Rattle.erl_runs.proofs.MembershipStability.{in-stable}
use Rattle.cert_checker.specs.Constraints.{IsWithin, AreWithin}
use Rattle.cert_checker.specs.Failures.{keys_in}
use Rattle.cert_checker.proofs.KeyTerms.{IsKey, IsOfKeys, values-moved, values-keys}

-- ---- equal keys

-- whether two values are the same key
abbrev pub same_value : Value → Value → Bool
same_value (integer m) (integer n) = same_int m n
same_value (atom a) (atom b) = same_name a b
same_value _ _ = false

-- whether two rows of values are the same keys
abbrev pub same_values : List Value → List Value → Bool
same_values [] [] = true
same_values (v ∷ vs) (w ∷ ws) = same_value v w && same_values vs ws
same_values _ _ = false

int-inj : (m n : ℤ) → IntKey m ≡ IntKey n → m ≡ n
int-inj m n e = cc

value-refl : (v : Value) → IsKey v → same_value v v ≡ true
value-refl (integer n) h = key-refl (IntKey n)
value-refl (atom a) h = name-refl a
value-refl nil h = absurd h
value-refl (cons v w) h = absurd h
value-refl (tuple vs) h = absurd h
value-refl (map_of es) h = absurd h
value-refl (named_fun name arity) h = absurd h
value-refl (closure number environment) h = absurd h

value-is : (v w : Value) → IsKey w → same_value v w ≡ true → v ≡ w
value-is (integer m) (integer n) h e = ap integer (int-inj m n (key-is (IntKey m) (IntKey n) e))
value-is (atom a) (atom b) h e = ap atom (name-is a b e)
value-is _ (integer n) h e = absurd (false≢true e)
value-is _ (atom b) h e = absurd (false≢true e)
value-is v nil h e = absurd h
value-is v (cons a b) h e = absurd h
value-is v (tuple vs) h e = absurd h
value-is v (map_of es) h e = absurd h
value-is v (named_fun name arity) h e = absurd h
value-is v (closure number environment) h e = absurd h

pub values-refl : (vs : List Value) → Every IsKey vs → same_values vs vs ≡ true
values-refl [] h = refl
values-refl (v ∷ vs) h = and_from _ _ (value-refl v h.0) (values-refl vs h.1)

pub values-are : (vs ws : List Value) → Every IsKey ws → same_values vs ws ≡ true → vs ≡ ws
values-are [] [] h e = refl
values-are (v ∷ vs) (w ∷ ws) h e = let p : (same_value v w ≡ true) × (same_values vs ws ≡ true) = and_parts _ _ e in ap₂ ◌∷◌ (value-is v w h.0 p.0) (values-are vs ws h.1 p.1)
values-are [] (w ∷ ws) h e = absurd (false≢true e)
values-are (v ∷ vs) [] h e = absurd (false≢true e)

values-stable : (p : Program) (k : ℕ) (i : Instance) (vs : List Value) (ts : List Term) → Stable (values_in (InTerm p k) vs ts given_definitions i)
values-stable p k i [] [] = unit-stable
values-stable p k i (v ∷ vs) (t ∷ ts) = pair-stable (in-stable p k v t given_definitions i) (values-stable p k i vs ts)
values-stable p k i [] (t ∷ ts) = none-stable
values-stable p k i (v ∷ vs) [] = none-stable

-- ---- a program whose funs go wrong for some arguments alone

module _ (count : ℕ) (keys : List Value) where
  abbrev pub picky_apply : Value → List Value → ℕ → Run Value
  picky_apply f args zero = still_going 0
  picky_apply f args (suc m) = cond (same_values args keys) (goes_wrong 0) (still_going 0)

  abbrev pub picky : Program
  picky = record { apply = picky_apply; arity = λ f. count; specs = []; defs = given_definitions }

  picky-spends : Spends picky
  picky-spends f args m = go (same_values args keys)
    where
      go : (b : Bool) → ((cond b (goes_wrong {A = Value} 0) (still_going 0)).left < suc m) × calls_below (suc m) (cond b (goes_wrong {A = Value} 0) (still_going 0)).calls
      go true = (omega arith, tt)
      go false = (omega arith, tt)

  spared : (r : Term) (i : Instance) (b : Bool) → (b ≡ true → ⊥) → IsGoodRun picky (cond b (goes_wrong 0) (still_going 0)) r given_definitions i
  spared r i true h = absurd (h refl)
  spared r i false h = (tt, tt)

  wronged : (r : Term) (i : Instance) (b : Bool) → b ≡ true → IsGoodRun picky (cond b (goes_wrong 0) (still_going 0)) r given_definitions i → ⊥
  wronged r i true e h = h.0
  wronged r i false e h = false≢true e

-- where a function is within the funs that take such arguments, the arguments are in its parameters
pub call-takes : (types params : List Term) (r R : Term) → Every IsOfKeys types → Every IsOfKeys params → IsWithin (And (Fun params r ∷ [])) (Fun types R) →
    (p : Program) (k : ℕ) (i : Instance) (vs : List Value) → values_in (InTerm p k) vs types given_definitions i → values_in (InTerm p k) vs params given_definitions i
call-takes types params r R tk pk w p k i vs x = values-stable p k i vs params (λ out.
    let Q : Program = picky (length params) vs in
    let f : Value = named_fun [] 0 in
    let given : InTerm Q 1 f (Fun params r) given_definitions no_variables = (in-Fun-iff Q (picky-spends (length params) vs) 1 given_definitions no_variables params r f).1 (
      tt,
      refl,
      (λ m args l a.
          spared (length params) vs r no_variables (same_values args vs) (λ e.
          out (values-moved params pk Q p m k no_variables i vs (subst (λ z. values_in (InTerm Q m) z params given_definitions no_variables) (values-are args vs (values-keys types tk p k i vs x) e) a)))),
    ) in
    let both : InTerm Q 1 f (And (Fun params r ∷ [])) given_definitions no_variables = (in-And Q 1 given_definitions no_variables f (Fun params r ∷ [])).1 (λ t c. single Q f t (Fun params r) c given) in
    let taken : IsFun f × (Q.arity f ≡ length types) × ((m : ℕ) (args : List Value) → m < 1 → values_in (InTerm Q m) args types given_definitions no_variables → IsGoodRun Q (Q.apply f args (suc m)) R given_definitions no_variables) =
    (in-Fun-iff Q (picky-spends (length params) vs) 1 given_definitions no_variables types R f).0 (w Q no_variables 1 f tt both) in
    wronged (length params) vs R no_variables (same_values vs vs) (values-refl vs (values-keys types tk p k i vs x)) (taken.2 0 vs (omega arith) (values-moved types tk p Q k 0 i no_variables vs x)))
  where
    single : (Q : Program) (f : Value) (t u : Term) → Contains (u ∷ []) t → InTerm Q 1 f u given_definitions no_variables → InTerm Q 1 f t given_definitions no_variables
    single Q f t u c h = elim (contains-cases u t [] c) [ inl e ↦ subst (λ z. InTerm Q 1 f z given_definitions no_variables) e h | inr d ↦ absurd (contains-none t d) ]

-- ---- keys as values

-- the value that is a key
abbrev pub value_of : Key → Value
value_of (IntKey n) = integer n
value_of (AtomKey a) = atom a

-- the values that are keys
abbrev pub values_of : List Key → List Value
values_of [] = []
values_of (k ∷ ks) = value_of k ∷ values_of ks

pub keys-values : (p : Program) (l : ℕ) (d : List Def) (i : Instance) (ks : List Key) (ts : List Term) → keys_in ks ts d i → values_in (InTerm p l) (values_of ks) ts d i
keys-values p l d i [] [] h = tt
keys-values p l d i (IntKey n ∷ ks) (t ∷ ts) h = (h.0, keys-values p l d i ks ts h.1)
keys-values p l d i (AtomKey a ∷ ks) (t ∷ ts) h = (h.0, keys-values p l d i ks ts h.1)
keys-values p l d i [] (t ∷ ts) h = absurd h
keys-values p l d i (k ∷ ks) [] h = absurd h

pub values-of-keys : (p : Program) (l : ℕ) (d : List Def) (i : Instance) (ks : List Key) (ts : List Term) → values_in (InTerm p l) (values_of ks) ts d i → keys_in ks ts d i
values-of-keys p l d i [] [] h = tt
values-of-keys p l d i (IntKey n ∷ ks) (t ∷ ts) h = (h.0, values-of-keys p l d i ks ts h.1)
values-of-keys p l d i (AtomKey a ∷ ks) (t ∷ ts) h = (h.0, values-of-keys p l d i ks ts h.1)
values-of-keys p l d i [] (t ∷ ts) h = absurd h
values-of-keys p l d i (k ∷ ks) [] h = absurd h

-- keys of the types of the arguments, not all of which are in the parameters: the function isn't within the funs that take such arguments
pub call-fails : (keys : List Key) (types params : List Term) (r R : Term) → Every IsOfKeys types → Every IsOfKeys params → keys_in keys types given_definitions no_variables → (keys_in keys params given_definitions no_variables → ⊥) →
    IsWithin (And (Fun params r ∷ [])) (Fun types R) → ⊥
call-fails keys types params r R tk pk x out w =
    let Q : Program = picky 0 [] in
    out (values-of-keys Q 0 given_definitions no_variables keys params (call-takes types params r R tk pk w Q 0 no_variables (values_of keys) (keys-values Q 0 given_definitions no_variables keys types x)))

-- ---- arguments that fit

-- what is within is so at the levels below each level
within-below : (s t : Term) → IsWithin s t → (p : Program) (i : Instance) → IsInstance i → (k m : ℕ) (v : Value) → levels_below p k m v s given_definitions i → levels_below p k m v t given_definitions i
within-below s t w p i o zero m v h = h
within-below s t w p i o (suc k) m v h = go (nat_eq m k) h (within-below s t w p i o k m v)
  where
    go : (b : Bool) → cond b (level p (levels_below p k) k v s given_definitions i) (levels_below p k m v s given_definitions i) → (levels_below p k m v s given_definitions i → levels_below p k m v t given_definitions i) →
        cond b (level p (levels_below p k) k v t given_definitions i) (levels_below p k m v t given_definitions i)
    go true h rest = w p i k v o h
    go false h rest = rest h

values-below : (ss ts : List Term) → AreWithin ss ts → (p : Program) (i : Instance) → IsInstance i → (k m : ℕ) (vs : List Value) → values_in (levels_below p k m) vs ss given_definitions i → values_in (levels_below p k m) vs ts given_definitions i
values-below [] [] w p i o k m [] h = tt
values-below (s ∷ ss) (t ∷ ts) w p i o k m (v ∷ vs) h = (within-below s t w.0 p i o k m v h.0, values-below ss ts w.1 p i o k m vs h.1)
values-below [] [] w p i o k m (v ∷ vs) h = absurd h
values-below (s ∷ ss) (t ∷ ts) w p i o k m [] h = absurd h
values-below [] (t ∷ ts) w p i o k m vs h = absurd w
values-below (s ∷ ss) [] w p i o k m vs h = absurd w

within-length : (ss ts : List Term) → AreWithin ss ts → length ss ≡ length ts
within-length [] [] w = refl
within-length (s ∷ ss) (t ∷ ts) w = ap suc (within-length ss ts w.1)
within-length [] (t ∷ ts) w = absurd w
within-length (s ∷ ss) [] w = absurd w

ends-weaker : (o : Outcome Value) (q r : Value → Type 0) → ((v : Value) → q v → r v) → ends_well o q → ends_well o r
ends-weaker (came v) q r f h = f v h
ends-weaker (raised c v) q r f h = h
ends-weaker wrong q r f h = h
ends-weaker going q r f h = h

-- funs that take more and give less are within
pub fun-within : (types params : List Term) (r R : Term) → AreWithin types params → IsWithin r R → IsWithin (Fun params r) (Fun types R)
fun-within types params r R w u p i k f o h =
    transport (sym (read-Fun (layer p (levels_below p k) k f) no_tag given_definitions i types R)) (go f (transport (read-Fun (layer p (levels_below p k) k f) no_tag given_definitions i params r) h))
  where
    gives : (g : Value) → gives_at p (levels_below p k) k g params r given_definitions i → gives_at p (levels_below p k) k g types R given_definitions i
    gives g h m args l a =
        let x : good_run p (levels_below p k) (p.apply g args (suc m)) r given_definitions i = h m args l (values-below types params w p i o k m args a) in
        let run : Run Value = p.apply g args (suc m) in
        (ends-weaker run.outcome (λ v. levels_below p k run.left v r given_definitions i) (λ v. levels_below p k run.left v R given_definitions i) (λ v. within-below r R u p i o k run.left v) x.0, x.1)

    arity : (n : ℕ) → nat_eq n (length params) ≡ true → nat_eq n (length types) ≡ true
    arity n e = eq-eqb n (length types) (eqb-true n (length params) e ∙ sym (within-length types params w))

    go : (g : Value) → is_fun params r given_definitions i (layer p (levels_below p k) k g) → is_fun types R given_definitions i (layer p (levels_below p k) k g)
    go (named_fun name n) h = (arity _ h.0, gives (named_fun name n) h.1)
    go (closure number environment) h = (arity _ h.0, gives (closure number environment) h.1)
    go (integer n) h = absurd h
    go (atom a) h = absurd h
    go nil h = absurd h
    go (cons v w) h = absurd h
    go (tuple vs) h = absurd h
    go (map_of es) h = absurd h

-- where the arguments fit, the function is within the funs that take them
pub call-within : (types params : List Term) (r R : Term) → AreWithin types params → IsWithin r R → IsWithin (And (Fun params r ∷ [])) (Fun types R)
call-within types params r R w u p i k f o h = fun-within types params r R w u p i k f o ((in-And p k given_definitions i f (Fun params r ∷ [])).0 h (Fun params r) (contains-first (Fun params r) []))

pub within-same : (t : Term) → IsWithin t t
within-same t p i k v o h = h

pub within-any : (t : Term) → IsWithin t Any
within-any t p i k v o h = tt
