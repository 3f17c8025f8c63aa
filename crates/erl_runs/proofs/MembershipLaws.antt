-- The equations of a value in a term that are its own.
use Rattle.std.proofs.Common.{◌≡◌, refl, sym, ◌∙◌, ap, ℕ, zero, suc, ◌<◌, ◌≤◌, List, [], ◌∷◌, length, arith}
use Rattle.std.proofs.lemmas.Bool.{eqb-true, eqb-false}
use Rattle.std.specs.Prelude.{nat_eq, Bool, true, false, cond}
use Rattle.type_terms.specs.declared.term.Term.{Term, Fun}
use Rattle.type_terms.specs.declared.term.Def.{Def}
use Rattle.type_terms.specs.Reading.{is_fun}
use Rattle.erl_runs.specs.Value.{integer, atom, nil, cons, tuple, map_of, closure, named_fun, Value, named_fun, Call, Run}
use Rattle.type_terms.specs.declared.spec.Arrow.{Arrow}
use Rattle.type_terms.specs.Instances.{Instance, IsInstance}
use Rattle.std.specs.List.{Contains}
use Rattle.erl_runs.specs.Membership.{Program, InTerm, levels_below, level, layer, no_tag, gives_at, values_in, good_run, ends_well, calls_within, arrows_of, calls_below, Spends}
use Rattle.type_terms.proofs.ReadingLaws.{read-Fun}

-- below k the table has the levels
pub levels_below-is : (p : Program) (k m : ℕ) (v : Value) (t : Term) (d : List Def) (i : Instance) → m < k → levels_below p k m v t d i ≡ InTerm p m v t d i
levels_below-is p zero m v t d i l = absurd (omega arith)
levels_below-is p (suc k) m v t d i l = go (nat_eq m k) refl (levels_below-is p k m v t d i)
  where
    go : (b : Bool) → nat_eq m k ≡ b → (m < k → levels_below p k m v t d i ≡ InTerm p m v t d i) → cond b (level p (levels_below p k) k v t d i) (levels_below p k m v t d i) ≡ InTerm p m v t d i
    go true e h = let q : m ≡ k = eqb-true m k e in ap (λ n. InTerm p n v t d i) (sym q)
    go false e h = let ne : m ≡ k → ⊥ = eqb-false m k e in h (grind arith)

module _ (p : Program) (k : ℕ) where
  table-is : (m : ℕ) → m < k → levels_below p k m ≡ InTerm p m
  table-is m l = λ j v t d i. levels_below-is p k m v t d i l j

  calls-is : (cs : List Call) → calls_below k cs → calls_within p (levels_below p k) cs ≡ calls_within p (InTerm p) cs
  calls-is [] h = refl
  calls-is (c ∷ cs) h = λ j. (((a : Arrow) (i : Instance) → Contains (arrows_of p.specs c.name (length c.args)) a → IsInstance i → values_in (table-is c.left h.0 j) c.args a.params p.defs i → ⊥) → ⊥) × calls-is cs h.1 j

  good-is : (run : Run Value) (t : Term) (d : List Def) (i : Instance) → run.left < k → calls_below k run.calls → good_run p (levels_below p k) run t d i ≡ good_run p (InTerm p) run t d i
  good-is run t d i l h = λ j. ends_well run.outcome (λ v. table-is run.left l j v t d i) × calls-is run.calls h j

calls_below-mono : (m k : ℕ) → m ≤ k → (cs : List Call) → calls_below m cs → calls_below k cs
calls_below-mono m k l [] h = tt
calls_below-mono m k l (c ∷ cs) h = (omega arith, calls_below-mono m k l cs h.1)

-- in the meaning of a function argument_of level k the table of the levels below k stands for the levels themselves
pub arrow-is : (p : Program) → Spends p → (k : ℕ) (f : Value) (ss : List Term) (t : Term) (d : List Def) (i : Instance) → gives_at p (levels_below p k) k f ss t d i ≡ gives_at p (InTerm p) k f ss t d i
arrow-is p spends k f ss t d i = λ j. (m : ℕ) (args : List Value) (l : m < k) → values_in (table-is p k m l j) args ss d i → good-argument_of m args l j
  where
    good-argument_of : (m : ℕ) (args : List Value) → m < k → good_run p (levels_below p k) (p.apply f args (suc m)) t d i ≡ good_run p (InTerm p) (p.apply f args (suc m)) t d i
    good-argument_of m args l =
        let s : ((p.apply f args (suc m)).left < suc m) × calls_below (suc m) (p.apply f args (suc m)).calls = spends f args m in
        good-is p k (p.apply f args (suc m)) t d i (omega arith) (calls_below-mono (suc m) k (omega arith) _ s.1)

pub in-Fun : (p : Program) → Spends p → (k : ℕ) (f : Value) (ss : List Term) (t : Term) (d : List Def) (i : Instance) → InTerm p k f (Fun ss t) d i ≡ is_fun ss t d i (layer p (InTerm p) k f)
in-Fun p spends k f ss t d i = read-Fun (layer p (levels_below p k) k f) no_tag d i ss t ∙ go f
  where
    go : (f' : Value) → is_fun ss t d i (layer p (levels_below p k) k f') ≡ is_fun ss t d i (layer p (InTerm p) k f')
    go (named_fun name m) = λ j. (nat_eq (p.arity (named_fun name m)) (length ss) ≡ true) × arrow-is p spends k (named_fun name m) ss t d i j
    go (closure code env) = λ j. (nat_eq (p.arity (closure code env)) (length ss) ≡ true) × arrow-is p spends k (closure code env) ss t d i j
    go (integer n) = refl
    go (atom a) = refl
    go nil = refl
    go (cons a b) = refl
    go (tuple vs) = refl
    go (map_of es) = refl
