-- Whether a value is in a term is stable under double negation, so that a proof of it may go by cases.
use Rattle.std.proofs.Common.{ℕ, zero, suc, List, [], ◌∷◌}
use Rattle.std.specs.Prelude.{nat_eq}
use Rattle.type_terms.specs.declared.term.Term.{Term}
use Rattle.type_terms.specs.Keys.{Bound}
use Rattle.erl_runs.specs.Value.{Value, integer, atom, nil, cons, tuple, map_of, named_fun, closure, Values, no_values, value_and, Row, no_entries, entry_and, Outcome, came, raised, wrong, going, Call, Run}
use Rattle.type_terms.specs.declared.term.Def.{Def}
use Rattle.type_terms.specs.Instances.{Instance}
use Rattle.type_terms.proofs.ReadingStability.{Stable, unit-stable, none-stable, pair-stable, not-stable, cond-stable, StableReading, LayerStable, all_stable, entries_stable, read-stable}
use Rattle.erl_runs.specs.Membership

module _ (p : Membership.Program) where
  LevelsStable : Membership.Levels → Type 0
  LevelsStable table = (m : ℕ) (v : Value) → StableReading (table m v)

  ends-stable : (o : Outcome Value) (q : Value → Type 0) → ((v : Value) → Stable (q v)) → Stable (Membership.ends_well o q)
  ends-stable (came v) q h = h v
  ends-stable (raised c v) q h = unit-stable
  ends-stable wrong q h = none-stable
  ends-stable going q h = unit-stable

  pub calls-stable : (table : Membership.Levels) (cs : List Call) → Stable (Membership.calls_within p table cs)
  calls-stable table [] = unit-stable
  calls-stable table (c ∷ cs) = pair-stable (not-stable _) (calls-stable table cs)

  module _ (table : Membership.Levels) (ts : (m : ℕ) (v : Value) → StableReading (table m v)) (k : ℕ) where
    arrow-stable : (f : Value) (ss : List Term) (t : Term) (d : List Def) (i : Instance) → Stable (Membership.gives_at p table k f ss t d i)
    arrow-stable f ss t d i h m args l a =
        let r : Run Value = p.apply f args (suc m) in
        pair-stable (ends-stable r.outcome (λ v. table r.left v t d i) (λ v. ts r.left v t d i)) (calls-stable table r.calls) (λ k'. h (λ g. k' (g m args l a)))

    mutual
      layer-stable : (v : Value) → LayerStable (Membership.layer p table k v)
      layer-stable (integer n) = tt
      layer-stable (atom a) = tt
      layer-stable nil = tt
      layer-stable (cons a b) = (read-stable (Membership.layer p table k a) (layer-stable a) Membership.no_tag (λ c. none-stable), read-stable (Membership.layer p table k b) (layer-stable b) Membership.no_tag (λ c. none-stable))
      layer-stable (tuple vs) = layers-stable vs
      layer-stable (map_of es) = entry_layers-stable es
      layer-stable (named_fun n m) = arrow-stable (named_fun n m)
      layer-stable (closure n env) = arrow-stable (closure n env)

      layers-stable : (vs : Values) → all_stable (Membership.layers p table k vs)
      layers-stable no_values = tt
      layers-stable (value_and v vs) = (read-stable (Membership.layer p table k v) (layer-stable v) Membership.no_tag (λ c. none-stable), layers-stable vs)

      entry_layers-stable : {b : Bound} (es : Row b) → entries_stable (Membership.entry_layers p table k es)
      entry_layers-stable no_entries = tt
      entry_layers-stable (entry_and c e v es) = (read-stable (Membership.layer p table k v) (layer-stable v) Membership.no_tag (λ c. none-stable), entry_layers-stable es)

    level-stable : (v : Value) → StableReading (Membership.level p table k v)
    level-stable v = read-stable (Membership.layer p table k v) (layer-stable v) Membership.no_tag (λ c. none-stable)

  levels_below-stable : (k m : ℕ) (v : Value) → StableReading (Membership.levels_below p k m v)
  levels_below-stable zero m v t d i = none-stable
  levels_below-stable (suc k) m v t d i = cond-stable (nat_eq m k) (level-stable (Membership.levels_below p k) (levels_below-stable k) k v t d i) (levels_below-stable k m v t d i)

  pub in-stable : (k : ℕ) (v : Value) (t : Term) (d : List Def) (i : Instance) → Stable (Membership.InTerm p k v t d i)
  in-stable k v = level-stable (Membership.levels_below p k) (levels_below-stable k) k v
