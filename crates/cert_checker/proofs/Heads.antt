-- A head of distinct variables and wildcards takes any row of as many values, and afterwards each variable has its own value.
use Rattle.std.proofs.Common.{◌≡◌, refl, sym, ◌∙◌, ap, subst, ◌⊎◌, inl, inr, ℕ, List, [], ◌∷◌, ◌++◌, length}
use Rattle.std.specs.Prelude.{Bool, true, false, ◌||◌, Option, Some, None, if◌then◌else◌}
use Rattle.std.specs.List.{list_any}
use Rattle.type_terms.specs.declared.term.Key.TheVariants.{Atom as AtomKey}
use Rattle.type_terms.specs.declared.term.Term.{Term}
use Rattle.type_terms.specs.declared.term.Def.{Def}
use Rattle.type_terms.specs.Keys.{Name, any_atom, same_name, name_lt}
use Rattle.type_terms.specs.Instances.{Instance}
use Rattle.type_terms.proofs.KeyLaws.{name-same, name-refl, name-is}
use Rattle.erl_tree.specs.declared.token.Place.{Place}
use Rattle.erl_tree.specs.declared.token.Node.{Node}
use Rattle.erl_tree.specs.declared.pattern.PatternKind.{PatternKind, out-PatternKind, roll-PatternKind, roll-out-PatternKind}
use Rattle.erl_tree.specs.declared.pattern.PatternKind.TheVariants as Y
use Rattle.erl_tree.specs.declared.pattern.PatternKind.TheOpen as P
use Rattle.erl_tree.specs.declared.form.RecDefKind.{RecDefKind}
use Rattle.erl_tree.specs.Lists.{Every, Among, AreDistinct}
use Rattle.flat_modules.specs.Grammar.{IsPattern, is_pattern_layer}
use Rattle.erl_runs.specs.Names.{is_wildcard}
use Rattle.flat_modules.specs.FlatNames.{bound_layer, bound_by}
use Rattle.erl_runs.specs.Value.{Value, Environment}
use Rattle.erl_runs.specs.Matching.{variable_value, with_variable, Match, match_variable, match_next, match_kind, match_patterns}
use Rattle.erl_runs.specs.Membership.{Levels, values_in}
use Rattle.erl_runs.proofs.FiniteMapLaws.{get-insert_same, get-insert_other}
use Rattle.erl_runs.proofs.MatchLaws.{match_kind-Var}
use Rattle.cert_checker.specs.Constraints.{variable_type}

names-apart : (x y : Name) → (x ≡ y → ⊥) → (name_lt x y ≡ true) ⊎ (name_lt y x ≡ true)
names-apart x y h = go (name_lt x y) (name_lt y x) refl refl
  where
    go : (a b : Bool) → name_lt x y ≡ a → name_lt y x ≡ b → (name_lt x y ≡ true) ⊎ (name_lt y x ≡ true)
    go true b p q = inl p
    go false true p q = inr q
    go false false p q = absurd (h (name-same x y p q))

pub names-differ : (x y : Name) → (x ≡ y → ⊥) → same_name x y ≡ false
names-differ x y h = go (same_name x y) refl
  where
    go : (b : Bool) → same_name x y ≡ b → same_name x y ≡ false
    go true e = absurd (h (name-is x y e))
    go false e = e

pub variable-same : (x : Name) (v : Value) (e : Environment) → variable_value (with_variable x v e) x ≡ Some v
variable-same x v e = get-insert_same {b = any_atom} (AtomKey x) refl v e

pub variable-other : (x y : Name) (v : Value) (e : Environment) → (y ≡ x → ⊥) → variable_value (with_variable x v e) y ≡ variable_value e y
variable-other x y v e h = get-insert_other {b = any_atom} (AtomKey x) refl v e (AtomKey y) (names-apart y x h)

-- an environment in which these variables have values of their types, and the others what they had
pub record Taken (In : Value → Term → Type 0) (bound : List Name) (type_of : Name → Option Term) (before : Environment) (matched : Option Environment) : Type 0 where
  pub environment : Environment
  pub is : matched ≡ Some environment
  pub own : (x : Name) → Among x bound → (t : Term) × (v : Value) × (type_of x ≡ Some t) × (variable_value environment x ≡ Some v) × In v t
  pub others : (x : Name) → (Among x bound → ⊥) → variable_value environment x ≡ variable_value before x

-- each value in its term
abbrev pub all_in : (Value → Term → Type 0) → List Value → List Term → Type 0
all_in In [] [] = Unit {0}
all_in In (v ∷ vs) (t ∷ ts) = In v t × all_in In vs ts
all_in In _ _ = ⊥

pub always-in : (levels : Levels) (vs : List Value) (ts : List Term) (d : List Def) (i : Instance) → ((k : ℕ) → values_in (levels k) vs ts d i) → all_in (λ v t. (k : ℕ) → levels k v t d i) vs ts
always-in levels [] [] d i h = tt
always-in levels (v ∷ vs) (t ∷ ts) d i h = (λ k. (h k).0, always-in levels vs ts d i (λ k. (h k).1))
always-in levels [] (t ∷ ts) d i h = h 0
always-in levels (v ∷ vs) [] d i h = h 0

module _ (In : Value → Term → Type 0) (records : List RecDefKind) where
  abbrev Rest : List Name → (Name → Option Term) → (Environment → Option Environment) → Type 0
  Rest bound type_of next = (e : Environment) → ((x : Name) → Among x bound → variable_value e x ≡ None) → Taken In bound type_of e (next e)

  -- a variable takes a value
  module _ (x : Name) (v : Value) (t : Term) (e : Environment) (bound : List Name) (type_of : Name → Option Term) (next : Environment → Option Environment) where
    abbrev typed : Name → Option Term
    typed y = if list_any (same_name y) (x ∷ []) then Some t else type_of y

    typed-same : (y : Name) → y ≡ x → typed y ≡ Some t
    typed-same y e = ap (λ (b : Bool). if (b || false) then Some t else type_of y) (subst (λ z. same_name y z ≡ true) e (name-refl y))

    typed-other : (y : Name) → (y ≡ x → ⊥) → typed y ≡ type_of y
    typed-other y h = ap (λ (b : Bool). if (b || false) then Some t else type_of y) (names-differ y x h)

    bind : (Among x bound → ⊥) → In v t → ((y : Name) → Among y bound → variable_value e y ≡ None) → Rest bound type_of next →
        Taken In (x ∷ bound) typed e (next (with_variable x v e))
    bind new h unbound rest =
        let apart : (y : Name) → Among y bound → y ≡ x → ⊥ = λ y a q. new (subst (λ z. Among z bound) q a) in
        let r : Taken In bound type_of (with_variable x v e) (next (with_variable x v e)) = rest (with_variable x v e) (λ y a. variable-other x y v e (apart y a) ∙ unbound y a) in
        record {
          environment = r.environment;
          is = r.is;
          own = λ y a. elim a [
            | inl q ↦ (t, v, typed-same y q, ap (variable_value r.environment) q ∙ (r.others x new ∙ variable-same x v e), h)
            | inr b ↦ let o : (s : Term) × (w : Value) × (type_of y ≡ Some s) × (variable_value r.environment y ≡ Some w) × In w s = r.own y b in (o.0, o.1, typed-other y (apart y b) ∙ o.2, o.3, o.4)
          ];
          others = λ y n. r.others y (λ a. n (inr a)) ∙ variable-other x y v e (λ q. n (inl q));
        }

    take-var : (w : Bool) → AreDistinct ((if w then [] else x ∷ []) ++ bound) → In v t → ((y : Name) → Among y ((if w then [] else x ∷ []) ++ bound) → variable_value e y ≡ None) → Rest bound type_of next →
        Taken In ((if w then [] else x ∷ []) ++ bound) (λ y. if list_any (same_name y) (if w then [] else x ∷ []) then Some t else type_of y) e
        (match_next (if w then Some e else match_variable (variable_value e x) x v e) next)
    take-var true d h unbound rest = rest e unbound
    take-var false d h unbound rest = subst (λ o. Taken In (x ∷ bound) typed e (match_next (match_variable o x v e) next)) (sym (unbound x (inl refl))) (bind d.0 h (λ y a. unbound y (inr a)) rest)

  variable-matches : (x : Name) → match_kind records (roll-PatternKind (P.Var x)) ≡ (λ v e. if is_wildcard x then Some e else match_variable (variable_value e x) x v e)
  variable-matches x = ap (λ k. match_kind records k) (Y.rolls-Var x) ∙ match_kind-Var records x

  take-pattern : (l : P.PatternKind-F PatternKind) (place : Place) (marks : List Place) → is_pattern_layer l place marks → (v : Value) (t : Term) (e : Environment) (bound : List Name) (type_of : Name → Option Term) (next : Environment → Option Environment) →
      AreDistinct (bound_layer l ++ bound) → In v t → ((y : Name) → Among y (bound_layer l ++ bound) → variable_value e y ≡ None) → Rest bound type_of next →
      Taken In (bound_layer l ++ bound) (λ y. if list_any (same_name y) (bound_layer l) then Some t else type_of y) e (match_next (match_kind records (roll-PatternKind l) v e) next)
  take-pattern (P.Var x) place marks w v t e bound type_of next d h unbound rest =
      subst (λ (m : Match). Taken In ((if is_wildcard x then [] else x ∷ []) ++ bound) (λ y. if list_any (same_name y) (if is_wildcard x then [] else x ∷ []) then Some t else type_of y) e (match_next (m v e) next)) (sym (variable-matches x))
      (take-var x v t e bound type_of next (is_wildcard x) d h unbound rest)
  take-pattern _ place marks w v t e bound type_of next d h unbound rest = absurd w

  distinct-rest : (xs ys : List Name) → AreDistinct (xs ++ ys) → AreDistinct ys
  distinct-rest [] ys h = h
  distinct-rest (x ∷ xs) ys h = distinct-rest xs ys h.1

  among-rest : (xs ys : List Name) (y : Name) → Among y ys → Among y (xs ++ ys)
  among-rest [] ys y a = a
  among-rest (x ∷ xs) ys y a = inr (among-rest xs ys y a)

  pub take-patterns : (ps : List (Node PatternKind)) (ts : List Term) (vs : List Value) (e : Environment) → Every IsPattern ps → AreDistinct (bound_by ps) → length ps ≡ length ts → all_in In vs ts →
      ((x : Name) → Among x (bound_by ps) → variable_value e x ≡ None) → Taken In (bound_by ps) (variable_type ps ts) e (match_patterns records ps vs e)
  take-patterns [] [] [] e w d l h unbound = record { environment = e; is = refl; own = λ x a. absurd a; others = λ x n. refl }
  take-patterns (p ∷ ps) (t ∷ ts) (v ∷ vs) e w d l h unbound =
      subst (λ k. Taken In (bound_by (p ∷ ps)) (variable_type (p ∷ ps) (t ∷ ts)) e (match_next (match_kind records k v e) (match_patterns records ps vs))) (roll-out-PatternKind p.kind)
      (take-pattern (out-PatternKind p.kind) p.place p.marks w.0 v t e (bound_by ps) (variable_type ps ts) (match_patterns records ps vs) d h.0 unbound
      (λ e' u. take-patterns ps ts vs e' w.1 (distinct-rest (bound_layer (out-PatternKind p.kind)) (bound_by ps) d) (cc) h.1 u))
  take-patterns [] (t ∷ ts) vs e w d l h unbound = absurd (cc)
  take-patterns (p ∷ ps) [] vs e w d l h unbound = absurd (cc)
  take-patterns [] [] (v ∷ vs) e w d l h unbound = absurd h
  take-patterns (p ∷ ps) (t ∷ ts) [] e w d l h unbound = absurd h
