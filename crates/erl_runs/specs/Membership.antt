-- When a value is in a type term, and when a run is good (semantic subtyping, Frisch, Castagna, Benzaken 2008: a type is the set of its values. The levels are this project's own: at level k a fun is judged by what it gives with m + 1 steps for arguments of level m, for each m below k).
use Rattle.std.specs.Prelude.{ℕ, zero, suc, ◌<◌, List, [], ◌∷◌, ◌++◌, Bool, true, false, ◌&&◌, cond, nat_eq, length}
use Rattle.std.specs.List.{Contains}
use Rattle.type_terms.specs.declared.term.Key.{Key}
use Rattle.type_terms.specs.declared.term.Term.{Term}
use Rattle.type_terms.specs.declared.term.Def.{Def}
use Rattle.type_terms.specs.declared.spec.Arrow.{Arrow}
use Rattle.type_terms.specs.declared.spec.FunSpec.{FunSpec}
use Rattle.type_terms.specs.Keys.{Name, Bound, same_name}
use Rattle.type_terms.specs.Instances.{Instance, IsInstance}
use Rattle.type_terms.specs.Reading.{Reading, Layer, integer_layer, atom_layer, nil_layer, cons_layer, tuple_layer, map_layer, fun_layer, read}
use Rattle.erl_runs.specs.Value.{Value, integer, atom, nil, cons, tuple, map_of, named_fun, closure, Values, no_values, value_and, Row, no_entries, entry_and, Outcome, came, raised, wrong, going, Call, Run}

-- a program that is run: what applying a value gives with so many steps, a fun's arity, the specs, and the definitions that the specs are written over
pub record Program : Type 0 where
  pub apply : Value → List Value → ℕ → Run Value
  pub arity : Value → ℕ
  pub specs : List FunSpec
  pub defs : List Def

-- the arrows of a spec that is for this name and arity
abbrev pub arrows_if : Bool → List Arrow → List Arrow
arrows_if true arrows = arrows
arrows_if false arrows = []

-- the arrows of the function with this name and arity: the clauses of its spec
abbrev pub arrows_of : List FunSpec → Name → ℕ → List Arrow
arrows_of [] name arity = []
arrows_of (spec ∷ specs) name arity = arrows_if (same_name spec.name name && nat_eq spec.arity arity) spec.clauses ++ arrows_of specs name arity

-- whether a value is in a term, for each level
abbrev pub Levels : Type 1
Levels = ℕ → Value → Reading

-- as many values as terms, each in its term
abbrev pub values_in : (Value → Reading) → List Value → List Term → List Def → Instance → Type 0
values_in r [] [] d i = Unit {0}
values_in r (v ∷ vs) (t ∷ ts) d i = r v t d i × values_in r vs ts d i
values_in r _ _ d i = ⊥

-- the outcome is not wrong, and a value that came is as asked
abbrev pub ends_well : Outcome Value → (Value → Type 0) → Type 0
ends_well (came v) p = p v
ends_well (raised class v) p = Unit {0}
ends_well wrong p = ⊥
ends_well going p = Unit {0}

-- a call is within its function's spec: there are (not "there are none", which is the same where the law of excluded middle holds) an arrow and an instance with the arguments in its parameters, at the level of the steps left for the call
abbrev pub call_within : Program → Levels → Call → Type 0
call_within program levels c =
    ((arrow : Arrow) (i : Instance) → Contains (arrows_of program.specs c.name (length c.args)) arrow → IsInstance i → values_in (levels c.left) c.args arrow.params program.defs i → ⊥) → ⊥

-- each call is within its function's spec
abbrev pub calls_within : Program → Levels → List Call → Type 0
calls_within program levels [] = Unit {0}
calls_within program levels (c ∷ cs) = call_within program levels c × calls_within program levels cs

-- a run is good for a term: it is not wrong, a value that came is in the term at the level of the steps left, and each call is within its spec
abbrev pub good_run : Program → Levels → Run Value → Term → List Def → Instance → Type 0
good_run program levels run t d i = ends_well run.outcome (λ v. levels run.left v t d i) × calls_within program levels run.calls

-- at level k: for every m below k and all arguments in the parameters at m, applying f with m + 1 steps is good for the result
abbrev pub gives_at : Program → Levels → ℕ → Value → List Term → Term → List Def → Instance → Type 0
gives_at program levels k f parameters result d i =
    (m : ℕ) (args : List Value) → m < k → values_in (levels m) args parameters d i → good_run program levels (program.apply f args (suc m)) result d i

-- a value has no tags: a variable without an entry holds of no value
abbrev pub no_tag : ℕ → Type 0
no_tag a = ⊥

-- a value's layer at level k, given the levels below k
module _ (program : Program) (levels : Levels) (k : ℕ) where
  abbrev mutual
    -- the head of a value, with its parts read at the same level; a fun gives what it gives for arguments below the level
    pub layer : Value → Layer
    layer (integer n) = integer_layer n
    layer (atom a) = atom_layer a
    layer nil = nil_layer
    layer (cons head tail) = cons_layer (read (layer head) no_tag) (read (layer tail) no_tag)
    layer (tuple vs) = tuple_layer (layers vs)
    layer (map_of entries) = map_layer (entry_layers entries)
    layer (named_fun name arity) = fun_layer (program.arity (named_fun name arity)) (gives_at program levels k (named_fun name arity))
    layer (closure code environment) = fun_layer (program.arity (closure code environment)) (gives_at program levels k (closure code environment))

    -- each value of a row, read
    pub layers : Values → List {1} Reading
    layers no_values = []
    layers (value_and v vs) = read (layer v) no_tag ∷ layers vs

    -- the entries of a map, with each value read
    pub entry_layers : {b : Bound} → Row b → List {1} (Key × Reading)
    entry_layers no_entries = []
    entry_layers (entry_and k e v es) = (k, read (layer v) no_tag) ∷ entry_layers es

-- level k, given the levels below it
abbrev pub level : Program → Levels → ℕ → Value → Reading
level program levels k v = read (layer program levels k v) no_tag

-- the levels below k
abbrev pub levels_below : Program → ℕ → Levels
levels_below program zero m v t d i = ⊥
levels_below program (suc k) m v t d i = cond (nat_eq m k) (level program (levels_below program k) k v t d i) (levels_below program k m v t d i)

-- a value is in a term at level k, with names read by the definitions and variables by the instance
abbrev pub InTerm : Program → ℕ → Value → Term → List Def → Instance → Type 0
InTerm program k = level program (levels_below program k) k

-- a run is good for a term under an instance
abbrev pub IsGoodRun : Program → Run Value → Term → List Def → Instance → Type 0
IsGoodRun program = good_run program (InTerm program)

-- each call has fewer steps left than this
abbrev pub calls_below : ℕ → List Call → Type 0
calls_below k [] = Unit {0}
calls_below k (c ∷ cs) = (c.left < k) × calls_below k cs

-- an application spends a step: fewer are left after it, and for each call in it
abbrev pub Spends : Program → Type 0
Spends program = (f : Value) (args : List Value) (m : ℕ) → ((program.apply f args (suc m)).left < suc m) × calls_below (suc m) (program.apply f args (suc m)).calls
