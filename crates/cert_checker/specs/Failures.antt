-- What a refusal shows: the first constraint that fails, with an element of its left side that isn't in its right side.
use Rattle.std.specs.Prelude.{◌≡◌, ℕ, ◌<◌, List, [], ◌∷◌, ◌++◌, length, Option, MatchOption}
use Rattle.type_terms.specs.declared.term.Key.{Key}
use Rattle.type_terms.specs.declared.term.Key.TheVariants.{Int as IntKey, Atom as AtomKey}
use Rattle.type_terms.specs.declared.term.Term.{Term}
use Rattle.type_terms.specs.declared.term.Def.{Def}
use Rattle.type_terms.specs.declared.spec.Kind.{Kind}
use Rattle.type_terms.specs.Definitions.{given_definitions}
use Rattle.type_terms.specs.Instances.{Instance, no_variables}
use Rattle.type_terms.specs.Reading.{Layer, integer_layer, atom_layer, fun_layer, read}
use Rattle.erl_tree.specs.declared.token.Place.{Place}
use Rattle.erl_tree.specs.declared.form.Module.{Module}
use Rattle.erl_tree.specs.Lists.{Every}
use Rattle.erl_tree.specs.Functions.{functions_of}
use Rattle.erl_runs.specs.Membership.{no_tag}
use Rattle.cert_checker.specs.declared.refusal.Shown.{Shown}
use Rattle.cert_checker.specs.declared.refusal.Shown.TheVariants.{One, Missing}
use Rattle.cert_checker.specs.declared.refusal.FirstRefusal.{FirstRefusal}
use Rattle.cert_checker.specs.declared.refusal.FirstRefusal.TheVariants.{NoMemory, Failed}
use Rattle.cert_checker.specs.Constraints.{Constraint, IsWithin, Holds, Test, FindsFits, owed_of}

-- ---- elements

-- an integer or an atom
abbrev pub key_layer : Key → Layer
key_layer (IntKey n) = integer_layer n
key_layer (AtomKey a) = atom_layer a

-- as many keys as terms, each in its term
abbrev pub keys_in : List Key → List Term → List Def → Instance → Type 0
keys_in [] [] defs inst = Unit {0}
keys_in (k ∷ ks) (t ∷ ts) defs inst = read (key_layer k) no_tag t defs inst × keys_in ks ts defs inst
keys_in _ _ defs inst = ⊥

-- What is shown: a key, or the fun that fails for these arguments and says nothing of others. It is in a fun type where these arguments aren't all in the type's parameters.
abbrev pub shown_layer : Shown → Layer
shown_layer (One key) = key_layer key
shown_layer (Missing keys) = fun_layer (length keys) (λ parameters result defs inst. keys_in keys parameters defs inst → ⊥)

-- what is shown is in a term
abbrev pub ShownIn : Shown → Term → Type 0
ShownIn shown t = read (shown_layer shown) no_tag t given_definitions no_variables

-- what is shown is in the left term and not in the right one
abbrev pub Refutes : Shown → Term → Term → Type 0
Refutes shown left right = ShownIn shown left × (ShownIn shown right → ⊥)

-- an integer or an atom is in a term
abbrev pub KeyIn : Key → Term → Type 0
KeyIn key t = ShownIn (One key) t

-- what a comparison of two terms found: nothing where the left one is within the right one, and else a key outside
abbrev pub IsCompared : Term → Term → Option Key → Type 0
IsCompared left right found = MatchOption found (IsWithin left right) (λ key. Refutes (One key) left right)

-- ---- failures

-- one constraint of a list is of this function, place and kind, all before it hold, it fails, and the element refutes it
pub record IsFirstFailure (owed : List Constraint) (function : ℕ) (place : Place) (kind : Kind) (shown : Shown) : Type 0 where
  pub before : List Constraint
  pub left : Term
  pub right : Term
  pub after : List Constraint
  pub listed : owed ≡ before ++ record { function = function; place = place; kind = kind; left = left; right = right } ∷ after
  pub earlier : Every Holds before
  pub fails : IsWithin left right → ⊥
  pub refuted : Refutes shown left right

-- what a refusal says of a list of constraints, the functions of which have numbers below a count; want of memory says nothing
abbrev pub ShowsFailure : List Constraint → (count : ℕ) → FirstRefusal → Type 0
ShowsFailure owed count NoMemory = Unit {0}
ShowsFailure owed count (Failed function place kind shown) = IsFirstFailure owed function place kind shown × (function < count)

-- what a refusal says of a module: the first constraint that fails, with each test of arguments that finds what fits
abbrev pub ShowsFirstFailure : Module → FirstRefusal → Type 0
ShowsFirstFailure m refusal = (fits : Test) → FindsFits fits → ShowsFailure (owed_of fits m) (length (functions_of m)) refusal

-- every constraint of a module holds, with each test of arguments that finds what fits
abbrev pub MeetsConstraints : Module → Type 0
MeetsConstraints m = (fits : Test) → FindsFits fits → Every Holds (owed_of fits m)
