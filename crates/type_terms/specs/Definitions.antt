-- When named types are well defined: contractive, with each name defined (Frisch, Castagna, Benzaken 2008: each infinite branch of a type passes infinitely many constructors).
use Rattle.std.specs.Prelude.{◌≡◌, ℕ, ◌<◌, List, [], ◌∷◌, length, slice_get, Option, Some, true}
use Rattle.std.specs.List.{Contains}
use Rattle.type_terms.specs.declared.term.Def.{Def}
use Rattle.type_terms.specs.declared.term.Field.{Field}
use Rattle.type_terms.specs.declared.term.Term.{Term, Nil, Cons, Map, Or, Var, Name}
use Rattle.type_terms.specs.Keys.{ascending}
use Rattle.type_terms.specs.Parts.{field_keys, operands, IsPart}

mutual
  -- the first term stands in the second under no constructor; or so in an argument of such a name, where the name's definition is open in that parameter
  pub data IsBarePart (defs : List Def) : Term → Term → Type 0 where
    itself : (t : Term) → IsBarePart defs t t
    in_operand : (part operand whole : Term) → Contains (operands whole) operand → IsBarePart defs part operand → IsBarePart defs part whole
    in_argument : (part argument whole : Term) (n j : ℕ) (arguments : List Term) → whole ≡ Name n arguments → slice_get arguments j ≡ Some argument → IsOpenIn defs n j → IsBarePart defs part argument → IsBarePart defs part whole

  -- definition n is open in parameter i: `Var(i)` is a bare part of its body
  pub data IsOpenIn (defs : List Def) : ℕ → ℕ → Type 0 where
    open_in : (n i : ℕ) (def : Def) → slice_get defs n ≡ Some def → IsBarePart defs (Var i) def.body → IsOpenIn defs n i

-- definition n reaches m: a name m is a bare part of its body, or it reaches one that reaches m
pub data Reaches (defs : List Def) : ℕ → ℕ → Type 0 where
  directly : (n m : ℕ) (def : Def) (arguments : List Term) → slice_get defs n ≡ Some def → IsBarePart defs (Name m arguments) def.body → Reaches defs n m
  by_way_of : (n between m : ℕ) → Reaches defs n between → Reaches defs between m → Reaches defs n m

-- definitions, each of which is reached from the one before; the first from n
abbrev pub IsChainAfter : List Def → ℕ → List ℕ → Type 0
IsChainAfter defs n [] = Unit {0}
IsChainAfter defs n (m ∷ ms) = Reaches defs n m × (m < length defs) × IsChainAfter defs m ms

-- definitions, each of which is reached from the one before
abbrev pub IsChain : List Def → List ℕ → Type 0
IsChain defs [] = Unit {0}
IsChain defs (n ∷ ns) = (n < length defs) × IsChainAfter defs n ns

-- no definition reaches itself
abbrev pub IsContractive : List Def → Type 0
IsContractive defs = (n : ℕ) → Reaches defs n n → ⊥

-- each name in the term has a definition with that number of parameters
abbrev pub NamesAreDefined : List Def → Term → Type 0
NamesAreDefined defs t = (n : ℕ) (arguments : List Term) → IsPart (Name n arguments) t → (def : Def) × (slice_get defs n ≡ Some def) × (def.params ≡ length arguments)

-- each variable in the term has a number below this one
abbrev pub VariablesBelow : ℕ → Term → Type 0
VariablesBelow count t = (i : ℕ) → IsPart (Var i) t → i < count

-- the keys of each map term in the term ascend and are distinct
abbrev pub FieldsAscend : Term → Type 0
FieldsAscend t = (fields : List Field) (rest_int rest_atom : Option Term) → IsPart (Map fields rest_int rest_atom) t → ascending (field_keys fields) ≡ true

-- what a list of definitions has to be: none reaches itself, and each name in a body has a definition with that number of parameters. The other two hold of every definition and of every map term: a body has only the variables below the number of its parameters, and the keys of a map term's fields ascend
pub record AreDefinitions (defs : List Def) : Type 0 where
  pub contractive : IsContractive defs
  pub names_defined : (def : Def) → Contains defs def → NamesAreDefined defs def.body
  pub own_variables : (def : Def) → Contains defs def → VariablesBelow def.params def.body
  pub fields_ascend : (def : Def) → Contains defs def → FieldsAscend def.body

-- list(A) = [] | cons(A, list(A))
abbrev pub list_definition : Def
list_definition = record { params = 1; body = Or (Nil ∷ Cons (Var 0) (Name 0 (Var 0 ∷ [])) ∷ []) }

-- ends(A, B) = B | cons(A, ends(A, B)): the lists of A that end in a B
abbrev pub ends_definition : Def
ends_definition = record { params = 2; body = Or (Var 1 ∷ Cons (Var 0) (Name 1 (Var 0 ∷ Var 1 ∷ [])) ∷ []) }

-- the definitions that are given, 0 and 1
abbrev pub given_definitions : List Def
given_definitions = list_definition ∷ ends_definition ∷ []
