-- The first name that has no definition with its number of arguments: in the order of the list, and within a body in the order of its parts.
use Rattle.std.specs.Prelude.{ℕ, List, [], ◌∷◌, length, slice_get, Option, Some, None as Nothing}
use Rattle.type_terms.specs.declared.term.Def.{Def}
use Rattle.type_terms.specs.declared.term.Field.{Field}
use Rattle.type_terms.specs.declared.term.Term.{Term, fold-Term}
use Rattle.type_terms.specs.declared.term.Term.TheOpen.{Term-F, Cons, Tuple, Map, Fun, Or, And, Not, Name}
use Rattle.type_terms.specs.Unfolding.{body_of}

-- the first of two answers
abbrev pub or_else : Option ℕ → Option ℕ → Option ℕ
or_else Nothing later = later
or_else (Some n) later = Some n

-- the first of a list of answers
abbrev pub first_of : List (Option ℕ) → Option ℕ
first_of [] = Nothing
first_of (answer ∷ answers) = or_else answer (first_of answers)

-- the answer of a rest, where there is one
abbrev pub of_rest : Option (Option ℕ) → Option ℕ
of_rest Nothing = Nothing
of_rest (Some answer) = answer

-- a name where it has no body
abbrev pub without_body : Option Term → ℕ → Option ℕ
without_body Nothing n = Some n
without_body (Some body) n = Nothing

-- the name n where it has no definition with so many parameters
abbrev pub undefined_name : List Def → ℕ → ℕ → Option ℕ
undefined_name defs n count = without_body (body_of (slice_get defs n) count) n

-- one level of a term: a name comes before its arguments, the head of a cell before its tail, fields before rests, and parameters before the result
abbrev pub layer_undefined : List Def → Term-F (Option ℕ) (Option ℕ) → Option ℕ
layer_undefined defs (Cons head tail) = or_else head tail
layer_undefined defs (Tuple parts) = first_of parts
layer_undefined defs (Map fields rest_int rest_atom) = or_else (first_of fields) (or_else (of_rest rest_int) (of_rest rest_atom))
layer_undefined defs (Fun parameters result) = or_else (first_of parameters) result
layer_undefined defs (Or parts) = first_of parts
layer_undefined defs (And parts) = first_of parts
layer_undefined defs (Not negated) = negated
layer_undefined defs (Name number arguments) = or_else (undefined_name defs number (length arguments)) (first_of arguments)
layer_undefined defs _ = Nothing

-- the first such name in a term
unfoldable pub undefined_in : List Def → Term → Option ℕ
undefined_in defs t = fold-Term (Option ℕ) (Option ℕ) (layer_undefined defs) (λ field. field.term) t

-- the first such name in the terms of a list
abbrev pub undefined_in_terms : List Def → List Term → Option ℕ
undefined_in_terms defs [] = Nothing
undefined_in_terms defs (t ∷ ts) = or_else (undefined_in defs t) (undefined_in_terms defs ts)

-- the first such name in the terms of fields
abbrev pub undefined_in_fields : List Def → List Field → Option ℕ
undefined_in_fields defs [] = Nothing
undefined_in_fields defs (field ∷ fields) = or_else (undefined_in defs field.term) (undefined_in_fields defs fields)

-- the first such name in a rest
abbrev pub undefined_in_rest : List Def → Option Term → Option ℕ
undefined_in_rest defs Nothing = Nothing
undefined_in_rest defs (Some t) = undefined_in defs t

-- the first such name in the bodies of a list of definitions
abbrev pub undefined_in_bodies : List Def → List Def → Option ℕ
undefined_in_bodies all [] = Nothing
undefined_in_bodies all (def ∷ defs) = or_else (undefined_in all def.body) (undefined_in_bodies all defs)

-- the first such name in definitions
abbrev pub undefined_among : List Def → Option ℕ
undefined_among defs = undefined_in_bodies defs defs
