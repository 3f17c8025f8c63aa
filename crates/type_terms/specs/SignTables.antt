-- Under how many negations fun types and variables stand in a term, where a table says how they stand in the bodies of definitions.
use Rattle.std.specs.Prelude.{◌≡◌, ◌⊎◌, ℕ, suc, List, [], ◌∷◌, length, get_or, slice_get, Option, Some, None as Nothing, Bool, true, false, cond, ◌&&◌, ◌||◌, nat_eq}
use Rattle.type_terms.specs.declared.sign_search.Signs.{Signs}
use Rattle.type_terms.specs.declared.sign_search.DefSigns.{DefSigns}
use Rattle.type_terms.specs.declared.sign_search.Sought.{Sought}
use Rattle.type_terms.specs.declared.sign_search.Sought.TheVariants.{Funs, Variable, FunsAndVariables}
use Rattle.type_terms.specs.declared.term.Def.{Def}
use Rattle.type_terms.specs.declared.term.Field.{Field}
use Rattle.type_terms.specs.declared.term.Term.{Term, fold-Term, Fun as a_fun, Var as a_variable}
use Rattle.type_terms.specs.declared.term.Term.TheOpen.{Term-F, Cons, Tuple, Map, Fun, Or, And, Not, Var, Name}
use Rattle.type_terms.specs.Signs.{StandsUnder}

abbrev pub no_signs : Signs
no_signs = record { even = false; odd = false }

-- of what stands here, if it is sought
abbrev pub own_signs : Bool → Signs
own_signs sought = record { even = sought; odd = false }

abbrev pub either : Signs → Signs → Signs
either a b = record { even = a.even || b.even; odd = a.odd || b.odd }

abbrev pub flipped : Signs → Signs
flipped a = record { even = a.odd; odd = a.even }

-- of what stands in an argument, by the signs of the parameter
abbrev pub through : Signs → Signs → Signs
through p a = record { even = (p.even && a.even) || (p.odd && a.odd); odd = (p.even && a.odd) || (p.odd && a.even) }

-- whether under an odd (`true`) or an even number of negations
abbrev pub has_sign : Bool → Signs → Bool
has_sign b a = cond b a.odd a.even

abbrev pub wants_fun : Sought → Bool
wants_fun Funs = true
wants_fun (Variable i) = false
wants_fun FunsAndVariables = true

abbrev pub wants_variable : Sought → ℕ → Bool
wants_variable Funs n = false
wants_variable (Variable i) n = nat_eq i n
wants_variable FunsAndVariables n = true

abbrev pub fun_signs : Option DefSigns → Signs
fun_signs Nothing = no_signs
fun_signs (Some def) = def.funs

abbrev pub variable_signs : Option DefSigns → ℕ → Signs
variable_signs Nothing i = no_signs
variable_signs (Some def) i = get_or def.parameters i no_signs

-- of fun types in the body of a name
abbrev pub name_signs : List DefSigns → Sought → ℕ → Signs
name_signs table sought n = cond (wants_fun sought) (fun_signs (slice_get table n)) no_signs

abbrev pub joined_signs : List Signs → Signs
joined_signs [] = no_signs
joined_signs (a ∷ more) = either a (joined_signs more)

abbrev pub rest_of : Option Signs → Signs
rest_of Nothing = no_signs
rest_of (Some a) = a

-- through a name, of what stands in its arguments, the first of which has this number
abbrev pub passed : Option DefSigns → ℕ → List Signs → Signs
passed def j [] = no_signs
passed def j (a ∷ more) = either (through (variable_signs def j) a) (passed def (suc j) more)

-- one level of a term
abbrev pub layer_signs : List DefSigns → Sought → Term-F Signs Signs → Signs
layer_signs table sought (Cons head tail) = either head tail
layer_signs table sought (Tuple parts) = joined_signs parts
layer_signs table sought (Map fields rest_int rest_atom) = either (joined_signs fields) (either (rest_of rest_int) (rest_of rest_atom))
layer_signs table sought (Fun parameters result) = either (own_signs (wants_fun sought)) (either (joined_signs parameters) result)
layer_signs table sought (Or parts) = joined_signs parts
layer_signs table sought (And parts) = joined_signs parts
layer_signs table sought (Not negated) = flipped negated
layer_signs table sought (Var number) = own_signs (wants_variable sought number)
layer_signs table sought (Name number arguments) = either (name_signs table sought number) (passed (slice_get table number) 0 arguments)
layer_signs table sought _ = no_signs

-- of what is sought in a term
unfoldable pub signs_in : List DefSigns → Sought → Term → Signs
signs_in table sought t = fold-Term Signs Signs (layer_signs table sought) (λ field. field.term) t

-- of what is sought in the terms of a list
abbrev pub signs_in_terms : List DefSigns → Sought → List Term → Signs
signs_in_terms table sought [] = no_signs
signs_in_terms table sought (t ∷ ts) = either (signs_in table sought t) (signs_in_terms table sought ts)

-- of what is sought in the terms of fields
abbrev pub signs_in_fields : List DefSigns → Sought → List Field → Signs
signs_in_fields table sought [] = no_signs
signs_in_fields table sought (field ∷ fields) = either (signs_in table sought field.term) (signs_in_fields table sought fields)

-- of what is sought in a rest
abbrev pub rest_signs : List DefSigns → Sought → Option Term → Signs
rest_signs table sought Nothing = no_signs
rest_signs table sought (Some t) = signs_in table sought t

-- of what is sought in the arguments of a name, the first of which has this number
abbrev pub signs_through : List DefSigns → Sought → ℕ → ℕ → List Term → Signs
signs_through table sought n j [] = no_signs
signs_through table sought n j (t ∷ ts) = either (through (variable_signs (slice_get table n) j) (signs_in table sought t)) (signs_through table sought n (suc j) ts)

-- that a term is what is sought
abbrev pub IsSought : Sought → Term → Type 0
IsSought Funs t = (parameters : List Term) × (result : Term) × (t ≡ a_fun parameters result)
IsSought (Variable i) t = t ≡ a_variable i
IsSought FunsAndVariables t = ((parameters : List Term) × (result : Term) × (t ≡ a_fun parameters result)) ⊎ ((i : ℕ) × (t ≡ a_variable i))

-- what is sought stands in a term under an odd or even number of negations
abbrev pub SoughtStands : List Def → Sought → Bool → Term → Type 0
SoughtStands defs sought odd t = (part : Term) × IsSought sought part × StandsUnder defs odd part t

-- the second signs are among the first
abbrev pub Covers : Signs → Signs → Type 0
Covers a b = (odd : Bool) → has_sign odd b ≡ true → has_sign odd a ≡ true

-- a definition's row says of its body what the table does
pub record IsRow (table : List DefSigns) (def : Def) (row : DefSigns) : Type 0 where
  pub of_funs : Covers row.funs (signs_in table Funs def.body)
  pub of_parameters : (i : ℕ) → Covers (get_or row.parameters i no_signs) (signs_in table (Variable i) def.body)

-- what the table says of a body stands in it
pub record SignsStand (defs : List Def) (table : List DefSigns) : Type 0 where
  pub of_funs : (n : ℕ) (odd : Bool) → has_sign odd (fun_signs (slice_get table n)) ≡ true → (def : Def) × (slice_get defs n ≡ Some def) × SoughtStands defs Funs odd def.body
  pub of_parameters : (n i : ℕ) (odd : Bool) → has_sign odd (variable_signs (slice_get table n) i) ≡ true → (def : Def) × (slice_get defs n ≡ Some def) × SoughtStands defs (Variable i) odd def.body

-- each body has its row
abbrev pub HasRows : List Def → List DefSigns → Type 0
HasRows defs table = (n : ℕ) (def : Def) → slice_get defs n ≡ Some def → (row : DefSigns) × (slice_get table n ≡ Some row) × IsRow table def row

-- the table says how fun types and parameters stand in the bodies
abbrev pub IsSignTable : List Def → List DefSigns → Type 0
IsSignTable defs table = SignsStand defs table × HasRows defs table

-- a row for each definition, and what it says stands in the body
pub record IsTableOf (defs : List Def) (table : List DefSigns) : Type 0 where
  pub rows : length table ≡ length defs
  pub stand : SignsStand defs table

-- the row of a definition of which nothing is known
abbrev pub empty_row : DefSigns
empty_row = record { funs = no_signs; parameters = [] }

-- to each variable's signs in a list those that f gives are added, as they stand under the signs of what is around
abbrev pub AddsSigns : Signs → (ℕ → Signs) → List Signs → List Signs → Type 0
AddsSigns around f old new = (i : ℕ) → get_or new i no_signs ≡ either (get_or old i no_signs) (through around (f i))
