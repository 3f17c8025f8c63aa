-- What the functions of the parser of forms return, seen as what the readers answer, and what is said of a function that is passed and reads parts.
use Rattle.std.specs.Prelude.{◌<◌, List, [], ◌∷◌, length, Some, None, Bool, true, false, Result, IfOk, if◌then◌else◌, codes}
use Rattle.std.proofs.Common.{Bor}
use Rattle.type_terms.specs.Keys.{Name}
use Rattle.erl_tree.specs.declared.token.Place.{Place}
use Rattle.erl_tree.specs.declared.token.Placed.{Placed}
use Rattle.erl_tree.specs.declared.token.Token.{Token}
use Rattle.erl_tree.specs.declared.token.Token.TheVariants as T
use Rattle.erl_tree.specs.declared.form.TreeForm.{TreeForm}
use Rattle.erl_grammar.specs.FormGrammar.{is_one_of, preprocessor_attributes}
use Rattle.erl_parser_tokens.specs.declared.fault.ParseFault.{ParseFault}
use Rattle.erl_parser_tokens.specs.declared.fault.ParseFault.TheVariants as faults
use Rattle.erl_parser_tokens.specs.Tokens.{Reads, Accepts, Gives, in_case, outside, outside_attribute}
use Rattle.erl_parser.specs.declared.items.Items.{Items}
use Rattle.erl_parser.specs.Forms.{Listed, read_skipped}

-- a part, and the places of its own marks
abbrev pub Part : Type 0 → Type 0
Part A = A × List Place

-- some parts, and the marks of all of them with those between them
abbrev pub listed : {A : Type 0} → Items A → Listed A
listed s = record { items = s.items; marks = s.marks }

-- what a function that was passed may return, where it takes tokens
abbrev pub Returned : Type 0 → Type 0
Returned A = Result (Part A × Bor (List Placed)) ParseFault

-- what a function that was passed returns is what the reader answers
abbrev pub Follows : {A : Type 0} → (Bor (List Placed) → Returned A → Type 0) → Reads (Part A) → Type 0
Follows {A} post reads = (ts : Bor (List Placed)) (r : Returned A) → post ts r → Gives (λ x. (x.0, x.1.now)) r (reads ts.now)

-- what it returns stands in front of fewer tokens
abbrev pub Shortens : {A : Type 0} → (Bor (List Placed) → Returned A → Type 0) → Type 0
Shortens {A} post = (ts : Bor (List Placed)) (r : Returned A) → post ts r → IfOk r (λ x. length x.1.now < length ts.now)

-- the fault of a reserved word behind a hyphen
abbrev pub wrong_attribute_fault : Name → (h w : Place) → ParseFault
wrong_attribute_fault name h w = if is_one_of name preprocessor_attributes then faults.OutOfProfile h (codes "preprocessor") else faults.Unexpected w

-- an attribute of another name than those that are read
unfoldable pub read_other_attribute : Name → (h w : Place) → Reads TreeForm
read_other_attribute name h w ts = in_case (outside_attribute name) (read_skipped name h w ts) (λ form. outside form h)

-- a token that may stand in a form: any but a dot and the end of the text
abbrev pub is_inner : Token → Bool
is_inner T.Dot = false
is_inner T.End = false
is_inner _ = true

-- such a token, with its place
unfoldable pub inner_token : Accepts (Token × Place)
inner_token [] = None
inner_token (t ∷ ts) = if is_inner t.token then Some ((t.token, t.place), ts) else None
