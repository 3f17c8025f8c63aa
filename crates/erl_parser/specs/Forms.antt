-- Reading forms and modules. Each type, pattern and expression of a form stands at the first of so many levels.
use Rattle.std.specs.Prelude.{ℕ, ℤ, zero, suc, List, [], ◌∷◌, ◌++◌, length, Option, Some, None, Ok, Err, Bool, true, false, if◌then◌else◌, codes}
use Rattle.std.specs.Str.{bytes_eq}
use Rattle.type_terms.specs.Keys.{Name}
use Rattle.erl_tree.specs.declared.token.Place.{Place}
use Rattle.erl_tree.specs.declared.token.Placed.{Placed}
use Rattle.erl_tree.specs.declared.token.Node.{Node}
use Rattle.erl_tree.specs.declared.token.Token.{Token}
use Rattle.erl_tree.specs.declared.token.Token.TheVariants as T
use Rattle.erl_tree.specs.declared.expr.ExprKind.{ExprKind}
use Rattle.erl_tree.specs.declared.expr.ClauseKind.{ClauseKind}
use Rattle.erl_tree.specs.declared.type_expr.TypeKind.{TypeKind}
use Rattle.erl_tree.specs.declared.form.RecFieldKind.{RecFieldKind}
use Rattle.erl_tree.specs.declared.form.SpecClauseKind.{SpecClauseKind}
use Rattle.erl_tree.specs.declared.form.TreeForm.{TreeForm}
use Rattle.erl_tree.specs.declared.form.TreeForm.TheVariants as F
use Rattle.erl_tree.specs.declared.form.Module.{Module}
use Rattle.erl_grammar.specs.Grammar.{node}
use Rattle.erl_grammar.specs.Nesting.{nesting_limit}
use Rattle.erl_grammar.specs.FormGrammar.{is_one_of, preprocessor_attributes}
use Rattle.erl_parser_tokens.specs.declared.fault.ParseFault.TheVariants as faults
use Rattle.erl_parser_tokens.specs.Tokens.{Answer, Reads, Accepts, ◌>>=◌, in_case, unexpected, outside, expect, mark, word, atom, integer, end, outside_attribute}
use Rattle.erl_parser_tokens.specs.Parts.{read_parameters}
use Rattle.erl_parser_patterns.specs.Patterns.{read_pattern}
use Rattle.erl_parser_types.specs.Types.{read_type, read_parameter_at}
use Rattle.erl_parser_exprs.specs.Expressions.{read_expr, read_behind_patterns}
use Rattle.erl_parser_exprs.specs.Levels.{level_at}

-- ---- tokens

-- whether a token is the dot of a form
abbrev pub is_dot : Token → Bool
is_dot T.Dot = true
is_dot _ = false

-- the dot of a form, by its place
unfoldable pub dot : Accepts Place
dot [] = None
dot (t ∷ ts) = if is_dot t.token then Some (t.place, ts) else None

-- the atom with this text, by its place
unfoldable pub atom_named : Name → Accepts Place
atom_named name ts = in_case (atom ts) None (λ a. if bytes_eq a.0.0 name then Some (a.0.1, a.1) else None)

-- ---- parts that stand in turn

-- some parts, and the marks of all of them with those between them
pub record Listed (A : Type 0) : Type 0 where
  pub items : List A
  pub marks : List Place

abbrev pub no_items : {A : Type 0} → Listed A
no_items = record { items = []; marks = [] }

-- one more part, by its own marks
abbrev pub with_item : {A : Type 0} → Listed A → A × List Place → Listed A
with_item s x = record { items = s.items ++ x.0 ∷ []; marks = s.marks ++ x.1 }

-- a mark behind the last part
abbrev pub with_separator : {A : Type 0} → Listed A → Place → Listed A
with_separator s m = record { items = s.items; marks = s.marks ++ m ∷ [] }

-- a part and more, with this mark between two of them, behind those that were read
unfoldable pub read_more_items : {A : Type 0} → List ℕ → Reads (A × List Place) → ℕ → Listed A → Reads (Listed A)
read_more_items separator part zero s ts = unexpected ts
read_more_items separator part (suc k) s ts = part ts >>= λ x. in_case (mark separator x.1) (Ok (with_item s x.0, x.1)) (λ m. read_more_items separator part k (with_separator (with_item s x.0) m.0) m.1)

-- a part and more, with this mark between two of them
abbrev pub read_items : {A : Type 0} → List ℕ → Reads (A × List Place) → Reads (Listed A)
read_items separator part ts = read_more_items separator part (suc (length ts)) no_items ts

-- parts with commas between them, or none, and the closing mark, by its place
unfoldable pub read_items_to : {A : Type 0} → List ℕ → Reads (A × List Place) → Reads (Listed A × Place)
read_items_to closing part ts = in_case (mark closing ts) (read_items (codes ",") part ts >>= λ s. expect (mark closing) s.1 >>= λ c. Ok ((s.0, c.0), c.1)) (λ c. Ok ((no_items, c.0), c.1))

-- ---- exports

-- `f/1`
unfoldable pub read_arity : Reads ((Name × ℤ) × List Place)
read_arity ts = expect atom ts >>= λ a. expect (mark (codes "/")) a.1 >>= λ s. expect integer s.1 >>= λ n. Ok (((a.0.0, n.0.0), a.0.1 ∷ s.0 ∷ n.0.1 ∷ []), n.1)

-- `-export([f/1, ..]).`, `-export_type([t/1, ..]).`, behind the word
unfoldable pub read_export : Bool → (h w : Place) → Reads TreeForm
read_export types h w ts = expect (mark (codes "(")) ts >>= λ o. expect (mark (codes "[")) o.1 >>= λ b. read_items_to (codes "]") read_arity b.1 >>= λ s. expect (mark (codes ")")) s.1 >>= λ d. expect dot d.1 >>= λ p.
    Ok (F.Export (node h (h ∷ w ∷ o.0 ∷ b.0 ∷ (s.0.0.marks ++ s.0.1 ∷ d.0 ∷ p.0 ∷ [])) (record { types = types; names = s.0.0.items })), p.1)

-- ---- records

-- `= E`, or nothing
unfoldable pub read_default : ℕ → Reads (Option (Node ExprKind) × List Place)
read_default levels ts = in_case (mark (codes "=") ts) (Ok ((None, []), ts)) (λ m. read_expr levels m.1 >>= λ e. Ok ((Some e.0.tree, m.0 ∷ []), e.1))

-- `:: T`, or nothing
unfoldable pub read_annotation : ℕ → Reads (Option (Node TypeKind) × List Place)
read_annotation levels ts = in_case (mark (codes "::") ts) (Ok ((None, []), ts)) (λ m. read_type levels m.1 >>= λ t. Ok ((Some t.0.tree, m.0 ∷ []), t.1))

-- `field = E :: T`
unfoldable pub read_record_field : ℕ → Reads (Node RecFieldKind × List Place)
read_record_field levels ts = expect atom ts >>= λ a. read_default levels a.1 >>= λ d. read_annotation levels d.1 >>= λ t.
    Ok ((node a.0.1 (a.0.1 ∷ (d.0.1 ++ t.0.1)) (record { name = a.0.0; default = d.0.0; ty = t.0.0 }), []), t.1)

-- `-record(name, {field = E :: T, ..}).`, behind the word
unfoldable pub read_record : ℕ → (h w : Place) → Reads TreeForm
read_record levels h w ts = expect (mark (codes "(")) ts >>= λ o. expect atom o.1 >>= λ n. expect (mark (codes ",")) n.1 >>= λ c. expect (mark (codes "{")) c.1 >>= λ b. read_items_to (codes "}") (read_record_field levels) b.1 >>= λ s. expect (mark (codes ")")) s.1 >>= λ e. expect dot e.1 >>= λ p.
    Ok (F.RecDef (node h (h ∷ w ∷ o.0 ∷ n.0.1 ∷ c.0 ∷ b.0 ∷ (s.0.0.marks ++ s.0.1 ∷ e.0 ∷ p.0 ∷ [])) (record { name = n.0.0; tag = n.0.0; fields = s.0.0.items })), p.1)

-- ---- types

-- the name of a token that is a variable
abbrev pub variable_name : Token → Option Name
variable_name (T.Var x) = Some x
variable_name _ = None

-- a variable, by its name and its place
unfoldable pub variable : Accepts (Name × Place)
variable [] = None
variable (t ∷ ts) = in_case (variable_name t.token) None (λ x. Some ((x, t.place), ts))

-- a parameter of a type
unfoldable pub read_type_parameter : Reads (Name × List Place)
read_type_parameter ts = expect variable ts >>= λ x. Ok ((x.0.0, x.0.1 ∷ []), x.1)

-- `-type name(X, ..) :: T.`, `-opaque name(X, ..) :: T.`, behind the word
unfoldable pub read_type_definition : ℕ → Bool → (h w : Place) → Reads TreeForm
read_type_definition levels opaque h w ts = expect atom ts >>= λ n. expect (mark (codes "(")) n.1 >>= λ o. read_items_to (codes ")") read_type_parameter o.1 >>= λ s. expect (mark (codes "::")) s.1 >>= λ m. read_type levels m.1 >>= λ t. expect dot t.1 >>= λ p.
    Ok (F.TypeDef (node h (h ∷ w ∷ n.0.1 ∷ o.0 ∷ (s.0.0.marks ++ s.0.1 ∷ m.0 ∷ p.0 ∷ [])) (record { opaque = opaque; name = n.0.0; params = s.0.0.items; body = t.0.tree })), p.1)

-- ---- specs

-- `X :: T`
unfoldable pub read_bound : ℕ → Reads ((Name × Node TypeKind) × List Place)
read_bound levels ts = expect variable ts >>= λ x. expect (mark (codes "::")) x.1 >>= λ m. read_type levels m.1 >>= λ t. Ok (((x.0.0, t.0.tree), x.0.1 ∷ m.0 ∷ []), t.1)

-- `when X :: T, ..`, or nothing
unfoldable pub read_bounds : ℕ → Reads (List (Name × Node TypeKind) × List Place)
read_bounds levels ts = in_case (word (codes "when") ts) (Ok (([], []), ts)) (λ w. read_items (codes ",") (read_bound levels) w.1 >>= λ s. Ok ((s.0.items, w.0 ∷ s.0.marks), s.1))

-- `(T, ..) -> T when X :: T, ..`
unfoldable pub read_spec_clause : ℕ → Reads (Node SpecClauseKind × List Place)
read_spec_clause levels ts = expect (mark (codes "(")) ts >>= λ o. read_parameters (read_parameter_at levels) o.1 >>= λ s. expect (mark (codes "->")) s.1 >>= λ a. read_type levels a.1 >>= λ t. read_bounds levels t.1 >>= λ b.
    Ok ((node o.0 (o.0 ∷ (s.0.marks ++ a.0 ∷ b.0.1)) (record { params = s.0.items; result = t.0.tree; bounds = b.0.0 }), []), b.1)

-- what follows where no colon stands there
abbrev pub no_colon : {A : Type 0} → List Placed → Answer A → Answer A
no_colon ts answer = in_case (mark (codes ":") ts) answer (λ d. outside (codes "remote name") d.0)

-- `-spec name(T, ..) -> T; (T, ..) -> T.`, behind the word
unfoldable pub read_spec : ℕ → (h w : Place) → Reads TreeForm
read_spec levels h w ts = expect atom ts >>= λ n. no_colon n.1 (read_items (codes ";") (read_spec_clause levels) n.1 >>= λ s. expect dot s.1 >>= λ p.
    Ok (F.Spec (node h (h ∷ w ∷ n.0.1 ∷ (s.0.marks ++ p.0 ∷ [])) (record { name = n.0.0; clauses = s.0.items })), p.1))

-- ---- other attributes

-- a token and those behind it up to the dot
abbrev pub token_to_dot : Token → Place → List Placed → Answer ((List Token × List Place) × List Placed) → Answer ((List Token × List Place) × List Placed)
token_to_dot T.Dot p ts more = Ok (([], p ∷ []), ts)
token_to_dot T.End p ts more = Err (faults.Unexpected p)
token_to_dot t p ts more = more >>= λ r. Ok ((t ∷ r.0.0, p ∷ r.0.1), r.1)

-- the tokens up to the dot of a form, and the places of all of them and of the dot
unfoldable pub read_to_dot : Reads (List Token × List Place)
read_to_dot [] = unexpected []
read_to_dot (t ∷ ts) = token_to_dot t.token t.place ts (read_to_dot ts)

-- `-name .. .`, behind the name
unfoldable pub read_skipped : Name → (h w : Place) → Reads TreeForm
read_skipped name h w ts = read_to_dot ts >>= λ s. Ok (F.Skipped (node h (h ∷ w ∷ s.0.1) (record { name = name; tokens = s.0.0 })), s.1)

-- an attribute of this name, by the places of the hyphen and the name
unfoldable pub read_attribute_named : ℕ → Name → (h w : Place) → Reads TreeForm
read_attribute_named levels name h w ts =
    if bytes_eq name (codes "export") then read_export false h w ts else
    if bytes_eq name (codes "export_type") then read_export true h w ts else
    if bytes_eq name (codes "record") then read_record levels h w ts else
    if bytes_eq name (codes "type") then read_type_definition levels false h w ts else
    if bytes_eq name (codes "opaque") then read_type_definition levels true h w ts else
    if bytes_eq name (codes "spec") then read_spec levels h w ts else
    if bytes_eq name (codes "module") then Err (faults.Unexpected w) else
    in_case (outside_attribute name) (read_skipped name h w ts) (λ form. outside form h)

-- an attribute, behind the hyphen
abbrev pub attribute_from : ℕ → Token → (h w : Place) → Reads TreeForm
attribute_from levels (T.Atom name) h w ts = read_attribute_named levels name h w ts
attribute_from levels (T.Word name) h w ts = if is_one_of name preprocessor_attributes then outside (codes "preprocessor") h else Err (faults.Unexpected w)
attribute_from levels _ h w ts = Err (faults.Unexpected w)

unfoldable pub read_attribute : ℕ → Place → Reads TreeForm
read_attribute levels h [] = unexpected []
read_attribute levels h (t ∷ ts) = attribute_from levels t.token h t.place ts

-- ---- functions

-- `name(P, ..) when G -> I, ..`
unfoldable pub read_function_clause : ℕ → Name → Reads (Node ClauseKind × List Place)
read_function_clause levels name ts = expect (atom_named name) ts >>= λ n. expect (mark (codes "(")) n.1 >>= λ o. read_parameters (read_pattern levels) o.1 >>= λ s. read_behind_patterns (level_at levels) n.0 (n.0 ∷ o.0 ∷ s.0.marks) s.0.items s.0.height s.1 >>= λ c. Ok ((c.0.tree, []), c.1)

-- clauses of one name, and a dot
unfoldable pub read_function : ℕ → Reads TreeForm
read_function levels ts = expect atom ts >>= λ n. read_items (codes ";") (read_function_clause levels n.0.0) ts >>= λ s. expect dot s.1 >>= λ p.
    Ok (F.Function (record { name = n.0.0; place = n.0.1; marks = s.0.marks ++ p.0 ∷ []; clauses = s.0.items }), p.1)

-- ---- modules

-- a form: a hyphen begins an attribute, anything else a function
unfoldable pub read_form : ℕ → Reads TreeForm
read_form levels ts = in_case (mark (codes "-") ts) (read_function levels ts) (λ h. read_attribute levels h.0 h.1)

-- forms up to the end of the text, by its place
unfoldable pub read_forms : ℕ → ℕ → List TreeForm → List Placed → Answer (List TreeForm × Place)
read_forms levels zero fs ts = unexpected ts
read_forms levels (suc k) fs ts = in_case (end ts) (read_form levels ts >>= λ f. read_forms levels k (fs ++ f.0 ∷ []) f.1) (λ e. Ok (fs, e))

-- `-module(name).`, by its name and its marks
unfoldable pub read_header : Reads (Name × List Place)
read_header ts = expect (mark (codes "-")) ts >>= λ h. expect (atom_named (codes "module")) h.1 >>= λ w. expect (mark (codes "(")) w.1 >>= λ o. expect atom o.1 >>= λ n. expect (mark (codes ")")) n.1 >>= λ c. expect dot c.1 >>= λ d.
    Ok ((n.0.0, h.0 ∷ w.0 ∷ o.0 ∷ n.0.1 ∷ c.0 ∷ d.0 ∷ []), d.1)

-- a module, of these tokens and no more, with its types, patterns and expressions at the first of so many levels
unfoldable pub read_module_at : ℕ → List Placed → Answer Module
read_module_at levels ts = read_header ts >>= λ h. read_forms levels (suc (length h.1)) [] h.1 >>= λ fs. Ok (record { name = h.0.0; marks = h.0.1 ++ fs.1 ∷ []; forms = fs.0 })

-- the same at the first of 256 levels
abbrev pub read_module : List Placed → Answer Module
read_module ts = read_module_at nesting_limit ts
