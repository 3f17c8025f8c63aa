-- Single tokens of forms: dots, atoms of a given name and variables; what may follow parts of forms; what is said of a form that was read.
use Rattle.std.proofs.Common.{◌≡◌, ℕ, true, List, [], ◌∷◌, ◌++◌, refl, ap, ◌∙◌}
use Rattle.std.specs.Prelude.{Option, Some, None, Ok, if◌then◌else◌, codes}
use Rattle.std.specs.Str.{bytes_eq}
use Rattle.type_terms.specs.Keys.{Name}
use Rattle.erl_tree.specs.declared.token.Place.{Place}
use Rattle.erl_tree.specs.declared.token.Placed.{Placed}
use Rattle.erl_tree.specs.declared.token.Token.{Token}
use Rattle.erl_tree.specs.declared.token.Token.TheVariants as T
use Rattle.erl_tree.specs.declared.form.TreeForm.{TreeForm}
use Rattle.erl_grammar.specs.Pieces.{at}
use Rattle.erl_grammar.specs.FormSpelling.{form_tokens}
use Rattle.erl_grammar.specs.FormNesting.{form_deep}
use Rattle.erl_grammar.specs.FormGrammar.{IsForm}
use Rattle.erl_parser_tokens.specs.Tokens.{Answer, Accepts, ◌>>=◌, in_case, found_in, expect, mark, atom, comparison_of, arithmetic_of}
use Rattle.erl_parser_patterns.specs.Scan.{bracket_sort, mark_sort}
use Rattle.erl_parser_tokens.proofs.Then.{Behind, behind_part, Right, right_fault}
use Rattle.erl_parser_tokens.proofs.TokenLaws.{Holds, holds_none, holds_some, holds_if, some_is, same_text, text_is, token_is, IsMarkNext, mark-takes, IsAtomNext, atom-takes}
use Rattle.erl_parser_exprs.proofs.Levels.{EndsExpr}
use Rattle.erl_parser_exprs.proofs.Endings.{Closes, closes-expr}
use Rattle.erl_parser_types.proofs.TypeEnds.{EndsType, token_ends_type}
use Rattle.erl_parser.specs.Forms.{is_dot, dot, atom_named, variable_name, variable}

-- ---- steps

-- a step that expects one token, and those behind it: where another token stands, no form outside of the profile is answered
pub right_step : {A Y : Type 0} {G : A × List Placed → Type 0} {H : Y → Type 0} {ts : List Placed} {next : A × List Placed → Answer Y} (accept : Accepts A) (us : List Placed) → Holds G (accept us) → ((x : A × List Placed) → G x → Right H ts (next x)) → Right H ts (expect accept us >>= next)
right_step {A} {Y} {G} {H} {ts} {next} accept us g k = by (accept us) g
  where
    by : (o : Option (A × List Placed)) → Holds G o → Right H ts (found_in us o >>= next)
    by None h = right_fault tt
    by (Some x) h = k x (h x refl)

pub right_mark : {Y : Type 0} {H : Y → Type 0} {ts : List Placed} {next : Place × List Placed → Answer Y} (text : List ℕ) (us : List Placed) → ((x : Place × List Placed) → IsMarkNext text us x → Right H ts (next x)) → Right H ts (expect (mark text) us >>= next)
right_mark text us k = right_step (mark text) us (mark-takes text us) k

pub right_atom : {Y : Type 0} {H : Y → Type 0} {ts : List Placed} {next : (List ℕ × Place) × List Placed → Answer Y} (us : List Placed) → ((x : (List ℕ × Place) × List Placed) → IsAtomNext us x → Right H ts (next x)) → Right H ts (expect atom us >>= next)
right_atom us k = right_step atom us (atom-takes us) k

-- ---- dots

abbrev pub IsDotNext : List Placed → Place × List Placed → Type 0
IsDotNext ts x = ts ≡ at T.Dot x.0 ∷ x.1

pub expect_dot-again : (p : Place) (ts : List Placed) → expect dot (at T.Dot p ∷ ts) ≡ Ok (p, ts)
unfolding dot
expect_dot-again p ts = refl

is_dot-takes : (t : Token) → is_dot t ≡ true → t ≡ T.Dot
is_dot-takes T.Dot e = refl
is_dot-takes _ e = absurd cc

dot-takes : (ts : List Placed) → Holds (IsDotNext ts) (dot ts)
unfolding dot
dot-takes [] = holds_none (IsDotNext [])
dot-takes (t ∷ ts) = holds_if (IsDotNext (t ∷ ts)) (is_dot t.token) (t.place, ts) None (λ e. ap (λ j. j ∷ ts) (token_is t T.Dot (is_dot-takes t.token e))) (holds_none _)

pub right_dot : {Y : Type 0} {H : Y → Type 0} {ts : List Placed} {next : Place × List Placed → Answer Y} (us : List Placed) → ((x : Place × List Placed) → IsDotNext us x → Right H ts (next x)) → Right H ts (expect dot us >>= next)
right_dot us k = right_step dot us (dot-takes us) k

-- ---- atoms of a given name

abbrev pub IsNamedNext : Name → List Placed → Place × List Placed → Type 0
IsNamedNext name ts x = ts ≡ at (T.Atom name) x.0 ∷ x.1

pub expect_named-again : (name : Name) (p : Place) (ts : List Placed) → expect (atom_named name) (at (T.Atom name) p ∷ ts) ≡ Ok (p, ts)
unfolding atom_named atom
expect_named-again name p ts = rw (same_text name) refl

named-takes : (name : Name) (ts : List Placed) → Holds (IsNamedNext name ts) (atom_named name ts)
unfolding atom_named
named-takes name ts = by (atom ts) (atom-takes ts)
  where
    by : (o : Option ((List ℕ × Place) × List Placed)) → Holds (IsAtomNext ts) o → Holds (IsNamedNext name ts) (in_case o None (λ a. if bytes_eq a.0.0 name then Some (a.0.1, a.1) else None))
    by None h = holds_none (IsNamedNext name ts)
    by (Some a) h = holds_if (IsNamedNext name ts) (bytes_eq a.0.0 name) (a.0.1, a.1) None (λ e. h a refl ∙ ap (λ n. at (T.Atom n) a.0.1 ∷ a.1) (text_is name a.0.0 e)) (holds_none (IsNamedNext name ts))

pub right_named : {Y : Type 0} {H : Y → Type 0} {ts : List Placed} {next : Place × List Placed → Answer Y} (name : Name) (us : List Placed) → ((x : Place × List Placed) → IsNamedNext name us x → Right H ts (next x)) → Right H ts (expect (atom_named name) us >>= next)
right_named name us k = right_step (atom_named name) us (named-takes name us) k

-- ---- variables

abbrev pub IsVariableNext : List Placed → (Name × Place) × List Placed → Type 0
IsVariableNext ts x = ts ≡ at (T.Var x.0.0) x.0.1 ∷ x.1

pub expect_variable-again : (name : Name) (p : Place) (ts : List Placed) → expect variable (at (T.Var name) p ∷ ts) ≡ Ok ((name, p), ts)
unfolding variable
expect_variable-again name p ts = refl

variable_name-takes : (t : Token) → Holds (λ x. t ≡ T.Var x) (variable_name t)
variable_name-takes (T.Var y) x e = ap T.Var (some_is y x e)
variable_name-takes _ x e = absurd cc

variable-takes : (ts : List Placed) → Holds (IsVariableNext ts) (variable ts)
unfolding variable
variable-takes [] = holds_none (IsVariableNext [])
variable-takes (t ∷ ts) = by (variable_name t.token) (variable_name-takes t.token)
  where
    by : (o : Option Name) → Holds (λ x. t.token ≡ T.Var x) o → Holds (IsVariableNext (t ∷ ts)) (in_case o None (λ x. Some ((x, t.place), ts)))
    by None h = holds_none (IsVariableNext (t ∷ ts))
    by (Some x) h = holds_some (IsVariableNext (t ∷ ts)) ((x, t.place), ts) (ap (λ j. j ∷ ts) (token_is t (T.Var x) (h x refl)))

pub right_variable : {Y : Type 0} {H : Y → Type 0} {ts : List Placed} {next : (Name × Place) × List Placed → Answer Y} (us : List Placed) → ((x : (Name × Place) × List Placed) → IsVariableNext us x → Right H ts (next x)) → Right H ts (expect variable us >>= next)
right_variable us k = right_step variable us (variable-takes us) k

-- ---- what may follow

pub dot-closes : Closes T.Dot
dot-closes = record { no_call = refl; no_hash = refl; no_colon = refl; no_string = refl; no_operator = refl; none_behind = refl; no_match = refl; no_generator = refl; stands = refl }

colons-closes : Closes (T.Mark (codes "::"))
unfolding comparison_of arithmetic_of bracket_sort mark_sort
colons-closes = record { no_call = refl; no_hash = refl; no_colon = refl; no_string = refl; no_operator = refl; none_behind = refl; no_match = refl; no_generator = refl; stands = refl }

pub colons-ends_expr : (p : Place) (ts : List Placed) → EndsExpr (at (T.Mark (codes "::")) p ∷ ts)
colons-ends_expr p ts = closes-expr colons-closes p ts

pub dot-ends_type : (p : Place) (ts : List Placed) → EndsType (at T.Dot p ∷ ts)
dot-ends_type p ts = token_ends_type T.Dot p ts refl refl refl refl refl

-- ---- forms

-- a form was read
pub record FormRead (levels : ℕ) (ts : List Placed) (q : TreeForm × List Placed) : Type 0 where
  pub formed : IsForm q.0
  pub takes : ts ≡ form_tokens q.0 ++ q.1
  pub shallow : form_deep q.0 levels ≡ []

-- a hyphen and the name of an attribute
abbrev pub attribute_text : Name → (h w : Place) → List Placed → List Placed
attribute_text name h w ts = at (T.Mark (codes "-")) h ∷ at (T.Atom name) w ∷ ts

pub behind_name : (name : Name) (h w : Place) (ts : List Placed) → Behind (attribute_text name h w ts) ts
behind_name name h w ts = behind_part (at (T.Mark (codes "-")) h ∷ at (T.Atom name) w ∷ []) refl
