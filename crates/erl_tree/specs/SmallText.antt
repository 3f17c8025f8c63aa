-- A small text and its tree, for the examples.
use Rattle.std.specs.Prelude.{ℕ, List, [], ◌∷◌, codes}
use Rattle.erl_tree.specs.declared.token.Place.{Place}
use Rattle.erl_tree.specs.declared.token.Placed.{Placed}
use Rattle.erl_tree.specs.declared.token.Token.{Token}
use Rattle.erl_tree.specs.declared.token.Token.TheVariants.{Atom, Var, Str, Mark, Dot, End}
use Rattle.erl_tree.specs.declared.form.Module.{Module}

-- a place in the first line
abbrev pub place : ℕ → Place
place column = record { line = 1; column = column }

-- a token in the first line
abbrev pub placed : Token → ℕ → Placed
placed t column = record { token = t; place = place column }

abbrev pub small_text : List ℕ
small_text = codes "-module(a)."

-- its tokens
abbrev pub small_tokens : List Placed
small_tokens = placed (Mark (codes "-")) 1 ∷ placed (Atom (codes "module")) 2 ∷ placed (Mark (codes "(")) 8 ∷ placed (Atom (codes "a")) 9 ∷ placed (Mark (codes ")")) 10 ∷ placed Dot 11 ∷ placed End 12 ∷ []

-- its tree: the module named a, without forms
abbrev pub small_module : Module
small_module = record { name = codes "a"; marks = place 1 ∷ place 2 ∷ place 8 ∷ place 9 ∷ place 10 ∷ place 11 ∷ place 12 ∷ []; forms = [] }

-- a variable, a string with an escape, and a comment
abbrev pub text_with_a_string : List ℕ
text_with_a_string = codes "X=\"a\\n\".%b"

-- its tokens
abbrev pub tokens_with_a_string : List Placed
tokens_with_a_string = placed (Var (codes "X")) 1 ∷ placed (Mark (codes "=")) 2 ∷ placed (Str (97 ∷ 10 ∷ [])) 3 ∷ placed Dot 8 ∷ placed End 11 ∷ []
