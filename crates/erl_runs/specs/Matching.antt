-- When values match patterns, and what that binds (Erlang Reference Manual, "Pattern Matching", "Maps", "Records").
use Rattle.std.specs.Prelude.{refl, pos, neg_ℤ, List, [], ◌∷◌, map, Option, Some, None, if◌then◌else◌}
use Rattle.type_terms.specs.declared.term.Key.{Key}
use Rattle.type_terms.specs.declared.term.Key.TheVariants.{Int as IntKey, Atom as AtomKey}
use Rattle.type_terms.specs.Keys.{Name, Bound, any_atom, any_key}
use Rattle.erl_tree.specs.declared.token.Node.{Node}
use Rattle.erl_tree.specs.declared.pattern.LiteralKind.{LiteralKind}
use Rattle.erl_tree.specs.declared.pattern.LiteralKind.TheVariants as L
use Rattle.erl_tree.specs.declared.pattern.PatternKind.{PatternKind, fold-PatternKind}
use Rattle.erl_tree.specs.declared.pattern.PatternKind.TheOpen as P
use Rattle.erl_tree.specs.declared.form.RecDefKind.{RecDefKind}
use Rattle.erl_tree.specs.declared.form.RecFieldKind.{RecFieldKind}
use Rattle.erl_runs.specs.Names.{is_wildcard}
use Rattle.erl_runs.specs.Value.{Value, integer, atom, nil, cons, tuple, map_of, items_of, Row, no_entries, entry_and, Environment}
use Rattle.erl_runs.specs.FiniteMaps.{get, insert}
use Rattle.erl_runs.specs.Order.{same_value}
use Rattle.erl_runs.specs.Records.{string_value, find_record, fields_of, field_value, record_values}

-- ---- environments

-- the value of a variable
abbrev pub variable_value : Environment → Name → Option Value
variable_value environment x = get environment (AtomKey x)

-- the environment with this value for a variable
abbrev pub with_variable : Name → Value → Environment → Environment
with_variable x v environment = insert {b = any_atom} (AtomKey x) refl v environment

-- the environment with these bindings in place of those of the same names
abbrev pub shadowed_by : {b : Bound} → Row b → Environment → Environment
shadowed_by no_entries environment = environment
shadowed_by (entry_and (AtomKey x) e v more) environment = with_variable x v (shadowed_by more environment)
shadowed_by (entry_and (IntKey n) e v more) environment = shadowed_by more environment

-- ---- matches

-- what matching a value binds in an environment, or none where it doesn't match
abbrev pub Match : Type 0
Match = Value → Environment → Option Environment

-- the next match, where the one before it succeeds
abbrev pub match_next : Option Environment → (Environment → Option Environment) → Option Environment
match_next None next = None
match_next (Some environment) next = next environment

-- a value matches another one that is the same
abbrev pub match_value : Value → Match
match_value w v environment = if same_value w v then Some environment else None

-- a variable that isn't bound yet is bound to the value, and one that is bound has to have it
abbrev pub match_variable : Option Value → Name → Match
match_variable None x v environment = Some (with_variable x v environment)
match_variable (Some w) x v environment = match_value w v environment

-- values in turn, as many as matches
abbrev pub match_each : List Match → List Value → Environment → Option Environment
match_each [] [] environment = Some environment
match_each (m ∷ ms) (v ∷ vs) environment = match_next (m v environment) (match_each ms vs)
match_each _ _ environment = None

-- the cells of a list in turn, and what is left of it
abbrev pub match_cells : List Match → Match → Match
match_cells [] tail v environment = tail v environment
match_cells (m ∷ ms) tail (cons head rest) environment = match_next (m head environment) (match_cells ms tail rest)
match_cells (m ∷ ms) tail _ environment = None

-- where there is a value it has to match
abbrev pub match_found : Option Value → Match → Environment → Option Environment
match_found None m environment = None
match_found (Some v) m environment = m v environment

-- the key of an entry
abbrev pub literal_key : LiteralKind → Key
literal_key (L.Atom a) = AtomKey a
literal_key (L.Int n) = IntKey n
literal_key (L.NegInt n) = IntKey (neg_ℤ n)
literal_key (L.Char c) = IntKey (pos c)

-- the values of keys in turn
abbrev pub match_entries : List (Key × Match) → Row any_key → Environment → Option Environment
match_entries [] row environment = Some environment
match_entries (k ∷ ks) row environment = match_next (match_found (get row k.0) k.1 environment) (match_entries ks row)

-- the values of fields in turn
abbrev pub match_fields : List (Name × Match) → List RecFieldKind → List Value → Environment → Option Environment
match_fields [] fields vs environment = Some environment
match_fields (f ∷ fs) fields vs environment = match_next (match_found (field_value fields vs f.0) f.1 environment) (match_fields fs fields vs)

-- a tuple of a record
abbrev pub match_record : Option RecDefKind → Name → List (Name × Match) → Match
match_record None tag fields v environment = None
match_record (Some r) tag fields v environment = among (record_values r tag v)
  where
    among : Option (List Value) → Option Environment
    among None = None
    among (Some vs) = match_fields fields (fields_of r) vs environment

abbrev pub match_tuple : List Match → Match
match_tuple ms (tuple vs) environment = match_each ms (items_of vs) environment
match_tuple ms _ environment = None

abbrev pub match_map : List (Key × Match) → Match
match_map ks (map_of row) environment = match_entries ks row environment
match_map ks _ environment = None

-- a tail that is left out is the empty list
abbrev pub match_tail : Option (Node Match) → Match
match_tail None v environment = match_value nil v environment
match_tail (Some p) v environment = p.kind v environment

-- the matches of some patterns
abbrev pub kinds : {A : Type 0} → List (Node A) → List A
kinds ns = map (λ n. n.kind) ns

-- ---- patterns

module _ (records : List RecDefKind) where
  -- one level of a pattern, whose parts match so
  abbrev pub match_layer : P.PatternKind-F Match → Match
  match_layer (P.Atom a) v environment = match_value (atom a) v environment
  match_layer (P.Int n) v environment = match_value (integer n) v environment
  match_layer (P.NegInt n) v environment = match_value (integer (neg_ℤ n)) v environment
  match_layer (P.Char c) v environment = match_value (integer (pos c)) v environment
  match_layer (P.Str s) v environment = match_value (string_value s) v environment
  match_layer (P.Var x) v environment = if is_wildcard x then Some environment else match_variable (variable_value environment x) x v environment
  match_layer (P.Paren p) v environment = p.kind v environment
  match_layer (P.Tuple ps) v environment = match_tuple (kinds ps) v environment
  match_layer (P.Cells ps tail) v environment = match_cells (kinds ps) (match_tail tail) v environment
  match_layer (P.Map entries) v environment = match_map (map (λ e. (literal_key e.kind.0.kind, e.kind.1.kind)) entries) v environment
  match_layer (P.Rec name tag fields) v environment = match_record (find_record records name) tag (map (λ f. (f.kind.0, f.kind.1.kind)) fields) v environment
  match_layer (P.Alias p q) v environment = match_next (p.kind v environment) (q.kind v)

  -- what stands in a pattern's node
  unfoldable pub match_kind : PatternKind → Match
  match_kind p = fold-PatternKind Match match_layer p

  -- a pattern
  abbrev pub match_pattern : Node PatternKind → Match
  match_pattern p = match_kind p.kind

  -- a row of patterns and as many values, from left to right
  abbrev pub match_patterns : List (Node PatternKind) → List Value → Environment → Option Environment
  match_patterns ps vs environment = match_each (map match_pattern ps) vs environment
