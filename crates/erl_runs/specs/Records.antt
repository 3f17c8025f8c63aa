-- The records of a module and the tuples that they stand for (Erlang Reference Manual, "Records").
use Rattle.std.specs.Prelude.{ℕ, suc, pos, neg_ℤ, List, [], ◌∷◌, map, length, Option, Some, None, Bool, true, false, if◌then◌else◌, nat_eq, codes}
use Rattle.std.specs.Str.{chars}
use Rattle.type_terms.specs.Keys.{Name, same_name}
use Rattle.erl_tree.specs.declared.token.Node.{Node}
use Rattle.erl_tree.specs.declared.expr.UnaryOp.TheVariants.{Minus}
use Rattle.erl_tree.specs.declared.expr.ExprKind.{ExprKind, fold-ExprKind}
use Rattle.erl_tree.specs.declared.expr.ExprKind.TheOpen as E
use Rattle.erl_tree.specs.declared.form.RecDefKind.{RecDefKind}
use Rattle.erl_tree.specs.declared.form.RecFieldKind.{RecFieldKind}
use Rattle.erl_tree.specs.declared.form.TreeForm.{TreeForm}
use Rattle.erl_tree.specs.declared.form.TreeForm.TheVariants as F
use Rattle.erl_tree.specs.declared.form.Module.{Module}
use Rattle.erl_runs.specs.Value.{Value, integer, atom, nil, cons, tuple, Values, no_values, value_and, items_of}

-- the record declarations among forms
abbrev pub records_in : List TreeForm → List RecDefKind
records_in [] = []
records_in (F.RecDef r ∷ forms) = r.kind ∷ records_in forms
records_in (form ∷ forms) = records_in forms

-- the record declarations of a module
abbrev pub records_of : Module → List RecDefKind
records_of m = records_in m.forms

-- the first of some declarations with this name
abbrev pub find_record : List RecDefKind → Name → Option RecDefKind
find_record [] name = None
find_record (r ∷ rs) name = if same_name r.name name then Some r else find_record rs name

-- the declared fields, with their defaults
abbrev pub fields_of : RecDefKind → List RecFieldKind
fields_of r = map (λ f. f.kind) r.fields

-- ---- values of literals

-- values in turn as a row of values
abbrev pub values_of : List Value → Values
values_of [] = no_values
values_of (v ∷ vs) = value_and v (values_of vs)

-- a list of these elements, in front of a tail
abbrev pub list_with : List Value → Value → Value
list_with [] tail = tail
list_with (v ∷ vs) tail = cons v (list_with vs tail)

-- the value of a string: the list of its characters
abbrev pub string_value : List ℕ → Value
string_value text = list_with (map (λ c. integer (pos c)) (chars text)) nil

-- all of some values, where there is each of them
abbrev pub all_values : List (Node (Option Value)) → Option (List Value)
all_values [] = Some []
all_values (n ∷ ns) = both n.kind (all_values ns)
  where
    both : Option Value → Option (List Value) → Option (List Value)
    both (Some v) (Some vs) = Some (v ∷ vs)
    both _ _ = None

abbrev pub negative : Option Value → Option Value
negative (Some (integer n)) = Some (integer (neg_ℤ n))
negative _ = None

abbrev pub if_all : Option (List Value) → (List Value → Value) → Option Value
if_all None made = None
if_all (Some vs) made = Some (made vs)

-- the value of one level of a default, whose parts have these: an integer, one behind a minus sign, a character, an atom, a string, a tuple, a list without a bar. A minus sign before anything that gives an integer has a value too, which is more than the profile allows
abbrev pub default_layer : E.ExprKind-F (Option Value) (Unit {0}) (Unit {0}) (Unit {0}) (Unit {0}) (Unit {0}) → Option Value
default_layer (E.Int n) = Some (integer n)
default_layer (E.Unary Minus e) = negative e.kind
default_layer (E.Char c) = Some (integer (pos c))
default_layer (E.Atom a) = Some (atom a)
default_layer (E.Str s) = Some (string_value s)
default_layer (E.Tuple es) = if_all (all_values es) (λ vs. tuple (values_of vs))
default_layer (E.Cells es None) = if_all (all_values es) (λ vs. list_with vs nil)
default_layer _ = None

-- the value of a default; each default of the profile has one
unfoldable pub default_kind : ExprKind → Option Value
default_kind e = fold-ExprKind (Option Value) (Unit {0}) (Unit {0}) (Unit {0}) (Unit {0}) (Unit {0}) default_layer (λ i. tt) (λ q. tt) (λ a. tt) (λ c. tt) (λ c. tt) e

-- what a field that isn't given has: its default, or `undefined`
abbrev pub omitted : Option (Node ExprKind) → Option Value
omitted None = Some (atom (codes "undefined"))
omitted (Some e) = default_kind e.kind

-- ---- tuples of a record

-- the value that is given for a field
abbrev pub given_for : List (Name × Value) → Name → Option Value
given_for [] name = None
given_for (g ∷ gs) name = if same_name g.0 name then Some g.1 else given_for gs name

-- one value in front of others
abbrev pub and_values : Option Value → Option (List Value) → Option (List Value)
and_values (Some v) (Some vs) = Some (v ∷ vs)
and_values _ _ = None

-- this, or what is there otherwise
abbrev pub or_else : Option Value → Option Value → Option Value
or_else None other = other
or_else (Some v) other = Some v

-- the values of fields: those that are given, and else what an omitted field has
abbrev pub new_values : List RecFieldKind → List (Name × Value) → Option (List Value)
new_values [] given = Some []
new_values (f ∷ fs) given = and_values (or_else (given_for given f.name) (omitted f.default)) (new_values fs given)

-- the values of fields: those that are given, and else those that stood there, where there are as many
abbrev pub changed_values : List RecFieldKind → List (Name × Value) → List Value → Option (List Value)
changed_values [] given [] = Some []
changed_values (f ∷ fs) given (v ∷ vs) = and_values (or_else (given_for given f.name) (Some v)) (changed_values fs given vs)
changed_values _ given _ = None

-- the value of a field, where there are as many as fields
abbrev pub field_value : List RecFieldKind → List Value → Name → Option Value
field_value [] vs name = None
field_value (f ∷ fs) [] name = None
field_value (f ∷ fs) (v ∷ vs) name = if same_name f.name name then Some v else field_value fs vs name

-- whether a value is this atom
abbrev pub is_atom_named : Name → Value → Bool
is_atom_named name (atom a) = same_name a name
is_atom_named name _ = false

-- the elements behind the first one of a tuple, which is the tag
abbrev pub behind_tag : Name → List Value → Option (List Value)
behind_tag tag [] = None
behind_tag tag (v ∷ vs) = if is_atom_named tag v then Some vs else None

-- the values of fields in a tuple of the record's size that begins with its tag
abbrev pub record_values : RecDefKind → Name → Value → Option (List Value)
record_values r tag (tuple vs) = if nat_eq (length (items_of vs)) (suc (length r.fields)) then behind_tag tag (items_of vs) else None
record_values r tag _ = None

-- whether each name is a field's
abbrev pub has_field : List RecFieldKind → Name → Bool
has_field [] name = false
has_field (f ∷ fs) name = if same_name f.name name then true else has_field fs name

abbrev pub have_fields : List RecFieldKind → List Name → Bool
have_fields fs [] = true
have_fields fs (name ∷ names) = if has_field fs name then have_fields fs names else false
