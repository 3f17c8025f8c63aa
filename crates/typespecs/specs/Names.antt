-- What is listed of the declarations and specs among forms.
use Rattle.std.specs.Prelude.{List, map, length, get_or}
use Rattle.std.specs.Borrow.{Bor}
use Rattle.type_terms.specs.declared.spec.Arrow.{Arrow}
use Rattle.erl_tree.specs.declared.token.Place.{Place}
use Rattle.erl_tree.specs.declared.token.Node.{Node}
use Rattle.erl_tree.specs.declared.form.TypeDefKind.{TypeDefKind}
use Rattle.erl_tree.specs.declared.form.RecDefKind.{RecDefKind}
use Rattle.erl_tree.specs.declared.form.SpecKind.{SpecKind}
use Rattle.erl_tree.specs.declared.form.SpecClauseKind.{SpecClauseKind}
use Rattle.erl_tree.specs.declared.form.TreeForm.{TreeForm}
use Rattle.erl_runs.specs.Specs.{specs_in}
use Rattle.typespecs_rules.specs.declared.specs.TypeName.{TypeName}
use Rattle.typespecs_rules.specs.Declarations.{types_in, record_forms_in}
use Rattle.typespecs_rules.specs.TypeParts.{from_each}

-- a type's name and the number of its parameters
abbrev pub name_of : TypeDefKind → TypeName
name_of d = record { name = d.name; params = length d.params }

abbrev pub names_among : List TreeForm → List TypeName
names_among forms = map (λ (d : Node TypeDefKind). name_of d.kind) (types_in forms)

-- where the names of types stand, and those of records; where a tree has no mark for one, the declaration's own place
abbrev pub type_place : Node TypeDefKind → Place
type_place d = get_or d.marks 2 d.place

abbrev pub type_places_among : List TreeForm → List Place
type_places_among forms = map type_place (types_in forms)

abbrev pub record_place : Node RecDefKind → Place
record_place r = get_or r.marks 3 r.place

abbrev pub record_places_among : List TreeForm → List Place
record_places_among forms = map record_place (record_forms_in forms)

-- where the clauses of a spec stand
abbrev pub clause_places : Node SpecKind → List Place
clause_places s = map (λ (c : Node SpecClauseKind). c.place) s.kind.clauses

abbrev pub clause_places_among : List TreeForm → List Place
clause_places_among forms = from_each clause_places (specs_in forms)

-- the arrows to which references lead
abbrev pub arrows_seen : List (Bor Arrow) → List Arrow
arrows_seen list = map (λ b. b.now) list
