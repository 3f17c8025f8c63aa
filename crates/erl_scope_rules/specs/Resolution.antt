-- What becomes of occurrences that see further variables outside, and stand behind further names that ended.
use Rattle.std.specs.Prelude.{List, [], ◌++◌, map, Option, Bool}
use Rattle.std.specs.Option.{option_map}
use Rattle.type_terms.specs.Keys.{Name}
use Rattle.erl_tree.specs.declared.form.Module.{Module}
use Rattle.erl_scope_rules.specs.declared.resolved.Resolved.{Resolved}
use Rattle.erl_scope_rules.specs.Occurrences.{Mark, Occurrence, occurrences_of}
use Rattle.erl_scope_rules.specs.Bindings.{innermost, bound_by_role, binds_in_role}
use Rattle.erl_scope_rules.specs.ScopeFaults.{role_fault, stands_among}

-- an occurrence, by the innermost binding outside and by whether its name has ended
abbrev pub resolved_as : Mark → Option Mark → Bool → Resolved
resolved_as mark outer has_ended = record {
  place = mark.place;
  binding = option_map (λ m. m.place) (bound_by_role mark.role mark outer);
  binds = binds_in_role mark.role outer;
  fault = role_fault mark.role outer has_ended;
}

abbrev pub resolved_in : List Mark → List Name → Occurrence → Resolved
resolved_in sees ended o = resolved_as o.mark (innermost o.mark.name (o.sees ++ sees)) (stands_among o.mark.name (o.ended ++ ended))

abbrev pub all_resolved_in : List Mark → List Name → List Occurrence → List Resolved
all_resolved_in sees ended occurrences = map (resolved_in sees ended) occurrences

-- what becomes of the variables of a module
abbrev pub resolved_of : Module → List Resolved
resolved_of m = all_resolved_in [] [] (occurrences_of m)
