-- What becomes of an occurrence, by where the binding stands that it sees outside.
use Rattle.std.specs.Prelude.{Option, Some, None, Bool, true, false}
use Rattle.erl_tree.specs.declared.token.Place.{Place}
use Rattle.erl_scope_rules.specs.declared.fault.NameFault.TheVariants.{Unbound, Unsafe}
use Rattle.erl_scope_rules.specs.declared.role.Role.{Role}
use Rattle.erl_scope_rules.specs.declared.role.Role.TheVariants.{Used, Met, Renewed}
use Rattle.erl_scope_rules.specs.declared.resolved.Resolved.{Resolved}

abbrev pub resolved_at : Role → Place → Option Place → Bool → Resolved
resolved_at Renewed place outer has_ended = record { place = place; binding = Some place; binds = true; fault = None }
resolved_at role place (Some outer) has_ended = record { place = place; binding = Some outer; binds = false; fault = None }
resolved_at Met place None true = record { place = place; binding = Some place; binds = true; fault = Some Unsafe }
resolved_at Met place None false = record { place = place; binding = Some place; binds = true; fault = None }
resolved_at Used place None true = record { place = place; binding = None; binds = false; fault = Some Unsafe }
resolved_at Used place None false = record { place = place; binding = None; binds = false; fault = Some Unbound }
