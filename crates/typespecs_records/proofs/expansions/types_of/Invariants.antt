use Rattle.std.proofs.Common.{◌≡◌, take}
use Rattle.erl_tree.specs.declared.token.Node.{Node}
use Rattle.erl_tree.specs.declared.form.RecFieldKind.{RecFieldKind}
use Rattle.typespecs_rules.specs.TypeParts.{from_each, types_within}
use Rattle.typespecs_rules.specs.RegularUse.{field_types}
use Rattle.typespecs_names.specs.Seen.{seen}
use Rattle.typespecs_records.proofs.expansions.types_of.Given as goal

abbrev pub invariant-fields : goal.invariant-fields
invariant-fields l = seen l.types.items ≡ from_each types_within (from_each (λ (f : Node RecFieldKind). field_types f.kind.ty) (take l.field-index l.record.fields))
