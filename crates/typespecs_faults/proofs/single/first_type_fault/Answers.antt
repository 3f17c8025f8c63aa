use Rattle.std.proofs.Common.{◌∙◌, ap, map}
use Rattle.std.specs.Prelude.{None}
use Rattle.typespecs_rules.specs.Declarations.{declarations_of}
use Rattle.typespecs_rules.specs.TypeFaults.{any_variable}
use Rattle.typespecs_rules.specs.Earliest.{earliest}
use Rattle.typespecs_faults.specs.NameSets.{has_name}
use Rattle.typespecs_faults.specs.Tables.{find_fields, of_spec}
use Rattle.typespecs_faults.proofs.DeclaredRecords.{specified-records}
use Rattle.typespecs_faults.proofs.TypeLaws.{allowed-alike}
use Rattle.typespecs_faults.proofs.single.first_type_fault.Goals as goal

pub returns : goal.returns
returns c = λ m e k.
    c.in_ok-check_type.ensures (declarations_of m) (record {
      numbers = k;
      records = λ name. c.in_ok-records.ensures name ∙ ap (λ rs. find_fields rs name) (ap (map of_spec) c.as_slice.ensures ∙ specified-records m c.args.specs.now e);
    })
    ∙ ap (earliest None) (allowed-alike (declarations_of m) (has_name c.all_or_none-allowed.result) any_variable c.all_or_none-allowed.ensures c.args.t.now)
