use Rattle.std.proofs.Common.{◌∙◌, ap, map, List}
use Rattle.std.specs.Prelude.{None}
use Rattle.erl_tree.specs.declared.form.TreeForm.{TreeForm}
use Rattle.erl_runs.specs.Records.{records_in}
use Rattle.typespecs_rules.specs.Declarations.{declarations_of}
use Rattle.typespecs_rules.specs.TypeFaults.{forms_faults}
use Rattle.typespecs_rules.specs.Earliest.{earliest}
use Rattle.typespecs_faults.specs.Behind.{nothing_behind}
use Rattle.typespecs_faults.specs.Tables.{find_fields, of_declaration}
use Rattle.typespecs_faults.proofs.forms.first_listed_fault.Goals as goal

pub returns : goal.returns
returns c =
    c.in_ok-check_forms.ensures (declarations_of c.args.module.now) (record {
      numbers = c.requires;
      records = λ name. c.in_ok-records.ensures name ∙ ap (λ (fs : List TreeForm). find_fields (map of_declaration (records_in fs)) name) c.as_slice-forms.ensures;
    })
    ∙ ap (λ (fs : List TreeForm). earliest None (forms_faults (declarations_of c.args.module.now) nothing_behind fs)) c.as_slice-forms.ensures
