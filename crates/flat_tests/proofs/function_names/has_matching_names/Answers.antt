use Rattle.std.proofs.Common.{◌≡◌}
use Rattle.erl_tree.specs.Lists.{AreDistinct}
use Rattle.name_table.specs.Table.{ids}
use Rattle.flat_tests.specs.Names.{names_in}
use Rattle.flat_tests.proofs.FunctionNames.{made_table, matching_if_ok}
use Rattle.flat_tests.proofs.function_names.has_matching_names.Goals as goal

pub returns : goal.returns
returns c =
    let definitions : (ids c.in-Some.definitions ≡ names_in c.args.forms.now) × AreDistinct (ids c.in-Some.definitions) =
    made_table c.args.forms.now c.in_ok-definitions.field-0 c.in-Some.definitions c.in-Some.is c.in_ok-definitions.ensures in
    matching_if_ok c.args.forms.now (ids c.in-Some.definitions) definitions.0 definitions.1 c.forms_call_only_defined.result c.forms_call_only_defined.ensures
