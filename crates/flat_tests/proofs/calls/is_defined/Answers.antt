use Rattle.erl_tree.specs.Functions.{of_function}
use Rattle.flat_tests.proofs.FunctionNames.{defined_if_found}
use Rattle.flat_tests.proofs.calls.is_defined.Goals as goal

pub returns : goal.returns
returns c = defined_if_found c.args.table.now (of_function c.args.name.now c.args.arity) c.in_ok-get.field-0 c.is_some.result c.is_some.ensures c.in_ok-get.ensures.found
