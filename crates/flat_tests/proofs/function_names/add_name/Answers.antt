use Rattle.erl_tree.specs.Functions.{of_function}
use Rattle.flat_tests.proofs.FunctionNames.{distinct_if_ok}
use Rattle.flat_tests.proofs.function_names.add_name.Goals as goal

pub returns-in-Some-clause-distinct : goal.returns-in-Some-clause-distinct
returns-in-Some-clause-distinct c =
    distinct_if_ok c.args.table.now (of_function c.in-Some.name.now c.in-Some.arity) 0 c.insert.new.self _ c.insert.result c.in-Some.ensures c.requires c.insert.ensures.inserted
