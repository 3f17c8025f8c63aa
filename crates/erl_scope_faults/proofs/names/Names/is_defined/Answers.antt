use Rattle.erl_tree.specs.Functions.{of_function}
use Rattle.erl_scope_faults.proofs.FunctionLookups.{found-any}
use Rattle.erl_scope_faults.proofs.names.Names.is_defined.Goals as goal

pub returns : goal.returns
returns c = found-any c.args.self.now.functions (of_function c.args.name.now c.args.arity) c.in_ok-get.field-0 c.is_some.result c.is_some.ensures c.in_ok-get.ensures.found
