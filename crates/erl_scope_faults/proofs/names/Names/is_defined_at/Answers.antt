use Rattle.std.proofs.lemmas.Int.{to_z-of_z}
use Rattle.name_table.specs.Table.{ids}
use Rattle.erl_scope_faults.proofs.FunctionLookups.{unfit, beyond}
use Rattle.erl_scope_faults.proofs.names.Names.is_defined_at.Goals as goal

pub returns-in-Err : goal.returns-in-Err
returns-in-Err c = unfit (ids c.args.self.now.functions) c.args.self.now.records c.args.name.now c.args.arity c.args.self.now.bounded (beyond c.args.arity _ (to_z-of_z _ c.args.arity c.ranges.arity) c.in-Err.ensures)
