use Rattle.name_table.specs.Table.{ids}
use Rattle.flat_tests.proofs.FunctionNames.{gathered_twice}
use Rattle.flat_tests.proofs.function_names.table_of.Goals as goal

pub returns-then-not-added : goal.returns-then-not-added
returns-then-not-added c =
    gathered_twice c.args.forms.now _ _ (ids c.loop-form.table) c.in_ok-added.added c.loop-form-test.true c.form-item.is c.loop-form.invariant c.in_ok-added.ensures.distinct c.if-not-added.true
