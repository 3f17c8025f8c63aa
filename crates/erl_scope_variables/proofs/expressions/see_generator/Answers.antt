use Rattle.erl_scope_variables.proofs.ScopeSteps.{on_ok}
use Rattle.erl_scope_variables.proofs.ExprSteps.{generator-seen, filter-seen}
use Rattle.erl_scope_variables.proofs.expressions.see_generator.Goals as goal

pub returns-in-Generator : goal.returns-in-Generator
returns-in-Generator c = on_ok (generator-seen c.args.kind.now c.in-Generator.pattern c.in-Generator.field-1 c.in-Generator.is c.args.walk.now c.see_pattern.new.walk) c.see_pattern.result c.see_pattern.ensures

pub returns-in-Filter : goal.returns-in-Filter
returns-in-Filter c = filter-seen c.args.kind.now c.in-Filter.field-0 c.in-Filter.is c.args.walk.now
