use Rattle.std.specs.Option.{option_copied}
use Rattle.typespecs_cycles.proofs.VariableTerms.{wildcard-none, variable-some, behind-paren, behind-named, no-other}
use Rattle.typespecs_cycles.proofs.parameters.+variable_of.Goals as goal

pub returns-then-is_wildcard : goal.returns-then-is_wildcard
returns-then-is_wildcard t c = λ d tuples variables. wildcard-none d tuples variables c.args.kind.now c.in-Var.name c.is_wildcard.result c.in-Var.is c.is_wildcard.ensures c.if-is_wildcard.true

pub returns-else-is_wildcard : goal.returns-else-is_wildcard
returns-else-is_wildcard t c = λ d tuples variables. variable-some d tuples variables c.args.kind.now c.in-Var.name c.is_wildcard.result c.in-Var.is c.is_wildcard.ensures c.if-is_wildcard.false

pub returns-in-Paren : goal.returns-in-Paren
returns-in-Paren t c = λ d tuples variables. behind-paren d tuples variables c.args.kind.now c.in-Paren.inner c.get.result.now (option_copied c.variable_of.result) c.in-Paren.is c.get.ensures (c.variable_of.ensures d tuples variables)

pub returns-in-Named : goal.returns-in-Named
returns-in-Named t c = λ d tuples variables. behind-named d tuples variables c.args.kind.now c.in-Named.field-0 c.in-Named.inner c.get-in-Named.result.now (option_copied c.variable_of-in-Named.result) c.in-Named.is c.get-in-Named.ensures (c.variable_of-in-Named.ensures d tuples variables)

pub returns-in_default : goal.returns-in_default
returns-in_default t c = λ d tuples variables. no-other d tuples variables c.args.kind.now c.in_default.not-Var c.in_default.not-Paren c.in_default.not-Named
