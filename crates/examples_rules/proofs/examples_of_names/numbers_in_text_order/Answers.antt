use Rattle.examples_rules.proofs.ScopeExamples.{numbers_in_text_order-bindings, numbers_in_text_order-outer, numbers_in_text_order-matched, numbers_in_text_order-inner, numbers_in_text_order-next_function}
use Rattle.examples_rules.proofs.examples_of_names.numbers_in_text_order.Goals as goal

pub returns-clause-bindings : goal.returns-clause-bindings
returns-clause-bindings c = numbers_in_text_order-bindings

pub returns-clause-outer : goal.returns-clause-outer
returns-clause-outer c = numbers_in_text_order-outer

pub returns-clause-matched : goal.returns-clause-matched
returns-clause-matched c = numbers_in_text_order-matched

pub returns-clause-inner : goal.returns-clause-inner
returns-clause-inner c = numbers_in_text_order-inner

pub returns-clause-next_function : goal.returns-clause-next_function
returns-clause-next_function c = numbers_in_text_order-next_function
