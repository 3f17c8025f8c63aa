use Rattle.std.proofs.Common.{◌∙◌, ap}
use Rattle.erl_scope_numbers.specs.Numbers.{number_of_place}
use Rattle.erl_scope_numbers.proofs.Steps.{IsTableOf-made}
use Rattle.erl_scope_numbers.proofs.scopes.Scopes.new.Goals as goal

pub returns : goal.returns
returns c =
    IsTableOf-made c.args.found.now c.in_ok-bindings.bindings.items c.in_ok-by_binding.by_binding c.in_ok-numbers.numbers c.in_ok-bindings.ensures (λ at. c.in_ok-by_binding.ensures at ∙ ap (number_of_place at) c.deref.ensures.value) c.in_ok-numbers.ensures
