use Rattle.erl_scope_numbers.proofs.StandingNumbers.{no_number-where_none_stands}
use Rattle.erl_scope_numbers.proofs.laws.a_number_exactly_where_a_variable_stands.Goals as goal

pub returns : goal.returns
returns c = no_number-where_none_stands
