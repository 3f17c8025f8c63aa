use Rattle.examples_safety.proofs.FunArguments.{app-kept, app-broken, keeps-inside, gives-atom}
use Rattle.examples_safety.proofs.examples_of_safety.a_fun_as_an_argument.Goals as goal

pub returns-clause-kept : goal.returns-clause-kept
returns-clause-kept c = app-kept

pub returns-clause-broken : goal.returns-clause-broken
returns-clause-broken c = app-broken

pub returns-clause-within : goal.returns-clause-within
returns-clause-within c = keeps-inside

pub returns-clause-gives_atom : goal.returns-clause-gives_atom
returns-clause-gives_atom c = gives-atom
