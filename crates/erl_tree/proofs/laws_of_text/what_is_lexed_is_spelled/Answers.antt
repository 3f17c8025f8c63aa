use Rattle.erl_tree.proofs.Lexed.{lexed_is_spelled}
use Rattle.erl_tree.proofs.laws_of_text.what_is_lexed_is_spelled.Goals as goal

pub returns : goal.returns
returns c = lexed_is_spelled
