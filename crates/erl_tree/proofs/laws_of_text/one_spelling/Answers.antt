use Rattle.erl_tree.proofs.Spelled.{bytes_spell_one}
use Rattle.erl_tree.proofs.laws_of_text.one_spelling.Goals as goal

pub returns : goal.returns
returns c = bytes_spell_one
