use Rattle.erl_lexer.proofs.Arms.{length_is}
use Rattle.erl_lexer.proofs.token_at.next.Goals as goal

pub split_at-requires-in-Some-token_length : goal.split_at-requires-in-Some-token_length
split_at-requires-in-Some-token_length c = (length_is c.in-Some-token_length.length c.args.text.now c.in-Some-token_length.ensures).within

pub token-requires : goal.token-requires
token-requires c = rw c.split_at-in-Some-token_length.ensures.front (length_is c.in-Some-token_length.length c.args.text.now c.in-Some-token_length.ensures).integer
