use Rattle.text_reader.proofs.Parsed.{parsed_as, tokens_refused}
use Rattle.text_reader.proofs.reading.read_tokens.Goals as goal

pub read_module-requires : goal.read_module-requires
read_module-requires c = parsed_as c.args.text.now c.args.tokens.now c.in-Ok.tree c.requires.lexed c.in-Ok.ensures.found

pub returns-in-Err-clause-refused : goal.returns-in-Err-clause-refused
returns-in-Err-clause-refused c =
    tokens_refused c.args.text.now c.args.tokens.now c.in-Err.fault c.refused_by_parser.result c.refused_by_parser.ensures c.requires.lexed c.in-Err.ensures.too_deep c.in-Err.ensures.unexpected c.in-Err.ensures.outside
