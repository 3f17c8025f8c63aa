use Rattle.text_reader.proofs.Parsed.{read_module}
use Rattle.text_reader.proofs.reading.read_resolved.Goals as goal

pub returns-in-Ok-clause-read : goal.returns-in-Ok-clause-read
returns-in-Ok-clause-read c = read_module c.args.text.now c.args.tree c.args.scopes c.in-Ok.specs c.requires.parsed c.requires.right_names c.requires.table c.in-Ok.ensures.right
