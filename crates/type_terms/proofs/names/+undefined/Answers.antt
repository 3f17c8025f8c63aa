use Rattle.std.proofs.Common.{rules}
use Rattle.type_terms.proofs.UndefinedLaws.{undefined-Map}
use Rattle.type_terms.proofs.names.+undefined.Goals as goal

pub undefined_in-returns-in-Map : goal.undefined_in-returns-in-Map
undefined_in-returns-in-Map t c = rw (c.in-Map.is, undefined-Map c.args.defs.now c.in-Map.fields c.in-Map.rest_int c.in-Map.rest_atom) (search rules)
