use Rattle.std.proofs.Common.{◌∙◌, ap}
use Rattle.typespecs_rules.specs.Declarations.{types_in}
use Rattle.typespecs.specs.Names.{names_among}
use Rattle.typespecs.proofs.FormLists.{names_of_kinds, if_ok_is}
use Rattle.typespecs.proofs.names.type_names.Goals as goal

pub returns : goal.returns
returns c = if_ok_is c.names_in.result (ap names_among c.as_slice.ensures ∙ names_of_kinds (types_in c.args.module.now.forms)) c.names_in.ensures
