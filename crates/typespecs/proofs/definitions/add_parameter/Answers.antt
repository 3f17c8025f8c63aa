use Rattle.std.proofs.Common.{◌∙◌, ap, sym}
use Rattle.std.specs.Prelude.{is_some}
use Rattle.typespecs_terms.specs.Tables.{terms_in}
use Rattle.typespecs.proofs.ParameterTables.{new-parameter, known-parameter, copied-there}
use Rattle.typespecs.proofs.definitions.add_parameter.Goals as goal

pub returns-in_ok-insert : goal.returns-in_ok-insert
returns-in_ok-insert c = λ names counted so_far.
    new-parameter names c.args.name.now (terms_in c.args.table.now) so_far c.args.number (terms_in c.insert.new.self) counted
    (ap is_some (sym c.get.ensures) ∙ (copied-there c.get.result ∙ c.if-is_none.ensures))
    c.in_ok-insert.ensures

pub returns-else-is_none : goal.returns-else-is_none
returns-else-is_none c = λ names counted so_far.
    known-parameter names c.args.name.now (terms_in c.args.table.now) so_far
    (ap is_some (sym c.get.ensures) ∙ (copied-there c.get.result ∙ c.if-is_none.ensures))
