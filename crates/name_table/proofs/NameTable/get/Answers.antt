use Rattle.std.proofs.Common.{◌∙◌}
use Rattle.name_table.proofs.Lookups.{found_by_key}
use Rattle.name_table.proofs.NameTable.get.Goals as goal

pub returns-clause-found : goal.returns-clause-found
returns-clause-found c =
    found_by_key c.in_ok-key.key _ c.in_ok-key.ensures c.self.inside.numbers.entries _ c.self.view_is _ (c.copied.ensures ∙ c.get.ensures.value)
