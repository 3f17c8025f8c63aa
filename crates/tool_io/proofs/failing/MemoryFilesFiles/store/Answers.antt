use Rattle.std.proofs.Common.{ap, ◌∙◌}
use Rattle.tool_io.specs.Memory.{held_in}
use Rattle.tool_io.proofs.HeldPairs.{held_in-added, held_in-other}
use Rattle.tool_io.proofs.failing.MemoryFilesFiles.store.Goals as goal

pub returns-clause-stored : goal.returns-clause-stored
returns-clause-stored c = held_in-added _ _ _ _ c.in_ok-hold.ensures.ok

pub returns-clause-others : goal.returns-clause-others
returns-clause-others c = λ other differs.
    held_in-other _ _ _ _ other c.in_ok-hold.ensures.ok differs ∙ ap (λ pairs. held_in pairs other) c.begin.ensures.held
