use Rattle.tool_io.proofs.HeldPairs.{holds_added, keeps_others}
use Rattle.tool_io.proofs.memory.SureFilesFiles.store.Goals as goal

pub returns-clause-stored : goal.returns-clause-stored
returns-clause-stored c = holds_added _ _ _ _ c.in_ok-hold.ensures.ok

pub returns-clause-others : goal.returns-clause-others
returns-clause-others c = keeps_others _ _ _ _ c.in_ok-hold.ensures.ok
