-- The command lines.
use Rattle.std.specs.Prelude.{ℕ, List, [], ◌∷◌, Option, Some, None, bytes_eq, if◌then◌else◌, codes}
use Rattle.etylizer_program.specs.declared.command.Command.{Command}
use Rattle.etylizer_program.specs.declared.command.Command.TheVariants.{Check}

-- `check FILE` is the one command
abbrev pub command_of : List (List ℕ) → Option Command
command_of (word ∷ file ∷ []) = if bytes_eq word (codes "check") then Some Check else None
command_of _ = None
