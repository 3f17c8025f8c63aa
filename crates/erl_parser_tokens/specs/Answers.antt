-- What a call gives that reads a whole text.
use Rattle.std.specs.Prelude.{◌≡◌, Result, Ok, Err}
use Rattle.erl_parser_tokens.specs.declared.fault.ParseFault.{ParseFault}
use Rattle.erl_parser_tokens.specs.declared.fault.ParseFault.TheVariants as faults

-- it gives this value, unless memory runs out
abbrev pub IsOrNoMemory : {A : Type 0} → A → Result A ParseFault → Type 0
IsOrNoMemory x (Ok y) = y ≡ x
IsOrNoMemory x (Err faults.NoMemory) = Unit {0}
IsOrNoMemory x (Err _) = ⊥
