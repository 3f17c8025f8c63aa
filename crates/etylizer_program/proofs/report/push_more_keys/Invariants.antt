use Rattle.std.proofs.Common.{◌≡◌, ◌∷◌, ◌++◌, take, flat_map}
use Rattle.etylizer_program.specs.Report.{key_text}
use Rattle.etylizer_program.proofs.report.push_more_keys.Given as goal

abbrev pub invariant-keys : goal.invariant-keys
invariant-keys l = l.out.items ≡ l.initial.out.items ++ flat_map (λ key. 44 ∷ key_text key) (take l.key-index l.keys)
