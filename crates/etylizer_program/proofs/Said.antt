-- What the words are where they are a command.
use Rattle.std.proofs.Common.{◌≡◌, ◌∙◌, ℕ, List, [], ◌∷◌, map, get_or, codes, Some, None, Bool, true, false, bytes_eq, refl, ap, sym, if◌then◌else◌}
use Rattle.std.proofs.lemmas.Slice.Eq.{bytes_eq-Decides}
use Rattle.etylizer_program.specs.declared.command.Command.{Command}
use Rattle.etylizer_program.specs.declared.command.Command.TheVariants.{Check}
use Rattle.etylizer_program.specs.Commands.{command_of}
use Rattle.etylizer_program.specs.Tool.{IsCheckOf}

from_test : (b : Bool) (command : Command) → Some command ≡ (if b then Some Check else None) → b ≡ true
from_test true command e = refl
from_test false command e = cc

-- the second word is the file
pub check_said : {X : Type 0} (text_of : X → List ℕ) (words : List X) (word : X) (file : List ℕ) (command : Command) → word ≡ get_or words 1 word → file ≡ text_of word → Some command ≡ command_of (map text_of words) → IsCheckOf (map text_of words) file
check_said text_of [] word file command at is e = cc
check_said text_of (a ∷ []) word file command at is e = cc
check_said text_of (a ∷ b ∷ []) word file command at is e =
    let first : text_of a ≡ codes "check" = (bytes_eq-Decides (text_of a) (codes "check")).0 (from_test (bytes_eq (text_of a) (codes "check")) command e) in
    let second : text_of b ≡ file = ap text_of (sym at) ∙ sym is in
    ap (λ w. w ∷ text_of b ∷ []) first ∙ ap (λ w. codes "check" ∷ w ∷ []) second
check_said text_of (a ∷ b ∷ c ∷ more) word file command at is e = cc
