-- A module has at most one first fault.
use Rattle.std.proofs.Common.{◌≡◌, false}
use Rattle.erl_tree.specs.declared.form.Module.{Module}
use Rattle.erl_scope_rules.specs.declared.fault.PlacedFault.{PlacedFault}
use Rattle.erl_scope_rules.specs.ScopeFaults.{is_earlier, faults_of, IsFirstFault}
use Rattle.erl_grammar.proofs.Layers.{each}
use Rattle.erl_scope.proofs.FaultOrder.{neither_earlier}

pub IsFirstFault-same : (m : Module) (f g : PlacedFault) → IsFirstFault m f → IsFirstFault m g → f ≡ g
IsFirstFault-same m f g of_f of_g =
    neither_earlier f g (each (λ x. is_earlier x g ≡ false) (faults_of m) of_g.first f of_f.stands) (each (λ x. is_earlier x f ≡ false) (faults_of m) of_f.first g of_g.stands)
