use Rattle.std.proofs.Common.{◌≡◌, sym, ◌∙◌}
use Rattle.std.specs.Prelude.{false}
use Rattle.std.specs.Str.{bytes_eq}
use Rattle.erl_runs.specs.Names.{is_wildcard}
use Rattle.cert_checker.proofs.BoundVariables.{named-variable}
use Rattle.cert_checker.proofs.variables.is_variable.Goals as goal

pub returns-else-eq : goal.returns-else-eq
returns-else-eq c =
    let w : is_wildcard c.args.variable.now ≡ false = sym (rw (c.as_slice.ensures, c.as_slice-2.ensures) at c.if-eq.ensures) in
    let e : bytes_eq c.as_slice-else-eq.result.now c.as_slice-else-eq-2.result.now ≡ bytes_eq c.args.variable.now c.args.name.now = λ j. bytes_eq (c.as_slice-else-eq.ensures j) (c.as_slice-else-eq-2.ensures j) in
    c.eq-else-eq.ensures ∙ (e ∙ named-variable c.args.variable.now c.args.name.now w)
