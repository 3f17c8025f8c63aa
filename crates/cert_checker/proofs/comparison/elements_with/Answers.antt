use Rattle.std.proofs.Common.{sym, subst, ◌≡◌}
use Rattle.std.specs.Prelude.{Some, slice_get}
use Rattle.cert_checker.proofs.Arguments.{keys_of, keys-set}
use Rattle.cert_checker.proofs.comparison.elements_with.Goals as goal

pub returns : goal.returns
returns c ts t w e k = subst (λ z. keys_of z ts × (slice_get z c.args.at ≡ Some c.args.key)) (sym c.set.ensures) (keys-set c.in_ok-keys.keys ts c.args.at c.args.key t (c.in_ok-keys.ensures.elements ts w) e k)
