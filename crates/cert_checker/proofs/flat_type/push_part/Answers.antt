use Rattle.cert_checker.proofs.ValueSets.{push-adds}
use Rattle.cert_checker.proofs.flat_type.push_part.Goals as goal

pub returns : goal.returns
returns c t h = push-adds c.args.part t c.args.parts.now c.push.new.self c.in_ok-push.ensures.ok h
