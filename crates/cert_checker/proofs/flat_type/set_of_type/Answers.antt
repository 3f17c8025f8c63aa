use Rattle.std.proofs.lemmas.Result.{IfOk-weaker}
use Rattle.cert_checker.proofs.ValueSets.{parts-set, parts-limited}
use Rattle.cert_checker.proofs.flat_type.set_of_type.Goals as goal

pub from_parts-requires : goal.from_parts-requires
from_parts-requires c = record { limit = parts-limited c.requires.flat.term c.new-parts.result c.push_parts.new.parts c.new-parts.ensures (c.in_ok-push_parts.ensures c.requires.flat.term c.requires.flat.read) }

pub returns : goal.returns
returns c = IfOk-weaker c.from_parts.result _ _ (λ set h t e. parts-set set t c.new-parts.result c.push_parts.new.parts c.new-parts.ensures (c.in_ok-push_parts.ensures t e) h) c.from_parts.ensures
