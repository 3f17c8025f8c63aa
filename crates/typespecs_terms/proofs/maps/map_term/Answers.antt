use Rattle.std.proofs.Common.{refl}
use Rattle.typespecs_terms.proofs.MapEntries.{IsRead-start, IsRead-more}
use Rattle.typespecs_terms.proofs.maps.map_term.Goals as goal

pub entries-init : goal.entries-init
entries-init c = IsRead-start c.args.entries _ c.new.ensures.items refl refl

pub entries-preserved : goal.entries-preserved
entries-preserved c = IsRead-more c.entries.entries c.pop.new.self c.args.entries c.in-Some.entry c.entries.parts c.in_ok-parts.parts c.in-Some.ensures c.in_ok-parts.ensures c.entries.invariant
