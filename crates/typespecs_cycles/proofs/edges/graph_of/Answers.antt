use Rattle.std.proofs.Common.{◌∙◌, [], ◌∷◌, ap, arith}
use Rattle.typespecs_rules.specs.TypeParts.{from_each}
use Rattle.typespecs_names.specs.Seen.{seen}
use Rattle.typespecs_cycles.specs.DeclarationParts.{Inner, inner_of}
use Rattle.typespecs_cycles.specs.Edges.{edges_of}
use Rattle.typespecs_cycles.proofs.Gathering.{gathered-next, gathered-end, each-one, map-twice}
use Rattle.typespecs_cycles.proofs.edges.graph_of.Goals as goal

pub loop-part-preserved : goal.loop-part-preserved
loop-part-preserved c = λ d k.
    gathered-next (λ p. from_each (edges_of c.args.edges d) (inner_of p).1 ∷ []) c.args.parts.now [] c.loop-part.part-index c.part-item.result c.loop-part.graph.items c.push.new.self.items (c.in_ok-list.list ∷ []) c.loop-part-test.true c.part-item.is
    (ap (λ l. l ∷ []) (c.in_ok-list.ensures d k ∙ ap (λ ts. from_each (edges_of c.args.edges d) (seen ts)) c.as_slice.ensures.value)) c.in_ok-push.ensures.items (c.loop-part.invariant d k)

pub returns : goal.returns
returns c = λ d k.
    gathered-end (λ p. from_each (edges_of c.args.edges d) (inner_of p).1 ∷ []) c.args.parts.now [] c.loop-part.part-index c.loop-part.graph.items (omega arith) (c.loop-part.invariant d k)
    ∙ (each-one (λ p. from_each (edges_of c.args.edges d) (inner_of p).1) c.args.parts.now ∙ map-twice (λ (x : Inner). from_each (edges_of c.args.edges d) x.1) inner_of c.args.parts.now)
