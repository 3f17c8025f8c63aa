use Rattle.std.proofs.Common.{◌∙◌, ◌++◌, [], ap, arith}
use Rattle.std.specs.List.{filter_map}
use Rattle.typespecs_rules.specs.TypeParts.{from_each, types_within}
use Rattle.typespecs_rules.specs.TypeVariables.{own_variable, place_among}
use Rattle.typespecs_names.specs.Seen.{seen}
use Rattle.typespecs_cycles.proofs.Gathering.{gathered-end, each-filter, each-map}
use Rattle.typespecs_cycles.proofs.bounds.positions_in.Goals as goal

pub returns : goal.returns
returns c = λ names known.
    gathered-end (λ t. filter_map (place_among names) (own_variable t.now)) c.as_slice-inner-items.result.now [] c.loop-inner.inner-index c.loop-inner.list (omega arith) (c.loop-inner.invariant names known)
    ∙ (each-filter (place_among names) (λ t. own_variable t.now) c.as_slice-inner-items.result.now
    ∙ ap (filter_map (place_among names)) (each-map own_variable (λ t. t.now) c.as_slice-inner-items.result.now
    ∙ ap (from_each own_variable) (ap seen c.as_slice-inner-items.ensures.value ∙ (c.in_ok-types_within.ensures ∙ ap (λ l. seen l ++ types_within c.args.t.now) c.new-within.ensures.items))))
