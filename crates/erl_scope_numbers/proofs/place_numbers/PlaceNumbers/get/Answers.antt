use Rattle.std.proofs.Common.{◌∙◌, ap}
use Rattle.std.specs.Option.{option_flatten}
use Rattle.erl_scope_numbers.proofs.Keys.{entry_by_key}
use Rattle.erl_scope_numbers.proofs.place_numbers.PlaceNumbers.get.Goals as goal

pub returns : goal.returns
returns c =
    c.flatten.ensures ∙ ap option_flatten (c.copied.ensures ∙ c.get.ensures.value ∙ entry_by_key c.key_of.result _ c.key_of.ensures c.self.inside.by_place.entries _ c.self.view_is)
