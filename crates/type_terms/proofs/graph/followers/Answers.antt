use Rattle.std.proofs.Common.{◌≡◌, ◌∙◌, ap, ℕ, List, [], rules}
use Rattle.std.specs.Prelude.{Option, None as Nothing, slice_get}
use Rattle.std.specs.Option.{unwrap_or}
use Rattle.std.proofs.lemmas.Option.{unwrap_or-slice_get}
use Rattle.type_terms.proofs.graph.followers.Goals as goal

pub returns-in-None : goal.returns-in-None
returns-in-None c =
    let e : Nothing ≡ slice_get c.args.graph.now c.args.node = search rules in
    ap (λ (o : Option (List ℕ)). unwrap_or o []) e ∙ unwrap_or-slice_get c.args.graph.now c.args.node []
