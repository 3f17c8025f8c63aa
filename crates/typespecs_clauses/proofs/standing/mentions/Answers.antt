use Rattle.std.proofs.Common.{◌≡◌, ◌∙◌, sym, ap, [], List, ℕ, rules}
use Rattle.std.specs.Prelude.{Option, None, slice_get}
use Rattle.std.specs.Option.{unwrap_or}
use Rattle.std.proofs.lemmas.Option.{unwrap_or-slice_get}
use Rattle.typespecs_clauses.proofs.standing.mentions.Goals as goal

pub returns-in-None : goal.returns-in-None
returns-in-None c =
    let absent : slice_get c.args.source.now.variables.now.graph.items c.args.at ≡ None = search rules in
    ap (λ (o : Option (List ℕ)). unwrap_or o []) (sym absent) ∙ unwrap_or-slice_get c.args.source.now.variables.now.graph.items c.args.at []
