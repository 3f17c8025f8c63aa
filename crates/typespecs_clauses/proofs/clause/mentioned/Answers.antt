use Rattle.std.proofs.Common.{◌≡◌, ◌∙◌, ◌++◌, ap, subst, List}
use Rattle.std.specs.Prelude.{IfOk}
use Rattle.std.specs.List.{filter_map}
use Rattle.type_terms.specs.Keys.{Name}
use Rattle.typespecs_rules.specs.TypeParts.{types_within}
use Rattle.typespecs_names.specs.Seen.{seen}
use Rattle.typespecs_clauses.specs.Names.{number_of}
use Rattle.typespecs_clauses.proofs.ClauseLaws.{own_in, own-within}
use Rattle.typespecs_clauses.proofs.clause.mentioned.Goals as goal

pub returns : goal.returns
returns c =
    subst (λ (names : List Name). IfOk c.places_among.result (λ row. row ≡ filter_map (number_of c.args.places.now) names))
    (ap own_in c.deref.ensures.value ∙ own-within c.args.t.now c.types_within.new.list.items (c.in_ok-types_within.ensures ∙ (λ j. seen (c.new-types.ensures.items j) ++ types_within c.args.t.now)))
    c.places_among.ensures
