use Rattle.std.proofs.Common.{◌∙◌, ◌++◌, sym, ap, arith}
use Rattle.std.proofs.lemmas.List.{take_all}
use Rattle.typespecs_rules.specs.TypeParts.{from_each, types_within}
use Rattle.typespecs_rules.specs.Bounds.{Bound}
use Rattle.typespecs_names.specs.Seen.{seen}
use Rattle.typespecs_clauses.proofs.ClauseLaws.{each-step, each-mapped}
use Rattle.typespecs_clauses.proofs.clause.add_bounds.Goals as goal

pub bounds-preserved : goal.bounds-preserved
bounds-preserved c =
    each-step (λ (b : Bound). types_within b.1) c.args.bounds.now c.bounds.bound-index c.bound-item.result c.bound-item.result c.bounds-test.true c.bound-item.is (seen c.args.list.now.items) (seen c.bounds.list.items) (seen c.types_within.new.list.items) c.bounds.invariant c.in_ok-types_within.ensures

pub returns : goal.returns
returns c =
    c.bounds.invariant ∙ ap (λ ts. seen c.args.list.now.items ++ ts) (ap (from_each (λ (b : Bound). types_within b.1)) (take_all c.bounds.bound-index c.args.bounds.now (omega arith)) ∙ sym (each-mapped types_within (λ (b : Bound). b.1) c.args.bounds.now))
