use Rattle.std.proofs.Common.{⊎_elim, inr, subst, sym, arith}
use Rattle.std.proofs.lemmas.List.Elements.{Contains-get_or}
use Rattle.std.specs.List.{Contains}
use Rattle.type_terms.proofs.paths.visit.Goals as goal

pub nodes-preserved : goal.nodes-preserved
nodes-preserved c =
    let here : Contains c.args.nodes.now (_) = Contains-get_or c.args.nodes.now c.nodes.node-index 0 (omega arith) in
    record {
      in_set = λ i q. ⊎_elim (λ p. c.nodes.invariant.in_set i p) (λ p. inr (subst (λ m. Contains c.args.nodes.now m) (sym p) here)) (c.in_ok-visit_one.ensures.seen i q);
      waits = λ i q. ⊎_elim (λ p. c.nodes.invariant.waits i p) (λ p. inr (subst (λ m. Contains c.args.nodes.now m) (sym p) here)) (c.in_ok-visit_one.ensures.waiting i q);
    }
