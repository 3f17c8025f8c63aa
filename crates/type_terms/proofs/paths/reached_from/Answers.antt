use Rattle.std.proofs.Common.{◌≡◌, ⊎_elim, rules, true, false, get_or, subst, sym, List, Bool, ℕ}
use Rattle.std.specs.List.{Contains}
use Rattle.type_terms.proofs.PathLaws.{path-inside, no-members, no-items, onward-by, edge-by, popped, kept-of-popped}
use Rattle.type_terms.proofs.paths.reached_from.Goals as goal
use Rattle.type_terms.proofs.paths.reached_from.Goals.{in-Some+in_ok-visit-in-Some, in-None+else-are_in+in_ok-add_members-in-None}

pub steps-init : goal.steps-init
steps-init c = record {
  reached = λ i q. ⊎_elim (λ p. no-members _ i (search rules) p) (λ k. edge-by c.args.graph.now c.args.node _ c.followers.ensures i k) (c.in_ok-visit.ensures.seen i q);
  waits = λ i q. ⊎_elim (λ p. no-items _ i (search rules) p) (λ k. edge-by c.args.graph.now c.args.node _ c.followers.ensures i k) (c.in_ok-visit.ensures.waiting i q);
}

pub returns-then-is_closed : goal.returns-then-is_closed
returns-then-is_closed c = λ m. (
  c.steps.invariant.reached m,
  (λ p. subst (λ (s : List Bool). get_or s m false ≡ true) c.as_slice-set.ensures (path-inside c.args.graph.now c.as_slice-set.result.now c.args.node m (λ x k. c.if-are_in.ensures (search rules) x (subst (λ (l : List ℕ). Contains l x) (sym c.followers-in-None.ensures) k)) (c.if-is_closed.ensures (search rules)) p)),
)

pub steps-preserved : goal.steps-preserved
steps-preserved c =
    elim c.match-pop.branch [
      | in-Some+in_ok-visit-in-Some w ↦ record {
        reached = λ i q. ⊎_elim (λ p. c.steps.invariant.reached i p) (λ k. onward-by c.args.graph.now c.args.node w.in-Some.next _ w.followers-in-Some.ensures (c.steps.invariant.waits w.in-Some.next (popped _ _ w.in-Some.next w.in-Some.ensures)) i k) (w.in_ok-visit-in-Some.ensures.seen i (subst (λ (s : List Bool). get_or s i false ≡ true) w.seen-is q));
        waits = λ i q. ⊎_elim (λ p. c.steps.invariant.waits i (kept-of-popped _ _ w.in-Some.next i w.in-Some.ensures p)) (λ k. onward-by c.args.graph.now c.args.node w.in-Some.next _ w.followers-in-Some.ensures (c.steps.invariant.waits w.in-Some.next (popped _ _ w.in-Some.next w.in-Some.ensures)) i k) (w.in_ok-visit-in-Some.ensures.waiting i (subst (λ (s : List ℕ). Contains s i) w.waiting-is q));
      }
      | in-None+else-are_in+in_ok-add_members-in-None w ↦ record {
        reached = λ i q. c.steps.invariant.reached i (subst (λ (s : List Bool). get_or s i false ≡ true) w.seen-is q);
        waits = λ i q. c.steps.invariant.reached i (subst (λ (s : List Bool). get_or s i false ≡ true) w.as_slice.ensures (w.in_ok-add_members-in-None.ensures i (subst (λ (s : List ℕ). Contains s i) w.waiting-is q)));
      }
    ]
