use Rattle.std.proofs.Common.{◌∙◌, ℕ, List, Bool, false, get_or, sym, ap, subst}
use Rattle.std.specs.List.{Contains}
use Rattle.typespecs_rules.specs.TypeTerms.{no_variables, tuple_of, type_kind_term}
use Rattle.typespecs_terms.specs.Tables.{tuples_in}
use Rattle.typespecs_records.proofs.SettledLaws.{both-ok, settled-more, settled-tuple}
use Rattle.typespecs_records.proofs.settling.settle_first.Goals as goal

pub returns-then-are_marked : goal.returns-then-are_marked
returns-then-are_marked c =
    both-ok c.mark_at.result _ _ _
    (λ here elsewhere d k found number so_far.
    settled-more d k.finite (tuples_in c.args.so_far.now.tuples) c.args.so_far.now.settled so_far c.args.record.now.name c.args.number number
    (tuple_of (type_kind_term d (tuples_in c.args.so_far.now.tuples) no_variables) c.args.record.now)
    (settled-tuple d k.finite (tuples_in c.args.so_far.now.tuples) c.args.so_far.now.settled so_far c.args.record.now found
    (λ n i. sym (ap (λ (l : List Bool). get_or l n false) c.as_slice.ensures) ∙ c.are_marked.ensures c.if-are_marked.true n (subst (λ (l : List ℕ). Contains l n) (sym (c.as_slice-2.ensures ∙ c.in_ok-expanded.ensures d k.numbers)) i)))
    (tuples_in c.note.new.tuples) c.mark_at.new.marks (c.in_ok-note.ensures d k.numbers) here elsewhere)
    c.mark_at.ensures.here c.mark_at.ensures.elsewhere
