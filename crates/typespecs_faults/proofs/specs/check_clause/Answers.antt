use Rattle.typespecs_faults.specs.NameSets.{has_name}
use Rattle.typespecs_faults.proofs.Rows.{on_ok}
use Rattle.typespecs_faults.proofs.SpecLaws.{clause-noted}
use Rattle.typespecs_faults.proofs.specs.check_clause.Goals as goal

pub returns : goal.returns
returns c =
    on_ok c.check_bounds.result _ _
    (λ h d k. clause-noted d (has_name c.all_or_none-allowed.result) c.args.clause.now c.get-kind.result.now c.as_slice-2.result.now c.as_slice.result.now c.as_slice-3.result.now c.in_ok-is_twice.is_twice c.args.first.now c.note_unless.new.first c.check_types.new.first c.check_type.new.first c.check_bounds.new.first
    c.all_or_none-allowed.ensures c.get-kind.ensures c.as_slice-2.ensures c.as_slice.ensures c.as_slice-3.ensures c.in_ok-is_twice.ensures c.note_unless.ensures (c.in_ok-check_types.ensures d k) (c.in_ok-check_type.ensures d k) (h d k))
    c.check_bounds.ensures
