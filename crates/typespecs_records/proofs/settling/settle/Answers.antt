use Rattle.std.proofs.Common.{◌≡◌, ◌<◌, ℕ, Option, Some, Bor, get_or, length, sym, subst, arith}
use Rattle.erl_tree.specs.declared.form.RecDefKind.{RecDefKind}
use Rattle.erl_runs.specs.Records.{find_record}
use Rattle.typespecs_names.proofs.Steps.{on_ok}
use Rattle.typespecs_records.specs.Records.{records_seen}
use Rattle.typespecs_records.specs.Settled.{HasOwnNumber}
use Rattle.typespecs_records.proofs.SettledLaws.{is-first, seen-at, seen-length}
use Rattle.typespecs_records.proofs.settling.settle.Goals as goal

pub returns-in-Some : goal.returns-in-Some
returns-in-Some c =
    let below : c.args.at < length c.args.source.now.records.now = omega arith in
    on_ok c.settle_first.result _ _
    (λ h d k.
    let there = subst (λ (o : Option ℕ). HasOwnNumber d (get_or c.args.source.now.records.now 0 c.index-source-0.result).now c.args.at (get_or c.args.source.now.records.now c.args.at c.index-source-at.result).now o) c.in-Some.is (c.in_ok-own_number.ensures d k.numbers) in
    let half = subst (λ (b : Bor RecDefKind). HasOwnNumber d (get_or c.args.source.now.records.now 0 c.index-source-0.result).now c.args.at b.now (Some c.in-Some.number)) (sym c.index-source-at.is) there in
    let own = subst (λ (b : Bor RecDefKind). HasOwnNumber d b.now c.args.at c.index-source-at.result.now (Some c.in-Some.number)) (sym c.index-source-0.is) half in
    h d k
    (subst (λ (b : Bor RecDefKind). find_record d.records b.now.name ≡ Some b.now) c.index-source-at.is
    (is-first d (records_seen c.args.source.now.records.now) c.index-source-0.result.now c.index-source-at.result.now c.args.at c.in-Some.number k.records
    (subst (λ (m : ℕ). c.args.at < m) (sym (seen-length c.args.source.now.records.now)) below)
    (seen-at c.args.source.now.records.now 0 c.index-source-0.result c.index-source-0.result c.index-source-0.is)
    (seen-at c.args.source.now.records.now c.args.at c.index-source-at.result c.index-source-at.result c.index-source-at.is)
    own))
    there.0)
    c.settle_first.ensures
