use Rattle.std.proofs.Common.{◌∙◌, [], ap, sym}
use Rattle.erl_tree.specs.declared.type_expr.TypeKind.TheVariants as Y
use Rattle.typespecs_rules.specs.declared.fault.TypeFault.TheVariants.{BadRange}
use Rattle.typespecs_rules.specs.TypeFaults.{unless, keys_faults}
use Rattle.typespecs_rules.specs.Earliest.{earliest}
use Rattle.typespecs_faults.specs.NameSets.{has_name}
use Rattle.typespecs_faults.specs.Levels.{record_faults}
use Rattle.typespecs_faults.proofs.LevelLaws.{own-is, own-use, own-other}
use Rattle.typespecs_faults.proofs.Rows.{on_ok}
use Rattle.typespecs_faults.proofs.levels.note_own.Goals as goal

pub returns-in-Use : goal.returns-in-Use
returns-in-Use c =
    on_ok c.note_named.result _ _
    (λ h d k. h d k ∙ ap (earliest c.args.first.now) (own-use d (has_name c.args.allowed.now) c.args.t.now c.get.result.now c.in-Use.prefix c.in-Use.name c.in-Use.args c.len.result c.get.ensures c.in-Use.is c.len.ensures))
    c.note_named.ensures

pub returns-in-Map : goal.returns-in-Map
returns-in-Map c =
    on_ok c.note_keys.result _ _
    (λ h d k. h ∙ ap (earliest c.args.first.now) (ap (keys_faults []) c.as_slice.ensures ∙ own-is d (has_name c.args.allowed.now) c.args.t.now c.get.result.now (Y.Map c.in-Map.parts) _ c.get.ensures c.in-Map.is (Y.outs-Map c.in-Map.parts)))
    c.note_keys.ensures

pub returns-in-Rec : goal.returns-in-Rec
returns-in-Rec c =
    on_ok c.note_record.result _ _
    (λ h d k. h d k ∙ ap (earliest c.args.first.now) (ap (λ fs. record_faults d c.in-Rec.name fs c.args.t.now.place) c.as_slice-in-Rec.ensures ∙ own-is d (has_name c.args.allowed.now) c.args.t.now c.get.result.now (Y.Rec c.in-Rec.name c.in-Rec.tag c.in-Rec.fields) _ c.get.ensures c.in-Rec.is (Y.outs-Rec c.in-Rec.name c.in-Rec.tag c.in-Rec.fields)))
    c.note_record.ensures

pub returns-in_ok-is_range-in-Range : goal.returns-in_ok-is_range-in-Range
returns-in_ok-is_range-in-Range c = λ d k.
    c.note_unless-in-Range.ensures ∙ ap (earliest c.args.first.now) (ap (λ b. unless b BadRange c.args.t.now.place) c.in_ok-is_range-in-Range.ensures ∙ own-is d (has_name c.args.allowed.now) c.args.t.now c.get.result.now (Y.Range c.in-Range.low c.in-Range.high) _ c.get.ensures c.in-Range.is (Y.outs-Range c.in-Range.low c.in-Range.high))

pub returns-in_default : goal.returns-in_default
returns-in_default c = λ d k. ap (earliest c.args.first.now) (sym (own-other d (has_name c.args.allowed.now) c.args.t.now c.get.result.now c.get.ensures c.in_default.not-Var c.in_default.not-Range c.in_default.not-Use c.in_default.not-Map c.in_default.not-Rec))
