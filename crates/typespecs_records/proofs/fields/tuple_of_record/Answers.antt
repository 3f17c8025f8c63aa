use Rattle.std.proofs.Common.{◌∙◌, ap, sym, map, Some}
use Rattle.erl_runs.specs.Specs.{all_present}
use Rattle.typespecs_rules.specs.TypeTerms.{type_kind_term}
use Rattle.typespecs_terms.specs.Tables.{terms_in, tuples_in}
use Rattle.typespecs_records.specs.Settled.{of_field}
use Rattle.typespecs_records.proofs.LoopLaws.{tuple-is, without-variables}
use Rattle.typespecs_records.proofs.fields.tuple_of_record.Goals as goal

pub returns-in-None : goal.returns-in-None
returns-in-None c = λ d k.
    let t = type_kind_term d (tuples_in c.args.tuples.now) (terms_in c.new-variables.result) in
    tuple-is t c.args.record.now _ (sym c.in-None.is ∙ (c.in_ok-field_terms.ensures d k ∙ ap (λ fs. all_present (map (of_field t) fs)) c.as_slice.ensures))
    ∙ without-variables d (tuples_in c.args.tuples.now) (terms_in c.new-variables.result) c.args.record.now c.new-variables.ensures

pub returns : goal.returns
returns c = λ d k.
    let t = type_kind_term d (tuples_in c.args.tuples.now) (terms_in c.new-variables.result) in
    ap (λ tag. Some (record { tag = tag; fields = c.in-Some.fields })) c.in_ok-copy-in-Some.ensures
    ∙ (tuple-is t c.args.record.now _ (sym c.in-Some.is ∙ (c.in_ok-field_terms.ensures d k ∙ ap (λ fs. all_present (map (of_field t) fs)) c.as_slice.ensures))
    ∙ without-variables d (tuples_in c.args.tuples.now) (terms_in c.new-variables.result) c.args.record.now c.new-variables.ensures)
