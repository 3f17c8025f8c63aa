use Rattle.std.proofs.Common.{◌∙◌, sym}
use Rattle.flat_tests.proofs.FlatTests.{not_flat, wrong_forms, sound, complete}
use Rattle.flat_tests.proofs.modules.is_flat_module.Goals as goal

pub returns-then-not-is_flat-clause-complete : goal.returns-then-not-is_flat-clause-complete
returns-then-not-is_flat-clause-complete c = not_flat c.args.module.now c.is_flat.result c.is_flat.ensures c.if-not-is_flat.true

pub returns-then-not-are_right_forms-clause-complete : goal.returns-then-not-are_right_forms-clause-complete
returns-then-not-are_right_forms-clause-complete c =
    wrong_forms c.args.module.now c.as_slice-forms.result.now c.as_slice-forms.ensures c.are_right_forms.result c.are_right_forms.ensures c.if-not-are_right_forms.true

pub returns-clause-sound : goal.returns-clause-sound
returns-clause-sound c =
    sound c.args.module.now c.as_slice-forms.result.now c.as_slice-forms.ensures c.are_right_forms.result c.are_right_forms.ensures c.has_matching_names.result c.has_matching_names.ensures
    c.requires.well_formed c.requires.within c.requires.in_limit c.requires.readable (sym c.is_flat.ensures ∙ c.if-not-is_flat.false) c.if-not-are_right_forms.false

pub returns-clause-complete : goal.returns-clause-complete
returns-clause-complete c =
    complete c.args.module.now c.as_slice-forms.result.now c.as_slice-forms.ensures c.are_right_forms.result c.are_right_forms.ensures c.has_matching_names.result c.has_matching_names.ensures
