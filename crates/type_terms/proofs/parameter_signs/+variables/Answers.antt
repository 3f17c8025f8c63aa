use Rattle.std.proofs.Common.{arith, refl, subst, ap, ◌∙◌}
use Rattle.std.specs.Prelude.{slice_get}
use Rattle.type_terms.specs.declared.sign_search.Signs.{Signs}
use Rattle.type_terms.specs.declared.sign_search.Sought.TheVariants.{Variable}
use Rattle.type_terms.specs.declared.term.Field.{Field}
use Rattle.type_terms.specs.declared.term.Term.{Term}
use Rattle.type_terms.specs.SignTables.{AddsSigns, through, variable_signs, signs_in}
use Rattle.type_terms.proofs.SignAdding.{adds-cons, adds-map, adds-fun, adds-not, adds-var, adds-name, adds-parts, terms-step, fields-step, arguments-step}
use Rattle.type_terms.proofs.parameter_signs.+variables.Goals as goal

pub add_in_terms-loop-term-preserved : goal.add_in_terms-loop-term-preserved
add_in_terms-loop-term-preserved t c =
    terms-step c.args.table.now c.args.around c.args.terms.now c.loop-term.term-index c.term-item.result c.args.found.now c.loop-term.found c.add_variables.new.found (omega arith) c.loop-term.invariant
    (subst (λ (x : Term). AddsSigns c.args.around (λ i. signs_in c.args.table.now (Variable i) x) c.loop-term.found c.add_variables.new.found) c.term-item.is (c.in_ok-add_variables.ensures))

pub add_in_fields-loop-field-preserved : goal.add_in_fields-loop-field-preserved
add_in_fields-loop-field-preserved t c =
    fields-step c.args.table.now c.args.around c.args.fields.now c.loop-field.field-index c.field-item.result c.args.found.now c.loop-field.found c.add_variables.new.found (omega arith) c.loop-field.invariant
    (subst (λ (x : Field). AddsSigns c.args.around (λ i. signs_in c.args.table.now (Variable i) x.term) c.loop-field.found c.add_variables.new.found) c.field-item.is (c.in_ok-add_variables.ensures))

pub add_in_arguments-loop-at-preserved : goal.add_in_arguments-loop-at-preserved
add_in_arguments-loop-at-preserved t c =
    arguments-step c.args.table.now c.args.around c.args.number c.args.arguments.now c.loop-at.at c.index-arguments-at.result c.args.found.now c.loop-at.found c.add_variables.new.found (omega arith) c.loop-at.invariant
    (subst (λ (x : Term). AddsSigns (through c.args.around (variable_signs (slice_get c.args.table.now c.args.number) c.loop-at.at)) (λ i. signs_in c.args.table.now (Variable i) x) c.loop-at.found c.add_variables.new.found) c.index-arguments-at.is
    (subst (λ (s : Signs). AddsSigns s (λ i. signs_in c.args.table.now (Variable i) c.index-arguments-at.result) c.loop-at.found c.add_variables.new.found) (c.through-inside.ensures ∙ ap (through c.args.around) c.signs_of_parameter.ensures) (c.in_ok-add_variables.ensures)))

pub add_variables-returns-in_ok-add_variables-in-Cons : goal.add_variables-returns-in_ok-add_variables-in-Cons
add_variables-returns-in_ok-add_variables-in-Cons t c =
    adds-cons c.add_variables-in-Cons.result c.args.table.now c.args.around c.args.term.now c.in-Cons.head c.in-Cons.tail c.get.result.now c.get-in-Cons.result.now c.args.found.now c.add_variables.new.found c.add_variables-in-Cons.new.found
    c.in-Cons.is c.get.ensures c.get-in-Cons.ensures (c.in_ok-add_variables-in-Cons.ensures) c.add_variables-in-Cons.ensures

pub add_variables-returns-in_ok-add_in_rest-in-Map : goal.add_variables-returns-in_ok-add_in_rest-in-Map
add_variables-returns-in_ok-add_in_rest-in-Map t c =
    adds-map c.add_in_rest-in-Map.result c.args.table.now c.args.around c.args.term.now c.in-Map.fields c.as_slice.result.now c.in-Map.rest_int c.in-Map.rest_atom c.in-Map.rest_int c.in-Map.rest_atom c.args.found.now c.add_in_fields.new.found c.add_in_rest.new.found c.add_in_rest-in-Map.new.found
    c.in-Map.is c.as_slice.ensures refl refl (c.in_ok-add_in_fields-in-Map.ensures) (c.in_ok-add_in_rest-in-Map.ensures) c.add_in_rest-in-Map.ensures

pub add_variables-returns-in_ok-add_in_terms-in-Fun : goal.add_variables-returns-in_ok-add_in_terms-in-Fun
add_variables-returns-in_ok-add_in_terms-in-Fun t c =
    adds-fun c.add_variables-in-Fun.result c.args.table.now c.args.around c.args.term.now c.in-Fun.params c.as_slice-in-Fun.result.now c.in-Fun.given c.get-in-Fun.result.now c.args.found.now c.add_in_terms.new.found c.add_variables-in-Fun.new.found
    c.in-Fun.is c.as_slice-in-Fun.ensures c.get-in-Fun.ensures (c.in_ok-add_in_terms-in-Fun.ensures) c.add_variables-in-Fun.ensures

pub add_variables-returns-in-Not : goal.add_variables-returns-in-Not
add_variables-returns-in-Not t c =
    adds-not c.add_variables-in-Not.result c.args.table.now c.args.around c.args.term.now c.in-Not.negated c.get-in-Not.result.now c.flipped.result c.args.found.now c.add_variables-in-Not.new.found c.in-Not.is c.get-in-Not.ensures c.flipped.ensures c.add_variables-in-Not.ensures

pub add_variables-returns-in-Var : goal.add_variables-returns-in-Var
add_variables-returns-in-Var t c = adds-var c.add_at.result c.args.table.now c.args.around c.args.term.now c.in-Var.number c.args.found.now c.add_at.new.found c.in-Var.is c.add_at.ensures.here c.add_at.ensures.elsewhere

pub add_variables-returns-in-Name : goal.add_variables-returns-in-Name
add_variables-returns-in-Name t c = adds-name c.add_in_arguments.result c.args.table.now c.args.around c.args.term.now c.in-Name.number c.in-Name.arguments c.as_slice-in-Name.result.now c.args.found.now c.add_in_arguments.new.found c.in-Name.is c.as_slice-in-Name.ensures c.add_in_arguments.ensures

pub add_variables-returns-in-Tuple : goal.add_variables-returns-in-Tuple
add_variables-returns-in-Tuple t c = adds-parts c.add_in_terms-in-Tuple.result c.args.table.now c.args.around c.args.term.now c.in-Tuple.parts c.as_slice-in-Tuple.result.now c.args.found.now c.add_in_terms-in-Tuple.new.found c.in-Tuple.is c.as_slice-in-Tuple.ensures c.add_in_terms-in-Tuple.ensures
