use Rattle.std.proofs.Common.{arith, subst}
use Rattle.type_terms.specs.declared.term.Field.{Field}
use Rattle.type_terms.specs.declared.term.Term.{Term}
use Rattle.typespecs_rules.specs.SpecTerms.{holds_variable}
use Rattle.typespecs_clauses.specs.Held.{Marks}
use Rattle.typespecs_clauses.proofs.HeldLaws.{marks-cons, marks-map, marks-fun, marks-not, marks-var, marks-name, marks-parts, terms-step, fields-step}
use Rattle.typespecs_clauses.proofs.held.+held.Goals as goal

pub mark_in_terms-loop-term-preserved : goal.mark_in_terms-loop-term-preserved
mark_in_terms-loop-term-preserved t c =
    terms-step c.args.terms.now c.loop-term.term-index c.term-item.result c.args.marks.now c.loop-term.marks c.mark_held.new.marks (omega arith) c.loop-term.invariant
    (subst (λ (x : Term). Marks (λ n. holds_variable n x) c.loop-term.marks c.mark_held.new.marks) c.term-item.is c.in_ok-mark_held.ensures)

pub mark_in_fields-loop-field-preserved : goal.mark_in_fields-loop-field-preserved
mark_in_fields-loop-field-preserved t c =
    fields-step c.args.fields.now c.loop-field.field-index c.field-item.result c.args.marks.now c.loop-field.marks c.mark_held.new.marks (omega arith) c.loop-field.invariant
    (subst (λ (x : Field). Marks (λ n. holds_variable n x.term) c.loop-field.marks c.mark_held.new.marks) c.field-item.is c.in_ok-mark_held.ensures)

pub mark_held-returns-in_ok-mark_held-in-Cons : goal.mark_held-returns-in_ok-mark_held-in-Cons
mark_held-returns-in_ok-mark_held-in-Cons t c =
    marks-cons c.mark_held-in-Cons.result c.args.term.now c.in-Cons.head c.in-Cons.tail c.get.result.now c.get-in-Cons.result.now c.args.marks.now c.mark_held.new.marks c.mark_held-in-Cons.new.marks
    c.in-Cons.is c.get.ensures c.get-in-Cons.ensures c.in_ok-mark_held-in-Cons.ensures c.mark_held-in-Cons.ensures

pub mark_held-returns-in_ok-mark_in_rest-in-Map : goal.mark_held-returns-in_ok-mark_in_rest-in-Map
mark_held-returns-in_ok-mark_in_rest-in-Map t c =
    marks-map c.mark_in_rest-in-Map.result c.args.term.now c.in-Map.fields c.as_slice.result.now c.in-Map.rest_int c.in-Map.rest_atom c.args.marks.now c.mark_in_fields.new.marks c.mark_in_rest.new.marks c.mark_in_rest-in-Map.new.marks
    c.in-Map.is c.as_slice.ensures c.in_ok-mark_in_fields-in-Map.ensures c.in_ok-mark_in_rest-in-Map.ensures c.mark_in_rest-in-Map.ensures

pub mark_held-returns-in_ok-mark_in_terms-in-Fun : goal.mark_held-returns-in_ok-mark_in_terms-in-Fun
mark_held-returns-in_ok-mark_in_terms-in-Fun t c =
    marks-fun c.mark_held-in-Fun.result c.args.term.now c.in-Fun.params c.as_slice-in-Fun.result.now c.in-Fun.given c.get-in-Fun.result.now c.args.marks.now c.mark_in_terms.new.marks c.mark_held-in-Fun.new.marks
    c.in-Fun.is c.as_slice-in-Fun.ensures c.get-in-Fun.ensures c.in_ok-mark_in_terms-in-Fun.ensures c.mark_held-in-Fun.ensures

pub mark_held-returns-in-Not : goal.mark_held-returns-in-Not
mark_held-returns-in-Not t c =
    marks-not c.mark_held-in-Not.result c.args.term.now c.in-Not.negated c.get-in-Not.result.now c.args.marks.now c.mark_held-in-Not.new.marks c.in-Not.is c.get-in-Not.ensures c.mark_held-in-Not.ensures

pub mark_held-returns-in-Var : goal.mark_held-returns-in-Var
mark_held-returns-in-Var t c = marks-var c.mark_at.result c.args.term.now c.in-Var.number c.args.marks.now c.mark_at.new.marks c.in-Var.is c.mark_at.ensures.here c.mark_at.ensures.elsewhere

pub mark_held-returns-in-Name : goal.mark_held-returns-in-Name
mark_held-returns-in-Name t c = marks-name c.mark_in_terms-in-Name.result c.args.term.now c.in-Name.field-0 c.in-Name.arguments c.as_slice-in-Name.result.now c.args.marks.now c.mark_in_terms-in-Name.new.marks c.in-Name.is c.as_slice-in-Name.ensures c.mark_in_terms-in-Name.ensures

pub mark_held-returns-in-Tuple : goal.mark_held-returns-in-Tuple
mark_held-returns-in-Tuple t c = marks-parts c.mark_in_terms-in-Tuple.result c.args.term.now c.in-Tuple.parts c.as_slice-in-Tuple.result.now c.args.marks.now c.mark_in_terms-in-Tuple.new.marks c.in-Tuple.is c.as_slice-in-Tuple.ensures c.mark_in_terms-in-Tuple.ensures
