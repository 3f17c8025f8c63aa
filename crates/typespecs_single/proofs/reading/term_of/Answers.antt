use Rattle.std.proofs.Common.{◌∙◌, sym, subst, Option}
use Rattle.std.specs.Prelude.{IfSome}
use Rattle.std.proofs.lemmas.Result.{err_from_is_err_and}
use Rattle.typespecs_rules.specs.declared.fault.PlacedFault.{PlacedFault}
use Rattle.typespecs_rules.specs.Declarations.{declarations_of}
use Rattle.typespecs_rules.specs.TypeFaults.{IsFirstTypeFault, any_variable, type_faults}
use Rattle.typespecs_terms.specs.Tables.{terms_in, tuples_in}
use Rattle.typespecs_faults.proofs.EarliestLaws.{earliest-none}
use Rattle.typespecs_single.proofs.TermsBehind.{its-term, there, first-fault}
use Rattle.typespecs_single.proofs.reading.term_of.Goals as goal

pub returns-in-Some-clause-fault : goal.returns-in-Some-clause-fault
returns-in-Some-clause-fault c = λ m are.
    subst (λ (o : Option PlacedFault). IfSome o (IsFirstTypeFault (declarations_of m) c.args.ty.now)) (sym c.answer_for.ensures)
    (first-fault (declarations_of m) c.args.ty.now c.in_ok-first.field-0 c.in-Some.first (c.in_ok-first.ensures m are (c.in_ok-numbers.ensures m are)) c.in-Some.is)

pub returns-in_err-term-clause-fault : goal.returns-in_err-term-clause-fault
returns-in_err-term-clause-fault c = let p = err_from_is_err_and c.from_residual-in_err-term.result c.from_residual-in_err-term.ensures.1 in rw (p.1, p.2) (λ m are. tt)

pub returns-in_err-term-clause-unchanged : goal.returns-in_err-term-clause-unchanged
returns-in_err-term-clause-unchanged c = let p = err_from_is_err_and c.from_residual-in_err-term.result c.from_residual-in_err-term.ensures.1 in rw (p.1, p.2) (λ m are. tt)

pub returns-in-Some-2-clause-term : goal.returns-in-Some-2-clause-term
returns-in-Some-2-clause-term c = λ m are.
    let known = c.in_ok-numbers.ensures m are in
    its-term m _ are c.args.vars.now c.args.ty.now c.in_ok-term.field-0 (tuples_in c.in_ok-tuples.tuples) (terms_in c.in_ok-variables.variables) c.as_slice.result.now (c.in_ok-term.ensures (declarations_of m) known) (c.in_ok-tuples.ensures m are) c.in_ok-variables.ensures
    (c.as_slice.ensures ∙ c.in_ok-add_variables.ensures.added)
    ∙ c.in-Some-2.is

pub returns-in-Some-2-clause-right : goal.returns-in-Some-2-clause-right
returns-in-Some-2-clause-right c = λ m are.
    earliest-none (type_faults (declarations_of m) any_variable c.args.ty.now) (sym (c.in_ok-first.ensures m are (c.in_ok-numbers.ensures m are)) ∙ c.in_default.is)

-- specs that a module has leave no right type without a term
pub returns-clause-fault : goal.returns-clause-fault
returns-clause-fault c = λ m are.
    let known = c.in_ok-numbers.ensures m are in
    absurd (there m _ are c.args.vars.now c.args.ty.now c.in_ok-term.field-0 (tuples_in c.in_ok-tuples.tuples) (terms_in c.in_ok-variables.variables) c.as_slice.result.now (c.in_ok-term.ensures (declarations_of m) known) (c.in_ok-tuples.ensures m are) c.in_ok-variables.ensures
    (c.as_slice.ensures ∙ c.in_ok-add_variables.ensures.added)
    (earliest-none (type_faults (declarations_of m) any_variable c.args.ty.now) (sym (c.in_ok-first.ensures m are known) ∙ c.in_default.is)) c.in-None.is)

pub returns-clause-unchanged : goal.returns-clause-unchanged
returns-clause-unchanged c = λ m are.
    let known = c.in_ok-numbers.ensures m are in
    absurd (there m _ are c.args.vars.now c.args.ty.now c.in_ok-term.field-0 (tuples_in c.in_ok-tuples.tuples) (terms_in c.in_ok-variables.variables) c.as_slice.result.now (c.in_ok-term.ensures (declarations_of m) known) (c.in_ok-tuples.ensures m are) c.in_ok-variables.ensures
    (c.as_slice.ensures ∙ c.in_ok-add_variables.ensures.added)
    (earliest-none (type_faults (declarations_of m) any_variable c.args.ty.now) (sym (c.in_ok-first.ensures m are known) ∙ c.in_default.is)) c.in-None.is)
