use Rattle.std.proofs.Common.{◌∙◌, ap, subst, sym}
use Rattle.erl_runs.specs.Specs.{specs_in}
use Rattle.typespecs_rules.specs.Declarations.{declarations_of}
use Rattle.typespecs_rules.specs.SpecTerms.{function_specs}
use Rattle.typespecs_lemmas.proofs.TextFaults.{no-infinite-record}
use Rattle.typespecs.specs.CyclicBounds.{HaveNoCyclicBound}
use Rattle.typespecs.proofs.Terms.{no-cyclic, definitions-some, functions-some, there-as}
use Rattle.typespecs.proofs.assembly.read_parts.Goals as goal

pub record_tuples-requires-clause-finite : goal.record_tuples-requires-clause-finite
record_tuples-requires-clause-finite c = no-infinite-record c.args.module.now c.requires.no_fault

pub function_specs-requires : goal.function_specs-requires
function_specs-requires c = subst HaveNoCyclicBound (sym c.as_slice.ensures) (no-cyclic c.args.module.now c.requires.no_fault)

pub unwrap-requires : goal.unwrap-requires
unwrap-requires c = there-as c.in_ok-defs.ensures (definitions-some c.args.module.now c.requires.no_fault)

pub unwrap-requires-2 : goal.unwrap-requires-2
unwrap-requires-2 c =
    there-as (c.in_ok-functions.ensures (declarations_of c.args.module.now) (record { numbers = c.requires.numbers; tuples = c.in_ok-tuples.ensures }) ∙ ap (λ fs. function_specs (declarations_of c.args.module.now) (specs_in fs)) c.as_slice.ensures)
    (functions-some c.args.module.now c.requires.no_fault)
