use Rattle.std.proofs.Common.{take}
use Rattle.typespecs_clauses.specs.Held.{Marks, holds_in_terms, holds_in_fields}
use Rattle.typespecs_clauses.proofs.held.+held.Given as goal

abbrev pub invariant-mark_in_terms-loop-term : goal.invariant-mark_in_terms-loop-term
invariant-mark_in_terms-loop-term l = Marks (λ n. holds_in_terms n (take l.term-index l.terms)) l.initial.marks l.marks

abbrev pub invariant-mark_in_fields-loop-field : goal.invariant-mark_in_fields-loop-field
invariant-mark_in_fields-loop-field l = Marks (λ n. holds_in_fields n (take l.field-index l.fields)) l.initial.marks l.marks
