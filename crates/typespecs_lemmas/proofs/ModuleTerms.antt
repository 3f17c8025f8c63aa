-- A module in whose text nothing is wrong has specs.
use Rattle.std.proofs.Common.{◌≡◌, refl, ℕ, ◌+◌, List, [], ◌∷◌, length, inl, inr}
use Rattle.std.specs.Prelude.{true, is_some}
use Rattle.erl_tree.specs.declared.token.Node.{Node}
use Rattle.erl_tree.specs.declared.form.SpecKind.{SpecKind}
use Rattle.erl_tree.specs.declared.form.SpecClauseKind.{SpecClauseKind}
use Rattle.erl_tree.specs.declared.form.Module.{Module}
use Rattle.erl_tree.specs.Lists.{Among}
use Rattle.erl_runs.specs.Specs.{specs_in}
use Rattle.typespecs_rules.specs.declared.fault.PlacedFault.{PlacedFault}
use Rattle.typespecs_rules.specs.Declarations.{declarations_of}
use Rattle.typespecs_rules.specs.SpecTerms.{definitions, held_variables, clause_arrow, arrows_from, function_spec, function_specs, module_specs}
use Rattle.typespecs_rules.specs.TypeFaults.{IsTextFault}
use Rattle.typespecs_rules.proofs.RightTypes.{then-some, map-some}
use Rattle.typespecs_lemmas.proofs.AlikeTypes.{among-each}
use Rattle.typespecs_lemmas.proofs.TextFaults.{clause-is-right, no-cyclic-bound}
use Rattle.typespecs_lemmas.proofs.RightHere.{present-mapped}
use Rattle.typespecs_lemmas.proofs.Definitions.{record-has-tuple, defined}
use Rattle.typespecs_lemmas.proofs.NumberedArrows.{clause-arrow-there}

module _ (m : Module) (right : (f : PlacedFault) → IsTextFault m f → ⊥) where
  clause-there : (s : Node SpecKind) → Among s (specs_in m.forms) → (c : Node SpecClauseKind) → Among c s.kind.clauses → (first : ℕ) → is_some (clause_arrow (declarations_of m) first c.kind) ≡ true
  clause-there s a c i first = clause-arrow-there (declarations_of m) (record-has-tuple m right) c.kind
      (no-cyclic-bound m right c (among-each (λ (d : Node SpecKind). d.kind.clauses) s c (specs_in m.forms) a i))
      (λ t e. clause-is-right m right s a c i t e) first

  arrows-there : (cs : List (Node SpecClauseKind)) → ((c : Node SpecClauseKind) → Among c cs → (first : ℕ) → is_some (clause_arrow (declarations_of m) first c.kind) ≡ true) → (first : ℕ) → is_some (arrows_from (declarations_of m) first cs) ≡ true
  arrows-there [] h first = refl
  arrows-there (c ∷ cs) h first = then-some (clause_arrow (declarations_of m) first c.kind) _ (h c (inl refl) first)
      (λ a q. map-some _ (arrows_from (declarations_of m) (first + length (held_variables (declarations_of m) c.kind)) cs) (arrows-there cs (λ d i. h d (inr i)) (first + length (held_variables (declarations_of m) c.kind))))

  functions-there : is_some (function_specs (declarations_of m) (specs_in m.forms)) ≡ true
  functions-there = present-mapped (λ (s : Node SpecKind). function_spec (declarations_of m) s.kind) (specs_in m.forms)
      (λ s a. map-some _ (arrows_from (declarations_of m) 0 s.kind.clauses) (arrows-there s.kind.clauses (clause-there s a) 0))

  pub specs-there : is_some (module_specs m) ≡ true
  specs-there = then-some (definitions (declarations_of m)) _ (defined m right) (λ defs q. map-some _ (function_specs (declarations_of m) (specs_in m.forms)) functions-there)
