-- The one text is safe, and the other isn't.
use Rattle.std.proofs.Common.{◌≡◌, subst, sym}
use Rattle.typespecs_rules.specs.declared.specs.Specs.{Specs}
use Rattle.erl_tree.specs.declared.form.Module.{Module}
use Rattle.erl_runs.specs.Safety.{IsSafe}
use Rattle.erl_parser.proofs.TextLaws.{one_module}
use Rattle.text_reader_rules.specs.Readable.{IsReadable}
use Rattle.text_reader_rules.specs.SafeTexts.{IsSafeText}
use Rattle.examples_texts.specs.SmallTexts.{text_that_keeps, text_that_breaks, module_that_keeps, module_that_breaks}
use Rattle.examples_texts.proofs.TextsSpelled.{keeps_is_spelled, breaks_is_spelled}
use Rattle.examples_texts.proofs.TextsReadable.{keeps-readable, its-functions}
use Rattle.examples_texts.proofs.TextsRun.{keeps-safe, breaks-not-safe}

pub keeps : IsSafeText text_that_keeps
keeps = record {
  tree = module_that_keeps;
  spelled = keeps_is_spelled;
  only = λ other s. one_module text_that_keeps other module_that_keeps s keeps_is_spelled;
  readable = keeps-readable;
  safe = subst (λ (s : Specs). IsSafe module_that_keeps s.functions s.defs) (its-functions _ keeps-readable) keeps-safe;
}

-- any tree that the text spells is that of the text, whose specs are one
breaks-at : (m : Module) → m ≡ module_that_breaks → (r : IsReadable m) → IsSafe m r.specs.functions r.specs.defs → ⊥
breaks-at m e = subst (λ (n : Module). (r : IsReadable n) → IsSafe n r.specs.functions r.specs.defs → ⊥) (sym e)
    (λ r h. breaks-not-safe (subst (λ (s : Specs). IsSafe module_that_breaks s.functions s.defs) (sym (its-functions _ r)) h))

pub breaks : IsSafeText text_that_breaks → ⊥
breaks h = breaks-at h.tree (one_module text_that_breaks h.tree module_that_breaks h.spelled breaks_is_spelled) h.readable h.safe
