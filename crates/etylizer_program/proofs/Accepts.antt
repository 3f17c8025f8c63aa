-- The status 0 is that of an accepted text.
use Rattle.std.proofs.Common.{◌≡◌, ◌∙◌, ◌⊎◌, ℕ, List, Option, ap, subst, inl, inr, arith}
use Rattle.etylizer_program.specs.declared.report.Verdict.{Verdict}
use Rattle.etylizer_program.specs.declared.report.Verdict.TheVariants as V
use Rattle.tool_io.specs.Outside.{Holdings, Puts}
use Rattle.etylizer_program.specs.Report.{report_text}
use Rattle.etylizer_program.specs.Check.{IsSummary, function_count, spec_clause_count}
use Rattle.erl_tree.specs.declared.form.Module.{Module}
use Rattle.etylizer_program.specs.Tool.{IsCheckOf, HoldsSafeText, AcceptsSafeText, IsVerdictUnder, JudgesFile, Judges, BeginsFileReport, BreaksOff, verdict_status}

accepted_report : (m : Module) (name : List ℕ) (functions clauses : ℕ) → IsSummary m name functions clauses
    → report_text (V.Accepted name functions clauses) ≡ report_text (V.Accepted m.name (function_count m) (spec_clause_count m))
accepted_report m name functions clauses is =
    ap (λ n. report_text (V.Accepted n functions clauses)) is.named
    ∙ ap (λ n. report_text (V.Accepted m.name n clauses)) is.functions_counted
    ∙ ap (λ n. report_text (V.Accepted m.name (function_count m) n)) is.clauses_counted

holds_safe_text : (files : Holdings) (file : List ℕ) (before after : Option (List ℕ)) (verdict : Verdict) → verdict_status verdict ≡ 0
    → Puts before after (report_text verdict) → IsVerdictUnder files file verdict → HoldsSafeText files file before after
holds_safe_text files file before after (V.Accepted name functions clauses) status written under =
    record {
      text = under.text;
      held = under.held;
      safe = under.right.right.safe;
      flat = under.right.right.flat;
      meets = under.right.right.meets;
      written = subst (λ (text : List ℕ). Puts before after text) (accepted_report under.right.right.safe.tree name functions clauses under.right.right.summary) written;
    }
holds_safe_text files file before after (V.Failed name function arity clause place kind shown) status written under = absurd (omega arith)
holds_safe_text files file before after (V.NotText place words) status written under = absurd (omega arith)
holds_safe_text files file before after (V.NotUtf8 at) status written under = absurd (omega arith)
holds_safe_text files file before after V.TooLong status written under = absurd (omega arith)
holds_safe_text files file before after V.NotBuilt status written under = absurd (omega arith)
holds_safe_text files file before after V.Usage status written under = absurd (omega arith)

-- a file that is judged with status 0 holds a safe text
pub accepts_safe_text : (status : ℕ) (words : List (List ℕ)) (file : List ℕ) (held : Option Holdings) (before after : Option (List ℕ)) → status ≡ 0 → IsCheckOf words file
    → JudgesFile status file held before after → AcceptsSafeText words held before after
accepts_safe_text status words file held before after zero said judged =
    record {
      file = file;
      said = said;
      safe = λ files told. holds_safe_text files file before after judged.verdict (judged.status_is ∙ zero) judged.written (judged.right files told);
    }

-- the words name the file that is judged
pub judges : {status : ℕ} (words : List (List ℕ)) (file : List ℕ) {held : Option Holdings} {before after : Option (List ℕ)} → IsCheckOf words file
    → JudgesFile status file held before after → Judges status words held before after
judges words file said judged = record { file = file; said = said; judged = judged }

-- the words name the file on which a report is begun
pub breaks_off : (words : List (List ℕ)) (file : List ℕ) (held : Option Holdings) (before after : Option (List ℕ)) → IsCheckOf words file
    → (after ≡ before) ⊎ BeginsFileReport file held before after → BreaksOff words held before after
breaks_off words file held before after said (inl nothing) = inl nothing
breaks_off words file held before after said (inr begins) = inr (inr (record { file = file; said = said; begun = begins }))
