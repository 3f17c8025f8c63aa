-- From a verdict on the bytes that were loaded to one on what is held.
use Rattle.std.proofs.Common.{◌≡◌, ◌∙◌, ◌⊎◌, ◌<◌, ◌+◌, ℕ, List, length, take, take_all, length-take-le, Option, Some, ap, sym, subst, inl, inr, arith}
use Rattle.std.proofs.lemmas.Bool.{cases_lt}
use Rattle.std.specs.Option.{ForSome}
use Rattle.etylizer_program.specs.declared.report.Verdict.{Verdict}
use Rattle.etylizer_program.specs.declared.report.Verdict.TheVariants as V
use Rattle.tool_io.specs.Outside.{Holdings, Loads}
use Rattle.text_reader.specs.Modules.{text_limit}
use Rattle.etylizer_program.specs.Check.{IsTextVerdict, IsRightVerdict}
use Rattle.etylizer_program.specs.Tool.{IsVerdictUnder, JudgesText, JudgesFile, BeginsTextReport, BeginsFileReport}

too_long_is_right : (content : List ℕ) (verdict : Verdict) → verdict ≡ V.TooLong → text_limit < length content → IsRightVerdict content verdict
too_long_is_right content verdict is long =
    record { right = subst (λ (v : Verdict). IsTextVerdict content v) (sym is) long; too_long = ((λ _. is), (λ _. long)) }

-- all was loaded, or what is held is too long
right_of_whole : (content loaded : List ℕ) (limit : ℕ) (verdict : Verdict) → limit ≡ text_limit → loaded ≡ take (limit + 1) content → IsRightVerdict loaded verdict → IsRightVerdict content verdict
right_of_whole content loaded limit verdict limit_is loaded_is right =
    elim (cases_lt limit (length content)) as (λ _. IsRightVerdict content verdict) [
      | inl long ↦
          let loaded_length : length loaded ≡ limit + 1 = ap length loaded_is ∙ length-take-le (limit + 1) content (omega arith) in
          too_long_is_right content verdict (right.too_long.0 (omega arith)) (omega arith)
      | inr short ↦
          let whole : loaded ≡ content = loaded_is ∙ take_all (limit + 1) content (omega arith) in
          subst (λ (xs : List ℕ). IsRightVerdict xs verdict) whole right
    ]

right_under : (files : Holdings) (name file loaded : List ℕ) (limit : ℕ) (verdict : Verdict) → limit ≡ text_limit → name ≡ file → Loads files name limit loaded → IsRightVerdict loaded verdict → IsVerdictUnder files file verdict
right_under files name file loaded limit verdict limit_is name_is loads right =
    record {
      text = loads.content;
      held = subst (λ (n : List ℕ). files n ≡ Some loads.content) name_is loads.held;
      right = right_of_whole loads.content loaded limit verdict limit_is loads.beginning right;
    }

-- a file is judged by what was loaded of it
pub file_judged : (status : ℕ) (name file loaded text : List ℕ) (limit : ℕ) (held : Option Holdings) (before after : Option (List ℕ))
    → limit ≡ text_limit → name ≡ file → text ≡ loaded → ForSome held (λ files. Loads files name limit loaded)
    → JudgesText status text before after → JudgesFile status file held before after
file_judged status name file loaded text limit held before after limit_is name_is text_is loads judged =
    record {
      verdict = judged.verdict;
      status_is = judged.status_is;
      written = judged.written;
      right = λ files told. right_under files name file loaded limit judged.verdict limit_is name_is (loads files told) (subst (λ (xs : List ℕ). IsRightVerdict xs judged.verdict) text_is judged.right);
    }

-- a report on what was loaded of a file is one on the file, begun as well
pub file_begun : (name file loaded text : List ℕ) (limit : ℕ) (held : Option Holdings) (before after : Option (List ℕ))
    → limit ≡ text_limit → name ≡ file → text ≡ loaded → ForSome held (λ files. Loads files name limit loaded)
    → (after ≡ before) ⊎ BeginsTextReport text before after → (after ≡ before) ⊎ BeginsFileReport file held before after
file_begun name file loaded text limit held before after limit_is name_is text_is loads (inl nothing) = inl nothing
file_begun name file loaded text limit held before after limit_is name_is text_is loads (inr begins) =
    inr (record {
      verdict = begins.verdict;
      proper = λ is. subst (λ (v : Verdict). IsTextVerdict text v) is begins.right.right;
      begun = begins.begun;
      right = λ files told. right_under files name file loaded limit begins.verdict limit_is name_is (loads files told) (subst (λ (xs : List ℕ). IsRightVerdict xs begins.verdict) text_is begins.right);
    })
