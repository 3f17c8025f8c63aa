use Rattle.std.proofs.Common.{arith, string_bytes, map, sym}
use Rattle.etylizer_program.proofs.Said.{check_said}
use Rattle.etylizer_program.proofs.Accepts.{accepts_safe_text, judges, breaks_off}
use Rattle.etylizer_program.proofs.Completes.{completes, refuses, refuses_names, refuses_specs, not_yet, is_command}
use Rattle.etylizer_program.proofs.tool.run_tool.Goals as goal

pub returns-in-Some-Check-clause-accepted : goal.returns-in-Some-Check-clause-accepted
returns-in-Some-Check-clause-accepted g c = λ is.
    accepts_safe_text c.check_file.result (map string_bytes c.args.words.now.items) c.as_bytes.result.now (g.F.Files.held c.args.files.now) (g.O.Sink.written c.args.out.now) (g.O.Sink.written c.check_file.new.out) is
    (check_said string_bytes c.args.words.now.items c.index.result.now c.as_bytes.result.now c.in-Some-Check.field-0 c.index.ensures c.as_bytes.ensures.value c.in-Some-Check.ensures)
    (c.check_file.ensures.judged (omega arith))

pub returns-in-Some-Check-clause-judged : goal.returns-in-Some-Check-clause-judged
returns-in-Some-Check-clause-judged g c = λ small not_usage.
    judges (map string_bytes c.args.words.now.items) c.as_bytes.result.now
    (check_said string_bytes c.args.words.now.items c.index.result.now c.as_bytes.result.now c.in-Some-Check.field-0 c.index.ensures c.as_bytes.ensures.value c.in-Some-Check.ensures)
    (c.check_file.ensures.judged small)

pub returns-in-Some-Check-clause-steady_files : goal.returns-in-Some-Check-clause-steady_files
returns-in-Some-Check-clause-steady_files g c = λ sure named.
    c.check_file.ensures.steady_files sure (named c.as_bytes.result.now
    (check_said string_bytes c.args.words.now.items c.index.result.now c.as_bytes.result.now c.in-Some-Check.field-0 c.index.ensures c.as_bytes.ensures.value c.in-Some-Check.ensures))

pub returns-in-Some-Check-clause-beginning : goal.returns-in-Some-Check-clause-beginning
returns-in-Some-Check-clause-beginning g c = λ late.
    breaks_off (map string_bytes c.args.words.now.items) c.as_bytes.result.now (g.F.Files.held c.args.files.now) (g.O.Sink.written c.args.out.now) (g.O.Sink.written c.check_file.new.out)
    (check_said string_bytes c.args.words.now.items c.index.result.now c.as_bytes.result.now c.in-Some-Check.field-0 c.index.ensures c.as_bytes.ensures.value c.in-Some-Check.ensures)
    (c.check_file.ensures.beginning late)

pub returns-in-Some-Check-clause-complete : goal.returns-in-Some-Check-clause-complete
returns-in-Some-Check-clause-complete g c = λ right files_steady sink_steady.
    completes c.check_file.result (map string_bytes c.args.words.now.items) (g.F.Files.held c.args.files.now) (g.O.Sink.written c.args.out.now) (g.O.Sink.written c.check_file.new.out) right
    c.check_file.ensures.status (λ e. files_steady (c.check_file.ensures.read_fault e)) (λ e. sink_steady (c.check_file.ensures.write_fault e)) c.check_file.ensures.no_usage
    (λ small not_usage. judges (map string_bytes c.args.words.now.items) c.as_bytes.result.now
    (check_said string_bytes c.args.words.now.items c.index.result.now c.as_bytes.result.now c.in-Some-Check.field-0 c.index.ensures c.as_bytes.ensures.value c.in-Some-Check.ensures)
    (c.check_file.ensures.judged small))

pub returns-in-Some-Check-clause-no_module : goal.returns-in-Some-Check-clause-no_module
returns-in-Some-Check-clause-no_module g c = λ none files_steady sink_steady.
    refuses c.check_file.result (map string_bytes c.args.words.now.items) (g.F.Files.held c.args.files.now) (g.O.Sink.written c.args.out.now) (g.O.Sink.written c.check_file.new.out) none
    c.check_file.ensures.status (λ e. files_steady (c.check_file.ensures.read_fault e)) (λ e. sink_steady (c.check_file.ensures.write_fault e)) c.check_file.ensures.no_usage
    (λ small not_usage. judges (map string_bytes c.args.words.now.items) c.as_bytes.result.now
    (check_said string_bytes c.args.words.now.items c.index.result.now c.as_bytes.result.now c.in-Some-Check.field-0 c.index.ensures c.as_bytes.ensures.value c.in-Some-Check.ensures)
    (c.check_file.ensures.judged small))

pub returns-in-Some-Check-clause-not_built : goal.returns-in-Some-Check-clause-not_built
returns-in-Some-Check-clause-not_built g c = λ none files_steady sink_steady.
    not_yet c.check_file.result (map string_bytes c.args.words.now.items) (g.F.Files.held c.args.files.now) (g.O.Sink.written c.args.out.now) (g.O.Sink.written c.check_file.new.out) none
    c.check_file.ensures.status (λ e. files_steady (c.check_file.ensures.read_fault e)) (λ e. sink_steady (c.check_file.ensures.write_fault e)) c.check_file.ensures.no_usage
    (λ small not_usage. judges (map string_bytes c.args.words.now.items) c.as_bytes.result.now
    (check_said string_bytes c.args.words.now.items c.index.result.now c.as_bytes.result.now c.in-Some-Check.field-0 c.index.ensures c.as_bytes.ensures.value c.in-Some-Check.ensures)
    (c.check_file.ensures.judged small))

pub returns-in-None-clause-complete : goal.returns-in-None-clause-complete
returns-in-None-clause-complete g c = λ right files_steady sink_steady. absurd (is_command (map string_bytes c.args.words.now.items) (g.F.Files.held c.args.files.now) right.text right.named (sym c.in-None.ensures))

pub returns-in-None-clause-no_module : goal.returns-in-None-clause-no_module
returns-in-None-clause-no_module g c = λ none files_steady sink_steady. absurd (is_command (map string_bytes c.args.words.now.items) (g.F.Files.held c.args.files.now) none.text none.named (sym c.in-None.ensures))

pub returns-in-None-clause-not_built : goal.returns-in-None-clause-not_built
returns-in-None-clause-not_built g c = λ none files_steady sink_steady. absurd (is_command (map string_bytes c.args.words.now.items) (g.F.Files.held c.args.files.now) none.text none.named (sym c.in-None.ensures))

pub returns-in-Some-Check-clause-wrong_names : goal.returns-in-Some-Check-clause-wrong_names
returns-in-Some-Check-clause-wrong_names g c = λ fault wrong files_steady sink_steady.
    refuses_names c.check_file.result (map string_bytes c.args.words.now.items) (g.F.Files.held c.args.files.now) (g.O.Sink.written c.args.out.now) (g.O.Sink.written c.check_file.new.out) fault wrong
    c.check_file.ensures.status (λ e. files_steady (c.check_file.ensures.read_fault e)) (λ e. sink_steady (c.check_file.ensures.write_fault e)) c.check_file.ensures.no_usage
    (λ small not_usage. judges (map string_bytes c.args.words.now.items) c.as_bytes.result.now
    (check_said string_bytes c.args.words.now.items c.index.result.now c.as_bytes.result.now c.in-Some-Check.field-0 c.index.ensures c.as_bytes.ensures.value c.in-Some-Check.ensures)
    (c.check_file.ensures.judged small))

pub returns-in-None-clause-wrong_names : goal.returns-in-None-clause-wrong_names
returns-in-None-clause-wrong_names g c = λ fault wrong files_steady sink_steady. absurd (is_command (map string_bytes c.args.words.now.items) (g.F.Files.held c.args.files.now) wrong.text wrong.named (sym c.in-None.ensures))

pub returns-in-Some-Check-clause-wrong_specs : goal.returns-in-Some-Check-clause-wrong_specs
returns-in-Some-Check-clause-wrong_specs g c = λ fault wrong files_steady sink_steady.
    refuses_specs c.check_file.result (map string_bytes c.args.words.now.items) (g.F.Files.held c.args.files.now) (g.O.Sink.written c.args.out.now) (g.O.Sink.written c.check_file.new.out) fault wrong
    c.check_file.ensures.status (λ e. files_steady (c.check_file.ensures.read_fault e)) (λ e. sink_steady (c.check_file.ensures.write_fault e)) c.check_file.ensures.no_usage
    (λ small not_usage. judges (map string_bytes c.args.words.now.items) c.as_bytes.result.now
    (check_said string_bytes c.args.words.now.items c.index.result.now c.as_bytes.result.now c.in-Some-Check.field-0 c.index.ensures c.as_bytes.ensures.value c.in-Some-Check.ensures)
    (c.check_file.ensures.judged small))

pub returns-in-None-clause-wrong_specs : goal.returns-in-None-clause-wrong_specs
returns-in-None-clause-wrong_specs g c = λ fault wrong files_steady sink_steady. absurd (is_command (map string_bytes c.args.words.now.items) (g.F.Files.held c.args.files.now) wrong.text wrong.named (sym c.in-None.ensures))
