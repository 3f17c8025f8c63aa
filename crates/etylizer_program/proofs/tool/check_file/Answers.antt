use Rattle.std.proofs.Common.{refl}
use Rattle.etylizer_program.proofs.Loaded.{file_judged, file_begun}
use Rattle.etylizer_program.proofs.tool.check_file.Goals as goal

pub returns-in-Ok-load-clause-judged : goal.returns-in-Ok-load-clause-judged
returns-in-Ok-load-clause-judged g c = λ small.
    file_judged c.judge_text.result c.in-Ok.name c.args.file.now c.in-Ok-load.text c.as_slice.result.now 1048576 (g.F.Files.held c.args.files.now) (g.O.Sink.written c.args.out.now) (g.O.Sink.written c.judge_text.new.out)
    refl c.in-Ok.ensures c.as_slice.ensures c.in-Ok-load.ensures.loaded (c.judge_text.ensures.judged small)

pub returns-in-Ok-load-clause-beginning : goal.returns-in-Ok-load-clause-beginning
returns-in-Ok-load-clause-beginning g c = λ late.
    file_begun c.in-Ok.name c.args.file.now c.in-Ok-load.text c.as_slice.result.now 1048576 (g.F.Files.held c.args.files.now) (g.O.Sink.written c.args.out.now) (g.O.Sink.written c.judge_text.new.out)
    refl c.in-Ok.ensures c.as_slice.ensures c.in-Ok-load.ensures.loaded (c.judge_text.ensures.beginning late)
