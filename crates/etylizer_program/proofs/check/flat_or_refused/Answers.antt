use Rattle.std.proofs.Common.{◌≡◌, Bool, false, true, rules}
use Rattle.text_reader.specs.Modules.{is_readable}
use Rattle.text_reader.proofs.Parsed.{limits}
use Rattle.etylizer_program.proofs.Verdicts.{read_with}
use Rattle.etylizer_program.proofs.check.flat_or_refused.Goals as goal

never : (b : Bool) → b ≡ false → b ≡ true → ⊥
never b f t = cc

pub is_flat_module-requires-clause-in_limit : goal.is_flat_module-requires-clause-in_limit
is_flat_module-requires-clause-in_limit c = limits c.args.text.now c.args.read.tree c.requires.parsed.lexed

pub is_flat_module-requires-clause-readable : goal.is_flat_module-requires-clause-readable
is_flat_module-requires-clause-readable c = is_readable c.args.text.now c.args.read.tree c.args.read.scopes c.args.read.specs c.requires

pub returns-in-Ok-true-clause-read : goal.returns-in-Ok-true-clause-read
returns-in-Ok-true-clause-read c = read_with c.args.text.now c.args.read c.requires (c.in-Ok-true.ensures.sound (search rules))

pub returns-in-Ok-false-clause-refused : goal.returns-in-Ok-false-clause-refused
returns-in-Ok-false-clause-refused c =
    record {
      tree = c.args.read.tree;
      parsed = c.requires.parsed;
      readable = is_readable c.args.text.now c.args.read.tree c.args.read.scopes c.args.read.specs c.requires;
      not_flat = λ flat. never c.in-Ok-false.field-0 c.in-Ok-false.field-0-test (c.in-Ok-false.ensures.complete flat);
    }
