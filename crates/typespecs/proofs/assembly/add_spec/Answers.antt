use Rattle.typespecs.proofs.Declared.{spec-acyclic}
use Rattle.typespecs.proofs.assembly.add_spec.Goals as goal

pub read_spec-requires : goal.read_spec-requires
read_spec-requires c = spec-acyclic c.args.form.now c.in-Spec.spec c.get-spec.result.now c.in-Spec.is c.get-spec.ensures c.requires
