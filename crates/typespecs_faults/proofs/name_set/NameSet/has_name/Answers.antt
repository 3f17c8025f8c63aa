use Rattle.std.proofs.Common.{◌||◌, ap, sym, ◌∙◌}
use Rattle.type_terms.specs.Keys.{Name}
use Rattle.typespecs_rules.specs.TypeFaults.{stands_among}
use Rattle.typespecs_faults.specs.NameSets.{names_in}
use Rattle.typespecs_faults.proofs.NameSetLaws.{under-any}
use Rattle.typespecs_faults.proofs.name_set.NameSet.has_name.Goals as goal

pub returns : goal.returns
returns c =
    c.contains.ensures ∙ (under-any c.as_slice.result.now c.args.self.now.names.keys ∙ (ap (λ (n : Name). stands_among n (names_in c.args.self.now.names.keys)) c.as_slice.ensures ∙ sym (ap (λ b. b || stands_among c.args.name.now (names_in c.args.self.now.names.keys)) c.if-self.false)))
