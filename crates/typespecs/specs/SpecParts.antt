-- What is read of a module before its definitions are looked at together.
use Rattle.std.specs.Prelude.{◌≡◌, Some}
use Rattle.erl_tree.specs.declared.form.Module.{Module}
use Rattle.typespecs_rules.specs.SpecTerms.{module_specs}
use Rattle.typespecs_rules.specs.declared.specs.Specs.{Specs}
use Rattle.typespecs.specs.declared.assembly.SpecParts.{SpecParts}

-- the same, with the definitions as a plain list
abbrev pub specs_of_parts : SpecParts → Specs
specs_of_parts p = record { defs = p.defs; types = p.types; functions = p.functions; records = p.records }

-- these are a module's
abbrev pub ArePartsOf : Module → SpecParts → Type 0
ArePartsOf m p = module_specs m ≡ Some (specs_of_parts p)
