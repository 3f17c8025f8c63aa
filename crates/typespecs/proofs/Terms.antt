-- What there is of a module in whose text nothing is wrong.
use Rattle.std.proofs.Common.{◌≡◌, ◌∙◌, List, [], ◌∷◌, refl, ap, subst, Option, Some, None, true, inl, inr}
use Rattle.std.specs.Prelude.{is_some}
use Rattle.std.specs.Option.{option_map, IsSome}
use Rattle.type_terms.specs.declared.term.Def.{Def}
use Rattle.type_terms.specs.declared.spec.FunSpec.{FunSpec}
use Rattle.erl_tree.specs.declared.token.Node.{Node}
use Rattle.erl_tree.specs.declared.form.SpecKind.{SpecKind}
use Rattle.erl_tree.specs.declared.form.Module.{Module}
use Rattle.erl_tree.specs.Lists.{Among}
use Rattle.erl_runs.specs.Specs.{and_then, specs_in}
use Rattle.typespecs_rules.specs.declared.specs.Specs.{Specs}
use Rattle.typespecs_rules.specs.Declarations.{declarations_of}
use Rattle.typespecs_rules.specs.TypeParts.{from_each}
use Rattle.typespecs_rules.specs.SpecTerms.{definitions, function_specs, type_names, record_specs}
use Rattle.typespecs_lemmas.proofs.TextFaults.{no-cyclic-bound}
use Rattle.typespecs_lemmas.proofs.ModuleTerms.{specs-there}
use Rattle.typespecs.specs.CyclicBounds.{HaveNoCyclicBound}
use Rattle.typespecs.specs.TextFaults.{HasNoTextFault}
use Rattle.typespecs.proofs.Inversion.{false-true}
use Rattle.typespecs.proofs.Declared.{among-left, among-right}

among-each : {A B : Type 0} (f : A → List B) (x : A) (y : B) (xs : List A) → Among x xs → Among y (f x) → Among y (from_each f xs)
among-each f x y [] a b = absurd a
among-each f x y (z ∷ xs) (inl is) b = among-left y (f z) (from_each f xs) (subst (λ w. Among y (f w)) is b)
among-each f x y (z ∷ xs) (inr a) b = among-right y (f z) (from_each f xs) (among-each f x y xs a b)

pub no-cyclic : (m : Module) → HasNoTextFault m → HaveNoCyclicBound m.forms
no-cyclic m no_fault s c a b = no-cyclic-bound m no_fault c (among-each (λ (t : Node SpecKind). t.kind.clauses) s c (specs_in m.forms) a b)

module _ (m : Module) where
  abbrev whole : Option (List Def) → Option (List FunSpec) → Option Specs
  whole defs functions = and_then defs (λ ds. option_map (λ fs. record { defs = ds; types = type_names (declarations_of m); functions = fs; records = record_specs (declarations_of m) }) functions)

  first-some : (defs : Option (List Def)) (functions : Option (List FunSpec)) → is_some (whole defs functions) ≡ true → is_some defs ≡ true
  first-some None functions e = e
  first-some (Some ds) functions e = refl

  second-some : (defs : Option (List Def)) (functions : Option (List FunSpec)) → is_some (whole defs functions) ≡ true → is_some functions ≡ true
  second-some None functions e = absurd (false-true e)
  second-some (Some ds) None e = e
  second-some (Some ds) (Some fs) e = refl

  pub definitions-some : HasNoTextFault m → is_some (definitions (declarations_of m)) ≡ true
  definitions-some no_fault = first-some (definitions (declarations_of m)) (function_specs (declarations_of m) (specs_in m.forms)) (specs-there m no_fault)

  pub functions-some : HasNoTextFault m → is_some (function_specs (declarations_of m) (specs_in m.forms)) ≡ true
  functions-some no_fault = second-some (definitions (declarations_of m)) (function_specs (declarations_of m) (specs_in m.forms)) (specs-there m no_fault)

-- what is the same as something that is there is there
pub there-as : {A : Type 0} {o p : Option A} → o ≡ p → is_some p ≡ true → IsSome o
there-as {A = A} {o = o} {p = p} e h = by o (ap is_some e ∙ h)
  where
    by : (q : Option A) → is_some q ≡ true → IsSome q
    by None h = absurd (false-true h)
    by (Some x) h = refl
