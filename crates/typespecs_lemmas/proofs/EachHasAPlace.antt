-- As many definitions as places of names, and as many arrows as clauses.
use Rattle.std.proofs.Common.{◌≡◌, refl, ap, sym, ◌∙◌, ℕ, suc, ◌+◌, List, [], ◌∷◌, ◌++◌, map, length, arith}
use Rattle.std.specs.Prelude.{Some, get_or}
use Rattle.std.proofs.lemmas.List.{length-append}
use Rattle.type_terms.specs.Definitions.{given_definitions}
use Rattle.type_terms.specs.declared.spec.Arrow.{Arrow}
use Rattle.type_terms.specs.declared.spec.FunSpec.{FunSpec}
use Rattle.erl_tree.specs.declared.token.Node.{Node}
use Rattle.erl_tree.specs.declared.form.TypeDefKind.{TypeDefKind}
use Rattle.erl_tree.specs.declared.form.RecDefKind.{RecDefKind}
use Rattle.erl_tree.specs.declared.form.SpecKind.{SpecKind}
use Rattle.erl_tree.specs.declared.form.SpecClauseKind.{SpecClauseKind}
use Rattle.erl_tree.specs.declared.form.TreeForm.{TreeForm}
use Rattle.erl_tree.specs.declared.form.TreeForm.TheVariants as F
use Rattle.erl_tree.specs.declared.form.Module.{Module}
use Rattle.erl_tree.specs.Functions.{spec_clauses_arity}
use Rattle.erl_runs.specs.Records.{records_in}
use Rattle.erl_runs.specs.Specs.{specs_in}
use Rattle.typespecs_rules.specs.declared.specs.Specs.{Specs}
use Rattle.typespecs_rules.specs.Declarations.{Declarations, declarations_of, types_in, record_forms_in}
use Rattle.typespecs_rules.specs.TypeParts.{from_each}
use Rattle.typespecs_rules.specs.SpecTerms.{definitions, type_definition, record_definition, held_variables, clause_arrow, arrows_from, variables_in, function_spec, function_specs, module_specs}
use Rattle.typespecs_rules.specs.TypeFaults.{name_places, spec_clauses, arrows_of}
use Rattle.typespecs_lemmas.proofs.FirstFault.{some-inj}
use Rattle.typespecs_lemmas.proofs.GivenReach.{mapped, both, defs-are}
use Rattle.typespecs_lemmas.proofs.TermParts.{present-parts, present-length, map-length}

-- ---- definitions

record-count : (forms : List TreeForm) → length (records_in forms) ≡ length (record_forms_in forms)
record-count [] = refl
record-count (F.RecDef r ∷ forms) = ap suc (record-count forms)
record-count (F.TypeDef d ∷ forms) = record-count forms
record-count (F.Spec s ∷ forms) = record-count forms
record-count (F.Export x ∷ forms) = record-count forms
record-count (F.Skipped x ∷ forms) = record-count forms
record-count (F.Function x ∷ forms) = record-count forms

pub definition-places : (m : Module) (s : Specs) → module_specs m ≡ Some s → length s.defs ≡ 2 + length (name_places m)
definition-places m s e =
    let d = defs-are m s e in
    let declared = declarations_of m in
    let types : length (map (type_definition declared) declared.types) ≡ length (types_in m.forms) = map-length _ declared.types ∙ map-length _ (types_in m.forms) in
    let records : length (map (record_definition declared) declared.records) ≡ length (record_forms_in m.forms) = map-length _ declared.records ∙ record-count m.forms in
    let own : length d.0 ≡ length (map (type_definition declared) declared.types) + length (map (record_definition declared) declared.records) = present-length _ d.0 d.1 ∙ length-append (map (type_definition declared) declared.types) (map (record_definition declared) declared.records) in
    let type_places : length (map (λ (t : Node TypeDefKind). get_or t.marks 2 t.place) (types_in m.forms)) ≡ length (types_in m.forms) = map-length _ (types_in m.forms) in
    let record_places : length (map (λ (r : Node RecDefKind). get_or r.marks 3 r.place) (record_forms_in m.forms)) ≡ length (record_forms_in m.forms) = map-length _ (record_forms_in m.forms) in
    let places : length (name_places m) ≡ length (map (λ (t : Node TypeDefKind). get_or t.marks 2 t.place) (types_in m.forms)) + length (map (λ (r : Node RecDefKind). get_or r.marks 3 r.place) (record_forms_in m.forms)) = length-append _ _ in
    let all : length (given_definitions ++ d.0) ≡ 2 + length d.0 = omega arith in
    ap length d.2 ∙ (all ∙ ap (λ n. 2 + n) (own ∙ ((λ i. types i + records i) ∙ (sym (λ i. type_places i + record_places i) ∙ sym places))))

-- ---- arrows

arrow-count : (declared : Declarations) (first : ℕ) (cs : List (Node SpecClauseKind)) (arrows : List Arrow) → arrows_from declared first cs ≡ Some arrows → length arrows ≡ length cs
arrow-count declared first [] arrows e = ap length (sym (some-inj [] arrows e))
arrow-count declared first (c ∷ cs) arrows e =
    let a = both (clause_arrow declared first c.kind) _ arrows e in
    let b = mapped (λ more. a.0 ∷ more) (arrows_from declared (first + length (held_variables declared c.kind)) cs) arrows a.2 in
    ap length (sym b.2) ∙ ap suc (arrow-count declared (first + length (held_variables declared c.kind)) cs b.0 b.1)

spec-count : (declared : Declarations) (s : SpecKind) (f : FunSpec) → function_spec declared s ≡ Some f → length f.clauses ≡ length s.clauses
spec-count declared s f e =
    let a = mapped (λ arrows. record { name = s.name; arity = spec_clauses_arity s.clauses; vars = variables_in declared s.clauses; clauses = arrows }) (arrows_from declared 0 s.clauses) f e in
    ap (λ (x : FunSpec). length x.clauses) (sym a.2) ∙ arrow-count declared 0 s.clauses a.0 a.1

abbrev all_arrows : List FunSpec → List Arrow
all_arrows fs = from_each (λ (f : FunSpec). f.clauses) fs

specs-count : (declared : Declarations) (ss : List (Node SpecKind)) (fs : List FunSpec) → function_specs declared ss ≡ Some fs → length (all_arrows fs) ≡ length (from_each (λ (s : Node SpecKind). s.kind.clauses) ss)
specs-count declared [] fs e = ap (λ x. length (all_arrows x)) (sym (some-inj [] fs e))
specs-count declared (s ∷ ss) fs e =
    let p = present-parts (function_spec declared s.kind) (map (λ (t : Node SpecKind). function_spec declared t.kind) ss) fs e in
    let first : length p.0.clauses ≡ length s.kind.clauses = spec-count declared s.kind p.0 p.2 in
    let others : length (all_arrows p.1) ≡ length (from_each (λ (t : Node SpecKind). t.kind.clauses) ss) = specs-count declared ss p.1 p.3 in
    ap (λ x. length (all_arrows x)) (sym p.4)
    ∙ (length-append p.0.clauses (all_arrows p.1)
    ∙ ((λ i. first i + others i) ∙ sym (length-append s.kind.clauses (from_each (λ (t : Node SpecKind). t.kind.clauses) ss))))

pub arrow-clauses : (m : Module) (s : Specs) → module_specs m ≡ Some s → length (arrows_of s) ≡ length (spec_clauses m)
arrow-clauses m s e =
    let a = both (definitions (declarations_of m)) _ s e in
    let b = mapped _ (function_specs (declarations_of m) (specs_in m.forms)) s a.2 in
    ap (λ (x : Specs). length (all_arrows x.functions)) (sym b.2) ∙ specs-count (declarations_of m) (specs_in m.forms) b.0 b.1
