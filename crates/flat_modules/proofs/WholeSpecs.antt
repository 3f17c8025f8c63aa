-- The specs of a flat module are those that it has there, and no types, records and variables stand beside them.
use Rattle.std.proofs.Common.{◌≡◌, refl, ap, sym, ◌∙◌, ℕ, suc, ◌+◌, List, [], ◌∷◌, ◌||◌, map, length, Bool, true, false, arith}
use Rattle.std.specs.Prelude.{Option, Some, cond}
use Rattle.std.specs.Option.{option_map}
use Rattle.std.specs.List.{list_any}
use Rattle.type_terms.specs.Keys.{Name}
use Rattle.type_terms.specs.declared.term.Def.{Def}
use Rattle.type_terms.specs.declared.term.Term.{Term}
use Rattle.type_terms.specs.declared.spec.Arrow.{Arrow}
use Rattle.type_terms.specs.declared.spec.FunSpec.{FunSpec}
use Rattle.erl_tree.specs.Lists.{Every}
use Rattle.erl_tree.specs.Functions.{spec_clauses_arity}
use Rattle.erl_tree.specs.declared.token.Node.{Node}
use Rattle.erl_tree.specs.declared.type_expr.TypeKind.{TypeKind}
use Rattle.erl_tree.specs.declared.form.SpecKind.{SpecKind}
use Rattle.erl_tree.specs.declared.form.SpecClauseKind.{SpecClauseKind}
use Rattle.erl_tree.specs.declared.form.TreeForm.{TreeForm}
use Rattle.erl_tree.specs.declared.form.TreeForm.TheVariants as F
use Rattle.erl_tree.specs.declared.form.Module.{Module}
use Rattle.erl_runs.specs.Records.{records_in}
use Rattle.erl_runs.specs.Specs.{and_then, all_present, specs_in}
use Rattle.typespecs_rules.specs.declared.specs.Specs.{Specs}
use Rattle.typespecs_rules.specs.Declarations.{Declarations, declarations_of, nothing_declared, types_in}
use Rattle.typespecs_rules.specs.TypeTerms.{record_tuple}
use Rattle.typespecs_rules.specs.TypeVariables.{numbered_from, clause_variables}
use Rattle.typespecs_rules.specs.Bounds.{stands_for}
use Rattle.typespecs_rules.specs.SpecTerms.{definitions, type_names, record_specs, holds_variable, arrow_holds, clause_term, arrow_with, held_from, held_in, held_variables, arrows_from, variables_in, function_specs, module_specs}
use Rattle.typespecs_rules.specs.SpecTerms as T
use Rattle.flat_modules.specs.FlatSpecs.{type_term, clause_arrow, function_spec, read_specs, specs_of, module_specs_of}
use Rattle.flat_modules.specs.Grammar.{IsForm, IsWellFormed}
use Rattle.flat_modules.proofs.FlatTypeTerms.{then-value, all-same}
use Rattle.flat_modules.proofs.FlatVariables.{some-is, flat-holds-none}
use Rattle.flat_modules.proofs.RightFlatNames.{arrows-arity, forms-formed}

-- what has values has the same ones by a second reading that agrees with the first
pub present-same : {A B : Type 0} (f g : A → Option B) → ((a : A) (b : B) → f a ≡ Some b → g a ≡ Some b) → (xs : List A) (ys : List B) → all_present (map f xs) ≡ Some ys → all_present (map g xs) ≡ Some ys
present-same f g h [] ys e = e
present-same f g h (x ∷ xs) ys e =
    let y = then-value (f x) (λ a. and_then (all_present (map f xs)) (λ more. Some (a ∷ more))) ys e in
    let r = then-value (all_present (map f xs)) (λ more. Some (y.0 ∷ more)) ys y.2 in
    ap (λ o. and_then o (λ a. and_then (all_present (map g xs)) (λ more. Some (a ∷ more)))) (h x y.0 y.1)
    ∙ (ap (λ o. and_then o (λ more. Some (y.0 ∷ more))) (present-same f g h xs r.0 r.1) ∙ r.2)

-- ---- no variable stands in a flat arrow

abbrev arrow_of : List Term → Term → Arrow
arrow_of params result = record { params = params; result = result }

either-none : (b c : Bool) → b ≡ false → c ≡ false → (b || c) ≡ false
either-none true c h k = h
either-none false c h k = k

params-none : (n : ℕ) (ts : List (Node TypeKind)) (us : List Term) → all_present (map type_term ts) ≡ Some us → list_any (holds_variable n) us ≡ false
params-none n [] us e = ap (list_any (holds_variable n)) (sym (some-is [] us e))
params-none n (t ∷ ts) us e =
    let u = then-value (type_term t) (λ a. and_then (all_present (map type_term ts)) (λ more. Some (a ∷ more))) us e in
    let r = then-value (all_present (map type_term ts)) (λ more. Some (u.0 ∷ more)) us u.2 in
    ap (list_any (holds_variable n)) (sym (some-is (u.0 ∷ r.0) us r.2)) ∙ either-none _ _ (flat-holds-none t.kind u.0 u.1 n) (params-none n ts r.0 r.1)

-- the parts of a clause's arrow
pub record ArrowParts (c : Node SpecClauseKind) (a : Arrow) : Type 0 where
  pub params : List Term
  pub of_params : all_present (map type_term c.kind.params) ≡ Some params
  pub result : Term
  pub of_result : type_term c.kind.result ≡ Some result
  pub whole : arrow_of params result ≡ a

pub arrow-parts : (c : Node SpecClauseKind) (a : Arrow) → clause_arrow c ≡ Some a → ArrowParts c a
arrow-parts c a e =
    let p = then-value (all_present (map type_term c.kind.params)) (λ params. and_then (type_term c.kind.result) (λ result. Some (arrow_of params result))) a e in
    let r = then-value (type_term c.kind.result) (λ result. Some (arrow_of p.0 result)) a p.2 in
    record { params = p.0; of_params = p.1; result = r.0; of_result = r.1; whole = some-is _ a r.2 }

arrow-none : (c : Node SpecClauseKind) (a : Arrow) → clause_arrow c ≡ Some a → (n : ℕ) → arrow_holds a n ≡ false
arrow-none c a e n =
    let p = arrow-parts c a e in
    ap (λ (x : Arrow). arrow_holds x n) (sym p.whole) ∙ either-none _ _ (params-none n c.kind.params p.params p.of_params) (flat-holds-none c.kind.result.kind p.result p.of_result n)

none-from : (a : Arrow) → ((n : ℕ) → arrow_holds a n ≡ false) → (n : ℕ) (names : List Name) → held_from a n names ≡ []
none-from a h n [] = refl
none-from a h n (x ∷ xs) = ap (λ b. cond b (x ∷ held_from a (suc n) xs) (held_from a (suc n) xs)) (h n) ∙ none-from a h (suc n) xs

both-none : (a b : ℕ) → a ≡ 0 → b ≡ 0 → a + b ≡ 0
both-none a b e f = omega arith

-- ---- specs, whatever is declared

module _ (declared : Declarations) where
  arrow-same : (variables : Name → Option Term) (c : Node SpecClauseKind) (a : Arrow) → clause_arrow c ≡ Some a → arrow_with declared c.kind variables ≡ Some a
  arrow-same variables c a e =
      let p = arrow-parts c a e in
      let same : (t : Node TypeKind) (u : Term) → type_term t ≡ Some u → clause_term declared c.kind variables t ≡ Some u = λ t u h. all-same declared (record_tuple declared) (stands_for declared c.kind variables) t.kind u h in
      ap (λ o. and_then o (λ params. option_map (λ result. arrow_of params result) (clause_term declared c.kind variables c.kind.result))) (present-same type_term (clause_term declared c.kind variables) same c.kind.params p.params p.of_params)
      ∙ (ap (λ o. option_map (λ result. arrow_of p.params result) o) (same c.kind.result p.result p.of_result) ∙ ap Some p.whole)

  none-held : (c : Node SpecClauseKind) (a : Arrow) → clause_arrow c ≡ Some a → held_variables declared c.kind ≡ []
  none-held c a e =
      ap (λ o. held_in o (clause_variables c.kind)) (arrow-same (numbered_from 0 (clause_variables c.kind)) c a e) ∙ none-from a (arrow-none c a e) 0 (clause_variables c.kind)

  arrows-same : (first : ℕ) (cs : List (Node SpecClauseKind)) (arrows : List Arrow) → all_present (map clause_arrow cs) ≡ Some arrows → arrows_from declared first cs ≡ Some arrows
  arrows-same first [] arrows e = e
  arrows-same first (c ∷ cs) arrows e =
      let a = then-value (clause_arrow c) (λ a. and_then (all_present (map clause_arrow cs)) (λ more. Some (a ∷ more))) arrows e in
      let r = then-value (all_present (map clause_arrow cs)) (λ more. Some (a.0 ∷ more)) arrows a.2 in
      let next : ℕ = first + length (held_variables declared c.kind) in
      ap (λ o. and_then o (λ x. option_map (λ more. x ∷ more) (arrows_from declared next cs))) (arrow-same (numbered_from first (held_variables declared c.kind)) c a.0 a.1)
      ∙ (ap (λ o. option_map (λ more. a.0 ∷ more) o) (arrows-same next cs r.0 r.1) ∙ r.2)

  no-variables : (cs : List (Node SpecClauseKind)) (arrows : List Arrow) → all_present (map clause_arrow cs) ≡ Some arrows → variables_in declared cs ≡ 0
  no-variables [] arrows e = refl
  no-variables (c ∷ cs) arrows e =
      let a = then-value (clause_arrow c) (λ a. and_then (all_present (map clause_arrow cs)) (λ more. Some (a ∷ more))) arrows e in
      let r = then-value (all_present (map clause_arrow cs)) (λ more. Some (a.0 ∷ more)) arrows a.2 in
      both-none (length (held_variables declared c.kind)) (variables_in declared cs) (ap length (none-held c a.0 a.1)) (no-variables cs r.0 r.1)

  pub spec-same : (s : Node SpecKind) (f : FunSpec) → function_spec s ≡ Some f → T.function_spec declared s.kind ≡ Some f
  spec-same s f e =
      let a = then-value (all_present (map clause_arrow s.kind.clauses)) _ f e in
      ap (λ o. option_map (λ arrows. spec_with (spec_clauses_arity s.kind.clauses) (variables_in declared s.kind.clauses) arrows) o) (arrows-same 0 s.kind.clauses a.0 a.1)
      ∙ ((λ j. Some (spec_with (sym (arrows-arity s.kind.clauses a.0 a.1) j) (no-variables s.kind.clauses a.0 a.1 j) a.0)) ∙ a.2)
    where
      spec_with : ℕ → ℕ → List Arrow → FunSpec
      spec_with arity vars arrows = record { name = s.kind.name; arity = arity; vars = vars; clauses = arrows }

-- ---- modules

no-types : (forms : List TreeForm) → Every IsForm forms → types_in forms ≡ []
no-types [] w = refl
no-types (F.Function f ∷ forms) w = no-types forms w.1
no-types (F.Spec s ∷ forms) w = no-types forms w.1
no-types (_ ∷ forms) w = absurd w.0

no-records : (forms : List TreeForm) → Every IsForm forms → records_in forms ≡ []
no-records [] w = refl
no-records (F.Function f ∷ forms) w = no-records forms w.1
no-records (F.Spec s ∷ forms) w = no-records forms w.1
no-records (_ ∷ forms) w = absurd w.0

-- a flat module declares neither types nor records
pub nothing-declared : (m : Module) → IsWellFormed m → declarations_of m ≡ nothing_declared
nothing-declared m w =
    let formed : Every IsForm m.forms = forms-formed m w in
    λ j. record { types = map (λ d. d.kind) (no-types m.forms formed j); records = no-records m.forms formed j }

abbrev specs_with : Declarations → Option (List Def) → Option (List FunSpec) → Option Specs
specs_with declared defs functions = and_then defs (λ own. option_map (λ fs. record { defs = own; types = type_names declared; functions = fs; records = record_specs declared }) functions)

pub whole-specs : (m : Module) → IsWellFormed m → read_specs m ≡ Some (specs_of m) → module_specs m ≡ Some (module_specs_of m)
whole-specs m w read =
    ap (λ d. specs_with d (definitions d) (function_specs d (specs_in m.forms))) (nothing-declared m w)
    ∙ ap (λ o. specs_with nothing_declared (definitions nothing_declared) o) (present-same function_spec (λ s. T.function_spec nothing_declared s.kind) (spec-same nothing_declared) (specs_in m.forms) (specs_of m) read)
