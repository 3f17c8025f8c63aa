-- Which specs and names of modules are those of a flat module.
use Rattle.std.proofs.Common.{◌≡◌, refl, ap, sym, subst, ◌∙◌, ℕ, pos, List, [], ◌∷◌, ◌++◌, map, inl}
use Rattle.std.specs.Prelude.{Option, Some, None, codes}
use Rattle.std.specs.Option.{unwrap_or}
use Rattle.std.proofs.lemmas.Bool.{true≢false}
use Rattle.type_terms.specs.declared.spec.FunSpec.{FunSpec}
use Rattle.type_terms.specs.declared.term.Term.{Term}
use Rattle.erl_tree.specs.Lists.{Among, Every, AreDistinct}
use Rattle.erl_tree.specs.Functions.{function_ids}
use Rattle.erl_tree.specs.declared.token.Node.{Node}
use Rattle.erl_tree.specs.declared.type_expr.TypeKind.{TypeKind, fold-roll-TypeKind}
use Rattle.erl_tree.specs.declared.type_expr.TypeKind.TheVariants as Y
use Rattle.erl_tree.specs.declared.type_expr.TypeKind.TheOpen as T
use Rattle.erl_tree.specs.declared.pattern.PatternKind.TheVariants as P
use Rattle.erl_tree.specs.declared.expr.ExprKind.{ExprKind}
use Rattle.erl_tree.specs.declared.expr.ExprKind.TheVariants as X
use Rattle.erl_tree.specs.declared.expr.ItemKind.TheVariants as I
use Rattle.erl_tree.specs.declared.form.Module.{Module}
use Rattle.erl_runs.specs.Specs.{spec_id}
use Rattle.typespecs_rules.specs.SmallModules.{at}
use Rattle.flat_modules.specs.FlatSpecs.{type_term_layer, type_kind_term, read_specs, specs_of, HasFlatSpecs}
use Rattle.flat_modules.specs.FlatNames.{bound_by, used_by, used_in, HasRightFlatNames}
use Rattle.flat_modules.proofs.FlatTermLaws.{type_term_laws}
use Rattle.flat_modules.proofs.FlatNameEquations.{used_in-Int, used_in-Var}
use Rattle.examples_rules.specs.SmallFunctions.{integer_function, with_its_spec, identity, identity_function, without_a_spec, of_lists, specified_twice, spec_alone, defined_twice, built_in, unbound}

-- the specs of a module that are read
read-is : (m : Module) (fs : List FunSpec) → read_specs m ≡ Some fs → specs_of m ≡ fs
unfolding specs_of
read-is m fs e = ap (λ o. unwrap_or o []) e

-- ---- flat specs

with-read : read_specs with_its_spec ≡ Some (integer_function ∷ [])
with-read = simp (type_term_laws)

with-specs : specs_of with_its_spec ≡ integer_function ∷ []
with-specs = read-is with_its_spec (integer_function ∷ []) with-read

pub one-spec : HasFlatSpecs with_its_spec
one-spec = record {
  specs_read = with-read ∙ ap Some (sym with-specs);
  specs_distinct = subst (λ (fs : List FunSpec). AreDistinct (map spec_id fs)) (sym with-specs) ((λ a. a), tt);
}

list-term : (t : Node TypeKind) → type_kind_term (Y.ListOf t) ≡ None
unfolding type_kind_term
list-term t = ap (λ k. type_kind_term k) (sym (Y.rolls-ListOf t)) ∙ fold-roll-TypeKind (Option Term) (Unit {0}) type_term_layer (λ part. tt) (T.ListOf t)

lists-read : read_specs of_lists ≡ None
lists-read = simp (list-term)

pub list : HasFlatSpecs of_lists → ⊥
list h = nothing (sym lists-read ∙ h.specs_read)
  where
    nothing : {fs : List FunSpec} → None ≡ Some fs → ⊥
    nothing e = absurd (cc)

twice-read : read_specs specified_twice ≡ Some (integer_function ∷ integer_function ∷ [])
twice-read = simp (type_term_laws)

twice-specs : specs_of specified_twice ≡ integer_function ∷ integer_function ∷ []
twice-specs = read-is specified_twice (integer_function ∷ integer_function ∷ []) twice-read

pub two-specs : HasFlatSpecs specified_twice → ⊥
two-specs h = (subst (λ (fs : List FunSpec). AreDistinct (map spec_id fs)) twice-specs h.specs_distinct).0 (inl refl)

-- ---- flat names

-- the variables that the body of `f(..) -> E.` uses, with its one expression at a column
f-used : (line column : ℕ) (e : ExprKind) → used_by (at line column (I.Value (at line column e)) ∷ []) ≡ used_in e ++ []
f-used line column e = simp (I.outs-Value)

with-used : used_by (at 3 8 (I.Value (at 3 8 (X.Int (pos 1)))) ∷ []) ≡ []
with-used = f-used 3 8 (X.Int (pos 1)) ∙ ap (λ xs. xs ++ []) (used_in-Int (pos 1))

pub with-right : HasRightFlatNames with_its_spec
with-right = record {
  functions_distinct = ((λ a. a), tt);
  not_built_in = (refl, tt);
  specified = subst (λ (fs : List FunSpec). Every (λ id. Among id (map spec_id fs)) (function_ids with_its_spec)) (sym with-specs) (inl refl, tt);
  defined = subst (λ (fs : List FunSpec). Every (λ id. Among id (function_ids with_its_spec)) (map spec_id fs)) (sym with-specs) (inl refl, tt);
  scoped = ((subst (Every (λ x. Among x [])) (sym with-used) tt, tt), tt);
}

identity-specs : specs_of identity ≡ identity_function ∷ []
identity-specs = read-is identity (identity_function ∷ []) (simp (type_term_laws))

identity-used : used_by (at 3 9 (I.Value (at 3 9 (X.Var (codes "X")))) ∷ []) ≡ codes "X" ∷ []
identity-used = f-used 3 9 (X.Var (codes "X")) ∙ ap (λ xs. xs ++ []) (used_in-Var (codes "X"))

identity-bound : bound_by (at 3 3 (P.Var (codes "X")) ∷ []) ≡ codes "X" ∷ []
identity-bound = simp (P.outs-Var)

identity-scoped : Every (λ x. Among x (bound_by (at 3 3 (P.Var (codes "X")) ∷ []))) (used_by (at 3 9 (I.Value (at 3 9 (X.Var (codes "X")))) ∷ []))
identity-scoped = subst (λ xs. Every (λ x. Among x xs) (used_by (at 3 9 (I.Value (at 3 9 (X.Var (codes "X")))) ∷ []))) (sym identity-bound) (subst (Every (λ x. Among x (codes "X" ∷ []))) (sym identity-used) (inl refl, tt))

pub identity-right : HasRightFlatNames identity
identity-right = record {
  functions_distinct = ((λ a. a), tt);
  not_built_in = (refl, tt);
  specified = subst (λ (fs : List FunSpec). Every (λ id. Among id (map spec_id fs)) (function_ids identity)) (sym identity-specs) (inl refl, tt);
  defined = subst (λ (fs : List FunSpec). Every (λ id. Among id (function_ids identity)) (map spec_id fs)) (sym identity-specs) (inl refl, tt);
  scoped = ((identity-scoped, tt), tt);
}

pub no-spec : HasRightFlatNames without_a_spec → ⊥
unfolding specs_of
no-spec h = h.specified.0

alone-specs : specs_of spec_alone ≡ integer_function ∷ []
alone-specs = read-is spec_alone (integer_function ∷ []) (simp (type_term_laws))

pub no-function : HasRightFlatNames spec_alone → ⊥
no-function h = (subst (λ (fs : List FunSpec). Every (λ id. Among id []) (map spec_id fs)) alone-specs h.defined).0

pub two-functions : HasRightFlatNames defined_twice → ⊥
two-functions h = h.functions_distinct.0 (inl refl)

pub length-built-in : HasRightFlatNames built_in → ⊥
length-built-in h = absurd (true≢false h.not_built_in.0)

unbound-in-f : used_by (at 3 8 (I.Value (at 3 8 (X.Var (codes "X")))) ∷ []) ≡ codes "X" ∷ []
unbound-in-f = f-used 3 8 (X.Var (codes "X")) ∙ ap (λ xs. xs ++ []) (used_in-Var (codes "X"))

pub unbound-used : HasRightFlatNames unbound → ⊥
unbound-used h = (subst (Every (λ x. Among x [])) unbound-in-f h.scoped.0.0).0
