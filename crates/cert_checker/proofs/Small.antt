-- The small modules of the examples, by computing.
use Rattle.std.proofs.Common.{◌≡◌, refl, sym, ◌∙◌, ap, subst, inl, inr, ℕ, suc, ℤ, ◌+◌, ◌<◌, List, [], ◌∷◌, ◌++◌, arith}
use Rattle.std.specs.Prelude.{Bool, true, false, ◌&&◌, nat_le, pos, negsuc, ◌-ℤ◌, codes, Option, Some, None, map, if◌then◌else◌}
use Rattle.std.specs.Option.{unwrap_or}
use Rattle.std.proofs.lemmas.Bool.{and_parts, true≢false, false≢true}
use Rattle.type_terms.specs.Keys.{Name, same_name}
use Rattle.type_terms.specs.declared.term.Key.TheVariants.{Int as IntKey, Atom as AtomKey}
use Rattle.type_terms.specs.declared.term.Term.{Term, Any, Ints, AtomLit, And, Fun}
use Rattle.type_terms.specs.declared.spec.Arrow.{Arrow}
use Rattle.type_terms.specs.declared.spec.FunSpec.{FunSpec}
use Rattle.type_terms.specs.declared.spec.Kind.TheVariants.{Operand as OperandKind, Call as CallKind, Result as ResultKind}
use Rattle.type_terms.specs.Definitions.{given_definitions}
use Rattle.type_terms.specs.Instances.{no_variables}
use Rattle.type_terms.specs.Parts.{layer_children, layer_positive_children}
use Rattle.type_terms.specs.Signs.{IsWellSigned}
use Rattle.type_terms.specs.declared.term.Term.TheViews as Views
use Rattle.type_terms.proofs.Contained.{contains-none}
use Rattle.type_terms.proofs.PartLaws.{under-step}
use Rattle.type_terms.proofs.SmallCases.{Kept, kept-even, no-names, no-name-leaf, well-signed, ints-well-signed}
use Rattle.erl_tree.specs.declared.token.Node.{Node}
use Rattle.erl_tree.specs.declared.token.Token.{Token}
use Rattle.erl_tree.specs.declared.token.Token.TheVariants as T
use Rattle.erl_tree.specs.declared.token.Placed.{Placed}
use Rattle.erl_tree.specs.declared.type_expr.TypeKind.{TypeKind}
use Rattle.erl_tree.specs.declared.expr.BinaryOp.TheVariants.{Add, Sub}
use Rattle.erl_tree.specs.declared.expr.ExprKind.{ExprKind}
use Rattle.erl_tree.specs.declared.expr.ExprKind.TheVariants as E
use Rattle.erl_tree.specs.declared.form.TreeForm.TheVariants as F
use Rattle.erl_tree.specs.Lists.{Every, Among, AreDistinct}
use Rattle.flat_modules.specs.Spelling.{tokens_of}
use Rattle.erl_tree.specs.Limits.{integer_limit, IsInLimit}
use Rattle.flat_modules.specs.Grammar.{IsType, one_type, use_type, atom_type, IsExpr, one_product, sum, IsOperand, one_operand, integer, atom, variable, call, last_argument, IsWellFormed}
use Rattle.erl_grammar.specs.Nesting.{nesting_limit, clause_deep, IsExprWithin}
use Rattle.erl_grammar.specs.TypeNesting.{IsTypeWithin}
use Rattle.erl_grammar.specs.FormNesting.{form_deep, IsModuleWithin}
use Rattle.erl_grammar.proofs.NestingLaws.{pattern_kind_deep-Var, expr_deep_laws, item_kind_deep-Value, clause_kind_deep-clause_of}
use Rattle.erl_grammar.proofs.TypeNestingLaws.{type_deep_laws}
use Rattle.erl_runs.specs.Specs.{and_then, all_present, spec_id}
use Rattle.flat_modules.specs.FlatSpecs.{type_term, clause_arrow, arrows_arity, function_spec, read_specs, specs_of, module_specs_of, HasFlatSpecs}
use Rattle.typespecs_rules.specs.TypeParts.{from_each}
use Rattle.typespecs_rules.specs.TypeFaults.{listed_faults, IsWellSignedArrow}
use Rattle.typespecs_rules.proofs.TypeRuleLaws.{inside_equations}
use Rattle.erl_scope_rules.specs.ScopeFaults.{HasRightNames}
use Rattle.erl_scope_rules.proofs.OccurrenceLaws.{variables_equations, part_equations}
use Rattle.erl_scope_rules.proofs.FaultLaws.{pattern_fault_equations, fault_equations}
use Rattle.text_reader_rules.specs.Readable.{IsReadable}
use Rattle.flat_modules.specs.FlatNames.{called_in}
use Rattle.erl_tree.specs.Functions.{FunctionId, of_function, functions_of}
use Rattle.flat_modules.specs.FlatModules.{IsFlatModule}
use Rattle.flat_modules.proofs.TreeLaws.{expr_tokens_laws, type_tokens_laws}
use Rattle.flat_modules.proofs.FlatLaws.{AreInLimit, flat-module}
use Rattle.flat_modules.proofs.FlatTermLaws.{type_term_laws}
use Rattle.flat_modules.proofs.HasSpecs.{has-specs}
use Rattle.flat_modules.proofs.FlatNameEquations.{called_laws}
use Rattle.cert_checker.specs.Examples as X
use Rattle.cert_checker.specs.Examples.{place, leaf, integer_type, small_spec_clause, small_spec, small_clause, small_module, identity, constant, recursive_call, recursive, two_calls, second_call_wrong, integers, spec_to_integers, small_specs}
use Rattle.erl_runs.specs.Specs.{one_integer}
use Rattle.erl_runs.specs.Value as V
use Rattle.erl_runs.specs.Matching.{with_variable}
use Rattle.erl_runs.specs.Operations.{operate}
use Rattle.erl_runs.specs.Running as R
use Rattle.erl_runs.specs.Running.{Code, code_of, apply, apply_within, program_of}
use Rattle.erl_runs.specs.Membership.{ends_well}
use Rattle.erl_runs.specs.Safety.{IsRightRun, IsSafe}
use Rattle.erl_runs.proofs.RunLaws.{expr_part, runs-Int, runs-Atom, runs-Var, runs-Binary}
use Rattle.erl_runs.proofs.BoundFree.{apply-none}
use Rattle.cert_checker.specs.declared.refusal.Shown.TheVariants.{One, Missing}
use Rattle.cert_checker.specs.declared.refusal.FirstRefusal.TheVariants.{Failed}
use Rattle.cert_checker.specs.Constraints.{Test, Holds, IsWithin, owed_by_functions, owed_of}
use Rattle.cert_checker.specs.Failures.{Refutes, ShowsFirstFailure}
use Rattle.cert_checker.specs.Examples.{small_function}
use Rattle.cert_checker.proofs.Calls.{call-within, within-same, within-any}
use Rattle.cert_checker.proofs.JudgeLaws.{judge_laws}
use Rattle.cert_checker.proofs.Refutations.{refuted-fails, call-refuted}
use Rattle.cert_checker.proofs.Safe.{holds-safe}
use Rattle.cert_checker.proofs.SmallRuns.{first-found, small-applied, call-runs}

-- the equations by which a module is found to have no fault of names
ruleset name_laws = (part_equations, variables_equations, fault_equations, pattern_fault_equations)

-- ---- integers within the limit

below_limit : Token → Bool
below_limit (T.Int (pos n)) = nat_le n integer_limit
below_limit (T.Int (negsuc n)) = false
below_limit _ = true

all_below : List Placed → Bool
all_below [] = true
all_below (t ∷ ts) = below_limit t.token && all_below ts

not-above : (n l : ℕ) → nat_le n l ≡ true → l < n → ⊥
not-above n l e h = grind arith

token-in_limit : (t : Token) → below_limit t ≡ true → IsInLimit t
unfolding below_limit
token-in_limit (T.Int (pos n)) e h = not-above n integer_limit e h
token-in_limit (T.Int (negsuc n)) e h = cc
token-in_limit _ e h = h

tokens-in_limit : (ts : List Placed) → all_below ts ≡ true → Every (λ t. IsInLimit t.token) ts
unfolding all_below
tokens-in_limit [] e = tt
tokens-in_limit (t ∷ ts) e = let p : (below_limit t.token ≡ true) × (all_below ts ≡ true) = and_parts _ _ e in (token-in_limit t.token p.0, tokens-in_limit ts p.1)

-- ---- types and specs

integer-formed : (line column : ℕ) → IsType (integer_type line column)
integer-formed line column = one_type _ (use_type (place line column) (place line (column + 7)) (place line (column + 8)) (codes "integer"))

integer-term : (line column : ℕ) → type_term (integer_type line column) ≡ Some integers
integer-term line column = simp type_term_laws refl

integer-within : (line column : ℕ) → IsTypeWithin nesting_limit (integer_type line column)
integer-within line column = simp type_deep_laws refl

atom-formed : (line column : ℕ) → IsType (X.atom_type line column)
atom-formed line column = one_type _ (atom_type (place line column) (codes "a"))

atom-term : (line column : ℕ) → type_term (X.atom_type line column) ≡ Some (AtomLit (codes "a"))
atom-term line column = simp type_term_laws refl

-- the spec of a function of one parameter
spec-read : (name : Name) (line close : ℕ) (type : Node TypeKind) (t : Term) → type_term type ≡ Some t → function_spec (small_spec name line close type) ≡ Some (spec_to_integers name t)
spec-read name line close type t e =
    let a : clause_arrow (small_spec_clause line close type) ≡ Some (record { params = t ∷ []; result = integers }) =
    λ j. and_then (and_then (e j) (λ a. and_then (all_present []) (λ more. Some (a ∷ more)))) (λ params. and_then (integer-term line (close + 5) j) (λ result. Some (record { params = params; result = result }))) in
    ap (λ (o : Option Arrow). and_then (and_then o (λ a. and_then (all_present []) (λ more. Some (a ∷ more)))) (λ arrows. Some (record { name = name; arity = arrows_arity arrows; vars = 0; clauses = arrows }))) a

-- ---- nesting

spec-within : (name : Name) (line close : ℕ) (type : Node TypeKind) → IsTypeWithin nesting_limit type → form_deep (F.Spec (small_spec name line close type)) nesting_limit ≡ []
spec-within name line close type h = λ j. ((h j ++ []) ++ (integer-within line (close + 5) j ++ [])) ++ []

clause-within : (line : ℕ) (x : Name) (e : Node ExprKind) → IsExprWithin nesting_limit e → clause_deep (small_clause line x e) nesting_limit ≡ []
clause-within line x e h = clause_kind_deep-clause_of _ _ _ nesting_limit ∙ (λ j. (pattern_kind_deep-Var x 255 j ++ []) ++ ((item_kind_deep-Value e nesting_limit ∙ h) j ++ []))

function-within : (name : Name) (line dot : ℕ) (x : Name) (e : Node ExprKind) → IsExprWithin nesting_limit e → form_deep (F.Function (small_function name line dot x e)) nesting_limit ≡ []
function-within name line dot x e h = λ j. clause-within line x e h j ++ []

-- ---- signs

abbrev AreWellSigned : List FunSpec → Type 0
AreWellSigned specs = Every (IsWellSignedArrow given_definitions) (from_each (λ (f : FunSpec). f.clauses) specs)

integers-signed : IsWellSigned given_definitions integers
integers-signed = ints-well-signed given_definitions None None

atom-signed : (a : Name) → IsWellSigned given_definitions (AtomLit a)
atom-signed a = well-signed given_definitions (AtomLit a) (no-names given_definitions _ (no-name-leaf (AtomLit a) (ap layer_children (Views.outs-AtomLit a)) (λ e. omega arith)))
    (under-step given_definitions Kept (AtomLit a) [] (ap layer_positive_children (Views.outs-AtomLit a)) (λ e. omega arith) (λ e. omega arith) (kept-even (AtomLit a)) (λ c k. absurd (contains-none c k)))

-- ---- modules of one function

module _ (dot : ℕ) (e : Node ExprKind) where
  specs-read : read_specs (small_module dot e) ≡ Some small_specs
  specs-read = ap (λ (o : Option FunSpec). and_then o (λ a. and_then (all_present []) (λ more. Some (a ∷ more)))) (spec-read (codes "f") 2 18 (integer_type 2 9) integers (integer-term 2 9))

  pub specs-are : specs_of (small_module dot e) ≡ small_specs
  unfolding specs_of
  specs-are = ap (λ (o : Option (List FunSpec)). unwrap_or o []) specs-read

  module _ (formed : IsExpr e) (names : HasRightNames (small_module dot e)) (called : Every (λ id. Among id (of_function (codes "f") 1 ∷ [])) (called_in e.kind)) (within : IsExprWithin nesting_limit e) (limit : AreInLimit (tokens_of (small_module dot e))) where
    small-formed : IsWellFormed (small_module dot e)
    unfolding IsWellFormed Rattle.erl_tree.specs.declared.type_expr.TypeKind.TheViews.out-TypeKind denote.Hole.Carrier.out Rattle.erl_tree.specs.declared.pattern.PatternKind.TheViews.out-PatternKind Rattle.erl_tree.specs.declared.expr.ExprKind.TheViews.out-ItemKind Rattle.erl_tree.specs.declared.expr.ExprKind.TheBlock.shown-the_row-ExprKind-0 denote.Hole.Carrier.shown denote.Hole.Carrier.hidden
    small-formed = ((refl, (refl, (integer-formed 2 9, tt), omega arith, tt, integer-formed 2 23, refl)), ((refl, (refl, refl, (refl, tt), omega arith, tt, (refl, formed))), tt))

    small-specs : HasFlatSpecs (small_module dot e)
    small-specs = record {
      specs_read = specs-read ∙ ap Some (sym specs-are);
      specs_distinct = subst (λ (z : List FunSpec). AreDistinct (map spec_id z)) (sym specs-are) ((λ x. x), tt);
    }

    small-listed : listed_faults (small_module dot e) ≡ []
    small-listed = simp (inside_equations)

    small-readable : IsReadable (small_module dot e)
    small-readable = record {
      right_names = names;
      specs = module_specs_of (small_module dot e);
      has_specs = has-specs (small_module dot e) small-formed small-listed small-specs.specs_read (subst AreWellSigned (sym specs-are) (((integers-signed, tt), integers-signed), tt));
    }

    small-within : IsModuleWithin nesting_limit (small_module dot e)
    small-within = λ j. spec-within (codes "f") 2 18 (integer_type 2 9) (integer-within 2 9) j ++ (function-within (codes "f") 3 dot (codes "X") e within j ++ [])

    pub small-flat : IsFlatModule (small_module dot e)
    unfolding Rattle.erl_tree.specs.declared.type_expr.TypeKind.TheViews.out-TypeKind denote.Hole.Carrier.out Rattle.erl_tree.specs.declared.pattern.PatternKind.TheViews.out-PatternKind Rattle.erl_tree.specs.declared.expr.ExprKind.TheViews.out-ItemKind Rattle.erl_tree.specs.declared.expr.ExprKind.TheBlock.shown-the_row-ExprKind-0 denote.Hole.Carrier.shown denote.Hole.Carrier.hidden
    small-flat = flat-module (small_module dot e) small-formed small-readable small-specs ((((λ x. x), tt), tt), tt) (((called, tt), tt), tt) small-within limit

-- an expression of one token
leaf-flat : (e : ExprKind) → IsExpr (leaf 3 9 e) → HasRightNames (small_module 10 (leaf 3 9 e)) → Every (λ id. Among id (of_function (codes "f") 1 ∷ [])) (called_in e) → IsExprWithin nesting_limit (leaf 3 9 e) → AreInLimit (tokens_of (small_module 10 (leaf 3 9 e))) → IsFlatModule (small_module 10 (leaf 3 9 e))
leaf-flat e formed names called within limit = small-flat 10 (leaf 3 9 e) formed names called within limit

limit-identity : AreInLimit (tokens_of identity)
unfolding tokens_of all_below below_limit Rattle.erl_tree.specs.declared.type_expr.TypeKind.TheViews.out-TypeKind denote.Hole.Carrier.out Rattle.erl_tree.specs.declared.pattern.PatternKind.TheViews.out-PatternKind Rattle.erl_tree.specs.declared.expr.ExprKind.TheViews.out-ItemKind Rattle.erl_tree.specs.declared.expr.ExprKind.TheBlock.shown-the_row-ExprKind-0 denote.Hole.Carrier.shown denote.Hole.Carrier.hidden
limit-identity = tokens-in_limit (tokens_of identity) (simp (type_tokens_laws, expr_tokens_laws) refl)

identity-names : HasRightNames identity
identity-names = simp name_laws

pub identity-flat : IsFlatModule identity
identity-flat = leaf-flat (E.Var (codes "X")) (one_product _ (one_operand _ (variable (place 3 9) (codes "X")))) identity-names (simp called_laws tt) (simp expr_deep_laws refl) limit-identity

limit-constant : AreInLimit (tokens_of constant)
unfolding tokens_of all_below below_limit Rattle.erl_tree.specs.declared.type_expr.TypeKind.TheViews.out-TypeKind denote.Hole.Carrier.out Rattle.erl_tree.specs.declared.pattern.PatternKind.TheViews.out-PatternKind Rattle.erl_tree.specs.declared.expr.ExprKind.TheViews.out-ItemKind Rattle.erl_tree.specs.declared.expr.ExprKind.TheBlock.shown-the_row-ExprKind-0 denote.Hole.Carrier.shown denote.Hole.Carrier.hidden
limit-constant = tokens-in_limit (tokens_of constant) (simp (type_tokens_laws, expr_tokens_laws) refl)

constant-names : HasRightNames constant
constant-names = simp name_laws

pub constant-flat : IsFlatModule constant
constant-flat = leaf-flat (E.Atom (codes "a")) (one_product _ (one_operand _ (atom (place 3 9) (codes "a")))) constant-names (simp called_laws tt) (simp expr_deep_laws refl) limit-constant

limit-recursive : AreInLimit (tokens_of recursive)
unfolding tokens_of all_below below_limit Rattle.erl_tree.specs.declared.type_expr.TypeKind.TheViews.out-TypeKind denote.Hole.Carrier.out Rattle.erl_tree.specs.declared.pattern.PatternKind.TheViews.out-PatternKind Rattle.erl_tree.specs.declared.expr.ExprKind.TheViews.out-ItemKind Rattle.erl_tree.specs.declared.expr.ExprKind.TheBlock.shown-the_row-ExprKind-0 denote.Hole.Carrier.shown denote.Hole.Carrier.hidden
limit-recursive = tokens-in_limit (tokens_of recursive) (simp (type_tokens_laws, expr_tokens_laws) refl)

one_less-formed : IsExpr X.one_less
one_less-formed = sum Sub (leaf 3 11 (E.Var (codes "X"))) (leaf 3 15 (E.Int (pos 1))) (place 3 13) tt (one_product _ (one_operand _ (variable (place 3 11) (codes "X")))) (one_operand _ (integer (place 3 15) (pos 1)))

recursive-formed : IsExpr recursive_call
recursive-formed = one_product _ (one_operand _ (call (place 3 9) (place 3 10) (place 3 16 ∷ []) (codes "f") (X.one_less ∷ []) (last_argument X.one_less (place 3 16) one_less-formed)))

recursive-within : IsExprWithin nesting_limit recursive_call
recursive-within = simp expr_deep_laws refl

recursive-names : HasRightNames recursive
recursive-names = simp name_laws

pub recursive-flat : IsFlatModule recursive
recursive-flat = small-flat 17 recursive_call recursive-formed recursive-names (simp called_laws (inl refl, tt)) recursive-within limit-recursive

-- ---- what the modules owe

identity-owes : (fits : Test) → owed_of fits identity ≡ record { function = 0; place = place 3 9; kind = ResultKind; left = integers; right = integers } ∷ []
unfolding owed_of Rattle.erl_tree.specs.declared.type_expr.TypeKind.TheViews.out-TypeKind denote.Hole.Carrier.out Rattle.erl_tree.specs.declared.pattern.PatternKind.TheViews.out-PatternKind Rattle.erl_tree.specs.declared.expr.ExprKind.TheViews.out-ItemKind Rattle.erl_tree.specs.declared.expr.ExprKind.TheBlock.shown-the_row-ExprKind-0 denote.Hole.Carrier.shown denote.Hole.Carrier.hidden
identity-owes fits = ap (λ z. owed_by_functions fits 0 (functions_of identity) z) (specs-are 10 (leaf 3 9 (E.Var (codes "X")))) ∙ simp judge_laws refl

pub identity-safe : IsSafe identity (specs_of identity) given_definitions
identity-safe = holds-safe identity identity-flat (subst (λ z. Every Holds z) (sym (identity-owes _)) (within-same integers, tt))

constant-owes : (fits : Test) → owed_of fits constant ≡ record { function = 0; place = place 3 9; kind = ResultKind; left = AtomLit (codes "a"); right = integers } ∷ []
unfolding owed_of Rattle.erl_tree.specs.declared.type_expr.TypeKind.TheViews.out-TypeKind denote.Hole.Carrier.out Rattle.erl_tree.specs.declared.pattern.PatternKind.TheViews.out-PatternKind Rattle.erl_tree.specs.declared.expr.ExprKind.TheViews.out-ItemKind Rattle.erl_tree.specs.declared.expr.ExprKind.TheBlock.shown-the_row-ExprKind-0 denote.Hole.Carrier.shown denote.Hole.Carrier.hidden
constant-owes fits = ap (λ z. owed_by_functions fits 0 (functions_of constant) z) (specs-are 10 (leaf 3 9 (E.Atom (codes "a")))) ∙ simp judge_laws refl

constant-refuted : Refutes (One (AtomKey (codes "a"))) (AtomLit (codes "a")) integers
constant-refuted = (refl, λ h. h)

pub constant-failure : ShowsFirstFailure constant (Failed 0 (place 3 9) ResultKind (One (AtomKey (codes "a"))))
constant-failure fits finds = (record { before = []; left = AtomLit (codes "a"); right = integers; after = []; listed = constant-owes fits; earlier = tt; fails = refuted-fails (One (AtomKey (codes "a"))) (AtomLit (codes "a")) integers constant-refuted; refuted = constant-refuted }, omega arith)

recursive-owes : (fits : Test) → owed_of fits recursive ≡ record { function = 0; place = place 3 11; kind = OperandKind; left = integers; right = integers } ∷ record { function = 0; place = place 3 15; kind = OperandKind; left = one_integer (pos 1); right = integers } ∷ record { function = 0; place = place 3 9; kind = CallKind; left = And (Fun (integers ∷ []) integers ∷ []); right = Fun (integers ∷ []) (if fits (integers ∷ []) (integers ∷ []) then integers else Any) } ∷ record { function = 0; place = place 3 9; kind = ResultKind; left = if fits (integers ∷ []) (integers ∷ []) then integers else Any; right = integers } ∷ []
unfolding owed_of Rattle.erl_tree.specs.declared.type_expr.TypeKind.TheViews.out-TypeKind denote.Hole.Carrier.out Rattle.erl_tree.specs.declared.pattern.PatternKind.TheViews.out-PatternKind Rattle.erl_tree.specs.declared.expr.ExprKind.TheViews.out-ItemKind Rattle.erl_tree.specs.declared.expr.ExprKind.TheBlock.shown-the_row-ExprKind-0 denote.Hole.Carrier.shown denote.Hole.Carrier.hidden
recursive-owes fits = ap (λ z. owed_by_functions fits 0 (functions_of recursive) z) (specs-are 17 recursive_call) ∙ simp judge_laws refl

-- each integer range is within `integer()`
pub within-integers : (low high : Option ℤ) → IsWithin (Ints low high) integers
within-integers low high p i k (V.integer n) o h = refl
within-integers low high p i k (V.atom a) o h = absurd h
within-integers low high p i k V.nil o h = absurd h
within-integers low high p i k (V.cons v w) o h = absurd h
within-integers low high p i k (V.tuple vs) o h = absurd h
within-integers low high p i k (V.map_of es) o h = absurd h
within-integers low high p i k (V.named_fun name arity) o h = absurd h
within-integers low high p i k (V.closure number environment) o h = absurd h

pub recursive-safe : IsSafe recursive (specs_of recursive) given_definitions
recursive-safe = holds-safe recursive recursive-flat (subst (λ z. Every Holds z) (sym (recursive-owes (λ types params. true)))
    (within-same integers, (within-integers (Some (pos 1)) (Some (pos 1)), (call-within (integers ∷ []) (integers ∷ []) integers integers (within-same integers, tt) (within-same integers), (within-same integers, tt)))))

-- ---- runs

-- the environment with this value for `X`
abbrev with_x : V.Value → V.Environment
with_x v = with_variable (codes "X") v V.no_bindings

abbrev call_of_f : V.Value → ℕ → V.Call
call_of_f v steps = record { name = codes "f"; args = v ∷ []; left = steps }

-- what `f(X) -> E` in a module of one function does
module _ (dot : ℕ) (e : Node ExprKind) where
  abbrev small_code : Code
  small_code = code_of (small_module dot e) []

  small-runs : (v : V.Value) (steps : ℕ) → apply small_code (V.named_fun (codes "f") 1) (v ∷ []) (suc steps) ≡ R.with_calls (call_of_f v steps ∷ []) (R.run_expression small_code (apply small_code) e 0 (with_x v) steps)
  small-runs v steps = small-applied (codes "f") 3 dot (codes "X") e refl small_code 0 (first-found (codes "f") 3 dot (codes "X") e [] 0) v steps

pub identity-gives : apply (code_of identity []) (V.named_fun (codes "f") 1) (V.integer (pos 7) ∷ []) 5 ≡ record { outcome = V.came (V.integer (pos 7)); left = 4; calls = record { name = codes "f"; args = V.integer (pos 7) ∷ []; left = 4 } ∷ [] }
identity-gives = small-runs 10 (leaf 3 9 (E.Var (codes "X"))) (V.integer (pos 7)) 4
    ∙ ap (λ r. R.with_calls (call_of_f (V.integer (pos 7)) 4 ∷ []) r) (runs-Var V.wrong [] (R.arity_of (code_of identity [])) (apply (code_of identity [])) (codes "X") 0 (with_x (V.integer (pos 7))) 4)

pub unbound-wrong : (apply (code_of X.unbound []) (V.named_fun (codes "f") 1) (V.integer (pos 7) ∷ []) 5).outcome ≡ V.wrong
unbound-wrong = ap (λ r. r.outcome) (small-runs 10 (leaf 3 9 (E.Var (codes "Y"))) (V.integer (pos 7)) 4)
    ∙ ap (λ r. r.outcome) (runs-Var V.wrong [] (R.arity_of (code_of X.unbound [])) (apply (code_of X.unbound [])) (codes "Y") 0 (with_x (V.integer (pos 7))) 4)

pub arity-wrong : (apply (code_of identity []) (V.named_fun (codes "f") 2) (V.integer (pos 7) ∷ []) 5).outcome ≡ V.wrong
unfolding apply_within
arity-wrong = refl

pub none-goes : (apply (code_of identity []) (V.named_fun (codes "f") 1) (V.integer (pos 7) ∷ []) 0).outcome ≡ V.going
unfolding apply_within
none-goes = refl

constant-gives : (apply (code_of constant []) (V.named_fun (codes "f") 1) (V.integer (pos 7) ∷ []) 1).outcome ≡ V.came (V.atom (codes "a"))
constant-gives = ap (λ r. r.outcome) (small-runs 10 (leaf 3 9 (E.Atom (codes "a"))) (V.integer (pos 7)) 0)
    ∙ ap (λ r. r.outcome) (runs-Atom V.wrong [] (R.arity_of (code_of constant [])) (apply (code_of constant [])) (codes "a") 0 (with_x (V.integer (pos 7))) 0)

abbrev recursive_code : Code
recursive_code = code_of recursive []

-- `X - 1` where X is an integer
one_less-runs : (n : ℤ) (steps : ℕ) → R.run_expression recursive_code (apply recursive_code) X.one_less 0 (with_x (V.integer n)) steps ≡ R.gives (V.integer (n -ℤ pos 1)) steps
unfolding R.then
one_less-runs n steps =
    runs-Binary V.wrong [] (R.arity_of recursive_code) (apply recursive_code) Sub (leaf 3 11 (E.Var (codes "X"))) (leaf 3 15 (E.Int (pos 1))) 0 (with_x (V.integer n)) steps
    ∙ (ap (λ r. R.then r (λ v left. R.run_operator Sub v (λ rest. (one (leaf 3 15 (E.Int (pos 1)))).run behind_x (with_x (V.integer n)) rest) left)) (runs-Var V.wrong [] (R.arity_of recursive_code) (apply recursive_code) (codes "X") 0 (with_x (V.integer n)) steps)
    ∙ ap (λ r. R.then r (λ w left. R.ends (operate Sub (V.integer n) w) left)) (runs-Int V.wrong [] (R.arity_of recursive_code) (apply recursive_code) (pos 1) behind_x (with_x (V.integer n)) steps))
  where
    one : Node ExprKind → R.Part V.Value
    one e = expr_part V.wrong [] (R.arity_of recursive_code) (apply recursive_code) e

    behind_x : ℕ
    behind_x = R.behind 0 (one (leaf 3 11 (E.Var (codes "X")))).funs

-- `f(X) -> f(X - 1).` goes on with the call for the next integer
recursive-runs : (n : ℤ) (steps : ℕ) → apply recursive_code (V.named_fun (codes "f") 1) (V.integer n ∷ []) (suc steps) ≡ R.with_calls (call_of_f (V.integer n) steps ∷ []) (apply recursive_code (V.named_fun (codes "f") 1) (V.integer (n -ℤ pos 1) ∷ []) steps)
recursive-runs n steps = small-runs 17 recursive_call (V.integer n) steps
    ∙ ap (λ r. R.with_calls (call_of_f (V.integer n) steps ∷ []) r) (call-runs recursive_code (apply recursive_code) X.one_less (V.integer (n -ℤ pos 1)) 0 (with_x (V.integer n)) steps (one_less-runs n steps))

pub recursive-goes : (apply (code_of recursive []) (V.named_fun (codes "f") 1) (V.integer (pos 7) ∷ []) 2) ≡ record { outcome = V.going; left = 0; calls = record { name = codes "f"; args = V.integer (pos 7) ∷ []; left = 1 } ∷ record { name = codes "f"; args = V.integer (pos 6) ∷ []; left = 0 } ∷ [] }
recursive-goes = recursive-runs (pos 7) 1
    ∙ ap (λ r. R.with_calls (call_of_f (V.integer (pos 7)) 1 ∷ []) r) (recursive-runs (pos 6) 0
    ∙ ap (λ r. R.with_calls (call_of_f (V.integer (pos 6)) 0 ∷ []) r) (apply-none recursive_code (V.named_fun (codes "f") 1) (V.integer (pos 5) ∷ [])))

pub constant-not_safe : IsSafe constant (specs_of constant) given_definitions → ⊥
unfolding Rattle.erl_tree.specs.declared.type_expr.TypeKind.TheViews.out-TypeKind denote.Hole.Carrier.out Rattle.erl_tree.specs.declared.pattern.PatternKind.TheViews.out-PatternKind Rattle.erl_tree.specs.declared.expr.ExprKind.TheViews.out-ItemKind Rattle.erl_tree.specs.declared.expr.ExprKind.TheBlock.shown-the_row-ExprKind-0 denote.Hole.Carrier.shown denote.Hole.Carrier.hidden
constant-not_safe h =
    let r : IsRightRun (program_of (code_of constant []) small_specs given_definitions) (apply (code_of constant []) (V.named_fun (codes "f") 1) (V.integer (pos 7) ∷ []) 1) integers no_variables =
    subst (λ (z : List FunSpec). IsSafe constant z given_definitions) (specs-are 10 (leaf 3 9 (E.Atom (codes "a")))) h [] (small_function (codes "f") 3 10 (codes "X") (leaf 3 9 (E.Atom (codes "a")))) (record { params = integers ∷ []; result = integers }) no_variables (V.integer (pos 7) ∷ []) 1 (inl refl) (0, omega arith, refl) tt (λ k. (refl, tt)) in
    r.value (V.atom (codes "a")) constant-gives 0

-- ---- a module in which the second call is wrong

abbrev both_specs : List FunSpec
both_specs = spec_to_integers (codes "f") integers ∷ spec_to_integers (codes "g") (AtomLit (codes "a")) ∷ []

abbrev both_ids : List FunctionId
both_ids = of_function (codes "f") 1 ∷ of_function (codes "g") 1 ∷ []

both-read : read_specs second_call_wrong ≡ Some both_specs
both-read = λ j. and_then (spec-read (codes "f") 2 18 (integer_type 2 9) integers (integer-term 2 9) j) (λ a. and_then (and_then (spec-read (codes "g") 4 10 (X.atom_type 4 9) (AtomLit (codes "a")) (atom-term 4 9) j) (λ b. and_then (all_present []) (λ more. Some (b ∷ more)))) (λ more. Some (a ∷ more)))

both-are : specs_of second_call_wrong ≡ both_specs
unfolding specs_of
both-are = ap (λ (o : Option (List FunSpec)). unwrap_or o []) both-read

apart : of_function (codes "f") 1 ≡ of_function (codes "g") 1 → ⊥
apart e = true≢false (ap (λ (id : FunctionId). same_name id.name (codes "f")) e)

both-distinct : AreDistinct both_ids
both-distinct = ((λ a. elim a [ inl e ↦ apart e | inr b ↦ b ]), ((λ a. a), tt))

limit-second : AreInLimit (tokens_of second_call_wrong)
unfolding tokens_of all_below below_limit Rattle.erl_tree.specs.declared.type_expr.TypeKind.TheViews.out-TypeKind denote.Hole.Carrier.out Rattle.erl_tree.specs.declared.pattern.PatternKind.TheViews.out-PatternKind Rattle.erl_tree.specs.declared.expr.ExprKind.TheViews.out-ItemKind Rattle.erl_tree.specs.declared.expr.ExprKind.TheBlock.shown-the_row-ExprKind-0 denote.Hole.Carrier.shown denote.Hole.Carrier.hidden
limit-second = tokens-in_limit (tokens_of second_call_wrong) (simp (type_tokens_laws, expr_tokens_laws) refl)

call-formed : (column : ℕ) (e : ExprKind) → IsExpr (leaf 5 (column + 2) e) → IsOperand (X.small_call column e)
call-formed column e w = call (place 5 column) (place 5 (column + 1)) (place 5 (column + 3) ∷ []) (codes "f") (leaf 5 (column + 2) e ∷ []) (last_argument (leaf 5 (column + 2) e) (place 5 (column + 3)) w)

two-formed : IsExpr two_calls
two-formed = sum Add (X.small_call 9 (E.Int (pos 1))) (X.small_call 16 (E.Var (codes "Y"))) (place 5 14) tt
    (one_product _ (one_operand _ (call-formed 9 (E.Int (pos 1)) (one_product _ (one_operand _ (integer (place 5 11) (pos 1)))))))
    (one_operand _ (call-formed 16 (E.Var (codes "Y")) (one_product _ (one_operand _ (variable (place 5 18) (codes "Y"))))))

two-within : IsExprWithin nesting_limit two_calls
two-within = simp expr_deep_laws refl

leaf-within : IsExprWithin nesting_limit (leaf 3 9 (E.Var (codes "X")))
leaf-within = simp expr_deep_laws refl

atom-within : (line column : ℕ) → IsTypeWithin nesting_limit (X.atom_type line column)
atom-within line column = simp type_deep_laws refl

two-called : called_in two_calls.kind ≡ of_function (codes "f") 1 ∷ of_function (codes "f") 1 ∷ []
two-called = simp called_laws refl

leaf-formed : IsExpr (leaf 3 9 (E.Var (codes "X")))
leaf-formed = one_product _ (one_operand _ (variable (place 3 9) (codes "X")))

second-formed : IsWellFormed second_call_wrong
unfolding IsWellFormed Rattle.erl_tree.specs.declared.type_expr.TypeKind.TheViews.out-TypeKind denote.Hole.Carrier.out Rattle.erl_tree.specs.declared.pattern.PatternKind.TheViews.out-PatternKind Rattle.erl_tree.specs.declared.expr.ExprKind.TheViews.out-ItemKind Rattle.erl_tree.specs.declared.expr.ExprKind.TheBlock.shown-the_row-ExprKind-0 denote.Hole.Carrier.shown denote.Hole.Carrier.hidden
second-formed = (
  (refl, (refl, (integer-formed 2 9, tt), omega arith, tt, integer-formed 2 23, refl)),
  (
    (refl, (refl, refl, (refl, tt), omega arith, tt, (refl, leaf-formed))),
    (
      (refl, (refl, (atom-formed 4 9, tt), omega arith, tt, integer-formed 4 15, refl)),
      ((refl, (refl, refl, (refl, tt), omega arith, tt, (refl, two-formed))), tt),
    ),
  ),
)

two-own : Every (λ id. Among id both_ids) (called_in two_calls.kind)
two-own = subst (λ z. Every (λ id. Among id both_ids) z) (sym two-called) (inl refl, (inl refl, tt))

second-names : HasRightNames second_call_wrong
second-names = simp name_laws

second-specs : HasFlatSpecs second_call_wrong
second-specs = record {
  specs_read = both-read ∙ ap Some (sym both-are);
  specs_distinct = subst (λ (z : List FunSpec). AreDistinct (map spec_id z)) (sym both-are) both-distinct;
}

second-listed : listed_faults second_call_wrong ≡ []
second-listed = simp (inside_equations)

second-readable : IsReadable second_call_wrong
second-readable = record {
  right_names = second-names;
  specs = module_specs_of second_call_wrong;
  has_specs = has-specs second_call_wrong second-formed second-listed second-specs.specs_read (subst AreWellSigned (sym both-are) (((integers-signed, tt), integers-signed), (((atom-signed (codes "a"), tt), integers-signed), tt)));
}

second-within : IsModuleWithin nesting_limit second_call_wrong
second-within = λ j. spec-within (codes "f") 2 18 (integer_type 2 9) (integer-within 2 9) j
    ++ (function-within (codes "f") 3 10 (codes "X") (leaf 3 9 (E.Var (codes "X"))) leaf-within j
    ++ (spec-within (codes "g") 4 10 (X.atom_type 4 9) (atom-within 4 9) j ++ (function-within (codes "g") 5 20 (codes "Y") two_calls two-within j ++ [])))

pub second-flat : IsFlatModule second_call_wrong
unfolding Rattle.erl_tree.specs.declared.type_expr.TypeKind.TheViews.out-TypeKind denote.Hole.Carrier.out Rattle.erl_tree.specs.declared.pattern.PatternKind.TheViews.out-PatternKind Rattle.erl_tree.specs.declared.expr.ExprKind.TheViews.out-ItemKind Rattle.erl_tree.specs.declared.expr.ExprKind.TheBlock.shown-the_row-ExprKind-0 denote.Hole.Carrier.shown denote.Hole.Carrier.hidden
second-flat = flat-module second_call_wrong second-formed second-readable second-specs ((((λ x. x), tt), tt), ((((λ x. x), tt), tt), tt)) (((simp called_laws tt, tt), tt), (((two-own, tt), tt), tt)) second-within limit-second

abbrev second_code : Code
second_code = code_of second_call_wrong []

-- the number behind the fun expressions in `f`
abbrev second_first : ℕ
second_first = R.behind 0 (R.funs_in_function (small_function (codes "f") 3 10 (codes "X") (leaf 3 9 (E.Var (codes "X")))))

abbrev with_y : V.Environment
with_y = with_variable (codes "Y") (V.atom (codes "a")) V.no_bindings

-- `f` gives its argument back
f-gives : (v : V.Value) (steps : ℕ) → apply second_code (V.named_fun (codes "f") 1) (v ∷ []) (suc steps) ≡ record { outcome = V.came v; left = steps; calls = call_of_f v steps ∷ [] }
f-gives v steps = small-applied (codes "f") 3 10 (codes "X") (leaf 3 9 (E.Var (codes "X"))) refl second_code 0 (first-found (codes "f") 3 10 (codes "X") (leaf 3 9 (E.Var (codes "X"))) ((small_function (codes "g") 5 20 (codes "Y") two_calls, second_first) ∷ []) 0) v steps
    ∙ ap (λ r. R.with_calls (call_of_f v steps ∷ []) r) (runs-Var V.wrong [] (R.arity_of second_code) (apply second_code) (codes "X") 0 (with_x v) steps)

-- `f(1)`, and `f(Y)`
one-gives : (first steps : ℕ) → R.run_expression second_code (apply second_code) (X.small_call 9 (E.Int (pos 1))) first with_y (suc steps) ≡ record { outcome = V.came (V.integer (pos 1)); left = steps; calls = call_of_f (V.integer (pos 1)) steps ∷ [] }
one-gives first steps = call-runs second_code (apply second_code) (leaf 5 11 (E.Int (pos 1))) (V.integer (pos 1)) first with_y (suc steps) (runs-Int V.wrong [] (R.arity_of second_code) (apply second_code) (pos 1) first with_y (suc steps))
    ∙ f-gives (V.integer (pos 1)) steps

a-gives : (first steps : ℕ) → R.run_expression second_code (apply second_code) (X.small_call 16 (E.Var (codes "Y"))) first with_y (suc steps) ≡ record { outcome = V.came (V.atom (codes "a")); left = steps; calls = call_of_f (V.atom (codes "a")) steps ∷ [] }
a-gives first steps = call-runs second_code (apply second_code) (leaf 5 18 (E.Var (codes "Y"))) (V.atom (codes "a")) first with_y (suc steps) (runs-Var V.wrong [] (R.arity_of second_code) (apply second_code) (codes "Y") first with_y (suc steps))
    ∙ f-gives (V.atom (codes "a")) steps

-- `f(1) + f(Y)`, where Y is `a`
two-wrong : (first : ℕ) → (R.run_expression second_code (apply second_code) two_calls first with_y 2).outcome ≡ V.wrong
unfolding R.then
two-wrong first =
    ap (λ r. r.outcome) (runs-Binary V.wrong [] (R.arity_of second_code) (apply second_code) Add (X.small_call 9 (E.Int (pos 1))) (X.small_call 16 (E.Var (codes "Y"))) first with_y 2)
    ∙ (ap (λ r. (R.then r (λ v left. R.run_operator Add v (λ rest. (one (X.small_call 16 (E.Var (codes "Y")))).run behind_one with_y rest) left)).outcome) (one-gives first 1)
    ∙ ap (λ r. (R.then r (λ w left. R.ends (operate Add (V.integer (pos 1)) w) left)).outcome) (a-gives behind_one 0))
  where
    one : Node ExprKind → R.Part V.Value
    one e = expr_part V.wrong [] (R.arity_of second_code) (apply second_code) e

    behind_one : ℕ
    behind_one = R.behind first (one (X.small_call 9 (E.Int (pos 1)))).funs

pub second-wrong : (apply (code_of second_call_wrong []) (V.named_fun (codes "g") 1) (V.atom (codes "a") ∷ []) 3).outcome ≡ V.wrong
second-wrong =
    ap (λ r. r.outcome) (small-applied (codes "g") 5 20 (codes "Y") two_calls refl second_code second_first (first-found (codes "g") 5 20 (codes "Y") two_calls [] second_first) (V.atom (codes "a")) 2)
    ∙ two-wrong second_first

wrong-good : (o : V.Outcome V.Value) (p : V.Value → Type 0) → o ≡ V.wrong → ends_well o p → ⊥
wrong-good o p e h = subst (λ z. ends_well z p) e h

pub second-not_safe : IsSafe second_call_wrong (specs_of second_call_wrong) given_definitions → ⊥
unfolding Rattle.erl_tree.specs.declared.type_expr.TypeKind.TheViews.out-TypeKind denote.Hole.Carrier.out Rattle.erl_tree.specs.declared.pattern.PatternKind.TheViews.out-PatternKind Rattle.erl_tree.specs.declared.expr.ExprKind.TheViews.out-ItemKind Rattle.erl_tree.specs.declared.expr.ExprKind.TheBlock.shown-the_row-ExprKind-0 denote.Hole.Carrier.shown denote.Hole.Carrier.hidden
second-not_safe h =
    let r : IsRightRun (program_of (code_of second_call_wrong []) both_specs given_definitions) (apply (code_of second_call_wrong []) (V.named_fun (codes "g") 1) (V.atom (codes "a") ∷ []) 3) integers no_variables =
    subst (λ (z : List FunSpec). IsSafe second_call_wrong z given_definitions) both-are h [] (small_function (codes "g") 5 20 (codes "Y") two_calls) (record { params = AtomLit (codes "a") ∷ []; result = integers }) no_variables (V.atom (codes "a") ∷ []) 3 (inr (inl refl)) (0, omega arith, refl) tt (λ k. (refl, tt)) in
    wrong-good _ _ second-wrong r.good.0

-- the type of the call with `a`, which a test decides
abbrev type_of_second : Test → Term
type_of_second fits = if fits (AtomLit (codes "a") ∷ []) (integers ∷ []) then integers else Any

abbrev type_of_first : Test → Term
type_of_first fits = if fits (one_integer (pos 1) ∷ []) (integers ∷ []) then integers else Any

second-owes : (fits : Test) → owed_of fits second_call_wrong
    ≡ record { function = 0; place = place 3 9; kind = ResultKind; left = integers; right = integers }
    ∷ record { function = 1; place = place 5 9; kind = CallKind; left = And (Fun (integers ∷ []) integers ∷ []); right = Fun (one_integer (pos 1) ∷ []) (type_of_first fits) }
    ∷ record { function = 1; place = place 5 16; kind = CallKind; left = And (Fun (integers ∷ []) integers ∷ []); right = Fun (AtomLit (codes "a") ∷ []) (type_of_second fits) }
    ∷ record { function = 1; place = place 5 9; kind = OperandKind; left = type_of_first fits; right = integers }
    ∷ record { function = 1; place = place 5 16; kind = OperandKind; left = type_of_second fits; right = integers }
    ∷ record { function = 1; place = place 5 9; kind = ResultKind; left = integers; right = integers } ∷ []
unfolding owed_of Rattle.erl_tree.specs.declared.type_expr.TypeKind.TheViews.out-TypeKind denote.Hole.Carrier.out Rattle.erl_tree.specs.declared.pattern.PatternKind.TheViews.out-PatternKind Rattle.erl_tree.specs.declared.expr.ExprKind.TheViews.out-ItemKind Rattle.erl_tree.specs.declared.expr.ExprKind.TheBlock.shown-the_row-ExprKind-0 denote.Hole.Carrier.shown denote.Hole.Carrier.hidden
second-owes fits = ap (λ z. owed_by_functions fits 0 (functions_of second_call_wrong) z) both-are ∙ simp judge_laws refl

second-refuted : (r : Term) → Refutes (Missing (AtomKey (codes "a") ∷ [])) (And (Fun (integers ∷ []) integers ∷ [])) (Fun (AtomLit (codes "a") ∷ []) r)
second-refuted r = call-refuted (AtomKey (codes "a") ∷ []) (AtomLit (codes "a") ∷ []) (integers ∷ []) integers r refl (refl, tt) (λ h. h.0)

within-choice : (b : Bool) → IsWithin integers (if b then integers else Any)
within-choice true = within-same integers
within-choice false = within-any integers

-- `f(Y)` fails, whichever test of arguments is taken, and the fun that fails for `a` shows it
pub second-failure : ShowsFirstFailure second_call_wrong (Failed 1 (place 5 16) CallKind (Missing (AtomKey (codes "a") ∷ [])))
second-failure fits finds = (
  record {
    before = record { function = 0; place = place 3 9; kind = ResultKind; left = integers; right = integers } ∷ record { function = 1; place = place 5 9; kind = CallKind; left = And (Fun (integers ∷ []) integers ∷ []); right = Fun (one_integer (pos 1) ∷ []) (type_of_first fits) } ∷ [];
    left = And (Fun (integers ∷ []) integers ∷ []);
    right = Fun (AtomLit (codes "a") ∷ []) (type_of_second fits);
    after = _;
    listed = second-owes fits;
    earlier = (within-same integers, (call-within (one_integer (pos 1) ∷ []) (integers ∷ []) integers (type_of_first fits) (within-integers (Some (pos 1)) (Some (pos 1)), tt) (within-choice (fits (one_integer (pos 1) ∷ []) (integers ∷ []))), tt));
    fails = refuted-fails (Missing (AtomKey (codes "a") ∷ [])) (And (Fun (integers ∷ []) integers ∷ [])) (Fun (AtomLit (codes "a") ∷ []) (type_of_second fits)) (second-refuted (type_of_second fits));
    refuted = second-refuted (type_of_second fits);
  },
  omega arith,
)

-- ---- ranges

pub range-term : type_term X.range_type ≡ Some X.one_to_three
range-term = simp type_term_laws refl

pub range-within : IsWithin X.one_to_three integers
range-within = within-integers (Some (pos 1)) (Some (pos 3))

range-refuted : Refutes (One (IntKey (pos 4))) integers X.one_to_three
range-refuted = (refl, λ h. false≢true h)

pub range-not_all : IsWithin integers X.one_to_three → ⊥
range-not_all w = refuted-fails (One (IntKey (pos 4))) integers X.one_to_three range-refuted w
