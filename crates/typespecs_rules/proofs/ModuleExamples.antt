-- Small examples of modules, by the equations of types and of what stands inside them.
use Rattle.std.proofs.Common.{◌≡◌, ◌⊎◌, refl, ap, sym, subst, ◌∙◌, ℕ, zero, suc, ◌<◌, pos, get_or, List, [], ◌∷◌, ◌++◌, map, inl, inr, arith}
use Rattle.std.specs.Prelude.{Some, None, true, false, ◌&&◌, cond, codes, slice_get}
use Rattle.std.specs.Option.{unwrap_or}
use Rattle.std.specs.List.{Contains}
use Rattle.type_terms.specs.Definitions.{IsBarePart, itself as bare_itself, in_operand, Reaches, directly, by_way_of, list_definition, ends_definition, given_definitions}
use Rattle.type_terms.specs.Parts.{operands}
use Rattle.type_terms.specs.Paths.{IsPath, edge, onward}
use Rattle.type_terms.specs.Signs.{itself, in_not}
use Rattle.type_terms.specs.declared.term.Term.{Term, Any, Ints, AtomLit, Nil, Cons, Tuple, Or, And, Not, Var, Name as NameTerm}
use Rattle.type_terms.specs.declared.term.Def.{Def}
use Rattle.type_terms.proofs.Contained.{contains-first, contains-none}
use Rattle.type_terms.proofs.PartLaws.{kind_number, bare-step, each-of-two, operands-Or, operands-Cons, operands-Nil, operands-Var}
use Rattle.type_terms.proofs.SmallCases.{ints-well-signed}
use Rattle.type_terms.proofs.GivenDefinitions.{given}
use Rattle.erl_tree.specs.declared.token.Node.{Node}
use Rattle.erl_tree.specs.declared.type_expr.TypeKind.{TypeKind}
use Rattle.erl_tree.specs.declared.form.SpecClauseKind.{SpecClauseKind}
use Rattle.erl_runs.specs.Specs.{all_present}
use Rattle.erl_tree.specs.Lists.{Among}
use Rattle.typespecs_rules.specs.Declarations.{nothing_declared, declarations_of, type_number, record_number}
use Rattle.typespecs_rules.specs.TypeTerms.{type_term}
use Rattle.typespecs_rules.specs.TypeVariables.{parameters}
use Rattle.typespecs_rules.specs.Bounds.{bound_graph, IsCyclic}
use Rattle.typespecs_rules.specs.declared.specs.Specs.{Specs}
use Rattle.typespecs_rules.specs.SpecTerms.{definitions, record_specs, module_specs}
use Rattle.typespecs_rules.specs.RecordDefaults.{DefaultPart, default_part, may_be}
use Rattle.typespecs_rules.specs.RegularUse.{Declaration, given_declaration, arguments_of, mention_graph, expansion_graph, mentioned_by, expanded_by, all_types, by_number, IsNotRegular, PassesParameters, PassesOthers, IsInfinite}
use Rattle.typespecs_rules.specs.declared.fault.PlacedFault.{PlacedFault}
use Rattle.typespecs_rules.specs.declared.fault.TypeFault.TheVariants.{NotContractive, NegatedFun, NoSuchType, Repeated, OutOfProfile, ArityDiffers}
use Rattle.typespecs_rules.specs.declared.fault.Outside.TheVariants.{RecordDefault, CyclicBound, NonRegularType}
use Rattle.typespecs_rules.specs.TypeFaults.{listed_faults, IsTextFault, IsFirstFault, HasSpecs, of_specs, of_definitions, at_one_place, bound_leads_back, not_regular as is_not_regular}
use Rattle.typespecs_rules.specs.SmallModules.{in_line, fault, function_specs_of, name_t, name_r, types_and_a_record, parameter_twice, unknown_type, no_parameter, variable_in_a_record, no_such_field, type_twice, reserved_name, record_twice, wrong_default, right_default, bounded_once, bounded_twice, bound_with_a_variable, bounds_in_a_row, unused_bound, two_clauses, clauses_and_specs_differ, two_bounds, bound_on_itself, not_regular, infinite_record, negated_variable, atom_a, letter_a, own_bound, clause_with_own_bound, right_tuple, irregular_use, irregular_body, irregular_declaration, record_in_itself, infinite_declaration, negating_clause, negating_arrow, negating_specs, own_alternative, own_use, own_union, own_definition, own_specs, own_declaration, once_specs, bounds_once, regular, regular_use, regular_body, regular_declaration, variable}
use Rattle.typespecs_rules.proofs.TypeRuleLaws.{type_term_equations, inside_equations}
use Rattle.typespecs_rules.proofs.VariableLaws.{holds_equations, default-Int, default-Atom, default-Plus, default-Tuple}

-- ---- by hand

no_truth : {A : Type 0} → ⊥ → A
no_truth e = absurd (e)

wrong_default_is : listed_faults wrong_default ≡ fault (OutOfProfile RecordDefault) 2 17 ∷ []
wrong_default_is = ap (λ (p : DefaultPart). (cond p.default [] (fault (OutOfProfile RecordDefault) 2 17 ∷ []) ++ []) ++ []) (default-Plus _)

tuple_default : default_part right_tuple ≡ may_be true
tuple_default = default-Tuple _ ∙ (λ j. may_be ((default-Atom (codes "a") j).default && ((default-Int (pos 1) j).default && true)))

right_default_is : listed_faults right_default ≡ []
right_default_is = ap (λ (p : DefaultPart). (cond p.default [] (fault (OutOfProfile RecordDefault) 2 17 ∷ []) ++ []) ++ []) tuple_default

own_bound_graph : bound_graph (own_bound ∷ []) ≡ (0 ∷ []) ∷ []
own_bound_graph = simp (inside_equations)

own_bound_cyclic : IsCyclic (own_bound ∷ [])
own_bound_cyclic = (0, subst (λ g. IsPath g 0 0) (sym own_bound_graph) (edge 0 0 (contains-first 0 [])))

-- ---- regular uses

irregular_all : all_types irregular_declaration ≡ irregular_body ∷ irregular_use ∷ atom_a 2 18 ∷ []
irregular_all = simp (inside_equations)

irregular_mentions : mentioned_by (declarations_of not_regular) irregular_use ≡ 2 ∷ []
irregular_mentions = simp (inside_equations)

irregular_graph : mention_graph (declarations_of not_regular) ≡ [] ∷ [] ∷ (2 ∷ []) ∷ []
irregular_graph = simp (inside_equations)

irregular_arguments : all_present (map (type_term (declarations_of not_regular) (parameters (letter_a ∷ []))) (arguments_of irregular_use)) ≡ Some (AtomLit (codes "a") ∷ [])
irregular_arguments = simp (type_term_equations, inside_equations)

passes_other : PassesParameters (declarations_of not_regular) (letter_a ∷ []) irregular_use → ⊥
passes_other e = different (sym irregular_arguments ∙ e)
  where
    different : Some (AtomLit (codes "a") ∷ []) ≡ Some (Var 0 ∷ []) → ⊥
    different q = absurd (cc)

irregular : IsNotRegular (declarations_of not_regular) irregular_use
irregular = record {
  number = 2;
  declaration = irregular_declaration;
  numbered = refl;
  inside = subst (λ ts. Among irregular_use ts) (sym irregular_all) (inr (inl refl));
  why = inl (2, subst (λ ns. Among 2 ns) (sym irregular_mentions) (inl refl), subst (λ g. IsPath g 2 2) (sym irregular_graph) (edge 2 2 (contains-first 2 [])), passes_other);
}

infinite_all : all_types infinite_declaration ≡ record_in_itself ∷ atom_a 2 27 ∷ []
infinite_all = simp (inside_equations)

infinite_expansions : expanded_by (declarations_of infinite_record) record_in_itself ≡ 2 ∷ []
infinite_expansions = simp (inside_equations)

infinite_graph : expansion_graph (declarations_of infinite_record) ≡ [] ∷ [] ∷ (2 ∷ []) ∷ []
infinite_graph = simp (inside_equations)

infinite : IsNotRegular (declarations_of infinite_record) record_in_itself
infinite = record {
  number = 2;
  declaration = infinite_declaration;
  numbered = refl;
  inside = subst (λ ts. Among record_in_itself ts) (sym infinite_all) (inl refl);
  why = inr (2, subst (λ ns. Among 2 ns) (sym infinite_expansions) (inl refl), subst (λ g. IsPath g 2 2) (sym infinite_graph) (edge 2 2 (contains-first 2 [])));
}

-- ---- modules without declarations

nothing_inside : (n : ℕ) (d : Declaration) (t : Node TypeKind) → slice_get (by_number nothing_declared) n ≡ Some d → Among t (all_types d) → ⊥
nothing_inside zero d t e a = subst (λ x. Among t (all_types x)) (sym (ap (λ o. unwrap_or o given_declaration) e)) a
nothing_inside (suc zero) d t e a = subst (λ x. Among t (all_types x)) (sym (ap (λ o. unwrap_or o given_declaration) e)) a
nothing_inside (suc (suc n)) d t e a = absurd (cc)

all_regular : (t : Node TypeKind) → IsNotRegular nothing_declared t → ⊥
all_regular t r = nothing_inside r.number r.declaration t r.numbered r.inside

no_cycle : IsCyclic [] → ⊥
no_cycle (i, p) = no_path i i p
  where
    no_path : (n m : ℕ) → IsPath [] n m → ⊥
    no_path _ _ (edge n m c) = contains-none m c
    no_path _ _ (onward n k m p' c) = contains-none m c

-- ---- a negated variable

negated_listed : listed_faults negated_variable ≡ []
negated_listed = simp (inside_equations)

negated_no_fault : (f : PlacedFault) → IsTextFault negated_variable f → ⊥
negated_no_fault f (at_one_place _ a) = subst (λ fs. Among f fs) negated_listed a
negated_no_fault _ (bound_leads_back c (inl e) k) = no_cycle (subst (λ (x : Node SpecClauseKind). IsCyclic x.kind.bounds) e k)
negated_no_fault _ (bound_leads_back c (inr e) k) = e
negated_no_fault _ (is_not_regular t r) = all_regular t r

negated_terms : module_specs negated_variable ≡ Some negating_specs
negated_terms = simp (type_term_equations, inside_equations, holds_equations)

negated : IsFirstFault negated_variable (fault NegatedFun 2 8)
negated = of_specs negating_specs (record { no_fault = negated_no_fault; terms = negated_terms }) given.contractive (record {
  number = 0;
  clause = negating_clause;
  arrow = negating_arrow;
  written = refl;
  meant = refl;
  fault = refl;
  not_signed = λ w. w.0.0.no_odd_variable 0 (in_not false (Var 0) (Var 0) (Not (Var 0)) refl (itself (Var 0)));
  first = λ i a l e. absurd (omega arith);
})

-- ---- a type that reaches itself

own_listed : listed_faults own_alternative ≡ []
own_listed = simp (inside_equations)

own_all : all_types own_declaration ≡ own_union ∷ own_use ∷ atom_a 2 20 ∷ []
own_all = simp (inside_equations)

own_passes : PassesParameters (declarations_of own_alternative) [] own_use
own_passes = simp (inside_equations)

union_mentions : mentioned_by (declarations_of own_alternative) own_union ≡ []
union_mentions = simp (inside_equations)

atom_mentions : mentioned_by (declarations_of own_alternative) (atom_a 2 20) ≡ []
atom_mentions = simp (inside_equations)

union_expands : expanded_by (declarations_of own_alternative) own_union ≡ []
union_expands = simp (inside_equations)

use_expands : expanded_by (declarations_of own_alternative) own_use ≡ []
use_expands = simp (inside_equations)

atom_expands : expanded_by (declarations_of own_alternative) (atom_a 2 20) ≡ []
atom_expands = simp (inside_equations)

abbrev OwnFault : Node TypeKind → Type 0
OwnFault t = PassesOthers (declarations_of own_alternative) 2 own_declaration t ⊎ IsInfinite (declarations_of own_alternative) 2 t

union_right : OwnFault own_union → ⊥
union_right (inl (used, a, p, o)) = subst (λ ns. Among used ns) union_mentions a
union_right (inr (used, a, p)) = subst (λ ns. Among used ns) union_expands a

use_right : OwnFault own_use → ⊥
use_right (inl (used, a, p, o)) = o own_passes
use_right (inr (used, a, p)) = subst (λ ns. Among used ns) use_expands a

atom_right : OwnFault (atom_a 2 20) → ⊥
atom_right (inl (used, a, p, o)) = subst (λ ns. Among used ns) atom_mentions a
atom_right (inr (used, a, p)) = subst (λ ns. Among used ns) atom_expands a

own_right : (t : Node TypeKind) → Among t (own_union ∷ own_use ∷ atom_a 2 20 ∷ []) → OwnFault t → ⊥
own_right t (inl e) w = union_right (subst OwnFault e w)
own_right t (inr (inl e)) w = use_right (subst OwnFault e w)
own_right t (inr (inr (inl e))) w = atom_right (subst OwnFault e w)
own_right t (inr (inr (inr e))) w = e

own_inside : (n : ℕ) (d : Declaration) (t : Node TypeKind) → slice_get (by_number (declarations_of own_alternative)) n ≡ Some d → Among t (all_types d) → (PassesOthers (declarations_of own_alternative) n d t ⊎ IsInfinite (declarations_of own_alternative) n t) → ⊥
own_inside zero d t e a w = subst (λ x. Among t (all_types x)) (sym (ap (λ o. unwrap_or o given_declaration) e)) a
own_inside (suc zero) d t e a w = subst (λ x. Among t (all_types x)) (sym (ap (λ o. unwrap_or o given_declaration) e)) a
own_inside (suc (suc zero)) d t e a w = own_right t (subst (λ ts. Among t ts) own_all (subst (λ x. Among t (all_types x)) (sym same) a)) (subst (λ x. PassesOthers (declarations_of own_alternative) 2 x t ⊎ IsInfinite (declarations_of own_alternative) 2 t) (sym same) w)
  where
    same : own_declaration ≡ d
    same = ap (λ o. unwrap_or o given_declaration) e
own_inside (suc (suc (suc n))) d t e a w = absurd (cc)

own_no_fault : (f : PlacedFault) → IsTextFault own_alternative f → ⊥
own_no_fault f (at_one_place _ a) = subst (λ fs. Among f fs) own_listed a
own_no_fault _ (bound_leads_back c a k) = a
own_no_fault _ (is_not_regular t r) = own_inside r.number r.declaration t r.numbered r.inside r.why

own_terms : module_specs own_alternative ≡ Some own_specs
own_terms = simp (type_term_equations)

bare_operand : (defs : List Def) (ts : List Term) (t : Term) → Contains ts t → IsBarePart defs t (Or ts)
bare_operand defs ts t c = in_operand t t (Or ts) (subst (λ (us : List Term). Contains us t) (sym (operands-Or ts)) c) (bare_itself t)

own_reaches : Reaches own_specs.defs 2 2
own_reaches = directly 2 2 own_definition [] refl (bare_operand own_specs.defs (NameTerm 2 [] ∷ AtomLit (codes "a") ∷ []) (NameTerm 2 []) (contains-first (NameTerm 2 []) (AtomLit (codes "a") ∷ [])))

abbrev NoName : Term → Type 0
NoName p = kind_number p ≡ 16 → ⊥

bare_leaf : (w : Term) → operands w ≡ [] → (kind_number w ≡ 16 → ⊥) → (p : Term) → IsBarePart own_specs.defs p w → NoName p
bare_leaf w e no_name = bare-step own_specs.defs NoName w [] e no_name no_name (λ c k. absurd (contains-none c k))

abbrev NoBareName : Term → Type 0
NoBareName c = (p : Term) → IsBarePart own_specs.defs p c → kind_number p ≡ 16 → ⊥

list_bare : NoBareName list_definition.body
list_bare = bare-step own_specs.defs NoName list_definition.body (Nil ∷ Cons (Var 0) (NameTerm 0 (Var 0 ∷ [])) ∷ []) (operands-Or _) (λ e. omega arith) (λ e. omega arith)
    (each-of-two NoBareName Nil (Cons (Var 0) (NameTerm 0 (Var 0 ∷ []))) (bare_leaf Nil operands-Nil (λ e. omega arith)) (bare_leaf (Cons (Var 0) (NameTerm 0 (Var 0 ∷ []))) (operands-Cons _ _) (λ e. omega arith)))

ends_bare : NoBareName ends_definition.body
ends_bare = bare-step own_specs.defs NoName ends_definition.body (Var 1 ∷ Cons (Var 0) (NameTerm 1 (Var 0 ∷ Var 1 ∷ [])) ∷ []) (operands-Or _) (λ e. omega arith) (λ e. omega arith)
    (each-of-two NoBareName (Var 1) (Cons (Var 0) (NameTerm 1 (Var 0 ∷ Var 1 ∷ []))) (bare_leaf (Var 1) (operands-Var 1) (λ e. omega arith)) (bare_leaf (Cons (Var 0) (NameTerm 1 (Var 0 ∷ Var 1 ∷ []))) (operands-Cons _ _) (λ e. omega arith)))

given_name : (n : ℕ) (d : Def) (p : Term) → slice_get own_specs.defs n ≡ Some d → IsBarePart own_specs.defs p d.body → n < 2 → NoName p
given_name zero d p e b l = list_bare p (subst (λ (x : Def). IsBarePart own_specs.defs p x.body) (sym (ap (λ o. unwrap_or o list_definition) e)) b)
given_name (suc zero) d p e b l = ends_bare p (subst (λ (x : Def). IsBarePart own_specs.defs p x.body) (sym (ap (λ o. unwrap_or o list_definition) e)) b)
given_name (suc (suc n)) d p e b l = absurd (omega arith)

given_reach : (n m : ℕ) → Reaches own_specs.defs n m → n < 2 → ⊥
given_reach _ _ (directly n m def args e b) l = given_name n def (NameTerm m args) e b l refl
given_reach _ _ (by_way_of n k m r q) l = given_reach n k r l

alternative : IsFirstFault own_alternative (fault NotContractive 2 7)
alternative = of_definitions own_specs (record { no_fault = own_no_fault; terms = own_terms }) (record {
  index = 0;
  place = in_line 2 7;
  named = refl;
  fault = refl;
  reaches = own_reaches;
  first = λ n l r. given_reach n n r l;
})

-- ---- a module with nothing wrong

once_listed : listed_faults bounded_once ≡ []
once_listed = simp (inside_equations)

once_graph : bound_graph bounds_once ≡ [] ∷ [] ∷ []
once_graph = simp (inside_equations)

abbrev no_edges : List (List ℕ)
no_edges = [] ∷ [] ∷ []

no_edge : (n m : ℕ) → Contains (get_or no_edges n []) m → ⊥
no_edge zero m c = contains-none m c
no_edge (suc zero) m c = contains-none m c
no_edge (suc (suc n)) m c = contains-none m c

no_way : (n m : ℕ) → IsPath no_edges n m → ⊥
no_way _ _ (edge n m c) = no_edge n m c
no_way _ _ (onward n k m p c) = no_edge k m c

once_acyclic : IsCyclic bounds_once → ⊥
once_acyclic (i, p) = no_way i i (subst (λ g. IsPath g i i) once_graph p)

once_no_fault : (f : PlacedFault) → IsTextFault bounded_once f → ⊥
once_no_fault f (at_one_place _ a) = subst (λ fs. Among f fs) once_listed a
once_no_fault _ (bound_leads_back c (inl e) k) = once_acyclic (subst (λ (x : Node SpecClauseKind). IsCyclic x.kind.bounds) e k)
once_no_fault _ (bound_leads_back c (inr e) k) = e
once_no_fault _ (is_not_regular t r) = all_regular t r

once_terms : module_specs bounded_once ≡ Some once_specs
once_terms = simp (type_term_equations, inside_equations, holds_equations)

once_right : HasSpecs bounded_once once_specs
once_right = record {
  terms = record { no_fault = once_no_fault; terms = once_terms };
  contractive = given.contractive;
  well_signed = (((ints-well-signed _ _ _, tt), ints-well-signed _ _ _), tt);
}

once_only : (s : Specs) → HasSpecs bounded_once s → s ≡ once_specs
once_only s h = ap (λ o. unwrap_or o once_specs) (sym h.terms.terms ∙ once_terms)

-- ---- a type that passes its own parameters

regular_listed : listed_faults regular ≡ []
regular_listed = simp (inside_equations)

regular_all : all_types regular_declaration ≡ regular_body ∷ regular_use ∷ variable letter_a 2 18 ∷ []
regular_all = simp (inside_equations)

regular_passes : PassesParameters (declarations_of regular) (letter_a ∷ []) regular_use
regular_passes = simp (type_term_equations, inside_equations)

body_mentions : mentioned_by (declarations_of regular) regular_body ≡ []
body_mentions = simp (inside_equations)

variable_mentions : mentioned_by (declarations_of regular) (variable letter_a 2 18) ≡ []
variable_mentions = simp (inside_equations)

body_expands : expanded_by (declarations_of regular) regular_body ≡ []
body_expands = simp (inside_equations)

regular_expands : expanded_by (declarations_of regular) regular_use ≡ []
regular_expands = simp (inside_equations)

variable_expands : expanded_by (declarations_of regular) (variable letter_a 2 18) ≡ []
variable_expands = simp (inside_equations)

abbrev RegularFault : Node TypeKind → Type 0
RegularFault t = PassesOthers (declarations_of regular) 2 regular_declaration t ⊎ IsInfinite (declarations_of regular) 2 t

body_right : RegularFault regular_body → ⊥
body_right (inl (used, a, p, o)) = subst (λ ns. Among used ns) body_mentions a
body_right (inr (used, a, p)) = subst (λ ns. Among used ns) body_expands a

parameter_right : RegularFault regular_use → ⊥
parameter_right (inl (used, a, p, o)) = o regular_passes
parameter_right (inr (used, a, p)) = subst (λ ns. Among used ns) regular_expands a

variable_right : RegularFault (variable letter_a 2 18) → ⊥
variable_right (inl (used, a, p, o)) = subst (λ ns. Among used ns) variable_mentions a
variable_right (inr (used, a, p)) = subst (λ ns. Among used ns) variable_expands a

regular_right : (t : Node TypeKind) → Among t (regular_body ∷ regular_use ∷ variable letter_a 2 18 ∷ []) → RegularFault t → ⊥
regular_right t (inl e) w = body_right (subst RegularFault e w)
regular_right t (inr (inl e)) w = parameter_right (subst RegularFault e w)
regular_right t (inr (inr (inl e))) w = variable_right (subst RegularFault e w)
regular_right t (inr (inr (inr e))) w = e

regular_inside : (n : ℕ) (d : Declaration) (t : Node TypeKind) → slice_get (by_number (declarations_of regular)) n ≡ Some d → Among t (all_types d) → (PassesOthers (declarations_of regular) n d t ⊎ IsInfinite (declarations_of regular) n t) → ⊥
regular_inside zero d t e a w = subst (λ x. Among t (all_types x)) (sym (ap (λ o. unwrap_or o given_declaration) e)) a
regular_inside (suc zero) d t e a w = subst (λ x. Among t (all_types x)) (sym (ap (λ o. unwrap_or o given_declaration) e)) a
regular_inside (suc (suc zero)) d t e a w = regular_right t (subst (λ ts. Among t ts) regular_all (subst (λ x. Among t (all_types x)) (sym same) a)) (subst (λ x. PassesOthers (declarations_of regular) 2 x t ⊎ IsInfinite (declarations_of regular) 2 t) (sym same) w)
  where
    same : regular_declaration ≡ d
    same = ap (λ o. unwrap_or o given_declaration) e
regular_inside (suc (suc (suc n))) d t e a w = absurd (cc)

regular_no_fault : (f : PlacedFault) → IsTextFault regular f → ⊥
regular_no_fault f (at_one_place _ a) = subst (λ fs. Among f fs) regular_listed a
regular_no_fault _ (bound_leads_back c a k) = a
regular_no_fault _ (is_not_regular t r) = regular_inside r.number r.declaration t r.numbered r.inside r.why

-- ---- declarations

pub declarations-no_parameters : type_number (declarations_of types_and_a_record) name_t 0 ≡ Some 2
declarations-no_parameters = refl

pub declarations-one_parameter : type_number (declarations_of types_and_a_record) name_t 1 ≡ Some 3
declarations-one_parameter = refl

pub declarations-two_parameters : type_number (declarations_of types_and_a_record) name_t 2 ≡ None
declarations-two_parameters = refl

pub declarations-record_number : record_number (declarations_of types_and_a_record) name_r ≡ Some 6
declarations-record_number = refl

pub declarations-definitions : definitions (declarations_of types_and_a_record) ≡ Some (given_definitions ++ (record { params = 0; body = AtomLit (codes "a") } ∷ record { params = 1; body = NameTerm 0 (Var 0 ∷ []) } ∷ record { params = 0; body = Tuple (AtomLit name_r ∷ AtomLit (codes "a") ∷ NameTerm 3 (AtomLit (codes "a") ∷ []) ∷ []) } ∷ record { params = 0; body = NameTerm 6 [] } ∷ record { params = 0; body = Tuple (AtomLit name_r ∷ Any ∷ NameTerm 3 (AtomLit (codes "a") ∷ []) ∷ []) } ∷ []))
declarations-definitions = simp (type_term_equations)

pub declarations-records : record_specs (declarations_of types_and_a_record) ≡ record { name = name_r; fields = codes "f" ∷ codes "g" ∷ []; def = 6 } ∷ []
declarations-records = refl

pub declarations-right : listed_faults types_and_a_record ≡ []
declarations-right = simp (inside_equations)

pub declarations-parameter_twice : definitions (declarations_of parameter_twice) ≡ Some (given_definitions ++ record { params = 2; body = Var 0 } ∷ [])
declarations-parameter_twice = simp (type_term_equations)

pub declarations-no_fault : listed_faults parameter_twice ≡ []
declarations-no_fault = simp (inside_equations)

-- ---- variables of specs

pub variables_of_specs-bounded_once : function_specs_of bounded_once ≡ Some (record { name = codes "f"; arity = 1; vars = 0; clauses = record { params = Ints None None ∷ []; result = Ints None None } ∷ [] } ∷ [])
variables_of_specs-bounded_once = simp (type_term_equations, inside_equations, holds_equations)

pub variables_of_specs-bounded_twice : function_specs_of bounded_twice ≡ Some (record { name = codes "f"; arity = 1; vars = 2; clauses = record { params = And (Var 0 ∷ NameTerm 0 (Var 1 ∷ []) ∷ []) ∷ []; result = And (Var 0 ∷ NameTerm 0 (Var 1 ∷ []) ∷ []) } ∷ [] } ∷ [])
variables_of_specs-bounded_twice = simp (type_term_equations, inside_equations, holds_equations)

pub variables_of_specs-bound_with_a_variable : function_specs_of bound_with_a_variable ≡ Some (record { name = codes "f"; arity = 1; vars = 1; clauses = record { params = NameTerm 0 (Var 0 ∷ []) ∷ []; result = Var 0 } ∷ [] } ∷ [])
variables_of_specs-bound_with_a_variable = simp (type_term_equations, inside_equations, holds_equations)

pub variables_of_specs-bounds_in_a_row : function_specs_of bounds_in_a_row ≡ Some (record { name = codes "f"; arity = 1; vars = 1; clauses = record { params = NameTerm 0 (Var 0 ∷ []) ∷ []; result = AtomLit (codes "a") } ∷ [] } ∷ [])
variables_of_specs-bounds_in_a_row = simp (type_term_equations, inside_equations, holds_equations)

pub variables_of_specs-unused_bound : function_specs_of unused_bound ≡ Some (record { name = codes "f"; arity = 1; vars = 0; clauses = record { params = Any ∷ []; result = AtomLit (codes "a") } ∷ [] } ∷ [])
variables_of_specs-unused_bound = simp (type_term_equations, inside_equations, holds_equations)

pub variables_of_specs-two_clauses : function_specs_of two_clauses ≡ Some (record { name = codes "f"; arity = 1; vars = 3; clauses = record { params = Var 0 ∷ []; result = Var 1 } ∷ record { params = Var 2 ∷ []; result = Var 2 } ∷ [] } ∷ [])
variables_of_specs-two_clauses = simp (type_term_equations, inside_equations, holds_equations)

-- ---- faults of declarations

pub faults_of_declarations-unknown_type : listed_faults unknown_type ≡ fault NoSuchType 2 14 ∷ []
faults_of_declarations-unknown_type = simp (inside_equations)

pub faults_of_declarations-no_parameter : listed_faults no_parameter ≡ fault NoSuchType 2 14 ∷ []
faults_of_declarations-no_parameter = simp (inside_equations)

pub faults_of_declarations-variable_in_a_record : listed_faults variable_in_a_record ≡ fault NoSuchType 2 18 ∷ []
faults_of_declarations-variable_in_a_record = simp (inside_equations)

pub faults_of_declarations-no_such_field : listed_faults no_such_field ≡ fault NoSuchType 3 17 ∷ []
faults_of_declarations-no_such_field = simp (inside_equations)

pub faults_of_declarations-type_twice : listed_faults type_twice ≡ fault Repeated 3 1 ∷ []
faults_of_declarations-type_twice = simp (inside_equations)

pub faults_of_declarations-reserved_name : listed_faults reserved_name ≡ fault Repeated 2 1 ∷ []
faults_of_declarations-reserved_name = simp (inside_equations)

pub faults_of_declarations-record_twice : listed_faults record_twice ≡ fault Repeated 2 16 ∷ fault Repeated 3 1 ∷ []
faults_of_declarations-record_twice = refl

pub faults_of_declarations-wrong_default : listed_faults wrong_default ≡ fault (OutOfProfile RecordDefault) 2 17 ∷ []
faults_of_declarations-wrong_default = wrong_default_is

pub faults_of_declarations-right_default : listed_faults right_default ≡ []
faults_of_declarations-right_default = right_default_is

-- ---- faults of specs

pub faults_of_specs-clauses_and_specs_differ : listed_faults clauses_and_specs_differ ≡ fault ArityDiffers 2 18 ∷ fault Repeated 3 1 ∷ []
faults_of_specs-clauses_and_specs_differ = simp (inside_equations)

pub faults_of_specs-two_bounds : listed_faults two_bounds ≡ fault Repeated 2 8 ∷ []
faults_of_specs-two_bounds = simp (inside_equations)

pub faults_of_specs-bounded_once : listed_faults bounded_once ≡ []
faults_of_specs-bounded_once = simp (inside_equations)

pub faults_of_specs-bound_on_itself : IsTextFault bound_on_itself (fault (OutOfProfile CyclicBound) 2 8)
faults_of_specs-bound_on_itself = bound_leads_back clause_with_own_bound (inl refl) own_bound_cyclic

-- ---- regular uses

pub regular_uses-not_regular : IsTextFault not_regular (fault (OutOfProfile NonRegularType) 2 16)
regular_uses-not_regular = is_not_regular irregular_use irregular

pub regular_uses-infinite_record : IsTextFault infinite_record (fault (OutOfProfile NonRegularType) 2 21)
regular_uses-infinite_record = is_not_regular record_in_itself infinite

pub regular_uses-regular : (f : PlacedFault) → IsTextFault regular f → ⊥
regular_uses-regular = regular_no_fault

-- ---- faults of terms

pub faults_of_terms-negated_variable : IsFirstFault negated_variable (fault NegatedFun 2 8)
faults_of_terms-negated_variable = negated

pub faults_of_terms-own_alternative : IsFirstFault own_alternative (fault NotContractive 2 7)
faults_of_terms-own_alternative = alternative

-- ---- right modules

pub right_modules-bounded_once : HasSpecs bounded_once once_specs
right_modules-bounded_once = once_right

pub right_modules-once_alone : (s : Specs) → HasSpecs bounded_once s → s ≡ once_specs
right_modules-once_alone = once_only
