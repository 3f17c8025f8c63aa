-- Small examples of types that stand alone, by the equations of what they are and of what stands inside them.
use Rattle.std.proofs.Common.{◌≡◌, refl, sym, subst, pos, negsuc, [], ◌∷◌, inl, inr}
use Rattle.std.specs.Prelude.{Some, None, true, false, codes}
use Rattle.type_terms.specs.declared.term.Term.{Any, None as NoValue, Ints, AtomLit, AnyAtom, Nil, Cons, Tuple, AnyTuple, Map, Fun, AnyFun, Or, And, Not, Var}
use Rattle.type_terms.specs.declared.term.Key.TheVariants.{Int as IntKey, Atom as AtomKey}
use Rattle.erl_tree.specs.declared.type_expr.TypeKind.TheVariants as Y
use Rattle.erl_tree.specs.Lists.{Among, Every}
use Rattle.typespecs_rules.specs.BuiltInTypes.{list_of, nonempty_list_of}
use Rattle.typespecs_rules.specs.Declarations.{nothing_declared}
use Rattle.typespecs_rules.specs.SpecTerms.{term_behind}
use Rattle.typespecs_rules.specs.declared.fault.TypeFault.TheVariants.{Repeated, BadRange, OutOfProfile, NoSuchType}
use Rattle.typespecs_rules.specs.declared.fault.Outside.TheVariants.{MapKey, UnusableType}
use Rattle.typespecs_rules.specs.TypeFaults.{is_earlier, IsFirstTypeFault}
use Rattle.typespecs_rules.specs.SmallTypes.{alone, wrong, fault, at, used, atom_a, atom_b, range_of_characters, empty_range, some_map, one_key_twice, key_in_parentheses, key_out_of_profile, required_rest, zero_twice, rest_twice, key_unknown}
use Rattle.typespecs_rules.proofs.TypeRuleLaws.{type_term_equations, inside_equations}

out_of_profile_key_faults : wrong key_out_of_profile ≡ fault (OutOfProfile MapKey) 3 ∷ fault (OutOfProfile UnusableType) 3 ∷ []
out_of_profile_key_faults = simp (inside_equations)

unknown_key_faults : wrong key_unknown ≡ fault (OutOfProfile MapKey) 3 ∷ fault NoSuchType 3 ∷ []
unknown_key_faults = simp (inside_equations)

-- ---- built in types

pub built_in_types-any : alone (used (codes "any") []) ≡ Some Any
built_in_types-any = simp (type_term_equations)

pub built_in_types-none : alone (used (codes "no_return") []) ≡ Some NoValue
built_in_types-none = simp (type_term_equations)

pub built_in_types-integer : alone (used (codes "integer") []) ≡ Some (Ints None None)
built_in_types-integer = simp (type_term_equations)

pub built_in_types-not_negative : alone (used (codes "non_neg_integer") []) ≡ Some (Ints (Some (pos 0)) None)
built_in_types-not_negative = simp (type_term_equations)

pub built_in_types-negative : alone (used (codes "neg_integer") []) ≡ Some (Ints None (Some (negsuc 0)))
built_in_types-negative = simp (type_term_equations)

pub built_in_types-byte : alone (used (codes "byte") []) ≡ Some (Ints (Some (pos 0)) (Some (pos 255)))
built_in_types-byte = simp (type_term_equations)

pub built_in_types-character : alone (used (codes "char") []) ≡ Some (Ints (Some (pos 0)) (Some (pos 1114111)))
built_in_types-character = simp (type_term_equations)

pub built_in_types-atom : alone (used (codes "atom") []) ≡ Some AnyAtom
built_in_types-atom = simp (type_term_equations)

pub built_in_types-boolean : alone (used (codes "boolean") []) ≡ Some (Or (AtomLit (codes "true") ∷ AtomLit (codes "false") ∷ []))
built_in_types-boolean = simp (type_term_equations)

pub built_in_types-timeout : alone (used (codes "timeout") []) ≡ Some (Or (AtomLit (codes "infinity") ∷ Ints (Some (pos 0)) None ∷ []))
built_in_types-timeout = simp (type_term_equations)

pub built_in_types-nil : alone (used (codes "nil") []) ≡ Some Nil
built_in_types-nil = simp (type_term_equations)

pub built_in_types-list : alone (used (codes "list") []) ≡ Some (list_of Any)
built_in_types-list = simp (type_term_equations)

pub built_in_types-list_of_a : alone (used (codes "list") (atom_a 6 ∷ [])) ≡ Some (list_of (AtomLit (codes "a")))
built_in_types-list_of_a = simp (type_term_equations)

pub built_in_types-string : alone (used (codes "string") []) ≡ Some (list_of (Ints (Some (pos 0)) (Some (pos 1114111))))
built_in_types-string = simp (type_term_equations)

pub built_in_types-nonempty_string : alone (used (codes "nonempty_string") []) ≡ Some (nonempty_list_of (Ints (Some (pos 0)) (Some (pos 1114111))))
built_in_types-nonempty_string = simp (type_term_equations)

pub built_in_types-tuple : alone (used (codes "tuple") []) ≡ Some AnyTuple
built_in_types-tuple = simp (type_term_equations)

pub built_in_types-mfa : alone (used (codes "mfa") []) ≡ Some (Tuple (AnyAtom ∷ AnyAtom ∷ Ints (Some (pos 0)) (Some (pos 255)) ∷ []))
built_in_types-mfa = simp (type_term_equations)

pub built_in_types-map : alone (used (codes "map") []) ≡ Some (Map [] (Some Any) (Some Any))
built_in_types-map = simp (type_term_equations)

pub built_in_types-function : alone (used (codes "function") []) ≡ Some (AnyFun None)
built_in_types-function = simp (type_term_equations)

-- ---- types by their form

pub types_by_their_form-wildcard : alone (Y.Var (codes "_")) ≡ Some Any
types_by_their_form-wildcard = simp (type_term_equations)

pub types_by_their_form-atom : alone (Y.Atom (codes "a")) ≡ Some (AtomLit (codes "a"))
types_by_their_form-atom = simp (type_term_equations)

pub types_by_their_form-negative : alone (Y.NegInt (pos 1)) ≡ Some (Ints (Some (negsuc 0)) (Some (negsuc 0)))
types_by_their_form-negative = simp (type_term_equations)

pub types_by_their_form-character : alone (Y.Char 97) ≡ Some (Ints (Some (pos 97)) (Some (pos 97)))
types_by_their_form-character = simp (type_term_equations)

pub types_by_their_form-range : alone range_of_characters ≡ Some (Ints (Some (pos 1)) (Some (pos 97)))
types_by_their_form-range = simp (type_term_equations)

pub types_by_their_form-empty_range : alone empty_range ≡ None
types_by_their_form-empty_range = simp (type_term_equations)

pub types_by_their_form-nil : alone Y.Nil ≡ Some Nil
types_by_their_form-nil = simp (type_term_equations)

pub types_by_their_form-list : alone (Y.ListOf (atom_a 2)) ≡ Some (list_of (AtomLit (codes "a")))
types_by_their_form-list = simp (type_term_equations)

pub types_by_their_form-nonempty_list : alone (Y.NonEmpty (atom_a 2)) ≡ Some (Cons (AtomLit (codes "a")) (list_of (AtomLit (codes "a"))))
types_by_their_form-nonempty_list = simp (type_term_equations)

pub types_by_their_form-tuple : alone (Y.Tuple (atom_a 2 ∷ atom_b 4 ∷ [])) ≡ Some (Tuple (AtomLit (codes "a") ∷ AtomLit (codes "b") ∷ []))
types_by_their_form-tuple = simp (type_term_equations)

pub types_by_their_form-any_fun : alone Y.FunAll ≡ Some (AnyFun None)
types_by_their_form-any_fun = simp (type_term_equations)

pub types_by_their_form-fun_type : alone (Y.Fun (at 6 (Y.Named (codes "X") (atom_a 11)) ∷ []) (atom_b 17)) ≡ Some (Fun (AtomLit (codes "a") ∷ []) (AtomLit (codes "b")))
types_by_their_form-fun_type = simp (type_term_equations)

pub types_by_their_form-unions : alone (Y.Or (atom_a 1) (at 5 (Y.Or (atom_b 5) (at 9 (Y.Paren (atom_a 10)))))) ≡ Some (Or (AtomLit (codes "a") ∷ Or (AtomLit (codes "b") ∷ AtomLit (codes "a") ∷ []) ∷ []))
types_by_their_form-unions = simp (type_term_equations)

pub types_by_their_form-intersection : alone (Y.Use (Some (codes "ety")) (codes "intersection") (atom_a 18 ∷ atom_b 20 ∷ [])) ≡ Some (And (AtomLit (codes "a") ∷ AtomLit (codes "b") ∷ []))
types_by_their_form-intersection = simp (type_term_equations)

pub types_by_their_form-negation : alone (Y.Use (Some (codes "ety")) (codes "negation") (atom_a 14 ∷ [])) ≡ Some (Not (AtomLit (codes "a")))
types_by_their_form-negation = simp (type_term_equations)

-- ---- map types

pub map_types-fields_and_rests : alone some_map ≡ Some (Map (record { key = IntKey (pos 1); required = false; term = AtomLit (codes "b") } ∷ record { key = AtomKey (codes "a"); required = true; term = AtomLit (codes "a") } ∷ []) (Some (AtomLit (codes "a"))) None)
map_types-fields_and_rests = simp (type_term_equations, inside_equations)

pub map_types-right : wrong some_map ≡ []
map_types-right = simp (inside_equations)

pub map_types-in_parentheses : wrong key_in_parentheses ≡ fault (OutOfProfile MapKey) 3 ∷ []
map_types-in_parentheses = simp (inside_equations)

pub map_types-required_rest : wrong required_rest ≡ fault (OutOfProfile MapKey) 3 ∷ []
map_types-required_rest = simp (inside_equations)

pub map_types-one_key_twice : wrong one_key_twice ≡ fault Repeated 9 ∷ []
map_types-one_key_twice = simp (inside_equations)

pub map_types-zero_twice : wrong zero_twice ≡ fault Repeated 8 ∷ []
map_types-zero_twice = simp (inside_equations)

pub map_types-rest_twice : wrong rest_twice ≡ fault Repeated 16 ∷ []
map_types-rest_twice = simp (inside_equations)

pub map_types-out_of_profile_as_a_key : IsFirstTypeFault nothing_declared (at 1 key_out_of_profile) (fault (OutOfProfile MapKey) 3)
map_types-out_of_profile_as_a_key = record { stands = subst (λ fs. Among (fault (OutOfProfile MapKey) 3) fs) (sym out_of_profile_key_faults) (inl refl); first = subst (λ fs. Every (λ g. is_earlier g (fault (OutOfProfile MapKey) 3) ≡ false) fs) (sym out_of_profile_key_faults) (refl, (refl, tt)) }

pub map_types-unknown_as_a_key : IsFirstTypeFault nothing_declared (at 1 key_unknown) (fault NoSuchType 3)
map_types-unknown_as_a_key = record { stands = subst (λ fs. Among (fault NoSuchType 3) fs) (sym unknown_key_faults) (inr (inl refl)); first = subst (λ fs. Every (λ g. is_earlier g (fault NoSuchType 3) ≡ false) fs) (sym unknown_key_faults) (refl, (refl, tt)) }

-- ---- faults of types

pub faults_of_types-empty_range : wrong empty_range ≡ fault BadRange 1 ∷ []
faults_of_types-empty_range = simp (inside_equations)

pub faults_of_types-unknown : wrong (Y.ListOf (at 2 (used (codes "foo") []))) ≡ fault NoSuchType 2 ∷ []
faults_of_types-unknown = simp (inside_equations)

pub faults_of_types-other_arity : wrong (used (codes "integer") (atom_a 9 ∷ [])) ≡ fault NoSuchType 1 ∷ []
faults_of_types-other_arity = simp (inside_equations)

pub faults_of_types-out_of_profile : wrong (Y.Tuple (atom_a 2 ∷ at 4 (used (codes "pid") []) ∷ [])) ≡ fault (OutOfProfile UnusableType) 4 ∷ []
faults_of_types-out_of_profile = simp (inside_equations)

pub faults_of_types-out_of_profile_at_any_arity : wrong (used (codes "pid") (atom_a 5 ∷ [])) ≡ fault (OutOfProfile UnusableType) 1 ∷ []
faults_of_types-out_of_profile_at_any_arity = simp (inside_equations)

pub faults_of_types-no_record : wrong (Y.Rec (codes "r") (codes "r") []) ≡ fault NoSuchType 1 ∷ []
faults_of_types-no_record = simp (inside_equations)

pub faults_of_types-other_prefix : wrong (Y.Use (Some (codes "ety")) (codes "union") []) ≡ fault NoSuchType 1 ∷ []
faults_of_types-other_prefix = simp (inside_equations)

pub faults_of_types-right : wrong (Y.Tuple (at 2 (Y.Var (codes "A")) ∷ at 4 (used (codes "atom") []) ∷ [])) ≡ []
faults_of_types-right = simp (inside_equations)

-- ---- variables of types

pub variables_of_types-first : term_behind nothing_declared [] (at 1 (Y.Var (codes "A"))) ≡ Some (Var 0)
variables_of_types-first = simp (type_term_equations, inside_equations)

pub variables_of_types-second : term_behind nothing_declared (codes "A" ∷ []) (at 1 (Y.Tuple (at 2 (Y.Var (codes "B")) ∷ at 4 (Y.Var (codes "A")) ∷ at 6 (Y.Var (codes "B")) ∷ []))) ≡ Some (Tuple (Var 1 ∷ Var 0 ∷ Var 1 ∷ []))
variables_of_types-second = simp (type_term_equations, inside_equations)
