-- Which fault of a type that stands alone is the first, and the terms of types behind others.
use Rattle.std.proofs.Common.{◌≡◌, refl, ap, sym, subst, List, [], ◌∷◌, inl, inr, arith}
use Rattle.std.specs.Prelude.{Some, None, false, codes}
use Rattle.std.proofs.lemmas.Bool.{true≢false}
use Rattle.type_terms.specs.declared.term.Term.{Any, AtomLit, Tuple, Or, Var, Name as NameTerm}
use Rattle.erl_tree.specs.declared.token.Node.{Node}
use Rattle.erl_tree.specs.declared.type_expr.TypeKind.{TypeKind}
use Rattle.erl_tree.specs.Lists.{Among, Every}
use Rattle.typespecs_rules.specs.Declarations.{Declarations, nothing_declared, declarations_of}
use Rattle.typespecs_rules.specs.SpecTerms.{term_behind}
use Rattle.typespecs_rules.specs.declared.fault.PlacedFault.{PlacedFault}
use Rattle.typespecs_rules.specs.declared.fault.TypeFault.TheVariants.{NoSuchType, Repeated, BadRange, OutOfProfile}
use Rattle.typespecs_rules.specs.declared.fault.Outside.TheVariants.{MapKey}
use Rattle.typespecs_rules.specs.TypeFaults.{is_earlier, rank, type_faults, any_variable, IsFirstTypeFault}
use Rattle.typespecs_rules.specs.SmallModules.{regular}
use Rattle.typespecs_rules.specs.SmallTypes.{at, fault, wrong, atom_a, empty_range, key_unknown}
use Rattle.typespecs_rules.proofs.TypeRuleLaws.{type_term_equations, inside_equations}
use Rattle.examples_rules.specs.SmallFaults.{unknown, key_twice_behind_unknown, t_of_a, variable_at, either, wildcard_and_variable}

module _ (declared : Declarations) (t : Node TypeKind) (f : PlacedFault) (fs : List PlacedFault) (listed : type_faults declared any_variable t ≡ fs) where
  -- the first of the faults that are listed
  is-first : Among f fs → Every (λ g. is_earlier g f ≡ false) fs → IsFirstTypeFault declared t f
  is-first a e = record { stands = subst (Among f) (sym listed) a; first = subst (Every (λ g. is_earlier g f ≡ false)) (sym listed) e }

  stands-listed : IsFirstTypeFault declared t f → Among f fs
  stands-listed h = subst (Among f) listed h.stands

  all-later : IsFirstTypeFault declared t f → Every (λ g. is_earlier g f ≡ false) fs
  all-later h = subst (Every (λ g. is_earlier g f ≡ false)) listed h.first

-- ---- an unknown type

unknown-listed : type_faults nothing_declared any_variable unknown ≡ fault NoSuchType 1 ∷ []
unknown-listed = simp (inside_equations)

pub unknown-first : IsFirstTypeFault nothing_declared unknown (fault NoSuchType 1)
unknown-first = is-first nothing_declared unknown (fault NoSuchType 1) _ unknown-listed (inl refl) (refl, tt)

only-unknown : (f : PlacedFault) → IsFirstTypeFault nothing_declared unknown f → f ≡ fault NoSuchType 1
only-unknown f h = go (stands-listed nothing_declared unknown f _ unknown-listed h)
  where
    go : Among f (fault NoSuchType 1 ∷ []) → f ≡ fault NoSuchType 1
    go (inl e) = e
    go (inr e) = absurd e

elsewhere : (f : PlacedFault) → (f.place.column ≡ 1 → ⊥) → IsFirstTypeFault nothing_declared unknown f → ⊥
elsewhere f apart h = apart (ap (λ (x : PlacedFault). x.place.column) (only-unknown f h))

of-another-kind : (f : PlacedFault) → (rank f.fault ≡ 0 → ⊥) → IsFirstTypeFault nothing_declared unknown f → ⊥
of-another-kind f apart h = apart (ap (λ (x : PlacedFault). rank x.fault) (only-unknown f h))

pub other-place : IsFirstTypeFault nothing_declared unknown (fault NoSuchType 2) → ⊥
other-place = elsewhere (fault NoSuchType 2) (λ e. omega arith)

pub other-kind : IsFirstTypeFault nothing_declared unknown (fault BadRange 1) → ⊥
other-kind = of-another-kind (fault BadRange 1) (λ e. omega arith)

-- ---- the first of two faults

pub key-twice-listed : wrong key_twice_behind_unknown ≡ fault Repeated 12 ∷ fault NoSuchType 6 ∷ []
key-twice-listed = simp (inside_equations)

pub earlier : IsFirstTypeFault nothing_declared (at 1 key_twice_behind_unknown) (fault NoSuchType 6)
earlier = is-first nothing_declared (at 1 key_twice_behind_unknown) (fault NoSuchType 6) _ key-twice-listed (inr (inl refl)) (refl, (refl, tt))

pub later : IsFirstTypeFault nothing_declared (at 1 key_twice_behind_unknown) (fault Repeated 12) → ⊥
later h = absurd (true≢false (all-later nothing_declared (at 1 key_twice_behind_unknown) (fault Repeated 12) _ key-twice-listed h).1.0)

unknown-key-listed : wrong key_unknown ≡ fault (OutOfProfile MapKey) 3 ∷ fault NoSuchType 3 ∷ []
unknown-key-listed = simp (inside_equations)

pub first-at-one-place : IsFirstTypeFault nothing_declared (at 1 key_unknown) (fault NoSuchType 3)
first-at-one-place = is-first nothing_declared (at 1 key_unknown) (fault NoSuchType 3) _ unknown-key-listed (inr (inl refl)) (refl, (refl, tt))

pub second-at-one-place : IsFirstTypeFault nothing_declared (at 1 key_unknown) (fault (OutOfProfile MapKey) 3) → ⊥
second-at-one-place h = absurd (true≢false (all-later nothing_declared (at 1 key_unknown) (fault (OutOfProfile MapKey) 3) _ unknown-key-listed h).1.0)

-- ---- right types

atom-listed : type_faults nothing_declared any_variable (atom_a 1) ≡ []
atom-listed = simp (inside_equations)

pub right-atom : (f : PlacedFault) → IsFirstTypeFault nothing_declared (atom_a 1) f → ⊥
right-atom f h = stands-listed nothing_declared (atom_a 1) f [] atom-listed h

declared-listed : type_faults (declarations_of regular) any_variable t_of_a ≡ []
declared-listed = simp (inside_equations)

pub right-use : (f : PlacedFault) → IsFirstTypeFault (declarations_of regular) t_of_a f → ⊥
right-use f h = stands-listed (declarations_of regular) t_of_a f [] declared-listed h

undeclared-listed : type_faults nothing_declared any_variable t_of_a ≡ fault NoSuchType 1 ∷ []
undeclared-listed = simp (inside_equations)

pub undeclared : IsFirstTypeFault nothing_declared t_of_a (fault NoSuchType 1)
undeclared = is-first nothing_declared t_of_a (fault NoSuchType 1) _ undeclared-listed (inl refl) (refl, tt)

-- ---- terms behind names

pub among : term_behind nothing_declared (codes "X" ∷ codes "Y" ∷ []) (variable_at 1 (codes "Y")) ≡ Some (Var 1)
among = simp (type_term_equations)

pub fresh : term_behind nothing_declared (codes "Y" ∷ []) (variable_at 1 (codes "X")) ≡ Some (Var 1)
fresh = simp (type_term_equations, inside_equations)

pub both : term_behind nothing_declared (codes "Y" ∷ []) either ≡ Some (Or (Var 1 ∷ Var 0 ∷ []))
both = simp (type_term_equations, inside_equations)

pub name-twice : term_behind nothing_declared (codes "X" ∷ codes "Y" ∷ codes "X" ∷ []) (variable_at 1 (codes "X")) ≡ Some (Var 0)
name-twice = simp (type_term_equations)

pub declared-name : term_behind (declarations_of regular) [] t_of_a ≡ Some (NameTerm 2 (AtomLit (codes "a") ∷ []))
declared-name = simp (type_term_equations, inside_equations)

pub wildcard : term_behind nothing_declared (codes "Y" ∷ []) (variable_at 1 (codes "_")) ≡ Some Any
wildcard = simp (type_term_equations)

pub no-number : term_behind nothing_declared (codes "Y" ∷ []) wildcard_and_variable ≡ Some (Tuple (Any ∷ Var 1 ∷ []))
no-number = simp (type_term_equations, inside_equations)

pub no-term : term_behind nothing_declared (codes "Y" ∷ []) (at 1 empty_range) ≡ None
no-term = simp (type_term_equations)
