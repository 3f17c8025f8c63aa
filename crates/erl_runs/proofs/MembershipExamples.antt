-- Small examples of membership.
use Rattle.std.proofs.Common.{◌≡◌, refl, sym, subst, ℕ, suc, pos, List, [], ◌∷◌, ⊎_elim, arith}
use Rattle.std.proofs.lemmas.Bool.{false≢true}
use Rattle.std.specs.Prelude.{Some}
use denote.Hole.Carrier.{hidden}
use Rattle.type_terms.specs.declared.term.Key.TheVariants.{Int as IntKey, Atom as AtomKey}
use Rattle.type_terms.specs.declared.term.Term.{Ints, AnyAtom, Nil, Cons, Tuple, Fun, Or, And, Not, Name as NameTerm}
use Rattle.type_terms.specs.declared.term.Term.TheBlock.{shape-the_row-Term-0, hidden-the_row-Term-0, shape-the_row-Term-1, hidden-the_row-Term-1, shape-the_row-Field-2, hidden-the_row-Field-2}
use Rattle.type_terms.specs.declared.spec.Arrow.{Arrow}
use Rattle.type_terms.specs.Definitions.{given_definitions}
use Rattle.type_terms.specs.Instances.{no_variables}
use Rattle.type_terms.proofs.Contained.{contains-first, contains-cases, contains-none}
use Rattle.erl_runs.proofs.Equations.{in-Fun-iff}
use Rattle.erl_runs.specs.Membership.{Spends, InTerm, IsGoodRun, values_in}
use Rattle.erl_runs.specs.SmallPrograms.{IsAlwaysIn, IsNeverIn, name_a, name_f, one, two, atom_a, atom_b, list_of_one, list_of_a, integers, map_type, identity_program, identity_apply, run_with_call}
use Rattle.erl_runs.specs.Value.{Value, nil, cons, tuple, map_of, named_fun, no_values, value_and, no_entries, entry_and}

pub cell : IsAlwaysIn list_of_one (Cons integers Nil)
unfolding shape-the_row-Term-0 hidden-the_row-Term-0 hidden
cell program k = (refl, tt)

pub other-head : IsNeverIn list_of_a (Cons integers Nil)
unfolding shape-the_row-Term-0 hidden-the_row-Term-0 hidden
other-head program k h = h.0

pub elements : IsAlwaysIn (tuple (value_and one (value_and atom_a no_values))) (Tuple (integers ∷ AnyAtom ∷ []))
unfolding shape-the_row-Term-0 hidden-the_row-Term-0 shape-the_row-Term-1 hidden-the_row-Term-1 hidden
elements program k = (refl, (tt, tt))

pub other-size : IsNeverIn (tuple (value_and one no_values)) (Tuple (integers ∷ AnyAtom ∷ []))
unfolding shape-the_row-Term-0 hidden-the_row-Term-0 shape-the_row-Term-1 hidden-the_row-Term-1 hidden
other-size program k h = h.1

pub other-elements : IsNeverIn (tuple (value_and atom_a (value_and one no_values))) (Tuple (integers ∷ AnyAtom ∷ []))
unfolding shape-the_row-Term-0 hidden-the_row-Term-0 shape-the_row-Term-1 hidden-the_row-Term-1 hidden
other-elements program k h = h.0

pub or : IsAlwaysIn one (Or (integers ∷ AnyAtom ∷ []))
unfolding shape-the_row-Term-0 hidden-the_row-Term-0 shape-the_row-Term-1 hidden-the_row-Term-1 hidden
or program k n = n.0 refl

pub not-or : IsNeverIn nil (Or (integers ∷ AnyAtom ∷ []))
unfolding shape-the_row-Term-0 hidden-the_row-Term-0 shape-the_row-Term-1 hidden-the_row-Term-1 hidden
not-or program k h = h ((λ x. x), (λ s. s ((λ x. x), (λ x. x))))

pub and : IsAlwaysIn two (And (integers ∷ Not (Ints (Some (pos 1)) (Some (pos 1))) ∷ []))
unfolding shape-the_row-Term-0 hidden-the_row-Term-0 shape-the_row-Term-1 hidden-the_row-Term-1 hidden
and program k = (refl, ((λ h. absurd (false≢true h)), tt))

pub not-and : IsNeverIn one (And (integers ∷ Not (Ints (Some (pos 1)) (Some (pos 1))) ∷ []))
unfolding shape-the_row-Term-0 hidden-the_row-Term-0 shape-the_row-Term-1 hidden-the_row-Term-1 hidden
not-and program k h = h.1.0 refl

pub not-atom : IsAlwaysIn one (Not AnyAtom)
unfolding shape-the_row-Term-0 hidden-the_row-Term-0 hidden
not-atom program k h = h

pub not-not : IsNeverIn atom_a (Not AnyAtom)
unfolding shape-the_row-Term-0 hidden-the_row-Term-0 hidden
not-not program k h = h tt

pub list : IsAlwaysIn list_of_one (NameTerm 0 (integers ∷ []))
unfolding shape-the_row-Term-0 hidden-the_row-Term-0 shape-the_row-Term-1 hidden-the_row-Term-1 hidden
list program k n = n.1 (λ m. m.0 (refl, (λ o. o.0 tt)))

pub other-list : IsNeverIn list_of_a (NameTerm 0 (integers ∷ []))
unfolding shape-the_row-Term-0 hidden-the_row-Term-0 shape-the_row-Term-1 hidden-the_row-Term-1 hidden
other-list program k h = h ((λ x. x), (λ s. s ((λ c. c.0), (λ x. x))))

pub improper : IsNeverIn (cons one one) (NameTerm 0 (integers ∷ []))
unfolding shape-the_row-Term-0 hidden-the_row-Term-0 shape-the_row-Term-1 hidden-the_row-Term-1 hidden
improper program k h = h ((λ x. x), (λ s. s ((λ c. c.1 ((λ x. x), (λ t. t ((λ x. x), (λ x. x))))), (λ x. x))))

pub named-key : IsAlwaysIn (map_of (entry_and (AtomKey name_a) refl one no_entries)) map_type
unfolding shape-the_row-Term-0 hidden-the_row-Term-0 shape-the_row-Term-1 hidden-the_row-Term-1 shape-the_row-Field-2 hidden-the_row-Field-2 hidden
named-key program k = ((refl, tt), ((λ e. refl), tt))

pub rest : IsAlwaysIn (map_of (entry_and (IntKey (pos 5)) refl atom_b (entry_and (AtomKey name_a) refl one no_entries))) map_type
unfolding shape-the_row-Term-0 hidden-the_row-Term-0 shape-the_row-Term-1 hidden-the_row-Term-1 shape-the_row-Field-2 hidden-the_row-Field-2 hidden
rest program k = ((tt, (refl, tt)), ((λ e. refl), tt))

pub missing-key : IsNeverIn (map_of no_entries) map_type
unfolding shape-the_row-Term-0 hidden-the_row-Term-0 shape-the_row-Term-1 hidden-the_row-Term-1 shape-the_row-Field-2 hidden-the_row-Field-2 hidden
missing-key program k h = false≢true (h.1.0 refl)

pub other-value : IsNeverIn (map_of (entry_and (AtomKey name_a) refl atom_b no_entries)) map_type
unfolding shape-the_row-Term-0 hidden-the_row-Term-0 shape-the_row-Term-1 hidden-the_row-Term-1 shape-the_row-Field-2 hidden-the_row-Field-2 hidden
other-value program k h = h.0.0

pub other-key : IsNeverIn (map_of (entry_and (AtomKey name_a) refl one (entry_and (AtomKey (98 ∷ [])) refl one no_entries))) map_type
unfolding shape-the_row-Term-0 hidden-the_row-Term-0 shape-the_row-Term-1 hidden-the_row-Term-1 shape-the_row-Field-2 hidden-the_row-Field-2 hidden
other-key program k h = h.0.1.0

pub spends : Spends identity_program
spends f [] m = (omega arith, tt)
spends f (v ∷ vs) m = (omega arith, tt)

pub fun-inside : (k : ℕ) → InTerm identity_program k (named_fun name_f 1) (Fun (integers ∷ []) integers) given_definitions no_variables
fun-inside k = (in-Fun-iff identity_program spends k given_definitions no_variables (integers ∷ []) integers (named_fun name_f 1)).1 (tt, refl, (λ m args l a. go m args a))
  where
    go : (m : ℕ) (args : List Value) → values_in (InTerm identity_program m) args (integers ∷ []) given_definitions no_variables → IsGoodRun identity_program (identity_apply (named_fun name_f 1) args (suc m)) integers given_definitions no_variables
    go m [] a = absurd a
    go m (v ∷ []) a = (a.0, tt)
    go m (v ∷ w ∷ vs) a = absurd a.1

pub fun-outside : (k : ℕ) → InTerm identity_program (suc k) (named_fun name_f 1) (Fun (integers ∷ []) AnyAtom) given_definitions no_variables → ⊥
fun-outside k h =
    let f : _ = (in-Fun-iff identity_program spends (suc k) given_definitions no_variables (integers ∷ []) AnyAtom (named_fun name_f 1)).0 h in
    (f.2 0 (one ∷ []) (omega arith) (refl, tt)).0

f_arrow : Arrow
f_arrow = record { params = integers ∷ []; result = integers }

pub call-within : IsGoodRun identity_program (run_with_call one) integers given_definitions no_variables
unfolding f_arrow
call-within = (refl, ((λ n. n f_arrow no_variables (contains-first f_arrow []) tt (refl, tt)), tt))

pub call-outside : IsGoodRun identity_program (run_with_call atom_a) integers given_definitions no_variables → ⊥
unfolding f_arrow
call-outside h = h.1.0 (λ arrow i c instance a.
    let same : f_arrow ≡ arrow = ⊎_elim (λ (e : f_arrow ≡ arrow). e) (λ n. absurd (contains-none arrow n)) (contains-cases f_arrow arrow [] c) in
    (subst (λ (x : Arrow). values_in (InTerm identity_program 0) (atom_a ∷ []) x.params given_definitions i) (sym same) a).0)
