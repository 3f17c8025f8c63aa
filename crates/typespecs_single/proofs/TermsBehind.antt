-- A type with which nothing is wrong has a term behind names, in a module that has specs.
use Rattle.std.proofs.Common.{◌≡◌, refl, sym, ap, subst, ◌∙◌, ◌+◌, List, [], ◌∷◌, length, inl, inr}
use Rattle.std.specs.Prelude.{Option, Some, None as Nothing, Bool, true, false, not, ◌||◌, cond, is_some}
use Rattle.std.specs.List.{filter}
use Rattle.std.proofs.lemmas.List.Folds.{list_any-append}
use Rattle.type_terms.specs.Keys.{Name, same_name}
use Rattle.type_terms.specs.declared.term.Term.{Term}
use Rattle.type_terms.proofs.KeyLaws.{name-is, name-refl}
use Rattle.erl_tree.specs.declared.token.Node.{Node}
use Rattle.erl_tree.specs.declared.type_expr.TypeKind.{TypeKind, out-TypeKind}
use Rattle.erl_tree.specs.declared.type_expr.TypeKind.TheOpen as O
use Rattle.erl_tree.specs.declared.form.RecDefKind.{RecDefKind}
use Rattle.erl_tree.specs.declared.form.Module.{Module}
use Rattle.erl_tree.specs.Lists.{Among}
use Rattle.erl_runs.specs.Names.{is_wildcard}
use Rattle.erl_runs.specs.Records.{find_record}
use Rattle.typespecs_rules.specs.declared.specs.Specs.{Specs}
use Rattle.typespecs_rules.specs.declared.fault.PlacedFault.{PlacedFault}
use Rattle.typespecs_rules.specs.Declarations.{Declarations, declarations_of}
use Rattle.typespecs_rules.specs.Earliest.{earliest}
use Rattle.typespecs_rules.specs.TypeParts.{types_within}
use Rattle.typespecs_rules.specs.TypeTerms.{RecordTuple, record_tuple, tuple_term, type_kind_term}
use Rattle.typespecs_rules.specs.TypeVariables.{variable_layer, own_variable, variables_of, first_occurrences, place_among, numbered_from, parameters, and_variables_of}
use Rattle.typespecs_rules.specs.TypeFaults.{IsFirstTypeFault, any_variable, stands_among, type_faults}
use Rattle.typespecs_rules.specs.SpecTerms.{module_specs, term_behind}
use Rattle.typespecs_rules.proofs.RightTypes.{map-some}
use Rattle.typespecs_lemmas.proofs.AlikeTypes.{among-each}
use Rattle.typespecs_lemmas.proofs.ByNumber.{record-numbered, record-defined}
use Rattle.typespecs_lemmas.proofs.Definitions.{any-placed}
use Rattle.typespecs_lemmas.proofs.GivenReach.{mapped, defs-are}
use Rattle.typespecs_lemmas.proofs.RecordTuples.{numbered}
use Rattle.typespecs_lemmas.proofs.RightHere.{right-here}
use Rattle.typespecs_faults.proofs.EarliestLaws.{earliest-stands, earliest-first}
use Rattle.typespecs_clauses.proofs.NameLaws.{same-sym}

-- ---- names

or-true : (b : Bool) → (b || true) ≡ true
or-true true = refl
or-true false = refl

among-stands : (x : Name) (xs : List Name) → Among x xs → stands_among x xs ≡ true
among-stands x [] a = absurd a
among-stands x (y ∷ xs) (inl e) = ap (λ b. b || stands_among x xs) (subst (λ (z : Name). same_name x z ≡ true) e (name-refl x))
among-stands x (y ∷ xs) (inr a) = ap (λ b. same_name x y || b) (among-stands x xs a) ∙ or-true (same_name x y)

-- a name that passes a test stands among those that pass it
stands-filtered : (test : Name → Bool) (x : Name) (xs : List Name) → test x ≡ true → stands_among x xs ≡ true → stands_among x (filter test xs) ≡ true
stands-filtered test x [] passes e = e
stands-filtered test x (y ∷ xs) passes e = by (same_name x y) refl e (stands-filtered test x xs passes)
  where
    kept : (b : Bool) → stands_among x (filter test xs) ≡ true → stands_among x (cond b (y ∷ filter test xs) (filter test xs)) ≡ true
    kept true h = ap (λ c. same_name x y || c) h ∙ or-true (same_name x y)
    kept false h = h

    by : (b : Bool) → same_name x y ≡ b → (b || stands_among x xs) ≡ true → (stands_among x xs ≡ true → stands_among x (filter test xs) ≡ true) → stands_among x (cond (test y) (y ∷ filter test xs) (filter test xs)) ≡ true
    by true p h more = ap (λ b. stands_among x (cond b (y ∷ filter test xs) (filter test xs))) (ap test (sym (name-is x y p)) ∙ passes) ∙ ap (λ b. b || stands_among x (filter test xs)) p
    by false p h more = kept (test y) (more h)

-- and each among the first occurrences
stands-first : (x : Name) (xs : List Name) → stands_among x xs ≡ true → stands_among x (first_occurrences xs) ≡ true
stands-first x [] e = e
stands-first x (y ∷ xs) e = by (same_name x y) refl e (stands-first x xs)
  where
    by : (b : Bool) → same_name x y ≡ b → (b || stands_among x xs) ≡ true → (stands_among x xs ≡ true → stands_among x (first_occurrences xs) ≡ true) → (b || stands_among x (filter (λ z. not (same_name y z)) (first_occurrences xs))) ≡ true
    by true p h more = refl
    by false p h more = stands-filtered (λ z. not (same_name y z)) x (first_occurrences xs) (ap not (same-sym y x ∙ p)) (more h)

-- a variable of a type stands among names with those of the type
variable-stands : (names : List Name) (t : Node TypeKind) (x : Name) → Among x (variables_of t) → stands_among x (and_variables_of names t) ≡ true
variable-stands names t x a = list_any-append (same_name x) names (filter (λ y. not (stands_among y names)) (first_occurrences (variables_of t))) ∙ by (stands_among x names) refl
  where
    by : (b : Bool) → stands_among x names ≡ b → (b || stands_among x (filter (λ y. not (stands_among y names)) (first_occurrences (variables_of t)))) ≡ true
    by true e = refl
    by false e = stands-filtered (λ y. not (stands_among y names)) x (first_occurrences (variables_of t)) (ap not e) (stands-first x (variables_of t) (among-stands x (variables_of t) a))

own-stands : (t u : Node TypeKind) (x : Name) → Among u (types_within t) → out-TypeKind u.kind ≡ O.Var x → is_wildcard x ≡ false → Among x (variables_of t)
own-stands t u x a e w =
    among-each own_variable u x (types_within t) a
    (subst (λ (xs : List Name). Among x xs) (sym (ap variable_layer e ∙ ap (λ b. cond b [] (x ∷ [])) w)) (inl refl))

-- ---- terms

module _ (m : Module) (s : Specs) (are : module_specs m ≡ Some s) where
  -- a declared record has tuples
  declared-tuple : (name : Name) → is_some (find_record (declarations_of m).records name) ≡ true → is_some (record_tuple (declarations_of m) name) ≡ true
  declared-tuple name e = go (find_record (declarations_of m).records name) refl e
    where
      at : (r : RecDefKind) → find_record (declarations_of m).records name ≡ Some r → is_some (record_tuple (declarations_of m) name) ≡ true
      at r found =
          let p = numbered (declarations_of m) name r found in
          let q = record-numbered (declarations_of m) name (2 + (length (declarations_of m).types + p.0)) p.1 in
          let d = defs-are m s are in
          let def = record-defined (declarations_of m) d.0 d.1 (2 + (length (declarations_of m).types + p.0)) q.0 q.1 q.2 q.3 in
          let t = mapped (λ tuple. record { params = 0; body = tuple_term tuple }) (record_tuple (declarations_of m) q.1.name) def.0 def.2 in
          ap (λ o. is_some o) (ap (record_tuple (declarations_of m)) (sym (name-is q.1.name name q.4)) ∙ t.1)

      go : (o : Option RecDefKind) → find_record (declarations_of m).records name ≡ o → is_some o ≡ true → is_some (record_tuple (declarations_of m) name) ≡ true
      go Nothing found there = absurd (none there)
        where
          none : false ≡ true → ⊥
          none g = cc
      go (Some r) found there = at r found

  pub has-term : (names : List Name) (t : Node TypeKind) → type_faults (declarations_of m) any_variable t ≡ [] → is_some (term_behind (declarations_of m) names t) ≡ true
  has-term names t right =
      right-here (declarations_of m) (record_tuple (declarations_of m)) (numbered_from 0 (and_variables_of names t)) any_variable t right
      (λ u name tag f fs i o found. declared-tuple name found)
      (λ u x i o w allowed. map-some _ (place_among (and_variables_of names t) x) (any-placed (same_name x) (and_variables_of names t) (variable-stands names t x (own-stands t u x i o w))))

  -- what was read with tables that have the tuples of the module's records, and the places of the names with the type's variables
  module _ (names : List Name) (t : Node TypeKind) (read : Option Term) (tuples : Name → Option RecordTuple) (variables : Name → Option Term) (after : List Name) (is : read ≡ type_kind_term (declarations_of m) tuples variables t.kind) (same : (name : Name) → tuples name ≡ record_tuple (declarations_of m) name) (numbers : (x : Name) → variables x ≡ parameters after x) (are_after : after ≡ and_variables_of names t) where
    pub its-term : term_behind (declarations_of m) names t ≡ read
    its-term = sym (is ∙ (λ j. type_kind_term (declarations_of m) (λ name. same name j) (λ x. (numbers x ∙ ap (λ ns. parameters ns x) are_after) j) t.kind))

    pub there : type_faults (declarations_of m) any_variable t ≡ [] → read ≡ Nothing → ⊥
    there right none = absent (sym (has-term names t right) ∙ ap (λ o. is_some o) (its-term ∙ none))
      where
        absent : true ≡ false → ⊥
        absent g = cc

-- the first fault
pub first-fault : (d : Declarations) (t : Node TypeKind) (first : Option PlacedFault) (f : PlacedFault) → first ≡ earliest Nothing (type_faults d any_variable t) → first ≡ Some f → IsFirstTypeFault d t f
first-fault d t first f is some = record {
  stands = earliest-stands (type_faults d any_variable t) f (sym is ∙ some);
  first = earliest-first (type_faults d any_variable t) f (sym is ∙ some);
}
