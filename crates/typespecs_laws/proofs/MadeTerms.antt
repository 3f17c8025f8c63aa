-- The terms of type expressions with which nothing is wrong, in a module in whose text nothing is wrong: their variables are those of the names, the keys of their map terms ascend, and their names are defined.
use Rattle.std.proofs.Common.{◌≡◌, refl, ap, sym, subst, ◌∙◌, ℕ, ◌<◌, ◌≤◌, ◌+◌, List, [], ◌∷◌, ◌++◌, map, length, arith}
use Rattle.std.specs.Prelude.{Option, Some, Bool, true, slice_get}
use Rattle.type_terms.specs.Keys.{Name, ascending}
use Rattle.type_terms.specs.Parts.{field_keys}
use Rattle.type_terms.specs.Definitions.{given_definitions}
use Rattle.type_terms.specs.declared.term.Def.{Def}
use Rattle.type_terms.specs.declared.term.Field.{Field}
use Rattle.type_terms.specs.declared.term.Key.{Key}
use Rattle.type_terms.specs.declared.term.Term.{Term, out-Term, Any, Map, Var, Name as NameTerm}
use Rattle.type_terms.specs.declared.term.Term.TheOpen as F
use Rattle.type_terms.specs.declared.term.Term.TheViews as Views
use Rattle.type_terms.proofs.PartLaws.{kind_number, var-number, name-number, name-arguments}
use Rattle.erl_tree.specs.Lists.{Every, Among}
use Rattle.erl_tree.specs.declared.token.Node.{Node}
use Rattle.erl_tree.specs.declared.type_expr.TypeKind.{TypeKind}
use Rattle.erl_tree.specs.declared.form.TypeDefKind.{TypeDefKind}
use Rattle.erl_tree.specs.declared.form.RecDefKind.{RecDefKind}
use Rattle.erl_tree.specs.declared.form.Module.{Module}
use Rattle.erl_runs.specs.Specs.{all_present}
use Rattle.typespecs_rules.specs.declared.specs.Specs.{Specs}
use Rattle.typespecs_rules.specs.Declarations.{Declarations, declarations_of}
use Rattle.typespecs_rules.specs.TypeParts.{types_within}
use Rattle.typespecs_rules.specs.TypeTerms.{RecordTuple, record_tuple, tuple_term, type_term, no_variables, tuple_within}
use Rattle.typespecs_rules.specs.TypeVariables.{parameters, place_among, numbered_from, and_variables_of}
use Rattle.typespecs_rules.specs.SpecTerms.{type_definition, record_definition, term_behind}
use Rattle.typespecs_rules.specs.RegularUse.{of_record, all_types}
use Rattle.typespecs_rules.specs.TypeFaults.{fault_layer, any_variable, no_variable, own_faults, type_faults, HasTerms}
use Rattle.typespecs_lemmas.proofs.GivenReach.{mapped, defs-are}
use Rattle.typespecs_lemmas.proofs.GoodParts.{AllGood}
use Rattle.typespecs_lemmas.proofs.RecordTuples.{position-below}
use Rattle.typespecs_lemmas.proofs.TermParts.{Grounds, term-good, present-length, map-length}
use Rattle.typespecs_lemmas.proofs.ByNumber.{type-numbered, record-numbered, type-defined, record-defined, TuplesGood, tuples-good}
use Rattle.typespecs_lemmas.proofs.DefinedNames.{part-of-Var}
use Rattle.typespecs_lemmas.proofs.AscendingKeys.{keys-ascend}
use Rattle.typespecs_lemmas.proofs.NoFaults.{RecordRight, all-right, found-every, nothing-from}
use Rattle.typespecs_laws.specs.WellMade.{IsWellMadeTerm}

-- the keys of a map term
abbrev keys_in : F.Term-F Term Field → List Key
keys_in (F.Map fields rest_int rest_atom) = field_keys fields
keys_in _ = []

map-keys : (fs gs : List Field) (a b c d : Option Term) → Map fs a b ≡ Map gs c d → field_keys fs ≡ field_keys gs
map-keys fs gs a b c d e = sym (ap keys_in (Views.outs-Map fs a b)) ∙ (ap (λ t. keys_in (out-Term t)) e ∙ ap keys_in (Views.outs-Map gs c d))

-- what is asked of a part of a term over so many variables: a variable is one of them, the keys of a map term ascend, and a name is defined
abbrev pub IsMade : List Def → ℕ → Term → Type 0
IsMade defs count p = ((i : ℕ) → p ≡ Var i → i < count)
    × ((fields : List Field) (rest_int rest_atom : Option Term) → p ≡ Map fields rest_int rest_atom → ascending (field_keys fields) ≡ true)
    × ((n : ℕ) (args : List Term) → p ≡ NameTerm n args → (def : Def) × (slice_get defs n ≡ Some def) × (def.params ≡ length args))

module _ (defs : List Def) (count : ℕ) where
  pub made-plain : (p : Term) → (kind_number p ≡ 16 → ⊥) → (kind_number p ≡ 15 → ⊥) → (kind_number p ≡ 9 → ⊥) → IsMade defs count p
  made-plain p no_name no_var no_map = ((λ i e. absurd (no_var (ap kind_number e))), (λ fields rest_int rest_atom e. absurd (no_map (ap kind_number e))), (λ n args e. absurd (no_name (ap kind_number e))))

  made-Var : (i : ℕ) → i < count → IsMade defs count (Var i)
  made-Var i l = (
    (λ j e. subst (λ n. n < count) (var-number i j e) l),
    (λ fields rest_int rest_atom e. let f : 15 ≡ 9 = ap kind_number e in absurd (omega arith)),
    (λ n args e. let f : 15 ≡ 16 = ap kind_number e in absurd (omega arith)),
  )

  made-Map : (fs : List Field) (a b : Option Term) → ascending (field_keys fs) ≡ true → IsMade defs count (Map fs a b)
  made-Map fs a b h = (
    (λ i e. let f : 9 ≡ 15 = ap kind_number e in absurd (omega arith)),
    (λ gs c d e. subst (λ ks. ascending ks ≡ true) (map-keys fs gs a b c d e) h),
    (λ n args e. let f : 9 ≡ 16 = ap kind_number e in absurd (omega arith)),
  )

  made-Name : (n : ℕ) (args : List Term) (def : Def) → slice_get defs n ≡ Some def → def.params ≡ length args → IsMade defs count (NameTerm n args)
  made-Name n args def g q = (
    (λ i e. let f : 16 ≡ 15 = ap kind_number e in absurd (omega arith)),
    (λ fields rest_int rest_atom e. let f : 16 ≡ 9 = ap kind_number e in absurd (omega arith)),
    (λ m bs e. (def, subst (λ x. slice_get defs x ≡ Some def) (name-number n m args bs e) g, q ∙ ap length (name-arguments n m args bs e))),
  )

  -- a term whose parts are all so
  pub well-made : (t : Term) → AllGood (IsMade defs count) t → IsWellMadeTerm defs count t
  well-made t h = record {
    own_variables = λ i part. (h (Var i) part).0 i refl;
    fields_ascend = λ fields rest_int rest_atom part. (h (Map fields rest_int rest_atom) part).1 fields rest_int rest_atom refl;
    names_defined = λ n args part. (h (NameTerm n args) part).2 n args refl;
  }

  -- each variable that stands for a term stands for one whose parts are all so
  abbrev pub AreMade : (Name → Option Term) → Type 0
  AreMade variables = (x : Name) (w : Term) → variables x ≡ Some w → AllGood (IsMade defs count) w

  -- names whose numbers count from one on
  pub made-numbered : (first : ℕ) (names : List Name) → first + length names ≤ count → AreMade (numbered_from first names)
  made-numbered first names l x w e =
      let p = mapped (λ i. Var (first + i)) (place_among names x) w e in
      let below : p.0 < length names = position-below _ names p.0 p.1 in
      subst (λ (u : Term). AllGood (IsMade defs count) u) p.2 (λ q part. subst (IsMade defs count) (sym (part-of-Var (first + p.0) q part)) (made-Var (first + p.0) (omega arith)))

module _ (declared : Declarations) (own : List Def) (present : all_present (map (type_definition declared) declared.types ++ map (record_definition declared) declared.records) ≡ Some own)
    (records_right : Every (RecordRight declared) declared.records) (count : ℕ) where
  abbrev defs : List Def
  defs = given_definitions ++ own

  type-params : (d : TypeDefKind) (def : Def) → type_definition declared d ≡ Some def → def.params ≡ length d.params
  type-params d def e = let p = mapped (λ body. record { params = length d.params; body = body }) (type_term declared (parameters d.params) d.body) def e in ap (λ (x : Def). x.params) (sym p.2)

  record-params : (r : RecDefKind) (def : Def) → record_definition declared r ≡ Some def → def.params ≡ 0
  record-params r def e = let p = mapped (λ tuple. record { params = 0; body = tuple_term tuple }) (record_tuple declared r.name) def e in ap (λ (x : Def). x.params) (sym p.2)

  grounds : (tuples : Name → Option RecordTuple) (variables : Name → Option Term) (allowed : Name → Bool) (Here : Node TypeKind → Type 0) → ((t : Node TypeKind) → Here t → own_faults declared allowed t ≡ []) → AreMade defs count variables → ((name : Name) (r : RecordTuple) → tuples name ≡ Some r → Every (AllGood (IsMade defs count)) (map (λ f. f.1) r.fields)) → Grounds declared tuples variables Here (IsMade defs count)
  grounds tuples variables allowed Here right vars below = record {
    plain = made-plain defs count;
    any_map = made-Map defs count [] (Some Any) (Some Any) refl;
    lists = λ t. let p = given-at in made-Name defs count 0 (t ∷ []) p.0 p.1 p.2;
    variable = λ x w e p part. vars x w e p part;
    used = λ t name args n own' here out q there.
        let a = type-numbered declared name (length args) n q in
        let b = type-defined declared own present n a.0 a.1 a.2 a.3 in
        made-Name defs count n own' b.0 b.1 (type-params a.1 b.0 b.2 ∙ (a.4 ∙ sym (present-length _ own' there ∙ map-length _ args)));
    of_record = λ t name tag n here out q.
        let a = record-numbered declared name n q in
        let b = record-defined declared own present n a.0 a.1 a.2 a.3 in
        made-Name defs count n [] b.0 b.1 (record-params a.1 b.0 b.2);
    tuple = λ t name tag f fs r here out q. below name r q;
    of_map = λ t parts es here out q. made-Map defs count _ _ _ (keys-ascend declared tuples variables parts es (ap (λ l. fault_layer declared allowed l t.place) (sym out) ∙ right t here) q);
  }
    where
      given-at : (def : Def) × (slice_get defs 0 ≡ Some def) × (def.params ≡ 1)
      given-at = (_, refl, refl)

  tuples : (k : ℕ) → TuplesGood declared (λ name. IsMade defs count) k
  tuples = tuples-good declared (λ name. IsMade defs count) (λ name r found k below. grounds (tuple_within declared k) no_variables no_variable (λ t. Among t (all_types (of_record r)))
      (nothing-from (own_faults declared no_variable) (all_types (of_record r)) (found-every (RecordRight declared) declared.records records_right name r found)) (λ x w e. absurd (cc)) below)

  -- all parts of the term of a type are so where those of its variables are, and nothing is wrong with it
  pub type-made : (variables : Name → Option Term) → AreMade defs count variables → (t : Node TypeKind) → type_faults declared any_variable t ≡ [] → (w : Term) → type_term declared variables t ≡ Some w → AllGood (IsMade defs count) w
  type-made variables vars t right w e =
      term-good declared (record_tuple declared) variables (λ u. Among u (types_within t)) (IsMade defs count)
      (grounds (record_tuple declared) variables any_variable (λ u. Among u (types_within t)) (nothing-from (own_faults declared any_variable) (types_within t) right) vars (tuples (length declared.records)))
      t w (λ u a. a) e

pub single-made : (m : Module) (s : Specs) → HasTerms m s → (names : List Name) (ty : Node TypeKind) (t : Term) → type_faults (declarations_of m) any_variable ty ≡ [] → term_behind (declarations_of m) names ty ≡ Some t → IsWellMadeTerm s.defs (length (and_variables_of names ty)) t
single-made m s h names ty t right e =
    let d = defs-are m s h.terms in
    subst (λ (ds : List Def). IsWellMadeTerm ds (length (and_variables_of names ty)) t) (sym d.2) (well-made (given_definitions ++ d.0) (length (and_variables_of names ty)) t
    (type-made (declarations_of m) d.0 d.1 (all-right m h.no_fault).1 (length (and_variables_of names ty)) (numbered_from 0 (and_variables_of names ty))
    (made-numbered (given_definitions ++ d.0) (length (and_variables_of names ty)) 0 (and_variables_of names ty) (omega arith)) ty right t e))
