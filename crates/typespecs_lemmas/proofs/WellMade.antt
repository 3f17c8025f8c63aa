-- The definitions of a module in whose text nothing is wrong are over their own parameters, and the keys of their map terms ascend.
use Rattle.std.proofs.Common.{◌≡◌, refl, ap, sym, subst, ◌∙◌, ℕ, ◌<◌, List, [], ◌∷◌, ◌++◌, map, length, arith}
use Rattle.std.specs.Prelude.{Option, Some, Bool, true, slice_get}
use Rattle.type_terms.specs.Keys.{Name, ascending}
use Rattle.type_terms.specs.Parts.{IsPart, field_keys}
use Rattle.type_terms.specs.Definitions.{given_definitions, VariablesBelow, FieldsAscend}
use Rattle.type_terms.specs.Refusals.{AreWellMade}
use Rattle.type_terms.specs.declared.term.Def.{Def}
use Rattle.type_terms.specs.declared.term.Field.{Field}
use Rattle.type_terms.specs.declared.term.Key.{Key}
use Rattle.type_terms.specs.declared.term.Term.{Term, out-Term, Any, Map, Var, Name as NameTerm}
use Rattle.type_terms.specs.declared.term.Term.TheOpen as F
use Rattle.type_terms.specs.declared.term.Term.TheViews as Views
use Rattle.type_terms.proofs.GivenDefinitions.{given}
use Rattle.type_terms.proofs.PartLaws.{kind_number, contains-at, var-number}
use Rattle.erl_tree.specs.Lists.{Every, Among}
use Rattle.erl_tree.specs.declared.token.Node.{Node}
use Rattle.erl_tree.specs.declared.type_expr.TypeKind.{TypeKind}
use Rattle.erl_tree.specs.declared.form.TypeDefKind.{TypeDefKind}
use Rattle.erl_tree.specs.declared.form.RecDefKind.{RecDefKind}
use Rattle.erl_tree.specs.declared.form.Module.{Module}
use Rattle.typespecs_rules.specs.declared.fault.PlacedFault.{PlacedFault}
use Rattle.typespecs_rules.specs.declared.specs.Specs.{Specs}
use Rattle.typespecs_rules.specs.Declarations.{Declarations, declarations_of}
use Rattle.typespecs_rules.specs.TypeParts.{types_within}
use Rattle.typespecs_rules.specs.TypeTerms.{RecordTuple, record_tuple, tuple_term, type_term, no_variables, tuple_within}
use Rattle.typespecs_rules.specs.TypeVariables.{parameters}
use Rattle.typespecs_rules.specs.SpecTerms.{type_definition, record_definition, module_specs}
use Rattle.typespecs_rules.specs.RegularUse.{of_record, all_types}
use Rattle.typespecs_rules.specs.TypeFaults.{stands_among, no_variable, fault_layer, own_faults, IsTextFault}
use Rattle.typespecs_lemmas.proofs.FirstFault.{at-index}
use Rattle.typespecs_lemmas.proofs.GivenReach.{mapped, defs-are}
use Rattle.typespecs_lemmas.proofs.GoodParts.{AllGood, good-tuple}
use Rattle.typespecs_lemmas.proofs.TermParts.{Grounds, term-good}
use Rattle.typespecs_lemmas.proofs.ByNumber.{MadeOf, a_given, a_type, a_record, made-of, TuplesGood, tuples-good}
use Rattle.typespecs_lemmas.proofs.DefinedNames.{part-of-Var, parameter-is, index-of}
use Rattle.typespecs_lemmas.proofs.AscendingKeys.{keys-ascend}
use Rattle.typespecs_lemmas.proofs.NoFaults.{TypeRight, RecordRight, all-right, found-every, nothing-from}

-- the keys of a map term
abbrev keys_in : F.Term-F Term Field → List Key
keys_in (F.Map fields rest_int rest_atom) = field_keys fields
keys_in _ = []

map-keys : (fs gs : List Field) (a b c d : Option Term) → Map fs a b ≡ Map gs c d → field_keys fs ≡ field_keys gs
map-keys fs gs a b c d e = sym (ap keys_in (Views.outs-Map fs a b)) ∙ (ap (λ t. keys_in (out-Term t)) e ∙ ap keys_in (Views.outs-Map gs c d))

-- what is asked of a part of a body: a variable is one of its parameters, and the keys of a map term ascend
abbrev IsMade : ℕ → Term → Type 0
IsMade params p = ((i : ℕ) → p ≡ Var i → i < params) × ((fields : List Field) (rest_int rest_atom : Option Term) → p ≡ Map fields rest_int rest_atom → ascending (field_keys fields) ≡ true)

made-plain : (params : ℕ) (p : Term) → (kind_number p ≡ 15 → ⊥) → (kind_number p ≡ 9 → ⊥) → IsMade params p
made-plain params p no_var no_map = ((λ i e. absurd (no_var (ap kind_number e))), (λ fields rest_int rest_atom e. absurd (no_map (ap kind_number e))))

made-Var : (params i : ℕ) → i < params → IsMade params (Var i)
made-Var params i l = ((λ j e. subst (λ n. n < params) (var-number i j e) l), (λ fields rest_int rest_atom e. let f : 15 ≡ 9 = ap kind_number e in absurd (omega arith)))

made-Map : (params : ℕ) (fs : List Field) (a b : Option Term) → ascending (field_keys fs) ≡ true → IsMade params (Map fs a b)
made-Map params fs a b h = ((λ i e. let f : 9 ≡ 15 = ap kind_number e in absurd (omega arith)), (λ gs c d e. subst (λ ks. ascending ks ≡ true) (map-keys fs gs a b c d e) h))

made-Name : (params n : ℕ) (args : List Term) → IsMade params (NameTerm n args)
made-Name params n args = made-plain params (NameTerm n args) (λ e. omega arith) (λ e. omega arith)

module _ (declared : Declarations) (params : ℕ) where
  grounds : (tuples : Name → Option RecordTuple) (variables : Name → Option Term) (allowed : Name → Bool) (Here : Node TypeKind → Type 0) → ((t : Node TypeKind) → Here t → own_faults declared allowed t ≡ []) → ((x : Name) (w : Term) → variables x ≡ Some w → (i : ℕ) × (w ≡ Var i) × (i < params)) → ((name : Name) (r : RecordTuple) → tuples name ≡ Some r → Every (AllGood (IsMade params)) (map (λ f. f.1) r.fields)) → Grounds declared tuples variables Here (IsMade params)
  grounds tuples variables allowed Here right vars below = record {
    plain = λ p no_name no_var no_map. made-plain params p no_var no_map;
    any_map = made-Map params [] (Some Any) (Some Any) refl;
    lists = λ t. made-Name params 0 (t ∷ []);
    variable = λ x w e p part. let v = vars x w e in subst (IsMade params) (sym (part-of-Var v.0 p (subst (λ u. IsPart p u) v.1 part))) (made-Var params v.0 v.2);
    used = λ t name args n own here out q there. made-Name params n own;
    of_record = λ t name tag n here out q. made-Name params n [];
    tuple = λ t name tag f fs r here out q. below name r q;
    of_map = λ t parts es here out q. made-Map params _ _ _ (keys-ascend declared tuples variables parts es (ap (λ l. fault_layer declared allowed l t.place) (sym out) ∙ right t here) q);
  }

  tuples : Every (RecordRight declared) declared.records → (k : ℕ) → TuplesGood declared (λ name. IsMade params) k
  tuples right = tuples-good declared (λ name. IsMade params) (λ name r found k below. grounds (tuple_within declared k) no_variables no_variable (λ t. Among t (all_types (of_record r)))
      (nothing-from (own_faults declared no_variable) (all_types (of_record r)) (found-every (RecordRight declared) declared.records right name r found)) (λ x w e. absurd (cc)) below)

module _ (declared : Declarations) (types_right : Every (TypeRight declared) declared.types) (records_right : Every (RecordRight declared) declared.records) where
  type-made : (i : ℕ) (d : TypeDefKind) (def : Def) → slice_get declared.types i ≡ Some d → type_definition declared d ≡ Some def → AllGood (IsMade def.params) def.body
  type-made i d def e made =
      let p = mapped (λ body. record { params = length d.params; body = body }) (type_term declared (parameters d.params) d.body) def made in
      subst (λ (x : Def). AllGood (IsMade x.params) x.body) p.2
      (term-good declared (record_tuple declared) (parameters d.params) (λ t. Among t (types_within d.body)) (IsMade (length d.params))
      (grounds declared (length d.params) (record_tuple declared) (parameters d.params) (λ x. stands_among x d.params) (λ t. Among t (types_within d.body))
      (nothing-from (own_faults declared (λ x. stands_among x d.params)) (types_within d.body) (at-index (TypeRight declared) declared.types types_right i d e)) (parameter-is d.params) (tuples declared (length d.params) records_right (length declared.records)))
      d.body p.0 (λ t a. a) p.1)

  record-made : (r : RecDefKind) (def : Def) → record_definition declared r ≡ Some def → AllGood (IsMade def.params) def.body
  record-made r def made =
      let p = mapped (λ tuple. record { params = 0; body = tuple_term tuple }) (record_tuple declared r.name) def made in
      subst (λ (x : Def). AllGood (IsMade x.params) x.body) p.2
      (good-tuple (IsMade 0) (λ u no_name no_var no_map. made-plain 0 u no_var no_map) p.0 (tuples declared 0 records_right (length declared.records) r.name p.0 p.1))

  all-made : (n : ℕ) (def : Def) → MadeOf declared n def → VariablesBelow def.params def.body × FieldsAscend def.body
  all-made n def (a_given e) = (given.own_variables def (contains-at given_definitions n def e), given.fields_ascend def (contains-at given_definitions n def e))
  all-made n def (a_type i d q e made) = let h = type-made i d def e made in ((λ j part. (h (Var j) part).0 j refl), (λ fs a b part. (h (Map fs a b) part).1 fs a b refl))
  all-made n def (a_record i r q e made) = let h = record-made r def made in ((λ j part. (h (Var j) part).0 j refl), (λ fs a b part. (h (Map fs a b) part).1 fs a b refl))

pub well-made : (m : Module) (s : Specs) → ((f : PlacedFault) → IsTextFault m f → ⊥) → module_specs m ≡ Some s → AreWellMade s.defs
well-made m s none e =
    let d = defs-are m s e in
    let right = all-right m none in
    subst AreWellMade (sym d.2) (λ def c. let k = index-of (given_definitions ++ d.0) def c in all-made (declarations_of m) right.0 right.1 k.0 def (made-of (declarations_of m) d.0 d.1 k.0 def k.1))
