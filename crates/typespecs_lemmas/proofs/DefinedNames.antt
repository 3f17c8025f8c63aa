-- Each name in the definitions of a module is defined.
use Rattle.std.proofs.Common.{◌≡◌, refl, ap, sym, subst, ◌∙◌, ℕ, zero, suc, ◌<◌, ◌+◌, List, [], ◌∷◌, ◌++◌, map, length, arith}
use Rattle.std.specs.Prelude.{Option, Some, None as Nothing, slice_get}
use Rattle.std.specs.List.{Contains}
use Rattle.type_terms.specs.Keys.{Name}
use Rattle.type_terms.specs.Parts.{IsPart}
use Rattle.type_terms.specs.Definitions.{given_definitions}
use Rattle.type_terms.specs.Undefined.{undefined_among}
use Rattle.type_terms.specs.declared.term.Def.{Def}
use Rattle.type_terms.specs.declared.term.Term.{Term, Var, Name as NameTerm}
use Rattle.type_terms.proofs.Contained.{contains-none}
use Rattle.type_terms.proofs.GivenDefinitions.{given}
use Rattle.type_terms.proofs.PartLaws.{kind_number, each-part, contains-at, name-number, name-arguments, children-Var}
use Rattle.type_terms.proofs.UndefinedMeaning.{none-among}
use Rattle.erl_tree.specs.Lists.{Every, Among}
use Rattle.erl_tree.specs.declared.token.Node.{Node}
use Rattle.erl_tree.specs.declared.type_expr.TypeKind.{TypeKind}
use Rattle.erl_tree.specs.declared.form.TypeDefKind.{TypeDefKind}
use Rattle.erl_tree.specs.declared.form.RecDefKind.{RecDefKind}
use Rattle.erl_tree.specs.declared.form.Module.{Module}
use Rattle.erl_runs.specs.Specs.{all_present}
use Rattle.typespecs_rules.specs.declared.specs.Specs.{Specs}
use Rattle.typespecs_rules.specs.Declarations.{Declarations, declarations_of}
use Rattle.typespecs_rules.specs.TypeTerms.{RecordTuple, record_tuple, tuple_term, type_term, no_variables, tuple_within}
use Rattle.typespecs_rules.specs.TypeVariables.{parameters, place_among}
use Rattle.typespecs_rules.specs.SpecTerms.{type_definition, record_definition, module_specs}
use Rattle.typespecs_rules.specs.RegularUse.{of_record, all_types}
use Rattle.typespecs_lemmas.proofs.RecordTuples.{position-below}
use Rattle.typespecs_lemmas.proofs.GivenReach.{mapped, defs-are}
use Rattle.typespecs_lemmas.proofs.GoodParts.{AllGood, good-tuple}
use Rattle.typespecs_lemmas.proofs.TermParts.{Grounds, term-good, present-length, map-length}
use Rattle.typespecs_lemmas.proofs.ByNumber.{get-left, type-numbered, record-numbered, MadeOf, a_given, a_type, a_record, made-of, type-defined, record-defined, TuplesGood, tuples-good}

-- the parts of a variable
pub part-of-Var : (i : ℕ) (p : Term) → IsPart p (Var i) → p ≡ Var i
part-of-Var i = each-part (λ p. p ≡ Var i) (Var i) [] (children-Var i) refl (λ c k. absurd (contains-none c k))

-- what a parameter stands for
pub parameter-is : (names : List Name) (x : Name) (w : Term) → parameters names x ≡ Some w → (i : ℕ) × (w ≡ Var i) × (i < length names)
parameter-is names x w e =
    let p = mapped (λ i. Var (0 + i)) (place_among names x) w e in
    let l : p.0 < length names = position-below _ names p.0 p.1 in
    (0 + p.0, sym p.2, omega arith)

pub index-of : {A : Type 0} (xs : List A) (x : A) → Contains xs x → (n : ℕ) × (slice_get xs n ≡ Some x)
index-of [] x c = absurd (contains-none x c)
index-of (y ∷ xs) x (zero, l, e) = (0, ap Some e)
index-of (y ∷ xs) x (suc k, l, e) = let p = index-of xs x (k, omega arith, e) in (suc p.0, p.1)

module _ (declared : Declarations) (own : List Def) (present : all_present (map (type_definition declared) declared.types ++ map (record_definition declared) declared.records) ≡ Some own) where
  abbrev defs : List Def
  defs = given_definitions ++ own

  abbrev Good : Term → Type 0
  Good p = (n : ℕ) (args : List Term) → p ≡ NameTerm n args → (def : Def) × (slice_get defs n ≡ Some def) × (def.params ≡ length args)

  name-good : (n : ℕ) (args : List Term) (def : Def) → slice_get defs n ≡ Some def → def.params ≡ length args → Good (NameTerm n args)
  name-good n args def g q m bs e = (def, subst (λ x. slice_get defs x ≡ Some def) (name-number n m args bs e) g, q ∙ ap length (name-arguments n m args bs e))

  type-params : (d : TypeDefKind) (def : Def) → type_definition declared d ≡ Some def → def.params ≡ length d.params
  type-params d def e = let p = mapped (λ body. record { params = length d.params; body = body }) (type_term declared (parameters d.params) d.body) def e in ap (λ (x : Def). x.params) (sym p.2)

  record-params : (r : RecDefKind) (def : Def) → record_definition declared r ≡ Some def → def.params ≡ 0
  record-params r def e = let p = mapped (λ tuple. record { params = 0; body = tuple_term tuple }) (record_tuple declared r.name) def e in ap (λ (x : Def). x.params) (sym p.2)

  grounds : (tuples : Name → Option RecordTuple) (variables : Name → Option Term) (Here : Node TypeKind → Type 0) → ((x : Name) (w : Term) → variables x ≡ Some w → (i : ℕ) × (w ≡ Var i)) → ((name : Name) (r : RecordTuple) → tuples name ≡ Some r → Every (AllGood Good) (map (λ f. f.1) r.fields)) → Grounds declared tuples variables Here Good
  grounds tuples variables Here vars below = record {
    plain = λ p no_name no_var no_map n args e. absurd (no_name (ap kind_number e));
    any_map = λ n args e. let f : 9 ≡ 16 = ap kind_number e in absurd (omega arith);
    lists = λ t. let p = given-at in name-good 0 (t ∷ []) p.0 p.1 p.2;
    variable = λ x w e p part n args q. let v = vars x w e in let f : 15 ≡ 16 = ap kind_number (sym (part-of-Var v.0 p (subst (λ u. IsPart p u) v.1 part)) ∙ q) in absurd (omega arith);
    used = λ t name args n own' here out q there.
        let a = type-numbered declared name (length args) n q in
        let b = type-defined declared own present n a.0 a.1 a.2 a.3 in
        name-good n own' b.0 b.1 (type-params a.1 b.0 b.2 ∙ (a.4 ∙ sym (present-length _ own' there ∙ map-length _ args)));
    of_record = λ t name tag n here out q.
        let a = record-numbered declared name n q in
        let b = record-defined declared own present n a.0 a.1 a.2 a.3 in
        name-good n [] b.0 b.1 (record-params a.1 b.0 b.2);
    tuple = λ t name tag f fs r here out q. below name r q;
    of_map = λ t parts es here out q n args e. let f : 9 ≡ 16 = ap kind_number e in absurd (omega arith);
  }
    where
      given-at : (def : Def) × (slice_get defs 0 ≡ Some def) × (def.params ≡ 1)
      given-at = (_, refl, refl)

  tuples : (k : ℕ) → TuplesGood declared (λ name. Good) k
  tuples = tuples-good declared (λ name. Good) (λ name r found k below. grounds (tuple_within declared k) no_variables (λ t. Among t (all_types (of_record r))) (λ x w e. absurd (cc)) below)

  made-names : (n : ℕ) (def : Def) → MadeOf declared n def → AllGood Good def.body
  made-names n def (a_given e) = λ p part m args q.
      let d = given.names_defined def (contains-at given_definitions n def e) m args (subst (λ u. IsPart u def.body) q part) in
      (d.0, get-left given_definitions own m d.0 d.1, d.2)
  made-names n def (a_type i d q e made) =
      let p = mapped (λ body. record { params = length d.params; body = body }) (type_term declared (parameters d.params) d.body) def made in
      subst (λ (x : Def). AllGood Good x.body) p.2
      (term-good declared (record_tuple declared) (parameters d.params) (λ t. Unit {0}) Good (grounds (record_tuple declared) (parameters d.params) (λ t. Unit {0}) (λ x w r. let v = parameter-is d.params x w r in (v.0, v.1)) (tuples (length declared.records))) d.body p.0 (λ t a. tt) p.1)
  made-names n def (a_record i r q e made) =
      let p = mapped (λ tuple. record { params = 0; body = tuple_term tuple }) (record_tuple declared r.name) def made in
      subst (λ (x : Def). AllGood Good x.body) p.2 (good-tuple Good (λ u no_name no_var no_map m args z. absurd (no_name (ap kind_number z))) p.0 (tuples (length declared.records) r.name p.0 p.1))

  pub all-defined : undefined_among defs ≡ Nothing
  all-defined = none-among defs (λ def c n args part. let k = index-of defs def c in made-names k.0 def (made-of declared own present k.0 def k.1) (NameTerm n args) part n args refl)

pub names-defined : (m : Module) (s : Specs) → module_specs m ≡ Some s → undefined_among s.defs ≡ Nothing
names-defined m s e =
    let d = defs-are m s e in
    subst (λ ds. undefined_among ds ≡ Nothing) (sym d.2) (all-defined (declarations_of m) d.0 d.1)
