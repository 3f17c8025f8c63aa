-- Each name in the arrows of a module's specs is defined, since each variable stands for itself or for the term of a bound.
use Rattle.std.proofs.Common.{◌≡◌, refl, ap, sym, subst, ◌∙◌, ⊎_elim, ℕ, zero, suc, ◌+◌, List, [], ◌∷◌, ◌++◌, map, length, arith}
use Rattle.std.specs.Prelude.{Option, Some, None as Nothing, Bool, true, false, cond, is_some, slice_get}
use Rattle.type_terms.specs.Keys.{Name}
use Rattle.type_terms.specs.Definitions.{NamesAreDefined, given_definitions}
use Rattle.type_terms.specs.declared.spec.Arrow.{Arrow}
use Rattle.type_terms.specs.declared.spec.FunSpec.{FunSpec}
use Rattle.type_terms.specs.declared.term.Def.{Def}
use Rattle.type_terms.specs.declared.term.Term.{Term, And, Var, Name as NameTerm}
use Rattle.type_terms.proofs.PartLaws.{kind_number, name-number, name-arguments}
use Rattle.erl_tree.specs.Lists.{Every, Among}
use Rattle.erl_tree.specs.declared.token.Node.{Node}
use Rattle.erl_tree.specs.declared.type_expr.TypeKind.{TypeKind}
use Rattle.erl_tree.specs.declared.form.TypeDefKind.{TypeDefKind}
use Rattle.erl_tree.specs.declared.form.RecDefKind.{RecDefKind}
use Rattle.erl_tree.specs.declared.form.SpecKind.{SpecKind}
use Rattle.erl_tree.specs.declared.form.SpecClauseKind.{SpecClauseKind}
use Rattle.erl_tree.specs.declared.form.Module.{Module}
use Rattle.erl_tree.specs.Functions.{spec_clauses_arity}
use Rattle.erl_runs.specs.Specs.{all_present, specs_in}
use Rattle.typespecs_rules.specs.declared.specs.Specs.{Specs}
use Rattle.typespecs_rules.specs.Declarations.{Declarations, declarations_of}
use Rattle.typespecs_rules.specs.TypeTerms.{RecordTuple, record_tuple, tuple_term, type_term, no_variables, tuple_within}
use Rattle.typespecs_rules.specs.TypeVariables.{parameters, place_among, numbered_from}
use Rattle.typespecs_rules.specs.TypeParts.{from_each}
use Rattle.typespecs_rules.specs.RegularUse.{of_record, all_types}
use Rattle.typespecs_rules.specs.Bounds.{bound_of, stands_once, with_bound, stands_within, stands_for}
use Rattle.typespecs_rules.specs.SpecTerms.{type_definition, record_definition, definitions, clause_term, held_variables, clause_arrow, arrows_from, variables_in, function_spec, function_specs, module_specs}
use Rattle.typespecs_rules.specs.TypeFaults.{arrows_of}
use Rattle.typespecs_lemmas.specs.Acyclic.{bounded_term}
use Rattle.typespecs_lemmas.proofs.BoundTerms.{one-level}
use Rattle.typespecs_lemmas.proofs.ByNumber.{type-numbered, record-numbered, type-defined, record-defined, TuplesGood, tuples-good}
use Rattle.typespecs_lemmas.proofs.DefinedNames.{part-of-Var}
use Rattle.typespecs_lemmas.proofs.FirstFault.{some-inj}
use Rattle.typespecs_lemmas.proofs.GivenReach.{mapped, both, defs-are}
use Rattle.typespecs_lemmas.proofs.GoodParts.{AllGood, good-And}
use Rattle.typespecs_lemmas.proofs.TermParts.{Grounds, term-good, present-parts, present-length, map-length}
use Rattle.typespecs_lemmas.proofs.TextFaults.{among-cases}

module _ (declared : Declarations) (own : List Def) (present : all_present (map (type_definition declared) declared.types ++ map (record_definition declared) declared.records) ≡ Some own) where
  abbrev defs : List Def
  defs = given_definitions ++ own

  -- a term is no name, or a defined one
  abbrev Good : Term → Type 0
  Good p = (n : ℕ) (args : List Term) → p ≡ NameTerm n args → (def : Def) × (slice_get defs n ≡ Some def) × (def.params ≡ length args)

  name-good : (n : ℕ) (args : List Term) (def : Def) → slice_get defs n ≡ Some def → def.params ≡ length args → Good (NameTerm n args)
  name-good n args def g q m bs e = (def, subst (λ x. slice_get defs x ≡ Some def) (name-number n m args bs e) g, q ∙ ap length (name-arguments n m args bs e))

  no-name : (p : Term) → (kind_number p ≡ 16 → ⊥) → Good p
  no-name p h n args e = absurd (h (ap kind_number e))

  type-params : (d : TypeDefKind) (def : Def) → type_definition declared d ≡ Some def → def.params ≡ length d.params
  type-params d def e = let p = mapped (λ body. record { params = length d.params; body = body }) (type_term declared (parameters d.params) d.body) def e in ap (λ (x : Def). x.params) (sym p.2)

  record-params : (r : RecDefKind) (def : Def) → record_definition declared r ≡ Some def → def.params ≡ 0
  record-params r def e = let p = mapped (λ tuple. record { params = 0; body = tuple_term tuple }) (record_tuple declared r.name) def e in ap (λ (x : Def). x.params) (sym p.2)

  abbrev AreGood : (Name → Option Term) → Type 0
  AreGood variables = (x : Name) (w : Term) → variables x ≡ Some w → AllGood Good w

  grounds : (tuples : Name → Option RecordTuple) (variables : Name → Option Term) (Here : Node TypeKind → Type 0) → AreGood variables → ((name : Name) (r : RecordTuple) → tuples name ≡ Some r → Every (AllGood Good) (map (λ f. f.1) r.fields)) → Grounds declared tuples variables Here Good
  grounds tuples variables Here vars below = record {
    plain = λ p not_name not_var not_map. no-name p not_name;
    any_map = λ n args e. let f : 9 ≡ 16 = ap kind_number e in absurd (omega arith);
    lists = λ t. let p = given-at in name-good 0 (t ∷ []) p.0 p.1 p.2;
    variable = λ x w e p part. vars x w e p part;
    used = λ t name args n own' here out q there.
        let a = type-numbered declared name (length args) n q in
        let b = type-defined declared own present n a.0 a.1 a.2 a.3 in
        name-good n own' b.0 b.1 (type-params a.1 b.0 b.2 ∙ (a.4 ∙ sym (present-length _ own' there ∙ map-length _ args)));
    of_record = λ t name tag n here out q.
        let a = record-numbered declared name n q in
        let b = record-defined declared own present n a.0 a.1 a.2 a.3 in
        name-good n [] b.0 b.1 (record-params a.1 b.0 b.2);
    tuple = λ t name tag f fs r here out q. below name r q;
    of_map = λ t parts es here out q n args e. let f : 9 ≡ 16 = ap kind_number e in absurd (omega arith);
  }
    where
      given-at : (def : Def) × (slice_get defs 0 ≡ Some def) × (def.params ≡ 1)
      given-at = (_, refl, refl)

  tuples : (k : ℕ) → TuplesGood declared (λ name. Good) k
  tuples = tuples-good declared (λ name. Good) (λ name r found k below. grounds (tuple_within declared k) no_variables (λ t. Among t (all_types (of_record r))) (λ x w e. absurd (cc)) below)

  -- the term of a type is good where those of its variables are
  type-good : (variables : Name → Option Term) → AreGood variables → (t : Node TypeKind) (w : Term) → type_term declared variables t ≡ Some w → AllGood Good w
  type-good variables vars t w e = term-good declared (record_tuple declared) variables (λ u. Unit {0}) Good (grounds (record_tuple declared) variables (λ u. Unit {0}) vars (tuples (length declared.records))) t w (λ u a. tt) e

  numbered-good : (first : ℕ) (names : List Name) → AreGood (numbered_from first names)
  numbered-good first names x w e =
      let p = mapped (λ i. Var (first + i)) (place_among names x) w e in
      subst (λ (u : Term). AllGood Good u) p.2 (λ q part. no-name q (λ k. let f : 15 ≡ 16 = ap kind_number (sym (part-of-Var (first + p.0) q part)) ∙ k in absurd (omega arith)))

  with-good : (once : Bool) (variable bound : Option Term) (w : Term) → ((a : Term) → variable ≡ Some a → AllGood Good a) → ((b : Term) → bound ≡ Some b → AllGood Good b) → with_bound once variable bound ≡ Some w → AllGood Good w
  with-good true variable bound w h k e = k w e
  with-good false variable bound w h k e =
      let a = both variable _ w e in
      let b = mapped (λ c. And (a.0 ∷ c ∷ [])) bound w a.2 in
      subst (λ (u : Term). AllGood Good u) b.2 (good-And Good other (a.0 ∷ b.0 ∷ []) (h a.0 a.1, (k b.0 b.1, tt)))
    where
      other : (p : Term) → (kind_number p ≡ 16 → ⊥) → (kind_number p ≡ 15 → ⊥) → (kind_number p ≡ 9 → ⊥) → Good p
      other p not_name not_var not_map = no-name p not_name

  module _ (c : SpecClauseKind) (variables : Name → Option Term) (vars : AreGood variables) where
    within-good : (k : ℕ) → AreGood (stands_within declared c variables k)
    within-good zero x w e = go (is_some (bound_of c.bounds x)) e
      where
        go : (b : Bool) → cond b Nothing (variables x) ≡ Some w → AllGood Good w
        go true q = absurd (cc)
        go false q = vars x w q
    within-good (suc k) x w e = go (bound_of c.bounds x) (within-good k) (sym (one-level declared c variables k x) ∙ e)
      where
        go : (o : Option (Node TypeKind)) → AreGood (stands_within declared c variables k) → bounded_term declared c variables (stands_within declared c variables k) x o ≡ Some w → AllGood Good w
        go Nothing before q = vars x w q
        go (Some t) before q = with-good (stands_once c x) (variables x) (type_term declared (stands_within declared c variables k) t) w (λ a r. vars x a r) (λ b r. type-good (stands_within declared c variables k) before t b r) q

    clause-good : (t : Node TypeKind) (w : Term) → clause_term declared c variables t ≡ Some w → AllGood Good w
    clause-good t w e = type-good (stands_for declared c variables) (within-good (length c.bounds)) t w e

    params-good : (ts : List (Node TypeKind)) (ws : List Term) → all_present (map (clause_term declared c variables) ts) ≡ Some ws → (w : Term) → Among w ws → AllGood Good w
    params-good [] ws e w a = elim (subst (λ (l : List Term). Among w l) (sym (some-inj [] ws e)) a) [ ]
    params-good (t ∷ ts) ws e w a =
        let p = present-parts (clause_term declared c variables t) (map (clause_term declared c variables) ts) ws e in
        ⊎_elim (λ (q : w ≡ p.0). subst (λ (u : Term). AllGood Good u) (sym q) (clause-good t p.0 p.2)) (λ r. params-good ts p.1 p.3 w r) (subst (λ (l : List Term). Among w l) (sym p.4) a)

  -- each term of an arrow is good
  abbrev IsGoodArrow : Arrow → Type 0
  IsGoodArrow a = (w : Term) → Among w (a.params ++ (a.result ∷ [])) → AllGood Good w

  arrow-good : (first : ℕ) (c : SpecClauseKind) (a : Arrow) → clause_arrow declared first c ≡ Some a → IsGoodArrow a
  arrow-good first c a e =
      let variables = numbered_from first (held_variables declared c) in
      let vars : AreGood (numbered_from first (held_variables declared c)) = numbered-good first (held_variables declared c) in
      let p = both (all_present (map (clause_term declared c (numbered_from first (held_variables declared c))) c.params)) _ a e in
      let r = mapped (λ result. record { params = p.0; result = result }) (clause_term declared c (numbered_from first (held_variables declared c)) c.result) a p.2 in
      subst IsGoodArrow r.2 (λ w i. ⊎_elim
      (λ j. params-good c (numbered_from first (held_variables declared c)) vars c.params p.0 p.1 w j)
      (λ j. ⊎_elim (λ (q : w ≡ r.0). subst (λ (u : Term). AllGood Good u) (sym q) (clause-good c (numbered_from first (held_variables declared c)) vars c.result r.0 r.1)) (λ k. elim k [ ]) j)
      (among-cases w p.0 (r.0 ∷ []) i))

  arrows-good : (first : ℕ) (cs : List (Node SpecClauseKind)) (arrows : List Arrow) → arrows_from declared first cs ≡ Some arrows → (a : Arrow) → Among a arrows → IsGoodArrow a
  arrows-good first [] arrows e a i = elim (subst (λ (l : List Arrow). Among a l) (sym (some-inj [] arrows e)) i) [ ]
  arrows-good first (c ∷ cs) arrows e a i =
      let p = both (clause_arrow declared first c.kind) _ arrows e in
      let r = mapped (λ more. p.0 ∷ more) (arrows_from declared (first + length (held_variables declared c.kind)) cs) arrows p.2 in
      ⊎_elim (λ (q : a ≡ p.0). subst IsGoodArrow (sym q) (arrow-good first c.kind p.0 p.1))
      (λ j. arrows-good (first + length (held_variables declared c.kind)) cs r.0 r.1 a j)
      (subst (λ (l : List Arrow). Among a l) (sym r.2) i)

  spec-good : (s : SpecKind) (f : FunSpec) → function_spec declared s ≡ Some f → (a : Arrow) → Among a f.clauses → IsGoodArrow a
  spec-good s f e a i =
      let p = mapped (λ arrows. record { name = s.name; arity = spec_clauses_arity s.clauses; vars = variables_in declared s.clauses; clauses = arrows }) (arrows_from declared 0 s.clauses) f e in
      arrows-good 0 s.clauses p.0 p.1 a (subst (λ (x : FunSpec). Among a x.clauses) (sym p.2) i)

  specs-good : (ss : List (Node SpecKind)) (fs : List FunSpec) → function_specs declared ss ≡ Some fs → (a : Arrow) → Among a (from_each (λ (f : FunSpec). f.clauses) fs) → IsGoodArrow a
  specs-good [] fs e a i = elim (subst (λ (l : List FunSpec). Among a (from_each (λ (f : FunSpec). f.clauses) l)) (sym (some-inj [] fs e)) i) [ ]
  specs-good (s ∷ ss) fs e a i =
      let p = present-parts (function_spec declared s.kind) (map (λ (t : Node SpecKind). function_spec declared t.kind) ss) fs e in
      ⊎_elim (λ j. spec-good s.kind p.0 p.2 a j) (λ j. specs-good ss p.1 p.3 a j)
      (among-cases a p.0.clauses (from_each (λ (f : FunSpec). f.clauses) p.1) (subst (λ (l : List FunSpec). Among a (from_each (λ (f : FunSpec). f.clauses) l)) (sym p.4) i))

pub arrow-names : (m : Module) (s : Specs) → module_specs m ≡ Some s → (a : Arrow) → Among a (arrows_of s) → (t : Term) → Among t (a.params ++ (a.result ∷ [])) → NamesAreDefined s.defs t
arrow-names m s e a i t j =
    let d = defs-are m s e in
    let p = both (definitions (declarations_of m)) _ s e in
    let r = mapped _ (function_specs (declarations_of m) (specs_in m.forms)) s p.2 in
    let good = specs-good (declarations_of m) d.0 d.1 (specs_in m.forms) r.0 r.1 a (subst (λ (x : Specs). Among a (arrows_of x)) (sym r.2) i) t j in
    subst (λ (ds : List Def). NamesAreDefined ds t) (sym d.2) (λ n args part. good (NameTerm n args) part n args refl)
