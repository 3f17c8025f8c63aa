-- The names in a definition come from mentions: those in its own declaration, and those in the declarations of records that it is made of.
use Rattle.std.proofs.Common.{◌≡◌, refl, ap, sym, subst, ◌∙◌, ℕ, zero, suc, ◌+◌, List, [], ◌∷◌, ◌++◌, map, length, arith, ◌⊎◌, inl, inr}
use Rattle.std.specs.Prelude.{Option, Some, None as Nothing, slice_get}
use Rattle.type_terms.specs.Keys.{Name}
use Rattle.type_terms.specs.Parts.{IsPart}
use Rattle.std.specs.List.{Contains}
use Rattle.type_terms.specs.Paths.{IsPath, edge, onward}
use Rattle.type_terms.specs.declared.term.Def.{Def}
use Rattle.type_terms.specs.declared.term.Term.{Term, Name as NameTerm}
use Rattle.type_terms.proofs.PartLaws.{kind_number, name-number, name-arguments}
use Rattle.erl_tree.specs.Lists.{Every, Among}
use Rattle.erl_tree.specs.declared.token.Node.{Node}
use Rattle.erl_tree.specs.declared.type_expr.TypeKind.{TypeKind, out-TypeKind}
use Rattle.erl_tree.specs.declared.type_expr.TypeKind.TheOpen as O
use Rattle.erl_tree.specs.declared.form.TypeDefKind.{TypeDefKind}
use Rattle.erl_tree.specs.declared.form.RecDefKind.{RecDefKind}
use Rattle.erl_runs.specs.Records.{find_record}
use Rattle.erl_runs.specs.Specs.{all_present}
use Rattle.typespecs_rules.specs.Declarations.{Declarations, type_number, record_number}
use Rattle.typespecs_rules.specs.TypeParts.{from_each, types_within}
use Rattle.typespecs_rules.specs.TypeTerms.{RecordTuple, record_tuple, tuple_term, tuple_of, type_kind_term, type_term, no_variables, tuple_within}
use Rattle.typespecs_rules.specs.TypeVariables.{parameters}
use Rattle.typespecs_rules.specs.SpecTerms.{type_definition, record_definition}
use Rattle.typespecs_rules.specs.RegularUse.{Declaration, of_type, of_record, given_declaration, by_number, all_types, if_some, mention_layer, mentioned_by, mention_graph, argument_layer, arguments_of}
use Rattle.typespecs_lemmas.proofs.AlikeTypes.{among-left, among-each}
use Rattle.typespecs_lemmas.proofs.RecordTuples.{among-contains, get-mapped, numbered}
use Rattle.typespecs_lemmas.proofs.FirstFault.{some-inj}
use Rattle.typespecs_lemmas.proofs.GivenReach.{mapped, both}
use Rattle.typespecs_lemmas.proofs.GoodParts.{AllGood, good-tuple}
use Rattle.typespecs_lemmas.proofs.TermParts.{Grounds, term-good, present-length, map-length}
use Rattle.typespecs_lemmas.proofs.ByNumber.{get-left, get-right, get-of-map, TuplesGood, tuples-good}
use Rattle.typespecs_lemmas.proofs.DefinedNames.{part-of-Var, parameter-is}

pub path-through : (graph : List (List ℕ)) (a b c : ℕ) → IsPath graph a b → IsPath graph b c → IsPath graph a c
path-through graph a b _ p (edge _ c k) = onward a b c p k
path-through graph a b _ p (onward _ k c q e) = onward a k c (path-through graph a b k p q) e

every-to : {A : Type 0} (P Q : A → Type 0) → ((x : A) → P x → Q x) → (xs : List A) → Every P xs → Every Q xs
every-to P Q f [] h = tt
every-to P Q f (x ∷ xs) h = (f x h.0, every-to P Q f xs h.1)

pub if_some-is : (o : Option ℕ) (n : ℕ) → Among n (if_some o) → o ≡ Some n
if_some-is Nothing n a = absurd a
if_some-is (Some k) n (inl e) = ap Some (sym e)
if_some-is (Some k) n (inr a) = absurd a

some-among : (o : Option ℕ) (n : ℕ) → o ≡ Some n → Among n (if_some o)
some-among o n e = subst (λ x. Among n (if_some x)) (sym e) (inl refl)

module _ (declared : Declarations) where
  abbrev pub graph : List (List ℕ)
  graph = mention_graph declared

  -- ---- declarations by number

  pub type-at : (n i : ℕ) (d : TypeDefKind) → n ≡ 2 + i → slice_get declared.types i ≡ Some d → slice_get (by_number declared) n ≡ Some (of_type d)
  type-at n i d q e = get-right (given_declaration ∷ given_declaration ∷ []) (map of_type declared.types ++ map of_record declared.records) n i (of_type d) q (get-left (map of_type declared.types) (map of_record declared.records) i (of_type d) (get-of-map of_type declared.types i d e))

  pub record-at : (n i : ℕ) (r : RecDefKind) → n ≡ 2 + (length declared.types + i) → slice_get declared.records i ≡ Some r → slice_get (by_number declared) n ≡ Some (of_record r)
  record-at n i r q e =
      let l : length (map of_type declared.types) ≡ length declared.types = map-length of_type declared.types in
      get-right (given_declaration ∷ given_declaration ∷ []) (map of_type declared.types ++ map of_record declared.records) n (length declared.types + i) (of_record r) q (get-right (map of_type declared.types) (map of_record declared.records) (length declared.types + i) i (of_record r) (omega arith) (get-of-map of_record declared.records i r e))

  -- what stands in a declaration leads on from it
  pub mention-leads : (n m : ℕ) (d : Declaration) (t : Node TypeKind) → slice_get (by_number declared) n ≡ Some d → Among t (all_types d) → Among m (mentioned_by declared t) → IsPath graph n m
  mention-leads n m d t e a b =
      edge n m (subst (λ l. Contains l m) (sym (get-mapped (λ (x : Declaration). from_each (mentioned_by declared) (all_types x)) (by_number declared) n d [] e)) (among-contains m _ (among-each (mentioned_by declared) t m (all_types d) a b)))

  -- ---- names by mentions

  pub type-mention : (t : Node TypeKind) (name : Name) (args : List (Node TypeKind)) (n : ℕ) → out-TypeKind t.kind ≡ O.Use Nothing name args → type_number declared name (length args) ≡ Some n → Among n (mentioned_by declared t)
  type-mention t name args n out q = subst (λ l. Among n (mention_layer declared l)) (sym out) (some-among (type_number declared name (length args)) n q)

  pub record-mention : (t : Node TypeKind) (name tag : Name) (fields : List (Node (Name × Node TypeKind))) (n : ℕ) → out-TypeKind t.kind ≡ O.Rec name tag fields → record_number declared name ≡ Some n → Among n (mentioned_by declared t)
  record-mention t name tag fields n out q = subst (λ l. Among n (mention_layer declared l)) (sym out) (some-among (record_number declared name) n q)

  -- a name in the tuples of a record: it is mentioned in that record's declaration, or in one to which this leads
  pub record FromRecord (name : Name) (m : ℕ) (args : List Term) : Type 0 where
    pub holder : Declaration
    pub number : ℕ
    pub numbered : slice_get (by_number declared) number ≡ Some holder
    pub no_params : holder.params ≡ []
    pub leads : (start : ℕ) → record_number declared name ≡ Some start → (start ≡ number) ⊎ IsPath (mention_graph declared) start number
    pub mention : Node TypeKind
    pub inside : Among mention (all_types holder)
    pub mentions : Among m (mentioned_by declared mention)
    pub counted : length args ≡ length (arguments_of mention)

  abbrev pub InRecord : Name → Term → Type 0
  InRecord name p = (m : ℕ) (args : List Term) → p ≡ NameTerm m args → (m ≡ 0) ⊎ FromRecord name m args

  tuple-found : (k : ℕ) (name : Name) (r : RecordTuple) → tuple_within declared k name ≡ Some r → (d : RecDefKind) × (find_record declared.records name ≡ Some d)
  tuple-found zero name r e = absurd (cc)
  tuple-found (suc k) name r e = let a = both (find_record declared.records name) (λ d. tuple_of (type_kind_term declared (tuple_within declared k) no_variables) d) r e in (a.0, a.1)

  module _ (name : Name) (r : RecDefKind) (found : find_record declared.records name ≡ Some r) where
    abbrev place : ℕ
    place = 2 + (length declared.types + (numbered declared name r found).0)

    own-declaration : slice_get (by_number declared) place ≡ Some (of_record r)
    own-declaration = let p = numbered declared name r found in record-at place p.0 r refl p.2

    from-own : (t : Node TypeKind) (n m : ℕ) (own args : List Term) → Among t (all_types (of_record r)) → Among n (mentioned_by declared t) → length own ≡ length (arguments_of t) → NameTerm n own ≡ NameTerm m args → FromRecord name m args
    from-own t n m own args here a l e = record {
      holder = of_record r;
      number = place;
      numbered = own-declaration;
      no_params = refl;
      leads = λ start q. inl (some-inj start place (sym q ∙ (numbered declared name r found).1));
      mention = t;
      inside = here;
      mentions = subst (λ k. Among k (mentioned_by declared t)) (name-number n m own args e) a;
      counted = ap length (sym (name-arguments n m own args e)) ∙ l;
    }

    -- what stands in the tuples of a record that this one is made of
    from-other : (other : Name) (d : RecDefKind) (t : Node TypeKind) (tag : Name) (fields : List (Node (Name × Node TypeKind))) (m : ℕ) (args : List Term) → find_record declared.records other ≡ Some d → Among t (all_types (of_record r)) → out-TypeKind t.kind ≡ O.Rec other tag fields → FromRecord other m args → FromRecord name m args
    from-other other d t tag fields m args other_found here out f =
        let q = numbered declared other d other_found in
        let next : ℕ = 2 + (length declared.types + q.0) in
        let step : IsPath graph place next = mention-leads place next (of_record r) t own-declaration here (record-mention t other tag fields next out q.1) in
        record {
          holder = f.holder;
          number = f.number;
          numbered = f.numbered;
          no_params = f.no_params;
          leads = λ start e. inr (subst (λ k. IsPath graph k f.number) (some-inj place start (sym (numbered declared name r found).1 ∙ e)) (go next step (f.leads next q.1)));
          mention = f.mention;
          inside = f.inside;
          mentions = f.mentions;
          counted = f.counted;
        }
      where
        go : (next : ℕ) → IsPath graph place next → (next ≡ f.number) ⊎ IsPath graph next f.number → IsPath graph place f.number
        go next step (inl e) = subst (λ k. IsPath graph place k) e step
        go next step (inr p) = path-through graph place next f.number step p

    record-grounds : (k : ℕ) → TuplesGood declared InRecord k → Grounds declared (tuple_within declared k) no_variables (λ t. Among t (all_types (of_record r))) (InRecord name)
    record-grounds k below = record {
      plain = λ p no_name no_var no_map m args e. absurd (no_name (ap kind_number e));
      any_map = λ m args e. let f : 9 ≡ 16 = ap kind_number e in absurd (omega arith);
      lists = λ t m args e. inl (sym (name-number 0 m (t ∷ []) args e));
      variable = λ x w e. absurd (cc);
      used = λ t used args n own here out q there m bs e. inr (from-own t n m own bs here (type-mention t used args n out q) (present-length _ own there ∙ (map-length _ args ∙ ap (λ l. length (argument_layer l)) (sym out))) e);
      of_record = λ t used tag n here out q m bs e. inr (from-own t n m [] bs here (record-mention t used tag [] n out q) (ap (λ l. length (argument_layer l)) (sym out)) e);
      tuple = λ t used tag f fs tuple here out q.
          let d = tuple-found k used tuple q in
          every-to (AllGood (InRecord used)) (AllGood (InRecord name)) (λ w good p part m args e. onto used d.0 t tag (f ∷ fs) m args d.1 here out (good p part m args e)) _ (below used tuple q);
      of_map = λ t parts es here out q m args e. let f : 9 ≡ 16 = ap kind_number e in absurd (omega arith);
    }
      where
        onto : (other : Name) (d : RecDefKind) (t : Node TypeKind) (tag : Name) (fields : List (Node (Name × Node TypeKind))) (m : ℕ) (args : List Term) → find_record declared.records other ≡ Some d → Among t (all_types (of_record r)) → out-TypeKind t.kind ≡ O.Rec other tag fields → (m ≡ 0) ⊎ FromRecord other m args → (m ≡ 0) ⊎ FromRecord name m args
        onto other d t tag fields m args o here out (inl z) = inl z
        onto other d t tag fields m args o here out (inr f) = inr (from-other other d t tag fields m args o here out f)

  pub in-tuples : (name : Name) (r : RecordTuple) → record_tuple declared name ≡ Some r → Every (AllGood (InRecord name)) (map (λ f. f.1) r.fields)
  in-tuples = tuples-good declared InRecord record-grounds (length declared.records)

  -- ---- names in the body of a type

  -- a name in a type's body: it stands there as it is mentioned
  pub record IsMentioned (d : Declaration) (m : ℕ) (args : List Term) : Type 0 where
    pub mention : Node TypeKind
    pub inside : Among mention (all_types d)
    pub mentions : Among m (mentioned_by declared mention)
    pub passed : all_present (map (type_term declared (parameters d.params)) (arguments_of mention)) ≡ Some args

  -- or in the tuples of a record that stands there with fields in the places of its own
  pub record ComesBy (d : Declaration) (m : ℕ) (args : List Term) : Type 0 where
    pub mention : Node TypeKind
    pub inside : Among mention (all_types d)
    pub name : Name
    pub number : ℕ
    pub numbered : record_number declared name ≡ Some number
    pub mentions : Among number (mentioned_by declared mention)
    pub no_arguments : arguments_of mention ≡ []
    pub from : FromRecord name m args

  abbrev pub InType : Declaration → Term → Type 0
  InType d p = (m : ℕ) (args : List Term) → p ≡ NameTerm m args → (m ≡ 0) ⊎ (IsMentioned d m args ⊎ ComesBy d m args)

  module _ (d : TypeDefKind) where
    mentioned : (t : Node TypeKind) (n m : ℕ) (own args : List Term) → Among t (all_types (of_type d)) → Among n (mentioned_by declared t) → all_present (map (type_term declared (parameters d.params)) (arguments_of t)) ≡ Some own → NameTerm n own ≡ NameTerm m args → IsMentioned (of_type d) m args
    mentioned t n m own args here a p e = record {
      mention = t;
      inside = here;
      mentions = subst (λ k. Among k (mentioned_by declared t)) (name-number n m own args e) a;
      passed = p ∙ ap Some (name-arguments n m own args e);
    }

    type-grounds : Grounds declared (record_tuple declared) (parameters d.params) (λ t. Among t (all_types (of_type d))) (InType (of_type d))
    type-grounds = record {
      plain = λ p no_name no_var no_map m args e. absurd (no_name (ap kind_number e));
      any_map = λ m args e. let f : 9 ≡ 16 = ap kind_number e in absurd (omega arith);
      lists = λ t m args e. inl (sym (name-number 0 m (t ∷ []) args e));
      variable = λ x w e p part m args q. let v = parameter-is d.params x w e in let f : 15 ≡ 16 = ap kind_number (sym (part-of-Var v.0 p (subst (λ u. IsPart p u) v.1 part)) ∙ q) in absurd (omega arith);
      used = λ t used args n own here out q there m bs e. inr (inl (mentioned t n m own bs here (type-mention t used args n out q) (ap (λ l. all_present (map (type_term declared (parameters d.params)) (argument_layer l))) out ∙ there) e));
      of_record = λ t used tag n here out q m bs e. inr (inl (mentioned t n m [] bs here (record-mention t used tag [] n out q) (ap (λ l. all_present (map (type_term declared (parameters d.params)) (argument_layer l))) out) e));
      tuple = λ t used tag f fs tuple here out q.
          let r = tuple-found (length declared.records) used tuple q in
          let k = numbered declared used r.0 r.1 in
          every-to (AllGood (InRecord used)) (AllGood (InType (of_type d))) (λ w good p part m args e. onto t used tag (f ∷ fs) (2 + (length declared.types + k.0)) m args here out k.1 (good p part m args e)) _ (in-tuples used tuple q);
      of_map = λ t parts es here out q m args e. let f : 9 ≡ 16 = ap kind_number e in absurd (omega arith);
    }
      where
        onto : (t : Node TypeKind) (used tag : Name) (fields : List (Node (Name × Node TypeKind))) (number m : ℕ) (args : List Term) → Among t (all_types (of_type d)) → out-TypeKind t.kind ≡ O.Rec used tag fields → record_number declared used ≡ Some number → (m ≡ 0) ⊎ FromRecord used m args → (m ≡ 0) ⊎ (IsMentioned (of_type d) m args ⊎ ComesBy (of_type d) m args)
        onto t used tag fields number m args here out q (inl z) = inl z
        onto t used tag fields number m args here out q (inr f) = inr (inr (record {
          mention = t;
          inside = here;
          name = used;
          number = number;
          numbered = q;
          mentions = record-mention t used tag fields number out q;
          no_arguments = ap argument_layer out;
          from = f;
        }))

    pub in-type : (def : Def) → type_definition declared d ≡ Some def → AllGood (InType (of_type d)) def.body
    in-type def made =
        let p = mapped (λ body. record { params = length d.params; body = body }) (type_term declared (parameters d.params) d.body) def made in
        subst (λ (x : Def). AllGood (InType (of_type d)) x.body) p.2
        (term-good declared (record_tuple declared) (parameters d.params) (λ t. Among t (all_types (of_type d))) (InType (of_type d)) type-grounds d.body p.0 (λ t a. among-left t (types_within d.body) [] a) p.1)

  pub in-record : (r : RecDefKind) (def : Def) → record_definition declared r ≡ Some def → AllGood (InRecord r.name) def.body
  in-record r def made =
      let p = mapped (λ tuple. record { params = 0; body = tuple_term tuple }) (record_tuple declared r.name) def made in
      subst (λ (x : Def). AllGood (InRecord r.name) x.body) p.2 (good-tuple (InRecord r.name) (λ u no_name no_var no_map m args z. absurd (no_name (ap kind_number z))) p.0 (in-tuples r.name p.0 p.1))
