-- What holds of every part of a term, from what holds of its level and of every part of its children; and so of map terms, tuples and the terms of built-in types.
use Rattle.std.proofs.Common.{◌≡◌, ap, subst, ℕ, ℤ, List, [], ◌∷◌, ◌++◌, map, arith, ⊎_elim}
use Rattle.std.specs.Prelude.{Option, Some, None as Nothing, Bool, true, false, cond, if◌then◌else◌, codes}
use Rattle.std.specs.List.{Contains}
use Rattle.type_terms.specs.Keys.{Name, same_name, key_lt}
use Rattle.type_terms.specs.Reading.{le_int}
use Rattle.type_terms.specs.Parts.{IsPart, children, layer_children, field_terms, rest_terms}
use Rattle.type_terms.specs.declared.term.Field.{Field}
use Rattle.type_terms.specs.declared.term.Term.{Term, Any, None, Ints, AtomLit, AnyAtom, Nil, Cons, Tuple, AnyTuple, Map, Fun, AnyFun, Or, And, Not, Name as NameTerm}
use Rattle.type_terms.specs.declared.term.Term.TheViews as Views
use Rattle.type_terms.proofs.Contained.{contains-none, contains-cases}
use Rattle.type_terms.proofs.PartLaws.{kind_number, each-part}
use Rattle.erl_tree.specs.Lists.{Every}
use Rattle.erl_tree.specs.declared.pattern.LiteralKind.{LiteralKind}
use Rattle.erl_tree.specs.declared.token.Node.{Node}
use Rattle.typespecs_rules.specs.BuiltInTypes.{list_of, nonempty_list_of, plain_types, term_among, built_in_term}
use Rattle.typespecs_rules.specs.TypeTerms.{MapKey, this_key, integer_keys, atom_keys, no_key, MapEntry, inserted, with_field, fields_among, rest_for_integers, integer_rest, rest_for_atoms, atom_rest, map_term, RecordTuple, tuple_term, given_or, with_fields, set_operation, prefixed_term, range_end, range_term}
use Rattle.typespecs_lemmas.proofs.FirstFault.{some-inj}
use Rattle.typespecs_lemmas.proofs.GivenReach.{both}

-- ---- lists

pub every-append : {A : Type 0} (P : A → Type 0) (xs ys : List A) → Every P xs → Every P ys → Every P (xs ++ ys)
every-append P [] ys h k = k
every-append P (x ∷ xs) ys h k = (h.0, every-append P xs ys h.1 k)

pub every-contains : {A : Type 0} (P : A → Type 0) (xs : List A) → Every P xs → (x : A) → Contains xs x → P x
every-contains P [] h x c = absurd (contains-none x c)
every-contains P (y ∷ ys) h x c = ⊎_elim (λ (e : y ≡ x). subst P e h.0) (λ k. every-contains P ys h.1 x k) (contains-cases y x ys c)

-- ---- parts

module _ (Good : Term → Type 0) where
  -- each part is good
  abbrev pub AllGood : Term → Type 0
  AllGood w = (p : Term) → IsPart p w → Good p

  pub of-children : (w : Term) (ts : List Term) → children w ≡ ts → Good w → Every AllGood ts → AllGood w
  of-children w ts e g h = each-part Good w ts e g (every-contains AllGood ts h)

  module _ (plain : (p : Term) → (kind_number p ≡ 16 → ⊥) → (kind_number p ≡ 15 → ⊥) → (kind_number p ≡ 9 → ⊥) → Good p) where
    pub good-Any : AllGood Any
    good-Any = of-children Any [] (ap layer_children Views.outs-Any) (plain Any (λ e. omega arith) (λ e. omega arith) (λ e. omega arith)) tt

    pub good-None : AllGood None
    good-None = of-children None [] (ap layer_children Views.outs-None) (plain None (λ e. omega arith) (λ e. omega arith) (λ e. omega arith)) tt

    pub good-Ints : (low high : Option ℤ) → AllGood (Ints low high)
    good-Ints low high = of-children (Ints low high) [] (ap layer_children (Views.outs-Ints low high)) (plain (Ints low high) (λ e. omega arith) (λ e. omega arith) (λ e. omega arith)) tt

    pub good-AtomLit : (a : Name) → AllGood (AtomLit a)
    good-AtomLit a = of-children (AtomLit a) [] (ap layer_children (Views.outs-AtomLit a)) (plain (AtomLit a) (λ e. omega arith) (λ e. omega arith) (λ e. omega arith)) tt

    pub good-AnyAtom : AllGood AnyAtom
    good-AnyAtom = of-children AnyAtom [] (ap layer_children Views.outs-AnyAtom) (plain AnyAtom (λ e. omega arith) (λ e. omega arith) (λ e. omega arith)) tt

    pub good-Nil : AllGood Nil
    good-Nil = of-children Nil [] (ap layer_children Views.outs-Nil) (plain Nil (λ e. omega arith) (λ e. omega arith) (λ e. omega arith)) tt

    pub good-Cons : (head tail : Term) → AllGood head → AllGood tail → AllGood (Cons head tail)
    good-Cons head tail h k = of-children (Cons head tail) (head ∷ tail ∷ []) (ap layer_children (Views.outs-Cons head tail)) (plain (Cons head tail) (λ e. omega arith) (λ e. omega arith) (λ e. omega arith)) (h, (k, tt))

    pub good-Tuple : (ts : List Term) → Every AllGood ts → AllGood (Tuple ts)
    good-Tuple ts h = of-children (Tuple ts) ts (ap layer_children (Views.outs-Tuple ts)) (plain (Tuple ts) (λ e. omega arith) (λ e. omega arith) (λ e. omega arith)) h

    pub good-AnyTuple : AllGood AnyTuple
    good-AnyTuple = of-children AnyTuple [] (ap layer_children Views.outs-AnyTuple) (plain AnyTuple (λ e. omega arith) (λ e. omega arith) (λ e. omega arith)) tt

    pub good-Fun : (ts : List Term) (t : Term) → Every AllGood ts → AllGood t → AllGood (Fun ts t)
    good-Fun ts t h k = of-children (Fun ts t) (ts ++ t ∷ []) (ap layer_children (Views.outs-Fun ts t)) (plain (Fun ts t) (λ e. omega arith) (λ e. omega arith) (λ e. omega arith)) (every-append AllGood ts (t ∷ []) h (k, tt))

    pub good-AnyFun : (arity : Option ℕ) → AllGood (AnyFun arity)
    good-AnyFun arity = of-children (AnyFun arity) [] (ap layer_children (Views.outs-AnyFun arity)) (plain (AnyFun arity) (λ e. omega arith) (λ e. omega arith) (λ e. omega arith)) tt

    pub good-Or : (ts : List Term) → Every AllGood ts → AllGood (Or ts)
    good-Or ts h = of-children (Or ts) ts (ap layer_children (Views.outs-Or ts)) (plain (Or ts) (λ e. omega arith) (λ e. omega arith) (λ e. omega arith)) h

    pub good-And : (ts : List Term) → Every AllGood ts → AllGood (And ts)
    good-And ts h = of-children (And ts) ts (ap layer_children (Views.outs-And ts)) (plain (And ts) (λ e. omega arith) (λ e. omega arith) (λ e. omega arith)) h

    pub good-Not : (t : Term) → AllGood t → AllGood (Not t)
    good-Not t h = of-children (Not t) (t ∷ []) (ap layer_children (Views.outs-Not t)) (plain (Not t) (λ e. omega arith) (λ e. omega arith) (λ e. omega arith)) (h, tt)

    -- ---- tuples of records

    given-good : (given : List (Name × Term)) (field : Name) (own : Term) → Every AllGood (map (λ g. g.1) given) → AllGood own → AllGood (given_or given field own)
    given-good [] field own h k = k
    given-good (g ∷ given) field own h k = go (same_name g.0 field) (given-good given field own h.1 k)
      where
        go : (b : Bool) → AllGood (given_or given field own) → AllGood (cond b g.1 (given_or given field own))
        go true l = h.0
        go false l = l

    with-good : (given fields : List (Name × Term)) → Every AllGood (map (λ g. g.1) given) → Every AllGood (map (λ g. g.1) fields) → Every AllGood (map (λ (f : Name × Term). f.1) (map (λ (f : Name × Term). (f.0, given_or given f.0 f.1)) fields))
    with-good given [] h k = tt
    with-good given (f ∷ fields) h k = (given-good given f.0 f.1 h k.0, with-good given fields h k.1)

    pub good-tuple : (r : RecordTuple) → Every AllGood (map (λ f. f.1) r.fields) → AllGood (tuple_term r)
    good-tuple r h = good-Tuple (AtomLit r.tag ∷ map (λ f. f.1) r.fields) (good-AtomLit r.tag, h)

    pub good-with : (given : List (Name × Term)) (r : RecordTuple) → Every AllGood (map (λ g. g.1) given) → Every AllGood (map (λ f. f.1) r.fields) → AllGood (tuple_term (with_fields given r))
    good-with given r h k = good-tuple (with_fields given r) (with-good given r.fields h k)

    -- ---- ranges and set operations

    pub good-range : (low high : Node LiteralKind) (w : Term) → range_term low high ≡ Some w → AllGood w
    good-range low high w e =
        let a = both (range_end low.kind) _ w e in
        let b = both (range_end high.kind) _ w a.2 in
        go (le_int a.0 b.0) a.0 b.0 b.2
      where
        go : (b : Bool) (l h : ℤ) → (if b then Some (Ints (Some l) (Some h)) else Nothing) ≡ Some w → AllGood w
        go true l h q = subst AllGood (some-inj _ w q) (good-Ints (Some l) (Some h))
        go false l h q = absurd (cc)

    good-if : (b : Bool) (t w : Term) → cond b (Some t) Nothing ≡ Some w → AllGood t → AllGood w
    good-if true t w e h = subst AllGood (some-inj t w e) h
    good-if false t w e h = absurd (cc)

    good-set : (name : Name) (own : List Term) (w : Term) → set_operation name own ≡ Some w → Every AllGood own → AllGood w
    good-set name [] w e h = absurd (cc)
    good-set name (t ∷ []) w e h = good-if (same_name name (codes "negation")) (Not t) w e (good-Not t h.0)
    good-set name (t ∷ u ∷ []) w e h = good-if (same_name name (codes "intersection")) (And (t ∷ u ∷ [])) w e (good-And (t ∷ u ∷ []) h)
    good-set name (t ∷ u ∷ v ∷ own) w e h = absurd (cc)

    pub good-prefixed : (prefix name : Name) (own : List Term) (w : Term) → prefixed_term prefix name own ≡ Some w → Every AllGood own → AllGood w
    good-prefixed prefix name own w e h = go (same_name prefix (codes "ety")) e
      where
        go : (b : Bool) → cond b (set_operation name own) Nothing ≡ Some w → AllGood w
        go true q = good-set name own w q h
        go false q = absurd (cc)

    -- ---- built-in types

    module _ (list-good : (t : Term) → Good (NameTerm 0 (t ∷ []))) (any-map-good : Good (Map [] (Some Any) (Some Any))) where
      pub good-list : (t : Term) → AllGood t → AllGood (list_of t)
      good-list t h = of-children (list_of t) (t ∷ []) (ap layer_children (Views.outs-Name 0 (t ∷ []))) (list-good t) (h, tt)

      pub good-nonempty : (t : Term) → AllGood t → AllGood (nonempty_list_of t)
      good-nonempty t h = good-Cons t (list_of t) h (good-list t h)

      good-any-map : AllGood (Map [] (Some Any) (Some Any))
      good-any-map = of-children (Map [] (Some Any) (Some Any)) (Any ∷ Any ∷ []) (ap layer_children (Views.outs-Map [] (Some Any) (Some Any))) any-map-good (good-Any, (good-Any, tt))

      among-good : (named : List (Name × Term)) (name : Name) (w : Term) → Every AllGood (map (λ n. n.1) named) → term_among named name ≡ Some w → AllGood w
      among-good [] name w h e = absurd (cc)
      among-good (n ∷ named) name w h e = go (same_name n.0 name) e (among-good named name w h.1)
        where
          go : (b : Bool) → cond b (Some n.1) (term_among named name) ≡ Some w → (term_among named name ≡ Some w → AllGood w) → AllGood w
          go true q l = subst AllGood (some-inj n.1 w q) h.0
          go false q l = l q

      plain-good : Every AllGood (map (λ n. n.1) plain_types)
      plain-good = (good-Any, (good-Any, (good-None, (good-None, (good-Ints _ _, (good-Ints _ _, (good-Ints _ _, (good-Ints _ _, (good-Ints _ _, (good-Ints _ _, (good-Ints _ _, (good-AnyAtom, (good-AnyAtom, (good-Or _ (good-AtomLit _, (good-AtomLit _, tt)), (good-Or _ (good-AtomLit _, (good-Ints _ _, tt)), (good-Nil, (good-list _ good-Any, (good-nonempty _ good-Any, (good-list _ (good-Ints _ _), (good-nonempty _ (good-Ints _ _), (good-AnyTuple, (good-Tuple _ (good-AnyAtom, (good-AnyAtom, (good-Ints _ _, tt))), (good-any-map, (good-AnyFun _, tt))))))))))))))))))))))))

      pub good-built_in : (name : Name) (own : List Term) (w : Term) → built_in_term name own ≡ Some w → Every AllGood own → AllGood w
      good-built_in name [] w e h = among-good plain_types name w plain-good e
      good-built_in name (t ∷ []) w e h = go (same_name name (codes "list")) (same_name name (codes "nonempty_list")) e
        where
          go : (b c : Bool) → cond b (Some (list_of t)) (cond c (Some (nonempty_list_of t)) Nothing) ≡ Some w → AllGood w
          go true c q = subst AllGood (some-inj (list_of t) w q) (good-list t h.0)
          go false true q = subst AllGood (some-inj (nonempty_list_of t) w q) (good-nonempty t h.0)
          go false false q = absurd (cc)
      good-built_in name (t ∷ u ∷ own) w e h = absurd (cc)

  -- ---- map types

  inserted-good : (field : Field) (fields : List Field) → AllGood field.term → Every AllGood (field_terms fields) → Every AllGood (field_terms (inserted field fields))
  inserted-good field [] h k = (h, tt)
  inserted-good field (next ∷ fields) h k = go (key_lt field.key next.key) (inserted-good field fields h k.1)
    where
      go : (b : Bool) → Every AllGood (field_terms (inserted field fields)) → Every AllGood (field_terms (cond b (field ∷ next ∷ fields) (next ∷ inserted field fields)))
      go true l = (h, k)
      go false l = (k.0, l)

  field-good : (key : MapKey) (required : Bool) (value : Term) (fields : List Field) → AllGood value → Every AllGood (field_terms fields) → Every AllGood (field_terms (with_field key required value fields))
  field-good (this_key k) required value fields h g = inserted-good (record { key = k; required = required; term = value }) fields h g
  field-good integer_keys required value fields h g = g
  field-good atom_keys required value fields h g = g
  field-good no_key required value fields h g = g

  fields-good : (es : List MapEntry) → Every AllGood (map (λ e. e.value) es) → Every AllGood (field_terms (fields_among es))
  fields-good [] h = tt
  fields-good (e ∷ es) h = field-good e.key e.required e.value (fields_among es) h.0 (fields-good es h.1)

  integers-good : (key : MapKey) (value : Term) (other : Option Term) → AllGood value → Every AllGood (rest_terms other) → Every AllGood (rest_terms (rest_for_integers key value other))
  integers-good (this_key k) value other h g = g
  integers-good integer_keys value other h g = (h, tt)
  integers-good atom_keys value other h g = g
  integers-good no_key value other h g = g

  integer_rest-good : (es : List MapEntry) → Every AllGood (map (λ e. e.value) es) → Every AllGood (rest_terms (integer_rest es))
  integer_rest-good [] h = tt
  integer_rest-good (e ∷ es) h = integers-good e.key e.value (integer_rest es) h.0 (integer_rest-good es h.1)

  atoms-good : (key : MapKey) (value : Term) (other : Option Term) → AllGood value → Every AllGood (rest_terms other) → Every AllGood (rest_terms (rest_for_atoms key value other))
  atoms-good (this_key k) value other h g = g
  atoms-good integer_keys value other h g = g
  atoms-good atom_keys value other h g = (h, tt)
  atoms-good no_key value other h g = g

  atom_rest-good : (es : List MapEntry) → Every AllGood (map (λ e. e.value) es) → Every AllGood (rest_terms (atom_rest es))
  atom_rest-good [] h = tt
  atom_rest-good (e ∷ es) h = atoms-good e.key e.value (atom_rest es) h.0 (atom_rest-good es h.1)

  pub good-map : (es : List MapEntry) → Good (map_term es) → Every AllGood (map (λ e. e.value) es) → AllGood (map_term es)
  good-map es g h = of-children (map_term es) (field_terms (fields_among es) ++ (rest_terms (integer_rest es) ++ rest_terms (atom_rest es))) (ap layer_children (Views.outs-Map (fields_among es) (integer_rest es) (atom_rest es))) g
      (every-append AllGood (field_terms (fields_among es)) _ (fields-good es h) (every-append AllGood (rest_terms (integer_rest es)) _ (integer_rest-good es h) (atom_rest-good es h)))
