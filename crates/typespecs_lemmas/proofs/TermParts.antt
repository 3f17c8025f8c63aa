-- What holds of every part of the term of a type expression, from what holds of variables, tuples of records, names and map terms, by the type expressions that stand inside it.
use Rattle.std.proofs.Common.{◌≡◌, refl, ap, sym, subst, ◌∙◌, ℕ, suc, List, [], ◌∷◌, ◌++◌, map, length, inl, inr}
use Rattle.std.specs.Prelude.{Option, Some, None as Nothing, Bool, true, false, cond}
use Rattle.std.specs.Option.{option_map}
use Rattle.type_terms.specs.Keys.{Name}
use Rattle.type_terms.specs.Parts.{IsPart, layer_children}
use Rattle.type_terms.specs.declared.term.Term.{Term, Any, AtomLit, Nil, Tuple, Map, Fun, AnyFun, Or, Name as NameTerm}
use Rattle.type_terms.specs.declared.term.Term.TheViews as Views
use Rattle.type_terms.proofs.PartLaws.{kind_number}
use Rattle.erl_tree.specs.Lists.{Every, Among}
use Rattle.erl_tree.specs.declared.token.Place.{Place}
use Rattle.erl_tree.specs.declared.token.Node.{Node}
use Rattle.erl_tree.specs.declared.expr.ExprKind.TheShapes as S
use Rattle.erl_tree.specs.declared.type_expr.TypeKind.{TypeKind, roll-TypeKind, map-TypeKind, ind-TypeKind, out-TypeKind, out-roll-TypeKind}
use Rattle.erl_tree.specs.declared.type_expr.MapPart.{MapPart, roll-MapPart, map-MapPart}
use Rattle.erl_tree.specs.declared.type_expr.TypeKind.TheOpen as O
use Rattle.erl_grammar.specs.Grammar.{node}
use Rattle.erl_runs.specs.Names.{is_wildcard}
use Rattle.erl_runs.specs.Specs.{and_then, all_present}
use Rattle.typespecs_rules.specs.TypeParts.{Inside, from_each, inside_layer, inside_map_part_kind, types_within}
use Rattle.typespecs_rules.specs.BuiltInTypes.{list_of, nonempty_list_of, built_in_term, is_built_in_name}
use Rattle.typespecs_rules.specs.Declarations.{Declarations, type_number, record_number}
use Rattle.typespecs_rules.specs.TypeTerms.{MapKey, this_key, integer_keys, atom_keys, no_key, map_key, MapEntry, entry_of, RecordTuple, map_term, tuple_term, with_fields, named_term, declared_term, used_term, prefixed_term, term_layer, map_part_entry}
use Rattle.typespecs_rules.proofs.TypeRuleLaws.{of_kind, of_node, of_part, of_field, with_term, with_entry, with_all, part_with_all, term-rolls, entry-rolls, terms-are, entries-are, fields-are, inside-rolls, inside_part-rolls, inside-each, inside-parts, inside-fields}
use Rattle.typespecs_lemmas.proofs.AlikeTypes.{among-left, among-right}
use Rattle.typespecs_lemmas.proofs.FirstFault.{some-inj}
use Rattle.typespecs_lemmas.proofs.GivenReach.{mapped, both}
use Rattle.typespecs_lemmas.proofs.GoodParts.{AllGood, good-Any, good-Ints, good-AtomLit, good-Nil, good-Tuple, good-Fun, good-AnyFun, good-Or, good-with, good-range, good-prefixed, good-list, good-nonempty, good-built_in, good-map, of-children}

-- all of some options that are there: the first and the others
pub present-parts : {A : Type 0} (o : Option A) (os : List (Option A)) (xs : List A) → all_present (o ∷ os) ≡ Some xs → (a : A) × (more : List A) × (o ≡ Some a) × (all_present os ≡ Some more) × (a ∷ more ≡ xs)
present-parts o os xs e =
    let a = both o _ xs e in
    let b = both (all_present os) _ xs a.2 in
    (a.0, b.0, a.1, b.1, some-inj (a.0 ∷ b.0) xs b.2)

pub present-length : {A : Type 0} (os : List (Option A)) (xs : List A) → all_present os ≡ Some xs → length xs ≡ length os
present-length [] xs e = ap length (sym (some-inj [] xs e))
present-length (o ∷ os) xs e =
    let p = present-parts o os xs e in
    ap length (sym p.4) ∙ ap suc (present-length os p.1 p.3)

pub map-length : {A B : Type 0} (f : A → B) (xs : List A) → length (map f xs) ≡ length xs
map-length f [] = refl
map-length f (x ∷ xs) = ap suc (map-length f xs)

entry-value : (key : MapKey) (required : Bool) (value : Term) (e : MapEntry) → entry_of key required value ≡ Some e → value ≡ e.value
entry-value (this_key k) required value e q = ap (λ (x : MapEntry). x.value) (some-inj _ e q)
entry-value integer_keys required value e q = ap (λ (x : MapEntry). x.value) (some-inj _ e q)
entry-value atom_keys required value e q = ap (λ (x : MapEntry). x.value) (some-inj _ e q)
entry-value no_key required value e q = absurd (cc)

-- what is asked of the parts of terms, where some type expressions stand here
pub record Grounds (declared : Declarations) (tuples : Name → Option RecordTuple) (variables : Name → Option Term) (Here : Node TypeKind → Type 0) (Good : Term → Type 0) : Type 0 where
  pub plain : (p : Term) → (kind_number p ≡ 16 → ⊥) → (kind_number p ≡ 15 → ⊥) → (kind_number p ≡ 9 → ⊥) → Good p
  pub any_map : Good (Map [] (Some Any) (Some Any))
  pub lists : (t : Term) → Good (NameTerm 0 (t ∷ []))
  pub variable : (x : Name) (w : Term) → variables x ≡ Some w → (p : Term) → IsPart p w → Good p
  pub used : (t : Node TypeKind) (name : Name) (args : List (Node TypeKind)) (n : ℕ) (own : List Term) → Here t → out-TypeKind t.kind ≡ O.Use Nothing name args → type_number declared name (length args) ≡ Some n → all_present (map (of_node declared tuples variables) args) ≡ Some own → Good (NameTerm n own)
  pub of_record : (t : Node TypeKind) (name tag : Name) (n : ℕ) → Here t → out-TypeKind t.kind ≡ O.Rec name tag [] → record_number declared name ≡ Some n → Good (NameTerm n [])
  pub tuple : (t : Node TypeKind) (name tag : Name) (f : Node (Name × Node TypeKind)) (fs : List (Node (Name × Node TypeKind))) (r : RecordTuple) → Here t → out-TypeKind t.kind ≡ O.Rec name tag (f ∷ fs) → tuples name ≡ Some r → Every (AllGood Good) (map (λ g. g.1) r.fields)
  pub of_map : (t : Node TypeKind) (parts : List (Node MapPart)) (es : List MapEntry) → Here t → out-TypeKind t.kind ≡ O.Map parts → all_present (map (of_part declared tuples variables) parts) ≡ Some es → Good (map_term es)

module _ (declared : Declarations) (tuples : Name → Option RecordTuple) (variables : Name → Option Term) (Here : Node TypeKind → Type 0) (Good : Term → Type 0) (g : Grounds declared tuples variables Here Good) where
  abbrev AllHere : List (Node TypeKind) → Type 0
  AllHere ts = (t : Node TypeKind) → Among t ts → Here t

  abbrev the_term : Node TypeKind → Option Term
  the_term t = of_node declared tuples variables t

  abbrev Right : TypeKind → Type 0
  Right k = (p : Place) (ms : List Place) (w : Term) → AllHere (types_within (node p ms k)) → of_kind declared tuples variables k ≡ Some w → AllGood Good w

  abbrev RightPart : MapPart → Type 0
  RightPart q = (e : MapEntry) → AllHere (inside_map_part_kind q) → map_part_entry declared tuples variables q ≡ Some e → AllGood Good e.value

  abbrev Kinds : Type 0
  Kinds = (k : TypeKind) × Right k

  abbrev Parts : Type 0
  Parts = (q : MapPart) × RightPart q

  abbrev plain_layer : O.TypeKind-F Kinds Parts → O.TypeKind-F TypeKind MapPart
  plain_layer y = map-TypeKind Kinds Parts TypeKind MapPart (λ k. k.0) (λ q. q.0) y

  abbrev plain_part : O.MapPart-F Kinds Parts → O.MapPart-F TypeKind MapPart
  plain_part y = map-MapPart Kinds Parts TypeKind MapPart (λ k. k.0) (λ q. q.0) y

  abbrev plain_list : List (Node Kinds) → List (Node TypeKind)
  plain_list ts = S.former-ExprKind-Tuple-0.map Kinds TypeKind (λ k. k.0) ts

  abbrev plain_parts : List (Node Parts) → List (Node MapPart)
  plain_parts ps = S.former-ExprKind-Tuple-0.map Parts MapPart (λ q. q.0) ps

  abbrev plain_fields : List (Node (Name × Node Kinds)) → List (Node (Name × Node TypeKind))
  plain_fields fs = S.former-ExprKind-RecNew-2.map Kinds TypeKind (λ k. k.0) fs

  abbrev plain_node : Node Kinds → Node TypeKind
  plain_node t = node t.place t.marks t.kind.0

  here-left : (xs ys : List (Node TypeKind)) → AllHere (xs ++ ys) → AllHere xs
  here-left xs ys h t a = h t (among-left t xs ys a)

  here-right : (xs ys : List (Node TypeKind)) → AllHere (xs ++ ys) → AllHere ys
  here-right xs ys h t a = h t (among-right t xs ys a)

  node-good : (t : Node Kinds) (w : Term) → AllHere (types_within (plain_node t)) → the_term (plain_node t) ≡ Some w → AllGood Good w
  node-good t w h e = t.kind.1 t.place t.marks w h e

  list-all : (ts : List (Node Kinds)) (own : List Term) → AllHere (from_each types_within (plain_list ts)) → all_present (map the_term (plain_list ts)) ≡ Some own → Every (AllGood Good) own
  list-all [] own h e = subst (λ o. Every (AllGood Good) o) (some-inj [] own e) tt
  list-all (t ∷ ts) own h e =
      let p = present-parts (the_term (plain_node t)) (map the_term (plain_list ts)) own e in
      subst (λ o. Every (AllGood Good) o) p.4 (
        node-good t p.0 (here-left (types_within (plain_node t)) (from_each types_within (plain_list ts)) h) p.2,
        list-all ts p.1 (here-right (types_within (plain_node t)) (from_each types_within (plain_list ts)) h) p.3,
      )

  field-is : (name : Name) (o : Option Term) (g : Name × Term) → named_term name o ≡ Some g → o ≡ Some g.1
  field-is name o g e = let p = mapped (λ own. (name, own)) o g e in p.1 ∙ ap Some (ap (λ (x : Name × Term). x.1) p.2)

  abbrev within_fields : List (Node (Name × Node TypeKind)) → List (Node TypeKind)
  within_fields fs = from_each (λ (field : Node (Name × Node TypeKind)). types_within field.kind.1) fs

  fields-all : (fs : List (Node (Name × Node Kinds))) (given : List (Name × Term)) → AllHere (within_fields (plain_fields fs)) → all_present (map (of_field declared tuples variables) (plain_fields fs)) ≡ Some given → Every (AllGood Good) (map (λ g. g.1) given)
  fields-all [] given h e = subst (λ (o : List (Name × Term)). Every (AllGood Good) (map (λ g. g.1) o)) (some-inj [] given e) tt
  fields-all (f ∷ fs) given h e =
      let p = present-parts (named_term f.kind.0 (the_term (plain_node f.kind.1))) (map (of_field declared tuples variables) (plain_fields fs)) given e in
      subst (λ (o : List (Name × Term)). Every (AllGood Good) (map (λ g. g.1) o)) p.4 (
        node-good f.kind.1 p.0.1 (here-left (types_within (plain_node f.kind.1)) (within_fields (plain_fields fs)) h) (field-is f.kind.0 (the_term (plain_node f.kind.1)) p.0 p.2),
        fields-all fs p.1 (here-right (types_within (plain_node f.kind.1)) (within_fields (plain_fields fs)) h) p.3,
      )

  abbrev within_parts : List (Node MapPart) → List (Node TypeKind)
  within_parts ps = from_each (λ (part : Node MapPart). inside_map_part_kind part.kind) ps

  parts-all : (ps : List (Node Parts)) (es : List MapEntry) → AllHere (within_parts (plain_parts ps)) → all_present (map (of_part declared tuples variables) (plain_parts ps)) ≡ Some es → Every (AllGood Good) (map (λ e. e.value) es)
  parts-all [] es h e = subst (λ (o : List MapEntry). Every (AllGood Good) (map (λ e. e.value) o)) (some-inj [] es e) tt
  parts-all (q ∷ ps) es h e =
      let p = present-parts (map_part_entry declared tuples variables q.kind.0) (map (of_part declared tuples variables) (plain_parts ps)) es e in
      subst (λ (o : List MapEntry). Every (AllGood Good) (map (λ e. e.value) o)) p.4 (
        q.kind.1 p.0 (here-left (inside_map_part_kind q.kind.0) (within_parts (plain_parts ps)) h) p.2,
        parts-all ps p.1 (here-right (inside_map_part_kind q.kind.0) (within_parts (plain_parts ps)) h) p.3,
      )

  -- ---- uses

  declared-good : (t : Node TypeKind) (name : Name) (args : List (Node TypeKind)) (own : List Term) (w : Term) → Here t → out-TypeKind t.kind ≡ O.Use Nothing name args → all_present (map the_term args) ≡ Some own → Every (AllGood Good) own → declared_term declared name own ≡ Some w → AllGood Good w
  declared-good t name args own w h out there all e =
      let p = mapped (λ n. NameTerm n own) (type_number declared name (length own)) w e in
      let count : length own ≡ length args = present-length (map the_term args) own there ∙ map-length the_term args in
      subst (AllGood Good) p.2 (of-children Good (NameTerm p.0 own) own (ap layer_children (Views.outs-Name p.0 own)) (g.used t name args p.0 own h out (ap (type_number declared name) (sym count) ∙ p.1) there) all)

  used-good : (t : Node TypeKind) (name : Name) (args : List (Node TypeKind)) (own : List Term) (w : Term) → Here t → out-TypeKind t.kind ≡ O.Use Nothing name args → all_present (map the_term args) ≡ Some own → Every (AllGood Good) own → used_term declared name own ≡ Some w → AllGood Good w
  used-good t name args own w h out there all e = go (is_built_in_name name) e
    where
      go : (b : Bool) → cond b (built_in_term name own) (declared_term declared name own) ≡ Some w → AllGood Good w
      go true q = good-built_in Good g.plain g.lists g.any_map name own w q all
      go false q = declared-good t name args own w h out there all q

  variable-good : (b : Bool) (x : Name) (w : Term) → cond b (Some Any) (variables x) ≡ Some w → AllGood Good w
  variable-good true x w e = subst (AllGood Good) (some-inj Any w e) (good-Any Good g.plain)
  variable-good false x w e = g.variable x w e

  -- ---- levels

  abbrev term_of_layer : O.TypeKind-F TypeKind MapPart → Option Term
  term_of_layer y = term_layer declared tuples variables (map-TypeKind TypeKind MapPart (TypeKind × Option Term) (MapPart × Option MapEntry) (with_term declared tuples variables) (with_entry declared tuples variables) y)

  abbrev inside_of_layer : O.TypeKind-F TypeKind MapPart → List (Node TypeKind)
  inside_of_layer y = inside_layer (map-TypeKind TypeKind MapPart (TypeKind × Inside) (MapPart × Inside) with_all part_with_all y)

  is-one : (v w : Term) → AllGood Good v → Some v ≡ Some w → AllGood Good w
  is-one v w a e = subst (AllGood Good) (some-inj v w e) a

  layer-good : (y : O.TypeKind-F Kinds Parts) (t : Node TypeKind) (w : Term) → Here t → out-TypeKind t.kind ≡ plain_layer y → AllHere (inside_of_layer (plain_layer y)) → term_of_layer (plain_layer y) ≡ Some w → AllGood Good w
  layer-good (O.Atom a) t w h out all e = is-one (AtomLit a) w (good-AtomLit Good g.plain a) e
  layer-good (O.Int n) t w h out all e = is-one _ w (good-Ints Good g.plain _ _) e
  layer-good (O.NegInt n) t w h out all e = is-one _ w (good-Ints Good g.plain _ _) e
  layer-good (O.Char c) t w h out all e = is-one _ w (good-Ints Good g.plain _ _) e
  layer-good (O.Var x) t w h out all e = variable-good (is_wildcard x) x w e
  layer-good (O.Paren s) t w h out all e = node-good s w all e
  layer-good (O.Or s u) t w h out all e =
      let a = both (the_term (plain_node s)) _ w e in
      let b = both (the_term (plain_node u)) _ w a.2 in
      is-one (Or (a.0 ∷ b.0 ∷ [])) w (good-Or Good g.plain (a.0 ∷ b.0 ∷ []) (
        node-good s a.0 (here-left (types_within (plain_node s)) (types_within (plain_node u)) all) a.1,
        (node-good u b.0 (here-right (types_within (plain_node s)) (types_within (plain_node u)) all) b.1, tt),
      )) b.2
  layer-good (O.Named x s) t w h out all e = node-good s w all e
  layer-good (O.Range low high) t w h out all e = good-range Good g.plain low high w e
  layer-good (O.Use Nothing name args) t w h out all e =
      let a = both (all_present (map the_term (plain_list args))) (λ own. used_term declared name own) w (ap (λ o. and_then o (λ own. used_term declared name own)) (sym (terms-are declared tuples variables (plain_list args))) ∙ e) in
      used-good t name (plain_list args) a.0 w h out a.1 (list-all args a.0 (subst AllHere (inside-each (plain_list args)) all) a.1) a.2
  layer-good (O.Use (Some prefix) name args) t w h out all e =
      let a = both (all_present (map the_term (plain_list args))) (λ own. prefixed_term prefix name own) w (ap (λ o. and_then o (λ own. prefixed_term prefix name own)) (sym (terms-are declared tuples variables (plain_list args))) ∙ e) in
      good-prefixed Good g.plain prefix name a.0 w a.2 (list-all args a.0 (subst AllHere (inside-each (plain_list args)) all) a.1)
  layer-good O.Nil t w h out all e = is-one Nil w (good-Nil Good g.plain) e
  layer-good (O.ListOf s) t w h out all e =
      let a = mapped list_of (the_term (plain_node s)) w e in
      subst (AllGood Good) a.2 (good-list Good g.plain g.lists g.any_map a.0 (node-good s a.0 all a.1))
  layer-good (O.NonEmpty s) t w h out all e =
      let a = mapped nonempty_list_of (the_term (plain_node s)) w e in
      subst (AllGood Good) a.2 (good-nonempty Good g.plain g.lists g.any_map a.0 (node-good s a.0 all a.1))
  layer-good (O.Tuple ts) t w h out all e =
      let a = mapped (λ own. Tuple own) (all_present (map the_term (plain_list ts))) w (ap (λ o. option_map (λ own. Tuple own) o) (sym (terms-are declared tuples variables (plain_list ts))) ∙ e) in
      subst (AllGood Good) a.2 (good-Tuple Good g.plain a.0 (list-all ts a.0 (subst AllHere (inside-each (plain_list ts)) all) a.1))
  layer-good (O.Map parts) t w h out all e =
      let a = mapped map_term (all_present (map (of_part declared tuples variables) (plain_parts parts))) w (ap (λ o. option_map map_term o) (sym (entries-are declared tuples variables (plain_parts parts))) ∙ e) in
      subst (AllGood Good) a.2 (good-map Good a.0 (g.of_map t (plain_parts parts) a.0 h out a.1) (parts-all parts a.0 (subst AllHere (inside-parts (plain_parts parts)) all) a.1))
  layer-good O.FunAll t w h out all e = is-one (AnyFun Nothing) w (good-AnyFun Good g.plain Nothing) e
  layer-good (O.Fun params result) t w h out all e =
      let a = both (all_present (map the_term (plain_list params))) (λ own. option_map (λ r. Fun own r) (the_term (plain_node result))) w (ap (λ o. and_then o (λ own. option_map (λ r. Fun own r) (the_term (plain_node result)))) (sym (terms-are declared tuples variables (plain_list params))) ∙ e) in
      let b = mapped (λ r. Fun a.0 r) (the_term (plain_node result)) w a.2 in
      let inside : AllHere (from_each types_within (plain_list params) ++ types_within (plain_node result)) = subst (λ i. AllHere (i ++ types_within (plain_node result))) (inside-each (plain_list params)) all in
      subst (AllGood Good) b.2 (good-Fun Good g.plain a.0 b.0 (list-all params a.0 (here-left (from_each types_within (plain_list params)) (types_within (plain_node result)) inside) a.1) (node-good result b.0 (here-right (from_each types_within (plain_list params)) (types_within (plain_node result)) inside) b.1))
  layer-good (O.Rec name tag []) t w h out all e =
      let a = mapped (λ n. NameTerm n []) (record_number declared name) w e in
      subst (AllGood Good) a.2 (of-children Good (NameTerm a.0 []) [] (ap layer_children (Views.outs-Name a.0 [])) (g.of_record t name tag a.0 h out a.1) tt)
  layer-good (O.Rec name tag (f ∷ fs)) t w h out all e =
      let a = both (all_present (map (of_field declared tuples variables) (plain_fields (f ∷ fs)))) (λ given. option_map (λ r. tuple_term (with_fields given r)) (tuples name)) w (ap (λ o. and_then o (λ given. option_map (λ r. tuple_term (with_fields given r)) (tuples name))) (sym (fields-are declared tuples variables (plain_fields (f ∷ fs)))) ∙ e) in
      let b = mapped (λ r. tuple_term (with_fields a.0 r)) (tuples name) w a.2 in
      subst (AllGood Good) b.2 (good-with Good g.plain a.0 b.0 (fields-all (f ∷ fs) a.0 (subst AllHere (inside-fields (plain_fields (f ∷ fs))) all) a.1) (g.tuple t name tag _ (plain_fields fs) b.0 h out b.1))

  part-good : (y : O.MapPart-F Kinds Parts) → RightPart (roll-MapPart (plain_part y))
  part-good y e all q =
      let inside : AllHere (types_within (plain_node y.key) ++ types_within (plain_node y.value)) = subst AllHere (inside_part-rolls (plain_part y)) all in
      let a = both (the_term (plain_node y.value)) (λ value. entry_of (map_key y.required y.key.kind.0) y.required value) e (sym (entry-rolls declared tuples variables (plain_part y)) ∙ q) in
      subst (AllGood Good) (entry-value (map_key y.required y.key.kind.0) y.required a.0 e a.2) (node-good y.value a.0 (here-right (types_within (plain_node y.key)) (types_within (plain_node y.value)) inside) a.1)

  kind-good : (y : O.TypeKind-F Kinds Parts) → Right (roll-TypeKind (plain_layer y))
  kind-good y p ms w all e =
      layer-good y (node p ms (roll-TypeKind (plain_layer y))) w (all _ (inl refl)) (out-roll-TypeKind (plain_layer y)) (subst AllHere (inside-rolls (plain_layer y)) (λ t a. all t (inr a))) (sym (term-rolls declared tuples variables (plain_layer y)) ∙ e)

  kind-all : (k : TypeKind) → Right k
  kind-all = ind-TypeKind Right RightPart
      (λ x y e. subst (λ z. Right (roll-TypeKind z)) e (kind-good y))
      (λ x y e. subst (λ z. RightPart (roll-MapPart z)) e (part-good y))

  -- each part of the term of a type expression is good
  pub term-good : (t : Node TypeKind) (w : Term) → AllHere (types_within t) → the_term t ≡ Some w → AllGood Good w
  term-good t w all e = kind-all t.kind t.place t.marks w all e
