-- What stands in the term of a variable stands in the term of each type expression that has the variable, where nothing is wrong with it.
use Rattle.std.proofs.Common.{◌≡◌, refl, ap, sym, subst, ◌∙◌, ⊎_elim, ◌⊎◌, ℕ, List, [], ◌∷◌, ◌++◌, map}
use Rattle.std.specs.Prelude.{Option, Some, None as Nothing, Bool, true, false, not, cond, is_some}
use Rattle.std.specs.Option.{option_map}
use Rattle.std.specs.List.{list_any}
use Rattle.type_terms.specs.Keys.{Name, same_name}
use Rattle.type_terms.specs.declared.term.Term.{Term, Any, Tuple, Fun, Or}
use Rattle.type_terms.proofs.KeyLaws.{name-refl}
use Rattle.erl_tree.specs.declared.token.Place.{Place}
use Rattle.erl_tree.specs.declared.token.Node.{Node}
use Rattle.erl_tree.specs.declared.expr.ExprKind.TheShapes as S
use Rattle.erl_tree.specs.declared.type_expr.TypeKind.{TypeKind, out-TypeKind, roll-TypeKind, roll-out-TypeKind, map-TypeKind, ind-TypeKind, out-roll-TypeKind}
use Rattle.erl_tree.specs.declared.type_expr.MapPart.{MapPart, roll-MapPart, roll-out-MapPart, map-MapPart, out-MapPart, out-roll-MapPart}
use Rattle.erl_tree.specs.declared.type_expr.TypeKind.TheOpen as O
use Rattle.erl_tree.specs.declared.form.RecDefKind.{RecDefKind}
use Rattle.erl_tree.specs.Lists.{Among}
use Rattle.erl_grammar.specs.Grammar.{node}
use Rattle.erl_runs.specs.Names.{is_wildcard}
use Rattle.erl_runs.specs.Records.{find_record, fields_of, has_field}
use Rattle.erl_runs.specs.Specs.{and_then, all_present}
use Rattle.typespecs_rules.specs.TypeParts.{Inside, from_each, with_inside, inside_layer, inside_kind, inside_map_part_kind, types_within}
use Rattle.typespecs_rules.specs.BuiltInTypes.{list_of, nonempty_list_of}
use Rattle.typespecs_rules.specs.Declarations.{Declarations}
use Rattle.typespecs_rules.specs.TypeTerms.{MapKey, this_key, integer_keys, atom_keys, no_key, map_key, required_key, key_layer, entry_of, MapEntry, map_term, RecordTuple, tuple_term, given_or, with_fields, named_term, terms, term_layer, map_part_entry}
use Rattle.typespecs_rules.specs.TypeVariables.{variable_layer, own_variable, variables_of}
use Rattle.typespecs_rules.specs.SpecTerms.{some_true, holds_variable}
use Rattle.typespecs_rules.specs.declared.fault.PlacedFault.{PlacedFault}
use Rattle.typespecs_rules.specs.declared.fault.TypeFault.TheVariants.{NoSuchType, Repeated}
use Rattle.typespecs_rules.specs.TypeFaults.{unless, is_key, same_map_key, part_key, key_faults, keys_faults, may_have, stands_among, fields_faults, fault_layer, any_variable, own_faults, type_faults}
use Rattle.typespecs_rules.proofs.TypeRuleLaws.{of_kind, of_node, of_part, of_field, with_term, with_entry, with_all, part_with_all, term-rolls, entry-rolls, terms-are, entries-are, fields-are, inside-rolls, inside_part-rolls, inside-each, inside-parts, inside-fields}
use Rattle.typespecs_rules.proofs.VariableLaws.{holds-Cons, holds-Tuple, holds-Fun, holds-Or, holds-Name}
use Rattle.typespecs_rules.proofs.RightTypes.{nil-parts, from_each-append, unless-true}
use Rattle.typespecs_lemmas.proofs.TextFaults.{among-cases}
use Rattle.typespecs_lemmas.proofs.HeldVariables.{then-is, map-is, same-some, or-first, or-later, neither, not-true, other-way, HeldAmong, first-entry, later-entry, map-holds, used-holds, prefixed-holds, tuple-holds}

-- ---- keys

no-such-key : (required : Bool) → is_key (cond required no_key no_key) ≡ true → ⊥
no-such-key true e = absurd (cc)
no-such-key false e = absurd (cc)

-- no variable stands in a key
key-layer-plain : (required : Bool) (o : O.TypeKind-F TypeKind MapPart) → is_key (cond required (required_key (key_layer o)) (key_layer o)) ≡ true → variable_layer o ++ from_each own_variable (inside_layer (map-TypeKind TypeKind MapPart (TypeKind × Inside) (MapPart × Inside) with_all part_with_all o)) ≡ []
key-layer-plain required (O.Atom a) e = refl
key-layer-plain required (O.Int n) e = refl
key-layer-plain required (O.NegInt n) e = refl
key-layer-plain required (O.Char c) e = refl
key-layer-plain required (O.Use Nothing name []) e = refl
key-layer-plain required _ e = absurd (no-such-key required e)

key-plain : (required : Bool) (key : Node TypeKind) → is_key (map_key required key.kind) ≡ true → variables_of key ≡ []
key-plain required key e = ap (λ inside. variable_layer (out-TypeKind key.kind) ++ from_each own_variable inside) (ap inside_kind (sym (roll-out-TypeKind key.kind)) ∙ inside-rolls (out-TypeKind key.kind)) ∙ key-layer-plain required (out-TypeKind key.kind) e

-- ---- entries

entry-parts : (key : MapKey) (required : Bool) (value : Term) (e : MapEntry) → entry_of key required value ≡ Some e → (e.key ≡ key) × (e.value ≡ value)
entry-parts (this_key k) required value e q = let s = same-some _ e q in (ap (λ (d : MapEntry). d.key) (sym s), ap (λ (d : MapEntry). d.value) (sym s))
entry-parts integer_keys required value e q = let s = same-some _ e q in (ap (λ (d : MapEntry). d.key) (sym s), ap (λ (d : MapEntry). d.value) (sym s))
entry-parts atom_keys required value e q = let s = same-some _ e q in (ap (λ (d : MapEntry). d.key) (sym s), ap (λ (d : MapEntry). d.value) (sym s))
entry-parts no_key required value e q = absurd (cc)

-- ---- type expressions

-- the tuples of records have the declared fields
abbrev pub HaveFields : Declarations → (Name → Option RecordTuple) → Type 0
HaveFields declared tuples = (name : Name) (d : RecDefKind) (r : RecordTuple) → find_record declared.records name ≡ Some d → tuples name ≡ Some r → (a : Name) → has_field (fields_of d) a ≡ true → list_any (λ (g : Name × Term). same_name g.0 a) r.fields ≡ true

module _ (declared : Declarations) (tuples : Name → Option RecordTuple) (variables : Name → Option Term) (have : HaveFields declared tuples) (x : Name) (n : ℕ) (b : Term)
    (stands : variables x ≡ Some b) (held : holds_variable n b ≡ true) where
  abbrev own : Node TypeKind → List PlacedFault
  own t = own_faults declared any_variable t

  abbrev the_term : Node TypeKind → Option Term
  the_term t = of_node declared tuples variables t

  abbrev Holds : TypeKind → Type 0
  Holds k = (p : Place) (ms : List Place) → type_faults declared any_variable (node p ms k) ≡ [] → Among x (variables_of (node p ms k)) → (a : Term) → of_kind declared tuples variables k ≡ Some a → holds_variable n a ≡ true

  abbrev HoldsPart : MapPart → Type 0
  HoldsPart q = from_each own (inside_map_part_kind q) ≡ [] → is_key (map_key (out-MapPart q).required (out-MapPart q).key.kind) ≡ true → Among x (from_each own_variable (inside_map_part_kind q)) → (e : MapEntry) → map_part_entry declared tuples variables q ≡ Some e → holds_variable n e.value ≡ true

  abbrev Kinds : Type 0
  Kinds = (k : TypeKind) × Holds k

  abbrev Parts : Type 0
  Parts = (q : MapPart) × HoldsPart q

  abbrev plain : O.TypeKind-F Kinds Parts → O.TypeKind-F TypeKind MapPart
  plain y = map-TypeKind Kinds Parts TypeKind MapPart (λ k. k.0) (λ q. q.0) y

  abbrev plain_part : O.MapPart-F Kinds Parts → O.MapPart-F TypeKind MapPart
  plain_part y = map-MapPart Kinds Parts TypeKind MapPart (λ k. k.0) (λ q. q.0) y

  abbrev plain_list : List (Node Kinds) → List (Node TypeKind)
  plain_list ts = S.former-ExprKind-Tuple-0.map Kinds TypeKind (λ k. k.0) ts

  abbrev plain_parts : List (Node Parts) → List (Node MapPart)
  plain_parts ps = S.former-ExprKind-Tuple-0.map Parts MapPart (λ q. q.0) ps

  abbrev plain_fields : List (Node (Name × Node Kinds)) → List (Node (Name × Node TypeKind))
  plain_fields fs = S.former-ExprKind-RecNew-2.map Kinds TypeKind (λ k. k.0) fs

  abbrev plain_node : Node Kinds → Node TypeKind
  plain_node t = node t.place t.marks t.kind.0

  faults-both : (us vs : List (Node TypeKind)) → from_each own (us ++ vs) ≡ [] → (from_each own us ≡ []) × (from_each own vs ≡ [])
  faults-both us vs e = nil-parts (from_each own us) (from_each own vs) (sym (from_each-append own us vs) ∙ e)

  among-both : (us vs : List (Node TypeKind)) → Among x (from_each own_variable (us ++ vs)) → Among x (from_each own_variable us) ⊎ Among x (from_each own_variable vs)
  among-both us vs i = among-cases x (from_each own_variable us) (from_each own_variable vs) (subst (λ (l : List Name). Among x l) (from_each-append own_variable us vs) i)

  node-holds : (t : Node Kinds) → type_faults declared any_variable (plain_node t) ≡ [] → Among x (variables_of (plain_node t)) → (a : Term) → the_term (plain_node t) ≡ Some a → holds_variable n a ≡ true
  node-holds t e i a q = t.kind.1 t.place t.marks e i a q

  list-holds : (ts : List (Node Kinds)) → from_each own (from_each types_within (plain_list ts)) ≡ [] → Among x (from_each own_variable (from_each types_within (plain_list ts))) → (as' : List Term) → all_present (map the_term (plain_list ts)) ≡ Some as' → some_true (map (holds_variable n) as') ≡ true
  list-holds [] e i as' q = absurd i
  list-holds (t ∷ ts) e i as' q =
      let h = faults-both (types_within (plain_node t)) (from_each types_within (plain_list ts)) e in
      let first = then-is (the_term (plain_node t)) _ as' q in
      let rest = then-is (all_present (map the_term (plain_list ts))) _ as' first.2 in
      subst (λ (l : List Term). some_true (map (holds_variable n) l) ≡ true) (same-some (first.0 ∷ rest.0) as' rest.2)
      (⊎_elim (λ l. or-first (holds_variable n first.0) _ (node-holds t h.0 l first.0 first.1))
      (λ r. or-later (holds_variable n first.0) _ (list-holds ts h.1 r rest.0 rest.1))
      (among-both (types_within (plain_node t)) (from_each types_within (plain_list ts)) i))

  -- the terms of arguments
  arguments-hold : (ts : List (Node Kinds)) → from_each own (from_each with_inside (S.former-ExprKind-Tuple-0.map TypeKind (TypeKind × Inside) with_all (plain_list ts))) ≡ [] → Among x (from_each own_variable (from_each with_inside (S.former-ExprKind-Tuple-0.map TypeKind (TypeKind × Inside) with_all (plain_list ts)))) →
      (as' : List Term) → terms (S.former-ExprKind-Tuple-0.map TypeKind (TypeKind × Option Term) (with_term declared tuples variables) (plain_list ts)) ≡ Some as' → some_true (map (holds_variable n) as') ≡ true
  arguments-hold ts e i as' q = list-holds ts (subst (λ l. from_each own l ≡ []) (inside-each (plain_list ts)) e) (subst (λ l. Among x (from_each own_variable l)) (inside-each (plain_list ts)) i) as' (sym (terms-are declared tuples variables (plain_list ts)) ∙ q)

  abbrev InFields : List (Node (Name × Node TypeKind)) → List (Node TypeKind)
  InFields fs = from_each (λ (field : Node (Name × Node TypeKind)). types_within field.kind.1) fs

  own-term : (given : List (Name × Term)) (name : Name) (t : Term) (g : Name × Term) (other : Term) → (name, t) ≡ g → holds_variable n t ≡ true → holds_variable n (given_or (g ∷ given) name other) ≡ true
  own-term given name t g other e h = subst (λ (f : Name × Term). holds_variable n (given_or (f ∷ given) name other) ≡ true) e (taken (same_name name name) (name-refl name))
    where
      taken : (same : Bool) → same ≡ true → holds_variable n (cond same t (given_or given name other)) ≡ true
      taken true s = h
      taken false s = absurd (cc)

  other-term : (given : List (Name × Term)) (name a : Name) (t : Term) (g : Name × Term) (other : Term) → (name, t) ≡ g → same_name a name ≡ false → holds_variable n (given_or given a other) ≡ true → holds_variable n (given_or (g ∷ given) a other) ≡ true
  other-term given name a t g other e d h = subst (λ (f : Name × Term). holds_variable n (given_or (f ∷ given) a other) ≡ true) e (passed (same_name name a) (other-way a name d))
    where
      passed : (same : Bool) → same ≡ false → holds_variable n (cond same t (given_or given a other)) ≡ true
      passed true s = absurd (cc)
      passed false s = h

  -- a field whose given term holds the variable, and no other field with its name comes before it
  fields-hold : (found : Option RecDefKind) (before : List Name) (fs : List (Node (Name × Node Kinds))) → fields_faults found before (plain_fields fs) ≡ [] → from_each own (InFields (plain_fields fs)) ≡ [] → Among x (from_each own_variable (InFields (plain_fields fs))) →
      (given : List (Name × Term)) → all_present (map (of_field declared tuples variables) (plain_fields fs)) ≡ Some given → (a : Name) × (stands_among a before ≡ false) × (may_have found a ≡ true) × ((other : Term) → holds_variable n (given_or given a other) ≡ true)
  fields-hold found before [] k e i given q = absurd i
  fields-hold found before (f ∷ fs) k e i given q =
      let may = nil-parts (unless (may_have found f.kind.0) NoSuchType f.place) _ k in
      let new = nil-parts (unless (not (stands_among f.kind.0 before)) Repeated f.place) (fields_faults found (f.kind.0 ∷ before) (plain_fields fs)) may.1 in
      let h = faults-both (types_within (plain_node f.kind.1)) (InFields (plain_fields fs)) e in
      let first = then-is (named_term f.kind.0 (the_term (plain_node f.kind.1))) _ given q in
      let t = map-is (λ own'. (f.kind.0, own')) (the_term (plain_node f.kind.1)) first.0 first.1 in
      let rest = then-is (all_present (map (of_field declared tuples variables) (plain_fields fs))) _ given first.2 in
      let same = same-some (first.0 ∷ rest.0) given rest.2 in
      ⊎_elim
      (λ l. (f.kind.0, not-true _ (unless-true _ _ _ new.0), unless-true _ _ _ may.0, λ other. subst (λ (gs : List (Name × Term)). holds_variable n (given_or gs f.kind.0 other) ≡ true) same (own-term rest.0 f.kind.0 t.0 first.0 other t.2 (node-holds f.kind.1 h.0 l t.0 t.1))))
      (λ r. let later = fields-hold found (f.kind.0 ∷ before) fs new.1 h.1 r rest.0 rest.1 in
      let apart = neither (same_name later.0 f.kind.0) (stands_among later.0 before) later.1 in
      (later.0, apart.1, later.2, λ other. subst (λ (gs : List (Name × Term)). holds_variable n (given_or gs later.0 other) ≡ true) same (other-term rest.0 f.kind.0 later.0 t.0 first.0 other t.2 apart.0 (later.3 other))))
      (among-both (types_within (plain_node f.kind.1)) (InFields (plain_fields fs)) i)

  entry-key : (q : MapPart) (e : MapEntry) → map_part_entry declared tuples variables q ≡ Some e → e.key ≡ map_key (out-MapPart q).required (out-MapPart q).key.kind
  entry-key q e s =
      let layer = sym (ap (λ r. map_part_entry declared tuples variables r) (sym (roll-out-MapPart q)) ∙ entry-rolls declared tuples variables (out-MapPart q)) ∙ s in
      let p = then-is (the_term (out-MapPart q).value) _ e layer in
      (entry-parts (map_key (out-MapPart q).required (out-MapPart q).key.kind) (out-MapPart q).required p.0 e p.2).0

  abbrev InParts : List (Node MapPart) → List (Node TypeKind)
  InParts ps = from_each (λ (part : Node MapPart). inside_map_part_kind part.kind) ps

  parts-hold : (before : List MapKey) (ps : List (Node Parts)) → keys_faults before (plain_parts ps) ≡ [] → from_each own (InParts (plain_parts ps)) ≡ [] → Among x (from_each own_variable (InParts (plain_parts ps))) →
      (es : List MapEntry) → all_present (map (of_part declared tuples variables) (plain_parts ps)) ≡ Some es → HeldAmong n before es
  parts-hold before [] k e i es q = absurd i
  parts-hold before (p ∷ ps) k e i es q =
      let key = part_key (node p.place p.marks p.kind.0) in
      let keys = nil-parts (key_faults before key (out-MapPart p.kind.0).key.place) (keys_faults (key ∷ before) (plain_parts ps)) k in
      let new = nil-parts _ _ keys.0 in
      let is = unless-true _ _ _ new.0 in
      let h = faults-both (inside_map_part_kind p.kind.0) (InParts (plain_parts ps)) e in
      let first = then-is (map_part_entry declared tuples variables p.kind.0) _ es q in
      let rest = then-is (all_present (map (of_part declared tuples variables) (plain_parts ps))) _ es first.2 in
      let own_key = entry-key p.kind.0 first.0 first.1 in
      subst (λ (l : List MapEntry). HeldAmong n before l) (same-some (first.0 ∷ rest.0) es rest.2)
      (⊎_elim
      (λ l. first-entry n before first.0 rest.0 (subst (λ (j : MapKey). list_any (same_map_key j) before ≡ false) (sym own_key) (not-true _ (unless-true _ _ _ new.1))) (subst (λ (j : MapKey). is_key j ≡ true) (sym own_key) is) (p.kind.1 h.0 is l first.0 first.1))
      (λ r. later-entry n before first.0 rest.0 (subst (λ (j : MapKey). HeldAmong n (j ∷ before) rest.0) (sym own_key) (parts-hold (key ∷ before) ps keys.1 h.1 r rest.0 rest.1)))
      (among-both (inside_map_part_kind p.kind.0) (InParts (plain_parts ps)) i))

  variable-holds : (y : Name) (wild : Bool) → Among x (cond wild [] (y ∷ []) ++ []) → (a : Term) → cond wild (Some Any) (variables y) ≡ Some a → holds_variable n a ≡ true
  variable-holds y true i a q = absurd i
  variable-holds y false i a q = ⊎_elim (λ s. subst (λ z. holds_variable n z ≡ true) (same-some b a (sym stands ∙ (ap variables s ∙ q))) held) (λ r. absurd r) i

  layer-holds : (y : O.TypeKind-F Kinds Parts) (p : Place) → fault_layer declared any_variable (plain y) p ++ from_each own (inside_layer (map-TypeKind TypeKind MapPart (TypeKind × Inside) (MapPart × Inside) with_all part_with_all (plain y))) ≡ [] →
      Among x (variable_layer (plain y) ++ from_each own_variable (inside_layer (map-TypeKind TypeKind MapPart (TypeKind × Inside) (MapPart × Inside) with_all part_with_all (plain y)))) →
      (a : Term) → term_layer declared tuples variables (map-TypeKind TypeKind MapPart (TypeKind × Option Term) (MapPart × Option MapEntry) (with_term declared tuples variables) (with_entry declared tuples variables) (plain y)) ≡ Some a → holds_variable n a ≡ true
  layer-holds (O.Atom c) p e i a q = absurd i
  layer-holds (O.Int c) p e i a q = absurd i
  layer-holds (O.NegInt c) p e i a q = absurd i
  layer-holds (O.Char c) p e i a q = absurd i
  layer-holds (O.Var y) p e i a q = variable-holds y (is_wildcard y) i a q
  layer-holds (O.Paren t) p e i a q = node-holds t e i a q
  layer-holds (O.Or t u) p e i a q =
      let h = faults-both (types_within (plain_node t)) (types_within (plain_node u)) e in
      let left = then-is (the_term (plain_node t)) _ a q in
      let right = then-is (the_term (plain_node u)) _ a left.2 in
      subst (λ z. holds_variable n z ≡ true) (same-some (Or (left.0 ∷ right.0 ∷ [])) a right.2) (holds-Or n (left.0 ∷ right.0 ∷ []) ∙
      ⊎_elim (λ l. or-first (holds_variable n left.0) _ (node-holds t h.0 l left.0 left.1)) (λ r. or-later (holds_variable n left.0) _ (or-first (holds_variable n right.0) false (node-holds u h.1 r right.0 right.1))) (among-both (types_within (plain_node t)) (types_within (plain_node u)) i))
  layer-holds (O.Named y t) p e i a q = node-holds t e i a q
  layer-holds (O.Range low high) p e i a q = absurd i
  layer-holds (O.Use Nothing name args) p e i a q =
      let h = nil-parts _ (from_each own (from_each with_inside (S.former-ExprKind-Tuple-0.map TypeKind (TypeKind × Inside) with_all (plain_list args)))) e in
      let s = then-is (terms (S.former-ExprKind-Tuple-0.map TypeKind (TypeKind × Option Term) (with_term declared tuples variables) (plain_list args))) _ a q in
      used-holds n declared name s.0 a s.2 (arguments-hold args h.1 i s.0 s.1)
  layer-holds (O.Use (Some prefix) name args) p e i a q =
      let h = nil-parts _ (from_each own (from_each with_inside (S.former-ExprKind-Tuple-0.map TypeKind (TypeKind × Inside) with_all (plain_list args)))) e in
      let s = then-is (terms (S.former-ExprKind-Tuple-0.map TypeKind (TypeKind × Option Term) (with_term declared tuples variables) (plain_list args))) _ a q in
      prefixed-holds n prefix name s.0 a s.2 (arguments-hold args h.1 i s.0 s.1)
  layer-holds O.Nil p e i a q = absurd i
  layer-holds (O.ListOf t) p e i a q =
      let s = map-is list_of (the_term (plain_node t)) a q in
      subst (λ z. holds_variable n z ≡ true) s.2 (holds-Name n 0 (s.0 ∷ []) ∙ or-first (holds_variable n s.0) false (node-holds t e i s.0 s.1))
  layer-holds (O.NonEmpty t) p e i a q =
      let s = map-is nonempty_list_of (the_term (plain_node t)) a q in
      subst (λ z. holds_variable n z ≡ true) s.2 (holds-Cons n s.0 (list_of s.0) ∙ or-first (holds_variable n s.0) _ (node-holds t e i s.0 s.1))
  layer-holds (O.Tuple ts) p e i a q =
      let s = map-is (λ own'. Tuple own') (terms (S.former-ExprKind-Tuple-0.map TypeKind (TypeKind × Option Term) (with_term declared tuples variables) (plain_list ts))) a q in
      subst (λ z. holds_variable n z ≡ true) s.2 (holds-Tuple n s.0 ∙ arguments-hold ts e i s.0 s.1)
  layer-holds (O.Map parts) p e i a q =
      let h = nil-parts (keys_faults [] (plain_parts parts)) _ e in
      let s = map-is map_term _ a (sym (ap (λ o. option_map map_term o) (entries-are declared tuples variables (plain_parts parts))) ∙ q) in
      subst (λ z. holds_variable n z ≡ true) s.2 (map-holds n s.0 (parts-hold [] parts h.0 (subst (λ l. from_each own l ≡ []) (inside-parts (plain_parts parts)) h.1) (subst (λ l. Among x (from_each own_variable l)) (inside-parts (plain_parts parts)) i) s.0 s.1))
  layer-holds O.FunAll p e i a q = absurd i
  layer-holds (O.Fun params result) p e i a q =
      let inside = from_each with_inside (S.former-ExprKind-Tuple-0.map TypeKind (TypeKind × Inside) with_all (plain_list params)) in
      let h = faults-both inside (types_within (plain_node result)) e in
      let s = then-is (terms (S.former-ExprKind-Tuple-0.map TypeKind (TypeKind × Option Term) (with_term declared tuples variables) (plain_list params))) _ a q in
      let r = map-is (λ r. Fun s.0 r) (the_term (plain_node result)) a s.2 in
      subst (λ z. holds_variable n z ≡ true) r.2 (holds-Fun n s.0 r.0 ∙
      ⊎_elim (λ l. or-first (some_true (map (holds_variable n) s.0)) _ (arguments-hold params h.0 l s.0 s.1)) (λ l. or-later (some_true (map (holds_variable n) s.0)) _ (node-holds result h.1 l r.0 r.1)) (among-both inside (types_within (plain_node result)) i))
  layer-holds (O.Rec name tag []) p e i a q = absurd i
  layer-holds (O.Rec name tag (f ∷ fs)) p e i a q =
      let h = nil-parts (unless (is_some (find_record declared.records name)) NoSuchType p ++ fields_faults (find_record declared.records name) [] (plain_fields (f ∷ fs))) _ e in
      let k = nil-parts (unless (is_some (find_record declared.records name)) NoSuchType p) (fields_faults (find_record declared.records name) [] (plain_fields (f ∷ fs))) h.0 in
      let s = then-is _ _ a (sym (ap (λ o. and_then o (λ given. option_map (λ r. tuple_term (with_fields given r)) (tuples name))) (fields-are declared tuples variables (plain_fields (f ∷ fs)))) ∙ q) in
      let r = map-is (λ r. tuple_term (with_fields s.0 r)) (tuples name) a s.2 in
      let c = fields-hold (find_record declared.records name) [] (f ∷ fs) k.1 (subst (λ l. from_each own l ≡ []) (inside-fields (plain_fields (f ∷ fs))) h.1) (subst (λ l. Among x (from_each own_variable l)) (inside-fields (plain_fields (f ∷ fs))) i) s.0 s.1 in
      subst (λ z. holds_variable n z ≡ true) r.2 (tuple-holds n s.0 r.0 c.0 (has (find_record declared.records name) refl (unless-true _ _ _ k.0) r.0 r.1 c.0 c.2) c.3)
    where
      has : (o : Option RecDefKind) → find_record declared.records name ≡ o → is_some o ≡ true → (r : RecordTuple) → tuples name ≡ Some r → (d : Name) → may_have o d ≡ true → list_any (λ (g : Name × Term). same_name g.0 d) r.fields ≡ true
      has Nothing z u r t d m = absurd (cc)
      has (Some rec) z u r t d m = have name rec r z t d m

  part-holds : (y : O.MapPart-F Kinds Parts) → HoldsPart (roll-MapPart (plain_part y))
  part-holds y e k i d q =
      let f = sym (ap (from_each own) (inside_part-rolls (plain_part y))) ∙ e in
      let h = faults-both (types_within (plain_node y.key)) (types_within (plain_node y.value)) f in
      let key = subst (λ (o : O.MapPart-F TypeKind MapPart). is_key (map_key o.required o.key.kind) ≡ true) (out-roll-MapPart (plain_part y)) k in
      let s = then-is (the_term (plain_node y.value)) _ d (sym (entry-rolls declared tuples variables (plain_part y)) ∙ q) in
      let value = (entry-parts (map_key y.required y.key.kind.0) y.required s.0 d s.2).1 in
      let stood = subst (λ l. Among x (from_each own_variable l)) (inside_part-rolls (plain_part y)) i in
      subst (λ z. holds_variable n z ≡ true) (sym value)
      (⊎_elim (λ l. absurd (subst (λ (l' : List Name). Among x l') (key-plain y.required (plain_node y.key) key) l)) (λ r. node-holds y.value h.1 r s.0 s.1) (among-both (types_within (plain_node y.key)) (types_within (plain_node y.value)) stood))

  kind-holds : (y : O.TypeKind-F Kinds Parts) → Holds (roll-TypeKind (plain y))
  kind-holds y p ms e i a q =
      let f = sym (λ j. fault_layer declared any_variable (out-roll-TypeKind (plain y) j) p ++ from_each own (inside-rolls (plain y) j)) ∙ e in
      let stood = subst (λ (l : List Name). Among x l) (λ j. variable_layer (out-roll-TypeKind (plain y) j) ++ from_each own_variable (inside-rolls (plain y) j)) i in
      layer-holds y p f stood a (sym (term-rolls declared tuples variables (plain y)) ∙ q)

  -- what the term of the variable holds, that of a type expression with it holds too
  pub all-hold : (k : TypeKind) → Holds k
  all-hold = ind-TypeKind Holds HoldsPart
      (λ x' y e. subst (λ z. Holds (roll-TypeKind z)) e (kind-holds y))
      (λ x' y e. subst (λ z. HoldsPart (roll-MapPart z)) e (part-holds y))
