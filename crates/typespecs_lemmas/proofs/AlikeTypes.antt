-- What the term of a type expression depends on: the variables in it, and the tuples of the records that stand in it with fields.
use Rattle.std.proofs.Common.{◌≡◌, refl, sym, subst, ◌∙◌, ⊎_elim, inl, inr, List, [], ◌∷◌, ◌++◌, map}
use Rattle.std.specs.Prelude.{Option, Some, None as Nothing, Bool, true, false, cond}
use Rattle.std.specs.Option.{option_map}
use Rattle.type_terms.specs.Keys.{Name}
use Rattle.type_terms.specs.declared.term.Term.{Term, Any, Tuple, Fun, Or}
use Rattle.erl_tree.specs.declared.token.Place.{Place}
use Rattle.erl_tree.specs.declared.token.Node.{Node}
use Rattle.erl_tree.specs.declared.expr.ExprKind.TheShapes as S
use Rattle.erl_tree.specs.declared.type_expr.TypeKind.{TypeKind, out-TypeKind, roll-TypeKind, map-TypeKind, ind-TypeKind, out-roll-TypeKind}
use Rattle.erl_tree.specs.declared.type_expr.MapPart.{MapPart, roll-MapPart, map-MapPart}
use Rattle.erl_tree.specs.declared.type_expr.TypeKind.TheOpen as O
use Rattle.erl_tree.specs.Lists.{Among}
use Rattle.erl_grammar.specs.Grammar.{node}
use Rattle.erl_runs.specs.Names.{is_wildcard}
use Rattle.erl_runs.specs.Specs.{and_then, all_present}
use Rattle.typespecs_rules.specs.TypeParts.{Inside, from_each, with_inside, inside_layer, inside_map_part_kind, types_within}
use Rattle.typespecs_rules.specs.BuiltInTypes.{list_of, nonempty_list_of}
use Rattle.typespecs_rules.specs.Declarations.{Declarations}
use Rattle.typespecs_rules.specs.TypeTerms.{map_key, entry_of, map_term, MapEntry, RecordTuple, tuple_term, with_fields, named_term, prefixed_term, used_term, terms, term_layer, map_part_entry}
use Rattle.typespecs_rules.proofs.TypeRuleLaws.{of_kind, of_node, of_part, of_field, with_term, with_entry, with_all, part_with_all, term-rolls, entry-rolls, terms-are, entries-are, fields-are, inside-rolls, inside_part-rolls, inside-each, inside-parts, inside-fields}

-- ---- elements of lists

pub among-left : {A : Type 0} (x : A) (xs ys : List A) → Among x xs → Among x (xs ++ ys)
among-left x [] ys a = absurd a
among-left x (y ∷ xs) ys a = ⊎_elim (λ e. inl e) (λ r. inr (among-left x xs ys r)) a

pub among-right : {A : Type 0} (x : A) (xs ys : List A) → Among x ys → Among x (xs ++ ys)
among-right x [] ys a = a
among-right x (y ∷ xs) ys a = inr (among-right x xs ys a)

pub among-each : {A B : Type 0} (f : A → List B) (x : A) (y : B) (xs : List A) → Among x xs → Among y (f x) → Among y (from_each f xs)
among-each f x y [] a b = absurd a
among-each f x y (z ∷ xs) a b = ⊎_elim (λ e. among-left y (f z) (from_each f xs) (subst (λ w. Among y (f w)) e b)) (λ r. among-right y (f z) (from_each f xs) (among-each f x y xs r b)) a

-- ---- what agrees

-- one level of a type expression, where records stand for these tuples or for those, and variables for these terms or for those
abbrev pub AgreesAt : {A B : Type 0} → (tuples other_tuples : Name → Option RecordTuple) → (variables other_variables : Name → Option Term) → O.TypeKind-F A B → Type 0
AgreesAt tuples other_tuples variables other_variables (O.Var x) = is_wildcard x ≡ false → variables x ≡ other_variables x
AgreesAt tuples other_tuples variables other_variables (O.Rec name tag (f ∷ fs)) = tuples name ≡ other_tuples name
AgreesAt tuples other_tuples variables other_variables _ = Unit {0}

wild-or : (wild : Bool) (a b : Option Term) → (wild ≡ false → a ≡ b) → cond wild (Some Any) a ≡ cond wild (Some Any) b
wild-or true a b h = refl
wild-or false a b h = h refl

module _ (declared : Declarations) (tuples other_tuples : Name → Option RecordTuple) (variables other_variables : Name → Option Term) where
  abbrev Agrees : Node TypeKind → Type 0
  Agrees u = AgreesAt tuples other_tuples variables other_variables (out-TypeKind u.kind)

  abbrev AllAgree : List (Node TypeKind) → Type 0
  AllAgree us = (u : Node TypeKind) → Among u us → Agrees u

  abbrev the_term : Node TypeKind → Option Term
  the_term t = of_node declared tuples variables t

  abbrev other_term : Node TypeKind → Option Term
  other_term t = of_node declared other_tuples other_variables t

  abbrev Alike : TypeKind → Type 0
  Alike k = (p : Place) (ms : List Place) → AllAgree (types_within (node p ms k)) → of_kind declared tuples variables k ≡ of_kind declared other_tuples other_variables k

  abbrev AlikePart : MapPart → Type 0
  AlikePart q = AllAgree (inside_map_part_kind q) → map_part_entry declared tuples variables q ≡ map_part_entry declared other_tuples other_variables q

  abbrev Kinds : Type 0
  Kinds = (k : TypeKind) × Alike k

  abbrev Parts : Type 0
  Parts = (q : MapPart) × AlikePart q

  abbrev plain : O.TypeKind-F Kinds Parts → O.TypeKind-F TypeKind MapPart
  plain y = map-TypeKind Kinds Parts TypeKind MapPart (λ k. k.0) (λ q. q.0) y

  abbrev plain_part : O.MapPart-F Kinds Parts → O.MapPart-F TypeKind MapPart
  plain_part y = map-MapPart Kinds Parts TypeKind MapPart (λ k. k.0) (λ q. q.0) y

  abbrev plain_list : List (Node Kinds) → List (Node TypeKind)
  plain_list ts = S.former-ExprKind-Tuple-0.map Kinds TypeKind (λ k. k.0) ts

  abbrev plain_parts : List (Node Parts) → List (Node MapPart)
  plain_parts ps = S.former-ExprKind-Tuple-0.map Parts MapPart (λ q. q.0) ps

  abbrev plain_fields : List (Node (Name × Node Kinds)) → List (Node (Name × Node TypeKind))
  plain_fields fs = S.former-ExprKind-RecNew-2.map Kinds TypeKind (λ k. k.0) fs

  abbrev plain_node : Node Kinds → Node TypeKind
  plain_node t = node t.place t.marks t.kind.0

  left-agree : (us vs : List (Node TypeKind)) → AllAgree (us ++ vs) → AllAgree us
  left-agree us vs h u a = h u (among-left u us vs a)

  right-agree : (us vs : List (Node TypeKind)) → AllAgree (us ++ vs) → AllAgree vs
  right-agree us vs h u a = h u (among-right u us vs a)

  node-alike : (t : Node Kinds) → AllAgree (types_within (plain_node t)) → the_term (plain_node t) ≡ other_term (plain_node t)
  node-alike t h = t.kind.1 t.place t.marks h

  list-alike : (ts : List (Node Kinds)) → AllAgree (from_each types_within (plain_list ts)) → all_present (map the_term (plain_list ts)) ≡ all_present (map other_term (plain_list ts))
  list-alike [] h = refl
  list-alike (t ∷ ts) h =
      let first = node-alike t (left-agree (types_within (plain_node t)) (from_each types_within (plain_list ts)) h) in
      let rest = list-alike ts (right-agree (types_within (plain_node t)) (from_each types_within (plain_list ts)) h) in
      λ j. and_then (first j) (λ a. and_then (rest j) (λ more. Some (a ∷ more)))

  fields-alike : (fs : List (Node (Name × Node Kinds))) → AllAgree (from_each (λ (field : Node (Name × Node TypeKind)). types_within field.kind.1) (plain_fields fs)) → all_present (map (of_field declared tuples variables) (plain_fields fs)) ≡ all_present (map (of_field declared other_tuples other_variables) (plain_fields fs))
  fields-alike [] h = refl
  fields-alike (f ∷ fs) h =
      let first = node-alike f.kind.1 (left-agree (types_within (plain_node f.kind.1)) (from_each (λ (field : Node (Name × Node TypeKind)). types_within field.kind.1) (plain_fields fs)) h) in
      let rest = fields-alike fs (right-agree (types_within (plain_node f.kind.1)) (from_each (λ (field : Node (Name × Node TypeKind)). types_within field.kind.1) (plain_fields fs)) h) in
      λ j. and_then (named_term f.kind.0 (first j)) (λ a. and_then (rest j) (λ more. Some (a ∷ more)))

  parts-alike : (ps : List (Node Parts)) → AllAgree (from_each (λ (part : Node MapPart). inside_map_part_kind part.kind) (plain_parts ps)) → all_present (map (of_part declared tuples variables) (plain_parts ps)) ≡ all_present (map (of_part declared other_tuples other_variables) (plain_parts ps))
  parts-alike [] h = refl
  parts-alike (q ∷ ps) h =
      let first = q.kind.1 (left-agree (inside_map_part_kind q.kind.0) (from_each (λ (part : Node MapPart). inside_map_part_kind part.kind) (plain_parts ps)) h) in
      let rest = parts-alike ps (right-agree (inside_map_part_kind q.kind.0) (from_each (λ (part : Node MapPart). inside_map_part_kind part.kind) (plain_parts ps)) h) in
      λ j. and_then (first j) (λ a. and_then (rest j) (λ more. Some (a ∷ more)))

  -- the terms of arguments
  terms-alike : (ts : List (Node Kinds)) → AllAgree (from_each with_inside (S.former-ExprKind-Tuple-0.map TypeKind (TypeKind × Inside) with_all (plain_list ts))) → terms (S.former-ExprKind-Tuple-0.map TypeKind (TypeKind × Option Term) (with_term declared tuples variables) (plain_list ts)) ≡ terms (S.former-ExprKind-Tuple-0.map TypeKind (TypeKind × Option Term) (with_term declared other_tuples other_variables) (plain_list ts))
  terms-alike ts h = terms-are declared tuples variables (plain_list ts) ∙ (list-alike ts (subst AllAgree (inside-each (plain_list ts)) h) ∙ sym (terms-are declared other_tuples other_variables (plain_list ts)))

  layer-alike : (y : O.TypeKind-F Kinds Parts) → AgreesAt tuples other_tuples variables other_variables (plain y) → AllAgree (inside_layer (map-TypeKind TypeKind MapPart (TypeKind × Inside) (MapPart × Inside) with_all part_with_all (plain y))) →
      term_layer declared tuples variables (map-TypeKind TypeKind MapPart (TypeKind × Option Term) (MapPart × Option MapEntry) (with_term declared tuples variables) (with_entry declared tuples variables) (plain y))
      ≡ term_layer declared other_tuples other_variables (map-TypeKind TypeKind MapPart (TypeKind × Option Term) (MapPart × Option MapEntry) (with_term declared other_tuples other_variables) (with_entry declared other_tuples other_variables) (plain y))
  layer-alike (O.Atom a) g h = refl
  layer-alike (O.Int n) g h = refl
  layer-alike (O.NegInt n) g h = refl
  layer-alike (O.Char c) g h = refl
  layer-alike (O.Var x) g h = wild-or (is_wildcard x) (variables x) (other_variables x) g
  layer-alike (O.Paren t) g h = node-alike t h
  layer-alike (O.Or t u) g h =
      let left = node-alike t (left-agree (types_within (plain_node t)) (types_within (plain_node u)) h) in
      let right = node-alike u (right-agree (types_within (plain_node t)) (types_within (plain_node u)) h) in
      λ j. and_then (left j) (λ a. and_then (right j) (λ b. Some (Or (a ∷ b ∷ []))))
  layer-alike (O.Named x t) g h = node-alike t h
  layer-alike (O.Range low high) g h = refl
  layer-alike (O.Use Nothing name args) g h = let e = terms-alike args h in λ j. and_then (e j) (λ own. used_term declared name own)
  layer-alike (O.Use (Some prefix) name args) g h = let e = terms-alike args h in λ j. and_then (e j) (λ own. prefixed_term prefix name own)
  layer-alike O.Nil g h = refl
  layer-alike (O.ListOf t) g h = let e = node-alike t h in λ j. option_map list_of (e j)
  layer-alike (O.NonEmpty t) g h = let e = node-alike t h in λ j. option_map nonempty_list_of (e j)
  layer-alike (O.Tuple ts) g h = let e = terms-alike ts h in λ j. option_map (λ own. Tuple own) (e j)
  layer-alike (O.Map parts) g h =
      let e = entries-are declared tuples variables (plain_parts parts) ∙ (parts-alike parts (subst AllAgree (inside-parts (plain_parts parts)) h) ∙ sym (entries-are declared other_tuples other_variables (plain_parts parts))) in
      λ j. option_map map_term (e j)
  layer-alike O.FunAll g h = refl
  layer-alike (O.Fun params result) g h =
      let own = from_each with_inside (S.former-ExprKind-Tuple-0.map TypeKind (TypeKind × Inside) with_all (plain_list params)) in
      let e = terms-alike params (left-agree own (types_within (plain_node result)) h) in
      let f = node-alike result (right-agree own (types_within (plain_node result)) h) in
      λ j. and_then (e j) (λ own'. option_map (λ r. Fun own' r) (f j))
  layer-alike (O.Rec name tag []) g h = refl
  layer-alike (O.Rec name tag (f ∷ fs)) g h =
      let e = fields-are declared tuples variables (plain_fields (f ∷ fs)) ∙ (fields-alike (f ∷ fs) (subst AllAgree (inside-fields (plain_fields (f ∷ fs))) h) ∙ sym (fields-are declared other_tuples other_variables (plain_fields (f ∷ fs)))) in
      λ j. and_then (e j) (λ given. option_map (λ r. tuple_term (with_fields given r)) (g j))

  part-alike : (y : O.MapPart-F Kinds Parts) → AlikePart (roll-MapPart (plain_part y))
  part-alike y h =
      let inside = subst AllAgree (inside_part-rolls (plain_part y)) h in
      let e = node-alike y.value (right-agree (types_within (plain_node y.key)) (types_within (plain_node y.value)) inside) in
      entry-rolls declared tuples variables (plain_part y) ∙ ((λ j. and_then (e j) (λ value. entry_of (map_key y.required y.key.kind.0) y.required value)) ∙ sym (entry-rolls declared other_tuples other_variables (plain_part y)))

  kind-alike : (y : O.TypeKind-F Kinds Parts) → Alike (roll-TypeKind (plain y))
  kind-alike y p ms h =
      let here = subst (λ (o : O.TypeKind-F TypeKind MapPart). AgreesAt tuples other_tuples variables other_variables o) (out-roll-TypeKind (plain y)) (h (node p ms (roll-TypeKind (plain y))) (inl refl)) in
      let inside = subst AllAgree (inside-rolls (plain y)) (λ u a. h u (inr a)) in
      term-rolls declared tuples variables (plain y) ∙ (layer-alike y here inside ∙ sym (term-rolls declared other_tuples other_variables (plain y)))

  -- readings that agree on all that stands in a type expression give it the same term
  pub all-alike : (k : TypeKind) → Alike k
  all-alike = ind-TypeKind Alike AlikePart
      (λ x y e. subst (λ z. Alike (roll-TypeKind z)) e (kind-alike y))
      (λ x y e. subst (λ z. AlikePart (roll-MapPart z)) e (part-alike y))
