-- A type expression with which nothing is wrong has a term.
use Rattle.std.proofs.Common.{◌≡◌, refl, ap, sym, subst, ◌∙◌, ℕ, suc, List, [], ◌∷◌, ◌++◌, map, length, append_assoc}
use Rattle.std.specs.Prelude.{Option, Some, None as Nothing, Bool, true, false, ◌||◌, ◌&&◌, cond, is_some, if◌then◌else◌, codes}
use Rattle.std.specs.Option.{option_map}
use Rattle.type_terms.specs.Keys.{Name, same_name}
use Rattle.type_terms.specs.declared.term.Term.{Term, Any}
use Rattle.type_terms.proofs.KeyLaws.{name-is}
use Rattle.erl_tree.specs.declared.token.Place.{Place}
use Rattle.erl_tree.specs.declared.token.Node.{Node}
use Rattle.erl_tree.specs.declared.expr.ExprKind.TheShapes as S
use Rattle.erl_tree.specs.declared.type_expr.TypeKind.{TypeKind, roll-TypeKind, map-TypeKind, ind-TypeKind, out-roll-TypeKind}
use Rattle.erl_tree.specs.declared.type_expr.MapPart.{MapPart, roll-MapPart, map-MapPart, out-MapPart, out-roll-MapPart}
use Rattle.erl_tree.specs.declared.type_expr.TypeKind.TheOpen as O
use Rattle.erl_tree.specs.declared.form.RecDefKind.{RecDefKind}
use Rattle.erl_grammar.specs.Grammar.{node}
use Rattle.erl_runs.specs.Names.{is_wildcard}
use Rattle.erl_runs.specs.Records.{find_record}
use Rattle.erl_runs.specs.Specs.{and_then, all_present}
use Rattle.typespecs_rules.specs.TypeParts.{Inside, from_each, with_inside, inside_layer, inside_map_part_kind, types_within}
use Rattle.typespecs_rules.specs.BuiltInTypes.{list_of, nonempty_list_of, built_in_term, is_built_in_name, is_out_of_profile, is_built_in_type}
use Rattle.typespecs_rules.specs.Declarations.{Declarations, position, type_number}
use Rattle.typespecs_rules.specs.TypeTerms.{MapKey, this_key, integer_keys, atom_keys, no_key, map_key, entry_of, MapEntry, RecordTuple, tuple_term, with_fields, named_term, set_operation, is_set_operation, prefixed_term, is_prefixed_type, used_term, terms, term_layer, map_part_entry}
use Rattle.typespecs_rules.specs.declared.fault.PlacedFault.{PlacedFault}
use Rattle.typespecs_rules.specs.declared.fault.TypeFault.{TypeFault}
use Rattle.typespecs_rules.specs.declared.fault.TypeFault.TheVariants.{NoSuchType, OutOfProfile}
use Rattle.typespecs_rules.specs.declared.fault.Outside.TheVariants.{UnusableType}
use Rattle.typespecs_rules.specs.TypeFaults.{fault_at, unless, is_key, part_key, key_faults, keys_faults, fields_faults, use_faults, fault_layer, own_faults, type_faults}
use Rattle.typespecs_rules.proofs.TypeRuleLaws.{of_kind, of_node, of_part, of_field, with_term, with_entry, with_all, part_with_all, term-rolls, entry-rolls, terms-are, entries-are, fields-are, inside-rolls, inside_part-rolls, inside-each, inside-parts, inside-fields}

-- ---- what is there

pub then-some : {A B : Type 0} (o : Option A) (f : A → Option B) → is_some o ≡ true → ((a : A) → o ≡ Some a → is_some (f a) ≡ true) → is_some (and_then o f) ≡ true
then-some Nothing f e g = absurd (cc)
then-some (Some a) f e g = g a refl

pub map-some : {A B : Type 0} (f : A → B) (o : Option A) → is_some o ≡ true → is_some (option_map f o) ≡ true
map-some f Nothing e = absurd (cc)
map-some f (Some a) e = refl

pub nil-parts : {A : Type 0} (xs ys : List A) → xs ++ ys ≡ [] → (xs ≡ []) × (ys ≡ [])
nil-parts [] ys e = (refl, e)
nil-parts (x ∷ xs) ys e = absurd (cc)

pub from_each-append : {A B : Type 0} (f : A → List B) (xs ys : List A) → from_each f (xs ++ ys) ≡ from_each f xs ++ from_each f ys
from_each-append f [] ys = refl
from_each-append f (x ∷ xs) ys = ap (λ more. f x ++ more) (from_each-append f xs ys) ∙ sym (append_assoc (f x) (from_each f xs) (from_each f ys))

pub unless-true : (b : Bool) (fault : TypeFault) (p : Place) → unless b fault p ≡ [] → b ≡ true
unless-true true fault p e = refl
unless-true false fault p e = absurd (cc)

-- ---- uses

variable-some : (wild allowed : Bool) (o : Option Term) → (wild || allowed) ≡ true → (allowed ≡ true → is_some o ≡ true) → is_some (cond wild (Some Any) o) ≡ true
variable-some true allowed o e h = refl
variable-some false allowed o e h = h e

present-more : {A : Type 0} (a : A) (os : List (Option A)) (xs : List A) (o : Option (List A)) → all_present os ≡ o → ((ys : List A) → all_present os ≡ Some ys → length ys ≡ length os) → and_then o (λ more. Some (a ∷ more)) ≡ Some xs → length xs ≡ suc (length os)
present-more a os xs Nothing q h r = absurd (cc)
present-more a os xs (Some ys) q h r = ap length (sym (same r)) ∙ ap suc (h ys q)
  where
    same : Some (a ∷ ys) ≡ Some xs → a ∷ ys ≡ xs
    same s = cc

present-length : {A : Type 0} (os : List (Option A)) (xs : List A) → all_present os ≡ Some xs → length xs ≡ length os
present-length [] [] e = refl
present-length [] (x ∷ xs) e = absurd (cc)
present-length (Nothing ∷ os) xs e = absurd (cc)
present-length (Some a ∷ os) xs e = present-more a os xs (all_present os) refl (λ ys q. present-length os ys q) e

-- a list type's name is a built-in type's
list-name : (name : Name) (b c : Bool) → same_name name (codes "list") ≡ b → same_name name (codes "nonempty_list") ≡ c → is_some (cond b (Some (list_of Any)) (cond c (Some (nonempty_list_of Any)) Nothing)) ≡ true → is_built_in_name name ≡ true
list-name name true c e f h = subst (λ n. is_built_in_name n ≡ true) (sym (name-is name (codes "list") e)) refl
list-name name false true e f h = subst (λ n. is_built_in_name n ≡ true) (sym (name-is name (codes "nonempty_list") f)) refl
list-name name false false e f h = absurd (cc)

list-some : (b c : Bool) (t : Term) → is_some (cond b (Some (list_of Any)) (cond c (Some (nonempty_list_of Any)) Nothing)) ≡ true → is_some (cond b (Some (list_of t)) (cond c (Some (nonempty_list_of t)) Nothing)) ≡ true
list-some true c t h = refl
list-some false true t h = refl
list-some false false t h = absurd (cc)

or-left : (a b : Bool) → a ≡ true → (a || b) ≡ true
or-left true b e = refl
or-left false b e = absurd (cc)

or-parts : {A : Type 0} (a b : Bool) → (a || b) ≡ true → (a ≡ true → A) → (b ≡ true → A) → A
or-parts true b e f g = f refl
or-parts false b e f g = g e

taken : {A : Type 0} (b : Bool) (x y : Option A) → b ≡ true → is_some x ≡ true → is_some (cond b x y) ≡ true
taken true x y e h = h
taken false x y e h = absurd (cc)

built_in-some : (name : Name) (own : List Term) → is_built_in_type name (length own) ≡ true → (is_built_in_name name ≡ true) × (is_some (built_in_term name own) ≡ true)
built_in-some name [] e = (or-left _ _ e, e)
built_in-some name (t ∷ []) e = (list-name name _ _ refl refl e, list-some _ _ t e)
built_in-some name (t ∷ u ∷ own) e = absurd (cc)

number-some : (reserved : Bool) (o : Option ℕ) (built : Option Term) (own : List Term) (f : ℕ → Term) → is_some (cond reserved Nothing o) ≡ true → is_some (cond reserved built (option_map f (cond reserved Nothing o))) ≡ true
number-some true o built own f e = absurd (cc)
number-some false o built own f e = map-some f o e

pub used-some : (declared : Declarations) (name : Name) (own : List Term) (p : Place) → use_faults declared name (length own) p ≡ [] → is_some (used_term declared name own) ≡ true
used-some declared name own p e = go (is_out_of_profile name) e
  where
    go : (b : Bool) → cond b (fault_at (OutOfProfile UnusableType) p ∷ []) (unless (is_built_in_type name (length own) || is_some (type_number declared name (length own))) NoSuchType p) ≡ [] → is_some (used_term declared name own) ≡ true
    go true q = absurd (cc)
    go false q = or-parts (is_built_in_type name (length own)) (is_some (type_number declared name (length own))) (unless-true _ _ _ q)
        (λ h. taken (is_built_in_name name) _ _ (built_in-some name own h).0 (built_in-some name own h).1)
        (λ h. number-some (is_built_in_name name) _ _ own _ h)

both-true : (a b : Bool) → (a && b) ≡ true → (a ≡ true) × (b ≡ true)
both-true true b e = (refl, e)
both-true false b e = absurd (cc)

if-true : {A : Type 0} (b : Bool) (x : A) → b ≡ true → is_some (cond b (Some x) Nothing) ≡ true
if-true true x e = refl
if-true false x e = absurd (cc)

set-some : (name : Name) (own : List Term) → is_set_operation name (length own) ≡ true → is_some (set_operation name own) ≡ true
set-some name [] e = absurd (cc)
set-some name (t ∷ []) e = if-true _ _ e
set-some name (t ∷ u ∷ []) e = if-true _ _ e
set-some name (t ∷ u ∷ v ∷ own) e = absurd (cc)

prefixed-some : (prefix name : Name) (own : List Term) → is_prefixed_type prefix name (length own) ≡ true → is_some (prefixed_term prefix name own) ≡ true
prefixed-some prefix name own e = taken (same_name prefix (codes "ety")) (set_operation name own) Nothing (both-true _ _ e).0 (set-some name own (both-true _ _ e).1)

-- ---- records

found-step : (b : Bool) (r : RecDefKind) (o : Option RecDefKind) (n : Option ℕ) → is_some (if b then Some r else o) ≡ true → (is_some o ≡ true → is_some n ≡ true) → is_some (cond b (Some 0) (option_map suc n)) ≡ true
found-step true r o n e h = refl
found-step false r o n e h = map-some suc n (h e)

found-number : (rs : List RecDefKind) (name : Name) → is_some (find_record rs name) ≡ true → is_some (position (λ (r : RecDefKind). same_name r.name name) rs) ≡ true
found-number [] name e = absurd (cc)
found-number (r ∷ rs) name e = found-step (same_name r.name name) r (find_record rs name) _ e (found-number rs name)

map-length : {A B : Type 0} (f : A → B) (xs : List A) → length (map f xs) ≡ length xs
map-length f [] = refl
map-length f (x ∷ xs) = ap suc (map-length f xs)

keyed : (key : MapKey) (required : Bool) (t : Term) → is_key key ≡ true → is_some (entry_of key required t) ≡ true
keyed (this_key k) required t e = refl
keyed integer_keys required t e = refl
keyed atom_keys required t e = refl
keyed no_key required t e = absurd (cc)

-- ---- type expressions

module _ (declared : Declarations) (tuples : Name → Option RecordTuple) (variables : Name → Option Term) (allowed : Name → Bool)
    (variables-there : (x : Name) → allowed x ≡ true → is_some (variables x) ≡ true)
    (tuples-there : (name : Name) → is_some (find_record declared.records name) ≡ true → is_some (tuples name) ≡ true) where
  abbrev own : Node TypeKind → List PlacedFault
  own t = own_faults declared allowed t

  abbrev the_term : Node TypeKind → Option Term
  the_term t = of_node declared tuples variables t

  abbrev Right : TypeKind → Type 0
  Right k = (p : Place) (ms : List Place) → type_faults declared allowed (node p ms k) ≡ [] → is_some (of_kind declared tuples variables k) ≡ true

  abbrev RightPart : MapPart → Type 0
  RightPart q = from_each own (inside_map_part_kind q) ≡ [] → is_key (map_key (out-MapPart q).required (out-MapPart q).key.kind) ≡ true → is_some (map_part_entry declared tuples variables q) ≡ true

  abbrev Kinds : Type 0
  Kinds = (k : TypeKind) × Right k

  abbrev Parts : Type 0
  Parts = (q : MapPart) × RightPart q

  abbrev plain : O.TypeKind-F Kinds Parts → O.TypeKind-F TypeKind MapPart
  plain y = map-TypeKind Kinds Parts TypeKind MapPart (λ k. k.0) (λ q. q.0) y

  abbrev plain_part : O.MapPart-F Kinds Parts → O.MapPart-F TypeKind MapPart
  plain_part y = map-MapPart Kinds Parts TypeKind MapPart (λ k. k.0) (λ q. q.0) y

  abbrev plain_list : List (Node Kinds) → List (Node TypeKind)
  plain_list ts = S.former-ExprKind-Tuple-0.map Kinds TypeKind (λ k. k.0) ts

  abbrev plain_parts : List (Node Parts) → List (Node MapPart)
  plain_parts ps = S.former-ExprKind-Tuple-0.map Parts MapPart (λ q. q.0) ps

  abbrev plain_fields : List (Node (Name × Node Kinds)) → List (Node (Name × Node TypeKind))
  plain_fields fs = S.former-ExprKind-RecNew-2.map Kinds TypeKind (λ k. k.0) fs

  abbrev plain_node : Node Kinds → Node TypeKind
  plain_node t = node t.place t.marks t.kind.0

  node-right : (t : Node Kinds) → type_faults declared allowed (plain_node t) ≡ [] → is_some (the_term (plain_node t)) ≡ true
  node-right t e = t.kind.1 t.place t.marks e

  list-right : (ts : List (Node Kinds)) → from_each own (from_each types_within (plain_list ts)) ≡ [] → is_some (all_present (map the_term (plain_list ts))) ≡ true
  list-right [] e = refl
  list-right (t ∷ ts) e =
      let h = nil-parts (from_each own (types_within (plain_node t))) (from_each own (from_each types_within (plain_list ts))) (sym (from_each-append own (types_within (plain_node t)) (from_each types_within (plain_list ts))) ∙ e) in
      then-some (the_term (plain_node t)) _ (node-right t h.0) (λ a q. then-some (all_present (map the_term (plain_list ts))) _ (list-right ts h.1) (λ more r. refl))

  fields-right : (fs : List (Node (Name × Node Kinds))) → from_each own (from_each (λ (field : Node (Name × Node TypeKind)). types_within field.kind.1) (plain_fields fs)) ≡ [] → is_some (all_present (map (of_field declared tuples variables) (plain_fields fs))) ≡ true
  fields-right [] e = refl
  fields-right (f ∷ fs) e =
      let h = nil-parts (from_each own (types_within (plain_node f.kind.1))) (from_each own (from_each (λ (field : Node (Name × Node TypeKind)). types_within field.kind.1) (plain_fields fs))) (sym (from_each-append own (types_within (plain_node f.kind.1)) (from_each (λ (field : Node (Name × Node TypeKind)). types_within field.kind.1) (plain_fields fs))) ∙ e) in
      then-some (named_term f.kind.0 (the_term (plain_node f.kind.1))) _ (map-some _ _ (node-right f.kind.1 h.0)) (λ a q. then-some (all_present (map (of_field declared tuples variables) (plain_fields fs))) _ (fields-right fs h.1) (λ more r. refl))

  parts-right : (before : List MapKey) (ps : List (Node Parts)) → keys_faults before (plain_parts ps) ≡ [] → from_each own (from_each (λ (part : Node MapPart). inside_map_part_kind part.kind) (plain_parts ps)) ≡ [] → is_some (all_present (map (of_part declared tuples variables) (plain_parts ps))) ≡ true
  parts-right before [] k e = refl
  parts-right before (q ∷ ps) k e =
      let h = nil-parts (from_each own (inside_map_part_kind q.kind.0)) (from_each own (from_each (λ (part : Node MapPart). inside_map_part_kind part.kind) (plain_parts ps))) (sym (from_each-append own (inside_map_part_kind q.kind.0) (from_each (λ (part : Node MapPart). inside_map_part_kind part.kind) (plain_parts ps))) ∙ e) in
      let g = nil-parts (key_faults before (part_key (node q.place q.marks q.kind.0)) (out-MapPart q.kind.0).key.place) _ k in
      then-some (map_part_entry declared tuples variables q.kind.0) _ (q.kind.1 h.0 (unless-true _ _ _ (nil-parts _ _ g.0).0)) (λ a r. then-some (all_present (map (of_part declared tuples variables) (plain_parts ps))) _ (parts-right (part_key (node q.place q.marks q.kind.0) ∷ before) ps g.1 h.1) (λ more s. refl))

  -- the terms of arguments, and how many there are
  arguments-right : (ts : List (Node Kinds)) (f : List Term → Option Term) → from_each own (from_each with_inside (S.former-ExprKind-Tuple-0.map TypeKind (TypeKind × Inside) with_all (plain_list ts))) ≡ [] → ((own' : List Term) → length own' ≡ length (plain_list ts) → is_some (f own') ≡ true) → is_some (and_then (terms (S.former-ExprKind-Tuple-0.map TypeKind (TypeKind × Option Term) (with_term declared tuples variables) (plain_list ts))) f) ≡ true
  arguments-right ts f e h = subst (λ o. is_some (and_then o f) ≡ true) (sym (terms-are declared tuples variables (plain_list ts)))
      (then-some (all_present (map the_term (plain_list ts))) f (list-right ts (subst (λ i. from_each own i ≡ []) (inside-each (plain_list ts)) e)) (λ own' q. h own' (present-length _ own' q ∙ map-length the_term (plain_list ts))))

  layer-right : (y : O.TypeKind-F Kinds Parts) (p : Place) → fault_layer declared allowed (plain y) p ++ from_each own (inside_layer (map-TypeKind TypeKind MapPart (TypeKind × Inside) (MapPart × Inside) with_all part_with_all (plain y))) ≡ [] → is_some (term_layer declared tuples variables (map-TypeKind TypeKind MapPart (TypeKind × Option Term) (MapPart × Option MapEntry) (with_term declared tuples variables) (with_entry declared tuples variables) (plain y))) ≡ true
  layer-right (O.Atom a) p e = refl
  layer-right (O.Int n) p e = refl
  layer-right (O.NegInt n) p e = refl
  layer-right (O.Char c) p e = refl
  layer-right (O.Var x) p e = variable-some (is_wildcard x) (allowed x) (variables x) (unless-true _ _ _ (nil-parts _ _ e).0) (variables-there x)
  layer-right (O.Paren t) p e = node-right t e
  layer-right (O.Or t u) p e =
      let h = nil-parts (from_each own (types_within (plain_node t))) (from_each own (types_within (plain_node u))) (sym (from_each-append own (types_within (plain_node t)) (types_within (plain_node u))) ∙ e) in
      then-some (the_term (plain_node t)) _ (node-right t h.0) (λ a q. then-some (the_term (plain_node u)) _ (node-right u h.1) (λ b r. refl))
  layer-right (O.Named x t) p e = node-right t e
  layer-right (O.Range low high) p e = unless-true _ _ _ (nil-parts _ _ e).0
  layer-right (O.Use Nothing name args) p e =
      let h = nil-parts (use_faults declared name (length (plain_list args)) p) _ e in
      arguments-right args _ h.1 (λ own' q. used-some declared name own' p (subst (λ n. use_faults declared name n p ≡ []) (sym q) h.0))
  layer-right (O.Use (Some prefix) name args) p e =
      let h = nil-parts (unless (is_prefixed_type prefix name (length (plain_list args))) NoSuchType p) _ e in
      arguments-right args _ h.1 (λ own' q. prefixed-some prefix name own' (subst (λ n. is_prefixed_type prefix name n ≡ true) (sym q) (unless-true _ _ _ h.0)))
  layer-right O.Nil p e = refl
  layer-right (O.ListOf t) p e = map-some _ _ (node-right t e)
  layer-right (O.NonEmpty t) p e = map-some _ _ (node-right t e)
  layer-right (O.Tuple ts) p e = map-some _ _ (subst (λ o. is_some o ≡ true) (sym (terms-are declared tuples variables (plain_list ts))) (list-right ts (subst (λ i. from_each own i ≡ []) (inside-each (plain_list ts)) e)))
  layer-right (O.Map parts) p e =
      let h = nil-parts (keys_faults [] (plain_parts parts)) _ e in
      map-some _ _ (subst (λ o. is_some o ≡ true) (sym (entries-are declared tuples variables (plain_parts parts))) (parts-right [] parts h.0 (subst (λ i. from_each own i ≡ []) (inside-parts (plain_parts parts)) h.1)))
  layer-right O.FunAll p e = refl
  layer-right (O.Fun params result) p e =
      let h = nil-parts _ (from_each own (types_within (plain_node result))) (sym (from_each-append own (from_each with_inside (S.former-ExprKind-Tuple-0.map TypeKind (TypeKind × Inside) with_all (plain_list params))) (types_within (plain_node result))) ∙ e) in
      arguments-right params _ h.0 (λ own' q. map-some _ _ (node-right result h.1))
  layer-right (O.Rec name tag []) p e = map-some _ _ (map-some _ _ (found-number declared.records name (unless-true _ _ _ (nil-parts _ _ (nil-parts _ _ e).0).0)))
  layer-right (O.Rec name tag (f ∷ fs)) p e =
      let h = nil-parts (unless (is_some (find_record declared.records name)) NoSuchType p ++ fields_faults (find_record declared.records name) [] (plain_fields (f ∷ fs))) _ e in
      subst (λ o. is_some (and_then o (λ given. option_map (λ r. tuple_term (with_fields given r)) (tuples name))) ≡ true) (sym (fields-are declared tuples variables (plain_fields (f ∷ fs))))
      (then-some (all_present (map (of_field declared tuples variables) (plain_fields (f ∷ fs)))) _ (fields-right (f ∷ fs) (subst (λ i. from_each own i ≡ []) (inside-fields (plain_fields (f ∷ fs))) h.1)) (λ given q. map-some _ _ (tuples-there name (unless-true _ _ _ (nil-parts _ _ h.0).0))))

  part-right : (y : O.MapPart-F Kinds Parts) → RightPart (roll-MapPart (plain_part y))
  part-right y e k =
      let f = sym (ap (from_each own) (inside_part-rolls (plain_part y))) ∙ e in
      let h = nil-parts (from_each own (types_within (plain_node y.key))) (from_each own (types_within (plain_node y.value))) (sym (from_each-append own (types_within (plain_node y.key)) (types_within (plain_node y.value))) ∙ f) in
      let key = subst (λ (o : O.MapPart-F TypeKind MapPart). is_key (map_key o.required o.key.kind) ≡ true) (out-roll-MapPart (plain_part y)) k in
      subst (λ o. is_some o ≡ true) (sym (entry-rolls declared tuples variables (plain_part y)))
      (then-some (the_term (plain_node y.value)) _ (node-right y.value h.1) (λ a q. keyed _ _ _ key))

  kind-right : (y : O.TypeKind-F Kinds Parts) → Right (roll-TypeKind (plain y))
  kind-right y p ms e =
      let f = sym (λ j. fault_layer declared allowed (out-roll-TypeKind (plain y) j) p ++ from_each own (inside-rolls (plain y) j)) ∙ e in
      subst (λ o. is_some o ≡ true) (sym (term-rolls declared tuples variables (plain y))) (layer-right y p f)

  pub all-right : (k : TypeKind) → Right k
  all-right = ind-TypeKind Right RightPart
      (λ x y e. subst (λ z. Right (roll-TypeKind z)) e (kind-right y))
      (λ x y e. subst (λ z. RightPart (roll-MapPart z)) e (part-right y))
