-- The keys of a map type's term ascend where no key of the map type stands twice.
use Rattle.std.proofs.Common.{◌≡◌, refl, ap, sym, subst, ◌∙◌, List, [], ◌∷◌, map}
use Rattle.std.specs.Prelude.{Option, Some, Bool, true, false, not, ◌||◌, cond}
use Rattle.std.specs.List.{list_any}
use Rattle.std.proofs.lemmas.Bool.{true≢false, false≢true, and_parts, and_from}
use Rattle.type_terms.specs.Keys.{Name, key_lt, same_key, ascending}
use Rattle.type_terms.specs.Parts.{field_keys}
use Rattle.type_terms.specs.declared.term.Key.{Key}
use Rattle.type_terms.specs.declared.term.Field.{Field}
use Rattle.type_terms.specs.declared.term.Term.{Term}
use Rattle.type_terms.proofs.KeyLaws.{key-same, key-refl}
use Rattle.erl_tree.specs.Lists.{Every}
use Rattle.erl_tree.specs.declared.token.Node.{Node}
use Rattle.erl_tree.specs.declared.type_expr.TypeKind.{TypeKind}
use Rattle.erl_tree.specs.declared.type_expr.MapPart.{MapPart, out-MapPart, roll-MapPart, roll-out-MapPart}
use Rattle.erl_tree.specs.declared.type_expr.TypeKind.TheOpen as O
use Rattle.erl_runs.specs.Specs.{all_present}
use Rattle.typespecs_rules.specs.declared.fault.TypeFault.TheVariants.{Repeated}
use Rattle.typespecs_rules.specs.Declarations.{Declarations}
use Rattle.typespecs_rules.specs.TypeTerms.{MapKey, this_key, integer_keys, atom_keys, no_key, map_key, MapEntry, entry_of, inserted, with_field, fields_among, RecordTuple, map_part_entry}
use Rattle.typespecs_rules.specs.TypeFaults.{same_map_key, part_key, key_faults, keys_faults}
use Rattle.typespecs_rules.proofs.RightTypes.{nil-parts, unless-true}
use Rattle.typespecs_rules.proofs.TypeRuleLaws.{of_node, of_part, entry-rolls}
use Rattle.typespecs_lemmas.proofs.FirstFault.{some-inj}
use Rattle.typespecs_lemmas.proofs.GivenReach.{both}
use Rattle.typespecs_lemmas.proofs.TermParts.{present-parts}

-- ---- sorted fields

-- a key comes before the first of some fields
abbrev LiesBelow : Key → List Field → Type 0
LiesBelow k [] = Unit {0}
LiesBelow k (f ∷ fs) = key_lt k f.key ≡ true

ascend-cons : (f : Field) (fs : List Field) → LiesBelow f.key fs → ascending (field_keys fs) ≡ true → ascending (field_keys (f ∷ fs)) ≡ true
ascend-cons f [] l e = refl
ascend-cons f (g ∷ fs) l e = and_from _ _ l e

ascend-parts : (f : Field) (fs : List Field) → ascending (field_keys (f ∷ fs)) ≡ true → LiesBelow f.key fs × (ascending (field_keys fs) ≡ true)
ascend-parts f [] e = (tt, refl)
ascend-parts f (g ∷ fs) e = and_parts _ _ e

below-inserted : (k : Key) (field : Field) (fs : List Field) → key_lt k field.key ≡ true → LiesBelow k fs → LiesBelow k (inserted field fs)
below-inserted k field [] h l = h
below-inserted k field (g ∷ fs) h l = go (key_lt field.key g.key)
  where
    go : (b : Bool) → LiesBelow k (cond b (field ∷ g ∷ fs) (g ∷ inserted field fs))
    go true = h
    go false = l

-- of two keys that are not the same one comes before the other
otherwise-above : (j k : Key) → key_lt j k ≡ false → same_key k j ≡ false → key_lt k j ≡ true
otherwise-above j k e s = go (key_lt k j) refl
  where
    go : (b : Bool) → key_lt k j ≡ b → b ≡ true
    go true q = refl
    go false q = absurd (true≢false (sym (key-refl k) ∙ (ap (λ x. same_key k x) (sym (key-same j k e q)) ∙ s)))

pub ascend-inserted : (field : Field) (fs : List Field) → ascending (field_keys fs) ≡ true → Every (λ (f : Field). same_key f.key field.key ≡ false) fs → ascending (field_keys (inserted field fs)) ≡ true
ascend-inserted field [] e a = refl
ascend-inserted field (next ∷ fs) e a = go (key_lt field.key next.key) refl (ascend-parts next fs e) (ascend-inserted field fs)
  where
    go : (b : Bool) → key_lt field.key next.key ≡ b → LiesBelow next.key fs × (ascending (field_keys fs) ≡ true) → (ascending (field_keys fs) ≡ true → Every (λ (f : Field). same_key f.key field.key ≡ false) fs → ascending (field_keys (inserted field fs)) ≡ true) → ascending (field_keys (cond b (field ∷ next ∷ fs) (next ∷ inserted field fs))) ≡ true
    go true q p h = and_from _ _ q e
    go false q p h = ascend-cons next (inserted field fs) (below-inserted next.key field fs (otherwise-above field.key next.key q a.0) p.0) (h p.1 a.1)

inserted-every : (P : Field → Type 0) (field : Field) (fs : List Field) → P field → Every P fs → Every P (inserted field fs)
inserted-every P field [] h k = (h, tt)
inserted-every P field (next ∷ fs) h k = go (key_lt field.key next.key) (inserted-every P field fs h k.1)
  where
    go : (b : Bool) → Every P (inserted field fs) → Every P (cond b (field ∷ next ∷ fs) (next ∷ inserted field fs))
    go true l = (h, k)
    go false l = (k.0, l)

-- ---- entries with distinct keys

abbrev pub IsApart : MapKey → MapEntry → Type 0
IsApart k e = same_map_key e.key k ≡ false

abbrev pub AreApart : List MapEntry → Type 0
AreApart [] = Unit {0}
AreApart (e ∷ es) = Every (IsApart e.key) es × AreApart es

field-apart : (k : Key) (key : MapKey) (required : Bool) (value : Term) (fs : List Field) → same_map_key key (this_key k) ≡ false → Every (λ (f : Field). same_key f.key k ≡ false) fs → Every (λ (f : Field). same_key f.key k ≡ false) (with_field key required value fs)
field-apart k (this_key j) required value fs h a = inserted-every (λ (f : Field). same_key f.key k ≡ false) (record { key = j; required = required; term = value }) fs h a
field-apart k integer_keys required value fs h a = a
field-apart k atom_keys required value fs h a = a
field-apart k no_key required value fs h a = a

fields-apart : (k : Key) (es : List MapEntry) → Every (IsApart (this_key k)) es → Every (λ (f : Field). same_key f.key k ≡ false) (fields_among es)
fields-apart k [] a = tt
fields-apart k (e ∷ es) a = field-apart k e.key e.required e.value (fields_among es) a.0 (fields-apart k es a.1)

one-ascends : (key : MapKey) (required : Bool) (value : Term) (es : List MapEntry) → Every (IsApart key) es → ascending (field_keys (fields_among es)) ≡ true → ascending (field_keys (with_field key required value (fields_among es))) ≡ true
one-ascends (this_key k) required value es a e = ascend-inserted (record { key = k; required = required; term = value }) (fields_among es) e (fields-apart k es a)
one-ascends integer_keys required value es a e = e
one-ascends atom_keys required value es a e = e
one-ascends no_key required value es a e = e

entries-ascend : (es : List MapEntry) → AreApart es → ascending (field_keys (fields_among es)) ≡ true
entries-ascend [] a = refl
entries-ascend (e ∷ es) a = one-ascends e.key e.required e.value es a.0 (entries-ascend es a.1)

-- ---- keys without a fault

not-true : (b : Bool) → not b ≡ true → b ≡ false
not-true true e = absurd (false≢true e)
not-true false e = refl

or-false : (a b : Bool) → (a || b) ≡ false → b ≡ false
or-false true b e = absurd (true≢false e)
or-false false b e = e

entry-key : (key : MapKey) (required : Bool) (value : Term) (e : MapEntry) → entry_of key required value ≡ Some e → e.key ≡ key
entry-key (this_key k) required value e q = ap (λ (x : MapEntry). x.key) (sym (some-inj _ e q))
entry-key integer_keys required value e q = ap (λ (x : MapEntry). x.key) (sym (some-inj _ e q))
entry-key atom_keys required value e q = ap (λ (x : MapEntry). x.key) (sym (some-inj _ e q))
entry-key no_key required value e q = absurd (cc)

module _ (declared : Declarations) (tuples : Name → Option RecordTuple) (variables : Name → Option Term) where
  layer-key : (x : O.MapPart-F TypeKind MapPart) (e : MapEntry) → map_part_entry declared tuples variables (roll-MapPart x) ≡ Some e → e.key ≡ map_key x.required x.key.kind
  layer-key x e q =
      let a = both (of_node declared tuples variables x.value) (λ value. entry_of (map_key x.required x.key.kind) x.required value) e (sym (entry-rolls declared tuples variables x) ∙ q) in
      entry-key (map_key x.required x.key.kind) x.required a.0 e a.2

  key-is : (p : Node MapPart) (e : MapEntry) → of_part declared tuples variables p ≡ Some e → e.key ≡ part_key p
  key-is p e q = layer-key (out-MapPart p.kind) e (ap (λ k. map_part_entry declared tuples variables k) (roll-out-MapPart p.kind) ∙ q)

  -- no later key is the same as one that stands before
  later-apart : (k : MapKey) (before : List MapKey) → ((x : MapKey) → list_any (same_map_key x) before ≡ false → same_map_key x k ≡ false) → (ps : List (Node MapPart)) (es : List MapEntry) → keys_faults before ps ≡ [] → all_present (map (of_part declared tuples variables) ps) ≡ Some es → Every (IsApart k) es
  later-apart k before h [] es f e = subst (λ o. Every (IsApart k) o) (some-inj [] es e) tt
  later-apart k before h (p ∷ ps) es f e =
      let a = present-parts (of_part declared tuples variables p) (map (of_part declared tuples variables) ps) es e in
      let b = nil-parts (key_faults before (part_key p) (out-MapPart p.kind).key.place) _ f in
      let c = nil-parts _ _ b.0 in
      let new : list_any (same_map_key (part_key p)) before ≡ false = not-true _ (unless-true _ Repeated _ c.1) in
      subst (λ o. Every (IsApart k) o) a.4 (
        ap (λ x. same_map_key x k) (key-is p a.0 a.2) ∙ h (part_key p) new,
        later-apart k (part_key p ∷ before) (λ x q. h x (or-false (same_map_key x (part_key p)) (list_any (same_map_key x) before) q)) ps a.1 b.1 a.3,
      )

  entries-apart : (before : List MapKey) (ps : List (Node MapPart)) (es : List MapEntry) → keys_faults before ps ≡ [] → all_present (map (of_part declared tuples variables) ps) ≡ Some es → AreApart es
  entries-apart before [] es f e = subst (λ o. AreApart o) (some-inj [] es e) tt
  entries-apart before (p ∷ ps) es f e =
      let a = present-parts (of_part declared tuples variables p) (map (of_part declared tuples variables) ps) es e in
      let b = nil-parts (key_faults before (part_key p) (out-MapPart p.kind).key.place) _ f in
      subst (λ o. AreApart o) a.4 (
        subst (λ k. Every (IsApart k) a.1) (sym (key-is p a.0 a.2)) (later-apart (part_key p) (part_key p ∷ before) (first-apart before (part_key p)) ps a.1 b.1 a.3),
        entries-apart (part_key p ∷ before) ps a.1 b.1 a.3,
      )
    where
      first-apart : (ks : List MapKey) (k x : MapKey) → list_any (same_map_key x) (k ∷ ks) ≡ false → same_map_key x k ≡ false
      first-apart ks k x q = go (same_map_key x k) (list_any (same_map_key x) ks) q
        where
          go : (b c : Bool) → (b || c) ≡ false → b ≡ false
          go true c r = absurd (true≢false r)
          go false c r = refl

  pub keys-ascend : (ps : List (Node MapPart)) (es : List MapEntry) → keys_faults [] ps ≡ [] → all_present (map (of_part declared tuples variables) ps) ≡ Some es → ascending (field_keys (fields_among es)) ≡ true
  keys-ascend ps es f e = entries-ascend es (entries-apart [] ps es f e)
