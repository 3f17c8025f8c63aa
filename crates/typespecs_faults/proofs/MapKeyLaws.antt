-- The keys of map types that were seen.
use Rattle.std.proofs.Common.{◌≡◌, ℕ, ℤ, pos, negsuc, ◌+◌, ◌<◌, ◌≤◌, Bool, true, false, not, ◌||◌, List, [], ◌∷◌, ◌++◌, length, drop, get_or, refl, sym, ap, ap₂, ◌∙◌, subst, Option, Some, None, Bor, true≢false}
use Rattle.std.specs.Prelude.{if◌then◌else◌}
use Rattle.std.specs.List.{list_any}
use Rattle.std.proofs.lemmas.List.{drop_all}
use Rattle.std.proofs.lemmas.List.Folds.{list_any-append}
use Rattle.std.specs.Ordering.{int_eq}
use Rattle.std.proofs.lemmas.Bool.Decides.{Decides-eqb, Decides-int_eq}
use Rattle.indexmap.specs.IndexSet.{insert_key}
use Rattle.type_terms.specs.Keys.{Name, same_name, same_int}
use Rattle.type_terms.specs.declared.term.Key.TheVariants.{Int as IntKey, Atom as AtomKey}
use Rattle.erl_tree.specs.declared.token.Place.{Place}
use Rattle.erl_tree.specs.declared.token.Node.{Node}
use Rattle.erl_tree.specs.declared.type_expr.TypeKind.{TypeKind, out-TypeKind, roll-TypeKind, roll-out-TypeKind}
use Rattle.erl_tree.specs.declared.type_expr.MapPart.{MapPart, out-MapPart}
use Rattle.erl_tree.specs.declared.type_expr.TypeKind.TheVariants as Y
use Rattle.erl_tree.specs.declared.type_expr.TypeKind.TheOpen as O
use Rattle.typespecs_rules.specs.declared.fault.PlacedFault.{PlacedFault}
use Rattle.typespecs_rules.specs.TypeTerms.{MapKey, this_key, integer_keys, atom_keys, no_key, key_layer, map_key}
use Rattle.typespecs_rules.specs.TypeFaults.{same_map_key, stands_among, part_key, key_faults, keys_faults}
use Rattle.typespecs_rules.specs.Earliest.{earliest}
use Rattle.typespecs_faults.specs.NameSets.{names_in}
use Rattle.typespecs_faults.specs.declared.keys.SeenKeys.{SeenKeys}
use Rattle.typespecs_faults.specs.SeenKeys.{was_seen, IsSeen, use_key}
use Rattle.typespecs_faults.proofs.EarliestLaws.{earliest-append}
use Rattle.typespecs_faults.proofs.FieldLaws.{is_key, seen-is, seen-more}
use Rattle.typespecs_faults.proofs.Rows.{rest_at}

-- ---- integers

same_int-itself : (n : ℤ) → same_int n n ≡ true
same_int-itself (pos n) = (Decides-eqb n n).1 refl
same_int-itself (negsuc n) = (Decides-eqb n n).1 refl

same_int-is : (m n : ℤ) → same_int m n ≡ true → m ≡ n
same_int-is (pos m) (pos n) h = ap pos ((Decides-eqb m n).0 h)
same_int-is (negsuc m) (negsuc n) h = ap negsuc ((Decides-eqb m n).0 h)
same_int-is (pos m) (negsuc n) h = absurd (true≢false (sym h))
same_int-is (negsuc m) (pos n) h = absurd (true≢false (sym h))

or-false : (b : Bool) → (b || false) ≡ b
or-false true = refl
or-false false = refl

or-swap : (a b : Bool) → (a || b) ≡ (b || a)
or-swap true true = refl
or-swap true false = refl
or-swap false true = refl
or-swap false false = refl

any-itself : (n : ℤ) (ns : List ℤ) (x : ℤ) → list_any (same_int n) ns ≡ true → x ≡ n → true ≡ list_any (same_int x) ns
any-itself n ns x h e = sym (subst (λ (y : ℤ). list_any (same_int y) ns ≡ true) (sym e) h)

-- one more integer
pub int-more : (ns : List ℤ) (n x : ℤ) → list_any (same_int x) (insert_key same_int ns n) ≡ (same_int x n || list_any (same_int x) ns)
int-more ns n x = by (list_any (same_int n) ns) refl (same_int x n) refl
  where
    by : (b : Bool) → list_any (same_int n) ns ≡ b → (s : Bool) → same_int x n ≡ s → list_any (same_int x) (if b then ns else ns ++ n ∷ []) ≡ (s || list_any (same_int x) ns)
    by true p true q = sym (any-itself n ns x p (same_int-is x n q))
    by true p false q = refl
    by false p s q = list_any-append (same_int x) ns (n ∷ []) ∙ (ap (λ b. list_any (same_int x) ns || b) (or-false (same_int x n) ∙ q) ∙ or-swap (list_any (same_int x) ns) s)

-- the tests of a set are these
insert-alike : (eq : ℤ → ℤ → Bool) → ((m n : ℤ) → eq m n ≡ same_int m n) → (ns : List ℤ) (n : ℤ) → insert_key eq ns n ≡ insert_key same_int ns n
insert-alike eq h ns n = ap (λ (e : ℤ → ℤ → Bool). insert_key e ns n) (λ j. λ x y. h x y j)

-- ---- what an insertion adds

module _ (old new : SeenKeys) (before : List MapKey) (so_far : IsSeen old before) where
  pub int-added : (eq : ℤ → ℤ → Bool) → ((m n : ℤ) → eq m n ≡ same_int m n) → (n : ℤ) → new.integers.keys ≡ insert_key eq old.integers.keys n → new.atoms.keys ≡ old.atoms.keys → new.all_integers ≡ old.all_integers → new.all_atoms ≡ old.all_atoms → IsSeen new (this_key (IntKey n) ∷ before)
  int-added eq test n more atoms integers all_atoms = record { same = by }
    where
      by : (k : MapKey) → was_seen new k ≡ (same_map_key k (this_key (IntKey n)) || list_any (same_map_key k) before)
      by (this_key (IntKey m)) = ap (list_any (same_int m)) (more ∙ insert-alike eq test old.integers.keys n) ∙ (int-more old.integers.keys n m ∙ ap (λ b. same_int m n || b) (so_far.same (this_key (IntKey m))))
      by (this_key (AtomKey a)) = ap (λ ks. stands_among a (names_in ks)) atoms ∙ so_far.same (this_key (AtomKey a))
      by integer_keys = integers ∙ so_far.same integer_keys
      by atom_keys = all_atoms ∙ so_far.same atom_keys
      by no_key = so_far.same no_key

  pub int-new : (eq : ℤ → ℤ → Bool) → ((m n : ℤ) → eq m n ≡ same_int m n) → (n : ℤ) (b : Bool) → b ≡ not (list_any (eq n) old.integers.keys) → b ≡ not (list_any (same_map_key (this_key (IntKey n))) before)
  int-new eq test n b e = e ∙ ap not (ap (λ (t : ℤ → ℤ → Bool). list_any (t n) old.integers.keys) (λ j. λ x y. test x y j) ∙ so_far.same (this_key (IntKey n)))

  pub atom-added : (k : Bor (List ℕ)) → new.atoms.keys ≡ insert_key is_key old.atoms.keys k → new.integers.keys ≡ old.integers.keys → new.all_integers ≡ old.all_integers → new.all_atoms ≡ old.all_atoms → IsSeen new (this_key (AtomKey k.now) ∷ before)
  atom-added a more ints integers all_atoms = record { same = by }
    where
      by : (k : MapKey) → was_seen new k ≡ (same_map_key k (this_key (AtomKey a.now)) || list_any (same_map_key k) before)
      by (this_key (IntKey m)) = ap (list_any (same_int m)) ints ∙ so_far.same (this_key (IntKey m))
      by (this_key (AtomKey x)) = ap (λ ks. stands_among x (names_in ks)) more ∙ (sym (seen-more old.atoms.keys a x) ∙ ap (λ b. same_name x a.now || b) (so_far.same (this_key (AtomKey x))))
      by integer_keys = integers ∙ so_far.same integer_keys
      by atom_keys = all_atoms ∙ so_far.same atom_keys
      by no_key = so_far.same no_key

  pub atom-new : (k : Bor (List ℕ)) (b : Bool) → b ≡ not (list_any (is_key k) old.atoms.keys) → b ≡ not (list_any (same_map_key (this_key (AtomKey k.now))) before)
  atom-new k b e = e ∙ ap not (seen-is k old.atoms.keys ∙ so_far.same (this_key (AtomKey k.now)))

  pub integers-added : new.all_integers ≡ true → new.integers.keys ≡ old.integers.keys → new.atoms.keys ≡ old.atoms.keys → new.all_atoms ≡ old.all_atoms → IsSeen new (integer_keys ∷ before)
  integers-added all ints atoms all_atoms = record { same = by }
    where
      by : (k : MapKey) → was_seen new k ≡ (same_map_key k integer_keys || list_any (same_map_key k) before)
      by (this_key (IntKey m)) = ap (list_any (same_int m)) ints ∙ so_far.same (this_key (IntKey m))
      by (this_key (AtomKey x)) = ap (λ ks. stands_among x (names_in ks)) atoms ∙ so_far.same (this_key (AtomKey x))
      by integer_keys = all
      by atom_keys = all_atoms ∙ so_far.same atom_keys
      by no_key = so_far.same no_key

  pub all_atoms-added : new.all_atoms ≡ true → new.integers.keys ≡ old.integers.keys → new.atoms.keys ≡ old.atoms.keys → new.all_integers ≡ old.all_integers → IsSeen new (atom_keys ∷ before)
  all_atoms-added all ints atoms integers = record { same = by }
    where
      by : (k : MapKey) → was_seen new k ≡ (same_map_key k atom_keys || list_any (same_map_key k) before)
      by (this_key (IntKey m)) = ap (list_any (same_int m)) ints ∙ so_far.same (this_key (IntKey m))
      by (this_key (AtomKey x)) = ap (λ ks. stands_among x (names_in ks)) atoms ∙ so_far.same (this_key (AtomKey x))
      by integer_keys = integers ∙ so_far.same integer_keys
      by atom_keys = all
      by no_key = so_far.same no_key

  pub nothing-added : new ≡ old → IsSeen new (no_key ∷ before)
  nothing-added e = subst (λ (s : SeenKeys). IsSeen s (no_key ∷ before)) (sym e) (record { same = by })
    where
      by : (k : MapKey) → was_seen old k ≡ (same_map_key k no_key || list_any (same_map_key k) before)
      by (this_key (IntKey m)) = so_far.same (this_key (IntKey m))
      by (this_key (AtomKey x)) = so_far.same (this_key (AtomKey x))
      by integer_keys = so_far.same integer_keys
      by atom_keys = so_far.same atom_keys
      by no_key = so_far.same no_key

  pub integers-new : not old.all_integers ≡ not (list_any (same_map_key integer_keys) before)
  integers-new = ap not (so_far.same integer_keys)

  pub all_atoms-new : not old.all_atoms ≡ not (list_any (same_map_key atom_keys) before)
  all_atoms-new = ap not (so_far.same atom_keys)

  pub none-new : true ≡ not (list_any (same_map_key no_key) before)
  none-new = ap not (so_far.same no_key)

-- ---- the loop over parts

module _ (xs : List (Node MapPart)) (whole : Option PlacedFault) where
  -- what stands before is seen, and what is left is to be noted
  abbrev pub IsKeyedTo : ℕ → SeenKeys → Option PlacedFault → Type 0
  IsKeyedTo i seen first = (before : List MapKey) × IsSeen seen before × (earliest first (keys_faults before (drop i xs)) ≡ whole)

  pub keyed_next : (i : ℕ) (x : Node MapPart) (k : MapPart) (key : MapKey) (place : Place) (old new : SeenKeys) (first next : Option PlacedFault) → i < length xs → x ≡ get_or xs i x → k ≡ x.kind → key ≡ map_key (out-MapPart k).required (out-MapPart k).key.kind → place ≡ (out-MapPart k).key.place
      → ((before : List MapKey) → IsSeen old before → next ≡ earliest first (key_faults before key place)) → ((before : List MapKey) → IsSeen old before → IsSeen new (key ∷ before)) → IsKeyedTo i old first → IsKeyedTo (i + 1) new next
  keyed_next i x k key place old new first next lt is kind meant at noted added so_far = (
    part_key x ∷ so_far.0,
    subst (λ (y : MapKey). IsSeen new (y ∷ so_far.0)) same (added so_far.0 so_far.1),
    ap (λ f. earliest f (keys_faults (part_key x ∷ so_far.0) (drop (i + 1) xs)))
        (noted so_far.0 so_far.1 ∙ ap₂ (λ y p. earliest first (key_faults so_far.0 y p)) same (at ∙ ap (λ y. (out-MapPart y).key.place) kind))
        ∙ (sym (earliest-append first (key_faults so_far.0 (part_key x) (out-MapPart x.kind).key.place) (keys_faults (part_key x ∷ so_far.0) (drop (i + 1) xs)))
        ∙ (ap (λ ys. earliest first (keys_faults so_far.0 ys)) (sym (rest_at xs i x lt is)) ∙ so_far.2)),
  )
    where
      same : key ≡ part_key x
      same = meant ∙ ap (λ y. map_key (out-MapPart y).required (out-MapPart y).key.kind) kind

  pub keyed_last : (i : ℕ) (seen : SeenKeys) (first : Option PlacedFault) → length xs ≤ i → IsKeyedTo i seen first → first ≡ whole
  keyed_last i seen first end so_far = ap (λ ys. earliest first (keys_faults so_far.0 ys)) (sym (drop_all i xs end)) ∙ so_far.2

-- ---- the key of one level

pub other-key : (k : TypeKind) → ((a : Name) → k ≡ Y.Atom a → ⊥) → ((n : ℤ) → k ≡ Y.Int n → ⊥) → ((n : ℤ) → k ≡ Y.NegInt n → ⊥) → ((n : ℕ) → k ≡ Y.Char n → ⊥) → ((prefix : Option Name) (name : Name) (ts : List (Node TypeKind)) → k ≡ Y.Use prefix name ts → ⊥) → no_key ≡ key_layer (out-TypeKind k)
other-key k atom int neg char use_ = go (out-TypeKind k) (sym (roll-out-TypeKind k))
  where
    go : (l : O.TypeKind-F TypeKind MapPart) → k ≡ roll-TypeKind l → no_key ≡ key_layer l
    go (O.Atom a) e = absurd (atom a (e ∙ Y.rolls-Atom a))
    go (O.Int n) e = absurd (int n (e ∙ Y.rolls-Int n))
    go (O.NegInt n) e = absurd (neg n (e ∙ Y.rolls-NegInt n))
    go (O.Char n) e = absurd (char n (e ∙ Y.rolls-Char n))
    go (O.Use prefix name ts) e = absurd (use_ prefix name ts (e ∙ Y.rolls-Use prefix name ts))
    go _ e = refl

pub key-is : (k v : TypeKind) (o : O.TypeKind-F TypeKind MapPart) → k ≡ v → out-TypeKind v ≡ o → key_layer o ≡ key_layer (out-TypeKind k)
key-is k v o is outs = ap key_layer (sym outs ∙ ap out-TypeKind (sym is))

pub use-is : (name : Name) (ts : List (Node TypeKind)) → use_key name ts ≡ key_layer {A = TypeKind} {B = MapPart} (O.Use None name ts)
use-is name [] = refl
use-is name (t ∷ ts) = refl

pub prefixed-is : (prefix name : Name) (ts : List (Node TypeKind)) → no_key ≡ key_layer {A = TypeKind} {B = MapPart} (O.Use (Some prefix) name ts)
prefixed-is prefix name ts = refl

-- the tests of integers are the same
pub int-test : (m n : ℤ) → int_eq m n ≡ same_int m n
int-test m n = by (int_eq m n) refl (same_int m n) refl
  where
    by : (a : Bool) → int_eq m n ≡ a → (b : Bool) → same_int m n ≡ b → int_eq m n ≡ same_int m n
    by true p true q = p ∙ sym q
    by false p false q = p ∙ sym q
    by true p false q = absurd (true≢false (sym (subst (λ (x : ℤ). same_int m x ≡ true) ((Decides-int_eq m n).0 p) (same_int-itself m)) ∙ q))
    by false p true q = absurd (true≢false (sym ((Decides-int_eq m n).1 (same_int-is m n q)) ∙ p))
