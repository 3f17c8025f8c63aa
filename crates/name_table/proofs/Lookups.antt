-- What the map's look-ups say of the table's entries.
use Rattle.std.proofs.Common.{◌≡◌, ℕ, Bool, true, false, cond, ◌&&◌, List, [], ◌∷◌, ◌++◌, inl, inr, refl, sym, ap, ◌∙◌, subst, Option, Some, None, is_some, nat_eq, true≢false}
use Rattle.std.specs.Bool.{Decides}
use Rattle.std.specs.Map.{lookup}
use Rattle.std.specs.Str.{bytes_eq}
use Rattle.std.proofs.lemmas.Bool.Decides.{Decides-eqb, Decides-and, Decides-like}
use Rattle.std.proofs.lemmas.Slice.Eq.{bytes_eq-Decides}
use Rattle.erl_tree.specs.Lists.{Among, AreDistinct}
use Rattle.erl_tree.specs.Functions.{FunctionId, of_function}
use Rattle.name_table.specs.declared.NameKey.{NameKey}
use Rattle.name_table.specs.Table.{Entry, ids, IsFound}
use Rattle.name_table.specs.Entries.{entry_of, entries_of, key_id}
use Rattle.name_table.proofs.Distinct.{AreDistinct-push}

-- keys are equal exactly where they are of the same function
pub same_key : (k j : NameKey) → Decides (bytes_eq k.name.items j.name.items && nat_eq k.arity j.arity) (key_id k ≡ key_id j)
same_key k j =
    Decides-like _ (λ e. ap (λ n. of_function n k.arity) e.0 ∙ ap (of_function j.name.items) e.1) (λ e. (ap (λ (i : FunctionId). i.name) e, ap (λ (i : FunctionId). i.arity) e))
    (Decides-and _ _ (bytes_eq-Decides k.name.items j.name.items) (Decides-eqb k.arity j.arity))

-- the test by which a key is looked up
abbrev pub is_key : NameKey → NameKey → Bool
is_key k j = bytes_eq k.name.items j.name.items && nat_eq k.arity j.arity

abbrev pub IsExact : FunctionId → (NameKey → Bool) → Type 0
IsExact id test = (k : NameKey) → Decides (test k) (id ≡ key_id k)

pub is_key-exact : (key : NameKey) (id : FunctionId) → key_id key ≡ id → IsExact id (is_key key)
is_key-exact key id is k = Decides-like _ (λ e. sym is ∙ e) (λ e. is ∙ e) (same_key key k)

-- an entry of another function before the others changes no look-up
pub IsFound-later : (e : Entry) (es : List Entry) (id : FunctionId) (o : Option ℕ) → (id ≡ e.0 → ⊥) → IsFound es id o → IsFound (e ∷ es) id o
IsFound-later e es id (Some n) other h = inr h
IsFound-later e es id None other h = λ there. elim there [ inl same ↦ other same | inr later ↦ h later ]

-- the function of an entry is in the table
pub Among-ids : (id : FunctionId) (n : ℕ) (es : List Entry) → Among (id, n) es → Among id (ids es)
Among-ids id n [] h = h
Among-ids id n (e ∷ es) h = elim h [ inl same ↦ inl (ap (λ (p : Entry). p.0) same) | inr later ↦ inr (Among-ids id n es later) ]

module _ (id : FunctionId) (test : NameKey → Bool) (exact : IsExact id test) where
  pub IsFound-lookup : (es : List (NameKey × ℕ)) → IsFound (entries_of es) id (lookup test es)
  IsFound-lookup [] = λ no. no
  IsFound-lookup (e ∷ es) = by (test e.0) refl (IsFound-lookup es)
    where
      by : (b : Bool) → test e.0 ≡ b → IsFound (entries_of es) id (lookup test es) → IsFound (entries_of (e ∷ es)) id (cond b (Some e.1) (lookup test es))
      by true p later = inl (ap (λ (i : FunctionId). (i, e.1)) ((exact e.0).0 p))
      by false p later = IsFound-later (entry_of e) (entries_of es) id (lookup test es) (λ same. true≢false (sym ((exact e.0).1 same) ∙ p)) later

  pub present : (es : List (NameKey × ℕ)) → is_some (lookup test es) ≡ true → Among id (ids (entries_of es))
  present es h = by (lookup test es) h (IsFound-lookup es)
    where
      by : (o : Option ℕ) → is_some o ≡ true → IsFound (entries_of es) id o → Among id (ids (entries_of es))
      by (Some n) some found = Among-ids id n (entries_of es) found
      by None some found = absurd (true≢false (sym some))

  pub absent : (es : List (NameKey × ℕ)) → lookup test es ≡ None → Among id (ids (entries_of es)) → ⊥
  absent es h = subst (IsFound (entries_of es) id) h (IsFound-lookup es)

-- one more entry at the end
pub entries_of-push : (es : List (NameKey × ℕ)) (k : NameKey) (n : ℕ) → entries_of (es ++ (k, n) ∷ []) ≡ entries_of es ++ (key_id k, n) ∷ []
entries_of-push [] k n = refl
entries_of-push (e ∷ es) k n = ap (λ rest. entry_of e ∷ rest) (entries_of-push es k n)

pub ids-push : (es : List Entry) (id : FunctionId) (n : ℕ) → ids (es ++ (id, n) ∷ []) ≡ ids es ++ id ∷ []
ids-push [] id n = refl
ids-push (e ∷ es) id n = ap (λ rest. e.0 ∷ rest) (ids-push es id n)

-- and its function is a new one
pub AreDistinct-entry : (es : List Entry) (id : FunctionId) (n : ℕ) → AreDistinct (ids es) → (Among id (ids es) → ⊥) → AreDistinct (ids (es ++ (id, n) ∷ []))
AreDistinct-entry es id n distinct new = subst AreDistinct (sym (ids-push es id n)) (AreDistinct-push (ids es) id distinct new)

pub is_none : {A : Type 0} (o : Option A) → is_some o ≡ false → o ≡ None
is_none None h = refl
is_none (Some a) h = absurd (true≢false h)

module _ (key : NameKey) (id : FunctionId) (is : key_id key ≡ id) (es : List (NameKey × ℕ)) (view : List Entry) (seen : entries_of es ≡ view) where
  pub found_by_key : (o : Option ℕ) → o ≡ lookup (is_key key) es → IsFound view id o
  found_by_key o e = rw (← seen, e) (IsFound-lookup id (is_key key) (is_key-exact key id is) es)

  pub present_by_key : (b : Bool) → b ≡ is_some (lookup (is_key key) es) → b ≡ true → Among id (ids view)
  present_by_key b e there = rw (← seen) (present id (is_key key) (is_key-exact key id is) es (sym e ∙ there))

  pub absent_by_key : (b : Bool) → b ≡ is_some (lookup (is_key key) es) → b ≡ false → Among id (ids view) → ⊥
  absent_by_key b e gone = rw (← seen) (absent id (is_key key) (is_key-exact key id is) es (is_none _ (sym e ∙ gone)))

  pub added_by_key : (n : ℕ) (new : List (NameKey × ℕ)) → new ≡ es ++ (key, n) ∷ [] → entries_of new ≡ view ++ (id, n) ∷ []
  added_by_key n new e = ap entries_of e ∙ entries_of-push es key n ∙ ap (λ (i : FunctionId). entries_of es ++ (i, n) ∷ []) is ∙ ap (λ v. v ++ (id, n) ∷ []) seen
