-- What the map's look-ups say of the entries of a table.
use Rattle.std.proofs.Common.{◌≡◌, ℕ, Bool, true, false, cond, ◌&&◌, eqb, List, [], ◌∷◌, ◌++◌, refl, sym, ap, ◌∙◌, subst, Option, Some, None, is_some, true≢false}
use Rattle.std.specs.Map.{lookup}
use Rattle.std.specs.Option.{option_or}
use Rattle.erl_tree.specs.declared.token.Place.{Place}
use Rattle.erl_scope_rules.specs.Bindings.{same_place}
use Rattle.erl_scope_numbers.specs.declared.place_numbers.PlaceKey.{PlaceKey}
use Rattle.erl_scope_numbers.specs.Entries.{key_place, entry_of, entries_of}
use Rattle.erl_scope_numbers.specs.Table.{Entry, entry_at}
use Rattle.erl_scope_numbers.proofs.Places.{same_place-Decides, same_place-symmetric}

-- the test by which a key is looked up
abbrev pub is_key : PlaceKey → PlaceKey → Bool
is_key k j = eqb k.line j.line && eqb k.column j.column

-- the map's look-up of a key is the table's of its place
pub lookup-entries_of : (k : PlaceKey) (es : List (PlaceKey × Option ℕ)) → lookup (is_key k) es ≡ entry_at (key_place k) (entries_of es)
lookup-entries_of k [] = refl
lookup-entries_of k (e ∷ es) = λ i. cond (same_place-symmetric (key_place k) (key_place e.0) i) (Some e.1) (lookup-entries_of k es i)

-- one more entry at the end counts where its place has none before
pub entry_at-push : (place : Place) (es : List Entry) (e : Entry) → entry_at place (es ++ e ∷ []) ≡ option_or (entry_at place es) (cond (same_place e.0 place) (Some e.1) None)
entry_at-push place [] e = refl
entry_at-push place (d ∷ es) e = by (same_place d.0 place) (entry_at-push place es e)
  where
    by : (b : Bool) → entry_at place (es ++ e ∷ []) ≡ option_or (entry_at place es) (cond (same_place e.0 place) (Some e.1) None) → cond b (Some d.1) (entry_at place (es ++ e ∷ [])) ≡ option_or (cond b (Some d.1) (entry_at place es)) (cond (same_place e.0 place) (Some e.1) None)
    by true h = refl
    by false h = h

-- so an entry of a place that is listed already changes nothing
pub entry_at-again : (place : Place) (n : Option ℕ) (es : List Entry) → is_some (entry_at place es) ≡ true → (at : Place) → entry_at at es ≡ entry_at at (es ++ (place, n) ∷ [])
entry_at-again place n es there at = by (same_place place at) refl ∙ sym (entry_at-push at es (place, n))
  where
    kept : (o : Option (Option ℕ)) (p : Option (Option ℕ)) → is_some o ≡ true → o ≡ option_or o p
    kept None p some = absurd (true≢false (sym some))
    kept (Some x) p some = refl

    unlisted : (o : Option (Option ℕ)) → o ≡ option_or o None
    unlisted None = refl
    unlisted (Some x) = refl

    by : (b : Bool) → same_place place at ≡ b → entry_at at es ≡ option_or (entry_at at es) (cond b (Some n) None)
    by true e = kept _ _ (subst (λ (p : Place). is_some (entry_at p es) ≡ true) ((same_place-Decides place at).0 e) there)
    by false e = unlisted _

-- one more entry in the map is one more in the table
pub entries_of-push : (es : List (PlaceKey × Option ℕ)) (k : PlaceKey) (n : Option ℕ) → entries_of (es ++ (k, n) ∷ []) ≡ entries_of es ++ (key_place k, n) ∷ []
entries_of-push [] k n = refl
entries_of-push (e ∷ es) k n = ap (λ rest. entry_of e ∷ rest) (entries_of-push es k n)

-- what the calls of a map say, where its entries are seen as these and the key as this place
module _ (key : PlaceKey) (place : Place) (is : key_place key ≡ place) (es : List (PlaceKey × Option ℕ)) (view : List Entry) (seen : entries_of es ≡ view) where
  pub entry_by_key : lookup (is_key key) es ≡ entry_at place view
  entry_by_key = lookup-entries_of key es ∙ (λ i. entry_at (is i) (seen i))

  pub listed_by_key : (b : Bool) (n : Option ℕ) → b ≡ is_some (lookup (is_key key) es) → b ≡ true → (at : Place) → entry_at at view ≡ entry_at at (view ++ (place, n) ∷ [])
  listed_by_key b n e there = entry_at-again place n view (sym (ap is_some entry_by_key) ∙ sym e ∙ there)

  pub added_by_key : (n : Option ℕ) (new : List (PlaceKey × Option ℕ)) → new ≡ es ++ (key, n) ∷ [] → entries_of new ≡ view ++ (place, n) ∷ []
  added_by_key n new e = ap entries_of e ∙ entries_of-push es key n ∙ (λ i. seen i ++ (is i, n) ∷ [])

-- a map in which a look-up finds nothing
pub is_none : {A : Type 0} (o : Option A) → is_some o ≡ false → o ≡ None
is_none None h = refl
is_none (Some a) h = absurd (true≢false h)
