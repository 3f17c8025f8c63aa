-- What the map's look-ups say of the records in a table.
use Rattle.std.proofs.Common.{◌≡◌, ℕ, Bool, true, false, cond, List, [], ◌∷◌, ◌++◌, refl, sym, ap, ◌∙◌, subst, Option, Some, None, is_some, true≢false, Bor}
use Rattle.std.specs.Prelude.{if◌then◌else◌}
use Rattle.std.specs.Option.{option_copied}
use Rattle.std.specs.Map.{lookup}
use Rattle.std.specs.Str.{bytes_eq}
use Rattle.type_terms.specs.Keys.{Name, same_name}
use Rattle.type_terms.proofs.KeyLaws.{name-is}
use Rattle.erl_tree.specs.declared.form.RecDefKind.{RecDefKind}
use Rattle.erl_runs.specs.Records.{find_record}
use Rattle.erl_scope_faults.specs.Tables.{Declarations, AreNamed, declared_in, IsDeclaration}
use Rattle.erl_scope_faults.proofs.NamesCompared.{bytes-same, same-sym}

-- the test by which a name is looked up
abbrev pub is_under : Name → Bor (List ℕ) → Bool
is_under n k = bytes_eq n k.now

under-is : (n : Name) (k : Bor (List ℕ)) (m : Name) → k.now ≡ m → is_under n k ≡ same_name m n
under-is n k m e = ap (bytes_eq n) e ∙ bytes-same n m ∙ same-sym n m

pub found : (n : Name) (es : Declarations) → AreNamed es → option_copied (lookup (is_under n) es) ≡ find_record (declared_in es) n
found n [] h = refl
found n (e ∷ es) h = by (is_under n e.0) (same_name e.1.now.name n) (under-is n e.0 e.1.now.name h.0) (found n es h.1)
  where
    by : (a b : Bool) → a ≡ b → option_copied (lookup (is_under n) es) ≡ find_record (declared_in es) n → option_copied (cond a (Some e.1) (lookup (is_under n) es)) ≡ (if b then Some e.1.now else find_record (declared_in es) n)
    by true true p rest = refl
    by false false p rest = rest
    by true false p rest = absurd (true≢false p)
    by false true p rest = absurd (true≢false (sym p))

pub found-by : (n m : Name) (es : Declarations) (rs : List RecDefKind) (o : Option (Bor RecDefKind)) → n ≡ m → declared_in es ≡ rs → AreNamed es → o ≡ lookup (is_under n) es → option_copied o ≡ find_record rs m
found-by n m es rs o same view named is = ap option_copied is ∙ (found n es named ∙ (λ j. find_record (view j) (same j)))

-- a record that is there already changes nothing
some-copied : {A : Type 0} (o : Option (Bor A)) → is_some (option_copied o) ≡ is_some o
some-copied None = refl
some-copied (Some x) = refl

stays-front : (r : RecDefKind) (n : Name) (qs : List RecDefKind) → is_some (find_record qs n) ≡ true → find_record qs n ≡ find_record (qs ++ r ∷ []) n
stays-front r n [] h = absurd (true≢false (sym h))
stays-front r n (q ∷ qs) h = by (same_name q.name n) h (stays-front r n qs)
  where
    by : (b : Bool) → is_some (if b then Some q else find_record qs n) ≡ true → (is_some (find_record qs n) ≡ true → find_record qs n ≡ find_record (qs ++ r ∷ []) n) → (if b then Some q else find_record qs n) ≡ (if b then Some q else find_record (qs ++ r ∷ []) n)
    by true h later = refl
    by false h later = later h

stays-other : (r : RecDefKind) (n : Name) → same_name r.name n ≡ false → (qs : List RecDefKind) → find_record qs n ≡ find_record (qs ++ r ∷ []) n
stays-other r n differs [] = sym (ap (λ (b : Bool). if b then Some r else None) differs)
stays-other r n differs (q ∷ qs) = ap (λ o. if same_name q.name n then Some q else o) (stays-other r n differs qs)

stays : (rs : List RecDefKind) (r : RecDefKind) (n : Name) → is_some (find_record rs r.name) ≡ true → find_record rs n ≡ find_record (rs ++ r ∷ []) n
stays rs r n there = by (same_name r.name n) refl
  where
    by : (b : Bool) → same_name r.name n ≡ b → find_record rs n ≡ find_record (rs ++ r ∷ []) n
    by true is = stays-front r n rs (subst (λ (x : Name). is_some (find_record rs x) ≡ true) (name-is r.name n is) there)
    by false differs = stays-other r n differs rs

module _ (n : Name) (r : RecDefKind) (is : n ≡ r.name) (es : Declarations) (rs : List RecDefKind) (view : declared_in es ≡ rs) (named : AreNamed es) where
  pub there-already : (b : Bool) → b ≡ is_some (lookup (is_under n) es) → b ≡ true → IsDeclaration rs r rs
  there-already b e holds name = stays rs r name (sym (ap is_some (found-by n r.name es rs (lookup (is_under n) es) is view named refl)) ∙ (some-copied (lookup (is_under n) es) ∙ (sym e ∙ holds)))

  declared-push : (k : Bor (List ℕ)) (d : Bor RecDefKind) (ds : Declarations) → declared_in (ds ++ (k, d) ∷ []) ≡ declared_in ds ++ d.now ∷ []
  declared-push k d [] = refl
  declared-push k d (e ∷ ds) = ap (λ qs. e.1.now ∷ qs) (declared-push k d ds)

  pub one-more : (k : Bor (List ℕ)) (d : Bor RecDefKind) (new : Declarations) → d.now ≡ r → new ≡ es ++ (k, d) ∷ [] → IsDeclaration rs r (declared_in new)
  one-more k d new at e name = ap (λ qs. find_record qs name) (ap declared_in e ∙ (declared-push k d es ∙ (λ j. view j ++ at j ∷ [])))

named-push : (k : Bor (List ℕ)) (d : Bor RecDefKind) → k.now ≡ d.now.name → (ds : Declarations) → AreNamed ds → AreNamed (ds ++ (k, d) ∷ [])
named-push k d is [] h = (is, tt)
named-push k d is (e ∷ ds) h = (h.0, named-push k d is ds h.1)

pub named-more : (es new : Declarations) (k : Bor (List ℕ)) (d : Bor RecDefKind) → k.now ≡ d.now.name → AreNamed es → new ≡ es ++ (k, d) ∷ [] → AreNamed new
named-more es new k d is named e = subst AreNamed (sym e) (named-push k d is es named)

pub is-none : {A : Type 0} (o : Option A) (b : Bool) → b ≡ is_some o → b ≡ false → o ≡ None
is-none None b e h = refl
is-none (Some a) b e h = absurd (true≢false (sym e ∙ h))
