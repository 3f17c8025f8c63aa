-- What a map's look-ups and insertions say of the values by name.
use Rattle.std.proofs.Common.{◌≡◌, refl, sym, ap, ap₂, ◌∙◌, ℕ, arith, Bool, true, false, cond, ◌&&◌, List, [], ◌∷◌, nat_eq, Option, Some, option_map, true≢false}
use Rattle.std.specs.Map.{lookup}
use Rattle.std.specs.Str.{bytes_eq}
use Rattle.std.specs.declared.vec.Vec.{Vec}
use Rattle.std.specs.declared.alloc.Global.{Global}
use Rattle.std.proofs.lemmas.Bool.Decides.{nat_tests}
use Rattle.indexmap.specs.IndexMap.{insert_entry}
use Rattle.type_terms.specs.Keys.{Name, same_name}
use Rattle.type_terms.proofs.KeyLaws.{name-is, name-refl}
use Rattle.typespecs_terms.specs.Tables.{first_named}

bytes-same : (m n : Name) → bytes_eq m n ≡ same_name m n
bytes-same [] [] = refl
bytes-same [] (y ∷ n) = refl
bytes-same (x ∷ m) [] = refl
bytes-same (x ∷ m) (y ∷ n) = ap (λ b. nat_eq x y && b) (bytes-same m n)

eq-sym : (m n : ℕ) → nat_eq m n ≡ nat_eq n m
eq-sym m n = grind (arith, nat_tests)

same-sym : (m n : Name) → same_name m n ≡ same_name n m
same-sym [] [] = refl
same-sym [] (y ∷ n) = refl
same-sym (x ∷ m) [] = refl
same-sym (x ∷ m) (y ∷ n) = ap₂ ◌&&◌ (eq-sym x y) (same-sym m n)

abbrev pub Entries : Type 0 → Type 0
Entries A = List (Vec ℕ Global × A)

-- the tests by which names are looked up and inserted
abbrev pub is_under : Name → Vec ℕ Global → Bool
is_under n k = bytes_eq n k.items

abbrev pub is_key : Vec ℕ Global → Vec ℕ Global → Bool
is_key j k = bytes_eq j.items k.items

module _ {A : Type 0} where
  looked_up : (n : Name) (es : Entries A) → lookup (is_under n) es ≡ first_named es n
  looked_up n [] = refl
  looked_up n (e ∷ es) = (λ i. cond (bytes-same n e.0.items i) (Some e.1) (looked_up n es i)) ∙ ap (λ b. cond b (Some e.1) (first_named es n)) (same-sym n e.0.items)

  pub found : (n m : Name) (es : Entries A) → n ≡ m → lookup (is_under n) es ≡ first_named es m
  found n m es e = looked_up n es ∙ ap (first_named es) e

  inserted_key : (es : Entries A) (k : Vec ℕ Global) (v : A) (x : Name) → first_named (insert_entry is_key es k v) x ≡ cond (same_name k.items x) (Some v) (first_named es x)
  inserted_key [] k v x = refl
  inserted_key (e ∷ es) k v x = go (bytes_eq k.items e.0.items) refl (inserted_key es k v x)
    where
      replaced_first : (b : Bool) → cond b (Some v) (first_named es x) ≡ cond b (Some v) (cond b (Some e.1) (first_named es x))
      replaced_first true = refl
      replaced_first false = refl

      kept_first : (a b : Bool) → same_name e.0.items x ≡ a → same_name k.items x ≡ b → (a ≡ true → b ≡ true → ⊥) → first_named (insert_entry is_key es k v) x ≡ cond b (Some v) (first_named es x) → cond a (Some e.1) (first_named (insert_entry is_key es k v) x) ≡ cond b (Some v) (cond a (Some e.1) (first_named es x))
      kept_first true true p q apart later = absurd (apart refl refl)
      kept_first true false p q apart later = refl
      kept_first false true p q apart later = later
      kept_first false false p q apart later = later

      go : (c : Bool) → bytes_eq k.items e.0.items ≡ c → first_named (insert_entry is_key es k v) x ≡ cond (same_name k.items x) (Some v) (first_named es x) → first_named (cond c ((e.0, v) ∷ es) (e ∷ insert_entry is_key es k v)) x ≡ cond (same_name k.items x) (Some v) (cond (same_name e.0.items x) (Some e.1) (first_named es x))
      go true p later =
          let same : k.items ≡ e.0.items = name-is k.items e.0.items (sym (bytes-same k.items e.0.items) ∙ p) in
          replaced_first (same_name e.0.items x) ∙ ap (λ n. cond (same_name n x) (Some v) (cond (same_name e.0.items x) (Some e.1) (first_named es x))) (sym same)
      go false p later =
          kept_first (same_name e.0.items x) (same_name k.items x) refl refl (λ a b. apart (name-is e.0.items x a) (name-is k.items x b)) later
        where
          apart : e.0.items ≡ x → k.items ≡ x → ⊥
          apart a b = true≢false (sym (name-refl x) ∙ sym (bytes-same x x) ∙ ap₂ bytes_eq (sym b) (sym a) ∙ p)

  -- a value that is inserted under a name is the one of the name
  pub inserted_name : (es new : Entries A) (k : Vec ℕ Global) (v : A) (name : Name) → k.items ≡ name → new ≡ insert_entry is_key es k v → (x : Name) → first_named new x ≡ cond (same_name name x) (Some v) (first_named es x)
  inserted_name es new k v name is e x = ap (λ l. first_named l x) e ∙ inserted_key es k v x ∙ ap (λ n. cond (same_name n x) (Some v) (first_named es x)) is

pub map-cond : {A B : Type 0} (f : A → B) (b : Bool) (a : A) (o : Option A) → option_map f (cond b (Some a) o) ≡ cond b (Some (f a)) (option_map f o)
map-cond f true a o = refl
map-cond f false a o = refl
