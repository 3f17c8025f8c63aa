-- What look-ups in a table of functions say of the tests of definitions.
use Rattle.std.specs.Int.{FitsUnsigned}
use Rattle.std.proofs.Common.{w64, ◌≡◌, ℕ, ℤ, pos, negsuc, ◌<◌, ◌^◌, ◌<ℤ◌, ◌≤ℤ◌, Bool, true, false, ◌&&◌, ◌||◌, List, [], ◌∷◌, inl, inr, ◌⊎◌, refl, sym, ap, ap₂, ◌∙◌, subst, Option, Some, None, is_some, true≢false, nat_eq, arith}
use Rattle.std.specs.List.{list_any}
use Rattle.std.proofs.lemmas.Int.{ints, by_lt_z}
use Rattle.std.proofs.lemmas.Bool.Decides.{Decides-eqb}
use Rattle.type_terms.specs.Keys.{Name, same_name}
use Rattle.type_terms.proofs.KeyLaws.{name-is, name-refl}
use Rattle.erl_tree.specs.declared.form.RecDefKind.{RecDefKind}
use Rattle.erl_tree.specs.Lists.{Among}
use Rattle.erl_tree.specs.Functions.{FunctionId, of_function}
use Rattle.erl_runs.specs.Names.{same_id}
use Rattle.name_table.specs.Table.{Entry, ids, IsFound}
use Rattle.name_table.proofs.Lookups.{Among-ids}
use Rattle.erl_scope_rules.specs.ScopeFaults.{is_defined_at}
use Rattle.erl_scope_faults.specs.Bounds.{AreBounded}

both-true : (a b : Bool) → a ≡ true → b ≡ true → (a && b) ≡ true
both-true a b p q = ap₂ ◌&&◌ p q

pub same_id-itself : (f : FunctionId) → same_id f f ≡ true
same_id-itself f = both-true _ _ (name-refl f.name) ((Decides-eqb f.arity f.arity).1 refl)

pub same_id-is : (f g : FunctionId) → same_id f g ≡ true → f ≡ g
same_id-is f g h = by (same_name f.name g.name) refl (nat_eq f.arity g.arity) refl h
  where
    by : (a : Bool) → same_name f.name g.name ≡ a → (b : Bool) → nat_eq f.arity g.arity ≡ b → (a && b) ≡ true → f ≡ g
    by true p true q k = λ j. of_function (name-is f.name g.name p j) ((Decides-eqb f.arity g.arity).0 q j)
    by true p false q k = absurd (true≢false (sym k))
    by false p b q k = absurd (true≢false (sym k))

pub any-if-among : (f : FunctionId) (gs : List FunctionId) → Among f gs → list_any (same_id f) gs ≡ true
any-if-among f [] h = absurd h
any-if-among f (g ∷ gs) h = by (same_id f g) refl h (any-if-among f gs)
  where
    by : (b : Bool) → same_id f g ≡ b → Among f (g ∷ gs) → (Among f gs → list_any (same_id f) gs ≡ true) → (b || list_any (same_id f) gs) ≡ true
    by true p h later = refl
    by false p (inl e) later = absurd (true≢false (sym (same_id-itself f) ∙ (ap (same_id f) e ∙ p)))
    by false p (inr there) later = later there

pub among-if-any : (f : FunctionId) (gs : List FunctionId) → list_any (same_id f) gs ≡ true → Among f gs
among-if-any f [] h = absurd (true≢false (sym h))
among-if-any f (g ∷ gs) h = by (same_id f g) refl h (among-if-any f gs)
  where
    by : (b : Bool) → same_id f g ≡ b → (b || list_any (same_id f) gs) ≡ true → (list_any (same_id f) gs ≡ true → Among f gs) → Among f (g ∷ gs)
    by true p h later = inl (same_id-is f g p)
    by false p h later = inr (later h)

pub none-if-any : (f : FunctionId) (gs : List FunctionId) → (Among f gs → ⊥) → list_any (same_id f) gs ≡ false
none-if-any f gs h = by (list_any (same_id f) gs) refl
  where
    by : (b : Bool) → list_any (same_id f) gs ≡ b → list_any (same_id f) gs ≡ false
    by true p = absurd (h (among-if-any f gs p))
    by false p = p

-- the answer of a look-up
pub found-any : (es : List Entry) (f : FunctionId) (o : Option ℕ) (b : Bool) → b ≡ is_some o → IsFound es f o → b ≡ list_any (same_id f) (ids es)
found-any es f (Some n) b e h = e ∙ sym (any-if-among f (ids es) (Among-ids f n es h))
found-any es f None b e h = e ∙ sym (none-if-any f (ids es) h)

-- an arity beyond the machine's numbers
pub unfit : (functions : List FunctionId) (records : List RecDefKind) (name : Name) (n : ℤ) → AreBounded functions → ((n <ℤ pos 0) ⊎ (pos (2 ^ 64) ≤ℤ n)) → false ≡ is_defined_at functions records name n
unfit functions records name (negsuc n) bounded h = refl
unfit functions records name (pos n) bounded h = sym (none-if-any (of_function name n) functions (λ there. far h (bounded (of_function name n) there)))
  where
    far : ((pos n <ℤ pos 0) ⊎ (pos (2 ^ 64) ≤ℤ pos n)) → n < 2 ^ 64 → ⊥
    far (inl low) l = omega (arith, ints)
    far (inr high) l = omega (arith, ints)

-- what doesn't fit
pub beyond : (n m : ℤ) → m ≡ n → (FitsUnsigned w64 m → ⊥) → (n <ℤ pos 0) ⊎ (pos (2 ^ 64) ≤ℤ n)
beyond n m e h = by_lt_z {P = (n <ℤ pos 0) ⊎ (pos (2 ^ 64) ≤ℤ n)} n (pos 0) (λ low. inl low) (λ high. by_lt_z {P = (n <ℤ pos 0) ⊎ (pos (2 ^ 64) ≤ℤ n)} n (pos (2 ^ 64)) (λ fits. absurd (h (subst (FitsUnsigned w64) (sym e) (high, fits)))) (λ over. inr over))
