-- What a caller cites of a look-up.
use Rattle.std.proofs.Common.{◌≡◌, ℕ, List, [], ◌∷◌, inl, inr, sym, ap, ◌∙◌, subst, Option, Some, None}
use Rattle.erl_tree.specs.Lists.{Among, AreDistinct}
use Rattle.erl_tree.specs.Functions.{FunctionId}
use Rattle.name_table.specs.Table.{Entry, ids, IsFound}
use Rattle.name_table.proofs.Lookups.{Among-ids}

-- a function has one number
pub same_number : (es : List Entry) (id : FunctionId) (m n : ℕ) → AreDistinct (ids es) → Among (id, m) es → Among (id, n) es → m ≡ n
same_number [] id m n distinct there here = absurd there
same_number (e ∷ es) id m n distinct there here =
    elim there [
      | inl p ↦ elim here [
        | inl q ↦ ap (λ (x : Entry). x.1) (p ∙ sym q)
        | inr q ↦ absurd (distinct.0 (subst (λ (i : FunctionId). Among i (ids es)) (ap (λ (x : Entry). x.0) p) (Among-ids id n es q)))
      ]
      | inr p ↦ elim here [
        | inl q ↦ absurd (distinct.0 (subst (λ (i : FunctionId). Among i (ids es)) (ap (λ (x : Entry). x.0) q) (Among-ids id m es p)))
        | inr q ↦ same_number es id m n distinct.1 p q
      ]
    ]

-- so a look-up finds the number of each entry
pub IsFound-entry : (es : List Entry) (id : FunctionId) (n : ℕ) (o : Option ℕ) → AreDistinct (ids es) → Among (id, n) es → IsFound es id o → o ≡ Some n
IsFound-entry es id n (Some m) distinct there found = ap Some (same_number es id m n distinct found there)
IsFound-entry es id n None distinct there found = absurd (found (Among-ids id n es there))
