-- A table of signs with one row changed.
use Rattle.std.proofs.Common.{◌≡◌, refl, sym, ◌∙◌, ap, subst, ℕ, zero, suc, List, [], ◌∷◌, length, get_or, replicate, Bool, true, false, ◌⊎◌, inl, inr, ⊎_elim}
use Rattle.std.specs.Prelude.{Some, slice_get, slice_set, not}
use Rattle.std.proofs.lemmas.List.{length-set}
use Rattle.type_terms.specs.declared.sign_search.DefSigns.{DefSigns}
use Rattle.type_terms.specs.declared.sign_search.Sought.TheVariants.{Funs, Variable}
use Rattle.type_terms.specs.declared.term.Def.{Def}
use Rattle.type_terms.specs.SignTables.{no_signs, fun_signs, variable_signs, has_sign, signs_in, Covers, IsRow, SoughtStands, IsTableOf, empty_row}
use Rattle.type_terms.proofs.SignParts.{Has, Sign, has-none}
use Rattle.type_terms.proofs.SignMeaning.{signs-sound}

pub some-inj : {X : Type 0} (x y : X) → Some x ≡ Some y → x ≡ y
some-inj x y e = cc

set-row : (table : List DefSigns) (n : ℕ) (row : DefSigns) (m : ℕ) → (slice_get (slice_set table n row) m ≡ slice_get table m) ⊎ ((m ≡ n) × (slice_get (slice_set table n row) m ≡ Some row))
set-row [] n row m = inl refl
set-row (r ∷ rs) zero row zero = inr (refl, refl)
set-row (r ∷ rs) zero row (suc m) = inl refl
set-row (r ∷ rs) (suc n) row zero = inl refl
set-row (r ∷ rs) (suc n) row (suc m) = ⊎_elim (λ (e : slice_get (slice_set rs n row) m ≡ slice_get rs m). inl e) (λ (q : (m ≡ n) × (slice_get (slice_set rs n row) m ≡ Some row)). inr (ap suc q.0, q.1)) (set-row rs n row m)

-- a row that says of its body what the table does
module _ (defs : List Def) (table : List DefSigns) (is : IsTableOf defs table) (n : ℕ) (def : Def) (row : DefSigns) (d : slice_get defs n ≡ Some def) (funs : row.funs ≡ signs_in table Funs def.body) (parameters : (i : ℕ) → get_or row.parameters i no_signs ≡ signs_in table (Variable i) def.body) where
  new-fun : (odd : Bool) → has_sign odd row.funs ≡ true → (def' : Def) × (slice_get defs n ≡ Some def') × SoughtStands defs Funs odd def'.body
  unfolding Sign Has
  new-fun odd h = (def, d, signs-sound defs table is.stand Funs odd def.body (subst (λ s. has_sign odd s ≡ true) funs h))

  new-parameter : (i : ℕ) (odd : Bool) → has_sign odd (get_or row.parameters i no_signs) ≡ true → (def' : Def) × (slice_get defs n ≡ Some def') × SoughtStands defs (Variable i) odd def'.body
  unfolding Sign Has
  new-parameter i odd h = (def, d, signs-sound defs table is.stand (Variable i) odd def.body (subst (λ s. has_sign odd s ≡ true) (parameters i) h))

  pub set-table : IsTableOf defs (slice_set table n row)
  set-table = record {
    rows = length-set table n row ∙ is.rows;
    stand = record {
      of_funs = λ m odd h.
          ⊎_elim (λ (k : slice_get (slice_set table n row) m ≡ slice_get table m). is.stand.of_funs m odd (subst (λ o. has_sign odd (fun_signs o) ≡ true) k h))
          (λ (k : (m ≡ n) × (slice_get (slice_set table n row) m ≡ Some row)). subst (λ x. (def' : Def) × (slice_get defs x ≡ Some def') × SoughtStands defs Funs odd def'.body) (sym k.0) (new-fun odd (subst (λ o. has_sign odd (fun_signs o) ≡ true) k.1 h)))
          (set-row table n row m);
      of_parameters = λ m i odd h.
          ⊎_elim (λ (k : slice_get (slice_set table n row) m ≡ slice_get table m). is.stand.of_parameters m i odd (subst (λ o. has_sign odd (variable_signs o i) ≡ true) k h))
          (λ (k : (m ≡ n) × (slice_get (slice_set table n row) m ≡ Some row)). subst (λ x. (def' : Def) × (slice_get defs x ≡ Some def') × SoughtStands defs (Variable i) odd def'.body) (sym k.0) (new-parameter i odd (subst (λ o. has_sign odd (variable_signs o i) ≡ true) k.1 h)))
          (set-row table n row m);
    };
  }

-- a row that has each sign of one that says of its body what the table does
pub covering-row : (table : List DefSigns) (def : Def) (row found : DefSigns) → found.funs ≡ signs_in table Funs def.body → ((i : ℕ) → get_or found.parameters i no_signs ≡ signs_in table (Variable i) def.body) → Covers row.funs found.funs → ((i : ℕ) → Covers (get_or row.parameters i no_signs) (get_or found.parameters i no_signs)) → IsRow table def row
covering-row table def row found funs parameters p q = record {
  of_funs = subst (Covers row.funs) funs p;
  of_parameters = λ i. subst (Covers (get_or row.parameters i no_signs)) (parameters i) (q i);
}

pub not-false : (b : Bool) → not b ≡ false → b ≡ true
not-false true e = refl
not-false false e = absurd (cc)

length-replicate : (n : ℕ) → length (replicate n empty_row) ≡ n
length-replicate zero = refl
length-replicate (suc n) = ap suc (length-replicate n)

empty-funs : (count n : ℕ) → fun_signs (slice_get (replicate count empty_row) n) ≡ no_signs
empty-funs zero n = refl
empty-funs (suc count) zero = refl
empty-funs (suc count) (suc n) = empty-funs count n

empty-parameters : (count n i : ℕ) → variable_signs (slice_get (replicate count empty_row) n) i ≡ no_signs
empty-parameters zero n i = refl
empty-parameters (suc count) zero i = refl
empty-parameters (suc count) (suc n) i = empty-parameters count n i

pub empty-table : (defs : List Def) → IsTableOf defs (replicate (length defs) empty_row)
unfolding Has
empty-table defs = record {
  rows = length-replicate (length defs);
  stand = record {
    of_funs = λ n odd h. has-none odd (subst (λ s. has_sign odd s ≡ true) (empty-funs (length defs) n) h);
    of_parameters = λ n i odd h. has-none odd (subst (λ s. has_sign odd s ≡ true) (empty-parameters (length defs) n i) h);
  };
}
