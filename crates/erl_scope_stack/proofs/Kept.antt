-- New names and room for them change nothing of what is kept, and nothing of what the lists stand for.
use Rattle.std.proofs.Common.{◌≡◌, ℕ, suc, ◌+◌, ◌<◌, ◌≤◌, ◌^◌, Bool, true, false, cond, nat_eq, List, [], ◌∷◌, ◌++◌, inl, inr, length, map, get_or, None, refl, sym, ap, ◌∙◌, subst, arith}
use Rattle.std.proofs.lemmas.List.{get_or_append_left, get_or_push, length-append}
use Rattle.std.proofs.lemmas.Bool.{eqb-true}
use Rattle.std.proofs.lemmas.Bool.Decides.{nat_tests}
use Rattle.erl_tree.specs.Lists.{Every}
use Rattle.type_terms.specs.Keys.{Name}
use Rattle.erl_scope_stack.specs.declared.entries.Seen.{Seen}
use Rattle.erl_scope_stack.specs.declared.entries.NameState.{NameState}
use Rattle.erl_scope_stack.specs.Named.{name_at, IsGrown}
use Rattle.erl_scope_stack.specs.Stored.{latest_first, mark_of, stored}
use Rattle.erl_scope_stack.specs.Indexed.{stack, count_in, state_of, AreIndexed, IsRoomier, IsCountable, IsCounted}
use Rattle.erl_scope_stack.proofs.LatestFirst.{length-latest_first, latest_first-push}
use Rattle.erl_scope_stack.proofs.TableLaws.{length-grown, name_at-grown, one_number-grown}
use Rattle.erl_scope_stack.proofs.StackLaws.{Every-weaker, latest_first-map, top_of-none, count_in-none, count_in-most}

abbrev fresh : NameState
fresh = record { top = None; ended = 0 }

module _ (ns : List Name) (sts : List NameState) (es : List Seen) (bs cs : List ℕ) (h : AreIndexed ns sts es bs cs) where
  room-pushed : AreIndexed ns (sts ++ fresh ∷ []) es bs cs
  room-pushed = record {
    one_number = h.one_number;
    room = omega (arith, h.room, long);
    seen_named = h.seen_named;
    behind_named = h.behind_named;
    beside_named = h.beside_named;
    linked = h.linked;
    kept = λ i s below. by i s below (nat_eq i (length sts)) refl;
  }
    where
      long : length (sts ++ fresh ∷ []) ≡ length sts + 1
      long = length-append sts (fresh ∷ [])

      by : (i : ℕ) (s : NameState) → i < length (sts ++ fresh ∷ []) → (b : Bool) → nat_eq i (length sts) ≡ b → get_or (sts ++ fresh ∷ []) i s ≡ state_of i (stack es) (stack bs)
      by i s below true p =
          let e : i ≡ length sts = eqb-true i (length sts) p in
          let l : length ns ≤ i = omega (arith, h.room) in
          get_or_push sts fresh s i (sym e) ∙ sym ((λ j. record { top = top_of-none i (length ns) (stack es) l h.seen_named j; ended = count_in-none i (length ns) (stack bs) l h.behind_named j }))
      by i s below false p = let l : i < length sts = grind (arith, nat_tests, long) in get_or_append_left sts (fresh ∷ []) s i l ∙ h.kept i s l

  pub indexed-roomier : (new : List NameState) → IsRoomier sts new → AreIndexed ns new es bs cs
  indexed-roomier new g = elim g [ inl e ↦ subst (λ (xs : List NameState). AreIndexed ns xs es bs cs) (sym e) h | inr e ↦ subst (λ (xs : List NameState). AreIndexed ns xs es bs cs) (sym e) room-pushed ]

  pub indexed-grown : (x : Name) (new : List Name) → IsGrown x ns new → length new ≤ length sts → AreIndexed new sts es bs cs
  indexed-grown x new g room =
      let more = length-grown x ns new g in
      record {
        one_number = one_number-grown x ns new g h.one_number;
        room = room;
        seen_named = Every-weaker (λ (e : Seen). e.name < length ns) (λ (e : Seen). e.name < length new) (λ e l. omega (arith, l, more)) (stack es) h.seen_named;
        behind_named = Every-weaker (λ (n : ℕ). n < length ns) (λ (n : ℕ). n < length new) (λ n l. omega (arith, l, more)) (stack bs) h.behind_named;
        beside_named = Every-weaker (λ (n : ℕ). n < length ns) (λ (n : ℕ). n < length new) (λ n l. omega (arith, l, more)) (stack cs) h.beside_named;
        linked = h.linked;
        kept = h.kept;
      }

  -- there is room to count up, and something to count down
  pub countable : (n : ℕ) → n < length ns → length bs < 2 ^ 63 → IsCountable sts n
  countable n inside small s =
      let l : n < length sts = omega (arith, h.room) in
      let e : (get_or sts n s).ended ≡ count_in n (stack bs) = ap (λ (t : NameState). t.ended) (h.kept n s l) in
      omega (arith, count_in-most n (stack bs), length-latest_first (λ (x : ℕ). x) bs)

same_map : {A B : Type 0} (P : A → Type 0) (f g : A → B) → ((x : A) → P x → f x ≡ g x) → (xs : List A) → Every P xs → map f xs ≡ map g xs
same_map P f g same [] h = refl
same_map P f g same (x ∷ xs) h = λ j. same x h.0 j ∷ same_map P f g same xs h.1 j

same_stored : {A B : Type 0} (P : A → Type 0) (f g : A → B) → ((x : A) → P x → f x ≡ g x) → (xs : List A) → Every P (stack xs) → latest_first f xs ≡ latest_first g xs
same_stored P f g same xs h = latest_first-map f xs ∙ same_map P f g same (stack xs) h ∙ sym (latest_first-map g xs)

-- names that were there keep their numbers, so the lists stand for the same
pub stored-grown : (ns : List Name) (sts : List NameState) (es : List Seen) (bs cs : List ℕ) → AreIndexed ns sts es bs cs → (x : Name) (new : List Name) → IsGrown x ns new → stored new es bs cs ≡ stored ns es bs cs
stored-grown ns sts es bs cs h x new g =
    let sees = same_stored (λ (e : Seen). e.name < length ns) (mark_of new) (mark_of ns) (λ e l. ap (λ (n : Name). record { name = n; place = e.place; role = e.role }) (name_at-grown x ns new g e.name l)) es h.seen_named in
    let ended = same_stored (λ (n : ℕ). n < length ns) (name_at new) (name_at ns) (λ n l. name_at-grown x ns new g n l) bs h.behind_named in
    let aside = same_stored (λ (n : ℕ). n < length ns) (name_at new) (name_at ns) (λ n l. name_at-grown x ns new g n l) cs h.beside_named in
    λ j. record { sees = sees j; ended = ended j; aside = aside j }

pub counted : (ns : List Name) (sts : List NameState) (es : List Seen) (bs cs : List ℕ) (n : ℕ) → AreIndexed ns sts es (bs ++ n ∷ []) cs → n < length sts → IsCounted sts n
counted ns sts es bs cs n h inside s =
    let e : get_or sts n s ≡ state_of n (stack es) (n ∷ stack bs) = h.kept n s inside ∙ ap (state_of n (stack es)) (latest_first-push (λ (x : ℕ). x) bs n) in
    let f : (get_or sts n s).ended ≡ cond (nat_eq n n) (suc (count_in n (stack bs))) (count_in n (stack bs)) = ap (λ (t : NameState). t.ended) e in
    by (nat_eq n n) refl f
  where
    by : (b : Bool) → nat_eq n n ≡ b → (get_or sts n s).ended ≡ cond b (suc (count_in n (stack bs))) (count_in n (stack bs)) → 0 < (get_or sts n s).ended
    by true p f = omega arith
    by false p f = absurd (grind (arith, nat_tests))
