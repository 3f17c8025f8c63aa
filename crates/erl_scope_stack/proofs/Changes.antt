-- What is kept stays right through each change of the lists.
use Rattle.std.proofs.Common.{◌≡◌, ℕ, suc, ◌+◌, ◌-◌, ◌<◌, Bool, true, false, cond, nat_eq, List, [], ◌∷◌, ◌++◌, length, take, get_or, Option, Some, refl, sym, ap, ◌∙◌, subst, arith}
use Rattle.std.proofs.lemmas.Bool.{eqb-true}
use Rattle.erl_tree.specs.Lists.{Every}
use Rattle.type_terms.specs.Keys.{Name}
use Rattle.erl_scope_stack.specs.declared.entries.Seen.{Seen}
use Rattle.erl_scope_stack.specs.declared.entries.NameState.{NameState}
use Rattle.erl_scope_stack.specs.Stored.{place_by_role}
use Rattle.erl_scope_stack.specs.Indexed.{stack, top_of, place_in, count_in, state_of, AreLinked, AreIndexed, IsChangedAt, counted_up, counted_down, with_top}
use Rattle.erl_scope_stack.proofs.LatestFirst.{latest_first-push, length-latest_first}
use Rattle.erl_scope_stack.proofs.StackLaws.{Every-take}

pushed : {A : Type 0} (xs : List A) (x : A) → stack (xs ++ x ∷ []) ≡ x ∷ stack xs
pushed {A} xs x = latest_first-push (λ (x : A). x) xs x

module _ (ns : List Name) (sts new : List NameState) (es : List Seen) (bs cs : List ℕ) where
  -- a name ended
  pub indexed-ended : AreIndexed ns sts es bs cs → (n : ℕ) → n < length ns → IsChangedAt n counted_up sts new → AreIndexed ns new es (bs ++ n ∷ []) cs
  indexed-ended h n inside ch = record {
    one_number = h.one_number;
    room = omega (arith, h.room, ch.same_length);
    seen_named = h.seen_named;
    behind_named = subst (Every (λ (m : ℕ). m < length ns)) (sym (pushed bs n)) (inside, h.behind_named);
    beside_named = h.beside_named;
    linked = h.linked;
    kept = λ i s below. kept i s below;
  }
    where
      by : (i : ℕ) (b : Bool) → cond b (counted_up (state_of i (stack es) (stack bs))) (state_of i (stack es) (stack bs)) ≡ record { top = top_of i (stack es); ended = cond b (suc (count_in i (stack bs))) (count_in i (stack bs)) }
      by i true = let e : count_in i (stack bs) + 1 ≡ suc (count_in i (stack bs)) = omega arith in ap (λ (k : ℕ). record { top = top_of i (stack es); ended = k }) e
      by i false = refl

      kept : (i : ℕ) (s : NameState) → i < length new → get_or new i s ≡ state_of i (stack es) (stack (bs ++ n ∷ []))
      kept i s below =
          let l : i < length sts = omega (arith, ch.same_length) in
          ch.changed i s l ∙ ap (λ t. cond (nat_eq i n) (counted_up t) t) (h.kept i s l) ∙ by i (nat_eq i n) ∙ ap (state_of i (stack es)) (sym (pushed bs n))

  -- a name that ended is forgotten
  pub indexed-unended : (n : ℕ) → AreIndexed ns sts es (bs ++ n ∷ []) cs → IsChangedAt n counted_down sts new → AreIndexed ns new es bs cs
  indexed-unended n h ch = record {
    one_number = h.one_number;
    room = omega (arith, h.room, ch.same_length);
    seen_named = h.seen_named;
    behind_named = (subst (Every (λ (m : ℕ). m < length ns)) (pushed bs n) h.behind_named).1;
    beside_named = h.beside_named;
    linked = h.linked;
    kept = λ i s below. kept i s below;
  }
    where
      by : (i : ℕ) (b : Bool) → cond b (counted_down (record { top = top_of i (stack es); ended = cond b (suc (count_in i (stack bs))) (count_in i (stack bs)) })) (record { top = top_of i (stack es); ended = cond b (suc (count_in i (stack bs))) (count_in i (stack bs)) }) ≡ state_of i (stack es) (stack bs)
      by i true = let e : suc (count_in i (stack bs)) - 1 ≡ count_in i (stack bs) = omega arith in ap (λ (k : ℕ). record { top = top_of i (stack es); ended = k }) e
      by i false = refl

      kept : (i : ℕ) (s : NameState) → i < length new → get_or new i s ≡ state_of i (stack es) (stack bs)
      kept i s below =
          let l : i < length sts = omega (arith, ch.same_length) in
          ch.changed i s l ∙ ap (λ t. cond (nat_eq i n) (counted_down t) t) (h.kept i s l ∙ ap (state_of i (stack es)) (pushed bs n)) ∙ by i (nat_eq i n)

  -- one more variable is seen
  pub indexed-seen : AreIndexed ns sts es bs cs → (e : Seen) → e.name < length ns → e.below ≡ top_of e.name (stack es) → e.binding ≡ place_by_role e.role e.place (place_in e.name (stack es)) → IsChangedAt e.name (with_top (Some (length es))) sts new → AreIndexed ns new (es ++ e ∷ []) bs cs
  indexed-seen h e inside below binding ch = record {
    one_number = h.one_number;
    room = omega (arith, h.room, ch.same_length);
    seen_named = subst (Every (λ (x : Seen). x.name < length ns)) (sym (pushed es e)) (inside, h.seen_named);
    behind_named = h.behind_named;
    beside_named = h.beside_named;
    linked = subst AreLinked (sym (pushed es e)) (below, binding, h.linked);
    kept = λ i s below. kept i s below;
  }
    where
      by : (i : ℕ) (b : Bool) → cond b (with_top (Some (length es)) (state_of i (stack es) (stack bs))) (state_of i (stack es) (stack bs)) ≡ record { top = cond b (Some (length (stack es))) (top_of i (stack es)); ended = count_in i (stack bs) }
      by i true = ap (λ (k : ℕ). record { top = Some k; ended = count_in i (stack bs) }) (sym (length-latest_first (λ (x : Seen). x) es))
      by i false = refl

      kept : (i : ℕ) (s : NameState) → i < length new → get_or new i s ≡ state_of i (stack (es ++ e ∷ [])) (stack bs)
      kept i s below =
          let l : i < length sts = omega (arith, ch.same_length) in
          ch.changed i s l ∙ ap (λ t. cond (nat_eq i e.name) (with_top (Some (length es)) t) t) (h.kept i s l) ∙ by i (nat_eq i e.name) ∙ ap (λ xs. state_of i xs (stack bs)) (sym (pushed es e))

  -- a variable is forgotten
  pub indexed-unseen : (e : Seen) → AreIndexed ns sts (es ++ e ∷ []) bs cs → IsChangedAt e.name (with_top e.below) sts new → AreIndexed ns new es bs cs
  indexed-unseen e h ch = record {
    one_number = h.one_number;
    room = omega (arith, h.room, ch.same_length);
    seen_named = (subst (Every (λ (x : Seen). x.name < length ns)) (pushed es e) h.seen_named).1;
    behind_named = h.behind_named;
    beside_named = h.beside_named;
    linked = (subst AreLinked (pushed es e) h.linked).2;
    kept = λ i s below. kept i s below;
  }
    where
      below_is : e.below ≡ top_of e.name (stack es)
      below_is = (subst AreLinked (pushed es e) h.linked).0

      by : (i : ℕ) (b : Bool) → nat_eq i e.name ≡ b → cond b (with_top e.below (record { top = cond b (Some (length (stack es))) (top_of i (stack es)); ended = count_in i (stack bs) })) (record { top = cond b (Some (length (stack es))) (top_of i (stack es)); ended = count_in i (stack bs) }) ≡ state_of i (stack es) (stack bs)
      by i true p = ap (λ (t : Option ℕ). record { top = t; ended = count_in i (stack bs) }) (below_is ∙ ap (λ (m : ℕ). top_of m (stack es)) (sym (eqb-true i e.name p)))
      by i false p = refl

      kept : (i : ℕ) (s : NameState) → i < length new → get_or new i s ≡ state_of i (stack es) (stack bs)
      kept i s below =
          let l : i < length sts = omega (arith, ch.same_length) in
          ch.changed i s l ∙ ap (λ t. cond (nat_eq i e.name) (with_top e.below t) t) (h.kept i s l ∙ ap (λ xs. state_of i xs (stack bs)) (pushed es e)) ∙ by i (nat_eq i e.name) refl

module _ (ns : List Name) (sts : List NameState) (es : List Seen) (bs cs : List ℕ) where
  -- a name is set aside
  pub indexed-aside : AreIndexed ns sts es bs cs → (n : ℕ) → n < length ns → AreIndexed ns sts es bs (cs ++ n ∷ [])
  indexed-aside h n inside = record { one_number = h.one_number; room = h.room; seen_named = h.seen_named; behind_named = h.behind_named; beside_named = subst (Every (λ (m : ℕ). m < length ns)) (sym (pushed cs n)) (inside, h.beside_named); linked = h.linked; kept = h.kept }

  -- names that were set aside are forgotten
  pub indexed-truncated : AreIndexed ns sts es bs cs → (n : ℕ) → AreIndexed ns sts es bs (take n cs)
  indexed-truncated h n = record { one_number = h.one_number; room = h.room; seen_named = h.seen_named; behind_named = h.behind_named; beside_named = Every-take (λ (m : ℕ). m < length ns) cs n h.beside_named; linked = h.linked; kept = h.kept }
