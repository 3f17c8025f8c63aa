-- What the state becomes where a name is stored, and what a place of a list holds.
use Rattle.std.proofs.Common.{◌≡◌, ℕ, ◌+◌, ◌<◌, List, [], ◌∷◌, ◌++◌, length, get_or, drop, sym, ap, ◌∙◌, subst, Vec, Global, arith}
use Rattle.std.specs.Vec.{with_items}
use Rattle.std.proofs.lemmas.List.{with_items_is}
use Rattle.type_terms.specs.Keys.{Name}
use Rattle.erl_scope_rules.specs.Occurrences.{Mark, names_of}
use Rattle.erl_scope_stack.specs.declared.entries.Seen.{Seen}
use Rattle.erl_scope_stack.specs.declared.entries.NameState.{NameState}
use Rattle.erl_scope_stack.specs.Between.{between}
use Rattle.erl_scope_stack.specs.State.{State}
use Rattle.erl_scope_stack.specs.Named.{name_at}
use Rattle.erl_scope_stack.specs.Stored.{latest_first, mark_of, stored}
use Rattle.erl_scope_stack.specs.Indexed.{AreIndexed, IsChangedAt, counted_up, counted_down, with_top}
use Rattle.erl_scope_stack.proofs.LatestFirst.{latest_first-push, length-latest_first, between-read}
use Rattle.erl_scope_stack.proofs.Changes.{indexed-ended, indexed-unended, indexed-unseen}

-- one more name that ended, or is set aside
abbrev pub with_ended : (State → List Name) → State → State
with_ended one s = record { sees = s.sees; ended = one s ++ s.ended; aside = s.aside }

abbrev pub with_aside : (State → List Name) → State → State
with_aside one s = record { sees = s.sees; ended = s.ended; aside = one s ++ s.aside }

module _ (ns : List Name) (es : List Seen) (bs cs : List ℕ) (s : State) (view : stored ns es bs cs ≡ s) where
  pub size-seen : length s.sees ≡ length es
  size-seen = ap (λ (t : State). length t.sees) (sym view) ∙ length-latest_first (mark_of ns) es

  pub size-ended : length s.ended ≡ length bs
  size-ended = ap (λ (t : State). length t.ended) (sym view) ∙ length-latest_first (name_at ns) bs

  pub size-aside : length s.aside ≡ length cs
  size-aside = ap (λ (t : State). length t.aside) (sym view) ∙ length-latest_first (name_at ns) cs

  pub read-seen : (at : ℕ) (e : Seen) → at < length s.sees → e ≡ get_or es at e → names_of (between at (at + 1) s.sees) ≡ name_at ns e.name ∷ []
  read-seen at e h read = let l : at < length es = omega (arith, size-seen) in ap (λ (t : State). names_of (between at (at + 1) t.sees)) (sym view) ∙ ap names_of (between-read (mark_of ns) at es e l read)

  pub read-ended : (at n : ℕ) → at < length s.ended → n ≡ get_or bs at n → between at (at + 1) s.ended ≡ name_at ns n ∷ []
  read-ended at n h read = let l : at < length bs = omega (arith, size-ended) in ap (λ (t : State). between at (at + 1) t.ended) (sym view) ∙ between-read (name_at ns) at bs n l read

  pub read-aside : (at n : ℕ) → at < length s.aside → n ≡ get_or cs at n → between at (at + 1) s.aside ≡ name_at ns n ∷ []
  read-aside at n h read = let l : at < length cs = omega (arith, size-aside) in ap (λ (t : State). between at (at + 1) t.aside) (sym view) ∙ between-read (name_at ns) at cs n l read

  pub push_ended : (n : ℕ) (one : State → List Name) → one s ≡ name_at ns n ∷ [] → (new : List ℕ) → new ≡ bs ++ n ∷ [] → stored ns es new cs ≡ with_ended one s
  push_ended n one is new e =
      ap (λ (xs : List Name). record { sees = latest_first (mark_of ns) es; ended = xs; aside = latest_first (name_at ns) cs }) (ap (latest_first (name_at ns)) e ∙ latest_first-push (name_at ns) bs n)
      ∙ ap (λ (t : State). record { sees = t.sees; ended = name_at ns n ∷ t.ended; aside = t.aside }) view ∙ ap (λ q. record { sees = s.sees; ended = q ++ s.ended; aside = s.aside }) (sym is)

  pub push_aside : (n : ℕ) (one : State → List Name) → one s ≡ name_at ns n ∷ [] → (new : List ℕ) → new ≡ cs ++ n ∷ [] → stored ns es bs new ≡ with_aside one s
  push_aside n one is new e =
      ap (λ (xs : List Name). record { sees = latest_first (mark_of ns) es; ended = latest_first (name_at ns) bs; aside = xs }) (ap (latest_first (name_at ns)) e ∙ latest_first-push (name_at ns) cs n)
      ∙ ap (λ (t : State). record { sees = t.sees; ended = t.ended; aside = name_at ns n ∷ t.aside }) view ∙ ap (λ q. record { sees = s.sees; ended = s.ended; aside = q ++ s.aside }) (sym is)

  pub pop_seen-view : (e : Seen) (new : List Seen) → es ≡ new ++ e ∷ [] → stored ns new bs cs ≡ record { sees = drop 1 s.sees; ended = s.ended; aside = s.aside }
  pop_seen-view e new p =
      ap (λ (xs : List Mark). record { sees = drop 1 xs; ended = latest_first (name_at ns) bs; aside = latest_first (name_at ns) cs }) (sym (latest_first-push (mark_of ns) new e) ∙ ap (latest_first (mark_of ns)) (sym p))
      ∙ ap (λ (t : State). record { sees = drop 1 t.sees; ended = t.ended; aside = t.aside }) view

  pub pop_ended-view : (n : ℕ) (new : List ℕ) → bs ≡ new ++ n ∷ [] → stored ns es new cs ≡ record { sees = s.sees; ended = drop 1 s.ended; aside = s.aside }
  pop_ended-view n new p =
      ap (λ (xs : List Name). record { sees = latest_first (mark_of ns) es; ended = drop 1 xs; aside = latest_first (name_at ns) cs }) (sym (latest_first-push (name_at ns) new n) ∙ ap (latest_first (name_at ns)) (sym p))
      ∙ ap (λ (t : State). record { sees = t.sees; ended = drop 1 t.ended; aside = t.aside }) view

module _ (ns : List Name) (v : Vec NameState Global) (lent new : List NameState) (long : length v.items ≡ v.len) (lent_is : lent ≡ v.items) where
  -- what is written into a slice stands in its vector
  pub written : (es : List Seen) (bs cs : List ℕ) → length new ≡ length lent → AreIndexed ns new es bs cs → AreIndexed ns (with_items v new).items es bs cs
  written es bs cs same h =
      let e : length new ≡ v.len = same ∙ ap length lent_is ∙ long in subst (λ (sts : List NameState). AreIndexed ns sts es bs cs) (sym (with_items_is v new e)) h

  pub stored-ended : (es : List Seen) (bs cs more : List ℕ) → AreIndexed ns v.items es bs cs → (n : ℕ) → n < length ns → IsChangedAt n counted_up lent new → more ≡ bs ++ n ∷ [] → AreIndexed ns (with_items v new).items es more cs
  stored-ended es bs cs more h n inside ch e =
      written es more cs ch.same_length
      (subst (λ (xs : List ℕ). AreIndexed ns new es xs cs) (sym e) (indexed-ended ns v.items new es bs cs h n inside (subst (λ (sts : List NameState). IsChangedAt n counted_up sts new) lent_is ch)))

  pub stored-unended : (es : List Seen) (bs cs less : List ℕ) → AreIndexed ns v.items es bs cs → (n : ℕ) → IsChangedAt n counted_down lent new → bs ≡ less ++ n ∷ [] → AreIndexed ns (with_items v new).items es less cs
  stored-unended es bs cs less h n ch e =
      written es less cs ch.same_length
      (indexed-unended ns v.items new es less cs n (subst (λ (xs : List ℕ). AreIndexed ns v.items es xs cs) e h) (subst (λ (sts : List NameState). IsChangedAt n counted_down sts new) lent_is ch))

  pub stored-unseen : (es less : List Seen) (bs cs : List ℕ) → AreIndexed ns v.items es bs cs → (e : Seen) → IsChangedAt e.name (with_top e.below) lent new → es ≡ less ++ e ∷ [] → AreIndexed ns (with_items v new).items less bs cs
  stored-unseen es less bs cs h e ch p =
      written less bs cs ch.same_length
      (indexed-unseen ns v.items new less bs cs e (subst (λ (xs : List Seen). AreIndexed ns v.items xs bs cs) p h) (subst (λ (sts : List NameState). IsChangedAt e.name (with_top e.below) sts new) lent_is ch))
