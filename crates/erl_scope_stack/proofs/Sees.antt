-- One more variable is seen, whose name may be new.
use Rattle.std.proofs.Common.{◌≡◌, ℕ, ◌<◌, List, [], ◌∷◌, ◌++◌, length, get_or, Option, Some, sym, ap, ◌∙◌, subst, Vec, Global, arith}
use Rattle.std.specs.Vec.{with_items}
use Rattle.type_terms.specs.Keys.{Name}
use Rattle.erl_tree.specs.declared.token.Place.{Place}
use Rattle.erl_scope_rules.specs.declared.role.Role.{Role}
use Rattle.erl_scope_rules.specs.Occurrences.{Mark}
use Rattle.erl_scope_stack.specs.declared.entries.Seen.{Seen}
use Rattle.erl_scope_stack.specs.declared.entries.NameState.{NameState}
use Rattle.erl_scope_stack.specs.State.{State, with_mark}
use Rattle.erl_scope_stack.specs.Named.{name_at, HasNumber, IsGrown}
use Rattle.erl_scope_stack.specs.Stored.{latest_first, mark_of, stored, place_by_role}
use Rattle.erl_scope_stack.specs.Indexed.{AreIndexed, IsRoomier, IsBindingAt, IsChangedAt, with_top}
use Rattle.erl_scope_stack.proofs.LatestFirst.{latest_first-push}
use Rattle.erl_scope_stack.proofs.TableLaws.{length-grown_by}
use Rattle.erl_scope_stack.proofs.Changes.{indexed-seen}
use Rattle.erl_scope_stack.proofs.Kept.{indexed-roomier, indexed-grown, stored-grown}
use Rattle.erl_scope_stack.proofs.Stores.{written}
use Rattle.erl_scope_stack.proofs.Readings.{top-read, place-read}

module _ (ns : List Name) (sts roomier : List NameState) (es : List Seen) (bs cs : List ℕ) (h : AreIndexed ns sts es bs cs) (room : IsRoomier sts roomier) where
  pub known-roomier : AreIndexed ns roomier es bs cs
  known-roomier = indexed-roomier ns sts es bs cs h roomier room

  module _ (x : Name) (new : List Name) (grown : IsGrown x ns new) (enough : length ns < length roomier) where
    pub known : AreIndexed new roomier es bs cs
    known = indexed-grown ns roomier es bs cs known-roomier x new grown (omega (arith, length-grown_by x ns new grown))

    module _ (n : ℕ) (has : HasNumber new x n) (t : NameState) (read : t ≡ get_or roomier n t) (p : Place) (r : Role) (b : Option Place) (more : List Seen) (e : more ≡ es ++ record { name = n; place = p; role = r; binding = b; below = t.top } ∷ []) where
      pub see-invariant : (v : Vec NameState Global) → roomier ≡ v.items → length v.items ≡ v.len → (lent ws : List NameState) → lent ≡ v.items → (count : ℕ) → count ≡ length es → IsChangedAt n (with_top (Some count)) lent ws
          → (outer : Option Place) (seen : List Seen) → seen ≡ es → IsBindingAt seen t.top outer → b ≡ place_by_role r p outer → AreIndexed new (with_items v ws).items more bs cs
      see-invariant v v_is long lent ws lent_is count size ch outer seen seen_is at binding =
          let ch' : IsChangedAt n (with_top (Some (length es))) roomier ws = subst (λ (k : ℕ). IsChangedAt n (with_top (Some k)) roomier ws) size (subst (λ (xs : List NameState). IsChangedAt n (with_top (Some count)) xs ws) (lent_is ∙ sym v_is) ch) in
          let one : Seen = record { name = n; place = p; role = r; binding = b; below = t.top } in
          let place = place-read new roomier es bs cs known n has.0 t read outer seen seen_is at in
          written new v lent ws long lent_is more bs cs ch.same_length
          (subst (λ (xs : List Seen). AreIndexed new ws xs bs cs) (sym e) (indexed-seen new roomier ws es bs cs known one has.0 (top-read new roomier es bs cs known n has.0 t read) (binding ∙ ap (place_by_role r p) place) ch'))

      pub see-view : (s : State) → stored ns es bs cs ≡ s → stored new more bs cs ≡ with_mark (record { name = x; place = p; role = r }) s
      see-view s view =
          let one : Seen = record { name = n; place = p; role = r; binding = b; below = t.top } in
          ap (λ (ms : List Mark). record { sees = ms; ended = latest_first (name_at new) bs; aside = latest_first (name_at new) cs }) (ap (latest_first (mark_of new)) e ∙ latest_first-push (mark_of new) es one)
          ∙ ap (λ (y : Name). with_mark (record { name = y; place = p; role = r }) (stored new es bs cs)) has.1
          ∙ ap (with_mark (record { name = x; place = p; role = r })) (stored-grown ns sts es bs cs h x new grown ∙ view)
