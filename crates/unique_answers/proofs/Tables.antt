-- Insertions into a table, and what it gives.
use Rattle.std.proofs.Common.{◌≡◌, refl, sym, ◌∙◌, ℕ, Bool, true, false, List}
use Rattle.std.specs.Prelude.{Option, Some, None}
use Rattle.erl_tree.specs.Functions.{FunctionId}
use Rattle.erl_tree.specs.Lists.{AreDistinct}
use Rattle.name_table.specs.Table.{Entry, ids, IsFound, IsInsertion}
use Rattle.name_table.proofs.CallerLemmas.{IsFound-entry}

pub one-insertion : (old : List Entry) (id : FunctionId) (number : ℕ) (a b : Bool) (new other : List Entry) → IsInsertion a old id number new → IsInsertion b old id number other → (a ≡ b) × (new ≡ other)
one-insertion old id number true true new other h k = (refl, h.1 ∙ sym k.1)
one-insertion old id number true false new other h k = absurd (h.0 k.0)
one-insertion old id number false true new other h k = absurd (k.0 h.0)
one-insertion old id number false false new other h k = (refl, h.1 ∙ sym k.1)

pub one-found : (entries : List Entry) (id : FunctionId) (a b : Option ℕ) → AreDistinct (ids entries) → IsFound entries id a → IsFound entries id b → a ≡ b
one-found entries id None None d h k = refl
one-found entries id None (Some n) d h k = IsFound-entry entries id n None d k h
one-found entries id (Some m) b d h k = sym (IsFound-entry entries id m b d h k)
