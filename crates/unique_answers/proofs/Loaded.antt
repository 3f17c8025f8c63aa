-- A load gives one text.
use Rattle.std.proofs.Common.{◌≡◌, sym, ap, ◌∙◌, ℕ, ◌+◌, List, take}
use Rattle.tool_io.specs.Outside.{Holdings, Loads}
use Rattle.unique_answers.proofs.Small.{some-same}

pub one-load : (files : Holdings) (name : List ℕ) (limit : ℕ) (a b : List ℕ) → Loads files name limit a → Loads files name limit b → a ≡ b
one-load files name limit a b h k = h.beginning ∙ (ap (take (limit + 1)) (some-same h.content k.content (sym h.held ∙ k.held)) ∙ sym k.beginning)
