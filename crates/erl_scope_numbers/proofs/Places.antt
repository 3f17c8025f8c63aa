-- Tests on places.
use Rattle.std.proofs.Common.{◌≡◌, sym, ap}
use Rattle.std.specs.Bool.{Decides}
use Rattle.std.proofs.lemmas.Bool.Decides.{Decides-eqb, Decides-like, Decides-and, same_from_decides}
use Rattle.erl_tree.specs.declared.token.Place.{Place}
use Rattle.erl_scope_rules.specs.Bindings.{same_place}

-- places are equal exactly where their lines and columns are
pub same_place-Decides : (p q : Place) → Decides (same_place p q) (p ≡ q)
same_place-Decides p q =
    Decides-like _ (λ e i. record { line = e.0 i; column = e.1 i }) (λ e. (ap (λ (x : Place). x.line) e, ap (λ (x : Place). x.column) e))
    (Decides-and _ _ (Decides-eqb p.line q.line) (Decides-eqb p.column q.column))

pub same_place-symmetric : (p q : Place) → same_place p q ≡ same_place q p
same_place-symmetric p q = same_from_decides _ _ (same_place-Decides p q) (Decides-like _ sym sym (same_place-Decides q p))
