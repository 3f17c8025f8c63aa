-- The first undefined name in a list with one more item.
use Rattle.std.proofs.Common.{◌≡◌, refl, sym, ◌∙◌, ap, ℕ, List, [], ◌∷◌, ◌++◌}
use Rattle.std.specs.Prelude.{Option, Some, None as Nothing}
use Rattle.type_terms.specs.declared.term.Def.{Def}
use Rattle.type_terms.specs.declared.term.Field.{Field}
use Rattle.type_terms.specs.declared.term.Term.{Term}
use Rattle.type_terms.specs.Undefined.{or_else, undefined_in, undefined_in_terms, undefined_in_fields, undefined_in_bodies}

or_else-none : (a : Option ℕ) → or_else a Nothing ≡ a
or_else-none Nothing = refl
or_else-none (Some n) = refl

or_else-twice : (a b c : Option ℕ) → or_else (or_else a b) c ≡ or_else a (or_else b c)
or_else-twice Nothing b c = refl
or_else-twice (Some n) b c = refl

pub terms-append : (defs : List Def) (ts : List Term) (t : Term) → undefined_in_terms defs (ts ++ t ∷ []) ≡ or_else (undefined_in_terms defs ts) (undefined_in defs t)
terms-append defs [] t = or_else-none _
terms-append defs (s ∷ ts) t = ap (or_else (undefined_in defs s)) (terms-append defs ts t) ∙ sym (or_else-twice (undefined_in defs s) _ _)

pub fields-append : (defs : List Def) (fs : List Field) (f : Field) → undefined_in_fields defs (fs ++ f ∷ []) ≡ or_else (undefined_in_fields defs fs) (undefined_in defs f.term)
fields-append defs [] f = or_else-none _
fields-append defs (g ∷ fs) f = ap (or_else (undefined_in defs g.term)) (fields-append defs fs f) ∙ sym (or_else-twice (undefined_in defs g.term) _ _)

pub bodies-append : (all defs : List Def) (def : Def) → undefined_in_bodies all (defs ++ def ∷ []) ≡ or_else (undefined_in_bodies all defs) (undefined_in all def.body)
bodies-append all [] def = or_else-none _
bodies-append all (d ∷ defs) def = ap (or_else (undefined_in all d.body)) (bodies-append all defs def) ∙ sym (or_else-twice (undefined_in all d.body) _ _)

pub ruleset append_laws = (terms-append, fields-append, bodies-append)
