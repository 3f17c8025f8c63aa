-- Replacing in each kind of term.
use Rattle.std.proofs.Common.{◌≡◌, refl, sym, ◌∙◌, ap, ℕ, List, ◌∷◌, map}
use Rattle.std.specs.Prelude.{Option, Some, None as Nothing}
use Rattle.std.specs.Option.{option_map}
use denote.Hole.Carrier.{hidden, shown}
use Rattle.type_terms.specs.declared.term.Field.{Field}
use Rattle.type_terms.specs.declared.term.Term.{Term, roll-Term, roll-out-Term, Cons, Tuple, Tuple', Map, Map', Fun, Fun', Or, Or', And, And', Not, Name, Row_of-Term, end_of-Term, more_of-Term, Row_of-Field, end_of-Field, more_of-Field, Held-Term-Map-1, view-Term-Map-1, back-Term-Map-1, items-the_row-Field, items_shown-the_row-Field-2, items_hidden-the_row-Field-2}
use Rattle.type_terms.specs.declared.term.Term.TheBlock.{shape-the_row-Term-0, hidden-the_row-Term-0, shown-the_row-Term-0, hidden-the_row-Term-1, shown-the_row-Term-1, hidden-the_row-Field-2, shown-the_row-Field-2}
use Rattle.type_terms.specs.declared.term.Term.TheViews as Views
use Rattle.type_terms.specs.Replacement.{Substitution, field_replaced, terms_of, replaced, replaced_row, replaced_fields, replaced_rest}
use Rattle.type_terms.proofs.PartLaws.{shown-terms, name-terms}
use Rattle.type_terms.proofs.ReadingLaws.{terms_of-hidden}

terms_of-replaced : {m : _} (f : Substitution) (ts : Row_of-Term m) → terms_of (replaced_row f ts) ≡ map (replaced f) (terms_of ts)
terms_of-replaced f end_of-Term = refl
terms_of-replaced f (more_of-Term t ts) = ap (λ us. replaced f t ∷ us) (terms_of-replaced f ts)

row-replaced : (f : Substitution) (ts : List Term) → terms_of (replaced_row f (hidden-the_row-Term-1 ts)) ≡ map (replaced f) ts
row-replaced f ts = terms_of-replaced f (hidden-the_row-Term-1 ts) ∙ ap (map (replaced f)) (terms_of-hidden ts)

or-terms : (s : _) (ts : Row_of-Term _) → Or' s ts ≡ Or (terms_of ts)
or-terms s ts = sym (roll-out-Term (Or' s ts)) ∙ (ap roll-Term (Views.outs-Or' s ts) ∙ (Views.rolls-Or (shown-the_row-Term-1 s ts) ∙ ap Or (shown-terms s ts)))

and-terms : (s : _) (ts : Row_of-Term _) → And' s ts ≡ And (terms_of ts)
and-terms s ts = sym (roll-out-Term (And' s ts)) ∙ (ap roll-Term (Views.outs-And' s ts) ∙ (Views.rolls-And (shown-the_row-Term-1 s ts) ∙ ap And (shown-terms s ts)))

tuple-terms : (s : _) (ts : Row_of-Term _) → Tuple' s ts ≡ Tuple (terms_of ts)
tuple-terms s ts = sym (roll-out-Term (Tuple' s ts)) ∙ (ap roll-Term (Views.outs-Tuple' s ts) ∙ (Views.rolls-Tuple (shown-the_row-Term-1 s ts) ∙ ap Tuple (shown-terms s ts)))

fun-terms : (s : _) (ts : Row_of-Term _) (z : _) (u : Row_of-Term _) → Fun' s ts z u ≡ Fun (terms_of ts) (shown-the_row-Term-0 z u)
fun-terms s ts z u = sym (roll-out-Term (Fun' s ts z u)) ∙ (ap roll-Term (Views.outs-Fun' s ts z u) ∙ (Views.rolls-Fun (shown-the_row-Term-1 s ts) (shown-the_row-Term-0 z u) ∙ ap (λ us. Fun us (shown-the_row-Term-0 z u)) (shown-terms s ts)))

map-terms : (s : _) (fs : Row_of-Field _) (r q : Held-Term-Map-1) → Map' s fs r q ≡ Map (items-the_row-Field _ fs) (view-Term-Map-1 r) (view-Term-Map-1 q)
map-terms s fs r q = sym (roll-out-Term (Map' s fs r q)) ∙ (ap roll-Term (Views.outs-Map' s fs r q) ∙ (Views.rolls-Map (shown-the_row-Field-2 s fs) (view-Term-Map-1 r) (view-Term-Map-1 q) ∙ ap (λ us. Map us (view-Term-Map-1 r) (view-Term-Map-1 q)) (items_shown-the_row-Field-2 s fs)))

pub replaced-Or : (f : Substitution) (ts : List Term) → replaced f (Or ts) ≡ Or (map (replaced f) ts)
replaced-Or f ts = or-terms _ (replaced_row f (hidden-the_row-Term-1 ts)) ∙ ap Or (row-replaced f ts)

pub replaced-And : (f : Substitution) (ts : List Term) → replaced f (And ts) ≡ And (map (replaced f) ts)
replaced-And f ts = and-terms _ (replaced_row f (hidden-the_row-Term-1 ts)) ∙ ap And (row-replaced f ts)

pub replaced-Tuple : (f : Substitution) (ts : List Term) → replaced f (Tuple ts) ≡ Tuple (map (replaced f) ts)
replaced-Tuple f ts = tuple-terms _ (replaced_row f (hidden-the_row-Term-1 ts)) ∙ ap Tuple (row-replaced f ts)

pub replaced-Name : (f : Substitution) (n : ℕ) (ts : List Term) → replaced f (Name n ts) ≡ Name n (map (replaced f) ts)
replaced-Name f n ts = name-terms n _ (replaced_row f (hidden-the_row-Term-1 ts)) ∙ ap (Name n) (row-replaced f ts)

pub replaced-Not : (f : Substitution) (t : Term) → replaced f (Not t) ≡ Not (replaced f t)
unfolding shape-the_row-Term-0 hidden-the_row-Term-0 hidden
replaced-Not f t = refl

pub replaced-Cons : (f : Substitution) (s t : Term) → replaced f (Cons s t) ≡ Cons (replaced f s) (replaced f t)
unfolding shape-the_row-Term-0 hidden-the_row-Term-0 hidden
replaced-Cons f s t = refl

one-replaced : (f : Substitution) (t : Term) → shown-the_row-Term-0 (shape-the_row-Term-0 t) (replaced_row f (hidden-the_row-Term-0 t)) ≡ replaced f t
unfolding shape-the_row-Term-0 hidden-the_row-Term-0 shown-the_row-Term-0 hidden shown
one-replaced f t = refl

pub replaced-Fun : (f : Substitution) (ts : List Term) (t : Term) → replaced f (Fun ts t) ≡ Fun (map (replaced f) ts) (replaced f t)
replaced-Fun f ts t = fun-terms _ (replaced_row f (hidden-the_row-Term-1 ts)) (shape-the_row-Term-0 t) (replaced_row f (hidden-the_row-Term-0 t)) ∙ (λ j. Fun (row-replaced f ts j) (one-replaced f t j))

fields-replaced : {m : _} (f : Substitution) (fs : Row_of-Field m) → items-the_row-Field m (replaced_fields f fs) ≡ map (field_replaced f) (items-the_row-Field m fs)
fields-replaced f end_of-Field = refl
fields-replaced f (more_of-Field k r t fs) = ap (λ us. record { key = k; required = r; term = replaced f t } ∷ us) (fields-replaced f fs)

rest-replaced : (f : Substitution) (o : Option Term) → view-Term-Map-1 (replaced_rest f (back-Term-Map-1 o)) ≡ option_map (replaced f) o
unfolding shape-the_row-Term-0 hidden-the_row-Term-0 shown-the_row-Term-0 hidden shown
rest-replaced f Nothing = refl
rest-replaced f (Some t) = refl

pub replaced-Map : (f : Substitution) (fields : List Field) (rest_int rest_atom : Option Term) → replaced f (Map fields rest_int rest_atom) ≡ Map (map (field_replaced f) fields) (option_map (replaced f) rest_int) (option_map (replaced f) rest_atom)
replaced-Map f fields rest_int rest_atom =
    map-terms _ (replaced_fields f (hidden-the_row-Field-2 fields)) (replaced_rest f (back-Term-Map-1 rest_int)) (replaced_rest f (back-Term-Map-1 rest_atom))
    ∙ (λ j. Map ((fields-replaced f (hidden-the_row-Field-2 fields) ∙ ap (map (field_replaced f)) (items_hidden-the_row-Field-2 fields)) j) (rest-replaced f rest_int j) (rest-replaced f rest_atom j))

pub ruleset replacement_laws = (replaced-Cons, replaced-Tuple, replaced-Map, replaced-Fun, replaced-Or, replaced-And, replaced-Not, replaced-Name)
