-- One level of a term, of a term in its own form.
use Rattle.std.proofs.Common.{◌≡◌, sym, ◌∙◌, ap, ℕ}
use Rattle.type_terms.specs.declared.term.Term.{Term, out-Term, roll-Term, roll-out-Term, Cons', Tuple', Map', Fun', Fun, Or', And', Not, Not', Name', Row_of-Term, end_of-Term, more_of-Term, Row_of-Field, Held-Term-Map-1, view-Term-Map-1, items-the_row-Field, items_shown-the_row-Field-2}
use Rattle.type_terms.specs.declared.term.Term.TheBlock.{shape-the_row-Term-0, hidden-the_row-Term-0, shown-the_row-Term-0}
use Rattle.type_terms.specs.declared.term.Term.TheOpen as F
use Rattle.type_terms.specs.declared.term.Term.TheViews as Views
use denote.Hole.Carrier.{shown}
use Rattle.type_terms.specs.Replacement.{terms_of}
use Rattle.type_terms.proofs.PartLaws.{shown-terms}

pub out-Cons' : (s t : _) (x y : Term) → out-Term (Cons' s (more_of-Term x end_of-Term) t (more_of-Term y end_of-Term)) ≡ F.Cons x y
unfolding shape-the_row-Term-0 hidden-the_row-Term-0 shown-the_row-Term-0 shown
out-Cons' s t x y = Views.outs-Cons' s (more_of-Term x end_of-Term) t (more_of-Term y end_of-Term)

pub out-Tuple' : (s : _) (ts : Row_of-Term _) → out-Term (Tuple' s ts) ≡ F.Tuple (terms_of ts)
out-Tuple' s ts = Views.outs-Tuple' s ts ∙ ap F.Tuple (shown-terms s ts)

pub out-Map' : (s : _) (fs : Row_of-Field _) (r q : Held-Term-Map-1) → out-Term (Map' s fs r q) ≡ F.Map (items-the_row-Field _ fs) (view-Term-Map-1 r) (view-Term-Map-1 q)
out-Map' s fs r q = Views.outs-Map' s fs r q ∙ ap (λ l. F.Map l (view-Term-Map-1 r) (view-Term-Map-1 q)) (items_shown-the_row-Field-2 s fs)

pub out-Fun' : (s t : _) (ts : Row_of-Term _) (x : Term) → out-Term (Fun' s ts t (more_of-Term x end_of-Term)) ≡ F.Fun (terms_of ts) x
unfolding shape-the_row-Term-0 hidden-the_row-Term-0 shown-the_row-Term-0 shown
out-Fun' s t ts x = Views.outs-Fun' s ts t (more_of-Term x end_of-Term) ∙ ap (λ l. F.Fun l x) (shown-terms s ts)

pub out-Or' : (s : _) (ts : Row_of-Term _) → out-Term (Or' s ts) ≡ F.Or (terms_of ts)
out-Or' s ts = Views.outs-Or' s ts ∙ ap F.Or (shown-terms s ts)

pub out-And' : (s : _) (ts : Row_of-Term _) → out-Term (And' s ts) ≡ F.And (terms_of ts)
out-And' s ts = Views.outs-And' s ts ∙ ap F.And (shown-terms s ts)

pub out-Not' : (s : _) (t : Term) → out-Term (Not' s (more_of-Term t end_of-Term)) ≡ F.Not t
unfolding shape-the_row-Term-0 hidden-the_row-Term-0 shown-the_row-Term-0 shown
out-Not' s t = Views.outs-Not' s (more_of-Term t end_of-Term)

pub out-Name' : (n : ℕ) (s : _) (ts : Row_of-Term _) → out-Term (Name' n s ts) ≡ F.Name n (terms_of ts)
out-Name' n s ts = Views.outs-Name' n s ts ∙ ap (F.Name n) (shown-terms s ts)

pub fun-is : (s t : _) (ts : Row_of-Term _) (x : Term) → Fun' s ts t (more_of-Term x end_of-Term) ≡ Fun (terms_of ts) x
fun-is s t ts x = sym (roll-out-Term (Fun' s ts t (more_of-Term x end_of-Term))) ∙ (ap roll-Term (out-Fun' s t ts x) ∙ Views.rolls-Fun (terms_of ts) x)

pub not-is : (s : _) (t : Term) → Not' s (more_of-Term t end_of-Term) ≡ Not t
not-is s t = sym (roll-out-Term (Not' s (more_of-Term t end_of-Term))) ∙ (ap roll-Term (out-Not' s t) ∙ Views.rolls-Not t)
