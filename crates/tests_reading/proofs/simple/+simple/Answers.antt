use Rattle.std.proofs.Common.{subst, sym, ◌≡◌, ◌&&◌, List, rules, true}
use Rattle.std.specs.List.{Contains}
use Rattle.type_terms.specs.declared.term.Term.{Term}
use Rattle.type_terms.proofs.SimpleTerms.{Simple, simple-Or, simple-Tuple, simple-Name, simple-Fun, simple-Map}
use Rattle.type_terms.specs.declared.term.Field.{Field}
use Rattle.type_terms.specs.Keys.{ascending}
use Rattle.type_terms.specs.Parts.{field_keys, field_terms}
use Rattle.type_terms.proofs.SignParts.{and-cases}
use Rattle.tests_reading.proofs.simple.+simple.Goals as goal

pub is_simple-returns-in-Or : goal.is_simple-returns-in-Or
is_simple-returns-in-Or t c = λ h. subst (Simple c.args.count) (sym c.in-Or.is) (simple-Or c.args.count c.in-Or.parts (λ x k. c.are_all_simple.ensures h x (subst (λ (l : List Term). Contains l x) (sym c.as_slice.ensures) k)))

pub is_simple-returns-in-Tuple : goal.is_simple-returns-in-Tuple
is_simple-returns-in-Tuple t c = λ h. subst (Simple c.args.count) (sym c.in-Tuple.is) (simple-Tuple c.args.count c.in-Tuple.parts (λ x k. c.are_all_simple-in-Tuple.ensures h x (subst (λ (l : List Term). Contains l x) (sym c.as_slice-in-Tuple.ensures) k)))

pub is_simple-returns-in-Name : goal.is_simple-returns-in-Name
is_simple-returns-in-Name t c = λ h. subst (Simple c.args.count) (sym c.in-Name.is) (simple-Name c.args.count _ c.in-Name.arguments (λ x k. c.are_all_simple-in-Name.ensures h x (subst (λ (l : List Term). Contains l x) (sym c.as_slice-in-Name.ensures) k)))

pub is_simple-returns-then-are_all_simple : goal.is_simple-returns-then-are_all_simple
is_simple-returns-then-are_all_simple t c = λ h.
    subst (Simple c.args.count) (sym c.in-Fun.is)
    (simple-Fun c.args.count c.in-Fun.params c.in-Fun.given (λ x k. c.are_all_simple-in-Fun.ensures (search rules) x (subst (λ (l : List Term). Contains l x) (sym c.as_slice-in-Fun.ensures) k)) (subst (Simple c.args.count) c.get.ensures (c.is_simple.ensures h)))

pub is_simple-returns-in-Map : goal.is_simple-returns-in-Map
is_simple-returns-in-Map t c = λ h.
    let p : ((c.is_one_simple_field.result && c.is_simple_rest.result) ≡ true) × (c.is_simple_rest-in-Map.result ≡ true) = and-cases _ _ h in
    let q : (c.is_one_simple_field.result ≡ true) × (c.is_simple_rest.result ≡ true) = and-cases _ _ p.0 in
    subst (Simple c.args.count) (sym c.in-Map.is)
    (simple-Map c.args.count c.in-Map.fields c.in-Map.rest_int c.in-Map.rest_atom
    (subst (λ (fs : List Field). ascending (field_keys fs) ≡ true) c.as_slice-in-Map.ensures (c.is_one_simple_field.ensures q.0).0)
    (subst (λ (fs : List Field). (x : Term) → Contains (field_terms fs) x → Simple c.args.count x) c.as_slice-in-Map.ensures (c.is_one_simple_field.ensures q.0).1)
    (c.is_simple_rest.ensures q.1) (c.is_simple_rest-in-Map.ensures p.1))
