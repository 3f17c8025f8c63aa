-- Insertions into tables, and what stands in the forms behind others.
use Rattle.std.proofs.Common.{◌≡◌, ℕ, Bool, true, false, not, ◌&&◌, ◌||◌, List, [], ◌∷◌, length, inl, inr, refl, sym, ap, ap₂, ◌∙◌, subst, true≢false}
use Rattle.std.specs.List.{list_any}
use Rattle.std.proofs.lemmas.List.Folds.{list_any-append}
use Rattle.type_terms.specs.Keys.{Name, same_name}
use Rattle.erl_tree.specs.declared.form.TypeDefKind.{TypeDefKind}
use Rattle.erl_tree.specs.Lists.{Among}
use Rattle.erl_tree.specs.Functions.{FunctionId, of_function}
use Rattle.erl_runs.specs.Names.{same_id}
use Rattle.name_table.specs.Table.{Entry, ids, IsInsertion}
use Rattle.name_table.proofs.Lookups.{ids-push}
use Rattle.typespecs_rules.specs.Declarations.{is_type_named}
use Rattle.typespecs_names.proofs.LookUps.{same_id-itself, same_id-is, eq-sym, name-sym}

or-false : (b : Bool) → (b || false) ≡ b
or-false true = refl
or-false false = refl

or-swap : (a b : Bool) → (a || b) ≡ (b || a)
or-swap true true = refl
or-swap true false = refl
or-swap false true = refl
or-swap false false = refl

any-if-among : (f : FunctionId) (gs : List FunctionId) → Among f gs → list_any (same_id f) gs ≡ true
any-if-among f [] h = absurd h
any-if-among f (g ∷ gs) h = by (same_id f g) refl h (any-if-among f gs)
  where
    by : (b : Bool) → same_id f g ≡ b → Among f (g ∷ gs) → (Among f gs → list_any (same_id f) gs ≡ true) → (b || list_any (same_id f) gs) ≡ true
    by true p h later = refl
    by false p (inl e) later = absurd (true≢false (sym (same_id-itself f) ∙ (ap (same_id f) e ∙ p)))
    by false p (inr there) later = later there

among-if-any : (f : FunctionId) (gs : List FunctionId) → list_any (same_id f) gs ≡ true → Among f gs
among-if-any f [] h = absurd (true≢false (sym h))
among-if-any f (g ∷ gs) h = by (same_id f g) refl h (among-if-any f gs)
  where
    by : (b : Bool) → same_id f g ≡ b → (b || list_any (same_id f) gs) ≡ true → (list_any (same_id f) gs ≡ true → Among f gs) → Among f (g ∷ gs)
    by true p h later = inl (same_id-is f g p)
    by false p h later = inr (later h)

none-if-any : (f : FunctionId) (gs : List FunctionId) → (Among f gs → ⊥) → list_any (same_id f) gs ≡ false
none-if-any f gs h = by (list_any (same_id f) gs) refl
  where
    by : (b : Bool) → list_any (same_id f) gs ≡ b → list_any (same_id f) gs ≡ false
    by true p = absurd (h (among-if-any f gs p))
    by false p = p

-- what an insertion adds
inserted : (b : Bool) (old : List Entry) (f : FunctionId) (n : ℕ) (new : List Entry) → IsInsertion b old f n new → (x : FunctionId) → list_any (same_id x) (ids new) ≡ (list_any (same_id x) (ids old) || same_id x f)
inserted true old f n new h x = ap (λ es. list_any (same_id x) (ids es)) h.1 ∙ (ap (list_any (same_id x)) (ids-push old f n) ∙ (list_any-append (same_id x) (ids old) (f ∷ []) ∙ ap (λ b. list_any (same_id x) (ids old) || b) (or-false (same_id x f))))
inserted false old f n new h x = ap (λ es. list_any (same_id x) (ids es)) h.1 ∙ by (same_id x f) refl
  where
    by : (b : Bool) → same_id x f ≡ b → list_any (same_id x) (ids old) ≡ (list_any (same_id x) (ids old) || b)
    by true e = let there : list_any (same_id x) (ids old) ≡ true = any-if-among x (ids old) (subst (λ (g : FunctionId). Among g (ids old)) (sym (same_id-is x f e)) h.0) in there ∙ sym (ap (λ b. b || true) there)
    by false e = sym (or-false (list_any (same_id x) (ids old)))

-- in front of the others, where it is told from them
pub in_front : (b : Bool) (old : List Entry) (f : FunctionId) (n : ℕ) (new : List Entry) → IsInsertion b old f n new → (x : FunctionId) → list_any (same_id x) (ids new) ≡ (same_id x f || list_any (same_id x) (ids old))
in_front b old f n new h x = inserted b old f n new h x ∙ or-swap (list_any (same_id x) (ids old)) (same_id x f)

-- whether it is new
pub is_new : (b : Bool) (old : List Entry) (f : FunctionId) (n : ℕ) (new : List Entry) → IsInsertion b old f n new → b ≡ not (list_any (same_id f) (ids old))
is_new true old f n new h = sym (ap not (none-if-any f (ids old) h.0))
is_new false old f n new h = sym (ap not (any-if-among f (ids old) h.0))

-- a type is free where its name isn't a built-in type's, and is new
pub is_free : (b t k free : Bool) → b ≡ not t → ((b ≡ true → free ≡ not k) × (b ≡ false → free ≡ false)) → free ≡ not (k || t)
is_free b true k free e h = h.1 e ∙ sym (ap not (or-swap k true))
is_free b false k free e h = h.0 e ∙ sym (ap not (or-false k))

-- as tables tell types, and records
pub type-same : (name : Name) (count : ℕ) (d : TypeDefKind) → same_id (of_function name count) (of_function d.name (length d.params)) ≡ is_type_named name count d
type-same name count d = ap₂ ◌&&◌ (name-sym name d.name) (eq-sym count (length d.params))

and-true : (b : Bool) → (b && true) ≡ b
and-true true = refl
and-true false = refl

pub record-same : (name x : Name) → same_id (of_function name 0) (of_function x 0) ≡ same_name name x
record-same name x = and-true (same_name name x)
