-- Two lists as one of pairs, and the fields of tuples.
use Rattle.std.proofs.Common.{◌≡◌, refl, sym, ap, ◌∙◌, ℕ, zero, suc, ◌+◌, ◌<◌, ◌≤◌, List, [], ◌∷◌, ◌++◌, map, length, take, get_or, min, arith}
use Rattle.std.specs.List.{zip}
use Rattle.type_terms.specs.Keys.{Name}
use Rattle.type_terms.specs.declared.term.Field.{Field}
use Rattle.type_terms.specs.declared.term.Term.{Term, AtomLit, out-Term}
use Rattle.type_terms.specs.declared.term.Term.TheOpen as F
use Rattle.type_terms.specs.declared.term.Term.TheViews as Views
use Rattle.typespecs_rules.specs.TypeTerms.{RecordTuple}
use Rattle.typespecs_single.specs.TupleParts.{field_names, element_terms}

next : {A B : Type 0} (ks : List A) (vs : List B) (n : ℕ) (d : A) (e : B) → n < length ks → n < length vs → zip (take (suc n) ks) (take (suc n) vs) ≡ zip (take n ks) (take n vs) ++ (get_or ks n d, get_or vs n e) ∷ []
next [] vs n d e h k = absurd (omega arith)
next (x ∷ ks) [] n d e h k = absurd (omega arith)
next (x ∷ ks) (v ∷ vs) zero d e h k = refl
next (x ∷ ks) (v ∷ vs) (suc n) d e h k = ap (λ ps. (x, v) ∷ ps) (next ks vs n d e (omega arith) (omega arith))

-- one more pair
pub pair-next : {A B : Type 0} (ks : List A) (vs : List B) (n m : ℕ) (k a : A) (v b : B) (old new : List (A × B)) → (n < length ks) × (n < length vs) × ((d : A) → k ≡ get_or ks n d) × ((d : B) → v ≡ get_or vs n d) → m ≡ n + 1
    → old ≡ zip (take n ks) (take n vs) → new ≡ old ++ (a, b) ∷ [] → a ≡ k → b ≡ v → new ≡ zip (take m ks) (take m vs)
pair-next {A} {B} ks vs n m k a v b old new at more before pushed first second =
    pushed ∙ ((λ j. before j ++ ((first ∙ at.2 k) j, (second ∙ at.3 v) j) ∷ [])
    ∙ (sym (next ks vs n k v at.0 at.1) ∙ ap (λ i. zip (take i ks) (take i vs)) same))
  where
    same : suc n ≡ m
    same = omega arith

-- all pairs
pub pairs-end : {A B : Type 0} (ks : List A) (vs : List B) (n : ℕ) → min (length ks) (length vs) ≤ n → zip (take n ks) (take n vs) ≡ zip ks vs
pairs-end [] vs zero h = refl
pairs-end [] vs (suc n) h = refl
pairs-end (k ∷ ks) [] zero h = refl
pairs-end (k ∷ ks) [] (suc n) h = refl
pairs-end (k ∷ ks) (v ∷ vs) zero h = absurd (omega arith)
pairs-end (k ∷ ks) (v ∷ vs) (suc n) h = ap (λ ps. (k, v) ∷ ps) (pairs-end ks vs n (omega arith))

-- pairs by their first and their second parts
pub pairs-of : {A B : Type 0} (ps : List (A × B)) → zip (map (λ p. p.0) ps) (map (λ p. p.1) ps) ≡ ps
pairs-of [] = refl
pairs-of (p ∷ ps) = ap (λ qs. p ∷ qs) (pairs-of ps)

-- ---- tuples

tag-is : (a b : Name) → AtomLit a ≡ AtomLit b → a ≡ b
tag-is a b e = go (sym (Views.outs-AtomLit a) ∙ (ap (λ t. out-Term t) e ∙ Views.outs-AtomLit b))
  where
    go : ◌≡◌ {A = F.Term-F Term Field} (F.AtomLit a) (F.AtomLit b) → a ≡ b
    go q = cc

parts : {A : Type 0} (x y : A) (xs ys : List A) → x ∷ xs ≡ y ∷ ys → (x ≡ y) × (xs ≡ ys)
parts x y xs ys e = (cc, cc)

-- the tuples whose fields have these names and whose elements have these terms
pub tuples-are : (r : RecordTuple) (names : List Name) (terms own : List Term) (first : Term) (tag copied : Name) (fields : List (Name × Term)) → field_names r ≡ names → element_terms r ≡ terms → terms ≡ first ∷ own → first ≡ AtomLit tag → copied ≡ tag → fields ≡ zip names own → record { tag = copied; fields = fields } ≡ r
tuples-are r names terms own first tag copied fields named elements split atom same are = λ j. record { tag = tags j; fields = all j }
  where
    both : (AtomLit r.tag ≡ first) × (map (λ f. f.1) r.fields ≡ own)
    both = parts (AtomLit r.tag) first (map (λ f. f.1) r.fields) own (elements ∙ split)

    tags : copied ≡ r.tag
    tags = same ∙ sym (tag-is r.tag tag (both.0 ∙ atom))

    all : fields ≡ r.fields
    all = are ∙ ((λ j. zip (sym named j) (sym both.1 j)) ∙ pairs-of r.fields)
