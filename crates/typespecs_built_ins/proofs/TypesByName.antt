-- Names compared, and the terms of types that are found in parts of a list.
use Rattle.std.proofs.Common.{◌≡◌, refl, ap, sym, ◌∙◌, Bool, true, false, cond, ◌&&◌, List, [], ◌∷◌, ◌++◌, nat_eq, Option, Some, None}
use Rattle.std.specs.Str.{bytes_eq}
use Rattle.type_terms.specs.Keys.{Name, same_name}
use Rattle.type_terms.specs.declared.term.Term.{Term}
use Rattle.typespecs_rules.specs.BuiltInTypes.{term_among}

pub same_name-bytes : (m n : Name) → bytes_eq m n ≡ same_name m n
same_name-bytes [] [] = refl
same_name-bytes [] (y ∷ n) = refl
same_name-bytes (x ∷ m) [] = refl
same_name-bytes (x ∷ m) (y ∷ n) = ap (λ b. nat_eq x y && b) (same_name-bytes m n)

-- the first of two that is there
abbrev pub or_term : Option Term → Option Term → Option Term
or_term (Some t) other = Some t
or_term None other = other

pub term_among-append : (xs ys : List (Name × Term)) (name : Name) → term_among (xs ++ ys) name ≡ or_term (term_among xs name) (term_among ys name)
term_among-append [] ys name = refl
term_among-append (x ∷ xs) ys name = go (same_name x.0 name) (term_among-append xs ys name)
  where
    go : (b : Bool) → term_among (xs ++ ys) name ≡ or_term (term_among xs name) (term_among ys name) → cond b (Some x.1) (term_among (xs ++ ys) name) ≡ or_term (cond b (Some x.1) (term_among xs name)) (term_among ys name)
    go true e = refl
    go false e = e

-- what is found in the first part is found in the whole
pub found_first : (xs ys : List (Name × Term)) (name : Name) (t : Term) → Some t ≡ term_among xs name → Some t ≡ term_among (xs ++ ys) name
found_first xs ys name t e = ap (λ o. or_term o (term_among ys name)) e ∙ sym (term_among-append xs ys name)

-- and where nothing is, the rest decides
pub not_first : (xs ys : List (Name × Term)) (name : Name) → None ≡ term_among xs name → term_among ys name ≡ term_among (xs ++ ys) name
not_first xs ys name e = ap (λ o. or_term o (term_among ys name)) e ∙ sym (term_among-append xs ys name)
