-- What finitely many things have finitely many of, in one list; and the parts of a term, which are finitely many.
use Rattle.std.proofs.Common.{◌≡◌, refl, subst, ⊎_elim, inl, inr, ap, List, [], ◌∷◌, ◌++◌, map}
use Rattle.type_terms.specs.Parts.{children, IsPart}
use Rattle.type_terms.specs.declared.term.Term.{Term}
use Rattle.type_terms.proofs.Induction.{by-children}
use Rattle.type_terms.proofs.PartLaws.{each-part}
use Rattle.erl_tree.specs.Lists.{Among}
use Rattle.typespecs_lemmas.proofs.AlikeTypes.{among-left, among-right}
use Rattle.typespecs_lemmas.proofs.RecordTuples.{among-contains}
use Rattle.typespecs_lemmas.proofs.TextFaults.{contains-among}

-- all that fulfils P is in one list
pub record IsListed {A : Type 0} (P : A → Type 0) : Type 0 where
  pub list : List A
  pub holds_all : (x : A) → P x → Among x list

-- what stands in the relation to some element of the list
abbrev pub FromSome : {A B : Type 0} → (A → B → Type 0) → List A → B → Type 0
FromSome {A} {B} R xs y = (x : A) × Among x xs × R x y

pub gathered : {A B : Type 0} (R : A → B → Type 0) (xs : List A) → ((x : A) → Among x xs → IsListed (R x)) → IsListed (FromSome R xs)
gathered R [] h = record { list = []; holds_all = λ y r. absurd r.1 }
gathered {A} {B} R (x ∷ xs) h =
    let first : IsListed (R x) = h x (inl refl) in
    let rest : IsListed (FromSome R xs) = gathered R xs (λ z a. h z (inr a)) in
    record {
      list = first.list ++ rest.list;
      holds_all = λ y r. ⊎_elim
          (λ (e : r.0 ≡ x). among-left y first.list rest.list (first.holds_all y (subst (λ (w : A). R w y) e r.2)))
          (λ a. among-right y first.list rest.list (rest.holds_all y (r.0, a, r.2)))
          r.1;
    }

pub among-mapped : {A B : Type 0} (g : A → B) (x : A) (xs : List A) → Among x xs → Among (g x) (map g xs)
among-mapped g x [] a = elim a [ ]
among-mapped g x (y ∷ xs) a = ⊎_elim (λ (e : x ≡ y). inl (ap g e)) (λ r. inr (among-mapped g x xs r)) a

pub parts-listed : (t : Term) → IsListed (λ u. IsPart u t)
parts-listed = by-children (λ t. IsListed (λ u. IsPart u t)) (λ t ih.
    let below : IsListed (FromSome (λ c u. IsPart u c) (children t)) = gathered (λ c u. IsPart u c) (children t) (λ c a. ih c (among-contains c (children t) a)) in
    record {
      list = t ∷ below.list;
      holds_all = λ u p. each-part (λ x. Among x (t ∷ below.list)) t (children t) refl (inl refl) (λ c k x q. inr (below.holds_all x (c, contains-among c (children t) k, q))) u p;
    })
