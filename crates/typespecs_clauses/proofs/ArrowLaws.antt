-- The arrows of clauses one after another.
use Rattle.std.proofs.Common.{◌≡◌, ℕ, zero, suc, ◌+◌, ◌<◌, ◌≤◌, Bool, true, false, cond, List, [], ◌∷◌, ◌++◌, length, map, take, drop, get_or, refl, sym, ap, ◌∙◌, subst, append_assoc, append-nil, Option, Some, None, Bor, inl, inr, arith}
use Rattle.std.specs.Prelude.{slice_get}
use Rattle.std.specs.Option.{option_map}
use Rattle.std.proofs.lemmas.Option.{slice_get_read}
use Rattle.std.proofs.lemmas.List.{map_more, map-append, drop_more, drop_all}
use Rattle.type_terms.specs.Keys.{Name}
use Rattle.type_terms.specs.declared.term.Term.{Term}
use Rattle.type_terms.specs.declared.spec.Arrow.{Arrow}
use Rattle.erl_tree.specs.declared.token.Node.{Node}
use Rattle.erl_tree.specs.declared.form.SpecClauseKind.{SpecClauseKind}
use Rattle.erl_tree.specs.Lists.{Among}
use Rattle.erl_runs.specs.Specs.{and_then, all_present}
use Rattle.typespecs_rules.specs.Declarations.{Declarations}
use Rattle.typespecs_rules.specs.TypeVariables.{numbered_from, clause_variables}
use Rattle.typespecs_rules.specs.SpecTerms.{arrow_holds, arrow_with, held_from, held_in, held_variables, clause_arrow, arrows_from, variables_in}
use Rattle.typespecs_terms.specs.Collecting as collecting
use Rattle.typespecs_clauses.specs.Names.{texts}
use Rattle.typespecs_clauses.proofs.NameLaws.{texts-more, texts-length}

-- ---- terms

present-push : (os : List (Option Term)) (o : Option Term) → all_present (os ++ o ∷ []) ≡ collecting.added (all_present os) o
present-push [] None = refl
present-push [] (Some t) = refl
present-push (p ∷ os) o = ap (λ more. and_then p (λ a. and_then more (λ others. Some (a ∷ others)))) (present-push os o) ∙ go p (all_present os) o
  where
    go : (p' : Option Term) (q : Option (List Term)) (r : Option Term) → and_then p' (λ a. and_then (collecting.added q r) (λ others. Some (a ∷ others))) ≡ collecting.added (and_then p' (λ a. and_then q (λ others. Some (a ∷ others)))) r
    go None q r = refl
    go (Some a) None r = refl
    go (Some a) (Some ts) None = refl
    go (Some a) (Some ts) (Some t) = refl

pub terms-more : {A : Type 0} (f : A → Option Term) (xs : List A) (i : ℕ) (x : A) → i < length xs → x ≡ get_or xs i x → (terms new : Option (List Term)) (o : Option Term) → terms ≡ all_present (map f (take i xs)) → o ≡ f x → new ≡ collecting.added terms o → new ≡ all_present (map f (take (i + 1) xs))
terms-more f xs i x lt is terms new o before read added =
    added ∙ ((λ j. collecting.added (before j) ((read ∙ ap f is) j)) ∙ (sym (present-push (map f (take i xs)) (f (get_or xs i x))) ∙ ap all_present (sym (map_more f xs i x lt))))

-- ---- names that an arrow holds

held-push : (a : Arrow) (n : ℕ) (xs : List Name) (y : Name) (b : Bool) → arrow_holds a (n + length xs) ≡ b → held_from a n (xs ++ y ∷ []) ≡ held_from a n xs ++ cond b (y ∷ []) []
held-push a n [] y b e = go b (ap (arrow_holds a) (zero-right n) ∙ e)
  where
    zero-right : (k : ℕ) → k ≡ k + 0
    zero-right k = omega arith

    go : (c : Bool) → arrow_holds a n ≡ c → cond (arrow_holds a n) (y ∷ []) [] ≡ cond c (y ∷ []) []
    go c f = ap (λ d. cond d (y ∷ []) []) f
held-push a n (x ∷ xs) y b e = go (arrow_holds a n) (held-push a (suc n) xs y b (ap (arrow_holds a) (shift n (length xs)) ∙ e))
  where
    shift : (k l : ℕ) → suc k + l ≡ k + suc l
    shift k l = omega arith

    go : (c : Bool) → held_from a (suc n) (xs ++ y ∷ []) ≡ held_from a (suc n) xs ++ cond b (y ∷ []) [] → cond c (x ∷ held_from a (suc n) (xs ++ y ∷ [])) (held_from a (suc n) (xs ++ y ∷ [])) ≡ cond c (x ∷ held_from a (suc n) xs) (held_from a (suc n) xs) ++ cond b (y ∷ []) []
    go true f = ap (λ ys. x ∷ ys) f
    go false f = f

module _ (ns : List (Bor (List ℕ))) (i : ℕ) (n : Bor (List ℕ)) (lt : i < length ns) (is : n ≡ get_or ns i n) (a : Arrow) (marks : List Bool) (same : (k : ℕ) → get_or marks k false ≡ arrow_holds a k) (old : List (Bor (List ℕ))) (before : texts old ≡ held_from a 0 (texts (take i ns))) where
  more : (b : Bool) → get_or marks i false ≡ b → held_from a 0 (texts (take i ns)) ++ cond b (n.now ∷ []) [] ≡ held_from a 0 (texts (take (i + 1) ns))
  more b e =
      sym (held-push a 0 (texts (take i ns)) n.now b (ap (arrow_holds a) (number (length (texts (take i ns))) (texts-length ns i lt)) ∙ (sym (same i) ∙ e)))
      ∙ ap (held_from a 0) (ap (λ (m : Bor (List ℕ)). texts (take i ns) ++ m.now ∷ []) is ∙ sym (texts-more ns i n lt))
    where
      number : (l : ℕ) → l ≡ i → 0 + l ≡ i
      number l f = omega arith

  pub held-more : (new : List (Bor (List ℕ))) → get_or marks i false ≡ true → new ≡ old ++ n ∷ [] → texts new ≡ held_from a 0 (texts (take (i + 1) ns))
  held-more new e pushed = ap texts pushed ∙ (map-append (λ (r : Bor (List ℕ)). r.now) old (n ∷ []) ∙ (ap (λ ys. ys ++ n.now ∷ []) before ∙ more true e))

  pub held-same : get_or marks i false ≡ false → texts old ≡ held_from a 0 (texts (take (i + 1) ns))
  held-same e = before ∙ (sym (append-nil (held_from a 0 (texts (take i ns)))) ∙ more false e)

-- ---- clauses

pub held-are : (d : Declarations) (c : SpecClauseKind) (names held : List Name) (all : Option Arrow) → names ≡ clause_variables c → all ≡ arrow_with d c (numbered_from 0 names) → held ≡ held_in all names → held ≡ held_variables d c
held-are d c names held all same read are = are ∙ (ap (λ o. held_in o names) read ∙ ap (λ ns. held_in (arrow_with d c (numbered_from 0 ns)) ns) same)

pub as-many : (ns : List (Bor (List ℕ))) → length ns ≡ length (texts ns)
as-many [] = refl
as-many (n ∷ ns) = ap suc (as-many ns)

module _ (d : Declarations) (all : List (Node SpecClauseKind)) where
  -- the arrows of the clauses so far, before those that are left
  pub record ReadSoFar (i vars : ℕ) (arrows : List Arrow) : Type 0 where
    pub arrows_are : arrows_from d 0 all ≡ option_map (λ more. arrows ++ more) (arrows_from d vars (drop i all))
    pub count_is : variables_in d all ≡ vars + variables_in d (drop i all)

  module _ (i vars : ℕ) (arrows : List Arrow) (c : Node SpecClauseKind) (lt : i < length all) (is : c ≡ get_or all i c) (so_far : ReadSoFar i vars arrows) where
    left : drop i all ≡ c ∷ drop (i + 1) all
    left = drop_more all i c lt ∙ ap (λ x. x ∷ drop (i + 1) all) (sym is)

    here : arrows_from d 0 all ≡ option_map (λ more. arrows ++ more) (and_then (clause_arrow d vars c.kind) (λ a. option_map (λ more. a ∷ more) (arrows_from d (vars + length (held_variables d c.kind)) (drop (i + 1) all))))
    here = so_far.arrows_are ∙ ap (λ cs. option_map (λ more. arrows ++ more) (arrows_from d vars cs)) left

    pub read-more : (a : Arrow) (count sum : ℕ) (new : List Arrow) → clause_arrow d vars c.kind ≡ Some a → count ≡ length (held_variables d c.kind) → sum ≡ vars + count → new ≡ arrows ++ a ∷ [] → ReadSoFar (i + 1) sum new
    read-more a count sum new some counted added pushed = record {
      arrows_are = here ∙ (ap (λ o. option_map (λ more. arrows ++ more) (and_then o (λ b. option_map (λ more. b ∷ more) (arrows_from d (vars + length (held_variables d c.kind)) (drop (i + 1) all))))) some
          ∙ (ap (λ k. option_map (λ more. arrows ++ more) (option_map (λ more. a ∷ more) (arrows_from d k (drop (i + 1) all)))) (sym total)
          ∙ (go (arrows_from d sum (drop (i + 1) all)) ∙ ap (λ (xs : List Arrow). option_map (λ more. xs ++ more) (arrows_from d sum (drop (i + 1) all))) (sym pushed))));
      count_is = so_far.count_is ∙ (ap (λ cs. vars + variables_in d cs) left ∙ plus vars (length (held_variables d c.kind)) (variables_in d (drop (i + 1) all)) sum total);
    }
      where
        total : sum ≡ vars + length (held_variables d c.kind)
        total = added ∙ ap (λ k. vars + k) counted

        plus : (k l m s : ℕ) → s ≡ k + l → k + (l + m) ≡ s + m
        plus k l m s e = omega arith

        go : (o : Option (List Arrow)) → option_map (λ more. arrows ++ more) (option_map (λ more. a ∷ more) o) ≡ option_map (λ more. (arrows ++ a ∷ []) ++ more) o
        go None = refl
        go (Some more) = ap Some (sym (append_assoc arrows (a ∷ []) more))

    pub read-none : clause_arrow d vars c.kind ≡ None → arrows_from d 0 all ≡ None
    read-none none = here ∙ ap (λ o. option_map (λ more. arrows ++ more) (and_then o (λ b. option_map (λ more. b ∷ more) (arrows_from d (vars + length (held_variables d c.kind)) (drop (i + 1) all))))) none

  pub read-all : (i vars : ℕ) (arrows : List Arrow) → length all ≤ i → ReadSoFar i vars arrows → (arrows_from d 0 all ≡ Some arrows) × (variables_in d all ≡ vars)
  read-all i vars arrows end so_far = (
    so_far.arrows_are ∙ (ap (λ cs. option_map (λ more. arrows ++ more) (arrows_from d vars cs)) (drop_all i all end) ∙ ap Some (append-nil arrows)),
    so_far.count_is ∙ (ap (λ cs. vars + variables_in d cs) (drop_all i all end) ∙ plus vars),
  )
    where
      plus : (k : ℕ) → k + 0 ≡ k
      plus k = omega arith

-- ---- one of some clauses

slice-among : {A : Type 0} (xs : List A) (i : ℕ) (x : A) → slice_get xs i ≡ Some x → Among x xs
slice-among [] i x e = absurd (cc)
slice-among (y ∷ xs) zero x e = inl (sym (same e))
  where
    same : Some y ≡ Some x → y ≡ x
    same e = cc
slice-among (y ∷ xs) (suc i) x e = inr (slice-among xs i x e)

pub among-item : {A : Type 0} (xs ys : List A) (i : ℕ) (x : A) → xs ≡ ys → i < length xs → x ≡ get_or xs i x → Among x ys
among-item xs ys i x same lt is = subst (Among x) same (slice-among xs i x (slice_get_read xs (length xs) i x refl lt is))
