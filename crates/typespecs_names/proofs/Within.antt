-- Lists to which the parts of type expressions are added.
use Rattle.std.proofs.Common.{◌≡◌, ℕ, ◌+◌, ◌<◌, ◌≤◌, List, [], ◌∷◌, ◌++◌, length, drop, get_or, refl, sym, ap, ◌∙◌, append_assoc, append-nil, Bor}
use Rattle.std.proofs.lemmas.List.{drop_all}
use Rattle.type_terms.specs.Keys.{Name}
use Rattle.erl_tree.specs.declared.token.Node.{Node}
use Rattle.erl_tree.specs.declared.type_expr.TypeKind.{TypeKind, out-TypeKind, roll-TypeKind, roll-out-TypeKind}
use Rattle.erl_tree.specs.declared.type_expr.MapPart.{MapPart, out-MapPart, roll-out-MapPart}
use Rattle.erl_tree.specs.declared.type_expr.TypeKind.TheVariants as Y
use Rattle.erl_tree.specs.declared.type_expr.TypeKind.TheOpen as O
use Rattle.typespecs_rules.specs.TypeParts.{Inside, from_each, inside_kind, inside_map_part_kind, types_within}
use Rattle.typespecs_rules.proofs.TypeRuleLaws.{inside-rolls, inside_part-of}
use Rattle.typespecs_names.specs.Seen.{seen}
use Rattle.typespecs_names.proofs.Steps.{rest_at}

pub seen-push : (xs : List (Bor (Node TypeKind))) (t : Bor (Node TypeKind)) → seen (xs ++ t ∷ []) ≡ seen xs ++ t.now ∷ []
seen-push [] t = refl
seen-push (x ∷ xs) t = ap (λ ys. x.now ∷ ys) (seen-push xs t)

-- one, and then those inside it
pub with_one : (old mid new : Inside) (t : Node TypeKind) (k : TypeKind) → mid ≡ old ++ t ∷ [] → k ≡ t.kind → new ≡ mid ++ inside_kind k → new ≡ old ++ types_within t
with_one old mid new t k pushed same inner = inner ∙ ((λ j. pushed j ++ inside_kind (same j)) ∙ append_assoc old (t ∷ []) (inside_kind t.kind))

pub then_more : (old mid new xs ys : Inside) → mid ≡ old ++ xs → new ≡ mid ++ ys → new ≡ old ++ (xs ++ ys)
then_more old mid new xs ys e f = f ∙ (ap (λ l. l ++ ys) e ∙ append_assoc old xs ys)

-- what stands in a kind that is known
pub of_kind : (old new xs : Inside) (k v : TypeKind) → k ≡ v → inside_kind v ≡ xs → new ≡ old ++ xs → new ≡ old ++ inside_kind k
of_kind old new xs k v is law e = e ∙ ap (λ l. old ++ l) (sym (ap (λ j. inside_kind j) is ∙ law))

-- nothing stands in any other
pub in_others : (k : TypeKind)
    → ((t u : Node TypeKind) → k ≡ Y.Or t u → ⊥) → ((t : Node TypeKind) → k ≡ Y.Paren t → ⊥) → ((x : Name) (t : Node TypeKind) → k ≡ Y.Named x t → ⊥) → ((t : Node TypeKind) → k ≡ Y.ListOf t → ⊥) → ((t : Node TypeKind) → k ≡ Y.NonEmpty t → ⊥)
    → ((prefix : _) (name : Name) (ts : List (Node TypeKind)) → k ≡ Y.Use prefix name ts → ⊥) → ((ts : List (Node TypeKind)) → k ≡ Y.Tuple ts → ⊥) → ((parts : List (Node MapPart)) → k ≡ Y.Map parts → ⊥)
    → ((ts : List (Node TypeKind)) (t : Node TypeKind) → k ≡ Y.Fun ts t → ⊥) → ((name tag : Name) (fields : List (Node (Name × Node TypeKind))) → k ≡ Y.Rec name tag fields → ⊥) → inside_kind k ≡ []
in_others k or_ paren named list_of non_empty use_ tuple map_ fun_ rec_ = go (out-TypeKind k) (sym (roll-out-TypeKind k))
  where
    go : (l : O.TypeKind-F TypeKind MapPart) → k ≡ roll-TypeKind l → inside_kind k ≡ []
    go (O.Or t u) e = absurd (or_ t u (e ∙ Y.rolls-Or t u))
    go (O.Paren t) e = absurd (paren t (e ∙ Y.rolls-Paren t))
    go (O.Named x t) e = absurd (named x t (e ∙ Y.rolls-Named x t))
    go (O.ListOf t) e = absurd (list_of t (e ∙ Y.rolls-ListOf t))
    go (O.NonEmpty t) e = absurd (non_empty t (e ∙ Y.rolls-NonEmpty t))
    go (O.Use prefix name ts) e = absurd (use_ prefix name ts (e ∙ Y.rolls-Use prefix name ts))
    go (O.Tuple ts) e = absurd (tuple ts (e ∙ Y.rolls-Tuple ts))
    go (O.Map parts) e = absurd (map_ parts (e ∙ Y.rolls-Map parts))
    go (O.Fun ts t) e = absurd (fun_ ts t (e ∙ Y.rolls-Fun ts t))
    go (O.Rec name tag fields) e = absurd (rec_ name tag fields (e ∙ Y.rolls-Rec name tag fields))
    go (O.Atom a) e = ap (λ j. inside_kind j) e ∙ inside-rolls (O.Atom a)
    go (O.Int n) e = ap (λ j. inside_kind j) e ∙ inside-rolls (O.Int n)
    go (O.NegInt n) e = ap (λ j. inside_kind j) e ∙ inside-rolls (O.NegInt n)
    go (O.Char c) e = ap (λ j. inside_kind j) e ∙ inside-rolls (O.Char c)
    go (O.Var x) e = ap (λ j. inside_kind j) e ∙ inside-rolls (O.Var x)
    go (O.Range low high) e = ap (λ j. inside_kind j) e ∙ inside-rolls (O.Range low high)
    go O.Nil e = ap (λ j. inside_kind j) e ∙ inside-rolls O.Nil
    go O.FunAll e = ap (λ j. inside_kind j) e ∙ inside-rolls O.FunAll

pub nothing_more : (old : Inside) (k : TypeKind) → inside_kind k ≡ [] → old ≡ old ++ inside_kind k
nothing_more old k none = sym (ap (λ l. old ++ l) none ∙ append-nil old)

-- what stands in a part of a map type
pub in_part : (p : MapPart) → types_within (out-MapPart p).key ++ types_within (out-MapPart p).value ≡ inside_map_part_kind p
in_part p = sym (ap (λ j. inside_map_part_kind j) (sym (roll-out-MapPart p)) ∙ inside_part-of (out-MapPart p).key (out-MapPart p).required (out-MapPart p).value)

-- ---- loops

module _ {A : Type 0} (of : A → Inside) (xs : List A) (start : Inside) where
  -- those from here on are all that is left to add
  abbrev pub IsSeenTo : ℕ → Inside → Type 0
  IsSeenTo i list = list ++ from_each of (drop i xs) ≡ start ++ from_each of xs

  pub seen_next : (i : ℕ) (x : A) (old new : Inside) → i < length xs → x ≡ get_or xs i x → new ≡ old ++ of x → IsSeenTo i old → IsSeenTo (i + 1) new
  seen_next i x old new lt is e so_far =
      ap (λ l. l ++ from_each of (drop (i + 1) xs)) e
      ∙ (append_assoc old (of x) (from_each of (drop (i + 1) xs)) ∙ (ap (λ ys. old ++ from_each of ys) (sym (rest_at xs i x lt is)) ∙ so_far))

  pub seen_last : (i : ℕ) (list : Inside) → length xs ≤ i → IsSeenTo i list → list ≡ start ++ from_each of xs
  seen_last i list end so_far = sym (ap (λ ys. list ++ from_each of ys) (drop_all i xs end) ∙ append-nil list) ∙ so_far
