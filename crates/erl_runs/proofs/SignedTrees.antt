-- Terms in which no fun type and no variable stands under an odd, or an even, number of negations, and their unfoldings.
use Rattle.std.proofs.Common.{◌≡◌, refl, sym, ap, subst, ℕ, zero, suc, List, [], ◌∷◌, ◌++◌, length, Bool, true, false}
use Rattle.std.specs.Prelude.{Option, Some, None as Nothing, slice_get, not}
use Rattle.std.specs.List.{Contains}
use Rattle.std.proofs.lemmas.List.Elements.{Contains-append_left, Contains-append_right}
use Rattle.type_terms.specs.declared.term.Def.{Def}
use Rattle.type_terms.specs.declared.term.Term.{Term, Any, None, Ints, AtomLit, AnyAtom, Nil, Cons', Tuple', AnyTuple, Map', Fun, Fun', AnyFun, Or', And', Not, Not', Var, Name, Name', Row_of-Term, end_of-Term, more_of-Term, Row_of-Field, end_of-Field, more_of-Field, Held-Term-Map-1, Term-Map-1-None', Some', view-Term-Map-1, items-the_row-Field}
use Rattle.type_terms.specs.Parts.{layer_positive_children, positive_children, field_terms, rest_terms}
use Rattle.type_terms.specs.Replacement.{Substitution, replaced, replaced_row, replaced_fields, replaced_rest, replaced_by, argument_of, terms_of}
use Rattle.type_terms.specs.Signs.{StandsUnder, itself, in_child, in_not, in_body, IsWellSigned}
use Rattle.type_terms.specs.Unfolding.{NameUnfolding, unfolded_in, unfolded_row, body_of, or_none, name_unfolded, unfolded}
use Rattle.type_terms.proofs.Contained.{contains-first, contains-later}
use Rattle.type_terms.proofs.PartLaws.{shown-term, name-terms}
use Rattle.type_terms.proofs.ReplacementLaws.{replaced-id}
use Rattle.type_terms.proofs.SignParts.{not-twice}
use Rattle.type_terms.proofs.UnfoldingLaws.{body-eq}
use Rattle.erl_runs.proofs.TermLayers.{out-Cons', out-Tuple', out-Map', out-Or', out-And', fun-is, not-is}

-- no fun type and no variable stands in the term under an odd (`true`) or even number of negations, at any depth and through names
pub record NoneUnder (odd : Bool) (d : List Def) (t : Term) : Type 0 where
  pub funs : (parameters : List Term) (result : Term) → StandsUnder d odd (Fun parameters result) t → ⊥
  pub variables : (a : ℕ) → StandsUnder d odd (Var a) t → ⊥

pub signed-none : (d : List Def) (t : Term) → IsWellSigned d t → NoneUnder true d t
signed-none d t h = record { funs = h.no_odd_fun; variables = h.no_odd_variable }

none-through : (b c : Bool) (d : List Def) (t u : Term) → ((x : Term) → StandsUnder d c x u → StandsUnder d b x t) → NoneUnder b d t → NoneUnder c d u
none-through b c d t u f h = record { funs = λ ps r s. h.funs ps r (f (Fun ps r) s); variables = λ a s. h.variables a (f (Var a) s) }

none-child : (b : Bool) (d : List Def) (t c : Term) → NoneUnder b d t → Contains (positive_children t) c → NoneUnder b d c
none-child b d t c h k = none-through b b d t c (λ x s. in_child b x c t k s) h

none-negated : (b : Bool) (d : List Def) (w t : Term) → w ≡ Not t → NoneUnder b d w → NoneUnder (not b) d t
none-negated b d w t e h = none-through b (not b) d w t (λ x s. subst (λ c. StandsUnder d c x w) (not-twice b) (in_not (not b) x t w e s)) h

none-body : (b : Bool) (d : List Def) (n : ℕ) (args : List Term) (def : Def) → slice_get d n ≡ Some def → NoneUnder b d (Name n args) → NoneUnder b d (replaced_by args def.body)
none-body b d n args def g h = none-through b b d (Name n args) (replaced_by args def.body) (λ x s. in_body b x (Name n args) n args def refl g s) h

abbrev pub all_none : Bool → List Def → List Term → Type 0
all_none b d [] = Unit {0}
all_none b d (t ∷ ts) = NoneUnder b d t × all_none b d ts

-- of each term of a map term
abbrev pub all_fields : {m : _} → (Term → Type 0) → Row_of-Field m → Type 0
all_fields P end_of-Field = Unit {0}
all_fields P (more_of-Field key required t fs) = P t × all_fields P fs

abbrev pub all_rest : (Term → Type 0) → Held-Term-Map-1 → Type 0
all_rest P Term-Map-1-None' = Unit {0}
all_rest P (Some' s (more_of-Term t end_of-Term)) = P t

-- a fun type and a variable stand in themselves under no negation
abbrev pub may_stand : Bool → Type 0
may_stand true = Unit {0}
may_stand false = ⊥

-- that of a term's parts under no constructor, and `NoneUnder` of those under one; of names nothing is said
abbrev mutual
  pub tree : Bool → List Def → Term → Type 0
  tree b d (Cons' s (more_of-Term x end_of-Term) t (more_of-Term y end_of-Term)) = NoneUnder b d x × NoneUnder b d y
  tree b d (Tuple' s ts) = all_none b d (terms_of ts)
  tree b d (Map' s fs r q) = all_fields (NoneUnder b d) fs × all_rest (NoneUnder b d) r × all_rest (NoneUnder b d) q
  tree b d (Fun' s ts t u) = may_stand b
  tree b d (Or' s ts) = tree_row b d ts
  tree b d (And' s ts) = tree_row b d ts
  tree b d (Not' s ts) = tree_row (not b) d ts
  tree b d (Var n) = may_stand b
  tree b d _ = Unit {0}

  pub tree_row : {m : _} → Bool → List Def → Row_of-Term m → Type 0
  tree_row b d end_of-Term = Unit {0}
  tree_row b d (more_of-Term t ts) = tree b d t × tree_row b d ts

-- ---- facts of all children, as facts of a list, of fields and of a rest

list-from : (b : Bool) (d : List Def) (ts : List Term) → ((c : Term) → Contains ts c → NoneUnder b d c) → all_none b d ts
list-from b d [] h = tt
list-from b d (t ∷ ts) h = (h t (contains-first t ts), list-from b d ts (λ c k. h c (contains-later t c ts k)))

fields-from : {m : _} (b : Bool) (d : List Def) (fs : Row_of-Field m) → ((c : Term) → Contains (field_terms (items-the_row-Field m fs)) c → NoneUnder b d c) → all_fields (NoneUnder b d) fs
fields-from b d end_of-Field h = tt
fields-from b d (more_of-Field key required t fs) h = (h t (contains-first t _), fields-from b d fs (λ c k. h c (contains-later t c _ k)))

rest-from : (b : Bool) (d : List Def) (r : Held-Term-Map-1) → ((c : Term) → Contains (rest_terms (view-Term-Map-1 r)) c → NoneUnder b d c) → all_rest (NoneUnder b d) r
rest-from b d Term-Map-1-None' h = tt
rest-from b d (Some' s (more_of-Term t end_of-Term)) h = h t (subst (λ (l : List Term). Contains l t) (sym (shown-term s (more_of-Term t end_of-Term))) (contains-first t []))

children-from : (b : Bool) (d : List Def) (w : Term) (ts : List Term) → positive_children w ≡ ts → NoneUnder b d w → all_none b d ts
children-from b d w ts e h = list-from b d ts (λ c k. none-child b d w c h (subst (λ (l : List Term). Contains l c) (sym e) k))

map-from : (b : Bool) (d : List Def) (s : _) (fs : Row_of-Field _) (r q : Held-Term-Map-1) → NoneUnder b d (Map' s fs r q) → all_fields (NoneUnder b d) fs × all_rest (NoneUnder b d) r × all_rest (NoneUnder b d) q
map-from b d s fs r q h =
    let fields : List Term = field_terms (items-the_row-Field _ fs) in
    let ints : List Term = rest_terms (view-Term-Map-1 r) in
    let atoms : List Term = rest_terms (view-Term-Map-1 q) in
    let all : (c : Term) → Contains (fields ++ (ints ++ atoms)) c → NoneUnder b d c = λ c k. none-child b d (Map' s fs r q) c h (subst (λ (l : List Term). Contains l c) (sym (ap layer_positive_children (out-Map' s fs r q))) k) in (
      fields-from b d fs (λ c k. all c (Contains-append_left fields (ints ++ atoms) c k)),
      rest-from b d r (λ c k. all c (Contains-append_right fields (ints ++ atoms) c (Contains-append_left ints atoms c k))),
      rest-from b d q (λ c k. all c (Contains-append_right fields (ints ++ atoms) c (Contains-append_right ints atoms c k))),
    )

fun-stands : (b : Bool) (d : List Def) (w : Term) (ps : List Term) (r : Term) → w ≡ Fun ps r → NoneUnder b d w → may_stand b
fun-stands true d w ps r e h = tt
fun-stands false d w ps r e h = h.funs ps r (subst (λ (x : Term). StandsUnder d false x w) e (itself w))

variable-stands : (b : Bool) (d : List Def) (n : ℕ) → NoneUnder b d (Var n) → may_stand b
variable-stands true d n h = tt
variable-stands false d n h = h.variables n (itself (Var n))

-- ---- unfoldings

module _ (d : List Def) where
  -- a name's unfolding has the property where the name has it, if the arguments' unfoldings have it where the arguments have it
  abbrev pub NamesKeep : NameUnfolding → Type 0
  NamesKeep e = (n : ℕ) (args us : List Term) → ((i : ℕ) (b : Bool) → NoneUnder b d (argument_of args i) → tree b d (argument_of us i)) → (b : Bool) → NoneUnder b d (Name n args) → tree b d (e n args us)

  module _ (e : NameUnfolding) (names : NamesKeep e) (f g : Substitution) (variables : (n : ℕ) (b : Bool) → NoneUnder b d (f n) → tree b d (g n)) where
    mutual
      tree-unfolded : (t : Term) (b : Bool) → NoneUnder b d (replaced f t) → tree b d (unfolded_in e f g t)
      tree-unfolded Any b h = tt
      tree-unfolded None b h = tt
      tree-unfolded (Ints low high) b h = tt
      tree-unfolded (AtomLit name) b h = tt
      tree-unfolded AnyAtom b h = tt
      tree-unfolded Nil b h = tt
      tree-unfolded (Cons' s (more_of-Term x end_of-Term) t (more_of-Term y end_of-Term)) b h =
          let c : all_none b d (replaced f x ∷ replaced f y ∷ []) = children-from b d _ _ (ap layer_positive_children (out-Cons' s t (replaced f x) (replaced f y))) h in
          (c.0, c.1.0)
      tree-unfolded (Tuple' s ts) b h = children-from b d _ _ (ap layer_positive_children (out-Tuple' s (replaced_row f ts))) h
      tree-unfolded AnyTuple b h = tt
      tree-unfolded (Map' s fs r q) b h = map-from b d s (replaced_fields f fs) (replaced_rest f r) (replaced_rest f q) h
      tree-unfolded (Fun' s ts t (more_of-Term x end_of-Term)) b h = fun-stands b d _ _ _ (fun-is s t (replaced_row f ts) (replaced f x)) h
      tree-unfolded (AnyFun arity) b h = tt
      tree-unfolded (Or' s ts) b h = rows-unfolded ts b (children-from b d _ _ (ap layer_positive_children (out-Or' s (replaced_row f ts))) h)
      tree-unfolded (And' s ts) b h = rows-unfolded ts b (children-from b d _ _ (ap layer_positive_children (out-And' s (replaced_row f ts))) h)
      tree-unfolded (Not' s (more_of-Term t end_of-Term)) b h = (tree-unfolded t (not b) (none-negated b d _ (replaced f t) (not-is s (replaced f t)) h), tt)
      tree-unfolded (Var n) b h = variables n b h
      tree-unfolded (Name' n s ts) b h = names n _ _ (arguments-unfolded ts) b (subst (NoneUnder b d) (name-terms n s (replaced_row f ts)) h)

      rows-unfolded : {m : _} (ts : Row_of-Term m) (b : Bool) → all_none b d (terms_of (replaced_row f ts)) → tree_row b d (unfolded_row e f g ts)
      rows-unfolded end_of-Term b h = tt
      rows-unfolded (more_of-Term t ts) b h = (tree-unfolded t b h.0, rows-unfolded ts b h.1)

      arguments-unfolded : {m : _} (ts : Row_of-Term m) (i : ℕ) (b : Bool) → NoneUnder b d (argument_of (terms_of (replaced_row f ts)) i) → tree b d (argument_of (terms_of (unfolded_row e f g ts)) i)
      arguments-unfolded end_of-Term i b h = tt
      arguments-unfolded (more_of-Term t ts) zero b h = tree-unfolded t b h
      arguments-unfolded (more_of-Term t ts) (suc i) b h = arguments-unfolded ts i b h

  names-keep : (k : ℕ) → NamesKeep (name_unfolded d k)
  names-keep zero n args us a b h = tt
  names-keep (suc k) n args us a b h = go (names-keep k) (body_of (slice_get d n) (length args)) refl
    where
      go : NamesKeep (name_unfolded d k) → (o : Option Term) → body_of (slice_get d n) (length args) ≡ o → tree b d (or_none o (unfolded_in (name_unfolded d k) (argument_of args) (argument_of us)))
      go below Nothing e = tt
      go below (Some t) e =
          let q : (def : Def) × (slice_get d n ≡ Some def) × (def.body ≡ t) × (length args ≡ def.params) = body-eq (slice_get d n) (length args) t e in
          tree-unfolded (name_unfolded d k) below (argument_of args) (argument_of us) a t b (subst (λ (u : Term). NoneUnder b d (replaced_by args u)) q.2 (none-body b d n args q.0 q.1 h))

  -- the unfolding of a term in which none stands so
  pub none-tree : (b : Bool) (t : Term) → NoneUnder b d t → tree b d (unfolded d t)
  none-tree b t h = tree-unfolded (name_unfolded d (length d)) (names-keep (length d)) Var Var (λ n c k. variable-stands c d n k) t b (subst (NoneUnder b d) (sym (replaced-id t)) h)
