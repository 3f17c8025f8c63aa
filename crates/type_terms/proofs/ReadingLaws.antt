-- The equations of `read`, for values and for elements.
use Rattle.std.proofs.Common.{◌≡◌, refl, ◌∙◌, ap, subst, ℕ, List, [], ◌∷◌, length, ◌↔◌, ⊎_elim, true}
use Rattle.std.specs.Prelude.{Option, Some, None as Nothing, slice_get, nat_eq, cond}
use Rattle.std.specs.List.{Contains}
use denote.Hole.Carrier.{hidden}
use Rattle.type_terms.specs.declared.term.Def.{Def}
use Rattle.type_terms.specs.declared.term.Field.{Field}
use Rattle.type_terms.specs.declared.term.Key.{Key}
use Rattle.type_terms.specs.declared.term.Term.{Term, Any, None, Cons, Tuple, Map, Fun, Or, And, Not, Var, Name, Row_of-Term, end_of-Term, more_of-Term, items-the_row-Term, items_hidden-the_row-Term-1, Row_of-Field, end_of-Field, more_of-Field, items-the_row-Field, items_hidden-the_row-Field-2, back-Term-Map-1}
use Rattle.type_terms.specs.declared.term.Term.TheBlock.{shape-the_row-Term-0, hidden-the_row-Term-0, hidden-the_row-Term-1, hidden-the_row-Field-2}
use Rattle.type_terms.specs.Keys.{same_key}
use Rattle.type_terms.specs.Parts.{field_term}
use Rattle.type_terms.specs.Replacement.{replaced, replaced_row, terms_of, argument_of}
use Rattle.type_terms.specs.Unfolding.{unfolded_row, name_unfolded, unfolded}
use Rattle.type_terms.proofs.Ranks.{Ranked}
use Rattle.type_terms.specs.Instances.{Instance, no_variables, variable_and}
use Rattle.type_terms.specs.Reading.{Reading, Layer, is_cons, is_tuple, is_map, is_fun, has_key, has_required, field_of, rest_term, holds, some_holds, all_hold, variable_in, read}
use Rattle.type_terms.proofs.Contained.{contains-none, contains-cases, contains-first, contains-later}
use Rattle.type_terms.proofs.ReplacementLaws.{replaced-id, replaced_row-id, replaced_fields-id, replaced_rest-id}
use Rattle.type_terms.proofs.UnfoldingLaws.{unfolded-name, name_unfolded-undefined}

pub terms_of-items : {m : _} (ts : Row_of-Term m) → terms_of ts ≡ items-the_row-Term m ts
terms_of-items end_of-Term = refl
terms_of-items (more_of-Term t ts) = ap (λ us. t ∷ us) (terms_of-items ts)

pub terms_of-hidden : (ts : List Term) → terms_of (hidden-the_row-Term-1 ts) ≡ ts
terms_of-hidden ts = terms_of-items (hidden-the_row-Term-1 ts) ∙ items_hidden-the_row-Term-1 ts

plain_list : (ts : List Term) → terms_of (replaced_row Var (hidden-the_row-Term-1 ts)) ≡ ts
plain_list ts = ap terms_of (replaced_row-id (hidden-the_row-Term-1 ts)) ∙ terms_of-hidden ts

-- a name unfolds as its body with the parameters replaced
pub unfolded-Name : (defs : List Def) (rank : ℕ → ℕ) (o : ℕ → ℕ → Type 0) → Ranked defs rank o → (n : ℕ) (args : List Term) (def : Def) → slice_get defs n ≡ Some def → length args ≡ def.params → unfolded defs (Name n args) ≡ unfolded defs (replaced (argument_of args) def.body)
unfolded-Name defs rank o ranked n args def e q =
    unfolded-name defs rank o ranked n (hidden-the_row-Term-1 args) def e (ap length (terms_of-hidden args) ∙ q)
    ∙ ap (λ us. unfolded defs (replaced (argument_of us) def.body)) (terms_of-hidden args)

-- a name without a definition of that number of parameters unfolds as `None`
pub unfolded-undefined : (defs : List Def) (n : ℕ) (args : List Term) → ((def : Def) → slice_get defs n ≡ Some def → def.params ≡ length args → ⊥) → unfolded defs (Name n args) ≡ None
unfolded-undefined defs n args h = name_unfolded-undefined defs (length defs) n _ _ (λ def e q. h def e (q ∙ ap length (plain_list args)))

abbrev pub some_of : (Term → Type 0) → List Term → Type 0
some_of q [] = ⊥
some_of q (t ∷ ts) = (q t → ⊥) × (some_of q ts → ⊥) → ⊥

abbrev pub all_of : (Term → Type 0) → List Term → Type 0
all_of q [] = Unit {0}
all_of q (t ∷ ts) = q t × all_of q ts

module _ (l : Layer) (tag : ℕ → Type 0) (d : List Def) (i : Instance) where
  abbrev reads : Term → Type 0
  reads t = holds l d i (variable_in l tag i) t

  pub read-Any : read l tag Any d i ≡ Unit {0}
  read-Any = refl

  pub read-None : read l tag None d i ≡ ⊥
  read-None = refl

  pub read-Not : (t : Term) → read l tag (Not t) d i ≡ (read l tag t d i → ⊥)
  unfolding shape-the_row-Term-0 hidden-the_row-Term-0 hidden
  read-Not t = refl

  some-list : {m : _} (ts : Row_of-Term m) → some_holds l d i (variable_in l tag i) (unfolded_row (name_unfolded d (length d)) Var Var ts) ≡ some_of (λ t. read l tag t d i) (terms_of ts)
  some-list end_of-Term = refl
  some-list (more_of-Term t ts) = λ j. (read l tag t d i → ⊥) × (some-list ts j → ⊥) → ⊥

  all-list : {m : _} (ts : Row_of-Term m) → all_hold l d i (variable_in l tag i) (unfolded_row (name_unfolded d (length d)) Var Var ts) ≡ all_of (λ t. read l tag t d i) (terms_of ts)
  all-list end_of-Term = refl
  all-list (more_of-Term t ts) = λ j. read l tag t d i × all-list ts j

  pub read-Or : (ts : List Term) → read l tag (Or ts) d i ≡ some_of (λ t. read l tag t d i) ts
  read-Or ts = some-list (hidden-the_row-Term-1 ts) ∙ ap (some_of (λ t. read l tag t d i)) (terms_of-hidden ts)

  pub read-And : (ts : List Term) → read l tag (And ts) d i ≡ all_of (λ t. read l tag t d i) ts
  read-And ts = all-list (hidden-the_row-Term-1 ts) ∙ ap (all_of (λ t. read l tag t d i)) (terms_of-hidden ts)

  pub read-Name : (rank : ℕ → ℕ) (o : ℕ → ℕ → Type 0) → Ranked d rank o → (n : ℕ) (args : List Term) (def : Def) → slice_get d n ≡ Some def → length args ≡ def.params → read l tag (Name n args) d i ≡ read l tag (replaced (argument_of args) def.body) d i
  read-Name rank o ranked n args def e q =
      ap reads (unfolded-Name d rank o ranked n args def e q)

  pub read-Cons : (s t : Term) → read l tag (Cons s t) d i ≡ is_cons (λ r. r s d i) (λ r. r t d i) l
  unfolding shape-the_row-Term-0 hidden-the_row-Term-0 hidden
  read-Cons s t = λ j. is_cons (λ r. r (replaced-id s j) d i) (λ r. r (replaced-id t j) d i) l

  pub read-Map : (fields : List Field) (rest_int rest_atom : Option Term) → read l tag (Map fields rest_int rest_atom) d i ≡ is_map (hidden-the_row-Field-2 fields) (back-Term-Map-1 rest_int) (back-Term-Map-1 rest_atom) d i l
  read-Map fields rest_int rest_atom = λ j. is_map (replaced_fields-id (hidden-the_row-Field-2 fields) j) (replaced_rest-id (back-Term-Map-1 rest_int) j) (replaced_rest-id (back-Term-Map-1 rest_atom) j) d i l

  pub read-Tuple : (ts : List Term) → read l tag (Tuple ts) d i ≡ is_tuple ts d i l
  read-Tuple ts = ap (λ us. is_tuple us d i l) (plain_list ts)

  pub read-Fun : (ss : List Term) (t : Term) → read l tag (Fun ss t) d i ≡ is_fun ss t d i l
  unfolding shape-the_row-Term-0 hidden-the_row-Term-0 hidden
  read-Fun ss t = λ j. is_fun (plain_list ss j) (replaced-id t j) d i l

module _ (l : Layer) (tag : ℕ → Type 0) (d : List Def) where
  pub read-Var : (a b : ℕ) (t : Term) (e : List Def) (g rest : Instance) → read l tag (Var a) d (variable_and b t e g rest) ≡ cond (nat_eq a b) (read l tag t e g) (read l tag (Var a) d rest)
  read-Var a b t e g rest = refl

  pub read-Var_none : (a : ℕ) → read l tag (Var a) d no_variables ≡ tag a
  read-Var_none a = refl

-- a map term's fields and rests, of which `read` takes another form
pub field_of-items : {m : _} (k : Key) (fs : Row_of-Field m) → field_of k fs ≡ field_term k (items-the_row-Field m fs)
field_of-items k end_of-Field = refl
field_of-items k (more_of-Field key r t fs) = ap (λ o. cond (same_key k key) (Some t) o) (field_of-items k fs)

pub field_of-hidden : (k : Key) (fields : List Field) → field_of k (hidden-the_row-Field-2 fields) ≡ field_term k fields
field_of-hidden k fields = field_of-items k (hidden-the_row-Field-2 fields) ∙ ap (field_term k) (items_hidden-the_row-Field-2 fields)

pub rest_term-back : (o : Option Term) → rest_term (back-Term-Map-1 o) ≡ o
unfolding shape-the_row-Term-0 hidden-the_row-Term-0 hidden
rest_term-back Nothing = refl
rest_term-back (Some t) = refl

required_in : List Field → List {1} (Key × Reading) → Type 0
required_in fields es = (f : Field) → Contains fields f → f.required ≡ true → has_key f.key es ≡ true

required-items : {m : _} (fs : Row_of-Field m) (es : List {1} (Key × Reading)) → has_required fs es ↔ required_in (items-the_row-Field m fs) es
unfolding required_in
required-items end_of-Field es = ((λ h f c. absurd (contains-none f c)), (λ h. tt))
required-items (more_of-Field key r t fs) es =
    let ih : has_required fs es ↔ required_in (items-the_row-Field _ fs) es = required-items fs es in (
      (λ h f c. ⊎_elim (λ (e : _ ≡ f). subst (λ (g : Field). g.required ≡ true → has_key g.key es ≡ true) e h.0) (λ c'. ih.0 h.1 f c') (contains-cases _ f _ c)),
      (λ h. (h _ (contains-first _ _), ih.1 (λ f c. h f (contains-later _ f _ c)))),
    )

pub required-hidden : (fields : List Field) (es : List {1} (Key × Reading)) → has_required (hidden-the_row-Field-2 fields) es ↔ ((f : Field) → Contains fields f → f.required ≡ true → has_key f.key es ≡ true)
unfolding required_in
required-hidden fields es = subst (λ fs. has_required (hidden-the_row-Field-2 fields) es ↔ required_in fs es) (items_hidden-the_row-Field-2 fields) (required-items (hidden-the_row-Field-2 fields) es)
