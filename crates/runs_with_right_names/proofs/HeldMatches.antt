-- What matching does to an environment: it keeps what is there, gives each variable of its patterns a value, and binds only values whose funs are such that two predicates hold of them, where it is given such values.
use Rattle.std.proofs.Common.{◌≡◌, refl, ap, sym, subst, ℕ, pos, List, [], ◌∷◌, ◌++◌, map, Bool, true, false}
use Rattle.std.specs.Prelude.{Option, Some, None, is_some, if◌then◌else◌, neg_ℤ}
use Rattle.std.proofs.lemmas.List.{append_assoc}
use Rattle.type_terms.specs.declared.term.Key.{Key}
use Rattle.type_terms.specs.Keys.{Name, any_key}
use Rattle.erl_tree.specs.declared.token.Place.{Place}
use Rattle.erl_tree.specs.declared.token.Node.{Node}
use Rattle.erl_tree.specs.declared.pattern.LiteralKind.{LiteralKind}
use Rattle.erl_tree.specs.declared.pattern.PatternKind.{PatternKind, roll-PatternKind, map-PatternKind, ind-PatternKind, fold-roll-PatternKind}
use Rattle.erl_tree.specs.declared.pattern.PatternKind.TheOpen as P
use Rattle.erl_tree.specs.declared.pattern.PatternKind.TheShapes as S
use Rattle.erl_tree.specs.declared.form.RecDefKind.{RecDefKind}
use Rattle.erl_tree.specs.declared.form.RecFieldKind.{RecFieldKind}
use Rattle.erl_tree.specs.Lists.{Every}
use Rattle.erl_runs.specs.Names.{is_wildcard}
use Rattle.erl_runs.specs.Value.{Value, integer, atom, nil, cons, tuple, map_of, Row, items_of, Environment}
use Rattle.erl_runs.specs.FiniteMaps.{get}
use Rattle.erl_runs.specs.Order.{same_value}
use Rattle.erl_runs.specs.Records.{string_value, find_record, fields_of, field_value, record_values}
use Rattle.erl_runs.specs.Matching.{variable_value, Match, match_next, match_value, match_variable, match_each, match_cells, match_found, literal_key, match_entries, match_fields, match_record, match_tuple, match_map, match_tail, kinds, match_layer, match_kind, match_pattern, match_patterns}
use Rattle.erl_scope_rules.specs.Occurrences.{Variables, variables_of_each, variables_of_node, variables_of_optional, variables_layer, pattern_kind_variables, variables_of, row_variables}
use Rattle.runs_with_right_names.proofs.Held.{has, Held, AllHeld, RowHeld, FoundHeld}
use Rattle.runs_with_right_names.proofs.HeldValues.{none≢some, some-same, get-held, with_variable-held, with_variable-binds, with_variable-grows, items-held, field_value-held, record_values-held, found-held}

every-append : {A : Type 0} (P : A → Type 0) (xs ys : List A) → Every P xs → Every P ys → Every P (xs ++ ys)
every-append P [] ys h k = k
every-append P (x ∷ xs) ys h k = (h.0, every-append P xs ys h.1 k)

every-more : {A : Type 0} (P Q : A → Type 0) (xs : List A) → ((x : A) → P x → Q x) → Every P xs → Every Q xs
every-more P Q [] f h = tt
every-more P Q (x ∷ xs) f h = (f x h.0, every-more P Q xs f h.1)

-- a match that succeeds behind another one: what is between them
between : (o : Option Environment) (next : Environment → Option Environment) (out : Environment) → match_next o next ≡ Some out → (middle : Environment) × (o ≡ Some middle) × (next middle ≡ Some out)
between None next out e = absurd (none≢some out e)
between (Some middle) next out e = (middle, refl, e)

-- these variables have values
abbrev AreBound : Environment → List (Name × Place) → Type 0
AreBound environment ys = Every (λ y. has environment y.0 ≡ true) ys

module _ (named : Name → ℕ → Type 0) (closed : ℕ → Environment → Type 0) where
  -- ---- one match

  -- what a match makes of an environment, where so much is given of its value: it keeps what is there, and binds these variables
  pub record Binds (given : Type 0) (f : Environment → Option Environment) (ys : List (Name × Place)) : Type 0 where
    pub held : given → (environment out : Environment) → f environment ≡ Some out → RowHeld named closed environment → RowHeld named closed out
    pub grows : (environment out : Environment) → f environment ≡ Some out → (x : Name) → has environment x ≡ true → has out x ≡ true
    pub binds : (environment out : Environment) → f environment ≡ Some out → AreBound out ys

  none-binds : (given : Type 0) (ys : List (Name × Place)) → Binds given (λ environment. None) ys
  none-binds given ys = record {
    held = λ c environment out e r. absurd (none≢some out e);
    grows = λ environment out e x h. absurd (none≢some out e);
    binds = λ environment out e. absurd (none≢some out e);
  }

  some-binds : (given : Type 0) → Binds given (λ environment. Some environment) []
  some-binds given = record {
    held = λ c environment out e r. subst (λ z. RowHeld named closed z) (some-same environment out e) r;
    grows = λ environment out e x h. subst (λ z. has z x ≡ true) (some-same environment out e) h;
    binds = λ environment out e. tt;
  }

  -- where more is given
  given_more : (given less : Type 0) (f : Environment → Option Environment) (ys : List (Name × Place)) → (given → less) → Binds less f ys → Binds given f ys
  given_more given less f ys c b = record { held = λ d. b.held (c d); grows = b.grows; binds = b.binds }

  next-binds : (given : Type 0) (f g : Environment → Option Environment) (ys zs : List (Name × Place)) → Binds given f ys → Binds given g zs → Binds given (λ environment. match_next (f environment) g) (ys ++ zs)
  next-binds given f g ys zs b d = record {
    held = λ c environment out e r. let w = between (f environment) g out e in d.held c w.0 out w.2 (b.held c environment w.0 w.1 r);
    grows = λ environment out e x h. let w = between (f environment) g out e in d.grows w.0 out w.2 x (b.grows environment w.0 w.1 x h);
    binds = λ environment out e. let w = between (f environment) g out e in every-append _ ys zs (every-more _ _ ys (λ y h. d.grows w.0 out w.2 y.0 h) (b.binds environment w.0 w.1)) (d.binds w.0 out w.2);
  }

  value-binds : (given : Type 0) (w v : Value) → Binds given (λ environment. match_value w v environment) []
  value-binds given w v = go (same_value w v)
    where
      go : (b : Bool) → Binds given (λ environment. if b then Some environment else None) []
      go true = some-binds given
      go false = none-binds given []

  -- a variable that isn't the wildcard
  variable-binds : (x : Name) (place : Place) (v : Value) → Binds (Held named closed v) (λ environment. match_variable (variable_value environment x) x v environment) ((x, place) ∷ [])
  variable-binds x place v = record {
    held = λ c environment out e r. keeps c environment out (variable_value environment x) e r;
    grows = λ environment out e y h. grows environment out (variable_value environment x) e y h;
    binds = λ environment out e. (binds environment out (variable_value environment x) refl e, tt);
  }
    where
      keeps : Held named closed v → (environment out : Environment) (o : Option Value) → match_variable o x v environment ≡ Some out → RowHeld named closed environment → RowHeld named closed out
      keeps c environment out None e r = subst (λ z. RowHeld named closed z) (some-same _ out e) (with_variable-held named closed x v environment c r)
      keeps c environment out (Some w) e r = (value-binds (Held named closed v) w v).held c environment out e r

      grows : (environment out : Environment) (o : Option Value) → match_variable o x v environment ≡ Some out → (y : Name) → has environment y ≡ true → has out y ≡ true
      grows environment out None e y h = subst (λ z. has z y ≡ true) (some-same _ out e) (with_variable-grows x v environment y h)
      grows environment out (Some w) e y h = (value-binds (Held named closed v) w v).grows environment out e y h

      binds : (environment out : Environment) (o : Option Value) → variable_value environment x ≡ o → match_variable o x v environment ≡ Some out → has out x ≡ true
      binds environment out None p e = subst (λ z. has z x ≡ true) (some-same _ out e) (with_variable-binds x v environment)
      binds environment out (Some w) p e = (value-binds (Held named closed v) w v).grows environment out e x (ap is_some p)

  any_variable-binds : (wild : Bool) (x : Name) (place : Place) (v : Value) → Binds (Held named closed v) (λ environment. if wild then Some environment else match_variable (variable_value environment x) x v environment) (if wild then [] else (x, place) ∷ [])
  any_variable-binds true x place v = some-binds (Held named closed v)
  any_variable-binds false x place v = variable-binds x place v

  -- what is found has to match
  found-binds : (given : Type 0) (o : Option Value) (m : Match) (ys : List (Name × Place)) → (given → FoundHeld named closed (Held named closed) o) → ((v : Value) → Binds (Held named closed v) (m v) ys) → Binds given (λ environment. match_found o m environment) ys
  found-binds given None m ys h b = none-binds given ys
  found-binds given (Some v) m ys h b = given_more given (Held named closed v) (m v) ys h (b v)

  get-found : (row : Row any_key) (k : Key) → RowHeld named closed row → FoundHeld named closed (Held named closed) (get row k)
  get-found row k h = go (get row k) refl
    where
      go : (o : Option Value) → get row k ≡ o → FoundHeld named closed (Held named closed) o
      go None p = tt
      go (Some v) p = get-held named closed row k v h p

  -- ---- patterns

  module _ (records : List RecDefKind) where
    -- a pattern, whatever its place and its value
    abbrev KindBinds : PatternKind → Type 0
    KindBinds k = (place : Place) (v : Value) → Binds (Held named closed v) (λ environment. match_kind records k v environment) (pattern_kind_variables k place)

    abbrev Pattern : Type 0
    Pattern = (k : PatternKind) × KindBinds k

    abbrev plain : P.PatternKind-F Pattern → P.PatternKind-F PatternKind
    plain y = map-PatternKind Pattern PatternKind (λ k. k.0) y

    abbrev bare : List (Node Pattern) → List (Node PatternKind)
    bare ns = S.former-PatternKind-Tuple-0.map Pattern PatternKind (λ k. k.0) ns

    abbrev matches_of : List (Node Pattern) → List Match
    matches_of ns = kinds (S.former-PatternKind-Tuple-0.map PatternKind Match (match_kind records) (bare ns))

    abbrev variables_in : List (Node Pattern) → List (Name × Place)
    variables_in ns = variables_of_each variables_of_node (S.former-PatternKind-Tuple-0.map PatternKind Variables pattern_kind_variables (bare ns))

    patterns-bind : (ns : List (Node Pattern)) (vs : List Value) → Binds (AllHeld named closed vs) (λ environment. match_each (matches_of ns) vs environment) (variables_in ns)
    patterns-bind [] [] = some-binds (AllHeld named closed [])
    patterns-bind [] (v ∷ vs) = none-binds (AllHeld named closed (v ∷ vs)) []
    patterns-bind (n ∷ ns) [] = none-binds (AllHeld named closed []) (variables_in (n ∷ ns))
    patterns-bind (n ∷ ns) (v ∷ vs) =
        next-binds (AllHeld named closed (v ∷ vs)) (λ environment. match_kind records n.kind.0 v environment) (λ environment. match_each (matches_of ns) vs environment) (pattern_kind_variables n.kind.0 n.place) (variables_in ns)
        (given_more _ _ _ _ (λ h. h.0) (n.kind.1 n.place v))
        (given_more _ _ _ _ (λ h. h.1) (patterns-bind ns vs))

    tuple-binds : (ns : List (Node Pattern)) (v : Value) → Binds (Held named closed v) (λ environment. match_tuple (matches_of ns) v environment) (variables_in ns)
    tuple-binds ns (tuple vs) = given_more _ _ _ _ (λ h. items-held named closed vs h) (patterns-bind ns (items_of vs))
    tuple-binds ns _ = none-binds _ _

    abbrev tail_match : Option (Node Pattern) → Match
    tail_match tail = match_tail (S.former-PatternKind-Cells-1.map PatternKind Match (match_kind records) (S.former-PatternKind-Cells-1.map Pattern PatternKind (λ k. k.0) tail))

    abbrev tail_variables : Option (Node Pattern) → List (Name × Place)
    tail_variables tail = variables_of_optional (S.former-PatternKind-Cells-1.map PatternKind Variables pattern_kind_variables (S.former-PatternKind-Cells-1.map Pattern PatternKind (λ k. k.0) tail))

    tail-binds : (tail : Option (Node Pattern)) (v : Value) → Binds (Held named closed v) (λ environment. tail_match tail v environment) (tail_variables tail)
    tail-binds None v = value-binds (Held named closed v) nil v
    tail-binds (Some n) v = n.kind.1 n.place v

    cells-bind : (ns : List (Node Pattern)) (tail : Option (Node Pattern)) (v : Value) → Binds (Held named closed v) (λ environment. match_cells (matches_of ns) (tail_match tail) v environment) (variables_in ns ++ tail_variables tail)
    cells-bind [] tail v = tail-binds tail v
    cells-bind (n ∷ ns) tail (cons head rest) =
        subst (λ ys. Binds (Held named closed (cons head rest)) (λ environment. match_cells (matches_of (n ∷ ns)) (tail_match tail) (cons head rest) environment) ys)
        (sym (append_assoc (pattern_kind_variables n.kind.0 n.place) (variables_in ns) (tail_variables tail)))
        (next-binds (Held named closed (cons head rest)) (λ environment. match_kind records n.kind.0 head environment) (λ environment. match_cells (matches_of ns) (tail_match tail) rest environment) (pattern_kind_variables n.kind.0 n.place) (variables_in ns ++ tail_variables tail)
        (given_more _ _ _ _ (λ h. h.0) (n.kind.1 n.place head))
        (given_more _ _ _ _ (λ h. h.1) (cells-bind ns tail rest)))
    cells-bind (n ∷ ns) tail _ = none-binds _ _

    -- the entries of a map pattern
    abbrev Entries : Type 0
    Entries = List (Node (Node LiteralKind × Node Pattern))

    abbrev entry_matches : Entries → List (Key × Match)
    entry_matches es = map (λ e. (literal_key e.kind.0.kind, e.kind.1.kind)) (S.former-PatternKind-Map-0.map PatternKind Match (match_kind records) (S.former-PatternKind-Map-0.map Pattern PatternKind (λ k. k.0) es))

    abbrev entry_variables : Entries → List (Name × Place)
    entry_variables es = variables_of_each (λ e. variables_of_node e.kind.1) (S.former-PatternKind-Map-0.map PatternKind Variables pattern_kind_variables (S.former-PatternKind-Map-0.map Pattern PatternKind (λ k. k.0) es))

    entries-bind : (es : Entries) (row : Row any_key) → Binds (RowHeld named closed row) (λ environment. match_entries (entry_matches es) row environment) (entry_variables es)
    entries-bind [] row = some-binds (RowHeld named closed row)
    entries-bind (e ∷ es) row =
        next-binds (RowHeld named closed row) (λ environment. match_found (get row (literal_key e.kind.0.kind)) (match_kind records e.kind.1.kind.0) environment) (λ environment. match_entries (entry_matches es) row environment) (pattern_kind_variables e.kind.1.kind.0 e.kind.1.place) (entry_variables es)
        (found-binds (RowHeld named closed row) (get row (literal_key e.kind.0.kind)) (match_kind records e.kind.1.kind.0) _ (get-found row (literal_key e.kind.0.kind)) (e.kind.1.kind.1 e.kind.1.place))
        (entries-bind es row)

    map-binds : (es : Entries) (v : Value) → Binds (Held named closed v) (λ environment. match_map (entry_matches es) v environment) (entry_variables es)
    map-binds es (map_of row) = entries-bind es row
    map-binds es _ = none-binds _ _

    -- the fields of a record pattern
    abbrev Fields : Type 0
    Fields = List (Node (Name × Node Pattern))

    abbrev field_matches : Fields → List (Name × Match)
    field_matches fs = map (λ f. (f.kind.0, f.kind.1.kind)) (S.former-PatternKind-Rec-2.map PatternKind Match (match_kind records) (S.former-PatternKind-Rec-2.map Pattern PatternKind (λ k. k.0) fs))

    abbrev field_variables : Fields → List (Name × Place)
    field_variables fs = variables_of_each (λ f. variables_of_node f.kind.1) (S.former-PatternKind-Rec-2.map PatternKind Variables pattern_kind_variables (S.former-PatternKind-Rec-2.map Pattern PatternKind (λ k. k.0) fs))

    fields-bind : (fs : Fields) (fields : List RecFieldKind) (vs : List Value) → Binds (AllHeld named closed vs) (λ environment. match_fields (field_matches fs) fields vs environment) (field_variables fs)
    fields-bind [] fields vs = some-binds (AllHeld named closed vs)
    fields-bind (f ∷ fs) fields vs =
        next-binds (AllHeld named closed vs) (λ environment. match_found (field_value fields vs f.kind.0) (match_kind records f.kind.1.kind.0) environment) (λ environment. match_fields (field_matches fs) fields vs environment) (pattern_kind_variables f.kind.1.kind.0 f.kind.1.place) (field_variables fs)
        (found-binds (AllHeld named closed vs) (field_value fields vs f.kind.0) (match_kind records f.kind.1.kind.0) _ (field_value-held named closed fields vs f.kind.0) (f.kind.1.kind.1 f.kind.1.place))
        (fields-bind fs fields vs)

    record-binds : (declared : Option RecDefKind) (tag : Name) (fs : Fields) (v : Value) → Binds (Held named closed v) (λ environment. match_record declared tag (field_matches fs) v environment) (field_variables fs)
    record-binds None tag fs v = none-binds _ _
    record-binds (Some r) tag fs v = go (record_values r tag v) refl
      where
        go : (o : Option (List Value)) → record_values r tag v ≡ o → Binds (Held named closed v) (λ environment. match_record (Some r) tag (field_matches fs) v environment) (field_variables fs)
        go None p = rw p (none-binds _ _)
        go (Some vs) p = rw p (given_more _ _ _ _ (λ h. found-held named closed (AllHeld named closed) (record_values r tag v) vs (record_values-held named closed r tag v h) p) (fields-bind fs (fields_of r) vs))

    layer-binds : (y : P.PatternKind-F Pattern) (place : Place) (v : Value) → Binds (Held named closed v) (λ environment. match_layer records (map-PatternKind PatternKind Match (match_kind records) (plain y)) v environment) (variables_layer (map-PatternKind PatternKind Variables pattern_kind_variables (plain y)) place)
    layer-binds (P.Atom a) place v = value-binds (Held named closed v) (atom a) v
    layer-binds (P.Int n) place v = value-binds (Held named closed v) (integer n) v
    layer-binds (P.NegInt n) place v = value-binds (Held named closed v) (integer (neg_ℤ n)) v
    layer-binds (P.Char c) place v = value-binds (Held named closed v) (integer (pos c)) v
    layer-binds (P.Str s) place v = value-binds (Held named closed v) (string_value s) v
    layer-binds (P.Var x) place v = any_variable-binds (is_wildcard x) x place v
    layer-binds (P.Paren p) place v = p.kind.1 p.place v
    layer-binds (P.Tuple ps) place v = tuple-binds ps v
    layer-binds (P.Cells ps tail) place v = cells-bind ps tail v
    layer-binds (P.Map entries) place v = map-binds entries v
    layer-binds (P.Rec name tag fields) place v = record-binds (find_record records name) tag fields v
    layer-binds (P.Alias p q) place v = next-binds (Held named closed v) (λ environment. match_kind records p.kind.0 v environment) (λ environment. match_kind records q.kind.0 v environment) _ _ (p.kind.1 p.place v) (q.kind.1 q.place v)

    match-rolls : (x : P.PatternKind-F PatternKind) → match_kind records (roll-PatternKind x) ≡ match_layer records (map-PatternKind PatternKind Match (match_kind records) x)
    unfolding match_kind
    match-rolls x = fold-roll-PatternKind Match (match_layer records) x

    variables-roll : (x : P.PatternKind-F PatternKind) → pattern_kind_variables (roll-PatternKind x) ≡ variables_layer (map-PatternKind PatternKind Variables pattern_kind_variables x)
    unfolding pattern_kind_variables
    variables-roll x = fold-roll-PatternKind Variables variables_layer x

    kind-binds : (k : PatternKind) → KindBinds k
    kind-binds = ind-PatternKind KindBinds (λ x y e. subst (λ z. KindBinds (roll-PatternKind z)) e (rolled y))
      where
        rolled : (y : P.PatternKind-F Pattern) → KindBinds (roll-PatternKind (plain y))
        rolled y place v = subst (λ z. z) (λ j. Binds (Held named closed v) (λ environment. sym (match-rolls (plain y)) j v environment) (sym (variables-roll (plain y)) j place)) (layer-binds y place v)

    -- ---- the three laws of a pattern, and of a row of patterns

    pub match-held : (p : Node PatternKind) (v : Value) (environment out : Environment) → Held named closed v → RowHeld named closed environment → match_pattern records p v environment ≡ Some out → RowHeld named closed out
    match-held p v environment out h r e = (kind-binds p.kind p.place v).held h environment out e r

    pub match-grows : (p : Node PatternKind) (v : Value) (environment out : Environment) → match_pattern records p v environment ≡ Some out → (x : Name) → has environment x ≡ true → has out x ≡ true
    match-grows p v environment out e x h = (kind-binds p.kind p.place v).grows environment out e x h

    pub match-binds : (p : Node PatternKind) (v : Value) (environment out : Environment) → match_pattern records p v environment ≡ Some out → Every (λ y. has out y.0 ≡ true) (variables_of p)
    match-binds p v environment out e = (kind-binds p.kind p.place v).binds environment out e

    row-all : (ps : List (Node PatternKind)) (vs : List Value) → Binds (AllHeld named closed vs) (λ environment. match_patterns records ps vs environment) (row_variables ps)
    row-all [] [] = some-binds (AllHeld named closed [])
    row-all [] (v ∷ vs) = none-binds (AllHeld named closed (v ∷ vs)) []
    row-all (p ∷ ps) [] = none-binds (AllHeld named closed []) (row_variables (p ∷ ps))
    row-all (p ∷ ps) (v ∷ vs) =
        next-binds (AllHeld named closed (v ∷ vs)) (λ environment. match_pattern records p v environment) (λ environment. match_patterns records ps vs environment) (variables_of p) (row_variables ps)
        (given_more _ _ _ _ (λ h. h.0) (kind-binds p.kind p.place v))
        (given_more _ _ _ _ (λ h. h.1) (row-all ps vs))

    pub row-held : (ps : List (Node PatternKind)) (vs : List Value) (environment out : Environment) → AllHeld named closed vs → RowHeld named closed environment → match_patterns records ps vs environment ≡ Some out → RowHeld named closed out
    row-held ps vs environment out h r e = (row-all ps vs).held h environment out e r

    pub row-grows : (ps : List (Node PatternKind)) (vs : List Value) (environment out : Environment) → match_patterns records ps vs environment ≡ Some out → (x : Name) → has environment x ≡ true → has out x ≡ true
    row-grows ps vs environment out e x h = (row-all ps vs).grows environment out e x h

    pub row-binds : (ps : List (Node PatternKind)) (vs : List Value) (environment out : Environment) → match_patterns records ps vs environment ≡ Some out → Every (λ y. has out y.0 ≡ true) (row_variables ps)
    row-binds ps vs environment out e = (row-all ps vs).binds environment out e
