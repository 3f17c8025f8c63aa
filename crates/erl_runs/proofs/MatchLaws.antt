-- The equations of patterns, one for each form, and what is looked up in an environment that others shadow.
use Rattle.std.proofs.Common.{◌≡◌, refl, ap, sym, ◌∙◌, subst, ℕ, ℤ, pos, List, [], ◌∷◌, map, Bool, true, false, inl, inr}
use Rattle.std.specs.Prelude.{Option, Some, None, neg_ℤ, if◌then◌else◌}
use Rattle.std.proofs.lemmas.Bool.{true≢false}
use Rattle.type_terms.specs.declared.term.Key.{Key}
use Rattle.type_terms.specs.declared.term.Key.TheVariants.{Int as IntKey, Atom as AtomKey}
use Rattle.type_terms.specs.Keys.{Name, Bound, any_atom, key_lt}
use Rattle.type_terms.proofs.KeyLaws.{key-same, key-asym}
use Rattle.erl_tree.specs.declared.token.Node.{Node}
use Rattle.erl_tree.specs.declared.pattern.LiteralKind.{LiteralKind}
use Rattle.erl_tree.specs.declared.pattern.PatternKind.{PatternKind, fold-roll-PatternKind}
use Rattle.erl_tree.specs.declared.pattern.PatternKind.TheVariants as Y
use Rattle.erl_tree.specs.declared.pattern.PatternKind.TheOpen as P
use Rattle.erl_tree.specs.declared.pattern.PatternKind.TheShapes as S
use Rattle.erl_tree.specs.declared.form.RecDefKind.{RecDefKind}
use Rattle.erl_runs.specs.Names.{is_wildcard}
use Rattle.erl_runs.specs.Value.{Value, integer, atom, nil, Row, no_entries, entry_and, Environment, no_bindings}
use Rattle.erl_runs.specs.FiniteMaps.{pick, get}
use Rattle.erl_runs.specs.Records.{string_value, find_record, or_else}
use Rattle.erl_runs.specs.Matching.{variable_value, with_variable, shadowed_by, Match, match_next, match_value, match_variable, match_cells, literal_key, match_record, match_tuple, match_map, match_tail, kinds, match_layer, match_kind, match_pattern}
use Rattle.erl_runs.proofs.FiniteMapLaws.{get-below, get-insert_same, get-insert_other, same-row}

-- ---- environments

pick-of : {x y a b : Bool} → x ≡ a → y ≡ b → (v : Value) (o : Option Value) → pick x y v o ≡ pick a b v o
pick-of p q v o = λ j. pick (p j) (q j) v o

-- a variable that is shadowed has the new value, and each other the old one
pub get-shadowed : {b : Bound} (own : Row b) (environment : Environment) (x : Name) → variable_value (shadowed_by own environment) x ≡ or_else (get own (AtomKey x)) (variable_value environment x)
get-shadowed no_entries environment x = refl
get-shadowed (entry_and (IntKey n) e v more) environment x = get-shadowed more environment x
get-shadowed (entry_and (AtomKey y) e v more) environment x = go (key_lt (AtomKey x) (AtomKey y)) (key_lt (AtomKey y) (AtomKey x)) refl refl (get-shadowed more environment x)
  where
    go : (a c : Bool) → key_lt (AtomKey x) (AtomKey y) ≡ a → key_lt (AtomKey y) (AtomKey x) ≡ c → variable_value (shadowed_by more environment) x ≡ or_else (get more (AtomKey x)) (variable_value environment x) →
        variable_value (with_variable y v (shadowed_by more environment)) x ≡ or_else (pick (key_lt (AtomKey x) (AtomKey y)) (key_lt (AtomKey y) (AtomKey x)) v (get more (AtomKey x))) (variable_value environment x)
    go true c p q h =
        get-insert_other {b = any_atom} (AtomKey y) refl v (shadowed_by more environment) (AtomKey x) (inl p)
        ∙ (h ∙ (λ j. or_else (get-below (AtomKey y) more (AtomKey x) (key-asym (AtomKey x) (AtomKey y) p) j) (variable_value environment x))
        ∙ sym (λ j. or_else (pick-of p q v (get more (AtomKey x)) j) (variable_value environment x)))
    go false true p q h =
        get-insert_other {b = any_atom} (AtomKey y) refl v (shadowed_by more environment) (AtomKey x) (inr q)
        ∙ (h ∙ sym (λ j. or_else (pick-of p q v (get more (AtomKey x)) j) (variable_value environment x)))
    go false false p q h =
        subst (λ z. get (with_variable y v (shadowed_by more environment)) z ≡ Some v) (key-same (AtomKey y) (AtomKey x) q p) (get-insert_same {b = any_atom} (AtomKey y) refl v (shadowed_by more environment))
        ∙ sym (λ j. or_else (pick-of p q v (get more (AtomKey x)) j) (variable_value environment x))

-- an environment has no integer for a variable
no-integer : (environment : Environment) (n : ℤ) → get environment (IntKey n) ≡ None
no-integer no_entries n = refl
no-integer (entry_and (AtomKey x) e v more) n = refl
no-integer (entry_and (IntKey m) e v more) n = absurd (true≢false (sym e))

-- bindings of their own, where there are no others
pub shadowed-none : (own : Environment) → shadowed_by own no_bindings ≡ own
shadowed-none own = same-row (shadowed_by own no_bindings) own same
  where
    or-none : (o : Option Value) → or_else o None ≡ o
    or-none None = refl
    or-none (Some v) = refl

    same : (k : Key) → get (shadowed_by own no_bindings) k ≡ get own k
    same (IntKey n) = no-integer (shadowed_by own no_bindings) n ∙ sym (no-integer own n)
    same (AtomKey x) = get-shadowed own no_bindings x ∙ or-none (get own (AtomKey x))

-- ---- patterns

module _ (records : List RecDefKind) where
  -- the matches of entries and fields
  abbrev pub entry_match : Node (Node LiteralKind × Node PatternKind) → Key × Match
  entry_match e = (literal_key e.kind.0.kind, match_pattern records e.kind.1)

  abbrev pub field_match : Node (Name × Node PatternKind) → Name × Match
  field_match f = (f.kind.0, match_pattern records f.kind.1)

  abbrev pub tail_match : Option (Node PatternKind) → Match
  tail_match None v environment = match_value nil v environment
  tail_match (Some p) v environment = match_pattern records p v environment

  patterns-are : (ps : List (Node PatternKind)) → kinds (S.former-PatternKind-Tuple-0.map PatternKind Match (match_kind records) ps) ≡ map (match_pattern records) ps
  patterns-are [] = refl
  patterns-are (p ∷ ps) = ap (λ ms. match_pattern records p ∷ ms) (patterns-are ps)

  tail-is : (o : Option (Node PatternKind)) → match_tail (S.former-PatternKind-Cells-1.map PatternKind Match (match_kind records) o) ≡ tail_match o
  tail-is None = refl
  tail-is (Some p) = refl

  entries-are : (es : List (Node (Node LiteralKind × Node PatternKind))) → map (λ e. (literal_key e.kind.0.kind, e.kind.1.kind)) (S.former-PatternKind-Map-0.map PatternKind Match (match_kind records) es) ≡ map entry_match es
  entries-are [] = refl
  entries-are (e ∷ es) = ap (λ ms. entry_match e ∷ ms) (entries-are es)

  fields-are : (fs : List (Node (Name × Node PatternKind))) → map (λ f. (f.kind.0, f.kind.1.kind)) (S.former-PatternKind-Rec-2.map PatternKind Match (match_kind records) fs) ≡ map field_match fs
  fields-are [] = refl
  fields-are (f ∷ fs) = ap (λ ms. field_match f ∷ ms) (fields-are fs)

  pub match_kind-Atom : (a : Name) → match_kind records (Y.Atom a) ≡ (λ v environment. match_value (atom a) v environment)
  unfolding match_kind
  match_kind-Atom a = ap (λ k. match_kind records k) (sym (Y.rolls-Atom a)) ∙ fold-roll-PatternKind Match (match_layer records) (P.Atom a)

  pub match_kind-Int : (n : ℤ) → match_kind records (Y.Int n) ≡ (λ v environment. match_value (integer n) v environment)
  unfolding match_kind
  match_kind-Int n = ap (λ k. match_kind records k) (sym (Y.rolls-Int n)) ∙ fold-roll-PatternKind Match (match_layer records) (P.Int n)

  pub match_kind-NegInt : (n : ℤ) → match_kind records (Y.NegInt n) ≡ (λ v environment. match_value (integer (neg_ℤ n)) v environment)
  unfolding match_kind
  match_kind-NegInt n = ap (λ k. match_kind records k) (sym (Y.rolls-NegInt n)) ∙ fold-roll-PatternKind Match (match_layer records) (P.NegInt n)

  pub match_kind-Char : (c : ℕ) → match_kind records (Y.Char c) ≡ (λ v environment. match_value (integer (pos c)) v environment)
  unfolding match_kind
  match_kind-Char c = ap (λ k. match_kind records k) (sym (Y.rolls-Char c)) ∙ fold-roll-PatternKind Match (match_layer records) (P.Char c)

  pub match_kind-Str : (s : List ℕ) → match_kind records (Y.Str s) ≡ (λ v environment. match_value (string_value s) v environment)
  unfolding match_kind
  match_kind-Str s = ap (λ k. match_kind records k) (sym (Y.rolls-Str s)) ∙ fold-roll-PatternKind Match (match_layer records) (P.Str s)

  pub match_kind-Var : (x : Name) → match_kind records (Y.Var x) ≡ (λ v environment. if is_wildcard x then Some environment else match_variable (variable_value environment x) x v environment)
  unfolding match_kind
  match_kind-Var x = ap (λ k. match_kind records k) (sym (Y.rolls-Var x)) ∙ fold-roll-PatternKind Match (match_layer records) (P.Var x)

  pub match_kind-Paren : (p : Node PatternKind) → match_kind records (Y.Paren p) ≡ (λ v environment. match_pattern records p v environment)
  unfolding match_kind
  match_kind-Paren p = ap (λ k. match_kind records k) (sym (Y.rolls-Paren p)) ∙ fold-roll-PatternKind Match (match_layer records) (P.Paren p)

  pub match_kind-Tuple : (ps : List (Node PatternKind)) → match_kind records (Y.Tuple ps) ≡ (λ v environment. match_tuple (map (match_pattern records) ps) v environment)
  unfolding match_kind
  match_kind-Tuple ps = (ap (λ k. match_kind records k) (sym (Y.rolls-Tuple ps)) ∙ fold-roll-PatternKind Match (match_layer records) (P.Tuple ps)) ∙ (λ j v environment. match_tuple (patterns-are ps j) v environment)

  pub match_kind-Cells : (ps : List (Node PatternKind)) (o : Option (Node PatternKind)) → match_kind records (Y.Cells ps o) ≡ (λ v environment. match_cells (map (match_pattern records) ps) (tail_match o) v environment)
  unfolding match_kind
  match_kind-Cells ps o = (ap (λ k. match_kind records k) (sym (Y.rolls-Cells ps o)) ∙ fold-roll-PatternKind Match (match_layer records) (P.Cells ps o)) ∙ (λ j v environment. match_cells (patterns-are ps j) (tail-is o j) v environment)

  pub match_kind-Map : (es : List (Node (Node LiteralKind × Node PatternKind))) → match_kind records (Y.Map es) ≡ (λ v environment. match_map (map entry_match es) v environment)
  unfolding match_kind
  match_kind-Map es = (ap (λ k. match_kind records k) (sym (Y.rolls-Map es)) ∙ fold-roll-PatternKind Match (match_layer records) (P.Map es)) ∙ (λ j v environment. match_map (entries-are es j) v environment)

  pub match_kind-Rec : (name tag : Name) (fs : List (Node (Name × Node PatternKind))) → match_kind records (Y.Rec name tag fs) ≡ (λ v environment. match_record (find_record records name) tag (map field_match fs) v environment)
  unfolding match_kind
  match_kind-Rec name tag fs = (ap (λ k. match_kind records k) (sym (Y.rolls-Rec name tag fs)) ∙ fold-roll-PatternKind Match (match_layer records) (P.Rec name tag fs)) ∙ (λ j v environment. match_record (find_record records name) tag (fields-are fs j) v environment)

  pub match_kind-Alias : (p q : Node PatternKind) → match_kind records (Y.Alias p q) ≡ (λ v environment. match_next (match_pattern records p v environment) (match_pattern records q v))
  unfolding match_kind
  match_kind-Alias p q = ap (λ k. match_kind records k) (sym (Y.rolls-Alias p q)) ∙ fold-roll-PatternKind Match (match_layer records) (P.Alias p q)
