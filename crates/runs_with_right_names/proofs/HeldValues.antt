-- What is looked up in values, or made of them, has what all of them have: its funs are such that two predicates hold of them.
use Rattle.std.proofs.Common.{◌≡◌, refl, sym, ◌∙◌, ap, subst, ℕ, suc, ℤ, pos, negsuc, List, [], ◌∷◌, map, length, Bool, true, false, ◌||◌, inl, inr, arith}
use Rattle.std.specs.Prelude.{Option, Some, None, is_some, if◌then◌else◌, nat_eq, codes}
use Rattle.std.specs.List.{list_any}
use Rattle.std.specs.Str.{chars}
use Rattle.std.proofs.lemmas.Bool.{and_parts, eqb-true, false≢true}
use Rattle.type_terms.specs.declared.term.Key.{Key}
use Rattle.type_terms.specs.declared.term.Key.TheVariants.{Int as IntKey, Atom as AtomKey}
use Rattle.type_terms.specs.Keys.{Name, Bound, any_key, any_atom, above, key_lt, same_name, same_int}
use Rattle.type_terms.proofs.KeyLaws.{key-same, name-is}
use Rattle.erl_tree.specs.declared.token.Node.{Node}
use Rattle.erl_tree.specs.declared.expr.UnaryOp.{UnaryOp}
use Rattle.erl_tree.specs.declared.expr.UnaryOp.TheVariants as U
use Rattle.erl_tree.specs.declared.expr.BinaryOp.{BinaryOp}
use Rattle.erl_tree.specs.declared.expr.BinaryOp.TheVariants as B
use Rattle.erl_tree.specs.declared.expr.ExprKind.{ExprKind, roll-ExprKind, map-ExprKind, ind-ExprKind, fold-roll-ExprKind}
use Rattle.erl_tree.specs.declared.expr.ExprKind.TheOpen as E
use Rattle.erl_tree.specs.declared.expr.ExprKind.TheShapes as S
use Rattle.erl_tree.specs.declared.expr.ItemKind.{ItemKind}
use Rattle.erl_tree.specs.declared.expr.QualifierKind.{QualifierKind}
use Rattle.erl_tree.specs.declared.expr.AssocKind.{AssocKind}
use Rattle.erl_tree.specs.declared.expr.CatchKind.{CatchKind}
use Rattle.erl_tree.specs.declared.expr.ClauseKind.{ClauseKind}
use Rattle.erl_tree.specs.declared.form.RecDefKind.{RecDefKind}
use Rattle.erl_tree.specs.declared.form.RecFieldKind.{RecFieldKind}
use Rattle.erl_tree.specs.Lists.{Every}
use Rattle.erl_tree.specs.Functions.{FunctionId, of_function}
use Rattle.erl_runs.specs.Names.{same_id, built_ins, is_built_in}
use Rattle.erl_runs.specs.Value.{Value, integer, atom, nil, cons, tuple, map_of, Values, no_values, value_and, Row, no_entries, entry_and, Environment, MapEntries, items_of, Class, error, Outcome, came, raised, wrong, going}
use Rattle.erl_runs.specs.FiniteMaps.{pick, get, place, insert}
use Rattle.erl_runs.specs.Matching.{variable_value, with_variable, shadowed_by}
use Rattle.erl_runs.specs.Records.{fields_of, values_of, list_with, string_value, all_values, negative, if_all, default_layer, default_kind, omitted, given_for, and_values, or_else, new_values, changed_values, field_value, is_atom_named, behind_tag, record_values, have_fields}
use Rattle.erl_runs.specs.Operations.{boolean, truth_of, and_element, elements_of, integers_to, divided, truths_to, exclusive_or, appended, operate, negated, operate_one, test_named, operation_named, class_named, head_of, tail_of, count_of, tuple_size_of, map_size_of, absolute_of, first_built_in, has_arity, built_in, key_of, replaced, associate, Association, with_map, associate_all, change_map}
use Rattle.erl_runs.specs.Running.{paired, tagged, new_record, changed_elements, changed_record, field_among, field_of}
use Rattle.erl_runs.proofs.FiniteMapLaws.{get-insert_same, get-insert_other}
use Rattle.erl_runs.proofs.MatchLaws.{get-shadowed}
use Rattle.runs_with_right_names.proofs.Held.{has, Held, AllHeld, RowHeld, EndsHeld, FoundHeld, AssociationHeld}

-- ---- options and tests

pub none≢some : {A : Type 0} (a : A) → None ≡ Some a → ⊥
none≢some a e = cc

some_or : {A : Type 0} → Option A → A → A
some_or None a = a
some_or (Some b) a = b

pub some-same : {A : Type 0} (a b : A) → Some a ≡ Some b → a ≡ b
unfolding some_or
some-same a b e = ap (λ o. some_or o a) e

-- what holds of both, holds of the one that is chosen
pub of_either : {A : Type 0} (P : A → Type 0) (b : Bool) (x y : A) → P x → P y → P (if b then x else y)
of_either P true x y p q = p
of_either P false x y p q = q

-- ---- variables of environments

pub with_variable-binds : (x : Name) (v : Value) (environment : Environment) → has (with_variable x v environment) x ≡ true
with_variable-binds x v environment = ap is_some (get-insert_same {b = any_atom} (AtomKey x) refl v environment)

pub with_variable-grows : (x : Name) (v : Value) (environment : Environment) (y : Name) → has environment y ≡ true → has (with_variable x v environment) y ≡ true
with_variable-grows x v environment y h = go (key_lt (AtomKey y) (AtomKey x)) (key_lt (AtomKey x) (AtomKey y)) refl refl
  where
    go : (less greater : Bool) → key_lt (AtomKey y) (AtomKey x) ≡ less → key_lt (AtomKey x) (AtomKey y) ≡ greater → has (with_variable x v environment) y ≡ true
    go true greater p q = ap is_some (get-insert_other {b = any_atom} (AtomKey x) refl v environment (AtomKey y) (inl p)) ∙ h
    go false true p q = ap is_some (get-insert_other {b = any_atom} (AtomKey x) refl v environment (AtomKey y) (inr q)) ∙ h
    go false false p q = subst (λ z. is_some (get (with_variable x v environment) z) ≡ true) (key-same (AtomKey x) (AtomKey y) q p) (ap is_some (get-insert_same {b = any_atom} (AtomKey x) refl v environment))

one-there : (o u : Option Value) → is_some o ≡ true → is_some (or_else o u) ≡ true
one-there None u h = absurd (false≢true h)
one-there (Some v) u h = refl

other-there : (o u : Option Value) → is_some u ≡ true → is_some (or_else o u) ≡ true
other-there None u h = h
other-there (Some v) u h = refl

-- ---- built-in functions that are there

-- a built-in function with this name and number of parameters gives something, where each with this number does
given-there : (arity : Value → ℕ) (name : Name) (vs : List Value) (m : ℕ) (ids : List FunctionId) → Every (λ id. id.arity ≡ m → is_some (built_in arity id.name vs) ≡ true) ids → list_any (same_id (of_function name m)) ids ≡ true → is_some (built_in arity name vs) ≡ true
given-there arity name vs m [] h e = absurd (false≢true e)
given-there arity name vs m (id ∷ ids) h e = go (same_id (of_function name m) id) refl e (given-there arity name vs m ids h.1)
  where
    go : (b : Bool) → same_id (of_function name m) id ≡ b → (b || list_any (same_id (of_function name m)) ids) ≡ true → (list_any (same_id (of_function name m)) ids ≡ true → is_some (built_in arity name vs) ≡ true) → is_some (built_in arity name vs) ≡ true
    go true p e' more =
        let same : (same_name name id.name ≡ true) × (nat_eq m id.arity ≡ true) = and_parts _ _ p in
        subst (λ z. is_some (built_in arity z vs) ≡ true) (sym (name-is name id.name same.0)) (h.0 (sym (eqb-true m id.arity same.1)))
    go false p e' more = more e'

-- ---- what two predicates hold of

module _ (named : Name → ℕ → Type 0) (closed : ℕ → Environment → Type 0) where
  -- ---- rows

  pub get-held : {b : Bound} (row : Row b) (k : Key) (v : Value) → RowHeld named closed row → get row k ≡ Some v → Held named closed v
  get-held no_entries k v h e = absurd (none≢some v e)
  get-held (entry_and j f w more) k v h e = go (key_lt k j) (key_lt j k) e (get-held more k v h.1)
    where
      go : (less greater : Bool) → pick less greater w (get more k) ≡ Some v → (get more k ≡ Some v → Held named closed v) → Held named closed v
      go true greater e' ih = absurd (none≢some v e')
      go false true e' ih = ih e'
      go false false e' ih = subst (λ z. Held named closed z) (some-same w v e') h.0

  pub insert-held : {b : Bound} (k : Key) (e : above b k ≡ true) (v : Value) (row : Row b) → Held named closed v → RowHeld named closed row → RowHeld named closed (insert k e v row)
  insert-held k e v no_entries h r = (h, tt)
  insert-held k e v (entry_and j f w more) h r = go (key_lt k j) (key_lt j k) refl refl (λ q. insert-held k q v more h r.1)
    where
      go : (less greater : Bool) (p : key_lt k j ≡ less) (q : key_lt j k ≡ greater) → ((q' : key_lt j k ≡ true) → RowHeld named closed (insert k q' v more)) → RowHeld named closed (place k j e f v w more (λ q'. insert k q' v more) less greater p q)
      go true greater p q ih = (h, r)
      go false true p q ih = (r.0, ih q)
      go false false p q ih = (h, r.1)

  -- ---- environments

  pub variable-held : (environment : Environment) (x : Name) (v : Value) → RowHeld named closed environment → variable_value environment x ≡ Some v → Held named closed v
  variable-held environment x v r e = get-held environment (AtomKey x) v r e

  pub with_variable-held : (x : Name) (v : Value) (environment : Environment) → Held named closed v → RowHeld named closed environment → RowHeld named closed (with_variable x v environment)
  with_variable-held x v environment h r = insert-held {b = any_atom} (AtomKey x) refl v environment h r

  pub shadowed-held : {b : Bound} (own : Row b) (environment : Environment) → RowHeld named closed own → RowHeld named closed environment → RowHeld named closed (shadowed_by own environment)
  shadowed-held no_entries environment h r = r
  shadowed-held (entry_and (AtomKey x) e v more) environment h r = with_variable-held x v (shadowed_by more environment) h.0 (shadowed-held more environment h.1 r)
  shadowed-held (entry_and (IntKey n) e v more) environment h r = shadowed-held more environment h.1 r

  pub shadowed-own : (own environment : Environment) (x : Name) → has own x ≡ true → has (shadowed_by own environment) x ≡ true
  shadowed-own own environment x h = ap is_some (get-shadowed own environment x) ∙ one-there (variable_value own x) (variable_value environment x) h

  pub shadowed-outer : (own environment : Environment) (x : Name) → has environment x ≡ true → has (shadowed_by own environment) x ≡ true
  shadowed-outer own environment x h = ap is_some (get-shadowed own environment x) ∙ other-there (variable_value own x) (variable_value environment x) h

  -- ---- lists and tuples

  pub list_with-held : (vs : List Value) (tail : Value) → AllHeld named closed vs → Held named closed tail → Held named closed (list_with vs tail)
  list_with-held [] tail h t = t
  list_with-held (v ∷ vs) tail h t = (h.0, list_with-held vs tail h.1 t)

  pub tuple-held : (vs : List Value) → AllHeld named closed vs → Held named closed (tuple (values_of vs))
  tuple-held [] h = tt
  tuple-held (v ∷ vs) h = (h.0, tuple-held vs h.1)

  pub items-held : (vs : Values) → Held named closed (tuple vs) → AllHeld named closed (items_of vs)
  items-held no_values h = tt
  items-held (value_and v vs) h = (h.0, items-held vs h.1)

  characters-held : (cs : List ℕ) → AllHeld named closed (map (λ c. integer (pos c)) cs)
  characters-held [] = tt
  characters-held (c ∷ cs) = (tt, characters-held cs)

  pub string-held : (text : List ℕ) → Held named closed (string_value text)
  string-held text = list_with-held (map (λ c. integer (pos c)) (chars text)) nil (characters-held (chars text)) tt

  pub boolean-held : (b : Bool) → Held named closed (boolean b)
  boolean-held true = tt
  boolean-held false = tt

  pub found-held : {A : Type 0} (holds : A → Type 0) (o : Option A) (a : A) → FoundHeld named closed holds o → o ≡ Some a → holds a
  found-held holds o a h e = subst (λ z. FoundHeld named closed holds z) e h

  elements-found : (v : Value) → Held named closed v → FoundHeld named closed (AllHeld named closed) (elements_of v)
  elements-found (cons head tail) h = go (elements_of tail) (elements-found tail h.1)
    where
      go : (o : Option (List Value)) → FoundHeld named closed (AllHeld named closed) o → FoundHeld named closed (AllHeld named closed) (and_element head o)
      go None hs = tt
      go (Some vs) hs = (h.0, hs)
  elements-found _ h = tt

  pub elements-held : (v : Value) (vs : List Value) → Held named closed v → elements_of v ≡ Some vs → AllHeld named closed vs
  elements-held v vs h e = found-held (AllHeld named closed) (elements_of v) vs (elements-found v h) e

  -- ---- operators

  abbrev Ends : Outcome Value → Type 0
  Ends o = EndsHeld named closed (Held named closed) o

  integers-held : (f : ℤ → ℤ → Outcome Value) → ((m n : ℤ) → Ends (f m n)) → (v w : Value) → Ends (integers_to f v w)
  integers-held f h (integer m) (integer n) = h m n
  integers-held f h (integer m) _ = tt
  integers-held f h _ w = tt

  divided-held : (f : ℤ → ℤ → ℤ) (m n : ℤ) → Ends (divided f m n)
  divided-held f m n = of_either Ends (same_int n (pos 0)) (raised error (atom (codes "badarith"))) (came (integer (f m n))) tt tt

  truths-held : (f : Bool → Bool → Bool) (o u : Option Bool) → Ends (truths_to f o u)
  truths-held f (Some a) (Some b) = boolean-held (f a b)
  truths-held f (Some a) None = tt
  truths-held f None u = tt

  appended-held : (o : Option (List Value)) (w : Value) → FoundHeld named closed (AllHeld named closed) o → Held named closed w → Ends (appended o w)
  appended-held None w hs h = tt
  appended-held (Some vs) w hs h = list_with-held vs w hs h

  pub operate-held : (op : BinaryOp) (v w : Value) → Held named closed v → Held named closed w → EndsHeld named closed (Held named closed) (operate op v w)
  operate-held B.Add v w h k = integers-held _ (λ m n. tt) v w
  operate-held B.Sub v w h k = integers-held _ (λ m n. tt) v w
  operate-held B.Mul v w h k = integers-held _ (λ m n. tt) v w
  operate-held B.Div v w h k = integers-held _ (divided-held _) v w
  operate-held B.Rem v w h k = integers-held _ (divided-held _) v w
  operate-held B.Eq v w h k = boolean-held _
  operate-held B.ExactEq v w h k = boolean-held _
  operate-held B.Ne v w h k = boolean-held _
  operate-held B.ExactNe v w h k = boolean-held _
  operate-held B.Lt v w h k = boolean-held _
  operate-held B.Gt v w h k = boolean-held _
  operate-held B.Le v w h k = boolean-held _
  operate-held B.Ge v w h k = boolean-held _
  operate-held B.And v w h k = truths-held _ (truth_of v) (truth_of w)
  operate-held B.Or v w h k = truths-held _ (truth_of v) (truth_of w)
  operate-held B.Xor v w h k = truths-held exclusive_or (truth_of v) (truth_of w)
  operate-held B.Append v w h k = appended-held (elements_of v) w (elements-found v h) k
  operate-held B.Andalso v w h k = tt
  operate-held B.Orelse v w h k = tt

  negated-held : (o : Option Bool) → Ends (negated o)
  negated-held None = tt
  negated-held (Some b) = boolean-held _

  pub operate_one-held : (op : UnaryOp) (v : Value) → Held named closed v → EndsHeld named closed (Held named closed) (operate_one op v)
  operate_one-held U.Plus (integer n) h = tt
  operate_one-held U.Minus (integer n) h = tt
  operate_one-held U.Not v h = negated-held (truth_of v)
  operate_one-held _ _ h = tt

  -- ---- built-in functions

  -- an operation, where there is one, gives what has it for what has it
  abbrev OperationHeld : Option (Value → Outcome Value) → Type 0
  OperationHeld None = Unit {0}
  OperationHeld (Some f) = (v : Value) → Held named closed v → Ends (f v)

  head-held : (v : Value) → Held named closed v → Ends (head_of v)
  head-held (cons head tail) h = h.0
  head-held _ h = tt

  tail-held : (v : Value) → Held named closed v → Ends (tail_of v)
  tail-held (cons head tail) h = h.1
  tail-held _ h = tt

  count-held : (o : Option (List Value)) → Ends (count_of o)
  count-held None = tt
  count-held (Some vs) = tt

  tuple_size-held : (v : Value) → Held named closed v → Ends (tuple_size_of v)
  tuple_size-held (tuple vs) h = tt
  tuple_size-held _ h = tt

  map_size-held : (v : Value) → Held named closed v → Ends (map_size_of v)
  map_size-held (map_of row) h = tt
  map_size-held _ h = tt

  absolute-held : (v : Value) → Held named closed v → Ends (absolute_of v)
  absolute-held (integer n) h = tt
  absolute-held _ h = tt

  operation-held : (name : Name) → OperationHeld (operation_named name)
  operation-held name =
      of_either OperationHeld (same_name name (codes "hd")) _ _ head-held (
      of_either OperationHeld (same_name name (codes "tl")) _ _ tail-held (
      of_either OperationHeld (same_name name (codes "length")) _ _ (λ v h. count-held (elements_of v)) (
      of_either OperationHeld (same_name name (codes "tuple_size")) _ _ tuple_size-held (
      of_either OperationHeld (same_name name (codes "map_size")) _ _ map_size-held (
      of_either OperationHeld (same_name name (codes "abs")) _ _ absolute-held tt)))))

  first-held : (test : Option (Value → Bool)) (operation : Option (Value → Outcome Value)) (class : Option Class) (v : Value) → OperationHeld operation → Held named closed v → FoundHeld named closed Ends (first_built_in test operation class v)
  first-held (Some test) operation class v k h = boolean-held (test v)
  first-held None (Some operation) class v k h = k v h
  first-held None None (Some class) v k h = h
  first-held None None None v k h = tt

  arity-held : (arity : Value → ℕ) (v w : Value) → Ends (has_arity arity v w)
  arity-held arity v (integer (pos n)) = boolean-held _
  arity-held arity v (integer (negsuc n)) = tt
  arity-held arity v _ = tt

  built_in-found : (arity : Value → ℕ) (name : Name) (vs : List Value) → AllHeld named closed vs → FoundHeld named closed Ends (built_in arity name vs)
  built_in-found arity name [] h = tt
  built_in-found arity name (v ∷ []) h = first-held (test_named name) (operation_named name) (class_named name) v (operation-held name) h.0
  built_in-found arity name (v ∷ w ∷ []) h = of_either (FoundHeld named closed Ends) (same_name name (codes "is_function")) (Some (has_arity arity v w)) None (arity-held arity v w) tt
  built_in-found arity name (v ∷ w ∷ x ∷ vs) h = tt

  pub built_in-held : (arity : Value → ℕ) (name : Name) (vs : List Value) (o : Outcome Value) → AllHeld named closed vs → built_in arity name vs ≡ Some o → EndsHeld named closed (Held named closed) o
  built_in-held arity name vs o h e = found-held Ends (built_in arity name vs) o (built_in-found arity name vs h) e

  -- a built-in function gives something for as many arguments as it has parameters
  pub built_in-there : (arity : Value → ℕ) (name : Name) (vs : List Value) → is_built_in (of_function name (length vs)) ≡ true → is_some (built_in arity name vs) ≡ true
  built_in-there arity name [] e = given-there arity name [] 0 built_ins (one, (one, (one, (one, (one, (one, (one, (two, (one, (one, (one, (one, (one, (one, (one, (one, (one, tt))))))))))))))))) e
    where
      one : {A : Type 0} → ◌≡◌ {A = ℕ} 1 0 → A
      one q = absurd (omega arith)

      two : {A : Type 0} → ◌≡◌ {A = ℕ} 2 0 → A
      two q = absurd (omega arith)
  built_in-there arity name (v ∷ []) e = given-there arity name (v ∷ []) 1 built_ins (λ q. refl, (λ q. refl, (λ q. refl, (λ q. refl, (λ q. refl, (λ q. refl, (λ q. refl, (two, (λ q. refl, (λ q. refl, (λ q. refl, (λ q. refl, (λ q. refl, (λ q. refl, (λ q. refl, (λ q. refl, (λ q. refl, tt))))))))))))))))) e
    where
      two : {A : Type 0} → ◌≡◌ {A = ℕ} 2 1 → A
      two q = absurd (omega arith)
  built_in-there arity name (v ∷ w ∷ []) e = given-there arity name (v ∷ w ∷ []) 2 built_ins (one, (one, (one, (one, (one, (one, (one, (λ q. refl, (one, (one, (one, (one, (one, (one, (one, (one, (one, tt))))))))))))))))) e
    where
      one : {A : Type 0} → ◌≡◌ {A = ℕ} 1 2 → A
      one q = absurd (omega arith)
  built_in-there arity name (v ∷ w ∷ x ∷ vs) e = given-there arity name (v ∷ w ∷ x ∷ vs) (suc (suc (suc (length vs)))) built_ins (one, (one, (one, (one, (one, (one, (one, (two, (one, (one, (one, (one, (one, (one, (one, (one, (one, tt))))))))))))))))) e
    where
      one : {A : Type 0} → ◌≡◌ {A = ℕ} 1 (suc (suc (suc (length vs)))) → A
      one q = absurd (omega arith)

      two : {A : Type 0} → ◌≡◌ {A = ℕ} 2 (suc (suc (suc (length vs)))) → A
      two q = absurd (omega arith)

  -- ---- maps

  abbrev EntriesHeld : MapEntries → Type 0
  EntriesHeld row = RowHeld named closed row

  pub no_entries-held : Held named closed (map_of no_entries)
  no_entries-held = tt

  replaced-held : (o : Option Value) (key : Key) (k v : Value) (row : MapEntries) → Held named closed k → Held named closed v → EntriesHeld row → EndsHeld named closed EntriesHeld (replaced o key k v row)
  replaced-held None key k v row hk hv r = (tt, (hk, tt))
  replaced-held (Some old) key k v row hk hv r = insert-held {b = any_key} key refl v row hv r

  associate-held : (exact : Bool) (o : Option Key) (k v : Value) (row : MapEntries) → Held named closed k → Held named closed v → EntriesHeld row → EndsHeld named closed EntriesHeld (associate exact o k v row)
  associate-held exact None k v row hk hv r = tt
  associate-held true (Some key) k v row hk hv r = replaced-held (get row key) key k v row hk hv r
  associate-held false (Some key) k v row hk hv r = insert-held {b = any_key} key refl v row hv r

  with_map-held : (o : Outcome MapEntries) (next : MapEntries → Outcome Value) → EndsHeld named closed EntriesHeld o → ((row : MapEntries) → EntriesHeld row → Ends (next row)) → Ends (with_map o next)
  with_map-held (came row) next h k = k row h
  with_map-held (raised class v) next h k = h
  with_map-held wrong next h k = tt
  with_map-held going next h k = tt

  associate_all-held : (changes : List Association) (row : MapEntries) → Every (AssociationHeld named closed) changes → EntriesHeld row → Ends (associate_all changes row)
  associate_all-held [] row h r = r
  associate_all-held (a ∷ more) row h r = with_map-held (associate a.exact (key_of a.key) a.key a.value row) (associate_all more) (associate-held a.exact (key_of a.key) a.key a.value row h.0.0 h.0.1 r) (λ other k. associate_all-held more other h.1 k)

  pub change_map-held : (v : Value) (changes : List Association) → Held named closed v → Every (AssociationHeld named closed) changes → EndsHeld named closed (Held named closed) (change_map v changes)
  change_map-held (map_of row) changes h k = associate_all-held changes row k h
  change_map-held _ changes h k = tt

  -- ---- defaults of fields

  abbrev Found : Option Value → Type 0
  Found o = FoundHeld named closed (Held named closed) o

  abbrev AllFound : Option (List Value) → Type 0
  AllFound o = FoundHeld named closed (AllHeld named closed) o

  and_values-held : (o : Option Value) (os : Option (List Value)) → Found o → AllFound os → AllFound (and_values o os)
  and_values-held None os h hs = tt
  and_values-held (Some v) None h hs = tt
  and_values-held (Some v) (Some vs) h hs = (h, hs)

  or_else-held : (o u : Option Value) → Found o → Found u → Found (or_else o u)
  or_else-held None u h k = k
  or_else-held (Some v) u h k = h

  negative-held : (o : Option Value) → Found (negative o)
  negative-held None = tt
  negative-held (Some (integer n)) = tt
  negative-held (Some _) = tt

  if_all-held : (o : Option (List Value)) (made : List Value → Value) → AllFound o → ((vs : List Value) → AllHeld named closed vs → Held named closed (made vs)) → Found (if_all o made)
  if_all-held None made h k = tt
  if_all-held (Some vs) made h k = k vs h

  abbrev Default : Type 0
  Default = (e : ExprKind) × Found (default_kind e)

  -- a layer whose parts are defaults, and the same without what is known of them
  abbrev Layer : Type 0
  Layer = E.ExprKind-F Default (ItemKind × Unit {0}) (QualifierKind × Unit {0}) (AssocKind × Unit {0}) (CatchKind × Unit {0}) (ClauseKind × Unit {0})

  abbrev plain : Layer → E.ExprKind-F ExprKind ItemKind QualifierKind AssocKind CatchKind ClauseKind
  plain y = map-ExprKind Default (ItemKind × Unit {0}) (QualifierKind × Unit {0}) (AssocKind × Unit {0}) (CatchKind × Unit {0}) (ClauseKind × Unit {0}) ExprKind ItemKind QualifierKind AssocKind CatchKind ClauseKind (λ e. e.0) (λ i. i.0) (λ q. q.0) (λ a. a.0) (λ c. c.0) (λ c. c.0) y

  abbrev defaults_in : Layer → E.ExprKind-F (Option Value) (Unit {0}) (Unit {0}) (Unit {0}) (Unit {0}) (Unit {0})
  defaults_in y = map-ExprKind ExprKind ItemKind QualifierKind AssocKind CatchKind ClauseKind (Option Value) (Unit {0}) (Unit {0}) (Unit {0}) (Unit {0}) (Unit {0}) default_kind (λ i. tt) (λ q. tt) (λ a. tt) (λ c. tt) (λ c. tt) (plain y)

  default-rolls : (y : Layer) → default_kind (roll-ExprKind (plain y)) ≡ default_layer (defaults_in y)
  unfolding default_kind
  default-rolls y = fold-roll-ExprKind (Option Value) (Unit {0}) (Unit {0}) (Unit {0}) (Unit {0}) (Unit {0}) default_layer (λ i. tt) (λ q. tt) (λ a. tt) (λ c. tt) (λ c. tt) (plain y)

  elements_of_default-held : (ns : List (Node Default)) → AllFound (all_values (S.former-ExprKind-Tuple-0.map ExprKind (Option Value) default_kind (S.former-ExprKind-Tuple-0.map Default ExprKind (λ e. e.0) ns)))
  elements_of_default-held [] = tt
  elements_of_default-held (n ∷ ns) = and_values-held (default_kind n.kind.0) _ n.kind.1 (elements_of_default-held ns)

  default_layer-held : (y : Layer) → Found (default_layer (defaults_in y))
  default_layer-held (E.Int n) = tt
  default_layer-held (E.Unary U.Minus e) = negative-held (default_kind e.kind.0)
  default_layer-held (E.Char c) = tt
  default_layer-held (E.Atom a) = tt
  default_layer-held (E.Str s) = string-held s
  default_layer-held (E.Tuple es) = if_all-held _ (λ vs. tuple (values_of vs)) (elements_of_default-held es) (λ vs h. tuple-held vs h)
  default_layer-held (E.Cells es None) = if_all-held _ (λ vs. list_with vs nil) (elements_of_default-held es) (λ vs h. list_with-held vs nil h tt)
  default_layer-held _ = tt

  -- a default has no funs
  pub default-held : (e : ExprKind) → Found (default_kind e)
  default-held = ind-ExprKind (λ e. Found (default_kind e)) (λ i. Unit {0}) (λ q. Unit {0}) (λ a. Unit {0}) (λ c. Unit {0}) (λ c. Unit {0})
      (λ x y e. subst (λ z. Found (default_kind (roll-ExprKind z))) e (subst Found (sym (default-rolls y)) (default_layer-held y)))
      (λ x y e. tt) (λ x y e. tt) (λ x y e. tt) (λ x y e. tt) (λ x y e. tt)

  omitted-held : (o : Option (Node ExprKind)) → Found (omitted o)
  omitted-held None = tt
  omitted-held (Some e) = default-held e.kind

  -- ---- records

  abbrev GivenHeld : List (Name × Value) → Type 0
  GivenHeld given = Every (λ g. Held named closed g.1) given

  paired-held : (names : List Name) (vs : List Value) → AllHeld named closed vs → GivenHeld (paired names vs)
  paired-held [] vs h = tt
  paired-held (n ∷ ns) [] h = tt
  paired-held (n ∷ ns) (v ∷ vs) h = (h.0, paired-held ns vs h.1)

  given-held : (given : List (Name × Value)) (name : Name) → GivenHeld given → Found (given_for given name)
  given-held [] name h = tt
  given-held (g ∷ gs) name h = of_either Found (same_name g.0 name) (Some g.1) (given_for gs name) h.0 (given-held gs name h.1)

  new_values-held : (fs : List RecFieldKind) (given : List (Name × Value)) → GivenHeld given → AllFound (new_values fs given)
  new_values-held [] given h = tt
  new_values-held (f ∷ fs) given h = and_values-held _ _ (or_else-held (given_for given f.name) (omitted f.default) (given-held given f.name h) (omitted-held f.default)) (new_values-held fs given h)

  changed_values-held : (fs : List RecFieldKind) (given : List (Name × Value)) (vs : List Value) → GivenHeld given → AllHeld named closed vs → AllFound (changed_values fs given vs)
  changed_values-held [] given [] h hs = tt
  changed_values-held [] given (v ∷ vs) h hs = tt
  changed_values-held (f ∷ fs) given [] h hs = tt
  changed_values-held (f ∷ fs) given (v ∷ vs) h hs = and_values-held _ _ (or_else-held (given_for given f.name) (Some v) (given-held given f.name h) hs.0) (changed_values-held fs given vs h hs.1)

  pub field_value-held : (fs : List RecFieldKind) (vs : List Value) (name : Name) → AllHeld named closed vs → Found (field_value fs vs name)
  field_value-held [] vs name h = tt
  field_value-held (f ∷ fs) [] name h = tt
  field_value-held (f ∷ fs) (v ∷ vs) name h = of_either Found (same_name f.name name) (Some v) (field_value fs vs name) h.0 (field_value-held fs vs name h.1)

  behind_tag-held : (tag : Name) (vs : List Value) → AllHeld named closed vs → AllFound (behind_tag tag vs)
  behind_tag-held tag [] h = tt
  behind_tag-held tag (v ∷ vs) h = of_either AllFound (is_atom_named tag v) (Some vs) None h.1 tt

  pub record_values-held : (r : RecDefKind) (tag : Name) (v : Value) → Held named closed v → AllFound (record_values r tag v)
  record_values-held r tag (tuple vs) h = of_either AllFound (nat_eq (length (items_of vs)) (suc (length r.fields))) (behind_tag tag (items_of vs)) None (behind_tag-held tag (items_of vs) (items-held vs h)) tt
  record_values-held r tag _ h = tt

  tagged-held : (tag : Name) (o : Option (List Value)) → AllFound o → Found (tagged tag o)
  tagged-held tag None h = tt
  tagged-held tag (Some vs) h = (tt, tuple-held vs h)

  changed_elements-held : (r : RecDefKind) (given : List (Name × Value)) (o : Option (List Value)) → GivenHeld given → AllFound o → AllFound (changed_elements r given o)
  changed_elements-held r given None h k = tt
  changed_elements-held r given (Some vs) h k = changed_values-held (fields_of r) given vs h k

  field_among-held : (r : RecDefKind) (o : Option (List Value)) (field : Name) → AllFound o → Found (field_among r o field)
  field_among-held r None field h = tt
  field_among-held r (Some vs) field h = field_value-held (fields_of r) vs field h

  pub new_record-held : (declared : Option RecDefKind) (tag : Name) (names : List Name) (vs : List Value) → AllHeld named closed vs → FoundHeld named closed (Held named closed) (new_record declared tag names vs)
  new_record-held None tag names vs h = tt
  new_record-held (Some r) tag names vs h = of_either Found (have_fields (fields_of r) names) (tagged tag (new_values (fields_of r) (paired names vs))) None (tagged-held tag _ (new_values-held (fields_of r) (paired names vs) (paired-held names vs h))) tt

  pub changed_record-held : (declared : Option RecDefKind) (tag : Name) (v : Value) (names : List Name) (vs : List Value) → Held named closed v → AllHeld named closed vs → FoundHeld named closed (Held named closed) (changed_record declared tag v names vs)
  changed_record-held None tag v names vs h hs = tt
  changed_record-held (Some r) tag v names vs h hs = of_either Found (have_fields (fields_of r) names) (tagged tag (changed_elements r (paired names vs) (record_values r tag v))) None (tagged-held tag _ (changed_elements-held r (paired names vs) (record_values r tag v) (paired-held names vs hs) (record_values-held r tag v h))) tt

  pub field_of-held : (declared : Option RecDefKind) (tag : Name) (v : Value) (field : Name) → Held named closed v → FoundHeld named closed (Held named closed) (field_of declared tag v field)
  field_of-held None tag v field h = tt
  field_of-held (Some r) tag v field h = field_among-held r (record_values r tag v) field (record_values-held r tag v h)
