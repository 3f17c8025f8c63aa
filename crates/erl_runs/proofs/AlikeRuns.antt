-- What two ways of applying keep, the runs of expressions and functions over them keep: a relation of runs that endings and sequencing keep goes through each level of an expression.
use Rattle.std.proofs.Common.{◌≡◌, refl, ap, sym, ◌∙◌, subst, ℕ, suc, ◌≤◌, List, [], ◌∷◌, ◌++◌, length, Bool, true, false, ◌&&◌, ◌||◌, arith}
use Rattle.std.specs.Prelude.{Option, Some, None, cond, is_none}
use Rattle.std.specs.List.{list_all, list_any}
use Rattle.type_terms.specs.Keys.{Name}
use Rattle.erl_tree.specs.declared.token.Node.{Node}
use Rattle.erl_tree.specs.declared.pattern.PatternKind.{PatternKind}
use Rattle.erl_tree.specs.declared.expr.BinaryOp.{BinaryOp}
use Rattle.erl_tree.specs.declared.expr.BinaryOp.TheVariants.{Andalso, Orelse}
use Rattle.erl_tree.specs.declared.expr.ExprKind.{ExprKind, out-ExprKind, roll-ExprKind, map-ExprKind, ind-ExprKind}
use Rattle.erl_tree.specs.declared.expr.ItemKind.{ItemKind, roll-ItemKind, map-ItemKind}
use Rattle.erl_tree.specs.declared.expr.QualifierKind.{QualifierKind, roll-QualifierKind, map-QualifierKind}
use Rattle.erl_tree.specs.declared.expr.AssocKind.{AssocKind, roll-AssocKind, map-AssocKind}
use Rattle.erl_tree.specs.declared.expr.CatchKind.{CatchKind, roll-CatchKind, map-CatchKind}
use Rattle.erl_tree.specs.declared.expr.ClauseKind.{ClauseKind, roll-ClauseKind, map-ClauseKind, ind-ClauseKind}
use Rattle.erl_tree.specs.declared.expr.ExprKind.TheOpen as E
use Rattle.erl_tree.specs.declared.expr.ExprKind.TheShapes as S
use Rattle.erl_tree.specs.declared.form.Function.{Function}
use Rattle.erl_tree.specs.declared.form.RecDefKind.{RecDefKind}
use Rattle.erl_grammar.specs.Guards.{misfit}
use Rattle.erl_runs.specs.Value.{Value, nil, named_fun, closure, Environment, no_bindings, Class, Outcome, came, raised, wrong, going, Run}
use Rattle.erl_runs.specs.Matching.{variable_value, match_next, match_pattern}
use Rattle.erl_runs.specs.Records.{find_record}
use Rattle.erl_runs.specs.Operations.{truth_of, operate, built_in, Association}
use Rattle.erl_runs.specs.Running.{ends, gives, goes_wrong, still_going, then, meaning, gives_found, Part, Does, Choice, Applies, is_fun_layer, with_itself, part, parts, all_of, funs_in, funs_in_choices, behind, run_all, run_body, allowed, taken, anew, taken_anew, or_else, run_taken, run_clauses, is_true, test_holds, guard_holds, class_name, run_of, run_catches, run_rest, run_after, finally, optional, funs_in_optional, run_try, run_each, run_qualifiers, passing, passing_truth, run_filter, names_of, field_parts, new_record, changed_record, decided, run_operator, run_call, literal, tail_part, run_layer, matched, run_item_layer, front, environments_of, generated, run_qualifier_layer, run_assoc_layer, run_clause_layer, match_class, match_caught, run_catch_layer, run_kind, choice_kind, choices, Code, arity_of, run_function, run_closure}
use Rattle.erl_runs.proofs.RunLaws.{Trees, item_kind, qualifier_kind, assoc_kind, caught_kind, with_expr, with_item, with_qualifier, with_assoc, with_caught, with_choice, expr_layer, item_layer, qualifier_layer, assoc_layer, caught_layer, choice_layer, expr-rolls, item-rolls, qualifier-rolls, assoc-rolls, caught-rolls, choice-rolls}

-- a relation of a run from m steps and one from `shift m` steps, which endings and sequencing keep
pub record RunRelation : Type 1 where
  pub shift : ℕ → ℕ
  pub relates : (A : Type 0) → ℕ → Run A → Run A → Type 0
  pub at_end : (A : Type 0) (o u : Outcome A) → o ≡ u → (m : ℕ) → relates A m (ends o m) (ends u (shift m))
  pub in_turn : (A B : Type 0) (n : ℕ) (r q : Run A) (f g : A → ℕ → Run B) → relates A n r q → ((a : A) (k : ℕ) → k ≤ n → relates B k (f a k) (g a (shift k))) → relates B n (then r f) (then q g)
  pub at_last : (n : ℕ) (r q : Run Value) (f g : Outcome Value → ℕ → Run Value) → relates Value n r q → ((k : ℕ) → f going k ≡ still_going k) → ((o : Outcome Value) (k : ℕ) → k ≤ n → relates Value k (f o k) (g o (shift k))) → relates Value n (finally r f) (finally q g)

le-here : (n : ℕ) → n ≤ n
le-here n = omega arith

le-trans : {k m n : ℕ} → k ≤ m → m ≤ n → k ≤ n
le-trans h l = omega arith

module _ (κ : RunRelation) where
  abbrev Alike : (A : Type 0) → ℕ → Run A → Run A → Type 0
  Alike A m r q = κ.relates A m r q

  then-alike : {A B : Type 0} (n : ℕ) (r q : Run A) (f g : A → ℕ → Run B) → Alike A n r q → ((a : A) (k : ℕ) → k ≤ n → Alike B k (f a k) (g a (κ.shift k))) → Alike B n (then r f) (then q g)
  then-alike {A} {B} n r q f g h k = κ.in_turn A B n r q f g h k

  ends-alike : {A : Type 0} (o : Outcome A) (m : ℕ) → Alike A m (ends o m) (ends o (κ.shift m))
  ends-alike {A} o m = κ.at_end A o o refl m

  gives-alike : {A : Type 0} (a : A) (m : ℕ) → Alike A m (gives a m) (gives a (κ.shift m))
  gives-alike a m = ends-alike (came a) m

  wrong-alike : {A : Type 0} (m : ℕ) → Alike A m (goes_wrong m) (goes_wrong (κ.shift m))
  wrong-alike m = ends-alike wrong m

  -- related runs of parts, with one number, from any number of steps up to n
  abbrev RunsAlike : (A : Type 0) → ℕ → (ℕ → Environment → ℕ → Run A) → (ℕ → Environment → ℕ → Run A) → Type 0
  RunsAlike A n run other = (b c : ℕ) → b ≡ c → (environment : Environment) (m : ℕ) → m ≤ n → Alike A m (run b environment m) (other c environment (κ.shift m))

  pub record LikePart (A : Type 0) (n : ℕ) (d e : Part A) : Type 0 where
    pub funs : d.funs ≡ e.funs
    pub runs : RunsAlike A n d.run e.run

  pub record Like (n : ℕ) (d e : Does) : Type 0 where
    pub inner : d.inner ≡ e.inner
    pub runs : RunsAlike Value n d.run e.run
    pub enters : (b c : ℕ) → b ≡ c → (environment : Environment) (vs : List Value) (m : ℕ) → m ≤ n → Alike Value m (d.enter b environment vs m) (e.enter c environment vs (κ.shift m))

  pub record LikeChoice (n : ℕ) (c d : Choice) : Type 0 where
    pub funs : c.funs ≡ d.funs
    pub matches : (vs : List Value) (environment : Environment) → c.matches vs environment ≡ d.matches vs environment
    pub allows : (environment : Environment) → c.allows environment ≡ d.allows environment
    pub runs : RunsAlike Value n c.run d.run

  abbrev all_like : {A : Type 0} → ℕ → List (Part A) → List (Part A) → Type 0
  all_like n [] [] = Unit {0}
  all_like {A} n (d ∷ ds) (e ∷ es) = LikePart A n d e × all_like n ds es
  all_like n _ _ = ⊥

  abbrev all_choices : ℕ → List Choice → List Choice → Type 0
  all_choices n [] [] = Unit {0}
  all_choices n (c ∷ cs) (d ∷ ds) = LikeChoice n c d × all_choices n cs ds
  all_choices n _ _ = ⊥

  funs_in-same : {A : Type 0} (n : ℕ) (ds es : List (Part A)) → all_like n ds es → funs_in ds ≡ funs_in es
  funs_in-same n [] [] h = refl
  funs_in-same n [] (e ∷ es) h = absurd h
  funs_in-same n (d ∷ ds) [] h = absurd h
  funs_in-same n (d ∷ ds) (e ∷ es) h = λ j. h.0.funs j ++ funs_in-same n ds es h.1 j

  choices-same : (n : ℕ) (ds es : List Choice) → all_choices n ds es → funs_in_choices ds ≡ funs_in_choices es
  choices-same n [] [] h = refl
  choices-same n [] (e ∷ es) h = absurd h
  choices-same n (d ∷ ds) [] h = absurd h
  choices-same n (d ∷ ds) (e ∷ es) h = λ j. h.0.funs j ++ choices-same n ds es h.1 j

  -- ---- rows of parts

  run_all-like : {A : Type 0} (n : ℕ) (ds es : List (Part A)) → all_like n ds es → RunsAlike (List A) n (run_all ds) (run_all es)
  run_all-like n [] [] h b c p environment m l = gives-alike [] m
  run_all-like n [] (e ∷ es) h b c p environment m l = absurd h
  run_all-like n (d ∷ ds) [] h b c p environment m l = absurd h
  run_all-like n (d ∷ ds) (e ∷ es) h b c p environment m l =
      then-alike m (d.run b environment m) (e.run c environment (κ.shift m)) _ _ (h.0.runs b c p environment m l)
      (λ v k u. then-alike k (run_all ds (behind b d.funs) environment k) _ _ _ (run_all-like n ds es h.1 (behind b d.funs) (behind c e.funs) (λ j. behind (p j) (h.0.funs j)) environment k (le-trans u l)) (λ vs i w. gives-alike (v ∷ vs) i))

  run_body-like : (n : ℕ) (ds es : List (Part (Value × Environment))) → all_like n ds es → RunsAlike Value n (run_body ds) (run_body es)
  run_body-like n [] [] h b c p environment m l = wrong-alike m
  run_body-like n [] (e ∷ es) h b c p environment m l = absurd h
  run_body-like n (d ∷ ds) [] h b c p environment m l = absurd h
  run_body-like n (d ∷ []) (e ∷ []) h b c p environment m l = then-alike m (d.run b environment m) (e.run c environment (κ.shift m)) _ _ (h.0.runs b c p environment m l) (λ r k u. gives-alike r.0 k)
  run_body-like n (d ∷ []) (e ∷ f ∷ es) h b c p environment m l = absurd h.1
  run_body-like n (d ∷ f ∷ ds) (e ∷ []) h b c p environment m l = absurd h.1
  run_body-like n (d ∷ d' ∷ ds) (e ∷ e' ∷ es) h b c p environment m l =
      then-alike m (d.run b environment m) (e.run c environment (κ.shift m)) _ _ (h.0.runs b c p environment m l)
      (λ r k u. run_body-like n (d' ∷ ds) (e' ∷ es) h.1 (behind b d.funs) (behind c e.funs) (λ j. behind (p j) (h.0.funs j)) r.1 k (le-trans u l))

  -- ---- clauses

  allowed-same : (n : ℕ) (c d : Choice) → LikeChoice n c d → (o : Option Environment) → allowed c o ≡ allowed d o
  allowed-same n c d h None = refl
  allowed-same n c d h (Some environment) = ap (λ b. cond b (Some environment) None) (h.allows environment)

  -- ways in which like clauses take the values alike
  abbrev TakesAlike : ℕ → (Choice → List Value → Environment → Option Environment) → Type 0
  TakesAlike n takes = (c d : Choice) → LikeChoice n c d → (vs : List Value) (environment : Environment) → takes c vs environment ≡ takes d vs environment

  taken-same : (n : ℕ) → TakesAlike n taken
  taken-same n c d h vs environment = λ j. allowed-same n c d h (h.matches vs environment j) j

  taken_anew-same : (n : ℕ) → TakesAlike n taken_anew
  taken_anew-same n c d h vs environment = λ j. allowed-same n c d h (anew (h.matches vs no_bindings j) environment) j

  -- what is chosen, and otherwise what else there is
  choice-alike : (n : ℕ) (c d : Choice) → LikeChoice n c d → (o u : Option Environment) → o ≡ u → (a b : ℕ) → a ≡ b → (m : ℕ) → m ≤ n → (r q : Run Value) → Alike Value m r q → Alike Value m (or_else (run_taken c o a m) r) (or_else (run_taken d u b (κ.shift m)) q)
  choice-alike n c d h None u e a b p m l r q k = subst (λ w. Alike Value m r (or_else (run_taken d w b (κ.shift m)) q)) e k
  choice-alike n c d h (Some environment) u e a b p m l r q k = subst (λ w. Alike Value m (c.run a environment m) (or_else (run_taken d w b (κ.shift m)) q)) e (h.runs a b p environment m l)

  run_clauses-like : (n : ℕ) (takes : Choice → List Value → Environment → Option Environment) → TakesAlike n takes → (cs ds : List Choice) → all_choices n cs ds → (b c : ℕ) → b ≡ c → (environment : Environment) (vs : List Value) (m : ℕ) → m ≤ n → Alike Value m (run_clauses takes cs b environment vs m) (run_clauses takes ds c environment vs (κ.shift m))
  run_clauses-like n takes t [] [] h b c p environment vs m l = wrong-alike m
  run_clauses-like n takes t [] (d ∷ ds) h b c p environment vs m l = absurd h
  run_clauses-like n takes t (d ∷ ds) [] h b c p environment vs m l = absurd h
  run_clauses-like n takes t (d ∷ ds) (e ∷ es) h b c p environment vs m l =
      choice-alike n d e h.0 (takes d vs environment) (takes e vs environment) (t d e h.0 vs environment) b c p m l _ _
      (run_clauses-like n takes t ds es h.1 (behind b d.funs) (behind c e.funs) (λ j. behind (p j) (h.0.funs j)) environment vs m l)

  -- ---- try

  run_of-like : (n : ℕ) (cs ds : List Choice) → all_choices n cs ds → (b c : ℕ) → b ≡ c → (environment : Environment) (v : Value) (m : ℕ) → m ≤ n → Alike Value m (run_of cs b environment v m) (run_of ds c environment v (κ.shift m))
  run_of-like n [] [] h b c p environment v m l = gives-alike v m
  run_of-like n [] (d ∷ ds) h b c p environment v m l = absurd h
  run_of-like n (d ∷ ds) [] h b c p environment v m l = absurd h
  run_of-like n (d ∷ ds) (e ∷ es) h b c p environment v m l = run_clauses-like n taken (taken-same n) (d ∷ ds) (e ∷ es) h b c p environment (v ∷ []) m l

  run_catches-like : (n : ℕ) (cs ds : List Choice) → all_choices n cs ds → (b c : ℕ) → b ≡ c → (environment : Environment) (class : Class) (v : Value) (m : ℕ) → m ≤ n → Alike Value m (run_catches cs b environment class v m) (run_catches ds c environment class v (κ.shift m))
  run_catches-like n [] [] h b c p environment class v m l = ends-alike (raised class v) m
  run_catches-like n [] (d ∷ ds) h b c p environment class v m l = absurd h
  run_catches-like n (d ∷ ds) [] h b c p environment class v m l = absurd h
  run_catches-like n (d ∷ ds) (e ∷ es) h b c p environment class v m l =
      choice-alike n d e h.0 (taken d (class_name class ∷ v ∷ []) environment) (taken e (class_name class ∷ v ∷ []) environment) (taken-same n d e h.0 (class_name class ∷ v ∷ []) environment) b c p m l _ _
      (run_catches-like n ds es h.1 (behind b d.funs) (behind c e.funs) (λ j. behind (p j) (h.0.funs j)) environment class v m l)

  run_rest-like : (n : ℕ) (cs ds catches others : List Choice) → all_choices n cs ds → all_choices n catches others → (b c : ℕ) → b ≡ c → (environment : Environment) (o : Outcome Value) (m : ℕ) → m ≤ n → Alike Value m (run_rest cs catches b environment o m) (run_rest ds others c environment o (κ.shift m))
  run_rest-like n cs ds catches others h k b c p environment (came v) m l = run_of-like n cs ds h b c p environment v m l
  run_rest-like n cs ds catches others h k b c p environment (raised class v) m l = run_catches-like n catches others k _ _ (λ j. behind (p j) (choices-same n cs ds h j)) environment class v m l
  run_rest-like n cs ds catches others h k b c p environment wrong m l = wrong-alike m
  run_rest-like n cs ds catches others h k b c p environment going m l = ends-alike going m

  abbrev optional_like : ℕ → Option (List (Part (Value × Environment))) → Option (List (Part (Value × Environment))) → Type 0
  optional_like n None None = Unit {0}
  optional_like n (Some ds) (Some es) = all_like n ds es
  optional_like n _ _ = ⊥

  optional-same : (n : ℕ) (o u : Option (List (Part (Value × Environment)))) → optional_like n o u → funs_in_optional o ≡ funs_in_optional u
  optional-same n None None h = refl
  optional-same n None (Some es) h = absurd h
  optional-same n (Some ds) None h = absurd h
  optional-same n (Some ds) (Some es) h = funs_in-same n ds es h

  run_after-like : (n : ℕ) (o u : Option (List (Part (Value × Environment)))) → optional_like n o u → (b c : ℕ) → b ≡ c → (environment : Environment) (outcome : Outcome Value) (m : ℕ) → m ≤ n → Alike Value m (run_after o b environment outcome m) (run_after u c environment outcome (κ.shift m))
  run_after-like n None None h b c p environment outcome m l = ends-alike outcome m
  run_after-like n None (Some es) h b c p environment outcome m l = absurd h
  run_after-like n (Some ds) None h b c p environment outcome m l = absurd h
  run_after-like n (Some ds) (Some es) h b c p environment (came v) m l = then-alike m (run_body ds b environment m) (run_body es c environment (κ.shift m)) _ _ (run_body-like n ds es h b c p environment m l) (λ w k u. gives-alike v k)
  run_after-like n (Some ds) (Some es) h b c p environment (raised class v) m l = then-alike m (run_body ds b environment m) (run_body es c environment (κ.shift m)) _ _ (run_body-like n ds es h b c p environment m l) (λ w k u. ends-alike (raised class v) k)
  run_after-like n (Some ds) (Some es) h b c p environment wrong m l = wrong-alike m
  run_after-like n (Some ds) (Some es) h b c p environment going m l = ends-alike going m

  after-going : (o : Option (List (Part (Value × Environment)))) (b : ℕ) (environment : Environment) (k : ℕ) → run_after o b environment going k ≡ still_going k
  after-going None b environment k = refl
  after-going (Some is) b environment k = refl

  run_try-like : (n : ℕ) (ds es : List (Part (Value × Environment))) (cs bs catches others : List Choice) (o u : Option (List (Part (Value × Environment)))) → all_like n ds es → all_choices n cs bs → all_choices n catches others → optional_like n o u → RunsAlike Value n (run_try ds cs catches o) (run_try es bs others u)
  run_try-like n ds es cs bs catches others o u h k g f b c p environment m l =
      let e : behind b (funs_in ds) ≡ behind c (funs_in es) = λ j. behind (p j) (funs_in-same n ds es h j) in
      κ.at_last m _ _ _ _
      (κ.at_last m (run_body ds b environment m) (run_body es c environment (κ.shift m)) (run_rest cs catches (behind b (funs_in ds)) environment) (run_rest bs others (behind c (funs_in es)) environment)
      (run_body-like n ds es h b c p environment m l) (λ i. refl) (λ outcome i w. run_rest-like n cs bs catches others k g _ _ e environment outcome i (le-trans w l)))
      (after-going o (behind (behind (behind b (funs_in ds)) (funs_in_choices cs)) (funs_in_choices catches)) environment)
      (λ outcome i w. run_after-like n o u f _ _ (λ j. behind (behind (e j) (choices-same n cs bs k j)) (choices-same n catches others g j)) environment outcome i (le-trans w l))

  -- ---- comprehensions

  run_each-like : {A : Type 0} (n : ℕ) (f g : A → ℕ → Run (List Value)) → ((a : A) (m : ℕ) → m ≤ n → Alike (List Value) m (f a m) (g a (κ.shift m))) → (xs : List A) (m : ℕ) → m ≤ n → Alike (List Value) m (run_each f xs m) (run_each g xs (κ.shift m))
  run_each-like n f g h [] m l = gives-alike [] m
  run_each-like n f g h (x ∷ xs) m l = then-alike m (f x m) (g x (κ.shift m)) _ _ (h x m l) (λ vs k u. then-alike k (run_each f xs k) _ _ _ (run_each-like n f g h xs k (le-trans u l)) (λ ws i w. gives-alike (vs ++ ws) i))

  run_qualifiers-like : (n : ℕ) (ds es : List (Part (List Environment))) → all_like n ds es → (f g : Environment → ℕ → Run Value) → ((environment : Environment) (m : ℕ) → m ≤ n → Alike Value m (f environment m) (g environment (κ.shift m))) → (b c : ℕ) → b ≡ c → (environment : Environment) (m : ℕ) → m ≤ n → Alike (List Value) m (run_qualifiers ds f b environment m) (run_qualifiers es g c environment (κ.shift m))
  run_qualifiers-like n [] [] h f g k b c p environment m l = then-alike m (f environment m) (g environment (κ.shift m)) _ _ (k environment m l) (λ v i u. gives-alike (v ∷ []) i)
  run_qualifiers-like n [] (e ∷ es) h f g k b c p environment m l = absurd h
  run_qualifiers-like n (d ∷ ds) [] h f g k b c p environment m l = absurd h
  run_qualifiers-like n (d ∷ ds) (e ∷ es) h f g k b c p environment m l =
      then-alike m (d.run b environment m) (e.run c environment (κ.shift m)) _ _ (h.0.runs b c p environment m l)
      (λ environments i u. run_each-like n _ _ (λ inner m' l'. run_qualifiers-like n ds es h.1 f g k _ _ (λ j. behind (p j) (h.0.funs j)) inner m' l') environments i (le-trans u l))

  truth-alike : (o : Option Bool) (environment : Environment) (m : ℕ) → Alike (List Environment) m (passing_truth o environment m) (passing_truth o environment (κ.shift m))
  truth-alike None environment m = wrong-alike m
  truth-alike (Some b) environment m = gives-alike _ m

  -- ---- expressions

  found-alike : {A : Type 0} (o : Option A) (m : ℕ) → Alike A m (gives_found o m) (gives_found o (κ.shift m))
  found-alike None m = wrong-alike m
  found-alike (Some v) m = gives-alike v m

  decided-alike : (stops : Bool) (o : Option Bool) (m : ℕ) (f g : ℕ → Run Value) → Alike Value m (f m) (g (κ.shift m)) → Alike Value m (decided stops o f m) (decided stops o g (κ.shift m))
  decided-alike stops None m f g h = wrong-alike m
  decided-alike true (Some true) m f g h = gives-alike _ m
  decided-alike true (Some false) m f g h = h
  decided-alike false (Some true) m f g h = h
  decided-alike false (Some false) m f g h = gives-alike _ m

  operator-alike : (op : BinaryOp) (v : Value) (m : ℕ) (f g : ℕ → Run Value) → Alike Value m (f m) (g (κ.shift m)) → Alike Value m (run_operator op v f m) (run_operator op v g (κ.shift m))
  operator-alike Andalso v m f g h = decided-alike false (truth_of v) m f g h
  operator-alike Orelse v m f g h = decided-alike true (truth_of v) m f g h
  operator-alike op v m f g h = then-alike m (f m) (g (κ.shift m)) _ _ h (λ w k u. ends-alike (operate op v w) k)

  call-alike : (unbound : Outcome Value) (prefix : Option Name) (o : Option (Outcome Value)) (m : ℕ) (f g : ℕ → Run Value) → Alike Value m (f m) (g (κ.shift m)) → Alike Value m (run_call unbound prefix o f m) (run_call unbound prefix o g (κ.shift m))
  call-alike unbound prefix (Some outcome) m f g h = ends-alike outcome m
  call-alike unbound None None m f g h = h
  call-alike unbound (Some prefix) None m f g h = ends-alike unbound m

  -- ways of applying that agree up to n steps, where expressions that run alike pass as tests alike
  module _ (unbound : Outcome Value) (records : List RecDefKind) (arity : Value → ℕ) (p q : Applies) (n : ℕ)
      (agree : (f : Value) (args : List Value) (m : ℕ) → m ≤ n → Alike Value m (p f args m) (q f args (κ.shift m)))
      (tests : (t : ExprKind) → Like n (run_kind unbound records arity p t) (run_kind unbound records arity q t) → (environment : Environment) → ((run_kind unbound records arity p t).run 0 environment 0).outcome ≡ ((run_kind unbound records arity q t).run 0 environment 0).outcome) where
    abbrev IsExprAlike : ExprKind → Type 0
    IsExprAlike t = Like n (run_kind unbound records arity p t) (run_kind unbound records arity q t)

    abbrev IsItemAlike : ItemKind → Type 0
    IsItemAlike t = LikePart (Value × Environment) n (item_kind unbound records arity p t) (item_kind unbound records arity q t)

    abbrev IsQualifierAlike : QualifierKind → Type 0
    IsQualifierAlike t = LikePart (List Environment) n (qualifier_kind unbound records arity p t) (qualifier_kind unbound records arity q t)

    abbrev IsAssocAlike : AssocKind → Type 0
    IsAssocAlike t = LikePart Association n (assoc_kind unbound records arity p t) (assoc_kind unbound records arity q t)

    abbrev IsCatchAlike : CatchKind → Type 0
    IsCatchAlike t = LikeChoice n (caught_kind unbound records arity p t) (caught_kind unbound records arity q t)

    abbrev IsClauseAlike : ClauseKind → Type 0
    IsClauseAlike t = LikeChoice n (choice_kind unbound records arity p t) (choice_kind unbound records arity q t)

    abbrev ExprAlike : Type 0
    ExprAlike = (t : ExprKind) × IsExprAlike t

    abbrev ItemAlike : Type 0
    ItemAlike = (t : ItemKind) × IsItemAlike t

    abbrev QualifierAlike : Type 0
    QualifierAlike = (t : QualifierKind) × IsQualifierAlike t

    abbrev AssocAlike : Type 0
    AssocAlike = (t : AssocKind) × IsAssocAlike t

    abbrev CatchAlike : Type 0
    CatchAlike = (t : CatchKind) × IsCatchAlike t

    abbrev ClauseAlike : Type 0
    ClauseAlike = (t : ClauseKind) × IsClauseAlike t

    abbrev plain_expr : E.ExprKind-F ExprAlike ItemAlike QualifierAlike AssocAlike CatchAlike ClauseAlike → Trees E.ExprKind-F
    plain_expr y = map-ExprKind ExprAlike ItemAlike QualifierAlike AssocAlike CatchAlike ClauseAlike ExprKind ItemKind QualifierKind AssocKind CatchKind ClauseKind (λ t. t.0) (λ t. t.0) (λ t. t.0) (λ t. t.0) (λ t. t.0) (λ t. t.0) y

    abbrev plain_item : E.ItemKind-F ExprAlike ItemAlike QualifierAlike AssocAlike CatchAlike ClauseAlike → Trees E.ItemKind-F
    plain_item y = map-ItemKind ExprAlike ItemAlike QualifierAlike AssocAlike CatchAlike ClauseAlike ExprKind ItemKind QualifierKind AssocKind CatchKind ClauseKind (λ t. t.0) (λ t. t.0) (λ t. t.0) (λ t. t.0) (λ t. t.0) (λ t. t.0) y

    abbrev plain_qualifier : E.QualifierKind-F ExprAlike ItemAlike QualifierAlike AssocAlike CatchAlike ClauseAlike → Trees E.QualifierKind-F
    plain_qualifier y = map-QualifierKind ExprAlike ItemAlike QualifierAlike AssocAlike CatchAlike ClauseAlike ExprKind ItemKind QualifierKind AssocKind CatchKind ClauseKind (λ t. t.0) (λ t. t.0) (λ t. t.0) (λ t. t.0) (λ t. t.0) (λ t. t.0) y

    abbrev plain_assoc : E.AssocKind-F ExprAlike ItemAlike QualifierAlike AssocAlike CatchAlike ClauseAlike → Trees E.AssocKind-F
    plain_assoc y = map-AssocKind ExprAlike ItemAlike QualifierAlike AssocAlike CatchAlike ClauseAlike ExprKind ItemKind QualifierKind AssocKind CatchKind ClauseKind (λ t. t.0) (λ t. t.0) (λ t. t.0) (λ t. t.0) (λ t. t.0) (λ t. t.0) y

    abbrev plain_caught : E.CatchKind-F ExprAlike ItemAlike QualifierAlike AssocAlike CatchAlike ClauseAlike → Trees E.CatchKind-F
    plain_caught y = map-CatchKind ExprAlike ItemAlike QualifierAlike AssocAlike CatchAlike ClauseAlike ExprKind ItemKind QualifierKind AssocKind CatchKind ClauseKind (λ t. t.0) (λ t. t.0) (λ t. t.0) (λ t. t.0) (λ t. t.0) (λ t. t.0) y

    abbrev plain_choice : E.ClauseKind-F ExprAlike ItemAlike QualifierAlike AssocAlike CatchAlike ClauseAlike → Trees E.ClauseKind-F
    plain_choice y = map-ClauseKind ExprAlike ItemAlike QualifierAlike AssocAlike CatchAlike ClauseAlike ExprKind ItemKind QualifierKind AssocKind CatchKind ClauseKind (λ t. t.0) (λ t. t.0) (λ t. t.0) (λ t. t.0) (λ t. t.0) (λ t. t.0) y

    -- the tree of a node
    abbrev tree : {A : Type 0} {B : A → Type 0} → Node ((t : A) × B t) → Node A
    tree t = record { place = t.place; marks = t.marks; kind = t.kind.0 }

    part-like : (t : Node ExprAlike) → LikePart Value n (part (record { place = t.place; marks = t.marks; kind = with_expr unbound records arity p t.kind.0 })) (part (record { place = t.place; marks = t.marks; kind = with_expr unbound records arity q t.kind.0 }))
    part-like t = record { funs = λ j. with_itself (is_fun_layer (out-ExprKind t.kind.0)) (tree t) (t.kind.1.inner j); runs = t.kind.1.runs }

    parts-like : (ts : List (Node ExprAlike)) → all_like n (parts (S.former-ExprKind-Tuple-0.map ExprKind (ExprKind × Does) (with_expr unbound records arity p) (S.former-ExprKind-Tuple-0.map ExprAlike ExprKind (λ t. t.0) ts))) (parts (S.former-ExprKind-Tuple-0.map ExprKind (ExprKind × Does) (with_expr unbound records arity q) (S.former-ExprKind-Tuple-0.map ExprAlike ExprKind (λ t. t.0) ts)))
    parts-like [] = tt
    parts-like (t ∷ ts) = (part-like t, parts-like ts)

    items-like : (ts : List (Node ItemAlike)) → all_like n (all_of (S.former-ExprKind-Begin-0.map ItemKind (ItemKind × Part (Value × Environment)) (with_item unbound records arity p) (S.former-ExprKind-Begin-0.map ItemAlike ItemKind (λ t. t.0) ts))) (all_of (S.former-ExprKind-Begin-0.map ItemKind (ItemKind × Part (Value × Environment)) (with_item unbound records arity q) (S.former-ExprKind-Begin-0.map ItemAlike ItemKind (λ t. t.0) ts)))
    items-like [] = tt
    items-like (t ∷ ts) = (t.kind.1, items-like ts)

    qualifiers-like : (ts : List (Node QualifierAlike)) → all_like n (all_of (S.former-ExprKind-Comp-1.map QualifierKind (QualifierKind × Part (List Environment)) (with_qualifier unbound records arity p) (S.former-ExprKind-Comp-1.map QualifierAlike QualifierKind (λ t. t.0) ts))) (all_of (S.former-ExprKind-Comp-1.map QualifierKind (QualifierKind × Part (List Environment)) (with_qualifier unbound records arity q) (S.former-ExprKind-Comp-1.map QualifierAlike QualifierKind (λ t. t.0) ts)))
    qualifiers-like [] = tt
    qualifiers-like (t ∷ ts) = (t.kind.1, qualifiers-like ts)

    assocs-like : (ts : List (Node AssocAlike)) → all_like n (all_of (S.former-ExprKind-MapNew-0.map AssocKind (AssocKind × Part Association) (with_assoc unbound records arity p) (S.former-ExprKind-MapNew-0.map AssocAlike AssocKind (λ t. t.0) ts))) (all_of (S.former-ExprKind-MapNew-0.map AssocKind (AssocKind × Part Association) (with_assoc unbound records arity q) (S.former-ExprKind-MapNew-0.map AssocAlike AssocKind (λ t. t.0) ts)))
    assocs-like [] = tt
    assocs-like (t ∷ ts) = (t.kind.1, assocs-like ts)

    choices-like : (ts : List (Node ClauseAlike)) → all_choices n (all_of (S.former-ExprKind-Case-1.map ClauseKind (ClauseKind × Choice) (with_choice unbound records arity p) (S.former-ExprKind-Case-1.map ClauseAlike ClauseKind (λ t. t.0) ts))) (all_of (S.former-ExprKind-Case-1.map ClauseKind (ClauseKind × Choice) (with_choice unbound records arity q) (S.former-ExprKind-Case-1.map ClauseAlike ClauseKind (λ t. t.0) ts)))
    choices-like [] = tt
    choices-like (t ∷ ts) = (t.kind.1, choices-like ts)

    catches-like : (ts : List (Node CatchAlike)) → all_choices n (all_of (S.former-ExprKind-Try-2.map CatchKind (CatchKind × Choice) (with_caught unbound records arity p) (S.former-ExprKind-Try-2.map CatchAlike CatchKind (λ t. t.0) ts))) (all_of (S.former-ExprKind-Try-2.map CatchKind (CatchKind × Choice) (with_caught unbound records arity q) (S.former-ExprKind-Try-2.map CatchAlike CatchKind (λ t. t.0) ts)))
    catches-like [] = tt
    catches-like (t ∷ ts) = (t.kind.1, catches-like ts)

    fields-like : (ts : List (Node (Name × Node ExprAlike))) → all_like n (field_parts (S.former-ExprKind-RecNew-2.map ExprKind (ExprKind × Does) (with_expr unbound records arity p) (S.former-ExprKind-RecNew-2.map ExprAlike ExprKind (λ t. t.0) ts))) (field_parts (S.former-ExprKind-RecNew-2.map ExprKind (ExprKind × Does) (with_expr unbound records arity q) (S.former-ExprKind-RecNew-2.map ExprAlike ExprKind (λ t. t.0) ts)))
    fields-like [] = tt
    fields-like (t ∷ ts) = (part-like t.kind.1, fields-like ts)

    names-same : (ts : List (Node (Name × Node ExprAlike))) → names_of (S.former-ExprKind-RecNew-2.map ExprKind (ExprKind × Does) (with_expr unbound records arity p) (S.former-ExprKind-RecNew-2.map ExprAlike ExprKind (λ t. t.0) ts)) ≡ names_of (S.former-ExprKind-RecNew-2.map ExprKind (ExprKind × Does) (with_expr unbound records arity q) (S.former-ExprKind-RecNew-2.map ExprAlike ExprKind (λ t. t.0) ts))
    names-same [] = refl
    names-same (t ∷ ts) = ap (λ ns. t.kind.0 ∷ ns) (names-same ts)

    tail-like : (o : Option (Node ExprAlike)) → LikePart Value n (tail_part (S.former-ExprKind-Cells-1.map ExprKind (ExprKind × Does) (with_expr unbound records arity p) (S.former-ExprKind-Cells-1.map ExprAlike ExprKind (λ t. t.0) o))) (tail_part (S.former-ExprKind-Cells-1.map ExprKind (ExprKind × Does) (with_expr unbound records arity q) (S.former-ExprKind-Cells-1.map ExprAlike ExprKind (λ t. t.0) o)))
    tail-like None = record { funs = refl; runs = λ b c e environment m l. gives-alike nil m }
    tail-like (Some t) = part-like t

    after-like : (o : Option (List (Node ItemAlike))) → optional_like n (optional (S.former-ExprKind-Try-3.map ItemKind (ItemKind × Part (Value × Environment)) (with_item unbound records arity p) (S.former-ExprKind-Try-3.map ItemAlike ItemKind (λ t. t.0) o))) (optional (S.former-ExprKind-Try-3.map ItemKind (ItemKind × Part (Value × Environment)) (with_item unbound records arity q) (S.former-ExprKind-Try-3.map ItemAlike ItemKind (λ t. t.0) o)))
    after-like None = tt
    after-like (Some ts) = items-like ts

    test-same : (environment : Environment) (t : Node ExprAlike) → test_holds environment (record { place = t.place; marks = t.marks; kind = with_expr unbound records arity p t.kind.0 }) ≡ test_holds environment (record { place = t.place; marks = t.marks; kind = with_expr unbound records arity q t.kind.0 })
    test-same environment t = ap is_true (tests t.kind.0 t.kind.1 environment)

    tests-same : (environment : Environment) (ts : List (Node ExprAlike)) → list_all (test_holds environment) (S.former-ExprKind-Tuple-0.map ExprKind (ExprKind × Does) (with_expr unbound records arity p) (S.former-ExprKind-Tuple-0.map ExprAlike ExprKind (λ t. t.0) ts)) ≡ list_all (test_holds environment) (S.former-ExprKind-Tuple-0.map ExprKind (ExprKind × Does) (with_expr unbound records arity q) (S.former-ExprKind-Tuple-0.map ExprAlike ExprKind (λ t. t.0) ts))
    tests-same environment [] = refl
    tests-same environment (t ∷ ts) = λ j. test-same environment t j && tests-same environment ts j

    alternatives-same : (environment : Environment) (ts : List (List (Node ExprAlike))) → list_any (λ es. list_all (test_holds environment) es) (S.former-ClauseKind-guard-at-8.map ExprKind (ExprKind × Does) (with_expr unbound records arity p) (S.former-ClauseKind-guard-at-8.map ExprAlike ExprKind (λ t. t.0) ts)) ≡ list_any (λ es. list_all (test_holds environment) es) (S.former-ClauseKind-guard-at-8.map ExprKind (ExprKind × Does) (with_expr unbound records arity q) (S.former-ClauseKind-guard-at-8.map ExprAlike ExprKind (λ t. t.0) ts))
    alternatives-same environment [] = refl
    alternatives-same environment (t ∷ ts) = λ j. tests-same environment t j || alternatives-same environment ts j

    guard-same : (g : Option (Node (List (List (Node ExprAlike))))) (environment : Environment) → guard_holds (S.former-ClauseKind-guard.map ExprKind (ExprKind × Does) (with_expr unbound records arity p) (S.former-ClauseKind-guard.map ExprAlike ExprKind (λ t. t.0) g)) environment ≡ guard_holds (S.former-ClauseKind-guard.map ExprKind (ExprKind × Does) (with_expr unbound records arity q) (S.former-ClauseKind-guard.map ExprAlike ExprKind (λ t. t.0) g)) environment
    guard-same None environment = refl
    guard-same (Some g) environment = alternatives-same environment g.kind

    -- ---- one level of each kind of node

    abbrev no_enter : (b c : ℕ) → b ≡ c → (environment : Environment) (vs : List Value) (m : ℕ) → m ≤ n → Alike Value m (goes_wrong m) (goes_wrong (κ.shift m))
    no_enter b c e environment vs m l = wrong-alike m

    literal-like : (v : Value) → Like n (literal v) (literal v)
    literal-like v = record { inner = refl; runs = λ b c e environment m l. gives-alike v m; enters = no_enter }

    layer-like : (y : E.ExprKind-F ExprAlike ItemAlike QualifierAlike AssocAlike CatchAlike ClauseAlike) → Like n (run_layer unbound records arity p (expr_layer unbound records arity p (plain_expr y))) (run_layer unbound records arity q (expr_layer unbound records arity q (plain_expr y)))
    layer-like (E.Atom a) = literal-like _
    layer-like (E.Int z) = literal-like _
    layer-like (E.Char z) = literal-like _
    layer-like (E.Str z) = literal-like _
    layer-like (E.FunName name z) = literal-like _
    layer-like (E.Var x) = record {
      inner = refl;
      runs = λ b c e environment m l. ends-alike (meaning unbound (variable_value environment x)) m;
      enters = no_enter;
    }
    layer-like (E.Paren x) = record {
      inner = (part-like x).funs;
      runs = x.kind.1.runs;
      enters = no_enter;
    }
    layer-like (E.Tuple es) = record {
      inner = funs_in-same n _ _ (parts-like es);
      runs = λ b c e environment m l. then-alike m _ _ _ _ (run_all-like n _ _ (parts-like es) b c e environment m l) (λ vs k u. gives-alike _ k);
      enters = no_enter;
    }
    layer-like (E.Cells es t) = record {
      inner = λ j. funs_in-same n _ _ (parts-like es) j ++ (tail-like t).funs j;
      runs = λ b c e environment m l. then-alike m _ _ _ _ (run_all-like n _ _ (parts-like es) b c e environment m l) (λ vs k u. then-alike k _ _ _ _ ((tail-like t).runs _ _ (λ j. behind (e j) (funs_in-same n _ _ (parts-like es) j)) environment k (le-trans u l)) (λ v i w. gives-alike _ i));
      enters = no_enter;
    }
    layer-like (E.Comp x qs) = record {
      inner = λ j. (part-like x).funs j ++ funs_in-same n _ _ (qualifiers-like qs) j;
      runs = λ b c e environment m l. then-alike m _ _ _ _ (run_qualifiers-like n _ _ (qualifiers-like qs) _ _ (λ inner i w. x.kind.1.runs b c e inner i w) _ _ (λ j. behind (e j) ((part-like x).funs j)) environment m l) (λ vs k u. gives-alike _ k);
      enters = no_enter;
    }
    layer-like (E.Unary op x) = record {
      inner = (part-like x).funs;
      runs = λ b c e environment m l. then-alike m _ _ _ _ (x.kind.1.runs b c e environment m l) (λ v k u. ends-alike _ k);
      enters = no_enter;
    }
    layer-like (E.Binary op x y) = record {
      inner = λ j. (part-like x).funs j ++ (part-like y).funs j;
      runs = λ b c e environment m l. then-alike m _ _ _ _ (x.kind.1.runs b c e environment m l) (λ v k u. operator-alike op v k _ _ (y.kind.1.runs _ _ (λ j. behind (e j) ((part-like x).funs j)) environment k (le-trans u l)));
      enters = no_enter;
    }
    layer-like (E.Call prefix name es) = record {
      inner = funs_in-same n _ _ (parts-like es);
      runs = λ b c e environment m l. then-alike m _ _ _ _ (run_all-like n _ _ (parts-like es) b c e environment m l) (λ vs k u. call-alike unbound prefix (built_in arity name vs) k (λ rest. p (named_fun name (length vs)) vs rest) (λ rest. q (named_fun name (length vs)) vs rest) (agree (named_fun name (length vs)) vs k (le-trans u l)));
      enters = no_enter;
    }
    layer-like (E.Apply x es) = record {
      inner = λ j. (part-like x).funs j ++ funs_in-same n _ _ (parts-like es) j;
      runs = λ b c e environment m l. then-alike m _ _ _ _ (x.kind.1.runs b c e environment m l) (λ v k u. then-alike k _ _ _ _ (run_all-like n _ _ (parts-like es) _ _ (λ j. behind (e j) ((part-like x).funs j)) environment k (le-trans u l)) (λ vs i w. agree v vs i (le-trans w (le-trans u l))));
      enters = no_enter;
    }
    layer-like (E.MapNew assocs) = record {
      inner = funs_in-same n _ _ (assocs-like assocs);
      runs = λ b c e environment m l. then-alike m _ _ _ _ (run_all-like n _ _ (assocs-like assocs) b c e environment m l) (λ changes k u. ends-alike _ k);
      enters = no_enter;
    }
    layer-like (E.MapChange x assocs) = record {
      inner = λ j. (part-like x).funs j ++ funs_in-same n _ _ (assocs-like assocs) j;
      runs = λ b c e environment m l. then-alike m _ _ _ _ (x.kind.1.runs b c e environment m l) (λ v k u. then-alike k _ _ _ _ (run_all-like n _ _ (assocs-like assocs) _ _ (λ j. behind (e j) ((part-like x).funs j)) environment k (le-trans u l)) (λ changes i w. ends-alike _ i));
      enters = no_enter;
    }
    layer-like (E.RecNew name tag fs) = record {
      inner = funs_in-same n _ _ (fields-like fs);
      runs = λ b c e environment m l. then-alike m _ _ _ _ (run_all-like n _ _ (fields-like fs) b c e environment m l) (λ vs k u. subst (λ ns. Alike Value k (gives_found (new_record (find_record records name) tag (names_of (S.former-ExprKind-RecNew-2.map ExprKind (ExprKind × Does) (with_expr unbound records arity p) (S.former-ExprKind-RecNew-2.map ExprAlike ExprKind (λ t. t.0) fs))) vs) k) (gives_found (new_record (find_record records name) tag ns vs) (κ.shift k))) (names-same fs) (found-alike _ k));
      enters = no_enter;
    }
    layer-like (E.RecChange x name tag fs) = record {
      inner = λ j. (part-like x).funs j ++ funs_in-same n _ _ (fields-like fs) j;
      runs = λ b c e environment m l. then-alike m _ _ _ _ (x.kind.1.runs b c e environment m l) (λ v k u. then-alike k _ _ _ _ (run_all-like n _ _ (fields-like fs) _ _ (λ j. behind (e j) ((part-like x).funs j)) environment k (le-trans u l)) (λ vs i w. subst (λ ns. Alike Value i (gives_found (changed_record (find_record records name) tag v (names_of (S.former-ExprKind-RecNew-2.map ExprKind (ExprKind × Does) (with_expr unbound records arity p) (S.former-ExprKind-RecNew-2.map ExprAlike ExprKind (λ t. t.0) fs))) vs) i) (gives_found (changed_record (find_record records name) tag v ns vs) (κ.shift i))) (names-same fs) (found-alike _ i)));
      enters = no_enter;
    }
    layer-like (E.RecGet x name tag field) = record {
      inner = (part-like x).funs;
      runs = λ b c e environment m l. then-alike m _ _ _ _ (x.kind.1.runs b c e environment m l) (λ v k u. found-alike _ k);
      enters = no_enter;
    }
    layer-like (E.Begin is) = record {
      inner = funs_in-same n _ _ (items-like is);
      runs = run_body-like n _ _ (items-like is);
      enters = no_enter;
    }
    layer-like (E.Case x cs) = record {
      inner = λ j. (part-like x).funs j ++ choices-same n _ _ (choices-like cs) j;
      runs = λ b c e environment m l. then-alike m _ _ _ _ (x.kind.1.runs b c e environment m l) (λ v k u. run_clauses-like n taken (taken-same n) _ _ (choices-like cs) _ _ (λ j. behind (e j) ((part-like x).funs j)) environment (v ∷ []) k (le-trans u l));
      enters = no_enter;
    }
    layer-like (E.If cs) = record {
      inner = choices-same n _ _ (choices-like cs);
      runs = λ b c e environment m l. run_clauses-like n taken (taken-same n) _ _ (choices-like cs) b c e environment [] m l;
      enters = no_enter;
    }
    layer-like (E.Fun cs) = record {
      inner = choices-same n _ _ (choices-like cs);
      runs = λ b c e environment m l. κ.at_end Value _ _ (λ j. came (closure (e j) environment)) m;
      enters = λ b c e environment vs m l. run_clauses-like n taken_anew (taken_anew-same n) _ _ (choices-like cs) b c e environment vs m l;
    }
    layer-like (E.Try is cs catches after) = record {
      inner = λ j. funs_in-same n _ _ (items-like is) j ++ (choices-same n _ _ (choices-like cs) j ++ (choices-same n _ _ (catches-like catches) j ++ optional-same n _ _ (after-like after) j));
      runs = run_try-like n _ _ _ _ _ _ _ _ (items-like is) (choices-like cs) (catches-like catches) (after-like after);
      enters = no_enter;
    }

    matched-alike : (o : Option Environment) (v : Value) (m : ℕ) → Alike (Value × Environment) m (matched unbound records arity p o v m) (matched unbound records arity q o v (κ.shift m))
    matched-alike None v m = wrong-alike m
    matched-alike (Some environment) v m = gives-alike _ m

    item_layer-like : (y : E.ItemKind-F ExprAlike ItemAlike QualifierAlike AssocAlike CatchAlike ClauseAlike) → LikePart (Value × Environment) n (run_item_layer unbound records arity p (item_layer unbound records arity p (plain_item y))) (run_item_layer unbound records arity q (item_layer unbound records arity q (plain_item y)))
    item_layer-like (E.Value x) = record { funs = (part-like x).funs; runs = λ b c e environment m l. then-alike m _ _ _ _ (x.kind.1.runs b c e environment m l) (λ v k u. gives-alike _ k) }
    item_layer-like (E.Match pattern x) = record { funs = (part-like x).funs; runs = λ b c e environment m l. then-alike m _ _ _ _ (x.kind.1.runs b c e environment m l) (λ v k u. matched-alike _ v k) }

    environments-same : (pattern : Node PatternKind) (vs : List Value) (environment : Environment) → environments_of unbound records arity p pattern vs environment ≡ environments_of unbound records arity q pattern vs environment
    environments-same pattern [] environment = refl
    environments-same pattern (v ∷ vs) environment = ap (λ es. front unbound records arity p (anew (match_pattern records pattern v no_bindings) environment) es) (environments-same pattern vs environment) ∙ front-same (anew (match_pattern records pattern v no_bindings) environment) (environments_of unbound records arity q pattern vs environment)
      where
        front-same : (o : Option Environment) (es : List Environment) → front unbound records arity p o es ≡ front unbound records arity q o es
        front-same None es = refl
        front-same (Some e) es = refl

    generated-alike : (pattern : Node PatternKind) (o : Option (List Value)) (environment : Environment) (m : ℕ) → Alike (List Environment) m (generated unbound records arity p pattern o environment m) (generated unbound records arity q pattern o environment (κ.shift m))
    generated-alike pattern None environment m = wrong-alike m
    generated-alike pattern (Some vs) environment m = κ.at_end (List Environment) _ _ (ap came (environments-same pattern vs environment)) m

    filter-alike : (b : Bool) (x : Node ExprAlike) → RunsAlike (List Environment) n (run_filter b (record { place = x.place; marks = x.marks; kind = with_expr unbound records arity p x.kind.0 })) (run_filter b (record { place = x.place; marks = x.marks; kind = with_expr unbound records arity q x.kind.0 }))
    filter-alike true x b c e environment m l = κ.at_end (List Environment) _ _ (ap (λ passes. came (passing passes environment)) (test-same environment x)) m
    filter-alike false x b c e environment m l = then-alike m _ _ _ _ (x.kind.1.runs b c e environment m l) (λ v k u. truth-alike _ environment k)

    qualifier_layer-like : (y : E.QualifierKind-F ExprAlike ItemAlike QualifierAlike AssocAlike CatchAlike ClauseAlike) → LikePart (List Environment) n (run_qualifier_layer unbound records arity p (qualifier_layer unbound records arity p (plain_qualifier y))) (run_qualifier_layer unbound records arity q (qualifier_layer unbound records arity q (plain_qualifier y)))
    qualifier_layer-like (E.Generator pattern x) = record { funs = (part-like x).funs; runs = λ b c e environment m l. then-alike m _ _ _ _ (x.kind.1.runs b c e environment m l) (λ v k u. generated-alike pattern _ environment k) }
    qualifier_layer-like (E.Filter x) = record { funs = (part-like x).funs; runs = filter-alike (is_none (misfit (tree x))) x }

    assoc_layer-like : (y : E.AssocKind-F ExprAlike ItemAlike QualifierAlike AssocAlike CatchAlike ClauseAlike) → LikePart Association n (run_assoc_layer unbound records arity p (assoc_layer unbound records arity p (plain_assoc y))) (run_assoc_layer unbound records arity q (assoc_layer unbound records arity q (plain_assoc y)))
    assoc_layer-like y = record {
      funs = λ j. (part-like y.key).funs j ++ (part-like y.value).funs j;
      runs = λ b c e environment m l. then-alike m _ _ _ _ (y.key.kind.1.runs b c e environment m l) (λ v k u. then-alike k _ _ _ _ (y.value.kind.1.runs _ _ (λ j. behind (e j) ((part-like y.key).funs j)) environment k (le-trans u l)) (λ w i t. gives-alike _ i));
    }

    clause_layer-like : (y : E.ClauseKind-F ExprAlike ItemAlike QualifierAlike AssocAlike CatchAlike ClauseAlike) → LikeChoice n (run_clause_layer unbound records arity p (choice_layer unbound records arity p (plain_choice y))) (run_clause_layer unbound records arity q (choice_layer unbound records arity q (plain_choice y)))
    clause_layer-like y = record { funs = funs_in-same n _ _ (items-like y.body); matches = λ vs environment. refl; allows = guard-same y.guard; runs = run_body-like n _ _ (items-like y.body) }

    class-same : (o : Option (Node PatternKind)) (v : Value) (environment : Environment) → match_class unbound records arity p o v environment ≡ match_class unbound records arity q o v environment
    class-same None v environment = refl
    class-same (Some pattern) v environment = refl

    caught-same : (o : Option (Node PatternKind)) (c d : Choice) → LikeChoice n c d → (vs : List Value) (environment : Environment) → match_caught unbound records arity p o c vs environment ≡ match_caught unbound records arity q o d vs environment
    caught-same o c d h [] environment = refl
    caught-same o c d h (v ∷ vs) environment = λ j. match_next (class-same o v environment j) (λ own. h.matches vs own j)

    catch_layer-like : (y : E.CatchKind-F ExprAlike ItemAlike QualifierAlike AssocAlike CatchAlike ClauseAlike) → LikeChoice n (run_catch_layer unbound records arity p (caught_layer unbound records arity p (plain_caught y))) (run_catch_layer unbound records arity q (caught_layer unbound records arity q (plain_caught y)))
    catch_layer-like y = record { funs = y.clause.kind.1.funs; matches = caught-same y.class _ _ y.clause.kind.1; allows = y.clause.kind.1.allows; runs = y.clause.kind.1.runs }

    -- ---- each kind of node

    roll_expr-like : (x : Trees E.ExprKind-F) (y : E.ExprKind-F ExprAlike ItemAlike QualifierAlike AssocAlike CatchAlike ClauseAlike) → plain_expr y ≡ x → IsExprAlike (roll-ExprKind x)
    roll_expr-like x y e = subst (λ z. IsExprAlike (roll-ExprKind z)) e (subst (λ X. X) (λ j. Like n (sym (expr-rolls unbound records arity p (plain_expr y)) j) (sym (expr-rolls unbound records arity q (plain_expr y)) j)) (layer-like y))

    roll_item-like : (x : Trees E.ItemKind-F) (y : E.ItemKind-F ExprAlike ItemAlike QualifierAlike AssocAlike CatchAlike ClauseAlike) → plain_item y ≡ x → IsItemAlike (roll-ItemKind x)
    roll_item-like x y e = subst (λ z. IsItemAlike (roll-ItemKind z)) e (subst (λ X. X) (λ j. LikePart (Value × Environment) n (sym (item-rolls unbound records arity p (plain_item y)) j) (sym (item-rolls unbound records arity q (plain_item y)) j)) (item_layer-like y))

    roll_qualifier-like : (x : Trees E.QualifierKind-F) (y : E.QualifierKind-F ExprAlike ItemAlike QualifierAlike AssocAlike CatchAlike ClauseAlike) → plain_qualifier y ≡ x → IsQualifierAlike (roll-QualifierKind x)
    roll_qualifier-like x y e = subst (λ z. IsQualifierAlike (roll-QualifierKind z)) e (subst (λ X. X) (λ j. LikePart (List Environment) n (sym (qualifier-rolls unbound records arity p (plain_qualifier y)) j) (sym (qualifier-rolls unbound records arity q (plain_qualifier y)) j)) (qualifier_layer-like y))

    roll_assoc-like : (x : Trees E.AssocKind-F) (y : E.AssocKind-F ExprAlike ItemAlike QualifierAlike AssocAlike CatchAlike ClauseAlike) → plain_assoc y ≡ x → IsAssocAlike (roll-AssocKind x)
    roll_assoc-like x y e = subst (λ z. IsAssocAlike (roll-AssocKind z)) e (subst (λ X. X) (λ j. LikePart Association n (sym (assoc-rolls unbound records arity p (plain_assoc y)) j) (sym (assoc-rolls unbound records arity q (plain_assoc y)) j)) (assoc_layer-like y))

    roll_caught-like : (x : Trees E.CatchKind-F) (y : E.CatchKind-F ExprAlike ItemAlike QualifierAlike AssocAlike CatchAlike ClauseAlike) → plain_caught y ≡ x → IsCatchAlike (roll-CatchKind x)
    roll_caught-like x y e = subst (λ z. IsCatchAlike (roll-CatchKind z)) e (subst (λ X. X) (λ j. LikeChoice n (sym (caught-rolls unbound records arity p (plain_caught y)) j) (sym (caught-rolls unbound records arity q (plain_caught y)) j)) (catch_layer-like y))

    roll_choice-like : (x : Trees E.ClauseKind-F) (y : E.ClauseKind-F ExprAlike ItemAlike QualifierAlike AssocAlike CatchAlike ClauseAlike) → plain_choice y ≡ x → IsClauseAlike (roll-ClauseKind x)
    roll_choice-like x y e = subst (λ z. IsClauseAlike (roll-ClauseKind z)) e (subst (λ X. X) (λ j. LikeChoice n (sym (choice-rolls unbound records arity p (plain_choice y)) j) (sym (choice-rolls unbound records arity q (plain_choice y)) j)) (clause_layer-like y))

    pub kind-like : (t : ExprKind) → IsExprAlike t
    kind-like = ind-ExprKind IsExprAlike IsItemAlike IsQualifierAlike IsAssocAlike IsCatchAlike IsClauseAlike roll_expr-like roll_item-like roll_qualifier-like roll_assoc-like roll_caught-like roll_choice-like

    pub clause-like : (t : ClauseKind) → IsClauseAlike t
    clause-like = ind-ClauseKind IsExprAlike IsItemAlike IsQualifierAlike IsAssocAlike IsCatchAlike IsClauseAlike roll_expr-like roll_item-like roll_qualifier-like roll_assoc-like roll_caught-like roll_choice-like

    clauses-like : (cs : List (Node ClauseKind)) → all_choices n (choices unbound records arity p cs) (choices unbound records arity q cs)
    clauses-like [] = tt
    clauses-like (c ∷ cs) = (clause-like c.kind, clauses-like cs)

    pub function-like : (cs : List (Node ClauseKind)) (number : ℕ) (args : List Value) (m : ℕ) → m ≤ n → Alike Value m (run_clauses taken_anew (choices unbound records arity p cs) number no_bindings args m) (run_clauses taken_anew (choices unbound records arity q cs) number no_bindings args (κ.shift m))
    function-like cs number args m l = run_clauses-like n taken_anew (taken_anew-same n) _ _ (clauses-like cs) number number refl no_bindings args m l

  -- the same of the functions and the closures of a program
  module _ (code : Code) (p q : Applies) (n : ℕ)
      (agree : (f : Value) (args : List Value) (m : ℕ) → m ≤ n → Alike Value m (p f args m) (q f args (κ.shift m)))
      (tests : (t : ExprKind) → Like n (run_kind code.unbound code.records (arity_of code) p t) (run_kind code.unbound code.records (arity_of code) q t) → (environment : Environment) → ((run_kind code.unbound code.records (arity_of code) p t).run 0 environment 0).outcome ≡ ((run_kind code.unbound code.records (arity_of code) q t).run 0 environment 0).outcome) where
    pub run_function-like : (o : Option (Function × ℕ)) (args : List Value) (m : ℕ) → m ≤ n → Alike Value m (run_function code p o args m) (run_function code q o args (κ.shift m))
    run_function-like None args m l = ends-alike code.unbound m
    run_function-like (Some f) args m l = function-like code.unbound code.records (arity_of code) p q n agree tests f.0.clauses f.1 args m l

    pub run_closure-like : (o : Option (Node ExprKind)) (number : ℕ) (environment : Environment) (args : List Value) (m : ℕ) → m ≤ n → Alike Value m (run_closure code p o number environment args m) (run_closure code q o number environment args (κ.shift m))
    run_closure-like None number environment args m l = wrong-alike m
    run_closure-like (Some e) number environment args m l = (kind-like code.unbound code.records (arity_of code) p q n agree tests e.kind).enters (suc number) (suc number) refl environment args m l

  pub cond-like : (b : Bool) (m : ℕ) (r q : Run Value) → Alike Value m r q → Alike Value m (cond b r (goes_wrong m)) (cond b q (goes_wrong (κ.shift m)))
  cond-like true m r q h = h
  cond-like false m r q h = wrong-alike m
