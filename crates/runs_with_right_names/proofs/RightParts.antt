-- Where nothing is wrong with the names of a whole, nothing is wrong with those of its parts.
use Rattle.std.proofs.Common.{◌≡◌, refl, sym, subst, List, [], ◌∷◌, ◌++◌, map, inl, inr, Bool, true, false, not, ◌||◌}
use Rattle.std.specs.Prelude.{Option, Some, None}
use Rattle.std.specs.List.{list_any}
use Rattle.erl_tree.specs.declared.token.Place.{Place}
use Rattle.erl_tree.specs.declared.token.Node.{Node}
use Rattle.erl_tree.specs.declared.expr.ClauseKind.{ClauseKind}
use Rattle.erl_tree.specs.declared.form.Function.{Function}
use Rattle.erl_tree.specs.declared.form.RecDefKind.{RecDefKind}
use Rattle.erl_tree.specs.declared.form.TreeForm.{TreeForm}
use Rattle.erl_tree.specs.declared.form.TreeForm.TheVariants as F
use Rattle.erl_tree.specs.declared.form.Module.{Module}
use Rattle.erl_tree.specs.Lists.{Among, Every}
use Rattle.erl_tree.specs.Functions.{FunctionId, functions_in, functions_of, function_ids, function_id}
use Rattle.erl_runs.specs.Names.{same_id, is_built_in}
use Rattle.erl_runs.specs.Records.{records_of}
use Rattle.erl_scope_rules.specs.declared.fault.PlacedFault.{PlacedFault}
use Rattle.erl_scope_rules.specs.declared.fault.NameFault.{NameFault}
use Rattle.erl_scope_rules.specs.declared.fault.NameFault.TheVariants.{TwoFunctions, NoSpec}
use Rattle.erl_scope_rules.specs.Occurrences.{occurrences_of}
use Rattle.erl_scope_rules.specs.ScopeFaults.{unless, faults_of_each, faults_of_optional, occurrence_faults, ClauseFaults, clause_faults, clauses_faults, arities_differ, clause_node, clause_kind_faults, function_faults, form_faults, forms_faults, defined_by, specified_in, HasRightNames}

-- ---- lists

pub append-none : {A : Type 0} (xs ys : List A) → xs ++ ys ≡ [] → (xs ≡ []) × (ys ≡ [])
append-none [] ys e = (refl, e)
append-none (x ∷ xs) ys e = absurd (cc)

pub each-none : {A : Type 0} (of : A → List PlacedFault) (xs : List A) → faults_of_each of xs ≡ [] → Every (λ x. of x ≡ []) xs
each-none of [] e = tt
each-none of (x ∷ xs) e = let s : (of x ≡ []) × (faults_of_each of xs ≡ []) = append-none (of x) (faults_of_each of xs) e in (s.0, each-none of xs s.1)

-- what is said of what may be left out
abbrev pub Optional : {A : Type 0} → (A → Type 0) → Option A → Type 0
Optional holds None = Unit {0}
Optional holds (Some a) = holds a

pub optional-none : {A : Type 0} (of : A → List PlacedFault) (o : Option A) → faults_of_optional of o ≡ [] → Optional (λ x. of x ≡ []) o
optional-none of None e = tt
optional-none of (Some a) e = e

-- what isn't a fault is so
pub unless-holds : (holds : Bool) (fault : NameFault) (place : Place) → unless holds fault place ≡ [] → holds ≡ true
unless-holds true fault place e = refl
unless-holds false fault place e = absurd (cc)

pub every-split : {A : Type 0} (P : A → Type 0) (xs ys : List A) → Every P (xs ++ ys) → Every P xs × Every P ys
every-split P [] ys h = (tt, h)
every-split P (x ∷ xs) ys h = let k : Every P xs × Every P ys = every-split P xs ys h.1 in ((h.0, k.0), k.1)

pub every-at : {A : Type 0} (P : A → Type 0) (x : A) (xs : List A) → Every P xs → Among x xs → P x
every-at P x [] h a = absurd a
every-at P x (y ∷ xs) h (inl e) = subst P (sym e) h.0
every-at P x (y ∷ xs) h (inr a) = every-at P x xs h.1 a

pub every-of : {A B : Type 0} (P : B → Type 0) (f : A → B) (xs : List A) → Every P (map f xs) → Every (λ x. P (f x)) xs
every-of P f [] h = tt
every-of P f (x ∷ xs) h = (h.0, every-of P f xs h.1)

-- ---- clauses

pub clauses-none : (cs : List (Node ClauseFaults)) → clauses_faults cs ≡ [] → Every (λ c. clause_faults c ≡ []) cs
clauses-none [] e = tt
clauses-none (c ∷ cs) e = each-none clause_faults (c ∷ cs) (append-none (arities_differ c.kind.arity cs) (faults_of_each clause_faults (c ∷ cs)) e).1

pub clause-right : (functions : List FunctionId) (records : List RecDefKind) (cs : List (Node ClauseKind)) → clauses_faults (map (clause_node functions records) cs) ≡ [] →
    Every (λ c. (clause_kind_faults functions records c.kind).faults ≡ []) cs
clause-right functions records cs e = every-of (λ c. clause_faults c ≡ []) (clause_node functions records) cs (clauses-none (map (clause_node functions records) cs) e)

-- ---- modules

pub occurrences-right : (m : Module) → HasRightNames m → Every (λ o. occurrence_faults o ≡ []) (occurrences_of m)
occurrences-right m h = each-none occurrence_faults (occurrences_of m) (append-none (faults_of_each occurrence_faults (occurrences_of m)) (forms_faults m [] m.forms) h).0

function-right-behind : (m : Module) (f : Function) (before : List FunctionId) (forms : List TreeForm) → forms_faults m before forms ≡ [] → Among f (functions_in forms) →
    clauses_faults (map (clause_node (function_ids m) (records_of m)) f.clauses) ≡ []
function-right-behind m f before [] e a = absurd a
function-right-behind m f before (F.Function g ∷ forms) e a = by a (function-right-behind m f (function_id g ∷ before) forms parts.1)
  where
    Right : Function → Type 0
    Right h = clauses_faults (map (clause_node (function_ids m) (records_of m)) h.clauses) ≡ []

    parts : (function_faults (function_ids m) (records_of m) (specified_in m.forms) before g ≡ []) × (forms_faults m (function_id g ∷ before) forms ≡ [])
    parts = append-none (function_faults (function_ids m) (records_of m) (specified_in m.forms) before g) (forms_faults m (function_id g ∷ before) forms) e

    here : Right g
    here =
        let rest : unless (list_any (same_id (function_id g)) (specified_in m.forms)) NoSpec g.place ++ clauses_faults (map (clause_node (function_ids m) (records_of m)) g.clauses) ≡ [] =
        (append-none (unless (not (is_built_in (function_id g) || list_any (same_id (function_id g)) before)) TwoFunctions g.place) _ parts.0).1 in
        (append-none (unless (list_any (same_id (function_id g)) (specified_in m.forms)) NoSpec g.place) _ rest).1

    by : Among f (g ∷ functions_in forms) → (Among f (functions_in forms) → Right f) → Right f
    by (inl q) later = subst Right (sym q) here
    by (inr there) later = later there
function-right-behind m f before (form ∷ forms) e a = function-right-behind m f (defined_by form ++ before) forms (append-none (form_faults (function_ids m) (records_of m) (specified_in m.forms) before form) _ e).1 a

pub function-right : (m : Module) → HasRightNames m → (f : Function) → Among f (functions_of m) → clauses_faults (map (clause_node (function_ids m) (records_of m)) f.clauses) ≡ []
function-right m h f a = function-right-behind m f [] m.forms (append-none (faults_of_each occurrence_faults (occurrences_of m)) (forms_faults m [] m.forms) h).1 a
