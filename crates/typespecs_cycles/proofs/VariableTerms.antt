-- A type expression has a variable's term only where, behind parentheses and `X ::`, a variable stands.
use Rattle.std.proofs.Common.{◌≡◌, refl, ap, sym, subst, ◌∙◌, ℕ, ℤ, List, [], ◌∷◌}
use Rattle.std.specs.Prelude.{Option, Some, None as Nothing, Bool, true, false, cond, if◌then◌else◌, codes}
use Rattle.std.specs.Option.{option_map}
use Rattle.type_terms.specs.Keys.{Name, same_name}
use Rattle.type_terms.specs.Reading.{le_int}
use Rattle.type_terms.specs.declared.term.Field.{Field}
use Rattle.type_terms.specs.declared.term.Term.{Term, out-Term, Any, None, Ints, AtomLit, AnyAtom, Nil, Cons, Tuple, AnyTuple, Map, Fun, AnyFun, Or, And, Not, Var, Name as NameTerm}
use Rattle.type_terms.specs.declared.term.Term.TheOpen as F
use Rattle.type_terms.specs.declared.term.Term.TheViews as Views
use Rattle.erl_tree.specs.Lists.{Every}
use Rattle.erl_tree.specs.declared.token.Node.{Node}
use Rattle.erl_tree.specs.declared.type_expr.TypeKind.{TypeKind, out-TypeKind, roll-TypeKind, roll-out-TypeKind, map-TypeKind}
use Rattle.erl_tree.specs.declared.type_expr.MapPart.{MapPart}
use Rattle.erl_tree.specs.declared.type_expr.TypeKind.TheVariants as Y
use Rattle.erl_tree.specs.declared.type_expr.TypeKind.TheOpen as O
use Rattle.erl_runs.specs.Names.{is_wildcard}
use Rattle.erl_runs.specs.Specs.{and_then}
use Rattle.typespecs_rules.specs.BuiltInTypes.{plain_types, term_among, built_in_term, is_built_in_name}
use Rattle.typespecs_rules.specs.Declarations.{Declarations, record_number}
use Rattle.typespecs_rules.specs.TypeTerms.{MapEntry, RecordTuple, range_end, set_operation, used_term, term, terms, entries, named_terms, term_layer}
use Rattle.typespecs_rules.proofs.TypeRuleLaws.{of_kind, with_term, with_entry, term-rolls, type_term-Var, type_term-Paren, type_term-Named}
use Rattle.typespecs_cycles.specs.Variables.{IsVariableOf}

-- the number of a variable
abbrev number_layer : F.Term-F Term Field → Option ℕ
number_layer (F.Var i) = Some i
number_layer _ = Nothing

abbrev number_of : Term → Option ℕ
number_of t = number_layer (out-Term t)

abbrev variable_number : Option Term → Option ℕ
variable_number Nothing = Nothing
variable_number (Some t) = number_of t

abbrev None-is : Option Term → Type 0
None-is o = variable_number o ≡ Nothing

of-variable : (i : ℕ) → number_of (Var i) ≡ Some i
of-variable i = ap number_layer (Views.outs-Var i)

no-number : (o : Option Term) → None-is o → (i : ℕ) → o ≡ Some (Var i) → ⊥
no-number o none i e = absurd-some (sym none ∙ (ap variable_number e ∙ of-variable i))
  where
    absurd-some : Nothing ≡ Some i → ⊥
    absurd-some q = absurd (cc)

pub same-number : (i j : ℕ) → Some (Var i) ≡ Some (Var j) → i ≡ j
same-number i j e = inner (sym (of-variable i) ∙ (ap variable_number e ∙ of-variable j))
  where
    inner : Some i ≡ Some j → i ≡ j
    inner q = cc

-- ---- terms that are none

then-none : {A : Type 0} (o : Option A) (f : A → Option Term) → ((a : A) → None-is (f a)) → None-is (and_then o f)
then-none Nothing f h = refl
then-none (Some a) f h = h a

map-none : {A : Type 0} (o : Option A) (f : A → Term) → ((a : A) → number_of (f a) ≡ Nothing) → None-is (option_map f o)
map-none Nothing f h = refl
map-none (Some a) f h = h a

cond-none : (b : Bool) (x y : Option Term) → None-is x → None-is y → None-is (cond b x y)
cond-none true x y p q = p
cond-none false x y p q = q

if-none : (b : Bool) (x y : Option Term) → None-is x → None-is y → None-is (if b then x else y)
if-none true x y p q = p
if-none false x y p q = q

no-Any : number_of Any ≡ Nothing
no-Any = ap number_layer Views.outs-Any

no-None : number_of None ≡ Nothing
no-None = ap number_layer Views.outs-None

no-Ints : (low high : Option ℤ) → number_of (Ints low high) ≡ Nothing
no-Ints low high = ap number_layer (Views.outs-Ints low high)

no-AtomLit : (a : Name) → number_of (AtomLit a) ≡ Nothing
no-AtomLit a = ap number_layer (Views.outs-AtomLit a)

no-AnyAtom : number_of AnyAtom ≡ Nothing
no-AnyAtom = ap number_layer Views.outs-AnyAtom

no-Nil : number_of Nil ≡ Nothing
no-Nil = ap number_layer Views.outs-Nil

no-Cons : (head tail : Term) → number_of (Cons head tail) ≡ Nothing
no-Cons head tail = ap number_layer (Views.outs-Cons head tail)

no-Tuple : (ts : List Term) → number_of (Tuple ts) ≡ Nothing
no-Tuple ts = ap number_layer (Views.outs-Tuple ts)

no-AnyTuple : number_of AnyTuple ≡ Nothing
no-AnyTuple = ap number_layer Views.outs-AnyTuple

no-Map : (fields : List Field) (integers atoms : Option Term) → number_of (Map fields integers atoms) ≡ Nothing
no-Map fields integers atoms = ap number_layer (Views.outs-Map fields integers atoms)

no-Fun : (params : List Term) (result : Term) → number_of (Fun params result) ≡ Nothing
no-Fun params result = ap number_layer (Views.outs-Fun params result)

no-AnyFun : (arity : Option ℕ) → number_of (AnyFun arity) ≡ Nothing
no-AnyFun arity = ap number_layer (Views.outs-AnyFun arity)

no-Or : (ts : List Term) → number_of (Or ts) ≡ Nothing
no-Or ts = ap number_layer (Views.outs-Or ts)

no-And : (ts : List Term) → number_of (And ts) ≡ Nothing
no-And ts = ap number_layer (Views.outs-And ts)

no-Not : (t : Term) → number_of (Not t) ≡ Nothing
no-Not t = ap number_layer (Views.outs-Not t)

no-Name : (n : ℕ) (ts : List Term) → number_of (NameTerm n ts) ≡ Nothing
no-Name n ts = ap number_layer (Views.outs-Name n ts)

-- ---- built-in types

abbrev Nones : List (Name × Term) → Type 0
Nones ts = Every (λ (t : Name × Term). number_of t.1 ≡ Nothing) ts

among-none : (ts : List (Name × Term)) (name : Name) → Nones ts → None-is (term_among ts name)
among-none [] name h = refl
among-none (t ∷ ts) name h = cond-none (same_name t.0 name) _ _ h.0 (among-none ts name h.1)

plain-none : Nones plain_types
plain-none = (
  no-Any,
  (
    no-Any,
    (
      no-None,
      (
        no-None,
        (
          no-Ints _ _,
          (
            no-Ints _ _,
            (
              no-Ints _ _,
              (
                no-Ints _ _,
                (
                  no-Ints _ _,
                  (
                    no-Ints _ _,
                    (
                      no-Ints _ _,
                      (no-AnyAtom, (no-AnyAtom, (no-Or _, (no-Or _, (no-Nil, (no-Name _ _, (no-Cons _ _, (no-Name _ _, (no-Cons _ _, (no-AnyTuple, (no-Tuple _, (no-Map [] (Some Any) (Some Any), (no-AnyFun Nothing, tt))))))))))))),
                    ),
                  ),
                ),
              ),
            ),
          ),
        ),
      ),
    ),
  ),
)

built_in-none : (name : Name) (own : List Term) → None-is (built_in_term name own)
built_in-none name [] = among-none plain_types name plain-none
built_in-none name (t ∷ []) = cond-none (same_name name (codes "list")) _ _ (no-Name _ _) (cond-none (same_name name (codes "nonempty_list")) _ _ (no-Cons _ _) refl)
built_in-none name (t ∷ u ∷ own) = refl

set-none : (name : Name) (own : List Term) → None-is (set_operation name own)
set-none name [] = refl
set-none name (t ∷ []) = cond-none (same_name name (codes "negation")) _ _ (no-Not t) refl
set-none name (t ∷ u ∷ []) = cond-none (same_name name (codes "intersection")) _ _ (no-And _) refl
set-none name (t ∷ u ∷ v ∷ own) = refl

-- ---- type expressions

module _ (d : Declarations) (tuples : Name → Option RecordTuple) (variables : Name → Option Term) where
  used-none : (name : Name) (own : List Term) → None-is (used_term d name own)
  used-none name own = cond-none (is_built_in_name name) _ _ (built_in-none name own) (map-none _ _ (λ n. no-Name n own))

  abbrev Open : Type 0
  Open = O.TypeKind-F (TypeKind × Option Term) (MapPart × Option MapEntry)

  layer-none : (y : Open) → ((x : Name) → y ≡ O.Var x → ⊥) → ((t : Node (TypeKind × Option Term)) → y ≡ O.Paren t → ⊥) → ((x : Name) (t : Node (TypeKind × Option Term)) → y ≡ O.Named x t → ⊥) → None-is (term_layer d tuples variables y)
  layer-none (O.Atom a) f g h = no-AtomLit a
  layer-none (O.Int n) f g h = no-Ints _ _
  layer-none (O.NegInt n) f g h = no-Ints _ _
  layer-none (O.Char c) f g h = no-Ints _ _
  layer-none (O.Var x) f g h = absurd (f x refl)
  layer-none (O.Paren t) f g h = absurd (g t refl)
  layer-none (O.Or t u) f g h = then-none (term t) _ (λ a. then-none (term u) _ (λ b. no-Or _))
  layer-none (O.Named x t) f g h = absurd (h x t refl)
  layer-none (O.Range low high) f g h = then-none (range_end low.kind) _ (λ l. then-none (range_end high.kind) _ (λ m. if-none (le_int l m) (Some (Ints (Some l) (Some m))) Nothing (no-Ints (Some l) (Some m)) refl))
  layer-none (O.Use Nothing name args) f g h = then-none (terms args) _ (λ own. used-none name own)
  layer-none (O.Use (Some prefix) name args) f g h = then-none (terms args) _ (λ own. cond-none (same_name prefix (codes "ety")) _ _ (set-none name own) refl)
  layer-none O.Nil f g h = no-Nil
  layer-none (O.ListOf t) f g h = map-none (term t) _ (λ a. no-Name _ _)
  layer-none (O.NonEmpty t) f g h = map-none (term t) _ (λ a. no-Cons _ _)
  layer-none (O.Tuple ts) f g h = map-none (terms ts) _ (λ own. no-Tuple own)
  layer-none (O.Map parts) f g h = map-none (entries parts) _ (λ es. no-Map _ _ _)
  layer-none O.FunAll f g h = no-AnyFun Nothing
  layer-none (O.Fun params result) f g h = then-none (terms params) _ (λ own. map-none (term result) _ (λ r. no-Fun own r))
  layer-none (O.Rec name tag []) f g h = map-none (record_number d name) _ (λ n. no-Name n [])
  layer-none (O.Rec name tag (x ∷ fs)) f g h = then-none (named_terms (x ∷ fs)) _ (λ given. map-none (tuples name) _ (λ r. no-Tuple _))

  abbrev mapped : O.TypeKind-F TypeKind MapPart → Open
  mapped y = map-TypeKind TypeKind MapPart (TypeKind × Option Term) (MapPart × Option MapEntry) (with_term d tuples variables) (with_entry d tuples variables) y

  open-none : (y : O.TypeKind-F TypeKind MapPart) → ((x : Name) → y ≡ O.Var x → ⊥) → ((t : Node TypeKind) → y ≡ O.Paren t → ⊥) → ((x : Name) (t : Node TypeKind) → y ≡ O.Named x t → ⊥) → None-is (term_layer d tuples variables (mapped y))
  open-none (O.Var x) f g h = absurd (f x refl)
  open-none (O.Paren t) f g h = absurd (g t refl)
  open-none (O.Named x t) f g h = absurd (h x t refl)
  open-none y f g h = layer-none (mapped y) (λ x e. absurd (cc)) (λ t e. absurd (cc)) (λ x t e. absurd (cc))

  module _ (k : TypeKind) where
    pub wildcard-none : (x : Name) (b : Bool) → k ≡ Y.Var x → b ≡ is_wildcard x → b ≡ true → (i : ℕ) → of_kind d tuples variables k ≡ Some (Var i) → ⊥
    wildcard-none x b is e holds = no-number (of_kind d tuples variables k) (ap (λ j. variable_number (of_kind d tuples variables j)) is ∙ (ap variable_number (type_term-Var d tuples variables x ∙ ap (λ c. cond c (Some Any) (variables x)) (sym e ∙ holds)) ∙ no-Any))

    pub variable-some : (x : Name) (b : Bool) → k ≡ Y.Var x → b ≡ is_wildcard x → b ≡ false → of_kind d tuples variables k ≡ variables x
    variable-some x b is e fails = ap (of_kind d tuples variables) is ∙ (type_term-Var d tuples variables x ∙ ap (λ c. cond c (Some Any) (variables x)) (sym e ∙ fails))

    pub behind-paren : (t : Node TypeKind) (j : TypeKind) (o : Option Name) → k ≡ Y.Paren t → j ≡ t.kind → IsVariableOf variables o (of_kind d tuples variables j) → IsVariableOf variables o (of_kind d tuples variables k)
    behind-paren t j o is same h = subst (IsVariableOf variables o) (ap (of_kind d tuples variables) same ∙ sym (ap (of_kind d tuples variables) is ∙ type_term-Paren d tuples variables t)) h

    pub behind-named : (x : Name) (t : Node TypeKind) (j : TypeKind) (o : Option Name) → k ≡ Y.Named x t → j ≡ t.kind → IsVariableOf variables o (of_kind d tuples variables j) → IsVariableOf variables o (of_kind d tuples variables k)
    behind-named x t j o is same h = subst (IsVariableOf variables o) (ap (of_kind d tuples variables) same ∙ sym (ap (of_kind d tuples variables) is ∙ type_term-Named d tuples variables x t)) h

    out-is : (y : O.TypeKind-F TypeKind MapPart) → out-TypeKind k ≡ y → k ≡ roll-TypeKind y
    out-is y e = sym (roll-out-TypeKind k) ∙ ap roll-TypeKind e

    pub no-other : ((x : Name) → k ≡ Y.Var x → ⊥) → ((t : Node TypeKind) → k ≡ Y.Paren t → ⊥) → ((x : Name) (t : Node TypeKind) → k ≡ Y.Named x t → ⊥) → (i : ℕ) → of_kind d tuples variables k ≡ Some (Var i) → ⊥
    no-other f g h = no-number (of_kind d tuples variables k)
        (ap (λ j. variable_number (of_kind d tuples variables j)) (sym (roll-out-TypeKind k))
        ∙ (ap variable_number (term-rolls d tuples variables (out-TypeKind k))
        ∙ open-none (out-TypeKind k) (λ x e. f x (out-is (O.Var x) e ∙ Y.rolls-Var x)) (λ t e. g t (out-is (O.Paren t) e ∙ Y.rolls-Paren t)) (λ x t e. h x t (out-is (O.Named x t) e ∙ Y.rolls-Named x t))))
