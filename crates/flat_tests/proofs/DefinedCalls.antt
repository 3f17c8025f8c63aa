-- What the test of the calls of an expression answers, by its form.
use Rattle.std.proofs.Common.{◌≡◌, ℕ, Bool, true, false, List, [], ◌∷◌, ◌++◌, length, ◌↔◌, refl, sym, ap, ◌∙◌, true≢false, Option, Some, None, is_some}
use Rattle.std.specs.Prelude.{IsTrue, IfOk, Result}
use Rattle.type_terms.specs.Keys.{Name}
use Rattle.type_terms.specs.declared.list.NoMemory.{NoMemory}
use Rattle.erl_tree.specs.declared.token.Node.{Node}
use Rattle.erl_tree.specs.declared.expr.BinaryOp.{BinaryOp}
use Rattle.erl_tree.specs.declared.expr.ExprKind.{ExprKind}
use Rattle.erl_tree.specs.declared.expr.ExprKind.TheVariants as X
use Rattle.erl_tree.specs.declared.expr.ExprKind.TheOpen as E
use Rattle.erl_tree.specs.Functions.{FunctionId, of_function}
use Rattle.erl_tree.specs.Lists.{Every, Among}
use Rattle.flat_modules.specs.FlatNames.{called_in}
use Rattle.flat_modules.proofs.FlatNameEquations.{all_called, called_in-Paren, called_in-Binary}
use Rattle.flat_tests.specs.Names.{ExpressionCallsOnly}
use Rattle.flat_tests.proofs.OneLevel.{called_of, called_in-out}
use Rattle.flat_tests.proofs.Parts.{of_same, of_both, of_first, of_all, if_answered}

module _ (ids : List FunctionId) (k : ExprKind) where
  -- a function among these
  abbrev pub IsKnown : FunctionId → Type 0
  IsKnown id = Among id ids

  -- an answer for what another expression calls
  abbrev pub Tells : ExprKind → Bool → Type 0
  Tells j b = IsTrue b ↔ Every IsKnown (called_in j)

  pub called_in_parens : (e : Node ExprKind) (j : ExprKind) (r : Result Bool NoMemory) → k ≡ X.Paren e → j ≡ e.kind → IfOk r (Tells j) → IfOk r (Tells k)
  called_in_parens e j r is inner says = if_answered (Tells j) (Tells k) (λ b h. of_same IsKnown b _ _ (ap called_in is ∙ (called_in-Paren e ∙ ap called_in (sym inner))) h) r says

  module _ (op : BinaryOp) (l r : Node ExprKind) (is : k ≡ X.Binary op l r) (i : ExprKind) (left : i ≡ l.kind) (a : Bool) (says : Tells i a) where
    of_operands : called_in k ≡ called_in i ++ called_in r.kind
    of_operands = ap called_in is ∙ (called_in-Binary op l r ∙ ap (λ j. called_in j ++ called_in r.kind) (sym left))

    pub called_by_operands : (j : ExprKind) (q : Result Bool NoMemory) → a ≡ true → j ≡ r.kind → IfOk q (Tells j) → IfOk q (Tells k)
    called_by_operands j q holds right tells =
        if_answered (Tells j) (Tells k) (λ b h. of_same IsKnown b _ _ (of_operands ∙ ap (λ x. called_in i ++ called_in x) (sym right)) (of_both IsKnown (called_in i) (called_in j) a says b holds h)) q tells

    pub unknown_by_operand : a ≡ false → Tells k false
    unknown_by_operand fails = of_same IsKnown false _ _ of_operands (of_first IsKnown (called_in i) (called_in r.kind) a says false fails refl)

  module _ (prefix : Option Name) (name : Name) (args : List (Node ExprKind)) (is : k ≡ X.Call prefix name args) (s : Bool) (prefixed : s ≡ is_some prefix) where
    of_call : called_in k ≡ called_of (E.Call prefix name args)
    of_call = ap called_in is ∙ (called_in-out (X.Call prefix name args) ∙ ap called_of (X.outs-Call prefix name args))

    -- a call with a prefix is of no function of the module
    pub called_outside : s ≡ true → Tells k true
    called_outside holds = of_same IsKnown true _ [] (of_call ∙ none prefix (sym prefixed ∙ holds)) ((λ _. tt), λ _. refl)
      where
        none : (p : Option Name) → is_some p ≡ true → called_of (E.Call p name args) ≡ []
        none None h = absurd (true≢false (sym h))
        none (Some x) h = refl

    module _ (unprefixed : s ≡ false) (n : ℕ) (count : n ≡ length args) (a : Bool) (says : IsTrue a ↔ IsKnown (of_function name n)) where
      of_named : called_in k ≡ of_function name n ∷ all_called args
      of_named = of_call ∙ (named prefix (sym prefixed ∙ unprefixed) ∙ ap (λ m. of_function name m ∷ all_called args) (sym count))
        where
          named : (p : Option Name) → is_some p ≡ false → called_of (E.Call p name args) ≡ of_function name (length args) ∷ all_called args
          named None h = refl
          named (Some x) h = absurd (true≢false h)

      pub unknown_call : a ≡ false → Tells k false
      unknown_call fails = of_same IsKnown false _ _ of_named ((λ e. absurd (true≢false (sym e))), λ h. absurd (true≢false (sym (says.1 h.0) ∙ fails)))

      pub known_call : (given : List (Node ExprKind)) (q : Result Bool NoMemory) → a ≡ true → given ≡ args → IfOk q (λ b. IsTrue b ↔ Every (ExpressionCallsOnly ids) given) → IfOk q (Tells k)
      known_call given q holds same tells = if_answered (λ b. IsTrue b ↔ Every (ExpressionCallsOnly ids) given) (Tells k) by q tells
        where
          by : (b : Bool) → (IsTrue b ↔ Every (ExpressionCallsOnly ids) given) → Tells k b
          by b h =
              let g : IsTrue b ↔ Every IsKnown (all_called given) = of_all IsKnown (λ (x : Node ExprKind). called_in x.kind) all_called refl (λ x xs. refl) given b h in
              of_same IsKnown b _ _ (of_named ∙ ap (λ es. of_function name n ∷ all_called es) (sym same)) ((λ e. (says.0 holds, g.0 e)), λ x. g.1 x.1)
