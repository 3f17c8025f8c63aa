-- Going on with what was read gives what reading gives: the steps of the loops over forms and over the tokens of a form.
use Rattle.std.proofs.Common.{◌≡◌, ℕ, zero, suc, ◌<◌, List, [], ◌∷◌, ◌++◌, length, Option, Some, None, Ok, Err, refl, ap, ◌∙◌, append_assoc, append-nil, arith}
use Rattle.std.specs.Prelude.{if◌then◌else◌}
use Rattle.erl_tree.specs.declared.token.Place.{Place}
use Rattle.erl_tree.specs.declared.token.Placed.{Placed}
use Rattle.erl_tree.specs.declared.token.Token.{Token}
use Rattle.erl_tree.specs.declared.token.Token.TheVariants as T
use Rattle.erl_tree.specs.declared.form.TreeForm.{TreeForm}
use Rattle.erl_parser_tokens.specs.declared.fault.ParseFault.{ParseFault}
use Rattle.erl_parser_tokens.specs.Tokens.{Answer, ◌>>=◌, in_case, found_in, Fails, expect, end}
use Rattle.erl_parser_tokens.proofs.LoopLaws.{fails_by, first_fails}
use Rattle.erl_parser.specs.Forms.{is_dot, dot, token_to_dot, read_to_dot, read_form, read_forms}
use Rattle.erl_parser.specs.Views.{is_inner, inner_token}

-- ---- forms

-- going on with the forms that were read gives what reading gives
abbrev pub GoingForms : ℕ → List TreeForm → List Placed → Answer (List TreeForm × Place) → Type 0
GoingForms levels fs rest total = (k : ℕ) × (length rest < k) × (total ≡ read_forms levels k fs rest)

pub forms_begin : (levels : ℕ) (fs : List TreeForm) (ts : List Placed) → fs ≡ [] → GoingForms levels fs ts (read_forms levels (suc (length ts)) [] ts)
forms_begin levels fs ts e = (suc (length ts), omega arith, rw e refl)

module _ (levels : ℕ) where
  form_goes_on : (k : ℕ) (fs : List TreeForm) (ts : List Placed) (f : TreeForm) (behind : List Placed) → end ts ≡ None → read_form levels ts ≡ Ok (f, behind) → read_forms levels (suc k) fs ts ≡ read_forms levels k (fs ++ f ∷ []) behind
  unfolding read_forms
  form_goes_on k fs ts f behind e h = rw (e, h) refl

  pub forms_step : (fs gs : List TreeForm) (rest : List Placed) (total : Answer (List TreeForm × Place)) (f : TreeForm) (behind : List Placed)
      → GoingForms levels fs rest total → end rest ≡ None → read_form levels rest ≡ Ok (f, behind) → length behind < length rest → gs ≡ fs ++ f ∷ [] → GoingForms levels gs behind total
  forms_step fs gs rest total f behind (zero, l, g) e h d v = absurd (omega arith)
  forms_step fs gs rest total f behind (suc k, l, g) e h d v = (k, omega arith, g ∙ form_goes_on k fs rest f behind e h ∙ rw v refl)

  form_ends : (k : ℕ) (fs : List TreeForm) (ts : List Placed) (p : Place) → end ts ≡ Some p → read_forms levels (suc k) fs ts ≡ Ok (fs, p)
  unfolding read_forms
  form_ends k fs ts p e = rw e refl

  pub forms_end : (fs : List TreeForm) (rest : List Placed) (total : Answer (List TreeForm × Place)) (p : Place) → GoingForms levels fs rest total → end rest ≡ Some p → total ≡ Ok (fs, p)
  forms_end fs rest total p (zero, l, g) e = absurd (omega arith)
  forms_end fs rest total p (suc k, l, g) e = g ∙ form_ends k fs rest p e

  form_fails : (f : ParseFault) (k : ℕ) (fs : List TreeForm) (ts : List Placed) → end ts ≡ None → Fails f (read_form levels ts) → Fails f (read_forms levels (suc k) fs ts)
  unfolding read_forms
  form_fails f k fs ts e h = rw e (first_fails f (read_form levels ts) _ h)

  pub forms_fail : (f : ParseFault) (fs : List TreeForm) (rest : List Placed) (total : Answer (List TreeForm × Place)) → GoingForms levels fs rest total → end rest ≡ None → Fails f (read_form levels rest) → Fails f total
  forms_fail f fs rest total (zero, l, g) e h = absurd (omega arith)
  forms_fail f fs rest total (suc k, l, g) e h = fails_by f g (form_fails f k fs rest e h)

-- ---- the tokens of a form

-- what is read of the tokens of a form
abbrev ToDot : Type 0
ToDot = Answer ((List Token × List Place) × List Placed)

-- the same behind these tokens with their places
abbrev pub with_tokens : List Token → List Place → ToDot → ToDot
with_tokens xs ms read = read >>= λ r. Ok ((xs ++ r.0.0, ms ++ r.0.1), r.1)

-- what is read behind a dot, and behind another token
abbrev by_dot : Place × List Placed → ToDot
by_dot d = Ok (([], d.0 ∷ []), d.1)

abbrev by_inner : (Token × Place) × List Placed → ToDot
by_inner u = with_tokens (u.0.0 ∷ []) (u.0.1 ∷ []) (read_to_dot u.1)

abbrev dot_at : Placed → List Placed → Option (Place × List Placed)
dot_at t ts = if is_dot t.token then Some (t.place, ts) else None

abbrev inner_at : Placed → List Placed → Option ((Token × Place) × List Placed)
inner_at t ts = if is_inner t.token then Some ((t.token, t.place), ts) else None

-- what is read of the tokens of a form, of which this is the first
abbrev from_first : Placed → List Placed → ToDot
from_first t ts = in_case (dot_at t ts) (found_in (t ∷ ts) (inner_at t ts) >>= by_inner) by_dot

by_token : (k : Token) (t : Placed) (ts : List Placed) → t.token ≡ k → token_to_dot t.token t.place ts (read_to_dot ts) ≡ from_first t ts
by_token (T.Atom a) t ts e = rw e refl
by_token (T.Var x) t ts e = rw e refl
by_token (T.Int n) t ts e = rw e refl
by_token (T.Char c) t ts e = rw e refl
by_token (T.Str s) t ts e = rw e refl
by_token (T.Word w) t ts e = rw e refl
by_token (T.Mark m) t ts e = rw e refl
by_token T.Dot t ts e = rw e refl
by_token T.End t ts e = rw e refl

-- the tokens up to the dot, by the first of them
to_dot_is : (ts : List Placed) → read_to_dot ts ≡ in_case (dot ts) (expect inner_token ts >>= by_inner) by_dot
unfolding read_to_dot dot inner_token
to_dot_is [] = refl
to_dot_is (t ∷ ts) = by_token t.token t ts refl

pub tokens_begin : (xs : List Token) (ms : List Place) (read : ToDot) → xs ≡ [] → ms ≡ [] → read ≡ with_tokens xs ms read
tokens_begin xs ms (Ok r) e h = rw (e, h) refl
tokens_begin xs ms (Err f) e h = refl

regroup : (xs : List Token) (ms : List Place) (t : Token) (p : Place) (read : ToDot) → with_tokens xs ms (with_tokens (t ∷ []) (p ∷ []) read) ≡ with_tokens (xs ++ t ∷ []) (ms ++ p ∷ []) read
regroup xs ms t p (Ok r) = rw (append_assoc xs (t ∷ []) r.0.0, append_assoc ms (p ∷ []) r.0.1) refl
regroup xs ms t p (Err f) = refl

no_dot : (ts : List Placed) → dot ts ≡ None → read_to_dot ts ≡ (expect inner_token ts >>= by_inner)
no_dot ts e = to_dot_is ts ∙ rw e refl

module _ (xs : List Token) (ms : List Place) (rest : List Placed) (total : ToDot) (going : total ≡ with_tokens xs ms (read_to_dot rest)) where
  pub tokens_end : (p : Place) (behind : List Placed) (ns : List Place) → dot rest ≡ Some (p, behind) → ns ≡ ms ++ p ∷ [] → total ≡ Ok ((xs, ns), behind)
  tokens_end p behind ns e v = going ∙ (ap (with_tokens xs ms) (to_dot_is rest) ∙ rw (e, v, append-nil) refl)

  pub tokens_step : (t : Token) (p : Place) (behind : List Placed) (ys : List Token) (ns : List Place) → dot rest ≡ None → expect inner_token rest ≡ Ok ((t, p), behind) → ys ≡ xs ++ t ∷ [] → ns ≡ ms ++ p ∷ [] → total ≡ with_tokens ys ns (read_to_dot behind)
  tokens_step t p behind ys ns e h v w = going ∙ (ap (with_tokens xs ms) (no_dot rest e) ∙ rw (h, v, w) (regroup xs ms t p (read_to_dot behind)))

  pub tokens_fail : (f : ParseFault) → dot rest ≡ None → Fails f (expect inner_token rest) → Fails f total
  tokens_fail f e h = fails_by f (going ∙ ap (with_tokens xs ms) (no_dot rest e)) (first_fails f (expect inner_token rest >>= by_inner) (λ r. Ok ((xs ++ r.0.0, ms ++ r.0.1), r.1)) (first_fails f (expect inner_token rest) by_inner h))
