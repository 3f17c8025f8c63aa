-- Steps of the loops over what stands between quotes.
use Rattle.std.proofs.Common.{◌≡◌, ℕ, ◌+◌, ◌<◌, ◌≤◌, true, false, List, [], ◌∷◌, ◌++◌, length, get_or, drop, Option, Some, None, refl, ap, sym, ◌∙◌, arith, inl, inr, append_assoc}
use Rattle.std.proofs.lemmas.Bool.{eq-eqb, ne_eqb, cases_lt}
use Rattle.std.proofs.lemmas.List.{length-drop}
use Rattle.std.specs.Prelude.{◌⊎◌}
use Rattle.erl_tree.specs.Lexis.{is_escape, escape_value, unquoted}
use Rattle.erl_tree.specs.Profile.{further, bad_in_quotes}
use Rattle.erl_lexer.specs.Scan.{first_is, quoted_walk, quoted_run}
use Rattle.erl_lexer.proofs.Walks.{further_further, walk_plain, walk_close, walk_bad, walk_escape, bad_is_walk}
use Rattle.erl_lexer.proofs.Runs.{first_of, none_of}

-- so far: i characters were passed, and the rest tells what is left to tell
pub record IsWalked (quote : ℕ) (text : List ℕ) (i : ℕ) : Type 0 where
  pub closed : further i (quoted_walk (Some 1) None quote (drop i text)) ≡ quoted_run quote text
  pub bad : further i (quoted_walk None (Some 0) quote (drop i text)) ≡ bad_in_quotes quote text

nothing_more : (o : Option ℕ) → further 0 o ≡ o
nothing_more None = refl
nothing_more (Some n) = let e : 0 + n ≡ n = omega arith in ap (λ (x : ℕ). Some x) e

pub walk_begins : (quote : ℕ) (text : List ℕ) → IsWalked quote text 0
walk_begins quote text = record { closed = nothing_more _; bad = nothing_more _ ∙ sym (bad_is_walk quote text) }

one_more : (close bad : Option ℕ) (quote i : ℕ) (text : List ℕ) → i < length text → (get_or text i 0 ≡ 92 → ⊥) → (get_or text i 0 ≡ quote → ⊥) → further (i + 1) (quoted_walk close bad quote (drop (i + 1) text)) ≡ further i (quoted_walk close bad quote (drop i text))
one_more close bad quote i text h s q =
    let e : quoted_walk close bad quote (drop i text) ≡ further 1 (quoted_walk close bad quote (drop (i + 1) text)) = ap (quoted_walk close bad quote) (first_of i text h) ∙ walk_plain close bad quote _ _ (ne_eqb _ _ s) (ne_eqb _ _ q) in
    sym (ap (further i) e ∙ further_further i 1 (quoted_walk close bad quote (drop (i + 1) text)))

two_more : (close bad : Option ℕ) (quote i : ℕ) (text : List ℕ) → i < length text → get_or text i 0 ≡ 92 → first_is is_escape (drop (i + 1) text) ≡ true → further (i + 2) (quoted_walk close bad quote (drop (i + 2) text)) ≡ further i (quoted_walk close bad quote (drop i text))
two_more close bad quote i text h s f =
    let more = escaped (i + 1) text f in
    let two : drop (i + 2) text ≡ drop (i + 1 + 1) text = ap (λ (k : ℕ). drop k text) (add i) in
    let e : quoted_walk close bad quote (drop i text) ≡ further 2 (quoted_walk close bad quote (drop (i + 2) text)) =
    ap (quoted_walk close bad quote) (first_of i text h ∙ ap (λ (l : List ℕ). get_or text i 0 ∷ l) (first_of (i + 1) text more.0))
    ∙ (walk_escape close bad quote (get_or text i 0) (get_or text (i + 1) 0) (drop (i + 1 + 1) text) (eq-eqb _ _ s) more.1 ∙ ap (λ (l : List ℕ). further 2 (quoted_walk close bad quote l)) (sym two)) in
    sym (ap (further i) e ∙ further_further i 2 (quoted_walk close bad quote (drop (i + 2) text)))
  where
    add : (i : ℕ) → i + 2 ≡ i + 1 + 1
    add i = omega arith

    by : (k : ℕ) (text rest : List ℕ) → drop k text ≡ rest → first_is is_escape rest ≡ true → (k < length text → drop k text ≡ get_or text k 0 ∷ drop (k + 1) text) → (length text ≤ k → drop k text ≡ []) → ((k < length text) ⊎ (length text ≤ k)) → (k < length text) × (is_escape (get_or text k 0) ≡ true)
    by k text rest e f some none (inl l) = (l, let z : first_is is_escape (get_or text k 0 ∷ drop (k + 1) text) ≡ true = ap (first_is is_escape) (sym (some l) ∙ e) ∙ f in z)
    by k text rest e f some none (inr l) = absurd (let z : first_is is_escape [] ≡ true = ap (first_is is_escape) (sym (none l) ∙ e) ∙ f in cc)

    escaped : (k : ℕ) (text : List ℕ) → first_is is_escape (drop k text) ≡ true → (k < length text) × (is_escape (get_or text k 0) ≡ true)
    escaped k text f = by k text (drop k text) refl f (first_of k text) (none_of k text) (cases_lt k (length text))

pub walk_one : (quote i : ℕ) (text : List ℕ) → IsWalked quote text i → i < length text → (get_or text i 0 ≡ 92 → ⊥) → (get_or text i 0 ≡ quote → ⊥) → IsWalked quote text (i + 1)
walk_one quote i text w h s q = record { closed = one_more (Some 1) None quote i text h s q ∙ w.closed; bad = one_more None (Some 0) quote i text h s q ∙ w.bad }

pub walk_two : (quote i : ℕ) (text : List ℕ) → IsWalked quote text i → i < length text → get_or text i 0 ≡ 92 → first_is is_escape (drop (i + 1) text) ≡ true → IsWalked quote text (i + 2)
walk_two quote i text w h s f = record { closed = two_more (Some 1) None quote i text h s f ∙ w.closed; bad = two_more None (Some 0) quote i text h s f ∙ w.bad }

-- what it is that the text goes on with
pub record Ends (quote : ℕ) (text : List ℕ) (closed bad : Option ℕ) : Type 0 where
  pub closes : closed ≡ quoted_run quote text
  pub fails : bad ≡ bad_in_quotes quote text

pub walk_closed : (quote i : ℕ) (text : List ℕ) → IsWalked quote text i → i < length text → (get_or text i 0 ≡ 92 → ⊥) → get_or text i 0 ≡ quote → Ends quote text (Some (i + 1)) None
walk_closed quote i text w h s q = record {
  closes = ap (further i) (sym (ap (quoted_walk (Some 1) None quote) (first_of i text h) ∙ walk_close (Some 1) None quote _ _ (ne_eqb _ _ s) (eq-eqb _ _ q))) ∙ w.closed;
  fails = ap (further i) (sym (ap (quoted_walk None (Some 0) quote) (first_of i text h) ∙ walk_close None (Some 0) quote _ _ (ne_eqb _ _ s) (eq-eqb _ _ q))) ∙ w.bad;
}

pub walk_failed : (quote i : ℕ) (text : List ℕ) → IsWalked quote text i → i < length text → get_or text i 0 ≡ 92 → first_is is_escape (drop (i + 1) text) ≡ false → Ends quote text None (Some i)
walk_failed quote i text w h s f =
    let e : i ≡ i + 0 = omega arith in
    record {
      closes = ap (further i) (sym (ap (quoted_walk (Some 1) None quote) (first_of i text h) ∙ walk_bad (Some 1) None quote _ _ (eq-eqb _ _ s) f)) ∙ w.closed;
      fails = ap (λ (x : ℕ). Some x) e ∙ (ap (further i) (sym (ap (quoted_walk None (Some 0) quote) (first_of i text h) ∙ walk_bad None (Some 0) quote _ _ (eq-eqb _ _ s) f)) ∙ w.bad);
    }

pub walk_open : (quote i : ℕ) (text : List ℕ) → IsWalked quote text i → length text ≤ i → Ends quote text None None
walk_open quote i text w h = record {
  closes = ap (further i) (sym (ap (quoted_walk (Some 1) None quote) (none_of i text h))) ∙ w.closed;
  fails = ap (further i) (sym (ap (quoted_walk None (Some 0) quote) (none_of i text h))) ∙ w.bad;
}

pub two_within : (i : ℕ) (text : List ℕ) → first_is is_escape (drop (i + 1) text) ≡ true → i + 2 ≤ length text
two_within i text f = elim (cases_lt (i + 1) (length text)) [
  | inl l ↦ omega arith
  | inr h ↦ absurd (let z : first_is is_escape [] ≡ true = ap (first_is is_escape) (sym (none_of (i + 1) text h)) ∙ f in cc)
]

pub ruleset walks = (walk_begins, walk_one, walk_two, two_within)

-- ---- the characters

pub unquoted_one : (i : ℕ) (text out : List ℕ) → i + 1 < length text → (get_or text i 0 ≡ 92 → ⊥) → out ++ unquoted (drop i text) ≡ (out ++ get_or text i 0 ∷ []) ++ unquoted (drop (i + 1) text)
unquoted_one i text out h s =
    let l : i < length text = omega arith in
    let e : drop i text ≡ get_or text i 0 ∷ get_or text (i + 1) 0 ∷ drop (i + 1 + 1) text = first_of i text l ∙ ap (λ (x : List ℕ). get_or text i 0 ∷ x) (first_of (i + 1) text h) in
    let f : unquoted (get_or text i 0 ∷ get_or text (i + 1) 0 ∷ drop (i + 1 + 1) text) ≡ get_or text i 0 ∷ unquoted (get_or text (i + 1) 0 ∷ drop (i + 1 + 1) text) = rw (ne_eqb _ _ s) refl in
    ap (λ (x : List ℕ). out ++ unquoted x) e ∙ (ap (λ (x : List ℕ). out ++ x) (f ∙ ap (λ (x : List ℕ). get_or text i 0 ∷ unquoted x) (sym (first_of (i + 1) text h))) ∙ sym (append_assoc out (get_or text i 0 ∷ []) _))

pub unquoted_two : (i : ℕ) (text out : List ℕ) → i + 1 < length text → get_or text i 0 ≡ 92 → out ++ unquoted (drop i text) ≡ (out ++ escape_value (get_or text (i + 1) 0) ∷ []) ++ unquoted (drop (i + 2) text)
unquoted_two i text out h s =
    let l : i < length text = omega arith in
    let k : i + 1 + 1 ≡ i + 2 = omega arith in
    let e : drop i text ≡ get_or text i 0 ∷ get_or text (i + 1) 0 ∷ drop (i + 2) text = first_of i text l ∙ (ap (λ (x : List ℕ). get_or text i 0 ∷ x) (first_of (i + 1) text h) ∙ ap (λ (n : ℕ). get_or text i 0 ∷ get_or text (i + 1) 0 ∷ drop n text) k) in
    let f : unquoted (get_or text i 0 ∷ get_or text (i + 1) 0 ∷ drop (i + 2) text) ≡ escape_value (get_or text (i + 1) 0) ∷ unquoted (drop (i + 2) text) = rw (eq-eqb _ _ s) refl in
    ap (λ (x : List ℕ). out ++ unquoted x) e ∙ (ap (λ (x : List ℕ). out ++ x) f ∙ sym (append_assoc out (escape_value (get_or text (i + 1) 0) ∷ []) _))

short_is : (text : List ℕ) → length text ≤ 1 → unquoted text ≡ []
short_is [] h = refl
short_is (c ∷ []) h = refl
short_is (c ∷ d ∷ cs) h = absurd (omega arith)

pub unquoted_end : (i : ℕ) (text : List ℕ) → length text ≤ i + 1 → unquoted (drop i text) ≡ []
unquoted_end i text h = short_is (drop i text) (omega (arith, length-drop i text))

pub ruleset unquotes = (unquoted_one, unquoted_two, unquoted_end)
