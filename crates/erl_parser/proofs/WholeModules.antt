-- A text that is one module: what is found is the module with these tokens, each well-formed module is found or a node of it is nested too deep, and no tokens are those of two.
use Rattle.std.proofs.Common.{◌≡◌, ℕ, suc, List, [], ◌∷◌, ◌++◌, length, refl, ap, sym, ◌∙◌, subst, inl, inr, le_refl, arith}
use Rattle.std.specs.Prelude.{◌⊎◌, Ok, Err, codes}
use Rattle.type_terms.specs.Keys.{Name}
use Rattle.erl_tree.specs.Lists.{Among}
use Rattle.erl_tree.specs.declared.token.Place.{Place}
use Rattle.erl_tree.specs.declared.token.Placed.{Placed}
use Rattle.erl_tree.specs.declared.token.Token.TheVariants as T
use Rattle.erl_tree.specs.declared.form.TreeForm.{TreeForm}
use Rattle.erl_tree.specs.declared.form.Module.{Module}
use Rattle.erl_grammar.specs.Pieces.{at}
use Rattle.erl_grammar.specs.FormSpelling.{forms_tokens, module_tokens}
use Rattle.erl_grammar.specs.FormNesting.{module_deep, IsModuleWithin}
use Rattle.erl_grammar.specs.FormGrammar.{IsModule, module_of}
use Rattle.erl_grammar.proofs.FormSpellingLaws.{module_tokens-parts}
use Rattle.erl_grammar.proofs.FormDepthLaws.{module_bounded}
use Rattle.erl_parser_tokens.specs.declared.fault.ParseFault.TheVariants as faults
use Rattle.erl_parser_tokens.specs.Tokens.{Answer}
use Rattle.erl_parser_tokens.specs.Outside.{HasOutside}
use Rattle.erl_parser_tokens.proofs.Then.{behind_part, Right, right_ok, right_then, right_next, Again, again_ok, again_from, again_step, again_shallow}
use Rattle.erl_parser_tokens.proofs.TokenLaws.{expect_mark-again, expect_atom-again}
use Rattle.erl_parser.specs.Forms.{read_header, read_module_at}
use Rattle.erl_parser.specs.Answers.{IsModuleText}
use Rattle.erl_parser.proofs.ItemsLaws.{IsThis, again_this}
use Rattle.erl_parser.proofs.FormTokens.{right_mark, right_atom, right_named, expect_named-again, right_dot, expect_dot-again}
use Rattle.erl_parser.proofs.FormLaws.{FormsRead, forms-right, forms-again}

-- ---- the header

-- `-module(name).`
abbrev header_text : (h w o n c d : Place) → Name → List Placed
header_text h w o n c d name = at (T.Mark (codes "-")) h ∷ at (T.Atom (codes "module")) w ∷ at (T.Mark (codes "(")) o ∷ at (T.Atom name) n ∷ at (T.Mark (codes ")")) c ∷ at T.Dot d ∷ []

-- the header was read
record HeaderRead (ts : List Placed) (q : (Name × List Place) × List Placed) : Type 0 where
  h : Place
  w : Place
  o : Place
  n : Place
  c : Place
  d : Place
  marks : q.0.1 ≡ h ∷ w ∷ o ∷ n ∷ c ∷ d ∷ []
  takes : ts ≡ header_text h w o n c d q.0.0 ++ q.1

header-right : (ts : List Placed) → Right (HeaderRead ts) ts (read_header ts)
unfolding read_header
header-right ts = right_mark (codes "-") ts λ h hh. right_named (codes "module") h.1 λ w hw. right_mark (codes "(") w.1 λ o ho. right_atom o.1 λ n hn. right_mark (codes ")") n.1 λ c hc. right_dot c.1 λ d hd. right_ok (record {
  h = h.0;
  w = w.0;
  o = o.0;
  n = n.0.1;
  c = c.0;
  d = d.0;
  marks = refl;
  takes = hh ∙ ap (λ l. at (T.Mark (codes "-")) h.0 ∷ l) (hw ∙ ap (λ l. at (T.Atom (codes "module")) w.0 ∷ l) (ho ∙ ap (λ l. at (T.Mark (codes "(")) o.0 ∷ l) (hn ∙ ap (λ l. at (T.Atom n.0.0) n.0.1 ∷ l) (hc ∙ ap (λ l. at (T.Mark (codes ")")) c.0 ∷ l) hd))));
})

header-again : (h w o n c d : Place) (name : Name) (rest : List Placed) → read_header (header_text h w o n c d name ++ rest) ≡ Ok ((name, h ∷ w ∷ o ∷ n ∷ c ∷ d ∷ []), rest)
unfolding read_header
header-again h w o n c d name rest = rw (
  expect_mark-again (codes "-") h (at (T.Atom (codes "module")) w ∷ at (T.Mark (codes "(")) o ∷ at (T.Atom name) n ∷ at (T.Mark (codes ")")) c ∷ at T.Dot d ∷ rest),
  expect_named-again (codes "module") w (at (T.Mark (codes "(")) o ∷ at (T.Atom name) n ∷ at (T.Mark (codes ")")) c ∷ at T.Dot d ∷ rest),
  expect_mark-again (codes "(") o (at (T.Atom name) n ∷ at (T.Mark (codes ")")) c ∷ at T.Dot d ∷ rest),
  expect_atom-again name n (at (T.Mark (codes ")")) c ∷ at T.Dot d ∷ rest),
  expect_mark-again (codes ")") c (at T.Dot d ∷ rest),
  expect_dot-again d rest,
) refl

-- ---- modules

abbrev module_with : List Place → Name → List TreeForm → Module
module_with ms name forms = record { name = name; marks = ms; forms = forms }

module_in_turn : (h w o n c d e : Place) (name : Name) (forms : List TreeForm) → module_tokens (module_with (h ∷ w ∷ o ∷ n ∷ c ∷ d ∷ e ∷ []) name forms) ≡ header_text h w o n c d name ++ (forms_tokens forms ++ at T.End e ∷ [])
module_in_turn h w o n c d e name forms = module_tokens-parts (module_with (h ∷ w ∷ o ∷ n ∷ c ∷ d ∷ e ∷ []) name forms)

-- the module that was found
pub record FoundModule (levels : ℕ) (ts : List Placed) (m : Module) : Type 0 where
  pub formed : IsModule m
  pub shallow : IsModuleWithin levels m
  pub text : IsModuleText m ts

found : (levels : ℕ) (ts : List Placed) (h : (Name × List Place) × List Placed) (fs : List TreeForm × Place) → HeaderRead ts h → FormsRead levels [] h.1 fs → FoundModule levels ts (module_with (h.0.1 ++ fs.1 ∷ []) h.0.0 fs.0)
found levels ts h fs r s =
    let one : FoundModule levels ts (module_with (r.h ∷ r.w ∷ r.o ∷ r.n ∷ r.c ∷ r.d ∷ fs.1 ∷ []) h.0.0 s.others) = record {
      formed = module_of r.h r.w r.o r.n r.c r.d fs.1 h.0.0 s.others s.formed;
      shallow = s.shallow;
      text = module_in_turn r.h r.w r.o r.n r.c r.d fs.1 h.0.0 s.others ∙ sym (r.takes ∙ ap (λ l. header_text r.h r.w r.o r.n r.c r.d h.0.0 ++ l) s.takes);
    } in
    subst (λ ms. FoundModule levels ts (module_with (ms ++ fs.1 ∷ []) h.0.0 fs.0)) (sym r.marks) (subst (λ xs. FoundModule levels ts (module_with (r.h ∷ r.w ∷ r.o ∷ r.n ∷ r.c ∷ r.d ∷ fs.1 ∷ []) h.0.0 xs)) (sym s.same) one)

-- what is found is well formed, nested at most so deep, and has exactly these tokens, and a form outside of the profile is answered only where it stands
pub read_module-right : (levels : ℕ) (ts : List Placed) → Right (FoundModule levels ts) ts (read_module_at levels ts)
unfolding read_module_at
read_module-right levels ts = right_then (header-right ts) λ h r. right_next (behind_part (header_text r.h r.w r.o r.n r.c r.d h.0.0) r.takes) (forms-right levels (suc (length h.1)) [] h.1) λ fs s. right_ok (found levels ts h fs r s)

-- the same of an answer that is known
pub read_module-found : (levels : ℕ) (ts : List Placed) (m : Module) → read_module_at levels ts ≡ Ok m → FoundModule levels ts m
read_module-found levels ts m g = (subst (λ z. Right (FoundModule levels ts) ts z) g (read_module-right levels ts)).holds

-- a form outside of the profile is answered only where it stands
pub read_module-outside : (levels : ℕ) (ts : List Placed) (p : Place) (form : Name) → read_module_at levels ts ≡ Err (faults.OutOfProfile p form) → HasOutside ts p form
read_module-outside levels ts p form g = (subst (λ z. Right (FoundModule levels ts) ts z) g (read_module-right levels ts)).holds

-- a well-formed module is what is answered, or a node of it is nested too deep
again_in_turn : (levels : ℕ) (m : Module) → IsModule m → Again (IsThis m) (λ p. Among p (module_deep m levels)) (read_module_at levels (module_tokens m))
unfolding read_module_at
again_in_turn levels _ (module_of h w o n c d e name forms i) =
    again_from (ap (read_module_at levels) (module_in_turn h w o n c d e name forms))
    (again_step _ (header-again h w o n c d name (forms_tokens forms ++ at T.End e ∷ []))
    (again_this _ (forms-again levels (suc (length (forms_tokens forms ++ at T.End e ∷ []))) [] forms e i (omega arith)) (λ p a. a) (again_ok refl)))

pub again_module : (levels : ℕ) (ts : List Placed) (m : Module) → IsModule m → IsModuleText m ts → Again (IsThis m) (λ p. Among p (module_deep m levels)) (read_module_at levels ts)
again_module levels ts m i t = subst (λ us. Again (IsThis m) (λ p. Among p (module_deep m levels)) (read_module_at levels us)) t (again_in_turn levels m i)

either : (m : Module) (D : Place → Type 0) (answer : Answer Module) → Again (IsThis m) D answer → (answer ≡ Ok m) ⊎ ((p : Place) × D p × (answer ≡ Err (faults.TooDeep p)))
either m D (Ok x) a = inl (ap (λ y. Ok y) a.holds)
either m D (Err (faults.TooDeep p)) a = inr (p, a.holds, refl)
either m D (Err _) a = absurd a.holds

-- where these are the tokens of a well-formed module, the answer is that module, or the place of a node of it that is nested too deep. So another fault is answered only where no well-formed module has these tokens
pub read_module-complete : (levels : ℕ) (ts : List Placed) (m : Module) → IsModule m → IsModuleText m ts → (read_module_at levels ts ≡ Ok m) ⊎ ((p : Place) × Among p (module_deep m levels) × (read_module_at levels ts ≡ Err (faults.TooDeep p)))
read_module-complete levels ts m i t = either m (λ p. Among p (module_deep m levels)) (read_module_at levels ts) (again_module levels ts m i t)

-- a well-formed module that is nested at most so deep is found
pub read_module-finds : (levels : ℕ) (ts : List Placed) (m : Module) → IsModule m → IsModuleText m ts → IsModuleWithin levels m → read_module_at levels ts ≡ Ok m
read_module-finds levels ts m i t s = let r = again_shallow (λ p a. elim (subst (Among p) s a) [ ]) (again_module levels ts m i t) in r.1 ∙ ap (λ x. Ok x) r.2

same_by : (levels : ℕ) (ts : List Placed) (m n : Module) → IsModule m → IsModuleText m ts → read_module_at levels ts ≡ Ok n → n ≡ m
same_by levels ts m n i t g = (subst (λ z. Again (IsThis m) (λ p. Among p (module_deep m levels)) z) g (again_module levels ts m i t)).holds

-- what stands there fits nowhere: no well-formed module has these tokens
pub read_module-unexpected : (levels : ℕ) (ts : List Placed) (p : Place) → read_module_at levels ts ≡ Err (faults.Unexpected p) → (m : Module) → IsModule m → IsModuleText m ts → ⊥
read_module-unexpected levels ts p g m i t = (subst (λ z. Again (IsThis m) (λ p. Among p (module_deep m levels)) z) g (again_module levels ts m i t)).holds

-- nor where a form outside of the profile is answered
pub read_module-outside_only : (levels : ℕ) (ts : List Placed) (p : Place) (form : Name) → read_module_at levels ts ≡ Err (faults.OutOfProfile p form) → (m : Module) → IsModule m → IsModuleText m ts → ⊥
read_module-outside_only levels ts p form g m i t = (subst (λ z. Again (IsThis m) (λ p. Among p (module_deep m levels)) z) g (again_module levels ts m i t)).holds

-- no tokens are those of two well-formed modules
pub one_module : (m n : Module) → IsModule m → IsModule n → module_tokens m ≡ module_tokens n → m ≡ n
one_module m n i j g = let b = module_bounded i in same_by b.bound (module_tokens m) n m j (sym g) (read_module-finds b.bound (module_tokens m) m i refl (b.empty b.bound (le_refl b.bound)))
