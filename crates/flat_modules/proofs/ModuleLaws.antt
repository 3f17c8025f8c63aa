-- Flat modules: what is well formed in one grammar is so in the other, with the same tokens.
use Rattle.std.proofs.Common.{◌≡◌, refl, ap, sym, ◌∙◌, List, [], ◌∷◌, ◌++◌, true}
use Rattle.std.specs.Prelude.{codes}
use Rattle.std.specs.List.{list_all}
use Rattle.std.proofs.lemmas.Bool.{true≢false}
use Rattle.type_terms.specs.Keys.{Name}
use Rattle.erl_tree.specs.Lists.{Every}
use Rattle.erl_tree.specs.declared.token.Place.{Place}
use Rattle.erl_tree.specs.declared.token.Token.TheVariants as T
use Rattle.erl_tree.specs.declared.form.TreeForm.{TreeForm}
use Rattle.erl_tree.specs.declared.form.TreeForm.TheVariants as V
use Rattle.erl_tree.specs.declared.form.Module.{Module}
use Rattle.flat_modules.specs.Grammar.{IsWellFormed}
use Rattle.flat_modules.specs.Grammar as F
use Rattle.flat_modules.specs.Spelling.{at, atom, mark, tokens_of}
use Rattle.flat_modules.specs.Spelling as FS
use Rattle.erl_grammar.specs.FormGrammar.{IsModule, module_of}
use Rattle.erl_grammar.specs.FormGrammar as G
use Rattle.erl_grammar.specs.FormSpelling.{module_tokens}
use Rattle.erl_grammar.specs.FormSpelling as GS
use Rattle.erl_grammar.proofs.FormSpellingLaws.{module_tokens-parts}
use Rattle.erl_grammar.proofs.Layers.{each}
use Rattle.flat_modules.specs.Flat.{is_flat_form, is_flat}
use Rattle.flat_modules.specs.Calls.{FormInProfile, HasCallsInProfile}
use Rattle.flat_modules.proofs.Lists.{every, every-so, all-among, all-every}
use Rattle.flat_modules.proofs.SpecLaws.{spec-whole, spec-tokens, spec-passing, spec-flat}
use Rattle.flat_modules.proofs.FunctionLaws.{function-whole, function-tokens, function-passing, function-flat}

-- ---- forms

form-whole : (f : TreeForm) → F.IsForm f → FormInProfile f → G.IsForm f
form-whole (V.Spec s) h c = G.spec_form s (spec-whole s h)
form-whole (V.Function f) h c = G.function_form f (function-whole f h c)
form-whole _ h c = absurd h

form-tokens : (f : TreeForm) → F.IsForm f → FS.form_tokens f ≡ GS.form_tokens f
form-tokens (V.Spec s) h = spec-tokens s h
form-tokens (V.Function f) h = function-tokens f h
form-tokens _ h = absurd h

form-passing : (f : TreeForm) → F.IsForm f → is_flat_form f ≡ true
form-passing (V.Spec s) h = spec-passing s h
form-passing (V.Function f) h = function-passing f h
form-passing _ h = absurd h

form-flat : (f : TreeForm) → G.IsForm f → is_flat_form f ≡ true → F.IsForm f
form-flat _ (G.spec_form s h) f = spec-flat s h f
form-flat _ (G.function_form g h) f = function-flat g h f
form-flat _ (G.export_form e h) f = absurd (true≢false (sym f))
form-flat _ (G.record_form r h) f = absurd (true≢false (sym f))
form-flat _ (G.type_form d h) f = absurd (true≢false (sym f))
form-flat _ (G.skipped_form s h) f = absurd (true≢false (sym f))

forms-whole : (fs : List TreeForm) → Every F.IsForm fs → Every FormInProfile fs → Every G.IsForm fs
forms-whole [] h c = tt
forms-whole (f ∷ fs) h c = (form-whole f h.0 c.0, forms-whole fs h.1 c.1)

forms-tokens : (fs : List TreeForm) → Every F.IsForm fs → FS.forms_tokens fs ≡ GS.forms_tokens fs
forms-tokens [] h = refl
forms-tokens (f ∷ fs) h = ap (λ ts. ts ++ FS.forms_tokens fs) (form-tokens f h.0) ∙ ap (λ ts. GS.form_tokens f ++ ts) (forms-tokens fs h.1)

-- ---- modules

module_whole : (name : Name) (forms : List TreeForm) (ms : List Place) → F.is_module_layer forms ms → Every FormInProfile forms → IsModule (record { name = name; marks = ms; forms = forms })
module_whole name forms (h ∷ m ∷ o ∷ n ∷ c ∷ d ∷ e ∷ []) i p = module_of h m o n c d e name forms (each G.IsForm forms (forms-whole forms i p))
module_whole name forms _ i p = absurd i

pub module-whole : (m : Module) → IsWellFormed m → HasCallsInProfile m → IsModule m
unfolding IsWellFormed
module-whole m h c = module_whole m.name m.forms m.marks h c

module_tokens_same : (name : Name) (forms : List TreeForm) (ms : List Place) → F.is_module_layer forms ms → FS.module_layer name forms ms ≡ module_tokens (record { name = name; marks = ms; forms = forms })
module_tokens_same name forms (h ∷ m ∷ o ∷ n ∷ c ∷ d ∷ e ∷ []) i =
    ap (λ ts. mark (codes "-") h ∷ atom (codes "module") m ∷ mark (codes "(") o ∷ atom name n ∷ mark (codes ")") c ∷ at T.Dot d ∷ (ts ++ at T.End e ∷ [])) (forms-tokens forms i)
    ∙ sym (module_tokens-parts (record { name = name; marks = h ∷ m ∷ o ∷ n ∷ c ∷ d ∷ e ∷ []; forms = forms }))
module_tokens_same name forms _ i = absurd i

pub module-tokens : (m : Module) → IsWellFormed m → tokens_of m ≡ module_tokens m
unfolding IsWellFormed tokens_of
module-tokens m h = module_tokens_same m.name m.forms m.marks h

module_passing : (forms : List TreeForm) (ms : List Place) → F.is_module_layer forms ms → list_all is_flat_form forms ≡ true
module_passing forms (h ∷ m ∷ o ∷ n ∷ c ∷ d ∷ e ∷ []) i = all-every is_flat_form forms (every-so F.IsForm (λ f. is_flat_form f ≡ true) forms form-passing i)
module_passing forms _ i = absurd i

pub module-passing : (m : Module) → IsWellFormed m → is_flat m ≡ true
unfolding IsWellFormed is_flat
module-passing m h = module_passing m.forms m.marks h

pub module-flat : (m : Module) → IsModule m → is_flat m ≡ true → IsWellFormed m
unfolding IsWellFormed is_flat
module-flat _ (module_of h w o n c d e name forms i) f = every F.IsForm forms (λ g j. form-flat g (i g j) (all-among is_flat_form forms f g j))
