-- What a text spells, joined to what its tokens are.
use Rattle.std.proofs.Common.{◌≡◌, ◌∙◌, sym, subst, List, [], ◌∷◌, ◌++◌, ℕ}
use Rattle.erl_tree.specs.Lexis.{SpellsTokens, after, start}
use Rattle.erl_tree.specs.Lists.{Every}
use Rattle.erl_tree.specs.Limits.{IsInLimit}
use Rattle.erl_tree.specs.Profile.{BeginsWith, IsLexed}
use Rattle.erl_tree.specs.declared.token.Place.{Place}
use Rattle.erl_tree.specs.declared.token.Token.TheVariants as T
use Rattle.erl_tree.specs.declared.token.Placed.{Placed}
use Rattle.erl_tree.specs.declared.form.Module.{Module}
use Rattle.erl_tree.proofs.Spelled.{bytes_spell_one}
use Rattle.erl_grammar.specs.FormSpelling.{module_tokens}
use Rattle.erl_grammar.specs.FormGrammar.{IsModule}
use Rattle.erl_grammar.specs.Texts.{SpellsModule}
use Rattle.erl_parser.proofs.WholeModules as whole

-- the tokens of a module that the bytes spell are the ones that they spell
pub same_tokens : (bytes : List ℕ) (tokens : List Placed) (m : Module) → SpellsTokens bytes tokens → SpellsModule bytes m → module_tokens m ≡ tokens
same_tokens bytes tokens m h s = bytes_spell_one bytes (module_tokens m) tokens s.tokens h

pub one_module : (bytes : List ℕ) (m n : Module) → SpellsModule bytes m → SpellsModule bytes n → m ≡ n
one_module bytes m n h k = whole.one_module m n h.well_formed k.well_formed (bytes_spell_one bytes (module_tokens m) (module_tokens n) h.tokens k.tokens)

begins_in_limit : (ts : List Placed) (p : Place) (text : List ℕ) (there : Place) (rest : List ℕ) → BeginsWith p text ts there rest → (last : Placed) → IsInLimit last.token → Every (λ t. IsInLimit t.token) (ts ++ last ∷ [])
unfolding BeginsWith
begins_in_limit [] p text there rest h last l = (l, tt)
begins_in_limit (t ∷ ts) p text there rest (gap, word, more, e, g, s, l, o, f, i, m) last k = (i, begins_in_limit ts (after (after p gap) word) more there rest m last k)

-- integers that are lexed are within the limit
pub lexed_in_limit : (bytes : List ℕ) (tokens : List Placed) → IsLexed bytes tokens → Every (λ t. IsInLimit t.token) tokens
lexed_in_limit bytes tokens h =
    subst (λ (ts : List Placed). Every (λ t. IsInLimit t.token) ts) (sym h.listed) (begins_in_limit h.before start h.characters h.end [] h.spelled (record { token = T.End; place = h.end }) (λ none. none))
