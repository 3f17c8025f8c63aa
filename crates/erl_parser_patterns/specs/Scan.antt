-- Whether the tokens lead, outside of brackets, to `=` or to `<-`, over tokens that may stand in a pattern: then a pattern begins there, and no expression.
use Rattle.std.specs.Prelude.{ℕ, zero, suc, List, [], ◌∷◌, Option, Some, None, Bool, true, false, ◌==◌, ◌&&◌, if◌then◌else◌, codes}
use Rattle.std.specs.Str.{bytes_eq}
use Rattle.erl_tree.specs.declared.token.Placed.{Placed}
use Rattle.erl_tree.specs.declared.token.Token.{Token}
use Rattle.erl_tree.specs.declared.token.Token.TheVariants as T
use Rattle.erl_parser_tokens.specs.Tokens.{in_case, is_mark}

-- what a token is in a pattern
pub data Sort : Type 0 where
  -- a name, a character or a string
  leaf : Sort
  -- an integer
  number : Sort
  -- `-`
  minus : Sort
  -- `#`
  hash : Sort
  -- `{`, `[`
  begins : Sort
  -- `(`
  opens : Sort
  -- `)`, `}`, `]`
  closes : Sort
  -- `=`, `++`, which stand between parts at any depth
  joins : Sort
  -- `,`, `|`, `:=`, which stand in brackets
  divides : Sort
  -- a token that stands in no pattern
  alien : Sort

-- what punctuation is in a pattern
unfoldable pub bracket_sort : List ℕ → Sort
bracket_sort m =
    if bytes_eq m (codes "(") then opens else
    if bytes_eq m (codes "{") then begins else
    if bytes_eq m (codes "[") then begins else
    if bytes_eq m (codes ")") then closes else
    if bytes_eq m (codes "}") then closes else
    if bytes_eq m (codes "]") then closes else alien

unfoldable pub mark_sort : List ℕ → Sort
mark_sort m =
    if bytes_eq m (codes "#") then hash else
    if bytes_eq m (codes "-") then minus else
    if bytes_eq m (codes "=") then joins else
    if bytes_eq m (codes "++") then joins else
    if bytes_eq m (codes ",") then divides else
    if bytes_eq m (codes "|") then divides else
    if bytes_eq m (codes ":=") then divides else bracket_sort m

-- what a token is in a pattern
abbrev pub sort_of : Token → Sort
sort_of (T.Mark m) = mark_sort m
sort_of (T.Word w) = alien
sort_of T.Dot = alien
sort_of T.End = alien
sort_of (T.Int n) = number
sort_of _ = leaf

-- what stands in front of a token
pub data Context : Type 0 where
  -- nothing, or a token behind which a part may begin
  before_part : Context
  -- a part
  after_part : Context
  -- a minus sign
  after_minus : Context

-- what the tokens from there on are read with: what stands in front of them, and how deep in brackets they stand
pub record Scanned : Type 0 where
  pub context : Context
  pub depth : ℕ

abbrev pub scanned : Context → ℕ → Scanned
scanned c d = record { context = c; depth = d }

-- over one token of this sort, where it may stand in a pattern: `-`, `#` and `(` stand only where a part may begin, and an integer follows `-`
abbrev pub over : Sort → Context → ℕ → Option Scanned
over number context depth = Some (scanned after_part depth)
over sort after_minus depth = None
over leaf context depth = Some (scanned after_part depth)
over minus before_part depth = Some (scanned after_minus depth)
over hash before_part depth = Some (scanned before_part depth)
over begins context depth = Some (scanned before_part (suc depth))
over opens before_part depth = Some (scanned before_part (suc depth))
over closes context (suc depth) = Some (scanned after_part depth)
over joins context depth = Some (scanned before_part depth)
over divides context (suc depth) = Some (scanned before_part (suc depth))
over sort context depth = None

-- whether this mark comes outside of brackets before a token that may stand in no pattern
unfoldable pub leads : List ℕ → Context → ℕ → List Placed → Bool
leads ending context depth [] = false
leads ending context depth (t ∷ ts) = if (depth == 0) && is_mark ending t.token then true else in_case (over (sort_of t.token) context depth) false (λ s. leads ending s.context s.depth ts)

-- whether the tokens lead to this mark
abbrev pub leads_to : List ℕ → List Placed → Bool
leads_to ending ts = leads ending before_part 0 ts
