-- Expressions without operators, with what may follow them: what is said of their readers, and how a node is made of its parts.
use Rattle.std.proofs.Common.{◌≡◌, ℕ, suc, ◌≤◌, Bool, true, false, List, [], ◌∷◌, ◌++◌, map, refl, ap, sym, ◌∙◌, subst, append_assoc}
use Rattle.std.specs.Prelude.{None, Ok, Err, codes}
use Rattle.erl_tree.specs.Lists.{Among}
use Rattle.erl_tree.specs.declared.token.Place.{Place}
use Rattle.erl_tree.specs.declared.token.Placed.{Placed}
use Rattle.erl_tree.specs.declared.token.Token.{Token}
use Rattle.erl_tree.specs.declared.token.Token.TheVariants as T
use Rattle.erl_tree.specs.declared.expr.ExprKind.{ExprKind}
use Rattle.erl_grammar.specs.declared.head.Head.{Head}
use Rattle.erl_grammar.specs.Pieces.{at, own, fill, separated}
use Rattle.erl_grammar.specs.Spelling.{expr_shown, expr_tokens}
use Rattle.erl_grammar.specs.Nesting.{expr_kind_deep, expr_deep}
use Rattle.erl_grammar.specs.Grammar.{node, AreSeparators, IsPostfix}
use Rattle.erl_parser_tokens.specs.declared.height.Height.{Height}
use Rattle.erl_parser_tokens.specs.declared.height.Measured.{Measured}
use Rattle.erl_parser_tokens.specs.declared.fault.ParseFault.{ParseFault}
use Rattle.erl_parser_tokens.specs.declared.fault.ParseFault.TheVariants as faults
use Rattle.erl_parser_tokens.specs.Heights.{measured}
use Rattle.erl_parser_tokens.specs.Tokens.{Answer, mark, string_next}
use Rattle.erl_parser_tokens.specs.Parts.{built}
use Rattle.erl_parser_exprs.specs.Operations.{Expr}
use Rattle.erl_parser_exprs.specs.Expressions.{Headed}
use Rattle.erl_parser_tokens.proofs.Right.{Measures}
use Rattle.erl_parser_tokens.proofs.HeightLaws.{node_measured, above_within}
use Rattle.erl_parser_tokens.proofs.Then.{Right, Again, AgainBy, again_ok, IsDeep}
use Rattle.erl_parser_tokens.proofs.PartLaws.{listed, fill-listed}
use Rattle.erl_parser_exprs.proofs.Levels.{EndsPostfix}

-- an expression without operators was read, with at most so many levels, and what may follow it
pub record HeadedRead (levels : ℕ) (ts : List Placed) (q : Headed × List Placed) : Type 0 where
  pub formed : IsPostfix q.0.1 q.0.0.tree
  pub takes : ts ≡ expr_tokens q.0.0.tree ++ q.1
  pub measures : Measures (expr_deep q.0.0.tree) q.0.0.height
  pub within : q.0.0.height.depth ≤ levels

-- a node was read, whose parts have at most so many levels
pub headed_read : {levels : ℕ} {ts : List Placed} (p : Place) (ms : List Place) (kind : ExprKind) (h : Height) (head : Head) (rest : List Placed)
    → IsPostfix head (node p ms kind) → ts ≡ expr_shown kind ms ++ rest → Measures (expr_kind_deep kind) h → h.depth ≤ levels
    → HeadedRead (suc levels) ts ((built p ms kind h, head), rest)
headed_read {levels} p ms kind h head rest f t m l = record { formed = f; takes = t; measures = node_measured (node p ms (expr_kind_deep kind)) h m; within = above_within p h levels l }

-- this expression was read again, with what may follow it, and these tokens come behind it
abbrev pub IsHeaded : Head → Expr → List Placed → Headed × List Placed → Type 0
IsHeaded head e rest q = (h : Height) × (q ≡ ((measured e h, head), rest))

-- what may follow the first part of an expression without operators
pub record EndsFirst (ts : List Placed) : Type 0 where
  pub no_call : mark (codes "(") ts ≡ None
  pub no_colon : mark (codes ":") ts ≡ None
  pub no_string : string_next ts ≡ false

pub ends_first : {ts : List Placed} → EndsPostfix ts → EndsFirst ts
ends_first e = record { no_call = e.no_call; no_colon = e.no_colon; no_string = e.no_string }

-- a part of a map or a record may follow
pub hash_ends_first : (h : Place) (ts : List Placed) → EndsFirst (at (T.Mark (codes "#")) h ∷ ts)
unfolding mark string_next
hash_ends_first h ts = record { no_call = refl; no_colon = refl; no_string = refl }

-- the same tokens, said in another way
pub right_tokens : {levels : ℕ} {ts us : List Placed} {answer : Answer (Headed × List Placed)} → ts ≡ us → Right (HeadedRead levels us) us answer → Right (HeadedRead levels ts) ts answer
right_tokens {levels} {answer = answer} e r = subst (λ vs. Right (HeadedRead levels vs) vs answer) (sym e) r

-- parts, and the token that closes them
pub listed_closed : {A : Type 0} (tokens : A → List Placed) (t k : Token) (xs : List A) (ms : List Place) (c : Place) (rest : List Placed) → AreSeparators xs ms
    → listed tokens t xs ms ++ at k c ∷ rest ≡ fill (separated t (map tokens xs) ++ own k ∷ []) (ms ++ c ∷ []) ++ rest
listed_closed tokens t k xs ms c rest g = sym (ap (λ ts. ts ++ rest) (fill-listed tokens t xs ms (own k ∷ []) (c ∷ []) g) ∙ append_assoc (listed tokens t xs ms) (at k c ∷ []) rest)

-- this expression was read again and measured rightly
abbrev pub IsHeadedMeasured : Head → Expr → List Placed → Headed × List Placed → Type 0
IsHeadedMeasured head e rest q = (h : Height) × Measures (expr_deep e) h × (q ≡ ((measured e h, head), rest))

headed_fault : (head : Head) (e : Expr) (rest : List Placed) (D : Place → Type 0) (f : ParseFault) → AgainBy (IsHeaded head e rest) D (Err f) → AgainBy (IsHeadedMeasured head e rest) D (Err f)
headed_fault head e rest D (faults.TooDeep p) a = a
headed_fault head e rest D _ a = a

pub again_headed : {levels : ℕ} {ts rest : List Placed} {head : Head} {e : Expr} {D : Place → Type 0} {answer : Answer (Headed × List Placed)} → Right (HeadedRead levels ts) ts answer → Again (IsHeaded head e rest) D answer → Again (IsHeadedMeasured head e rest) D answer
again_headed {answer = Ok q} r a = again_ok (a.holds.0, subst (λ (z : Headed × List Placed). Measures (expr_deep z.0.0.tree) z.0.0.height) a.holds.1 r.holds.measures, a.holds.1)
again_headed {rest = rest} {head = head} {e = e} {D = D} {answer = Err f} r a = record { holds = headed_fault head e rest D f a.holds }
