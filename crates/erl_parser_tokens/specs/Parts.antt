-- Readers of the parts that trees of any kind have in common: nodes, parts with marks between them, lists of cells, fields of records.
use Rattle.std.specs.Prelude.{ℕ, zero, suc, List, [], ◌∷◌, ◌++◌, length, Option, Some, None, Ok, Err, Bool, true, false, ◌&&◌, nat_le, if◌then◌else◌, codes}
use Rattle.erl_tree.specs.declared.token.Place.{Place}
use Rattle.erl_tree.specs.declared.token.Placed.{Placed}
use Rattle.erl_tree.specs.declared.token.Node.{Node}
use Rattle.erl_grammar.specs.Grammar.{node}
use Rattle.erl_parser_tokens.specs.declared.height.Height.{Height}
use Rattle.erl_parser_tokens.specs.declared.height.Measured.{Measured}
use Rattle.erl_parser_tokens.specs.declared.fault.ParseFault.{ParseFault}
use Rattle.erl_parser_tokens.specs.declared.fault.ParseFault.TheVariants as faults
use Rattle.erl_parser_tokens.specs.Heights.{origin, flat, higher, raised, above, measured}
use Rattle.erl_parser_tokens.specs.Tokens.{Answer, Reads, ◌>>=◌, in_case, first_place, unexpected, outside, expect, is_mark, is_variable, mark, atom}

-- ---- nodes

-- a node with its height, by its place, its marks, its kind and the height of its parts
abbrev pub built : {K : Type 0} → Place → List Place → K → Height → Measured (Node K)
built p ms kind h = measured (node p ms kind) (above p h)

-- what follows where the tree that was read has at most so many levels
abbrev pub within : {A B : Type 0} → ℕ → Measured A → Answer B → Answer B
within levels x answer = if nat_le x.height.depth levels then answer else Err (faults.TooDeep x.height.deepest)

-- ---- parts with marks between them

-- some parts, the marks between them or behind their opening bracket, and their greatest height
pub record Several (A : Type 0) : Type 0 where
  pub items : List A
  pub marks : List Place
  pub height : Height

-- no parts
abbrev pub no_parts : {A : Type 0} → Several A
no_parts = record { items = []; marks = []; height = flat }

-- one more part
abbrev pub with_part : {A : Type 0} → Several A → Measured A → Several A
with_part s x = record { items = s.items ++ x.tree ∷ []; marks = s.marks; height = higher s.height x.height }

-- one more mark
abbrev pub with_mark : {A : Type 0} → Several A → Place → Several A
with_mark s m = record { items = s.items; marks = s.marks ++ m ∷ []; height = s.height }

-- a part and more, with this mark between two of them, behind those that were read
unfoldable pub read_several : {A : Type 0} → List ℕ → Reads (Measured A) → ℕ → Several A → Reads (Several A)
read_several separator inner zero s ts = unexpected ts
read_several separator inner (suc k) s ts = inner ts >>= λ x. in_case (mark separator x.1) (Ok (with_part s x.0, x.1)) (λ m. read_several separator inner k (with_mark (with_part s x.0) m.0) m.1)

-- a part and more, with this mark between two of them
abbrev pub read_parts : {A : Type 0} → List ℕ → Reads (Measured A) → Reads (Several A)
read_parts separator inner ts = read_several separator inner (suc (length ts)) no_parts ts

-- parts with commas between them, or none, and the closing mark
abbrev pub read_closed : {A : Type 0} → List ℕ → Reads (Measured A) → Reads (Several A)
read_closed closing inner ts = in_case (mark closing ts)
    (read_parts (codes ",") inner ts >>= λ s. expect (mark closing) s.1 >>= λ c. Ok (with_mark s.0 c.0, c.1))
    (λ c. Ok (with_mark no_parts c.0, c.1))

-- ---- cells of lists

-- the elements of a list, its tail, the marks behind its opening bracket, and its greatest height
pub record Cells (A : Type 0) : Type 0 where
  pub items : List A
  pub tail : Option A
  pub marks : List Place
  pub height : Height

abbrev pub cells_of : {A : Type 0} → Several A → Option A → Place → Height → Cells A
cells_of s tail c h = record { items = s.items; tail = tail; marks = s.marks ++ c ∷ []; height = h }

-- one more element, which stands so many levels deeper
abbrev pub with_element : {A : Type 0} → ℕ → Several A → Measured A → Several A
with_element levels s x = record { items = s.items ++ x.tree ∷ []; marks = s.marks; height = higher s.height (raised levels x.height) }

-- a tail, or none, and the closing bracket, behind elements of which the last stands so many levels deeper than the first; the tail is read by the last element's reader
unfoldable pub close_cells : {A : Type 0} → Reads (Measured A) → ℕ → Several A → Reads (Cells A)
close_cells last levels s ts = in_case (mark (codes "|") ts)
    (expect (mark (codes "]")) ts >>= λ c. Ok (cells_of s None c.0 s.height, c.1))
    (λ b. last b.1 >>= λ t. expect (mark (codes "]")) t.1 >>= λ c. Ok (cells_of (with_mark s b.0) (Some t.0.tree) c.0 (higher s.height (raised levels t.0.height)), c.1))

-- more elements, each read by the next reader, which reads one level deeper; and what closes the list
unfoldable pub read_cells : {A : Type 0} → List (Reads (Measured A)) → Reads (Measured A) → ℕ → Several A → Reads (Cells A)
read_cells [] last levels s ts = in_case (mark (codes ",") ts) (close_cells last levels s ts) (λ m. Err (faults.TooDeep (first_place m.1)))
read_cells (next ∷ deeper) last levels s ts = in_case (mark (codes ",") ts) (close_cells last levels s ts) (λ m. next m.1 >>= λ x. read_cells deeper next (suc levels) (with_element (suc levels) (with_mark s m.0) x.0) x.1)

-- ---- fields of records

-- `_ =` comes next
abbrev pub is_wildcard_field : List Placed → Bool
is_wildcard_field (t ∷ u ∷ ts) = is_variable (codes "_") t.token && is_mark (codes "=") u.token
is_wildcard_field _ = false

-- `field = ..`, whose value the inner reader reads
unfoldable pub read_field : {K : Type 0} → Reads (Measured (Node K)) → Reads (Measured (Node (List ℕ × Node K)))
read_field inner ts = if is_wildcard_field ts then outside (codes "record wildcard") (first_place ts) else
    (expect atom ts >>= λ a. expect (mark (codes "=")) a.1 >>= λ e. inner e.1 >>= λ v. Ok (measured (node a.0.1 (a.0.1 ∷ e.0 ∷ []) (a.0.0, v.0.tree)) v.0.height, v.1))

-- ---- arrows of maps

-- `=>`, or `:=` where it may stand: whether it is `:=`, and its place
unfoldable pub read_arrow : Bool → Reads (Bool × Place)
read_arrow may_be_exact ts = in_case (mark (codes "=>") ts) (if may_be_exact then (expect (mark (codes ":=")) ts >>= λ m. Ok ((true, m.0), m.1)) else unexpected ts) (λ m. Ok ((false, m.0), m.1))

-- ---- parameters

-- the fault of a parameter behind 255 others
abbrev pub too_many_fault : List Placed → ParseFault
too_many_fault [] = faults.Unexpected origin
too_many_fault (t ∷ ts) = faults.OutOfProfile t.place (codes "arity")

-- a parameter behind 255 others
abbrev pub too_many : {A : Type 0} → List Placed → Answer A
too_many ts = Err (too_many_fault ts)

-- parameters behind those that were read, and the closing parenthesis: at most 255
unfoldable pub read_more_parameters : {A : Type 0} → Reads (Measured A) → ℕ → Several A → Reads (Several A)
read_more_parameters inner zero s ts = unexpected ts
read_more_parameters inner (suc k) s ts = inner ts >>= λ p. in_case (mark (codes ",") p.1)
    (expect (mark (codes ")")) p.1 >>= λ c. Ok (with_mark (with_part s p.0) c.0, c.1))
    (λ m. if nat_le 255 (suc (length s.items)) then too_many m.1 else read_more_parameters inner k (with_mark (with_part s p.0) m.0) m.1)

-- parameters with commas between them, or none, and the closing parenthesis: at most 255
unfoldable pub read_parameters : {A : Type 0} → Reads (Measured A) → Reads (Several A)
read_parameters inner ts = in_case (mark (codes ")") ts) (read_more_parameters inner (suc (length ts)) no_parts ts) (λ c. Ok (with_mark no_parts c.0, c.1))
