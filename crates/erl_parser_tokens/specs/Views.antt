-- What the functions that read tokens and parts return, seen as what the readers answer.
use Rattle.std.specs.Prelude.{◌≡◌, ℕ, List, Option, Ok, if◌then◌else◌, codes}
use Rattle.erl_tree.specs.declared.token.Place.{Place}
use Rattle.erl_parser_tokens.specs.declared.fault.ParseFault.{ParseFault}
use Rattle.erl_parser_tokens.specs.declared.fault.ParseFault.TheVariants as faults
use Rattle.erl_parser_tokens.specs.declared.parts.Parts.{Parts}
use Rattle.erl_parser_tokens.specs.declared.parts.Cells.{Cells as ListParts}
use Rattle.erl_parser_tokens.specs.declared.parts.FieldHead.{FieldHead}
use Rattle.erl_parser_tokens.specs.Tokens.{Reads, ◌>>=◌, in_case, first_place, outside, expect, outside_word, mark, atom}
use Rattle.erl_parser_tokens.specs.Parts.{Several, Cells, cells_of, is_wildcard_field}

-- a function that makes this fault made it, unless memory ran out
abbrev pub IsFault : ParseFault → ParseFault → Type 0
IsFault f faults.NoMemory = Unit {0}
IsFault f g = f ≡ g

-- the fault of a reserved word that begins no expression
abbrev pub wrong_word_fault : List ℕ → Place → ParseFault
wrong_word_fault w p = in_case (outside_word w) (faults.Unexpected p) (λ form. faults.OutOfProfile p form)

-- some parts with the marks between them
abbrev pub several : {A : Type 0} → Parts A → Several A
several p = record { items = p.items; marks = p.marks; height = p.height }

-- the parts of a list
abbrev pub cells_seen : {A : Type 0} → ListParts A → Cells A
cells_seen c = record { items = c.items; tail = c.tail; marks = c.marks; height = c.height }

-- the closing bracket of a list, behind these elements and this tail
abbrev pub read_cells_end : {A : Type 0} → Several A → Option A → Reads (Cells A)
read_cells_end s tail ts = expect (mark (codes "]")) ts >>= λ c. Ok (cells_of s tail c.0 s.height, c.1)

-- what stands in front of a field's value
abbrev pub head_of : List ℕ → Place → Place → FieldHead
head_of name p e = record { name = name; place = p; equals = e }

-- `field =`
unfoldable pub read_field_head : Reads FieldHead
read_field_head ts = if is_wildcard_field ts then outside (codes "record wildcard") (first_place ts) else
    (expect atom ts >>= λ a. expect (mark (codes "=")) a.1 >>= λ e. Ok (head_of a.0.0 a.0.1 e.0, e.1))
