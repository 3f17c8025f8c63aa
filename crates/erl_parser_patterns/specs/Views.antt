-- What the functions of the parser of patterns return, seen as what the readers answer.
use Rattle.std.specs.Prelude.{zero, List, Ok, if◌then◌else◌, codes}
use Rattle.erl_tree.specs.declared.token.Place.{Place}
use Rattle.erl_tree.specs.declared.token.Node.{Node}
use Rattle.erl_tree.specs.declared.token.Token.{Token}
use Rattle.erl_tree.specs.declared.pattern.LiteralKind.{LiteralKind}
use Rattle.erl_parser_tokens.specs.declared.height.Measured.{Measured}
use Rattle.erl_parser_tokens.specs.declared.fault.ParseFault.{ParseFault}
use Rattle.erl_parser_tokens.specs.declared.fault.ParseFault.TheVariants as faults
use Rattle.erl_parser_patterns.specs.declared.scan.Sort.{Sort as Found}
use Rattle.erl_parser_patterns.specs.declared.scan.Sort.TheVariants as found
use Rattle.erl_parser_patterns.specs.declared.scan.Context.{Context as FoundContext}
use Rattle.erl_parser_patterns.specs.declared.scan.Context.TheVariants as contexts
use Rattle.erl_parser_patterns.specs.declared.keys.EntryHead.{EntryHead}
use Rattle.erl_parser_tokens.specs.Tokens.{Reads, ◌>>=◌, expect, mark, begins_no_key}
use Rattle.erl_parser_patterns.specs.Scan.{Sort, leaf, number, minus, hash, begins, opens, closes, joins, divides, alien, Context, before_part, after_part, after_minus}
use Rattle.erl_parser_tokens.specs.Parts.{no_parts, with_part, Cells, read_cells}
use Rattle.erl_parser_patterns.specs.Patterns.{Pattern, read_key}

-- what a token is in a pattern
abbrev pub sort_seen : Found → Sort
sort_seen found.Leaf = leaf
sort_seen found.Number = number
sort_seen found.Minus = minus
sort_seen found.Hash = hash
sort_seen found.Begins = begins
sort_seen found.Opens = opens
sort_seen found.Closes = closes
sort_seen found.Joins = joins
sort_seen found.Divides = divides
sort_seen found.Alien = alien

-- what stands in front of a token
abbrev pub context_seen : FoundContext → Context
context_seen contexts.BeforePart = before_part
context_seen contexts.AfterPart = after_part
context_seen contexts.AfterMinus = after_minus

-- the fault of a token at a key's place that begins no key
abbrev pub wrong_key_fault : Token → Place → ParseFault
wrong_key_fault t p = if begins_no_key t then faults.OutOfProfile p (codes "map key") else faults.Unexpected p

-- what stands in front of the pattern in an entry
abbrev pub entry_head_of : Node LiteralKind → Place → EntryHead
entry_head_of k m = record { key = k; mark = m }

-- `K :=`
unfoldable pub read_entry_head : Reads EntryHead
read_entry_head ts = read_key ts >>= λ k. expect (mark (codes ":=")) k.1 >>= λ m. Ok (entry_head_of k.0 m.0, m.1)

-- the first element of a list, more elements, and what closes the list
abbrev pub read_first_cells : List (Reads (Measured Pattern)) → Reads (Measured Pattern) → Reads (Cells Pattern)
read_first_cells deeper inner ts = inner ts >>= λ p. read_cells deeper inner zero (with_part no_parts p.0) p.1
