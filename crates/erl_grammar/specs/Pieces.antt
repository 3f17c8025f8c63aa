-- The text of a node as pieces in turn: the tokens that are the node's own, at its marks, and the texts of its inner parts.
use Rattle.std.specs.Prelude.{◌≡◌, ℕ, zero, suc, List, [], ◌∷◌, ◌++◌, length, codes}
use Rattle.erl_tree.specs.declared.token.Place.{Place}
use Rattle.erl_tree.specs.declared.token.Placed.{Placed}
use Rattle.erl_tree.specs.declared.token.Node.{Node}
use Rattle.erl_tree.specs.declared.token.Token.{Token}
use Rattle.erl_tree.specs.declared.token.Token.TheVariants as T

-- a token at a place
abbrev pub at : Token → Place → Placed
at t p = record { token = t; place = p }

-- a token of the node's own, or the text of an inner part
pub data Piece : Type 0 where
  own : Token → Piece
  inner : List Placed → Piece

-- the tokens of pieces, with the node's own ones at its marks, in turn. A well-formed node has as many marks as own tokens; where marks are wanting the rest is cut off, and a surplus is passed over
abbrev pub fill : List Piece → List Place → List Placed
fill (inner ts ∷ ps) ms = ts ++ fill ps ms
fill (own t ∷ ps) (m ∷ ms) = at t m ∷ fill ps ms
fill _ _ = []

-- how many of some pieces are the node's own tokens
abbrev pub owned : List Piece → ℕ
owned [] = zero
owned (inner ts ∷ ps) = owned ps
owned (own t ∷ ps) = suc (owned ps)

-- a text has as many marks as tokens of its own: with any marks it is written as some pieces, and so many of these are its own as there are marks
pub record HasMarks (text : List Place → List Placed) (marks : List Place) : Type 0 where
  pub pieces : List Piece
  pub written : (ms : List Place) → text ms ≡ fill pieces ms
  pub as_many : owned pieces ≡ length marks

-- a node has as many marks as tokens of its own
abbrev pub HasMarkEach : {K : Type 0} → (Node K → List Placed) → Node K → Type 0
HasMarkEach tokens n = HasMarks (λ ms. tokens (record { place = n.place; marks = ms; kind = n.kind })) n.marks

-- the first of some tokens stands at this place
pub record BeginsAt (p : Place) (tokens : List Placed) : Type 0 where
  pub first : Token
  pub others : List Placed
  pub in_turn : tokens ≡ at first p ∷ others

-- punctuation
abbrev pub mark : List ℕ → Piece
mark text = own (T.Mark text)

-- a reserved word
abbrev pub word : List ℕ → Piece
word text = own (T.Word text)

-- an atom
abbrev pub name : List ℕ → Piece
name text = own (T.Atom text)

-- groups of pieces with a token between two of them
abbrev pub between : Token → List (List Piece) → List Piece
between t [] = []
between t (x ∷ []) = x
between t (x ∷ y ∷ ys) = x ++ own t ∷ between t (y ∷ ys)

-- texts with a token between two of them
abbrev pub separated : Token → List (List Placed) → List Piece
separated t [] = []
separated t (x ∷ []) = inner x ∷ []
separated t (x ∷ y ∷ ys) = inner x ∷ own t ∷ separated t (y ∷ ys)

-- texts with a comma between two of them
abbrev pub commas : List (List Placed) → List Piece
commas texts = separated (T.Mark (codes ",")) texts

-- texts with a semicolon between two of them
abbrev pub semicolons : List (List Placed) → List Piece
semicolons texts = separated (T.Mark (codes ";")) texts
