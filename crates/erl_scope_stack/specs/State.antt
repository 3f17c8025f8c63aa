-- What is in scope at a place of a text: the variables that are seen, the names that ended, and those set aside, each with the latest first.
use Rattle.std.specs.Prelude.{ℕ, ◌-◌, List, [], ◌∷◌, ◌++◌, length, take, drop}
use Rattle.type_terms.specs.Keys.{Name}
use Rattle.erl_scope_rules.specs.Occurrences.{Mark, names_of, unseen}

pub record State : Type 0 where
  pub sees : List Mark
  pub ended : List Name
  pub aside : List Name

-- nothing is in scope
abbrev pub nothing : State
nothing = record { sees = []; ended = []; aside = [] }

-- what lies above the first so many, and those
abbrev pub above : {A : Type 0} → ℕ → List A → List A
above count xs = take (length xs - count) xs

abbrev pub below : {A : Type 0} → ℕ → List A → List A
below count xs = drop (length xs - count) xs

-- one more variable is seen
abbrev pub with_mark : Mark → State → State
with_mark m s = record { sees = m ∷ s.sees; ended = s.ended; aside = s.aside }

-- a body ended: its variables aren't seen any more
abbrev pub with_body_ended : (seen : ℕ) → State → State
with_body_ended seen s = record { sees = below seen s.sees; ended = names_of (above seen s.sees) ++ s.ended; aside = s.aside }

-- one of several parts side by side ended: what it left is set aside, so that the others don't count it
abbrev pub with_part_aside : (seen ended : ℕ) → State → State
with_part_aside seen ended s = record { sees = below seen s.sees; ended = below ended s.ended; aside = names_of (above seen s.sees) ++ (above ended s.ended ++ s.aside) }

-- all of several parts side by side ended: what they set aside has ended
abbrev pub with_parts_ended : (aside : ℕ) → State → State
with_parts_ended aside s = record { sees = s.sees; ended = above aside s.aside ++ s.ended; aside = below aside s.aside }

-- what is above these counts is forgotten
abbrev pub with_only : (seen ended aside : ℕ) → State → State
with_only seen ended aside s = record { sees = below seen s.sees; ended = below ended s.ended; aside = below aside s.aside }

-- the head of a comprehension ended, above whose outside so many variables are seen and so many names had ended: the variables that the head saw aren't seen any more, and their names haven't ended
abbrev pub with_head_ended : (seen ended : ℕ) → State → State
with_head_ended seen ended s = record { sees = below seen s.sees; ended = unseen (above seen s.sees) (above ended s.ended) ++ below ended s.ended; aside = s.aside }
