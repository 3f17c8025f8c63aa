use Rattle.typespecs_rules.proofs.TypeExamples.{built_in_types-any, built_in_types-none, built_in_types-integer, built_in_types-not_negative, built_in_types-negative, built_in_types-byte, built_in_types-character, built_in_types-atom, built_in_types-boolean, built_in_types-timeout, built_in_types-nil, built_in_types-list, built_in_types-list_of_a, built_in_types-string, built_in_types-nonempty_string, built_in_types-tuple, built_in_types-mfa, built_in_types-map, built_in_types-function}
use Rattle.typespecs_rules.proofs.examples.built_in_types.Goals as goal

pub returns-clause-any : goal.returns-clause-any
returns-clause-any c = built_in_types-any

pub returns-clause-none : goal.returns-clause-none
returns-clause-none c = built_in_types-none

pub returns-clause-integer : goal.returns-clause-integer
returns-clause-integer c = built_in_types-integer

pub returns-clause-not_negative : goal.returns-clause-not_negative
returns-clause-not_negative c = built_in_types-not_negative

pub returns-clause-negative : goal.returns-clause-negative
returns-clause-negative c = built_in_types-negative

pub returns-clause-byte : goal.returns-clause-byte
returns-clause-byte c = built_in_types-byte

pub returns-clause-character : goal.returns-clause-character
returns-clause-character c = built_in_types-character

pub returns-clause-atom : goal.returns-clause-atom
returns-clause-atom c = built_in_types-atom

pub returns-clause-boolean : goal.returns-clause-boolean
returns-clause-boolean c = built_in_types-boolean

pub returns-clause-timeout : goal.returns-clause-timeout
returns-clause-timeout c = built_in_types-timeout

pub returns-clause-nil : goal.returns-clause-nil
returns-clause-nil c = built_in_types-nil

pub returns-clause-list : goal.returns-clause-list
returns-clause-list c = built_in_types-list

pub returns-clause-list_of_a : goal.returns-clause-list_of_a
returns-clause-list_of_a c = built_in_types-list_of_a

pub returns-clause-string : goal.returns-clause-string
returns-clause-string c = built_in_types-string

pub returns-clause-nonempty_string : goal.returns-clause-nonempty_string
returns-clause-nonempty_string c = built_in_types-nonempty_string

pub returns-clause-tuple : goal.returns-clause-tuple
returns-clause-tuple c = built_in_types-tuple

pub returns-clause-mfa : goal.returns-clause-mfa
returns-clause-mfa c = built_in_types-mfa

pub returns-clause-map : goal.returns-clause-map
returns-clause-map c = built_in_types-map

pub returns-clause-function : goal.returns-clause-function
returns-clause-function c = built_in_types-function
