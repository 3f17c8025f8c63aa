-- Small examples of terms of types: `1..3|a` and `3..1`.
use Rattle.std.proofs.Common.{◌≡◌, refl, pos}
use Rattle.std.specs.Prelude.{Some, None, codes}
use Rattle.erl_grammar.specs.TypeGrammar.{integer_end, IsType, one_type, union, atom_type, range}
use Rattle.erl_tree.specs.SmallText.{place}
use Rattle.erl_runs.specs.SmallTrees.{range_type_of, range_or_atom}
use Rattle.erl_runs.specs.SmallPrograms.{range_or_atom_term}
use Rattle.flat_modules.specs.FlatSpecs.{type_term}
use Rattle.flat_modules.proofs.FlatTermLaws.{type_kind_term-Atom, type_kind_term-Range, type_kind_term-Or}

pub union-formed : IsType range_or_atom
union-formed = union (range_type_of (pos 1) (pos 3)) _ (place 5) (range _ _ (place 2) (integer_end (place 1) (pos 1)) (integer_end (place 4) (pos 3))) (one_type _ (atom_type (place 6) (codes "a")))

pub union-term : type_term range_or_atom ≡ Some range_or_atom_term
union-term = rw (type_kind_term-Or, type_kind_term-Range, type_kind_term-Atom) refl

pub empty-formed : IsType (range_type_of (pos 3) (pos 1))
empty-formed = one_type _ (range _ _ (place 2) (integer_end (place 1) (pos 3)) (integer_end (place 4) (pos 1)))

pub empty-term : type_term (range_type_of (pos 3) (pos 1)) ≡ None
empty-term = rw (type_kind_term-Range) refl
