use Rattle.erl_runs.proofs.Equations.{in-Ints, in-AtomLit, in-AnyAtom, in-Nil, in-AnyTuple, in-AnyFun}
use Rattle.erl_runs.proofs.laws.terms_without_parts.Goals as goal

pub returns-clause-ints : goal.returns-clause-ints
returns-clause-ints c program k v defs inst = in-Ints program k defs inst v

pub returns-clause-atom_lit : goal.returns-clause-atom_lit
returns-clause-atom_lit c program k v defs inst = in-AtomLit program k defs inst v

pub returns-clause-any_atom : goal.returns-clause-any_atom
returns-clause-any_atom c program k v defs inst = in-AnyAtom program k defs inst v

pub returns-clause-empty_list : goal.returns-clause-empty_list
returns-clause-empty_list c program k v defs inst = in-Nil program k defs inst v

pub returns-clause-any_tuple : goal.returns-clause-any_tuple
returns-clause-any_tuple c program k v defs inst = in-AnyTuple program k defs inst v

pub returns-clause-any_fun : goal.returns-clause-any_fun
returns-clause-any_fun c program k v defs inst = in-AnyFun program k defs inst v
