use Rattle.std.proofs.Common.{rules}
use Rattle.type_terms.specs.Replacement.{argument_of}
use Rattle.type_terms.proofs.ReplacementParts.{replaced-Cons, replaced-Fun, replaced-Name}
use Rattle.type_terms.proofs.replacement.+replace.Goals as goal

pub replace_term-returns-in_ok-tail-in-Cons-2 : goal.replace_term-returns-in_ok-tail-in-Cons-2
replace_term-returns-in_ok-tail-in-Cons-2 t c = rw (c.in-Cons.is, replaced-Cons (argument_of c.args.by.now) c.in-Cons.head c.in-Cons.tail) (search rules)

pub replace_term-returns-in_ok-new-in-Fun : goal.replace_term-returns-in_ok-new-in-Fun
replace_term-returns-in_ok-new-in-Fun t c = rw (c.in-Fun.is, replaced-Fun (argument_of c.args.by.now) c.in-Fun.params c.in-Fun.given) (search rules)

pub replace_term-returns-in_ok-replace_terms-in-Name : goal.replace_term-returns-in_ok-replace_terms-in-Name
replace_term-returns-in_ok-replace_terms-in-Name t c = rw (c.in-Name.is, replaced-Name (argument_of c.args.by.now) c.in-Name.number c.in-Name.arguments) (search rules)
