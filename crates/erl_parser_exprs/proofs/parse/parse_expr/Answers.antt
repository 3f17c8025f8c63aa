use Rattle.std.proofs.Common.{subst}
use Rattle.erl_tree.specs.Lists.{Among}
use Rattle.erl_grammar.specs.Nesting.{nesting_limit}
use Rattle.erl_parser_exprs.specs.Expressions.{read_whole_expr}
use Rattle.erl_parser_exprs.proofs.WholeLaws.{read_whole_expr-right, again_text}
use Rattle.erl_parser_tokens.proofs.ParseLaws.{given-found, given-again, given-too_deep, given-unexpected, given-outside, given-no_outside}
use Rattle.erl_parser_exprs.proofs.parse.parse_expr.Goals as goal

pub returns-clause-found : goal.returns-clause-found
returns-clause-found c = given-found (read_whole_expr nesting_limit _) c.whole_expr.result (λ e f. (f.formed, f.shallow, f.text)) c.whole_expr.ensures.exact (read_whole_expr-right nesting_limit _)

pub returns-clause-complete : goal.returns-clause-complete
returns-clause-complete c e i s t = given-again e (read_whole_expr nesting_limit _) c.whole_expr.result (λ q a. elim (subst (Among q) s a) [ ]) c.whole_expr.ensures.exact (again_text nesting_limit _ e i t)

pub returns-clause-too_deep : goal.returns-clause-too_deep
returns-clause-too_deep c q g e i t = given-too_deep e (read_whole_expr nesting_limit _) c.whole_expr.result q g c.whole_expr.ensures.exact (again_text nesting_limit _ e i t)

pub returns-clause-unexpected : goal.returns-clause-unexpected
returns-clause-unexpected c q g e i t = given-unexpected e (read_whole_expr nesting_limit _) c.whole_expr.result q g c.whole_expr.ensures.exact (again_text nesting_limit _ e i t)

pub returns-clause-outside : goal.returns-clause-outside
returns-clause-outside c q form g = (given-outside (read_whole_expr nesting_limit _) c.whole_expr.result q form g c.whole_expr.ensures.exact (read_whole_expr-right nesting_limit _), λ e i t. given-no_outside e (read_whole_expr nesting_limit _) c.whole_expr.result q form g c.whole_expr.ensures.exact (again_text nesting_limit _ e i t))
