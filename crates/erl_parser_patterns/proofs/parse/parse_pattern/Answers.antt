use Rattle.std.proofs.Common.{subst}
use Rattle.erl_tree.specs.Lists.{Among}
use Rattle.erl_grammar.specs.Nesting.{nesting_limit}
use Rattle.erl_parser_patterns.proofs.WholePatterns.{read_whole, read_whole-right, again_pattern}
use Rattle.erl_parser_tokens.proofs.ParseLaws.{given-found, given-again, given-too_deep, given-unexpected, given-outside, given-no_outside}
use Rattle.erl_parser_patterns.proofs.parse.parse_pattern.Goals as goal

pub returns-clause-found : goal.returns-clause-found
returns-clause-found c = given-found (read_whole nesting_limit _) c.whole_pattern.result (λ p f. (f.formed, f.shallow, f.text)) c.whole_pattern.ensures.exact (read_whole-right nesting_limit _)

pub returns-clause-complete : goal.returns-clause-complete
returns-clause-complete c p i s t = given-again p (read_whole nesting_limit _) c.whole_pattern.result (λ q a. elim (subst (Among q) s a) [ ]) c.whole_pattern.ensures.exact (again_pattern nesting_limit _ p i t)

pub returns-clause-too_deep : goal.returns-clause-too_deep
returns-clause-too_deep c q e p i t = given-too_deep p (read_whole nesting_limit _) c.whole_pattern.result q e c.whole_pattern.ensures.exact (again_pattern nesting_limit _ p i t)

pub returns-clause-unexpected : goal.returns-clause-unexpected
returns-clause-unexpected c q e p i t = given-unexpected p (read_whole nesting_limit _) c.whole_pattern.result q e c.whole_pattern.ensures.exact (again_pattern nesting_limit _ p i t)

pub returns-clause-outside : goal.returns-clause-outside
returns-clause-outside c q form e = (given-outside (read_whole nesting_limit _) c.whole_pattern.result q form e c.whole_pattern.ensures.exact (read_whole-right nesting_limit _), λ p i t. given-no_outside p (read_whole nesting_limit _) c.whole_pattern.result q form e c.whole_pattern.ensures.exact (again_pattern nesting_limit _ p i t))
