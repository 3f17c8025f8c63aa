use Rattle.std.proofs.Common.{subst}
use Rattle.erl_tree.specs.Lists.{Among}
use Rattle.erl_grammar.specs.Nesting.{nesting_limit}
use Rattle.erl_parser_types.specs.Types.{read_whole_type}
use Rattle.erl_parser_types.proofs.WholeTypes.{read_whole_type-right, read_whole_type-again}
use Rattle.erl_parser_tokens.proofs.ParseLaws.{given-found, given-again, given-too_deep, given-unexpected, given-outside, given-no_outside}
use Rattle.erl_parser_types.proofs.parse.parse_type.Goals as goal

pub returns-clause-found : goal.returns-clause-found
returns-clause-found c = given-found (read_whole_type nesting_limit _) c.whole_type.result (λ t f. (f.formed, f.shallow, f.text)) c.whole_type.ensures.exact (read_whole_type-right nesting_limit _)

pub returns-clause-complete : goal.returns-clause-complete
returns-clause-complete c t i s text = given-again t (read_whole_type nesting_limit _) c.whole_type.result (λ q a. elim (subst (Among q) s a) [ ]) c.whole_type.ensures.exact (read_whole_type-again nesting_limit _ t i text)

pub returns-clause-too_deep : goal.returns-clause-too_deep
returns-clause-too_deep c p e t i text = given-too_deep t (read_whole_type nesting_limit _) c.whole_type.result p e c.whole_type.ensures.exact (read_whole_type-again nesting_limit _ t i text)

pub returns-clause-unexpected : goal.returns-clause-unexpected
returns-clause-unexpected c p e t i text = given-unexpected t (read_whole_type nesting_limit _) c.whole_type.result p e c.whole_type.ensures.exact (read_whole_type-again nesting_limit _ t i text)

pub returns-clause-outside : goal.returns-clause-outside
returns-clause-outside c p form e = (given-outside (read_whole_type nesting_limit _) c.whole_type.result p form e c.whole_type.ensures.exact (read_whole_type-right nesting_limit _), λ t i text. given-no_outside t (read_whole_type nesting_limit _) c.whole_type.result p form e c.whole_type.ensures.exact (read_whole_type-again nesting_limit _ t i text))
