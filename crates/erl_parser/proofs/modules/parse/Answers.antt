use Rattle.std.proofs.Common.{subst}
use Rattle.erl_tree.specs.Lists.{Among}
use Rattle.erl_grammar.specs.Nesting.{nesting_limit}
use Rattle.erl_parser_tokens.proofs.ParseLaws.{given-found, given-again, given-too_deep, given-unexpected, given-outside, given-no_outside}
use Rattle.erl_parser.specs.Forms.{read_module}
use Rattle.erl_parser.proofs.WholeModules.{read_module-right, again_module}
use Rattle.erl_parser.proofs.modules.parse.Goals as goal

pub returns-clause-found : goal.returns-clause-found
returns-clause-found c = given-found (read_module c.args.tokens.now) c.module.result (λ m f. (f.formed, f.shallow, f.text)) c.module.ensures.exact (read_module-right nesting_limit c.args.tokens.now)

pub returns-clause-complete : goal.returns-clause-complete
returns-clause-complete c m i s t = given-again m (read_module c.args.tokens.now) c.module.result (λ p a. elim (subst (Among p) s a) [ ]) c.module.ensures.exact (again_module nesting_limit c.args.tokens.now m i t)

pub returns-clause-too_deep : goal.returns-clause-too_deep
returns-clause-too_deep c p e m i t = given-too_deep m (read_module c.args.tokens.now) c.module.result p e c.module.ensures.exact (again_module nesting_limit c.args.tokens.now m i t)

pub returns-clause-unexpected : goal.returns-clause-unexpected
returns-clause-unexpected c p e m i t = given-unexpected m (read_module c.args.tokens.now) c.module.result p e c.module.ensures.exact (again_module nesting_limit c.args.tokens.now m i t)

pub returns-clause-outside : goal.returns-clause-outside
returns-clause-outside c p form e = (given-outside (read_module c.args.tokens.now) c.module.result p form e c.module.ensures.exact (read_module-right nesting_limit c.args.tokens.now), λ m i t. given-no_outside m (read_module c.args.tokens.now) c.module.result p form e c.module.ensures.exact (again_module nesting_limit c.args.tokens.now m i t))
