use Rattle.std.proofs.Common.{◌≡◌, ◌∙◌, ◌<◌, refl, ap, get_or, arith}
use Rattle.typespecs_cycles.proofs.ParameterLaws.{refutes}
use Rattle.typespecs_cycles.proofs.UseLaws.{no-path}
use Rattle.typespecs_cycles.proofs.routes.Routes.leads.Goals as goal

pub returns-then-rank_of : goal.returns-then-rank_of
returns-then-rank_of c =
    let a : c.rank_of.result ≡ get_or c.args.self.now.ranks c.args.from 0 = c.rank_of.ensures ∙ ap (λ l. get_or l c.args.from 0) c.as_slice.ensures in
    let b : c.rank_of-then-self.result ≡ get_or c.args.self.now.ranks c.args.to 0 = c.rank_of-then-self.ensures ∙ ap (λ l. get_or l c.args.to 0) c.as_slice-then-self.ensures in
    let lower : c.rank_of.result < c.rank_of-then-self.result = c.if-rank_of.true in
    refutes _ refl (no-path c.args.self.now.graph.items c.args.self.now.ranks (c.args.self.now.ranks_fall c.if-self.true) c.args.from c.args.to (omega arith))
