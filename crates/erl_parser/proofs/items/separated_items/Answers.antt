use Rattle.std.proofs.Common.{arith}
use Rattle.std.proofs.lemmas.Result.{err_from_is_err_and}
use Rattle.erl_parser.specs.Forms.{read_items}
use Rattle.erl_parser.specs.Views.{listed}
use Rattle.erl_parser.proofs.ItemLoops.{items_begin, items_step, items_end, items_fail}
use Rattle.erl_parser.proofs.items.separated_items.Goals as goal

pub items-init : goal.items-init
items-init g c = record {
  going = λ reads h. items_begin c.args.separator.now reads _ c.args.tokens.now c.new-found.ensures;
  shorter = omega arith;
}

pub returns-in_err-item-clause-exact : goal.returns-in_err-item-clause-exact
returns-in_err-item-clause-exact g c = λ reads h.
    let p = err_from_is_err_and c.from_residual.result c.from_residual.ensures.1 in
    rw (p.1, p.2) (items_fail c.args.separator.now reads c.in_err-item.field-0.0 (listed c.items.found) c.items.rest.now (read_items c.args.separator.now reads c.args.tokens.now) (c.items.invariant.going reads h) (h _ _ c.in_err-item.ensures))

pub returns-in-None-clause-exact : goal.returns-in-None-clause-exact
returns-in-None-clause-exact g c = λ reads h.
    items_end c.args.separator.now reads (listed c.items.found) c.items.rest.now _ (listed c.push.new.self) c.in_ok-item.item c.in_ok-item.behind.now (c.items.invariant.going reads h) (h _ _ c.in_ok-item.ensures) c.in-None.ensures.exact c.in_ok-push.ensures

pub items-preserved : goal.items-preserved
items-preserved g c =
    let less = c.requires.shorter _ _ c.in_ok-item.ensures in
    record {
      going = λ reads h. items_step c.args.separator.now reads (listed c.items.found) c.items.rest.now _ (listed c.push.new.self) (listed c.separate.new.self) c.in_ok-item.item c.in_ok-item.behind.now c.in-Some.place c.in-Some.behind.now (c.items.invariant.going reads h) (h _ _ c.in_ok-item.ensures) c.in-Some.ensures.exact (omega (arith, less, c.in-Some.ensures.shorter)) c.in_ok-push.ensures c.in_ok-separate-in-Some.ensures;
      shorter = omega (arith, less, c.in-Some.ensures.shorter, c.items.invariant.shorter);
    }
