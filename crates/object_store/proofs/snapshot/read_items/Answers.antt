use Rattle.std.proofs.Common.{[]}
use Rattle.std.proofs.lemmas.Result.{err_from_is_err_and}
use Rattle.object_store.specs.Reading.{items_at}
use Rattle.object_store.proofs.ReadLoops.{item_goes_on, items_end, items_done}
use Rattle.object_store.proofs.snapshot.read_items.Goals as goal

pub returns-in_err-sized : goal.returns-in_err-sized
returns-in_err-sized c =
    let p = err_from_is_err_and c.from_residual.result c.from_residual.ensures.1 in
    rw (p.1, p.2)
    (items_end c.in_err-sized.field-0.0 c.loop.queue c.args.count c.loop.counter c.loop.from (items_at [] c.args.count c.args.from.now) c.loop-test.true c.in_err-sized.ensures.read c.loop.invariant)

pub loop-preserved : goal.loop-preserved
loop-preserved c =
    rw (c.in_ok-push.ensures.ok, c.in_ok-item.ensures)
    (item_goes_on c.loop.queue c.args.count c.loop.counter c.loop.from c.sized.new.self c.in_ok-sized.field-0.now (items_at [] c.args.count c.args.from.now) c.loop-test.true c.in_ok-sized.ensures.read c.loop.invariant)

pub returns : goal.returns
returns c = items_done c.loop.queue c.args.count c.loop.counter c.loop.from (items_at [] c.args.count c.args.from.now) c.loop-test.false c.loop.invariant
