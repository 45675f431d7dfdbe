use Rattle.std.proofs.Common.{[]}
use Rattle.std.proofs.lemmas.Result.{err_from_is_err_and}
use Rattle.master_wire.specs.Reading.{decisions_at}
use Rattle.master_wire.proofs.Loop.{goes_on, ends, is_done}
use Rattle.master_wire.proofs.reading.read_decisions.Goals as goal

pub returns-in_err-decision : goal.returns-in_err-decision
returns-in_err-decision c =
    let p = err_from_is_err_and c.from_residual-in_err-decision.result c.from_residual-in_err-decision.ensures.1 in
    rw (p.1, p.2)
    (ends c.in_err-decision.field-0.0 c.loop.log.items c.args.count c.loop.counter c.loop.from (decisions_at [] c.args.count c.args.from.now) c.loop-test.true c.in_err-decision.ensures c.loop.invariant)

pub loop-preserved : goal.loop-preserved
loop-preserved c =
    rw c.in_ok-push.ensures.items
    (goes_on c.loop.log.items c.args.count c.loop.counter c.loop.from c.read_decision.new.from c.in_ok-decision.decision (decisions_at [] c.args.count c.args.from.now) c.loop-test.true c.in_ok-decision.ensures c.loop.invariant)

pub returns : goal.returns
returns c = is_done c.loop.log.items c.args.count c.loop.counter c.loop.from (decisions_at [] c.args.count c.args.from.now) c.loop-test.false c.loop.invariant
