use Rattle.std.proofs.Common.{◌<◌, length, not, rules}
use Rattle.wait_sets.specs.WaitSets.{is_of, wish}
use Rattle.wait_sets.proofs.Parts.{stayed_more}
use Rattle.wait_sets.proofs.runs.keep_others.Goals as goal

pub loop-i-preserved : goal.loop-i-preserved
loop-i-preserved c =
    let there : c.loop-i.i < length c.loop-i.runs.items = search rules in
    stayed_more wish (λ waiter. not (is_of c.args.conn waiter)) c.args.runs.now.items c.args.waiting.now.items c.loop-i.i c.loop-i.runs.items c.loop-i.start _ _ there c.index-run.ensures c.count_others.ensures c.loop-i.invariant
