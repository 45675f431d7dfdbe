use Rattle.std.proofs.Common.{arith}
use Rattle.session_core.proofs.ItemLists.{one_more_item, one_more_identity}
use Rattle.session_core.proofs.items.given_by_all.Goals as goal

pub loop-message-preserved : goal.loop-message-preserved
loop-message-preserved c =
    let l = c.loop-message in
    let i = l.invariant in
    let within = c.loop-message-test.true in
    let known = c.in_ok-given.ensures.identity in
    record {
      conn = i.conn;
      number = omega (arith, i.number);
      items = rw c.in_ok-push.ensures.items (one_more_item c.args.first.conn c.args.member l.id l.identity c.in_ok-given.given.identity c.args.messages.now l.message-index c.message-item.result i.conn (omega (arith, within)) c.message-item.is known l.items.items _ c.in_ok-given.given.item c.in_ok-given.ensures.item i.items);
      identity = one_more_identity c.args.first.conn c.args.member l.id l.identity c.in_ok-given.given.identity c.args.messages.now l.message-index c.message-item.result i.conn (omega (arith, within)) c.message-item.is known _ i.identity;
    }
