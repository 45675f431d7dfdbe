use Rattle.std.proofs.Common.{◌≡◌, ◌∷◌, rules}
use Rattle.link_net.proofs.Sending.{one_left}
use Rattle.link_net.proofs.links.Links.send_all.Goals as goal

pub loop-to-preserved : goal.loop-to-preserved
loop-to-preserved c =
    let before = c.loop-to.to-iterator.rest.items in
    let rest = c.next.new.self.rest.items in
    let is : before ≡ (c.in-Some.to, c.in-Some.bytes) ∷ rest = search rules in
    one_left c.args.from c.in-Some.to c.in-Some.bytes before rest c.args.messages.items c.loop-to.self c.send.new.self c.args.self.now is c.loop-to.invariant c.send.ensures.lists c.send.ensures.spare c.send.ensures.ends
