use Rattle.link_net.proofs.Sending.{AreLeft}
use Rattle.link_net.proofs.links.Links.send_all.Given as goal

abbrev pub invariant-loop-to : goal.invariant-loop-to
invariant-loop-to l = AreLeft l.from l.to-iterator.rest.items l.fn.messages.items l.self l.fn.self
