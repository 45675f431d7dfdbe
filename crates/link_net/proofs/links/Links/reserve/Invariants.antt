use Rattle.link_net.proofs.Nets.{Grows, HasRoomBelow}
use Rattle.link_net.proofs.links.Links.reserve.Given as goal

abbrev pub invariant-loop-to : goal.invariant-loop-to
invariant-loop-to l = Grows l.initial.self l.self × HasRoomBelow l.self l.from l.extra l.to
