use Rattle.std.proofs.Common.{◌≡◌, vec_len, length}
use Rattle.link_net.proofs.Nets.{AreEmpty}
use Rattle.link_net.proofs.links.Links.new.Given as goal

-- so many links, each without messages
abbrev pub invariant-loop : goal.invariant-loop
invariant-loop l = (vec_len l.lanes ≡ l.counter) × (length l.lanes.items ≡ l.counter) × AreEmpty l.lanes.items
